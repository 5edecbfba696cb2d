-- Programs with all their facts: they meet the rules, each node has just its fact, and the first refusal is the one that is
-- said. Below each program stand its functions, the facts and the first refusal, found by other means.
use Rattle.std.proofs.Common.{◌≡◌, refl, ℕ, zero, suc, ◌+◌, List, [], ◌∷◌, length, Option, Some, None, Bool, true, false, ◌&&◌, ◌||◌, not, if◌then◌else◌, nat_eq}
use Rattle.std.specs.Prelude.{ℤ, pos}
use Rattle.aplc_lex.specs.declared.token.Refusal.{Refusal}
use Rattle.aplc_lex.specs.Firsts.{refusal, earlier}
use Rattle.aplc_scalar.specs.declared.function.ScalarFn.TheVariants as f
use Rattle.aplc_syntax.specs.declared.tree.Axis.TheVariants as ax
use Rattle.aplc_syntax.specs.declared.tree.Primitive.TheVariants as pr
use Rattle.aplc_syntax.specs.PlainTrees.{Numbers, Text, Name, TextInput, NumsInput, Mono, Dyad, Assign, AssignAt, Call, no_more, left_out, and_tree, absent, given}
use Rattle.aplc_names.specs.declared.scope.Scope.{Scope}
use Rattle.aplc_names.specs.declared.scope.Scope.TheVariants as scope
use Rattle.aplc_names.specs.PlainPrograms.{Action, quiet, perform, display, branch, Routine, PlainProgram}
use Rattle.aplc_names.specs.Runs.{line_at}
use Rattle.aplc_infer.specs.declared.fact.FactKind.TheVariants.{Bit, Num, Char, Mixed}
use Rattle.aplc_infer.specs.declared.fact.Inferred.{Inferred}
use Rattle.aplc_infer.specs.declared.fact.Inferred.TheVariants.{Unset, Of}
use Rattle.aplc_infer.specs.declared.cell.Cell.{Cell}
use Rattle.aplc_infer.specs.declared.cell.Cell.TheVariants as cell
use Rattle.aplc_infer.specs.declared.cell.Demand.{Demand}
use Rattle.aplc_infer.specs.Facts.{below}
use Rattle.aplc_infer.specs.Seeing.{Family, Declarations, binding_in, flow_of, leads, local_names, number_in, at}
use Rattle.aplc_infer.specs.Families.{at_entry, seen_line}

-- ---- Programs and families written as lists

abbrev looked : {A : Type 0} → List (ℕ × A) → A → ℕ → A
looked [] other n = other
looked (x ∷ xs) other n = if nat_eq x.0 n then x.1 else looked xs other n

abbrev looked_some : List (ℕ × Inferred) → ℕ → Option Inferred
looked_some [] n = None
looked_some (x ∷ xs) n = if nat_eq x.0 n then Some x.1 else looked_some xs n

abbrev routine : (result left right : Option ℕ) → List (ℕ × Scope) → List Action → Routine
routine r a b sc xs = record { title = []; result = r; left = a; right = b; locals = []; scope = looked sc scope.Global; lines = xs }

abbrev same_cell : Cell → Cell → Bool
same_cell (cell.Node m) (cell.Node n) = nat_eq m n
same_cell (cell.Global m) (cell.Global n) = nat_eq m n
same_cell (cell.Left m) (cell.Left n) = nat_eq m n
same_cell (cell.Right m) (cell.Right n) = nat_eq m n
same_cell (cell.Answer m) (cell.Answer n) = nat_eq m n
same_cell (cell.Start i l k) (cell.Start j m n) = nat_eq i j && nat_eq l m && nat_eq k n
same_cell _ _ = false

abbrev family : List (Cell × Inferred) → Family
family [] c = Unset
family (x ∷ xs) c = if same_cell x.0 c then x.1 else family xs c

-- ---- Whether the rules are met

abbrev is_node : Cell → Bool
is_node (cell.Node n) = true
is_node _ = false

-- what is asked lies below the family's, and a node has no more than that
abbrev met : Family → List Demand → Bool
met g [] = true
met g (x ∷ xs) = below x.fact (g x.cell) && (not (is_node x.cell) || below (g x.cell) x.fact) && met g xs

abbrev each_below : ℕ → (ℕ → Inferred) → (ℕ → Inferred) → Bool
each_below zero f g = true
each_below (suc k) f g = below (f k) (g k) && each_below k f g

abbrev out_below : Family → ℕ → Routine → Option ℕ → List Inferred → Bool
out_below g j r None ns = true
out_below g j r (Some n) ns = below (at ns (number_in n (local_names r))) (g (cell.Answer j))

abbrev line_below : Family → ℕ → Routine → List Inferred → ℕ → Option Action → Bool
line_below g j r ns l None = out_below g j r r.result ns
line_below g j r ns l (Some x) = each_below (length ns) (at ns) (λ k. g (cell.Start j l k))

abbrev arrives : Family → ℕ → Routine → List Inferred → ℕ → Bool
arrives g j r ns l = line_below g j r ns l (line_at r.lines l)

-- at lines below n
abbrev flows : Family → ℕ → Routine → (ℕ → Bool) → List Inferred → ℕ → Bool
flows g j r to ns zero = true
flows g j r to ns (suc m) = (not (to m) || arrives g j r ns m) && flows g j r to ns m

abbrev line_meets : Declarations → PlainProgram → Family → ℕ → Routine → ℕ → Action → Bool
line_meets d p g j r l x =
    let w = seen_line d p g j r l x in
    met g w.demands && flows g j r (leads (flow_of (binding_in r) x) l) w.names (length r.lines + 2)

abbrev lines_meet : Declarations → PlainProgram → Family → ℕ → Routine → ℕ → List Action → Bool
lines_meet d p g j r l [] = true
lines_meet d p g j r l (x ∷ xs) = line_meets d p g j r l x && lines_meet d p g j r (l + 1) xs

abbrev routines_meet : Declarations → PlainProgram → Family → ℕ → List Routine → Bool
routines_meet d p g j [] = true
routines_meet d p g j (r ∷ rs) = arrives g j r (at_entry g j r) 1 && lines_meet d p g j r 1 r.lines && routines_meet d p g (j + 1) rs

-- ---- The first refusal

abbrev first_of : List Refusal → Option Refusal
first_of [] = None
first_of (r ∷ rs) = earlier (Some r) (first_of rs)

abbrev lines_first : Declarations → PlainProgram → Family → ℕ → Routine → ℕ → List Action → Option Refusal
lines_first d p g j r l [] = None
lines_first d p g j r l (x ∷ xs) = earlier (first_of (seen_line d p g j r l x).refused) (lines_first d p g j r (l + 1) xs)

abbrev routines_first : Declarations → PlainProgram → Family → ℕ → List Routine → Option Refusal
routines_first d p g j [] = None
routines_first d p g j (r ∷ rs) = earlier (lines_first d p g j r 1 r.lines) (routines_first d p g (j + 1) rs)

abbrev whole : ℤ → List Routine → PlainProgram
whole o rs = record { origin = o; routines = rs; start = None }

abbrev agrees : List (ℕ × Inferred) → ℤ → List Routine → List (Cell × Inferred) → Option Refusal → Type 0
agrees ds o rs cs r = (routines_meet (looked_some ds) (whole o rs) (family cs) 0 rs ≡ true) × (routines_first (looked_some ds) (whole o rs) (family cs) 0 rs ≡ r)

-- ---- Programs

-- ∇MAIN;A | A←1 | L:A | A←A+1 1 | →L | ∇
program0 : agrees ([]) (pos 1) (routine (None) (None) (None) ((0, scope.Local) ∷ (1, scope.Label (pos 2)) ∷ (2, scope.Function 0) ∷ []) (quiet (Assign 10 10 0 (Numbers 14 14 (pos 1 ∷ []))) ∷ display (Name 18 18 0) ∷ quiet (Assign 20 20 0 (Dyad 25 25 (pr.Scalar f.Add) (Name 24 24 0) (Numbers 26 26 (pos 1 ∷ pos 1 ∷ [])))) ∷ branch 30 (Name 33 33 1) ∷ []) ∷ []) ((cell.Node 14, (Of Bit (Some ([])))) ∷ (cell.Node 10, (Of Bit (Some ([])))) ∷ (cell.Node 18, (Of Mixed None)) ∷ (cell.Node 26, (Of Bit (Some (Some 2 ∷ [])))) ∷ (cell.Node 24, (Of Mixed None)) ∷ (cell.Node 25, (Of Mixed None)) ∷ (cell.Node 20, (Of Mixed None)) ∷ (cell.Node 33, (Of Num (Some ([])))) ∷ (cell.Start 0 2 0, (Of Mixed None)) ∷ (cell.Start 0 3 0, (Of Mixed None)) ∷ (cell.Start 0 4 0, (Of Mixed None)) ∷ []) (Some (refusal 17 18))
program0 = (refl, refl)

-- ∇MAIN;A | A←1 | →3 | A←'x' | A | ∇
program1 : agrees ([]) (pos 1) (routine (None) (None) (None) ((0, scope.Local) ∷ (1, scope.Function 0) ∷ []) (quiet (Assign 10 10 0 (Numbers 14 14 (pos 1 ∷ []))) ∷ branch 16 (Numbers 19 19 (pos 3 ∷ [])) ∷ quiet (Assign 21 21 0 (Text 25 25 (97 ∷ []))) ∷ display (Name 29 29 0) ∷ []) ∷ []) ((cell.Node 14, (Of Bit (Some ([])))) ∷ (cell.Node 10, (Of Bit (Some ([])))) ∷ (cell.Node 19, (Of Num (Some ([])))) ∷ (cell.Node 25, (Of Char (Some ([])))) ∷ (cell.Node 21, (Of Char (Some ([])))) ∷ (cell.Node 29, (Of Char (Some ([])))) ∷ (cell.Start 0 2 0, (Of Bit (Some ([])))) ∷ (cell.Start 0 3 0, (Of Bit (Some ([])))) ∷ (cell.Start 0 4 0, (Of Char (Some ([])))) ∷ []) (None)
program1 = (refl, refl)

-- ∇MAIN;A | A←1 2 | →(A=0)/L | A←3 4 5 | L:A | ∇
program2 : agrees ([]) (pos 1) (routine (None) (None) (None) ((0, scope.Local) ∷ (1, scope.Label (pos 4)) ∷ (2, scope.Function 0) ∷ []) (quiet (Assign 10 10 0 (Numbers 14 14 (pos 1 ∷ pos 2 ∷ []))) ∷ branch 18 (Dyad 26 26 (pr.Replicate ax.Last) (Dyad 23 23 (pr.Scalar f.Equal) (Name 22 22 0) (Numbers 24 24 (pos 0 ∷ []))) (Name 27 27 1)) ∷ quiet (Assign 29 29 0 (Numbers 33 33 (pos 3 ∷ pos 4 ∷ pos 5 ∷ []))) ∷ display (Name 41 41 0) ∷ []) ∷ []) ((cell.Node 14, (Of Num (Some (Some 2 ∷ [])))) ∷ (cell.Node 10, (Of Num (Some (Some 2 ∷ [])))) ∷ (cell.Node 27, (Of Num (Some ([])))) ∷ (cell.Node 24, (Of Bit (Some ([])))) ∷ (cell.Node 22, (Of Num (Some (Some 2 ∷ [])))) ∷ (cell.Node 23, (Of Bit (Some (Some 2 ∷ [])))) ∷ (cell.Node 26, (Of Num (Some (None ∷ [])))) ∷ (cell.Node 33, (Of Num (Some (Some 3 ∷ [])))) ∷ (cell.Node 29, (Of Num (Some (Some 3 ∷ [])))) ∷ (cell.Node 41, (Of Num (Some (None ∷ [])))) ∷ (cell.Start 0 2 0, (Of Num (Some (Some 2 ∷ [])))) ∷ (cell.Start 0 3 0, (Of Num (Some (Some 2 ∷ [])))) ∷ (cell.Start 0 4 0, (Of Num (Some (None ∷ [])))) ∷ []) (None)
program2 = (refl, refl)

-- ∇MAIN;A | A←1 | →A | A←'x' | A | ∇
program3 : agrees ([]) (pos 1) (routine (None) (None) (None) ((0, scope.Local) ∷ (1, scope.Function 0) ∷ []) (quiet (Assign 10 10 0 (Numbers 14 14 (pos 1 ∷ []))) ∷ branch 16 (Name 19 19 0) ∷ quiet (Assign 21 21 0 (Text 25 25 (97 ∷ []))) ∷ display (Name 29 29 0) ∷ []) ∷ []) ((cell.Node 14, (Of Bit (Some ([])))) ∷ (cell.Node 10, (Of Bit (Some ([])))) ∷ (cell.Node 19, (Of Bit (Some ([])))) ∷ (cell.Node 25, (Of Char (Some ([])))) ∷ (cell.Node 21, (Of Char (Some ([])))) ∷ (cell.Node 29, (Of Mixed (Some ([])))) ∷ (cell.Start 0 1 0, (Of Bit (Some ([])))) ∷ (cell.Start 0 2 0, (Of Bit (Some ([])))) ∷ (cell.Start 0 3 0, (Of Bit (Some ([])))) ∷ (cell.Start 0 4 0, (Of Mixed (Some ([])))) ∷ []) (Some (refusal 17 29))
program3 = (refl, refl)

-- ∇MAIN | F 1 | F 2 3 | ∇ | ∇F X | 2 | ∇
program4 : agrees ([]) (pos 1) (routine (None) (None) (None) ((0, scope.Function 1) ∷ (1, scope.Function 0) ∷ []) (perform 8 8 0 absent (given (Numbers 10 10 (pos 1 ∷ []))) ∷ perform 12 12 0 absent (given (Numbers 14 14 (pos 2 ∷ pos 3 ∷ []))) ∷ []) ∷ routine (None) (None) (Some 2) ((0, scope.Function 1) ∷ (1, scope.Function 0) ∷ (2, scope.Local) ∷ []) (display (Numbers 29 29 (pos 2 ∷ [])) ∷ []) ∷ []) ((cell.Node 10, (Of Bit (Some ([])))) ∷ (cell.Right 1, (Of Num None)) ∷ (cell.Node 14, (Of Num (Some (Some 2 ∷ [])))) ∷ (cell.Node 29, (Of Num (Some ([])))) ∷ (cell.Start 1 1 0, (Of Num None)) ∷ []) (None)
program4 = (refl, refl)

-- ∇MAIN | F 1 | F 2 3 | ∇ | ∇F X | X | ∇
program5 : agrees ([]) (pos 1) (routine (None) (None) (None) ((0, scope.Function 1) ∷ (2, scope.Function 0) ∷ []) (perform 8 8 0 absent (given (Numbers 10 10 (pos 1 ∷ []))) ∷ perform 12 12 0 absent (given (Numbers 14 14 (pos 2 ∷ pos 3 ∷ []))) ∷ []) ∷ routine (None) (None) (Some 1) ((0, scope.Function 1) ∷ (1, scope.Local) ∷ (2, scope.Function 0) ∷ []) (display (Name 29 29 1) ∷ []) ∷ []) ((cell.Node 10, (Of Bit (Some ([])))) ∷ (cell.Right 1, (Of Num None)) ∷ (cell.Node 14, (Of Num (Some (Some 2 ∷ [])))) ∷ (cell.Node 29, (Of Num None)) ∷ (cell.Start 1 1 0, (Of Num None)) ∷ []) (Some (refusal 18 29))
program5 = (refl, refl)

-- ∇MAIN | 1+F 0 | ∇ | ∇R←F X | →(X=0)/L | R←5 | →0 | L:R←1 2 | ∇
program6 : agrees ([]) (pos 1) (routine (None) (None) (None) ((0, scope.Function 1) ∷ (4, scope.Function 0) ∷ []) (display (Dyad 9 9 (pr.Scalar f.Add) (Numbers 8 8 (pos 1 ∷ [])) (Call 10 10 0 absent (given (Numbers 12 12 (pos 0 ∷ []))))) ∷ []) ∷ routine (Some 3) (None) (Some 1) ((0, scope.Function 1) ∷ (1, scope.Local) ∷ (2, scope.Label (pos 4)) ∷ (3, scope.Local) ∷ (4, scope.Function 0) ∷ []) (branch 29 (Dyad 37 37 (pr.Replicate ax.Last) (Dyad 34 34 (pr.Scalar f.Equal) (Name 33 33 1) (Numbers 35 35 (pos 0 ∷ []))) (Name 38 38 2)) ∷ quiet (Assign 40 40 3 (Numbers 44 44 (pos 5 ∷ []))) ∷ branch 46 (Numbers 49 49 (pos 0 ∷ [])) ∷ quiet (Assign 53 53 3 (Numbers 57 57 (pos 1 ∷ pos 2 ∷ []))) ∷ []) ∷ []) ((cell.Node 12, (Of Bit (Some ([])))) ∷ (cell.Right 1, (Of Bit (Some ([])))) ∷ (cell.Node 8, (Of Bit (Some ([])))) ∷ (cell.Node 38, (Of Num (Some ([])))) ∷ (cell.Node 35, (Of Bit (Some ([])))) ∷ (cell.Node 33, (Of Bit (Some ([])))) ∷ (cell.Node 34, (Of Bit (Some ([])))) ∷ (cell.Node 37, (Of Num (Some (None ∷ [])))) ∷ (cell.Node 44, (Of Num (Some ([])))) ∷ (cell.Node 40, (Of Num (Some ([])))) ∷ (cell.Node 49, (Of Bit (Some ([])))) ∷ (cell.Answer 1, (Of Num None)) ∷ (cell.Node 57, (Of Num (Some (Some 2 ∷ [])))) ∷ (cell.Node 53, (Of Num (Some (Some 2 ∷ [])))) ∷ (cell.Node 10, (Of Num None)) ∷ (cell.Node 9, (Of Mixed None)) ∷ (cell.Start 1 1 1, (Of Bit (Some ([])))) ∷ (cell.Start 1 2 1, (Of Bit (Some ([])))) ∷ (cell.Start 1 3 1, (Of Bit (Some ([])))) ∷ (cell.Start 1 3 0, (Of Num (Some ([])))) ∷ (cell.Start 1 4 1, (Of Bit (Some ([])))) ∷ []) (Some (refusal 18 10))
program6 = (refl, refl)

-- ∇MAIN | A←1 | G | A | ∇ | ∇G | A←2 3 | ∇
program7 : agrees ([]) (pos 1) (routine (None) (None) (None) ((1, scope.Function 1) ∷ (2, scope.Function 0) ∷ []) (quiet (Assign 8 8 0 (Numbers 12 12 (pos 1 ∷ []))) ∷ perform 14 14 1 absent absent ∷ display (Name 16 16 0) ∷ []) ∷ routine (None) (None) (None) ((1, scope.Function 1) ∷ (2, scope.Function 0) ∷ []) (quiet (Assign 27 27 0 (Numbers 31 31 (pos 2 ∷ pos 3 ∷ []))) ∷ []) ∷ []) ((cell.Node 12, (Of Bit (Some ([])))) ∷ (cell.Global 0, (Of Num None)) ∷ (cell.Node 8, (Of Bit (Some ([])))) ∷ (cell.Node 16, (Of Num None)) ∷ (cell.Node 31, (Of Num (Some (Some 2 ∷ [])))) ∷ (cell.Node 27, (Of Num (Some (Some 2 ∷ [])))) ∷ []) (Some (refusal 18 16))
program7 = (refl, refl)

-- VAR A NUM RANK 1 | ∇MAIN | A←1 0 | A | A[1]←5 | A | ∇
program8 : agrees ((0, Of Num (Some (None ∷ []))) ∷ []) (pos 1) (routine (None) (None) (None) ((1, scope.Function 0) ∷ []) (quiet (Assign 25 25 0 (Numbers 29 29 (pos 1 ∷ pos 0 ∷ []))) ∷ display (Name 33 33 0) ∷ quiet (AssignAt 35 35 0 (and_tree (Numbers 37 37 (pos 1 ∷ [])) no_more) (Numbers 42 42 (pos 5 ∷ []))) ∷ display (Name 44 44 0) ∷ []) ∷ []) ((cell.Node 29, (Of Bit (Some (Some 2 ∷ [])))) ∷ (cell.Node 25, (Of Bit (Some (Some 2 ∷ [])))) ∷ (cell.Node 33, (Of Num (Some (None ∷ [])))) ∷ (cell.Node 42, (Of Num (Some ([])))) ∷ (cell.Node 37, (Of Bit (Some ([])))) ∷ (cell.Node 35, (Of Num (Some ([])))) ∷ (cell.Node 44, (Of Num (Some (None ∷ [])))) ∷ []) (None)
program8 = (refl, refl)

-- VAR A NUM RANK 1 | ∇MAIN | A←1 | ∇
program9 : agrees ((0, Of Num (Some (None ∷ []))) ∷ []) (pos 1) (routine (None) (None) (None) ((1, scope.Function 0) ∷ []) (quiet (Assign 25 25 0 (Numbers 29 29 (pos 1 ∷ []))) ∷ []) ∷ []) ((cell.Node 29, (Of Bit (Some ([])))) ∷ (cell.Node 25, (Of Mixed None)) ∷ []) (Some (refusal 21 25))
program9 = (refl, refl)

-- ∇MAIN | A←1 0 1 | A[2]←7 | A | ∇
program10 : agrees ([]) (pos 1) (routine (None) (None) (None) ((1, scope.Function 0) ∷ []) (quiet (Assign 8 8 0 (Numbers 12 12 (pos 1 ∷ pos 0 ∷ pos 1 ∷ []))) ∷ quiet (AssignAt 18 18 0 (and_tree (Numbers 20 20 (pos 2 ∷ [])) no_more) (Numbers 25 25 (pos 7 ∷ []))) ∷ display (Name 27 27 0) ∷ []) ∷ []) ((cell.Node 12, (Of Bit (Some (Some 3 ∷ [])))) ∷ (cell.Global 0, (Of Num (Some (Some 3 ∷ [])))) ∷ (cell.Node 8, (Of Bit (Some (Some 3 ∷ [])))) ∷ (cell.Node 25, (Of Num (Some ([])))) ∷ (cell.Node 20, (Of Num (Some ([])))) ∷ (cell.Node 18, (Of Num (Some ([])))) ∷ (cell.Node 27, (Of Num (Some (Some 3 ∷ [])))) ∷ []) (None)
program10 = (refl, refl)

-- ∇MAIN | A[1]←7 | A | ∇
program11 : agrees ([]) (pos 1) (routine (None) (None) (None) ((1, scope.Function 0) ∷ []) (quiet (AssignAt 8 8 0 (and_tree (Numbers 10 10 (pos 1 ∷ [])) no_more) (Numbers 15 15 (pos 7 ∷ []))) ∷ display (Name 17 17 0) ∷ []) ∷ []) ((cell.Node 15, (Of Num (Some ([])))) ∷ (cell.Node 10, (Of Bit (Some ([])))) ∷ []) (None)
program11 = (refl, refl)

-- ∇MAIN | (2 2⍴1)+1 2 | ∇
program12 : agrees ([]) (pos 1) (routine (None) (None) (None) ((0, scope.Function 0) ∷ []) (display (Dyad 17 17 (pr.Scalar f.Add) (Dyad 12 12 pr.Shape (Numbers 9 9 (pos 2 ∷ pos 2 ∷ [])) (Numbers 15 15 (pos 1 ∷ []))) (Numbers 18 18 (pos 1 ∷ pos 2 ∷ []))) ∷ []) ∷ []) ((cell.Node 18, (Of Num (Some (Some 2 ∷ [])))) ∷ (cell.Node 15, (Of Bit (Some ([])))) ∷ (cell.Node 9, (Of Num (Some (Some 2 ∷ [])))) ∷ (cell.Node 12, (Of Bit (Some (Some 2 ∷ Some 2 ∷ [])))) ∷ (cell.Node 17, (Of Mixed None)) ∷ []) (Some (refusal 18 17))
program12 = (refl, refl)

-- ∇MAIN | (⎕NUMS)⍴5 | ∇
program13 : agrees ([]) (pos 1) (routine (None) (None) (None) ((0, scope.Function 0) ∷ []) (display (Dyad 17 17 pr.Shape (NumsInput 9 9) (Numbers 20 20 (pos 5 ∷ []))) ∷ []) ∷ []) ((cell.Node 20, (Of Num (Some ([])))) ∷ (cell.Node 9, (Of Num (Some (None ∷ [])))) ∷ (cell.Node 17, (Of Mixed None)) ∷ []) (Some (refusal 19 17))
program13 = (refl, refl)

-- ∇MAIN | L:L+⍴2 3⍴L | ∇
program14 : agrees ([]) (pos 1) (routine (None) (None) (None) ((0, scope.Label (pos 1)) ∷ (1, scope.Function 0) ∷ []) (display (Dyad 11 11 (pr.Scalar f.Add) (Name 10 10 0) (Mono 12 12 pr.Shape (Dyad 18 18 pr.Shape (Numbers 15 15 (pos 2 ∷ pos 3 ∷ [])) (Name 21 21 0)))) ∷ []) ∷ []) ((cell.Node 21, (Of Num (Some ([])))) ∷ (cell.Node 15, (Of Num (Some (Some 2 ∷ [])))) ∷ (cell.Node 18, (Of Num (Some (Some 2 ∷ Some 3 ∷ [])))) ∷ (cell.Node 12, (Of Num (Some (Some 2 ∷ [])))) ∷ (cell.Node 10, (Of Num (Some ([])))) ∷ (cell.Node 11, (Of Num (Some (Some 2 ∷ [])))) ∷ []) (None)
program14 = (refl, refl)

-- ∇MAIN | ,2 3⍴⍳6 | 1 1⍉3 3⍴⍳9 | 2 1⍉2 3⍴⍳6 | ∇
program15 : agrees ([]) (pos 1) (routine (None) (None) (None) ((0, scope.Function 0) ∷ []) (display (Mono 8 8 pr.Ravel (Dyad 12 12 pr.Shape (Numbers 9 9 (pos 2 ∷ pos 3 ∷ [])) (Mono 15 15 pr.Iota (Numbers 18 18 (pos 6 ∷ []))))) ∷ display (Dyad 23 23 pr.Transpose (Numbers 20 20 (pos 1 ∷ pos 1 ∷ [])) (Dyad 29 29 pr.Shape (Numbers 26 26 (pos 3 ∷ pos 3 ∷ [])) (Mono 32 32 pr.Iota (Numbers 35 35 (pos 9 ∷ []))))) ∷ display (Dyad 40 40 pr.Transpose (Numbers 37 37 (pos 2 ∷ pos 1 ∷ [])) (Dyad 46 46 pr.Shape (Numbers 43 43 (pos 2 ∷ pos 3 ∷ [])) (Mono 49 49 pr.Iota (Numbers 52 52 (pos 6 ∷ []))))) ∷ []) ∷ []) ((cell.Node 18, (Of Num (Some ([])))) ∷ (cell.Node 15, (Of Num (Some (Some 6 ∷ [])))) ∷ (cell.Node 9, (Of Num (Some (Some 2 ∷ [])))) ∷ (cell.Node 12, (Of Num (Some (Some 2 ∷ Some 3 ∷ [])))) ∷ (cell.Node 8, (Of Num (Some (Some 6 ∷ [])))) ∷ (cell.Node 35, (Of Num (Some ([])))) ∷ (cell.Node 32, (Of Num (Some (Some 9 ∷ [])))) ∷ (cell.Node 26, (Of Num (Some (Some 2 ∷ [])))) ∷ (cell.Node 29, (Of Num (Some (Some 3 ∷ Some 3 ∷ [])))) ∷ (cell.Node 20, (Of Bit (Some (Some 2 ∷ [])))) ∷ (cell.Node 23, (Of Num (Some (Some 3 ∷ [])))) ∷ (cell.Node 52, (Of Num (Some ([])))) ∷ (cell.Node 49, (Of Num (Some (Some 6 ∷ [])))) ∷ (cell.Node 43, (Of Num (Some (Some 2 ∷ [])))) ∷ (cell.Node 46, (Of Num (Some (Some 2 ∷ Some 3 ∷ [])))) ∷ (cell.Node 37, (Of Num (Some (Some 2 ∷ [])))) ∷ (cell.Node 40, (Of Num (Some (Some 3 ∷ Some 2 ∷ [])))) ∷ []) (None)
program15 = (refl, refl)

-- ∇MAIN | 1 2∘.×1 2 3 | (2 3⍴⍳6)+.×3 2⍴⍳6 | 1 0∧.=1 0 | ∇
program16 : agrees ([]) (pos 1) (routine (None) (None) (None) ((0, scope.Function 0) ∷ []) (display (Dyad 11 11 (pr.Outer f.Mul) (Numbers 8 8 (pos 1 ∷ pos 2 ∷ [])) (Numbers 17 17 (pos 1 ∷ pos 2 ∷ pos 3 ∷ []))) ∷ display (Dyad 35 35 (pr.Inner f.Add f.Mul) (Dyad 27 27 pr.Shape (Numbers 24 24 (pos 2 ∷ pos 3 ∷ [])) (Mono 30 30 pr.Iota (Numbers 33 33 (pos 6 ∷ [])))) (Dyad 42 42 pr.Shape (Numbers 39 39 (pos 3 ∷ pos 2 ∷ [])) (Mono 45 45 pr.Iota (Numbers 48 48 (pos 6 ∷ []))))) ∷ display (Dyad 53 53 (pr.Inner f.And f.Equal) (Numbers 50 50 (pos 1 ∷ pos 0 ∷ [])) (Numbers 58 58 (pos 1 ∷ pos 0 ∷ []))) ∷ []) ∷ []) ((cell.Node 17, (Of Num (Some (Some 3 ∷ [])))) ∷ (cell.Node 8, (Of Num (Some (Some 2 ∷ [])))) ∷ (cell.Node 11, (Of Num (Some (Some 2 ∷ Some 3 ∷ [])))) ∷ (cell.Node 48, (Of Num (Some ([])))) ∷ (cell.Node 45, (Of Num (Some (Some 6 ∷ [])))) ∷ (cell.Node 39, (Of Num (Some (Some 2 ∷ [])))) ∷ (cell.Node 42, (Of Num (Some (Some 3 ∷ Some 2 ∷ [])))) ∷ (cell.Node 33, (Of Num (Some ([])))) ∷ (cell.Node 30, (Of Num (Some (Some 6 ∷ [])))) ∷ (cell.Node 24, (Of Num (Some (Some 2 ∷ [])))) ∷ (cell.Node 27, (Of Num (Some (Some 2 ∷ Some 3 ∷ [])))) ∷ (cell.Node 35, (Of Num (Some (Some 2 ∷ Some 2 ∷ [])))) ∷ (cell.Node 58, (Of Bit (Some (Some 2 ∷ [])))) ∷ (cell.Node 50, (Of Bit (Some (Some 2 ∷ [])))) ∷ (cell.Node 53, (Of Bit (Some ([])))) ∷ []) (None)
program16 = (refl, refl)

-- ∇MAIN | →(⍞)/L | L:1 | ∇
program17 : agrees ([]) (pos 1) (routine (None) (None) (None) ((0, scope.Label (pos 2)) ∷ (1, scope.Function 0) ∷ []) (branch 8 (Dyad 16 16 (pr.Replicate ax.Last) (TextInput 12 12) (Name 17 17 0)) ∷ display (Numbers 21 21 (pos 1 ∷ [])) ∷ []) ∷ []) ((cell.Node 17, (Of Num (Some ([])))) ∷ (cell.Node 12, (Of Char (Some (None ∷ [])))) ∷ (cell.Node 16, (Of Mixed None)) ∷ (cell.Node 21, (Of Bit (Some ([])))) ∷ []) (Some (refusal 17 16))
program17 = (refl, refl)

-- ∇MAIN | F 'abc'+1 | ∇ | ∇R←F B | R←B | ∇
program18 : agrees ([]) (pos 1) (routine (None) (None) (None) ((0, scope.Function 1) ∷ (3, scope.Function 0) ∷ []) (display (Call 8 8 0 absent (given (Dyad 15 15 (pr.Scalar f.Add) (Text 10 10 (97 ∷ 97 ∷ 97 ∷ [])) (Numbers 16 16 (pos 1 ∷ []))))) ∷ []) ∷ routine (Some 1) (None) (Some 2) ((0, scope.Function 1) ∷ (1, scope.Local) ∷ (2, scope.Local) ∷ (3, scope.Function 0) ∷ []) (quiet (Assign 33 33 1 (Name 37 37 2)) ∷ []) ∷ []) ((cell.Node 16, (Of Bit (Some ([])))) ∷ (cell.Node 10, (Of Char (Some (Some 3 ∷ [])))) ∷ (cell.Node 15, (Of Mixed None)) ∷ (cell.Right 1, (Of Mixed None)) ∷ (cell.Node 8, (Of Mixed None)) ∷ (cell.Node 37, (Of Mixed None)) ∷ (cell.Node 33, (Of Mixed None)) ∷ (cell.Answer 1, (Of Mixed None)) ∷ (cell.Start 1 1 1, (Of Mixed None)) ∷ []) (Some (refusal 17 8))
program18 = (refl, refl)

-- ∇MAIN | A←1|A←A,2|A | ∇
program19 : agrees ([]) (pos 1) (routine (None) (None) (None) ((1, scope.Function 0) ∷ []) (quiet (Assign 8 8 0 (Dyad 13 13 (pr.Scalar f.Residue) (Numbers 12 12 (pos 1 ∷ [])) (Assign 14 14 0 (Dyad 19 19 pr.Ravel (Name 18 18 0) (Dyad 21 21 (pr.Scalar f.Residue) (Numbers 20 20 (pos 2 ∷ [])) (Name 22 22 0)))))) ∷ []) ∷ []) ((cell.Node 20, (Of Num (Some ([])))) ∷ (cell.Node 12, (Of Bit (Some ([])))) ∷ []) (None)
program19 = (refl, refl)

-- ∇MAIN | FIB 5 | ∇ | ∇R←FIB N | R←1 | →(N<2)/0 | R←(FIB N-1)+FIB N-2 | ∇
program20 : agrees ([]) (pos 1) (routine (None) (None) (None) ((0, scope.Function 1) ∷ (3, scope.Function 0) ∷ []) (display (Call 8 8 0 absent (given (Numbers 12 12 (pos 5 ∷ [])))) ∷ []) ∷ routine (Some 1) (None) (Some 2) ((0, scope.Function 1) ∷ (1, scope.Local) ∷ (2, scope.Local) ∷ (3, scope.Function 0) ∷ []) (quiet (Assign 31 31 1 (Numbers 35 35 (pos 1 ∷ []))) ∷ branch 37 (Dyad 45 45 (pr.Replicate ax.Last) (Dyad 42 42 (pr.Scalar f.Less) (Name 41 41 2) (Numbers 43 43 (pos 2 ∷ []))) (Numbers 46 46 (pos 0 ∷ []))) ∷ quiet (Assign 48 48 1 (Dyad 61 61 (pr.Scalar f.Add) (Call 53 53 0 absent (given (Dyad 58 58 (pr.Scalar f.Sub) (Name 57 57 2) (Numbers 59 59 (pos 1 ∷ []))))) (Call 62 62 0 absent (given (Dyad 67 67 (pr.Scalar f.Sub) (Name 66 66 2) (Numbers 68 68 (pos 2 ∷ []))))))) ∷ []) ∷ []) ((cell.Node 12, (Of Num (Some ([])))) ∷ (cell.Right 1, (Of Num (Some ([])))) ∷ (cell.Node 35, (Of Bit (Some ([])))) ∷ (cell.Node 31, (Of Bit (Some ([])))) ∷ (cell.Node 46, (Of Bit (Some ([])))) ∷ (cell.Node 43, (Of Num (Some ([])))) ∷ (cell.Node 41, (Of Num (Some ([])))) ∷ (cell.Node 42, (Of Bit (Some ([])))) ∷ (cell.Node 45, (Of Bit (Some (None ∷ [])))) ∷ (cell.Answer 1, (Of Num (Some ([])))) ∷ (cell.Node 68, (Of Num (Some ([])))) ∷ (cell.Node 66, (Of Num (Some ([])))) ∷ (cell.Node 67, (Of Num (Some ([])))) ∷ (cell.Node 62, (Of Num (Some ([])))) ∷ (cell.Node 59, (Of Bit (Some ([])))) ∷ (cell.Node 57, (Of Num (Some ([])))) ∷ (cell.Node 58, (Of Num (Some ([])))) ∷ (cell.Node 53, (Of Num (Some ([])))) ∷ (cell.Node 61, (Of Num (Some ([])))) ∷ (cell.Node 48, (Of Num (Some ([])))) ∷ (cell.Node 8, (Of Num (Some ([])))) ∷ (cell.Start 1 1 1, (Of Num (Some ([])))) ∷ (cell.Start 1 1 0, (Of Bit (Some ([])))) ∷ (cell.Start 1 2 1, (Of Num (Some ([])))) ∷ (cell.Start 1 2 0, (Of Bit (Some ([])))) ∷ (cell.Start 1 3 1, (Of Num (Some ([])))) ∷ (cell.Start 1 3 0, (Of Bit (Some ([])))) ∷ []) (None)
program20 = (refl, refl)

-- ∇MAIN | X←F 3 | X | ∇ | ∇R←F N | →N | ∇
program21 : agrees ([]) (pos 1) (routine (None) (None) (None) ((1, scope.Function 1) ∷ (3, scope.Function 0) ∷ []) (quiet (Assign 8 8 0 (Call 12 12 1 absent (given (Numbers 14 14 (pos 3 ∷ []))))) ∷ display (Name 16 16 0) ∷ []) ∷ routine (Some 4) (None) (Some 2) ((1, scope.Function 1) ∷ (2, scope.Local) ∷ (3, scope.Function 0) ∷ (4, scope.Local) ∷ []) (branch 33 (Name 36 36 2) ∷ []) ∷ []) ((cell.Node 14, (Of Num (Some ([])))) ∷ (cell.Right 1, (Of Num (Some ([])))) ∷ (cell.Node 36, (Of Num (Some ([])))) ∷ (cell.Start 1 1 1, (Of Num (Some ([])))) ∷ []) (None)
program21 = (refl, refl)

-- ORIGIN 0 | ∇MAIN | +/[0]2 3⍴⍳6 | 1 0⍉2 3⍴⍳6 | 2 1⍉2 3⍴⍳6 | ∇
program22 : agrees ([]) (pos 0) (routine (None) (None) (None) ((0, scope.Function 0) ∷ []) (display (Mono 17 17 (pr.Reduce f.Add (ax.At (pos 0))) (Dyad 25 25 pr.Shape (Numbers 22 22 (pos 2 ∷ pos 3 ∷ [])) (Mono 28 28 pr.Iota (Numbers 31 31 (pos 6 ∷ []))))) ∷ display (Dyad 36 36 pr.Transpose (Numbers 33 33 (pos 1 ∷ pos 0 ∷ [])) (Dyad 42 42 pr.Shape (Numbers 39 39 (pos 2 ∷ pos 3 ∷ [])) (Mono 45 45 pr.Iota (Numbers 48 48 (pos 6 ∷ []))))) ∷ display (Dyad 53 53 pr.Transpose (Numbers 50 50 (pos 2 ∷ pos 1 ∷ [])) (Dyad 59 59 pr.Shape (Numbers 56 56 (pos 2 ∷ pos 3 ∷ [])) (Mono 62 62 pr.Iota (Numbers 65 65 (pos 6 ∷ []))))) ∷ []) ∷ []) ((cell.Node 31, (Of Num (Some ([])))) ∷ (cell.Node 28, (Of Num (Some (Some 6 ∷ [])))) ∷ (cell.Node 22, (Of Num (Some (Some 2 ∷ [])))) ∷ (cell.Node 25, (Of Num (Some (Some 2 ∷ Some 3 ∷ [])))) ∷ (cell.Node 17, (Of Num (Some (Some 3 ∷ [])))) ∷ (cell.Node 48, (Of Num (Some ([])))) ∷ (cell.Node 45, (Of Num (Some (Some 6 ∷ [])))) ∷ (cell.Node 39, (Of Num (Some (Some 2 ∷ [])))) ∷ (cell.Node 42, (Of Num (Some (Some 2 ∷ Some 3 ∷ [])))) ∷ (cell.Node 33, (Of Bit (Some (Some 2 ∷ [])))) ∷ (cell.Node 36, (Of Num (Some (Some 3 ∷ Some 2 ∷ [])))) ∷ (cell.Node 65, (Of Num (Some ([])))) ∷ (cell.Node 62, (Of Num (Some (Some 6 ∷ [])))) ∷ (cell.Node 56, (Of Num (Some (Some 2 ∷ [])))) ∷ (cell.Node 59, (Of Num (Some (Some 2 ∷ Some 3 ∷ [])))) ∷ (cell.Node 50, (Of Num (Some (Some 2 ∷ [])))) ∷ (cell.Node 53, (Of Mixed None)) ∷ []) (Some (refusal 22 53))
program22 = (refl, refl)

-- ∇MAIN | A←3 3⍴0 | A[1;2]←5 | A[;1]←'x' | ∇
program23 : agrees ([]) (pos 1) (routine (None) (None) (None) ((1, scope.Function 0) ∷ []) (quiet (Assign 8 8 0 (Dyad 15 15 pr.Shape (Numbers 12 12 (pos 3 ∷ pos 3 ∷ [])) (Numbers 18 18 (pos 0 ∷ [])))) ∷ quiet (AssignAt 20 20 0 (and_tree (Numbers 22 22 (pos 1 ∷ [])) (and_tree (Numbers 24 24 (pos 2 ∷ [])) no_more)) (Numbers 29 29 (pos 5 ∷ []))) ∷ quiet (AssignAt 31 31 0 (left_out (and_tree (Numbers 34 34 (pos 1 ∷ [])) no_more)) (Text 39 39 (97 ∷ []))) ∷ []) ∷ []) ((cell.Node 18, (Of Bit (Some ([])))) ∷ (cell.Node 12, (Of Num (Some (Some 2 ∷ [])))) ∷ (cell.Node 15, (Of Bit (Some (Some 3 ∷ Some 3 ∷ [])))) ∷ (cell.Global 0, (Of Num (Some (Some 3 ∷ Some 3 ∷ [])))) ∷ (cell.Node 8, (Of Bit (Some (Some 3 ∷ Some 3 ∷ [])))) ∷ (cell.Node 29, (Of Num (Some ([])))) ∷ (cell.Node 24, (Of Num (Some ([])))) ∷ (cell.Node 22, (Of Bit (Some ([])))) ∷ (cell.Node 20, (Of Num (Some ([])))) ∷ (cell.Node 39, (Of Char (Some ([])))) ∷ (cell.Node 34, (Of Bit (Some ([])))) ∷ (cell.Node 31, (Of Mixed None)) ∷ []) (Some (refusal 17 31))
program23 = (refl, refl)

-- ∇MAIN | A←3 3⍴0 | A[1 2;3]←5 6 | A[;1]←1 2 | A[1;]←2 2⍴0 | ∇
program24 : agrees ([]) (pos 1) (routine (None) (None) (None) ((1, scope.Function 0) ∷ []) (quiet (Assign 8 8 0 (Dyad 15 15 pr.Shape (Numbers 12 12 (pos 3 ∷ pos 3 ∷ [])) (Numbers 18 18 (pos 0 ∷ [])))) ∷ quiet (AssignAt 20 20 0 (and_tree (Numbers 22 22 (pos 1 ∷ pos 2 ∷ [])) (and_tree (Numbers 26 26 (pos 3 ∷ [])) no_more)) (Numbers 31 31 (pos 5 ∷ pos 6 ∷ []))) ∷ quiet (AssignAt 35 35 0 (left_out (and_tree (Numbers 38 38 (pos 1 ∷ [])) no_more)) (Numbers 43 43 (pos 1 ∷ pos 2 ∷ []))) ∷ quiet (AssignAt 47 47 0 (and_tree (Numbers 49 49 (pos 1 ∷ [])) (left_out no_more)) (Dyad 58 58 pr.Shape (Numbers 55 55 (pos 2 ∷ pos 2 ∷ [])) (Numbers 61 61 (pos 0 ∷ [])))) ∷ []) ∷ []) ((cell.Node 18, (Of Bit (Some ([])))) ∷ (cell.Node 12, (Of Num (Some (Some 2 ∷ [])))) ∷ (cell.Node 15, (Of Bit (Some (Some 3 ∷ Some 3 ∷ [])))) ∷ (cell.Global 0, (Of Num (Some (Some 3 ∷ Some 3 ∷ [])))) ∷ (cell.Node 8, (Of Bit (Some (Some 3 ∷ Some 3 ∷ [])))) ∷ (cell.Node 31, (Of Num (Some (Some 2 ∷ [])))) ∷ (cell.Node 26, (Of Num (Some ([])))) ∷ (cell.Node 22, (Of Num (Some (Some 2 ∷ [])))) ∷ (cell.Node 20, (Of Num (Some (Some 2 ∷ [])))) ∷ (cell.Node 43, (Of Num (Some (Some 2 ∷ [])))) ∷ (cell.Node 38, (Of Bit (Some ([])))) ∷ (cell.Node 35, (Of Num (Some (Some 2 ∷ [])))) ∷ (cell.Node 61, (Of Bit (Some ([])))) ∷ (cell.Node 55, (Of Num (Some (Some 2 ∷ [])))) ∷ (cell.Node 58, (Of Bit (Some (Some 2 ∷ Some 2 ∷ [])))) ∷ (cell.Node 49, (Of Bit (Some ([])))) ∷ (cell.Node 47, (Of Mixed None)) ∷ []) (Some (refusal 18 47))
program24 = (refl, refl)

-- ∇MAIN;A | L:→(A<3)/M | A←0 | →L | M:A | ∇
program25 : agrees ([]) (pos 1) (routine (None) (None) (None) ((0, scope.Local) ∷ (1, scope.Label (pos 4)) ∷ (2, scope.Label (pos 1)) ∷ (3, scope.Function 0) ∷ []) (branch 12 (Dyad 20 20 (pr.Replicate ax.Last) (Dyad 17 17 (pr.Scalar f.Less) (Name 16 16 0) (Numbers 18 18 (pos 3 ∷ []))) (Name 21 21 1)) ∷ quiet (Assign 23 23 0 (Numbers 27 27 (pos 0 ∷ []))) ∷ branch 29 (Name 32 32 2) ∷ display (Name 36 36 0) ∷ []) ∷ []) ((cell.Node 21, (Of Num (Some ([])))) ∷ (cell.Node 18, (Of Num (Some ([])))) ∷ (cell.Node 27, (Of Bit (Some ([])))) ∷ (cell.Node 23, (Of Bit (Some ([])))) ∷ (cell.Node 32, (Of Num (Some ([])))) ∷ (cell.Node 16, (Of Bit (Some ([])))) ∷ (cell.Node 17, (Of Bit (Some ([])))) ∷ (cell.Node 20, (Of Num (Some (None ∷ [])))) ∷ (cell.Node 36, (Of Bit (Some ([])))) ∷ (cell.Start 0 1 0, (Of Bit (Some ([])))) ∷ (cell.Start 0 2 0, (Of Bit (Some ([])))) ∷ (cell.Start 0 3 0, (Of Bit (Some ([])))) ∷ (cell.Start 0 4 0, (Of Bit (Some ([])))) ∷ []) (None)
program25 = (refl, refl)

-- ∇MAIN | G←1 | H | G | ∇ | ∇H | →K | G←'c' | K:G | ∇
program26 : agrees ([]) (pos 1) (routine (None) (None) (None) ((1, scope.Function 1) ∷ (3, scope.Function 0) ∷ []) (quiet (Assign 8 8 0 (Numbers 12 12 (pos 1 ∷ []))) ∷ perform 14 14 1 absent absent ∷ display (Name 16 16 0) ∷ []) ∷ routine (None) (None) (None) ((1, scope.Function 1) ∷ (2, scope.Label (pos 3)) ∷ (3, scope.Function 0) ∷ []) (branch 27 (Name 30 30 2) ∷ quiet (Assign 32 32 0 (Text 36 36 (97 ∷ []))) ∷ display (Name 42 42 0) ∷ []) ∷ []) ((cell.Node 12, (Of Bit (Some ([])))) ∷ (cell.Global 0, (Of Mixed (Some ([])))) ∷ (cell.Node 8, (Of Bit (Some ([])))) ∷ (cell.Node 16, (Of Mixed (Some ([])))) ∷ (cell.Node 30, (Of Num (Some ([])))) ∷ (cell.Node 36, (Of Char (Some ([])))) ∷ (cell.Node 32, (Of Char (Some ([])))) ∷ (cell.Node 42, (Of Mixed (Some ([])))) ∷ []) (Some (refusal 17 16))
program26 = (refl, refl)

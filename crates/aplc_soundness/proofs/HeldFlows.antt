-- Where a branch leads: its value names a line to which the flow of its statement may lead.
use Rattle.std.proofs.Common.{◌≡◌, ap, refl, ℕ, zero, suc, ◌+◌, ◌<◌, ◌%◌, List, [], ◌∷◌, length, Option, Ok, Err, Bool, true, false, ◌&&◌, ◌||◌, ℤ, arith}
use Rattle.std.specs.Prelude.{Result, slice_set, sum, nat_eq, nat_le}
use Rattle.std.specs.List.{AllByRecursion}
use Rattle.std.proofs.lemmas.Nat.{mod_below}
use Rattle.aplc_scalar.specs.Scalar.{Given}
use Rattle.aplc_scalar.specs.declared.kind.FaultKind.{FaultKind}
use Rattle.aplc_scalar.specs.declared.kind.FaultKind.TheVariants as fault
use Rattle.aplc_scalar.specs.declared.kind.Kind.{Kind}
use Rattle.aplc_scalar.specs.declared.kind.Kind.TheVariants as k
use Rattle.aplc_syntax.specs.declared.tree.Primitive.{Primitive}
use Rattle.aplc_syntax.specs.declared.tree.Primitive.TheVariants as pr
use Rattle.aplc_syntax.specs.declared.tree.Axis.TheVariants as ax
use Rattle.aplc_syntax.specs.PlainTrees.{Tree, Numbers, Name, Dyad}
use Rattle.aplc_arr.specs.Arrays.{Array, rank, product, place, index_at, first_of, as_vector, is_numbers, shape_fits, rank_limit}
use Rattle.aplc_arr.specs.Delayed.{Delayed, Prepared, moved, needs, first_n, onto_cells, all_given, cells_of}
use Rattle.aplc_arr.specs.Structure.{none_negative, magnitudes, cyclic, reshaped}
use Rattle.aplc_arr.specs.Selection.{axis_length, counts_for, replicated_along}
use Rattle.aplc_names.specs.declared.scope.Scope.{Scope}
use Rattle.aplc_names.specs.declared.scope.Scope.TheVariants as scope
use Rattle.aplc_names.specs.Primitives.{dyad_of, dyad_applications, places_listed}
use Rattle.aplc_names.specs.States.{World, State, Outcome, Gives, Faulted, Going, and_then}
use Rattle.aplc_names.specs.Eager.{Context, Use, passed, filled, made, there, scalar, value_of_name, value, line_named, target, branch_to}
use Rattle.aplc_names.specs.Runs.{after}
use Rattle.aplc_infer.specs.declared.cell.Flow.{Flow}
use Rattle.aplc_infer.specs.declared.cell.Flow.TheVariants as flow
use Rattle.aplc_infer.specs.Seeing.{binding_of, to_label, either_label, branch_flow, leads}
use Rattle.aplc_infer.proofs.Trials.{equal_test}
use Rattle.aplc_soundness.proofs.Held.{every_push}
use Rattle.aplc_soundness.proofs.Comes.{Always, always_then, always_unit}

abbrev pub LeadsTo : Flow → ℕ → Result (Option ℕ) FaultKind → Type 0
LeadsTo x l (Err e) = Unit {0}
LeadsTo x l (Ok to) = leads x l (after l to) ≡ true

leads_any : (l : ℕ) (r : Result (Option ℕ) FaultKind) → LeadsTo flow.Any l r
leads_any l (Err e) = tt
leads_any l (Ok to) = refl

always_any : (l : ℕ) (o : Outcome Array) → Always (λ v. LeadsTo flow.Any l (branch_to v)) o
always_any l (Gives v s) = leads_any l (branch_to v)
always_any l (Faulted e s) = tt
always_any l (Going s) = tt

-- ---- A label

leads_label : (c : Context) (i : ℕ) (u : Use) (x : Scope) (j n l : ℕ) (w : World) (s : State) → Always (λ v. LeadsTo (to_label (binding_of x j)) l (branch_to v)) (there c i u (value_of_name x n w) s)
leads_label c i u (scope.Label z) j n l w s = equal_test (line_named z) (line_named z) refl
leads_label c i u scope.Local j n l w s = always_any l (there c i u (w.locals n) s)
leads_label c i u scope.Global j n l w s = always_any l (there c i u (w.globals n) s)
leads_label c i u (scope.Function h) j n l w s = tt

-- ---- A label, chosen by a count or a shape: the elements are all its line's number

abbrev EachIs : ℤ → Prepared → Type 0
EachIs z (Err e) = Unit {0}
EachIs z (Ok d) = (is : List ℕ) → d.element is ≡ Ok z

each_needs : (z : ℤ) (b : Bool) (e : FaultKind) (rest : Prepared) → EachIs z rest → EachIs z (needs b e rest)
each_needs z true e rest h = h
each_needs z false e rest h = tt

each_moved : (z : ℤ) (kind : Kind) (ns : List ℕ) (f : List ℕ → ℤ) → ((is : List ℕ) → f is ≡ z) → EachIs z (moved kind ns f)
each_moved z kind ns f h is = ap Ok (h is)

each_along : (z : ℤ) (a : Array) → EachIs z (replicated_along a (scalar z) 0)
each_along z a =
    let b = scalar z in
    let n = axis_length a b 0 in
    let ns = slice_set (as_vector b).shape 0 (sum (counts_for a n)) in
    let f : List ℕ → ℤ = λ is. first_of b in
    let form0 = moved b.kind ns f in
    let form1 = needs (shape_fits ns) fault.Limit form0 in
    let form2 = needs (none_negative a.cells) fault.Domain form1 in
    each_needs z (nat_eq (rank a) 0 || nat_eq (length a.cells) n) fault.Length form2 (each_needs z (none_negative a.cells) fault.Domain form1 (each_needs z (shape_fits ns) fault.Limit form0 (each_moved z b.kind ns f (λ is. refl))))

each_replicated : (o z : ℤ) (a : Array) → EachIs z (dyad_of o (pr.Replicate ax.Last) a (scalar z))
each_replicated o z a =
    let rest = replicated_along a (scalar z) 0 in
    each_needs z (is_numbers a) fault.Domain (needs (nat_le (rank a) 1) fault.Rank rest) (each_needs z (nat_le (rank a) 1) fault.Rank rest (each_along z a))

mod_one : (p : ℕ) → p % 1 ≡ 0
mod_one p = let h : p % 1 < 1 = mod_below p 1 (omega arith) in omega (arith, h)

each_reshaped : (z : ℤ) (a : Array) → EachIs z (reshaped a (scalar z))
each_reshaped z a =
    let ns = magnitudes a.cells in
    let form0 = moved k.Num ns (cyclic (scalar z) ns) in
    let form1 = needs (shape_fits ns) fault.Limit form0 in
    let form2 = needs (none_negative a.cells) fault.Domain form1 in
    let form3 = needs (nat_le (rank a) 1 && nat_le (length a.cells) rank_limit) fault.Rank form2 in
    each_needs z (is_numbers a) fault.Domain form3 (each_needs z (nat_le (rank a) 1 && nat_le (length a.cells) rank_limit) fault.Rank form2 (each_needs z (none_negative a.cells) fault.Domain form1 (each_needs z (shape_fits ns) fault.Limit form0 (each_moved z k.Num ns (cyclic (scalar z) ns) (λ is. rw (mod_one (place ns is)) refl)))))

abbrev the_given : ℤ → Given
the_given z = Ok z

abbrev CellsAre : ℤ → Result (List ℤ) FaultKind → Type 0
CellsAre z (Err e) = Unit {0}
CellsAre z (Ok zs) = AllByRecursion (λ y. y ≡ z) zs

same_ok : (y z : ℤ) → Ok y ≡ the_given z → y ≡ z
same_ok y z e = cc

cells_onto : (z y : ℤ) (r : Result (List ℤ) FaultKind) → y ≡ z → CellsAre z r → CellsAre z (onto_cells y r)
cells_onto z y (Ok zs) e h = (e, h)
cells_onto z y (Err f) e h = tt

cells_given : (z : ℤ) (gs : List Given) → AllByRecursion (λ y. y ≡ the_given z) gs → CellsAre z (all_given gs)
cells_given z [] h = tt
cells_given z (Ok y ∷ gs) h = cells_onto z y (all_given gs) (same_ok y z h.0) (cells_given z gs h.1)
cells_given z (Err e ∷ gs) h = tt

first_given : (z : ℤ) (f : ℕ → Given) → ((p : ℕ) → f p ≡ Ok z) → (n : ℕ) → AllByRecursion (λ y. y ≡ the_given z) (first_n f n)
first_given z f h zero = tt
first_given z f h (suc n) = every_push _ (first_n f n) (f n) (first_given z f h n) (h n)

-- to the label's line, or on
either_line : (z : ℤ) (l : ℕ) (zs : List ℤ) → AllByRecursion (λ y. y ≡ z) zs → leads (flow.Either (line_named z)) l (after l (target zs)) ≡ true
either_line z l [] h = let e = equal_test (l + 1) (l + 1) refl in rw e (by_test (nat_eq (l + 1) (line_named z)))
  where
    by_test : (b : Bool) → (b || true) ≡ true
    by_test true = refl
    by_test false = refl
either_line z l (y ∷ zs) h = rw (h.0) (let e = equal_test (line_named z) (line_named z) refl in rw e refl)

leads_needs : (x : Flow) (l : ℕ) (b : Bool) (e : FaultKind) (rest : Result (Option ℕ) FaultKind) → LeadsTo x l rest → LeadsTo x l (needs b e rest)
leads_needs x l true e rest h = h
leads_needs x l false e rest h = tt

leads_filled : (c : Context) (i n : ℕ) (z : ℤ) (l : ℕ) (d : Delayed) (r : Result (List ℤ) FaultKind) (s : State) → CellsAre z r → Always (λ v. LeadsTo (flow.Either (line_named z)) l (branch_to v)) (filled c i n d r s)
leads_filled c i n z l d (Err e) s h = tt
leads_filled c i n z l d (Ok zs) s h =
    let a : Array = record { kind = d.kind; shape = d.shape; cells = zs } in
    let to : Result (Option ℕ) FaultKind = Ok (target zs) in
    let x = flow.Either (line_named z) in
    leads_needs x l (is_numbers a) fault.Domain (needs (nat_le (rank a) 1) fault.Rank to) (leads_needs x l (nat_le (rank a) 1) fault.Rank to (either_line z l zs h))

leads_made : (c : Context) (i : ℕ) (u : Use) (f g : List ℕ → ℕ) (z : ℤ) (l : ℕ) (d : Prepared) (s : State) → EachIs z d → Always (λ v. LeadsTo (flow.Either (line_named z)) l (branch_to v)) (made c i u f g d s)
leads_made c i u f g z l (Err e) s h = tt
leads_made c i u f g z l (Ok d) s h = leads_filled c i _ z l d (cells_of d) _ (cells_given z _ (first_given z _ (λ p. h (index_at d.shape p)) (product d.shape)))

-- a node whose right argument has been evaluated
abbrev with_right : Context → ℕ → Use → Primitive → Tree → Outcome Array → Outcome Array
with_right c i u h a o =
    and_then o (λ y s1. and_then (value c a passed s1) (λ x s2. made c i u (places_listed c.origin h x.shape) (dyad_applications c.origin h x.shape y.shape) (dyad_of c.origin h x y) s2))

-- the right argument is a name, and the function keeps to the elements of a label
leads_chosen : (c : Context) (i j : ℕ) (u : Use) (h : Primitive) (a : Tree) (x : Scope) (m n l : ℕ) (w : World) (s : State) → ((z : ℤ) (v : Array) → EachIs z (dyad_of c.origin h v (scalar z))) → Always (λ v. LeadsTo (either_label (binding_of x m)) l (branch_to v)) (with_right c i u h a (there c j passed (value_of_name x n w) s))
leads_chosen c i j u h a (scope.Label z) m n l w s each =
    always_then (λ v. Unit {0}) _ (value c a passed _) _ (always_unit _) (λ b s2 t. leads_made c i u _ _ z l (dyad_of c.origin h b (scalar z)) s2 (each z b))
leads_chosen c i j u h a scope.Local m n l w s each = always_any l (with_right c i u h a (there c j passed (w.locals n) s))
leads_chosen c i j u h a scope.Global m n l w s each = always_any l (with_right c i u h a (there c j passed (w.globals n) s))
leads_chosen c i j u h a (scope.Function q) m n l w s each = tt

-- ---- A branch

-- names are bound as their scopes say, by some numbers of local names
leads_dyad : (c : Context) (number : ℕ → ℕ) (i p : ℕ) (u : Use) (h : Primitive) (a b : Tree) (l : ℕ) (s : State) → Always (λ v. LeadsTo (branch_flow (λ n. binding_of (c.scope n) (number n)) (Dyad i p h a b)) l (branch_to v)) (value c (Dyad i p h a b) u s)
leads_dyad c number i p u (pr.Replicate ax.Last) a (Name j q n) l s = leads_chosen c i j u (pr.Replicate ax.Last) a (c.scope n) (number n) n l s.world s (λ z v. each_replicated c.origin z v)
leads_dyad c number i p u pr.Shape a (Name j q n) l s = leads_chosen c i j u pr.Shape a (c.scope n) (number n) n l s.world s (λ z v. each_reshaped z v)
leads_dyad c number i p u h a b l s = always_any l (value c (Dyad i p h a b) u s)

-- a branch's value leads where the flow says
pub leads_value : (c : Context) (number : ℕ → ℕ) (t : Tree) (u : Use) (l : ℕ) (s : State) → Always (λ v. LeadsTo (branch_flow (λ n. binding_of (c.scope n) (number n)) t) l (branch_to v)) (value c t u s)
leads_value c number (Numbers i p []) u l s = refl
leads_value c number (Numbers i p (z ∷ [])) u l s = equal_test (line_named z) (line_named z) refl
leads_value c number (Numbers i p (z ∷ y ∷ zs)) u l s = always_any l (value c (Numbers i p (z ∷ y ∷ zs)) u s)
leads_value c number (Name i p n) u l s = leads_label c i u (c.scope n) (number n) n l s.world s
leads_value c number (Dyad i p h a b) u l s = leads_dyad c number i p u h a b l s
leads_value c number t u l s = always_any l (value c t u s)

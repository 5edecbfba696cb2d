-- The laws of facts of programs in which no two nodes have one number.
use Rattle.std.proofs.Common.{◌≡◌, ◌∙◌, sym, ap, refl, subst, ℕ, ◌+◌, ◌≤◌, List, [], ◌∷◌, ◌++◌, Bool, true, false, arith}
use Rattle.std.specs.Prelude.{map, flat_map, nat_eq}
use Rattle.std.specs.List.{AllByRecursion, IsDistinct}
use Rattle.std.proofs.lemmas.Map.Keys.{IsDistinct-head, IsDistinct-tail}
use Rattle.aplc_syntax.specs.declared.tree.Line.{Line}
use Rattle.aplc_syntax.specs.declared.tree.Function.{Function}
use Rattle.aplc_syntax.specs.declared.tree.Program.{Program}
use Rattle.aplc_syntax.specs.declared.tree.Statement.{Statement}
use Rattle.aplc_syntax.specs.declared.tree.Statement.TheVariants as st
use Rattle.aplc_syntax.specs.PlainTrees.{Tree, Numbers, Text, Name, TextInput, NumsInput, Mono, Dyad, Index, Assign, AssignAt, Show, Call, ids, tree_of}
use Rattle.aplc_syntax.specs.Programs.{statement_ids, program_ids}
use Rattle.aplc_names.specs.PlainPrograms.{quiet_of, action_of, line_action, routine_of, plain}
use Rattle.aplc_names.specs.States.{final}
use Rattle.aplc_names.specs.Runs.{evaluated}
use Rattle.aplc_infer.specs.Seeing.{Family, declarations, context_of, fresh}
use Rattle.aplc_infer.specs.Families.{at_start, Fits, IsWellTyped, IsLeastOf}
use Rattle.aplc_soundness.specs.FactLaws.{ChangesKeepKinds, HasOwnNodes, NodesExact, PassesFacts, TakesKinds}
use Rattle.aplc_infer.proofs.AllRules.{rules_rise}
use Rattle.aplc_infer.proofs.Climbing.{least_family}
use Rattle.aplc_infer.proofs.Refused.{least_fine}
use Rattle.aplc_infer.proofs.Trials.{equal_of, equal_test}
use Rattle.aplc_soundness.proofs.Held.{no}
use Rattle.aplc_soundness.proofs.Counted.{one_if, tally, action_ids, routine_ids, plain_ids}
use Rattle.aplc_soundness.proofs.Exactly.{lines_exact}
use Rattle.aplc_soundness.proofs.Given.{statement_given}
use Rattle.aplc_soundness.proofs.Passed.{statement_passes}
use Rattle.aplc_soundness.proofs.Changed.{statement_changes}
use Rattle.aplc_soundness.proofs.HeldRuns.{line_fine}
use Rattle.aplc_soundness.proofs.Lawful.{after_run}

-- ---- Nodes of a program and of its plain form

tree_ids : (t : Tree) → action_ids (quiet_of t) ≡ ids t
tree_ids (Numbers i p zs) = refl
tree_ids (Text i p cs) = refl
tree_ids (TextInput i p) = refl
tree_ids (NumsInput i p) = refl
tree_ids (Name i p n) = refl
tree_ids (Mono i p f b) = refl
tree_ids (Dyad i p f a b) = refl
tree_ids (Index i p a xs) = refl
tree_ids (Assign i p n a) = refl
tree_ids (AssignAt i p n xs a) = refl
tree_ids (Show i p a) = refl
tree_ids (Call i p n a b) = refl

action_same : (s : Statement) → action_ids (action_of s) ≡ statement_ids s
action_same st.Empty = refl
action_same (st.Quiet n) = tree_ids (tree_of n)
action_same (st.Display n) = refl
action_same (st.Branch p n) = refl

lines_same : (ls : List Line) → flat_map action_ids (map line_action ls) ≡ flat_map (λ (l : Line). statement_ids l.statement) ls
lines_same [] = refl
lines_same (l ∷ ls) = ap (λ xs. xs ++ flat_map action_ids (map line_action ls)) (action_same l.statement) ∙ ap (λ xs. statement_ids l.statement ++ xs) (lines_same ls)

functions_same : (p : Program) (fs : List Function) → flat_map routine_ids (map (routine_of p) fs) ≡ flat_map (λ (f : Function). flat_map (λ (l : Line). statement_ids l.statement) f.lines) fs
functions_same p [] = refl
functions_same p (f ∷ fs) =
    ap (λ xs. xs ++ flat_map routine_ids (map (routine_of p) fs)) (lines_same f.lines) ∙ ap (λ xs. flat_map (λ (l : Line). statement_ids l.statement) f.lines ++ xs) (functions_same p fs)

-- ---- Each number stands once

none_among : (i k : ℕ) (ks : List ℕ) → AllByRecursion (λ y. nat_eq k y ≡ false) ks → k ≡ i → tally i ks ≡ 0
none_among i k [] h e = refl
none_among i k (y ∷ ks) h e = by_test (nat_eq y i) refl (none_among i k ks h.1 e)
  where
    by_test : (b : Bool) → nat_eq y i ≡ b → tally i ks ≡ 0 → one_if b + tally i ks ≡ 0
    by_test true q r = absurd (no (sym h.0 ∙ equal_test k y (e ∙ sym (equal_of y i q))))
    by_test false q r = omega (arith, r)

once : (i : ℕ) (ks : List ℕ) → IsDistinct nat_eq ks → tally i ks ≤ 1
once i [] h = omega arith
once i (k ∷ ks) h = by_test (nat_eq k i) refl (once i ks (IsDistinct-tail nat_eq k ks h))
  where
    by_test : (b : Bool) → nat_eq k i ≡ b → tally i ks ≤ 1 → one_if b + tally i ks ≤ 1
    by_test true q r = let z = none_among i k ks (IsDistinct-head nat_eq k ks h) (equal_of k i q) in omega (arith, z)
    by_test false q r = omega (arith, r)

few : (p : Program) → HasOwnNodes p → (i : ℕ) → tally i (plain_ids (plain p)) ≤ 1
few p own i = subst (λ xs. tally i xs ≤ 1) (sym (functions_same p p.functions)) (once i (program_ids p) own)

-- ---- The laws

pub nodes_exact : (p : Program) → NodesExact p
nodes_exact p own g least = lines_exact (declarations p.vars) (plain p) g least (few p own)

-- under the least facts of a well-typed program no refusal stands
least_fits : (p : Program) → IsWellTyped p → (g : Family) → IsLeastOf p g → Fits (declarations p.vars) (plain p) g
least_fits p typed g least = record { rules = least.rules; fine = λ r h. least_fine p g least typed r h }

pub takes_kinds : (p : Program) → TakesKinds p
takes_kinds p own typed m input n j l f x there =
    let d = declarations p.vars in
    let g = (least_family d (plain p)).0 in
    let least = (least_family d (plain p)).1 in
    let fits = least_fits p typed g least in
    statement_given (context_of d (plain p) f) g (rules_rise p.origin) (final (evaluated (plain p) m input n)).world.given (after_run p g fits m input n).given x (fresh (at_start g j f l)) (nodes_exact p own g least j l f x there) (line_fine d (plain p) g fits j l f x there)

pub passes_facts : (p : Program) → PassesFacts p
passes_facts p own typed g least m input n j l f x there =
    let d = declarations p.vars in
    let fits = least_fits p typed g least in
    statement_passes (context_of d (plain p) f) g (rules_rise p.origin) (final (evaluated (plain p) m input n)).world.given (after_run p g fits m input n).given x (fresh (at_start g j f l)) (nodes_exact p own g least j l f x there) (least.rules.lines j l f x there).demands (line_fine d (plain p) g fits j l f x there)

pub changes_keep_kinds : (p : Program) → ChangesKeepKinds p
changes_keep_kinds p own typed g least m input n j l f x there =
    let d = declarations p.vars in
    let fits = least_fits p typed g least in
    statement_changes (context_of d (plain p) f) g (rules_rise p.origin) (final (evaluated (plain p) m input n)).world.given (after_run p g fits m input n).given x (fresh (at_start g j f l)) (nodes_exact p own g least j l f x there) (line_fine d (plain p) g fits j l f x there)

-- A resolved program keeps its runs: no two of its nodes have one number.
use Rattle.std.proofs.Common.{◌≡◌, refl, sym, ap, subst, ℕ, List, [], ◌∷◌, ◌++◌, map, All, nat_eq}
use mathlib.Core.Logic.{∥∥₁_elim}
use Rattle.std.specs.Prelude.{flat_map}
use Rattle.std.specs.List.{AllByRecursion, IsDistinct, IsDistinct-prop}
use Rattle.std.proofs.lemmas.List.Elements.{All-nil, All-cons}
use Rattle.aplc_syntax.specs.declared.tree.Line.{Line}
use Rattle.aplc_syntax.specs.declared.tree.Function.{Function}
use Rattle.aplc_syntax.specs.declared.tree.Program.{Program}
use Rattle.aplc_syntax.specs.declared.tree.Statement.{Statement}
use Rattle.aplc_syntax.specs.declared.tree.Statement.TheVariants as st
use Rattle.aplc_syntax.specs.PlainTrees.{Tree, Numbers, Text, Name, TextInput, NumsInput, Mono, Dyad, Index, Assign, AssignAt, Show, Call, ids, tree_of}
use Rattle.aplc_syntax.specs.Programs.{statement_ids, program_ids}
use Rattle.aplc_names.specs.PlainPrograms.{quiet_of, action_of, line_action, routine_of, plain}
use Rattle.aplc_names.specs.Programs.{IsParsed}
use Rattle.aplc_names.specs.States.{final}
use Rattle.aplc_names.specs.Runs.{run_of, eager, peak, work}
use Rattle.aplc_core.specs.CoreRuns.{core, core_peak, core_work}
use Rattle.aplc_core.specs.CoreLaws.{action_ids, IsNumbered, HasNumberedLines, HasDistinctNodes, CoreIsEager, KeepsRuns}
use Rattle.aplc_core.proofs.KeepsRuns.{keeps_runs}

-- ---- The nodes of a plain program are those of the program

tree_ids : (t : Tree) → action_ids (quiet_of t) ≡ ids t
tree_ids (Numbers i p zs) = refl
tree_ids (Text i p cs) = refl
tree_ids (TextInput i p) = refl
tree_ids (NumsInput i p) = refl
tree_ids (Name i p n) = refl
tree_ids (Mono i p f b) = refl
tree_ids (Dyad i p f a b) = refl
tree_ids (Index i p a xs) = refl
tree_ids (Assign i p n a) = refl
tree_ids (AssignAt i p n xs a) = refl
tree_ids (Show i p a) = refl
tree_ids (Call i p n a b) = refl

action_same : (s : Statement) → action_ids (action_of s) ≡ statement_ids s
action_same st.Empty = refl
action_same (st.Quiet n) = tree_ids (tree_of n)
action_same (st.Display n) = refl
action_same (st.Branch p n) = refl

-- ---- Parts of lists in which no two numbers are the same

front_all : (P : ℕ → Type 0) (xs ys : List ℕ) → AllByRecursion P (xs ++ ys) → AllByRecursion P xs
front_all P [] ys h = tt
front_all P (x ∷ xs) ys h = (h.0, front_all P xs ys h.1)

front : (xs ys : List ℕ) → IsDistinct nat_eq (xs ++ ys) → IsDistinct nat_eq xs
unfolding IsDistinct
front [] ys h = tt
front (x ∷ xs) ys h = (front_all _ xs ys h.0, front xs ys h.1)

rest : (xs ys : List ℕ) → IsDistinct nat_eq (xs ++ ys) → IsDistinct nat_eq ys
unfolding IsDistinct
rest [] ys h = h
rest (x ∷ xs) ys h = rest xs ys h.1

abbrev line_ids : Line → List ℕ
line_ids l = statement_ids l.statement

abbrev function_ids : Function → List ℕ
function_ids f = flat_map (λ (l : Line). statement_ids l.statement) f.lines

numbered_lines : (ls : List Line) → IsDistinct nat_eq (flat_map (λ (l : Line). statement_ids l.statement) ls) → All IsNumbered (map line_action ls)
numbered_lines [] h = All-nil IsNumbered
numbered_lines (l ∷ ls) h =
    let more : List ℕ = flat_map (λ (x : Line). statement_ids x.statement) ls in
    All-cons IsNumbered (line_action l) (map line_action ls) (subst (λ xs. IsDistinct nat_eq xs) (sym (action_same l.statement)) (front (line_ids l) more h)) (numbered_lines ls (rest (line_ids l) more h))

numbered_functions : (p : Program) (fs : List Function) → IsDistinct nat_eq (flat_map (λ (f : Function). flat_map (λ (l : Line). statement_ids l.statement) f.lines) fs) → All HasNumberedLines (map (routine_of p) fs)
numbered_functions p [] h = All-nil HasNumberedLines
numbered_functions p (f ∷ fs) h =
    let more : List ℕ = flat_map (λ (g : Function). flat_map (λ (l : Line). statement_ids l.statement) g.lines) fs in
    All-cons HasNumberedLines (routine_of p f) (map (routine_of p) fs) (numbered_lines f.lines (front (function_ids f) more h)) (numbered_functions p fs (rest (function_ids f) more h))

pub distinct_nodes : (p : Program) → IsDistinct nat_eq (program_ids p) → HasDistinctNodes (plain p)
distinct_nodes p h = numbered_functions p p.functions h

-- what every parsed program has
pub parsed_distinct : (p : Program) → ∥ IsParsed p ∥₁ → IsDistinct nat_eq (program_ids p)
parsed_distinct p h = ∥∥₁_elim h (IsDistinct-prop nat_eq (program_ids p)) (λ q. q.distinct)

-- ---- The law

pub resolved_keeps_runs : (p : Program) → ∥ IsParsed p ∥₁ → KeepsRuns (plain p)
unfolding core eager core_work work core_peak peak
resolved_keeps_runs p h =
    let same : CoreIsEager (plain p) = keeps_runs (plain p) (distinct_nodes p (parsed_distinct p h)) in
    record {
      outcomes = same;
      runs = λ m input n. ap run_of (same m input n);
      works = λ m input n. ap (λ o. (final o).world.work) (same m input n);
      traces = λ m input n. ap (λ o. (final o).world.given) (same m input n);
      peaks = λ m input n. ap (λ o. (final o).account.peak) (same m input n);
      late_faults = λ m input n. ap (λ o. (final o).account.late) (same m input n);
    }

-- The places of what is not built, item by item.
use Rattle.std.proofs.Common.{◌≡◌, ◌∙◌, ap, sym, refl, ℕ, ◌+◌, ◌<◌, List, [], ◌∷◌, ◌++◌, arith, length, drop, get_or}
use Rattle.std.specs.Prelude.{Option, Some, None}
use Rattle.std.proofs.lemmas.List.{drop_more}
use Rattle.std.proofs.lemmas.Bool.Decides.{nat_tests}
use Rattle.aplc_syntax.specs.declared.tree.Node.{Node}
use Rattle.aplc_syntax.specs.declared.tree.Line.{Line}
use Rattle.aplc_syntax.specs.declared.tree.Function.{Function}
use Rattle.aplc_syntax.specs.PlainTrees.{trees_in, argument_in}
use Rattle.aplc_syntax.proofs.PlainForms.{plain_forms}
use Rattle.aplc_gen.specs.Unbuilt.{FactList, smaller, least, all_unbuilt, argument_unbuilt, line_unbuilt, lines_unbuilt, functions_unbuilt}

-- ---- The least of places

pub smaller_none : (x : Option ℕ) → smaller x None ≡ x
smaller_none None = refl
smaller_none (Some x) = refl

smaller_assoc : (a b c : Option ℕ) → smaller (smaller a b) c ≡ smaller a (smaller b c)
smaller_assoc None b c = refl
smaller_assoc (Some a) None c = refl
smaller_assoc (Some a) (Some b) None = smaller_none (smaller (Some a) (Some b))
smaller_assoc (Some a) (Some b) (Some c) = grind (arith, nat_tests)

pub least_append : (xs ys : List ℕ) → least (xs ++ ys) ≡ smaller (least xs) (least ys)
least_append [] ys = refl
least_append (x ∷ xs) ys = ap (smaller (Some x)) (least_append xs ys) ∙ sym (smaller_assoc (Some x) (least xs) (least ys))

pub ruleset unbuilt_forms = (plain_forms, least_append)

-- what is found so far and the places of one item more, before those of the items behind it
one_more : (found new total : Option ℕ) (here behind whole : List ℕ) → new ≡ smaller found (least here) → whole ≡ here ++ behind → smaller found (least whole) ≡ total → smaller new (least behind) ≡ total
one_more found new total here behind whole is split e =
    ap (λ n. smaller n (least behind)) is
    ∙ smaller_assoc found (least here) (least behind)
    ∙ ap (smaller found) (sym (least_append here behind) ∙ sym (ap least split))
    ∙ e

-- ---- Lists, item by item

split : {A : Type 0} (xs : List A) (i : ℕ) (x : A) → i < length xs → x ≡ get_or xs i x → drop i xs ≡ x ∷ drop (i + 1) xs
split xs i x below here = drop_more xs i x below ∙ ap (λ y. y ∷ drop (i + 1) xs) (sym here)

-- an entry before others
entry_first : (facts : FactList) (x : Option Node) (xs : List (Option Node)) → all_unbuilt facts (trees_in (x ∷ xs)) ≡ argument_unbuilt facts (argument_in x) ++ all_unbuilt facts (trees_in xs)
entry_first facts None xs = refl
entry_first facts (Some n) xs = refl

pub entry_next : (facts : FactList) (found new total : Option ℕ) (xs : List (Option Node)) (i : ℕ) (x : Option Node) → i < length xs → x ≡ get_or xs i x → new ≡ smaller found (least (argument_unbuilt facts (argument_in x))) → smaller found (least (all_unbuilt facts (trees_in (drop i xs)))) ≡ total → smaller new (least (all_unbuilt facts (trees_in (drop (i + 1) xs)))) ≡ total
entry_next facts found new total xs i x below here is e =
    one_more found new total (argument_unbuilt facts (argument_in x)) (all_unbuilt facts (trees_in (drop (i + 1) xs))) (all_unbuilt facts (trees_in (drop i xs))) is
    (ap (λ ys. all_unbuilt facts (trees_in ys)) (split xs i x below here) ∙ entry_first facts x (drop (i + 1) xs)) e

pub line_next : (facts : FactList) (found new total : Option ℕ) (ls : List Line) (i : ℕ) (l : Line) → i < length ls → l ≡ get_or ls i l → new ≡ smaller found (least (line_unbuilt facts l)) → smaller found (least (lines_unbuilt facts (drop i ls))) ≡ total → smaller new (least (lines_unbuilt facts (drop (i + 1) ls))) ≡ total
line_next facts found new total ls i l below here is e =
    one_more found new total (line_unbuilt facts l) (lines_unbuilt facts (drop (i + 1) ls)) (lines_unbuilt facts (drop i ls)) is (ap (lines_unbuilt facts) (split ls i l below here)) e

pub function_next : (facts : FactList) (found new total : Option ℕ) (fs : List Function) (i : ℕ) (g : Function) → i < length fs → g ≡ get_or fs i g → new ≡ smaller found (least (lines_unbuilt facts g.lines)) → smaller found (least (functions_unbuilt facts (drop i fs))) ≡ total → smaller new (least (functions_unbuilt facts (drop (i + 1) fs))) ≡ total
function_next facts found new total fs i g below here is e =
    one_more found new total (lines_unbuilt facts g.lines) (functions_unbuilt facts (drop (i + 1) fs)) (functions_unbuilt facts (drop i fs)) is (ap (functions_unbuilt facts) (split fs i g below here)) e

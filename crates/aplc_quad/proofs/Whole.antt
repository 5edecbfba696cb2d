-- An array by its rank: a line, nothing, or planes.
use Rattle.std.proofs.Common.{◌≡◌, ℕ, ◌+◌, ◌-◌, ◌*◌, ◌<◌, ◌≤◌, List, [], ◌∷◌, ◌++◌, refl, ap, sym, ◌∙◌, arith, length}
use Rattle.std.specs.Prelude.{Result, OnOk, map, flat_map, slice_index_or, nat_eq, true, encode_utf8, if◌then◌else◌}
use Rattle.std.proofs.lemmas.Bool.Decides.{nat_tests}
use Rattle.std.proofs.lemmas.List.{length-map}
use Rattle.std.proofs.lemmas.Result.{on_ok_weaker}
use Rattle.aplc_scalar.specs.declared.kind.Kind.{Kind}
use Rattle.aplc_arr.specs.Arrays.{Array, IsArray, product, rank}
use Rattle.aplc_arr.specs.Display.{element_text, gap, parted, layout, planes, shown}
use Rattle.aplc_quad.specs.Rows.{row_bytes, cell_of, listed}
use Rattle.aplc_quad.proofs.Nests.{outer_of, rows_in, columns_in, product_split, some_factor}
use Rattle.aplc_quad.proofs.Shown.{line_shown, layout_is}
use Rattle.aplc_quad.proofs.Widths.{columns_last}

layout_line : (k : Kind) (outer ns : List ℕ) (ts : List (List ℕ)) → length ns < 2 → layout k outer ns ts ≡ parted (gap k) ts ++ 10 ∷ []
layout_line k outer [] ts h = refl
layout_line k outer (n ∷ []) ts h = refl
layout_line k outer (m ∷ n ∷ ns) ts h = absurd (omega (arith, h))

pub vector_shown : (a : Array) (n : ℕ) → IsArray a → rank a < 2 → n ≡ product a.shape → row_bytes a.kind (listed []) (λ j. cell_of a (0 + j)) n ++ 10 ∷ [] ≡ shown a
vector_shown a n array flat is =
    sym (ap (flat_map encode_utf8) (layout_line a.kind [] a.shape (map (element_text a.kind) a.cells) flat) ∙ line_shown a n (array.whole ∙ sym is))

pub nothing_shown : (a : Array) → IsArray a → 2 ≤ rank a → product a.shape ≡ 0 → [] ≡ shown a
nothing_shown a array ranked none =
    let ts = map (element_text a.kind) a.cells in
    let count : nat_eq (length ts) 0 ≡ true = let e = length-map a.cells (element_text a.kind) ∙ array.whole ∙ none in grind (arith, nat_tests) in
    sym (ap (flat_map encode_utf8) (layout_is a.kind [] a.shape ts ranked ∙ ap (λ b. if b then [] else planes a.kind (outer_of a.shape) (rows_in a.shape) (columns_in a.shape) ts) count))

pub last_some : (ns : List ℕ) → 2 ≤ length ns → 0 < product ns → 0 < slice_index_or ns (length ns - 1) 0
last_some ns ranked some =
    let split = product_split ns ranked in
    let factors = some_factor (product (outer_of ns)) (rows_in ns * columns_in ns) (omega (arith, some, split)) in
    let last = columns_last ns ranked in
    let positive = (some_factor (rows_in ns) (columns_in ns) factors.1).1 in
    omega (arith, last, positive)

pub written_same : {E : Type 0} (r : Result (Unit {0}) E) (new old x y : List ℕ) → OnOk r (new ≡ old ++ x) → x ≡ y → OnOk r (new ≡ old ++ y)
written_same r new old x y h e = on_ok_weaker r (λ (f : new ≡ old ++ x). f ∙ ap (λ l. old ++ l) e) h

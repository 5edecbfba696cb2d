-- One more part behind those that are sorted.
use Rattle.std.proofs.Common.{◌≡◌, ◌<◌, List, [], ◌∷◌, ◌++◌, map, refl, ap, ◌∙◌, append_assoc, length, arith}
use Rattle.std.proofs.lemmas.List.{map_push}
use Rattle.aplc_syntax.specs.Layout.{Row, Block, Part, outside, function, above, below, blocks, outsides}
use Rattle.aplc_syntax.specs.declared.layout.Row.{Row as HeldRow}
use Rattle.aplc_syntax.specs.declared.layout.Block.{Block as HeldBlock}
use Rattle.aplc_syntax.specs.Held.{Sorted, sorted_behind, row_of, block_of}

outside_first : (a b : List Row) (r : Row) (ps : List Part) → sorted_behind (a ++ r ∷ []) [] b ps ≡ sorted_behind a [] b (outside r ∷ ps)
outside_first a b r ps = ap (λ (x : List Row). let z : Sorted = record { above = x; blocks = blocks ps; below = b ++ below ps } in z) (append_assoc a (r ∷ []) (above ps))

outside_behind : (a : List Row) (x : Block) (bs : List Block) (b : List Row) (r : Row) (ps : List Part) → sorted_behind a (x ∷ bs) (b ++ r ∷ []) ps ≡ sorted_behind a (x ∷ bs) b (outside r ∷ ps)
outside_behind a x bs b r ps = ap (λ (y : List Row). let z : Sorted = record { above = a; blocks = (x ∷ bs) ++ blocks ps; below = y } in z) (append_assoc b (r ∷ []) (outsides ps))

append_nil : {A : Type 0} (xs : List A) → xs ≡ xs ++ []
append_nil [] = refl
append_nil {A} (x ∷ xs) = ap (λ (ys : List A). x ∷ ys) (append_nil xs)

pub function_more : (a : List Row) (bs : List Block) (b : List Row) (x : Block) (ps : List Part) → sorted_behind a (bs ++ x ∷ []) b ps ≡ sorted_behind a bs b (function x ∷ ps)
function_more a [] b x ps = ap (λ (y : List Row). let z : Sorted = record { above = y; blocks = x ∷ blocks ps; below = b ++ outsides ps } in z) (append_nil a)
function_more a (y ∷ bs) b x ps = ap (λ (ys : List Block). let z : Sorted = record { above = a; blocks = y ∷ ys; below = b ++ outsides ps } in z) (append_assoc bs (x ∷ []) (blocks ps))

pub above_more : (x y : List HeldRow) (bs : List HeldBlock) (b : List Row) (r : HeldRow) (ps : List Part) → y ≡ x ++ r ∷ [] → length bs ≡ 0 → sorted_behind (map row_of y) (map block_of bs) b ps ≡ sorted_behind (map row_of x) (map block_of bs) b (outside (row_of r) ∷ ps)
above_more x y [] b r ps e n = ap (λ (z : List Row). sorted_behind z [] b ps) (ap (map row_of) e ∙ map_push row_of x r) ∙ outside_first (map row_of x) b (row_of r) ps
above_more x y (k ∷ ks) b r ps e n = absurd (omega arith)

pub below_more : (a : List Row) (bs : List HeldBlock) (x y : List HeldRow) (r : HeldRow) (ps : List Part) → y ≡ x ++ r ∷ [] → 0 < length bs → sorted_behind a (map block_of bs) (map row_of y) ps ≡ sorted_behind a (map block_of bs) (map row_of x) (outside (row_of r) ∷ ps)
below_more a [] x y r ps e n = absurd (omega arith)
below_more a (k ∷ ks) x y r ps e n = ap (λ (z : List Row). sorted_behind a (map block_of (k ∷ ks)) z ps) (ap (map row_of) e ∙ map_push row_of x r) ∙ outside_behind a (block_of k) (map block_of ks) (map row_of x) (row_of r) ps

pub block_more : (a : List Row) (x y : List HeldBlock) (b : List Row) (k : HeldBlock) (ps : List Part) → y ≡ x ++ k ∷ [] → sorted_behind a (map block_of y) b ps ≡ sorted_behind a (map block_of x) b (function (block_of k) ∷ ps)
block_more a x y b k ps e = ap (λ (z : List Block). sorted_behind a z b ps) (ap (map block_of) e ∙ map_push block_of x k) ∙ function_more a (map block_of x) b (block_of k) ps

pub ruleset sorts = (above_more, below_more, block_more)

-- Slices: one of one variable, and what is behind the first.
use Rattle.std.proofs.Common.{◌≡◌, ◌+◌, ◌-◌, ◌<◌, ◌≤◌, List, [], ◌∷◌, length, refl, ap, ◌∙◌, arith}
use Rattle.std.specs.Prelude.{take, drop, slice_index_or}
use Rattle.std.proofs.Math.Seq.{take-length}
use Rattle.aplc_cprof.specs.declared.syntax.Int.{Int}
use Rattle.aplc_cprof.specs.declared.syntax.Int.TheVariants as int

pub one_is : (xs : List Int) → 1 ≤ length xs → length xs < 2 → slice_index_or xs 0 (int.Local 0) ∷ [] ≡ xs
one_is [] h k = absurd (omega (arith, h))
one_is (x ∷ []) h k = refl
one_is (x ∷ y ∷ xs) h k = absurd (omega (arith, k))

pub rest_is : (x : Int) (xs : List Int) → take (length (x ∷ xs) - 1) (drop 1 (x ∷ xs)) ≡ xs
rest_is x xs = let e : length (x ∷ xs) - 1 ≡ length xs = omega arith in ap (λ n. take n xs) e ∙ take-length xs

pub rest_length : (xs : List Int) → 1 ≤ length xs → 1 + length (take (length xs - 1) (drop 1 xs)) ≡ length xs
rest_length [] some = absurd (omega (arith, some))
rest_length (x ∷ xs) some = let e = ap length (rest_is x xs) in omega (arith, e)

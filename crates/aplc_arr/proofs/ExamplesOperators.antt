-- Reduction, scan and the products, computed.
use Rattle.std.specs.Prelude.{◌≡◌, [], ◌∷◌, pos, negsuc, codes, map, Some, None, Ok, Err, refl}
use Rattle.aplc_scalar.specs.declared.kind.FaultKind.TheVariants as fault
use Rattle.aplc_arr.specs.Delayed.{computed}
use Rattle.aplc_arr.proofs.Samples.{nums, chars, text}
use Rattle.aplc_scalar.specs.declared.function.ScalarFn.TheVariants as f
use Rattle.aplc_scalar.specs.Scalar.{in_range}
use Rattle.aplc_arr.specs.Operators.{reduced, scanned, outer_product, inner_product}

-- ---- Reduction and scan

-- `-/1 2 3`
from_the_right : computed (reduced f.Sub (Some 0) (nums (3 ∷ []) (map pos (1 ∷ 2 ∷ 3 ∷ [])))) ≡ Ok (nums [] (pos 2 ∷ []))
unfolding in_range
from_the_right = refl

-- `+⌿2 3⍴⍳6`
along_the_first : computed (reduced f.Add (Some 0) (nums (2 ∷ 3 ∷ []) (map pos (1 ∷ 2 ∷ 3 ∷ 4 ∷ 5 ∷ 6 ∷ [])))) ≡ Ok (nums (3 ∷ []) (map pos (5 ∷ 7 ∷ 9 ∷ [])))
unfolding in_range
along_the_first = refl

-- `-/5`
of_a_scalar : computed (reduced f.Sub (Some 0) (nums [] (pos 5 ∷ []))) ≡ Ok (nums [] (pos 5 ∷ []))
of_a_scalar = refl

-- `∧/,5`, which is given unchanged
one_item : computed (reduced f.And (Some 0) (nums (1 ∷ []) (pos 5 ∷ []))) ≡ Ok (nums [] (pos 5 ∷ []))
one_item = refl

-- `⌈/⍳0`
of_nothing : computed (reduced f.Max (Some 0) (nums (0 ∷ []) [])) ≡ Ok (nums [] (negsuc 9223372036854775806 ∷ []))
of_nothing = refl

-- `⍲/⍳0`
no_identity : computed (reduced f.Nand (Some 0) (nums (0 ∷ []) [])) ≡ Err fault.Domain
no_identity = refl

-- `⍲/0 0⍴0`, which needs no identity
no_element : computed (reduced f.Nand (Some 1) (nums (0 ∷ 0 ∷ []) [])) ≡ Ok (nums (0 ∷ []) [])
no_element = refl

-- `+/'ab'`
of_letters : computed (reduced f.Add (Some 0) (text (codes "ab"))) ≡ Err fault.Domain
of_letters = refl

-- `+/[2]1 2`
no_axis : computed (reduced f.Add None (nums (2 ∷ []) (map pos (1 ∷ 2 ∷ [])))) ≡ Err fault.Rank
no_axis = refl

-- `+⌿0 2147483647 2⍴0`
great_result : computed (reduced f.Add (Some 0) (nums (0 ∷ 2147483647 ∷ 2 ∷ []) [])) ≡ Err fault.Limit
great_result = refl

-- `-\1 2 3`
prefixes : computed (scanned f.Sub (Some 0) (nums (3 ∷ []) (map pos (1 ∷ 2 ∷ 3 ∷ [])))) ≡ Ok (nums (3 ∷ []) (pos 1 ∷ negsuc 0 ∷ pos 2 ∷ []))
unfolding in_range
prefixes = refl

-- `+⍀2 3⍴⍳6`
down_the_columns : computed (scanned f.Add (Some 0) (nums (2 ∷ 3 ∷ []) (map pos (1 ∷ 2 ∷ 3 ∷ 4 ∷ 5 ∷ 6 ∷ [])))) ≡ Ok (nums (2 ∷ 3 ∷ []) (map pos (1 ∷ 2 ∷ 3 ∷ 5 ∷ 7 ∷ 9 ∷ [])))
unfolding in_range
down_the_columns = refl

-- `<\0 0 1 1 0`
begun_anew : computed (scanned f.Less (Some 0) (nums (5 ∷ []) (map pos (0 ∷ 0 ∷ 1 ∷ 1 ∷ 0 ∷ [])))) ≡ Ok (nums (5 ∷ []) (map pos (0 ∷ 0 ∷ 1 ∷ 0 ∷ 0 ∷ [])))
begun_anew = refl

-- `+\¯9223372036854775807 9223372036854775807 1`, folded from the right
scan_past_the_range : computed (scanned f.Add (Some 0) (nums (3 ∷ []) (negsuc 9223372036854775806 ∷ pos 9223372036854775807 ∷ pos 1 ∷ []))) ≡ Err fault.Limit
unfolding in_range
scan_past_the_range = refl

-- ---- Products

-- `1 2∘.×1 2 3`
all_pairs : computed (outer_product f.Mul (nums (2 ∷ []) (map pos (1 ∷ 2 ∷ []))) (nums (3 ∷ []) (map pos (1 ∷ 2 ∷ 3 ∷ [])))) ≡ Ok (nums (2 ∷ 3 ∷ []) (map pos (1 ∷ 2 ∷ 3 ∷ 2 ∷ 4 ∷ 6 ∷ [])))
unfolding in_range
all_pairs = refl

-- `'ab'∘.='b'`
letters_paired : computed (outer_product f.Equal (text (codes "ab")) (chars [] (codes "b"))) ≡ Ok (nums (2 ∷ []) (map pos (0 ∷ 1 ∷ [])))
letters_paired = refl

-- `'ab'∘.×1`
letters_multiplied : computed (outer_product f.Mul (text (codes "ab")) (nums [] (pos 1 ∷ []))) ≡ Err fault.Domain
letters_multiplied = refl

-- `(1 1 1 1 1⍴1)∘.+1 1 1 1⍴1`
nine_axes : computed (outer_product f.Add (nums (1 ∷ 1 ∷ 1 ∷ 1 ∷ 1 ∷ []) (pos 1 ∷ [])) (nums (1 ∷ 1 ∷ 1 ∷ 1 ∷ []) (pos 1 ∷ []))) ≡ Err fault.Rank
nine_axes = refl

-- `(0 2147483647⍴0)∘.+1 2`, where the zero makes the number of elements 0
great_table : computed (outer_product f.Add (nums (0 ∷ 2147483647 ∷ []) []) (nums (2 ∷ []) (map pos (1 ∷ 2 ∷ [])))) ≡ Ok (nums (0 ∷ 2147483647 ∷ 2 ∷ []) [])
great_table = refl

-- `(2 2⍴1 2 3 4)+.×2 2⍴0 1 1 0`
matrix_product : computed (inner_product f.Add f.Mul (nums (2 ∷ 2 ∷ []) (map pos (1 ∷ 2 ∷ 3 ∷ 4 ∷ []))) (nums (2 ∷ 2 ∷ []) (map pos (0 ∷ 1 ∷ 1 ∷ 0 ∷ [])))) ≡ Ok (nums (2 ∷ 2 ∷ []) (map pos (2 ∷ 1 ∷ 4 ∷ 3 ∷ [])))
unfolding in_range
matrix_product = refl

-- `2+.×1 2 3`
scalar_extended : computed (inner_product f.Add f.Mul (nums [] (pos 2 ∷ [])) (nums (3 ∷ []) (map pos (1 ∷ 2 ∷ 3 ∷ [])))) ≡ Ok (nums [] (pos 12 ∷ []))
unfolding in_range
scalar_extended = refl

-- `1 2+.×1 2 3`
lengths_that_meet : computed (inner_product f.Add f.Mul (nums (2 ∷ []) (map pos (1 ∷ 2 ∷ []))) (nums (3 ∷ []) (map pos (1 ∷ 2 ∷ 3 ∷ [])))) ≡ Err fault.Length
lengths_that_meet = refl

-- `'ab'∧.='ab'`
letters_inside : computed (inner_product f.And f.Equal (text (codes "ab")) (text (codes "ab"))) ≡ Err fault.Domain
letters_inside = refl

-- `(2 2⍴1 1 9223372036854775807 1)∧.+1 1`: the first row has a fault of ∧, and the second one of +, which comes first
pairs_first : computed (inner_product f.And f.Add (nums (2 ∷ 2 ∷ []) (map pos (1 ∷ 1 ∷ 9223372036854775807 ∷ 1 ∷ []))) (nums (2 ∷ []) (map pos (1 ∷ 1 ∷ [])))) ≡ Err fault.Limit
unfolding in_range
pairs_first = refl

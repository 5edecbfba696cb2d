-- Functions that rearrange elements, computed.
use Rattle.std.specs.Prelude.{◌≡◌, [], ◌∷◌, pos, negsuc, codes, map, Some, None, Ok, Err, refl}
use Rattle.aplc_scalar.specs.declared.kind.FaultKind.TheVariants as fault
use Rattle.aplc_arr.specs.Delayed.{computed}
use Rattle.aplc_arr.proofs.Samples.{nums, chars, text}
use Rattle.aplc_arr.specs.Structure.{shape_of, ravelled, iota, reversed, rotated, transposed, transposed_by, reshaped, catenated}

-- ---- Shape, ravel, index generator

-- `⍴2 3⍴⍳6`
shape_of_matrix : computed (shape_of (nums (2 ∷ 3 ∷ []) (map pos (1 ∷ 2 ∷ 3 ∷ 4 ∷ 5 ∷ 6 ∷ [])))) ≡ Ok (nums (2 ∷ []) (map pos (2 ∷ 3 ∷ [])))
shape_of_matrix = refl

-- `⍴5`
shape_of_scalar : computed (shape_of (nums [] (pos 5 ∷ []))) ≡ Ok (nums (0 ∷ []) [])
shape_of_scalar = refl

-- `,2 2⍴⍳4`
ravel_of_matrix : computed (ravelled (nums (2 ∷ 2 ∷ []) (map pos (1 ∷ 2 ∷ 3 ∷ 4 ∷ [])))) ≡ Ok (nums (4 ∷ []) (map pos (1 ∷ 2 ∷ 3 ∷ 4 ∷ [])))
ravel_of_matrix = refl

-- `,'a'`
ravel_of_scalar : computed (ravelled (chars [] (codes "a"))) ≡ Ok (text (codes "a"))
ravel_of_scalar = refl

-- `⍳3`
from_one : computed (iota (pos 1) (nums [] (pos 3 ∷ []))) ≡ Ok (nums (3 ∷ []) (map pos (1 ∷ 2 ∷ 3 ∷ [])))
from_one = refl

-- `⍳3` with origin 0
from_zero : computed (iota (pos 0) (nums [] (pos 3 ∷ []))) ≡ Ok (nums (3 ∷ []) (map pos (0 ∷ 1 ∷ 2 ∷ [])))
from_zero = refl

-- `⍳0`
none_counted : computed (iota (pos 1) (nums [] (pos 0 ∷ []))) ≡ Ok (nums (0 ∷ []) [])
none_counted = refl

-- `⍳'a'`
count_of_characters : computed (iota (pos 1) (chars [] (codes "a"))) ≡ Err fault.Domain
count_of_characters = refl

-- `⍳1 1⍴3`
count_of_matrix : computed (iota (pos 1) (nums (1 ∷ 1 ∷ []) (pos 3 ∷ []))) ≡ Err fault.Rank
count_of_matrix = refl

-- `⍳2 3`
two_counts : computed (iota (pos 1) (nums (2 ∷ []) (map pos (2 ∷ 3 ∷ [])))) ≡ Err fault.Length
two_counts = refl

-- `⍳¯1`
negative_count : computed (iota (pos 1) (nums [] (negsuc 0 ∷ []))) ≡ Err fault.Domain
negative_count = refl

-- `⍳2147483648`
great_count : computed (iota (pos 1) (nums [] (pos 2147483648 ∷ []))) ≡ Err fault.Limit
great_count = refl

-- ---- Reversal and rotation

-- `⌽2 3⍴⍳6`
rows_reversed : computed (reversed (Some 1) (nums (2 ∷ 3 ∷ []) (map pos (1 ∷ 2 ∷ 3 ∷ 4 ∷ 5 ∷ 6 ∷ [])))) ≡ Ok (nums (2 ∷ 3 ∷ []) (map pos (3 ∷ 2 ∷ 1 ∷ 6 ∷ 5 ∷ 4 ∷ [])))
rows_reversed = refl

-- `⊖2 3⍴⍳6`
columns_reversed : computed (reversed (Some 0) (nums (2 ∷ 3 ∷ []) (map pos (1 ∷ 2 ∷ 3 ∷ 4 ∷ 5 ∷ 6 ∷ [])))) ≡ Ok (nums (2 ∷ 3 ∷ []) (map pos (4 ∷ 5 ∷ 6 ∷ 1 ∷ 2 ∷ 3 ∷ [])))
columns_reversed = refl

-- `⌽[3]2 3⍴⍳6`
no_such_axis : computed (reversed None (nums (2 ∷ 3 ∷ []) (map pos (1 ∷ 2 ∷ 3 ∷ 4 ∷ 5 ∷ 6 ∷ [])))) ≡ Err fault.Rank
no_such_axis = refl

-- `1⌽1 2 3`
to_the_left : computed (rotated (Some 0) (nums [] (pos 1 ∷ [])) (nums (3 ∷ []) (map pos (1 ∷ 2 ∷ 3 ∷ [])))) ≡ Ok (nums (3 ∷ []) (map pos (2 ∷ 3 ∷ 1 ∷ [])))
to_the_left = refl

-- `¯1⌽'abc'`
to_the_right : computed (rotated (Some 0) (nums [] (negsuc 0 ∷ [])) (text (codes "abc"))) ≡ Ok (text (codes "cab"))
to_the_right = refl

-- `9223372036854775807⌽1 2 3`
many_turns : computed (rotated (Some 0) (nums [] (pos 9223372036854775807 ∷ [])) (nums (3 ∷ []) (map pos (1 ∷ 2 ∷ 3 ∷ [])))) ≡ Ok (nums (3 ∷ []) (map pos (2 ∷ 3 ∷ 1 ∷ [])))
many_turns = refl

-- `1⊖2 3⍴⍳6`
rows_turned : computed (rotated (Some 0) (nums [] (pos 1 ∷ [])) (nums (2 ∷ 3 ∷ []) (map pos (1 ∷ 2 ∷ 3 ∷ 4 ∷ 5 ∷ 6 ∷ [])))) ≡ Ok (nums (2 ∷ 3 ∷ []) (map pos (4 ∷ 5 ∷ 6 ∷ 1 ∷ 2 ∷ 3 ∷ [])))
rows_turned = refl

-- `1 1⌽1 2`
turned_by_vector : computed (rotated (Some 0) (nums (2 ∷ []) (map pos (1 ∷ 1 ∷ []))) (nums (2 ∷ []) (map pos (1 ∷ 2 ∷ [])))) ≡ Err fault.Rank
turned_by_vector = refl

-- `'a'⌽1 2`
turned_by_letter : computed (rotated (Some 0) (chars [] (codes "a")) (nums (2 ∷ []) (map pos (1 ∷ 2 ∷ [])))) ≡ Err fault.Domain
turned_by_letter = refl

-- ---- Transposition

-- `⍉2 3⍴⍳6`
flipped : computed (transposed (nums (2 ∷ 3 ∷ []) (map pos (1 ∷ 2 ∷ 3 ∷ 4 ∷ 5 ∷ 6 ∷ [])))) ≡ Ok (nums (3 ∷ 2 ∷ []) (map pos (1 ∷ 4 ∷ 2 ∷ 5 ∷ 3 ∷ 6 ∷ [])))
flipped = refl

-- `⍉5`
scalar_flipped : computed (transposed (nums [] (pos 5 ∷ []))) ≡ Ok (nums [] (pos 5 ∷ []))
scalar_flipped = refl

-- `2 1⍉2 3⍴⍳6`
axes_swapped : computed (transposed_by (pos 1) (nums (2 ∷ []) (map pos (2 ∷ 1 ∷ []))) (nums (2 ∷ 3 ∷ []) (map pos (1 ∷ 2 ∷ 3 ∷ 4 ∷ 5 ∷ 6 ∷ [])))) ≡ Ok (nums (3 ∷ 2 ∷ []) (map pos (1 ∷ 4 ∷ 2 ∷ 5 ∷ 3 ∷ 6 ∷ [])))
axes_swapped = refl

-- `1 1⍉2 3⍴⍳6`, as long as the shorter axis
diagonal : computed (transposed_by (pos 1) (nums (2 ∷ []) (map pos (1 ∷ 1 ∷ []))) (nums (2 ∷ 3 ∷ []) (map pos (1 ∷ 2 ∷ 3 ∷ 4 ∷ 5 ∷ 6 ∷ [])))) ≡ Ok (nums (2 ∷ []) (map pos (1 ∷ 5 ∷ [])))
diagonal = refl

-- `1 3⍉2 3⍴⍳6`
axis_left_out : computed (transposed_by (pos 1) (nums (2 ∷ []) (map pos (1 ∷ 3 ∷ []))) (nums (2 ∷ 3 ∷ []) (map pos (1 ∷ 2 ∷ 3 ∷ 4 ∷ 5 ∷ 6 ∷ [])))) ≡ Err fault.Rank
axis_left_out = refl

-- `1⍉2 3⍴⍳6`
axes_too_few : computed (transposed_by (pos 1) (nums [] (pos 1 ∷ [])) (nums (2 ∷ 3 ∷ []) (map pos (1 ∷ 2 ∷ 3 ∷ 4 ∷ 5 ∷ 6 ∷ [])))) ≡ Err fault.Rank
axes_too_few = refl

-- ---- Reshape

-- `2 3⍴1 2 3 4`
repeated : computed (reshaped (nums (2 ∷ []) (map pos (2 ∷ 3 ∷ []))) (nums (4 ∷ []) (map pos (1 ∷ 2 ∷ 3 ∷ 4 ∷ [])))) ≡ Ok (nums (2 ∷ 3 ∷ []) (map pos (1 ∷ 2 ∷ 3 ∷ 4 ∷ 1 ∷ 2 ∷ [])))
repeated = refl

-- `3⍴''`
filled : computed (reshaped (nums [] (pos 3 ∷ [])) (text [])) ≡ Ok (text (codes "   "))
filled = refl

-- `(⍳0)⍴7 8`
empty_shape : computed (reshaped (nums (0 ∷ []) []) (nums (2 ∷ []) (map pos (7 ∷ 8 ∷ [])))) ≡ Ok (nums [] (pos 7 ∷ []))
empty_shape = refl

-- `0 2147483647 2147483647⍴5`, where the zero makes the number of elements 0
zero_length : computed (reshaped (nums (3 ∷ []) (map pos (0 ∷ 2147483647 ∷ 2147483647 ∷ []))) (nums [] (pos 5 ∷ []))) ≡ Ok (nums (0 ∷ 2147483647 ∷ 2147483647 ∷ []) [])
zero_length = refl

-- `0 2147483648⍴5`, where a length is too great all the same
great_length : computed (reshaped (nums (2 ∷ []) (map pos (0 ∷ 2147483648 ∷ []))) (nums [] (pos 5 ∷ []))) ≡ Err fault.Limit
great_length = refl

-- `65536 65536⍴5`
great_product : computed (reshaped (nums (2 ∷ []) (map pos (65536 ∷ 65536 ∷ []))) (nums [] (pos 5 ∷ []))) ≡ Err fault.Limit
great_product = refl

-- `2147483648 ¯1⍴5`, where DOMAIN comes before LIMIT
negative_first : computed (reshaped (nums (2 ∷ []) (pos 2147483648 ∷ negsuc 0 ∷ [])) (nums [] (pos 5 ∷ []))) ≡ Err fault.Domain
negative_first = refl

-- `1 1 1 1 1 1 1 1 1⍴5`
many_axes : computed (reshaped (nums (9 ∷ []) (map pos (1 ∷ 1 ∷ 1 ∷ 1 ∷ 1 ∷ 1 ∷ 1 ∷ 1 ∷ 1 ∷ []))) (nums [] (pos 5 ∷ []))) ≡ Err fault.Rank
many_axes = refl

-- ---- Catenation

-- `0,2 2⍴1 2 3 4`
scalar_beside : computed (catenated (nums [] (pos 0 ∷ [])) (nums (2 ∷ 2 ∷ []) (map pos (1 ∷ 2 ∷ 3 ∷ 4 ∷ [])))) ≡ Ok (nums (2 ∷ 3 ∷ []) (map pos (0 ∷ 1 ∷ 2 ∷ 0 ∷ 3 ∷ 4 ∷ [])))
scalar_beside = refl

-- `'a','b'`
two_scalars : computed (catenated (chars [] (codes "a")) (chars [] (codes "b"))) ≡ Ok (text (codes "ab"))
two_scalars = refl

-- `1 2,3`
vectors : computed (catenated (nums (2 ∷ []) (map pos (1 ∷ 2 ∷ []))) (nums [] (pos 3 ∷ []))) ≡ Ok (nums (3 ∷ []) (map pos (1 ∷ 2 ∷ 3 ∷ [])))
vectors = refl

-- `1 2,'a'`
mixed_kinds : computed (catenated (nums (2 ∷ []) (map pos (1 ∷ 2 ∷ []))) (chars [] (codes "a"))) ≡ Err fault.Domain
mixed_kinds = refl

-- `1 2,2 2⍴1`
ranks_apart : computed (catenated (nums (2 ∷ []) (map pos (1 ∷ 2 ∷ []))) (nums (2 ∷ 2 ∷ []) (map pos (1 ∷ 1 ∷ 1 ∷ 1 ∷ [])))) ≡ Err fault.Rank
ranks_apart = refl

-- `(2 2⍴1),3 1⍴1`
rows_apart : computed (catenated (nums (2 ∷ 2 ∷ []) (map pos (1 ∷ 1 ∷ 1 ∷ 1 ∷ []))) (nums (3 ∷ 1 ∷ []) (map pos (1 ∷ 1 ∷ 1 ∷ [])))) ≡ Err fault.Length
rows_apart = refl

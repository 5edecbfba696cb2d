-- Functions that choose among elements, and indexing, computed.
use Rattle.std.specs.Prelude.{◌≡◌, [], ◌∷◌, pos, negsuc, codes, map, Some, None, Ok, Err, refl}
use Rattle.aplc_scalar.specs.declared.kind.FaultKind.TheVariants as fault
use Rattle.aplc_arr.specs.Delayed.{computed}
use Rattle.aplc_arr.proofs.Samples.{nums, chars, text}
use Rattle.aplc_arr.specs.Selection.{taken, dropped, replicated, expanded, index_of, members}
use Rattle.aplc_arr.specs.Indexing.{indexed, changed}

-- ---- Take and drop

-- `5↑1 2 3`
more_than_there : computed (taken (nums [] (pos 5 ∷ [])) (nums (3 ∷ []) (map pos (1 ∷ 2 ∷ 3 ∷ [])))) ≡ Ok (nums (5 ∷ []) (map pos (1 ∷ 2 ∷ 3 ∷ 0 ∷ 0 ∷ [])))
more_than_there = refl

-- `¯4↑'abc'`
from_the_end : computed (taken (nums [] (negsuc 3 ∷ [])) (text (codes "abc"))) ≡ Ok (text (codes " abc"))
from_the_end = refl

-- `¯1 2↑2 3⍴⍳6`
corner : computed (taken (nums (2 ∷ []) (negsuc 0 ∷ pos 2 ∷ [])) (nums (2 ∷ 3 ∷ []) (map pos (1 ∷ 2 ∷ 3 ∷ 4 ∷ 5 ∷ 6 ∷ [])))) ≡ Ok (nums (1 ∷ 2 ∷ []) (map pos (4 ∷ 5 ∷ [])))
corner = refl

-- `3↑7`
scalar_taken : computed (taken (nums [] (pos 3 ∷ [])) (nums [] (pos 7 ∷ []))) ≡ Ok (nums (3 ∷ []) (map pos (7 ∷ 0 ∷ 0 ∷ [])))
scalar_taken = refl

-- `'a'↑1 2`
take_by_letter : computed (taken (chars [] (codes "a")) (nums (2 ∷ []) (map pos (1 ∷ 2 ∷ [])))) ≡ Err fault.Domain
take_by_letter = refl

-- `2↑2 3⍴⍳6`
scalar_on_matrix : computed (taken (nums [] (pos 2 ∷ [])) (nums (2 ∷ 3 ∷ []) (map pos (1 ∷ 2 ∷ 3 ∷ 4 ∷ 5 ∷ 6 ∷ [])))) ≡ Err fault.Rank
scalar_on_matrix = refl

-- `(,2)↑2 3⍴⍳6`
too_few_counts : computed (taken (nums (1 ∷ []) (pos 2 ∷ [])) (nums (2 ∷ 3 ∷ []) (map pos (1 ∷ 2 ∷ 3 ∷ 4 ∷ 5 ∷ 6 ∷ [])))) ≡ Err fault.Length
too_few_counts = refl

-- `2147483648↑1`
great_take : computed (taken (nums [] (pos 2147483648 ∷ [])) (nums [] (pos 1 ∷ []))) ≡ Err fault.Limit
great_take = refl

-- `2↓1 2 3`
rest : computed (dropped (nums [] (pos 2 ∷ [])) (nums (3 ∷ []) (map pos (1 ∷ 2 ∷ 3 ∷ [])))) ≡ Ok (nums (1 ∷ []) (pos 3 ∷ []))
rest = refl

-- `0 ¯1↓2 3⍴⍳6`
without_the_end : computed (dropped (nums (2 ∷ []) (pos 0 ∷ negsuc 0 ∷ [])) (nums (2 ∷ 3 ∷ []) (map pos (1 ∷ 2 ∷ 3 ∷ 4 ∷ 5 ∷ 6 ∷ [])))) ≡ Ok (nums (2 ∷ 2 ∷ []) (map pos (1 ∷ 2 ∷ 4 ∷ 5 ∷ [])))
without_the_end = refl

-- `5↓'abc'`
all_dropped : computed (dropped (nums [] (pos 5 ∷ [])) (text (codes "abc"))) ≡ Ok (text [])
all_dropped = refl

-- `1 1↓1 2 3`
drop_of_two : computed (dropped (nums (2 ∷ []) (map pos (1 ∷ 1 ∷ []))) (nums (3 ∷ []) (map pos (1 ∷ 2 ∷ 3 ∷ [])))) ≡ Err fault.Length
drop_of_two = refl

-- ---- Replicate and expand

-- `1 0 2/'abc'`
as_often : computed (replicated (Some 0) (nums (3 ∷ []) (map pos (1 ∷ 0 ∷ 2 ∷ []))) (text (codes "abc"))) ≡ Ok (text (codes "acc"))
as_often = refl

-- `0 1⌿2 3⍴⍳6`
rows_chosen : computed (replicated (Some 0) (nums (2 ∷ []) (map pos (0 ∷ 1 ∷ []))) (nums (2 ∷ 3 ∷ []) (map pos (1 ∷ 2 ∷ 3 ∷ 4 ∷ 5 ∷ 6 ∷ [])))) ≡ Ok (nums (1 ∷ 3 ∷ []) (map pos (4 ∷ 5 ∷ 6 ∷ [])))
rows_chosen = refl

-- `2/1 2`
all_as_often : computed (replicated (Some 0) (nums [] (pos 2 ∷ [])) (nums (2 ∷ []) (map pos (1 ∷ 2 ∷ [])))) ≡ Ok (nums (4 ∷ []) (map pos (1 ∷ 1 ∷ 2 ∷ 2 ∷ [])))
all_as_often = refl

-- `1 0 2/7`
scalar_repeated : computed (replicated (Some 0) (nums (3 ∷ []) (map pos (1 ∷ 0 ∷ 2 ∷ []))) (nums [] (pos 7 ∷ []))) ≡ Ok (nums (3 ∷ []) (map pos (7 ∷ 7 ∷ 7 ∷ [])))
scalar_repeated = refl

-- `1 0/1 2 3`
counts_apart : computed (replicated (Some 0) (nums (2 ∷ []) (map pos (1 ∷ 0 ∷ []))) (nums (3 ∷ []) (map pos (1 ∷ 2 ∷ 3 ∷ [])))) ≡ Err fault.Length
counts_apart = refl

-- `1 ¯1/1 2`
negative_count : computed (replicated (Some 0) (nums (2 ∷ []) (pos 1 ∷ negsuc 0 ∷ [])) (nums (2 ∷ []) (map pos (1 ∷ 2 ∷ [])))) ≡ Err fault.Domain
negative_count = refl

-- `9223372036854775807 ¯1/1 2`, where DOMAIN comes before LIMIT
great_before_negative : computed (replicated (Some 0) (nums (2 ∷ []) (pos 9223372036854775807 ∷ negsuc 0 ∷ [])) (nums (2 ∷ []) (map pos (1 ∷ 2 ∷ [])))) ≡ Err fault.Domain
great_before_negative = refl

-- `2147483647 1/1 2`
great_sum : computed (replicated (Some 0) (nums (2 ∷ []) (map pos (2147483647 ∷ 1 ∷ []))) (nums (2 ∷ []) (map pos (1 ∷ 2 ∷ [])))) ≡ Err fault.Limit
great_sum = refl

-- `(1 1⍴1)/1`
counts_in_a_matrix : computed (replicated (Some 0) (nums (1 ∷ 1 ∷ []) (pos 1 ∷ [])) (nums [] (pos 1 ∷ []))) ≡ Err fault.Rank
counts_in_a_matrix = refl

-- `1 0 1\'ab'`
spread : computed (expanded (Some 0) (nums (3 ∷ []) (map pos (1 ∷ 0 ∷ 1 ∷ []))) (text (codes "ab"))) ≡ Ok (text (codes "a b"))
spread = refl

-- `1 0 1⍀2 2⍴1 2 3 4`
rows_spread : computed (expanded (Some 0) (nums (3 ∷ []) (map pos (1 ∷ 0 ∷ 1 ∷ []))) (nums (2 ∷ 2 ∷ []) (map pos (1 ∷ 2 ∷ 3 ∷ 4 ∷ [])))) ≡ Ok (nums (3 ∷ 2 ∷ []) (map pos (1 ∷ 2 ∷ 0 ∷ 0 ∷ 3 ∷ 4 ∷ [])))
rows_spread = refl

-- `1 0 1\7`
scalar_spread : computed (expanded (Some 0) (nums (3 ∷ []) (map pos (1 ∷ 0 ∷ 1 ∷ []))) (nums [] (pos 7 ∷ []))) ≡ Ok (nums (3 ∷ []) (map pos (7 ∷ 0 ∷ 7 ∷ [])))
scalar_spread = refl

-- `2 1\1 2`
not_bits : computed (expanded (Some 0) (nums (2 ∷ []) (map pos (2 ∷ 1 ∷ []))) (nums (2 ∷ []) (map pos (1 ∷ 2 ∷ [])))) ≡ Err fault.Domain
not_bits = refl

-- `1 0 1\1 2 3`
ones_apart : computed (expanded (Some 0) (nums (3 ∷ []) (map pos (1 ∷ 0 ∷ 1 ∷ []))) (nums (3 ∷ []) (map pos (1 ∷ 2 ∷ 3 ∷ [])))) ≡ Err fault.Length
ones_apart = refl

-- ---- Index-of and membership

-- `'ABC'⍳'CAX'`
places : computed (index_of (pos 1) (text (codes "ABC")) (text (codes "CAX"))) ≡ Ok (nums (3 ∷ []) (map pos (3 ∷ 1 ∷ 4 ∷ [])))
places = refl

-- `5 6 5⍳2 2⍴5 6 7 5` with origin 0
places_from_zero : computed (index_of (pos 0) (nums (3 ∷ []) (map pos (5 ∷ 6 ∷ 5 ∷ []))) (nums (2 ∷ 2 ∷ []) (map pos (5 ∷ 6 ∷ 7 ∷ 5 ∷ [])))) ≡ Ok (nums (2 ∷ 2 ∷ []) (map pos (0 ∷ 1 ∷ 3 ∷ 0 ∷ [])))
places_from_zero = refl

-- `5⍳5`
place_in_scalar : computed (index_of (pos 1) (nums [] (pos 5 ∷ [])) (nums [] (pos 5 ∷ []))) ≡ Err fault.Rank
place_in_scalar = refl

-- `1 5∊⍳3`
among : computed (members (nums (2 ∷ []) (map pos (1 ∷ 5 ∷ []))) (nums (3 ∷ []) (map pos (1 ∷ 2 ∷ 3 ∷ [])))) ≡ Ok (nums (2 ∷ []) (map pos (1 ∷ 0 ∷ [])))
among = refl

-- `65∊'A'`
among_letters : computed (members (nums [] (pos 65 ∷ [])) (chars [] (codes "A"))) ≡ Ok (nums [] (pos 0 ∷ []))
among_letters = refl

-- ---- Indexing

-- `5 6 7[3 1 3]`
picked_twice : computed (indexed (pos 1) (nums (3 ∷ []) (map pos (5 ∷ 6 ∷ 7 ∷ []))) (Some (nums (3 ∷ []) (map pos (3 ∷ 1 ∷ 3 ∷ []))) ∷ [])) ≡ Ok (nums (3 ∷ []) (map pos (7 ∷ 5 ∷ 7 ∷ [])))
picked_twice = refl

-- `(2 3⍴⍳6)[2;]`
whole_row : computed (indexed (pos 1) (nums (2 ∷ 3 ∷ []) (map pos (1 ∷ 2 ∷ 3 ∷ 4 ∷ 5 ∷ 6 ∷ []))) (Some (nums [] (pos 2 ∷ [])) ∷ None ∷ [])) ≡ Ok (nums (3 ∷ []) (map pos (4 ∷ 5 ∷ 6 ∷ [])))
whole_row = refl

-- `'ab'[2 2⍴0 1 1 0]` with origin 0
letters_in_a_matrix : computed (indexed (pos 0) (text (codes "ab")) (Some (nums (2 ∷ 2 ∷ []) (map pos (0 ∷ 1 ∷ 1 ∷ 0 ∷ []))) ∷ [])) ≡ Ok (chars (2 ∷ 2 ∷ []) (codes "abba"))
letters_in_a_matrix = refl

-- `5 6 7[4]`
outside : computed (indexed (pos 1) (nums (3 ∷ []) (map pos (5 ∷ 6 ∷ 7 ∷ []))) (Some (nums [] (pos 4 ∷ [])) ∷ [])) ≡ Err fault.Index
outside = refl

-- `(2 3⍴⍳6)[⍳0;4]`, where the result has no element
outside_without_element : computed (indexed (pos 1) (nums (2 ∷ 3 ∷ []) (map pos (1 ∷ 2 ∷ 3 ∷ 4 ∷ 5 ∷ 6 ∷ []))) (Some (nums (0 ∷ []) []) ∷ Some (nums [] (pos 4 ∷ [])) ∷ [])) ≡ Err fault.Index
outside_without_element = refl

-- `5 6 7[1;1]`
entries_apart : computed (indexed (pos 1) (nums (3 ∷ []) (map pos (5 ∷ 6 ∷ 7 ∷ []))) (Some (nums [] (pos 1 ∷ [])) ∷ Some (nums [] (pos 1 ∷ [])) ∷ [])) ≡ Err fault.Rank
entries_apart = refl

-- `5[1]`
no_axis : computed (indexed (pos 1) (nums [] (pos 5 ∷ [])) (Some (nums [] (pos 1 ∷ [])) ∷ [])) ≡ Err fault.Rank
no_axis = refl

-- `5 6['a']`
by_letters : computed (indexed (pos 1) (nums (2 ∷ []) (map pos (5 ∷ 6 ∷ []))) (Some (chars [] (codes "a")) ∷ [])) ≡ Err fault.Domain
by_letters = refl

-- ---- Indexed assignment, what is left of the array

-- `A[2 2]←7 8` where A is 1 2 3: the last stays
set_in_order : changed (pos 1) (nums (3 ∷ []) (map pos (1 ∷ 2 ∷ 3 ∷ []))) (Some (nums (2 ∷ []) (map pos (2 ∷ 2 ∷ []))) ∷ []) (nums (2 ∷ []) (map pos (7 ∷ 8 ∷ []))) ≡ Ok (nums (3 ∷ []) (map pos (1 ∷ 8 ∷ 3 ∷ [])))
set_in_order = refl

-- `A[1;]←0` where A is 2 3⍴⍳6
row_set : changed (pos 1) (nums (2 ∷ 3 ∷ []) (map pos (1 ∷ 2 ∷ 3 ∷ 4 ∷ 5 ∷ 6 ∷ []))) (Some (nums [] (pos 1 ∷ [])) ∷ None ∷ []) (nums [] (pos 0 ∷ [])) ≡ Ok (nums (2 ∷ 3 ∷ []) (map pos (0 ∷ 0 ∷ 0 ∷ 4 ∷ 5 ∷ 6 ∷ [])))
row_set = refl

-- `A[1]←'a'`
letters_into_numbers : changed (pos 1) (nums (3 ∷ []) (map pos (1 ∷ 2 ∷ 3 ∷ []))) (Some (nums [] (pos 1 ∷ [])) ∷ []) (chars [] (codes "a")) ≡ Err fault.Domain
letters_into_numbers = refl

-- `A[4 4]←1 2 3`, where the length is wrong too
length_before_index : changed (pos 1) (nums (3 ∷ []) (map pos (1 ∷ 2 ∷ 3 ∷ []))) (Some (nums (2 ∷ []) (map pos (4 ∷ 4 ∷ []))) ∷ []) (nums (3 ∷ []) (map pos (1 ∷ 2 ∷ 3 ∷ []))) ≡ Err fault.Length
length_before_index = refl

-- `A[4 4]←1 2`
set_outside : changed (pos 1) (nums (3 ∷ []) (map pos (1 ∷ 2 ∷ 3 ∷ []))) (Some (nums (2 ∷ []) (map pos (4 ∷ 4 ∷ []))) ∷ []) (nums (2 ∷ []) (map pos (1 ∷ 2 ∷ []))) ≡ Err fault.Index
set_outside = refl

-- Scalar functions on arrays, computed.
use Rattle.std.specs.Prelude.{◌≡◌, [], ◌∷◌, pos, negsuc, codes, map, Ok, Err, refl}
use Rattle.aplc_scalar.specs.declared.kind.FaultKind.TheVariants as fault
use Rattle.aplc_arr.specs.Delayed.{computed}
use Rattle.aplc_arr.proofs.Samples.{nums, chars, text}
use Rattle.aplc_scalar.specs.declared.function.ScalarFn.TheVariants as f
use Rattle.aplc_scalar.specs.Scalar.{in_range}
use Rattle.aplc_arr.specs.Each.{each_monadic, each_dyadic}

-- `-3 ¯4`
negatives : computed (each_monadic f.Sub (nums (2 ∷ []) (pos 3 ∷ negsuc 3 ∷ []))) ≡ Ok (nums (2 ∷ []) (negsuc 2 ∷ pos 4 ∷ []))
negatives = refl

-- `×¯8 0 5`
signs : computed (each_monadic f.Mul (nums (3 ∷ []) (negsuc 7 ∷ pos 0 ∷ pos 5 ∷ []))) ≡ Ok (nums (3 ∷ []) (negsuc 0 ∷ pos 0 ∷ pos 1 ∷ []))
signs = refl

-- `~1 2`
not_a_bit : computed (each_monadic f.Not (nums (2 ∷ []) (map pos (1 ∷ 2 ∷ [])))) ≡ Err fault.Domain
not_a_bit = refl

-- `-'ab'`
characters_alone : computed (each_monadic f.Sub (text (codes "ab"))) ≡ Err fault.Domain
characters_alone = refl

-- `10+2 2⍴1 2 3 4`
scalar_left : computed (each_dyadic f.Add (nums [] (pos 10 ∷ [])) (nums (2 ∷ 2 ∷ []) (map pos (1 ∷ 2 ∷ 3 ∷ 4 ∷ [])))) ≡ Ok (nums (2 ∷ 2 ∷ []) (map pos (11 ∷ 12 ∷ 13 ∷ 14 ∷ [])))
unfolding in_range
scalar_left = refl

-- `(,5)+1 2 3`
one_element : computed (each_dyadic f.Add (nums (1 ∷ []) (pos 5 ∷ [])) (nums (3 ∷ []) (map pos (1 ∷ 2 ∷ 3 ∷ [])))) ≡ Ok (nums (3 ∷ []) (map pos (6 ∷ 7 ∷ 8 ∷ [])))
unfolding in_range
one_element = refl

-- `(,5)+⍳0`
one_beside_none : computed (each_dyadic f.Add (nums (1 ∷ []) (pos 5 ∷ [])) (nums (0 ∷ []) [])) ≡ Ok (nums (0 ∷ []) [])
one_beside_none = refl

-- `¯3|7`
residue : computed (each_dyadic f.Residue (nums [] (negsuc 2 ∷ [])) (nums [] (pos 7 ∷ []))) ≡ Ok (nums [] (negsuc 1 ∷ []))
residue = refl

-- `'abc'='axc'`
equal_letters : computed (each_dyadic f.Equal (text (codes "abc")) (text (codes "axc"))) ≡ Ok (nums (3 ∷ []) (map pos (1 ∷ 0 ∷ 1 ∷ [])))
equal_letters = refl

-- `'ab'=1`
never_equal : computed (each_dyadic f.Equal (text (codes "ab")) (nums [] (pos 1 ∷ []))) ≡ Ok (nums (2 ∷ []) (map pos (0 ∷ 0 ∷ [])))
never_equal = refl

-- `'ab'≠1`
always_unequal : computed (each_dyadic f.NotEqual (text (codes "ab")) (nums [] (pos 1 ∷ []))) ≡ Ok (nums (2 ∷ []) (map pos (1 ∷ 1 ∷ [])))
always_unequal = refl

-- `1+'a'`
kinds : computed (each_dyadic f.Add (nums [] (pos 1 ∷ [])) (chars [] (codes "a"))) ≡ Err fault.Domain
kinds = refl

-- `'ab'+2 2⍴1`, where the rank is wrong too
kind_before_rank : computed (each_dyadic f.Add (text (codes "ab")) (nums (2 ∷ 2 ∷ []) (map pos (1 ∷ 1 ∷ 1 ∷ 1 ∷ [])))) ≡ Err fault.Domain
kind_before_rank = refl

-- `(2 2⍴1)+1 2`
ranks : computed (each_dyadic f.Add (nums (2 ∷ 2 ∷ []) (map pos (1 ∷ 1 ∷ 1 ∷ 1 ∷ []))) (nums (2 ∷ []) (map pos (1 ∷ 2 ∷ [])))) ≡ Err fault.Rank
ranks = refl

-- `1 2+1 1 1`
lengths : computed (each_dyadic f.Add (nums (2 ∷ []) (map pos (1 ∷ 2 ∷ []))) (nums (3 ∷ []) (map pos (1 ∷ 1 ∷ 1 ∷ [])))) ≡ Err fault.Length
lengths = refl

-- `9223372036854775807+0 1`
too_great : computed (each_dyadic f.Add (nums [] (pos 9223372036854775807 ∷ [])) (nums (2 ∷ []) (map pos (0 ∷ 1 ∷ [])))) ≡ Err fault.Limit
unfolding in_range
too_great = refl

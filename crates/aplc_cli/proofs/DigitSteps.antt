-- The value of digits, digit by digit.
use Rattle.std.proofs.Common.{◌≡◌, ℕ, ◌+◌, ◌-◌, ◌*◌, ◌^◌, ◌<◌, ◌≤◌, List, [], ◌∷◌, length, drop, get_or, Bool, true, false, cond, ◌&&◌, nat_lt, Option, Some, None, refl, ap, sym, ◌∙◌, arith}
use Rattle.std.specs.List.{list_all}
use Rattle.std.proofs.lemmas.List.{drop_more, drop_all}
use Rattle.std.proofs.lemmas.Bool.{lt-ltb, le-ltb}
use Rattle.aplc_cli.specs.Digits.{is_digit, digits_from, magnitude}

-- the value of further digits behind a value, if it is in the range
unfoldable pub limited : ℕ → List ℕ → Option ℕ
limited n ds = cond (list_all is_digit ds && nat_lt (digits_from n ds) (2 ^ 63)) (Some (digits_from n ds)) None

grows : (n : ℕ) (ds : List ℕ) → n ≤ digits_from n ds
grows n [] = omega arith
grows n (d ∷ ds) = let h = grows (n * 10 + (d - 48)) ds in omega (arith, h)

past : (b : Bool) (n : ℕ) → 2 ^ 63 ≤ n → cond (b && nat_lt n (2 ^ 63)) (Some n) None ≡ None
past true n h = ap (λ t. cond t (Some n) None) (le-ltb n (2 ^ 63) h)
past false n h = refl

-- what is out of the range stays so
big_at : (n : ℕ) (ds : List ℕ) → 2 ^ 63 ≤ n → limited n ds ≡ None
unfolding limited
big_at n ds h = let g = grows n ds in past (list_all is_digit ds) (digits_from n ds) (omega (arith, g))

split : (ds : List ℕ) (i : ℕ) → i < length ds → drop i ds ≡ get_or ds i 0 ∷ drop (i + 1) ds
split ds i h = drop_more ds i 0 h

more_at : (n d : ℕ) (ds : List ℕ) → is_digit d ≡ true → limited (n * 10 + (d - 48)) ds ≡ limited n (d ∷ ds)
unfolding limited
more_at n d ds h = ap (λ t. cond (t && list_all is_digit ds && nat_lt (digits_from (n * 10 + (d - 48)) ds) (2 ^ 63)) (Some (digits_from (n * 10 + (d - 48)) ds)) None) (sym h)

bad_at : (n d : ℕ) (ds : List ℕ) → is_digit d ≡ false → None ≡ limited n (d ∷ ds)
unfolding limited
bad_at n d ds h = ap (λ t. cond (t && list_all is_digit ds && nat_lt (digits_from (n * 10 + (d - 48)) ds) (2 ^ 63)) (Some (digits_from (n * 10 + (d - 48)) ds)) None) (sym h)

-- by index
pub digit_more : (n : ℕ) (ds : List ℕ) (i : ℕ) → i < length ds → is_digit (get_or ds i 0) ≡ true → limited (n * 10 + (get_or ds i 0 - 48)) (drop (i + 1) ds) ≡ limited n (drop i ds)
digit_more n ds i h e = more_at n _ _ e ∙ sym (ap (limited n) (split ds i h))

pub digit_bad : (n : ℕ) (ds : List ℕ) (i : ℕ) → i < length ds → is_digit (get_or ds i 0) ≡ false → None ≡ limited n (drop i ds)
digit_bad n ds i h e = bad_at n _ _ e ∙ sym (ap (limited n) (split ds i h))

pub digit_full : (n : ℕ) (ds : List ℕ) (i : ℕ) → i < length ds → is_digit (get_or ds i 0) ≡ true → 922337203685477580 < n → None ≡ limited n (drop i ds)
digit_full n ds i h e g = sym (sym (digit_more n ds i h e) ∙ big_at _ _ (omega arith))

pub digit_past : (n : ℕ) (ds : List ℕ) (i : ℕ) → i < length ds → is_digit (get_or ds i 0) ≡ true → 9223372036854775807 < n * 10 + (get_or ds i 0 - 48) → None ≡ limited n (drop i ds)
digit_past n ds i h e g = sym (sym (digit_more n ds i h e) ∙ big_at _ _ (omega arith))

end_at : (n : ℕ) → n < 2 ^ 63 → Some n ≡ limited n []
unfolding limited
end_at n h = ap (λ t. cond t (Some n) None) (sym (lt-ltb n (2 ^ 63) h))

pub digits_end : (n : ℕ) (ds : List ℕ) (i : ℕ) → length ds ≤ i → n ≤ 9223372036854775807 → Some n ≡ limited n (drop i ds)
digits_end n ds i h g = end_at n (omega arith) ∙ sym (ap (limited n) (drop_all i ds h))

pub digits_begin : (ds : List ℕ) → 0 < length ds → limited 0 ds ≡ magnitude ds
unfolding limited magnitude
digits_begin [] h = absurd (omega arith)
digits_begin (d ∷ ds) h = refl

pub digits_none : (ds : List ℕ) → length ds ≡ 0 → None ≡ magnitude ds
unfolding magnitude
digits_none [] h = refl
digits_none (d ∷ ds) h = absurd (omega arith)

pub ruleset steps = (digit_more, digit_bad, digit_full, digit_past, digits_end, digits_begin, digits_none)

-- The numbers of a line, part by part, and the cells of one.
use Rattle.std.proofs.Common.{◌≡◌, ◌∙◌, ap, sym, refl, subst, ℕ, suc, ◌+◌, ◌-◌, ◌*◌, ◌^◌, ◌<◌, ◌≤◌, List, [], ◌∷◌, ◌++◌, length, take, drop, get_or, append_assoc, append-nil, arith, Bool, true, false, cond, ◌&&◌, nat_lt, ℤ, pos, Option, Some, None, option_map, option_and_then}
use Rattle.std.specs.Prelude.{not, position, ◌==◌}
use Rattle.std.specs.Char.{digit_value, is_ascii_digit}
use Rattle.std.specs.Str.{IsUtf8, chars, all_ascii_digits}
use Rattle.std.specs.Str.Parse.{digits_value, digits_value_after}
use Rattle.std.specs.List.{position_or_len}
use Rattle.std.proofs.lemmas.List.{drop_more, drop_all, take_all}
use Rattle.std.proofs.lemmas.Bool.{lt-ltb, le-ltb}
use Rattle.std.proofs.lemmas.List.Sums.{prefix_len-le-length}
use Rattle.aplc_scalar.specs.Input.{decoded, is_blank, is_minus, onto_first, parts, magnitude, opposite, number, onto_numbers, numbers_of, numbers}
use Rattle.aplc_scalar.proofs.InputLaws.{decoded-utf8, decoded-other}
use Rattle.aplc_crun.specs.Decoding.{before, of_part}

-- ---- Digits

-- the number of further digits behind those of a number, if it is in the range
unfoldable pub limited : ℕ → List ℕ → Option ℕ
limited n ds = cond (all_ascii_digits ds && nat_lt (digits_value_after 10 n ds) (2 ^ 63)) (Some (digits_value_after 10 n ds)) None

grows : (n : ℕ) (ds : List ℕ) → n ≤ digits_value_after 10 n ds
grows n [] = omega arith
grows n (d ∷ ds) = let h = grows (n * 10 + digit_value d) ds in omega (arith, h)

past : (b : Bool) (n : ℕ) → 2 ^ 63 ≤ n → cond (b && nat_lt n (2 ^ 63)) (Some n) None ≡ None
past true n h = ap (λ t. cond t (Some n) None) (le-ltb n (2 ^ 63) h)
past false n h = refl

big_at : (n : ℕ) (ds : List ℕ) → 2 ^ 63 ≤ n → limited n ds ≡ None
unfolding limited
big_at n ds h = let g = grows n ds in past (all_ascii_digits ds) (digits_value_after 10 n ds) (omega (arith, g))

is_decimal : (c : ℕ) → digit_value c < 10 → is_ascii_digit c ≡ true
is_decimal c h = grind arith

not_decimal : (c : ℕ) → (digit_value c < 10 → ⊥) → is_ascii_digit c ≡ false
not_decimal c h = grind arith

split : (x : ℕ) (ds : List ℕ) (i : ℕ) → i < length ds → x ≡ get_or ds i x → drop i ds ≡ x ∷ drop (i + 1) ds
split x ds i h e = drop_more ds i x h ∙ ap (λ c. c ∷ drop (i + 1) ds) (sym e)

more_at : (n d : ℕ) (ds : List ℕ) → is_ascii_digit d ≡ true → limited (n * 10 + digit_value d) ds ≡ limited n (d ∷ ds)
unfolding limited
more_at n d ds h = ap (λ t. cond (t && all_ascii_digits ds && nat_lt (digits_value_after 10 (n * 10 + digit_value d) ds) (2 ^ 63)) (Some (digits_value_after 10 (n * 10 + digit_value d) ds)) None) (sym h)

bad_at : (n d : ℕ) (ds : List ℕ) → is_ascii_digit d ≡ false → None ≡ limited n (d ∷ ds)
unfolding limited
bad_at n d ds h = ap (λ t. cond (t && all_ascii_digits ds && nat_lt (digits_value_after 10 (n * 10 + digit_value d) ds) (2 ^ 63)) (Some (digits_value_after 10 (n * 10 + digit_value d) ds)) None) (sym h)

-- by index, with the digit that was found
module _ (n x : ℕ) (ds : List ℕ) (i : ℕ) (within : i < length ds) (here : x ≡ get_or ds i x) where
  pub digit_more : (v : ℕ) → digit_value x < 10 → v ≡ digit_value x → limited (n * 10 + v) (drop (i + 1) ds) ≡ limited n (drop i ds)
  digit_more v e is = ap (λ k. limited (n * 10 + k) (drop (i + 1) ds)) is ∙ more_at n x (drop (i + 1) ds) (is_decimal x e) ∙ sym (ap (limited n) (split x ds i within here))

  pub digit_bad : (digit_value x < 10 → ⊥) → None ≡ limited n (drop i ds)
  digit_bad e = bad_at n x (drop (i + 1) ds) (not_decimal x e) ∙ sym (ap (limited n) (split x ds i within here))

  pub digit_full : digit_value x < 10 → 922337203685477580 < n → None ≡ limited n (drop i ds)
  digit_full e g = sym (sym (digit_more (digit_value x) e refl) ∙ big_at (n * 10 + digit_value x) (drop (i + 1) ds) (omega arith))

  pub digit_past : (v : ℕ) → digit_value x < 10 → v ≡ digit_value x → 9223372036854775807 < n * 10 + v → None ≡ limited n (drop i ds)
  digit_past v e is g = sym (sym (digit_more v e is) ∙ big_at (n * 10 + v) (drop (i + 1) ds) (omega arith))

end_at : (n : ℕ) → n < 2 ^ 63 → Some n ≡ limited n []
unfolding limited
end_at n h = ap (λ t. cond t (Some n) None) (sym (lt-ltb n (2 ^ 63) h))

pub digits_end : (n : ℕ) (ds : List ℕ) (i : ℕ) → length ds ≤ i → n ≤ 9223372036854775807 → Some n ≡ limited n (drop i ds)
digits_end n ds i h g = end_at n (omega arith) ∙ sym (ap (limited n) (drop_all i ds h))

pub digits_begin : (ds : List ℕ) → 0 < length ds → limited 0 ds ≡ magnitude ds
unfolding limited
digits_begin [] h = absurd (omega arith)
digits_begin (d ∷ ds) h =
    let some : nat_lt 0 (length (d ∷ ds)) ≡ true = lt-ltb 0 (length (d ∷ ds)) h in
    ap (λ t. cond (t && all_ascii_digits (d ∷ ds) && nat_lt (digits_value 10 (d ∷ ds)) (2 ^ 63)) (Some (digits_value 10 (d ∷ ds))) None) (sym some)

pub digits_none : (ds : List ℕ) → length ds ≡ 0 → None ≡ magnitude ds
digits_none [] h = refl
digits_none (d ∷ ds) h = absurd (omega arith)

pub ruleset digits = (digits_end, digits_begin, digits_none)

-- ---- Signs

pub signed_none : (c : ℕ) (cs : List ℕ) → is_minus c ≡ true → None ≡ magnitude cs → None ≡ number (c ∷ cs)
signed_none c cs h e = ap (option_map opposite) e ∙ sym (ap (λ t. cond t (option_map opposite (magnitude cs)) (option_map pos (magnitude (c ∷ cs)))) h)

pub signed_some : (c n : ℕ) (cs : List ℕ) → is_minus c ≡ true → Some n ≡ magnitude cs → Some (opposite n) ≡ number (c ∷ cs)
signed_some c n cs h e = ap (option_map opposite) e ∙ sym (ap (λ t. cond t (option_map opposite (magnitude cs)) (option_map pos (magnitude (c ∷ cs)))) h)

pub plain_none : (c : ℕ) (cs : List ℕ) → is_minus c ≡ false → None ≡ magnitude (c ∷ cs) → None ≡ number (c ∷ cs)
plain_none c cs h e = ap (option_map pos) e ∙ sym (ap (λ t. cond t (option_map opposite (magnitude cs)) (option_map pos (magnitude (c ∷ cs)))) h)

pub plain_some : (c n : ℕ) (cs : List ℕ) → is_minus c ≡ false → Some n ≡ magnitude (c ∷ cs) → Some (pos n) ≡ number (c ∷ cs)
plain_some c n cs h e = ap (option_map pos) e ∙ sym (ap (λ t. cond t (option_map opposite (magnitude cs)) (option_map pos (magnitude (c ∷ cs)))) h)

pub ruleset signs = (signed_none, signed_some, plain_none, plain_some)

-- ---- Parts

pub before_none : (o : Option (List ℤ)) → before [] o ≡ o
unfolding before
before_none None = refl
before_none (Some ns) = refl

before_before : (a b : List ℤ) (o : Option (List ℤ)) → before a (before b o) ≡ before (a ++ b) o
unfolding before
before_before a b None = refl
before_before a b (Some ns) = ap (λ l. Some l) (sym (append_assoc a b ns))

abbrev joined : Option (List ℤ) → Option (List ℤ) → Option (List ℤ)
joined None o = None
joined (Some ns) o = before ns o

first_of : (w : List ℕ) (ws : List (List ℕ)) → numbers_of (w ∷ ws) ≡ joined (of_part w) (numbers_of ws)
unfolding before
first_of [] ws = sym (before_none (numbers_of ws))
first_of (c ∷ cs) ws = by_number (number (c ∷ cs)) (numbers_of ws)
  where
    by_number : (n : Option ℤ) (ns : Option (List ℤ)) → onto_numbers n ns ≡ joined (option_map (λ n. n ∷ []) n) ns
    by_number None ns = refl
    by_number (Some n) None = refl
    by_number (Some n) (Some ns) = refl

-- the parts after the first one, by what stands behind it
abbrev after_part : List ℕ → List (List ℕ)
after_part [] = []
after_part (c ∷ cs) = parts cs

abbrev blank_at : List ℕ → ℕ
blank_at cs = position_or_len is_blank cs

-- where the first blank is
pub place_some : (n : ℕ) (o : Option ℕ) (cs : List ℕ) → o ≡ position is_blank cs → o ≡ Some n → (n ≡ blank_at cs) × (n ≤ length cs)
place_some n o cs e f = by_test (nat_lt (blank_at cs) (length cs)) refl (sym e ∙ f)
  where
    by_test : (t : Bool) → nat_lt (blank_at cs) (length cs) ≡ t → cond t (Some (blank_at cs)) None ≡ Some n → (n ≡ blank_at cs) × (n ≤ length cs)
    by_test true is h = let same : blank_at cs ≡ n = cc in let less : blank_at cs < length cs = grind (arith, is) in (sym same, omega arith)
    by_test false is h = cc

pub place_none : (o : Option ℕ) (cs : List ℕ) → o ≡ position is_blank cs → o ≡ None → length cs ≡ blank_at cs
place_none o cs e f = by_test (nat_lt (blank_at cs) (length cs)) refl (sym e ∙ f)
  where
    by_test : (t : Bool) → nat_lt (blank_at cs) (length cs) ≡ t → cond t (Some (blank_at cs)) None ≡ None → length cs ≡ blank_at cs
    by_test true is h = cc
    by_test false is h = let less : length cs ≤ blank_at cs = grind (arith, is) in let most = prefix_len-le-length (λ c. not (is_blank c)) cs in omega arith

pub ruleset places = (place_some, place_none)

first_part : (cs : List ℕ) → parts cs ≡ take (blank_at cs) cs ∷ after_part (drop (blank_at cs) cs)
first_part [] = refl
first_part (c ∷ cs) = by_test (is_blank c) (first_part cs)
  where
    by_test : (t : Bool) → parts cs ≡ take (blank_at cs) cs ∷ after_part (drop (blank_at cs) cs) → cond t ([] ∷ parts cs) (onto_first c (parts cs)) ≡ take (cond (not t) (1 + blank_at cs) 0) (c ∷ cs) ∷ after_part (drop (cond (not t) (1 + blank_at cs) 0) (c ∷ cs))
    by_test true h = refl
    by_test false h =
        let e : suc (blank_at cs) ≡ 1 + blank_at cs = omega arith in
        subst (λ k. onto_first c (parts cs) ≡ take k (c ∷ cs) ∷ after_part (drop k (c ∷ cs))) e (ap (onto_first c) h)

numbers_first : (cs : List ℕ) → numbers cs ≡ joined (of_part (take (blank_at cs) cs)) (numbers_of (after_part (drop (blank_at cs) cs)))
numbers_first cs = ap numbers_of (first_part cs) ∙ first_of (take (blank_at cs) cs) (after_part (drop (blank_at cs) cs))

-- numbers that were put, and those of the parts that follow
put_all : (done : List ℤ) (p q : Option (List ℤ)) → before done (joined p q) ≡ joined (before done p) q
unfolding before
put_all done None q = refl
put_all done (Some ns) q = before_before done ns q

numbers_put : (done : List ℤ) (cs : List ℕ) → before done (numbers cs) ≡ joined (before done (of_part (take (blank_at cs) cs))) (numbers_of (after_part (drop (blank_at cs) cs)))
numbers_put done cs = ap (before done) (numbers_first cs) ∙ put_all done (of_part (take (blank_at cs) cs)) (numbers_of (after_part (drop (blank_at cs) cs)))

-- the part at the front was put, or writes no number
module _ (done : List ℤ) (rest line part behind : List ℕ) (n : ℕ) (all : before done (numbers rest) ≡ numbers line) (place : n ≡ blank_at rest) (front : part ≡ take n rest) (back : behind ≡ drop n rest) where
  numbers_then : before done (numbers rest) ≡ joined (before done (of_part part)) (numbers_of (after_part behind))
  numbers_then =
      numbers_put done rest
      ∙ ap (λ k. joined (before done (of_part (take k rest))) (numbers_of (after_part (drop k rest)))) (sym place)
      ∙ ap (λ p. joined (before done (of_part p)) (numbers_of (after_part (drop n rest)))) (sym front)
      ∙ ap (λ q. joined (before done (of_part part)) (numbers_of (after_part q))) (sym back)

  pub part_bad : None ≡ before done (of_part part) → None ≡ numbers line
  part_bad e = ap (λ o. joined o (numbers_of (after_part behind))) e ∙ sym numbers_then ∙ all

  pub part_last : (new : List ℤ) → Some new ≡ before done (of_part part) → length behind ≡ 0 → Some new ≡ numbers line
  unfolding before
  part_last new e none =
      ap (λ l. Some l) (sym (append-nil new))
      ∙ ap (λ o. joined o (Some [])) e
      ∙ ap (λ q. joined (before done (of_part part)) (numbers_of (after_part q))) (sym (is_none behind none))
      ∙ sym numbers_then ∙ all
    where
      is_none : (q : List ℕ) → length q ≡ 0 → q ≡ []
      is_none [] h = refl
      is_none (b ∷ bs) h = absurd (omega arith)

  pub part_more : (new : List ℤ) → Some new ≡ before done (of_part part) → 1 ≤ length behind → before new (numbers (take (length behind - 1) (drop 1 behind))) ≡ numbers line
  part_more new e some =
      ap (λ o. joined o (numbers (take (length behind - 1) (drop 1 behind)))) e
      ∙ ap (joined (before done (of_part part))) (tail_numbers behind some)
      ∙ sym numbers_then ∙ all
    where
      tail_numbers : (q : List ℕ) → 1 ≤ length q → numbers (take (length q - 1) (drop 1 q)) ≡ numbers_of (after_part q)
      tail_numbers [] h = absurd (omega arith)
      tail_numbers (b ∷ bs) h = ap numbers (take_all (length (b ∷ bs) - 1) bs (omega arith))

pub is_empty_length : (xs : List ℕ) (b : Bool) → b ≡ (length xs == 0) → b ≡ true → length xs ≡ 0
is_empty_length xs b e t = let h : (length xs == 0) ≡ true = sym e ∙ t in grind (arith, h)

pub not_empty_length : (xs : List ℕ) (b : Bool) → b ≡ (length xs == 0) → b ≡ false → 0 < length xs
not_empty_length xs b e t = let h : (length xs == 0) ≡ false = sym e ∙ t in grind (arith, h)

-- one part is put
pub put_none : (done : List ℤ) → Some done ≡ before done (of_part [])
unfolding before
put_none done = ap (λ l. Some l) (sym (append-nil done))

pub put_bad : (done : List ℤ) (part : List ℕ) → 0 < length part → None ≡ number part → None ≡ before done (of_part part)
unfolding before
put_bad done [] some e = absurd (omega arith)
put_bad done (c ∷ cs) some e = ap (λ n. before done (option_map (λ n. n ∷ []) n)) e

pub put_one : (done : List ℤ) (n : ℤ) (part : List ℕ) → 0 < length part → Some n ≡ number part → Some (done ++ n ∷ []) ≡ before done (of_part part)
unfolding before
put_one done n [] some e = absurd (omega arith)
put_one done n (c ∷ cs) some e = ap (λ n. before done (option_map (λ n. n ∷ []) n)) e

pub put_empty : (done : List ℤ) (part : List ℕ) → length part ≡ 0 → Some done ≡ before done (of_part part)
put_empty done [] e = put_none done
put_empty done (c ∷ cs) e = absurd (omega arith)

pub put_pushed : (done new : List ℤ) (n : ℤ) (part : List ℕ) → 0 < length part → Some n ≡ number part → new ≡ done ++ n ∷ [] → Some new ≡ before done (of_part part)
put_pushed done new n part some e f = ap (λ l. Some l) f ∙ put_one done n part some e

pub ruleset putting = (put_bad, put_pushed, not_empty_length)

-- ---- Cells

pub bytes_none : (meaning : List ℕ → Option (List ℤ)) (bytes : List ℕ) → (IsUtf8 bytes → ⊥) → None ≡ option_and_then meaning (decoded bytes)
bytes_none meaning bytes h = ap (option_and_then meaning) (sym (decoded-other bytes h))

pub bytes_some : (meaning : List ℕ → Option (List ℤ)) (bytes : List ℕ) (o : Option (List ℤ)) → IsUtf8 bytes → o ≡ meaning (chars bytes) → o ≡ option_and_then meaning (decoded bytes)
bytes_some meaning bytes o u e = e ∙ ap (option_and_then meaning) (sym (decoded-utf8 bytes u))

pub ruleset decodes = (bytes_none, bytes_some)

-- ---- What the code knows of tests

pub before_new : (done : List ℤ) (line : List ℕ) → done ≡ [] → before done (numbers line) ≡ numbers line
before_new done line e = ap (λ l. before l (numbers line)) e ∙ before_none (numbers line)

pub there_is : (there : Bool) (new : List ℤ) (o : Option (List ℤ)) → there ≡ true → cond there (Some new) None ≡ o → Some new ≡ o
there_is there new o t e = ap (λ b. cond b (Some new) None) (sym t) ∙ e

pub there_is_none : (there : Bool) (new : List ℤ) (o : Option (List ℤ)) → there ≡ false → cond there (Some new) None ≡ o → None ≡ o
there_is_none there new o t e = ap (λ b. cond b (Some new) None) (sym t) ∙ e

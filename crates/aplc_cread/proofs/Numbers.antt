-- Decimals.
use Rattle.std.proofs.Common.{rules, ap₂, ◌/◌, ◌%◌, ◌≡◌, ◌∙◌, ap, sym, refl, subst, ℕ, zero, suc, ◌+◌, ◌-◌, ◌*◌, ◌<◌, ◌≤◌, ◌^◌, ◌⊎◌, inl, inr, List, [], ◌∷◌, ◌++◌, append_assoc, Some, true, false, arith, length, get_or, decimal}
use Rattle.std.proofs.lemmas.List.{append-nil}
use Rattle.std.proofs.lemmas.Bool.Decides.{nat_tests}
use Rattle.std.proofs.lemmas.Fmt.{digits_decimal, digits_value-decimal, decimal_nonempty, first_decimal, decimal_digit, decimal_step, decimal_injective}
use Rattle.std.proofs.lemmas.Str.Parse.{IsNumeralModel, numerals_by_fold}
use Rattle.aplc_cread.specs.Reading.{first, Found, Stops}
use Rattle.aplc_cread.specs.Reading.{Number, NoDigit, is_digit}

abbrev pub all_digits : List ℕ → Type 0
all_digits [] = Unit {0}
all_digits (c ∷ cs) = (is_digit c ≡ true) × all_digits cs

abbrev pub read_on : ℕ → List ℕ → ℕ
read_on n [] = n
read_on n (c ∷ cs) = read_on (10 * n + (c - 48)) cs

pub own : IsNumeralModel all_digits (read_on 0)
own = numerals_by_fold _ (search rules) read_on (search rules)

pub read_on-append : (n : ℕ) (x y : List ℕ) → read_on n (x ++ y) ≡ read_on (read_on n x) y
read_on-append n [] y = refl
read_on-append n (c ∷ x) y = read_on-append (10 * n + (c - 48)) x y

pub read_on-le : (n : ℕ) (x : List ℕ) → n ≤ read_on n x
read_on-le n [] = omega arith
read_on-le n (c ∷ x) = let h = read_on-le (10 * n + (c - 48)) x in omega (arith, h)

-- two runs of digits
pub digits_cut : (x y k v : List ℕ) → all_digits x → all_digits y → NoDigit k → x ++ k ≡ y ++ v → (u : List ℕ) × (x ≡ y ++ u)
digits_cut x [] k v dx dy nk e = (x, refl)
digits_cut [] (d ∷ y) k v dx dy nk e =
    let h : is_digit d ≡ false = subst NoDigit e nk in absurd (cc (h, dy.0))
digits_cut (c ∷ x) (d ∷ y) k v dx dy nk e =
    let h : c ≡ d = cc in let t : x ++ k ≡ y ++ v = cc in
    let r = digits_cut x y k v dx.1 dy.1 nk t in
    (r.0, cc (h, r.1))

pub digits_same : (x y k v : List ℕ) → all_digits x → all_digits y → NoDigit k → NoDigit v → x ++ k ≡ y ++ v → (x ≡ y) × (k ≡ v)
digits_same [] [] k v dx dy nk nv e = (refl, e)
digits_same [] (d ∷ y) k v dx dy nk nv e = let h : is_digit d ≡ false = subst NoDigit e nk in absurd (cc (h, dy.0))
digits_same (c ∷ x) [] k v dx dy nk nv e = let h : is_digit c ≡ false = subst NoDigit (sym e) nv in absurd (cc (h, dx.0))
digits_same (c ∷ x) (d ∷ y) k v dx dy nk nv e =
    let h : c ≡ d = cc in let t : x ++ k ≡ y ++ v = cc in
    let r = digits_same x y k v dx.1 dy.1 nk nv t in
    (cc (h, r.0), r.1)

pub digits_push : (x : List ℕ) (c : ℕ) → all_digits x → is_digit c ≡ true → all_digits (x ++ (c ∷ []))
digits_push [] c d e = (e, tt)
digits_push (b ∷ x) c d e = (d.0, digits_push x c d.1 e)

pub no_digit_as : (v rest : List ℕ) → first v ≡ first rest → NoDigit rest → NoDigit v
no_digit_as [] rest e n = tt
no_digit_as (c ∷ v) [] e n = absurd (cc)
no_digit_as (c ∷ v) (d ∷ rest) e n = let h : c ≡ d = cc in cc (h, n)

pub b_is : (b : ℕ) → (b ≡ 0) ⊎ (0 < b)
b_is zero = inl refl
b_is (suc b) = inr (omega arith)

pub digit_range : (c : ℕ) → is_digit c ≡ true → (48 ≤ c) × (c < 58)
digit_range c d = (grind (arith, nat_tests), grind (arith, nat_tests))

-- a decimal that goes on from another by a digit
pub decimal_extends : (b n c : ℕ) (u : List ℕ) → b < 2 ^ 64 → n < 2 ^ 64 → decimal b ≡ decimal n ++ (c ∷ u) → (0 < n) × (10 * n + (c - 48) ≤ b)
decimal_extends b n c u hb hn e =
    let v : read_on 0 (decimal b) ≡ b = digits_value-decimal own b hb in
    let w : read_on 0 (decimal n) ≡ n = digits_value-decimal own n hn in
    let m : read_on 0 (decimal b) ≡ read_on (10 * read_on 0 (decimal n) + (c - 48)) u = ap (read_on 0) e ∙ read_on-append 0 (decimal n) (c ∷ u) in
    let l = read_on-le (10 * read_on 0 (decimal n) + (c - 48)) u in
    (positive n e, omega (arith, v, w, m, l))
  where
    zero_alone : decimal b ≡ 48 ∷ c ∷ u → ⊥
    zero_alone h = elim (b_is b) [
      | inl z ↦ let f : 48 ∷ [] ≡ 48 ∷ c ∷ u = sym (decimal_digit 0 (omega arith)) ∙ ap decimal (sym z) ∙ h in cc
      | inr p ↦ let f = first_decimal b p hb in let g : get_or (decimal b) 0 0 ≡ 48 = ap (λ x. get_or x 0 0) h in omega (arith, f, g)
    ]

    positive : (m : ℕ) → decimal b ≡ decimal m ++ (c ∷ u) → 0 < m
    positive zero h = absurd (zero_alone (h ∙ ap (λ x. x ++ (c ∷ u)) (decimal_digit 0 (omega arith))))
    positive (suc m) h = omega arith

pub number_found : (bound n : ℕ) (s rest : List ℕ) → bound ≤ 2 ^ 63 → n < bound → s ≡ decimal n ++ rest → NoDigit rest → Found NoDigit (Number bound) s n rest
number_found bound n s rest hb hn e nr = record {
  text = decimal n;
  here = e;
  is = record { below = hn; text = refl };
  only = λ b w k v m hk hv f.
      let lb : b < 2 ^ 64 = omega (arith, m.below) in
      let nv : NoDigit v = no_digit_as v rest hv nr in
      let r = digits_same (decimal b) (decimal n) k v (digits_decimal own b lb) (digits_decimal own n (omega arith)) hk nv (ap (λ x. x ++ k) (sym m.text) ∙ f) in
      (decimal_injective b n lb (omega arith) r.0, r.1);
}

pub number_stops : (bound n : ℕ) (s : List ℕ) (c : ℕ) (rest : List ℕ) → bound ≤ 2 ^ 63 → n < bound → s ≡ decimal n ++ (c ∷ rest) → is_digit c ≡ true → (0 < n → bound ≤ 10 * n + (c - 48)) → Stops NoDigit (Number bound) s (c ∷ rest)
number_stops bound n s c rest hb hn e dc past = record {
  text = decimal n;
  here = e;
  some = (n, ([], record { below = hn; text = append-nil (decimal n) }));
  none = λ b w k v m hk hv f. number_none b w k v m hk hv f;
}
  where
    number_none : (b : ℕ) (w k v : List ℕ) → Number bound b w → NoDigit k → first v ≡ Some c → w ++ k ≡ decimal n ++ v → ⊥
    number_none b w k [] m hk hv f = cc
    number_none b w k (d ∷ v) m hk hv f =
        let same : d ≡ c = cc in
        let lb : b < 2 ^ 64 = omega (arith, m.below) in
        let f1 : decimal b ++ k ≡ (decimal n ++ (c ∷ [])) ++ v = ap (λ x. x ++ k) (sym m.text) ∙ f ∙ ap (λ x. decimal n ++ (x ∷ v)) same ∙ sym (append_assoc (decimal n) (c ∷ []) v) in
        let r = digits_cut (decimal b) (decimal n ++ (c ∷ [])) k v (digits_decimal own b lb) (digits_push (decimal n) c (digits_decimal own n (omega arith)) dc) hk f1 in
        let x = decimal_extends b n c r.0 lb (omega arith) (r.1 ∙ append_assoc (decimal n) (c ∷ []) r.0) in
        let y = past x.0 in omega (arith, x.1, y, m.below)

pub number_stops_first : (bound : ℕ) (s : List ℕ) → bound ≤ 2 ^ 63 → 0 < bound → ((c : ℕ) → first s ≡ Some c → is_digit c ≡ true → bound ≤ c - 48) → Stops NoDigit (Number bound) s s
number_stops_first bound s hb pos past = record {
  text = [];
  here = refl;
  some = (0, (decimal 0, record { below = pos; text = refl }));
  none = λ b w k v m hk hv f.
      let lb : b < 2 ^ 64 = omega (arith, m.below) in
      first_none b m.below (decimal b) (digits_decimal own b lb) (digits_value-decimal own b lb) (decimal_nonempty b lb) k (ap first (ap (λ x. x ++ k) (sym m.text) ∙ f) ∙ hv);
}
  where
    first_none : (b : ℕ) → b < bound → (ds : List ℕ) → all_digits ds → read_on 0 ds ≡ b → 0 < length ds → (k : List ℕ) → first (ds ++ k) ≡ first s → ⊥
    first_none b l [] dd rd nn k e = omega (arith, nn)
    first_none b l (d ∷ ds) dd rd nn k e =
        let x = past d (sym e) dd.0 in
        let y = read_on-le (10 * 0 + (d - 48)) ds in omega (arith, x, y, rd)

pub number_step : (n c : ℕ) → 0 < n → n < 2 ^ 63 → is_digit c ≡ true → 10 * n + (c - 48) < 2 ^ 64 → decimal n ++ (c ∷ []) ≡ decimal (10 * n + (c - 48))
number_step n c p l d h =
    let r = digit_range c d in
    let q : (10 * n + (c - 48)) / 10 ≡ n = omega (arith, r) in
    let t : 48 + (10 * n + (c - 48)) % 10 ≡ c = omega (arith, r) in
    ap₂ (λ x y. decimal x ++ (y ∷ [])) (sym q) (sym t) ∙ sym (decimal_step (10 * n + (c - 48)) (omega arith) h)

pub number_first : (c : ℕ) → is_digit c ≡ true → (c ∷ []) ≡ decimal (c - 48)
number_first c d =
    let r = digit_range c d in
    let t : 48 + (c - 48) ≡ c = omega (arith, r) in
    ap (λ x. x ∷ []) (sym t) ∙ sym (decimal_digit (c - 48) (omega (arith, r)))

pub number_stops_at : (bound n : ℕ) (s t : List ℕ) (c : ℕ) (rest : List ℕ) → bound ≤ 2 ^ 63 → n < bound → s ≡ decimal n ++ t → t ≡ c ∷ rest → is_digit c ≡ true → (0 < n → bound ≤ 10 * n + (c - 48)) → Stops NoDigit (Number bound) s t
number_stops_at bound n s t c rest hb hn e f d past =
    subst (λ x. Stops NoDigit (Number bound) s x) (sym f) (number_stops bound n s c rest hb hn (e ∙ ap (λ x. decimal n ++ x) f) d past)

-- a decimal begins with a digit
pub decimal_first : (n : ℕ) (k : List ℕ) → n < 2 ^ 64 → (c : ℕ) × (first (decimal n ++ k) ≡ Some c) × (is_digit c ≡ true)
decimal_first n k h = go (decimal n) (digits_decimal own n h) (decimal_nonempty n h)
  where
    go : (ds : List ℕ) → all_digits ds → 0 < length ds → (c : ℕ) × (first (ds ++ k) ≡ Some c) × (is_digit c ≡ true)
    go [] d l = absurd (omega (arith, l))
    go (c ∷ ds) d l = (c, refl, d.0)

-- Numbers from a least one on.
use Rattle.std.proofs.Common.{◌/◌, ◌%◌, ◌≡◌, ◌∙◌, ap, sym, refl, subst, ℕ, zero, suc, ◌+◌, ◌-◌, ◌*◌, ◌<◌, ◌≤◌, ◌^◌, ◌⊎◌, inl, inr, List, [], ◌∷◌, ◌++◌, append_assoc, Some, Bool, true, false, arith, length, decimal}
use Rattle.std.proofs.lemmas.List.{append-nil}
use Rattle.std.proofs.lemmas.Fmt.{digits_decimal, digits_value-decimal, decimal_nonempty, decimal_step, decimal_digit}
use Rattle.aplc_cread.specs.Reading.{first, Found, Stops, NoDigit, is_digit}
use Rattle.aplc_cread.specs.Ranges.{Ranged, Reach, IsReach, lows, highs, Row}
use Rattle.aplc_cread.proofs.Numbers.{all_digits, read_on, own, read_on-append, read_on-le, digits_cut, digits_same, digits_push, no_digit_as, digit_range, decimal_extends, number_step}
use Rattle.std.proofs.lemmas.Fmt.{decimal_injective}

-- ---- The numbers that further digits make

lows_up : (j n d : ℕ) → 10 * lows j n ≤ lows j (10 * n + d)
lows_up zero n d = omega arith
lows_up (suc j) n d = let h = lows_up j n d in omega (arith, h)

highs_up : (j n d : ℕ) → d ≤ 9 → highs j (10 * n + d) ≤ 10 * highs j n + 9
highs_up zero n d l = omega (arith, l)
highs_up (suc j) n d l = let h = highs_up j n d l in omega (arith, h)

lows_highs : (j n : ℕ) → lows j n ≤ highs j n
lows_highs zero n = omega arith
lows_highs (suc j) n = let h = lows_highs j n in omega (arith, h)

lows_from : (j n : ℕ) → n ≤ lows j n
lows_from zero n = omega arith
lows_from (suc j) n = let h = lows_from j n in omega (arith, h)

le_same : (a : ℕ) → a ≤ a
le_same a = omega arith

ten_fold : (a b : ℕ) → a ≤ b → a ≤ 10 * b
ten_fold a b l = omega (arith, l)

last : (j i : ℕ) → j ≤ suc i → (j ≤ i) ⊎ (j ≡ suc i)
last j i l = grind arith

lows_later : (i j n : ℕ) → j ≤ i → lows j n ≤ lows i n
lows_later zero zero n l = le_same n
lows_later zero (suc j) n l = absurd (omega (arith, l))
lows_later (suc i) j n l = elim (last j i l) [
  | inl m ↦ ten_fold (lows j n) (lows i n) (lows_later i j n m)
  | inr q ↦ subst (λ j. lows j n ≤ lows (suc i) n) (sym q) (le_same (lows (suc i) n))
]

between : (u : List ℕ) (n : ℕ) → all_digits u → (lows (length u) n ≤ read_on n u) × (read_on n u ≤ highs (length u) n)
between [] n d = (omega arith, omega arith)
between (c ∷ u) n d =
    let r = digit_range c d.0 in
    let h = between u (10 * n + (c - 48)) d.1 in
    let l = lows_up (length u) n (c - 48) in
    let g = highs_up (length u) n (c - 48) (omega (arith, r)) in
    (omega (arith, h.0, l), omega (arith, h.1, g))

digits_back : (x y : List ℕ) → all_digits (x ++ y) → all_digits y
digits_back [] y d = d
digits_back (c ∷ x) y d = digits_back x y d.1

-- what a number is that goes on from another
goes_on_as : (b n : ℕ) (u : List ℕ) → b < 2 ^ 64 → n < 2 ^ 64 → decimal b ≡ decimal n ++ u → (b ≡ read_on n u) × all_digits u
goes_on_as b n u hb hn e =
    let v : read_on 0 (decimal b) ≡ b = digits_value-decimal own b hb in
    let w : read_on 0 (decimal n) ≡ n = digits_value-decimal own n hn in (
      sym v ∙ ap (read_on 0) e ∙ read_on-append 0 (decimal n) u ∙ ap (λ m. read_on m u) w,
      digits_back (decimal n) u (subst all_digits e (digits_decimal own b hb)),
    )

pub reach_below : (low bound n : ℕ) → bound ≤ 2 ^ 63 → n < 2 ^ 64 → Reach low bound n → n < bound
reach_below low bound n hb hn r =
    let g = goes_on_as r.to n r.more (omega (arith, r.below, hb)) hn r.text in
    let l = read_on-le n r.more in omega (arith, g.0, l, r.below)

either_way : (i j : ℕ) → (i < j) ⊎ (j ≤ i)
either_way i j = grind arith

pub no_reach : (low bound n a b : ℕ) → bound ≤ 2 ^ 63 → n < 2 ^ 64 → Row low n a b → bound ≤ a → Reach low bound n → ⊥
no_reach low bound n a b hb hn r past x =
    let g = goes_on_as x.to n x.more (omega (arith, x.below, hb)) hn x.text in
    let z = between x.more n g.1 in
    elim (either_way (length x.more) r.j) [
      | inl l ↦ let s = r.small (length x.more) l in omega (arith, s, z.1, g.0, x.above)
      | inr l ↦ let s = lows_later (length x.more) r.j n l in omega (arith, s, z.0, g.0, x.below, past, r.least)
    ]

row_number : (j n x : ℕ) → 0 < n → lows j n ≤ x → x ≤ highs j n → x < 2 ^ 64 → (u : List ℕ) × (decimal x ≡ decimal n ++ u)
row_number zero n x p l h f = let q : x ≡ n = omega (arith, l, h) in ([], ap decimal q ∙ sym (append-nil (decimal n)))
row_number (suc j) n x p l h f =
    let g = lows_from j n in
    let r = row_number j n (x / 10) p (omega (arith, l)) (omega (arith, h)) (omega (arith, f)) in
    (r.0 ++ ((48 + x % 10) ∷ []), decimal_step x (omega (arith, l, g, p)) f ∙ ap (λ y. y ++ ((48 + x % 10) ∷ [])) r.1 ∙ append_assoc (decimal n) r.0 ((48 + x % 10) ∷ []))

pub row_reach : (low bound n a b : ℕ) → bound ≤ 2 ^ 63 → 0 < n → low < bound → Row low n a b → a < bound → low ≤ b → Reach low bound n
row_reach low bound n a b hb p some r before far = elim (either_way a low) [
  | inl l ↦ let z = row_number r.j n low p (omega (arith, r.least, l)) (omega (arith, r.greatest, far)) (omega (arith, some, hb)) in
      record { to = low; more = z.0; above = omega arith; below = some; text = z.1 }
  | inr l ↦ let h = lows_highs r.j n in let z = row_number r.j n a p (omega (arith, r.least)) (omega (arith, r.least, h)) (omega (arith, before, hb)) in
      record { to = a; more = z.0; above = l; below = before; text = z.1 }
]

pub row_start : (low n : ℕ) → Row low n n n
row_start low n = record { j = 0; least = refl; greatest = refl; small = λ i l. absurd (omega (arith, l)) }

pub row_next : (low n a b : ℕ) → Row low n a b → b < low → Row low n (10 * a) (10 * b + 9)
row_next low n a b r l = record {
  j = suc r.j;
  least = ap (λ x. 10 * x) r.least;
  greatest = ap (λ x. 10 * x + 9) r.greatest;
  small = λ i h. elim (either_way i r.j) [
    | inl m ↦ r.small i m
    | inr m ↦ let q : i ≡ r.j = omega (arith, h, m) in subst (λ x. x < low) (r.greatest ∙ ap (λ k. highs k n) (sym q)) l
  ];
}

-- 0 goes on to 0 alone
pub zero_reach : (low bound : ℕ) → low ≡ 0 → low < bound → Reach low bound 0
zero_reach low bound e l = record { to = 0; more = []; above = omega (arith, e); below = omega (arith, l); text = sym (append-nil (decimal 0)) }

pub zero_alone : (low bound : ℕ) → bound ≤ 2 ^ 63 → 0 < low → Reach low bound 0 → ⊥
zero_alone low bound hb p r = alone r.more r.text
  where
    alone : (u : List ℕ) → decimal r.to ≡ decimal 0 ++ u → ⊥
    alone [] e = let q = decimal_injective r.to 0 (omega (arith, r.below, hb)) (omega arith) (e ∙ append-nil (decimal 0)) in omega (arith, q, r.above, p)
    alone (c ∷ u) e = let z = decimal_extends r.to 0 c u (omega (arith, r.below, hb)) (omega arith) e in omega (arith, z.0)

-- ---- Reading

pub ranged_found : (low bound n : ℕ) (s rest : List ℕ) → bound ≤ 2 ^ 63 → low ≤ n → n < bound → s ≡ decimal n ++ rest → NoDigit rest → Found NoDigit (Ranged low bound) s n rest
ranged_found low bound n s rest hb ha hn e nr = record {
  text = decimal n;
  here = e;
  is = record { above = ha; below = hn; text = refl };
  only = λ b w k v m hk hv f.
      let lb : b < 2 ^ 64 = omega (arith, m.below) in
      let nv : NoDigit v = no_digit_as v rest hv nr in
      let r = digits_same (decimal b) (decimal n) k v (digits_decimal own b lb) (digits_decimal own n (omega arith)) hk nv (ap (λ x. x ++ k) (sym m.text) ∙ f) in
      (decimal_injective b n lb (omega arith) r.0, r.1);
}

some_ranged : (low bound n : ℕ) → Reach low bound n → (a : ℕ) × ((v : List ℕ) × Ranged low bound a (decimal n ++ v))
some_ranged low bound n r = (r.to, (r.more, record { above = r.above; below = r.below; text = sym r.text }))

-- the number is too small, and no digit goes on
pub ranged_short : (low bound n : ℕ) (s rest : List ℕ) → bound ≤ 2 ^ 63 → n < 2 ^ 63 → n < low → Reach low bound n → s ≡ decimal n ++ rest → NoDigit rest → Stops NoDigit (Ranged low bound) s rest
ranged_short low bound n s rest hb hn short reach e nr = record {
  text = decimal n;
  here = e;
  some = some_ranged low bound n reach;
  none = λ b w k v m hk hv f.
      let lb : b < 2 ^ 64 = omega (arith, m.below) in
      let nv : NoDigit v = no_digit_as v rest hv nr in
      let r = digits_same (decimal b) (decimal n) k v (digits_decimal own b lb) (digits_decimal own n (omega (arith, hn))) hk nv (ap (λ x. x ++ k) (sym m.text) ∙ f) in
      let q = decimal_injective b n lb (omega (arith, hn)) r.0 in omega (arith, q, short, m.above);
}

-- with the next digit no number is left
pub ranged_stops : (low bound n c : ℕ) (s t rest : List ℕ) → bound ≤ 2 ^ 63 → n < 2 ^ 63 → Reach low bound n → s ≡ decimal n ++ t → t ≡ c ∷ rest → is_digit c ≡ true
    → (0 < n → 10 * n + (c - 48) < bound → Reach low bound (10 * n + (c - 48)) → ⊥) → Stops NoDigit (Ranged low bound) s t
ranged_stops low bound n c s t rest hb hn reach e g dc past = record {
  text = decimal n;
  here = e;
  some = some_ranged low bound n reach;
  none = λ b w k v m hk hv f. none b w k v m hk (hv ∙ ap first g) f;
}
  where
    none : (b : ℕ) (w k v : List ℕ) → Ranged low bound b w → NoDigit k → first v ≡ Some c → w ++ k ≡ decimal n ++ v → ⊥
    none b w k [] m hk hv f = cc
    none b w k (d ∷ v) m hk hv f =
        let same : d ≡ c = cc in
        let lb : b < 2 ^ 64 = omega (arith, m.below) in
        let f1 : decimal b ++ k ≡ (decimal n ++ (c ∷ [])) ++ v = ap (λ x. x ++ k) (sym m.text) ∙ f ∙ ap (λ x. decimal n ++ (x ∷ v)) same ∙ sym (append_assoc (decimal n) (c ∷ []) v) in
        let r = digits_cut (decimal b) (decimal n ++ (c ∷ [])) k v (digits_decimal own b lb) (digits_push (decimal n) c (digits_decimal own n (omega (arith, hn))) dc) hk f1 in
        let x = decimal_extends b n c r.0 lb (omega (arith, hn)) (r.1 ∙ append_assoc (decimal n) (c ∷ []) r.0) in
        let q : decimal b ≡ decimal (10 * n + (c - 48)) ++ r.0 = r.1 ∙ ap (λ y. y ++ r.0) (number_step n c x.0 hn dc (omega (arith, x.1, lb))) in
        past x.0 (omega (arith, x.1, m.below)) (record { to = b; more = r.0; above = m.above; below = m.below; text = q })

-- no number begins so
pub ranged_stops_first : (low bound : ℕ) (s : List ℕ) → bound ≤ 2 ^ 63 → low < bound → ((c : ℕ) → first s ≡ Some c → is_digit c ≡ true → Reach low bound (c - 48) → ⊥) → Stops NoDigit (Ranged low bound) s s
ranged_stops_first low bound s hb some past = record {
  text = [];
  here = refl;
  some = (low, (decimal low, record { above = omega arith; below = some; text = refl }));
  none = λ b w k v m hk hv f.
      let lb : b < 2 ^ 64 = omega (arith, m.below) in
      none b m (decimal b) refl (digits_decimal own b lb) (decimal_nonempty b lb) k (ap first (ap (λ x. x ++ k) (sym m.text) ∙ f) ∙ hv);
}
  where
    none : (b : ℕ) {w : List ℕ} → Ranged low bound b w → (ds : List ℕ) → decimal b ≡ ds → all_digits ds → 0 < length ds → (k : List ℕ) → first (ds ++ k) ≡ first s → ⊥
    none b m [] q dd nn k e = omega (arith, nn)
    none b m (d ∷ ds) q dd nn k e =
        let r = digit_range d dd.0 in
        let t : 48 + (d - 48) ≡ d = omega (arith, r) in
        past d (sym e) dd.0 (record { to = b; more = ds; above = m.above; below = m.below; text = q ∙ ap (λ x. x ∷ ds) (sym t) ∙ ap (λ y. y ++ ds) (sym (decimal_digit (d - 48) (omega (arith, r)))) })

pub reach_true : (low bound n : ℕ) (x : Bool) → IsReach low bound n x → x ≡ true → Reach low bound n
reach_true low bound n true r e = r
reach_true low bound n false r e = absurd (cc e)

pub reach_false : (low bound n : ℕ) (x : Bool) → IsReach low bound n x → x ≡ false → Reach low bound n → ⊥
reach_false low bound n false r e = r
reach_false low bound n true r e = absurd (cc e)

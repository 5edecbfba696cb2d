-- The widest text of a column is that of its least or its greatest number.
use Rattle.std.proofs.Common.{◌≡◌, ℕ, zero, suc, ◌+◌, ◌<◌, ◌≤◌, List, refl, sym, ap, ap₂, ◌∙◌, subst, arith, length, decimal, ℤ, Bool, true, false}
use Rattle.std.specs.Prelude.{pos, negsuc, ◌^◌, max, int_lt, if◌then◌else◌}
use Rattle.std.proofs.lemmas.Bool.Decides.{nat_tests}
use Rattle.std.proofs.lemmas.Fmt.{decimal_nonempty, decimal_digit}
use Rattle.aplc_scalar.specs.declared.kind.Kind.TheVariants.{Num}
use Rattle.aplc_scalar.specs.Scalar.{in_range}
use Rattle.aplc_cprof.specs.Machine.{text_width}
use Rattle.aplc_quad.specs.Rows.{width, column_width}
use Rattle.aplc_quad.specs.Ranges.{smaller, larger, lowest, highest}
use Rattle.aplc_quad.proofs.Prints.{width_is, digits_rise, magnitude}

-- at most 0, and not below the range
abbrev IsLow : ℤ → Type 0
IsLow (pos zero) = Unit {0}
IsLow (pos (suc n)) = ⊥
IsLow (negsuc n) = n + 1 < 2 ^ 63

-- at least 0, and not above the range
abbrev IsHigh : ℤ → Type 0
IsHigh (pos n) = n < 2 ^ 63
IsHigh (negsuc n) = ⊥

-- the widest of two texts and a third one
record Wider (a b z : ℤ) : Type 0 where
  pub low : IsLow (smaller a z)
  pub high : IsHigh (larger b z)
  pub widest : max (text_width (larger b z)) (text_width (smaller a z)) ≡ max (max (text_width b) (text_width a)) (text_width z)

above : (h k : ℕ) → int_lt (pos h) (pos k) ≡ true → h < k
above h k e = grind (arith, nat_tests)

not_above : (h k : ℕ) → int_lt (pos h) (pos k) ≡ false → k ≤ h
not_above h k e = grind (arith, nat_tests)

below : (k i : ℕ) → int_lt (negsuc k) (negsuc i) ≡ true → i < k
below k i e = grind (arith, nat_tests)

not_below : (k i : ℕ) → int_lt (negsuc k) (negsuc i) ≡ false → k ≤ i
not_below k i e = grind (arith, nat_tests)

-- a number of at least 0 leaves the least one
least_stays : (a : ℤ) (k : ℕ) → IsLow a → smaller a (pos k) ≡ a
least_stays (pos zero) k h = let e : int_lt (pos k) (pos 0) ≡ false = grind (arith, nat_tests) in ap (λ b. if b then pos k else pos 0) e
least_stays (pos (suc n)) k h = absurd h
least_stays (negsuc n) k h = refl

greatest_by : (h k : ℕ) (b : Bool) → int_lt (pos h) (pos k) ≡ b → h < 2 ^ 63 → k < 2 ^ 63 → IsHigh (if b then pos k else pos h) × (text_width (if b then pos k else pos h) ≡ max (length (decimal h)) (length (decimal k)))
greatest_by h k true e lh lk = let r = digits_rise h k (let t = above h k e in omega (arith, t)) (omega (arith, lk)) in (lk, omega (arith, r))
greatest_by h k false e lh lk = let r = digits_rise k h (let t = not_above h k e in omega (arith, t)) (omega (arith, lh)) in (lh, omega (arith, r))

least_by : (i k : ℕ) (b : Bool) → int_lt (negsuc k) (negsuc i) ≡ b → i + 1 < 2 ^ 63 → k + 1 < 2 ^ 63 → IsLow (if b then negsuc k else negsuc i) × (text_width (if b then negsuc k else negsuc i) ≡ max (1 + length (decimal (i + 1))) (1 + length (decimal (k + 1))))
least_by i k true e li lk = let r = digits_rise (i + 1) (k + 1) (let t = below k i e in omega (arith, t)) (omega (arith, lk)) in (lk, omega (arith, r))
least_by i k false e li lk = let r = digits_rise (k + 1) (i + 1) (let t = not_below k i e in omega (arith, t)) (omega (arith, li)) in (li, omega (arith, r))

wider : (a b z : ℤ) → IsLow a → IsHigh b → in_range z ≡ true → Wider a b z
wider a (negsuc h) z la hb range = absurd hb
wider a (pos h) (pos k) la hb range =
    let g = greatest_by h k (int_lt (pos h) (pos k)) refl hb (magnitude (pos k) range) in
    let e = least_stays a k la in
    record {
      low = subst IsLow (sym e) la;
      high = g.0;
      widest = ap (λ w. max w (text_width (smaller a (pos k)))) g.1 ∙ ap (λ x. max (max (length (decimal h)) (length (decimal k))) (text_width x)) e ∙ turned (length (decimal h)) (length (decimal k)) (text_width a);
    }
  where
    turned : (x y w : ℕ) → max (max x y) w ≡ max (max x w) y
    turned x y w = omega arith
wider (pos zero) (pos h) (negsuc k) la hb range =
    let abs = magnitude (negsuc k) range in
    let m : k + 1 < 2 ^ 63 = omega (arith, abs) in
    let r = digits_rise 0 (k + 1) (omega arith) (omega (arith, m)) in
    record { low = m; high = hb; widest = least (length (decimal h)) (length (decimal 0)) (length (decimal (k + 1))) r }
  where
    least : (x y w : ℕ) → y ≤ w → max x (1 + w) ≡ max (max x y) (1 + w)
    least x y w le = omega (arith, le)
wider (pos (suc n)) (pos h) (negsuc k) la hb range = absurd la
wider (negsuc i) (pos h) (negsuc k) la hb range =
    let abs = magnitude (negsuc k) range in
    let l = least_by i k (int_lt (negsuc k) (negsuc i)) refl la (omega (arith, abs)) in
    record { low = l.0; high = hb; widest = ap (λ w. max (length (decimal h)) w) l.1 ∙ turned (length (decimal h)) (1 + length (decimal (i + 1))) (1 + length (decimal (k + 1))) }
  where
    turned : (x y w : ℕ) → max x (max y w) ≡ max (max x y) w
    turned x y w = omega arith

record Widest (item : ℕ → ℤ) (r : ℕ) : Type 0 where
  pub low : IsLow (lowest item r)
  pub high : IsHigh (highest item r)
  pub widest : max (text_width (highest item r)) (text_width (lowest item r)) ≡ max 1 (column_width Num item r)

widest_so_far : (item : ℕ → ℤ) (r : ℕ) → ((q : ℕ) → q < r → in_range (item q) ≡ true) → Widest item r
widest_so_far item zero range = record { low = tt; high = omega arith; widest = ap (λ (ds : List ℕ). max (length ds) (length ds)) (decimal_digit 0 (omega arith)) }
widest_so_far item (suc r) range =
    let h = widest_so_far item r (λ q lt. range q (omega (arith, lt))) in
    let w = wider (lowest item r) (highest item r) (item r) h.low h.high (range r (omega arith)) in
    record { low = w.low; high = w.high; widest = w.widest ∙ ap₂ max h.widest (width_is (item r)) ∙ grouped (column_width Num item r) (width Num (item r)) }
  where
    grouped : (x y : ℕ) → max (max 1 x) y ≡ max 1 (max x y)
    grouped x y = omega arith

some_text : (z : ℤ) → in_range z ≡ true → 1 ≤ width Num z
some_text (pos n) range = let m = magnitude (pos n) range in decimal_nonempty n (omega (arith, m))
some_text (negsuc n) range = omega arith

-- the wider one of the texts of the least and the greatest number is the width of the column
pub width_of_range : (item : ℕ → ℤ) (r : ℕ) → 0 < r → ((q : ℕ) → q < r → in_range (item q) ≡ true) → max (text_width (highest item r)) (text_width (lowest item r)) ≡ column_width Num item r
width_of_range item zero some range = absurd (omega (arith, some))
width_of_range item (suc r) some range =
    let t = some_text (item r) (range r (omega arith)) in
    (widest_so_far item (suc r) range).widest ∙ at_least (column_width Num item r) (width Num (item r)) t
  where
    at_least : (x y : ℕ) → 1 ≤ y → max 1 (max x y) ≡ max x y
    at_least x y le = omega (arith, le)

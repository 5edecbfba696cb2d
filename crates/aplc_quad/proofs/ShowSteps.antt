-- How many steps printing takes at most, by the number of elements.
use Rattle.std.proofs.Common.{◌≡◌, ℕ, ◌+◌, ◌*◌, ◌<◌, ◌≤◌, List, [], ◌∷◌, length, sym, subst, arith}
use Rattle.std.proofs.Math.Nat.{mul-le-mul_left}
use Rattle.aplc_arr.specs.Arrays.{product}
use Rattle.aplc_quad.specs.Printed.{last_length, nest_steps}
use Rattle.aplc_quad.specs.Ranges.{rows_in_all, range_steps}
use Rattle.aplc_quad.specs.Shows.{matrix_steps, show_steps}
use Rattle.aplc_quad.proofs.Nests.{some_factor}
use Rattle.aplc_quad.proofs.CodeNumbers.{rows_times}

-- at least one element
some : (a b : ℕ) → 0 < a * b → (1 ≤ a) × (1 ≤ b)
some a b lt = let h = some_factor a b lt in let i = h.0 in let j = h.1 in (omega (arith, i), omega (arith, j))

-- ---- Planes

plane_most : (m n k : ℕ) → 1 ≤ n → nest_steps (m ∷ n ∷ []) k ≤ product (m ∷ n ∷ []) * (k + 11) + 2
plane_most m n k h = let a = mul-le-mul_left m h in omega (arith, a)

nest_more : (l p t w : ℕ) → 1 ≤ p → t ≤ p * w + 2 → l * (1 + (2 + t) + 2) + 2 ≤ l * p * (w + 7) + 2
nest_more l p t w some le =
    let a : l * t ≤ l * (p * w + 2) = mul-le-mul_left l le in
    let b : l * 1 ≤ l * p = mul-le-mul_left l some in
    omega (arith, a, b)

planes_most : (m n : ℕ) (ns : List ℕ) (k : ℕ) → 0 < product (m ∷ n ∷ ns) → nest_steps (m ∷ n ∷ ns) k ≤ product (m ∷ n ∷ ns) * (k + 7 * length ns + 11) + 2
planes_most m n [] k h =
    let i = some n 1 (some_factor m (n * 1) h).1 in
    let e : k + 7 * 0 + 11 ≡ k + 11 = omega arith in
    subst (λ w. nest_steps (m ∷ n ∷ []) k ≤ product (m ∷ n ∷ []) * w + 2) (sym e) (plane_most m n k i.0)
planes_most l m (n ∷ ns) k h =
    let P = product (m ∷ n ∷ ns) in
    let i = some l P h in
    let e : k + 7 * length ns + 11 + 7 ≡ k + 7 * length (n ∷ ns) + 11 = omega arith in
    subst (λ w. nest_steps (l ∷ m ∷ n ∷ ns) k ≤ product (l ∷ m ∷ n ∷ ns) * w + 2) e (nest_more l P (nest_steps (m ∷ n ∷ ns) k) (k + 7 * length ns + 11) i.1 (planes_most m n ns k (some_factor l P h).1))

-- ---- Widths

range_more : (l p t w : ℕ) → 1 ≤ l → 1 ≤ p → t ≤ p * w → l * (t + 2) + 2 ≤ l * p * (w + 4)
range_more l p t w hl hp le =
    let a : l * t ≤ l * (p * w) = mul-le-mul_left l le in
    let b : l * 1 ≤ l * p = mul-le-mul_left l hp in
    omega (arith, a, b, hl)

range_most : (n : ℕ) (ns : List ℕ) (k : ℕ) → 0 < rows_in_all (n ∷ ns) → range_steps (n ∷ ns) k ≤ rows_in_all (n ∷ ns) * (k + 4 * length ns + 4)
range_most n [] k h = omega arith
range_most l (n ∷ ns) k h =
    let R = rows_in_all (n ∷ ns) in
    let i = some l R h in
    let e : k + 4 * length ns + 4 + 4 ≡ k + 4 * length (n ∷ ns) + 4 = omega arith in
    subst (λ w. range_steps (l ∷ n ∷ ns) k ≤ rows_in_all (l ∷ n ∷ ns) * w) e (range_more l R (range_steps (n ∷ ns) k) (k + 4 * length ns + 4) i.0 i.1 (range_most n ns k (some_factor l R h).1))

columns_most : (c r t w : ℕ) → 1 ≤ r → t ≤ r * w → c * (2 + (t + 5) + 2) + 2 ≤ r * c * (w + 9) + 2
columns_most c r t w some le =
    let a : c * t ≤ c * (r * w) = mul-le-mul_left c le in
    let b : c * 1 ≤ c * r = mul-le-mul_left c some in
    omega (arith, a, b)

-- ---- Arrays

pub line_within : (ns : List ℕ) (k : ℕ) → product ns * (k + 6) + 3 ≤ show_steps ns k
line_within ns k = let a : product ns * (k + 6) ≤ product ns * (2 * k + 11 * length ns + 11) = mul-le-mul_left (product ns) (omega arith) in omega (arith, a)

pub planes_within : (ns : List ℕ) (k : ℕ) → 2 ≤ length ns → 0 < product ns → nest_steps ns k + 2 ≤ show_steps ns k
planes_within [] k ranked h = absurd (omega (arith, ranked))
planes_within (n ∷ []) k ranked h = absurd (omega (arith, ranked))
planes_within (m ∷ n ∷ ns) k ranked h =
    let P = product (m ∷ n ∷ ns) in
    let a = planes_most m n ns k h in
    let b : P * ((k + 7 * length ns + 11) + 1) ≤ P * (2 * k + 11 * length (m ∷ n ∷ ns) + 11) = mul-le-mul_left P (omega arith) in
    omega (arith, a, b, h)

pub matrix_within : (ns : List ℕ) (k : ℕ) → 2 ≤ length ns → 0 < product ns → matrix_steps ns k + 1 ≤ show_steps ns k
matrix_within [] k ranked h = absurd (omega (arith, ranked))
matrix_within (n ∷ []) k ranked h = absurd (omega (arith, ranked))
matrix_within (m ∷ n ∷ ns) k ranked h =
    let P = product (m ∷ n ∷ ns) in
    let R = rows_in_all (m ∷ n ∷ ns) in
    let C = last_length (m ∷ n ∷ ns) in
    let split : P ≡ R * C = rows_times (m ∷ n ∷ ns) (omega arith) in
    let rows : 0 < R = (some_factor R C (subst (λ p. 0 < p) split h)).0 in
    let a = planes_most m n ns k h in
    let r = range_most m (n ∷ ns) k rows in
    let b = columns_most C R (range_steps (m ∷ n ∷ ns) k) (k + 4 * length (n ∷ ns) + 4) (omega (arith, rows)) r in
    let b' : C * (2 + (range_steps (m ∷ n ∷ ns) k + 5) + 2) + 2 ≤ P * (k + 4 * length (n ∷ ns) + 4 + 9) + 2 = subst (λ p. C * (2 + (range_steps (m ∷ n ∷ ns) k + 5) + 2) + 2 ≤ p * (k + 4 * length (n ∷ ns) + 4 + 9) + 2) (sym split) b in
    let both : P * ((k + 4 * length (n ∷ ns) + 4 + 9) + (k + 7 * length ns + 11) + 5) ≤ P * (2 * k + 11 * length (m ∷ n ∷ ns) + 11) = mul-le-mul_left P (omega arith) in
    omega (arith, a, b', both, h)

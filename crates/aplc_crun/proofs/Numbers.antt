-- The text of a number is that of its magnitude, behind a sign where it is negative.
use Rattle.std.proofs.Common.{◌≡◌, refl, ap, ◌+◌, ◌∷◌, length, decimal, arith, ℤ, pos, negsuc, ◌<ℤ◌, ◌≤ℤ◌}
use Rattle.std.proofs.lemmas.Int.{ints}
use Rattle.std.specs.Int.RustNames.{unsigned_abs}
use Rattle.aplc_scalar.specs.Number.{number_text}
use Rattle.aplc_cprof.specs.Machine.{text_width}

pub width_negative : (v : ℤ) → v <ℤ pos 0 → text_width v ≡ length (decimal (unsigned_abs v)) + 1
width_negative (pos n) h = absurd (omega (arith, ints))
width_negative (negsuc n) h =
    let e : length (decimal (n + 1)) ≡ length (decimal (unsigned_abs (negsuc n))) = ap (λ k. length (decimal k)) (omega arith) in
    omega arith

pub width_positive : (v : ℤ) → pos 0 ≤ℤ v → text_width v ≡ length (decimal (unsigned_abs v))
width_positive (pos n) h = refl
width_positive (negsuc n) h = absurd (omega (arith, ints))

pub text_negative : (v : ℤ) → v <ℤ pos 0 → number_text v ≡ 194 ∷ 175 ∷ decimal (unsigned_abs v)
text_negative (pos n) h = absurd (omega (arith, ints))
text_negative (negsuc n) h = ap (λ k. 194 ∷ 175 ∷ decimal k) (omega arith)

pub text_positive : (v : ℤ) → pos 0 ≤ℤ v → number_text v ≡ decimal (unsigned_abs v)
text_positive (pos n) h = refl
text_positive (negsuc n) h = absurd (omega (arith, ints))

pub ruleset texts = (width_negative, width_positive, text_negative, text_positive)

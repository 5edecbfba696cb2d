-- The bytes of a number are its digits, behind a high minus where it is negative.
use Rattle.std.proofs.Common.{◌≡◌, refl, ap, ◌∙◌, ◌+◌, ◌∷◌, decimal, arith, ℤ, pos, negsuc, ◌<ℤ◌, ◌≤ℤ◌}
use Rattle.std.specs.Prelude.{IsTrue}
use Rattle.std.proofs.lemmas.Int.{ints}
use Rattle.std.proofs.lemmas.Result.{IfOk-equal}
use Rattle.std.proofs.Common.{append_assoc}
use Rattle.std.specs.Int.RustNames.{unsigned_abs}
use Rattle.aplc_scalar.specs.declared.kind.Kind.TheVariants.{Num}
use Rattle.aplc_scalar.specs.Number.{number_text}
use Rattle.aplc_arr.specs.Arrays.{is_cell}
use Rattle.aplc_arr.proofs.Texts.{number-in_utf8}
use Rattle.aplc_quad.specs.Rows.{element_bytes}

text_negative : (v : ℤ) → v <ℤ pos 0 → number_text v ≡ 194 ∷ 175 ∷ decimal (unsigned_abs v)
text_negative (pos n) h = absurd (omega (arith, ints))
text_negative (negsuc n) h = ap (λ k. 194 ∷ 175 ∷ decimal k) (omega arith)

text_positive : (v : ℤ) → pos 0 ≤ℤ v → number_text v ≡ decimal (unsigned_abs v)
text_positive (pos n) h = refl
text_positive (negsuc n) h = absurd (omega (arith, ints))

pub bytes_negative : (v : ℤ) → IsTrue (is_cell Num v) → v <ℤ pos 0 → element_bytes Num v ≡ 194 ∷ 175 ∷ decimal (unsigned_abs v)
bytes_negative v h l = number-in_utf8 v h ∙ text_negative v l

pub bytes_positive : (v : ℤ) → IsTrue (is_cell Num v) → pos 0 ≤ℤ v → element_bytes Num v ≡ decimal (unsigned_abs v)
bytes_positive v h l = number-in_utf8 v h ∙ text_positive v l

pub ruleset numbers = (bytes_negative, bytes_positive, IfOk-equal, append_assoc)

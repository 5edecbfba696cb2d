use Rattle.std.proofs.Common.{refl, sym, ◌∙◌}
use Rattle.aplc_cread.proofs.Refusals.{refused_30, refused_31, refused_end, refused_34, refused_33, refused_32, begun_true, begun_false, below_of, above_of}
use Rattle.aplc_cread.specs.Refusal.{deep, free}
use Rattle.aplc_cread.proofs.whole.refusal.Goals as goal

pub returns-then-place-preamble_bytes : goal.returns-then-place-preamble_bytes
returns-then-place-preamble_bytes c = refused_30 _ c.requires refl (below_of c.preamble_bytes.ensures c.if-place-preamble_bytes.true)

pub returns-in-None : goal.returns-in-None
returns-in-None c = refused_end _ c.requires refl (above_of c.preamble_bytes.ensures c.if-place-preamble_bytes.false) c.in-None.ensures

pub returns-then-not-is_text_byte : goal.returns-then-not-is_text_byte
returns-then-not-is_text_byte c = refused_31 _ _ _ c.requires refl (above_of c.preamble_bytes.ensures c.if-place-preamble_bytes.false) c.in-Some.ensures (sym c.is_text_byte.ensures ∙ c.if-not-is_text_byte.true)

pub returns-in-Ok-true : goal.returns-in-Ok-true
returns-in-Ok-true c = refused_34 _ _ _ c.requires refl (above_of c.preamble_bytes.ensures c.if-place-preamble_bytes.false) c.in-Some.ensures (sym c.is_text_byte.ensures ∙ c.if-not-is_text_byte.false) (begun_true deep _ _ c.in-Ok-true.ensures c.in-Ok-true.field-0-test)

pub returns-in-Ok-true-begins : goal.returns-in-Ok-true-begins
returns-in-Ok-true-begins c = refused_33 _ _ _ c.requires refl (above_of c.preamble_bytes.ensures c.if-place-preamble_bytes.false) c.in-Some.ensures (sym c.is_text_byte.ensures ∙ c.if-not-is_text_byte.false) (begun_false deep _ _ c.in-Ok-false.ensures c.in-Ok-false.field-0-test) (begun_true free _ _ c.in-Ok-true-begins.ensures c.in-Ok-true-begins.field-0-test)

pub returns-in-Ok-false-begins : goal.returns-in-Ok-false-begins
returns-in-Ok-false-begins c = refused_32 _ _ _ c.requires refl (above_of c.preamble_bytes.ensures c.if-place-preamble_bytes.false) c.in-Some.ensures (sym c.is_text_byte.ensures ∙ c.if-not-is_text_byte.false) (begun_false deep _ _ c.in-Ok-false.ensures c.in-Ok-false.field-0-test) (begun_false free _ _ c.in-Ok-false-begins.ensures c.in-Ok-false-begins.field-0-test)

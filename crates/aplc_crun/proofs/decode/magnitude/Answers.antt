use Rattle.std.proofs.Common.{◌∙◌, arith}
use Rattle.aplc_crun.proofs.Decoding.{digit_more, digit_bad, digit_full, digit_past}
use Rattle.aplc_crun.proofs.decode.magnitude.Goals as goal

pub returns-in-None-clause-value : goal.returns-in-None-clause-value
returns-in-None-clause-value c = digit_bad c.loop-c.value c.c-item.result c.args.digits.now c.loop-c.c-index c.loop-c-test.true c.c-item.is c.in-None.ensures.value ∙ c.loop-c.invariant.value

pub returns-then-value-clause-value : goal.returns-then-value-clause-value
returns-then-value-clause-value c = digit_full c.loop-c.value c.c-item.result c.args.digits.now c.loop-c.c-index c.loop-c-test.true c.c-item.is c.in-Some.ensures.value.0 (omega arith) ∙ c.loop-c.invariant.value

pub returns-then-value-gt-LARGEST-clause-value : goal.returns-then-value-gt-LARGEST-clause-value
returns-then-value-gt-LARGEST-clause-value c = digit_past c.loop-c.value c.c-item.result c.args.digits.now c.loop-c.c-index c.loop-c-test.true c.c-item.is c.in-Some.digit c.in-Some.ensures.value.0 c.in-Some.ensures.value.1 (omega arith) ∙ c.loop-c.invariant.value

pub loop-c-preserved : goal.loop-c-preserved
loop-c-preserved c = record {
  value = digit_more c.loop-c.value c.c-item.result c.args.digits.now c.loop-c.c-index c.loop-c-test.true c.c-item.is c.in-Some.digit c.in-Some.ensures.value.0 c.in-Some.ensures.value.1 ∙ c.loop-c.invariant.value;
  small = omega arith;
}

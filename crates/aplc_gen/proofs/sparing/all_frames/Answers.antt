use Rattle.std.proofs.Common.{arith, ◌<◌, length}
use Rattle.aplc_gen.specs.Writing.{lowered_core}
use Rattle.aplc_gen.specs.Sparing.{frames_spared, flags_spared}
use Rattle.aplc_gen.proofs.MadeFrames.{made_frames, made_full}
use Rattle.aplc_gen.proofs.SparedRanks.{routines_length}
use Rattle.aplc_gen.proofs.SparedRows.{frame_added, flags_added}
use Rattle.aplc_gen.proofs.sparing.all_frames.Goals as goal

pub frame_at-requires-clause-function : goal.frame_at-requires-clause-function
frame_at-requires-clause-function c =
    let many = made_frames (lowered_core c.args.core.now) c.args.base.now c.requires in
    let long = routines_length c.args.core.now.program in
    omega (arith, c.loop-number-test.true, c.count-number-end.ensures, many, long)

pub frame_at-requires-clause-full : goal.frame_at-requires-clause-full
frame_at-requires-clause-full c = made_full (lowered_core c.args.core.now) c.args.base.now c.loop-number.number c.requires

pub loop-number-preserved : goal.loop-number-preserved
loop-number-preserved c =
    let y = c.args.base.now in
    let p = lowered_core c.args.core.now in
    let j = c.loop-number.number in
    let inside : j < length y.frames = omega (arith, c.loop-number-test.true, c.count-number-end.ensures) in (
      frame_added y p j c.loop-number.frames.items c.push.new.self.items (frames_spared y p 0 y.frames c.args.flags.now) c.in_ok-frame.frame c.loop-number.flags c.frame_at.new.flags inside c.in_ok-frame.ensures.flags c.in_ok-frame.ensures.frame c.in_ok-push.ensures.items c.loop-number.invariant.0,
      flags_added y p j c.loop-number.flags c.frame_at.new.flags (flags_spared y p 0 y.frames c.args.flags.now) inside c.in_ok-frame.ensures.flags c.loop-number.invariant.1,
    )

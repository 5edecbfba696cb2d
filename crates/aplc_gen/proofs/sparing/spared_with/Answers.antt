use Rattle.std.proofs.Common.{ap, ◌∙◌, List, ℕ}
use Rattle.std.specs.List.{filter}
use Rattle.aplc_gen.specs.Writing.{lowered_core}
use Rattle.aplc_gen.specs.Sparing.{is_flag_of}
use Rattle.aplc_gen.proofs.MadeFrames.{made_frames}
use Rattle.aplc_gen.proofs.SparedRanks.{routines_length}
use Rattle.aplc_gen.proofs.SparedRows.{short_layout}
use Rattle.aplc_gen.proofs.sparing.spared_with.Goals as goal

pub is_counted-counted-requires : goal.is_counted-counted-requires
is_counted-counted-requires c = made_frames (lowered_core c.args.core.now) c.args.base.now c.requires ∙ routines_length c.args.core.now.program

pub new-requires : goal.new-requires
new-requires c =
    let flags = c.globals.result.now in
    record {
      short = short_layout (lowered_core c.args.core.now) c.args.base.now flags c.in_ok-globals.globals c.in_ok-unsure.unsure c.in_ok-called.called c.is_counted-counted.result c.in_ok-frames.frames.items c.requires c.globals-2.ensures.short
          (c.in_ok-unsure.ensures ∙ ap (λ (ns : List ℕ). filter (is_flag_of flags) ns) c.globals-2.ensures.names)
          (c.in_ok-globals.ensures ∙ c.globals-3.ensures.names)
          (c.in_ok-called.ensures ∙ c.called.ensures);
    }

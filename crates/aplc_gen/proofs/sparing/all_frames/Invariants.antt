use Rattle.std.proofs.Common.{◌≡◌, ◌++◌, drop}
use Rattle.aplc_gen.specs.Writing.{lowered_core}
use Rattle.aplc_gen.specs.Sparing.{frames_spared, flags_spared}
use Rattle.aplc_gen.proofs.sparing.all_frames.Given as goal

-- the frames so far, with those of the functions left, are all, and so are the flags
abbrev pub invariant-loop-number : goal.invariant-loop-number
invariant-loop-number l =
    (l.frames.items ++ frames_spared l.base (lowered_core l.core) l.number (drop l.number l.base.frames) l.flags ≡ frames_spared l.base (lowered_core l.core) 0 l.base.frames l.fn.flags)
    × (flags_spared l.base (lowered_core l.core) l.number (drop l.number l.base.frames) l.flags ≡ flags_spared l.base (lowered_core l.core) 0 l.base.frames l.fn.flags)

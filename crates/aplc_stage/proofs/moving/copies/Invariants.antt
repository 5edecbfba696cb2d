use Rattle.std.proofs.Common.{◌≡◌, ◌++◌, drop}
use Rattle.aplc_stage.specs.Pieces.{copies}
use Rattle.aplc_stage.proofs.moving.copies.Given as goal

-- what is done, with what is left, is the whole
abbrev pub invariant-loop-index : goal.invariant-loop-index
invariant-loop-index l = l.code ++ copies (drop l.index l.to) (drop l.index l.from) ≡ copies l.to l.from

-- All that meets the rules is above the tables, and each round leaves less room.
use Rattle.aplc_infer.specs.Tables.{room_of}
use Rattle.aplc_infer.proofs.Moving.{IsSound}
use Rattle.aplc_infer.proofs.searching.least.Given as goal

abbrev pub invariant-rising : goal.invariant-rising
invariant-rising l = IsSound l.lookup l.tables

abbrev pub decreases-rising : goal.decreases-rising
decreases-rising l = room_of l.tables

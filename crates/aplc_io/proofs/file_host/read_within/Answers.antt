use Rattle.std.proofs.Common.{arith, ◌≡◌, ◌+◌, ◌++◌, ◌≤◌, ℕ, List, length, take, length-append, length-take-le}
use Rattle.std.specs.Io.KnownBytes.{Consumes}
use Rattle.std.proofs.KnownBytes.{Consumes-trans}
use Rattle.aplc_io.proofs.file_host.read_within.Goals as goal

joined : (xs buf : List ℕ) (n t : ℕ) → t ≡ length xs → n ≤ length buf → length (xs ++ take n buf) ≡ t + n
joined xs buf n t e h = omega (arith, length-append xs (take n buf), length-take-le n buf h, e)

pub returns-then-count-room-clause-took : goal.returns-then-count-room-clause-took
returns-then-count-room-clause-took g c = record {
  bytes = c.loop-count.bytes.items ++ take c.in-Ok.count c.read.new.buf;
  consumed = Consumes-trans _ _ _ _ _ c.loop-count.invariant.known c.in-Ok.ensures.bytes.0;
  many = joined c.loop-count.bytes.items c.read.new.buf c.in-Ok.count c.loop-count.taken c.loop-count.invariant.taken c.in-Ok.ensures.bound.0;
}

pub returns-then-is_err-clause-took : goal.returns-then-is_err-clause-took
returns-then-is_err-clause-took g c = record {
  bytes = c.loop-count.bytes.items ++ take c.in-Ok.count c.read.new.buf;
  consumed = Consumes-trans _ _ _ _ _ c.loop-count.invariant.known c.in-Ok.ensures.bytes.0;
  many = joined c.loop-count.bytes.items c.read.new.buf c.in-Ok.count c.loop-count.taken c.loop-count.invariant.taken c.in-Ok.ensures.bound.0;
}

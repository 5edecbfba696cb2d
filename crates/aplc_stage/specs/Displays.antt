-- What code does that prints a value in memory.
use Rattle.std.specs.Prelude.{◌≡◌, ℕ, ◌+◌, ◌*◌, List, [], length}
use Rattle.aplc_scalar.specs.declared.kind.Kind.{Kind}
use Rattle.aplc_arr.specs.Arrays.{Array}
use Rattle.aplc_arr.specs.Display.{shown}
use Rattle.aplc_cprof.specs.declared.syntax.CStmt.{CStmt}
use Rattle.aplc_cprof.specs.Blocks.{Blocks}
use Rattle.aplc_cprof.specs.WellFormed.{Scope}
use Rattle.aplc_cprof.specs.Machine.{State, Code}
use Rattle.aplc_cprof.specs.Frames.{Unnamed}
use Rattle.aplc_cprof.specs.Emitted.{Grown, IsFormed}
use Rattle.aplc_cprof.proofs.Paths.{Does}
use Rattle.aplc_quad.specs.Printed.{last_length}
use Rattle.aplc_quad.specs.Shows.{Showing, Shown, show_steps}
use Rattle.aplc_stage.specs.declared.staged.Staged.{Staged}
use Rattle.aplc_stage.specs.Staged.{rank_of, Holds}
use Rattle.aplc_stage.specs.Computes.{NoFault}

-- the most steps of printing an array of this shape: those of its display with one for each element, and those before it
abbrev pub display_steps : List ℕ → ℕ
display_steps ns = (3 + length ns) + show_steps ns 1

-- Code was added that prints the array of this kind which stands there, as it is displayed, and leaves all else as it was
-- but for buffers that were freed. On the way it holds as many more cells as the last axis is long, and none at the end.
-- No buffer variable of the value's names has the number of the next buffer.
pub record Displays (g : Scope) (old new : Blocks) (kind : Kind) (x : Staged) : Type 0 where
  pub code : List CStmt
  pub grown : Grown code old new
  pub formed : IsFormed g [] [] new (5 + 2 * rank_of x) code
  pub runs : (c : Code) (s : State) (a : Array) → Holds c.tables s x a → a.kind ≡ kind → Unnamed g (length s.heap) s → Does c (Showing old.ints old.bufs (last_length a.shape) s) (display_steps a.shape) code s (Shown old.ints old.bufs (shown a) s) NoFault

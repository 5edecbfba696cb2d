-- What a builder has built so far.
use Rattle.std.specs.Prelude.{◌≡◌, ◌≤◌, ℕ, List, [], ◌∷◌, ◌++◌}
use Rattle.aplc_cprof.specs.declared.syntax.CStmt.{CStmt}

-- the blocks round the innermost one, outermost first; its statements; how many whole and buffer variables were given
pub record Blocks : Type 0 where
  pub outer : List (List CStmt)
  pub inner : List CStmt
  pub ints : ℕ
  pub bufs : ℕ

-- one open block without statements, and no names given
abbrev pub no_blocks : Blocks
no_blocks = record { outer = []; inner = []; ints = 0; bufs = 0 }

-- all open blocks, outermost first
abbrev pub open_blocks : Blocks → List (List CStmt)
open_blocks b = b.outer ++ b.inner ∷ []

-- each of these blocks begins the one at its place among those; there may be more
abbrev pub Begin : List (List CStmt) → List (List CStmt) → Type 0
Begin [] blocks = Unit {0}
Begin (x ∷ xs) [] = ⊥
Begin (x ∷ xs) (y ∷ ys) = ((more : List CStmt) × (y ≡ x ++ more)) × Begin xs ys

-- What was built is still there: blocks that were open are open, and each begins with the statements that it had;
-- names that were given stay given.
pub record IsKept (old new : Blocks) : Type 0 where
  pub blocks : Begin (open_blocks old) (open_blocks new)
  pub ints : old.ints ≤ new.ints
  pub bufs : old.bufs ≤ new.bufs

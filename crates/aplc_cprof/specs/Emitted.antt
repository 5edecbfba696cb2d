-- What calls that take a builder add to it, and wherever that is well formed.
use Rattle.std.specs.Prelude.{◌≡◌, ℕ, ◌+◌, ◌≤◌, max, List, [], ◌∷◌, ◌++◌, Some, pos, true}
use Rattle.aplc_cprof.specs.declared.syntax.Int.{Int}
use Rattle.aplc_cprof.specs.declared.syntax.Int.TheVariants as int
use Rattle.aplc_cprof.specs.declared.syntax.Buf.{Buf}
use Rattle.aplc_cprof.specs.declared.syntax.Op.{Op}
use Rattle.aplc_cprof.specs.declared.syntax.Op.TheVariants as op
use Rattle.aplc_cprof.specs.declared.syntax.CExpr.{CExpr}
use Rattle.aplc_cprof.specs.declared.syntax.CExpr.TheVariants as expr
use Rattle.aplc_cprof.specs.declared.syntax.CStmt.{CStmt}
use Rattle.aplc_cprof.specs.declared.syntax.CStmt.TheVariants as stmt
use Rattle.aplc_cprof.specs.Blocks.{Blocks, IsKept}
use Rattle.aplc_cprof.specs.WellFormed.{Scope, is_int, is_buf, are_stmts}

-- ---- Expressions

-- an operation on the values of two variables
abbrev pub on_values : Op → Int → Int → CExpr
on_values o x y = expr.Bin o (expr.Var x) (expr.Var y)

-- a variable's value and one more
abbrev pub plus_one : Int → CExpr
plus_one x = expr.Bin op.Add (expr.Var x) (expr.Lit (pos 1))

-- whether a variable's value is below another's
abbrev pub less : Int → Int → CExpr
less x y = on_values op.Less x y

-- ---- Code

-- the counter i goes from 0 up to the length, and the body is done for each of its values
abbrev pub counted_loop : Int → Int → List CStmt → List CStmt
counted_loop i length body = stmt.Set i (expr.Lit (pos 0)) ∷ stmt.While (less i length) (body ++ stmt.Set i (plus_one i) ∷ []) ∷ []

-- only the innermost block has grown, by this code
pub record Grown (code : List CStmt) (old new : Blocks) : Type 0 where
  pub inner : new.inner ≡ old.inner ++ code
  pub outer : new.outer ≡ old.outer
  pub ints : old.ints ≤ new.ints
  pub bufs : old.bufs ≤ new.bufs

-- ---- Loops

-- a counter is given and set to 0, and the body of its loop begins
abbrev pub loop_begun : Blocks → Blocks
loop_begun b = record {
  outer = b.outer ++ (b.inner ++ stmt.Set (int.Local b.ints) (expr.Lit (pos 0)) ∷ []) ∷ [];
  inner = [];
  ints = b.ints + 1;
  bufs = b.bufs;
}

-- the innermost block became the body of the counter's loop, behind what stood in the block round it
pub record LoopEnded (i length : Int) (old new : Blocks) : Type 0 where
  pub before : List CStmt
  pub outer : old.outer ≡ new.outer ++ before ∷ []
  pub inner : new.inner ≡ before ++ stmt.While (less i length) (old.inner ++ stmt.Set i (plus_one i) ∷ []) ∷ []
  pub ints : new.ints ≡ old.ints
  pub bufs : new.bufs ≡ old.bufs

-- what was built before the loop was begun is kept, if it was until now
abbrev pub IsKeptRound : Blocks → Blocks → Type 0
IsKeptRound old new = (a : Blocks) → IsKept (loop_begun a) old → IsKept a new

-- ---- Scopes

-- no names
abbrev pub no_names : Scope
no_names = record { ints = 0; bufs = 0; global_ints = 0; global_bufs = 0; tables = 0; functions = 0 }

-- the names of both
abbrev pub joint : Scope → Scope → Scope
joint g h = record {
  ints = max g.ints h.ints;
  bufs = max g.bufs h.bufs;
  global_ints = max g.global_ints h.global_ints;
  global_bufs = max g.global_bufs h.global_bufs;
  tables = max g.tables h.tables;
  functions = max g.functions h.functions;
}

-- the globals, tables and functions of one scope are there in another
pub record IsWithin (g sc : Scope) : Type 0 where
  pub global_ints : g.global_ints ≤ sc.global_ints
  pub global_bufs : g.global_bufs ≤ sc.global_bufs
  pub tables : g.tables ≤ sc.tables
  pub functions : g.functions ≤ sc.functions

abbrev pub AreInts : Scope → List Int → Type 0
AreInts sc [] = Unit {0}
AreInts sc (x ∷ xs) = (is_int sc x ≡ true) × AreInts sc xs

abbrev pub AreBufs : Scope → List Buf → Type 0
AreBufs sc [] = Unit {0}
AreBufs sc (p ∷ ps) = (is_buf sc p ≡ true) × AreBufs sc ps

-- The code is well formed wherever these names and those given before `new` are declared, the globals, tables and
-- functions of the scope are there, and there is room for `depth` more. So it uses no other name.
abbrev pub IsFormed : Scope → List Int → List Buf → Blocks → ℕ → List CStmt → Type 0
IsFormed g xs ps new depth code =
    (sc : Scope) (room : ℕ) → IsWithin g sc → AreInts sc xs → AreBufs sc ps → new.ints ≤ sc.ints → new.bufs ≤ sc.bufs → depth ≤ room → are_stmts sc code (Some room) ≡ true

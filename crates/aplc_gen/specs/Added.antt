-- What calls that write the code of a function add to its builder.
-- It must not know the code of a line: it is whatever does what the line's steps do, with the variables given so far.
use Rattle.std.specs.Prelude.{◌≡◌, ℕ, List, [], ◌∷◌, Bool, true, false, pos, unwrap_or}
use Rattle.aplc_cprof.specs.declared.syntax.Arm.{Arm}
use Rattle.aplc_cprof.specs.declared.syntax.CFunction.{CFunction}
use Rattle.aplc_cprof.specs.declared.syntax.CStmt.{CStmt}
use Rattle.aplc_cprof.specs.declared.syntax.CStmt.TheVariants as stmt
use Rattle.aplc_cprof.specs.Blocks.{Blocks}
use Rattle.aplc_cprof.specs.Emitted.{Grown}
use Rattle.aplc_core.specs.PlainSteps.{Effect}
use Rattle.aplc_core.specs.CoreRuns.{PlainCore}
use Rattle.aplc_gen.specs.Layouts.{Layout, Site, the_routine}
use Rattle.aplc_gen.specs.Emitted.{entry_known, is_line_test, lines_loop, site_at}
use Rattle.aplc_gen.specs.Codes.{IsLine, whole_line, AreLines, IsArm, AreArms, turn_code, IsRun, IsBody, IsFunction, AreCalled}

-- what is asked of the code of a line once so many variables were given
abbrev pub Lined : Site → Blocks → List ℕ → ℕ → List Effect → List CStmt → Type 0
Lined g b = IsLine g b.ints b.bufs

-- ---- Lines

-- line l, where names have a value that are known
pub record AddsLine (g : Site) (known : List ℕ) (l : ℕ) (xs : List Effect) (old new : Blocks) : Type 0 where
  pub code : List CStmt
  pub grown : Grown (whole_line g l xs code) old new
  pub line : Lined g new known l xs code

-- the lines from number l on
pub record AddsLines (g : Site) (known : List ℕ) (through : Bool) (l : ℕ) (xs : List (List Effect)) (old new : Blocks) : Type 0 where
  pub code : List CStmt
  pub grown : Grown code old new
  pub lines : AreLines (Lined g new) g known through l xs code

-- ---- Arms

-- the code of the arm of the first of these lines
pub record AddsArm (g : Site) (l : ℕ) (xs : List (List Effect)) (old new : Blocks) : Type 0 where
  pub code : List CStmt
  pub grown : Grown code old new
  pub arm : IsArm (Lined g new) g l xs code

-- no code was added, and the statement is the loop over the lines from number l on
pub record IsSegment (g : Site) (l : ℕ) (xs : List (List Effect)) (old new : Blocks) (s : CStmt) : Type 0 where
  pub grown : Grown [] old new
  pub body : List CStmt
  pub is : s ≡ stmt.While (is_line_test g l) body
  pub lines : AreLines (Lined g new) g (entry_known g l) false l xs body

-- no code was added, and the arm is that of the first of these lines
pub record IsLineArm (g : Site) (l : ℕ) (xs : List (List Effect)) (old new : Blocks) (a : Arm) : Type 0 where
  pub grown : Grown [] old new
  pub body : List CStmt
  pub is : a ≡ record { value = pos l; body = body }
  pub arm : IsArm (Lined g new) g l xs body

-- no code was added, and these are the arms of those of the lines that have one
pub record HasArms (g : Site) (l : ℕ) (xs : List (List Effect)) (old new : Blocks) (all : List Arm) : Type 0 where
  pub grown : Grown [] old new
  pub arms : AreArms (Lined g new) g l xs all

-- the loop over the lines that have arms
pub record AddsLoop (g : Site) (old new : Blocks) : Type 0 where
  pub all : List Arm
  pub grown : Grown (turn_code g all ∷ []) old new
  pub arms : AreArms (Lined g new) g 1 (the_routine g).steps all

-- ---- Functions

pub record AddsRun (g : Site) (old new : Blocks) : Type 0 where
  pub code : List CStmt
  pub grown : Grown code old new
  pub run : IsRun (Lined g new) g (lines_loop (the_routine g) (the_routine g).steps) code

pub record AddsBody (g : Site) (old new : Blocks) : Type 0 where
  pub code : List CStmt
  pub grown : Grown code old new
  pub body : IsBody (Lined g new) g code

-- the functions of a program: the one with which the run begins, and then those that are called
pub record AreFunctions (y : Layout) (p : PlainCore) (fs : List CFunction) : Type 0 where
  pub first : CFunction
  pub rest : List CFunction
  pub is : fs ≡ first ∷ rest
  pub begins : IsFunction (site_at y p true (unwrap_or p.start 0)) first
  pub called : AreCalled y p y.called rest

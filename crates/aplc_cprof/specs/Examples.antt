-- Small programs, to see what the definitions say of them.
use Rattle.std.specs.Prelude.{ℕ, List, [], ◌∷◌, codes, pos}
use Rattle.aplc_cprof.specs.declared.syntax.Int.{Int}
use Rattle.aplc_cprof.specs.declared.syntax.Int.TheVariants as int
use Rattle.aplc_cprof.specs.declared.syntax.Op.TheVariants as op
use Rattle.aplc_cprof.specs.declared.syntax.Checked.TheVariants as checked
use Rattle.aplc_cprof.specs.declared.syntax.CExpr.{CExpr}
use Rattle.aplc_cprof.specs.declared.syntax.CExpr.TheVariants as expr
use Rattle.aplc_cprof.specs.declared.syntax.CStmt.{CStmt}
use Rattle.aplc_cprof.specs.declared.syntax.CStmt.TheVariants as stmt
use Rattle.aplc_cprof.specs.declared.syntax.CFunction.{CFunction}
use Rattle.aplc_cprof.specs.declared.syntax.CProgram.{CProgram}

abbrev pub v0 : Int
v0 = int.Local 0

abbrev pub literal : ℕ → CExpr
literal n = expr.Lit (pos n)

-- the lines of a function that prints 12
abbrev pub sample_body : List CStmt
sample_body =
    stmt.Set v0 (literal 4)
    ∷ stmt.Check v0 checked.Mul (literal 3) (expr.Var v0)
    ∷ stmt.At (codes "MAIN") (pos 1)
    ∷ stmt.PutNum (expr.Var v0) (literal 0)
    ∷ stmt.PutChar (literal 10)
    ∷ stmt.Set v0 (expr.Bin op.Sub (literal 0) (literal 5))
    ∷ []

abbrev pub sample_function : CFunction
sample_function = record { ints = 1; bufs = 0; body = sample_body }

abbrev pub sample : CProgram
sample = record { tables = []; ints = 0; bufs = 0; functions = sample_function ∷ [] }

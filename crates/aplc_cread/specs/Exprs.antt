-- Expressions: the texts of each kind, by the byte that it begins with.
use Rattle.std.specs.Prelude.{◌≡◌, ℕ, zero, suc, ◌<◌, ◌≤◌, ◌^◌, List, ◌++◌, codes, decimal, pos, Option, Some, None, cond, nat_eq, IsTrue}
use Rattle.aplc_cprof.specs.declared.syntax.Op.{Op}
use Rattle.aplc_cprof.specs.declared.syntax.CExpr.{CExpr}
use Rattle.aplc_cprof.specs.declared.syntax.CExpr.TheVariants as ex
use Rattle.aplc_cprof.specs.declared.syntax.Int.TheVariants as int
use Rattle.aplc_cprof.specs.declared.syntax.Buf.TheVariants as buf
use Rattle.aplc_cprof.specs.Text.{expr_text, op_text}
use Rattle.aplc_cprof.specs.WellFormed.{Scope, is_expr}
use Rattle.aplc_cread.specs.declared.expr.Names.{Names}
use Rattle.aplc_cread.specs.Reading.{Bind, Lit, Number, Map, After}

-- the scope in which the names below these bounds are declared
abbrev pub scope : Names → Scope
scope n = record { ints = n.ints; bufs = n.bufs; global_ints = n.global_ints; global_bufs = n.global_bufs; tables = n.tables; functions = n.functions }

pub record AreSmall (n : Names) : Type 0 where
  pub ints : n.ints ≤ 2 ^ 32
  pub bufs : n.bufs ≤ 2 ^ 32
  pub global_ints : n.global_ints ≤ 2 ^ 32
  pub global_bufs : n.global_bufs ≤ 2 ^ 32
  pub tables : n.tables ≤ 2 ^ 32
  pub functions : n.functions ≤ 2 ^ 32
  pub some : 0 < n.functions

-- one more is open, where there is room
abbrev pub IsInner : Option ℕ → Option (Option ℕ) → Type 0
IsInner None r = r ≡ Some None
IsInner (Some zero) r = r ≡ None
IsInner (Some (suc n)) r = r ≡ Some (Some n)

-- names below a bound, and room for one more
abbrev pub IsAllowed : ℕ → Option ℕ → Option (Option ℕ) → Type 0
IsAllowed zero room r = r ≡ None
IsAllowed (suc n) room r = IsInner room r

-- a language in the room that is left when one more is open
abbrev pub Inner : {A : Type 0} → Option ℕ → (Option ℕ → A → List ℕ → Type 0) → A → List ℕ → Type 0
Inner None L = L None
Inner (Some zero) L = λ a w. ⊥
Inner (Some (suc n)) L = L (Some n)

-- e is an expression, and this is its text
pub record Expr (sc : Scope) (room : Option ℕ) (e : CExpr) (w : List ℕ) : Type 0 where
  pub fits : IsTrue (is_expr sc e room)
  pub text : w ≡ expr_text e

-- an expression, and a fixed text behind it
pub record ExprThen (sc : Scope) (room : Option ℕ) (t : List ℕ) (e : CExpr) (w : List ℕ) : Type 0 where
  pub fits : IsTrue (is_expr sc e room)
  pub text : w ≡ expr_text e ++ t

-- two expressions, and a fixed text behind each
pub record TwoExprs (sc : Scope) (room : Option ℕ) (t u : List ℕ) (x : CExpr × CExpr) (w : List ℕ) : Type 0 where
  pub left : IsTrue (is_expr sc x.0 room)
  pub right : IsTrue (is_expr sc x.1 room)
  pub text : w ≡ expr_text x.0 ++ (t ++ (expr_text x.1 ++ u))

-- a number below a bound, and an expression in brackets
pub record Indexed (n : ℕ) (sc : Scope) (room : Option ℕ) (x : ℕ × CExpr) (w : List ℕ) : Type 0 where
  pub below : x.0 < n
  pub fits : IsTrue (is_expr sc x.1 room)
  pub text : w ≡ decimal x.0 ++ (codes "[" ++ (expr_text x.1 ++ codes "]"))

abbrev pub Operator : Op → List ℕ → Type 0
Operator o w = w ≡ op_text o

-- what stands behind `(`
abbrev pub Operation : Scope → Option ℕ → CExpr → List ℕ → Type 0
Operation sc room = Bind (Expr sc room) (λ x. Bind Operator (λ o. Map (λ y. ex.Bin o x y) (ExprThen sc room (codes ")"))))

abbrev pub Constant : CExpr → List ℕ → Type 0
Constant = Bind (Number (2 ^ 63)) (λ n. Map (λ u. ex.Lit (pos n)) (Lit (codes "LL")))

-- what an expression begins with
pub data Letter : Type 0 where
  LocalInt : Letter
  GlobalInt : Letter
  LocalBuf : Letter
  GlobalBuf : Letter
  InTable : Letter
  Opened : Letter
  Digit : Letter

abbrev pub letter : ℕ → Letter
letter c = cond (nat_eq c 118) LocalInt (cond (nat_eq c 103) GlobalInt (cond (nat_eq c 98) LocalBuf (cond (nat_eq c 104) GlobalBuf (cond (nat_eq c 107) InTable (cond (nat_eq c 40) Opened Digit)))))

-- the expressions that begin so
abbrev pub Form : Scope → Option ℕ → Letter → CExpr → List ℕ → Type 0
Form sc room LocalInt = After (codes "v") (Map (λ n. ex.Var (int.Local n)) (Number sc.ints))
Form sc room GlobalInt = After (codes "g") (Map (λ n. ex.Var (int.Global n)) (Number sc.global_ints))
Form sc room LocalBuf = Inner room (λ r. After (codes "b") (Map (λ x. ex.Cell (buf.Local x.0) x.1) (Indexed sc.bufs sc r)))
Form sc room GlobalBuf = Inner room (λ r. After (codes "h") (Map (λ x. ex.Cell (buf.Global x.0) x.1) (Indexed sc.global_bufs sc r)))
Form sc room InTable = Inner room (λ r. After (codes "k") (Map (λ x. ex.Table x.0 x.1) (Indexed sc.tables sc r)))
Form sc room Opened = Inner room (λ r. After (codes "(") (Operation sc r))
Form sc room Digit = Constant

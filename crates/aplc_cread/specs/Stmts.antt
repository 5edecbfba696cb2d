-- Statements: what is left to be read behind the keyword of each.
use Rattle.std.specs.Prelude.{◌≡◌, ℕ, zero, suc, ◌<◌, ◌≤◌, ◌^◌, ◌&&◌, ◌||◌, List, [], ◌∷◌, ◌++◌, codes, decimal, length, map, ℤ, pos, negsuc, Option, Some, None, Bool, true, false, nat_eq, nat_lt, IsTrue}
use Rattle.aplc_scalar.specs.declared.kind.FaultKind.{FaultKind}
use Rattle.aplc_scalar.specs.declared.kind.FaultKind.TheVariants as fault
use Rattle.aplc_cprof.specs.declared.syntax.Int.{Int}
use Rattle.aplc_cprof.specs.declared.syntax.Int.TheVariants as int
use Rattle.aplc_cprof.specs.declared.syntax.Buf.{Buf}
use Rattle.aplc_cprof.specs.declared.syntax.Buf.TheVariants as buf
use Rattle.aplc_cprof.specs.declared.syntax.Checked.{Checked}
use Rattle.aplc_cprof.specs.declared.syntax.Checked.TheVariants as checked
use Rattle.aplc_cprof.specs.declared.syntax.CExpr.{CExpr}
use Rattle.aplc_cprof.specs.declared.syntax.Arm.{Arm}
use Rattle.aplc_cprof.specs.declared.syntax.CStmt.{CStmt}
use Rattle.aplc_cprof.specs.declared.syntax.CStmt.TheVariants as st
use Rattle.aplc_cprof.specs.Text.{int_name, buf_name, stmts_text, arms_text}
use Rattle.aplc_cprof.specs.WellFormed.{Scope, is_int, is_buf, is_name, inside, are_stmts, arm_test, arms_fit, rise_above}
use Rattle.aplc_cread.specs.Reading.{Bind, Pure, Map, OneOf, NumberThen, Found, Stops, Any}
use Rattle.aplc_cread.specs.Exprs.{ExprThen, TwoExprs, Inner}

-- ---- Blocks

-- statements and the brace behind them
pub record Block (sc : Scope) (room : Option ℕ) (ss : List CStmt) (w : List ℕ) : Type 0 where
  pub fits : IsTrue (are_stmts sc ss room)
  pub text : w ≡ stmts_text ss ++ codes "}"

-- a block, and a fixed text behind its brace
pub record BlockThen (sc : Scope) (room : Option ℕ) (t : List ℕ) (ss : List CStmt) (w : List ℕ) : Type 0 where
  pub fits : IsTrue (are_stmts sc ss room)
  pub text : w ≡ stmts_text ss ++ (codes "}" ++ t)

-- ---- Names of variables, and a fixed text behind them

pub record IntThen (sc : Scope) (t : List ℕ) (x : Int) (w : List ℕ) : Type 0 where
  pub fits : IsTrue (is_int sc x)
  pub text : w ≡ int_name x ++ t

pub record BufThen (sc : Scope) (t : List ℕ) (p : Buf) (w : List ℕ) : Type 0 where
  pub fits : IsTrue (is_buf sc p)
  pub text : w ≡ buf_name p ++ t

-- an APL name, and what stands behind it
pub record NameThen (t name w : List ℕ) : Type 0 where
  pub fits : IsTrue (is_name name)
  pub text : w ≡ name ++ t

-- ---- Assignments to a whole variable, by what stands behind the sign

abbrev pub call_texts : List (List ℕ)
call_texts = codes "add(" ∷ codes "sub(" ∷ codes "mul(" ∷ codes "width(" ∷ codes "read_n;\n" ∷ []

abbrev pub five : List Bool
five = true ∷ true ∷ true ∷ true ∷ true ∷ []

abbrev pub checked_at : ℕ → Checked
checked_at zero = checked.Add
checked_at (suc zero) = checked.Sub
checked_at (suc (suc n)) = checked.Mul

abbrev pub Checks : Scope → Option ℕ → Int → Checked → CStmt → List ℕ → Type 0
Checks sc room x c = Map (λ y. st.Check x c y.0 y.1) (TwoExprs sc room (codes ", ") (codes ");\n"))

-- behind the call of this number
abbrev pub CallBehind : Scope → Option ℕ → Int → ℕ → CStmt → List ℕ → Type 0
CallBehind sc room x zero = Checks sc room x checked.Add
CallBehind sc room x (suc zero) = Checks sc room x checked.Sub
CallBehind sc room x (suc (suc zero)) = Checks sc room x checked.Mul
CallBehind sc room x (suc (suc (suc zero))) = Map (λ e. st.Width x e) (ExprThen sc room (codes ");\n"))
CallBehind sc room x (suc (suc (suc (suc n)))) = Pure (st.ReadCount x)

-- whether a call stands there
abbrev pub AssignedBy : Scope → Option ℕ → Int → Bool → CStmt → List ℕ → Type 0
AssignedBy sc room x true = Bind (OneOf call_texts five) (CallBehind sc room x)
AssignedBy sc room x false = Map (λ e. st.Set x e) (ExprThen sc room (codes ";\n"))

abbrev pub Assigned : Scope → Option ℕ → Int → CStmt → List ℕ → Type 0
Assigned sc room x s w = (c : Bool) × AssignedBy sc room x c s w

-- the first bytes of the calls
abbrev pub is_call : Option ℕ → Bool
is_call None = false
is_call (Some c) = nat_eq c 97 || nat_eq c 115 || nat_eq c 109 || nat_eq c 119 || nat_eq c 114

-- ---- Statements that begin with a buffer

abbrev pub buf_signs : List (List ℕ)
buf_signs = codes "[" ∷ codes " = " ∷ []

abbrev pub two : List Bool
two = true ∷ true ∷ []

-- a number below a bound, and which sign stands behind it
pub record Signed (n : ℕ) (x : ℕ × ℕ) (w : List ℕ) : Type 0 where
  pub below : x.0 < n
  pub back : List ℕ
  pub sign : OneOf buf_signs two x.1 back
  pub text : w ≡ decimal x.0 ++ back

abbrev pub source_texts : List (List ℕ)
source_texts = codes "0;\n" ∷ codes "cells(" ∷ codes "read_text();\n" ∷ codes "read_nums();\n" ∷ codes "b" ∷ codes "h" ∷ []

abbrev pub source_may : Scope → List Bool
source_may sc = true ∷ true ∷ true ∷ true ∷ nat_lt 0 sc.bufs ∷ nat_lt 0 sc.global_bufs ∷ []

-- behind the source of this number
abbrev pub SourceBehind : Scope → Option ℕ → Buf → ℕ → CStmt → List ℕ → Type 0
SourceBehind sc room p zero = Pure (st.SetBuf p None)
SourceBehind sc room p (suc zero) = Map (λ e. st.Cells p e) (ExprThen sc room (codes ");\n"))
SourceBehind sc room p (suc (suc zero)) = Pure (st.ReadText p)
SourceBehind sc room p (suc (suc (suc zero))) = Pure (st.ReadNums p)
SourceBehind sc room p (suc (suc (suc (suc zero)))) = Map (λ k. st.SetBuf p (Some (buf.Local k))) (NumberThen sc.bufs (codes ";\n"))
SourceBehind sc room p (suc (suc (suc (suc (suc n))))) = Map (λ k. st.SetBuf p (Some (buf.Global k))) (NumberThen sc.global_bufs (codes ";\n"))

-- behind the sign of this number
abbrev pub StoredBehind : Scope → Option ℕ → Buf → ℕ → CStmt → List ℕ → Type 0
StoredBehind sc room p zero = Map (λ x. st.SetCell p x.0 x.1) (TwoExprs sc room (codes "] = ") (codes ";\n"))
StoredBehind sc room p (suc n) = Bind (OneOf source_texts (source_may sc)) (SourceBehind sc room p)

-- ---- Faults and calls

abbrev pub fault_texts : List (List ℕ)
fault_texts = codes "ault(0);\n" ∷ codes "ault(1);\n" ∷ codes "ault(2);\n" ∷ codes "ault(3);\n" ∷ codes "ault(4);\n" ∷ codes "ault(5);\n" ∷ codes "ault(6);\n" ∷ []

abbrev pub seven : List Bool
seven = true ∷ true ∷ true ∷ true ∷ true ∷ true ∷ true ∷ []

abbrev pub fault_at : ℕ → FaultKind
fault_at zero = fault.Domain
fault_at (suc zero) = fault.Index
fault_at (suc (suc zero)) = fault.Length
fault_at (suc (suc (suc zero))) = fault.Limit
fault_at (suc (suc (suc (suc zero)))) = fault.Rank
fault_at (suc (suc (suc (suc (suc zero))))) = fault.Value
fault_at (suc (suc (suc (suc (suc (suc n)))))) = fault.Input

-- whether a fault stands there
abbrev pub CalledBy : Scope → Bool → CStmt → List ℕ → Type 0
CalledBy sc true = Map (λ i. st.Fault (fault_at i)) (OneOf fault_texts seven)
CalledBy sc false = Map (λ n. st.Call n) (NumberThen sc.functions (codes "();\n"))

abbrev pub Called : Scope → CStmt → List ℕ → Type 0
Called sc s w = (c : Bool) × CalledBy sc c s w

abbrev pub is_fault : Option ℕ → Bool
is_fault None = false
is_fault (Some c) = nat_eq c 97

-- ---- Statements with blocks

abbrev pub else_texts : List (List ℕ)
else_texts = codes "\n" ∷ codes " else {\n" ∷ []

abbrev pub ElseBehind : Scope → Option ℕ → CExpr → List CStmt → ℕ → CStmt → List ℕ → Type 0
ElseBehind sc room e a zero = Pure (st.If e a None)
ElseBehind sc room e a (suc n) = Map (λ b. st.If e a (Some b)) (BlockThen sc room (codes "\n"))

abbrev pub IfBehind : Scope → Option ℕ → Option ℕ → CStmt → List ℕ → Type 0
IfBehind sc room r = Bind (ExprThen sc room (codes ") {\n")) (λ e. Bind (Block sc r) (λ a. Bind (OneOf else_texts two) (ElseBehind sc r e a)))

abbrev pub WhileBehind : Scope → Option ℕ → Option ℕ → CStmt → List ℕ → Type 0
WhileBehind sc room r = Bind (ExprThen sc room (codes ") {\n")) (λ e. Map (λ a. st.While e a) (BlockThen sc r (codes "\n")))

abbrev pub before : ℕ → ℤ
before zero = negsuc 0
before (suc n) = pos n

-- arms whose numbers rise from low on, the default, and the switch's own brace
pub record Arms (sc : Scope) (room : Option ℕ) (low : ℕ) (x : List Arm × List CStmt) (w : List ℕ) : Type 0 where
  pub rise : IsTrue (rise_above (before low) (map (arm_test sc) x.0))
  pub arms : IsTrue (arms_fit (map (arm_test sc) x.0) room)
  pub default : IsTrue (inside room (are_stmts sc x.1))
  pub text : w ≡ arms_text x.0 ++ (codes "default: {\n" ++ (stmts_text x.1 ++ codes "} break;\n}\n"))

abbrev pub SwitchBehind : Scope → Option ℕ → CStmt → List ℕ → Type 0
SwitchBehind sc r = Bind (IntThen sc (codes ") {\n")) (λ x. Map (λ y. st.Switch x y.0 y.1) (Arms sc r 0))

-- ---- Keywords

abbrev pub keywords : List (List ℕ)
keywords = codes "}" ∷ codes "return;\n" ∷ codes "enter();\n" ∷ codes "leave();\n" ∷ codes "v" ∷ codes "g" ∷ codes "b" ∷ codes "h" ∷ codes "drop(" ∷ codes "put_num(" ∷ codes "put_char(" ∷ codes "at(\"" ∷ codes "f" ∷ codes "if (" ∷ codes "while (" ∷ codes "switch (" ∷ []

abbrev pub has_room : Option ℕ → Bool
has_room None = true
has_room (Some zero) = false
has_room (Some (suc n)) = true

abbrev pub has_rooms : Option ℕ → Bool
has_rooms None = true
has_rooms (Some zero) = false
has_rooms (Some (suc n)) = nat_lt 0 n

abbrev pub some_of : ℕ → ℕ → Bool
some_of a b = nat_lt 0 a || nat_lt 0 b

-- which of them may stand there
abbrev pub may : Scope → Option ℕ → List Bool
may sc room = true ∷ true ∷ true ∷ true ∷ nat_lt 0 sc.ints ∷ nat_lt 0 sc.global_ints ∷ nat_lt 0 sc.bufs ∷ nat_lt 0 sc.global_bufs ∷ some_of sc.bufs sc.global_bufs ∷ true ∷ true ∷ true ∷ true ∷ has_room room ∷ has_room room ∷ (has_rooms room && some_of sc.ints sc.global_ints) ∷ []

-- behind the keyword of this number, not counting the brace
abbrev pub StmtBehind : Scope → Option ℕ → ℕ → CStmt → List ℕ → Type 0
StmtBehind sc room zero = Pure st.Return
StmtBehind sc room (suc zero) = Pure st.Enter
StmtBehind sc room (suc (suc zero)) = Pure st.Leave
StmtBehind sc room (suc (suc (suc zero))) = Bind (NumberThen sc.ints (codes " = ")) (λ n. Assigned sc room (int.Local n))
StmtBehind sc room (suc (suc (suc (suc zero)))) = Bind (NumberThen sc.global_ints (codes " = ")) (λ n. Assigned sc room (int.Global n))
StmtBehind sc room (suc (suc (suc (suc (suc zero))))) = Bind (Signed sc.bufs) (λ x. StoredBehind sc room (buf.Local x.0) x.1)
StmtBehind sc room (suc (suc (suc (suc (suc (suc zero)))))) = Bind (Signed sc.global_bufs) (λ x. StoredBehind sc room (buf.Global x.0) x.1)
StmtBehind sc room (suc (suc (suc (suc (suc (suc (suc zero))))))) = Map (λ p. st.Free p) (BufThen sc (codes ");\n"))
StmtBehind sc room (suc (suc (suc (suc (suc (suc (suc (suc zero)))))))) = Map (λ x. st.PutNum x.0 x.1) (TwoExprs sc room (codes ", ") (codes ");\n"))
StmtBehind sc room (suc (suc (suc (suc (suc (suc (suc (suc (suc zero))))))))) = Map (λ e. st.PutChar e) (ExprThen sc room (codes ");\n"))
StmtBehind sc room (suc (suc (suc (suc (suc (suc (suc (suc (suc (suc zero)))))))))) = Bind (NameThen (codes "\", ")) (λ name. Map (λ n. st.At name (pos n)) (NumberThen (2 ^ 63) (codes ");\n")))
StmtBehind sc room (suc (suc (suc (suc (suc (suc (suc (suc (suc (suc (suc zero))))))))))) = Called sc
StmtBehind sc room (suc (suc (suc (suc (suc (suc (suc (suc (suc (suc (suc (suc zero)))))))))))) = Inner room (IfBehind sc room)
StmtBehind sc room (suc (suc (suc (suc (suc (suc (suc (suc (suc (suc (suc (suc (suc zero))))))))))))) = Inner room (WhileBehind sc room)
StmtBehind sc room (suc (suc (suc (suc (suc (suc (suc (suc (suc (suc (suc (suc (suc (suc n)))))))))))))) = Inner room (SwitchBehind sc)

abbrev pub BlockBehind : Scope → Option ℕ → ℕ → List CStmt → List ℕ → Type 0
BlockBehind sc room zero = Pure []
BlockBehind sc room (suc k) = Bind (StmtBehind sc room k) (λ s. Map (λ ss. s ∷ ss) (Block sc room))

-- ---- Declarations

-- what the body of a function begins with
abbrev pub openings : List (List ℕ)
openings = keywords ++ (codes "int64_t *b0 = 0" ∷ codes "int64_t v0" ∷ [])

abbrev pub opening_may : Scope → Option ℕ → Bool → Bool → List Bool
opening_may sc room bufs ints = may sc room ++ (bufs ∷ ints ∷ [])

-- ---- Arms

-- a number from low on and below a bound, and a fixed text behind it
pub record RangedThen (low bound : ℕ) (t : List ℕ) (n : ℕ) (w : List ℕ) : Type 0 where
  pub above : low ≤ n
  pub below : n < bound
  pub text : w ≡ decimal n ++ t

abbrev pub arm_texts : List (List ℕ)
arm_texts = codes "case " ∷ codes "default: {\n" ∷ []

abbrev pub arm_may : ℕ → List Bool
arm_may low = nat_lt low (2 ^ 63) ∷ true ∷ []

-- behind the start of an arm, or of the default
abbrev pub ArmBehind : Scope → Option ℕ → Option ℕ → ℕ → ℕ → List Arm × List CStmt → List ℕ → Type 0
ArmBehind sc room r low zero = Bind (RangedThen low (2 ^ 63) (codes ": {\n")) (λ n. Bind (BlockThen sc r (codes " break;\n")) (λ b. Map (λ x. (record { value = pos n; body = b } ∷ x.0, x.1)) (Arms sc room (suc n))))
ArmBehind sc room r low (suc i) = Map (λ d. ([], d)) (BlockThen sc r (codes " break;\n}\n"))

-- what is read of the arms, so that reading the rest from a later number on reads all
pub record GrownArms (sc : Scope) (room : Option ℕ) (s : List ℕ) (done : List Arm) (low : ℕ) (rest : List ℕ) : Type 0 where
  pub near : length rest ≤ length s
  pub low_within : low ≤ 2 ^ 63
  pub found : (x : List Arm × List CStmt) (r : List ℕ) → Found Any (Arms sc room low) rest x r → Found Any (Arms sc room 0) s (done ++ x.0, x.1) r
  pub stops : (r : List ℕ) → Stops Any (Arms sc room low) rest r → Stops Any (Arms sc room 0) s r

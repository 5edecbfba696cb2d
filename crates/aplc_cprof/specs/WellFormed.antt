-- Which programs are well formed, and which bytes are the text of one.
use Rattle.std.specs.Prelude.{◌≡◌, ℕ, zero, suc, ◌^◌, List, [], ◌∷◌, length, map, take, drop, ℤ, pos, negsuc, Option, Some, None, Bool, true, false, ◌&&◌, ◌||◌, nat_lt, nat_le, nat_eq, int_lt, IsTrue}
use Rattle.aplc_scalar.specs.Scalar.{in_range}
use Rattle.aplc_cprof.specs.declared.syntax.Int.{Int}
use Rattle.aplc_cprof.specs.declared.syntax.Int.TheVariants as int
use Rattle.aplc_cprof.specs.declared.syntax.Buf.{Buf}
use Rattle.aplc_cprof.specs.declared.syntax.Buf.TheVariants as buf
use Rattle.aplc_cprof.specs.declared.syntax.CExpr.{CExpr, fold-CExpr}
use Rattle.aplc_cprof.specs.declared.syntax.CExpr.TheOpen.{CExpr-F}
use Rattle.aplc_cprof.specs.declared.syntax.CStmt.{CStmt, fold-CStmt}
use Rattle.aplc_cprof.specs.declared.syntax.CStmt.TheFolds.{fold-Arm}
use Rattle.aplc_cprof.specs.declared.syntax.CStmt.TheOpen.{CStmt-F, Arm-F}
use Rattle.aplc_cprof.specs.declared.syntax.Arm.{Arm}
use Rattle.aplc_cprof.specs.declared.syntax.CFunction.{CFunction}
use Rattle.aplc_cprof.specs.declared.syntax.CProgram.{CProgram}
use Rattle.aplc_cprof.specs.Text.{program_text}

-- ---- Names that are declared

-- the numbers of names of each sort; those below them are declared
pub record Scope : Type 0 where
  pub ints : ℕ
  pub bufs : ℕ
  pub global_ints : ℕ
  pub global_bufs : ℕ
  pub tables : ℕ
  pub functions : ℕ

abbrev pub is_int : Scope → Int → Bool
is_int sc (int.Local n) = nat_lt n sc.ints
is_int sc (int.Global n) = nat_lt n sc.global_ints

abbrev pub is_buf : Scope → Buf → Bool
is_buf sc (buf.Local n) = nat_lt n sc.bufs
is_buf sc (buf.Global n) = nat_lt n sc.global_bufs

-- null, or a declared buffer
abbrev pub is_source : Scope → Option Buf → Bool
is_source sc None = true
is_source sc (Some q) = is_buf sc q

-- the names that a function of a program may use
abbrev pub declared : CProgram → CFunction → Scope
declared p f = record {
  ints = f.ints;
  bufs = f.bufs;
  global_ints = p.ints;
  global_bufs = p.bufs;
  tables = length p.tables;
  functions = length p.functions;
}

-- ---- Numbers and names in texts

-- a number written without a sign
abbrev pub is_plain : ℤ → Bool
is_plain (pos n) = nat_lt n (2 ^ 63)
is_plain (negsuc n) = false

-- a letter or `_`
abbrev pub is_letter : ℕ → Bool
is_letter c = (nat_le 65 c && nat_le c 90) || (nat_le 97 c && nat_le c 122) || nat_eq c 95

abbrev pub is_digit : ℕ → Bool
is_digit c = nat_le 48 c && nat_le c 57

-- the three bytes of `∆` or of `⍙`
abbrev pub is_delta : List ℕ → Bool
is_delta (a ∷ b ∷ c ∷ []) = nat_eq a 226 && ((nat_eq b 136 && nat_eq c 134) || (nat_eq b 141 && nat_eq c 153))
is_delta _ = false

-- at most so many further characters of a name
abbrev pub are_more : ℕ → List ℕ → Bool
are_more n [] = true
are_more zero (c ∷ cs) = false
are_more (suc n) (c ∷ cs) = ((is_letter c || is_digit c) && are_more n cs) || (is_delta (c ∷ take 2 cs) && are_more n (drop 2 cs))

-- an APL name, of 1 to 63 characters
abbrev pub is_name : List ℕ → Bool
is_name [] = false
is_name (c ∷ cs) = (is_letter c && are_more 62 cs) || (is_delta (c ∷ take 2 cs) && are_more 62 (drop 2 cs))

-- ---- Expressions and statements, each within the room that is left: how much more may be open, or None for no limit

-- whether one more may be open, and f holds with the room left then
abbrev pub inside : Option ℕ → (Option ℕ → Bool) → Bool
inside None f = f None
inside (Some zero) f = false
inside (Some (suc n)) f = f (Some n)

abbrev pub expr_fits : Scope → CExpr-F (Option ℕ → Bool) → Option ℕ → Bool
expr_fits sc (CExpr-F.Lit n) room = is_plain n
expr_fits sc (CExpr-F.Var x) room = is_int sc x
expr_fits sc (CExpr-F.Cell p e) room = is_buf sc p && inside room e
expr_fits sc (CExpr-F.Table k e) room = nat_lt k sc.tables && inside room e
expr_fits sc (CExpr-F.Bin o x y) room = inside room (λ r. x r && y r)

unfoldable pub is_expr : Scope → CExpr → Option ℕ → Bool
is_expr sc = fold-CExpr (Option ℕ → Bool) (expr_fits sc)

abbrev pub all_fit : List (Option ℕ → Bool) → Option ℕ → Bool
all_fit [] room = true
all_fit (f ∷ fs) room = f room && all_fit fs room

-- an else branch, where there is one
abbrev pub else_fits : Option (List (Option ℕ → Bool)) → Option ℕ → Bool
else_fits None room = true
else_fits (Some fs) room = all_fit fs room

-- an arm's number, and whether the arm fits
pub record ArmTest : Type 0 where
  pub value : ℤ
  pub fits : Option ℕ → Bool

abbrev pub arms_fit : List ArmTest → Option ℕ → Bool
arms_fit [] room = true
arms_fit (a ∷ later) room = a.fits room && arms_fit later room

abbrev pub rise_above : ℤ → List ArmTest → Bool
rise_above low [] = true
rise_above low (a ∷ later) = int_lt low a.value && rise_above a.value later

-- plain numbers, each above the one before
abbrev pub rise : List ArmTest → Bool
rise = rise_above (negsuc 0)

abbrev pub stmt_fits : Scope → CStmt-F (Option ℕ → Bool) ArmTest → Option ℕ → Bool
stmt_fits sc (CStmt-F.Set x e) room = is_int sc x && is_expr sc e room
stmt_fits sc (CStmt-F.SetCell p e f) room = is_buf sc p && is_expr sc e room && is_expr sc f room
stmt_fits sc (CStmt-F.SetBuf p q) room = is_buf sc p && is_source sc q
stmt_fits sc (CStmt-F.Cells p e) room = is_buf sc p && is_expr sc e room
stmt_fits sc (CStmt-F.Free p) room = is_buf sc p
stmt_fits sc (CStmt-F.Check x c e f) room = is_int sc x && is_expr sc e room && is_expr sc f room
stmt_fits sc (CStmt-F.Width x e) room = is_int sc x && is_expr sc e room
stmt_fits sc (CStmt-F.PutNum e f) room = is_expr sc e room && is_expr sc f room
stmt_fits sc (CStmt-F.PutChar e) room = is_expr sc e room
stmt_fits sc (CStmt-F.ReadText p) room = is_buf sc p
stmt_fits sc (CStmt-F.ReadNums p) room = is_buf sc p
stmt_fits sc (CStmt-F.ReadCount x) room = is_int sc x
stmt_fits sc (CStmt-F.At name n) room = is_name name && is_plain n
stmt_fits sc CStmt-F.Enter room = true
stmt_fits sc CStmt-F.Leave room = true
stmt_fits sc (CStmt-F.Fault k) room = true
stmt_fits sc (CStmt-F.Call n) room = nat_lt n sc.functions
stmt_fits sc CStmt-F.Return room = true
stmt_fits sc (CStmt-F.If e a o) room = is_expr sc e room && inside room (λ r. all_fit a r && else_fits o r)
stmt_fits sc (CStmt-F.While e a) room = is_expr sc e room && inside room (all_fit a)
stmt_fits sc (CStmt-F.Switch x arms d) room = is_int sc x && rise arms && inside room (λ r. arms_fit arms r && inside r (all_fit d))

abbrev pub arm_fits : Arm-F (Option ℕ → Bool) ArmTest → ArmTest
arm_fits a = record { value = a.value; fits = λ room. is_plain a.value && inside room (all_fit a.body) }

unfoldable pub is_stmt : Scope → CStmt → Option ℕ → Bool
is_stmt sc = fold-CStmt (Option ℕ → Bool) ArmTest (stmt_fits sc) arm_fits

unfoldable pub arm_test : Scope → Arm → ArmTest
arm_test sc = fold-Arm (Option ℕ → Bool) ArmTest (stmt_fits sc) arm_fits

abbrev pub are_stmts : Scope → List CStmt → Option ℕ → Bool
are_stmts sc ss = all_fit (map (is_stmt sc) ss)

-- a block, where there is one
abbrev pub is_otherwise : Scope → Option (List CStmt) → Option ℕ → Bool
is_otherwise sc None room = true
is_otherwise sc (Some ss) room = are_stmts sc ss room

-- ---- Programs

-- fewer than 2 ^ 32
abbrev pub is_count : ℕ → Bool
is_count n = nat_lt n (2 ^ 32)

abbrev pub all_in_range : List ℤ → Bool
all_in_range [] = true
all_in_range (x ∷ xs) = in_range x && all_in_range xs

abbrev pub is_table : List ℤ → Bool
is_table xs = nat_lt 0 (length xs) && nat_lt (length xs) (2 ^ 63) && all_in_range xs

abbrev pub are_tables : List (List ℤ) → Bool
are_tables [] = true
are_tables (t ∷ ts) = is_table t && are_tables ts

abbrev pub is_function : Scope → Option ℕ → CFunction → Bool
is_function sc room f = is_count f.ints && is_count f.bufs && are_stmts sc f.body room

abbrev pub are_functions : (CFunction → Scope) → Option ℕ → List CFunction → Bool
are_functions scope room [] = true
are_functions scope room (f ∷ fs) = is_function (scope f) room f && are_functions scope room fs

-- well formed, where each function may use the names of its scope and open as much as the room says
unfoldable pub is_formed : (CProgram → CFunction → Scope) → Option ℕ → CProgram → Bool
is_formed scope room p =
    is_count p.ints && is_count p.bufs && is_count (length p.tables) && is_count (length p.functions)
    && are_tables p.tables && nat_lt 0 (length p.functions) && are_functions (scope p) room p.functions

abbrev pub is_well_formed : CProgram → Bool
is_well_formed = is_formed declared (Some 256)

abbrev pub IsWellFormed : CProgram → Type 0
IsWellFormed p = IsTrue (is_well_formed p)

-- the bytes are the text of a well formed program
pub record IsText (bytes : List ℕ) (p : CProgram) : Type 0 where
  pub well_formed : IsWellFormed p
  pub text : bytes ≡ program_text p

-- A well formed program is plain, so a text is that of one program.
use Rattle.std.proofs.Common.{◌≡◌, ◌∙◌, ap, sym, refl, subst, ℕ, zero, suc, ◌^◌, List, [], ◌∷◌, map, take, drop, length, ℤ, pos, negsuc, Option, Some, None, Bool, true, false, ◌&&◌, ◌||◌, not, IsTrue, nat_eq, nat_lt, nat_le, arith}
use Rattle.std.proofs.lemmas.Bool.Decides.{nat_tests}
use Rattle.aplc_scalar.specs.Scalar.{in_range}
use Rattle.aplc_cprof.specs.declared.syntax.Int.{Int}
use Rattle.aplc_cprof.specs.declared.syntax.Int.TheVariants as int
use Rattle.aplc_cprof.specs.declared.syntax.Buf.{Buf}
use Rattle.aplc_cprof.specs.declared.syntax.Buf.TheVariants as buf
use Rattle.aplc_cprof.specs.declared.syntax.CExpr.{CExpr, roll-CExpr, fold-roll-CExpr, map-CExpr, ind-CExpr}
use Rattle.aplc_cprof.specs.declared.syntax.CExpr.TheOpen.{CExpr-F}
use Rattle.aplc_cprof.specs.declared.syntax.Arm.{Arm, roll-Arm, map-Arm, fold-roll-Arm}
use Rattle.aplc_cprof.specs.declared.syntax.CStmt.{CStmt, roll-CStmt, map-CStmt, fold-roll-CStmt, ind-CStmt}
use Rattle.aplc_cprof.specs.declared.syntax.CStmt.TheOpen.{CStmt-F, Arm-F}
use Rattle.aplc_cprof.specs.declared.syntax.CFunction.{CFunction}
use Rattle.aplc_cprof.specs.declared.syntax.CProgram.{CProgram}
use Rattle.aplc_cprof.specs.WellFormed as formed
use Rattle.aplc_cprof.specs.WellFormed.{Scope, declared, is_int, is_buf, is_letter, is_digit, is_delta, are_more, is_name, inside, expr_fits, is_expr, ArmTest, all_fit, arms_fit, rise, stmt_fits, arm_fits, is_stmt, arm_test, are_stmts, is_count, all_in_range, is_table, are_tables, is_function, are_functions, is_formed, IsWellFormed, IsText}
use Rattle.aplc_cprof.proofs.Plain.{is_word, is_index, is_plain_int, is_plain_buf, is_quoteless, all_true, plain_expr_step, is_plain_expr, plain_stmt_step, plain_arm_step, is_plain_stmt, is_plain_arm, are_plain_functions, is_plain_table, IsPlain}
use Rattle.aplc_cprof.proofs.UniqueNumbers.{both, eq_of}
use Rattle.aplc_cprof.proofs.UniquePrograms.{program_only}

-- ---- Tests of two parts

together : (a b : Bool) → IsTrue a → IsTrue b → IsTrue (a && b)
together true b h g = g
together false b h g = h

-- each part gives its own
each : (a b c d : Bool) → (IsTrue a → IsTrue c) → (IsTrue b → IsTrue d) → IsTrue (a && b) → IsTrue (c && d)
each a b c d f g h = let p = both a b h in together c d (f p.0) (g p.1)

either : (a b c : Bool) → (IsTrue a → IsTrue c) → (IsTrue b → IsTrue c) → IsTrue (a || b) → IsTrue c
either true b c f g h = f refl
either false b c f g h = g h

below : (n m k : ℕ) → IsTrue (nat_lt n m) → IsTrue (nat_lt m k) → IsTrue (nat_lt n k)
below n m k h g = grind (arith, nat_tests)

-- ---- No name holds a quote

above_quote : (c low : ℕ) → IsTrue (nat_lt 34 low) → IsTrue (nat_le low c) → IsTrue (not (nat_eq c 34))
above_quote c low g h = grind (arith, nat_tests)

no_quote : (c d : ℕ) → IsTrue (not (nat_eq d 34)) → IsTrue (nat_eq c d) → IsTrue (not (nat_eq c 34))
no_quote c d g h = subst (λ n. IsTrue (not (nat_eq n 34))) (sym (eq_of c d h)) g

letter_no_quote : (c : ℕ) → IsTrue (is_letter c) → IsTrue (not (nat_eq c 34))
letter_no_quote c h =
    let upper = nat_le 65 c && nat_le c 90 in let lower = nat_le 97 c && nat_le c 122 in
    either (upper || lower) (nat_eq c 95) (not (nat_eq c 34))
    (either upper lower (not (nat_eq c 34)) (λ q. above_quote c 65 refl (both (nat_le 65 c) (nat_le c 90) q).0) (λ q. above_quote c 97 refl (both (nat_le 97 c) (nat_le c 122) q).0))
    (no_quote c 95 refl) h

digit_no_quote : (c : ℕ) → IsTrue (is_digit c) → IsTrue (not (nat_eq c 34))
digit_no_quote c h = above_quote c 48 refl (both (nat_le 48 c) (nat_le c 57) h).0

delta_quoteless : (c : ℕ) (cs : List ℕ) → IsTrue (is_delta (c ∷ take 2 cs)) → IsTrue (is_quoteless (drop 2 cs)) → IsTrue (is_quoteless (c ∷ cs))
delta_quoteless c [] h g = absurd (cc h)
delta_quoteless c (a ∷ []) h g = absurd (cc h)
delta_quoteless c (a ∷ b ∷ cs) h g =
    let up = nat_eq a 136 && nat_eq b 134 in let down = nat_eq a 141 && nat_eq b 153 in
    let p = both (nat_eq c 226) (up || down) h in
    let second = either up down (not (nat_eq a 34)) (λ q. no_quote a 136 refl (both (nat_eq a 136) (nat_eq b 134) q).0) (λ q. no_quote a 141 refl (both (nat_eq a 141) (nat_eq b 153) q).0) p.1 in
    let third = either up down (not (nat_eq b 34)) (λ q. no_quote b 134 refl (both (nat_eq a 136) (nat_eq b 134) q).1) (λ q. no_quote b 153 refl (both (nat_eq a 141) (nat_eq b 153) q).1) p.1 in
    together (not (nat_eq c 34)) (is_quoteless (a ∷ b ∷ cs)) (no_quote c 226 refl p.0)
    (together (not (nat_eq a 34)) (is_quoteless (b ∷ cs)) second (together (not (nat_eq b 34)) (is_quoteless cs) third g))

more_quoteless : (n : ℕ) (cs : List ℕ) → IsTrue (are_more n cs) → IsTrue (is_quoteless cs)
more_quoteless n [] h = refl
more_quoteless zero (c ∷ cs) h = absurd (cc h)
more_quoteless (suc n) (c ∷ cs) h =
    either ((is_letter c || is_digit c) && are_more n cs) (is_delta (c ∷ take 2 cs) && are_more n (drop 2 cs)) (is_quoteless (c ∷ cs))
    (each (is_letter c || is_digit c) (are_more n cs) (not (nat_eq c 34)) (is_quoteless cs) (either (is_letter c) (is_digit c) (not (nat_eq c 34)) (letter_no_quote c) (digit_no_quote c)) (more_quoteless n cs))
    (λ q. let p = both (is_delta (c ∷ take 2 cs)) (are_more n (drop 2 cs)) q in delta_quoteless c cs p.0 (more_quoteless n (drop 2 cs) p.1)) h

name_quoteless : (cs : List ℕ) → IsTrue (is_name cs) → IsTrue (is_quoteless cs)
name_quoteless [] h = refl
name_quoteless (c ∷ cs) h =
    either (is_letter c && are_more 62 cs) (is_delta (c ∷ take 2 cs) && are_more 62 (drop 2 cs)) (is_quoteless (c ∷ cs))
    (each (is_letter c) (are_more 62 cs) (not (nat_eq c 34)) (is_quoteless cs) (letter_no_quote c) (more_quoteless 62 cs))
    (λ q. let p = both (is_delta (c ∷ take 2 cs)) (are_more 62 (drop 2 cs)) q in delta_quoteless c cs p.0 (more_quoteless 62 (drop 2 cs) p.1)) h

-- ---- Numbers and variables

plain_word : (n : ℤ) → IsTrue (formed.is_plain n) → IsTrue (is_word n)
plain_word (pos n) h = h
plain_word (negsuc n) h = absurd (cc h)

ranged_word : (n : ℤ) → IsTrue (in_range n) → IsTrue (is_word n)
unfolding in_range
ranged_word (pos n) h = h
ranged_word (negsuc n) h = grind (arith, nat_tests)

-- the numbers of names fit 32 bits
record Small (sc : Scope) : Type 0 where
  ints : IsTrue (is_count sc.ints)
  bufs : IsTrue (is_count sc.bufs)
  global_ints : IsTrue (is_count sc.global_ints)
  global_bufs : IsTrue (is_count sc.global_bufs)
  tables : IsTrue (is_count sc.tables)
  functions : IsTrue (is_count sc.functions)

int_plain : (sc : Scope) → Small sc → (x : Int) → IsTrue (is_int sc x) → IsTrue (is_plain_int x)
int_plain sc s (int.Local n) h = below n sc.ints (2 ^ 32) h s.ints
int_plain sc s (int.Global n) h = below n sc.global_ints (2 ^ 32) h s.global_ints

buf_plain : (sc : Scope) → Small sc → (p : Buf) → IsTrue (is_buf sc p) → IsTrue (is_plain_buf p)
buf_plain sc s (buf.Local n) h = below n sc.bufs (2 ^ 32) h s.bufs
buf_plain sc s (buf.Global n) h = below n sc.global_bufs (2 ^ 32) h s.global_bufs

-- what follows from f with any room follows where one more is open
opened : (room : Option ℕ) (f : Option ℕ → Bool) (c : Bool) → ((r : Option ℕ) → IsTrue (f r) → IsTrue c) → IsTrue (inside room f) → IsTrue c
opened None f c g h = g None h
opened (Some zero) f c g h = absurd (cc h)
opened (Some (suc n)) f c g h = g (Some n) h

-- ---- Expressions

abbrev PlainExpr : Scope → CExpr → Type 0
PlainExpr sc e = (room : Option ℕ) → IsTrue (is_expr sc e room) → IsTrue (is_plain_expr e)

abbrev SuchExpr : Scope → Type 0
SuchExpr sc = (e : CExpr) × PlainExpr sc e

-- the level itself, without the law for its parts
abbrev expr_base : (sc : Scope) → CExpr-F (SuchExpr sc) → CExpr-F CExpr
expr_base sc = map-CExpr (SuchExpr sc) CExpr (λ e. e.0)

expr_level : (sc : Scope) → Small sc → (y : CExpr-F (SuchExpr sc)) (room : Option ℕ)
    → IsTrue (expr_fits sc (map-CExpr CExpr (Option ℕ → Bool) (is_expr sc) (expr_base sc y)) room) → IsTrue (plain_expr_step (map-CExpr CExpr Bool is_plain_expr (expr_base sc y)))
expr_level sc s (CExpr-F.Lit n) room h = plain_word n h
expr_level sc s (CExpr-F.Var x) room h = int_plain sc s x h
expr_level sc s (CExpr-F.Cell p e) room h =
    each (is_buf sc p) (inside room (is_expr sc e.0)) (is_plain_buf p) (is_plain_expr e.0) (buf_plain sc s p) (opened room (is_expr sc e.0) (is_plain_expr e.0) e.1) h
expr_level sc s (CExpr-F.Table k e) room h =
    each (nat_lt k sc.tables) (inside room (is_expr sc e.0)) (is_index k) (is_plain_expr e.0) (λ q. below k sc.tables (2 ^ 32) q s.tables) (opened room (is_expr sc e.0) (is_plain_expr e.0) e.1) h
expr_level sc s (CExpr-F.Bin o x y) room h =
    opened room (λ r. is_expr sc x.0 r && is_expr sc y.0 r) (is_plain_expr x.0 && is_plain_expr y.0)
    (λ r. each (is_expr sc x.0 r) (is_expr sc y.0 r) (is_plain_expr x.0) (is_plain_expr y.0) (x.1 r) (y.1 r)) h

expr_step : (sc : Scope) → Small sc → (y : CExpr-F (SuchExpr sc)) → PlainExpr sc (roll-CExpr (expr_base sc y))
unfolding is_expr
expr_step sc s y room h =
    subst IsTrue (sym (fold-roll-CExpr Bool plain_expr_step (expr_base sc y)))
    (expr_level sc s y room (subst IsTrue (ap (λ f. f room) (fold-roll-CExpr (Option ℕ → Bool) (expr_fits sc) (expr_base sc y))) h))

expr_plain : (sc : Scope) → Small sc → (e : CExpr) → PlainExpr sc e
expr_plain sc s = ind-CExpr (PlainExpr sc) (λ x y q. subst (λ l. PlainExpr sc (roll-CExpr l)) q (expr_step sc s y))

-- ---- Statements

abbrev PlainStmt : Scope → CStmt → Type 0
PlainStmt sc x = (room : Option ℕ) → IsTrue (is_stmt sc x room) → IsTrue (is_plain_stmt x)

abbrev PlainArm : Scope → Arm → Type 0
PlainArm sc a = (room : Option ℕ) → IsTrue ((arm_test sc a).fits room) → IsTrue (is_plain_arm a)

abbrev SuchStmt : Scope → Type 0
SuchStmt sc = (x : CStmt) × PlainStmt sc x

abbrev SuchArm : Scope → Type 0
SuchArm sc = (a : Arm) × PlainArm sc a

abbrev stmt_base : (sc : Scope) → CStmt-F (SuchStmt sc) (SuchArm sc) → CStmt-F CStmt Arm
stmt_base sc = map-CStmt (SuchStmt sc) (SuchArm sc) CStmt Arm (λ e. e.0) (λ e. e.0)

abbrev arm_base : (sc : Scope) → Arm-F (SuchStmt sc) (SuchArm sc) → Arm-F CStmt Arm
arm_base sc = map-Arm (SuchStmt sc) (SuchArm sc) CStmt Arm (λ e. e.0) (λ e. e.0)

-- a block's tests, and whether it is plain
abbrev block_fits : (sc : Scope) → List (SuchStmt sc) → Option ℕ → Bool
block_fits sc ys = all_fit (map (is_stmt sc) (map (λ e. e.0) ys))

abbrev is_plain_block : (sc : Scope) → List (SuchStmt sc) → Bool
is_plain_block sc ys = all_true (map is_plain_stmt (map (λ e. e.0) ys))

block_plain : (sc : Scope) (ys : List (SuchStmt sc)) (room : Option ℕ) → IsTrue (block_fits sc ys room) → IsTrue (is_plain_block sc ys)
block_plain sc [] room h = refl
block_plain sc (y ∷ ys) room h =
    each (is_stmt sc y.0 room) (block_fits sc ys room) (is_plain_stmt y.0) (is_plain_block sc ys) (y.1 room) (block_plain sc ys room) h

abbrev all_arms_fit : (sc : Scope) → List (SuchArm sc) → Option ℕ → Bool
all_arms_fit sc ys = arms_fit (map (arm_test sc) (map (λ e. e.0) ys))

abbrev are_plain_arms : (sc : Scope) → List (SuchArm sc) → Bool
are_plain_arms sc ys = all_true (map is_plain_arm (map (λ e. e.0) ys))

arms_plain : (sc : Scope) (ys : List (SuchArm sc)) (room : Option ℕ) → IsTrue (all_arms_fit sc ys room) → IsTrue (are_plain_arms sc ys)
arms_plain sc [] room h = refl
arms_plain sc (y ∷ ys) room h =
    each ((arm_test sc y.0).fits room) (all_arms_fit sc ys room) (is_plain_arm y.0) (are_plain_arms sc ys) (y.1 room) (arms_plain sc ys room) h

stmt_level : (sc : Scope) → Small sc → (y : CStmt-F (SuchStmt sc) (SuchArm sc)) (room : Option ℕ)
    → IsTrue (stmt_fits sc (map-CStmt CStmt Arm (Option ℕ → Bool) ArmTest (is_stmt sc) (arm_test sc) (stmt_base sc y)) room)
    → IsTrue (plain_stmt_step (map-CStmt CStmt Arm Bool Bool is_plain_stmt is_plain_arm (stmt_base sc y)))
stmt_level sc s (CStmt-F.Set x e) room h =
    each (is_int sc x) (is_expr sc e room) (is_plain_int x) (is_plain_expr e) (int_plain sc s x) (expr_plain sc s e room) h
stmt_level sc s (CStmt-F.SetCell p e f) room h =
    let q = both (is_buf sc p && is_expr sc e room) (is_expr sc f room) h in
    let r = both (is_buf sc p) (is_expr sc e room) q.0 in
    together (is_plain_buf p) (is_plain_expr e && is_plain_expr f) (buf_plain sc s p r.0) (together (is_plain_expr e) (is_plain_expr f) (expr_plain sc s e room r.1) (expr_plain sc s f room q.1))
stmt_level sc s (CStmt-F.SetBuf p None) room h = buf_plain sc s p (both (is_buf sc p) true h).0
stmt_level sc s (CStmt-F.SetBuf p (Some q)) room h =
    each (is_buf sc p) (is_buf sc q) (is_plain_buf p) (is_plain_buf q) (buf_plain sc s p) (buf_plain sc s q) h
stmt_level sc s (CStmt-F.Cells p e) room h =
    each (is_buf sc p) (is_expr sc e room) (is_plain_buf p) (is_plain_expr e) (buf_plain sc s p) (expr_plain sc s e room) h
stmt_level sc s (CStmt-F.Free p) room h = buf_plain sc s p h
stmt_level sc s (CStmt-F.Check x c e f) room h =
    let q = both (is_int sc x && is_expr sc e room) (is_expr sc f room) h in
    let r = both (is_int sc x) (is_expr sc e room) q.0 in
    together (is_plain_int x) (is_plain_expr e && is_plain_expr f) (int_plain sc s x r.0) (together (is_plain_expr e) (is_plain_expr f) (expr_plain sc s e room r.1) (expr_plain sc s f room q.1))
stmt_level sc s (CStmt-F.Width x e) room h =
    each (is_int sc x) (is_expr sc e room) (is_plain_int x) (is_plain_expr e) (int_plain sc s x) (expr_plain sc s e room) h
stmt_level sc s (CStmt-F.PutNum e f) room h =
    each (is_expr sc e room) (is_expr sc f room) (is_plain_expr e) (is_plain_expr f) (expr_plain sc s e room) (expr_plain sc s f room) h
stmt_level sc s (CStmt-F.PutChar e) room h = expr_plain sc s e room h
stmt_level sc s (CStmt-F.ReadText p) room h = buf_plain sc s p h
stmt_level sc s (CStmt-F.ReadNums p) room h = buf_plain sc s p h
stmt_level sc s (CStmt-F.ReadCount x) room h = int_plain sc s x h
stmt_level sc s (CStmt-F.At name n) room h =
    each (is_name name) (formed.is_plain n) (is_quoteless name) (is_word n) (name_quoteless name) (plain_word n) h
stmt_level sc s CStmt-F.Enter room h = refl
stmt_level sc s CStmt-F.Leave room h = refl
stmt_level sc s (CStmt-F.Fault k) room h = refl
stmt_level sc s (CStmt-F.Call n) room h = below n sc.functions (2 ^ 32) h s.functions
stmt_level sc s CStmt-F.Return room h = refl
stmt_level sc s (CStmt-F.If e a None) room h =
    each (is_expr sc e room) (inside room (λ r. block_fits sc a r && true)) (is_plain_expr e) (is_plain_block sc a) (expr_plain sc s e room)
    (opened room (λ r. block_fits sc a r && true) (is_plain_block sc a) (λ r q. block_plain sc a r (both (block_fits sc a r) true q).0)) h
stmt_level sc s (CStmt-F.If e a (Some b)) room h =
    each (is_expr sc e room) (inside room (λ r. block_fits sc a r && block_fits sc b r)) (is_plain_expr e) (is_plain_block sc a && is_plain_block sc b) (expr_plain sc s e room)
    (opened room (λ r. block_fits sc a r && block_fits sc b r) (is_plain_block sc a && is_plain_block sc b)
    (λ r. each (block_fits sc a r) (block_fits sc b r) (is_plain_block sc a) (is_plain_block sc b) (block_plain sc a r) (block_plain sc b r))) h
stmt_level sc s (CStmt-F.While e a) room h =
    each (is_expr sc e room) (inside room (block_fits sc a)) (is_plain_expr e) (is_plain_block sc a) (expr_plain sc s e room) (opened room (block_fits sc a) (is_plain_block sc a) (block_plain sc a)) h
stmt_level sc s (CStmt-F.Switch x arms d) room h =
    let rises = rise (map (arm_test sc) (map (λ e. e.0) arms)) in
    let parts : Option ℕ → Bool = λ r. all_arms_fit sc arms r && inside r (block_fits sc d) in
    each (is_int sc x && rises) (inside room parts) (is_plain_int x) (are_plain_arms sc arms && is_plain_block sc d) (λ q. int_plain sc s x (both (is_int sc x) rises q).0)
    (opened room parts (are_plain_arms sc arms && is_plain_block sc d)
    (λ r. each (all_arms_fit sc arms r) (inside r (block_fits sc d)) (are_plain_arms sc arms) (is_plain_block sc d) (arms_plain sc arms r) (opened r (block_fits sc d) (is_plain_block sc d) (block_plain sc d)))) h

stmt_step : (sc : Scope) → Small sc → (y : CStmt-F (SuchStmt sc) (SuchArm sc)) → PlainStmt sc (roll-CStmt (stmt_base sc y))
unfolding is_stmt arm_test
stmt_step sc s y room h =
    subst IsTrue (sym (fold-roll-CStmt Bool Bool plain_stmt_step plain_arm_step (stmt_base sc y)))
    (stmt_level sc s y room (subst IsTrue (ap (λ f. f room) (fold-roll-CStmt (Option ℕ → Bool) ArmTest (stmt_fits sc) arm_fits (stmt_base sc y))) h))

arm_step : (sc : Scope) (y : Arm-F (SuchStmt sc) (SuchArm sc)) → PlainArm sc (roll-Arm (arm_base sc y))
unfolding is_stmt arm_test
arm_step sc y room h =
    subst IsTrue (sym (fold-roll-Arm Bool Bool plain_stmt_step plain_arm_step (arm_base sc y)))
    (each (formed.is_plain y.value) (inside room (block_fits sc y.body)) (is_word y.value) (is_plain_block sc y.body) (plain_word y.value) (opened room (block_fits sc y.body) (is_plain_block sc y.body) (block_plain sc y.body))
    (subst IsTrue (ap (λ t. t.fits room) (fold-roll-Arm (Option ℕ → Bool) ArmTest (stmt_fits sc) arm_fits (arm_base sc y))) h))

stmt_plain : (sc : Scope) → Small sc → (x : CStmt) → PlainStmt sc x
stmt_plain sc s =
    ind-CStmt (PlainStmt sc) (PlainArm sc) (λ x y q. subst (λ l. PlainStmt sc (roll-CStmt l)) q (stmt_step sc s y)) (λ x y q. subst (λ l. PlainArm sc (roll-Arm l)) q (arm_step sc y))

stmts_plain : (sc : Scope) → Small sc → (ss : List CStmt) (room : Option ℕ) → IsTrue (are_stmts sc ss room) → IsTrue (all_true (map is_plain_stmt ss))
stmts_plain sc s [] room h = refl
stmts_plain sc s (x ∷ ss) room h =
    each (is_stmt sc x room) (are_stmts sc ss room) (is_plain_stmt x) (all_true (map is_plain_stmt ss)) (stmt_plain sc s x room) (stmts_plain sc s ss room) h

-- ---- Programs

words_plain : (xs : List ℤ) → IsTrue (all_in_range xs) → IsTrue (all_true (map is_word xs))
words_plain [] h = refl
words_plain (x ∷ xs) h = each (in_range x) (all_in_range xs) (is_word x) (all_true (map is_word xs)) (ranged_word x) (words_plain xs) h

table_plain : (t : List ℤ) → IsTrue (is_table t) → IsTrue (is_plain_table t)
table_plain t h =
    each (nat_lt 0 (length t) && nat_lt (length t) (2 ^ 63)) (all_in_range t) (nat_lt (length t) (2 ^ 64)) (all_true (map is_word t))
    (λ q. below (length t) (2 ^ 63) (2 ^ 64) (both (nat_lt 0 (length t)) (nat_lt (length t) (2 ^ 63)) q).1 refl) (words_plain t) h

tables_plain : (ts : List (List ℤ)) → IsTrue (are_tables ts) → IsTrue (all_true (map is_plain_table ts))
tables_plain [] h = refl
tables_plain (t ∷ ts) h = each (is_table t) (are_tables ts) (is_plain_table t) (all_true (map is_plain_table ts)) (table_plain t) (tables_plain ts) h

-- a program whose counts fit gives each of its functions a small scope
abbrev GivesSmall : (CFunction → Scope) → Type 0
GivesSmall scope = (f : CFunction) → IsTrue (is_count f.ints) → IsTrue (is_count f.bufs) → Small (scope f)

functions_plain : (scope : CFunction → Scope) (room : Option ℕ) → GivesSmall scope → (fs : List CFunction) → IsTrue (are_functions scope room fs) → IsTrue (are_plain_functions fs)
functions_plain scope room g [] h = refl
functions_plain scope room g (f ∷ fs) h =
    each (is_function (scope f) room f) (are_functions scope room fs) (all_true (map is_plain_stmt f.body)) (are_plain_functions fs)
    (λ q. let p = both (is_count f.ints && is_count f.bufs) (are_stmts (scope f) f.body room) q in
    let c = both (is_count f.ints) (is_count f.bufs) p.0 in
    stmts_plain (scope f) (g f c.0 c.1) f.body room p.1)
    (functions_plain scope room g fs) h

pub plain_of_formed : (p : CProgram) → IsWellFormed p → IsPlain p
unfolding is_formed
plain_of_formed p h =
    let c1 = is_count p.ints in let c2 = is_count p.bufs in let c3 = is_count (length p.tables) in let c4 = is_count (length p.functions) in
    let t = are_tables p.tables in let n = nat_lt 0 (length p.functions) in
    let a = both (c1 && c2 && c3 && c4 && t && n) (are_functions (declared p) (Some 256) p.functions) h in
    let b = both (c1 && c2 && c3 && c4 && t) n a.0 in
    let d = both (c1 && c2 && c3 && c4) t b.0 in
    let e = both (c1 && c2 && c3) c4 d.0 in
    let k = both (c1 && c2) c3 e.0 in
    let i = both c1 c2 k.0 in
    let small : GivesSmall (declared p) = λ f x y. record { ints = x; bufs = y; global_ints = i.0; global_bufs = i.1; tables = k.1; functions = e.1 } in
    together (all_true (map is_plain_table p.tables)) (nat_lt (length p.functions) (2 ^ 64) && are_plain_functions p.functions) (tables_plain p.tables d.1)
    (together (nat_lt (length p.functions) (2 ^ 64)) (are_plain_functions p.functions) (below (length p.functions) (2 ^ 32) (2 ^ 64) e.1 refl) (functions_plain (declared p) (Some 256) small p.functions a.1))

-- ---- Texts

pub program_of_text : (bytes : List ℕ) (p q : CProgram) → IsText bytes p → IsText bytes q → p ≡ q
program_of_text bytes p q s t = program_only p q (plain_of_formed p s.well_formed) (plain_of_formed q t.well_formed) (sym s.text ∙ t.text)

pub text_of_program : (a b : List ℕ) (p : CProgram) → IsText a p → IsText b p → a ≡ b
text_of_program a b p s t = s.text ∙ sym t.text

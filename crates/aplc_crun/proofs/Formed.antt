-- What the parts of a well formed statement, block or program are.
use Rattle.std.proofs.Common.{ap, subst, refl, ℕ, zero, suc, ◌<◌, List, [], ◌∷◌, ◌++◌, length, map, Option, Some, None, Bool, true, false, ◌&&◌, IsTrue, nat_lt, arith}
use Rattle.std.proofs.lemmas.Bool.Decides.{nat_tests}
use Rattle.aplc_cprof.specs.declared.syntax.Int.{Int}
use Rattle.aplc_cprof.specs.declared.syntax.Buf.{Buf}
use Rattle.aplc_cprof.specs.declared.syntax.Checked.{Checked}
use Rattle.aplc_cprof.specs.declared.syntax.CExpr.{CExpr}
use Rattle.aplc_cprof.specs.declared.syntax.CStmt.{CStmt}
use Rattle.aplc_cprof.specs.declared.syntax.CStmt.TheVariants as stmt
use Rattle.aplc_cprof.specs.declared.syntax.Arm.{Arm}
use Rattle.aplc_cprof.specs.declared.syntax.CFunction.{CFunction}
use Rattle.aplc_cprof.specs.declared.syntax.CProgram.{CProgram}
use Rattle.aplc_cprof.specs.WellFormed.{Scope, ArmTest, declared, is_int, is_buf, is_source, is_plain, inside, rise, arms_fit, is_expr, is_stmt, arm_test, are_stmts, is_otherwise, is_count, are_tables, is_function, are_functions, is_formed, IsWellFormed}
use Rattle.aplc_cprof.proofs.Forms.{is_Set, is_SetBuf, is_Cells, is_Check, is_Width, is_ReadText, is_ReadNums, is_ReadCount, is_If, is_While, is_Switch, is_arm}
use Rattle.aplc_crun.specs.Building.{IsFormedStmt, IsFormedBlock, AreFormedArms, AreFormedFunctions}

both : (a b : Bool) → IsTrue (a && b) → IsTrue a × IsTrue b
both true b h = (refl, h)
both false b h = absurd (cc h)

together : (a b : Bool) → IsTrue a → IsTrue b → IsTrue (a && b)
together true b h g = g
together false b h g = h

pub less : (n m : ℕ) → IsTrue (nat_lt n m) → n < m
less n m h = grind (arith, nat_tests)

-- what holds with the room that is left inside holds with some room
opened : (room : Option ℕ) (f : Option ℕ → Bool) → IsTrue (inside room f) → (r : Option ℕ) × IsTrue (f r)
opened None f h = (None, h)
opened (Some zero) f h = absurd (cc h)
opened (Some (suc n)) f h = (Some n, h)

-- ---- The variables that a statement sets

pub in_Set : (sc : Scope) (x : Int) (e : CExpr) → IsFormedStmt sc (stmt.Set x e) → IsTrue (is_int sc x)
in_Set sc x e h = (both (is_int sc x) (is_expr sc e h.0) (subst IsTrue (is_Set sc x e h.0) h.1)).0

pub in_SetBuf : (sc : Scope) (p : Buf) (q : Option Buf) → IsFormedStmt sc (stmt.SetBuf p q) → IsTrue (is_buf sc p)
in_SetBuf sc p q h = (both (is_buf sc p) (is_source sc q) (subst IsTrue (is_SetBuf sc p q h.0) h.1)).0

pub in_Cells : (sc : Scope) (p : Buf) (e : CExpr) → IsFormedStmt sc (stmt.Cells p e) → IsTrue (is_buf sc p)
in_Cells sc p e h = (both (is_buf sc p) (is_expr sc e h.0) (subst IsTrue (is_Cells sc p e h.0) h.1)).0

pub in_Check : (sc : Scope) (x : Int) (o : Checked) (e f : CExpr) → IsFormedStmt sc (stmt.Check x o e f) → IsTrue (is_int sc x)
in_Check sc x o e f h = (both (is_int sc x) (is_expr sc e h.0) (both (is_int sc x && is_expr sc e h.0) (is_expr sc f h.0) (subst IsTrue (is_Check sc x o e f h.0) h.1)).0).0

pub in_Width : (sc : Scope) (x : Int) (e : CExpr) → IsFormedStmt sc (stmt.Width x e) → IsTrue (is_int sc x)
in_Width sc x e h = (both (is_int sc x) (is_expr sc e h.0) (subst IsTrue (is_Width sc x e h.0) h.1)).0

pub in_ReadText : (sc : Scope) (p : Buf) → IsFormedStmt sc (stmt.ReadText p) → IsTrue (is_buf sc p)
in_ReadText sc p h = subst IsTrue (is_ReadText sc p h.0) h.1

pub in_ReadNums : (sc : Scope) (p : Buf) → IsFormedStmt sc (stmt.ReadNums p) → IsTrue (is_buf sc p)
in_ReadNums sc p h = subst IsTrue (is_ReadNums sc p h.0) h.1

pub in_ReadCount : (sc : Scope) (x : Int) → IsFormedStmt sc (stmt.ReadCount x) → IsTrue (is_int sc x)
in_ReadCount sc x h = subst IsTrue (is_ReadCount sc x h.0) h.1

-- ---- The statements that a statement holds

pub formed_while : (sc : Scope) (e : CExpr) (a : List CStmt) → IsFormedStmt sc (stmt.While e a) → IsFormedBlock sc a
formed_while sc e a h = opened h.0 (are_stmts sc a) (both (is_expr sc e h.0) (inside h.0 (are_stmts sc a)) (subst IsTrue (is_While sc e a h.0) h.1)).1

sides : (sc : Scope) (e : CExpr) (a : List CStmt) (o : Option (List CStmt)) → IsFormedStmt sc (stmt.If e a o) → (r : Option ℕ) × (IsTrue (are_stmts sc a r) × IsTrue (is_otherwise sc o r))
sides sc e a o h =
    let p = opened h.0 (λ r. are_stmts sc a r && is_otherwise sc o r) (both (is_expr sc e h.0) (inside h.0 (λ r. are_stmts sc a r && is_otherwise sc o r)) (subst IsTrue (is_If sc e a o h.0) h.1)).1 in
    (p.0, both (are_stmts sc a p.0) (is_otherwise sc o p.0) p.1)

pub formed_if : (sc : Scope) (e : CExpr) (a : List CStmt) → IsFormedStmt sc (stmt.If e a None) → IsFormedBlock sc a
formed_if sc e a h = let p = sides sc e a None h in (p.0, p.1.0)

pub formed_else : (sc : Scope) (e : CExpr) (a o : List CStmt) → IsFormedStmt sc (stmt.If e a (Some o)) → IsFormedBlock sc a × IsFormedBlock sc o
formed_else sc e a o h = let p = sides sc e a (Some o) h in ((p.0, p.1.0), (p.0, p.1.1))

pub formed_switch : (sc : Scope) (x : Int) (arms : List Arm) (d : List CStmt) → IsFormedStmt sc (stmt.Switch x arms d) → AreFormedArms sc arms × IsFormedBlock sc d
formed_switch sc x arms d h =
    let parts : Option ℕ → Bool = λ r. arms_fit (map (arm_test sc) arms) r && inside r (are_stmts sc d) in
    let p = opened h.0 parts (both (is_int sc x && rise (map (arm_test sc) arms)) (inside h.0 parts) (subst IsTrue (is_Switch sc x arms d h.0) h.1)).1 in
    let q = both (arms_fit (map (arm_test sc) arms) p.0) (inside p.0 (are_stmts sc d)) p.1 in
    ((p.0, q.0), opened p.0 (are_stmts sc d) q.1)

-- ---- Lists with one more at the end

block_parts : (sc : Scope) (xs : List CStmt) (x : CStmt) (room : Option ℕ) → IsTrue (are_stmts sc (xs ++ x ∷ []) room) → IsTrue (are_stmts sc xs room) × IsTrue (is_stmt sc x room)
block_parts sc [] x room h = (refl, (both (is_stmt sc x room) true h).0)
block_parts sc (y ∷ xs) x room h =
    let p = both (is_stmt sc y room) (are_stmts sc (xs ++ x ∷ []) room) h in
    let q = block_parts sc xs x room p.1 in
    (together (is_stmt sc y room) (are_stmts sc xs room) p.0 q.0, q.1)

pub formed_more : (sc : Scope) (xs : List CStmt) (x : CStmt) → IsFormedBlock sc (xs ++ x ∷ []) → IsFormedBlock sc xs × IsFormedStmt sc x
formed_more sc xs x h = let p = block_parts sc xs x h.0 h.1 in ((h.0, p.0), (h.0, p.1))

arm_parts : (sc : Scope) (arms : List Arm) (a : Arm) (room : Option ℕ) → IsTrue (arms_fit (map (arm_test sc) (arms ++ a ∷ [])) room) → IsTrue (arms_fit (map (arm_test sc) arms) room) × IsTrue ((arm_test sc a).fits room)
arm_parts sc [] a room h = (refl, (both ((arm_test sc a).fits room) true h).0)
arm_parts sc (b ∷ arms) a room h =
    let p = both ((arm_test sc b).fits room) (arms_fit (map (arm_test sc) (arms ++ a ∷ [])) room) h in
    let q = arm_parts sc arms a room p.1 in
    (together ((arm_test sc b).fits room) (arms_fit (map (arm_test sc) arms) room) p.0 q.0, q.1)

pub formed_arm : (sc : Scope) (arms : List Arm) (a : Arm) → AreFormedArms sc (arms ++ a ∷ []) → AreFormedArms sc arms × IsFormedBlock sc a.body
formed_arm sc arms a h =
    let p = arm_parts sc arms a h.0 h.1 in
    let fits : IsTrue (is_plain a.value && inside h.0 (are_stmts sc a.body)) = subst IsTrue (ap (λ (t : ArmTest). t.fits h.0) (is_arm sc a)) p.1 in
    ((h.0, p.0), opened h.0 (are_stmts sc a.body) (both (is_plain a.value) (inside h.0 (are_stmts sc a.body)) fits).1)

-- ---- Functions

pub formed_function : (p : CProgram) (fs : List CFunction) (f : CFunction) → AreFormedFunctions p (fs ++ f ∷ []) → AreFormedFunctions p fs × IsFormedBlock (declared p f) f.body
formed_function p [] f h =
    let q = both (is_function (declared p f) (Some 256) f) true h in
    (refl, (Some 256, (both (is_count f.ints && is_count f.bufs) (are_stmts (declared p f) f.body (Some 256)) q.0).1))
formed_function p (g ∷ fs) f h =
    let q = both (is_function (declared p g) (Some 256) g) (are_functions (declared p) (Some 256) (fs ++ f ∷ [])) h in
    let r = formed_function p fs f q.1 in
    (together (is_function (declared p g) (Some 256) g) (are_functions (declared p) (Some 256) fs) q.0 r.0, r.1)

pub some_function : (p : CProgram) → IsWellFormed p → 0 < length p.functions
unfolding is_formed
some_function p h =
    let before = is_count p.ints && is_count p.bufs && is_count (length p.tables) && is_count (length p.functions) && are_tables p.tables in
    less 0 (length p.functions) (both before (nat_lt 0 (length p.functions)) (both (before && nat_lt 0 (length p.functions)) (are_functions (declared p) (Some 256) p.functions) h).0).1

pub formed_functions : (p : CProgram) → IsWellFormed p → AreFormedFunctions p p.functions
unfolding is_formed
formed_functions p h =
    (both
    (is_count p.ints && is_count p.bufs && is_count (length p.tables) && is_count (length p.functions) && are_tables p.tables && nat_lt 0 (length p.functions))
    (are_functions (declared p) (Some 256) p.functions) h).1

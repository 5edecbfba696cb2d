-- When emitted code is well formed, and what a builder keeps of what was built.
-- It must not know what the code does.
use Rattle.std.proofs.Common.{◌≡◌, ℕ, zero, suc, ◌+◌, ◌<◌, ◌≤◌, List, [], ◌∷◌, ◌++◌, refl, sym, ap, ◌∙◌, subst, arith, append_assoc, append-nil, Bool, true, false}
use Rattle.std.specs.Prelude.{Option, Some, None, pos, ◌^◌, nat_lt, ◌&&◌}
use Rattle.std.proofs.lemmas.Bool.Decides.{nat_tests}
use Rattle.std.proofs.lemmas.List.{same_from_push}
use Rattle.aplc_cprof.specs.declared.syntax.Int.{Int}
use Rattle.aplc_cprof.specs.declared.syntax.Int.TheVariants as int
use Rattle.aplc_cprof.specs.declared.syntax.Buf.{Buf}
use Rattle.aplc_cprof.specs.declared.syntax.Checked.{Checked}
use Rattle.aplc_cprof.specs.declared.syntax.Op.{Op}
use Rattle.aplc_cprof.specs.declared.syntax.Op.TheVariants as op
use Rattle.aplc_cprof.specs.declared.syntax.CExpr.{CExpr}
use Rattle.aplc_cprof.specs.declared.syntax.CExpr.TheVariants as expr
use Rattle.aplc_cprof.specs.declared.syntax.CStmt.{CStmt}
use Rattle.aplc_cprof.specs.declared.syntax.CStmt.TheVariants as stmt
use Rattle.aplc_cprof.specs.Blocks.{Blocks, open_blocks, Begin, IsKept}
use Rattle.aplc_cprof.specs.WellFormed.{Scope, is_int, is_buf, is_expr, is_stmt, are_stmts, inside}
use Rattle.aplc_cprof.specs.Frames.{IsFresh}
use Rattle.aplc_cprof.specs.Emitted.{on_values, plus_one, less, counted_loop, Grown, loop_begun, LoopEnded, joint, IsWithin, AreInts, IsFormed}
use Rattle.aplc_cprof.proofs.Forms.{is_Lit, is_Var, is_Cell, is_Bin, is_Set, is_SetCell, is_Check, is_While, is_If}
use Rattle.aplc_cprof.proofs.Kept.{kept_same, kept_trans, kept_code, kept_open, kept_close}

-- ---- Tests

pub both_true : (a b : Bool) → a ≡ true → b ≡ true → (a && b) ≡ true
both_true true true h k = refl
both_true true false h k = k
both_true false b h k = h

false_true : false ≡ true → ⊥
false_true h = cc

pub and_left : (a b : Bool) → (a && b) ≡ true → a ≡ true
and_left true b h = refl
and_left false b h = h

pub and_right : (a b : Bool) → (a && b) ≡ true → b ≡ true
and_right true b h = h
and_right false b h = absurd (false_true h)

-- there is room for one more
pub one_inside : (f : Option ℕ → Bool) (k room : ℕ) → k + 1 ≤ room → ((r : ℕ) → k ≤ r → f (Some r) ≡ true) → inside (Some room) f ≡ true
one_inside f k zero le h = absurd (omega (arith, le))
one_inside f k (suc r) le h = h r (omega (arith, le))

pub is_below : (k n : ℕ) → k < n → nat_lt k n ≡ true
is_below k n lt = grind (arith, nat_tests)

-- ---- Names

-- a variable that was given is declared
pub fresh_declared : (sc : Scope) (n m : ℕ) (v : Int) → IsFresh n m v → m ≤ sc.ints → is_int sc v ≡ true
fresh_declared sc n m (int.Local k) h le = let lt = h.1 in is_below k sc.ints (omega (arith, le, lt))
fresh_declared sc n m (int.Global k) h le = absurd h

pub ints_append : (sc : Scope) (xs ys : List Int) → AreInts sc xs → AreInts sc ys → AreInts sc (xs ++ ys)
ints_append sc [] ys h k = k
ints_append sc (x ∷ xs) ys h k = (h.0, ints_append sc xs ys h.1 k)

pub ints_first : (sc : Scope) (xs ys : List Int) → AreInts sc (xs ++ ys) → AreInts sc xs
ints_first sc [] ys h = tt
ints_first sc (x ∷ xs) ys h = (h.0, ints_first sc xs ys h.1)

pub ints_last : (sc : Scope) (xs ys : List Int) → AreInts sc (xs ++ ys) → AreInts sc ys
ints_last sc [] ys h = h
ints_last sc (x ∷ xs) ys h = ints_last sc xs ys h.1

-- ---- Expressions

pub bin_formed : (sc : Scope) (o : Op) (a b : CExpr) (k room : ℕ) → k + 1 ≤ room → ((r : ℕ) → k ≤ r → is_expr sc a (Some r) ≡ true) → ((r : ℕ) → k ≤ r → is_expr sc b (Some r) ≡ true) → is_expr sc (expr.Bin o a b) (Some room) ≡ true
bin_formed sc o a b k room le h i =
    is_Bin sc o a b (Some room) ∙ one_inside (λ r. is_expr sc a r && is_expr sc b r) k room le (λ r kr. both_true (is_expr sc a (Some r)) (is_expr sc b (Some r)) (h r kr) (i r kr))

pub var_formed : (sc : Scope) (x : Int) → is_int sc x ≡ true → (r : ℕ) → is_expr sc (expr.Var x) (Some r) ≡ true
var_formed sc x h r = is_Var sc x (Some r) ∙ h

pub lit_formed : (sc : Scope) (n : ℕ) → n < 2 ^ 63 → (r : ℕ) → is_expr sc (expr.Lit (pos n)) (Some r) ≡ true
lit_formed sc n lt r = is_Lit sc (pos n) (Some r) ∙ is_below n (2 ^ 63) lt

pub cell_formed : (sc : Scope) (p : Buf) (e : CExpr) (k room : ℕ) → k + 1 ≤ room → is_buf sc p ≡ true → ((r : ℕ) → k ≤ r → is_expr sc e (Some r) ≡ true) → is_expr sc (expr.Cell p e) (Some room) ≡ true
cell_formed sc p e k room le h i = is_Cell sc p e (Some room) ∙ both_true (is_buf sc p) (inside (Some room) (is_expr sc e)) h (one_inside (is_expr sc e) k room le i)

-- an operation on two variables
pub on_values_formed : (sc : Scope) (o : Op) (x y : Int) (room : ℕ) → 1 ≤ room → is_int sc x ≡ true → is_int sc y ≡ true → is_expr sc (on_values o x y) (Some room) ≡ true
on_values_formed sc o x y room le h i = bin_formed sc o (expr.Var x) (expr.Var y) 0 room (omega (arith, le)) (λ r kr. var_formed sc x h r) (λ r kr. var_formed sc y i r)

-- an operation on a variable and a literal
pub with_literal_formed : (sc : Scope) (o : Op) (x : Int) (n room : ℕ) → 1 ≤ room → n < 2 ^ 63 → is_int sc x ≡ true → is_expr sc (expr.Bin o (expr.Var x) (expr.Lit (pos n))) (Some room) ≡ true
with_literal_formed sc o x n room le lt h = bin_formed sc o (expr.Var x) (expr.Lit (pos n)) 0 room (omega (arith, le)) (λ r kr. var_formed sc x h r) (λ r kr. lit_formed sc n lt r)

pub plus_one_formed : (sc : Scope) (x : Int) (room : ℕ) → 1 ≤ room → is_int sc x ≡ true → is_expr sc (plus_one x) (Some room) ≡ true
plus_one_formed sc x room le h = with_literal_formed sc op.Add x 1 room le (omega arith) h

pub less_formed : (sc : Scope) (x y : Int) (room : ℕ) → 1 ≤ room → is_int sc x ≡ true → is_int sc y ≡ true → is_expr sc (less x y) (Some room) ≡ true
less_formed sc x y room le h i = on_values_formed sc op.Less x y room le h i

-- ---- Statements

pub stmts_append : (sc : Scope) (room : Option ℕ) (a b : List CStmt) → are_stmts sc a room ≡ true → are_stmts sc b room ≡ true → are_stmts sc (a ++ b) room ≡ true
stmts_append sc room [] b h k = k
stmts_append sc room (s ∷ a) b h k =
    both_true (is_stmt sc s room) (are_stmts sc (a ++ b) room) (and_left (is_stmt sc s room) (are_stmts sc a room) h)
    (stmts_append sc room a b (and_right (is_stmt sc s room) (are_stmts sc a room) h) k)

pub one_stmt : (sc : Scope) (room : Option ℕ) (s : CStmt) (rest : List CStmt) → is_stmt sc s room ≡ true → are_stmts sc rest room ≡ true → are_stmts sc (s ∷ rest) room ≡ true
one_stmt sc room s rest h k = both_true (is_stmt sc s room) (are_stmts sc rest room) h k

pub set_formed : (sc : Scope) (room : Option ℕ) (x : Int) (e : CExpr) → is_int sc x ≡ true → is_expr sc e room ≡ true → is_stmt sc (stmt.Set x e) room ≡ true
set_formed sc room x e h k = is_Set sc x e room ∙ both_true (is_int sc x) (is_expr sc e room) h k

pub set_cell_formed : (sc : Scope) (room : Option ℕ) (p : Buf) (e f : CExpr) → is_buf sc p ≡ true → is_expr sc e room ≡ true → is_expr sc f room ≡ true → is_stmt sc (stmt.SetCell p e f) room ≡ true
set_cell_formed sc room p e f h k l = is_SetCell sc p e f room ∙ both_true (is_buf sc p && is_expr sc e room) (is_expr sc f room) (both_true (is_buf sc p) (is_expr sc e room) h k) l

pub check_formed : (sc : Scope) (room : Option ℕ) (x : Int) (o : Checked) (e f : CExpr) → is_int sc x ≡ true → is_expr sc e room ≡ true → is_expr sc f room ≡ true → is_stmt sc (stmt.Check x o e f) room ≡ true
check_formed sc room x o e f h k l = is_Check sc x o e f room ∙ both_true (is_int sc x && is_expr sc e room) (is_expr sc f room) (both_true (is_int sc x) (is_expr sc e room) h k) l

pub while_formed : (sc : Scope) (k room : ℕ) (e : CExpr) (a : List CStmt) → k + 1 ≤ room → is_expr sc e (Some room) ≡ true → ((r : ℕ) → k ≤ r → are_stmts sc a (Some r) ≡ true) → is_stmt sc (stmt.While e a) (Some room) ≡ true
while_formed sc k room e a le h i = is_While sc e a (Some room) ∙ both_true (is_expr sc e (Some room)) (inside (Some room) (are_stmts sc a)) h (one_inside (are_stmts sc a) k room le i)

-- an if without an else
pub if_formed : (sc : Scope) (k room : ℕ) (e : CExpr) (a : List CStmt) → k + 1 ≤ room → is_expr sc e (Some room) ≡ true → ((r : ℕ) → k ≤ r → are_stmts sc a (Some r) ≡ true) → is_stmt sc (stmt.If e a None) (Some room) ≡ true
if_formed sc k room e a le h i =
    is_If sc e a None (Some room)
    ∙ both_true (is_expr sc e (Some room)) (inside (Some room) (λ r. are_stmts sc a r && true)) h
    (one_inside (λ r. are_stmts sc a r && true) k room le (λ r kr. both_true (are_stmts sc a (Some r)) true (i r kr) refl))

-- an if with an else
pub if_else_formed : (sc : Scope) (k room : ℕ) (e : CExpr) (a b : List CStmt) → k + 1 ≤ room → is_expr sc e (Some room) ≡ true → ((r : ℕ) → k ≤ r → are_stmts sc a (Some r) ≡ true) → ((r : ℕ) → k ≤ r → are_stmts sc b (Some r) ≡ true) → is_stmt sc (stmt.If e a (Some b)) (Some room) ≡ true
if_else_formed sc k room e a b le h i j =
    is_If sc e a (Some b) (Some room)
    ∙ both_true (is_expr sc e (Some room)) (inside (Some room) (λ r. are_stmts sc a r && are_stmts sc b r)) h
    (one_inside (λ r. are_stmts sc a r && are_stmts sc b r) k room le (λ r kr. both_true (are_stmts sc a (Some r)) (are_stmts sc b (Some r)) (i r kr) (j r kr)))

-- a loop that counts
pub loop_formed : (sc : Scope) (k room : ℕ) (i length : Int) (body : List CStmt) → 1 ≤ k → k + 1 ≤ room → is_int sc i ≡ true → is_int sc length ≡ true → ((r : ℕ) → k ≤ r → are_stmts sc body (Some r) ≡ true) → are_stmts sc (counted_loop i length body) (Some room) ≡ true
loop_formed sc k room i length body le1 le hi hl hb =
    let turn : List CStmt = body ++ stmt.Set i (plus_one i) ∷ [] in
    one_stmt sc (Some room) (stmt.Set i (expr.Lit (pos 0))) (stmt.While (less i length) turn ∷ [])
    (set_formed sc (Some room) i (expr.Lit (pos 0)) hi (lit_formed sc 0 (omega arith) room))
    (one_stmt sc (Some room) (stmt.While (less i length) turn) []
    (while_formed sc k room (less i length) turn le (less_formed sc i length room (omega (arith, le)) hi hl)
    (λ r kr. stmts_append sc (Some r) body (stmt.Set i (plus_one i) ∷ []) (hb r kr)
    (one_stmt sc (Some r) (stmt.Set i (plus_one i)) [] (set_formed sc (Some r) i (plus_one i) hi (plus_one_formed sc i r (omega (arith, kr, le1)) hi)) refl)))
    refl)

-- ---- Code that a call adds

-- fewer names in the scope that is given
pub within_less : (g h sc : Scope) → g.global_ints ≤ h.global_ints → g.global_bufs ≤ h.global_bufs → g.tables ≤ h.tables → g.functions ≤ h.functions → IsWithin h sc → IsWithin g sc
within_less g h sc a b d e w =
    let i = w.global_ints in let j = w.global_bufs in let k = w.tables in let l = w.functions in
    record { global_ints = omega (arith, a, i); global_bufs = omega (arith, b, j); tables = omega (arith, d, k); functions = omega (arith, e, l) }

pub within_left : (g h sc : Scope) → IsWithin (joint g h) sc → IsWithin g sc
within_left g h sc w = within_less g (joint g h) sc (omega arith) (omega arith) (omega arith) (omega arith) w

pub within_right : (g h sc : Scope) → IsWithin (joint g h) sc → IsWithin h sc
within_right g h sc w = within_less h (joint g h) sc (omega arith) (omega arith) (omega arith) (omega arith) w

-- more names were given, and there is more room
pub formed_more : (g : Scope) (xs : List Int) (ps : List Buf) (a b : Blocks) (d e : ℕ) (code : List CStmt) → a.ints ≤ b.ints → a.bufs ≤ b.bufs → d ≤ e → IsFormed g xs ps a d code → IsFormed g xs ps b e code
formed_more g xs ps a b d e code le leb led f sc room within ints bufs more more_bufs room_le = f sc room within ints bufs (omega (arith, le, more)) (omega (arith, leb, more_bufs)) (omega (arith, led, room_le))

-- one piece after another
pub formed_append : (g : Scope) (xs : List Int) (ps : List Buf) (new : Blocks) (d : ℕ) (a b : List CStmt) → IsFormed g xs ps new d a → IsFormed g xs ps new d b → IsFormed g xs ps new d (a ++ b)
formed_append g xs ps new d a b f h sc room within ints bufs more more_bufs le =
    stmts_append sc (Some room) a b (f sc room within ints bufs more more_bufs le) (h sc room within ints bufs more more_bufs le)

-- no code
pub grown_none : (b : Blocks) → Grown [] b b
grown_none b = record { inner = sym (append-nil b.inner); outer = refl; ints = omega arith; bufs = omega arith }

-- one call after another
pub grown_then : (a b : List CStmt) (x y z : Blocks) → Grown a x y → Grown b y z → Grown (a ++ b) x z
grown_then a b x y z f g =
    let i = f.ints in let j = g.ints in let k = f.bufs in let l = g.bufs in
    record {
      inner = g.inner ∙ ap (λ (l : List CStmt). l ++ b) f.inner ∙ append_assoc x.inner a b;
      outer = g.outer ∙ f.outer;
      ints = omega (arith, i, j);
      bufs = omega (arith, k, l);
    }

-- a statement was added
pub grown_emit : (s : CStmt) (a b : Blocks) → b ≡ record a { inner = a.inner ++ s ∷ [] } → Grown (s ∷ []) a b
grown_emit s a b e =
    let i : b.ints ≡ a.ints = ap (λ (x : Blocks). x.ints) e in
    let j : b.bufs ≡ a.bufs = ap (λ (x : Blocks). x.bufs) e in
    record { inner = ap (λ (x : Blocks). x.inner) e; outer = ap (λ (x : Blocks). x.outer) e; ints = omega (arith, i); bufs = omega (arith, j) }

-- a whole variable was given
pub grown_int : (a b : Blocks) → b ≡ record a { ints = a.ints + 1 } → Grown [] a b
grown_int a b e =
    let i : b.ints ≡ a.ints + 1 = ap (λ (x : Blocks). x.ints) e in
    let j : b.bufs ≡ a.bufs = ap (λ (x : Blocks). x.bufs) e in
    record { inner = ap (λ (x : Blocks). x.inner) e ∙ sym (append-nil a.inner); outer = ap (λ (x : Blocks). x.outer) e; ints = omega (arith, i); bufs = omega (arith, j) }

-- what was built is kept
pub grown_kept : (code : List CStmt) (a b : Blocks) → Grown code a b → IsKept a b
grown_kept code a b g =
    let k = kept_code a code in
    record {
      blocks =
          subst (λ (o : List (List CStmt)). Begin (open_blocks a) (o ++ b.inner ∷ [])) (sym g.outer)
          (subst (λ (i : List CStmt). Begin (open_blocks a) (a.outer ++ i ∷ [])) (sym g.inner) k.blocks);
      ints = g.ints;
      bufs = g.bufs;
    }

-- ---- Loops

pub kept_begun : (a : Blocks) → IsKept a (loop_begun a)
kept_begun a =
    let b : Blocks = record a { ints = a.ints + 1 } in
    let d : Blocks = record b { inner = a.inner ++ stmt.Set (int.Local a.ints) (expr.Lit (pos 0)) ∷ [] } in
    let names : IsKept a b = record { blocks = (kept_same a).blocks; ints = omega arith; bufs = omega arith } in
    kept_trans a b (loop_begun a) names (kept_trans b d (loop_begun a) (kept_code b (stmt.Set (int.Local a.ints) (expr.Lit (pos 0)) ∷ [])) (kept_open d))

-- a loop that was not ended is still open
pub round_open : (a b0 b1 : Blocks) → IsKept (loop_begun a) b0 → IsKept b0 b1 → IsKept a b1
round_open a b0 b1 k l = kept_trans a (loop_begun a) b1 (kept_begun a) (kept_trans (loop_begun a) b0 b1 k l)

-- the block of the loop was ended
pub round_closed : (a b0 b1 b2 : Blocks) → IsKept (loop_begun a) b0 → IsKept b0 b1 → b1.outer ≡ b2.outer ++ b2.inner ∷ [] → (b2.ints ≡ b1.ints) × (b2.bufs ≡ b1.bufs) → IsKept a b2
round_closed a b0 b1 b2 k l round names =
    let d : Blocks = record a { inner = a.inner ++ stmt.Set (int.Local a.ints) (expr.Lit (pos 0)) ∷ []; ints = a.ints + 1 } in
    let first : IsKept a d = record { blocks = (kept_code a (stmt.Set (int.Local a.ints) (expr.Lit (pos 0)) ∷ [])).blocks; ints = omega arith; bufs = omega arith } in
    kept_trans a d b2 first (kept_close d b1 b2 (kept_trans (loop_begun a) b0 b1 k l) round names.0 names.1)

-- a loop round the code that was added between its beginning and its end
pub loop_grown : (code : List CStmt) (b0 b1 b2 b3 : Blocks) (i length : Int) → i ≡ int.Local b0.ints → b1 ≡ loop_begun b0 → Grown code b1 b2 → LoopEnded i length b2 b3 → Grown (counted_loop (int.Local b0.ints) length code) b0 b3
loop_grown code b0 b1 b2 b3 i length ei e1 g l =
    let head : CStmt = stmt.Set (int.Local b0.ints) (expr.Lit (pos 0)) in
    let blocks : b0.outer ++ (b0.inner ++ head ∷ []) ∷ [] ≡ b3.outer ++ l.before ∷ [] = sym (ap (λ (b : Blocks). b.outer) e1) ∙ sym g.outer ∙ l.outer in
    let body : b2.inner ≡ code = g.inner ∙ ap (λ (b : Blocks). b.inner ++ code) e1 in
    let same = same_from_push b0.outer b3.outer (b0.inner ++ head ∷ []) l.before blocks in
    let i1 : b1.ints ≡ b0.ints + 1 = ap (λ (b : Blocks). b.ints) e1 in
    let j1 : b1.bufs ≡ b0.bufs = ap (λ (b : Blocks). b.bufs) e1 in
    let i2 = g.ints in let j2 = g.bufs in let i3 = l.ints in let j3 = l.bufs in
    record {
      inner =
          l.inner
          ∙ ap (λ (m : List CStmt). m ++ stmt.While (less i length) (b2.inner ++ stmt.Set i (plus_one i) ∷ []) ∷ []) (sym same.1)
          ∙ append_assoc b0.inner (head ∷ []) (stmt.While (less i length) (b2.inner ++ stmt.Set i (plus_one i) ∷ []) ∷ [])
          ∙ ap (λ (m : List CStmt). b0.inner ++ head ∷ stmt.While (less i length) (m ++ stmt.Set i (plus_one i) ∷ []) ∷ []) body
          ∙ ap (λ (x : Int). b0.inner ++ head ∷ stmt.While (less x length) (code ++ stmt.Set x (plus_one x) ∷ []) ∷ []) ei;
      outer = sym same.0;
      ints = omega (arith, i1, i2, i3);
      bufs = omega (arith, j1, j2, j3);
    }

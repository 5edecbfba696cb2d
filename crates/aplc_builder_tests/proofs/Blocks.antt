-- When blocks, and statements that have blocks, are well formed.
use Rattle.std.proofs.Common.{◌≡◌, ℕ, zero, suc, ◌+◌, ◌<◌, ◌≤◌, ◌-◌, List, [], ◌∷◌, arith, refl, sym, ap, subst, Bool, true, take, length, slice_index_or}
use Rattle.std.specs.Prelude.{Option, Some, None, ◌&&◌, IsTrue, All, ◌^◌}
use Rattle.std.proofs.lemmas.List.{take_all}
use Rattle.aplc_cprof.specs.declared.syntax.CExpr.{CExpr}
use Rattle.aplc_cprof.specs.declared.syntax.CStmt.{CStmt}
use Rattle.aplc_cprof.specs.declared.syntax.CStmt.TheVariants as stmt
use Rattle.aplc_cprof.specs.declared.syntax.CFunction.{CFunction}
use Rattle.aplc_cprof.specs.declared.syntax.CProgram.{CProgram}
use Rattle.aplc_cprof.specs.WellFormed.{Scope, inside, is_expr, is_stmt, are_stmts, is_otherwise, is_count, is_function, is_formed, declared, IsWellFormed}
use Rattle.aplc_cprof.proofs.Emitted.{both_true, is_below}
use Rattle.aplc_cprof.proofs.Forms.{is_If, is_While}

pub block_fits : (sc : Scope) (room : Option ℕ) (ss : List CStmt) → All (λ s. IsTrue (is_stmt sc s room)) ss → IsTrue (are_stmts sc ss room)
block_fits sc room [] h = refl
block_fits sc room (s ∷ ss) h = both_true (is_stmt sc s room) (are_stmts sc ss room) (h 0 s (omega arith)) (block_fits sc room ss (λ k d lt. h (suc k) d (omega (arith, lt))))

one_inside : (f : Option ℕ → Bool) (room : ℕ) → 0 < room → IsTrue (f (Some (room - 1))) → IsTrue (inside (Some room) f)
one_inside f zero lt h = absurd (omega (arith, lt))
one_inside f (suc r) lt h = subst (λ m. IsTrue (f (Some m))) (omega arith) h

pub while_fits : (sc : Scope) (room : ℕ) (e : CExpr) (a : List CStmt) → 0 < room → IsTrue (is_expr sc e (Some room)) → All (λ s. IsTrue (is_stmt sc s (Some (room - 1)))) a → IsTrue (is_stmt sc (stmt.While e a) (Some room))
while_fits sc room e a lt h k = subst IsTrue (sym (is_While sc e a (Some room)))
    (both_true (is_expr sc e (Some room)) (inside (Some room) (are_stmts sc a)) h (one_inside (are_stmts sc a) room lt (block_fits sc (Some (room - 1)) a k)))

pub if_fits : (sc : Scope) (room : ℕ) (e : CExpr) (a : List CStmt) (r : Option (List CStmt)) → r ≡ None → 0 < room → IsTrue (is_expr sc e (Some room)) → All (λ s. IsTrue (is_stmt sc s (Some (room - 1)))) a → IsTrue (is_stmt sc (stmt.If e a r) (Some room))
if_fits sc room e a r is lt h k = rw is
    (subst IsTrue (sym (is_If sc e a None (Some room)))
    (both_true (is_expr sc e (Some room)) (inside (Some room) (λ r. are_stmts sc a r && is_otherwise sc None r)) h
    (one_inside (λ r. are_stmts sc a r && is_otherwise sc None r) room lt (both_true (are_stmts sc a (Some (room - 1))) true (block_fits sc (Some (room - 1)) a k) refl))))

pub else_fits : (sc : Scope) (room : ℕ) (e : CExpr) (a o : List CStmt) (r : Option (List CStmt)) → r ≡ Some o → 0 < room → IsTrue (is_expr sc e (Some room)) → All (λ s. IsTrue (is_stmt sc s (Some (room - 1)))) a → All (λ s. IsTrue (is_stmt sc s (Some (room - 1)))) o → IsTrue (is_stmt sc (stmt.If e a r) (Some room))
else_fits sc room e a o r is lt h k j = rw is
    (subst IsTrue (sym (is_If sc e a (Some o) (Some room)))
    (both_true (is_expr sc e (Some room)) (inside (Some room) (λ r. are_stmts sc a r && are_stmts sc o r)) h
    (one_inside (λ r. are_stmts sc a r && are_stmts sc o r) room lt (both_true (are_stmts sc a (Some (room - 1))) (are_stmts sc o (Some (room - 1))) (block_fits sc (Some (room - 1)) a k) (block_fits sc (Some (room - 1)) o j)))))

pub all_passed : (P : CStmt → Type 0) (ss : List CStmt) (n : ℕ) → length ss ≤ n → All P (take n ss) → All P ss
all_passed P ss n le h = subst (All P) (take_all n ss le) h

behind : (P : CStmt → Type 0) (s : CStmt) (ss : List CStmt) → P s → All P ss → All P (s ∷ ss)
behind P s ss p h zero d below = p
behind P s ss p h (suc k) d below = h k d (omega (arith, below))

passed_one : (P : CStmt → Type 0) (ss : List CStmt) (n : ℕ) (d : CStmt) → n < length ss → All P (take n ss) → P (slice_index_or ss n d) → All P (take (suc n) ss)
passed_one P [] n d lt h p = absurd (omega (arith, lt))
passed_one P (s ∷ ss) zero d lt h p = behind P s [] p (λ k e below. absurd (omega (arith, below)))
passed_one P (s ∷ ss) (suc n) d lt h p = behind P s (take (suc n) ss) (h 0 s (omega arith)) (passed_one P ss n d (omega (arith, lt)) (λ k e below. h (suc k) e (omega (arith, below))) p)

pub all_after : (P : CStmt → Type 0) (ss : List CStmt) (n : ℕ) (d : CStmt) → n < length ss → All P (take n ss) → P (slice_index_or ss n d) → All P (take (n + 1) ss)
all_after P ss n d lt h p = let e : suc n ≡ n + 1 = omega arith in subst (λ m. All P (take m ss)) e (passed_one P ss n d lt h p)

pub function_fits : (sc : Scope) (room : ℕ) (f : CFunction) → f.ints < 2 ^ 32 → f.bufs < 2 ^ 32 → All (λ s. IsTrue (is_stmt sc s (Some room))) f.body → IsTrue (is_function sc (Some room) f)
function_fits sc room f a b h =
    both_true (is_count f.ints && is_count f.bufs) (are_stmts sc f.body (Some room))
    (both_true (is_count f.ints) (is_count f.bufs) (is_below f.ints (2 ^ 32) a) (is_below f.bufs (2 ^ 32) b))
    (block_fits sc (Some room) f.body h)

no_items : {A : Type 0} → (xs : List A) → length xs ≡ 0 → xs ≡ []
no_items [] e = refl
no_items (x ∷ xs) e = absurd (omega (arith, e))

one_item : (xs : List CFunction) (d f : CFunction) → length xs ≡ 1 → f ≡ slice_index_or xs 0 d → xs ≡ f ∷ []
one_item [] d f e h = absurd (omega (arith, e))
one_item (x ∷ []) d f e h = ap (λ y. y ∷ []) (sym h)
one_item (x ∷ y ∷ ys) d f e h = absurd (omega (arith, e))

same_scope : (p : CProgram) (f : CFunction) → p.tables ≡ [] → p.functions ≡ f ∷ [] → declared p f ≡ declared (record p { tables = []; functions = f ∷ [] }) f
same_scope p f a b = rw (a, b) refl

alone_fits : (p : CProgram) (f : CFunction) → p.tables ≡ [] → p.functions ≡ f ∷ [] → p.ints < 2 ^ 32 → p.bufs < 2 ^ 32 → is_function (declared p f) (Some 256) f ≡ true → IsWellFormed p
unfolding is_formed
alone_fits p f a b i j h = rw (a, b, is_below p.ints (2 ^ 32) i, is_below p.bufs (2 ^ 32) j)
    (both_true (is_function (declared (record p { tables = []; functions = f ∷ [] }) f) (Some 256) f) true (subst (λ (q : Scope). is_function q (Some 256) f ≡ true) (same_scope p f a b) h) refl)

pub program_fits : (p : CProgram) (d f : CFunction) → length p.tables ≡ 0 → length p.functions ≡ 1 → f ≡ slice_index_or p.functions 0 d → p.ints < 2 ^ 32 → p.bufs < 2 ^ 32 → IsTrue (is_function (declared p f) (Some 256) f) → IsWellFormed p
program_fits p d f a b e i j h = alone_fits p f (no_items p.tables a) (one_item p.functions d f b e) i j h

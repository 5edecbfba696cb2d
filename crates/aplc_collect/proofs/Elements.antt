-- What the code of an element in a variable does, and how code yields a number.
use Rattle.std.proofs.Common.{◌≡◌, ℕ, ◌+◌, ◌≤◌, List, [], ◌∷◌, ◌++◌, refl, sym, ap, ◌∙◌, subst, arith, ℤ, Bool, true, false, cond}
use Rattle.std.specs.Prelude.{Option, Some, None, Ok, pos}
use Rattle.aplc_scalar.specs.declared.kind.FaultKind.{FaultKind}
use Rattle.aplc_scalar.specs.Scalar.{Given, in_range, truth}
use Rattle.aplc_cprof.specs.declared.syntax.Int.{Int}
use Rattle.aplc_cprof.specs.declared.syntax.Int.TheVariants as int
use Rattle.aplc_cprof.specs.declared.syntax.CExpr.{CExpr}
use Rattle.aplc_cprof.specs.declared.syntax.CExpr.TheVariants as expr
use Rattle.aplc_cprof.specs.declared.syntax.CStmt.{CStmt}
use Rattle.aplc_cprof.specs.declared.syntax.CStmt.TheVariants as stmt
use Rattle.aplc_cprof.specs.Blocks.{Blocks}
use Rattle.aplc_cprof.specs.WellFormed.{Scope, is_int}
use Rattle.aplc_cprof.specs.Machine.{State, Code, Value, Is, Bad, read_int, or_unset, value, settled}
use Rattle.aplc_cprof.specs.Frames.{IsFresh, AreGiven, Stays}
use Rattle.aplc_cprof.specs.Emitted.{IsWithin}
use Rattle.aplc_cprof.proofs.Values.{value_Var}
use Rattle.aplc_cprof.proofs.Paths.{other_part, Does, does_weaken, does_if, does_else}
use Rattle.aplc_cprof.proofs.Frames.{put_at, stays_none, stays_settled, stays_set}
use Rattle.aplc_cprof.proofs.Counting.{does_set}
use Rattle.aplc_cprof.proofs.Emitted.{is_below, fresh_declared, var_formed, set_formed, one_stmt}
use Rattle.aplc_collect.specs.Elements.{Computed, Failed, Yields, Emits, scope_of, number_of, scalar_test, one_step}
use Rattle.aplc_collect.specs.ElementLaws.{some_is, not_none}

-- ---- Code that yields a number

module _ (c : Code) (n m : ℕ) (s : State) where
  -- a fresh variable is set
  pub set_yields : (k : ℕ) (e : CExpr) (t : State) (r : Given) (v : ℤ) → n ≤ k → Stays n m s t → value e c.tables t ≡ Is v → r ≡ Ok v → Does c (Stays n m s) 1 (stmt.Set (int.Local k) e ∷ []) t (Computed n m s (int.Local k) r) (Failed n m s r)
  set_yields k e t r v le st is given =
      does_set c (Stays n m s) k e t (Computed n m s (int.Local k) r) (Failed n m s r) v is
      (λ rest. stays_set n m k v s t rest le st)
      (λ rest. record { stays = stays_set n m k v s t rest le st; value = v; given = given; is = ap or_unset (put_at t.ints k (Some v)) })

  -- one of two pieces of code, by a test
  pub if_yields : (k : ℕ) (e : CExpr) (a : List CStmt) (d : Option (List CStmt)) (t : State) (Post : State → Type 0) (Fail : FaultKind → State → Type 0) (b : Bool) → Stays n m s t → value e c.tables t ≡ Is (truth b) → (b ≡ true → Does c (Stays n m s) k a (settled t) Post Fail) → (b ≡ false → Does c (Stays n m s) k (other_part d) (settled t) Post Fail) → Does c (Stays n m s) (k + 1) (stmt.If e a d ∷ []) t Post Fail
  if_yields k e a d t Post Fail true st is f g = does_if c (Stays n m s) k e a d t Post Fail (pos 1) is refl (λ todo. stays_settled n m s t todo st) (f refl)
  if_yields k e a d t Post Fail false st is f g = does_else c (Stays n m s) k e a d t Post Fail (pos 0) is refl (λ todo. stays_settled n m s t todo st) (g refl)

  -- it may take more steps
  pub yields_more : (j k : ℕ) (code : List CStmt) (v : Int) (r : Given) → j ≤ k → Yields c n m j code s v r → Yields c n m k code s v r
  yields_more j k code v r le d = does_weaken c (Stays n m s) (Stays n m s) j k code s (Computed n m s v r) (Computed n m s v r) (Failed n m s r) (Failed n m s r) (λ u x. x) (λ u x. x) (λ f u x. x) le d

-- ---- A number in a variable

-- a name of which the scope was given is declared
pub scope_declared : (x : Int) (b : Blocks) (sc : Scope) → AreGiven (scope_of x) b → b.ints ≤ sc.ints → IsWithin (scope_of x) sc → is_int sc x ≡ true
scope_declared (int.Local k) b sc g le w = let i = g.ints in is_below k sc.ints (omega (arith, i, le))
scope_declared (int.Global k) b sc g le w = let i = w.global_ints in is_below k sc.global_ints (omega (arith, i))

abbrev number_when : Bool → ℤ → Option Given
number_when b y = cond b (Some (Ok y)) None

-- a number of the range is in the variable
record Number (v : Value) (r : Given) : Type 0 where
  pub value : ℤ
  pub is : v ≡ Is value
  pub given : r ≡ Ok value

number_is : (v : Value) (r : Given) → number_of v ≡ Some r → Number v r
number_is (Bad c) r e = absurd (not_none r e)
number_is (Is y) r e = by_range (in_range y) e
  where
    by_range : (b : Bool) → number_when b y ≡ Some r → Number (Is y) r
    by_range true e = record { value = y; is = refl; given = sym (some_is (Ok y) r e) }
    by_range false e = absurd (not_none r e)

pub scalar_emits : (x : Int) (at : List Int) (b0 b1 b2 : Blocks) (v : Int) → AreGiven (scope_of x) b0 → v ≡ int.Local b0.ints → b1 ≡ record b0 { ints = b0.ints + 1 } → b2 ≡ record b1 { inner = b1.inner ++ stmt.Set v (expr.Var x) ∷ [] } → Emits (scalar_test x) one_step (scope_of x) 0 b0 b2 at v
scalar_emits x at b0 b1 b2 v given ev e1 e2 = record {
  code = stmt.Set v (expr.Var x) ∷ [];
  grown = record {
    inner = ap (λ (b : Blocks). b.inner) e2 ∙ ap (λ (b : Blocks). b.inner ++ stmt.Set v (expr.Var x) ∷ []) e1;
    outer = ap (λ (b : Blocks). b.outer) e2 ∙ ap (λ (b : Blocks). b.outer) e1;
    ints = omega (arith, ints2);
    bufs = omega (arith, bufs2);
  };
  fresh = fresh_is;
  formed = λ sc room within are bufs more more_bufs le.
      one_stmt sc (Some room) (stmt.Set v (expr.Var x)) []
      (set_formed sc (Some room) v (expr.Var x) (fresh_declared sc b0.ints b2.ints v fresh_is more) (var_formed sc x (scope_declared x b0 sc given (omega (arith, ints2, more)) within) room)) refl;
  runs = λ c s is r hold test. subst (λ (y : Int). Yields c b0.ints b0.bufs 1 (stmt.Set y (expr.Var x) ∷ []) s y r) (sym ev) (runs c s r (number_is (read_int x s) r test));
}
  where
    ints2 : b2.ints ≡ b0.ints + 1
    ints2 = ap (λ (b : Blocks). b.ints) e2 ∙ ap (λ (b : Blocks). b.ints) e1

    bufs2 : b2.bufs ≡ b0.bufs
    bufs2 = ap (λ (b : Blocks). b.bufs) e2 ∙ ap (λ (b : Blocks). b.bufs) e1

    fresh_is : IsFresh b0.ints b2.ints v
    fresh_is = let h : IsFresh b0.ints b2.ints (int.Local b0.ints) = (omega arith, omega (arith, ints2)) in subst (λ (y : Int). IsFresh b0.ints b2.ints y) (sym ev) h

    runs : (c : Code) (s : State) (r : Given) → Number (read_int x s) r → Yields c b0.ints b0.bufs 1 (stmt.Set (int.Local b0.ints) (expr.Var x) ∷ []) s (int.Local b0.ints) r
    runs c s r h = set_yields c b0.ints b0.bufs s b0.ints (expr.Var x) s r h.value (omega arith) (stays_none b0.ints b0.bufs s) (value_Var x c.tables s ∙ h.is) h.given

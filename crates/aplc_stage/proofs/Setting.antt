-- Variables that are set one after the other, and what they hold then.
-- It must not know what the values are for.
use Rattle.std.proofs.Common.{◌≡◌, ℕ, suc, ◌+◌, ◌≤◌, List, [], ◌∷◌, length, refl, ap, ◌∙◌, subst, arith, ℤ, true}
use Rattle.std.specs.Prelude.{Some, pos}
use Rattle.aplc_scalar.specs.declared.kind.FaultKind.{FaultKind}
use Rattle.aplc_cprof.specs.declared.syntax.Int.{Int}
use Rattle.aplc_cprof.specs.declared.syntax.Int.TheVariants as int
use Rattle.aplc_cprof.specs.declared.syntax.CExpr.TheVariants as expr
use Rattle.aplc_cprof.specs.declared.syntax.CStmt.{CStmt}
use Rattle.aplc_cprof.specs.declared.syntax.CStmt.TheVariants as stmt
use Rattle.aplc_cprof.specs.WellFormed.{Scope, are_stmts}
use Rattle.aplc_cprof.specs.Machine.{State, Code, Todo, or_unset}
use Rattle.aplc_cprof.specs.Frames.{AreOld, Stays, Hold}
use Rattle.aplc_cprof.specs.Emitted.{AreInts}
use Rattle.aplc_cprof.proofs.Values.{value_Var, value_Lit}
use Rattle.aplc_cprof.proofs.Paths.{Does, does_then, does_weaken, does_none}
use Rattle.aplc_cprof.proofs.Frames.{after_set, put_at, stays_none, stays_then, stays_less, stays_set, read_stays}
use Rattle.aplc_cprof.proofs.Emitted.{is_below, var_formed, lit_formed, set_formed, one_stmt}
use Rattle.aplc_cprof.proofs.Counting.{does_set}
use Rattle.aplc_step.specs.Steppers.{HoldInts}
use Rattle.aplc_stage.specs.Pieces.{locals, copies, clears}

-- ---- Names

pub locals_old : (n k : ℕ) (like : List Int) → k + length like ≤ n → AreOld n (locals k like)
locals_old n k [] le = tt
locals_old n k (x ∷ like) le = (omega (arith, le), locals_old n (k + 1) like (omega (arith, le)))

pub locals_many : (k : ℕ) (like : List Int) → length (locals k like) ≡ length like
locals_many k [] = refl
locals_many k (x ∷ like) = ap suc (locals_many (k + 1) like)

pub locals_declared : (sc : Scope) (k : ℕ) (like : List Int) → k + length like ≤ sc.ints → AreInts sc (locals k like)
locals_declared sc k [] le = tt
locals_declared sc k (x ∷ like) le = (is_below k sc.ints (omega (arith, le)), locals_declared sc (k + 1) like (omega (arith, le)))

-- ---- Whole numbers and lengths

abbrev pub wholes : List ℕ → List ℤ
wholes [] = []
wholes (n ∷ ns) = pos n ∷ wholes ns

pub as_ints : (s : State) (xs : List Int) (ns : List ℕ) → Hold s xs ns → HoldInts s xs (wholes ns)
as_ints s [] [] h = tt
as_ints s [] (n ∷ ns) h = absurd h
as_ints s (x ∷ xs) [] h = absurd h
as_ints s (x ∷ xs) (n ∷ ns) h = (h.0, as_ints s xs ns h.1)

pub as_lengths : (s : State) (xs : List Int) (ns : List ℕ) → HoldInts s xs (wholes ns) → Hold s xs ns
as_lengths s [] [] h = tt
as_lengths s [] (n ∷ ns) h = absurd h
as_lengths s (x ∷ xs) [] h = absurd h
as_lengths s (x ∷ xs) (n ∷ ns) h = (h.0, as_lengths s xs ns h.1)

-- as many numbers 0 as there are items
abbrev pub nones : List Int → List ℤ
nones [] = []
nones (x ∷ xs) = pos 0 ∷ nones xs

-- ---- What they hold

-- since s all stays that was given before the n-th, since t all before the k-th, and the variables hold these numbers
pub record Took (n m k : ℕ) (xs : List Int) (zs : List ℤ) (s t u : State) : Type 0 where
  pub since : Stays n m s u
  pub here : Stays k m t u
  pub held : HoldInts u xs zs

-- one variable is set
record TookOne (n m k : ℕ) (z : ℤ) (s t u : State) : Type 0 where
  pub since : Stays n m s u
  pub here : Stays k m t u
  pub is : u.ints k ≡ Some z

module _ (c : Code) (n m : ℕ) (s : State) (Fail : FaultKind → State → Type 0) where
  set_one : (k : ℕ) (t : State) (z : ℤ) (rest : Todo) → n ≤ k → Stays n m s t → TookOne n m k z s t (after_set k z rest t)
  set_one k t z rest le f = record {
    since = stays_set n m k z s t rest le f;
    here = stays_set k m k z t t rest (omega arith) (stays_none k m t);
    is = put_at t.ints k (Some z);
  }

  took_more : (k : ℕ) (xs : List Int) (z : ℤ) (zs : List ℤ) (t u v : State) → TookOne n m k z s t u → Took n m (k + 1) xs zs s u v → Took n m k (int.Local k ∷ xs) (z ∷ zs) s t v
  took_more k xs z zs t u v one more = record {
    since = more.since;
    here = stays_then k m t u v one.here (stays_less k (k + 1) m m u v (omega arith) (omega arith) more.here);
    held = (ap or_unset (more.here.ints k (omega arith) ∙ one.is), more.held);
  }

  took_none : (k : ℕ) (t : State) (todo : Todo) → Stays n m s t → Took n m k [] [] s t (record t { todo = todo })
  took_none k t todo f = record {
    since = record { ints = f.ints; bufs = f.bufs; around = f.around; heap = f.heap };
    here = record { ints = λ x lt. refl; bufs = λ p lt. refl; around = refl; heap = refl };
    held = tt;
  }

  -- variables take on the values of others, which were given before all of them
  pub copies_run : (k : ℕ) (like from : List Int) (zs : List ℤ) (t : State) → n ≤ k → AreOld n from → length like ≡ length from → HoldInts s from zs → Stays n m s t → Does c (Stays n m s) (length from) (copies (locals k like) from) t (Took n m k (locals k like) zs s t) Fail
  copies_run k [] [] [] t le old many held f = does_none c (Stays n m s) t (Took n m k [] [] s t) Fail (λ todo. took_none k t todo f)
  copies_run k [] [] (z ∷ zs) t le old many held f = absurd held
  copies_run k [] (y ∷ from) zs t le old many held f = absurd (omega (arith, many))
  copies_run k (x ∷ like) [] zs t le old many held f = absurd (omega (arith, many))
  copies_run k (x ∷ like) (y ∷ from) [] t le old many held f = absurd held
  copies_run k (x ∷ like) (y ∷ from) (z ∷ zs) t le old many held f =
      let more : 1 + length from ≡ length (y ∷ from) = omega arith in
      subst (λ j. Does c (Stays n m s) j (copies (locals k (x ∷ like)) (y ∷ from)) t (Took n m k (locals k (x ∷ like)) (z ∷ zs) s t) Fail) more
      (does_then c (Stays n m s) 1 (length from) (stmt.Set (int.Local k) (expr.Var y) ∷ []) (copies (locals (k + 1) like) from) t (TookOne n m k z s t) (Took n m k (locals k (x ∷ like)) (z ∷ zs) s t) Fail
      (does_set c (Stays n m s) k (expr.Var y) t (TookOne n m k z s t) Fail z (value_Var y c.tables t ∙ read_stays n m s t y f old.0 ∙ held.0)
      (λ rest. (set_one k t z rest le f).since) (λ rest. set_one k t z rest le f))
      (λ u one. weaken_took k (locals (k + 1) like) z zs (length from) (copies (locals (k + 1) like) from) t u one
      (copies_run (k + 1) like from zs u (omega (arith, le)) old.1 (omega (arith, many)) held.1 one.since)))
    where
      weaken_took : (k : ℕ) (xs : List Int) (z : ℤ) (zs : List ℤ) (j : ℕ) (code : List CStmt) (t u : State) → TookOne n m k z s t u → Does c (Stays n m s) j code u (Took n m (k + 1) xs zs s u) Fail → Does c (Stays n m s) j code u (Took n m k (int.Local k ∷ xs) (z ∷ zs) s t) Fail
      weaken_took k xs z zs j code t u one d = does_weaken c (Stays n m s) (Stays n m s) j j code u (Took n m (k + 1) xs zs s u) (Took n m k (int.Local k ∷ xs) (z ∷ zs) s t) Fail Fail (λ v x. x) (λ v more. took_more k xs z zs t u v one more) (λ kind v x. x) (omega arith) d

  -- variables become 0
  pub clears_run : (k : ℕ) (like : List Int) (t : State) → n ≤ k → Stays n m s t → Does c (Stays n m s) (length like) (clears (locals k like)) t (Took n m k (locals k like) (nones like) s t) Fail
  clears_run k [] t le f = does_none c (Stays n m s) t (Took n m k [] [] s t) Fail (λ todo. took_none k t todo f)
  clears_run k (x ∷ like) t le f =
      let more : 1 + length like ≡ length (x ∷ like) = omega arith in
      subst (λ j. Does c (Stays n m s) j (clears (locals k (x ∷ like))) t (Took n m k (locals k (x ∷ like)) (nones (x ∷ like)) s t) Fail) more
      (does_then c (Stays n m s) 1 (length like) (stmt.Set (int.Local k) (expr.Lit (pos 0)) ∷ []) (clears (locals (k + 1) like)) t (TookOne n m k (pos 0) s t) (Took n m k (locals k (x ∷ like)) (nones (x ∷ like)) s t) Fail
      (does_set c (Stays n m s) k (expr.Lit (pos 0)) t (TookOne n m k (pos 0) s t) Fail (pos 0) (value_Lit (pos 0) c.tables t)
      (λ rest. (set_one k t (pos 0) rest le f).since) (λ rest. set_one k t (pos 0) rest le f))
      (λ u one. does_weaken c (Stays n m s) (Stays n m s) (length like) (length like) (clears (locals (k + 1) like)) u (Took n m (k + 1) (locals (k + 1) like) (nones like) s u) (Took n m k (locals k (x ∷ like)) (nones (x ∷ like)) s t) Fail Fail
      (λ v y. y) (λ v more. took_more k (locals (k + 1) like) (pos 0) (nones like) t u v one more) (λ kind v y. y) (omega arith)
      (clears_run (k + 1) like u (omega (arith, le)) one.since)))

-- ---- Where it is well formed

pub copies_formed : (sc : Scope) (room : ℕ) (xs ys : List Int) → AreInts sc xs → AreInts sc ys → are_stmts sc (copies xs ys) (Some room) ≡ true
copies_formed sc room [] ys h k = refl
copies_formed sc room (x ∷ xs) [] h k = refl
copies_formed sc room (x ∷ xs) (y ∷ ys) h k =
    one_stmt sc (Some room) (stmt.Set x (expr.Var y)) (copies xs ys) (set_formed sc (Some room) x (expr.Var y) h.0 (var_formed sc y k.0 room)) (copies_formed sc room xs ys h.1 k.1)

pub clears_formed : (sc : Scope) (room : ℕ) (xs : List Int) → AreInts sc xs → are_stmts sc (clears xs) (Some room) ≡ true
clears_formed sc room [] h = refl
clears_formed sc room (x ∷ xs) h =
    one_stmt sc (Some room) (stmt.Set x (expr.Lit (pos 0))) (clears xs) (set_formed sc (Some room) x (expr.Lit (pos 0)) h.0 (lit_formed sc 0 (omega arith) room)) (clears_formed sc room xs h.1)

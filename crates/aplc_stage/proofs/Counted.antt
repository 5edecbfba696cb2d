-- The number of elements, as code computes it.
-- It must not know which array it is.
use Rattle.std.proofs.Common.{◌≡◌, ℕ, ◌+◌, ◌<◌, ◌≤◌, List, [], ◌∷◌, ◌++◌, inl, inr, length, refl, sym, ap, ◌∙◌, subst, arith, true}
use Rattle.std.specs.Prelude.{Some, None, pos, ◌^◌, slice_index_or}
use Rattle.aplc_arr.specs.Arrays.{product}
use Rattle.aplc_cprof.specs.declared.syntax.Int.{Int}
use Rattle.aplc_cprof.specs.declared.syntax.Int.TheVariants as int
use Rattle.aplc_cprof.specs.declared.syntax.Op.TheVariants as op
use Rattle.aplc_cprof.specs.declared.syntax.CExpr.TheVariants as expr
use Rattle.aplc_cprof.specs.declared.syntax.CStmt.{CStmt}
use Rattle.aplc_cprof.specs.declared.syntax.CStmt.TheVariants as stmt
use Rattle.aplc_cprof.specs.Blocks.{Blocks}
use Rattle.aplc_cprof.specs.WellFormed.{Scope, is_int, is_expr, is_stmt}
use Rattle.aplc_cprof.specs.Machine.{State, Code, Todo, Is, read_int, or_unset, settled}
use Rattle.aplc_cprof.specs.Frames.{IsOld, AreOld, Stays, Hold}
use Rattle.aplc_cprof.specs.Emitted.{Grown, AreInts}
use Rattle.aplc_cprof.proofs.Values.{value_Lit}
use Rattle.aplc_cprof.proofs.Paths.{Does, does_then, does_weaken, does_none, does_if, does_else, read_todo}
use Rattle.aplc_cprof.proofs.Frames.{put_at, stays_none, stays_set, stays_settled, hold_stays}
use Rattle.aplc_cprof.proofs.Emitted.{is_below, bin_formed, with_literal_formed, var_formed, lit_formed, one_stmt, set_formed, if_formed, grown_then, grown_emit, grown_int, grown_none}
use Rattle.aplc_cprof.proofs.Counting.{does_set}
use Rattle.aplc_step.specs.Wholes.{some_element}
use Rattle.aplc_step.proofs.Wholes.{Tells, some_value}
use Rattle.aplc_stage.specs.Computes.{NoFault}
use Rattle.aplc_stage.specs.Pieces.{product_expr, count_stmt, Counts}
use Rattle.aplc_stage.proofs.Tests.{product_value}

-- the variable holds the count, and all else is as it was
abbrev Counted : ℕ → ℕ → ℕ → List ℕ → State → State → Type 0
Counted n m v ns s t = Stays n m s t × (read_int (int.Local v) t ≡ Is (pos (product ns)))

record AtFirst (n m : ℕ) (s t : State) : Type 0 where
  pub stays : Stays n m s t
  pub is : t.ints n ≡ Some (pos 0)

module _ (c : Code) where
  count_runs : (n m : ℕ) (lengths : List Int) (s : State) (ns : List ℕ) → AreOld n lengths → Hold s lengths ns → product ns < 2 ^ 31 → Does c (Stays n m s) 3 (stmt.Set (int.Local n) (expr.Lit (pos 0)) ∷ count_stmt (int.Local n) lengths ∷ []) s (Counted n m n ns s) NoFault
  count_runs n m lengths s ns old hold small =
      does_then c Q 1 2 (stmt.Set (int.Local n) (expr.Lit (pos 0)) ∷ []) (count_stmt (int.Local n) lengths ∷ []) s (AtFirst n m s) (Counted n m n ns s) NoFault
      (does_set c Q n (expr.Lit (pos 0)) s (AtFirst n m s) NoFault (pos 0) (value_Lit (pos 0) c.tables s)
      (λ rest. stays_set n m n (pos 0) s s rest (omega arith) (stays_none n m s))
      (λ rest. record { stays = stays_set n m n (pos 0) s s rest (omega arith) (stays_none n m s); is = put_at s.ints n (Some (pos 0)) }))
      (λ t f. chosen t f (some_value c.tables t lengths ns (hold_stays n m s t lengths ns f.stays old hold)))
    where
      Q : State → Type 0
      Q = Stays n m s

      on : (t : State) (todo : Todo) → AtFirst n m s t → Q (settled (record t { todo = todo }))
      on t todo f = stays_settled n m s t todo f.stays

      chosen : (t : State) → AtFirst n m s t → Tells (some_element lengths) c.tables t ns → Does c Q 2 (count_stmt (int.Local n) lengths ∷ []) t (Counted n m n ns s) NoFault
      chosen t f (inl r) =
          let u = settled t in
          let held = hold_stays n m s u lengths ns (on t t.todo f) old hold in
          does_if c Q 1 (some_element lengths) (stmt.Set (int.Local n) (product_expr lengths) ∷ []) None t (Counted n m n ns s) NoFault (pos 1) r.0 refl (λ todo. on t todo f)
          (does_set c Q n (product_expr lengths) u (Counted n m n ns s) NoFault (pos (product ns)) (product_value c.tables u lengths ns held r.1 small)
          (λ rest. stays_set n m n (pos (product ns)) s u rest (omega arith) (on t t.todo f))
          (λ rest. (stays_set n m n (pos (product ns)) s u rest (omega arith) (on t t.todo f), ap or_unset (put_at u.ints n (Some (pos (product ns)))))))
      chosen t f (inr r) =
          does_weaken c Q Q 1 2 (count_stmt (int.Local n) lengths ∷ []) t (Counted n m n ns s) (Counted n m n ns s) NoFault NoFault (λ u x. x) (λ u x. x) (λ kind u x. x) (omega arith)
          (does_else c Q 0 (some_element lengths) (stmt.Set (int.Local n) (product_expr lengths) ∷ []) None t (Counted n m n ns s) NoFault (pos 0) r.0 refl (λ todo. on t todo f)
          (does_none c Q (settled t) (Counted n m n ns s) NoFault (λ todo. (on t todo f, ap or_unset f.is ∙ ap (λ k. Is (pos k)) (sym r.1)))))

-- ---- Where it is well formed

some_formed : (sc : Scope) (xs : List Int) (room : ℕ) → length xs + 1 ≤ room → AreInts sc xs → is_expr sc (some_element xs) (Some room) ≡ true
some_formed sc [] room le h = lit_formed sc 1 (omega arith) room
some_formed sc (x ∷ xs) room le h =
    bin_formed sc op.And (expr.Bin op.Greater (expr.Var x) (expr.Lit (pos 0))) (some_element xs) (length xs + 1) room (omega (arith, le))
    (λ r kr. with_literal_formed sc op.Greater x 0 r (omega (arith, kr)) (omega arith) h.0)
    (λ r kr. some_formed sc xs r kr h.1)

product_formed : (sc : Scope) (xs : List Int) (room : ℕ) → length xs ≤ room → AreInts sc xs → is_expr sc (product_expr xs) (Some room) ≡ true
product_formed sc [] room le h = lit_formed sc 1 (omega arith) room
product_formed sc (x ∷ xs) room le h =
    bin_formed sc op.Mul (expr.Var x) (product_expr xs) (length xs) room (omega (arith, le)) (λ r kr. var_formed sc x h.0 r) (λ r kr. product_formed sc xs r kr h.1)

count_formed : (sc : Scope) (v : Int) (xs : List Int) (room : ℕ) → 2 + length xs ≤ room → is_int sc v ≡ true → AreInts sc xs → is_stmt sc (count_stmt v xs) (Some room) ≡ true
count_formed sc v xs room le h are =
    if_formed sc (1 + length xs) room (some_element xs) (stmt.Set v (product_expr xs) ∷ []) (omega (arith, le)) (some_formed sc xs room (omega (arith, le)) are)
    (λ r kr. one_stmt sc (Some r) (stmt.Set v (product_expr xs)) [] (set_formed sc (Some r) v (product_expr xs) h (product_formed sc xs r (omega (arith, kr)) are)) refl)

-- ---- The builder's states

pub count_built : (b0 b1 b2 b3 : Blocks) (lengths : List Int) (v : Int) (s : CStmt) → AreOld b0.ints lengths → v ≡ int.Local b0.ints → b1 ≡ record b0 { ints = b0.ints + 1 } → b2 ≡ record b1 { inner = b1.inner ++ stmt.Set v (expr.Lit (pos 0)) ∷ [] } → s ≡ count_stmt v lengths → b3 ≡ record b2 { inner = b2.inner ++ s ∷ [] } → Counts b0 b3 lengths v
count_built b0 b1 b2 b3 lengths v s old ev e1 e2 es e3 = record {
  code = code;
  grown = grown_is;
  bufs = ap (λ (b : Blocks). b.bufs) e3 ∙ ap (λ (b : Blocks). b.bufs) e2 ∙ ap (λ (b : Blocks). b.bufs) e1;
  old_name = subst (λ (x : Int). IsOld b3.ints x) (sym ev) (omega (arith, ints3));
  declared = λ sc are more. ap (is_int sc) ev ∙ is_below n sc.ints (omega (arith, ints3, more));
  formed = λ sc room within are bufs more more_bufs le.
      let here : is_int sc (int.Local n) ≡ true = is_below n sc.ints (omega (arith, ints3, more)) in
      one_stmt sc (Some room) (stmt.Set (int.Local n) (expr.Lit (pos 0))) (count_stmt (int.Local n) lengths ∷ [])
      (set_formed sc (Some room) (int.Local n) (expr.Lit (pos 0)) here (lit_formed sc 0 (omega arith) room))
      (one_stmt sc (Some room) (count_stmt (int.Local n) lengths) [] (count_formed sc (int.Local n) lengths room le here are) refl);
  runs = λ c t ns hold small.
      subst (λ (x : Int). Does c (Stays n b0.bufs t) 3 code t (λ u. Stays n b0.bufs t u × (read_int x u ≡ Is (pos (product ns)))) NoFault) (sym ev) (count_runs c n b0.bufs lengths t ns old hold small);
}
  where
    n : ℕ
    n = b0.ints

    code : List CStmt
    code = stmt.Set (int.Local n) (expr.Lit (pos 0)) ∷ count_stmt (int.Local n) lengths ∷ []

    ints3 : b3.ints ≡ n + 1
    ints3 = ap (λ (b : Blocks). b.ints) e3 ∙ ap (λ (b : Blocks). b.ints) e2 ∙ ap (λ (b : Blocks). b.ints) e1

    written : stmt.Set v (expr.Lit (pos 0)) ∷ s ∷ [] ≡ code
    written =
        ap (λ (x : CStmt). stmt.Set v (expr.Lit (pos 0)) ∷ x ∷ []) es
        ∙ ap (λ (x : Int). stmt.Set x (expr.Lit (pos 0)) ∷ count_stmt x lengths ∷ []) ev

    grown_is : Grown code b0 b3
    grown_is =
        subst (λ (l : List CStmt). Grown l b0 b3) written
        (grown_then [] (stmt.Set v (expr.Lit (pos 0)) ∷ s ∷ []) b0 b1 b3 (grown_int b0 b1 e1)
        (grown_then (stmt.Set v (expr.Lit (pos 0)) ∷ []) (s ∷ []) b1 b2 b3 (grown_emit (stmt.Set v (expr.Lit (pos 0))) b1 b2 e2) (grown_emit s b2 b3 e3)))

-- a vector has as many elements as it is long
vector_counts : (b : Blocks) (x : Int) → AreOld b.ints (x ∷ []) → Counts b b (x ∷ []) x
vector_counts b x old = record {
  code = [];
  grown = grown_none b;
  bufs = refl;
  old_name = old.0;
  declared = λ sc are more. are.0;
  formed = λ sc room within are bufs more more_bufs le. refl;
  runs = runs_are;
}
  where
    stays_todo : (s : State) (todo : Todo) → Stays b.ints b.bufs s (record s { todo = todo })
    stays_todo s todo = record { ints = λ y lt. refl; bufs = λ p lt. refl; around = refl; heap = refl }

    runs_are : (c : Code) (s : State) (ns : List ℕ) → Hold s (x ∷ []) ns → product ns < 2 ^ 31 → Does c (Stays b.ints b.bufs s) 3 [] s (λ t. Stays b.ints b.bufs s t × (read_int x t ≡ Is (pos (product ns)))) NoFault
    runs_are c s [] hold small = absurd hold
    runs_are c s (k ∷ l ∷ ns) hold small = absurd hold.1
    runs_are c s (k ∷ []) hold small =
        let one : k ≡ product (k ∷ []) = omega arith in
        let Post : State → Type 0 = λ t. Stays b.ints b.bufs s t × (read_int x t ≡ Is (pos (product (k ∷ [])))) in
        does_weaken c (Stays b.ints b.bufs s) (Stays b.ints b.bufs s) 0 3 [] s Post Post NoFault NoFault (λ u y. y) (λ u y. y) (λ kind u y. y) (omega arith)
        (does_none c (Stays b.ints b.bufs s) s Post NoFault (λ todo. (stays_todo s todo, read_todo x s todo ∙ hold.0 ∙ ap (λ j. Is (pos j)) one)))

pub one_length : (b : Blocks) (lengths : List Int) (d : Int) → length lengths ≡ 1 → AreOld b.ints lengths → Counts b b lengths (slice_index_or lengths 0 d)
one_length b [] d one old = absurd (omega (arith, one))
one_length b (x ∷ y ∷ xs) d one old = absurd (omega (arith, one))
one_length b (x ∷ []) d one old = vector_counts b x old

-- The shape of two arrays together, as code finds it.
-- It must not know what is made of their elements.
use Rattle.std.proofs.Common.{◌≡◌, ℕ, ◌+◌, ◌≤◌, List, [], ◌∷◌, ◌++◌, length, refl, sym, ap, ◌∙◌, arith, Bool, true, false, ℤ}
use Rattle.std.specs.Prelude.{Some, pos, nat_eq}
use Rattle.aplc_scalar.specs.declared.kind.FaultKind.{FaultKind}
use Rattle.aplc_scalar.specs.declared.kind.FaultKind.TheVariants as fault
use Rattle.aplc_scalar.specs.Scalar.{truth, negated}
use Rattle.aplc_arr.specs.Arrays.{product, shape_eq}
use Rattle.aplc_cprof.specs.declared.syntax.Int.{Int}
use Rattle.aplc_cprof.specs.declared.syntax.Int.TheVariants as int
use Rattle.aplc_cprof.specs.declared.syntax.CExpr.TheVariants as expr
use Rattle.aplc_cprof.specs.declared.syntax.CStmt.{CStmt}
use Rattle.aplc_cprof.specs.declared.syntax.CStmt.TheVariants as stmt
use Rattle.aplc_cprof.specs.Machine.{State, Code, Todo, Is, or_unset, settled}
use Rattle.aplc_cprof.specs.Frames.{AreOld, Stays, Hold}
use Rattle.aplc_cprof.proofs.Values.{value_Lit}
use Rattle.aplc_cprof.proofs.Paths.{Does, does_then, does_weaken, does_if, does_else, does_Fault}
use Rattle.aplc_cprof.proofs.Frames.{after_set, put_at, put_other, stays_none, stays_set, stays_settled, hold_stays}
use Rattle.aplc_cprof.proofs.Counting.{does_set}
use Rattle.aplc_stage.specs.Pieces.{locals, copies, differ, all_one, takes_on, extended_block, conform_stmt, Kept, Extended, Conformed, Unlike}
use Rattle.aplc_stage.proofs.Setting.{locals_old, wholes, as_ints, as_lengths, Took, copies_run}
use Rattle.aplc_stage.proofs.Tests.{differ_value, all_one_value, shapes_same, shapes_other, common_is, one_element}

-- the lengths are those of one array, and two variables behind them are set
record Taken (n m k : ℕ) (like : List Int) (left right : Bool) (ns : List ℕ) (s t : State) : Type 0 where
  pub stays : Stays n m s t
  pub held : Hold t (locals n like) ns
  pub left_is : t.ints k ≡ Some (truth left)
  pub right_is : t.ints (k + 1) ≡ Some (truth right)

record TakenLeft (n m k : ℕ) (like : List Int) (left : Bool) (ns : List ℕ) (s t : State) : Type 0 where
  pub stays : Stays n m s t
  pub held : Hold t (locals n like) ns
  pub left_is : t.ints k ≡ Some (truth left)

module _ (c : Code) (n m k : ℕ) (like : List Int) (s : State) (Fail : FaultKind → State → Type 0) where
  abbrev Q : State → Type 0
  Q = Stays n m s

  -- what the first variables hold stays where a later one is set
  held_on : (j : ℕ) (z : ℤ) (t : State) (rest : Todo) (ns : List ℕ) → n + length like ≤ j → Hold t (locals n like) ns → Hold (after_set j z rest t) (locals n like) ns
  held_on j z t rest ns le h =
      hold_stays j m t (after_set j z rest t) (locals n like) ns (stays_set j m j z t t rest (omega arith) (stays_none j m t)) (locals_old j n like le) h

  take_left : (left : Bool) (ns : List ℕ) (t : State) → k ≡ n + length like → Took n m n (locals n like) (wholes ns) s s t → Does c Q 1 (stmt.Set (int.Local k) (expr.Lit (truth left)) ∷ []) t (TakenLeft n m k like left ns s) Fail
  take_left left ns t ek took =
      does_set c Q k (expr.Lit (truth left)) t (TakenLeft n m k like left ns s) Fail (truth left) (value_Lit (truth left) c.tables t)
      (λ rest. stays_set n m k (truth left) s t rest (omega (arith, ek)) took.since)
      (λ rest. record {
        stays = stays_set n m k (truth left) s t rest (omega (arith, ek)) took.since;
        held = held_on k (truth left) t rest ns (omega (arith, ek)) (as_lengths t (locals n like) ns took.held);
        left_is = put_at t.ints k (Some (truth left));
      })

  take_right : (left right : Bool) (ns : List ℕ) (t : State) → k ≡ n + length like → TakenLeft n m k like left ns s t → Does c Q 1 (stmt.Set (int.Local (k + 1)) (expr.Lit (truth right)) ∷ []) t (Taken n m k like left right ns s) Fail
  take_right left right ns t ek took =
      does_set c Q (k + 1) (expr.Lit (truth right)) t (Taken n m k like left right ns s) Fail (truth right) (value_Lit (truth right) c.tables t)
      (λ rest. stays_set n m (k + 1) (truth right) s t rest (omega (arith, ek)) took.stays)
      (λ rest. record {
        stays = stays_set n m (k + 1) (truth right) s t rest (omega (arith, ek)) took.stays;
        held = held_on (k + 1) (truth right) t rest ns (omega (arith, ek)) took.held;
        left_is = put_other t.ints (k + 1) (Some (truth right)) k (λ e. omega (arith, e)) ∙ took.left_is;
        right_is = put_at t.ints (k + 1) (Some (truth right));
      })

  -- one array's lengths are taken on
  takes_run : (left right : Bool) (from : List Int) (ns : List ℕ) (t : State) → k ≡ n + length like → AreOld n from → length like ≡ length from → Hold s from ns → Stays n m s t → Does c Q (length like + 2) (takes_on (locals n like) (int.Local k) (int.Local (k + 1)) left right from) t (Taken n m k like left right ns s) Fail
  takes_run left right from ns t ek old many hold f =
      does_weaken c Q Q (length from + 1 + 1) (length like + 2) (takes_on (locals n like) (int.Local k) (int.Local (k + 1)) left right from) t (Taken n m k like left right ns s) (Taken n m k like left right ns s) Fail Fail (λ u x. x) (λ u x. x) (λ kind u x. x) (omega (arith, many))
      (does_then c Q (length from + 1) 1 (copies (locals n like) from ++ stmt.Set (int.Local k) (expr.Lit (truth left)) ∷ []) (stmt.Set (int.Local (k + 1)) (expr.Lit (truth right)) ∷ []) t (TakenLeft n m k like left ns s) (Taken n m k like left right ns s) Fail
      (does_then c Q (length from) 1 (copies (locals n like) from) (stmt.Set (int.Local k) (expr.Lit (truth left)) ∷ []) t (Took n m n (locals n like) (wholes ns) s t) (TakenLeft n m k like left ns s) Fail
      (copies_run c n m s Fail n like from (wholes ns) t (omega arith) old many (as_ints s from ns hold) f)
      (λ u took. take_left left ns u ek record { since = took.since; here = took.since; held = took.held }))
      (λ u took. take_right left right ns u ek took))

module _ (c : Code) (n m k : ℕ) (left right : List Int) (s : State) (ms ns : List ℕ) where
  abbrev Post : State → Type 0
  Post = Conformed n m (locals n left) (int.Local k) (int.Local (k + 1)) ms ns s

  abbrev Fail : FaultKind → State → Type 0
  Fail = Unlike n m ms ns s

  abbrev Way : State → Type 0
  Way = Stays n m s

  -- both shapes are the same
  post_same : shape_eq ms ns ≡ true → length ms ≡ length ns → (t : State) → Taken n m k left true true ms s t → Post t
  post_same e many t h = record {
    stays = h.stays;
    shape = ms;
    common = common_is ms ns true (nat_eq (product ms) 1) (nat_eq (product ns) 1) many e refl refl;
    held = h.held;
    left = Kept (ap or_unset h.left_is) refl;
    right = Kept (ap or_unset h.right_is) (sym (shapes_same ms ns e));
  }

  -- the left array is extended
  post_right : shape_eq ms ns ≡ false → nat_eq (product ms) 1 ≡ true → length ms ≡ length ns → (t : State) → Taken n m k left false true ns s t → Post t
  post_right e one many t h = record {
    stays = h.stays;
    shape = ns;
    common = common_is ms ns false true (nat_eq (product ns) 1) many e one refl;
    held = h.held;
    left = Extended (ap or_unset h.left_is) (one_element ms one) (shapes_other ms ns e);
    right = Kept (ap or_unset h.right_is) refl;
  }

  -- the right one is
  post_left : shape_eq ms ns ≡ false → nat_eq (product ms) 1 ≡ false → nat_eq (product ns) 1 ≡ true → length ms ≡ length ns → (t : State) → Taken n m k left true false ms s t → Post t
  post_left e more one many t h = record {
    stays = h.stays;
    shape = ms;
    common = common_is ms ns false false true many e more one;
    held = h.held;
    left = Kept (ap or_unset h.left_is) refl;
    right = Extended (ap or_unset h.right_is) (one_element ns one) (λ same. shapes_other ms ns e (sym same));
  }

  module _ (ek : k ≡ n + length left) (old_left : AreOld n left) (old_right : AreOld n right) (many : length left ≡ length right) (hold_left : Hold s left ms) (hold_right : Hold s right ns) (shapes : length ms ≡ length ns) where
    abbrev as_left : Bool → Bool → List CStmt
    as_left i j = takes_on (locals n left) (int.Local k) (int.Local (k + 1)) i j left

    abbrev as_right : List CStmt
    as_right = takes_on (locals n left) (int.Local k) (int.Local (k + 1)) false true right

    abbrev otherwise : List CStmt
    otherwise = stmt.If (all_one right) (as_left true false) (Some (stmt.Fault fault.Length ∷ [])) ∷ []

    abbrev L : ℕ
    L = length left

    on : (t : State) (todo : Todo) → Way t → Way (settled (record t { todo = todo }))
    on t todo f = stays_settled n m s t todo f

    -- the right array has one element, or none of them has
    last_runs : shape_eq ms ns ≡ false → nat_eq (product ms) 1 ≡ false → (t : State) → Way t → Does c Way (L + 3) otherwise t Post Fail
    last_runs e more t f = by_test (nat_eq (product ns) 1) refl
      where
        test_is : (b : Bool) → nat_eq (product ns) 1 ≡ b → Is (truth (nat_eq (product ns) 1)) ≡ Is (truth b)
        test_is b h = ap (λ x. Is (truth x)) h

        here : Hold t right ns
        here = hold_stays n m s t right ns f old_right hold_right

        by_test : (b : Bool) → nat_eq (product ns) 1 ≡ b → Does c Way (L + 3) otherwise t Post Fail
        by_test true one =
            does_weaken c Way Way (L + 2 + 1) (L + 3) otherwise t Post Post Fail Fail (λ u x. x) (λ u x. x) (λ kind u x. x) (omega arith)
            (does_if c Way (L + 2) (all_one right) (as_left true false) (Some (stmt.Fault fault.Length ∷ [])) t Post Fail (pos 1) (all_one_value c.tables t right ns here ∙ test_is true one) refl (λ todo. on t todo f)
            (does_weaken c Way Way (L + 2) (L + 2) (as_left true false) (settled t) (Taken n m k left true false ms s) Post Fail Fail (λ u x. x) (post_left e more one shapes) (λ kind u x. x) (omega arith)
            (takes_run c n m k left s Fail true false left ms (settled t) ek old_left refl hold_left (on t t.todo f))))
        by_test false none =
            does_weaken c Way Way (0 + 1) (L + 3) otherwise t Post Post Fail Fail (λ u x. x) (λ u x. x) (λ kind u x. x) (omega arith)
            (does_else c Way 0 (all_one right) (as_left true false) (Some (stmt.Fault fault.Length ∷ [])) t Post Fail (pos 0) (all_one_value c.tables t right ns here ∙ test_is false none) refl (λ todo. on t todo f)
            (does_Fault c Way fault.Length (settled t) Post Fail (λ todo. record { stays = on t todo f; kind = refl; none = common_is ms ns false false false shapes e more none })))

    -- the shapes differ
    extended_runs : shape_eq ms ns ≡ false → (t : State) → Way t → Does c Way (L + 4) (extended_block (locals n left) (int.Local k) (int.Local (k + 1)) left right) t Post Fail
    extended_runs e t f = by_test (nat_eq (product ms) 1) refl
      where
        code : List CStmt
        code = extended_block (locals n left) (int.Local k) (int.Local (k + 1)) left right

        here : Hold t left ms
        here = hold_stays n m s t left ms f old_left hold_left

        by_test : (b : Bool) → nat_eq (product ms) 1 ≡ b → Does c Way (L + 4) code t Post Fail
        by_test true one =
            does_weaken c Way Way (L + 2 + 1) (L + 4) code t Post Post Fail Fail (λ u x. x) (λ u x. x) (λ kind u x. x) (omega arith)
            (does_if c Way (L + 2) (all_one left) as_right (Some otherwise) t Post Fail (pos 1) (all_one_value c.tables t left ms here ∙ ap (λ x. Is (truth x)) one) refl (λ todo. on t todo f)
            (does_weaken c Way Way (L + 2) (L + 2) as_right (settled t) (Taken n m k left false true ns s) Post Fail Fail (λ u x. x) (post_right e one shapes) (λ kind u x. x) (omega arith)
            (takes_run c n m k left s Fail false true right ns (settled t) ek old_right many hold_right (on t t.todo f))))
        by_test false more =
            does_weaken c Way Way (L + 3 + 1) (L + 4) code t Post Post Fail Fail (λ u x. x) (λ u x. x) (λ kind u x. x) (omega arith)
            (does_else c Way (L + 3) (all_one left) as_right (Some otherwise) t Post Fail (pos 0) (all_one_value c.tables t left ms here ∙ ap (λ x. Is (truth x)) more) refl (λ todo. on t todo f)
            (last_runs e more (settled t) (on t t.todo f)))

    pub conform_runs : Does c Way (L + 5) (conform_stmt (locals n left) (int.Local k) (int.Local (k + 1)) left right ∷ []) s Post Fail
    conform_runs = by_test (shape_eq ms ns) refl
      where
        code : List CStmt
        code = conform_stmt (locals n left) (int.Local k) (int.Local (k + 1)) left right ∷ []

        start : Way s
        start = stays_none n m s

        by_test : (b : Bool) → shape_eq ms ns ≡ b → Does c Way (L + 5) code s Post Fail
        by_test true e =
            does_weaken c Way Way (L + 2 + 1) (L + 5) code s Post Post Fail Fail (λ u x. x) (λ u x. x) (λ kind u x. x) (omega arith)
            (does_else c Way (L + 2) (differ left right) (extended_block (locals n left) (int.Local k) (int.Local (k + 1)) left right) (Some (as_left true true)) s Post Fail (pos 0)
            (differ_value c.tables s left right ms ns hold_left hold_right many ∙ ap (λ x. Is (truth (negated x))) e) refl (λ todo. on s todo start)
            (does_weaken c Way Way (L + 2) (L + 2) (as_left true true) (settled s) (Taken n m k left true true ms s) Post Fail Fail (λ u x. x) (post_same e shapes) (λ kind u x. x) (omega arith)
            (takes_run c n m k left s Fail true true left ms (settled s) ek old_left refl hold_left (on s s.todo start))))
        by_test false e =
            does_weaken c Way Way (L + 4 + 1) (L + 5) code s Post Post Fail Fail (λ u x. x) (λ u x. x) (λ kind u x. x) (omega arith)
            (does_if c Way (L + 4) (differ left right) (extended_block (locals n left) (int.Local k) (int.Local (k + 1)) left right) (Some (as_left true true)) s Post Fail (pos 1)
            (differ_value c.tables s left right ms ns hold_left hold_right many ∙ ap (λ x. Is (truth (negated x))) e) refl (λ todo. on s todo start)
            (extended_runs e (settled s) (on s s.todo start)))

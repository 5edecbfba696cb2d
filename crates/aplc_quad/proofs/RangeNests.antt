-- What the code that widens a range by a column does, and that it is well formed.
use Rattle.std.proofs.Common.{◌≡◌, ℕ, suc, ◌+◌, ◌-◌, ◌*◌, ◌<◌, ◌≤◌, List, [], ◌∷◌, ◌++◌, refl, sym, ap, ◌∙◌, subst, arith, ℤ, true}
use Rattle.std.proofs.Math.ListN as list
use Rattle.std.specs.Prelude.{Some, Ok, pos, int_lt, take, drop, slice_index_or}
use Rattle.aplc_cprof.specs.declared.syntax.Int.{Int}
use Rattle.aplc_cprof.specs.declared.syntax.Int.TheVariants as int
use Rattle.aplc_cprof.specs.declared.syntax.Op.TheVariants as op
use Rattle.aplc_cprof.specs.declared.syntax.CExpr.TheVariants as expr
use Rattle.aplc_cprof.specs.declared.syntax.CStmt.{CStmt}
use Rattle.aplc_cprof.specs.declared.syntax.CStmt.TheVariants as stmt
use Rattle.aplc_cprof.specs.Blocks.{Blocks}
use Rattle.aplc_cprof.specs.WellFormed.{Scope, is_int, is_stmt}
use Rattle.aplc_cprof.specs.Machine.{State, Code, Todo, Is, read_int, or_unset}
use Rattle.aplc_cprof.specs.Frames.{AreOld, IsFresh, AreGiven, Stays, SameSeen, number}
use Rattle.aplc_cprof.specs.Emitted.{less, counted_loop, loop_begun, LoopEnded, AreInts, IsFormed}
use Rattle.aplc_cprof.proofs.Paths.{Does, does_then, does_weaken}
use Rattle.aplc_cprof.proofs.Frames.{after_set, put_at, put_other, hold_append, stays_none, stays_less, stays_set, stays_settled}
use Rattle.aplc_cprof.proofs.Emitted.{fresh_declared, ints_append, ints_first, ints_last, var_formed, less_formed, one_stmt, stmts_append, set_formed, if_formed, grown_then}
use Rattle.aplc_cprof.proofs.Counting.{on_values_value, does_counted}
use Rattle.aplc_collect.specs.Elements.{Test, Steps, ReadsWithin, Computed, Failed, Emits}
use Rattle.aplc_collect.specs.ElementLaws.{value_is}
use Rattle.aplc_quad.specs.Printing.{with_code}
use Rattle.aplc_quad.specs.Printed.{NoFault, Adds}
use Rattle.aplc_quad.specs.Ranges.{smaller, larger, lowest, highest, set_if_less, widen_stmts, IsRange, IsApart, AreApart, with_range, Ranging, Widens, rows_in_all, ColumnItems, range_steps, RangeRuns}
use Rattle.aplc_quad.proofs.Slices.{rest_is}
use Rattle.aplc_quad.proofs.Builds.{with_code_names, code_grown, loop_adds}
use Rattle.aplc_quad.proofs.CodeRows.{ElementRuns, no_fault}
use Rattle.aplc_quad.proofs.RangeStates.{SetTo, set_when, set_low, set_high, range_same, range_then, low_is, high_is, apart_is, read_range, hold_range, seen_range}

-- ---- Names

pub apart_more : (n n' : ℕ) (least greatest x : Int) → n ≤ n' → IsApart n least greatest x → IsApart n' least greatest x
apart_more n n' least greatest (int.Local k) le h = let lt = h.0 in (omega (arith, le, lt), h.1, h.2)
apart_more n n' least greatest (int.Global k) le h = tt

pub are_apart_more : (n n' : ℕ) (least greatest : Int) (xs : List Int) → n ≤ n' → AreApart n least greatest xs → AreApart n' least greatest xs
are_apart_more n n' least greatest [] le h = tt
are_apart_more n n' least greatest (x ∷ xs) le h = (apart_more n n' least greatest x le h.0, are_apart_more n n' least greatest xs le h.1)

pub are_apart_append : (n : ℕ) (least greatest : Int) (xs ys : List Int) → AreApart n least greatest xs → AreApart n least greatest ys → AreApart n least greatest (xs ++ ys)
are_apart_append n least greatest [] ys h k = k
are_apart_append n least greatest (x ∷ xs) ys h k = (h.0, are_apart_append n least greatest xs ys h.1 k)

apart_old : (n : ℕ) (least greatest : Int) (xs : List Int) → AreApart n least greatest xs → AreOld n xs
apart_old n least greatest [] h = tt
apart_old n least greatest (int.Local k ∷ xs) h = (h.0.0, apart_old n least greatest xs h.1)
apart_old n least greatest (int.Global k ∷ xs) h = (tt, apart_old n least greatest xs h.1)

pub places_old : (n n' : ℕ) (least greatest : Int) (xs ys : List Int) (column : Int) → n ≤ n' → ys ≡ xs ++ column ∷ [] → AreApart n least greatest xs → IsApart n least greatest column → AreOld n' ys
places_old n n' least greatest xs ys column le e h k =
    apart_old n' least greatest ys (subst (λ (l : List Int). AreApart n' least greatest l) (sym e) (are_apart_more n n' least greatest (xs ++ column ∷ []) le (are_apart_append n least greatest xs (column ∷ []) h (k, tt))))

-- ---- Items

pub items_seen : (g : Scope) (test : Test) (steps : Steps) (tables : List (List ℤ)) (s t : State) (before ns : List ℕ) (j p : ℕ) (item : ℕ → ℤ) → ReadsWithin g test steps → SameSeen g s t → ColumnItems test tables s before ns j p item → ColumnItems test tables t before ns j p item
items_seen g test steps tables s t before [] j p item reads seen h = tt
items_seen g test steps tables s t before (n ∷ []) j p item reads seen h = reads.same tables s t seen (before ++ j ∷ []) ∙ h
items_seen g test steps tables s t before (l ∷ n ∷ ns) j p item reads seen h = λ i lt. items_seen g test steps tables s t (before ++ i ∷ []) (n ∷ ns) j (p + i * rows_in_all (n ∷ ns)) item reads seen (h i lt)

module _ (c : Code) where
  -- a range is widened by a number
  pub widen_does : (n m : ℕ) (least greatest v : Int) (low high : ℕ) (a b z : ℤ) (s : State) → least ≡ int.Local low → greatest ≡ int.Local high → (low ≡ high → ⊥) → low < n → high < n → s.ints low ≡ Some a → s.ints high ≡ Some b → read_int v s ≡ Is z → ((u : State) (y : ℤ) → SetTo low y s u → read_int v u ≡ Is z) → Widens c n m low high 4 (widen_stmts v least greatest) s (smaller a z) (larger b z)
  widen_does n m least greatest v low high a b z s el eh apart lt lt' ea eb is still =
      does_then c Q 2 2 (set_if_less v least least v ∷ []) (set_if_less greatest v greatest v ∷ []) s (SetTo low (smaller a z) s) (Stays n m (with_range low high (smaller a z) (larger b z) s)) NoFault
      (subst (λ (x : Int). Does c Q 2 (set_if_less v x x v ∷ []) s (SetTo low (smaller a z) s) NoFault) (sym el)
      (set_when c Q v (int.Local low) low v s a z (int_lt z a)
      (on_values_value c.tables s op.Less v (int.Local low) z a is (ap or_unset ea)) is ea
      (λ w u k. (w, b, set_low n m low high a b w s s u apart lt' none k))))
      (λ t k.
      let first = set_low n m low high a b (smaller a z) s s t apart lt' none k in
      subst (λ (x : Int). Does c Q 2 (set_if_less x v x v ∷ []) t (Stays n m (with_range low high (smaller a z) (larger b z) s)) NoFault) (sym eh)
      (does_weaken c Q Q 2 2 (set_if_less (int.Local high) v (int.Local high) v ∷ []) t (SetTo high (larger b z) t) (Stays n m (with_range low high (smaller a z) (larger b z) s)) NoFault NoFault (λ u q. q)
      (λ u q. set_high n m low high (smaller a z) b (larger b z) s t u apart lt first q)
      (λ kind u q. q) (omega arith)
      (set_when c Q (int.Local high) v high v t b z (int_lt b z)
      (on_values_value c.tables t op.Less (int.Local high) v b z (ap or_unset (high_is n m low high (smaller a z) b s t lt' first)) (still t (smaller a z) k))
      (still t (smaller a z) k) (high_is n m low high (smaller a z) b s t lt' first)
      (λ w u q. (smaller a z, w, set_high n m low high (smaller a z) b w s t u apart lt first q)))))
    where
      Q : State → Type 0
      Q = Ranging n m low high s

      none : Stays n m (with_range low high a b s) s
      none = range_same n m low high a b s s ea eb (stays_none n m s)

  module _ (test : Test) (steps : Steps) (g : Scope) (reads : ReadsWithin g test steps) where
    -- ---- One element

    pub one_widens : (n m : ℕ) (at : List Int) (length column least greatest v : Int) (em : List CStmt) → g.ints ≤ n → g.bufs ≤ m → IsRange g.ints n least greatest → n ≤ number v → v ≡ int.Local (number v) → ElementRuns c test steps n m (at ++ column ∷ []) v em → RangeRuns test steps at (length ∷ []) column least greatest c n m (em ++ widen_stmts v least greatest)
    one_widens n m at length column least greatest v em le leb range from ev runs s before [] j p k item held are short at_j is_low is_high most items = absurd are
    one_widens n m at length column least greatest v em le leb range from ev runs s before (x ∷ y ∷ ns) j p k item held are short at_j is_low is_high most items = absurd are.1
    one_widens n m at length column least greatest v em le leb range from ev runs s before (x ∷ []) j p k item held are short at_j is_low is_high most items =
        subst (λ q. Widens c n m low high (k + 4) (em ++ widen_stmts v least greatest) s (lowest item q) (highest item q)) (next p)
        (does_then c Q k 4 em (widen_stmts v least greatest) s (Computed n m s v (Ok (item p))) Post NoFault
        (does_weaken c (Stays n m s) Q (steps c.tables s) k em s (Computed n m s v (Ok (item p))) (Computed n m s v (Ok (item p))) (Failed n m s (Ok (item p))) NoFault
        (λ u st. (lowest item p, highest item p, range_same n m low high (lowest item p) (highest item p) s u is_low is_high st))
        (λ u d. d) (λ kind u d. no_fault (item p) kind d.given) most
        (runs s (before ++ j ∷ []) (Ok (item p)) (hold_append s at (column ∷ []) before (j ∷ []) held (at_j, tt)) items))
        (λ t d.
        let kept = range_same n m low high (lowest item p) (highest item p) s t is_low is_high d.stays in
        does_weaken c (Ranging n m low high t) Q 4 4 (widen_stmts v least greatest) t (Stays n m (with_range low high (smaller (lowest item p) (item p)) (larger (highest item p) (item p)) t)) Post NoFault NoFault
        (λ u q. (q.0, q.1, range_then n m low high (lowest item p) (highest item p) q.0 q.1 s t u kept q.2))
        (λ u q. range_then n m low high (lowest item p) (highest item p) (smaller (lowest item p) (item p)) (larger (highest item p) (item p)) s t u kept q)
        (λ kind u q. q) (omega arith)
        (widen_does n m least greatest v low high (lowest item p) (highest item p) (item p) t
        (range.is_low ∙ ap int.Local (ap number (sym range.is_low))) (range.is_high ∙ ap int.Local (ap number (sym range.is_high)))
        apart low_below high_below
        (low_is n m low high (lowest item p) (highest item p) s t low_below apart kept) (high_is n m low high (lowest item p) (highest item p) s t high_below kept)
        (is_item t d) (still t d))))
      where
        low : ℕ
        low = number least

        high : ℕ
        high = number greatest

        low_same : low ≡ range.low
        low_same = ap number range.is_low

        high_same : high ≡ range.high
        high_same = ap number range.is_high

        low_below : low < n
        low_below = omega (arith, low_same, range.low_below)

        high_below : high < n
        high_below = omega (arith, high_same, range.high_below)

        apart : low ≡ high → ⊥
        apart e = range.apart (sym low_same ∙ e ∙ high_same)

        Q : State → Type 0
        Q = Ranging n m low high s

        Post : State → Type 0
        Post = Stays n m (with_range low high (lowest item (suc p)) (highest item (suc p)) s)

        next : (p : ℕ) → suc p ≡ p + 1
        next p = omega arith

        is_item : (t : State) → Computed n m s v (Ok (item p)) t → read_int v t ≡ Is (item p)
        is_item t d = d.is ∙ ap Is (sym (value_is (item p) d.value d.given))

        still : (t : State) (d : Computed n m s v (Ok (item p)) t) (u : State) (y : ℤ) → SetTo low y t u → read_int v u ≡ Is (item p)
        still t d u y k =
            ap (λ (x : Int). read_int x u) ev
            ∙ ap or_unset (k.ints (number v) ∙ put_other t.ints low (Some y) (number v) (λ e. omega (arith, e, low_below, from)))
            ∙ ap (λ (x : Int). read_int x t) (sym ev) ∙ is_item t d

    -- ---- A loop

    record AtRow (n m low high : ℕ) (item : ℕ → ℤ) (p size : ℕ) (s : State) (i done : ℕ) (t : State) : Type 0 where
      pub stays : Stays n m (with_range low high (lowest item (p + done * size)) (highest item (p + done * size)) s) t
      pub index : t.ints n ≡ Some (pos i)

    pub axis_widens : (n m : ℕ) (at : List Int) (length y : Int) (ys : List Int) (column least greatest : Int) (body : List CStmt) → g.ints ≤ n → g.bufs ≤ m → IsRange g.ints n least greatest → AreApart n least greatest at → AreApart n least greatest (length ∷ y ∷ ys) → IsApart n least greatest column → RangeRuns test steps (at ++ int.Local n ∷ []) (y ∷ ys) column least greatest c (n + 1) m body → RangeRuns test steps at (length ∷ y ∷ ys) column least greatest c n m (counted_loop (int.Local n) length body)
    axis_widens n m at length y ys column least greatest body le leb range old_at old old_column inner s before [] j p k item held are short at_j is_low is_high most items = absurd are
    axis_widens n m at length y ys column least greatest body le leb range old_at old old_column inner s before (l ∷ []) j p k item held are short at_j is_low is_high most items = absurd are.1
    axis_widens n m at length y ys column least greatest body le leb range old_at old old_column inner s before (l ∷ w ∷ ns) j p k item held are short at_j is_low is_high most items =
        does_weaken c Q Q (l * (range_steps (w ∷ ns) k + 2) + 2) (l * (range_steps (w ∷ ns) k + 2) + 2) (counted_loop (int.Local n) length body) s (J l) (Stays n m (with_range low high (lowest item (p + l * size)) (highest item (p + l * size)) s)) NoFault NoFault (λ u q. q) (λ u q. q.stays) (λ kind u q. q) (omega arith)
        (does_counted c Q (range_steps (w ∷ ns) k) n length l body J After s NoFault record {
          short = short.0;
          steps_on = λ i t todo h. (record { stays = stays_settled n m (with_range low high (lowest item (p + i * size)) (highest item (p + i * size)) s) t todo h.stays; index = h.index }, (lowest item (p + i * size), highest item (p + i * size), stays_settled n m (with_range low high (lowest item (p + i * size)) (highest item (p + i * size)) s) t todo h.stays));
          counter = λ i t h. h.index;
          bound = λ i t h. read_range n m least greatest (lowest item (p + i * size)) (highest item (p + i * size)) s t length old.0 h.stays ∙ are.0;
          starts = λ rest. (record { stays = first rest; index = put_at s.ints n (Some (pos 0)) }, (lowest item (p + 0 * size), highest item (p + 0 * size), first rest));
          turn = turn;
          kept = λ i u lt h. h.index;
          next = λ i u lt h rest.
              let st = stays_set n m n (pos (i + 1)) (with_range low high (lowest item (p + suc i * size)) (highest item (p + suc i * size)) s) u rest (omega arith) h.stays in
              (record { stays = st; index = put_at u.ints n (Some (pos (i + 1))) ∙ ap (λ x. Some (pos x)) (next_is i) }, (lowest item (p + suc i * size), highest item (p + suc i * size), st));
        })
      where
        low : ℕ
        low = number least

        high : ℕ
        high = number greatest

        low_same : low ≡ range.low
        low_same = ap number range.is_low

        high_same : high ≡ range.high
        high_same = ap number range.is_high

        low_below : low < n
        low_below = omega (arith, low_same, range.low_below)

        high_below : high < n
        high_below = omega (arith, high_same, range.high_below)

        apart : low ≡ high → ⊥
        apart e = range.apart (sym low_same ∙ e ∙ high_same)

        size : ℕ
        size = rows_in_all (w ∷ ns)

        Q : State → Type 0
        Q = Ranging n m low high s

        J : ℕ → State → Type 0
        J i = AtRow n m low high item p size s i i

        After : ℕ → State → Type 0
        After i = AtRow n m low high item p size s i (suc i)

        next_is : (i : ℕ) → i + 1 ≡ suc i
        next_is i = omega arith

        no_rows : p ≡ p + 0 * size
        no_rows = omega arith

        first : (rest : Todo) → Stays n m (with_range low high (lowest item (p + 0 * size)) (highest item (p + 0 * size)) s) (after_set n (pos 0) rest s)
        first rest =
            subst (λ q. Stays n m (with_range low high (lowest item q) (highest item q) s) (after_set n (pos 0) rest s)) no_rows
            (range_same n m low high (lowest item p) (highest item p) s (after_set n (pos 0) rest s) is_low is_high (stays_set n m n (pos 0) s s rest (omega arith) (stays_none n m s)))

        turn : (i : ℕ) (t : State) → i < l → J i t → Does c Q (range_steps (w ∷ ns) k) body t (After i) NoFault
        turn i t lt h =
            let a = lowest item (p + i * size) in
            let b = highest item (p + i * size) in
            let seen = seen_range g n m low high a b s t le leb (omega (arith, low_same, range.low_from)) (omega (arith, high_same, range.high_from)) h.stays in
            let as_many = reads.same_steps c.tables s t seen in
            let further : p + i * size + size ≡ p + suc i * size = omega arith in
            does_weaken c (Ranging (n + 1) m low high t) Q (range_steps (w ∷ ns) k) (range_steps (w ∷ ns) k) body t (Stays (n + 1) m (with_range low high (lowest item (p + i * size + size)) (highest item (p + i * size + size)) t)) (After i) NoFault NoFault
            (λ u q. (q.0, q.1, range_then n m low high a b q.0 q.1 s t u h.stays (stays_less n (n + 1) m m (with_range low high q.0 q.1 t) u (omega arith) (omega arith) q.2)))
            (λ u q. record {
              stays = subst (λ r. Stays n m (with_range low high (lowest item r) (highest item r) s) u) further (range_then n m low high a b (lowest item (p + i * size + size)) (highest item (p + i * size + size)) s t u h.stays (stays_less n (n + 1) m m (with_range low high (lowest item (p + i * size + size)) (highest item (p + i * size + size)) t) u (omega arith) (omega arith) q));
              index = apart_is (n + 1) m low high (lowest item (p + i * size + size)) (highest item (p + i * size + size)) t u n (omega arith) (λ e. omega (arith, e, low_below)) (λ e. omega (arith, e, high_below)) q ∙ h.index;
            })
            (λ kind u q. q) (omega arith)
            (inner t (before ++ i ∷ []) (w ∷ ns) j (p + i * size) k item
            (hold_append t at (int.Local n ∷ []) before (i ∷ []) (hold_range n m least greatest a b s t at before old_at h.stays held) (ap or_unset h.index, tt))
            (hold_range n m least greatest a b s t (y ∷ ys) (w ∷ ns) old.1 h.stays are.1)
            short.1 (read_range n m least greatest a b s t column old_column h.stays ∙ at_j)
            (low_is n m low high a b s t low_below apart h.stays) (high_is n m low high a b s t high_below h.stays)
            (omega (arith, as_many, most))
            (items_seen g test steps c.tables s t (before ++ i ∷ []) (w ∷ ns) j (p + i * size) item reads seen (items i lt)))

-- ---- Well formed

fresh_is : (n m : ℕ) (v : Int) → IsFresh n m v → v ≡ int.Local (number v)
fresh_is n m (int.Local k) h = refl
fresh_is n m (int.Global k) h = absurd h

fresh_from : (n m : ℕ) (v : Int) → IsFresh n m v → n ≤ number v
fresh_from n m (int.Local k) h = h.0
fresh_from n m (int.Global k) h = absurd h

pub set_if_less_formed : (sc : Scope) (x y target v : Int) (room : ℕ) → 1 ≤ room → is_int sc x ≡ true → is_int sc y ≡ true → is_int sc target ≡ true → is_int sc v ≡ true → is_stmt sc (set_if_less x y target v) (Some room) ≡ true
set_if_less_formed sc x y target v room le ix iy it iv =
    if_formed sc 0 room (less x y) (stmt.Set target (expr.Var v) ∷ []) (omega (arith, le)) (less_formed sc x y room le ix iy)
    (λ r kr. one_stmt sc (Some r) (stmt.Set target (expr.Var v)) [] (set_formed sc (Some r) target (expr.Var v) it (var_formed sc v iv r)) refl)

-- ---- Built

pub one_built : (test : Test) (steps : Steps) (g : Scope) (depth : ℕ) (b0 b1 b2 : Blocks) (at at1 : List Int) (length column least greatest v : Int) → ReadsWithin g test steps → AreGiven g b0 → IsRange g.ints b0.ints least greatest → at1 ≡ at ++ column ∷ [] → Emits test steps g depth b0 b1 at1 v → b2 ≡ with_code (widen_stmts v least greatest) b1 → Adds g (1 + depth) b0 b2 (least ∷ greatest ∷ column ∷ at ++ length ∷ []) [] (RangeRuns test steps at (length ∷ []) column least greatest)
one_built test steps g depth b0 b1 b2 at at1 length column least greatest v reads given range ea em e2 = record {
  code = em.code ++ widen_stmts v least greatest;
  grown = grown_then em.code (widen_stmts v least greatest) b0 b1 b2 em.grown (code_grown (widen_stmts v least greatest) b1 b2 e2);
  formed = formed_is;
  runs = λ c. one_widens c test steps g reads b0.ints b0.bufs at length column least greatest v em.code given.ints given.bufs range (fresh_from b0.ints b1.ints v em.fresh) (fresh_is b0.ints b1.ints v em.fresh)
      (subst (λ (l : List Int). ElementRuns c test steps b0.ints b0.bufs l v em.code) ea (em.runs c));
}
  where
    names2 : (b2.ints ≡ b1.ints) × (b2.bufs ≡ b1.bufs)
    names2 = with_code_names (widen_stmts v least greatest) b1 b2 e2

    formed_is : IsFormed g (least ∷ greatest ∷ column ∷ at ++ length ∷ []) [] b2 (1 + depth) (em.code ++ widen_stmts v least greatest)
    formed_is sc room within are bufs more more_bufs le =
        let il = are.0 in
        let ih = are.1.0 in
        let ic = are.1.1.0 in
        let rest = are.1.1.1 in
        let iv = fresh_declared sc b0.ints b1.ints v em.fresh (omega (arith, names2.0, more)) in
        let places = ints_append sc at (column ∷ []) (ints_first sc at (length ∷ []) rest) (ic, tt) in
        stmts_append sc (Some room) em.code (widen_stmts v least greatest)
        (em.formed sc room within (subst (λ (l : List Int). AreInts sc l) (sym ea) places) tt (omega (arith, names2.0, more)) (omega (arith, names2.1, more_bufs)) (omega (arith, le)))
        (one_stmt sc (Some room) (set_if_less v least least v) (set_if_less greatest v greatest v ∷ []) (set_if_less_formed sc v least least v room (omega (arith, le)) iv il il iv)
        (one_stmt sc (Some room) (set_if_less greatest v greatest v) [] (set_if_less_formed sc greatest v greatest v room (omega (arith, le)) ih iv ih iv) refl))

pub range_more : (g n n' : ℕ) (least greatest : Int) → n ≤ n' → IsRange g n least greatest → IsRange g n' least greatest
range_more g n n' least greatest le h = record { low = h.low; high = h.high; is_low = h.is_low; is_high = h.is_high; low_from = h.low_from; high_from = h.high_from; low_below = let l = h.low_below in omega (arith, le, l); high_below = let l = h.high_below in omega (arith, le, l); apart = h.apart }

axis_built : (test : Test) (steps : Steps) (g : Scope) (depth : ℕ) (b0 b1 b2 b3 : Blocks) (at at1 : List Int) (length y : Int) (ys : List Int) (column least greatest i : Int) → ReadsWithin g test steps → AreGiven g b0 → IsRange g.ints b0.ints least greatest → AreApart b0.ints least greatest at → AreApart b0.ints least greatest (length ∷ y ∷ ys) → IsApart b0.ints least greatest column → i ≡ int.Local b0.ints → b1 ≡ loop_begun b0 → at1 ≡ at ++ i ∷ [] → Adds g (depth + list.length (y ∷ ys)) b1 b2 (least ∷ greatest ∷ column ∷ at1 ++ y ∷ ys) [] (RangeRuns test steps at1 (y ∷ ys) column least greatest) → LoopEnded i length b2 b3 → Adds g (depth + list.length (length ∷ y ∷ ys)) b0 b3 (least ∷ greatest ∷ column ∷ at ++ length ∷ y ∷ ys) [] (RangeRuns test steps at (length ∷ y ∷ ys) column least greatest)
axis_built test steps g depth b0 b1 b2 b3 at at1 length y ys column least greatest i reads given range old_at old old_column ei e1 ea nest ended =
    loop_adds g (depth + list.length (y ∷ ys)) (depth + list.length (length ∷ y ∷ ys)) b0 b1 b2 b3 i length (least ∷ greatest ∷ column ∷ at1 ++ y ∷ ys) (least ∷ greatest ∷ column ∷ at ++ length ∷ y ∷ ys) [] (RangeRuns test steps at1 (y ∷ ys) column least greatest) (RangeRuns test steps at (length ∷ y ∷ ys) column least greatest) ei e1 nest ended (omega arith) (omega arith)
    (λ sc counter are.
    let of_at = ints_first sc at (length ∷ y ∷ ys) are.1.1.1 in
    let lengths = ints_last sc at (length ∷ y ∷ ys) are.1.1.1 in
    ((are.0, (are.1.0, (are.1.1.0, subst (λ (l : List Int). AreInts sc (l ++ y ∷ ys)) (sym ea) (ints_append sc (at ++ i ∷ []) (y ∷ ys) (ints_append sc at (i ∷ []) of_at (counter, tt)) lengths.1)))), lengths.0))
    (λ c code h. axis_widens c test steps g reads b0.ints b0.bufs at length y ys column least greatest code given.ints given.bufs range old_at old old_column
    (subst (λ (x : Int). RangeRuns test steps (at ++ x ∷ []) (y ∷ ys) column least greatest c (b0.ints + 1) b0.bufs code) ei (subst (λ (l : List Int). RangeRuns test steps l (y ∷ ys) column least greatest c (b0.ints + 1) b0.bufs code) ea h)))

pub range_built : (test : Test) (steps : Steps) (g : Scope) (depth : ℕ) (b0 b1 b2 b3 : Blocks) (at at1 lengths : List Int) (column least greatest i : Int) → 2 ≤ list.length lengths → ReadsWithin g test steps → AreGiven g b0 → IsRange g.ints b0.ints least greatest → AreApart b0.ints least greatest at → AreApart b0.ints least greatest lengths → IsApart b0.ints least greatest column → i ≡ int.Local b0.ints → b1 ≡ loop_begun b0 → at1 ≡ at ++ i ∷ [] → Adds g (depth + list.length (take (list.length lengths - 1) (drop 1 lengths))) b1 b2 (least ∷ greatest ∷ column ∷ at1 ++ take (list.length lengths - 1) (drop 1 lengths)) [] (RangeRuns test steps at1 (take (list.length lengths - 1) (drop 1 lengths)) column least greatest) → LoopEnded i (slice_index_or lengths 0 (int.Local 0)) b2 b3 → Adds g (depth + list.length lengths) b0 b3 (least ∷ greatest ∷ column ∷ at ++ lengths) [] (RangeRuns test steps at lengths column least greatest)
range_built test steps g depth b0 b1 b2 b3 at at1 [] column least greatest i ranked reads given range old_at old old_column ei e1 ea nest ended = absurd (omega (arith, ranked))
range_built test steps g depth b0 b1 b2 b3 at at1 (x ∷ []) column least greatest i ranked reads given range old_at old old_column ei e1 ea nest ended = absurd (omega (arith, ranked))
range_built test steps g depth b0 b1 b2 b3 at at1 (length ∷ y ∷ ys) column least greatest i ranked reads given range old_at old old_column ei e1 ea nest ended =
    axis_built test steps g depth b0 b1 b2 b3 at at1 length y ys column least greatest i reads given range old_at old old_column ei e1 ea
    (subst (λ (l : List Int). Adds g (depth + list.length l) b1 b2 (least ∷ greatest ∷ column ∷ at1 ++ l) [] (RangeRuns test steps at1 l column least greatest)) (rest_is length (y ∷ ys)) nest) ended

-- Loop nests that fill a buffer.
use Rattle.std.proofs.Common.{◌≡◌, ℕ, suc, ◌+◌, ◌-◌, ◌*◌, ◌<◌, ◌≤◌, List, [], ◌∷◌, ◌++◌, length, refl, sym, ap, ◌∙◌, subst, arith, append_assoc, append-nil, ℤ}
use Rattle.std.specs.Prelude.{Option, Some, Ok, pos, ◌^◌, slice_get, slice_set}
use Rattle.std.proofs.lemmas.List.{length-set}
use Rattle.std.proofs.Math.Seq.{sets}
use Rattle.aplc_scalar.specs.declared.kind.FaultKind.{FaultKind}
use Rattle.aplc_scalar.specs.Scalar.{Given}
use Rattle.aplc_arr.specs.Arrays.{product}
use Rattle.aplc_arr.specs.Delayed.{all_given}
use Rattle.aplc_cprof.specs.declared.syntax.Int.{Int}
use Rattle.aplc_cprof.specs.declared.syntax.Int.TheVariants as int
use Rattle.aplc_cprof.specs.declared.syntax.Buf.{Buf}
use Rattle.aplc_cprof.specs.declared.syntax.CExpr.TheVariants as expr
use Rattle.aplc_cprof.specs.declared.syntax.CStmt.{CStmt}
use Rattle.aplc_cprof.specs.declared.syntax.CStmt.TheVariants as stmt
use Rattle.aplc_cprof.specs.WellFormed.{Scope}
use Rattle.aplc_cprof.specs.Machine.{State, Code, Todo, Is, read_int, or_unset, named_buf, settled}
use Rattle.aplc_cprof.specs.Frames.{IsOldBuf, AreOldBut, Hold, Stays, with_buffer, Filling}
use Rattle.aplc_cprof.specs.Emitted.{plus_one, counted_loop}
use Rattle.aplc_cprof.proofs.Values.{value_Var}
use Rattle.aplc_cprof.proofs.Paths.{Does, does_then, does_weaken, does_SetCell}
use Rattle.aplc_cprof.proofs.Frames.{after_set, put_at, put_other, set_same, filling_none, filling_then, filling_less, filling_settled, stays_filling, read_filling, hold_filling, hold_append, filled_cells, named_around, seen_filling, seen_whatever}
use Rattle.aplc_cprof.proofs.Counting.{plus_one_value, Turned, does_set, does_counted}
use Rattle.aplc_collect.specs.Elements.{Test, Steps, ReadsWithin, Computed, Failed, Yields}
use Rattle.aplc_fill.specs.Nests.{joined, row_major, StandsBehind, nest_steps, Filled, FillFails, NestRuns}
use Rattle.aplc_fill.proofs.Lists.{values_joined, fault_behind, fault_of_all, length-values, length-joined, length-row_major, sets-append}

-- one row more lies within the array
rows_fit : (i n m p size : ℕ) → i < n → p + n * m ≤ size → p + i * m + m ≤ size
rows_fit i n m p size lt le =
    let d = n - suc i in
    let e : n ≡ suc i + d = omega (arith, lt) in
    let le' : p + (suc i + d) * m ≤ size = subst (λ z. p + z * m ≤ size) e le in
    omega (arith, le')

-- the element is written, and the place goes on
abbrev pub writes : Buf → ℕ → Int → List CStmt
writes into q v = stmt.SetCell into (expr.Var (int.Local q)) (expr.Var v) ∷ stmt.Set (int.Local q) (plus_one (int.Local q)) ∷ []

-- the place has gone on
abbrev moved_place : (n m q b size v : ℕ) (s u : State) (rest : Todo) → Filling n m q b size s u → Filling n m q b size s (after_set q (pos v) rest u)
moved_place n m q b size v s u rest f = record {
  ints = λ x lt ne. put_other u.ints q (Some (pos v)) x (λ e. ne (sym e)) ∙ f.ints x lt ne;
  bufs = f.bufs;
  around = f.around;
  cells = f.cells;
  as_many = f.as_many;
  heap = f.heap;
}

-- the counter n has gone on
abbrev moved_counter : (n m q b size v : ℕ) (s u : State) (rest : Todo) → Filling n m q b size s u → Filling n m q b size s (after_set n (pos v) rest u)
moved_counter n m q b size v s u rest f = record {
  ints = λ x lt ne. put_other u.ints n (Some (pos v)) x (λ e. omega (arith, lt, e)) ∙ f.ints x lt ne;
  bufs = f.bufs;
  around = f.around;
  cells = f.cells;
  as_many = f.as_many;
  heap = f.heap;
}

module _ (c : Code) where
  -- ---- The innermost part

  -- the cell is written
  record Wrote (n m q b p size : ℕ) (cells : List ℤ) (x : ℤ) (s t : State) : Type 0 where
    pub stays : Filling n m q b size s t
    pub place : t.ints q ≡ Some (pos p)
    pub as_written : stays.cells ≡ slice_set cells p x

  write_does : (n m q b p size : ℕ) (into : Buf) (v : Int) (cells : List ℤ) (item : List ℕ → Given) (s t : State) → q < n → IsOldBuf m into → s.ints q ≡ Some (pos p) → named_buf into s ≡ Some b → slice_get s.heap b ≡ Some (Some cells) → length cells ≡ size → p + 1 ≤ size → size < 2 ^ 31 → Computed n m s v (item []) t → Does c (Filling n m q b size s) 2 (writes into q v) t (Filled n m q b p size cells [] item s) (FillFails n m q b size [] item s)
  write_does n m q b p size into v cells item s t old old_buf at_q named is sized room small done =
      let Q = Filling n m q b size s in
      let x = done.value in
      let st = done.stays in
      let place_t : t.ints q ≡ Some (pos p) = st.ints q old ∙ at_q in
      let named_t : named_buf into t ≡ Some b = named_around m s t into st.bufs st.around old_buf ∙ named in
      let is_t : slice_get t.heap b ≡ Some (Some cells) = ap (λ (l : List (Option (List ℤ))). slice_get l b) st.heap ∙ is in
      does_then c Q 1 1 (stmt.SetCell into (expr.Var (int.Local q)) (expr.Var v) ∷ []) (stmt.Set (int.Local q) (plus_one (int.Local q)) ∷ []) t (Wrote n m q b p size cells x s) (Filled n m q b p size cells [] item s) (FillFails n m q b size [] item s)
      (does_SetCell c Q into (expr.Var (int.Local q)) (expr.Var v) t (Wrote n m q b p size cells x s) (FillFails n m q b size [] item s) b cells p x
      (value_Var (int.Local q) c.tables t ∙ ap or_unset place_t) (value_Var v c.tables t ∙ done.is) named_t is_t (omega (arith, sized, room))
      wrote
      (λ rest. record { stays = wrote rest; place = place_t; as_written = refl }))
      (λ u w. does_set c Q q (plus_one (int.Local q)) u (Filled n m q b p size cells [] item s) (FillFails n m q b size [] item s) (pos (p + 1))
      (plus_one_value c.tables u (int.Local q) p (ap or_unset w.place) (omega (arith, room, small)))
      (λ rest. moved_place n m q b size (p + 1) s u rest w.stays)
      (λ rest. record { stays = moved_place n m q b size (p + 1) s u rest w.stays; place = put_at u.ints q (Some (pos (p + 1))); values = x ∷ []; given = ap (λ r. all_given (r ∷ [])) done.given; as_written = w.as_written }))
    where
      wrote : (rest : Todo) → Filling n m q b size s (settled (record t { todo = rest; heap = slice_set t.heap b (Some (slice_set cells p done.value)) }))
      wrote rest = record {
        ints = λ x lt ne. done.stays.ints x lt;
        bufs = done.stays.bufs;
        around = done.stays.around;
        cells = slice_set cells p done.value;
        as_many = length-set cells p done.value ∙ sized;
        heap = ap (λ (l : List (Option (List ℤ))). slice_set l b (Some (slice_set cells p done.value))) done.stays.heap;
      }

  module _ (test : Test) (steps : Steps) (g : Scope) (reads : ReadsWithin g test steps) where
    -- what the code of an element does
    abbrev pub ElementRuns : ℕ → ℕ → List Int → Int → List CStmt → Type 0
    ElementRuns n m at v code = (s : State) (is : List ℕ) (r : Given) → Hold s at is → test c.tables s is ≡ Some r → Yields c n m (steps c.tables s) code s v r

    -- one element
    pub nest_none : (n m q : ℕ) (at : List Int) (into : Buf) (v : Int) (code : List CStmt) → q < n → g.ints ≤ n → g.ints ≤ q → g.bufs ≤ m → IsOldBuf m into → ElementRuns n m at v code → NestRuns c test steps n m q at [] into (code ++ writes into q v)
    nest_none n m q at into v code old le leq leb old_buf runs s before [] b p size cells k item hold held short at_q named is sized room small stands =
        let Q = Filling n m q b size s in
        let f : Filling n m q b size s s = subst (λ z. Filling n m q b z s s) sized (filling_none n m q b cells s is) in
        let seen = seen_filling g n m q b size s s le leq leb f in
        let test_is : test c.tables s before ≡ Some (item []) =
        reads.same c.tables (with_buffer b f.cells s) s seen before ∙ ap (λ is. test c.tables (with_buffer b f.cells s) is) (sym (append-nil before)) ∙ stands.items f.cells f.as_many [] tt in
        let steps_are : steps c.tables s ≡ steps c.tables (with_buffer b f.cells s) = reads.same_steps c.tables (with_buffer b f.cells s) s seen in
        let steps_most : steps c.tables (with_buffer b f.cells s) ≤ k = stands.takes f.cells f.as_many in
        does_then c Q k 2 code (writes into q v) s (Computed n m s v (item [])) (Filled n m q b p size cells [] item s) (FillFails n m q b size [] item s)
        (does_weaken c (Stays n m s) Q (steps c.tables s) k code s (Computed n m s v (item [])) (Computed n m s v (item [])) (Failed n m s (item [])) (FillFails n m q b size [] item s)
        (λ u st. stays_filling n n m m q b size s s u (omega arith) (omega arith) f st)
        (λ u d. d)
        (λ kind u d. record { stays = stays_filling n n m m q b size s s u (omega arith) (omega arith) f d.stays; given = ap (λ r. all_given (r ∷ [])) d.given })
        (omega (arith, steps_are, steps_most))
        (runs s before (item []) hold test_is))
        (λ t done. write_does n m q b p size into v cells item s t old old_buf at_q named is sized (omega (arith, room)) small done)
    nest_none n m q at into v code old le leq leb old_buf runs s before (x ∷ ns) b p size cells k item hold held short at_q named is sized room small stands = absurd held

    -- the counter holds i, and so many rows of P elements are written
    record Rows (n m q b p size P : ℕ) (cells : List ℤ) (rows : ℕ → List Given) (s : State) (i done : ℕ) (t : State) : Type 0 where
      pub stays : Filling n m q b size s t
      pub index : t.ints n ≡ Some (pos i)
      pub place : t.ints q ≡ Some (pos (p + done * P))
      pub values : List ℤ
      pub given : all_given (joined rows done) ≡ Ok values
      pub as_written : stays.cells ≡ sets cells p values

    -- a loop over an axis round a nest over the axes behind it
    pub nest_axis : (n m q : ℕ) (at : List Int) (length_of : Int) (lengths : List Int) (into : Buf) (body : List CStmt) → q < n → g.ints ≤ n → g.ints ≤ q → g.bufs ≤ m → IsOldBuf m into → AreOldBut n q at → AreOldBut n q (length_of ∷ lengths) → NestRuns c test steps (n + 1) m q (at ++ int.Local n ∷ []) lengths into body → NestRuns c test steps n m q at (length_of ∷ lengths) into (counted_loop (int.Local n) length_of body)
    nest_axis n m q at length_of lengths into body old le leq leb old_buf kept_at kept_lengths inner s before [] b p size cells k item hold held short at_q named is sized room small stands = absurd held
    nest_axis n m q at length_of lengths into body old le leq leb old_buf kept_at kept_lengths inner s before (len ∷ ns) b p size cells k item hold held short at_q named is sized room small stands =
        does_weaken c Q Q (nest_steps (len ∷ ns) k) (nest_steps (len ∷ ns) k) (counted_loop (int.Local n) length_of body) s (J len) Post Fail Fail (λ u x. x)
        (λ u h. record { stays = h.stays; place = h.place; values = h.values; given = h.given; as_written = h.as_written })
        (λ kind u x. x) (omega arith)
        (does_counted c Q (nest_steps ns k) n length_of len body J After s Fail record {
          short = short.0;
          steps_on = λ j t todo h. (on_rows j j t todo h, filling_settled n m q b size s t todo h.stays);
          counter = λ j t h. h.index;
          bound = λ j t h. read_filling n m q b size s t length_of h.stays kept_lengths.0 ∙ held.0;
          starts = λ rest. (first_rows rest, moved_counter n m q b size 0 s s rest none);
          turn = turn;
          kept = λ j u lt h. h.index;
          next = λ j u lt h rest. (next_rows j u h rest, moved_counter n m q b size (j + 1) s u rest h.stays);
        })
      where
        P : ℕ
        P = product ns

        rows : ℕ → List Given
        rows i = row_major ns (λ is. item (i ∷ is))

        Q : State → Type 0
        Q = Filling n m q b size s

        Post : State → Type 0
        Post = Filled n m q b p size cells (len ∷ ns) item s

        Fail : FaultKind → State → Type 0
        Fail = FillFails n m q b size (len ∷ ns) item s

        J : ℕ → State → Type 0
        J j = Rows n m q b p size P cells rows s j j

        After : ℕ → State → Type 0
        After j = Rows n m q b p size P cells rows s j (suc j)

        none : Filling n m q b size s s
        none = record { ints = λ x lt ne. refl; bufs = λ x lt. refl; around = refl; cells = cells; as_many = sized; heap = set_same s.heap b (Some cells) is }

        none_cells : none.cells ≡ sets cells p []
        none_cells = refl

        zero_rows : p ≡ p + 0 * P
        zero_rows = omega arith

        on_rows : (i done : ℕ) (t : State) (todo : Todo) → Rows n m q b p size P cells rows s i done t → Rows n m q b p size P cells rows s i done (settled (record t { todo = todo }))
        on_rows i done t todo h = record { stays = filling_settled n m q b size s t todo h.stays; index = h.index; place = h.place; values = h.values; given = h.given; as_written = h.as_written }

        first_rows : (rest : Todo) → J 0 (after_set n (pos 0) rest s)
        first_rows rest = record {
          stays = moved_counter n m q b size 0 s s rest none;
          index = put_at s.ints n (Some (pos 0));
          place = put_other s.ints n (Some (pos 0)) q (λ e. omega (arith, old, e)) ∙ at_q ∙ ap (λ z. Some (pos z)) zero_rows;
          values = [];
          given = refl;
          as_written = none_cells;
        }

        next_rows : (j : ℕ) (u : State) → After j u → (rest : Todo) → J (suc j) (after_set n (pos (j + 1)) rest u)
        next_rows j u h rest =
            let next : j + 1 ≡ suc j = omega arith in
            record {
              stays = moved_counter n m q b size (j + 1) s u rest h.stays;
              index = put_at u.ints n (Some (pos (j + 1))) ∙ ap (λ z. Some (pos z)) next;
              place = put_other u.ints n (Some (pos (j + 1))) q (λ e. omega (arith, old, e)) ∙ h.place;
              values = h.values;
              given = h.given;
              as_written = h.as_written;
            }

        on_from : (t u : State) → Filling n m q b size s t → Filling (n + 1) m q b size t u → Filling n m q b size s u
        on_from t u f k = filling_then n m q b size s t u f (filling_less n (n + 1) m m q b size t u (omega arith) (omega arith) k)

        -- the rows so far, and one more
        gone_on : (j : ℕ) (t : State) (h : J j t) (u : State) → Filled (n + 1) m q b (p + j * P) size h.stays.cells ns (λ is. item (j ∷ is)) t u → After j u
        gone_on j t h u f =
            let moved_on : Filling n m q b size s u = filling_then n m q b size s t u h.stays (filling_less n (n + 1) m m q b size t u (omega arith) (omega arith) f.stays) in
            let many : length h.values ≡ j * P = length-values (joined rows j) h.values h.given ∙ length-joined rows P j (λ i. length-row_major ns (λ is. item (i ∷ is))) in
            let place_is : p + j * P + P ≡ p + suc j * P = omega arith in
            record {
              stays = moved_on;
              index = f.stays.ints n (omega arith) (λ e. omega (arith, old, e)) ∙ h.index;
              place = f.place ∙ ap (λ z. Some (pos z)) place_is;
              values = h.values ++ f.values;
              given = values_joined (joined rows j) (rows j) h.values f.values h.given f.given;
              as_written = f.as_written ∙ ap (λ l. sets l (p + j * P) f.values) h.as_written ∙ ap (λ z. sets (sets cells p h.values) (p + z) f.values) (sym many) ∙ sym (sets-append cells h.values f.values p);
            }

        stands_on : (t : State) (i : ℕ) → i < len → Filling n m q b size s t → StandsBehind test steps c.tables t b size (before ++ i ∷ []) ns k (λ is. item (i ∷ is))
        stands_on t i lt f = record {
          takes = λ other many.
              let same = reads.same_steps c.tables (with_buffer b other s) (with_buffer b other t) (seen_whatever g n m q b size s t other le leq leb f) in
              let most = stands.takes other many in
              omega (arith, same, most);
          items = λ other many is in_shape.
              reads.same c.tables (with_buffer b other s) (with_buffer b other t) (seen_whatever g n m q b size s t other le leq leb f) ((before ++ i ∷ []) ++ is)
              ∙ ap (λ l. test c.tables (with_buffer b other s) l) (append_assoc before (i ∷ []) is)
              ∙ stands.items other many (i ∷ is) (lt, in_shape);
        }

        turn : (j : ℕ) (t : State) → j < len → J j t → Does c Q (nest_steps ns k) body t (After j) Fail
        turn j t lt h =
            does_weaken c (Filling (n + 1) m q b size t) Q (nest_steps ns k) (nest_steps ns k) body t (Filled (n + 1) m q b (p + j * P) size h.stays.cells ns (λ is. item (j ∷ is)) t) (After j) (FillFails (n + 1) m q b size ns (λ is. item (j ∷ is)) t) Fail
            (λ u f. on_from t u h.stays f)
            (λ u f. gone_on j t h u f)
            (λ kind u f. record {
              stays = on_from t u h.stays f.stays;
              given = fault_of_all rows (suc j) (len - suc j) len kind (omega (arith, lt)) (fault_behind (joined rows j) (rows j) h.values kind h.given f.given);
            })
            (omega arith)
            (inner t (before ++ j ∷ []) ns b (p + j * P) size h.stays.cells k (λ is. item (j ∷ is))
            (hold_append t at (int.Local n ∷ []) before (j ∷ []) (hold_filling n m q b size s t at before h.stays kept_at hold) (ap or_unset h.index, tt))
            (hold_filling n m q b size s t lengths ns h.stays kept_lengths.1 held.1)
            short.1 h.place
            (named_around m s t into h.stays.bufs h.stays.around old_buf ∙ named)
            (filled_cells n m q b size cells s t h.stays is)
            h.stays.as_many (rows_fit j len P p size lt room) small
            (stands_on t j lt h.stays))

-- What the code of planes prints, and that it is well formed.
use Rattle.std.proofs.Common.{◌≡◌, ℕ, zero, suc, ◌+◌, ◌-◌, ◌*◌, ◌<◌, ◌≤◌, List, [], ◌∷◌, ◌++◌, refl, sym, ap, ◌∙◌, subst, arith, Bool, true, false}
use Rattle.std.proofs.Math.ListN as list
use Rattle.std.specs.Prelude.{Some, None, pos, int_lt, nat_lt, ◌&&◌, take, drop, slice_index_or, if◌then◌else◌}
use Rattle.std.proofs.lemmas.Bool.Decides.{nat_tests}
use Rattle.aplc_scalar.specs.Scalar.{truth}
use Rattle.aplc_arr.specs.Arrays.{product}
use Rattle.aplc_cprof.specs.declared.syntax.Int.{Int}
use Rattle.aplc_cprof.specs.declared.syntax.Int.TheVariants as int
use Rattle.aplc_cprof.specs.declared.syntax.Op.TheVariants as op
use Rattle.aplc_cprof.specs.declared.syntax.CExpr.TheVariants as expr
use Rattle.aplc_cprof.specs.declared.syntax.CStmt.{CStmt}
use Rattle.aplc_cprof.specs.declared.syntax.CStmt.TheVariants as stmt
use Rattle.aplc_cprof.specs.Blocks.{Blocks}
use Rattle.aplc_cprof.specs.WellFormed.{Scope, is_int, are_stmts}
use Rattle.aplc_cprof.specs.Machine.{State, Code, Is, read_int, or_unset, apply, value, settled}
use Rattle.aplc_cprof.specs.Frames.{IsOld, AreOld, AreGiven, Stays}
use Rattle.aplc_cprof.specs.Emitted.{counted_loop, loop_begun, LoopEnded, AreInts, IsFormed}
use Rattle.aplc_cprof.proofs.Values.{value_Var}
use Rattle.aplc_cprof.proofs.Frames.{put_at, hold_append, old_more, are_old_append, are_old_more, stays_none, stays_less, stays_set, read_stays}
use Rattle.aplc_cprof.proofs.Emitted.{is_below, ints_append, ints_first, ints_last, bin_formed, var_formed, with_literal_formed, one_stmt, stmts_append, set_formed, if_formed, grown_then}
use Rattle.aplc_cprof.proofs.Counting.{bin_value, with_literal_value, does_set}
use Rattle.aplc_collect.specs.Elements.{Test, Steps, ReadsWithin}
use Rattle.aplc_quad.specs.declared.printing.Columns.{Columns}
use Rattle.aplc_quad.specs.Rows.{joined, row_bytes, empty_line, nest_bytes}
use Rattle.aplc_quad.specs.Printing.{line_feed, goes_on, parts, head_stmts, with_head}
use Rattle.aplc_quad.specs.Printed.{with_output, Printed, NoFault, Puts, kind_of, bufs_of, AreOldColumns, Adds, row_steps, LinePuts, nest_steps, NestPuts}
use Rattle.aplc_quad.proofs.Pieces.{row_same}
use Rattle.aplc_quad.proofs.Nests.{some_factor}
use Rattle.aplc_quad.proofs.Puts.{stays_printed, hold_printed, read_printed, printed_then, puts_less, puts_then, quiet_then, puts_when, puts_loop}
use Rattle.aplc_quad.proofs.Prints.{both_tests}
use Rattle.aplc_quad.proofs.Slices.{rest_is}
use Rattle.aplc_quad.proofs.Builds.{loop_adds}
use Rattle.aplc_quad.proofs.CodeRows.{laid_printed, stands_printed, stands_along, feed_puts, feed_is_formed}

either_test : (p q : Bool) → apply op.Or (Is (truth p)) (Is (truth q)) ≡ Is (truth (if p then true else q))
either_test true q = refl
either_test false true = refl
either_test false false = refl

-- a row stands before place p + i * size, if one stands before p or i is not 0
goes_on_is : (p i size : ℕ) → 0 < size → (if nat_lt 0 p then true else int_lt (pos 0) (pos i)) ≡ nat_lt 0 (p + i * size)
goes_on_is zero zero size some = let e : 0 + 0 * size ≡ 0 = omega arith in ap (nat_lt 0) (sym e)
goes_on_is zero (suc i) size some = let e : 0 < 0 + suc i * size = omega (arith, some) in grind (arith, nat_tests)
goes_on_is (suc p) i size some = let e : 0 < suc p + i * size = omega arith in grind (arith, nat_tests)

more_than_one : (l : ℕ) → int_lt (pos 1) (pos l) ≡ nat_lt 1 l
more_than_one l = refl

-- the head of a turn, and a nest over the axes behind
abbrev pub TurnIs : Test → Steps → List Int → Int → Int → List Int → Int → Columns → Code → ℕ → ℕ → List CStmt → Type 0
TurnIs test steps at i length lengths started columns c n m code = (inner : List CStmt) × (code ≡ head_stmts (int.Local n) started i length ++ inner) × NestPuts test steps (at ++ i ∷ []) lengths (int.Local n) columns c (n + 1) m inner

module _ (c : Code) where
  -- whether a row was written before is set
  record Moved (n m : ℕ) (b : Bool) (s t : State) : Type 0 where
    pub stays : Stays n m s t
    pub is : t.ints n ≡ Some (truth b)

  -- the head of a turn, and what follows it
  pub head_puts : (n m k : ℕ) (started i length : Int) (p j l size : ℕ) (code : List CStmt) (s : State) (text : List ℕ) → 0 < size → IsOld n length → read_int started s ≡ Is (truth (nat_lt 0 p)) → read_int i s ≡ Is (pos j) → read_int length s ≡ Is (pos l) → ((t : State) → Printed n m (empty_line l (p + j * size)) s t → read_int (int.Local n) t ≡ Is (truth (nat_lt 0 (p + j * size))) → Puts c (n + 1) m k code t text) → Puts c n m (1 + (2 + k)) (head_stmts (int.Local n) started i length ++ code) s (empty_line l (p + j * size) ++ text)
  head_puts n m k started i length p j l size code s text some old at_started at_i at_length after =
      quiet_then c n m 1 (2 + k) (stmt.Set (int.Local n) (goes_on started i) ∷ []) (stmt.If (parts (int.Local n) length) (line_feed ∷ []) None ∷ code) s (Moved n m b s) (line ++ text)
      (does_set c (Stays n m s) n (goes_on started i) s (Moved n m b s) NoFault (truth b) (test_is)
      (λ rest. stays_set n m n (truth b) s s rest (omega arith) (stays_none n m s))
      (λ rest. record { stays = stays_set n m n (truth b) s s rest (omega arith) (stays_none n m s); is = put_at s.ints n (Some (truth b)) }))
      (λ t h. h.stays)
      (λ t h. puts_less c n (n + 1) m m (2 + k) (2 + k) (stmt.If (parts (int.Local n) length) (line_feed ∷ []) None ∷ code) t (line ++ text) (omega arith) (omega arith) (omega arith)
      (puts_then c (n + 1) m 2 k (stmt.If (parts (int.Local n) length) (line_feed ∷ []) None ∷ []) code t line text
      (puts_when c (n + 1) m 1 (parts (int.Local n) length) (line_feed ∷ []) t (10 ∷ []) (b && nat_lt 1 l) (parts_is t h) (feed_puts c (n + 1) m (settled t)))
      (λ u q. after u (on_from t u h.stays q) (read_printed (n + 1) m line t u (int.Local n) q (omega arith) ∙ ap or_unset h.is))))
    where
      b : Bool
      b = nat_lt 0 (p + j * size)

      line : List ℕ
      line = empty_line l (p + j * size)

      test_is : value (goes_on started i) c.tables s ≡ Is (truth b)
      test_is =
          bin_value c.tables s op.Or (expr.Var started) (expr.Bin op.Greater (expr.Var i) (expr.Lit (pos 0))) (truth (nat_lt 0 p)) (truth (int_lt (pos 0) (pos j))) (value_Var started c.tables s ∙ at_started) (with_literal_value c.tables s op.Greater i (pos 0) (pos j) at_i)
          ∙ either_test (nat_lt 0 p) (int_lt (pos 0) (pos j))
          ∙ ap (λ x. Is (truth x)) (goes_on_is p j size some)

      parts_is : (t : State) → Moved n m b s t → value (parts (int.Local n) length) c.tables t ≡ Is (truth (b && nat_lt 1 l))
      parts_is t h =
          bin_value c.tables t op.And (expr.Var (int.Local n)) (expr.Bin op.Greater (expr.Var length) (expr.Lit (pos 1))) (truth b) (truth (int_lt (pos 1) (pos l))) (value_Var (int.Local n) c.tables t ∙ ap or_unset h.is) (with_literal_value c.tables t op.Greater length (pos 1) (pos l) (read_stays n m s t length h.stays old ∙ at_length))
          ∙ both_tests b (int_lt (pos 1) (pos l))
          ∙ ap (λ x. Is (truth (b && x))) (more_than_one l)

      on_from : (t u : State) → Stays n m s t → Printed (n + 1) m line t u → Printed n m line s u
      on_from t u h q = printed_then n m [] line s t u (stays_printed n m s t h) (stays_less n (n + 1) m m (with_output (t.output ++ line) t) u (omega arith) (omega arith) q)

  module _ (test : Test) (steps : Steps) (g : Scope) (reads : ReadsWithin g test steps) where
    -- ---- A plane

    pub plane_puts : (n m : ℕ) (at : List Int) (rows length started : Int) (columns : Columns) (body : List CStmt) → g.ints ≤ n → g.bufs ≤ m → AreOld n at → IsOld n rows → IsOld n length → AreOldColumns m columns → LinePuts test steps (at ++ int.Local n ∷ []) length columns c (n + 1) m body → NestPuts test steps at (rows ∷ length ∷ []) started columns c n m (counted_loop (int.Local n) rows body)
    plane_puts n m at rows length started columns body le leb old_at old_rows old old_columns line s before [] p k ws item some held lengths short at_started stands laid fits = absurd lengths
    plane_puts n m at rows length started columns body le leb old_at old_rows old old_columns line s before (h ∷ []) p k ws item some held lengths short at_started stands laid fits = absurd lengths.1
    plane_puts n m at rows length started columns body le leb old_at old_rows old old_columns line s before (h ∷ w ∷ x ∷ ns) p k ws item some held lengths short at_started stands laid fits = absurd lengths.1.1
    plane_puts n m at rows length started columns body le leb old_at old_rows old old_columns line s before (h ∷ w ∷ []) p k ws item some held lengths short at_started stands laid fits =
        puts_loop c n m (row_steps w k + 1) rows h body s piece old_rows short.0 lengths.0
        (λ i t lt printed index.
        let text = joined piece i in
        let there = stands_printed c test steps g reads n m text s t before (h ∷ w ∷ []) p k item le leb printed stands in
        subst (λ l. Puts c (n + 1) m (row_steps w k + 1) body t (l ++ 10 ∷ []))
        (row_same (kind_of columns) ws (λ j. item (p + i * product (w ∷ []) + j)) (λ j. item (p + (i * w + j))) w (λ j. ap item (same i j)))
        (line t (before ++ i ∷ []) w (p + i * product (w ∷ [])) k ws item
        (hold_append t at (int.Local n ∷ []) before (i ∷ []) (hold_printed n m text s t at before printed old_at held) (ap or_unset index, tt))
        (read_printed n m text s t length printed old ∙ lengths.1.0) short.1.0
        (stands_along c test steps g reads t before (w ∷ []) h i p k item lt there)
        (λ j lj. laid_printed columns n m text s t j (ws j) old_columns printed (laid j lj))
        (fits i lt)))
      where
        piece : ℕ → List ℕ
        piece i = row_bytes (kind_of columns) ws (λ j. item (p + (i * w + j))) w ++ 10 ∷ []

        same : (i j : ℕ) → p + i * (w * 1) + j ≡ p + (i * w + j)
        same i j = omega arith

    -- ---- An axis round planes

    pub axis_puts : (n m : ℕ) (at : List Int) (length x y : Int) (xs : List Int) (started : Int) (columns : Columns) (body : List CStmt) → g.ints ≤ n → g.bufs ≤ m → AreOld n at → AreOld n (length ∷ x ∷ y ∷ xs) → IsOld n started → AreOldColumns m columns → TurnIs test steps at (int.Local n) length (x ∷ y ∷ xs) started columns c (n + 1) m body → NestPuts test steps at (length ∷ x ∷ y ∷ xs) started columns c n m (counted_loop (int.Local n) length body)
    axis_puts n m at length x y xs started columns body le leb old_at old old_started old_columns turn s before [] p k ws item some held are short at_started stands laid fits = absurd are
    axis_puts n m at length x y xs started columns body le leb old_at old old_started old_columns turn s before (l ∷ []) p k ws item some held are short at_started stands laid fits = absurd are.1
    axis_puts n m at length x y xs started columns body le leb old_at old old_started old_columns turn s before (l ∷ h ∷ []) p k ws item some held are short at_started stands laid fits = absurd are.1.1
    axis_puts n m at length x y xs started columns body le leb old_at old old_started old_columns turn s before (l ∷ h ∷ w ∷ ns) p k ws item some held are short at_started stands laid fits =
        puts_loop c n m (1 + (2 + nest_steps sub k)) length l body s piece old.0 short.0 are.0 in_turn
      where
        sub : List ℕ
        sub = h ∷ w ∷ ns

        size : ℕ
        size = product sub

        some_behind : 0 < size
        some_behind = (some_factor l size some).1

        nest : ℕ → List ℕ
        nest i = nest_bytes (kind_of columns) ws item sub (p + i * size)

        piece : ℕ → List ℕ
        piece i = empty_line l (p + i * size) ++ nest i

        old_places : AreOld (n + 1) (at ++ int.Local n ∷ [])
        old_places = let last : n < n + 1 = omega arith in are_old_append (n + 1) at (int.Local n ∷ []) (are_old_more n (n + 1) at (omega arith) old_at) (last, tt)

        behind : (i : ℕ) (t u : State) → i < l → Printed n m (joined piece i) s t → t.ints n ≡ Some (pos i) → Printed (n + 1) m (empty_line l (p + i * size)) t u → read_int (int.Local (n + 1)) u ≡ Is (truth (nat_lt 0 (p + i * size))) → Puts c (n + 1 + 1) m (nest_steps sub k) turn.0 u (nest i)
        behind i t u lt printed index more flag =
            let text = joined piece i in
            let line = empty_line l (p + i * size) in
            turn.2 u (before ++ i ∷ []) sub (p + i * size) k ws item some_behind
            (hold_printed (n + 1) m line t u (at ++ int.Local n ∷ []) (before ++ i ∷ []) more old_places (hold_append t at (int.Local n ∷ []) before (i ∷ []) (hold_printed n m text s t at before printed old_at held) (ap or_unset index, tt)))
            (hold_printed (n + 1) m line t u (x ∷ y ∷ xs) sub more (are_old_more n (n + 1) (x ∷ y ∷ xs) (omega arith) old.1) (hold_printed n m text s t (x ∷ y ∷ xs) sub printed old.1 are.1))
            short.1 flag
            (stands_printed c test steps g reads (n + 1) m line t u (before ++ i ∷ []) sub (p + i * size) k item (omega (arith, le)) leb more
            (stands_along c test steps g reads t before sub l i p k item lt (stands_printed c test steps g reads n m text s t before (l ∷ sub) p k item le leb printed stands)))
            (λ j lj. laid_printed columns (n + 1) m line t u j (ws j) old_columns more (laid_printed columns n m text s t j (ws j) old_columns printed (laid j lj)))
            (fits i lt)

        in_turn : (i : ℕ) (t : State) → i < l → Printed n m (joined piece i) s t → t.ints n ≡ Some (pos i) → Puts c (n + 1) m (1 + (2 + nest_steps sub k)) body t (piece i)
        in_turn i t lt printed index =
            subst (λ (code : List CStmt). Puts c (n + 1) m (1 + (2 + nest_steps sub k)) code t (piece i)) (sym turn.1)
            (head_puts (n + 1) m (nest_steps sub k) started (int.Local n) length p i l size turn.0 t (nest i) some_behind (old_more n (n + 1) length (omega arith) old.0)
            (read_printed n m (joined piece i) s t started printed old_started ∙ at_started)
            (ap or_unset index)
            (read_printed n m (joined piece i) s t length printed old.0 ∙ are.0)
            (λ u more flag. behind i t u lt printed index more flag))

-- ---- Well formed

head_formed : (sc : Scope) (moved started i length : Int) (room : ℕ) → 2 ≤ room → is_int sc moved ≡ true → is_int sc started ≡ true → is_int sc i ≡ true → is_int sc length ≡ true → are_stmts sc (head_stmts moved started i length) (Some room) ≡ true
head_formed sc moved started i length room le im is ii il =
    one_stmt sc (Some room) (stmt.Set moved (goes_on started i)) (stmt.If (parts moved length) (line_feed ∷ []) None ∷ [])
    (set_formed sc (Some room) moved (goes_on started i) im (bin_formed sc op.Or (expr.Var started) (expr.Bin op.Greater (expr.Var i) (expr.Lit (pos 0))) 1 room (omega (arith, le)) (λ r kr. var_formed sc started is r) (λ r kr. with_literal_formed sc op.Greater i 0 r kr (omega arith) ii)))
    (one_stmt sc (Some room) (stmt.If (parts moved length) (line_feed ∷ []) None) []
    (if_formed sc 0 room (parts moved length) (line_feed ∷ []) (omega (arith, le)) (bin_formed sc op.And (expr.Var moved) (expr.Bin op.Greater (expr.Var length) (expr.Lit (pos 1))) 1 room (omega (arith, le)) (λ r kr. var_formed sc moved im r) (λ r kr. with_literal_formed sc op.Greater length 1 r kr (omega arith) il))
    (λ r kr. feed_is_formed sc r)) refl)

-- ---- Built

pub plane_built : (test : Test) (steps : Steps) (g : Scope) (depth : ℕ) (b0 b1 b2 b3 : Blocks) (at at1 : List Int) (rows length started i : Int) (columns : Columns) → ReadsWithin g test steps → AreGiven g b0 → AreOld b0.ints at → IsOld b0.ints rows → IsOld b0.ints length → AreOldColumns b0.bufs columns → i ≡ int.Local b0.ints → b1 ≡ loop_begun b0 → at1 ≡ at ++ i ∷ [] → Adds g (3 + depth) b1 b2 (at1 ++ length ∷ []) (bufs_of columns) (LinePuts test steps at1 length columns) → LoopEnded i rows b2 b3 → Adds g (4 + depth) b0 b3 (started ∷ at ++ rows ∷ length ∷ []) (bufs_of columns) (NestPuts test steps at (rows ∷ length ∷ []) started columns)
plane_built test steps g depth b0 b1 b2 b3 at at1 rows length started i columns reads given old_at old_rows old old_columns ei e1 ea line ended =
    loop_adds g (3 + depth) (4 + depth) b0 b1 b2 b3 i rows (at1 ++ length ∷ []) (started ∷ at ++ rows ∷ length ∷ []) (bufs_of columns) (LinePuts test steps at1 length columns) (NestPuts test steps at (rows ∷ length ∷ []) started columns) ei e1 line ended (omega arith) (omega arith)
    (λ sc counter are.
    let of_at = ints_first sc at (rows ∷ length ∷ []) are.1 in
    let lengths = ints_last sc at (rows ∷ length ∷ []) are.1 in
    (subst (λ (l : List Int). AreInts sc (l ++ length ∷ [])) (sym ea) (ints_append sc (at ++ i ∷ []) (length ∷ []) (ints_append sc at (i ∷ []) of_at (counter, tt)) lengths.1), lengths.0))
    (λ c code h. plane_puts c test steps g reads b0.ints b0.bufs at rows length started columns code given.ints given.bufs old_at old_rows old old_columns
    (subst (λ (x : Int). LinePuts test steps (at ++ x ∷ []) length columns c (b0.ints + 1) b0.bufs code) ei (subst (λ (l : List Int). LinePuts test steps l length columns c (b0.ints + 1) b0.bufs code) ea h)))

turn_built : (test : Test) (steps : Steps) (g : Scope) (depth : ℕ) (b1 b2 b3 : Blocks) (at at1 : List Int) (length : Int) (lengths : List Int) (started i moved : Int) (columns : Columns) → at1 ≡ at ++ i ∷ [] → moved ≡ int.Local b1.ints → b2 ≡ with_head started i length b1 → 2 ≤ depth → Adds g depth b2 b3 (moved ∷ at1 ++ lengths) (bufs_of columns) (NestPuts test steps at1 lengths moved columns) → Adds g depth b1 b3 (started ∷ (at ++ i ∷ []) ++ length ∷ lengths) (bufs_of columns) (TurnIs test steps at i length lengths started columns)
turn_built test steps g depth b1 b2 b3 at at1 length lengths started i moved columns ea em e2 le nest = record {
  code = head ++ nest.code;
  grown = grown_then head nest.code b1 b2 b3 record { inner = ap (λ (b : Blocks). b.inner) e2; outer = ap (λ (b : Blocks). b.outer) e2; ints = omega (arith, ints2); bufs = omega (arith, bufs2) } nest.grown;
  formed = formed_is;
  runs = λ c. (nest.code, refl, nest_is c);
}
  where
    head : List CStmt
    head = head_stmts (int.Local b1.ints) started i length

    ints2 : b2.ints ≡ b1.ints + 1
    ints2 = ap (λ (b : Blocks). b.ints) e2

    bufs2 : b2.bufs ≡ b1.bufs
    bufs2 = ap (λ (b : Blocks). b.bufs) e2

    nest_is : (c : Code) → NestPuts test steps (at ++ i ∷ []) lengths (int.Local b1.ints) columns c (b1.ints + 1) b1.bufs nest.code
    nest_is c =
        subst (λ (l : List Int). NestPuts test steps l lengths (int.Local b1.ints) columns c (b1.ints + 1) b1.bufs nest.code) ea
        (subst (λ (x : Int). NestPuts test steps at1 lengths x columns c (b1.ints + 1) b1.bufs nest.code) em
        (subst (λ k. NestPuts test steps at1 lengths moved columns c (b1.ints + 1) k nest.code) bufs2
        (subst (λ k. NestPuts test steps at1 lengths moved columns c k b2.bufs nest.code) ints2 (nest.runs c))))

    formed_is : IsFormed g (started ∷ (at ++ i ∷ []) ++ length ∷ lengths) (bufs_of columns) b3 depth (head ++ nest.code)
    formed_is sc room within are bufs more more_bufs room_le =
        let places = ints_first sc (at ++ i ∷ []) (length ∷ lengths) are.1 in
        let of_lengths = ints_last sc (at ++ i ∷ []) (length ∷ lengths) are.1 in
        let index = (ints_last sc at (i ∷ []) places).0 in
        let flag : is_int sc (int.Local b1.ints) ≡ true = is_below b1.ints sc.ints (omega (arith, ints2, nest.grown.ints, more)) in
        stmts_append sc (Some room) head nest.code (head_formed sc (int.Local b1.ints) started i length room (omega (arith, le, room_le)) flag are.0 index of_lengths.0)
        (nest.formed sc room within (ap (is_int sc) em ∙ flag, subst (λ (l : List Int). AreInts sc (l ++ lengths)) (sym ea) (ints_append sc (at ++ i ∷ []) lengths places of_lengths.1)) bufs more more_bufs room_le)

axis_built : (test : Test) (steps : Steps) (g : Scope) (depth : ℕ) (b0 b1 b2 b3 b4 : Blocks) (at at1 : List Int) (length x y : Int) (xs : List Int) (started i moved : Int) (columns : Columns) → ReadsWithin g test steps → AreGiven g b0 → AreOld b0.ints at → AreOld b0.ints (length ∷ x ∷ y ∷ xs) → IsOld b0.ints started → AreOldColumns b0.bufs columns → i ≡ int.Local b0.ints → b1 ≡ loop_begun b0 → moved ≡ int.Local b1.ints → b2 ≡ with_head started i length b1 → at1 ≡ at ++ i ∷ [] → 2 ≤ depth → Adds g depth b2 b3 (moved ∷ at1 ++ x ∷ y ∷ xs) (bufs_of columns) (NestPuts test steps at1 (x ∷ y ∷ xs) moved columns) → LoopEnded i length b3 b4 → Adds g (1 + depth) b0 b4 (started ∷ at ++ length ∷ x ∷ y ∷ xs) (bufs_of columns) (NestPuts test steps at (length ∷ x ∷ y ∷ xs) started columns)
axis_built test steps g depth b0 b1 b2 b3 b4 at at1 length x y xs started i moved columns reads given old_at old old_started old_columns ei e1 em e2 ea le nest ended =
    loop_adds g depth (1 + depth) b0 b1 b3 b4 i length (started ∷ (at ++ i ∷ []) ++ length ∷ x ∷ y ∷ xs) (started ∷ at ++ length ∷ x ∷ y ∷ xs) (bufs_of columns) (TurnIs test steps at i length (x ∷ y ∷ xs) started columns) (NestPuts test steps at (length ∷ x ∷ y ∷ xs) started columns) ei e1
    (turn_built test steps g depth b1 b2 b3 at at1 length (x ∷ y ∷ xs) started i moved columns ea em e2 le nest) ended (omega (arith, le)) (omega arith)
    (λ sc counter are.
    let of_at = ints_first sc at (length ∷ x ∷ y ∷ xs) are.1 in
    let lengths = ints_last sc at (length ∷ x ∷ y ∷ xs) are.1 in
    ((are.0, ints_append sc (at ++ i ∷ []) (length ∷ x ∷ y ∷ xs) (ints_append sc at (i ∷ []) of_at (counter, tt)) lengths), lengths.0))
    (λ c code h. axis_puts c test steps g reads b0.ints b0.bufs at length x y xs started columns code given.ints given.bufs old_at old old_started old_columns
    (subst (λ (z : Int). TurnIs test steps at z length (x ∷ y ∷ xs) started columns c (b0.ints + 1) b0.bufs code) ei h))

pub nest_built : (test : Test) (steps : Steps) (g : Scope) (depth : ℕ) (b0 b1 b2 b3 b4 : Blocks) (at at1 lengths : List Int) (started i moved : Int) (columns : Columns) → 3 ≤ list.length lengths → ReadsWithin g test steps → AreGiven g b0 → AreOld b0.ints at → AreOld b0.ints lengths → IsOld b0.ints started → AreOldColumns b0.bufs columns → i ≡ int.Local b0.ints → b1 ≡ loop_begun b0 → moved ≡ int.Local b1.ints → b2 ≡ with_head started i (slice_index_or lengths 0 (int.Local 0)) b1 → at1 ≡ at ++ i ∷ [] → Adds g (2 + depth + list.length (take (list.length lengths - 1) (drop 1 lengths))) b2 b3 (moved ∷ at1 ++ take (list.length lengths - 1) (drop 1 lengths)) (bufs_of columns) (NestPuts test steps at1 (take (list.length lengths - 1) (drop 1 lengths)) moved columns) → LoopEnded i (slice_index_or lengths 0 (int.Local 0)) b3 b4 → Adds g (2 + depth + list.length lengths) b0 b4 (started ∷ at ++ lengths) (bufs_of columns) (NestPuts test steps at lengths started columns)
nest_built test steps g depth b0 b1 b2 b3 b4 at at1 [] started i moved columns ranked reads given old_at old old_started old_columns ei e1 em e2 ea nest ended = absurd (omega (arith, ranked))
nest_built test steps g depth b0 b1 b2 b3 b4 at at1 (x ∷ []) started i moved columns ranked reads given old_at old old_started old_columns ei e1 em e2 ea nest ended = absurd (omega (arith, ranked))
nest_built test steps g depth b0 b1 b2 b3 b4 at at1 (x ∷ y ∷ []) started i moved columns ranked reads given old_at old old_started old_columns ei e1 em e2 ea nest ended = absurd (omega (arith, ranked))
nest_built test steps g depth b0 b1 b2 b3 b4 at at1 (length ∷ x ∷ y ∷ xs) started i moved columns ranked reads given old_at old old_started old_columns ei e1 em e2 ea nest ended =
    let d : 1 + (2 + depth + list.length (x ∷ y ∷ xs)) ≡ 2 + depth + list.length (length ∷ x ∷ y ∷ xs) = omega arith in
    subst (λ k. Adds g k b0 b4 (started ∷ at ++ length ∷ x ∷ y ∷ xs) (bufs_of columns) (NestPuts test steps at (length ∷ x ∷ y ∷ xs) started columns)) d
    (axis_built test steps g (2 + depth + list.length (x ∷ y ∷ xs)) b0 b1 b2 b3 b4 at at1 length x y xs started i moved columns reads given old_at old old_started old_columns ei e1 em e2 ea (omega arith)
    (subst (λ (l : List Int). Adds g (2 + depth + list.length l) b2 b3 (moved ∷ at1 ++ l) (bufs_of columns) (NestPuts test steps at1 l moved columns)) (rest_is length (x ∷ y ∷ xs)) nest) ended)

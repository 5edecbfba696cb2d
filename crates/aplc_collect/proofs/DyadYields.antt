-- What the statement of each scalar function of two arguments does.
use Rattle.std.proofs.Common.{◌≡◌, ℕ, ◌≤◌, List, [], ◌∷◌, ◌⊎◌, inl, inr, refl, sym, ap, ◌∙◌, arith, ℤ, Bool, true, false, cond}
use Rattle.std.specs.Prelude.{Some, None, Ok, Err, pos, ◌+ℤ◌}
use Rattle.std.specs.Int.RustNames.{int_lt, int_le, int_rem}
use Rattle.std.proofs.Math.IntN.{*ℤ_comm}
use Rattle.std.proofs.lemmas.Bool.Decides.{nat_tests}
use Rattle.aplc_scalar.specs.declared.kind.FaultKind.{FaultKind}
use Rattle.aplc_scalar.specs.declared.kind.FaultKind.TheVariants as fault
use Rattle.aplc_scalar.specs.declared.function.ScalarFn.{ScalarFn}
use Rattle.aplc_scalar.specs.declared.function.ScalarFn.TheVariants as f
use Rattle.aplc_scalar.specs.Scalar.{Given, in_range, both, truth, negated, int_eq, boolean, limited, logical, residue, dyadic, is_logical, is_dyadic}
use Rattle.aplc_cprof.specs.declared.syntax.Int.{Int}
use Rattle.aplc_cprof.specs.declared.syntax.Int.TheVariants as int
use Rattle.aplc_cprof.specs.declared.syntax.Op.TheVariants as op
use Rattle.aplc_cprof.specs.declared.syntax.Checked.{Checked}
use Rattle.aplc_cprof.specs.declared.syntax.Checked.TheVariants as checked
use Rattle.aplc_cprof.specs.declared.syntax.StuckCause.TheVariants.{Range}
use Rattle.aplc_cprof.specs.declared.syntax.CExpr.TheVariants as expr
use Rattle.aplc_cprof.specs.declared.syntax.CStmt.{CStmt}
use Rattle.aplc_cprof.specs.declared.syntax.CStmt.TheVariants as stmt
use Rattle.aplc_cprof.specs.Machine.{State, Code, Is, Bad, read_int, or_unset, apply, exact, ranged, divided, settled}
use Rattle.aplc_cprof.specs.Frames.{IsOld, Stays}
use Rattle.aplc_cprof.specs.Emitted.{on_values, less}
use Rattle.aplc_cprof.proofs.Values.{value_Var, ranged_in, ranged_out}
use Rattle.aplc_cprof.proofs.Paths.{Does, does_none, does_then, does_weaken, does_Check, does_Check_limit, does_Fault}
use Rattle.aplc_cprof.proofs.Frames.{put_at, stays_none, stays_settled, stays_set, read_stays, read_settled}
use Rattle.aplc_cprof.proofs.Counting.{on_values_value, with_literal_value}
use Rattle.aplc_collect.specs.Elements.{Computed, Failed, Yields}
use Rattle.aplc_collect.specs.ElementLaws.{value_is}
use Rattle.aplc_collect.specs.Scalars.{dyad_steps, both_within, both_bits, of_bits, other_sign, plain_op, small, checked_stmt, arithmetic_stmt, choice_stmt, is_comparison, comparison, logical_stmt, remainder_code, residue_stmt, dyad_stmt}
use Rattle.aplc_collect.proofs.Elements.{set_yields, if_yields, yields_more}
use Rattle.aplc_collect.proofs.Remainders.{moved, adjusted, residue_is, remainder_fits, moved_fits}
use Rattle.aplc_collect.proofs.ScalarValues.{is_within, both_within_value, both_left, both_right, small_fits, Bit, NoBit, bit_test, bit_cases, of_truths, logical_is, both_bits_value, of_bits_value, other_sign_value}

pub limited_in : (z : ℤ) → in_range z ≡ true → limited z ≡ Ok z
limited_in z h = ap (λ b. cond b (Ok z) (Err fault.Limit)) h

pub limited_out : (z : ℤ) → in_range z ≡ false → limited z ≡ Err fault.Limit
limited_out z h = ap (λ b. cond b (Ok z) (Err fault.Limit)) h

plain_is : (o : Checked) (x y : ℤ) → apply (plain_op o) (Is x) (Is y) ≡ ranged (exact o x y)
plain_is checked.Add x y = refl
plain_is checked.Sub x y = refl
plain_is checked.Mul x y = refl

clash : true ≡ false → ⊥
clash e = cc

equal_zero : (x : ℤ) → int_eq x (pos 0) ≡ true → x ≡ pos 0
equal_zero x h = grind (arith, nat_tests)

module _ (c : Code) (n m : ℕ) (s : State) (k : ℕ) (le : n ≤ k) where
  abbrev v : Int
  v = int.Local k

  after_test : Stays n m s (settled s)
  after_test = stays_settled n m s s s.todo (stays_none n m s)

  abbrev Gives : ℕ → List CStmt → State → Given → Type 0
  Gives j code t r = Does c (Stays n m s) j code t (Computed n m s v r) (Failed n m s r)

  -- ---- Arithmetic

  check_yields : (o : Checked) (l r : Int) (t : State) (x y z : ℤ) → Stays n m s t → read_int l t ≡ Is x → read_int r t ≡ Is y → exact o x y ≡ z → Gives 1 (stmt.Check v o (expr.Var l) (expr.Var r) ∷ []) t (limited z)
  check_yields o l r t x y z st hl hr e = by_range (in_range z) refl
    where
      by_range : (b : Bool) → in_range z ≡ b → Gives 1 (stmt.Check v o (expr.Var l) (expr.Var r) ∷ []) t (limited z)
      by_range true h =
          does_Check c (Stays n m s) v o (expr.Var l) (expr.Var r) t (Computed n m s v (limited z)) (Failed n m s (limited z)) x y z (value_Var l c.tables t ∙ hl) (value_Var r c.tables t ∙ hr) (ap ranged e ∙ ranged_in z h)
          (λ rest. stays_set n m k z s t rest le st)
          (λ rest. record { stays = stays_set n m k z s t rest le st; value = z; given = limited_in z h; is = ap or_unset (put_at t.ints k (Some z)) })
      by_range false h =
          does_weaken c (Stays n m s) (Stays n m s) 0 1 (stmt.Check v o (expr.Var l) (expr.Var r) ∷ []) t (Computed n m s v (limited z)) (Computed n m s v (limited z)) (Failed n m s (limited z)) (Failed n m s (limited z)) (λ u x. x) (λ u x. x) (λ f u x. x) (omega arith)
          (does_Check_limit c (Stays n m s) v o (expr.Var l) (expr.Var r) t (Computed n m s v (limited z)) (Failed n m s (limited z)) x y Range (value_Var l c.tables t ∙ hl) (value_Var r c.tables t ∙ hr) (ap ranged e ∙ ranged_out z h)
          (λ todo. record { stays = record { ints = st.ints; bufs = st.bufs; around = st.around; heap = st.heap }; given = limited_out z h }))

  checked_yields : (o : Checked) (l r : Int) (t : State) (x y : ℤ) → Stays n m s t → read_int l t ≡ Is x → read_int r t ≡ Is y → Gives 1 (checked_stmt o v l r ∷ []) t (limited (exact o x y))
  checked_yields checked.Add l r t x y st hl hr = check_yields checked.Add l r t x y (exact checked.Add x y) st hl hr refl
  checked_yields checked.Sub l r t x y st hl hr = check_yields checked.Sub l r t x y (exact checked.Sub x y) st hl hr refl
  checked_yields checked.Mul l r t x y st hl hr = check_yields checked.Mul r l t y x (exact checked.Mul x y) st hr hl (*ℤ_comm y x)

  -- a sum, difference or product
  arithmetic_yields : (o : Checked) (l r : Int) (x y : ℤ) → read_int l s ≡ Is x → read_int r s ≡ Is y → Gives 2 (arithmetic_stmt o v l r ∷ []) s (limited (exact o x y))
  arithmetic_yields o l r x y hl hr =
      let t = settled s in
      let hl' : read_int l t ≡ Is x = read_settled l s ∙ hl in
      let hr' : read_int r t ≡ Is y = read_settled r s ∙ hr in
      let z = exact o x y in
      if_yields c n m s 1 (both_within (small o) l r) (stmt.Set v (on_values (plain_op o) l r) ∷ []) (Some (checked_stmt o v l r ∷ [])) s
      (Computed n m s v (limited z)) (Failed n m s (limited z)) (both (is_within (small o) x) (is_within (small o) y)) (stays_none n m s)
      (both_within_value c.tables s o l r x y hl hr)
      (λ h. let fits = small_fits o x y (both_left (is_within (small o) x) (is_within (small o) y) h) (both_right (is_within (small o) x) (is_within (small o) y) h) in
      set_yields c n m s k (on_values (plain_op o) l r) t (limited z) z le after_test
      (on_values_value c.tables t (plain_op o) l r x y hl' hr' ∙ plain_is o x y ∙ ranged_in z fits) (limited_in z fits))
      (λ h. checked_yields o l r t x y after_test hl' hr')

  -- ---- Comparisons and choices

  compared_yields : (g : ScalarFn) (l r : Int) (x y : ℤ) → is_comparison g ≡ true → read_int l s ≡ Is x → read_int r s ≡ Is y → Gives 1 (stmt.Set v (on_values (comparison g) l r) ∷ []) s (dyadic g x y)
  compared_yields g l r x y h hl hr = set (of_table g h)
    where
      of_table : (g : ScalarFn) → is_comparison g ≡ true → (w : ℤ) × ((apply (comparison g) (Is x) (Is y) ≡ Is w) × (dyadic g x y ≡ Ok w))
      of_table f.Less h = (truth (int_lt x y), (refl, refl))
      of_table f.LessEq h = (truth (int_le x y), (refl, refl))
      of_table f.Equal h = (truth (int_eq x y), (refl, refl))
      of_table f.GreaterEq h = (truth (int_le y x), (refl, refl))
      of_table f.Greater h = (truth (int_lt y x), (refl, refl))
      of_table f.NotEqual h = (truth (negated (int_eq x y)), (refl, refl))
      of_table _ h = absurd (clash (sym h))

      set : (w : ℤ) × ((apply (comparison g) (Is x) (Is y) ≡ Is w) × (dyadic g x y ≡ Ok w)) → Gives 1 (stmt.Set v (on_values (comparison g) l r) ∷ []) s (dyadic g x y)
      set t = set_yields c n m s k (on_values (comparison g) l r) s (dyadic g x y) t.0 le (stays_none n m s) (on_values_value c.tables s (comparison g) l r x y hl hr ∙ t.1.0) t.1.1

  choice_yields : (l r one other : Int) (x y u w : ℤ) (z : Given) → read_int l s ≡ Is x → read_int r s ≡ Is y → read_int one s ≡ Is u → read_int other s ≡ Is w → z ≡ Ok (cond (int_lt x y) u w) → Gives 2 (choice_stmt v l r one other ∷ []) s z
  choice_yields l r one other x y u w z hl hr ho hw is =
      let t = settled s in
      if_yields c n m s 1 (less l r) (stmt.Set v (expr.Var one) ∷ []) (Some (stmt.Set v (expr.Var other) ∷ [])) s
      (Computed n m s v z) (Failed n m s z) (int_lt x y) (stays_none n m s)
      (on_values_value c.tables s op.Less l r x y hl hr)
      (λ h. set_yields c n m s k (expr.Var one) t z u le after_test (value_Var one c.tables t ∙ read_settled one s ∙ ho) (is ∙ picked (int_lt x y) true h))
      (λ h. set_yields c n m s k (expr.Var other) t z w le after_test (value_Var other c.tables t ∙ read_settled other s ∙ hw) (is ∙ picked (int_lt x y) false h))
    where
      ok : ℤ → Given
      ok v = Ok v

      picked : (b d : Bool) → b ≡ d → ok (cond b u w) ≡ ok (cond d u w)
      picked b d e = ap (λ b. ok (cond b u w)) e

  -- ---- Truth values

  fault_yields : (t : State) (z : Given) → Stays n m s t → z ≡ Err fault.Domain → Gives 1 (stmt.Fault fault.Domain ∷ []) t z
  fault_yields t z st is =
      does_weaken c (Stays n m s) (Stays n m s) 0 1 (stmt.Fault fault.Domain ∷ []) t (Computed n m s v z) (Computed n m s v z) (Failed n m s z) (Failed n m s z) (λ u x. x) (λ u x. x) (λ kind u x. x) (omega arith)
      (does_Fault c (Stays n m s) fault.Domain t (Computed n m s v z) (Failed n m s z) (λ todo. record { stays = record { ints = st.ints; bufs = st.bufs; around = st.around; heap = st.heap }; given = is }))

  -- a function of truth values: a fault where an argument is none
  logical_yields : (g : ScalarFn) (l r : Int) (x y : ℤ) → is_logical g ≡ true → read_int l s ≡ Is x → read_int r s ≡ Is y → Gives 2 (logical_stmt g v l r ∷ []) s (dyadic g x y)
  logical_yields g l r x y lg hl hr = by_cases (bit_cases x) (bit_cases y)
    where
      z : Given
      z = dyadic g x y

      by_test : (b : Bool) → both (bit_test x) (bit_test y) ≡ b → (b ≡ true → Gives 1 (stmt.Set v (of_bits g l r) ∷ []) (settled s) z) → (b ≡ false → Gives 1 (stmt.Fault fault.Domain ∷ []) (settled s) z) → Gives 2 (logical_stmt g v l r ∷ []) s z
      by_test b e yes_case no_case =
          if_yields c n m s 1 (both_bits l r) (stmt.Set v (of_bits g l r) ∷ []) (Some (stmt.Fault fault.Domain ∷ [])) s (Computed n m s v z) (Failed n m s z) b (stays_none n m s)
          (both_bits_value c.tables s l r x y hl hr ∙ ap (λ t. Is (truth t)) e) yes_case no_case

      both_false : (p q : Bool) → q ≡ false → both p q ≡ false
      both_false true q h = h
      both_false false q h = refl

      by_cases : Bit x ⊎ NoBit x → Bit y ⊎ NoBit y → Gives 2 (logical_stmt g v l r ∷ []) s z
      by_cases (inr a) b =
          by_test false (ap (λ t. both t (bit_test y)) a.tested) (λ h. absurd (clash (sym h)))
          (λ h. fault_yields (settled s) z after_test (logical_is g x y lg ∙ ap (λ o. logical (of_truths g) o (boolean y)) a.boolean_is))
      by_cases (inl a) (inr b) =
          by_test false (both_false (bit_test x) (bit_test y) b.tested) (λ h. absurd (clash (sym h)))
          (λ h. fault_yields (settled s) z after_test (logical_is g x y lg ∙ ap (λ o. logical (of_truths g) o (boolean y)) a.boolean_is ∙ ap (λ o. logical (of_truths g) (Some a.bit) o) b.boolean_is))
      by_cases (inl a) (inl b) =
          by_test true (ap (λ t. both t (bit_test y)) a.tested ∙ b.tested)
          (λ h. set_yields c n m s k (of_bits g l r) (settled s) z (truth (of_truths g a.bit b.bit)) le after_test
          (of_bits_value c.tables (settled s) g l r a.bit b.bit lg (read_settled l s ∙ hl ∙ ap Is a.is) (read_settled r s ∙ hr ∙ ap Is b.is))
          (logical_is g x y lg ∙ ap (λ o. logical (of_truths g) o (boolean y)) a.boolean_is ∙ ap (λ o. logical (of_truths g) (Some a.bit) o) b.boolean_is))
          (λ h. absurd (clash h))

  -- ---- Residue

  divided_is : (x y : ℤ) → int_eq x (pos 0) ≡ false → in_range x ≡ true → apply op.Rem (Is y) (Is x) ≡ Is (int_rem y x)
  unfolding divided
  divided_is x y h fits = ap (λ b. cond b (Bad Range) (ranged (int_rem y x))) h ∙ ranged_in (int_rem y x) (remainder_fits x y h fits)

  -- the divisor is added where the signs differ
  adjust_yields : (l : Int) (x t : ℤ) (u : State) (z : Given) → IsOld n l → read_int l s ≡ Is x → in_range t ≡ true → in_range x ≡ true → z ≡ Ok (adjusted t x) → Stays n m s u → read_int v u ≡ Is t → Gives 2 (stmt.If (other_sign v l) (stmt.Set v (on_values op.Add v l) ∷ []) None ∷ []) u z
  adjust_yields l x t u z old hl in_t in_x is st hv = by_sign (moved t x) refl
    where
      l_is : read_int l u ≡ Is x
      l_is = read_stays n m s u l st old ∙ hl

      w : State
      w = settled u

      st_w : Stays n m s w
      st_w = stays_settled n m s u u.todo st

      ok : ℤ → Given
      ok v = Ok v

      by_sign : (b : Bool) → moved t x ≡ b → Gives 2 (stmt.If (other_sign v l) (stmt.Set v (on_values op.Add v l) ∷ []) None ∷ []) u z
      by_sign b e =
          if_yields c n m s 1 (other_sign v l) (stmt.Set v (on_values op.Add v l) ∷ []) None u (Computed n m s v z) (Failed n m s z) b st
          (other_sign_value c.tables u v l t x hv l_is ∙ ap (λ p. Is (truth p)) e)
          (λ h. set_yields c n m s k (on_values op.Add v l) w z (t +ℤ x) le st_w
          (on_values_value c.tables w op.Add v l t x (read_settled v u ∙ hv) (read_settled l u ∙ l_is) ∙ ranged_in (t +ℤ x) (moved_fits t x (e ∙ h) in_t in_x))
          (is ∙ ap (λ p. ok (cond p (t +ℤ x) t)) (e ∙ h)))
          (λ h. does_weaken c (Stays n m s) (Stays n m s) 0 1 [] w (Computed n m s v z) (Computed n m s v z) (Failed n m s z) (Failed n m s z) (λ u x. x) (λ u x. x) (λ kind u x. x) (omega arith)
          (does_none c (Stays n m s) w (Computed n m s v z) (Failed n m s z)
          (λ todo. record { stays = record { ints = st.ints; bufs = st.bufs; around = st.around; heap = st.heap }; value = t; given = is ∙ ap (λ p. ok (cond p (t +ℤ x) t)) (e ∙ h); is = hv })))

  remainder_yields : (l r : Int) (x y : ℤ) (z : Given) → IsOld n l → read_int l s ≡ Is x → read_int r s ≡ Is y → in_range x ≡ true → int_eq x (pos 0) ≡ false → z ≡ Ok (residue x y) → Gives 3 (remainder_code v l r) (settled s) z
  remainder_yields l r x y z old hl hr in_x some is =
      let t = int_rem y x in
      let in_t = remainder_fits x y some in_x in
      does_then c (Stays n m s) 1 2 (stmt.Set v (on_values op.Rem r l) ∷ []) (stmt.If (other_sign v l) (stmt.Set v (on_values op.Add v l) ∷ []) None ∷ []) (settled s)
      (Computed n m s v (Ok t)) (Computed n m s v z) (Failed n m s z)
      (does_weaken c (Stays n m s) (Stays n m s) 1 1 (stmt.Set v (on_values op.Rem r l) ∷ []) (settled s) (Computed n m s v (Ok t)) (Computed n m s v (Ok t)) (Failed n m s (Ok t)) (Failed n m s z) (λ u x. x) (λ u x. x)
      (λ kind u x. absurd (no_fault kind x.given)) (omega arith)
      (set_yields c n m s k (on_values op.Rem r l) (settled s) (Ok t) t le after_test
      (on_values_value c.tables (settled s) op.Rem r l y x (read_settled r s ∙ hr) (read_settled l s ∙ hl) ∙ divided_is x y some in_x) refl))
      (λ u d. adjust_yields l x t u z old hl in_t in_x (is ∙ ap ok (residue_is x y some)) d.stays (d.is ∙ ap Is (sym (value_is t d.value d.given))))
    where
      ok : ℤ → Given
      ok v = Ok v

      no_fault : (kind : FaultKind) → ok (int_rem y x) ≡ Err kind → ⊥
      no_fault kind e = cc

  residue_yields : (l r : Int) (x y : ℤ) → IsOld n l → read_int l s ≡ Is x → read_int r s ≡ Is y → in_range x ≡ true → Gives 4 (residue_stmt v l r ∷ []) s (dyadic f.Residue x y)
  residue_yields l r x y old hl hr in_x = by_zero (int_eq x (pos 0)) refl
    where
      z : Given
      z = dyadic f.Residue x y

      of_zero : x ≡ pos 0 → z ≡ Ok y
      of_zero e = ap (λ x. dyadic f.Residue x y) e

      by_zero : (b : Bool) → int_eq x (pos 0) ≡ b → Gives 4 (residue_stmt v l r ∷ []) s z
      by_zero b e =
          if_yields c n m s 3 (expr.Bin op.NotEqual (expr.Var l) (expr.Lit (pos 0))) (remainder_code v l r) (Some (stmt.Set v (expr.Var r) ∷ [])) s (Computed n m s v z) (Failed n m s z) (negated b) (stays_none n m s)
          (with_literal_value c.tables s op.NotEqual l (pos 0) x hl ∙ ap (λ p. Is (truth (negated p))) e)
          (λ h. remainder_yields l r x y z old hl hr in_x (e ∙ not_true b h) refl)
          (λ h. does_weaken c (Stays n m s) (Stays n m s) 1 3 (stmt.Set v (expr.Var r) ∷ []) (settled s) (Computed n m s v z) (Computed n m s v z) (Failed n m s z) (Failed n m s z) (λ u x. x) (λ u x. x) (λ kind u x. x) (omega arith)
          (set_yields c n m s k (expr.Var r) (settled s) z y le after_test (value_Var r c.tables (settled s) ∙ read_settled r s ∙ hr) (of_zero (equal_zero x (e ∙ not_false b h)))))
        where
          not_true : (b : Bool) → negated b ≡ true → b ≡ false
          not_true false h = refl
          not_true true h = absurd (clash (sym h))

          not_false : (b : Bool) → negated b ≡ false → b ≡ true
          not_false true h = refl
          not_false false h = absurd (clash h)

  -- ---- All functions

  pub dyad_yields : (g : ScalarFn) (l r : Int) (x y : ℤ) → is_dyadic g ≡ true → IsOld n l → read_int l s ≡ Is x → read_int r s ≡ Is y → in_range x ≡ true → Yields c n m (dyad_steps g) (dyad_stmt g v l r ∷ []) s v (dyadic g x y)
  dyad_yields f.Add l r x y form old hl hr in_x = arithmetic_yields checked.Add l r x y hl hr
  dyad_yields f.Sub l r x y form old hl hr in_x = arithmetic_yields checked.Sub l r x y hl hr
  dyad_yields f.Mul l r x y form old hl hr in_x = arithmetic_yields checked.Mul l r x y hl hr
  dyad_yields f.Max l r x y form old hl hr in_x = choice_yields l r r l x y y x (dyadic f.Max x y) hl hr hr hl refl
  dyad_yields f.Min l r x y form old hl hr in_x = choice_yields l r l r x y x y (dyadic f.Min x y) hl hr hl hr refl
  dyad_yields f.Residue l r x y form old hl hr in_x = residue_yields l r x y old hl hr in_x
  dyad_yields f.And l r x y form old hl hr in_x = logical_yields f.And l r x y refl hl hr
  dyad_yields f.Or l r x y form old hl hr in_x = logical_yields f.Or l r x y refl hl hr
  dyad_yields f.Nand l r x y form old hl hr in_x = logical_yields f.Nand l r x y refl hl hr
  dyad_yields f.Nor l r x y form old hl hr in_x = logical_yields f.Nor l r x y refl hl hr
  dyad_yields f.Less l r x y form old hl hr in_x = yields_more c n m s 1 2 (dyad_stmt f.Less v l r ∷ []) v (dyadic f.Less x y) (omega arith) (compared_yields f.Less l r x y refl hl hr)
  dyad_yields f.LessEq l r x y form old hl hr in_x = yields_more c n m s 1 2 (dyad_stmt f.LessEq v l r ∷ []) v (dyadic f.LessEq x y) (omega arith) (compared_yields f.LessEq l r x y refl hl hr)
  dyad_yields f.Equal l r x y form old hl hr in_x = yields_more c n m s 1 2 (dyad_stmt f.Equal v l r ∷ []) v (dyadic f.Equal x y) (omega arith) (compared_yields f.Equal l r x y refl hl hr)
  dyad_yields f.GreaterEq l r x y form old hl hr in_x = yields_more c n m s 1 2 (dyad_stmt f.GreaterEq v l r ∷ []) v (dyadic f.GreaterEq x y) (omega arith) (compared_yields f.GreaterEq l r x y refl hl hr)
  dyad_yields f.Greater l r x y form old hl hr in_x = yields_more c n m s 1 2 (dyad_stmt f.Greater v l r ∷ []) v (dyadic f.Greater x y) (omega arith) (compared_yields f.Greater l r x y refl hl hr)
  dyad_yields f.NotEqual l r x y form old hl hr in_x = yields_more c n m s 1 2 (dyad_stmt f.NotEqual v l r ∷ []) v (dyadic f.NotEqual x y) (omega arith) (compared_yields f.NotEqual l r x y refl hl hr)
  dyad_yields f.Not l r x y form old hl hr in_x = absurd (clash (sym form))

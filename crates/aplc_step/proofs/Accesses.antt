-- The code of a cell at strides.
use Rattle.std.proofs.Common.{◌≡◌, ℕ, ◌+◌, ◌<◌, ◌≤◌, List, [], ◌∷◌, ◌++◌, length, refl, sym, ap, ◌∙◌, subst, arith, ℤ, true, false, cond, drop, drop_of_length-le, Bool}
use Rattle.std.proofs.lemmas.List.{drop_more}
use Rattle.std.specs.Prelude.{Option, Some, None, Ok, pos, nat_lt, slice_index_or, slice_get, option_and_then}
use Rattle.aplc_scalar.specs.Scalar.{Given, in_range}
use Rattle.aplc_cprof.specs.declared.syntax.Int.{Int}
use Rattle.aplc_cprof.specs.declared.syntax.Int.TheVariants as int
use Rattle.aplc_cprof.specs.declared.syntax.Buf.{Buf}
use Rattle.aplc_cprof.specs.declared.syntax.Buf.TheVariants as buf
use Rattle.aplc_cprof.specs.declared.syntax.Op.TheVariants as op
use Rattle.aplc_cprof.specs.declared.syntax.CExpr.{CExpr}
use Rattle.aplc_cprof.specs.declared.syntax.CExpr.TheVariants as expr
use Rattle.aplc_cprof.specs.declared.syntax.CStmt.{CStmt}
use Rattle.aplc_cprof.specs.declared.syntax.CStmt.TheVariants as stmt
use Rattle.aplc_cprof.specs.Blocks.{Blocks}
use Rattle.aplc_cprof.specs.WellFormed.{Scope, is_int, is_buf, is_expr, inside}
use Rattle.aplc_cprof.specs.Machine.{State, Code, Value, Is, Bad, apply, item_at, at_place, live_cell, table_cell, named_buf, read_int, value}
use Rattle.aplc_cprof.specs.Frames.{IsFresh, AreGiven, Hold, live}
use Rattle.aplc_cprof.specs.Emitted.{on_values, joint, IsWithin, AreInts, IsFormed}
use Rattle.aplc_cprof.proofs.Values.{value_Var, value_Bin, value_Cell, value_Table}
use Rattle.aplc_cprof.proofs.Forms.{is_Table}
use Rattle.aplc_cprof.proofs.Frames.{stays_none, given_left, given_right}
use Rattle.aplc_cprof.proofs.Emitted.{both_true, is_below, one_inside, bin_formed, on_values_formed, var_formed, cell_formed, one_stmt, set_formed, within_left, within_right}
use Rattle.aplc_collect.specs.Elements.{Yields, Emits, scope_of, scope_of_buf, number_of, one_step}
use Rattle.aplc_collect.specs.ElementLaws.{some_is, not_none}
use Rattle.aplc_collect.proofs.Elements.{set_yields, scope_declared}
use Rattle.aplc_step.specs.declared.stepper.Origin.{Origin}
use Rattle.aplc_step.specs.declared.stepper.Origin.TheVariants as origin
use Rattle.aplc_step.specs.Steppers.{cells_at, origin_scope, origin_expr, scope_of_all, stepper_scope, address_expr, address_value, cell_at, stepper_test}

-- ---- Values

address_is : (tables : List (List ℤ)) (s : State) (e : CExpr) (a : Value) (xs at : List Int) (is : List ℕ) → value e tables s ≡ a → Hold s at is → value (address_expr e xs at) tables s ≡ address_value s a xs is
address_is tables s e a [] at is h hold = h
address_is tables s e a (x ∷ xs) [] [] h hold = h
address_is tables s e a (x ∷ xs) [] (i ∷ is) h hold = absurd hold
address_is tables s e a (x ∷ xs) (y ∷ at) [] h hold = absurd hold
address_is tables s e a (x ∷ xs) (y ∷ at) (i ∷ is) h hold =
    let term : value (on_values op.Mul y x) tables s ≡ apply op.Mul (Is (pos i)) (read_int x s) =
    value_Bin op.Mul (expr.Var y) (expr.Var x) tables s ∙ ap (λ v. apply op.Mul v (value (expr.Var x) tables s)) (value_Var y tables s ∙ hold.0) ∙ ap (λ v. apply op.Mul (Is (pos i)) v) (value_Var x tables s) in
    address_is tables s (expr.Bin op.Add e (on_values op.Mul y x)) (apply op.Add a (apply op.Mul (Is (pos i)) (read_int x s))) xs at is
    (value_Bin op.Add e (on_values op.Mul y x) tables s ∙ ap (λ v. apply op.Add v (value (on_values op.Mul y x) tables s)) h ∙ ap (λ v. apply op.Add a v) term)
    hold.1

-- a value that is a number of the range
record IsNumber (v : Value) (r : Given) : Type 0 where
  pub number : ℤ
  pub is : v ≡ Is number
  pub given : r ≡ Ok number

abbrev number_when : Bool → ℤ → Option Given
number_when b y = cond b (Some (Ok y)) None

of_number : (v : Value) (r : Given) → number_of v ≡ Some r → IsNumber v r
of_number (Bad c) r e = absurd (not_none r e)
of_number (Is y) r e = by_range (in_range y) e
  where
    by_range : (b : Bool) → number_when b y ≡ Some r → IsNumber (Is y) r
    by_range true h = record { number = y; is = refl; given = sym (some_is (Ok y) r h) }
    by_range false h = absurd (not_none r h)

of_cell : (o : Option (Option (List ℤ))) (a : Value) (r : Given) → cell_at (live o) a ≡ Some r → IsNumber (at_place a (live_cell o)) r
of_cell None a r e = absurd (not_none r e)
of_cell (Some None) a r e = absurd (not_none r e)
of_cell (Some (Some cells)) (Bad c) r e = absurd (not_none r e)
of_cell (Some (Some cells)) (Is k) r e = of_number (item_at cells k) r e

of_entry : (o : Option (List ℤ)) (a : Value) (r : Given) → cell_at o a ≡ Some r → IsNumber (at_place a (table_cell o)) r
of_entry None a r e = absurd (not_none r e)
of_entry (Some cells) (Bad c) r e = absurd (not_none r e)
of_entry (Some cells) (Is k) r e = of_number (item_at cells k) r e

-- the cell at a place that an expression gives
origin_is : (from : Origin) (tables : List (List ℤ)) (s : State) (e : CExpr) (a : Value) (r : Given) → value e tables s ≡ a → cell_at (cells_at from tables s) a ≡ Some r → IsNumber (value (origin_expr from e) tables s) r
origin_is (origin.Buffer p) tables s e a r place test =
    let o : Option (Option (List ℤ)) = option_and_then (slice_get s.heap) (named_buf p s) in
    let n = of_cell o a r test in
    record { number = n.number; is = value_Cell p e tables s ∙ ap (λ v. at_place v (live_cell o)) place ∙ n.is; given = n.given }
origin_is (origin.Table k) tables s e a r place test =
    let n = of_entry (slice_get tables k) a r test in
    record { number = n.number; is = value_Table k e tables s ∙ ap (λ v. at_place v (table_cell (slice_get tables k))) place ∙ n.is; given = n.given }

-- ---- Well-formedness

buf_declared : (p : Buf) (b : Blocks) (sc : Scope) → AreGiven (scope_of_buf p) b → b.bufs ≤ sc.bufs → IsWithin (scope_of_buf p) sc → is_buf sc p ≡ true
buf_declared (buf.Local k) b sc g le w = let i = g.bufs in is_below k sc.bufs (omega (arith, i, le))
buf_declared (buf.Global k) b sc g le w = let i = w.global_bufs in is_below k sc.global_bufs (omega (arith, i))

all_declared : (xs : List Int) (b : Blocks) (sc : Scope) → AreGiven (scope_of_all xs) b → b.ints ≤ sc.ints → IsWithin (scope_of_all xs) sc → AreInts sc xs
all_declared [] b sc g le w = tt
all_declared (x ∷ xs) b sc g le w = (
  scope_declared x b sc (given_left (scope_of x) (scope_of_all xs) b g) le (within_left (scope_of x) (scope_of_all xs) sc w),
  all_declared xs b sc (given_right (scope_of x) (scope_of_all xs) b g) le (within_right (scope_of x) (scope_of_all xs) sc w),
)

address_formed : (sc : Scope) (e : CExpr) (xs at : List Int) (k room : ℕ) → 1 ≤ k → k + length xs ≤ room → AreInts sc xs → AreInts sc at → ((r : ℕ) → k ≤ r → is_expr sc e (Some r) ≡ true) → is_expr sc (address_expr e xs at) (Some room) ≡ true
address_formed sc e [] at k room some le hx ha h = h room (omega (arith, le))
address_formed sc e (x ∷ xs) [] k room some le hx ha h = h room (omega (arith, le))
address_formed sc e (x ∷ xs) (y ∷ at) k room some le hx ha h =
    address_formed sc (expr.Bin op.Add e (on_values op.Mul y x)) xs at (k + 1) room (omega arith) (omega (arith, le)) hx.1 ha.1
    (λ r kr. bin_formed sc op.Add e (on_values op.Mul y x) k r kr h (λ q kq. on_values_formed sc op.Mul y x q (omega (arith, kq, some)) ha.0 hx.0))

origin_formed : (from : Origin) (b : Blocks) (sc : Scope) (e : CExpr) (k room : ℕ) → k + 1 ≤ room → AreGiven (origin_scope from) b → b.bufs ≤ sc.bufs → IsWithin (origin_scope from) sc → ((r : ℕ) → k ≤ r → is_expr sc e (Some r) ≡ true) → is_expr sc (origin_expr from e) (Some room) ≡ true
origin_formed (origin.Buffer p) b sc e k room le g leb w h = cell_formed sc p e k room le (buf_declared p b sc g leb w) h
origin_formed (origin.Table i) b sc e k room le g leb w h =
    let t = w.tables in
    is_Table sc i e (Some room) ∙ both_true (nat_lt i sc.tables) (inside (Some room) (is_expr sc e)) (is_below i sc.tables (omega (arith, t))) (one_inside (is_expr sc e) k room le h)

-- ---- The builder

pub stepper_emits : (from : Origin) (base : Int) (strides at : List Int) (b0 b1 b2 : Blocks) (v : Int) (place cell : CExpr) → AreGiven (stepper_scope from base strides) b0 → v ≡ int.Local b0.ints → b1 ≡ record b0 { ints = b0.ints + 1 } → place ≡ address_expr (expr.Var base) strides at → cell ≡ origin_expr from place → b2 ≡ record b1 { inner = b1.inner ++ stmt.Set v cell ∷ [] } → Emits (stepper_test from base strides) one_step (stepper_scope from base strides) (2 + length strides) b0 b2 at v
stepper_emits from base strides at b0 b1 b2 v place cell given ev e1 es ec e2 = record {
  code = code v;
  grown = record {
    inner = ap (λ (b : Blocks). b.inner) e2 ∙ ap (λ (b : Blocks). b.inner ++ stmt.Set v cell ∷ []) e1 ∙ ap (λ (x : CExpr). b0.inner ++ stmt.Set v x ∷ []) (ec ∙ ap (origin_expr from) es);
    outer = ap (λ (b : Blocks). b.outer) e2 ∙ ap (λ (b : Blocks). b.outer) e1;
    ints = omega (arith, ints2);
    bufs = omega (arith, bufs2);
  };
  fresh = subst (λ (x : Int). IsFresh b0.ints b2.ints x) (sym ev) fresh_is;
  formed = formed_is;
  runs = λ c s is r hold test. subst (λ (x : Int). Yields c b0.ints b0.bufs 1 (code x) s x r) (sym ev) (runs c s is r hold test);
}
  where
    code : Int → List CStmt
    code x = stmt.Set x (origin_expr from (address_expr (expr.Var base) strides at)) ∷ []

    ints2 : b2.ints ≡ b0.ints + 1
    ints2 = ap (λ (b : Blocks). b.ints) e2 ∙ ap (λ (b : Blocks). b.ints) e1

    bufs2 : b2.bufs ≡ b0.bufs
    bufs2 = ap (λ (b : Blocks). b.bufs) e2 ∙ ap (λ (b : Blocks). b.bufs) e1

    fresh_is : IsFresh b0.ints b2.ints (int.Local b0.ints)
    fresh_is = (omega arith, omega (arith, ints2))

    runs : (c : Code) (s : State) (is : List ℕ) (r : Given) → Hold s at is → stepper_test from base strides c.tables s is ≡ Some r → Yields c b0.ints b0.bufs 1 (code (int.Local b0.ints)) s (int.Local b0.ints) r
    runs c s is r hold test =
        let there = address_is c.tables s (expr.Var base) (read_int base s) strides at is (value_Var base c.tables s) hold in
        let n = origin_is from c.tables s (address_expr (expr.Var base) strides at) (address_value s (read_int base s) strides is) r there test in
        set_yields c b0.ints b0.bufs s b0.ints (origin_expr from (address_expr (expr.Var base) strides at)) s r n.number (omega arith) (stays_none b0.ints b0.bufs s) n.is n.given

    formed_is : IsFormed (stepper_scope from base strides) at [] b2 (2 + length strides) (code v)
    formed_is sc room within are bufs more more_bufs le =
        let f = origin_scope from in
        let g = scope_of base in
        let h = scope_of_all strides in
        let names = given_right f (joint g h) b0 given in
        let there = within_right f (joint g h) sc within in
        let le0 : b0.ints ≤ sc.ints = omega (arith, ints2, more) in
        let v_is : is_int sc v ≡ true = ap (is_int sc) ev ∙ is_below b0.ints sc.ints (omega (arith, ints2, more)) in
        let base_is = scope_declared base b0 sc (given_left g h b0 names) le0 (within_left g h sc there) in
        let strides_are = all_declared strides b0 sc (given_right g h b0 names) le0 (within_right g h sc there) in
        one_stmt sc (Some room) (stmt.Set v (origin_expr from (address_expr (expr.Var base) strides at))) []
        (set_formed sc (Some room) v (origin_expr from (address_expr (expr.Var base) strides at)) v_is
        (origin_formed from b0 sc (address_expr (expr.Var base) strides at) (1 + length strides) room (omega (arith, le)) (given_left f (joint g h) b0 given) (omega (arith, bufs2, more_bufs)) (within_left f (joint g h) sc within)
        (λ r kr. address_formed sc (expr.Var base) strides at 1 r (omega arith) kr strides_are are (λ q kq. var_formed sc base base_is q))))
        refl

-- ---- The sum of terms

-- one term more
pub one_term : (e : CExpr) (xs at : List Int) (k : ℕ) (x y : Int) → k < length xs → k < length at → address_expr e (drop k xs) (drop k at) ≡ address_expr (expr.Bin op.Add e (on_values op.Mul (slice_index_or at k y) (slice_index_or xs k x))) (drop (k + 1) xs) (drop (k + 1) at)
one_term e xs at k x y lt lt' =
    ap (λ l. address_expr e l (drop k at)) (drop_more xs k x lt) ∙ ap (λ l. address_expr e (slice_index_or xs k x ∷ drop (k + 1) xs) l) (drop_more at k y lt')

-- no strides are left
pub no_term : (e : CExpr) (xs at : List Int) (k : ℕ) → length xs ≤ k → address_expr e (drop k xs) (drop k at) ≡ e
no_term e xs at k le = ap (λ l. address_expr e l (drop k at)) (drop_of_length-le xs le)

-- no indexes are left
pub no_index : (e : CExpr) (xs at : List Int) (k : ℕ) → length at ≤ k → address_expr e (drop k xs) (drop k at) ≡ e
no_index e xs at k le = ap (λ l. address_expr e (drop k xs) l) (drop_of_length-le at le) ∙ none (drop k xs)
  where
    none : (l : List Int) → address_expr e l [] ≡ e
    none [] = refl
    none (x ∷ l) = refl

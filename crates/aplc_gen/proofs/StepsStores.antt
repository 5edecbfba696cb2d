-- A name that is given a value.
use Rattle.std.proofs.Common.{◌≡◌, ℕ, ◌+◌, ◌<◌, ◌≤◌, List, [], ◌∷◌, refl, sym, ap, ◌∙◌, subst, arith, ℤ, pos, Bool, true, false, cond, ◌⊎◌, inl, inr, length, map}
use Rattle.std.specs.Prelude.{Option, Some, ◌||◌, ◌&&◌, nat_eq}
use Rattle.std.proofs.lemmas.Bool.Decides.{eqb_tells}
use Rattle.std.proofs.lemmas.Bool.{eq-eqb, ne_eqb}
use Rattle.aplc_arr.specs.Arrays.{Array}
use Rattle.aplc_cprof.specs.declared.syntax.Int.{Int}
use Rattle.aplc_cprof.specs.declared.syntax.Int.TheVariants as int
use Rattle.aplc_cprof.specs.declared.syntax.CExpr.{CExpr}
use Rattle.aplc_cprof.specs.declared.syntax.CExpr.TheVariants as expr
use Rattle.aplc_cprof.specs.declared.syntax.CStmt.TheVariants as stmt
use Rattle.aplc_cprof.specs.Machine.{Todo, Code, Caller, Is, read_int}
use Rattle.aplc_cprof.specs.Machine as machine
use Rattle.aplc_cprof.proofs.Values.{value_Lit}
use Rattle.aplc_cprof.proofs.Paths.{read_todo}
use Rattle.aplc_cprof.proofs.Rules.{Any, Runs, runs_less, runs_then, runs_none}
use Rattle.aplc_cprof.proofs.Writes.{Written, written_here, written_other}
use Rattle.aplc_names.specs.declared.scope.Scope.{Scope}
use Rattle.aplc_names.specs.declared.scope.Scope.TheVariants as scope
use Rattle.aplc_names.specs.States.{Places, World, is_among, set_name, depth}
use Rattle.aplc_names.specs.Eager.{value_of_name, with_value}
use Rattle.aplc_core.specs.CoreRuns.{Slots}
use Rattle.aplc_gen.specs.Shown.{place_shown}
use Rattle.aplc_gen.specs.Sound.{Ready, is_variable}
use Rattle.aplc_gen.specs.Layouts.{Layout, Site, the_routine, the_frame, place_in, line_place, base, global_base, value_place, flag_place, is_unsure, local_value, local_flag, global_value, global_flag}
use Rattle.aplc_gen.specs.Layouts as layouts
use Rattle.aplc_gen.specs.Emitted.{scope_at, store_code, flag_code, not_known}
use Rattle.aplc_gen.specs.Laid.{has_place, is_counted}
use Rattle.aplc_gen.specs.Relation.{IsNumber, IsHeld, IsNamed, Knows, IsCounted, Here, Bounds, Same, pay, owe, for_line}
use Rattle.aplc_gen.proofs.TreesReads.{knows_same}
use Rattle.aplc_gen.proofs.Writes.{Quiet, quiet_written, quiet_trans, quiet_less, place_below, local_differs, global_differs, sorts_differ, set_does, globals_kept, locals_kept, ready_kept, locals_set, globals_set, counted_other, held_kept}

-- ---- The code

-- the name's variable has the value, its flag is 1 if it has one, and nothing else has changed
pub record IsStored (g : Site) (x : Scope) (n : ℕ) (v : Array) (s t : machine.State) : Type 0 where
  pub quiet : Quiet 2 s t
  pub held : IsHeld (value_place g x n) v t
  pub flag : is_unsure g x n ≡ true → read_int (flag_place g x n) t ≡ Is (pos 1)
  pub other : (y : Int) → (y ≡ value_place g x n → ⊥) → (is_unsure g x n ≡ true → y ≡ flag_place g x n → ⊥) → read_int y t ≡ read_int y s

-- a flag is no name's value
pub flag_apart : (g : Site) (x : Scope) (n : ℕ) → is_variable x ≡ true → has_place g x n ≡ true → flag_place g x n ≡ value_place g x n → ⊥
flag_apart g scope.Local n var place e =
    let f = the_frame g in
    let lt = place_below f.names n place in
    local_differs (length f.names + place_in f.unsure n) (place_in f.names n) (λ e. omega (arith, lt, e)) e
flag_apart g scope.Global n var place e =
    let y = g.layout in
    let lt = place_below y.globals n place in
    global_differs (global_base y + length y.globals + place_in y.unsure n) (global_base y + place_in y.globals n) (λ e. omega (arith, lt, e)) e
flag_apart g (scope.Label z) n var place e = absurd (cc)
flag_apart g (scope.Function j) n var place e = absurd (cc)

module _ (c : Code) (g : Site) (x : Scope) (n : ℕ) (v : Array) (z : ℤ) (number : IsNumber v z) (apart : flag_place g x n ≡ value_place g x n → ⊥) where
  value_stored : (s t : machine.State) → Written (value_place g x n) z s t → (is_unsure g x n ≡ true → read_int (flag_place g x n) s ≡ Is (pos 1)) → IsStored g x n v s t
  value_stored s t w flag = record {
    quiet = quiet_less 1 2 s t (omega arith) (quiet_written (value_place g x n) z s t w);
    held = record { number = z; is = number; value = written_here (value_place g x n) z s t w };
    flag = λ unsure. written_other (value_place g x n) (flag_place g x n) z s t w apart ∙ flag unsure;
    other = λ y ne no. written_other (value_place g x n) y z s t w ne;
  }

  both_stored : (s t u : machine.State) → is_unsure g x n ≡ true → Written (value_place g x n) z s t → Written (flag_place g x n) (pos 1) t u → IsStored g x n v s u
  both_stored s t u unsure w f = record {
    quiet = quiet_trans 1 1 s t u (quiet_written (value_place g x n) z s t w) (quiet_written (flag_place g x n) (pos 1) t u f);
    held = record { number = z; is = number; value = written_other (flag_place g x n) (value_place g x n) (pos 1) t u f (λ e. apart (sym e)) ∙ written_here (value_place g x n) z s t w };
    flag = λ unsure. written_here (flag_place g x n) (pos 1) t u f;
    other = λ y ne no. written_other (flag_place g x n) y (pos 1) t u f (no unsure) ∙ written_other (value_place g x n) y z s t w ne;
  }

  -- a name that is known has its flag
  pub store_does : (known : List ℕ) (e : CExpr) (s : machine.State) (Stop : machine.State → Type 0) → machine.value e c.tables s ≡ Is z → (is_among n known ≡ true → is_unsure g x n ≡ true → read_int (flag_place g x n) s ≡ Is (pos 1)) → Runs c Any (store_code g known x n e) s (IsStored g x n v s) Stop
  store_does known e s Stop is flag =
      runs_then c Any (stmt.Set (value_place g x n) e ∷ []) (flag_code (flag_place g x n) (is_unsure g x n && not_known known n)) s (Written (value_place g x n) z s) (IsStored g x n v s) Stop
      (set_does c (value_place g x n) e s Stop z is)
      (λ t w. by (is_unsure g x n) refl (is_among n known) refl t w)
    where
      none : (t : machine.State) → Written (value_place g x n) z s t → (is_unsure g x n ≡ true → read_int (flag_place g x n) s ≡ Is (pos 1)) → Runs c Any [] t (IsStored g x n v s) Stop
      none t w flag =
          runs_less c Any [] t (λ u. (todo : Todo) × (u ≡ record t { todo = todo })) (IsStored g x n v s) Stop Stop
          (λ u q. subst (λ (o : machine.State). IsStored g x n v s o) (sym q.1) (later q.0)) (λ u q. q)
          (runs_none c Any t (λ u. (todo : Todo) × (u ≡ record t { todo = todo })) Stop (λ rest. (rest, refl)))
        where
          later : (todo : Todo) → IsStored g x n v s (record t { todo = todo })
          later todo =
              let q = value_stored s t w flag in
              record {
                quiet = record { output = q.quiet.output; marks = q.quiet.marks; places = q.quiet.places; callers = q.quiet.callers; input = q.quiet.input; more = q.quiet.more; cost = q.quiet.cost };
                held = held_kept (value_place g x n) v t (record t { todo = todo }) (read_todo (value_place g x n) t todo) q.held;
                flag = λ unsure. read_todo (flag_place g x n) t todo ∙ q.flag unsure;
                other = λ y ne no. read_todo y t todo ∙ q.other y ne no;
              }

      by : (a : Bool) → is_unsure g x n ≡ a → (b : Bool) → is_among n known ≡ b → (t : machine.State) → Written (value_place g x n) z s t → Runs c Any (flag_code (flag_place g x n) (a && cond b false true)) t (IsStored g x n v s) Stop
      by false sure b is t w = none t w (λ unsure. absurd (cc))
      by true unsure true is t w = none t w (flag is)
      by true unsure false is t w =
          runs_less c Any (stmt.Set (flag_place g x n) (expr.Lit (pos 1)) ∷ []) t (Written (flag_place g x n) (pos 1) t) (IsStored g x n v s) Stop Stop
          (λ u f. both_stored s t u unsure w f) (λ u q. q)
          (set_does c (flag_place g x n) (expr.Lit (pos 1)) t Stop (pos 1) (value_Lit (pos 1) c.tables t))

-- ---- The relation

some_below : (y : Layout) → is_counted y.called y.counted ≡ true → y.counted ≡ true → 0 < global_base y
some_below y counts counted = by y.called (subst (λ (t : Bool). is_counted y.called t ≡ true) counted counts)
  where
    by : (js : List ℕ) → is_counted js true ≡ true → 0 < layouts.for_calls js
    by [] h = absurd (cc)
    by (j ∷ js) h = omega arith

counted_stored : (counted : Bool) (S : World) (s t : machine.State) → (counted ≡ true → read_int layouts.depth t ≡ read_int layouts.depth s) → IsCounted counted S s → IsCounted counted S t
counted_stored true S s t same h = same refl ∙ h
counted_stored false S s t same h = tt

-- one name has another value
set_here : (n : ℕ) (v : Array) (f : ℕ → Option Array) → set_name n (Some v) f n ≡ Some v
set_here n v f = ap (λ t. cond t (Some v) (f n)) (eq-eqb n n refl)

set_else : (n m : ℕ) (v : Array) (f : ℕ → Option Array) → (m ≡ n → ⊥) → set_name n (Some v) f m ≡ f m
set_else n m v f ne = ap (λ t. cond t (Some v) (f m)) (ne_eqb n m (λ e. ne (sym e)))

value_here : (x : Scope) (n : ℕ) (v : Array) (S : World) → is_variable x ≡ true → value_of_name x n (with_value x n v S) ≡ Some v
value_here scope.Local n v S var = set_here n v S.locals
value_here scope.Global n v S var = set_here n v S.globals
value_here (scope.Label z) n v S var = absurd (cc)
value_here (scope.Function j) n v S var = absurd (cc)

value_else : (x y : Scope) (n m : ℕ) (v : Array) (S : World) → is_variable x ≡ true → (m ≡ n → ⊥) → value_of_name y m (with_value x n v S) ≡ value_of_name y m S
value_else scope.Local scope.Local n m v S var ne = set_else n m v S.locals ne
value_else scope.Local scope.Global n m v S var ne = refl
value_else scope.Local (scope.Label z) n m v S var ne = refl
value_else scope.Local (scope.Function j) n m v S var ne = refl
value_else scope.Global scope.Local n m v S var ne = refl
value_else scope.Global scope.Global n m v S var ne = set_else n m v S.globals ne
value_else scope.Global (scope.Label z) n m v S var ne = refl
value_else scope.Global (scope.Function j) n m v S var ne = refl
value_else (scope.Label z) y n m v S var ne = absurd (cc)
value_else (scope.Function j) y n m v S var ne = absurd (cc)

pub knows_stored : (g : Site) (known : List ℕ) (n : ℕ) (v : Array) (S : World) → is_variable (scope_at g n) ≡ true → Knows g known S → Knows g (n ∷ known) (with_value (scope_at g n) n v S)
knows_stored g known n v S var h m among = by (eqb_tells m n)
  where
    by : ((nat_eq m n ≡ true) × (m ≡ n)) ⊎ ((nat_eq m n ≡ false) × (m ≡ n → ⊥)) → (a : Array) × (value_of_name (scope_at g m) m (with_value (scope_at g n) n v S) ≡ Some a)
    by (inl e) = (v, ap (λ (i : ℕ). value_of_name (scope_at g i) i (with_value (scope_at g n) n v S)) e.1 ∙ value_here (scope_at g n) n v S var)
    by (inr e) =
        let a = h m (sym (ap (λ t. t || is_among m known) e.0) ∙ among) in
        (a.0, value_else (scope_at g n) (scope_at g m) n m v S var e.1 ∙ a.1)

pub among_more : (n : ℕ) (xs ys : List ℕ) → ((i : ℕ) → is_among i xs ≡ true → is_among i ys ≡ true) → (i : ℕ) → is_among i (n ∷ xs) ≡ true → is_among i (n ∷ ys) ≡ true
among_more n xs ys sub i among = by (eqb_tells i n)
  where
    by : ((nat_eq i n ≡ true) × (i ≡ n)) ⊎ ((nat_eq i n ≡ false) × (i ≡ n → ⊥)) → is_among i (n ∷ ys) ≡ true
    by (inl e) = ap (λ t. t || is_among i ys) e.0
    by (inr e) = ap (λ t. t || is_among i ys) e.0 ∙ sub i (sym (ap (λ t. t || is_among i xs) e.0) ∙ among)

module _ (g : Site) (b : Bounds) (known : List ℕ) (r : Ready) (slots : Slots) (ps : Places) (cs : List Caller) (n : ℕ) (v : Array) (S : World) (s t : machine.State) where
  abbrev Behind : World → Type 0
  Behind T = Here g (owe 2 b) (n ∷ known) (record r { stored = n ∷ r.stored }) slots ps cs T t

  -- a local name
  local_stored : scope_at g n ≡ scope.Local → is_among n (the_frame g).names ≡ true → IsStored g scope.Local n v s t → Here g b known r slots ps cs S s → Behind (with_value scope.Local n v S)
  local_stored is place q h =
      let more = q.quiet.more in
      let cost = q.quiet.cost in
      let count = h.common.count in
      let taken = h.common.taken in
      record {
        common = record {
          globals = globals_kept g.layout S s t (λ i le. global i) h.common.globals;
          counted = counted_other g.layout.counted S (with_value scope.Local n v S) t refl (counted_stored g.layout.counted S s t (λ counted. global 0) h.common.counted);
          output = q.quiet.output ∙ h.common.output;
          marks = q.quiet.marks ∙ h.common.marks;
          behind = ap (λ (ps : machine.Places). ps.behind) q.quiet.places ∙ h.common.behind;
          input = q.quiet.input ∙ h.common.input;
          below = h.common.below;
          count = omega (arith, more, count);
          taken = omega (arith, cost, taken);
          set = h.common.set;
        };
        locals = locals_set g n v S (with_value scope.Local n v S) s t refl q.held q.flag q.other place h.locals;
        knows = subst (λ (x : Scope). Knows g (n ∷ known) (with_value x n v S)) is (knows_stored g known n v S (ap is_variable is) h.knows);
        stored = among_more n r.stored known h.stored;
        ready = ready_kept g r slots s t (λ i more lt. inside i more) h.ready;
        here = ap (λ (ps : machine.Places). ps.here) q.quiet.places ∙ h.here;
        places = h.places;
        callers = q.quiet.callers ∙ h.callers;
      }
    where
      global : (i : ℕ) → read_int (int.Global i) t ≡ read_int (int.Global i) s
      global i = q.other (int.Global i) (λ e. sorts_differ (place_in (the_frame g).names n) i (sym e)) (λ u e. sorts_differ (length (the_frame g).names + place_in (the_frame g).unsure n) i (sym e))

      inside : (i : ℕ) → line_place g < i → read_int (int.Local i) t ≡ read_int (int.Local i) s
      inside i more =
          let f = the_frame g in
          let lt = place_below f.names n place in
          q.other (int.Local i) (local_differs i (place_in f.names n) (λ e. omega (arith, lt, more, e)))
          (λ u. let low = place_below f.unsure n u in local_differs i (length f.names + place_in f.unsure n) (λ e. omega (arith, low, more, e)))

  -- a global one
  global_stored : scope_at g n ≡ scope.Global → is_counted g.layout.called g.layout.counted ≡ true → is_among n g.layout.globals ≡ true → IsStored g scope.Global n v s t → Here g b known r slots ps cs S s → Behind (with_value scope.Global n v S)
  global_stored is counts place q h =
      let more = q.quiet.more in
      let cost = q.quiet.cost in
      let count = h.common.count in
      let taken = h.common.taken in
      record {
        common = record {
          globals = globals_set g.layout n v S (with_value scope.Global n v S) s t refl q.held q.flag q.other place h.common.globals;
          counted = counted_other g.layout.counted S (with_value scope.Global n v S) t refl (counted_stored g.layout.counted S s t zero_kept h.common.counted);
          output = q.quiet.output ∙ h.common.output;
          marks = q.quiet.marks ∙ h.common.marks;
          behind = ap (λ (ps : machine.Places). ps.behind) q.quiet.places ∙ h.common.behind;
          input = q.quiet.input ∙ h.common.input;
          below = h.common.below;
          count = omega (arith, more, count);
          taken = omega (arith, cost, taken);
          set = λ i e. set_still i e (eqb_tells i n);
        };
        locals = locals_kept g S s t (λ i lt. own i) h.locals;
        knows = subst (λ (x : Scope). Knows g (n ∷ known) (with_value x n v S)) is (knows_stored g known n v S (ap is_variable is) h.knows);
        stored = among_more n r.stored known h.stored;
        ready = ready_kept g r slots s t (λ i more lt. own i) h.ready;
        here = ap (λ (ps : machine.Places). ps.here) q.quiet.places ∙ h.here;
        places = h.places;
        callers = q.quiet.callers ∙ h.callers;
      }
    where
      y : Layout
      y = g.layout

      own : (i : ℕ) → read_int (int.Local i) t ≡ read_int (int.Local i) s
      own i = q.other (int.Local i) (sorts_differ i (global_base y + place_in y.globals n)) (λ u. sorts_differ i (global_base y + length y.globals + place_in y.unsure n))

      zero_kept : y.counted ≡ true → read_int layouts.depth t ≡ read_int layouts.depth s
      zero_kept counted =
          let some = some_below y counts counted in
          q.other layouts.depth (global_differs 0 (global_base y + place_in y.globals n) (λ e. omega (arith, e, some))) (λ u. global_differs 0 (global_base y + length y.globals + place_in y.unsure n) (λ e. omega (arith, e, some)))

      set_still : (i : ℕ) → b.set i ≡ true → ((nat_eq i n ≡ true) × (i ≡ n)) ⊎ ((nat_eq i n ≡ false) × (i ≡ n → ⊥)) → (a : Array) × (set_name n (Some v) S.globals i ≡ Some a)
      set_still i e (inl same) = (v, ap (set_name n (Some v) S.globals) same.1 ∙ set_here n v S.globals)
      set_still i e (inr ne) = let a = h.common.set i e in (a.0, set_else n i v S.globals ne.1 ∙ a.1)

  -- any variable
  pub name_stored : is_variable (scope_at g n) ≡ true → is_counted g.layout.called g.layout.counted ≡ true → has_place g (scope_at g n) n ≡ true → IsStored g (scope_at g n) n v s t → Here g b known r slots ps cs S s → Behind (with_value (scope_at g n) n v S)
  name_stored var counts place q h = by (scope_at g n) refl var place q
    where
      by : (x : Scope) → scope_at g n ≡ x → is_variable x ≡ true → has_place g x n ≡ true → IsStored g x n v s t → Behind (with_value x n v S)
      by scope.Local is var place q = local_stored is place q h
      by scope.Global is var place q = global_stored is counts place q h
      by (scope.Label z) is var place q = absurd (cc)
      by (scope.Function j) is var place q = absurd (cc)

  -- where the source has worked, and nothing else has changed
  pub here_worked : (T : World) → Same S T → S.work + 1 ≤ T.work → Here g b known r slots ps cs S t → Here g (pay for_line b) known r slots ps cs T t
  here_worked T same work h =
      let left = same.left in
      let below = h.common.below in
      let count = h.common.count in
      let taken = h.common.taken in
      record {
        common = record {
          globals = λ i among. subst (λ (f : ℕ → Option Array). IsNamed (is_among i g.layout.unsure) (global_value g.layout i) (global_flag g.layout i) (f i) t) (sym same.globals) (h.common.globals i among);
          counted = counted_other g.layout.counted S T t (ap depth same.places) h.common.counted;
          output = h.common.output ∙ sym same.output;
          marks = h.common.marks ∙ ap (map place_shown) (sym same.marks);
          behind = h.common.behind ∙ ap (λ (ps : Places). map place_shown ps.behind) (sym same.places);
          input = h.common.input ∙ sym same.input;
          below = omega (arith, left, below);
          count = omega (arith, left, count);
          taken = omega (arith, work, taken);
          set = λ i e. let a = h.common.set i e in (a.0, ap (λ (f : ℕ → Option Array). f i) same.globals ∙ a.1);
        };
        locals = λ i among. subst (λ (f : ℕ → Option Array). IsNamed (is_among i (the_frame g).unsure) (local_value g i) (local_flag g i) (f i) t) (sym same.locals) (h.locals i among);
        knows = knows_same g known S T same h.knows;
        stored = h.stored;
        ready = h.ready;
        here = h.here ∙ ap (λ (ps : Places). place_shown ps.here) (sym same.places);
        places = same.places ∙ h.places;
        callers = h.callers;
      }

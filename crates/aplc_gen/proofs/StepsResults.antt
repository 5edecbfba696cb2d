-- Behind a call: the relation again, and the result that goes into a slot.
use Rattle.std.proofs.Common.{◌≡◌, ℕ, ◌≤◌, List, [], ◌∷◌, ◌++◌, refl, sym, ap, ◌∙◌, subst, arith, ℤ, pos, Bool, true, false}
use Rattle.std.specs.Prelude.{Option, Some, None, is_some, nat_lt}
use Rattle.aplc_scalar.specs.declared.kind.FaultKind.TheVariants as fault
use Rattle.aplc_arr.specs.Arrays.{Array, product}
use Rattle.aplc_cprof.specs.declared.syntax.Int.TheVariants as int
use Rattle.aplc_cprof.specs.declared.syntax.CExpr.TheVariants as expr
use Rattle.aplc_cprof.specs.declared.syntax.CStmt.{CStmt}
use Rattle.aplc_cprof.specs.declared.syntax.CStmt.TheVariants as stmt
use Rattle.aplc_cprof.specs.Machine.{Todo, Code, Caller, Is, or_unset, read_int, settled}
use Rattle.aplc_cprof.specs.Machine as machine
use Rattle.aplc_cprof.proofs.Values.{value_Var}
use Rattle.aplc_cprof.proofs.Rules.{Any, FaultsAt, runs_less, runs_none, runs_then}
use Rattle.aplc_cprof.proofs.Writes.{Written}
use Rattle.aplc_names.specs.declared.scope.Scope.{Scope}
use Rattle.aplc_names.specs.declared.scope.Scope.TheVariants as scope
use Rattle.aplc_names.specs.States.{Places, World, State, Outcome, Gives, and_then, is_among, on_world, worked}
use Rattle.aplc_names.specs.Eager.{Context, Use, scalar, value_of_name}
use Rattle.aplc_core.specs.PlainSteps.{Call}
use Rattle.aplc_core.specs.CoreRuns.{Slots, CoreRoutine, set_slot, returned}
use Rattle.aplc_gen.specs.Shown.{place_shown}
use Rattle.aplc_gen.specs.Sound.{Ready, keeping, ready_after, both_or_none}
use Rattle.aplc_gen.specs.Layouts.{Site, Layout, the_frame, slot_place, local_value, local_flag}
use Rattle.aplc_gen.specs.Layouts as layouts
use Rattle.aplc_gen.specs.Emitted.{scope_at, guard, got_code}
use Rattle.aplc_gen.specs.Laid.{is_laid_slot}
use Rattle.aplc_gen.specs.Relation.{IsHeld, IsNamed, IsResult, Common, Here, Bounds, Shows, Returned, Sim, pay, owe, for_line}
use Rattle.aplc_gen.proofs.Writes.{locals_kept, ready_kept, set_does, here_looser, Looser, here_settled, here_todo}
use Rattle.aplc_gen.proofs.Values.{ready_given}
use Rattle.aplc_gen.proofs.Checks.{guard_passes, guard_faults}
use Rattle.aplc_gen.proofs.NamesRead.{shows_here}
use Rattle.aplc_gen.proofs.TreesReads.{sim_given, sim_fault}
use Rattle.aplc_gen.proofs.StepsSlots.{here_slot, slot_below}
use Rattle.aplc_gen.proofs.StepsStores.{here_worked}
use Rattle.aplc_gen.proofs.StepsPasses.{sim_after}

-- ---- What a call leaves

-- the global names that have a value
abbrev pub set_in : World → ℕ → Bool
set_in S i = is_some (S.globals i)

-- what is known while a call runs
abbrev pub within : World → Bounds → Bounds
within S b = record b { set = set_in S }

pub value_some : (o : Option Array) → is_some o ≡ true → (v : Array) × (o ≡ Some v)
value_some None h = absurd (cc)
value_some (Some v) h = (v, refl)

still_set : (x : Scope) (m : ℕ) (S T : World) → T.locals ≡ S.locals → ((i : ℕ) → set_in S i ≡ true → (v : Array) × (T.globals i ≡ Some v)) → (v : Array) × (value_of_name x m S ≡ Some v) → (v : Array) × (value_of_name x m T ≡ Some v)
still_set scope.Local m S T locals set h = (h.0, ap (λ (f : ℕ → Option Array). f m) locals ∙ h.1)
still_set scope.Global m S T locals set h = set m (ap is_some h.1)
still_set (scope.Label z) m S T locals set h = (scalar z, refl)
still_set (scope.Function j) m S T locals set h = absurd (cc)

-- the relation before the call, for the function
pub common_within : (y : Layout) (b : Bounds) (S : World) (s : machine.State) → Common y b S s → Common y (within S b) S s
common_within y b S s h = record { globals = h.globals; counted = h.counted; output = h.output; marks = h.marks; behind = h.behind; input = h.input; below = h.below; count = h.count; taken = h.taken; set = λ i e. value_some (S.globals i) e }

-- and behind it
pub here_returned : (g : Site) (b : Bounds) (known : List ℕ) (r : Ready) (slots : Slots) (ps : Places) (cs : List Caller) (j : ℕ) (f : CoreRoutine) (S : State) (s : machine.State) (o : Option Array) (T : State) (t : machine.State) →
    Returned g.layout j f (within S.world b) S s o T t → Here g b known r slots ps cs S.world s → Here g (pay for_line b) known r slots ps cs T.world t
here_returned g b known r slots ps cs j f S s o T t q h = record {
  common = record {
    globals = q.common.globals;
    counted = q.common.counted;
    output = q.common.output;
    marks = q.common.marks;
    behind = q.common.behind;
    input = q.common.input;
    below = q.common.below;
    count = q.common.count;
    taken = q.common.taken;
    set = λ i e. q.common.set i (ap is_some (h.common.set i e).1);
  };
  locals = λ i among. subst (λ (f : ℕ → Option Array). IsNamed (is_among i (the_frame g).unsure) (local_value g i) (local_flag g i) (f i) t) (sym q.locals) (locals_kept g S.world s t (λ x lt. own x) h.locals i among);
  knows = λ m among. still_set (scope_at g m) m S.world T.world q.locals q.common.set (h.knows m among);
  stored = h.stored;
  ready = ready_kept g r slots s t (λ x more lt. own x) h.ready;
  here = q.here ∙ h.here ∙ ap (λ (ps : Places). place_shown ps.here) (sym q.places);
  places = q.places ∙ h.places;
  callers = q.callers ∙ h.callers;
}
  where
    own : (x : ℕ) → read_int (int.Local x) t ≡ read_int (int.Local x) s
    own x = ap (λ (f : ℕ → Option ℤ). or_unset (f x)) q.ints

-- ---- The result

more_paid : (d : ℕ) (b : Bounds) → d ≤ 2 → Looser (pay for_line (owe d b)) (owe 2 b)
more_paid d b le = record { lines = omega arith; fuel = omega arith; credit = omega (arith, le); set = λ n h. h }

module _ (c : Code) (w : ℕ) (g : Site) (b : Bounds) (known : List ℕ) (rd : Ready) (slots : Slots) (ps : Places) (cs : List Caller) (x : Context) (u : Use) (i n : ℕ) (a d : Option ℕ) where
  abbrev Behind : Option ℕ → Slots → State → machine.State → Type 0
  Behind r later T t = Here g (owe 2 b) known (ready_after rd (Call i n a d r)) later ps cs T.world t

  -- into a slot, from its variable
  taken_does : (k : ℕ) (e : Bounds) (v : Array) (S : State) (s : machine.State) → Looser (pay for_line (owe 1 e)) (owe 2 b) → nat_lt k (the_frame g).slots ≡ true → IsHeld layouts.result v s → Here g e known rd slots ps cs S.world s → Sim c w (stmt.Set (int.Local (slot_place g k)) (expr.Var layouts.result) ∷ []) s (returned x i u (Some k) (Some v) slots S) (Behind (Some k))
  taken_does k e v S s loose lt held h =
      let q = ready_given x i u (product v.shape) v S in
      let z = held.number in
      let code : List CStmt = stmt.Set (int.Local (slot_place g k)) (expr.Var layouts.result) ∷ [] in
      let later = set_slot k i v slots in
      sim_given c w code s (returned x i u (Some k) (Some v) slots S) (Behind (Some k)) later q.to (ap (λ (o : Outcome Array). and_then o (λ v T. Gives (set_slot k i v slots) T)) q.is)
      (runs_less c Any code s (Written (int.Local (slot_place g k)) z s) (Behind (Some k) later q.to) (λ t. ⊥) (λ t. ⊥)
      (λ t wr.
      here_looser g (pay for_line (owe 1 e)) (owe 2 b) known (keeping k i rd) later ps cs q.to.world t loose
      (here_worked g (owe 1 e) known (keeping k i rd) later ps cs 0 v S.world s t q.to.world q.same q.work
      (here_slot g e known rd slots ps cs S.world s t k i v z (slot_below k (the_frame g).slots lt) held.is wr h)))
      (λ t none. none)
      (set_does c (int.Local (slot_place g k)) (expr.Var layouts.result) s (λ t. ⊥) z (value_Var layouts.result c.tables s ∙ held.value)))

  pub got_does : (giving : Bool) (res r : Option ℕ) (o : Option Array) (S : State) (s : machine.State) → both_or_none r res ≡ true → is_laid_slot g r ≡ true → IsResult giving res o s → Here g b known rd slots ps cs S.world s → Sim c w (got_code g giving r) s (returned x i u r o slots S) (Behind r)
  got_does giving None None o S s suits laid is h =
      sim_given c w [] s (returned x i u None o slots S) (Behind None) slots (on_world (worked 1) S) refl
      (runs_none c Any s (Behind None slots (on_world (worked 1) S)) (λ t. ⊥)
      (λ rest.
      here_looser g (pay for_line b) (owe 2 b) known rd slots ps cs (worked 1 S.world) (record s { todo = rest }) (record { lines = omega arith; fuel = omega arith; credit = omega arith; set = λ n h. h })
      (here_worked g b known rd slots ps cs 0 (scalar (pos 0)) S.world s (record s { todo = rest }) (worked 1 S.world) (record { globals = refl; locals = refl; places = refl; left = refl; input = refl; output = refl; marks = refl }) (omega arith)
      (here_todo g b known rd slots ps cs S.world s rest h))))
  got_does giving (Some m) None o S s suits laid is h = absurd (cc)
  got_does giving None (Some k) o S s suits laid is h = absurd (cc)
  got_does true (Some m) (Some k) None S s suits laid is h = absurd is
  got_does true (Some m) (Some k) (Some v) S s suits laid is h = taken_does k b v S s (more_paid 1 b (omega arith)) laid is h
  got_does false (Some m) (Some k) None S s suits laid is h =
      let last : List CStmt = stmt.Set (int.Local (slot_place g k)) (expr.Var layouts.result) ∷ [] in
      let Stop : machine.State → Type 0 = λ t. FaultsAt c fault.Value t × Shows S.world t in
      sim_fault c w (guard layouts.result_flag ++ last) s (returned x i u (Some k) None slots S) (Behind (Some k)) fault.Value S refl
      (runs_then c Any (guard layouts.result_flag) last s (λ t. ⊥) (λ t. ⊥) Stop
      (guard_faults c layouts.result_flag s (λ t. ⊥) Stop is (λ todo stops. (stops, shows_here g (owe 1 b) known rd slots ps cs S.world (settled (record s { todo = todo })) (here_settled g b known rd slots ps cs S.world s todo h))))
      (λ t none. absurd none))
  got_does false (Some m) (Some k) (Some v) S s suits laid (held, flag) h =
      let last : List CStmt = stmt.Set (int.Local (slot_place g k)) (expr.Var layouts.result) ∷ [] in
      let Mid : machine.State → Type 0 = λ t. IsHeld layouts.result v t × Here g (owe 1 b) known rd slots ps cs S.world t in
      sim_after c w (guard layouts.result_flag) last s Mid (returned x i u (Some k) (Some v) slots S) (Behind (Some k))
      (λ Stop. guard_passes c layouts.result_flag s Mid Stop flag (λ rest. (record { number = held.number; is = held.is; value = held.value }, here_settled g b known rd slots ps cs S.world s rest h)))
      (λ t q. taken_does k (owe 1 b) v S t (record { lines = omega arith; fuel = omega arith; credit = omega arith; set = λ n h. h }) laid q.0 q.1)

-- A step that calls a function.
use Rattle.std.proofs.Common.{◌≡◌, ℕ, ◌+◌, ◌<◌, ◌≤◌, List, [], ◌∷◌, ◌++◌, refl, sym, ap, subst, arith, true, false}
use Rattle.std.specs.Prelude.{Option, Some, None, option_map, nat_lt, slice_get, unwrap_or, ◌&&◌}
use Rattle.std.proofs.lemmas.Bool.Decides.{nat_tests}
use Rattle.aplc_arr.specs.Arrays.{Array}
use Rattle.aplc_cprof.specs.declared.syntax.CStmt.{CStmt}
use Rattle.aplc_cprof.specs.declared.syntax.CStmt.TheVariants as stmt
use Rattle.aplc_cprof.specs.Machine.{Code, Caller}
use Rattle.aplc_cprof.specs.Machine as machine
use Rattle.aplc_names.specs.States.{Places, State, Marking, Outcome, and_then, is_among, depth, on_account, released}
use Rattle.aplc_names.specs.Eager.{function_of}
use Rattle.aplc_core.specs.PlainSteps.{Call}
use Rattle.aplc_core.specs.CoreRuns.{Told, Slots, CoreRoutine, no_core, use_in, kept_in, value_of, held_for_kept, returned, step_done, core_called, core_context, core_run}
use Rattle.aplc_gen.specs.Sound.{Ready, is_kept, both_or_none, suits, is_effect, ready_after}
use Rattle.aplc_gen.specs.Layouts.{Layout, Site, the_routine, routine_at, frame_of, function_place, global_base, right_passed, left_passed}
use Rattle.aplc_gen.specs.Layouts as layouts
use Rattle.aplc_gen.specs.Emitted.{pass_code, got_code, is_giving, step_code}
use Rattle.aplc_gen.specs.Laid.{is_laid_slot, is_laid_step, step_falls}
use Rattle.aplc_gen.specs.Relation.{Passed, Here, Bounds, Returned, HasRoom, Sim, CallsDo, pay, owe, for_line}
use Rattle.aplc_gen.proofs.Frames.{and_left, and_right}
use Rattle.aplc_gen.proofs.Trees.{sim_then}
use Rattle.aplc_gen.proofs.StepsPasses.{IsPassed, pass_does, passed_stays, sim_after}
use Rattle.aplc_gen.proofs.StepsResults.{within, common_within, here_returned, got_does}

some_base : (y : Layout) (j : ℕ) → is_among j y.called ≡ true → global_base y ≡ 5
some_base y j h = by y.called h
  where
    by : (js : List ℕ) → is_among j js ≡ true → layouts.for_calls js ≡ 5
    by [] h = absurd (cc)
    by (i ∷ js) h = refl

some_routine : (a b r : Option ℕ) (o : Option CoreRoutine) → suits a b r o ≡ true → o ≡ Some (unwrap_or o no_core)
some_routine a b r None h = absurd (cc)
some_routine a b r (Some f) h = refl

suits_header : (a b r : Option ℕ) (o : Option CoreRoutine) → suits a b r o ≡ true → (both_or_none a (unwrap_or o no_core).header.left && (both_or_none b (unwrap_or o no_core).header.right && both_or_none r (unwrap_or o no_core).header.result)) ≡ true
suits_header a b r None h = absurd (cc)
suits_header a b r (Some f) h = h

lt_of : (a b : ℕ) → nat_lt a b ≡ true → a < b
lt_of a b h = grind (arith, nat_tests)

module _ (c : Code) (w : ℕ) (m : Marking) (rank : ℕ → ℕ) (k : ℕ) (g : Site) (calls : CallsDo c w g.program g.layout m rank k) where
  pub call_does : (l : Told) (b : Bounds) (known : List ℕ) (r : Ready) (slots : Slots) (ps : Places) (cs : List Caller) (i n : ℕ) (a d o : Option ℕ) (S : State) (s : machine.State) →
      w ≤ b.lines → b.fuel ≡ k → HasRoom g.layout rank g.number ps →
      is_effect g.program (the_routine g).header.scope l r (Call i n a d o) ≡ true → is_laid_step g known (Call i n a d o) ≡ true →
      (g.layout.counted ≡ false → step_falls rank g.number (the_routine g) (Call i n a d o) ≡ true) →
      Here g b known r slots ps cs S.world s →
      Sim c w (step_code g known (Call i n a d o)) s (step_done (core_context g.program m (core_run g.program m k) (the_routine g)) l (Call i n a d o) slots S) (λ later T t. Here g (owe 2 (pay for_line (owe 1 (owe 1 b)))) known (ready_after r (Call i n a d o)) later ps cs T.world t)
  call_does l b known r slots ps cs i n a d o S s lines fuel room ok laid falls h =
      sim_after c w (pass_code g left_passed a) (pass_code g right_passed d ++ (stmt.Call (function_place y j) ∷ got)) s (IsPassed c g b known r slots ps cs S.world 2 f.header.left a s) Out Post
      (λ Stop. pass_does c g b known r slots ps cs S.world 2 f.header.left a s Stop (and_left (both_or_none a f.header.left) (both_or_none d f.header.right && both_or_none o f.header.result) header) (and_left (is_kept r a) (is_kept r d) kept) (omega arith) (omega (arith, five)) h)
      (λ t p.
      sim_after c w (pass_code g right_passed d) (stmt.Call (function_place y j) ∷ got) t (IsPassed c g (owe 1 b) known r slots ps cs S.world 1 f.header.right d t) Out Post
      (λ Stop. pass_does c g (owe 1 b) known r slots ps cs S.world 1 f.header.right d t Stop (and_left (both_or_none d f.header.right) (both_or_none o f.header.result) (and_right (both_or_none a f.header.left) (both_or_none d f.header.right && both_or_none o f.header.result) header)) (and_right (is_kept r a) (is_kept r d) kept) (omega arith) (omega (arith, five)) p.here)
      (λ u q. called u q.here (passed_stays 2 f.header.left (option_map value_of (kept_in slots a)) t u (q.other 2 (λ e. absurd (cc))) p.passed) q.passed))
    where
      y : Layout
      y = g.layout

      j : ℕ
      j = function_of ((the_routine g).header.scope n)

      f : CoreRoutine
      f = routine_at g.program j

      got : List CStmt
      got = got_code g (is_giving (frame_of y j).sure f.header.result) o

      before : State
      before = on_account (released (held_for_kept m (kept_in slots a) + held_for_kept m (kept_in slots d))) S

      left : Option Array
      left = option_map value_of (kept_in slots a)

      right : Option Array
      right = option_map value_of (kept_in slots d)

      Out : Outcome Slots
      Out = step_done (core_context g.program m (core_run g.program m k) (the_routine g)) l (Call i n a d o) slots S

      Post : Slots → State → machine.State → Type 0
      Post later T t = Here g (owe 2 (pay for_line (owe 1 (owe 1 b)))) known (ready_after r (Call i n a d o)) later ps cs T.world t

      fits : suits a d o (slice_get g.program.routines j) ≡ true
      fits = and_left (suits a d o (slice_get g.program.routines j)) (is_kept r a && is_kept r d) ok

      kept : (is_kept r a && is_kept r d) ≡ true
      kept = and_right (suits a d o (slice_get g.program.routines j)) (is_kept r a && is_kept r d) ok

      header : (both_or_none a f.header.left && (both_or_none d f.header.right && both_or_none o f.header.result)) ≡ true
      header = suits_header a d o (slice_get g.program.routines j) fits

      is : slice_get g.program.routines j ≡ Some f
      is = some_routine a d o (slice_get g.program.routines j) fits

      among : is_among j y.called ≡ true
      among = and_left (is_among j y.called) (is_laid_slot g a && (is_laid_slot g d && is_laid_slot g o)) laid

      laid_result : is_laid_slot g o ≡ true
      laid_result = and_right (is_laid_slot g d) (is_laid_slot g o) (and_right (is_laid_slot g a) (is_laid_slot g d && is_laid_slot g o) (and_right (is_among j y.called) (is_laid_slot g a && (is_laid_slot g d && is_laid_slot g o)) laid))

      five : global_base y ≡ 5
      five = some_base y j among

      low : depth S.world.places ≡ depth ps
      low = ap depth h.places

      next : Option Array → State → Outcome Slots
      next v T = returned (core_context g.program m (core_run g.program m k) (the_routine g)) i (use_in l i) o v slots T

      out_is : and_then (core_called (core_run g.program m k) (Some f) left right before) next ≡ Out
      out_is = ap (λ (x : Option CoreRoutine). and_then (core_called (core_run g.program m k) x left right before) next) (sym is)

      fine : y.counted ≡ false → depth S.world.places + 1 + rank j ≤ 4096
      fine none =
          let shallow = room.shallow none in
          let lower = lt_of (rank j) (rank g.number) (falls none) in
          omega (arith, shallow, lower, low)

      called : (u : machine.State) → Here g (owe 1 (owe 1 b)) known r slots ps cs S.world u → Passed f.header.left left_passed left u → Passed f.header.right right_passed right u → Sim c w (stmt.Call (function_place y j) ∷ got) u Out Post
      called u hu one two =
          let few = room.few in
          let inner = owe 1 (owe 1 b) in
          subst (λ (x : Outcome Slots). Sim c w (stmt.Call (function_place y j) ∷ got) u x Post) out_is
          (sim_then c w (stmt.Call (function_place y j) ∷ []) got u (core_called (core_run g.program m k) (Some f) left right before) next (Returned y j f (within S.world inner) before u) Post
          (calls j f left right (within S.world inner) before u lines fuel is among (omega (arith, few, low)) fine (common_within y inner S.world u hu.common) hu.here one two)
          (λ v T t q.
          got_does c w g (pay for_line inner) known r slots ps cs (core_context g.program m (core_run g.program m k) (the_routine g)) (use_in l i) i n a d (is_giving (frame_of y j).sure f.header.result) f.header.result o v T t
          (and_right (both_or_none d f.header.right) (both_or_none o f.header.result) (and_right (both_or_none a f.header.left) (both_or_none d f.header.right && both_or_none o f.header.result) header)) laid_result q.result
          (here_returned g inner known r slots ps cs j f before u v T t q hu)))

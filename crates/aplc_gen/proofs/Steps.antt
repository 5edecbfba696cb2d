-- The code of a step that is no branch does what the step does.
use Rattle.std.proofs.Common.{◌≡◌, ℕ, ◌≤◌, List, refl, sym, subst, arith, true, false}
use Rattle.std.specs.Prelude.{Some, None, nat_lt}
use Rattle.aplc_cprof.specs.Machine.{Code, Caller}
use Rattle.aplc_cprof.specs.Machine as machine
use Rattle.aplc_cprof.proofs.Matching.{matches_less}
use Rattle.aplc_cprof.proofs.Rules.{Any}
use Rattle.aplc_names.specs.States.{Places, State, Marking}
use Rattle.aplc_core.specs.PlainSteps.{Effect, Keep, Store, StoreAt, Call, ReadText, ReadNums, Show, Branch}
use Rattle.aplc_core.specs.CoreRuns.{Told, Slots, PlainCore, step_done, core_context, core_run}
use Rattle.aplc_gen.specs.Sound.{Ready, ready_after, is_variable, is_term, is_effect}
use Rattle.aplc_gen.specs.Layouts.{Layout, Site, the_routine, the_frame}
use Rattle.aplc_gen.specs.Emitted.{scope_at, step_code, known_behind, is_branch}
use Rattle.aplc_gen.specs.Laid.{has_place, is_laid_term, is_laid_step, step_falls, is_counted}
use Rattle.aplc_gen.specs.Relation.{Here, Bounds, HasRoom, Fails, Waits, Sim, TreesDo, CallsDo, StepsDo, bounds_behind, course, pay, owe, for_line}
use Rattle.aplc_gen.proofs.Frames.{and_left, and_right}
use Rattle.aplc_gen.proofs.Writes.{here_looser}
use Rattle.aplc_gen.proofs.StepsSlots.{keep_does}
use Rattle.aplc_gen.proofs.StepsShows.{show_does}
use Rattle.aplc_gen.proofs.StepsNames.{store_step}
use Rattle.aplc_gen.proofs.StepsCalls.{call_does}

module _ (c : Code) (w : ℕ) (m : Marking) (rank : ℕ → ℕ) (k : ℕ) (trees : TreesDo c w) where
  -- in the program and the layout of its own place
  step_does : (g : Site) (l : Told) (b : Bounds) (known : List ℕ) (r : Ready) (slots : Slots) (ps : Places) (cs : List Caller) (x : Effect) (S : State) (s : machine.State) → CallsDo c w g.program g.layout m rank k →
      w ≤ b.lines → b.fuel ≡ k → HasRoom g.layout rank g.number ps → is_counted g.layout.called g.layout.counted ≡ true →
      is_branch x ≡ false → is_effect g.program (the_routine g).header.scope l r x ≡ true → is_laid_step g known x ≡ true →
      (g.layout.counted ≡ false → step_falls rank g.number (the_routine g) x ≡ true) →
      Here g b known r slots ps cs S.world s →
      Sim c w (step_code g known x) s (step_done (core_context g.program m (core_run g.program m k) (the_routine g)) l x slots S)
      (λ later T t. Here g (bounds_behind l b x) (known_behind known x) (ready_after r x) later ps cs T.world t)
  step_does g l b known r slots ps cs (Keep j t) S s calls lines fuel room counts plain ok laid falls h =
      keep_does c w trees g (core_context g.program m (core_run g.program m k) (the_routine g)) l b known r slots ps cs j t S s refl ok (and_left (nat_lt j (the_frame g).slots) (is_laid_term g known t) laid) (and_right (nat_lt j (the_frame g).slots) (is_laid_term g known t) laid) h
  step_does g l b known r slots ps cs (Store i n t) S s calls lines fuel room counts plain ok laid falls h =
      let sc = (the_routine g).header.scope in
      store_step c w trees g (core_context g.program m (core_run g.program m k) (the_routine g)) l b known r slots ps cs i n t S s refl counts
      (and_left (is_variable (sc n)) (is_term sc l r t) ok) (and_right (is_variable (sc n)) (is_term sc l r t) ok)
      (and_left (has_place g (scope_at g n) n) (is_laid_term g known t) laid) (and_right (has_place g (scope_at g n) n) (is_laid_term g known t) laid) h
  step_does g l b known r slots ps cs (Call i n a d o) S s calls lines fuel room counts plain ok laid falls h =
      let out = step_done (core_context g.program m (core_run g.program m k) (the_routine g)) l (Call i n a d o) slots S in
      let later = ready_after r (Call i n a d o) in
      let paid = owe 2 (pay for_line (owe 1 (owe 1 b))) in
      matches_less c Any State Fails (Waits w) (step_code g known (Call i n a d o)) s (course out) (λ slots T t. Here g paid known later slots ps cs T.world t) (λ slots T t. Here g (pay for_line (owe 4 b)) known later slots ps cs T.world t)
      (λ slots T t is q. here_looser g paid (pay for_line (owe 4 b)) known later slots ps cs T.world t (record { lines = omega arith; fuel = omega arith; credit = omega arith; set = λ i e. e }) q)
      (call_does c w m rank k g calls l b known r slots ps cs i n a d o S s lines fuel room ok laid falls h)
  step_does g l b known r slots ps cs (Show None t) S s calls lines fuel room counts plain ok laid falls h =
      show_does c w trees g (core_context g.program m (core_run g.program m k) (the_routine g)) l b known r slots ps cs t S s refl ok laid h
  step_does g l b known r slots ps cs (Show (Some i) t) S s calls lines fuel room counts plain ok laid falls h = absurd (cc)
  step_does g l b known r slots ps cs (StoreAt i n ts t) S s calls lines fuel room counts plain ok laid falls h = absurd (cc)
  step_does g l b known r slots ps cs (ReadText i j) S s calls lines fuel room counts plain ok laid falls h = absurd (cc)
  step_does g l b known r slots ps cs (ReadNums i j) S s calls lines fuel room counts plain ok laid falls h = absurd (cc)
  step_does g l b known r slots ps cs (Branch t) S s calls lines fuel room counts plain ok laid falls h = absurd (cc)

  -- where calls are counted there are variables of calls, so that none of a name is their count
  pub steps_do : (p : PlainCore) (y : Layout) → is_counted y.called y.counted ≡ true → CallsDo c w p y m rank k → StepsDo c w p y m rank k
  steps_do p y counts calls g l b known r slots ps cs x S s at_p at_y lines fuel room plain ok laid falls h =
      subst (λ (q : PlainCore). Sim c w (step_code g known x) s (step_done (core_context q m (core_run q m k) (the_routine g)) l x slots S) (λ later T t. Here g (bounds_behind l b x) (known_behind known x) (ready_after r x) later ps cs T.world t)) at_p
      (step_does g l b known r slots ps cs x S s
      (subst (λ (z : Layout). CallsDo c w g.program z m rank k) (sym at_y) (subst (λ (q : PlainCore). CallsDo c w q y m rank k) (sym at_p) calls))
      lines fuel (subst (λ (z : Layout). HasRoom z rank g.number ps) (sym at_y) room) (subst (λ (z : Layout). is_counted z.called z.counted ≡ true) (sym at_y) counts)
      plain (subst (λ (q : PlainCore). is_effect q (the_routine g).header.scope l r x ≡ true) (sym at_p) ok) laid
      (subst (λ (z : Layout). z.counted ≡ false → step_falls rank g.number (the_routine g) x ≡ true) (sym at_y) falls) h)

-- The code of a program can be written with the variables that are made for it.
use Rattle.std.proofs.Common.{◌≡◌, ◌∙◌, sym, subst, refl, ℕ, ◌+◌, ◌<◌, ◌≤◌, max, List, [], ◌∷◌, length, true, nat_lt, nat_le, ◌&&◌, Option, Some, None, slice_get, arith, ℤ}
use Rattle.std.specs.Prelude.{unwrap_or, option_and_then}
use Rattle.std.proofs.lemmas.List.{length-map}
use Rattle.std.proofs.lemmas.Bool.Decides.{nat_tests}
use Rattle.aplc_scalar.specs.Scalar.{in_range}
use Rattle.aplc_scalar.specs.declared.kind.Kind.{Kind}
use Rattle.aplc_scalar.specs.declared.kind.Kind.TheVariants.{Num, Char}
use Rattle.aplc_names.specs.declared.scope.Scope.{Scope}
use Rattle.aplc_names.specs.PlainPrograms.{plain, routine_of}
use Rattle.aplc_names.specs.Eager.{function_of}
use Rattle.aplc_core.specs.PlainSteps.{Term, Literal, Read, Slot, Mono, Dyad, Index, Effect, Keep, Store, StoreAt, Call, ReadText, ReadNums, Show, Branch}
use Rattle.aplc_core.specs.CoreRuns.{CoreRoutine, PlainCore, Told, told, no_core}
use Rattle.aplc_core.specs.CorePrograms.{Core}
use Rattle.aplc_core.specs.Lowering.{lowered_routine}
use Rattle.aplc_gen.specs.Built.{is_number, number_of, is_sign, is_checked}
use Rattle.aplc_gen.specs.Layouts.{Frame, frame_of, no_frame}
use Rattle.aplc_gen.specs.Emitted.{width}
use Rattle.aplc_gen.specs.Sound.{Ready, nothing_ready, ready_after, is_variable, is_term, is_effect, are_effects, term_cost, effect_cost, effects_cost, is_line, are_lines, is_sound, begins, are_routines}
use Rattle.aplc_gen.specs.Made.{Needs, no_needs, with_slots, with_called, term_needs, step_needs, steps_need, lines_need, routine_needs, layout_of, are_low_routines, is_modest}
use Rattle.aplc_gen.specs.Writing.{lowered_core, fits_term, fits_tree, fits_slot, fits_step, fits_steps, fits_lines, FitsProgram}
use Rattle.aplc_gen.proofs.Frames.{and_left, and_right}
use Rattle.aplc_gen.proofs.MadeFrames.{frames_length}
use Rattle.aplc_gen.proofs.MadeServes.{Serves, both, global_back, slot_back, slots_back, term_back, steps_back, lines_back}
use Rattle.aplc_gen.proofs.MadeLaid.{made_of, routine_sound, lines_sound}
use Rattle.aplc_gen.proofs.MadeCounts.{few_none, all_few}

le_of : (a b : ℕ) → nat_le a b ≡ true → a ≤ b
le_of a b h = grind (arith, nat_tests, h)

most_right : (a k c : ℕ) → max a (k + 1) ≤ c → nat_lt k c ≡ true
most_right a k c h = grind (arith, nat_tests, h)

one_number : (kind : Kind) (zs : List ℤ) → is_number kind zs ≡ true → in_range (number_of zs) ≡ true
one_number Num [] h = absurd (cc)
one_number Num (z ∷ []) h = h
one_number Num (z ∷ w ∷ ws) h = absurd (cc)
one_number Char zs h = absurd (cc)

wide_one : (b c : ℕ) → b ≤ c → max 1 b ≤ 1 + c
wide_one b c h = grind (arith, h)

wide_two : (a b c d : ℕ) → a ≤ c → b ≤ d → max b (1 + a) ≤ 1 + (c + d)
wide_two a b c d h k = grind (arith, h, k)

-- a tree takes no more variables than steps
width_cost : (t : Term) → width t ≤ term_cost t
width_cost (Literal i k zs) = omega arith
width_cost (Read i n) = omega arith
width_cost (Slot i k) = omega arith
width_cost (Mono i f b) = wide_one (width b) (term_cost b) (width_cost b)
width_cost (Dyad i f a b) = wide_two (width a) (width b) (term_cost a) (term_cost b) (width_cost a) (width_cost b)
width_cost (Index i a xs) = omega arith

module _ (p : PlainCore) (sc : ℕ → Scope) (globals called : List ℕ) (slots : ℕ) where
  abbrev S : Needs → Type 0
  S s = Serves globals called slots s

  term_fits : (l : Told) (r : Ready) (t : Term) (s : Needs) → is_term sc l r t ≡ true → S (term_needs sc t s) → fits_term slots t ≡ true
  term_fits l r (Literal i k zs) s ok h = one_number k zs ok
  term_fits l r (Read i n) s ok h = refl
  term_fits l r (Slot i k) s ok h = most_right s.slots k slots h.slots_are
  term_fits l r (Mono i f b) s ok h = term_fits l r b s (and_right (is_sign f) (is_term sc l r b) ok) h
  term_fits l r (Dyad i f a b) s ok h =
      let parts = and_right (is_checked f) (is_term sc l r a && is_term sc l r b) ok in
      both (fits_term slots a) (fits_term slots b) (term_fits l r a (term_needs sc b s) (and_left (is_term sc l r a) (is_term sc l r b) parts) h)
      (term_fits l r b s (and_right (is_term sc l r a) (is_term sc l r b) parts) (term_back globals called slots sc a (term_needs sc b s) h))
  term_fits l r (Index i a xs) s ok h = refl

  tree_fits : (l : Told) (r : Ready) (t : Term) (s : Needs) → is_term sc l r t ≡ true → term_cost t ≤ 2000 → S (term_needs sc t s) → fits_tree slots t ≡ true
  tree_fits l r t s ok cheap h = both (fits_term slots t) (nat_le (width t) 2000) (term_fits l r t s ok h) (narrow (width t) (term_cost t) (width_cost t) cheap)
    where
      narrow : (a b : ℕ) → a ≤ b → b ≤ 2000 → nat_le a 2000 ≡ true
      narrow a b x y = grind (arith, nat_tests, x, y)

  slot_fits : (o : Option ℕ) (s : Needs) → S (with_slots o s) → fits_slot slots o ≡ true
  slot_fits None s h = refl
  slot_fits (Some k) s h = most_right s.slots k slots h.slots_are

  call_fits : (a b r : Option ℕ) (s : Needs) → S (with_slots r (with_slots b (with_slots a s))) → (fits_slot slots a && (fits_slot slots b && fits_slot slots r)) ≡ true
  call_fits a b r s h =
      let h2 = slots_back globals called slots r (with_slots b (with_slots a s)) h in
      let h1 = slots_back globals called slots b (with_slots a s) h2 in
      both (fits_slot slots a) (fits_slot slots b && fits_slot slots r) (slot_fits a s h1) (both (fits_slot slots b) (fits_slot slots r) (slot_fits b (with_slots a s) h2) (slot_fits r (with_slots b (with_slots a s)) h))

  step_fits : (l : Told) (r : Ready) (x : Effect) (s : Needs) → is_effect p sc l r x ≡ true → effect_cost x ≤ 2000 → S (step_needs sc x s) → fits_step slots x ≡ true
  step_fits l r (Keep k t) s ok cheap h =
      both (nat_lt k slots) (fits_tree slots t) (most_right (term_needs sc t s).slots k slots h.slots_are) (tree_fits l r t s ok (omega (arith, cheap)) (slot_back globals called slots k (term_needs sc t s) h))
  step_fits l r (Store i n t) s ok cheap h = tree_fits l r t s (and_right (is_variable (sc n)) (is_term sc l r t) ok) (omega (arith, cheap)) (global_back globals called slots (sc n) n (term_needs sc t s) h)
  step_fits l r (StoreAt i n ts t) s ok cheap h = refl
  step_fits l r (Call i n a b o) s ok cheap h = call_fits a b o (with_called (function_of (sc n)) s) h
  step_fits l r (ReadText i k) s ok cheap h = refl
  step_fits l r (ReadNums i k) s ok cheap h = refl
  step_fits l r (Show None t) s ok cheap h = tree_fits l r t s ok (omega (arith, cheap)) h
  step_fits l r (Show (Some i) t) s ok cheap h = absurd (cc)
  step_fits l r (Branch t) s ok cheap h = tree_fits l r t s ok (omega (arith, cheap)) h

  steps_fit : (l : Told) (r : Ready) (xs : List Effect) (s : Needs) → are_effects p sc l r xs ≡ true → effects_cost xs ≤ 2000 → S (steps_need sc xs s) → fits_steps slots xs ≡ true
  steps_fit l r [] s ok cheap h = refl
  steps_fit l r (x ∷ xs) s ok cheap h =
      both (fits_step slots x) (fits_steps slots xs)
      (step_fits l r x s (and_left (is_effect p sc l r x) (are_effects p sc l (ready_after r x) xs) ok) (omega (arith, cheap)) (steps_back globals called slots sc xs (step_needs sc x s) h))
      (steps_fit l (ready_after r x) xs (step_needs sc x s) (and_right (is_effect p sc l r x) (are_effects p sc l (ready_after r x) xs) ok) (omega (arith, cheap)) h)

  lines_fit : (xs : List (List Effect)) (s : Needs) → are_lines p sc xs ≡ true → S (lines_need sc xs s) → fits_lines slots xs ≡ true
  lines_fit [] s ok h = refl
  lines_fit (x ∷ xs) s ok h =
      let line = and_left (is_line p sc x) (are_lines p sc xs) ok in
      both (fits_steps slots x) (fits_lines slots xs)
      (steps_fit (told x) nothing_ready x s (and_left (are_effects p sc (told x) nothing_ready x) (nat_le (effects_cost x) 2000) line) (le_of (effects_cost x) 2000 (and_right (are_effects p sc (told x) nothing_ready x) (nat_le (effects_cost x) 2000) line)) (lines_back globals called slots sc xs (steps_need sc x s) h))
      (lines_fit xs (steps_need sc x s) (and_right (is_line p sc x) (are_lines p sc xs) ok) h)

-- ---- Programs

routine_fits : (p : PlainCore) → are_routines p p.routines ≡ true → (j : ℕ) (o : Option CoreRoutine) → slice_get p.routines j ≡ o → fits_lines (frame_of (layout_of p) j).slots (unwrap_or o no_core).steps ≡ true
routine_fits p ok j None at = refl
routine_fits p ok j (Some f) at =
    let m = made_of p j f at in
    subst (λ (o : Option Frame). fits_lines (unwrap_or o no_frame).slots f.steps ≡ true) (sym m.frame)
    (lines_fit p f.header.scope (layout_of p).globals (layout_of p).called (routine_needs f m.before).slots f.steps (record m.before { slots = 0 }) (lines_sound p f (routine_sound p p.routines j f ok at)) m.there)

pub made_fits : (c : Core) → is_sound (lowered_core c) ≡ true → is_modest (lowered_core c) ≡ true → FitsProgram (layout_of (lowered_core c)) c
made_fits c sound modest =
    let p = lowered_core c in
    let ok = and_right (begins (option_and_then (slice_get p.routines) p.start)) (are_routines p p.routines) sound in
    let low = and_right (nat_le (length p.routines) 999) (are_low_routines p.routines) modest in
    let few = all_few p p.routines no_needs ok low (few_none (length p.routines)) in
    let long = length-map (plain c.program).routines lowered_routine ∙ length-map c.program.functions (routine_of c.program) in
    record {
      lines = λ j. routine_fits p ok j (slice_get p.routines j) refl;
      called = λ j h. subst (λ (n : ℕ). j < n) long (few.called_below j h);
      frames = frames_length p.routines no_needs ∙ long;
    }

-- The variables that are made for a program are no more than a text may have.
use Rattle.std.proofs.Common.{◌≡◌, ℕ, zero, suc, ◌+◌, ◌<◌, ◌≤◌, ◌^◌, max, List, [], ◌∷◌, length, true, nat_lt, nat_le, ◌&&◌, Option, Some, None, slice_get, arith}
use Rattle.std.specs.Prelude.{unwrap_or, option_and_then}
use Rattle.std.proofs.lemmas.Bool.Decides.{nat_tests}
use Rattle.aplc_names.specs.declared.scope.Scope.{Scope}
use Rattle.aplc_names.specs.declared.scope.Scope.TheVariants as scope
use Rattle.aplc_names.specs.PlainPrograms.{names_of_header}
use Rattle.aplc_names.specs.Eager.{function_of}
use Rattle.aplc_core.specs.PlainSteps.{Term, Literal, Read, Slot, Mono, Dyad, Index, Effect, Keep, Store, StoreAt, Call, ReadText, ReadNums, Show, Branch}
use Rattle.aplc_core.specs.CoreRuns.{CoreRoutine, PlainCore, Told, told}
use Rattle.aplc_gen.specs.Layouts.{Frame, no_frame, for_calls}
use Rattle.aplc_gen.specs.Laid.{HasCounts}
use Rattle.aplc_gen.specs.Sound.{Ready, nothing_ready, ready_after, suits, is_kept, is_effect, are_effects, effects_cost, is_line, are_lines, is_sound, begins, is_routine, are_routines}
use Rattle.aplc_gen.specs.Made.{Needs, no_needs, with_global, with_slot, with_slots, with_called, term_needs, step_needs, steps_need, lines_need, routine_needs, all_need, frame_made, frames_made, layout_of, is_low_name, is_low_slot, is_low_term, is_low_step, are_low_steps, are_low_lines, are_below, is_low_routine, are_low_routines, is_modest}
use Rattle.aplc_gen.proofs.Frames.{and_left, and_right}
use Rattle.aplc_gen.proofs.MadeLists.{Once, Below, no_names_once, new_once, new_below, few_below, each_few}
use Rattle.aplc_gen.proofs.MadeLaid.{lines_sound}

lt_of : (a b : ℕ) → nat_lt a b ≡ true → a < b
lt_of a b h = grind (arith, nat_tests, h)

le_of : (a b : ℕ) → nat_le a b ≡ true → a ≤ b
le_of a b h = grind (arith, nat_tests, h)

-- ---- What is needed has small numbers

pub record Few (count : ℕ) (s : Needs) : Type 0 where
  pub globals_once : Once s.globals
  pub globals_below : Below 262144 s.globals
  pub called_once : Once s.called
  pub called_below : Below count s.called
  pub slots_few : s.slots ≤ 2000

pub few_none : (count : ℕ) → Few count no_needs
few_none count = record { globals_once = no_names_once; globals_below = λ n h. absurd (cc); called_once = no_names_once; called_below = λ n h. absurd (cc); slots_few = omega arith }

global_few : (count : ℕ) (hs : List ℕ) (x : Scope) (n : ℕ) (s : Needs) → is_low_name hs x n ≡ true → Few count s → Few count (with_global x n s)
global_few count hs scope.Global n s low h = record {
  globals_once = new_once n s.globals h.globals_once;
  globals_below = new_below 262144 n s.globals (lt_of n 262144 low) h.globals_below;
  called_once = h.called_once;
  called_below = h.called_below;
  slots_few = h.slots_few;
}
global_few count hs scope.Local n s low h = h
global_few count hs (scope.Label z) n s low h = h
global_few count hs (scope.Function j) n s low h = h

slot_few : (count k : ℕ) (s : Needs) → nat_lt k 2000 ≡ true → Few count s → Few count (with_slot k s)
slot_few count k s low h = record {
  globals_once = h.globals_once;
  globals_below = h.globals_below;
  called_once = h.called_once;
  called_below = h.called_below;
  slots_few = most s.slots k h.slots_few low;
}
  where
    most : (a i : ℕ) → a ≤ 2000 → nat_lt i 2000 ≡ true → max a (i + 1) ≤ 2000
    most a i le lt = grind (arith, nat_tests, le, lt)

slots_few_of : (count : ℕ) (o : Option ℕ) (s : Needs) → is_low_slot o ≡ true → Few count s → Few count (with_slots o s)
slots_few_of count None s low h = h
slots_few_of count (Some k) s low h = slot_few count k s low h

called_few : (count j : ℕ) (s : Needs) → j < count → Few count s → Few count (with_called j s)
called_few count j s lt h = record {
  globals_once = h.globals_once;
  globals_below = h.globals_below;
  called_once = new_once j s.called h.called_once;
  called_below = new_below count j s.called lt h.called_below;
  slots_few = h.slots_few;
}

term_few : (count : ℕ) (sc : ℕ → Scope) (hs : List ℕ) (t : Term) (s : Needs) → is_low_term sc hs t ≡ true → Few count s → Few count (term_needs sc t s)
term_few count sc hs (Literal i k zs) s low h = h
term_few count sc hs (Read i n) s low h = global_few count hs (sc n) n s low h
term_few count sc hs (Slot i k) s low h = slot_few count k s low h
term_few count sc hs (Mono i f b) s low h = term_few count sc hs b s low h
term_few count sc hs (Dyad i f a b) s low h =
    term_few count sc hs a (term_needs sc b s) (and_left (is_low_term sc hs a) (is_low_term sc hs b) low) (term_few count sc hs b s (and_right (is_low_term sc hs a) (is_low_term sc hs b) low) h)
term_few count sc hs (Index i a xs) s low h = h

-- a function that a call suits is there
within : (a b r : Option ℕ) (fs : List CoreRoutine) (j : ℕ) → suits a b r (slice_get fs j) ≡ true → j < length fs
within a b r [] j h = absurd (cc)
within a b r (f ∷ fs) zero h = omega arith
within a b r (f ∷ fs) (suc j) h = let less = within a b r fs j h in omega (arith, less)

module _ (p : PlainCore) (sc : ℕ → Scope) (hs : List ℕ) where
  abbrev count : ℕ
  count = length p.routines

  call_few : (j : ℕ) (a b r : Option ℕ) (s : Needs) → j < count → (is_low_slot a && (is_low_slot b && is_low_slot r)) ≡ true → Few count s → Few count (with_slots r (with_slots b (with_slots a (with_called j s))))
  call_few j a b r s lt low h =
      let rest = and_right (is_low_slot a) (is_low_slot b && is_low_slot r) low in
      let s1 = with_called j s in
      let s2 = with_slots a s1 in
      let s3 = with_slots b s2 in
      slots_few_of count r s3 (and_right (is_low_slot b) (is_low_slot r) rest)
      (slots_few_of count b s2 (and_left (is_low_slot b) (is_low_slot r) rest)
      (slots_few_of count a s1 (and_left (is_low_slot a) (is_low_slot b && is_low_slot r) low) (called_few count j s lt h)))

  step_few : (l : Told) (r : Ready) (x : Effect) (s : Needs) → is_effect p sc l r x ≡ true → is_low_step sc hs x ≡ true → Few count s → Few count (step_needs sc x s)
  step_few l r (Keep k t) s ok low h = slot_few count k (term_needs sc t s) (and_left (nat_lt k 2000) (is_low_term sc hs t) low) (term_few count sc hs t s (and_right (nat_lt k 2000) (is_low_term sc hs t) low) h)
  step_few l r (Store i n t) s ok low h =
      global_few count hs (sc n) n (term_needs sc t s) (and_left (is_low_name hs (sc n) n) (is_low_term sc hs t) low) (term_few count sc hs t s (and_right (is_low_name hs (sc n) n) (is_low_term sc hs t) low) h)
  step_few l r (StoreAt i n ts t) s ok low h = h
  step_few l r (Call i n a b o) s ok low h =
      let j = function_of (sc n) in
      call_few j a b o s (within a b o p.routines j (and_left (suits a b o (slice_get p.routines j)) (is_kept r a && is_kept r b) ok)) low h
  step_few l r (ReadText i k) s ok low h = h
  step_few l r (ReadNums i k) s ok low h = h
  step_few l r (Show o t) s ok low h = term_few count sc hs t s low h
  step_few l r (Branch t) s ok low h = term_few count sc hs t s low h

  steps_few : (l : Told) (r : Ready) (xs : List Effect) (s : Needs) → are_effects p sc l r xs ≡ true → are_low_steps sc hs xs ≡ true → Few count s → Few count (steps_need sc xs s)
  steps_few l r [] s ok low h = h
  steps_few l r (x ∷ xs) s ok low h =
      steps_few l (ready_after r x) xs (step_needs sc x s) (and_right (is_effect p sc l r x) (are_effects p sc l (ready_after r x) xs) ok) (and_right (is_low_step sc hs x) (are_low_steps sc hs xs) low)
      (step_few l r x s (and_left (is_effect p sc l r x) (are_effects p sc l (ready_after r x) xs) ok) (and_left (is_low_step sc hs x) (are_low_steps sc hs xs) low) h)

  lines_few : (xs : List (List Effect)) (s : Needs) → are_lines p sc xs ≡ true → are_low_lines sc hs xs ≡ true → Few count s → Few count (lines_need sc xs s)
  lines_few [] s ok low h = h
  lines_few (x ∷ xs) s ok low h =
      let fine = and_left (are_effects p sc (told x) nothing_ready x) (nat_le (effects_cost x) 2000) (and_left (is_line p sc x) (are_lines p sc xs) ok) in
      lines_few xs (steps_need sc x s) (and_right (is_line p sc x) (are_lines p sc xs) ok) (and_right (are_low_steps sc hs x) (are_low_lines sc hs xs) low)
      (steps_few (told x) nothing_ready x s fine (and_left (are_low_steps sc hs x) (are_low_lines sc hs xs) low) h)

-- ---- Functions

pub routine_few : (p : PlainCore) (f : CoreRoutine) (s : Needs) → is_routine p f ≡ true → is_low_routine f ≡ true → Few (length p.routines) s → Few (length p.routines) (routine_needs f s)
routine_few p f s ok low h =
    lines_few p f.header.scope (names_of_header f.header) f.steps (record s { slots = 0 }) (lines_sound p f ok) (and_right (are_below (names_of_header f.header)) (are_low_lines f.header.scope (names_of_header f.header) f.steps) low)
    (record { globals_once = h.globals_once; globals_below = h.globals_below; called_once = h.called_once; called_below = h.called_below; slots_few = omega arith })

pub all_few : (p : PlainCore) (fs : List CoreRoutine) (s : Needs) → are_routines p fs ≡ true → are_low_routines fs ≡ true → Few (length p.routines) s → Few (length p.routines) (all_need fs s)
all_few p [] s ok low h = h
all_few p (f ∷ fs) s ok low h =
    all_few p fs (routine_needs f s) (and_right (is_routine p f) (are_routines p fs) ok) (and_right (is_low_routine f) (are_low_routines fs) low)
    (routine_few p f s (and_left (is_routine p f) (are_routines p fs) ok) (and_left (is_low_routine f) (are_low_routines fs) low) h)

abbrev IsSmall : Frame → Type 0
IsSmall x = length x.names + length x.unsure + x.slots ≤ 526288

frame_few : (f : CoreRoutine) (k : ℕ) → are_below (names_of_header f.header) ≡ true → k ≤ 2000 → IsSmall (frame_made f k)
frame_few f k low le = let few = each_few (names_of_header f.header) low in omega (arith, few, le)

frames_few : (p : PlainCore) (fs : List CoreRoutine) (s : Needs) → are_routines p fs ≡ true → are_low_routines fs ≡ true → Few (length p.routines) s → (j : ℕ) → IsSmall (unwrap_or (slice_get (frames_made fs s) j) no_frame)
frames_few p [] s ok low h j = omega arith
frames_few p (f ∷ fs) s ok low h zero =
    let own = and_left (is_low_routine f) (are_low_routines fs) low in
    let few = routine_few p f s (and_left (is_routine p f) (are_routines p fs) ok) own h in
    frame_few f (routine_needs f s).slots (and_left (are_below (names_of_header f.header)) (are_low_lines f.header.scope (names_of_header f.header) f.steps) own) few.slots_few
frames_few p (f ∷ fs) s ok low h (suc j) =
    frames_few p fs (routine_needs f s) (and_right (is_routine p f) (are_routines p fs) ok) (and_right (is_low_routine f) (are_low_routines fs) low)
    (routine_few p f s (and_left (is_routine p f) (are_routines p fs) ok) (and_left (is_low_routine f) (are_low_routines fs) low) h) j

-- ---- Programs

few_for_calls : (js : List ℕ) → for_calls js ≤ 5
few_for_calls [] = omega arith
few_for_calls (j ∷ js) = omega arith

few_ints : (a b : ℕ) → a ≤ 5 → b ≤ 262144 → a + b + b < 2 ^ 32
few_ints a b h k = omega (arith, h, k)

pub made_counts : (p : PlainCore) → is_sound p ≡ true → is_modest p ≡ true → HasCounts (layout_of p)
made_counts p sound modest =
    let ok = and_right (begins (option_and_then (slice_get p.routines) p.start)) (are_routines p p.routines) sound in
    let low = and_right (nat_le (length p.routines) 999) (are_low_routines p.routines) modest in
    let short = le_of (length p.routines) 999 (and_left (nat_le (length p.routines) 999) (are_low_routines p.routines) modest) in
    let few = all_few p p.routines no_needs ok low (few_none (length p.routines)) in
    let globals = few_below 262144 (layout_of p).globals few.globals_once few.globals_below in
    let called = few_below (length p.routines) (layout_of p).called few.called_once few.called_below in
    record {
      globals = few_ints (for_calls (layout_of p).called) (length (layout_of p).globals) (few_for_calls (layout_of p).called) globals;
      called = omega (arith, called, short);
      frames = λ j. let small = frames_few p p.routines no_needs ok low (few_none (length p.routines)) j in omega (arith, small);
    }

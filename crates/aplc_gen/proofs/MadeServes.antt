-- The variables that are made for a program serve its steps.
use Rattle.std.proofs.Common.{◌≡◌, refl, ℕ, ◌+◌, ◌≤◌, max, List, [], ◌∷◌, Bool, true, false, cond, nat_lt, nat_le, ◌&&◌, Option, Some, None, arith}
use Rattle.std.proofs.lemmas.Bool.Decides.{nat_tests}
use Rattle.aplc_names.specs.declared.scope.Scope.{Scope}
use Rattle.aplc_names.specs.declared.scope.Scope.TheVariants as scope
use Rattle.aplc_names.specs.States.{is_among}
use Rattle.aplc_names.specs.Eager.{function_of}
use Rattle.aplc_core.specs.PlainSteps.{Term, Literal, Read, Slot, Mono, Dyad, Index, Effect, Keep, Store, StoreAt, Call, ReadText, ReadNums, Show, Branch}
use Rattle.aplc_core.specs.CoreRuns.{CoreRoutine, PlainCore, Told, told}
use Rattle.aplc_gen.specs.Built.{is_sign, is_checked}
use Rattle.aplc_gen.specs.Layouts.{Site, the_routine, the_frame}
use Rattle.aplc_gen.specs.Emitted.{known_after, known_behind, known_through, branches, is_entry}
use Rattle.aplc_gen.specs.Laid.{has_place, is_flagged, is_laid_term, is_laid_slot, is_laid_step, are_laid_steps, are_laid_lines, are_laid_arms}
use Rattle.aplc_gen.specs.Sound.{Ready, nothing_ready, ready_after, is_variable, is_read, is_term, is_effect, are_effects, effects_cost, is_line, are_lines}
use Rattle.aplc_gen.specs.Made.{Needs, with_global, with_slot, with_slots, with_called, term_needs, step_needs, steps_need, lines_need, routine_needs, all_need, is_low_name, is_low_term, is_low_step, are_low_steps, are_low_lines}
use Rattle.aplc_gen.proofs.Landing.{or_right}
use Rattle.aplc_gen.proofs.Frames.{and_left, and_right}
use Rattle.aplc_gen.proofs.Knowing.{Among}
use Rattle.aplc_gen.proofs.MadeLists.{new_there, new_more}

-- ---- What is needed is there

pub record Serves (globals called : List ℕ) (slots : ℕ) (s : Needs) : Type 0 where
  pub globals_are : Among s.globals globals
  pub called_are : Among s.called called
  pub slots_are : s.slots ≤ slots

pub both : (a b : Bool) → a ≡ true → b ≡ true → (a && b) ≡ true
both true b e h = h
both false b e h = absurd (cc)

most_left : (a b c : ℕ) → max a b ≤ c → a ≤ c
most_left a b c h = grind (arith, h)

most_right : (a k c : ℕ) → max a (k + 1) ≤ c → nat_lt k c ≡ true
most_right a k c h = grind (arith, nat_tests, h)

module _ (globals called : List ℕ) (slots : ℕ) where
  abbrev S : Needs → Type 0
  S s = Serves globals called slots s

  pub global_back : (x : Scope) (n : ℕ) (s : Needs) → S (with_global x n s) → S s
  global_back scope.Global n s h = record { globals_are = λ m a. h.globals_are m (new_more n s.globals m a); called_are = h.called_are; slots_are = h.slots_are }
  global_back scope.Local n s h = h
  global_back (scope.Label z) n s h = h
  global_back (scope.Function j) n s h = h

  pub slot_back : (k : ℕ) (s : Needs) → S (with_slot k s) → S s
  slot_back k s h = record { globals_are = h.globals_are; called_are = h.called_are; slots_are = most_left s.slots (k + 1) slots h.slots_are }

  pub slots_back : (o : Option ℕ) (s : Needs) → S (with_slots o s) → S s
  slots_back None s h = h
  slots_back (Some k) s h = slot_back k s h

  pub called_back : (j : ℕ) (s : Needs) → S (with_called j s) → S s
  called_back j s h = record { globals_are = h.globals_are; called_are = λ m a. h.called_are m (new_more j s.called m a); slots_are = h.slots_are }

  pub term_back : (sc : ℕ → Scope) (t : Term) (s : Needs) → S (term_needs sc t s) → S s
  term_back sc (Literal i k zs) s h = h
  term_back sc (Read i n) s h = global_back (sc n) n s h
  term_back sc (Slot i k) s h = slot_back k s h
  term_back sc (Mono i f b) s h = term_back sc b s h
  term_back sc (Dyad i f a b) s h = term_back sc b s (term_back sc a (term_needs sc b s) h)
  term_back sc (Index i a xs) s h = h

  pub step_back : (sc : ℕ → Scope) (x : Effect) (s : Needs) → S (step_needs sc x s) → S s
  step_back sc (Keep k t) s h = term_back sc t s (slot_back k (term_needs sc t s) h)
  step_back sc (Store i n t) s h = term_back sc t s (global_back (sc n) n (term_needs sc t s) h)
  step_back sc (StoreAt i n ts t) s h = h
  step_back sc (Call i n a b r) s h =
      let with_name = with_called (function_of (sc n)) s in
      called_back (function_of (sc n)) s (slots_back a with_name (slots_back b (with_slots a with_name) (slots_back r (with_slots b (with_slots a with_name)) h)))
  step_back sc (ReadText i k) s h = h
  step_back sc (ReadNums i k) s h = h
  step_back sc (Show o t) s h = term_back sc t s h
  step_back sc (Branch t) s h = term_back sc t s h

  pub steps_back : (sc : ℕ → Scope) (xs : List Effect) (s : Needs) → S (steps_need sc xs s) → S s
  steps_back sc [] s h = h
  steps_back sc (x ∷ xs) s h = step_back sc x s (steps_back sc xs (step_needs sc x s) h)

  pub lines_back : (sc : ℕ → Scope) (xs : List (List Effect)) (s : Needs) → S (lines_need sc xs s) → S s
  lines_back sc [] s h = h
  lines_back sc (x ∷ xs) s h = steps_back sc x s (lines_back sc xs (steps_need sc x s) h)

-- what all functions need is there: so is what those before need
pub all_back : (globals called : List ℕ) (fs : List CoreRoutine) (slots : ℕ) (s : Needs) → Serves globals called slots (all_need fs s) → Serves globals called s.slots s
all_back globals called [] slots s h = record { globals_are = h.globals_are; called_are = h.called_are; slots_are = omega arith }
all_back globals called (f ∷ fs) slots s h =
    let own = all_back globals called fs slots (routine_needs f s) h in
    let before = lines_back globals called (routine_needs f s).slots f.header.scope f.steps (record s { slots = 0 }) own in
    record { globals_are = before.globals_are; called_are = before.called_are; slots_are = omega arith }

-- ---- A function

module _ (g : Site) (p : PlainCore) (hs : List ℕ)
    (flags : Among g.layout.globals g.layout.unsure)
    (names : Among hs (the_frame g).names)
    (unsure : Among hs (the_frame g).unsure) where
  abbrev sc : ℕ → Scope
  sc = (the_routine g).header.scope

  abbrev Served : Needs → Type 0
  Served s = Serves g.layout.globals g.layout.called (the_frame g).slots s

  abbrev place_and_flag : List ℕ → Scope → ℕ → Bool
  place_and_flag known x n = has_place g x n && is_flagged g known x n

  -- a name that is read
  read_laid : (known : List ℕ) (x : Scope) (n : ℕ) (b : Bool) (stored : List ℕ) (s : Needs) → is_read b stored n x ≡ true → is_low_name hs x n ≡ true → Served (with_global x n s) → place_and_flag known x n ≡ true
  read_laid known scope.Local n b stored s ok low h =
      both (is_among n (the_frame g).names) (is_flagged g known scope.Local n) (names n low) (or_right (is_among n known) (is_among n (the_frame g).unsure) (unsure n low))
  read_laid known scope.Global n b stored s ok low h =
      let there = h.globals_are n (new_there n s.globals) in
      both (is_among n g.layout.globals) (is_flagged g known scope.Global n) there (or_right (is_among n known) (is_among n g.layout.unsure) (flags n there))
  read_laid known (scope.Label z) n b stored s ok low h = or_right (is_among n known) true refl
  read_laid known (scope.Function j) n true stored s ok low h = absurd (cc)
  read_laid known (scope.Function j) n false stored s ok low h = absurd (cc)

  -- one that is assigned
  store_laid : (x : Scope) (n : ℕ) (s : Needs) → is_variable x ≡ true → is_low_name hs x n ≡ true → Served (with_global x n s) → has_place g x n ≡ true
  store_laid scope.Local n s ok low h = names n low
  store_laid scope.Global n s ok low h = h.globals_are n (new_there n s.globals)
  store_laid (scope.Label z) n s ok low h = refl
  store_laid (scope.Function j) n s ok low h = refl

  term_laid : (known : List ℕ) (l : Told) (r : Ready) (t : Term) (s : Needs) → is_term sc l r t ≡ true → is_low_term sc hs t ≡ true → Served (term_needs sc t s) → is_laid_term g known t ≡ true
  term_laid known l r (Literal i k zs) s ok low h = refl
  term_laid known l r (Read i n) s ok low h = read_laid known (sc n) n (is_among i l.assigned) r.stored s ok low h
  term_laid known l r (Slot i k) s ok low h = most_right s.slots k (the_frame g).slots h.slots_are
  term_laid known l r (Mono i f b) s ok low h = term_laid known l r b s (and_right (is_sign f) (is_term sc l r b) ok) low h
  term_laid known l r (Dyad i f a b) s ok low h =
      let parts = and_right (is_checked f) (is_term sc l r a && is_term sc l r b) ok in
      both (is_laid_term g known b) (is_laid_term g (known_after known b) a)
      (term_laid known l r b s (and_right (is_term sc l r a) (is_term sc l r b) parts) (and_right (is_low_term sc hs a) (is_low_term sc hs b) low) (term_back g.layout.globals g.layout.called (the_frame g).slots sc a (term_needs sc b s) h))
      (term_laid (known_after known b) l r a (term_needs sc b s) (and_left (is_term sc l r a) (is_term sc l r b) parts) (and_left (is_low_term sc hs a) (is_low_term sc hs b) low) h)
  term_laid known l r (Index i a xs) s ok low h = absurd (cc)

  slot_laid : (o : Option ℕ) (s : Needs) → Served (with_slots o s) → is_laid_slot g o ≡ true
  slot_laid None s h = refl
  slot_laid (Some k) s h = most_right s.slots k (the_frame g).slots h.slots_are

  call_laid : (j : ℕ) (a b r : Option ℕ) (s : Needs) → Served (with_slots r (with_slots b (with_slots a (with_called j s)))) → (is_among j g.layout.called && (is_laid_slot g a && (is_laid_slot g b && is_laid_slot g r))) ≡ true
  call_laid j a b r s h =
      let s1 = with_called j s in
      let s2 = with_slots a s1 in
      let s3 = with_slots b s2 in
      let h3 = slots_back g.layout.globals g.layout.called (the_frame g).slots r s3 h in
      let h2 = slots_back g.layout.globals g.layout.called (the_frame g).slots b s2 h3 in
      let h1 = slots_back g.layout.globals g.layout.called (the_frame g).slots a s1 h2 in
      both (is_among j g.layout.called) (is_laid_slot g a && (is_laid_slot g b && is_laid_slot g r)) (h1.called_are j (new_there j s.called))
      (both (is_laid_slot g a) (is_laid_slot g b && is_laid_slot g r) (slot_laid a s1 h2)
      (both (is_laid_slot g b) (is_laid_slot g r) (slot_laid b s2 h3) (slot_laid r s3 h)))

  step_laid : (known : List ℕ) (l : Told) (r : Ready) (x : Effect) (s : Needs) → is_effect p sc l r x ≡ true → is_low_step sc hs x ≡ true → Served (step_needs sc x s) → is_laid_step g known x ≡ true
  step_laid known l r (Keep k t) s ok low h =
      both (nat_lt k (the_frame g).slots) (is_laid_term g known t) (most_right (term_needs sc t s).slots k (the_frame g).slots h.slots_are)
      (term_laid known l r t s ok (and_right (nat_lt k 2000) (is_low_term sc hs t) low) (slot_back g.layout.globals g.layout.called (the_frame g).slots k (term_needs sc t s) h))
  step_laid known l r (Store i n t) s ok low h =
      both (has_place g (sc n) n) (is_laid_term g known t)
      (store_laid (sc n) n (term_needs sc t s) (and_left (is_variable (sc n)) (is_term sc l r t) ok) (and_left (is_low_name hs (sc n) n) (is_low_term sc hs t) low) h)
      (term_laid known l r t s (and_right (is_variable (sc n)) (is_term sc l r t) ok) (and_right (is_low_name hs (sc n) n) (is_low_term sc hs t) low) (global_back g.layout.globals g.layout.called (the_frame g).slots (sc n) n (term_needs sc t s) h))
  step_laid known l r (StoreAt i n ts t) s ok low h = absurd (cc)
  step_laid known l r (Call i n a b o) s ok low h = call_laid (function_of (sc n)) a b o s h
  step_laid known l r (ReadText i k) s ok low h = absurd (cc)
  step_laid known l r (ReadNums i k) s ok low h = absurd (cc)
  step_laid known l r (Show None t) s ok low h = term_laid known l r t s ok low h
  step_laid known l r (Show (Some i) t) s ok low h = absurd (cc)
  step_laid known l r (Branch t) s ok low h = term_laid known l r t s ok low h

  steps_laid : (known : List ℕ) (l : Told) (r : Ready) (xs : List Effect) (s : Needs) → are_effects p sc l r xs ≡ true → are_low_steps sc hs xs ≡ true → Served (steps_need sc xs s) → are_laid_steps g known xs ≡ true
  steps_laid known l r [] s ok low h = refl
  steps_laid known l r (x ∷ xs) s ok low h =
      both (is_laid_step g known x) (are_laid_steps g (known_behind known x) xs)
      (step_laid known l r x s (and_left (is_effect p sc l r x) (are_effects p sc l (ready_after r x) xs) ok) (and_left (is_low_step sc hs x) (are_low_steps sc hs xs) low) (steps_back g.layout.globals g.layout.called (the_frame g).slots sc xs (step_needs sc x s) h))
      (steps_laid (known_behind known x) l (ready_after r x) xs (step_needs sc x s) (and_right (is_effect p sc l r x) (are_effects p sc l (ready_after r x) xs) ok) (and_right (is_low_step sc hs x) (are_low_steps sc hs xs) low) h)

  -- ---- Lines

  unless : (b a : Bool) → a ≡ true → cond b true a ≡ true
  unless true a h = refl
  unless false a h = h

  where_so : (b a : Bool) → a ≡ true → cond b a true ≡ true
  where_so true a h = h
  where_so false a h = refl

  pub lines_laid : (known : List ℕ) (through : Bool) (k : ℕ) (xs : List (List Effect)) (s : Needs) → are_lines p sc xs ≡ true → are_low_lines sc hs xs ≡ true → Served (lines_need sc xs s) → are_laid_lines g known through k xs ≡ true
  lines_laid known through k [] s ok low h = refl
  lines_laid known through k ([] ∷ xs) s ok low h = lines_laid known through (k + 1) xs s (and_right (is_line p sc []) (are_lines p sc xs) ok) low h
  lines_laid known through k ((x ∷ more) ∷ xs) s ok low h =
      let line = x ∷ more in
      let fine = and_left (are_effects p sc (told line) nothing_ready line) (nat_le (effects_cost line) 2000) (and_left (is_line p sc line) (are_lines p sc xs) ok) in
      unless (through && is_entry (the_routine g) k) (are_laid_steps g known line && cond (branches line) true (are_laid_lines g (known_through known line) true (k + 1) xs))
      (both (are_laid_steps g known line) (cond (branches line) true (are_laid_lines g (known_through known line) true (k + 1) xs))
      (steps_laid known (told line) nothing_ready line s fine (and_left (are_low_steps sc hs line) (are_low_lines sc hs xs) low) (lines_back g.layout.globals g.layout.called (the_frame g).slots sc xs (steps_need sc line s) h))
      (unless (branches line) (are_laid_lines g (known_through known line) true (k + 1) xs)
      (lines_laid (known_through known line) true (k + 1) xs (steps_need sc line s) (and_right (is_line p sc line) (are_lines p sc xs) ok) (and_right (are_low_steps sc hs line) (are_low_lines sc hs xs) low) h)))

  pub arms_laid : (k : ℕ) (xs : List (List Effect)) (s : Needs) → are_lines p sc xs ≡ true → are_low_lines sc hs xs ≡ true → Served (lines_need sc xs s) → are_laid_arms g k xs ≡ true
  arms_laid k [] s ok low h = refl
  arms_laid k (x ∷ xs) s ok low h =
      both (cond (is_entry (the_routine g) k) (are_laid_lines g (the_frame g).sure false k (x ∷ xs)) true) (are_laid_arms g (k + 1) xs)
      (where_so (is_entry (the_routine g) k) (are_laid_lines g (the_frame g).sure false k (x ∷ xs)) (lines_laid (the_frame g).sure false k (x ∷ xs) s ok low h))
      (arms_laid (k + 1) xs (steps_need sc x s) (and_right (is_line p sc x) (are_lines p sc xs) ok) (and_right (are_low_steps sc hs x) (are_low_lines sc hs xs) low) h)

-- Lines that are laid where every name has a flag are laid where those have one that are read while not known to have a value.
use Rattle.std.proofs.Common.{◌≡◌, subst, sym, refl, ℕ, ◌+◌, List, [], ◌∷◌, Bool, true, false, cond, nat_eq, nat_lt, ◌&&◌, ◌||◌, Option, Some, None}
use Rattle.aplc_names.specs.declared.scope.Scope.{Scope}
use Rattle.aplc_names.specs.declared.scope.Scope.TheVariants as scope
use Rattle.aplc_names.specs.States.{is_among}
use Rattle.aplc_names.specs.Eager.{function_of}
use Rattle.aplc_core.specs.PlainSteps.{Term, Literal, Read, Slot, Mono, Dyad, Index, Effect, Keep, Store, StoreAt, Call, ReadText, ReadNums, Show, Branch}
use Rattle.aplc_core.specs.CoreRuns.{CoreRoutine, PlainCore}
use Rattle.aplc_gen.specs.Layouts.{Layout, Site, the_frame, frame_of, routine_at, is_unsure}
use Rattle.aplc_gen.specs.Emitted.{known_after, known_behind, known_through, branches, is_entry, site_at}
use Rattle.aplc_gen.specs.Laid.{has_place, is_label, is_flagged, is_laid_term, is_laid_slot, is_laid_step, are_laid_steps, are_laid_lines}
use Rattle.aplc_gen.specs.Sparing.{Flags, with_flag, read_flags, term_flags, step_flags, steps_flags, lines_flags, arms_flags, result_flags}
use Rattle.aplc_gen.proofs.Landing.{or_right}
use Rattle.aplc_gen.proofs.Frames.{and_left, and_right}
use Rattle.aplc_gen.proofs.Knowing.{Among}
use Rattle.aplc_gen.proofs.MadeLists.{among_self}
use Rattle.aplc_gen.proofs.MadeServes.{both}

-- ---- What has been gathered stays among what is gathered in the end

pub record Gathered (locals globals : List ℕ) (s : Flags) : Type 0 where
  pub locals_are : Among s.locals locals
  pub globals_are : Among s.globals globals

less : (n : ℕ) (xs ys : List ℕ) → Among (n ∷ xs) ys → Among xs ys
less n xs ys h m a = h m (or_right (nat_eq m n) (is_among m xs) a)

module _ (locals globals : List ℕ) where
  abbrev Has : Flags → Type 0
  Has s = Gathered locals globals s

  flag_back : (x : Scope) (n : ℕ) (s : Flags) → Has (with_flag x n s) → Has s
  flag_back scope.Local n s h = record { locals_are = less n s.locals locals h.locals_are; globals_are = h.globals_are }
  flag_back scope.Global n s h = record { locals_are = h.locals_are; globals_are = less n s.globals globals h.globals_are }
  flag_back (scope.Label z) n s h = h
  flag_back (scope.Function j) n s h = record { locals_are = h.locals_are; globals_are = less n s.globals globals h.globals_are }

  read_back : (known : List ℕ) (x : Scope) (n : ℕ) (s : Flags) → Has (read_flags known x n s) → Has s
  read_back known x n s h = by (is_among n known) h
    where
      by : (b : Bool) → Has (cond b s (with_flag x n s)) → Has s
      by true k = k
      by false k = flag_back x n s k

  term_back : (sc : ℕ → Scope) (known : List ℕ) (t : Term) (s : Flags) → Has (term_flags sc known t s) → Has s
  term_back sc known (Literal i k zs) s h = h
  term_back sc known (Read i n) s h = read_back known (sc n) n s h
  term_back sc known (Slot i k) s h = h
  term_back sc known (Mono i f b) s h = term_back sc known b s h
  term_back sc known (Dyad i f a b) s h = term_back sc known b s (term_back sc (known_after known b) a (term_flags sc known b s) h)
  term_back sc known (Index i a xs) s h = h

  step_back : (sc : ℕ → Scope) (known : List ℕ) (x : Effect) (s : Flags) → Has (step_flags sc known x s) → Has s
  step_back sc known (Keep k t) s h = term_back sc known t s h
  step_back sc known (Store i n t) s h = term_back sc known t s h
  step_back sc known (StoreAt i n ts t) s h = h
  step_back sc known (Call i n a b r) s h = h
  step_back sc known (ReadText i k) s h = h
  step_back sc known (ReadNums i k) s h = h
  step_back sc known (Show o t) s h = term_back sc known t s h
  step_back sc known (Branch t) s h = term_back sc known t s h

  steps_back : (sc : ℕ → Scope) (known : List ℕ) (xs : List Effect) (s : Flags) → Has (steps_flags sc known xs s) → Has s
  steps_back sc known [] s h = h
  steps_back sc known (x ∷ xs) s h = step_back sc known x s (steps_back sc (known_behind known x) xs (step_flags sc known x s) h)

  -- one line, and what is gathered behind it
  line_back : (b c : Bool) (s after more : Flags) → (Has after → Has s) → (Has more → Has after) → Has (cond b s (cond c after more)) → Has s
  line_back true c s after more own rest h = h
  line_back false true s after more own rest h = own h
  line_back false false s after more own rest h = own (rest h)

  pub lines_back : (f : CoreRoutine) (known : List ℕ) (through : Bool) (l : ℕ) (xs : List (List Effect)) (s : Flags) → Has (lines_flags f known through l xs s) → Has s
  lines_back f known through l [] s h = h
  lines_back f known through l ([] ∷ xs) s h = lines_back f known through (l + 1) xs s h
  lines_back f known through l ((x ∷ more) ∷ xs) s h =
      let after = steps_flags f.header.scope known (x ∷ more) s in
      line_back (through && is_entry f l) (branches (x ∷ more)) s after (lines_flags f (known_through known (x ∷ more)) true (l + 1) xs after)
      (steps_back f.header.scope known (x ∷ more) s) (lines_back f (known_through known (x ∷ more)) true (l + 1) xs after) h

  arm_back : (b : Bool) (s arm : Flags) → (Has arm → Has s) → Has (cond b arm s) → Has s
  arm_back true s arm own h = own h
  arm_back false s arm own h = h

  pub arms_back : (f : CoreRoutine) (sure : List ℕ) (l : ℕ) (xs : List (List Effect)) (s : Flags) → Has (arms_flags f sure l xs s) → Has s
  arms_back f sure l [] s h = h
  arms_back f sure l (x ∷ xs) s h =
      let arm = lines_flags f sure false l (x ∷ xs) s in
      arm_back (is_entry f l) s arm (lines_back f sure false l (x ∷ xs) s) (arms_back f sure (l + 1) xs (cond (is_entry f l) arm s) h)

  pub result_back : (sure : List ℕ) (o : Option ℕ) (s : Flags) → Has (result_flags sure o s) → Has s
  result_back sure None s h = h
  result_back sure (Some n) s h = by (is_among n sure) h
    where
      by : (b : Bool) → Has (cond b s (record s { locals = n ∷ s.locals })) → Has s
      by true k = k
      by false k = record { locals_are = less n s.locals locals k.locals_are; globals_are = k.globals_are }

-- ---- From a layout with all flags to one with those that were gathered

pub record Spares (y z : Layout) (j : ℕ) (locals globals : List ℕ) : Type 0 where
  pub names_are : Among (frame_of y j).names (frame_of z j).names
  pub globals_are : Among y.globals z.globals
  pub called_are : Among y.called z.called
  pub slots_are : (frame_of z j).slots ≡ (frame_of y j).slots
  pub all_flagged : Among y.unsure y.globals
  pub locals_flagged : (n : ℕ) → is_among n (frame_of y j).names ≡ true → is_among n locals ≡ true → is_among n (frame_of z j).unsure ≡ true
  pub globals_flagged : (n : ℕ) → is_among n y.globals ≡ true → is_among n globals ≡ true → is_among n z.unsure ≡ true

module _ (p : PlainCore) (y z : Layout) (first : Bool) (j : ℕ) (locals globals : List ℕ) (spares : Spares y z j locals globals) where
  abbrev g : Site
  g = site_at y p first j

  abbrev h : Site
  h = site_at z p first j

  abbrev f : CoreRoutine
  f = routine_at p j

  abbrev sc : ℕ → Scope
  sc = f.header.scope

  abbrev In : Flags → Type 0
  In s = Gathered locals globals s

  place_spared : (x : Scope) (n : ℕ) → has_place g x n ≡ true → has_place h x n ≡ true
  place_spared scope.Local n e = spares.names_are n e
  place_spared scope.Global n e = spares.globals_are n e
  place_spared (scope.Label z) n e = refl
  place_spared (scope.Function i) n e = refl

  -- it is known, or it has a flag
  flagged : (x : Scope) (n : ℕ) (s : Flags) (b : Bool) → has_place g x n ≡ true → (b || (is_label x || is_unsure g x n)) ≡ true → In (cond b s (with_flag x n s)) → (b || (is_label x || is_unsure h x n)) ≡ true
  flagged x n s true place e has = refl
  flagged scope.Local n s false place e has = spares.locals_flagged n place (has.locals_are n (among_self n s.locals))
  flagged scope.Global n s false place e has = spares.globals_flagged n place (has.globals_are n (among_self n s.globals))
  flagged (scope.Label z) n s false place e has = refl
  flagged (scope.Function i) n s false place e has = spares.globals_flagged n (spares.all_flagged n e) (has.globals_are n (among_self n s.globals))

  read_spared : (known : List ℕ) (x : Scope) (n : ℕ) (s : Flags) → (has_place g x n && is_flagged g known x n) ≡ true → In (read_flags known x n s) → (has_place h x n && is_flagged h known x n) ≡ true
  read_spared known x n s e has =
      let place = and_left (has_place g x n) (is_flagged g known x n) e in
      both (has_place h x n) (is_flagged h known x n) (place_spared x n place)
      (flagged x n s (is_among n known) place (and_right (has_place g x n) (is_flagged g known x n) e) has)

  below : (k : ℕ) → nat_lt k (the_frame g).slots ≡ true → nat_lt k (the_frame h).slots ≡ true
  below k e = subst (λ (i : ℕ). nat_lt k i ≡ true) (sym spares.slots_are) e

  term_spared : (known : List ℕ) (t : Term) (s : Flags) → is_laid_term g known t ≡ true → In (term_flags sc known t s) → is_laid_term h known t ≡ true
  term_spared known (Literal i k zs) s e has = refl
  term_spared known (Read i n) s e has = read_spared known (sc n) n s e has
  term_spared known (Slot i k) s e has = below k e
  term_spared known (Mono i q b) s e has = term_spared known b s e has
  term_spared known (Dyad i q a b) s e has =
      both (is_laid_term h known b) (is_laid_term h (known_after known b) a)
      (term_spared known b s (and_left (is_laid_term g known b) (is_laid_term g (known_after known b) a) e) (term_back locals globals sc (known_after known b) a (term_flags sc known b s) has))
      (term_spared (known_after known b) a (term_flags sc known b s) (and_right (is_laid_term g known b) (is_laid_term g (known_after known b) a) e) has)
  term_spared known (Index i a xs) s e has = absurd (cc)

  slot_spared : (o : Option ℕ) → is_laid_slot g o ≡ true → is_laid_slot h o ≡ true
  slot_spared None e = refl
  slot_spared (Some k) e = below k e

  call_spared : (i : ℕ) (a b r : Option ℕ) → (is_among i y.called && (is_laid_slot g a && (is_laid_slot g b && is_laid_slot g r))) ≡ true → (is_among i z.called && (is_laid_slot h a && (is_laid_slot h b && is_laid_slot h r))) ≡ true
  call_spared i a b r e =
      let slots = and_right (is_among i y.called) (is_laid_slot g a && (is_laid_slot g b && is_laid_slot g r)) e in
      let more = and_right (is_laid_slot g a) (is_laid_slot g b && is_laid_slot g r) slots in
      both (is_among i z.called) (is_laid_slot h a && (is_laid_slot h b && is_laid_slot h r)) (spares.called_are i (and_left (is_among i y.called) (is_laid_slot g a && (is_laid_slot g b && is_laid_slot g r)) e))
      (both (is_laid_slot h a) (is_laid_slot h b && is_laid_slot h r) (slot_spared a (and_left (is_laid_slot g a) (is_laid_slot g b && is_laid_slot g r) slots))
      (both (is_laid_slot h b) (is_laid_slot h r) (slot_spared b (and_left (is_laid_slot g b) (is_laid_slot g r) more)) (slot_spared r (and_right (is_laid_slot g b) (is_laid_slot g r) more))))

  step_spared : (known : List ℕ) (x : Effect) (s : Flags) → is_laid_step g known x ≡ true → In (step_flags sc known x s) → is_laid_step h known x ≡ true
  step_spared known (Keep k t) s e has =
      both (nat_lt k (the_frame h).slots) (is_laid_term h known t) (below k (and_left (nat_lt k (the_frame g).slots) (is_laid_term g known t) e)) (term_spared known t s (and_right (nat_lt k (the_frame g).slots) (is_laid_term g known t) e) has)
  step_spared known (Store i n t) s e has =
      both (has_place h (sc n) n) (is_laid_term h known t) (place_spared (sc n) n (and_left (has_place g (sc n) n) (is_laid_term g known t) e)) (term_spared known t s (and_right (has_place g (sc n) n) (is_laid_term g known t) e) has)
  step_spared known (StoreAt i n ts t) s e has = absurd (cc)
  step_spared known (Call i n a b r) s e has = call_spared (function_of (sc n)) a b r e
  step_spared known (ReadText i k) s e has = absurd (cc)
  step_spared known (ReadNums i k) s e has = absurd (cc)
  step_spared known (Show o t) s e has = term_spared known t s e has
  step_spared known (Branch t) s e has = term_spared known t s e has

  steps_spared : (known : List ℕ) (xs : List Effect) (s : Flags) → are_laid_steps g known xs ≡ true → In (steps_flags sc known xs s) → are_laid_steps h known xs ≡ true
  steps_spared known [] s e has = refl
  steps_spared known (x ∷ xs) s e has =
      both (is_laid_step h known x) (are_laid_steps h (known_behind known x) xs)
      (step_spared known x s (and_left (is_laid_step g known x) (are_laid_steps g (known_behind known x) xs) e) (steps_back locals globals sc (known_behind known x) xs (step_flags sc known x s) has))
      (steps_spared (known_behind known x) xs (step_flags sc known x s) (and_right (is_laid_step g known x) (are_laid_steps g (known_behind known x) xs) e) has)

  -- one line, where what is behind it is known to be spared
  line_spared : (b c : Bool) (own own_after behind behind_after : Bool) (s after more : Flags)
      → (own ≡ true → In after → own_after ≡ true) → (behind ≡ true → In more → behind_after ≡ true) → (In more → In after)
      → cond b true (own && cond c true behind) ≡ true → In (cond b s (cond c after more)) → cond b true (own_after && cond c true behind_after) ≡ true
  line_spared true c own own_after behind behind_after s after more here there back e has = refl
  line_spared false true own own_after behind behind_after s after more here there back e has = both own_after true (here (and_left own true e) has) refl
  line_spared false false own own_after behind behind_after s after more here there back e has =
      both own_after behind_after (here (and_left own behind e) (back has)) (there (and_right own behind e) has)

  pub lines_spared : (known : List ℕ) (through : Bool) (l : ℕ) (xs : List (List Effect)) (s : Flags) → are_laid_lines g known through l xs ≡ true → In (lines_flags f known through l xs s) → are_laid_lines h known through l xs ≡ true
  lines_spared known through l [] s e has = refl
  lines_spared known through l ([] ∷ xs) s e has = lines_spared known through (l + 1) xs s e has
  lines_spared known through l ((x ∷ more) ∷ xs) s e has =
      let line = x ∷ more in
      let after = steps_flags sc known line s in
      line_spared (through && is_entry f l) (branches line) (are_laid_steps g known line) (are_laid_steps h known line)
      (are_laid_lines g (known_through known line) true (l + 1) xs) (are_laid_lines h (known_through known line) true (l + 1) xs)
      s after (lines_flags f (known_through known line) true (l + 1) xs after)
      (steps_spared known line s) (lines_spared (known_through known line) true (l + 1) xs after) (lines_back locals globals f (known_through known line) true (l + 1) xs after) e has

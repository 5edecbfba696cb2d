-- The variables that are made for a program serve it.
use Rattle.std.proofs.Common.{◌≡◌, ◌∙◌, sym, ap, subst, refl, ℕ, zero, suc, ◌≤◌, List, [], ◌∷◌, ◌++◌, length, Bool, true, false, nat_le, nat_eq, ◌||◌, ◌&&◌, ◌⊎◌, inl, inr, Option, Some, None, slice_get, arith}
use Rattle.std.specs.Prelude.{unwrap_or, option_and_then}
use Rattle.std.specs.Option.{option_to_list}
use Rattle.std.proofs.lemmas.Bool.Decides.{nat_tests}
use Rattle.aplc_cprof.specs.WellFormed.{is_name}
use Rattle.aplc_names.specs.PlainPrograms.{Routine, names_of_header, header_count}
use Rattle.aplc_names.specs.States.{is_among}
use Rattle.aplc_names.specs.Eager.{function_of}
use Rattle.aplc_core.specs.PlainSteps.{Effect, Keep, Store, StoreAt, Call, ReadText, ReadNums, Show, Branch}
use Rattle.aplc_core.specs.CoreRuns.{CoreRoutine, PlainCore, no_core}
use Rattle.aplc_gen.specs.Layouts.{Frame, Layout, Site, the_routine, the_frame, no_frame}
use Rattle.aplc_gen.specs.Emitted.{site_at, first_known}
use Rattle.aplc_gen.specs.Laid.{is_laid_site, are_laid_sites, are_laid_lines, are_laid_arms, are_among, known_at_end, is_laid_name, is_laid_result, is_counted, step_falls, steps_fall, lines_fall, IsShallow, IsLaid}
use Rattle.aplc_gen.specs.Sound.{is_sound, is_bare, both_or_none, begins, is_routine, are_routines, has_own_names, are_lines}
use Rattle.aplc_gen.specs.Made.{Needs, no_needs, with_called, with_slots, step_needs, steps_need, lines_need, routine_needs, all_need, frame_made, frames_made, parameters, with_each, is_some_called, layout_of, is_modest, is_low_routine, are_low_routines, are_low_lines, are_below}
use Rattle.aplc_gen.proofs.Landing.{or_right}
use Rattle.aplc_gen.proofs.Frames.{and_left, and_right}
use Rattle.aplc_gen.proofs.Knowing.{Among, end_more}
use Rattle.aplc_gen.proofs.MadeLists.{each_there, each_less, each_length, all_among, among_left, among_right, itself, new_there}
use Rattle.aplc_gen.proofs.MadeServes.{Serves, both, all_back, lines_back, steps_back, slots_back, lines_laid, arms_laid}

-- ---- A function of a program, and its frame

-- what it needs, in a state of which the whole program has all
pub record Made (globals called : List ℕ) (f : CoreRoutine) (o : Option Frame) : Type 0 where
  pub before : Needs
  pub frame : o ≡ Some (frame_made f (routine_needs f before).slots)
  pub there : Serves globals called (routine_needs f before).slots (routine_needs f before)

pub made_at : (fs : List CoreRoutine) (s : Needs) (slots : ℕ) (globals called : List ℕ) → Serves globals called slots (all_need fs s) → (j : ℕ) (f : CoreRoutine) → slice_get fs j ≡ Some f → Made globals called f (slice_get (frames_made fs s) j)
made_at [] s slots globals called h j f at = absurd (cc)
made_at (g ∷ fs) s slots globals called h zero f at =
    let same : g ≡ f = cc in
    let own = all_back globals called fs slots (routine_needs g s) h in
    subst (λ k. Made globals called k (Some (frame_made g (routine_needs g s).slots))) same (record { before = s; frame = refl; there = own })
made_at (g ∷ fs) s slots globals called h (suc j) f at = made_at fs (routine_needs g s) slots globals called h j f at

pub none_at : (fs : List CoreRoutine) (s : Needs) (j : ℕ) → slice_get fs j ≡ None → slice_get (frames_made fs s) j ≡ None
none_at [] s j at = refl
none_at (g ∷ fs) s zero at = absurd (cc)
none_at (g ∷ fs) s (suc j) at = none_at fs (routine_needs g s) j at

all_serve : (s : Needs) → Serves s.globals s.called s.slots s
all_serve s = record { globals_are = λ n h. h; called_are = λ n h. h; slots_are = omega arith }

-- of function j of a program
pub made_of : (p : PlainCore) (j : ℕ) (f : CoreRoutine) → slice_get p.routines j ≡ Some f → Made (layout_of p).globals (layout_of p).called f (slice_get (layout_of p).frames j)
made_of p j f at =
    let whole = all_need p.routines no_needs in
    made_at p.routines no_needs whole.slots whole.globals whole.called (all_serve whole) j f at

pub routine_sound : (p : PlainCore) (fs : List CoreRoutine) (j : ℕ) (f : CoreRoutine) → are_routines p fs ≡ true → slice_get fs j ≡ Some f → is_routine p f ≡ true
routine_sound p [] j f ok at = absurd (cc)
routine_sound p (g ∷ fs) zero f ok at = let same : g ≡ f = cc in subst (λ h. is_routine p h ≡ true) same (and_left (is_routine p g) (are_routines p fs) ok)
routine_sound p (g ∷ fs) (suc j) f ok at = routine_sound p fs j f (and_right (is_routine p g) (are_routines p fs) ok) at

pub routine_low : (fs : List CoreRoutine) (j : ℕ) (f : CoreRoutine) → are_low_routines fs ≡ true → slice_get fs j ≡ Some f → is_low_routine f ≡ true
routine_low [] j f ok at = absurd (cc)
routine_low (g ∷ fs) zero f ok at = let same : g ≡ f = cc in subst (λ h. is_low_routine h ≡ true) same (and_left (is_low_routine g) (are_low_routines fs) ok)
routine_low (g ∷ fs) (suc j) f ok at = routine_low fs j f (and_right (is_low_routine g) (are_low_routines fs) ok) at

pub lines_sound : (p : PlainCore) (f : CoreRoutine) → is_routine p f ≡ true → are_lines p f.header.scope f.steps ≡ true
lines_sound p f ok =
    let rest = and_right (is_name f.header.title) (has_own_names f.header && (nat_le (length f.steps) 999 && are_lines p f.header.scope f.steps)) ok in
    let lines = and_right (has_own_names f.header) (nat_le (length f.steps) 999 && are_lines p f.header.scope f.steps) rest in
    and_right (nat_le (length f.steps) 999) (are_lines p f.header.scope f.steps) lines

-- ---- Names of headers

given : (o : Option ℕ) (n : ℕ) → o ≡ Some n → is_among n (option_to_list o) ≡ true
given None n e = absurd (cc)
given (Some m) n e = let same : m ≡ n = cc in subst (λ k. is_among n (k ∷ []) ≡ true) (sym same) (by (itself n))
  where
    by : nat_eq n n ≡ true → (nat_eq n n || false) ≡ true
    by h = rw h refl

pub result_named : (f : Routine) (n : ℕ) → f.result ≡ Some n → is_among n (names_of_header f) ≡ true
result_named f n e =
    among_left n (option_to_list f.result ++ option_to_list f.left ++ option_to_list f.right) f.locals
    (among_left n (option_to_list f.result ++ option_to_list f.left) (option_to_list f.right)
    (among_left n (option_to_list f.result) (option_to_list f.left) (given f.result n e)))

pub left_named : (f : Routine) (n : ℕ) → f.left ≡ Some n → is_among n (names_of_header f) ≡ true
left_named f n e =
    among_left n (option_to_list f.result ++ option_to_list f.left ++ option_to_list f.right) f.locals
    (among_left n (option_to_list f.result ++ option_to_list f.left) (option_to_list f.right)
    (among_right n (option_to_list f.result) (option_to_list f.left) (given f.left n e)))

pub right_named : (f : Routine) (n : ℕ) → f.right ≡ Some n → is_among n (names_of_header f) ≡ true
right_named f n e =
    among_left n (option_to_list f.result ++ option_to_list f.left ++ option_to_list f.right) f.locals
    (among_right n (option_to_list f.result ++ option_to_list f.left) (option_to_list f.right) (given f.right n e))

-- ---- A function that is written

-- one with this frame is laid
module _ (p : PlainCore) (y : Layout) (first : Bool) (j : ℕ) (f : CoreRoutine) (slots : ℕ) (flags : Among y.globals y.unsure) where
  abbrev g : Site
  g = site_at y p first j

  abbrev hs : List ℕ
  hs = names_of_header f.header

  name_laid : (fr : Frame) → fr ≡ frame_made f slots → (o : Option ℕ) → ((n : ℕ) → o ≡ Some n → is_among n hs ≡ true) → the_frame g ≡ fr → is_laid_name g o ≡ true
  name_laid fr e None named is = refl
  name_laid fr e (Some n) named is = subst (λ (x : Frame). is_among n x.names ≡ true) (sym (is ∙ e)) (each_there [] hs n (named n refl))

  result_laid : the_frame g ≡ frame_made f slots → (o : Option ℕ) → ((n : ℕ) → o ≡ Some n → is_among n hs ≡ true) → is_laid_result g o ≡ true
  result_laid is None named = refl
  result_laid is (Some n) named =
      let there = each_there [] hs n (named n refl) in
      subst (λ (x : Frame). (is_among n x.names && (is_among n x.sure || is_among n x.unsure)) ≡ true) (sym is)
      (both (is_among n (with_each [] hs)) (is_among n (with_each [] (parameters f)) || is_among n (with_each [] hs)) there (or_right (is_among n (with_each [] (parameters f))) (is_among n (with_each [] hs)) there))

  few : length (with_each [] hs) ≤ header_count f.header
  few = let a = each_length [] hs in omega (arith, a)

  at_most : (a b : ℕ) → a ≤ b → nat_le a b ≡ true
  at_most a b h = grind (arith, nat_tests, h)

  -- what is known at the beginning is what is sure
  pub site_laid : the_routine g ≡ f → the_frame g ≡ frame_made f slots → Among (first_known g) (with_each [] (parameters f)) → Among (with_each [] (parameters f)) (first_known g)
      → are_laid_lines g (first_known g) false 1 f.steps ≡ true → are_laid_arms g 1 f.steps ≡ true → is_laid_site g ≡ true
  site_laid routine frame sure known lines arms =
      let r : CoreRoutine = the_routine g in
      both (nat_le (length (the_frame g).unsure) (header_count r.header)) _
      (at_most (length (the_frame g).unsure) (header_count r.header) (subst (λ (h : CoreRoutine). length (the_frame g).unsure ≤ header_count h.header) (sym routine) (subst (λ (x : Frame). length x.unsure ≤ header_count f.header) (sym frame) few)))
      (both (are_laid_lines g (first_known g) false 1 r.steps) _ (subst (λ (h : CoreRoutine). are_laid_lines g (first_known g) false 1 h.steps ≡ true) (sym routine) lines)
      (both (are_laid_arms g 1 r.steps) _ (subst (λ (h : CoreRoutine). are_laid_arms g 1 h.steps ≡ true) (sym routine) arms)
      (both (are_among (first_known g) (the_frame g).sure) _ (all_among (first_known g) (the_frame g).sure (subst (λ (x : Frame). Among (first_known g) x.sure) (sym frame) sure))
      (both (are_among (the_frame g).sure (known_at_end g (first_known g) false 1 r.steps)) _
      (all_among (the_frame g).sure (known_at_end g (first_known g) false 1 r.steps)
      (λ n a. end_more g (first_known g) false 1 r.steps n (known n (subst (λ (x : Frame). is_among n x.sure ≡ true) frame a))))
      (both (is_laid_name g r.header.left) _ (subst (λ (h : CoreRoutine). is_laid_name g h.header.left ≡ true) (sym routine) (name_laid (frame_made f slots) refl f.header.left (left_named f.header) frame))
      (both (is_laid_name g r.header.right) (is_laid_result g r.header.result) (subst (λ (h : CoreRoutine). is_laid_name g h.header.right ≡ true) (sym routine) (name_laid (frame_made f slots) refl f.header.right (right_named f.header) frame))
      (subst (λ (h : CoreRoutine). is_laid_result g h.header.result ≡ true) (sym routine) (result_laid frame f.header.result (result_named f.header)))))))))

-- ---- Programs

-- function j, with all that the program has
module _ (p : PlainCore) (first : Bool) (j : ℕ) (f : CoreRoutine) (at : slice_get p.routines j ≡ Some f) (ok : is_routine p f ≡ true) (low : is_low_routine f ≡ true) where
  abbrev site : Site
  site = site_at (layout_of p) p first j

  abbrev given_names : List ℕ
  given_names = names_of_header f.header

  abbrev start : Needs
  start = record (made_of p j f at).before { slots = 0 }

  abbrev own : Frame
  own = frame_made f (routine_needs f (made_of p j f at).before).slots

  routine_is : the_routine site ≡ f
  routine_is = ap (λ (o : Option CoreRoutine). unwrap_or o no_core) at

  frame_is : the_frame site ≡ own
  frame_is = ap (λ (o : Option Frame). unwrap_or o no_frame) (made_of p j f at).frame

  there : Serves (layout_of p).globals (layout_of p).called (the_frame site).slots (lines_need (the_routine site).header.scope f.steps start)
  there =
      subst (λ (r : CoreRoutine). Serves (layout_of p).globals (layout_of p).called (the_frame site).slots (lines_need r.header.scope f.steps start)) (sym routine_is)
      (subst (λ (x : Frame). Serves (layout_of p).globals (layout_of p).called x.slots (lines_need f.header.scope f.steps start)) (sym frame_is) (made_of p j f at).there)

  names_there : Among given_names (the_frame site).names
  names_there = subst (λ (x : Frame). Among given_names x.names) (sym frame_is) (each_there [] given_names)

  flags_there : Among given_names (the_frame site).unsure
  flags_there = subst (λ (x : Frame). Among given_names x.unsure) (sym frame_is) (each_there [] given_names)

  fine : are_lines p (the_routine site).header.scope f.steps ≡ true
  fine = subst (λ (r : CoreRoutine). are_lines p r.header.scope f.steps ≡ true) (sym routine_is) (lines_sound p f ok)

  small : are_low_lines (the_routine site).header.scope given_names f.steps ≡ true
  small = subst (λ (r : CoreRoutine). are_low_lines r.header.scope given_names f.steps ≡ true) (sym routine_is) (and_right (are_below given_names) (are_low_lines f.header.scope given_names f.steps) low)

  pub one_laid : Among (first_known site) (with_each [] (parameters f)) → Among (with_each [] (parameters f)) (first_known site) → is_laid_site site ≡ true
  one_laid sure known =
      site_laid p (layout_of p) first j f (routine_needs f (made_of p j f at).before).slots (λ n h. h) routine_is frame_is sure known
      (lines_laid site p given_names (λ n h. h) names_there flags_there (first_known site) false 1 f.steps start fine small there)
      (arms_laid site p given_names (λ n h. h) names_there flags_there 1 f.steps start fine small there)

-- what is known first is what is sure, where the arguments are given
sure_first : (p : PlainCore) (j : ℕ) (f : CoreRoutine) → the_routine (site_at (layout_of p) p false j) ≡ f → Among (first_known (site_at (layout_of p) p false j)) (with_each [] (parameters f))
sure_first p j f is = subst (λ (r : CoreRoutine). Among (parameters r) (with_each [] (parameters f))) (sym is) (each_there [] (parameters f))

known_first : (p : PlainCore) (j : ℕ) (f : CoreRoutine) → the_routine (site_at (layout_of p) p false j) ≡ f → Among (with_each [] (parameters f)) (first_known (site_at (layout_of p) p false j))
known_first p j f is = subst (λ (r : CoreRoutine). Among (with_each [] (parameters f)) (parameters r)) (sym is) (λ n h. by n (each_less [] (parameters f) n h))
  where
    by : (n : ℕ) → (is_among n [] ≡ true) ⊎ (is_among n (parameters f) ≡ true) → is_among n (parameters f) ≡ true
    by n (inl h) = absurd (cc)
    by n (inr h) = h

module _ (p : PlainCore) (ok : are_routines p p.routines ≡ true) (low : are_low_routines p.routines ≡ true) where
  called_laid : (j : ℕ) (o : Option CoreRoutine) → slice_get p.routines j ≡ o → is_laid_site (site_at (layout_of p) p false j) ≡ true
  called_laid j None at =
      let routine = ap (λ (o : Option CoreRoutine). unwrap_or o no_core) at in
      let frame = ap (λ (o : Option Frame). unwrap_or o no_frame) (none_at p.routines no_needs j at) in
      site_laid p (layout_of p) false j no_core 0 (λ n h. h) routine frame (sure_first p j no_core routine) (known_first p j no_core routine) refl refl
  called_laid j (Some f) at =
      let routine = ap (λ (o : Option CoreRoutine). unwrap_or o no_core) at in
      one_laid p false j f at (routine_sound p p.routines j f ok at) (routine_low p.routines j f low at) (sure_first p j f routine) (known_first p j f routine)

  sites_laid : (js : List ℕ) → are_laid_sites (layout_of p) p js ≡ true
  sites_laid [] = refl
  sites_laid (j ∷ js) = both (is_laid_site (site_at (layout_of p) p false j)) (are_laid_sites (layout_of p) p js) (called_laid j (slice_get p.routines j) refl) (sites_laid js)

  none_of : (o : Option ℕ) → both_or_none o None ≡ true → o ≡ None
  none_of None h = refl
  none_of (Some n) h = absurd (cc)

  pub bare_none : (f : CoreRoutine) → is_bare f.header ≡ true → parameters f ≡ []
  bare_none f h =
      let rest = and_right (both_or_none f.header.left None) (both_or_none f.header.right None && both_or_none f.header.result None) h in
      let left = none_of f.header.left (and_left (both_or_none f.header.left None) (both_or_none f.header.right None && both_or_none f.header.result None) h) in
      let right = none_of f.header.right (and_left (both_or_none f.header.right None) (both_or_none f.header.result None) rest) in
      ap (λ o. option_to_list o ++ option_to_list f.header.right) left ∙ ap (λ (o : Option ℕ). [] ++ option_to_list o) right

  start_laid : (k : ℕ) (o : Option CoreRoutine) → slice_get p.routines k ≡ o → begins o ≡ true → is_laid_site (site_at (layout_of p) p true k) ≡ true
  start_laid k None at h = absurd (cc)
  start_laid k (Some f) at h =
      let none = bare_none f h in
      one_laid p true k f at (routine_sound p p.routines k f ok at) (routine_low p.routines k f low at) (λ n a. absurd (cc)) (subst (λ (ns : List ℕ). Among (with_each [] ns) []) (sym none) (λ n a. a))

  first_laid : (o : Option ℕ) → begins (option_and_then (slice_get p.routines) o) ≡ true → is_laid_site (site_at (layout_of p) p true (unwrap_or o 0)) ≡ true
  first_laid None h = absurd (cc)
  first_laid (Some k) h = start_laid k (slice_get p.routines k) refl h

-- ---- Programs without calls

module _ (globals : List ℕ) (slots : ℕ) (rank : ℕ → ℕ) (j : ℕ) (f : CoreRoutine) where
  step_fell : (x : Effect) (s : Needs) → Serves globals [] slots (step_needs f.header.scope x s) → step_falls rank j f x ≡ true
  step_fell (Keep k t) s h = refl
  step_fell (Store i n t) s h = refl
  step_fell (StoreAt i n ts t) s h = refl
  step_fell (Call i n a b r) s h =
      let s1 = with_called (function_of (f.header.scope n)) s in
      let h1 = slots_back globals [] slots a s1 (slots_back globals [] slots b (with_slots a s1) (slots_back globals [] slots r (with_slots b (with_slots a s1)) h)) in
      let never = h1.called_are (function_of (f.header.scope n)) (new_there (function_of (f.header.scope n)) s.called) in
      absurd (cc)
  step_fell (ReadText i k) s h = refl
  step_fell (ReadNums i k) s h = refl
  step_fell (Show o t) s h = refl
  step_fell (Branch t) s h = refl

  steps_fell : (xs : List Effect) (s : Needs) → Serves globals [] slots (steps_need f.header.scope xs s) → steps_fall rank j f xs ≡ true
  steps_fell [] s h = refl
  steps_fell (x ∷ xs) s h =
      both (step_falls rank j f x) (steps_fall rank j f xs) (step_fell x s (steps_back globals [] slots f.header.scope xs (step_needs f.header.scope x s) h)) (steps_fell xs (step_needs f.header.scope x s) h)

  lines_fell : (xs : List (List Effect)) (s : Needs) → Serves globals [] slots (lines_need f.header.scope xs s) → lines_fall rank j f xs ≡ true
  lines_fell [] s h = refl
  lines_fell (x ∷ xs) s h =
      both (steps_fall rank j f x) (lines_fall rank j f xs) (steps_fell x s (lines_back globals [] slots f.header.scope xs (steps_need f.header.scope x s) h)) (lines_fell xs (steps_need f.header.scope x s) h)

none_called : (js : List ℕ) → is_some_called js ≡ false → js ≡ []
none_called [] h = refl
none_called (j ∷ js) h = absurd (cc)

is_counted_so : (js : List ℕ) → is_counted js (is_some_called js) ≡ true
is_counted_so [] = refl
is_counted_so (j ∷ js) = refl

pub shallow_made : (p : PlainCore) → (layout_of p).counted ≡ false → IsShallow p
shallow_made p none = record {
  rank = λ j. 0;
  low = λ j. omega arith;
  falls = λ j f at.
      let m = made_of p j f at in
      let slots = (routine_needs f m.before).slots in
      lines_fell (layout_of p).globals slots (λ i. 0) j f f.steps (record m.before { slots = 0 }) (subst (λ (js : List ℕ). Serves (layout_of p).globals js slots (routine_needs f m.before)) (none_called (layout_of p).called none) m.there);
}

-- the variables that are made for a program serve it
pub made_laid : (p : PlainCore) → is_sound p ≡ true → is_modest p ≡ true → IsLaid (layout_of p) p
made_laid p sound modest =
    let ok = and_right (begins (option_and_then (slice_get p.routines) p.start)) (are_routines p p.routines) sound in
    let low = and_right (nat_le (length p.routines) 999) (are_low_routines p.routines) modest in
    record {
      begins = first_laid p ok low p.start (and_left (begins (option_and_then (slice_get p.routines) p.start)) (are_routines p p.routines) sound);
      calls = sites_laid p ok low (layout_of p).called;
      counts = is_counted_so (layout_of p).called;
      shallow = shallow_made p;
    }

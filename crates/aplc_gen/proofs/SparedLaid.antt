-- The variables of a program serve it, with a flag only for names that may be unset when they are read.
use Rattle.std.proofs.Common.{◌≡◌, ◌∙◌, sym, ap, subst, refl, ℕ, zero, suc, ◌+◌, ◌<◌, ◌≤◌, ◌^◌, List, [], ◌∷◌, length, Bool, true, false, cond, nat_le, Option, Some, None, slice_get, arith}
use Rattle.std.proofs.Math.Nat.{min-le_right}
use Rattle.std.specs.Prelude.{unwrap_or, option_and_then}
use Rattle.aplc_names.specs.PlainPrograms.{names_of_header, header_count}
use Rattle.aplc_names.specs.States.{is_among}
use Rattle.aplc_core.specs.CoreRuns.{CoreRoutine, PlainCore, no_core}
use Rattle.aplc_core.specs.CorePrograms.{Core}
use Rattle.aplc_gen.specs.Layouts.{Frame, Layout, Site, the_frame, frame_of, routine_at, no_frame}
use Rattle.aplc_gen.specs.Emitted.{first_known, site_at}
use Rattle.aplc_gen.specs.Laid.{are_laid_lines, known_at_end, is_laid_site, are_laid_sites, is_counted, lines_fall, IsShallow, IsLaid, HasCounts}
use Rattle.aplc_gen.specs.Sound.{is_sound, begins, is_routine, are_routines, are_lines}
use Rattle.aplc_gen.specs.Made.{Needs, no_needs, lines_need, routine_needs, frame_made, parameters, is_some_called, layout_of, is_modest, is_low_routine, are_low_routines, are_low_lines, are_below}
use Rattle.aplc_gen.specs.Writing.{lowered_core, fits_lines, FitsProgram}
use Rattle.aplc_gen.specs.Sparing.{Flags, no_flags, lines_flags, arms_flags, sure_of, site_flags, is_flag_of, frame_spared, flags_spared, rank_in, all_fall, spared}
use Rattle.aplc_gen.proofs.Frames.{and_left, and_right}
use Rattle.aplc_gen.proofs.Knowing.{Among}
use Rattle.aplc_gen.proofs.MadeFrames.{all_flags}
use Rattle.aplc_gen.proofs.MadeLists.{each_there, each_length}
use Rattle.aplc_gen.proofs.MadeServes.{Serves, both, lines_laid}
use Rattle.aplc_gen.proofs.MadeLaid.{made_of, none_at, routine_sound, routine_low, lines_sound, result_named, left_named, right_named, shallow_made, bare_none}
use Rattle.aplc_gen.proofs.MadeCounts.{made_counts}
use Rattle.aplc_gen.proofs.MadeFits.{made_fits}
use Rattle.aplc_gen.proofs.SparedLines.{Gathered, Spares, arms_back, result_back, lines_spared}
use Rattle.aplc_gen.proofs.SparedFrames.{filtered, filtered_fewer, SparedAt, spared_at, none_spared, spared_length}
use Rattle.aplc_gen.proofs.SparedSites.{site_by, blank_laid, arms_spared, result_spared, name_spared, sure_there, sure_end}

-- ---- Function j

module _ (p : PlainCore) (ranks : List ℕ) (first : Bool) (j : ℕ) (f : CoreRoutine) (at : slice_get p.routines j ≡ Some f) (ok : is_routine p f ≡ true) (low : is_low_routine f ≡ true) where
  abbrev y : Layout
  y = layout_of p

  abbrev z : Layout
  z = spared p ranks

  abbrev g : Site
  g = site_at y p first j

  abbrev h : Site
  h = site_at z p first j

  abbrev r : CoreRoutine
  r = routine_at p j

  abbrev hs : List ℕ
  hs = names_of_header f.header

  abbrev slots : ℕ
  slots = (routine_needs f (made_of p j f at).before).slots

  abbrev x : Frame
  x = frame_made f slots

  routine_is : r ≡ f
  routine_is = ap (λ (o : Option CoreRoutine). unwrap_or o no_core) at

  frame_is : frame_of y j ≡ x
  frame_is = ap (λ (o : Option Frame). unwrap_or o no_frame) (made_of p j f at).frame

  abbrev globals : List ℕ
  globals = (flags_spared y p 0 y.frames no_flags).globals

  own : SparedAt y p j x globals (slice_get z.frames j)
  own = spared_at y p y.frames 0 no_flags globals (λ n a. a) j j (omega arith) x (made_of p j f at).frame

  abbrev flags : Flags
  flags = site_flags (site_at y p false j) own.before

  abbrev sure : List ℕ
  sure = sure_of (site_at y p false j)

  spared_is : frame_of z j ≡ frame_spared flags.locals sure x
  spared_is = ap (λ (o : Option Frame). unwrap_or o no_frame) own.frame

  spares : Spares y z j flags.locals globals
  spares = record {
    names_are = λ n a. subst (λ (q : Frame). is_among n q.names ≡ true) (sym spared_is) (subst (λ (q : Frame). is_among n q.names ≡ true) frame_is a);
    globals_are = λ n a. a;
    called_are = λ n a. a;
    slots_are = ap (λ (q : Frame). q.slots) spared_is ∙ sym (ap (λ (q : Frame). q.slots) frame_is);
    all_flagged = λ n a. a;
    locals_flagged = λ n a b. subst (λ (q : Frame). is_among n q.unsure ≡ true) (sym spared_is) (filtered flags.locals x.names n (subst (λ (q : Frame). is_among n q.names ≡ true) frame_is a) b);
    globals_flagged = λ n a b. filtered globals y.globals n a b;
  }

  has : Gathered flags.locals globals flags
  has = record { locals_are = λ n a. a; globals_are = own.there }

  sure_is : (the_frame h).sure ≡ sure
  sure_is = ap (λ (q : Frame). q.sure) spared_is

  -- ---- What holds where all names have a flag

  abbrev start : Needs
  start = record (made_of p j f at).before { slots = 0 }

  served : Serves y.globals y.called (the_frame g).slots (lines_need r.header.scope r.steps start)
  served =
      subst (λ (q : CoreRoutine). Serves y.globals y.called (the_frame g).slots (lines_need q.header.scope q.steps start)) (sym routine_is)
      (subst (λ (q : Frame). Serves y.globals y.called q.slots (lines_need f.header.scope f.steps start)) (sym frame_is) (made_of p j f at).there)

  names_there : Among hs (the_frame g).names
  names_there = subst (λ (q : Frame). Among hs q.names) (sym frame_is) (each_there [] hs)

  flags_there : Among hs (the_frame g).unsure
  flags_there = subst (λ (q : Frame). Among hs q.unsure) (sym frame_is) (each_there [] hs)

  fine : are_lines p r.header.scope r.steps ≡ true
  fine = subst (λ (q : CoreRoutine). are_lines p q.header.scope q.steps ≡ true) (sym routine_is) (lines_sound p f ok)

  small : are_low_lines r.header.scope hs r.steps ≡ true
  small = subst (λ (q : CoreRoutine). are_low_lines q.header.scope hs q.steps ≡ true) (sym routine_is) (and_right (are_below hs) (are_low_lines f.header.scope hs f.steps) low)

  -- ---- The function is laid

  abbrev begun : Flags
  begun = record own.before { locals = [] }

  abbrev behind_lines : Flags
  behind_lines = lines_flags r (parameters r) false 1 r.steps begun

  abbrev behind_arms : Flags
  behind_arms = arms_flags r sure 1 r.steps behind_lines

  arms_have : Gathered flags.locals globals behind_arms
  arms_have = result_back flags.locals globals sure r.header.result behind_arms has

  lines_have : Gathered flags.locals globals behind_lines
  lines_have = arms_back flags.locals globals r sure 1 r.steps behind_lines arms_have

  few : length (the_frame h).unsure ≤ header_count r.header
  few =
      let a = filtered_fewer (is_flag_of flags.locals) x.names in
      let b = each_length [] hs in
      subst (λ (q : Frame). length q.unsure ≤ header_count r.header) (sym spared_is)
      (subst (λ (q : CoreRoutine). length (frame_spared flags.locals sure x).unsure ≤ header_count q.header) (sym routine_is) (omega (arith, a, b)))

  named : (o : CoreRoutine → Option ℕ) → ((n : ℕ) → o f ≡ Some n → is_among n hs ≡ true) → (n : ℕ) → o r ≡ Some n → is_among n (the_frame g).names ≡ true
  named o there n e = names_there n (there n (sym (ap o routine_is) ∙ e))

  pub one_spared : first_known h ≡ parameters r → is_laid_site h ≡ true
  one_spared begin =
      site_by h few
      (subst (λ (ns : List ℕ). are_laid_lines h ns false 1 r.steps ≡ true) (sym begin)
      (lines_spared p y z first j flags.locals globals spares (parameters r) false 1 r.steps begun (lines_laid g p hs (λ n a. a) names_there flags_there (parameters r) false 1 r.steps start fine small served) lines_have))
      (arms_spared p y z first j flags.locals globals spares hs (λ n a. a) names_there flags_there sure_is 1 r.steps start behind_lines fine small served arms_have)
      (λ n a. subst (λ (ns : List ℕ). is_among n ns ≡ true) (sym sure_is) (sure_there p y z first j flags.locals globals spares n (subst (λ (ns : List ℕ). is_among n ns ≡ true) begin a)))
      (subst (λ (ns : List ℕ). Among (the_frame h).sure (known_at_end h ns false 1 r.steps)) (sym begin) (λ n a. sure_end p y z first j flags.locals globals spares n (subst (λ (ns : List ℕ). is_among n ns ≡ true) sure_is a)))
      (name_spared p y z first j flags.locals globals spares r.header.left (named (λ q. q.header.left) (left_named f.header)))
      (name_spared p y z first j flags.locals globals spares r.header.right (named (λ q. q.header.right) (right_named f.header)))
      (result_spared p y z first j flags.locals globals spares sure_is r.header.result behind_arms (named (λ q. q.header.result) (result_named f.header)) has)

-- ---- Programs

module _ (p : PlainCore) (ranks : List ℕ) (ok : are_routines p p.routines ≡ true) (low : are_low_routines p.routines ≡ true) where
  abbrev all : Layout
  all = layout_of p

  called_spared : (j : ℕ) (o : Option CoreRoutine) → slice_get p.routines j ≡ o → is_laid_site (site_at (spared p ranks) p false j) ≡ true
  called_spared j None at =
      let routine = ap (λ (o : Option CoreRoutine). unwrap_or o no_core) at in
      blank_laid (site_at (spared p ranks) p false j) routine
      (ap (λ (o : Option Frame). unwrap_or o no_frame) (none_spared all p all.frames 0 no_flags j (none_at p.routines no_needs j at)))
      (ap (λ (q : CoreRoutine). parameters q) routine)
  called_spared j (Some f) at = one_spared p ranks false j f at (routine_sound p p.routines j f ok at) (routine_low p.routines j f low at) refl

  sites_spared : (js : List ℕ) → are_laid_sites (spared p ranks) p js ≡ true
  sites_spared [] = refl
  sites_spared (j ∷ js) = both (is_laid_site (site_at (spared p ranks) p false j)) (are_laid_sites (spared p ranks) p js) (called_spared j (slice_get p.routines j) refl) (sites_spared js)

  start_spared : (k : ℕ) (o : Option CoreRoutine) → slice_get p.routines k ≡ o → begins o ≡ true → is_laid_site (site_at (spared p ranks) p true k) ≡ true
  start_spared k None at h = absurd (cc)
  start_spared k (Some f) at h =
      let routine = ap (λ (o : Option CoreRoutine). unwrap_or o no_core) at in
      one_spared p ranks true k f at (routine_sound p p.routines k f ok at) (routine_low p.routines k f low at) (sym (ap (λ (q : CoreRoutine). parameters q) routine ∙ bare_none p ok low f h))

  first_spared : (o : Option ℕ) → begins (option_and_then (slice_get p.routines) o) ≡ true → is_laid_site (site_at (spared p ranks) p true (unwrap_or o 0)) ≡ true
  first_spared None h = absurd (cc)
  first_spared (Some k) h = start_spared k (slice_get p.routines k) refl h

-- ---- Calls that are not counted

fall_at : (ranks : List ℕ) (fs : List CoreRoutine) (i : ℕ) → all_fall ranks i fs ≡ true → (j k : ℕ) → i + j ≡ k → (f : CoreRoutine) → slice_get fs j ≡ Some f → lines_fall (rank_in ranks) k f f.steps ≡ true
fall_at ranks [] i h j k e f at = absurd (cc)
fall_at ranks (g ∷ fs) i h zero k e f at =
    let same : g ≡ f = cc in
    let number : i ≡ k = omega (arith, e) in
    subst (λ (q : CoreRoutine). lines_fall (rank_in ranks) k q q.steps ≡ true) same (subst (λ (m : ℕ). lines_fall (rank_in ranks) m g g.steps ≡ true) number (and_left (lines_fall (rank_in ranks) i g g.steps) (all_fall ranks (suc i) fs) h))
fall_at ranks (g ∷ fs) i h (suc j) k e f at = fall_at ranks fs (suc i) (and_right (lines_fall (rank_in ranks) i g g.steps) (all_fall ranks (suc i) fs) h) j k (omega (arith, e)) f at

shallow_by : (p : PlainCore) (ranks : List ℕ) → all_fall ranks 0 p.routines ≡ true → IsShallow p
shallow_by p ranks h = record {
  rank = rank_in ranks;
  low = λ j. let a = min-le_right (unwrap_or (slice_get ranks j) 0) 4095 in omega (arith, a);
  falls = λ j f at. fall_at ranks p.routines 0 h j j (omega arith) f at;
}

shallow_spared : (p : PlainCore) (ranks : List ℕ) (b : Bool) → all_fall ranks 0 p.routines ≡ b → cond b false (layout_of p).counted ≡ false → IsShallow p
shallow_spared p ranks true e h = shallow_by p ranks e
shallow_spared p ranks false e h = shallow_made p h

counted_so : (js : List ℕ) (b : Bool) → is_counted js (cond b false (is_some_called js)) ≡ true
counted_so [] true = refl
counted_so [] false = refl
counted_so (j ∷ js) b = refl

-- whatever ranks are taken
pub spared_laid : (p : PlainCore) (ranks : List ℕ) → is_sound p ≡ true → is_modest p ≡ true → IsLaid (spared p ranks) p
spared_laid p ranks sound modest =
    let ok = and_right (begins (option_and_then (slice_get p.routines) p.start)) (are_routines p p.routines) sound in
    let low = and_right (nat_le (length p.routines) 999) (are_low_routines p.routines) modest in
    record {
      begins = first_spared p ranks ok low p.start (and_left (begins (option_and_then (slice_get p.routines) p.start)) (are_routines p p.routines) sound);
      calls = sites_spared p ranks ok low (layout_of p).called;
      counts = counted_so (layout_of p).called (all_fall ranks 0 p.routines);
      shallow = λ e. shallow_spared p ranks (all_fall ranks 0 p.routines) refl e;
    }

-- ---- How many they are

abbrev size : Frame → ℕ
size x = length x.names + length x.unsure + x.slots

-- a frame has no more flags than names, and as many slots as before
frame_small : (p : PlainCore) (ranks : List ℕ) (j : ℕ) (o : Option Frame) → slice_get (layout_of p).frames j ≡ o → size (unwrap_or o no_frame) < 2 ^ 31 → length (unwrap_or o no_frame).unsure ≡ length (unwrap_or o no_frame).names → size (frame_of (spared p ranks) j) < 2 ^ 31
frame_small p ranks j None at small same =
    subst (λ (o : Option Frame). size (unwrap_or o no_frame) < 2 ^ 31) (sym (none_spared (layout_of p) p (layout_of p).frames 0 no_flags j at)) (omega arith)
frame_small p ranks j (Some x) at small same =
    let y = layout_of p in
    let s = spared_at y p y.frames 0 no_flags (flags_spared y p 0 y.frames no_flags).globals (λ n a. a) j j (omega arith) x at in
    let fewer = filtered_fewer (is_flag_of (site_flags (site_at y p false j) s.before).locals) x.names in
    subst (λ (o : Option Frame). size (unwrap_or o no_frame) < 2 ^ 31) (sym s.frame) (omega (arith, small, same, fewer))

pub spared_counts : (p : PlainCore) (ranks : List ℕ) → is_sound p ≡ true → is_modest p ≡ true → HasCounts (spared p ranks)
spared_counts p ranks sound modest =
    let y = layout_of p in
    let most = made_counts p sound modest in
    let fewer = filtered_fewer (is_flag_of (flags_spared y p 0 y.frames no_flags).globals) y.globals in
    record {
      globals = let all = most.globals in omega (arith, all, fewer);
      called = most.called;
      frames = λ j. frame_small p ranks j (slice_get y.frames j) refl (most.frames j) (ap (λ (ns : List ℕ). length ns) (all_flags p.routines no_needs j));
    }

-- ---- Code can be written with them

slots_same : (p : PlainCore) (ranks : List ℕ) (j : ℕ) (o : Option Frame) → slice_get (layout_of p).frames j ≡ o → (frame_of (spared p ranks) j).slots ≡ (unwrap_or o no_frame).slots
slots_same p ranks j None at = ap (λ (o : Option Frame). (unwrap_or o no_frame).slots) (none_spared (layout_of p) p (layout_of p).frames 0 no_flags j at)
slots_same p ranks j (Some x) at =
    let y = layout_of p in
    ap (λ (o : Option Frame). (unwrap_or o no_frame).slots) (spared_at y p y.frames 0 no_flags (flags_spared y p 0 y.frames no_flags).globals (λ n a. a) j j (omega arith) x at).frame

pub spared_fits : (c : Core) (ranks : List ℕ) → is_sound (lowered_core c) ≡ true → is_modest (lowered_core c) ≡ true → FitsProgram (spared (lowered_core c) ranks) c
spared_fits c ranks sound modest =
    let p = lowered_core c in
    let most = made_fits c sound modest in
    record {
      lines = λ j. subst (λ (k : ℕ). fits_lines k (routine_at p j).steps ≡ true) (sym (slots_same p ranks j (slice_get (layout_of p).frames j) refl)) (most.lines j);
      called = most.called;
      frames = spared_length (layout_of p) p (layout_of p).frames 0 no_flags ∙ most.frames;
    }

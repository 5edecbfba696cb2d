-- The frames with fewer flags, function by function.
use Rattle.std.proofs.Common.{◌≡◌, ◌∙◌, ap, subst, refl, ℕ, zero, suc, ◌+◌, ◌≤◌, List, [], ◌∷◌, length, Bool, true, false, cond, nat_eq, Option, Some, None, slice_get, arith, ⊎_elim}
use Rattle.std.specs.List.{filter}
use Rattle.aplc_names.specs.States.{is_among}
use Rattle.aplc_core.specs.CoreRuns.{CoreRoutine, PlainCore}
use Rattle.aplc_gen.specs.Layouts.{Frame, Layout, Site, the_routine}
use Rattle.aplc_gen.specs.Emitted.{first_known, site_at}
use Rattle.aplc_gen.specs.Sparing.{Flags, lines_flags, arms_flags, run_flags, sure_of, site_flags, is_flag_of, frame_spared, frames_spared, flags_spared}
use Rattle.aplc_gen.proofs.Landing.{or_left, or_right, or_cases, eq_of}
use Rattle.aplc_gen.proofs.Knowing.{Among}
use Rattle.aplc_gen.proofs.SparedLines.{Gathered, lines_back, arms_back, result_back}

-- ---- Names that have a flag

pub filtered : (flags names : List ℕ) (n : ℕ) → is_among n names ≡ true → is_among n flags ≡ true → is_among n (filter (is_flag_of flags) names) ≡ true
filtered flags [] n at flag = absurd (cc)
filtered flags (m ∷ ms) n at flag =
    ⊎_elim (λ e. here (is_among m flags) (subst (λ k. is_among k flags ≡ true) (eq_of n m e) flag) e)
    (λ e. behind (is_among m flags) (filtered flags ms n e flag))
    (or_cases (nat_eq n m) (is_among n ms) at)
  where
    rest : List ℕ
    rest = filter (is_flag_of flags) ms

    here : (b : Bool) → b ≡ true → nat_eq n m ≡ true → is_among n (cond b (m ∷ rest) rest) ≡ true
    here true h e = or_left (nat_eq n m) (is_among n rest) e
    here false h e = absurd (cc)

    behind : (b : Bool) → is_among n rest ≡ true → is_among n (cond b (m ∷ rest) rest) ≡ true
    behind true e = or_right (nat_eq n m) (is_among n rest) e
    behind false e = e

pub filtered_fewer : (test : ℕ → Bool) (names : List ℕ) → length (filter test names) ≤ length names
filtered_fewer test [] = omega arith
filtered_fewer test (m ∷ ms) = by (test m) (filtered_fewer test ms)
  where
    by : (b : Bool) → length (filter test ms) ≤ length ms → length (cond b (m ∷ filter test ms) (filter test ms)) ≤ suc (length ms)
    by true h = omega (arith, h)
    by false h = omega (arith, h)

-- ---- What is gathered of a function

pub run_back : (locals globals : List ℕ) (f : CoreRoutine) (known sure : List ℕ) (s : Flags) → Gathered locals globals (run_flags f known sure s) → Gathered locals globals (record s { locals = [] })
run_back locals globals f known sure s h =
    let start : Flags = record s { locals = [] } in
    let lines = lines_flags f known false 1 f.steps start in
    lines_back locals globals f known false 1 f.steps start
    (arms_back locals globals f sure 1 f.steps lines (result_back locals globals sure f.header.result (arms_flags f sure 1 f.steps lines) h))

site_more : (g : Site) (s : Flags) → Among s.globals (site_flags g s).globals
site_more g s =
    let after = site_flags g s in
    (run_back after.locals after.globals (the_routine g) (first_known g) (sure_of g) s (record { locals_are = λ n h. h; globals_are = λ n h. h })).globals_are

flags_more : (y : Layout) (p : PlainCore) (i : ℕ) (xs : List Frame) (s : Flags) → Among s.globals (flags_spared y p i xs s).globals
flags_more y p i [] s n h = h
flags_more y p i (x ∷ xs) s n h = flags_more y p (suc i) xs (site_flags (site_at y p false i) s) n (site_more (site_at y p false i) s n h)

-- ---- Frame by frame

-- frame k, with what was gathered of the functions before it
pub record SparedAt (y : Layout) (p : PlainCore) (k : ℕ) (x : Frame) (globals : List ℕ) (o : Option Frame) : Type 0 where
  pub before : Flags
  pub frame : o ≡ Some (frame_spared (site_flags (site_at y p false k) before).locals (sure_of (site_at y p false k)) x)
  pub there : Among (site_flags (site_at y p false k) before).globals globals

first_spared : (y : Layout) (p : PlainCore) (i k : ℕ) (a x : Frame) (s : Flags) (globals : List ℕ) → i ≡ k → a ≡ x → Among (site_flags (site_at y p false i) s).globals globals
    → SparedAt y p k x globals (Some (frame_spared (site_flags (site_at y p false i) s).locals (sure_of (site_at y p false i)) a))
first_spared y p i k a x s globals number same there = record {
  before = s;
  frame = ap (λ (m : ℕ). Some (frame_spared (site_flags (site_at y p false m) s).locals (sure_of (site_at y p false m)) a)) number ∙ ap (λ (b : Frame). Some (frame_spared (site_flags (site_at y p false k) s).locals (sure_of (site_at y p false k)) b)) same;
  there = subst (λ (m : ℕ). Among (site_flags (site_at y p false m) s).globals globals) number there;
}

pub spared_at : (y : Layout) (p : PlainCore) (xs : List Frame) (i : ℕ) (s : Flags) (globals : List ℕ) → Among (flags_spared y p i xs s).globals globals
    → (j k : ℕ) → i + j ≡ k → (x : Frame) → slice_get xs j ≡ Some x → SparedAt y p k x globals (slice_get (frames_spared y p i xs s) j)
spared_at y p [] i s globals h j k e x at = absurd (cc)
spared_at y p (a ∷ xs) i s globals h zero k e x at =
    let after = site_flags (site_at y p false i) s in
    let same : a ≡ x = cc in
    first_spared y p i k a x s globals (omega (arith, e)) same (λ n b. h n (flags_more y p (suc i) xs after n b))
spared_at y p (a ∷ xs) i s globals h (suc j) k e x at = spared_at y p xs (suc i) (site_flags (site_at y p false i) s) globals h j k (omega (arith, e)) x at

pub none_spared : (y : Layout) (p : PlainCore) (xs : List Frame) (i : ℕ) (s : Flags) (j : ℕ) → slice_get xs j ≡ None → slice_get (frames_spared y p i xs s) j ≡ None
none_spared y p [] i s j at = refl
none_spared y p (x ∷ xs) i s zero at = absurd (cc)
none_spared y p (x ∷ xs) i s (suc j) at = none_spared y p xs (suc i) (site_flags (site_at y p false i) s) j at

pub spared_length : (y : Layout) (p : PlainCore) (xs : List Frame) (i : ℕ) (s : Flags) → length (frames_spared y p i xs s) ≡ length xs
spared_length y p [] i s = refl
spared_length y p (x ∷ xs) i s = ap suc (spared_length y p xs (suc i) (site_flags (site_at y p false i) s))

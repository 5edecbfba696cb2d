-- Whole programs: the C program behaves as the core run does.
use Rattle.std.proofs.Common.{◌≡◌, ℕ, zero, suc, ◌<◌, ◌≤◌, List, [], ◌∷◌, ◌++◌, ◌⊎◌, inl, inr, refl, sym, ap, ◌∙◌, subst, arith, Bool, true, false, cond, length}
use Rattle.std.specs.Prelude.{Option, Some, None, ◌&&◌, nat_eq, nat_le, slice_get, unwrap_or, option_and_then}
use Rattle.std.proofs.lemmas.Bool.Decides.{nat_tests, eqb_tells}
use Rattle.aplc_cprof.specs.declared.syntax.CStmt.{CStmt}
use Rattle.aplc_cprof.specs.declared.syntax.CFunction.{CFunction}
use Rattle.aplc_cprof.specs.declared.syntax.CProgram.{CProgram}
use Rattle.aplc_cprof.specs.Machine.{Code, code_of, numbered}
use Rattle.aplc_cprof.specs.Behaviour.{IsStuck}
use Rattle.aplc_cprof.proofs.Functions.{body_of}
use Rattle.aplc_names.specs.States.{Marking, is_among}
use Rattle.aplc_names.specs.Runs.{Run, place_of, initial, run_of}
use Rattle.aplc_names.specs.Runs as runs
use Rattle.aplc_core.specs.CoreRuns.{CoreRoutine, PlainCore, no_core, main_core}
use Rattle.aplc_gen.specs.Shown.{run_shown}
use Rattle.aplc_gen.specs.Sound.{has_own_names, are_lines, is_routine, are_routines, begins, is_sound}
use Rattle.aplc_gen.specs.Layouts.{Layout, Site, place_in, function_place, routine_at, the_routine, for_calls}
use Rattle.aplc_cprof.specs.WellFormed.{is_name as is_text_name}
use Rattle.aplc_gen.specs.Emitted.{site_at, enter_code, lines_loop}
use Rattle.aplc_gen.specs.Codes.{IsLine, IsRun, IsBody, IsFunction, AreCalled, IsProgramOf}
use Rattle.aplc_gen.specs.Laid.{is_laid_site, are_laid_sites, lines_fall, IsShallow, IsLaid}
use Rattle.aplc_gen.proofs.Frames.{and_left, and_right}
use Rattle.aplc_gen.proofs.Landing.{eq_of, or_cases}
use Rattle.aplc_gen.proofs.Knowing.{site_laid}
use Rattle.aplc_gen.proofs.Lines.{Sits, Line}
use Rattle.aplc_gen.proofs.LineMaps.{run_less}
use Rattle.aplc_gen.proofs.Calls.{Callable}

-- ---- Functions by their numbers

-- the C function of one that is called
pub record Found (y : Layout) (p : PlainCore) (js : List ℕ) (fs : List CFunction) (j : ℕ) : Type 0 where
  pub function : CFunction
  pub there : slice_get fs (place_in js j) ≡ Some function
  pub is : IsFunction (site_at y p false j) function

called_at : (y : Layout) (p : PlainCore) (js : List ℕ) (fs : List CFunction) (j : ℕ) → AreCalled y p js fs → is_among j js ≡ true → Found y p js fs j
called_at y p [] fs j its h = absurd (cc)
called_at y p (x ∷ xs) fs j (f, rest, is, its, later) h = by (λ e. called_at y p xs rest j later e) (eqb_tells x j) (or_cases (nat_eq j x) (is_among j xs) h)
  where
    here : nat_eq x j ≡ true → x ≡ j → Found y p (x ∷ xs) fs j
    here e same = record { function = f; there = ap (λ (gs : List CFunction). slice_get gs (cond (nat_eq x j) 0 (suc (place_in xs j)))) is ∙ ap (λ b. slice_get (f ∷ rest) (cond b 0 (suc (place_in xs j)))) e; is = subst (λ i. IsFunction (site_at y p false i) f) same its }

    there : nat_eq x j ≡ false → Found y p xs rest j → Found y p (x ∷ xs) fs j
    there e q = record { function = q.function; there = ap (λ (gs : List CFunction). slice_get gs (cond (nat_eq x j) 0 (suc (place_in xs j)))) is ∙ ap (λ b. slice_get (f ∷ rest) (cond b 0 (suc (place_in xs j)))) e ∙ q.there; is = q.is }

    by : (is_among j xs ≡ true → Found y p xs rest j) → ((nat_eq x j ≡ true) × (x ≡ j)) ⊎ ((nat_eq x j ≡ false) × (x ≡ j → ⊥)) → (nat_eq j x ≡ true) ⊎ (is_among j xs ≡ true) → Found y p (x ∷ xs) fs j
    by ih (inl e) o = here e.0 e.1
    by ih (inr ne) (inl e) = absurd (ne.1 (sym (eq_of j x e)))
    by ih (inr ne) (inr e) = there ne.0 (ih e)

-- what is asked of its lines is what they do
pub run_of_function : (g : Site) (f : CFunction) → IsFunction g f → (run : List CStmt) × (f.body ≡ enter_code g ++ run) × IsRun (Line g) g (lines_loop (the_routine g) (the_routine g).steps) run
run_of_function g f is = by is.body
  where
    by : IsBody (IsLine g f.ints f.bufs) g f.body → (run : List CStmt) × (f.body ≡ enter_code g ++ run) × IsRun (Line g) g (lines_loop (the_routine g) (the_routine g).steps) run
    by (run, code, its) = (run, code, run_less (IsLine g f.ints f.bufs) (Line g) g (λ known l xs mine h. h.does) (lines_loop (the_routine g) (the_routine g).steps) run its)

calls_base : (xs : List ℕ) (j : ℕ) → is_among j xs ≡ true → for_calls xs ≡ 5
calls_base [] j h = absurd (cc)
calls_base (x ∷ xs) j h = refl

site_of : (y : Layout) (p : PlainCore) (xs : List ℕ) (j : ℕ) → are_laid_sites y p xs ≡ true → is_among j xs ≡ true → is_laid_site (site_at y p false j) ≡ true
site_of y p [] j ok h = absurd (cc)
site_of y p (x ∷ xs) j ok h = by (site_of y p xs j (and_right (is_laid_site (site_at y p false x)) (are_laid_sites y p xs) ok)) (or_cases (nat_eq j x) (is_among j xs) h)
  where
    by : (is_among j xs ≡ true → is_laid_site (site_at y p false j) ≡ true) → (nat_eq j x ≡ true) ⊎ (is_among j xs ≡ true) → is_laid_site (site_at y p false j) ≡ true
    by ih (inl e) = subst (λ i. is_laid_site (site_at y p false i) ≡ true) (sym (eq_of j x e)) (and_left (is_laid_site (site_at y p false x)) (are_laid_sites y p xs) ok)
    by ih (inr e) = ih e

-- ---- What holds of a routine

pub record Fine (p : PlainCore) (f : CoreRoutine) : Type 0 where
  pub lines : are_lines p f.header.scope f.steps ≡ true
  pub few : length f.steps ≤ 999
  pub own : has_own_names f.header ≡ true

fine_of : (p : PlainCore) (f : CoreRoutine) → is_routine p f ≡ true → Fine p f
fine_of p f h =
    let a = is_text_name f.header.title in
    let b = has_own_names f.header in
    let d = nat_le (length f.steps) 999 in
    let e = are_lines p f.header.scope f.steps in
    let rest = and_right a (b && (d && e)) h in
    let last = and_right b (d && e) rest in
    record { lines = and_right d e last; few = le_of (length f.steps) (and_left d e last); own = and_left b (d && e) rest }
  where
    le_of : (k : ℕ) → nat_le k 999 ≡ true → k ≤ 999
    le_of k h = grind (arith, nat_tests, h)

pub routine_fine : (p : PlainCore) (fs : List CoreRoutine) (j : ℕ) → are_routines p fs ≡ true → Fine p (unwrap_or (slice_get fs j) no_core)
routine_fine p [] j ok = record { lines = refl; few = omega arith; own = refl }
routine_fine p (f ∷ fs) zero ok = fine_of p f (and_left (is_routine p f) (are_routines p fs) ok)
routine_fine p (f ∷ fs) (suc j) ok = routine_fine p fs j (and_right (is_routine p f) (are_routines p fs) ok)

-- ranks, where calls are not counted
pub record Ranked (y : Layout) (p : PlainCore) : Type 0 where
  pub rank : ℕ → ℕ
  pub low : y.counted ≡ false → (j : ℕ) → rank j < 4096
  pub falls : y.counted ≡ false → (j : ℕ) → lines_fall rank j (routine_at p j) (routine_at p j).steps ≡ true

pub ranked : (y : Layout) (p : PlainCore) → IsLaid y p → Ranked y p
ranked y p laid = by y.counted refl
  where
    by : (b : Bool) → y.counted ≡ b → Ranked y p
    by true e = record { rank = λ j. 0; low = λ h. absurd (differ e h); falls = λ h. absurd (differ e h) }
      where
        differ : y.counted ≡ true → y.counted ≡ false → ⊥
        differ a b = absurd (cc)
    by false e = let s = laid.shallow e in record { rank = s.rank; low = λ h. s.low; falls = λ h j. found s j (slice_get p.routines j) refl }
      where
        found : (s : IsShallow p) (j : ℕ) (o : Option CoreRoutine) → slice_get p.routines j ≡ o → lines_fall s.rank j (unwrap_or (slice_get p.routines j) no_core) (unwrap_or (slice_get p.routines j) no_core).steps ≡ true
        found s j None is = ap (λ (o : Option CoreRoutine). lines_fall s.rank j (unwrap_or o no_core) (unwrap_or o no_core).steps) is
        found s j (Some f) is = ap (λ (o : Option CoreRoutine). lines_fall s.rank j (unwrap_or o no_core) (unwrap_or o no_core).steps) is ∙ s.falls j f is

-- ---- The start

-- what the source shows is never stuck
pub source_fine : (r : Run) → IsStuck (run_shown r) → ⊥
source_fine (runs.Ended o marks) h = h
source_fine (runs.Faulted o marks k places) h = h
source_fine (runs.Going o marks) h = h

module _ (z : CProgram) (y : Layout) (p : PlainCore) (whole : IsProgramOf y p z) (is : is_sound p ≡ true) (laid : IsLaid y p) (m : Marking) (input : List ℕ) where
  abbrev pub C : Code
  C = code_of z

  pub start : ℕ
  start = unwrap_or p.start 0

  abbrev pub r : Ranked y p
  r = ranked y p laid

  pub fine : (j : ℕ) → Fine p (routine_at p j)
  fine j = routine_fine p p.routines j (and_right (begins (option_and_then (slice_get p.routines) p.start)) (are_routines p p.routines) is)

  pub sits_of : (first : Bool) (j : ℕ) → is_laid_site (site_at y p first j) ≡ true → Sits y p r.rank first j
  sits_of first j ok = record { laid = site_laid (site_at y p first j) ok; lines = (fine j).lines; few = (fine j).few; counts = laid.counts; falls = λ h. r.falls h j }

  pub callable : (n : ℕ) (j : ℕ) → is_among j y.called ≡ true → Callable (code_of z) n p y m r.rank j
  callable n j among =
      let q = called_at y p y.called whole.rest j whole.called among in
      let got : slice_get z.functions (function_place y j) ≡ Some q.function = ap (λ (fs : List CFunction). slice_get fs (function_place y j)) whole.functions ∙ q.there in
      let b = body_of z (function_place y j) q.function got in
      let run = run_of_function (site_at y p false j) q.function q.is in
      record { sits = sits_of false j (site_of y p y.called j laid.calls among); base_is = calls_base y.called j among; own = (fine j).own; place = b.0; run = run.0; is_run = run.2; body = b.1 ∙ ap (λ (zs : List CStmt). Some (numbered b.0 zs)) run.1 }

  -- MAIN as the run begins with it
  abbrev g : Site
  g = site_at y p true (unwrap_or p.start 0)

  abbrev f : CoreRoutine
  f = routine_at p (unwrap_or p.start 0)

  pub main_is : main_core p ≡ routine_at p (unwrap_or p.start 0)
  main_is = by p.start (and_left (begins (option_and_then (slice_get p.routines) p.start)) (are_routines p p.routines) is)
    where
      by : (o : Option ℕ) → begins (option_and_then (slice_get p.routines) o) ≡ true → unwrap_or (option_and_then (slice_get p.routines) o) no_core ≡ routine_at p (unwrap_or o 0)
      by None h = absurd (cc)
      by (Some i) h = refl

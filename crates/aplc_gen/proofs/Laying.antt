-- The variables of a program's functions, made one function after the other.
use Rattle.std.proofs.Common.{◌≡◌, ◌∙◌, sym, ap, subst, refl, ℕ, zero, suc, ◌+◌, ◌<◌, ◌≤◌, ◌^◌, List, [], ◌∷◌, ◌++◌, length, map, drop, append_assoc, append-nil, true, nat_le, ◌&&◌, arith, slice_get}
use Rattle.std.specs.Prelude.{unwrap_or, option_map, option_and_then}
use Rattle.std.specs.Option.{option_to_list}
use Rattle.aplc_syntax.specs.declared.tree.Function.{Function}
use Rattle.aplc_syntax.specs.declared.tree.Program.{Program}
use Rattle.aplc_names.specs.declared.scope.Scope.{Scope}
use Rattle.aplc_names.specs.PlainPrograms.{routine_of, name_number, names_of_header}
use Rattle.aplc_core.specs.PlainSteps.{Effect}
use Rattle.aplc_core.specs.CoreRuns.{CoreRoutine, PlainCore, no_core, steps_at}
use Rattle.aplc_core.specs.CorePrograms.{Core}
use Rattle.aplc_core.specs.Lowering.{lowered_routine}
use Rattle.aplc_gen.specs.Layouts.{Frame, Layout, routine_at}
use Rattle.aplc_gen.specs.Sound.{is_sound, is_routine, are_routines, begins}
use Rattle.aplc_gen.specs.Writing.{lowered_core, HasShortLists}
use Rattle.aplc_gen.specs.Made.{Needs, no_needs, with_new, with_each, steps_need, lines_need, routine_needs, all_need, parameters, frame_made, frames_made, layout_with, layout_of, are_low_steps, are_low_lines, are_below, is_low_routine, are_low_routines, is_modest}
use Rattle.aplc_gen.proofs.Frames.{and_left, and_right}
use Rattle.aplc_gen.proofs.MadeLists.{each_few}
use Rattle.aplc_gen.proofs.MadeCounts.{Few, few_none, routine_few, made_counts}
use Rattle.aplc_gen.proofs.Turning.{line_next, drop_all}

-- ---- The lines of a function

pub line_needed : (sc : ℕ → Scope) (lines : List (List Effect)) (l : ℕ) (x : List Effect) (s u whole : Needs) → l < length lines → x ≡ unwrap_or (steps_at lines (l + 1)) [] → u ≡ steps_need sc x s → lines_need sc (drop l lines) s ≡ whole → lines_need sc (drop (l + 1) lines) u ≡ whole
line_needed sc lines l x s u whole lt is e h =
    ap (lines_need sc (drop (l + 1) lines)) e ∙ sym (ap (λ xs. lines_need sc xs s) (line_next l lines x lt is)) ∙ h

pub lines_over : (sc : ℕ → Scope) (lines : List (List Effect)) (l : ℕ) (s whole : Needs) → length lines ≤ l → lines_need sc (drop l lines) s ≡ whole → s ≡ whole
lines_over sc lines l s whole le h = sym (ap (λ xs. lines_need sc xs s) (drop_all l lines le)) ∙ h

low_next : (sc : ℕ → Scope) (hs : List ℕ) (lines : List (List Effect)) (l : ℕ) (x : List Effect) → l < length lines → x ≡ unwrap_or (steps_at lines (l + 1)) [] → are_low_lines sc hs (drop l lines) ≡ true → (are_low_steps sc hs x && are_low_lines sc hs (drop (l + 1) lines)) ≡ true
low_next sc hs lines l x lt is h = sym (ap (are_low_lines sc hs) (line_next l lines x lt is)) ∙ h

pub low_line : (sc : ℕ → Scope) (hs : List ℕ) (lines : List (List Effect)) (l : ℕ) (x : List Effect) → l < length lines → x ≡ unwrap_or (steps_at lines (l + 1)) [] → are_low_lines sc hs (drop l lines) ≡ true → are_low_steps sc hs x ≡ true
low_line sc hs lines l x lt is h = and_left (are_low_steps sc hs x) (are_low_lines sc hs (drop (l + 1) lines)) (low_next sc hs lines l x lt is h)

pub low_lines : (sc : ℕ → Scope) (hs : List ℕ) (lines : List (List Effect)) (l : ℕ) (x : List Effect) → l < length lines → x ≡ unwrap_or (steps_at lines (l + 1)) [] → are_low_lines sc hs (drop l lines) ≡ true → are_low_lines sc hs (drop (l + 1) lines) ≡ true
low_lines sc hs lines l x lt is h = and_right (are_low_steps sc hs x) (are_low_lines sc hs (drop (l + 1) lines)) (low_next sc hs lines l x lt is h)

pub low_body : (f : CoreRoutine) → is_low_routine f ≡ true → are_low_lines f.header.scope (names_of_header f.header) f.steps ≡ true
low_body f h = and_right (are_below (names_of_header f.header)) (are_low_lines f.header.scope (names_of_header f.header) f.steps) h

pub ruleset lines_needed = (line_needed, lines_over, low_line, low_lines, low_body)

-- ---- The variables of a function

each_behind : (ns xs ys : List ℕ) → with_each ns (xs ++ ys) ≡ with_each (with_each ns xs) ys
each_behind ns [] ys = refl
each_behind ns (x ∷ xs) ys = each_behind (with_new x ns) xs ys

pub parameters_each : (p : Program) (f : Function) (r : CoreRoutine) (n0 n1 n2 : List ℕ) → r ≡ lowered_routine (routine_of p f) → n0 ≡ [] → n1 ≡ with_each n0 (option_to_list (option_map name_number f.left)) → n2 ≡ with_each n1 (option_to_list (option_map name_number f.right)) → n2 ≡ with_each [] (parameters r)
parameters_each p f r n0 n1 n2 is e0 e1 e2 =
    let left = option_to_list (option_map name_number f.left) in
    let right = option_to_list (option_map name_number f.right) in
    e2 ∙ ap (λ ns. with_each ns right) (e1 ∙ ap (λ ns. with_each ns left) e0) ∙ sym (each_behind [] left right) ∙ sym (ap (λ (x : CoreRoutine). with_each [] (parameters x)) is)

pub header_each : (p : Program) (f : Function) (r : CoreRoutine) (n0 n1 n2 n3 n4 : List ℕ) → r ≡ lowered_routine (routine_of p f) → n0 ≡ [] → n1 ≡ with_each n0 (option_to_list (option_map name_number f.result)) → n2 ≡ with_each n1 (option_to_list (option_map name_number f.left)) → n3 ≡ with_each n2 (option_to_list (option_map name_number f.right)) → n4 ≡ with_each n3 (map name_number f.locals) → n4 ≡ with_each [] (names_of_header r.header)
header_each p f r n0 n1 n2 n3 n4 is e0 e1 e2 e3 e4 =
    let result = option_to_list (option_map name_number f.result) in
    let left = option_to_list (option_map name_number f.left) in
    let right = option_to_list (option_map name_number f.right) in
    let locals = map name_number f.locals in
    let three : n3 ≡ with_each (with_each (with_each [] result) left) right = e3 ∙ ap (λ ns. with_each ns right) (e2 ∙ ap (λ ns. with_each ns left) (e1 ∙ ap (λ ns. with_each ns result) e0)) in
    let joined : with_each (with_each (with_each [] result) left) right ≡ with_each [] (result ++ left ++ right) = sym (each_behind [] (result ++ left) right ∙ ap (λ ns. with_each ns right) (each_behind [] result left)) in
    e4 ∙ ap (λ ns. with_each ns locals) (three ∙ joined) ∙ sym (each_behind [] (result ++ left ++ right) locals)
    ∙ sym (ap (λ (x : CoreRoutine). with_each [] (names_of_header x.header)) is)

-- its numbers are small
pub frame_short : (f : CoreRoutine) (names unsure : List ℕ) (k : ℕ) → is_low_routine f ≡ true → names ≡ with_each [] (names_of_header f.header) → unsure ≡ names → k ≤ 2000 → length names + length unsure + k < 2 ^ 31
frame_short f names unsure k low e same le =
    let few = each_few (names_of_header f.header) (and_left (are_below (names_of_header f.header)) (are_low_lines f.header.scope (names_of_header f.header) f.steps) low) in
    let a : length names ≤ 262144 = subst (λ ns. length ns ≤ 262144) (sym e) few in
    let b : length unsure ≡ length names = ap length same in
    omega (arith, a, b, le)

-- ---- Functions

-- functions below i have their variables, and what they need is known
pub record IsLaidOut (p : PlainCore) (i : ℕ) (frames : List Frame) (s : Needs) : Type 0 where
  pub made : frames ++ frames_made (drop i p.routines) s ≡ frames_made p.routines no_needs
  pub needed : all_need (drop i p.routines) s ≡ all_need p.routines no_needs
  pub few : Few (length p.routines) s
  pub sound : are_routines p (drop i p.routines) ≡ true
  pub low : are_low_routines (drop i p.routines) ≡ true

pub none_laid : (p : PlainCore) (frames : List Frame) (s : Needs) → is_sound p ≡ true → is_modest p ≡ true → frames ≡ [] → s ≡ no_needs → IsLaidOut p 0 frames s
none_laid p frames s sound modest e n = record {
  made = ap (λ fs. fs ++ frames_made p.routines s) e ∙ ap (frames_made p.routines) n;
  needed = ap (all_need p.routines) n;
  few = subst (Few (length p.routines)) (sym n) (few_none (length p.routines));
  sound = and_right (begins (option_and_then (slice_get p.routines) p.start)) (are_routines p p.routines) sound;
  low = and_right (nat_le (length p.routines) 999) (are_low_routines p.routines) modest;
}

next_routine : (fs : List CoreRoutine) (i : ℕ) → i < length fs → drop i fs ≡ unwrap_or (slice_get fs i) no_core ∷ drop (suc i) fs
next_routine [] i lt = absurd (omega (arith, lt))
next_routine (f ∷ fs) zero lt = refl
next_routine (f ∷ fs) (suc i) lt = next_routine fs i (omega (arith, lt))

routines_over : (fs : List CoreRoutine) (i : ℕ) → length fs ≤ i → drop i fs ≡ []
routines_over [] zero le = refl
routines_over [] (suc i) le = refl
routines_over (f ∷ fs) zero le = absurd (omega (arith, le))
routines_over (f ∷ fs) (suc i) le = routines_over fs i (omega (arith, le))

split : (p : PlainCore) (i : ℕ) → i < length p.routines → drop i p.routines ≡ routine_at p i ∷ drop (i + 1) p.routines
split p i lt = let e : suc i ≡ i + 1 = omega arith in next_routine p.routines i lt ∙ ap (λ k. routine_at p i ∷ drop k p.routines) e

both_sound : (p : PlainCore) (i : ℕ) (frames : List Frame) (s : Needs) → IsLaidOut p i frames s → i < length p.routines → (is_routine p (routine_at p i) && are_routines p (drop (i + 1) p.routines)) ≡ true
both_sound p i frames s h lt = sym (ap (are_routines p) (split p i lt)) ∙ h.sound

both_low : (p : PlainCore) (i : ℕ) (frames : List Frame) (s : Needs) → IsLaidOut p i frames s → i < length p.routines → (is_low_routine (routine_at p i) && are_low_routines (drop (i + 1) p.routines)) ≡ true
both_low p i frames s h lt = sym (ap are_low_routines (split p i lt)) ∙ h.low

few_here : (p : PlainCore) (i : ℕ) (frames : List Frame) (s : Needs) → IsLaidOut p i frames s → i < length p.routines → Few (length p.routines) (routine_needs (routine_at p i) s)
few_here p i frames s h lt =
    routine_few p (routine_at p i) s
    (and_left (is_routine p (routine_at p i)) (are_routines p (drop (i + 1) p.routines)) (both_sound p i frames s h lt))
    (and_left (is_low_routine (routine_at p i)) (are_low_routines (drop (i + 1) p.routines)) (both_low p i frames s h lt)) h.few

made_here : (p : PlainCore) (i : ℕ) (frames after : List Frame) (s u : Needs) (x : Frame) → IsLaidOut p i frames s → i < length p.routines → u ≡ routine_needs (routine_at p i) s → x ≡ frame_made (routine_at p i) u.slots → after ≡ frames ++ x ∷ [] → after ++ frames_made (drop (i + 1) p.routines) u ≡ frames_made p.routines no_needs
made_here p i frames after s u x h lt e is pushed =
    let f = routine_at p i in
    let rest = drop (i + 1) p.routines in
    ap (λ (xs : List Frame). xs ++ frames_made rest u) pushed ∙ append_assoc frames (x ∷ []) (frames_made rest u)
    ∙ ap (λ (y : Frame). frames ++ (y ∷ frames_made rest u)) is
    ∙ ap (λ (n : Needs). frames ++ (frame_made f n.slots ∷ frames_made rest n)) e
    ∙ sym (ap (λ fs. frames ++ frames_made fs s) (split p i lt)) ∙ h.made

-- one function more
laid_next : (p : PlainCore) (i : ℕ) (frames after : List Frame) (s u : Needs) (x : Frame) → IsLaidOut p i frames s → i < length p.routines → u ≡ routine_needs (routine_at p i) s → x ≡ frame_made (routine_at p i) u.slots → after ≡ frames ++ x ∷ [] → IsLaidOut p (i + 1) after u
laid_next p i frames after s u x h lt e is pushed = record {
  made = made_here p i frames after s u x h lt e is pushed;
  needed = ap (all_need (drop (i + 1) p.routines)) e ∙ sym (ap (λ fs. all_need fs s) (split p i lt)) ∙ h.needed;
  few = subst (Few (length p.routines)) (sym e) (few_here p i frames s h lt);
  sound = and_right (is_routine p (routine_at p i)) (are_routines p (drop (i + 1) p.routines)) (both_sound p i frames s h lt);
  low = and_right (is_low_routine (routine_at p i)) (are_low_routines (drop (i + 1) p.routines)) (both_low p i frames s h lt);
}

-- behind the last one
laid_last : (p : PlainCore) (i : ℕ) (frames : List Frame) (s : Needs) → IsLaidOut p i frames s → length p.routines ≤ i → layout_with s frames ≡ layout_of p
laid_last p i frames s h le =
    let over = routines_over p.routines i le in
    let needs : s ≡ all_need p.routines no_needs = sym (ap (λ fs. all_need fs s) over) ∙ h.needed in
    let same : frames ≡ frames_made p.routines no_needs = sym (append-nil frames) ∙ sym (ap (λ fs. frames ++ frames_made fs s) over) ∙ h.made in
    ap (λ (n : Needs). layout_with n frames) needs ∙ ap (layout_with (all_need p.routines no_needs)) same

-- ---- Of a lowered program

as_many : (c : Core) → length (lowered_core c).routines ≡ length c.program.functions
as_many c = long lowered_routine (map (routine_of c.program) c.program.functions) ∙ long (routine_of c.program) c.program.functions
  where
    long : {A B : Type 0} (g : A → B) (xs : List A) → length (map g xs) ≡ length xs
    long g [] = refl
    long g (x ∷ xs) = ap suc (long g xs)

inside : (c : Core) (i : ℕ) → i < length c.program.functions → i < length (lowered_core c).routines
inside c i lt = subst (λ k. i < k) (sym (as_many c)) lt

pub low_here : (c : Core) (i : ℕ) (frames : List Frame) (s : Needs) → IsLaidOut (lowered_core c) i frames s → i < length c.program.functions → is_low_routine (routine_at (lowered_core c) i) ≡ true
low_here c i frames s h lt =
    let p = lowered_core c in
    and_left (is_low_routine (routine_at p i)) (are_low_routines (drop (i + 1) p.routines)) (both_low p i frames s h (inside c i lt))

pub slots_here : (c : Core) (i : ℕ) (frames : List Frame) (s u : Needs) → IsLaidOut (lowered_core c) i frames s → i < length c.program.functions → u ≡ routine_needs (routine_at (lowered_core c) i) s → u.slots ≤ 2000
slots_here c i frames s u h lt e = (subst (Few (length (lowered_core c).routines)) (sym e) (few_here (lowered_core c) i frames s h (inside c i lt))).slots_few

pub one_laid : (c : Core) (i : ℕ) (frames after : List Frame) (s u : Needs) (x : Frame) → IsLaidOut (lowered_core c) i frames s → i < length c.program.functions → u ≡ routine_needs (routine_at (lowered_core c) i) s → x ≡ frame_made (routine_at (lowered_core c) i) u.slots → after ≡ frames ++ x ∷ [] → IsLaidOut (lowered_core c) (i + 1) after u
one_laid c i frames after s u x h lt e is pushed = laid_next (lowered_core c) i frames after s u x h (inside c i lt) e is pushed

pub all_laid : (c : Core) (i : ℕ) (frames : List Frame) (s : Needs) (y : Layout) → IsLaidOut (lowered_core c) i frames s → length c.program.functions ≤ i → y ≡ layout_with s frames → y ≡ layout_of (lowered_core c)
all_laid c i frames s y h le e = e ∙ laid_last (lowered_core c) i frames s h (subst (λ k. k ≤ i) (sym (as_many c)) le)

pub short_lists : (c : Core) (i : ℕ) (frames : List Frame) (s : Needs) → is_sound (lowered_core c) ≡ true → is_modest (lowered_core c) ≡ true → IsLaidOut (lowered_core c) i frames s → length c.program.functions ≤ i → HasShortLists (layout_with s frames)
short_lists c i frames s sound modest h le =
    let counts = made_counts (lowered_core c) sound modest in
    subst HasShortLists (sym (all_laid c i frames s (layout_with s frames) h le refl)) (counts.globals, counts.called)

pub ruleset frames_left = (none_laid, low_here, slots_here, one_laid, all_laid, short_lists)

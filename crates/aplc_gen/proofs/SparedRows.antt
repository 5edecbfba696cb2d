-- The frames with fewer flags, one after the other.
use Rattle.std.proofs.Common.{◌≡◌, ◌∙◌, sym, ap, refl, append_assoc, append-nil, ℕ, zero, suc, ◌+◌, ◌<◌, ◌≤◌, ◌^◌, Bool, false, Option, List, [], ◌∷◌, ◌++◌, length, drop, arith, slice_get, get_or}
use Rattle.std.specs.Prelude.{unwrap_or}
use Rattle.std.specs.List.{filter}
use Rattle.std.proofs.lemmas.Option.{slice_get_read}
use Rattle.aplc_core.specs.CoreRuns.{PlainCore}
use Rattle.aplc_gen.specs.Layouts.{Frame, Layout, frame_of, no_frame, for_calls}
use Rattle.aplc_gen.specs.Emitted.{site_at}
use Rattle.aplc_gen.specs.Made.{layout_of}
use Rattle.aplc_gen.specs.Writing.{IsShort, HasShortLists}
use Rattle.aplc_gen.specs.Sparing.{Flags, is_flag_of, sure_of, site_flags, frame_spared, frames_spared, flags_spared}
use Rattle.aplc_gen.proofs.SparedFrames.{filtered_fewer}

-- ---- One frame

frame_next : (xs : List Frame) (j : ℕ) → j < length xs → drop j xs ≡ unwrap_or (slice_get xs j) no_frame ∷ drop (suc j) xs
frame_next [] j lt = absurd (omega (arith, lt))
frame_next (x ∷ xs) zero lt = refl
frame_next (x ∷ xs) (suc j) lt = frame_next xs j (omega (arith, lt))

-- behind the last
no_more : (xs : List Frame) (j : ℕ) → length xs ≤ j → drop j xs ≡ []
no_more [] zero le = refl
no_more [] (suc j) le = refl
no_more (x ∷ xs) zero le = absurd (omega (arith, le))
no_more (x ∷ xs) (suc j) le = no_more xs j (omega (arith, le))

-- as the code reads it
pub frame_there : (y : Layout) (xs : List Frame) (j : ℕ) (x : Frame) → xs ≡ y.frames → j < length y.frames → x ≡ get_or xs j x → x ≡ frame_of y j
frame_there y xs j x same lt is = sym (ap (λ (o : Option Frame). unwrap_or o no_frame) (slice_get_read y.frames (length y.frames) j x refl lt (is ∙ ap (λ ys. get_or ys j x) same)))

-- its numbers stay small
pub short_frame : (x : Frame) (flags us ns : List ℕ) (k : ℕ) → IsShort x → x.unsure ≡ x.names → us ≡ filter (is_flag_of flags) x.names → ns ≡ x.names → k ≡ x.slots → length ns + length us + k < 2 ^ 31
short_frame x flags us ns k short full fewer same slots =
    let few = filtered_fewer (is_flag_of flags) x.names in
    let a = ap (λ (ms : List ℕ). length ms) full in
    let b = ap (λ (ms : List ℕ). length ms) fewer in
    let c = ap (λ (ms : List ℕ). length ms) same in
    omega (arith, short, few, a, b, c, slots)

-- made of the same parts
pub frame_same : (flags flags' sure sure' : List ℕ) (x x' : Frame) → flags ≡ flags' → sure ≡ sure' → x ≡ x' → frame_spared flags sure x ≡ frame_spared flags' sure' x'
frame_same flags flags' sure sure' x x' a b c =
    ap (λ (ns : List ℕ). frame_spared ns sure x) a ∙ ap (λ (ns : List ℕ). frame_spared flags' ns x) b ∙ ap (λ (z : Frame). frame_spared flags' sure' z) c

module _ (y : Layout) (p : PlainCore) where
  abbrev own : ℕ → Flags → Flags
  own j s = site_flags (site_at y p false j) s

  abbrev spared_one : ℕ → Frame → Flags → Frame
  spared_one j x s = frame_spared (own j s).locals (sure_of (site_at y p false j)) x

  abbrev left : ℕ → Flags → List Frame
  left j s = frames_spared y p j (drop j y.frames) s

  frames_next : (j : ℕ) (s : Flags) → j < length y.frames → left j s ≡ spared_one j (frame_of y j) s ∷ left (j + 1) (own j s)
  frames_next j s lt =
      let e : suc j ≡ j + 1 = omega arith in
      ap (λ xs. frames_spared y p j xs s) (frame_next y.frames j lt)
      ∙ ap (λ (k : ℕ). spared_one j (frame_of y j) s ∷ frames_spared y p k (drop k y.frames) (own j s)) e

  flags_next : (j : ℕ) (s : Flags) → j < length y.frames → flags_spared y p j (drop j y.frames) s ≡ flags_spared y p (j + 1) (drop (j + 1) y.frames) (own j s)
  flags_next j s lt =
      let e : suc j ≡ j + 1 = omega arith in
      ap (λ xs. flags_spared y p j xs s) (frame_next y.frames j lt) ∙ ap (λ (k : ℕ). flags_spared y p k (drop k y.frames) (own j s)) e

  pub frame_added : (j : ℕ) (before after whole : List Frame) (x : Frame) (s s' : Flags) → j < length y.frames → s' ≡ own j s → x ≡ spared_one j (frame_of y j) s → after ≡ before ++ x ∷ [] → before ++ left j s ≡ whole → after ++ left (j + 1) s' ≡ whole
  frame_added j before after whole x s s' lt flags is pushed h =
      ap (λ (xs : List Frame). xs ++ left (j + 1) s') pushed ∙ append_assoc before (x ∷ []) (left (j + 1) s')
      ∙ ap (λ (z : Frame). before ++ (z ∷ left (j + 1) s')) is ∙ ap (λ (t : Flags). before ++ (spared_one j (frame_of y j) s ∷ left (j + 1) t)) flags
      ∙ sym (ap (λ (xs : List Frame). before ++ xs) (frames_next j s lt)) ∙ h

  pub flags_added : (j : ℕ) (s s' whole : Flags) → j < length y.frames → s' ≡ own j s → flags_spared y p j (drop j y.frames) s ≡ whole → flags_spared y p (j + 1) (drop (j + 1) y.frames) s' ≡ whole
  flags_added j s s' whole lt flags h = ap (flags_spared y p (j + 1) (drop (j + 1) y.frames)) flags ∙ sym (flags_next j s lt) ∙ h

  pub frames_over : (j : ℕ) (before whole : List Frame) (s : Flags) → length y.frames ≤ j → before ++ left j s ≡ whole → before ≡ whole
  frames_over j before whole s le h = sym (append-nil before) ∙ sym (ap (λ xs. before ++ frames_spared y p j xs s) (no_more y.frames j le)) ∙ h

  pub flags_over : (j : ℕ) (s whole : Flags) → length y.frames ≤ j → flags_spared y p j (drop j y.frames) s ≡ whole → s ≡ whole
  flags_over j s whole le h = sym (ap (λ xs. flags_spared y p j xs s) (no_more y.frames j le)) ∙ h

pub ruleset frames_left = (frame_added, flags_added, frames_over, flags_over)

-- ---- Programs

pub short_layout : (p : PlainCore) (y : Layout) (flags gs us cs : List ℕ) (counted : Bool) (xs : List Frame) → y ≡ layout_of p → HasShortLists y → us ≡ filter (is_flag_of flags) y.globals → gs ≡ y.globals → cs ≡ y.called
    → HasShortLists record { globals = gs; unsure = us; called = cs; counted = counted; frames = xs }
short_layout p y flags gs us cs counted xs made short fewer same called =
    let few = filtered_fewer (is_flag_of flags) y.globals in
    let a = ap (λ (z : Layout). length z.unsure) made in
    let b = ap (λ (z : Layout). length z.globals) made in
    let c = ap (λ (ms : List ℕ). length ms) fewer in
    let d = ap (λ (ms : List ℕ). length ms) same in
    let e = ap (λ (ms : List ℕ). for_calls ms) called in
    let f = ap (λ (ms : List ℕ). length ms) called in
    let all = short.0 in
    let many = short.1 in
    (omega (arith, all, few, a, b, c, d, e), omega (arith, many, f))

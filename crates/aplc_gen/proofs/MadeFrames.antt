-- The variables that are made have all flags, and a frame for each function.
use Rattle.std.proofs.Common.{◌≡◌, ◌∙◌, sym, ap, subst, refl, ℕ, zero, suc, List, [], ◌∷◌, length, slice_get}
use Rattle.std.specs.Prelude.{unwrap_or}
use Rattle.aplc_core.specs.CoreRuns.{CoreRoutine, PlainCore}
use Rattle.aplc_gen.specs.Layouts.{Layout, frame_of, no_frame}
use Rattle.aplc_gen.specs.Made.{Needs, no_needs, routine_needs, frames_made, layout_of}

pub frames_length : (fs : List CoreRoutine) (s : Needs) → length (frames_made fs s) ≡ length fs
frames_length [] s = refl
frames_length (f ∷ fs) s = ap suc (frames_length fs (routine_needs f s))

pub all_flags : (fs : List CoreRoutine) (s : Needs) (j : ℕ) → (unwrap_or (slice_get (frames_made fs s) j) no_frame).unsure ≡ (unwrap_or (slice_get (frames_made fs s) j) no_frame).names
all_flags [] s j = refl
all_flags (f ∷ fs) s zero = refl
all_flags (f ∷ fs) s (suc j) = all_flags fs (routine_needs f s) j

pub made_full : (p : PlainCore) (y : Layout) (j : ℕ) → y ≡ layout_of p → (frame_of y j).unsure ≡ (frame_of y j).names
made_full p y j e = subst (λ (z : Layout). (frame_of z j).unsure ≡ (frame_of z j).names) (sym e) (all_flags p.routines no_needs j)

pub made_frames : (p : PlainCore) (y : Layout) → y ≡ layout_of p → length y.frames ≡ length p.routines
made_frames p y e = ap (λ (z : Layout). length z.frames) e ∙ frames_length p.routines no_needs

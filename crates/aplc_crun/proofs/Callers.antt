-- The list of callers, whose next one is at its end.
use Rattle.std.proofs.Common.{◌≡◌, ◌∙◌, ap, sym, refl, arith, ℕ, zero, suc, ◌-◌, ◌<◌, Option, Some, None, option_map, List, [], ◌∷◌, ◌++◌, length, map, get_or, reverse}
use Rattle.std.specs.Prelude.{slice_get}
use Rattle.std.proofs.lemmas.List.{reverse-append, length-reverse, get_or-reverse}
use Rattle.aplc_crun.specs.declared.live.Frame.{Frame}
use Rattle.aplc_crun.specs.Flat.{Kept, kept_onto, kept_of}

kept_onto_push : (fs : List Frame) (f : Frame) (rest : List Kept) → kept_onto (fs ++ f ∷ []) rest ≡ record { at = f.at; ints = f.ints.items; bufs = f.bufs.items } ∷ kept_onto fs rest
kept_onto_push [] f rest = refl
kept_onto_push (x ∷ fs) f rest = kept_onto_push fs f (record { at = x.at; ints = x.ints.items; bufs = x.bufs.items } ∷ rest)

-- the caller that was pushed last is the next one
pub kept_of_push : (fs : List Frame) (f : Frame) → kept_of (fs ++ f ∷ []) ≡ record { at = f.at; ints = f.ints.items; bufs = f.bufs.items } ∷ kept_of fs
kept_of_push fs f = kept_onto_push fs f []

pub ruleset callers = (kept_of_push)

-- ---- The places behind the innermost one, whose next one is at the end

pub behind_push : (ps : List (Option ℕ)) (p : Option ℕ) → reverse (ps ++ p ∷ []) ≡ p ∷ reverse ps
behind_push ps p = reverse-append ps (p ∷ [])

pub behind_length : (ps : List (Option ℕ)) → length (reverse ps) ≡ length ps
behind_length ps = length-reverse ps

pub ruleset behinds = (behind_push, behind_length)

-- an item of a list by its place, where it has one
get_there : {A : Type 0} → (xs : List A) (k : ℕ) (d : A) → k < length xs → slice_get xs k ≡ Some (get_or xs k d)
get_there [] k d h = absurd (omega (arith, h))
get_there (x ∷ xs) zero d h = refl
get_there (x ∷ xs) (suc k) d h = get_there xs k d (omega (arith, h))

-- so far behind the innermost place stands what is so far from the end
pub back_first : (p : Option ℕ) (ps : List (Option ℕ)) (back : ℕ) → back ≡ 0 → slice_get (p ∷ reverse ps) back ≡ Some p
back_first p ps back is = ap (slice_get (p ∷ reverse ps)) is

pub back_later : (p x : Option ℕ) (ps : List (Option ℕ)) (back : ℕ) → (back ≡ 0 → ⊥) → back < length (p ∷ reverse ps) → slice_get ps (length ps - back) ≡ Some x → slice_get (p ∷ reverse ps) back ≡ Some x
back_later p x ps zero some within is = absurd (some refl)
back_later p x ps (suc k) some within is =
    let all = length-reverse ps in
    let inside : k < length (reverse ps) = omega (arith, within) in
    let there : length ps - suc k < length ps = omega arith in
    let place : length ps - 1 - k ≡ length ps - suc k = omega arith in
    get_there (reverse ps) k None inside
    ∙ ap Some (get_or-reverse ps k None (omega arith) ∙ ap (λ n. get_or ps n None) place)
    ∙ sym (get_there ps (length ps - suc k) None there)
    ∙ is

pub ruleset back_marks = (back_first, back_later)

-- what a function makes of an item
pub get_map : {A B : Type 0} → (f : A → B) (xs : List A) (k : ℕ) (x : A) → slice_get xs k ≡ Some x → slice_get (map f xs) k ≡ Some (f x)
get_map f [] k x e = absurd (cc e)
get_map f (y ∷ ys) zero x e = ap (option_map f) e
get_map f (y ∷ ys) (suc k) x e = get_map f ys k x e

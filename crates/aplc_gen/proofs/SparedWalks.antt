-- Which flags the lines of a function need, line by line.
use Rattle.std.proofs.Common.{◌≡◌, ◌∙◌, sym, ap, refl, ℕ, ◌+◌, ◌<◌, ◌≤◌, List, [], ◌∷◌, length, drop, Bool, true, false, cond, ◌&&◌, Option}
use Rattle.std.specs.Prelude.{unwrap_or}
use Rattle.aplc_names.specs.declared.scope.Scope.{Scope}
use Rattle.aplc_core.specs.PlainSteps.{Effect}
use Rattle.aplc_core.specs.CoreRuns.{CoreRoutine, steps_at}
use Rattle.aplc_gen.specs.Layouts.{Site, the_routine}
use Rattle.aplc_gen.specs.Emitted.{branches, is_branch, is_entry, known_behind, known_through, first_known}
use Rattle.aplc_gen.specs.Laid.{known_at_end}
use Rattle.aplc_gen.specs.Flows.{is_blank}
use Rattle.aplc_gen.specs.Made.{with_each}
use Rattle.aplc_gen.specs.Sparing.{Flags, steps_flags, lines_flags, arms_flags, result_flags, sure_of, site_flags}
use Rattle.aplc_gen.proofs.Turning.{line_next, drop_all}

-- ---- What is known behind a step, and behind a branch

pub goes_through : (known known' : List ℕ) (x : Effect) (xs : List Effect) → is_branch x ≡ false → known' ≡ known_behind known x → known_through known' xs ≡ known_through known (x ∷ xs)
goes_through known known' x xs f e = ap (λ ks. known_through ks xs) e ∙ ap (λ b. cond b known (known_through (known_behind known x) xs)) (sym f)

pub ends_through : (known : List ℕ) (x : Effect) (xs : List Effect) → is_branch x ≡ true → known ≡ known_through known (x ∷ xs)
ends_through known x xs t = ap (λ b. cond b known (known_through (known_behind known x) xs)) (sym t)

-- ---- Lines

module _ (g : Site) where
  abbrev f : CoreRoutine
  f = the_routine g

  abbrev lines : List (List Effect)
  lines = f.steps

  abbrev sc : ℕ → Scope
  sc = f.header.scope

  -- the flags of the lines from number l + 1 on, and what is known where they end
  abbrev rest : List ℕ → Bool → ℕ → Flags → Flags
  rest known through l s = lines_flags f known through (l + 1) (drop l lines) s

  abbrev ends : List ℕ → Bool → ℕ → List ℕ
  ends known through l = known_at_end g known through (l + 1) (drop l lines)

  abbrev IsLine : ℕ → List Effect → Type 0
  IsLine l x = x ≡ unwrap_or (steps_at lines (l + 1)) []

  rest_next : (known : List ℕ) (through : Bool) (l : ℕ) (x : List Effect) (s : Flags) → l < length lines → IsLine l x → rest known through l s ≡ lines_flags f known through (l + 1) (x ∷ drop (l + 1) lines) s
  rest_next known through l x s lt is = ap (λ xs. lines_flags f known through (l + 1) xs s) (line_next l lines x lt is)

  ends_next : (known : List ℕ) (through : Bool) (l : ℕ) (x : List Effect) → l < length lines → IsLine l x → ends known through l ≡ known_at_end g known through (l + 1) (x ∷ drop (l + 1) lines)
  ends_next known through l x lt is = ap (known_at_end g known through (l + 1)) (line_next l lines x lt is)

  pub blank_flags : (known : List ℕ) (through : Bool) (l : ℕ) (x : List Effect) (s whole : Flags) → l < length lines → x ≡ unwrap_or (steps_at lines (l + 1)) [] → is_blank x ≡ true → rest known through l s ≡ whole → rest known through (l + 1) s ≡ whole
  blank_flags known through l [] s whole lt is t h = sym (rest_next known through l [] s lt is) ∙ h
  blank_flags known through l (y ∷ ys) s whole lt is t h = absurd (cc)

  pub blank_known : (known : List ℕ) (through : Bool) (l : ℕ) (x : List Effect) (whole : List ℕ) → l < length lines → x ≡ unwrap_or (steps_at lines (l + 1)) [] → is_blank x ≡ true → ends known through l ≡ whole → ends known through (l + 1) ≡ whole
  blank_known known through l [] whole lt is t h = sym (ends_next known through l [] lt is) ∙ h
  blank_known known through l (y ∷ ys) whole lt is t h = absurd (cc)

  abbrev full_flags : List ℕ → Bool → ℕ → List Effect → Flags → Flags
  full_flags known through l x s =
      cond (through && is_entry f (l + 1)) s
      (cond (branches x) (steps_flags sc known x s) (lines_flags f (known_through known x) true (l + 1 + 1) (drop (l + 1) lines) (steps_flags sc known x s)))

  abbrev full_known : List ℕ → Bool → ℕ → List Effect → List ℕ
  full_known known through l x =
      cond (through && is_entry f (l + 1)) known
      (cond (branches x) (known_through known x) (known_at_end g (known_through known x) true (l + 1 + 1) (drop (l + 1) lines)))

  full : (known : List ℕ) (through : Bool) (l : ℕ) (x : List Effect) (s : Flags) → l < length lines → IsLine l x → is_blank x ≡ false → rest known through l s ≡ full_flags known through l x s
  full known through l [] s lt is e = absurd (cc)
  full known through l (y ∷ ys) s lt is e = rest_next known through l (y ∷ ys) s lt is

  full_end : (known : List ℕ) (through : Bool) (l : ℕ) (x : List Effect) → l < length lines → IsLine l x → is_blank x ≡ false → ends known through l ≡ full_known known through l x
  full_end known through l [] lt is e = absurd (cc)
  full_end known through l (y ∷ ys) lt is e = ends_next known through l (y ∷ ys) lt is

  -- one of the three, by two tests
  stop : {A : Type 0} (b : Bool) (x y : A) → b ≡ true → x ≡ cond b x y
  stop b x y t = ap (λ c. cond c x y) (sym t)

  last : {A : Type 0} (b c : Bool) (x y z : A) → b ≡ false → c ≡ true → y ≡ cond b x (cond c y z)
  last b c x y z e t = ap (λ k. cond k y z) (sym t) ∙ ap (λ k. cond k x (cond c y z)) (sym e)

  more : {A : Type 0} (b c : Bool) (x y z : A) → b ≡ false → c ≡ false → z ≡ cond b x (cond c y z)
  more b c x y z e t = ap (λ k. cond k y z) (sym t) ∙ ap (λ k. cond k x (cond c y z)) (sym e)

  pub stop_flags : (known : List ℕ) (through : Bool) (l : ℕ) (x : List Effect) (s whole : Flags) → l < length lines → x ≡ unwrap_or (steps_at lines (l + 1)) [] → is_blank x ≡ false → (through && is_entry (the_routine g) (l + 1)) ≡ true → rest known through l s ≡ whole → s ≡ whole
  stop_flags known through l x s whole lt is e t h = stop (through && is_entry f (l + 1)) s _ t ∙ sym (full known through l x s lt is e) ∙ h

  pub stop_known : (known : List ℕ) (through : Bool) (l : ℕ) (x : List Effect) (whole : List ℕ) → l < length lines → x ≡ unwrap_or (steps_at lines (l + 1)) [] → is_blank x ≡ false → (through && is_entry (the_routine g) (l + 1)) ≡ true → ends known through l ≡ whole → known ≡ whole
  stop_known known through l x whole lt is e t h = stop (through && is_entry f (l + 1)) known _ t ∙ sym (full_end known through l x lt is e) ∙ h

  pub last_flags : (known : List ℕ) (through : Bool) (l : ℕ) (x : List Effect) (s s' whole : Flags) → l < length lines → x ≡ unwrap_or (steps_at lines (l + 1)) [] → is_blank x ≡ false → (through && is_entry (the_routine g) (l + 1)) ≡ false → s' ≡ steps_flags (the_routine g).header.scope known x s → branches x ≡ true → rest known through l s ≡ whole → s' ≡ whole
  last_flags known through l x s s' whole lt is e t step br h = step ∙ last (through && is_entry f (l + 1)) (branches x) s (steps_flags sc known x s) _ t br ∙ sym (full known through l x s lt is e) ∙ h

  pub last_known : (known known' : List ℕ) (through : Bool) (l : ℕ) (x : List Effect) (whole : List ℕ) → l < length lines → x ≡ unwrap_or (steps_at lines (l + 1)) [] → is_blank x ≡ false → (through && is_entry (the_routine g) (l + 1)) ≡ false → known' ≡ known_through known x → branches x ≡ true → ends known through l ≡ whole → known' ≡ whole
  last_known known known' through l x whole lt is e t step br h = step ∙ last (through && is_entry f (l + 1)) (branches x) known (known_through known x) _ t br ∙ sym (full_end known through l x lt is e) ∙ h

  pub more_flags : (known known' : List ℕ) (through : Bool) (l : ℕ) (x : List Effect) (s s' whole : Flags) → l < length lines → x ≡ unwrap_or (steps_at lines (l + 1)) [] → is_blank x ≡ false → (through && is_entry (the_routine g) (l + 1)) ≡ false → s' ≡ steps_flags (the_routine g).header.scope known x s → known' ≡ known_through known x → branches x ≡ false → rest known through l s ≡ whole → rest known' true (l + 1) s' ≡ whole
  more_flags known known' through l x s s' whole lt is e t step k br h =
      ap (λ ks. rest ks true (l + 1) s') k ∙ ap (rest (known_through known x) true (l + 1)) step
      ∙ more (through && is_entry f (l + 1)) (branches x) s (steps_flags sc known x s) _ t br ∙ sym (full known through l x s lt is e) ∙ h

  pub more_known : (known known' : List ℕ) (through : Bool) (l : ℕ) (x : List Effect) (whole : List ℕ) → l < length lines → x ≡ unwrap_or (steps_at lines (l + 1)) [] → is_blank x ≡ false → (through && is_entry (the_routine g) (l + 1)) ≡ false → known' ≡ known_through known x → branches x ≡ false → ends known through l ≡ whole → ends known' true (l + 1) ≡ whole
  more_known known known' through l x whole lt is e t k br h =
      ap (λ ks. ends ks true (l + 1)) k
      ∙ more (through && is_entry f (l + 1)) (branches x) known (known_through known x) _ t br ∙ sym (full_end known through l x lt is e) ∙ h

  pub over_flags : (known : List ℕ) (through : Bool) (l : ℕ) (s whole : Flags) → length lines ≤ l → rest known through l s ≡ whole → s ≡ whole
  over_flags known through l s whole le h = sym (ap (λ xs. lines_flags f known through (l + 1) xs s) (drop_all l lines le)) ∙ h

  pub over_known : (known : List ℕ) (through : Bool) (l : ℕ) (whole : List ℕ) → length lines ≤ l → ends known through l ≡ whole → known ≡ whole
  over_known known through l whole le h = sym (ap (λ xs. known_at_end g known through (l + 1) xs) (drop_all l lines le)) ∙ h

  -- ---- Segments

  arms_next : (sure : List ℕ) (l : ℕ) (s : Flags) → l < length lines
      → arms_flags f sure (l + 1) (drop l lines) s ≡ arms_flags f sure (l + 1 + 1) (drop (l + 1) lines) (cond (is_entry f (l + 1)) (lines_flags f sure false (l + 1) (drop l lines) s) s)
  arms_next sure l s lt =
      let x = unwrap_or (steps_at lines (l + 1)) [] in
      let e = line_next l lines x lt refl in
      ap (λ xs. arms_flags f sure (l + 1) xs s) e
      ∙ ap (λ xs. arms_flags f sure (l + 1 + 1) (drop (l + 1) lines) (cond (is_entry f (l + 1)) (lines_flags f sure false (l + 1) xs s) s)) (sym e)

  pub arm_flags : (sure known : List ℕ) (l : ℕ) (s s' whole : Flags) → l < length lines → is_entry (the_routine g) (l + 1) ≡ true → known ≡ sure → s' ≡ lines_flags (the_routine g) known false (l + 1) (drop l lines) s → arms_flags (the_routine g) sure (l + 1) (drop l lines) s ≡ whole → arms_flags (the_routine g) sure (l + 1 + 1) (drop (l + 1) lines) s' ≡ whole
  arm_flags sure known l s s' whole lt t k step h =
      ap (arms_flags f sure (l + 1 + 1) (drop (l + 1) lines)) (step ∙ ap (λ ks. lines_flags f ks false (l + 1) (drop l lines) s) k)
      ∙ ap (λ b. arms_flags f sure (l + 1 + 1) (drop (l + 1) lines) (cond b (lines_flags f sure false (l + 1) (drop l lines) s) s)) (sym t) ∙ sym (arms_next sure l s lt) ∙ h

  pub no_arm : (sure : List ℕ) (l : ℕ) (s whole : Flags) → l < length lines → is_entry (the_routine g) (l + 1) ≡ false → arms_flags (the_routine g) sure (l + 1) (drop l lines) s ≡ whole → arms_flags (the_routine g) sure (l + 1 + 1) (drop (l + 1) lines) s ≡ whole
  no_arm sure l s whole lt t h =
      ap (λ b. arms_flags f sure (l + 1 + 1) (drop (l + 1) lines) (cond b (lines_flags f sure false (l + 1) (drop l lines) s) s)) (sym t) ∙ sym (arms_next sure l s lt) ∙ h

  pub arms_over : (sure : List ℕ) (l : ℕ) (s whole : Flags) → length lines ≤ l → arms_flags (the_routine g) sure (l + 1) (drop l lines) s ≡ whole → s ≡ whole
  arms_over sure l s whole le h = sym (ap (λ xs. arms_flags f sure (l + 1) xs s) (drop_all l lines le)) ∙ h

pub ruleset through_steps = (goes_through, ends_through)

pub ruleset lines_flagged = (blank_flags, blank_known, stop_flags, stop_known, last_flags, last_known, more_flags, more_known, over_flags, over_known)

pub ruleset arms_flagged = (arm_flags, no_arm, arms_over)

-- ---- Functions

module _ (g : Site) where
  abbrev own : CoreRoutine
  own = the_routine g

  sure_is : (known known' sure : List ℕ) → known ≡ first_known g → known' ≡ known_at_end g known false 1 own.steps → sure ≡ with_each [] known' → sure ≡ sure_of g
  sure_is known known' sure e k w = w ∙ ap (with_each []) (k ∙ ap (λ ks. known_at_end g ks false 1 own.steps) e)

  pub function_sure : (known known' sure : List ℕ) → known ≡ first_known g → known' ≡ known_at_end g known false 1 (the_routine g).steps → sure ≡ with_each [] known' → sure ≡ sure_of g
  function_sure known known' sure e k w = sure_is known known' sure e k w

  pub function_flagged : (known known' sure : List ℕ) (result : Option ℕ) (s s0 s1 s2 s3 : Flags) → s0 ≡ record s { locals = [] } → known ≡ first_known g → s1 ≡ lines_flags (the_routine g) known false 1 (the_routine g).steps s0
      → known' ≡ known_at_end g known false 1 (the_routine g).steps → sure ≡ with_each [] known' → s2 ≡ arms_flags (the_routine g) sure 1 (the_routine g).steps s1 → result ≡ (the_routine g).header.result → s3 ≡ result_flags sure result s2 → s3 ≡ site_flags g s
  function_flagged known known' sure result s s0 s1 s2 s3 bare first lines k w arms is last =
      let sured = sure_is known known' sure first k w in
      let one = lines ∙ ap (λ ks. lines_flags own ks false 1 own.steps s0) first ∙ ap (lines_flags own (first_known g) false 1 own.steps) bare in
      let two = arms ∙ ap (λ ns. arms_flags own ns 1 own.steps s1) sured ∙ ap (arms_flags own (sure_of g) 1 own.steps) one in
      last ∙ ap (λ (o : Option ℕ). result_flags sure o s2) is ∙ ap (λ ns. result_flags ns own.header.result s2) sured ∙ ap (result_flags (sure_of g) own.header.result) two

pub ruleset function_flags = (function_sure, function_flagged)

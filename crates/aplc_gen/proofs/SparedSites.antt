-- A function whose frame has fewer flags is laid.
use Rattle.std.proofs.Common.{◌≡◌, ap, subst, sym, refl, ℕ, ◌+◌, ◌≤◌, List, [], ◌∷◌, length, Bool, true, false, cond, nat_le, ◌&&◌, ◌||◌, Option, Some, None, arith, ⊎_elim}
use Rattle.std.proofs.lemmas.Bool.Decides.{nat_tests}
use Rattle.aplc_names.specs.declared.scope.Scope.{Scope}
use Rattle.aplc_names.specs.PlainPrograms.{header_count}
use Rattle.aplc_names.specs.States.{is_among}
use Rattle.aplc_core.specs.PlainSteps.{Effect}
use Rattle.aplc_core.specs.CoreRuns.{CoreRoutine, PlainCore, no_core}
use Rattle.aplc_gen.specs.Layouts.{Frame, Layout, Site, the_routine, the_frame, routine_at, no_frame}
use Rattle.aplc_gen.specs.Emitted.{known_through, branches, is_entry, first_known, site_at}
use Rattle.aplc_gen.specs.Laid.{are_laid_lines, are_laid_arms, are_among, known_at_end, is_laid_name, is_laid_result, is_laid_site}
use Rattle.aplc_gen.specs.Sound.{is_line, are_lines}
use Rattle.aplc_gen.specs.Made.{Needs, steps_need, lines_need, parameters, are_low_steps, are_low_lines}
use Rattle.aplc_gen.specs.Sparing.{Flags, lines_flags, arms_flags, result_flags, sure_of}
use Rattle.aplc_gen.proofs.Landing.{or_left, or_right}
use Rattle.aplc_gen.proofs.Frames.{and_right}
use Rattle.aplc_gen.proofs.Knowing.{Among, end_more}
use Rattle.aplc_gen.proofs.MadeLists.{among_self, each_there, each_less, all_among}
use Rattle.aplc_gen.proofs.MadeServes.{Serves, both, lines_laid}
use Rattle.aplc_gen.proofs.SparedLines.{Gathered, Spares, arms_back, lines_spared}

-- ---- What a function that is laid has

pub site_by : (h : Site) → length (the_frame h).unsure ≤ header_count (the_routine h).header
    → are_laid_lines h (first_known h) false 1 (the_routine h).steps ≡ true → are_laid_arms h 1 (the_routine h).steps ≡ true
    → Among (first_known h) (the_frame h).sure → Among (the_frame h).sure (known_at_end h (first_known h) false 1 (the_routine h).steps)
    → is_laid_name h (the_routine h).header.left ≡ true → is_laid_name h (the_routine h).header.right ≡ true → is_laid_result h (the_routine h).header.result ≡ true
    → is_laid_site h ≡ true
site_by h few lines arms sure ends left right result =
    let r : CoreRoutine = the_routine h in
    both (nat_le (length (the_frame h).unsure) (header_count r.header)) _ (at_most (length (the_frame h).unsure) (header_count r.header) few)
    (both (are_laid_lines h (first_known h) false 1 r.steps) _ lines
    (both (are_laid_arms h 1 r.steps) _ arms
    (both (are_among (first_known h) (the_frame h).sure) _ (all_among (first_known h) (the_frame h).sure sure)
    (both (are_among (the_frame h).sure (known_at_end h (first_known h) false 1 r.steps)) _ (all_among (the_frame h).sure (known_at_end h (first_known h) false 1 r.steps) ends)
    (both (is_laid_name h r.header.left) _ left (both (is_laid_name h r.header.right) (is_laid_result h r.header.result) right result))))))
  where
    at_most : (a b : ℕ) → a ≤ b → nat_le a b ≡ true
    at_most a b e = grind (arith, nat_tests, e)

-- one that is not there
pub blank_laid : (h : Site) → the_routine h ≡ no_core → the_frame h ≡ no_frame → first_known h ≡ [] → is_laid_site h ≡ true
blank_laid h routine frame begin =
    site_by h
    (subst (λ (x : Frame). length x.unsure ≤ header_count (the_routine h).header) (sym frame) (omega arith))
    (subst (λ (r : CoreRoutine). are_laid_lines h (first_known h) false 1 r.steps ≡ true) (sym routine) refl)
    (subst (λ (r : CoreRoutine). are_laid_arms h 1 r.steps ≡ true) (sym routine) refl)
    (λ n a. none n (subst (λ (ns : List ℕ). is_among n ns ≡ true) begin a))
    (λ n a. none_more n (subst (λ (x : Frame). is_among n x.sure ≡ true) frame a))
    (subst (λ (r : CoreRoutine). is_laid_name h r.header.left ≡ true) (sym routine) refl)
    (subst (λ (r : CoreRoutine). is_laid_name h r.header.right ≡ true) (sym routine) refl)
    (subst (λ (r : CoreRoutine). is_laid_result h r.header.result ≡ true) (sym routine) refl)
  where
    none : (n : ℕ) → is_among n [] ≡ true → is_among n (the_frame h).sure ≡ true
    none n a = absurd (cc)

    none_more : (n : ℕ) → is_among n [] ≡ true → is_among n (known_at_end h (first_known h) false 1 (the_routine h).steps) ≡ true
    none_more n a = absurd (cc)

-- ---- A function, with what it needs, and its frame with fewer flags

module _ (p : PlainCore) (y z : Layout) (first : Bool) (j : ℕ) (locals globals : List ℕ) (spares : Spares y z j locals globals) where
  abbrev g : Site
  g = site_at y p first j

  -- what surely has a value is told by the function as it is called
  abbrev called : Site
  called = site_at y p false j

  abbrev h : Site
  h = site_at z p first j

  abbrev f : CoreRoutine
  f = routine_at p j

  abbrev sc : ℕ → Scope
  sc = f.header.scope

  abbrev In : Flags → Type 0
  In s = Gathered locals globals s

  abbrev sure : List ℕ
  sure = sure_of called

  -- ---- Segments

  one_arm : (b own : Bool) (s arm : Flags) → (In arm → own ≡ true) → In (cond b arm s) → cond b own true ≡ true
  one_arm true own s arm here has = here has
  one_arm false own s arm here has = refl

  module _ (hs : List ℕ) (flags : Among y.globals y.unsure) (names : Among hs (the_frame g).names) (unsure : Among hs (the_frame g).unsure) (sure_is : (the_frame h).sure ≡ sure) where
    abbrev Served : Needs → Type 0
    Served s = Serves y.globals y.called (the_frame g).slots s

    pub arms_spared : (l : ℕ) (xs : List (List Effect)) (s : Needs) (t : Flags) → are_lines p sc xs ≡ true → are_low_lines sc hs xs ≡ true → Served (lines_need sc xs s) → In (arms_flags f sure l xs t) → are_laid_arms h l xs ≡ true
    arms_spared l [] s t ok low served has = refl
    arms_spared l (x ∷ xs) s t ok low served has =
        let arm = lines_flags f sure false l (x ∷ xs) t in
        let after = cond (is_entry f l) arm t in
        both (cond (is_entry f l) (are_laid_lines h (the_frame h).sure false l (x ∷ xs)) true) (are_laid_arms h (l + 1) xs)
        (one_arm (is_entry f l) (are_laid_lines h (the_frame h).sure false l (x ∷ xs)) t arm
        (λ a. subst (λ (ns : List ℕ). are_laid_lines h ns false l (x ∷ xs) ≡ true) (sym sure_is) (lines_spared p y z first j locals globals spares sure false l (x ∷ xs) t (lines_laid g p hs flags names unsure sure false l (x ∷ xs) s ok low served) a))
        (arms_back locals globals f sure (l + 1) xs after has))
        (arms_spared (l + 1) xs (steps_need sc x s) after (and_right (is_line p sc x) (are_lines p sc xs) ok) (and_right (are_low_steps sc hs x) (are_low_lines sc hs xs) low) served has)

  -- ---- The result

  pub result_spared : (sure_is : (the_frame h).sure ≡ sure) (o : Option ℕ) (s : Flags) → ((n : ℕ) → o ≡ Some n → is_among n (the_frame g).names ≡ true) → In (result_flags sure o s) → is_laid_result h o ≡ true
  result_spared sure_is None s named has = refl
  result_spared sure_is (Some n) s named has =
      let there = named n refl in
      both (is_among n (the_frame h).names) (is_among n (the_frame h).sure || is_among n (the_frame h).unsure) (spares.names_are n there) (by (is_among n sure) refl there has)
    where
      by : (b : Bool) → is_among n sure ≡ b → is_among n (the_frame g).names ≡ true → In (cond b s (record s { locals = n ∷ s.locals })) → (is_among n (the_frame h).sure || is_among n (the_frame h).unsure) ≡ true
      by true e there k = or_left (is_among n (the_frame h).sure) (is_among n (the_frame h).unsure) (subst (λ (ns : List ℕ). is_among n ns ≡ true) (sym sure_is) e)
      by false e there k = or_right (is_among n (the_frame h).sure) (is_among n (the_frame h).unsure) (spares.locals_flagged n there (k.locals_are n (among_self n s.locals)))

  pub name_spared : (o : Option ℕ) → ((n : ℕ) → o ≡ Some n → is_among n (the_frame g).names ≡ true) → is_laid_name h o ≡ true
  name_spared None named = refl
  name_spared (Some n) named = spares.names_are n (named n refl)

  -- ---- What surely has a value

  end_same : (known : List ℕ) (through : Bool) (l : ℕ) (xs : List (List Effect)) → known_at_end called known through l xs ≡ known_at_end h known through l xs
  end_same known through l [] = refl
  end_same known through l ([] ∷ xs) = end_same known through (l + 1) xs
  end_same known through l ((x ∷ more) ∷ xs) =
      ap (λ (ns : List ℕ). cond (through && is_entry f l) known (cond (branches (x ∷ more)) (known_through known (x ∷ more)) ns)) (end_same (known_through known (x ∷ more)) true (l + 1) xs)

  pub sure_there : Among (parameters f) sure
  sure_there n a = each_there [] (known_at_end called (parameters f) false 1 f.steps) n (end_more called (parameters f) false 1 f.steps n a)

  pub sure_end : Among sure (known_at_end h (parameters f) false 1 f.steps)
  sure_end n a =
      subst (λ (ns : List ℕ). is_among n ns ≡ true) (end_same (parameters f) false 1 f.steps)
      (⊎_elim (λ b. none b) (λ b. b) (each_less [] (known_at_end called (parameters f) false 1 f.steps) n a))
    where
      none : is_among n [] ≡ true → is_among n (known_at_end called (parameters f) false 1 f.steps) ≡ true
      none b = absurd (cc)

-- What is known to have a value stays known, along lines and at entries.
use Rattle.std.proofs.Common.{◌≡◌, ℕ, suc, ◌+◌, ◌<◌, ◌≤◌, List, [], ◌∷◌, ◌⊎◌, inl, inr, ⊎_elim, refl, sym, ap, ◌∙◌, subst, arith, Bool, true, false, cond, length}
use Rattle.std.specs.Prelude.{Option, ◌&&◌, nat_eq, nat_le, slice_get}
use Rattle.std.proofs.lemmas.Bool.Decides.{nat_tests, eqb_tells}
use Rattle.aplc_arr.specs.Arrays.{Array}
use Rattle.aplc_names.specs.declared.scope.Scope.{Scope}
use Rattle.aplc_names.specs.declared.scope.Scope.TheVariants as scope
use Rattle.aplc_names.specs.Eager.{value_of_name}
use Rattle.aplc_names.specs.PlainPrograms.{header_count}
use Rattle.aplc_names.specs.States.{World, is_among}
use Rattle.aplc_core.specs.PlainSteps.{Effect, Term, Literal, Read, Slot, Mono, Dyad, Index, Keep, Store, StoreAt, Call, ReadText, ReadNums, Show, Branch}
use Rattle.aplc_core.specs.CoreRuns.{CoreRoutine}
use Rattle.aplc_gen.specs.Layouts.{Site, the_routine, the_frame}
use Rattle.aplc_gen.specs.Emitted.{known_after, known_behind, known_through, is_branch, branches, landing, first_line, is_entry, first_known, entry_known}
use Rattle.aplc_gen.specs.Laid.{are_among, are_laid_lines, are_laid_arms, known_at_end, is_laid_site, is_laid_name, is_laid_result}
use Rattle.aplc_gen.specs.Relation.{Knows}
use Rattle.aplc_gen.proofs.Frames.{and_left, and_right}
use Rattle.aplc_gen.proofs.Landing.{Lines, From, from_next, from_all, or_right, or_cases, eq_of}

abbrev pub Among : List ℕ → List ℕ → Type 0
Among xs ys = (n : ℕ) → is_among n xs ≡ true → is_among n ys ≡ true

pub knows_less : (g : Site) (xs ys : List ℕ) (S : World) → Among xs ys → Knows g ys S → Knows g xs S
knows_less g xs ys S sub h n among = h n (sub n among)

value_other : (x : Scope) (n : ℕ) (S T : World) → T.globals ≡ S.globals → T.locals ≡ S.locals → value_of_name x n T ≡ value_of_name x n S
value_other scope.Local n S T g l = ap (λ (f : ℕ → Option Array). f n) l
value_other scope.Global n S T g l = ap (λ (f : ℕ → Option Array). f n) g
value_other (scope.Label z) n S T g l = refl
value_other (scope.Function j) n S T g l = refl

-- where names have the same values
pub knows_other : (g : Site) (known : List ℕ) (S T : World) → T.globals ≡ S.globals → T.locals ≡ S.locals → Knows g known S → Knows g known T
knows_other g known S T a b h n among = let k = h n among in (k.0, value_other ((the_routine g).header.scope n) n S T a b ∙ k.1)

pub among_all : (xs ys : List ℕ) → are_among xs ys ≡ true → Among xs ys
among_all [] ys h n among = absurd (cc)
among_all (x ∷ xs) ys h n among =
    ⊎_elim (λ a. subst (λ k. is_among k ys ≡ true) (sym (eq_of n x a)) (and_left (is_among x ys) (are_among xs ys) h)) (λ a. among_all xs ys (and_right (is_among x ys) (are_among xs ys) h) n a) (or_cases (nat_eq n x) (is_among n xs) among)

pub after_more : (known : List ℕ) (t : Term) → Among known (known_after known t)
after_more known (Literal i k zs) n h = h
after_more known (Read i m) n h = or_right (nat_eq n m) (is_among n known) h
after_more known (Slot i k) n h = h
after_more known (Mono i f b) n h = after_more known b n h
after_more known (Dyad i f a b) n h = after_more (known_after known b) a n (after_more known b n h)
after_more known (Index i a xs) n h = h

pub behind_more : (known : List ℕ) (x : Effect) → Among known (known_behind known x)
behind_more known (Keep k t) n h = after_more known t n h
behind_more known (Store i m t) n h = or_right (nat_eq n m) (is_among n (known_after known t)) (after_more known t n h)
behind_more known (StoreAt i m ts t) n h = h
behind_more known (Call i m a b r) n h = h
behind_more known (ReadText i k) n h = h
behind_more known (ReadNums i k) n h = h
behind_more known (Show i t) n h = after_more known t n h
behind_more known (Branch t) n h = h

pub through_more : (known : List ℕ) (xs : List Effect) → Among known (known_through known xs)
through_more known [] n h = h
through_more known (x ∷ xs) n h = by (is_branch x) (through_more (known_behind known x) xs n (behind_more known x n h))
  where
    by : (b : Bool) → is_among n (known_through (known_behind known x) xs) ≡ true → is_among n (cond b known (known_through (known_behind known x) xs)) ≡ true
    by true q = h
    by false q = q

pub end_more : (g : Site) (known : List ℕ) (through : Bool) (l : ℕ) (xs : Lines) → Among known (known_at_end g known through l xs)
end_more g known through l [] n h = h
end_more g known through l ([] ∷ xs) n h = end_more g known through (l + 1) xs n h
end_more g known through l ((x ∷ more) ∷ xs) n h = by (through && is_entry (the_routine g) l) (branches (x ∷ more)) (through_more known (x ∷ more) n h) (end_more g (known_through known (x ∷ more)) true (l + 1) xs n (through_more known (x ∷ more) n h))
  where
    by : (a b : Bool) → is_among n (known_through known (x ∷ more)) ≡ true → is_among n (known_at_end g (known_through known (x ∷ more)) true (l + 1) xs) ≡ true → is_among n (cond a known (cond b (known_through known (x ∷ more)) (known_at_end g (known_through known (x ∷ more)) true (l + 1) xs))) ≡ true
    by true b p q = h
    by false true p q = p
    by false false p q = q

-- ---- Lines from a number on are one list

same_lists : {A : Type 0} (xs ys : List A) → length xs ≡ length ys → ((j : ℕ) → slice_get xs j ≡ slice_get ys j) → xs ≡ ys
same_lists [] [] e h = refl
same_lists [] (y ∷ ys) e h = absurd (omega (arith, e))
same_lists (x ∷ xs) [] e h = absurd (omega (arith, e))
same_lists (x ∷ xs) (y ∷ ys) e h =
    let first : x ≡ y = let a = h 0 in cc in
    let rest : xs ≡ ys = same_lists xs ys (omega (arith, e)) (λ j. h (suc j)) in
    ap (λ z. z ∷ xs) first ∙ ap (λ zs. y ∷ zs) rest

pub from_unique : (f : CoreRoutine) (l : ℕ) (xs ys : Lines) → From f l xs → From f l ys → xs ≡ ys
from_unique f l xs ys p q = let a = p.count in let b = q.count in same_lists xs ys (omega (arith, a, b)) (λ j. p.same j ∙ sym (q.same j))

-- ---- Entries

-- what an arm's code needs
pub record ArmLaid (g : Site) (l : ℕ) (xs : Lines) : Type 0 where
  pub laid : are_laid_lines g (entry_known g l) false l xs ≡ true
  pub sure : Among (the_frame g).sure (known_at_end g (entry_known g l) false l xs)

module _ (g : Site) where
  arms_laid : (i : ℕ) (xs : Lines) (l : ℕ) (lines : Lines) → are_laid_arms g i xs ≡ true → From (the_routine g) i xs → From (the_routine g) l lines → i ≤ l → l < i + length xs → is_entry (the_routine g) l ≡ true → are_laid_lines g (the_frame g).sure false l lines ≡ true
  arms_laid i [] l lines h from at le lt entry = absurd (omega (arith, le, lt))
  arms_laid i (x ∷ xs) l lines h from at le lt entry = by (eqb_tells i l)
      (and_left (cond (is_entry (the_routine g) i) (are_laid_lines g (the_frame g).sure false i (x ∷ xs)) true) (are_laid_arms g (i + 1) xs) h)
      (λ more less. arms_laid (i + 1) xs l lines (and_right (cond (is_entry (the_routine g) i) (are_laid_lines g (the_frame g).sure false i (x ∷ xs)) true) (are_laid_arms g (i + 1) xs) h) (from_next (the_routine g) i x xs from) at more less entry)
    where
      above : i ≤ l → (i ≡ l → ⊥) → i + 1 ≤ l
      above le ne = grind (arith, le, ne)

      by : ((nat_eq i l ≡ true) × (i ≡ l)) ⊎ ((nat_eq i l ≡ false) × (i ≡ l → ⊥)) → cond (is_entry (the_routine g) i) (are_laid_lines g (the_frame g).sure false i (x ∷ xs)) true ≡ true → (i + 1 ≤ l → l < i + 1 + length xs → are_laid_lines g (the_frame g).sure false l lines ≡ true) → are_laid_lines g (the_frame g).sure false l lines ≡ true
      by (inl e) here ih =
          let one : are_laid_lines g (the_frame g).sure false i (x ∷ xs) ≡ true = sym (ap (λ b. cond b (are_laid_lines g (the_frame g).sure false i (x ∷ xs)) true) (subst (λ k. is_entry (the_routine g) k ≡ true) (sym e.1) entry)) ∙ here in
          let same : x ∷ xs ≡ lines = from_unique (the_routine g) l (x ∷ xs) lines (subst (λ k. From (the_routine g) k (x ∷ xs)) e.1 from) at in
          subst (λ k. are_laid_lines g (the_frame g).sure false k lines ≡ true) e.1 (subst (λ zs. are_laid_lines g (the_frame g).sure false i zs ≡ true) same one)
      by (inr ne) here ih = ih (above le ne.1) (omega (arith, lt))

  -- empty lines before the first one that has steps
  first_laid : (known : List ℕ) (i : ℕ) (xs : Lines) (l : ℕ) (lines : Lines) → From (the_routine g) i xs → From (the_routine g) (suc l) lines → landing i xs ≡ suc l → (are_laid_lines g known false i xs ≡ are_laid_lines g known false (suc l) lines) × (known_at_end g known false i xs ≡ known_at_end g known false (suc l) lines)
  first_laid known i [] l lines from at e = absurd (omega (arith, e))
  first_laid known i ([] ∷ xs) l lines from at e = first_laid known (i + 1) xs l lines (from_next (the_routine g) i [] xs from) at e
  first_laid known i ((x ∷ more) ∷ xs) l lines from at e =
      let same : (x ∷ more) ∷ xs ≡ lines = from_unique (the_routine g) (suc l) ((x ∷ more) ∷ xs) lines (subst (λ k. From (the_routine g) k ((x ∷ more) ∷ xs)) e from) at in (
        ap (λ zs. are_laid_lines g known false i zs) same ∙ ap (λ k. are_laid_lines g known false k lines) e,
        ap (λ zs. known_at_end g known false i zs) same ∙ ap (λ k. known_at_end g known false k lines) e,
      )

  -- ---- What a layout says of a function

  pub record SiteLaid : Type 0 where
    pub few : length (the_frame g).unsure ≤ header_count (the_routine g).header
    pub lines : are_laid_lines g (first_known g) false 1 (the_routine g).steps ≡ true
    pub arms : are_laid_arms g 1 (the_routine g).steps ≡ true
    pub first : Among (first_known g) (the_frame g).sure
    pub sure : Among (the_frame g).sure (known_at_end g (first_known g) false 1 (the_routine g).steps)
    pub left : is_laid_name g (the_routine g).header.left ≡ true
    pub right : is_laid_name g (the_routine g).header.right ≡ true
    pub result : is_laid_result g (the_routine g).header.result ≡ true

  pub site_laid : is_laid_site g ≡ true → SiteLaid
  site_laid h =
      let f = the_routine g in
      let a = are_laid_lines g (first_known g) false 1 f.steps in
      let b = are_laid_arms g 1 f.steps in
      let d = are_among (first_known g) (the_frame g).sure in
      let e = are_among (the_frame g).sure (known_at_end g (first_known g) false 1 f.steps) in
      let l = is_laid_name g f.header.left in
      let r = is_laid_name g f.header.right in
      let o = is_laid_result g f.header.result in
      let few = nat_le (length (the_frame g).unsure) (header_count f.header) in
      let h1 = and_right few (a && (b && (d && (e && (l && (r && o)))))) h in
      let h2 = and_right a (b && (d && (e && (l && (r && o))))) h1 in
      let h3 = and_right b (d && (e && (l && (r && o)))) h2 in
      let h4 = and_right d (e && (l && (r && o))) h3 in
      let h5 = and_right e (l && (r && o)) h4 in
      let h6 = and_right l (r && o) h5 in
      record {
        few = le_of (length (the_frame g).unsure) (header_count f.header) (and_left few (a && (b && (d && (e && (l && (r && o)))))) h);
        lines = and_left a (b && (d && (e && (l && (r && o))))) h1;
        arms = and_left b (d && (e && (l && (r && o)))) h2;
        first = among_all (first_known g) (the_frame g).sure (and_left d (e && (l && (r && o))) h3);
        sure = among_all (the_frame g).sure (known_at_end g (first_known g) false 1 f.steps) (and_left e (l && (r && o)) h4);
        left = and_left l (r && o) h5;
        right = and_left r o h6;
        result = and_right r o h6;
      }
    where
      le_of : (a b : ℕ) → nat_le a b ≡ true → a ≤ b
      le_of a b h = grind (arith, nat_tests, h)

  pub arm_laid : SiteLaid → (l : ℕ) (lines : Lines) → From (the_routine g) (suc l) lines → suc l ≤ length (the_routine g).steps → is_entry (the_routine g) (suc l) ≡ true → ArmLaid g (suc l) lines
  arm_laid s l lines at lt entry = by (eqb_tells (suc l) (first_line f))
    where
      f : CoreRoutine
      f = the_routine g

      by : ((nat_eq (suc l) (first_line f) ≡ true) × (suc l ≡ first_line f)) ⊎ ((nat_eq (suc l) (first_line f) ≡ false) × (suc l ≡ first_line f → ⊥)) → ArmLaid g (suc l) lines
      by (inl e) =
          let known : entry_known g (suc l) ≡ first_known g = ap (λ b. cond b (first_known g) (the_frame g).sure) e.0 in
          let q = first_laid (first_known g) 1 f.steps l lines (from_all f) at (sym e.1) in
          record {
            laid = ap (λ k. are_laid_lines g k false (suc l) lines) known ∙ sym q.0 ∙ s.lines;
            sure = λ n among. subst (λ k. is_among n (known_at_end g k false (suc l) lines) ≡ true) (sym known) (subst (λ zs. is_among n zs ≡ true) q.1 (s.sure n among));
          }
      by (inr ne) =
          let known : entry_known g (suc l) ≡ (the_frame g).sure = ap (λ b. cond b (first_known g) (the_frame g).sure) ne.0 in
          record {
            laid = ap (λ k. are_laid_lines g k false (suc l) lines) known ∙ arms_laid 1 f.steps (suc l) lines s.arms (from_all f) at (omega arith) (omega (arith, lt)) entry;
            sure = λ n among. subst (λ k. is_among n (known_at_end g k false (suc l) lines) ≡ true) (sym known) (end_more g (the_frame g).sure false (suc l) lines n among);
          }

  -- what is known at an entry is sure, or is known from the start
  pub entry_less : SiteLaid → (l : ℕ) → Among (entry_known g l) (the_frame g).sure
  entry_less s l n among = by (nat_eq l (first_line (the_routine g))) among
    where
      by : (b : Bool) → is_among n (cond b (first_known g) (the_frame g).sure) ≡ true → is_among n (the_frame g).sure ≡ true
      by true h = s.first n h
      by false h = h

-- Lines by their numbers: where branches lead, which lines have arms, and which arm is picked.
use Rattle.std.proofs.Common.{◌≡◌, ℕ, zero, suc, ◌+◌, ◌<◌, ◌≤◌, List, [], ◌∷◌, ◌⊎◌, inl, inr, refl, sym, ap, ◌∙◌, subst, arith, ℤ, pos, negsuc, Bool, true, false, cond, length}
use Rattle.std.specs.Prelude.{Some, None, ◌||◌, nat_eq, slice_get}
use Rattle.std.proofs.lemmas.Bool.Decides.{nat_tests, eqb_tells}
use Rattle.std.proofs.lemmas.Bool.{eq-eqb}
use Rattle.aplc_scalar.specs.Scalar.{int_eq}
use Rattle.aplc_cprof.specs.declared.syntax.Arm.{Arm}
use Rattle.aplc_cprof.specs.declared.syntax.CStmt.{CStmt}
use Rattle.aplc_cprof.proofs.Paths.{picked}
use Rattle.aplc_names.specs.Eager.{line_named}
use Rattle.aplc_core.specs.PlainSteps.{Effect}
use Rattle.aplc_core.specs.CoreRuns.{CoreRoutine, steps_at}
use Rattle.aplc_gen.specs.Layouts.{Site, the_routine}
use Rattle.aplc_gen.specs.Emitted.{is_entry}
use Rattle.aplc_gen.specs.Codes.{Either, IsArm, AreArms}

abbrev pub Lines : Type 0
Lines = List (List Effect)

pub or_left : (a b : Bool) → a ≡ true → (a || b) ≡ true
or_left true b h = refl
or_left false b h = absurd (cc)

pub or_right : (a b : Bool) → b ≡ true → (a || b) ≡ true
or_right true b h = refl
or_right false b h = h

pub or_cases : (a b : Bool) → (a || b) ≡ true → (a ≡ true) ⊎ (b ≡ true)
or_cases true b h = inl refl
or_cases false b h = inr h

pub eq_of : (a b : ℕ) → nat_eq a b ≡ true → a ≡ b
eq_of a b h = by (eqb_tells a b)
  where
    by : ((nat_eq a b ≡ true) × (a ≡ b)) ⊎ ((nat_eq a b ≡ false) × (a ≡ b → ⊥)) → a ≡ b
    by (inl e) = e.1
    by (inr ne) = let f = ne.0 in absurd (cc)

-- ---- Lines from a number on

-- these are the lines of the function from number l on
pub record From (f : CoreRoutine) (l : ℕ) (xs : Lines) : Type 0 where
  pub count : l + length xs ≡ suc (length f.steps)
  pub same : (j : ℕ) → slice_get xs j ≡ steps_at f.steps (l + j)

pub from_all : (f : CoreRoutine) → From f 1 f.steps
from_all f = record { count = omega arith; same = λ j. let e : 1 + j ≡ suc j = omega arith in sym (ap (λ k. steps_at f.steps k) e) }

pub from_next : (f : CoreRoutine) (l : ℕ) (x : List Effect) (xs : Lines) → From f l (x ∷ xs) → From f (l + 1) xs
from_next f l x xs h =
    let e = h.count in
    record { count = omega (arith, e); same = λ j. h.same (suc j) ∙ (let a : l + suc j ≡ l + 1 + j = omega arith in ap (λ k. steps_at f.steps k) a) }

pub from_here : (f : CoreRoutine) (l : ℕ) (x : List Effect) (xs : Lines) → From f l (x ∷ xs) → steps_at f.steps l ≡ Some x
from_here f l x xs h = let e : l + 0 ≡ l = omega arith in sym (ap (λ k. steps_at f.steps k) e) ∙ sym (h.same 0)

get_past : {A : Type 0} (xs : List A) (k : ℕ) → length xs ≤ k → slice_get xs k ≡ None
get_past [] k le = refl
get_past (x ∷ xs) zero le = absurd (omega (arith, le))
get_past (x ∷ xs) (suc k) le = get_past xs k (omega (arith, le))

-- a number that is no line's
pub past_lines : (f : CoreRoutine) (l : ℕ) → (l ≡ 0) ⊎ (length f.steps < l) → steps_at f.steps l ≡ None
past_lines f zero h = refl
past_lines f (suc l) (inl e) = absurd (omega (arith, e))
past_lines f (suc l) (inr lt) = get_past f.steps l (omega (arith, lt))

pub past_end : (f : CoreRoutine) (l : ℕ) → From f l [] → steps_at f.steps l ≡ None
past_end f l h = let e = h.count in past_lines f l (inr (omega (arith, e)))

-- ---- Which arm is picked

pub number_same : (k l : ℕ) → int_eq (pos k) (pos l) ≡ nat_eq k l
number_same k l = grind (arith, nat_tests)

negative_not : (k l : ℕ) → int_eq (negsuc k) (pos l) ≡ false
negative_not k l = refl

module _ (Line : List ℕ → ℕ → List Effect → List CStmt → Type 0) (g : Site) where
  -- the arm of an entry among those of the lines from number i on
  pub record Picked (l : ℕ) (z : ℤ) (all : List Arm) (d : List CStmt) : Type 0 where
    pub lines : Lines
    pub from : From (the_routine g) l lines
    pub code : List CStmt
    pub is : IsArm Line g l lines code
    pub arm : picked z all d ≡ code

  pub picked_arm : (l i : ℕ) (xs : Lines) (all : List Arm) (d : List CStmt) → AreArms Line g i xs all → From (the_routine g) i xs → i ≤ l → l < i + length xs → is_entry (the_routine g) l ≡ true → Picked l (pos l) all d
  picked_arm l i [] all d its from le lt entry = absurd (omega (arith, le, lt))
  picked_arm l i (x ∷ xs) all d its from le lt entry = by (eqb_tells i l) (λ rest later more less. picked_arm l (i + 1) xs rest d later (from_next (the_routine g) i x xs from) more less entry)
    where
      Rest : List Arm → Type 0
      Rest rest = AreArms Line g (i + 1) xs rest

      Cases : Bool → Type 0
      Cases b = Either b ((body : List CStmt) × (rest : List Arm) × (all ≡ record { value = pos i; body = body } ∷ rest) × IsArm Line g i (x ∷ xs) body × AreArms Line g (i + 1) xs rest) (AreArms Line g (i + 1) xs all)

      here : (b : Bool) → Cases b → b ≡ true → nat_eq i l ≡ true → i ≡ l → Picked l (pos l) all d
      here false c e same is = absurd (cc)
      here true (body, rest, at, arm, later) e same is = record {
        lines = x ∷ xs;
        from = subst (λ k. From (the_routine g) k (x ∷ xs)) is from;
        code = body;
        is = subst (λ k. IsArm Line g k (x ∷ xs) body) is arm;
        arm =
            ap (λ (zs : List Arm). picked (pos l) zs d) at
            ∙ ap (λ b. cond b body (picked (pos l) rest d)) (number_same l i ∙ eq-eqb l i (sym is));
      }

      there : (b : Bool) → Cases b → (i ≡ l → ⊥) → ((rest : List Arm) → Rest rest → Picked l (pos l) rest d) → Picked l (pos l) all d
      there false c ne ih = ih all c
      there true (body, rest, at, arm, later) ne ih =
          let p = ih rest later in
          record {
            lines = p.lines;
            from = p.from;
            code = p.code;
            is = p.is;
            arm = ap (λ (zs : List Arm). picked (pos l) zs d) at ∙ ap (λ t. cond t body (picked (pos l) rest d)) differ ∙ p.arm;
          }
        where
          differ : int_eq (pos l) (pos i) ≡ false
          differ = number_same l i ∙ not_same (eqb_tells l i)
            where
              not_same : ((nat_eq l i ≡ true) × (l ≡ i)) ⊎ ((nat_eq l i ≡ false) × (l ≡ i → ⊥)) → nat_eq l i ≡ false
              not_same (inl q) = absurd (ne (sym q.1))
              not_same (inr q) = q.0

      by : ((nat_eq i l ≡ true) × (i ≡ l)) ⊎ ((nat_eq i l ≡ false) × (i ≡ l → ⊥)) → ((rest : List Arm) → Rest rest → i + 1 ≤ l → l < i + 1 + length xs → Picked l (pos l) rest d) → Picked l (pos l) all d
      by (inl e) ih = here (is_entry (the_routine g) i) its (subst (λ k. is_entry (the_routine g) k ≡ true) (sym e.1) entry) e.0 e.1
      by (inr ne) ih = let apart = ne.1 in there (is_entry (the_routine g) i) its ne.1 (λ rest later. ih rest later (above i l le apart) (omega (arith, lt)))
        where
          above : (i l : ℕ) → i ≤ l → (i ≡ l → ⊥) → i + 1 ≤ l
          above i l le ne = grind (arith, le, ne)

  -- the default, where no line among these has the number
  pub picked_none : (z : ℤ) (i : ℕ) (xs : Lines) (all : List Arm) (d : List CStmt) → AreArms Line g i xs all → ((l : ℕ) → i ≤ l → l < i + length xs → int_eq z (pos l) ≡ false) → picked z all d ≡ d
  picked_none z i [] all d its none = ap (λ (zs : List Arm). picked z zs d) its
  picked_none z i (x ∷ xs) all d its none = by (is_entry (the_routine g) i) its (λ rest later. picked_none z (i + 1) xs rest d later (λ l le lt. none l (omega (arith, le)) (omega (arith, lt))))
    where
      Rest : List Arm → Type 0
      Rest rest = AreArms Line g (i + 1) xs rest

      by : (b : Bool) → Either b ((body : List CStmt) × (rest : List Arm) × (all ≡ record { value = pos i; body = body } ∷ rest) × IsArm Line g i (x ∷ xs) body × AreArms Line g (i + 1) xs rest) (AreArms Line g (i + 1) xs all) → ((rest : List Arm) → Rest rest → picked z rest d ≡ d) → picked z all d ≡ d
      by false c ih = ih all c
      by true (body, rest, at, arm, later) ih = ap (λ (zs : List Arm). picked z zs d) at ∙ ap (λ t. cond t body (picked z rest d)) (none i (omega arith) (omega arith)) ∙ ih rest later

  -- a number that names no line
  pub no_arm : (z : ℤ) (all : List Arm) (d : List CStmt) → AreArms Line g 1 (the_routine g).steps all → (line_named z ≡ 0) ⊎ (length (the_routine g).steps < line_named z) → picked z all d ≡ d
  no_arm (negsuc k) all d its h = picked_none (negsuc k) 1 (the_routine g).steps all d its (λ l le lt. negative_not k l)
  no_arm (pos k) all d its (inl e) = picked_none (pos k) 1 (the_routine g).steps all d its (λ l le lt. number_same k l ∙ differ l le (eqb_tells k l))
    where
      differ : (l : ℕ) → 1 ≤ l → ((nat_eq k l ≡ true) × (k ≡ l)) ⊎ ((nat_eq k l ≡ false) × (k ≡ l → ⊥)) → nat_eq k l ≡ false
      differ l le (inl q) = let is = q.1 in absurd (omega (arith, e, le, is))
      differ l le (inr q) = q.0
  no_arm (pos k) all d its (inr past) = picked_none (pos k) 1 (the_routine g).steps all d its (λ l le lt. number_same k l ∙ differ l lt (eqb_tells k l))
    where
      differ : (l : ℕ) → l < 1 + length (the_routine g).steps → ((nat_eq k l ≡ true) × (k ≡ l)) ⊎ ((nat_eq k l ≡ false) × (k ≡ l → ⊥)) → nat_eq k l ≡ false
      differ l lt (inl q) = let is = q.1 in absurd (omega (arith, past, lt, is))
      differ l lt (inr q) = q.0

-- a number that names a line is its number
pub named_number : (z : ℤ) (l : ℕ) → line_named z ≡ suc l → z ≡ pos (suc l)
named_number (pos k) l e = ap pos e
named_number (negsuc k) l e = absurd (omega (arith, e))

-- A program that is well typed has no first refusal, and no program has two.
use Rattle.std.proofs.Common.{◌≡◌, ap, refl, subst, ℕ, List, [], ◌∷◌, length, Option, Some, None, true}
use Rattle.std.proofs.Math.Path.{fun_ext}
use Rattle.std.specs.Prelude.{slice_get}
use Rattle.aplc_lex.specs.declared.token.Refusal.{Refusal}
use Rattle.aplc_lex.specs.Firsts.{IsFirst}
use Rattle.aplc_lex.proofs.Order.{one_first}
use Rattle.aplc_syntax.specs.declared.tree.Program.{Program}
use Rattle.aplc_names.specs.PlainPrograms.{Action, Routine, PlainProgram, plain}
use Rattle.aplc_infer.specs.declared.fact.FactKind.{FactKind}
use Rattle.aplc_infer.specs.declared.fact.FactKind.TheVariants.{Bit, Num, Char, Mixed}
use Rattle.aplc_infer.specs.declared.fact.Inferred.{Inferred}
use Rattle.aplc_infer.specs.declared.fact.Inferred.TheVariants.{Unset, Of}
use Rattle.aplc_infer.specs.declared.cell.Cell.TheVariants as cell
use Rattle.aplc_infer.specs.Facts.{kind_below, length_below, lengths_below, shape_below, below}
use Rattle.aplc_infer.specs.Seeing.{Family, Declarations, declarations, context_of, local_names, fresh}
use Rattle.aplc_infer.specs.Families.{IsBelow, IsLine, IsRefused, IsLeast, Fits, IsWellTyped, StandsFirst, at_start, seen_line}
use Rattle.aplc_infer.proofs.Trials.{left_true, right_true, equal_of}
use Rattle.aplc_infer.proofs.Monotone.{Follows, names_first, statement_rises}
use Rattle.aplc_infer.proofs.AllRules.{rules_rise}

-- ---- Two facts, each below the other

kind_once : (a b : FactKind) → kind_below a b ≡ true → kind_below b a ≡ true → a ≡ b
kind_once Bit Bit p q = refl
kind_once Bit Num p q = cc
kind_once Bit Char p q = cc
kind_once Bit Mixed p q = cc
kind_once Num Bit p q = cc
kind_once Num Num p q = refl
kind_once Num Char p q = cc
kind_once Num Mixed p q = cc
kind_once Char Bit p q = cc
kind_once Char Num p q = cc
kind_once Char Char p q = refl
kind_once Char Mixed p q = cc
kind_once Mixed Bit p q = cc
kind_once Mixed Num p q = cc
kind_once Mixed Char p q = cc
kind_once Mixed Mixed p q = refl

length_once : (x y : Option ℕ) → length_below x y ≡ true → length_below y x ≡ true → x ≡ y
length_once None None p q = refl
length_once None (Some n) p q = cc
length_once (Some m) None p q = cc
length_once (Some m) (Some n) p q = ap (λ i. Some i) (equal_of m n p)

lengths_once : (xs ys : List (Option ℕ)) → lengths_below xs ys ≡ true → lengths_below ys xs ≡ true → xs ≡ ys
lengths_once [] [] p q = refl
lengths_once [] (y ∷ ys) p q = cc
lengths_once (x ∷ xs) [] p q = cc
lengths_once (x ∷ xs) (y ∷ ys) p q =
    let head = length_once x y (left_true (length_below x y) (lengths_below xs ys) p) (left_true (length_below y x) (lengths_below ys xs) q) in
    let tail = lengths_once xs ys (right_true (length_below x y) (lengths_below xs ys) p) (right_true (length_below y x) (lengths_below ys xs) q) in
    cc

shape_once : (s t : Option (List (Option ℕ))) → shape_below s t ≡ true → shape_below t s ≡ true → s ≡ t
shape_once None None p q = refl
shape_once None (Some ys) p q = cc
shape_once (Some xs) None p q = cc
shape_once (Some xs) (Some ys) p q = ap (λ zs. Some zs) (lengths_once xs ys p q)

pub below_once : (x y : Inferred) → below x y ≡ true → below y x ≡ true → x ≡ y
below_once Unset Unset p q = refl
below_once Unset (Of b t) p q = cc
below_once (Of a s) Unset p q = cc
below_once (Of a s) (Of b t) p q =
    let kinds = kind_once a b (left_true (kind_below a b) (shape_below s t) p) (left_true (kind_below b a) (shape_below t s) q) in
    let shapes = shape_once s t (right_true (kind_below a b) (shape_below s t) p) (right_true (kind_below b a) (shape_below t s) q) in
    cc

-- ---- Two families

pub same_family : (g h : Family) → IsBelow g h → IsBelow h g → g ≡ h
same_family g h up down = fun_ext (λ c. below_once (g c) (h c) (up c) (down c))

module _ (d : Declarations) (p : PlainProgram) where
  -- what a line asks and refuses rises with the family
  pub line_follows : (g h : Family) → IsBelow g h → (j : ℕ) (f : Routine) (l : ℕ) (x : Action) → Follows h (seen_line d p g j f l x) (seen_line d p h j f l x)
  line_follows g h up j f l x =
      statement_rises g h up (context_of d p f) (rules_rise p.origin) x (fresh (at_start g j f l)) (fresh (at_start h j f l)) (record {
        names = names_first (λ i. g (cell.Start j l i)) (λ i. h (cell.Start j l i)) (length (local_names f)) (λ i. up (cell.Start j l i));
        demands = λ m. m;
        fine = λ e. e;
      })

  none_listed : (h : Family) → Fits d p h → (j l : ℕ) (f : Routine) (x : Action) → IsLine p j l f x → (rs : List Refusal) → (seen_line d p h j f l x).refused ≡ rs → rs ≡ []
  none_listed h fits j l f x there [] e = refl
  none_listed h fits j l f x there (r ∷ rs) e =
      absurd (fits.fine r (record { function = j; line = l; routine = f; action = x; there = there; index = 0; listed = ap (λ ys. slice_get ys 0) e }))

  nothing : (rs : List Refusal) (i : ℕ) (r : Refusal) → rs ≡ [] → slice_get rs i ≡ Some r → ⊥
  nothing [] i r e k = cc
  nothing (s ∷ rs) i r e k = cc

  -- where some family fits, no refusal stands under the least one
  least_fine : (g h : Family) → IsLeast d p g → Fits d p h → (r : Refusal) → IsRefused d p g r → ⊥
  least_fine g h least fits r s =
      let rises = line_follows g h (least.least h fits.rules) s.function s.routine s.line s.action in
      let none = none_listed h fits s.function s.line s.routine s.action s.there (seen_line d p h s.function s.routine s.line s.action).refused refl in
      nothing (seen_line d p g s.function s.routine s.line s.action).refused s.index r (rises.fine none) s.listed

  least_once : (g h : Family) → IsLeast d p g → IsLeast d p h → g ≡ h
  least_once g h a b = same_family g h (a.least h b.rules) (b.least g a.rules)

-- ---- Programs

pub not_both : (p : Program) (r : Refusal) → IsWellTyped p → StandsFirst p r → ⊥
not_both p r well s = least_fine (declarations p.vars) (plain p) s.family well.0 s.least well.1 r s.first.stands

pub one_refusal : (p : Program) (r s : Refusal) → StandsFirst p r → StandsFirst p s → r ≡ s
one_refusal p r s a b =
    let same : a.family ≡ b.family = least_once (declarations p.vars) (plain p) a.family b.family a.least b.least in
    one_first (IsRefused (declarations p.vars) (plain p) b.family) r s (subst (λ g. IsFirst (IsRefused (declarations p.vars) (plain p) g) r) same a.first) b.first

-- Why fused elements look only at the names of their parts, and give only numbers of the range.
use Rattle.std.proofs.Common.{◌≡◌, ℕ, ◌+◌, List, refl, sym, ap, ◌∙◌, subst, ℤ}
use Rattle.std.specs.Prelude.{Option, Some, None, Ok, Err}
use Rattle.aplc_scalar.specs.declared.function.ScalarFn.{ScalarFn}
use Rattle.aplc_scalar.specs.declared.kind.FaultKind.{FaultKind}
use Rattle.aplc_scalar.specs.Scalar.{Given, IsInRange, dyadic, monadic}
use Rattle.aplc_cprof.specs.WellFormed.{Scope}
use Rattle.aplc_cprof.specs.Machine.{State}
use Rattle.aplc_cprof.specs.Emitted.{joint}
use Rattle.aplc_cprof.proofs.Frames.{seen_left, seen_right}
use Rattle.aplc_collect.specs.Elements.{Test, Steps, ReadsWithin, GivesInRange}
use Rattle.aplc_collect.specs.ElementLaws.{some_is, not_none, value_is}
use Rattle.aplc_collect.specs.Ranges.{InGiven, monadic_given, dyadic_given}
use Rattle.aplc_collect.specs.Fused.{of_two, where_both, dyad_test, steps_of_two, of_one, where_one, mono_test, steps_of_one}

abbrev pub Function : Type 0
Function = ℤ → ℤ → Given

-- ---- Names

pub dyad_reads : (f : Function) (k : ℕ) (g h : Scope) (l r : Test) (ls rs : Steps) → ReadsWithin g l ls → ReadsWithin h r rs → ReadsWithin (joint g h) (dyad_test f l r) (steps_of_two k ls rs)
dyad_reads f k g h l r ls rs a b = record {
  same = λ tables s t seen is.
      ap (λ o. where_both f o (r tables t is)) (a.same tables s t (seen_left g h s t seen) is) ∙ ap (λ o. where_both f (l tables s is) o) (b.same tables s t (seen_right g h s t seen) is);
  same_steps = λ tables s t seen.
      ap (λ n. rs tables t + n + k) (a.same_steps tables s t (seen_left g h s t seen)) ∙ ap (λ n. n + ls tables s + k) (b.same_steps tables s t (seen_right g h s t seen));
}

pub mono_reads : (f : ℤ → Given) (k : ℕ) (g : Scope) (a : Test) (steps : Steps) → ReadsWithin g a steps → ReadsWithin g (mono_test f a) (steps_of_one k steps)
mono_reads f k g a steps r = record {
  same = λ tables s t seen is. ap (where_one f) (r.same tables s t seen is);
  same_steps = λ tables s t seen. ap (λ n. n + k) (r.same_steps tables s t seen);
}

-- ---- The parts of an element

pub record Parts (f : Function) (l r : Option Given) (z : Given) : Type 0 where
  pub left : Given
  pub right : Given
  pub left_is : l ≡ Some left
  pub right_is : r ≡ Some right
  pub whole : z ≡ of_two f left right

pub parts : (f : Function) (l r : Option Given) (z : Given) → where_both f l r ≡ Some z → Parts f l r z
parts f None r z e = absurd (not_none z e)
parts f (Some x) None z e = absurd (not_none z e)
parts f (Some x) (Some y) z e = record { left = x; right = y; left_is = refl; right_is = refl; whole = sym (some_is (of_two f x y) z e) }

pub record Part (f : ℤ → Given) (a : Option Given) (z : Given) : Type 0 where
  pub argument : Given
  pub argument_is : a ≡ Some argument
  pub whole : z ≡ of_one f argument

pub part : (f : ℤ → Given) (a : Option Given) (z : Given) → where_one f a ≡ Some z → Part f a z
part f None z e = absurd (not_none z e)
part f (Some x) z e = record { argument = x; argument_is = refl; whole = sym (some_is (of_one f x) z e) }

-- ---- Numbers

abbrev AreSame : Given → Given → Type 0
AreSame r q = r ≡ q

no_number : (k : FaultKind) (z : ℤ) → AreSame (Ok z) (Err k) → ⊥
no_number k z e = cc

in_given : (r : Given) (z : ℤ) → InGiven r → AreSame (Ok z) r → IsInRange z
in_given (Ok w) z h e = subst (λ v. IsInRange v) (sym (value_is z w e)) h
in_given (Err k) z h e = absurd (no_number k z e)

abbrev AllIn : Given → Type 0
AllIn r = (y : ℤ) → r ≡ Ok y → IsInRange y

pub dyad_numbers : (f : ScalarFn) (l r : Test) → GivesInRange l → GivesInRange r → GivesInRange (dyad_test (dyadic f) l r)
dyad_numbers f l r in_l in_r = record { within = λ tables s is z e. at_parts tables s is z (parts (dyadic f) (l tables s is) (r tables s is) (Ok z) e) }
  where
    of_parts : (z : ℤ) (a b : Given) → AllIn a → AllIn b → AreSame (Ok z) (of_two (dyadic f) a b) → IsInRange z
    of_parts z a (Err k) ha hb e = absurd (no_number k z e)
    of_parts z (Err k) (Ok y) ha hb e = absurd (no_number k z e)
    of_parts z (Ok x) (Ok y) ha hb e = in_given (dyadic f x y) z (dyadic_given f x y (ha x refl) (hb y refl)) e

    at_parts : (tables : List (List ℤ)) (s : State) (is : List ℕ) (z : ℤ) → Parts (dyadic f) (l tables s is) (r tables s is) (Ok z) → IsInRange z
    at_parts tables s is z p = of_parts z p.left p.right (λ y e. in_l.within tables s is y (p.left_is ∙ ap Some e)) (λ y e. in_r.within tables s is y (p.right_is ∙ ap Some e)) p.whole

pub mono_numbers : (f : ScalarFn) (a : Test) → GivesInRange a → GivesInRange (mono_test (monadic f) a)
mono_numbers f a in_a = record { within = λ tables s is z e. at_part tables s is z (part (monadic f) (a tables s is) (Ok z) e) }
  where
    of_part : (z : ℤ) (x : Given) → AllIn x → AreSame (Ok z) (of_one (monadic f) x) → IsInRange z
    of_part z (Err k) h e = absurd (no_number k z e)
    of_part z (Ok x) h e = in_given (monadic f x) z (monadic_given f x (h x refl)) e

    at_part : (tables : List (List ℤ)) (s : State) (is : List ℕ) (z : ℤ) → Part (monadic f) (a tables s is) (Ok z) → IsInRange z
    at_part tables s is z p = of_part z p.argument (λ y e. in_a.within tables s is y (p.argument_is ∙ ap Some e)) p.whole

-- Scalar functions of elements: what suits bits and numbers, and what the rule of one argument owes.
use Rattle.std.proofs.Common.{◌≡◌, ap, refl, ℕ, zero, suc, List, Option, Some, None, Ok, Err, Bool, true, false, ◌&&◌, arith, ℤ, pos, negsuc}
use Rattle.std.specs.Prelude.{nat_lt, unsigned_abs, ◌≢◌, if◌then◌else◌}
use Rattle.std.proofs.lemmas.Bool.Decides.{nat_tests}
use Rattle.aplc_scalar.specs.Scalar.{Given, monadic, dyadic, limited, logical, logical_right, boolean, truth, sign, is_monadic, in_range}
use Rattle.aplc_scalar.specs.declared.function.ScalarFn.{ScalarFn}
use Rattle.aplc_scalar.specs.declared.function.ScalarFn.TheVariants as f
use Rattle.aplc_scalar.specs.declared.kind.FaultKind.TheVariants as fault
use Rattle.aplc_scalar.specs.declared.kind.Kind.TheVariants as k
use Rattle.aplc_arr.specs.Arrays.{Array, at, is_numbers}
use Rattle.aplc_arr.specs.Each.{each_monadic}
use Rattle.aplc_infer.specs.declared.fact.FactKind.{FactKind}
use Rattle.aplc_infer.specs.declared.fact.FactKind.TheVariants.{Bit, Num, Char, Mixed}
use Rattle.aplc_infer.specs.declared.fact.Inferred.{Inferred}
use Rattle.aplc_infer.specs.declared.fact.Inferred.TheVariants.{Of}
use Rattle.aplc_infer.specs.declared.rule_break.RuleBreak.TheVariants as breaks
use Rattle.aplc_infer.specs.Rules.{is_bit, known, is_numeric, both_bit, scalar_kind, scalar_monadic_rule}
use Rattle.aplc_soundness.specs.Holding.{HoldsKind, HoldsLengths}
use Rattle.aplc_soundness.specs.RulesHold.{HoldsOfPrepared}
use Rattle.aplc_soundness.proofs.Held.{no, and_parts, not_rank}
use Rattle.aplc_soundness.proofs.HeldElements.{Suits, Fair, IsOfKind, holds_made, holds_needs, wants_parts, same_fact, suits_cell}

-- ---- Scalar functions on elements

-- what holds of both bits holds of a bit
pub bit_elim : (P : ℤ → Type 0) → P (pos 0) → P (pos 1) → (z : ℤ) → is_bit z ≡ true → P z
bit_elim P p q (pos zero) e = p
bit_elim P p q (pos (suc zero)) e = q
bit_elim P p q (pos (suc (suc n))) e = absurd (two_or_more n e)
  where
    two_or_more : (n : ℕ) → nat_lt (suc (suc n)) 2 ≡ true → ⊥
    two_or_more n e = grind (arith, nat_tests)
bit_elim P p q (negsuc n) e = absurd (no e)

pub truth_bit : (b : Bool) → is_bit (truth b) ≡ true
truth_bit true = refl
truth_bit false = refl

pub fair_num : (q : Given) → (q ≢ Err fault.Rank) → Fair Num q
fair_num (Ok z) h = tt
fair_num (Err e) h = λ i. h (ap Err i)

pub fair_limited : (z : ℤ) → Fair Num (limited z)
fair_limited z = by_test (in_range z)
  where
    by_test : (b : Bool) → Fair Num (if b then Ok z else Err fault.Limit)
    by_test true = tt
    by_test false = not_rank fault.Limit refl

pub fair_logical_right : (g : Bool → Bool) (b : Option Bool) → Fair Bit (logical_right g b)
fair_logical_right g None = not_rank fault.Domain refl
fair_logical_right g (Some b) = truth_bit (g b)

pub fair_logical : (g : Bool → Bool → Bool) (a b : Option Bool) → Fair Bit (logical g a b)
fair_logical g None b = not_rank fault.Domain refl
fair_logical g (Some a) b = fair_logical_right (g a) b

pub suits_bit : (a : FactKind) (z : ℤ) → Suits Bit z → Suits a z
suits_bit Bit z h = h
suits_bit Num z h = tt
suits_bit Char z h = tt
suits_bit Mixed z h = tt

pub fair_num_of_bit : (q : Given) → Fair Bit q → Fair Num q
fair_num_of_bit (Ok z) h = tt
fair_num_of_bit (Err e) h = h

-- a function of numbers that keeps bits
pub fair_kept : (a : FactKind) (h : ℤ → ℤ) (z : ℤ) → is_bit (h (pos 0)) ≡ true → is_bit (h (pos 1)) ≡ true → Suits a z → Fair a (Ok (h z))
fair_kept Bit h z p q s = bit_elim (λ y. is_bit (h y) ≡ true) p q z s
fair_kept Num h z p q s = tt
fair_kept Char h z p q s = tt
fair_kept Mixed h z p q s = tt

-- on two bits every value is a bit
pub bits_closed : (g : ScalarFn) → Fair Bit (dyadic g (pos 0) (pos 0)) → Fair Bit (dyadic g (pos 0) (pos 1)) → Fair Bit (dyadic g (pos 1) (pos 0)) → Fair Bit (dyadic g (pos 1) (pos 1)) → (x y : ℤ) → Suits Bit x → Suits Bit y → Fair Bit (dyadic g x y)
bits_closed g p q t u x y hx hy = bit_elim (λ z. Fair Bit (dyadic g z y)) (bit_elim (λ z. Fair Bit (dyadic g (pos 0) z)) p q y hy) (bit_elim (λ z. Fair Bit (dyadic g (pos 1) z)) t u y hy) x hx

-- no function gives RANK
pub fair_dyadic : (g : ScalarFn) (x y : ℤ) → Fair Num (dyadic g x y)
fair_dyadic f.Add x y = fair_limited _
fair_dyadic f.Sub x y = fair_limited _
fair_dyadic f.Mul x y = fair_limited _
fair_dyadic f.Max x y = tt
fair_dyadic f.Min x y = tt
fair_dyadic f.Residue x y = tt
fair_dyadic f.Less x y = tt
fair_dyadic f.LessEq x y = tt
fair_dyadic f.Equal x y = tt
fair_dyadic f.GreaterEq x y = tt
fair_dyadic f.Greater x y = tt
fair_dyadic f.NotEqual x y = tt
fair_dyadic f.And x y = fair_num_of_bit _ (fair_logical _ (boolean x) (boolean y))
fair_dyadic f.Or x y = fair_num_of_bit _ (fair_logical _ (boolean x) (boolean y))
fair_dyadic f.Nand x y = fair_num_of_bit _ (fair_logical _ (boolean x) (boolean y))
fair_dyadic f.Nor x y = fair_num_of_bit _ (fair_logical _ (boolean x) (boolean y))
fair_dyadic f.Not x y = not_rank fault.Domain refl

-- of functions that keep bits
abbrev pub keeps_bits : ScalarFn → Bool
keeps_bits f.Add = false
keeps_bits f.Sub = false
keeps_bits _ = true

pub keeps : (g : ScalarFn) → keeps_bits g ≡ true → (x y : ℤ) → Suits Bit x → Suits Bit y → Fair Bit (dyadic g x y)
unfolding in_range
keeps f.Add e x y p q = absurd (no e)
keeps f.Sub e x y p q = absurd (no e)
keeps f.Mul e x y p q = bits_closed f.Mul refl refl refl refl x y p q
keeps f.Max e x y p q = bits_closed f.Max refl refl refl refl x y p q
keeps f.Min e x y p q = bits_closed f.Min refl refl refl refl x y p q
keeps f.Residue e x y p q = bits_closed f.Residue refl refl refl refl x y p q
keeps f.Less e x y p q = bits_closed f.Less refl refl refl refl x y p q
keeps f.LessEq e x y p q = bits_closed f.LessEq refl refl refl refl x y p q
keeps f.Equal e x y p q = bits_closed f.Equal refl refl refl refl x y p q
keeps f.GreaterEq e x y p q = bits_closed f.GreaterEq refl refl refl refl x y p q
keeps f.Greater e x y p q = bits_closed f.Greater refl refl refl refl x y p q
keeps f.NotEqual e x y p q = bits_closed f.NotEqual refl refl refl refl x y p q
keeps f.And e x y p q = bits_closed f.And refl refl refl refl x y p q
keeps f.Or e x y p q = bits_closed f.Or refl refl refl refl x y p q
keeps f.Nand e x y p q = bits_closed f.Nand refl refl refl refl x y p q
keeps f.Nor e x y p q = bits_closed f.Nor refl refl refl refl x y p q
keeps f.Not e x y p q = not_rank fault.Domain refl

pub both_fair : (g : ScalarFn) (a b : FactKind) (x y : ℤ) → keeps_bits g ≡ true → Suits a x → Suits b y → Fair (both_bit a b) (dyadic g x y)
both_fair g Bit Bit x y e p q = keeps g e x y p q
both_fair g Bit Num x y e p q = fair_dyadic g x y
both_fair g Bit Char x y e p q = fair_dyadic g x y
both_fair g Bit Mixed x y e p q = fair_dyadic g x y
both_fair g Num b x y e p q = fair_dyadic g x y
both_fair g Char b x y e p q = fair_dyadic g x y
both_fair g Mixed b x y e p q = fair_dyadic g x y

-- a function of two numbers
pub fair_scalar : (g : ScalarFn) (a b : FactKind) (x y : ℤ) → Suits a x → Suits b y → Fair (scalar_kind g a b) (dyadic g x y)
fair_scalar f.Add a b x y p q = fair_dyadic f.Add x y
fair_scalar f.Sub a b x y p q = fair_dyadic f.Sub x y
fair_scalar f.Mul a b x y p q = both_fair f.Mul a b x y refl p q
fair_scalar f.Max a b x y p q = both_fair f.Max a b x y refl p q
fair_scalar f.Min a b x y p q = both_fair f.Min a b x y refl p q
fair_scalar f.Residue a b x y p q = both_fair f.Residue a b x y refl p q
fair_scalar f.Less a b x y p q = truth_bit _
fair_scalar f.LessEq a b x y p q = truth_bit _
fair_scalar f.Equal a b x y p q = truth_bit _
fair_scalar f.GreaterEq a b x y p q = truth_bit _
fair_scalar f.Greater a b x y p q = truth_bit _
fair_scalar f.NotEqual a b x y p q = truth_bit _
fair_scalar f.And a b x y p q = fair_logical _ (boolean x) (boolean y)
fair_scalar f.Or a b x y p q = fair_logical _ (boolean x) (boolean y)
fair_scalar f.Nand a b x y p q = fair_logical _ (boolean x) (boolean y)
fair_scalar f.Nor a b x y p q = fair_logical _ (boolean x) (boolean y)
fair_scalar f.Not a b x y p q = not_rank fault.Domain refl

-- ---- The rule

pub each_monadic_holds : (g : ScalarFn) (a c : FactKind) (xs : List (Option ℕ)) (b : Array) → IsOfKind c k.Num → HoldsLengths xs b.shape → ((is : List ℕ) → Fair c (monadic g (at b is))) → HoldsOfPrepared (Of c (Some xs)) (each_monadic g b)
each_monadic_holds g a c xs b p s h = holds_needs (Of c (Some xs)) (is_numbers b && is_monadic g) fault.Domain _ (not_rank fault.Domain refl) (holds_made c xs k.Num b.shape (λ is. monadic g (at b is)) p s h)

pub num_of_kind : (a : FactKind) → is_numeric a ≡ true → IsOfKind a k.Num
num_of_kind Bit e = refl
num_of_kind Num e = refl
num_of_kind Char e = absurd (no e)
num_of_kind Mixed e = absurd (no e)

pub scalar_monadic_holds : (g : ScalarFn) (a : FactKind) (xs : List (Option ℕ)) (b : Array) (y : Inferred) → HoldsKind a b → HoldsLengths xs b.shape → scalar_monadic_rule g a xs ≡ Ok y → HoldsOfPrepared y (each_monadic g b)
scalar_monadic_holds f.Sub a xs b y hk hs e = let w = wants_parts (is_numeric a) breaks.Kind (known Num xs) y e in same_fact _ y (each_monadic f.Sub b) w.1 (each_monadic_holds f.Sub a Num xs b refl hs (λ is. tt))
scalar_monadic_holds f.Not a xs b y hk hs e = let w = wants_parts (is_numeric a) breaks.Kind (known Bit xs) y e in same_fact _ y (each_monadic f.Not b) w.1 (each_monadic_holds f.Not a Bit xs b refl hs (λ is. fair_logical_right _ (boolean (at b is))))
scalar_monadic_holds f.Add a xs b y hk hs e = let w = wants_parts _ breaks.Kind (known a xs) y e in let p = and_parts (is_numeric a) true w.0 in same_fact _ y (each_monadic f.Add b) w.1 (each_monadic_holds f.Add a a xs b (num_of_kind a p.0) hs (λ is. fair_kept a (λ z. z) (at b is) refl refl (suits_cell a b _ hk)))
scalar_monadic_holds f.Mul a xs b y hk hs e = let w = wants_parts _ breaks.Kind (known a xs) y e in let p = and_parts (is_numeric a) true w.0 in same_fact _ y (each_monadic f.Mul b) w.1 (each_monadic_holds f.Mul a a xs b (num_of_kind a p.0) hs (λ is. fair_kept a sign (at b is) refl refl (suits_cell a b _ hk)))
scalar_monadic_holds f.Max a xs b y hk hs e = let w = wants_parts _ breaks.Kind (known a xs) y e in let p = and_parts (is_numeric a) true w.0 in same_fact _ y (each_monadic f.Max b) w.1 (each_monadic_holds f.Max a a xs b (num_of_kind a p.0) hs (λ is. fair_kept a (λ z. z) (at b is) refl refl (suits_cell a b _ hk)))
scalar_monadic_holds f.Min a xs b y hk hs e = let w = wants_parts _ breaks.Kind (known a xs) y e in let p = and_parts (is_numeric a) true w.0 in same_fact _ y (each_monadic f.Min b) w.1 (each_monadic_holds f.Min a a xs b (num_of_kind a p.0) hs (λ is. fair_kept a (λ z. z) (at b is) refl refl (suits_cell a b _ hk)))
scalar_monadic_holds f.Residue a xs b y hk hs e = let w = wants_parts _ breaks.Kind (known a xs) y e in let p = and_parts (is_numeric a) true w.0 in same_fact _ y (each_monadic f.Residue b) w.1 (each_monadic_holds f.Residue a a xs b (num_of_kind a p.0) hs (λ is. fair_kept a (λ z. pos (unsigned_abs z)) (at b is) refl refl (suits_cell a b _ hk)))
scalar_monadic_holds g a xs b y hk hs e = let w = wants_parts (is_numeric a && false) breaks.Kind (known a xs) y e in absurd (no (and_parts (is_numeric a) false w.0).1)

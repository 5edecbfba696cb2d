-- The values of tests of numbers in variables, and of arithmetic on them.
use Rattle.std.proofs.Common.{◌≡◌, ℕ, ◌*◌, ◌<◌, ◌≤◌, List, refl, ap, ◌∙◌, arith, ℤ, Bool, true, false, cond, ◌⊎◌, inl, inr}
use Rattle.std.specs.Prelude.{Option, Some, None, pos, ◌^◌, ◌+ℤ◌, ◌-ℤ◌, ◌*ℤ◌, nat_lt}
use Rattle.std.specs.Int.RustNames.{int_lt, unsigned_abs}
use Rattle.std.proofs.lemmas.Bool.Decides.{nat_tests}
use Rattle.std.proofs.lemmas.Int.{unsigned_abs-mul}
use Rattle.std.proofs.lemmas.Nat.{mul-le}
use Rattle.aplc_scalar.specs.declared.function.ScalarFn.{ScalarFn}
use Rattle.aplc_scalar.specs.declared.function.ScalarFn.TheVariants as f
use Rattle.aplc_scalar.specs.Scalar.{in_range, both, truth, negated, int_eq, boolean, logical, dyadic, is_logical}
use Rattle.aplc_cprof.specs.declared.syntax.Int.{Int}
use Rattle.aplc_cprof.specs.declared.syntax.Op.TheVariants as op
use Rattle.aplc_cprof.specs.declared.syntax.Checked.{Checked}
use Rattle.aplc_cprof.specs.declared.syntax.Checked.TheVariants as checked
use Rattle.aplc_cprof.specs.declared.syntax.CExpr.{CExpr}
use Rattle.aplc_cprof.specs.declared.syntax.CExpr.TheVariants as expr
use Rattle.aplc_cprof.specs.Machine.{State, Is, read_int, apply, exact, ranged, value}
use Rattle.aplc_cprof.specs.Emitted.{on_values}
use Rattle.aplc_cprof.proofs.Values.{value_Var, value_Lit, ranged_in}
use Rattle.aplc_cprof.proofs.Counting.{bin_value, on_values_value, with_literal_value}
use Rattle.aplc_collect.specs.Scalars.{within, both_within, small, is_bit, both_bits, of_bits, below_zero, other_sign}
use Rattle.aplc_collect.proofs.Remainders.{moved}

-- ---- Both, and either

module _ (tables : List (List ℤ)) (s : State) where
  pub and_value : (a b : CExpr) (p q : Bool) → value a tables s ≡ Is (truth p) → value b tables s ≡ Is (truth q) → value (expr.Bin op.And a b) tables s ≡ Is (truth (both p q))
  and_value a b p q h k = bin_value tables s op.And a b (truth p) (truth q) h k ∙ decided p q
    where
      decided : (p q : Bool) → apply op.And (Is (truth p)) (Is (truth q)) ≡ Is (truth (both p q))
      decided true true = refl
      decided true false = refl
      decided false q = refl

  or_value : (a b : CExpr) (p q : Bool) → value a tables s ≡ Is (truth p) → value b tables s ≡ Is (truth q) → value (expr.Bin op.Or a b) tables s ≡ Is (truth (negated (both (negated p) (negated q))))
  or_value a b p q h k = bin_value tables s op.Or a b (truth p) (truth q) h k ∙ decided p q
    where
      decided : (p q : Bool) → apply op.Or (Is (truth p)) (Is (truth q)) ≡ Is (truth (negated (both (negated p) (negated q))))
      decided false true = refl
      decided false false = refl
      decided true q = refl

pub both_left : (p q : Bool) → both p q ≡ true → p ≡ true
both_left true q h = refl
both_left false q h = h

pub both_right : (p q : Bool) → both p q ≡ true → q ≡ true
both_right true q h = h
both_right false q h = absurd (no h)
  where
    no : false ≡ true → ⊥
    no e = cc

-- ---- Small numbers

abbrev pub is_within : ℕ → ℤ → Bool
is_within B a = both (int_lt a (pos B)) (int_lt (pos 0 -ℤ pos B) a)

add_fits : (a b : ℤ) → int_lt a (pos (2 ^ 62)) ≡ true → int_lt (pos 0 -ℤ pos (2 ^ 62)) a ≡ true → int_lt b (pos (2 ^ 62)) ≡ true → int_lt (pos 0 -ℤ pos (2 ^ 62)) b ≡ true → in_range (a +ℤ b) ≡ true
unfolding in_range
add_fits a b h i j k = grind (arith, nat_tests)

sub_fits : (a b : ℤ) → int_lt a (pos (2 ^ 62)) ≡ true → int_lt (pos 0 -ℤ pos (2 ^ 62)) a ≡ true → int_lt b (pos (2 ^ 62)) ≡ true → int_lt (pos 0 -ℤ pos (2 ^ 62)) b ≡ true → in_range (a -ℤ b) ≡ true
unfolding in_range
sub_fits a b h i j k = grind (arith, nat_tests)

magnitude : (a : ℤ) → int_lt a (pos (2 ^ 31)) ≡ true → int_lt (pos 0 -ℤ pos (2 ^ 31)) a ≡ true → unsigned_abs a ≤ 2 ^ 31
magnitude a h i = grind (arith, nat_tests)

mul_fits : (a b : ℤ) → int_lt a (pos (2 ^ 31)) ≡ true → int_lt (pos 0 -ℤ pos (2 ^ 31)) a ≡ true → int_lt b (pos (2 ^ 31)) ≡ true → int_lt (pos 0 -ℤ pos (2 ^ 31)) b ≡ true → in_range (a *ℤ b) ≡ true
unfolding in_range
mul_fits a b h i j k =
    let le : unsigned_abs a * unsigned_abs b ≤ 2 ^ 31 * 2 ^ 31 = mul-le (unsigned_abs a) (unsigned_abs b) (2 ^ 31) (2 ^ 31) (magnitude a h i) (magnitude b j k) in
    let e = unsigned_abs-mul a b in
    let lt : unsigned_abs (a *ℤ b) < 2 ^ 63 = omega (arith, le, e) in
    below (unsigned_abs (a *ℤ b)) lt
  where
    below : (n : ℕ) → n < 2 ^ 63 → nat_lt n (2 ^ 63) ≡ true
    below n lt = grind (arith, nat_tests)

-- arithmetic on small numbers is in range
pub small_fits : (o : Checked) (a b : ℤ) → is_within (small o) a ≡ true → is_within (small o) b ≡ true → in_range (exact o a b) ≡ true
small_fits checked.Add a b h k = let l = pos 0 -ℤ pos (2 ^ 62) in let u = pos (2 ^ 62) in add_fits a b (both_left (int_lt a u) (int_lt l a) h) (both_right (int_lt a u) (int_lt l a) h) (both_left (int_lt b u) (int_lt l b) k) (both_right (int_lt b u) (int_lt l b) k)
small_fits checked.Sub a b h k = let l = pos 0 -ℤ pos (2 ^ 62) in let u = pos (2 ^ 62) in sub_fits a b (both_left (int_lt a u) (int_lt l a) h) (both_right (int_lt a u) (int_lt l a) h) (both_left (int_lt b u) (int_lt l b) k) (both_right (int_lt b u) (int_lt l b) k)
small_fits checked.Mul a b h k = let l = pos 0 -ℤ pos (2 ^ 31) in let u = pos (2 ^ 31) in mul_fits a b (both_left (int_lt a u) (int_lt l a) h) (both_right (int_lt a u) (int_lt l a) h) (both_left (int_lt b u) (int_lt l b) k) (both_right (int_lt b u) (int_lt l b) k)

module _ (tables : List (List ℤ)) (s : State) where
  -- a literal below 0
  negative_value : (o : Checked) → value (expr.Bin op.Sub (expr.Lit (pos 0)) (expr.Lit (pos (small o)))) tables s ≡ Is (pos 0 -ℤ pos (small o))
  unfolding in_range
  negative_value o = bin_value tables s op.Sub (expr.Lit (pos 0)) (expr.Lit (pos (small o))) (pos 0) (pos (small o)) (value_Lit (pos 0) tables s) (value_Lit (pos (small o)) tables s) ∙ ranged_in (pos 0 -ℤ pos (small o)) (fits o)
    where
      fits : (o : Checked) → in_range (pos 0 -ℤ pos (small o)) ≡ true
      fits checked.Add = refl
      fits checked.Sub = refl
      fits checked.Mul = refl

  within_value : (o : Checked) (x : Int) (a : ℤ) → read_int x s ≡ Is a → value (within (small o) x) tables s ≡ Is (truth (is_within (small o) a))
  within_value o x a h =
      and_value tables s (expr.Bin op.Less (expr.Var x) (expr.Lit (pos (small o)))) (expr.Bin op.Greater (expr.Var x) (expr.Bin op.Sub (expr.Lit (pos 0)) (expr.Lit (pos (small o)))))
      (int_lt a (pos (small o))) (int_lt (pos 0 -ℤ pos (small o)) a)
      (with_literal_value tables s op.Less x (pos (small o)) a h)
      (bin_value tables s op.Greater (expr.Var x) (expr.Bin op.Sub (expr.Lit (pos 0)) (expr.Lit (pos (small o)))) a (pos 0 -ℤ pos (small o)) (value_Var x tables s ∙ h) (negative_value o))

  pub both_within_value : (o : Checked) (x y : Int) (a b : ℤ) → read_int x s ≡ Is a → read_int y s ≡ Is b → value (both_within (small o) x y) tables s ≡ Is (truth (both (is_within (small o) a) (is_within (small o) b)))
  both_within_value o x y a b h k = and_value tables s (within (small o) x) (within (small o) y) (is_within (small o) a) (is_within (small o) b) (within_value o x a h) (within_value o y b k)

-- ---- Truth values

abbrev pub bit_test : ℤ → Bool
bit_test a = negated (both (negated (int_eq a (pos 0))) (negated (int_eq a (pos 1))))

equal_is : (a b : ℤ) → int_eq a b ≡ true → a ≡ b
equal_is a b h = grind (arith, nat_tests)

pub record Bit (a : ℤ) : Type 0 where
  pub bit : Bool
  pub is : a ≡ truth bit
  pub boolean_is : boolean a ≡ Some bit
  pub tested : bit_test a ≡ true

pub record NoBit (a : ℤ) : Type 0 where
  pub boolean_is : boolean a ≡ None
  pub tested : bit_test a ≡ false

abbrev chosen_bit : Bool → Bool → Option Bool
chosen_bit p q = cond p (Some false) (cond q (Some true) None)

abbrev either : Bool → Bool → Bool
either p q = negated (both (negated p) (negated q))

pub bit_cases : (a : ℤ) → Bit a ⊎ NoBit a
bit_cases a = by_tests (int_eq a (pos 0)) (int_eq a (pos 1)) refl refl
  where
    by_tests : (p q : Bool) → int_eq a (pos 0) ≡ p → int_eq a (pos 1) ≡ q → Bit a ⊎ NoBit a
    by_tests true q h k = inl record { bit = false; is = equal_is a (pos 0) h; boolean_is = ap (λ b. chosen_bit b (int_eq a (pos 1))) h; tested = ap (λ b. either b (int_eq a (pos 1))) h }
    by_tests false true h k = inl record { bit = true; is = equal_is a (pos 1) k; boolean_is = ap (λ b. chosen_bit b (int_eq a (pos 1))) h ∙ ap (chosen_bit false) k; tested = ap (λ b. either b (int_eq a (pos 1))) h ∙ ap (either false) k }
    by_tests false false h k = inr record { boolean_is = ap (λ b. chosen_bit b (int_eq a (pos 1))) h ∙ ap (chosen_bit false) k; tested = ap (λ b. either b (int_eq a (pos 1))) h ∙ ap (either false) k }

-- the function of truth values
abbrev pub of_truths : ScalarFn → Bool → Bool → Bool
of_truths f.And p q = both p q
of_truths f.Or p q = negated (both (negated p) (negated q))
of_truths f.Nand p q = negated (both p q)
of_truths _ p q = both (negated p) (negated q)

pub logical_is : (g : ScalarFn) (x y : ℤ) → is_logical g ≡ true → dyadic g x y ≡ logical (of_truths g) (boolean x) (boolean y)
logical_is f.And x y h = refl
logical_is f.Or x y h = refl
logical_is f.Nand x y h = refl
logical_is f.Nor x y h = refl
logical_is _ x y h = absurd (no h)
  where
    no : false ≡ true → ⊥
    no e = cc

abbrev sum_of : Bool → Bool → ℤ
sum_of true true = pos 2
sum_of true false = pos 1
sum_of false true = pos 1
sum_of false false = pos 0

module _ (tables : List (List ℤ)) (s : State) where
  pub is_bit_value : (x : Int) (a : ℤ) → read_int x s ≡ Is a → value (is_bit x) tables s ≡ Is (truth (bit_test a))
  is_bit_value x a h =
      or_value tables s (expr.Bin op.Equal (expr.Var x) (expr.Lit (pos 0))) (expr.Bin op.Equal (expr.Var x) (expr.Lit (pos 1))) (int_eq a (pos 0)) (int_eq a (pos 1))
      (with_literal_value tables s op.Equal x (pos 0) a h) (with_literal_value tables s op.Equal x (pos 1) a h)

  pub both_bits_value : (x y : Int) (a b : ℤ) → read_int x s ≡ Is a → read_int y s ≡ Is b → value (both_bits x y) tables s ≡ Is (truth (both (bit_test a) (bit_test b)))
  both_bits_value x y a b h k = and_value tables s (is_bit x) (is_bit y) (bit_test a) (bit_test b) (is_bit_value x a h) (is_bit_value y b k)

  product_value : (x y : Int) (p q : Bool) → read_int x s ≡ Is (truth p) → read_int y s ≡ Is (truth q) → value (on_values op.Mul x y) tables s ≡ Is (truth (both p q))
  unfolding ranged in_range
  product_value x y p q h k = on_values_value tables s op.Mul x y (truth p) (truth q) h k ∙ table p q
    where
      table : (p q : Bool) → apply op.Mul (Is (truth p)) (Is (truth q)) ≡ Is (truth (both p q))
      table true true = refl
      table true false = refl
      table false true = refl
      table false false = refl

  sum_value : (x y : Int) (p q : Bool) → read_int x s ≡ Is (truth p) → read_int y s ≡ Is (truth q) → value (on_values op.Add x y) tables s ≡ Is (sum_of p q)
  unfolding ranged in_range
  sum_value x y p q h k = on_values_value tables s op.Add x y (truth p) (truth q) h k ∙ table p q
    where
      table : (p q : Bool) → apply op.Add (Is (truth p)) (Is (truth q)) ≡ Is (sum_of p q)
      table true true = refl
      table true false = refl
      table false true = refl
      table false false = refl

  pub of_bits_value : (g : ScalarFn) (x y : Int) (p q : Bool) → is_logical g ≡ true → read_int x s ≡ Is (truth p) → read_int y s ≡ Is (truth q) → value (of_bits g x y) tables s ≡ Is (truth (of_truths g p q))
  of_bits_value f.And x y p q l h k = product_value x y p q h k
  of_bits_value f.Nand x y p q l h k =
      bin_value tables s op.Equal (on_values op.Mul x y) (expr.Lit (pos 0)) (truth (both p q)) (pos 0) (product_value x y p q h k) (value_Lit (pos 0) tables s) ∙ table p q
    where
      table : (p q : Bool) → apply op.Equal (Is (truth (both p q))) (Is (pos 0)) ≡ Is (truth (negated (both p q)))
      table true true = refl
      table true false = refl
      table false true = refl
      table false false = refl
  of_bits_value f.Or x y p q l h k =
      bin_value tables s op.NotEqual (on_values op.Add x y) (expr.Lit (pos 0)) (sum_of p q) (pos 0) (sum_value x y p q h k) (value_Lit (pos 0) tables s) ∙ table p q
    where
      table : (p q : Bool) → apply op.NotEqual (Is (sum_of p q)) (Is (pos 0)) ≡ Is (truth (negated (both (negated p) (negated q))))
      table true true = refl
      table true false = refl
      table false true = refl
      table false false = refl
  of_bits_value _ x y p q l h k =
      bin_value tables s op.Equal (on_values op.Add x y) (expr.Lit (pos 0)) (sum_of p q) (pos 0) (sum_value x y p q h k) (value_Lit (pos 0) tables s) ∙ table p q
    where
      table : (p q : Bool) → apply op.Equal (Is (sum_of p q)) (Is (pos 0)) ≡ Is (truth (both (negated p) (negated q)))
      table true true = refl
      table true false = refl
      table false true = refl
      table false false = refl

  -- ---- Signs

  pub below_zero_value : (x : Int) (a : ℤ) → read_int x s ≡ Is a → value (below_zero x) tables s ≡ Is (truth (int_lt a (pos 0)))
  below_zero_value x a h = with_literal_value tables s op.Less x (pos 0) a h

  pub other_sign_value : (v divisor : Int) (t x : ℤ) → read_int v s ≡ Is t → read_int divisor s ≡ Is x → value (other_sign v divisor) tables s ≡ Is (truth (moved t x))
  other_sign_value v divisor t x h k =
      and_value tables s (expr.Bin op.NotEqual (expr.Var v) (expr.Lit (pos 0))) (expr.Bin op.NotEqual (below_zero v) (below_zero divisor)) (negated (int_eq t (pos 0))) (negated (int_eq (truth (int_lt t (pos 0))) (truth (int_lt x (pos 0)))))
      (with_literal_value tables s op.NotEqual v (pos 0) t h)
      (bin_value tables s op.NotEqual (below_zero v) (below_zero divisor) (truth (int_lt t (pos 0))) (truth (int_lt x (pos 0))) (below_zero_value v t h) (below_zero_value divisor x k))

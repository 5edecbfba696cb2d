-- What the tests of shapes and the product of lengths come to.
-- It must not know what hangs on them.
use Rattle.std.proofs.Common.{◌≡◌, ℕ, zero, suc, ◌+◌, ◌*◌, ◌<◌, ◌≤◌, List, [], ◌∷◌, length, refl, sym, ap, ◌∙◌, arith, ℤ, Bool, true, false}
use Rattle.std.specs.Prelude.{pos, ◌^◌, ◌*ℤ◌, nat_eq, ◌&&◌}
use Rattle.std.proofs.lemmas.Bool.Decides.{nat_tests}
use Rattle.std.proofs.lemmas.Int.{ints}
use Rattle.aplc_scalar.specs.Scalar.{truth, negated, int_eq}
use Rattle.aplc_arr.specs.Arrays.{product, shape_eq}
use Rattle.aplc_arr.specs.Each.{common_of, common_shape}
use Rattle.aplc_cprof.specs.declared.syntax.Int.{Int}
use Rattle.aplc_cprof.specs.declared.syntax.Op.TheVariants as op
use Rattle.aplc_cprof.specs.declared.syntax.CExpr.TheVariants as expr
use Rattle.aplc_cprof.specs.Machine.{State, Is, apply, value, ranged, truth_of}
use Rattle.aplc_cprof.specs.Frames.{Hold}
use Rattle.aplc_cprof.specs.Emitted.{on_values}
use Rattle.aplc_cprof.proofs.Values.{value_Var, value_Lit, ranged_below}
use Rattle.aplc_cprof.proofs.Counting.{bin_value, on_values_value, with_literal_value}
use Rattle.aplc_step.proofs.Wholes.{AllSome}
use Rattle.aplc_stage.specs.Pieces.{product_expr, differ, all_one}

-- ---- The product

-- where no length is 0, no product on the way is greater than the whole
pub product_value : (tables : List (List ℤ)) (s : State) (xs : List Int) (ns : List ℕ) → Hold s xs ns → AllSome ns → product ns < 2 ^ 31 → value (product_expr xs) tables s ≡ Is (pos (product ns))
product_value tables s [] [] h some lt = value_Lit (pos 1) tables s
product_value tables s [] (n ∷ ns) h some lt = absurd h
product_value tables s (x ∷ xs) [] h some lt = absurd h
product_value tables s (x ∷ xs) (n ∷ ns) h some lt =
    bin_value tables s op.Mul (expr.Var x) (product_expr xs) (pos n) (pos (product ns)) (value_Var x tables s ∙ h.0) (product_value tables s xs ns h.1 some.1 (rest n (product ns) some.0 lt))
    ∙ ap ranged (times n (product ns))
    ∙ ranged_below (n * product ns) (below (n * product ns) lt)
  where
    rest : (n p : ℕ) → 1 ≤ n → n * p < 2 ^ 31 → p < 2 ^ 31
    rest zero p le lt = absurd (omega (arith, le))
    rest (suc n) p le lt = omega (arith, lt)

    times : (n p : ℕ) → pos n *ℤ pos p ≡ pos (n * p)
    times n p = omega (arith, ints)

    below : (k : ℕ) → k < 2 ^ 31 → k < 2 ^ 63
    below k lt = omega (arith, lt)

-- ---- Two shapes

same_test : (m n : ℕ) → int_eq (pos m) (pos n) ≡ nat_eq m n
same_test m n = grind (arith, nat_tests)

-- a truth value is its own truth value
truth_again : (b : Bool) → truth_of (Is (truth b)) ≡ Is (truth b)
truth_again true = refl
truth_again false = refl

or_truth : (a b : Bool) → apply op.Or (Is (truth (negated a))) (Is (truth (negated b))) ≡ Is (truth (negated (a && b)))
or_truth true b = truth_again (negated b)
or_truth false b = refl

and_truth : (a b : Bool) → apply op.And (Is (truth a)) (Is (truth b)) ≡ Is (truth (a && b))
and_truth true b = truth_again b
and_truth false b = refl

-- it is 1 where the shapes differ
pub differ_value : (tables : List (List ℤ)) (s : State) (xs ys : List Int) (ms ns : List ℕ) → Hold s xs ms → Hold s ys ns → length xs ≡ length ys → value (differ xs ys) tables s ≡ Is (truth (negated (shape_eq ms ns)))
differ_value tables s [] [] [] [] h k e = value_Lit (pos 0) tables s
differ_value tables s [] [] [] (n ∷ ns) h k e = absurd k
differ_value tables s [] [] (m ∷ ms) ns h k e = absurd h
differ_value tables s [] (y ∷ ys) ms ns h k e = absurd (omega (arith, e))
differ_value tables s (x ∷ xs) [] ms ns h k e = absurd (omega (arith, e))
differ_value tables s (x ∷ xs) (y ∷ ys) [] ns h k e = absurd h
differ_value tables s (x ∷ xs) (y ∷ ys) (m ∷ ms) [] h k e = absurd k
differ_value tables s (x ∷ xs) (y ∷ ys) (m ∷ ms) (n ∷ ns) h k e =
    bin_value tables s op.Or (on_values op.NotEqual x y) (differ xs ys) (truth (negated (nat_eq m n))) (truth (negated (shape_eq ms ns)))
    (on_values_value tables s op.NotEqual x y (pos m) (pos n) h.0 k.0 ∙ ap (λ b. Is (truth (negated b))) (same_test m n))
    (differ_value tables s xs ys ms ns h.1 k.1 (omega (arith, e)))
    ∙ or_truth (nat_eq m n) (shape_eq ms ns)

not_one : (k : ℕ) → nat_eq (suc (suc k)) 1 ≡ false
not_one k = grind (arith, nat_tests)

one_factor : (n p : ℕ) → nat_eq (n * p) 1 ≡ (nat_eq n 1 && nat_eq p 1)
one_factor zero p = let e : 0 * p ≡ 0 = omega arith in ap (λ k. nat_eq k 1) e
one_factor (suc zero) p = let e : suc zero * p ≡ p = omega arith in ap (λ k. nat_eq k 1) e
one_factor (suc (suc n)) zero = let e : suc (suc n) * 0 ≡ 0 = omega arith in ap (λ k. nat_eq k 1) e ∙ sym (ap (λ b. b && nat_eq 0 1) (not_one n))
one_factor (suc (suc n)) (suc p) =
    let e : suc (suc n) * suc p ≡ suc (suc (n + p + (n * p + p))) = omega arith in
    ap (λ k. nat_eq k 1) e ∙ not_one (n + p + (n * p + p)) ∙ sym (ap (λ b. b && nat_eq (suc p) 1) (not_one n))

-- it is 1 where there is one element
pub all_one_value : (tables : List (List ℤ)) (s : State) (xs : List Int) (ns : List ℕ) → Hold s xs ns → value (all_one xs) tables s ≡ Is (truth (nat_eq (product ns) 1))
all_one_value tables s [] [] h = value_Lit (pos 1) tables s
all_one_value tables s [] (n ∷ ns) h = absurd h
all_one_value tables s (x ∷ xs) [] h = absurd h
all_one_value tables s (x ∷ xs) (n ∷ ns) h =
    bin_value tables s op.And (expr.Bin op.Equal (expr.Var x) (expr.Lit (pos 1))) (all_one xs) (truth (nat_eq n 1)) (truth (nat_eq (product ns) 1))
    (with_literal_value tables s op.Equal x (pos 1) (pos n) h.0 ∙ ap (λ b. Is (truth b)) (same_test n 1))
    (all_one_value tables s xs ns h.1)
    ∙ and_truth (nat_eq n 1) (nat_eq (product ns) 1)
    ∙ ap (λ b. Is (truth b)) (sym (one_factor n (product ns)))

-- ---- The shape of both

clash : true ≡ false → ⊥
clash e = cc

pub shapes_same : (ms ns : List ℕ) → shape_eq ms ns ≡ true → ms ≡ ns
shapes_same [] [] e = refl
shapes_same [] (n ∷ ns) e = absurd (clash (sym e))
shapes_same (m ∷ ms) [] e = absurd (clash (sym e))
shapes_same (m ∷ ms) (n ∷ ns) e = by_test (nat_eq m n) refl e (shapes_same ms ns)
  where
    by_test : (b : Bool) → nat_eq m n ≡ b → (b && shape_eq ms ns) ≡ true → (shape_eq ms ns ≡ true → ms ≡ ns) → (m ∷ ms) ≡ (n ∷ ns)
    by_test true here rest same = let first : m ≡ n = grind (arith, nat_tests) in ap (λ k. k ∷ ms) first ∙ ap (λ l. n ∷ l) (same rest)
    by_test false here rest same = absurd (clash (sym rest))

pub shape_self : (ns : List ℕ) → shape_eq ns ns ≡ true
shape_self [] = refl
shape_self (n ∷ ns) = let here : nat_eq n n ≡ true = grind (arith, nat_tests) in ap (λ b. b && shape_eq ns ns) here ∙ shape_self ns

pub shapes_other : (ms ns : List ℕ) → shape_eq ms ns ≡ false → ms ≡ ns → ⊥
shapes_other ms ns e same = clash (sym (shape_self ms) ∙ ap (shape_eq ms) same ∙ e)

pub common_is : (ms ns : List ℕ) (same left right : Bool) → length ms ≡ length ns → shape_eq ms ns ≡ same → nat_eq (product ms) 1 ≡ left → nat_eq (product ns) 1 ≡ right → common_shape ms ns ≡ common_of same left right ms ns
common_is [] [] same left right many e f g = ap (λ b. common_of b left right [] []) e
common_is [] (n ∷ ns) same left right many e f g = absurd (omega (arith, many))
common_is (m ∷ ms) [] same left right many e f g = absurd (omega (arith, many))
common_is (m ∷ ms) (n ∷ ns) same left right many e f g =
    ap (λ b. common_of b (nat_eq (product (m ∷ ms)) 1) (nat_eq (product (n ∷ ns)) 1) (m ∷ ms) (n ∷ ns)) e
    ∙ ap (λ b. common_of same b (nat_eq (product (n ∷ ns)) 1) (m ∷ ms) (n ∷ ns)) f
    ∙ ap (λ b. common_of same left b (m ∷ ms) (n ∷ ns)) g

pub one_element : (ns : List ℕ) → nat_eq (product ns) 1 ≡ true → product ns ≡ 1
one_element ns e = grind (arith, nat_tests)

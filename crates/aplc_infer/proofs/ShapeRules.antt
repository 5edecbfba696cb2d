-- The rules of shape, ravel, the index generator, reversal, rotation, transposition and reshape rise with their
-- arguments, and give nothing mixed.
use Rattle.std.proofs.Common.{◌≡◌, ◌∙◌, ap, refl, subst, ℕ, ◌*◌, List, [], ◌∷◌, length, Option, Some, None, true, false}
use Rattle.std.specs.Prelude.{ℤ, nat_eq, nat_le}
use mathlib.Core.List.{reverse}
use Rattle.aplc_syntax.specs.declared.tree.Axis.{Axis}
use Rattle.aplc_arr.specs.Arrays.{rank_limit}
use Rattle.aplc_names.specs.Primitives.{axis_in}
use Rattle.aplc_infer.specs.declared.fact.FactKind.{FactKind}
use Rattle.aplc_infer.specs.declared.fact.FactKind.TheVariants.{Num}
use Rattle.aplc_infer.specs.declared.rule_break.RuleBreak.TheVariants as breaks
use Rattle.aplc_infer.specs.Facts.{kind_below, length_below, lengths_below, is_mixed_kind}
use Rattle.aplc_infer.specs.Rules.{Literal, Ruled, known, wants, wants_axis, is_numeric, within_limit, times, product_of, limited, shape_rule, ravel_rule, iota_length, iota_rule, reverse_rule, rotate_rule, transpose_rule, literal_length, lengths_given, count_in, reshape_to, reshape_rule}
use Rattle.aplc_infer.specs.Orders.{below_result, clear_result, IsRising1, IsRising, IsClearing1, IsClearing}
use Rattle.aplc_infer.proofs.Trials.{plain_kind, equal_of}
use Rattle.aplc_infer.proofs.Order.{length_refl, lengths_refl, lengths_same}
use Rattle.aplc_infer.proofs.Rises.{known_rises, wants_same, axis_rises, known_clear, wants_clear, axis_clear}
use Rattle.aplc_infer.proofs.RuleTools.{numbers_rise, rank_rises, axis_same, head_rises, tail_rises, one_rises, same_rises, reversed_rises}

-- ---- Shape and ravel

pub shape_rises : IsRising1 shape_rule shape_rule
shape_rises a b xs ys p h =
    let x : List (Option ℕ) = within_limit (length xs) ∷ [] in
    let y : List (Option ℕ) = within_limit (length ys) ∷ [] in
    known_rises Num Num x y refl (same_rises x y (ap (λ n. within_limit n ∷ []) (lengths_same xs ys h)))

pub shape_clears : IsClearing1 shape_rule
shape_clears a xs p = refl

times_rises : (x x' y y' : Option ℕ) → length_below x x' ≡ true → length_below y y' ≡ true → length_below (times x y) (times x' y') ≡ true
times_rises x None y y' p q = refl
times_rises x (Some m) y None p q = refl
times_rises None (Some m) y (Some n) p q = cc
times_rises (Some i) (Some m) None (Some n) p q = cc
times_rises (Some i) (Some m) (Some j) (Some n) p q =
    let e : i * j ≡ m * n = ap (λ k. k * j) (equal_of i m p) ∙ ap (λ k. m * k) (equal_of j n q) in
    subst (λ k. length_below (Some (i * j)) (Some k) ≡ true) e (length_refl (Some (i * j)))

product_rises : (xs ys : List (Option ℕ)) → lengths_below xs ys ≡ true → length_below (product_of xs) (product_of ys) ≡ true
product_rises [] [] h = refl
product_rises [] (y ∷ ys) h = cc
product_rises (x ∷ xs) [] h = cc
product_rises (x ∷ xs) (y ∷ ys) h = times_rises x y (product_of xs) (product_of ys) (head_rises x y xs ys h) (product_rises xs ys (tail_rises x y xs ys h))

limited_rises : (x y : Option ℕ) → length_below x y ≡ true → length_below (limited x) (limited y) ≡ true
limited_rises x None h = refl
limited_rises None (Some n) h = cc
limited_rises (Some m) (Some n) h = subst (λ k. length_below (limited (Some m)) (limited (Some k)) ≡ true) (equal_of m n h) (length_refl (limited (Some m)))

pub ravel_rises : IsRising1 ravel_rule ravel_rule
ravel_rises a b xs ys p h =
    let x : Option ℕ = limited (product_of xs) in
    let y : Option ℕ = limited (product_of ys) in
    known_rises a b (x ∷ []) (y ∷ []) (plain_kind a b p) (one_rises x y (limited_rises (product_of xs) (product_of ys) (product_rises xs ys h)))

pub ravel_clears : IsClearing1 ravel_rule
ravel_clears a xs p = known_clear a (limited (product_of xs) ∷ []) p

-- ---- The index generator

pub iota_rises : (lit : Literal) → IsRising1 (iota_rule lit) (iota_rule lit)
iota_rises lit a b xs ys p h =
    let r : Ruled = known Num (iota_length lit ∷ []) in
    numbers_rise a b (wants (nat_le (length xs) 1) breaks.Rank r) (wants (nat_le (length ys) 1) breaks.Rank r) p
    (rank_rises (λ n. nat_le n 1) xs ys r r h (lengths_refl (iota_length lit ∷ [])))

pub iota_clears : (lit : Literal) → IsClearing1 (iota_rule lit)
iota_clears lit a xs p =
    let r : Ruled = known Num (iota_length lit ∷ []) in
    wants_clear (is_numeric a) breaks.Kind (wants (nat_le (length xs) 1) breaks.Rank r) (wants_clear (nat_le (length xs) 1) breaks.Rank r refl)

-- ---- Reversal and rotation, transposition

pub reverse_rises : (o : ℤ) (x : Axis) → IsRising1 (reverse_rule o x) (reverse_rule o x)
reverse_rises o x a b xs ys p h =
    axis_rises (axis_in o x (length xs)) (axis_in o x (length ys)) (λ i. known a xs) (λ i. known b ys) (axis_same (axis_in o x) xs ys h)
    (λ i. known_rises a b xs ys (plain_kind a b p) h)

pub reverse_clears : (o : ℤ) (x : Axis) → IsClearing1 (reverse_rule o x)
reverse_clears o x a xs p = axis_clear (axis_in o x (length xs)) (λ i. known a xs) (λ i. known_clear a xs p)

pub rotate_rises : (o : ℤ) (x : Axis) → IsRising (rotate_rule o x)
rotate_rises o x a a' xs xs' b b' ys ys' p h q k =
    let r : Ruled = wants_axis (axis_in o x (length ys)) (λ i. known b ys) in
    let s : Ruled = wants_axis (axis_in o x (length ys')) (λ i. known b' ys') in
    numbers_rise a a' (wants (nat_eq (length xs) 0) breaks.Rank r) (wants (nat_eq (length xs') 0) breaks.Rank s) p
    (rank_rises (λ n. nat_eq n 0) xs xs' r s h
    (axis_rises (axis_in o x (length ys)) (axis_in o x (length ys')) (λ i. known b ys) (λ i. known b' ys') (axis_same (axis_in o x) ys ys' k)
    (λ i. known_rises b b' ys ys' (plain_kind b b' q) k)))

pub rotate_clears : (o : ℤ) (x : Axis) → IsClearing (rotate_rule o x)
rotate_clears o x a xs b ys p q =
    let r : Ruled = wants_axis (axis_in o x (length ys)) (λ i. known b ys) in
    wants_clear (is_numeric a) breaks.Kind (wants (nat_eq (length xs) 0) breaks.Rank r)
    (wants_clear (nat_eq (length xs) 0) breaks.Rank r
    (axis_clear (axis_in o x (length ys)) (λ i. known b ys) (λ i. known_clear b ys q)))

pub transpose_rises : IsRising1 transpose_rule transpose_rule
transpose_rises a b xs ys p h = known_rises a b (reverse xs) (reverse ys) (plain_kind a b p) (reversed_rises xs ys h)

pub transpose_clears : IsClearing1 transpose_rule
transpose_clears a xs p = known_clear a (reverse xs) p

-- ---- Reshape

count_rises : (xs ys : List (Option ℕ)) → lengths_below xs ys ≡ true → length_below (count_in xs) (count_in ys) ≡ true
count_rises [] [] h = refl
count_rises [] (y ∷ ys) h = cc
count_rises (x ∷ xs) [] h = cc
count_rises (x ∷ xs) (y ∷ ys) h = head_rises x y xs ys h

reshape_to_rises : (lit : Literal) (a b : FactKind) (x y : Option ℕ) → kind_below a b ≡ true → length_below x y ≡ true → below_result (reshape_to lit a x) (reshape_to lit b y) ≡ true
reshape_to_rises lit a b x None p h = refl
reshape_to_rises lit a b None (Some n) p h = cc
reshape_to_rises lit a b (Some m) (Some n) p h =
    let zs : List (Option ℕ) = lengths_given literal_length lit m in
    subst (λ k. below_result (reshape_to lit a (Some m)) (reshape_to lit b (Some k)) ≡ true) (equal_of m n h)
    (wants_same (nat_le m rank_limit) (nat_le m rank_limit) breaks.Rank (known a zs) (known b zs) refl
    (λ c. known_rises a b zs zs p (lengths_refl zs)))

pub reshape_rises : (lit : Literal) → IsRising (reshape_rule lit)
reshape_rises lit a a' xs xs' b b' ys ys' p h q k =
    let r : Ruled = reshape_to lit b (count_in xs) in
    let s : Ruled = reshape_to lit b' (count_in xs') in
    numbers_rise a a' (wants (nat_le (length xs) 1) breaks.Rank r) (wants (nat_le (length xs') 1) breaks.Rank s) p
    (rank_rises (λ n. nat_le n 1) xs xs' r s h
    (reshape_to_rises lit b b' (count_in xs) (count_in xs') (plain_kind b b' q) (count_rises xs xs' h)))

reshape_to_clears : (lit : Literal) (a : FactKind) (x : Option ℕ) → is_mixed_kind a ≡ false → clear_result (reshape_to lit a x) ≡ true
reshape_to_clears lit a None p = refl
reshape_to_clears lit a (Some n) p = wants_clear (nat_le n rank_limit) breaks.Rank (known a (lengths_given literal_length lit n)) (known_clear a (lengths_given literal_length lit n) p)

pub reshape_clears : (lit : Literal) → IsClearing (reshape_rule lit)
reshape_clears lit a xs b ys p q =
    let r : Ruled = reshape_to lit b (count_in xs) in
    wants_clear (is_numeric a) breaks.Kind (wants (nat_le (length xs) 1) breaks.Rank r)
    (wants_clear (nat_le (length xs) 1) breaks.Rank r (reshape_to_clears lit b (count_in xs) q))

-- What the rules of take, drop, replicate, expand and transposition by a literal owe.
use Rattle.std.proofs.Common.{◌≡◌, ◌∙◌, ap, refl, ℕ, List, length, map, Option, Some, None, true, ◌&&◌}
use Rattle.std.specs.Prelude.{ℤ, nat_eq, nat_le, slice_set}
use Rattle.aplc_syntax.specs.declared.tree.Axis.{Axis}
use Rattle.aplc_arr.specs.Structure.{from_origin, none_below, axes_in, all_below_stand}
use Rattle.aplc_arr.specs.Selection.{ranks_suit_take}
use Rattle.aplc_names.specs.Primitives.{axis_in}
use Rattle.aplc_infer.specs.declared.fact.FactKind.{FactKind}
use Rattle.aplc_infer.specs.declared.rule_break.RuleBreak.TheVariants as breaks
use Rattle.aplc_infer.specs.Facts.{length_below, lengths_below}
use Rattle.aplc_infer.specs.Rules.{Ruled, Literal, known, wants, wants_axis, is_numeric, unknown, vector_lengths, lengths_given, magnitude_length, take_rule, drop_rule, along_rule, replicate_rule, expand_length, expand_rule, moved_lengths, transpose_to_rule}
use Rattle.aplc_infer.specs.Orders.{below_result, plain_below, IsRising, IsClearing}
use Rattle.aplc_infer.proofs.Order.{lengths_same}
use Rattle.aplc_infer.proofs.Trials.{plain_kind}
use Rattle.aplc_infer.proofs.Rises.{known_rises, wants_same, axis_rises, known_clear, wants_clear, axis_clear, numeric_same}
use Rattle.aplc_infer.proofs.RuleTools.{same_rises}
use Rattle.aplc_infer.proofs.AxisTools.{set_rises, vector_rises, expand_length_rises, moved_lengths_rise}

-- ---- Take and drop

-- with lengths that the rank of the right argument gives
abbrev part_rule : (ℕ → List (Option ℕ)) → FactKind → List (Option ℕ) → FactKind → List (Option ℕ) → Ruled
part_rule lengths a xs b ys =
    wants (is_numeric a) breaks.Kind
    (wants (ranks_suit_take (length xs) (length ys)) breaks.Rank
    (known b (lengths (length (vector_lengths ys)))))

part_rises : (lengths : ℕ → List (Option ℕ)) → IsRising (part_rule lengths)
part_rises lengths a a' xs xs' b b' ys ys' p q r s =
    let us = lengths (length (vector_lengths ys)) in
    let us' = lengths (length (vector_lengths ys')) in
    let suit = ranks_suit_take (length xs) (length ys) in
    let suit' = ranks_suit_take (length xs') (length ys') in
    let ranks : suit ≡ suit' = ap (λ n. ranks_suit_take n (length ys)) (lengths_same xs xs' q) ∙ ap (ranks_suit_take (length xs')) (lengths_same ys ys' s) in
    let axes = lengths_same (vector_lengths ys) (vector_lengths ys') (vector_rises ys ys' s) in
    wants_same (is_numeric a) (is_numeric a') breaks.Kind (wants suit breaks.Rank (known b us)) (wants suit' breaks.Rank (known b' us')) (numeric_same a a' p)
    (λ n. wants_same suit suit' breaks.Rank (known b us) (known b' us') ranks
    (λ m. known_rises b b' us us' (plain_kind b b' r) (same_rises us us' (ap lengths axes))))

part_clears : (lengths : ℕ → List (Option ℕ)) → IsClearing (part_rule lengths)
part_clears lengths a xs b ys m n =
    let us = lengths (length (vector_lengths ys)) in
    let suit = ranks_suit_take (length xs) (length ys) in
    wants_clear (is_numeric a) breaks.Kind (wants suit breaks.Rank (known b us)) (wants_clear suit breaks.Rank (known b us) (known_clear b us n))

pub take_rises : (lit : Literal) → IsRising (take_rule lit)
take_rises lit = part_rises (lengths_given magnitude_length lit)

pub take_clears : (lit : Literal) → IsClearing (take_rule lit)
take_clears lit = part_clears (lengths_given magnitude_length lit)

pub drop_rises : IsRising drop_rule
drop_rises = part_rises unknown

pub drop_clears : IsClearing drop_rule
drop_clears = part_clears unknown

-- ---- Replicate and expand

along_rises : (o : ℤ) (x : Axis) (u u' : Option ℕ) (a a' : FactKind) (xs xs' : List (Option ℕ)) (b b' : FactKind) (ys ys' : List (Option ℕ)) → length_below u u' ≡ true → plain_below a a' ≡ true → lengths_below xs xs' ≡ true → plain_below b b' ≡ true → lengths_below ys ys' ≡ true → below_result (along_rule o x u a xs b ys) (along_rule o x u' a' xs' b' ys') ≡ true
along_rises o x u u' a a' xs xs' b b' ys ys' t p q r s =
    let zs = vector_lengths ys in
    let zs' = vector_lengths ys' in
    let below = vector_rises ys ys' s in
    let few = nat_le (length xs) 1 in
    let few' = nat_le (length xs') 1 in
    let next : ℕ → Ruled = λ i. known b (slice_set zs i u) in
    let next' : ℕ → Ruled = λ i. known b' (slice_set zs' i u') in
    let axis = axis_in o x (length zs) in
    let axis' = axis_in o x (length zs') in
    wants_same (is_numeric a) (is_numeric a') breaks.Kind (wants few breaks.Rank (wants_axis axis next)) (wants few' breaks.Rank (wants_axis axis' next')) (numeric_same a a' p)
    (λ n. wants_same few few' breaks.Rank (wants_axis axis next) (wants_axis axis' next') (ap (λ n. nat_le n 1) (lengths_same xs xs' q))
    (λ m. axis_rises axis axis' next next' (ap (axis_in o x) (lengths_same zs zs' below))
    (λ i. known_rises b b' (slice_set zs i u) (slice_set zs' i u') (plain_kind b b' r) (set_rises i u u' zs zs' t below))))

along_clears : (o : ℤ) (x : Axis) (u : Option ℕ) → IsClearing (along_rule o x u)
along_clears o x u a xs b ys m n =
    let zs = vector_lengths ys in
    let few = nat_le (length xs) 1 in
    let next : ℕ → Ruled = λ i. known b (slice_set zs i u) in
    let axis = axis_in o x (length zs) in
    wants_clear (is_numeric a) breaks.Kind (wants few breaks.Rank (wants_axis axis next))
    (wants_clear few breaks.Rank (wants_axis axis next)
    (axis_clear axis next (λ i. known_clear b (slice_set zs i u) n)))

pub replicate_rises : (o : ℤ) (x : Axis) → IsRising (replicate_rule o x)
replicate_rises o x a a' xs xs' b b' ys ys' p q r s = along_rises o x None None a a' xs xs' b b' ys ys' refl p q r s

pub replicate_clears : (o : ℤ) (x : Axis) → IsClearing (replicate_rule o x)
replicate_clears o x = along_clears o x None

pub expand_rises : (o : ℤ) (x : Axis) → IsRising (expand_rule o x)
expand_rises o x a a' xs xs' b b' ys ys' p q r s = along_rises o x (expand_length xs) (expand_length xs') a a' xs xs' b b' ys ys' (expand_length_rises xs xs' q) p q r s

pub expand_clears : (o : ℤ) (x : Axis) → IsClearing (expand_rule o x)
expand_clears o x a xs b ys m n = along_clears o x (expand_length xs) a xs b ys m n

-- ---- Transposition by a literal

pub transpose_to_rises : (o : ℤ) (lit : Literal) → IsRising (transpose_to_rule o lit)
transpose_to_rises o None a a' xs xs' b b' ys ys' p q r s = refl
transpose_to_rises o (Some zs) a a' xs xs' b b' ys ys' p q r s =
    let axes = map (from_origin o) zs in
    let named = none_below o zs && all_below_stand (axes_in axes) axes in
    let many = nat_eq (length zs) (length ys) in
    let many' = nat_eq (length zs) (length ys') in
    let us = moved_lengths axes ys in
    let us' = moved_lengths axes ys' in
    wants_same many many' breaks.Rank (wants named breaks.Axis (known b us)) (wants named breaks.Axis (known b' us')) (ap (nat_eq (length zs)) (lengths_same ys ys' s))
    (λ n. wants_same named named breaks.Axis (known b us) (known b' us') refl
    (λ m. known_rises b b' us us' (plain_kind b b' r) (moved_lengths_rise axes ys ys' s)))

pub transpose_to_clears : (o : ℤ) (lit : Literal) → IsClearing (transpose_to_rule o lit)
transpose_to_clears o None a xs b ys m n = refl
transpose_to_clears o (Some zs) a xs b ys m n =
    let axes = map (from_origin o) zs in
    let named = none_below o zs && all_below_stand (axes_in axes) axes in
    let us = moved_lengths axes ys in
    wants_clear (nat_eq (length zs) (length ys)) breaks.Rank (wants named breaks.Axis (known b us)) (wants_clear named breaks.Axis (known b us) (known_clear b us n))

-- What the rules of indexing, indexed assignment and branches owe.
use Rattle.std.proofs.Common.{◌≡◌, ◌∙◌, sym, ap, refl, subst, ℕ, suc, List, [], ◌∷◌, ◌++◌, length, Option, Some, None, Bool, true, false, ◌&&◌, ◌||◌, not}
use Rattle.std.specs.Prelude.{nat_eq, nat_le, nat_lt, is_none}
use Rattle.aplc_arr.specs.Arrays.{rank_limit}
use Rattle.aplc_infer.specs.declared.fact.FactKind.{FactKind}
use Rattle.aplc_infer.specs.declared.fact.FactKind.TheVariants.{Bit, Num, Char, Mixed}
use Rattle.aplc_infer.specs.declared.fact.Inferred.{Inferred}
use Rattle.aplc_infer.specs.declared.fact.Inferred.TheVariants.{Unset, Of}
use Rattle.aplc_infer.specs.declared.rule_break.RuleBreak.TheVariants as breaks
use Rattle.aplc_infer.specs.Facts.{kind_below, lengths_below, shape_below, below, is_mixed_kind, is_mixed, is_unset}
use Rattle.aplc_infer.specs.Rules.{known, wants, is_numeric, any_fact, joined_lengths, is_numeric_fact, all_numeric, entries_fit, kinds_join, index_rule, change_rule, kept_kind, left_fact, branch_rule}
use Rattle.aplc_infer.specs.Orders.{plain_below, entries_below, IsRising1, IsRisingList, IsRisingChange, IsClearing1, IsClearing}
use Rattle.aplc_infer.proofs.Order.{lengths_same}
use Rattle.aplc_infer.proofs.Trials.{both_true, left_true, right_true, unequal, implies, use_implies, all_kinds, all_at, pairs_by_trial, plain_kind, same, same_is}
use Rattle.aplc_infer.proofs.Rises.{known_rises, wants_same, known_clear, wants_clear, numeric_same}
use Rattle.aplc_infer.proofs.RuleTools.{cons_rises, head_rises, tail_rises}
use Rattle.aplc_infer.proofs.AxisTools.{append_rises}

-- ---- Entries

-- what is said of a list is said of its first entry and of the rest
or_false : (a b : Bool) → (a || b) ≡ false → (a ≡ false) × (b ≡ false)
or_false true b h = cc
or_false false b h = (refl, h)

-- two facts of entries that are set and not mixed: a plain kind, and lengths one below the other
record Plain (f g : Inferred) : Type 0 where
  lower : FactKind
  upper : FactKind
  fewer : List (Option ℕ)
  more : List (Option ℕ)
  lower_is : f ≡ Of lower (Some fewer)
  upper_is : g ≡ Of upper (Some more)
  kinds : plain_below lower upper ≡ true
  lengths : lengths_below fewer more ≡ true

plain_entry : (f g : Inferred) → below f g ≡ true → is_unset f ≡ false → is_mixed g ≡ false → Plain f g
plain_entry Unset g h u m = cc
plain_entry (Of a s) Unset h u m = cc
plain_entry (Of a s) (Of b None) h u m = absurd (unequal (mixed_rank (is_mixed_kind b) ∙ m))
  where
    mixed_rank : (c : Bool) → true ≡ (c || true)
    mixed_rank true = refl
    mixed_rank false = refl
plain_entry (Of a None) (Of b (Some ys)) h u m = absurd (unequal (sym (right_true (kind_below a b) false h)))
plain_entry (Of a (Some xs)) (Of b (Some ys)) h u m = record {
  lower = a;
  upper = b;
  fewer = xs;
  more = ys;
  lower_is = refl;
  upper_is = refl;
  kinds = both_true (kind_below a b) (not (is_mixed_kind b)) (left_true (kind_below a b) (lengths_below xs ys) h) (ap not (or_false (is_mixed_kind b) false m).0);
  lengths = right_true (kind_below a b) (lengths_below xs ys) h;
}

same_many : (fs gs : List (Option Inferred)) → entries_below fs gs ≡ true → length fs ≡ length gs
same_many [] [] h = refl
same_many [] (g ∷ gs) h = cc
same_many (f ∷ fs) [] h = cc
same_many (None ∷ fs) (None ∷ gs) h = ap suc (same_many fs gs h)
same_many (None ∷ fs) (Some y ∷ gs) h = cc
same_many (Some x ∷ fs) (None ∷ gs) h = cc
same_many (Some x ∷ fs) (Some y ∷ gs) h = ap suc (same_many fs gs (right_true (below x y) (entries_below fs gs) h))

numeric_entry : (f g : Inferred) → Plain f g → is_numeric_fact f ≡ is_numeric_fact g
numeric_entry f g w = ap is_numeric_fact w.lower_is ∙ numeric_same w.lower w.upper w.kinds ∙ sym (ap is_numeric_fact w.upper_is)

all_numeric_same : (fs gs : List (Option Inferred)) → entries_below fs gs ≡ true → any_fact is_unset fs ≡ false → any_fact is_mixed gs ≡ false → all_numeric fs ≡ all_numeric gs
all_numeric_same [] [] h u m = refl
all_numeric_same [] (g ∷ gs) h u m = cc
all_numeric_same (f ∷ fs) [] h u m = cc
all_numeric_same (None ∷ fs) (None ∷ gs) h u m = all_numeric_same fs gs h u m
all_numeric_same (None ∷ fs) (Some y ∷ gs) h u m = cc
all_numeric_same (Some x ∷ fs) (None ∷ gs) h u m = cc
all_numeric_same (Some x ∷ fs) (Some y ∷ gs) h u m =
    let set = or_false (is_unset x) (any_fact is_unset fs) u in
    let plain = or_false (is_mixed y) (any_fact is_mixed gs) m in
    let entry = plain_entry x y (left_true (below x y) (entries_below fs gs) h) set.0 plain.0 in
    let rest = all_numeric_same fs gs (right_true (below x y) (entries_below fs gs) h) set.1 plain.1 in
    ap (λ c. c && all_numeric fs) (numeric_entry x y entry) ∙ ap (λ c. is_numeric_fact y && c) rest

-- the lengths of an entry before those of the rest
entry_rises : (x x' : Option ℕ) (xs xs' : List (Option ℕ)) (f g : Inferred) (fs gs : List (Option Inferred)) → Plain f g → lengths_below (joined_lengths xs fs) (joined_lengths xs' gs) ≡ true → lengths_below (joined_lengths (x ∷ xs) (Some f ∷ fs)) (joined_lengths (x' ∷ xs') (Some g ∷ gs)) ≡ true
entry_rises x x' xs xs' f g fs gs w h =
    let rest = joined_lengths xs fs in
    let rest' = joined_lengths xs' gs in
    subst (λ (z : Inferred). lengths_below (joined_lengths (x ∷ xs) (Some z ∷ fs)) (joined_lengths (x' ∷ xs') (Some g ∷ gs)) ≡ true) (sym w.lower_is)
    (subst (λ (z : Inferred). lengths_below (w.fewer ++ rest) (joined_lengths (x' ∷ xs') (Some z ∷ gs)) ≡ true) (sym w.upper_is)
    (append_rises w.fewer w.more rest rest' w.lengths h))

joined_rises : (xs xs' : List (Option ℕ)) (fs gs : List (Option Inferred)) → lengths_below xs xs' ≡ true → entries_below fs gs ≡ true → any_fact is_unset fs ≡ false → any_fact is_mixed gs ≡ false → lengths_below (joined_lengths xs fs) (joined_lengths xs' gs) ≡ true
joined_rises [] [] fs gs q h u m = refl
joined_rises [] (x' ∷ xs') fs gs q h u m = cc
joined_rises (x ∷ xs) [] fs gs q h u m = cc
joined_rises (x ∷ xs) (x' ∷ xs') [] [] q h u m = refl
joined_rises (x ∷ xs) (x' ∷ xs') [] (g ∷ gs) q h u m = cc
joined_rises (x ∷ xs) (x' ∷ xs') (f ∷ fs) [] q h u m = cc
joined_rises (x ∷ xs) (x' ∷ xs') (None ∷ fs) (None ∷ gs) q h u m =
    cons_rises x x' (joined_lengths xs fs) (joined_lengths xs' gs) (head_rises x x' xs xs' q) (joined_rises xs xs' fs gs (tail_rises x x' xs xs' q) h u m)
joined_rises (x ∷ xs) (x' ∷ xs') (None ∷ fs) (Some g ∷ gs) q h u m = cc
joined_rises (x ∷ xs) (x' ∷ xs') (Some f ∷ fs) (None ∷ gs) q h u m = cc
joined_rises (x ∷ xs) (x' ∷ xs') (Some f ∷ fs) (Some g ∷ gs) q h u m =
    let set = or_false (is_unset f) (any_fact is_unset fs) u in
    let plain = or_false (is_mixed g) (any_fact is_mixed gs) m in
    let entry = plain_entry f g (left_true (below f g) (entries_below fs gs) h) set.0 plain.0 in
    entry_rises x x' xs xs' f g fs gs entry (joined_rises xs xs' fs gs (tail_rises x x' xs xs' q) (right_true (below f g) (entries_below fs gs) h) set.1 plain.1)

abbrev fit : ℕ → ℕ → ℕ → Bool
fit m r j = nat_eq m r && nat_lt 0 r && nat_le j rank_limit

entries_fit_same : (xs xs' : List (Option ℕ)) (fs gs : List (Option Inferred)) → lengths_below xs xs' ≡ true → entries_below fs gs ≡ true → any_fact is_unset fs ≡ false → any_fact is_mixed gs ≡ false → entries_fit xs fs ≡ entries_fit xs' gs
entries_fit_same xs xs' fs gs q h u m =
    let us = joined_lengths xs fs in
    let us' = joined_lengths xs' gs in
    ap (λ n. fit n (length xs) (length us)) (same_many fs gs h)
    ∙ ap (λ n. fit (length gs) n (length us)) (lengths_same xs xs' q)
    ∙ ap (fit (length gs) (length xs')) (lengths_same us us' (joined_rises xs xs' fs gs q h u m))

-- ---- Indexing

pub index_rises : IsRisingList index_rule
index_rises fs gs h u m a a' xs xs' p q =
    let us = joined_lengths xs fs in
    let us' = joined_lengths xs' gs in
    let places = entries_fit xs fs in
    let places' = entries_fit xs' gs in
    wants_same (all_numeric fs) (all_numeric gs) breaks.Kind (wants places breaks.Rank (known a us)) (wants places' breaks.Rank (known a' us')) (all_numeric_same fs gs h u m)
    (λ n. wants_same places places' breaks.Rank (known a us) (known a' us') (entries_fit_same xs xs' fs gs q h u m)
    (λ o. known_rises a a' us us' (plain_kind a a' p) (joined_rises xs xs' fs gs q h u m)))

pub index_clears : (fs : List (Option Inferred)) → IsClearing1 (index_rule fs)
index_clears fs a xs m =
    let us = joined_lengths xs fs in
    wants_clear (all_numeric fs) breaks.Kind (wants (entries_fit xs fs) breaks.Rank (known a us)) (wants_clear (entries_fit xs fs) breaks.Rank (known a us) (known_clear a us m))

-- ---- Indexed assignment

kinds_join_same : (a a' b b' : FactKind) → plain_below a a' ≡ true → plain_below b b' ≡ true → kinds_join a b ≡ kinds_join a' b'
kinds_join_same a a' b b' p r = same_is (kinds_join a b) (kinds_join a' b') (pairs_by_trial (λ a a' b b'. same (kinds_join a b) (kinds_join a' b')) refl a a' b b' p r)

-- a value of rank r suits so many axes
abbrev suits : ℕ → ℕ → Bool
suits r n = nat_eq r 0 || nat_eq r n

pub change_rises : IsRisingChange change_rule
change_rises fs gs h u m a a' xs xs' b b' ys ys' p q r s =
    let us = joined_lengths xs fs in
    let us' = joined_lengths xs' gs in
    let kinds = all_numeric fs && kinds_join a b in
    let kinds' = all_numeric gs && kinds_join a' b' in
    let places = entries_fit xs fs && suits (length ys) (length us) in
    let places' = entries_fit xs' gs && suits (length ys') (length us') in
    let ranks : suits (length ys) (length us) ≡ suits (length ys') (length us') =
    ap (λ n. suits n (length us)) (lengths_same ys ys' s) ∙ ap (suits (length ys')) (lengths_same us us' (joined_rises xs xs' fs gs q h u m)) in
    wants_same kinds kinds' breaks.Kind (wants places breaks.Rank (known b ys)) (wants places' breaks.Rank (known b' ys'))
    (ap (λ c. c && kinds_join a b) (all_numeric_same fs gs h u m) ∙ ap (λ c. all_numeric gs && c) (kinds_join_same a a' b b' p r))
    (λ n. wants_same places places' breaks.Rank (known b ys) (known b' ys')
    (ap (λ c. c && suits (length ys) (length us)) (entries_fit_same xs xs' fs gs q h u m) ∙ ap (λ c. entries_fit xs' gs && c) ranks)
    (λ o. known_rises b b' ys ys' (plain_kind b b' r) s))

pub change_clears : (fs : List (Option Inferred)) → IsClearing (change_rule fs)
change_clears fs a xs b ys m n =
    let places = entries_fit xs fs && suits (length ys) (length (joined_lengths xs fs)) in
    wants_clear (all_numeric fs && kinds_join a b) breaks.Kind (wants places breaks.Rank (known b ys)) (wants_clear places breaks.Rank (known b ys) (known_clear b ys n))

-- ---- What is left to the name

-- of two kinds below two others, mixed ones among them
kept_kind_rises : (a a' b b' : FactKind) → kind_below a a' ≡ true → kind_below b b' ≡ true → kind_below (kept_kind a b) (kept_kind a' b') ≡ true
kept_kind_rises a a' b b' p q =
    use_implies (kind_below a a' && kind_below b b') (kind_below (kept_kind a b) (kept_kind a' b'))
    (all_at (λ z. implies (kind_below a a' && kind_below b z) (kind_below (kept_kind a b) (kept_kind a' z)))
    (all_at (λ y. all_kinds (λ z. implies (kind_below a a' && kind_below y z) (kind_below (kept_kind a y) (kept_kind a' z))))
    (all_at (λ x. all_kinds (λ y. all_kinds (λ z. implies (kind_below a x && kind_below y z) (kind_below (kept_kind a y) (kept_kind x z)))))
    (all_at (λ w. all_kinds (λ x. all_kinds (λ y. all_kinds (λ z. implies (kind_below w x && kind_below y z) (kind_below (kept_kind w y) (kept_kind x z)))))) refl a) a') b) b')
    (both_true (kind_below a a') (kind_below b b') p q)

-- a name keeps its kind or becomes one of numbers
kept_kind_above : (a a' b : FactKind) → kind_below a a' ≡ true → kind_below a (kept_kind a' b) ≡ true
kept_kind_above a a' b p =
    use_implies (kind_below a a') (kind_below a (kept_kind a' b))
    (all_at (λ z. implies (kind_below a a') (kind_below a (kept_kind a' z)))
    (all_at (λ y. all_kinds (λ z. implies (kind_below a y) (kind_below a (kept_kind y z))))
    (all_at (λ x. all_kinds (λ y. all_kinds (λ z. implies (kind_below x y) (kind_below x (kept_kind y z))))) refl a) a') b)
    p

pub left_rises : (x x' y y' : Inferred) → below x x' ≡ true → below y y' ≡ true → below (left_fact x y) (left_fact x' y') ≡ true
left_rises Unset x' y y' p q = refl
left_rises (Of a s) Unset y y' p q = cc
left_rises (Of a s) (Of a' s') Unset Unset p q = p
left_rises (Of a s) (Of a' s') Unset (Of b' t') p q =
    both_true (kind_below a (kept_kind a' b')) (shape_below s s') (kept_kind_above a a' b' (left_true (kind_below a a') (shape_below s s') p)) (right_true (kind_below a a') (shape_below s s') p)
left_rises (Of a s) (Of a' s') (Of b t) Unset p q = cc
left_rises (Of a s) (Of a' s') (Of b t) (Of b' t') p q =
    both_true (kind_below (kept_kind a b) (kept_kind a' b')) (shape_below s s')
    (kept_kind_rises a a' b b' (left_true (kind_below a a') (shape_below s s') p) (left_true (kind_below b b') (shape_below t t') q))
    (right_true (kind_below a a') (shape_below s s') p)

kept_kind_plain : (a b : FactKind) → is_mixed_kind (kept_kind a b) ≡ is_mixed_kind a
kept_kind_plain Bit Bit = refl
kept_kind_plain Bit b = refl
kept_kind_plain Num b = refl
kept_kind_plain Char b = refl
kept_kind_plain Mixed b = refl

pub left_clears : (x y : Inferred) → is_mixed x ≡ false → is_mixed (left_fact x y) ≡ false
left_clears Unset y m = refl
left_clears (Of a s) Unset m = m
left_clears (Of a s) (Of b t) m = ap (λ c. c || is_none s) (kept_kind_plain a b) ∙ m

-- ---- Branches

pub branch_rises : IsRising1 branch_rule branch_rule
branch_rises a a' xs xs' p q =
    let few = nat_le (length xs) 1 in
    let few' = nat_le (length xs') 1 in
    wants_same (is_numeric a) (is_numeric a') breaks.Kind (wants few breaks.Rank (known a xs)) (wants few' breaks.Rank (known a' xs')) (numeric_same a a' p)
    (λ n. wants_same few few' breaks.Rank (known a xs) (known a' xs') (ap (λ n. nat_le n 1) (lengths_same xs xs' q))
    (λ m. known_rises a a' xs xs' (plain_kind a a' p) q))

pub branch_clears : IsClearing1 branch_rule
branch_clears a xs m =
    let few = nat_le (length xs) 1 in
    wants_clear (is_numeric a) breaks.Kind (wants few breaks.Rank (known a xs)) (wants_clear few breaks.Rank (known a xs) (known_clear a xs m))

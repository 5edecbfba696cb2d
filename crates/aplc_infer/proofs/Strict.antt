-- The wrapper of the rules: what it owes for what is unset or mixed, once for all rules.
use Rattle.std.proofs.Common.{◌≡◌, ◌∙◌, sym, ap, refl, ℕ, List, [], ◌∷◌, Option, Some, None, Ok, Err, Bool, true, false, ◌||◌, not}
use Rattle.std.specs.Prelude.{is_none}
use Rattle.aplc_infer.specs.declared.fact.FactKind.{FactKind}
use Rattle.aplc_infer.specs.declared.fact.FactKind.TheVariants.{Bit, Num, Char, Mixed}
use Rattle.aplc_infer.specs.declared.fact.Inferred.{Inferred}
use Rattle.aplc_infer.specs.declared.fact.Inferred.TheVariants.{Unset, Of}
use Rattle.aplc_infer.specs.Facts.{kind_below, lengths_below, shape_below, below, mixed, is_mixed_kind, is_mixed, is_unset, mixed_if, settled}
use Rattle.aplc_infer.specs.Rules.{Ruled, Sort, Missing, Muddled, Clear, sorted, sort, strict1, strict2, strict_by, strict_list, any_fact, fact_of}
use Rattle.aplc_infer.specs.Orders.{below_result, plain_below, sort_below, is_muddled, entries_below, IsRising, IsRising1, clear_result, IsClearing1, IsClearing}
use Rattle.aplc_infer.proofs.Trials.{both_true, left_true, right_true, unequal}

-- ---- Mixed is above all

kind_top : (a : FactKind) → kind_below a Mixed ≡ true
kind_top Bit = refl
kind_top Num = refl
kind_top Char = refl
kind_top Mixed = refl

pub below_mixed : (f : Inferred) → below f mixed ≡ true
below_mixed Unset = refl
below_mixed (Of a s) = both_true (kind_below a Mixed) true (kind_top a) refl

plain_falls : (a b : FactKind) → kind_below a b ≡ true → is_mixed_kind b ≡ false → is_mixed_kind a ≡ false
plain_falls a Mixed p h = cc
plain_falls Bit Bit p h = refl
plain_falls Bit Num p h = refl
plain_falls Bit Char p h = refl
plain_falls Num Bit p h = refl
plain_falls Num Num p h = refl
plain_falls Num Char p h = refl
plain_falls Char Bit p h = refl
plain_falls Char Num p h = refl
plain_falls Char Char p h = refl
plain_falls Mixed Bit p h = cc
plain_falls Mixed Num p h = cc
plain_falls Mixed Char p h = cc

-- what lies below a fact that is not mixed is not mixed
pub below_clear : (f g : Inferred) → below f g ≡ true → is_mixed g ≡ false → is_mixed f ≡ false
below_clear Unset g h m = refl
below_clear (Of a s) Unset h m = cc
below_clear (Of a s) (Of b None) h m = absurd (unequal (mixed_rank (is_mixed_kind b) ∙ m))
  where
    mixed_rank : (c : Bool) → true ≡ (c || true)
    mixed_rank true = refl
    mixed_rank false = refl
below_clear (Of a None) (Of b (Some ys)) h m = absurd (unequal (sym (right_true (kind_below a b) false h)))
below_clear (Of a (Some xs)) (Of b (Some ys)) h m = ranked (is_mixed_kind a) (plain_falls a b (left_true (kind_below a b) (lengths_below xs ys) h) (unranked (is_mixed_kind b) m))
  where
    unranked : (c : Bool) → (c || false) ≡ false → c ≡ false
    unranked true e = cc
    unranked false e = refl

    ranked : (c : Bool) → c ≡ false → (c || false) ≡ false
    ranked true e = cc
    ranked false e = refl

-- ---- Sorts

muddled_top : (s : Sort) → sort_below s Muddled ≡ true
muddled_top Missing = refl
muddled_top Muddled = refl
muddled_top (Clear a xs) = refl

sorts_plain : (a b : FactKind) (s t : Option (List (Option ℕ))) → kind_below a b ≡ true → is_mixed_kind b ≡ false → shape_below s t ≡ true → sort_below (sorted false a s) (sorted false b t) ≡ true
sorts_plain a b None None p m q = refl
sorts_plain a b None (Some ys) p m q = cc
sorts_plain a b (Some xs) None p m q = refl
sorts_plain a b (Some xs) (Some ys) p m q = both_true (plain_below a b) (lengths_below xs ys) (both_true (kind_below a b) (not (is_mixed_kind b)) p (ap not m)) q

sorts_by : (c d : Bool) (a b : FactKind) (s t : Option (List (Option ℕ))) → is_mixed_kind a ≡ c → is_mixed_kind b ≡ d → kind_below a b ≡ true → shape_below s t ≡ true → sort_below (sorted c a s) (sorted d b t) ≡ true
sorts_by c true a b s t e f p q = muddled_top (sorted c a s)
sorts_by true false a b s t e f p q = absurd (unequal (sym e ∙ plain_falls a b p f))
sorts_by false false a b s t e f p q = sorts_plain a b s t p f q

pub sort_rises : (f g : Inferred) → below f g ≡ true → sort_below (sort f) (sort g) ≡ true
sort_rises Unset g h = refl
sort_rises (Of a s) Unset h = cc
sort_rises (Of a s) (Of b t) h = sorts_by (is_mixed_kind a) (is_mixed_kind b) a b s t refl refl (left_true (kind_below a b) (shape_below s t) h) (right_true (kind_below a b) (shape_below s t) h)

sorted_clear : (c : Bool) (a : FactKind) (s : Option (List (Option ℕ))) → (c || is_none s) ≡ false → is_muddled (sorted c a s) ≡ false
sorted_clear true a s h = cc
sorted_clear false a None h = cc
sorted_clear false a (Some xs) h = refl

pub clear_sort : (f : Inferred) → is_mixed f ≡ false → is_muddled (sort f) ≡ false
clear_sort Unset h = refl
clear_sort (Of a s) h = sorted_clear (is_mixed_kind a) a s h

-- a fact that sorts as clear has a plain kind
sorted_plain : (c : Bool) (a b : FactKind) (s : Option (List (Option ℕ))) (ys : List (Option ℕ)) → is_mixed_kind a ≡ c → sorted c a s ≡ Clear b ys → is_mixed_kind b ≡ false
sorted_plain true a b s ys e h = cc
sorted_plain false a b None ys e h = cc
sorted_plain false a b (Some xs) ys e h = sym (ap kind_or h) ∙ e
  where
    kind_or : Sort → Bool
    kind_or Missing = false
    kind_or Muddled = false
    kind_or (Clear c zs) = is_mixed_kind c

pub sort_plain : (f : Inferred) (b : FactKind) (ys : List (Option ℕ)) → sort f ≡ Clear b ys → is_mixed_kind b ≡ false
sort_plain Unset b ys h = cc
sort_plain (Of a s) b ys h = sorted_plain (is_mixed_kind a) a b s ys refl h

-- ---- Results

pub results_rise : (r r' : Ruled) → below_result r r' ≡ true → below (fact_of r) (fact_of r') ≡ true
results_rise r (Err e) h = below_mixed (fact_of r)
results_rise (Ok x) (Ok y) h = h
results_rise (Err e) (Ok y) h = cc

unset_first : (r : Ruled) → below_result (Ok Unset) r ≡ true
unset_first (Ok x) = refl
unset_first (Err e) = refl

clear_kinds : (a b : FactKind) (xs ys : List (Option ℕ)) → sort_below (Clear a xs) (Clear b ys) ≡ true → plain_below a b ≡ true
clear_kinds a b xs ys h = left_true (plain_below a b) (lengths_below xs ys) h

clear_lengths : (a b : FactKind) (xs ys : List (Option ℕ)) → sort_below (Clear a xs) (Clear b ys) ≡ true → lengths_below xs ys ≡ true
clear_lengths a b xs ys h = right_true (plain_below a b) (lengths_below xs ys) h

-- ---- Rules of one argument. Facts always rise; a refusal goes up where the upper argument is not mixed.

pub strict1_fine : (rule rule' : FactKind → List (Option ℕ) → Ruled) → IsRising1 rule rule' → (s t : Sort) → sort_below s t ≡ true → is_muddled t ≡ false → below_result (strict1 rule s) (strict1 rule' t) ≡ true
strict1_fine rule rule' h Missing Missing p m = refl
strict1_fine rule rule' h s Muddled p m = cc
strict1_fine rule rule' h Missing (Clear b ys) p m = unset_first (rule' b ys)
strict1_fine rule rule' h Muddled Missing p m = cc
strict1_fine rule rule' h Muddled (Clear b ys) p m = cc
strict1_fine rule rule' h (Clear a xs) Missing p m = cc
strict1_fine rule rule' h (Clear a xs) (Clear b ys) p m = h a b xs ys (clear_kinds a b xs ys p) (clear_lengths a b xs ys p)

pub strict1_facts : (rule rule' : FactKind → List (Option ℕ) → Ruled) → IsRising1 rule rule' → (s t : Sort) → sort_below s t ≡ true → below (fact_of (strict1 rule s)) (fact_of (strict1 rule' t)) ≡ true
strict1_facts rule rule' h s Muddled p = below_mixed (fact_of (strict1 rule s))
strict1_facts rule rule' h s Missing p = results_rise (strict1 rule s) (strict1 rule' Missing) (strict1_fine rule rule' h s Missing p refl)
strict1_facts rule rule' h s (Clear b ys) p = results_rise (strict1 rule s) (strict1 rule' (Clear b ys)) (strict1_fine rule rule' h s (Clear b ys) p refl)

strict1_clear_at : (rule : FactKind → List (Option ℕ) → Ruled) → IsClearing1 rule → (f : Inferred) (s : Sort) → sort f ≡ s → is_muddled s ≡ false → clear_result (strict1 rule s) ≡ true
strict1_clear_at rule c f Missing e m = refl
strict1_clear_at rule c f Muddled e m = cc
strict1_clear_at rule c f (Clear a xs) e m = c a xs (sort_plain f a xs e)

pub strict1_clear : (rule : FactKind → List (Option ℕ) → Ruled) → IsClearing1 rule → (f : Inferred) → is_mixed f ≡ false → clear_result (strict1 rule (sort f)) ≡ true
strict1_clear rule c f m = strict1_clear_at rule c f (sort f) refl (clear_sort f m)

-- ---- Rules of two arguments

pub strict2_fine : (rule : FactKind → List (Option ℕ) → FactKind → List (Option ℕ) → Ruled) → IsRising rule → (s s' t t' : Sort) → sort_below s s' ≡ true → sort_below t t' ≡ true → is_muddled s' ≡ false → is_muddled t' ≡ false → below_result (strict2 rule s t) (strict2 rule s' t') ≡ true
strict2_fine rule h s Muddled t t' p q m n = cc
strict2_fine rule h s s' t Muddled p q m n = cc
strict2_fine rule h Missing s' t t' p q m n = unset_first (strict2 rule s' t')
strict2_fine rule h Muddled Missing t t' p q m n = cc
strict2_fine rule h Muddled (Clear a xs) t t' p q m n = cc
strict2_fine rule h (Clear a xs) Missing t t' p q m n = cc
strict2_fine rule h (Clear a xs) (Clear a' xs') Missing t' p q m n = unset_first (strict2 rule (Clear a' xs') t')
strict2_fine rule h (Clear a xs) (Clear a' xs') Muddled Missing p q m n = cc
strict2_fine rule h (Clear a xs) (Clear a' xs') Muddled (Clear b ys) p q m n = cc
strict2_fine rule h (Clear a xs) (Clear a' xs') (Clear b ys) Missing p q m n = cc
strict2_fine rule h (Clear a xs) (Clear a' xs') (Clear b ys) (Clear b' ys') p q m n =
    h a a' xs xs' b b' ys ys' (clear_kinds a a' xs xs' p) (clear_lengths a a' xs xs' p) (clear_kinds b b' ys ys' q) (clear_lengths b b' ys ys' q)

pub strict2_facts : (rule : FactKind → List (Option ℕ) → FactKind → List (Option ℕ) → Ruled) → IsRising rule → (s s' t t' : Sort) → sort_below s s' ≡ true → sort_below t t' ≡ true → below (fact_of (strict2 rule s t)) (fact_of (strict2 rule s' t')) ≡ true
strict2_facts rule h Missing s' t t' p q = results_rise (Ok Unset) (strict2 rule s' t') (unset_first (strict2 rule s' t'))
strict2_facts rule h Muddled Missing t t' p q = cc
strict2_facts rule h (Clear a xs) Missing t t' p q = cc
strict2_facts rule h Muddled s' Missing t' p q = results_rise (Ok Unset) (strict2 rule s' t') (unset_first (strict2 rule s' t'))
strict2_facts rule h (Clear a xs) s' Missing t' p q = results_rise (Ok Unset) (strict2 rule s' t') (unset_first (strict2 rule s' t'))
strict2_facts rule h Muddled (Clear a' xs') t t' p q = cc
strict2_facts rule h s Muddled Muddled Missing p q = cc
strict2_facts rule h s Muddled (Clear b ys) Missing p q = cc
strict2_facts rule h s Muddled t Muddled p q = below_mixed (fact_of (strict2 rule s t))
strict2_facts rule h s Muddled t (Clear b' ys') p q = below_mixed (fact_of (strict2 rule s t))
strict2_facts rule h (Clear a xs) (Clear a' xs') Muddled Missing p q = cc
strict2_facts rule h (Clear a xs) (Clear a' xs') (Clear b ys) Missing p q = cc
strict2_facts rule h (Clear a xs) (Clear a' xs') t Muddled p q = below_mixed (fact_of (strict2 rule (Clear a xs) t))
strict2_facts rule h (Clear a xs) (Clear a' xs') Muddled (Clear b' ys') p q = cc
strict2_facts rule h (Clear a xs) (Clear a' xs') (Clear b ys) (Clear b' ys') p q =
    results_rise (rule a xs b ys) (rule a' xs' b' ys') (h a a' xs xs' b b' ys ys' (clear_kinds a a' xs xs' p) (clear_lengths a a' xs xs' p) (clear_kinds b b' ys ys' q) (clear_lengths b b' ys ys' q))

strict2_clear_at : (rule : FactKind → List (Option ℕ) → FactKind → List (Option ℕ) → Ruled) → IsClearing rule → (f g : Inferred) (s t : Sort) → sort f ≡ s → sort g ≡ t → is_muddled s ≡ false → is_muddled t ≡ false → clear_result (strict2 rule s t) ≡ true
strict2_clear_at rule c f g Muddled t d e m n = cc
strict2_clear_at rule c f g s Muddled d e m n = cc
strict2_clear_at rule c f g Missing t d e m n = refl
strict2_clear_at rule c f g (Clear a xs) Missing d e m n = refl
strict2_clear_at rule c f g (Clear a xs) (Clear b ys) d e m n = c a xs b ys (sort_plain f a xs d) (sort_plain g b ys e)

pub strict2_clear : (rule : FactKind → List (Option ℕ) → FactKind → List (Option ℕ) → Ruled) → IsClearing rule → (f g : Inferred) → is_mixed f ≡ false → is_mixed g ≡ false → clear_result (strict2 rule (sort f) (sort g)) ≡ true
strict2_clear rule c f g m n = strict2_clear_at rule c f g (sort f) (sort g) refl refl (clear_sort f m) (clear_sort g n)

-- ---- Rules of an array and the entries of an index list

-- what lies below an unset fact is unset
unset_falls : (f g : Inferred) → below f g ≡ true → is_unset g ≡ true → is_unset f ≡ true
unset_falls Unset g h u = refl
unset_falls (Of a s) Unset h u = cc
unset_falls (Of a s) (Of b t) h u = cc

either_true : (a b c d : Bool) → (a ≡ true → c ≡ true) → (b ≡ true → d ≡ true) → (a || b) ≡ true → (c || d) ≡ true
either_true true b c d p q h = front c d (p refl)
  where
    front : (c d : Bool) → c ≡ true → (c || d) ≡ true
    front true d e = refl
    front false d e = cc
either_true false b c d p q h = back c d (q h)
  where
    back : (c d : Bool) → d ≡ true → (c || d) ≡ true
    back true d e = refl
    back false d e = e

pub unset_entries : (fs gs : List (Option Inferred)) → entries_below fs gs ≡ true → any_fact is_unset gs ≡ true → any_fact is_unset fs ≡ true
unset_entries [] [] h u = cc
unset_entries [] (g ∷ gs) h u = cc
unset_entries (f ∷ fs) [] h u = cc
unset_entries (None ∷ fs) (None ∷ gs) h u = unset_entries fs gs h u
unset_entries (None ∷ fs) (Some y ∷ gs) h u = cc
unset_entries (Some x ∷ fs) (None ∷ gs) h u = cc
unset_entries (Some x ∷ fs) (Some y ∷ gs) h u =
    either_true (is_unset y) (any_fact is_unset gs) (is_unset x) (any_fact is_unset fs) (λ e. unset_falls x y (left_true (below x y) (entries_below fs gs) h) e) (λ e. unset_entries fs gs (right_true (below x y) (entries_below fs gs) h) e) u

neither_left : (a b : Bool) → (a || b) ≡ false → a ≡ false
neither_left true b h = cc
neither_left false b h = refl

neither_right : (a b : Bool) → (a || b) ≡ false → b ≡ false
neither_right true b h = cc
neither_right false b h = h

pub neither : (a b : Bool) → a ≡ false → b ≡ false → (a || b) ≡ false
neither true b p q = cc
neither false b p q = q

pub clear_entries : (fs gs : List (Option Inferred)) → entries_below fs gs ≡ true → any_fact is_mixed gs ≡ false → any_fact is_mixed fs ≡ false
clear_entries [] [] h m = refl
clear_entries [] (g ∷ gs) h m = cc
clear_entries (f ∷ fs) [] h m = cc
clear_entries (None ∷ fs) (None ∷ gs) h m = clear_entries fs gs h m
clear_entries (None ∷ fs) (Some y ∷ gs) h m = cc
clear_entries (Some x ∷ fs) (None ∷ gs) h m = cc
clear_entries (Some x ∷ fs) (Some y ∷ gs) h m =
    neither (is_mixed x) (any_fact is_mixed fs)
    (below_clear x y (left_true (below x y) (entries_below fs gs) h) (neither_left (is_mixed y) (any_fact is_mixed gs) m))
    (clear_entries fs gs (right_true (below x y) (entries_below fs gs) h) (neither_right (is_mixed y) (any_fact is_mixed gs) m))

-- u and v tell what is unset below and above, m and n what is mixed
by_fine : (u v m n : Bool) (rule rule' : FactKind → List (Option ℕ) → Ruled) (s t : Sort) → (v ≡ true → u ≡ true) → (n ≡ false → m ≡ false) → (u ≡ false → n ≡ false → IsRising1 rule rule') → sort_below s t ≡ true → is_muddled t ≡ false → n ≡ false → below_result (strict_by u m rule s) (strict_by v n rule' t) ≡ true
by_fine true v m n rule rule' s t vu nm h p q e = unset_first (strict_by v n rule' t)
by_fine false true m n rule rule' s t vu nm h p q e = absurd (unequal (sym (vu refl)))
by_fine false false m true rule rule' s t vu nm h p q e = cc
by_fine false false true false rule rule' s t vu nm h p q e = absurd (unequal (nm refl))
by_fine false false false false rule rule' s Muddled vu nm h p q e = cc
by_fine false false false false rule rule' Missing t vu nm h p q e = unset_first (strict_by false false rule' t)
by_fine false false false false rule rule' Muddled Missing vu nm h p q e = cc
by_fine false false false false rule rule' Muddled (Clear b ys) vu nm h p q e = cc
by_fine false false false false rule rule' (Clear a xs) Missing vu nm h p q e = cc
by_fine false false false false rule rule' (Clear a xs) (Clear b ys) vu nm h p q e = h refl refl a b xs ys (clear_kinds a b xs ys p) (clear_lengths a b xs ys p)

pub strict_list_fine : (rule rule' : FactKind → List (Option ℕ) → Ruled) (fs gs : List (Option Inferred)) (s t : Sort) → (any_fact is_unset fs ≡ false → any_fact is_mixed gs ≡ false → IsRising1 rule rule') → entries_below fs gs ≡ true → sort_below s t ≡ true → is_muddled t ≡ false → any_fact is_mixed gs ≡ false → below_result (strict_list rule s fs) (strict_list rule' t gs) ≡ true
strict_list_fine rule rule' fs gs s t h b p q m =
    by_fine (any_fact is_unset fs) (any_fact is_unset gs) (any_fact is_mixed fs) (any_fact is_mixed gs) rule rule' s t (λ e. unset_entries fs gs b e) (λ e. clear_entries fs gs b e) h p q m

by_facts : (u v m n : Bool) (rule rule' : FactKind → List (Option ℕ) → Ruled) (s t : Sort) → (v ≡ true → u ≡ true) → (n ≡ false → m ≡ false) → (u ≡ false → n ≡ false → IsRising1 rule rule') → sort_below s t ≡ true → below (fact_of (strict_by u m rule s)) (fact_of (strict_by v n rule' t)) ≡ true
by_facts true v m n rule rule' s t vu nm h p = results_rise (Ok Unset) (strict_by v n rule' t) (unset_first (strict_by v n rule' t))
by_facts false true m n rule rule' s t vu nm h p = absurd (unequal (sym (vu refl)))
by_facts false false m n rule rule' s Muddled vu nm h p = below_mixed (fact_of (strict_by false m rule s))
by_facts false false m n rule rule' Missing t vu nm h p = results_rise (Ok Unset) (strict_by false n rule' t) (unset_first (strict_by false n rule' t))
by_facts false false m n rule rule' Muddled Missing vu nm h p = cc
by_facts false false m n rule rule' Muddled (Clear b ys) vu nm h p = cc
by_facts false false m n rule rule' (Clear a xs) Missing vu nm h p = cc
by_facts false false m true rule rule' (Clear a xs) (Clear b ys) vu nm h p = below_mixed (fact_of (strict_by false m rule (Clear a xs)))
by_facts false false true false rule rule' (Clear a xs) (Clear b ys) vu nm h p = absurd (unequal (nm refl))
by_facts false false false false rule rule' (Clear a xs) (Clear b ys) vu nm h p =
    results_rise (rule a xs) (rule' b ys) (h refl refl a b xs ys (clear_kinds a b xs ys p) (clear_lengths a b xs ys p))

pub strict_list_facts : (rule rule' : FactKind → List (Option ℕ) → Ruled) (fs gs : List (Option Inferred)) (s t : Sort) → (any_fact is_unset fs ≡ false → any_fact is_mixed gs ≡ false → IsRising1 rule rule') → entries_below fs gs ≡ true → sort_below s t ≡ true → below (fact_of (strict_list rule s fs)) (fact_of (strict_list rule' t gs)) ≡ true
strict_list_facts rule rule' fs gs s t h b p =
    by_facts (any_fact is_unset fs) (any_fact is_unset gs) (any_fact is_mixed fs) (any_fact is_mixed gs) rule rule' s t (λ e. unset_entries fs gs b e) (λ e. clear_entries fs gs b e) h p

by_clear : (u m : Bool) (rule : FactKind → List (Option ℕ) → Ruled) → IsClearing1 rule → (f : Inferred) (s : Sort) → sort f ≡ s → m ≡ false → is_muddled s ≡ false → clear_result (strict_by u m rule s) ≡ true
by_clear true m rule c f s d e n = refl
by_clear false true rule c f s d e n = cc
by_clear false false rule c f Missing d e n = refl
by_clear false false rule c f Muddled d e n = cc
by_clear false false rule c f (Clear a xs) d e n = c a xs (sort_plain f a xs d)

pub strict_list_clear : (rule : FactKind → List (Option ℕ) → Ruled) → IsClearing1 rule → (f : Inferred) (fs : List (Option Inferred)) → is_mixed f ≡ false → any_fact is_mixed fs ≡ false → clear_result (strict_list rule (sort f) fs) ≡ true
strict_list_clear rule c f fs m n = by_clear (any_fact is_unset fs) (any_fact is_mixed fs) rule c f (sort f) refl n (clear_sort f m)

-- ---- Settled facts

settled_by : (c d : Bool) (f g : Inferred) → is_mixed f ≡ c → is_mixed g ≡ d → below f g ≡ true → below (mixed_if c f) (mixed_if d g) ≡ true
settled_by c true f g e d h = below_mixed (mixed_if c f)
settled_by true false f g e d h = absurd (unequal (sym e ∙ below_clear f g h d))
settled_by false false f g e d h = h

pub settled_rises : (f g : Inferred) → below f g ≡ true → below (settled f) (settled g) ≡ true
settled_rises f g h = settled_by (is_mixed f) (is_mixed g) f g refl refl h

settled_clear_by : (c : Bool) (f : Inferred) → is_mixed f ≡ c → c ≡ false → is_mixed (mixed_if c f) ≡ false
settled_clear_by true f e h = cc
settled_clear_by false f e h = e

pub settled_clear : (f : Inferred) → is_mixed f ≡ false → is_mixed (settled f) ≡ false
settled_clear f h = settled_clear_by (is_mixed f) f refl h

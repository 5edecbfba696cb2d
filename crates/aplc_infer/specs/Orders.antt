-- The order of what rules take and give, and what each rule owes: it rises with its arguments, where a refusal is above
-- all, and gives nothing mixed of what is not.
use Rattle.std.specs.Prelude.{◌≡◌, ℕ, Bool, true, false, ◌&&◌, not, List, [], ◌∷◌, Option, Some, None, Ok, Err}
use Rattle.aplc_infer.specs.declared.fact.FactKind.{FactKind}
use Rattle.aplc_infer.specs.declared.fact.Inferred.{Inferred}
use Rattle.aplc_infer.specs.Facts.{kind_below, lengths_below, below, is_mixed_kind, is_mixed, is_unset}
use Rattle.aplc_infer.specs.Rules.{Ruled, Sort, Missing, Muddled, Clear, any_fact}

-- ---- Orders

-- a refusal is above all
abbrev pub below_result : Ruled → Ruled → Bool
below_result r (Err e) = true
below_result (Ok x) (Ok y) = below x y
below_result (Err e) (Ok y) = false

-- of kinds of which none is mixed
abbrev pub plain_below : FactKind → FactKind → Bool
plain_below a b = kind_below a b && not (is_mixed_kind b)

abbrev pub sort_below : Sort → Sort → Bool
sort_below Missing t = true
sort_below Muddled Missing = false
sort_below Muddled Muddled = true
sort_below Muddled (Clear b ys) = false
sort_below (Clear a xs) Missing = false
sort_below (Clear a xs) Muddled = true
sort_below (Clear a xs) (Clear b ys) = plain_below a b && lengths_below xs ys

abbrev pub is_muddled : Sort → Bool
is_muddled Missing = false
is_muddled Muddled = true
is_muddled (Clear a xs) = false

-- of entries of index lists, the same of them left out
abbrev pub entries_below : List (Option Inferred) → List (Option Inferred) → Bool
entries_below [] [] = true
entries_below [] (g ∷ gs) = false
entries_below (f ∷ fs) [] = false
entries_below (None ∷ fs) (None ∷ gs) = entries_below fs gs
entries_below (None ∷ fs) (Some y ∷ gs) = false
entries_below (Some x ∷ fs) (None ∷ gs) = false
entries_below (Some x ∷ fs) (Some y ∷ gs) = below x y && entries_below fs gs

-- ---- What rules owe

-- of one argument: the second rule is above the first one
abbrev pub IsRising1 : (FactKind → List (Option ℕ) → Ruled) → (FactKind → List (Option ℕ) → Ruled) → Type 0
IsRising1 rule rule' = (a a' : FactKind) (xs xs' : List (Option ℕ)) → plain_below a a' ≡ true → lengths_below xs xs' ≡ true → below_result (rule a xs) (rule' a' xs') ≡ true

-- of two arguments
abbrev pub IsRising : (FactKind → List (Option ℕ) → FactKind → List (Option ℕ) → Ruled) → Type 0
IsRising rule = (a a' : FactKind) (xs xs' : List (Option ℕ)) (b b' : FactKind) (ys ys' : List (Option ℕ)) → plain_below a a' ≡ true → lengths_below xs xs' ≡ true → plain_below b b' ≡ true → lengths_below ys ys' ≡ true → below_result (rule a xs b ys) (rule a' xs' b' ys') ≡ true

-- of an array and the entries of an index list, of which none is unset and none mixed
abbrev pub IsRisingList : (List (Option Inferred) → FactKind → List (Option ℕ) → Ruled) → Type 0
IsRisingList rule = (fs gs : List (Option Inferred)) → entries_below fs gs ≡ true → any_fact is_unset fs ≡ false → any_fact is_mixed gs ≡ false → IsRising1 (rule fs) (rule gs)

-- and of a value besides, which is to be set
abbrev pub IsRisingChange : (List (Option Inferred) → FactKind → List (Option ℕ) → FactKind → List (Option ℕ) → Ruled) → Type 0
IsRisingChange rule =
    (fs gs : List (Option Inferred)) → entries_below fs gs ≡ true → any_fact is_unset fs ≡ false → any_fact is_mixed gs ≡ false → (a a' : FactKind) (xs xs' : List (Option ℕ)) (b b' : FactKind) (ys ys' : List (Option ℕ)) → plain_below a a' ≡ true → lengths_below xs xs' ≡ true → plain_below b b' ≡ true → lengths_below ys ys' ≡ true → below_result (rule fs a xs b ys) (rule gs a' xs' b' ys') ≡ true

-- a fact that a rule gives has a kind and a rank
abbrev pub clear_result : Ruled → Bool
clear_result (Ok x) = not (is_mixed x)
clear_result (Err e) = true

abbrev pub IsClearing1 : (FactKind → List (Option ℕ) → Ruled) → Type 0
IsClearing1 rule = (a : FactKind) (xs : List (Option ℕ)) → is_mixed_kind a ≡ false → clear_result (rule a xs) ≡ true

abbrev pub IsClearing : (FactKind → List (Option ℕ) → FactKind → List (Option ℕ) → Ruled) → Type 0
IsClearing rule = (a : FactKind) (xs : List (Option ℕ)) (b : FactKind) (ys : List (Option ℕ)) → is_mixed_kind a ≡ false → is_mixed_kind b ≡ false → clear_result (rule a xs b ys) ≡ true

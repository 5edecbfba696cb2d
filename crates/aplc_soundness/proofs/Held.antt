-- Facts that hold: with one that holds of an array those above it do too.
use Rattle.std.proofs.Common.{◌≡◌, ◌∙◌, sym, ap, refl, ℕ, suc, List, [], ◌∷◌, ◌++◌, length, Option, Some, None, Bool, true, false, ◌&&◌}
use Rattle.std.specs.Prelude.{nat_le, ◌≢◌, if◌then◌else◌}
use Rattle.std.specs.List.{AllByRecursion}
use Rattle.aplc_scalar.specs.declared.kind.FaultKind.{FaultKind}
use Rattle.aplc_scalar.specs.declared.kind.FaultKind.TheVariants as fault
use Rattle.aplc_arr.specs.Arrays.{Array, count_limit}
use Rattle.aplc_infer.specs.declared.fact.FactKind.{FactKind}
use Rattle.aplc_infer.specs.declared.fact.FactKind.TheVariants.{Bit, Num, Char, Mixed}
use Rattle.aplc_infer.specs.declared.fact.Inferred.{Inferred}
use Rattle.aplc_infer.specs.declared.fact.Inferred.TheVariants.{Unset, Of}
use Rattle.aplc_infer.specs.Facts.{kind_below, length_below, lengths_below, shape_below, below, is_unset, is_mixed, mixed_if, settled}
use Rattle.aplc_infer.specs.Rules.{any_fact, within_limit}
use Rattle.aplc_soundness.specs.Holding.{HoldsKind, HoldsLength, HoldsLengths, HoldsShape, IsWhole, Holds, HoldsOf, HoldsAll}
use Rattle.aplc_infer.proofs.Trials.{equal_of}

-- ---- Tests and faults

pub no : false ≡ true → ⊥
no e = cc

pub and_parts : (a b : Bool) → (a && b) ≡ true → (a ≡ true) × (b ≡ true)
and_parts true b e = (refl, e)
and_parts false b e = absurd (no e)

pub same_some : {X : Type 0} (x y : X) → Some x ≡ Some y → x ≡ y
same_some x y e = cc

abbrev pub is_rank : FaultKind → Bool
is_rank fault.Rank = true
is_rank _ = false

pub not_rank : (e : FaultKind) → is_rank e ≡ false → e ≢ fault.Rank
not_rank e is h = no (sym is ∙ ap is_rank h)

pub every_parts : {X : Type 0} (P : X → Type 0) (xs ys : List X) → AllByRecursion P (xs ++ ys) → AllByRecursion P xs × AllByRecursion P ys
every_parts P [] ys h = (tt, h)
every_parts P (x ∷ xs) ys h = let rest = every_parts P xs ys h.1 in ((h.0, rest.0), rest.1)

pub every_push : {X : Type 0} (P : X → Type 0) (xs : List X) (x : X) → AllByRecursion P xs → P x → AllByRecursion P (xs ++ x ∷ [])
every_push P [] x h p = (p, tt)
every_push P (y ∷ xs) x h p = (h.0, every_push P xs x h.1 p)

-- ---- Facts above

kind_above : (f h : FactKind) (a : Array) → kind_below f h ≡ true → HoldsKind f a → HoldsKind h a
kind_above Bit Bit a e p = p
kind_above Bit Num a e p = p.0
kind_above Bit Char a e p = absurd (no e)
kind_above Num Bit a e p = absurd (no e)
kind_above Num Num a e p = p
kind_above Num Char a e p = absurd (no e)
kind_above Char Bit a e p = absurd (no e)
kind_above Char Num a e p = absurd (no e)
kind_above Char Char a e p = p
kind_above Mixed Bit a e p = absurd (no e)
kind_above Mixed Num a e p = absurd (no e)
kind_above Mixed Char a e p = absurd (no e)
kind_above f Mixed a e p = tt

length_above : (x y : Option ℕ) (n : ℕ) → length_below x y ≡ true → HoldsLength x n → HoldsLength y n
length_above x None n e p = tt
length_above None (Some y) n e p = absurd (no e)
length_above (Some x) (Some y) n e p = sym (equal_of x y e) ∙ p

lengths_above : (xs ys : List (Option ℕ)) (ns : List ℕ) → lengths_below xs ys ≡ true → HoldsLengths xs ns → HoldsLengths ys ns
lengths_above [] [] ns e p = p
lengths_above [] (y ∷ ys) ns e p = absurd (no e)
lengths_above (x ∷ xs) [] ns e p = absurd (no e)
lengths_above (x ∷ xs) (y ∷ ys) [] e p = p
lengths_above (x ∷ xs) (y ∷ ys) (n ∷ ns) e p =
    let parts = and_parts (length_below x y) (lengths_below xs ys) e in
    (length_above x y n parts.0 p.0, lengths_above xs ys ns parts.1 p.1)

shape_above : (s t : Option (List (Option ℕ))) (ns : List ℕ) → shape_below s t ≡ true → HoldsShape s ns → HoldsShape t ns
shape_above s None ns e p = tt
shape_above None (Some ys) ns e p = absurd (no e)
shape_above (Some xs) (Some ys) ns e p = lengths_above xs ys ns e p

pub holds_above : (f h : Inferred) (a : Array) → below f h ≡ true → Holds f a → Holds h a
holds_above Unset h a e p = absurd p
holds_above (Of x s) Unset a e p = absurd (no e)
holds_above (Of x s) (Of y t) a e p =
    let parts = and_parts (kind_below x y) (shape_below s t) e in
    (kind_above x y a parts.0 p.0, shape_above s t a.shape parts.1 p.1, p.2)

pub holds_of_above : (f h : Inferred) (v : Option Array) → below f h ≡ true → HoldsOf f v → HoldsOf h v
holds_of_above f h None e p = tt
holds_of_above f h (Some a) e p = holds_above f h a e p

pub whole_of : (f : Inferred) (a : Array) → Holds f a → IsWhole a
whole_of Unset a p = absurd p
whole_of (Of x s) a p = p.2

mixed_if_holds : (b : Bool) (f : Inferred) (a : Array) → Holds f a → Holds (mixed_if b f) a
mixed_if_holds true f a p = (tt, tt, whole_of f a p)
mixed_if_holds false f a p = p

pub settled_holds : (f : Inferred) (a : Array) → Holds f a → Holds (settled f) a
settled_holds f a p = mixed_if_holds (is_mixed f) f a p

-- ---- Lengths

pub within_limit_holds : (m n : ℕ) → m ≡ n → HoldsLength (within_limit m) n
within_limit_holds m n e = by_test (nat_le m count_limit)
  where
    by_test : (b : Bool) → HoldsLength (if b then Some m else None) n
    by_test true = e
    by_test false = tt

pub same_rank : (xs : List (Option ℕ)) (ns : List ℕ) → HoldsLengths xs ns → length xs ≡ length ns
same_rank [] [] h = refl
same_rank [] (n ∷ ns) h = absurd h
same_rank (x ∷ xs) [] h = absurd h
same_rank (x ∷ xs) (n ∷ ns) h = ap suc (same_rank xs ns h.1)

-- ---- Lists of facts

pub same_many : (fs : List (Option Inferred)) (vs : List (Option Array)) → HoldsAll fs vs → length fs ≡ length vs
same_many [] [] h = refl
same_many [] (v ∷ vs) h = absurd h
same_many (None ∷ fs) [] h = absurd h
same_many (Some f ∷ fs) [] h = absurd h
same_many (None ∷ fs) (None ∷ vs) h = ap suc (same_many fs vs h)
same_many (None ∷ fs) (Some v ∷ vs) h = absurd h
same_many (Some f ∷ fs) (None ∷ vs) h = absurd h
same_many (Some f ∷ fs) (Some v ∷ vs) h = ap suc (same_many fs vs h.1)

pub set_fact : (f : Inferred) (v : Array) → Holds f v → is_unset f ≡ false
set_fact Unset v h = absurd h
set_fact (Of a s) v h = refl

-- none of them is unset
pub all_set : (fs : List (Option Inferred)) (vs : List (Option Array)) → HoldsAll fs vs → any_fact is_unset fs ≡ false
all_set [] vs h = refl
all_set (None ∷ fs) [] h = absurd h
all_set (None ∷ fs) (None ∷ vs) h = all_set fs vs h
all_set (None ∷ fs) (Some v ∷ vs) h = absurd h
all_set (Some f ∷ fs) [] h = absurd h
all_set (Some f ∷ fs) (None ∷ vs) h = absurd h
all_set (Some f ∷ fs) (Some v ∷ vs) h = rw (set_fact f v h.0, all_set fs vs h.1) refl

-- Of which arrays a fact holds.
use Rattle.std.specs.Prelude.{◌≡◌, ℕ, List, [], ◌∷◌, Option, Some, None, true, length}
use Rattle.std.specs.List.{AllByRecursion}
use Rattle.aplc_scalar.specs.declared.kind.Kind.TheVariants as kind
use Rattle.aplc_arr.specs.Arrays.{Array, product}
use Rattle.aplc_infer.specs.declared.fact.FactKind.{FactKind}
use Rattle.aplc_infer.specs.declared.fact.FactKind.TheVariants.{Bit, Num, Char, Mixed}
use Rattle.aplc_infer.specs.declared.fact.Inferred.{Inferred}
use Rattle.aplc_infer.specs.declared.fact.Inferred.TheVariants.{Unset, Of}
use Rattle.aplc_infer.specs.Rules.{is_bit}

-- bits are numbers of which each is 0 or 1; a mixed kind says nothing
abbrev pub HoldsKind : FactKind → Array → Type 0
HoldsKind Bit a = (a.kind ≡ kind.Num) × AllByRecursion (λ z. is_bit z ≡ true) a.cells
HoldsKind Num a = a.kind ≡ kind.Num
HoldsKind Char a = a.kind ≡ kind.Char
HoldsKind Mixed a = Unit {0}

-- an axis has the length that is known of it
abbrev pub HoldsLength : Option ℕ → ℕ → Type 0
HoldsLength None n = Unit {0}
HoldsLength (Some m) n = m ≡ n

-- there are as many axes, and each has its length
abbrev pub HoldsLengths : List (Option ℕ) → List ℕ → Type 0
HoldsLengths [] [] = Unit {0}
HoldsLengths [] (n ∷ ns) = ⊥
HoldsLengths (x ∷ xs) [] = ⊥
HoldsLengths (x ∷ xs) (n ∷ ns) = HoldsLength x n × HoldsLengths xs ns

-- a mixed rank says nothing
abbrev pub HoldsShape : Option (List (Option ℕ)) → List ℕ → Type 0
HoldsShape None ns = Unit {0}
HoldsShape (Some xs) ns = HoldsLengths xs ns

-- there are as many elements as the shape has room for
abbrev pub IsWhole : Array → Type 0
IsWhole a = length a.cells ≡ product a.shape

-- what is unset has no value
abbrev pub Holds : Inferred → Array → Type 0
Holds Unset a = ⊥
Holds (Of f s) a = HoldsKind f a × HoldsShape s a.shape × IsWhole a

-- of a value, if there is one
abbrev pub HoldsOf : Inferred → Option Array → Type 0
HoldsOf f None = Unit {0}
HoldsOf f (Some a) = Holds f a

-- of the entries of an index list, or of the arguments of a call: each has a value just where it has a fact
abbrev pub HoldsAll : List (Option Inferred) → List (Option Array) → Type 0
HoldsAll [] [] = Unit {0}
HoldsAll (None ∷ fs) (None ∷ vs) = HoldsAll fs vs
HoldsAll (Some f ∷ fs) (Some v ∷ vs) = Holds f v × HoldsAll fs vs
HoldsAll _ _ = ⊥

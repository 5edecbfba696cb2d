-- Places of what is not built, computed over trees and facts.
use Rattle.std.proofs.Common.{◌≡◌, refl, ℕ, [], ◌∷◌, None, Some}
use Rattle.std.specs.Prelude.{pos}
use Rattle.aplc_scalar.specs.declared.function.ScalarFn.TheVariants as function
use Rattle.aplc_syntax.specs.declared.tree.Primitive.TheVariants as pr
use Rattle.aplc_syntax.specs.PlainTrees.{Tree, Numbers, Name, Mono, Dyad, Assign, Show, Call, absent, given}
use Rattle.aplc_infer.specs.declared.fact.FactKind.TheVariants.{Num}
use Rattle.aplc_infer.specs.declared.facts.Fact.{Fact}
use Rattle.aplc_gen.specs.Unbuilt.{FactList, unbuilt, least}

abbrev one : ℕ → Tree
one p = Numbers 0 p (pos 7 ∷ [])

abbrev vector : ℕ → Tree
vector p = Numbers 0 p (pos 1 ∷ pos 2 ∷ [])

-- node 0 has no fact, node 1 is a number of rank 0, node 2 a vector
abbrev facts : FactList
facts = None ∷ Some record { kind = Num; rank = Some 0; lengths = [] } ∷ Some record { kind = Num; rank = Some 1; lengths = None ∷ [] } ∷ []

-- `1 2⍴7` in the first line of MAIN: the literal stands before the function
shape_is : least (unbuilt facts (Dyad 0 11 pr.Shape (vector 8) (one 14))) ≡ Some 8
shape_is = refl

-- `7-7` is built, and so is `-7`
difference_is : least (unbuilt facts (Dyad 0 9 (pr.Scalar function.Sub) (one 8) (one 10))) ≡ None
difference_is = refl

negative_is : least (unbuilt facts (Mono 0 8 (pr.Scalar function.Sub) (one 9))) ≡ None
negative_is = refl

-- `×7` is not
sign_is : least (unbuilt facts (Mono 0 8 (pr.Scalar function.Mul) (one 9))) ≡ Some 8
sign_is = refl

-- a name of a number is built, and one of a vector is not; `A←A F A` reads it twice
scalar_is : least (unbuilt facts (Assign 0 8 3 (Call 0 12 4 (given (Name 1 10 3)) (given (Name 1 14 3))))) ≡ None
scalar_is = refl

vector_read : least (unbuilt facts (Assign 0 8 3 (Call 0 12 4 (given (Name 1 10 3)) (given (Name 2 14 3))))) ≡ Some 14
vector_read = refl

-- so is a name that is never read, and a call without arguments
never_read : least (unbuilt facts (Name 0 8 3)) ≡ None
never_read = refl

call_is : least (unbuilt facts (Call 0 8 4 absent absent)) ≡ None
call_is = refl

-- `⎕←7` is not built
shown_is : least (unbuilt facts (Show 0 8 (one 10))) ≡ Some 8
shown_is = refl

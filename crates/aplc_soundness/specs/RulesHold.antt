-- What the rules owe to evaluation: where facts hold of the arguments and a rule gives a fact, that holds of the result.
use Rattle.std.specs.Prelude.{◌≡◌, ◌≢◌, ℕ, false, List, Option, Some, None, ℤ, Result, Ok, Err}
use Rattle.aplc_scalar.specs.declared.kind.Kind.{Kind}
use Rattle.aplc_scalar.specs.declared.kind.Kind.TheVariants as kind
use Rattle.aplc_scalar.specs.declared.kind.FaultKind.{FaultKind}
use Rattle.aplc_scalar.specs.declared.kind.FaultKind.TheVariants as fault
use Rattle.aplc_syntax.specs.declared.tree.Primitive.{Primitive}
use Rattle.aplc_arr.specs.Arrays.{Array}
use Rattle.aplc_arr.specs.Delayed.{Prepared, cells_of}
use Rattle.aplc_arr.specs.Indexing.{indexed, changed}
use Rattle.aplc_names.specs.Primitives.{mono_of, dyad_of}
use Rattle.aplc_names.specs.Eager.{literal, branch_to}
use Rattle.aplc_infer.specs.declared.fact.Inferred.{Inferred}
use Rattle.aplc_infer.specs.Facts.{is_mixed}
use Rattle.aplc_infer.specs.Rules.{Literal, any_fact, monadic_fact, dyadic_fact, index_fact, change_fact, left_fact, branch_fact}
use Rattle.aplc_soundness.specs.Holding.{Holds, HoldsAll}

-- an argument that is a literal has just its numbers
abbrev pub IsLiteral : Literal → Array → Type 0
IsLiteral None a = Unit {0}
IsLiteral (Some zs) a = a ≡ literal kind.Num zs

-- the elements make an array of which the fact holds, or there is a fault, which is not RANK
abbrev pub HoldsOfCells : Inferred → Kind → List ℕ → Result (List ℤ) FaultKind → Type 0
HoldsOfCells f k ns (Ok zs) = Holds f record { kind = k; shape = ns; cells = zs }
HoldsOfCells f k ns (Err e) = e ≢ fault.Rank

-- so for an array by a formula
abbrev pub HoldsOfPrepared : Inferred → Prepared → Type 0
HoldsOfPrepared f (Err e) = e ≢ fault.Rank
HoldsOfPrepared f (Ok d) = HoldsOfCells f d.kind d.shape (cells_of d)

abbrev pub HoldsOfChanged : Inferred → Result Array FaultKind → Type 0
HoldsOfChanged f (Err e) = e ≢ fault.Rank
HoldsOfChanged f (Ok a) = Holds f a

-- of arguments of which none is mixed
pub record RulesHold (o : ℤ) : Type 0 where
  pub monadic : (h : Primitive) (lit : Literal) (b : Array) (x y : Inferred) → Holds x b → is_mixed x ≡ false → IsLiteral lit b → monadic_fact o h lit x ≡ Ok y → HoldsOfPrepared y (mono_of o h b)
  pub dyadic : (h : Primitive) (lit : Literal) (a b : Array) (x y z : Inferred) → Holds x a → Holds y b → is_mixed x ≡ false → is_mixed y ≡ false → IsLiteral lit a → dyadic_fact o h lit x y ≡ Ok z → HoldsOfPrepared z (dyad_of o h a b)
  pub index : (a : Array) (vs : List (Option Array)) (x z : Inferred) (ys : List (Option Inferred)) → Holds x a → HoldsAll ys vs → is_mixed x ≡ false → any_fact is_mixed ys ≡ false → index_fact x ys ≡ Ok z → HoldsOfPrepared z (indexed o a vs)
  -- the name's new value, and the node's
  pub change : (a v : Array) (vs : List (Option Array)) (x y z : Inferred) (ys : List (Option Inferred)) → Holds x a → HoldsAll ys vs → Holds y v → is_mixed x ≡ false → any_fact is_mixed ys ≡ false → is_mixed y ≡ false → change_fact x ys y ≡ Ok z → HoldsOfChanged (left_fact x y) (changed o a vs v) × Holds z v
  pub branch : (v : Array) (x y : Inferred) → Holds x v → is_mixed x ≡ false → branch_fact x ≡ Ok y → branch_to v ≢ Err fault.Rank

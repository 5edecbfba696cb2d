-- What names that are read, the arguments of calls and their results were given in a run.
use Rattle.std.specs.Prelude.{ℕ, List, unwrap_or}
use Rattle.aplc_syntax.specs.PlainTrees.{Tree, Name, Mono, Dyad, Index, Assign, AssignAt, Show, Call, Trees, no_more, left_out, and_tree, Argument, absent, given, id_of}
use Rattle.aplc_arr.specs.Arrays.{Array}
use Rattle.aplc_names.specs.PlainPrograms.{Action, nothing, quiet, perform, display, branch}
use Rattle.aplc_names.specs.States.{Giving}
use Rattle.aplc_infer.specs.declared.fact.Inferred.{Inferred}
use Rattle.aplc_infer.specs.declared.cell.Binding.{Binding}
use Rattle.aplc_infer.specs.declared.cell.Binding.TheVariants as binds
use Rattle.aplc_infer.specs.declared.cell.Cell.TheVariants as cell
use Rattle.aplc_infer.specs.Rules.{label_fact}
use Rattle.aplc_infer.specs.Seeing.{Family, Context, function_of}
use Rattle.aplc_soundness.specs.Holding.{Holds}
use Rattle.aplc_soundness.specs.Taking.{IsGiven}

-- the fact holds of each value that node i was given
abbrev pub HoldsGiven : List Giving → ℕ → Inferred → Type 0
HoldsGiven xs i x = (v : Array) → IsGiven xs i v → Holds x v

-- A global name that is read has a value of which its own fact holds, the declared one if it is declared, and a label its
-- line's number. (The fact of a local name is another at each line.)
abbrev pub NameGiven : Context → Family → List Giving → Binding → (i n : ℕ) → Type 0
NameGiven c g xs (binds.Local k) i n = Unit {0}
NameGiven c g xs (binds.Label z) i n = HoldsGiven xs i label_fact
NameGiven c g xs (binds.Function j) i n = Unit {0}
NameGiven c g xs binds.Global i n = HoldsGiven xs i (unwrap_or (c.declared n) (g (cell.Global n)))

-- an argument of a call has a value of which the parameter's fact holds
abbrev pub ParameterGiven : List Giving → Argument → Inferred → Type 0
ParameterGiven xs absent x = Unit {0}
ParameterGiven xs (given t) x = HoldsGiven xs (id_of t) x

-- in all of a tree; the value of a call is one of which the fact of the function's result holds
abbrev mutual
  pub PassesGiven : Context → Family → List Giving → Tree → Type 0
  PassesGiven c g xs (Name i p n) = NameGiven c g xs (c.binding n) i n
  PassesGiven c g xs (Mono i p f b) = PassesGiven c g xs b
  PassesGiven c g xs (Dyad i p f a b) = PassesGiven c g xs a × PassesGiven c g xs b
  PassesGiven c g xs (Index i p a ts) = PassesGiven c g xs a × EntriesPass c g xs ts
  PassesGiven c g xs (Assign i p n a) = PassesGiven c g xs a
  PassesGiven c g xs (AssignAt i p n ts a) = EntriesPass c g xs ts × PassesGiven c g xs a
  PassesGiven c g xs (Show i p a) = PassesGiven c g xs a
  PassesGiven c g xs (Call i p n a b) =
      HoldsGiven xs i (g (cell.Answer (function_of (c.binding n)))) × ParameterGiven xs a (g (cell.Left (function_of (c.binding n)))) × ParameterGiven xs b (g (cell.Right (function_of (c.binding n)))) × ArgumentPasses c g xs a × ArgumentPasses c g xs b
  PassesGiven c g xs t = Unit {0}

  pub EntriesPass : Context → Family → List Giving → Trees → Type 0
  EntriesPass c g xs no_more = Unit {0}
  EntriesPass c g xs (left_out ts) = EntriesPass c g xs ts
  EntriesPass c g xs (and_tree t ts) = PassesGiven c g xs t × EntriesPass c g xs ts

  pub ArgumentPasses : Context → Family → List Giving → Argument → Type 0
  ArgumentPasses c g xs absent = Unit {0}
  ArgumentPasses c g xs (given t) = PassesGiven c g xs t

abbrev pub ActionPasses : Context → Family → List Giving → Action → Type 0
ActionPasses c g xs nothing = Unit {0}
ActionPasses c g xs (quiet t) = PassesGiven c g xs t
ActionPasses c g xs (display t) = PassesGiven c g xs t
ActionPasses c g xs (branch p t) = PassesGiven c g xs t
ActionPasses c g xs (perform i p n a b) =
    ParameterGiven xs a (g (cell.Left (function_of (c.binding n)))) × ParameterGiven xs b (g (cell.Right (function_of (c.binding n)))) × ArgumentPasses c g xs a × ArgumentPasses c g xs b

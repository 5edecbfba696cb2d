-- Where lines lead and what facts join to, computed.
use Rattle.std.proofs.Common.{◌≡◌, refl, ℕ, zero, suc, [], ◌∷◌, Some, None, true, false}
use Rattle.std.specs.Prelude.{pos, negsuc}
use Rattle.aplc_syntax.specs.declared.tree.Axis.TheVariants as ax
use Rattle.aplc_syntax.specs.declared.tree.Primitive.{Primitive}
use Rattle.aplc_syntax.specs.declared.tree.Primitive.TheVariants as pr
use Rattle.aplc_syntax.specs.PlainTrees.{Tree, Numbers, Name, Mono, Dyad, Assign}
use Rattle.aplc_names.specs.PlainPrograms.{nothing, quiet, display, branch}
use Rattle.aplc_infer.specs.declared.fact.FactKind.TheVariants.{Bit, Num, Char, Mixed}
use Rattle.aplc_infer.specs.declared.fact.Inferred.TheVariants.{Unset, Of}
use Rattle.aplc_infer.specs.declared.cell.Binding.{Binding}
use Rattle.aplc_infer.specs.declared.cell.Binding.TheVariants as binds
use Rattle.aplc_infer.specs.declared.cell.Flow.TheVariants as flow
use Rattle.aplc_infer.specs.Facts.{below, join, mixed, settled}
use Rattle.aplc_infer.specs.Seeing.{flow_of, leads}

-- ---- Where lines lead

-- name 0 is a label of line 3, name 1 a local name
abbrev names : ℕ → Binding
names zero = binds.Label (pos 3)
names (suc zero) = binds.Local 0
names (suc (suc n)) = binds.Global

abbrev label : Tree
label = Name 9 9 0

abbrev local : Tree
local = Name 9 9 1

abbrev chosen_by : Primitive → Tree
chosen_by f = Dyad 5 5 f local label

no_statement : flow_of names nothing ≡ flow.Next
no_statement = refl

no_branch : flow_of names (quiet (Assign 1 1 1 label)) ≡ flow.Next
no_branch = refl

displayed : flow_of names (display label) ≡ flow.Next
displayed = refl

to_a_label : flow_of names (branch 1 label) ≡ flow.To 3
to_a_label = refl

chosen_label : flow_of names (branch 1 (chosen_by (pr.Replicate ax.Last))) ≡ flow.Either 3
chosen_label = refl

reshaped_label : flow_of names (branch 1 (chosen_by pr.Shape)) ≡ flow.Either 3
reshaped_label = refl

chosen_along_first : flow_of names (branch 1 (chosen_by (pr.Replicate ax.First))) ≡ flow.Any
chosen_along_first = refl

chosen_along_named : flow_of names (branch 1 (chosen_by (pr.Replicate (ax.At (pos 1))))) ≡ flow.Any
chosen_along_named = refl

chosen_local : flow_of names (branch 1 (Dyad 5 5 (pr.Replicate ax.Last) label local)) ≡ flow.Any
chosen_local = refl

to_a_number : flow_of names (branch 1 (Numbers 4 4 (pos 2 ∷ []))) ≡ flow.To 2
to_a_number = refl

to_nothing : flow_of names (branch 1 (Numbers 4 4 (negsuc 0 ∷ []))) ≡ flow.To 0
to_nothing = refl

by_two_numbers : flow_of names (branch 1 (Numbers 4 4 (pos 2 ∷ pos 0 ∷ []))) ≡ flow.Any
by_two_numbers = refl

by_a_value : flow_of names (branch 1 local) ≡ flow.Any
by_a_value = refl

by_a_function : flow_of names (branch 1 (Mono 4 4 pr.Ravel label)) ≡ flow.Any
by_a_function = refl

next_alone : leads flow.Next 4 5 ≡ true
next_alone = refl

not_elsewhere : leads flow.Next 4 3 ≡ false
not_elsewhere = refl

either_there : leads (flow.Either 3) 4 3 ≡ true
either_there = refl

either_next : leads (flow.Either 3) 4 5 ≡ true
either_next = refl

either_else : leads (flow.Either 3) 4 4 ≡ false
either_else = refl

anywhere : leads flow.Any 4 0 ≡ true
anywhere = refl

-- ---- Joins

bits_and_numbers : join (Of Bit (Some (Some 2 ∷ []))) (Of Num (Some (Some 2 ∷ []))) ≡ Of Num (Some (Some 2 ∷ []))
bits_and_numbers = refl

other_length : join (Of Bit (Some (Some 2 ∷ Some 3 ∷ []))) (Of Bit (Some (Some 2 ∷ Some 4 ∷ []))) ≡ Of Bit (Some (Some 2 ∷ None ∷ []))
other_length = refl

other_rank : join (Of Num (Some [])) (Of Num (Some (Some 1 ∷ []))) ≡ Of Num None
other_rank = refl

characters_and_bits : join (Of Char (Some [])) (Of Bit (Some [])) ≡ Of Mixed (Some [])
characters_and_bits = refl

with_unset : join Unset (Of Char (Some [])) ≡ Of Char (Some [])
with_unset = refl

mixed_kind : settled (Of Mixed (Some [])) ≡ mixed
mixed_kind = refl

mixed_rank : settled (Of Num None) ≡ mixed
mixed_rank = refl

known_below_unknown : below (Of Bit (Some (Some 2 ∷ []))) (Of Num (Some (None ∷ []))) ≡ true
known_below_unknown = refl

unknown_above_known : below (Of Bit (Some (None ∷ []))) (Of Num (Some (Some 2 ∷ []))) ≡ false
unknown_above_known = refl

rank_above : below (Of Num (Some (Some 1 ∷ []))) (Of Num (Some [])) ≡ false
rank_above = refl

-- Where lines lead.
use Rattle.std.proofs.Common.{◌≡◌, refl, ℕ}
use Rattle.aplc_syntax.specs.PlainTrees.{Tree, Numbers, Text, Name, TextInput, NumsInput, Mono, Dyad, Index, Assign, AssignAt, Show, Call}
use Rattle.aplc_names.specs.PlainPrograms.{quiet_of}
use Rattle.aplc_infer.specs.declared.cell.Binding.{Binding}
use Rattle.aplc_infer.specs.declared.cell.Flow.TheVariants as flow
use Rattle.aplc_infer.specs.Seeing.{flow_of}

-- what is evaluated and nothing more goes on
pub quiet_next : (b : ℕ → Binding) (t : Tree) → flow_of b (quiet_of t) ≡ flow.Next
quiet_next b (Numbers i p zs) = refl
quiet_next b (Text i p cs) = refl
quiet_next b (Name i p n) = refl
quiet_next b (TextInput i p) = refl
quiet_next b (NumsInput i p) = refl
quiet_next b (Mono i p f a) = refl
quiet_next b (Dyad i p f x y) = refl
quiet_next b (Index i p a xs) = refl
quiet_next b (Assign i p n a) = refl
quiet_next b (AssignAt i p n xs a) = refl
quiet_next b (Show i p a) = refl
quiet_next b (Call i p n x y) = refl

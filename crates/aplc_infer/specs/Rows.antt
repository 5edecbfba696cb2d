-- Rows of which only what was changed is kept.
use Rattle.std.specs.Prelude.{◌≡◌, ◌⊎◌, ℕ, List, [], ◌∷◌, slice_set, nat_eq, if◌then◌else◌}
use Rattle.aplc_arr.specs.Delayed.{first_n}
use Rattle.aplc_infer.specs.declared.fact.Inferred.{Inferred}
use Rattle.aplc_infer.specs.declared.fact.Inferred.TheVariants.{Unset}
use Rattle.aplc_infer.specs.declared.row.Change.{Change}

abbrev pub with_changes : List Change → List Inferred → List Inferred
with_changes [] ns = ns
with_changes (x ∷ xs) ns = with_changes xs (slice_set ns x.local x.fact)

-- facts, or so many that are not set
abbrev pub base_or : ℕ → List Inferred → List Inferred
base_or n [] = first_n (λ k. Unset) n
base_or n (x ∷ xs) = x ∷ xs

-- all facts stand there, or only what was changed
abbrev pub IsEither : List Inferred → List Change → Type 0
IsEither base cs = (base ≡ []) ⊎ (cs ≡ [])

-- what name k was given last, if it was, or else this
abbrev pub last_change : List Change → ℕ → Inferred → Inferred
last_change [] k f = f
last_change (x ∷ xs) k f = last_change xs k (if nat_eq x.local k then x.fact else f)

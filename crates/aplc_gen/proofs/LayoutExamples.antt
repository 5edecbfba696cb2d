-- A program with a branch, a call and a name that may be unset, and the variables that are made for it.
use Rattle.std.proofs.Common.{◌≡◌, refl, ℕ, [], ◌∷◌, true, false, cond, nat_eq, Some, None, pos}
use Rattle.aplc_scalar.specs.Scalar.{in_range}
use Rattle.aplc_scalar.specs.declared.function.ScalarFn.TheVariants as f
use Rattle.aplc_scalar.specs.declared.kind.Kind.TheVariants.{Num}
use Rattle.aplc_syntax.specs.declared.tree.Primitive.TheVariants as pr
use Rattle.aplc_names.specs.declared.scope.Scope.{Scope}
use Rattle.aplc_names.specs.declared.scope.Scope.TheVariants as scope
use Rattle.aplc_core.specs.PlainSteps.{Literal, Read, Slot, Dyad, Keep, Store, Call, Show, Branch}
use Rattle.aplc_core.specs.CoreRuns.{CoreRoutine, PlainCore}
use Rattle.aplc_gen.specs.Layouts.{Layout}
use Rattle.aplc_gen.specs.Emitted.{site_at}
use Rattle.aplc_gen.specs.Laid.{is_laid_site, IsLaid, HasCounts}
use Rattle.aplc_gen.specs.Sound.{is_sound}
use Rattle.aplc_gen.specs.Made.{layout_of, is_modest}
use Rattle.aplc_gen.specs.Sparing.{spared}
use Rattle.aplc_gen.proofs.MadeLaid.{made_laid}
use Rattle.aplc_gen.proofs.MadeCounts.{made_counts}

-- MAIN: `→3`, `A←5`, `F A`. Name 1 is F, name 2 is A. The branch leads past the line that sets A.
abbrev main_scope : ℕ → Scope
main_scope n = cond (nat_eq n 1) (scope.Function 1) scope.Global

abbrev main : CoreRoutine
main = record {
  header = record { title = 77 ∷ 65 ∷ 73 ∷ 78 ∷ []; result = None; left = None; right = None; locals = []; scope = main_scope; lines = [] };
  steps =
      (Branch (Literal 0 Num (pos 3 ∷ [])) ∷ [])
      ∷ (Store 2 2 (Literal 1 Num (pos 5 ∷ [])) ∷ [])
      ∷ (Keep 0 (Read 3 2) ∷ Call 4 1 None (Some 0) (Some 1) ∷ Show None (Slot 4 1) ∷ [])
      ∷ [];
}

-- F: `R←X+1` with the result R, name 4, and the argument X, name 3
abbrev plus_scope : ℕ → Scope
plus_scope n = cond (nat_eq n 3) scope.Local (cond (nat_eq n 4) scope.Local (cond (nat_eq n 1) (scope.Function 1) scope.Global))

abbrev plus : CoreRoutine
plus = record {
  header = record { title = 70 ∷ []; result = Some 4; left = None; right = Some 3; locals = []; scope = plus_scope; lines = [] };
  steps = (Store 8 4 (Dyad 7 (pr.Scalar f.Add) (Read 6 3) (Literal 5 Num (pos 1 ∷ []))) ∷ []) ∷ [];
}

abbrev pub sample : PlainCore
sample = record { origin = pos 1; routines = main ∷ plus ∷ []; start = Some 0 }

pub sample_sound : is_sound sample ≡ true
unfolding in_range
sample_sound = refl

pub sample_modest : is_modest sample ≡ true
sample_modest = refl

-- A has a variable and a flag, F is called, MAIN has two slots, and X is sure in F
abbrev expected : Layout
expected = record {
  globals = 2 ∷ [];
  unsure = 2 ∷ [];
  called = 1 ∷ [];
  counted = true;
  frames =
      record { names = []; unsure = []; slots = 2; sure = [] }
      ∷ record { names = 4 ∷ 3 ∷ []; unsure = 4 ∷ 3 ∷ []; slots = 0; sure = 3 ∷ [] }
      ∷ [];
}

sample_layout : layout_of sample ≡ expected
sample_layout = refl

sample_begins : is_laid_site (site_at expected sample true 0) ≡ true
sample_begins = refl

sample_called : is_laid_site (site_at expected sample false 1) ≡ true
sample_called = refl

-- without its flag A could be read where it is unset
sample_needs_flag : is_laid_site (site_at (record expected { unsure = [] }) sample true 0) ≡ false
sample_needs_flag = refl

pub sample_laid : IsLaid (layout_of sample) sample
sample_laid = made_laid sample sample_sound sample_modest

pub sample_counts : HasCounts (layout_of sample)
sample_counts = made_counts sample sample_sound sample_modest

-- ---- With fewer flags

-- MAIN calls F and has the higher rank, so that calls need not be counted. The branch leaves A unset, so A keeps its flag;
-- X is an argument and the result is set before the end, so neither has one.
abbrev expected_spared : Layout
expected_spared = record {
  globals = 2 ∷ [];
  unsure = 2 ∷ [];
  called = 1 ∷ [];
  counted = false;
  frames =
      record { names = []; unsure = []; slots = 2; sure = [] }
      ∷ record { names = 4 ∷ 3 ∷ []; unsure = []; slots = 0; sure = 4 ∷ 3 ∷ [] }
      ∷ [];
}

sample_spared : spared sample (1 ∷ 0 ∷ []) ≡ expected_spared
sample_spared = refl

-- where the call does not lead down, calls are counted
sample_level : spared sample (0 ∷ 0 ∷ []) ≡ record expected_spared { counted = true }
sample_level = refl

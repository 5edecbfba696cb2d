-- Steps that are taken many at a time, and counted at the end.
use Rattle.std.specs.Prelude.{◌≡◌, ℕ, zero, suc, ◌+◌, max, slice_get}
use Rattle.aplc_crun.specs.declared.code.Node.{Node}
use Rattle.aplc_crun.specs.Flat.{Flat, Going, Layout, flat_act, act_at}

-- the most cells so far after so many steps, over which the cells held stayed the same
abbrev pub peak_after : ℕ → ℕ → ℕ → ℕ
peak_after zero peak held = peak
peak_after (suc k) peak held = max peak held

-- a run that is at a place, and so many steps later
abbrev pub stepped : ℕ → ℕ → Flat → Flat
stepped k at f = record f { at = at; steps = f.steps + k; peak = peak_after k f.peak f.held }

-- a statement at a place changes a run, and then another place is due, however many steps are not counted yet
abbrev pub Moves : Layout → Node → ℕ → Flat → ℕ → Flat → Type 0
Moves l nd at old next new = (k : ℕ) → flat_act l nd (stepped k at old) ≡ Going (stepped k next new)

-- the same of what stands at the place
abbrev pub Hops : Layout → ℕ → Flat → ℕ → Flat → Type 0
Hops l at old next new = (k : ℕ) → act_at l (slice_get l.nodes at) (stepped k at old) ≡ Going (stepped k next new)

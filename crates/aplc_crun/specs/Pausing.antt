-- What many steps come to.
use Rattle.std.specs.Prelude.{◌≡◌, ℕ, ◌+◌, Option, Some, None, true, nat_lt, length}
use Rattle.aplc_crun.specs.declared.code.Node.{Node}
use Rattle.aplc_crun.specs.declared.code.Node.TheVariants as form
use Rattle.aplc_crun.specs.declared.live.Verdict.{Verdict}
use Rattle.aplc_crun.specs.declared.live.Verdict.TheVariants as verdict
use Rattle.aplc_crun.specs.Flat.{Flat, Flow, Going, Ended, Faulted, Stuck, TakesMemory}

-- what stands where steps were taken until one was held, or until one was the last
abbrev pub paused : Verdict → Flat → Flow
paused verdict.Going f = Going f
paused verdict.Ended f = Ended f
paused (verdict.Faulted k) f = Faulted k f
paused (verdict.Stuck c) f = Stuck c f
paused verdict.Held f = Going f

-- how many steps were taken
abbrev pub taken : Verdict → ℕ
taken verdict.Held = 0
taken _ = 1

-- the room for output is short
abbrev pub IsShort : Flat → Type 0
IsShort f = nat_lt 8192 (length f.output + 64) ≡ true

abbrev pub IsRead : Node → Type 0
IsRead (form.ReadText p next) = Unit {0}
IsRead (form.ReadNums p next) = Unit {0}
IsRead _ = ⊥

-- the next statement due reads
abbrev pub ReadIsDue : Option Node → Type 0
ReadIsDue None = ⊥
ReadIsDue (Some n) = IsRead n

-- the next statement due may take memory
abbrev pub MemoryIsDue : Option Node → Type 0
MemoryIsDue None = ⊥
MemoryIsDue (Some n) = TakesMemory n

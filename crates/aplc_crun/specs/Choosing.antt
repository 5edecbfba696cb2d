-- Arms whose numbers rise, each above the one before.
use Rattle.std.specs.Prelude.{Bool, true, ◌&&◌, List, [], ◌∷◌, ℤ}
use Rattle.std.specs.Int.RustNames.{int_lt}
use Rattle.aplc_crun.specs.declared.choices.Choice.{Choice}

-- the first number is above another, and each further one above the one before
abbrev pub rises_above : ℤ → List Choice → Bool
rises_above low [] = true
rises_above low (c ∷ cs) = int_lt low c.value && rises_above c.value cs

abbrev pub rises : List Choice → Bool
rises [] = true
rises (c ∷ cs) = rises_above c.value cs

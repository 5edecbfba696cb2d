-- Arrays for examples.
use Rattle.std.specs.Prelude.{ℕ, List, [], ◌∷◌, ℤ, pos, map, length}
use Rattle.aplc_scalar.specs.declared.kind.Kind.TheVariants.{Num, Char}
use Rattle.aplc_arr.specs.Arrays.{Array}

abbrev pub nums : List ℕ → List ℤ → Array
nums ns zs = record { kind = Num; shape = ns; cells = zs }

-- characters by their codes
abbrev pub chars : List ℕ → List ℕ → Array
chars ns cs = record { kind = Char; shape = ns; cells = map pos cs }

-- a vector of characters
abbrev pub text : List ℕ → Array
text cs = chars (length cs ∷ []) cs

-- What the characters of a line mean, by the form of a read.
use Rattle.std.specs.Prelude.{ℕ, List, [], ◌∷◌, ◌++◌, ℤ, Option, Some, None, option_map}
use Rattle.aplc_scalar.specs.Input.{codes_of, number, numbers}
use Rattle.aplc_crun.specs.declared.decode.Form.{Form}
use Rattle.aplc_crun.specs.declared.decode.Form.TheVariants as kind

abbrev pub meaning_of : Form → List ℕ → Option (List ℤ)
meaning_of kind.Text = codes_of
meaning_of kind.Numbers = numbers

-- numbers before those of the rest of a line, if it holds any
unfoldable pub before : List ℤ → Option (List ℤ) → Option (List ℤ)
before done None = None
before done (Some ns) = Some (done ++ ns)

-- the numbers of one part: none of an empty one
abbrev pub of_part : List ℕ → Option (List ℤ)
of_part [] = Some []
of_part (c ∷ cs) = option_map (λ n. n ∷ []) (number (c ∷ cs))

-- Refusals by where they stand in the text of a program.
use Rattle.std.specs.Prelude.{◌≡◌, ℕ, ◌+◌}
use Rattle.aplc_lex.specs.declared.token.Refusal.{Refusal}
use Rattle.aplc_syntax.specs.declared.tree.Line.{Line}
use Rattle.aplc_syntax.specs.declared.tree.Function.{Function}
use Rattle.aplc_syntax.specs.declared.tree.Program.{Program}
use Rattle.aplc_names.specs.Firsts.{Somewhere}
use Rattle.aplc_names.specs.PlainPrograms.{Routine, routine_of, line_action}
use Rattle.aplc_infer.specs.Seeing.{Family}
use Rattle.aplc_infer.specs.Steps.{seen_in}

-- of a list: the refusal itself
abbrev pub IsThis : ℕ → Refusal → Refusal → Type 0
IsThis k q r = r ≡ q

-- of line n + 1 of a function
abbrev pub InLine : Program → Family → ℕ → Routine → ℕ → Line → Refusal → Type 0
InLine p g i f n line r = Somewhere IsThis (seen_in p g i f (n + 1) (line_action line)).refused r

abbrev pub InFunction : Program → Family → ℕ → Function → Refusal → Type 0
InFunction p g i fn r = Somewhere (InLine p g i (routine_of p fn)) fn.lines r

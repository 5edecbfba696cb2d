-- How the code finds what a name is: by tables of names and the numbers of lines.
use Rattle.std.specs.Prelude.{ℕ, List, map, Option, Some, None, ℤ}
use Rattle.std.specs.List.{slice_get}
use Rattle.std.specs.Option.{option_map_or}
use Rattle.aplc_syntax.specs.declared.tree.Function.{Function}
use Rattle.aplc_syntax.specs.declared.tree.Named.{Named}
use Rattle.aplc_syntax.specs.declared.tree.Program.{Program}
use Rattle.aplc_names.specs.declared.outline.Outline.{Outline}
use Rattle.aplc_names.specs.declared.scope.Scope.{Scope}
use Rattle.aplc_names.specs.declared.scope.Scope.TheVariants as s
use Rattle.aplc_names.specs.Outlines.{lines_from}
use Rattle.aplc_names.specs.Scopes.{function_or, local_or_global}
use Rattle.aplc_names.specs.Tables.{first, stands_in}

-- the line of the label at this place of a list of labels
abbrev pub line_or : Option ℕ → List ℤ → Scope → Scope
line_or None lines other = other
line_or (Some i) lines other = option_map_or s.Label (slice_get lines i) other

-- what name n is in a function, where hs are the names of all functions, and these the numbers of the lines with labels
abbrev pub scope_found : List Named → Outline → List ℤ → ℕ → Scope
scope_found hs f lines n = function_or (first n hs) (line_or (first n f.labels) lines (local_or_global (stands_in n f.locals)))

-- the numbers of the lines with labels
abbrev pub label_lines : Function → List ℤ
label_lines f = lines_from 1 f.lines

abbrev pub all_label_lines : Program → List (List ℤ)
all_label_lines p = map label_lines p.functions

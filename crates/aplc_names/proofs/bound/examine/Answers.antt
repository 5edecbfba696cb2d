use Rattle.std.proofs.Common.{sym, subst, length, ◌≤◌}
use Rattle.std.specs.Prelude.{All}
use Rattle.aplc_syntax.specs.declared.tree.Function.{Function}
use Rattle.aplc_names.proofs.Resolved.{short_lines}
use Rattle.aplc_names.proofs.bound.examine.Goals as goal

pub label_lines_of-requires : goal.label_lines_of-requires
label_lines_of-requires c = subst (λ fs. All (λ (f : Function). length f.lines ≤ 999) fs) (sym c.as_slice-functions.ensures) (short_lines c.args.program.now c.requires)

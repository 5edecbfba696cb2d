use Rattle.std.proofs.Common.{rules, ◌≡◌, ◌∙◌, None, arith, slice_get}
use Rattle.aplc_infer.specs.declared.fact.Inferred.TheVariants.{Unset}
use Rattle.aplc_infer.specs.Rows.{last_change}
use Rattle.aplc_infer.proofs.Rowed.{row_changed, row_beyond}
use Rattle.aplc_infer.proofs.row.Row.at.Goals as goal

pub returns-then-k-self : goal.returns-then-k-self
returns-then-k-self c =
    let none : slice_get c.self.inside.base.items c.args.k ≡ None = search rules in
    let last : c.last_change.result ≡ last_change c.self.inside.changes.items c.args.k Unset = search rules in
    last ∙ row_changed c.args.self.now c.self.inside.count c.self.inside.base.items c.self.inside.changes.items c.args.k c.self.view_is c.self.invariant none (omega arith)

pub returns-else-k-self : goal.returns-else-k-self
returns-else-k-self c =
    let none : slice_get c.self.inside.base.items c.args.k ≡ None = search rules in
    row_beyond c.args.self.now c.self.inside.count c.self.inside.base.items c.self.inside.changes.items c.args.k c.self.view_is c.self.invariant none (omega arith)

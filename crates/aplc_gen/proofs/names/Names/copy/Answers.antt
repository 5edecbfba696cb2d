use Rattle.std.proofs.Common.{rules, ap, ◌∙◌, ◌≡◌}
use Rattle.aplc_gen.specs.Made.{with_each}
use Rattle.aplc_gen.proofs.Numbered.{copied}
use Rattle.aplc_gen.proofs.names.Names.copy.Goals as goal

pub returns : goal.returns
returns c =
    let e : c.self.inside.names.keys ≡ c.args.self.now = search rules in
    copied c.self.inside.names.keys c.new-names.result c.add_all.new.self c.as_slice.ensures.unique c.new-names.ensures (c.in_ok-add_all.ensures ∙ ap (with_each c.new-names.result) c.as_slice.ensures.keys) ∙ e

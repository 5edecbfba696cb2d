use Rattle.std.proofs.Common.{◌∙◌, refl, rules}
use Rattle.aplc_step.proofs.Builds.{base_old, extended}
use Rattle.aplc_step.proofs.extending.extend.Goals as goal

pub returns-clause-ok : goal.returns-clause-ok
returns-clause-ok c =
    let s = c.args.s.now in (
      refl,
      c.from_vec.ensures ∙ c.in_ok-lengths.ensures.items,
      refl,
      extended c.args.b.now c.set_fresh.new.b c.in_ok-stride.stride s.base s.lengths s.strides c.args.lengths.now c.from_vec-2.result
          c.requires.lengths (base_old s.from s.base s.strides c.args.b.now c.requires.given) c.in_ok-stride.ensures.name c.in_ok-stride.ensures.set
          (c.from_vec-2.ensures ∙ c.in_ok-strides.ensures.items_if_clones_equal (search rules)),
    )

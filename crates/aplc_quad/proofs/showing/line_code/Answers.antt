use Rattle.std.proofs.Common.{List, ◌+◌, [], subst}
use Rattle.aplc_cprof.specs.declared.syntax.Int.{Int}
use Rattle.aplc_quad.specs.Printed.{Adds}
use Rattle.aplc_quad.specs.Shows.{LineShows}
use Rattle.aplc_quad.proofs.Builds.{on_ok}
use Rattle.aplc_quad.proofs.Slices.{one_is}
use Rattle.aplc_quad.proofs.showing.line_code.Goals as goal

pub returns-in-len1-up-clause-ok : goal.returns-in-len1-up-clause-ok
returns-in-len1-up-clause-ok g c =
    on_ok c.vector_code.result
    (subst (λ (l : List Int). Adds (g.E.ElementCode.given c.args.code.now) (3 + g.E.ElementCode.depth c.args.code.now) c.args.b.now c.vector_code.new.b l [] (LineShows (g.E.ElementCode.test c.args.code.now) (g.E.ElementCode.steps c.args.code.now) l c.args.kind))
    (one_is c.args.lengths.now c.in-len1-up.len_at_least c.requires.ranked))
    c.vector_code.ensures.ok

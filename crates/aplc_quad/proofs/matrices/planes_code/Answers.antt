use Rattle.aplc_cprof.proofs.Kept.{kept_trans}
use Rattle.aplc_quad.proofs.Builds.{on_ok}
use Rattle.aplc_quad.proofs.CodePlanes.{planes_built}
use Rattle.aplc_quad.proofs.Starts.{flag_lengths, flag_old, flag_columns, no_places}
use Rattle.aplc_quad.proofs.matrices.planes_code.Goals as goal

pub returns-clause-ok : goal.returns-clause-ok
returns-clause-ok g c =
    on_ok c.nest_code.result
    (planes_built (g.E.ElementCode.test c.args.code.now) (g.E.ElementCode.steps c.args.code.now) (g.E.ElementCode.given c.args.code.now) (g.E.ElementCode.depth c.args.code.now) c.args.b.now c.fresh_int.new.self c.emit.new.self c.nest_code.new.b
    c.new-at.result c.args.lengths.now c.in_ok-started.started c.args.columns (g.met.E.ElementCode.reads c.args.code.now) c.requires.given c.requires.lengths c.requires.columns
    c.in_ok-started.ensures.name c.in_ok-started.ensures.given c.in_ok-emit.ensures.ok c.new-at.ensures)
    c.nest_code.ensures.ok

pub nest_code-requires-clause-at : goal.nest_code-requires-clause-at
nest_code-requires-clause-at g c = no_places _ c.new-at.result c.new-at.ensures

pub nest_code-requires-clause-lengths : goal.nest_code-requires-clause-lengths
nest_code-requires-clause-lengths g c = flag_lengths c.args.b.now c.fresh_int.new.self c.emit.new.self _ c.args.lengths.now c.in_ok-started.ensures.given c.in_ok-emit.ensures.ok c.requires.lengths

pub nest_code-requires-clause-started : goal.nest_code-requires-clause-started
nest_code-requires-clause-started g c = flag_old c.args.b.now c.fresh_int.new.self c.emit.new.self _ c.in_ok-started.started c.in_ok-started.ensures.name c.in_ok-started.ensures.given c.in_ok-emit.ensures.ok

pub nest_code-requires-clause-columns : goal.nest_code-requires-clause-columns
nest_code-requires-clause-columns g c = flag_columns c.args.columns c.args.b.now c.fresh_int.new.self c.emit.new.self _ c.in_ok-started.ensures.given c.in_ok-emit.ensures.ok c.requires.columns

pub returns-clause-kept : goal.returns-clause-kept
returns-clause-kept g c =
    kept_trans c.args.b.now c.emit.new.self c.nest_code.new.b
    (kept_trans c.args.b.now c.fresh_int.new.self c.emit.new.self c.in_ok-started.ensures.kept c.in_ok-emit.ensures.kept)
    c.nest_code.ensures.kept

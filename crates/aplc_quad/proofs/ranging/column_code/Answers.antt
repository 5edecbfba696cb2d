use Rattle.std.proofs.Common.{◌+◌, ◌≤◌, arith, length}
use Rattle.aplc_cprof.proofs.Kept.{kept_trans}
use Rattle.aplc_quad.proofs.Builds.{on_ok}
use Rattle.aplc_quad.proofs.WidthLoops.{column_built}
use Rattle.aplc_quad.proofs.RangeTurns.{zero_given, zero_is_range, zero_lengths, zero_column, no_places}
use Rattle.aplc_quad.proofs.ranging.column_code.Goals as goal

pub range_nest-requires-clause-given : goal.range_nest-requires-clause-given
range_nest-requires-clause-given g c = zero_given _ c.args.b.now c.zero_range.new.b c.in_ok-range.ensures.code c.requires.given

pub range_nest-requires-clause-range : goal.range_nest-requires-clause-range
range_nest-requires-clause-range g c = zero_is_range _ c.in_ok-range.range.least c.in_ok-range.range.greatest c.args.b.now c.zero_range.new.b c.in_ok-range.ensures.names.0 c.in_ok-range.ensures.names.1 c.in_ok-range.ensures.code c.requires.given

pub range_nest-requires-clause-at : goal.range_nest-requires-clause-at
range_nest-requires-clause-at g c = no_places _ c.in_ok-range.range.least c.in_ok-range.range.greatest c.new-at.result c.new-at.ensures

pub range_nest-requires-clause-lengths : goal.range_nest-requires-clause-lengths
range_nest-requires-clause-lengths g c = zero_lengths c.in_ok-range.range.least c.in_ok-range.range.greatest c.args.b.now c.zero_range.new.b c.args.lengths.now c.in_ok-range.ensures.names.0 c.in_ok-range.ensures.names.1 c.in_ok-range.ensures.code c.requires.lengths

pub range_nest-requires-clause-column : goal.range_nest-requires-clause-column
range_nest-requires-clause-column g c = zero_column c.in_ok-range.range.least c.in_ok-range.range.greatest c.args.column c.args.b.now c.zero_range.new.b c.in_ok-range.ensures.names.0 c.in_ok-range.ensures.names.1 c.in_ok-range.ensures.code c.requires.column

pub returns-clause-ok : goal.returns-clause-ok
returns-clause-ok g c =
    let depth = g.E.ElementCode.depth c.args.code.now in
    let ranked = c.requires.ranked in
    let some : 1 ≤ depth + length c.args.lengths.now = omega (arith, ranked) in
    on_ok c.width_code.result
    (column_built (g.E.ElementCode.test c.args.code.now) (g.E.ElementCode.steps c.args.code.now) (g.E.ElementCode.given c.args.code.now) (depth + length c.args.lengths.now)
    c.args.b.now c.zero_range.new.b c.range_nest.new.b c.width_code.new.b
    c.new-at.result c.args.lengths.now c.args.column c.in_ok-range.range.least c.in_ok-range.range.greatest c.args.widths
    some (g.met.E.ElementCode.reads c.args.code.now) c.requires.given c.requires.lengths c.requires.column c.requires.widths
    c.in_ok-range.ensures.names.0 c.in_ok-range.ensures.names.1 c.in_ok-range.ensures.code c.new-at.ensures c.in_ok-range_nest.ensures.ok)
    c.width_code.ensures.code

pub returns-in_err-range_nest-clause-kept : goal.returns-in_err-range_nest-clause-kept
returns-in_err-range_nest-clause-kept g c = kept_trans c.args.b.now c.zero_range.new.b c.range_nest.new.b c.in_ok-range.ensures.kept c.in_err-range_nest.ensures.kept

pub returns-clause-kept : goal.returns-clause-kept
returns-clause-kept g c =
    kept_trans c.args.b.now c.range_nest.new.b c.width_code.new.b
    (kept_trans c.args.b.now c.zero_range.new.b c.range_nest.new.b c.in_ok-range.ensures.kept c.in_ok-range_nest.ensures.kept) c.width_code.ensures.kept

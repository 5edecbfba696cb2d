use Rattle.std.proofs.Common.{◌-◌, ◌<◌, arith, length}
use Rattle.std.specs.Prelude.{take, drop}
use Rattle.aplc_cprof.proofs.Kept.{kept_trans}
use Rattle.aplc_quad.proofs.Builds.{on_ok, given_begun}
use Rattle.aplc_quad.proofs.RangeNests.{range_built}
use Rattle.aplc_quad.proofs.Slices.{rest_length}
use Rattle.aplc_quad.proofs.RangeTurns.{some_left, begun_range, begun_lengths, begun_column, begun_places, one_whole}
use Rattle.aplc_quad.proofs.ranging.+range_nest.Goals as goal

pub range_nest-requires : goal.range_nest-requires
range_nest-requires g t c κs within =
    let xs = c.args.lengths.now in
    let b0 = c.args.b.now in
    let b1 = c.begin_loop.new.self in
    let begun = c.in_ok-i-in-len2-up.ensures.begun in
    let le = c.in-len2-up.len_at_least in
    let behind = rest_length xs (omega (arith, le)) in
    let fewer : length (take (length xs - 1) (drop 1 xs)) < t = omega (arith, behind, c.decreases) in (
      fewer,
      (
        within,
        (
          given_begun _ b0 b1 begun c.requires.given,
          (
            some_left xs le,
            (
              begun_range _ c.args.range.least c.args.range.greatest b0 b1 begun c.requires.range,
              (
                begun_places _ c.args.range.least c.args.range.greatest c.in_ok-i-in-len2-up.i b0 b1 c.args.at.now c.push.new.self c.in_ok-i-in-len2-up.ensures.name begun c.in_ok-push-in-len2-up.ensures.ok c.requires.range c.requires.at,
                (
                  begun_lengths c.args.range.least c.args.range.greatest b0 b1 xs le begun c.requires.lengths,
                  begun_column c.args.range.least c.args.range.greatest c.args.column b0 b1 begun c.requires.column,
                ),
              ),
            ),
          ),
        ),
      ),
    )

pub returns-in_ok-range_nest-in-len2-up-clause-ok : goal.returns-in_ok-range_nest-in-len2-up-clause-ok
returns-in_ok-range_nest-in-len2-up-clause-ok g t c =
    on_ok c.end_loop.result
    (range_built (g.E.ElementCode.test c.args.code.now) (g.E.ElementCode.steps c.args.code.now) (g.E.ElementCode.given c.args.code.now) (g.E.ElementCode.depth c.args.code.now)
    c.args.b.now c.begin_loop.new.self c.range_nest.new.b c.end_loop.new.self
    c.args.at.now c.push.new.self c.args.lengths.now c.args.column c.args.range.least c.args.range.greatest c.in_ok-i-in-len2-up.i
    c.in-len2-up.len_at_least (g.met.E.ElementCode.reads c.args.code.now) c.requires.given c.requires.range c.requires.at c.requires.lengths c.requires.column
    c.in_ok-i-in-len2-up.ensures.name c.in_ok-i-in-len2-up.ensures.begun c.in_ok-push-in-len2-up.ensures.ok
    c.in_ok-range_nest-in-len2-up.ensures.ok)
    c.end_loop.ensures.ended

pub returns-in_err-range_nest-in-len2-up-clause-kept : goal.returns-in_err-range_nest-in-len2-up-clause-kept
returns-in_err-range_nest-in-len2-up-clause-kept g t c = kept_trans c.args.b.now c.begin_loop.new.self c.range_nest.new.b c.in_ok-i-in-len2-up.ensures.kept c.in_err-range_nest-in-len2-up.ensures.kept

pub returns-in_default-clause-ok : goal.returns-in_default-clause-ok
returns-in_default-clause-ok g t c =
    on_ok c.range_one.result
    (λ added. one_whole (g.E.ElementCode.test c.args.code.now) (g.E.ElementCode.steps c.args.code.now) (g.E.ElementCode.given c.args.code.now) (g.E.ElementCode.depth c.args.code.now)
    c.args.b.now c.range_one.new.b c.args.at.now c.args.lengths.now c.args.column c.args.range.least c.args.range.greatest c.requires.ranked c.in_default.len_below added)
    c.range_one.ensures.ok

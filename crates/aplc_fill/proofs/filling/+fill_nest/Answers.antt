use Rattle.std.proofs.Common.{rules, arith}
use Rattle.aplc_cprof.specs.Frames.{number}
use Rattle.aplc_cprof.proofs.Kept.{kept_trans}
use Rattle.aplc_cprof.proofs.Frames.{given_more, fresh_more, old_buf_more}
use Rattle.aplc_fill.proofs.Builds.{fresh_below, kept_counter, kept_rest, begun_ints, axis_fills, on_ok}
use Rattle.aplc_fill.proofs.filling.+fill_nest.Goals as goal

pub fill_nest-requires : goal.fill_nest-requires
fill_nest-requires g t c κs within =
    let q = number c.args.place in
    let b0 = c.args.b.now in
    let b1 = c.begin_loop.new.self in
    let names = begun_ints b0 b1 c.in_ok-i-in-len1-up.ensures.begun in
    let fresh = fresh_below _ b0.ints c.args.place c.requires.place in (
      search rules,
      (
        within,
        (
          given_more _ b0 b1 (omega (arith, names)) (omega (arith, names)) c.requires.given,
          (
            fresh_more _ b0.ints b1.ints c.args.place (omega (arith, names)) c.requires.place,
            (
              kept_counter b0.ints b1.ints q c.args.at.now c.push.new.self c.in_ok-i-in-len1-up.i fresh names.0 c.in_ok-i-in-len1-up.ensures.name c.in_ok-push-in-len1-up.ensures.ok c.requires.at,
              (
                kept_rest b0.ints b1.ints q c.args.lengths.now c.in-len1-up.len_at_least (omega (arith, names)) c.requires.lengths,
                old_buf_more b0.bufs b1.bufs c.args.into (omega (arith, names)) c.requires.into,
              ),
            ),
          ),
        ),
      ),
    )

pub returns-in_ok-fill_nest-in-len1-up-clause-ok : goal.returns-in_ok-fill_nest-in-len1-up-clause-ok
returns-in_ok-fill_nest-in-len1-up-clause-ok g t c =
    on_ok c.end_loop.result
    (axis_fills (g.E.ElementCode.test c.args.code.now) (g.E.ElementCode.steps c.args.code.now) (g.E.ElementCode.given c.args.code.now) (g.E.ElementCode.depth c.args.code.now)
    c.args.b.now c.begin_loop.new.self c.fill_nest.new.b c.end_loop.new.self
    c.args.at.now c.push.new.self c.args.lengths.now c.args.into c.args.place c.in_ok-i-in-len1-up.i
    c.in-len1-up.len_at_least (g.met.E.ElementCode.reads c.args.code.now) c.requires.given c.requires.place c.requires.at c.requires.lengths c.requires.into
    c.in_ok-i-in-len1-up.ensures.name c.in_ok-i-in-len1-up.ensures.begun c.in_ok-push-in-len1-up.ensures.ok
    c.in_ok-fill_nest-in-len1-up.ensures.ok)
    c.end_loop.ensures.ended

pub returns-in_err-fill_nest-in-len1-up-clause-kept : goal.returns-in_err-fill_nest-in-len1-up-clause-kept
returns-in_err-fill_nest-in-len1-up-clause-kept g t c = kept_trans c.args.b.now c.begin_loop.new.self c.fill_nest.new.b c.in_ok-i-in-len1-up.ensures.kept c.in_err-fill_nest-in-len1-up.ensures.kept

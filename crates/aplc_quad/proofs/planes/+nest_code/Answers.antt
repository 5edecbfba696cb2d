use Rattle.std.proofs.Common.{◌-◌, ◌<◌, arith, length}
use Rattle.std.specs.Prelude.{take, drop}
use Rattle.aplc_cprof.proofs.Kept.{kept_trans}
use Rattle.aplc_quad.proofs.Builds.{on_ok, kept_round}
use Rattle.aplc_quad.proofs.CodeNests.{nest_built}
use Rattle.aplc_quad.proofs.Slices.{rest_length}
use Rattle.aplc_quad.proofs.Turns.{more_left, turn_given, turn_places, turn_lengths, turn_moved, turn_columns, kept_four, plane_whole}
use Rattle.aplc_quad.proofs.planes.+nest_code.Goals as goal

pub returns-in_err-moved-in-len3-up-clause-kept : goal.returns-in_err-moved-in-len3-up-clause-kept
returns-in_err-moved-in-len3-up-clause-kept g t c = kept_trans c.args.b.now c.begin_loop.new.self c.head_code.new.b c.in_ok-i-in-len3-up.ensures.kept c.in_err-moved-in-len3-up.ensures.kept

pub returns-in_err-push-in-len3-up-clause-kept : goal.returns-in_err-push-in-len3-up-clause-kept
returns-in_err-push-in-len3-up-clause-kept g t c = kept_trans c.args.b.now c.begin_loop.new.self c.head_code.new.b c.in_ok-i-in-len3-up.ensures.kept c.in_ok-moved-in-len3-up.ensures.kept

pub nest_code-requires : goal.nest_code-requires
nest_code-requires g t c κs within =
    let xs = c.args.lengths.now in
    let b0 = c.args.b.now in
    let b1 = c.begin_loop.new.self in
    let b2 = c.head_code.new.b in
    let i = c.in_ok-i-in-len3-up.i in
    let begun = c.in_ok-i-in-len3-up.ensures.begun in
    let head = c.in_ok-moved-in-len3-up.ensures.code in
    let le = c.in-len3-up.len_at_least in
    let behind = rest_length xs (omega (arith, le)) in
    let fewer : length (take (length xs - 1) (drop 1 xs)) < t = omega (arith, behind, c.decreases) in (
      fewer,
      (
        within,
        (
          turn_given _ _ _ _ b0 b1 b2 begun head c.requires.given,
          (
            more_left xs le,
            (
              turn_places _ i _ b0 b1 b2 c.args.at.now c.push.new.self c.in_ok-i-in-len3-up.ensures.name begun head c.in_ok-push-in-len3-up.ensures.ok c.requires.at,
              (
                turn_lengths _ i _ b0 b1 b2 xs le begun head c.requires.lengths,
                (
                  turn_moved _ i _ c.in_ok-moved-in-len3-up.moved b1 b2 c.in_ok-moved-in-len3-up.ensures.name head,
                  turn_columns c.args.columns _ i _ b0 b1 b2 begun head c.requires.columns,
                ),
              ),
            ),
          ),
        ),
      ),
    )

pub returns-in_err-nest_code-in-len3-up-clause-kept : goal.returns-in_err-nest_code-in-len3-up-clause-kept
returns-in_err-nest_code-in-len3-up-clause-kept g t c = kept_four c.args.b.now c.begin_loop.new.self c.head_code.new.b c.nest_code.new.b c.in_ok-i-in-len3-up.ensures.kept c.in_ok-moved-in-len3-up.ensures.kept c.in_err-nest_code-in-len3-up.ensures.kept

pub returns-in_ok-nest_code-in-len3-up-clause-ok : goal.returns-in_ok-nest_code-in-len3-up-clause-ok
returns-in_ok-nest_code-in-len3-up-clause-ok g t c =
    on_ok c.end_loop.result
    (nest_built (g.E.ElementCode.test c.args.code.now) (g.E.ElementCode.steps c.args.code.now) (g.E.ElementCode.given c.args.code.now) (g.E.ElementCode.depth c.args.code.now)
    c.args.b.now c.begin_loop.new.self c.head_code.new.b c.nest_code.new.b c.end_loop.new.self
    c.args.at.now c.push.new.self c.args.lengths.now c.args.started c.in_ok-i-in-len3-up.i c.in_ok-moved-in-len3-up.moved c.args.columns
    c.in-len3-up.len_at_least (g.met.E.ElementCode.reads c.args.code.now) c.requires.given c.requires.at c.requires.lengths c.requires.started c.requires.columns
    c.in_ok-i-in-len3-up.ensures.name c.in_ok-i-in-len3-up.ensures.begun c.in_ok-moved-in-len3-up.ensures.name c.in_ok-moved-in-len3-up.ensures.code c.in_ok-push-in-len3-up.ensures.ok
    c.in_ok-nest_code-in-len3-up.ensures.ok)
    c.end_loop.ensures.ended

pub returns-in_ok-nest_code-in-len3-up-clause-kept : goal.returns-in_ok-nest_code-in-len3-up-clause-kept
returns-in_ok-nest_code-in-len3-up-clause-kept g t c =
    kept_round c.args.b.now c.begin_loop.new.self c.nest_code.new.b c.end_loop.new.self c.in_ok-i-in-len3-up.ensures.begun
    (kept_trans c.begin_loop.new.self c.head_code.new.b c.nest_code.new.b c.in_ok-moved-in-len3-up.ensures.kept c.in_ok-nest_code-in-len3-up.ensures.kept)
    c.end_loop.ensures.kept

pub returns-in_default-clause-ok : goal.returns-in_default-clause-ok
returns-in_default-clause-ok g t c =
    on_ok c.plane_code.result
    (λ added. plane_whole (g.E.ElementCode.test c.args.code.now) (g.E.ElementCode.steps c.args.code.now) (g.E.ElementCode.given c.args.code.now) (g.E.ElementCode.depth c.args.code.now)
    c.args.b.now c.plane_code.new.b c.args.at.now c.args.lengths.now c.args.started c.args.columns c.requires.ranked c.in_default.len_below (added c.args.started))
    c.plane_code.ensures.ok

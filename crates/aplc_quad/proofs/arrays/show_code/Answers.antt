use Rattle.aplc_quad.proofs.Builds.{on_ok}
use Rattle.aplc_quad.proofs.CodeArrays.{line_is, characters_are, numbers_are}
use Rattle.aplc_quad.proofs.arrays.show_code.Goals as goal

pub returns-then-lengths-lt2-clause-shows : goal.returns-then-lengths-lt2-clause-shows
returns-then-lengths-lt2-clause-shows g c =
    on_ok c.line_code.result
    (line_is (g.E.ElementCode.test c.args.code.now) (g.E.ElementCode.steps c.args.code.now) (g.E.ElementCode.given c.args.code.now) (g.E.ElementCode.depth c.args.code.now) c.args.b.now c.line_code.new.b c.args.kind c.args.lengths.now)
    c.line_code.ensures.ok

pub returns-in-Char-clause-shows : goal.returns-in-Char-clause-shows
returns-in-Char-clause-shows g c =
    on_ok c.characters_code.result
    (characters_are (g.E.ElementCode.test c.args.code.now) (g.E.ElementCode.steps c.args.code.now) (g.E.ElementCode.given c.args.code.now) (g.E.ElementCode.depth c.args.code.now) c.args.b.now c.characters_code.new.b c.args.kind c.args.lengths.now c.in-Char.is c.if-lengths-lt2.false)
    c.characters_code.ensures.ok

pub returns-in-Num-clause-shows : goal.returns-in-Num-clause-shows
returns-in-Num-clause-shows g c =
    on_ok c.numbers_code.result
    (numbers_are (g.E.ElementCode.test c.args.code.now) (g.E.ElementCode.steps c.args.code.now) (g.E.ElementCode.given c.args.code.now) (g.E.ElementCode.depth c.args.code.now) c.args.b.now c.numbers_code.new.b c.args.kind c.args.lengths.now c.in-Num.is c.if-lengths-lt2.false)
    c.numbers_code.ensures.ok

use Rattle.std.proofs.lemmas.Result.{on_ok_weaker}
use Rattle.aplc_stage.proofs.Displayed.{scalar_displays}
use Rattle.aplc_stage.proofs.showing.show_scalar.Goals as goal

pub returns-clause-shows : goal.returns-clause-shows
returns-clause-shows c = on_ok_weaker c.show_code.result (scalar_displays c.args.b.now c.show_code.new.b c.args.kind c.args.x c.requires.given) c.show_code.ensures.shows

use Rattle.aplc_cli.proofs.Worded.{each_word}
use Rattle.aplc_cli.proofs.laws.every_refusal_has_a_word.Goals as goal

pub returns : goal.returns
returns c = each_word

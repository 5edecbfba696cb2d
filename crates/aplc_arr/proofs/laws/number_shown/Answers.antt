use Rattle.aplc_arr.proofs.Texts.{number-shown}
use Rattle.aplc_arr.proofs.laws.number_shown.Goals as goal

pub returns : goal.returns
returns c = number-shown

use Rattle.aplc_names.proofs.Decided.{clean_or_first}
use Rattle.aplc_names.proofs.laws.always_one.Goals as goal

pub returns : goal.returns
returns c = clean_or_first

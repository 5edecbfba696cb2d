use Rattle.aplc_cread.specs.Reading.{Any}
use Rattle.aplc_cread.specs.Exprs.{scope}
use Rattle.aplc_cread.proofs.Rules.{reads_within}
use Rattle.aplc_cread.proofs.Blocks.{within_keyword}
use Rattle.aplc_cread.proofs.block.keyword.Goals as goal

pub returns : goal.returns
returns c = reads_within Any c.opening.result (within_keyword (scope c.args.names) c.args.room c.args.input.now) c.opening.ensures

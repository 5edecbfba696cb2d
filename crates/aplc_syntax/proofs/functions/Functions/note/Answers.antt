use Rattle.aplc_syntax.specs.Noted.{headers_of, BlockStands, BlockIs}
use Rattle.aplc_syntax.proofs.Firsts.{noted_bad}
use Rattle.aplc_syntax.proofs.functions.Functions.note.Goals as goal

pub returns-in-Err-Refused : goal.returns-in-Err-Refused
returns-in-Err-Refused c = record { noted = noted_bad (BlockStands (headers_of c.args.known.now.headers.items)) (BlockIs c.args.text.now (headers_of c.args.known.now.headers.items)) c.args.block.now c.args.self.now.first _ _ _ c.in-Err-Refused.refusal (rw c.in-Err-Refused.field-0-is at c.in-Err-Refused.ensures.refused) c.earlier-self.ensures }

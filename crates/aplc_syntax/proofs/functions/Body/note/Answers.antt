use Rattle.aplc_syntax.specs.Noted.{headers_of, LineStands, LineIs}
use Rattle.aplc_syntax.proofs.Firsts.{noted_bad}
use Rattle.aplc_syntax.proofs.functions.Body.note.Goals as goal

pub returns-in-Err-Refused-clause-noted : goal.returns-in-Err-Refused-clause-noted
returns-in-Err-Refused-clause-noted c = noted_bad (LineStands (headers_of c.args.known.now.headers.items)) (LineIs c.args.text.now (headers_of c.args.known.now.headers.items)) c.args.row.now c.args.self.now.first _ _ _ c.in-Err-Refused.refusal (rw c.in-Err-Refused.field-0-is at c.in-Err-Refused.ensures.refused) c.earlier-self.ensures

use Rattle.std.proofs.lemmas.List.{take_min}
use Rattle.aplc_io.proofs.memory_host.name_front.Goals as goal

pub returns-clause-front : goal.returns-clause-front
returns-clause-front c = rw (c.min.ensures, c.as_bytes-bytes.ensures.value) (take_min 255 c.args.name.now)

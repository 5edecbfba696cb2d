use Rattle.aplc_arr.proofs.Shapes.{gives-each_monadic, gives-shape_of, gives-ravelled, gives-iota, gives-reversed, gives-transposed, gives-reduced, gives-scanned}
use Rattle.aplc_arr.proofs.laws.shapes_monadic.Goals as goal

pub returns-clause-each : goal.returns-clause-each
returns-clause-each c = gives-each_monadic

pub returns-clause-shape : goal.returns-clause-shape
returns-clause-shape c = gives-shape_of

pub returns-clause-ravel : goal.returns-clause-ravel
returns-clause-ravel c = gives-ravelled

pub returns-clause-iota : goal.returns-clause-iota
returns-clause-iota c = gives-iota

pub returns-clause-reverse : goal.returns-clause-reverse
returns-clause-reverse c = gives-reversed

pub returns-clause-transpose : goal.returns-clause-transpose
returns-clause-transpose c = gives-transposed

pub returns-clause-reduce : goal.returns-clause-reduce
returns-clause-reduce c = gives-reduced

pub returns-clause-scan : goal.returns-clause-scan
returns-clause-scan c = gives-scanned

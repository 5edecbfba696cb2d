use Rattle.aplc_arr.proofs.Shapes.{gives-each_dyadic, gives-reshaped, gives-catenated, gives-rotated, gives-transposed_by, gives-taken, gives-dropped, gives-replicated, gives-expanded, gives-index_of, gives-members, gives-outer_product, gives-inner_product}
use Rattle.aplc_arr.proofs.laws.shapes_dyadic.Goals as goal

pub returns-clause-each : goal.returns-clause-each
returns-clause-each c = gives-each_dyadic

pub returns-clause-reshape : goal.returns-clause-reshape
returns-clause-reshape c = gives-reshaped

pub returns-clause-catenate : goal.returns-clause-catenate
returns-clause-catenate c = gives-catenated

pub returns-clause-rotate : goal.returns-clause-rotate
returns-clause-rotate c = gives-rotated

pub returns-clause-transpose : goal.returns-clause-transpose
returns-clause-transpose c = gives-transposed_by

pub returns-clause-take : goal.returns-clause-take
returns-clause-take c = gives-taken

pub returns-clause-drop : goal.returns-clause-drop
returns-clause-drop c = gives-dropped

pub returns-clause-replicate : goal.returns-clause-replicate
returns-clause-replicate c = gives-replicated

pub returns-clause-expand : goal.returns-clause-expand
returns-clause-expand c = gives-expanded

pub returns-clause-index_of : goal.returns-clause-index_of
returns-clause-index_of c = gives-index_of

pub returns-clause-member : goal.returns-clause-member
returns-clause-member c = gives-members

pub returns-clause-outer : goal.returns-clause-outer
returns-clause-outer c = gives-outer_product

pub returns-clause-inner : goal.returns-clause-inner
returns-clause-inner c = gives-inner_product

use Rattle.aplc_arr.proofs.Places.{place-below, index-within, place-of_index, index-of_place}
use Rattle.aplc_arr.proofs.laws.row_major_order.Goals as goal

pub returns-clause-below : goal.returns-clause-below
returns-clause-below c = place-below

pub returns-clause-within : goal.returns-clause-within
returns-clause-within c = index-within

pub returns-clause-place : goal.returns-clause-place
returns-clause-place c = place-of_index

pub returns-clause-index : goal.returns-clause-index
returns-clause-index c = index-of_place

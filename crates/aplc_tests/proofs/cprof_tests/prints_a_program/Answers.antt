use Rattle.aplc_cprof.proofs.Examples.{sample_well_formed}
use Rattle.aplc_tests.proofs.cprof_tests.prints_a_program.Goals as goal

pub print-requires : goal.print-requires
print-requires g c = rw c.in_ok-program.ensures sample_well_formed

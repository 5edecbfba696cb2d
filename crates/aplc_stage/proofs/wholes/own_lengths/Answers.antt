use Rattle.std.proofs.Common.{◌∙◌, sym, ap, List, length}
use Rattle.aplc_cprof.specs.declared.syntax.Int.{Int}
use Rattle.aplc_stage.specs.Pieces.{with_code, copies}
use Rattle.aplc_stage.proofs.Setting.{locals_many}
use Rattle.aplc_stage.proofs.Parts.{own_built}
use Rattle.aplc_stage.proofs.wholes.own_lengths.Goals as goal

pub emit_copies-requires : goal.emit_copies-requires
emit_copies-requires c = ap length (c.as_slice.ensures.value ∙ c.in_ok-names.ensures.names) ∙ locals_many c.args.b.now.ints c.args.lengths.now

pub returns-clause-ok : goal.returns-clause-ok
returns-clause-ok c =
    let b = c.fresh_ints.new.b in
    own_built c.args.b.now b c.emit_copies.new.b c.args.lengths.now c.from_vec.result c.requires.lengths
    (c.from_vec.ensures ∙ c.in_ok-names.ensures.names) c.in_ok-names.ensures.given
    (c.in_ok-emit_copies.ensures.ok ∙ ap (λ (l : List Int). with_code (copies l c.args.lengths.now) b) (c.as_slice.ensures.value ∙ sym c.from_vec.ensures))

use Rattle.std.proofs.Common.{ap, ◌∙◌}
use Rattle.std.specs.List.{filter}
use Rattle.aplc_gen.specs.Made.{with_each}
use Rattle.aplc_gen.specs.Sparing.{is_flag_of}
use Rattle.aplc_gen.proofs.Numbered.{kept_once}
use Rattle.aplc_gen.proofs.known.Known.among.Goals as goal

pub returns : goal.returns
returns c =
    kept_once (is_flag_of c.args.self.now) c.args.names.now c.new-kept.result c.keep.new.kept c.as_slice.ensures.once c.new-kept.ensures
    (c.in_ok-keep.ensures ∙ ap (λ ns. with_each c.new-kept.result (filter (is_flag_of c.args.self.now) ns)) c.as_slice.ensures.names)

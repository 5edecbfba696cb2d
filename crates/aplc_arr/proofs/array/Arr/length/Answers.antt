use Rattle.std.proofs.Common.{rules, w64, FitsSigned, to_z-of_z, ◌∙◌, sym, ap, subst, ◌<◌}
use Rattle.std.specs.Prelude.{pos, slice_index, unsigned_abs}
use Rattle.std.proofs.lemmas.List.{length-map}
use Rattle.aplc_arr.specs.Arrays.{Array, rank}
use Rattle.aplc_arr.proofs.Counting.{length-at}
use Rattle.aplc_arr.proofs.array.Arr.length.Goals as goal

pub returns : goal.returns
returns c =
    let long = subst (λ (a : Array). c.args.axis < rank a) (sym c.self.view_is) c.requires in
    let below = subst (λ n. c.args.axis < n) (length-map c.self.inside.shape.items unsigned_abs) long in
    let fits : FitsSigned w64 c.index.result.now = search rules in
    to_z-of_z fits ∙ (c.index.ensures ∙ length-at c.self.inside.shape.items c.args.axis c.index.result.now c.self.invariant.lengths below ∙ ap (λ (a : Array). pos (slice_index a.shape c.args.axis)) c.self.view_is)

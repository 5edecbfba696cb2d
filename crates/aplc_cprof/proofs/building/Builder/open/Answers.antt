use Rattle.std.proofs.Common.{◌≡◌, List, [], ◌∷◌, ◌++◌, ◌∙◌, ap, subst}
use Rattle.aplc_cprof.specs.declared.syntax.CStmt.{CStmt}
use Rattle.aplc_cprof.specs.Blocks.{Blocks, IsKept}
use Rattle.aplc_cprof.proofs.Seams.{opened}
use Rattle.aplc_cprof.proofs.Kept.{kept_is, kept_opened}
use Rattle.aplc_cprof.proofs.building.Builder.open.Goals as goal

pub returns-in_err-push-clause-kept : goal.returns-in_err-push-clause-kept
returns-in_err-push-clause-kept c =
    let old : Blocks = record { outer = c.self.inside.outer; inner = c.self.inside.inner; ints = c.self.inside.ints; bufs = c.self.inside.bufs } in
    let new : Blocks = record old { outer = c.push.new.self } in
    let same : new ≡ old = ap (λ (outer : List (List CStmt)). record old { outer = outer }) c.in_err-push.ensures.err in
    subst (λ (b : Blocks). IsKept b new) c.self.view_is (kept_is old new same)

pub returns-clause-ok : goal.returns-clause-ok
returns-clause-ok c =
    let old : Blocks = record { outer = c.self.inside.outer; inner = c.self.inside.inner; ints = c.self.inside.ints; bufs = c.self.inside.bufs } in
    let new : Blocks = record old { outer = c.set.new.self; inner = c.replace-inner.new.dest } in
    subst (λ (b : Blocks). new ≡ record b { outer = b.outer ++ b.inner ∷ []; inner = [] }) c.self.view_is
    (opened old c.push.new.self c.set.new.self c.new.result c.replace-inner.result c.replace-inner.new.dest c.len-around.result
    c.len-around.ensures c.in_ok-push.ensures.ok c.set.ensures c.replace-inner.ensures.value (c.replace-inner.ensures.after ∙ c.new-2.ensures))

pub returns-clause-kept : goal.returns-clause-kept
returns-clause-kept c =
    let old : Blocks = record { outer = c.self.inside.outer; inner = c.self.inside.inner; ints = c.self.inside.ints; bufs = c.self.inside.bufs } in
    let new : Blocks = record old { outer = c.set.new.self; inner = c.replace-inner.new.dest } in
    subst (λ (b : Blocks). IsKept b new) c.self.view_is
    (kept_opened old new
    (opened old c.push.new.self c.set.new.self c.new.result c.replace-inner.result c.replace-inner.new.dest c.len-around.result
    c.len-around.ensures c.in_ok-push.ensures.ok c.set.ensures c.replace-inner.ensures.value (c.replace-inner.ensures.after ∙ c.new-2.ensures)))

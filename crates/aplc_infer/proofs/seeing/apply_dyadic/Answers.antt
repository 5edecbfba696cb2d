-- The origin lies in the machine's range.
use Rattle.std.proofs.Common.{rules, ◌≡◌, ◌∙◌, ap, subst, FitsSigned, to_z-of_z, w64}
use Rattle.std.specs.Prelude.{IfOk, OnOk}
use Rattle.aplc_syntax.specs.PlainTrees.{tree_of}
use Rattle.aplc_infer.specs.Rules.{Ruled, literal_of, dyadic_fact}
use Rattle.aplc_infer.specs.Seeing.{ruled}
use Rattle.aplc_infer.proofs.seeing.apply_dyadic.Goals as goal

pub returns-clause-fact : goal.returns-clause-fact
returns-clause-fact c =
    let fits : FitsSigned w64 c.origin.result = search rules in
    subst (λ (r : Ruled). IfOk c.apply_rule.result (λ x. x ≡ (ruled c.args.node.now.id.0 c.args.node.now.place r c.args.walk.now).fact))
    (c.dyadic_fact-ruled.ensures ∙ ap (λ o. dyadic_fact o c.args.f (literal_of (tree_of c.args.left.now)) c.args.x.now c.args.y.now) (to_z-of_z fits ∙ c.origin.ensures)) c.apply_rule.ensures.fact

pub returns-clause-walk : goal.returns-clause-walk
returns-clause-walk c =
    let fits : FitsSigned w64 c.origin.result = search rules in
    subst (λ (r : Ruled). OnOk c.apply_rule.result (c.apply_rule.new.walk ≡ (ruled c.args.node.now.id.0 c.args.node.now.place r c.args.walk.now).progress))
    (c.dyadic_fact-ruled.ensures ∙ ap (λ o. dyadic_fact o c.args.f (literal_of (tree_of c.args.left.now)) c.args.x.now c.args.y.now) (to_z-of_z fits ∙ c.origin.ensures)) c.apply_rule.ensures.walk

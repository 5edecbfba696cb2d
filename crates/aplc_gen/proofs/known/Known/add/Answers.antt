use Rattle.std.proofs.Common.{arith, ap, ◌∙◌, List, ℕ, [], ◌∷◌, ◌++◌}
use Rattle.aplc_gen.proofs.Numbered.{known_added}
use Rattle.aplc_gen.proofs.known.Known.add.Goals as goal

pub invariant_of-self-in_err-push : goal.invariant_of-self-in_err-push
invariant_of-self-in_err-push c = absurd (omega (arith, c.in_err-push.ensures.full, c.in_ok-reserve.ensures.ok))

pub invariant_of-self-2 : goal.invariant_of-self-2
invariant_of-self-2 c = known_added c.self.inside.names.keys c.insert.new.self.keys c.self.inside.order.items c.push.new.self.items c.args.name c.self.invariant c.in_ok-insert.ensures.keys (c.in_ok-push.ensures.items ∙ ap (λ (xs : List ℕ). xs ++ c.args.name ∷ []) c.reserve.ensures.items)

use Rattle.aplc_names.proofs.laws.clean_or_refusal.Goals as goal

pub returns : goal.returns
returns c = λ p r h k. h r k.stands

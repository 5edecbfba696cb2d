use Rattle.aplc_syntax.proofs.building.Builder.act.Goals as goal

pub returns-in-Branch : goal.returns-in-Branch
returns-in-Branch c = rw c.in-Branch.is (c.branch-self.ensures c.in-Branch.field-0)

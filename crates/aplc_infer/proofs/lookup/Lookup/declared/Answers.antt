-- The first declaration of the name is the one that its list of names finds.
use Rattle.std.proofs.Common.{◌∙◌, ap, sym, map}
use Rattle.aplc_syntax.specs.declared.tree.Program.{Program}
use Rattle.aplc_names.specs.Clashes.{var_name}
use Rattle.aplc_infer.proofs.Declared.{declared_none, declared_some}
use Rattle.aplc_infer.proofs.lookup.Lookup.declared.Goals as goal

pub returns-in-None : goal.returns-in-None
returns-in-None c = sym (declared_none c.args.self.now.vars c.self.inside.vars c.args.name.0 c.first.result (c.self.invariant.vars_are ∙ ap (λ (p : Program). map var_name p.vars) c.self.view_is) c.first.ensures.first c.in-None.is)

pub returns-in-Some : goal.returns-in-Some
returns-in-Some c =
    declared_some c.args.self.now.vars c.as_slice-vars.result.now c.self.inside.vars c.args.name.0 c.in-Some.i c.first.result _ c.declared_fact.result (c.self.invariant.vars_are ∙ ap (λ (p : Program). map var_name p.vars) c.self.view_is) c.first.ensures.first c.in-Some.is
    (c.as_slice-vars.ensures ∙ ap (λ (p : Program). p.vars) (c.program.ensures.program ∙ c.self.view_is)) c.declared_fact.ensures

-- The laws of facts, of programs.
use Rattle.std.proofs.Common.{ℕ, List}
use Rattle.std.proofs.lemmas.List.Elements.{All-from_recursion}
use Rattle.aplc_scalar.specs.declared.kind.FaultKind.TheVariants as fault
use Rattle.aplc_syntax.specs.declared.tree.Program.{Program}
use Rattle.aplc_names.specs.PlainPrograms.{plain}
use Rattle.aplc_names.specs.States.{Giving, World, Marking, Outcome, Gives, Faulted, Going, final}
use Rattle.aplc_names.specs.Runs.{run_of, evaluated, eager}
use Rattle.aplc_infer.specs.declared.cell.Cell.TheVariants as cell
use Rattle.aplc_infer.specs.Seeing.{Family, declarations}
use Rattle.aplc_infer.specs.Families.{Fits}
use Rattle.aplc_soundness.specs.Holding.{Holds}
use Rattle.aplc_soundness.specs.FactLaws.{FactsHold, GlobalsHold, IsFaultOf, HasNoRankFault}
use Rattle.aplc_infer.proofs.AllRules.{rules_rise}
use Rattle.aplc_soundness.proofs.AllHeld.{rules_hold}
use Rattle.aplc_soundness.proofs.HeldNames.{AgreesOutside}
use Rattle.aplc_soundness.proofs.Comes.{Comes}
use Rattle.aplc_soundness.proofs.HeldRuns.{Keeping, fits_evaluated}

in_the_end : {A : Type 0} (W : World → Type 0) (o : Outcome A) → Comes W (λ z w. W w) o → W (final o).world
in_the_end W (Gives v s) h = h
in_the_end W (Faulted e s) h = h.0
in_the_end W (Going s) h = h

no_rank_after : {A : Type 0} (W : World → Type 0) (P : A → World → Type 0) (o : Outcome A) → Comes W P o → IsFaultOf fault.Rank (run_of o) → ⊥
no_rank_after W P (Gives v s) h r = r
no_rank_after W P (Faulted e s) h r = h.1 r
no_rank_after W P (Going s) h r = r

-- how a run stands in the end
pub after_run : (p : Program) (g : Family) → Fits (declarations p.vars) (plain p) g → (m : Marking) (input : List ℕ) (n : ℕ) → AgreesOutside (declarations p.vars) g (final (evaluated (plain p) m input n)).world
after_run p g fits m input n =
    in_the_end (AgreesOutside (declarations p.vars) g) (evaluated (plain p) m input n) (fits_evaluated (declarations p.vars) (plain p) g (rules_hold p.origin) (rules_rise p.origin) fits m input n)

pub facts_hold : (p : Program) → FactsHold p
facts_hold p g fits m input n =
    All-from_recursion (λ (x : Giving). Holds (g (cell.Node x.node)) x.value) (final (evaluated (plain p) m input n)).world.given (after_run p g fits m input n).given

pub globals_hold : (p : Program) → GlobalsHold p
globals_hold p g fits m input n i = (after_run p g fits m input n).globals i

pub no_rank_fault : (p : Program) → HasNoRankFault p
unfolding eager
no_rank_fault p typed m input n h =
    let d = declarations p.vars in
    let g = typed.0 in
    no_rank_after (AgreesOutside d g) (Keeping d g) (evaluated (plain p) m input n) (fits_evaluated d (plain p) g (rules_hold p.origin) (rules_rise p.origin) typed.1 m input n) h

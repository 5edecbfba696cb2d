-- What stands of an accepted program: its layout serves, and its code is well formed and behaves as its source.
use Rattle.std.proofs.Common.{◌≡◌, ◌≤◌, ◌∙◌, ap, sym, subst, ℕ, List, length, None, true}
use Rattle.std.proofs.Math.Path.{fun_ext}
use Rattle.std.specs.Prelude.{Result, Ok, Err}
use Rattle.std.specs.Result.{IfOk}
use Rattle.aplc_syntax.specs.declared.tree.Program.{Program}
use Rattle.aplc_cprof.specs.declared.syntax.CProgram.{CProgram}
use Rattle.aplc_cprof.specs.WellFormed.{IsWellFormed}
use Rattle.aplc_cprof.specs.Behaviour.{Alike, Standing, behaviour}
use Rattle.aplc_names.specs.Programs.{IsParsed, IsClean, HasShortFunctions, HasSmallStatements, HasNamesBelow}
use Rattle.aplc_names.specs.Fits.{HasFittingStatements, HasNames}
use Rattle.aplc_names.specs.PlainPrograms.{PlainProgram, plain}
use Rattle.aplc_names.specs.States.{Marking}
use Rattle.aplc_core.specs.CoreLaws.{KeepsRuns}
use Rattle.aplc_core.specs.CorePrograms.{Core}
use Rattle.aplc_core.specs.Lowering.{lowered_program}
use Rattle.aplc_gen.specs.Codes.{IsProgramOf}
use Rattle.aplc_gen.specs.Layouts.{Layout}
use Rattle.aplc_gen.specs.Made.{is_modest}
use Rattle.aplc_gen.specs.Sparing.{spared}
use Rattle.aplc_gen.specs.Shown.{core_behaviour, source_behaviour, run_shown}
use Rattle.aplc_gen.specs.Sound.{is_sound}
use Rattle.aplc_gen.specs.Unbuilt.{first_place}
use Rattle.aplc_gen.specs.Writing.{FitsProgram, lowered_core}
use Rattle.aplc_gen.proofs.Behaving.{program_alike}
use Rattle.aplc_gen.proofs.FormedPrograms.{program_formed}
use Rattle.aplc_gen.proofs.ModestPrograms.{lowered_modest}
use Rattle.aplc_gen.proofs.SoundPrograms.{lowered_sound}
use Rattle.aplc_gen.proofs.SparedLaid.{spared_laid, spared_counts, spared_fits}

-- what a lowered program of which all is built is
pub record IsAccepted (c : Core) : Type 0 where
  pub sound : is_sound (lowered_core c) ≡ true
  pub modest : is_modest (lowered_core c) ≡ true

-- a resolved program of which all is built
pub accepted : (c : Core) (p : Program) → p ≡ c.program → first_place c.program c.facts ≡ None → ∥ IsParsed p ∥₁ → IsClean p → length p.functions ≤ 999 → HasShortFunctions p → HasSmallStatements p → HasFittingStatements p → length p.names ≤ 262144 → HasNames p → HasNamesBelow p
    → IsAccepted c
accepted c p same built parsed clean few short small fitting names named below = record {
  sound = ap (λ (q : Program). is_sound (lowered_program (plain q))) (sym same) ∙ lowered_sound p c.facts (ap (λ (q : Program). first_place q c.facts) same ∙ built) parsed clean short small fitting named below;
  modest = ap (λ (q : Program). is_modest (lowered_program (plain q))) (sym same) ∙ lowered_modest p few small names below;
}

-- the variables that are made for it, with whatever ranks of its functions
abbrev pub IsMade : Core → Layout → Type 0
IsMade c y = (ranks : List ℕ) × (y ≡ spared (lowered_core c) ranks)

pub layout_fits : (c : Core) (y : Layout) → IsAccepted c → IsMade c y → FitsProgram y c
layout_fits c y h (ranks, e) = subst (λ (z : Layout). FitsProgram z c) (sym e) (spared_fits c ranks h.sound h.modest)

program_by : (c : Core) (y z : Layout) (x : CProgram) → y ≡ z → IsProgramOf y (lowered_core c) x → IsProgramOf z (lowered_core c) x
program_by c y z x e is = subst (λ (w : Layout). IsProgramOf w (lowered_core c) x) e is

pub code_formed : (c : Core) (y : Layout) (x : CProgram) → IsAccepted c → IsMade c y → IsProgramOf y (lowered_core c) x → IsWellFormed x
code_formed c y x h (ranks, e) is =
    let p = lowered_core c in
    program_formed x (spared p ranks) p (program_by c y (spared p ranks) x e is) h.sound (spared_laid p ranks h.sound h.modest) (spared_counts p ranks h.sound h.modest)

-- the core run is the eager run
eagerly : (p : PlainProgram) → KeepsRuns p → (m : Marking) (input : List ℕ) (c : ℕ → Standing) → Alike (core_behaviour (lowered_program p) m input) c → Alike (source_behaviour p m input) c
eagerly p keeps m input c alike = subst (λ (s : ℕ → Standing). Alike s c) (fun_ext (λ n. ap run_shown (keeps.runs m input n))) alike

pub code_alike : (c : Core) (y : Layout) (x : CProgram) → IsAccepted c → KeepsRuns (plain c.program) → IsMade c y → IsProgramOf y (lowered_core c) x → (m : Marking) (input : List ℕ) → Alike (source_behaviour (plain c.program) m input) (behaviour x input)
code_alike c y x h keeps (ranks, e) is m input =
    let p = lowered_core c in
    eagerly (plain c.program) keeps m input (behaviour x input)
    (program_alike x (spared p ranks) p (program_by c y (spared p ranks) x e is) h.sound (spared_laid p ranks h.sound h.modest) m input)

-- ---- Answers that hold where there is a value

pub each_ok : {T E : Type 0} {A B : T → Type 0} (r : Result T E) → IfOk r A → ((x : T) → A x → B x) → IfOk r B
each_ok (Ok x) h f = f x h
each_ok (Err e) h f = tt

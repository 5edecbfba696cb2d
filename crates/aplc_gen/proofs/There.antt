-- The function that stands at a number.
use Rattle.std.proofs.Common.{◌≡◌, ◌∙◌, ap, refl, ℕ, ◌<◌, List, length, get_or}
use Rattle.std.proofs.lemmas.Option.{slice_get_read}
use Rattle.aplc_syntax.specs.declared.tree.Function.{Function}
use Rattle.aplc_syntax.specs.declared.tree.Program.{Program}
use Rattle.std.proofs.Common.{sym, Option, Some, None, slice_get}
use Rattle.std.specs.Prelude.{unwrap_or, option_map}
use Rattle.aplc_names.specs.PlainPrograms.{plain, routine_of, name_number}
use Rattle.aplc_core.specs.CoreRuns.{CoreRoutine, no_core}
use Rattle.aplc_core.specs.Lowering.{lowered_routine, lowered_program}
use Rattle.aplc_gen.specs.Layouts.{routine_at}
use Rattle.aplc_gen.proofs.Sites.{routine_is, both}

pub function_is : (p : Program) (fs : List Function) (j : ℕ) (f : Function) → fs ≡ p.functions → j < length p.functions → f ≡ get_or fs j f → routine_at (lowered_program (plain p)) j ≡ lowered_routine (routine_of p f)
function_is p fs j f same lt is = routine_is p j f (slice_get_read p.functions (length p.functions) j f refl lt (is ∙ ap (λ gs. get_or gs j f) same))

-- ---- Its result

pub result_none : (p : Program) (j : ℕ) (o : Option Function) → o ≡ slice_get p.functions j → o ≡ None → None ≡ (routine_at (lowered_program (plain p)) j).header.result
result_none p j o e is =
    sym (ap (λ (r : Option CoreRoutine). (unwrap_or r no_core).header.result) (both p j)
    ∙ ap (λ x. (unwrap_or (option_map lowered_routine (option_map (routine_of p) x)) no_core).header.result) (sym e ∙ is))

pub result_some : (p : Program) (j : ℕ) (o : Option Function) (f : Function) (r : Option ℕ) → o ≡ slice_get p.functions j → o ≡ Some f → r ≡ option_map name_number f.result → r ≡ (routine_at (lowered_program (plain p)) j).header.result
result_some p j o f r e is h = h ∙ ap (λ (c : CoreRoutine). c.header.result) (sym (routine_is p j f (sym e ∙ is)))

pub ruleset results = (result_none, result_some)

-- A function of a program, and what its lowered form has of it.
use Rattle.std.proofs.Common.{◌≡◌, ◌∙◌, sym, ap, refl, ℕ, zero, suc, ◌+◌, List, [], ◌∷◌, length, map, Option, Some, None, slice_get}
use Rattle.std.specs.Prelude.{unwrap_or, option_map}
use Rattle.std.specs.Option.{option_map_or}
use Rattle.aplc_syntax.specs.declared.tree.Function.{Function}
use Rattle.aplc_syntax.specs.declared.tree.Program.{Program}
use Rattle.aplc_names.specs.declared.scope.Scope.{Scope}
use Rattle.aplc_names.specs.declared.scope.Scope.TheVariants as scope
use Rattle.aplc_names.specs.PlainPrograms.{plain, routine_of, line_action}
use Rattle.aplc_names.specs.Scopes.{scope_in, scope_of, IsScope}
use Rattle.aplc_core.specs.PlainSteps.{Effect}
use Rattle.aplc_core.specs.CoreRuns.{CoreRoutine, no_core, steps_at}
use Rattle.aplc_core.specs.Lowering.{lowered, lowered_routine, lowered_program}
use Rattle.aplc_core.specs.CorePrograms.{routine_steps, line_steps}
use Rattle.aplc_gen.specs.Layouts.{routine_at}
use Rattle.aplc_gen.specs.Writing.{IsLineNumber}

got : {A B : Type 0} (f : A → B) (xs : List A) (j : ℕ) (d : A) → unwrap_or (slice_get (map f xs) j) (f d) ≡ f (unwrap_or (slice_get xs j) d)
got f [] j d = refl
got f (x ∷ xs) zero d = refl
got f (x ∷ xs) (suc j) d = got f xs j d

got_some : {A B : Type 0} (f : A → B) (xs : List A) (j : ℕ) → slice_get (map f xs) j ≡ option_map f (slice_get xs j)
got_some f [] j = refl
got_some f (x ∷ xs) zero = refl
got_some f (x ∷ xs) (suc j) = got_some f xs j

routine_by : (p : Program) (o : Option Function) (r : Option CoreRoutine) → r ≡ option_map lowered_routine (option_map (routine_of p) o) → (f : Function) → o ≡ Some f → unwrap_or r no_core ≡ lowered_routine (routine_of p f)
routine_by p o r e f is = ap (λ x. unwrap_or x no_core) e ∙ ap (λ x. unwrap_or (option_map lowered_routine (option_map (routine_of p) x)) no_core) is

pub both : (p : Program) (j : ℕ) → slice_get (lowered_program (plain p)).routines j ≡ option_map lowered_routine (option_map (routine_of p) (slice_get p.functions j))
both p j = got_some lowered_routine (plain p).routines j ∙ ap (option_map lowered_routine) (got_some (routine_of p) p.functions j)

-- function j is there
pub routine_is : (p : Program) (j : ℕ) (f : Function) → slice_get p.functions j ≡ Some f → routine_at (lowered_program (plain p)) j ≡ lowered_routine (routine_of p f)
routine_is p j f is = routine_by p (slice_get p.functions j) _ (both p j) f is

pub lines_are : (p : Program) (f : Function) (r : CoreRoutine) → r ≡ lowered_routine (routine_of p f) → length f.lines ≡ length r.steps
lines_are p f r e = sym (ap (λ (x : CoreRoutine). length x.steps) e ∙ long lowered (map line_action f.lines) ∙ long line_action f.lines)
  where
    long : {A B : Type 0} (g : A → B) (xs : List A) → length (map g xs) ≡ length xs
    long g [] = refl
    long g (x ∷ xs) = ap suc (long g xs)

pub steps_are : (p : Program) (j l : ℕ) (xs : List Effect) → xs ≡ line_steps p j l → xs ≡ unwrap_or (steps_at (routine_at (lowered_program (plain p)) j).steps l) []
steps_are p j l xs e = e ∙ ap (λ (ys : List (List Effect)). unwrap_or (steps_at ys l) []) (got routine_steps (lowered_program (plain p)).routines j no_core)

-- ---- Names

scope_by : (p : Program) (n : ℕ) (o : Option Function) → option_map_or (λ f. scope_in p.functions f n) o scope.Global ≡ (unwrap_or (option_map lowered_routine (option_map (routine_of p) o)) no_core).header.scope n
scope_by p n None = refl
scope_by p n (Some f) = refl

pub scope_is : (p : Program) (j n : ℕ) (x : Scope) → x ≡ scope_of p j n → x ≡ (routine_at (lowered_program (plain p)) j).header.scope n
scope_is p j n x e = e ∙ scope_by p n (slice_get p.functions j) ∙ sym (ap (λ (r : Option CoreRoutine). (unwrap_or r no_core).header.scope n) (both p j))

pub line_number : (p : Program) (j n : ℕ) (x : Scope) → IsScope p j n x → IsLineNumber x
line_number p j n (scope.Function i) h = record {}
line_number p j n scope.Local h = record {}
line_number p j n scope.Global h = record {}
line_number p j n (scope.Label z) h = (h.3 + 1, h.6)

pub ruleset scopes = (scope_is, line_number)

-- What typing reads of a program, by the numbers of its functions.
use Rattle.std.specs.Prelude.{◌≡◌, ℕ, List, map, slice_get, unwrap_or}
use Rattle.aplc_syntax.specs.declared.tree.Named.{Named}
use Rattle.aplc_syntax.specs.declared.tree.Program.{Program}
use Rattle.aplc_names.specs.Clashes.{var_name}
use Rattle.aplc_names.specs.PlainPrograms.{Routine, plain, no_routine}
use Rattle.aplc_infer.specs.declared.cell.Binding.{Binding}
use Rattle.aplc_infer.specs.Seeing.{Context, context_of, declarations, binding_in, local_names}

abbrev pub routine_at : Program → ℕ → Routine
routine_at p j = unwrap_or (slice_get (plain p).routines j) no_routine

-- what name n is in function j
abbrev pub binding_at : Program → ℕ → ℕ → Binding
binding_at p j n = binding_in (routine_at p j) n

abbrev pub context_at : Program → ℕ → Context
context_at p j = context_of (declarations p.vars) (plain p) (routine_at p j)

-- the local names of all functions, and the names that are declared
pub record IsLookup (p : Program) (locals : List (List ℕ)) (vars : List Named) : Type 0 where
  pub locals_are : locals ≡ map local_names (plain p).routines
  pub vars_are : vars ≡ map var_name p.vars

-- Which C functions are those of a program: the code of the steps of a line is whatever does what they do.
use Rattle.std.specs.Prelude.{◌≡◌, ℕ, ◌+◌, ◌≤◌, ◌<◌, ◌^◌, suc, List, [], ◌∷◌, ◌++◌, length, ℤ, pos, Option, Some, None, Bool, true, false, ◌&&◌, unwrap_or}
use Rattle.aplc_cprof.specs.declared.syntax.Int.TheVariants as int
use Rattle.aplc_cprof.specs.declared.syntax.CExpr.TheVariants as expr
use Rattle.aplc_cprof.specs.declared.syntax.CStmt.{CStmt}
use Rattle.aplc_cprof.specs.declared.syntax.CStmt.TheVariants as stmt
use Rattle.aplc_cprof.specs.declared.syntax.Arm.{Arm}
use Rattle.aplc_cprof.specs.declared.syntax.CFunction.{CFunction}
use Rattle.aplc_cprof.specs.declared.syntax.CProgram.{CProgram}
use Rattle.aplc_cprof.specs.WellFormed as formed
use Rattle.aplc_cprof.specs.WellFormed.{are_stmts}
use Rattle.aplc_cprof.specs.Machine.{Code, Caller, Is, read_int}
use Rattle.aplc_cprof.specs.Machine as machine
use Rattle.aplc_names.specs.States.{Places, World, State, Marking}
use Rattle.aplc_names.specs.Eager.{line_named}
use Rattle.aplc_names.specs.Runs.{after}
use Rattle.aplc_core.specs.PlainSteps.{Term, Effect, Branch}
use Rattle.aplc_core.specs.CoreRuns.{told, no_slots, PlainCore, steps_done, core_context, core_run}
use Rattle.aplc_gen.specs.Sound.{nothing_ready, is_line}
use Rattle.aplc_gen.specs.Layouts.{Layout, Site, the_routine, line_place, base, global_ints}
use Rattle.aplc_gen.specs.Emitted.{Lead, out, to, computed, lead, lead_at, landing, known_number, is_entry, first_line, lines_loop, known_through, branches, first_known, entry_known, go_to, leave_code, lead_code, is_line_test, enter_code, site_at}
use Rattle.aplc_gen.specs.Laid.{are_laid_steps, is_counted, steps_fall}
use Rattle.aplc_gen.specs.Relation.{Bounds, Here, Between, HasRoom, Sim, CallsDo, pay}

-- ---- What the code of the steps of a line does

-- the tree of the branch that ends a line
abbrev pub ending : List Effect → Option Term
ending [] = None
ending (Branch t ∷ xs) = Some t
ending (x ∷ xs) = ending xs

-- Where a line leads that is over: l is its number, and `on` what its steps give. Where the code does not say where a branch
-- leads, the line's variable does.
abbrev pub LeadsBy : Site → ℕ → Option ℤ → Option ℕ → machine.State → Type 0
LeadsBy g l (Some z) on s = on ≡ Some (line_named z)
LeadsBy g l None on s = (z : ℤ) × (read_int (int.Local (line_place g)) s ≡ Is z) × (line_named z ≡ after l on)

abbrev pub LeadsOn : Site → ℕ → Option Term → Option ℕ → machine.State → Type 0
LeadsOn g l None on s = on ≡ None
LeadsOn g l (Some t) on s = LeadsBy g l (known_number (the_routine g).header.scope t) on s

-- what the steps of a line leave to spend of the work that they add
abbrev pub for_rest : ℕ
for_rest = 100

-- behind the steps of a line
pub record LineOver (g : Site) (b : Bounds) (known : List ℕ) (l : ℕ) (xs : List Effect) (ps : Places) (cs : List Caller) (on : Option ℕ) (S : World) (s : machine.State) : Type 0 where
  pub state : Between g (pay for_rest b) (known_through known xs) ps.here ps.behind cs S s
  pub leads : LeadsOn g l (ending xs) on s

-- The code does what the steps do, in one run of the machine and one of the source, in which calls and lines nest at most
-- k deep.
abbrev pub LineDoes : (c : Code) (n : ℕ) (m : Marking) (rank : ℕ → ℕ) (k : ℕ) → Site → List ℕ → ℕ → List Effect → List CStmt → Type 0
LineDoes c n m rank k g known l xs code = (b : Bounds) (ps : Places) (cs : List Caller) (S : State) (s : machine.State) →
    n ≤ b.lines → b.fuel ≡ k → HasRoom g.layout rank g.number ps → (g.layout.counted ≡ false → steps_fall rank g.number (the_routine g) xs ≡ true) →
    Here g b known nothing_ready no_slots ps cs S.world s →
    Sim c n code s (steps_done (core_context g.program m (core_run g.program m k) (the_routine g)) (told xs) xs no_slots S) (λ on T t. LineOver g b known l xs ps cs on T.world t)

-- in each run in which calls do what runs say of them
abbrev pub Simulates : Site → List ℕ → ℕ → List Effect → List CStmt → Type 0
Simulates g known l xs code = (c : Code) (n : ℕ) (m : Marking) (rank : ℕ → ℕ) (k : ℕ) → CallsDo c n g.program g.layout m rank k → LineDoes c n m rank k g known l xs code

-- ---- Where it is well formed

-- what the code of a program names is declared
pub record Declares (y : Layout) (sc : formed.Scope) : Type 0 where
  pub ints : global_ints y ≤ sc.global_ints
  pub functions : suc (length y.called) ≤ sc.functions

-- how deep the code of a line may nest
abbrev pub line_depth : ℕ
line_depth = 200

-- with so many variables of the function
abbrev pub IsPlaced : Site → ℕ → ℕ → List CStmt → Type 0
IsPlaced g ints bufs code = (sc : formed.Scope) (room : ℕ) → Declares g.layout sc → ints ≤ sc.ints → bufs ≤ sc.bufs → line_depth ≤ room → are_stmts sc code (Some room) ≡ true

-- ---- Lines

-- the steps are such as lowering gives, and the layout serves them
pub record IsServed (g : Site) (known : List ℕ) (xs : List Effect) : Type 0 where
  pub line : is_line g.program (the_routine g).header.scope xs ≡ true
  pub laid : are_laid_steps g known xs ≡ true
  pub counts : is_counted g.layout.called g.layout.counted ≡ true

-- the code is that of the steps of line l, where names have a value that are known
pub record IsLine (g : Site) (ints bufs : ℕ) (known : List ℕ) (l : ℕ) (xs : List Effect) (code : List CStmt) : Type 0 where
  pub does : IsServed g known xs → Simulates g known l xs code
  pub placed : IsServed g known xs → IsPlaced g ints bufs code

-- what follows the steps
abbrev pub exit_code : Site → Lead → List CStmt
exit_code g out = leave_code g
exit_code g (to l) = go_to g l
exit_code g computed = []

abbrev pub end_code : Site → Option Term → List CStmt
end_code g None = []
end_code g (Some t) = exit_code g (lead (the_routine g) t)

abbrev pub whole_line : Site → ℕ → List Effect → List CStmt → List CStmt
whole_line g l xs code = stmt.At (the_routine g).header.title (pos l) ∷ (code ++ end_code g (ending xs))

abbrev pub Either : Bool → Type 0 → Type 0 → Type 0
Either true A B = A
Either false A B = B

module _ (Line : List ℕ → ℕ → List Effect → List CStmt → Type 0) (g : Site) where
  abbrev mutual
    -- The code is that of the lines from number l on: up to a branch, to the next line that has an arm, or to the function's
    -- end. Where they are only gone through to line l, it is left to its arm, if it has one.
    pub AreLines : List ℕ → Bool → ℕ → List (List Effect) → List CStmt → Type 0
    AreLines known through l [] code = code ≡ leave_code g
    AreLines known through l ([] ∷ xs) code = AreLines known through (l + 1) xs code
    AreLines known through l ((x ∷ more) ∷ xs) code =
        Either (through && is_entry (the_routine g) l) (code ≡ go_to g l)
        ((mine : List CStmt) × (rest : List CStmt) × (code ≡ whole_line g l (x ∷ more) mine ++ rest) × Line known l (x ∷ more) mine × Either (branches (x ∷ more)) (rest ≡ []) (AreLines (known_through known (x ∷ more)) true (l + 1) xs rest))

  -- ---- Arms

  -- A segment is a loop of its own, which a branch to its first line does not leave; an empty line leads on at once.
  abbrev pub IsArm : ℕ → List (List Effect) → List CStmt → Type 0
  IsArm l [] code = code ≡ []
  IsArm l ([] ∷ xs) code = code ≡ lead_code g (lead_at (landing (l + 1) xs))
  IsArm l (x ∷ xs) code = (body : List CStmt) × (code ≡ stmt.While (is_line_test g l) body ∷ []) × AreLines (entry_known g l) false l (x ∷ xs) body

  abbrev pub AreArms : ℕ → List (List Effect) → List Arm → Type 0
  AreArms l [] all = all ≡ []
  AreArms l (x ∷ xs) all =
      Either (is_entry (the_routine g) l)
      ((body : List CStmt) × (rest : List Arm) × (all ≡ record { value = pos l; body = body } ∷ rest) × IsArm l (x ∷ xs) body × AreArms (l + 1) xs rest)
      (AreArms (l + 1) xs all)

-- the loop over the lines that have arms
abbrev pub turn_code : Site → List Arm → CStmt
turn_code g all = stmt.While (expr.Lit (pos 1)) (stmt.Switch (int.Local (line_place g)) all (leave_code g) ∷ [])

module _ (Line : List ℕ → ℕ → List Effect → List CStmt → Type 0) (g : Site) where
  -- a function without branches to lines is its lines one after the other
  abbrev pub IsRun : Bool → List CStmt → Type 0
  IsRun true code = (all : List Arm) × (code ≡ go_to g (first_line (the_routine g)) ++ turn_code g all ∷ []) × AreArms Line g 1 (the_routine g).steps all
  IsRun false code = AreLines Line g (first_known g) false 1 (the_routine g).steps code

  abbrev pub IsBody : List CStmt → Type 0
  IsBody code = (run : List CStmt) × (code ≡ enter_code g ++ run) × IsRun (lines_loop (the_routine g) (the_routine g).steps) run

-- ---- Functions

-- the C function of a function
pub record IsFunction (g : Site) (f : CFunction) : Type 0 where
  pub enough : base g ≤ f.ints
  pub ints : f.ints < 2 ^ 32
  pub bufs : f.bufs < 2 ^ 32
  pub body : IsBody (IsLine g f.ints f.bufs) g f.body

-- those of the functions that are called
abbrev pub AreCalled : Layout → PlainCore → List ℕ → List CFunction → Type 0
AreCalled y p [] fs = fs ≡ []
AreCalled y p (j ∷ js) fs = (f : CFunction) × (rest : List CFunction) × (fs ≡ f ∷ rest) × IsFunction (site_at y p false j) f × AreCalled y p js rest

-- ---- Programs

-- the C program of a lowered program with these variables
pub record IsProgramOf (y : Layout) (p : PlainCore) (x : CProgram) : Type 0 where
  pub tables : x.tables ≡ []
  pub ints : x.ints ≡ global_ints y
  pub bufs : x.bufs ≡ 0
  -- the function with which the run begins, and then those that are called
  pub first : CFunction
  pub rest : List CFunction
  pub functions : x.functions ≡ first ∷ rest
  pub begins : IsFunction (site_at y p true (unwrap_or p.start 0)) first
  pub called : AreCalled y p y.called rest

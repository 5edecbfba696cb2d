-- What is known of nodes while a program is laid out: statements, blocks, arms and functions, one after the other.
use Rattle.std.specs.Prelude.{◌≡◌, ℕ, suc, ◌+◌, ◌-◌, ◌^◌, ◌≤◌, min, List, [], ◌∷◌, ◌++◌, length, ℤ, map, if◌then◌else◌, Option, Some, IsTrue}
use Rattle.aplc_scalar.specs.Scalar.{int_eq}
use Rattle.aplc_cprof.specs.declared.syntax.CExpr.{CExpr}
use Rattle.aplc_cprof.specs.declared.syntax.CStmt.{CStmt}
use Rattle.aplc_cprof.specs.declared.syntax.Arm.{Arm}
use Rattle.aplc_cprof.specs.declared.syntax.CFunction.{CFunction}
use Rattle.aplc_cprof.specs.declared.syntax.CProgram.{CProgram}
use Rattle.aplc_cprof.specs.WellFormed.{Scope, declared, is_stmt, are_stmts, arms_fit, arm_test, are_functions}
use Rattle.aplc_cprof.specs.Machine.{Todo, numbered, bodies_from, size, total}
use Rattle.aplc_crun.specs.Flat.{picked}
use Rattle.aplc_crun.specs.Terms.{IsTerm}
use Rattle.aplc_crun.specs.declared.term.Term.{Term}
use Rattle.aplc_crun.specs.Laying.{Spot, Due, Globals, PartOk, AllFit}
use Rattle.aplc_crun.specs.declared.code.Node.{Node}
use Rattle.aplc_crun.specs.declared.code.Node.TheVariants as form
use Rattle.aplc_crun.specs.declared.choices.Choice.{Choice}
use Rattle.aplc_crun.specs.declared.code.Entry.{Entry}

abbrev pub globals_of : Scope → Globals
globals_of sc = record { ints = sc.global_ints; bufs = sc.global_bufs }

abbrev pub globals : ℕ → ℕ → Globals
globals ints bufs = record { ints = ints; bufs = bufs }

-- ---- Well formed in a scope, with whatever room

abbrev pub IsFormedStmt : Scope → CStmt → Type 0
IsFormedStmt sc x = (room : Option ℕ) × IsTrue (is_stmt sc x room)

abbrev pub IsFormedBlock : Scope → List CStmt → Type 0
IsFormedBlock sc xs = (room : Option ℕ) × IsTrue (are_stmts sc xs room)

abbrev pub AreFormedArms : Scope → List Arm → Type 0
AreFormedArms sc arms = (room : Option ℕ) × IsTrue (arms_fit (map (arm_test sc) arms) room)

abbrev pub AreFormedFunctions : CProgram → List CFunction → Type 0
AreFormedFunctions p fs = IsTrue (are_functions (declared p) (Some 256) fs)

-- ---- What is due, and where

-- a place in a function with such names
abbrev pub spot : Scope → Todo → Spot
spot sc t = record { todo = t; ints = sc.ints; bufs = sc.bufs }

-- where nothing is due
abbrev pub nowhere : Spot
nowhere = record { todo = []; ints = 0; bufs = 0 }

pub record Within (sc : Scope) (s : Spot) : Type 0 where
  pub ints : s.ints ≤ sc.ints
  pub bufs : s.bufs ≤ sc.bufs

-- k gives the spots, from the place n on
abbrev pub Agrees : Due → ℕ → List Spot → Type 0
Agrees k n [] = Unit {0}
Agrees k n (t ∷ ts) = (k n ≡ t) × Agrees k (suc n) ts

-- the nodes of a statement that stands at a place; what is due at each of them follows from what is due afterwards
pub record StmtOk (sc : Scope) (at : ℕ) (added : List Node) (x : CStmt) (next : ℕ) : Type 0 where
  pub size_is : length added ≡ size x
  pub dues : Todo → List Spot
  pub lengths : (rest : Todo) → length (dues rest) ≡ length added
  pub nodes : IsFormedStmt sc x → (k : Due) → Within sc (k next) → Agrees k at (dues (k next).todo) → PartOk (globals_of sc) k at added
  pub due : (k : Due) → Agrees k at (dues (k next).todo) → k at ≡ spot sc ((at, x) ∷ (k next).todo)

-- where a block begins
abbrev pub entry : List CStmt → ℕ → ℕ → ℕ
entry [] at next = next
entry (x ∷ xs) at next = at

pub record BlockOk (sc : Scope) (at : ℕ) (added : List Node) (xs : List CStmt) (next : ℕ) : Type 0 where
  pub size_is : length added ≡ total (map size xs)
  pub dues : Todo → List Spot
  pub lengths : (rest : Todo) → length (dues rest) ≡ length added
  pub nodes : IsFormedBlock sc xs → (k : Due) → Within sc (k next) → Agrees k at (dues (k next).todo) → PartOk (globals_of sc) k at added
  pub due : (k : Due) → Agrees k at (dues (k next).todo) → (k (entry xs at next)).todo ≡ numbered at xs ++ (k next).todo
  pub inside : (k : Due) → Within sc (k next) → Agrees k at (dues (k next).todo) → Within sc (k (entry xs at next))

-- the place so many places behind another, or the last one where that is beyond it
abbrev pub place_after : ℕ → ℕ → ℕ
place_after at n = min (at + n) (2 ^ 64 - 1)

abbrev pub arm_size : Arm → ℕ
arm_size a = total (map size a.body)

-- where each arm begins
abbrev pub choices_of : ℕ → List Arm → ℕ → List Choice
choices_of at [] next = []
choices_of at (a ∷ arms) next = record { value = a.value; at = entry a.body at next } ∷ choices_of (at + arm_size a) arms next

-- the same, where a place beyond the last one is counted as the last one
abbrev pub choices_up : ℕ → List Arm → ℕ → List Choice
choices_up at [] next = []
choices_up at (a ∷ arms) next = record { value = a.value; at = entry a.body at next } ∷ choices_up (place_after at (arm_size a)) arms next

-- the arm of a number, else other statements
abbrev pub chosen_or : ℤ → ℕ → List Arm → Todo → Todo
chosen_or v n [] t = t
chosen_or v n (a ∷ arms) t = if int_eq v a.value then numbered n a.body else chosen_or v (n + arm_size a) arms t

pub record ArmsOk (sc : Scope) (at : ℕ) (added : List Node) (arms : List Arm) (next : ℕ) : Type 0 where
  pub size_is : length added ≡ total (map arm_size arms)
  pub dues : Todo → List Spot
  pub lengths : (rest : Todo) → length (dues rest) ≡ length added
  pub nodes : AreFormedArms sc arms → (k : Due) → Within sc (k next) → Agrees k at (dues (k next).todo) → PartOk (globals_of sc) k at added
  pub picks : (k : Due) → Agrees k at (dues (k next).todo) → (v : ℤ) (other : ℕ) (t : Todo) → (k other).todo ≡ t ++ (k next).todo → (k (picked v (choices_of at arms next) other)).todo ≡ chosen_or v at arms t ++ (k next).todo
  pub inside : (k : Due) → Within sc (k next) → Agrees k at (dues (k next).todo) → (v : ℤ) (other : ℕ) → Within sc (k other) → Within sc (k (picked v (choices_of at arms next) other))

-- nodes to whose end a statement, a block or arms were laid, whatever names there are
pub record LaidStmt (old new : List Node) (x : CStmt) (next : ℕ) : Type 0 where
  pub added : List Node
  pub new_is : new ≡ old ++ added
  pub ok : (sc : Scope) → StmtOk sc (length old) added x next

pub record LaidBlock (old new : List Node) (xs : List CStmt) (next : ℕ) : Type 0 where
  pub added : List Node
  pub new_is : new ≡ old ++ added
  pub ok : (sc : Scope) → BlockOk sc (length old) added xs next

pub record LaidArms (old new : List Node) (arms : List Arm) (next : ℕ) : Type 0 where
  pub added : List Node
  pub new_is : new ≡ old ++ added
  pub ok : (sc : Scope) → ArmsOk sc (length old) added arms next

-- one node more: a condition, with the places where it holds and where it does not
pub record OpenedIf (old new : List Node) (e : CExpr) (met other : ℕ) : Type 0 where
  pub term : Term
  pub same : IsTerm e term
  pub new_is : new ≡ old ++ form.If term met other ∷ []

pub record OpenedWhile (old new : List Node) (e : CExpr) (body next : ℕ) : Type 0 where
  pub term : Term
  pub same : IsTerm e term
  pub new_is : new ≡ old ++ form.While term body next ∷ []

abbrev pub sizes_of : List CFunction → ℕ
sizes_of [] = 0
sizes_of (f ∷ fs) = total (map size f.body) + sizes_of fs

-- the nodes of the first functions of a program
pub record FunctionsOk (p : CProgram) (code : List Node) (entries : List Entry) (fs : List CFunction) : Type 0 where
  pub size_is : length code ≡ 1 + sizes_of fs
  pub dues : List Spot
  pub lengths : length dues ≡ length code
  pub nodes : AreFormedFunctions p fs → (k : Due) → Agrees k 0 dues → PartOk (globals p.ints p.bufs) k 0 code
  pub starts : (k : Due) → Agrees k 0 dues → map (λ e. (k e.at).todo) entries ≡ bodies_from 1 fs
  pub fits : (k : Due) → Agrees k 0 dues → AllFit k entries
  pub leaves : (k : Due) → Agrees k 0 dues → k 0 ≡ nowhere

pub record LaidFunctions (code : List Node) (entries : List Entry) (fs : List CFunction) : Type 0 where
  pub ok : (p : CProgram) → FunctionsOk p code entries fs

-- Small runs, computed: how many steps they take.
-- They stand on no rule: each is a run of the definition itself.
use Rattle.std.proofs.Common.{◌≡◌, ℕ, List, [], ◌∷◌, refl, pos}
use Rattle.aplc_cprof.specs.declared.syntax.Op.TheVariants as op
use Rattle.aplc_cprof.specs.declared.syntax.CExpr.TheVariants as expr
use Rattle.aplc_cprof.specs.declared.syntax.CStmt.{CStmt}
use Rattle.aplc_cprof.specs.declared.syntax.CStmt.TheVariants as stmt
use Rattle.aplc_cprof.specs.declared.syntax.CProgram.{CProgram}
use Rattle.aplc_cprof.specs.Machine.{Next, Going, Ended, Faulted, Stuck, code_of, initial, step, run, divided}
use Rattle.aplc_cprof.specs.Examples.{v0, literal}
use Rattle.aplc_cprof.proofs.Values.{values, sizes}

-- a statement is of its form
ruleset seen = (stmt.outs-Set, stmt.outs-Call, stmt.outs-Return, stmt.outs-While, stmt.outs-Switch)

-- two functions, the first of which has one variable
abbrev program : List CStmt → List CStmt → CProgram
program f0 f1 = record { tables = []; ints = 0; bufs = 0; functions = record { ints = 1; bufs = 0; body = f0 } ∷ record { ints = 0; bufs = 0; body = f1 } ∷ [] }

abbrev after : CProgram → ℕ → Next
after p m = run (code_of p) m (initial (code_of p) [])

-- an end, in just so many steps
abbrev EndsIn : ℕ → Next → Type 0
EndsIn k (Ended s) = s.steps ≡ k
EndsIn k (Going s) = ⊥
EndsIn k (Faulted f s) = ⊥
EndsIn k (Stuck c n s) = ⊥

-- stuck at the statement of this number, which counts as a step
abbrev StuckAt : ℕ → ℕ → Next → Type 0
StuckAt i k (Stuck c n s) = (n ≡ i) × (s.steps ≡ k)
StuckAt i k (Ended s) = ⊥
StuckAt i k (Going s) = ⊥
StuckAt i k (Faulted f s) = ⊥

-- an empty function is one step
empty_function : EndsIn 1 (after (program [] []) 1)
unfolding step
empty_function = refl

-- `return;` is one, and what follows it is not done
returned : EndsIn 1 (after (program (stmt.Return ∷ stmt.Call 0 ∷ []) []) 1)
unfolding step
returned = simp (seen, sizes) refl

-- a call of an empty function is one, and leaving it another
called : EndsIn 3 (after (program (stmt.Call 1 ∷ []) []) 3)
unfolding step
called = simp seen refl

-- a loop of n turns has n + 1 conditions; its body is one statement, and one stands before it and the end behind it
abbrev down : ℕ → List CStmt
down n = stmt.Set v0 (literal n) ∷ stmt.While (expr.Var v0) (stmt.Set v0 (literal 0) ∷ []) ∷ []

no_turn : EndsIn 3 (after (program (down 0) []) 3)
unfolding step
no_turn = simp (seen, sizes, values) refl

one_turn : EndsIn 5 (after (program (down 1) []) 5)
unfolding step
one_turn = simp (seen, sizes, values) refl

-- a switch is one step, whatever it chooses; within it the statements are numbered arm after arm, the default last
abbrev choice : ℕ → List CStmt
choice k = stmt.Set v0 (literal k) ∷ stmt.Switch v0 (record { value = pos 0; body = stmt.Return ∷ [] } ∷ record { value = pos 3; body = stmt.Set v0 (expr.Bin op.Div (literal 1) (literal 0)) ∷ [] } ∷ []) [] ∷ []

first_arm : EndsIn 3 (after (program (choice 0) []) 3)
unfolding step
first_arm = simp (seen, sizes, values) refl

second_arm : StuckAt 4 3 (after (program (choice 3) []) 3)
unfolding step divided
second_arm = simp (seen, sizes, values) (refl, refl)

no_arm : EndsIn 3 (after (program (choice 2) []) 3)
unfolding step
no_arm = simp (seen, sizes, values) refl

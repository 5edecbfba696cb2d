-- Code of which less is asked of the steps of each line, as where more variables are declared.
use Rattle.std.proofs.Common.{◌≡◌, ℕ, ◌+◌, ◌≤◌, List, [], ◌∷◌, ◌++◌, arith, pos, Bool, true, false}
use Rattle.std.specs.Prelude.{◌&&◌}
use Rattle.aplc_cprof.specs.declared.syntax.Arm.{Arm}
use Rattle.aplc_cprof.specs.declared.syntax.CStmt.{CStmt}
use Rattle.aplc_cprof.specs.Blocks.{Blocks}
use Rattle.aplc_core.specs.PlainSteps.{Effect}
use Rattle.aplc_gen.specs.Layouts.{Site, the_routine}
use Rattle.aplc_gen.specs.Emitted.{is_entry, known_through, branches, first_known, entry_known, go_to}
use Rattle.aplc_gen.specs.Codes.{whole_line, Either, AreLines, IsArm, AreArms, IsRun}
use Rattle.aplc_gen.specs.Added.{Lined}

-- the code of a line is that also where more variables were given
pub lined_more : (g : Site) (a b : Blocks) → a.ints ≤ b.ints → a.bufs ≤ b.bufs → (known : List ℕ) (l : ℕ) (xs : List Effect) (code : List CStmt) → Lined g a known l xs code → Lined g b known l xs code
lined_more g a b ints bufs known l xs code line = record {
  does = line.does;
  placed = λ served sc room declares all_ints all_bufs deep. line.placed served sc room declares (omega (arith, ints, all_ints)) (omega (arith, bufs, all_bufs)) deep;
}

module _ (Line Less : List ℕ → ℕ → List Effect → List CStmt → Type 0) (g : Site) (less : (known : List ℕ) (l : ℕ) (xs : List Effect) (code : List CStmt) → Line known l xs code → Less known l xs code) where
  pub lines_less : (known : List ℕ) (through : Bool) (l : ℕ) (xs : List (List Effect)) (code : List CStmt) → AreLines Line g known through l xs code → AreLines Less g known through l xs code
  lines_less known through l [] code is = is
  lines_less known through l ([] ∷ xs) code is = lines_less known through (l + 1) xs code is
  lines_less known through l ((x ∷ more) ∷ xs) code is = either (through && is_entry (the_routine g) l) is (λ rest later. lines_less (known_through known (x ∷ more)) true (l + 1) xs rest later)
    where
      Rest : List CStmt → Type 0
      Rest rest = AreLines Line g (known_through known (x ∷ more)) true (l + 1) xs rest

      Less_rest : List CStmt → Type 0
      Less_rest rest = AreLines Less g (known_through known (x ∷ more)) true (l + 1) xs rest

      behind : (b : Bool) (rest : List CStmt) → Either b (rest ≡ []) (Rest rest) → (Rest rest → Less_rest rest) → Either b (rest ≡ []) (Less_rest rest)
      behind true rest is f = is
      behind false rest is f = f is

      either : (b : Bool) → Either b (code ≡ go_to g l) ((mine : List CStmt) × (rest : List CStmt) × (code ≡ whole_line g l (x ∷ more) mine ++ rest) × Line known l (x ∷ more) mine × Either (branches (x ∷ more)) (rest ≡ []) (Rest rest))
          → ((rest : List CStmt) → Rest rest → Less_rest rest)
          → Either b (code ≡ go_to g l) ((mine : List CStmt) × (rest : List CStmt) × (code ≡ whole_line g l (x ∷ more) mine ++ rest) × Less known l (x ∷ more) mine × Either (branches (x ∷ more)) (rest ≡ []) (Less_rest rest))
      either true is f = is
      either false (mine, rest, is, its, later) f = (mine, rest, is, less known l (x ∷ more) mine its, behind (branches (x ∷ more)) rest later (f rest))

  pub arm_less : (l : ℕ) (xs : List (List Effect)) (code : List CStmt) → IsArm Line g l xs code → IsArm Less g l xs code
  arm_less l [] code is = is
  arm_less l ([] ∷ xs) code is = is
  arm_less l ((x ∷ more) ∷ xs) code (body, is, lines) = (body, is, lines_less (entry_known g l) false l ((x ∷ more) ∷ xs) body lines)

  pub arms_less : (l : ℕ) (xs : List (List Effect)) (all : List Arm) → AreArms Line g l xs all → AreArms Less g l xs all
  arms_less l [] all is = is
  arms_less l (x ∷ xs) all is = either (is_entry (the_routine g) l) is (λ rest later. arms_less (l + 1) xs rest later)
    where
      Rest : List Arm → Type 0
      Rest rest = AreArms Line g (l + 1) xs rest

      Less_rest : List Arm → Type 0
      Less_rest rest = AreArms Less g (l + 1) xs rest

      either : (b : Bool) → Either b ((body : List CStmt) × (rest : List Arm) × (all ≡ record { value = pos l; body = body } ∷ rest) × IsArm Line g l (x ∷ xs) body × Rest rest) (Rest all)
          → ((rest : List Arm) → Rest rest → Less_rest rest)
          → Either b ((body : List CStmt) × (rest : List Arm) × (all ≡ record { value = pos l; body = body } ∷ rest) × IsArm Less g l (x ∷ xs) body × Less_rest rest) (Less_rest all)
      either false later f = f all later
      either true (body, rest, is, arm, later) f = (body, rest, is, arm_less l (x ∷ xs) body arm, f rest later)

  pub run_less : (b : Bool) (code : List CStmt) → IsRun Line g b code → IsRun Less g b code
  run_less true code (all, is, arms) = (all, is, arms_less 1 (the_routine g).steps all arms)
  run_less false code lines = lines_less (first_known g) false 1 (the_routine g).steps code lines

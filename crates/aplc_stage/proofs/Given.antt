-- Names that were given: those of values that were made, and the buffer variables of steppers.
-- It must not know what code does with them.
use Rattle.std.proofs.Common.{◌≡◌, ℕ, List, [], ◌∷◌, refl, ap, ◌∙◌, arith}
use Rattle.std.specs.Prelude.{max}
use Rattle.aplc_cprof.specs.declared.syntax.Int.{Int}
use Rattle.aplc_cprof.specs.declared.syntax.Int.TheVariants as int
use Rattle.aplc_cprof.specs.declared.syntax.Buf.{Buf}
use Rattle.aplc_cprof.specs.declared.syntax.Buf.TheVariants as buf
use Rattle.aplc_cprof.specs.Blocks.{Blocks}
use Rattle.aplc_cprof.specs.Machine.{State}
use Rattle.aplc_cprof.specs.Frames.{AreGiven, Unnamed}
use Rattle.aplc_cprof.proofs.Frames.{fresh_old}
use Rattle.aplc_collect.specs.Elements.{scope_of, scope_of_buf}
use Rattle.aplc_step.specs.declared.stepper.Origin.{Origin}
use Rattle.aplc_step.specs.declared.stepper.Origin.TheVariants as origin
use Rattle.aplc_step.specs.Steppers.{AreFresh, scope_of_all, stepper_scope}
use Rattle.aplc_stage.specs.declared.staged.Staged.{Staged}
use Rattle.aplc_stage.specs.declared.staged.Staged.TheVariants as staged
use Rattle.aplc_stage.specs.Staged.{scope_of_staged}
use Rattle.aplc_stage.specs.Computes.{IsFreshBuf, IsNew}
use Rattle.aplc_stage.proofs.Chains.{both_given, old_given}

-- ---- Values that were made

all_fresh_given : (n : ℕ) (b : Blocks) (xs : List Int) → AreFresh n b.ints xs → AreGiven (scope_of_all xs) b
all_fresh_given n b [] h = record { ints = omega arith; bufs = omega arith }
all_fresh_given n b (x ∷ xs) h = both_given (scope_of x) (scope_of_all xs) b (old_given x b (fresh_old n b.ints x h.0)) (all_fresh_given n b xs h.1)

buffer_given : (n : ℕ) (b : Blocks) (p : Buf) → IsFreshBuf n b.bufs p → AreGiven (scope_of_buf p) b
buffer_given n b (buf.Local k) h = let lt = h.1 in record { ints = omega arith; bufs = omega (arith, lt) }
buffer_given n b (buf.Global k) h = absurd h

-- what is new was given
pub new_given : (a b : Blocks) (x : Staged) → IsNew a b x → AreGiven (scope_of_staged x) b
new_given a b (staged.Scalar x) h = old_given x b (fresh_old a.ints b.ints x h)
new_given a b (staged.Cells (origin.Buffer p) lengths) h =
    both_given (scope_of_buf p) (scope_of_all lengths) b (buffer_given a.bufs b p h.0) (all_fresh_given a.ints b lengths h.1)
new_given a b (staged.Cells (origin.Table k) lengths) h = absurd h

-- ---- Buffer variables

no_buffer : (x : Int) → (scope_of x).bufs ≡ 0
no_buffer (int.Local k) = refl
no_buffer (int.Global k) = refl

no_buffers : (xs : List Int) → (scope_of_all xs).bufs ≡ 0
no_buffers [] = refl
no_buffers (x ∷ xs) = ap (λ i. max i (scope_of_all xs).bufs) (no_buffer x) ∙ ap (max 0) (no_buffers xs)

no_global_buffer : (x : Int) → (scope_of x).global_bufs ≡ 0
no_global_buffer (int.Local k) = refl
no_global_buffer (int.Global k) = refl

no_global_buffers : (xs : List Int) → (scope_of_all xs).global_bufs ≡ 0
no_global_buffers [] = refl
no_global_buffers (x ∷ xs) = ap (λ i. max i (scope_of_all xs).global_bufs) (no_global_buffer x) ∙ ap (max 0) (no_global_buffers xs)

-- a stepper has just the value's
pub stepper_unnamed : (from : Origin) (base : Int) (strides lengths : List Int) (b : ℕ) (s : State) → Unnamed (scope_of_staged (staged.Cells from lengths)) b s → Unnamed (stepper_scope from base strides) b s
stepper_unnamed from base strides lengths b s u = record {
  bufs = λ p lt. u.bufs p (let i = no_buffer base in let j = no_buffers strides in omega (arith, lt, i, j));
  global_bufs = λ p lt. u.global_bufs p (let i = no_global_buffer base in let j = no_global_buffers strides in omega (arith, lt, i, j));
}

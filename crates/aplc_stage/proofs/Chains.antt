-- Pieces of code that leave all as it was, one after the other, and the names that steppers look at.
-- It must not know what the pieces are for.
use Rattle.std.proofs.Common.{ℕ, ◌+◌, ◌≤◌, List, [], ◌∷◌, ◌++◌, length, arith}
use Rattle.aplc_scalar.specs.declared.kind.FaultKind.{FaultKind}
use Rattle.aplc_cprof.specs.declared.syntax.Int.{Int}
use Rattle.aplc_cprof.specs.declared.syntax.Int.TheVariants as int
use Rattle.aplc_cprof.specs.declared.syntax.Buf.TheVariants as buf
use Rattle.aplc_cprof.specs.declared.syntax.CStmt.{CStmt}
use Rattle.aplc_cprof.specs.Blocks.{Blocks}
use Rattle.aplc_cprof.specs.WellFormed.{Scope}
use Rattle.aplc_cprof.specs.Machine.{State, Code}
use Rattle.aplc_cprof.specs.Frames.{AreGiven, IsOld, AreOld, IsFresh, Stays}
use Rattle.aplc_cprof.specs.Emitted.{joint, no_names, IsWithin, AreInts, IsFormed}
use Rattle.aplc_cprof.proofs.Paths.{Does, does_then, does_weaken}
use Rattle.aplc_cprof.proofs.Frames.{stays_then, stays_less}
use Rattle.aplc_cprof.proofs.Emitted.{fresh_declared, within_less}
use Rattle.aplc_collect.specs.Elements.{scope_of}
use Rattle.aplc_step.specs.declared.stepper.Origin.{Origin}
use Rattle.aplc_step.specs.declared.stepper.Origin.TheVariants as origin
use Rattle.aplc_step.specs.Steppers.{AreFresh, origin_scope, scope_of_all, stepper_scope}
use Rattle.aplc_stage.specs.Computes.{NoFault}
use Rattle.aplc_stage.specs.Pieces.{locals}
use Rattle.aplc_stage.proofs.Heaps.{IsOldOrigin}

-- ---- Code

-- a piece that leaves all that was given before it, and what comes behind it
pub piece_then : (c : Code) (n m n' m' j k : ℕ) (a b : List CStmt) (s t : State) (Mid Post : State → Type 0) (Fail : FaultKind → State → Type 0) → n ≤ n' → m ≤ m' → Stays n m s t → Does c (Stays n' m' t) j a t Mid NoFault → ((u : State) → Mid u → Does c (Stays n m s) k b u Post Fail) → Does c (Stays n m s) (j + k) (a ++ b) t Post Fail
piece_then c n m n' m' j k a b s t Mid Post Fail le lem f d next =
    does_then c (Stays n m s) j k a b t Mid Post Fail
    (does_weaken c (Stays n' m' t) (Stays n m s) j j a t Mid Mid NoFault Fail (λ u st. stays_then n m s t u f (stays_less n n' m m' t u le lem st)) (λ u x. x) (λ kind u x. absurd x) (omega arith) d)
    next

-- the last piece
pub piece_last : (c : Code) (n m n' m' k : ℕ) (a : List CStmt) (s t : State) (Mid Post : State → Type 0) (Fail : FaultKind → State → Type 0) → n ≤ n' → m ≤ m' → Stays n m s t → Does c (Stays n' m' t) k a t Mid NoFault → ((u : State) → Mid u → Post u) → Does c (Stays n m s) k a t Post Fail
piece_last c n m n' m' k a s t Mid Post Fail le lem f d last =
    does_weaken c (Stays n' m' t) (Stays n m s) k k a t Mid Post NoFault Fail (λ u st. stays_then n m s t u f (stays_less n n' m m' t u le lem st)) last (λ kind u x. absurd x) (omega arith) d

-- since an earlier state, too, all stays
pub stays_since : (n m n' m' : ℕ) (s t u : State) → n ≤ n' → m ≤ m' → Stays n m s t → Stays n' m' t u → Stays n m s u
stays_since n m n' m' s t u le lem f h = stays_then n m s t u f (stays_less n n' m m' t u le lem h)

-- a piece is well formed behind others wherever its names are declared there
pub piece_formed : (g : Scope) (xs : List Int) (b e : Blocks) (d depth : ℕ) (code : List CStmt) → b.ints ≤ e.ints → b.bufs ≤ e.bufs → d ≤ depth → ((sc : Scope) → IsWithin g sc → e.ints ≤ sc.ints → AreInts sc xs) → IsFormed no_names xs [] b d code → IsFormed g [] [] e depth code
piece_formed g xs b e d depth code lei leb led names f sc room within are bufs more more_bufs le =
    f sc room (within_less no_names g sc (omega arith) (omega arith) (omega arith) (omega arith) within) (names sc within more) tt (omega (arith, lei, more)) (omega (arith, leb, more_bufs)) (omega (arith, led, le))

-- ---- Names that are declared

pub all_declared : (sc : Scope) (n m : ℕ) (xs : List Int) → AreFresh n m xs → m ≤ sc.ints → AreInts sc xs
all_declared sc n m [] h le = tt
all_declared sc n m (x ∷ xs) h le = (fresh_declared sc n m x h.0 le, all_declared sc n m xs h.1 le)

-- variables that were given one after the other
pub locals_new : (n : ℕ) (like : List Int) → AreFresh n (n + length like) (locals n like)
locals_new n like = from n n (n + length like) like (omega arith) (omega arith)
  where
    from : (n k m : ℕ) (xs : List Int) → n ≤ k → k + length xs ≤ m → AreFresh n m (locals k xs)
    from n k m [] le room = tt
    from n k m (x ∷ xs) le room = ((le, omega (arith, room)), from n (k + 1) m xs (omega (arith, le)) (omega (arith, room)))

-- ---- Names of steppers

pub both_within : (g h sc : Scope) → IsWithin g sc → IsWithin h sc → IsWithin (joint g h) sc
both_within g h sc v w =
    let a = v.global_ints in let b = v.global_bufs in let c = v.tables in let d = v.functions in
    let i = w.global_ints in let j = w.global_bufs in let k = w.tables in let l = w.functions in
    record { global_ints = omega (arith, a, i); global_bufs = omega (arith, b, j); tables = omega (arith, c, k); functions = omega (arith, d, l) }

-- a local variable has no name beyond the function
pub fresh_within : (n m : ℕ) (x : Int) (sc : Scope) → IsFresh n m x → IsWithin (scope_of x) sc
fresh_within n m (int.Local k) sc h = record { global_ints = omega arith; global_bufs = omega arith; tables = omega arith; functions = omega arith }
fresh_within n m (int.Global k) sc h = absurd h

all_within : (n m : ℕ) (xs : List Int) (sc : Scope) → AreFresh n m xs → IsWithin (scope_of_all xs) sc
all_within n m [] sc h = record { global_ints = omega arith; global_bufs = omega arith; tables = omega arith; functions = omega arith }
all_within n m (x ∷ xs) sc h = both_within (scope_of x) (scope_of_all xs) sc (fresh_within n m x sc h.0) (all_within n m xs sc h.1)

pub stepper_within : (from : Origin) (base : Int) (strides : List Int) (n m n' m' : ℕ) (sc : Scope) → IsFresh n m base → AreFresh n' m' strides → IsWithin (origin_scope from) sc → IsWithin (stepper_scope from base strides) sc
stepper_within from base strides n m n' m' sc h k w =
    both_within (origin_scope from) (joint (scope_of base) (scope_of_all strides)) sc w
    (both_within (scope_of base) (scope_of_all strides) sc (fresh_within n m base sc h) (all_within n' m' strides sc k))

-- ---- Names that were given

pub both_given : (g h : Scope) (b : Blocks) → AreGiven g b → AreGiven h b → AreGiven (joint g h) b
both_given g h b v w =
    let i = v.ints in let j = v.bufs in let k = w.ints in let l = w.bufs in
    record { ints = omega (arith, i, k); bufs = omega (arith, j, l) }

pub old_given : (x : Int) (b : Blocks) → IsOld b.ints x → AreGiven (scope_of x) b
old_given (int.Local k) b h = record { ints = omega (arith, h); bufs = omega arith }
old_given (int.Global k) b h = record { ints = omega arith; bufs = omega arith }

pub all_given : (xs : List Int) (b : Blocks) → AreOld b.ints xs → AreGiven (scope_of_all xs) b
all_given [] b h = record { ints = omega arith; bufs = omega arith }
all_given (x ∷ xs) b h = both_given (scope_of x) (scope_of_all xs) b (old_given x b h.0) (all_given xs b h.1)

pub origin_given : (from : Origin) (b : Blocks) → IsOldOrigin b.bufs from → AreGiven (origin_scope from) b
origin_given (origin.Buffer (buf.Local k)) b h = record { ints = omega arith; bufs = omega (arith, h) }
origin_given (origin.Buffer (buf.Global k)) b h = record { ints = omega arith; bufs = omega arith }
origin_given (origin.Table k) b h = record { ints = omega arith; bufs = omega arith }

pub stepper_given : (from : Origin) (base : Int) (strides : List Int) (b : Blocks) → IsOldOrigin b.bufs from → IsOld b.ints base → AreOld b.ints strides → AreGiven (stepper_scope from base strides) b
stepper_given from base strides b h k l =
    both_given (origin_scope from) (joint (scope_of base) (scope_of_all strides)) b (origin_given from b h)
    (both_given (scope_of base) (scope_of_all strides) b (old_given base b k) (all_given strides b l))

-- What an evaluation comes to: a value that fits, or a fault other than RANK.
use Rattle.std.proofs.Common.{refl, ℕ, List, [], ◌∷◌, length, Option, Some, None, Bool, true, false, ℤ}
use Rattle.std.specs.Prelude.{option_and_then, nat_lt, ◌≢◌, if◌then◌else◌}
use Rattle.aplc_scalar.specs.declared.kind.FaultKind.TheVariants as fault
use Rattle.aplc_scalar.specs.Input.{InputLine, Line, Unread, input_line, number_line, read_line, line_or_fault, decoded, line_text, line_bytes, after_line}
use Rattle.aplc_names.specs.States.{World, State, Outcome, Gives, Faulted, Going, and_then}
use Rattle.aplc_soundness.proofs.Held.{not_rank}

-- P holds of the value and the world after; where there is no value, W of the world
abbrev pub Comes : {A : Type 0} → (World → Type 0) → (A → World → Type 0) → Outcome A → Type 0
Comes W P (Gives v s) = P v s.world
Comes W P (Faulted e s) = W s.world × (e ≢ fault.Rank)
Comes W P (Going s) = W s.world

-- Q holds of the value, if there is one
abbrev pub Always : {A : Type 0} → (A → Type 0) → Outcome A → Type 0
Always Q (Gives v s) = Q v
Always Q (Faulted e s) = Unit {0}
Always Q (Going s) = Unit {0}

pub comes_then : {A B : Type 0} (W : World → Type 0) (P : A → World → Type 0) (Q : B → World → Type 0) (o : Outcome A) (next : A → State → Outcome B) → Comes W P o → ((v : A) (s : State) → P v s.world → Comes W Q (next v s)) → Comes W Q (and_then o next)
comes_then W P Q (Gives v s) next h rest = rest v s h
comes_then W P Q (Faulted e s) next h rest = h
comes_then W P Q (Going s) next h rest = h

pub comes_and : {A : Type 0} (W : World → Type 0) (P : A → World → Type 0) (Q : A → Type 0) (o : Outcome A) → Comes W P o → Always Q o → Comes W (λ v w. Q v × P v w) o
comes_and W P Q (Gives v s) h q = (q, h)
comes_and W P Q (Faulted e s) h q = h
comes_and W P Q (Going s) h q = h

pub comes_map : {A : Type 0} (W : World → Type 0) (P Q : A → World → Type 0) (o : Outcome A) → Comes W P o → ((v : A) (w : World) → P v w → Q v w) → Comes W Q o
comes_map W P Q (Gives v s) h f = f v s.world h
comes_map W P Q (Faulted e s) h f = h
comes_map W P Q (Going s) h f = h

pub always_then : {A B : Type 0} (P : A → Type 0) (Q : B → Type 0) (o : Outcome A) (next : A → State → Outcome B) → Always P o → ((v : A) (s : State) → P v → Always Q (next v s)) → Always Q (and_then o next)
always_then P Q (Gives v s) next h rest = rest v s h
always_then P Q (Faulted e s) next h rest = tt
always_then P Q (Going s) next h rest = tt

pub always_unit : {A : Type 0} (o : Outcome A) → Always (λ v. Unit {0}) o
always_unit (Gives v s) = tt
always_unit (Faulted e s) = tt
always_unit (Going s) = tt

-- ---- Lines of input

-- a line that is not read is no fault of ranks
abbrev pub IsFairLine : InputLine → Type 0
IsFairLine (Unread e) = e ≢ fault.Rank
IsFairLine (Line zs rest) = Unit {0}

fair_or_fault : (o : Option (List ℤ)) (rest : List ℕ) → IsFairLine (line_or_fault o rest)
fair_or_fault None rest = not_rank fault.Input refl
fair_or_fault (Some zs) rest = tt

fair_chosen : (b : Bool) (x y : InputLine) → IsFairLine x → IsFairLine y → IsFairLine (if b then x else y)
fair_chosen true x y p q = p
fair_chosen false x y p q = q

fair_line : (meaning : List ℕ → Option (List ℤ)) (bs : List ℕ) → IsFairLine (read_line meaning bs)
fair_line meaning [] = not_rank fault.Input refl
fair_line meaning (b ∷ bs) =
    let read = option_and_then meaning (decoded (line_text (b ∷ bs))) in
    fair_chosen (nat_lt 2147483647 (length (line_bytes (b ∷ bs)))) (Unread fault.Limit) (line_or_fault read (after_line (b ∷ bs))) (not_rank fault.Limit refl) (fair_or_fault read (after_line (b ∷ bs)))

pub fair_input_line : (bs : List ℕ) → IsFairLine (input_line bs)
unfolding input_line
fair_input_line bs = fair_line _ bs

pub fair_number_line : (bs : List ℕ) → IsFairLine (number_line bs)
unfolding number_line
fair_number_line bs = fair_line _ bs

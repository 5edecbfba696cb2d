-- What the step of each effect comes to.
use Rattle.std.proofs.Common.{◌≡◌, ◌∙◌, refl, sym, ap, ℕ, ◌+◌, ◌≤◌, List, [], ◌∷◌, ◌++◌, Option, Some, None, Bool, true, if◌then◌else◌}
use Rattle.std.specs.Prelude.{Result, Ok, Err, option_map}
use Rattle.aplc_scalar.specs.declared.kind.FaultKind.{FaultKind}
use Rattle.aplc_arr.specs.Arrays.{Array, rank, product}
use Rattle.aplc_arr.specs.Indexing.{changed}
use Rattle.aplc_syntax.specs.PlainTrees.{Tree, Argument, absent, given}
use Rattle.aplc_syntax.specs.PlainTrees as t
use Rattle.aplc_names.specs.declared.scope.Scope.{Scope}
use Rattle.aplc_names.specs.declared.scope.Scope.TheVariants as scope
use Rattle.aplc_names.specs.States.{World, State, Marking, Giving, Outcome, Gives, and_then, on_account, is_among, worked, released}
use Rattle.aplc_names.specs.Eager.{Context, Use, passed, noted, ready, there, value_of_name, old_value, with_value, assigned, put, change, change_there, held_for_argument, function_of, called, value, argument}
use Rattle.aplc_core.specs.PlainSteps.{Term, Read, Slot, Terms, Effect, Store, StoreAt, Call, Show}
use Rattle.aplc_core.specs.CoreRuns.{Slots, set_slot, Told, use_in, value_kept, kept_in, value_of, held_for_kept, called_with, read_again, read_name, term_value, term_values}
use Rattle.aplc_core.specs.Lowering.{Kept, CutArgument, argument_kept}
use Rattle.aplc_core.proofs.Carried.{then_then, then_same, carried_same, carried_more, giving, same_number, AgreeBelow, next_set, next_into}
use Rattle.aplc_core.proofs.Cuts.{IsSlotBelow}
use Rattle.aplc_core.proofs.Comes.{ComesTo, Comes, ComesKept, Does, kept_comes, does_come, comes_into, two_kept}

-- ---- What follows a value that is ready

-- what was assigned is the name's value when the node has it
still_written : (x : Scope) (n i k : ℕ) (v : Array) (w : World) → old_value x n (noted i v (worked k (with_value x n v w))) ≡ Some v
still_written scope.Local n i k v w = ap (λ b. if b then Some v else w.locals n) (same_number n)
still_written scope.Global n i k v w = ap (λ b. if b then Some v else w.globals n) (same_number n)
still_written (scope.Label z) n i k v w = ap (λ b. if b then Some v else w.globals n) (same_number n)
still_written (scope.Function j) n i k v w = ap (λ b. if b then Some v else w.globals n) (same_number n)

after_ready : {B : Type 0} (c : Context) (i : ℕ) (u : Use) (m : ℕ) (v : Array) (s : State) (f g : Array → State → Outcome B) → ((t : State) → t.world ≡ noted i v (worked (1 + rank v + m) s.world) → f v t ≡ g v t) → and_then (ready c i u m v s) f ≡ and_then (ready c i u m v s) g
after_ready c i u m v s f g h = h _ refl

-- an assignment's own number reads what the assignment wrote
read_back : {B : Type 0} (c : Context) (i n : ℕ) (u : Use) (m : ℕ) (b : Bool) → b ≡ true → (v : Array) (s : State) (next : Array → State → Outcome B) → and_then (ready c i u m v (assigned (c.scope n) n v s)) (λ w t. and_then (read_name c i u b n t) next) ≡ and_then (ready c i u m v (assigned (c.scope n) n v s)) next
read_back c i n u m b e v s next =
    after_ready c i u m v (assigned (c.scope n) n v s) (λ w t. and_then (read_name c i u b n t) next) next (λ t q. (
    ap (λ d. and_then (read_name c i u d n t) next) e
    ∙ ap (λ o. and_then (read_again o t) next) (ap (old_value (c.scope n) n) q ∙ still_written (c.scope n) n i (1 + rank v + m) v s.world)))

-- an indexed assignment gives the value that is assigned
after_change : {B : Type 0} (c : Context) (i : ℕ) (u : Use) (n : ℕ) (js : List (Option Array)) (v : Array) (o : Option Array) (s : State) (f g : Array → State → Outcome B) → ((t : State) → f v t ≡ g v t) → and_then (change_there c i u n js v o s) f ≡ and_then (change_there c i u n js v o s) g
after_change c i u n js v None s f g h = refl
after_change c i u n js v (Some old) s f g h = by_result (changed c.origin old js v)
  where
    by_result : (r : Result Array FaultKind) → and_then (change c i u n js v old r s) f ≡ and_then (change c i u n js v old r s) g
    by_result (Err k) = refl
    by_result (Ok new) = h _

-- ---- Arguments of calls

-- what the slot of an argument has
abbrev pub given_for : Argument → Option Array → Option Giving
given_for absent v = None
given_for (given x) None = None
given_for (given x) (Some v) = Some (giving (t.id_of x) v)

abbrev pub Suits : Argument → Option Array → Type 0
Suits absent None = Unit {0}
Suits absent (Some v) = ⊥
Suits (given x) None = ⊥
Suits (given x) (Some v) = Unit {0}

held_same : (m : Marking) (a : Argument) (v : Option Array) → Suits a v → held_for_kept m (given_for a v) ≡ held_for_argument m a v
held_same m absent None h = refl
held_same m absent (Some v) h = absurd h
held_same m (given x) None h = absurd h
held_same m (given x) (Some v) h = refl

values_same : (a : Argument) (v : Option Array) → Suits a v → option_map value_of (given_for a v) ≡ v
values_same absent None h = refl
values_same absent (Some v) h = absurd h
values_same (given x) None h = absurd h
values_same (given x) (Some v) h = refl

argument_same : {B : Type 0} (c : Context) (a : Argument) (s : State) (f g : Option Array → State → Outcome B) → ((v : Option Array) (u : State) → Suits a v → f v u ≡ g v u) → and_then (argument c a s) f ≡ and_then (argument c a s) g
argument_same c absent s f g h = h None s tt
argument_same c (given x) s f g h =
    then_then (value c x passed s) _ f ∙ then_same (value c x passed s) _ _ (λ v u. h (Some v) u tt) ∙ sym (then_then (value c x passed s) _ g)

call_same : (c : Context) (n : ℕ) (a b : Argument) (x y : Option Array) (s : State) → Suits a x → Suits b y → called_with c n (given_for a x) (given_for b y) s ≡ called c n a b x y s
call_same c n a b x y s p q =
    let j : ℕ = function_of (c.scope n) in
    let m : Marking = c.marking in
    let k : ℕ = held_for_kept m (given_for b y) in
    let t1 : State = on_account (released (held_for_kept m (given_for a x) + k)) s in
    ap (λ z. c.call j z (option_map value_of (given_for b y)) t1) (values_same a x p)
    ∙ ap (λ z. c.call j x z t1) (values_same b y q)
    ∙ ap (λ h. c.call j x y (on_account (released (h + k)) s)) (held_same m a x p)
    ∙ ap (λ h. c.call j x y (on_account (released (held_for_argument m a x + h)) s)) (held_same m b y q)

-- the arguments from right to left, and the call
abbrev pub called_eagerly : Context → ℕ → Argument → Argument → State → Outcome (Option Array)
called_eagerly c n a b s = and_then (argument c b s) (λ y u. and_then (argument c a u) (λ x w. called c n a b x y w))

same_kept : (n : ℕ) (k : Option ℕ) (a b : Slots) → IsSlotBelow n k → AgreeBelow n a b → kept_in a k ≡ kept_in b k
same_kept n None a b h e = refl
same_kept n (Some k) a b h e = e k h

given_value : {B : Type 0} (x : Tree) (o : Outcome Array) (f : Option Giving → State → Outcome B) → and_then (and_then (and_then o (λ v u. Gives (Some v) u)) (λ v u. Gives (given_for (given x) v) u)) f ≡ and_then o (λ v u. f (Some (giving (t.id_of x) v)) u)
given_value x o f = then_then (and_then o _) _ f ∙ then_then o _ _

module _ (c : Context) (l : Told) where
  -- the slot of an argument, if it has one, has its value
  abbrev pub ArgumentComes : ℕ → CutArgument → Argument → Type 0
  ArgumentComes k x a = ComesTo c l k x.steps (λ b u. Gives (kept_in b x.slot) u) (λ s. and_then (argument c a s) (λ v u. Gives (given_for a v) u))

  pub argument_comes : (k : ℕ) (z : Kept) (x : Tree) → z.node ≡ t.id_of x → ComesKept c l k z.steps z.node z.slot (λ s. value c x passed s) → ArgumentComes k (argument_kept z) (given x)
  argument_comes k z x e h next reads slots s =
      h next reads slots s ∙ then_same (value c x passed s) _ _ (λ v u. ap (λ i. next slots (Some (giving i v)) u) e) ∙ sym (given_value x (value c x passed s) (next slots))

  -- the call, with both arguments in their slots
  pub call_comes : (k n : ℕ) (y x : CutArgument) (a b : Argument) → k ≤ y.next → IsSlotBelow y.next y.slot → ArgumentComes k y b → ArgumentComes y.next x a → ComesTo c l k (y.steps ++ x.steps) (λ d u. called_with c n (kept_in d x.slot) (kept_in d y.slot) u) (λ s. called_eagerly c n a b s)
  call_comes k n y x a b le below h g =
      comes_into c l k (y.steps ++ x.steps) (λ d u. called_with c n (kept_in d x.slot) (kept_in d y.slot) u) _ (λ s. called_eagerly c n a b s)
      (λ s. (
      then_then (argument c b s) _ _
      ∙ argument_same c b s _ _ (λ v u p. (
      then_then (argument c a u) _ _ ∙ argument_same c a u _ _ (λ w z q. call_same c n a b w v z q p)))))
      (two_kept c l k y.next y.steps x.steps (λ d. kept_in d y.slot) (λ d u. Gives (kept_in d x.slot) u) (λ s. and_then (argument c b s) (λ v u. Gives (given_for b v) u)) (λ s. and_then (argument c a s) (λ v u. Gives (given_for a v) u)) (λ v w u. called_with c n w v u) le (λ d e q. same_kept y.next y.slot d e below q) h g)

  -- ---- The step of each effect

  pub store_comes : (k i n : ℕ) (xs : List Effect) (x : Term) (r : State → Outcome Array) → is_among i l.assigned ≡ true → Does c l k xs x r → Comes c l k (xs ++ Store i n x ∷ []) (Read i n) (λ s. and_then (r s) (λ v u. ready c i (use_in l i) (product v.shape) v (assigned (c.scope n) n v u)))
  store_comes k i n xs x r e h next reads slots s =
      carried_more c l xs (Store i n x ∷ []) slots s _
      ∙ carried_same c l xs slots s _ _ (λ a u. (
      then_then (term_value c l a x u) _ _ ∙ then_same (term_value c l a x u) _ _ (λ v w. read_back c i n (use_in l i) (product v.shape) (is_among i l.assigned) e v w (next a))))
      ∙ does_come c l k xs x r h (λ a v u. and_then (ready c i (use_in l i) (product v.shape) v (assigned (c.scope n) n v u)) (next a)) (λ a b q v u. then_same (ready c i (use_in l i) (product v.shape) v (assigned (c.scope n) n v u)) _ _ (λ w z. reads a b q w z)) slots s
      ∙ sym (then_then (r s) _ (next slots))

  pub show_kept : (k i j m : ℕ) (xs : List Effect) (r : State → Outcome Array) → k ≤ m → ComesKept c l k xs j m r → ComesKept c l k (xs ++ Show (Some i) (Slot j m) ∷ []) i m (λ s. and_then (r s) (λ v u. ready c i (use_in l i) 0 v (put v u)))
  show_kept k i j m xs r le h next reads slots s =
      carried_more c l xs (Show (Some i) (Slot j m) ∷ []) slots s _
      ∙ carried_same c l xs slots s _ _ (λ a u. (
      let v : Array = value_kept j (a m) in
      after_ready c i (use_in l i) 0 v (put v u) (λ w z. next (set_slot m i v a) (set_slot m i v a m) z) (λ w z. next a (Some (giving i w)) z) (λ z q. next_set k m i next reads le v a z)))
      ∙ kept_comes c l k xs j m r h (λ a v u. and_then (ready c i (use_in l i) 0 v (put v u)) (λ w z. next a (Some (giving i w)) z)) (λ a b q v u. then_same (ready c i (use_in l i) 0 v (put v u)) _ _ (λ w z. reads a b q (Some (giving i w)) z)) slots s
      ∙ sym (then_then (r s) _ (λ v u. next slots (Some (giving i v)) u))

  pub store_at_kept : (k i n j m : ℕ) (xs : List Effect) (ts : Terms) (r : State → Outcome Array) → k ≤ m → ComesTo c l k xs (λ a u. and_then (term_values c l a ts u) (λ js w. change_there c i (use_in l i) n js (value_kept j (a m)) (value_of_name (c.scope n) n w.world) w)) r → ComesKept c l k (xs ++ StoreAt i n ts (Slot j m) ∷ []) i m r
  store_at_kept k i n j m xs ts r le h next reads slots s =
      carried_more c l xs (StoreAt i n ts (Slot j m) ∷ []) slots s _
      ∙ carried_same c l xs slots s _ _ (λ a u. (
      let v : Array = value_kept j (a m) in
      then_then (term_values c l a ts u) _ _
      ∙ then_same (term_values c l a ts u) _ _ (λ js w. (
      then_then (change_there c i (use_in l i) n js v (value_of_name (c.scope n) n w.world) w) _ _
      ∙ after_change c i (use_in l i) n js v (value_of_name (c.scope n) n w.world) w _ (λ d z. next a (Some (giving i d)) z) (λ z. next_set k m i next reads le v a z)))
      ∙ sym (then_then (term_values c l a ts u) _ _)))
      ∙ h (λ a v u. next a (Some (giving i v)) u) (λ a b q v u. reads a b q (Some (giving i v)) u) slots s

  pub call_kept : (k i n m : ℕ) (xs : List Effect) (x y : Option ℕ) (r : State → Outcome (Option Array)) → k ≤ m → ComesTo c l k xs (λ a u. called_with c n (kept_in a x) (kept_in a y) u) r → ComesKept c l k (xs ++ Call i n x y (Some m) ∷ []) i m (λ s. and_then (r s) (λ v u. there c i (use_in l i) v u))
  call_kept k i n m xs x y r le h next reads slots s =
      carried_more c l xs (Call i n x y (Some m) ∷ []) slots s _
      ∙ carried_same c l xs slots s _ _ (λ a u. (
      then_then (called_with c n (kept_in a x) (kept_in a y) u) _ _
      ∙ then_same (called_with c n (kept_in a x) (kept_in a y) u) _ _ (λ v w. next_into k m i next reads le (there c i (use_in l i) v w) a)))
      ∙ h (λ a v u. and_then (there c i (use_in l i) v u) (λ w z. next a (Some (giving i w)) z)) (λ a b q v u. then_same (there c i (use_in l i) v u) _ _ (λ w z. reads a b q (Some (giving i w)) z)) slots s
      ∙ sym (then_then (r s) _ (λ v u. next slots (Some (giving i v)) u))

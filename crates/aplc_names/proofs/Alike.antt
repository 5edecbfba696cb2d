-- Two evaluations of one program that differ in the marking, or in how many more lines may start.
use Rattle.std.proofs.Common.{◌≡◌, ℕ, zero, suc, ◌+◌, List, ◌∷◌, ◌++◌, Option, Some, None, refl, sym, ap, ◌∙◌, subst, arith, Bool, true, false}
use Rattle.std.specs.Prelude.{ℤ, Result, Ok, Err, slice_get, nat_lt}
use Rattle.aplc_scalar.specs.declared.kind.FaultKind.{FaultKind}
use Rattle.aplc_scalar.specs.declared.kind.Kind.{Kind}
use Rattle.aplc_scalar.specs.declared.kind.Kind.TheVariants.{Num, Char}
use Rattle.aplc_scalar.specs.Input.{InputLine, Line, Unread, input_line, number_line}
use Rattle.aplc_arr.specs.Arrays.{Array, product}
use Rattle.aplc_arr.specs.Delayed.{Delayed, Prepared, cells_of, computed}
use Rattle.aplc_arr.specs.Indexing.{indexed, changed}
use Rattle.aplc_syntax.specs.declared.tree.Primitive.{Primitive}
use Rattle.aplc_syntax.specs.PlainTrees.{Tree, Numbers, Text, Name, TextInput, NumsInput, Mono, Dyad, Index, Assign, AssignAt, Show, Call, Trees, no_more, left_out, and_tree, Argument, absent, given}
use Rattle.aplc_names.specs.declared.scope.Scope.{Scope}
use Rattle.aplc_names.specs.declared.scope.Scope.TheVariants as scope
use Rattle.aplc_names.specs.PlainPrograms.{Action, nothing, quiet, perform, display, branch, Routine, PlainProgram, main_routine}
use Rattle.aplc_names.specs.Primitives.{mono_of, dyad_of, dyad_applications, places_listed}
use Rattle.aplc_names.specs.States.{depth, World, Account, State, Marking, Outcome, Gives, Faulted, Going, and_then, final, on_world, worked}
use Rattle.aplc_names.specs.Eager.{Caller, Context, Use, passed, stored, displayed, ready, filled, made, none_for, put, scalar, value_of_name, there, read_line, with_value, assigned, change, change_there, function_of, called, value, values, argument, branch_to, branched, statement}
use Rattle.aplc_names.specs.Runs.{Runner, call_routine, caller, line_at, started, from_line, context, run, run_main, run_of, initial, evaluated, eager, work}
use Rattle.aplc_names.specs.RunLaws.{IsFreeOfMarkings, IsGoing, output, marks, IsPrefix, StaysOver, OnlyGrows}
use Rattle.aplc_names.proofs.Carried.{OnEach, ends, Any, Comes, Calls, comes-made, comes-there, comes-dyad, comes-index, comes-assigned, comes-assign-at, comes-change_there, comes-put, comes-call, comes-perform, comes-entry}
use Rattle.aplc_names.proofs.Growing.{Extends, extends-same, same-list, Grows, GrowsCalls, GrowsRuns, grows-then, grows-call, grows-line, grows-run, grows-by, back-extends, AnyValue, extending, done-any, some-any, each-any, literals-any, listed-any, argument-any}

abbrev pub st : World → Account → State
st w a = record { world = w; account = a }

-- a sum that computes by its first number
abbrev pub plus : ℕ → ℕ → ℕ
plus zero d = d
plus (suc k) d = suc (plus k d)

plus-is : (k d : ℕ) → plus k d ≡ k + d
plus-is zero d = omega arith
plus-is (suc k) d = ap suc (plus-is k d) ∙ omega arith

-- the same where d more lines may start
abbrev pub later : ℕ → World → World
later d w = record w { left = plus w.left d }

-- what an evaluation comes to with d more lines, where it goes on without them: with none it goes on just so
abbrev pub GoesOn : {A : Type 0} → ℕ → State → Outcome A → Type 0
GoesOn zero s (Gives v t) = ⊥
GoesOn zero s (Faulted k t) = ⊥
GoesOn zero s (Going t) = t.world ≡ later 0 s.world
GoesOn (suc d) s o = Extends s.world (final o).world

-- the second evaluation comes to what the first one does, but for the account and d more lines
abbrev pub AreAlike : {A : Type 0} → ℕ → Outcome A → Outcome A → Type 0
AreAlike d (Gives v s) (Gives x t) = (x ≡ v) × (t.world ≡ later d s.world)
AreAlike d (Gives v s) (Faulted k t) = ⊥
AreAlike d (Gives v s) (Going t) = ⊥
AreAlike d (Faulted k s) (Gives x t) = ⊥
AreAlike d (Faulted k s) (Faulted j t) = (j ≡ k) × (t.world ≡ later d s.world)
AreAlike d (Faulted k s) (Going t) = ⊥
AreAlike d (Going s) o = GoesOn d s o

going-then : {A B : Type 0} (d : ℕ) (s : State) (o : Outcome A) (next : A → State → Outcome B) → ((v : A) (t : State) → Grows t.world (next v t)) → GoesOn d s o → GoesOn d s (and_then o next)
going-then zero s (Gives v t) next grow h = absurd h
going-then zero s (Faulted k t) next grow h = absurd h
going-then zero s (Going t) next grow h = h
going-then (suc d) s o next grow h = grows-then s.world o next h grow

pub alike-then : {A B : Type 0} (d : ℕ) (o q : Outcome A) (k l : A → State → Outcome B) → AreAlike d o q → ((v : A) (w : World) (a b : Account) → AreAlike d (k v (st w a)) (l v (st (later d w) b))) → ((v : A) (t : State) → Grows t.world (l v t)) → AreAlike d (and_then o k) (and_then q l)
alike-then d (Gives v s) (Gives x t) k l h next grow =
    subst (λ y. AreAlike d (k v s) (l y t)) (sym h.0) (subst (λ z. AreAlike d (k v s) (l v (st z t.account))) (sym h.1) (next v s.world s.account t.account))
alike-then d (Gives v s) (Faulted j t) k l h next grow = absurd h
alike-then d (Gives v s) (Going t) k l h next grow = absurd h
alike-then d (Faulted i s) (Gives x t) k l h next grow = absurd h
alike-then d (Faulted i s) (Faulted j t) k l h next grow = h
alike-then d (Faulted i s) (Going t) k l h next grow = absurd h
alike-then d (Going s) q k l h next grow = going-then d s q l grow h

-- calls are alike
abbrev pub AreCallsAlike : ℕ → Caller → Caller → Type 0
AreCallsAlike d g h = (j : ℕ) (x y : Option Array) (w : World) (a b : Account) → AreAlike d (g j x y (st w a)) (h j x y (st (later d w) b))

abbrev pub ctx : ℤ → (ℕ → Scope) → Marking → Caller → Context
ctx o sc m g = record { origin = o; scope = sc; marking = m; call = g }

module _ (d : ℕ) (o : ℤ) (sc : ℕ → Scope) (m n : Marking) (g h : Caller) (same : AreCallsAlike d g h) (grow : GrowsCalls h) where
  abbrev c : Context
  c = ctx o sc m g

  abbrev e : Context
  e = ctx o sc n h

  alike-filled : (i k : ℕ) (x : Delayed) (r : Result (List ℤ) FaultKind) (w : World) (a b : Account) → AreAlike d (filled c i k x r (st w a)) (filled e i k x r (st (later d w) b))
  alike-filled i k x (Ok zs) w a b = (refl, refl)
  alike-filled i k x (Err f) w a b = (refl, refl)

  alike-made : (i : ℕ) (u : Use) (f l : List ℕ → ℕ) (r : Prepared) (w : World) (a b : Account) → AreAlike d (made c i u f l r (st w a)) (made e i u f l r (st (later d w) b))
  alike-made i u f l (Ok x) w a b = alike-filled i _ x (cells_of x) w _ _
  alike-made i u f l (Err k) w a b = (refl, refl)

  alike-there : (i : ℕ) (u : Use) (v : Option Array) (w : World) (a b : Account) → AreAlike d (there c i u v (st w a)) (there e i u v (st (later d w) b))
  alike-there i u None w a b = (refl, refl)
  alike-there i u (Some v) w a b = (refl, refl)

  alike-read : (i : ℕ) (u : Use) (k : Kind) (x : InputLine) (w : World) (a b : Account) → AreAlike d (read_line c i u k x (st w a)) (read_line e i u k x (st (later d w) b))
  alike-read i u k (Unread f) w a b = (refl, refl)
  alike-read i u k (Line zs rest) w a b = (refl, refl)

  alike-named : (x : Scope) (y : ℕ) (i : ℕ) (u : Use) (w : World) (a b : Account) → AreAlike d (there c i u (value_of_name x y w) (st w a)) (there e i u (value_of_name x y (later d w)) (st (later d w) b))
  alike-named (scope.Function j) y i u w a b = (refl, refl)
  alike-named (scope.Label z) y i u w a b = (refl, refl)
  alike-named scope.Local y i u w a b = alike-there i u (w.locals y) w a b
  alike-named scope.Global y i u w a b = alike-there i u (w.globals y) w a b

  alike-assigned : (i : ℕ) (u : Use) (k : ℕ) (x : Scope) (y : ℕ) (v : Array) (w : World) (a b : Account) → AreAlike d (ready c i u k v (assigned x y v (st w a))) (ready e i u k v (assigned x y v (st (later d w) b)))
  alike-assigned i u k (scope.Function j) y v w a b = (refl, refl)
  alike-assigned i u k (scope.Label j) y v w a b = (refl, refl)
  alike-assigned i u k scope.Local y v w a b = (refl, refl)
  alike-assigned i u k scope.Global y v w a b = (refl, refl)

  alike-valued : (i : ℕ) (u : Use) (k : ℕ) (x : Scope) (y : ℕ) (v z : Array) (w : World) (a b : Account) → AreAlike d (ready c i u k z (on_world (with_value x y v) (st w a))) (ready e i u k z (on_world (with_value x y v) (st (later d w) b)))
  alike-valued i u k (scope.Function j) y v z w a b = (refl, refl)
  alike-valued i u k (scope.Label j) y v z w a b = (refl, refl)
  alike-valued i u k scope.Local y v z w a b = (refl, refl)
  alike-valued i u k scope.Global y v z w a b = (refl, refl)

  alike-change : (i : ℕ) (u : Use) (y : ℕ) (js : List (Option Array)) (v old : Array) (r : Result Array FaultKind) (w : World) (a b : Account) → AreAlike d (change c i u y js v old r (st w a)) (change e i u y js v old r (st (later d w) b))
  alike-change i u y js v old (Err k) w a b = (refl, refl)
  alike-change i u y js v old (Ok new) w a b = alike-valued i u _ (sc y) y new v w a b

  alike-change_there : (i : ℕ) (u : Use) (y : ℕ) (js : List (Option Array)) (v : Array) (r : Option Array) (w : World) (a b : Account) → AreAlike d (change_there c i u y js v r (st w a)) (change_there e i u y js v r (st (later d w) b))
  alike-change_there i u y js v None w a b = (refl, refl)
  alike-change_there i u y js v (Some old) w a b = alike-change i u y js v old (changed o old js v) w a b

  alike-changed : (i : ℕ) (u : Use) (x : Scope) (y : ℕ) (js : List (Option Array)) (v : Array) (w : World) (a b : Account) → AreAlike d (change_there c i u y js v (value_of_name x y w) (st w a)) (change_there e i u y js v (value_of_name x y (later d w)) (st (later d w) b))
  alike-changed i u (scope.Function j) y js v w a b = (refl, refl)
  alike-changed i u (scope.Label z) y js v w a b = alike-change_there i u y js v (Some (scalar z)) w a b
  alike-changed i u scope.Local y js v w a b = alike-change_there i u y js v (w.locals y) w a b
  alike-changed i u scope.Global y js v w a b = alike-change_there i u y js v (w.globals y) w a b

  alike-called : (y : ℕ) (k l : Argument) (x z : Option Array) (w : World) (a b : Account) → AreAlike d (called c y k l x z (st w a)) (called e y k l x z (st (later d w) b))
  alike-called y k l x z w a b = same (function_of (sc y)) x z w _ _

  -- ---- What follows the first part of an evaluation grows

  by : {A : Type 0} (Q : A → Type 0) (next : State → Outcome A) (s : State) → ((w : World) → Calls Any (Extends w) (Extends w) AnyValue (extending w) e → Extends w s.world → Comes Any (Extends w) (Extends w) AnyValue (extending w) Q (next s)) → Grows s.world (next s)
  by Q next s comes = grows-by e grow Q next s comes

  grows-made : (i : ℕ) (u : Use) (f l : List ℕ → ℕ) (r : Prepared) (s : State) → Grows s.world (made e i u f l r s)
  grows-made i u f l r s = by AnyValue (made e i u f l r) s (λ w q h. comes-made Any (Extends w) (Extends w) AnyValue (extending w) e i u f l r s (done-any (computed r)) h)

  grows-there : (i : ℕ) (u : Use) (v : Option Array) (s : State) → Grows s.world (there e i u v s)
  grows-there i u v s = by AnyValue (there e i u v) s (λ w q h. comes-there Any (Extends w) (Extends w) AnyValue (extending w) e i u v s (some-any v) h)

  grows-dyad : (i : ℕ) (u : Use) (f : Primitive) (x : Tree) (y : Array) (s : State) → Grows s.world (and_then (value e x passed s) (λ v t. made e i u (places_listed o f v.shape) (dyad_applications o f v.shape y.shape) (dyad_of o f v y) t))
  grows-dyad i u f x y s = by AnyValue (λ z. and_then (value e x passed z) (λ v t. made e i u (places_listed o f v.shape) (dyad_applications o f v.shape y.shape) (dyad_of o f v y) t)) s (λ w q h. comes-dyad Any (Extends w) (Extends w) AnyValue (extending w) e q i u f x (literals-any x) y s tt h)

  grows-index : (i : ℕ) (u : Use) (x : Tree) (js : List (Option Array)) (s : State) → Grows s.world (and_then (value e x passed s) (λ v t. made e i u none_for none_for (indexed o v js) t))
  grows-index i u x js s = by AnyValue (λ z. and_then (value e x passed z) (λ v t. made e i u none_for none_for (indexed o v js) t)) s (λ w q h. comes-index Any (Extends w) (Extends w) AnyValue (extending w) e q i u x (literals-any x) js s (each-any js) h)

  grows-assigned : (i : ℕ) (u : Use) (y : ℕ) (v : Array) (s : State) → Grows s.world (ready e i u (product v.shape) v (assigned (sc y) y v s))
  grows-assigned i u y v s = by AnyValue (λ z. ready e i u (product v.shape) v (assigned (sc y) y v z)) s (λ w q h. comes-assigned Any (Extends w) (Extends w) AnyValue (extending w) e i u y v s tt h)

  grows-change : (i : ℕ) (u : Use) (y : ℕ) (js : List (Option Array)) (v : Array) (x : Option Array) (s : State) → Grows s.world (change_there e i u y js v x s)
  grows-change i u y js v x s = by AnyValue (change_there e i u y js v x) s (λ w q h. comes-change_there Any (Extends w) (Extends w) AnyValue (extending w) e q i u y js v x s (each-any js) tt (some-any x) h)

  grows-assign-at : (i : ℕ) (u : Use) (y : ℕ) (xs : Trees) (v : Array) (s : State) → Grows s.world (and_then (values e xs s) (λ js t. change_there e i u y js v (value_of_name (sc y) y t.world) t))
  grows-assign-at i u y xs v s = by AnyValue (λ z. and_then (values e xs z) (λ js t. change_there e i u y js v (value_of_name (sc y) y t.world) t)) s (λ w q h. comes-assign-at Any (Extends w) (Extends w) AnyValue (extending w) e q i u y xs (listed-any xs) v s tt h)

  grows-put : (i : ℕ) (u : Use) (v : Array) (s : State) → Grows s.world (ready e i u 0 v (put v s))
  grows-put i u v s = by AnyValue (λ z. ready e i u 0 v (put v z)) s (λ w q h. comes-put Any (Extends w) (Extends w) AnyValue (extending w) e i u v s tt h)

  grows-called : (y : ℕ) (k l : Argument) (x z : Option Array) (s : State) → Grows s.world (called e y k l x z s)
  grows-called y k l x z s = grow (function_of (sc y)) x z _

  grows-answer : (i : ℕ) (u : Use) (y : ℕ) (k l : Argument) (x z : Option Array) (s : State) → Grows s.world (and_then (called e y k l x z s) (λ r t. there e i u r t))
  grows-answer i u y k l x z s = grows-then s.world (called e y k l x z s) _ (grows-called y k l x z s) (λ r t. grows-there i u r t)

  grows-call-rest : (i : ℕ) (u : Use) (y : ℕ) (k l : Argument) (z : Option Array) (s : State) → Grows s.world (and_then (argument e k s) (λ x t. and_then (called e y k l x z t) (λ r v. there e i u r v)))
  grows-call-rest i u y k l z s = by AnyValue (λ t. and_then (argument e k t) (λ x t. and_then (called e y k l x z t) (λ r v. there e i u r v))) s (λ w q h. comes-call Any (Extends w) (Extends w) AnyValue (extending w) e q i u y k l (argument-any k) z s (some-any z) h)

  grows-entry : (x : Tree) (vs : List (Option Array)) (s : State) → Grows s.world (and_then (value e x passed s) (λ v t. Gives (Some v ∷ vs) t))
  grows-entry x vs s = by (OnEach AnyValue) (λ z. and_then (value e x passed z) (λ v t. Gives (Some v ∷ vs) t)) s (λ w q h. comes-entry Any (Extends w) (Extends w) AnyValue (extending w) e q x (literals-any x) vs s (each-any vs) h)

  grows-end : (s : State) → Grows s.world (ends s)
  grows-end s = extends-same s.world

  grows-shown : (v : Array) (s : State) → Grows s.world (ends (put v s))
  grows-shown v s = record { output = (_, refl); marks = same-list s.world.marks; given = same-list s.world.given }

  grows-branched : (r : Result (Option ℕ) FaultKind) (s : State) → Grows s.world (branched r s)
  grows-branched (Ok to) s = extends-same s.world
  grows-branched (Err k) s = extends-same s.world

  grows-worked : (s : State) → Grows s.world (ends (on_world (worked 1) s))
  grows-worked s = record { output = same-list s.world.output; marks = same-list s.world.marks; given = same-list s.world.given }

  grows-answerless : (y : ℕ) (k l : Argument) (x z : Option Array) (s : State) → Grows s.world (and_then (called e y k l x z s) (λ r t. ends (on_world (worked 1) t)))
  grows-answerless y k l x z s = grows-then s.world (called e y k l x z s) _ (grows-called y k l x z s) (λ r t. grows-worked t)

  grows-perform-rest : (y : ℕ) (k l : Argument) (z : Option Array) (s : State) → Grows s.world (and_then (argument e k s) (λ x t. and_then (called e y k l x z t) (λ r v. ends (on_world (worked 1) v))))
  grows-perform-rest y k l z s = by Any (λ t. and_then (argument e k t) (λ x t. and_then (called e y k l x z t) (λ r v. ends (on_world (worked 1) v)))) s (λ w q h. comes-perform Any (Extends w) (Extends w) AnyValue (extending w) e q y k l (argument-any k) z s (some-any z) h)

  -- ---- Trees

  mutual
    pub alike-value : (t : Tree) (u : Use) (w : World) (a b : Account) → AreAlike d (value c t u (st w a)) (value e t u (st (later d w) b))
    alike-value (Numbers i p xs) u w a b = (refl, refl)
    alike-value (Text i p cs) u w a b = (refl, refl)
    alike-value (Name i p x) u w a b = alike-named (sc x) x i u w a b
    alike-value (TextInput i p) u w a b = alike-read i u Char (input_line w.input) w a b
    alike-value (NumsInput i p) u w a b = alike-read i u Num (number_line w.input) w a b
    alike-value (Mono i p f x) u w a b =
        alike-then d _ _ _ _ (alike-value x passed w a b) (λ y w1 a1 b1. alike-made i u _ _ (mono_of o f y) w1 a1 b1) (λ y t. grows-made i u _ _ (mono_of o f y) t)
    alike-value (Dyad i p f x y) u w a b =
        alike-then d _ _ _ _ (alike-value y passed w a b) (λ v w1 a1 b1.
        alike-then d _ _ _ _ (alike-value x passed w1 a1 b1) (λ z w2 a2 b2. alike-made i u _ _ (dyad_of o f z v) w2 a2 b2) (λ z t. grows-made i u _ _ (dyad_of o f z v) t))
        (λ v t. grows-dyad i u f x v t)
    alike-value (Index i p x xs) u w a b =
        alike-then d _ _ _ _ (alike-values xs w a b) (λ js w1 a1 b1.
        alike-then d _ _ _ _ (alike-value x passed w1 a1 b1) (λ z w2 a2 b2. alike-made i u _ _ (indexed o z js) w2 a2 b2) (λ z t. grows-made i u _ _ (indexed o z js) t))
        (λ js t. grows-index i u x js t)
    alike-value (Assign i p y x) u w a b =
        alike-then d _ _ _ _ (alike-value x stored w a b) (λ v w1 a1 b1. alike-assigned i u _ (sc y) y v w1 a1 b1) (λ v t. grows-assigned i u y v t)
    alike-value (AssignAt i p y xs x) u w a b =
        alike-then d _ _ _ _ (alike-value x passed w a b) (λ v w1 a1 b1.
        alike-then d _ _ _ _ (alike-values xs w1 a1 b1) (λ js w2 a2 b2. alike-changed i u (sc y) y js v w2 a2 b2) (λ js t. grows-change i u y js v (value_of_name (sc y) y t.world) t))
        (λ v t. grows-assign-at i u y xs v t)
    alike-value (Show i p x) u w a b =
        alike-then d _ _ _ _ (alike-value x displayed w a b) (λ v w1 a1 b1. (refl, refl)) (λ v t. grows-put i u v t)
    alike-value (Call i p y k l) u w a b =
        alike-then d _ _ _ _ (alike-argument l w a b) (λ z w1 a1 b1.
        alike-then d _ _ _ _ (alike-argument k w1 a1 b1) (λ x w2 a2 b2.
        alike-then d _ _ _ _ (alike-called y k l x z w2 a2 b2) (λ r w3 a3 b3. alike-there i u r w3 a3 b3) (λ r t. grows-there i u r t))
        (λ x t. grows-answer i u y k l x z t))
        (λ z t. grows-call-rest i u y k l z t)

    pub alike-values : (xs : Trees) (w : World) (a b : Account) → AreAlike d (values c xs (st w a)) (values e xs (st (later d w) b))
    alike-values no_more w a b = (refl, refl)
    alike-values (left_out xs) w a b = alike-then d _ _ _ _ (alike-values xs w a b) (λ vs w1 a1 b1. (refl, refl)) (λ vs t. extends-same t.world)
    alike-values (and_tree x xs) w a b =
        alike-then d _ _ _ _ (alike-values xs w a b) (λ vs w1 a1 b1.
        alike-then d _ _ _ _ (alike-value x passed w1 a1 b1) (λ v w2 a2 b2. (refl, refl)) (λ v t. extends-same t.world))
        (λ vs t. grows-entry x vs t)

    pub alike-argument : (k : Argument) (w : World) (a b : Account) → AreAlike d (argument c k (st w a)) (argument e k (st (later d w) b))
    alike-argument absent w a b = (refl, refl)
    alike-argument (given x) w a b = alike-then d _ _ _ _ (alike-value x passed w a b) (λ v w1 a1 b1. (refl, refl)) (λ v t. extends-same t.world)

  -- ---- Statements

  alike-branched : (r : Result (Option ℕ) FaultKind) (w : World) (a b : Account) → AreAlike d (branched r (st w a)) (branched r (st (later d w) b))
  alike-branched (Ok to) w a b = (refl, refl)
  alike-branched (Err k) w a b = (refl, refl)

  pub alike-statement : (x : Action) (w : World) (a b : Account) → AreAlike d (statement c x (st w a)) (statement e x (st (later d w) b))
  alike-statement nothing w a b = (refl, refl)
  alike-statement (quiet t) w a b = alike-then d _ _ _ _ (alike-value t passed w a b) (λ v w1 a1 b1. (refl, refl)) (λ v z. grows-end z)
  alike-statement (perform i p y k l) w a b =
      alike-then d _ _ _ _ (alike-argument l w a b) (λ z w1 a1 b1.
      alike-then d _ _ _ _ (alike-argument k w1 a1 b1) (λ x w2 a2 b2.
      alike-then d _ _ _ _ (alike-called y k l x z w2 a2 b2) (λ r w3 a3 b3. (refl, refl)) (λ r t. grows-worked t))
      (λ x t. grows-answerless y k l x z t))
      (λ z t. grows-perform-rest y k l z t)
  alike-statement (display t) w a b = alike-then d _ _ _ _ (alike-value t displayed w a b) (λ v w1 a1 b1. (refl, refl)) (λ v z. grows-shown v z)
  alike-statement (branch pl t) w a b = alike-then d _ _ _ _ (alike-value t passed w a b) (λ v w1 a1 b1. alike-branched (branch_to v) w1 a1 b1) (λ v z. grows-branched (branch_to v) z)

-- ---- Runs

abbrev pub AreRunsAlike : ℕ → Runner → Runner → Type 0
AreRunsAlike d r q = (f : Routine) (l : ℕ) (w : World) (a b : Account) → AreAlike d (r f l (st w a)) (q f l (st (later d w) b))

alike-call : (d : ℕ) (r q : Runner) → AreRunsAlike d r q → (f : Option Routine) (x y : Option Array) (w : World) (a b : Account) → AreAlike d (call_routine r f x y (st w a)) (call_routine q f x y (st (later d w) b))
alike-call d r q same None x y w a b = (refl, refl)
alike-call d r q same (Some f) x y w a b = by_depth (nat_lt (depth w.places) 4096) refl
  where
    by_depth : (t : Bool) → nat_lt (depth w.places) 4096 ≡ t → AreAlike d (call_routine r (Some f) x y (st w a)) (call_routine q (Some f) x y (st (later d w) b))
    by_depth true is = rw is (alike-then d _ _ _ _ (same f 1 _ _ _) (λ v w1 a1 b1. (refl, refl)) (λ v t. back-extends f (st (later d w) b) t))
    by_depth false is = rw is (refl, refl)

as-before : (d : ℕ) (v w : World) → Extends (later d v) w → Extends v w
as-before d v w h = record { output = h.output; marks = h.marks; given = h.given }

alike-line : (d : ℕ) (p : PlainProgram) (m n : Marking) (r q : Runner) → AreRunsAlike d r q → GrowsRuns q → (f : Routine) (l : ℕ) (x : Option Action) (k : ℕ) (w : World) (a b : Account) → AreAlike d (from_line (context p m r f) f (r f) l x k (st w a)) (from_line (context p n q f) f (q f) l x (plus k d) (st (later d w) b))
alike-line d p m n r q same grow f l None k w a b = (refl, refl)
alike-line zero p m n r q same grow f l (Some x) zero w a b = refl
alike-line (suc d) p m n r q same grow f l (Some x) zero w a b = as-before (suc d) w _ (grows-line p n q grow f l (Some x) (suc d) (st (later (suc d) w) b))
alike-line d p m n r q same grow f l (Some x) (suc k) w a b =
    let calls : AreCallsAlike d (caller p r) (caller p q) = λ j y z v i t. alike-call d r q same (slice_get p.routines j) y z v i t in
    let grows : GrowsCalls (caller p q) = λ j y z s. grows-call q grow (slice_get p.routines j) y z s in
    alike-then d _ _ _ _ (alike-statement d p.origin f.scope m n (caller p r) (caller p q) calls grows x (started l x k w) a b) (λ to v i t. same f _ v i t) (λ to t. grow f _ t)

alike-run : (d : ℕ) (p : PlainProgram) (m n : Marking) (k : ℕ) → AreRunsAlike d (run p m k) (run p n (plus k d))
alike-run zero p m n zero f l w a b = refl
alike-run (suc d) p m n zero f l w a b =
    as-before (suc d) w _ (grows-run p n (suc d) f l (st (later (suc d) w) b))
alike-run d p m n (suc k) f l w a b = alike-line d p m n (run p m k) (run p n (plus k d)) (alike-run d p m n k) (grows-run p n (plus k d)) f l (line_at f.lines l) w.left w a b

-- ---- Whole runs

-- with more lines and another marking
alike-main : (d : ℕ) (p : PlainProgram) (m n : Marking) (input : List ℕ) (k : ℕ) (f : Routine) → AreAlike d (run_main p m input k f) (run_main p n input (k + d) f)
alike-main d p m n input k f = subst (λ j. AreAlike d (run_main p m input k f) (run_main p n input j f)) (plus-is k d) with-more
  where
    with-more : AreAlike d (run_main p m input k f) (run_main p n input (plus k d) f)
    with-more =
        subst (λ (j : ℕ). AreAlike d (run p m (k + 1) f 1 (initial f input k)) (run p n j f 1 (initial f input (plus k d)))) (omega (arith, plus-is (k + 1) d, plus-is k d))
        (alike-run d p m n (k + 1) f 1 _ _ _)

no-more : (w : World) → later 0 w ≡ w
no-more w = ap (λ n. record w { left = n }) (omega (arith, plus-is w.left 0))

-- without more lines, but for the account all is the same
same-run : (o q : Outcome (Option Array)) → AreAlike 0 o q → (run_of q ≡ run_of o) × ((final q).world ≡ (final o).world)
same-run (Gives v s) (Gives x t) h = let e = h.1 ∙ no-more s.world in (ap (λ w. run_of (Gives v (st w t.account))) e, e)
same-run (Gives v s) (Faulted k t) h = absurd h
same-run (Gives v s) (Going t) h = absurd h
same-run (Faulted k s) (Gives x t) h = absurd h
same-run (Faulted k s) (Faulted j t) h =
    let e = h.1 ∙ no-more s.world in
    (ap (λ w. run_of {A = Option Array} (Faulted j (st w t.account))) e ∙ ap (λ i. run_of {A = Option Array} (Faulted i s)) h.0, e)
same-run (Faulted k s) (Going t) h = absurd h
same-run (Going s) (Gives x t) h = absurd h
same-run (Going s) (Faulted j t) h = absurd h
same-run (Going s) (Going t) h = let e = h ∙ no-more s.world in (ap (λ w. run_of {A = Option Array} (Going (st w t.account))) e, e)

pub free_of_markings : (p : PlainProgram) → IsFreeOfMarkings p
unfolding eager work
free_of_markings p m l input n =
    let f = main_routine p in
    let alike : AreAlike 0 (run_main p m input n f) (run_main p l input n f) = subst (λ k. AreAlike 0 (run_main p m input n f) (run_main p l input k f)) (omega arith) (alike-main 0 p m l input n f) in
    let same = same-run _ _ alike in
    (sym same.0, ap (λ (w : World). w.work) (sym same.1), ap (λ (w : World). w.given) (sym same.1))

-- a run that is over
over-run : (d : ℕ) (o q : Outcome (Option Array)) → AreAlike d o q → (IsGoing (run_of o) → ⊥) → (run_of q ≡ run_of o) × ((final q).world.work ≡ (final o).world.work)
over-run d (Gives v s) (Gives x t) h over = (ap (λ w. run_of (Gives v (st w t.account))) h.1, ap (λ (w : World). w.work) h.1)
over-run d (Gives v s) (Faulted k t) h over = absurd h
over-run d (Gives v s) (Going t) h over = absurd h
over-run d (Faulted k s) (Gives x t) h over = absurd h
over-run d (Faulted k s) (Faulted j t) h over =
    (ap (λ w. run_of {A = Option Array} (Faulted j (st w t.account))) h.1 ∙ ap (λ i. run_of {A = Option Array} (Faulted i s)) h.0, ap (λ (w : World). w.work) h.1)
over-run d (Faulted k s) (Going t) h over = absurd h
over-run d (Going s) q h over = absurd (over tt)

pub stays_over : (p : PlainProgram) → StaysOver p
unfolding eager work
stays_over p m input n more over = over-run more _ _ (alike-main more p m m input n (main_routine p)) over

output-of : (o : Outcome (Option Array)) → output (run_of o) ≡ (final o).world.output
output-of (Gives v s) = refl
output-of (Faulted k s) = refl
output-of (Going s) = refl

marks-of : (o : Outcome (Option Array)) → marks (run_of o) ≡ (final o).world.marks
marks-of (Gives v s) = refl
marks-of (Faulted k s) = refl
marks-of (Going s) = refl

later-extends : (d : ℕ) (v w : World) → w ≡ later d v → Extends v w
later-extends d v w e = subst (Extends v) (sym e) record { output = same-list v.output; marks = same-list v.marks; given = same-list v.given }

-- what it comes to with more lines extends it
alike-extends : (d : ℕ) (o q : Outcome (Option Array)) → AreAlike d o q → Extends (final o).world (final q).world
alike-extends d (Gives v s) (Gives x t) h = later-extends d s.world t.world h.1
alike-extends d (Gives v s) (Faulted k t) h = absurd h
alike-extends d (Gives v s) (Going t) h = absurd h
alike-extends d (Faulted k s) (Gives x t) h = absurd h
alike-extends d (Faulted k s) (Faulted j t) h = later-extends d s.world t.world h.1
alike-extends d (Faulted k s) (Going t) h = absurd h
alike-extends zero (Going s) (Gives x t) h = absurd h
alike-extends zero (Going s) (Faulted j t) h = absurd h
alike-extends zero (Going s) (Going t) h = later-extends 0 s.world t.world h
alike-extends (suc d) (Going s) q h = h

pub only_grows : (p : PlainProgram) → OnlyGrows p
unfolding eager
only_grows p m input n more =
    let o = evaluated p m input n in
    let q = evaluated p m input (n + more) in
    let h : Extends (final o).world (final q).world = alike-extends more o q (alike-main more p m m input n (main_routine p)) in
    (prefixes (output-of o) (output-of q) h.output, prefixes (marks-of o) (marks-of q) h.marks)
  where
    prefixes : {A : Type 0} {xs ys us vs : List A} → xs ≡ us → ys ≡ vs → IsPrefix us vs → IsPrefix xs ys
    prefixes e f h = (h.0, f ∙ h.1 ∙ ap (λ l. l ++ h.0) (sym e))

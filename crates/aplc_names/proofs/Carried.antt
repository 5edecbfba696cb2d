-- What each step of an evaluation keeps holds after all of it: one induction over trees and statements.
use Rattle.std.proofs.Common.{◌≡◌, ℕ, List, [], ◌∷◌, ◌++◌, Option, Some, None, refl}
use Rattle.std.specs.Prelude.{ℤ, pos, map, Result, Ok, Err, IfOk}
use Rattle.aplc_scalar.specs.declared.kind.FaultKind.{FaultKind}
use Rattle.aplc_scalar.specs.declared.kind.Kind.{Kind}
use Rattle.aplc_scalar.specs.declared.kind.Kind.TheVariants.{Num, Char}
use Rattle.aplc_scalar.specs.Input.{InputLine, Line, Unread, input_line, number_line}
use Rattle.aplc_arr.specs.Arrays.{Array, product}
use Rattle.aplc_arr.specs.Delayed.{Delayed, Prepared, cells_of, with_cells, computed}
use Rattle.aplc_arr.specs.Indexing.{indexed, changed}
use Rattle.aplc_arr.specs.Display.{shown}
use Rattle.aplc_syntax.specs.declared.tree.Primitive.{Primitive}
use Rattle.aplc_syntax.specs.PlainTrees.{Tree, Numbers, Text, Name, TextInput, NumsInput, Mono, Dyad, Index, Assign, AssignAt, Show, Call, Trees, no_more, left_out, and_tree, Argument, absent, given}
use Rattle.aplc_names.specs.declared.scope.Scope.{Scope}
use Rattle.aplc_names.specs.declared.scope.Scope.TheVariants as scope
use Rattle.aplc_names.specs.PlainPrograms.{Action, nothing, quiet, perform, display, branch}
use Rattle.aplc_names.specs.Primitives.{mono_of, dyad_of, dyad_applications, places_listed}
use Rattle.aplc_names.specs.States.{World, State, Outcome, Gives, Faulted, Going, and_then, on_account, on_world, worked, ended}
use Rattle.aplc_names.specs.Eager.{Context, Use, passed, stored, displayed, noted, ready, filled, made, none_for, literal, vector, scalar, value_of_name, there, read_line, with_value, assigned, put, change, change_there, function_of, called, value, values, argument, branch_to, branched, statement}

-- ---- Values that meet V, where they are there

abbrev pub OnSome : (Array → Type 0) → Option Array → Type 0
OnSome V None = Unit {0}
OnSome V (Some v) = V v

abbrev pub OnEach : (Array → Type 0) → List (Option Array) → Type 0
OnEach V [] = Unit {0}
OnEach V (x ∷ xs) = OnSome V x × OnEach V xs

abbrev pub OnDone : (Array → Type 0) → Result Array FaultKind → Type 0
OnDone V r = IfOk r V

-- what the lines of an input give
abbrev pub OnLine : (Array → Type 0) → Kind → InputLine → Type 0
OnLine V k (Unread e) = Unit {0}
OnLine V k (Line zs rest) = V (vector k zs)

-- the literals of a tree
abbrev mutual
  pub OnLiterals : (Array → Type 0) → Tree → Type 0
  OnLiterals V (Numbers i p xs) = V (literal Num xs)
  OnLiterals V (Text i p cs) = V (literal Char (map pos cs))
  OnLiterals V (Name i p n) = Unit {0}
  OnLiterals V (TextInput i p) = Unit {0}
  OnLiterals V (NumsInput i p) = Unit {0}
  OnLiterals V (Mono i p f b) = OnLiterals V b
  OnLiterals V (Dyad i p f a b) = OnLiterals V a × OnLiterals V b
  OnLiterals V (Index i p a xs) = OnLiterals V a × OnListed V xs
  OnLiterals V (Assign i p n a) = OnLiterals V a
  OnLiterals V (AssignAt i p n xs a) = OnListed V xs × OnLiterals V a
  OnLiterals V (Show i p a) = OnLiterals V a
  OnLiterals V (Call i p n a b) = OnArgument V a × OnArgument V b

  pub OnListed : (Array → Type 0) → Trees → Type 0
  OnListed V no_more = Unit {0}
  OnListed V (left_out xs) = OnListed V xs
  OnListed V (and_tree t xs) = OnLiterals V t × OnListed V xs

  pub OnArgument : (Array → Type 0) → Argument → Type 0
  OnArgument V absent = Unit {0}
  OnArgument V (given t) = OnLiterals V t

abbrev pub OnAction : (Array → Type 0) → Action → Type 0
OnAction V nothing = Unit {0}
OnAction V (quiet t) = OnLiterals V t
OnAction V (perform i p n a b) = OnArgument V a × OnArgument V b
OnAction V (display t) = OnLiterals V t
OnAction V (branch p t) = OnLiterals V t

-- ---- Steps

-- P holds of the world after each step if before, and the values that come up meet V, where the index origin meets O
pub record Keeps (O : ℤ → Type 0) (P : World → Type 0) (V : Array → Type 0) : Type 0 where
  pub noting : (i n : ℕ) (v : Array) (w : World) → V v → P w → P (noted i v (worked n w))
  pub working : (n : ℕ) (w : World) → P w → P (worked n w)
  pub reading : (rest : List ℕ) (w : World) → P w → P (record w { input = rest })
  pub putting : (v : Array) (w : World) → V v → P w → P (record w { output = w.output ++ shown v })
  pub naming : (x : Scope) (n : ℕ) (v : Array) (w : World) → V v → P w → P (with_value x n v w)
  pub globals : (n : ℕ) (w : World) → P w → OnSome V (w.globals n)
  pub locals : (n : ℕ) (w : World) → P w → OnSome V (w.locals n)
  pub text_lines : (w : World) → OnLine V Char (input_line w.input)
  pub number_lines : (w : World) → OnLine V Num (number_line w.input)
  pub monos : (o : ℤ) (f : Primitive) (y : Array) → O o → V y → OnDone V (computed (mono_of o f y))
  pub dyads : (o : ℤ) (f : Primitive) (x y : Array) → O o → V x → V y → OnDone V (computed (dyad_of o f x y))
  pub indices : (o : ℤ) (x : Array) (js : List (Option Array)) → O o → V x → OnEach V js → OnDone V (computed (indexed o x js))
  pub changes : (o : ℤ) (x : Array) (js : List (Option Array)) (v : Array) → O o → V x → OnEach V js → V v → OnDone V (changed o x js v)

-- a statement ends, and the next line follows
abbrev pub ends : State → Outcome (Option ℕ)
ends s = Gives None (on_account ended s)

-- everything will do
abbrev pub Any : {A : Type 0} → A → Type 0
Any v = Unit {0}

module _ (O : ℤ → Type 0) (P W : World → Type 0) (V : Array → Type 0) (keeps : Keeps O P V) where
  -- P holds where it gives something, which meets Q, or faults; W where it goes on
  abbrev pub Comes : {A : Type 0} → (A → Type 0) → Outcome A → Type 0
  Comes Q (Gives v s) = Q v × P s.world
  Comes Q (Faulted k s) = P s.world
  Comes Q (Going s) = W s.world

  pub comes-then : {A B : Type 0} (Q : A → Type 0) (R : B → Type 0) (o : Outcome A) (next : A → State → Outcome B) → Comes Q o → ((v : A) (t : State) → Q v → P t.world → Comes R (next v t)) → Comes R (and_then o next)
  comes-then Q R (Gives v t) next h q = q v t h.0 h.1
  comes-then Q R (Faulted k t) next h q = h
  comes-then Q R (Going t) next h q = h

  -- calls keep it too, the labels of the function meet V, and the origin O
  pub record Calls (c : Context) : Type 0 where
    pub origin : O c.origin
    pub calls : (j : ℕ) (x y : Option Array) (s : State) → OnSome V x → OnSome V y → P s.world → Comes (OnSome V) (c.call j x y s)
    pub labels : (n : ℕ) (z : ℤ) → c.scope n ≡ scope.Label z → V (scalar z)

  pub comes-ready : (c : Context) (i : ℕ) (u : Use) (n : ℕ) (v : Array) (s : State) → V v → P s.world → Comes V (ready c i u n v s)
  comes-ready c i u n v s good h = (good, keeps.noting i _ v s.world good h)

  comes-filled : (c : Context) (i n : ℕ) (d : Delayed) (r : Result (List ℤ) FaultKind) (s : State) → OnDone V (with_cells d r) → P s.world → Comes V (filled c i n d r s)
  comes-filled c i n d (Ok zs) s good h = (good, keeps.noting i _ _ s.world good h)
  comes-filled c i n d (Err k) s good h = h

  pub comes-made : (c : Context) (i : ℕ) (u : Use) (f g : List ℕ → ℕ) (r : Prepared) (s : State) → OnDone V (computed r) → P s.world → Comes V (made c i u f g r s)
  comes-made c i u f g (Ok d) s good h = comes-filled c i _ d (cells_of d) _ good h
  comes-made c i u f g (Err k) s good h = h

  pub comes-there : (c : Context) (i : ℕ) (u : Use) (v : Option Array) (s : State) → OnSome V v → P s.world → Comes V (there c i u v s)
  comes-there c i u None s good h = h
  comes-there c i u (Some v) s good h = comes-ready c i u _ v s good h

  comes-read : (c : Context) (i : ℕ) (u : Use) (k : Kind) (x : InputLine) (s : State) → OnLine V k x → P s.world → Comes V (read_line c i u k x s)
  comes-read c i u k (Unread e) s good h = h
  comes-read c i u k (Line zs rest) s good h = (good, keeps.noting i _ _ _ good (keeps.reading rest s.world h))

  -- the value of a name meets V
  known : (x : Scope) (n : ℕ) (w : World) → ((z : ℤ) → x ≡ scope.Label z → V (scalar z)) → P w → OnSome V (value_of_name x n w)
  known (scope.Label z) n w labels h = labels z refl
  known scope.Local n w labels h = keeps.locals n w h
  known scope.Global n w labels h = keeps.globals n w h
  known (scope.Function j) n w labels h = tt

  name-known : (c : Context) → Calls c → (n : ℕ) (w : World) → P w → OnSome V (value_of_name (c.scope n) n w)
  name-known c calls n w h = known (c.scope n) n w (λ z e. calls.labels n z e) h

  comes-change : (c : Context) (i : ℕ) (u : Use) (n : ℕ) (js : List (Option Array)) (v old : Array) (r : Result Array FaultKind) (s : State) → V v → OnDone V r → P s.world → Comes V (change c i u n js v old r s)
  comes-change c i u n js v old (Err k) s good new h = h
  comes-change c i u n js v old (Ok a) s good new h = (good, keeps.noting i _ v _ good (keeps.naming (c.scope n) n a s.world new h))

  pub comes-change_there : (c : Context) → Calls c → (i : ℕ) (u : Use) (n : ℕ) (js : List (Option Array)) (v : Array) (x : Option Array) (s : State) → OnEach V js → V v → OnSome V x → P s.world → Comes V (change_there c i u n js v x s)
  comes-change_there c calls i u n js v None s each good known h = h
  comes-change_there c calls i u n js v (Some old) s each good known h = comes-change c i u n js v old (changed c.origin old js v) s good (keeps.changes c.origin old js v calls.origin known each good) h

  pub comes-assigned : (c : Context) (i : ℕ) (u : Use) (n : ℕ) (v : Array) (s : State) → V v → P s.world → Comes V (ready c i u (product v.shape) v (assigned (c.scope n) n v s))
  comes-assigned c i u n v s good h = (good, keeps.noting i _ v _ good (keeps.naming (c.scope n) n v s.world good h))

  put-kept : (v : Array) (s : State) → V v → P s.world → P (put v s).world
  put-kept v s good h = keeps.working _ _ (keeps.putting v s.world good h)

  pub comes-put : (c : Context) (i : ℕ) (u : Use) (v : Array) (s : State) → V v → P s.world → Comes V (ready c i u 0 v (put v s))
  comes-put c i u v s good h = (good, keeps.noting i _ v _ good (put-kept v s good h))

  pub comes-called : (c : Context) → Calls c → (n : ℕ) (a b : Argument) (x y : Option Array) (s : State) → OnSome V x → OnSome V y → P s.world → Comes (OnSome V) (called c n a b x y s)
  comes-called c calls n a b x y s good well h = calls.calls (function_of (c.scope n)) x y _ good well h

  pub comes-answer : (c : Context) → Calls c → (i : ℕ) (u : Use) (n : ℕ) (a b : Argument) (x y : Option Array) (s : State) → OnSome V x → OnSome V y → P s.world → Comes V (and_then (called c n a b x y s) (λ r z. there c i u r z))
  comes-answer c calls i u n a b x y s well good h = comes-then (OnSome V) V (called c n a b x y s) _ (comes-called c calls n a b x y s well good h) (λ r z is q. comes-there c i u r z is q)

  mutual
    pub comes-value : (c : Context) → Calls c → (t : Tree) → OnLiterals V t → (u : Use) (s : State) → P s.world → Comes V (value c t u s)
    comes-value c calls (Numbers i p xs) l u s h = comes-ready c i u _ _ s l h
    comes-value c calls (Text i p cs) l u s h = comes-ready c i u _ _ s l h
    comes-value c calls (Name i p n) l u s h = comes-there c i u _ s (name-known c calls n s.world h) h
    comes-value c calls (TextInput i p) l u s h = comes-read c i u Char (input_line s.world.input) s (keeps.text_lines s.world) h
    comes-value c calls (NumsInput i p) l u s h = comes-read c i u Num (number_line s.world.input) s (keeps.number_lines s.world) h
    comes-value c calls (Mono i p f b) l u s h =
        comes-then V V (value c b passed s) _ (comes-value c calls b l passed s h) (λ y t good q. comes-made c i u _ _ (mono_of c.origin f y) t (keeps.monos c.origin f y calls.origin good) q)
    comes-value c calls (Dyad i p f a b) l u s h =
        comes-then V V (value c b passed s) _ (comes-value c calls b l.1 passed s h) (λ y t good q. comes-then V V (value c a passed t) _ (comes-value c calls a l.0 passed t q) (λ x z well r. comes-made c i u _ _ (dyad_of c.origin f x y) z (keeps.dyads c.origin f x y calls.origin well good) r))
    comes-value c calls (Index i p a xs) l u s h =
        comes-then (OnEach V) V (values c xs s) _ (comes-values c calls xs l.1 s h) (λ js t each q. comes-then V V (value c a passed t) _ (comes-value c calls a l.0 passed t q) (λ x z good r. comes-made c i u _ _ (indexed c.origin x js) z (keeps.indices c.origin x js calls.origin good each) r))
    comes-value c calls (Assign i p n a) l u s h =
        comes-then V V (value c a stored s) _ (comes-value c calls a l stored s h) (λ v t good q. comes-assigned c i u n v t good q)
    comes-value c calls (AssignAt i p n xs a) l u s h =
        comes-then V V (value c a passed s) _ (comes-value c calls a l.1 passed s h) (λ v t good q. comes-then (OnEach V) V (values c xs t) _ (comes-values c calls xs l.0 t q) (λ js z each r. comes-change_there c calls i u n js v _ z each good (name-known c calls n z.world r) r))
    comes-value c calls (Show i p a) l u s h =
        comes-then V V (value c a displayed s) _ (comes-value c calls a l displayed s h) (λ v t good q. comes-put c i u v t good q)
    comes-value c calls (Call i p n a b) l u s h =
        comes-then (OnSome V) V (argument c b s) _ (comes-argument c calls b l.1 s h) (λ y t good q. comes-then (OnSome V) V (argument c a t) _ (comes-argument c calls a l.0 t q) (λ x z well r. comes-answer c calls i u n a b x y z well good r))

    pub comes-values : (c : Context) → Calls c → (xs : Trees) → OnListed V xs → (s : State) → P s.world → Comes (OnEach V) (values c xs s)
    comes-values c calls no_more l s h = (tt, h)
    comes-values c calls (left_out xs) l s h = comes-then (OnEach V) (OnEach V) (values c xs s) _ (comes-values c calls xs l s h) (λ vs t each q. ((tt, each), q))
    comes-values c calls (and_tree x xs) l s h =
        comes-then (OnEach V) (OnEach V) (values c xs s) _ (comes-values c calls xs l.1 s h) (λ vs t each q. comes-then V (OnEach V) (value c x passed t) _ (comes-value c calls x l.0 passed t q) (λ v z good r. ((good, each), r)))

    pub comes-argument : (c : Context) → Calls c → (a : Argument) → OnArgument V a → (s : State) → P s.world → Comes (OnSome V) (argument c a s)
    comes-argument c calls absent l s h = (tt, h)
    comes-argument c calls (given t) l s h = comes-then V (OnSome V) (value c t passed s) _ (comes-value c calls t l passed s h) (λ v z good q. (good, q))

  -- ---- What follows the first part

  -- what follows the right argument
  pub comes-dyad : (c : Context) → Calls c → (i : ℕ) (u : Use) (f : Primitive) (a : Tree) → OnLiterals V a → (y : Array) (s : State) → V y → P s.world → Comes V (and_then (value c a passed s) (λ x t. made c i u (places_listed c.origin f x.shape) (dyad_applications c.origin f x.shape y.shape) (dyad_of c.origin f x y) t))
  comes-dyad c calls i u f a l y s good h =
      comes-then V V (value c a passed s) _ (comes-value c calls a l passed s h) (λ x t well q. comes-made c i u _ _ (dyad_of c.origin f x y) t (keeps.dyads c.origin f x y calls.origin well good) q)

  -- what follows the index list
  pub comes-index : (c : Context) → Calls c → (i : ℕ) (u : Use) (a : Tree) → OnLiterals V a → (js : List (Option Array)) (s : State) → OnEach V js → P s.world → Comes V (and_then (value c a passed s) (λ x t. made c i u none_for none_for (indexed c.origin x js) t))
  comes-index c calls i u a l js s each h =
      comes-then V V (value c a passed s) _ (comes-value c calls a l passed s h) (λ x t good q. comes-made c i u _ _ (indexed c.origin x js) t (keeps.indices c.origin x js calls.origin good each) q)

  -- what follows the value of an indexed assignment
  pub comes-assign-at : (c : Context) → Calls c → (i : ℕ) (u : Use) (n : ℕ) (xs : Trees) → OnListed V xs → (v : Array) (s : State) → V v → P s.world → Comes V (and_then (values c xs s) (λ js t. change_there c i u n js v (value_of_name (c.scope n) n t.world) t))
  comes-assign-at c calls i u n xs l v s good h =
      comes-then (OnEach V) V (values c xs s) _ (comes-values c calls xs l s h) (λ js t each q. comes-change_there c calls i u n js v _ t each good (name-known c calls n t.world q) q)

  -- what follows the right argument of a call
  pub comes-call : (c : Context) → Calls c → (i : ℕ) (u : Use) (n : ℕ) (a b : Argument) → OnArgument V a → (y : Option Array) (s : State) → OnSome V y → P s.world → Comes V (and_then (argument c a s) (λ x t. and_then (called c n a b x y t) (λ r z. there c i u r z)))
  comes-call c calls i u n a b l y s good h =
      comes-then (OnSome V) V (argument c a s) _ (comes-argument c calls a l s h) (λ x t well q. comes-answer c calls i u n a b x y t well good q)

  pub comes-entry : (c : Context) → Calls c → (x : Tree) → OnLiterals V x → (vs : List (Option Array)) (s : State) → OnEach V vs → P s.world → Comes (OnEach V) (and_then (value c x passed s) (λ v t. Gives (Some v ∷ vs) t))
  comes-entry c calls x l vs s each h = comes-then V (OnEach V) (value c x passed s) _ (comes-value c calls x l passed s h) (λ v t good q. ((good, each), q))

  -- ---- Statements

  pub comes-branched : (r : Result (Option ℕ) FaultKind) (s : State) → P s.world → Comes Any (branched r s)
  comes-branched (Ok to) s h = (tt, h)
  comes-branched (Err k) s h = h

  -- what follows the right argument of a call without a result
  pub comes-perform : (c : Context) → Calls c → (n : ℕ) (a b : Argument) → OnArgument V a → (y : Option Array) (s : State) → OnSome V y → P s.world → Comes Any (and_then (argument c a s) (λ x t. and_then (called c n a b x y t) (λ r z. ends (on_world (worked 1) z))))
  comes-perform c calls n a b l y s good h =
      comes-then (OnSome V) Any (argument c a s) _ (comes-argument c calls a l s h) (λ x t well q. comes-then (OnSome V) Any (called c n a b x y t) _ (comes-called c calls n a b x y t well good q) (λ r z is z_holds. (tt, keeps.working 1 z.world z_holds)))

  pub comes-statement : (c : Context) → Calls c → (x : Action) → OnAction V x → (s : State) → P s.world → Comes Any (statement c x s)
  comes-statement c calls nothing l s h = (tt, h)
  comes-statement c calls (quiet t) l s h = comes-then V Any (value c t passed s) _ (comes-value c calls t l passed s h) (λ v z good q. (tt, q))
  comes-statement c calls (perform i p n a b) l s h =
      comes-then (OnSome V) Any (argument c b s) _ (comes-argument c calls b l.1 s h) (λ y t good q. comes-perform c calls n a b l.0 y t good q)
  comes-statement c calls (display t) l s h = comes-then V Any (value c t displayed s) _ (comes-value c calls t l displayed s h) (λ v z good q. (tt, put-kept v z good q))
  comes-statement c calls (branch p t) l s h = comes-then V Any (value c t passed s) _ (comes-value c calls t l passed s h) (λ v z good q. comes-branched (branch_to v) z q)

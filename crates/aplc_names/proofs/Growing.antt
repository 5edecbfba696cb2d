-- Output, marks and what nodes were given only grow in an evaluation.
use Rattle.std.proofs.Common.{ℕ, zero, suc, List, [], ◌∷◌, ◌++◌, Option, Some, None, refl, sym, ap, ◌∙◌, subst, append_assoc, append-nil, Bool, true, false}
use Rattle.std.specs.Prelude.{Result, Ok, Err, slice_get, nat_lt, if◌then◌else◌}
use Rattle.aplc_scalar.specs.declared.kind.FaultKind.{FaultKind}
use Rattle.aplc_scalar.specs.declared.kind.FaultKind.TheVariants as fault
use Rattle.aplc_scalar.specs.declared.kind.Kind.{Kind}
use Rattle.aplc_scalar.specs.declared.kind.Kind.TheVariants.{Num, Char}
use Rattle.aplc_scalar.specs.Input.{InputLine, Line, Unread, input_line, number_line}
use Rattle.aplc_arr.specs.Arrays.{Array}
use Rattle.aplc_arr.specs.Delayed.{computed}
use Rattle.aplc_arr.specs.Indexing.{indexed, changed}
use Rattle.aplc_arr.specs.Display.{shown}
use Rattle.aplc_syntax.specs.PlainTrees.{Tree, Numbers, Text, Name, TextInput, NumsInput, Mono, Dyad, Index, Assign, AssignAt, Show, Call, Trees, no_more, left_out, and_tree, Argument, absent, given}
use Rattle.aplc_names.specs.declared.scope.Scope.{Scope}
use Rattle.aplc_names.specs.declared.scope.Scope.TheVariants as scope
use Rattle.aplc_names.specs.PlainPrograms.{Action, nothing, quiet, perform, display, branch, Routine, PlainProgram}
use Rattle.aplc_names.specs.Primitives.{mono_of, dyad_of}
use Rattle.aplc_names.specs.States.{depth, World, State, Marking, Outcome, Gives, Faulted, Going, and_then, final, on_world}
use Rattle.aplc_names.specs.Eager.{Caller, Context, with_value, statement}
use Rattle.aplc_names.specs.Runs.{Runner, entered, back, call_routine, line_at, started, from_line, context, run}
use Rattle.aplc_names.specs.RunLaws.{IsPrefix}
use Rattle.aplc_names.proofs.Carried.{OnSome, OnEach, OnDone, OnLine, OnLiterals, OnListed, OnArgument, OnAction, Any, Keeps, Comes, Calls, comes-statement}

pub record Extends (v w : World) : Type 0 where
  pub output : IsPrefix v.output w.output
  pub marks : IsPrefix v.marks w.marks
  pub given : IsPrefix v.given w.given

pub same-list : {A : Type 0} (xs : List A) → IsPrefix xs xs
same-list xs = ([], sym (append-nil xs))

longer : {A : Type 0} (xs ys more : List A) → IsPrefix xs ys → IsPrefix xs (ys ++ more)
longer xs ys more h = (h.0 ++ more, ap (λ l. l ++ more) h.1 ∙ append_assoc xs h.0 more)

pub extends-same : (w : World) → Extends w w
extends-same w = record { output = same-list w.output; marks = same-list w.marks; given = same-list w.given }

abbrev pub AnyValue : Array → Type 0
AnyValue v = Unit {0}

pub some-any : (x : Option Array) → OnSome AnyValue x
some-any None = tt
some-any (Some v) = tt

pub each-any : (xs : List (Option Array)) → OnEach AnyValue xs
each-any [] = tt
each-any (x ∷ xs) = (some-any x, each-any xs)

pub done-any : (r : Result Array FaultKind) → OnDone AnyValue r
done-any (Ok v) = tt
done-any (Err k) = tt

pub line-any : (k : Kind) (x : InputLine) → OnLine AnyValue k x
line-any k (Unread e) = tt
line-any k (Line zs rest) = tt

mutual
  pub literals-any : (t : Tree) → OnLiterals AnyValue t
  literals-any (Numbers i p xs) = tt
  literals-any (Text i p cs) = tt
  literals-any (Name i p n) = tt
  literals-any (TextInput i p) = tt
  literals-any (NumsInput i p) = tt
  literals-any (Mono i p f b) = literals-any b
  literals-any (Dyad i p f a b) = (literals-any a, literals-any b)
  literals-any (Index i p a xs) = (literals-any a, listed-any xs)
  literals-any (Assign i p n a) = literals-any a
  literals-any (AssignAt i p n xs a) = (listed-any xs, literals-any a)
  literals-any (Show i p a) = literals-any a
  literals-any (Call i p n a b) = (argument-any a, argument-any b)

  pub listed-any : (xs : Trees) → OnListed AnyValue xs
  listed-any no_more = tt
  listed-any (left_out xs) = listed-any xs
  listed-any (and_tree t xs) = (literals-any t, listed-any xs)

  pub argument-any : (a : Argument) → OnArgument AnyValue a
  argument-any absent = tt
  argument-any (given t) = literals-any t

pub action-any : (x : Action) → OnAction AnyValue x
action-any nothing = tt
action-any (quiet t) = literals-any t
action-any (perform i p n a b) = (argument-any a, argument-any b)
action-any (display t) = literals-any t
action-any (branch p t) = literals-any t

named-extends : (v : World) (x : Scope) (n : ℕ) (a : Array) (w : World) → Extends v w → Extends v (with_value x n a w)
named-extends v scope.Local n a w h = record { output = h.output; marks = h.marks; given = h.given }
named-extends v scope.Global n a w h = record { output = h.output; marks = h.marks; given = h.given }
named-extends v (scope.Label z) n a w h = record { output = h.output; marks = h.marks; given = h.given }
named-extends v (scope.Function j) n a w h = record { output = h.output; marks = h.marks; given = h.given }

-- each step extends the world where an evaluation began
pub extending : (v : World) → Keeps Any (Extends v) AnyValue
extending v = record {
  noting = λ i n a w good h. record { output = h.output; marks = h.marks; given = longer v.given w.given _ h.given };
  working = λ n w h. record { output = h.output; marks = h.marks; given = h.given };
  reading = λ rest w h. record { output = h.output; marks = h.marks; given = h.given };
  putting = λ a w good h. record { output = longer v.output w.output (shown a) h.output; marks = h.marks; given = h.given };
  naming = λ x n a w good h. named-extends v x n a w h;
  globals = λ n w h. some-any (w.globals n);
  locals = λ n w h. some-any (w.locals n);
  text_lines = λ w. line-any Char (input_line w.input);
  number_lines = λ w. line-any Num (number_line w.input);
  monos = λ o f y origin good. done-any (computed (mono_of o f y));
  dyads = λ o f x y origin good well. done-any (computed (dyad_of o f x y));
  indices = λ o x js origin good each. done-any (computed (indexed o x js));
  changes = λ o x js a origin good each well. done-any (changed o x js a);
}

-- what an evaluation from a world comes to extends it
abbrev pub Grows : {A : Type 0} → World → Outcome A → Type 0
Grows w o = Extends w (final o).world

grown : {A : Type 0} (Q : A → Type 0) (w : World) (o : Outcome A) → Comes Any (Extends w) (Extends w) AnyValue (extending w) Q o → Grows w o
grown Q w (Gives v s) h = h.1
grown Q w (Faulted k s) h = h
grown Q w (Going s) h = h

from-grown : {A : Type 0} (Q : A → Type 0) (w : World) (o : Outcome A) → ((v : A) → Q v) → Grows w o → Comes Any (Extends w) (Extends w) AnyValue (extending w) Q o
from-grown Q w (Gives v s) all h = (all v, h)
from-grown Q w (Faulted k s) all h = h
from-grown Q w (Going s) all h = h

pub extends-then : (u v w : World) → Extends u v → Extends v w → Extends u w
extends-then u v w h q = record {
  output = subst (IsPrefix u.output) (sym q.output.1) (longer u.output v.output q.output.0 h.output);
  marks = subst (IsPrefix u.marks) (sym q.marks.1) (longer u.marks v.marks q.marks.0 h.marks);
  given = subst (IsPrefix u.given) (sym q.given.1) (longer u.given v.given q.given.0 h.given);
}

-- calls extend
abbrev pub GrowsCalls : Caller → Type 0
GrowsCalls g = (j : ℕ) (x y : Option Array) (s : State) → Grows s.world (g j x y s)

calls-grow : (w : World) (c : Context) → GrowsCalls c.call → Calls Any (Extends w) (Extends w) AnyValue (extending w) c
calls-grow w c grow = record {
  origin = tt;
  calls = λ j x y s good well h. from-grown (OnSome AnyValue) w (c.call j x y s) some-any (extends-then w s.world _ h (grow j x y s));
  labels = λ n z e. tt;
}

pub grows-then : {A B : Type 0} (w : World) (o : Outcome A) (next : A → State → Outcome B) → Grows w o → ((v : A) (t : State) → Grows t.world (next v t)) → Grows w (and_then o next)
grows-then w (Gives v t) next h q = extends-then w t.world _ h (q v t)
grows-then w (Faulted k t) next h q = h
grows-then w (Going t) next h q = h

grows-statement : (c : Context) → GrowsCalls c.call → (x : Action) (s : State) → Grows s.world (statement c x s)
grows-statement c grow x s =
    let w = s.world in
    grown _ w (statement c x s) (comes-statement Any (Extends w) (Extends w) AnyValue (extending w) c (calls-grow w c grow) x (action-any x) s (extends-same w))

-- ---- Runs grow

abbrev pub GrowsRuns : Runner → Type 0
GrowsRuns r = (f : Routine) (l : ℕ) (s : State) → Grows s.world (r f l s)

entered-extends : (f : Routine) (x y : Option Array) (s : State) → Extends s.world (entered f x y s).world
entered-extends f x y s = record { output = same-list s.world.output; marks = same-list s.world.marks; given = same-list s.world.given }

pub back-extends : (f : Routine) (s t : State) → Extends t.world (back f s t).world
back-extends f s t = record { output = same-list t.world.output; marks = same-list t.world.marks; given = same-list t.world.given }

pub grows-call : (r : Runner) → GrowsRuns r → (o : Option Routine) (x y : Option Array) (s : State) → Grows s.world (call_routine r o x y s)
grows-call r runs None x y s = extends-same s.world
grows-call r runs (Some f) x y s = by_depth (nat_lt (depth s.world.places) 4096)
  where
    by_depth : (b : Bool) → Grows s.world (if b then and_then (r f 1 (entered f x y s)) (λ v t. Gives v (back f s t)) else Faulted fault.Limit s)
    by_depth true = grows-then s.world (r f 1 (entered f x y s)) _ (extends-then s.world (entered f x y s).world _ (entered-extends f x y s) (runs f 1 (entered f x y s))) (λ v t. back-extends f s t)
    by_depth false = extends-same s.world

started-extends : (l : ℕ) (x : Action) (k : ℕ) (w : World) → Extends w (started l x k w)
started-extends l x k w = record { output = same-list w.output; marks = (_, refl); given = same-list w.given }

pub grows-line : (p : PlainProgram) (m : Marking) (r : Runner) → GrowsRuns r → (f : Routine) (l : ℕ) (x : Option Action) (k : ℕ) (s : State) → Grows s.world (from_line (context p m r f) f (r f) l x k s)
grows-line p m r runs f l None k s = extends-same s.world
grows-line p m r runs f l (Some x) zero s = extends-same s.world
grows-line p m r runs f l (Some x) (suc k) s =
    let t = on_world (started l x k) s in
    grows-then s.world (statement (context p m r f) x t) _ (extends-then s.world t.world _ (started-extends l x k s.world) (grows-statement (context p m r f) (λ j y z u. grows-call r runs (slice_get p.routines j) y z u) x t)) (λ to u. runs f _ u)

pub grows-run : (p : PlainProgram) (m : Marking) (k : ℕ) → GrowsRuns (run p m k)
grows-run p m zero f l s = extends-same s.world
grows-run p m (suc k) f l s = grows-line p m (run p m k) (grows-run p m k) f l (line_at f.lines l) s.world.left s

-- ---- What follows the first part of an evaluation

module _ (c : Context) (grow : GrowsCalls c.call) where
  -- where it keeps extending, it extends
  pub grows-by : {A : Type 0} (Q : A → Type 0) (next : State → Outcome A) (s : State) → ((w : World) → Calls Any (Extends w) (Extends w) AnyValue (extending w) c → Extends w s.world → Comes Any (Extends w) (Extends w) AnyValue (extending w) Q (next s)) → Grows s.world (next s)
  grows-by Q next s comes = let w = s.world in grown Q w (next s) (comes w (calls-grow w c grow) (extends-same w))

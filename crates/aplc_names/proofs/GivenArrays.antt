-- Each value that a run gives to a node is an array of the language.
use Rattle.std.proofs.Common.{◌≡◌, ℕ, zero, suc, ◌+◌, ◌<◌, ◌≤◌, List, [], ◌∷◌, ◌++◌, length, Option, Some, None, refl, sym, ◌∙◌, subst, arith, Bool, true, false, ℤ, pos, negsuc, inl, inr, ◌⊎◌, ◌*◌}
use Rattle.std.specs.Prelude.{All, map, slice_get, unwrap_or, option_and_then, nat_eq, nat_lt, nat_le, sum, chars, ◌&&◌, ◌||◌, if◌then◌else◌}
use Rattle.std.specs.List.{AllByRecursion}
use Rattle.std.specs.Str.{all_scalars}
use Rattle.std.proofs.lemmas.Bool.Decides.{nat_tests, leb_tells}
use Rattle.std.proofs.lemmas.List.{length-map}
use Rattle.std.proofs.lemmas.List.Sums.{sum_by-cons}
use Rattle.std.proofs.lemmas.List.Elements.{All-from_recursion, recursion_from_All}
use Rattle.aplc_scalar.specs.declared.kind.FaultKind.TheVariants as fault
use Rattle.aplc_scalar.specs.declared.kind.Kind.{Kind}
use Rattle.aplc_scalar.specs.declared.kind.Kind.TheVariants.{Num, Char}
use Rattle.aplc_scalar.specs.Scalar.{in_range}
use Rattle.aplc_scalar.specs.Input.{InputLine, Line, Unread, input_line, number_line, line_text}
use Rattle.aplc_scalar.proofs.InputLaws.{input_line_is, number_line_is}
use Rattle.aplc_arr.specs.Arrays.{Array, shape_fits, is_cell, IsArray}
use Rattle.aplc_arr.specs.Delayed.{computed}
use Rattle.aplc_arr.specs.Structure.{IsOrigin}
use Rattle.aplc_arr.proofs.KeepsEach.{keeps-each_monadic, keeps-each_dyadic}
use Rattle.aplc_arr.proofs.KeepsStructure.{keeps-shape, keeps-ravel, keeps-iota, keeps-reverse, keeps-rotate, keeps-transpose, keeps-reshape, keeps-catenate}
use Rattle.aplc_arr.proofs.KeepsAxes.{keeps-moved}
use Rattle.aplc_arr.proofs.KeepsSelection.{keeps-take, keeps-drop, keeps-replicate, keeps-expand, keeps-index_of, keeps-member}
use Rattle.aplc_arr.proofs.KeepsOperators.{keeps-reduce, keeps-scan, keeps-outer, keeps-inner}
use Rattle.aplc_arr.proofs.KeepsIndexing.{keeps-index, keeps-change}
use Rattle.aplc_syntax.specs.declared.tree.Primitive.{Primitive}
use Rattle.aplc_syntax.specs.declared.tree.Primitive.TheVariants as pr
use Rattle.aplc_syntax.specs.declared.word.Role.{Role}
use Rattle.aplc_syntax.specs.declared.tree.Function.{Function}
use Rattle.aplc_syntax.specs.declared.tree.Program.{Program}
use Rattle.aplc_syntax.specs.declared.tree.Statement.{Statement}
use Rattle.aplc_syntax.specs.declared.tree.Statement.TheVariants as st
use Rattle.aplc_syntax.specs.PlainTrees.{Tree, Numbers, Text, Name, TextInput, NumsInput, Mono, Dyad, Index, Assign, AssignAt, Show, Call, Trees, no_more, left_out, and_tree, Argument, absent, given, tree_of}
use Rattle.aplc_names.specs.Outlines.{header_names}
use Rattle.aplc_names.specs.Tables.{stands_in}
use Rattle.aplc_names.specs.Literals.{tree_elements, trees_elements, argument_elements, statement_elements, line_elements, function_elements}
use Rattle.aplc_names.specs.Fits.{takes_one, takes_two, arity_given, is_function, is_procedure, all_in_range, has_number, has_place, fits, all_fit, argument_fits, performs, is_quiet, statement_fits, roles, is_origin}
use Rattle.aplc_names.specs.Scopes.{function_number, is_label, label_line, local_or_global, label_or, function_or, scope_in}
use Rattle.aplc_names.specs.RunLaws.{GivesArrays}
use Rattle.aplc_syntax.specs.declared.tree.Line.{Line as SourceLine}
use Rattle.aplc_names.specs.declared.scope.Scope.{Scope}
use Rattle.aplc_names.specs.declared.scope.Scope.TheVariants as scope
use Rattle.aplc_names.specs.PlainPrograms.{Action, quiet_of, action_of, line_action, Routine, routine_of, PlainProgram, plain, no_routine, main_routine}
use Rattle.aplc_names.specs.Primitives.{mono_of, dyad_of}
use Rattle.aplc_names.specs.States.{Giving, depth, World, State, Marking, Outcome, Gives, Faulted, Going, and_then, final, on_world, set_name, no_values}
use Rattle.aplc_names.specs.Eager.{literal, vector, with_value, statement}
use Rattle.aplc_names.specs.Runs.{Runner, entered, back, call_routine, caller, line_at, started, from_line, context, run, initial, evaluated, result_of, set_some}
use Rattle.aplc_names.proofs.Carried.{OnSome, OnDone, OnLine, OnLiterals, OnListed, OnArgument, OnAction, Keeps, Comes, Calls, Any, comes-then, comes-statement}

-- ---- Arrays of literals and of lines

scalar-array : (k : Kind) (z : ℤ) → is_cell k z ≡ true → IsArray record { kind = k; shape = []; cells = z ∷ [] }
scalar-array k z e = record { whole = refl; fits = refl; ranked = omega arith; cells = All-from_recursion (λ z. is_cell k z ≡ true) (z ∷ []) (e, tt) }

vector-fits : (n : ℕ) → n ≤ 2147483647 → shape_fits (n ∷ []) ≡ true
vector-fits n h =
    let one : n * 1 ≡ n = omega arith in
    let few : nat_le n 2147483647 ≡ true = grind (arith, nat_tests) in
    rw (one, few) refl

vector-array : (k : Kind) (zs : List ℤ) → length zs ≤ 2147483647 → AllByRecursion (λ z. is_cell k z ≡ true) zs → IsArray (vector k zs)
vector-array k zs few h = record { whole = omega arith; fits = vector-fits (length zs) few; ranked = omega arith; cells = All-from_recursion (λ z. is_cell k z ≡ true) zs h }

pub literal-array : (k : Kind) (zs : List ℤ) → length zs ≤ 2147483647 → AllByRecursion (λ z. is_cell k z ≡ true) zs → IsArray (literal k zs)
literal-array k [] few h = vector-array k [] few h
literal-array k (z ∷ []) few h = scalar-array k z h.0
literal-array k (z ∷ y ∷ zs) few h = vector-array k (z ∷ y ∷ zs) few h

both-hold : (a b : Bool) → a && b ≡ true → (a ≡ true) × (b ≡ true)
both-hold true b e = (refl, e)
both-hold false b e = absurd cc

pub characters-hold : (cs : List ℕ) → all_scalars cs ≡ true → AllByRecursion (λ z. is_cell Char z ≡ true) (map pos cs)
characters-hold [] e = tt
characters-hold (c ∷ cs) e = let p = both-hold _ (all_scalars cs) e in (p.0, characters-hold cs p.1)

text-lines-hold : (bs : List ℕ) (x : InputLine) → input_line bs ≡ x → OnLine IsArray Char x
text-lines-hold bs (Unread e) q = tt
text-lines-hold bs (Line zs rest) q =
    let is = input_line_is bs zs rest q in
    let cs = chars (line_text bs) in
    subst (λ (l : List ℤ). IsArray (vector Char l)) (sym is.0) (vector-array Char (map pos cs) (omega (arith, length-map cs pos, is.2)) (characters-hold cs is.1))

number-lines-hold : (bs : List ℕ) (x : InputLine) → number_line bs ≡ x → OnLine IsArray Num x
number-lines-hold bs (Unread e) q = tt
number-lines-hold bs (Line zs rest) q = let is = number_line_is bs zs rest q in vector-array Num zs is.1 (recursion_from_All (λ z. in_range z ≡ true) zs is.2)

-- ---- Primitives

monos-hold : (o : ℤ) (f : Primitive) (y : Array) → IsOrigin o → IsArray y → OnDone IsArray (computed (mono_of o f y))
monos-hold o (pr.Scalar g) y origin h = keeps-each_monadic g y h
monos-hold o pr.Shape y origin h = keeps-shape y h
monos-hold o pr.Ravel y origin h = keeps-ravel y h
monos-hold o pr.Iota y origin h = keeps-iota o y origin
monos-hold o (pr.Reverse x) y origin h = keeps-reverse _ y h
monos-hold o pr.Transpose y origin h = keeps-transpose y h
monos-hold o (pr.Reduce g x) y origin h = keeps-reduce g _ y h
monos-hold o (pr.Scan g x) y origin h = keeps-scan g _ y h
monos-hold o _ y origin h = tt

dyads-hold : (o : ℤ) (f : Primitive) (x y : Array) → IsOrigin o → IsArray x → IsArray y → OnDone IsArray (computed (dyad_of o f x y))
dyads-hold o (pr.Scalar g) x y origin h q = keeps-each_dyadic g x y h q
dyads-hold o pr.Shape x y origin h q = keeps-reshape x y q
dyads-hold o pr.Ravel x y origin h q = keeps-catenate x y h q
dyads-hold o pr.Iota x y origin h q = keeps-index_of o x y origin h q
dyads-hold o pr.Take x y origin h q = keeps-take x y q
dyads-hold o pr.Drop x y origin h q = keeps-drop x y q
dyads-hold o (pr.Reverse a) x y origin h q = keeps-rotate _ x y q
dyads-hold o pr.Transpose x y origin h q = keeps-moved o x y q
dyads-hold o (pr.Replicate a) x y origin h q = keeps-replicate _ x y q
dyads-hold o (pr.Expand a) x y origin h q = keeps-expand _ x y q
dyads-hold o pr.Member x y origin h q = keeps-member x y h
dyads-hold o (pr.Outer g) x y origin h q = keeps-outer g x y h q
dyads-hold o (pr.Inner g k) x y origin h q = keeps-inner g k x y h q
dyads-hold o _ x y origin h q = tt

-- ---- Worlds

-- all values of names are arrays, and so is all that nodes were given
pub record Sound (w : World) : Type 0 where
  pub globals : (n : ℕ) → OnSome IsArray (w.globals n)
  pub locals : (n : ℕ) → OnSome IsArray (w.locals n)
  pub given : AllByRecursion (λ (x : Giving). IsArray x.value) w.given

one-more : (xs : List Giving) (x : Giving) → AllByRecursion (λ (x : Giving). IsArray x.value) xs → IsArray x.value → AllByRecursion (λ (x : Giving). IsArray x.value) (xs ++ x ∷ [])
one-more [] x h q = (q, tt)
one-more (y ∷ ys) x h q = (h.0, one-more ys x h.1 q)

set-sound : (n : ℕ) (v : Option Array) (names : ℕ → Option Array) → OnSome IsArray v → ((m : ℕ) → OnSome IsArray (names m)) → (m : ℕ) → OnSome IsArray (set_name n v names m)
set-sound n v names good h m = by_test (nat_eq n m)
  where
    by_test : (b : Bool) → OnSome IsArray (if b then v else names m)
    by_test true = good
    by_test false = h m

named-sound : (x : Scope) (n : ℕ) (v : Array) (w : World) → IsArray v → Sound w → Sound (with_value x n v w)
named-sound scope.Local n v w good h = record { globals = h.globals; locals = set-sound n (Some v) w.locals good h.locals; given = h.given }
named-sound scope.Global n v w good h = record { globals = set-sound n (Some v) w.globals good h.globals; locals = h.locals; given = h.given }
named-sound (scope.Label z) n v w good h = record { globals = set-sound n (Some v) w.globals good h.globals; locals = h.locals; given = h.given }
named-sound (scope.Function j) n v w good h = record { globals = set-sound n (Some v) w.globals good h.globals; locals = h.locals; given = h.given }

sound : Keeps IsOrigin Sound IsArray
sound = record {
  noting = λ i n v w good h. record { globals = h.globals; locals = h.locals; given = one-more w.given _ h.given good };
  working = λ n w h. record { globals = h.globals; locals = h.locals; given = h.given };
  reading = λ rest w h. record { globals = h.globals; locals = h.locals; given = h.given };
  putting = λ v w good h. record { globals = h.globals; locals = h.locals; given = h.given };
  naming = λ x n v w good h. named-sound x n v w good h;
  globals = λ n w h. h.globals n;
  locals = λ n w h. h.locals n;
  text_lines = λ w. text-lines-hold w.input (input_line w.input) refl;
  number_lines = λ w. number-lines-hold w.input (number_line w.input) refl;
  monos = λ o f y origin good. monos-hold o f y origin good;
  dyads = λ o f x y origin good well. dyads-hold o f x y origin good well;
  indices = λ o x js origin good each. keeps-index o x js good;
  changes = λ o x js v origin good each well. keeps-change o x v js good well;
}

abbrev Holds : {A : Type 0} → (A → Type 0) → Outcome A → Type 0
Holds Q o = Comes IsOrigin Sound Sound IsArray sound Q o

-- ---- Runs

-- the literals of its lines are arrays, and its labels numbers
pub record IsProper (f : Routine) : Type 0 where
  pub lines : AllByRecursion (OnAction IsArray) f.lines
  pub labels : (n : ℕ) (z : ℤ) → f.scope n ≡ scope.Label z → in_range z ≡ true

abbrev Answers : Option Array → Type 0
Answers r = OnSome IsArray r

abbrev SoundRuns : Runner → Type 0
SoundRuns r = (f : Routine) (l : ℕ) (s : State) → IsProper f → Sound s.world → Holds Answers (r f l s)

some-same : {A : Type 0} (x y : A) → Some x ≡ Some y → x ≡ y
some-same x y e = cc

-- where there is one, it is one of the list
found : {A : Type 0} (P : A → Type 0) (xs : List A) (i : ℕ) (x : A) → AllByRecursion P xs → slice_get xs i ≡ Some x → P x
found P [] i x h e = absurd cc
found P (y ∷ ys) zero x h e = subst P (some-same y x e) h.0
found P (y ∷ ys) (suc i) x h e = found P ys i x h.1 e

set-some-sound : (o : Option ℕ) (v : Option Array) (names : ℕ → Option Array) → OnSome IsArray v → ((m : ℕ) → OnSome IsArray (names m)) → (m : ℕ) → OnSome IsArray (set_some o v names m)
set-some-sound None v names good h m = h m
set-some-sound (Some n) v names good h m = set-sound n v names good h m

entered-sound : (f : Routine) (x y : Option Array) (s : State) → OnSome IsArray x → OnSome IsArray y → Sound s.world → Sound (entered f x y s).world
entered-sound f x y s good well h = record {
  globals = h.globals;
  locals = set-some-sound f.left x _ good (set-some-sound f.right y no_values well (λ m. tt));
  given = h.given;
}

back-sound : (f : Routine) (s t : State) → Sound s.world → Sound t.world → Sound (back f s t).world
back-sound f s t h q = record { globals = q.globals; locals = h.locals; given = q.given }

sound-call : (p : PlainProgram) → AllByRecursion IsProper p.routines → (r : Runner) → SoundRuns r → (j : ℕ) (x y : Option Array) (s : State) → OnSome IsArray x → OnSome IsArray y → Sound s.world → Holds Answers (caller p r j x y s)
sound-call p proper r runs j x y s good well h = by_function (slice_get p.routines j) refl
  where
    by_depth : (f : Routine) → IsProper f → (b : Bool) → Holds Answers (if b then and_then (r f 1 (entered f x y s)) (λ v t. Gives v (back f s t)) else Faulted fault.Limit s)
    by_depth f fine true = comes-then IsOrigin Sound Sound IsArray sound Answers Answers (r f 1 (entered f x y s)) _ (runs f 1 (entered f x y s) fine (entered-sound f x y s good well h)) (λ v t is q. (is, back-sound f s t h q))
    by_depth f fine false = h

    by_function : (o : Option Routine) → slice_get p.routines j ≡ o → Holds Answers (call_routine r o x y s)
    by_function None e = h
    by_function (Some f) e = by_depth f (found IsProper p.routines j f proper e) (nat_lt (depth s.world.places) 4096)

result-sound : (o : Option ℕ) (w : World) → Sound w → Answers (result_of o w.locals)
result-sound None w h = tt
result-sound (Some n) w h = h.locals n

calls-sound : (p : PlainProgram) → IsOrigin p.origin → AllByRecursion IsProper p.routines → (m : Marking) (r : Runner) → SoundRuns r → (f : Routine) → IsProper f → Calls IsOrigin Sound Sound IsArray sound (context p m r f)
calls-sound p origin proper m r runs f fine = record {
  origin = origin;
  calls = λ j x y s good well h. sound-call p proper r runs j x y s good well h;
  labels = λ n z e. scalar-array Num z (fine.labels n z e);
}

abbrev OnSomeAction : Option Action → Type 0
OnSomeAction None = Unit {0}
OnSomeAction (Some x) = OnAction IsArray x

line-proper : (xs : List Action) (l : ℕ) → AllByRecursion (OnAction IsArray) xs → OnSomeAction (line_at xs l)
line-proper xs zero h = tt
line-proper xs (suc l) h = by_line (slice_get xs l) refl
  where
    by_line : (o : Option Action) → slice_get xs l ≡ o → OnSomeAction o
    by_line None e = tt
    by_line (Some x) e = found (OnAction IsArray) xs l x h e

no-labels : (n : ℕ) (z : ℤ) → scope.Global ≡ scope.Label z → in_range z ≡ true
no-labels n z e = absurd cc

main-proper : (p : PlainProgram) → AllByRecursion IsProper p.routines → IsProper (main_routine p)
main-proper p proper = by_start p.start
  where
    by_routine : (o : Option Routine) (j : ℕ) → slice_get p.routines j ≡ o → IsProper (unwrap_or o no_routine)
    by_routine None j e = record { lines = tt; labels = no-labels }
    by_routine (Some f) j e = found IsProper p.routines j f proper e

    by_start : (o : Option ℕ) → IsProper (unwrap_or (option_and_then (slice_get p.routines) o) no_routine)
    by_start None = record { lines = tt; labels = no-labels }
    by_start (Some j) = by_routine (slice_get p.routines j) j refl

sound-line : (p : PlainProgram) → IsOrigin p.origin → AllByRecursion IsProper p.routines → (m : Marking) (r : Runner) → SoundRuns r → (f : Routine) → IsProper f → (l : ℕ) (x : Option Action) → OnSomeAction x → (k : ℕ) (s : State) → Sound s.world → Holds Answers (from_line (context p m r f) f (r f) l x k s)
sound-line p origin proper m r runs f fine l None a k s h = (result-sound f.result s.world h, h)
sound-line p origin proper m r runs f fine l (Some x) a zero s h = h
sound-line p origin proper m r runs f fine l (Some x) a (suc k) s h =
    let t : State = on_world (started l x k) s in
    comes-then IsOrigin Sound Sound IsArray sound Any Answers (statement (context p m r f) x t) _
    (comes-statement IsOrigin Sound Sound IsArray sound (context p m r f) (calls-sound p origin proper m r runs f fine) x a t record { globals = h.globals; locals = h.locals; given = h.given })
    (λ to u is q. runs f _ u fine q)

sound-run : (p : PlainProgram) → IsOrigin p.origin → AllByRecursion IsProper p.routines → (m : Marking) (k : ℕ) → SoundRuns (run p m k)
sound-run p origin proper m zero f l s fine h = h
sound-run p origin proper m (suc k) f l s fine h = sound-line p origin proper m (run p m k) (sound-run p origin proper m k) f fine l (line_at f.lines l) (line-proper f.lines l fine.lines) s.world.left s h

given-all : (o : Outcome (Option Array)) → Holds Answers o → All (λ (x : Giving). IsArray x.value) (final o).world.given
given-all (Gives v s) h = All-from_recursion (λ (x : Giving). IsArray x.value) s.world.given h.1.given
given-all (Faulted k s) h = All-from_recursion (λ (x : Giving). IsArray x.value) s.world.given h.given
given-all (Going s) h = All-from_recursion (λ (x : Giving). IsArray x.value) s.world.given h.given

initial-sound : (f : Routine) (input : List ℕ) (n : ℕ) → Sound (initial f input n).world
initial-sound f input n = record { globals = λ m. tt; locals = λ m. tt; given = tt }

pub arrays-given : (p : PlainProgram) → IsOrigin p.origin → AllByRecursion IsProper p.routines → (m : Marking) (input : List ℕ) (n : ℕ) → All (λ (x : Giving). IsArray x.value) (final (evaluated p m input n)).world.given
arrays-given p origin proper m input n =
    let f = main_routine p in
    given-all (evaluated p m input n) (sound-run p origin proper m (n + 1) f 1 (initial f input n) (main-proper p proper) (initial-sound f input n))

-- ---- Programs of the grammar

range-cells : (zs : List ℤ) → all_in_range zs ≡ true → AllByRecursion (λ z. is_cell Num z ≡ true) zs
range-cells [] e = tt
range-cells (z ∷ zs) e = let p = both-hold (in_range z) (all_in_range zs) e in (p.0, range-cells zs p.1)

mutual
  fitting-literals : (r : ℕ → Role) (t : Tree) → fits r t ≡ true → tree_elements t ≤ 262144 → OnLiterals IsArray t
  fitting-literals r (Numbers i p zs) e few = literal-array Num zs (omega (arith, few)) (range-cells zs (both-hold (has_number zs) (all_in_range zs) e).1)
  fitting-literals r (Text i p cs) e few = literal-array Char (map pos cs) (omega (arith, few, length-map cs pos)) (characters-hold cs e)
  fitting-literals r (Name i p n) e few = tt
  fitting-literals r (TextInput i p) e few = tt
  fitting-literals r (NumsInput i p) e few = tt
  fitting-literals r (Mono i p g a) e few = fitting-literals r a (both-hold (takes_one g) (fits r a) e).1 few
  fitting-literals r (Dyad i p g a b) e few =
      let h = both-hold (fits r a) (fits r b) (both-hold (takes_two g) (fits r a && fits r b) e).1 in
      (fitting-literals r a h.0 (omega (arith, few)), fitting-literals r b h.1 (omega (arith, few)))
  fitting-literals r (Index i p a xs) e few =
      let h = both-hold (fits r a) (all_fit r xs) (both-hold (has_place xs) (fits r a && all_fit r xs) e).1 in
      (fitting-literals r a h.0 (omega (arith, few)), fitting-listed r xs h.1 (omega (arith, few)))
  fitting-literals r (Assign i p n a) e few = fitting-literals r a e few
  fitting-literals r (AssignAt i p n xs a) e few =
      let h = both-hold (all_fit r xs) (fits r a) (both-hold (has_place xs) (all_fit r xs && fits r a) e).1 in
      (fitting-listed r xs h.0 (omega (arith, few)), fitting-literals r a h.1 (omega (arith, few)))
  fitting-literals r (Show i p a) e few = fitting-literals r a e few
  fitting-literals r (Call i p n a b) e few =
      let h = both-hold (argument_fits r a) (argument_fits r b) (both-hold (is_function (arity_given a b) (r n)) (argument_fits r a && argument_fits r b) e).1 in
      (fitting-argument r a h.0 (omega (arith, few)), fitting-argument r b h.1 (omega (arith, few)))

  fitting-listed : (r : ℕ → Role) (xs : Trees) → all_fit r xs ≡ true → trees_elements xs ≤ 262144 → OnListed IsArray xs
  fitting-listed r no_more e few = tt
  fitting-listed r (left_out xs) e few = fitting-listed r xs e few
  fitting-listed r (and_tree t xs) e few =
      let h = both-hold (fits r t) (all_fit r xs) e in
      (fitting-literals r t h.0 (omega (arith, few)), fitting-listed r xs h.1 (omega (arith, few)))

  fitting-argument : (r : ℕ → Role) (a : Argument) → argument_fits r a ≡ true → argument_elements a ≤ 262144 → OnArgument IsArray a
  fitting-argument r absent e few = tt
  fitting-argument r (given t) e few = fitting-literals r t e few

left-one : (a : Bool) → a || false ≡ true → a ≡ true
left-one true e = refl
left-one false e = absurd cc

quiet-literals : (r : ℕ → Role) (t : Tree) → performs r t || (is_quiet t && fits r t) ≡ true → tree_elements t ≤ 262144 → OnAction IsArray (quiet_of t)
quiet-literals r (Call i p n a b) e few =
    let h = both-hold (argument_fits r a) (argument_fits r b) (both-hold (is_procedure (arity_given a b) (r n)) (argument_fits r a && argument_fits r b) (left-one (performs r (Call i p n a b)) e)).1 in
    (fitting-argument r a h.0 (omega (arith, few)), fitting-argument r b h.1 (omega (arith, few)))
quiet-literals r (Numbers i p zs) e few = fitting-literals r (Numbers i p zs) (both-hold false (fits r (Numbers i p zs)) e).1 few
quiet-literals r (Text i p cs) e few = fitting-literals r (Text i p cs) (both-hold false (fits r (Text i p cs)) e).1 few
quiet-literals r (Name i p n) e few = tt
quiet-literals r (TextInput i p) e few = tt
quiet-literals r (NumsInput i p) e few = tt
quiet-literals r (Mono i p g a) e few = fitting-literals r (Mono i p g a) (both-hold false (fits r (Mono i p g a)) e).1 few
quiet-literals r (Dyad i p g a b) e few = fitting-literals r (Dyad i p g a b) (both-hold false (fits r (Dyad i p g a b)) e).1 few
quiet-literals r (Index i p a xs) e few = fitting-literals r (Index i p a xs) (both-hold false (fits r (Index i p a xs)) e).1 few
quiet-literals r (Assign i p n a) e few = fitting-literals r a e few
quiet-literals r (AssignAt i p n xs a) e few = fitting-literals r (AssignAt i p n xs a) e few
quiet-literals r (Show i p a) e few = fitting-literals r a e few

action-literals : (r : ℕ → Role) (q : Statement) → statement_fits r q ≡ true → statement_elements q ≤ 262144 → OnAction IsArray (action_of q)
action-literals r st.Empty e few = tt
action-literals r (st.Quiet n) e few = quiet-literals r (tree_of n) e few
action-literals r (st.Display n) e few = fitting-literals r (tree_of n) e few
action-literals r (st.Branch p n) e few = fitting-literals r (tree_of n) e few

lines-proper : (r : ℕ → Role) (ls : List SourceLine) → AllByRecursion (λ (l : SourceLine). statement_fits r l.statement ≡ true) ls → sum (map line_elements ls) ≤ 262144 → AllByRecursion (OnAction IsArray) (map line_action ls)
lines-proper r [] h few = tt
lines-proper r (l ∷ ls) h few =
    let parts = sum_by-cons (λ x. x) (line_elements l) (map line_elements ls) in
    (action-literals r l.statement h.0 (omega (arith, few, parts)), lines-proper r ls h.1 (omega (arith, few, parts)))

-- the number of a label's line
label-below : (n i : ℕ) (ls : List SourceLine) (j : ℕ) → label_line n i ls ≡ Some j → j < i + length ls
label-below n i [] j e = absurd cc
label-below n i (l ∷ ls) j e = by_test (is_label n l.label) e (label-below n (i + 1) ls j)
  where
    by_test : (b : Bool) → (if b then Some i else label_line n (i + 1) ls) ≡ Some j → (label_line n (i + 1) ls ≡ Some j → j < i + 1 + length ls) → j < i + length (l ∷ ls)
    by_test true q later = let same = some-same i j q in omega (arith, same)
    by_test false q later = let h = later q in omega (arith, h)

line-in-range : (i : ℕ) → i ≤ 1000 → in_range (pos i) ≡ true
unfolding in_range
line-in-range i h = grind (arith, nat_tests)

labels-proper : (fs : List Function) (f : Function) → length f.lines ≤ 999 → (n : ℕ) (z : ℤ) → scope_in fs f n ≡ scope.Label z → in_range z ≡ true
labels-proper fs f few n z e = by_scope (function_number n 0 fs) (label_line n 1 f.lines) refl (stands_in n (header_names f)) e
  where
    by_scope : (a b : Option ℕ) → label_line n 1 f.lines ≡ b → (c : Bool) → function_or a (label_or b (local_or_global c)) ≡ scope.Label z → in_range z ≡ true
    by_scope (Some j) b q c e = absurd cc
    by_scope None (Some i) q c e =
        let same : pos i ≡ z = cc in
        let h = label-below n 1 f.lines i q in
        subst (λ z. in_range z ≡ true) same (line-in-range i (omega (arith, h, few)))
    by_scope None None q true e = absurd cc
    by_scope None None q false e = absurd cc

functions-proper : (p : Program) (fs : List Function) → AllByRecursion (λ (g : Function). All (λ (l : SourceLine). statement_fits (roles p.functions) l.statement ≡ true) g.lines) fs → AllByRecursion (λ (g : Function). length g.lines ≤ 999) fs → sum (map function_elements fs) ≤ 262144 → AllByRecursion IsProper (map (routine_of p) fs)
functions-proper p [] h q few = tt
functions-proper p (f ∷ fs) h q few =
    let parts = sum_by-cons (λ x. x) (function_elements f) (map function_elements fs) in (
      record {
        lines = lines-proper (roles p.functions) f.lines (recursion_from_All (λ (l : SourceLine). statement_fits (roles p.functions) l.statement ≡ true) f.lines h.0) (omega (arith, few, parts));
        labels = labels-proper p.functions f q.0;
      },
      functions-proper p fs h.1 q.1 (omega (arith, few, parts)),
    )

clash : false ≡ true → ⊥
clash e = cc

origin-is : (o : ℤ) → is_origin o ≡ true → IsOrigin o
origin-is (pos zero) e = inl refl
origin-is (pos (suc zero)) e = inr refl
origin-is (pos (suc (suc v))) e = absurd (too-great (leb_tells (suc (suc v)) 1))
  where
    too-great : ((nat_le (suc (suc v)) 1 ≡ true) × (suc (suc v) ≤ 1)) ⊎ ((nat_le (suc (suc v)) 1 ≡ false) × (1 < suc (suc v))) → ⊥
    too-great (inl h) = omega (arith, h.1)
    too-great (inr h) = clash (sym h.0 ∙ e)
origin-is (negsuc v) e = absurd cc

pub gives_arrays : (p : Program) → GivesArrays p
gives_arrays p h m input n =
    arrays-given (plain p) (origin-is p.origin h.origin)
    (functions-proper p p.functions
    (recursion_from_All (λ (g : Function). All (λ (l : SourceLine). statement_fits (roles p.functions) l.statement ≡ true) g.lines) p.functions h.fitting)
    (recursion_from_All (λ (g : Function). length g.lines ≤ 999) p.functions h.short)
    h.elements)
    m input n

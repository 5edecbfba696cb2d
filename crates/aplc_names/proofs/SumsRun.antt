-- A MAIN of sums runs as the whole program does, whatever the marking.
use Rattle.std.proofs.Common.{◌≡◌, ℕ, zero, suc, ◌+◌, ◌<◌, ◌%◌, ◌/◌, List, [], ◌∷◌, ◌++◌, length, Option, Some, None, refl, sym, ap, ◌∙◌, subst, arith, append_assoc, append-nil, Bool, true, false, ℤ, pos, negsuc}
use Rattle.std.specs.Prelude.{Result, Ok, Err, map, slice_get, codes, nat_eq, nat_lt, flat_map, encode_utf8, decimal, find, option_map, option_and_then, ◌&&◌, ◌==◌, unwrap_or, if◌then◌else◌}
use Rattle.std.specs.Fmt.{digits, digits_onto, digit_glyph}
use Rattle.std.proofs.lemmas.Bool.{ne_eqb}
use Rattle.std.proofs.lemmas.Str.{encode_ascii}
use Rattle.std.proofs.lemmas.Grind.{flat_map-append}
use Rattle.std.proofs.lemmas.List.{map-append, length-append, length-map}
use lib.Utf8.{encode}
use Rattle.std.proofs.lemmas.Slice.Eq.{bytes_eq-Decides}
use Rattle.aplc_scalar.specs.declared.kind.FaultKind.{FaultKind}
use Rattle.aplc_scalar.specs.declared.kind.Kind.TheVariants.{Num}
use Rattle.aplc_scalar.specs.declared.function.ScalarFn.{ScalarFn}
use Rattle.aplc_scalar.specs.declared.function.ScalarFn.TheVariants as f
use Rattle.aplc_scalar.specs.Scalar.{Given, dyadic}
use Rattle.aplc_scalar.specs.Number.{number_text}
use Rattle.aplc_arr.specs.Arrays.{Array}
use Rattle.aplc_arr.specs.Delayed.{all_given}
use Rattle.aplc_arr.specs.Each.{each_dyadic, applied, extended}
use Rattle.aplc_arr.specs.Display.{shown}
use Rattle.aplc_syntax.specs.declared.tree.Primitive.{Primitive}
use Rattle.aplc_syntax.specs.declared.tree.Primitive.TheVariants as pr
use Rattle.aplc_syntax.specs.declared.tree.Line.{Line}
use Rattle.aplc_syntax.specs.declared.tree.Function.{Function}
use Rattle.aplc_syntax.specs.declared.tree.Program.{Program}
use Rattle.aplc_syntax.specs.declared.tree.Statement.{Statement}
use Rattle.aplc_syntax.specs.declared.tree.Statement.TheVariants as st
use Rattle.aplc_syntax.specs.Layout.{is_called}
use Rattle.aplc_syntax.specs.PlainTrees.{Tree, Numbers, Text, Name, TextInput, NumsInput, Mono, Dyad, Index, Assign, AssignAt, Show, Call, tree_of}
use Rattle.aplc_names.specs.Outlines.{outline, is_bare}
use Rattle.aplc_names.specs.Clashes.{is_start}
use Rattle.aplc_names.specs.Scopes.{starts, start_from}
use Rattle.aplc_names.specs.PlainPrograms.{Action, quiet_of, action_of, line_action, Routine, PlainProgram, title_in, routine_of, plain, no_routine}
use Rattle.aplc_names.specs.PlainPrograms as action
use Rattle.aplc_names.specs.States.{Place, at_line, World, State, Marking, Outcome, Gives, Faulted, Going, and_then, on_world, on_account, ended}
use Rattle.aplc_names.specs.Eager.{Context, Use, passed, displayed, filled, made, scalar, put, value, statement}
use Rattle.aplc_names.specs.Runs.{run_of, marks_of, started, line_at, from_line, context, run, run_main, initial}
use Rattle.aplc_names.specs.Runs as whole
use Rattle.aplc_names.specs.Sums.{Sum, number, apply, Task, nothing, quiet, display, dyad, alone, tree_sum, sum_of, task_of, with_task, tasks_of, main_function, tasks_in, main_tasks}
use Rattle.aplc_names.specs.Sums as sum
use Rattle.aplc_names.specs.SumEager as sums
use Rattle.aplc_names.specs.SumRuns as sumrun

-- ---- The value of a sum without its state

abbrev then_given : Given → (ℤ → Given) → Given
then_given (Ok z) next = next z
then_given (Err k) next = Err k

abbrev sum_value : Sum → Given
sum_value (number z) = Ok z
sum_value (apply g a b) = then_given (sum_value b) (λ y. then_given (sum_value a) (λ x. dyadic g x y))

alone_then : (r : Given) (q : ℤ → Given) (s : sums.State) (next : ℤ → sums.State → sums.Outcome ℤ) → ((z : ℤ) (t : sums.State) → next z t ≡ sums.given (q z) t) → sums.and_then (sums.given r s) next ≡ sums.given (then_given r q) s
alone_then (Ok z) q s next h = h z s
alone_then (Err k) q s next h = refl

value_is : (e : Sum) (s : sums.State) → sums.value e s ≡ sums.given (sum_value e) s
value_is (number z) s = refl
value_is (apply g a b) s =
    ap (λ o. sums.and_then o (λ y t. sums.and_then (sums.value a t) (λ x u. sums.given (dyadic g x y) u))) (value_is b s)
    ∙ alone_then (sum_value b) (λ y. then_given (sum_value a) (λ x. dyadic g x y)) s _ (λ y t. ap (λ o. sums.and_then o (λ x u. sums.given (dyadic g x y) u)) (value_is a t) ∙ alone_then (sum_value a) (λ x. dyadic g x y) t _ (λ x u. refl))

-- ---- The value of a tree that is a sum

-- a world as lines of sums see it
abbrev pub seen : World → sums.State
seen w = record { places = w.places; input = w.input; output = w.output; marks = w.marks; left = w.left }

-- an evaluation gives just this number, or faults so, and a sum sees no change in the world
abbrev ValueIs : Given → World → Outcome Array → Type 0
ValueIs (Ok z) w (Gives v t) = (v ≡ scalar z) × (seen t.world ≡ seen w)
ValueIs (Ok z) w (Faulted j t) = ⊥
ValueIs (Ok z) w (Going t) = ⊥
ValueIs (Err k) w (Gives v t) = ⊥
ValueIs (Err k) w (Faulted j t) = (j ≡ k) × (seen t.world ≡ seen w)
ValueIs (Err k) w (Going t) = ⊥

value_seen : (r : Given) (v w : World) (o : Outcome Array) → seen v ≡ seen w → ValueIs r v o → ValueIs r w o
value_seen (Ok z) v w (Gives a t) e h = (h.0, h.1 ∙ e)
value_seen (Ok z) v w (Faulted j t) e h = absurd h
value_seen (Ok z) v w (Going t) e h = absurd h
value_seen (Err k) v w (Gives a t) e h = absurd h
value_seen (Err k) v w (Faulted j t) e h = (h.0, h.1 ∙ e)
value_seen (Err k) v w (Going t) e h = absurd h

value_then : (r : Given) (q : ℤ → Given) (w : World) (o : Outcome Array) (next : Array → State → Outcome Array) → ValueIs r w o → ((z : ℤ) (t : State) → ValueIs (q z) t.world (next (scalar z) t)) → ValueIs (then_given r q) w (and_then o next)
value_then (Ok z) q w (Gives v t) next h g = value_seen (q z) t.world w (next v t) h.1 (subst (λ (a : Array). ValueIs (q z) t.world (next a t)) (sym h.0) (g z t))
value_then (Ok z) q w (Faulted j t) next h g = absurd h
value_then (Ok z) q w (Going t) next h g = absurd h
value_then (Err k) q w (Gives v t) next h g = absurd h
value_then (Err k) q w (Faulted j t) next h g = h
value_then (Err k) q w (Going t) next h g = absurd h

-- a scalar that is computed
filled_given : (c : Context) (i n : ℕ) (element : List ℕ → Given) (r : Given) (s : State) → ValueIs r s.world (filled c i n (record { kind = Num; shape = []; element = element }) (all_given (r ∷ [])) s)
filled_given c i n element (Ok z) s = (refl, refl)
filled_given c i n element (Err k) s = (refl, refl)

-- the functions that sums have
data Built : ScalarFn → Type 0 where
  adds : Built f.Add
  subtracts : Built f.Sub
  multiplies : Built f.Mul

made_given : (c : Context) (i : ℕ) (u : Use) (places applications : List ℕ → ℕ) (g : ScalarFn) → Built g → (x y : ℤ) (s : State) → ValueIs (dyadic g x y) s.world (made c i u places applications (each_dyadic g (scalar x) (scalar y)) s)
made_given c i u places applications _ adds x y s = filled_given c i _ (λ is. applied f.Add Num Num (extended (scalar x) [] is) (extended (scalar y) [] is)) (dyadic f.Add x y) _
made_given c i u places applications _ subtracts x y s = filled_given c i _ (λ is. applied f.Sub Num Num (extended (scalar x) [] is) (extended (scalar y) [] is)) (dyadic f.Sub x y) _
made_given c i u places applications _ multiplies x y s = filled_given c i _ (λ is. applied f.Mul Num Num (extended (scalar x) [] is) (extended (scalar y) [] is)) (dyadic f.Mul x y) _

-- a function at two sums
record Applied (g : Primitive) (x y : Option Sum) (e : Sum) : Type 0 where
  function : ScalarFn
  is : g ≡ pr.Scalar function
  built : Built function
  left : Sum
  right : Sum
  left_is : x ≡ Some left
  right_is : y ≡ Some right
  whole : e ≡ apply function left right

some_same : {A : Type 0} (x y : A) → Some x ≡ Some y → x ≡ y
some_same x y e = cc

both_there : (h : ScalarFn) → Built h → (x y : Option Sum) (e : Sum) → sum.applied h x y ≡ Some e → Applied (pr.Scalar h) x y e
both_there h b (Some l) (Some r) e q = record { function = h; is = refl; built = b; left = l; right = r; left_is = refl; right_is = refl; whole = sym (some_same (apply h l r) e q) }
both_there h b (Some l) None e q = absurd cc
both_there h b None y e q = absurd cc

applied_parts : (g : Primitive) (x y : Option Sum) (e : Sum) → dyad g x y ≡ Some e → Applied g x y e
applied_parts (pr.Scalar f.Add) x y e h = both_there f.Add adds x y e h
applied_parts (pr.Scalar f.Sub) x y e h = both_there f.Sub subtracts x y e h
applied_parts (pr.Scalar f.Mul) x y e h = both_there f.Mul multiplies x y e h
applied_parts _ x y e h = absurd cc

literal_sum : (c : Context) (i p : ℕ) (xs : List ℤ) (u : Use) (e : Sum) (s : State) → alone xs ≡ Some e → ValueIs (sum_value e) s.world (value c (Numbers i p xs) u s)
literal_sum c i p [] u e s h = absurd cc
literal_sum c i p (x ∷ []) u e s h = subst (λ (e : Sum). ValueIs (sum_value e) s.world (value c (Numbers i p (x ∷ [])) u s)) (some_same (number x) e h) (refl, refl)
literal_sum c i p (x ∷ y ∷ xs) u e s h = absurd cc

-- a tree is this sum: its evaluation comes to the sum's value
abbrev Evaluates : Context → Tree → Sum → Type 0
Evaluates c t e = (u : Use) (s : State) → ValueIs (sum_value e) s.world (value c t u s)

dyad_sum : (c : Context) (i p : ℕ) (g : ScalarFn) → Built g → (a b : Tree) (l r : Sum) → Evaluates c a l → Evaluates c b r → Evaluates c (Dyad i p (pr.Scalar g) a b) (apply g l r)
dyad_sum c i p g built a b l r left right u s =
    value_then (sum_value r) (λ y. then_given (sum_value l) (λ x. dyadic g x y)) s.world (value c b passed s) _ (right passed s) (λ y t.
    value_then (sum_value l) (λ x. dyadic g x y) t.world (value c a passed t) _ (left passed t) (λ x z. made_given c i u _ _ g built x y z))

value_sum : (c : Context) (t : Tree) (e : Sum) → tree_sum t ≡ Some e → Evaluates c t e
value_sum c (Numbers i p xs) e h u s = literal_sum c i p xs u e s h
value_sum c (Dyad i p g a b) e h u s =
    let q = applied_parts g (tree_sum a) (tree_sum b) e h in
    subst (λ (g : Primitive). ValueIs (sum_value e) s.world (value c (Dyad i p g a b) u s)) (sym q.is)
    (subst (λ (e : Sum). ValueIs (sum_value e) s.world (value c (Dyad i p (pr.Scalar q.function) a b) u s)) (sym q.whole)
    (dyad_sum c i p q.function q.built a b q.left q.right (value_sum c a q.left q.left_is) (value_sum c b q.right q.right_is) u s))
value_sum c (Text i p cs) e h u s = absurd cc
value_sum c (Name i p n) e h u s = absurd cc
value_sum c (TextInput i p) e h u s = absurd cc
value_sum c (NumsInput i p) e h u s = absurd cc
value_sum c (Mono i p g a) e h u s = absurd cc
value_sum c (Index i p a xs) e h u s = absurd cc
value_sum c (Assign i p n a) e h u s = absurd cc
value_sum c (AssignAt i p n xs a) e h u s = absurd cc
value_sum c (Show i p a) e h u s = absurd cc
value_sum c (Call i p n a b) e h u s = absurd cc

-- ---- The display of a number

glyph_plain : (d : ℕ) → d < 10 → encode_utf8 (digit_glyph false d) ≡ digit_glyph false d ∷ []
glyph_plain d below = by_test (nat_lt d 10)
  where
    by_test : (b : Bool) → encode_utf8 (if b then 48 + d else 87 + d) ≡ (if b then 48 + d else 87 + d) ∷ []
    by_test true = encode_ascii (48 + d) (omega (arith, below))
    by_test false = encode_ascii (87 + d) (omega (arith, below))

plain_onto : (k n : ℕ) (more : List ℕ) → flat_map encode_utf8 more ≡ more → flat_map encode_utf8 (digits_onto k 10 false n more) ≡ digits_onto k 10 false n more
plain_onto zero n more h = h
plain_onto (suc k) n more h = by_test (n / 10 == 0) (λ more h. plain_onto k (n / 10) more h)
  where
    digit : ℕ
    digit = digit_glyph false (n % 10)

    longer : flat_map encode_utf8 (digit ∷ more) ≡ digit ∷ more
    longer = ap (λ l. l ++ flat_map encode_utf8 more) (glyph_plain (n % 10) (omega arith)) ∙ ap (λ l. digit ∷ l) h

    by_test : (b : Bool) → ((more : List ℕ) → flat_map encode_utf8 more ≡ more → flat_map encode_utf8 (digits_onto k 10 false (n / 10) more) ≡ digits_onto k 10 false (n / 10) more) → flat_map encode_utf8 (if b then digit ∷ more else digits_onto k 10 false (n / 10) (digit ∷ more)) ≡ (if b then digit ∷ more else digits_onto k 10 false (n / 10) (digit ∷ more))
    by_test true later = longer
    by_test false later = later (digit ∷ more) longer

line_feed : encode_utf8 10 ≡ 10 ∷ []
line_feed = encode_ascii 10 (omega arith)

-- decimal digits are their own bytes, and so is a line feed behind them
plain_digits : (n : ℕ) → flat_map encode_utf8 (decimal n ++ 10 ∷ []) ≡ decimal n ++ 10 ∷ []
unfolding digits
plain_digits n = flat_map-append encode_utf8 (decimal n) (10 ∷ []) ∙ ap (λ l. l ++ flat_map encode_utf8 (10 ∷ [])) (plain_onto 64 n [] refl) ∙ ap (λ l. decimal n ++ (l ++ [])) line_feed

shown_number : (z : ℤ) → shown (scalar z) ≡ number_text z ++ 10 ∷ []
unfolding encode
shown_number (pos n) = plain_digits n
shown_number (negsuc n) = ap (λ l. encode_utf8 175 ++ l) (plain_digits (n + 1))

-- ---- Statements

abbrev Shown : Type 0
Shown = Result (List ℕ) FaultKind

abbrev silent : Given → Shown
silent (Ok z) = Ok []
silent (Err k) = Err k

abbrev texted : Given → Shown
texted (Ok z) = Ok (number_text z ++ 10 ∷ [])
texted (Err k) = Err k

-- the text that a task shows, or its fault
abbrev task_text : Task → Shown
task_text nothing = Ok []
task_text (quiet e) = silent (sum_value e)
task_text (display e) = texted (sum_value e)

abbrev with_text : List ℕ → sums.State → sums.State
with_text text s = record s { output = s.output ++ text }

abbrev told : Shown → sums.State → sums.Outcome (Unit {0})
told (Ok text) s = sums.Gives tt (with_text text s)
told (Err k) s = sums.Faulted k s

no_text : (s : sums.State) → s ≡ with_text [] s
no_text s = ap (λ (o : List ℕ). record s { output = o }) (sym (append-nil s.output))

quiet_told : (r : Given) (s : sums.State) → sums.and_then (sums.given r s) (λ v t. sums.Gives tt t) ≡ told (silent r) s
quiet_told (Ok z) s = ap (λ (t : sums.State). sums.Gives tt t) (no_text s)
quiet_told (Err k) s = refl

display_told : (r : Given) (s : sums.State) → sums.and_then (sums.given r s) sums.displayed ≡ told (texted r) s
display_told (Ok z) s = refl
display_told (Err k) s = refl

statement_is : (x : Task) (s : sums.State) → sums.statement x s ≡ told (task_text x) s
statement_is nothing s = ap (λ (t : sums.State). sums.Gives tt t) (no_text s)
statement_is (quiet e) s = ap (λ o. sums.and_then o (λ v t. sums.Gives tt t)) (value_is e s) ∙ quiet_told (sum_value e) s
statement_is (display e) s = ap (λ o. sums.and_then o sums.displayed) (value_is e s) ∙ display_told (sum_value e) s

-- a statement adds just this text to the output, or faults so
abbrev StatementIs : Shown → World → Outcome (Option ℕ) → Type 0
StatementIs (Ok text) w (Gives to t) = (to ≡ None) × (seen t.world ≡ with_text text (seen w))
StatementIs (Ok text) w (Faulted j t) = ⊥
StatementIs (Ok text) w (Going t) = ⊥
StatementIs (Err k) w (Gives to t) = ⊥
StatementIs (Err k) w (Faulted j t) = (j ≡ k) × (seen t.world ≡ seen w)
StatementIs (Err k) w (Going t) = ⊥

quiet_ends : (r : Given) (w : World) (o : Outcome Array) → ValueIs r w o → StatementIs (silent r) w (and_then o (λ v t. Gives None (on_account ended t)))
quiet_ends (Ok z) w (Gives v t) h = (refl, h.1 ∙ no_text (seen w))
quiet_ends (Ok z) w (Faulted j t) h = absurd h
quiet_ends (Ok z) w (Going t) h = absurd h
quiet_ends (Err k) w (Gives v t) h = absurd h
quiet_ends (Err k) w (Faulted j t) h = h
quiet_ends (Err k) w (Going t) h = absurd h

display_ends : (r : Given) (w : World) (o : Outcome Array) → ValueIs r w o → StatementIs (texted r) w (and_then o (λ v t. Gives None (on_account ended (put v t))))
display_ends (Ok z) w (Gives v t) h =
    (refl, ap (λ (l : List ℕ). with_text l (seen t.world)) (ap shown h.0 ∙ shown_number z) ∙ ap (with_text (number_text z ++ 10 ∷ [])) h.1)
display_ends (Ok z) w (Faulted j t) h = absurd h
display_ends (Ok z) w (Going t) h = absurd h
display_ends (Err k) w (Gives v t) h = absurd h
display_ends (Err k) w (Faulted j t) h = h
display_ends (Err k) w (Going t) h = absurd h

-- an action does what the task says
abbrev Acts : Task → Action → Type 0
Acts nothing action.nothing = Unit {0}
Acts (quiet e) (action.quiet t) = tree_sum t ≡ Some e
Acts (display e) (action.display t) = tree_sum t ≡ Some e
Acts _ _ = ⊥

statement_sum : (c : Context) (x : Task) (a : Action) → Acts x a → (s : State) → StatementIs (task_text x) s.world (statement c a s)
statement_sum c nothing action.nothing h s = (refl, no_text (seen s.world))
statement_sum c (quiet e) (action.quiet t) h s = quiet_ends (sum_value e) s.world (value c t passed s) (value_sum c t e h passed s)
statement_sum c (display e) (action.display t) h s = display_ends (sum_value e) s.world (value c t displayed s) (value_sum c t e h displayed s)
statement_sum c nothing (action.quiet t) h s = absurd h
statement_sum c nothing (action.perform i p n a b) h s = absurd h
statement_sum c nothing (action.display t) h s = absurd h
statement_sum c nothing (action.branch p t) h s = absurd h
statement_sum c (quiet e) action.nothing h s = absurd h
statement_sum c (quiet e) (action.perform i p n a b) h s = absurd h
statement_sum c (quiet e) (action.display t) h s = absurd h
statement_sum c (quiet e) (action.branch p t) h s = absurd h
statement_sum c (display e) action.nothing h s = absurd h
statement_sum c (display e) (action.perform i p n a b) h s = absurd h
statement_sum c (display e) (action.quiet t) h s = absurd h
statement_sum c (display e) (action.branch p t) h s = absurd h

-- ---- Lines

-- from line l on the actions do what the tasks say, and then there is no line
abbrev LinesAct : List Action → ℕ → List Task → Type 0
LinesAct fl l [] = line_at fl l ≡ None
LinesAct fl l (x ∷ xs) = (a : Action) × (line_at fl l ≡ Some a) × Acts x a × LinesAct fl (l + 1) xs

-- what follows a statement
line_then : (r : Shown) (w : World) (o : Outcome (Option ℕ)) (next : Option ℕ → State → Outcome (Option Array)) (rest : sums.State → sums.Outcome (Unit {0})) → StatementIs r w o → ((t : State) → t.world.left ≡ w.left → run_of (next None t) ≡ sumrun.run_of (rest (seen t.world))) → run_of (and_then o next) ≡ sumrun.run_of (sums.and_then (told r (seen w)) (λ done z. rest z))
line_then (Ok text) w (Gives to t) next rest h q =
    ap (λ (to : Option ℕ). run_of (next to t)) h.0 ∙ q t (ap (λ (z : sums.State). z.left) h.1) ∙ ap (λ (z : sums.State). sumrun.run_of (rest z)) h.1
line_then (Ok text) w (Faulted j t) next rest h q = absurd h
line_then (Ok text) w (Going t) next rest h q = absurd h
line_then (Err k) w (Gives to t) next rest h q = absurd h
line_then (Err k) w (Faulted j t) next rest h q =
    ap (λ (z : sums.State). whole.Faulted z.output z.marks j z.places) h.1 ∙ ap (λ (k : FaultKind). whole.Faulted w.output w.marks k w.places) h.0
line_then (Err k) w (Going t) next rest h q = absurd h

marks_same : (x : Task) (a : Action) → Acts x a → (q : Place) → marks_of a q ≡ sums.marks_of x q
marks_same nothing action.nothing h q = refl
marks_same (quiet e) (action.quiet t) h q = refl
marks_same (display e) (action.display t) h q = refl
marks_same nothing (action.quiet t) h q = absurd h
marks_same nothing (action.perform i p n a b) h q = absurd h
marks_same nothing (action.display t) h q = absurd h
marks_same nothing (action.branch p t) h q = absurd h
marks_same (quiet e) action.nothing h q = absurd h
marks_same (quiet e) (action.perform i p n a b) h q = absurd h
marks_same (quiet e) (action.display t) h q = absurd h
marks_same (quiet e) (action.branch p t) h q = absurd h
marks_same (display e) action.nothing h q = absurd h
marks_same (display e) (action.perform i p n a b) h q = absurd h
marks_same (display e) (action.quiet t) h q = absurd h
marks_same (display e) (action.branch p t) h q = absurd h

started_same : (l : ℕ) (x : Task) (a : Action) (n : ℕ) (w : World) → Acts x a → w.left ≡ suc n → seen (started l a n w) ≡ sums.started l x (seen w)
started_same l x a n w h e =
    ap (λ (m : List Place). record (seen w) { places = at_line l w.places; marks = w.marks ++ m; left = n }) (marks_same x a h (at_line l w.places).here)
    ∙ ap (λ (k : ℕ). record (seen w) { places = at_line l w.places; marks = w.marks ++ sums.marks_of x (at_line l w.places).here; left = k }) (omega (arith, e))

-- the lines from number l on, where n may start
abbrev sums_from : ℕ → ℕ → Task → List Task → sums.State → sums.Outcome (Unit {0})
sums_from n l x xs z = if nat_eq n 0 then sums.Going z else sums.and_then (sums.statement x (sums.started l x z)) (λ done t. sums.lines_from (l + 1) xs t)

lines_same : (p : PlainProgram) (m : Marking) (g : Routine) (xs : List Task) (l k : ℕ) (s : State) → LinesAct g.lines l xs → s.world.left < k → run_of (run p m k g l s) ≡ sumrun.run_of (sums.lines_from l xs (seen s.world))
lines_same p m g xs l zero s h below = absurd (omega (arith, below))
lines_same p m g [] l (suc k) s h below = ap (λ (a : Option Action). run_of (from_line (context p m (run p m k) g) g (run p m k g) l a s.world.left s)) h
lines_same p m g (x ∷ xs) l (suc k) s h below =
    ap (λ (a : Option Action). run_of (from_line (context p m (run p m k) g) g (run p m k g) l a s.world.left s)) h.1
    ∙ by_left s.world.left refl (λ u below. lines_same p m g xs (l + 1) k u h.3 below)
  where
    by_left : (n : ℕ) → s.world.left ≡ n → ((u : State) → u.world.left < k → run_of (run p m k g (l + 1) u) ≡ sumrun.run_of (sums.lines_from (l + 1) xs (seen u.world))) → run_of (from_line (context p m (run p m k) g) g (run p m k g) l (Some h.0) n s) ≡ sumrun.run_of (sums_from n l x xs (seen s.world))
    by_left zero e later = refl
    by_left (suc n) e later =
        let t : State = on_world (started l h.0 n) s in
        let some : nat_eq (suc n) 0 ≡ false = ne_eqb (suc n) 0 (λ (q : suc n ≡ 0). omega (arith, q)) in
        line_then (task_text x) t.world (statement (context p m (run p m k) g) h.0 t) _ (sums.lines_from (l + 1) xs) (statement_sum (context p m (run p m k) g) x h.0 h.2 t) (λ u left. later u (omega (arith, left, e, below)))
        ∙ ap (λ (z : sums.State). sumrun.run_of (sums.and_then (told (task_text x) z) (λ done z. sums.lines_from (l + 1) xs z))) (started_same l x h.0 n s.world h.2 e)
        ∙ ap (λ (o : sums.Outcome (Unit {0})). sumrun.run_of (sums.and_then o (λ done z. sums.lines_from (l + 1) xs z))) (sym (statement_is x (sums.started l x (seen s.world))))
        ∙ ap (λ (b : Bool). sumrun.run_of (if b then sums.Going (seen s.world) else sums.and_then (sums.statement x (sums.started l x (seen s.world))) (λ done z. sums.lines_from (l + 1) xs z))) (sym some)

-- ---- The lines of MAIN

get_end : {A : Type 0} (before : List A) (x : A) (rest : List A) → slice_get (before ++ x ∷ rest) (length before) ≡ Some x
get_end [] x rest = refl
get_end (y ∷ ys) x rest = get_end ys x rest

get_past : {A : Type 0} (xs : List A) → slice_get xs (length xs) ≡ None
get_past [] = refl
get_past (x ∷ xs) = get_past xs

abbrev AllAct : List Task → List Action → Type 0
AllAct [] [] = Unit {0}
AllAct [] (a ∷ more) = ⊥
AllAct (x ∷ xs) [] = ⊥
AllAct (x ∷ xs) (a ∷ more) = Acts x a × AllAct xs more

lines_act : (fl before rest : List Action) (xs : List Task) → fl ≡ before ++ rest → AllAct xs rest → LinesAct fl (suc (length before)) xs
lines_act fl before [] [] e h = ap (λ (ys : List Action). slice_get ys (length before)) (e ∙ append-nil before) ∙ get_past before
lines_act fl before (a ∷ rest) [] e h = absurd h
lines_act fl before [] (x ∷ xs) e h = absurd h
lines_act fl before (a ∷ rest) (x ∷ xs) e h = (
  a,
  ap (λ (ys : List Action). slice_get ys (length before)) e ∙ get_end before a rest,
  h.0,
  subst (λ (l : ℕ). LinesAct fl l xs) (omega (arith, length-append before (a ∷ [])))
      (lines_act fl (before ++ a ∷ []) rest xs (e ∙ sym (append_assoc before (a ∷ []) rest)) h.1),
)

statement_acts : (q : Statement) (x : Task) → task_of q ≡ Some x → Acts x (action_of q)
statement_acts st.Empty x h = subst (λ (x : Task). Acts x action.nothing) (some_same nothing x h) tt
statement_acts (st.Quiet n) x h = quiet_acts (tree_of n) (tree_sum (tree_of n)) refl x h
  where
    quiet_acts : (t : Tree) (o : Option Sum) → tree_sum t ≡ o → (x : Task) → option_map quiet o ≡ Some x → Acts x (quiet_of t)
    quiet_acts t None e x h = absurd cc
    quiet_acts t (Some s) e x h = subst (λ (x : Task). Acts x (quiet_of t)) (some_same (quiet s) x h) (quiet_sum t s e)
      where
        quiet_sum : (t : Tree) (s : Sum) → tree_sum t ≡ Some s → Acts (quiet s) (quiet_of t)
        quiet_sum (Numbers i p xs) s e = e
        quiet_sum (Dyad i p g a b) s e = e
        quiet_sum (Text i p cs) s e = absurd cc
        quiet_sum (Name i p n) s e = absurd cc
        quiet_sum (TextInput i p) s e = absurd cc
        quiet_sum (NumsInput i p) s e = absurd cc
        quiet_sum (Mono i p g a) s e = absurd cc
        quiet_sum (Index i p a xs) s e = absurd cc
        quiet_sum (Assign i p n a) s e = absurd cc
        quiet_sum (AssignAt i p n xs a) s e = absurd cc
        quiet_sum (Show i p a) s e = absurd cc
        quiet_sum (Call i p n a b) s e = absurd cc
statement_acts (st.Display n) x h = display_acts (tree_of n) (tree_sum (tree_of n)) refl x h
  where
    display_acts : (t : Tree) (o : Option Sum) → tree_sum t ≡ o → (x : Task) → option_map display o ≡ Some x → Acts x (action.display t)
    display_acts t None e x h = absurd cc
    display_acts t (Some s) e x h = subst (λ (x : Task). Acts x (action.display t)) (some_same (display s) x h) e
statement_acts (st.Branch p n) x h = absurd cc

tasks_act : (ls : List Line) (xs : List Task) → tasks_of ls ≡ Some xs → AllAct xs (map line_action ls)
tasks_act [] xs h = subst (λ (xs : List Task). AllAct xs []) (some_same [] xs h) tt
tasks_act (l ∷ ls) xs h = both (task_of l.statement) (tasks_of ls) refl refl xs h (λ ys e. tasks_act ls ys e)
  where
    both : (o : Option Task) (q : Option (List Task)) → task_of l.statement ≡ o → tasks_of ls ≡ q → (xs : List Task) → with_task o q ≡ Some xs → ((ys : List Task) → tasks_of ls ≡ Some ys → AllAct ys (map line_action ls)) → AllAct xs (line_action l ∷ map line_action ls)
    both (Some x) (Some ys) e g xs h later = subst (λ (xs : List Task). AllAct xs (line_action l ∷ map line_action ls)) (some_same (x ∷ ys) xs h) (statement_acts l.statement x e, later ys g)
    both (Some x) None e g xs h later = absurd cc
    both None q e g xs h later = absurd cc

-- ---- MAIN

started_by : (ns : List (List ℕ)) (g : Function → Routine) (before rest : List Function) (f : Function) → find (λ (f : Function). is_start ns (outline f)) rest ≡ Some f → option_and_then (slice_get (map g (before ++ rest))) (start_from ns (length before) rest) ≡ Some (g f)
started_by ns g before [] f h = absurd cc
started_by ns g before (x ∷ rest) f h = by_test (starts ns x) h (started_by ns g (before ++ x ∷ []) rest f)
  where
    one_more : length before + 1 ≡ length (before ++ x ∷ [])
    one_more = omega (arith, length-append before (x ∷ []))

    by_test : (b : Bool) → (if b then Some x else find (λ (f : Function). is_start ns (outline f)) rest) ≡ Some f → (find (λ (f : Function). is_start ns (outline f)) rest ≡ Some f → option_and_then (slice_get (map g ((before ++ x ∷ []) ++ rest))) (start_from ns (length (before ++ x ∷ [])) rest) ≡ Some (g f)) → option_and_then (slice_get (map g (before ++ x ∷ rest))) (if b then Some (length before) else start_from ns (length before + 1) rest) ≡ Some (g f)
    by_test true e later = ap (λ (ys : List Routine). slice_get ys (length before)) (map-append g before (x ∷ rest)) ∙ ap (λ (n : ℕ). slice_get (map g before ++ g x ∷ map g rest) n) (sym (length-map before g)) ∙ get_end (map g before) (g x) (map g rest) ∙ ap (λ (x : Function). Some (g x)) (some_same x f e)
    by_test false e later =
        ap (λ (n : ℕ). option_and_then (slice_get (map g (before ++ x ∷ rest))) (start_from ns n rest)) one_more
        ∙ ap (λ (ys : List Function). option_and_then (slice_get (map g ys)) (start_from ns (length (before ++ x ∷ [])) rest)) (sym (append_assoc before (x ∷ []) rest))
        ∙ later e

starts_there : (ns : List (List ℕ)) (fs : List Function) (f : Function) → find (λ (f : Function). is_start ns (outline f)) fs ≡ Some f → starts ns f ≡ true
starts_there ns [] f h = absurd cc
starts_there ns (x ∷ fs) f h = by_test (starts ns x) refl h (starts_there ns fs f)
  where
    by_test : (b : Bool) → starts ns x ≡ b → (if b then Some x else find (λ (f : Function). is_start ns (outline f)) fs) ≡ Some f → (find (λ (f : Function). is_start ns (outline f)) fs ≡ Some f → starts ns f ≡ true) → starts ns f ≡ true
    by_test true e q later = subst (λ (y : Function). starts ns y ≡ true) (some_same x f q) e
    by_test false e q later = later q

first_holds : (a b : Bool) → a && b ≡ true → a ≡ true
first_holds true b e = refl
first_holds false b e = e

called_so : (ns : List (List ℕ)) (n : ℕ) (name : List ℕ) → is_called ns n name ≡ true → title_in ns n ≡ name
called_so ns n name e = by_name (slice_get ns n) refl
  where
    by_name : (o : Option (List ℕ)) → slice_get ns n ≡ o → title_in ns n ≡ name
    by_name None q = absurd cc
    by_name (Some bs) q = ap (λ (o : Option (List ℕ)). unwrap_or o []) q ∙ (bytes_eq-Decides bs name).0 cc

-- the run of a MAIN of sums is that of the whole program
pub sums_run : (p : Program) (xs : List Task) → main_tasks p ≡ Some xs → (m : Marking) (input : List ℕ) (n : ℕ) → sumrun.eager xs input n ≡ whole.eager (plain p) m input n
unfolding whole.eager sumrun.eager
sums_run p xs h m input n = by_main (main_function p) refl h
  where
    by_main : (o : Option Function) → main_function p ≡ o → tasks_in o ≡ Some xs → sumrun.eager xs input n ≡ whole.eager (plain p) m input n
    by_main None e h = absurd cc
    by_main (Some f) e h =
        let g = routine_of p f in
        let title : g.title ≡ codes "MAIN" = called_so p.names f.name.name.0 (codes "MAIN") (first_holds (is_called p.names f.name.name.0 (codes "MAIN")) (is_bare f) (starts_there p.names p.functions f e)) in
        let s : State = initial g input n in
        sym (ap (λ (o : Option Routine). run_of (run_main (plain p) m input n (unwrap_or o no_routine))) (started_by p.names (routine_of p) [] p.functions f e)
        ∙ lines_same (plain p) m g xs 1 (n + 1) s (lines_act g.lines [] g.lines xs refl (tasks_act f.lines xs h)) (omega arith)
        ∙ ap (λ (t : List ℕ). sumrun.run_of (sums.lines_from 1 xs (record (sumrun.initial input n) { places = record { here = record { function = t; line = 0 }; behind = [] } }))) title)

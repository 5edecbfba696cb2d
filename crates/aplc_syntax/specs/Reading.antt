-- Reading a statement in one pass from the left: a mode, what waits, and the steps sent out so far.
use Rattle.std.specs.Prelude.{ℕ, List, [], ◌∷◌, ◌++◌, ℤ, Option, Some, None, option_and_then}
use Rattle.aplc_scalar.specs.declared.function.ScalarFn.{ScalarFn}
use Rattle.aplc_scalar.specs.declared.function.ScalarFn.TheVariants as f
use Rattle.aplc_syntax.specs.declared.tree.Axis.{Axis}
use Rattle.aplc_syntax.specs.declared.tree.Axis.TheVariants as ax
use Rattle.aplc_syntax.specs.declared.tree.Primitive.TheVariants as pr
use Rattle.aplc_syntax.specs.declared.step.Step.{Step}
use Rattle.aplc_syntax.specs.declared.step.Step.TheVariants as s
use Rattle.aplc_syntax.specs.declared.step.Waiting.{Waiting}
use Rattle.aplc_syntax.specs.declared.step.Waiting.TheVariants as o
use Rattle.aplc_syntax.specs.declared.step.Inner.{Inner}
use Rattle.aplc_syntax.specs.declared.step.Inner.TheVariants as i
use Rattle.aplc_syntax.specs.declared.step.Target.{Target}
use Rattle.aplc_syntax.specs.declared.step.Target.TheVariants as t
use Rattle.aplc_syntax.specs.declared.step.Along.{Along}
use Rattle.aplc_syntax.specs.declared.step.Along.TheVariants as al
use Rattle.aplc_syntax.specs.declared.step.Mode.{Mode}
use Rattle.aplc_syntax.specs.declared.step.Mode.TheVariants as m
use Rattle.aplc_syntax.specs.declared.word.Arity.TheVariants as arity
use Rattle.aplc_syntax.specs.declared.word.Role.TheVariants as role
use Rattle.aplc_syntax.specs.declared.word.Word.{Word}
use Rattle.aplc_syntax.specs.declared.word.WordKind.{WordKind}
use Rattle.aplc_syntax.specs.declared.word.WordKind.TheVariants as w
use Rattle.aplc_syntax.specs.Trees.{reduction, copying}

pub record State : Type 0 where
  pub mode : Mode
  pub ops : List Waiting
  pub out : List Step

abbrev pub state : Mode → List Waiting → List Step → State
state mode ops out = record { mode = mode; ops = ops; out = out }

abbrev pub at : Mode → List Waiting → List Step → Option State
at mode ops out = Some (state mode ops out)

-- a value is wanted, and then this step
abbrev pub wait : Step → List Waiting → List Step → Option State
wait x ops out = at m.Want (o.Apply x ∷ ops) out

-- what waits down to the innermost bracket goes out
abbrev pub flush : List Waiting → List Step → List Waiting × List Step
flush [] out = ([], out)
flush (o.Apply x ∷ ops) out = flush ops (out ++ x ∷ [])
flush (o.Paren ∷ ops) out = (o.Paren ∷ ops, out)
flush (o.Bracket p x ∷ ops) out = (o.Bracket p x ∷ ops, out)

abbrev pub close_paren : List Waiting × List Step → Option State
close_paren (o.Paren ∷ ops, out) = at (m.After t.No) ops (out ++ s.Paren ∷ [])
close_paren _ = None

-- behind the list of a name that may be, or must be, assigned
abbrev pub outer : Inner → Mode
outer i.Free = m.After t.No
outer i.Base = m.After t.At
outer i.Owed = m.Must

-- the last entry of a list
abbrev pub close_bracket : Step → List Waiting × List Step → Option State
close_bracket final (o.Bracket p x ∷ ops, out) = at (outer x) ops ((out ++ final ∷ []) ++ s.Index p ∷ [])
close_bracket final _ = None

-- another entry of a list
abbrev pub next_entry : Step → List Waiting × List Step → Option State
next_entry final (o.Bracket p x ∷ ops, out) = at m.Start (o.Bracket p x ∷ ops) (out ++ final ∷ [])
next_entry final _ = None

abbrev pub want : WordKind → ℕ → List Waiting → List Step → Option State
want (w.Number v) p ops out = at (m.After t.Numbers) ops (out ++ s.Number p v ∷ [])
want (w.Text to) p ops out = at (m.After t.No) ops (out ++ s.Text p to ∷ [])
want w.TextInput p ops out = at (m.After t.No) ops (out ++ s.TextInput p ∷ [])
want w.NumsInput p ops out = at (m.After t.No) ops (out ++ s.NumsInput p ∷ [])
want (w.Name role.Variable n) p ops out = at (m.After t.Name) ops (out ++ s.Name p n ∷ [])
want (w.Name (role.Function arity.Niladic) n) p ops out = at (m.After t.Name) ops (out ++ s.Call0 p n ∷ [])
want (w.Name (role.Function arity.Monadic) n) p ops out = at (m.Fun p n) ops out
want (w.Name (role.Function arity.Dyadic) n) p ops out = at (m.Only p n) ops out
want (w.Name (role.Procedure a) n) p ops out = at (m.Only p n) ops out
want (w.Arith g) p ops out = at (m.Scalar p g) ops out
want (w.Compare g) p ops out = at (m.Compare p g) ops out
want w.Not p ops out = wait (s.Mono p (pr.Scalar f.Not)) ops out
want (w.Both g) p ops out = wait (s.Mono p g) ops out
want (w.Turn a) p ops out = at (m.Along (al.Turn1 p) a) ops out
want w.Open p ops out = at m.Want (o.Paren ∷ ops) out
want w.Quad p ops out = at (m.Quad p) ops out
want _ p ops out = None

abbrev pub begin : WordKind → ℕ → List Waiting → List Step → Option State
begin w.Branch p ops out = wait (s.Branch p) ops out
begin (w.Name (role.Procedure arity.Niladic) n) p ops out = at (m.Proc0 p n) ops out
begin (w.Name (role.Procedure arity.Monadic) n) p ops out = at (m.Proc1 p n) ops out
begin x p ops out = want x p ops out

abbrev pub start : WordKind → ℕ → List Waiting → List Step → Option State
start w.Semicolon p ops out = next_entry s.Gap (ops, out)
start w.CloseBracket p ops out = close_bracket s.Gap (ops, out)
start x p ops out = want x p ops out

abbrev pub more : Target → ℤ → List Waiting → List Step → Option State
more t.Numbers v ops out = at (m.After t.Numbers) ops (out ++ s.More v ∷ [])
more _ v ops out = None

abbrev pub arrow : Target → List Waiting → List Step → Option State
arrow t.Name ops out = wait s.Assign ops out
arrow t.At ops out = wait s.AssignAt ops out
arrow _ ops out = None

abbrev pub inner : Target → Inner
inner t.Name = i.Base
inner _ = i.Free

-- a procedure of two arguments takes the operand that the statement begins with
abbrev pub perform : ℕ → ℕ → List Waiting → List Step → Option State
perform p n [] out = wait (s.Perform2 p n) [] out
perform p n (x ∷ ops) out = None

abbrev pub after : WordKind → ℕ → Target → List Waiting → List Step → Option State
after (w.Number v) p tg ops out = more tg v ops out
after (w.Arith g) p tg ops out = at (m.Scalar2 p g) ops out
after (w.Compare g) p tg ops out = at (m.Scalar2 p g) ops out
after (w.Both g) p tg ops out = wait (s.Dyad p g) ops out
after (w.Dyadic g) p tg ops out = wait (s.Dyad p g) ops out
after (w.Turn a) p tg ops out = at (m.Along (al.Turn2 p) a) ops out
after (w.Stroke k a) p tg ops out = at (m.Along (al.Copies p k) a) ops out
after w.Jot p tg ops out = at (m.Jot p) ops out
after (w.Name (role.Function arity.Dyadic) n) p tg ops out = wait (s.Call2 p n) ops out
after (w.Name (role.Procedure arity.Dyadic) n) p tg ops out = perform p n ops out
after w.Close p tg ops out = close_paren (flush ops out)
after w.OpenBracket p tg ops out = at m.Start (o.Bracket p (inner tg) ∷ ops) (out ++ s.List ∷ [])
after w.CloseBracket p tg ops out = close_bracket s.Entry (flush ops out)
after w.Semicolon p tg ops out = next_entry s.Entry (flush ops out)
after w.Assign p tg ops out = arrow tg ops out
after _ p tg ops out = None

abbrev pub must : WordKind → List Waiting → List Step → Option State
must w.Assign ops out = wait s.AssignAt ops out
must _ ops out = None

-- name n at place p is assigned, or else something comes that is not read so
abbrev pub only : WordKind → ℕ → ℕ → ℕ → List Waiting → List Step → Option State
only w.Assign q p n ops out = wait s.Assign ops (out ++ s.Name p n ∷ [])
only w.OpenBracket q p n ops out = at m.Start (o.Bracket q i.Owed ∷ ops) ((out ++ s.Name p n ∷ []) ++ s.List ∷ [])
only _ q p n ops out = None

-- name n at place p is assigned, or this step waits for a value
abbrev pub applied : Step → WordKind → ℕ → ℕ → ℕ → List Waiting → List Step → Option State
applied x w.Assign q p n ops out = only w.Assign q p n ops out
applied x w.OpenBracket q p n ops out = only w.OpenBracket q p n ops out
applied x k q p n ops out = want k q (o.Apply x ∷ ops) out

abbrev pub scalar : WordKind → ℕ → ℕ → ScalarFn → List Waiting → List Step → Option State
scalar (w.Stroke k a) q p g ops out = at (m.Along (al.Reduce p g k) a) ops out
scalar x q p g ops out = want x q (o.Apply (s.Mono p (pr.Scalar g)) ∷ ops) out

abbrev pub stroked : WordKind → ℕ → ScalarFn → List Waiting → List Step → Option State
stroked (w.Stroke k a) p g ops out = at (m.Along (al.Reduce p g k) a) ops out
stroked _ p g ops out = None

abbrev pub dotted : WordKind → ℕ → ℕ → ScalarFn → List Waiting → List Step → Option State
dotted w.Dot q p g ops out = at (m.Dot p g) ops out
dotted x q p g ops out = want x q (o.Apply (s.Dyad p (pr.Scalar g)) ∷ ops) out

abbrev pub product : WordKind → ℕ → ScalarFn → List Waiting → List Step → Option State
product (w.Arith h) p g ops out = wait (s.Dyad p (pr.Inner g h)) ops out
product (w.Compare h) p g ops out = wait (s.Dyad p (pr.Inner g h)) ops out
product _ p g ops out = None

abbrev pub jot : WordKind → ℕ → List Waiting → List Step → Option State
jot w.Dot p ops out = at (m.JotDot p) ops out
jot _ p ops out = None

abbrev pub pairs : WordKind → ℕ → List Waiting → List Step → Option State
pairs (w.Arith g) p ops out = wait (s.Dyad p (pr.Outer g)) ops out
pairs (w.Compare g) p ops out = wait (s.Dyad p (pr.Outer g)) ops out
pairs _ p ops out = None

-- the step of a function along this axis
abbrev pub along : Along → Axis → Step
along (al.Turn1 p) a = s.Mono p (pr.Reverse a)
along (al.Turn2 p) a = s.Dyad p (pr.Reverse a)
along (al.Reduce p g k) a = s.Mono p (reduction k g a)
along (al.Copies p k) a = s.Dyad p (copying k a)

abbrev pub named_axis : WordKind → ℕ → Along → Axis → List Waiting → List Step → Option State
named_axis w.OpenBracket q x a ops out = at (m.Axis x) ops out
named_axis k q x a ops out = want k q (o.Apply (along x a) ∷ ops) out

abbrev pub axis_number : WordKind → Along → List Waiting → List Step → Option State
axis_number (w.Number v) x ops out = at (m.Axed x v) ops out
axis_number _ x ops out = None

abbrev pub axis_end : WordKind → Along → ℤ → List Waiting → List Step → Option State
axis_end w.CloseBracket x v ops out = wait (along x (ax.At v)) ops out
axis_end _ x v ops out = None

abbrev pub quad : WordKind → ℕ → List Waiting → List Step → Option State
quad w.Assign p ops out = wait (s.Show p) ops out
quad _ p ops out = None

-- one word more
abbrev pub step : Mode → WordKind → ℕ → List Waiting → List Step → Option State
step m.Begin k q ops out = begin k q ops out
step m.Want k q ops out = want k q ops out
step m.Start k q ops out = start k q ops out
step (m.After tg) k q ops out = after k q tg ops out
step m.Must k q ops out = must k ops out
step (m.Fun p n) k q ops out = applied (s.Call1 p n) k q p n ops out
step (m.Only p n) k q ops out = only k q p n ops out
step (m.Proc0 p n) k q ops out = only k q p n ops out
step (m.Proc1 p n) k q ops out = applied (s.Perform1 p n) k q p n ops out
step (m.Scalar p g) k q ops out = scalar k q p g ops out
step (m.Compare p g) k q ops out = stroked k p g ops out
step (m.Scalar2 p g) k q ops out = dotted k q p g ops out
step (m.Dot p g) k q ops out = product k p g ops out
step (m.Jot p) k q ops out = jot k p ops out
step (m.JotDot p) k q ops out = pairs k p ops out
step (m.Along x a) k q ops out = named_axis k q x a ops out
step (m.Axis x) k q ops out = axis_number k x ops out
step (m.Axed x v) k q ops out = axis_end k x v ops out
step (m.Quad p) k q ops out = quad k p ops out

abbrev pub step_of : Word → State → Option State
step_of x st = step st.mode x.kind x.place st.ops st.out

abbrev pub whole : List Waiting × List Step → Option (List Step)
whole ([], out) = Some out
whole _ = None

-- the end of a statement
abbrev pub finish_in : Mode → List Waiting → List Step → Option (List Step)
finish_in (m.After tg) ops out = whole (flush ops out)
finish_in (m.Proc0 p n) ops out = whole (ops, out ++ s.Perform0 p n ∷ [])
finish_in _ ops out = None

abbrev pub finish : State → Option (List Step)
finish st = finish_in st.mode st.ops st.out

abbrev pub run : List Word → State → Option (List Step)
run [] st = finish st
run (x ∷ xs) st = option_and_then (run xs) (step_of x st)

-- the steps of a statement, if the words are one
unfoldable pub reads : List Word → Option (List Step)
reads ws = run ws (state m.Begin [] [])

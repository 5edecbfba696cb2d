-- What the grammar spells is read as its steps.
use Rattle.std.proofs.Common.{◌≡◌, ℕ, List, [], ◌∷◌, ◌++◌, Option, Some, refl, sym, ap, ◌∙◌, Bool, true, false}
use Rattle.std.specs.Prelude.{option_and_then}
use Rattle.aplc_scalar.specs.declared.function.ScalarFn.{ScalarFn}
use Rattle.aplc_syntax.specs.declared.tree.Axis.{Axis}
use Rattle.aplc_syntax.specs.declared.tree.Primitive.TheVariants as pr
use Rattle.aplc_syntax.specs.declared.step.Step.{Step}
use Rattle.aplc_syntax.specs.declared.step.Step.TheVariants as s
use Rattle.aplc_syntax.specs.declared.step.Waiting.{Waiting}
use Rattle.aplc_syntax.specs.declared.step.Waiting.TheVariants as o
use Rattle.aplc_syntax.specs.declared.step.Inner.{Inner}
use Rattle.aplc_syntax.specs.declared.step.Inner.TheVariants as i
use Rattle.aplc_syntax.specs.declared.step.Target.{Target}
use Rattle.aplc_syntax.specs.declared.step.Target.TheVariants as t
use Rattle.aplc_syntax.specs.declared.step.Along.{Along}
use Rattle.aplc_syntax.specs.declared.step.Along.TheVariants as al
use Rattle.aplc_syntax.specs.declared.step.Mode.{Mode}
use Rattle.aplc_syntax.specs.declared.step.Mode.TheVariants as m
use Rattle.aplc_syntax.specs.declared.word.Arity.TheVariants as arity
use Rattle.aplc_syntax.specs.declared.word.Role.{Role}
use Rattle.aplc_syntax.specs.declared.word.Role.TheVariants as role
use Rattle.aplc_syntax.specs.declared.word.Word.{Word}
use Rattle.aplc_syntax.specs.declared.word.WordKind.{WordKind}
use Rattle.aplc_syntax.specs.declared.word.WordKind.TheVariants as w
use Rattle.aplc_syntax.specs.Words.{word}
use Rattle.aplc_syntax.specs.Grammar.{F, arith_fn, compare_fn, X, no_axis, axis, M, arith1, not1, both1, turn1, reduce, call1, D, scalar2, both2, dyadic2, turn2, copies, outer, inner, call2, N, no_number, number, S, numbers, literal, variable, call0, text_input, nums_input, E, operand, before, between, assign, assign_at, show, O, simple, paren, index, L, last_gap, last_entry, gap, entry, Sentence, value, branch, perform0, perform1, perform2, spell, spell_F, spell_X, spell_M, spell_D, spell_N, spell_S, spell_E, spell_O, spell_L}
use Rattle.aplc_syntax.specs.Trees.{axis_of}
use Rattle.aplc_syntax.specs.Steps.{step_M, step_D, name_step, out_N, out_S, out_E, out_O, out_L, steps, waits, sent, target_S, indexed, target_O, target}
use Rattle.aplc_syntax.specs.Reading.{state, flush, close_paren, close_bracket, next_entry, want, begin, start, applied, scalar, dotted, along, named_axis, step, whole, run, reads}
use Rattle.aplc_syntax.specs.Reading.{outer as outer_mode, inner as inner_of}

abbrev runs : Mode → List Waiting → List Step → List Word → Option (List Step)
runs mode ops out ws = run ws (state mode ops out)

-- what waits goes out at the end
flush_waits : (e : E) (ops : List Waiting) (out : List Step) → flush (waits e ops) (sent e out) ≡ flush ops (out_E e out)
flush_waits (operand a) ops out = refl
flush_waits (before x e) ops out = flush_waits e (o.Apply (step_M x) ∷ ops) out
flush_waits (between a d e) ops out = flush_waits e (o.Apply (step_D d) ∷ ops) (out_O a out)
flush_waits (assign r p n pa e) ops out = flush_waits e (o.Apply s.Assign ∷ ops) (out ++ name_step r p n ∷ [])
flush_waits (assign_at r p n pl l pa e) ops out = flush_waits e (o.Apply s.AssignAt ∷ ops) (out_L l pl ((out ++ name_step r p n ∷ []) ++ s.List ∷ []))
flush_waits (show p pa e) ops out = flush_waits e (o.Apply (s.Show p) ∷ ops) out

read_N : (ns : N) (ops : List Waiting) (out : List Step) (k : List Word) → runs (m.After t.Numbers) ops out (spell_N ns k) ≡ runs (m.After t.Numbers) ops (out_N ns out) k
read_N no_number ops out k = refl
read_N (number p v ns) ops out k = read_N ns ops (out ++ s.More v ∷ []) k

-- ---- The first word of a value

-- it may begin any value
begins : WordKind → Bool
begins (w.Number v) = true
begins (w.Text to) = true
begins w.TextInput = true
begins w.NumsInput = true
begins (w.Name r n) = true
begins (w.Arith g) = true
begins (w.Compare g) = true
begins w.Not = true
begins (w.Both g) = true
begins (w.Turn a) = true
begins w.Open = true
begins w.Quad = true
begins _ = false

-- it may begin a value, and is no procedure
plain : WordKind → Bool
plain (w.Name (role.Procedure a) n) = false
plain w.Branch = false
plain k = begins k

record Head (test : WordKind → Bool) (ws : List Word) : Type 0 where
  first : Word
  rest : List Word
  is : ws ≡ first ∷ rest
  fits : test first.kind ≡ true

head : (test : WordKind → Bool) (x : WordKind) (p : ℕ) (k : List Word) → test x ≡ true → Head test (word x p ∷ k)
head test x p k b = record { first = word x p; rest = k; is = refl; fits = b }

plain_S : (a : S) (k : List Word) → Head plain (spell_S a k)
unfolding plain begins
plain_S (numbers p v ns) k = head plain (w.Number v) p (spell_N ns k) refl
plain_S (literal p to) k = head plain (w.Text to) p k refl
plain_S (variable p n) k = head plain (w.Name role.Variable n) p k refl
plain_S (call0 p n) k = head plain (w.Name (role.Function arity.Niladic) n) p k refl
plain_S (text_input p) k = head plain w.TextInput p k refl
plain_S (nums_input p) k = head plain w.NumsInput p k refl

plain_O : (a : O) (k : List Word) → Head plain (spell_O a k)
unfolding plain begins
plain_O (simple a) k = plain_S a k
plain_O (paren p e q) k = head plain w.Open p (spell_E e (word w.Close q ∷ k)) refl
plain_O (index a p l) k = plain_O a (word w.OpenBracket p ∷ spell_L l k)

plain_F : (g : F) (p : ℕ) (k : List Word) → Head plain (spell_F g p k)
unfolding plain begins
plain_F (arith_fn g) p k = head plain (w.Arith g) p k refl
plain_F (compare_fn g) p k = head plain (w.Compare g) p k refl

plain_M : (x : M) (k : List Word) → Head plain (spell_M x k)
unfolding plain begins
plain_M (arith1 p g) k = head plain (w.Arith g) p k refl
plain_M (not1 p) k = head plain w.Not p k refl
plain_M (both1 p g) k = head plain (w.Both g) p k refl
plain_M (turn1 p a x) k = head plain (w.Turn a) p (spell_X x k) refl
plain_M (reduce p g ps c a x) k = plain_F g p (word (w.Stroke c a) ps ∷ spell_X x k)
plain_M (call1 p n) k = head plain (w.Name (role.Function arity.Monadic) n) p k refl

begins_plain : (x : WordKind) → plain x ≡ true → begins x ≡ true
unfolding plain begins
begins_plain (w.Name r n) h = refl
begins_plain w.Branch h = h
begins_plain _ h = h

weaker : {ws : List Word} → Head plain ws → Head begins ws
weaker h = record { first = h.first; rest = h.rest; is = h.is; fits = begins_plain h.first.kind h.fits }

head_E : (e : E) (k : List Word) → Head begins (spell_E e k)
unfolding begins
head_E (operand a) k = weaker (plain_O a k)
head_E (before x e) k = weaker (plain_M x (spell_E e k))
head_E (between a d e) k = weaker (plain_O a (spell_D d (spell_E e k)))
head_E (assign r p n pa e) k = head begins (w.Name r n) p (word w.Assign pa ∷ spell_E e k) refl
head_E (assign_at r p n pl l pa e) k = head begins (w.Name r n) p (word w.OpenBracket pl ∷ spell_L l (word w.Assign pa ∷ spell_E e k)) refl
head_E (show p pa e) k = head begins w.Quad p (word w.Assign pa ∷ spell_E e k) refl

-- where a mode takes the first word of a value as Want does
resolved : (test : WordKind → Bool) (mode : Mode) (ops ops2 : List Waiting) (out : List Step) (ws : List Word)
    → ((x : WordKind) (q : ℕ) → test x ≡ true → step mode x q ops out ≡ want x q ops2 out) → Head test ws → runs mode ops out ws ≡ runs m.Want ops2 out ws
resolved test mode ops ops2 out ws g h =
    ap (runs mode ops out) h.is
    ∙ ap (option_and_then (run h.rest)) (g h.first.kind h.first.place h.fits)
    ∙ sym (ap (runs m.Want ops2 out) h.is)

scalar_want : (p : ℕ) (g : ScalarFn) (ops : List Waiting) (out : List Step) (x : WordKind) (q : ℕ) → begins x ≡ true → scalar x q p g ops out ≡ want x q (o.Apply (s.Mono p (pr.Scalar g)) ∷ ops) out
unfolding begins
scalar_want p g ops out (w.Stroke c a) q b = cc
scalar_want p g ops out _ q b = refl

dotted_want : (p : ℕ) (g : ScalarFn) (ops : List Waiting) (out : List Step) (x : WordKind) (q : ℕ) → begins x ≡ true → dotted x q p g ops out ≡ want x q (o.Apply (s.Dyad p (pr.Scalar g)) ∷ ops) out
unfolding begins
dotted_want p g ops out w.Dot q b = cc
dotted_want p g ops out _ q b = refl

axis_want : (y : Along) (a : Axis) (ops : List Waiting) (out : List Step) (x : WordKind) (q : ℕ) → begins x ≡ true → named_axis x q y a ops out ≡ want x q (o.Apply (along y a) ∷ ops) out
unfolding begins
axis_want y a ops out w.OpenBracket q b = cc
axis_want y a ops out _ q b = refl

applied_want : (y : Step) (p n : ℕ) (ops : List Waiting) (out : List Step) (x : WordKind) (q : ℕ) → begins x ≡ true → applied y x q p n ops out ≡ want x q (o.Apply y ∷ ops) out
unfolding begins
applied_want y p n ops out w.Assign q b = cc
applied_want y p n ops out w.OpenBracket q b = cc
applied_want y p n ops out _ q b = refl

start_want : (ops : List Waiting) (out : List Step) (x : WordKind) (q : ℕ) → begins x ≡ true → start x q ops out ≡ want x q ops out
unfolding begins
start_want ops out w.Semicolon q b = cc
start_want ops out w.CloseBracket q b = cc
start_want ops out _ q b = refl

begin_want : (ops : List Waiting) (out : List Step) (x : WordKind) (q : ℕ) → plain x ≡ true → begin x q ops out ≡ want x q ops out
unfolding plain begins
begin_want ops out w.Branch q b = cc
begin_want ops out (w.Name (role.Procedure a) n) q b = cc
begin_want ops out _ q b = refl

-- ---- Forms

read_X : (x : X) (y : Along) (a : Axis) (ops : List Waiting) (out : List Step) (k : List Word) → Head begins k → runs (m.Along y a) ops out (spell_X x k) ≡ runs m.Want (o.Apply (along y (axis_of a x)) ∷ ops) out k
read_X no_axis y a ops out k h = resolved begins (m.Along y a) ops _ out k (axis_want y a ops out) h
read_X (axis pl pn pr v) y a ops out k h = refl

read_M : (x : M) (ops : List Waiting) (out : List Step) (k : List Word) → Head begins k → runs m.Want ops out (spell_M x k) ≡ runs m.Want (o.Apply (step_M x) ∷ ops) out k
read_M (arith1 p g) ops out k h = resolved begins (m.Scalar p g) ops _ out k (scalar_want p g ops out) h
read_M (not1 p) ops out k h = refl
read_M (both1 p g) ops out k h = refl
read_M (turn1 p a x) ops out k h = read_X x (al.Turn1 p) a ops out k h
read_M (reduce p (arith_fn g) ps c a x) ops out k h = read_X x (al.Reduce p g c) a ops out k h
read_M (reduce p (compare_fn g) ps c a x) ops out k h = read_X x (al.Reduce p g c) a ops out k h
read_M (call1 p n) ops out k h = resolved begins (m.Fun p n) ops _ out k (applied_want (s.Call1 p n) p n ops out) h

read_D : (d : D) (tg : Target) (ops : List Waiting) (out : List Step) (k : List Word) → Head begins k → runs (m.After tg) ops out (spell_D d k) ≡ runs m.Want (o.Apply (step_D d) ∷ ops) out k
read_D (scalar2 p (arith_fn g)) tg ops out k h = resolved begins (m.Scalar2 p g) ops _ out k (dotted_want p g ops out) h
read_D (scalar2 p (compare_fn g)) tg ops out k h = resolved begins (m.Scalar2 p g) ops _ out k (dotted_want p g ops out) h
read_D (both2 p g) tg ops out k h = refl
read_D (dyadic2 p g) tg ops out k h = refl
read_D (turn2 p a x) tg ops out k h = read_X x (al.Turn2 p) a ops out k h
read_D (copies p c a x) tg ops out k h = read_X x (al.Copies p c) a ops out k h
read_D (outer pj pd p (arith_fn g)) tg ops out k h = refl
read_D (outer pj pd p (compare_fn g)) tg ops out k h = refl
read_D (inner p (arith_fn g) pd ph (arith_fn y)) tg ops out k h = refl
read_D (inner p (arith_fn g) pd ph (compare_fn y)) tg ops out k h = refl
read_D (inner p (compare_fn g) pd ph (arith_fn y)) tg ops out k h = refl
read_D (inner p (compare_fn g) pd ph (compare_fn y)) tg ops out k h = refl
read_D (call2 p n) tg ops out k h = refl

read_S : (a : S) (ops : List Waiting) (out : List Step) (k : List Word) → runs m.Want ops out (spell_S a k) ≡ runs (m.After (target_S a)) ops (out_S a out) k
read_S (numbers p v ns) ops out k = read_N ns ops (out ++ s.Number p v ∷ []) k
read_S (literal p to) ops out k = refl
read_S (variable p n) ops out k = refl
read_S (call0 p n) ops out k = refl
read_S (text_input p) ops out k = refl
read_S (nums_input p) ops out k = refl

read_assign : (r : Role) (p n pa : ℕ) (ops : List Waiting) (out : List Step) (k : List Word) → runs m.Want ops out (word (w.Name r n) p ∷ (word w.Assign pa ∷ k)) ≡ runs m.Want (o.Apply s.Assign ∷ ops) (out ++ name_step r p n ∷ []) k
read_assign role.Variable p n pa ops out k = refl
read_assign (role.Function arity.Niladic) p n pa ops out k = refl
read_assign (role.Function arity.Monadic) p n pa ops out k = refl
read_assign (role.Function arity.Dyadic) p n pa ops out k = refl
read_assign (role.Procedure arity.Niladic) p n pa ops out k = refl
read_assign (role.Procedure arity.Monadic) p n pa ops out k = refl
read_assign (role.Procedure arity.Dyadic) p n pa ops out k = refl

-- what the list of an assigned name belongs to
assigned : Role → Inner
assigned role.Variable = i.Base
assigned (role.Function arity.Niladic) = i.Base
assigned _ = i.Owed

open_list : (r : Role) (p n pl : ℕ) (ops : List Waiting) (out : List Step) (k : List Word) → runs m.Want ops out (word (w.Name r n) p ∷ (word w.OpenBracket pl ∷ k)) ≡ runs m.Start (o.Bracket pl (assigned r) ∷ ops) ((out ++ name_step r p n ∷ []) ++ s.List ∷ []) k
unfolding assigned
open_list role.Variable p n pl ops out k = refl
open_list (role.Function arity.Niladic) p n pl ops out k = refl
open_list (role.Function arity.Monadic) p n pl ops out k = refl
open_list (role.Function arity.Dyadic) p n pl ops out k = refl
open_list (role.Procedure arity.Niladic) p n pl ops out k = refl
open_list (role.Procedure arity.Monadic) p n pl ops out k = refl
open_list (role.Procedure arity.Dyadic) p n pl ops out k = refl

owed_arrow : (r : Role) (pa : ℕ) (ops : List Waiting) (out : List Step) (k : List Word) → runs (outer_mode (assigned r)) ops out (word w.Assign pa ∷ k) ≡ runs m.Want (o.Apply s.AssignAt ∷ ops) out k
unfolding assigned
owed_arrow role.Variable pa ops out k = refl
owed_arrow (role.Function arity.Niladic) pa ops out k = refl
owed_arrow (role.Function arity.Monadic) pa ops out k = refl
owed_arrow (role.Function arity.Dyadic) pa ops out k = refl
owed_arrow (role.Procedure arity.Niladic) pa ops out k = refl
owed_arrow (role.Procedure arity.Monadic) pa ops out k = refl
owed_arrow (role.Procedure arity.Dyadic) pa ops out k = refl

pub outer_inner : (tg : Target) → outer_mode (inner_of tg) ≡ m.After (indexed tg)
outer_inner t.No = refl
outer_inner t.Numbers = refl
outer_inner t.Name = refl
outer_inner t.At = refl

mutual
  read_E : (e : E) (ops : List Waiting) (out : List Step) (k : List Word) → runs m.Want ops out (spell_E e k) ≡ runs (m.After (target e)) (waits e ops) (sent e out) k
  read_E (operand a) ops out k = read_O a ops out k
  read_E (before x e) ops out k = read_M x ops out (spell_E e k) (head_E e k) ∙ read_E e (o.Apply (step_M x) ∷ ops) out k
  read_E (between a d e) ops out k = read_O a ops out (spell_D d (spell_E e k))
      ∙ read_D d (target_O a) ops (out_O a out) (spell_E e k) (head_E e k)
      ∙ read_E e (o.Apply (step_D d) ∷ ops) (out_O a out) k
  read_E (assign r p n pa e) ops out k = read_assign r p n pa ops out (spell_E e k) ∙ read_E e (o.Apply s.Assign ∷ ops) (out ++ name_step r p n ∷ []) k
  read_E (assign_at r p n pl l pa e) ops out k = open_list r p n pl ops out (spell_L l (word w.Assign pa ∷ spell_E e k))
      ∙ read_L l pl (assigned r) ops ((out ++ name_step r p n ∷ []) ++ s.List ∷ []) (word w.Assign pa ∷ spell_E e k)
      ∙ owed_arrow r pa ops (out_L l pl ((out ++ name_step r p n ∷ []) ++ s.List ∷ [])) (spell_E e k)
      ∙ read_E e (o.Apply s.AssignAt ∷ ops) (out_L l pl ((out ++ name_step r p n ∷ []) ++ s.List ∷ [])) k
  read_E (show p pa e) ops out k = read_E e (o.Apply (s.Show p) ∷ ops) out k

  read_O : (a : O) (ops : List Waiting) (out : List Step) (k : List Word) → runs m.Want ops out (spell_O a k) ≡ runs (m.After (target_O a)) ops (out_O a out) k
  read_O (simple a) ops out k = read_S a ops out k
  read_O (paren p e q) ops out k = read_E e (o.Paren ∷ ops) out (word w.Close q ∷ k)
      ∙ ap (λ (x : List Waiting × List Step). option_and_then (run k) (close_paren x)) (flush_waits e (o.Paren ∷ ops) out)
  read_O (index a p l) ops out k = read_O a ops out (word w.OpenBracket p ∷ spell_L l k)
      ∙ read_L l p (inner_of (target_O a)) ops (out_O a out ++ s.List ∷ []) k
      ∙ ap (λ (mode : Mode). runs mode ops (out_O (index a p l) out) k) (outer_inner (target_O a))

  read_L : (l : L) (p : ℕ) (x : Inner) (ops : List Waiting) (out : List Step) (k : List Word) → runs m.Start (o.Bracket p x ∷ ops) out (spell_L l k) ≡ runs (outer_mode x) ops (out_L l p out) k
  read_L (last_gap q) p x ops out k = refl
  read_L (last_entry e q) p x ops out k =
      resolved begins m.Start (o.Bracket p x ∷ ops) _ out _ (start_want (o.Bracket p x ∷ ops) out) (head_E e (word w.CloseBracket q ∷ k))
      ∙ read_E e (o.Bracket p x ∷ ops) out (word w.CloseBracket q ∷ k)
      ∙ ap (λ (y : List Waiting × List Step). option_and_then (run k) (close_bracket s.Entry y)) (flush_waits e (o.Bracket p x ∷ ops) out)
  read_L (gap q l) p x ops out k = read_L l p x ops (out ++ s.Gap ∷ []) k
  read_L (entry e q l) p x ops out k =
      resolved begins m.Start (o.Bracket p x ∷ ops) _ out _ (start_want (o.Bracket p x ∷ ops) out) (head_E e (word w.Semicolon q ∷ spell_L l k))
      ∙ read_E e (o.Bracket p x ∷ ops) out (word w.Semicolon q ∷ spell_L l k)
      ∙ ap (λ (y : List Waiting × List Step). option_and_then (run (spell_L l k)) (next_entry s.Entry y)) (flush_waits e (o.Bracket p x ∷ ops) out)
      ∙ read_L l p x ops (out_E e out ++ s.Entry ∷ []) k

-- ---- Statements

begin_O : (a : O) (k : List Word) → runs m.Begin [] [] (spell_O a k) ≡ runs m.Want [] [] (spell_O a k)
begin_O a k = resolved plain m.Begin [] [] [] (spell_O a k) (begin_want [] []) (plain_O a k)

begin_assign : (r : Role) (p n pa : ℕ) (k : List Word) → runs m.Begin [] [] (word (w.Name r n) p ∷ (word w.Assign pa ∷ k)) ≡ runs m.Want [] [] (word (w.Name r n) p ∷ (word w.Assign pa ∷ k))
begin_assign role.Variable p n pa k = refl
begin_assign (role.Function a) p n pa k = refl
begin_assign (role.Procedure arity.Niladic) p n pa k = refl
begin_assign (role.Procedure arity.Monadic) p n pa k = refl
begin_assign (role.Procedure arity.Dyadic) p n pa k = refl

begin_list : (r : Role) (p n pl : ℕ) (k : List Word) → runs m.Begin [] [] (word (w.Name r n) p ∷ (word w.OpenBracket pl ∷ k)) ≡ runs m.Want [] [] (word (w.Name r n) p ∷ (word w.OpenBracket pl ∷ k))
begin_list role.Variable p n pl k = refl
begin_list (role.Function a) p n pl k = refl
begin_list (role.Procedure arity.Niladic) p n pl k = refl
begin_list (role.Procedure arity.Monadic) p n pl k = refl
begin_list (role.Procedure arity.Dyadic) p n pl k = refl

begin_E : (e : E) (k : List Word) → runs m.Begin [] [] (spell_E e k) ≡ runs m.Want [] [] (spell_E e k)
begin_E (operand a) k = begin_O a k
begin_E (before x e) k = resolved plain m.Begin [] [] [] (spell_M x (spell_E e k)) (begin_want [] []) (plain_M x (spell_E e k))
begin_E (between a d e) k = begin_O a (spell_D d (spell_E e k))
begin_E (assign r p n pa e) k = begin_assign r p n pa (spell_E e k)
begin_E (assign_at r p n pl l pa e) k = begin_list r p n pl (spell_L l (word w.Assign pa ∷ spell_E e k))
begin_E (show p pa e) k = refl

-- what a statement spells is read as its steps
pub complete : (x : Sentence) → reads (spell x) ≡ Some (steps x)
unfolding reads
complete (value e) = begin_E e [] ∙ read_E e [] [] [] ∙ ap whole (flush_waits e [] [])
complete (branch p e) = read_E e (o.Apply (s.Branch p) ∷ []) [] [] ∙ ap whole (flush_waits e (o.Apply (s.Branch p) ∷ []) [])
complete (perform0 p n) = refl
complete (perform1 p n e) = resolved begins (m.Proc1 p n) [] _ [] (spell_E e []) (applied_want (s.Perform1 p n) p n [] []) (head_E e [])
    ∙ read_E e (o.Apply (s.Perform1 p n) ∷ []) [] []
    ∙ ap whole (flush_waits e (o.Apply (s.Perform1 p n) ∷ []) [])
complete (perform2 a p n e) = begin_O a (word (w.Name (role.Procedure arity.Dyadic) n) p ∷ spell_E e [])
    ∙ read_O a [] [] (word (w.Name (role.Procedure arity.Dyadic) n) p ∷ spell_E e [])
    ∙ read_E e (o.Apply (s.Perform2 p n) ∷ []) (out_O a []) []
    ∙ ap whole (flush_waits e (o.Apply (s.Perform2 p n) ∷ []) (out_O a []))

-- Code that prints, put together from pieces.
-- It must not know what the pieces print.
use Rattle.std.proofs.Common.{◌≡◌, ℕ, suc, ◌+◌, ◌*◌, ◌<◌, ◌≤◌, List, [], ◌∷◌, ◌++◌, refl, sym, ap, ◌∙◌, subst, arith, append_assoc, append-nil, ℤ, Bool, true, false}
use Rattle.std.specs.Prelude.{Option, Some, None, pos, ◌^◌, encode_utf8, if◌then◌else◌}
use Rattle.aplc_scalar.specs.Scalar.{truth}
use Rattle.aplc_cprof.specs.declared.syntax.Int.{Int}
use Rattle.aplc_cprof.specs.declared.syntax.Int.TheVariants as int
use Rattle.aplc_cprof.specs.declared.syntax.CExpr.{CExpr}
use Rattle.aplc_cprof.specs.declared.syntax.CExpr.TheVariants as expr
use Rattle.aplc_cprof.specs.declared.syntax.CStmt.{CStmt}
use Rattle.aplc_cprof.specs.declared.syntax.CStmt.TheVariants as stmt
use Rattle.aplc_cprof.specs.WellFormed.{Scope}
use Rattle.aplc_cprof.specs.Machine.{State, Code, Todo, Is, read_int, is_zero, value, settled, padded_text, is_scalar}
use Rattle.aplc_cprof.specs.Frames.{IsOld, AreOld, Around, Stays, SameSeen, Hold}
use Rattle.aplc_cprof.specs.Emitted.{counted_loop}
use Rattle.aplc_cprof.proofs.Values.{value_Var}
use Rattle.aplc_cprof.proofs.Paths.{Does, does_none, does_then, does_weaken, does_if, does_else, does_PutNum, does_PutChar, other_part}
use Rattle.aplc_cprof.proofs.Frames.{after_set, put_at, stays_none, stays_less, stays_settled, stays_set, read_stays, hold_stays, seen_stays, seen_then}
use Rattle.aplc_cprof.proofs.Counting.{does_counted}
use Rattle.aplc_quad.specs.Rows.{joined}
use Rattle.aplc_quad.specs.Printed.{with_output, Printing, Printed, NoFault, Puts}

-- ---- States

-- the output of a state behind which a text was written
pub output_is : (n m : ℕ) (text : List ℕ) (s t : State) → Printed n m text s t → t.output ≡ s.output ++ text
output_is n m text s t h = ap (λ (r : Around). r.output) h.around

-- after a text, all but the output as from there on is all but the output as from before
pub over : (n m : ℕ) (text out : List ℕ) (s t u : State) → Printed n m text s t → Stays n m (with_output out t) u → Stays n m (with_output out s) u
over n m text out s t u h k = record {
  ints = λ x lt. k.ints x lt ∙ h.ints x lt;
  bufs = λ p lt. k.bufs p lt ∙ h.bufs p lt;
  around = k.around ∙ ap (λ (r : Around). record r { output = out }) h.around;
  heap = k.heap ∙ h.heap;
}

-- one text behind another
pub printed_then : (n m : ℕ) (x y : List ℕ) (s t u : State) → Printed n m x s t → Printed n m y t u → Printed n m (x ++ y) s u
printed_then n m x y s t u h k =
    subst (λ l. Stays n m (with_output l s) u) (ap (λ l. l ++ y) (output_is n m x s t h) ∙ append_assoc s.output x y) (over n m x (t.output ++ y) s t u h k)

-- nothing was written
pub stays_printed : (n m : ℕ) (s t : State) → Stays n m s t → Printed n m [] s t
stays_printed n m s t h = subst (λ l. Stays n m (with_output l s) t) (sym (append-nil s.output)) record { ints = h.ints; bufs = h.bufs; around = h.around; heap = h.heap }

pub printed_stays : (n m : ℕ) (s t : State) → Printed n m [] s t → Stays n m s t
printed_stays n m s t h =
    let k : Stays n m (with_output s.output s) t = subst (λ l. Stays n m (with_output l s) t) (append-nil s.output) h in
    record { ints = k.ints; bufs = k.bufs; around = k.around; heap = k.heap }

-- a counted step makes no difference
from_settled : (n m : ℕ) (out : List ℕ) (s u : State) → Stays n m (with_output out (settled s)) u → Stays n m (with_output out s) u
from_settled n m out s u h = record { ints = h.ints; bufs = h.bufs; around = h.around; heap = h.heap }

pub read_printed : (n m : ℕ) (text : List ℕ) (s t : State) (x : Int) → Printed n m text s t → IsOld n x → read_int x t ≡ read_int x s
read_printed n m text s t (int.Local k) h old = read_stays n m (with_output (s.output ++ text) s) t (int.Local k) h old
read_printed n m text s t (int.Global k) h old = read_stays n m (with_output (s.output ++ text) s) t (int.Global k) h old

hold_output : (s : State) (out : List ℕ) (xs : List Int) (is : List ℕ) → Hold s xs is → Hold (with_output out s) xs is
hold_output s out [] [] h = h
hold_output s out [] (i ∷ is) h = h
hold_output s out (x ∷ xs) [] h = h
hold_output s out (x ∷ xs) (i ∷ is) h = (read_output x ∙ h.0, hold_output s out xs is h.1)
  where
    read_output : (x : Int) → read_int x (with_output out s) ≡ read_int x s
    read_output (int.Local k) = refl
    read_output (int.Global k) = refl

pub hold_printed : (n m : ℕ) (text : List ℕ) (s t : State) (xs : List Int) (is : List ℕ) → Printed n m text s t → AreOld n xs → Hold s xs is → Hold t xs is
hold_printed n m text s t xs is h old held = hold_stays n m (with_output (s.output ++ text) s) t xs is h old (hold_output s (s.output ++ text) xs is held)

pub seen_printed : (g : Scope) (n m : ℕ) (text : List ℕ) (s t : State) → g.ints ≤ n → g.bufs ≤ m → Printed n m text s t → SameSeen g s t
seen_printed g n m text s t le leb h = seen_then g s (with_output (s.output ++ text) s) t record { ints = λ x lt. refl; bufs = λ p lt. refl; global_ints = λ x lt. refl; global_bufs = λ p lt. refl } (seen_stays g n m (with_output (s.output ++ text) s) t le leb h)

module _ (c : Code) where
  -- ---- Pieces

  -- fewer names, and more steps
  pub puts_less : (n n' m m' j k : ℕ) (code : List CStmt) (s : State) (text : List ℕ) → n ≤ n' → m ≤ m' → j ≤ k → Puts c n' m' j code s text → Puts c n m k code s text
  puts_less n n' m m' j k code s text le leb steps d =
      does_weaken c (Printing n' m' s) (Printing n m s) j k code s (Printed n' m' text s) (Printed n m text s) NoFault NoFault
      (λ u q. (q.0, stays_less n n' m m' (with_output q.0 s) u le leb q.1))
      (λ u q. stays_less n n' m m' (with_output (s.output ++ text) s) u le leb q)
      (λ kind u f. f) steps d

  pub puts_steps : (n m j k : ℕ) (code : List CStmt) (s : State) (text : List ℕ) → j ≤ k → Puts c n m j code s text → Puts c n m k code s text
  puts_steps n m j k code s text le d = puts_less n n m m j k code s text (omega arith) (omega arith) le d

  -- no code
  pub puts_none : (n m : ℕ) (s : State) → Puts c n m 0 [] s []
  puts_none n m s = does_none c (Printing n m s) s (Printed n m [] s) NoFault (λ todo. stays_printed n m s (record s { todo = todo }) record { ints = λ x lt. refl; bufs = λ p lt. refl; around = refl; heap = refl })

  -- one piece behind another
  pub puts_then : (n m j k : ℕ) (a b : List CStmt) (s : State) (x y : List ℕ) → Puts c n m j a s x → ((t : State) → Printed n m x s t → Puts c n m k b t y) → Puts c n m (j + k) (a ++ b) s (x ++ y)
  puts_then n m j k a b s x y first second =
      does_then c (Printing n m s) j k a b s (Printed n m x s) (Printed n m (x ++ y) s) NoFault first
      (λ t h. does_weaken c (Printing n m t) (Printing n m s) k k b t (Printed n m y t) (Printed n m (x ++ y) s) NoFault NoFault
      (λ u q. (q.0, over n m x q.0 s t u h q.1))
      (λ u q. printed_then n m x y s t u h q)
      (λ kind u f. f) (omega arith) (second t h))

  -- a piece behind code that writes nothing
  pub quiet_then : (n m j k : ℕ) (a b : List CStmt) (s : State) (Mid : State → Type 0) (y : List ℕ) → Does c (Stays n m s) j a s Mid NoFault → ((t : State) → Mid t → Stays n m s t) → ((t : State) → Mid t → Puts c n m k b t y) → Puts c n m (j + k) (a ++ b) s y
  quiet_then n m j k a b s Mid y first quiet second =
      does_then c (Printing n m s) j k a b s Mid (Printed n m y s) NoFault
      (does_weaken c (Stays n m s) (Printing n m s) j j a s Mid Mid NoFault NoFault (λ u q. (s.output, record { ints = q.ints; bufs = q.bufs; around = q.around; heap = q.heap })) (λ u q. q) (λ kind u f. f) (omega arith) first)
      (λ t h. does_weaken c (Printing n m t) (Printing n m s) k k b t (Printed n m y t) (Printed n m y s) NoFault NoFault
      (λ u q. (q.0, over n m [] q.0 s t u (stays_printed n m s t (quiet t h)) q.1))
      (λ u q. printed_then n m [] y s t u (stays_printed n m s t (quiet t h)) q)
      (λ kind u f. f) (omega arith) (second t h))

  -- ---- Choices

  -- the first part of an if
  pub puts_if : (n m k : ℕ) (e : CExpr) (a : List CStmt) (o : Option (List CStmt)) (s : State) (text : List ℕ) (v : ℤ) → value e c.tables s ≡ Is v → is_zero v ≡ false → Puts c n m k a (settled s) text → Puts c n m (k + 1) (stmt.If e a o ∷ []) s text
  puts_if n m k e a o s text v is test d =
      does_if c (Printing n m s) k e a o s (Printed n m text s) NoFault v is test (λ todo. (s.output, stays_settled n m (with_output s.output s) s todo record { ints = λ x lt. refl; bufs = λ p lt. refl; around = refl; heap = refl }))
      (does_weaken c (Printing n m (settled s)) (Printing n m s) k k a (settled s) (Printed n m text (settled s)) (Printed n m text s) NoFault NoFault
      (λ u q. (q.0, from_settled n m q.0 s u q.1))
      (λ u q. from_settled n m (s.output ++ text) s u q)
      (λ kind u f. f) (omega arith) d)

  -- its other part
  pub puts_else : (n m k : ℕ) (e : CExpr) (a : List CStmt) (o : Option (List CStmt)) (s : State) (text : List ℕ) (v : ℤ) → value e c.tables s ≡ Is v → is_zero v ≡ true → Puts c n m k (other_part o) (settled s) text → Puts c n m (k + 1) (stmt.If e a o ∷ []) s text
  puts_else n m k e a o s text v is test d =
      does_else c (Printing n m s) k e a o s (Printed n m text s) NoFault v is test (λ todo. (s.output, stays_settled n m (with_output s.output s) s todo record { ints = λ x lt. refl; bufs = λ p lt. refl; around = refl; heap = refl }))
      (does_weaken c (Printing n m (settled s)) (Printing n m s) k k (other_part o) (settled s) (Printed n m text (settled s)) (Printed n m text s) NoFault NoFault
      (λ u q. (q.0, from_settled n m q.0 s u q.1))
      (λ u q. from_settled n m (s.output ++ text) s u q)
      (λ kind u f. f) (omega arith) d)

  -- a text where a test holds, else none
  pub puts_when : (n m k : ℕ) (e : CExpr) (a : List CStmt) (s : State) (text : List ℕ) (b : Bool) → value e c.tables s ≡ Is (truth b) → Puts c n m k a (settled s) text → Puts c n m (k + 1) (stmt.If e a None ∷ []) s (if b then text else [])
  puts_when n m k e a s text true is d = puts_if n m k e a None s text (pos 1) is refl d
  puts_when n m k e a s text false is d =
      puts_else n m k e a None s [] (pos 0) is refl (puts_steps n m 0 k [] (settled s) [] (omega arith) (puts_none n m (settled s)))

  -- one of two ways to write a text
  pub puts_either : (n m k : ℕ) (e : CExpr) (a o : List CStmt) (s : State) (text : List ℕ) (b : Bool) → value e c.tables s ≡ Is (truth b) → (b ≡ true → Puts c n m k a (settled s) text) → (b ≡ false → Puts c n m k o (settled s) text) → Puts c n m (k + 1) (stmt.If e a (Some o) ∷ []) s text
  puts_either n m k e a o s text true is f g = puts_if n m k e a (Some o) s text (pos 1) is refl (f refl)
  puts_either n m k e a o s text false is f g = puts_else n m k e a (Some o) s text (pos 0) is refl (g refl)

  -- ---- Statements

  -- more was written
  wrote : (n m : ℕ) (s : State) (text : List ℕ) (rest : Todo) → Printed n m text s (settled (record s { todo = rest; output = s.output ++ text }))
  wrote n m s text rest = record { ints = λ x lt. refl; bufs = λ p lt. refl; around = refl; heap = refl }

  pub puts_char : (n m : ℕ) (e : CExpr) (k : ℕ) (s : State) → value e c.tables s ≡ Is (pos k) → is_scalar k ≡ true → Puts c n m 1 (stmt.PutChar e ∷ []) s (encode_utf8 k)
  puts_char n m e k s is scalar =
      does_PutChar c (Printing n m s) e s (Printed n m (encode_utf8 k) s) NoFault k is scalar
      (λ rest. (s.output ++ encode_utf8 k, wrote n m s (encode_utf8 k) rest))
      (λ rest. wrote n m s (encode_utf8 k) rest)

  pub puts_num : (n m : ℕ) (v : Int) (e : CExpr) (z : ℤ) (w : ℕ) (s : State) → read_int v s ≡ Is z → value e c.tables s ≡ Is (pos w) → w ≤ 20 → Puts c n m 1 (stmt.PutNum (expr.Var v) e ∷ []) s (padded_text z w)
  puts_num n m v e z w s is_z is_w le =
      does_PutNum c (Printing n m s) (expr.Var v) e s (Printed n m (padded_text z w) s) NoFault z w (value_Var v c.tables s ∙ is_z) is_w le
      (λ rest. (s.output ++ padded_text z w, wrote n m s (padded_text z w) rest))
      (λ rest. wrote n m s (padded_text z w) rest)

  -- ---- Loops

  -- the pieces before turn j are written, and the counter says so
  record AtTurn (n m : ℕ) (piece : ℕ → List ℕ) (s : State) (j : ℕ) (t : State) : Type 0 where
    pub printed : Printed n m (joined piece j) s t
    pub index : t.ints n ≡ Some (pos j)

  -- the piece of turn j is written as well
  record BehindTurn (n m : ℕ) (piece : ℕ → List ℕ) (s : State) (j : ℕ) (t : State) : Type 0 where
    pub printed : Printed n m (joined piece (suc j)) s t
    pub index : t.ints n ≡ Some (pos j)

  -- a loop writes what each of its turns writes
  pub puts_loop : (n m k : ℕ) (length : Int) (len : ℕ) (body : List CStmt) (s : State) (piece : ℕ → List ℕ) → IsOld n length → len < 2 ^ 31 → read_int length s ≡ Is (pos len) → ((j : ℕ) (t : State) → j < len → Printed n m (joined piece j) s t → t.ints n ≡ Some (pos j) → Puts c (n + 1) m k body t (piece j)) → Puts c n m (len * (k + 2) + 2) (counted_loop (int.Local n) length body) s (joined piece len)
  puts_loop n m k length len body s piece old short is turns =
      does_weaken c (Printing n m s) (Printing n m s) (len * (k + 2) + 2) (len * (k + 2) + 2) (counted_loop (int.Local n) length body) s (AtTurn n m piece s len) (Printed n m (joined piece len) s) NoFault NoFault (λ u q. q) (λ u q. q.printed) (λ kind u f. f) (omega arith)
      (does_counted c (Printing n m s) k n length len body (AtTurn n m piece s) (BehindTurn n m piece s) s NoFault record {
        short = short;
        steps_on = λ j t todo h. let st = stays_settled n m (with_output (s.output ++ joined piece j) s) t todo h.printed in (record { printed = st; index = h.index }, (s.output ++ joined piece j, st));
        counter = λ j t h. h.index;
        bound = λ j t h. read_printed n m (joined piece j) s t length h.printed old ∙ is;
        starts = λ rest. let st = stays_printed n m s (after_set n (pos 0) rest s) (stays_set n m n (pos 0) s s rest (omega arith) (stays_none n m s)) in (record { printed = st; index = put_at s.ints n (Some (pos 0)) }, (s.output ++ [], st));
        turn = turn;
        kept = λ j u lt h. h.index;
        next = λ j u lt h rest. let st = stays_set n m n (pos (j + 1)) (with_output (s.output ++ joined piece (suc j)) s) u rest (omega arith) h.printed in (record { printed = st; index = put_at u.ints n (Some (pos (j + 1))) ∙ ap (λ x. Some (pos x)) (next_is j) }, (s.output ++ joined piece (suc j), st));
      })
    where
      next_is : (j : ℕ) → j + 1 ≡ suc j
      next_is j = omega arith

      turn : (j : ℕ) (t : State) → j < len → AtTurn n m piece s j t → Does c (Printing n m s) k body t (BehindTurn n m piece s j) NoFault
      turn j t lt h =
          does_weaken c (Printing (n + 1) m t) (Printing n m s) k k body t (Printed (n + 1) m (piece j) t) (BehindTurn n m piece s j) NoFault NoFault
          (λ u q. (q.0, over n m (joined piece j) q.0 s t u h.printed (stays_less n (n + 1) m m (with_output q.0 t) u (omega arith) (omega arith) q.1)))
          (λ u q. record { printed = printed_then n m (joined piece j) (piece j) s t u h.printed (stays_less n (n + 1) m m (with_output (t.output ++ piece j) t) u (omega arith) (omega arith) q); index = q.ints n (omega arith) ∙ h.index })
          (λ kind u f. f) (omega arith) (turns j t lt h.printed h.index)

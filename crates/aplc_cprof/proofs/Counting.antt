-- The values of small expressions, and the rule of a loop that counts.
-- It must not know what is done in a turn.
use Rattle.std.proofs.Common.{◌≡◌, ℕ, suc, ◌+◌, ◌*◌, ◌<◌, ◌≤◌, List, [], ◌∷◌, ◌++◌, refl, ap, ◌∙◌, subst, arith, ℤ}
use Rattle.std.specs.Prelude.{Some, pos, ◌^◌, int_lt}
use Rattle.std.proofs.lemmas.Bool.Decides.{nat_tests}
use Rattle.aplc_scalar.specs.declared.kind.FaultKind.{FaultKind}
use Rattle.aplc_scalar.specs.Scalar.{truth}
use Rattle.aplc_cprof.specs.declared.syntax.Int.{Int}
use Rattle.aplc_cprof.specs.declared.syntax.Int.TheVariants as int
use Rattle.aplc_cprof.specs.declared.syntax.Op.{Op}
use Rattle.aplc_cprof.specs.declared.syntax.Op.TheVariants as op
use Rattle.aplc_cprof.specs.declared.syntax.CExpr.{CExpr}
use Rattle.aplc_cprof.specs.declared.syntax.CExpr.TheVariants as expr
use Rattle.aplc_cprof.specs.declared.syntax.CStmt.{CStmt}
use Rattle.aplc_cprof.specs.declared.syntax.CStmt.TheVariants as stmt
use Rattle.aplc_cprof.specs.Machine.{State, Code, Todo, Is, read_int, or_unset, apply, value, settled}
use Rattle.aplc_cprof.specs.Emitted.{on_values, plus_one, less, counted_loop}
use Rattle.aplc_cprof.proofs.Values.{value_Var, value_Lit, value_Bin, ranged_below}
use Rattle.aplc_cprof.proofs.Paths.{Does, does_then, does_weaken, does_Set, does_while, Leaves, Turns}
use Rattle.aplc_cprof.proofs.Writes.{Written, written}
use Rattle.aplc_cprof.proofs.Frames.{after_set}

-- ---- Values

pub bin_value : (tables : List (List ℤ)) (s : State) (o : Op) (a b : CExpr) (x y : ℤ) → value a tables s ≡ Is x → value b tables s ≡ Is y → value (expr.Bin o a b) tables s ≡ apply o (Is x) (Is y)
bin_value tables s o a b x y h k = value_Bin o a b tables s ∙ ap (λ v. apply o v (value b tables s)) h ∙ ap (λ v. apply o (Is x) v) k

-- an operation on two variables
pub on_values_value : (tables : List (List ℤ)) (s : State) (o : Op) (x y : Int) (a b : ℤ) → read_int x s ≡ Is a → read_int y s ≡ Is b → value (on_values o x y) tables s ≡ apply o (Is a) (Is b)
on_values_value tables s o x y a b h k = bin_value tables s o (expr.Var x) (expr.Var y) a b (value_Var x tables s ∙ h) (value_Var y tables s ∙ k)

-- an operation on a variable and a literal
pub with_literal_value : (tables : List (List ℤ)) (s : State) (o : Op) (x : Int) (n a : ℤ) → read_int x s ≡ Is a → value (expr.Bin o (expr.Var x) (expr.Lit n)) tables s ≡ apply o (Is a) (Is n)
with_literal_value tables s o x n a h = bin_value tables s o (expr.Var x) (expr.Lit n) a n (value_Var x tables s ∙ h) (value_Lit n tables s)

pub plus_one_value : (tables : List (List ℤ)) (s : State) (x : Int) (p : ℕ) → read_int x s ≡ Is (pos p) → p + 1 < 2 ^ 63 → value (plus_one x) tables s ≡ Is (pos (p + 1))
plus_one_value tables s x p h lt = with_literal_value tables s op.Add x (pos 1) (pos p) h ∙ ranged_below (p + 1) lt

pub less_value : (tables : List (List ℤ)) (s : State) (x y : Int) (i n : ℕ) → read_int x s ≡ Is (pos i) → read_int y s ≡ Is (pos n) → value (less x y) tables s ≡ Is (truth (int_lt (pos i) (pos n)))
less_value tables s x y i n h k = on_values_value tables s op.Less x y (pos i) (pos n) h k

pub is_less : (i n : ℕ) → i < n → truth (int_lt (pos i) (pos n)) ≡ pos 1
is_less i n lt = grind (arith, nat_tests)

pub not_less : (i n : ℕ) → n ≤ i → truth (int_lt (pos i) (pos n)) ≡ pos 0
not_less i n le = grind (arith, nat_tests)

-- ---- Loops

-- What a loop that counts keeps: J j holds at its head where j turns are done, After j behind the body of turn j.
pub record Turned (c : Code) (Q : State → Type 0) (k n : ℕ) (length : Int) (L : ℕ) (body : List CStmt) (J After : ℕ → State → Type 0) (s : State) (Fail : FaultKind → State → Type 0) : Type 0 where
  pub short : L < 2 ^ 31
  -- the loop's own steps change nothing of it
  pub steps_on : (j : ℕ) (t : State) (todo : Todo) → J j t → J j (settled (record t { todo = todo })) × Q (settled (record t { todo = todo }))
  pub counter : (j : ℕ) (t : State) → J j t → t.ints n ≡ Some (pos j)
  pub bound : (j : ℕ) (t : State) → J j t → read_int length t ≡ Is (pos L)
  pub starts : (rest : Todo) → J 0 (after_set n (pos 0) rest s) × Q (after_set n (pos 0) rest s)
  pub turn : (j : ℕ) (t : State) → j < L → J j t → Does c Q k body t (After j) Fail
  pub kept : (j : ℕ) (u : State) → j < L → After j u → u.ints n ≡ Some (pos j)
  pub next : (j : ℕ) (u : State) → j < L → After j u → (rest : Todo) → J (suc j) (after_set n (pos (j + 1)) rest u) × Q (after_set n (pos (j + 1)) rest u)

-- somewhere on the way, with so many turns left
record OnWay (J : ℕ → State → Type 0) (L left : ℕ) (t : State) : Type 0 where
  pub done : ℕ
  pub turns : done + left ≡ L
  pub head : J done t

module _ (c : Code) where
  -- a local variable is set
  pub does_set : (Q : State → Type 0) (x : ℕ) (e : CExpr) (s : State) (Post : State → Type 0) (Fail : FaultKind → State → Type 0) (v : ℤ) → value e c.tables s ≡ Is v → ((rest : Todo) → Q (after_set x v rest s)) → ((rest : Todo) → Post (after_set x v rest s)) → Does c Q 1 (stmt.Set (int.Local x) e ∷ []) s Post Fail
  does_set Q x e s Post Fail v is q post = does_Set c Q (int.Local x) e s Post Fail v is q post

  -- any variable is set, and all but it is as it was
  pub does_write : (Q : State → Type 0) (x : Int) (e : CExpr) (s : State) (Fail : FaultKind → State → Type 0) (v : ℤ) → value e c.tables s ≡ Is v → ((t : State) → Written x v s t → Q t) → Does c Q 1 (stmt.Set x e ∷ []) s (Written x v s) Fail
  does_write Q x e s Fail v is q = does_Set c Q x e s (Written x v s) Fail v is (λ rest. q _ (written x v s rest)) (λ rest. written x v s rest)

  -- L turns, each of at most k steps in its body
  pub does_counted : (Q : State → Type 0) (k n : ℕ) (length : Int) (L : ℕ) (body : List CStmt) (J After : ℕ → State → Type 0) (s : State) (Fail : FaultKind → State → Type 0) → Turned c Q k n length L body J After s Fail → Does c Q (L * (k + 2) + 2) (counted_loop (int.Local n) length body) s (J L) Fail
  does_counted Q k n length L body J After s Fail p =
      does_weaken c Q Q (1 + (L * (k + 1 + 1) + 1)) (L * (k + 2) + 2) (counted_loop (int.Local n) length body) s (J L) (J L) Fail Fail (λ u x. x) (λ u x. x) (λ kind u x. x) (omega arith)
      (does_then c Q 1 (L * (k + 1 + 1) + 1) (stmt.Set (int.Local n) (expr.Lit (pos 0)) ∷ []) (stmt.While (less (int.Local n) length) turn ∷ []) s (OnWay J L L) (J L) Fail
      (does_set Q n (expr.Lit (pos 0)) s (OnWay J L L) Fail (pos 0) (value_Lit (pos 0) c.tables s) (λ rest. (p.starts rest).1) (λ rest. record { done = 0; turns = omega arith; head = (p.starts rest).0 }))
      (λ t h. does_while c Q (k + 1) (less (int.Local n) length) turn (OnWay J L) (J L) Fail last turns L t h))
    where
      turn : List CStmt
      turn = body ++ stmt.Set (int.Local n) (plus_one (int.Local n)) ∷ []

      last : (t : State) → OnWay J L 0 t → Leaves c Q (less (int.Local n) length) t (J L)
      last t h =
          let all : h.done ≡ L = omega (arith, h.turns) in
          record {
            test = pos 0;
            is = less_value c.tables t (int.Local n) length h.done L (ap or_unset (p.counter h.done t h.head)) (p.bound h.done t h.head) ∙ ap Is (not_less h.done L (omega (arith, all)));
            over = refl;
            way = λ todo. (p.steps_on h.done t todo h.head).1;
            post = λ todo. subst (λ j. J j (settled (record t { todo = todo }))) all (p.steps_on h.done t todo h.head).0;
          }

      turns : (left : ℕ) (t : State) → OnWay J L (suc left) t → Turns c Q (k + 1) (less (int.Local n) length) turn t (OnWay J L left) Fail
      turns left t h =
          let lt : h.done < L = omega (arith, h.turns) in
          let short : h.done + 1 < 2 ^ 63 = omega (arith, lt, p.short) in
          record {
            test = pos 1;
            is = less_value c.tables t (int.Local n) length h.done L (ap or_unset (p.counter h.done t h.head)) (p.bound h.done t h.head) ∙ ap Is (is_less h.done L lt);
            more = refl;
            way = λ todo. (p.steps_on h.done t todo h.head).1;
            turn = does_then c Q k 1 body (stmt.Set (int.Local n) (plus_one (int.Local n)) ∷ []) (settled t) (After h.done) (OnWay J L left) Fail
                (p.turn h.done (settled t) lt (p.steps_on h.done t t.todo h.head).0)
                (λ u a. does_set Q n (plus_one (int.Local n)) u (OnWay J L left) Fail (pos (h.done + 1))
                (plus_one_value c.tables u (int.Local n) h.done (ap or_unset (p.kept h.done u lt a)) short)
                (λ rest. (p.next h.done u lt a rest).1)
                (λ rest. record { done = suc h.done; turns = omega (arith, h.turns); head = (p.next h.done u lt a rest).0 }));
          }

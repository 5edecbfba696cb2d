-- How the nodes of statements, blocks and arms are put together.
use Rattle.std.proofs.Common.{◌≡◌, ◌∙◌, ap, sym, refl, subst, ℕ, suc, ◌+◌, List, [], ◌∷◌, ◌++◌, length, length-append, map, arith, add-zero, add_assoc, ℤ, Bool, true, false, cond, IsTrue}
use Rattle.std.specs.Prelude.{Some, None}
use Rattle.aplc_scalar.specs.Scalar.{int_eq}
use Rattle.aplc_cprof.specs.declared.syntax.Int.{Int}
use Rattle.aplc_cprof.specs.declared.syntax.Int.TheVariants as int
use Rattle.aplc_cprof.specs.declared.syntax.Buf.{Buf}
use Rattle.aplc_cprof.specs.declared.syntax.Buf.TheVariants as buf
use Rattle.aplc_cprof.specs.declared.syntax.CStmt.{CStmt}
use Rattle.aplc_cprof.specs.declared.syntax.CStmt.TheVariants as stmt
use Rattle.aplc_cprof.specs.declared.syntax.Arm.{Arm}
use Rattle.aplc_cprof.specs.WellFormed.{Scope, is_int, is_buf}
use Rattle.aplc_cprof.specs.Machine.{Todo, size, total, numbered, chosen}
use Rattle.aplc_cprof.proofs.Values.{size_If, size_While, size_Switch}
use Rattle.aplc_crun.specs.Terms.{expr_of}
use Rattle.aplc_crun.specs.declared.term.Term.{Term}
use Rattle.aplc_crun.specs.declared.code.Node.{Node}
use Rattle.aplc_crun.specs.declared.code.Node.TheVariants as form
use Rattle.aplc_crun.specs.declared.choices.Choice.{Choice}
use Rattle.aplc_crun.specs.Flat.{picked}
use Rattle.aplc_crun.specs.Laying.{Spot, Due, Globals, Falls, IntIn, BufIn, OnwardAt, LastAt, NodeOk, PartOk}
use Rattle.aplc_crun.proofs.Formed.{less, formed_more, formed_while, formed_if, formed_else, formed_arm, formed_switch}
use Rattle.aplc_crun.specs.Building.{globals_of, IsFormedStmt, spot, Within, Agrees, StmtOk, entry, BlockOk, arm_size, choices_of, chosen_or, ArmsOk}

pub agrees_first : (k : Due) (n : ℕ) (a b : List Spot) → Agrees k n (a ++ b) → Agrees k n a
agrees_first k n [] b h = tt
agrees_first k n (x ∷ a) b h = (h.0, agrees_first k (suc n) a b h.1)

pub agrees_second : (k : Due) (n m : ℕ) (a b : List Spot) → m ≡ n + length a → Agrees k n (a ++ b) → Agrees k m b
agrees_second k n m [] b e h = let q : n ≡ m = omega arith in subst (λ (m : ℕ). Agrees k m b) q h
agrees_second k n m (x ∷ a) b e h = agrees_second k (suc n) m a b (omega arith) h.1

pub part_append : (g : Globals) (k : Due) (n m : ℕ) (a b : List Node) → m ≡ n + length a → PartOk g k n a → PartOk g k m b → PartOk g k n (a ++ b)
part_append g k n m [] b e h i = let q : m ≡ n = omega arith in subst (λ (m : ℕ). PartOk g k m b) q i
part_append g k n m (x ∷ a) b e h i = (h.0, part_append g k (suc n) m a b (omega arith) h.1 i)

-- ---- What is known of a place in a function

todo_is : (sc : Scope) (k : Due) (n : ℕ) (t : Todo) → k n ≡ spot sc t → (k n).todo ≡ t
todo_is sc k n t e = ap (λ (s : Spot). s.todo) e

pub within_spot : (sc : Scope) (k : Due) (n : ℕ) (t : Todo) → k n ≡ spot sc t → Within sc (k n)
within_spot sc k n t e =
    let i : (k n).ints ≡ sc.ints = ap (λ (s : Spot). s.ints) e in
    let b : (k n).bufs ≡ sc.bufs = ap (λ (s : Spot). s.bufs) e in
    record { ints = omega arith; bufs = omega arith }

pub falls_to : (sc : Scope) (k : Due) (n m : ℕ) (t : Todo) → k n ≡ spot sc t → Within sc (k m) → Falls (k n) (k m)
falls_to sc k n m t e w =
    let i : (k n).ints ≡ sc.ints = ap (λ (s : Spot). s.ints) e in
    let b : (k n).bufs ≡ sc.bufs = ap (λ (s : Spot). s.bufs) e in
    record { ints = omega (arith, w.ints); bufs = omega (arith, w.bufs) }

pub int_in : (sc : Scope) (k : Due) (n : ℕ) (t : Todo) (x : Int) → k n ≡ spot sc t → IsTrue (is_int sc x) → IntIn (globals_of sc) (k n) x
int_in sc k n t (int.Local i) e h = let f : (k n).ints ≡ sc.ints = ap (λ (s : Spot). s.ints) e in let g = less i sc.ints h in omega arith
int_in sc k n t (int.Global i) e h = less i sc.global_ints h

pub buf_in : (sc : Scope) (k : Due) (n : ℕ) (t : Todo) (p : Buf) → k n ≡ spot sc t → IsTrue (is_buf sc p) → BufIn (globals_of sc) (k n) p
buf_in sc k n t (buf.Local i) e h = let f : (k n).bufs ≡ sc.bufs = ap (λ (s : Spot). s.bufs) e in let g = less i sc.bufs h in omega arith
buf_in sc k n t (buf.Global i) e h = less i sc.global_bufs h

pub onward_at : (sc : Scope) (k : Due) (n : ℕ) (x : CStmt) (next : ℕ) → Within sc (k next) → k n ≡ spot sc ((n, x) ∷ (k next).todo) → OnwardAt k n x next
onward_at sc k n x next w e = record { due = todo_is sc k n ((n, x) ∷ (k next).todo) e; falls = falls_to sc k n next ((n, x) ∷ (k next).todo) e w }

pub last_at : (sc : Scope) (k : Due) (n : ℕ) (x : CStmt) (next : ℕ) → k n ≡ spot sc ((n, x) ∷ (k next).todo) → LastAt k n x
last_at sc k n x next e = record { rest = (k next).todo; due = todo_is sc k n ((n, x) ∷ (k next).todo) e }

-- a statement with no statements in it
pub stmt_leaf : (sc : Scope) (at : ℕ) (nd : Node) (x : CStmt) (next : ℕ) → size x ≡ 1 → (IsFormedStmt sc x → (k : Due) → Within sc (k next) → k at ≡ spot sc ((at, x) ∷ (k next).todo) → NodeOk (globals_of sc) k at nd) → StmtOk sc at (nd ∷ []) x next
stmt_leaf sc at nd x next e g = record {
  size_is = omega arith;
  dues = λ rest. spot sc ((at, x) ∷ rest) ∷ [];
  lengths = λ rest. refl;
  nodes = λ f k w h. (g f k w h.0, tt);
  due = λ k h. h.0;
}

-- ---- Blocks

numbered_more : (n : ℕ) (xs : List CStmt) (x : CStmt) (rest : Todo) → numbered n (xs ++ x ∷ []) ++ rest ≡ numbered n xs ++ ((n + total (map size xs), x) ∷ rest)
numbered_more n [] x rest = ap (λ m. (m, x) ∷ rest) (sym (add-zero n))
numbered_more n (y ∷ xs) x rest =
    ap (λ t. (n, y) ∷ t) (numbered_more (n + size y) xs x rest ∙ ap (λ m. numbered (n + size y) xs ++ ((m, x) ∷ rest)) (add_assoc n (size y) (total (map size xs))))

total_one : (xs : List CStmt) (x : CStmt) → total (map size (xs ++ x ∷ [])) ≡ total (map size xs) + size x
total_one [] x = omega arith
total_one (y ∷ xs) x = let h = total_one xs x in omega arith

entry_more : (xs : List CStmt) (x : CStmt) (at n next : ℕ) → n ≡ at + total (map size xs) → entry (xs ++ x ∷ []) at next ≡ entry xs at n
entry_more [] x at n next e = omega arith
entry_more (y ∷ xs) x at n next e = refl

pub block_none : (sc : Scope) (at next : ℕ) → BlockOk sc at [] [] next
block_none sc at next = record { size_is = refl; dues = λ rest. []; lengths = λ rest. refl; nodes = λ f k w h. tt; due = λ k h. refl; inside = λ k w h. w }

-- a block, and one more statement
pub block_more : (sc : Scope) (at m : ℕ) (a b : List Node) (xs : List CStmt) (x : CStmt) (next : ℕ) → m ≡ at + length a → BlockOk sc at a xs m → StmtOk sc m b x next → BlockOk sc at (a ++ b) (xs ++ x ∷ []) next
block_more sc at m a b xs x next e p q = record {
  size_is = length-append a b ∙ (let f = total_one xs x in let g = p.size_is in let h = q.size_is in omega arith);
  dues = λ rest. p.dues ((m, x) ∷ rest) ++ q.dues rest;
  lengths = λ rest. length-append (p.dues ((m, x) ∷ rest)) (q.dues rest) ∙ (let f = p.lengths ((m, x) ∷ rest) in let g = q.lengths rest in let h = length-append a b in omega arith);
  nodes = λ f k w h. let d = formed_more sc xs x f in part_append (globals_of sc) k at m a b e (p.nodes d.0 k (middle k h) (first k h)) (q.nodes d.1 k w (second k h));
  due = λ k h.
      ap (λ n. (k n).todo) (entry_more xs x at m next (let g = p.size_is in omega arith))
      ∙ p.due k (first k h)
      ∙ ap (λ t. numbered at xs ++ t) (todo_is sc k m ((m, x) ∷ (k next).todo) (q.due k (second k h)))
      ∙ ap (λ n. numbered at xs ++ ((n, x) ∷ (k next).todo)) (let g = p.size_is in (omega arith))
      ∙ sym (numbered_more at xs x (k next).todo);
  inside = λ k w h.
      subst (λ (n : ℕ). Within sc (k n)) (sym (entry_more xs x at m next (let g = p.size_is in omega arith)))
      (p.inside k (middle k h) (first k h));
}
  where
    second : (k : Due) → Agrees k at (p.dues ((m, x) ∷ (k next).todo) ++ q.dues (k next).todo) → Agrees k m (q.dues (k next).todo)
    second k h = agrees_second k at m (p.dues ((m, x) ∷ (k next).todo)) (q.dues (k next).todo) (let f = p.lengths ((m, x) ∷ (k next).todo) in omega arith) h

    middle : (k : Due) → Agrees k at (p.dues ((m, x) ∷ (k next).todo) ++ q.dues (k next).todo) → Within sc (k m)
    middle k h = within_spot sc k m ((m, x) ∷ (k next).todo) (q.due k (agrees_second k at m (p.dues ((m, x) ∷ (k next).todo)) (q.dues (k next).todo) (let f = p.lengths ((m, x) ∷ (k next).todo) in omega arith) h))

    first : (k : Due) → Agrees k at (p.dues ((m, x) ∷ (k next).todo) ++ q.dues (k next).todo) → Agrees k at (p.dues (k m).todo)
    first k h =
        let there : (m, x) ∷ (k next).todo ≡ (k m).todo = sym (todo_is sc k m ((m, x) ∷ (k next).todo) (q.due k (agrees_second k at m (p.dues ((m, x) ∷ (k next).todo)) (q.dues (k next).todo) (let f = p.lengths ((m, x) ∷ (k next).todo) in omega arith) h))) in
        subst (λ (t : Todo). Agrees k at (p.dues t)) there (agrees_first k at (p.dues ((m, x) ∷ (k next).todo)) (q.dues (k next).todo) h)

-- where nodes begin that stand behind one place more
begins : (k : Due) (at m : ℕ) (ts us : List Spot) → m ≡ at + 1 → ts ≡ us → Agrees k (suc at) ts → Agrees k m us
begins k at m ts us e f h = let q : suc at ≡ m = omega arith in subst (λ (n : ℕ). Agrees k n us) q (subst (λ (us : List Spot). Agrees k (suc at) us) f h)

behind : (g : Globals) (k : Due) (at m : ℕ) (a : List Node) → m ≡ at + 1 → PartOk g k m a → PartOk g k (suc at) a
behind g k at m a e h = let q : m ≡ suc at = omega arith in subst (λ (n : ℕ). PartOk g k n a) q h

pub stmt_while : (sc : Scope) (at : ℕ) (e : Term) (a : List CStmt) (added : List Node) (next : ℕ) → BlockOk sc (at + 1) added a at → StmtOk sc at (form.While e (entry a (at + 1) at) next ∷ added) (stmt.While (expr_of e) a) next
stmt_while sc at e a added next b = record {
  size_is = let f = b.size_is in let g = size_While (expr_of e) a in omega arith;
  dues = λ rest. spot sc ((at, stmt.While (expr_of e) a) ∷ rest) ∷ b.dues ((at, stmt.While (expr_of e) a) ∷ rest);
  lengths = λ rest. ap suc (b.lengths ((at, stmt.While (expr_of e) a) ∷ rest));
  nodes = λ f k w h. (
    record {
      inner = a;
      due = todo_is sc k at ((at, stmt.While (expr_of e) a) ∷ (k next).todo) h.0;
      turn = b.due k (body k h);
      falls = falls_to sc k at next ((at, stmt.While (expr_of e) a) ∷ (k next).todo) h.0 w;
      falls_in = falls_to sc k at (entry a (at + 1) at) ((at, stmt.While (expr_of e) a) ∷ (k next).todo) h.0 (b.inside k (here k h) (body k h));
    },
    behind (globals_of sc) k at (at + 1) added refl (b.nodes (formed_while sc (expr_of e) a f) k (here k h) (body k h)),
  );
  due = λ k h. h.0;
}
  where
    here : (k : Due) → Agrees k at (spot sc ((at, stmt.While (expr_of e) a) ∷ (k next).todo) ∷ b.dues ((at, stmt.While (expr_of e) a) ∷ (k next).todo)) → Within sc (k at)
    here k h = within_spot sc k at ((at, stmt.While (expr_of e) a) ∷ (k next).todo) h.0

    body : (k : Due) → Agrees k at (spot sc ((at, stmt.While (expr_of e) a) ∷ (k next).todo) ∷ b.dues ((at, stmt.While (expr_of e) a) ∷ (k next).todo)) → Agrees k (at + 1) (b.dues (k at).todo)
    body k h = begins k at (at + 1) _ _ refl (ap b.dues (sym (todo_is sc k at ((at, stmt.While (expr_of e) a) ∷ (k next).todo) h.0))) h.1

pub stmt_if : (sc : Scope) (at : ℕ) (e : Term) (a : List CStmt) (added : List Node) (next : ℕ) → BlockOk sc (at + 1) added a next → StmtOk sc at (form.If e (entry a (at + 1) next) next ∷ added) (stmt.If (expr_of e) a None) next
stmt_if sc at e a added next b = record {
  size_is = let f = b.size_is in let g : size (stmt.If (expr_of e) a None) ≡ 1 + total (map size a) + 0 = size_If (expr_of e) a None in omega arith;
  dues = λ rest. spot sc ((at, stmt.If (expr_of e) a None) ∷ rest) ∷ b.dues rest;
  lengths = λ rest. ap suc (b.lengths rest);
  nodes = λ f k w h. (
    record {
      inner = a;
      others = None;
      rest = (k next).todo;
      due = todo_is sc k at ((at, stmt.If (expr_of e) a None) ∷ (k next).todo) h.0;
      first = b.due k (begins k at (at + 1) _ _ refl refl h.1);
      second = refl;
      falls_first = falls_to sc k at (entry a (at + 1) next) ((at, stmt.If (expr_of e) a None) ∷ (k next).todo) h.0 (b.inside k w (begins k at (at + 1) _ _ refl refl h.1));
      falls_second = falls_to sc k at next ((at, stmt.If (expr_of e) a None) ∷ (k next).todo) h.0 w;
    },
    behind (globals_of sc) k at (at + 1) added refl (b.nodes (formed_if sc (expr_of e) a f) k w (begins k at (at + 1) _ _ refl refl h.1)),
  );
  due = λ k h. h.0;
}

pub stmt_else : (sc : Scope) (at m : ℕ) (e : Term) (a o : List CStmt) (first second : List Node) (next : ℕ) → m ≡ at + 1 + total (map size a) → BlockOk sc (at + 1) first a next → BlockOk sc m second o next → StmtOk sc at (form.If e (entry a (at + 1) next) (entry o m next) ∷ (first ++ second)) (stmt.If (expr_of e) a (Some o)) next
stmt_else sc at m e a o first second next place b c = record {
  size_is = let f = b.size_is in let f2 = c.size_is in let j = length-append first second in let g : size (stmt.If (expr_of e) a (Some o)) ≡ 1 + total (map size a) + total (map size o) = size_If (expr_of e) a (Some o) in omega arith;
  dues = λ rest. spot sc ((at, stmt.If (expr_of e) a (Some o)) ∷ rest) ∷ (b.dues rest ++ c.dues rest);
  lengths = λ rest. ap suc (length-append (b.dues rest) (c.dues rest) ∙ (let f = b.lengths rest in let g = c.lengths rest in let j = length-append first second in omega arith));
  nodes = λ f k w h. (
    record {
      inner = a;
      others = Some o;
      rest = (k next).todo;
      due = todo_is sc k at ((at, stmt.If (expr_of e) a (Some o)) ∷ (k next).todo) h.0;
      first = b.due k (one k h);
      second = c.due k (two k h) ∙ ap (λ n. numbered n o ++ (k next).todo) place;
      falls_first = falls_to sc k at (entry a (at + 1) next) ((at, stmt.If (expr_of e) a (Some o)) ∷ (k next).todo) h.0 (b.inside k w (one k h));
      falls_second = falls_to sc k at (entry o m next) ((at, stmt.If (expr_of e) a (Some o)) ∷ (k next).todo) h.0 (c.inside k w (two k h));
    },
    behind (globals_of sc) k at (at + 1) (first ++ second) refl (part_append (globals_of sc) k (at + 1) m first second (let g = b.size_is in omega arith) (b.nodes (formed_else sc (expr_of e) a o f).0 k w (one k h)) (c.nodes (formed_else sc (expr_of e) a o f).1 k w (two k h))),
  );
  due = λ k h. h.0;
}
  where
    one : (k : Due) → Agrees k at (spot sc ((at, stmt.If (expr_of e) a (Some o)) ∷ (k next).todo) ∷ (b.dues (k next).todo ++ c.dues (k next).todo)) → Agrees k (at + 1) (b.dues (k next).todo)
    one k h = agrees_first k (at + 1) (b.dues (k next).todo) (c.dues (k next).todo) (begins k at (at + 1) _ _ refl refl h.1)

    two : (k : Due) → Agrees k at (spot sc ((at, stmt.If (expr_of e) a (Some o)) ∷ (k next).todo) ∷ (b.dues (k next).todo ++ c.dues (k next).todo)) → Agrees k m (c.dues (k next).todo)
    two k h = agrees_second k (at + 1) m (b.dues (k next).todo) (c.dues (k next).todo) (let f = b.lengths (k next).todo in let g = b.size_is in omega arith) (begins k at (at + 1) _ _ refl refl h.1)

-- ---- Arms

arms_one : (arms : List Arm) (a : Arm) → total (map arm_size (arms ++ a ∷ [])) ≡ total (map arm_size arms) + arm_size a
arms_one [] a = omega arith
arms_one (b ∷ arms) a = let h = arms_one arms a in omega arith

choices_more : (at m : ℕ) (arms : List Arm) (a : Arm) (next : ℕ) → m ≡ at + total (map arm_size arms) → choices_of at (arms ++ a ∷ []) next ≡ choices_of at arms next ++ record { value = a.value; at = entry a.body m next } ∷ []
choices_more at m [] a next e = let f : at ≡ m = omega arith in ap (λ n. record { value = a.value; at = entry a.body n next } ∷ []) f
choices_more at m (b ∷ arms) a next e = ap (λ cs. record { value = b.value; at = entry b.body at next } ∷ cs) (choices_more (at + arm_size b) m arms a next (omega arith))

picked_more : (v : ℤ) (cs : List Choice) (c : Choice) (other : ℕ) → picked v (cs ++ c ∷ []) other ≡ picked v cs (cond (int_eq v c.value) c.at other)
picked_more v [] c other = refl
picked_more v (d ∷ cs) c other = ap (λ n. cond (int_eq v d.value) d.at n) (picked_more v cs c other)

chosen_more : (v : ℤ) (n m : ℕ) (arms : List Arm) (a : Arm) (t : Todo) → m ≡ n + total (map arm_size arms) → chosen_or v n (arms ++ a ∷ []) t ≡ chosen_or v n arms (cond (int_eq v a.value) (numbered m a.body) t)
chosen_more v n m [] a t e = let f : n ≡ m = omega arith in ap (λ i. cond (int_eq v a.value) (numbered i a.body) t) f
chosen_more v n m (b ∷ arms) a t e = ap (λ u. cond (int_eq v b.value) (numbered n b.body) u) (chosen_more v (n + arm_size b) m arms a t (omega arith))

chosen_is : (v : ℤ) (n m : ℕ) (arms : List Arm) (d : List CStmt) → m ≡ n + total (map arm_size arms) → chosen v n arms d ≡ chosen_or v n arms (numbered m d)
chosen_is v n m [] d e = let f : n ≡ m = omega arith in ap (λ i. numbered i d) f
chosen_is v n m (a ∷ arms) d e = ap (λ u. cond (int_eq v a.value) (numbered n a.body) u) (chosen_is v (n + arm_size a) m arms d (omega arith))

pub arms_none : (sc : Scope) (at next : ℕ) → ArmsOk sc at [] [] next
arms_none sc at next = record { size_is = refl; dues = λ rest. []; lengths = λ rest. refl; nodes = λ f k w h. tt; picks = λ k h v other t e. e; inside = λ k w h v other o. o }

either_todo : (k : Due) (b : Bool) (here other : ℕ) (s t rest : Todo) → (k here).todo ≡ s ++ rest → (k other).todo ≡ t ++ rest → (k (cond b here other)).todo ≡ cond b s t ++ rest
either_todo k true here other s t rest e f = e
either_todo k false here other s t rest e f = f

either_within : (sc : Scope) (k : Due) (b : Bool) (here other : ℕ) → Within sc (k here) → Within sc (k other) → Within sc (k (cond b here other))
either_within sc k true here other e f = e
either_within sc k false here other e f = f

-- arms, and one more
pub arms_more : (sc : Scope) (at m : ℕ) (a b : List Node) (arms : List Arm) (arm : Arm) (next : ℕ) → m ≡ at + length a → ArmsOk sc at a arms next → BlockOk sc m b arm.body next → ArmsOk sc at (a ++ b) (arms ++ arm ∷ []) next
arms_more sc at m a b arms arm next e p q = record {
  size_is = length-append a b ∙ (let f = arms_one arms arm in let g = p.size_is in let h = q.size_is in omega arith);
  dues = λ rest. p.dues rest ++ q.dues rest;
  lengths = λ rest. length-append (p.dues rest) (q.dues rest) ∙ (let f = p.lengths rest in let g = q.lengths rest in let h = length-append a b in omega arith);
  nodes = λ f k w h. let d = formed_arm sc arms arm f in part_append (globals_of sc) k at m a b e (p.nodes d.0 k w (first k h)) (q.nodes d.1 k w (second k h));
  picks = λ k h v other t is.
      ap (λ (cs : List Choice). (k (picked v cs other)).todo) (choices_more at m arms arm next place)
      ∙ ap (λ n. (k n).todo) (picked_more v (choices_of at arms next) (record { value = arm.value; at = entry arm.body m next }) other)
      ∙ p.picks k (first k h) v (cond (int_eq v arm.value) (entry arm.body m next) other) (cond (int_eq v arm.value) (numbered m arm.body) t)
      (either_todo k (int_eq v arm.value) (entry arm.body m next) other (numbered m arm.body) t (k next).todo (q.due k (second k h)) is)
      ∙ ap (λ u. u ++ (k next).todo) (sym (chosen_more v at m arms arm t place));
  inside = λ k w h v other o.
      subst (λ (cs : List Choice). Within sc (k (picked v cs other))) (sym (choices_more at m arms arm next place))
      (subst (λ (n : ℕ). Within sc (k n)) (sym (picked_more v (choices_of at arms next) (record { value = arm.value; at = entry arm.body m next }) other))
      (p.inside k w (first k h) v (cond (int_eq v arm.value) (entry arm.body m next) other)
      (either_within sc k (int_eq v arm.value) (entry arm.body m next) other (q.inside k w (second k h)) o)));
}
  where
    place : m ≡ at + total (map arm_size arms)
    place = let g = p.size_is in omega arith

    first : (k : Due) → Agrees k at (p.dues (k next).todo ++ q.dues (k next).todo) → Agrees k at (p.dues (k next).todo)
    first k h = agrees_first k at (p.dues (k next).todo) (q.dues (k next).todo) h

    second : (k : Due) → Agrees k at (p.dues (k next).todo ++ q.dues (k next).todo) → Agrees k m (q.dues (k next).todo)
    second k h = agrees_second k at m (p.dues (k next).todo) (q.dues (k next).todo) (let f = p.lengths (k next).todo in omega arith) h

pub stmt_switch : (sc : Scope) (at m : ℕ) (x : Int) (arms : List Arm) (d : List CStmt) (first second : List Node) (next : ℕ) → m ≡ at + 1 + total (map arm_size arms) → ArmsOk sc (at + 1) first arms next → BlockOk sc m second d next → StmtOk sc at (form.Switch x (choices_of (at + 1) arms next) (entry d m next) ∷ (first ++ second)) (stmt.Switch x arms d) next
stmt_switch sc at m x arms d first second next place b c = record {
  size_is = let f = b.size_is in let f2 = c.size_is in let j = length-append first second in let g : size (stmt.Switch x arms d) ≡ 1 + total (map arm_size arms) + total (map size d) = size_Switch x arms d in omega arith;
  dues = λ rest. spot sc ((at, stmt.Switch x arms d) ∷ rest) ∷ (b.dues rest ++ c.dues rest);
  lengths = λ rest. ap suc (length-append (b.dues rest) (c.dues rest) ∙ (let f = b.lengths rest in let g = c.lengths rest in let j = length-append first second in omega arith));
  nodes = λ f k w h. (
    record {
      arms = arms;
      default = d;
      rest = (k next).todo;
      due = todo_is sc k at ((at, stmt.Switch x arms d) ∷ (k next).todo) h.0;
      picks = λ v.
          b.picks k (one k h) v (entry d m next) (numbered m d) (c.due k (two k h))
          ∙ ap (λ t. t ++ (k next).todo) (sym (chosen_is v (at + 1) m arms d place));
      falls = λ v.
          falls_to sc k at (picked v (choices_of (at + 1) arms next) (entry d m next)) ((at, stmt.Switch x arms d) ∷ (k next).todo) h.0
          (b.inside k w (one k h) v (entry d m next) (c.inside k w (two k h)));
    },
    behind (globals_of sc) k at (at + 1) (first ++ second) refl (part_append (globals_of sc) k (at + 1) m first second (let g = b.size_is in omega arith) (b.nodes (formed_switch sc x arms d f).0 k w (one k h)) (c.nodes (formed_switch sc x arms d f).1 k w (two k h))),
  );
  due = λ k h. h.0;
}
  where
    one : (k : Due) → Agrees k at (spot sc ((at, stmt.Switch x arms d) ∷ (k next).todo) ∷ (b.dues (k next).todo ++ c.dues (k next).todo)) → Agrees k (at + 1) (b.dues (k next).todo)
    one k h = agrees_first k (at + 1) (b.dues (k next).todo) (c.dues (k next).todo) (begins k at (at + 1) _ _ refl refl h.1)

    two : (k : Due) → Agrees k at (spot sc ((at, stmt.Switch x arms d) ∷ (k next).todo) ∷ (b.dues (k next).todo ++ c.dues (k next).todo)) → Agrees k m (c.dues (k next).todo)
    two k h = agrees_second k (at + 1) m (b.dues (k next).todo) (c.dues (k next).todo) (let f = b.lengths (k next).todo in let g = b.size_is in omega arith) (begins k at (at + 1) _ _ refl refl h.1)

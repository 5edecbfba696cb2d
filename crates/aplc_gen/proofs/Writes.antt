-- What stands again after a step that set a variable.
use Rattle.std.proofs.Common.{◌≡◌, ℕ, suc, ◌+◌, ◌<◌, ◌≤◌, List, [], ◌∷◌, ◌⊎◌, inl, inr, refl, sym, ap, ◌∙◌, subst, arith, ℤ, pos, Bool, true, false, cond, length}
use Rattle.std.specs.Prelude.{Option, Some, None, nat_eq, ◌||◌}
use Rattle.std.proofs.lemmas.Bool.Decides.{eqb_tells}
use Rattle.std.proofs.lemmas.Bool.{ne_eqb}
use Rattle.aplc_arr.specs.Arrays.{Array}
use Rattle.aplc_cprof.specs.declared.syntax.Int.{Int}
use Rattle.aplc_cprof.specs.declared.syntax.Int.TheVariants as int
use Rattle.aplc_cprof.specs.declared.syntax.CExpr.{CExpr}
use Rattle.aplc_cprof.specs.declared.syntax.CStmt.TheVariants as stmt
use Rattle.aplc_cprof.specs.Machine.{Todo, Code, Caller, State, Is, read_int, set_int, settled}
use Rattle.aplc_cprof.specs.Machine as machine
use Rattle.aplc_cprof.proofs.Rules.{Any, Runs}
use Rattle.aplc_cprof.proofs.Singles.{runs_Set}
use Rattle.aplc_cprof.proofs.Writes.{Written, written, written_other}
use Rattle.aplc_names.specs.States.{Places, Place, World, is_among, set_name, depth}
use Rattle.aplc_core.specs.CoreRuns.{Slots}
use Rattle.aplc_gen.specs.Sound.{Ready}
use Rattle.aplc_gen.specs.Layouts.{Layout, Site, the_frame, place_in, line_place, slot_place, base, global_base, local_value, local_flag, global_value, global_flag}
use Rattle.aplc_gen.specs.Layouts as layouts
use Rattle.aplc_gen.specs.Relation.{IsHeld, IsNamed, Globals, Locals, AreReady, Bounds, IsCounted, Common, Here, Between, owe}

-- ---- Variables

pub set_does : (c : Code) (x : Int) (e : CExpr) (s : State) (Stop : State → Type 0) (v : ℤ) → machine.value e c.tables s ≡ Is v → Runs c Any (stmt.Set x e ∷ []) s (Written x v s) Stop
set_does c x e s Stop v is = runs_Set c Any x e s (Written x v s) Stop v is (λ rest. tt) (written x v s)

pub local_differs : (j k : ℕ) → (j ≡ k → ⊥) → int.Local j ≡ int.Local k → ⊥
local_differs j k ne e = ne (cc)

pub global_differs : (j k : ℕ) → (j ≡ k → ⊥) → int.Global j ≡ int.Global k → ⊥
global_differs j k ne e = ne (cc)

pub sorts_differ : (j k : ℕ) → int.Local j ≡ int.Global k → ⊥
sorts_differ j k e = cc

-- ---- Places in lists

pub place_below : (xs : List ℕ) (n : ℕ) → is_among n xs ≡ true → place_in xs n < length xs
place_below [] n h = absurd (cc)
place_below (x ∷ xs) n h = by_test (place_below xs n) (eqb_tells x n)
  where
    by_test : (is_among n xs ≡ true → place_in xs n < length xs) → ((nat_eq x n ≡ true) × (x ≡ n)) ⊎ ((nat_eq x n ≡ false) × (x ≡ n → ⊥)) → place_in (x ∷ xs) n < length (x ∷ xs)
    by_test ih (inl e) = let is : place_in (x ∷ xs) n ≡ 0 = ap (λ b. cond b 0 (suc (place_in xs n))) e.0 in omega (arith, is)
    by_test ih (inr ne) =
        let is : place_in (x ∷ xs) n ≡ suc (place_in xs n) = ap (λ b. cond b 0 (suc (place_in xs n))) ne.0 in
        let more = ih (sym (ap (λ b. b || is_among n xs) (ne_eqb n x (λ e. ne.1 (sym e)))) ∙ h) in
        omega (arith, is, more)

-- members at one place are one
pub place_same : (xs : List ℕ) (m n : ℕ) → is_among m xs ≡ true → place_in xs m ≡ place_in xs n → m ≡ n
place_same [] m n h e = absurd (cc)
place_same (x ∷ xs) m n h e = by_tests (place_same xs m n) (eqb_tells x m) (eqb_tells x n)
  where
    by_tests : (is_among m xs ≡ true → place_in xs m ≡ place_in xs n → m ≡ n) → ((nat_eq x m ≡ true) × (x ≡ m)) ⊎ ((nat_eq x m ≡ false) × (x ≡ m → ⊥)) → ((nat_eq x n ≡ true) × (x ≡ n)) ⊎ ((nat_eq x n ≡ false) × (x ≡ n → ⊥)) → m ≡ n
    by_tests ih (inl a) (inl b) = sym a.1 ∙ b.1
    by_tests ih (inl a) (inr b) =
        let p : place_in (x ∷ xs) m ≡ 0 = ap (λ t. cond t 0 (suc (place_in xs m))) a.0 in
        let q : place_in (x ∷ xs) n ≡ suc (place_in xs n) = ap (λ t. cond t 0 (suc (place_in xs n))) b.0 in
        absurd (omega (arith, e, p, q))
    by_tests ih (inr a) (inl b) =
        let p : place_in (x ∷ xs) m ≡ suc (place_in xs m) = ap (λ t. cond t 0 (suc (place_in xs m))) a.0 in
        let q : place_in (x ∷ xs) n ≡ 0 = ap (λ t. cond t 0 (suc (place_in xs n))) b.0 in
        absurd (omega (arith, e, p, q))
    by_tests ih (inr a) (inr b) =
        let p : place_in (x ∷ xs) m ≡ suc (place_in xs m) = ap (λ t. cond t 0 (suc (place_in xs m))) a.0 in
        let q : place_in (x ∷ xs) n ≡ suc (place_in xs n) = ap (λ t. cond t 0 (suc (place_in xs n))) b.0 in
        ih (sym (ap (λ t. t || is_among m xs) (ne_eqb m x (λ e. a.1 (sym e)))) ∙ h) (omega (arith, e, p, q))

-- ---- A state that shows the same

-- nothing but variables and steps has changed, in at most d steps
pub record Quiet (d : ℕ) (s t : State) : Type 0 where
  pub output : t.output ≡ s.output
  pub marks : t.marks ≡ s.marks
  pub places : t.places ≡ s.places
  pub callers : t.callers ≡ s.callers
  pub input : t.input ≡ s.input
  pub more : s.steps ≤ t.steps
  pub cost : t.steps ≤ s.steps + d

pub quiet_written : (x : Int) (v : ℤ) (s t : State) → Written x v s t → Quiet 1 s t
quiet_written x v s t w =
    let e = w.steps in
    record { output = w.output; marks = w.marks; places = w.places; callers = w.callers; input = w.input; more = omega (arith, e); cost = omega (arith, e) }

pub quiet_settled : (s : State) (todo : Todo) → Quiet 1 s (settled (record s { todo = todo }))
quiet_settled s todo = record { output = refl; marks = refl; places = refl; callers = refl; input = refl; more = omega arith; cost = omega arith }

pub quiet_todo : (s : State) (todo : Todo) → Quiet 0 s (record s { todo = todo })
quiet_todo s todo = record { output = refl; marks = refl; places = refl; callers = refl; input = refl; more = omega arith; cost = omega arith }

pub quiet_less : (d e : ℕ) (s t : State) → d ≤ e → Quiet d s t → Quiet e s t
quiet_less d e s t le q = let x = q.cost in record { output = q.output; marks = q.marks; places = q.places; callers = q.callers; input = q.input; more = q.more; cost = omega (arith, x, le) }

pub quiet_trans : (d e : ℕ) (s t u : State) → Quiet d s t → Quiet e t u → Quiet (d + e) s u
quiet_trans d e s t u p q =
    let a = p.more in
    let b = q.more in
    let x = p.cost in
    let y = q.cost in
    record {
      output = q.output ∙ p.output;
      marks = q.marks ∙ p.marks;
      places = q.places ∙ p.places;
      callers = q.callers ∙ p.callers;
      input = q.input ∙ p.input;
      more = omega (arith, a, b);
      cost = omega (arith, x, y);
    }

-- ---- Values

pub held_kept : (x : Int) (v : Array) (s t : State) → read_int x t ≡ read_int x s → IsHeld x v s → IsHeld x v t
held_kept x v s t same h = record { number = h.number; is = h.is; value = same ∙ h.value }

-- a flag is looked at only where there is one
pub named_kept : (flagged : Bool) (x f : Int) (o : Option Array) (s t : State) → read_int x t ≡ read_int x s → (flagged ≡ true → read_int f t ≡ read_int f s) → IsNamed flagged x f o s → IsNamed flagged x f o t
named_kept true x f None s t same flag h = flag refl ∙ h
named_kept true x f (Some v) s t same flag h = (held_kept x v s t same h.0, flag refl ∙ h.1)
named_kept false x f None s t same flag h = tt
named_kept false x f (Some v) s t same flag h = held_kept x v s t same h

pub held_of : (flagged : Bool) (x f : Int) (v : Array) (s : State) → IsNamed flagged x f (Some v) s → IsHeld x v s
held_of true x f v s h = h.0
held_of false x f v s h = h

-- a name that is given a value
pub named_set : (flagged : Bool) (x f : Int) (v : Array) (t : State) → IsHeld x v t → (flagged ≡ true → read_int f t ≡ Is (pos 1)) → IsNamed flagged x f (Some v) t
named_set true x f v t h flag = (h, flag refl)
named_set false x f v t h flag = h

-- ---- Names

-- the variables of names, and the count of calls
abbrev pub GlobalsSame : Layout → State → State → Type 0
GlobalsSame y s t = (x : ℕ) → (x ≡ 0) ⊎ (global_base y ≤ x) → read_int (int.Global x) t ≡ read_int (int.Global x) s

abbrev pub LocalsSame : Site → State → State → Type 0
LocalsSame g s t = (x : ℕ) → x < line_place g → read_int (int.Local x) t ≡ read_int (int.Local x) s

abbrev pub SlotsSame : Site → State → State → Type 0
SlotsSame g s t = (x : ℕ) → line_place g < x → x < base g → read_int (int.Local x) t ≡ read_int (int.Local x) s

pub globals_kept : (y : Layout) (S : World) (s t : State) → ((x : ℕ) → global_base y ≤ x → read_int (int.Global x) t ≡ read_int (int.Global x) s) → Globals y S s → Globals y S t
globals_kept y S s t same h n among =
    named_kept (is_among n y.unsure) (global_value y n) (global_flag y n) (S.globals n) s t
    (same (global_base y + place_in y.globals n) (omega arith))
    (λ flagged. same (global_base y + length y.globals + place_in y.unsure n) (omega arith))
    (h n among)

pub locals_kept : (g : Site) (S : World) (s t : State) → LocalsSame g s t → Locals g S s → Locals g S t
locals_kept g S s t same h n among =
    let f = the_frame g in
    named_kept (is_among n f.unsure) (local_value g n) (local_flag g n) (S.locals n) s t
    (same (place_in f.names n) (let lt = place_below f.names n among in omega (arith, lt)))
    (λ flagged. same (length f.names + place_in f.unsure n) (let lt = place_below f.unsure n flagged in omega (arith, lt)))
    (h n among)

pub ready_kept : (g : Site) (r : Ready) (slots : Slots) (s t : State) → SlotsSame g s t → AreReady g r slots s → AreReady g r slots t
ready_kept g r slots s t same h k i kept =
    let a = h k i kept in
    let lt = a.below in
    record { value = a.value; below = a.below; is = a.is; held = held_kept (int.Local (slot_place g k)) a.value s t (same (slot_place g k) (omega arith) (omega (arith, lt))) a.held }

pub counted_same : (counted : Bool) (S : World) (s t : State) → read_int layouts.depth t ≡ read_int layouts.depth s → IsCounted counted S s → IsCounted counted S t
counted_same true S s t same h = same ∙ h
counted_same false S s t same h = tt

-- where as many frames stand
pub counted_other : (counted : Bool) (S T : World) (s : State) → depth T.places ≡ depth S.places → IsCounted counted S s → IsCounted counted T s
counted_other true S T s e h = h ∙ ap (λ k. Is (pos k)) (sym e)
counted_other false S T s e h = tt

pub counted_kept : (y : Layout) (S : World) (s t : State) → GlobalsSame y s t → IsCounted y.counted S s → IsCounted y.counted S t
counted_kept y S s t same h = counted_same y.counted S s t (same 0 (inl refl)) h

-- ---- Whole states

pub common_kept : (y : Layout) (b : Bounds) (d : ℕ) (S : World) (s t : State) → Quiet d s t → GlobalsSame y s t → Common y b S s → Common y (owe d b) S t
common_kept y b d S s t q same h =
    let more = q.more in
    let cost = q.cost in
    let count = h.count in
    let taken = h.taken in
    record {
      globals = globals_kept y S s t (λ x le. same x (inr le)) h.globals;
      counted = counted_kept y S s t same h.counted;
      output = q.output ∙ h.output;
      marks = q.marks ∙ h.marks;
      behind = ap (λ (ps : machine.Places). ps.behind) q.places ∙ h.behind;
      input = q.input ∙ h.input;
      below = h.below;
      count = omega (arith, more, count);
      taken = omega (arith, cost, taken);
      set = h.set;
    }

-- less is known of steps and lines
pub record Looser (b e : Bounds) : Type 0 where
  pub lines : e.lines ≤ b.lines
  pub fuel : b.fuel ≤ e.fuel
  pub credit : b.owed + e.paid ≤ e.owed + b.paid
  pub set : (n : ℕ) → e.set n ≡ true → b.set n ≡ true

pub owes : (b : Bounds) (d k : ℕ) → d ≤ k → Looser (owe d b) (owe k b)
owes b d k le = record { lines = omega arith; fuel = omega arith; credit = omega (arith, le); set = λ n h. h }

pub owes_both : (b : Bounds) (d e k : ℕ) → d + e ≤ k → Looser (owe e (owe d b)) (owe k b)
owes_both b d e k le = record { lines = omega arith; fuel = omega arith; credit = omega (arith, le); set = λ n h. h }

-- nothing more is owed
pub owes_none : (b : Bounds) → Looser (owe 0 b) b
owes_none b = record { lines = omega arith; fuel = omega arith; credit = omega arith; set = λ n h. h }

pub looser_trans : (a b d : Bounds) → Looser a b → Looser b d → Looser a d
looser_trans a b d p q =
    let pl = p.lines in
    let ql = q.lines in
    let pf = p.fuel in
    let qf = q.fuel in
    let pc = p.credit in
    let qc = q.credit in
    record { lines = omega (arith, pl, ql); fuel = omega (arith, pf, qf); credit = omega (arith, pc, qc); set = λ n h. p.set n (q.set n h) }

pub common_looser : (y : Layout) (b e : Bounds) (S : World) (s : State) → Looser b e → Common y b S s → Common y e S s
common_looser y b e S s l h =
    let lines = l.lines in
    let fuel = l.fuel in
    let credit = l.credit in
    let below = h.below in
    let count = h.count in
    let taken = h.taken in
    record { globals = h.globals; counted = h.counted; output = h.output; marks = h.marks; behind = h.behind; input = h.input; below = omega (arith, fuel, below); count = omega (arith, lines, count); taken = omega (arith, credit, taken); set = λ n k. h.set n (l.set n k) }

pub common_todo : (y : Layout) (b : Bounds) (S : World) (s : State) (todo : Todo) → Common y b S s → Common y b S (record s { todo = todo })
common_todo y b S s todo h = common_looser y (owe 0 b) b S (record s { todo = todo }) (owes_none b) (common_kept y b 0 S s (record s { todo = todo }) (quiet_todo s todo) (λ x of. refl) h)

-- a local variable is none of what all frames have
pub globals_local : (y : Layout) (k : ℕ) (v : ℤ) (s t : State) → Written (int.Local k) v s t → GlobalsSame y s t
globals_local y k v s t w x of = written_other (int.Local k) (int.Global x) v s t w (λ e. sorts_differ k x (sym e))

-- nor is a global one on its way
pub globals_passed : (y : Layout) (k : ℕ) (v : ℤ) (s t : State) → 0 < k → k < global_base y → Written (int.Global k) v s t → GlobalsSame y s t
globals_passed y k v s t some lt w x (inl e) = written_other (int.Global k) (int.Global x) v s t w (λ d. global_differs x k (λ (f : x ≡ k). omega (arith, e, f, some)) d)
globals_passed y k v s t some lt w x (inr le) = written_other (int.Global k) (int.Global x) v s t w (λ d. global_differs x k (λ (f : x ≡ k). omega (arith, le, f, lt)) d)

pub locals_local : (g : Site) (k : ℕ) (v : ℤ) (s t : State) → line_place g ≤ k → Written (int.Local k) v s t → LocalsSame g s t
locals_local g k v s t le w x lt = written_other (int.Local k) (int.Local x) v s t w (local_differs x k (λ (e : x ≡ k). omega (arith, le, lt, e)))

pub locals_global : (g : Site) (k : ℕ) (v : ℤ) (s t : State) → Written (int.Global k) v s t → LocalsSame g s t
locals_global g k v s t w x lt = written_other (int.Global k) (int.Local x) v s t w (sorts_differ x k)

pub slots_local : (g : Site) (k : ℕ) (v : ℤ) (s t : State) → (k ≤ line_place g) ⊎ (base g ≤ k) → Written (int.Local k) v s t → SlotsSame g s t
slots_local g k v s t (inl le) w x more lt = written_other (int.Local k) (int.Local x) v s t w (local_differs x k (λ (e : x ≡ k). omega (arith, le, more, e)))
slots_local g k v s t (inr le) w x more lt = written_other (int.Local k) (int.Local x) v s t w (local_differs x k (λ (e : x ≡ k). omega (arith, le, lt, e)))

pub slots_global : (g : Site) (k : ℕ) (v : ℤ) (s t : State) → Written (int.Global k) v s t → SlotsSame g s t
slots_global g k v s t w x more lt = written_other (int.Global k) (int.Local x) v s t w (sorts_differ x k)

pub here_kept : (g : Site) (b : Bounds) (d : ℕ) (known : List ℕ) (r : Ready) (slots : Slots) (ps : Places) (cs : List Caller) (S : World) (s t : State) → Quiet d s t → GlobalsSame g.layout s t → LocalsSame g s t → SlotsSame g s t → Here g b known r slots ps cs S s → Here g (owe d b) known r slots ps cs S t
here_kept g b d known r slots ps cs S s t q globals locals inside h = record {
  common = common_kept g.layout b d S s t q globals h.common;
  locals = locals_kept g S s t locals h.locals;
  knows = h.knows;
  stored = h.stored;
  ready = ready_kept g r slots s t inside h.ready;
  here = ap (λ (ps : machine.Places). ps.here) q.places ∙ h.here;
  places = h.places;
  callers = q.callers ∙ h.callers;
}

pub between_kept : (g : Site) (b : Bounds) (d : ℕ) (known : List ℕ) (here : Place) (behind : List Place) (cs : List Caller) (S : World) (s t : State) → Quiet d s t → GlobalsSame g.layout s t → LocalsSame g s t → Between g b known here behind cs S s → Between g (owe d b) known here behind cs S t
between_kept g b d known here behind cs S s t q globals locals h = record {
  common = common_kept g.layout b d S s t q globals h.common;
  locals = locals_kept g S s t locals h.locals;
  knows = h.knows;
  function = h.function;
  around = h.around;
  callers = q.callers ∙ h.callers;
}

pub between_looser : (g : Site) (b e : Bounds) (known : List ℕ) (here : Place) (behind : List Place) (cs : List Caller) (S : World) (s : State) → Looser b e → Between g b known here behind cs S s → Between g e known here behind cs S s
between_looser g b e known here behind cs S s l h = record {
  common = common_looser g.layout b e S s l h.common;
  locals = h.locals;
  knows = h.knows;
  function = h.function;
  around = h.around;
  callers = h.callers;
}

pub here_looser : (g : Site) (b e : Bounds) (known : List ℕ) (r : Ready) (slots : Slots) (ps : Places) (cs : List Caller) (S : World) (s : State) → Looser b e → Here g b known r slots ps cs S s → Here g e known r slots ps cs S s
here_looser g b e known r slots ps cs S s l h = record {
  common = common_looser g.layout b e S s l h.common;
  locals = h.locals;
  knows = h.knows;
  stored = h.stored;
  ready = h.ready;
  here = h.here;
  places = h.places;
  callers = h.callers;
}

-- what is due is none of it
pub between_todo : (g : Site) (b : Bounds) (known : List ℕ) (here : Place) (behind : List Place) (cs : List Caller) (S : World) (s : State) (todo : Todo) → Between g b known here behind cs S s → Between g b known here behind cs S (record s { todo = todo })
between_todo g b known here behind cs S s todo h = between_looser g (owe 0 b) b known here behind cs S (record s { todo = todo }) (owes_none b) (between_kept g b 0 known here behind cs S s (record s { todo = todo }) (quiet_todo s todo) (λ x of. refl) (λ x lt. refl) h)

pub here_todo : (g : Site) (b : Bounds) (known : List ℕ) (r : Ready) (slots : Slots) (ps : Places) (cs : List Caller) (S : World) (s : State) (todo : Todo) → Here g b known r slots ps cs S s → Here g b known r slots ps cs S (record s { todo = todo })
here_todo g b known r slots ps cs S s todo h = here_looser g (owe 0 b) b known r slots ps cs S (record s { todo = todo }) (owes_none b) (here_kept g b 0 known r slots ps cs S s (record s { todo = todo }) (quiet_todo s todo) (λ x of. refl) (λ x lt. refl) (λ x more lt. refl) h)

-- nor is a step that only says what is due
pub between_settled : (g : Site) (b : Bounds) (known : List ℕ) (here : Place) (behind : List Place) (cs : List Caller) (S : World) (s : State) (todo : Todo) → Between g b known here behind cs S s → Between g (owe 1 b) known here behind cs S (settled (record s { todo = todo }))
between_settled g b known here behind cs S s todo h = between_kept g b 1 known here behind cs S s (settled (record s { todo = todo })) (quiet_settled s todo) (λ x of. refl) (λ x lt. refl) h

pub here_settled : (g : Site) (b : Bounds) (known : List ℕ) (r : Ready) (slots : Slots) (ps : Places) (cs : List Caller) (S : World) (s : State) (todo : Todo) → Here g b known r slots ps cs S s → Here g (owe 1 b) known r slots ps cs S (settled (record s { todo = todo }))
here_settled g b known r slots ps cs S s todo h = here_kept g b 1 known r slots ps cs S s (settled (record s { todo = todo })) (quiet_settled s todo) (λ x of. refl) (λ x lt. refl) (λ x more lt. refl) h

-- ---- A name is set

-- local name n has the value, and its flag is 1 if it has one
pub locals_set : (g : Site) (n : ℕ) (v : Array) (S T : World) (s t : State) →
    T.locals ≡ set_name n (Some v) S.locals → IsHeld (local_value g n) v t → (is_among n (the_frame g).unsure ≡ true → read_int (local_flag g n) t ≡ Is (pos 1)) →
    ((x : Int) → (x ≡ local_value g n → ⊥) → (is_among n (the_frame g).unsure ≡ true → x ≡ local_flag g n → ⊥) → read_int x t ≡ read_int x s) →
    is_among n (the_frame g).names ≡ true → Locals g S s → Locals g T t
locals_set g n v S T s t is held flag other there h m among = by_name (eqb_tells n m)
  where
    f : layouts.Frame
    f = the_frame g

    value_differs : (n ≡ m → ⊥) → local_value g m ≡ local_value g n → ⊥
    value_differs ne = local_differs (place_in f.names m) (place_in f.names n) (λ e. ne (sym (place_same f.names m n among e)))

    value_no_flag : is_among n f.unsure ≡ true → local_value g m ≡ local_flag g n → ⊥
    value_no_flag u = local_differs (place_in f.names m) (length f.names + place_in f.unsure n) (λ e. let lt = place_below f.names m among in omega (arith, lt, e))

    flag_differs : (n ≡ m → ⊥) → is_among m f.unsure ≡ true → local_flag g m ≡ local_flag g n → ⊥
    flag_differs ne u = local_differs (length f.names + place_in f.unsure m) (length f.names + place_in f.unsure n) (λ e. ne (sym (place_same f.unsure m n u (omega (arith, e)))))

    flag_no_value : local_flag g m ≡ local_value g n → ⊥
    flag_no_value = local_differs (length f.names + place_in f.unsure m) (place_in f.names n) (λ e. let lt = place_below f.names n there in omega (arith, lt, e))

    by_name : ((nat_eq n m ≡ true) × (n ≡ m)) ⊎ ((nat_eq n m ≡ false) × (n ≡ m → ⊥)) → IsNamed (is_among m f.unsure) (local_value g m) (local_flag g m) (T.locals m) t
    by_name (inl e) =
        subst (λ (o : Option Array). IsNamed (is_among m f.unsure) (local_value g m) (local_flag g m) o t) (sym (ap (λ (names : ℕ → Option Array). names m) is ∙ ap (λ b. cond b (Some v) (S.locals m)) e.0))
        (subst (λ (k : ℕ). IsNamed (is_among k f.unsure) (local_value g k) (local_flag g k) (Some v) t) e.1 (named_set (is_among n f.unsure) (local_value g n) (local_flag g n) v t held flag))
    by_name (inr ne) =
        subst (λ (o : Option Array). IsNamed (is_among m f.unsure) (local_value g m) (local_flag g m) o t) (sym (ap (λ (names : ℕ → Option Array). names m) is ∙ ap (λ b. cond b (Some v) (S.locals m)) ne.0))
        (named_kept (is_among m f.unsure) (local_value g m) (local_flag g m) (S.locals m) s t
        (other (local_value g m) (value_differs ne.1) value_no_flag)
        (λ u. other (local_flag g m) flag_no_value (λ w. flag_differs ne.1 u))
        (h m among))

-- so has a global one
pub globals_set : (y : Layout) (n : ℕ) (v : Array) (S T : World) (s t : State) →
    T.globals ≡ set_name n (Some v) S.globals → IsHeld (global_value y n) v t → (is_among n y.unsure ≡ true → read_int (global_flag y n) t ≡ Is (pos 1)) →
    ((x : Int) → (x ≡ global_value y n → ⊥) → (is_among n y.unsure ≡ true → x ≡ global_flag y n → ⊥) → read_int x t ≡ read_int x s) →
    is_among n y.globals ≡ true → Globals y S s → Globals y T t
globals_set y n v S T s t is held flag other there h m among = by_name (eqb_tells n m)
  where
    b : ℕ
    b = global_base y

    value_differs : (n ≡ m → ⊥) → global_value y m ≡ global_value y n → ⊥
    value_differs ne = global_differs (b + place_in y.globals m) (b + place_in y.globals n) (λ e. ne (sym (place_same y.globals m n among (omega (arith, e)))))

    value_no_flag : is_among n y.unsure ≡ true → global_value y m ≡ global_flag y n → ⊥
    value_no_flag u = global_differs (b + place_in y.globals m) (b + length y.globals + place_in y.unsure n) (λ e. let lt = place_below y.globals m among in omega (arith, lt, e))

    flag_differs : (n ≡ m → ⊥) → is_among m y.unsure ≡ true → global_flag y m ≡ global_flag y n → ⊥
    flag_differs ne u = global_differs (b + length y.globals + place_in y.unsure m) (b + length y.globals + place_in y.unsure n) (λ e. ne (sym (place_same y.unsure m n u (omega (arith, e)))))

    flag_no_value : global_flag y m ≡ global_value y n → ⊥
    flag_no_value = global_differs (b + length y.globals + place_in y.unsure m) (b + place_in y.globals n) (λ e. let lt = place_below y.globals n there in omega (arith, lt, e))

    by_name : ((nat_eq n m ≡ true) × (n ≡ m)) ⊎ ((nat_eq n m ≡ false) × (n ≡ m → ⊥)) → IsNamed (is_among m y.unsure) (global_value y m) (global_flag y m) (T.globals m) t
    by_name (inl e) =
        subst (λ (o : Option Array). IsNamed (is_among m y.unsure) (global_value y m) (global_flag y m) o t) (sym (ap (λ (names : ℕ → Option Array). names m) is ∙ ap (λ b. cond b (Some v) (S.globals m)) e.0))
        (subst (λ (k : ℕ). IsNamed (is_among k y.unsure) (global_value y k) (global_flag y k) (Some v) t) e.1 (named_set (is_among n y.unsure) (global_value y n) (global_flag y n) v t held flag))
    by_name (inr ne) =
        subst (λ (o : Option Array). IsNamed (is_among m y.unsure) (global_value y m) (global_flag y m) o t) (sym (ap (λ (names : ℕ → Option Array). names m) is ∙ ap (λ b. cond b (Some v) (S.globals m)) ne.0))
        (named_kept (is_among m y.unsure) (global_value y m) (global_flag y m) (S.globals m) s t
        (other (global_value y m) (value_differs ne.1) value_no_flag)
        (λ u. other (global_flag y m) flag_no_value (λ w. flag_differs ne.1 u))
        (h m among))

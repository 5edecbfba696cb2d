-- A number that is displayed.
use Rattle.std.proofs.Common.{◌≡◌, ℕ, ◌+◌, ◌-◌, ◌≤◌, List, [], ◌∷◌, ◌++◌, append_assoc, refl, sym, ap, ◌∙◌, subst, arith, ℤ, pos, Bool, true, false, length, length-append}
use Rattle.std.specs.Prelude.{Option, None, replicate, encode_utf8}
use Rattle.std.proofs.lemmas.Str.{encode_ascii}
use Rattle.aplc_scalar.specs.Number.{number_text}
use Rattle.aplc_scalar.specs.Scalar.{in_range}
use Rattle.aplc_arr.specs.Arrays.{Array}
use Rattle.aplc_arr.specs.Display.{characters, shown, number_characters}
use Rattle.aplc_arr.proofs.Texts.{number-shown}
use Rattle.aplc_cprof.specs.declared.syntax.Int.TheVariants as int
use Rattle.aplc_cprof.specs.declared.syntax.CExpr.{CExpr}
use Rattle.aplc_cprof.specs.declared.syntax.CExpr.TheVariants as expr
use Rattle.aplc_cprof.specs.declared.syntax.CStmt.{CStmt}
use Rattle.aplc_cprof.specs.declared.syntax.CStmt.TheVariants as stmt
use Rattle.aplc_cprof.specs.Machine.{Todo, Code, Caller, Is, or_unset, read_int, padded_text, text_width, settled}
use Rattle.aplc_cprof.specs.Machine as machine
use Rattle.aplc_cprof.proofs.Values.{value_Lit}
use Rattle.aplc_cprof.proofs.Rules.{Any, Runs, runs_less, runs_then}
use Rattle.aplc_cprof.proofs.Singles.{runs_PutNum, runs_PutChar}
use Rattle.aplc_names.specs.declared.scope.Scope.{Scope}
use Rattle.aplc_names.specs.declared.scope.Scope.TheVariants as scope
use Rattle.aplc_names.specs.States.{Places, World, State, Gives}
use Rattle.aplc_names.specs.Eager.{Context, scalar, put, value_of_name}
use Rattle.aplc_core.specs.PlainSteps.{Term, Show}
use Rattle.aplc_core.specs.CoreRuns.{Told, Slots, term_value, step_done}
use Rattle.aplc_gen.specs.Sound.{Ready, is_term, term_cost}
use Rattle.aplc_gen.specs.Layouts.{Site, the_routine, base}
use Rattle.aplc_gen.specs.Emitted.{operand, tree_code, step_code, display_code, known_after, scope_at}
use Rattle.aplc_gen.specs.Laid.{is_laid_term}
use Rattle.aplc_gen.specs.Relation.{Knows, Here, Bounds, Computed, Sim, TreesDo, works, pay_if, pay, owe, for_line}
use Rattle.aplc_gen.proofs.Writes.{locals_kept, globals_kept, ready_kept, counted_same, counted_other, Looser, here_looser}
use Rattle.aplc_gen.proofs.Computing.{here_computed}
use Rattle.aplc_gen.proofs.TreesReads.{sim_given}
use Rattle.aplc_gen.proofs.Trees.{sim_then}

-- ---- The text

padded_none : (z : ℤ) → padded_text z 0 ≡ number_text z
padded_none z = let none : 0 - text_width z ≡ 0 = omega arith in ap (λ (k : ℕ). replicate k 32 ++ number_text z) none

-- the bytes that display a number
text_is : (z : ℤ) → in_range z ≡ true → padded_text z 0 ++ encode_utf8 10 ≡ shown (scalar z)
text_is z fits = ap (λ (l : List ℕ). l ++ encode_utf8 10) (padded_none z) ∙ ap (λ (l : List ℕ). number_text z ++ l) (encode_ascii 10 (omega arith)) ∙ sym (number-shown z fits)

-- there is at least the end of the line
some_characters : (z : ℤ) → 1 ≤ length (characters (scalar z))
some_characters z = let e = length-append (number_characters z) (10 ∷ []) in omega (arith, e)

-- ---- Printing

-- nothing but the output and steps has changed
pub record Printed (text : List ℕ) (d : ℕ) (s t : machine.State) : Type 0 where
  pub ints : t.ints ≡ s.ints
  pub global_ints : t.global_ints ≡ s.global_ints
  pub output : t.output ≡ s.output ++ text
  pub marks : t.marks ≡ s.marks
  pub places : t.places ≡ s.places
  pub callers : t.callers ≡ s.callers
  pub input : t.input ≡ s.input
  pub steps : t.steps ≡ s.steps + d

printed_then : (xs ys : List ℕ) (d e : ℕ) (s t u : machine.State) → Printed xs d s t → Printed ys e t u → Printed (xs ++ ys) (d + e) s u
printed_then xs ys d e s t u p q =
    let a = p.steps in
    let b = q.steps in
    record {
      ints = q.ints ∙ p.ints;
      global_ints = q.global_ints ∙ p.global_ints;
      output = q.output ∙ ap (λ (l : List ℕ). l ++ ys) p.output ∙ append_assoc s.output xs ys;
      marks = q.marks ∙ p.marks;
      places = q.places ∙ p.places;
      callers = q.callers ∙ p.callers;
      input = q.input ∙ p.input;
      steps = omega (arith, a, b);
    }

module _ (c : Code) where
  -- a number and a line feed
  pub display_does : (e : CExpr) (z : ℤ) (s : machine.State) (Stop : machine.State → Type 0) → in_range z ≡ true → machine.value e c.tables s ≡ Is z → Runs c Any (display_code e) s (Printed (shown (scalar z)) 2 s) Stop
  display_does e z s Stop fits h =
      let number : List CStmt = stmt.PutNum e (expr.Lit (pos 0)) ∷ [] in
      let feed : List CStmt = stmt.PutChar (expr.Lit (pos 10)) ∷ [] in
      runs_less c Any (number ++ feed) s (Printed (padded_text z 0 ++ encode_utf8 10) 2 s) (Printed (shown (scalar z)) 2 s) Stop Stop
      (λ t q. subst (λ (l : List ℕ). Printed l 2 s t) (text_is z fits) q) (λ t q. q)
      (runs_then c Any number feed s (Printed (padded_text z 0) 1 s) (Printed (padded_text z 0 ++ encode_utf8 10) 2 s) Stop
      (runs_PutNum c Any e (expr.Lit (pos 0)) s (Printed (padded_text z 0) 1 s) Stop z 0 h (value_Lit (pos 0) c.tables s) (omega arith) (λ rest. tt)
      (λ rest. record { ints = refl; global_ints = refl; output = refl; marks = refl; places = refl; callers = refl; input = refl; steps = refl }))
      (λ t q.
      runs_less c Any feed t (Printed (encode_utf8 10) 1 t) (Printed (padded_text z 0 ++ encode_utf8 10) 2 s) Stop Stop
      (λ u p. printed_then (padded_text z 0) (encode_utf8 10) 1 1 s t u q p) (λ u p. p)
      (runs_PutChar c Any (expr.Lit (pos 10)) t (Printed (encode_utf8 10) 1 t) Stop 10 (value_Lit (pos 10) c.tables t) refl (λ rest. tt)
      (λ rest. record { ints = refl; global_ints = refl; output = refl; marks = refl; places = refl; callers = refl; input = refl; steps = refl }))))

value_by : (x : Scope) (n : ℕ) (S T : World) → T.globals ≡ S.globals → T.locals ≡ S.locals → value_of_name x n T ≡ value_of_name x n S
value_by scope.Local n S T globals locals = ap (λ (f : ℕ → Option Array). f n) locals
value_by scope.Global n S T globals locals = ap (λ (f : ℕ → Option Array). f n) globals
value_by (scope.Label z) n S T globals locals = refl
value_by (scope.Function j) n S T globals locals = refl

knows_by : (g : Site) (known : List ℕ) (S T : World) → T.globals ≡ S.globals → T.locals ≡ S.locals → Knows g known S → Knows g known T
knows_by g known S T globals locals h n among = let a = h n among in (a.0, value_by (scope_at g n) n S T globals locals ∙ a.1)

-- what is displayed shows on both sides, and is work
here_shown : (g : Site) (b : Bounds) (known : List ℕ) (r : Ready) (slots : Slots) (ps : Places) (cs : List Caller) (z : ℤ) (S : State) (s t : machine.State) → Printed (shown (scalar z)) 2 s t → Here g b known r slots ps cs S.world s → Here g (pay for_line (owe 2 b)) known r slots ps cs (put (scalar z) S).world t
here_shown g b known r slots ps cs z S s t q h =
    let steps = q.steps in
    let some = some_characters z in
    let count = h.common.count in
    let taken = h.common.taken in
    record {
      common = record {
        globals = globals_kept g.layout S.world s t (λ x le. global x) h.common.globals;
        counted = counted_other g.layout.counted S.world (put (scalar z) S).world t refl (counted_same g.layout.counted S.world s t (global 0) h.common.counted);
        output = q.output ∙ ap (λ (l : List ℕ). l ++ shown (scalar z)) h.common.output;
        marks = q.marks ∙ h.common.marks;
        behind = ap (λ (ps : machine.Places). ps.behind) q.places ∙ h.common.behind;
        input = q.input ∙ h.common.input;
        below = h.common.below;
        count = omega (arith, steps, count);
        taken = omega (arith, steps, some, taken);
        set = h.common.set;
      };
      locals = locals_kept g S.world s t (λ x lt. own x) h.locals;
      knows = knows_by g known S.world (put (scalar z) S).world refl refl h.knows;
      stored = h.stored;
      ready = ready_kept g r slots s t (λ x more lt. own x) h.ready;
      here = ap (λ (ps : machine.Places). ps.here) q.places ∙ h.here;
      places = h.places;
      callers = q.callers ∙ h.callers;
    }
  where
    global : (x : ℕ) → read_int (int.Global x) t ≡ read_int (int.Global x) s
    global x = ap (λ (f : ℕ → ℤ). Is (f x)) q.global_ints

    own : (x : ℕ) → read_int (int.Local x) t ≡ read_int (int.Local x) s
    own x = ap (λ (f : ℕ → Option ℤ). or_unset (f x)) q.ints

-- a step that works pays for the line, whether its tree does or not
pub pays_behind : (w : Bool) (d e : ℕ) (b : Bounds) → Looser (pay for_line (owe d (pay_if w (owe e b)))) (pay for_line (owe (d + e) b))
pays_behind true d e b = record { lines = omega arith; fuel = omega arith; credit = omega arith; set = λ n h. h }
pays_behind false d e b = record { lines = omega arith; fuel = omega arith; credit = omega arith; set = λ n h. h }

module _ (c : Code) (w : ℕ) (trees : TreesDo c w) where
  -- a tree's value is displayed
  pub show_does : (g : Site) (x : Context) (l : Told) (b : Bounds) (known : List ℕ) (r : Ready) (slots : Slots) (ps : Places) (cs : List Caller) (t : Term) (S : State) (s : machine.State) →
      x.scope ≡ (the_routine g).header.scope → is_term (the_routine g).header.scope l r t ≡ true → is_laid_term g known t ≡ true → Here g b known r slots ps cs S.world s →
      Sim c w (step_code g known (Show None t)) s (step_done x l (Show None t) slots S) (λ later T u. Here g (pay for_line (owe (2 + term_cost t) b)) (known_after known t) r later ps cs T.world u)
  show_does g x l b known r slots ps cs t S s same ok laid h =
      let e = operand g (base g) t in
      let last = display_code e in
      let Post : Slots → State → machine.State → Type 0 = λ later T u. Here g (pay for_line (owe (2 + term_cost t) b)) (known_after known t) r later ps cs T.world u in
      let inner = pay_if (works l t) (owe (term_cost t) b) in
      sim_then c w (tree_code g known (base g) t) last s (term_value x l slots t S) (λ v T. Gives slots (put v T)) (Computed c w g known (base g) l t S s) Post
      (trees g x l b known r slots ps cs (base g) t S s same (omega arith) ok laid h)
      (λ v T u q.
      let hu = here_computed c w g b known r slots ps cs (base g) l t S s v T u (omega arith) q h in
      let z = q.holds.number in
      sim_given c w last u (Gives slots (put v T)) Post slots (put (scalar z) T) (ap (λ (v : Array). Gives slots (put v T)) q.holds.is.is)
      (runs_less c Any last u (Printed (shown (scalar z)) 2 u) (Post slots (put (scalar z) T)) (λ o. ⊥) (λ o. ⊥)
      (λ o p. here_looser g (pay for_line (owe 2 inner)) (pay for_line (owe (2 + term_cost t) b)) (known_after known t) r slots ps cs (put (scalar z) T).world o (pays_behind (works l t) 2 (term_cost t) b)
      (here_shown g inner (known_after known t) r slots ps cs z T u o p hu))
      (λ o none. none)
      (display_does c e z u (λ o. ⊥) q.holds.is.fits q.holds.value)))

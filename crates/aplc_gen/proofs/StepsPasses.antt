-- Arguments on their way into a function.
use Rattle.std.proofs.Common.{◌≡◌, ℕ, ◌<◌, List, [], ◌∷◌, ◌++◌, refl, sym, ap, ◌∙◌, subst, arith, true}
use Rattle.std.specs.Prelude.{Option, Some, None, option_map, is_some}
use Rattle.aplc_arr.specs.Arrays.{Array}
use Rattle.aplc_cprof.specs.declared.syntax.Int.TheVariants as int
use Rattle.aplc_cprof.specs.declared.syntax.CStmt.{CStmt}
use Rattle.aplc_cprof.specs.declared.syntax.CStmt.TheVariants as stmt
use Rattle.aplc_cprof.specs.Machine.{Todo, Code, Caller, Is, read_int}
use Rattle.aplc_cprof.specs.Machine as machine
use Rattle.aplc_cprof.proofs.Values.{value_Var}
use Rattle.aplc_cprof.proofs.Rules.{Any, Runs, runs_less, runs_none, runs_then}
use Rattle.aplc_cprof.proofs.Matching.{Done, Stopped}
use Rattle.aplc_cprof.proofs.Writes.{Written, written_here, written_other}
use Rattle.aplc_names.specs.States.{Places, World, State, Outcome}
use Rattle.aplc_core.specs.CoreRuns.{Slots, kept_in, value_of}
use Rattle.aplc_gen.specs.Sound.{Ready, is_kept, both_or_none}
use Rattle.aplc_gen.specs.Layouts.{Site, slot_place, global_base}
use Rattle.aplc_gen.specs.Emitted.{local, pass_code}
use Rattle.aplc_gen.specs.Relation.{Here, Bounds, Passed, owe, Fails, Waits, Sim, course}
use Rattle.aplc_gen.proofs.Writes.{quiet_written, here_kept, here_todo, here_looser, globals_passed, locals_global, slots_global, global_differs, held_kept, set_does, Looser}

pub passed_stays : (k : ℕ) (r : Option ℕ) (o : Option Array) (s t : machine.State) → read_int (int.Global k) t ≡ read_int (int.Global k) s → Passed r (int.Global k) o s → Passed r (int.Global k) o t
passed_stays k None o s t same h = tt
passed_stays k (Some n) None s t same h = h
passed_stays k (Some n) (Some v) s t same h = held_kept (int.Global k) v s t same h

some_is : (o : Option ℕ) → is_some o ≡ true → (i : ℕ) × (o ≡ Some i)
some_is None h = absurd (cc)
some_is (Some i) h = (i, refl)

-- nothing more is known of what is owed
pub owes_some : (b : Bounds) (d : ℕ) → Looser b (owe d b)
owes_some b d = record { lines = omega arith; fuel = omega arith; credit = omega arith; set = λ n h. h }

-- code that only prepares, before code beside a computation
pub sim_after : {A : Type 0} (c : Code) (w : ℕ) (a b : List CStmt) (s : machine.State) (Mid : machine.State → Type 0) (out : Outcome A) (Rel : A → State → machine.State → Type 0) → ((Stop : machine.State → Type 0) → Runs c Any a s Mid Stop) → ((t : machine.State) → Mid t → Sim c w b t out Rel) → Sim c w (a ++ b) s out Rel
sim_after c w a b s Mid out Rel first then =
    runs_then c Any a b s Mid (Done (course out) Rel) (Stopped c Any State Fails (Waits w) (course out)) (first (Stopped c Any State Fails (Waits w) (course out))) then

module _ (c : Code) (g : Site) (b : Bounds) (known : List ℕ) (r : Ready) (slots : Slots) (ps : Places) (cs : List Caller) (S : World) where
  -- one argument is on its way in a variable of calls, and the others are where they were
  pub record IsPassed (k : ℕ) (name o : Option ℕ) (s t : machine.State) : Type 0 where
    pub here : Here g (owe 1 b) known r slots ps cs S t
    pub passed : Passed name (int.Global k) (option_map value_of (kept_in slots o)) t
    pub other : (x : ℕ) → (x ≡ k → ⊥) → read_int (int.Global x) t ≡ read_int (int.Global x) s

  pub pass_does : (k : ℕ) (name o : Option ℕ) (s : machine.State) (Stop : machine.State → Type 0) → both_or_none o name ≡ true → is_kept r o ≡ true → 0 < k → k < global_base g.layout → Here g b known r slots ps cs S s → Runs c Any (pass_code g (int.Global k) o) s (IsPassed k name o s) Stop
  pass_does k None None s Stop suits kept some few h =
      runs_none c Any s (IsPassed k None None s) Stop
      (λ rest. record { here = here_looser g b (owe 1 b) known r slots ps cs S (record s { todo = rest }) (owes_some b 1) (here_todo g b known r slots ps cs S s rest h); passed = tt; other = λ x ne. refl })
  pass_does k (Some m) None s Stop suits kept some few h = absurd (cc)
  pass_does k None (Some j) s Stop suits kept some few h = absurd (cc)
  pass_does k (Some m) (Some j) s Stop suits kept some few h =
      let i = some_is (r.kept j) kept in
      let a = h.ready j i.0 i.1 in
      let z = a.held.number in
      runs_less c Any (stmt.Set (int.Global k) (local (slot_place g j)) ∷ []) s (Written (int.Global k) z s) (IsPassed k (Some m) (Some j) s) Stop Stop
      (λ t w. record {
        here = here_kept g b 1 known r slots ps cs S s t (quiet_written (int.Global k) z s t w) (globals_passed g.layout k z s t some few w) (locals_global g k z s t w) (slots_global g k z s t w) h;
        passed = subst (λ (v : Option Array). Passed (Some m) (int.Global k) v t) (sym (ap (option_map value_of) a.is)) (record { number = z; is = a.held.is; value = written_here (int.Global k) z s t w });
        other = λ x ne. written_other (int.Global k) (int.Global x) z s t w (global_differs x k ne);
      })
      (λ t w. w)
      (set_does c (int.Global k) (local (slot_place g j)) s Stop z (value_Var (int.Local (slot_place g j)) c.tables s ∙ a.held.value))

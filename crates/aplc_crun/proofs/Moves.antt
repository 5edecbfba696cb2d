-- What each form of statement that is taken in a sprint does, and how such steps add up.
use Rattle.std.proofs.Common.{◌≡◌, ◌∙◌, ap, sym, refl, ℕ, zero, suc, ◌+◌, arith, List, ℤ, max}
use Rattle.std.specs.Prelude.{Option, Some, Ok, slice_get, if◌then◌else◌}
use Rattle.aplc_cprof.specs.declared.syntax.Int.{Int}
use Rattle.aplc_cprof.specs.declared.syntax.Int.TheVariants as int
use Rattle.aplc_cprof.specs.declared.syntax.Buf.{Buf}
use Rattle.aplc_cprof.specs.declared.syntax.Checked.{Checked}
use Rattle.aplc_crun.specs.Terms.{expr_of}
use Rattle.aplc_crun.specs.declared.term.Term.{Term}
use Rattle.aplc_cprof.specs.Machine.{Is, value, read_int, named_buf, is_zero, ranged, exact}
use Rattle.aplc_crun.specs.declared.code.Node.TheVariants as form
use Rattle.aplc_crun.specs.declared.choices.Choice.{Choice}
use Rattle.aplc_crun.specs.Seen.{written_in}
use Rattle.aplc_crun.specs.Flat.{Flat, Going, Layout, flat_then, env, with_number, or_limit, go_to, with_int, with_heap, write_cell, picked, settle, flat_step, flat_run, counted}
use Rattle.aplc_crun.specs.Sprinting.{peak_after, stepped, Moves, Hops}
use Rattle.aplc_crun.proofs.Turns.{turn_going, flat_run_sum}

-- ---- Each form

int_goes : (x : Int) (v : ℤ) (k at next : ℕ) (f : Flat) → go_to next (with_int x v (stepped k at f)) ≡ Going (stepped k next (with_int x v f))
int_goes (int.Local n) v k at next f = refl
int_goes (int.Global n) v k at next f = refl

pub moves_set : (l : Layout) (x : Int) (e : Term) (at next : ℕ) (v : ℤ) (old new : Flat) → value (expr_of e) l.tables (env old) ≡ Is v → new ≡ with_int x v old → Moves l (form.Set x e next) at old next new
moves_set l x e at next v old new h is k =
    ap (λ w. with_number w (stepped k at old) (λ v. go_to next (with_int x v (stepped k at old)))) h
    ∙ int_goes x v k at next old
    ∙ ap (λ f. Going (stepped k next f)) (sym is)

pub moves_check : (l : Layout) (x : Int) (o : Checked) (e g : Term) (at next : ℕ) (a b v : ℤ) (old new : Flat) → value (expr_of e) l.tables (env old) ≡ Is a → value (expr_of g) l.tables (env old) ≡ Is b → ranged (exact o a b) ≡ Is v → new ≡ with_int x v old → Moves l (form.Check x o e g next) at old next new
moves_check l x o e g at next a b v old new h i r is k =
    ap (λ w. with_number w (stepped k at old) (λ a. with_number (value (expr_of g) l.tables (env old)) (stepped k at old) (λ b. or_limit (ranged (exact o a b)) (stepped k at old) (λ v. go_to next (with_int x v (stepped k at old)))))) h
    ∙ ap (λ w. with_number w (stepped k at old) (λ b. or_limit (ranged (exact o a b)) (stepped k at old) (λ v. go_to next (with_int x v (stepped k at old))))) i
    ∙ ap (λ w. or_limit w (stepped k at old) (λ v. go_to next (with_int x v (stepped k at old)))) r
    ∙ int_goes x v k at next old
    ∙ ap (λ f. Going (stepped k next f)) (sym is)

pub moves_cell : (l : Layout) (p : Buf) (e g : Term) (at next : ℕ) (place v : ℤ) (b : ℕ) (heap : List (Option (List ℤ))) (old new : Flat) → value (expr_of e) l.tables (env old) ≡ Is place → value (expr_of g) l.tables (env old) ≡ Is v → Some b ≡ named_buf p (env old) → Ok heap ≡ written_in old.heap b (slice_get old.heap b) place v → new ≡ record old { heap = heap } → Moves l (form.SetCell p e g next) at old next new
moves_cell l p e g at next place v b heap old new h i named wrote is k =
    ap (λ w. with_number w (stepped k at old) (λ place. with_number (value (expr_of g) l.tables (env old)) (stepped k at old) (λ v. write_cell (named_buf p (env old)) place v next (stepped k at old)))) h
    ∙ ap (λ w. with_number w (stepped k at old) (λ v. write_cell (named_buf p (env old)) place v next (stepped k at old))) i
    ∙ ap (λ b. write_cell b place v next (stepped k at old)) (sym named)
    ∙ ap (λ r. with_heap r next (stepped k at old)) (sym wrote)
    ∙ ap (λ f. Going (stepped k next f)) (sym is)

pub moves_if : (l : Layout) (e : Term) (at met other next : ℕ) (v : ℤ) (old : Flat) → value (expr_of e) l.tables (env old) ≡ Is v → next ≡ (if is_zero v then other else met) → Moves l (form.If e met other) at old next old
moves_if l e at met other next v old h is k =
    ap (λ w. with_number w (stepped k at old) (λ v. go_to (if is_zero v then other else met) (stepped k at old))) h
    ∙ ap (λ n. Going (stepped k n old)) (sym is)

pub moves_while : (l : Layout) (e : Term) (at met other next : ℕ) (v : ℤ) (old : Flat) → value (expr_of e) l.tables (env old) ≡ Is v → next ≡ (if is_zero v then other else met) → Moves l (form.While e met other) at old next old
moves_while l e at met other next v old h is k =
    ap (λ w. with_number w (stepped k at old) (λ v. go_to (if is_zero v then other else met) (stepped k at old))) h
    ∙ ap (λ n. Going (stepped k n old)) (sym is)

pub moves_switch : (l : Layout) (x : Int) (arms : List Choice) (at other next : ℕ) (v : ℤ) (old : Flat) → read_int x (env old) ≡ Is v → next ≡ picked v arms other → Moves l (form.Switch x arms other) at old next old
moves_switch l x arms at other next v old h is k =
    ap (λ w. with_number w (stepped k at old) (λ v. go_to (picked v arms other) (stepped k at old))) h
    ∙ ap (λ n. Going (stepped k n old)) (sym is)

pub ruleset moves = (moves_set, moves_check, moves_cell, moves_if, moves_while, moves_switch)

-- ---- Many steps

max_again : (p h : ℕ) → max (max p h) h ≡ max p h
max_again p h = omega arith

peak_more : (k p h : ℕ) → max (peak_after k p h) h ≡ peak_after (suc k) p h
peak_more zero p h = refl
peak_more (suc k) p h = max_again p h

counted_more : (k next : ℕ) (f : Flat) → counted (stepped k next f) ≡ stepped (suc k) next f
counted_more k next f =
    let e : f.steps + k + 1 ≡ f.steps + suc k = omega arith in
    ap (λ n. record f { at = next; steps = n; peak = max (peak_after k f.peak f.held) f.held }) e
    ∙ ap (λ n. record f { at = next; steps = f.steps + suc k; peak = n }) (peak_more k f.peak f.held)

hop_steps : (l : Layout) (k at next : ℕ) (old new : Flat) → Hops l at old next new → flat_step l (stepped k at old) ≡ Going (stepped (k + 1) next new)
unfolding flat_step
hop_steps l k at next old new h =
    let e : suc k ≡ k + 1 = omega arith in
    ap settle (h k) ∙ ap Going (counted_more k next new) ∙ ap (λ n. Going (stepped n next new)) e

-- one step more
pub sprint_more : (l : Layout) (k at next : ℕ) (first old new : Flat) → flat_run l k first ≡ Going (stepped k at old) → Hops l at old next new → flat_run l (k + 1) first ≡ Going (stepped (k + 1) next new)
sprint_more l k at next first old new h hop = turn_going l k first (stepped k at old) (stepped (k + 1) next new) h (sym (hop_steps l k at next old new hop))

-- none yet
pub sprint_none : (l : Layout) (f : Flat) → flat_run l 0 f ≡ Going (stepped 0 f.at f)
sprint_none l f = ap (λ n. Going (record f { steps = n })) (let e : f.steps ≡ f.steps + 0 = omega arith in e)

-- a sprint goes on where a run stands
pub sprint_on : (l : Layout) (k m n : ℕ) (first old new : Flat) → flat_run l k first ≡ Going old → flat_run l m old ≡ Going new → n ≡ k + m → flat_run l n first ≡ Going new
sprint_on l k m n first old new h more is = ap (λ n. flat_run l n first) is ∙ flat_run_sum l k m first ∙ ap (λ x. flat_then x (flat_run l m)) h ∙ more

pub ruleset sprints = (sprint_more, sprint_none)

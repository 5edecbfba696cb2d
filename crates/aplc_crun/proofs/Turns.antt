-- One turn of the loop that takes steps, and what a step that is held leaves.
use Rattle.std.proofs.Common.{◌≡◌, ◌∙◌, ap, sym, refl, subst, ◌⊎◌, inl, inr, ℕ, zero, suc, ◌+◌, ◌<◌, arith, List, [], ◌∷◌, ◌++◌, ℤ, pos, negsuc, Bool, true, false, cond}
use Rattle.std.specs.Prelude.{◌^◌, Option, Some, None, Result, Ok, Err, length, nat_lt, nat_le, slice_get, encode_utf8}
use Rattle.aplc_cprof.specs.declared.syntax.StuckCause.{StuckCause}
use Rattle.aplc_cprof.specs.declared.syntax.StuckCause.TheVariants.{Range}
use Rattle.aplc_cprof.specs.declared.syntax.Buf.{Buf}
use Rattle.aplc_cprof.specs.Machine.{Value, Is, Bad, most_places, value, read_int, named_buf, is_scalar, padded_text, ranged, exact}
use Rattle.aplc_crun.specs.Terms.{expr_of}
use Rattle.aplc_crun.specs.declared.code.Node.{Node}
use Rattle.aplc_crun.specs.declared.code.Node.TheVariants as form
use Rattle.aplc_crun.specs.declared.code.Entry.{Entry}
use Rattle.aplc_crun.specs.declared.live.Verdict.{Verdict}
use Rattle.aplc_crun.specs.declared.live.Verdict.TheVariants as verdict
use Rattle.aplc_crun.specs.Flat.{Flat, Kept, Flow, Going, Ended, Faulted, Stuck, Held, Layout, env, with_number, or_limit, go_to, with_buf, with_cells, make_cells, free_found, free_cells, with_heap, write_cell, put_text, put_number, put_character, leave_to, enter, deeper, back_to, flat_act, act_at, settle, flat_step, flat_then, flat_run, flow_of}
use Rattle.aplc_crun.specs.Pausing.{paused, IsShort, IsRead, ReadIsDue}

-- where a step is held, nothing has changed, and a fact holds that each reason for it gives
module _ (f : Flat) (P : Type 0) (short : IsShort f → P) where
  abbrev Waits : Flow → Type 0
  Waits (Going g) = Unit {0}
  Waits (Ended g) = Unit {0}
  Waits (Faulted k g) = Unit {0}
  Waits (Stuck c g) = Unit {0}
  Waits (Held g) = (g ≡ f) × P

  waits_with : (w : Value) (go : ℤ → Flow) → ((v : ℤ) → Waits (go v)) → Waits (with_number w f go)
  waits_with (Bad c) go h = tt
  waits_with (Is v) go h = h v

  waits_limit : (w : Value) (go : ℤ → Flow) → ((v : ℤ) → Waits (go v)) → Waits (or_limit w f go)
  waits_limit (Bad c) go h = tt
  waits_limit (Is v) go h = h v

  waits_cond : (b : Bool) (x y : Flow) → (b ≡ true → Waits x) → Waits y → Waits (cond b x y)
  waits_cond true x y h i = h refl
  waits_cond false x y h i = i

  waits_leave : (cs : List Kept) → Waits (leave_to cs f)
  waits_leave [] = tt
  waits_leave (c ∷ cs) = tt

  waits_heap : (r : Result (List (Option (List ℤ))) StuckCause) (next : ℕ) → Waits (with_heap r next f)
  waits_heap (Ok heap) next = tt
  waits_heap (Err c) next = tt

  waits_write : (b : Option ℕ) (k v : ℤ) (next : ℕ) → Waits (write_cell b k v next f)
  waits_write None k v next = tt
  waits_write (Some b) k v next = waits_heap _ next

  waits_found : (b : ℕ) (o : Option (Option (List ℤ))) (next : ℕ) → Waits (free_found b o next f)
  waits_found b None next = tt
  waits_found b (Some None) next = tt
  waits_found b (Some (Some cells)) next = tt

  waits_free : (b : Option ℕ) (next : ℕ) → Waits (free_cells b next f)
  waits_free None next = tt
  waits_free (Some b) next = waits_found b (slice_get f.heap b) next

  waits_make : (p : Buf) (n : ℤ) (next : ℕ) → Waits (make_cells p n next f)
  waits_make p (pos n) next = waits_cond (nat_lt n (2 ^ 31)) (go_to next (with_buf p (Some (length f.heap)) (with_cells n f))) (Stuck Range f) (λ e. tt) tt
  waits_make p (negsuc n) next = tt

  waits_text : (text : List ℕ) (next : ℕ) → Waits (put_text text next f)
  waits_text text next = waits_cond (nat_lt 8192 (length f.output + 64)) (Held f) (go_to next (record f { output = f.output ++ text })) (λ e. (refl, short e)) tt

  waits_number : (v w : ℤ) (next : ℕ) → Waits (put_number v w next f)
  waits_number v (pos w) next = waits_cond (nat_le w 20) (put_text (padded_text v w) next f) (Stuck Range f) (λ e. waits_text (padded_text v w) next) tt
  waits_number v (negsuc w) next = tt

  waits_character : (v : ℤ) (next : ℕ) → Waits (put_character v next f)
  waits_character (pos c) next = waits_cond (is_scalar c) (put_text (encode_utf8 c) next f) (Stuck Range f) (λ e. waits_text (encode_utf8 c) next) tt
  waits_character (negsuc c) next = tt

  waits_enter : (o : Option Entry) (next : ℕ) → Waits (enter o next f)
  waits_enter None next = tt
  waits_enter (Some e) next = tt

  waits_deeper : (next : ℕ) → Waits (deeper next f)
  waits_deeper next = waits_cond (nat_lt (length (f.here ∷ f.behind)) most_places) (go_to next (record f { here = None; behind = f.here ∷ f.behind })) (Stuck _ f) (λ e. tt) tt

  waits_back : (ps : List (Option ℕ)) (next : ℕ) → Waits (back_to ps next f)
  waits_back [] next = tt
  waits_back (p ∷ ps) next = tt

  waits_act : (l : Layout) (nd : Node) → (IsRead nd → P) → Waits (flat_act l nd f)
  waits_act l form.End r = waits_leave f.callers
  waits_act l (form.Set x e next) r = waits_with (value (expr_of e) l.tables (env f)) _ (λ v. tt)
  waits_act l (form.SetCell p e h next) r = waits_with (value (expr_of e) l.tables (env f)) _ (λ k. waits_with (value (expr_of h) l.tables (env f)) _ (λ v. waits_write (named_buf p (env f)) k v next))
  waits_act l (form.SetBuf p q next) r = tt
  waits_act l (form.Cells p e next) r = waits_with (value (expr_of e) l.tables (env f)) _ (λ k. waits_make p k next)
  waits_act l (form.Free p next) r = waits_free (named_buf p (env f)) next
  waits_act l (form.Check x o e h next) r = waits_with (value (expr_of e) l.tables (env f)) _ (λ a. waits_with (value (expr_of h) l.tables (env f)) _ (λ b. waits_limit (ranged (exact o a b)) _ (λ v. tt)))
  waits_act l (form.Width x e next) r = waits_with (value (expr_of e) l.tables (env f)) _ (λ v. tt)
  waits_act l (form.PutNum e h next) r = waits_with (value (expr_of e) l.tables (env f)) _ (λ v. waits_with (value (expr_of h) l.tables (env f)) _ (λ w. waits_number v w next))
  waits_act l (form.PutChar e next) r = waits_with (value (expr_of e) l.tables (env f)) _ (λ v. waits_character v next)
  waits_act l (form.ReadText p next) r = (refl, r tt)
  waits_act l (form.ReadNums p next) r = (refl, r tt)
  waits_act l (form.ReadCount x next) r = tt
  waits_act l (form.At name line next) r = tt
  waits_act l (form.Enter next) r = waits_deeper next
  waits_act l (form.Leave next) r = waits_back f.behind next
  waits_act l (form.Fault k) r = tt
  waits_act l (form.Call k next) r = waits_enter (slice_get l.entries k) next
  waits_act l form.Return r = waits_leave f.callers
  waits_act l (form.If e met other) r = waits_with (value (expr_of e) l.tables (env f)) _ (λ v. tt)
  waits_act l (form.While e body next) r = waits_with (value (expr_of e) l.tables (env f)) _ (λ v. tt)
  waits_act l (form.Switch x arms other) r = waits_with (read_int x (env f)) _ (λ v. tt)

  waits_at : (l : Layout) (o : Option Node) → (ReadIsDue o → P) → Waits (act_at l o f)
  waits_at l None r = waits_leave f.callers
  waits_at l (Some nd) r = waits_act l nd r

  waits_settle : (x : Flow) → Waits x → Waits (settle x)
  waits_settle (Going g) h = tt
  waits_settle (Ended g) h = tt
  waits_settle (Faulted k g) h = tt
  waits_settle (Stuck c g) h = tt
  waits_settle (Held g) h = h

  waits_step : (l : Layout) → (ReadIsDue (slice_get l.nodes f.at) → P) → Waits (flat_step l f)
  unfolding flat_step
  waits_step l r = waits_settle _ (waits_at l (slice_get l.nodes f.at) r)

-- why the step at a state is held
abbrev Why : Layout → Flat → Type 0
Why l f = IsShort f ⊎ ReadIsDue (slice_get l.nodes f.at)

held_is : (l : Layout) (f g : Flat) → Held g ≡ flat_step l f → (g ≡ f) × Why l f
held_is l f g e = subst (λ (x : Flow). Waits f (Why l f) (λ s. inl s) x) (sym e) (waits_step f (Why l f) (λ s. inl s) l (λ r. inr r))

held_same : (l : Layout) (f g : Flat) → Held g ≡ flat_step l f → g ≡ f
held_same l f g e = let h = held_is l f g e in h.0

-- ---- Runs add up

then_assoc : (x : Flow) (go on : Flat → Flow) → flat_then x (λ f. flat_then (go f) on) ≡ flat_then (flat_then x go) on
then_assoc (Going f) go on = refl
then_assoc (Ended f) go on = refl
then_assoc (Faulted k f) go on = refl
then_assoc (Stuck c f) go on = refl
then_assoc (Held f) go on = refl

then_same : (x : Flow) (go on : Flat → Flow) → ((f : Flat) → go f ≡ on f) → flat_then x go ≡ flat_then x on
then_same (Going f) go on h = h f
then_same (Ended f) go on h = refl
then_same (Faulted k f) go on h = refl
then_same (Stuck c f) go on h = refl
then_same (Held f) go on h = refl

-- k steps and then m are k + m
pub flat_run_sum : (l : Layout) (k m : ℕ) (f : Flat) → flat_run l (k + m) f ≡ flat_then (flat_run l k f) (flat_run l m)
flat_run_sum l zero m f = ap (λ n. flat_run l n f) (omega arith)
flat_run_sum l (suc k) m f =
    let e : suc k + m ≡ suc (k + m) = omega arith in
    ap (λ n. flat_run l n f) e
    ∙ then_same (flat_step l f) (flat_run l (k + m)) (λ g. flat_then (flat_run l k g) (flat_run l m)) (λ g. flat_run_sum l k m g)
    ∙ then_assoc (flat_step l f) (flat_run l k) (flat_run l m)

then_going : (x : Flow) (go : Flat → Flow) → ((f : Flat) → go f ≡ Going f) → flat_then x go ≡ x
then_going (Going f) go h = h f
then_going (Ended f) go h = refl
then_going (Faulted k f) go h = refl
then_going (Stuck c f) go h = refl
then_going (Held f) go h = refl

-- one step more
run_more : (l : Layout) (t : ℕ) (old now : Flat) → flat_run l t old ≡ Going now → flat_run l (t + 1) old ≡ flat_step l now
run_more l t old now h =
    flat_run_sum l t 1 old ∙ ap (λ x. flat_then x (flat_run l 1)) h ∙ then_going (flat_step l now) (flat_run l 0) (λ f. refl)

pub turn_going : (l : Layout) (t : ℕ) (old now next : Flat) → flat_run l t old ≡ Going now → Going next ≡ flat_step l now → flat_run l (t + 1) old ≡ Going next
turn_going l t old now next h e = run_more l t old now h ∙ sym e

stops : (v : Verdict) (f : Flat) → (v ≡ verdict.Held → ⊥) → paused v f ≡ flow_of v f
stops verdict.Going f not = refl
stops verdict.Ended f not = refl
stops (verdict.Faulted k) f not = refl
stops (verdict.Stuck c) f not = refl
stops verdict.Held f not = absurd (not refl)

pub turn_stops : (l : Layout) (t n : ℕ) (old now next : Flat) (v : Verdict) → flat_run l t old ≡ Going now → flow_of v next ≡ flat_step l now → (v ≡ verdict.Held → ⊥) → n ≡ t + 1 → paused v next ≡ flat_run l n old
turn_stops l t n old now next v h e not is = stops v next not ∙ e ∙ sym (run_more l t old now h) ∙ ap (λ n. flat_run l n old) (sym is)

pub turn_held : (l : Layout) (t n : ℕ) (old now next : Flat) → flat_run l t old ≡ Going now → Held next ≡ flat_step l now → n ≡ t → Going next ≡ flat_run l n old
turn_held l t n old now next h e is = ap Going (held_same l now next e) ∙ sym h ∙ ap (λ n. flat_run l n old) (sym is)

-- what is held now would be held again
pub held_again : (l : Layout) (now next : Flat) → Held next ≡ flat_step l now → flat_step l next ≡ Held next
held_again l now next e = ap (flat_step l) (held_same l now next e) ∙ sym e

first_held : (l : Layout) (f g : Flat) → Held g ≡ flat_step l f → f.output ≡ [] → ReadIsDue (slice_get l.nodes g.at)
first_held l f g e none =
    let h : (g ≡ f) × Why l f = held_is l f g e in
    elim h.1 as (λ w. ReadIsDue (slice_get l.nodes g.at)) [
      | inl s ↦ absurd (let t : nat_lt 8192 64 ≡ true = subst (λ (o : List ℕ). nat_lt 8192 (length o + 64) ≡ true) none s in let u : false ≡ true = t in cc)
      | inr r ↦ subst (λ (x : Flat). ReadIsDue (slice_get l.nodes x.at)) (sym h.0) r
    ]

-- with no output pending only a read is held before the first step
pub turn_first : (l : Layout) (t : ℕ) (old now next : Flat) → flat_run l t old ≡ Going now → Held next ≡ flat_step l now → old.output ≡ [] → (ReadIsDue (slice_get l.nodes next.at) → ⊥) → 0 < t
turn_first l zero old now next h e none not =
    let same : old ≡ now = cc in
    absurd (not (first_held l old next (e ∙ ap (flat_step l) (sym same)) none))
turn_first l (suc t) old now next h e none not = omega arith

pub ruleset turns = (turn_going, turn_stops, turn_held, held_again, turn_first)

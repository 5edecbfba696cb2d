-- What a run of a function comes to, and how each way out comes to it.
use Rattle.std.proofs.Common.{◌≡◌, ℕ, ◌+◌, ◌*◌, ◌≤◌, List, [], ◌∷◌, inl, refl, sym, ap, ◌∙◌, subst, arith, Bool, true, false, length}
use Rattle.std.specs.Prelude.{Option, map}
use Rattle.aplc_arr.specs.Arrays.{Array}
use Rattle.aplc_cprof.specs.Machine.{Todo, Code, Caller}
use Rattle.aplc_cprof.specs.Machine as machine
use Rattle.aplc_cprof.proofs.Rules.{Any, Runs}
use Rattle.aplc_cprof.proofs.Functions.{Leaves, runs_Return}
use Rattle.aplc_cprof.proofs.Matching.{Ends}
use Rattle.aplc_names.specs.States.{Places, Place, World, State, Outcome, Gives, is_among}
use Rattle.aplc_names.specs.Runs.{result_of}
use Rattle.aplc_gen.specs.Shown.{place_shown}
use Rattle.aplc_gen.specs.Sound.{is_own_name}
use Rattle.aplc_gen.specs.Layouts.{Site, the_frame, the_routine, global_base}
use Rattle.aplc_gen.specs.Emitted.{leave_by, leave_code}
use Rattle.aplc_gen.specs.Laid.{is_laid_result}
use Rattle.aplc_gen.specs.Relation.{course, Fails, Waits, Bounds, Between, owe}
use Rattle.aplc_gen.proofs.Writes.{Looser, common_looser}
use Rattle.aplc_gen.proofs.Frames.{Gone, leave_does}

-- the run is over
pub record Over (b : Bounds) (S : World) (s : machine.State) : Type 0 where
  pub output : s.output ≡ S.output
  pub marks : s.marks ≡ map place_shown S.marks
  pub callers : s.callers ≡ []
  pub taken : s.steps + b.paid ≤ 4096 * S.work + b.owed

-- a function is about to be left: the one with which the run began, or one that was called
abbrev pub LeftBy : Bool → Site → Bounds → Places → List Caller → Option Array → State → machine.State → Type 0
LeftBy true g b outer cs o S s = Over b S.world s
LeftBy false g b outer cs o S s = Gone g b outer cs o S.world s

abbrev pub Left : Site → Bounds → Places → List Caller → Option Array → State → machine.State → Type 0
Left g b outer cs o S s = LeftBy g.first g b outer cs o S s

pub left_looser : (g : Site) (b e : Bounds) (outer : Places) (cs : List Caller) (o : Option Array) (S : State) (s : machine.State) → Looser b e → Left g b outer cs o S s → Left g e outer cs o S s
left_looser g b e outer cs o S s l h = by g.first h
  where
    by : (first : Bool) → LeftBy first g b outer cs o S s → LeftBy first g e outer cs o S s
    by true h =
        let taken = h.taken in
        let credit = l.credit in
        record { output = h.output; marks = h.marks; callers = h.callers; taken = omega (arith, taken, credit) }
    by false h = record { common = common_looser g.layout b e (record S.world { places = outer }) s l h.common; here = h.here; callers = h.callers; result = h.result }

-- what is asked of where a function stands
pub record Stands (g : Site) (outer : Places) (behind : List Place) (cs : List Caller) : Type 0 where
  pub calls : g.first ≡ false → global_base g.layout ≡ 5
  pub called : g.first ≡ false → behind ≡ outer.here ∷ outer.behind
  pub alone : g.first ≡ true → cs ≡ []
  pub few : 1 + length behind ≤ 4096
  pub laid : is_laid_result g (the_routine g).header.result ≡ true
  pub own : is_own_name (the_routine g).header.scope (the_routine g).header.result ≡ true

module _ (c : Code) (n : ℕ) where
  -- the function is left as the computation says, or both have stopped
  abbrev pub Goal : Site → Bounds → Places → List Caller → Outcome (Option Array) → machine.State → Type 0
  Goal g b outer cs out t = Ends c Any State Fails (Waits n) (course out) (Left g b outer cs) t

  pub out_does : (g : Site) (b : Bounds) (known : List ℕ) (here : Place) (behind : List Place) (outer : Places) (cs : List Caller) (S : State) (s : machine.State) → Stands g outer behind cs → ((k : ℕ) → is_among k (the_frame g).sure ≡ true → is_among k known ≡ true) → Between g b known here behind cs S.world s → Runs c Any (leave_code g) s (λ t. ⊥) (Goal g (owe 5 b) outer cs (Gives (result_of (the_routine g).header.result S.world.locals) S))
  out_does g b known here behind outer cs S s stands sure h = by g.first refl
    where
      o : Option Array
      o = result_of (the_routine g).header.result S.world.locals

      to_left : (first : Bool) → g.first ≡ first → (t : machine.State) → Leaves c t → LeftBy first g (owe 5 b) outer cs o S t → Goal g (owe 5 b) outer cs (Gives o S) t
      to_left first is t leaves l = inl (leaves, subst (λ (x : Bool). LeftBy x g (owe 5 b) outer cs o S t) (sym is) l)

      by : (first : Bool) → g.first ≡ first → Runs c Any (leave_by g first) s (λ t. ⊥) (Goal g (owe 5 b) outer cs (Gives o S))
      by true is =
          let taken = h.common.taken in
          runs_Return c Any s (λ t. ⊥) (Goal g (owe 5 b) outer cs (Gives o S))
          (λ todo leaves. to_left true is (record s { todo = todo }) leaves (record { output = h.common.output; marks = h.common.marks; callers = h.callers ∙ stands.alone is; taken = omega (arith, taken) }))
      by false is =
          let from = stands.called is in
          let few = stands.few in
          let long : length behind ≡ 1 + length outer.behind = ap (λ (qs : List Place). length qs) from ∙ omega arith in
          leave_does c g (stands.calls is) b known here behind cs S.world outer s (Goal g (owe 5 b) outer cs (Gives o S)) from (omega (arith, few, long)) stands.laid stands.own sure
          (λ t leaves gone. to_left false is t leaves gone) h

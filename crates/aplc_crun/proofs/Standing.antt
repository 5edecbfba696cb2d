-- A machine stands for a state of the definition, from the start on.
use Rattle.std.proofs.Common.{◌≡◌, ◌∙◌, ap, sym, refl, subst, ℕ, ◌+◌, ◌<◌, ◌≤◌, ◌^◌, List, [], ◌∷◌, ◌++◌, length, map, reverse, arith, ℤ, pos, get_or, zero-add, Option, None}
use Rattle.std.specs.Prelude.{slice_get, replicate, Some, option_map}
use Rattle.std.proofs.lemmas.List.{length-replicate, length-map}
use Rattle.aplc_cprof.specs.declared.syntax.CProgram.{CProgram}
use Rattle.aplc_cprof.specs.WellFormed.{IsWellFormed}
use Rattle.aplc_cprof.specs.Machine.{State, Todo, Code, Next, code_of, bodies_from, first_body, initial, run, no_ints, no_bufs, held, empty_place, Place, Places, all_places}
use Rattle.aplc_crun.specs.declared.code.Node.{Node}
use Rattle.aplc_crun.specs.declared.code.Entry.{Entry}
use Rattle.aplc_crun.specs.declared.machine.Machine.{Machine}
use Rattle.aplc_crun.specs.declared.live.Live.{Live}
use Rattle.aplc_crun.specs.declared.live.Verdict.{Verdict}
use Rattle.aplc_crun.specs.declared.live.Verdict.TheVariants as verdict
use Rattle.aplc_crun.specs.Seen.{joined, or_zero}
use Rattle.aplc_crun.specs.Flat.{Flat, Flow, flat_of, layout_of, flat_run, none_of}
use Rattle.aplc_crun.specs.Laying.{Spot, Due, Globals, IsLaid, Setting, Sound, AllFit, code_for, state_of, place_at}
use Rattle.aplc_crun.specs.Building.{globals, nowhere, Agrees, FunctionsOk, LaidFunctions}
use Rattle.aplc_crun.specs.Pausing.{paused}
use Rattle.aplc_crun.specs.Running.{setting, Stands, next_of, Comes, StartsAt, start_flat, places_of}
use Rattle.aplc_crun.proofs.Frames.{frame_none, globals_zero}
use Rattle.aplc_crun.proofs.Follow.{Meets, Marked, run_meets}
use Rattle.aplc_crun.proofs.Formed.{formed_functions}
use Rattle.aplc_crun.proofs.Laid.{is_laid, agrees_get}
use Rattle.aplc_crun.proofs.Callers.{get_map}

pub starts_at : (es : List Entry) (e : Entry) → 0 < length es → e ≡ get_or es 0 e → StartsAt es e
starts_at [] e h is = absurd (omega arith)
starts_at (x ∷ es) e h is = is

first_due : (k : Due) (es : List Entry) (e : Entry) (bodies : List Todo) → map (λ (e : Entry). (k e.at).todo) es ≡ bodies → StartsAt es e → (k 0).todo ≡ [] → (k e.at).todo ≡ first_body bodies
first_due k [] e bodies starts is leaves = ap (λ (e : Entry). (k e.at).todo) is ∙ leaves ∙ ap first_body starts
first_due k (x ∷ es) e bodies starts is leaves = ap (λ (e : Entry). (k e.at).todo) is ∙ ap first_body starts

first_fits : (k : Due) (es : List Entry) (e : Entry) → AllFit k es → StartsAt es e → k 0 ≡ nowhere → ((k e.at).ints ≤ e.ints) × ((k e.at).bufs ≤ e.bufs)
first_fits k [] e fit is leaves =
    let h : (k 0).ints ≡ 0 = ap (λ (s : Spot). s.ints) leaves in
    let i : (k 0).bufs ≡ 0 = ap (λ (s : Spot). s.bufs) leaves in
    let P : Entry → Type 0 = λ e. ((k e.at).ints ≤ e.ints) × ((k e.at).bufs ≤ e.bufs) in
    let q : P (record { at = 0; ints = 0; bufs = 0 }) = (omega arith, omega arith) in
    subst P (sym is) q
first_fits k (x ∷ es) e fit is leaves =
    let P : Entry → Type 0 = λ e. ((k e.at).ints ≤ e.ints) × ((k e.at).bufs ≤ e.bufs) in
    let q : P x = (fit.0, fit.1) in
    subst P (sym is) q

made : (ℕ → Option ℤ) → (ℕ → Option ℕ) → (ℕ → ℤ) → (ℕ → Option ℕ) → Todo → List ℕ → State
made ints bufs global_ints global_bufs todo input = record {
  ints = ints;
  bufs = bufs;
  global_ints = global_ints;
  global_bufs = global_bufs;
  heap = [];
  todo = todo;
  callers = [];
  places = record { here = empty_place; behind = [] };
  marks = [];
  read_count = pos 0;
  input = input;
  output = [];
  steps = 0;
  peak = 0;
}

abbrev local_ints : ℕ → ℕ → Option ℤ
local_ints count n = joined (slice_get (none_of count) n)

abbrev local_bufs : ℕ → ℕ → Option ℕ
local_bufs count n = joined (slice_get (none_of count) n)

abbrev zeros : ℕ → ℕ → ℤ
zeros count n = or_zero (slice_get (replicate count (pos 0)) n)

start_state : (k : Due) (nodes : List Node) (e : Entry) (ints bufs : ℕ) (c : Code) (input : List ℕ) → (k e.at).todo ≡ first_body c.bodies → state_of (record { due = k; nodes = nodes; marks = []; given = []; input = input }) (start_flat e ints bufs) ≡ initial c input
unfolding made
start_state k nodes e ints bufs c input due =
    ap (λ (t : Todo). made (local_ints e.ints) (local_bufs e.bufs) (zeros ints) (local_bufs bufs) t input) due
    ∙ ap (λ (v : ℕ → Option ℤ). made v (local_bufs e.bufs) (zeros ints) (local_bufs bufs) (first_body c.bodies) input) (frame_none e.ints)
    ∙ ap (λ (v : ℕ → Option ℕ). made no_ints v (zeros ints) (local_bufs bufs) (first_body c.bodies) input) (frame_none e.bufs)
    ∙ ap (λ (v : ℕ → ℤ). made no_ints no_bufs v (local_bufs bufs) (first_body c.bodies) input) (globals_zero ints)
    ∙ ap (λ (v : ℕ → Option ℕ). made no_ints no_bufs (λ n. pos 0) v (first_body c.bodies) input) (frame_none bufs)

-- the machine at the start
pub start_stands : (p : CProgram) (m : Machine) (e : Entry) → IsWellFormed p → LaidFunctions m.laid.nodes.items m.laid.entries.items p.functions → m.laid.tables.items ≡ p.tables → StartsAt m.laid.entries.items e → flat_of m.live ≡ start_flat e p.ints p.bufs → m.ahead.items ≡ [] → (input : List ℕ) → Stands p m [] input (initial (code_of p) input)
start_stands p m e formed laid tables starts live ahead input =
    let g : FunctionsOk p m.laid.nodes.items m.laid.entries.items p.functions = laid.ok p in
    let k : Due = λ n. get_or g.dues n nowhere in
    let a : Agrees k 0 g.dues = agrees_get 0 0 g.dues k (λ i. ap (λ n. get_or g.dues n nowhere) (zero-add i)) in
    let leaves : k 0 ≡ nowhere = g.leaves k a in
    let bodies : map (λ (e : Entry). (k e.at).todo) m.laid.entries.items ≡ bodies_from 1 p.functions = g.starts k a in
    let l : IsLaid (globals p.ints p.bufs) k (layout_of m.laid) = is_laid p (layout_of m.laid) p.functions g (formed_functions p formed) in
    let fits : ((k e.at).ints ≤ e.ints) × ((k e.at).bufs ≤ e.bufs) = first_fits k m.laid.entries.items e (g.fits k a) starts leaves in
    let room : Sound (globals p.ints p.bufs) k [] (start_flat e p.ints p.bufs) = record {
      ints = let h = length-replicate {A = Option ℤ} e.ints None in omega (arith, fits.0);
      bufs = let h = length-replicate {A = Option ℕ} e.bufs None in omega (arith, fits.1);
      global_ints = let h = length-replicate p.ints (pos 0) in omega arith;
      global_bufs = let h = length-replicate {A = Option ℕ} p.bufs None in omega arith;
      callers = tt;
      held = refl;
      marks = omega arith;
    } in
    record {
      due = k;
      laid = l;
      program =
          ap (λ (ts : List (List ℤ)). record { tables = ts; bodies = bodies_from 1 p.functions }) (sym tables)
          ∙ ap (λ (bs : List Todo). record { tables = m.laid.tables.items; bodies = bs }) (sym bodies);
      marks = [];
      few = omega arith;
      sound = subst (λ (f : Flat). Sound (globals p.ints p.bufs) k [] f) (sym live) room;
      state =
          sym (start_state k m.laid.nodes.items e p.ints p.bufs (code_of p) input (first_due k m.laid.entries.items e (bodies_from 1 p.functions) bodies starts (ap (λ (s : Spot). s.todo) leaves)))
          ∙ ap (λ (f : Flat). state_of (setting k m.laid [] [] input) f) (sym live)
          ∙ ap (λ (xs : List ℕ). state_of (setting k m.laid [] [] (xs ++ input)) (flat_of m.live)) (sym ahead);
    }

comes_to : (g : Globals) (s : Setting) (v : Verdict) (f : Flat) (y : Next) → Meets g s (paused v f) y → (next_of v f.at (state_of s f) ≡ y) × Sound g s.due s.marks f
comes_to g s verdict.Going f y h = (h.state, h.sound)
comes_to g s verdict.Ended f y h = (h.state, h.sound)
comes_to g s (verdict.Faulted k) f y h = (h.state, h.sound)
comes_to g s (verdict.Stuck c) f y h = (h.state, h.sound)
comes_to g s verdict.Held f y h = (h.state, h.sound)

-- steps of the code are steps of the definition
pub run_comes : (p : CProgram) (m : Machine) (live : Live) (v : Verdict) (steps : ℕ) (given more : List ℕ) (st : State) → m.live.steps + steps ≤ live.steps → paused v (flat_of live) ≡ flat_run (layout_of m.laid) steps (flat_of m.live) → Stands p m given more st → Comes p v (record m { live = live }) given more (run (code_of p) steps st)
run_comes p m live v steps given more st later e s =
    let w : Setting = setting s.due m.laid s.marks given (m.ahead.items ++ more) in
    let r : Marked (globals p.ints p.bufs) w steps (paused v (flat_of live)) (run (code_for s.due (layout_of m.laid)) steps (state_of w (flat_of m.live))) =
    subst (λ (x : Flow). Marked (globals p.ints p.bufs) w steps x (run (code_for s.due (layout_of m.laid)) steps (state_of w (flat_of m.live)))) (sym e)
    (run_meets (globals p.ints p.bufs) w (layout_of m.laid) steps (flat_of m.live) refl s.laid s.sound) in
    let u : Setting = setting s.due m.laid r.marks given (m.ahead.items ++ more) in
    let q : (next_of v live.at (state_of u (flat_of live)) ≡ run (code_for s.due (layout_of m.laid)) steps (state_of w (flat_of m.live))) × Sound (globals p.ints p.bufs) s.due r.marks (flat_of live) = comes_to (globals p.ints p.bufs) u v (flat_of live) _ r.meets in
    record {
      state = state_of u (flat_of live);
      is = q.0 ∙ ap (λ (c : Code). run c steps (state_of w (flat_of m.live))) (sym s.program) ∙ ap (run (code_of p) steps) (sym s.state);
      stands = record { due = s.due; laid = s.laid; program = s.program; marks = r.marks; few = omega (arith, later, r.few, s.few); sound = q.1; state = refl };
    }

-- ---- What can be looked at

pub places_stand : (p : CProgram) (m : Machine) (given more : List ℕ) (st : State) → Stands p m given more st → places_of m ≡ st.places
places_stand p m given more st s = ap (λ (x : State). x.places) (sym s.state)

-- the place that stands so far behind the innermost one
place_told : (m : Machine) (back : ℕ) (mark : Option ℕ) → slice_get (m.live.places.here ∷ reverse m.live.places.behind.items) back ≡ Some mark → slice_get (all_places (places_of m)) back ≡ Some (place_at m.laid.nodes.items mark)
place_told m back mark there = get_map (place_at m.laid.nodes.items) (m.live.places.here ∷ reverse m.live.places.behind.items) back mark there

pub name_told : (m : Machine) (back : ℕ) (mark : Option ℕ) (nodes : List Node) (name : List ℕ) → slice_get (m.live.places.here ∷ reverse m.live.places.behind.items) back ≡ Some mark → nodes ≡ m.laid.nodes.items → name ≡ (place_at nodes mark).name → option_map (λ (p : Place). p.name) (slice_get (all_places (places_of m)) back) ≡ Some name
name_told m back mark nodes name there same is =
    ap (option_map (λ (p : Place). p.name)) (place_told m back mark there)
    ∙ ap (λ (ns : List Node). Some (place_at ns mark).name) (sym same)
    ∙ ap Some (sym is)

pub line_told : (m : Machine) (back : ℕ) (mark : Option ℕ) (nodes : List Node) (line : ℤ) → slice_get (m.live.places.here ∷ reverse m.live.places.behind.items) back ≡ Some mark → nodes ≡ m.laid.nodes.items → line ≡ (place_at nodes mark).line → option_map (λ (p : Place). p.line) (slice_get (all_places (places_of m)) back) ≡ Some line
line_told m back mark nodes line there same is =
    ap (option_map (λ (p : Place). p.line)) (place_told m back mark there)
    ∙ ap (λ (ns : List Node). Some (place_at ns mark).line) (sym same)
    ∙ ap Some (sym is)

pub name_stands : (p : CProgram) (m : Machine) (given more : List ℕ) (st : State) (back : ℕ) (mark : Option ℕ) (nodes : List Node) (name : List ℕ) → slice_get (m.live.places.here ∷ reverse m.live.places.behind.items) back ≡ Some mark → nodes ≡ m.laid.nodes.items → name ≡ (place_at nodes mark).name → Stands p m given more st → option_map (λ (p : Place). p.name) (slice_get (all_places st.places) back) ≡ Some name
name_stands p m given more st back mark nodes name there same is s = subst (λ (ps : Places). option_map (λ (p : Place). p.name) (slice_get (all_places ps) back) ≡ Some name) (places_stand p m given more st s) (name_told m back mark nodes name there same is)

pub line_stands : (p : CProgram) (m : Machine) (given more : List ℕ) (st : State) (back : ℕ) (mark : Option ℕ) (nodes : List Node) (line : ℤ) → slice_get (m.live.places.here ∷ reverse m.live.places.behind.items) back ≡ Some mark → nodes ≡ m.laid.nodes.items → line ≡ (place_at nodes mark).line → Stands p m given more st → option_map (λ (p : Place). p.line) (slice_get (all_places st.places) back) ≡ Some line
line_stands p m given more st back mark nodes line there same is s = subst (λ (ps : Places). option_map (λ (p : Place). p.line) (slice_get (all_places ps) back) ≡ Some line) (places_stand p m given more st s) (line_told m back mark nodes line there same is)

pub back_within : (m : Machine) (back : ℕ) → back < length (all_places (places_of m)) → back < length (m.live.places.here ∷ reverse m.live.places.behind.items)
back_within m back within =
    let all : length (map (place_at m.laid.nodes.items) (reverse m.live.places.behind.items)) ≡ length (reverse m.live.places.behind.items) = length-map (reverse m.live.places.behind.items) (place_at m.laid.nodes.items) in
    omega (arith, within)

pub ruleset callers_told = (back_within, name_told, line_told, name_stands, line_stands)

pub marks_stand : (p : CProgram) (m : Machine) (given more : List ℕ) (st : State) → m.live.steps < 2 ^ 64 → Stands p m given more st → m.live.marks ≡ length st.marks
marks_stand p m given more st short s =
    let all : m.live.marks ≡ length s.marks = omega (arith, s.sound.marks, s.few, short) in
    all ∙ ap (λ (x : State). length x.marks) (sym s.state)

pub cells_stand : (p : CProgram) (m : Machine) (given more : List ℕ) (st : State) → Stands p m given more st → m.live.heap.held ≡ held st
cells_stand p m given more st s = s.sound.held ∙ ap (λ (x : State). held x) (sym s.state)

pub peak_stands : (p : CProgram) (m : Machine) (given more : List ℕ) (st : State) → Stands p m given more st → m.live.peak ≡ st.peak
peak_stands p m given more st s = ap (λ (x : State). x.peak) (sym s.state)

pub steps_stand : (p : CProgram) (m : Machine) (given more : List ℕ) (st : State) → Stands p m given more st → m.live.steps ≡ st.steps
steps_stand p m given more st s = ap (λ (x : State). x.steps) (sym s.state)

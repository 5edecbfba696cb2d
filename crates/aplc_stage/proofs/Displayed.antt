-- A value in memory that is printed.
-- It must not know how an array is displayed.
use Rattle.std.proofs.Common.{◌≡◌, ℕ, ◌+◌, ◌*◌, ◌≤◌, List, [], ◌++◌, length, refl, sym, ap, ◌∙◌, subst, arith, append-nil, ℤ, true}
use Rattle.std.specs.Prelude.{Option, Some, None, Ok, replicate, slice_get, sum_by}
use Rattle.aplc_scalar.specs.declared.kind.Kind.{Kind}
use Rattle.aplc_scalar.specs.Scalar.{in_range}
use Rattle.aplc_arr.specs.Arrays.{Array, at, place, product}
use Rattle.aplc_arr.specs.Display.{shown}
use Rattle.aplc_cprof.specs.declared.syntax.Int.{Int}
use Rattle.aplc_cprof.specs.Blocks.{Blocks}
use Rattle.aplc_cprof.specs.WellFormed.{Scope}
use Rattle.aplc_cprof.specs.Machine.{State, Code, cells_of}
use Rattle.aplc_cprof.specs.Frames.{AreGiven, Around, Stays, Unnamed}
use Rattle.aplc_cprof.specs.Emitted.{no_names}
use Rattle.aplc_cprof.proofs.Paths.{Does, does_then, does_weaken}
use Rattle.aplc_cprof.proofs.Emitted.{within_less, within_left, formed_append, formed_more, grown_then}
use Rattle.aplc_collect.specs.Elements.{scope_of, scalar_test, one_step}
use Rattle.aplc_step.specs.declared.stepper.Origin.{Origin}
use Rattle.aplc_step.specs.Steppers.{origin_scope, scope_of_all, stepper_test, stepper_scope, StepsOver}
use Rattle.aplc_step.specs.Wholes.{whole_steps, MakesStepper}
use Rattle.aplc_quad.specs.Printed.{last_length}
use Rattle.aplc_quad.specs.Shows.{Showing, Shown, Shows, StandsFor, show_steps}
use Rattle.aplc_stage.specs.declared.staged.Staged.{Staged}
use Rattle.aplc_stage.specs.declared.staged.Staged.TheVariants as staged
use Rattle.aplc_stage.specs.Staged.{scope_of_staged, Holds}
use Rattle.aplc_stage.specs.Computes.{with_heap, NoFault}
use Rattle.aplc_stage.specs.Displays.{display_steps, Displays}
use Rattle.aplc_stage.proofs.Elements.{IsOldStaged, given_names, older, cells_in, cells_few, holds_stay, scalar_beside, cell_beside, at_is}
use Rattle.aplc_stage.proofs.Scalars.{one_number, scalar_is}
use Rattle.aplc_stage.proofs.Parts.{lengths_declared}
use Rattle.aplc_stage.proofs.Leads.{hold_length}
use Rattle.aplc_stage.proofs.Chains.{stepper_within}
use Rattle.aplc_stage.proofs.Given.{stepper_unnamed}

-- a state without new buffers beside itself
alone : (n m : ℕ) (s : State) → Stays n m (with_heap (s.heap ++ []) s) s
alone n m s = record { ints = λ x lt. refl; bufs = λ p lt. refl; around = refl; heap = sym (append-nil s.heap) }

-- ---- A number

scalar_stands : (tables : List (List ℤ)) (b : Blocks) (s : State) (x : Int) (a : Array) → AreGiven (scope_of x) b → Holds tables s (staged.Scalar x) a → StandsFor (scalar_test x) one_step tables s a 1
scalar_stands tables b s x a given h = record {
  takes = omega arith;
  items = λ is index.
      scalar_beside b.ints b.bufs [] tables s s x z is (given_names (staged.Scalar x) b given) (alone b.ints b.bufs s) h.cells.2 inside
      ∙ ap (λ y. Some (Ok y)) (sym (first is));
}
  where
    z : ℤ
    z = h.cells.0

    is_one : a ≡ one_number a.kind z
    is_one = scalar_is tables s x a h

    inside : in_range z ≡ true
    inside = cells_in a h.array 0 z (subst (λ (l : List ℤ). slice_get l 0 ≡ Some z) (sym h.cells.1) refl)

    first : (is : List ℕ) → at a is ≡ z
    first is = ap (λ (t : Array). at t is) is_one

pub scalar_displays : (b0 b1 : Blocks) (kind : Kind) (x : Int) → AreGiven (scope_of x) b0 → Shows (scalar_test x) one_step (scope_of x) 0 b0 b1 kind [] → Displays (scope_of x) b0 b1 kind (staged.Scalar x)
scalar_displays b0 b1 kind x given sh = record {
  code = sh.code;
  grown = sh.grown;
  formed = λ sc room within are bufs more more_bufs le. sh.formed sc room within tt tt more more_bufs (omega (arith, le));
  runs = λ c s a h of_kind unnamed.
      does_weaken c (Showing b0.ints b0.bufs (last_length a.shape) s) (Showing b0.ints b0.bufs (last_length a.shape) s) (show_steps a.shape 1) (display_steps a.shape) sh.code s (Shown b0.ints b0.bufs (shown a) s) (Shown b0.ints b0.bufs (shown a) s) NoFault NoFault
      (λ u y. y) (λ u y. y) (λ i u y. y) (omega arith)
      (sh.runs c s a 1 h.array of_kind h.shape (scalar_stands c.tables b0 s x a given h) unnamed);
}

-- ---- An array

-- behind code that left all as it was
showing_after : (n m n' m' size : ℕ) (s t u : State) → n ≤ n' → m ≤ m' → Stays n m s t → Showing n' m' size t u → Showing n m size s u
showing_after n m n' m' size s t u le leb f w = record {
  out = w.out;
  more = w.more;
  stays = record {
    ints = λ x lt. w.stays.ints x (omega (arith, le, lt)) ∙ f.ints x lt;
    bufs = λ p lt. w.stays.bufs p (omega (arith, leb, lt)) ∙ f.bufs p lt;
    around = w.stays.around ∙ ap (λ (r : Around). record r { output = w.out }) f.around;
    heap = w.stays.heap ∙ ap (λ (l : List (Option (List ℤ))). l ++ w.more) f.heap;
  };
  held_more = w.held_more;
}

shown_after : (n m n' m' : ℕ) (text : List ℕ) (s t u : State) → n ≤ n' → m ≤ m' → Stays n m s t → Shown n' m' text t u → Shown n m text s u
shown_after n m n' m' text s t u le leb f w = record {
  freed = w.freed;
  stays = record {
    ints = λ x lt. w.stays.ints x (omega (arith, le, lt)) ∙ f.ints x lt;
    bufs = λ p lt. w.stays.bufs p (omega (arith, leb, lt)) ∙ f.bufs p lt;
    around = w.stays.around ∙ ap (λ (r : Around). record r { output = r.output ++ text }) f.around;
    heap = w.stays.heap ∙ ap (λ (l : List (Option (List ℤ))). l ++ replicate w.freed None) f.heap;
  };
  as_many = w.as_many ∙ ap (sum_by cells_of) f.heap;
}

showing_none : (n m size : ℕ) (s t : State) → Stays n m s t → Showing n m size s t
showing_none n m size s t f = record {
  out = s.output;
  more = [];
  stays = record { ints = f.ints; bufs = f.bufs; around = f.around; heap = f.heap ∙ sym (append-nil s.heap) };
  held_more = omega arith;
}

unnamed_after : (g : Scope) (b : Blocks) (s t : State) → AreGiven g b → Stays b.ints b.bufs s t → Unnamed g (length s.heap) s → Unnamed g (length t.heap) t
unnamed_after g b s t given f u = record {
  bufs = λ p lt e. u.bufs p lt (sym (f.bufs p (let i = given.bufs in omega (arith, i, lt))) ∙ e ∙ same);
  global_bufs = λ p lt e. u.global_bufs p lt (ap (λ (r : Around). r.global_bufs p) (sym f.around) ∙ e ∙ same);
}
  where
    same : Some (length t.heap) ≡ Some (length s.heap)
    same = ap (λ (l : List (Option (List ℤ))). Some (length l)) f.heap

module _ (from : Origin) (lengths strides : List Int) (base : Int) (b0 b1 b2 : Blocks) (kind : Kind) (given : AreGiven (scope_of_staged (staged.Cells from lengths)) b0) (over : MakesStepper b0 b1 lengths base strides) (sh : Shows (stepper_test from base strides) one_step (stepper_scope from base strides) (2 + length strides) b1 b2 kind lengths) where
  abbrev x : Staged
  x = staged.Cells from lengths

  abbrev g : Scope
  g = scope_of_staged x

  old : IsOldStaged b1.ints b1.bufs x
  old = older b0 b1 x over.grown.ints over.grown.bufs (given_names x b0 given)

  cells_stand : (tables : List (List ℤ)) (t : State) (a : Array) → Holds tables t x a → StepsOver lengths base strides t a.shape (place a.shape) (length a.cells) → StandsFor (stepper_test from base strides) one_step tables t a 1
  cells_stand tables t a h o = record {
    takes = omega arith;
    items = λ is index.
        cell_beside b1.ints b1.bufs [] tables t t from base strides lengths a a.shape is (place a.shape) old.0 over.base_given over.strides_given old.1 h.array h.cells o (alone b1.ints b1.bufs t) index
        ∙ ap (λ z. Some (Ok z)) (at_is a is h.array index);
  }

  shown_at : (c : Code) (s t : State) (a : Array) → Holds c.tables s x a → a.kind ≡ kind → Unnamed g (length s.heap) s → Stays b0.ints b0.bufs s t → StepsOver lengths base strides t a.shape (place a.shape) (length a.cells) → Does c (Showing b0.ints b0.bufs (last_length a.shape) s) (show_steps a.shape 1) sh.code t (Shown b0.ints b0.bufs (shown a) s) NoFault
  shown_at c s t a h of_kind unnamed f o =
      let there = holds_stay b0.ints b0.bufs c.tables s t x a (given_names x b0 given) f h in
      does_weaken c (Showing b1.ints b1.bufs (last_length a.shape) t) (Showing b0.ints b0.bufs (last_length a.shape) s) (show_steps a.shape 1) (show_steps a.shape 1) sh.code t (Shown b1.ints b1.bufs (shown a) t) (Shown b0.ints b0.bufs (shown a) s) NoFault NoFault
      (λ u w. showing_after b0.ints b0.bufs b1.ints b1.bufs (last_length a.shape) s t u over.grown.ints over.grown.bufs f w)
      (λ u w. shown_after b0.ints b0.bufs b1.ints b1.bufs (shown a) s t u over.grown.ints over.grown.bufs f w)
      (λ i u y. y) (omega arith)
      (sh.runs c t a 1 there.array of_kind there.shape (cells_stand c.tables t a there o) (stepper_unnamed from base strides lengths (length t.heap) t (unnamed_after g b0 s t given f unnamed)))

  all_shown : (c : Code) (s : State) (a : Array) → Holds c.tables s x a → a.kind ≡ kind → Unnamed g (length s.heap) s → Does c (Showing b0.ints b0.bufs (last_length a.shape) s) (display_steps a.shape) (over.code ++ sh.code) s (Shown b0.ints b0.bufs (shown a) s) NoFault
  all_shown c s a h of_kind unnamed =
      let many = hold_length s lengths a.shape h.shape in
      let whole : product a.shape ≤ length a.cells = let w = h.array.whole in omega (arith, w) in
      let Way : State → Type 0 = Showing b0.ints b0.bufs (last_length a.shape) s in
      let Mid : State → Type 0 = λ t. Stays b0.ints b0.bufs s t × StepsOver lengths base strides t a.shape (place a.shape) (length a.cells) in
      does_then c Way (3 + length a.shape) (show_steps a.shape 1) over.code sh.code s Mid (Shown b0.ints b0.bufs (shown a) s) NoFault
      (does_weaken c (Stays b0.ints b0.bufs s) Way (whole_steps (length lengths)) (3 + length a.shape) over.code s Mid Mid NoFault NoFault
      (λ u f. showing_none b0.ints b0.bufs (last_length a.shape) s u f) (λ u y. y) (λ i u y. y) (omega (arith, many))
      (over.runs c s a.shape (length a.cells) h.shape whole (cells_few a h.array)))
      (λ t m. shown_at c s t a h of_kind unnamed m.0 m.1)

  pub cells_displays : Displays g b0 b2 kind x
  cells_displays = record {
    code = over.code ++ sh.code;
    grown = grown_then over.code sh.code b0 b1 b2 over.grown sh.grown;
    formed =
        formed_append g [] [] b2 (5 + 2 * length lengths) over.code sh.code
        (formed_more g [] [] b1 b2 (1 + length lengths) (5 + 2 * length lengths) over.code sh.grown.ints sh.grown.bufs (omega arith)
        (λ sc room within are bufs more more_bufs le.
        over.formed sc room (within_less no_names g sc (omega arith) (omega arith) (omega arith) (omega arith) within)
        (lengths_declared x b0 sc given within (let i = over.grown.ints in omega (arith, i, more))) tt more more_bufs le))
        (λ sc room within are bufs more more_bufs le.
        sh.formed sc room (stepper_within from base strides b0.ints b1.ints b0.ints b1.ints sc over.fresh.0 over.fresh.1 (within_left (origin_scope from) (scope_of_all lengths) sc within))
        (lengths_declared x b0 sc given within (let i = over.grown.ints in let j = sh.grown.ints in omega (arith, i, j, more))) tt more more_bufs
        (let deep = over.as_many in omega (arith, deep, le)));
    runs = λ c s a h of_kind unnamed. all_shown c s a h of_kind unnamed;
  }

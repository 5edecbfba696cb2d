-- Values with the shape of one array: lengths of their own, a stepper over its cells, and the elements that are made of it
-- one by one.
-- It must not know what is made of an element.
use Rattle.std.proofs.Common.{◌≡◌, ℕ, ◌+◌, ◌≤◌, List, [], ◌∷◌, ◌++◌, length, sym, ap, ◌∙◌, subst, arith, ℤ}
use Rattle.std.specs.Prelude.{Some, Ok, Err, IfOk}
use Rattle.aplc_scalar.specs.declared.kind.Kind.{Kind}
use Rattle.aplc_scalar.specs.Scalar.{Given}
use Rattle.aplc_arr.specs.Arrays.{Array, IsArray, at, place, product}
use Rattle.aplc_arr.specs.Delayed.{Delayed, Prepared, computed}
use Rattle.aplc_cprof.specs.declared.syntax.Int.{Int}
use Rattle.aplc_cprof.specs.declared.syntax.CStmt.{CStmt}
use Rattle.aplc_cprof.specs.Blocks.{Blocks}
use Rattle.aplc_cprof.specs.WellFormed.{Scope}
use Rattle.aplc_cprof.specs.Machine.{State, Code}
use Rattle.aplc_cprof.specs.Frames.{AreGiven, AreOld, Stays, Hold}
use Rattle.aplc_cprof.specs.Emitted.{IsWithin, AreInts, IsFormed}
use Rattle.aplc_cprof.proofs.Paths.{Does, does_then, does_weaken}
use Rattle.aplc_cprof.proofs.Frames.{are_old_more, hold_stays}
use Rattle.aplc_cprof.proofs.Emitted.{formed_append, grown_then, within_left}
use Rattle.aplc_collect.specs.Elements.{Test, Steps}
use Rattle.aplc_step.specs.declared.stepper.Origin.{Origin}
use Rattle.aplc_step.specs.declared.stepper.Stepper.{Stepper}
use Rattle.aplc_step.specs.Steppers.{AreFresh, origin_scope, scope_of_all, stepper_test, stepper_scope, StepsOver}
use Rattle.aplc_step.specs.Wholes.{whole_steps, MakesStepper}
use Rattle.aplc_stage.specs.declared.staged.Staged.{Staged}
use Rattle.aplc_stage.specs.declared.staged.Staged.TheVariants as staged
use Rattle.aplc_stage.specs.Staged.{scope_of_staged, Holds}
use Rattle.aplc_stage.specs.Computes.{Computes, NoFault}
use Rattle.aplc_stage.specs.Pieces.{OwnLengths, StandsBeside, Gathers}
use Rattle.aplc_stage.proofs.Heaps.{IsOldOrigin}
use Rattle.aplc_stage.proofs.Setting.{locals_old, locals_many}
use Rattle.aplc_stage.proofs.Elements.{IsOldStaged, older, given_names, cells_few, holds_stay, cell_beside, at_is}
use Rattle.aplc_stage.proofs.Parts.{lengths_declared, locals_fresh}
use Rattle.aplc_stage.proofs.Leads.{Leads, Fillable, computes_by}
use Rattle.aplc_stage.proofs.Chains.{piece_last, piece_formed, stays_since, stepper_within, stepper_given}

-- ---- Lengths of its own and a stepper

-- lengths of its own hold the array's shape, and a stepper goes over its cells
pub record HasSteps (n m : ℕ) (own lengths : List Int) (base : Int) (strides : List Int) (a : Array) (s t : State) : Type 0 where
  pub stays : Stays n m s t
  pub held : Hold t own a.shape
  pub over : StepsOver lengths base strides t a.shape (place a.shape) (length a.cells)

module _ (from : Origin) (lengths own strides : List Int) (base : Int) (b0 b1 b2 : Blocks) (given : AreGiven (scope_of_staged (staged.Cells from lengths)) b0) (lens : OwnLengths b0 b1 lengths own) (over : MakesStepper b1 b2 lengths base strides) where
  abbrev y : Staged
  y = staged.Cells from lengths

  abbrev r : ℕ
  r = length lengths

  abbrev code : List CStmt
  code = lens.code ++ over.code

  old : IsOldStaged b0.ints b0.bufs y
  old = given_names y b0 given

  old2 : IsOldStaged b2.ints b2.bufs y
  old2 = older b0 b2 y (omega (arith, lens.grown.ints, over.grown.ints)) (omega (arith, lens.grown.bufs, over.grown.bufs)) old

  own_old : AreOld b1.ints own
  own_old = subst (λ (l : List Int). AreOld b1.ints l) (sym lens.lengths_are) (locals_old b1.ints b0.ints lengths (omega (arith, lens.names)))

  steps_run : (c : Code) (s : State) (a : Array) → Holds c.tables s y a → Does c (Stays b0.ints b0.bufs s) (r + whole_steps r) code s (HasSteps b0.ints b0.bufs own lengths base strides a s) NoFault
  steps_run c s a h =
      let whole : product a.shape ≤ length a.cells = let w = h.array.whole in omega (arith, w) in
      does_then c (Stays b0.ints b0.bufs s) r (whole_steps r) lens.code over.code s (λ t. Stays b0.ints b0.bufs s t × Hold t own a.shape) (HasSteps b0.ints b0.bufs own lengths base strides a s) NoFault
      (lens.runs c s a.shape h.shape)
      (λ t m. piece_last c b0.ints b0.bufs b1.ints b1.bufs (whole_steps r) over.code s t (λ u. Stays b1.ints b1.bufs t u × StepsOver lengths base strides u a.shape (place a.shape) (length a.cells)) (HasSteps b0.ints b0.bufs own lengths base strides a s) NoFault lens.grown.ints lens.grown.bufs m.0
      (over.runs c t a.shape (length a.cells) (hold_stays b0.ints b0.bufs s t lengths a.shape m.0 old.1 h.shape) whole (cells_few a h.array))
      (λ u w. record {
        stays = stays_since b0.ints b0.bufs b1.ints b1.bufs s t u lens.grown.ints lens.grown.bufs m.0 w.0;
        held = hold_stays b1.ints b1.bufs t u own a.shape w.0 own_old m.1;
        over = w.1;
      }))

  names : (g sc : Scope) → ((sc : Scope) → IsWithin g sc → IsWithin (scope_of_staged y) sc) → IsWithin g sc → b2.ints ≤ sc.ints → AreInts sc lengths
  names g sc of_y w le = lengths_declared y b0 sc given (of_y sc w) (omega (arith, lens.grown.ints, over.grown.ints, le))

  steps_formed : (g : Scope) → ((sc : Scope) → IsWithin g sc → IsWithin (scope_of_staged y) sc) → IsFormed g [] [] b2 (1 + r) code
  steps_formed g of_y =
      formed_append g [] [] b2 (1 + r) lens.code over.code
      (piece_formed g lengths b1 b2 0 (1 + r) lens.code over.grown.ints over.grown.bufs (omega arith) (λ sc w le. names g sc of_y w le) lens.formed)
      (piece_formed g lengths b2 b2 (1 + r) (1 + r) over.code (omega arith) (omega arith) (omega arith) (λ sc w le. names g sc of_y w le) over.formed)

  -- what is to be filled then
  pub leads_by : (From To : List (List ℤ) → State → Prepared → Type 0) (g : Scope) (a_of : (tables : List (List ℤ)) (s : State) (p : Prepared) → From tables s p → Array) → ((sc : Scope) → IsWithin g sc → IsWithin (scope_of_staged y) sc) → ((tables : List (List ℤ)) (s : State) (p : Prepared) (h : From tables s p) → Holds tables s y (a_of tables s p h)) → ((tables : List (List ℤ)) (s t : State) (p : Prepared) (h : From tables s p) → HasSteps b0.ints b0.bufs own lengths base strides (a_of tables s p h) s t → To tables t p) → Leads From To g (r + whole_steps r) (1 + r) b0 b2
  leads_by From To g a_of of_y holds next = record {
    code = code;
    grown = grown_then lens.code over.code b0 b1 b2 lens.grown over.grown;
    formed = steps_formed g of_y;
    runs = λ c s p h.
        does_weaken c (Stays b0.ints b0.bufs s) (Stays b0.ints b0.bufs s) (r + whole_steps r) (r + whole_steps r) code s (HasSteps b0.ints b0.bufs own lengths base strides (a_of c.tables s p h) s) (λ t. Stays b0.ints b0.bufs s t × To c.tables t p) NoFault (λ e t. Stays b0.ints b0.bufs s t × (computed p ≡ Err e))
        (λ u f. f) (λ t m. (m.stays, next c.tables s t p h m)) (λ e t f. absurd f) (omega arith)
        (steps_run c s (a_of c.tables s p h) (holds c.tables s p h));
  }

  pub many : length own ≡ r
  many = ap length lens.lengths_are ∙ locals_many b0.ints lengths

  pub own_fresh : AreFresh b0.ints b2.ints own
  own_fresh = subst (λ (l : List Int). AreFresh b0.ints b2.ints l) (sym lens.lengths_are) (locals_fresh b0.ints b2.ints b0.ints lengths (omega arith) (omega (arith, lens.names, over.grown.ints)))

  pub read_within : (sc : Scope) → IsWithin (scope_of_staged y) sc → IsWithin (stepper_scope from base strides) sc
  read_within sc w = stepper_within from base strides b1.ints b2.ints b1.ints b2.ints sc over.fresh.0 over.fresh.1 (within_left (origin_scope from) (scope_of_all lengths) sc w)

-- what the elements' code asks for then
pub one_asks : (from : Origin) (lengths own : List Int) (s : Stepper) (b0 b1 b2 : Blocks) → AreGiven (scope_of_staged (staged.Cells from lengths)) b0 → OwnLengths b0 b1 lengths own → s.from ≡ from → MakesStepper b1 b2 lengths s.base s.strides → AreGiven (stepper_scope s.from s.base s.strides) b2
one_asks from lengths own s b0 b1 b2 given lens ef over =
    stepper_given s.from s.base s.strides b2 (subst (λ (o : Origin). IsOldOrigin b2.bufs o) (sym ef) (old2 from lengths own s.strides s.base b0 b1 b2 given lens over).0) over.base_given over.strides_given

pub own_then : (from : Origin) (lengths own strides : List Int) (base : Int) (b0 b1 b2 : Blocks) → AreGiven (scope_of_staged (staged.Cells from lengths)) b0 → OwnLengths b0 b1 lengths own → MakesStepper b1 b2 lengths base strides → AreOld b2.ints own
own_then from lengths own strides base b0 b1 b2 given lens over = are_old_more b1.ints b2.ints own over.grown.ints (own_old from lengths own strides base b0 b1 b2 given lens over)

-- ---- Elements made of elements

-- what is made of an array that stands there
pub record ArgumentOf (prepare : Array → Prepared) (Suits : Array → Type 0) (x : Staged) (tables : List (List ℤ)) (s : State) (p : Prepared) : Type 0 where
  pub argument : Array
  pub holds : Holds tables s x argument
  pub suits : Suits argument
  pub prepared : p ≡ prepare argument

-- the array of the argument's shape that has this element for each of its own
abbrev pub made_of : (Array → Kind) → (ℤ → Given) → Array → Delayed
made_of kind_of element a = record { kind = kind_of a; shape = a.shape; element = λ is. element (at a is) }

-- what computes from less computes from more
pub computes_from : (A B : List (List ℤ) → State → Prepared → Type 0) (g : Scope) (rank : ℕ) (b0 b1 : Blocks) (x : Staged) → ((tables : List (List ℤ)) (s : State) (p : Prepared) → B tables s p → A tables s p) → Computes A g rank b0 b1 x → Computes B g rank b0 b1 x
computes_from A B g rank b0 b1 x to h = record {
  code = h.code;
  grown = h.grown;
  formed = h.formed;
  fresh = h.fresh;
  ranked = h.ranked;
  axes = h.axes;
  runs = λ c s p from. h.runs c s p (to c.tables s p from);
}

module _ (prepare : Array → Prepared) (Suits : Array → Type 0) (kind_of : Array → Kind) (element : ℤ → Given) (come : (a : Array) → Suits a → prepare a ≡ Ok (made_of kind_of element a)) (keeps : (a : Array) → IsArray a → IfOk (computed (prepare a)) IsArray) (from : Origin) (lengths own strides : List Int) (base : Int) (b0 b1 b2 : Blocks) (given : AreGiven (scope_of_staged (staged.Cells from lengths)) b0) (lens : OwnLengths b0 b1 lengths own) (over : MakesStepper b1 b2 lengths base strides) (test : Test) (steps : Steps) (reads : (tables : List (List ℤ)) (t : State) (is : List ℕ) (z : ℤ) → stepper_test from base strides tables t is ≡ Some (Ok z) → test tables t is ≡ Some (element z)) (quick : (tables : List (List ℤ)) (t : State) → steps tables t ≤ 3) where
  abbrev x : Staged
  x = staged.Cells from lengths

  abbrev Of : List (List ℤ) → State → Prepared → Type 0
  Of = ArgumentOf prepare Suits x

  names_then : IsOldStaged b2.ints b2.bufs x
  names_then = old2 from lengths own strides base b0 b1 b2 given lens over

  -- behind the stepper code stands for the elements
  stands_is : (tables : List (List ℤ)) (s : State) (a : Array) → Holds tables s x a → StepsOver lengths base strides s a.shape (place a.shape) (length a.cells) → StandsBeside test steps tables b2.ints b2.bufs s (made_of kind_of element a) 3
  stands_is tables s a h o = record {
    takes = λ u other st. quick tables u;
    items = λ u other st is index.
        reads tables u is (at a is)
        (cell_beside b2.ints b2.bufs (Some other ∷ []) tables s u from base strides lengths a a.shape is (place a.shape) names_then.0 over.base_given over.strides_given names_then.1 h.array h.cells o st index
        ∙ ap (λ z. Some (Ok z)) (at_is a is h.array index));
  }

  fillable : (tables : List (List ℤ)) (s t : State) (p : Prepared) (h : Of tables s p) → HasSteps b0.ints b0.bufs own lengths base strides h.argument s t → Fillable test steps b2.ints b2.bufs 3 own tables t p
  fillable tables s t p h m = record {
    array = made_of kind_of element h.argument;
    is = h.prepared ∙ come h.argument h.suits;
    shape = m.held;
    fits = h.holds.array.fits;
    stands = stands_is tables t h.argument (holds_stay b0.ints b0.bufs tables s t x h.argument (given_names x b0 given) m.stays h.holds) m.over;
    keeps = subst (λ (q : Prepared). IfOk (computed q) IsArray) (sym h.prepared) (keeps h.argument h.holds.array);
  }

  pub one_cells : (depth : ℕ) (b3 : Blocks) (v : Staged) → 1 ≤ length lengths → 2 + depth ≤ 8 + length lengths → Gathers test steps (stepper_scope from base strides) depth b2 b3 own v → Computes Of (scope_of_staged x) (length lengths) b0 b3 v
  one_cells depth b3 v some deep last =
      let r = length lengths in
      let H = stepper_scope from base strides in
      let eq = many from lengths own strides base b0 b1 b2 given lens over in
      subst (λ (w : Staged). Computes Of (scope_of_staged x) r b0 b3 w) (sym last.name)
      (computes_by Of test steps (scope_of_staged x) H depth 3 (r + whole_steps r) (1 + r) r b0 b2 b3 own
      (leads_by from lengths own strides base b0 b1 b2 given lens over Of (Fillable test steps b2.ints b2.bufs 3 own) (scope_of_staged x) (λ tables s p h. h.argument) (λ sc w. w) (λ tables s p h. h.holds) fillable)
      (subst (λ (w : Staged). Gathers test steps H depth b2 b3 own w) last.name last)
      (omega arith) (omega arith) (omega arith) (omega (arith, eq, deep)) eq some (own_fresh from lengths own strides base b0 b1 b2 given lens over)
      (read_within from lengths own strides base b0 b1 b2 given lens over))

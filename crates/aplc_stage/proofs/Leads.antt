-- Code after code that leaves all as it was and after which more is known, up to the elements of a new array.
-- It must not know what is computed.
use Rattle.std.proofs.Common.{◌≡◌, ℕ, suc, ◌+◌, ◌*◌, ◌≤◌, List, [], ◌∷◌, ◌++◌, length, refl, sym, ap, ◌∙◌, subst, arith, true, ℤ}
use Rattle.std.specs.Prelude.{Option, Some, Result, Ok, Err, IfOk, option_and_then, slice_get, sum_by}
use Rattle.std.proofs.Math.Nat.{mul-le-mul_left}
use Rattle.aplc_scalar.specs.declared.kind.FaultKind.{FaultKind}
use Rattle.aplc_arr.specs.Arrays.{IsArray, product, shape_fits}
use Rattle.aplc_arr.specs.Delayed.{Delayed, Prepared, computed, with_cells}
use Rattle.aplc_arr.proofs.Elements.{count-cells}
use Rattle.aplc_cprof.specs.declared.syntax.Int.{Int}
use Rattle.aplc_cprof.specs.declared.syntax.Buf.TheVariants as buf
use Rattle.aplc_cprof.specs.declared.syntax.CStmt.{CStmt}
use Rattle.aplc_cprof.specs.Blocks.{Blocks}
use Rattle.aplc_cprof.specs.WellFormed.{Scope}
use Rattle.aplc_cprof.specs.Machine.{State, Code, cells_of, held}
use Rattle.aplc_cprof.specs.Frames.{AreOld, Stays, Hold, live}
use Rattle.aplc_cprof.specs.Emitted.{Grown, IsWithin, AreInts, IsFormed}
use Rattle.aplc_cprof.proofs.Paths.{Does, does_then, does_weaken}
use Rattle.aplc_cprof.proofs.Frames.{fresh_old, fresh_more, stays_then, stays_less, hold_stays}
use Rattle.aplc_cprof.proofs.Emitted.{fresh_declared, formed_append, formed_more, grown_then}
use Rattle.aplc_cprof.proofs.Stores.{held_new, get_last}
use Rattle.aplc_collect.specs.Elements.{Test, Steps}
use Rattle.aplc_step.specs.declared.stepper.Origin.TheVariants as origin
use Rattle.aplc_step.specs.Steppers.{AreFresh}
use Rattle.aplc_stage.specs.declared.staged.Staged.{Staged}
use Rattle.aplc_stage.specs.declared.staged.Staged.TheVariants as staged
use Rattle.aplc_stage.specs.Computes.{with_heap, Making, cells_for, Made, most_steps, shape_steps, code_depth, Comes, Faults, Computes, cells_of_prepared}
use Rattle.aplc_stage.specs.Pieces.{StandsBeside, Gathered, FaultGathered, Gathers}
use Rattle.aplc_stage.proofs.Heaps.{hold_heap, none_made}

-- Code after which `To` holds, where `From` held before it; all else is as it was. Or it ends with the fault of what is
-- to be computed.
pub record Leads (From To : List (List ℤ) → State → Prepared → Type 0) (g : Scope) (k depth : ℕ) (old new : Blocks) : Type 0 where
  pub code : List CStmt
  pub grown : Grown code old new
  pub formed : IsFormed g [] [] new depth code
  pub runs : (c : Code) (s : State) (p : Prepared) → From c.tables s p → Does c (Stays old.ints old.bufs s) k code s (λ t. Stays old.ints old.bufs s t × To c.tables t p) (λ e t. Stays old.ints old.bufs s t × (computed p ≡ Err e))

-- one piece after another
pub leads_then : (A B C : List (List ℤ) → State → Prepared → Type 0) (g : Scope) (j k d e : ℕ) (b0 b1 b2 : Blocks) → d ≤ e → Leads A B g j d b0 b1 → Leads B C g k e b1 b2 → Leads A C g (j + k) e b0 b2
leads_then A B C g j k d e b0 b1 b2 le f h = record {
  code = f.code ++ h.code;
  grown = grown_then f.code h.code b0 b1 b2 f.grown h.grown;
  formed = formed_append g [] [] b2 e f.code h.code (formed_more g [] [] b1 b2 d e f.code h.grown.ints h.grown.bufs le f.formed) h.formed;
  runs = λ c s p from.
      does_then c (Stays b0.ints b0.bufs s) j k f.code h.code s (λ t. Stays b0.ints b0.bufs s t × B c.tables t p) (λ t. Stays b0.ints b0.bufs s t × C c.tables t p) (λ kind t. Stays b0.ints b0.bufs s t × (computed p ≡ Err kind))
      (f.runs c s p from)
      (λ t m.
      let on : (u : State) → Stays b1.ints b1.bufs t u → Stays b0.ints b0.bufs s u = λ u st. stays_then b0.ints b0.bufs s t u m.0 (stays_less b0.ints b1.ints b0.bufs b1.bufs t u f.grown.ints f.grown.bufs st) in
      does_weaken c (Stays b1.ints b1.bufs t) (Stays b0.ints b0.bufs s) k k h.code t (λ u. Stays b1.ints b1.bufs t u × C c.tables u p) (λ u. Stays b0.ints b0.bufs s u × C c.tables u p) (λ kind u. Stays b1.ints b1.bufs t u × (computed p ≡ Err kind)) (λ kind u. Stays b0.ints b0.bufs s u × (computed p ≡ Err kind))
      on (λ u x. (on u x.0, x.1)) (λ kind u x. (on u x.0, x.1)) (omega arith)
      (h.runs c t p m.1));
}

-- ---- Elements at the end

-- it is known which array is to come, the variables hold its lengths, and code stands for its elements
pub record Fillable (test : Test) (steps : Steps) (n m k : ℕ) (lengths : List Int) (tables : List (List ℤ)) (s : State) (p : Prepared) : Type 0 where
  pub array : Delayed
  pub is : p ≡ Ok array
  pub shape : Hold s lengths array.shape
  pub fits : shape_fits array.shape ≡ true
  pub stands : StandsBeside test steps tables n m s array k
  pub keeps : IfOk (computed p) IsArray

pub hold_length : (s : State) (xs : List Int) (ns : List ℕ) → Hold s xs ns → length xs ≡ length ns
hold_length s [] [] h = refl
hold_length s [] (n ∷ ns) h = absurd h
hold_length s (x ∷ xs) [] h = absurd h
hold_length s (x ∷ xs) (n ∷ ns) h = ap suc (hold_length s xs ns h.1)

pub some_cells : (ns : List ℕ) → 1 ≤ length ns → cells_for ns ≡ product ns
some_cells [] le = absurd (omega (arith, le))
some_cells (n ∷ ns) le = refl

pub fresh_names : (n m : ℕ) (xs : List Int) → AreFresh n m xs → AreOld m xs
fresh_names n m [] h = tt
fresh_names n m (x ∷ xs) h = (fresh_old n m x h.0, fresh_names n m xs h.1)

fresh_ints : (sc : Scope) (n m : ℕ) (xs : List Int) → AreFresh n m xs → m ≤ sc.ints → AreInts sc xs
fresh_ints sc n m [] h le = tt
fresh_ints sc n m (x ∷ xs) h le = (fresh_declared sc n m x h.0 le, fresh_ints sc n m xs h.1 le)

pub fresh_wider : (n m m' : ℕ) (xs : List Int) → m ≤ m' → AreFresh n m xs → AreFresh n m' xs
fresh_wider n m m' [] le h = tt
fresh_wider n m m' (x ∷ xs) le h = (fresh_more n m m' x le h.0, fresh_wider n m m' xs le h.1)

abbrev IsGood : Prepared → Delayed → Type 0
IsGood p d = p ≡ Ok d

same_array : (d e : Delayed) → IsGood (Ok d) e → d ≡ e
same_array d e h = ap or_first h
  where
    or_first : Prepared → Delayed
    or_first (Ok x) = x
    or_first (Err k) = d

no_array : (k : FaultKind) (d : Delayed) → IsGood (Err k) d → ⊥
no_array k d h = cc

module _ (From : List (List ℤ) → State → Prepared → Type 0) (test : Test) (steps : Steps) (g h : Scope) (depth k j e rank : ℕ) (b0 b1 b2 : Blocks) (lengths : List Int) (lead : Leads From (Fillable test steps b1.ints b1.bufs k lengths) g j e b0 b1) (last : Gathers test steps h depth b1 b2 lengths (staged.Cells (origin.Buffer (buf.Local b1.bufs)) lengths)) (quick : k ≤ 6) (short : j ≤ 5 * rank + 18) (shallow : e ≤ code_depth rank) (shallow' : 2 + depth + length lengths ≤ code_depth rank) (many : length lengths ≡ rank) (some : 1 ≤ rank) (fresh : AreFresh b0.ints b1.ints lengths) (within_g : (sc : Scope) → IsWithin g sc → IsWithin h sc) where
  abbrev value : Staged
  value = staged.Cells (origin.Buffer (buf.Local b1.bufs)) lengths

  -- a new array stands there
  made_is : (tables : List (List ℤ)) (s t u : State) (d : Delayed) (r : Gathered b1.ints b1.bufs d t u) → Stays b0.ints b0.bufs s t → Hold t lengths d.shape → IsArray (record { kind = d.kind; shape = d.shape; cells = r.cells }) → Made tables b0.ints b0.bufs value (record { kind = d.kind; shape = d.shape; cells = r.cells }) s u
  made_is tables s t u d r f hold array =
      let count = count-cells d r.cells r.given in
      let heap_is : u.heap ≡ s.heap ++ Some r.cells ∷ [] = r.stays.heap ∙ ap (λ (l : List (Option (List ℤ))). l ++ Some r.cells ∷ []) f.heap in
      let long : 1 ≤ length d.shape = let eq = hold_length t lengths d.shape hold in omega (arith, eq, many, some) in
      let taken = some_cells d.shape long in
      let place : u.bufs b1.bufs ≡ Some (length s.heap) = r.named ∙ ap (λ (l : List (Option (List ℤ))). Some (length l)) f.heap in
      record {
        stays = record {
          ints = λ x lt. r.stays.ints x (omega (arith, lt, lead.grown.ints)) ∙ f.ints x lt;
          bufs = λ q lt. r.stays.bufs q (omega (arith, lt, lead.grown.bufs)) ∙ f.bufs q lt;
          around = r.stays.around ∙ f.around;
          heap = heap_is;
        };
        holds = record {
          array = array;
          shape = hold_stays b1.ints b1.bufs (with_heap (t.heap ++ Some r.cells ∷ []) t) u lengths d.shape r.stays (fresh_names b0.ints b1.ints lengths fresh) (hold_heap (t.heap ++ Some r.cells ∷ []) t lengths d.shape hold);
          cells =
              ap (λ (o : Option ℕ). live (option_and_then (slice_get u.heap) o)) place
              ∙ ap (λ (l : List (Option (List ℤ))). live (slice_get l (length s.heap))) heap_is
              ∙ ap live (get_last s.heap (Some r.cells));
        };
        place = place;
        held_more = ap (sum_by cells_of) heap_is ∙ held_new s.heap (Some r.cells) ∙ ap (λ i. held s + i) (count ∙ sym taken);
      }

  abbrev enough : Delayed → ℕ
  enough d = product d.shape * (4 * rank + 8) + 6

  steps_fit : (d : Delayed) → length d.shape ≡ rank → product d.shape * (k + 4 * length d.shape + 2) + 6 ≤ enough d
  steps_fit d eq =
      let each : k + 4 * length d.shape + 2 ≤ 4 * rank + 8 = omega (arith, quick, eq) in
      let all = mul-le-mul_left (product d.shape) each in
      omega (arith, all)

  making : (s t u : State) (d : Delayed) → length d.shape ≡ rank → Stays b0.ints b0.bufs s t → Making b1.ints b1.bufs (product d.shape) t u → Making b0.ints b0.bufs (cells_for d.shape) s u
  making s t u d eq f w =
      let taken = some_cells d.shape (omega (arith, eq, some)) in
      record {
        more = w.more;
        stays = record {
          ints = λ x lt. w.stays.ints x (omega (arith, lt, lead.grown.ints)) ∙ f.ints x lt;
          bufs = λ q lt. w.stays.bufs q (omega (arith, lt, lead.grown.bufs)) ∙ f.bufs q lt;
          around = w.stays.around ∙ f.around;
          heap = w.stays.heap ∙ ap (λ (l : List (Option (List ℤ))). l ++ w.more) f.heap;
        };
        held_more = let le = w.held_more in omega (arith, le, taken);
      }

  -- what the elements come to
  abbrev Last : Code → State → State → Delayed → Type 0
  Last c s t d = Does c (Making b0.ints b0.bufs (cells_for d.shape) s) (enough d) last.code t (Comes c.tables b0.ints b0.bufs value (Ok d) s) (Faults b0.ints b0.bufs (Ok d) s)

  last_at : (c : Code) (s t : State) (d : Delayed) → Stays b0.ints b0.bufs s t → Hold t lengths d.shape → shape_fits d.shape ≡ true → StandsBeside test steps c.tables b1.ints b1.bufs t d k → IfOk (computed (Ok d)) IsArray → Last c s t d
  last_at c s t d f hold fits stands keeps =
      let eq : length d.shape ≡ rank = sym (hold_length t lengths d.shape hold) ∙ many in
      does_weaken c (Making b1.ints b1.bufs (product d.shape) t) (Making b0.ints b0.bufs (cells_for d.shape) s) (product d.shape * (k + 4 * length d.shape + 2) + 6) (enough d) last.code t (Gathered b1.ints b1.bufs d t) (Comes c.tables b0.ints b0.bufs value (Ok d) s) (FaultGathered b1.ints b1.bufs d t) (Faults b0.ints b0.bufs (Ok d) s)
      (λ u w. making s t u d eq f w)
      (λ u r. record {
        array = record { kind = d.kind; shape = d.shape; cells = r.cells };
        given = ap (with_cells d) r.given;
        made = made_is c.tables s t u d r f hold (subst (λ (q : Result (List ℤ) FaultKind). IfOk (with_cells d q) IsArray) r.given keeps);
      })
      (λ kind u x. record { stays = making s t u d eq f x.stays; given = ap (with_cells d) x.given })
      (steps_fit d eq)
      (last.runs c t d k hold fits stands)

  abbrev Mid : Code → State → Prepared → State → Type 0
  Mid c s p t = Stays b0.ints b0.bufs s t × Fillable test steps b1.ints b1.bufs k lengths c.tables t p

  lead_runs : (c : Code) (s : State) (p : Prepared) → From c.tables s p → Does c (Making b0.ints b0.bufs (cells_of_prepared p) s) j lead.code s (Mid c s p) (Faults b0.ints b0.bufs p s)
  lead_runs c s p from =
      does_weaken c (Stays b0.ints b0.bufs s) (Making b0.ints b0.bufs (cells_of_prepared p) s) j j lead.code s (Mid c s p) (Mid c s p) (λ kind t. Stays b0.ints b0.bufs s t × (computed p ≡ Err kind)) (Faults b0.ints b0.bufs p s)
      (λ u f. none_made b0.ints b0.bufs (cells_of_prepared p) s u f) (λ u x. x)
      (λ kind u x. record { stays = none_made b0.ints b0.bufs (cells_of_prepared p) s u x.0; given = x.1 }) (omega arith)
      (lead.runs c s p from)

  abbrev All : Code → State → Prepared → Type 0
  All c s p = Does c (Making b0.ints b0.bufs (cells_of_prepared p) s) (most_steps rank p) (lead.code ++ last.code) s (Comes c.tables b0.ints b0.bufs value p s) (Faults b0.ints b0.bufs p s)

  all_run : (c : Code) (s : State) (p : Prepared) → From c.tables s p → All c s p
  all_run c s (Err kind) from =
      let Way : State → Type 0 = Making b0.ints b0.bufs 0 s in
      let Post = Comes c.tables b0.ints b0.bufs value (Err kind) s in
      let Fail = Faults b0.ints b0.bufs (Err kind) s in
      does_weaken c Way Way (j + 0) (shape_steps rank) (lead.code ++ last.code) s Post Post Fail Fail (λ u x. x) (λ u x. x) (λ i u x. x) (omega (arith, short))
      (does_then c Way j 0 lead.code last.code s (Mid c s (Err kind)) Post Fail (lead_runs c s (Err kind) from) (λ t m. absurd (no_array kind m.1.array m.1.is)))
  all_run c s (Ok d) from =
      let Way : State → Type 0 = Making b0.ints b0.bufs (cells_for d.shape) s in
      let Post = Comes c.tables b0.ints b0.bufs value (Ok d) s in
      let Fail = Faults b0.ints b0.bufs (Ok d) s in
      does_weaken c Way Way (j + enough d) (most_steps rank (Ok d)) (lead.code ++ last.code) s Post Post Fail Fail (λ u x. x) (λ u x. x) (λ i u x. x) (omega (arith, short))
      (does_then c Way j (enough d) lead.code last.code s (Mid c s (Ok d)) Post Fail (lead_runs c s (Ok d) from)
      (λ t m.
      let f = m.1 in
      let same = same_array d f.array f.is in
      subst (Last c s t) (sym same) (last_at c s t f.array m.0 f.shape f.fits f.stands (subst (λ (x : Delayed). IfOk (computed (Ok x)) IsArray) same f.keeps))))

  pub computes_by : Computes From g rank b0 b2 value
  computes_by = record {
    code = lead.code ++ last.code;
    grown = grown_then lead.code last.code b0 b1 b2 lead.grown last.grown;
    formed =
        formed_append g [] [] b2 (code_depth rank) lead.code last.code
        (formed_more g [] [] b1 b2 e (code_depth rank) lead.code last.grown.ints last.grown.bufs shallow lead.formed)
        (λ sc room within are bufs more more_bufs le.
        last.formed sc room (within_g sc within) (fresh_ints sc b0.ints b1.ints lengths fresh (omega (arith, last.grown.ints, more))) bufs more more_bufs (omega (arith, shallow', le)));
    fresh = ((lead.grown.bufs, last.one_more), fresh_wider b0.ints b1.ints b2.ints lengths last.grown.ints fresh);
    ranked = omega (arith, many, some);
    axes = many;
    runs = λ c s p from. all_run c s p from;
  }

-- Results of rank 0, which are in variables.
-- It must not know which function gives them.
use Rattle.std.proofs.Common.{◌≡◌, ℕ, ◌≤◌, List, [], ◌∷◌, refl, sym, ap, ◌∙◌, subst, arith, append-nil, ℤ}
use Rattle.std.specs.Prelude.{Result, Ok, Err, IfOk, sum_by}
use Rattle.aplc_scalar.specs.declared.kind.Kind.{Kind}
use Rattle.aplc_scalar.specs.declared.kind.FaultKind.{FaultKind}
use Rattle.aplc_scalar.specs.Scalar.{Given}
use Rattle.aplc_arr.specs.Arrays.{Array, IsArray}
use Rattle.aplc_arr.specs.Delayed.{Prepared, computed}
use Rattle.aplc_cprof.specs.declared.syntax.Int.{Int}
use Rattle.aplc_cprof.specs.declared.syntax.CStmt.{CStmt}
use Rattle.aplc_cprof.specs.Machine.{State, Code, cells_of, held}
use Rattle.aplc_cprof.specs.Frames.{Stays, Hold}
use Rattle.aplc_cprof.proofs.Paths.{Does, does_weaken}
use Rattle.aplc_collect.specs.Elements.{Computed, Failed, Yields}
use Rattle.aplc_stage.specs.declared.staged.Staged.TheVariants as staged
use Rattle.aplc_stage.specs.Staged.{Holds}
use Rattle.aplc_stage.specs.Computes.{Making, Comes, Faults, cells_of_prepared, most_steps}
use Rattle.aplc_stage.proofs.Heaps.{none_made}

-- an array of one number without axes
abbrev pub one_number : Kind → ℤ → Array
one_number kind z = record { kind = kind; shape = []; cells = z ∷ [] }

-- what a number or a fault is as a result
abbrev pub one_given : Kind → Given → Result Array FaultKind
one_given kind (Ok z) = Ok (one_number kind z)
one_given kind (Err e) = Err e

pub no_axes : (s : State) (ns : List ℕ) → Hold s [] ns → ns ≡ []
no_axes s [] h = refl
no_axes s (n ∷ ns) h = absurd h

-- an array in a variable is its number
pub scalar_is : (tables : List (List ℤ)) (s : State) (x : Int) (a : Array) (h : Holds tables s (staged.Scalar x) a) → a ≡ one_number a.kind h.cells.0
scalar_is tables s x a h =
    ap (λ (l : List ℕ). record { kind = a.kind; shape = l; cells = a.cells }) (no_axes s a.shape h.shape)
    ∙ ap (λ (l : List ℤ). record { kind = a.kind; shape = []; cells = l }) h.cells.1

module _ (c : Code) (n m k rank : ℕ) (code : List CStmt) (s : State) (v : Int) (kind : Kind) (r : Given) (p : Prepared) (given : computed p ≡ one_given kind r) (keeps : IfOk (computed p) IsArray) where
  same_result : (q : Given) → r ≡ q → computed p ≡ one_given kind q
  same_result q e = given ∙ ap (one_given kind) e

  scalar_made : (t : State) → Computed n m s v r t → Comes c.tables n m (staged.Scalar v) p s t
  scalar_made t d =
      let is = same_result (Ok d.value) d.given in
      record {
        array = one_number kind d.value;
        given = is;
        made = record {
          stays = record { ints = d.stays.ints; bufs = d.stays.bufs; around = d.stays.around; heap = d.stays.heap ∙ sym (append-nil s.heap) };
          holds = record { array = subst (λ (q : Result Array FaultKind). IfOk q IsArray) is keeps; shape = tt; cells = (d.value, refl, d.is) };
          place = tt;
          held_more = let same : held t ≡ held s = ap (sum_by cells_of) d.stays.heap in omega (arith, same);
        };
      }

  -- a number in a variable, or its fault
  pub scalar_runs : k ≤ most_steps rank p → Yields c n m k code s v r → Does c (Making n m (cells_of_prepared p) s) (most_steps rank p) code s (Comes c.tables n m (staged.Scalar v) p s) (Faults n m p s)
  scalar_runs le d =
      does_weaken c (Stays n m s) (Making n m (cells_of_prepared p) s) k (most_steps rank p) code s (Computed n m s v r) (Comes c.tables n m (staged.Scalar v) p s) (Failed n m s r) (Faults n m p s)
      (λ u f. none_made n m (cells_of_prepared p) s u f)
      scalar_made
      (λ i u f. record { stays = none_made n m (cells_of_prepared p) s u f.stays; given = same_result (Err i) f.given })
      le d

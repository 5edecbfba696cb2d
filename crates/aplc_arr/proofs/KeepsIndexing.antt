-- Indexing and indexed assignment give arrays of the language.
use Rattle.std.proofs.Common.{◌≡◌, ℕ, List, length, Option, refl, ◌∙◌, subst}
use Rattle.std.specs.Prelude.{ℤ, Result, Ok, IfOk, nat_eq, nat_lt, nat_le, Bool, true, false, ◌&&◌, ◌||◌}
use Rattle.std.proofs.lemmas.List.Elements.{All-from_recursion, recursion_from_All}
use Rattle.aplc_scalar.specs.declared.kind.FaultKind.{FaultKind}
use Rattle.aplc_arr.specs.Arrays.{Array, rank, product, place, index_at, at, shape_eq, kind_eq, shape_fits, is_cell, IsArray}
use Rattle.aplc_arr.specs.Delayed.{moved, needs}
use Rattle.aplc_arr.specs.Each.{extended}
use Rattle.aplc_arr.specs.Indexing.{joined_shape, all_numbers, places_within, picked, indexed, set_all, settings, changed}
use Rattle.aplc_arr.proofs.Basics.{every-set_all, every-first, length-set_all, and-parts}
use Rattle.aplc_arr.proofs.Keeping.{keeps-needs, cell-of, same-kind, keeps-if, Keeps, keeps-whole}
use Rattle.aplc_arr.proofs.KeepsEach.{cell-extended}
use Rattle.aplc_scalar.specs.declared.kind.FaultKind.TheVariants as fault

pub keeps-index : (o : ℤ) (w : Array) (vs : List (Option Array)) → IsArray w → Keeps (indexed o w vs)
keeps-index o w vs h =
    let ns = joined_shape w.shape vs in
    let here = nat_eq (length vs) (rank w) && nat_lt 0 (rank w) && nat_le (length ns) 8 in
    let el : List ℕ → ℤ = λ is. at w (picked o vs is) in
    let form0 = moved w.kind ns el in
    let form1 = needs (places_within o w.shape vs) fault.Index form0 in
    let form2 = needs (shape_fits ns) fault.Limit form1 in
    keeps-needs (all_numbers vs) fault.Domain (needs here fault.Rank form2)
    (keeps-if here fault.Rank form2 (λ r.
    keeps-if (shape_fits ns) fault.Limit form1 (λ l.
    keeps-needs (places_within o w.shape vs) fault.Index form0
    (keeps-whole w ns el l (and-parts (nat_eq (length vs) (rank w) && nat_lt 0 (rank w)) (nat_le (length ns) 8) r).1 (λ is. cell-of w _ h)))))

changed-if : (b : Bool) (e : FaultKind) (x : Result Array FaultKind) → (b ≡ true → IfOk x IsArray) → IfOk (needs b e x) IsArray
changed-if true e x h = h refl
changed-if false e x h = tt

pub keeps-change : (o : ℤ) (w v : Array) (vs : List (Option Array)) → IsArray w → IsArray v → IfOk (changed o w vs v) IsArray
keeps-change o w v vs hw hv =
    let ns = joined_shape w.shape vs in
    let here = nat_eq (length vs) (rank w) && nat_lt 0 (rank w) && nat_le (length ns) 8 in
    let form0 : Result Array FaultKind = Ok record w { cells = set_all (settings o w vs v) w.cells } in
    let form1 = needs (places_within o w.shape vs) fault.Index form0 in
    let form2 = needs (nat_eq (product v.shape) 1 || shape_eq v.shape ns) fault.Length form1 in
    let kinds = all_numbers vs && kind_eq w.kind v.kind in
    changed-if kinds fault.Domain (needs here fault.Rank form2) (λ e.
    changed-if here fault.Rank form2 (λ r.
    changed-if (nat_eq (product v.shape) 1 || shape_eq v.shape ns) fault.Length form1 (λ l.
    changed-if (places_within o w.shape vs) fault.Index form0 (λ p.
    record {
      whole = length-set_all (settings o w vs v) w.cells ∙ hw.whole;
      fits = hw.fits;
      ranked = hw.ranked;
      cells = All-from_recursion (λ z. is_cell w.kind z ≡ true) _ (every-set_all (λ z. is_cell w.kind z ≡ true) (settings o w vs v) w.cells (every-first (λ (s : ℕ × ℤ). is_cell w.kind s.1 ≡ true) (λ i. (place w.shape (picked o vs (index_at ns i)), extended v ns (index_at ns i))) (λ i. subst (λ kind. is_cell kind (extended v ns (index_at ns i)) ≡ true) (same-kind w.kind v.kind (and-parts (all_numbers vs) (kind_eq w.kind v.kind) e).1) (cell-extended v ns (index_at ns i) hv)) (product ns)) (recursion_from_All (λ z. is_cell w.kind z ≡ true) w.cells hw.cells));
    }))))

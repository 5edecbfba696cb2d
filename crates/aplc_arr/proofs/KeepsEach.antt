-- The scalar functions on arrays give arrays of the language.
use Rattle.std.proofs.Common.{◌≡◌, ℕ, List, [], ◌∷◌, length, Option, Some, None}
use Rattle.std.specs.Prelude.{nat_le, Bool, true, false, ◌&&◌}
use Rattle.aplc_scalar.specs.Scalar.{monadic, is_monadic}
use Rattle.aplc_scalar.specs.declared.function.ScalarFn.{ScalarFn}
use Rattle.aplc_arr.specs.Arrays.{Array, rank, at, first_of, shape_eq, is_numbers, shape_fits, is_cell, IsArray}
use Rattle.aplc_arr.specs.Delayed.{delayed, needs}
use Rattle.aplc_arr.specs.Each.{each_monadic, kinds_suit, applied, ranks_suit, common_of, common_shape, extended, each_pair, each_dyadic}
use Rattle.aplc_arr.proofs.Basics.{and-parts}
use Rattle.aplc_arr.proofs.Ranges.{given-applied, given-monadic, cell-if}
use Rattle.aplc_arr.proofs.Keeping.{range-cell, keeps-needs, cell-of, keeps-if, keeps-made, Keeps, ranked}
use Rattle.aplc_scalar.specs.declared.kind.FaultKind.TheVariants as fault
use Rattle.aplc_scalar.specs.declared.kind.Kind.TheVariants as k

pub keeps-each_monadic : (g : ScalarFn) (b : Array) → IsArray b → Keeps (each_monadic g b)
keeps-each_monadic g b h =
    keeps-if (is_numbers b && is_monadic g) fault.Domain (delayed k.Num b.shape (λ is. monadic g (at b is))) (λ e.
    keeps-made k.Num b.shape (λ is. monadic g (at b is)) h.fits (ranked h) (λ is l. given-monadic g (at b is) (range-cell b _ (and-parts (is_numbers b) (is_monadic g) e).0 h)))

abbrev pub HasBoth : (List ℕ → Type 0) → Option (List ℕ) → Type 0
HasBoth P None = Unit {0}
HasBoth P (Some ns) = P ns

pub joint-of-has : (P : List ℕ → Type 0) (s l r : Bool) (ms ns : List ℕ) → P ms → P ns → HasBoth P (common_of s l r ms ns)
joint-of-has P true l r ms ns p q = p
joint-of-has P false true r ms ns p q = q
joint-of-has P false false true ms ns p q = p
joint-of-has P false false false ms ns p q = tt

pub joint-has : (P : List ℕ → Type 0) (ms ns : List ℕ) → P ms → P ns → HasBoth P (common_shape ms ns)
joint-has P [] ns p q = q
joint-has P (m ∷ ms) [] p q = p
joint-has P (m ∷ ms) (n ∷ ns) p q = joint-of-has P _ _ _ (m ∷ ms) (n ∷ ns) p q

pub cell-extended : (v : Array) (ns is : List ℕ) → IsArray v → is_cell v.kind (extended v ns is) ≡ true
cell-extended v ns is h = cell-if v.kind (shape_eq v.shape ns) (at v is) (first_of v) (cell-of v _ h) (cell-of v 0 h)

abbrev pub Fine : List ℕ → Type 0
Fine ns = (shape_fits ns ≡ true) × (nat_le (length ns) 8 ≡ true)

pub keeps-each_pair : (g : ScalarFn) (v w : Array) (o : Option (List ℕ)) → kinds_suit g v.kind w.kind ≡ true → IsArray v → IsArray w → HasBoth Fine o → Keeps (each_pair g v w o)
keeps-each_pair g v w None e hv hw h = tt
keeps-each_pair g v w (Some ns) e hv hw h = keeps-made k.Num ns (λ is. applied g v.kind w.kind (extended v ns is) (extended w ns is)) h.0 h.1 (λ is l. given-applied g v.kind w.kind _ _ e (cell-extended v ns is hv) (cell-extended w ns is hw))

pub keeps-each_dyadic : (g : ScalarFn) (v w : Array) → IsArray v → IsArray w → Keeps (each_dyadic g v w)
keeps-each_dyadic g v w hv hw =
    let form = each_pair g v w (common_shape v.shape w.shape) in
    keeps-if (kinds_suit g v.kind w.kind) fault.Domain (needs (ranks_suit (rank v) (rank w)) fault.Rank form) (λ e.
    keeps-needs (ranks_suit (rank v) (rank w)) fault.Rank form (keeps-each_pair g v w (common_shape v.shape w.shape) e hv hw (joint-has Fine v.shape w.shape (hv.fits, (ranked hv)) (hw.fits, (ranked hw)))))

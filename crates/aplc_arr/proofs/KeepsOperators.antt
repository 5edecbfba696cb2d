-- Reduction, scan and the products give arrays of the language.
use Rattle.std.proofs.Common.{◌≡◌, ℕ, zero, suc, ◌+◌, ◌≤◌, List, [], ◌∷◌, ◌++◌, length, Option, refl, sym, subst, arith, length-append}
use Rattle.std.specs.Prelude.{◌-◌, ℤ, Result, Ok, Err, remove, insert, take, drop, slice_index, nat_eq, nat_le, if◌then◌else◌, Bool, true, false, ◌&&◌, ◌||◌}
use Rattle.std.proofs.lemmas.Bool.Decides.{nat_tests}
use Rattle.aplc_scalar.specs.Scalar.{Given, in_range, dyadic, identity_of, is_dyadic}
use Rattle.aplc_scalar.specs.declared.function.ScalarFn.{ScalarFn}
use Rattle.aplc_scalar.specs.declared.kind.FaultKind.{FaultKind}
use Rattle.aplc_arr.specs.Arrays.{Array, rank, product, at, first_of, at_or_scalar, is_numbers, shape_fits, IsArray}
use Rattle.aplc_arr.specs.Delayed.{Prepared, delayed, moved, needs, along_axis, all_given}
use Rattle.aplc_arr.specs.Each.{kinds_suit, applied}
use Rattle.aplc_arr.specs.Operators.{onto, identity_or_fault, folded, items_along, reduced_along, reduced, scanned, outer_product, met_length, pairs, joined_pairs, folded_all, after_pairs, inner_product}
use Rattle.aplc_arr.specs.Structure.{front_of}
use Rattle.std.specs.List.{AllByRecursion}
use Rattle.aplc_arr.proofs.Basics.{every-first, every-take, and-parts}
use Rattle.aplc_arr.proofs.Ranges.{IsGiven, given-applied, InRange, given-dyadic, cell-if}
use Rattle.aplc_arr.proofs.Keeping.{range-cell, keeps-needs, cell-of, given-all, keeps-if, GivenAll, keeps-made, Keeps, ranked, keeps-axis}
use Rattle.aplc_scalar.specs.declared.function.ScalarFn.TheVariants as f
use Rattle.aplc_scalar.specs.declared.kind.FaultKind.TheVariants as fault
use Rattle.aplc_scalar.specs.declared.kind.Kind.TheVariants as k

-- ---- Reduction and scan

pub given-onto_fold : (g : ScalarFn) (x : ℤ) (q : Given) → InRange x → IsGiven k.Num q → IsGiven k.Num (onto g x q)
given-onto_fold g x (Ok y) p h = given-dyadic g x y p h
given-onto_fold g x (Err e) p h = tt

pub given-unit : (g : ScalarFn) → IsGiven k.Num (identity_or_fault (identity_of g))
unfolding in_range
given-unit f.Add = refl
given-unit f.Sub = refl
given-unit f.Mul = refl
given-unit f.Max = refl
given-unit f.Min = refl
given-unit f.Residue = refl
given-unit f.Less = refl
given-unit f.LessEq = refl
given-unit f.Equal = refl
given-unit f.GreaterEq = refl
given-unit f.Greater = refl
given-unit f.NotEqual = refl
given-unit f.And = refl
given-unit f.Or = refl
given-unit f.Nand = tt
given-unit f.Nor = tt
given-unit f.Not = tt

pub given-folded : (g : ScalarFn) (zs : List ℤ) → AllByRecursion (λ z. in_range z ≡ true) zs → IsGiven k.Num (folded g zs)
given-folded g [] h = given-unit g
given-folded g (x ∷ []) h = h.0
given-folded g (x ∷ y ∷ zs) h = given-onto_fold g x (folded g (y ∷ zs)) h.0 (given-folded g (y ∷ zs) h.1)

pub range-along : (b : Array) (i : ℕ) (is : List ℕ) → is_numbers b ≡ true → IsArray b → AllByRecursion (λ z. in_range z ≡ true) (items_along b i is)
range-along b i is e h = every-first (λ z. in_range z ≡ true) (λ j. at b (insert is i j)) (λ j. range-cell b _ e h) (slice_index b.shape i)

pub length-remove : (i : ℕ) (ns : List ℕ) → nat_le (length ns) 8 ≡ true → nat_le (length (remove ns i)) 8 ≡ true
length-remove i ns e = fewer (length (remove ns i)) (length ns) (shorter i ns) e
  where
    fewer : (m n : ℕ) → m ≤ n → nat_le n 8 ≡ true → nat_le m 8 ≡ true
    fewer m n l e = grind (arith, nat_tests)

    shorter : (i : ℕ) (ns : List ℕ) → length (remove ns i) ≤ length ns
    shorter zero [] = omega arith
    shorter (suc i) [] = omega arith
    shorter zero (n ∷ ns) = omega arith
    shorter (suc i) (n ∷ ns) = let e = shorter i ns in omega (arith, e)

pub keeps-reduce : (g : ScalarFn) (x : Option ℕ) (b : Array) → IsArray b → Keeps (reduced g x b)
keeps-reduce g x b h =
    let form : ℕ → Prepared = λ i. if nat_eq (rank b) 0 then moved k.Num [] (λ is. first_of b) else reduced_along g b i in
    keeps-if (is_numbers b && is_dyadic g) fault.Domain (along_axis x form) (λ e.
    keeps-axis x form (λ i. by_rank i (and-parts (is_numbers b) (is_dyadic g) e).0 (nat_eq (rank b) 0)))
  where
    by_rank : (i : ℕ) → is_numbers b ≡ true → (t : Bool) → Keeps (if t then moved k.Num [] (λ is. first_of b) else reduced_along g b i)
    by_rank i e true = keeps-made k.Num [] (λ is. Ok (first_of b)) refl refl (λ is l. range-cell b 0 e h)
    by_rank i e false = keeps-if (shape_fits (remove b.shape i)) fault.Limit (delayed k.Num (remove b.shape i) (λ is. folded g (items_along b i is))) (λ q. keeps-made k.Num (remove b.shape i) (λ is. folded g (items_along b i is)) q (length-remove i b.shape (ranked h)) (λ is l. given-folded g (items_along b i is) (range-along b i is e h)))

pub keeps-scan : (g : ScalarFn) (x : Option ℕ) (b : Array) → IsArray b → Keeps (scanned g x b)
keeps-scan g x b h =
    let el : ℕ → List ℕ → Given = λ i is. if nat_eq (rank b) 0 then Ok (first_of b) else folded g (take (suc (slice_index is i)) (items_along b i (remove is i))) in
    let form : ℕ → Prepared = λ i. delayed k.Num b.shape (el i) in
    keeps-if (is_numbers b && is_dyadic g) fault.Domain (along_axis x form) (λ e.
    keeps-axis x form (λ i. keeps-made k.Num b.shape (el i) h.fits (ranked h) (λ is l. by_rank i is (and-parts (is_numbers b) (is_dyadic g) e).0 (nat_eq (rank b) 0))))
  where
    by_rank : (i : ℕ) (is : List ℕ) → is_numbers b ≡ true → (t : Bool) → IsGiven k.Num (if t then Ok (first_of b) else folded g (take (suc (slice_index is i)) (items_along b i (remove is i))))
    by_rank i is e true = range-cell b 0 e h
    by_rank i is e false = given-folded g (take (suc (slice_index is i)) (items_along b i (remove is i))) (every-take (λ z. in_range z ≡ true) (suc (slice_index is i)) (items_along b i (remove is i)) (range-along b i (remove is i) e h))

-- ---- Products

pub keeps-outer : (g : ScalarFn) (v w : Array) → IsArray v → IsArray w → Keeps (outer_product g v w)
keeps-outer g v w hv hw =
    let ns = v.shape ++ w.shape in
    let el : List ℕ → Given = λ is. applied g v.kind w.kind (at v (take (rank v) is)) (at w (drop (rank v) is)) in
    let form0 = delayed k.Num ns el in
    let form1 = needs (shape_fits ns) fault.Limit form0 in
    keeps-if (kinds_suit g v.kind w.kind) fault.Domain (needs (nat_le (rank v + rank w) 8) fault.Rank form1) (λ e.
    keeps-if (nat_le (rank v + rank w) 8) fault.Rank form1 (λ r.
    keeps-if (shape_fits ns) fault.Limit form0 (λ l.
    keeps-made k.Num ns el l (subst (λ n. nat_le n 8 ≡ true) (sym (length-append v.shape w.shape)) r) (λ is q. given-applied g v.kind w.kind _ _ e (cell-of v _ hv) (cell-of w _ hw)))))

given-pairs : (g : ScalarFn) (v w : Array) (is : List ℕ) → is_numbers v ≡ true → is_numbers w ≡ true → IsArray v → IsArray w → AllByRecursion (IsGiven k.Num) (pairs g v w is)
given-pairs g v w is ev ew hv hw =
    let r = length (front_of v.shape) in
    every-first (IsGiven k.Num) (λ j. dyadic g (at_or_scalar v (take r is ++ j ∷ [])) (at_or_scalar w (j ∷ drop r is))) (λ j.
    given-dyadic g _ _ (cell-if k.Num (nat_eq (rank v) 0) (first_of v) _ (range-cell v 0 ev hv) (range-cell v _ ev hv)) (cell-if k.Num (nat_eq (rank w) 0) (first_of w) _ (range-cell w 0 ew hw) (range-cell w _ ew hw))) (met_length v.shape w.shape)

given-folded_all : (h : ScalarFn) (n : ℕ) (q : Result (List ℤ) FaultKind) → GivenAll k.Num n q → IsGiven k.Num (folded_all h q)
given-folded_all h n (Ok zs) p = given-folded h zs p.0
given-folded_all h n (Err e) p = tt

given-after : (q : Result (List ℤ) FaultKind) (r : Given) → IsGiven k.Num r → IsGiven k.Num (after_pairs q r)
given-after (Ok zs) r h = h
given-after (Err e) r h = tt

pub keeps-inner : (h g : ScalarFn) (v w : Array) → IsArray v → IsArray w → Keeps (inner_product h g v w)
keeps-inner h g v w hv hw =
    let ns = front_of v.shape ++ drop 1 w.shape in
    let all = all_given (joined_pairs g v w ns (product ns)) in
    let el : List ℕ → Given = λ is. after_pairs all (folded_all h (all_given (pairs g v w is))) in
    let form0 = delayed k.Num ns el in
    let form1 = needs (shape_fits ns) fault.Limit form0 in
    let meet = nat_eq (rank v) 0 || nat_eq (rank w) 0 || nat_eq (slice_index v.shape (rank v - 1)) (slice_index w.shape 0) in
    let form2 = needs meet fault.Length form1 in
    let suit = is_numbers v && is_numbers w && is_dyadic h && is_dyadic g in
    keeps-if suit fault.Domain (needs (nat_le (length ns) 8) fault.Rank form2) (λ e.
    let e1 = and-parts (is_numbers v && is_numbers w && is_dyadic h) (is_dyadic g) e in
    let e2 = and-parts (is_numbers v && is_numbers w) (is_dyadic h) e1.0 in
    let e3 = and-parts (is_numbers v) (is_numbers w) e2.0 in
    keeps-if (nat_le (length ns) 8) fault.Rank form2 (λ r.
    keeps-needs meet fault.Length form1
    (keeps-if (shape_fits ns) fault.Limit form0 (λ l.
    keeps-made k.Num ns el l r (λ is q. given-after all _ (given-folded_all h _ (all_given (pairs g v w is)) (given-all k.Num (pairs g v w is) (given-pairs g v w is e3.0 e3.1 hv hw))))))))

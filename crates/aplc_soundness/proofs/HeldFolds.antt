-- Folds: what the rules of reduction and scan owe.
use Rattle.std.proofs.Common.{◌≡◌, ◌∙◌, sym, ap, refl, subst, ℕ, zero, suc, ◌*◌, ◌<◌, List, [], ◌∷◌, length, Option, Some, None, Ok, Err, Bool, true, false, ◌&&◌, arith, ℤ, pos, negsuc}
use Rattle.std.specs.Prelude.{◌-◌, ◌-ℤ◌, remove, insert, take, drop, slice_index, slice_index_or, nat_eq, nat_lt, if◌then◌else◌}
use Rattle.std.specs.List.{AllByRecursion}
use Rattle.std.proofs.lemmas.Bool.Decides.{nat_tests}
use Rattle.aplc_scalar.specs.declared.kind.FaultKind.TheVariants as fault
use Rattle.aplc_scalar.specs.declared.kind.Kind.TheVariants as k
use Rattle.aplc_syntax.specs.declared.tree.Axis.{Axis}
use Rattle.aplc_arr.specs.Arrays.{Array, rank, product, at, first_of, fill, is_numbers, shape_fits}
use Rattle.aplc_arr.specs.Delayed.{Prepared, moved, along_axis}
use Rattle.aplc_scalar.specs.declared.kind.Kind.{Kind}
use Rattle.aplc_scalar.specs.declared.function.ScalarFn.{ScalarFn}
use Rattle.aplc_scalar.specs.declared.function.ScalarFn.TheVariants as f
use Rattle.aplc_scalar.specs.Scalar.{Given, dyadic, identity_of, is_dyadic}
use Rattle.aplc_syntax.specs.declared.tree.Axis.TheVariants as ax
use Rattle.aplc_arr.specs.Arrays.{index_at}
use Rattle.aplc_arr.specs.Delayed.{delayed, first_n, all_given}
use Rattle.aplc_arr.specs.Operators.{onto, identity_or_fault, folded, items_along, reduced_along, reduced, scanned}
use Rattle.aplc_names.specs.Primitives.{within, axis_in}
use Rattle.aplc_infer.specs.declared.fact.FactKind.{FactKind}
use Rattle.aplc_infer.specs.declared.fact.FactKind.TheVariants.{Bit, Num, Char, Mixed}
use Rattle.aplc_infer.specs.declared.fact.Inferred.{Inferred}
use Rattle.aplc_infer.specs.declared.fact.Inferred.TheVariants.{Of}
use Rattle.aplc_infer.specs.declared.rule_break.RuleBreak.TheVariants as breaks
use Rattle.aplc_infer.specs.Rules.{known, wants_axis, is_numeric, reduced_kind, scanned_kind, reduce_rule, scan_rule}
use Rattle.aplc_soundness.specs.Holding.{HoldsKind, HoldsLengths}
use Rattle.aplc_soundness.specs.RulesHold.{HoldsOfPrepared}
use Rattle.aplc_soundness.proofs.Held.{no, and_parts, not_rank, same_some, same_rank}
use Rattle.aplc_soundness.proofs.HeldElements.{Suits, Fair, IsOfKind, holds_made, holds_needs, wants_parts, same_fact, holds_axis, numeric_kind, suits_cell, append_holds}
use Rattle.aplc_soundness.proofs.HeldElements.{FairAll, holds_cells, fair_all, length_first, every_first}
use Rattle.aplc_soundness.proofs.HeldScalars.{fair_dyadic, keeps}

-- ---- Folds

-- the same lengths without one
pub take_lengths_hold : (n : ℕ) (xs : List (Option ℕ)) (ns : List ℕ) → HoldsLengths xs ns → HoldsLengths (take n xs) (take n ns)
take_lengths_hold zero xs ns h = tt
take_lengths_hold (suc n) [] [] h = tt
take_lengths_hold (suc n) [] (m ∷ ns) h = absurd h
take_lengths_hold (suc n) (x ∷ xs) [] h = absurd h
take_lengths_hold (suc n) (x ∷ xs) (m ∷ ns) h = (h.0, take_lengths_hold n xs ns h.1)

pub drop_lengths_hold : (n : ℕ) (xs : List (Option ℕ)) (ns : List ℕ) → HoldsLengths xs ns → HoldsLengths (drop n xs) (drop n ns)
drop_lengths_hold zero xs ns h = h
drop_lengths_hold (suc n) [] [] h = tt
drop_lengths_hold (suc n) [] (m ∷ ns) h = absurd h
drop_lengths_hold (suc n) (x ∷ xs) [] h = absurd h
drop_lengths_hold (suc n) (x ∷ xs) (m ∷ ns) h = drop_lengths_hold n xs ns h.1

pub remove_lengths_hold : (i : ℕ) (xs : List (Option ℕ)) (ns : List ℕ) → HoldsLengths xs ns → HoldsLengths (remove xs i) (remove ns i)
remove_lengths_hold i xs ns h = append_holds (take i xs) (drop (suc i) xs) (take i ns) (drop (suc i) ns) (take_lengths_hold i xs ns h) (drop_lengths_hold (suc i) xs ns h)

-- a kind in which a function of two arguments stays, and its value on nothing
pub record Closed (g : ScalarFn) (c : FactKind) : Type 0 where
  pub apply : (x y : ℤ) → Suits c x → Suits c y → Fair c (dyadic g x y)
  pub unit : Fair c (identity_or_fault (identity_of g))

pub fair_folded_onto : (g : ScalarFn) (c : FactKind) → Closed g c → (x : ℤ) (q : Given) → Suits c x → Fair c q → Fair c (onto g x q)
fair_folded_onto g c cl x (Ok y) p h = cl.apply x y p h
fair_folded_onto g c cl x (Err e) p h = h

pub fair_folded : (g : ScalarFn) (c : FactKind) → Closed g c → (zs : List ℤ) → AllByRecursion (Suits c) zs → Fair c (folded g zs)
fair_folded g c cl [] h = cl.unit
fair_folded g c cl (x ∷ []) h = h.0
fair_folded g c cl (x ∷ y ∷ zs) h = fair_folded_onto g c cl x (folded g (y ∷ zs)) h.0 (fair_folded g c cl (y ∷ zs) h.1)

pub every_take : {X : Type 0} (P : X → Type 0) (n : ℕ) (xs : List X) → AllByRecursion P xs → AllByRecursion P (take n xs)
every_take P zero xs h = tt
every_take P (suc n) [] h = tt
every_take P (suc n) (x ∷ xs) h = (h.0, every_take P n xs h.1)

pub suits_along : (c : FactKind) (b : Array) (i : ℕ) (is : List ℕ) → HoldsKind c b → AllByRecursion (Suits c) (items_along b i is)
suits_along c b i is h = every_first (Suits c) (λ j. at b (insert is i j)) (λ j. suits_cell c b _ h) (slice_index b.shape i)

pub closed_num : (g : ScalarFn) → Closed g Num
closed_num g = record { apply = λ x y p q. fair_dyadic g x y; unit = fair_unit (identity_of g) }
  where
    fair_unit : (u : Option ℤ) → Fair Num (identity_or_fault u)
    fair_unit None = not_rank fault.Domain refl
    fair_unit (Some z) = tt

pub reduced_closed : (g : ScalarFn) → Closed g (reduced_kind g Bit)
reduced_closed f.Add = closed_num f.Add
reduced_closed f.Sub = closed_num f.Sub
reduced_closed f.Max = closed_num f.Max
reduced_closed f.Min = closed_num f.Min
reduced_closed f.Mul = record { apply = keeps f.Mul refl; unit = refl }
reduced_closed f.Residue = record { apply = keeps f.Residue refl; unit = refl }
reduced_closed f.Less = record { apply = keeps f.Less refl; unit = refl }
reduced_closed f.LessEq = record { apply = keeps f.LessEq refl; unit = refl }
reduced_closed f.Equal = record { apply = keeps f.Equal refl; unit = refl }
reduced_closed f.GreaterEq = record { apply = keeps f.GreaterEq refl; unit = refl }
reduced_closed f.Greater = record { apply = keeps f.Greater refl; unit = refl }
reduced_closed f.NotEqual = record { apply = keeps f.NotEqual refl; unit = refl }
reduced_closed f.And = record { apply = keeps f.And refl; unit = refl }
reduced_closed f.Or = record { apply = keeps f.Or refl; unit = refl }
reduced_closed f.Nand = record { apply = keeps f.Nand refl; unit = not_rank fault.Domain refl }
reduced_closed f.Nor = record { apply = keeps f.Nor refl; unit = not_rank fault.Domain refl }
reduced_closed f.Not = record { apply = keeps f.Not refl; unit = not_rank fault.Domain refl }

-- what a fold's kind is: that of the argument's bits, or numbers
pub data FoldKind (g : ScalarFn) (a : FactKind) (c : FactKind) : Type 0 where
  bits : a ≡ Bit → c ≡ Bit → FoldKind g a c
  nums : c ≡ Num → FoldKind g a c

pub reduced_fold : (g : ScalarFn) (a : FactKind) → FoldKind g a (reduced_kind g a)
reduced_fold f.Add a = nums refl
reduced_fold f.Sub a = nums refl
reduced_fold f.Max a = nums refl
reduced_fold f.Min a = nums refl
reduced_fold g Bit = bits refl refl
reduced_fold g Num = nums refl
reduced_fold g Char = nums refl
reduced_fold g Mixed = nums refl

pub scanned_fold : (g : ScalarFn) (a : FactKind) → FoldKind g a (scanned_kind g a)
scanned_fold f.Add a = nums refl
scanned_fold f.Sub a = nums refl
scanned_fold g Bit = bits refl refl
scanned_fold g Num = nums refl
scanned_fold g Char = nums refl
scanned_fold g Mixed = nums refl

-- the argument of a fold is of the fold's kind, in which the function stays
pub fold_kind : (g : ScalarFn) (a c : FactKind) (b : Array) → FoldKind g a c → is_numeric a ≡ true → HoldsKind a b → HoldsKind c b × IsOfKind c k.Num
fold_kind g a c b (bits e q) n h = (subst (λ x. HoldsKind x b) (e ∙ sym q) h, subst (λ x. IsOfKind x k.Num) (sym q) refl)
fold_kind g a c b (nums q) n h = (subst (λ x. HoldsKind x b) (sym q) (numeric_kind a b n h), subst (λ x. IsOfKind x k.Num) (sym q) refl)

pub fold_closed : (g : ScalarFn) (a : FactKind) → FoldKind g a (reduced_kind g a) → Closed g (reduced_kind g a)
fold_closed g a (bits e q) = subst (λ x. Closed g (reduced_kind g x)) (sym e) (reduced_closed g)
fold_closed g a (nums q) = subst (Closed g) (sym q) (closed_num g)

pub fair_cell : (c : FactKind) (b : Array) (p : ℕ) → HoldsKind c b → Fair c (Ok (slice_index_or b.cells p (fill b.kind)))
fair_cell c b p h = suits_cell c b p h

pub holds_scalar_or : (c : FactKind) (xs ys : List (Option ℕ)) (b : Array) (form : Prepared) → IsOfKind c k.Num → HoldsKind c b → HoldsLengths xs b.shape → (t : Bool) → (t ≡ true → HoldsLengths ys []) → HoldsOfPrepared (Of c (Some ys)) form → HoldsOfPrepared (Of c (Some ys)) (if t then moved k.Num [] (λ is. first_of b) else form)
holds_scalar_or c xs ys b form p hk hs true e h = holds_made c ys k.Num [] (λ is. Ok (first_of b)) p (e refl) (λ is. fair_cell c b 0 hk)
holds_scalar_or c xs ys b form p hk hs false e h = h

pub empty_of : (ns : List ℕ) → nat_eq (length ns) 0 ≡ true → ns ≡ []
empty_of [] e = refl
empty_of (n ∷ ns) e = absurd (no (sym (not_zero (length ns)) ∙ e))
  where
    not_zero : (n : ℕ) → nat_eq (suc n) 0 ≡ false
    not_zero n = grind (arith, nat_tests)

pub no_lengths : (xs : List (Option ℕ)) → HoldsLengths xs [] → xs ≡ []
no_lengths [] h = refl
no_lengths (x ∷ xs) h = absurd h

pub remove_none : (i : ℕ) (xs : List (Option ℕ)) → xs ≡ [] → HoldsLengths (remove xs i) []
remove_none i xs e = subst (λ ys. HoldsLengths (remove ys i) []) (sym e) (none i)
  where
    none : (i : ℕ) → HoldsLengths (remove [] i) []
    none zero = tt
    none (suc i) = tt

pub reduce_holds : (o : ℤ) (g : ScalarFn) (x : Axis) (a : FactKind) (xs : List (Option ℕ)) (b : Array) (y : Inferred) → HoldsKind a b → HoldsLengths xs b.shape → reduce_rule o g x a xs ≡ Ok y → HoldsOfPrepared y (reduced g (axis_in o x (rank b)) b)
reduce_holds o g x a xs b y hk hs e =
    let c = reduced_kind g a in
    let w = wants_parts (is_numeric a && is_dyadic g) breaks.Kind (wants_axis (axis_in o x (length xs)) (λ i. known c (remove xs i))) y e in
    let n = and_parts (is_numeric a) (is_dyadic g) w.0 in
    let q = reduced_fold g a in
    let h = fold_kind g a c b q n.0 hk in
    let cl = fold_closed g a q in
    let form : ℕ → Prepared = λ i. if nat_eq (rank b) 0 then moved k.Num [] (λ is. first_of b) else reduced_along g b i in
    holds_needs y (is_numbers b && is_dyadic g) fault.Domain (along_axis (axis_in o x (rank b)) form) (not_rank fault.Domain refl)
    (holds_axis (axis_in o x (rank b)) (λ i. known c (remove xs i)) y form (subst (λ m. wants_axis (axis_in o x m) (λ i. known c (remove xs i)) ≡ Ok y) (same_rank xs b.shape hs) w.1) (λ i here r.
    let form0 = delayed k.Num (remove b.shape i) (λ is. folded g (items_along b i is)) in
    same_fact (Of c (Some (remove xs i))) y (form i) r (holds_scalar_or c xs (remove xs i) b (reduced_along g b i) h.1 h.0 hs (nat_eq (rank b) 0) (λ z. remove_none i xs (no_lengths xs (subst (HoldsLengths xs) (empty_of b.shape z) hs)))
    (holds_needs (Of c (Some (remove xs i))) (shape_fits (remove b.shape i)) fault.Limit form0 (not_rank fault.Limit refl)
    (holds_made c (remove xs i) k.Num (remove b.shape i) (λ is. folded g (items_along b i is)) h.1 (remove_lengths_hold i xs b.shape hs) (λ is. fair_folded g c cl (items_along b i is) (suits_along c b i is h.0)))))))

-- ---- Scan

-- an array by a formula, which counts only where there are elements
holds_made_some : (a : FactKind) (xs : List (Option ℕ)) (kind : Kind) (ns : List ℕ) (el : List ℕ → Given) → IsOfKind a kind → HoldsLengths xs ns → ((product ns ≡ 0 → ⊥) → (is : List ℕ) → Fair a (el is)) → HoldsOfPrepared (Of a (Some xs)) (delayed kind ns el)
holds_made_some a xs kind ns el p s h = holds_cells a xs kind ns (all_given (first_n elements (product ns))) p s (by_count (product ns) refl)
  where
    elements : ℕ → Given
    elements q = el (index_at ns q)

    by_count : (n : ℕ) → product ns ≡ n → FairAll a n (all_given (first_n elements n))
    by_count zero e = (tt, refl)
    by_count (suc n) e = subst (λ m. FairAll a m (all_given (first_n elements (suc n)))) (length_first elements (suc n)) (fair_all a _ (every_first (Fair a) elements (λ q. h (λ z. omega (arith, e, z)) (index_at ns q)) (suc n)))

scanned_apply : (g : ScalarFn) (a : FactKind) (x y : ℤ) → Suits (scanned_kind g a) x → Suits (scanned_kind g a) y → Fair (scanned_kind g a) (dyadic g x y)
scanned_apply f.Add a x y p q = fair_dyadic f.Add x y
scanned_apply f.Sub a x y p q = fair_dyadic f.Sub x y
scanned_apply g Bit x y p q = keeps g refl x y p q
scanned_apply g Num x y p q = fair_dyadic g x y
scanned_apply g Char x y p q = fair_dyadic g x y
scanned_apply g Mixed x y p q = fair_dyadic g x y

fair_onto_some : (g : ScalarFn) (c : FactKind) → ((x y : ℤ) → Suits c x → Suits c y → Fair c (dyadic g x y)) → (x : ℤ) (q : Given) → Suits c x → Fair c q → Fair c (onto g x q)
fair_onto_some g c cl x (Ok y) p h = cl x y p h
fair_onto_some g c cl x (Err e) p h = h

fair_folded_some : (g : ScalarFn) (c : FactKind) → ((x y : ℤ) → Suits c x → Suits c y → Fair c (dyadic g x y)) → (z : ℤ) (zs : List ℤ) → Suits c z → AllByRecursion (Suits c) zs → Fair c (folded g (z ∷ zs))
fair_folded_some g c cl z [] p h = p
fair_folded_some g c cl z (y ∷ zs) p h = fair_onto_some g c cl z (folded g (y ∷ zs)) p (fair_folded_some g c cl y zs h.0 h.1)

fair_prefix : (g : ScalarFn) (c : FactKind) → ((x y : ℤ) → Suits c x → Suits c y → Fair c (dyadic g x y)) → (n : ℕ) (zs : List ℤ) → (length zs ≡ 0 → ⊥) → AllByRecursion (Suits c) zs → Fair c (folded g (take (suc n) zs))
fair_prefix g c cl n [] e h = absurd (e refl)
fair_prefix g c cl n (z ∷ zs) e h = fair_folded_some g c cl z (take n zs) h.0 (every_take (Suits c) n zs h.1)

no_factor : (ns : List ℕ) (i : ℕ) → i < length ns → slice_index ns i ≡ 0 → product ns ≡ 0
no_factor [] i l e = absurd (omega (arith, l))
no_factor (n ∷ ns) zero l e = ap (λ m. m * product ns) e ∙ omega arith
no_factor (n ∷ ns) (suc i) l e = ap (λ m. n * m) (no_factor ns i (omega (arith, l)) e) ∙ omega arith

within_below : (z : ℤ) (r i : ℕ) → within z r ≡ Some i → i < r
within_below (pos n) r i e = by_test (nat_lt n r) refl e
  where
    below : (m : ℕ) → nat_lt m r ≡ true → m < r
    below m q = grind (arith, nat_tests)

    by_test : (b : Bool) → nat_lt n r ≡ b → (if b then Some n else None) ≡ Some i → i < r
    by_test true q e = subst (λ m. m < r) (same_some n i e) (below n q)
    by_test false q e = cc
within_below (negsuc n) r i e = cc

axis_below : (o : ℤ) (x : Axis) (r i : ℕ) → axis_in o x r ≡ Some i → (r ≡ 0 → ⊥) → i < r
axis_below o ax.First zero i e z = absurd (z refl)
axis_below o ax.First (suc r) i e z = subst (λ m. m < suc r) (same_some 0 i e) (omega arith)
axis_below o ax.Last zero i e z = absurd (z refl)
axis_below o ax.Last (suc r) i e z = subst (λ m. m < suc r) (same_some (suc r - 1) i e) (omega arith)
axis_below o (ax.At n) r i e z = within_below (n -ℤ o) r i e

pub scan_holds : (o : ℤ) (g : ScalarFn) (x : Axis) (a : FactKind) (xs : List (Option ℕ)) (b : Array) (y : Inferred) → HoldsKind a b → HoldsLengths xs b.shape → scan_rule o g x a xs ≡ Ok y → HoldsOfPrepared y (scanned g (axis_in o x (rank b)) b)
scan_holds o g x a xs b y hk hs e =
    let c = scanned_kind g a in
    let w = wants_parts (is_numeric a && is_dyadic g) breaks.Kind (wants_axis (axis_in o x (length xs)) (λ i. known c xs)) y e in
    let n = and_parts (is_numeric a) (is_dyadic g) w.0 in
    let h = fold_kind g a c b (scanned_fold g a) n.0 hk in
    let el : ℕ → List ℕ → Given = λ i is. if nat_eq (rank b) 0 then Ok (first_of b) else folded g (take (suc (slice_index is i)) (items_along b i (remove is i))) in
    let form : ℕ → Prepared = λ i. delayed k.Num b.shape (el i) in
    holds_needs y (is_numbers b && is_dyadic g) fault.Domain (along_axis (axis_in o x (rank b)) form) (not_rank fault.Domain refl)
    (holds_axis (axis_in o x (rank b)) (λ i. known c xs) y form (subst (λ m. wants_axis (axis_in o x m) (λ i. known c xs) ≡ Ok y) (same_rank xs b.shape hs) w.1) (λ i q r.
    same_fact (Of c (Some xs)) y (form i) r (holds_made_some c xs k.Num b.shape (el i) h.1 hs (λ some is. by_rank i q some is h.0 (nat_eq (rank b) 0) refl))))
  where
    zero_test : (n : ℕ) → nat_eq n 0 ≡ false → n ≡ 0 → ⊥
    zero_test n q e = grind (arith, nat_tests)

    by_rank : (i : ℕ) → axis_in o x (rank b) ≡ Some i → (product b.shape ≡ 0 → ⊥) → (is : List ℕ) → HoldsKind (scanned_kind g a) b → (t : Bool) → nat_eq (rank b) 0 ≡ t → Fair (scanned_kind g a) (if t then Ok (first_of b) else folded g (take (suc (slice_index is i)) (items_along b i (remove is i))))
    by_rank i q some is hc true e = fair_cell (scanned_kind g a) b 0 hc
    by_rank i q some is hc false e =
        let below = axis_below o x (rank b) i q (zero_test (rank b) e) in
        fair_prefix g (scanned_kind g a) (scanned_apply g a) (slice_index is i) (items_along b i (remove is i)) (λ l. some (no_factor b.shape i below (sym (length_first (λ j. at b (insert (remove is i) i j)) (slice_index b.shape i)) ∙ l))) (suits_along (scanned_kind g a) b i (remove is i) hc)

-- What the rules of outer and inner product owe.
use Rattle.std.proofs.Common.{◌≡◌, ◌∙◌, sym, refl, subst, ℕ, zero, suc, ◌+◌, List, [], ◌∷◌, ◌++◌, length, Option, Some, Ok, Err, true, ◌&&◌, ◌||◌, ℤ}
use Rattle.std.specs.Prelude.{◌-◌, Result, take, drop, slice_index, nat_eq, nat_le, ◌≢◌}
use Rattle.std.specs.List.{AllByRecursion}
use Rattle.aplc_scalar.specs.declared.kind.FaultKind.TheVariants as fault
use Rattle.aplc_scalar.specs.declared.kind.Kind.TheVariants as k
use Rattle.aplc_arr.specs.Arrays.{Array, rank, product, at, at_or_scalar, first_of, is_numbers, shape_fits, rank_limit}
use Rattle.aplc_arr.specs.Delayed.{needs}
use Rattle.aplc_scalar.specs.declared.kind.FaultKind.{FaultKind}
use Rattle.aplc_scalar.specs.declared.function.ScalarFn.{ScalarFn}
use Rattle.aplc_scalar.specs.Scalar.{Given, dyadic, is_dyadic}
use Rattle.aplc_arr.specs.Arrays.{index_at}
use Rattle.aplc_arr.specs.Delayed.{delayed, all_given}
use Rattle.aplc_arr.specs.Each.{kinds_suit, applied}
use Rattle.aplc_arr.specs.Structure.{front_of}
use Rattle.aplc_arr.specs.Operators.{outer_product, met_length, pairs, folded_all, after_pairs, joined_pairs, inner_product}
use Rattle.aplc_infer.specs.declared.fact.FactKind.{FactKind}
use Rattle.aplc_infer.specs.declared.fact.Inferred.{Inferred}
use Rattle.aplc_infer.specs.declared.fact.Inferred.TheVariants.{Of}
use Rattle.aplc_infer.specs.declared.rule_break.RuleBreak.TheVariants as breaks
use Rattle.aplc_infer.specs.Rules.{known, wants, is_numeric, reduced_kind, scalar_kind, takes_kinds, outer_rule, front_lengths, inner_lengths, inner_rule}
use Rattle.aplc_soundness.specs.Holding.{HoldsKind, HoldsLengths}
use Rattle.aplc_soundness.specs.RulesHold.{HoldsOfPrepared}
use Rattle.aplc_soundness.proofs.Held.{not_rank, same_rank}
use Rattle.aplc_soundness.proofs.HeldElements.{Suits, Fair, IsOfKind, holds_made, holds_needs, holds_rank, wants_parts, same_fact, suits_cell, suits_if, append_holds}
use Rattle.aplc_soundness.proofs.HeldElements.{FairAll, fair_all, every_first, suits_any}
use Rattle.aplc_soundness.proofs.HeldScalars.{fair_scalar}
use Rattle.aplc_soundness.proofs.HeldPairs.{scalar_of_kind, fair_applied}
use Rattle.aplc_soundness.proofs.HeldFolds.{FoldKind, bits, nums, reduced_fold, fold_closed, fair_folded, drop_lengths_hold}

-- ---- Outer product

pub outer_holds : (g : ScalarFn) (a b : FactKind) (xs ys : List (Option ℕ)) (v w : Array) (y : Inferred) → HoldsKind a v → HoldsLengths xs v.shape → HoldsKind b w → HoldsLengths ys w.shape → outer_rule g a xs b ys ≡ Ok y → HoldsOfPrepared y (outer_product g v w)
outer_holds g a b xs ys v w y hv sv hw sw e =
    let c = scalar_kind g a b in
    let u = wants_parts (takes_kinds g a b) breaks.Kind (wants (nat_le (length xs + length ys) rank_limit) breaks.Rank (known c (xs ++ ys))) y e in
    let t = wants_parts (nat_le (length xs + length ys) rank_limit) breaks.Rank (known c (xs ++ ys)) y u.1 in
    let el : List ℕ → Given = λ is. applied g v.kind w.kind (at v (take (rank v) is)) (at w (drop (rank v) is)) in
    let form0 = delayed k.Num (v.shape ++ w.shape) el in
    let form1 = needs (shape_fits (v.shape ++ w.shape)) fault.Limit form0 in
    let ranked : nat_le (rank v + rank w) rank_limit ≡ true = subst (λ i. nat_le (i + rank w) rank_limit ≡ true) (same_rank xs v.shape sv) (subst (λ i. nat_le (length xs + i) rank_limit ≡ true) (same_rank ys w.shape sw) t.0) in
    let q : Inferred = Of c (Some (xs ++ ys)) in
    same_fact q y (outer_product g v w) t.1
    (holds_needs q (kinds_suit g v.kind w.kind) fault.Domain (needs (nat_le (rank v + rank w) rank_limit) fault.Rank form1) (not_rank fault.Domain refl)
    (holds_rank q (nat_le (rank v + rank w) rank_limit) form1 ranked
    (holds_needs q (shape_fits (v.shape ++ w.shape)) fault.Limit form0 (not_rank fault.Limit refl)
    (holds_made c (xs ++ ys) k.Num (v.shape ++ w.shape) el (scalar_of_kind g a b) (append_holds xs ys v.shape w.shape sv sw)
    (λ is. fair_applied g a b v w (at v (take (rank v) is)) (at w (drop (rank v) is)) u.0 hv hw (suits_cell a v _ hv) (suits_cell b w _ hw))))))

-- ---- Inner product

every_append : {X : Type 0} (P : X → Type 0) (xs ys : List X) → AllByRecursion P xs → AllByRecursion P ys → AllByRecursion P (xs ++ ys)
every_append P [] ys p q = q
every_append P (x ∷ xs) ys p q = (p.0, every_append P xs ys p.1 q)

every_kind : (h : ScalarFn) (d c : FactKind) (zs : List ℤ) → FoldKind h d c → AllByRecursion (Suits d) zs → AllByRecursion (Suits c) zs
every_kind h d c zs (bits e q) p = subst (λ x. AllByRecursion (Suits x) zs) (e ∙ sym q) p
every_kind h d c zs (nums q) p = subst (λ x. AllByRecursion (Suits x) zs) (sym q) (suits_any zs)

fold_of_kind : (h : ScalarFn) (d c : FactKind) → FoldKind h d c → IsOfKind c k.Num
fold_of_kind h d c (bits e q) = subst (λ x. IsOfKind x k.Num) (sym q) refl
fold_of_kind h d c (nums q) = subst (λ x. IsOfKind x k.Num) (sym q) refl

fair_pairs : (g : ScalarFn) (a b : FactKind) (v w : Array) (is : List ℕ) → HoldsKind a v → HoldsKind b w → AllByRecursion (Fair (scalar_kind g a b)) (pairs g v w is)
fair_pairs g a b v w is hv hw =
    let r = length (front_of v.shape) in
    every_first (Fair (scalar_kind g a b)) (λ j. dyadic g (at_or_scalar v (take r is ++ j ∷ [])) (at_or_scalar w (j ∷ drop r is))) (λ j.
    fair_scalar g a b _ _ (suits_if a (nat_eq (rank v) 0) (first_of v) _ (suits_cell a v 0 hv) (suits_cell a v _ hv)) (suits_if b (nat_eq (rank w) 0) (first_of w) _ (suits_cell b w 0 hw) (suits_cell b w _ hw))) (met_length v.shape w.shape)

fair_joined : (g : ScalarFn) (a b : FactKind) (v w : Array) (ns : List ℕ) (p : ℕ) → HoldsKind a v → HoldsKind b w → AllByRecursion (Fair (scalar_kind g a b)) (joined_pairs g v w ns p)
fair_joined g a b v w ns zero hv hw = tt
fair_joined g a b v w ns (suc p) hv hw = every_append _ (joined_pairs g v w ns p) (pairs g v w (index_at ns p)) (fair_joined g a b v w ns p hv hw) (fair_pairs g a b v w (index_at ns p) hv hw)

fair_after : (d c : FactKind) (n : ℕ) (q : Result (List ℤ) FaultKind) (r : Given) → FairAll d n q → Fair c r → Fair c (after_pairs q r)
fair_after d c n (Ok zs) r p h = h
fair_after d c n (Err e) (Ok z) p h = p
fair_after d c n (Err e) (Err f) p h = p

fair_folded_all : (h : ScalarFn) (d : FactKind) (n : ℕ) (q : Result (List ℤ) FaultKind) → FairAll d n q → Fair (reduced_kind h d) (folded_all h q)
fair_folded_all h d n (Ok zs) p = fair_folded h (reduced_kind h d) (fold_closed h d (reduced_fold h d)) zs (every_kind h d (reduced_kind h d) zs (reduced_fold h d) p.0)
fair_folded_all h d n (Err e) p = fault_fair (reduced_kind h d) e p
  where
    fault_fair : (c : FactKind) (e : FaultKind) → (e ≢ fault.Rank) → Fair c (Err e)
    fault_fair c e p = p

front_lengths_hold : (xs : List (Option ℕ)) (ns : List ℕ) → HoldsLengths xs ns → HoldsLengths (front_lengths xs) (front_of ns)
front_lengths_hold [] [] h = tt
front_lengths_hold [] (n ∷ ns) h = absurd h
front_lengths_hold (x ∷ xs) [] h = absurd h
front_lengths_hold (x ∷ []) (n ∷ []) h = tt
front_lengths_hold (x ∷ []) (n ∷ m ∷ ns) h = absurd h.1
front_lengths_hold (x ∷ y ∷ xs) (n ∷ []) h = absurd h.1
front_lengths_hold (x ∷ y ∷ xs) (n ∷ m ∷ ns) h = (h.0, front_lengths_hold (y ∷ xs) (m ∷ ns) h.1)

pub inner_holds : (h g : ScalarFn) (a b : FactKind) (xs ys : List (Option ℕ)) (v w : Array) (y : Inferred) → HoldsKind a v → HoldsLengths xs v.shape → HoldsKind b w → HoldsLengths ys w.shape → inner_rule h g a xs b ys ≡ Ok y → HoldsOfPrepared y (inner_product h g v w)
inner_holds h g a b xs ys v w y hv sv hw sw e =
    let d = scalar_kind g a b in
    let c = reduced_kind h d in
    let zs = inner_lengths xs ys in
    let ns = front_of v.shape ++ drop 1 w.shape in
    let u = wants_parts (is_numeric a && is_numeric b && is_dyadic h && is_dyadic g) breaks.Kind (wants (nat_le (length zs) rank_limit) breaks.Rank (known c zs)) y e in
    let t = wants_parts (nat_le (length zs) rank_limit) breaks.Rank (known c zs) y u.1 in
    let shapes = append_holds (front_lengths xs) (drop 1 ys) (front_of v.shape) (drop 1 w.shape) (front_lengths_hold xs v.shape sv) (drop_lengths_hold 1 ys w.shape sw) in
    let all = all_given (joined_pairs g v w ns (product ns)) in
    let el : List ℕ → Given = λ is. after_pairs all (folded_all h (all_given (pairs g v w is))) in
    let form0 = delayed k.Num ns el in
    let form1 = needs (shape_fits ns) fault.Limit form0 in
    let meet = nat_eq (rank v) 0 || nat_eq (rank w) 0 || nat_eq (slice_index v.shape (rank v - 1)) (slice_index w.shape 0) in
    let form2 = needs meet fault.Length form1 in
    let q : Inferred = Of c (Some zs) in
    same_fact q y (inner_product h g v w) t.1
    (holds_needs q (is_numbers v && is_numbers w && is_dyadic h && is_dyadic g) fault.Domain (needs (nat_le (length ns) rank_limit) fault.Rank form2) (not_rank fault.Domain refl)
    (holds_rank q (nat_le (length ns) rank_limit) form2 (subst (λ i. nat_le i rank_limit ≡ true) (same_rank zs ns shapes) t.0)
    (holds_needs q meet fault.Length form1 (not_rank fault.Length refl)
    (holds_needs q (shape_fits ns) fault.Limit form0 (not_rank fault.Limit refl)
    (holds_made c zs k.Num ns el (fold_of_kind h d c (reduced_fold h d)) shapes
    (λ is. fair_after d c _ all _ (fair_all d (joined_pairs g v w ns (product ns)) (fair_joined g a b v w ns (product ns) hv hw)) (fair_folded_all h d _ (all_given (pairs g v w is)) (fair_all d (pairs g v w is) (fair_pairs g a b v w is hv hw)))))))))

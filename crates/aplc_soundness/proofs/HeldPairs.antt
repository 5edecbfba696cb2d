-- Scalar functions of two arrays: the shape of both together, and what the rule owes.
use Rattle.std.proofs.Common.{◌≡◌, ◌∙◌, sym, ap, refl, subst, ℕ, zero, suc, ◌*◌, List, [], ◌∷◌, length, Option, Some, None, Ok, Bool, true, false, ◌&&◌, ◌||◌, arith, ℤ}
use Rattle.std.specs.Prelude.{nat_eq, if◌then◌else◌}
use Rattle.std.proofs.lemmas.Bool.Decides.{nat_tests}
use Rattle.aplc_scalar.specs.Scalar.{dyadic, is_dyadic}
use Rattle.aplc_scalar.specs.declared.function.ScalarFn.{ScalarFn}
use Rattle.aplc_scalar.specs.declared.function.ScalarFn.TheVariants as f
use Rattle.aplc_scalar.specs.declared.kind.FaultKind.TheVariants as fault
use Rattle.aplc_scalar.specs.declared.kind.Kind.TheVariants as k
use Rattle.aplc_arr.specs.Arrays.{Array, rank, product, at, first_of, kind_eq, shape_eq}
use Rattle.aplc_arr.specs.Delayed.{needs}
use Rattle.aplc_arr.specs.Each.{is_equality, kinds_suit, applied, of_unlike, extended, common_of, common_shape, ranks_suit, each_pair, each_dyadic}
use Rattle.aplc_infer.specs.declared.fact.FactKind.{FactKind}
use Rattle.aplc_infer.specs.declared.fact.FactKind.TheVariants.{Bit, Num, Char, Mixed}
use Rattle.aplc_infer.specs.declared.fact.Inferred.{Inferred}
use Rattle.aplc_infer.specs.declared.fact.Inferred.TheVariants.{Of}
use Rattle.aplc_infer.specs.declared.rule_break.RuleBreak.TheVariants as breaks
use Rattle.aplc_infer.specs.Rules.{known, wants, is_numeric, unknown, is_one, all_known, all_one, same_known, all_same, met_of, met_lengths, scalar_lengths, both_bit, scalar_kind, takes_kinds, scalar_dyadic_rule}
use Rattle.aplc_soundness.specs.Holding.{HoldsKind, HoldsLength, HoldsLengths}
use Rattle.aplc_soundness.specs.RulesHold.{HoldsOfPrepared}
use Rattle.aplc_infer.proofs.Trials.{equal_of}
use Rattle.aplc_soundness.proofs.Held.{no, and_parts, not_rank, same_rank}
use Rattle.aplc_soundness.proofs.HeldElements.{Suits, Fair, IsOfKind, holds_made, holds_needs, holds_rank, wants_parts, same_fact, suits_cell, numeric_kind, unknown_holds}
use Rattle.aplc_soundness.proofs.HeldScalars.{fair_scalar}

-- ---- Shapes that meet

pub same_shape : (ms ns : List ℕ) → shape_eq ms ns ≡ true → ms ≡ ns
same_shape [] [] e = refl
same_shape [] (n ∷ ns) e = absurd (no e)
same_shape (m ∷ ms) [] e = absurd (no e)
same_shape (m ∷ ms) (n ∷ ns) e = let p = and_parts (nat_eq m n) (shape_eq ms ns) e in ap (λ x. x ∷ ms) (equal_of m n p.0) ∙ ap (λ l. n ∷ l) (same_shape ms ns p.1)

pub same_known_holds : (x y : Option ℕ) (n : ℕ) → same_known x y ≡ true → HoldsLength y n → HoldsLength x n
same_known_holds None y n e h = tt
same_known_holds (Some m) None n e h = absurd (no e)
same_known_holds (Some m) (Some l) n e h = equal_of m l e ∙ h

pub same_holds : (xs ys : List (Option ℕ)) (ns : List ℕ) → all_same xs ys ≡ true → HoldsLengths ys ns → HoldsLengths xs ns
same_holds [] [] ns e h = h
same_holds [] (y ∷ ys) ns e h = absurd (no e)
same_holds (x ∷ xs) [] ns e h = absurd (no e)
same_holds (x ∷ xs) (y ∷ ys) [] e h = absurd h
same_holds (x ∷ xs) (y ∷ ys) (n ∷ ns) e h = let p = and_parts (same_known x y) (all_same xs ys) e in (same_known_holds x y n p.0 h.0, same_holds xs ys ns p.1 h.1)

pub one_length : (x : Option ℕ) (n : ℕ) → is_one x ≡ true → HoldsLength x n → n ≡ 1
one_length None n e h = absurd (no e)
one_length (Some m) n e h = sym h ∙ equal_of m 1 e

pub all_one_product : (xs : List (Option ℕ)) (ns : List ℕ) → all_one xs ≡ true → HoldsLengths xs ns → product ns ≡ 1
all_one_product [] [] e h = refl
all_one_product [] (n ∷ ns) e h = absurd h
all_one_product (x ∷ xs) [] e h = absurd h
all_one_product (x ∷ xs) (n ∷ ns) e h = let p = and_parts (is_one x) (all_one xs) e in let l = one_length x n p.0 h.0 in let r = all_one_product xs ns p.1 h.1 in ap (λ z. z * product ns) l ∙ ap (λ z. 1 * z) r

pub ones_of : (m n : ℕ) → m * n ≡ 1 → (m ≡ 1) × (n ≡ 1)
ones_of zero n e = absurd (omega (arith, e))
ones_of (suc zero) n e = (refl, omega (arith, e))
ones_of (suc (suc m)) zero e = absurd (omega (arith, e))
ones_of (suc (suc m)) (suc n) e = absurd (grind (arith, e))

pub all_ones : (xs : List (Option ℕ)) (ns : List ℕ) → all_known xs ≡ true → HoldsLengths xs ns → product ns ≡ 1 → all_one xs ≡ true
all_ones [] ns k h e = refl
all_ones (None ∷ xs) ns k h e = absurd (no k)
all_ones (Some m ∷ xs) [] k h e = absurd h
all_ones (Some m ∷ xs) (n ∷ ns) k h e =
    let p = ones_of n (product ns) e in
    let l : nat_eq m 1 ≡ true = rw (h.0 ∙ p.0) refl in
    rw (l, all_ones xs ns k h.1 p.1) refl

abbrev pub shape_in : Option (List ℕ) → List ℕ
shape_in None = []
shape_in (Some ns) = ns

abbrev pub is_shape : Option (List ℕ) → Bool
is_shape None = false
is_shape (Some ns) = true

pub some : List ℕ → Option (List ℕ)
some ns = Some ns

-- where two of equal rank conform, the shape is that of one of them
pub common_length : (t1 t2 t3 : Bool) (ms ns ks : List ℕ) → length ms ≡ length ns → common_of t1 t2 t3 ms ns ≡ Some ks → length ks ≡ length ms
common_length true t2 t3 ms ns ks l e = ap (λ o. length (shape_in o)) (sym e)
common_length false true t3 ms ns ks l e = ap (λ o. length (shape_in o)) (sym e) ∙ sym l
common_length false false true ms ns ks l e = ap (λ o. length (shape_in o)) (sym e)
common_length false false false ms ns ks l e = absurd (no (ap is_shape e))

pub met_same : (xs ys : List (Option ℕ)) (ms ns ks : List ℕ) → HoldsLengths xs ms → HoldsLengths ys ns → all_same xs ys ≡ true → (t1 t2 t3 : Bool) → common_of t1 t2 t3 ms ns ≡ Some ks → HoldsLengths xs ks
met_same xs ys ms ns ks p q s true t2 t3 e = subst (HoldsLengths xs) (ap shape_in e) p
met_same xs ys ms ns ks p q s false true t3 e = subst (HoldsLengths xs) (ap shape_in e) (same_holds xs ys ns s q)
met_same xs ys ms ns ks p q s false false true e = subst (HoldsLengths xs) (ap shape_in e) p
met_same xs ys ms ns ks p q s false false false e = absurd (no (ap is_shape e))

pub is_one_product : (ns : List ℕ) (t : Bool) → nat_eq (product ns) 1 ≡ t → product ns ≡ 1 → t ≡ true
is_one_product ns t e o = sym e ∙ ap (λ n. nat_eq n 1) o

pub met_left : (xs ys : List (Option ℕ)) (ms ns ks : List ℕ) → HoldsLengths xs ms → HoldsLengths ys ns → all_one xs ≡ true → (t1 t2 t3 : Bool) → shape_eq ms ns ≡ t1 → nat_eq (product ms) 1 ≡ t2 → common_of t1 t2 t3 ms ns ≡ Some ks → HoldsLengths ys ks
met_left xs ys ms ns ks p q o true t2 t3 e1 e2 e = subst (HoldsLengths ys) (sym (same_shape ms ns e1) ∙ ap shape_in e) q
met_left xs ys ms ns ks p q o false true t3 e1 e2 e = subst (HoldsLengths ys) (ap shape_in e) q
met_left xs ys ms ns ks p q o false false t3 e1 e2 e = absurd (no (is_one_product ms false e2 (all_one_product xs ms o p)))

pub met_right : (xs ys : List (Option ℕ)) (ms ns ks : List ℕ) → HoldsLengths xs ms → all_known xs ≡ true → all_one xs ≡ false → (t1 t2 t3 : Bool) → nat_eq (product ms) 1 ≡ t2 → common_of t1 t2 t3 ms ns ≡ Some ks → HoldsLengths xs ks
met_right xs ys ms ns ks p known o true t2 t3 e2 e = subst (HoldsLengths xs) (ap shape_in e) p
met_right xs ys ms ns ks p known o false true t3 e2 e = absurd (no (sym o ∙ all_ones xs ms known p (equal_of (product ms) 1 e2)))
met_right xs ys ms ns ks p known o false false true e2 e = subst (HoldsLengths xs) (ap shape_in e) p
met_right xs ys ms ns ks p known o false false false e2 e = absurd (no (ap is_shape e))

pub met_holds : (xs ys : List (Option ℕ)) (ms ns ks : List ℕ) → HoldsLengths xs ms → HoldsLengths ys ns → length xs ≡ length ys → common_of (shape_eq ms ns) (nat_eq (product ms) 1) (nat_eq (product ns) 1) ms ns ≡ Some ks → HoldsLengths (met_lengths xs ys) ks
met_holds xs ys ms ns ks p q l e = by_tests (all_known xs && all_known ys) (all_same xs ys) (all_one xs) (all_one ys) refl refl refl
  where
    any_lengths : HoldsLengths (unknown (length xs)) ks
    any_lengths = unknown_holds (length xs) ks (common_length _ _ _ ms ns ks (sym (same_rank xs ms p) ∙ l ∙ same_rank ys ns q) e ∙ sym (same_rank xs ms p))

    by_tests : (kb sb lb rb : Bool) → (all_known xs && all_known ys) ≡ kb → all_same xs ys ≡ sb → all_one xs ≡ lb → HoldsLengths (met_of kb sb lb rb xs ys) ks
    by_tests false sb lb rb ek es el = any_lengths
    by_tests true true lb rb ek es el = met_same xs ys ms ns ks p q es _ _ _ e
    by_tests true false true rb ek es el = met_left xs ys ms ns ks p q el _ _ _ refl refl e
    by_tests true false false true ek es el = met_right xs ys ms ns ks p (and_parts (all_known xs) (all_known ys) ek).0 el _ _ _ refl e
    by_tests true false false false ek es el = any_lengths

-- two shapes that conform
pub common_holds : (xs ys : List (Option ℕ)) (ms ns ks : List ℕ) → HoldsLengths xs ms → HoldsLengths ys ns → ranks_suit (length xs) (length ys) ≡ true → common_shape ms ns ≡ Some ks → HoldsLengths (scalar_lengths xs ys) ks
common_holds [] ys [] ns ks p q r e = subst (HoldsLengths ys) (ap shape_in e) q
common_holds [] ys (m ∷ ms) ns ks p q r e = absurd p
common_holds (x ∷ xs) ys [] ns ks p q r e = absurd p
common_holds (x ∷ xs) [] (m ∷ ms) [] ks p q r e = subst (HoldsLengths (x ∷ xs)) (ap shape_in e) p
common_holds (x ∷ xs) [] (m ∷ ms) (n ∷ ns) ks p q r e = absurd q
common_holds (x ∷ xs) (y ∷ ys) (m ∷ ms) [] ks p q r e = absurd q
common_holds (x ∷ xs) (y ∷ ys) (m ∷ ms) (n ∷ ns) ks p q r e = met_holds (x ∷ xs) (y ∷ ys) (m ∷ ms) (n ∷ ns) ks p q (ranks_of xs ys r) e
  where
    ranks_of : (xs ys : List (Option ℕ)) → ranks_suit (length (x ∷ xs)) (length (y ∷ ys)) ≡ true → length (x ∷ xs) ≡ length (y ∷ ys)
    ranks_of xs ys r = grind (arith, nat_tests)

-- ---- Elements

pub suits_extended : (c : FactKind) (v : Array) (ns is : List ℕ) → HoldsKind c v → Suits c (extended v ns is)
suits_extended c v ns is h = by_test (shape_eq v.shape ns)
  where
    by_test : (t : Bool) → Suits c (if t then at v is else first_of v)
    by_test true = suits_cell c v _ h
    by_test false = suits_cell c v 0 h

pub both_of_kind : (a b : FactKind) → IsOfKind (both_bit a b) k.Num
both_of_kind Bit Bit = refl
both_of_kind Bit Num = refl
both_of_kind Bit Char = refl
both_of_kind Bit Mixed = refl
both_of_kind Num b = refl
both_of_kind Char b = refl
both_of_kind Mixed b = refl

-- of two elements whose kinds the function takes
pub fair_unlike : (g : ScalarFn) (a b : FactKind) → is_equality g ≡ true → Fair (scalar_kind g a b) (of_unlike g)
fair_unlike f.Equal a b e = refl
fair_unlike f.NotEqual a b e = refl
fair_unlike g a b e = absurd (no e)

pub scalar_of_kind : (g : ScalarFn) (a b : FactKind) → IsOfKind (scalar_kind g a b) k.Num
scalar_of_kind f.Add a b = refl
scalar_of_kind f.Sub a b = refl
scalar_of_kind f.Mul a b = both_of_kind a b
scalar_of_kind f.Max a b = both_of_kind a b
scalar_of_kind f.Min a b = both_of_kind a b
scalar_of_kind f.Residue a b = both_of_kind a b
scalar_of_kind g a b = refl

-- where kinds differ only equality is taken
pub same_kinds : (g : ScalarFn) (a b : FactKind) (v w : Array) → takes_kinds g a b ≡ true → HoldsKind a v → HoldsKind b w → kind_eq v.kind w.kind ≡ false → is_equality g ≡ true
same_kinds f.Equal a b v w t p q e = refl
same_kinds f.NotEqual a b v w t p q e = refl
same_kinds g a b v w t p q e = absurd (both_numbers a b v w (is_dyadic g) t p q e)
  where
    both_numbers : (a b : FactKind) (v w : Array) (d : Bool) → (is_numeric a && is_numeric b && d) ≡ true → HoldsKind a v → HoldsKind b w → kind_eq v.kind w.kind ≡ false → ⊥
    both_numbers a b v w d t p q e =
        let u = and_parts (is_numeric a && is_numeric b) d t in
        let n = and_parts (is_numeric a) (is_numeric b) u.0 in
        let e1 = numeric_kind a v n.0 p in
        let e2 = numeric_kind b w n.1 q in
        no (sym e ∙ ap (λ x. kind_eq x w.kind) e1 ∙ ap (λ x. kind_eq k.Num x) e2)

pub fair_applied : (g : ScalarFn) (a b : FactKind) (v w : Array) (x y : ℤ) → takes_kinds g a b ≡ true → HoldsKind a v → HoldsKind b w → Suits a x → Suits b y → Fair (scalar_kind g a b) (applied g v.kind w.kind x y)
fair_applied g a b v w x y t p q hx hy = by_test (kind_eq v.kind w.kind) refl
  where
    by_test : (s : Bool) → kind_eq v.kind w.kind ≡ s → Fair (scalar_kind g a b) (if s then dyadic g x y else of_unlike g)
    by_test true e = fair_scalar g a b x y hx hy
    by_test false e = fair_unlike g a b (same_kinds g a b v w t p q e)

pub scalar_dyadic_holds : (g : ScalarFn) (a b : FactKind) (xs ys : List (Option ℕ)) (v w : Array) (y : Inferred) → HoldsKind a v → HoldsLengths xs v.shape → HoldsKind b w → HoldsLengths ys w.shape → scalar_dyadic_rule g a xs b ys ≡ Ok y → HoldsOfPrepared y (each_dyadic g v w)
scalar_dyadic_holds g a b xs ys v w y hv sv hw sw e =
    let c = scalar_kind g a b in
    let u = wants_parts (takes_kinds g a b) breaks.Kind (wants (ranks_suit (length xs) (length ys)) breaks.Rank (known c (scalar_lengths xs ys))) y e in
    let n = wants_parts (ranks_suit (length xs) (length ys)) breaks.Rank (known c (scalar_lengths xs ys)) y u.1 in
    let ranked : ranks_suit (rank v) (rank w) ≡ true = subst (λ i. (nat_eq i 0 || nat_eq (rank w) 0 || nat_eq i (rank w)) ≡ true) (same_rank xs v.shape sv) (subst (λ i. (nat_eq (length xs) 0 || nat_eq i 0 || nat_eq (length xs) i) ≡ true) (same_rank ys w.shape sw) n.0) in
    holds_needs y (kinds_suit g v.kind w.kind) fault.Domain (needs (ranks_suit (rank v) (rank w)) fault.Rank (each_pair g v w (common_shape v.shape w.shape))) (not_rank fault.Domain refl)
    (holds_rank y (ranks_suit (rank v) (rank w)) (each_pair g v w (common_shape v.shape w.shape)) ranked
    (same_fact (Of c (Some (scalar_lengths xs ys))) y (each_pair g v w (common_shape v.shape w.shape)) n.1 (by_shape u.0 n.0 (common_shape v.shape w.shape) refl)))
  where
    by_shape : takes_kinds g a b ≡ true → ranks_suit (length xs) (length ys) ≡ true → (o : Option (List ℕ)) → common_shape v.shape w.shape ≡ o → HoldsOfPrepared (Of (scalar_kind g a b) (Some (scalar_lengths xs ys))) (each_pair g v w o)
    by_shape t r None q = not_rank fault.Length refl
    by_shape t r (Some ns) q =
        holds_made (scalar_kind g a b) (scalar_lengths xs ys) k.Num ns (λ is. applied g v.kind w.kind (extended v ns is) (extended w ns is)) (scalar_of_kind g a b) (common_holds xs ys v.shape w.shape ns sv sw r q)
        (λ is. fair_applied g a b v w (extended v ns is) (extended w ns is) t hv hw (suits_extended a v ns is hv) (suits_extended b w ns is hw))

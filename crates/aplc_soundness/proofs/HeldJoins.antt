-- What the rules of index-of, membership and catenation owe.
use Rattle.std.proofs.Common.{◌≡◌, ◌∙◌, ap, refl, subst, ℕ, ◌+◌, ◌<◌, List, [], ◌∷◌, ◌++◌, length, Option, Some, None, Ok, Bool, true, false, ◌||◌, arith, ℤ, pos}
use Rattle.std.specs.Prelude.{◌-◌, ◌+ℤ◌, slice_set, slice_index, slice_index_or, nat_eq, nat_lt, if◌then◌else◌}
use Rattle.std.proofs.lemmas.Bool.Decides.{nat_tests}
use Rattle.aplc_scalar.specs.declared.kind.FaultKind.TheVariants as fault
use Rattle.aplc_scalar.specs.declared.kind.Kind.TheVariants as k
use Rattle.aplc_arr.specs.Arrays.{Array, rank, at, at_or_scalar, first_of, fill, kind_eq, shape_eq, shape_fits}
use Rattle.aplc_arr.specs.Delayed.{moved, needs}
use Rattle.aplc_arr.specs.Each.{ranks_suit}
use Rattle.aplc_arr.specs.Structure.{front_of, layers, common_front, catenated}
use Rattle.aplc_arr.specs.Selection.{place_among, index_of, members}
use Rattle.aplc_infer.specs.declared.fact.FactKind.{FactKind}
use Rattle.aplc_infer.specs.declared.fact.FactKind.TheVariants.{Bit, Num, Char, Mixed}
use Rattle.aplc_infer.specs.declared.fact.Inferred.{Inferred}
use Rattle.aplc_infer.specs.declared.fact.Inferred.TheVariants.{Of}
use Rattle.aplc_infer.specs.declared.rule_break.RuleBreak.TheVariants as breaks
use Rattle.aplc_infer.specs.Facts.{length_join}
use Rattle.aplc_infer.specs.Rules.{is_bit, known, wants, index_of_rule, member_rule, sum_length, beside_scalar, beside, catenate_lengths, kinds_join, joined_kind, catenate_rule}
use Rattle.aplc_soundness.specs.Holding.{HoldsKind, HoldsLength, HoldsLengths}
use Rattle.aplc_soundness.specs.RulesHold.{HoldsOfPrepared}
use Rattle.aplc_soundness.proofs.Held.{no, not_rank, same_rank, within_limit_holds}
use Rattle.aplc_soundness.proofs.HeldElements.{Suits, IsOfKind, holds_made, holds_needs, holds_rank, wants_parts, same_fact, suits_cell, suits_if}

-- ---- Index-of and membership

pub index_of_holds : (o : ℤ) (a b : FactKind) (xs ys : List (Option ℕ)) (v w : Array) (y : Inferred) → HoldsLengths xs v.shape → HoldsLengths ys w.shape → index_of_rule a xs b ys ≡ Ok y → HoldsOfPrepared y (index_of o v w)
index_of_holds o a b xs ys v w y sv sw e =
    let u = wants_parts (nat_eq (length xs) 1) breaks.Rank (known Num ys) y e in
    let h : List ℕ → ℤ = λ is. o +ℤ pos (place_among v w.kind (at w is)) in
    same_fact (Of Num (Some ys)) y (index_of o v w) u.1
    (holds_rank (Of Num (Some ys)) (nat_eq (rank v) 1) (moved k.Num w.shape h) (subst (λ i. nat_eq i 1 ≡ true) (same_rank xs v.shape sv) u.0)
    (holds_made Num ys k.Num w.shape (λ is. Ok (h is)) refl sw (λ is. tt)))

pub bit_of : (b : Bool) → is_bit (pos (if b then 1 else 0)) ≡ true
bit_of true = refl
bit_of false = refl

pub member_holds : (a b : FactKind) (xs ys : List (Option ℕ)) (v w : Array) (y : Inferred) → HoldsLengths xs v.shape → member_rule a xs b ys ≡ Ok y → HoldsOfPrepared y (members v w)
member_holds a b xs ys v w y sv e =
    let h : List ℕ → ℤ = λ is. pos (if nat_lt (place_among w v.kind (at v is)) (length w.cells) then 1 else 0) in
    same_fact (Of Bit (Some xs)) y (members v w) e (holds_made Bit xs k.Num v.shape (λ is. Ok (h is)) refl sv (λ is. bit_of _))

-- ---- Catenation

pub sum_length_holds : (x y : Option ℕ) (m n : ℕ) → HoldsLength x m → HoldsLength y n → HoldsLength (sum_length x y) (m + n)
sum_length_holds None y m n p q = tt
sum_length_holds (Some i) None m n p q = tt
sum_length_holds (Some i) (Some j) m n p q = within_limit_holds (i + j) (m + n) (ap (λ z. z + j) p ∙ ap (λ z. m + z) q)

pub join_length_holds : (x y : Option ℕ) (m : ℕ) → HoldsLength x m → HoldsLength (length_join x y) m
join_length_holds None y m p = tt
join_length_holds (Some i) None m p = tt
join_length_holds (Some i) (Some j) m p = by_test (nat_eq i j)
  where
    by_test : (b : Bool) → HoldsLength (if b then Some i else None) m
    by_test true = p
    by_test false = tt

-- beside a scalar, on either side: l is the sum of the layers
pub beside_scalar_holds : (xs : List (Option ℕ)) (ns : List ℕ) (l : ℕ) → HoldsLengths xs ns → layers ns + 1 ≡ l → HoldsLengths (beside_scalar xs) (front_of ns ++ l ∷ [])
beside_scalar_holds [] [] l h e = (e, tt)
beside_scalar_holds [] (n ∷ ns) l h e = absurd h
beside_scalar_holds (x ∷ xs) [] l h e = absurd h
beside_scalar_holds (x ∷ []) (n ∷ []) l h e = (subst (HoldsLength (sum_length x (Some 1))) e (sum_length_holds x (Some 1) n 1 h.0 refl), tt)
beside_scalar_holds (x ∷ []) (n ∷ m ∷ ns) l h e = absurd h.1
beside_scalar_holds (x ∷ y ∷ xs) (n ∷ []) l h e = absurd h.1
beside_scalar_holds (x ∷ y ∷ xs) (n ∷ m ∷ ns) l h e = (tt, beside_scalar_holds (y ∷ xs) (m ∷ ns) l h.1 e)

pub beside_holds : (xs ys : List (Option ℕ)) (ms ns : List ℕ) (l : ℕ) → HoldsLengths xs ms → HoldsLengths ys ns → length xs ≡ length ys → 0 < length xs → layers ms + layers ns ≡ l → HoldsLengths (beside xs ys) (front_of ms ++ l ∷ [])
beside_holds [] ys ms ns l p q e z s = absurd (omega (arith, z))
beside_holds (x ∷ xs) [] ms ns l p q e z s = absurd (omega (arith, e))
beside_holds (x ∷ xs) (y ∷ ys) [] ns l p q e z s = absurd p
beside_holds (x ∷ xs) (y ∷ ys) (m ∷ ms) [] l p q e z s = absurd q
beside_holds (x ∷ []) (y ∷ []) (m ∷ []) (n ∷ []) l p q e z s = (subst (HoldsLength (sum_length x y)) s (sum_length_holds x y m n p.0 q.0), tt)
beside_holds (x ∷ []) (y ∷ []) (m ∷ []) (n ∷ n2 ∷ ns) l p q e z s = absurd q.1
beside_holds (x ∷ []) (y ∷ []) (m ∷ m2 ∷ ms) (n ∷ ns) l p q e z s = absurd p.1
beside_holds (x ∷ []) (y ∷ y2 ∷ ys) (m ∷ ms) (n ∷ ns) l p q e z s = absurd (omega (arith, e))
beside_holds (x ∷ x2 ∷ xs) (y ∷ []) (m ∷ ms) (n ∷ ns) l p q e z s = absurd (omega (arith, e))
beside_holds (x ∷ x2 ∷ xs) (y ∷ y2 ∷ ys) (m ∷ []) (n ∷ ns) l p q e z s = absurd p.1
beside_holds (x ∷ x2 ∷ xs) (y ∷ y2 ∷ ys) (m ∷ m2 ∷ ms) (n ∷ []) l p q e z s = absurd q.1
beside_holds (x ∷ x2 ∷ xs) (y ∷ y2 ∷ ys) (m ∷ m2 ∷ ms) (n ∷ n2 ∷ ns) l p q e z s = (join_length_holds x y m p.0, beside_holds (x2 ∷ xs) (y2 ∷ ys) (m2 ∷ ms) (n2 ∷ ns) l p.1 q.1 (omega (arith, e)) (omega arith) s)

pub catenate_lengths_hold : (xs ys : List (Option ℕ)) (ms ns : List ℕ) → HoldsLengths xs ms → HoldsLengths ys ns → ranks_suit (length xs) (length ys) ≡ true → HoldsLengths (catenate_lengths xs ys) (common_front ms ns ++ (layers ms + layers ns) ∷ [])
catenate_lengths_hold [] ys [] ns p q r = beside_scalar_holds ys ns (1 + layers ns) q (omega arith)
catenate_lengths_hold [] ys (m ∷ ms) ns p q r = absurd p
catenate_lengths_hold (x ∷ xs) ys [] ns p q r = absurd p
catenate_lengths_hold (x ∷ xs) [] (m ∷ ms) [] p q r = beside_scalar_holds (x ∷ xs) (m ∷ ms) (layers (m ∷ ms) + 1) p refl
catenate_lengths_hold (x ∷ xs) [] (m ∷ ms) (n ∷ ns) p q r = absurd q
catenate_lengths_hold (x ∷ xs) (y ∷ ys) (m ∷ ms) [] p q r = absurd q
catenate_lengths_hold (x ∷ xs) (y ∷ ys) (m ∷ ms) (n ∷ ns) p q r = beside_holds (x ∷ xs) (y ∷ ys) (m ∷ ms) (n ∷ ns) _ p q (ranks_of xs ys r) (omega arith) refl
  where
    ranks_of : (xs ys : List (Option ℕ)) → ranks_suit (length (x ∷ xs)) (length (y ∷ ys)) ≡ true → length (x ∷ xs) ≡ length (y ∷ ys)
    ranks_of xs ys r = grind (arith, nat_tests)

-- the kinds of the two sides, and of what they make
pub record Joins (a b : FactKind) (v w : Array) : Type 0 where
  pub kind : IsOfKind (joined_kind a b) v.kind
  pub left : (p : ℕ) → Suits (joined_kind a b) (slice_index_or v.cells p (fill v.kind))
  pub right : (p : ℕ) → Suits (joined_kind a b) (slice_index_or w.cells p (fill w.kind))

pub joins : (a b : FactKind) (v w : Array) → kinds_join a b ≡ true → HoldsKind a v → HoldsKind b w → Joins a b v w
joins Bit Bit v w e p q = record { kind = p.0; left = λ i. suits_cell Bit v i p; right = λ i. suits_cell Bit w i q }
joins Bit Num v w e p q = record { kind = p.0; left = λ i. tt; right = λ i. tt }
joins Num Bit v w e p q = record { kind = p; left = λ i. tt; right = λ i. tt }
joins Num Num v w e p q = record { kind = p; left = λ i. tt; right = λ i. tt }
joins Char Char v w e p q = record { kind = p; left = λ i. tt; right = λ i. tt }
joins Bit Char v w e p q = absurd (no e)
joins Bit Mixed v w e p q = absurd (no e)
joins Num Char v w e p q = absurd (no e)
joins Num Mixed v w e p q = absurd (no e)
joins Char Bit v w e p q = absurd (no e)
joins Char Num v w e p q = absurd (no e)
joins Char Mixed v w e p q = absurd (no e)
joins Mixed b v w e p q = absurd (no e)

pub catenate_holds : (a b : FactKind) (xs ys : List (Option ℕ)) (v w : Array) (y : Inferred) → HoldsKind a v → HoldsLengths xs v.shape → HoldsKind b w → HoldsLengths ys w.shape → catenate_rule a xs b ys ≡ Ok y → HoldsOfPrepared y (catenated v w)
catenate_holds a b xs ys v w y hv sv hw sw e =
    let c = joined_kind a b in
    let zs = catenate_lengths xs ys in
    let u = wants_parts (kinds_join a b) breaks.Kind (wants (ranks_suit (length xs) (length ys)) breaks.Rank (known c zs)) y e in
    let t = wants_parts (ranks_suit (length xs) (length ys)) breaks.Rank (known c zs) y u.1 in
    let j = joins a b v w u.0 hv hw in
    let front = common_front v.shape w.shape in
    let ns = front ++ (layers v.shape + layers w.shape) ∷ [] in
    let axis = length front in
    let n = layers v.shape in
    let h : List ℕ → ℤ = λ is. if nat_lt (slice_index is axis) n then at_or_scalar v is else at_or_scalar w (slice_set is axis (slice_index is axis - n)) in
    let form0 = moved v.kind ns h in
    let form1 = needs (shape_fits ns) fault.Limit form0 in
    let conform = nat_eq (rank v) 0 || nat_eq (rank w) 0 || shape_eq (front_of v.shape) (front_of w.shape) in
    let form2 = needs conform fault.Length form1 in
    let ranked : ranks_suit (rank v) (rank w) ≡ true = subst (λ i. (nat_eq i 0 || nat_eq (rank w) 0 || nat_eq i (rank w)) ≡ true) (same_rank xs v.shape sv) (subst (λ i. (nat_eq (length xs) 0 || nat_eq i 0 || nat_eq (length xs) i) ≡ true) (same_rank ys w.shape sw) t.0) in
    let g : Inferred = Of c (Some zs) in
    same_fact g y (catenated v w) t.1
    (holds_needs g (kind_eq v.kind w.kind) fault.Domain (needs (ranks_suit (rank v) (rank w)) fault.Rank form2) (not_rank fault.Domain refl)
    (holds_rank g (ranks_suit (rank v) (rank w)) form2 ranked
    (holds_needs g conform fault.Length form1 (not_rank fault.Length refl)
    (holds_needs g (shape_fits ns) fault.Limit form0 (not_rank fault.Limit refl)
    (holds_made c zs v.kind ns (λ is. Ok (h is)) j.kind (catenate_lengths_hold xs ys v.shape w.shape sv sw t.0)
    (λ is. suits_if c (nat_lt (slice_index is axis) n) _ _ (suits_if c (nat_eq (rank v) 0) (first_of v) (at v is) (j.left 0) (j.left _)) (suits_if c (nat_eq (rank w) 0) (first_of w) (at w (slice_set is axis (slice_index is axis - n))) (j.right 0) (j.right _))))))))

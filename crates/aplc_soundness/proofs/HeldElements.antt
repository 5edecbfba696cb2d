-- Arrays by a formula: a fact holds of one where its shape and each of its elements suit.
use Rattle.std.proofs.Common.{◌≡◌, ◌∙◌, sym, ap, refl, subst, ℕ, zero, suc, List, [], ◌∷◌, ◌++◌, length, Option, Some, None, Ok, Err, Bool, true, false, arith, ℤ, length-append}
use Rattle.std.specs.Prelude.{Result, slice_index_or, ◌≢◌, if◌then◌else◌}
use Rattle.std.specs.List.{AllByRecursion}
use Rattle.aplc_scalar.specs.Scalar.{Given}
use Rattle.aplc_scalar.specs.declared.kind.FaultKind.{FaultKind}
use Rattle.aplc_scalar.specs.declared.kind.FaultKind.TheVariants as fault
use Rattle.aplc_scalar.specs.declared.kind.Kind.{Kind}
use Rattle.aplc_scalar.specs.declared.kind.Kind.TheVariants as k
use Rattle.aplc_arr.specs.Arrays.{Array, product, fill, index_at}
use Rattle.aplc_arr.specs.Delayed.{Prepared, delayed, moved, needs, along_axis, first_n, onto_cells, all_given}
use Rattle.aplc_infer.specs.declared.fact.FactKind.{FactKind}
use Rattle.aplc_infer.specs.declared.fact.FactKind.TheVariants.{Bit, Num, Char, Mixed}
use Rattle.aplc_infer.specs.declared.fact.Inferred.{Inferred}
use Rattle.aplc_infer.specs.declared.fact.Inferred.TheVariants.{Unset, Of}
use Rattle.aplc_infer.specs.declared.rule_break.RuleBreak.{RuleBreak}
use Rattle.aplc_infer.specs.Facts.{is_mixed, is_mixed_kind}
use Rattle.aplc_infer.specs.Rules.{is_bit, Ruled, Clear, sort, strict1, strict2, wants, wants_axis, is_numeric, unknown}
use Rattle.aplc_soundness.specs.Holding.{HoldsKind, HoldsLengths, IsWhole, Holds}
use Rattle.aplc_soundness.specs.RulesHold.{HoldsOfCells, HoldsOfPrepared}
use Rattle.aplc_soundness.proofs.Held.{no, every_push}

-- ---- Elements

-- what a fact's kind asks of an element
abbrev pub Suits : FactKind → ℤ → Type 0
Suits Bit z = is_bit z ≡ true
Suits Num z = Unit {0}
Suits Char z = Unit {0}
Suits Mixed z = Unit {0}

-- an element suits, or faults, though not by RANK
abbrev pub Fair : FactKind → Given → Type 0
Fair a (Ok z) = Suits a z
Fair a (Err e) = e ≢ fault.Rank

-- so many elements that suit
abbrev pub FairAll : FactKind → ℕ → Result (List ℤ) FaultKind → Type 0
FairAll a n (Ok zs) = AllByRecursion (Suits a) zs × (length zs ≡ n)
FairAll a n (Err e) = e ≢ fault.Rank

-- the kind of the array that a fact's kind means
abbrev pub IsOfKind : FactKind → Kind → Type 0
IsOfKind Bit kind = kind ≡ k.Num
IsOfKind Num kind = kind ≡ k.Num
IsOfKind Char kind = kind ≡ k.Char
IsOfKind Mixed kind = ⊥

pub fair_onto : (a : FactKind) (z : ℤ) (n : ℕ) (q : Result (List ℤ) FaultKind) → Suits a z → FairAll a n q → FairAll a (suc n) (onto_cells z q)
fair_onto a z n (Ok zs) p h = ((p, h.0), ap suc h.1)
fair_onto a z n (Err e) p h = h

pub fair_all : (a : FactKind) (gs : List Given) → AllByRecursion (Fair a) gs → FairAll a (length gs) (all_given gs)
fair_all a [] h = (tt, refl)
fair_all a (Ok z ∷ gs) h = fair_onto a z (length gs) (all_given gs) h.0 (fair_all a gs h.1)
fair_all a (Err e ∷ gs) h = h.0

pub length_first : {X : Type 0} (h : ℕ → X) (n : ℕ) → length (first_n h n) ≡ n
length_first h zero = refl
length_first h (suc n) = length-append (first_n h n) (h n ∷ []) ∙ omega (arith, length_first h n)

pub every_first : {X : Type 0} (P : X → Type 0) (h : ℕ → X) → ((p : ℕ) → P (h p)) → (n : ℕ) → AllByRecursion P (first_n h n)
every_first P h q zero = tt
every_first P h q (suc n) = every_push P (first_n h n) (h n) (every_first P h q n) (q n)

pub holds_kind : (a : FactKind) (v : Array) → IsOfKind a v.kind → AllByRecursion (Suits a) v.cells → HoldsKind a v
holds_kind Bit v p h = (p, h)
holds_kind Num v p h = p
holds_kind Char v p h = p
holds_kind Mixed v p h = tt

pub holds_cells : (a : FactKind) (xs : List (Option ℕ)) (kind : Kind) (ns : List ℕ) (q : Result (List ℤ) FaultKind) → IsOfKind a kind → HoldsLengths xs ns → FairAll a (product ns) q → HoldsOfCells (Of a (Some xs)) kind ns q
holds_cells a xs kind ns (Ok zs) p s h = (holds_kind a record { kind = kind; shape = ns; cells = zs } p h.0, s, h.1)
holds_cells a xs kind ns (Err e) p s h = h

-- an array by a formula
pub holds_made : (a : FactKind) (xs : List (Option ℕ)) (kind : Kind) (ns : List ℕ) (el : List ℕ → Given) → IsOfKind a kind → HoldsLengths xs ns → ((is : List ℕ) → Fair a (el is)) → HoldsOfPrepared (Of a (Some xs)) (delayed kind ns el)
holds_made a xs kind ns el p s h =
    let elements : ℕ → Given = λ q. el (index_at ns q) in
    holds_cells a xs kind ns (all_given (first_n elements (product ns))) p s (subst (λ n. FairAll a n (all_given (first_n elements (product ns)))) (length_first elements (product ns)) (fair_all a _ (every_first (Fair a) elements (λ q. h (index_at ns q)) (product ns))))

-- faults other than RANK may come
pub holds_needs : (y : Inferred) (b : Bool) (e : FaultKind) (x : Prepared) → e ≢ fault.Rank → HoldsOfPrepared y x → HoldsOfPrepared y (needs b e x)
holds_needs y true e x p h = h
holds_needs y false e x p h = p

pub holds_rank : (y : Inferred) (b : Bool) (x : Prepared) → b ≡ true → HoldsOfPrepared y x → HoldsOfPrepared y (needs b fault.Rank x)
holds_rank y b x e h = rw e h

-- ---- Facts that are clear

-- a rule that gives a fact under a condition has met it
pub wants_parts : (b : Bool) (n : RuleBreak) (q : Ruled) (y : Inferred) → wants b n q ≡ Ok y → (b ≡ true) × (q ≡ Ok y)
wants_parts true n q y e = (refl, e)
wants_parts false n q y e = absurd (err_is_ok e)
  where
    is_ok : Ruled → Bool
    is_ok (Ok x) = true
    is_ok (Err m) = false

    err_is_ok : Err n ≡ Ok y → ⊥
    err_is_ok p = no (ap is_ok p)

abbrev pub fact_in : Ruled → Inferred
fact_in (Ok y) = y
fact_in (Err e) = Unset

-- an answer
abbrev pub gives : Inferred → Ruled
gives y = Ok y

pub same_fact : (x y : Inferred) (h : Prepared) → gives x ≡ gives y → HoldsOfPrepared x h → HoldsOfPrepared y h
same_fact x y h e p = subst (λ (z : Inferred). HoldsOfPrepared z h) (ap fact_in e) p

-- numbers, where the rule wants numbers
pub numeric_kind : (a : FactKind) (v : Array) → is_numeric a ≡ true → HoldsKind a v → v.kind ≡ k.Num
numeric_kind Bit v e h = h.0
numeric_kind Num v e h = h
numeric_kind Char v e h = absurd (no e)
numeric_kind Mixed v e h = absurd (no e)

pub is_of_kind : (a : FactKind) (v : Array) → is_mixed_kind a ≡ false → HoldsKind a v → IsOfKind a v.kind
is_of_kind Bit v e h = h.0
is_of_kind Num v e h = h
is_of_kind Char v e h = h
is_of_kind Mixed v e h = absurd (no (sym e))

-- each cell suits, and so does the fill
pub suits_index : (a : FactKind) (zs : List ℤ) (p : ℕ) (d : ℤ) → AllByRecursion (Suits a) zs → Suits a d → Suits a (slice_index_or zs p d)
suits_index a [] p d h q = q
suits_index a (z ∷ zs) zero d h q = h.0
suits_index a (z ∷ zs) (suc p) d h q = suits_index a zs p d h.1 q

pub suits_any : (zs : List ℤ) → AllByRecursion (Suits Num) zs
suits_any [] = tt
suits_any (z ∷ zs) = (tt, suits_any zs)

pub suits_cell : (a : FactKind) (v : Array) (p : ℕ) → HoldsKind a v → Suits a (slice_index_or v.cells p (fill v.kind))
suits_cell Bit v p h = suits_index Bit v.cells p (fill v.kind) h.1 (rw h.0 refl)
suits_cell Num v p h = tt
suits_cell Char v p h = tt
suits_cell Mixed v p h = tt

pub suits_fill : (a : FactKind) (v : Array) → HoldsKind a v → Suits a (fill v.kind)
suits_fill Bit v h = rw h.0 refl
suits_fill Num v h = tt
suits_fill Char v h = tt
suits_fill Mixed v h = tt

-- a fault other than RANK may come, and behind it its condition holds
pub holds_if : (y : Inferred) (b : Bool) (e : FaultKind) (x : Prepared) → e ≢ fault.Rank → (b ≡ true → HoldsOfPrepared y x) → HoldsOfPrepared y (needs b e x)
holds_if y true e x p h = h refl
holds_if y false e x p h = p

-- an array whose elements come from another
pub holds_moved : (a : FactKind) (xs : List (Option ℕ)) (w : Array) (ns : List ℕ) (h : List ℕ → ℤ) → is_mixed_kind a ≡ false → HoldsKind a w → HoldsLengths xs ns → ((is : List ℕ) → Suits a (h is)) → HoldsOfPrepared (Of a (Some xs)) (moved w.kind ns h)
holds_moved a xs w ns h m hk hs q = holds_made a xs w.kind ns (λ is. Ok (h is)) (is_of_kind a w m hk) hs q

pub suits_if : (a : FactKind) (b : Bool) (x y : ℤ) → Suits a x → Suits a y → Suits a (if b then x else y)
suits_if a true x y p q = p
suits_if a false x y p q = q

-- ---- Axes

pub err_gives : (e : RuleBreak) (y : Inferred) → (Err e ≡ gives y) → ⊥
err_gives e y p = no (ap is_ok p)
  where
    is_ok : Ruled → Bool
    is_ok (Ok x) = true
    is_ok (Err m) = false

-- along the axis that the rule has found
pub holds_axis : (q : Option ℕ) (next : ℕ → Ruled) (y : Inferred) (form : ℕ → Prepared) → wants_axis q next ≡ Ok y → ((i : ℕ) → q ≡ Some i → next i ≡ Ok y → HoldsOfPrepared y (form i)) → HoldsOfPrepared y (along_axis q form)
holds_axis None next y form e h = absurd (err_gives _ y e)
holds_axis (Some i) next y form e h = h i refl e

-- ---- Lengths

pub unknown_holds : (n : ℕ) (ns : List ℕ) → length ns ≡ n → HoldsLengths (unknown n) ns
unknown_holds zero [] e = tt
unknown_holds zero (m ∷ ns) e = absurd (omega (arith, e))
unknown_holds (suc n) [] e = absurd (omega (arith, e))
unknown_holds (suc n) (m ∷ ns) e = (tt, unknown_holds n ns (omega (arith, e)))

pub append_holds : (xs ys : List (Option ℕ)) (ms ns : List ℕ) → HoldsLengths xs ms → HoldsLengths ys ns → HoldsLengths (xs ++ ys) (ms ++ ns)
append_holds [] ys [] ns p q = q
append_holds [] ys (m ∷ ms) ns p q = absurd p
append_holds (x ∷ xs) ys [] ns p q = absurd p
append_holds (x ∷ xs) ys (m ∷ ms) ns p q = (p.0, append_holds xs ys ms ns p.1 q)

-- ---- Arguments of which none is mixed

-- what is known of an array whose fact is not mixed
pub record KnownOf (x : Inferred) (v : Array) : Type 0 where
  pub kind : FactKind
  pub lengths : List (Option ℕ)
  pub same : x ≡ Of kind (Some lengths)
  pub clear : is_mixed_kind kind ≡ false
  pub of_kind : HoldsKind kind v
  pub of_shape : HoldsLengths lengths v.shape
  pub whole : IsWhole v

pub known_of : (x : Inferred) (v : Array) → Holds x v → is_mixed x ≡ false → KnownOf x v
known_of Unset v h m = absurd h
known_of (Of Mixed s) v h m = absurd (no (sym m))
known_of (Of Bit None) v h m = absurd (no (sym m))
known_of (Of Num None) v h m = absurd (no (sym m))
known_of (Of Char None) v h m = absurd (no (sym m))
known_of (Of Bit (Some xs)) v h m = record { kind = Bit; lengths = xs; same = refl; clear = refl; of_kind = h.0; of_shape = h.1; whole = h.2 }
known_of (Of Num (Some xs)) v h m = record { kind = Num; lengths = xs; same = refl; clear = refl; of_kind = h.0; of_shape = h.1; whole = h.2 }
known_of (Of Char (Some xs)) v h m = record { kind = Char; lengths = xs; same = refl; clear = refl; of_kind = h.0; of_shape = h.1; whole = h.2 }

sort_known : (a : FactKind) (xs : List (Option ℕ)) → is_mixed_kind a ≡ false → sort (Of a (Some xs)) ≡ Clear a xs
sort_known Bit xs m = refl
sort_known Num xs m = refl
sort_known Char xs m = refl
sort_known Mixed xs m = absurd (no (sym m))

pub sort_of : (x : Inferred) (v : Array) (u : KnownOf x v) → sort x ≡ Clear u.kind u.lengths
sort_of x v u = ap sort u.same ∙ sort_known u.kind u.lengths u.clear

-- past the wrappers
pub one_known : (rule : FactKind → List (Option ℕ) → Ruled) (x z : Inferred) (v : Array) (p : KnownOf x v) → strict1 rule (sort x) ≡ Ok z → rule p.kind p.lengths ≡ Ok z
one_known rule x z v p e = subst (λ s. strict1 rule s ≡ Ok z) (sort_of x v p) e

pub two_known : (rule : FactKind → List (Option ℕ) → FactKind → List (Option ℕ) → Ruled) (x y z : Inferred) (v w : Array) (p : KnownOf x v) (q : KnownOf y w) → strict2 rule (sort x) (sort y) ≡ Ok z → rule p.kind p.lengths q.kind q.lengths ≡ Ok z
two_known rule x y z v w p q e =
    subst (λ t. strict2 rule (Clear p.kind p.lengths) t ≡ Ok z) (sort_of y w q) (subst (λ s. strict2 rule s (sort y) ≡ Ok z) (sort_of x v p) e)

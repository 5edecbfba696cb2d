-- What is not refused is taken: where facts hold of the arguments and a rule gives a fact, their kinds are taken.
use Rattle.std.proofs.Common.{◌≡◌, ◌∙◌, ap, refl, ℕ, List, [], ◌∷◌, Option, Some, None, Ok, Bool, true, false, ◌&&◌, ◌||◌, ℤ}
use Rattle.aplc_scalar.specs.Scalar.{is_monadic, is_dyadic}
use Rattle.aplc_scalar.specs.declared.kind.Kind.{Kind}
use Rattle.aplc_scalar.specs.declared.kind.Kind.TheVariants as k
use Rattle.aplc_scalar.specs.declared.function.ScalarFn.{ScalarFn}
use Rattle.aplc_scalar.specs.declared.function.ScalarFn.TheVariants as f
use Rattle.aplc_syntax.specs.declared.tree.Primitive.{Primitive}
use Rattle.aplc_syntax.specs.declared.tree.Primitive.TheVariants as pr
use Rattle.aplc_arr.specs.Arrays.{Array, kind_eq, is_numbers}
use Rattle.aplc_arr.specs.Each.{is_equality, kinds_suit}
use Rattle.aplc_arr.specs.Indexing.{all_numbers}
use Rattle.aplc_infer.specs.declared.fact.FactKind.{FactKind}
use Rattle.aplc_infer.specs.declared.fact.FactKind.TheVariants.{Bit, Num, Char, Mixed}
use Rattle.aplc_infer.specs.declared.fact.Inferred.{Inferred}
use Rattle.aplc_infer.specs.declared.fact.Inferred.TheVariants.{Unset, Of}
use Rattle.aplc_infer.specs.declared.rule_break.RuleBreak.{RuleBreak}
use Rattle.aplc_infer.specs.declared.rule_break.RuleBreak.TheVariants as breaks
use Rattle.aplc_infer.specs.Facts.{is_mixed}
use Rattle.aplc_infer.specs.Rules.{Ruled, Literal, sort, strict1, any_fact, wants, is_numeric, all_numeric, takes_kinds, kinds_join, scalar_monadic_rule, monadic_rule, dyadic_rule, index_rule, change_rule, branch_rule, monadic_fact, dyadic_fact, index_fact, change_fact, branch_fact}
use Rattle.aplc_soundness.specs.Holding.{HoldsKind, Holds, HoldsAll}
use Rattle.aplc_soundness.specs.RulesHold.{IsLiteral}
use Rattle.aplc_soundness.specs.Taking.{is_num, takes_one, takes_two, takes_entries, takes_change}
use Rattle.aplc_infer.proofs.Trials.{both_true}
use Rattle.aplc_soundness.proofs.Held.{no, and_parts, all_set}
use Rattle.aplc_soundness.proofs.HeldElements.{wants_parts, err_gives, numeric_kind, known_of, one_known, two_known}
use Rattle.aplc_soundness.proofs.HeldLiterals.{literal_is_of}
use Rattle.aplc_soundness.proofs.HeldIndexes.{list_known}

-- ---- Kinds of values

numbers_of : (a : FactKind) (v : Array) → is_numeric a ≡ true → HoldsKind a v → is_num v.kind ≡ true
numbers_of a v e h = ap is_num (numeric_kind a v e h)

wanted : (a : FactKind) (b : Bool) (e : RuleBreak) (q : Ruled) (y : Inferred) (v : Array) → wants (is_numeric a && b) e q ≡ Ok y → HoldsKind a v → is_num v.kind ≡ true
wanted a b e q y v w h = numbers_of a v (and_parts (is_numeric a) b (wants_parts (is_numeric a && b) e q y w).0).0 h

wanted_alone : (a : FactKind) (e : RuleBreak) (q : Ruled) (y : Inferred) (v : Array) → wants (is_numeric a) e q ≡ Ok y → HoldsKind a v → is_num v.kind ≡ true
wanted_alone a e q y v w h = numbers_of a v (wants_parts (is_numeric a) e q y w).0 h

-- ---- One argument

scalar_takes : (g : ScalarFn) (a : FactKind) (xs : List (Option ℕ)) (y : Inferred) (v : Array) → scalar_monadic_rule g a xs ≡ Ok y → HoldsKind a v → is_num v.kind ≡ true
scalar_takes f.Sub a xs y v e h = wanted_alone a breaks.Kind _ y v e h
scalar_takes f.Not a xs y v e h = wanted_alone a breaks.Kind _ y v e h
scalar_takes g a xs y v e h = wanted a (is_monadic g) breaks.Kind _ y v e h

monadic_takes : (o : ℤ) (h : Primitive) (lit : Literal) (a : FactKind) (xs : List (Option ℕ)) (y : Inferred) (v : Array) → monadic_rule o h lit a xs ≡ Ok y → HoldsKind a v → takes_one h v.kind ≡ true
monadic_takes o (pr.Scalar g) lit a xs y v e q = scalar_takes g a xs y v e q
monadic_takes o pr.Iota lit a xs y v e q = wanted_alone a breaks.Kind _ y v e q
monadic_takes o (pr.Reduce g x) lit a xs y v e q = wanted a (is_dyadic g) breaks.Kind _ y v e q
monadic_takes o (pr.Scan g x) lit a xs y v e q = wanted a (is_dyadic g) breaks.Kind _ y v e q
monadic_takes o h lit a xs y v e q = refl

pub monadic_taken : (o : ℤ) (h : Primitive) (lit : Literal) (x y : Inferred) (v : Array) → Holds x v → is_mixed x ≡ false → monadic_fact o h lit x ≡ Ok y → takes_one h v.kind ≡ true
monadic_taken o h lit x y v hx mx e = let p = known_of x v hx mx in monadic_takes o h lit p.kind p.lengths y v (one_known (monadic_rule o h lit) x y v p e) p.of_kind

-- ---- Two arguments

both_numbers : (g : ScalarFn) (v w : Kind) → is_dyadic g ≡ true → v ≡ k.Num → w ≡ k.Num → kinds_suit g v w ≡ true
both_numbers g v w d p q = ap (λ x. kinds_suit g x w) p ∙ ap (λ x. kinds_suit g k.Num x) q ∙ d

equality_suits : (g : ScalarFn) (v w : Kind) → is_equality g ≡ true → kinds_suit g v w ≡ true
equality_suits f.Equal k.Num k.Num e = refl
equality_suits f.Equal k.Num k.Char e = refl
equality_suits f.Equal k.Char k.Num e = refl
equality_suits f.Equal k.Char k.Char e = refl
equality_suits f.NotEqual k.Num k.Num e = refl
equality_suits f.NotEqual k.Num k.Char e = refl
equality_suits f.NotEqual k.Char k.Num e = refl
equality_suits f.NotEqual k.Char k.Char e = refl
equality_suits g v w e = absurd (no e)

suits : (g : ScalarFn) (a b : FactKind) (v w : Array) → takes_kinds g a b ≡ true → HoldsKind a v → HoldsKind b w → kinds_suit g v.kind w.kind ≡ true
suits g a b v w t hv hw = by_test (is_equality g) refl t
  where
    by_test : (q : Bool) → is_equality g ≡ q → (q || (is_numeric a && is_numeric b && is_dyadic g)) ≡ true → kinds_suit g v.kind w.kind ≡ true
    by_test true e r = equality_suits g v.kind w.kind e
    by_test false e r =
        let u = and_parts (is_numeric a && is_numeric b) (is_dyadic g) r in
        let n = and_parts (is_numeric a) (is_numeric b) u.0 in
        both_numbers g v.kind w.kind u.1 (numeric_kind a v n.0 hv) (numeric_kind b w n.1 hw)

same_kind : (a b : FactKind) (v w : Array) → kinds_join a b ≡ true → HoldsKind a v → HoldsKind b w → kind_eq v.kind w.kind ≡ true
same_kind Char Char v w e p q = ap (λ x. kind_eq x w.kind) p ∙ ap (λ x. kind_eq k.Char x) q
same_kind Char Bit v w e p q = absurd (no e)
same_kind Char Num v w e p q = absurd (no e)
same_kind Char Mixed v w e p q = absurd (no e)
same_kind a b v w e p q = let n = and_parts (is_numeric a) (is_numeric b) e in ap (λ x. kind_eq x w.kind) (numeric_kind a v n.0 p) ∙ ap (λ x. kind_eq k.Num x) (numeric_kind b w n.1 q)

-- a literal is of numbers
abbrev pub NumbersIf : Literal → Array → Type 0
NumbersIf None v = Unit {0}
NumbersIf (Some zs) v = is_num v.kind ≡ true

pub literal_numbers : (lit : Literal) (v : Array) → IsLiteral lit v → NumbersIf lit v
literal_numbers None v h = tt
literal_numbers (Some zs) v h = ap is_num (ap (λ (u : Array). u.kind) h ∙ literal_is_of k.Num zs)

dyadic_takes : (o : ℤ) (h : Primitive) (lit : Literal) (a : FactKind) (xs : List (Option ℕ)) (b : FactKind) (ys : List (Option ℕ)) (z : Inferred) (v w : Array) → NumbersIf lit v → dyadic_rule o h lit a xs b ys ≡ Ok z → HoldsKind a v → HoldsKind b w → takes_two h v.kind w.kind ≡ true
dyadic_takes o (pr.Scalar g) lit a xs b ys z v w l e p q = suits g a b v w (wants_parts (takes_kinds g a b) breaks.Kind _ z e).0 p q
dyadic_takes o pr.Shape lit a xs b ys z v w l e p q = wanted_alone a breaks.Kind _ z v e p
dyadic_takes o pr.Ravel lit a xs b ys z v w l e p q = same_kind a b v w (wants_parts (kinds_join a b) breaks.Kind _ z e).0 p q
dyadic_takes o pr.Iota lit a xs b ys z v w l e p q = refl
dyadic_takes o pr.Take lit a xs b ys z v w l e p q = wanted_alone a breaks.Kind _ z v e p
dyadic_takes o pr.Drop lit a xs b ys z v w l e p q = wanted_alone a breaks.Kind _ z v e p
dyadic_takes o (pr.Reverse x) lit a xs b ys z v w l e p q = wanted_alone a breaks.Kind _ z v e p
dyadic_takes o pr.Transpose None a xs b ys z v w l e p q = absurd (err_gives breaks.Transpose z e)
dyadic_takes o pr.Transpose (Some zs) a xs b ys z v w l e p q = l
dyadic_takes o (pr.Replicate x) lit a xs b ys z v w l e p q = wanted_alone a breaks.Kind _ z v e p
dyadic_takes o (pr.Expand x) lit a xs b ys z v w l e p q = wanted_alone a breaks.Kind _ z v e p
dyadic_takes o pr.Member lit a xs b ys z v w l e p q = refl
dyadic_takes o (pr.Reduce g x) lit a xs b ys z v w l e p q = absurd (err_gives breaks.Kind z e)
dyadic_takes o (pr.Scan g x) lit a xs b ys z v w l e p q = absurd (err_gives breaks.Kind z e)
dyadic_takes o (pr.Outer g) lit a xs b ys z v w l e p q = suits g a b v w (wants_parts (takes_kinds g a b) breaks.Kind _ z e).0 p q
dyadic_takes o (pr.Inner h g) lit a xs b ys z v w l e p q =
    let u = and_parts (is_numeric a && is_numeric b && is_dyadic h) (is_dyadic g) (wants_parts (is_numeric a && is_numeric b && is_dyadic h && is_dyadic g) breaks.Kind _ z e).0 in
    let t = and_parts (is_numeric a && is_numeric b) (is_dyadic h) u.0 in
    let n = and_parts (is_numeric a) (is_numeric b) t.0 in
    both_true (is_num v.kind) (is_num w.kind) (numbers_of a v n.0 p) (numbers_of b w n.1 q)

pub dyadic_taken : (o : ℤ) (h : Primitive) (lit : Literal) (x y z : Inferred) (v w : Array) → Holds x v → Holds y w → is_mixed x ≡ false → is_mixed y ≡ false → NumbersIf lit v → dyadic_fact o h lit x y ≡ Ok z → takes_two h v.kind w.kind ≡ true
dyadic_taken o h lit x y z v w hx hy mx my l e =
    let p = known_of x v hx mx in
    let q = known_of y w hy my in
    dyadic_takes o h lit p.kind p.lengths q.kind q.lengths z v w l (two_known (dyadic_rule o h lit) x y z v w p q e) p.of_kind q.of_kind

-- ---- Entries, indexed assignment, branches

entries_taken : (fs : List (Option Inferred)) (vs : List (Option Array)) → HoldsAll fs vs → any_fact is_mixed fs ≡ false → all_numeric fs ≡ true → all_numbers vs ≡ true
entries_taken [] [] h m e = refl
entries_taken [] (v ∷ vs) h m e = absurd h
entries_taken (None ∷ fs) [] h m e = absurd h
entries_taken (Some x ∷ fs) [] h m e = absurd h
entries_taken (None ∷ fs) (None ∷ vs) h m e = entries_taken fs vs h m e
entries_taken (None ∷ fs) (Some v ∷ vs) h m e = absurd h
entries_taken (Some x ∷ fs) (None ∷ vs) h m e = absurd h
entries_taken (Some Unset ∷ fs) (Some v ∷ vs) h m e = absurd h.0
entries_taken (Some (Of a s) ∷ fs) (Some v ∷ vs) h m e =
    let parts = and_parts (is_numeric a) (all_numeric fs) e in
    both_true (is_numbers v) (all_numbers vs) (numbers_of a v parts.0 h.0.0) (entries_taken fs vs h.1 (last_of (is_mixed (Of a s)) (any_fact is_mixed fs) m) parts.1)
  where
    last_of : (c d : Bool) → (c || d) ≡ false → d ≡ false
    last_of true d z = cc
    last_of false d z = z

pub index_taken : (x z : Inferred) (fs : List (Option Inferred)) (v : Array) (vs : List (Option Array)) → Holds x v → HoldsAll fs vs → is_mixed x ≡ false → any_fact is_mixed fs ≡ false → index_fact x fs ≡ Ok z → takes_entries vs ≡ true
index_taken x z fs v vs hx h mx m e =
    let p = known_of x v hx mx in
    entries_taken fs vs h m (wants_parts (all_numeric fs) breaks.Kind _ z (list_known (index_rule fs) x z v fs p (all_set fs vs h) m e)).0

pub change_taken : (x y z : Inferred) (fs : List (Option Inferred)) (w v : Array) (vs : List (Option Array)) → Holds x w → HoldsAll fs vs → Holds y v → is_mixed x ≡ false → any_fact is_mixed fs ≡ false → is_mixed y ≡ false → change_fact x fs y ≡ Ok z → takes_change w.kind vs v.kind ≡ true
change_taken x y z fs w v vs hx h hy mx m my e =
    let p = known_of x w hx mx in
    let q = known_of y v hy my in
    let many : List (Option Inferred) = Some y ∷ fs in
    let rule : FactKind → List (Option ℕ) → Ruled = λ a xs. strict1 (change_rule fs a xs) (sort y) in
    let none : any_fact is_mixed many ≡ false = rw (my, m) refl in
    let e1 = one_known (change_rule fs p.kind p.lengths) y z v q (list_known rule x z w many p (all_set many (Some v ∷ vs) (hy, h)) none e) in
    let u = and_parts (all_numeric fs) (kinds_join p.kind q.kind) (wants_parts (all_numeric fs && kinds_join p.kind q.kind) breaks.Kind _ z e1).0 in
    both_true (all_numbers vs) (kind_eq w.kind v.kind) (entries_taken fs vs h m u.0) (same_kind p.kind q.kind w v u.1 p.of_kind q.of_kind)

pub branch_taken : (x y : Inferred) (v : Array) → Holds x v → is_mixed x ≡ false → branch_fact x ≡ Ok y → is_num v.kind ≡ true
branch_taken x y v hx mx e = let p = known_of x v hx mx in wanted_alone p.kind breaks.Kind _ y v (one_known branch_rule x y v p e) p.of_kind

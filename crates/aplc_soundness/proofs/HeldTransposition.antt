-- What the rule of transposition by a literal owes.
use Rattle.std.proofs.Common.{◌≡◌, ◌∙◌, sym, ap, refl, subst, ℕ, zero, suc, List, [], ◌∷◌, length, Option, Some, None, Ok, Bool, true, false, ◌&&◌, ℤ}
use Rattle.std.specs.Prelude.{map, min, slice_index, nat_eq, nat_le, if◌then◌else◌}
use Rattle.aplc_scalar.specs.declared.kind.FaultKind.TheVariants as fault
use Rattle.aplc_scalar.specs.declared.kind.Kind.TheVariants as k
use Rattle.aplc_arr.specs.Arrays.{Array, rank, at, is_numbers}
use Rattle.aplc_arr.specs.Delayed.{moved, needs}
use Rattle.aplc_scalar.specs.declared.kind.Kind.{Kind}
use Rattle.aplc_arr.specs.Delayed.{first_n}
use Rattle.aplc_arr.specs.Structure.{from_origin, none_below, stands_in, all_below_stand, axes_in, least_length, transposed_by}
use Rattle.aplc_names.specs.Eager.{literal}
use Rattle.aplc_infer.specs.declared.fact.FactKind.{FactKind}
use Rattle.aplc_infer.specs.declared.fact.Inferred.{Inferred}
use Rattle.aplc_infer.specs.declared.fact.Inferred.TheVariants.{Of}
use Rattle.aplc_infer.specs.declared.rule_break.RuleBreak.TheVariants as breaks
use Rattle.aplc_infer.specs.Facts.{is_mixed_kind}
use Rattle.aplc_infer.specs.Rules.{Literal, known, wants, least_of, least_known, transpose_by, transpose_to_rule}
use Rattle.aplc_soundness.specs.Holding.{HoldsKind, HoldsLength, HoldsLengths}
use Rattle.aplc_soundness.specs.RulesHold.{IsLiteral, HoldsOfPrepared}
use Rattle.aplc_soundness.proofs.Held.{and_parts, not_rank, same_rank}
use Rattle.aplc_soundness.proofs.HeldElements.{holds_needs, holds_rank, holds_moved, wants_parts, same_fact, err_gives, suits_cell, append_holds}
use Rattle.aplc_soundness.proofs.HeldLiterals.{literal_cells}

first_lengths_hold : (F : ℕ → Option ℕ) (G : ℕ → ℕ) → ((j : ℕ) → HoldsLength (F j) (G j)) → (m : ℕ) → HoldsLengths (first_n F m) (first_n G m)
first_lengths_hold F G h zero = tt
first_lengths_hold F G h (suc m) = append_holds (first_n F m) (F m ∷ []) (first_n G m) (G m ∷ []) (first_lengths_hold F G h m) (h m, tt)

least_of_holds : (x y : Option ℕ) (m n : ℕ) → HoldsLength x m → HoldsLength y n → HoldsLength (least_of x y) (min m n)
least_of_holds None y m n p q = tt
least_of_holds (Some i) None m n p q = tt
least_of_holds (Some i) (Some j) m n p q = ap (λ z. min z j) p ∙ ap (λ z. min m z) q

holds_length_if : (b : Bool) (x y : Option ℕ) (m n : ℕ) → HoldsLength x m → HoldsLength y n → HoldsLength (if b then x else y) (if b then m else n)
holds_length_if true x y m n p q = p
holds_length_if false x y m n p q = q

least_known_holds : (j : ℕ) (axes : List ℕ) (ys : List (Option ℕ)) (ns : List ℕ) → HoldsLengths ys ns → HoldsLength (least_known j axes ys) (least_length j axes ns)
least_known_holds j [] ys ns h = tt
least_known_holds j (i ∷ is) [] ns h = tt
least_known_holds j (i ∷ is) (y ∷ ys) [] h = absurd h
least_known_holds j (i ∷ is) (y ∷ ys) (n ∷ ns) h =
    let rest = least_known_holds j is ys ns h.1 in
    holds_length_if (nat_eq i j) _ _ _ _ (holds_length_if (stands_in j is) _ _ _ _ (least_of_holds y (least_known j is ys) n (least_length j is ns) h.0 rest) h.0) rest

small_vector : (kind : Kind) (zs : List ℤ) → nat_le (rank (literal kind zs)) 1 ≡ true
small_vector kind [] = refl
small_vector kind (z ∷ []) = refl
small_vector kind (z ∷ y ∷ zs) = refl

by_numbers : (o : ℤ) (zs : List ℤ) (b : FactKind) (ys : List (Option ℕ)) (v w : Array) (y : Inferred) → is_mixed_kind b ≡ false → HoldsKind b w → HoldsLengths ys w.shape → IsLiteral (Some zs) v → transpose_by o zs b ys ≡ Ok y → HoldsOfPrepared y (transposed_by o v w)
by_numbers o zs b ys v w y m hw sw hl e =
    let c : v.cells ≡ zs = ap (λ (x : Array). x.cells) hl ∙ literal_cells k.Num zs in
    let e2 = subst (λ l. transpose_by o l b ys ≡ Ok y) (sym c) e in
    let axes = map (from_origin o) v.cells in
    let n = axes_in axes in
    let lengths = first_n (λ j. least_known j axes ys) n in
    let u = wants_parts (nat_eq (length v.cells) (length ys)) breaks.Rank (wants (none_below o v.cells && all_below_stand n axes) breaks.Axis (known b lengths)) y e2 in
    let t = wants_parts (none_below o v.cells && all_below_stand n axes) breaks.Axis (known b lengths) y u.1 in
    let parts = and_parts (none_below o v.cells) (all_below_stand n axes) t.0 in
    let small : nat_le (rank v) 1 ≡ true = subst (λ (x : Array). nat_le (rank x) 1 ≡ true) (sym hl) (small_vector k.Num zs) in
    let many : nat_eq (length v.cells) (rank w) ≡ true = subst (λ i. nat_eq (length v.cells) i ≡ true) (same_rank ys w.shape sw) u.0 in
    let ranked : (nat_le (rank v) 1 && nat_eq (length v.cells) (rank w) && none_below o v.cells && all_below_stand n axes) ≡ true = rw (small, many, parts.0, parts.1) refl in
    let ns = first_n (λ j. least_length j axes w.shape) n in
    let h : List ℕ → ℤ = λ is. at w (map (slice_index is) axes) in
    let g : Inferred = Of b (Some lengths) in
    same_fact g y (transposed_by o v w) t.1
    (holds_needs g (is_numbers v) fault.Domain (needs (nat_le (rank v) 1 && nat_eq (length v.cells) (rank w) && none_below o v.cells && all_below_stand n axes) fault.Rank (moved w.kind ns h)) (not_rank fault.Domain refl)
    (holds_rank g (nat_le (rank v) 1 && nat_eq (length v.cells) (rank w) && none_below o v.cells && all_below_stand n axes) (moved w.kind ns h) ranked
    (holds_moved b lengths w ns h m hw (first_lengths_hold (λ j. least_known j axes ys) (λ j. least_length j axes w.shape) (λ j. least_known_holds j axes ys w.shape sw) n) (λ is. suits_cell b w _ hw))))

pub transpose_to_holds : (o : ℤ) (lit : Literal) (a b : FactKind) (xs ys : List (Option ℕ)) (v w : Array) (y : Inferred) → is_mixed_kind b ≡ false → HoldsKind b w → HoldsLengths ys w.shape → IsLiteral lit v → transpose_to_rule o lit a xs b ys ≡ Ok y → HoldsOfPrepared y (transposed_by o v w)
transpose_to_holds o None a b xs ys v w y m hw sw hl e = absurd (err_gives breaks.Transpose y e)
transpose_to_holds o (Some zs) a b xs ys v w y m hw sw hl e = by_numbers o zs b ys v w y m hw sw hl e

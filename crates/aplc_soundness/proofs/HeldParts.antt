-- What the rules of take, drop, replicate and expand owe.
use Rattle.std.proofs.Common.{◌≡◌, ◌∙◌, sym, ap, refl, subst, ℕ, zero, suc, List, [], ◌∷◌, length, Option, Some, None, Ok, true, false, ◌||◌, arith, ℤ}
use Rattle.std.specs.Prelude.{sum, slice_set, slice_index, nat_eq, nat_le, unsigned_abs, if◌then◌else◌}
use Rattle.std.proofs.lemmas.List.{length-map}
use Rattle.aplc_scalar.specs.declared.kind.FaultKind.TheVariants as fault
use Rattle.aplc_syntax.specs.declared.tree.Axis.{Axis}
use Rattle.aplc_arr.specs.Arrays.{Array, rank, at, first_of, is_numbers, shape_fits, vector_shape, as_vector}
use Rattle.aplc_arr.specs.Delayed.{moved, needs, along_axis}
use Rattle.aplc_arr.specs.Structure.{none_negative, magnitudes}
use Rattle.aplc_arr.specs.Selection.{ranks_suit_take, each_taken_from, at_or_fill, taken, lengths_left, each_dropped_from, dropped, axis_length, counts_for, layer_at, replicated_along, replicated, all_bits, layer_or_fill, at_layer, expanded_along, expanded}
use Rattle.aplc_names.specs.Primitives.{axis_in}
use Rattle.aplc_infer.specs.declared.fact.FactKind.{FactKind}
use Rattle.aplc_infer.specs.declared.fact.FactKind.TheVariants.{Bit, Num, Char, Mixed}
use Rattle.aplc_infer.specs.declared.fact.Inferred.{Inferred}
use Rattle.aplc_infer.specs.declared.fact.Inferred.TheVariants.{Of}
use Rattle.aplc_infer.specs.declared.rule_break.RuleBreak.TheVariants as breaks
use Rattle.aplc_infer.specs.Facts.{is_mixed_kind}
use Rattle.aplc_infer.specs.Rules.{Literal, Ruled, known, wants, wants_axis, is_numeric, unknown, vector_lengths, magnitude_length, lengths_given, take_rule, drop_rule, replicate_rule, expand_length, expand_rule}
use Rattle.aplc_soundness.specs.Holding.{HoldsKind, HoldsLength, HoldsLengths, IsWhole}
use Rattle.aplc_soundness.specs.RulesHold.{IsLiteral, HoldsOfPrepared}
use Rattle.aplc_infer.proofs.Trials.{equal_of}
use Rattle.aplc_soundness.proofs.Held.{not_rank, same_rank}
use Rattle.aplc_soundness.proofs.HeldElements.{Suits, holds_needs, holds_rank, holds_if, holds_moved, wants_parts, same_fact, holds_axis, suits_cell, suits_fill, suits_if, unknown_holds}
use Rattle.aplc_soundness.proofs.HeldLiterals.{magnitude_length_holds, lengths_given_hold}
use Rattle.aplc_soundness.proofs.HeldShapes.{cells_count}

-- ---- Take and drop

vector_lengths_hold : (ys : List (Option ℕ)) (ns : List ℕ) → HoldsLengths ys ns → HoldsLengths (vector_lengths ys) (vector_shape ns)
vector_lengths_hold [] [] h = (refl, tt)
vector_lengths_hold [] (n ∷ ns) h = absurd h
vector_lengths_hold (y ∷ ys) [] h = absurd h
vector_lengths_hold (y ∷ ys) (n ∷ ns) h = h

kind_as_vector : (b : FactKind) (w : Array) → HoldsKind b w → HoldsKind b (as_vector w)
kind_as_vector Bit w h = h
kind_as_vector Num w h = h
kind_as_vector Char w h = h
kind_as_vector Mixed w h = h

suits_at_or_fill : (b : FactKind) (w : Array) (o : Option (List ℕ)) → HoldsKind b w → Suits b (at_or_fill w o)
suits_at_or_fill b w None h = suits_fill b w h
suits_at_or_fill b w (Some is) h = suits_cell b w _ h

ranked_take : (xs ys : List (Option ℕ)) (ms ns : List ℕ) → HoldsLengths xs ms → HoldsLengths ys ns → ranks_suit_take (length xs) (length ys) ≡ true → ranks_suit_take (length ms) (length ns) ≡ true
ranked_take xs ys ms ns p q e = subst (λ i. ranks_suit_take i (length ns) ≡ true) (same_rank xs ms p) (subst (λ i. ranks_suit_take (length xs) i ≡ true) (same_rank ys ns q) e)

pub take_holds : (lit : Literal) (a b : FactKind) (xs ys : List (Option ℕ)) (v w : Array) (y : Inferred) → is_mixed_kind b ≡ false → HoldsLengths xs v.shape → HoldsKind b w → HoldsLengths ys w.shape → IsLiteral lit v → take_rule lit a xs b ys ≡ Ok y → HoldsOfPrepared y (taken v w)
take_holds lit a b xs ys v w y m sv hw sw hl e =
    let n = length (vector_lengths ys) in
    let g : Inferred = Of b (Some (lengths_given magnitude_length lit n)) in
    let u = wants_parts (is_numeric a) breaks.Kind (wants (ranks_suit_take (length xs) (length ys)) breaks.Rank (known b (lengths_given magnitude_length lit n))) y e in
    let t = wants_parts (ranks_suit_take (length xs) (length ys)) breaks.Rank (known b (lengths_given magnitude_length lit n)) y u.1 in
    let b1 = as_vector w in
    let ns = magnitudes v.cells in
    let h : List ℕ → ℤ = λ is. at_or_fill b1 (each_taken_from v.cells b1.shape is) in
    let form0 = moved w.kind ns h in
    let form1 = needs (shape_fits ns) fault.Limit form0 in
    let form2 = needs (nat_eq (length v.cells) (length b1.shape)) fault.Length form1 in
    same_fact g y (taken v w) t.1
    (holds_needs g (is_numbers v) fault.Domain (needs (ranks_suit_take (rank v) (rank w)) fault.Rank form2) (not_rank fault.Domain refl)
    (holds_rank g (ranks_suit_take (rank v) (rank w)) form2 (ranked_take xs ys v.shape w.shape sv sw t.0)
    (holds_if g (nat_eq (length v.cells) (length b1.shape)) fault.Length form1 (not_rank fault.Length refl) (λ l.
    holds_needs g (shape_fits ns) fault.Limit form0 (not_rank fault.Limit refl)
    (holds_moved b (lengths_given magnitude_length lit n) w ns h m hw (lengths_given_hold magnitude_length magnitude_length_holds lit v n hl (equal_of (length v.cells) (length b1.shape) l ∙ sym (same_rank (vector_lengths ys) (vector_shape w.shape) (vector_lengths_hold ys w.shape sw)))) (λ is. suits_at_or_fill b b1 (each_taken_from v.cells b1.shape is) (kind_as_vector b w hw)))))))

length_left : (cs : List ℤ) (ns : List ℕ) → length cs ≡ length ns → length (lengths_left cs ns) ≡ length ns
length_left [] [] e = refl
length_left [] (n ∷ ns) e = absurd (omega (arith, e))
length_left (c ∷ cs) [] e = absurd (omega (arith, e))
length_left (c ∷ cs) (n ∷ ns) e = ap suc (length_left cs ns (omega (arith, e)))

pub drop_holds : (a b : FactKind) (xs ys : List (Option ℕ)) (v w : Array) (y : Inferred) → is_mixed_kind b ≡ false → HoldsLengths xs v.shape → HoldsKind b w → HoldsLengths ys w.shape → drop_rule a xs b ys ≡ Ok y → HoldsOfPrepared y (dropped v w)
drop_holds a b xs ys v w y m sv hw sw e =
    let n = length (vector_lengths ys) in
    let g : Inferred = Of b (Some (unknown n)) in
    let u = wants_parts (is_numeric a) breaks.Kind (wants (ranks_suit_take (length xs) (length ys)) breaks.Rank (known b (unknown n))) y e in
    let t = wants_parts (ranks_suit_take (length xs) (length ys)) breaks.Rank (known b (unknown n)) y u.1 in
    let b1 = as_vector w in
    let ns = lengths_left v.cells b1.shape in
    let h : List ℕ → ℤ = λ is. at b1 (each_dropped_from v.cells is) in
    let form0 = moved w.kind ns h in
    let form2 = needs (nat_eq (length v.cells) (length b1.shape)) fault.Length form0 in
    same_fact g y (dropped v w) t.1
    (holds_needs g (is_numbers v) fault.Domain (needs (ranks_suit_take (rank v) (rank w)) fault.Rank form2) (not_rank fault.Domain refl)
    (holds_rank g (ranks_suit_take (rank v) (rank w)) form2 (ranked_take xs ys v.shape w.shape sv sw t.0)
    (holds_if g (nat_eq (length v.cells) (length b1.shape)) fault.Length form0 (not_rank fault.Length refl) (λ l.
    holds_moved b (unknown n) w ns h m hw (unknown_holds n ns (length_left v.cells b1.shape (equal_of (length v.cells) (length b1.shape) l) ∙ sym (same_rank (vector_lengths ys) (vector_shape w.shape) (vector_lengths_hold ys w.shape sw)))) (λ is. suits_cell b b1 _ (kind_as_vector b w hw))))))

-- ---- Replicate and expand

set_holds : (xs : List (Option ℕ)) (ns : List ℕ) (i : ℕ) (x : Option ℕ) (n : ℕ) → HoldsLengths xs ns → HoldsLength x n → HoldsLengths (slice_set xs i x) (slice_set ns i n)
set_holds [] [] i x n h p = tt
set_holds [] (m ∷ ns) i x n h p = absurd h
set_holds (z ∷ xs) [] i x n h p = absurd h
set_holds (z ∷ xs) (m ∷ ns) zero x n h p = (p, h.1)
set_holds (z ∷ xs) (m ∷ ns) (suc i) x n h p = (h.0, set_holds xs ns i x n h.1 p)

pub replicate_holds : (o : ℤ) (x : Axis) (a b : FactKind) (xs ys : List (Option ℕ)) (v w : Array) (y : Inferred) → is_mixed_kind b ≡ false → HoldsLengths xs v.shape → HoldsKind b w → HoldsLengths ys w.shape → replicate_rule o x a xs b ys ≡ Ok y → HoldsOfPrepared y (replicated (axis_in o x (rank (as_vector w))) v w)
replicate_holds o x a b xs ys v w y m sv hw sw e =
    let zs = vector_lengths ys in
    let next : ℕ → Ruled = λ i. known b (slice_set zs i None) in
    let u = wants_parts (is_numeric a) breaks.Kind (wants (nat_le (length xs) 1) breaks.Rank (wants_axis (axis_in o x (length zs)) next)) y e in
    let t = wants_parts (nat_le (length xs) 1) breaks.Rank (wants_axis (axis_in o x (length zs)) next) y u.1 in
    let hz = vector_lengths_hold ys w.shape sw in
    holds_needs y (is_numbers v) fault.Domain (needs (nat_le (rank v) 1) fault.Rank (along_axis (axis_in o x (rank (as_vector w))) (replicated_along v w))) (not_rank fault.Domain refl)
    (holds_rank y (nat_le (rank v) 1) (along_axis (axis_in o x (rank (as_vector w))) (replicated_along v w)) (subst (λ i. nat_le i 1 ≡ true) (same_rank xs v.shape sv) t.0)
    (holds_axis (axis_in o x (rank (as_vector w))) next y (replicated_along v w) (subst (λ n. wants_axis (axis_in o x n) next ≡ Ok y) (same_rank zs (vector_shape w.shape) hz) t.1) (λ i here q.
    let n = axis_length v w i in
    let ns = slice_set (vector_shape w.shape) i (sum (counts_for v n)) in
    let h : List ℕ → ℤ = λ is. if nat_eq (rank w) 0 then first_of w else at w (slice_set is i (layer_at (counts_for v n) (slice_index is i))) in
    let form0 = moved w.kind ns h in
    let form1 = needs (shape_fits ns) fault.Limit form0 in
    let form2 = needs (none_negative v.cells) fault.Domain form1 in
    let g : Inferred = Of b (Some (slice_set zs i None)) in
    same_fact g y (replicated_along v w i) q
    (holds_needs g (nat_eq (rank v) 0 || nat_eq (length v.cells) n) fault.Length form2 (not_rank fault.Length refl)
    (holds_needs g (none_negative v.cells) fault.Domain form1 (not_rank fault.Domain refl)
    (holds_needs g (shape_fits ns) fault.Limit form0 (not_rank fault.Limit refl)
    (holds_moved b (slice_set zs i None) w ns h m hw (set_holds zs (vector_shape w.shape) i None (sum (counts_for v n)) hz tt) (λ is. suits_if b (nat_eq (rank w) 0) (first_of w) _ (suits_cell b w 0 hw) (suits_cell b w _ hw)))))))))

expand_length_holds : (xs : List (Option ℕ)) (v : Array) → nat_le (length xs) 1 ≡ true → HoldsLengths xs v.shape → IsWhole v → HoldsLength (expand_length xs) (length (magnitudes v.cells))
expand_length_holds [] v r h w = tt
expand_length_holds (x ∷ xs) v r h w = subst (HoldsLength x) (sym (length-map v.cells unsigned_abs ∙ w)) (cells_count (x ∷ xs) v.shape r h)

suits_at_layer : (b : FactKind) (w : Array) (i : ℕ) (is : List ℕ) (o : Option ℕ) → HoldsKind b w → Suits b (at_layer w i is o)
suits_at_layer b w i is None h = suits_fill b w h
suits_at_layer b w i is (Some l) h = suits_if b (nat_eq (rank w) 0) (first_of w) (at w (slice_set is i l)) (suits_cell b w 0 h) (suits_cell b w _ h)

pub expand_holds : (o : ℤ) (x : Axis) (a b : FactKind) (xs ys : List (Option ℕ)) (v w : Array) (y : Inferred) → is_mixed_kind b ≡ false → HoldsLengths xs v.shape → IsWhole v → HoldsKind b w → HoldsLengths ys w.shape → expand_rule o x a xs b ys ≡ Ok y → HoldsOfPrepared y (expanded (axis_in o x (rank (as_vector w))) v w)
expand_holds o x a b xs ys v w y m sv wv hw sw e =
    let zs = vector_lengths ys in
    let next : ℕ → Ruled = λ i. known b (slice_set zs i (expand_length xs)) in
    let u = wants_parts (is_numeric a) breaks.Kind (wants (nat_le (length xs) 1) breaks.Rank (wants_axis (axis_in o x (length zs)) next)) y e in
    let t = wants_parts (nat_le (length xs) 1) breaks.Rank (wants_axis (axis_in o x (length zs)) next) y u.1 in
    let hz = vector_lengths_hold ys w.shape sw in
    holds_needs y (is_numbers v) fault.Domain (needs (nat_le (rank v) 1) fault.Rank (along_axis (axis_in o x (rank (as_vector w))) (expanded_along v w))) (not_rank fault.Domain refl)
    (holds_rank y (nat_le (rank v) 1) (along_axis (axis_in o x (rank (as_vector w))) (expanded_along v w)) (subst (λ i. nat_le i 1 ≡ true) (same_rank xs v.shape sv) t.0)
    (holds_axis (axis_in o x (rank (as_vector w))) next y (expanded_along v w) (subst (λ n. wants_axis (axis_in o x n) next ≡ Ok y) (same_rank zs (vector_shape w.shape) hz) t.1) (λ i here q.
    let ones = magnitudes v.cells in
    let ns = slice_set (vector_shape w.shape) i (length ones) in
    let h : List ℕ → ℤ = λ is. at_layer w i is (layer_or_fill ones (slice_index is i)) in
    let form0 = moved w.kind ns h in
    let form1 = needs (shape_fits ns) fault.Limit form0 in
    let form2 = needs (nat_eq (rank w) 0 || nat_eq (sum ones) (slice_index w.shape i)) fault.Length form1 in
    let g : Inferred = Of b (Some (slice_set zs i (expand_length xs))) in
    same_fact g y (expanded_along v w i) q
    (holds_needs g (all_bits v.cells) fault.Domain form2 (not_rank fault.Domain refl)
    (holds_needs g (nat_eq (rank w) 0 || nat_eq (sum ones) (slice_index w.shape i)) fault.Length form1 (not_rank fault.Length refl)
    (holds_needs g (shape_fits ns) fault.Limit form0 (not_rank fault.Limit refl)
    (holds_moved b (slice_set zs i (expand_length xs)) w ns h m hw (set_holds zs (vector_shape w.shape) i (expand_length xs) (length ones) hz (expand_length_holds xs v t.0 sv wv)) (λ is. suits_at_layer b w i is (layer_or_fill ones (slice_index is i)) hw))))))))

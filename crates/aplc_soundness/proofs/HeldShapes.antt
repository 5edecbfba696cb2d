-- What the rules of shape, ravel, the index generator, reversal, rotation, transposition and reshape owe.
use Rattle.std.proofs.Common.{◌≡◌, ◌∙◌, sym, ap, refl, subst, ℕ, suc, ◌*◌, List, [], ◌∷◌, length, Option, Some, None, Ok, true, false, ◌&&◌, arith, ℤ, pos, negsuc}
use mathlib.Core.List.{reverse_aux, reverse}
use Rattle.std.specs.Prelude.{◌+ℤ◌, int_le, nat_eq, nat_le, slice_index, slice_index_or, unsigned_abs}
use Rattle.std.proofs.lemmas.Bool.Decides.{nat_tests}
use Rattle.aplc_scalar.specs.declared.kind.FaultKind.TheVariants as fault
use Rattle.aplc_scalar.specs.declared.kind.Kind.TheVariants as k
use Rattle.aplc_syntax.specs.declared.tree.Axis.{Axis}
use Rattle.aplc_arr.specs.Arrays.{Array, rank, product, at, first_of, fill, is_numbers, shape_fits, count_limit, rank_limit}
use Rattle.aplc_arr.specs.Delayed.{Prepared, moved, needs, along_axis}
use Rattle.aplc_arr.specs.Structure.{only_index, none_negative, magnitudes, shape_of, ravelled, iota, from_the_end, reversed, turned, rotated, transposed, cyclic, reshaped}
use Rattle.aplc_names.specs.Primitives.{axis_in}
use Rattle.aplc_infer.specs.declared.fact.FactKind.{FactKind}
use Rattle.aplc_infer.specs.declared.fact.FactKind.TheVariants.{Num}
use Rattle.aplc_infer.specs.declared.fact.Inferred.{Inferred}
use Rattle.aplc_infer.specs.declared.fact.Inferred.TheVariants.{Of}
use Rattle.aplc_infer.specs.declared.rule_break.RuleBreak.TheVariants as breaks
use Rattle.aplc_infer.specs.Facts.{is_mixed_kind}
use Rattle.aplc_infer.specs.Rules.{Literal, known, wants, wants_axis, is_numeric, within_limit, times, product_of, limited, shape_rule, ravel_rule, iota_length, iota_rule, reverse_rule, rotate_rule, transpose_rule, literal_length, lengths_given, count_in, reshape_to, reshape_rule}
use Rattle.aplc_soundness.specs.Holding.{HoldsKind, HoldsLength, HoldsLengths, IsWhole}
use Rattle.aplc_soundness.specs.RulesHold.{IsLiteral, HoldsOfPrepared}
use Rattle.aplc_soundness.proofs.Held.{not_rank, same_rank, within_limit_holds}
use Rattle.aplc_soundness.proofs.HeldElements.{Suits, holds_made, holds_needs, holds_rank, holds_moved, wants_parts, same_fact, err_gives, holds_axis, is_of_kind, suits_cell, suits_fill, suits_if}
use Rattle.aplc_soundness.proofs.HeldLiterals.{literal_length_holds, lengths_given_hold}

-- ---- Shape, ravel, index generator

pub shape_holds : (a : FactKind) (xs : List (Option ℕ)) (b : Array) (y : Inferred) → HoldsLengths xs b.shape → shape_rule a xs ≡ Ok y → HoldsOfPrepared y (shape_of b)
shape_holds a xs b y hs e = same_fact _ y (shape_of b) e (holds_made Num (within_limit (length xs) ∷ []) k.Num (rank b ∷ []) (λ is. Ok (pos (slice_index b.shape (only_index is)))) refl (within_limit_holds (length xs) (rank b) (same_rank xs b.shape hs), tt) (λ is. tt))

times_holds : (x y : Option ℕ) (m n : ℕ) → HoldsLength x m → HoldsLength y n → HoldsLength (times x y) (m * n)
times_holds None y m n p q = tt
times_holds (Some i) None m n p q = tt
times_holds (Some i) (Some j) m n p q = ap (λ z. z * j) p ∙ ap (λ z. m * z) q

product_holds : (xs : List (Option ℕ)) (ns : List ℕ) → HoldsLengths xs ns → HoldsLength (product_of xs) (product ns)
product_holds [] [] h = refl
product_holds [] (n ∷ ns) h = absurd h
product_holds (x ∷ xs) [] h = absurd h
product_holds (x ∷ xs) (n ∷ ns) h = times_holds x (product_of xs) n (product ns) h.0 (product_holds xs ns h.1)

limited_holds : (x : Option ℕ) (n : ℕ) → HoldsLength x n → HoldsLength (limited x) n
limited_holds None n h = tt
limited_holds (Some m) n h = within_limit_holds m n h

pub ravel_holds : (a : FactKind) (xs : List (Option ℕ)) (b : Array) (y : Inferred) → is_mixed_kind a ≡ false → HoldsKind a b → HoldsLengths xs b.shape → ravel_rule a xs ≡ Ok y → HoldsOfPrepared y (ravelled b)
ravel_holds a xs b y m hk hs e =
    same_fact _ y (ravelled b) e (holds_made a (limited (product_of xs) ∷ []) b.kind (product b.shape ∷ []) (λ is. Ok (slice_index_or b.cells (only_index is) (fill b.kind))) (is_of_kind a b m hk) (limited_holds (product_of xs) (product b.shape) (product_holds xs b.shape hs), tt) (λ is. suits_cell a b (only_index is) hk))

iota_length_holds : (lit : Literal) (b : Array) → IsLiteral lit b → HoldsLength (iota_length lit) (unsigned_abs (first_of b))
iota_length_holds None b h = tt
iota_length_holds (Some []) b h = tt
iota_length_holds (Some (negsuc n ∷ [])) b h = tt
iota_length_holds (Some (pos n ∷ [])) b h = within_limit_holds n _ (sym (ap (λ (v : Array). unsigned_abs (first_of v)) h))
iota_length_holds (Some (pos n ∷ z ∷ zs)) b h = tt
iota_length_holds (Some (negsuc n ∷ z ∷ zs)) b h = tt

pub iota_holds : (o : ℤ) (lit : Literal) (a : FactKind) (xs : List (Option ℕ)) (b : Array) (y : Inferred) → HoldsLengths xs b.shape → IsLiteral lit b → iota_rule lit a xs ≡ Ok y → HoldsOfPrepared y (iota o b)
iota_holds o lit a xs b y hs hl e =
    let w = wants_parts (is_numeric a) breaks.Kind (wants (nat_le (length xs) 1) breaks.Rank (known Num (iota_length lit ∷ []))) y e in
    let v = wants_parts (nat_le (length xs) 1) breaks.Rank (known Num (iota_length lit ∷ [])) y w.1 in
    let ranked = subst (λ n. nat_le n 1 ≡ true) (same_rank xs b.shape hs) v.0 in
    let g : Inferred = Of Num (Some (iota_length lit ∷ [])) in
    let form0 = moved k.Num (unsigned_abs (first_of b) ∷ []) (λ is. o +ℤ pos (only_index is)) in
    let form1 = needs (nat_le (unsigned_abs (first_of b)) count_limit) fault.Limit form0 in
    let form2 = needs (int_le (pos 0) (first_of b)) fault.Domain form1 in
    let form3 = needs (nat_eq (product b.shape) 1) fault.Length form2 in
    let form4 = needs (nat_le (rank b) 1) fault.Rank form3 in
    let here = holds_made Num (iota_length lit ∷ []) k.Num (unsigned_abs (first_of b) ∷ []) (λ is. Ok (o +ℤ pos (only_index is))) refl (iota_length_holds lit b hl, tt) (λ is. tt) in
    same_fact g y (iota o b) v.1 (holds_needs g (is_numbers b) fault.Domain form4 (not_rank fault.Domain refl) (holds_rank g (nat_le (rank b) 1) form3 ranked (holds_needs g (nat_eq (product b.shape) 1) fault.Length form2 (not_rank fault.Length refl) (holds_needs g (int_le (pos 0) (first_of b)) fault.Domain form1 (not_rank fault.Domain refl) (holds_needs g (nat_le (unsigned_abs (first_of b)) count_limit) fault.Limit form0 (not_rank fault.Limit refl) here)))))

-- ---- Reversal, rotation, transposition

pub reverse_holds : (o : ℤ) (x : Axis) (a : FactKind) (xs : List (Option ℕ)) (b : Array) (y : Inferred) → is_mixed_kind a ≡ false → HoldsKind a b → HoldsLengths xs b.shape → reverse_rule o x a xs ≡ Ok y → HoldsOfPrepared y (reversed (axis_in o x (rank b)) b)
reverse_holds o x a xs b y m hk hs e =
    holds_axis (axis_in o x (rank b)) (λ i. known a xs) y (λ i. moved b.kind b.shape (λ is. at b (from_the_end b.shape i is))) (subst (λ n. wants_axis (axis_in o x n) (λ i. known a xs) ≡ Ok y) (same_rank xs b.shape hs) e) (λ i here q.
    same_fact _ y (moved b.kind b.shape (λ is. at b (from_the_end b.shape i is))) q (holds_made a xs b.kind b.shape (λ is. Ok (at b (from_the_end b.shape i is))) (is_of_kind a b m hk) hs (λ is. suits_cell a b _ hk)))

reverse_onto_holds : (xs ys : List (Option ℕ)) (ns ms : List ℕ) → HoldsLengths xs ns → HoldsLengths ys ms → HoldsLengths (reverse_aux xs ys) (reverse_aux ns ms)
reverse_onto_holds [] ys [] ms p q = q
reverse_onto_holds [] ys (n ∷ ns) ms p q = absurd p
reverse_onto_holds (x ∷ xs) ys [] ms p q = absurd p
reverse_onto_holds (x ∷ xs) ys (n ∷ ns) ms p q = reverse_onto_holds xs (x ∷ ys) ns (n ∷ ms) p.1 (p.0, q)

reversed_holds : (xs : List (Option ℕ)) (ns : List ℕ) → HoldsLengths xs ns → HoldsLengths (reverse xs) (reverse ns)
reversed_holds xs ns h = reverse_onto_holds xs [] ns [] h tt

pub transpose_holds : (a : FactKind) (xs : List (Option ℕ)) (b : Array) (y : Inferred) → is_mixed_kind a ≡ false → HoldsKind a b → HoldsLengths xs b.shape → transpose_rule a xs ≡ Ok y → HoldsOfPrepared y (transposed b)
transpose_holds a xs b y m hk hs e = same_fact _ y (transposed b) e (holds_made a (reverse xs) b.kind (reverse b.shape) (λ is. Ok (at b (reverse is))) (is_of_kind a b m hk) (reversed_holds xs b.shape hs) (λ is. suits_cell a b _ hk))

pub rotate_holds : (o : ℤ) (x : Axis) (a b : FactKind) (xs ys : List (Option ℕ)) (v w : Array) (y : Inferred) → is_mixed_kind b ≡ false → HoldsLengths xs v.shape → HoldsKind b w → HoldsLengths ys w.shape → rotate_rule o x a xs b ys ≡ Ok y → HoldsOfPrepared y (rotated (axis_in o x (rank w)) v w)
rotate_holds o x a b xs ys v w y m sv hw sw e =
    let u = wants_parts (is_numeric a) breaks.Kind (wants (nat_eq (length xs) 0) breaks.Rank (wants_axis (axis_in o x (length ys)) (λ i. known b ys))) y e in
    let t = wants_parts (nat_eq (length xs) 0) breaks.Rank (wants_axis (axis_in o x (length ys)) (λ i. known b ys)) y u.1 in
    let form : ℕ → Prepared = λ i. moved w.kind w.shape (λ is. at w (turned (first_of v) i w.shape is)) in
    holds_needs y (is_numbers v) fault.Domain (needs (nat_eq (rank v) 0) fault.Rank (along_axis (axis_in o x (rank w)) form)) (not_rank fault.Domain refl)
    (holds_rank y (nat_eq (rank v) 0) (along_axis (axis_in o x (rank w)) form) (subst (λ i. nat_eq i 0 ≡ true) (same_rank xs v.shape sv) t.0)
    (holds_axis (axis_in o x (rank w)) (λ i. known b ys) y form (subst (λ n. wants_axis (axis_in o x n) (λ i. known b ys) ≡ Ok y) (same_rank ys w.shape sw) t.1) (λ i here q.
    same_fact (Of b (Some ys)) y (form i) q (holds_moved b ys w w.shape (λ is. at w (turned (first_of v) i w.shape is)) m hw sw (λ is. suits_cell b w _ hw)))))

-- ---- Reshape

pub cells_count : (xs : List (Option ℕ)) (ns : List ℕ) → nat_le (length xs) 1 ≡ true → HoldsLengths xs ns → HoldsLength (count_in xs) (product ns)
cells_count [] [] e h = refl
cells_count [] (n ∷ ns) e h = absurd h
cells_count (x ∷ xs) [] e h = absurd h
cells_count (x ∷ []) (n ∷ []) e h = subst (HoldsLength x) (times_one n) h.0
  where
    times_one : (n : ℕ) → n ≡ n * 1
    times_one n = omega arith
cells_count (x ∷ []) (n ∷ m ∷ ns) e h = absurd h.1
cells_count (x ∷ y ∷ xs) (n ∷ ns) e h = absurd (too_many (length xs) e)
  where
    too_many : (n : ℕ) → nat_le (suc (suc n)) 1 ≡ true → ⊥
    too_many n e = grind (arith, nat_tests)

suits_cyclic : (b : FactKind) (w : Array) (ns is : List ℕ) → HoldsKind b w → Suits b (cyclic w ns is)
suits_cyclic b w ns is h = suits_if b (nat_eq (product w.shape) 0) (fill w.kind) _ (suits_fill b w h) (suits_cell b w _ h)

reshape_to_holds : (lit : Literal) (b : FactKind) (v w : Array) (y : Inferred) (o : Option ℕ) → is_mixed_kind b ≡ false → HoldsKind b w → IsLiteral lit v → nat_le (rank v) 1 ≡ true → HoldsLength o (length v.cells) → reshape_to lit b o ≡ Ok y → HoldsOfPrepared y (reshaped v w)
reshape_to_holds lit b v w y None m hw hl r c e = absurd (err_gives breaks.Reshape y e)
reshape_to_holds lit b v w y (Some n) m hw hl r c e =
    let u = wants_parts (nat_le n rank_limit) breaks.Rank (known b (lengths_given literal_length lit n)) y e in
    let ns = magnitudes v.cells in
    let form0 = moved w.kind ns (cyclic w ns) in
    let form1 = needs (shape_fits ns) fault.Limit form0 in
    let form2 = needs (none_negative v.cells) fault.Domain form1 in
    let few : nat_le (length v.cells) rank_limit ≡ true = subst (λ l. nat_le l rank_limit ≡ true) c u.0 in
    let ranked : (nat_le (rank v) 1 && nat_le (length v.cells) rank_limit) ≡ true = rw (r, few) refl in
    let g : Inferred = Of b (Some (lengths_given literal_length lit n)) in
    same_fact g y (reshaped v w) u.1
    (holds_needs g (is_numbers v) fault.Domain (needs (nat_le (rank v) 1 && nat_le (length v.cells) rank_limit) fault.Rank form2) (not_rank fault.Domain refl)
    (holds_rank g (nat_le (rank v) 1 && nat_le (length v.cells) rank_limit) form2 ranked
    (holds_needs g (none_negative v.cells) fault.Domain form1 (not_rank fault.Domain refl)
    (holds_needs g (shape_fits ns) fault.Limit form0 (not_rank fault.Limit refl)
    (holds_moved b (lengths_given literal_length lit n) w ns (cyclic w ns) m hw (lengths_given_hold literal_length literal_length_holds lit v n hl (sym c)) (λ is. suits_cyclic b w ns is hw))))))

pub reshape_holds : (lit : Literal) (a b : FactKind) (xs ys : List (Option ℕ)) (v w : Array) (y : Inferred) → is_mixed_kind b ≡ false → HoldsLengths xs v.shape → IsWhole v → HoldsKind b w → IsLiteral lit v → reshape_rule lit a xs b ys ≡ Ok y → HoldsOfPrepared y (reshaped v w)
reshape_holds lit a b xs ys v w y m sv wv hw hl e =
    let u = wants_parts (is_numeric a) breaks.Kind (wants (nat_le (length xs) 1) breaks.Rank (reshape_to lit b (count_in xs))) y e in
    let n = wants_parts (nat_le (length xs) 1) breaks.Rank (reshape_to lit b (count_in xs)) y u.1 in
    reshape_to_holds lit b v w y (count_in xs) m hw hl (subst (λ i. nat_le i 1 ≡ true) (same_rank xs v.shape sv) n.0) (subst (HoldsLength (count_in xs)) (sym wv) (cells_count xs v.shape n.0 sv)) n.1

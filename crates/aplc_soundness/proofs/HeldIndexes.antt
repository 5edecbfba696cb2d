-- What the rules of indexing, indexed assignment and branches owe.
use Rattle.std.proofs.Common.{◌≡◌, ◌∙◌, sym, ap, refl, subst, ℕ, zero, suc, List, [], ◌∷◌, length, Option, Some, None, Ok, Err, Bool, true, false, ◌&&◌, ◌||◌, ℤ}
use Rattle.std.specs.Prelude.{Result, slice_set, nat_eq, nat_lt, nat_le, ◌≢◌}
use Rattle.std.specs.List.{AllByRecursion}
use Rattle.aplc_scalar.specs.declared.kind.FaultKind.{FaultKind}
use Rattle.aplc_scalar.specs.declared.kind.FaultKind.TheVariants as fault
use Rattle.aplc_arr.specs.Arrays.{Array, rank, product, at, place, index_at, is_numbers, kind_eq, shape_eq, shape_fits, rank_limit}
use Rattle.aplc_arr.specs.Delayed.{moved, needs}
use Rattle.aplc_arr.specs.Each.{extended}
use Rattle.aplc_arr.specs.Indexing.{joined_shape, all_numbers, places_within, picked, indexed, set_all, settings, changed}
use Rattle.aplc_names.specs.Eager.{branch_to, target}
use Rattle.aplc_infer.specs.declared.fact.FactKind.{FactKind}
use Rattle.aplc_infer.specs.declared.fact.FactKind.TheVariants.{Bit, Num, Char, Mixed}
use Rattle.aplc_infer.specs.declared.fact.Inferred.{Inferred}
use Rattle.aplc_infer.specs.declared.fact.Inferred.TheVariants.{Unset, Of}
use Rattle.aplc_infer.specs.declared.rule_break.RuleBreak.TheVariants as breaks
use Rattle.aplc_infer.specs.Facts.{is_unset, is_mixed}
use Rattle.aplc_infer.specs.Rules.{is_bit, Ruled, Clear, sort, strict1, strict_by, strict_list, any_fact, known, wants, is_numeric, all_numeric, joined_lengths, kinds_join, index_rule, change_rule, branch_rule, index_fact, change_fact, kept_kind, left_fact, branch_fact}
use Rattle.aplc_soundness.specs.Holding.{HoldsKind, HoldsLengths, Holds, HoldsAll}
use Rattle.aplc_soundness.specs.RulesHold.{HoldsOfPrepared, HoldsOfChanged}
use Rattle.aplc_soundness.proofs.Held.{no, and_parts, not_rank, same_rank, same_many, all_set}
use Rattle.aplc_soundness.proofs.HeldElements.{holds_needs, holds_rank, holds_moved, wants_parts, fact_in, same_fact, suits_cell, every_first, append_holds, KnownOf, known_of, sort_of, one_known}
use Rattle.aplc_soundness.proofs.HeldPairs.{suits_extended}

-- ---- Index lists

joined_lengths_hold : (xs : List (Option ℕ)) (ns : List ℕ) (fs : List (Option Inferred)) (vs : List (Option Array)) → HoldsLengths xs ns → HoldsAll fs vs → any_fact is_mixed fs ≡ false → HoldsLengths (joined_lengths xs fs) (joined_shape ns vs)
joined_lengths_hold [] [] fs vs p h m = tt
joined_lengths_hold [] (n ∷ ns) fs vs p h m = absurd p
joined_lengths_hold (x ∷ xs) [] fs vs p h m = absurd p
joined_lengths_hold (x ∷ xs) (n ∷ ns) [] [] p h m = tt
joined_lengths_hold (x ∷ xs) (n ∷ ns) [] (v ∷ vs) p h m = absurd h
joined_lengths_hold (x ∷ xs) (n ∷ ns) (None ∷ fs) [] p h m = absurd h
joined_lengths_hold (x ∷ xs) (n ∷ ns) (Some f ∷ fs) [] p h m = absurd h
joined_lengths_hold (x ∷ xs) (n ∷ ns) (None ∷ fs) (None ∷ vs) p h m = (p.0, joined_lengths_hold xs ns fs vs p.1 h m)
joined_lengths_hold (x ∷ xs) (n ∷ ns) (None ∷ fs) (Some v ∷ vs) p h m = absurd h
joined_lengths_hold (x ∷ xs) (n ∷ ns) (Some f ∷ fs) (None ∷ vs) p h m = absurd h
joined_lengths_hold (x ∷ xs) (n ∷ ns) (Some Unset ∷ fs) (Some v ∷ vs) p h m = absurd h.0
joined_lengths_hold (x ∷ xs) (n ∷ ns) (Some (Of Mixed s) ∷ fs) (Some v ∷ vs) p h m = absurd (no (sym m))
joined_lengths_hold (x ∷ xs) (n ∷ ns) (Some (Of Bit None) ∷ fs) (Some v ∷ vs) p h m = absurd (no (sym m))
joined_lengths_hold (x ∷ xs) (n ∷ ns) (Some (Of Num None) ∷ fs) (Some v ∷ vs) p h m = absurd (no (sym m))
joined_lengths_hold (x ∷ xs) (n ∷ ns) (Some (Of Char None) ∷ fs) (Some v ∷ vs) p h m = absurd (no (sym m))
joined_lengths_hold (x ∷ xs) (n ∷ ns) (Some (Of Bit (Some ys)) ∷ fs) (Some v ∷ vs) p h m = append_holds ys (joined_lengths xs fs) v.shape (joined_shape ns vs) h.0.1 (joined_lengths_hold xs ns fs vs p.1 h.1 m)
joined_lengths_hold (x ∷ xs) (n ∷ ns) (Some (Of Num (Some ys)) ∷ fs) (Some v ∷ vs) p h m = append_holds ys (joined_lengths xs fs) v.shape (joined_shape ns vs) h.0.1 (joined_lengths_hold xs ns fs vs p.1 h.1 m)
joined_lengths_hold (x ∷ xs) (n ∷ ns) (Some (Of Char (Some ys)) ∷ fs) (Some v ∷ vs) p h m = append_holds ys (joined_lengths xs fs) v.shape (joined_shape ns vs) h.0.1 (joined_lengths_hold xs ns fs vs p.1 h.1 m)

-- past the wrapper
pub list_known : (rule : FactKind → List (Option ℕ) → Ruled) (x z : Inferred) (v : Array) (fs : List (Option Inferred)) (p : KnownOf x v) → any_fact is_unset fs ≡ false → any_fact is_mixed fs ≡ false → strict_list rule (sort x) fs ≡ Ok z → rule p.kind p.lengths ≡ Ok z
list_known rule x z v fs p u m e =
    subst (λ b. strict_by false b rule (Clear p.kind p.lengths) ≡ Ok z) m
    (subst (λ b. strict_by b (any_fact is_mixed fs) rule (Clear p.kind p.lengths) ≡ Ok z) u (subst (λ s. strict_list rule s fs ≡ Ok z) (sort_of x v p) e))

-- as many places as axes, at least one, and not too many axes
abbrev placed : ℕ → ℕ → ℕ → Bool
placed m r j = nat_eq m r && nat_lt 0 r && nat_le j rank_limit

same_placed : (xs : List (Option ℕ)) (ns : List ℕ) (fs : List (Option Inferred)) (vs : List (Option Array)) → HoldsLengths xs ns → HoldsAll fs vs → any_fact is_mixed fs ≡ false → placed (length fs) (length xs) (length (joined_lengths xs fs)) ≡ true → placed (length vs) (length ns) (length (joined_shape ns vs)) ≡ true
same_placed xs ns fs vs p h m e =
    subst (λ i. placed (length vs) (length ns) i ≡ true) (same_rank (joined_lengths xs fs) (joined_shape ns vs) (joined_lengths_hold xs ns fs vs p h m))
    (subst (λ i. placed (length vs) i (length (joined_lengths xs fs)) ≡ true) (same_rank xs ns p)
    (subst (λ i. placed i (length xs) (length (joined_lengths xs fs)) ≡ true) (same_many fs vs h) e))

pub index_holds : (o : ℤ) (fs : List (Option Inferred)) (x y : Inferred) (w : Array) (vs : List (Option Array)) → Holds x w → is_mixed x ≡ false → HoldsAll fs vs → any_fact is_mixed fs ≡ false → index_fact x fs ≡ Ok y → HoldsOfPrepared y (indexed o w vs)
index_holds o fs x y w vs hx mx h m e =
    let p = known_of x w hx mx in
    let a = p.kind in
    let xs = p.lengths in
    let e1 = list_known (index_rule fs) x y w fs p (all_set fs vs h) m e in
    let zs = joined_lengths xs fs in
    let fit = placed (length fs) (length xs) (length zs) in
    let u = wants_parts (all_numeric fs) breaks.Kind (wants fit breaks.Rank (known a zs)) y e1 in
    let t = wants_parts fit breaks.Rank (known a zs) y u.1 in
    let ns = joined_shape w.shape vs in
    let here = placed (length vs) (rank w) (length ns) in
    let g : Inferred = Of a (Some zs) in
    let el : List ℕ → ℤ = λ is. at w (picked o vs is) in
    let form0 = moved w.kind ns el in
    let form1 = needs (places_within o w.shape vs) fault.Index form0 in
    let form2 = needs (shape_fits ns) fault.Limit form1 in
    same_fact g y (indexed o w vs) t.1
    (holds_needs g (all_numbers vs) fault.Domain (needs here fault.Rank form2) (not_rank fault.Domain refl)
    (holds_rank g here form2 (same_placed xs w.shape fs vs p.of_shape h m t.0)
    (holds_needs g (shape_fits ns) fault.Limit form1 (not_rank fault.Limit refl)
    (holds_needs g (places_within o w.shape vs) fault.Index form0 (not_rank fault.Index refl)
    (holds_moved a zs w ns el p.clear p.of_kind (joined_lengths_hold xs w.shape fs vs p.of_shape h m) (λ is. suits_cell a w (place w.shape (picked o vs is)) p.of_kind))))))

-- ---- Indexed assignment

pub changed_needs : (y : Inferred) (b : Bool) (e : FaultKind) (x : Result Array FaultKind) → e ≢ fault.Rank → HoldsOfChanged y x → HoldsOfChanged y (needs b e x)
changed_needs y true e x p h = h
changed_needs y false e x p h = p

pub changed_rank : (y : Inferred) (b : Bool) (x : Result Array FaultKind) → b ≡ true → HoldsOfChanged y x → HoldsOfChanged y (needs b fault.Rank x)
changed_rank y b x e h = rw e h

pub every_set : {X : Type 0} (P : X → Type 0) (xs : List X) (p : ℕ) (x : X) → AllByRecursion P xs → P x → AllByRecursion P (slice_set xs p x)
every_set P [] p x h q = tt
every_set P (y ∷ xs) zero x h q = (q, h.1)
every_set P (y ∷ xs) (suc p) x h q = (h.0, every_set P xs p x h.1 q)

pub length_set : {X : Type 0} (xs : List X) (p : ℕ) (x : X) → length (slice_set xs p x) ≡ length xs
length_set [] p x = refl
length_set (y ∷ xs) zero x = refl
length_set (y ∷ xs) (suc p) x = ap suc (length_set xs p x)

pub every_set_all : (P : ℤ → Type 0) (rs : List (ℕ × ℤ)) (zs : List ℤ) → AllByRecursion (λ (s : ℕ × ℤ). P s.1) rs → AllByRecursion P zs → AllByRecursion P (set_all rs zs)
every_set_all P [] zs h q = q
every_set_all P ((p, z) ∷ rs) zs h q = every_set_all P rs (slice_set zs p z) h.1 (every_set P zs p z q h.0)

pub length_set_all : (rs : List (ℕ × ℤ)) (zs : List ℤ) → length (set_all rs zs) ≡ length zs
length_set_all [] zs = refl
length_set_all ((p, z) ∷ rs) zs = length_set_all rs (slice_set zs p z) ∙ length_set zs p z

pub kept_kind_holds : (a b : FactKind) (o : ℤ) (w v : Array) (vs : List (Option Array)) → kinds_join a b ≡ true → HoldsKind a w → HoldsKind b v → HoldsKind (kept_kind a b) record w { cells = set_all (settings o w vs v) w.cells }
kept_kind_holds Bit Bit o w v vs e p q =
    let ns = joined_shape w.shape vs in
    (p.0, every_set_all (λ z. is_bit z ≡ true) (settings o w vs v) w.cells (every_first (λ (s : ℕ × ℤ). is_bit s.1 ≡ true) (λ i. (place w.shape (picked o vs (index_at ns i)), extended v ns (index_at ns i))) (λ i. suits_extended Bit v ns (index_at ns i) q) (product ns)) p.1)
kept_kind_holds Bit Num o w v vs e p q = p.0
kept_kind_holds Num Bit o w v vs e p q = p
kept_kind_holds Num Num o w v vs e p q = p
kept_kind_holds Char Char o w v vs e p q = p
kept_kind_holds Bit Char o w v vs e p q = absurd (no e)
kept_kind_holds Bit Mixed o w v vs e p q = absurd (no e)
kept_kind_holds Num Char o w v vs e p q = absurd (no e)
kept_kind_holds Num Mixed o w v vs e p q = absurd (no e)
kept_kind_holds Char Bit o w v vs e p q = absurd (no e)
kept_kind_holds Char Num o w v vs e p q = absurd (no e)
kept_kind_holds Char Mixed o w v vs e p q = absurd (no e)
kept_kind_holds Mixed b o w v vs e p q = absurd (no e)

pub change_holds : (o : ℤ) (fs : List (Option Inferred)) (x y z : Inferred) (w v : Array) (vs : List (Option Array)) → Holds x w → HoldsAll fs vs → Holds y v → is_mixed x ≡ false → any_fact is_mixed fs ≡ false → is_mixed y ≡ false → change_fact x fs y ≡ Ok z → HoldsOfChanged (left_fact x y) (changed o w vs v) × Holds z v
change_holds o fs x y z w v vs hx h hy mx m my e =
    let p = known_of x w hx mx in
    let q = known_of y v hy my in
    let a = p.kind in
    let xs = p.lengths in
    let b = q.kind in
    let ys = q.lengths in
    let zs = joined_lengths xs fs in
    let many : List (Option Inferred) = Some y ∷ fs in
    let rule : FactKind → List (Option ℕ) → Ruled = λ a xs. strict1 (change_rule fs a xs) (sort y) in
    let none : any_fact is_mixed many ≡ false = rw (my, m) refl in
    let e0 = list_known rule x z w many p (all_set many (Some v ∷ vs) (hy, h)) none e in
    let e1 = one_known (change_rule fs a xs) y z v q e0 in
    let fit = nat_eq (length ys) 0 || nat_eq (length ys) (length zs) in
    let there = placed (length fs) (length xs) (length zs) in
    let u = wants_parts (all_numeric fs && kinds_join a b) breaks.Kind (wants (there && fit) breaks.Rank (known b ys)) z e1 in
    let t = wants_parts (there && fit) breaks.Rank (known b ys) z u.1 in
    let kinds = and_parts (all_numeric fs) (kinds_join a b) u.0 in
    let places = and_parts there fit t.0 in
    let ns = joined_shape w.shape vs in
    let here = placed (length vs) (rank w) (length ns) in
    let g : Inferred = Of (kept_kind a b) (Some xs) in
    let form0 : Result Array FaultKind = Ok record w { cells = set_all (settings o w vs v) w.cells } in
    let form1 = needs (places_within o w.shape vs) fault.Index form0 in
    let form2 = needs (nat_eq (product v.shape) 1 || shape_eq v.shape ns) fault.Length form1 in
    let same : left_fact x y ≡ g = subst (λ (u : Inferred). left_fact u y ≡ g) (sym p.same) (subst (λ (u : Inferred). left_fact (Of a (Some xs)) u ≡ g) (sym q.same) refl) in
    let given : y ≡ z = q.same ∙ ap fact_in t.1 in (
      subst (λ (u : Inferred). HoldsOfChanged u (changed o w vs v)) (sym same)
          (changed_needs g (all_numbers vs && kind_eq w.kind v.kind) fault.Domain (needs here fault.Rank form2) (not_rank fault.Domain refl)
          (changed_rank g here form2 (same_placed xs w.shape fs vs p.of_shape h m places.0)
          (changed_needs g (nat_eq (product v.shape) 1 || shape_eq v.shape ns) fault.Length form1 (not_rank fault.Length refl)
          (changed_needs g (places_within o w.shape vs) fault.Index form0 (not_rank fault.Index refl)
          (kept_kind_holds a b o w v vs kinds.1 p.of_kind q.of_kind, p.of_shape, length_set_all (settings o w vs v) w.cells ∙ p.whole))))),
      subst (λ (u : Inferred). Holds u v) given hy,
    )

-- ---- Branches

pub branch_holds : (x y : Inferred) (v : Array) → Holds x v → is_mixed x ≡ false → branch_fact x ≡ Ok y → branch_to v ≢ Err fault.Rank
branch_holds x y v hx mx e =
    let p = known_of x v hx mx in
    let e1 = one_known branch_rule x y v p e in
    let u = wants_parts (is_numeric p.kind) breaks.Kind (wants (nat_le (length p.lengths) 1) breaks.Rank (known p.kind p.lengths)) y e1 in
    let t = wants_parts (nat_le (length p.lengths) 1) breaks.Rank (known p.kind p.lengths) y u.1 in
    by_test (is_numbers v) (nat_le (rank v) 1) (subst (λ i. nat_le i 1 ≡ true) (same_rank p.lengths v.shape p.of_shape) t.0)
  where
    fault_in : Result (Option ℕ) FaultKind → FaultKind
    fault_in (Ok n) = fault.Domain
    fault_in (Err e) = e

    by_test : (b c : Bool) → c ≡ true → needs b fault.Domain (needs c fault.Rank (Ok (target v.cells))) ≢ Err fault.Rank
    by_test true true q h = not_rank fault.Domain refl (ap fault_in h)
    by_test true false q h = no q
    by_test false c q h = not_rank fault.Domain refl (ap fault_in h)

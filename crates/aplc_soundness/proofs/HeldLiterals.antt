-- Facts of literals hold of their values, and so do the lengths that a literal tells.
use Rattle.std.proofs.Common.{◌≡◌, ◌∙◌, sym, ap, refl, subst, ℕ, List, [], ◌∷◌, length, Some, None, Option, Bool, true, false, arith, ℤ, pos, negsuc}
use Rattle.std.specs.Prelude.{map, nat_eq, unsigned_abs, if◌then◌else◌}
use Rattle.std.specs.List.{list_all, AllByRecursion}
use Rattle.std.proofs.lemmas.List.{length-map}
use Rattle.aplc_scalar.specs.declared.kind.Kind.{Kind}
use Rattle.aplc_scalar.specs.declared.kind.Kind.TheVariants as k
use Rattle.aplc_arr.specs.Arrays.{Array, product}
use Rattle.aplc_arr.specs.Structure.{magnitudes}
use Rattle.aplc_names.specs.Eager.{literal}
use Rattle.aplc_infer.specs.Rules.{Literal, is_bit, literal_kind, literal_lengths, numbers_fact, text_fact, unknown, literal_length, magnitude_length, lengths_given}
use Rattle.aplc_soundness.specs.Holding.{HoldsKind, HoldsLength, HoldsLengths, IsWhole, Holds}
use Rattle.aplc_soundness.specs.RulesHold.{IsLiteral}
use Rattle.aplc_soundness.proofs.Held.{and_parts, within_limit_holds}
use Rattle.aplc_soundness.proofs.HeldElements.{unknown_holds}

-- ---- The value of a literal

pub literal_cells : (kind : Kind) (zs : List ℤ) → (literal kind zs).cells ≡ zs
literal_cells kind [] = refl
literal_cells kind (z ∷ []) = refl
literal_cells kind (z ∷ y ∷ zs) = refl

pub literal_is_of : (kind : Kind) (zs : List ℤ) → (literal kind zs).kind ≡ kind
literal_is_of kind [] = refl
literal_is_of kind (z ∷ []) = refl
literal_is_of kind (z ∷ y ∷ zs) = refl

pub vector_whole : (zs : List ℤ) → length zs ≡ product (length zs ∷ [])
vector_whole zs = omega arith

literal_whole : (kind : Kind) (zs : List ℤ) → IsWhole (literal kind zs)
literal_whole kind [] = refl
literal_whole kind (z ∷ []) = refl
literal_whole kind (z ∷ y ∷ zs) = vector_whole (z ∷ y ∷ zs)

-- ---- Numbers and texts

every_bit : (zs : List ℤ) → list_all is_bit zs ≡ true → AllByRecursion (λ z. is_bit z ≡ true) zs
every_bit [] e = tt
every_bit (z ∷ zs) e = let parts = and_parts (is_bit z) (list_all is_bit zs) e in (parts.0, every_bit zs parts.1)

numbers_shape : (zs : List ℤ) → HoldsLengths (literal_lengths zs) (literal k.Num zs).shape
numbers_shape [] = (within_limit_holds 0 0 refl, tt)
numbers_shape (z ∷ []) = tt
numbers_shape (z ∷ y ∷ zs) = (within_limit_holds (length (z ∷ y ∷ zs)) (length (z ∷ y ∷ zs)) refl, tt)

pub numbers_hold : (zs : List ℤ) → Holds (numbers_fact zs) (literal k.Num zs)
numbers_hold zs = (by_kind (list_all is_bit zs) refl, numbers_shape zs, literal_whole k.Num zs)
  where
    by_kind : (b : Bool) → list_all is_bit zs ≡ b → HoldsKind (literal_kind b) (literal k.Num zs)
    by_kind true e = (literal_is_of k.Num zs, subst (AllByRecursion (λ z. is_bit z ≡ true)) (sym (literal_cells k.Num zs)) (every_bit zs e))
    by_kind false e = literal_is_of k.Num zs

text_shape : (cs : List ℕ) → HoldsLengths (literal_lengths cs) (literal k.Char (map pos cs)).shape
text_shape [] = (within_limit_holds 0 0 refl, tt)
text_shape (c ∷ []) = tt
text_shape (c ∷ d ∷ cs) = (within_limit_holds (length (c ∷ d ∷ cs)) (length (map pos (c ∷ d ∷ cs))) (sym (length-map (c ∷ d ∷ cs) pos)), tt)

pub text_holds : (cs : List ℕ) → Holds (text_fact cs) (literal k.Char (map pos cs))
text_holds cs = (literal_is_of k.Char (map pos cs), text_shape cs, literal_whole k.Char (map pos cs))

-- ---- The lengths that a literal tells

pub literal_length_holds : (z : ℤ) → HoldsLength (literal_length z) (unsigned_abs z)
literal_length_holds (pos n) = within_limit_holds n n refl
literal_length_holds (negsuc n) = tt

pub magnitude_length_holds : (z : ℤ) → HoldsLength (magnitude_length z) (unsigned_abs z)
magnitude_length_holds z = within_limit_holds (unsigned_abs z) (unsigned_abs z) refl

each_length : (q : ℤ → Option ℕ) → ((z : ℤ) → HoldsLength (q z) (unsigned_abs z)) → (zs : List ℤ) → HoldsLengths (map q zs) (map unsigned_abs zs)
each_length q h [] = tt
each_length q h (z ∷ zs) = (h z, each_length q h zs)

by_numbers : (q : ℤ → Option ℕ) → ((z : ℤ) → HoldsLength (q z) (unsigned_abs z)) → (zs : List ℤ) (n : ℕ) → length zs ≡ n → HoldsLengths (lengths_given q (Some zs) n) (map unsigned_abs zs)
by_numbers q h zs n e = by_test (nat_eq (length zs) n)
  where
    by_test : (b : Bool) → HoldsLengths (if b then map q zs else unknown n) (map unsigned_abs zs)
    by_test true = each_length q h zs
    by_test false = unknown_holds n (map unsigned_abs zs) (length-map zs unsigned_abs ∙ e)

pub lengths_given_hold : (q : ℤ → Option ℕ) → ((z : ℤ) → HoldsLength (q z) (unsigned_abs z)) → (lit : Literal) (v : Array) (n : ℕ) → IsLiteral lit v → length v.cells ≡ n → HoldsLengths (lengths_given q lit n) (magnitudes v.cells)
lengths_given_hold q h None v n l e = unknown_holds n (magnitudes v.cells) (length-map v.cells unsigned_abs ∙ e)
lengths_given_hold q h (Some zs) v n l e =
    let c : v.cells ≡ zs = ap (λ (x : Array). x.cells) l ∙ literal_cells k.Num zs in
    subst (λ m. HoldsLengths (lengths_given q (Some zs) n) (map unsigned_abs m)) (sym c) (by_numbers q h zs n (sym (ap length c) ∙ e))

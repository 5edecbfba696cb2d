-- Places and multi-indices are inverse, and a place lies below the number of elements.
use Rattle.std.proofs.Common.{◌≡◌, ℕ, zero, suc, ◌+◌, ◌*◌, ◌/◌, ◌%◌, ◌<◌, List, [], ◌∷◌, ◌++◌, length, refl, ap, ◌∙◌, subst, arith, length-append, ⊎_elim}
use Rattle.std.specs.Prelude.{slice_index_or}
use Rattle.std.proofs.lemmas.Nat.{mul-add-lt, div-mul-add, mod-mul-add, div_below, mod_below, div-add-mod'}
use Rattle.std.proofs.lemmas.List.{get_or_append_left}
use Rattle.std.proofs.lemmas.Bool.{cases_lt}
use Rattle.std.proofs.Math.Seq.{get_or-append_seam}
use Rattle.aplc_arr.specs.Arrays.{product, IsIndexOf, place, index_at}
use Rattle.aplc_arr.specs.Delayed.{first_n}

pub place-below : (ns is : List ℕ) → IsIndexOf ns is → place ns is < product ns
place-below [] [] h = omega arith
place-below [] (i ∷ is) h = absurd h
place-below (n ∷ ns) [] h = absurd h
place-below (n ∷ ns) (i ∷ is) h = let e = mul-add-lt i (product ns) (place ns is) n h.0 (place-below ns is h.1) in omega (arith, e)

pub index-of_place : (ns is : List ℕ) → IsIndexOf ns is → index_at ns (place ns is) ≡ is
index-of_place [] [] h = refl
index-of_place [] (i ∷ is) h = absurd h
index-of_place (n ∷ ns) [] h = absurd h
index-of_place (n ∷ ns) (i ∷ is) h =
    let b = place-below ns is h.1 in
    rw (div-mul-add i (product ns) (place ns is) b, mod-mul-add i (product ns) (place ns is) b) (ap (λ js. i ∷ js) (index-of_place ns is h.1))

-- a shape that has a place has no empty axis behind the first one
some-below : (n : ℕ) (ns : List ℕ) (p : ℕ) → p < n * product ns → 0 < product ns
some-below n ns p h = grind arith

pub place-of_index : (ns : List ℕ) (p : ℕ) → p < product ns → place ns (index_at ns p) ≡ p
place-of_index [] p h = omega arith
place-of_index (n ∷ ns) p h =
    let some = some-below n ns p h in
    let rest = place-of_index ns (p % product ns) (mod_below p (product ns) some) in
    ap (λ r. p / product ns * product ns + r) rest ∙ div-add-mod' p (product ns)

pub index-within : (ns : List ℕ) (p : ℕ) → p < product ns → IsIndexOf ns (index_at ns p)
index-within [] p h = tt
index-within (n ∷ ns) p h =
    let some = some-below n ns p h in
    (div_below p (product ns) n some h, index-within ns (p % product ns) (mod_below p (product ns) some))

pub index-length : (ns is : List ℕ) → IsIndexOf ns is → length is ≡ length ns
index-length [] [] h = refl
index-length [] (i ∷ is) h = absurd h
index-length (n ∷ ns) [] h = absurd h
index-length (n ∷ ns) (i ∷ is) h = ap suc (index-length ns is h.1)

-- ---- Lists by a formula

pub length-first_n : {A : Type 0} (f : ℕ → A) (n : ℕ) → length (first_n f n) ≡ n
length-first_n f zero = refl
length-first_n f (suc n) = length-append (first_n f n) (f n ∷ []) ∙ omega (arith, length-first_n f n)

pub at-first_n : {A : Type 0} (f : ℕ → A) (n i : ℕ) (d : A) → i < n → slice_index_or (first_n f n) i d ≡ f i
at-first_n f zero i d h = absurd (omega arith)
at-first_n f (suc n) i d h =
    ⊎_elim
    (λ lt. let l = length-first_n f n in let below : i < length (first_n f n) = omega (arith, l, lt) in get_or_append_left (first_n f n) (f n ∷ []) d i below ∙ at-first_n f n i d lt)
    (λ le. let e : n ≡ i = omega (arith, le) in let l = length-first_n f n in rw (← e) (subst (λ j. slice_index_or (first_n f n ++ f n ∷ []) j d ≡ f n) l (get_or-append_seam (first_n f n) (f n) [] d)))
    (cases_lt i n)

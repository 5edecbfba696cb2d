-- Row-major order is the order of places.
use Rattle.std.proofs.Common.{◌≡◌, ℕ, zero, suc, ◌+◌, ◌*◌, ◌/◌, ◌%◌, ◌<◌, List, [], ◌∷◌, ◌++◌, refl, sym, ap, ◌∙◌, arith, append_assoc, append-nil}
use Rattle.std.proofs.lemmas.Nat.{div-mul-add, mod-mul-add}
use Rattle.aplc_arr.specs.Arrays.{product, index_at}
use Rattle.aplc_arr.specs.Delayed.{first_n}
use Rattle.aplc_fill.specs.Nests.{joined, row_major}

first_same : {A : Type 0} (f g : ℕ → A) (n : ℕ) → ((i : ℕ) → i < n → f i ≡ g i) → first_n f n ≡ first_n g n
first_same f g zero h = refl
first_same f g (suc n) h = ap (λ l. l ++ f n ∷ []) (first_same f g n (λ i lt. h i (omega (arith, lt)))) ∙ ap (λ x. first_n g n ++ x ∷ []) (h n (omega arith))

first_more : {A : Type 0} (f : ℕ → A) (n m : ℕ) → first_n f (n + m) ≡ first_n f n ++ first_n (λ j. f (n + j)) m
first_more f n zero = let e : n + 0 ≡ n = omega arith in ap (first_n f) e ∙ sym (append-nil (first_n f n))
first_more f n (suc m) =
    let e : n + suc m ≡ suc (n + m) = omega arith in
    ap (first_n f) e ∙ ap (λ l. l ++ f (n + m) ∷ []) (first_more f n m) ∙ append_assoc (first_n f n) (first_n (λ j. f (n + j)) m) (f (n + m) ∷ [])

joined_same : {A : Type 0} (f g : ℕ → List A) (n : ℕ) → ((i : ℕ) → i < n → f i ≡ g i) → joined f n ≡ joined g n
joined_same f g zero h = refl
joined_same f g (suc n) h = ap (λ l. l ++ f n) (joined_same f g n (λ i lt. h i (omega (arith, lt)))) ∙ ap (λ x. joined g n ++ x) (h n (omega arith))

rows_are : {A : Type 0} (f : ℕ → A) (m n : ℕ) → joined (λ i. first_n (λ j. f (i * m + j)) m) n ≡ first_n f (n * m)
rows_are f m zero = let e : 0 * m ≡ 0 = omega arith in sym (ap (first_n f) e)
rows_are f m (suc n) =
    let e : n * m + m ≡ suc n * m = omega arith in
    ap (λ l. l ++ first_n (λ j. f (n * m + j)) m) (rows_are f m n) ∙ sym (first_more f (n * m) m) ∙ ap (first_n f) e

-- the elements in row-major order are those at places 0, 1, .., as an array's ravel has them
pub row_major_is : {A : Type 0} (ns : List ℕ) (item : List ℕ → A) → row_major ns item ≡ first_n (λ p. item (index_at ns p)) (product ns)
row_major_is [] item = refl
row_major_is (n ∷ ns) item =
    let P = product ns in
    joined_same (λ i. row_major ns (λ is. item (i ∷ is))) (λ i. first_n (λ j. item (index_at (n ∷ ns) (i * P + j))) P) n
    (λ i lt. row_major_is ns (λ is. item (i ∷ is)) ∙ first_same (λ j. item (i ∷ index_at ns j)) (λ j. item (index_at (n ∷ ns) (i * P + j))) P
    (λ j below. ap item (sym (ap (λ d. d ∷ index_at ns ((i * P + j) % P)) (div-mul-add i P j below) ∙ ap (λ r. i ∷ index_at ns r) (mod-mul-add i P j below)))))
    ∙ rows_are (λ p. item (index_at (n ∷ ns) p)) P n

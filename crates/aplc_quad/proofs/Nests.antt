-- Empty lines between planes, and planes along all axes.
use Rattle.std.proofs.Common.{◌≡◌, ℕ, zero, suc, ◌+◌, ◌-◌, ◌*◌, ◌/◌, ◌%◌, ◌<◌, ◌≤◌, List, [], ◌∷◌, ◌++◌, refl, ap, ap₂, sym, ◌∙◌, arith, append_assoc, length, ℤ, Bool, true, false, ⊎_elim}
use Rattle.std.specs.Prelude.{replicate, nat_eq, nat_lt, ◌&&◌, if◌then◌else◌}
use Rattle.std.proofs.lemmas.Bool.{cases_lt}
use Rattle.std.proofs.lemmas.Bool.Decides.{nat_tests}
use Rattle.std.proofs.lemmas.Nat.{div-mul-add, mod-mul-add, div_below, mod_below, div-add-mod'}
use Rattle.aplc_scalar.specs.declared.kind.Kind.{Kind}
use Rattle.aplc_arr.specs.Arrays.{product, index_at}
use Rattle.aplc_arr.specs.Display.{differing, empty_lines}
use Rattle.aplc_quad.specs.Rows.{joined, plane_bytes, row_bytes, nest_bytes, empty_line}
use Rattle.aplc_quad.proofs.Pieces.{joined_same, row_same}
use Rattle.aplc_quad.proofs.Joins.{joined_below, joined_rows, at_first, joined_with_first}

-- ---- Axes that move

-- 1 for true
abbrev pub one_if : Bool → ℕ
one_if b = if b then 1 else 0

-- 0 for true
abbrev one_unless : Bool → ℕ
one_unless b = if b then 0 else 1

abbrev line_if : Bool → List ℕ
line_if b = if b then 10 ∷ [] else []

-- at how many axes the index moves where plane q begins, which is not the first
abbrev pub moved : List ℕ → ℕ → ℕ
moved [] q = 0
moved (n ∷ ns) q = one_if (nat_eq (q % product ns) 0 && nat_lt 1 n) + moved ns (q % product ns)

index_split : (n : ℕ) (ns : List ℕ) (x a r : ℕ) → x ≡ a * product ns + r → r < product ns → index_at (n ∷ ns) x ≡ a ∷ index_at ns r
index_split n ns x a r e lt =
    let q = product ns in
    ap (λ y. y / q ∷ index_at ns (y % q)) e ∙ ap₂ (λ u v. u ∷ index_at ns v) (div-mul-add a q r lt) (mod-mul-add a q r lt)

moved_split : (n : ℕ) (ns : List ℕ) (x a r : ℕ) → x ≡ a * product ns + r → r < product ns → moved (n ∷ ns) x ≡ one_if (nat_eq r 0 && nat_lt 1 n) + moved ns r
moved_split n ns x a r e lt =
    let q = product ns in
    ap (λ y. one_if (nat_eq (y % q) 0 && nat_lt 1 n) + moved ns (y % q)) e
    ∙ ap (λ y. one_if (nat_eq y 0 && nat_lt 1 n) + moved ns y) (mod-mul-add a q r lt)

some_below : (n q p : ℕ) → p < n * q → 0 < q
some_below n q p h = grind arith

differing_last : (ns : List ℕ) (r : ℕ) → suc r ≡ product ns → differing (index_at ns r) (index_at ns 0) ≡ moved ns 0
differing_last [] r e = refl
differing_last (zero ∷ ns) r e = absurd (omega (arith, e))
differing_last (suc n ∷ ns) r e =
    let q = product ns in
    let some : 0 < q = some_below (suc n) q r (omega (arith, e)) in
    let whole : suc (q - 1) ≡ q = omega (arith, some) in
    let here : r ≡ n * q + (q - 1) = omega (arith, e, some) in
    let first : 0 ≡ 0 * q + 0 = omega arith in
    ap₂ differing (index_split (suc n) ns r n (q - 1) here (omega (arith, some))) (index_split (suc n) ns 0 0 0 first some)
    ∙ ap₂ (λ x y. x + y) (same n) (differing_last ns (q - 1) whole)
    ∙ sym (moved_split (suc n) ns 0 0 0 first some)
  where
    same : (n : ℕ) → one_unless (nat_eq n 0) ≡ one_if (nat_eq 0 0 && nat_lt 1 (suc n))
    same n = grind (arith, nat_tests)

differing_next : (ns : List ℕ) (p : ℕ) → suc p < product ns → differing (index_at ns p) (index_at ns (suc p)) ≡ moved ns (suc p)
differing_next [] p h = absurd (omega (arith, h))
differing_next (n ∷ ns) p h =
    let q = product ns in
    let some : 0 < q = some_below n q (suc p) h in
    let split : p ≡ p / q * q + p % q = sym (div-add-mod' p q) in
    let below : p % q < q = mod_below p q some in
    ⊎_elim
    (λ lt.
    let next : suc p ≡ p / q * q + suc (p % q) = omega (arith, split) in
    ap₂ differing (index_split n ns p (p / q) (p % q) split below) (index_split n ns (suc p) (p / q) (suc (p % q)) next lt)
    ∙ ap₂ (λ x y. x + y) (kept (p / q) (p % q) n) (differing_next ns (p % q) lt)
    ∙ sym (moved_split n ns (suc p) (p / q) (suc (p % q)) next lt))
    (λ le.
    let last : suc (p % q) ≡ q = omega (arith, le, below) in
    let next : suc p ≡ (p / q + 1) * q + 0 = omega (arith, split, last) in
    let inside : p / q + 1 < n = omega (arith, div_below (suc p) q n some h, ap (λ y. y / q) next ∙ div-mul-add (p / q + 1) q 0 some) in
    ap₂ differing (index_split n ns p (p / q) (p % q) split below) (index_split n ns (suc p) (p / q + 1) 0 next some)
    ∙ ap₂ (λ x y. x + y) (changed (p / q) n inside) (differing_last ns (p % q) last)
    ∙ sym (moved_split n ns (suc p) (p / q + 1) 0 next some))
    (cases_lt (suc (p % q)) q)
  where
    kept : (a r n : ℕ) → one_unless (nat_eq a a) ≡ one_if (nat_eq (suc r) 0 && nat_lt 1 n)
    kept a r n = grind (arith, nat_tests)

    changed : (a n : ℕ) → a + 1 < n → one_unless (nat_eq a (a + 1)) ≡ one_if (nat_eq 0 0 && nat_lt 1 n)
    changed a n lt = grind (arith, nat_tests)

abbrev lines_unless : Bool → ℕ → List ℕ
lines_unless b d = if b then [] else replicate d 10

-- the empty lines before plane q of those from place p on
abbrev pub lines_before : List ℕ → ℕ → ℕ → List ℕ
lines_before ns p q = if nat_eq (p + q) 0 then [] else replicate (moved ns q) 10

pub empty_is : (outer : List ℕ) (q : ℕ) → q < product outer → empty_lines outer q ≡ lines_before outer 0 q
empty_is outer zero h = refl
empty_is outer (suc q) h =
    let later : false ≡ nat_eq (0 + suc q) 0 = grind (arith, nat_tests) in
    ap (λ d. replicate d 10) (differing_next outer q h) ∙ ap (λ b. lines_unless b (moved outer (suc q))) later

-- ---- The planes

abbrev pub outer_of : List ℕ → List ℕ
outer_of [] = []
outer_of (n ∷ []) = []
outer_of (m ∷ n ∷ []) = []
outer_of (l ∷ m ∷ n ∷ ns) = l ∷ outer_of (m ∷ n ∷ ns)

abbrev pub rows_in : List ℕ → ℕ
rows_in [] = 1
rows_in (n ∷ []) = 1
rows_in (m ∷ n ∷ []) = m
rows_in (l ∷ m ∷ n ∷ ns) = rows_in (m ∷ n ∷ ns)

abbrev pub columns_in : List ℕ → ℕ
columns_in [] = 1
columns_in (n ∷ []) = n
columns_in (m ∷ n ∷ []) = n
columns_in (l ∷ m ∷ n ∷ ns) = columns_in (m ∷ n ∷ ns)

pub product_split : (ns : List ℕ) → 2 ≤ length ns → product ns ≡ product (outer_of ns) * (rows_in ns * columns_in ns)
product_split [] h = absurd (omega (arith, h))
product_split (n ∷ []) h = absurd (omega (arith, h))
product_split (m ∷ n ∷ []) h = omega arith
product_split (l ∷ m ∷ n ∷ ns) h = let e = product_split (m ∷ n ∷ ns) (omega arith) in ap (λ p. l * p) e ∙ grouped l (product (outer_of (m ∷ n ∷ ns))) (rows_in (m ∷ n ∷ ns) * columns_in (m ∷ n ∷ ns))
  where
    grouped : (a b c : ℕ) → a * (b * c) ≡ a * b * c
    grouped a b c = omega arith

pub plane_same : (k : Kind) (ws : ℕ → ℕ) (f g : ℕ → ℤ) (m n : ℕ) → ((x : ℕ) → f x ≡ g x) → plane_bytes k ws f m n ≡ plane_bytes k ws g m n
plane_same k ws f g m n h = joined_same (λ i. row_bytes k ws (λ j. f (i * n + j)) n ++ 10 ∷ []) (λ i. row_bytes k ws (λ j. g (i * n + j)) n ++ 10 ∷ []) m (λ i. ap (λ l. l ++ 10 ∷ []) (row_same k ws (λ j. f (i * n + j)) (λ j. g (i * n + j)) n (λ j. h (i * n + j))))

later_lines : (ns : List ℕ) (p q : ℕ) → 0 < p + q → lines_before ns p q ≡ replicate (moved ns q) 10
later_lines ns p q lt = let e : nat_eq (p + q) 0 ≡ false = grind (arith, nat_tests) in ap (λ b. lines_unless b (moved ns q)) e

no_lines : (ns : List ℕ) (p q : ℕ) → p + q ≡ 0 → lines_before ns p q ≡ []
no_lines ns p q is = let e : nat_eq (p + q) 0 ≡ true = grind (arith, nat_tests) in ap (λ b. lines_unless b (moved ns q)) e

some_line : (l p : ℕ) → 0 < p → empty_line l p ≡ line_if (nat_lt 1 l)
some_line l p lt = let e : nat_lt 0 p ≡ true = grind (arith, nat_tests) in ap (λ b. line_if (b && nat_lt 1 l)) e

no_line : (l p : ℕ) → p ≡ 0 → empty_line l p ≡ []
no_line l p is = let e : nat_lt 0 p ≡ false = grind (arith, nat_tests) in ap (λ b. line_if (b && nat_lt 1 l)) e

-- a product is 0 only with its first factor
positive : (p n s : ℕ) → 0 < p + n * s → 0 < p + n
positive p zero s lt = omega (arith, lt)
positive p (suc n) s lt = omega arith

nothing : (p n s : ℕ) → 0 < s → p + n * s ≤ 0 → p + n ≡ 0
nothing p zero s some le = omega (arith, le)
nothing p (suc n) s some le = absurd (omega (arith, some, le))

one_more : (b : Bool) (d : ℕ) → line_if b ++ replicate d 10 ≡ replicate (one_if b + d) 10
one_more true d = let e : suc d ≡ 1 + d = omega arith in ap (λ m. replicate m 10) e
one_more false d = let e : d ≡ 0 + d = omega arith in ap (λ m. replicate m 10) e

-- what stands before the planes of turn i, and the empty lines before its plane q
before_turn : (l : ℕ) (os : List ℕ) (s p i q : ℕ) → 0 < s → q < product os → at_first (empty_line l (p + i * product os * s)) q ++ lines_before os (p + i * product os * s) q ≡ lines_before (l ∷ os) p (i * product os + q)
before_turn l os s p i zero some lt =
    let n = i * product os in
    let split = moved_split l os (n + 0) i 0 refl lt in
    ⊎_elim
    (λ more.
    let further : 0 < p + (n + 0) = omega (arith, positive p n s more) in
    let here : 0 < p + n * s + 0 = omega (arith, more) in
    ap₂ (λ x y. x ++ y) (some_line l (p + n * s) more) (later_lines os (p + n * s) 0 here)
    ∙ one_more (nat_lt 1 l) (moved os 0)
    ∙ ap (λ d. replicate d 10) (sym split)
    ∙ sym (later_lines (l ∷ os) p (n + 0) further))
    (λ le.
    let none = nothing p n s some le in
    let at_zero : p + n * s ≡ 0 = omega (arith, le) in
    let here : p + n * s + 0 ≡ 0 = omega (arith, le) in
    let far : p + (n + 0) ≡ 0 = omega (arith, none) in
    ap₂ (λ x y. x ++ y) (no_line l (p + n * s) at_zero) (no_lines os (p + n * s) 0 here) ∙ sym (no_lines (l ∷ os) p (n + 0) far))
    (cases_lt 0 (p + n * s))
before_turn l os s p i (suc q) some lt =
    let n = i * product os in
    let here : 0 < p + n * s + suc q = omega arith in
    let further : 0 < p + (n + suc q) = omega arith in
    let split = moved_split l os (n + suc q) i (suc q) refl lt in
    later_lines os (p + n * s) (suc q) here ∙ ap (λ d. replicate d 10) (same (moved os (suc q)) ∙ sym split) ∙ sym (later_lines (l ∷ os) p (n + suc q) further)
  where
    same : (d : ℕ) → d ≡ one_if (nat_eq (suc q) 0 && nat_lt 1 l) + d
    same d = let e : nat_eq (suc q) 0 ≡ false = grind (arith, nat_tests) in let z : d ≡ 0 + d = omega arith in z ∙ ap (λ b. one_if (b && nat_lt 1 l) + d) (sym e)

pub some_factor : (a b : ℕ) → 0 < a * b → (0 < a) × (0 < b)
some_factor zero b lt = absurd (omega (arith, lt))
some_factor (suc a) zero lt = absurd (omega (arith, lt))
some_factor (suc a) (suc b) lt = (omega arith, omega arith)

module _ (k : Kind) (ws : ℕ → ℕ) (item : ℕ → ℤ) where
  -- plane q of those from place p on
  abbrev pub plane_at : List ℕ → ℕ → ℕ → List ℕ
  plane_at ns p q = plane_bytes k ws (λ x. item (p + q * (rows_in ns * columns_in ns) + x)) (rows_in ns) (columns_in ns)

  abbrev pub piece : List ℕ → ℕ → ℕ → List ℕ
  piece ns p q = lines_before (outer_of ns) p q ++ plane_at ns p q

  -- the nest is its planes, each behind its empty lines
  pub nest_is : (ns : List ℕ) (p : ℕ) → 2 ≤ length ns → 0 < product ns → nest_bytes k ws item ns p ≡ joined (piece ns p) (product (outer_of ns))
  nest_is [] p h some = absurd (omega (arith, h))
  nest_is (n ∷ []) p h some = absurd (omega (arith, h))
  nest_is (m ∷ n ∷ []) p h some = sym (ap (λ l. l ++ plane_at (m ∷ n ∷ []) p 0) (none (nat_eq (p + 0) 0)) ∙ plane_same k ws (λ x. item (p + 0 * (m * n) + x)) (λ x. item (p + x)) m n (λ x. ap item (start x)))
    where
      none : (b : Bool) → lines_unless b (moved [] 0) ≡ []
      none true = refl
      none false = refl

      start : (x : ℕ) → p + 0 * (m * n) + x ≡ p + x
      start x = omega arith
  nest_is (l ∷ m ∷ n ∷ ns) p h some =
      let rest = m ∷ n ∷ ns in
      let os = outer_of rest in
      let inner = product os in
      let size = rows_in rest * columns_in rest in
      let all = product_split rest (omega arith) in
      let left = (some_factor l (product rest) some).1 in
      let left_split : 0 < inner * size = omega (arith, left, all) in
      let planes = (some_factor inner size left_split).0 in
      let cells = (some_factor inner size left_split).1 in
      joined_below (λ i. empty_line l (p + i * product rest) ++ nest_bytes k ws item rest (p + i * product rest)) (λ i. joined (λ q. piece (l ∷ rest) p (i * inner + q)) inner) l
      (λ i li.
      let first : p + i * product rest ≡ p + i * inner * size = ap (λ w. p + i * w) all ∙ ap (λ w. p + w) (grouped i inner size) in
      ap (λ w. empty_line l w ++ nest_bytes k ws item rest w) first
      ∙ ap (λ x. empty_line l (p + i * inner * size) ++ x) (nest_is (m ∷ n ∷ ns) (p + i * inner * size) (omega arith) left)
      ∙ sym (joined_with_first (empty_line l (p + i * inner * size)) (piece rest (p + i * inner * size)) inner planes)
      ∙ joined_below (λ q. at_first (empty_line l (p + i * inner * size)) q ++ piece rest (p + i * inner * size) q) (λ q. piece (l ∷ rest) p (i * inner + q)) inner
      (λ q lq.
      sym (append_assoc (at_first (empty_line l (p + i * inner * size)) q) (lines_before os (p + i * inner * size) q) (plane_at rest (p + i * inner * size) q))
      ∙ ap₂ (λ x y. x ++ y) (before_turn l os size p i q cells lq)
      (plane_same k ws (λ x. item (p + i * inner * size + q * size + x)) (λ x. item (p + (i * inner + q) * size + x)) (rows_in rest) (columns_in rest) (λ x. ap item (place i inner q size x)))))
      ∙ sym (joined_rows (piece (l ∷ rest) p) inner l)
    where
      grouped : (a b c : ℕ) → a * (b * c) ≡ a * b * c
      grouped a b c = omega arith

      place : (i a q s x : ℕ) → p + i * a * s + q * s + x ≡ p + (i * a + q) * s + x
      place i a q s x = omega arith

-- Lists without repetitions: what is among them, and how long they are.
use Rattle.std.proofs.Common.{◌≡◌, ◌∙◌, sym, ap, subst, refl, ℕ, ◌+◌, ◌<◌, ◌≤◌, List, [], ◌∷◌, ◌++◌, length, length-append, Bool, true, false, cond, nat_eq, nat_lt, ◌||◌, ◌&&◌, ◌⊎◌, inl, inr, ⊎_elim, arith}
use Rattle.std.specs.Cmp.{nat_eq_equiv}
use Rattle.std.specs.List.{IsDistinct, list_any}
use Rattle.std.proofs.lemmas.Bool.Decides.{nat_tests}
use Rattle.std.proofs.lemmas.Map.Keys.{IsDistinct-push, IsDistinct-from_apart}
use Rattle.std.proofs.lemmas.Map.Steps.{length-le_from_distinct_below}
use Rattle.aplc_names.specs.States.{is_among}
use Rattle.aplc_gen.specs.Laid.{are_among}
use Rattle.aplc_gen.specs.Made.{with_new, with_each, are_below}
use Rattle.aplc_gen.proofs.Landing.{or_left, or_right, or_cases, eq_of}
use Rattle.aplc_gen.proofs.Knowing.{Among}
use Rattle.aplc_gen.proofs.Frames.{and_left, and_right}

pub itself : (n : ℕ) → nat_eq n n ≡ true
itself n = grind (arith, nat_tests)

-- ---- What is among them

pub among_left : (m : ℕ) (xs ys : List ℕ) → is_among m xs ≡ true → is_among m (xs ++ ys) ≡ true
among_left m [] ys h = absurd (cc)
among_left m (x ∷ xs) ys h =
    ⊎_elim (λ a. or_left (nat_eq m x) (is_among m (xs ++ ys)) a) (λ a. or_right (nat_eq m x) (is_among m (xs ++ ys)) (among_left m xs ys a)) (or_cases (nat_eq m x) (is_among m xs) h)

pub among_right : (m : ℕ) (xs ys : List ℕ) → is_among m ys ≡ true → is_among m (xs ++ ys) ≡ true
among_right m [] ys h = h
among_right m (x ∷ xs) ys h = or_right (nat_eq m x) (is_among m (xs ++ ys)) (among_right m xs ys h)

pub among_either : (m : ℕ) (xs ys : List ℕ) → is_among m (xs ++ ys) ≡ true → (is_among m xs ≡ true) ⊎ (is_among m ys ≡ true)
among_either m [] ys h = inr h
among_either m (x ∷ xs) ys h =
    ⊎_elim (λ a. inl (or_left (nat_eq m x) (is_among m xs) a))
    (λ a. ⊎_elim (λ b. inl (or_right (nat_eq m x) (is_among m xs) b)) (λ b. inr b) (among_either m xs ys a))
    (or_cases (nat_eq m x) (is_among m (xs ++ ys)) h)

pub among_self : (n : ℕ) (ns : List ℕ) → is_among n (n ∷ ns) ≡ true
among_self n ns = or_left (nat_eq n n) (is_among n ns) (itself n)

pub new_there : (n : ℕ) (ns : List ℕ) → is_among n (with_new n ns) ≡ true
new_there n ns = by (is_among n ns) refl
  where
    by : (b : Bool) → is_among n ns ≡ b → is_among n (cond b ns (ns ++ n ∷ [])) ≡ true
    by true e = e
    by false e = among_right n ns (n ∷ []) (among_self n [])

pub new_more : (n : ℕ) (ns : List ℕ) → Among ns (with_new n ns)
new_more n ns m h = by (is_among n ns)
  where
    by : (b : Bool) → is_among m (cond b ns (ns ++ n ∷ [])) ≡ true
    by true = h
    by false = among_left m ns (n ∷ []) h

-- no other is there
pub new_less : (n : ℕ) (ns : List ℕ) (m : ℕ) → is_among m (with_new n ns) ≡ true → (m ≡ n) ⊎ (is_among m ns ≡ true)
new_less n ns m = by (is_among n ns)
  where
    last : (is_among m ns ≡ true) ⊎ (is_among m (n ∷ []) ≡ true) → (m ≡ n) ⊎ (is_among m ns ≡ true)
    last (inl h) = inr h
    last (inr h) = ⊎_elim (λ a. inl (eq_of m n a)) (λ a. absurd (cc)) (or_cases (nat_eq m n) false h)

    by : (b : Bool) → is_among m (cond b ns (ns ++ n ∷ [])) ≡ true → (m ≡ n) ⊎ (is_among m ns ≡ true)
    by true h = inr h
    by false h = last (among_either m ns (n ∷ []) h)

pub each_more : (ns ms : List ℕ) → Among ns (with_each ns ms)
each_more ns [] n h = h
each_more ns (m ∷ ms) n h = each_more (with_new m ns) ms n (new_more m ns n h)

pub each_there : (ns ms : List ℕ) → Among ms (with_each ns ms)
each_there ns [] n h = absurd (cc)
each_there ns (m ∷ ms) n h =
    ⊎_elim (λ a. each_more (with_new m ns) ms n (subst (λ k. is_among k (with_new m ns) ≡ true) (sym (eq_of n m a)) (new_there m ns)))
    (λ a. each_there (with_new m ns) ms n a)
    (or_cases (nat_eq n m) (is_among n ms) h)

pub each_less : (ns ms : List ℕ) (n : ℕ) → is_among n (with_each ns ms) ≡ true → (is_among n ns ≡ true) ⊎ (is_among n ms ≡ true)
each_less ns [] n h = inl h
each_less ns (m ∷ ms) n h = later (each_less (with_new m ns) ms n h)
  where
    first : (n ≡ m) ⊎ (is_among n ns ≡ true) → (is_among n ns ≡ true) ⊎ (is_among n (m ∷ ms) ≡ true)
    first (inl e) = inr (subst (λ k. is_among k (m ∷ ms) ≡ true) (sym e) (among_self m ms))
    first (inr a) = inl a

    later : (is_among n (with_new m ns) ≡ true) ⊎ (is_among n ms ≡ true) → (is_among n ns ≡ true) ⊎ (is_among n (m ∷ ms) ≡ true)
    later (inl a) = first (new_less m ns n a)
    later (inr a) = inr (or_right (nat_eq n m) (is_among n ms) a)

pub all_among : (xs ys : List ℕ) → Among xs ys → are_among xs ys ≡ true
all_among [] ys h = refl
all_among (x ∷ xs) ys h =
    both (is_among x ys) (are_among xs ys) (h x (among_self x xs)) (all_among xs ys (λ n a. h n (or_right (nat_eq n x) (is_among n xs) a)))
  where
    both : (a b : Bool) → a ≡ true → b ≡ true → (a && b) ≡ true
    both true b e h = h
    both false b e h = absurd (cc)

-- ---- How long they are

new_length : (n : ℕ) (ns : List ℕ) → length (with_new n ns) ≤ length ns + 1
new_length n ns = by (is_among n ns)
  where
    by : (b : Bool) → length (cond b ns (ns ++ n ∷ [])) ≤ length ns + 1
    by true = omega arith
    by false = let e = length-append ns (n ∷ []) in omega (arith, e)

pub each_length : (ns ms : List ℕ) → length (with_each ns ms) ≤ length ns + length ms
each_length ns [] = omega arith
each_length ns (m ∷ ms) = let a = each_length (with_new m ns) ms in let b = new_length m ns in omega (arith, a, b)

any_among : (n : ℕ) (ns : List ℕ) → list_any (nat_eq n) ns ≡ is_among n ns
any_among n [] = refl
any_among n (m ∷ ms) = ap (λ b. nat_eq n m || b) (any_among n ms)

-- each once
abbrev pub Once : List ℕ → Type 0
Once ns = IsDistinct nat_eq ns

abbrev pub Below : ℕ → List ℕ → Type 0
Below k ns = (n : ℕ) → is_among n ns ≡ true → n < k

pub no_names_once : Once []
no_names_once = IsDistinct-from_apart nat_eq [] (λ i j d a b. absurd (omega (arith, b)))

pub few_below : (k : ℕ) (ns : List ℕ) → Once ns → Below k ns → length ns ≤ k
few_below k ns d h = length-le_from_distinct_below ns k d (λ q a. h q (sym (any_among q ns) ∙ a))

pub new_once : (n : ℕ) (ns : List ℕ) → Once ns → Once (with_new n ns)
new_once n ns d = by (is_among n ns) refl
  where
    by : (b : Bool) → is_among n ns ≡ b → Once (cond b ns (ns ++ n ∷ []))
    by true e = d
    by false e = IsDistinct-push nat_eq_equiv ns n d (any_among n ns ∙ e)

pub each_once : (ns ms : List ℕ) → Once ns → Once (with_each ns ms)
each_once ns [] d = d
each_once ns (m ∷ ms) d = each_once (with_new m ns) ms (new_once m ns d)

pub new_below : (k n : ℕ) (ns : List ℕ) → n < k → Below k ns → Below k (with_new n ns)
new_below k n ns lt h m a = ⊎_elim (λ e. subst (λ i. i < k) (sym e) lt) (λ b. h m b) (new_less n ns m a)

pub all_below : (ns : List ℕ) → are_below ns ≡ true → Below 262144 ns
all_below [] h n a = absurd (cc)
all_below (m ∷ ms) h n a =
    ⊎_elim (λ e. subst (λ i. i < 262144) (sym (eq_of n m e)) (less m (and_left (nat_lt m 262144) (are_below ms) h)))
    (λ b. all_below ms (and_right (nat_lt m 262144) (are_below ms) h) n b)
    (or_cases (nat_eq n m) (is_among n ms) a)
  where
    less : (i : ℕ) → nat_lt i 262144 ≡ true → i < 262144
    less i e = grind (arith, nat_tests, e)

-- names of a header, each once, are no more than a text may have
pub each_few : (ms : List ℕ) → are_below ms ≡ true → length (with_each [] ms) ≤ 262144
each_few ms h =
    few_below 262144 (with_each [] ms) (each_once [] ms no_names_once) (λ n a. ⊎_elim (λ b. absurd (cc)) (λ b. all_below ms h n b) (each_less [] ms n a))

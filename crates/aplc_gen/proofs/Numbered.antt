-- Lists of names: where each stands, and which are among them.
use Rattle.std.proofs.Common.{◌≡◌, ◌∙◌, sym, ap, subst, refl, append_assoc, append-nil, ℕ, zero, suc, ◌+◌, ◌-◌, ◌≤◌, ◌<◌, List, [], ◌∷◌, ◌++◌, length, take, drop, get_or, slice_get, Option, Some, None, Bool, true, false, cond, nat_eq, nat_lt, if◌then◌else◌, ◌||◌, arith, position}
use Rattle.std.specs.List.{position_or_len, list_any, IsDistinct, AllByRecursion, filter}
use Rattle.std.specs.Option.{option_to_list}
use Rattle.std.specs.Prelude.{reverse}
use Rattle.std.proofs.lemmas.List.{reverse-append}
use Rattle.std.proofs.lemmas.Bool.Decides.{nat_tests}
use Rattle.std.proofs.lemmas.List.Recursion.{is_position_or_len}
use Rattle.std.proofs.lemmas.Bool.{eqb-true}
use Rattle.std.proofs.lemmas.Map.Keys.{IsDistinct-head, IsDistinct-tail, IsDistinct-cons}
use Rattle.indexmap.specs.IndexSet.{insert_key}
use Rattle.aplc_names.specs.States.{is_among}
use Rattle.aplc_gen.specs.Layouts.{place_in}
use Rattle.aplc_gen.specs.Made.{with_new, with_each}
use Rattle.aplc_gen.specs.Writing.{IsSetOf}

turned : (m n : ℕ) → nat_eq m n ≡ nat_eq n m
turned m n = grind (arith, nat_tests)

one_more : (b : Bool) (k : ℕ) → (if b then 0 else suc k) ≡ cond b 0 (1 + k)
one_more true k = refl
one_more false k = omega arith

place_more : (n m : ℕ) (ns : List ℕ) → place_in (m ∷ ns) n ≡ cond (nat_eq n m) 0 (1 + place_in ns n)
place_more n m ns = ap (λ b. if b then 0 else suc (place_in ns n)) (turned m n) ∙ one_more (nat_eq n m) (place_in ns n)

first_place : (n : ℕ) (ns : List ℕ) → place_in ns n ≡ position_or_len (nat_eq n) ns
first_place n ns = is_position_or_len (λ xs. place_in xs n) (nat_eq n) refl (place_more n) ns

most_if : (b : Bool) (k n : ℕ) → k ≤ n → (if b then 0 else suc k) ≤ suc n
most_if true k n h = omega arith
most_if false k n h = omega arith

pub place_most : (n : ℕ) (ns : List ℕ) → place_in ns n ≤ length ns
place_most n [] = omega arith
place_most n (m ∷ ns) = most_if (nat_eq m n) (place_in ns n) (length ns) (place_most n ns)

some_is : (b : Bool) (k j : ℕ) → cond b (Some k) None ≡ Some j → j ≡ k
some_is true k j e = cc
some_is false k j e = cc

none_is : (b : Bool) (k : ℕ) → cond b (Some k) None ≡ None → b ≡ false
none_is true k e = cc
none_is false k e = refl

equal_of : (k n : ℕ) → nat_lt k n ≡ false → k ≤ n → n ≡ k
equal_of k n e h = grind (arith, nat_tests)

pub some_place : (n : ℕ) (ns : List ℕ) (o : Option ℕ) (k : ℕ) → o ≡ position (nat_eq n) ns → o ≡ Some k → k ≡ place_in ns n
some_place n ns o k e f = some_is (nat_lt (position_or_len (nat_eq n) ns) (length ns)) (position_or_len (nat_eq n) ns) k (sym e ∙ f) ∙ sym (first_place n ns)

pub none_place : (n : ℕ) (ns : List ℕ) (o : Option ℕ) → o ≡ position (nat_eq n) ns → o ≡ None → length ns ≡ place_in ns n
none_place n ns o e f =
    let beyond : nat_lt (position_or_len (nat_eq n) ns) (length ns) ≡ false = none_is (nat_lt (position_or_len (nat_eq n) ns) (length ns)) (position_or_len (nat_eq n) ns) (sym e ∙ f) in
    equal_of (place_in ns n) (length ns) (ap (λ k. nat_lt k (length ns)) (first_place n ns) ∙ beyond) (place_most n ns)

pub ruleset numbered = (some_place, none_place)

-- ---- Which are there

pub has_name : (n : ℕ) (ns : List ℕ) → list_any (nat_eq n) ns ≡ is_among n ns
has_name n [] = refl
has_name n (m ∷ ns) = ap (λ b. nat_eq n m || b) (has_name n ns)

pub known_has : (n : ℕ) (xs ys : List ℕ) → IsSetOf xs ys → list_any (nat_eq n) xs ≡ is_among n ys
known_has n xs ys h = has_name n xs ∙ h n

pub reverse_one : (xs : List ℕ) (n : ℕ) → reverse (xs ++ n ∷ []) ≡ n ∷ reverse xs
reverse_one xs n = reverse-append xs (n ∷ [])

pub ruleset known_names = (known_has, reverse_one)

or_swap : (a b c : Bool) → (a || (b || c)) ≡ (b || (a || c))
or_swap true true c = refl
or_swap true false c = refl
or_swap false true c = refl
or_swap false false c = refl

among_more : (n m : ℕ) (ks : List ℕ) → is_among n (ks ++ m ∷ []) ≡ (nat_eq n m || is_among n ks)
among_more n m [] = refl
among_more n m (k ∷ ks) = ap (λ b. nat_eq n k || b) (among_more n m ks) ∙ or_swap (nat_eq n k) (nat_eq n m) (is_among n ks)

among_there : (n m : ℕ) (ks : List ℕ) (b : Bool) → nat_eq n m ≡ b → is_among m ks ≡ true → (b || is_among n ks) ≡ is_among n ks
among_there n m ks false e h = refl
among_there n m ks true e h = sym (ap (λ k. is_among k ks) (eqb-true n m e) ∙ h)

inserted : (n m : ℕ) (ks : List ℕ) (b : Bool) → list_any (nat_eq m) ks ≡ b → is_among n (if b then ks else ks ++ m ∷ []) ≡ (nat_eq n m || is_among n ks)
inserted n m ks true e = sym (among_there n m ks (nat_eq n m) refl (sym (has_name m ks) ∙ e))
inserted n m ks false e = among_more n m ks

-- one name more
pub known_added : (keys keys' order order' : List ℕ) (m : ℕ) → IsSetOf keys (reverse order) → keys' ≡ insert_key nat_eq keys m → order' ≡ order ++ m ∷ [] → IsSetOf keys' (reverse order')
known_added keys keys' order order' m h e f n =
    ap (is_among n) e ∙ inserted n m keys (list_any (nat_eq m) keys) refl ∙ ap (λ b. nat_eq n m || b) (h n)
    ∙ sym (ap (λ xs. is_among n (reverse xs)) f ∙ ap (is_among n) (reverse_one order m))

-- ---- Names from the last to the first

drop_one : (i : ℕ) (xs : List ℕ) (o : Option ℕ) → i < length xs → o ≡ slice_get xs i → drop i xs ≡ option_to_list o ++ drop (suc i) xs
drop_one i [] o lt e = absurd (omega (arith, lt))
drop_one zero (x ∷ xs) o lt e = ap (λ y. option_to_list y ++ xs) (sym e)
drop_one (suc i) (x ∷ xs) o lt e = drop_one i xs o (omega (arith, lt)) e

pub names_more : (xs ks new : List ℕ) (behind : ℕ) (o : Option ℕ) → behind < length xs → o ≡ slice_get xs (length xs - 1 - behind) → ks ≡ drop (length xs - behind) xs → new ≡ option_to_list o ++ ks → new ≡ drop (length xs - (behind + 1)) xs
names_more xs ks new behind o lt e h f =
    let i = length xs - 1 - behind in
    let next : length xs - behind ≡ suc i = omega (arith, lt) in
    let same : i ≡ length xs - (behind + 1) = omega (arith, lt) in
    f ∙ ap (λ ys. option_to_list o ++ ys) (h ∙ ap (λ k. drop k xs) next) ∙ sym (drop_one i xs o (omega (arith, lt)) e) ∙ ap (λ k. drop k xs) same

drop_length : (xs : List ℕ) → drop (length xs) xs ≡ []
drop_length [] = refl
drop_length (x ∷ xs) = drop_length xs

pub names_none : (xs ks : List ℕ) → ks ≡ [] → ks ≡ drop (length xs - 0) xs
names_none xs ks e = let z : length xs - 0 ≡ length xs = omega arith in e ∙ sym (ap (λ k. drop k xs) z ∙ drop_length xs)

pub names_all : (xs ks : List ℕ) (n : ℕ) → n ≡ length xs → ks ≡ drop (length xs - n) xs → ks ≡ xs
names_all xs ks n e h = let z : length xs - n ≡ 0 = omega (arith, e) in h ∙ ap (λ k. drop k xs) z

pub ruleset names_left = (names_more, names_none, names_all)

-- ---- Numbers, each once

pub with_name : (n : ℕ) (ks new : List ℕ) → new ≡ insert_key nat_eq ks n → new ≡ with_new n ks
with_name n ks new e = e ∙ ap (λ b. if b then ks else ks ++ n ∷ []) (has_name n ks)

out : (x m : ℕ) (xs ms : List ℕ) → AllByRecursion (λ y. nat_eq x y ≡ false) (xs ++ m ∷ ms) → nat_eq x m ≡ false
out x m [] ms h = h.0
out x m (k ∷ xs) ms h = out x m xs ms h.1

neither : (a b : Bool) → a ≡ false → b ≡ false → (a || b) ≡ false
neither true b e h = e
neither false b e h = h

apart : (m : ℕ) (xs ms : List ℕ) → IsDistinct nat_eq (xs ++ m ∷ ms) → is_among m xs ≡ false
apart m [] ms d = refl
apart m (x ∷ xs) ms d =
    neither (nat_eq m x) (is_among m xs) (turned m x ∙ out x m xs ms (IsDistinct-head nat_eq x (xs ++ m ∷ ms) d)) (apart m xs ms (IsDistinct-tail nat_eq x (xs ++ m ∷ ms) d))

-- numbers that stand once are kept
each_kept : (xs ys : List ℕ) → IsDistinct nat_eq (xs ++ ys) → with_each xs ys ≡ xs ++ ys
each_kept xs [] d = sym (append-nil xs)
each_kept xs (m ∷ ms) d =
    let same = append_assoc xs (m ∷ []) ms in
    ap (λ b. with_each (if b then xs else xs ++ m ∷ []) ms) (apart m xs ms d)
    ∙ each_kept (xs ++ m ∷ []) ms (subst (IsDistinct nat_eq) (sym same) d) ∙ same

pub copied : (ns start new : List ℕ) → IsDistinct nat_eq ns → start ≡ [] → new ≡ with_each start ns → new ≡ ns
copied ns start new d s e = e ∙ ap (λ xs. with_each xs ns) s ∙ each_kept [] ns d

-- ---- Names that are known

-- all of them, one by one
pub reverse_left : (xs ks new whole : List ℕ) (m : ℕ) (rest : List ℕ) → xs ≡ m ∷ rest → new ≡ m ∷ ks → reverse xs ++ ks ≡ whole → reverse rest ++ new ≡ whole
reverse_left xs ks new whole m rest e f h =
    ap (λ ys. reverse rest ++ ys) f ∙ sym (append_assoc (reverse rest) (m ∷ []) ks) ∙ sym (ap (λ ys. ys ++ ks) (ap reverse e ∙ reverse-append (m ∷ []) rest)) ∙ h

pub copied_all : (xs none new : List ℕ) → none ≡ [] → new ≡ reverse xs ++ none → new ≡ reverse xs
copied_all xs none new e f = f ∙ ap (λ ys. reverse xs ++ ys) e ∙ append-nil (reverse xs)

-- each once, from the last to the first
take_all : (xs : List ℕ) → take (length xs) xs ≡ xs
take_all [] = refl
take_all (x ∷ xs) = ap (λ ys. x ∷ ys) (take_all xs)

pub once_all : (xs ns : List ℕ) → ns ≡ [] → with_each ns (reverse (take (length xs) xs)) ≡ with_each [] (reverse xs)
once_all xs ns e = ap (λ ks. with_each ks (reverse (take (length xs) xs))) e ∙ ap (λ ys. with_each [] (reverse ys)) (take_all xs)

take_more : (xs : List ℕ) (i d : ℕ) → i < length xs → take (suc i) xs ≡ take i xs ++ get_or xs i d ∷ []
take_more [] i d lt = absurd (omega (arith, lt))
take_more (x ∷ xs) zero d lt = refl
take_more (x ∷ xs) (suc i) d lt = ap (λ ys. x ∷ ys) (take_more xs i d (omega (arith, lt)))

pub once_more : (xs ns new whole : List ℕ) (i d : ℕ) → 0 < i → i ≤ length xs → new ≡ with_new (get_or xs (i - 1) d) ns → with_each ns (reverse (take i xs)) ≡ whole → with_each new (reverse (take (i - 1) xs)) ≡ whole
once_more xs ns new whole i d some lt e h =
    let next : i ≡ suc (i - 1) = omega (arith, some) in
    ap (λ ks. with_each ks (reverse (take (i - 1) xs))) e
    ∙ sym (ap (with_each ns) (ap reverse (ap (λ k. take k xs) next ∙ take_more xs (i - 1) d (omega (arith, some, lt))) ∙ reverse_one (take (i - 1) xs) (get_or xs (i - 1) d))) ∙ h

-- those that are known, one by one
pub kept_one : (test : ℕ → Bool) (xs ks new whole : List ℕ) (m : ℕ) (rest : List ℕ) → xs ≡ m ∷ rest → test m ≡ true → new ≡ with_new m ks → with_each ks (filter test xs) ≡ whole → with_each new (filter test rest) ≡ whole
kept_one test xs ks new whole m rest e t f h =
    ap (λ ys. with_each ys (filter test rest)) f ∙ sym (ap (λ b. with_each ks (cond b (m ∷ filter test rest) (filter test rest))) t) ∙ sym (ap (λ ys. with_each ks (filter test ys)) e) ∙ h

pub kept_none : (test : ℕ → Bool) (xs ks whole : List ℕ) (m : ℕ) (rest : List ℕ) → xs ≡ m ∷ rest → test m ≡ false → with_each ks (filter test xs) ≡ whole → with_each ks (filter test rest) ≡ whole
kept_none test xs ks whole m rest e t h =
    sym (ap (λ b. with_each ks (cond b (m ∷ filter test rest) (filter test rest))) t) ∙ sym (ap (λ ys. with_each ks (filter test ys)) e) ∙ h

apart_kept : (test : ℕ → Bool) (m : ℕ) (xs : List ℕ) → AllByRecursion (λ y. nat_eq m y ≡ false) xs → AllByRecursion (λ y. nat_eq m y ≡ false) (filter test xs)
apart_kept test m [] h = h
apart_kept test m (x ∷ xs) h = by (test x) (apart_kept test m xs h.1)
  where
    by : (b : Bool) → AllByRecursion (λ y. nat_eq m y ≡ false) (filter test xs) → AllByRecursion (λ y. nat_eq m y ≡ false) (cond b (x ∷ filter test xs) (filter test xs))
    by true r = (h.0, r)
    by false r = r

still_once : (test : ℕ → Bool) (xs : List ℕ) → IsDistinct nat_eq xs → IsDistinct nat_eq (filter test xs)
still_once test [] d = d
still_once test (x ∷ xs) d = by (test x) (still_once test xs (IsDistinct-tail nat_eq x xs d))
  where
    by : (b : Bool) → IsDistinct nat_eq (filter test xs) → IsDistinct nat_eq (cond b (x ∷ filter test xs) (filter test xs))
    by true r = IsDistinct-cons nat_eq x (filter test xs) (apart_kept test x xs (IsDistinct-head nat_eq x xs d)) r
    by false r = r

-- a test keeps numbers that stand once
pub kept_once : (test : ℕ → Bool) (ns none new : List ℕ) → IsDistinct nat_eq ns → none ≡ [] → new ≡ with_each none (filter test ns) → new ≡ filter test ns
kept_once test ns none new d e f = f ∙ ap (λ ks. with_each ks (filter test ns)) e ∙ each_kept [] (filter test ns) (still_once test ns d)

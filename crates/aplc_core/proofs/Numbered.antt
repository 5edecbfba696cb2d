-- Where each node of a statement has its own number, the line tells of its nodes what evaluation hands down.
use Rattle.std.proofs.Common.{◌≡◌, ◌∙◌, refl, ap, ℕ, ◌+◌, ◌≤◌, List, [], ◌∷◌, ◌++◌, Bool, true, false, nat_eq, cond, if◌then◌else◌, arith}
use Rattle.std.specs.Prelude.{◌||◌}
use Rattle.std.proofs.lemmas.Bool.{eq-eqb}
use Rattle.aplc_syntax.specs.PlainTrees.{Tree, Trees, Argument, absent, given, id_of, ids, trees_ids, argument_ids}
use Rattle.aplc_syntax.specs.PlainTrees as t
use Rattle.aplc_syntax.proofs.Own.{one_at, cnt, cnt_append}
use Rattle.aplc_names.specs.States.{is_among}
use Rattle.aplc_names.specs.Eager.{Use, passed, stored, displayed}
use Rattle.aplc_core.specs.CoreRuns.{Told, use_in}
use Rattle.aplc_core.proofs.Tells.{Tells, TellsAll, TellsGiven}
use Rattle.aplc_core.proofs.Marks.{Mark, assigning, storing, showing, list_in, at_assign, at_show, marks, marks_all, marks_given}

-- ---- Counts and places in lists

same_one : (q : ℕ) → one_at q q ≡ 1
unfolding one_at
same_one q = ap (λ b. cond b 1 0) (eq-eqb q q refl)

none_there : (q : ℕ) (xs : List ℕ) → cnt q xs ≡ 0 → is_among q xs ≡ false
unfolding one_at
none_there q [] h = refl
none_there q (x ∷ xs) h = by_test (nat_eq q x) h (none_there q xs)
  where
    by_test : (b : Bool) → cond b 1 0 + cnt q xs ≡ 0 → (cnt q xs ≡ 0 → is_among q xs ≡ false) → b || is_among q xs ≡ false
    by_test true e later = absurd (omega (arith, e))
    by_test false e later = later (omega (arith, e))

some_there : (q : ℕ) (xs : List ℕ) → 1 ≤ cnt q xs → is_among q xs ≡ true
unfolding one_at
some_there q [] h = absurd (omega (arith, h))
some_there q (x ∷ xs) h = by_test (nat_eq q x) h (some_there q xs)
  where
    by_test : (b : Bool) → 1 ≤ cond b 1 0 + cnt q xs → (1 ≤ cnt q xs → is_among q xs ≡ true) → b || is_among q xs ≡ true
    by_test true e later = refl
    by_test false e later = later (omega (arith, e))

-- ---- No node says more than once of a node

-- what the use of node i says of node q
abbrev pub of_use : Mark → Use → ℕ → ℕ → ℕ
of_use assigning u q i = 0
of_use storing stored q i = one_at q i
of_use storing passed q i = 0
of_use storing displayed q i = 0
of_use showing displayed q i = one_at q i
of_use showing passed q i = 0
of_use showing stored q i = 0

abbrev Few : ℕ → Tree → Type 0
Few q x = (marks assigning q x ≤ cnt q (ids x)) × (marks storing q x + marks showing q x + one_at q (id_of x) ≤ cnt q (ids x))

abbrev FewIn : ℕ → ℕ → ℕ → ℕ → Type 0
FewIn a s d n = (a ≤ n) × (s + d ≤ n)

abbrev FewAll : ℕ → Trees → Type 0
FewAll q xs = FewIn (marks_all assigning q xs) (marks_all storing q xs) (marks_all showing q xs) (cnt q (trees_ids xs))

abbrev FewGiven : ℕ → Argument → Type 0
FewGiven q a = FewIn (marks_given assigning q a) (marks_given storing q a) (marks_given showing q a) (cnt q (argument_ids a))

mutual
  few : (q : ℕ) (x : Tree) → Few q x
  few q (t.Numbers i p zs) = (omega arith, omega arith)
  few q (t.Text i p cs) = (omega arith, omega arith)
  few q (t.Name i p n) = (omega arith, omega arith)
  few q (t.TextInput i p) = (omega arith, omega arith)
  few q (t.NumsInput i p) = (omega arith, omega arith)
  few q (t.Mono i p f b) = let h = few q b in let h0 = h.0 in let h1 = h.1 in (omega (arith, h0), omega (arith, h1))
  few q (t.Dyad i p f a b) =
      let h = few q a in
      let g = few q b in
      let h0 = h.0 in
      let h1 = h.1 in
      let g0 = g.0 in
      let g1 = g.1 in
      let e = cnt_append q (ids a) (ids b) in
      (omega (arith, h0, g0, e), omega (arith, h1, g1, e))
  few q (t.Index i p a xs) =
      let h = few q a in
      let g = few_all q xs in
      let h0 = h.0 in
      let h1 = h.1 in
      let g0 = g.0 in
      let g1 = g.1 in
      let e = cnt_append q (ids a) (trees_ids xs) in
      (omega (arith, h0, g0, e), omega (arith, h1, g1, e))
  few q (t.Assign i p n a) = let h = few q a in let h0 = h.0 in let h1 = h.1 in (omega (arith, h0), omega (arith, h1))
  few q (t.AssignAt i p n xs a) =
      let h = few q a in
      let g = few_all q xs in
      let h0 = h.0 in
      let h1 = h.1 in
      let g0 = g.0 in
      let g1 = g.1 in
      let e = cnt_append q (trees_ids xs) (ids a) in
      (omega (arith, h0, g0, e), omega (arith, h1, g1, e))
  few q (t.Show i p a) = let h = few q a in let h0 = h.0 in let h1 = h.1 in (omega (arith, h0), omega (arith, h1))
  few q (t.Call i p n a b) =
      let h = few_given q a in
      let g = few_given q b in
      let h0 = h.0 in
      let h1 = h.1 in
      let g0 = g.0 in
      let g1 = g.1 in
      let e = cnt_append q (argument_ids a) (argument_ids b) in
      (omega (arith, h0, g0, e), omega (arith, h1, g1, e))

  few_all : (q : ℕ) (xs : Trees) → FewAll q xs
  few_all q t.no_more = (omega arith, omega arith)
  few_all q (t.left_out xs) = few_all q xs
  few_all q (t.and_tree x xs) =
      let h = few q x in
      let g = few_all q xs in
      let h0 = h.0 in
      let h1 = h.1 in
      let g0 = g.0 in
      let g1 = g.1 in
      let e = cnt_append q (ids x) (trees_ids xs) in
      (omega (arith, h0, g0, e), omega (arith, h1, g1, e))

  few_given : (q : ℕ) (a : Argument) → FewGiven q a
  few_given q absent = (omega arith, omega arith)
  few_given q (given x) = let h = few q x in let h0 = h.0 in let h1 = h.1 in (h0, omega (arith, h1))

-- whatever is said
within : (m : Mark) (q : ℕ) (x : Tree) → marks m q x ≤ cnt q (ids x)
within assigning q x = (few q x).0
within storing q x = let h = (few q x).1 in omega (arith, h)
within showing q x = let h = (few q x).1 in omega (arith, h)

all_within : (m : Mark) (q : ℕ) (xs : Trees) → marks_all m q xs ≤ cnt q (trees_ids xs)
all_within assigning q xs = (few_all q xs).0
all_within storing q xs = let h = (few_all q xs).1 in omega (arith, h)
all_within showing q xs = let h = (few_all q xs).1 in omega (arith, h)

given_within : (m : Mark) (q : ℕ) (a : Argument) → marks_given m q a ≤ cnt q (argument_ids a)
given_within m q absent = omega arith
given_within m q (given x) = within m q x

-- ---- What a line says of the nodes of a tree

-- each of these numbers stands as often in the line's lists as this tells
abbrev pub Says : Told → List ℕ → (Mark → ℕ → ℕ) → Type 0
Says l xs a = (m : Mark) (q : ℕ) → 1 ≤ cnt q xs → cnt q (list_in m l) ≡ a m q

-- as often as the nodes of the tree and the use of its own node say
abbrev pub Agrees : Told → Use → Tree → Type 0
Agrees l u x = Says l (ids x) (λ m q. of_use m u q (id_of x) + marks m q x)

abbrev pub AgreesAll : Told → Trees → Type 0
AgreesAll l xs = Says l (trees_ids xs) (λ m q. marks_all m q xs)

abbrev pub AgreesGiven : Told → Argument → Type 0
AgreesGiven l a = Says l (argument_ids a) (λ m q. marks_given m q a)

abbrev pub Once : List ℕ → Type 0
Once xs = (q : ℕ) → cnt q xs ≤ 1

use_small : (m : Mark) (u : Use) (q i : ℕ) → of_use m u q i ≤ one_at q i
use_small assigning u q i = omega arith
use_small storing stored q i = omega arith
use_small storing passed q i = omega arith
use_small storing displayed q i = omega arith
use_small showing displayed q i = omega arith
use_small showing passed q i = omega arith
use_small showing stored q i = omega arith

pub none_passed : (m : Mark) (q i : ℕ) → of_use m passed q i ≡ 0
none_passed assigning q i = refl
none_passed storing q i = refl
none_passed showing q i = refl

assign_stores : (m : Mark) (q i j : ℕ) → one_at q i ≡ 0 → at_assign m q i j ≡ of_use m stored q j
assign_stores assigning q i j e = e
assign_stores storing q i j e = refl
assign_stores showing q i j e = refl

pub show_displays : (m : Mark) (q j : ℕ) → at_show m q j ≡ of_use m displayed q j
show_displays assigning q j = refl
show_displays storing q j = refl
show_displays showing q j = refl

-- ---- The node itself

root_told : (l : Told) (i : ℕ) (u : Use) → cnt i l.stored ≡ of_use storing u i i → cnt i l.displayed ≡ of_use showing u i i → use_in l i ≡ u
root_told l i stored s d =
    let o = same_one i in
    let e : is_among i l.stored ≡ true = some_there i l.stored (omega (arith, s, o)) in
    ap (λ b. if b then stored else if is_among i l.displayed then displayed else passed) e
root_told l i displayed s d =
    let o = same_one i in
    let e : is_among i l.stored ≡ false = none_there i l.stored s in
    let f : is_among i l.displayed ≡ true = some_there i l.displayed (omega (arith, d, o)) in
    ap (λ b. if b then stored else if is_among i l.displayed then displayed else passed) e ∙ ap (λ b. if b then displayed else passed) f
root_told l i passed s d =
    let e : is_among i l.stored ≡ false = none_there i l.stored s in
    let f : is_among i l.displayed ≡ false = none_there i l.displayed d in
    ap (λ b. if b then stored else if is_among i l.displayed then displayed else passed) e ∙ ap (λ b. if b then displayed else passed) f

root_use : (l : Told) (u : Use) (x : Tree) → Agrees l u x → Once (ids x) → use_in l (id_of x) ≡ u
root_use l u x h once =
    let i : ℕ = id_of x in
    let o = same_one i in
    let f = (few i x).1 in
    let g = once i in
    let a = h storing i (omega (arith, o, f)) in
    let b = h showing i (omega (arith, o, f)) in
    root_told l i u (omega (arith, a, o, f, g)) (omega (arith, b, o, f, g))

-- ---- Parts

pub inside : (l : Told) (u : Use) (i : ℕ) (zs : List ℕ) (a : Mark → ℕ → ℕ) → Says l (i ∷ zs) (λ m q. of_use m u q i + a m q) → Once (i ∷ zs) → Says l zs a
inside l u i zs a h once m q le =
    let o = once q in
    let s = use_small m u q i in
    let e = h m q (omega (arith, le)) in
    omega (arith, le, o, s, e)

apart : (i q : ℕ) (zs : List ℕ) → Once (i ∷ zs) → 1 ≤ cnt q zs → one_at q i ≡ 0
apart i q zs once le = let o = once q in omega (arith, o, le)

pub once_inside : (i : ℕ) (zs : List ℕ) → Once (i ∷ zs) → Once zs
once_inside i zs once q = let o = once q in omega (arith, o)

once_left : (xs ys : List ℕ) → Once (xs ++ ys) → Once xs
once_left xs ys once q = let o = once q in let e = cnt_append q xs ys in omega (arith, o, e)

once_right : (xs ys : List ℕ) → Once (xs ++ ys) → Once ys
once_right xs ys once q = let o = once q in let e = cnt_append q xs ys in omega (arith, o, e)

left_part : (l : Told) (xs ys : List ℕ) (a b : Mark → ℕ → ℕ) → ((m : Mark) (q : ℕ) → b m q ≤ cnt q ys) → Says l (xs ++ ys) (λ m q. a m q + b m q) → Once (xs ++ ys) → Says l xs a
left_part l xs ys a b w h once m q le =
    let o = once q in
    let e = cnt_append q xs ys in
    let d = w m q in
    let f = h m q (omega (arith, le, e)) in
    omega (arith, le, o, e, d, f)

right_part : (l : Told) (xs ys : List ℕ) (a b : Mark → ℕ → ℕ) → ((m : Mark) (q : ℕ) → a m q ≤ cnt q xs) → Says l (xs ++ ys) (λ m q. a m q + b m q) → Once (xs ++ ys) → Says l ys b
right_part l xs ys a b w h once m q le =
    let o = once q in
    let e = cnt_append q xs ys in
    let d = w m q in
    let f = h m q (omega (arith, le, e)) in
    omega (arith, le, o, e, d, f)

pub as_passed : (l : Told) (x : Tree) → Says l (ids x) (λ m q. marks m q x) → Agrees l passed x
as_passed l x h m q le = let e = h m q le in let n = none_passed m q (id_of x) in omega (arith, e, n)

-- the value of an assignment, and what is displayed
as_stored : (l : Told) (i : ℕ) (x : Tree) → Once (i ∷ ids x) → Says l (ids x) (λ m q. at_assign m q i (id_of x) + marks m q x) → Agrees l stored x
as_stored l i x once h m q le =
    let e = h m q le in
    let n = assign_stores m q i (id_of x) (apart i q (ids x) once le) in
    omega (arith, e, n)

as_displayed : (l : Told) (x : Tree) → Says l (ids x) (λ m q. at_show m q (id_of x) + marks m q x) → Agrees l displayed x
as_displayed l x h m q le = let e = h m q le in let n = show_displays m q (id_of x) in omega (arith, e, n)

-- ---- All nodes

name_told : (l : Told) (u : Use) (i p n : ℕ) → Agrees l u (t.Name i p n) → is_among i l.assigned ≡ false
name_told l u i p n h = let o = same_one i in let e = h assigning i (omega (arith, o)) in none_there i l.assigned (omega (arith, e))

assign_told : (l : Told) (u : Use) (i p n : ℕ) (a : Tree) → Agrees l u (t.Assign i p n a) → is_among i l.assigned ≡ true
assign_told l u i p n a h = let o = same_one i in let e = h assigning i (omega (arith, o)) in some_there i l.assigned (omega (arith, e, o))

mutual
  pub tells : (l : Told) (u : Use) (x : Tree) → Agrees l u x → Once (ids x) → Tells l u x
  tells l u (t.Numbers i p zs) h once = root_use l u (t.Numbers i p zs) h once
  tells l u (t.Text i p cs) h once = root_use l u (t.Text i p cs) h once
  tells l u (t.Name i p n) h once = (root_use l u (t.Name i p n) h once, name_told l u i p n h)
  tells l u (t.TextInput i p) h once = root_use l u (t.TextInput i p) h once
  tells l u (t.NumsInput i p) h once = root_use l u (t.NumsInput i p) h once
  tells l u (t.Mono i p f b) h once = (
    root_use l u (t.Mono i p f b) h once,
    tells l passed b (as_passed l b (inside l u i (ids b) (λ m q. marks m q b) h once)) (once_inside i (ids b) once),
  )
  tells l u (t.Dyad i p f a b) h once =
      let g = inside l u i (ids a ++ ids b) (λ m q. marks m q a + marks m q b) h once in
      let o = once_inside i (ids a ++ ids b) once in (
        root_use l u (t.Dyad i p f a b) h once,
        tells l passed a (as_passed l a (left_part l (ids a) (ids b) (λ m q. marks m q a) (λ m q. marks m q b) (λ m q. within m q b) g o)) (once_left (ids a) (ids b) o),
        tells l passed b (as_passed l b (right_part l (ids a) (ids b) (λ m q. marks m q a) (λ m q. marks m q b) (λ m q. within m q a) g o)) (once_right (ids a) (ids b) o),
      )
  tells l u (t.Index i p a xs) h once =
      let g = inside l u i (ids a ++ trees_ids xs) (λ m q. marks m q a + marks_all m q xs) h once in
      let o = once_inside i (ids a ++ trees_ids xs) once in (
        root_use l u (t.Index i p a xs) h once,
        tells l passed a (as_passed l a (left_part l (ids a) (trees_ids xs) (λ m q. marks m q a) (λ m q. marks_all m q xs) (λ m q. all_within m q xs) g o)) (once_left (ids a) (trees_ids xs) o),
        tells_all l xs (right_part l (ids a) (trees_ids xs) (λ m q. marks m q a) (λ m q. marks_all m q xs) (λ m q. within m q a) g o) (once_right (ids a) (trees_ids xs) o),
      )
  tells l u (t.Assign i p n a) h once = (
    root_use l u (t.Assign i p n a) h once,
    assign_told l u i p n a h,
    tells l stored a (as_stored l i a once (inside l u i (ids a) (λ m q. at_assign m q i (id_of a) + marks m q a) h once)) (once_inside i (ids a) once),
  )
  tells l u (t.AssignAt i p n xs a) h once =
      let g = inside l u i (trees_ids xs ++ ids a) (λ m q. marks_all m q xs + marks m q a) h once in
      let o = once_inside i (trees_ids xs ++ ids a) once in (
        root_use l u (t.AssignAt i p n xs a) h once,
        tells l passed a (as_passed l a (right_part l (trees_ids xs) (ids a) (λ m q. marks_all m q xs) (λ m q. marks m q a) (λ m q. all_within m q xs) g o)) (once_right (trees_ids xs) (ids a) o),
        tells_all l xs (left_part l (trees_ids xs) (ids a) (λ m q. marks_all m q xs) (λ m q. marks m q a) (λ m q. within m q a) g o) (once_left (trees_ids xs) (ids a) o),
      )
  tells l u (t.Show i p a) h once = (
    root_use l u (t.Show i p a) h once,
    tells l displayed a (as_displayed l a (inside l u i (ids a) (λ m q. at_show m q (id_of a) + marks m q a) h once)) (once_inside i (ids a) once),
  )
  tells l u (t.Call i p n a b) h once =
      let g = inside l u i (argument_ids a ++ argument_ids b) (λ m q. marks_given m q a + marks_given m q b) h once in
      let o = once_inside i (argument_ids a ++ argument_ids b) once in (
        root_use l u (t.Call i p n a b) h once,
        tells_given l a (left_part l (argument_ids a) (argument_ids b) (λ m q. marks_given m q a) (λ m q. marks_given m q b) (λ m q. given_within m q b) g o) (once_left (argument_ids a) (argument_ids b) o),
        tells_given l b (right_part l (argument_ids a) (argument_ids b) (λ m q. marks_given m q a) (λ m q. marks_given m q b) (λ m q. given_within m q a) g o) (once_right (argument_ids a) (argument_ids b) o),
      )

  pub tells_all : (l : Told) (xs : Trees) → AgreesAll l xs → Once (trees_ids xs) → TellsAll l xs
  tells_all l t.no_more h once = tt
  tells_all l (t.left_out xs) h once = tells_all l xs h once
  tells_all l (t.and_tree x xs) h once = (
    tells l passed x (as_passed l x (left_part l (ids x) (trees_ids xs) (λ m q. marks m q x) (λ m q. marks_all m q xs) (λ m q. all_within m q xs) h once)) (once_left (ids x) (trees_ids xs) once),
    tells_all l xs (right_part l (ids x) (trees_ids xs) (λ m q. marks m q x) (λ m q. marks_all m q xs) (λ m q. within m q x) h once) (once_right (ids x) (trees_ids xs) once),
  )

  tells_given : (l : Told) (a : Argument) → AgreesGiven l a → Once (argument_ids a) → TellsGiven l a
  tells_given l absent h once = tt
  tells_given l (given x) h once = tells l passed x (as_passed l x h) once

pub both_given : (l : Told) (a b : Argument) → Says l (argument_ids a ++ argument_ids b) (λ m q. marks_given m q a + marks_given m q b) → Once (argument_ids a ++ argument_ids b) → TellsGiven l a × TellsGiven l b
both_given l a b h once = (
  tells_given l a (left_part l (argument_ids a) (argument_ids b) (λ m q. marks_given m q a) (λ m q. marks_given m q b) (λ m q. given_within m q b) h once) (once_left (argument_ids a) (argument_ids b) once),
  tells_given l b (right_part l (argument_ids a) (argument_ids b) (λ m q. marks_given m q a) (λ m q. marks_given m q b) (λ m q. given_within m q a) h once) (once_right (argument_ids a) (argument_ids b) once),
)

-- Facts in a pool, and what raising one does to the rows of numbers into it.
use Rattle.std.proofs.Common.{◌≡◌, ◌∙◌, sym, ap, refl, subst, ℕ, zero, suc, ◌<◌, ◌≤◌, List, [], ◌∷◌, ◌++◌, length, map, Option, Some, None, Bool, true, false, if◌then◌else◌, nat_eq, arith, set, get_or, slice_get, take, ◌+◌}
use Rattle.std.specs.Prelude.{unwrap_or, replicate}
use Rattle.std.specs.List.{list_any}
use Rattle.indexmap.specs.IndexSet.{insert_key}
use Rattle.std.proofs.lemmas.Bool.Decides.{nat_tests}
use Rattle.std.proofs.lemmas.List.{map-set}
use Rattle.std.proofs.lemmas.Option.{slice_get-get_or}
use Rattle.aplc_infer.specs.declared.fact.FactKind.{FactKind}
use Rattle.aplc_infer.specs.declared.fact.FactKind.TheVariants.{Bit, Num, Char, Mixed}
use Rattle.aplc_infer.specs.declared.fact.Inferred.{Inferred}
use Rattle.aplc_infer.specs.declared.fact.Inferred.TheVariants.{Unset, Of}
use Rattle.aplc_infer.specs.Facts.{kind_below, length_below, lengths_below, shape_below, below, kind_join, length_join, lengths_join, shape_join, join, IsShort}
use Rattle.aplc_infer.specs.Sameness.{same, same_equal}
use Rattle.aplc_infer.specs.Seeing.{at}
use Rattle.aplc_infer.specs.Pools.{spelled, all_spelled, IsHoused, AreHoused, Grows, IsBlank, AreBlank}
use Rattle.aplc_infer.specs.Rising.{look_or, at2, RowRises, RowsRise, room_row}
use Rattle.aplc_infer.proofs.Trials.{left_true, right_true}
use Rattle.aplc_infer.proofs.Order.{lengths_same}
use Rattle.aplc_infer.proofs.Raised.{row_stays, row_rises, found_at, lifted}

equal_of : (m n : ℕ) → nat_eq m n ≡ true → m ≡ n
equal_of m n h = grind (arith, nat_tests)

equal_true : (m n : ℕ) → m ≡ n → nat_eq m n ≡ true
equal_true m n h = grind (arith, nat_tests)

-- ---- The join with what is above

kind_above : (a b : FactKind) → kind_below a b ≡ true → kind_join a b ≡ b
kind_above Bit Bit h = refl
kind_above Bit Num h = refl
kind_above Bit Char h = cc
kind_above Bit Mixed h = refl
kind_above Num Bit h = cc
kind_above Num Num h = refl
kind_above Num Char h = cc
kind_above Num Mixed h = refl
kind_above Char Bit h = cc
kind_above Char Num h = cc
kind_above Char Char h = refl
kind_above Char Mixed h = refl
kind_above Mixed Bit h = cc
kind_above Mixed Num h = cc
kind_above Mixed Char h = cc
kind_above Mixed Mixed h = refl

length_above : (x y : Option ℕ) → length_below x y ≡ true → length_join x y ≡ y
length_above None None h = refl
length_above None (Some n) h = cc
length_above (Some m) None h = refl
length_above (Some m) (Some n) h = ap (λ b. if b then Some m else None) h ∙ ap (λ i. Some i) (equal_of m n h)

each_above : (xs ys : List (Option ℕ)) → lengths_below xs ys ≡ true → lengths_join xs ys ≡ ys
each_above [] [] h = refl
each_above [] (y ∷ ys) h = cc
each_above (x ∷ xs) [] h = cc
each_above (x ∷ xs) (y ∷ ys) h =
    ap (λ z. z ∷ lengths_join xs ys) (length_above x y (left_true (length_below x y) (lengths_below xs ys) h))
    ∙ ap (λ zs. y ∷ zs) (each_above xs ys (right_true (length_below x y) (lengths_below xs ys) h))

shape_above : (s t : Option (List (Option ℕ))) → shape_below s t ≡ true → shape_join s t ≡ t
shape_above None None h = refl
shape_above None (Some ys) h = cc
shape_above (Some xs) None h = refl
shape_above (Some xs) (Some ys) h =
    ap (λ b. if b then Some (lengths_join xs ys) else None) (equal_true (length xs) (length ys) (lengths_same xs ys h))
    ∙ ap (λ zs. Some zs) (each_above xs ys h)

pub join_above : (f g : Inferred) → below f g ≡ true → join f g ≡ g
join_above Unset g h = refl
join_above (Of a s) Unset h = cc
join_above (Of a s) (Of b t) h =
    ap (λ x. Of x (shape_join s t)) (kind_above a b (left_true (kind_below a b) (shape_below s t) h))
    ∙ ap (λ x. Of b x) (shape_above s t (right_true (kind_below a b) (shape_below s t) h))

-- ---- The pool

pub grows_none : (xs : List Inferred) → Grows xs xs
grows_none xs = record { longer = omega arith; same = λ h w. refl }

front_get : (xs ys : List Inferred) (h : ℕ) → h < length xs → at (xs ++ ys) h ≡ at xs h
front_get [] ys h w = absurd (omega arith)
front_get (x ∷ xs) ys zero w = refl
front_get (x ∷ xs) ys (suc h) w = front_get xs ys h (omega arith)

longer : (xs : List Inferred) (x : Inferred) → length xs ≤ length (xs ++ x ∷ [])
longer [] x = omega arith
longer (y ∷ xs) x = let h = longer xs x in omega arith

pub grows_push : (xs : List Inferred) (x : Inferred) → Grows xs (xs ++ x ∷ [])
grows_push xs x = record { longer = longer xs x; same = λ h w. front_get xs (x ∷ []) h w }

pub at_index : (xs : List Inferred) (k : ℕ) (x : Inferred) → k < length xs → x ≡ get_or xs k x → at xs k ≡ x
at_index xs k x w e = ap (λ o. unwrap_or o Unset) (found_at xs k x w e)

-- ---- A row of numbers

pub spelled_grown : (p q : List Inferred) (hs : List ℕ) → Grows p q → IsHoused (length p) hs → spelled q hs ≡ spelled p hs
spelled_grown p q [] g u = refl
spelled_grown p q (h ∷ hs) g u = ap (λ x. x ∷ spelled q hs) (g.same h u.0) ∙ ap (λ xs. at p h ∷ xs) (spelled_grown p q hs g u.1)

most : (h m n : ℕ) → h < m → m ≤ n → h < n
most h m n a b = omega arith

pub housed_grown : (p q : List Inferred) (hs : List ℕ) → Grows p q → IsHoused (length p) hs → IsHoused (length q) hs
housed_grown p q [] g u = tt
housed_grown p q (h ∷ hs) g u = (most h (length p) (length q) u.0 g.longer, housed_grown p q hs g u.1)

pub housed_set : (n : ℕ) (hs : List ℕ) (k h : ℕ) → h < n → IsHoused n hs → IsHoused n (set hs k h)
housed_set n [] k h w u = tt
housed_set n (x ∷ hs) zero h w u = (w, u.1)
housed_set n (x ∷ hs) (suc k) h w u = (u.0, housed_set n hs k h w u.1)

abbrev option_of : {A B : Type 0} → (A → B) → Option A → Option B
option_of f None = None
option_of f (Some z) = Some (f z)

none_some : {A : Type 0} (x : A) → None ≡ Some x → ⊥
none_some x e = cc

same_some : {A : Type 0} (x y : A) → Some x ≡ Some y → x ≡ y
same_some x y e = cc

pub map_get : {A B : Type 0} (f : A → B) (xs : List A) (k : ℕ) (x : A) → slice_get xs k ≡ Some x → slice_get (map f xs) k ≡ Some (f x)
map_get f [] k x e = absurd (none_some x e)
map_get f (y ∷ xs) zero x e = ap (λ o. option_of f o) e
map_get f (y ∷ xs) (suc k) x e = map_get f xs k x e

pub housed_at : (n : ℕ) (hs : List ℕ) (k h : ℕ) → slice_get hs k ≡ Some h → IsHoused n hs → h < n
housed_at n [] k h e u = absurd (none_some h e)
housed_at n (x ∷ hs) zero h e u = subst (λ y. y < n) (same_some x h e) u.0
housed_at n (x ∷ hs) (suc k) h e u = housed_at n hs k h e u.1

pub row_stayed : (p : List Inferred) (hs : List ℕ) (k h : ℕ) (f : Inferred) (b : Bool) → k < length hs → h ≡ get_or hs k h → b ≡ below f (at p h) → b ≡ true → RowRises (spelled p hs) (spelled p hs) k f false
row_stayed p hs k h f b w e t n =
    let here : slice_get hs k ≡ Some h = slice_get-get_or hs k h w ∙ ap (λ y. Some y) (sym e) in
    row_stays (spelled p hs) k (at p h) f (map_get (at p) hs k h here) (sym t ∙ n)

pub row_lifted : (p q : List Inferred) (hs : List ℕ) (k h n : ℕ) (f : Inferred) (b : Bool) → IsHoused (length p) hs → Grows p q → k < length hs → h ≡ get_or hs k h → b ≡ below f (at p h) → b ≡ false → IsShort f → at q n ≡ join (at p h) f → RowRises (spelled p hs) (spelled q (set hs k n)) k f true
row_lifted p q hs k h n f b u g w e t l s j =
    let here : slice_get hs k ≡ Some h = slice_get-get_or hs k h w ∙ ap (λ y. Some y) (sym e) in
    let new : spelled q (set hs k n) ≡ set (spelled p hs) k (join (at p h) f) = map-set (at q) hs k n ∙ ap (λ xs. set xs k (at q n)) (spelled_grown p q hs g u) ∙ ap (λ y. set (spelled p hs) k y) j in
    subst (λ xs. RowRises (spelled p hs) xs k f true) (sym new) (row_rises (spelled p hs) k (at p h) f (map_get (at p) hs k h here) (sym t ∙ l) s)

-- ---- Rows

pub all_grown : (p q : List Inferred) (rs : List (List ℕ)) → Grows p q → AreHoused (length p) rs → all_spelled q rs ≡ all_spelled p rs
all_grown p q [] g u = refl
all_grown p q (r ∷ rs) g u = ap (λ x. x ∷ all_spelled q rs) (spelled_grown p q r g u.0) ∙ ap (λ xs. spelled p r ∷ xs) (all_grown p q rs g u.1)

pub all_housed : (p q : List Inferred) (rs : List (List ℕ)) → Grows p q → AreHoused (length p) rs → AreHoused (length q) rs
all_housed p q [] g u = tt
all_housed p q (r ∷ rs) g u = (housed_grown p q r g u.0, all_housed p q rs g u.1)

pub rows_set : (n : ℕ) (rs : List (List ℕ)) (l : ℕ) (r : List ℕ) → IsHoused n r → AreHoused n rs → AreHoused n (set rs l r)
rows_set n [] l r h u = tt
rows_set n (x ∷ rs) zero r h u = (h, u.1)
rows_set n (x ∷ rs) (suc l) r h u = (u.0, rows_set n rs l r h u.1)

pub row_housed : (n : ℕ) (rs : List (List ℕ)) (l : ℕ) (r : List ℕ) → slice_get rs l ≡ Some r → AreHoused n rs → IsHoused n r
row_housed n [] l r e u = absurd (none_some r e)
row_housed n (x ∷ rs) zero r e u = subst (λ y. IsHoused n y) (same_some x r e) u.0
row_housed n (x ∷ rs) (suc l) r e u = row_housed n rs l r e u.1

pub row_there : (n : ℕ) (rs : List (List ℕ)) (l : ℕ) (r : List ℕ) → l < length rs → r ≡ get_or rs l r → AreHoused n rs → IsHoused n r
row_there n rs l r w e u = row_housed n rs l r (found_at rs l r w e) u

pub number_there : (n : ℕ) (r : List ℕ) (k h : ℕ) → k < length r → h ≡ get_or r k h → IsHoused n r → h < n
number_there n r k h w e u = housed_at n r k h (found_at r k h w e) u

-- one row rose, in the code's own shape
pub block_rose : (xs : List (List Inferred)) (p q : List Inferred) (rs : List (List ℕ)) (l : ℕ) (r s : List ℕ) (k : ℕ) (f : Inferred) (rose : Bool) → xs ≡ all_spelled p rs → AreHoused (length p) rs → l < length rs → r ≡ get_or rs l r → Grows p q → RowRises (spelled p r) (spelled q s) k f rose → RowsRise xs (all_spelled q (set rs l s)) (l, k) f rose
block_rose xs p q rs l r s k f rose same u w e g x =
    let here : slice_get rs l ≡ Some r = found_at rs l r w e in
    let new : all_spelled q (set rs l s) ≡ set (all_spelled p rs) l (spelled q s) = map-set (spelled q) rs l s ∙ ap (λ ys. set ys l (spelled q s)) (all_grown p q rs g u) in
    subst (λ ys. RowsRise ys (all_spelled q (set rs l s)) (l, k) f rose) (sym same)
    (subst (λ ys. RowsRise (all_spelled p rs) ys (l, k) f rose) (sym new)
    (lifted at room_row (all_spelled p rs) l (spelled p r) (spelled q s) k f rose (map_get (spelled p) rs l r here) x))

pub block_at : (xs : List (List Inferred)) (p : List Inferred) (rs : List (List ℕ)) (l : ℕ) (r : List ℕ) (k h : ℕ) → xs ≡ all_spelled p rs → l < length rs → r ≡ get_or rs l r → k < length r → h ≡ get_or r k h → at2 xs (l, k) ≡ at p h
block_at xs p rs l r k h same w e v d =
    ap (λ ys. at2 ys (l, k)) same
    ∙ ap (λ o. look_or at o k) (map_get (spelled p) rs l r (found_at rs l r w e))
    ∙ ap (λ o. unwrap_or o Unset) (map_get (at p) r k h (found_at r k h v d))

-- ---- Where nothing is set

pub blank_numbers : (n : ℕ) → IsBlank (replicate n 0)
blank_numbers zero = tt
blank_numbers (suc n) = (refl, blank_numbers n)

pub blank_more : (rs : List (List ℕ)) (r : List ℕ) (n : ℕ) → r ≡ replicate n 0 → AreBlank rs → AreBlank (rs ++ r ∷ [])
blank_more [] r n e u = (subst (λ x. IsBlank x) (sym e) (blank_numbers n), tt)
blank_more (x ∷ rs) r n e u = (u.0, blank_more rs r n e u.1)

blank_housed : (hs : List ℕ) (n : ℕ) → 0 < n → IsBlank hs → IsHoused n hs
blank_housed [] n w u = tt
blank_housed (h ∷ hs) n w u = (subst (λ x. x < n) (sym u.0) w, blank_housed hs n w u.1)

pub blanks_housed : (rs : List (List ℕ)) (n : ℕ) → 0 < n → AreBlank rs → AreHoused n rs
blanks_housed [] n w u = tt
blanks_housed (r ∷ rs) n w u = (blank_housed r n w u.0, blanks_housed rs n w u.1)

blank_at : (p : List Inferred) (hs : List ℕ) (k : ℕ) → at p 0 ≡ Unset → IsBlank hs → at (spelled p hs) k ≡ Unset
blank_at p [] k e u = refl
blank_at p (h ∷ hs) zero e u = ap (λ x. at p x) u.0 ∙ e
blank_at p (h ∷ hs) (suc k) e u = blank_at p hs k e u.1

blanks_at : (p : List Inferred) (rs : List (List ℕ)) (l k : ℕ) → at p 0 ≡ Unset → AreBlank rs → at2 (all_spelled p rs) (l, k) ≡ Unset
blanks_at p [] l k e u = refl
blanks_at p (r ∷ rs) zero k e u = blank_at p r k e u.0
blanks_at p (r ∷ rs) (suc l) k e u = blanks_at p rs l k e u.1

pub block_blank : (p : List Inferred) (rs : List (List ℕ)) → p ≡ Unset ∷ [] → AreBlank rs → (i : ℕ × ℕ) → at2 (all_spelled p rs) i ≡ Unset
block_blank p rs e u i = blanks_at p rs i.0 i.1 (ap (λ x. at x 0) e) u

pub added_fact : (xs : List Inferred) (n : ℕ) (f : Inferred) → (x : Inferred) × (slice_get xs n ≡ Some x) × (same f x ≡ true) → at xs n ≡ f
added_fact xs n f h = ap (λ o. unwrap_or o Unset) h.1 ∙ sym (same_equal f h.0 h.2)

added_either : (b : Bool) (xs : List Inferred) (f : Inferred) → Grows xs (if b then xs else xs ++ f ∷ [])
added_either true xs f = grows_none xs
added_either false xs f = grows_push xs f

pub added_grows : (xs ys : List Inferred) (f : Inferred) → ys ≡ insert_key same xs f → Grows xs ys
added_grows xs ys f e = subst (λ zs. Grows xs zs) (sym e) (added_either (list_any (same f) xs) xs f)

pub ruleset pools = (grows_none, added_grows)

pub ruleset raises = (grows_none, housed_grown, housed_set, row_stayed, row_lifted)

-- ---- Beyond a row

beyond_row : (p : List Inferred) (hs : List ℕ) (k : ℕ) → length hs ≤ k → at (spelled p hs) k ≡ Unset
beyond_row p [] k w = refl
beyond_row p (h ∷ hs) zero w = absurd (omega arith)
beyond_row p (h ∷ hs) (suc k) w = beyond_row p hs k (omega arith)

none_there : (p : List Inferred) (rs : List (List ℕ)) (l k : ℕ) → slice_get rs l ≡ None → at2 (all_spelled p rs) (l, k) ≡ Unset
none_there p [] l k e = refl
none_there p (r ∷ rs) zero k e = absurd (some_none r e)
  where
    some_none : (x : List ℕ) → Some x ≡ None → ⊥
    some_none x e = cc
none_there p (r ∷ rs) (suc l) k e = none_there p rs l k e

pub width_none : (xs : List (List Inferred)) (p : List Inferred) (rs : List (List ℕ)) (l : ℕ) → xs ≡ all_spelled p rs → slice_get rs l ≡ None → (k : ℕ) → 0 ≤ k → at2 xs (l, k) ≡ Unset
width_none xs p rs l e f k w = ap (λ ys. at2 ys (l, k)) e ∙ none_there p rs l k f

pub width_some : (xs : List (List Inferred)) (p : List Inferred) (rs : List (List ℕ)) (l n : ℕ) (r : List ℕ) → xs ≡ all_spelled p rs → slice_get rs l ≡ Some r → n ≡ length r → (k : ℕ) → n ≤ k → at2 xs (l, k) ≡ Unset
width_some xs p rs l n r e f g k w = ap (λ ys. at2 ys (l, k)) e ∙ ap (λ o. look_or at o k) (map_get (spelled p) rs l r f) ∙ beyond_row p r k (subst (λ m. m ≤ k) g w)

pub ruleset widths = (width_none, width_some)

-- ---- A column

pub column_blank : (xs p : List Inferred) (hs : List ℕ) (n : ℕ) → spelled p hs ≡ xs → p ≡ Unset ∷ [] → hs ≡ replicate n 0 → (k : ℕ) → at xs k ≡ Unset
column_blank xs p hs n s e f k = ap (λ ys. at ys k) (sym s) ∙ blank_at p hs k (ap (λ x. at x 0) e) (subst (λ x. IsBlank x) (sym f) (blank_numbers n))

pub column_housed : (p : List Inferred) (hs : List ℕ) (n : ℕ) → p ≡ Unset ∷ [] → hs ≡ replicate n 0 → IsHoused (length p) hs
column_housed p hs n e f = blank_housed hs (length p) (subst (λ x. 0 < length x) (sym e) (omega arith)) (subst (λ x. IsBlank x) (sym f) (blank_numbers n))

pub column_there : (xs p : List Inferred) (hs : List ℕ) (k h : ℕ) (x : Inferred) → spelled p hs ≡ xs → k < length hs → h ≡ get_or hs k h → x ≡ at p h → x ≡ at xs k
column_there xs p hs k h x s w e f = f ∙ sym (ap (λ o. unwrap_or o Unset) (map_get (at p) hs k h (found_at hs k h w e))) ∙ ap (λ ys. at ys k) s

pub column_beyond : (xs p : List Inferred) (hs : List ℕ) (k : ℕ) → spelled p hs ≡ xs → length hs ≤ k → Unset ≡ at xs k
column_beyond xs p hs k s w = sym (beyond_row p hs k w) ∙ ap (λ ys. at ys k) s

pub ruleset column_ats = (column_there, column_beyond)

-- ---- What is in use

housed_push : (n : ℕ) (hs : List ℕ) (h : ℕ) → IsHoused n hs → h < n → IsHoused n (hs ++ h ∷ [])
housed_push n [] h u w = (w, tt)
housed_push n (x ∷ hs) h u w = (u.0, housed_push n hs h u.1 w)

spelled_push : (p : List Inferred) (hs : List ℕ) (h : ℕ) → spelled p (hs ++ h ∷ []) ≡ spelled p hs ++ at p h ∷ []
spelled_push p [] h = refl
spelled_push p (x ∷ hs) h = ap (λ ys. at p x ∷ ys) (spelled_push p hs h)

take_more : (hs : List ℕ) (k h : ℕ) → slice_get hs k ≡ Some h → take (suc k) hs ≡ take k hs ++ h ∷ []
take_more [] k h e = absurd (none_some h e)
take_more (x ∷ hs) zero h e = ap (λ y. y ∷ []) (same_some x h e)
take_more (x ∷ hs) (suc k) h e = ap (λ ys. x ∷ ys) (take_more hs k h e)

next : (k : ℕ) → suc k ≡ k + 1
next k = omega arith

-- one more number of a pool, in the pool of those in use
pub used_more : (p q r : List Inferred) (hs out new : List ℕ) (k h n : ℕ) (x : Inferred) → IsHoused (length q) out × (spelled q out ≡ spelled p (take k hs)) → k < length hs → h ≡ get_or hs k h → x ≡ at p h → Grows q r → n < length r → at r n ≡ x → new ≡ out ++ n ∷ [] → IsHoused (length r) new × (spelled r new ≡ spelled p (take (k + 1) hs))
used_more p q r hs out new k h n x u w e f g b same made = (
  subst (λ ys. IsHoused (length r) ys) (sym made) (housed_push (length r) out n (housed_grown q r out g u.0) b),
  ap (spelled r) made
      ∙ spelled_push r out n
      ∙ ap (λ ys. ys ++ at r n ∷ []) (spelled_grown q r out g u.0 ∙ u.1)
      ∙ ap (λ y. spelled p (take k hs) ++ y ∷ []) (same ∙ f)
      ∙ sym (spelled_push p (take k hs) h)
      ∙ ap (spelled p) (sym (take_more hs k h (found_at hs k h w e)))
      ∙ ap (λ m. spelled p (take m hs)) (next k),
)

pub used_none : (p q : List Inferred) (hs out : List ℕ) → out ≡ [] → IsHoused (length q) out × (spelled q out ≡ spelled p (take 0 hs))
used_none p q hs out e = subst (λ ys. IsHoused (length q) ys × (spelled q ys ≡ spelled p (take 0 hs))) (sym e) (tt, refl)

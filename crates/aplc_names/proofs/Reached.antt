-- What is reached in a graph: each mark is reached, and the marks are closed once nothing waits.
use Rattle.std.proofs.Common.{◌≡◌, ◌∙◌, sym, ap, refl, subst, ℕ, zero, suc, ◌+◌, ◌<◌, List, [], ◌∷◌, ◌++◌, length, Option, Some, None, Bool, true, false, if◌then◌else◌, arith, get_or, set, take, ◌-◌, inl, inr, ◌⊎◌, length-append}
use Rattle.std.specs.Prelude.{Contains}
use Rattle.std.specs.List.{slice_get}
use Rattle.std.proofs.lemmas.List.{length-set}
use Rattle.std.proofs.lemmas.List.Elements.{Contains-append_left, Contains-push, Contains-push_cases}
use Rattle.std.proofs.lemmas.Option.{slice_get-get_or, slice_get_within}
use Rattle.aplc_names.specs.Graphs.{row_of, Lists, Reaches, edge, on, IsGraph, IsMarked, unmarked, free_one, is_free, Spreads, IsReach}
use Rattle.aplc_names.proofs.Firsts.{clash}
use Rattle.aplc_names.proofs.Lists.{some_same, none_some, get_push}

-- ---- One mark more

set_here : (xs : List Bool) (i : ℕ) (b : Bool) → slice_get xs i ≡ Some b → IsMarked (set xs i true) i
set_here [] i b e = absurd (none_some b e)
set_here (x ∷ xs) zero b e = refl
set_here (x ∷ xs) (suc i) b e = set_here xs i b e

set_kept : (xs : List Bool) (i j : ℕ) → IsMarked xs j → IsMarked (set xs i true) j
set_kept [] i j e = e
set_kept (x ∷ xs) zero zero e = refl
set_kept (x ∷ xs) zero (suc j) e = e
set_kept (x ∷ xs) (suc i) zero e = e
set_kept (x ∷ xs) (suc i) (suc j) e = set_kept xs i j e

set_only : (xs : List Bool) (i j : ℕ) → IsMarked (set xs i true) j → (j ≡ i) ⊎ IsMarked xs j
set_only [] i j e = inr e
set_only (x ∷ xs) zero zero e = inl refl
set_only (x ∷ xs) zero (suc j) e = inr e
set_only (x ∷ xs) (suc i) zero e = inr e
set_only (x ∷ xs) (suc i) (suc j) e = elim (set_only xs i j e) as (λ _. (suc j ≡ suc i) ⊎ IsMarked xs j) [ inl h ↦ inl (ap suc h) | inr h ↦ inr h ]

freed : (a : ℕ) (x : Bool) → x ≡ false → (a + 0) + 1 ≡ a + free_one x
freed a true e = absurd (clash true refl e)
freed a false e = omega arith

swapped : (a b c n : ℕ) → a + 1 ≡ n → (a + c) + 1 ≡ n + c
swapped a b c n h = omega arith

set_count : (xs : List Bool) (i : ℕ) → slice_get xs i ≡ Some false → unmarked (set xs i true) + 1 ≡ unmarked xs
set_count [] i e = absurd (none_some false e)
set_count (x ∷ xs) zero e = freed (unmarked xs) x (some_same x false e)
set_count (x ∷ xs) (suc i) e = swapped (unmarked (set xs i true)) 0 (free_one x) (unmarked xs) (set_count xs i e)

free_true : (o : Option Bool) → is_free o ≡ true → o ≡ Some false
free_true None h = absurd (clash false h refl)
free_true (Some true) h = absurd (clash false h refl)
free_true (Some false) h = refl

free_false : (marks : List Bool) (i : ℕ) → is_free (slice_get marks i) ≡ false → i < length marks → IsMarked marks i
free_false [] i h b = absurd (omega arith)
free_false (true ∷ xs) zero h b = refl
free_false (false ∷ xs) zero h b = absurd (clash true refl h)
free_false (x ∷ xs) (suc i) h b = free_false xs i h (omega arith)

-- ---- A row, entry by entry

pub spreads_start : (row : List ℕ) (m : List Bool) (t : List ℕ) → Spreads row 0 m t m t
spreads_start row m t = record {
  size = refl;
  kept = λ j h. h;
  reached = λ i j w e b. absurd (omega arith);
  only = λ j h. inl h;
  stays = λ j h. h;
  fresh = λ j h. inl h;
  listed = λ j h. inl h;
  count = refl;
}

closer : (i k : ℕ) → i < k + 1 → (i < k) ⊎ (i ≡ k)
closer i k h = grind arith

entry_same : (row : List ℕ) (n i j at : ℕ) → slice_get row n ≡ Some at → i ≡ n → slice_get row i ≡ Some j → at ≡ j
entry_same row n i j at e h f = some_same at j (sym e ∙ subst (λ k. slice_get row k ≡ Some j) h f)

spreads_stay : (row : List ℕ) (n at : ℕ) (m : List Bool) (t : List ℕ) (m1 : List Bool) (t1 : List ℕ) → slice_get row n ≡ Some at → Spreads row n m t m1 t1 → (at < length m1 → IsMarked m1 at) → Spreads row (n + 1) m t m1 t1
spreads_stay row n at m t m1 t1 e s h = record {
  size = s.size;
  kept = s.kept;
  reached = λ i j w f b. elim (closer i n w) as (λ _. IsMarked m1 j) [
    | inl u ↦ s.reached i j u f b
    | inr u ↦ (let same : at ≡ j = entry_same row n i j at e u f in let long : length m1 ≡ length m = s.size in subst (λ k. IsMarked m1 k) same (h (omega arith)))
  ];
  only = s.only;
  stays = s.stays;
  fresh = s.fresh;
  listed = s.listed;
  count = s.count;
}

summed : (a b c d n at1 : ℕ) → a + 1 ≡ b → at1 ≡ d + 1 → b + d ≡ n → a + at1 ≡ n
summed a b c d n at1 h k l = omega arith

spreads_new : (row : List ℕ) (n at : ℕ) (m : List Bool) (t : List ℕ) (m1 : List Bool) (t1 : List ℕ) → slice_get row n ≡ Some at → Spreads row n m t m1 t1 → slice_get m1 at ≡ Some false → Spreads row (n + 1) m t (set m1 at true) (t1 ++ at ∷ [])
spreads_new row n at m t m1 t1 e s free = record {
  size = length-set m1 at true ∙ s.size;
  kept = λ j h. set_kept m1 at j (s.kept j h);
  reached = λ i j w f b. elim (closer i n w) as (λ _. IsMarked (set m1 at true) j) [
    | inl u ↦ set_kept m1 at j (s.reached i j u f b)
    | inr u ↦ subst (λ k. IsMarked (set m1 at true) k) (entry_same row n i j at e u f) (set_here m1 at false free)
  ];
  only = λ j h. elim (set_only m1 at j h) as (λ _. IsMarked m j ⊎ Lists row j) [
    | inl u ↦ inr (n, e ∙ ap (λ k. Some k) (sym u))
    | inr u ↦ s.only j u
  ];
  stays = λ j h. Contains-append_left t1 (at ∷ []) j (s.stays j h);
  fresh = λ j h. elim (set_only m1 at j h) as (λ _. IsMarked m j ⊎ Contains (t1 ++ at ∷ []) j) [
    | inl u ↦ inr (subst (λ k. Contains (t1 ++ at ∷ []) k) (sym u) (Contains-push t1 at))
    | inr u ↦ elim (s.fresh j u) as (λ _. IsMarked m j ⊎ Contains (t1 ++ at ∷ []) j) [ inl v ↦ inl v | inr v ↦ inr (Contains-append_left t1 (at ∷ []) j v) ]
  ];
  listed = λ j h. elim (Contains-push_cases t1 at j h) as (λ _. Contains t j ⊎ IsMarked (set m1 at true) j) [
    | inl u ↦ elim (s.listed j u) as (λ _. Contains t j ⊎ IsMarked (set m1 at true) j) [ inl v ↦ inl v | inr v ↦ inr (set_kept m1 at j v) ]
    | inr u ↦ inr (subst (λ k. IsMarked (set m1 at true) k) u (set_here m1 at false free))
  ];
  count = summed (unmarked (set m1 at true)) (unmarked m1) 0 (length t1) (unmarked m + length t) (length (t1 ++ at ∷ [])) (set_count m1 at free) (length-append t1 (at ∷ [])) s.count;
}

spreads_by : (row : List ℕ) (n at : ℕ) (m : List Bool) (t : List ℕ) (m1 : List Bool) (t1 : List ℕ) → slice_get row n ≡ Some at → Spreads row n m t m1 t1 → (b : Bool) → is_free (slice_get m1 at) ≡ b → Spreads row (n + 1) m t (if b then set m1 at true else m1) (if b then t1 ++ at ∷ [] else t1)
spreads_by row n at m t m1 t1 e s true f = spreads_new row n at m t m1 t1 e s (free_true (slice_get m1 at) f)
spreads_by row n at m t m1 t1 e s false f = spreads_stay row n at m t m1 t1 e s (free_false m1 at f)

pub spreads_more : (row : List ℕ) (n d : ℕ) (m : List Bool) (t : List ℕ) (m1 : List Bool) (t1 : List ℕ) (m2 : List Bool) (t2 : List ℕ) → n < length row → Spreads row n m t m1 t1 → m2 ≡ (if is_free (slice_get m1 (get_or row n d)) then set m1 (get_or row n d) true else m1) → t2 ≡ (if is_free (slice_get m1 (get_or row n d)) then t1 ++ get_or row n d ∷ [] else t1) → Spreads row (n + 1) m t m2 t2
spreads_more row n d m t m1 t1 m2 t2 h s e f =
    subst (λ x. Spreads row (n + 1) m t x t2) (sym e)
    (subst (λ x. Spreads row (n + 1) m t (if is_free (slice_get m1 (get_or row n d)) then set m1 (get_or row n d) true else m1) x) (sym f)
    (spreads_by row n (get_or row n d) m t m1 t1 (slice_get-get_or row n d h) s (is_free (slice_get m1 (get_or row n d))) refl))

-- ---- The whole

-- all that row k leads to is marked
abbrev pub IsClosed : List (List ℕ) → ℕ → List Bool → Type 0
IsClosed g k marks = (i j : ℕ) → slice_get (row_of g k) i ≡ Some j → IsMarked marks j

-- each mark is reached, and what it leads to is marked, or will be when its turn comes
pub record Reaching (g : List (List ℕ)) (from : ℕ) (marks : List Bool) (todo : List ℕ) : Type 0 where
  pub size : length marks ≡ length g
  pub sound : (j : ℕ) → IsMarked marks j → Reaches g from j
  pub listed : (k : ℕ) → Contains todo k → IsMarked marks k
  pub closed : (k : ℕ) → IsMarked marks k → Contains todo k ⊎ IsClosed g k marks
  pub start : IsClosed g from marks

none_in : (t : List ℕ) (k : ℕ) → t ≡ [] → Contains t k → ⊥
none_in t k e c = let h : c.0 < length t = c.1 in let l : length t ≡ 0 = ap length e in omega arith

pub reaching_start : (g : List (List ℕ)) (from : ℕ) (m0 m : List Bool) (t0 t : List ℕ) → IsGraph g → length m0 ≡ length g → ((j : ℕ) → IsMarked m0 j → ⊥) → t0 ≡ [] → (row : List ℕ) → row ≡ row_of g from → Spreads row (length row) m0 t0 m t → Reaching g from m t
reaching_start g from m0 m t0 t within l none empty row same given = let s : Spreads (row_of g from) (length (row_of g from)) m0 t0 m t = subst (λ x. Spreads x (length x) m0 t0 m t) same given in record {
  size = s.size ∙ l;
  sound = λ j h. elim (s.only j h) as (λ _. Reaches g from j) [ inl u ↦ absurd (none j u) | inr u ↦ edge u ];
  listed = λ k c. elim (s.listed k c) as (λ _. IsMarked m k) [ inl u ↦ absurd (none_in t0 k empty u) | inr u ↦ u ];
  closed = λ k h. elim (s.fresh k h) as (λ _. Contains t k ⊎ IsClosed g k m) [ inl u ↦ absurd (none k u) | inr u ↦ inl u ];
  start = λ i j e. s.reached i j (slice_get_within (row_of g from) i j e) e (let w : j < length g = within from j (i, e) in omega arith);
}

pub reaching_more : (g : List (List ℕ)) (from k : ℕ) (m m2 : List Bool) (t0 t1 t2 : List ℕ) → IsGraph g → t0 ≡ t1 ++ k ∷ [] → Reaching g from m t0 → (row : List ℕ) → row ≡ row_of g k → Spreads row (length row) m t1 m2 t2 → Reaching g from m2 t2
reaching_more g from k m m2 t0 t1 t2 within pop r row same given =
    let s : Spreads (row_of g k) (length (row_of g k)) m t1 m2 t2 = subst (λ x. Spreads x (length x) m t1 m2 t2) same given in
    let has : (j : ℕ) → Contains (t1 ++ k ∷ []) j → Contains t0 j = λ j c. subst (λ t. Contains t j) (sym pop) c in
    let was : (j : ℕ) → Contains t0 j → Contains (t1 ++ k ∷ []) j = λ j c. subst (λ t. Contains t j) pop c in
    let kept : (j : ℕ) → IsClosed g j m → IsClosed g j m2 = λ j cl i q f. s.kept q (cl i q f) in
    let long : length m ≡ length g = r.size in
    let done : IsClosed g k m2 = λ i q f. s.reached i q (slice_get_within (row_of g k) i q f) f (let w : q < length g = within k q (i, f) in omega arith) in
    record {
      size = s.size ∙ r.size;
      sound = λ j h. elim (s.only j h) as (λ _. Reaches g from j) [ inl u ↦ r.sound j u | inr u ↦ on (r.sound k (r.listed k (has k (Contains-push t1 k)))) u ];
      listed = λ j c. elim (s.listed j c) as (λ _. IsMarked m2 j) [ inl u ↦ s.kept j (r.listed j (has j (Contains-append_left t1 (k ∷ []) j u))) | inr u ↦ u ];
      closed = λ j h. elim (s.fresh j h) as (λ _. Contains t2 j ⊎ IsClosed g j m2) [
        | inl u ↦ (elim (r.closed j u) as (λ _. Contains t2 j ⊎ IsClosed g j m2) [
          | inl c ↦ (elim (Contains-push_cases t1 k j (was j c)) as (λ _. Contains t2 j ⊎ IsClosed g j m2) [
            | inl d ↦ inl (s.stays j d)
            | inr d ↦ inr (subst (λ i. IsClosed g i m2) d done)
          ])
          | inr cl ↦ inr (kept j cl)
        ])
        | inr u ↦ inl u
      ];
      start = kept from r.start;
    }

pub reaching_end : (g : List (List ℕ)) (from : ℕ) (m : List Bool) (t : List ℕ) → t ≡ [] → Reaching g from m t → (j : ℕ) → Reaches g from j → IsMarked m j
reaching_end g from m t e r j (edge l) = r.start l.0 j l.1
reaching_end g from m t e r j (on {k = k} h l) = elim (r.closed k (reaching_end g from m t e r k h)) as (λ _. IsMarked m j) [ inl c ↦ absurd (none_in t k e c) | inr cl ↦ cl l.0 j l.1 ]

pub reached_all : (g : List (List ℕ)) (from : ℕ) (m : List Bool) (t : List ℕ) → t ≡ [] → Reaching g from m t → IsReach g from m
reached_all g from m t e r = record { size = r.size; sound = r.sound; complete = reaching_end g from m t e r }

-- nothing is left where nothing was taken
pub left_empty : (old new : List ℕ) (n : ℕ) → old ≡ new ++ [] → new ≡ take (n - 1) old → n ≡ 0 → old ≡ []
left_empty old new n e f g = e ∙ ap (λ t. t ++ []) (f ∙ ap (λ k. take (k - 1) old) g)

-- ---- All rows

pub rows_more : (g : List (List ℕ)) (rows : List (List Bool)) (row : List Bool) (n : ℕ) → length rows ≡ n → IsReach g n row → ((i : ℕ) (r : List Bool) → slice_get rows i ≡ Some r → IsReach g i r) → (i : ℕ) (r : List Bool) → slice_get (rows ++ row ∷ []) i ≡ Some r → IsReach g i r
rows_more g rows row n l h each i r e = elim (get_push rows row r i e) as (λ _. IsReach g i r) [
  | inl u ↦ each i r u
  | inr u ↦ subst (λ k. IsReach g k r) (sym (u.0 ∙ l)) (subst (λ x. IsReach g n x) u.1 h)
]

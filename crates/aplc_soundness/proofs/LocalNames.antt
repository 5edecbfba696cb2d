-- The numbers of local names: each name that a function assigns has its own.
use Rattle.std.proofs.Common.{◌≡◌, ◌∙◌, sym, ap, refl, subst, ℕ, zero, suc, ◌<◌, List, [], ◌∷◌, ◌++◌, length, Option, Some, Bool, true, false, ◌||◌, arith}
use Rattle.std.specs.Prelude.{map, flat_map, slice_get, slice_set, nat_eq, if◌then◌else◌}
use Rattle.std.specs.List.{AllByRecursion}
use Rattle.std.specs.Option.{option_to_list}
use Rattle.aplc_names.specs.declared.outline.Mention.{Mention}
use Rattle.aplc_names.specs.declared.scope.Scope.{Scope}
use Rattle.aplc_names.specs.PlainPrograms.{Action, Routine}
use Rattle.aplc_names.specs.Runs.{line_at}
use Rattle.aplc_infer.specs.declared.fact.Inferred.{Inferred}
use Rattle.aplc_infer.specs.Seeing.{action_mentions, mentioned, stands_among, with_new, is_local, with_each, local_ones, names_in_lines, local_names, number_in, at}
use Rattle.aplc_infer.proofs.Trials.{equal_of, equal_test}
use Rattle.aplc_soundness.proofs.Held.{no, same_some, every_parts}

-- ---- Lists of facts by number

pub at_set : (ns : List Inferred) (k : ℕ) (x : Inferred) → k < length ns → at (slice_set ns k x) k ≡ x
at_set [] k x h = absurd (omega (arith, h))
at_set (y ∷ ns) zero x h = refl
at_set (y ∷ ns) (suc k) x h = at_set ns k x (omega (arith, h))

pub at_other : (ns : List Inferred) (j k : ℕ) (x : Inferred) → (j ≡ k → ⊥) → at (slice_set ns k x) j ≡ at ns j
at_other [] j k x h = refl
at_other (y ∷ ns) zero zero x h = absurd (h refl)
at_other (y ∷ ns) zero (suc k) x h = refl
at_other (y ∷ ns) (suc j) zero x h = refl
at_other (y ∷ ns) (suc j) (suc k) x h = at_other ns j k x (λ e. h (ap suc e))

pub set_length : {X : Type 0} (xs : List X) (k : ℕ) (x : X) → length (slice_set xs k x) ≡ length xs
set_length [] k x = refl
set_length (y ∷ xs) zero x = refl
set_length (y ∷ xs) (suc k) x = ap suc (set_length xs k x)

-- ---- Names by number

-- it is one of these names
abbrev pub IsNumbered : ℕ → List ℕ → Type 0
IsNumbered n ns = number_in n ns < length ns

-- a name that has a number has it alone
pub same_number : (m n : ℕ) (ns : List ℕ) → IsNumbered n ns → number_in m ns ≡ number_in n ns → m ≡ n
same_number m n [] h e = absurd (omega (arith, h))
same_number m n (i ∷ ns) h e = by_tests (same_number m n ns) (nat_eq i m) (nat_eq i n) refl refl h e
  where
    by_tests : (IsNumbered n ns → number_in m ns ≡ number_in n ns → m ≡ n) → (s t : Bool) → nat_eq i m ≡ s → nat_eq i n ≡ t → (if t then 0 else suc (number_in n ns)) < suc (length ns) → (if s then 0 else suc (number_in m ns)) ≡ (if t then 0 else suc (number_in n ns)) → m ≡ n
    by_tests again true true p q h e = sym (equal_of i m p) ∙ equal_of i n q
    by_tests again true false p q h e = absurd (omega (arith, e))
    by_tests again false true p q h e = absurd (omega (arith, e))
    by_tests again false false p q h e = again (omega (arith, h)) (omega (arith, e))

numbered_before : (n : ℕ) (ms ns : List ℕ) → IsNumbered n ms → IsNumbered n (ms ++ ns)
numbered_before n [] ns h = absurd (omega (arith, h))
numbered_before n (m ∷ ms) ns h = by_test (numbered_before n ms ns) (nat_eq m n) h
  where
    by_test : (IsNumbered n ms → IsNumbered n (ms ++ ns)) → (t : Bool) → (if t then 0 else suc (number_in n ms)) < suc (length ms) → (if t then 0 else suc (number_in n (ms ++ ns))) < suc (length (ms ++ ns))
    by_test again true h = omega arith
    by_test again false h = let q = again (omega (arith, h)) in omega (arith, q)

numbered_last : (n : ℕ) (ms ns : List ℕ) → IsNumbered n (ms ++ n ∷ ns)
numbered_last n [] ns = let e = equal_test n n refl in rw e (omega arith)
numbered_last n (m ∷ ms) ns = by_test (numbered_last n ms ns) (nat_eq m n)
  where
    by_test : IsNumbered n (ms ++ n ∷ ns) → (t : Bool) → (if t then 0 else suc (number_in n (ms ++ n ∷ ns))) < suc (length (ms ++ n ∷ ns))
    by_test again true = omega arith
    by_test again false = omega (arith, again)

numbered_among : (n : ℕ) (ns : List ℕ) → stands_among n ns ≡ true → IsNumbered n ns
numbered_among n [] e = absurd (no e)
numbered_among n (m ∷ ns) e = by_test (numbered_among n ns) (nat_eq m n) refl
  where
    other : (m n : ℕ) (rest : Bool) → nat_eq m n ≡ false → (nat_eq n m || rest) ≡ true → rest ≡ true
    other m n true p q = refl
    other m n false p q = by_equal (nat_eq n m) refl q
      where
        by_equal : (b : Bool) → nat_eq n m ≡ b → (b || false) ≡ true → false ≡ true
        by_equal true r q = sym p ∙ equal_test m n (sym (equal_of n m r))
        by_equal false r q = q

    by_test : (stands_among n ns ≡ true → IsNumbered n ns) → (t : Bool) → nat_eq m n ≡ t → (if t then 0 else suc (number_in n ns)) < suc (length ns)
    by_test again true p = omega arith
    by_test again false p = let q = again (other m n (stands_among n ns) p e) in omega (arith, q)

-- ---- The local names of a function

kept_by_new : (n m : ℕ) (ns : List ℕ) → IsNumbered n ns → IsNumbered n (with_new m ns)
kept_by_new n m ns h = by_test (stands_among m ns)
  where
    by_test : (b : Bool) → IsNumbered n (if b then ns else ns ++ m ∷ [])
    by_test true = h
    by_test false = numbered_before n ns (m ∷ []) h

is_new : (m : ℕ) (ns : List ℕ) → IsNumbered m (with_new m ns)
is_new m ns = by_test (stands_among m ns) refl
  where
    by_test : (b : Bool) → stands_among m ns ≡ b → IsNumbered m (if b then ns else ns ++ m ∷ [])
    by_test true e = numbered_among m ns e
    by_test false e = numbered_last m ns []

kept_by_each : (n : ℕ) (ns ms : List ℕ) → IsNumbered n ns → IsNumbered n (with_each ns ms)
kept_by_each n ns [] h = h
kept_by_each n ns (m ∷ ms) h = kept_by_each n (with_new m ns) ms (kept_by_new n m ns h)

each_numbered : (ns ms : List ℕ) → AllByRecursion (λ m. IsNumbered m (with_each ns ms)) ms
each_numbered ns [] = tt
each_numbered ns (m ∷ ms) = (kept_by_each m (with_new m ns) ms (is_new m ns), each_numbered (with_new m ns) ms)

-- it has a number in the function where it is a local name
abbrev pub HasNumber : Routine → ℕ → Type 0
HasNumber f m = is_local (f.scope m) ≡ true → IsNumbered m (local_names f)

abbrev pub AreNumbered : Routine → List Mention → Type 0
AreNumbered f ms = AllByRecursion (HasNumber f) (map mentioned ms)

local_ones_hold : (P : ℕ → Type 0) (sc : ℕ → Scope) (ms : List ℕ) → AllByRecursion P (local_ones sc ms) → AllByRecursion (λ m. is_local (sc m) ≡ true → P m) ms
local_ones_hold P sc [] h = tt
local_ones_hold P sc (m ∷ ms) h = by_test (is_local (sc m)) (local_ones_hold P sc ms) h
  where
    by_test : (b : Bool) → (AllByRecursion P (local_ones sc ms) → AllByRecursion (λ m. is_local (sc m) ≡ true → P m) ms) → AllByRecursion P (if b then m ∷ local_ones sc ms else local_ones sc ms) → (b ≡ true → P m) × AllByRecursion (λ m. is_local (sc m) ≡ true → P m) ms
    by_test true again h = (λ e. h.0, again h.1)
    by_test false again h = (λ e. absurd (no e), again h)

-- the names of the header that take part
header_part : (f : Routine) → AllByRecursion (λ m. IsNumbered m (with_each [] (option_to_list f.result ++ option_to_list f.left ++ option_to_list f.right))) (option_to_list f.result ++ option_to_list f.left ++ option_to_list f.right)
header_part f = each_numbered [] (option_to_list f.result ++ option_to_list f.left ++ option_to_list f.right)

only_one : (P : ℕ → Type 0) (o : Option ℕ) (n : ℕ) → o ≡ Some n → AllByRecursion P (option_to_list o) → P n
only_one P o n e h = (subst (λ o. AllByRecursion P (option_to_list o)) e h).0

pub left_numbered : (f : Routine) (n : ℕ) → f.left ≡ Some n → IsNumbered n (local_names f)
left_numbered f n e =
    let result = option_to_list f.result in
    let left = option_to_list f.left in
    let right = option_to_list f.right in
    let P : ℕ → Type 0 = λ m. IsNumbered m (with_each [] (result ++ left ++ right)) in
    kept_by_each n (with_each [] (result ++ left ++ right)) (local_ones f.scope (names_in_lines f.lines)) (only_one P f.left n e (every_parts P result left (every_parts P (result ++ left) right (header_part f)).0).1)

pub right_numbered : (f : Routine) (n : ℕ) → f.right ≡ Some n → IsNumbered n (local_names f)
right_numbered f n e =
    let result = option_to_list f.result in
    let left = option_to_list f.left in
    let right = option_to_list f.right in
    let P : ℕ → Type 0 = λ m. IsNumbered m (with_each [] (result ++ left ++ right)) in
    kept_by_each n (with_each [] (result ++ left ++ right)) (local_ones f.scope (names_in_lines f.lines)) (only_one P f.right n e (every_parts P (result ++ left) right (header_part f)).1)

-- the names of a statement
pub mention_parts : (P : ℕ → Type 0) (xs ys : List Mention) → AllByRecursion P (map mentioned (xs ++ ys)) → AllByRecursion P (map mentioned xs) × AllByRecursion P (map mentioned ys)
mention_parts P [] ys h = (tt, h)
mention_parts P (x ∷ xs) ys h = let rest = mention_parts P xs ys h.1 in ((h.0, rest.0), rest.1)

line_part : (P : ℕ → Type 0) (xs : List Action) (l : ℕ) (x : Action) → AllByRecursion P (map mentioned (flat_map action_mentions xs)) → slice_get xs l ≡ Some x → AllByRecursion P (map mentioned (action_mentions x))
line_part P [] l x h e = cc
line_part P (y ∷ ys) zero x h e = subst (λ z. AllByRecursion P (map mentioned (action_mentions z))) (same_some y x e) (mention_parts P (action_mentions y) (flat_map action_mentions ys) h).0
line_part P (y ∷ ys) (suc l) x h e = line_part P ys l x (mention_parts P (action_mentions y) (flat_map action_mentions ys) h).1 e

pub line_numbered : (f : Routine) (l : ℕ) (x : Action) → line_at f.lines l ≡ Some x → AreNumbered f (action_mentions x)
line_numbered f zero x e = cc
line_numbered f (suc l) x e =
    let header = option_to_list f.result ++ option_to_list f.left ++ option_to_list f.right in
    line_part (HasNumber f) f.lines l x (local_ones_hold (λ m. IsNumbered m (local_names f)) f.scope (names_in_lines f.lines) (each_numbered (with_each [] header) (local_ones f.scope (names_in_lines f.lines)))) e

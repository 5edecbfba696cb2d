-- The first refusal of several kinds, and of more and more items.
use Rattle.std.proofs.Common.{◌≡◌, ◌∙◌, sym, ap, refl, subst, ℕ, ◌+◌, ◌<◌, ◌≤◌, List, length, Option, Some, None, Bool, true, false, not, ◌&&◌, ◌||◌, arith, get_or, inl, inr, ◌⊎◌}
use Rattle.std.specs.List.{slice_get, list_any}
use Rattle.std.proofs.lemmas.Option.{slice_get-get_or, slice_get_within}
use Rattle.aplc_lex.specs.Tokens.{refusal, IsBefore}
use Rattle.aplc_lex.specs.declared.token.Refusal.{Refusal}
use Rattle.aplc_syntax.specs.declared.tree.Named.{Named}
use Rattle.aplc_names.specs.declared.outline.Mention.{Mention}
use Rattle.aplc_names.specs.declared.outline.Outline.{Outline}
use Rattle.aplc_lex.specs.Firsts.{IsFirstOf, earlier}
use Rattle.aplc_names.specs.Firsts.{Somewhere, Among, refused_if, is_before}
use Rattle.aplc_lex.proofs.Order.{either_first, same_first}
use Rattle.aplc_names.proofs.Firsts.{clash, at_first, found_by, named_is, is_named_of, some_before, before_some}
use Rattle.aplc_names.specs.Tables.{first, stands_in, is_named}
use Rattle.aplc_names.specs.Clashes.{IsAgain, IsTaken, IsAssigned, IsMainless, StandsIn, local_again, local_taken, name_assigned, is_start, main_place, twice, assigned, no_main}

-- ---- One test

pub tested_first : (P : Refusal → Type 0) (b : Bool) (n p : ℕ) → (b ≡ true → P (refusal n p)) → ((r : Refusal) → P r → (b ≡ true) × (r ≡ refusal n p)) → IsFirstOf P (refused_if b n p)
tested_first P true n p f g = record { stands = f refl; first = λ s h. let e : s ≡ refusal n p = (g s h).1 in subst (λ x. IsBefore (refusal n p) x) (sym e) (inr (refl, omega arith)) }
tested_first P false n p f g = λ s h. let e : false ≡ true = (g s h).0 in cc

-- ---- One item more

closer : (i k : ℕ) → i < k + 1 → (i < k) ⊎ (i ≡ k)
closer i k h = grind arith

some_same : {X : Type 0} (x y : X) → (let o : Option X = Some x in o) ≡ Some y → x ≡ y
some_same x y e = cc

last_one : {X : Type 0} (P : ℕ → X → Refusal → Type 0) (xs : List X) (k : ℕ) (x : X) → slice_get xs k ≡ Some x → (r : Refusal) → (a : Among P xs (k + 1) r) → (a.index < k) ⊎ (a.index ≡ k) → Among P xs k r ⊎ P k x r
last_one P xs k x e r a (inl h) = inl (record { index = a.index; item = a.item; found = a.found; within = h; gives = a.gives })
last_one P xs k x e r a (inr h) =
    let found : slice_get xs k ≡ Some a.item = subst (λ i. slice_get xs i ≡ Some a.item) h a.found in
    let same : a.item ≡ x = some_same a.item x (sym found ∙ e) in
    inr (subst (λ y. P k y r) same (subst (λ i. P i a.item r) h a.gives))

one_more : {X : Type 0} (P : ℕ → X → Refusal → Type 0) (xs : List X) (k : ℕ) (x : X) → slice_get xs k ≡ Some x → (r : Refusal) → Among P xs k r ⊎ P k x r → Among P xs (k + 1) r
one_more P xs k x e r (inl a) = record { index = a.index; item = a.item; found = a.found; within = (let h : a.index < k = a.within in omega arith); gives = a.gives }
one_more P xs k x e r (inr p) = record { index = k; item = x; found = e; within = omega arith; gives = p }

pub more : {X : Type 0} (P : ℕ → X → Refusal → Type 0) (xs : List X) (k : ℕ) (x : X) (best one new : Option Refusal) → slice_get xs k ≡ Some x → new ≡ earlier best one → IsFirstOf (Among P xs k) best → IsFirstOf (P k x) one → IsFirstOf (Among P xs (k + 1)) new
more P xs k x best one new e f p q =
    subst (λ o. IsFirstOf (Among P xs (k + 1)) o) (sym f)
    (same_first (λ r. Among P xs k r ⊎ P k x r) (Among P xs (k + 1)) (earlier best one) (one_more P xs k x e) (λ r a. last_one P xs k x e r a (closer a.index k a.within)) (either_first (Among P xs k) (P k x) best one p q))

pub none_yet : {X : Type 0} (P : ℕ → X → Refusal → Type 0) (xs : List X) → IsFirstOf (Among P xs 0) None
none_yet P xs = λ r a. let h : a.index < 0 = a.within in absurd (omega arith)

pub all_of : {X : Type 0} (P : ℕ → X → Refusal → Type 0) (xs : List X) (n : ℕ) (best : Option Refusal) → length xs ≤ n → IsFirstOf (Among P xs n) best → IsFirstOf (Somewhere P xs) best
all_of P xs n best h p =
    same_first (Among P xs n) (Somewhere P xs) best
    (λ r a. record { index = a.index; item = a.item; found = a.found; gives = a.gives })
    (λ r a. record { index = a.index; item = a.item; found = a.found; within = (let w : a.index < length xs = slice_get_within xs a.index a.item a.found in omega arith); gives = a.gives })
    p

-- an item whose refusal hangs on a test
pub more_tested : {X : Type 0} (P : ℕ → X → Refusal → Type 0) (xs : List X) (k : ℕ) (d : X) (b : Bool) (n p : ℕ) (best one new : Option Refusal) → k < length xs → one ≡ refused_if b n p → new ≡ earlier best one → (b ≡ true → P k (get_or xs k d) (refusal n p)) → ((r : Refusal) → P k (get_or xs k d) r → (b ≡ true) × (r ≡ refusal n p)) → IsFirstOf (Among P xs k) best → IsFirstOf (Among P xs (k + 1)) new
more_tested P xs k d b n p best one new h e f to fro before =
    more P xs k (get_or xs k d) best one new (slice_get-get_or xs k d h) f before (subst (λ o. IsFirstOf (P k (get_or xs k d)) o) (sym e) (tested_first (P k (get_or xs k d)) b n p to fro))

-- ---- Names that stand again

pub again_is : (xs : List Named) (k : ℕ) (x : Named) → is_before (first x.name.0 xs) k ≡ true → IsAgain xs k x (refusal twice x.place)
again_is xs k x h =
    let s = some_before (first x.name.0 xs) k h in
    let f = at_first (is_named x.name.0) xs s.0 x s.1 in
    record { index = s.0; item = f.0; found = f.1; before = s.2; same = named_is x.name.0 f.0 f.2; is = refl }

pub is_again : (xs : List Named) (k : ℕ) (x : Named) (r : Refusal) → IsAgain xs k x r → (is_before (first x.name.0 xs) k ≡ true) × (r ≡ refusal twice x.place)
is_again xs k x r a =
    let f = found_by (is_named x.name.0) xs a.index a.item a.found (is_named_of x.name.0 a.item a.same) in
    let h : a.index < k = a.before in
    let g : f.0 ≤ a.index = f.2 in
    (before_some (first x.name.0 xs) k f.0 f.1 (omega arith), a.is)

pub again_more : (xs items : List Named) (k : ℕ) (d : Named) (b : Bool) (best one new : Option Refusal) → items ≡ xs → k < length items → b ≡ is_before (first (get_or items k d).name.0 xs) k → one ≡ refused_if b twice (get_or items k d).place → new ≡ earlier best one → IsFirstOf (Among (IsAgain items) items k) best → IsFirstOf (Among (IsAgain items) items (k + 1)) new
again_more xs items k d b best one new same h test e f before =
    let x = get_or items k d in
    let t : b ≡ is_before (first (get_or items k d).name.0 items) k = test ∙ ap (λ ys. is_before (first (get_or items k d).name.0 ys) k) (sym same) in
    more_tested (IsAgain items) items k d b twice (get_or items k d).place best one new h e f (λ u. again_is items k (get_or items k d) (sym t ∙ u)) (λ r a. let g = is_again items k (get_or items k d) r a in (t ∙ g.0, g.1)) before

pub taken_more : (hs xs : List Named) (k : ℕ) (d : Named) (b : Bool) (best one new : Option Refusal) → k < length xs → b ≡ stands_in (get_or xs k d).name.0 hs → one ≡ refused_if b twice (get_or xs k d).place → new ≡ earlier best one → IsFirstOf (Among (IsTaken hs) xs k) best → IsFirstOf (Among (IsTaken hs) xs (k + 1)) new
taken_more hs xs k d b best one new h t e f before =
    more_tested (IsTaken hs) xs k d b twice (get_or xs k d).place best one new h e f (λ u. record { heads = sym t ∙ u; is = refl }) (λ r a. (t ∙ a.heads, a.is)) before

pub both : (a b : Bool) → (a && b) ≡ true → (a ≡ true) × (b ≡ true)
both true b h = (refl, h)
both false b h = absurd (clash false h refl)

pub both_of : (a b : Bool) → a ≡ true → b ≡ true → (a && b) ≡ true
both_of a b h k = ap (λ x. x && b) h ∙ k

pub assigned_more : (hs : List Named) (g : Outline) (xs : List Mention) (k : ℕ) (d : Mention) (b : Bool) (best one new : Option Refusal) → k < length xs → b ≡ ((get_or xs k d).assigned && (stands_in (get_or xs k d).name.0 g.labels || stands_in (get_or xs k d).name.0 hs)) → one ≡ refused_if b assigned (get_or xs k d).place → new ≡ earlier best one → IsFirstOf (Among (IsAssigned hs g) xs k) best → IsFirstOf (Among (IsAssigned hs g) xs (k + 1)) new
assigned_more hs g xs k d b best one new h t e f before =
    more_tested (IsAssigned hs g) xs k d b assigned (get_or xs k d).place best one new h e f
    (λ u. let w = both (get_or xs k d).assigned (stands_in (get_or xs k d).name.0 g.labels || stands_in (get_or xs k d).name.0 hs) (sym t ∙ u) in record { changed = w.0; fixed = w.1; is = refl })
    (λ r a. (t ∙ both_of (get_or xs k d).assigned (stands_in (get_or xs k d).name.0 g.labels || stands_in (get_or xs k d).name.0 hs) a.changed a.fixed, a.is))
    before

-- ---- MAIN, and one function

pub negated : (b : Bool) → not b ≡ true → b ≡ false
negated true h = absurd (clash false h refl)
negated false h = refl

pub negate : (b : Bool) → b ≡ false → not b ≡ true
negate b h = ap not h

pub mainless : (ns : List (List ℕ)) (fs : List Outline) (b : Bool) → b ≡ list_any (is_start ns) fs → IsFirstOf (IsMainless ns fs) (refused_if (not b) no_main (main_place ns fs))
mainless ns fs b e = tested_first (IsMainless ns fs) (not b) no_main (main_place ns fs) (λ h. record { none = sym e ∙ negated b h; is = refl }) (λ r a. (negate b (e ∙ a.none), a.is))

pub in_one : (hs : List Named) (k : ℕ) (g : Outline) (a b c : Option Refusal) → IsFirstOf (Somewhere (IsAgain g.locals) g.locals) a → IsFirstOf (Somewhere (IsTaken hs) g.locals) b → IsFirstOf (Somewhere (IsAssigned hs g) g.mentions) c → IsFirstOf (StandsIn hs k g) (earlier (earlier a b) c)
in_one hs k g a b c p q s =
    same_first (λ r. (Somewhere (IsAgain g.locals) g.locals r ⊎ Somewhere (IsTaken hs) g.locals r) ⊎ Somewhere (IsAssigned hs g) g.mentions r) (StandsIn hs k g) (earlier (earlier a b) c)
    (λ r h. elim h as (λ _. StandsIn hs k g r) [ inl u ↦ (elim u as (λ _. StandsIn hs k g r) [ inl v ↦ local_again v | inr v ↦ local_taken v ]) | inr v ↦ name_assigned v ])
    (λ r h. elim h as (λ _. (Somewhere (IsAgain g.locals) g.locals r ⊎ Somewhere (IsTaken hs) g.locals r) ⊎ Somewhere (IsAssigned hs g) g.mentions r) [ local_again v ↦ inl (inl v) | local_taken v ↦ inl (inr v) | name_assigned v ↦ inr v ])
    (either_first (λ r. Somewhere (IsAgain g.locals) g.locals r ⊎ Somewhere (IsTaken hs) g.locals r) (Somewhere (IsAssigned hs g) g.mentions) (earlier a b) c (either_first (Somewhere (IsAgain g.locals) g.locals) (Somewhere (IsTaken hs) g.locals) a b p q) s)

-- The number of a name stays as further names come, and slices of a text are numbered as their bytes are.
use Rattle.std.proofs.Common.{◌≡◌, ℕ, ◌+◌, ◌≤◌, ◌<◌, Bool, true, false, cond, not, ◌||◌, List, [], ◌∷◌, ◌++◌, refl, sym, ap, ap₂, ◌∙◌, subst, map, length, arith, fold, get_or, zero, suc, append_assoc, length-append}
use Rattle.std.specs.Borrow.{Bor}
use Rattle.std.specs.List.{list_any, position_or_len}
use Rattle.std.specs.Prelude.{bytes_eq, if◌then◌else◌}
use Rattle.std.proofs.lemmas.List.{map_push}
use Rattle.std.proofs.lemmas.Slice.Eq.{bytes_eq-Decides}
use Rattle.aplc_lex.specs.Tokens.{Rise}
use Rattle.aplc_syntax.specs.Numbers.{read_out}
use Rattle.aplc_lex.specs.declared.token.Token.{Token}
use Rattle.aplc_lex.specs.declared.token.TokenKind.{TokenKind}
use Rattle.aplc_lex.specs.declared.token.TokenKind.TheVariants as k
use Rattle.aplc_syntax.specs.Words.{with_name, with_token, number_of, spelling, kind_of, word, word_of, is_name}
use Rattle.aplc_syntax.specs.declared.word.Role.TheVariants as role
use Rattle.aplc_syntax.specs.declared.word.Word.{Word}
use Rattle.aplc_syntax.specs.declared.word.WordKind.{WordKind}
use Rattle.aplc_syntax.specs.declared.word.WordKind.TheVariants as w

-- ---- Slices and their bytes

abbrev Slices : Type 0
Slices = List (Bor (List ℕ))

abbrev bytes_of : Slices → List (List ℕ)
bytes_of ks = map (λ (k : Bor (List ℕ)). k.now) ks

any_bytes : (x : List ℕ) (ks : Slices) → list_any (λ (k : Bor (List ℕ)). bytes_eq x k.now) ks ≡ list_any (bytes_eq x) (bytes_of ks)
any_bytes x [] = refl
any_bytes x (y ∷ ks) = ap (λ b. bytes_eq x y.now || b) (any_bytes x ks)

position_bytes : (x : List ℕ) (ks : Slices) → position_or_len (λ (k : Bor (List ℕ)). bytes_eq x k.now) ks ≡ position_or_len (bytes_eq x) (bytes_of ks)
position_bytes x [] = refl
position_bytes x (y ∷ ks) = ap (λ n. cond (not (bytes_eq x y.now)) (1 + n) 0) (position_bytes x ks)

same_bytes : (x : List ℕ) → bytes_eq x x ≡ true
same_bytes x = (bytes_eq-Decides x x).1 refl

-- ---- Places

at_most : {X : Type 0} (p : X → Bool) (xs : List X) → position_or_len p xs ≤ length xs
at_most p [] = omega arith
at_most p (x ∷ xs) = elim (p x) as (λ b. cond (not b) (1 + position_or_len p xs) 0 ≤ length (x ∷ xs)) [ true ↦ omega arith | false ↦ (let h = at_most p xs in omega arith) ]

stays_behind : {X : Type 0} (p : X → Bool) (xs ys : List X) → list_any p xs ≡ true → position_or_len p (xs ++ ys) ≡ position_or_len p xs
stays_behind p [] ys h = cc
stays_behind p (x ∷ xs) ys h = elim (p x) as (λ b. (b || list_any p xs) ≡ true → cond (not b) (1 + position_or_len p (xs ++ ys)) 0 ≡ cond (not b) (1 + position_or_len p xs) 0) [ true ↦ (λ g. refl) | false ↦ (λ g. ap (λ n. 1 + n) (stays_behind p xs ys g)) ] h

new_behind : {X : Type 0} (p : X → Bool) (xs : List X) (y : X) → list_any p xs ≡ false → p y ≡ true → position_or_len p (xs ++ y ∷ []) ≡ position_or_len p xs
new_behind p [] y h g = ap (λ b. cond (not b) 1 0) g
new_behind p (x ∷ xs) y h g = elim (p x) as (λ b. (b || list_any p xs) ≡ false → cond (not b) (1 + position_or_len p (xs ++ y ∷ [])) 0 ≡ cond (not b) (1 + position_or_len p xs) 0) [ true ↦ (λ f. refl) | false ↦ (λ f. ap (λ n. 1 + n) (new_behind p xs y f g)) ] h

any_append : {X : Type 0} (p : X → Bool) (xs ys : List X) → list_any p xs ≡ true → list_any p (xs ++ ys) ≡ true
any_append p [] ys h = cc
any_append p (x ∷ xs) ys h = elim (p x) as (λ b. (b || list_any p xs) ≡ true → (b || list_any p (xs ++ ys)) ≡ true) [ true ↦ (λ g. refl) | false ↦ (λ g. any_append p xs ys g) ] h

any_last : {X : Type 0} (p : X → Bool) (xs : List X) (y : X) → p y ≡ true → list_any p (xs ++ y ∷ []) ≡ true
any_last p [] y g = ap (λ b. b || false) g
any_last p (x ∷ xs) y g = elim (p x) as (λ b. (b || list_any p (xs ++ y ∷ [])) ≡ true) [ true ↦ refl | false ↦ any_last p xs y g ]

-- ---- One name more

-- with one name more, its number is the place that it had or gets
pub number_with : (seen : List (List ℕ)) (x : List ℕ) → number_of (with_name seen x) x ≡ position_or_len (bytes_eq x) seen
number_with seen x = pick (list_any (bytes_eq x) seen) refl
  where
    pick : (b : Bool) → list_any (bytes_eq x) seen ≡ b → number_of (if b then seen else seen ++ x ∷ []) x ≡ position_or_len (bytes_eq x) seen
    pick true h = refl
    pick false h = new_behind (bytes_eq x) seen x h (same_bytes x)

known_with : (seen : List (List ℕ)) (x : List ℕ) → list_any (bytes_eq x) (with_name seen x) ≡ true
known_with seen x = pick (list_any (bytes_eq x) seen) refl
  where
    pick : (b : Bool) → list_any (bytes_eq x) seen ≡ b → list_any (bytes_eq x) (if b then seen else seen ++ x ∷ []) ≡ true
    pick true h = h
    pick false h = any_last (bytes_eq x) seen x (same_bytes x)

-- where the slice is new, and where it isn't
pub linked_new : (ks js : Slices) (names new : List (List ℕ)) (x : Bor (List ℕ)) (is_new : Bool)
    → bytes_of ks ≡ names → js ≡ (if list_any (λ (k : Bor (List ℕ)). bytes_eq x.now k.now) ks then ks else ks ++ x ∷ [])
    → is_new ≡ not (list_any (λ (k : Bor (List ℕ)). bytes_eq x.now k.now) ks) → is_new ≡ true → new ≡ names ++ x.now ∷ []
    → (bytes_of js ≡ new) × (new ≡ with_name names x.now)
linked_new ks js names new x is_new e j i t n =
    let off : list_any (λ (k : Bor (List ℕ)). bytes_eq x.now k.now) ks ≡ false = flip _ (sym i ∙ t) in
    let off2 : list_any (bytes_eq x.now) names ≡ false = ap (list_any (bytes_eq x.now)) (sym e) ∙ sym (any_bytes x.now ks) ∙ off in (
      ap bytes_of (j ∙ ap (λ (b : Bool). if b then ks else ks ++ x ∷ []) off) ∙ map_push (λ (k : Bor (List ℕ)). k.now) ks x ∙ ap (λ (ns : List (List ℕ)). ns ++ x.now ∷ []) e ∙ sym n,
      n ∙ sym (ap (λ (b : Bool). if b then names else names ++ x.now ∷ []) off2),
    )
  where
    flip : (b : Bool) → not b ≡ true → b ≡ false
    flip true h = cc
    flip false h = refl

pub linked_old : (ks js : Slices) (names : List (List ℕ)) (x : Bor (List ℕ)) (is_new : Bool)
    → bytes_of ks ≡ names → js ≡ (if list_any (λ (k : Bor (List ℕ)). bytes_eq x.now k.now) ks then ks else ks ++ x ∷ [])
    → is_new ≡ not (list_any (λ (k : Bor (List ℕ)). bytes_eq x.now k.now) ks) → is_new ≡ false
    → (bytes_of js ≡ names) × (names ≡ with_name names x.now)
linked_old ks js names x is_new e j i t =
    let on : list_any (λ (k : Bor (List ℕ)). bytes_eq x.now k.now) ks ≡ true = flip _ (sym i ∙ t) in
    let on2 : list_any (bytes_eq x.now) names ≡ true = ap (list_any (bytes_eq x.now)) (sym e) ∙ sym (any_bytes x.now ks) ∙ on in
    (ap bytes_of (j ∙ ap (λ (b : Bool). if b then ks else ks ++ x ∷ []) on) ∙ e, sym (ap (λ (b : Bool). if b then names else names ++ x.now ∷ []) on2))
  where
    flip : (b : Bool) → not b ≡ false → b ≡ true
    flip true h = refl
    flip false h = cc

pub number_linked : (ks : Slices) (names new : List (List ℕ)) (x : Bor (List ℕ)) (n : ℕ) → bytes_of ks ≡ names → new ≡ with_name names x.now → n ≡ position_or_len (λ (k : Bor (List ℕ)). bytes_eq x.now k.now) ks → n ≡ number_of new x.now
number_linked ks names new x n e w i = i ∙ position_bytes x.now ks ∙ ap (position_or_len (bytes_eq x.now)) e ∙ sym (number_with names x.now) ∙ sym (ap (λ (ns : List (List ℕ)). number_of ns x.now) w)

-- ---- Tokens

with_keeps : (seen : List (List ℕ)) (x y : List ℕ) → list_any (bytes_eq x) seen ≡ true → (list_any (bytes_eq x) (with_name seen y) ≡ true) × (number_of (with_name seen y) x ≡ number_of seen x)
with_keeps seen x y h = pick (list_any (bytes_eq y) seen)
  where
    pick : (b : Bool) → (list_any (bytes_eq x) (if b then seen else seen ++ y ∷ []) ≡ true) × (number_of (if b then seen else seen ++ y ∷ []) x ≡ number_of seen x)
    pick true = (h, refl)
    pick false = (any_append (bytes_eq x) seen (y ∷ []) h, stays_behind (bytes_eq x) seen (y ∷ []) h)

token_keeps : (text : List ℕ) (seen : List (List ℕ)) (x : List ℕ) (t : Token) → list_any (bytes_eq x) seen ≡ true → (list_any (bytes_eq x) (with_token text seen t) ≡ true) × (number_of (with_token text seen t) x ≡ number_of seen x)
token_keeps text seen x t h = pick (is_name t.kind)
  where
    pick : (b : Bool) → (list_any (bytes_eq x) (if b then with_name seen (spelling text t) else seen) ≡ true) × (number_of (if b then with_name seen (spelling text t) else seen) x ≡ number_of seen x)
    pick true = with_keeps seen x (spelling text t) h
    pick false = (h, refl)

-- the number of a name that was met is its number among all names
number_stays : (text : List ℕ) (x : List ℕ) (seen : List (List ℕ)) (ts : List Token) → list_any (bytes_eq x) seen ≡ true → number_of seen x ≡ number_of (fold (with_token text) seen ts) x
number_stays text x seen [] h = refl
number_stays text x seen (t ∷ ts) h = let g = token_keeps text seen x t h in sym g.1 ∙ number_stays text x (with_token text seen t) ts g.0

known_name : (text : List ℕ) (seen : List (List ℕ)) (t : Token) → t.kind ≡ k.Name → with_name seen (spelling text t) ≡ with_token text seen t
known_name text seen t e = sym (ap (λ (j : TokenKind). if is_name j then with_name seen (spelling text t) else seen) e)

-- what a token is where the names so far are known is what it is where all are
pub kind_stays : (text : List ℕ) (seen : List (List ℕ)) (t : Token) (kind : TokenKind) (ts : List Token) → t.kind ≡ kind → kind_of text (with_token text seen t) t kind ≡ kind_of text (fold (with_token text) (with_token text seen t) ts) t kind
kind_stays text seen t k.Name ts e = ap (w.Name role.Variable) (number_stays text (spelling text t) (with_token text seen t) ts (subst (λ (ns : List (List ℕ)). list_any (bytes_eq (spelling text t)) ns ≡ true) (known_name text seen t e) (known_with seen (spelling text t))))
kind_stays text seen t _ ts e = refl

-- ---- The loop

-- at most one name more
few_with : (text : List ℕ) (seen : List (List ℕ)) (t : Token) → length (with_token text seen t) ≤ length seen + 1
few_with text seen t = pick (is_name t.kind) (list_any (bytes_eq (spelling text t)) seen)
  where
    pick : (b d : Bool) → length (if b then (if d then seen else seen ++ spelling text t ∷ []) else seen) ≤ length seen + 1
    pick true true = omega arith
    pick true false = omega (arith, length-append seen (spelling text t ∷ []))
    pick false d = omega arith

pub few_more : (text : List ℕ) (seen new : List (List ℕ)) (t : Token) (i : ℕ) → new ≡ with_token text seen t → length seen ≤ i → length new ≤ i + 1
few_more text seen new t i e h = let g = few_with text seen t in omega (arith, ap (λ (ns : List (List ℕ)). length ns) e)

-- a token stands in the text, and there are no more tokens than bytes
pub rises : (ts : List Token) (p q i : ℕ) (d : Token) → Rise p ts q → i < length ts → ((get_or ts i d).span.from < (get_or ts i d).span.to) × ((get_or ts i d).span.to ≤ q) × (i < q)
rises [] p q i d h l = absurd (omega arith)
rises (t ∷ ts) p q zero d h l = (h.1, ends ts t.span.to q h.2, let g = ends ts t.span.to q h.2 in omega (arith, h.1))
  where
    ends : (us : List Token) (a b : ℕ) → Rise a us b → a ≤ b
    ends [] a b g = g
    ends (u ∷ us) a b g = let k = ends us u.span.to b g.2 in omega (arith, g.0, g.1)
rises (t ∷ ts) p q (suc i) d h l = let g = behind ts t.span.to q i d h.2 (omega arith) in (g.0, g.1, omega (arith, g.2, h.1))
  where
    ends : (us : List Token) (a b : ℕ) → Rise a us b → a ≤ b
    ends [] a b g = g
    ends (u ∷ us) a b g = let k = ends us u.span.to b g.2 in omega (arith, g.0, g.1)

    behind : (us : List Token) (a b j : ℕ) (e : Token) → Rise a us b → j < length us → ((get_or us j e).span.from < (get_or us j e).span.to) × ((get_or us j e).span.to ≤ b) × (a + j < b)
    behind [] a b j e g m = absurd (omega arith)
    behind (u ∷ us) a b zero e g m = (g.1, ends us u.span.to b g.2, let k = ends us u.span.to b g.2 in omega (arith, g.0, g.1))
    behind (u ∷ us) a b (suc j) e g m = let k = behind us u.span.to b j e g.2 (omega arith) in (k.0, k.1, omega (arith, k.2, g.0, g.1))

-- there are no more tokens than bytes
pub fewer : (ts : List Token) (p q i : ℕ) → Rise p ts q → i < length ts → i < q
fewer ts p q i h l = (rises ts p q i (record { kind = k.Name; span = record { from = 0; to = 0 } }) h l).2

-- one token more
pub read_more : (text : List ℕ) (seen new : List (List ℕ)) (out out2 : List Word) (t : Token) (kind : WordKind) (w : Word) (ts : List Token) → new ≡ with_token text seen t → kind ≡ kind_of text new t t.kind → w ≡ word kind t.span.from → out2 ≡ out ++ w ∷ []
    → read_out text new out2 ts ≡ read_out text seen out (t ∷ ts)
read_more text seen new out out2 t kind w ts e k m p =
    let names : fold (with_token text) new ts ≡ fold (with_token text) (with_token text seen t) ts = ap (λ (ns : List (List ℕ)). fold (with_token text) ns ts) e in
    let all : List (List ℕ) = fold (with_token text) (with_token text seen t) ts in
    let g : kind ≡ kind_of text all t t.kind = k ∙ ap (λ (ns : List (List ℕ)). kind_of text ns t t.kind) e ∙ kind_stays text seen t t.kind ts refl in
    let out3 : out2 ≡ out ++ word_of text all t ∷ [] = p ∙ ap (λ (y : Word). out ++ y ∷ []) (m ∙ ap (λ (j : WordKind). word j t.span.from) g) in
    ap₂ (λ (ns : List (List ℕ)) (ws : List Word). (ns, ws ++ map (word_of text ns) ts)) names out3
    ∙ ap (λ (ws : List Word). (all, ws)) (append_assoc out (word_of text all t ∷ []) (map (word_of text all) ts))

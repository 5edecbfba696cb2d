-- How a text is cut head by head, and that this goes in one way.
use Rattle.std.proofs.Common.{◌≡◌, ℕ, ◌+◌, ◌≤◌, ◌<◌, List, [], ◌∷◌, ◌++◌, arith, sym, ap, ap₂, ◌∙◌, refl, subst, drop, length, drop-cons, append_assoc, drop-drop}
use Rattle.std.proofs.Math.ListN.{drop_of_length-le}
use Rattle.std.proofs.lemmas.List.{append-nil}
use Rattle.aplc_lex.specs.Heads.{head}
use Rattle.aplc_lex.specs.Tokens.{IsCut, at_end, skips, finds, Meets, meets_here, meets_behind_skip, meets_behind_token, token, refusal, Rise}
use Rattle.aplc_lex.specs.declared.token.Head.{Head}
use Rattle.aplc_lex.specs.declared.token.Head.TheVariants as f
use Rattle.aplc_lex.specs.declared.token.Token.{Token}
use Rattle.aplc_lex.specs.declared.token.TokenKind.{TokenKind}
use Rattle.aplc_lex.specs.declared.token.Refusal.{Refusal}

-- what is cut from place `at` on is cut from `start` on, behind the tokens so far; they stand before `at`
pub record SoFar (text : List ℕ) (start at : ℕ) (out : List Token) : Type 0 where
  pub cut : (ts : List Token) → IsCut (drop at text) at ts → IsCut (drop start text) start (out ++ ts)
  pub met : (r : Refusal) → Meets (drop at text) at r → Meets (drop start text) start r
  pub rise : Rise 0 out at

pub so_far_begins : (text : List ℕ) (start : ℕ) (out : List Token) → out ≡ [] → SoFar text start start out
so_far_begins text start out e = subst (λ (xs : List Token). SoFar text start start xs) (sym e) (record { cut = λ ts c. c; met = λ r m. m; rise = omega arith })

rest_after : (text : List ℕ) (p n : ℕ) → drop n (drop p text) ≡ drop (p + n) text
rest_after text p n = drop-drop n p text

rise_more : (p q r : ℕ) (ts : List Token) → q ≤ r → Rise p ts q → Rise p ts r
rise_more p q r [] h i = omega arith
rise_more p q r (t ∷ ts) h i = (i.0, i.1, rise_more t.span.to q r ts h i.2)

rise_push : (p q n : ℕ) (k : TokenKind) (ts : List Token) → 0 < n → Rise p ts q → Rise p (ts ++ token k q n ∷ []) (q + n)
rise_push p q n k [] h i = (i, omega arith, omega arith)
rise_push p q n k (t ∷ ts) h i = (i.0, i.1, rise_push t.span.to q n k ts h i.2)

pub so_far_skips : (text : List ℕ) (start p n : ℕ) (out : List Token) → f.Skip n ≡ head (drop p text) → SoFar text start p out → SoFar text start (p + n) out
so_far_skips text start p n out e s = record {
  cut = λ ts c. s.cut ts (skips (sym e) (subst (λ (bs : List ℕ). IsCut bs (p + n) ts) (sym (rest_after text p n)) c));
  met = λ r m. s.met r (meets_behind_skip (sym e) (subst (λ (bs : List ℕ). Meets bs (p + n) r) (sym (rest_after text p n)) m));
  rise = rise_more 0 p (p + n) out (omega arith) s.rise;
}

pub so_far_finds : (text : List ℕ) (start p n : ℕ) (k : TokenKind) (out : List Token) → f.Found k n ≡ head (drop p text) → 0 < n → SoFar text start p out → SoFar text start (p + n) (out ++ token k p n ∷ [])
so_far_finds text start p n k out e h s = record {
  cut = λ ts c. subst (λ (us : List Token). IsCut (drop start text) start us) (sym (append_assoc out (token k p n ∷ []) ts))
      (s.cut (token k p n ∷ ts) (finds (sym e) (subst (λ (bs : List ℕ). IsCut bs (p + n) ts) (sym (rest_after text p n)) c)));
  met = λ r m. s.met r (meets_behind_token (sym e) (subst (λ (bs : List ℕ). Meets bs (p + n) r) (sym (rest_after text p n)) m));
  rise = rise_push 0 p n k out h s.rise;
}

pub so_far_bad : (text : List ℕ) (start p n : ℕ) (out : List Token) → p < length text → f.Bad n ≡ head (drop p text) → SoFar text start p out → Meets (drop start text) start (refusal n p)
so_far_bad text start p n out h e s = let d = drop-cons text p 0 h in
    s.met (refusal n p) (subst (λ (bs : List ℕ). Meets bs p (refusal n p)) (sym d) (meets_here (sym (e ∙ ap head d))))

pub so_far_ends : (text : List ℕ) (start p : ℕ) (out : List Token) → length text ≤ p → SoFar text start p out → IsCut (drop start text) start out
so_far_ends text start p out h s =
    subst (λ (us : List Token). IsCut (drop start text) start us) (append-nil out)
    (s.cut [] (subst (λ (bs : List ℕ). IsCut bs p []) (sym (drop_of_length-le text h)) at_end))

-- two heads of one text
same_skip : (x : Head) (n m : ℕ) → x ≡ f.Skip n → x ≡ f.Skip m → m ≡ n
same_skip x n m d e = cc

same_width : (x : Head) (k j : TokenKind) (n m : ℕ) → x ≡ f.Found k n → x ≡ f.Found j m → m ≡ n
same_width x k j n m d e = cc

same_kind : (x : Head) (k j : TokenKind) (n m : ℕ) → x ≡ f.Found k n → x ≡ f.Found j m → j ≡ k
same_kind x k j n m d e = cc

same_number : (x : Head) (n m : ℕ) → x ≡ f.Bad n → x ≡ f.Bad m → n ≡ m
same_number x n m d e = cc

skip_or_found : (x : Head) (k : TokenKind) (n m : ℕ) → x ≡ f.Skip n → x ≡ f.Found k m → ⊥
skip_or_found x k n m d e = cc

bad_or_skip : (x : Head) (n m : ℕ) → x ≡ f.Bad n → x ≡ f.Skip m → ⊥
bad_or_skip x n m d e = cc

bad_or_found : (x : Head) (k : TokenKind) (n m : ℕ) → x ≡ f.Bad n → x ≡ f.Found k m → ⊥
bad_or_found x k n m d e = cc

none_skipped : (n : ℕ) → head [] ≡ f.Skip n → ⊥
unfolding head
none_skipped n e = cc

none_found : (k : TokenKind) (n : ℕ) → head [] ≡ f.Found k n → ⊥
unfolding head
none_found k n e = cc

-- a text is cut into one list of tokens at most
pub cut_once : {bs : List ℕ} {p : ℕ} {ts us : List Token} → IsCut bs p ts → IsCut bs p us → us ≡ ts
cut_once at_end at_end = refl
cut_once at_end (skips e d) = absurd (none_skipped _ e)
cut_once at_end (finds e d) = absurd (none_found _ _ e)
cut_once (skips e c) at_end = absurd (none_skipped _ e)
cut_once {bs = bs} {p = p} {us = us} (skips e c) (skips g d) = cut_once c (subst (λ j. IsCut (drop j bs) (p + j) us) (same_skip (head bs) _ _ e g) d)
cut_once {bs = bs} (skips e c) (finds g d) = absurd (skip_or_found (head bs) _ _ _ e g)
cut_once (finds e c) at_end = absurd (none_found _ _ e)
cut_once {bs = bs} (finds e c) (skips g d) = absurd (skip_or_found (head bs) _ _ _ g e)
cut_once {bs = bs} {p = p} (finds {n = n} {k = k} {ts = ts} e c) (finds {n = m} {k = j} {ts = us} g d) =
    ap₂ (λ (t : Token) (xs : List Token). t ∷ xs)
    (ap₂ (λ (x : TokenKind) (i : ℕ). token x p i) (same_kind (head bs) k j n m e g) (same_width (head bs) k j n m e g))
    (cut_once c (subst (λ i. IsCut (drop i bs) (p + i) us) (same_width (head bs) k j n m e g) d))

-- and comes to one refused head at most
pub met_once : {bs : List ℕ} {p : ℕ} {r t : Refusal} → Meets bs p r → Meets bs p t → r ≡ t
met_once {p = p} (meets_here {b = b} {bs = bs} {n = n} e) (meets_here {n = m} g) = ap (λ i. refusal i p) (same_number (head (b ∷ bs)) n m e g)
met_once (meets_here {b = b} {bs = bs} e) (meets_behind_skip g m) = absurd (bad_or_skip (head (b ∷ bs)) _ _ e g)
met_once (meets_here {b = b} {bs = bs} e) (meets_behind_token g m) = absurd (bad_or_found (head (b ∷ bs)) _ _ _ e g)
met_once (meets_behind_skip e l) (meets_here {b = b} {bs = bs} g) = absurd (bad_or_skip (head (b ∷ bs)) _ _ g e)
met_once {bs = bs} {p = p} {t = t} (meets_behind_skip e l) (meets_behind_skip g m) = met_once l (subst (λ j. Meets (drop j bs) (p + j) t) (same_skip (head bs) _ _ e g) m)
met_once {bs = bs} (meets_behind_skip e l) (meets_behind_token g m) = absurd (skip_or_found (head bs) _ _ _ e g)
met_once (meets_behind_token e l) (meets_here {b = b} {bs = bs} g) = absurd (bad_or_found (head (b ∷ bs)) _ _ _ g e)
met_once {bs = bs} (meets_behind_token e l) (meets_behind_skip g m) = absurd (skip_or_found (head bs) _ _ _ g e)
met_once {bs = bs} {p = p} {t = t} (meets_behind_token e l) (meets_behind_token g m) = met_once l (subst (λ j. Meets (drop j bs) (p + j) t) (same_width (head bs) _ _ _ _ e g) m)

-- and does not do both
pub cut_or_met : {bs : List ℕ} {p : ℕ} {ts : List Token} {r : Refusal} → IsCut bs p ts → Meets bs p r → ⊥
cut_or_met at_end (meets_behind_skip g m) = none_skipped _ g
cut_or_met at_end (meets_behind_token g m) = none_found _ _ g
cut_or_met (skips e c) (meets_here {b = b} {bs = bs} g) = bad_or_skip (head (b ∷ bs)) _ _ g e
cut_or_met {bs = bs} {p = p} {r = r} (skips e c) (meets_behind_skip g m) = cut_or_met c (subst (λ j. Meets (drop j bs) (p + j) r) (same_skip (head bs) _ _ e g) m)
cut_or_met {bs = bs} (skips e c) (meets_behind_token g m) = skip_or_found (head bs) _ _ _ e g
cut_or_met (finds e c) (meets_here {b = b} {bs = bs} g) = bad_or_found (head (b ∷ bs)) _ _ _ g e
cut_or_met {bs = bs} (finds e c) (meets_behind_skip g m) = skip_or_found (head bs) _ _ _ g e
cut_or_met {bs = bs} {p = p} {r = r} (finds e c) (meets_behind_token g m) = cut_or_met c (subst (λ j. Meets (drop j bs) (p + j) r) (same_width (head bs) _ _ _ _ e g) m)

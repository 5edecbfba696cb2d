-- The first refusal of a text.
use Rattle.std.proofs.Common.{◌≡◌, ℕ, ◌≤◌, ◌<◌, ◌+◌, ◌-◌, All, drop-drop, List, arith, Result, Ok, Err, Option, Some, None, MatchOption, IfOk, IfErr, sym, ap, ◌∙◌, refl, subst, drop, inl, inr, Bool, true, false, cond, nat_lt, Vec, IsUtf8}
use Rattle.std.specs.Str.{IsValidUpTo}
use Rattle.std.proofs.lemmas.Str.{utf8_valid_len-IsUtf8, utf8_valid_len-IsValidUpTo}
use Rattle.std.proofs.lemmas.Bool.Decides.{nat_tests}
use Rattle.std.proofs.lemmas.List.Elements.{All-nil, All-cons}
use Rattle.aplc_lex.specs.Heads.{head}
use Rattle.aplc_lex.specs.declared.token.Head.TheVariants as h
use Rattle.aplc_lex.specs.Tokens.{StandsIn, token, at_end, skips, finds, Meets, IsCut, mark, refusal, IsBefore, IsFirst, AreTokens, Refuses, is_excused}
use Rattle.aplc_lex.specs.Parts.{Answers, IsOfHead, Joined, earlier}
use Rattle.aplc_lex.proofs.Steps.{met_once, cut_or_met, cut_once}
use Rattle.aplc_lex.specs.declared.token.Token.{Token}
use Rattle.aplc_lex.specs.declared.token.Refusal.{Refusal}
use Rattle.aplc_lex.specs.declared.token.Stop.{Stop}
use Rattle.aplc_lex.specs.declared.token.Stop.TheVariants as s

-- a refused head behind the mark
abbrev Met : List ℕ → Refusal → Type 0
Met text r = Meets (drop (mark text) text) (mark text) r

-- the tokens behind the mark
abbrev Cut : List ℕ → List Token → Type 0
Cut text ts = IsCut (drop (mark text) text) (mark text) ts

pub not_both : (text : List ℕ) (n : ℕ) → IsUtf8 text → IsValidUpTo text n → ⊥
not_both text n u v = let a = utf8_valid_len-IsUtf8 text u in let b = utf8_valid_len-IsValidUpTo text n v in let c = v.short in omega arith

one_place : (text : List ℕ) (n m : ℕ) → IsValidUpTo text n → IsValidUpTo text m → n ≡ m
one_place text n m v w = sym (utf8_valid_len-IsValidUpTo text n v) ∙ utf8_valid_len-IsValidUpTo text m w

-- the refusal of a head, where the text is UTF-8
pub head_first : (text : List ℕ) (r : Refusal) → IsUtf8 text → Met text r → IsFirst text r
head_first text r u e = record {
  stands = inr (e, λ g v. absurd (not_both text g u v));
  first = λ t h. elim h as (λ x. IsBefore r t) [ inl c ↦ absurd (not_both text t.place u c.1) | inr c ↦ (let same : r ≡ t = met_once e c.0 in inr (ap (λ (x : Refusal). x.place) same, omega (arith, ap (λ (x : Refusal). x.number) same))) ];
}

-- where it is not, and no head is refused
pub utf8_first : (text : List ℕ) (g : ℕ) (ts : List Token) → IsValidUpTo text g → Cut text ts → IsFirst text (refusal 1 g)
utf8_first text g ts v e = record {
  stands = inl (refl, v);
  first = λ t h. elim h as (λ x. IsBefore (refusal 1 g) t) [ inl c ↦ inr (one_place text g t.place v c.1, omega (arith, c.0)) | inr c ↦ absurd (cut_or_met e c.0) ];
}

at_least : (r t : Refusal) (g : ℕ) → 2 ≤ r.number → r ≡ t → nat_lt r.place g ≡ false → IsBefore (refusal 1 g) t
at_least r t g two same h = let p = ap (λ (x : Refusal). x.place) same in let n = ap (λ (x : Refusal). x.number) same in let le : g ≤ r.place = grind (arith, nat_tests) in
    elim (nat_lt g r.place) as (λ b. nat_lt g r.place ≡ b → IsBefore (refusal 1 g) t) [ true ↦ (λ q. inl (let l : g < r.place = grind (arith, nat_tests) in omega arith)) | false ↦ (λ q. inr (let l : r.place ≤ g = grind (arith, nat_tests) in (omega arith, omega arith))) ] refl

-- a refusal that is excused is no cause
excused_not : (text : List ℕ) (r t : Refusal) (g : ℕ) → r ≡ t → is_excused text r g ≡ true → is_excused text t g ≡ false → ⊥
excused_not text r t g same a b = let d : is_excused text r g ≡ is_excused text t g = ap (λ (x : Refusal). is_excused text x g) same in cc

not_excused : (text : List ℕ) (r : Refusal) (g q : ℕ) → g ≡ q → is_excused text r g ≡ false → is_excused text r q ≡ false
not_excused text r g q e h = ap (is_excused text r) (sym e) ∙ h

pick_first : (text : List ℕ) (g : ℕ) (r : Refusal) → 2 ≤ r.number → IsValidUpTo text g → Met text r
    → (b e : Bool) → nat_lt r.place g ≡ b → is_excused text r g ≡ e → IsFirst text (cond b (cond e (refusal 1 g) r) (refusal 1 g))
pick_first text g r two v m true false h x = record {
  stands = inr (m, λ q w. not_excused text r g q (one_place text g q v w) x);
  first = λ t k. elim k as (λ z. IsBefore r t) [ inl c ↦ (let p = one_place text g t.place v c.1 in let q : r.place < g = grind (arith, nat_tests) in inl (omega arith)) | inr c ↦ (let same : r ≡ t = met_once m c.0 in inr (ap (λ (z : Refusal). z.place) same, omega (arith, ap (λ (z : Refusal). z.number) same))) ];
}
pick_first text g r two v m true true h x = record {
  stands = inl (refl, v);
  first = λ t k. elim k as (λ z. IsBefore (refusal 1 g) t) [ inl c ↦ inr (one_place text g t.place v c.1, omega (arith, c.0)) | inr c ↦ absurd (excused_not text r t g (met_once m c.0) x (c.1 g v)) ];
}
pick_first text g r two v m false e h x = record {
  stands = inl (refl, v);
  first = λ t k. elim k as (λ z. IsBefore (refusal 1 g) t) [ inl c ↦ inr (one_place text g t.place v c.1, omega (arith, c.0)) | inr c ↦ at_least r t g two (met_once m c.0) h ];
}

-- where both refuse
pub both_first : (text : List ℕ) (g : ℕ) (r : Refusal) → 2 ≤ r.number → IsValidUpTo text g → Met text r → IsFirst text (earlier text r g)
both_first text g r two v m = pick_first text g r two v m (nat_lt r.place g) (is_excused text r g) refl refl

-- what follows from the answers of the parts
final : {A : Type 0} (text : List ℕ) (x : Result (Vec Token A) Stop) (bad : Option ℕ) (y : Result (Vec Token A) Stop)
    → Answers (drop (mark text) text) (mark text) x → IfErr x IsOfHead → MatchOption bad (IsUtf8 text) (λ p. IsValidUpTo text p) → Joined text x bad y
    → IfOk y (λ v. AreTokens text v.items) × IfErr y (λ z. Refuses text z)
final text (Ok v) None y i n u c = subst (λ z. IfOk z (λ v. AreTokens text v.items) × IfErr z (λ z. Refuses text z)) (sym c) (record { utf8 = u; cut = i }, tt)
final text (Err (s.Refused r)) None y i n u c = subst (λ z. IfOk z (λ v. AreTokens text v.items) × IfErr z (λ z. Refuses text z)) (sym c) (tt, head_first text r u i)
final text (Err s.Memory) None y i n u c = subst (λ z. IfOk z (λ v. AreTokens text v.items) × IfErr z (λ z. Refuses text z)) (sym c) (tt, tt)
final text (Ok v) (Some g) y i n u c = subst (λ z. IfOk z (λ v. AreTokens text v.items) × IfErr z (λ z. Refuses text z)) (sym c) (tt, utf8_first text g v.items u i)
final text (Err (s.Refused r)) (Some g) y i n u c = subst (λ z. IfOk z (λ v. AreTokens text v.items) × IfErr z (λ z. Refuses text z)) (sym c) (tt, both_first text g r n u i)
final text (Err s.Memory) (Some g) y i n u c = subst (λ z. IfOk z (λ v. AreTokens text v.items) × IfErr z (λ z. Refuses text z)) (sym c) (tt, tt)

-- the same, where the heads were cut from a place that is the mark's length
pub answered : {A : Type 0} (text : List ℕ) (start : ℕ) (x : Result (Vec Token A) Stop) (bad : Option ℕ) (y : Result (Vec Token A) Stop)
    → start ≡ mark text → Answers (drop start text) start x → IfErr x IsOfHead → MatchOption bad (IsUtf8 text) (λ p. IsValidUpTo text p) → Joined text x bad y
    → IfOk y (λ v. AreTokens text v.items) × IfErr y (λ z. Refuses text z)
answered text start x bad y e i n u c = final text x bad y (subst (λ (p : ℕ). Answers (drop p text) p x) e i) n u c

-- no other list is that of the tokens
pub only : {A : Type 0} (text : List ℕ) (y : Result (Vec Token A) Stop) → IfOk y (λ v. AreTokens text v.items) → IfOk y (λ v. (ts : List Token) → AreTokens text ts → ts ≡ v.items)
only text (Ok v) a = λ ts b. cut_once a.cut b.cut
only text (Err e) a = tt

-- each token stands in the text
stand_from : (text bs : List ℕ) (p : ℕ) {ts : List Token} → bs ≡ drop p text → IsCut bs p ts → All (StandsIn text) ts
stand_from text bs p e at_end = All-nil (StandsIn text)
stand_from text bs p e (skips {n = n} g c) = stand_from text (drop n bs) (p + n) (ap (drop n) e ∙ drop-drop n p text) c
stand_from text bs p e (finds {n = n} {k = k} {ts = ts} g c) =
    let width : n ≡ p + n - p = omega arith in
    All-cons (StandsIn text) (token k p n) ts (ap head (sym e) ∙ g ∙ ap (h.Found k) width) (stand_from text (drop n bs) (p + n) (ap (drop n) e ∙ drop-drop n p text) c)

pub stand : {A : Type 0} (text : List ℕ) (y : Result (Vec Token A) Stop) → IfOk y (λ v. AreTokens text v.items) → IfOk y (λ v. All (StandsIn text) v.items)
stand text (Ok v) a = stand_from text (drop (mark text) text) (mark text) refl a.cut
stand text (Err e) a = tt

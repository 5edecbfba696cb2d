-- The first refusal of a statement.
use Rattle.std.proofs.Common.{◌≡◌, ℕ, ◌≤◌, ◌<◌, List, [], ◌∷◌, Option, Some, None, refl, sym, ap, ◌∙◌, arith, subst, IfSome, inl, inr, ◌⊎◌, Bool, true, false, nat_lt, if◌then◌else◌}
use Rattle.std.proofs.lemmas.Bool.Decides.{nat_tests}
use Rattle.aplc_lex.specs.Tokens.{refusal, IsBefore}
use Rattle.aplc_lex.specs.declared.token.Refusal.{Refusal}
use Rattle.aplc_lex.specs.declared.token.Stop.TheVariants as stop
use Rattle.aplc_syntax.specs.declared.step.Step.{Step}
use Rattle.aplc_syntax.specs.declared.word.Word.{Word}
use Rattle.aplc_syntax.specs.Grammar.{Sentence, spell}
use Rattle.aplc_syntax.specs.Trees.{nodes_of}
use Rattle.aplc_syntax.specs.Building.{count_from}
use Rattle.aplc_syntax.specs.Programs.{too_deep}
use Rattle.aplc_syntax.specs.Refusals.{bad_form, deep_nesting, many_nodes, no_function, stray, StandsIn, deep, strayed, formless, too_many, RefusesIn}
use Rattle.aplc_syntax.specs.Seen.{IsReading, Begins, nearer, formless_stop}
use Rattle.aplc_syntax.proofs.Counted.{count_steps}
use Rattle.aplc_syntax.proofs.Unique.{some_same, same_nodes}

none_some : (x : Option ℕ) (q : ℕ) → x ≡ None → x ≡ Some q → ⊥
none_some x q e f = let g : (let y : Option ℕ = Some q in y) ≡ None = sym f ∙ e in cc

cases_le : (a b : ℕ) → a ≤ b → (a < b) ⊎ (a ≡ b)
cases_le a b l = grind arith

-- ---- A bracket too many

deep_first : (ws : List Word) (p : ℕ) → too_deep ws 0 ≡ Some p → ((q : ℕ) → stray ws ≡ Some q → p ≤ q) → (s : Refusal) → StandsIn ws s → IsBefore (refusal deep_nesting p) s
deep_first ws p d n _ (deep {p = r} e) = inr (some_same p r (too_deep ws 0) d e, omega arith)
deep_first ws p d n _ (strayed {p = r} e) = elim (cases_le p r (n r e)) as (λ x. IsBefore (refusal deep_nesting p) (refusal no_function r)) [ inl l ↦ inl l | inr l ↦ inr (l, omega arith) ]
deep_first _ p d n _ (formless {x = x} {ws = us} a b f) = absurd (none_some (too_deep (x ∷ us) 0) p a d)
deep_first _ p d n _ (too_many {x = x} {ws = us} a y i m) = absurd (none_some (too_deep (x ∷ us) 0) p a d)

-- ---- A stray name

stray_first : (ws : List Word) (q : ℕ) → stray ws ≡ Some q → ((p : ℕ) → too_deep ws 0 ≡ Some p → q < p) → (too_deep ws 0 ≡ None → (x : Sentence) → ws ≡ spell x → 256 < nodes_of x → ⊥) → (s : Refusal) → StandsIn ws s → IsBefore (refusal no_function q) s
stray_first ws q n d none _ (deep {p = r} e) = inl (d r e)
stray_first ws q n d none _ (strayed {p = r} e) = inr (some_same q r (stray ws) n e, omega arith)
stray_first _ q n d none _ (formless {x = x} {ws = us} a b f) = absurd (none_some (stray (x ∷ us)) q b n)
stray_first _ q n d none _ (too_many {x = x} {ws = us} a y i m) = absurd (none a y i m)

pub at_deep : (ws : List Word) (p : ℕ) (name : Option ℕ) → Some p ≡ too_deep ws 0 → name ≡ stray ws → RefusesIn ws (nearer p name)
at_deep ws p None d n = record { stands = deep (sym d); first = deep_first ws p (sym d) (λ q e. absurd (none_some (stray ws) q (sym n) e)) }
at_deep ws p (Some q) d n = pick (nat_lt q p) refl
  where
    pick : (b : Bool) → nat_lt q p ≡ b → RefusesIn ws (if b then stop.Refused (refusal no_function q) else stop.Refused (refusal deep_nesting p))
    pick true l = let lt : q < p = grind (arith, nat_tests) in
        record { stands = strayed (sym n); first = stray_first ws q (sym n) (λ r e. (let same = some_same p r (too_deep ws 0) (sym d) e in omega arith)) (λ none x i m. absurd (none_some (too_deep ws 0) p none (sym d))) }
    pick false l = let le : p ≤ q = grind (arith, nat_tests) in
        record { stands = deep (sym d); first = deep_first ws p (sym d) (λ r e. (let same = some_same q r (stray ws) (sym n) e in omega arith)) }

-- ---- No form

form_first : (x : Word) (us : List Word) → too_deep (x ∷ us) 0 ≡ None → stray (x ∷ us) ≡ None → ((y : Sentence) → x ∷ us ≡ spell y → ⊥) → (s : Refusal) → StandsIn (x ∷ us) s → IsBefore (refusal bad_form x.place) s
form_first x us d n none _ (deep {p = r} e) = absurd (none_some (too_deep (x ∷ us) 0) r d e)
form_first x us d n none _ (strayed {p = r} e) = absurd (none_some (stray (x ∷ us)) r n e)
form_first x us d n none _ (formless a b f) = inr (refl, omega arith)
form_first x us d n none _ (too_many a y i m) = absurd (none y i)

pub at_formless : (ws : List Word) (p : ℕ) (name : Option ℕ) → Begins ws p → None ≡ too_deep ws 0 → name ≡ stray ws → ((y : Sentence) → ws ≡ spell y → ⊥) → RefusesIn ws (formless_stop p name)
at_formless [] p name b d n none = absurd b
at_formless (x ∷ us) p None b d n none = subst (λ (q : ℕ). RefusesIn (x ∷ us) (stop.Refused (refusal bad_form q))) (sym b)
    (record { stands = formless (sym d) (sym n) none; first = form_first x us (sym d) (sym n) none })
at_formless (x ∷ us) p (Some q) b d n none = record { stands = strayed (sym n); first = stray_first (x ∷ us) q (sym n) (λ r e. absurd (none_some (too_deep (x ∷ us) 0) r (sym d) e)) (λ h y i m. none y i) }

-- ---- Too many nodes, before any stray name

nodes_read : (ws : List Word) (xs : List Step) → IsReading ws xs → (y : Sentence) → ws ≡ spell y → nodes_of y ≡ count_from 0 xs
nodes_read ws xs h y i = same_nodes y h.form (sym i ∙ h.spelled) ∙ sym (count_steps h.form) ∙ ap (count_from 0) (sym h.steps_are)

many_first : (x : Word) (us : List Word) → too_deep (x ∷ us) 0 ≡ None → ((q : ℕ) → stray (x ∷ us) ≡ Some q → x.place ≤ q) → (y : Sentence) → x ∷ us ≡ spell y → (s : Refusal) → StandsIn (x ∷ us) s → IsBefore (refusal many_nodes x.place) s
many_first x us d h y i _ (deep {p = r} e) = absurd (none_some (too_deep (x ∷ us) 0) r d e)
many_first x us d h y i _ (strayed {p = r} e) = elim (cases_le x.place r (h r e)) as (λ z. IsBefore (refusal many_nodes x.place) (refusal no_function r)) [ inl l ↦ inl l | inr l ↦ inr (l, omega arith) ]
many_first x us d h y i _ (formless a b f) = absurd (f y i)
many_first x us d h y i _ (too_many a z j m) = inr (refl, omega arith)

nearer_is : (x : Option ℕ) (p q : ℕ) → IfSome x (λ r. p ≤ r) → x ≡ Some q → p ≤ q
nearer_is None p q h e = let b : ⊥ = cc in absurd b
nearer_is (Some u) p q h e = let same : u ≡ q = some_same u q (Some u) refl e in omega arith

pub at_many : (ws : List Word) (p : ℕ) (xs : List Step) → Begins ws p → None ≡ too_deep ws 0 → IfSome (stray ws) (λ q. p ≤ q) → IsReading ws xs → 256 < count_from 0 xs → RefusesIn ws (stop.Refused (refusal many_nodes p))
at_many [] p xs b d near h m = absurd b
at_many (x ∷ us) p xs b d near h m = subst (λ (q : ℕ). RefusesIn (x ∷ us) (stop.Refused (refusal many_nodes q))) (sym b) (record {
  stands = too_many (sym d) h.form h.spelled (let e = nodes_read (x ∷ us) xs h h.form h.spelled in omega arith);
  first = many_first x us (sym d) (λ q e. (let le = nearer_is (stray (x ∷ us)) p q near e in omega (arith, b))) h.form h.spelled;
})

pub at_stray : (ws : List Word) (q : ℕ) (xs : List Step) → None ≡ too_deep ws 0 → Some q ≡ stray ws → IsReading ws xs → count_from 0 xs ≤ 256 → RefusesIn ws (stop.Refused (refusal no_function q))
at_stray ws q xs d n h le = record { stands = strayed (sym n); first = stray_first ws q (sym n) (λ r e. absurd (none_some (too_deep ws 0) r (sym d) e)) (λ none y i m. (let e = nodes_read ws xs h y i in let gt : 256 < count_from 0 xs = omega arith in absurd (omega arith))) }

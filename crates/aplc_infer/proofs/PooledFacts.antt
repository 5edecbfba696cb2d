-- The facts of nodes by numbers into a pool.
use Rattle.std.proofs.Common.{◌≡◌, ◌∙◌, sym, ap, refl, ℕ, zero, suc, List, [], ◌∷◌, map, Option, Some, None, slice_get}
use Rattle.aplc_infer.specs.declared.fact.Inferred.{Inferred}
use Rattle.aplc_infer.specs.declared.facts.Fact.{Fact}
use Rattle.aplc_infer.specs.Seeing.{at}
use Rattle.aplc_infer.specs.Shown.{shown, fact_at, pooled_facts}
use Rattle.aplc_infer.specs.Pools.{spelled}

shown_at : (pool : List Inferred) (n : ℕ) → fact_at (map shown pool) n ≡ shown (at pool n)
shown_at [] n = refl
shown_at (x ∷ xs) zero = refl
shown_at (x ∷ xs) (suc n) = shown_at xs n

shown_numbers : (pool : List Inferred) (hs : List ℕ) → pooled_facts (map shown pool) hs ≡ map shown (spelled pool hs)
shown_numbers pool [] = refl
shown_numbers pool (h ∷ hs) = ap (λ x. x ∷ pooled_facts (map shown pool) hs) (shown_at pool h) ∙ ap (λ xs. shown (at pool h) ∷ xs) (shown_numbers pool hs)

pub all_shown : (xs pool : List Inferred) (hs : List ℕ) (facts : List (Option Fact)) → facts ≡ map shown pool → spelled pool hs ≡ xs → pooled_facts facts hs ≡ map shown xs
all_shown xs pool hs facts e f = ap (λ fs. pooled_facts fs hs) e ∙ shown_numbers pool hs ∙ ap (map shown) f

none_some : (h : ℕ) → (let o : Option ℕ = None in o) ≡ Some h → ⊥
none_some h e = cc

some_none : (h : ℕ) → Some h ≡ None → ⊥
some_none h e = cc

some_same : (g h : ℕ) → Some g ≡ Some h → g ≡ h
some_same g h e = cc

at_none : (pool : List (Option Fact)) (hs : List ℕ) (n : ℕ) → slice_get hs n ≡ None → None ≡ fact_at (pooled_facts pool hs) n
at_none pool [] n e = refl
at_none pool (h ∷ hs) zero e = absurd (some_none h e)
at_none pool (h ∷ hs) (suc n) e = at_none pool hs n e

at_some : (pool : List (Option Fact)) (hs : List ℕ) (n h : ℕ) → slice_get hs n ≡ Some h → fact_at pool h ≡ fact_at (pooled_facts pool hs) n
at_some pool [] n h e = absurd (none_some h e)
at_some pool (x ∷ hs) zero h e = ap (fact_at pool) (sym (some_same x h e))
at_some pool (x ∷ hs) (suc n) h e = at_some pool hs n h e

pub looked_none : (xs pool : List (Option Fact)) (hs : List ℕ) (n : ℕ) (o : Option ℕ) → pooled_facts pool hs ≡ xs → o ≡ slice_get hs n → o ≡ None → None ≡ fact_at xs n
looked_none xs pool hs n o s e f = at_none pool hs n (sym e ∙ f) ∙ ap (λ ys. fact_at ys n) s

pub looked_some : (xs pool : List (Option Fact)) (hs : List ℕ) (n h : ℕ) (o : Option ℕ) (x : Option Fact) → pooled_facts pool hs ≡ xs → o ≡ slice_get hs n → o ≡ Some h → x ≡ fact_at pool h → x ≡ fact_at xs n
looked_some xs pool hs n h o x s e f g = g ∙ at_some pool hs n h (sym e ∙ f) ∙ ap (λ ys. fact_at ys n) s

pub ruleset looks = (looked_none, looked_some)

-- Symbols weigh nothing.
use Rattle.std.proofs.Common.{◌≡◌, ℕ, List, [], ◌∷◌, Bool, true, false, if◌then◌else◌, refl, nat_eq}
use Rattle.aplc_syntax.specs.declared.word.WordKind.{WordKind}
use Rattle.aplc_syntax.specs.declared.word.WordKind.TheVariants as w
use Rattle.aplc_syntax.specs.Words.{signs, sign_in, sign}
use Rattle.aplc_names.proofs.Weights.{Scale, kind_weight}

-- a number, a text or a name
has_weight : WordKind → Bool
has_weight (w.Number x) = true
has_weight (w.Text to) = true
has_weight (w.Name r n) = true
has_weight _ = false

any_weight : List (ℕ × WordKind) → Bool
any_weight [] = false
any_weight (x ∷ xs) = if has_weight x.1 then true else any_weight xs

sign_in_plain : (c : ℕ) (xs : List (ℕ × WordKind)) → any_weight xs ≡ false → has_weight (sign_in c xs) ≡ false
unfolding has_weight any_weight
sign_in_plain c [] e = refl
sign_in_plain c ((d, x) ∷ xs) e = pick (nat_eq c d) (has_weight x) refl e (λ g. sign_in_plain c xs g)
  where
    pick : (s t : Bool) → has_weight x ≡ t → (if t then true else any_weight xs) ≡ false → (any_weight xs ≡ false → has_weight (sign_in c xs) ≡ false) → has_weight (if s then x else sign_in c xs) ≡ false
    pick s true g f r = cc
    pick true false g f r = g
    pick false false g f r = r f

sign_plain : (c : ℕ) → has_weight (sign c) ≡ false
unfolding sign has_weight any_weight
sign_plain c = sign_in_plain c signs refl

plain_weight : (g : Scale) (text : List ℕ) (p : ℕ) (x : WordKind) → has_weight x ≡ false → kind_weight g text p x ≡ 0
unfolding has_weight
plain_weight g text p (w.Number x) e = cc
plain_weight g text p (w.Text to) e = cc
plain_weight g text p (w.Name r n) e = cc
plain_weight g text p _ e = refl

pub sign_weight : (g : Scale) (text : List ℕ) (p c : ℕ) → kind_weight g text p (sign c) ≡ 0
sign_weight g text p c = plain_weight g text p (sign c) (sign_plain c)

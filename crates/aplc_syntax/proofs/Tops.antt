-- A push onto items that are seen from their end.
use Rattle.std.proofs.Common.{List, [], ◌∷◌, ◌++◌, ◌≡◌, refl}
use Rattle.aplc_syntax.specs.Seen.{top_first}

pub top_first-push : {A : Type 0} (xs : List A) (x : A) (rest : List A) → top_first (xs ++ x ∷ []) rest ≡ x ∷ top_first xs rest
top_first-push [] x rest = refl
top_first-push (y ∷ ys) x rest = top_first-push ys x (y ∷ rest)

pub ruleset tops = (top_first-push)

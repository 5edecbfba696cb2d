-- Headers and local names by their first words.
use Rattle.std.proofs.Common.{◌≡◌, ℕ, ◌≤◌, ◌-◌, List, [], ◌∷◌, ◌++◌, Option, Some, None, Result, IfOk, refl, sym, ap, ap₂, ◌∙◌, subst, map, option_map, arith, length, take, drop, get_or, append_assoc}
use Rattle.std.proofs.lemmas.List.{take_all}
use Rattle.aplc_syntax.specs.declared.tree.Named.{Named}
use Rattle.aplc_syntax.specs.declared.header.Header.{Header as HeldHeader}
use Rattle.aplc_syntax.specs.declared.word.Role.{Role}
use Rattle.aplc_syntax.specs.declared.word.Word.{Word}
use Rattle.aplc_syntax.specs.declared.word.WordKind.{WordKind}
use Rattle.aplc_syntax.specs.declared.word.WordKind.TheVariants as w
use Rattle.aplc_syntax.specs.Layout.{Header, named, called, locals, placed}
use Rattle.aplc_syntax.specs.Held.{called_one, header_of_held}

-- the first word, and those behind it
pub first_and_rest : (ws : List Word) (d : Word) → 1 ≤ length ws → ws ≡ get_or ws 0 d ∷ take (length ws - 1) (drop 1 ws)
first_and_rest [] d h = absurd (omega arith)
first_and_rest (x ∷ xs) d h = ap (λ (ys : List Word). x ∷ ys) (sym (take_all (length (x ∷ xs) - 1) xs (omega arith)))

one : (res : Option Named) (r : Role) (n p : ℕ) (xs : List (WordKind × ℕ)) → called_one res (named n p) xs ≡ called res ((w.Name r n, p) ∷ xs)
one res r n p [] = refl
one res r n p ((w.Name s m, q) ∷ []) = refl
one res r n p ((w.Name s m, q) ∷ (w.Name t l, k) ∷ xs) = refl
one res r n p ((w.Name s m, q) ∷ y ∷ xs) = refl
one res r n p (y ∷ xs) = refl

called_as : (res : Option Named) (m : Named) (ws : List Word) (x : Word) (xs : List Word) (r : Role) (n : ℕ) → m ≡ named n x.place → ws ≡ x ∷ xs → x.kind ≡ w.Name r n → called_one res m (map placed xs) ≡ called res (map placed ws)
called_as res m ws x xs r n q e k = ap (λ (z : Named). called_one res z (map placed xs)) q ∙ one res r n x.place (map placed xs) ∙ sym (ap (λ (ys : List Word). called res (map placed ys)) e ∙ ap (λ (j : WordKind). called res ((j, x.place) ∷ map placed xs)) k)

-- what goes on behind one name is the header of all
pub called_first : {E : Type 0} (o : Result (Option HeldHeader) E) (res : Option Named) (m : Named) (ws : List Word) (x : Word) (xs : List Word) (r : Role) (n : ℕ) → m ≡ named n x.place → ws ≡ x ∷ xs → x.kind ≡ w.Name r n
    → IfOk o (λ h. option_map header_of_held h ≡ called_one res m (map placed xs)) → IfOk o (λ h. option_map header_of_held h ≡ called res (map placed ws))
called_first o res m ws x xs r n q e k h = subst (λ (z : Option Header). IfOk o (λ y. option_map header_of_held y ≡ z)) (called_as res m ws x xs r n q e k) h

pushed : (out : List Named) (x : Named) (o : Option (List Named)) → option_map (λ (ns : List Named). (out ++ x ∷ []) ++ ns) o ≡ option_map (λ (ns : List Named). out ++ ns) (option_map (λ (ns : List Named). x ∷ ns) o)
pushed out x None = refl
pushed out x (Some ns) = ap Some (append_assoc out (x ∷ []) ns)

local_first : (ws us xs : List Word) (x y : Word) (r : Role) (n : ℕ) → ws ≡ x ∷ us → us ≡ y ∷ xs → x.kind ≡ w.Semicolon → y.kind ≡ w.Name r n → option_map (λ (ns : List Named). named n y.place ∷ ns) (locals (map placed xs)) ≡ locals (map placed ws)
local_first ws us xs x y r n e f j k = sym (ap (λ (ys : List Word). locals (map placed ys)) (e ∙ ap (λ (ys : List Word). x ∷ ys) f) ∙ ap₂ (λ (a b : WordKind). locals ((a, x.place) ∷ (b, y.place) ∷ map placed xs)) j k)

-- one more local name
pub local_more : (out new : List Named) (ws us xs : List Word) (x y : Word) (r : Role) (n : ℕ) (m : Named) (all : Option (List Named)) → new ≡ out ++ m ∷ [] → m ≡ named n y.place → ws ≡ x ∷ us → us ≡ y ∷ xs → x.kind ≡ w.Semicolon → y.kind ≡ w.Name r n
    → option_map (λ (ns : List Named). out ++ ns) (locals (map placed ws)) ≡ all → option_map (λ (ns : List Named). new ++ ns) (locals (map placed xs)) ≡ all
local_more out new ws us xs x y r n m all p q e f j k h =
    ap (λ (l : List Named). option_map (λ (ns : List Named). l ++ ns) (locals (map placed xs))) (p ∙ ap (λ (z : Named). out ++ z ∷ []) q)
    ∙ pushed out (named n y.place) (locals (map placed xs))
    ∙ ap (option_map (λ (ns : List Named). out ++ ns)) (local_first ws us xs x y r n e f j k) ∙ h

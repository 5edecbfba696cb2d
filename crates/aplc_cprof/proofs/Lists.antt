-- How the texts of lists go on from one item to the next.
use Rattle.std.proofs.Common.{◌≡◌, ◌∙◌, ap, sym, refl, ℕ, suc, ◌+◌, ◌-◌, ◌<◌, ℤ, List, [], ◌∷◌, ◌++◌, codes, decimal, length, get_or, drop, append_assoc, append-nil, arith}
use Rattle.std.proofs.lemmas.List.{drop_more}
use Rattle.aplc_cprof.specs.declared.syntax.CFunction.{CFunction}
use Rattle.aplc_cprof.specs.Text.{listed_from, declaration, table_text, tables_text, prototypes_text, function_text, functions_text}
use mathlib.Core.Path.{fun_ext}

-- a loop that writes an item and has the rest before it
pub written : (out new item left rest whole : List ℕ) → new ≡ out ++ item → left ≡ item ++ rest → out ++ left ≡ whole → new ++ rest ≡ whole
written out new item left rest whole e f g = ap (λ t. t ++ rest) e ∙ append_assoc out item rest ∙ ap (λ t. out ++ t) (sym f) ∙ g

-- seven texts, one after the other
pub grouped : (out a b c d e f g : List ℕ) → out ++ a ++ b ++ c ++ (d ++ e) ++ f ++ g ≡ out ++ (a ++ b ++ c ++ d ++ e ++ f ++ g)
grouped out a b c d e f g = simp append_assoc refl

-- what is left of n - k is one more than what is left after it
left_more : (k n : ℕ) → k < n → n - k ≡ suc (n - (k + 1))
left_more k n below = omega (arith, below)

pub listed_goes_on : (item : ℕ → List ℕ) (k n : ℕ) → k < n → listed_from item k (n - k) ≡ codes ", " ++ item k ++ listed_from item (k + 1) (n - (k + 1))
listed_goes_on item k n below = ap (listed_from item k) (left_more k n below)

pub prototypes_go_on : (k n : ℕ) → k < n → prototypes_text k (n - k) ≡ codes "static void f" ++ decimal k ++ codes "(void);\n" ++ prototypes_text (k + 1) (n - (k + 1))
prototypes_go_on k n below = ap (prototypes_text k) (left_more k n below)

pub tables_go_on : (k : ℕ) (ts : List (List ℤ)) (t : List ℤ) → k < length ts → t ≡ get_or ts k t → tables_text k (drop k ts) ≡ table_text k t ++ tables_text (k + 1) (drop (k + 1) ts)
tables_go_on k ts t below is = ap (tables_text k) (drop_more ts k t below ∙ ap (λ x. x ∷ drop (k + 1) ts) (sym is))

pub functions_go_on : (k : ℕ) (fs : List CFunction) (f : CFunction) → k < length fs → f ≡ get_or fs k f → functions_text k (drop k fs) ≡ function_text k f ++ functions_text (k + 1) (drop (k + 1) fs)
functions_go_on k fs f below is = ap (functions_text k) (drop_more fs k f below ∙ ap (λ x. x ∷ drop (k + 1) fs) (sym is))

-- a name with nothing behind its number
pub declared_bare : (head before : List ℕ) (n : ℕ) → declaration head (λ k. before ++ decimal k ++ []) n ≡ declaration head (λ k. before ++ decimal k) n
declared_bare head before n = ap (λ item. declaration head item n) (fun_ext (λ k. append-nil (before ++ decimal k)))

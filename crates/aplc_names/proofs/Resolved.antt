-- The first refusal of a program, and what its text says of its sizes.
use Rattle.std.proofs.Common.{◌≡◌, ◌∙◌, sym, ap, subst, ℕ, ◌<◌, ◌≤◌, List, [], ◌∷◌, length, ℤ, Option, arith, inl, inr, ◌⊎◌}
use Rattle.std.specs.Prelude.{map, All}
use Rattle.std.specs.List.{AllZip}
use Rattle.std.proofs.lemmas.List.Elements.{All-cons, All-nil}
use Rattle.std.proofs.lemmas.Slice.Zip.{AllZip-long}
use Rattle.std.proofs.lemmas.List.{length-map}
use Rattle.aplc_lex.specs.declared.token.Refusal.{Refusal}
use Rattle.aplc_syntax.specs.declared.tree.Function.{Function}
use Rattle.aplc_syntax.specs.declared.tree.Named.{Named}
use Rattle.aplc_syntax.specs.declared.tree.Program.{Program}
use Rattle.aplc_syntax.specs.Layout.{Block, Header, blocks, headers, parts_of}
use Rattle.aplc_syntax.specs.Programs.{IsFunction, IsLine}
use Rattle.aplc_names.specs.declared.outline.Outline.{Outline}
use Rattle.aplc_names.specs.Outlines.{outline, outlines}
use Rattle.aplc_names.specs.Scopes.{function_names, own_name}
use Rattle.aplc_names.specs.Lookups.{label_lines, all_label_lines}
use Rattle.aplc_lex.specs.Firsts.{IsFirstOf, earlier}
use Rattle.aplc_names.specs.Firsts.{Somewhere}
use Rattle.aplc_names.specs.Clashes.{IsAgain, IsTaken, IsMainless, IsShadowedIn, StandsIn, StandsAmong, function_again, var_again, var_taken, mainless, in_function, in_shadow, Stands, var_name}
use Rattle.aplc_names.specs.Programs.{IsParsed}
use Rattle.aplc_lex.proofs.Order.{either_first, same_first}

-- ---- Six kinds

abbrev Six : (A B C D E F : Refusal → Type 0) → Refusal → Type 0
Six A B C D E F r = ((((A r ⊎ B r) ⊎ C r) ⊎ D r) ⊎ E r) ⊎ F r

six : (A B C D E F : Refusal → Type 0) (a b c d e f : Option Refusal) → IsFirstOf A a → IsFirstOf B b → IsFirstOf C c → IsFirstOf D d → IsFirstOf E e → IsFirstOf F f → IsFirstOf (Six A B C D E F) (earlier (earlier (earlier (earlier (earlier a b) c) d) e) f)
six A B C D E F a b c d e f h i j k l m =
    either_first (λ r. (((A r ⊎ B r) ⊎ C r) ⊎ D r) ⊎ E r) F (earlier (earlier (earlier (earlier a b) c) d) e) f
    (either_first (λ r. ((A r ⊎ B r) ⊎ C r) ⊎ D r) E (earlier (earlier (earlier a b) c) d) e
    (either_first (λ r. (A r ⊎ B r) ⊎ C r) D (earlier (earlier a b) c) d
    (either_first (λ r. A r ⊎ B r) C (earlier a b) c
    (either_first A B a b h i) j) k) l) m

among : (ns : List (List ℕ)) (vars hs : List Named) (fs : List Outline) (r : Refusal) → Six (Somewhere (IsAgain hs) hs) (Somewhere (IsAgain vars) vars) (Somewhere (IsTaken hs) vars) (IsMainless ns fs) (Somewhere (StandsIn hs) fs) (Somewhere (IsShadowedIn hs fs) fs) r → StandsAmong ns vars hs fs r
among ns vars hs fs r (inl (inl (inl (inl (inl x))))) = function_again x
among ns vars hs fs r (inl (inl (inl (inl (inr x))))) = var_again x
among ns vars hs fs r (inl (inl (inl (inr x)))) = var_taken x
among ns vars hs fs r (inl (inl (inr x))) = mainless x
among ns vars hs fs r (inl (inr x)) = in_function x
among ns vars hs fs r (inr x) = in_shadow x

among_six : (ns : List (List ℕ)) (vars hs : List Named) (fs : List Outline) (r : Refusal) → StandsAmong ns vars hs fs r → Six (Somewhere (IsAgain hs) hs) (Somewhere (IsAgain vars) vars) (Somewhere (IsTaken hs) vars) (IsMainless ns fs) (Somewhere (StandsIn hs) fs) (Somewhere (IsShadowedIn hs fs) fs) r
among_six ns vars hs fs r (function_again x) = inl (inl (inl (inl (inl x))))
among_six ns vars hs fs r (var_again x) = inl (inl (inl (inl (inr x))))
among_six ns vars hs fs r (var_taken x) = inl (inl (inl (inr x)))
among_six ns vars hs fs r (mainless x) = inl (inl (inr x))
among_six ns vars hs fs r (in_function x) = inl (inr x)
among_six ns vars hs fs r (in_shadow x) = inr x

first_among : (ns : List (List ℕ)) (vars hs : List Named) (fs : List Outline) (a b c d e f : Option Refusal) → IsFirstOf (Somewhere (IsAgain hs) hs) a → IsFirstOf (Somewhere (IsAgain vars) vars) b → IsFirstOf (Somewhere (IsTaken hs) vars) c → IsFirstOf (IsMainless ns fs) d → IsFirstOf (Somewhere (StandsIn hs) fs) e → IsFirstOf (Somewhere (IsShadowedIn hs fs) fs) f → IsFirstOf (StandsAmong ns vars hs fs) (earlier (earlier (earlier (earlier (earlier a b) c) d) e) f)
first_among ns vars hs fs a b c d e f h i j k l m =
    same_first (Six (Somewhere (IsAgain hs) hs) (Somewhere (IsAgain vars) vars) (Somewhere (IsTaken hs) vars) (IsMainless ns fs) (Somewhere (StandsIn hs) fs) (Somewhere (IsShadowedIn hs fs) fs)) (StandsAmong ns vars hs fs) (earlier (earlier (earlier (earlier (earlier a b) c) d) e) f) (among ns vars hs fs) (among_six ns vars hs fs)
    (six (Somewhere (IsAgain hs) hs) (Somewhere (IsAgain vars) vars) (Somewhere (IsTaken hs) vars) (IsMainless ns fs) (Somewhere (StandsIn hs) fs) (Somewhere (IsShadowedIn hs fs) fs) a b c d e f h i j k l m)

pub first_stands : (p : Program) (vars hs : List Named) (fs : List Outline) (a b c d e f new : Option Refusal) → hs ≡ function_names fs → fs ≡ outlines p → vars ≡ map var_name p.vars → new ≡ earlier (earlier (earlier (earlier (earlier a b) c) d) e) f → IsFirstOf (Somewhere (IsAgain hs) hs) a → IsFirstOf (Somewhere (IsAgain vars) vars) b → IsFirstOf (Somewhere (IsTaken hs) vars) c → IsFirstOf (IsMainless p.names fs) d → IsFirstOf (Somewhere (StandsIn hs) fs) e → IsFirstOf (Somewhere (IsShadowedIn hs fs) fs) f → IsFirstOf (Stands p) new
first_stands p vars hs fs a b c d e f new heads all v n h i j k l m =
    let whole : IsFirstOf (StandsAmong p.names vars hs fs) new = subst (λ o. IsFirstOf (StandsAmong p.names vars hs fs) o) (sym n) (first_among p.names vars hs fs a b c d e f h i j k l m) in
    let one : IsFirstOf (StandsAmong p.names (map var_name p.vars) hs fs) new = subst (λ x. IsFirstOf (StandsAmong p.names x hs fs) new) v whole in
    let two : IsFirstOf (StandsAmong p.names (map var_name p.vars) (function_names fs) fs) new = subst (λ x. IsFirstOf (StandsAmong p.names (map var_name p.vars) x fs) new) heads one in
    subst (λ x. IsFirstOf (StandsAmong p.names (map var_name p.vars) (function_names x) x) new) all two

-- ---- Sizes

abbrev IsShort : Function → Type 0
IsShort f = length f.lines ≤ 999

short_one : (text : List ℕ) (hs : List Header) (b : Block) (f : Function) → IsFunction text hs b f → IsShort f
short_one text hs b f i = let e : length f.lines ≡ length b.body = AllZip-long (IsLine text hs) b.body f.lines i.lines in let n : length b.body ≤ 999 = i.few in omega arith

short_all : (text : List ℕ) (hs : List Header) (bs : List Block) (fs : List Function) → AllZip (IsFunction text hs) bs fs → All IsShort fs
short_all text hs [] [] z = All-nil IsShort
short_all text hs [] (f ∷ fs) z = absurd z
short_all text hs (b ∷ bs) [] z = absurd z
short_all text hs (b ∷ bs) (f ∷ fs) z = All-cons IsShort f fs (short_one text hs b f z.0) (short_all text hs bs fs z.1)

pub short_lines : (p : Program) → IsParsed p → All (λ (f : Function). length f.lines ≤ 999) p.functions
short_lines p i = short_all i.text (headers (parts_of i.text i.tokens)) (blocks (parts_of i.text i.tokens)) p.functions i.program.functions

pub few_functions : (p : Program) → IsParsed p → length p.functions ≤ 999
few_functions p i =
    let e : length p.functions ≡ length (blocks (parts_of i.text i.tokens)) = AllZip-long (IsFunction i.text (headers (parts_of i.text i.tokens))) (blocks (parts_of i.text i.tokens)) p.functions i.program.functions in
    let n : length (blocks (parts_of i.text i.tokens)) ≤ 999 = i.program.few in
    omega arith

-- ---- What a resolved program holds

pub within_outlines : (p q : Program) (fs known : List Outline) (i : ℕ) → p ≡ q → fs ≡ outlines p → known ≡ fs → i < length q.functions → i < length known
within_outlines p q fs known i e f g h =
    let k : length known ≡ length p.functions = ap length (g ∙ f) ∙ length-map p.functions outline in
    let l : length p.functions ≡ length q.functions = ap (λ (x : Program). length x.functions) e in
    omega arith

pub few_heads : (p : Program) (hs : List Named) → hs ≡ function_names (outlines p) → length p.functions ≤ 999 → length hs ≤ 999
few_heads p hs e h =
    let k : length hs ≡ length p.functions = ap length e ∙ length-map (outlines p) own_name ∙ length-map p.functions outline in
    omega arith

pub within_lines : (p q : Program) (ls all : List (List ℤ)) (i : ℕ) → p ≡ q → ls ≡ all_label_lines p → all ≡ ls → i < length q.functions → i < length all
within_lines p q ls all i e f g h =
    let k : length all ≡ length p.functions = ap length (g ∙ f) ∙ length-map p.functions label_lines in
    let l : length p.functions ≡ length q.functions = ap (λ (x : Program). length x.functions) e in
    omega arith

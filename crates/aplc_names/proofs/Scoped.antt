-- What the tables find is the scope of a name; and what a scope stands for.
use Rattle.std.proofs.Common.{◌≡◌, ◌∙◌, sym, ap, refl, ℕ, zero, suc, ◌+◌, ◌<◌, List, [], ◌∷◌, ◌++◌, length, ℤ, pos, Option, Some, None, Bool, true, false, ◌||◌, cond, nat_lt, if◌then◌else◌, arith, get_or}
use Rattle.std.specs.Prelude.{map, position, option_map, is_some}
use Rattle.std.specs.List.{slice_get, position_or_len, list_any}
use Rattle.std.specs.Option.{option_map_or, option_to_list}
use Rattle.std.proofs.lemmas.Bool.Decides.{nat_tests}
use Rattle.std.proofs.lemmas.Option.{slice_get_read}
use Rattle.aplc_syntax.specs.declared.tree.Named.{Named}
use Rattle.aplc_syntax.specs.declared.tree.Line.{Line}
use Rattle.aplc_syntax.specs.declared.tree.Function.{Function}
use Rattle.aplc_syntax.specs.declared.tree.Program.{Program}
use Rattle.aplc_names.specs.declared.outline.Outline.{Outline}
use Rattle.aplc_names.specs.declared.scope.Scope.{Scope}
use Rattle.aplc_names.specs.declared.scope.Scope.TheVariants as s
use Rattle.aplc_names.specs.Outlines.{outline, outlines, labels_in, lines_from, with_line, header_names}
use Rattle.aplc_names.specs.Tables.{is_named, first, stands_in}
use Rattle.aplc_names.specs.Scopes.{function_names, function_number, is_label, label_line, local_or_global, label_or, function_or, scope_in, scope_of, IsScope, starts, start_from, start_of}
use Rattle.aplc_names.specs.Lookups.{line_or, scope_found, label_lines, all_label_lines}
use Rattle.aplc_names.specs.Clashes.{is_start, no_main, main_place, mainless}
use Rattle.aplc_names.specs.Programs.{IsClean}
use Rattle.aplc_lex.specs.Tokens.{refusal}
use Rattle.aplc_names.proofs.Firsts.{turned, named_is, clash}
use Rattle.aplc_names.proofs.Lists.{some_same, none_some}

-- ---- Places of lists

-- a place, counted from i on
abbrev from : ℕ → Option ℕ → Option ℕ
from i o = option_map (λ (k : ℕ). i + k) o

-- a place in a list of n items, or none behind its end
abbrev at_most : ℕ → ℕ → Option ℕ
at_most a n = cond (nat_lt a n) (Some a) None

first_place : (n : ℕ) → at_most 0 (suc n) ≡ Some 0
first_place n = let e : nat_lt 0 (suc n) ≡ true = grind (arith, nat_tests) in ap (λ (t : Bool). cond t (Some 0) None) e

next_place : (i a n : ℕ) → from i (at_most (suc a) (suc n)) ≡ from (i + 1) (at_most a n)
next_place i a n = pick (nat_lt a n) refl
  where
    one : nat_lt (suc a) (suc n) ≡ nat_lt a n
    one = grind (arith, nat_tests)

    pick : (t : Bool) → nat_lt a n ≡ t → from i (at_most (suc a) (suc n)) ≡ from (i + 1) (at_most a n)
    pick true e = let k : i + suc a ≡ (i + 1) + a = omega arith in
        ap (λ (t : Bool). from i (cond t (Some (suc a)) None)) (one ∙ e) ∙ ap (λ (m : ℕ). let o : Option ℕ = Some m in o) k ∙ sym (ap (λ (t : Bool). from (i + 1) (cond t (Some a) None)) e)
    pick false e = ap (λ (t : Bool). from i (cond t (Some (suc a)) None)) (one ∙ e) ∙ sym (ap (λ (t : Bool). from (i + 1) (cond t (Some a) None)) e)

shifted : (b : Bool) (i a n : ℕ) → from i (at_most (cond b 0 (suc a)) (suc n)) ≡ (if b then Some i else from (i + 1) (at_most a n))
shifted true i a n = let e : i + 0 ≡ i = omega arith in ap (from i) (first_place n) ∙ ap (λ (k : ℕ). let o : Option ℕ = Some k in o) e
shifted false i a n = next_place i a n

position_more : {X : Type 0} (p : X → Bool) (i : ℕ) (x : X) (xs : List X) → from i (position p (x ∷ xs)) ≡ (if p x then Some i else from (i + 1) (position p xs))
position_more p i x xs =
    ap (λ k. from i (cond (nat_lt k (suc (length xs))) (Some k) None)) (turned (p x) (position_or_len p xs))
    ∙ shifted (p x) i (position_or_len p xs) (length xs)

from_none : (o : Option ℕ) → from 0 o ≡ o
from_none None = refl
from_none (Some k) = let e : 0 + k ≡ k = omega arith in ap (λ (m : ℕ). Some m) e

-- ---- Functions

number_is : (n i : ℕ) (fs : List Function) → function_number n i fs ≡ from i (first n (function_names (map outline fs)))
number_is n i [] = refl
number_is n i (f ∷ fs) = ap (λ o. if is_named n f.name then Some i else o) (number_is n (i + 1) fs) ∙ sym (position_more (is_named n) i f.name (function_names (map outline fs)))

-- ---- Labels

line_shift : (o : Option ℕ) (z : ℤ) (rest : List ℤ) (other : Scope) → line_or (from 1 o) (z ∷ rest) other ≡ line_or o rest other
line_shift None z rest other = refl
line_shift (Some k) z rest other = let e : 1 + k ≡ suc k = omega arith in ap (λ m. option_map_or s.Label (slice_get (z ∷ rest) m) other) e

line_branch : (b : Bool) (i : ℕ) (o : Option ℕ) (rest : List ℤ) (m : Option ℕ) (other : Scope) → line_or o rest other ≡ label_or m other → line_or (if b then Some 0 else from 1 o) (pos i ∷ rest) other ≡ label_or (if b then Some i else m) other
line_branch true i o rest m other e = refl
line_branch false i o rest m other e = line_shift o (pos i) rest other ∙ e

line_step : (n i : ℕ) (x : Option Named) (names : List Named) (rest : List ℤ) (m : Option ℕ) (other : Scope) → line_or (first n names) rest other ≡ label_or m other → line_or (first n (option_to_list x ++ names)) (with_line x i rest) other ≡ label_or (if is_label n x then Some i else m) other
line_step n i None names rest m other e = e
line_step n i (Some x) names rest m other e =
    ap (λ o. line_or o (pos i ∷ rest) other) (sym (from_none (first n (x ∷ names))) ∙ position_more (is_named n) 0 x names)
    ∙ line_branch (is_named n x) i (first n names) rest m other e

line_is : (n i : ℕ) (ls : List Line) (other : Scope) → line_or (first n (labels_in ls)) (lines_from i ls) other ≡ label_or (label_line n i ls) other
line_is n i [] other = refl
line_is n i (l ∷ ls) other = line_step n i l.label (labels_in ls) (lines_from (i + 1) ls) (label_line n (i + 1) ls) other (line_is n (i + 1) ls other)

-- a name that is no label stands in no list of labels
some_none : {X : Type 0} (x : X) → (let o : Option X = Some x in o) ≡ None → ⊥
some_none x e = cc

unlabelled_step : (n i : ℕ) (x : Option Named) (names : List Named) (m : Option ℕ) → (m ≡ None → stands_in n names ≡ false) → (if is_label n x then Some i else m) ≡ None → stands_in n (option_to_list x ++ names) ≡ false
unlabelled_step n i None names m f e = f e
unlabelled_step n i (Some x) names m f e = pick (is_named n x) e
  where
    pick : (b : Bool) → (if b then Some i else m) ≡ None → (b || stands_in n names) ≡ false
    pick true h = absurd (some_none i h)
    pick false h = f h

unlabelled : (n i : ℕ) (ls : List Line) → label_line n i ls ≡ None → stands_in n (labels_in ls) ≡ false
unlabelled n i [] e = refl
unlabelled n i (l ∷ ls) e = unlabelled_step n i l.label (labels_in ls) (label_line n (i + 1) ls) (unlabelled n (i + 1) ls) e

stands_append : (n : ℕ) (xs ys : List Named) → stands_in n ys ≡ false → stands_in n (xs ++ ys) ≡ stands_in n xs
stands_append n [] ys e = e
stands_append n (x ∷ xs) ys e = ap (λ b. is_named n x || b) (stands_append n xs ys e)

local_is : (n : ℕ) (header labels : List Named) (m : Option ℕ) → (m ≡ None → stands_in n labels ≡ false) → label_or m (local_or_global (stands_in n (header ++ labels))) ≡ label_or m (local_or_global (stands_in n header))
local_is n header labels None f = ap local_or_global (stands_append n header labels (f refl))
local_is n header labels (Some k) f = refl

-- ---- Scopes

pub found_scope : (fs : List Function) (f : Function) (n : ℕ) → scope_found (function_names (map outline fs)) (outline f) (label_lines f) n ≡ scope_in fs f n
found_scope fs f n =
    let other = local_or_global (stands_in n (header_names f ++ labels_in f.lines)) in
    ap (λ o. function_or o (line_or (first n (labels_in f.lines)) (lines_from 1 f.lines) other)) (sym (from_none (first n (function_names (map outline fs)))) ∙ sym (number_is n 0 fs))
    ∙ ap (function_or (function_number n 0 fs)) (line_is n 1 f.lines other ∙ local_is n (header_names f) (labels_in f.lines) (label_line n 1 f.lines) (unlabelled n 1 f.lines))

-- the item of a list of what functions come to
mapped_get : {X : Type 0} (g : Function → X) (fs : List Function) (i : ℕ) (x : X) → slice_get (map g fs) i ≡ Some x → (f : Function) × (slice_get fs i ≡ Some f) × (x ≡ g f)
mapped_get g [] i x e = absurd (none_some x e)
mapped_get g (f ∷ fs) zero x e = (f, refl, sym (some_same (g f) x e))
mapped_get g (f ∷ fs) (suc i) x e = mapped_get g fs i x e

pub scope_is : (p q : Program) (hs : List Named) (fs known : List Outline) (ls all : List (List ℤ)) (i n : ℕ) (f : Outline) (l : List ℤ) (r : Scope)
    → p ≡ q → hs ≡ function_names (outlines p) → fs ≡ outlines p → ls ≡ all_label_lines p → known ≡ fs → all ≡ ls
    → i < length known → f ≡ get_or known i f → i < length all → l ≡ get_or all i l → r ≡ scope_found hs f l n → r ≡ scope_of q i n
scope_is p q hs fs known ls all i n f l r same heads each lined k a h item g line is =
    let found : slice_get known i ≡ Some f = slice_get_read known (length known) i f refl h item in
    let first_one = mapped_get outline p.functions i f (sym (ap (λ x. slice_get x i) (k ∙ each)) ∙ found) in
    let labelled : slice_get all i ≡ Some l = slice_get_read all (length all) i l refl g line in
    let second = mapped_get label_lines p.functions i l (sym (ap (λ x. slice_get x i) (a ∙ lined)) ∙ labelled) in
    let one : second.0 ≡ first_one.0 = some_same second.0 first_one.0 (sym second.1 ∙ first_one.1) in
    is
    ∙ ap (λ x. scope_found x f l n) heads
    ∙ ap (λ x. scope_found (function_names (outlines p)) x l n) first_one.2
    ∙ ap (λ x. scope_found (function_names (outlines p)) (outline first_one.0) x n) (second.2 ∙ ap label_lines one)
    ∙ found_scope p.functions first_one.0 n
    ∙ sym (ap (λ o. option_map_or (λ g. scope_in p.functions g n) o s.Global) first_one.1)
    ∙ ap (λ x. scope_of x i n) same

-- ---- What a scope stands for

-- an item of a list, its place counted from i on
abbrev FunctionAt : ℕ → ℕ → List Function → ℕ → Type 0
FunctionAt n i fs j = (k : ℕ) × (g : Function) × (j ≡ i + k) × (slice_get fs k ≡ Some g) × (g.name.name.0 ≡ n)

function_found : (n i : ℕ) (fs : List Function) (j : ℕ) → function_number n i fs ≡ Some j → FunctionAt n i fs j
function_found n i [] j e = absurd (none_some j e)
function_found n i (f ∷ fs) j e = pick (is_named n f.name) refl e (function_found n (i + 1) fs j)
  where
    pick : (b : Bool) → is_named n f.name ≡ b → (if b then Some i else function_number n (i + 1) fs) ≡ Some j → (function_number n (i + 1) fs ≡ Some j → FunctionAt n (i + 1) fs j) → FunctionAt n i (f ∷ fs) j
    pick true t h later = let g : i ≡ j = some_same i j h in (0, f, omega arith, refl, named_is n f.name t)
    pick false t h later = let g = later h in let k : j ≡ (i + 1) + g.0 = g.2 in (suc g.0, g.1, omega arith, g.3, g.4)

abbrev LineAt : ℕ → ℕ → List Line → ℕ → Type 0
LineAt n i ls j = (k : ℕ) × (l : Line) × (x : Named) × (j ≡ i + k) × (slice_get ls k ≡ Some l) × (l.label ≡ Some x) × (x.name.0 ≡ n)

labelled_by : (n : ℕ) (x : Option Named) → is_label n x ≡ true → (y : Named) × (x ≡ Some y) × (y.name.0 ≡ n)
labelled_by n None e = absurd (clash false e refl)
labelled_by n (Some x) e = (x, refl, named_is n x e)

label_found : (n i : ℕ) (ls : List Line) (j : ℕ) → label_line n i ls ≡ Some j → LineAt n i ls j
label_found n i [] j e = absurd (none_some j e)
label_found n i (l ∷ ls) j e = pick (is_label n l.label) refl e (label_found n (i + 1) ls j)
  where
    pick : (b : Bool) → is_label n l.label ≡ b → (if b then Some i else label_line n (i + 1) ls) ≡ Some j → (label_line n (i + 1) ls ≡ Some j → LineAt n (i + 1) ls j) → LineAt n i (l ∷ ls) j
    pick true t h later = let g : i ≡ j = some_same i j h in let y = labelled_by n l.label t in (0, l, y.0, omega arith, refl, y.1, y.2)
    pick false t h later = let g = later h in let k : j ≡ (i + 1) + g.0 = g.3 in (suc g.0, g.1, g.2, omega arith, g.4, g.5, g.6)

stands_by : (p : Program) (i n : ℕ) (f : Function) → slice_get p.functions i ≡ Some f → (o m : Option ℕ) (b : Bool) → function_number n 0 p.functions ≡ o → label_line n 1 f.lines ≡ m → IsScope p i n (function_or o (label_or m (local_or_global b)))
stands_by p i n f at (Some j) m b d e = let g = function_found n 0 p.functions j d in let k : j ≡ g.0 = (let h : j ≡ 0 + g.0 = g.2 in omega arith) in (g.1, ap (slice_get p.functions) k ∙ g.3, g.4)
stands_by p i n f at None (Some j) b d e = let g = label_found n 1 f.lines j e in let k : j ≡ g.0 + 1 = (let h : j ≡ 1 + g.0 = g.3 in omega arith) in (f, g.1, g.2, g.0, at, g.4, ap pos k, g.5, g.6)
stands_by p i n f at None None true d e = tt
stands_by p i n f at None None false d e = tt

stands_at : (p : Program) (i n : ℕ) (o : Option Function) → slice_get p.functions i ≡ o → IsScope p i n (option_map_or (λ f. scope_in p.functions f n) o s.Global)
stands_at p i n None e = tt
stands_at p i n (Some f) e = stands_by p i n f e (function_number n 0 p.functions) (label_line n 1 f.lines) (stands_in n (header_names f)) refl refl

-- a function that a scope gives is one of the program's, and of this name; a label is that of the line
pub scope_stands : (p : Program) (i n : ℕ) → IsScope p i n (scope_of p i n)
scope_stands p i n = stands_at p i n (slice_get p.functions i) refl

-- ---- Where a program starts

start_there : (ns : List (List ℕ)) (i : ℕ) (fs : List Function) → list_any (is_start ns) (map outline fs) ≡ true → is_some (start_from ns i fs) ≡ true
start_there ns i [] e = absurd (clash false e refl)
start_there ns i (f ∷ fs) e = pick (starts ns f) e (start_there ns (i + 1) fs)
  where
    pick : (b : Bool) → (b || list_any (is_start ns) (map outline fs)) ≡ true → (list_any (is_start ns) (map outline fs) ≡ true → is_some (start_from ns (i + 1) fs) ≡ true) → is_some (if b then Some i else start_from ns (i + 1) fs) ≡ true
    pick true h later = refl
    pick false h later = later h

-- a program that nothing refuses has a function where it starts
pub clean_start : (p : Program) → IsClean p → is_some (start_of p) ≡ true
clean_start p c = pick (list_any (is_start p.names) (outlines p)) refl
  where
    pick : (b : Bool) → list_any (is_start p.names) (outlines p) ≡ b → is_some (start_of p) ≡ true
    pick true e = start_there p.names 0 p.functions e
    pick false e = absurd (c (refusal no_main (main_place p.names (outlines p))) (mainless (record { none = e; is = refl })))

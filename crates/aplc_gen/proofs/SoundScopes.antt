-- What names are in the functions of a program that nothing refuses: what is read and assigned are variables and labels,
-- and arguments and results are local.
use Rattle.std.proofs.Common.{◌≡◌, ◌∙◌, refl, sym, ap, ℕ, zero, suc, ◌+◌, ◌<◌, ◌≤◌, List, [], ◌∷◌, ◌++◌, length, pos, Option, Some, None, Bool, true, false, ◌||◌, ◌&&◌, nat_eq, if◌then◌else◌, arith}
use Rattle.std.specs.Prelude.{map, is_some, option_map}
use Rattle.std.specs.List.{slice_get}
use Rattle.std.specs.Option.{option_to_list}
use Rattle.std.proofs.lemmas.Bool.Decides.{nat_tests}
use Rattle.std.proofs.lemmas.Option.{slice_get_within}
use Rattle.aplc_scalar.specs.Scalar.{in_range}
use Rattle.aplc_lex.specs.Tokens.{refusal}
use Rattle.aplc_lex.specs.declared.token.Refusal.{Refusal}
use Rattle.aplc_syntax.specs.declared.tree.Named.{Named}
use Rattle.aplc_syntax.specs.declared.tree.Line.{Line}
use Rattle.aplc_syntax.specs.declared.tree.Function.{Function}
use Rattle.aplc_syntax.specs.declared.tree.Program.{Program}
use Rattle.aplc_syntax.specs.declared.word.Role.TheVariants as role
use Rattle.aplc_syntax.specs.Layout.{arity_of}
use Rattle.aplc_names.specs.declared.outline.Mention.{Mention}
use Rattle.aplc_names.specs.declared.outline.Outline.{Outline}
use Rattle.aplc_names.specs.Outlines.{outline, outlines, labels_in, header_names, lines_mentions}
use Rattle.aplc_names.specs.Tables.{is_named, stands_in}
use Rattle.aplc_names.specs.Scopes.{function_names, function_number, is_label, label_line, local_or_global, label_or, function_or, scope_in}
use Rattle.aplc_names.specs.Clashes.{StandsIn, local_again, local_taken, name_assigned, in_function, assigned, twice}
use Rattle.aplc_names.specs.Fits.{is_variable as is_variable_role, role_of_function, roles}
use Rattle.aplc_names.specs.Programs.{IsClean}
use Rattle.aplc_names.specs.PlainPrograms.{routine_of, name_number}
use Rattle.aplc_names.proofs.Lists.{some_same, none_some, Has, get_left, has_left, has_right}
use Rattle.aplc_gen.specs.Sound.{is_variable, is_readable, is_own, is_own_name, has_own_names}
use Rattle.aplc_gen.proofs.SoundCuts.{both_true}

-- ---- Names that are found or not

-- a variable is no function's name
no_function_role : (t : Bool) (g : Function) → is_variable_role (if t then role.Function (arity_of g.left g.right) else role.Procedure (arity_of g.left g.right)) ≡ true → ⊥
no_function_role true g e = cc
no_function_role false g e = cc

variable_number : (n i : ℕ) (fs : List Function) → is_variable_role (roles fs n) ≡ true → function_number n i fs ≡ None
variable_number n i [] e = refl
variable_number n i (g ∷ gs) e = pick (nat_eq g.name.name.0 n) e (variable_number n (i + 1) gs)
  where
    pick : (b : Bool) → is_variable_role (if b then role_of_function g else roles gs n) ≡ true → (is_variable_role (roles gs n) ≡ true → function_number n (i + 1) gs ≡ None) → (if b then Some i else function_number n (i + 1) gs) ≡ None
    pick true h later = absurd (no_function_role (is_some g.result) g h)
    pick false h later = later h

-- a name that heads no function
unheaded : (n i : ℕ) (fs : List Function) → stands_in n (function_names (map outline fs)) ≡ false → function_number n i fs ≡ None
unheaded n i [] e = refl
unheaded n i (g ∷ gs) e = pick (is_named n g.name) e (unheaded n (i + 1) gs)
  where
    pick : (b : Bool) → b || stands_in n (function_names (map outline gs)) ≡ false → (stands_in n (function_names (map outline gs)) ≡ false → function_number n (i + 1) gs ≡ None) → (if b then Some i else function_number n (i + 1) gs) ≡ None
    pick true h later = cc
    pick false h later = later h

-- a name that is no label
unlabelled_step : (n i : ℕ) (x : Option Named) (names : List Named) (m : Option ℕ) → (stands_in n names ≡ false → m ≡ None) → stands_in n (option_to_list x ++ names) ≡ false → (if is_label n x then Some i else m) ≡ None
unlabelled_step n i None names m f e = f e
unlabelled_step n i (Some x) names m f e = pick (is_named n x) e
  where
    pick : (b : Bool) → b || stands_in n names ≡ false → (if b then Some i else m) ≡ None
    pick true h = cc
    pick false h = f h

unlabelled : (n i : ℕ) (ls : List Line) → stands_in n (labels_in ls) ≡ false → label_line n i ls ≡ None
unlabelled n i [] e = refl
unlabelled n i (l ∷ ls) e = unlabelled_step n i l.label (labels_in ls) (label_line n (i + 1) ls) (unlabelled n (i + 1) ls) e

label_below : (n i : ℕ) (ls : List Line) (j : ℕ) → label_line n i ls ≡ Some j → j < i + length ls
label_below n i [] j e = absurd (none_some j e)
label_below n i (l ∷ ls) j e = pick (is_label n l.label) e (label_below n (i + 1) ls j)
  where
    pick : (b : Bool) → (if b then Some i else label_line n (i + 1) ls) ≡ Some j → (label_line n (i + 1) ls ≡ Some j → j < (i + 1) + length ls) → j < i + length (l ∷ ls)
    pick true h later = let g : i ≡ j = some_same i j h in omega (arith, g)
    pick false h later = let g = later h in omega (arith, g)

-- ---- What is read

line_in_range : (i : ℕ) → i ≤ 1000 → in_range (pos i) ≡ true
unfolding in_range
line_in_range i h = grind (arith, nat_tests)

pub variable_readable : (fs : List Function) (f : Function) (n : ℕ) → length f.lines ≤ 999 → is_variable_role (roles fs n) ≡ true → is_readable (scope_in fs f n) ≡ true
variable_readable fs f n few e =
    ap (λ o. is_readable (function_or o (label_or (label_line n 1 f.lines) (local_or_global (stands_in n (header_names f)))))) (variable_number n 0 fs e)
    ∙ by_label (label_line n 1 f.lines) (stands_in n (header_names f)) refl
  where
    by_label : (o : Option ℕ) (b : Bool) → label_line n 1 f.lines ≡ o → is_readable (label_or o (local_or_global b)) ≡ true
    by_label (Some j) b h = let g = label_below n 1 f.lines j h in line_in_range j (omega (arith, g, few))
    by_label None true h = refl
    by_label None false h = refl

-- ---- What is assigned

-- an assigned name heads no function, and is no label where it stands
abbrev pub IsFree : List Function → Function → Mention → Type 0
IsFree fs f m = m.assigned ≡ true → stands_in m.name.0 (labels_in f.lines) || stands_in m.name.0 (function_names (map outline fs)) ≡ false

abbrev pub AreFree : List Function → Function → List Mention → Type 0
AreFree fs f ms = (m : Mention) → Has ms m → IsFree fs f m

first_false : (a b : Bool) → a || b ≡ false → a ≡ false
first_false true b e = cc
first_false false b e = refl

second_false : (a b : Bool) → a || b ≡ false → b ≡ false
second_false true b e = cc
second_false false b e = e

pub free_variable : (fs : List Function) (f : Function) (n : ℕ) → stands_in n (labels_in f.lines) || stands_in n (function_names (map outline fs)) ≡ false → is_variable (scope_in fs f n) ≡ true
free_variable fs f n e =
    let a = stands_in n (labels_in f.lines) in
    let b = stands_in n (function_names (map outline fs)) in
    ap (λ o. is_variable (function_or o (label_or (label_line n 1 f.lines) (local_or_global (stands_in n (header_names f)))))) (unheaded n 0 fs (second_false a b e))
    ∙ ap (λ o. is_variable (label_or o (local_or_global (stands_in n (header_names f))))) (unlabelled n 1 f.lines (first_false a b e))
    ∙ either (stands_in n (header_names f))
  where
    either : (b : Bool) → is_variable (local_or_global b) ≡ true
    either true = refl
    either false = refl

outline_at : (fs : List Function) (i : ℕ) (f : Function) → slice_get fs i ≡ Some f → slice_get (map outline fs) i ≡ Some (outline f)
outline_at [] i f e = absurd (none_some f e)
outline_at (g ∷ gs) zero f e = ap (λ (h : Function). let o : Option Outline = Some (outline h) in o) (some_same g f e)
outline_at (g ∷ gs) (suc i) f e = outline_at gs i f e

-- nothing refuses what stands in a function
clean_in : (p : Program) (i : ℕ) (f : Function) (r : Refusal) → IsClean p → slice_get p.functions i ≡ Some f → StandsIn (function_names (outlines p)) i (outline f) r → ⊥
clean_in p i f r clean at h = clean r (in_function (record { index = i; item = outline f; found = outline_at p.functions i f at; gives = h }))

pub clean_free : (p : Program) (i : ℕ) (f : Function) → IsClean p → slice_get p.functions i ≡ Some f → AreFree p.functions f (lines_mentions f.lines)
clean_free p i f clean at m has e = pick (stands_in m.name.0 (labels_in f.lines) || stands_in m.name.0 (function_names (outlines p))) refl
  where
    pick : (b : Bool) → stands_in m.name.0 (labels_in f.lines) || stands_in m.name.0 (function_names (outlines p)) ≡ b → b ≡ false
    pick false h = refl
    pick true h =
        absurd (clean_in p i f (refusal assigned m.place) clean at (name_assigned (record { index = has.0; item = m; found = has.1; gives = record { changed = e; fixed = h; is = refl } })))

-- ---- Arguments and results

names_itself : (x : Named) → is_named x.name.0 x ≡ true
names_itself x = grind (arith, nat_tests)

has_stands : (xs : List Named) (k : ℕ) (x : Named) → slice_get xs k ≡ Some x → stands_in x.name.0 xs ≡ true
has_stands [] k x e = absurd (none_some x e)
has_stands (y ∷ ys) zero x e = let h : y ≡ x = some_same y x e in ap (λ z. is_named x.name.0 z || stands_in x.name.0 ys) h ∙ ap (λ b. b || stands_in x.name.0 ys) (names_itself x)
has_stands (y ∷ ys) (suc k) x e = behind (is_named x.name.0 y) (stands_in x.name.0 ys) (has_stands ys k x e)
  where
    behind : (a b : Bool) → b ≡ true → a || b ≡ true
    behind true b h = refl
    behind false b h = h

-- a name that stands in the second of two lists, behind all of the first
abbrev Behind : ℕ → List Named → List Named → Type 0
Behind n xs ys = (k : ℕ) × (y : Named) × (length xs ≤ k) × (slice_get (xs ++ ys) k ≡ Some y) × (y.name.0 ≡ n)

stands_behind : (n : ℕ) (xs ys : List Named) → stands_in n ys ≡ true → Behind n xs ys
stands_behind n [] [] e = cc
stands_behind n [] (y ∷ ys) e = pick (is_named n y) refl e (stands_behind n [] ys)
  where
    pick : (b : Bool) → is_named n y ≡ b → b || stands_in n ys ≡ true → (stands_in n ys ≡ true → Behind n [] ys) → Behind n [] (y ∷ ys)
    pick true h g later = (0, y, omega arith, refl, (grind (arith, nat_tests)))
    pick false h g later = let w = later g in (suc w.0, w.1, omega arith, w.3, w.4)
stands_behind n (x ∷ xs) ys e = let w = stands_behind n xs ys e in let l = w.2 in (suc w.0, w.1, omega (arith, l), w.3, w.4)

-- a name of the header is no function's, and no label
pub own_local : (p : Program) (i : ℕ) (f : Function) (k : ℕ) (x : Named) → IsClean p → slice_get p.functions i ≡ Some f → slice_get (header_names f) k ≡ Some x → is_own (scope_in p.functions f x.name.0) ≡ true
own_local p i f k x clean at has =
    ap (λ o. is_own (function_or o (label_or (label_line x.name.0 1 f.lines) (local_or_global (stands_in x.name.0 (header_names f)))))) (unheaded x.name.0 0 p.functions (no_head (stands_in x.name.0 (function_names (outlines p))) refl))
    ∙ ap (λ o. is_own (label_or o (local_or_global (stands_in x.name.0 (header_names f))))) (unlabelled x.name.0 1 f.lines (no_label (stands_in x.name.0 (labels_in f.lines)) refl))
    ∙ ap (λ b. is_own (local_or_global b)) (has_stands (header_names f) k x has)
  where
    there : slice_get (header_names f ++ labels_in f.lines) k ≡ Some x
    there = get_left (header_names f) (labels_in f.lines) x k has

    no_head : (b : Bool) → stands_in x.name.0 (function_names (outlines p)) ≡ b → b ≡ false
    no_head false h = refl
    no_head true h = absurd (clean_in p i f (refusal twice x.place) clean at (local_taken (record { index = k; item = x; found = there; gives = record { heads = h; is = refl } })))

    no_label : (b : Bool) → stands_in x.name.0 (labels_in f.lines) ≡ b → b ≡ false
    no_label false h = refl
    no_label true h =
        let w = stands_behind x.name.0 (header_names f) (labels_in f.lines) h in
        let l = w.2 in
        let m = slice_get_within (header_names f) k x has in
        let r = refusal twice w.1.place in
        absurd (clean_in p i f r clean at (local_again (record { index = w.0; item = w.1; found = w.3; gives = record { index = k; item = x; found = there; before = omega (arith, l, m); same = sym w.4; is = refl } })))

own_if : (fs : List Function) (f : Function) (a : Option Named) → ((x : Named) → Has (option_to_list a) x → is_own (scope_in fs f x.name.0) ≡ true) → is_own_name (scope_in fs f) (option_map name_number a) ≡ true
own_if fs f None g = refl
own_if fs f (Some x) g = g x (0, refl)

pub own_names : (p : Program) (i : ℕ) (f : Function) → IsClean p → slice_get p.functions i ≡ Some f → has_own_names (routine_of p f) ≡ true
own_names p i f clean at =
    let fs : List Function = p.functions in
    let results : List Named = option_to_list f.result in
    let lefts : List Named = option_to_list f.left in
    let rights : List Named = option_to_list f.right in
    let all : (x : Named) → Has (results ++ lefts) x → is_own (scope_in fs f x.name.0) ≡ true = λ x h.
    let w = has_left (results ++ lefts ++ rights) f.locals x (has_left (results ++ lefts) rights x h) in own_local p i f w.0 x clean at w.1 in
    let a = is_own_name (scope_in fs f) (option_map name_number f.left) in
    let b = is_own_name (scope_in fs f) (option_map name_number f.right) in
    let c = is_own_name (scope_in fs f) (option_map name_number f.result) in
    both_true a (b && c) (own_if fs f f.left (λ x h. all x (has_right results lefts x h))) (both_true b c
    (own_if fs f f.right (λ x h. let w = has_left (results ++ lefts ++ rights) f.locals x (has_right (results ++ lefts) rights x h) in own_local p i f w.0 x clean at w.1))
    (own_if fs f f.result (λ x h. all x (has_left results lefts x h))))

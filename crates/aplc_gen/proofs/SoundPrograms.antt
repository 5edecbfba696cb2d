-- A program that nothing refuses and of which all is built is sound as steps.
use Rattle.std.proofs.Common.{◌≡◌, ◌∙◌, refl, ap, subst, ℕ, zero, suc, ◌+◌, ◌<◌, ◌≤◌, List, [], ◌∷◌, length, Option, Some, None, Bool, true, false, ◌&&◌, nat_le, if◌then◌else◌, map, All, get_or, arith}
use mathlib.Core.Bool.{Bool-set}
use mathlib.Core.Logic.{∥∥₁_elim}
use Rattle.std.specs.Prelude.{flat_map, is_some, is_none, option_map, option_and_then, unwrap_or, codes}
use Rattle.std.specs.List.{slice_get}
use Rattle.std.proofs.lemmas.List.{length-map}
use Rattle.std.proofs.lemmas.List.Elements.{All-head, All-tail, All-get_or}
use Rattle.std.proofs.lemmas.Option.{slice_get-get_or}
use Rattle.aplc_cprof.specs.WellFormed.{is_name as is_text_name}
use Rattle.aplc_syntax.specs.declared.tree.Named.{Named}
use Rattle.aplc_syntax.specs.declared.tree.Line.{Line}
use Rattle.aplc_syntax.specs.declared.tree.Function.{Function}
use Rattle.aplc_syntax.specs.declared.tree.Program.{Program}
use Rattle.aplc_syntax.specs.Layout.{is_called}
use Rattle.aplc_syntax.specs.Programs.{statement_ids, program_ids}
use Rattle.aplc_names.specs.declared.scope.Scope.{Scope}
use Rattle.aplc_names.specs.Outlines.{outline, is_bare as is_bare_function, label_mention, statement_mentions, line_mentions, lines_mentions}
use Rattle.aplc_names.specs.Scopes.{scope_in, starts, start_from, start_of}
use Rattle.aplc_names.specs.Fits.{is_name, statement_fits, roles, HasFittingStatements, HasNames}
use Rattle.aplc_names.specs.PlainPrograms.{routine_of, name_number, title_in, line_action, plain}
use Rattle.aplc_names.specs.Programs.{IsParsed, IsClean, HasShortFunctions, HasSmallStatements, IsOutlineBelow, HasNamesBelow}
use Rattle.aplc_names.proofs.Lists.{some_same, none_some, has_right, has_flat}
use Rattle.aplc_names.proofs.Scoped.{clean_start}
use Rattle.aplc_core.specs.CoreRuns.{PlainCore}
use Rattle.aplc_core.specs.Lowering.{lowered, lowered_routine, lowered_program}
use Rattle.aplc_gen.specs.Unbuilt.{FactList, smaller, least, first_place, line_unbuilt, function_unbuilt, program_unbuilt}
use Rattle.aplc_gen.specs.Sound.{is_line, are_lines, is_routine, are_routines, has_own_names, both_or_none, begins, is_sound}
use Rattle.aplc_gen.proofs.SoundCuts.{both_true, second_true}
use Rattle.aplc_gen.proofs.SoundNumbers.{Once, once, once_left, once_right}
use Rattle.aplc_gen.proofs.SoundTitles.{name_in_c}
use Rattle.aplc_gen.proofs.SoundScopes.{AreFree, clean_free, own_names}
use Rattle.aplc_gen.proofs.SoundCalls.{IsLedFunction, parsed_led, routine_at}
use Rattle.aplc_gen.proofs.SoundTrees.{first_empty, second_empty, at_most, statement_suits, statement_line}

-- ---- Lists

pub all_at : {X : Type 0} (P : X → Type 0) (xs : List X) (k : ℕ) (x : X) → All P xs → slice_get xs k ≡ Some x → P x
all_at P [] k x h e = absurd (none_some x e)
all_at P (y ∷ ys) zero x h e = subst P (some_same y x e) (All-head P y ys h)
all_at P (y ∷ ys) (suc k) x h e = all_at P ys k x (All-tail P y ys h) e

empty_at : {X : Type 0} (f : X → List ℕ) (xs : List X) (k : ℕ) (x : X) → flat_map f xs ≡ [] → slice_get xs k ≡ Some x → f x ≡ []
empty_at f [] k x h e = absurd (none_some x e)
empty_at f (y ∷ ys) zero x h e = subst (λ z. f z ≡ []) (some_same y x e) (first_empty (f y) (flat_map f ys) h)
empty_at f (y ∷ ys) (suc k) x h e = empty_at f ys k x (second_empty (f y) (flat_map f ys) h) e

once_at : {X : Type 0} (f : X → List ℕ) (xs : List X) (k : ℕ) (x : X) → Once (flat_map f xs) → slice_get xs k ≡ Some x → Once (f x)
once_at f [] k x h e = absurd (none_some x e)
once_at f (y ∷ ys) zero x h e = subst (λ z. Once (f z)) (some_same y x e) (once_left (f y) (flat_map f ys) h)
once_at f (y ∷ ys) (suc k) x h e = once_at f ys k x (once_right (f y) (flat_map f ys) h) e

nothing_least : (ps : List ℕ) → least ps ≡ None → ps ≡ []
nothing_least [] e = refl
nothing_least (p ∷ ps) e = some_smaller (least ps) e
  where
    picked : (b : Bool) (m n : ℕ) → (if b then Some m else Some n) ≡ None → p ∷ ps ≡ []
    picked true m n h = cc
    picked false m n h = cc

    some_smaller : (o : Option ℕ) → smaller (Some p) o ≡ None → p ∷ ps ≡ []
    some_smaller None h = cc
    some_smaller (Some q) h = picked (nat_le p q) p q h

-- ---- Titles

title_named : (p : Program) (n : ℕ) → HasNames p → n < length p.names → is_text_name (title_in p.names n) ≡ true
title_named p n named below =
    ap (λ o. is_text_name (unwrap_or o [])) (slice_get-get_or p.names n [] below)
    ∙ name_in_c (get_or p.names n []) (All-get_or (λ bs. is_name bs ≡ true) p.names n [] below named)

-- ---- Where a program starts

abbrev StartAt : List (List ℕ) → ℕ → List Function → ℕ → Type 0
StartAt ns i fs j = (k : ℕ) × (g : Function) × (j ≡ i + k) × (slice_get fs k ≡ Some g) × (starts ns g ≡ true)

start_at : (ns : List (List ℕ)) (i : ℕ) (fs : List Function) (j : ℕ) → start_from ns i fs ≡ Some j → StartAt ns i fs j
start_at ns i [] j e = absurd (none_some j e)
start_at ns i (f ∷ fs) j e = pick (starts ns f) refl e (start_at ns (i + 1) fs j)
  where
    pick : (b : Bool) → starts ns f ≡ b → (if b then Some i else start_from ns (i + 1) fs) ≡ Some j → (start_from ns (i + 1) fs ≡ Some j → StartAt ns (i + 1) fs j) → StartAt ns i (f ∷ fs) j
    pick true t h later = let g : i ≡ j = some_same i j h in (0, f, omega (arith, g), refl, t)
    pick false t h later = let g = later h in let k : j ≡ (i + 1) + g.0 = g.2 in (suc g.0, g.1, omega (arith, k), g.3, g.4)

bare_header : (result left right : Option Named) → is_none result && is_none left && is_none right ≡ true
    → both_or_none (option_map name_number left) None && (both_or_none (option_map name_number right) None && both_or_none (option_map name_number result) None) ≡ true
bare_header None None None e = refl
bare_header None None (Some r) e = cc
bare_header None (Some l) r e = cc
bare_header (Some x) l r e = cc

start_bare : (p : Program) (o : Option ℕ) → start_of p ≡ o → is_some o ≡ true → begins (option_and_then (slice_get (lowered_program (plain p)).routines) o) ≡ true
start_bare p None e h = cc
start_bare p (Some j) e h =
    let w = start_at p.names 0 p.functions j e in
    let g : Function = w.1 in
    let c : j ≡ 0 + w.0 = w.2 in
    let same : j ≡ w.0 = omega (arith, c) in
    ap (λ k. begins (slice_get (lowered_program (plain p)).routines k)) same
    ∙ ap begins (routine_at p w.0 g w.3)
    ∙ bare_header g.result g.left g.right (second_true (is_called p.names g.name.name.0 (codes "MAIN")) (is_bare_function g) w.4)

-- ---- Functions

lines_fine : (p : PlainCore) (sc : ℕ → Scope) (ls : List Line) → ((k : ℕ) (l : Line) → slice_get ls k ≡ Some l → is_line p sc (lowered (line_action l)) ≡ true) → are_lines p sc (map lowered (map line_action ls)) ≡ true
lines_fine p sc [] h = refl
lines_fine p sc (l ∷ ls) h = both_true (is_line p sc (lowered (line_action l))) (are_lines p sc (map lowered (map line_action ls))) (h 0 l refl) (lines_fine p sc ls (λ k m e. h (suc k) m e))

routines_fine : (p : Program) (c : PlainCore) (fs : List Function) → ((k : ℕ) (g : Function) → slice_get fs k ≡ Some g → is_routine c (lowered_routine (routine_of p g)) ≡ true) → are_routines c (map lowered_routine (map (routine_of p) fs)) ≡ true
routines_fine p c [] h = refl
routines_fine p c (g ∷ gs) h =
    both_true (is_routine c (lowered_routine (routine_of p g))) (are_routines c (map lowered_routine (map (routine_of p) gs))) (h 0 g refl) (routines_fine p c gs (λ k m e. h (suc k) m e))

free_in_line : (fs : List Function) (f : Function) (k : ℕ) (l : Line) → AreFree fs f (lines_mentions f.lines) → slice_get f.lines k ≡ Some l → AreFree fs f (statement_mentions l.statement)
free_in_line fs f k l h e m has = h m (has_flat line_mentions f.lines k l m e (has_right (label_mention l.label) (statement_mentions l.statement) m has))

abbrev line_ids : Line → List ℕ
line_ids l = statement_ids l.statement

abbrev function_ids : Function → List ℕ
function_ids f = flat_map line_ids f.lines

all_four : (a b c d : Bool) → a ≡ true → b ≡ true → c ≡ true → d ≡ true → a && (b && (c && d)) ≡ true
all_four a b c d e f g h = both_true a (b && (c && d)) e (both_true b (c && d) f (both_true c d g h))

-- what a program that is refused for nothing has, as far as its steps need it
pub record IsAccepted (p : Program) (facts : FactList) : Type 0 where
  pub built : first_place p facts ≡ None
  pub led : (k : ℕ) (g : Function) → slice_get p.functions k ≡ Some g → IsLedFunction g
  pub distinct : Once (flat_map function_ids p.functions)
  pub clean : IsClean p
  pub short : HasShortFunctions p
  pub small : HasSmallStatements p
  pub fitting : HasFittingStatements p
  pub named : HasNames p
  pub below : HasNamesBelow p

line_sound : (p : Program) (facts : FactList) → IsAccepted p facts → (i : ℕ) (f : Function) → slice_get p.functions i ≡ Some f → (k : ℕ) (l : Line) → slice_get f.lines k ≡ Some l
    → is_line (lowered_program (plain p)) (scope_in p.functions f) (lowered (line_action l)) ≡ true
line_sound p facts a i f at k l e =
    let few = all_at (λ (g : Function). length g.lines ≤ 999) p.functions i f a.short at in
    let small = all_at (λ (m : Line). length (statement_ids m.statement) ≤ 256) f.lines k l (all_at (λ (g : Function). All (λ (m : Line). length (statement_ids m.statement) ≤ 256) g.lines) p.functions i f a.small at) e in
    let fitting = all_at (λ (m : Line). statement_fits (roles p.functions) m.statement ≡ true) f.lines k l (all_at (λ (g : Function). All (λ (m : Line). statement_fits (roles p.functions) m.statement ≡ true) g.lines) p.functions i f a.fitting at) e in
    let built = empty_at (line_unbuilt facts) f.lines k l (empty_at (function_unbuilt facts) p.functions i f (nothing_least (program_unbuilt p facts) a.built) at) e in
    let own = once_at line_ids f.lines k l (once_at function_ids p.functions i f a.distinct at) e in
    statement_line (lowered_program (plain p)) (scope_in p.functions f) l.statement
    (statement_suits p f few a.led facts l.statement built fitting (free_in_line p.functions f k l (clean_free p i f a.clean at) e)) own small

lines_short : (f : Function) → length f.lines ≤ 999 → nat_le (length (map lowered (map line_action f.lines))) 999 ≡ true
lines_short f h = let a = length-map (map line_action f.lines) lowered in let b = length-map f.lines line_action in at_most (length (map lowered (map line_action f.lines))) 999 (omega (arith, a, b, h))

routine_sound : (p : Program) (facts : FactList) → IsAccepted p facts → (i : ℕ) (f : Function) → slice_get p.functions i ≡ Some f → is_routine (lowered_program (plain p)) (lowered_routine (routine_of p f)) ≡ true
routine_sound p facts a i f at =
    let few = all_at (λ (g : Function). length g.lines ≤ 999) p.functions i f a.short at in
    let below = all_at (λ (g : Function). IsOutlineBelow (length p.names) (outline g)) p.functions i f a.below.1 at in
    let steps = map lowered (map line_action f.lines) in
    all_four (is_text_name (title_in p.names f.name.name.0)) (has_own_names (routine_of p f)) (nat_le (length steps) 999) (are_lines (lowered_program (plain p)) (scope_in p.functions f) steps)
    (title_named p f.name.name.0 a.named below.0) (own_names p i f a.clean at) (lines_short f few)
    (lines_fine (lowered_program (plain p)) (scope_in p.functions f) f.lines (λ k l e. line_sound p facts a i f at k l e))

-- ---- Programs

pub accepted_sound : (p : Program) (facts : FactList) → IsAccepted p facts → is_sound (lowered_program (plain p)) ≡ true
accepted_sound p facts a =
    both_true (begins (option_and_then (slice_get (lowered_program (plain p)).routines) (start_of p))) (are_routines (lowered_program (plain p)) (lowered_program (plain p)).routines)
    (start_bare p (start_of p) refl (clean_start p a.clean))
    (routines_fine p (lowered_program (plain p)) p.functions (λ i f at. routine_sound p facts a i f at))

-- a resolved program of which all is built
pub lowered_sound : (p : Program) (facts : FactList) → first_place p facts ≡ None → ∥ IsParsed p ∥₁ → IsClean p → HasShortFunctions p → HasSmallStatements p → HasFittingStatements p → HasNames p → HasNamesBelow p
    → is_sound (lowered_program (plain p)) ≡ true
lowered_sound p facts built parsed clean short small fitting named below =
    ∥∥₁_elim parsed (Bool-set (is_sound (lowered_program (plain p))) true) (λ h. accepted_sound p facts (record {
      built = built;
      led = λ k g e. parsed_led p h k g e;
      distinct = once (program_ids p) h.distinct;
      clean = clean;
      short = short;
      small = small;
      fitting = fitting;
      named = named;
      below = below;
    }))

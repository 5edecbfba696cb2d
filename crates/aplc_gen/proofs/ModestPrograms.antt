-- The steps of a resolved program are modest: few functions, small numbers of names and slots, and local names of headers.
use Rattle.std.proofs.Common.{◌≡◌, ◌∙◌, refl, ap, subst, ℕ, ◌<◌, ◌≤◌, List, [], ◌∷◌, ◌++◌, length, Option, Some, None, Bool, true, false, ◌||◌, nat_eq, nat_lt, nat_le, map, All, arith}
use Rattle.std.specs.Prelude.{option_map}
use Rattle.std.specs.Option.{option_to_list}
use Rattle.std.proofs.lemmas.Bool.Decides.{nat_tests}
use Rattle.std.proofs.lemmas.List.{length-map, map-append}
use Rattle.std.proofs.lemmas.List.Elements.{All-head, All-tail}
use Rattle.aplc_syntax.specs.declared.tree.Named.{Named}
use Rattle.aplc_syntax.specs.declared.tree.Line.{Line}
use Rattle.aplc_syntax.specs.declared.tree.Function.{Function}
use Rattle.aplc_syntax.specs.declared.tree.Program.{Program}
use Rattle.aplc_syntax.specs.declared.tree.Statement.{Statement}
use Rattle.aplc_syntax.specs.declared.tree.Statement.TheVariants as st
use Rattle.aplc_syntax.specs.PlainTrees.{tree_of}
use Rattle.aplc_syntax.specs.Programs.{statement_ids}
use Rattle.aplc_names.specs.declared.outline.Mention.{Mention}
use Rattle.aplc_names.specs.declared.scope.Scope.{Scope}
use Rattle.aplc_names.specs.Outlines.{outline, header_names, labels_in, label_mention, statement_mentions, line_mentions, lines_mentions}
use Rattle.aplc_names.specs.Tables.{is_named, stands_in}
use Rattle.aplc_names.specs.Scopes.{function_number, label_line, local_or_global, label_or, function_or, scope_in}
use Rattle.aplc_names.specs.PlainPrograms.{routine_of, name_number, names_of_header, action_of, line_action, plain}
use Rattle.aplc_names.specs.Programs.{IsBelow, IsOutlineBelow, HasSmallStatements, HasNamesBelow}
use Rattle.aplc_names.specs.States.{is_among}
use Rattle.aplc_core.specs.Lowering.{lowered, lowered_routine, lowered_program}
use Rattle.aplc_gen.specs.Made.{is_low_name, are_low_steps, are_low_lines, are_below, is_low_routine, are_low_routines, is_modest}
use Rattle.aplc_gen.proofs.SoundCuts.{both_true}
use Rattle.aplc_gen.proofs.SoundPrograms.{all_at}
use Rattle.aplc_gen.proofs.ModestCuts.{AreSmall, small_left, small_right, display_low, branch_low, quiet_low}

-- ---- Headers

given_names : (o : Option Named) → map name_number (option_to_list o) ≡ option_to_list (option_map name_number o)
given_names None = refl
given_names (Some x) = refl

-- the numbers of the names of a header
header_numbers : (p : Program) (f : Function) → map name_number (header_names f) ≡ names_of_header (routine_of p f)
header_numbers p f =
    let a = option_to_list f.result in
    let b = option_to_list f.left in
    let c = option_to_list f.right in
    map-append name_number (a ++ b ++ c) f.locals
    ∙ ap (λ ns. ns ++ map name_number f.locals) (map-append name_number (a ++ b) c)
    ∙ ap (λ ns. ns ++ map name_number c ++ map name_number f.locals) (map-append name_number a b)
    ∙ ap (λ ns. ns ++ map name_number b ++ map name_number c ++ map name_number f.locals) (given_names f.result)
    ∙ ap (λ ns. option_to_list (option_map name_number f.result) ++ ns ++ map name_number c ++ map name_number f.locals) (given_names f.left)
    ∙ ap (λ ns. option_to_list (option_map name_number f.result) ++ option_to_list (option_map name_number f.left) ++ ns ++ map name_number f.locals) (given_names f.right)

small_number : (k n : ℕ) → k < n → n ≤ 262144 → nat_lt k 262144 ≡ true
small_number k n h le = grind (arith, nat_tests)

-- names in front of others
names_below : (n : ℕ) (xs ys : List Named) → n ≤ 262144 → All (IsBelow n) (xs ++ ys) → are_below (map name_number xs) ≡ true
names_below n [] ys le h = refl
names_below n (x ∷ xs) ys le h =
    both_true (nat_lt x.name.0 262144) (are_below (map name_number xs)) (small_number x.name.0 n (All-head (IsBelow n) x (xs ++ ys) h) le) (names_below n xs ys le (All-tail (IsBelow n) x (xs ++ ys) h))

named_number : (n : ℕ) (x : Named) → is_named n x ≡ true → nat_eq n x.name.0 ≡ true
named_number n x h = grind (arith, nat_tests)

stands_among : (n : ℕ) (xs : List Named) → stands_in n xs ≡ true → is_among n (map name_number xs) ≡ true
stands_among n [] e = e
stands_among n (x ∷ xs) e = pick (is_named n x) refl e (stands_among n xs)
  where
    pick : (b : Bool) → is_named n x ≡ b → b || stands_in n xs ≡ true → (stands_in n xs ≡ true → is_among n (map name_number xs) ≡ true) → nat_eq n x.name.0 || is_among n (map name_number xs) ≡ true
    pick true h g later = ap (λ b. b || is_among n (map name_number xs)) (named_number n x h)
    pick false h g later = behind (nat_eq n x.name.0) (is_among n (map name_number xs)) (later g)
      where
        behind : (a b : Bool) → b ≡ true → a || b ≡ true
        behind true b u = refl
        behind false b u = u

-- ---- Names

low_scope : (hs : List ℕ) (n : ℕ) (o l : Option ℕ) (b : Bool) → nat_lt n 262144 ≡ true → (b ≡ true → is_among n hs ≡ true) → is_low_name hs (function_or o (label_or l (local_or_global b))) n ≡ true
low_scope hs n (Some i) l b small own = refl
low_scope hs n None (Some j) b small own = refl
low_scope hs n None None true small own = own refl
low_scope hs n None None false small own = small

-- a local name stands in the header
low_name : (p : Program) (f : Function) (n : ℕ) → n < 262144 → is_low_name (names_of_header (routine_of p f)) (scope_in p.functions f n) n ≡ true
low_name p f n small =
    let hs : List ℕ = names_of_header (routine_of p f) in
    low_scope hs n (function_number n 0 p.functions) (label_line n 1 f.lines) (stands_in n (header_names f)) (small_number n 262144 small (omega arith))
    (λ e. subst (λ ns. is_among n ns ≡ true) (header_numbers p f) (stands_among n (header_names f) e))

-- ---- Lines

module _ (sc : ℕ → Scope) (hs : List ℕ) (named : (n : ℕ) → n < 262144 → is_low_name hs (sc n) n ≡ true) where
  statement_low : (x : Statement) → AreSmall (statement_mentions x) → length (statement_ids x) ≤ 256 → are_low_steps sc hs (lowered (action_of x)) ≡ true
  statement_low st.Empty h le = refl
  statement_low (st.Quiet n) h le = quiet_low sc hs named (tree_of n) h le
  statement_low (st.Display n) h le = display_low sc hs named (tree_of n) h le
  statement_low (st.Branch o n) h le = branch_low sc hs named o (tree_of n) h le

  lines_low : (ls : List Line) → AreSmall (lines_mentions ls) → All (λ (l : Line). length (statement_ids l.statement) ≤ 256) ls → are_low_lines sc hs (map lowered (map line_action ls)) ≡ true
  lines_low [] h small = refl
  lines_low (l ∷ ls) h small =
      let own = small_right (label_mention l.label) (statement_mentions l.statement) (small_left (line_mentions l) (lines_mentions ls) h) in
      let le = All-head (λ (m : Line). length (statement_ids m.statement) ≤ 256) l ls small in
      both_true (are_low_steps sc hs (lowered (line_action l))) (are_low_lines sc hs (map lowered (map line_action ls))) (statement_low l.statement own le)
      (lines_low ls (small_right (line_mentions l) (lines_mentions ls) h) (All-tail (λ (m : Line). length (statement_ids m.statement) ≤ 256) l ls small))

-- ---- Functions

mentions_small : (n : ℕ) (ms : List Mention) → n ≤ 262144 → All (λ (m : Mention). m.name.0 < n) ms → AreSmall ms
mentions_small n ms le h m has = let e = all_at (λ (m : Mention). m.name.0 < n) ms has.0 m h has.1 in omega (arith, e, le)

routine_low : (p : Program) (f : Function) → length p.names ≤ 262144 → IsOutlineBelow (length p.names) (outline f) → All (λ (l : Line). length (statement_ids l.statement) ≤ 256) f.lines → is_low_routine (lowered_routine (routine_of p f)) ≡ true
routine_low p f names below small =
    let hs : List ℕ = names_of_header (routine_of p f) in
    let sc : ℕ → Scope = scope_in p.functions f in
    both_true (are_below hs) (are_low_lines sc hs (map lowered (map line_action f.lines)))
    (subst (λ ns. are_below ns ≡ true) (header_numbers p f) (names_below (length p.names) (header_names f) (labels_in f.lines) names below.1))
    (lines_low sc hs (low_name p f) f.lines (mentions_small (length p.names) (lines_mentions f.lines) names below.2) small)

routines_low : (p : Program) (fs : List Function) → length p.names ≤ 262144 → All (λ (f : Function). IsOutlineBelow (length p.names) (outline f)) fs → All (λ (f : Function). All (λ (l : Line). length (statement_ids l.statement) ≤ 256) f.lines) fs
    → are_low_routines (map lowered_routine (map (routine_of p) fs)) ≡ true
routines_low p [] names below small = refl
routines_low p (f ∷ fs) names below small =
    both_true (is_low_routine (lowered_routine (routine_of p f))) (are_low_routines (map lowered_routine (map (routine_of p) fs)))
    (routine_low p f names (All-head (λ (g : Function). IsOutlineBelow (length p.names) (outline g)) f fs below) (All-head (λ (g : Function). All (λ (l : Line). length (statement_ids l.statement) ≤ 256) g.lines) f fs small))
    (routines_low p fs names (All-tail (λ (g : Function). IsOutlineBelow (length p.names) (outline g)) f fs below) (All-tail (λ (g : Function). All (λ (l : Line). length (statement_ids l.statement) ≤ 256) g.lines) f fs small))

-- ---- Programs

at_most : (m n : ℕ) → m ≤ n → nat_le m n ≡ true
at_most m n h = grind (arith, nat_tests)

few_routines : (p : Program) → length p.functions ≤ 999 → nat_le (length (lowered_program (plain p)).routines) 999 ≡ true
few_routines p few =
    let a = length-map (plain p).routines lowered_routine in
    let b = length-map p.functions (routine_of p) in
    at_most (length (lowered_program (plain p)).routines) 999 (omega (arith, a, b, few))

-- what resolved programs have, as steps
pub lowered_modest : (p : Program) → length p.functions ≤ 999 → HasSmallStatements p → length p.names ≤ 262144 → HasNamesBelow p → is_modest (lowered_program (plain p)) ≡ true
lowered_modest p few small names below =
    both_true (nat_le (length (lowered_program (plain p)).routines) 999) (are_low_routines (lowered_program (plain p)).routines) (few_routines p few) (routines_low p p.functions names below.1 small)

-- The names of a header and of a declaration weigh no more than the words that they are read from.
use Rattle.std.proofs.Common.{◌≡◌, ℕ, ◌+◌, ◌≤◌, List, [], ◌∷◌, ℤ, pos, Option, Some, None, Bool, true, false, map, option_map, drop, filter_map, if◌then◌else◌, refl, ap, arith, codes, nat_le, ◌&&◌}
use Rattle.std.specs.List.{AllZip, cons_option}
use Rattle.aplc_scalar.specs.declared.kind.Kind.{Kind}
use Rattle.aplc_syntax.specs.declared.tree.Function.{Function}
use Rattle.aplc_syntax.specs.declared.tree.Named.{Named}
use Rattle.aplc_syntax.specs.declared.tree.Var.{Var}
use Rattle.aplc_syntax.specs.declared.word.Word.{Word}
use Rattle.aplc_syntax.specs.declared.word.WordKind.{WordKind}
use Rattle.aplc_syntax.specs.declared.word.WordKind.TheVariants as w
use Rattle.aplc_syntax.specs.Layout.{Row, Block, Header, placed, named, locals, called, header, header_of, Declaration, origin, var, origin_if, var_if, declaration_in, declaration, var_of, is_called, kind_named, Part, outside, function, above}
use Rattle.aplc_syntax.specs.Programs.{IsFunction}
use Rattle.aplc_names.proofs.Weights.{Scale, IsEven, kind_weight, weight, named_weight, optional_named, lines_weight, rows_weight, blocks_weight, parts_weight, weigh_lines}

-- ---- Words with their places

abbrev pairs_weight : Scale → List ℕ → List (WordKind × ℕ) → ℕ
pairs_weight g text [] = 0
pairs_weight g text (x ∷ xs) = kind_weight g text x.1 x.0 + pairs_weight g text xs

same_pairs : (g : Scale) (text : List ℕ) (ws : List Word) → pairs_weight g text (map placed ws) ≡ weight g text ws
same_pairs g text [] = refl
same_pairs g text (x ∷ xs) = ap (λ (n : ℕ). kind_weight g text x.place x.kind + n) (same_pairs g text xs)

-- ---- Headers

abbrev pub names_weight : Scale → List Named → ℕ
names_weight g [] = 0
names_weight g (x ∷ xs) = named_weight g x + names_weight g xs

abbrev some_names : Scale → Option (List Named) → ℕ
some_names g None = 0
some_names g (Some xs) = names_weight g xs

abbrev header_weight : Scale → Header → ℕ
header_weight g h = named_weight g h.name + (optional_named g h.result + (optional_named g h.left + (optional_named g h.right + names_weight g h.locals)))

abbrev some_header : Scale → Option Header → ℕ
some_header g None = 0
some_header g (Some h) = header_weight g h

one_more : (g : Scale) (x : Named) (o : Option (List Named)) → some_names g (option_map (λ ns. x ∷ ns) o) ≤ named_weight g x + some_names g o
one_more g x None = omega arith
one_more g x (Some xs) = omega arith

weigh_locals : (g : Scale) (text : List ℕ) (xs : List (WordKind × ℕ)) → some_names g (locals xs) ≤ pairs_weight g text xs
weigh_locals g text [] = omega arith
weigh_locals g text ((w.Semicolon, q) ∷ (w.Name r n, p) ∷ xs) = let h = weigh_locals g text xs in let i = one_more g (named n p) (locals xs) in omega arith
weigh_locals g text _ = omega arith

with_locals : (g : Scale) (x : Named) (result left right : Option Named) (o : Option (List Named))
    → some_header g (option_map (λ ns. record { name = x; result = result; left = left; right = right; locals = ns }) o) ≤ named_weight g x + (optional_named g result + (optional_named g left + (optional_named g right + some_names g o)))
with_locals g x result left right None = omega arith
with_locals g x result left right (Some xs) = omega arith

weigh_called : (g : Scale) (text : List ℕ) (result : Option Named) (xs : List (WordKind × ℕ)) → some_header g (called result xs) ≤ optional_named g result + pairs_weight g text xs
weigh_called g text result ((w.Name ra a, pa) ∷ (w.Name rf f, pf) ∷ (w.Name rb b, pb) ∷ xs) =
    let h = weigh_locals g text xs in let i = with_locals g (named f pf) result (Some (named a pa)) (Some (named b pb)) (locals xs) in omega arith
weigh_called g text result ((w.Name rf f, pf) ∷ (w.Name rb b, pb) ∷ xs) =
    let h = weigh_locals g text xs in let i = with_locals g (named f pf) result None (Some (named b pb)) (locals xs) in omega arith
weigh_called g text result ((w.Name rf f, pf) ∷ xs) =
    let h = weigh_locals g text xs in let i = with_locals g (named f pf) result None None (locals xs) in omega arith
weigh_called g text result _ = omega arith

weigh_header : (g : Scale) (text : List ℕ) (xs : List (WordKind × ℕ)) → some_header g (header xs) ≤ pairs_weight g text xs
weigh_header g text ((w.Name rr r, pr) ∷ (w.Assign, pa) ∷ xs) = let h = weigh_called g text (Some (named r pr)) xs in omega arith
weigh_header g text xs = let h = weigh_called g text None xs in omega arith

fewer_words : (g : Scale) (text : List ℕ) (ws : List Word) → weight g text (drop 1 ws) ≤ weight g text ws
fewer_words g text [] = omega arith
fewer_words g text (x ∷ xs) = omega arith

weigh_head : (g : Scale) (text : List ℕ) (b : Block) (h : Header) → header_of b ≡ Some h → header_weight g h ≤ weight g text b.head.words
weigh_head g text b h e =
    let i = weigh_header g text (map placed (drop 1 b.head.words)) in
    let j = same_pairs g text (drop 1 b.head.words) in
    let k = fewer_words g text b.head.words in
    let l : some_header g (header_of b) ≡ header_weight g h = ap (some_header g) e in
    omega arith

-- ---- Functions

-- the names of a header and what stands in the lines
abbrev pub function_weight : Scale → Function → ℕ
function_weight g f = (named_weight g f.name + (optional_named g f.result + (optional_named g f.left + (optional_named g f.right + names_weight g f.locals)))) + lines_weight g f.lines

abbrev pub whole_weight : Scale → List Function → ℕ
whole_weight g [] = 0
whole_weight g (f ∷ fs) = function_weight g f + whole_weight g fs

weigh_function : (g : Scale) → IsEven g → (text : List ℕ) (hs : List Header) (b : Block) (f : Function) → IsFunction text hs b f → function_weight g f ≤ weight g text b.head.words + rows_weight g text b.body
weigh_function g e text hs b f i =
    let h = weigh_head g text b i.head i.headed in
    let l = weigh_lines g e text hs b.body f.lines i.lines in
    let n1 : named_weight g f.name ≡ named_weight g i.head.name = ap (named_weight g) i.name in
    let n2 : optional_named g f.result ≡ optional_named g i.head.result = ap (optional_named g) i.result in
    let n3 : optional_named g f.left ≡ optional_named g i.head.left = ap (optional_named g) i.left in
    let n4 : optional_named g f.right ≡ optional_named g i.head.right = ap (optional_named g) i.right in
    let n5 : names_weight g f.locals ≡ names_weight g i.head.locals = ap (names_weight g) i.locals in
    omega arith

pub weigh_whole : (g : Scale) → IsEven g → (text : List ℕ) (hs : List Header) (bs : List Block) (fs : List Function) → AllZip (IsFunction text hs) bs fs → whole_weight g fs ≤ blocks_weight g text bs
weigh_whole g e text hs [] [] h = omega arith
weigh_whole g e text hs [] (f ∷ fs) h = absurd h
weigh_whole g e text hs (b ∷ bs) [] h = absurd h
weigh_whole g e text hs (b ∷ bs) (f ∷ fs) h = let i = weigh_function g e text hs b f h.0 in let j = weigh_whole g e text hs bs fs h.1 in omega arith

-- ---- Declarations

abbrev pub vars_weight : Scale → List Var → ℕ
vars_weight g [] = 0
vars_weight g (x ∷ xs) = named_weight g x.name + vars_weight g xs

abbrev some_var : Scale → Option Var → ℕ
some_var g None = 0
some_var g (Some x) = named_weight g x.name

abbrev said_weight : Scale → Option Declaration → ℕ
said_weight g None = 0
said_weight g (Some d) = some_var g (var_of d)

no_var : (g : Scale) (b : Bool) (x : ℤ) → said_weight g (origin_if b x) ≤ 0
no_var g true (pos n) = pick (nat_le n 1)
  where
    pick : (t : Bool) → said_weight g (if t then Some (origin (pos n)) else None) ≤ 0
    pick true = omega arith
    pick false = omega arith
no_var g _ _ = omega arith

one_var : (g : Scale) (b : Bool) (x : Named) (k : Option Kind) (r : ℤ) → said_weight g (var_if b x k r) ≤ named_weight g x
one_var g true x (Some k) (pos n) = pick (nat_le n 8)
  where
    pick : (t : Bool) → said_weight g (if t then Some (var (record { name = x; kind = k; rank = n })) else None) ≤ named_weight g x
    pick true = omega arith
    pick false = omega arith
one_var g _ x _ _ = omega arith

weigh_declaration : (g : Scale) (text : List ℕ) (ns : List (List ℕ)) (xs : List (WordKind × ℕ)) → said_weight g (declaration_in ns xs) ≤ pairs_weight g text xs
weigh_declaration g text ns [] = omega arith
weigh_declaration g text ns ((w.Name ro o, po) ∷ (w.Number x, px) ∷ []) = let h = no_var g (is_called ns o (codes "ORIGIN")) x in omega arith
weigh_declaration g text ns ((w.Name rv v, pv) ∷ (w.Name rn n, pn) ∷ (w.Name rk k, pk) ∷ (w.Name rr r, pr) ∷ (w.Number x, px) ∷ []) =
    let h = one_var g (is_called ns v (codes "VAR") && is_called ns r (codes "RANK")) (named n pn) (kind_named ns k) x in omega arith
weigh_declaration g text ns _ = omega arith

cons_weight : (g : Scale) (o : Option Var) (xs : List Var) → vars_weight g (cons_option o xs) ≡ some_var g o + vars_weight g xs
cons_weight g None xs = omega arith
cons_weight g (Some x) xs = refl

weigh_said : (g : Scale) (text : List ℕ) (ns : List (List ℕ)) (rs : List Row) (ds : List Declaration) → AllZip (λ r d. declaration ns r ≡ Some d) rs ds → vars_weight g (filter_map var_of ds) ≤ rows_weight g text rs
weigh_said g text ns [] [] h = omega arith
weigh_said g text ns [] (d ∷ ds) h = absurd h
weigh_said g text ns (r ∷ rs) [] h = absurd h
weigh_said g text ns (r ∷ rs) (d ∷ ds) h =
    let i = weigh_declaration g text ns (map placed r.words) in
    let j = same_pairs g text r.words in
    let k : said_weight g (declaration ns r) ≡ some_var g (var_of d) = ap (said_weight g) h.0 in
    let l = cons_weight g (var_of d) (filter_map var_of ds) in
    let m = weigh_said g text ns rs ds h.1 in
    omega arith

weigh_above : (g : Scale) (text : List ℕ) (ps : List Part) → rows_weight g text (above ps) ≤ parts_weight g text ps
weigh_above g text [] = omega arith
weigh_above g text (outside r ∷ ps) = let h = weigh_above g text ps in omega arith
weigh_above g text (function b ∷ ps) = omega arith

-- the declared names weigh no more than the text
pub weigh_vars : (g : Scale) (text : List ℕ) (ns : List (List ℕ)) (ps : List Part) (ds : List Declaration) → AllZip (λ r d. declaration ns r ≡ Some d) (above ps) ds → vars_weight g (filter_map var_of ds) ≤ parts_weight g text ps
weigh_vars g text ns ps ds h = let i = weigh_said g text ns (above ps) ds h in let j = weigh_above g text ps in omega arith

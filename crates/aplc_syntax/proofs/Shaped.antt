-- A function from its parts: its first refusal, and what it is where it has none.
use Rattle.std.proofs.Common.{◌≡◌, ℕ, ◌≤◌, ◌<◌, ◌⊎◌, inl, inr, List, [], ◌∷◌, Option, Some, None, refl, sym, ap, ◌∙◌, subst, length, map, option_map, Bool, true, false, nat_lt, arith}
use Rattle.std.proofs.lemmas.Bool.Decides.{nat_tests}
use Rattle.std.specs.List.{slice_get, AllZip}
use Rattle.std.proofs.lemmas.List.{length-map}
use Rattle.std.proofs.lemmas.Option.{slice_get-map, slice_get-get_or}
use Rattle.aplc_lex.specs.Tokens.{refusal}
use Rattle.aplc_lex.specs.declared.token.Refusal.{Refusal}
use Rattle.aplc_syntax.specs.declared.tree.Line.{Line}
use Rattle.aplc_syntax.specs.declared.tree.Function.{Function}
use Rattle.aplc_syntax.specs.declared.layout.Row.{Row as HeldRow}
use Rattle.aplc_syntax.specs.declared.layout.DelRow.{DelRow}
use Rattle.aplc_syntax.specs.declared.layout.Block.{Block as HeldBlock}
use Rattle.aplc_syntax.specs.declared.header.Header.{Header as HeldHeader}
use Rattle.aplc_syntax.specs.declared.word.Word.{Word}
use Rattle.aplc_syntax.specs.declared.word.WordKind.TheVariants as w
use Rattle.aplc_syntax.specs.Words.{word}
use Rattle.aplc_syntax.specs.Layout.{Row, Header, header, placed, header_of, sentence}
use Rattle.aplc_syntax.specs.Programs.{IsLine, IsClosing}
use Rattle.aplc_syntax.specs.Refusals.{StandsIn, IsFirst, bad_header, high_count}
use Rattle.aplc_syntax.specs.Held.{row_of, del_row_of, block_of, header_of_held}
use Rattle.aplc_lex.specs.Firsts.{earlier, IsFirstOf}
use Rattle.aplc_syntax.specs.Causes.{InSome, of_header, of_more, of_end, of_line, of_count}
use Rattle.aplc_syntax.specs.Noted.{LineStands, LineIs, BlockStands, BlockIs, more_cause, end_cause, head_cause, row_cause, line_cause}
use Rattle.aplc_lex.proofs.Order.{either_first, same_first, none_first, none_second}
use Rattle.aplc_syntax.proofs.Firsts.{best_of, some_mapped, mapped_some, zip_mapped, contains_some, some_contains}

-- ---- Two ways to say what a function is refused for

-- by the parts
abbrev ByParts : List Header → HeldBlock → Option HeldHeader → Refusal → Type 0
ByParts hs b h r = (((end_cause b.head.del b.closing ≡ Some r) ⊎ (line_cause b.body ≡ Some r)) ⊎ InSome (LineStands hs) b.body r) ⊎ (head_cause b.head.del h ≡ Some r)

end_to : (hs : List Header) (b : HeldBlock) (c : Option DelRow) (r : Refusal) → b.closing ≡ c → end_cause b.head.del c ≡ Some r → BlockStands hs b r
end_to hs b None r i e = subst (λ (x : Refusal). BlockStands hs b x) (some _ _ e) (of_end (ap (option_map del_row_of) i) (word w.Del b.head.del, b.head.rest, refl, refl))
  where
    some : (x y : Refusal) → (let z : Option Refusal = Some x in z) ≡ Some y → x ≡ y
    some x y f = cc
end_to hs b (Some d) r i e = more d.rest refl e
  where
    some : (x y : Refusal) → (let z : Option Refusal = Some x in z) ≡ Some y → x ≡ y
    some x y f = cc

    none : (y : Refusal) → (let z : Option Refusal = None in z) ≡ Some y → ⊥
    none y f = cc

    more : (ws : List Word) → d.rest ≡ ws → more_cause d.del ws ≡ Some r → BlockStands hs b r
    more [] j f = absurd (none r f)
    more (x ∷ ws) j f = subst (λ (y : Refusal). BlockStands hs b y) (some _ _ f) (of_more (ap (option_map del_row_of) i) (ap (λ (us : List Word). word w.Del d.del ∷ us) j))

line_to : (hs : List Header) (b : HeldBlock) (c : Option HeldRow) (r : Refusal) → slice_get b.body 999 ≡ c → row_cause c ≡ Some r → BlockStands hs b r
line_to hs b None r i e = absurd (none r e)
  where
    none : (y : Refusal) → (let z : Option Refusal = None in z) ≡ Some y → ⊥
    none y f = cc
line_to hs b (Some x) r i e = subst (λ (y : Refusal). BlockStands hs b y) (some _ _ e) (of_count (slice_get-map row_of b.body 999 ∙ ap (option_map row_of) i))
  where
    some : (x y : Refusal) → (let z : Option Refusal = Some x in z) ≡ Some y → x ≡ y
    some x y f = cc

head_to : (hs : List Header) (b : HeldBlock) (h : Option HeldHeader) (r : Refusal) → option_map header_of_held h ≡ header_of (block_of b) → head_cause b.head.del h ≡ Some r → BlockStands hs b r
head_to hs b None r i e = subst (λ (y : Refusal). BlockStands hs b y) (some _ _ e) (of_header (sym i) (word w.Del b.head.del, b.head.rest, refl, refl))
  where
    some : (x y : Refusal) → (let z : Option Refusal = Some x in z) ≡ Some y → x ≡ y
    some x y f = cc
head_to hs b (Some h) r i e = absurd (none r e)
  where
    none : (y : Refusal) → (let z : Option Refusal = None in z) ≡ Some y → ⊥
    none y f = cc

in_body : (hs : List Header) (b : HeldBlock) (r : Refusal) → InSome (LineStands hs) b.body r → BlockStands hs b r
in_body hs b r h = let g = some_contains (λ (x : Row) (s : Refusal). StandsIn (sentence hs x) s) (map row_of b.body) r (some_mapped row_of (λ (x : Row) (s : Refusal). StandsIn (sentence hs x) s) b.body r h) in of_line g.1 g.2

to_block : (hs : List Header) (b : HeldBlock) (h : Option HeldHeader) → option_map header_of_held h ≡ header_of (block_of b) → (r : Refusal) → ByParts hs b h r → BlockStands hs b r
to_block hs b h i r z = elim z as (λ y. BlockStands hs b r) [
  | inl a ↦ elim a as (λ y. BlockStands hs b r) [
    | inl c ↦ elim c as (λ y. BlockStands hs b r) [ inl e ↦ end_to hs b b.closing r refl e | inr e ↦ line_to hs b (slice_get b.body 999) r refl e ]
    | inr c ↦ in_body hs b r c
  ]
  | inr a ↦ head_to hs b h r i a
]

first_place : (p : ℕ) (rest : List Word) (x : Word) (ws : List Word) → word w.Del p ∷ rest ≡ x ∷ ws → x.place ≡ p
first_place p rest x ws e = sym (ap (λ (y : Word). y.place) (heads (word w.Del p) x rest ws e))
  where
    heads : (y z : Word) (us vs : List Word) → y ∷ us ≡ z ∷ vs → y ≡ z
    heads y z us vs f = cc

tails : (y z : Word) (us vs : List Word) → y ∷ us ≡ z ∷ vs → us ≡ vs
tails y z us vs f = cc

at_place : (p q : ℕ) → q ≡ p → (let z : Option Refusal = Some (refusal bad_header p) in z) ≡ Some (refusal bad_header q)
at_place p q e = ap (λ (n : ℕ). let z : Option Refusal = Some (refusal bad_header n) in z) (sym e)

no_header : (h : Option HeldHeader) (p : ℕ) → option_map header_of_held h ≡ None → head_cause p h ≡ Some (refusal bad_header p)
no_header None p e = refl
no_header (Some h) p e = absurd (none _ e)
  where
    none : (y : Header) → (let z : Option Header = Some y in z) ≡ None → ⊥
    none y f = cc

no_end : (c : Option DelRow) (p : ℕ) → option_map del_row_of c ≡ None → end_cause p c ≡ Some (refusal bad_header p)
no_end None p e = refl
no_end (Some d) p e = absurd (none _ e)
  where
    none : (y : Row) → (let z : Option Row = Some y in z) ≡ None → ⊥
    none y f = cc

more_end : (c : Option DelRow) (p : ℕ) (r : Row) (x y : Word) (ws : List Word) → option_map del_row_of c ≡ Some r → r.words ≡ x ∷ y ∷ ws → end_cause p c ≡ Some (refusal bad_header x.place)
more_end None p r x y ws e f = absurd (none _ e)
  where
    none : (z : Row) → (let u : Option Row = None in u) ≡ Some z → ⊥
    none z g = cc
more_end (Some d) p r x y ws e f =
    let g : word w.Del d.del ∷ d.rest ≡ x ∷ y ∷ ws = ap (λ (z : Row). z.words) (same _ _ e) ∙ f in
    ap (more_cause d.del) (tails (word w.Del d.del) x d.rest (y ∷ ws) g) ∙ at_place d.del x.place (first_place d.del d.rest x (y ∷ ws) g)
  where
    same : (a b : Row) → (let u : Option Row = Some a in u) ≡ Some b → a ≡ b
    same a b h = cc

count_row : (c : Option HeldRow) (r : Row) → option_map row_of c ≡ Some r → row_cause c ≡ Some (refusal high_count r.start)
count_row None r e = absurd (none _ e)
  where
    none : (z : Row) → (let u : Option Row = None in u) ≡ Some z → ⊥
    none z g = cc
count_row (Some x) r e = ap (λ (z : Row). let u : Option Refusal = Some (refusal high_count z.start) in u) (same _ _ e)
  where
    same : (a b : Row) → (let u : Option Row = Some a in u) ≡ Some b → a ≡ b
    same a b h = cc

from_block : (hs : List Header) (b : HeldBlock) (h : Option HeldHeader) → option_map header_of_held h ≡ header_of (block_of b) → (r : Refusal) → BlockStands hs b r → ByParts hs b h r
from_block hs b h i _ (of_header {p = p} e (x, ws, f, g)) = inr (no_header h b.head.del (i ∙ e) ∙ at_place b.head.del p (g ∙ first_place b.head.del b.head.rest x ws f))
from_block hs b h i _ (of_more {r = r} {x = x} {y = y} {ws = ws} e f) = inl (inl (inl (more_end b.closing b.head.del r x y ws e f)))
from_block hs b h i _ (of_end {p = p} e (x, ws, f, g)) = inl (inl (inl (no_end b.closing b.head.del e ∙ at_place b.head.del p (g ∙ first_place b.head.del b.head.rest x ws f))))
from_block hs b h i r (of_line {r = x} c s) = inl (inr (mapped_some row_of (λ (y : Row) (s : Refusal). StandsIn (sentence hs y) s) b.body r (contains_some (λ (y : Row) (s : Refusal). StandsIn (sentence hs y) s) (map row_of b.body) x r c s)))
from_block hs b h i _ (of_count {r = r} e) = inl (inl (inr (count_row (slice_get b.body 999) r (sym (slice_get-map row_of b.body 999) ∙ e))))

-- ---- The first

pub block_best : (hs : List Header) (b : HeldBlock) (h : Option HeldHeader) (lines : Option Refusal) → option_map header_of_held h ≡ header_of (block_of b) → IsFirstOf (InSome (LineStands hs) b.body) lines
    → IsFirstOf (BlockStands hs b) (earlier (earlier (earlier (end_cause b.head.del b.closing) (line_cause b.body)) lines) (head_cause b.head.del h))
block_best hs b h lines i l =
    same_first (ByParts hs b h) (BlockStands hs b) _ (to_block hs b h i) (from_block hs b h i)
    (either_first (λ r. ((end_cause b.head.del b.closing ≡ Some r) ⊎ (line_cause b.body ≡ Some r)) ⊎ InSome (LineStands hs) b.body r) (λ r. head_cause b.head.del h ≡ Some r) _ _
    (either_first (λ r. (end_cause b.head.del b.closing ≡ Some r) ⊎ (line_cause b.body ≡ Some r)) (InSome (LineStands hs) b.body) _ _
    (either_first (λ r. end_cause b.head.del b.closing ≡ Some r) (λ r. line_cause b.body ≡ Some r) _ _ (best_of (end_cause b.head.del b.closing)) (best_of (line_cause b.body)))
    l)
    (best_of (head_cause b.head.del h)))

-- the same by what the calls answered
pub parts_best : (hs : List Header) (b : HeldBlock) (h : Option HeldHeader) (words : List Word) (rows rows2 : List HeldRow) (lines end line shape first : Option Refusal)
    → words ≡ b.head.rest → option_map header_of_held h ≡ header (map placed words) → rows ≡ b.body → IsFirstOf (InSome (LineStands hs) rows) lines
    → end ≡ end_cause b.head.del b.closing → rows2 ≡ b.body → line ≡ line_cause rows2 → shape ≡ earlier end line → first ≡ earlier shape lines
    → IsFirstOf (BlockStands hs b) (earlier first (head_cause b.head.del h))
parts_best hs b h words rows rows2 lines end line shape first w i e l f g k m n =
    subst (λ (o : Option Refusal). IsFirstOf (BlockStands hs b) (earlier o (head_cause b.head.del h))) (sym (n ∙ ap (λ (o : Option Refusal). earlier o lines) (m ∙ ap (λ (o : Option Refusal). earlier o line) f ∙ ap (earlier (end_cause b.head.del b.closing)) (k ∙ ap line_cause g))))
    (block_best hs b h lines (i ∙ ap (λ (ws : List Word). header (map placed ws)) w) (subst (λ (rs : List HeldRow). IsFirstOf (InSome (LineStands hs) rs) lines) e l))

-- without a header
pub refused_none : (hs : List Header) (b : HeldBlock) (h : Option HeldHeader) (first : Option Refusal) (x r : Refusal) → IsFirstOf (BlockStands hs b) (earlier first (head_cause b.head.del h)) → h ≡ None → x ≡ refusal bad_header b.head.del → (let o : Option Refusal = Some r in o) ≡ earlier first (Some x) → IsFirst (BlockStands hs b) r
refused_none hs b h first x r l e f g = subst (λ (o : Option Refusal). IsFirstOf (BlockStands hs b) o) (ap (λ (z : Option HeldHeader). earlier first (head_cause b.head.del z)) e ∙ ap (λ (y : Refusal). earlier first (Some y)) (sym f) ∙ sym g) l

-- with one
pub best_some : (hs : List Header) (b : HeldBlock) (h : Option HeldHeader) (k : HeldHeader) (first o : Option Refusal) → IsFirstOf (BlockStands hs b) (earlier first (head_cause b.head.del h)) → h ≡ Some k → first ≡ o → IsFirstOf (BlockStands hs b) o
best_some hs b h k first o l e f = subst (λ (z : Option Refusal). IsFirstOf (BlockStands hs b) z) (ap (λ (z : Option HeldHeader). earlier first (head_cause b.head.del z)) e ∙ f) l

-- ---- What it is

closed : (p : ℕ) (c : Option DelRow) → end_cause p c ≡ None → IsClosing (option_map del_row_of c)
closed p None e = absurd (none _ e)
  where
    none : (y : Refusal) → (let z : Option Refusal = Some y in z) ≡ None → ⊥
    none y f = cc
closed p (Some d) e = bare d.rest e
  where
    none : (y : Refusal) → (let z : Option Refusal = Some y in z) ≡ None → ⊥
    none y f = cc

    bare : (ws : List Word) → more_cause d.del ws ≡ None → length (word w.Del d.del ∷ ws) ≡ 1
    bare [] f = refl
    bare (x ∷ ws) f = absurd (none _ f)

few : (rs : List HeldRow) → line_cause rs ≡ None → length (map row_of rs) ≤ 999
few rs e = pick (nat_lt 999 (length rs)) refl
  where
    none : (y : Refusal) → (let z : Option Refusal = Some y in z) ≡ None → ⊥
    none y f = cc

    over : (xs : List HeldRow) → 999 < length xs → line_cause xs ≡ None → ⊥
    over [] l f = absurd (omega arith)
    over (x ∷ xs) l f = none _ (sym (ap row_cause (slice_get-get_or (x ∷ xs) 999 x l)) ∙ f)

    pick : (t : Bool) → nat_lt 999 (length rs) ≡ t → length (map row_of rs) ≤ 999
    pick true l = let g : 999 < length rs = grind (arith, nat_tests) in absurd (over rs g e)
    pick false l = let g : length rs ≤ 999 = grind (arith, nat_tests) in omega (arith, length-map rs row_of)

-- a function of these names and lines
abbrev pub function_of : HeldHeader → List Line → Function
function_of h lines = record { name = h.name; result = h.result; left = h.left; right = h.right; locals = h.locals; lines = lines }

pub block_is : (text : List ℕ) (hs : List Header) (b : HeldBlock) (h : HeldHeader) (lines : List Line) (at : Option Refusal) (f : Function) → (let o : Option HeldHeader = Some h in option_map header_of_held o) ≡ header_of (block_of b)
    → earlier (earlier (end_cause b.head.del b.closing) (line_cause b.body)) at ≡ None → (at ≡ None → AllZip (LineIs text hs) b.body lines)
    → f ≡ record { name = h.name; result = h.result; left = h.left; right = h.right; locals = h.locals; lines = lines } → BlockIs text hs b f
block_is text hs b h lines at f i e l g =
    let shape : earlier (end_cause b.head.del b.closing) (line_cause b.body) ≡ None = none_first _ at e in
    subst (λ (x : Function). BlockIs text hs b x) (sym g) (record {
      head = header_of_held h;
      headed = sym i;
      name = refl;
      result = refl;
      left = refl;
      right = refl;
      locals = refl;
      closed = closed b.head.del b.closing (none_first _ _ shape);
      few = few b.body (none_second (end_cause b.head.del b.closing) (line_cause b.body) shape);
      lines = zip_mapped row_of (λ (r : Row) (x : Line). IsLine text hs r x) b.body lines (l (none_second _ at e));
    })

pub parts_is : (text : List ℕ) (hs : List Header) (b : HeldBlock) (h : Option HeldHeader) (k : HeldHeader) (words : List Word) (rows rows2 : List HeldRow) (lines made : List Line) (at end line shape first : Option Refusal)
    → words ≡ b.head.rest → option_map header_of_held h ≡ header (map placed words) → h ≡ Some k → rows ≡ b.body → (at ≡ None → AllZip (LineIs text hs) rows lines)
    → end ≡ end_cause b.head.del b.closing → rows2 ≡ b.body → line ≡ line_cause rows2 → shape ≡ earlier end line → first ≡ earlier shape at → first ≡ None → made ≡ lines → BlockIs text hs b (function_of k made)
parts_is text hs b h k words rows rows2 lines made at end line shape first w i j e l p g q m n z v = block_is text hs b k lines at (function_of k made)
    (sym (ap (option_map header_of_held) j) ∙ i ∙ ap (λ (ws : List Word). header (map placed ws)) w)
    (sym (n ∙ ap (λ (o : Option Refusal). earlier o at) (m ∙ ap (λ (o : Option Refusal). earlier o line) p ∙ ap (earlier (end_cause b.head.del b.closing)) (q ∙ ap line_cause g))) ∙ z)
    (λ u. subst (λ (rs : List HeldRow). AllZip (LineIs text hs) rs lines) e (l u)) (ap (function_of k) v)

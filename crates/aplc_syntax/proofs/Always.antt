-- A text and its tokens have a program or a first refusal.
use Rattle.std.proofs.Common.{◌≡◌, ◌∙◌, sym, ap, refl, subst, ℕ, zero, suc, ◌<◌, ◌≤◌, ◌⊎◌, inl, inr, Bool, true, false, if◌then◌else◌, List, [], ◌∷◌, ◌++◌, length, All, ℤ, Option, Some, None, nat_lt, arith}
use Rattle.std.specs.Prelude.{Contains}
use Rattle.std.specs.List.{AllZip, AllByRecursion, slice_get}
use Rattle.std.proofs.lemmas.List.Elements.{All-head, All-tail}
use Rattle.aplc_lex.specs.Tokens.{AreTokens}
use Rattle.aplc_lex.specs.Firsts.{refusal, IsFirst, IsFirstOf, earlier}
use Rattle.aplc_lex.specs.declared.token.Token.{Token}
use Rattle.aplc_lex.specs.declared.token.Refusal.{Refusal}
use Rattle.aplc_lex.specs.declared.token.Stop.TheVariants as stop
use Rattle.aplc_lex.proofs.Order.{either_first, same_first, none_first, none_second, one_first}
use Rattle.aplc_syntax.specs.declared.tree.Line.{Line}
use Rattle.aplc_syntax.specs.declared.tree.Function.{Function}
use Rattle.aplc_syntax.specs.declared.tree.Program.{Program}
use Rattle.aplc_syntax.specs.declared.tree.Statement.{Statement}
use Rattle.aplc_syntax.specs.declared.tree.Statement.TheVariants as st
use Rattle.aplc_syntax.specs.declared.tree.Var.{Var}
use Rattle.aplc_syntax.specs.declared.step.Step.{Step}
use Rattle.aplc_syntax.specs.declared.word.Word.{Word}
use Rattle.aplc_syntax.specs.Words.{words, names_in, Laid}
use Rattle.aplc_syntax.specs.Trees.{statement_of}
use Rattle.aplc_syntax.specs.Layout.{Row, begins_with_del, Block, part, parts, lines, Header, blocks, above, below, header_of, headers, parts_of, label_of, sentence, declaration}
use Rattle.aplc_syntax.specs.Programs.{too_deep, IsStatement, IsLine, IsClosing, IsFunction, IsProgramOf}
use Rattle.aplc_syntax.specs.Refusals.{StandsIn, RefusesIn, stray, BeginsAt, Stands, bad_header, high_count, bad_declaration}
use Rattle.aplc_syntax.specs.Causes.{InSome, OfBlock, of_header, of_more, of_end, of_line, of_count, OfRows, OfBare, DeclareFrom, said_cause, origin_next, at_first}
use Rattle.aplc_syntax.specs.Reading.{reads}
use Rattle.aplc_syntax.specs.Building.{count_from}
use Rattle.aplc_syntax.specs.Seen.{IsReading, nearer, formless_stop}
use Rattle.aplc_syntax.specs.Noted.{origin_or}
use Rattle.aplc_syntax.proofs.Clean.{clean_statement}
use Rattle.aplc_syntax.proofs.Counted.{count_steps}
use Rattle.aplc_syntax.proofs.Families.{count_at, ByFamily, to_text, from_text, all_bare}
use Rattle.aplc_syntax.proofs.Firsts.{best_of, contains_some, some_contains}
use Rattle.aplc_syntax.proofs.Placed.{RowLaid, laid_bodies, laid_sentence}
use Rattle.aplc_syntax.proofs.Saids.{adds}
use Rattle.aplc_syntax.proofs.Sound.{sound}
use Rattle.aplc_syntax.proofs.Stated.{near_first}
use Rattle.aplc_syntax.proofs.Unique.{unread}
use Rattle.aplc_syntax.proofs.Verdict.{at_deep, at_formless, at_many, at_stray}

-- the first refusal of a family, if one stands, and else a result
abbrev Part : (Refusal → Type 0) → Type 0 → Type 0
Part P R = (o : Option Refusal) × IsFirstOf P o × (o ≡ None → R)

some_none : {A : Type 0} (x : A) → (let o : Option A = Some x in o) ≡ None → ⊥
some_none x e = cc

-- a list without a place n has at most n items
within : {A : Type 0} (xs : List A) (n : ℕ) → slice_get xs n ≡ None → length xs ≤ n
within [] n e = omega arith
within (x ∷ xs) zero e = absurd (some_none x e)
within (x ∷ xs) (suc n) e = let h = within xs n e in omega arith

some_same : {A : Type 0} (x y : A) → (let o : Option A = Some x in o) ≡ Some y → x ≡ y
some_same x y e = cc

given : (P : Refusal → Type 0) (R : Type 0) → ((r : Refusal) → P r → ⊥) → R → Part P R
given P R f x = (None, f, λ e. x)

refused : (P : Refusal → Type 0) (R : Type 0) (r : Refusal) → IsFirst P r → Part P R
refused P R r f = (Some r, f, λ e. absurd (some_none r e))

-- a family of one refusal at most
single : (o : Option Refusal) (R : Type 0) → (o ≡ None → R) → Part (λ r. o ≡ Some r) R
single o R f = (o, best_of o, f)

both : (P Q : Refusal → Type 0) (R S : Type 0) → Part P R → Part Q S → Part (λ r. P r ⊎ Q r) (R × S)
both P Q R S x y = (earlier x.0 y.0, either_first P Q x.0 y.0 x.1 y.1, λ e. (x.2 (none_first x.0 y.0 e), y.2 (none_second x.0 y.0 e)))

renamed : (P Q : Refusal → Type 0) (R S : Type 0) → ((r : Refusal) → P r → Q r) → ((r : Refusal) → Q r → P r) → (R → S) → Part P R → Part Q S
renamed P Q R S to fro f x = (x.0, same_first P Q x.0 to fro x.1, λ e. f (x.2 e))

-- ---- Statements

abbrev IsStated : List ℕ → List Word → Type 0
IsStated text ws = (s : Statement) × IsStatement text ws s

abbrev StatementPart : List ℕ → List Word → Type 0
StatementPart text ws = Part (StandsIn ws) (IsStated text ws)

stated : (text : List ℕ) (ws : List Word) (s : Statement) → IsStatement text ws s → StatementPart text ws
stated text ws s h = given (StandsIn ws) (IsStated text ws) (λ r d. clean_statement text ws s r h d) (s, h)

deep_one : (text : List ℕ) (ws : List Word) (p : ℕ) (name : Option ℕ) → RefusesIn ws (nearer p name) → StatementPart text ws
deep_one text ws p None h = refused (StandsIn ws) (IsStated text ws) _ h
deep_one text ws p (Some q) h = pick (nat_lt q p) h
  where
    pick : (b : Bool) → RefusesIn ws (if b then stop.Refused (refusal 13 q) else stop.Refused (refusal 8 p)) → StatementPart text ws
    pick true f = refused (StandsIn ws) (IsStated text ws) _ f
    pick false f = refused (StandsIn ws) (IsStated text ws) _ f

formless_one : (text : List ℕ) (ws : List Word) (p : ℕ) (name : Option ℕ) → RefusesIn ws (formless_stop p name) → StatementPart text ws
formless_one text ws p None h = refused (StandsIn ws) (IsStated text ws) _ h
formless_one text ws p (Some q) h = refused (StandsIn ws) (IsStated text ws) _ h

few_or_many : (n : ℕ) → (n ≤ 256) ⊎ (256 < n)
few_or_many n = grind arith

read_one : (text : List ℕ) (x : Word) (us : List Word) (xs : List Step) → Laid text 0 (x ∷ us) → too_deep (x ∷ us) 0 ≡ None → IsReading (x ∷ us) xs → (count_from 0 xs ≤ 256) ⊎ (256 < count_from 0 xs) → (name : Option ℕ) → stray (x ∷ us) ≡ name → StatementPart text (x ∷ us)
read_one text x us xs l d h (inr many) name e = refused (StandsIn (x ∷ us)) (IsStated text (x ∷ us)) _ (at_many (x ∷ us) x.place xs refl (sym d) (near_first text (x ∷ us) x l) h many)
read_one text x us xs l d h (inl few) (Some q) e = refused (StandsIn (x ∷ us)) (IsStated text (x ∷ us)) _ (at_stray (x ∷ us) q xs (sym d) (sym e) h few)
read_one text x us xs l d h (inl few) None e = stated text (x ∷ us) (statement_of text h.form) (inr (record {
  form = h.form;
  spelled = h.spelled;
  tree = refl;
  shallow = d;
  small = subst (λ (n : ℕ). n ≤ 256) (ap (count_from 0) h.steps_are ∙ count_steps h.form) few;
}))

shallow_one : (text : List ℕ) (x : Word) (us : List Word) → Laid text 0 (x ∷ us) → too_deep (x ∷ us) 0 ≡ None → (o : Option (List Step)) → reads (x ∷ us) ≡ o → StatementPart text (x ∷ us)
shallow_one text x us l d None e = formless_one text (x ∷ us) x.place (stray (x ∷ us)) (at_formless (x ∷ us) x.place (stray (x ∷ us)) refl (sym d) refl (unread (x ∷ us) e))
shallow_one text x us l d (Some xs) e = read_one text x us xs l d (sound (x ∷ us) xs e) (few_or_many (count_from 0 xs)) (stray (x ∷ us)) refl

statement_part : (text : List ℕ) (ws : List Word) → Laid text 0 ws → StatementPart text ws
statement_part text [] l = stated text [] st.Empty (inl (refl, refl))
statement_part text (x ∷ us) l = pick (too_deep (x ∷ us) 0) refl
  where
    pick : (o : Option ℕ) → too_deep (x ∷ us) 0 ≡ o → StatementPart text (x ∷ us)
    pick (Some p) e = deep_one text (x ∷ us) p (stray (x ∷ us)) (at_deep (x ∷ us) p (stray (x ∷ us)) (sym e) refl)
    pick None e = shallow_one text x us l e (reads (x ∷ us)) refl

-- ---- Lines

abbrev LineStands : List Header → Row → Refusal → Type 0
LineStands hs r s = StandsIn (sentence hs r) s

abbrev LinesPart : List ℕ → List Header → List Row → Type 0
LinesPart text hs rs = Part (InSome (LineStands hs) rs) ((ls : List Line) × AllZip (IsLine text hs) rs ls)

lines_part : (text : List ℕ) (hs : List Header) (rs : List Row) → All (RowLaid text) rs → LinesPart text hs rs
lines_part text hs [] h = given (InSome (LineStands hs) []) ((ls : List Line) × AllZip (IsLine text hs) [] ls) (λ r f. f) ([], tt)
lines_part text hs (r ∷ rs) h =
    renamed (λ s. LineStands hs r s ⊎ InSome (LineStands hs) rs s) (InSome (LineStands hs) (r ∷ rs)) (IsStated text (sentence hs r) × ((ls : List Line) × AllZip (IsLine text hs) rs ls)) ((ls : List Line) × AllZip (IsLine text hs) (r ∷ rs) ls)
    (λ s f. f) (λ s f. f)
    (λ f. (record { label = label_of r; statement = f.0.0 } ∷ f.1.0, (record { label = refl; statement = f.0.1 }, f.1.1)))
    (both (LineStands hs r) (InSome (LineStands hs) rs) (IsStated text (sentence hs r)) ((ls : List Line) × AllZip (IsLine text hs) rs ls)
    (statement_part text (sentence hs r) (laid_sentence text hs r (All-head (RowLaid text) r rs h)))
    (lines_part text hs rs (All-tail (RowLaid text) r rs h)))

-- ---- Functions

-- a line that has a word
abbrev HasWord : Row → Type 0
HasWord r = (x : Word) × (ws : List Word) × (r.words ≡ x ∷ ws)

abbrev ClosesWith : Option Row → Type 0
ClosesWith None = Unit {0}
ClosesWith (Some r) = HasWord r

-- the lines of a del have a word
abbrev Opened : Block → Type 0
Opened b = HasWord b.head × ClosesWith b.closing

abbrev head_refusal : Option Header → ℕ → Option Refusal
head_refusal None p = Some (refusal bad_header p)
head_refusal (Some h) p = None

abbrev more_refusal : List Word → Option Refusal
more_refusal [] = None
more_refusal (x ∷ []) = None
more_refusal (x ∷ y ∷ ws) = Some (refusal bad_header x.place)

abbrev end_refusal : Option Row → ℕ → Option Refusal
end_refusal None p = Some (refusal bad_header p)
end_refusal (Some r) p = more_refusal r.words

abbrev count_refusal : Option Row → Option Refusal
count_refusal None = None
count_refusal (Some r) = Some (refusal high_count r.start)

abbrev ByPart : List Header → Block → ℕ → Refusal → Type 0
ByPart hs b p r = ((head_refusal (header_of b) p ≡ Some r) ⊎ (end_refusal b.closing p ≡ Some r)) ⊎ (InSome (LineStands hs) b.body r ⊎ (count_refusal (slice_get b.body 999) ≡ Some r))

to_header : (hs : List Header) (b : Block) (p : ℕ) (o : Option Header) (r : Refusal) → BeginsAt b.head p → header_of b ≡ o → head_refusal o p ≡ Some r → OfBlock hs b r
to_header hs b p None r g e f = subst (OfBlock hs b) (some_same (refusal bad_header p) r f) (of_header e g)
to_header hs b p (Some h) r g e f = absurd (cc)

to_more : (hs : List Header) (b : Block) (q : Row) (ws : List Word) (r : Refusal) → b.closing ≡ Some q → q.words ≡ ws → more_refusal ws ≡ Some r → OfBlock hs b r
to_more hs b q [] r e w f = absurd (cc)
to_more hs b q (x ∷ []) r e w f = absurd (cc)
to_more hs b q (x ∷ y ∷ ws) r e w f = subst (OfBlock hs b) (some_same (refusal bad_header x.place) r f) (of_more e w)

to_end : (hs : List Header) (b : Block) (p : ℕ) (o : Option Row) (r : Refusal) → BeginsAt b.head p → b.closing ≡ o → end_refusal o p ≡ Some r → OfBlock hs b r
to_end hs b p None r g e f = subst (OfBlock hs b) (some_same (refusal bad_header p) r f) (of_end e g)
to_end hs b p (Some q) r g e f = to_more hs b q q.words r e refl f

to_count : (hs : List Header) (b : Block) (o : Option Row) (r : Refusal) → slice_get b.body 999 ≡ o → count_refusal o ≡ Some r → OfBlock hs b r
to_count hs b None r e f = absurd (cc)
to_count hs b (Some q) r e f = subst (OfBlock hs b) (some_same (refusal high_count q.start) r f) (of_count e)

line_at : (hs : List Header) (rs : List Row) (r : Refusal) → InSome (LineStands hs) rs r → (q : Row) × Contains rs q × LineStands hs q r
line_at hs rs r h = some_contains (LineStands hs) rs r h

to_block : (hs : List Header) (b : Block) (p : ℕ) (r : Refusal) → BeginsAt b.head p → ByPart hs b p r → OfBlock hs b r
to_block hs b p r g (inl (inl f)) = to_header hs b p (header_of b) r g refl f
to_block hs b p r g (inl (inr f)) = to_end hs b p b.closing r g refl f
to_block hs b p r g (inr (inl f)) = let q = line_at hs b.body r f in of_line q.1 q.2
to_block hs b p r g (inr (inr f)) = to_count hs b (slice_get b.body 999) r refl f

-- two places of the first word of a line
begins_once : (r : Row) (p q : ℕ) → BeginsAt r p → BeginsAt r q → p ≡ q
begins_once r p q (x, ws, e, f) (y, us, g, h) = f ∙ ap (λ (z : Word). z.place) (first (sym e ∙ g)) ∙ sym h
  where
    first : x ∷ ws ≡ y ∷ us → x ≡ y
    first i = cc

from_block : (hs : List Header) (b : Block) (p : ℕ) (r : Refusal) → BeginsAt b.head p → OfBlock hs b r → ByPart hs b p r
from_block hs b p _ g (of_header {p = q} e f) = inl (inl (ap (λ o. head_refusal o p) e ∙ ap (λ (n : ℕ). let o : Option Refusal = Some (refusal bad_header n) in o) (begins_once b.head p q g f)))
from_block hs b p _ g (of_more e f) = inl (inr (ap (λ o. end_refusal o p) e ∙ ap more_refusal f))
from_block hs b p _ g (of_end {p = q} e f) = inl (inr (ap (λ o. end_refusal o p) e ∙ ap (λ (n : ℕ). let o : Option Refusal = Some (refusal bad_header n) in o) (begins_once b.head p q g f)))
from_block hs b p _ g (of_line c d) = inr (inl (contains_some (LineStands hs) b.body _ _ c d))
from_block hs b p _ g (of_count e) = inr (inr (ap count_refusal e))

headed : (o : Option Header) (p : ℕ) → head_refusal o p ≡ None → (h : Header) × (o ≡ Some h)
headed None p e = absurd (some_none (refusal bad_header p) e)
headed (Some h) p e = (h, refl)

one_word : (ws : List Word) → (x : Word) (us : List Word) → ws ≡ x ∷ us → more_refusal ws ≡ None → length ws ≡ 1
one_word [] x us e f = absurd (cc)
one_word (y ∷ []) x us e f = refl
one_word (y ∷ z ∷ ws) x us e f = absurd (some_none (refusal bad_header y.place) f)

closes : (o : Option Row) (p : ℕ) → ClosesWith o → end_refusal o p ≡ None → IsClosing o
closes None p h e = absurd (some_none (refusal bad_header p) e)
closes (Some r) p h e = one_word r.words h.0 h.1 h.2 e

few_rows : (rs : List Row) (o : Option Row) → slice_get rs 999 ≡ o → count_refusal o ≡ None → length rs ≤ 999
few_rows rs (Some r) e f = absurd (some_none (refusal high_count r.start) f)
few_rows rs None e f = within rs 999 e

abbrev BlockPart : List ℕ → List Header → Block → Type 0
BlockPart text hs b = Part (OfBlock hs b) ((f : Function) × IsFunction text hs b f)

function_of : (text : List ℕ) (hs : List Header) (b : Block) (p : ℕ) → Opened b
    → ((head_refusal (header_of b) p ≡ None) × (end_refusal b.closing p ≡ None)) × (((ls : List Line) × AllZip (IsLine text hs) b.body ls) × (count_refusal (slice_get b.body 999) ≡ None))
    → (f : Function) × IsFunction text hs b f
function_of text hs b p o e =
    let h = headed (header_of b) p e.0.0 in (
      record { name = h.0.name; result = h.0.result; left = h.0.left; right = h.0.right; locals = h.0.locals; lines = e.1.0.0 },
      record { head = h.0; headed = h.1; name = refl; result = refl; left = refl; right = refl; locals = refl; closed = closes b.closing p o.1 e.0.1; few = few_rows b.body (slice_get b.body 999) refl e.1.1; lines = e.1.0.1 },
    )

block_part : (text : List ℕ) (hs : List Header) (b : Block) → Opened b → All (RowLaid text) b.body → BlockPart text hs b
block_part text hs b o l =
    let p : ℕ = o.0.0.place in
    let g : BeginsAt b.head p = (o.0.0, o.0.1, o.0.2, refl) in
    renamed (ByPart hs b p) (OfBlock hs b)
    (((head_refusal (header_of b) p ≡ None) × (end_refusal b.closing p ≡ None)) × (((ls : List Line) × AllZip (IsLine text hs) b.body ls) × (count_refusal (slice_get b.body 999) ≡ None)))
    ((f : Function) × IsFunction text hs b f)
    (λ r f. to_block hs b p r g f) (λ r f. from_block hs b p r g f) (function_of text hs b p o)
    (both (λ r. (head_refusal (header_of b) p ≡ Some r) ⊎ (end_refusal b.closing p ≡ Some r)) (λ r. InSome (LineStands hs) b.body r ⊎ (count_refusal (slice_get b.body 999) ≡ Some r))
    ((head_refusal (header_of b) p ≡ None) × (end_refusal b.closing p ≡ None)) (((ls : List Line) × AllZip (IsLine text hs) b.body ls) × (count_refusal (slice_get b.body 999) ≡ None))
    (both (λ r. head_refusal (header_of b) p ≡ Some r) (λ r. end_refusal b.closing p ≡ Some r) (head_refusal (header_of b) p ≡ None) (end_refusal b.closing p ≡ None)
    (single (head_refusal (header_of b) p) (head_refusal (header_of b) p ≡ None) (λ e. e)) (single (end_refusal b.closing p) (end_refusal b.closing p ≡ None) (λ e. e)))
    (both (InSome (LineStands hs) b.body) (λ r. count_refusal (slice_get b.body 999) ≡ Some r) ((ls : List Line) × AllZip (IsLine text hs) b.body ls) (count_refusal (slice_get b.body 999) ≡ None)
    (lines_part text hs b.body l) (single (count_refusal (slice_get b.body 999)) (count_refusal (slice_get b.body 999) ≡ None) (λ e. e))))

abbrev BlocksPart : List ℕ → List Header → List Block → Type 0
BlocksPart text hs bs = Part (InSome (OfBlock hs) bs) ((fs : List Function) × AllZip (IsFunction text hs) bs fs)

abbrev BodyLaid : List ℕ → Block → Type 0
BodyLaid text b = All (RowLaid text) b.body

blocks_part : (text : List ℕ) (hs : List Header) (bs : List Block) → AllByRecursion Opened bs → All (BodyLaid text) bs → BlocksPart text hs bs
blocks_part text hs [] o l = given (InSome (OfBlock hs) []) ((fs : List Function) × AllZip (IsFunction text hs) [] fs) (λ r f. f) ([], tt)
blocks_part text hs (b ∷ bs) o l =
    renamed (λ s. OfBlock hs b s ⊎ InSome (OfBlock hs) bs s) (InSome (OfBlock hs) (b ∷ bs)) (((f : Function) × IsFunction text hs b f) × ((fs : List Function) × AllZip (IsFunction text hs) bs fs)) ((fs : List Function) × AllZip (IsFunction text hs) (b ∷ bs) fs)
    (λ s f. f) (λ s f. f) (λ f. (f.0.0 ∷ f.1.0, (f.0.1, f.1.1)))
    (both (OfBlock hs b) (InSome (OfBlock hs) bs) ((f : Function) × IsFunction text hs b f) ((fs : List Function) × AllZip (IsFunction text hs) bs fs)
    (block_part text hs b o.0 (All-head (BodyLaid text) b bs l)) (blocks_part text hs bs o.1 (All-tail (BodyLaid text) b bs l)))

-- ---- Lines outside functions

abbrev RowsPart : List (List ℕ) → Option ℤ → List Row → Type 0
RowsPart ns o rs = Part (OfRows ns o rs) ((v : ℤ) × (vars : List Var) × DeclareFrom ns o rs v vars)

no_rows : (ns : List (List ℕ)) (o : Option ℤ) → DeclareFrom ns o [] (origin_or o) []
no_rows ns None = record { said = []; declared = tt; origin = refl; named = refl }
no_rows ns (Some v) = record { said = []; declared = tt; origin = (refl, refl); named = refl }

rows_part : (ns : List (List ℕ)) (o : Option ℤ) (rs : List Row) → RowsPart ns o rs
rows_part ns o [] = given (OfRows ns o []) ((v : ℤ) × (vars : List Var) × DeclareFrom ns o [] v vars) (λ r f. f) (origin_or o, [], no_rows ns o)
rows_part ns o (x ∷ xs) =
    let c : Option Refusal = said_cause o (declaration ns x) x.words in
    let q : Option ℤ = origin_next o (declaration ns x) in
    renamed (λ r. (c ≡ Some r) ⊎ OfRows ns q xs r) (OfRows ns o (x ∷ xs)) ((c ≡ None) × ((v : ℤ) × (vars : List Var) × DeclareFrom ns q xs v vars)) ((v : ℤ) × (vars : List Var) × DeclareFrom ns o (x ∷ xs) v vars)
    (λ r f. f) (λ r f. f) (λ f. (let a = adds ns o x xs f.1.0 [] f.1.1 (declaration ns x) refl f.0 f.1.2 in (f.1.0, a.0, a.1)))
    (both (λ r. c ≡ Some r) (OfRows ns q xs) (c ≡ None) ((v : ℤ) × (vars : List Var) × DeclareFrom ns q xs v vars) (single c (c ≡ None) (λ e. e)) (rows_part ns q xs))

bare_part : (rs : List Row) → Part (InSome OfBare rs) ((r : Refusal) → InSome OfBare rs r → ⊥)
bare_part [] = given (InSome OfBare []) ((r : Refusal) → InSome OfBare [] r → ⊥) (λ r f. f) (λ r f. f)
bare_part (x ∷ xs) =
    let c : Option Refusal = at_first bad_declaration x.words in
    renamed (λ r. (c ≡ Some r) ⊎ InSome OfBare xs r) (InSome OfBare (x ∷ xs)) ((c ≡ None) × ((r : Refusal) → InSome OfBare xs r → ⊥)) ((r : Refusal) → InSome OfBare (x ∷ xs) r → ⊥)
    (λ r f. f) (λ r f. f) (λ f r h. elim h as (λ _. ⊥) [ inl e ↦ some_none r (sym e ∙ f.0) | inr e ↦ f.1 r e ])
    (both (λ r. c ≡ Some r) (InSome OfBare xs) (c ≡ None) ((r : Refusal) → InSome OfBare xs r → ⊥) (single c (c ≡ None) (λ e. e)) (bare_part xs))

-- ---- Texts

has_word : (ws : List Word) → begins_with_del ws ≡ true → (x : Word) × (us : List Word) × (ws ≡ x ∷ us)
has_word [] e = cc
has_word (x ∷ ws) e = (x, ws, refl)

abbrev OpenedRow : Option (Row × List Row) → Type 0
OpenedRow None = Unit {0}
OpenedRow (Some (g, body)) = HasWord g

opened_part : (t : Bool) (r : Row) (o : Option (Row × List Row)) (rs : List Row) → begins_with_del r.words ≡ t
    → ((q : Option (Row × List Row)) → OpenedRow q → AllByRecursion Opened (blocks (parts rs q))) → OpenedRow o → AllByRecursion Opened (blocks (part t r o (parts rs)))
opened_part true r None rs e f h = f (Some (r, [])) (has_word r.words e)
opened_part false r None rs e f h = f None tt
opened_part true r (Some (g, body)) rs e f h = ((h, has_word r.words e), f None tt)
opened_part false r (Some (g, body)) rs e f h = f (Some (g, body ++ r ∷ [])) h

opened_parts : (rs : List Row) (o : Option (Row × List Row)) → OpenedRow o → AllByRecursion Opened (blocks (parts rs o))
opened_parts [] None h = tt
opened_parts [] (Some (g, body)) h = ((h, tt), tt)
opened_parts (r ∷ rs) o h = opened_part (begins_with_del r.words) r o rs refl (λ q i. opened_parts rs q i) h

few_of : (bs : List Block) (o : Option Block) → slice_get bs 999 ≡ o → count_at o ≡ None → length bs ≤ 999
few_of bs (Some b) e f = absurd (some_none (refusal high_count b.head.start) f)
few_of bs None e f = within bs 999 e

abbrev IsThere : List ℕ → List Token → Type 0
IsThere text ts = (p : Program) × IsProgramOf text ts p

abbrev Pieces : List ℕ → List Token → Type 0
Pieces text ts =
    (((v : ℤ) × (vars : List Var) × DeclareFrom (names_in text ts) None (above (parts_of text ts)) v vars) × ((r : Refusal) → InSome OfBare (below (parts_of text ts)) r → ⊥))
    × (((fs : List Function) × AllZip (IsFunction text (headers (parts_of text ts))) (blocks (parts_of text ts)) fs) × (count_at (slice_get (blocks (parts_of text ts)) 999) ≡ None))

whole : (text : List ℕ) (ts : List Token) → Pieces text ts → IsThere text ts
whole text ts x =
    let d = x.0.0.2 in (
      record { names = names_in text ts; origin = x.0.0.0; vars = x.0.0.1; functions = x.1.0.0 },
      record {
        names = refl;
        declared = record { said = d.said; declared = d.declared; origin = d.origin; named = d.named };
        bare = all_bare (below (parts_of text ts)) x.0.1;
        few = few_of (blocks (parts_of text ts)) (slice_get (blocks (parts_of text ts)) 999) refl x.1.1;
        functions = x.1.0.1;
      },
    )

text_part : (text : List ℕ) (ts : List Token) → AreTokens text ts → Part (Stands text ts) (IsThere text ts)
text_part text ts a =
    let hs = headers (parts_of text ts) in
    let bs = blocks (parts_of text ts) in
    renamed (ByFamily text ts) (Stands text ts) (Pieces text ts) (IsThere text ts) (to_text text ts) (from_text text ts) (whole text ts)
    (both (λ r. OfRows (names_in text ts) None (above (parts_of text ts)) r ⊎ InSome OfBare (below (parts_of text ts)) r) (λ r. InSome (OfBlock hs) bs r ⊎ (count_at (slice_get bs 999) ≡ Some r))
    (((v : ℤ) × (vars : List Var) × DeclareFrom (names_in text ts) None (above (parts_of text ts)) v vars) × ((r : Refusal) → InSome OfBare (below (parts_of text ts)) r → ⊥))
    (((fs : List Function) × AllZip (IsFunction text hs) bs fs) × (count_at (slice_get bs 999) ≡ None))
    (both (OfRows (names_in text ts) None (above (parts_of text ts))) (InSome OfBare (below (parts_of text ts))) ((v : ℤ) × (vars : List Var) × DeclareFrom (names_in text ts) None (above (parts_of text ts)) v vars) ((r : Refusal) → InSome OfBare (below (parts_of text ts)) r → ⊥)
    (rows_part (names_in text ts) None (above (parts_of text ts))) (bare_part (below (parts_of text ts))))
    (both (InSome (OfBlock hs) bs) (λ r. count_at (slice_get bs 999) ≡ Some r) ((fs : List Function) × AllZip (IsFunction text hs) bs fs) (count_at (slice_get bs 999) ≡ None)
    (blocks_part text hs bs (opened_parts (lines (words text ts)) None tt) (laid_bodies text ts a))
    (single (count_at (slice_get bs 999)) (count_at (slice_get bs 999) ≡ None) (λ e. e))))

-- a program, or the first refusal
pub program_or_first : (text : List ℕ) (ts : List Token) → AreTokens text ts → IsThere text ts ⊎ ((r : Refusal) × IsFirst (Stands text ts) r)
program_or_first text ts a = settle (text_part text ts a).0 (text_part text ts a).1 (text_part text ts a).2
  where
    settle : (o : Option Refusal) → IsFirstOf (Stands text ts) o → (o ≡ None → IsThere text ts) → IsThere text ts ⊎ ((r : Refusal) × IsFirst (Stands text ts) r)
    settle None h f = inl (f refl)
    settle (Some r) h f = inr (r, h)

-- and of those one at most
pub first_once : (text : List ℕ) (ts : List Token) (r s : Refusal) → IsFirst (Stands text ts) r → IsFirst (Stands text ts) s → r ≡ s
first_once text ts r s h k = one_first (Stands text ts) r s h k

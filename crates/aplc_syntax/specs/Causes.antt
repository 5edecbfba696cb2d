-- The causes of refusals by what they belong to.
use Rattle.std.specs.Prelude.{◌≡◌, ℕ, ◌⊎◌, List, [], ◌∷◌, ◌++◌, filter_map, Contains, Option, Some, None, ℤ}
use Rattle.std.specs.List.{slice_get, AllZip}
use Rattle.aplc_lex.specs.Tokens.{refusal}
use Rattle.aplc_lex.specs.declared.token.Refusal.{Refusal}
use Rattle.aplc_syntax.specs.declared.tree.Var.{Var}
use Rattle.aplc_syntax.specs.declared.word.Word.{Word}
use Rattle.aplc_syntax.specs.Layout.{Row, Block, Header, Declaration, origin, var, header_of, sentence, declaration, origin_of, var_of}
use Rattle.aplc_syntax.specs.Programs.{IsOrigin}
use Rattle.aplc_lex.specs.Firsts.{IsFirstOf, earlier}
use Rattle.aplc_syntax.specs.Refusals.{StandsIn, BeginsAt, bad_header, high_count, bad_declaration}

-- ---- Lists

-- a refusal of one of these
abbrev pub InSome : {A : Type 0} → (A → Refusal → Type 0) → List A → Refusal → Type 0
InSome P [] r = ⊥
InSome P (x ∷ xs) r = P x r ⊎ InSome P xs r

-- where none stands, the items are these and then l
abbrev pub IsNoted : {A L : Type 0} → (A → Refusal → Type 0) → (A → L → Type 0) → A → (a b : Option Refusal) → (xs ys : List L) → Type 0
IsNoted {L = L} P R x a b xs ys = (c : Option Refusal) × IsFirstOf (P x) c × (b ≡ earlier a c) × (c ≡ None → (l : L) × R x l × (ys ≡ xs ++ l ∷ []))

-- ---- A function

-- a refusal of a function, where these headers are known
pub data OfBlock (hs : List Header) (b : Block) : Refusal → Type 0 where
  of_header : {p : ℕ} → header_of b ≡ None → BeginsAt b.head p → OfBlock hs b (refusal bad_header p)
  of_more : {r : Row} {x y : Word} {ws : List Word} → b.closing ≡ Some r → r.words ≡ x ∷ y ∷ ws → OfBlock hs b (refusal bad_header x.place)
  of_end : {p : ℕ} → b.closing ≡ None → BeginsAt b.head p → OfBlock hs b (refusal bad_header p)
  of_line : {r : Row} {s : Refusal} → Contains b.body r → StandsIn (sentence hs r) s → OfBlock hs b s
  of_count : {r : Row} → slice_get b.body 999 ≡ Some r → OfBlock hs b (refusal high_count r.start)

-- ---- Lines before the first function

-- the first word's refusal
abbrev pub at_first : ℕ → List Word → Option Refusal
at_first n [] = None
at_first n (x ∷ ws) = Some (refusal n x.place)

-- the refusal of a line that says this, where such an origin was declared before it
abbrev pub said_cause : Option ℤ → Option Declaration → List Word → Option Refusal
said_cause o None ws = at_first bad_declaration ws
said_cause (Some v) (Some (origin w)) ws = at_first bad_declaration ws
said_cause o d ws = None

-- the origin that is declared before the next line
abbrev pub origin_next : Option ℤ → Option Declaration → Option ℤ
origin_next None (Some (origin w)) = Some w
origin_next o d = o

abbrev pub vars_next : List Var → Option Declaration → List Var
vars_next xs (Some (var x)) = xs ++ x ∷ []
vars_next xs d = xs

-- a refusal of these lines, where such an origin was declared before them
abbrev pub OfRows : List (List ℕ) → Option ℤ → List Row → Refusal → Type 0
OfRows ns o [] r = ⊥
OfRows ns o (x ∷ xs) r = (said_cause o (declaration ns x) x.words ≡ Some r) ⊎ OfRows ns (origin_next o (declaration ns x)) xs r

-- the origin of lines that declare these, where such an origin was declared before them
abbrev pub OriginFrom : Option ℤ → List ℤ → ℤ → Type 0
OriginFrom None xs v = IsOrigin xs v
OriginFrom (Some w) xs v = (xs ≡ []) × (v ≡ w)

-- these lines declare this origin and these names, where such an origin was declared before them
pub record DeclareFrom (ns : List (List ℕ)) (o : Option ℤ) (rs : List Row) (v : ℤ) (vars : List Var) : Type 0 where
  pub said : List Declaration
  pub declared : AllZip (λ r d. declaration ns r ≡ Some d) rs said
  pub origin : OriginFrom o (filter_map origin_of said) v
  pub named : vars ≡ filter_map var_of said

-- a refusal of a line outside functions behind the first one
abbrev pub OfBare : Row → Refusal → Type 0
OfBare r s = at_first bad_declaration r.words ≡ Some s

-- ---- What is left of a list

-- with the first refusal a and the items xs, these elements are done but for the rest
pub record Covers {A L : Type 0} (P : A → Refusal → Type 0) (R : A → L → Type 0) (whole rest : List A) (a : Option Refusal) (xs : List L) : Type 0 where
  pub first : (c : Option Refusal) → IsFirstOf (InSome P rest) c → IsFirstOf (InSome P whole) (earlier a c)
  pub items : a ≡ None → (ls : List L) → AllZip R rest ls → AllZip R whole (xs ++ ls)

-- the same for lines before the first function
pub record CoversRows (ns : List (List ℕ)) (whole rest : List Row) (a : Option Refusal) (o : Option ℤ) (xs : List Var) : Type 0 where
  pub first : (c : Option Refusal) → IsFirstOf (OfRows ns o rest) c → IsFirstOf (OfRows ns None whole) (earlier a c)
  pub said : a ≡ None → (v : ℤ) (vars : List Var) → DeclareFrom ns o rest v vars → DeclareFrom ns None whole v (xs ++ vars)

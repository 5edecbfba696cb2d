-- What it means that a reader is exact.
use Rattle.std.specs.Prelude.{ℕ, ◌<◌, ◌&&◌, Bool, true, false, nat_eq, nat_le, nat_lt, cond, decimal, length, get_or, List, [], ◌∷◌, ◌++◌, ◌≡◌, Option, Some, None, Result, Ok, Err}
use Rattle.std.specs.Borrow.{Bor}
use Rattle.aplc_cread.specs.declared.lexical.Halt.{Halt}
use Rattle.aplc_cread.specs.declared.lexical.Halt.TheVariants as halt

abbrev pub first : List ℕ → Option ℕ
first [] = None
first (c ∷ cs) = Some c

-- A language says which texts a value has. F says what may follow.
-- The front of the input is a text of a, and whatever goes on as the input does is that text of a with a rest.
pub record Found {A : Type 0} (F : List ℕ → Type 0) (L : A → List ℕ → Type 0) (s : List ℕ) (a : A) (rest : List ℕ) : Type 0 where
  pub text : List ℕ
  pub here : s ≡ text ++ rest
  pub is : L a text
  pub only : (b : A) (w k v : List ℕ) → L b w → F k → first v ≡ first rest → w ++ k ≡ text ++ v → (b ≡ a) × (k ≡ v)

-- The front of the input begins a text, and with the byte after it (or with the end) none.
pub record Stops {A : Type 0} (F : List ℕ → Type 0) (L : A → List ℕ → Type 0) (s rest : List ℕ) : Type 0 where
  pub text : List ℕ
  pub here : s ≡ text ++ rest
  pub some : (a : A) × ((v : List ℕ) × L a (text ++ v))
  pub none : (b : A) (w k v : List ℕ) → L b w → F k → first v ≡ first rest → w ++ k ≡ text ++ v → ⊥

-- Unless memory ran out it stops there.
pub record Halts {A : Type 0} (F : List ℕ → Type 0) (L : A → List ℕ → Type 0) (s : List ℕ) (h : Halt) : Type 0 where
  pub stops : (rest : Bor (List ℕ)) → h ≡ halt.At rest → Stops F L s rest.now

abbrev pub Reads : {A : Type 0} → (List ℕ → Type 0) → (A → List ℕ → Type 0) → List ℕ → Result (A × Bor (List ℕ)) Halt → Type 0
Reads F L s (Ok x) = Found F L s x.0 x.1.now
Reads F L s (Err h) = Halts F L s h

-- the same for a reader that gives the rest alone
abbrev pub Passes : {A : Type 0} → (List ℕ → Type 0) → (A → List ℕ → Type 0) → A → List ℕ → Result (Bor (List ℕ)) Halt → Type 0
Passes F L a s (Ok rest) = Found F L s a rest.now
Passes F L a s (Err h) = Halts F L s h

-- what may follow
abbrev pub Any : List ℕ → Type 0
Any k = Unit {0}

-- one value without a text, a fixed text, one language after another
abbrev pub Pure : {A : Type 0} → A → A → List ℕ → Type 0
Pure a b w = (b ≡ a) × (w ≡ [])

abbrev pub Lit : List ℕ → Unit {0} → List ℕ → Type 0
Lit t u w = w ≡ t

pub record Bind {A C : Type 0} (L : A → List ℕ → Type 0) (M : A → C → List ℕ → Type 0) (c : C) (w : List ℕ) : Type 0 where
  pub part : A
  pub front : List ℕ
  pub back : List ℕ
  pub begins : L part front
  pub goes_on : M part c back
  pub whole : w ≡ front ++ back

-- what has been compared of a fixed text and the input is the same
pub record Common (text input t rest : List ℕ) : Type 0 where
  pub done : List ℕ
  pub of_text : text ≡ done ++ t
  pub of_input : input ≡ done ++ rest

-- the first byte and the others
abbrev pub Split : Option (ℕ × Bor (List ℕ)) → List ℕ → Type 0
Split None s = s ≡ []
Split (Some x) s = s ≡ x.0 ∷ x.1.now

-- one of the texts that are allowed
pub record OneOf (texts : List (List ℕ)) (allowed : List Bool) (i : ℕ) (w : List ℕ) : Type 0 where
  pub within : i < length texts
  pub text : w ≡ get_or texts i []
  pub may : get_or allowed i false ≡ true

-- of which none begins another
abbrev pub differ : List ℕ → List ℕ → Bool
differ (c ∷ t) (d ∷ u) = cond (nat_eq c d) (differ t u) true
differ t u = false

abbrev pub all_differ : List ℕ → List (List ℕ) → Bool
all_differ t [] = true
all_differ t (u ∷ us) = differ t u && all_differ t us

abbrev pub apart : List (List ℕ) → Bool
apart [] = true
apart (t ∷ ts) = all_differ t ts && apart ts

abbrev pub nows : List (Bor (List ℕ)) → List (List ℕ)
nows [] = []
nows (b ∷ bs) = b.now ∷ nows bs

-- what one_of knows on its way
pub record Best (texts : List (List ℕ)) (allowed : List Bool) (s : List ℕ) (n : ℕ) (best : List ℕ) : Type 0 where
  pub text : List ℕ
  pub here : s ≡ text ++ best
  pub some : (a : ℕ) × ((v : List ℕ) × OneOf texts allowed a (text ++ v))
  pub none : (b : ℕ) (w k v : List ℕ) → b < n → OneOf texts allowed b w → first v ≡ first best → w ++ k ≡ text ++ v → ⊥

-- ---- Numbers

abbrev pub is_digit : ℕ → Bool
is_digit c = nat_le 48 c && nat_lt c 58

-- no digit goes on
abbrev pub NoDigit : List ℕ → Type 0
NoDigit [] = Unit {0}
NoDigit (c ∷ cs) = is_digit c ≡ false

-- a number below a bound
pub record Number (bound n : ℕ) (w : List ℕ) : Type 0 where
  pub below : n < bound
  pub text : w ≡ decimal n

-- a text that does not begin with a digit
abbrev pub opens : List ℕ → Bool
opens [] = false
opens (c ∷ cs) = cond (is_digit c) false true

-- a number below a bound, and a fixed text behind it
pub record NumberThen (bound : ℕ) (t : List ℕ) (n : ℕ) (w : List ℕ) : Type 0 where
  pub below : n < bound
  pub text : w ≡ decimal n ++ t

-- the texts of a language for the values that are made of its own
pub record Map {A B : Type 0} (f : A → B) (L : A → List ℕ → Type 0) (b : B) (w : List ℕ) : Type 0 where
  pub part : A
  pub is : b ≡ f part
  pub of : L part w

-- a fixed text before a language
abbrev pub After : {A : Type 0} → List ℕ → (A → List ℕ → Type 0) → A → List ℕ → Type 0
After t L = Bind (Lit t) (λ u. L)

-- The grammar of statements: one constructor for each form, with the places of its words, and the words that it spells.
use Rattle.std.specs.Prelude.{ℕ, List, [], ◌∷◌, ℤ}
use Rattle.aplc_scalar.specs.declared.function.ScalarFn.{ScalarFn}
use Rattle.aplc_syntax.specs.declared.tree.Axis.{Axis}
use Rattle.aplc_syntax.specs.declared.tree.Primitive.{Primitive}
use Rattle.aplc_syntax.specs.declared.word.Arity.TheVariants as arity
use Rattle.aplc_syntax.specs.declared.word.Role.{Role}
use Rattle.aplc_syntax.specs.declared.word.Role.TheVariants as role
use Rattle.aplc_syntax.specs.declared.word.Stroke.{Stroke}
use Rattle.aplc_syntax.specs.declared.word.Word.{Word}
use Rattle.aplc_syntax.specs.declared.word.WordKind.TheVariants as w
use Rattle.aplc_syntax.specs.Words.{word}

-- ---- The forms

-- a scalar function of two arguments
pub data F : Type 0 where
  arith_fn : ScalarFn → F
  compare_fn : ScalarFn → F

-- an axis in brackets, or none
pub data X : Type 0 where
  no_axis : X
  axis : (pl pn pr : ℕ) → ℤ → X

-- a function of one argument
pub data M : Type 0 where
  arith1 : (p : ℕ) → ScalarFn → M
  not1 : (p : ℕ) → M
  both1 : (p : ℕ) → Primitive → M
  turn1 : (p : ℕ) → Axis → X → M
  reduce : (p : ℕ) → F → (ps : ℕ) → Stroke → Axis → X → M
  call1 : (p n : ℕ) → M

-- a function of two arguments
pub data D : Type 0 where
  scalar2 : (p : ℕ) → F → D
  both2 : (p : ℕ) → Primitive → D
  dyadic2 : (p : ℕ) → Primitive → D
  turn2 : (p : ℕ) → Axis → X → D
  copies : (p : ℕ) → Stroke → Axis → X → D
  outer : (pj pd p : ℕ) → F → D
  inner : (p : ℕ) → F → (pd pg : ℕ) → F → D
  call2 : (p n : ℕ) → D

-- further numbers
pub data N : Type 0 where
  no_number : N
  number : (p : ℕ) → ℤ → N → N

-- a simple operand
pub data S : Type 0 where
  numbers : (p : ℕ) → ℤ → N → S
  literal : (p to : ℕ) → S
  variable : (p n : ℕ) → S
  call0 : (p n : ℕ) → S
  text_input : (p : ℕ) → S
  nums_input : (p : ℕ) → S

mutual
  -- an expression; what is assigned may be any name
  pub data E : Type 0 where
    operand : O → E
    before : M → E → E
    between : O → D → E → E
    assign : (r : Role) (p n pa : ℕ) → E → E
    assign_at : (r : Role) (p n pl : ℕ) → L → (pa : ℕ) → E → E
    show : (p pa : ℕ) → E → E

  -- an operand
  pub data O : Type 0 where
    simple : S → O
    paren : (p : ℕ) → E → (q : ℕ) → O
    index : O → (p : ℕ) → L → O

  -- the entries of a list up to its closing bracket, each an E or nothing
  pub data L : Type 0 where
    last_gap : (p : ℕ) → L
    last_entry : E → (p : ℕ) → L
    gap : (p : ℕ) → L → L
    entry : E → (p : ℕ) → L → L

-- a statement that isn't empty; a procedure is a function without a result
pub data Sentence : Type 0 where
  value : E → Sentence
  branch : (p : ℕ) → E → Sentence
  perform0 : (p n : ℕ) → Sentence
  perform1 : (p n : ℕ) → E → Sentence
  perform2 : O → (p n : ℕ) → E → Sentence

-- ---- What a form spells before the words k

abbrev pub spell_F : F → ℕ → List Word → List Word
spell_F (arith_fn g) p k = word (w.Arith g) p ∷ k
spell_F (compare_fn g) p k = word (w.Compare g) p ∷ k

abbrev pub spell_X : X → List Word → List Word
spell_X no_axis k = k
spell_X (axis pl pn pr v) k = word w.OpenBracket pl ∷ (word (w.Number v) pn ∷ (word w.CloseBracket pr ∷ k))

abbrev pub spell_M : M → List Word → List Word
spell_M (arith1 p g) k = word (w.Arith g) p ∷ k
spell_M (not1 p) k = word w.Not p ∷ k
spell_M (both1 p g) k = word (w.Both g) p ∷ k
spell_M (turn1 p a x) k = word (w.Turn a) p ∷ spell_X x k
spell_M (reduce p g ps s a x) k = spell_F g p (word (w.Stroke s a) ps ∷ spell_X x k)
spell_M (call1 p n) k = word (w.Name (role.Function arity.Monadic) n) p ∷ k

abbrev pub spell_D : D → List Word → List Word
spell_D (scalar2 p g) k = spell_F g p k
spell_D (both2 p g) k = word (w.Both g) p ∷ k
spell_D (dyadic2 p g) k = word (w.Dyadic g) p ∷ k
spell_D (turn2 p a x) k = word (w.Turn a) p ∷ spell_X x k
spell_D (copies p s a x) k = word (w.Stroke s a) p ∷ spell_X x k
spell_D (outer pj pd p g) k = word w.Jot pj ∷ (word w.Dot pd ∷ spell_F g p k)
spell_D (inner p g pd ph h) k = spell_F g p (word w.Dot pd ∷ spell_F h ph k)
spell_D (call2 p n) k = word (w.Name (role.Function arity.Dyadic) n) p ∷ k

abbrev pub spell_N : N → List Word → List Word
spell_N no_number k = k
spell_N (number p v ns) k = word (w.Number v) p ∷ spell_N ns k

abbrev pub spell_S : S → List Word → List Word
spell_S (numbers p v ns) k = word (w.Number v) p ∷ spell_N ns k
spell_S (literal p to) k = word (w.Text to) p ∷ k
spell_S (variable p n) k = word (w.Name role.Variable n) p ∷ k
spell_S (call0 p n) k = word (w.Name (role.Function arity.Niladic) n) p ∷ k
spell_S (text_input p) k = word w.TextInput p ∷ k
spell_S (nums_input p) k = word w.NumsInput p ∷ k

abbrev mutual
  pub spell_E : E → List Word → List Word
  spell_E (operand o) k = spell_O o k
  spell_E (before m e) k = spell_M m (spell_E e k)
  spell_E (between o d e) k = spell_O o (spell_D d (spell_E e k))
  spell_E (assign r p n pa e) k = word (w.Name r n) p ∷ (word w.Assign pa ∷ spell_E e k)
  spell_E (assign_at r p n pl l pa e) k = word (w.Name r n) p ∷ (word w.OpenBracket pl ∷ spell_L l (word w.Assign pa ∷ spell_E e k))
  spell_E (show p pa e) k = word w.Quad p ∷ (word w.Assign pa ∷ spell_E e k)

  pub spell_O : O → List Word → List Word
  spell_O (simple s) k = spell_S s k
  spell_O (paren p e q) k = word w.Open p ∷ spell_E e (word w.Close q ∷ k)
  spell_O (index o p l) k = spell_O o (word w.OpenBracket p ∷ spell_L l k)

  pub spell_L : L → List Word → List Word
  spell_L (last_gap p) k = word w.CloseBracket p ∷ k
  spell_L (last_entry e p) k = spell_E e (word w.CloseBracket p ∷ k)
  spell_L (gap p l) k = word w.Semicolon p ∷ spell_L l k
  spell_L (entry e p l) k = spell_E e (word w.Semicolon p ∷ spell_L l k)

abbrev pub spell : Sentence → List Word
spell (value e) = spell_E e []
spell (branch p e) = word w.Branch p ∷ spell_E e []
spell (perform0 p n) = word (w.Name (role.Procedure arity.Niladic) n) p ∷ []
spell (perform1 p n e) = word (w.Name (role.Procedure arity.Monadic) n) p ∷ spell_E e []
spell (perform2 o p n e) = spell_O o (word (w.Name (role.Procedure arity.Dyadic) n) p ∷ spell_E e [])

-- In a statement of the grammar no name that heads no function stands before an argument.
use Rattle.std.proofs.Common.{◌≡◌, ℕ, List, [], ◌∷◌, Some, None, refl, ap, ◌∙◌, Bool, false, if◌then◌else◌}
use Rattle.aplc_syntax.specs.declared.word.Arity.TheVariants as arity
use Rattle.aplc_syntax.specs.declared.word.Role.{Role}
use Rattle.aplc_syntax.specs.declared.word.Role.TheVariants as role
use Rattle.aplc_syntax.specs.declared.word.Word.{Word}
use Rattle.aplc_syntax.specs.declared.word.WordKind.{WordKind}
use Rattle.aplc_syntax.specs.declared.word.WordKind.TheVariants as w
use Rattle.aplc_syntax.specs.Words.{word}
use Rattle.aplc_syntax.specs.Grammar.{F, arith_fn, compare_fn, X, no_axis, axis, M, arith1, not1, both1, turn1, reduce, call1, D, scalar2, both2, dyadic2, turn2, copies, outer, inner, call2, N, no_number, number, S, numbers, literal, variable, call0, text_input, nums_input, E, operand, before, between, assign, assign_at, show, O, simple, paren, index, L, last_gap, last_entry, gap, entry, Sentence, value, branch, perform0, perform1, perform2, spell, spell_F, spell_X, spell_M, spell_D, spell_N, spell_S, spell_E, spell_O, spell_L}
use Rattle.aplc_syntax.specs.Refusals.{begins_argument, is_stray, stray}

-- no word is a name before an argument
abbrev Calm : List Word → Type 0
Calm ws = stray ws ≡ None

-- no argument begins here
abbrev Quiet : List Word → Type 0
Quiet [] = Unit {0}
Quiet (x ∷ xs) = begins_argument x.kind ≡ false

next : (x y : Word) (ws : List Word) → is_stray x.kind y.kind ≡ false → Calm (y ∷ ws) → Calm (x ∷ y ∷ ws)
next x y ws e h = ap (λ (b : Bool). if b then Some x.place else stray (y ∷ ws)) e ∙ h

-- a word that is no such name
over : (j : WordKind) (p : ℕ) (ws : List Word) → ((i : WordKind) → is_stray j i ≡ false) → Calm ws → Calm (word j p ∷ ws)
over j p [] f h = refl
over j p (y ∷ ws) f h = next (word j p) y ws (f y.kind) h

-- a name, where no argument begins behind it
name_calm : (r : Role) (n : ℕ) (j : WordKind) → begins_argument j ≡ false → is_stray (w.Name r n) j ≡ false
name_calm role.Variable n j e = e
name_calm (role.Function a) n j e = refl
name_calm (role.Procedure a) n j e = refl

name_over : (r : Role) (n p : ℕ) (ws : List Word) → Quiet ws → Calm ws → Calm (word (w.Name r n) p ∷ ws)
name_over r n p [] q h = refl
name_over r n p (y ∷ ws) q h = next (word (w.Name r n) p) y ws (name_calm r n y.kind q) h

-- ---- Functions

calm_F : (g : F) (p : ℕ) (k : List Word) → Calm k → Calm (spell_F g p k)
calm_F (arith_fn g) p k h = over (w.Arith g) p k (λ i. refl) h
calm_F (compare_fn g) p k h = over (w.Compare g) p k (λ i. refl) h

quiet_F : (g : F) (p : ℕ) (k : List Word) → Quiet (spell_F g p k)
quiet_F (arith_fn g) p k = refl
quiet_F (compare_fn g) p k = refl

calm_X : (x : X) (k : List Word) → Calm k → Calm (spell_X x k)
calm_X no_axis k h = h
calm_X (axis pl pn pr v) k h =
    over w.OpenBracket pl (word (w.Number v) pn ∷ word w.CloseBracket pr ∷ k) (λ i. refl) (over (w.Number v) pn (word w.CloseBracket pr ∷ k) (λ i. refl) (over w.CloseBracket pr k (λ i. refl) h))

calm_M : (x : M) (k : List Word) → Calm k → Calm (spell_M x k)
calm_M (arith1 p g) k h = over (w.Arith g) p k (λ i. refl) h
calm_M (not1 p) k h = over w.Not p k (λ i. refl) h
calm_M (both1 p g) k h = over (w.Both g) p k (λ i. refl) h
calm_M (turn1 p a x) k h = over (w.Turn a) p (spell_X x k) (λ i. refl) (calm_X x k h)
calm_M (reduce p g ps s a x) k h = calm_F g p (word (w.Stroke s a) ps ∷ spell_X x k) (over (w.Stroke s a) ps (spell_X x k) (λ i. refl) (calm_X x k h))
calm_M (call1 p n) k h = over (w.Name (role.Function arity.Monadic) n) p k (λ i. refl) h

calm_D : (d : D) (k : List Word) → Calm k → Calm (spell_D d k)
calm_D (scalar2 p g) k h = calm_F g p k h
calm_D (both2 p g) k h = over (w.Both g) p k (λ i. refl) h
calm_D (dyadic2 p g) k h = over (w.Dyadic g) p k (λ i. refl) h
calm_D (turn2 p a x) k h = over (w.Turn a) p (spell_X x k) (λ i. refl) (calm_X x k h)
calm_D (copies p s a x) k h = over (w.Stroke s a) p (spell_X x k) (λ i. refl) (calm_X x k h)
calm_D (outer pj pd p g) k h = over w.Jot pj (word w.Dot pd ∷ spell_F g p k) (λ i. refl) (over w.Dot pd (spell_F g p k) (λ i. refl) (calm_F g p k h))
calm_D (inner p g pd ph j) k h = calm_F g p (word w.Dot pd ∷ spell_F j ph k) (over w.Dot pd (spell_F j ph k) (λ i. refl) (calm_F j ph k h))
calm_D (call2 p n) k h = over (w.Name (role.Function arity.Dyadic) n) p k (λ i. refl) h

quiet_D : (d : D) (k : List Word) → Quiet (spell_D d k)
quiet_D (scalar2 p g) k = quiet_F g p k
quiet_D (both2 p g) k = refl
quiet_D (dyadic2 p g) k = refl
quiet_D (turn2 p a x) k = refl
quiet_D (copies p s a x) k = refl
quiet_D (outer pj pd p g) k = refl
quiet_D (inner p g pd ph j) k = quiet_F g p (word w.Dot pd ∷ spell_F j ph k)
quiet_D (call2 p n) k = refl

-- ---- Values

calm_N : (ns : N) (k : List Word) → Calm k → Calm (spell_N ns k)
calm_N no_number k h = h
calm_N (number p v ns) k h = over (w.Number v) p (spell_N ns k) (λ i. refl) (calm_N ns k h)

calm_S : (a : S) (k : List Word) → Quiet k → Calm k → Calm (spell_S a k)
calm_S (numbers p v ns) k q h = over (w.Number v) p (spell_N ns k) (λ i. refl) (calm_N ns k h)
calm_S (literal p to) k q h = over (w.Text to) p k (λ i. refl) h
calm_S (variable p n) k q h = name_over role.Variable n p k q h
calm_S (call0 p n) k q h = over (w.Name (role.Function arity.Niladic) n) p k (λ i. refl) h
calm_S (text_input p) k q h = over w.TextInput p k (λ i. refl) h
calm_S (nums_input p) k q h = over w.NumsInput p k (λ i. refl) h

mutual
  calm_E : (e : E) (k : List Word) → Quiet k → Calm k → Calm (spell_E e k)
  calm_E (operand a) k q h = calm_O a k q h
  calm_E (before m e) k q h = calm_M m (spell_E e k) (calm_E e k q h)
  calm_E (between a d e) k q h = calm_O a (spell_D d (spell_E e k)) (quiet_D d (spell_E e k)) (calm_D d (spell_E e k) (calm_E e k q h))
  calm_E (assign r p n pa e) k q h = name_over r n p (word w.Assign pa ∷ spell_E e k) refl (over w.Assign pa (spell_E e k) (λ i. refl) (calm_E e k q h))
  calm_E (assign_at r p n pl l pa e) k q h = name_over r n p (word w.OpenBracket pl ∷ spell_L l (word w.Assign pa ∷ spell_E e k)) refl
      (over w.OpenBracket pl (spell_L l (word w.Assign pa ∷ spell_E e k)) (λ i. refl) (calm_L l (word w.Assign pa ∷ spell_E e k) (over w.Assign pa (spell_E e k) (λ i. refl) (calm_E e k q h))))
  calm_E (show p pa e) k q h = over w.Quad p (word w.Assign pa ∷ spell_E e k) (λ i. refl) (over w.Assign pa (spell_E e k) (λ i. refl) (calm_E e k q h))

  calm_O : (a : O) (k : List Word) → Quiet k → Calm k → Calm (spell_O a k)
  calm_O (simple a) k q h = calm_S a k q h
  calm_O (paren p e r) k q h = over w.Open p (spell_E e (word w.Close r ∷ k)) (λ i. refl) (calm_E e (word w.Close r ∷ k) refl (over w.Close r k (λ i. refl) h))
  calm_O (index a p l) k q h = calm_O a (word w.OpenBracket p ∷ spell_L l k) refl (over w.OpenBracket p (spell_L l k) (λ i. refl) (calm_L l k h))

  calm_L : (l : L) (k : List Word) → Calm k → Calm (spell_L l k)
  calm_L (last_gap p) k h = over w.CloseBracket p k (λ i. refl) h
  calm_L (last_entry e p) k h = calm_E e (word w.CloseBracket p ∷ k) refl (over w.CloseBracket p k (λ i. refl) h)
  calm_L (gap p l) k h = over w.Semicolon p (spell_L l k) (λ i. refl) (calm_L l k h)
  calm_L (entry e p l) k h = calm_E e (word w.Semicolon p ∷ spell_L l k) refl (over w.Semicolon p (spell_L l k) (λ i. refl) (calm_L l k h))

-- ---- Statements

-- a statement of the grammar has no stray name
pub no_stray : (x : Sentence) → stray (spell x) ≡ None
no_stray (value e) = calm_E e [] tt refl
no_stray (branch p e) = over w.Branch p (spell_E e []) (λ i. refl) (calm_E e [] tt refl)
no_stray (perform0 p n) = refl
no_stray (perform1 p n e) = over (w.Name (role.Procedure arity.Monadic) n) p (spell_E e []) (λ i. refl) (calm_E e [] tt refl)
no_stray (perform2 a p n e) = calm_O a (word (w.Name (role.Procedure arity.Dyadic) n) p ∷ spell_E e []) refl
    (over (w.Name (role.Procedure arity.Dyadic) n) p (spell_E e []) (λ i. refl) (calm_E e [] tt refl))

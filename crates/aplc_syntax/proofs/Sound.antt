-- What is read is spelled by the grammar.
use Rattle.std.proofs.Common.{◌≡◌, ℕ, List, [], ◌∷◌, ◌++◌, ℤ, Option, Some, None, refl, sym, ap, ◌∙◌, subst}
use Rattle.std.specs.Prelude.{option_and_then}
use Rattle.aplc_scalar.specs.declared.function.ScalarFn.{ScalarFn}
use Rattle.aplc_syntax.specs.declared.tree.Axis.{Axis}
use Rattle.aplc_syntax.specs.declared.step.Step.{Step}
use Rattle.aplc_syntax.specs.declared.step.Step.TheVariants as s
use Rattle.aplc_syntax.specs.declared.step.Waiting.{Waiting}
use Rattle.aplc_syntax.specs.declared.step.Waiting.TheVariants as o
use Rattle.aplc_syntax.specs.declared.step.Inner.TheVariants as i
use Rattle.aplc_syntax.specs.declared.step.Target.{Target}
use Rattle.aplc_syntax.specs.declared.step.Target.TheVariants as t
use Rattle.aplc_syntax.specs.declared.step.Along.{Along}
use Rattle.aplc_syntax.specs.declared.step.Along.TheVariants as al
use Rattle.aplc_syntax.specs.declared.step.Mode.{Mode}
use Rattle.aplc_syntax.specs.declared.step.Mode.TheVariants as m
use Rattle.aplc_syntax.specs.declared.word.Arity.{Arity}
use Rattle.aplc_syntax.specs.declared.word.Arity.TheVariants as arity
use Rattle.aplc_syntax.specs.declared.word.Role.{Role}
use Rattle.aplc_syntax.specs.declared.word.Role.TheVariants as role
use Rattle.aplc_syntax.specs.declared.word.Stroke.{Stroke}
use Rattle.aplc_syntax.specs.declared.word.Word.{Word}
use Rattle.aplc_syntax.specs.declared.word.WordKind.{WordKind}
use Rattle.aplc_syntax.specs.declared.word.WordKind.TheVariants as w
use Rattle.aplc_syntax.specs.Words.{word}
use Rattle.aplc_syntax.specs.Grammar.{F, arith_fn, compare_fn, X, no_axis, axis, M, arith1, not1, both1, turn1, reduce, call1, D, scalar2, both2, dyadic2, turn2, copies, outer, inner, call2, N, no_number, number, numbers, literal, variable, call0, text_input, nums_input, E, operand, before, between, assign, assign_at, show, O, simple, paren, index, L, last_gap, last_entry, gap, entry, value, branch, perform0, perform1, perform2, spell_F, spell_M, spell_D, spell_N, spell_E, spell_O, spell_L}
use Rattle.aplc_syntax.specs.Trees.{scalar_of}
use Rattle.aplc_syntax.specs.Steps.{step_M, step_D, name_step, out_N, out_E, out_O, out_L, indexed, target_O}
use Rattle.aplc_syntax.specs.Reading.{State, state, flush, close_paren, close_bracket, next_entry, want, begin, start, more, arrow, perform, after, must, only, applied, scalar, stroked, dotted, product, jot, pairs, along, named_axis, axis_number, axis_end, quad, step_of, whole, finish, run, reads}
use Rattle.aplc_syntax.specs.Seen.{IsReading}
use Rattle.aplc_syntax.proofs.Complete.{outer_inner}
use Rattle.aplc_syntax.specs.Reading.{outer as outer_mode, inner as inner_of}

-- ---- What is read

-- what stands before a value
data P : Type 0 where
  pre : M → P
  mid : O → D → P
  put : Role → (p n pa : ℕ) → P
  put_at : Role → (p n pl : ℕ) → L → (pa : ℕ) → P
  see : (p pa : ℕ) → P

abbrev prefixed : P → E → E
prefixed (pre m) e = before m e
prefixed (mid a d) e = between a d e
prefixed (put r p n pa) e = assign r p n pa e
prefixed (put_at r p n pl l pa) e = assign_at r p n pl l pa e
prefixed (see p pa) e = show p pa e

abbrev step_P : P → Step
step_P (pre m) = step_M m
step_P (mid a d) = step_D d
step_P (put r p n pa) = s.Assign
step_P (put_at r p n pl l pa) = s.AssignAt
step_P (see p pa) = s.Show p

abbrev out_P : P → List Step → List Step
out_P (pre m) out = out
out_P (mid a d) out = out_O a out
out_P (put r p n pa) out = out ++ name_step r p n ∷ []
out_P (put_at r p n pl l pa) out = out_L l pl ((out ++ name_step r p n ∷ []) ++ s.List ∷ [])
out_P (see p pa) out = out

abbrev spell_P : P → List Word → List Word
spell_P (pre m) k = spell_M m k
spell_P (mid a d) k = spell_O a (spell_D d k)
spell_P (put r p n pa) k = word (w.Name r n) p ∷ (word w.Assign pa ∷ k)
spell_P (put_at r p n pl l pa) k = word (w.Name r n) p ∷ (word w.OpenBracket pl ∷ spell_L l (word w.Assign pa ∷ k))
spell_P (see p pa) k = word w.Quad p ∷ (word w.Assign pa ∷ k)

prefixed_spell : (x : P) (e : E) (k : List Word) → spell_P x (spell_E e k) ≡ spell_E (prefixed x e) k
prefixed_spell (pre m) e k = refl
prefixed_spell (mid a d) e k = refl
prefixed_spell (put r p n pa) e k = refl
prefixed_spell (put_at r p n pl l pa) e k = refl
prefixed_spell (see p pa) e k = refl

prefixed_out : (x : P) (e : E) (out : List Step) → out_E e (out_P x out) ++ step_P x ∷ [] ≡ out_E (prefixed x e) out
prefixed_out (pre m) e out = refl
prefixed_out (mid a d) e out = refl
prefixed_out (put r p n pa) e out = refl
prefixed_out (put_at r p n pl l pa) e out = refl
prefixed_out (see p pa) e out = refl

-- the entries of a list so far, each with its `;`
data G : Type 0 where
  none_yet : G
  then_gap : G → (p : ℕ) → G
  then_entry : G → E → (p : ℕ) → G

-- what was read before the place where the reading stands
data C : Type 0 where
  at_top : C
  on_branch : (p : ℕ) → C
  on_perform1 : (p n : ℕ) → C
  on_perform2 : O → (p n : ℕ) → C
  behind : C → P → C
  in_paren : C → (p : ℕ) → C
  in_index : C → O → (p : ℕ) → G → C
  in_owed : C → Role → (p n pl : ℕ) → G → C

abbrev spell_G : G → List Word → List Word
spell_G none_yet k = k
spell_G (then_gap g p) k = spell_G g (word w.Semicolon p ∷ k)
spell_G (then_entry g e p) k = spell_G g (spell_E e (word w.Semicolon p ∷ k))

abbrev spell_C : C → List Word → List Word
spell_C at_top k = k
spell_C (on_branch p) k = word w.Branch p ∷ k
spell_C (on_perform1 p n) k = word (w.Name (role.Procedure arity.Monadic) n) p ∷ k
spell_C (on_perform2 a p n) k = spell_O a (word (w.Name (role.Procedure arity.Dyadic) n) p ∷ k)
spell_C (behind d x) k = spell_C d (spell_P x k)
spell_C (in_paren d p) k = spell_C d (word w.Open p ∷ k)
spell_C (in_index d a p g) k = spell_C d (spell_O a (word w.OpenBracket p ∷ spell_G g k))
spell_C (in_owed d r p n pl g) k = spell_C d (word (w.Name r n) p ∷ (word w.OpenBracket pl ∷ spell_G g k))

abbrev out_G : G → List Step → List Step
out_G none_yet out = out
out_G (then_gap g p) out = out_G g out ++ s.Gap ∷ []
out_G (then_entry g e p) out = out_E e (out_G g out) ++ s.Entry ∷ []

abbrev ops_C : C → List Waiting
ops_C at_top = []
ops_C (on_branch p) = o.Apply (s.Branch p) ∷ []
ops_C (on_perform1 p n) = o.Apply (s.Perform1 p n) ∷ []
ops_C (on_perform2 a p n) = o.Apply (s.Perform2 p n) ∷ []
ops_C (behind d x) = o.Apply (step_P x) ∷ ops_C d
ops_C (in_paren d p) = o.Paren ∷ ops_C d
ops_C (in_index d a p g) = o.Bracket p (inner_of (target_O a)) ∷ ops_C d
ops_C (in_owed d r p n pl g) = o.Bracket pl i.Owed ∷ ops_C d

abbrev out_C : C → List Step
out_C at_top = []
out_C (on_branch p) = []
out_C (on_perform1 p n) = []
out_C (on_perform2 a p n) = out_O a []
out_C (behind d x) = out_P x (out_C d)
out_C (in_paren d p) = out_C d
out_C (in_index d a p g) = out_G g (out_O a (out_C d) ++ s.List ∷ [])
out_C (in_owed d r p n pl g) = out_G g ((out_C d ++ name_step r p n ∷ []) ++ s.List ∷ [])

-- a function that an axis may follow
data A : Type 0 where
  a_turn1 : (p : ℕ) → Axis → A
  a_reduce : (p : ℕ) → F → (ps : ℕ) → Stroke → Axis → A
  a_turn2 : O → (p : ℕ) → Axis → A
  a_copies : O → (p : ℕ) → Stroke → Axis → A

abbrev with_axis : A → X → P
with_axis (a_turn1 p c) x = pre (turn1 p c x)
with_axis (a_reduce p g ps k c) x = pre (reduce p g ps k c x)
with_axis (a_turn2 a p c) x = mid a (turn2 p c x)
with_axis (a_copies a p k c) x = mid a (copies p k c x)

abbrev along_A : A → Along
along_A (a_turn1 p c) = al.Turn1 p
along_A (a_reduce p g ps k c) = al.Reduce p (scalar_of g) k
along_A (a_turn2 a p c) = al.Turn2 p
along_A (a_copies a p k c) = al.Copies p k

abbrev axis_A : A → Axis
axis_A (a_turn1 p c) = c
axis_A (a_reduce p g ps k c) = c
axis_A (a_turn2 a p c) = c
axis_A (a_copies a p k c) = c

abbrev out_A : A → List Step → List Step
out_A (a_turn1 p c) out = out
out_A (a_reduce p g ps k c) out = out
out_A (a_turn2 a p c) out = out_O a out
out_A (a_copies a p k c) out = out_O a out

abbrev spell_A : A → List Word → List Word
spell_A (a_turn1 p c) k = word (w.Turn c) p ∷ k
spell_A (a_reduce p g ps j c) k = spell_F g p (word (w.Stroke j c) ps ∷ k)
spell_A (a_turn2 a p c) k = spell_O a (word (w.Turn c) p ∷ k)
spell_A (a_copies a p j c) k = spell_O a (word (w.Stroke j c) p ∷ k)

-- a state, explained by what was read
data Z : Type 0 where
  z_begin : Z
  z_proc0 : (p n : ℕ) → Z
  z_proc1 : (p n : ℕ) → Z
  z_want : C → Z
  z_start : C → Z
  z_after : C → O → Z
  z_must : C → Role → (p n pl : ℕ) → L → Z
  z_fun : C → (p n : ℕ) → Z
  z_dyadic : C → (p n : ℕ) → Z
  z_procedure : C → Arity → (p n : ℕ) → Z
  z_scalar : C → (p : ℕ) → ScalarFn → Z
  z_compare : C → (p : ℕ) → ScalarFn → Z
  z_scalar2 : C → O → (p : ℕ) → F → Z
  z_dot : C → O → (p : ℕ) → F → (pd : ℕ) → Z
  z_jot : C → O → (p : ℕ) → Z
  z_jot_dot : C → O → (p pd : ℕ) → Z
  z_along : C → A → Z
  z_axis : C → A → (pl : ℕ) → Z
  z_axed : C → A → (pl pn : ℕ) → ℤ → Z
  z_quad : C → (p : ℕ) → Z

abbrev spell_Z : Z → List Word → List Word
spell_Z z_begin k = k
spell_Z (z_proc0 p n) k = word (w.Name (role.Procedure arity.Niladic) n) p ∷ k
spell_Z (z_proc1 p n) k = word (w.Name (role.Procedure arity.Monadic) n) p ∷ k
spell_Z (z_want d) k = spell_C d k
spell_Z (z_start d) k = spell_C d k
spell_Z (z_after d a) k = spell_C d (spell_O a k)
spell_Z (z_must d r p n pl l) k = spell_C d (word (w.Name r n) p ∷ (word w.OpenBracket pl ∷ spell_L l k))
spell_Z (z_fun d p n) k = spell_C d (word (w.Name (role.Function arity.Monadic) n) p ∷ k)
spell_Z (z_dyadic d p n) k = spell_C d (word (w.Name (role.Function arity.Dyadic) n) p ∷ k)
spell_Z (z_procedure d a p n) k = spell_C d (word (w.Name (role.Procedure a) n) p ∷ k)
spell_Z (z_scalar d p g) k = spell_C d (word (w.Arith g) p ∷ k)
spell_Z (z_compare d p g) k = spell_C d (word (w.Compare g) p ∷ k)
spell_Z (z_scalar2 d a p g) k = spell_C d (spell_O a (spell_F g p k))
spell_Z (z_dot d a p g pd) k = spell_C d (spell_O a (spell_F g p (word w.Dot pd ∷ k)))
spell_Z (z_jot d a p) k = spell_C d (spell_O a (word w.Jot p ∷ k))
spell_Z (z_jot_dot d a p pd) k = spell_C d (spell_O a (word w.Jot p ∷ (word w.Dot pd ∷ k)))
spell_Z (z_along d y) k = spell_C d (spell_A y k)
spell_Z (z_axis d y pl) k = spell_C d (spell_A y (word w.OpenBracket pl ∷ k))
spell_Z (z_axed d y pl pn v) k = spell_C d (spell_A y (word w.OpenBracket pl ∷ (word (w.Number v) pn ∷ k)))
spell_Z (z_quad d p) k = spell_C d (word w.Quad p ∷ k)

abbrev image : Z → State
image z_begin = state m.Begin [] []
image (z_proc0 p n) = state (m.Proc0 p n) [] []
image (z_proc1 p n) = state (m.Proc1 p n) [] []
image (z_want d) = state m.Want (ops_C d) (out_C d)
image (z_start d) = state m.Start (ops_C d) (out_C d)
image (z_after d a) = state (m.After (target_O a)) (ops_C d) (out_O a (out_C d))
image (z_must d r p n pl l) = state m.Must (ops_C d) (out_L l pl ((out_C d ++ name_step r p n ∷ []) ++ s.List ∷ []))
image (z_fun d p n) = state (m.Fun p n) (ops_C d) (out_C d)
image (z_dyadic d p n) = state (m.Only p n) (ops_C d) (out_C d)
image (z_procedure d a p n) = state (m.Only p n) (ops_C d) (out_C d)
image (z_scalar d p g) = state (m.Scalar p g) (ops_C d) (out_C d)
image (z_compare d p g) = state (m.Compare p g) (ops_C d) (out_C d)
image (z_scalar2 d a p g) = state (m.Scalar2 p (scalar_of g)) (ops_C d) (out_O a (out_C d))
image (z_dot d a p g pd) = state (m.Dot p (scalar_of g)) (ops_C d) (out_O a (out_C d))
image (z_jot d a p) = state (m.Jot p) (ops_C d) (out_O a (out_C d))
image (z_jot_dot d a p pd) = state (m.JotDot p) (ops_C d) (out_O a (out_C d))
image (z_along d y) = state (m.Along (along_A y) (axis_A y)) (ops_C d) (out_A y (out_C d))
image (z_axis d y pl) = state (m.Axis (along_A y)) (ops_C d) (out_A y (out_C d))
image (z_axed d y pl pn v) = state (m.Axed (along_A y) v) (ops_C d) (out_A y (out_C d))
image (z_quad d p) = state (m.Quad p) (ops_C d) (out_C d)

-- the state that a step leads to is explained by what was read with it
abbrev Shows : Option State → (List Word → List Word) → Type 0
Shows None f = Unit {0}
Shows (Some st) f = (z : Z) × (st ≡ image z) × ((k : List Word) → f k ≡ spell_Z z k)

retell : (st : Option State) (f g : List Word → List Word) → ((k : List Word) → f k ≡ g k) → Shows st g → Shows st f
retell None f g e h = tt
retell (Some st) f g e h = (h.0, h.1, λ k. e k ∙ h.2 k)

-- ---- Lists that grow at their end

snoc : N → ℕ → ℤ → N
snoc no_number q u = number q u no_number
snoc (number p v ns) q u = number p v (snoc ns q u)

snoc_spell : (ns : N) (q : ℕ) (u : ℤ) (k : List Word) → spell_N ns (word (w.Number u) q ∷ k) ≡ spell_N (snoc ns q u) k
unfolding snoc
snoc_spell no_number q u k = refl
snoc_spell (number p v ns) q u k = ap (λ (x : List Word). word (w.Number v) p ∷ x) (snoc_spell ns q u k)

snoc_out : (ns : N) (q : ℕ) (u : ℤ) (out : List Step) → out_N ns out ++ s.More u ∷ [] ≡ out_N (snoc ns q u) out
unfolding snoc
snoc_out no_number q u out = refl
snoc_out (number p v ns) q u out = snoc_out ns q u (out ++ s.More v ∷ [])

-- a list of entries, from its front
filled : G → L → L
filled none_yet l = l
filled (then_gap g p) l = filled g (gap p l)
filled (then_entry g e p) l = filled g (entry e p l)

filled_spell : (g : G) (l : L) (k : List Word) → spell_G g (spell_L l k) ≡ spell_L (filled g l) k
unfolding filled
filled_spell none_yet l k = refl
filled_spell (then_gap g p) l k = filled_spell g (gap p l) k
filled_spell (then_entry g e p) l k = filled_spell g (entry e p l) k

filled_out : (g : G) (l : L) (pl : ℕ) (out : List Step) → out_L l pl (out_G g out) ≡ out_L (filled g l) pl out
unfolding filled
filled_out none_yet l pl out = refl
filled_out (then_gap g p) l pl out = filled_out g (gap p l) pl out
filled_out (then_entry g e p) l pl out = filled_out g (entry e p l) pl out

-- ---- A value with all that stands before it, down to the innermost bracket

record Unwound : Type 0 where
  around : C
  exp : E

abbrev unwind : C → E → Unwound
unwind (behind d x) e = unwind d (prefixed x e)
unwind at_top e = record { around = at_top; exp = e }
unwind (on_branch p) e = record { around = on_branch p; exp = e }
unwind (on_perform1 p n) e = record { around = on_perform1 p n; exp = e }
unwind (on_perform2 a p n) e = record { around = on_perform2 a p n; exp = e }
unwind (in_paren d p) e = record { around = in_paren d p; exp = e }
unwind (in_index d a p g) e = record { around = in_index d a p g; exp = e }
unwind (in_owed d r p n pl g) e = record { around = in_owed d r p n pl g; exp = e }

-- what waits and what was sent out, when a value ends there
abbrev ended : C → E → List Waiting × List Step
ended at_top e = ([], out_E e [])
ended (on_branch p) e = ([], out_E e [] ++ s.Branch p ∷ [])
ended (on_perform1 p n) e = ([], out_E e [] ++ s.Perform1 p n ∷ [])
ended (on_perform2 a p n) e = ([], out_E e (out_O a []) ++ s.Perform2 p n ∷ [])
ended d e = (ops_C d, out_E e (out_C d))

unwind_spell : (d : C) (e : E) (k : List Word) → spell_C d (spell_E e k) ≡ spell_C (unwind d e).around (spell_E (unwind d e).exp k)
unwind_spell (behind d x) e k = ap (spell_C d) (prefixed_spell x e k) ∙ unwind_spell d (prefixed x e) k
unwind_spell at_top e k = refl
unwind_spell (on_branch p) e k = refl
unwind_spell (on_perform1 p n) e k = refl
unwind_spell (on_perform2 a p n) e k = refl
unwind_spell (in_paren d p) e k = refl
unwind_spell (in_index d a p g) e k = refl
unwind_spell (in_owed d r p n pl g) e k = refl

unwind_flush : (d : C) (e : E) → flush (ops_C d) (out_E e (out_C d)) ≡ ended (unwind d e).around (unwind d e).exp
unwind_flush (behind d x) e = ap (flush (ops_C d)) (prefixed_out x e (out_C d)) ∙ unwind_flush d (prefixed x e)
unwind_flush at_top e = refl
unwind_flush (on_branch p) e = refl
unwind_flush (on_perform1 p n) e = refl
unwind_flush (on_perform2 a p n) e = refl
unwind_flush (in_paren d p) e = refl
unwind_flush (in_index d a p g) e = refl
unwind_flush (in_owed d r p n pl g) e = refl

-- ---- One word more

show_want : (d : C) (x : WordKind) (p : ℕ) → Shows (want x p (ops_C d) (out_C d)) (λ k. spell_C d (word x p ∷ k))
show_want d (w.Number v) p = (z_after d (simple (numbers p v no_number)), refl, λ k. refl)
show_want d (w.Text to) p = (z_after d (simple (literal p to)), refl, λ k. refl)
show_want d w.TextInput p = (z_after d (simple (text_input p)), refl, λ k. refl)
show_want d w.NumsInput p = (z_after d (simple (nums_input p)), refl, λ k. refl)
show_want d (w.Name role.Variable n) p = (z_after d (simple (variable p n)), refl, λ k. refl)
show_want d (w.Name (role.Function arity.Niladic) n) p = (z_after d (simple (call0 p n)), refl, λ k. refl)
show_want d (w.Name (role.Function arity.Monadic) n) p = (z_fun d p n, refl, λ k. refl)
show_want d (w.Name (role.Function arity.Dyadic) n) p = (z_dyadic d p n, refl, λ k. refl)
show_want d (w.Name (role.Procedure a) n) p = (z_procedure d a p n, refl, λ k. refl)
show_want d (w.Arith g) p = (z_scalar d p g, refl, λ k. refl)
show_want d (w.Compare g) p = (z_compare d p g, refl, λ k. refl)
show_want d w.Not p = (z_want (behind d (pre (not1 p))), refl, λ k. refl)
show_want d (w.Both g) p = (z_want (behind d (pre (both1 p g))), refl, λ k. refl)
show_want d (w.Turn a) p = (z_along d (a_turn1 p a), refl, λ k. refl)
show_want d w.Open p = (z_want (in_paren d p), refl, λ k. refl)
show_want d w.Quad p = (z_quad d p, refl, λ k. refl)
show_want d _ p = tt

show_begin : (x : WordKind) (p : ℕ) → Shows (begin x p [] []) (λ k. word x p ∷ k)
show_begin w.Branch p = (z_want (on_branch p), refl, λ k. refl)
show_begin (w.Name (role.Procedure arity.Niladic) n) p = (z_proc0 p n, refl, λ k. refl)
show_begin (w.Name (role.Procedure arity.Monadic) n) p = (z_proc1 p n, refl, λ k. refl)
show_begin x p = show_want at_top x p

show_paren : (d : C) (e : E) (p : ℕ) → Shows (close_paren (ended d e)) (λ k. spell_C d (spell_E e (word w.Close p ∷ k)))
show_paren (in_paren d q) e p = (z_after d (paren q e p), refl, λ k. refl)
show_paren _ e p = tt

-- at a `]`: what the entries are
show_list : (d : C) (l : L) (y : Step) (out : List Step) (f : List Word → List Word) → ((pl : ℕ) → (out ++ y ∷ []) ++ s.Index pl ∷ [] ≡ out_L l pl (out_C d)) → ((k : List Word) → f k ≡ spell_C d (spell_L l k)) → Shows (close_bracket y (ops_C d, out)) f
show_list (in_index d a p g) l y out f e h = (
  z_after d (index a p (filled g l)),
  ap (λ (us : List Step). state (outer_mode (inner_of (target_O a))) (ops_C d) us) (e p ∙ filled_out g l p _) ∙ ap (λ (mode : Mode). state mode (ops_C d) (out_L (filled g l) p (out_O a (out_C d) ++ s.List ∷ []))) (outer_inner (target_O a)),
  λ k. h k ∙ ap (λ (us : List Word). spell_C d (spell_O a (word w.OpenBracket p ∷ us))) (filled_spell g l k),
)
show_list (in_owed d r p n pl g) l y out f e h = (
  z_must d r p n pl (filled g l),
  ap (λ (us : List Step). state m.Must (ops_C d) us) (e pl ∙ filled_out g l pl _),
  λ k. h k ∙ ap (λ (us : List Word). spell_C d (word (w.Name r n) p ∷ (word w.OpenBracket pl ∷ us))) (filled_spell g l k),
)
show_list at_top l y out f e h = tt
show_list (on_branch p) l y out f e h = tt
show_list (on_perform1 p n) l y out f e h = tt
show_list (on_perform2 a p n) l y out f e h = tt
show_list (behind d x) l y out f e h = tt
show_list (in_paren d p) l y out f e h = tt

show_last : (d : C) (e : E) (q : ℕ) → Shows (close_bracket s.Entry (ended d e)) (λ k. spell_C d (spell_E e (word w.CloseBracket q ∷ k)))
show_last (in_index d a p g) e q = show_list (in_index d a p g) (last_entry e q) s.Entry (out_E e (out_C (in_index d a p g))) _ (λ pl. refl) (λ k. refl)
show_last (in_owed d r p n pl g) e q = show_list (in_owed d r p n pl g) (last_entry e q) s.Entry (out_E e (out_C (in_owed d r p n pl g))) _ (λ pl. refl) (λ k. refl)
show_last _ e q = tt

show_entry : (d : C) (e : E) (q : ℕ) → Shows (next_entry s.Entry (ended d e)) (λ k. spell_C d (spell_E e (word w.Semicolon q ∷ k)))
show_entry (in_index d a p g) e q = (z_start (in_index d a p (then_entry g e q)), refl, λ k. refl)
show_entry (in_owed d r p n pl g) e q = (z_start (in_owed d r p n pl (then_entry g e q)), refl, λ k. refl)
show_entry _ e q = tt

show_gap : (d : C) (q : ℕ) → Shows (next_entry s.Gap (ops_C d, out_C d)) (λ k. spell_C d (word w.Semicolon q ∷ k))
show_gap (in_index d a p g) q = (z_start (in_index d a p (then_gap g q)), refl, λ k. refl)
show_gap (in_owed d r p n pl g) q = (z_start (in_owed d r p n pl (then_gap g q)), refl, λ k. refl)
show_gap _ q = tt

show_start : (d : C) (x : WordKind) (p : ℕ) → Shows (start x p (ops_C d) (out_C d)) (λ k. spell_C d (word x p ∷ k))
show_start d w.Semicolon p = show_gap d p
show_start d w.CloseBracket p = show_list d (last_gap p) s.Gap (out_C d) _ (λ pl. refl) (λ k. refl)
show_start d x p = show_want d x p

more_indexed : (tg : Target) (v : ℤ) (ops : List Waiting) (out : List Step) → more (indexed tg) v ops out ≡ None
more_indexed t.No v ops out = refl
more_indexed t.Numbers v ops out = refl
more_indexed t.Name v ops out = refl
more_indexed t.At v ops out = refl

arrow_twice : (tg : Target) (ops : List Waiting) (out : List Step) → arrow (indexed (indexed tg)) ops out ≡ None
arrow_twice t.No ops out = refl
arrow_twice t.Numbers ops out = refl
arrow_twice t.Name ops out = refl
arrow_twice t.At ops out = refl

shows_none : (st : Option State) (f : List Word → List Word) → st ≡ None → Shows st f
shows_none None f h = tt
shows_none (Some st) f h = let b : ⊥ = cc in absurd b

show_more : (d : C) (a : O) (v : ℤ) (q : ℕ) → Shows (more (target_O a) v (ops_C d) (out_O a (out_C d))) (λ k. spell_C d (spell_O a (word (w.Number v) q ∷ k)))
show_more d (simple (numbers p u ns)) v q = (
  z_after d (simple (numbers p u (snoc ns q v))),
  ap (λ (us : List Step). state (m.After t.Numbers) (ops_C d) us) (snoc_out ns q v _),
  λ k. ap (λ (us : List Word). spell_C d (word (w.Number u) p ∷ us)) (snoc_spell ns q v k),
)
show_more d (simple (literal p to)) v q = tt
show_more d (simple (variable p n)) v q = tt
show_more d (simple (call0 p n)) v q = tt
show_more d (simple (text_input p)) v q = tt
show_more d (simple (nums_input p)) v q = tt
show_more d (paren p e r) v q = tt
show_more d (index a p l) v q = shows_none _ _ (more_indexed (target_O a) v (ops_C d) (out_O (index a p l) (out_C d)))

show_arrow : (d : C) (a : O) (q : ℕ) → Shows (arrow (target_O a) (ops_C d) (out_O a (out_C d))) (λ k. spell_C d (spell_O a (word w.Assign q ∷ k)))
show_arrow d (simple (numbers p u ns)) q = tt
show_arrow d (simple (literal p to)) q = tt
show_arrow d (simple (variable p n)) q = (z_want (behind d (put role.Variable p n q)), refl, λ k. refl)
show_arrow d (simple (call0 p n)) q = (z_want (behind d (put (role.Function arity.Niladic) p n q)), refl, λ k. refl)
show_arrow d (simple (text_input p)) q = tt
show_arrow d (simple (nums_input p)) q = tt
show_arrow d (paren p e r) q = tt
show_arrow d (index (simple (numbers p u ns)) pl l) q = tt
show_arrow d (index (simple (literal p to)) pl l) q = tt
show_arrow d (index (simple (variable p n)) pl l) q = (z_want (behind d (put_at role.Variable p n pl l q)), refl, λ k. refl)
show_arrow d (index (simple (call0 p n)) pl l) q = (z_want (behind d (put_at (role.Function arity.Niladic) p n pl l q)), refl, λ k. refl)
show_arrow d (index (simple (text_input p)) pl l) q = tt
show_arrow d (index (simple (nums_input p)) pl l) q = tt
show_arrow d (index (paren p e r) pl l) q = tt
show_arrow d (index (index a p l1) pl l) q = shows_none _ _ (arrow_twice (target_O a) (ops_C d) (out_O (index (index a p l1) pl l) (out_C d)))

show_perform : (d : C) (a : O) (p n : ℕ) → Shows (perform p n (ops_C d) (out_O a (out_C d))) (λ k. spell_C d (spell_O a (word (w.Name (role.Procedure arity.Dyadic) n) p ∷ k)))
show_perform at_top a p n = (z_want (on_perform2 a p n), refl, λ k. refl)
show_perform (on_branch q) a p n = tt
show_perform (on_perform1 q r) a p n = tt
show_perform (on_perform2 b q r) a p n = tt
show_perform (behind d x) a p n = tt
show_perform (in_paren d q) a p n = tt
show_perform (in_index d b q g) a p n = tt
show_perform (in_owed d r q c pl g) a p n = tt

show_after : (d : C) (a : O) (x : WordKind) (p : ℕ) → Shows (after x p (target_O a) (ops_C d) (out_O a (out_C d))) (λ k. spell_C d (spell_O a (word x p ∷ k)))
show_after d a (w.Number v) p = show_more d a v p
show_after d a (w.Arith g) p = (z_scalar2 d a p (arith_fn g), refl, λ k. refl)
show_after d a (w.Compare g) p = (z_scalar2 d a p (compare_fn g), refl, λ k. refl)
show_after d a (w.Both g) p = (z_want (behind d (mid a (both2 p g))), refl, λ k. refl)
show_after d a (w.Dyadic g) p = (z_want (behind d (mid a (dyadic2 p g))), refl, λ k. refl)
show_after d a (w.Turn c) p = (z_along d (a_turn2 a p c), refl, λ k. refl)
show_after d a (w.Stroke j c) p = (z_along d (a_copies a p j c), refl, λ k. refl)
show_after d a w.Jot p = (z_jot d a p, refl, λ k. refl)
show_after d a (w.Name (role.Function arity.Dyadic) n) p = (z_want (behind d (mid a (call2 p n))), refl, λ k. refl)
show_after d a (w.Name (role.Procedure arity.Dyadic) n) p = show_perform d a p n
show_after d a w.OpenBracket p = (z_start (in_index d a p none_yet), refl, λ k. refl)
show_after d a w.Assign p = show_arrow d a p
show_after d a w.Close p = let u = unwind d (operand a) in
    subst (λ (y : List Waiting × List Step). Shows (close_paren y) (λ k. spell_C d (spell_O a (word w.Close p ∷ k)))) (sym (unwind_flush d (operand a)))
    (retell _ _ _ (λ k. unwind_spell d (operand a) (word w.Close p ∷ k)) (show_paren u.around u.exp p))
show_after d a w.CloseBracket p = let u = unwind d (operand a) in
    subst (λ (y : List Waiting × List Step). Shows (close_bracket s.Entry y) (λ k. spell_C d (spell_O a (word w.CloseBracket p ∷ k)))) (sym (unwind_flush d (operand a)))
    (retell _ _ _ (λ k. unwind_spell d (operand a) (word w.CloseBracket p ∷ k)) (show_last u.around u.exp p))
show_after d a w.Semicolon p = let u = unwind d (operand a) in
    subst (λ (y : List Waiting × List Step). Shows (next_entry s.Entry y) (λ k. spell_C d (spell_O a (word w.Semicolon p ∷ k)))) (sym (unwind_flush d (operand a)))
    (retell _ _ _ (λ k. unwind_spell d (operand a) (word w.Semicolon p ∷ k)) (show_entry u.around u.exp p))
show_after d a _ p = tt

show_must : (d : C) (r : Role) (p n pl : ℕ) (l : L) (x : WordKind) (q : ℕ) → Shows (must x (ops_C d) (out_L l pl ((out_C d ++ name_step r p n ∷ []) ++ s.List ∷ []))) (λ k. spell_Z (z_must d r p n pl l) (word x q ∷ k))
show_must d r p n pl l w.Assign q = (z_want (behind d (put_at r p n pl l q)), refl, λ k. refl)
show_must d r p n pl l _ q = tt

show_fun : (d : C) (p n : ℕ) (x : WordKind) (q : ℕ) → Shows (applied (s.Call1 p n) x q p n (ops_C d) (out_C d)) (λ k. spell_Z (z_fun d p n) (word x q ∷ k))
show_fun d p n w.Assign q = (z_want (behind d (put (role.Function arity.Monadic) p n q)), refl, λ k. refl)
show_fun d p n w.OpenBracket q = (z_start (in_owed d (role.Function arity.Monadic) p n q none_yet), refl, λ k. refl)
show_fun d p n x q = show_want (behind d (pre (call1 p n))) x q

show_dyadic : (d : C) (p n : ℕ) (x : WordKind) (q : ℕ) → Shows (only x q p n (ops_C d) (out_C d)) (λ k. spell_Z (z_dyadic d p n) (word x q ∷ k))
show_dyadic d p n w.Assign q = (z_want (behind d (put (role.Function arity.Dyadic) p n q)), refl, λ k. refl)
show_dyadic d p n w.OpenBracket q = (z_start (in_owed d (role.Function arity.Dyadic) p n q none_yet), refl, λ k. refl)
show_dyadic d p n _ q = tt

show_procedure : (d : C) (a : Arity) (p n : ℕ) (x : WordKind) (q : ℕ) → Shows (only x q p n (ops_C d) (out_C d)) (λ k. spell_Z (z_procedure d a p n) (word x q ∷ k))
show_procedure d a p n w.Assign q = (z_want (behind d (put (role.Procedure a) p n q)), refl, λ k. refl)
show_procedure d a p n w.OpenBracket q = (z_start (in_owed d (role.Procedure a) p n q none_yet), refl, λ k. refl)
show_procedure d a p n _ q = tt

show_proc1 : (p n : ℕ) (x : WordKind) (q : ℕ) → Shows (applied (s.Perform1 p n) x q p n [] []) (λ k. spell_Z (z_proc1 p n) (word x q ∷ k))
show_proc1 p n w.Assign q = (z_want (behind at_top (put (role.Procedure arity.Monadic) p n q)), refl, λ k. refl)
show_proc1 p n w.OpenBracket q = (z_start (in_owed at_top (role.Procedure arity.Monadic) p n q none_yet), refl, λ k. refl)
show_proc1 p n x q = show_want (on_perform1 p n) x q

show_scalar : (d : C) (p : ℕ) (g : ScalarFn) (x : WordKind) (q : ℕ) → Shows (scalar x q p g (ops_C d) (out_C d)) (λ k. spell_Z (z_scalar d p g) (word x q ∷ k))
show_scalar d p g (w.Stroke j c) q = (z_along d (a_reduce p (arith_fn g) q j c), refl, λ k. refl)
show_scalar d p g x q = show_want (behind d (pre (arith1 p g))) x q

show_compare : (d : C) (p : ℕ) (g : ScalarFn) (x : WordKind) (q : ℕ) → Shows (stroked x p g (ops_C d) (out_C d)) (λ k. spell_Z (z_compare d p g) (word x q ∷ k))
show_compare d p g (w.Stroke j c) q = (z_along d (a_reduce p (compare_fn g) q j c), refl, λ k. refl)
show_compare d p g _ q = tt

show_scalar2 : (d : C) (a : O) (p : ℕ) (g : F) (x : WordKind) (q : ℕ) → Shows (dotted x q p (scalar_of g) (ops_C d) (out_O a (out_C d))) (λ k. spell_Z (z_scalar2 d a p g) (word x q ∷ k))
show_scalar2 d a p g w.Dot q = (z_dot d a p g q, refl, λ k. refl)
show_scalar2 d a p g x q = show_want (behind d (mid a (scalar2 p g))) x q

show_dot : (d : C) (a : O) (p : ℕ) (g : F) (pd : ℕ) (x : WordKind) (q : ℕ) → Shows (product x p (scalar_of g) (ops_C d) (out_O a (out_C d))) (λ k. spell_Z (z_dot d a p g pd) (word x q ∷ k))
show_dot d a p g pd (w.Arith h) q = (z_want (behind d (mid a (inner p g pd q (arith_fn h)))), refl, λ k. refl)
show_dot d a p g pd (w.Compare h) q = (z_want (behind d (mid a (inner p g pd q (compare_fn h)))), refl, λ k. refl)
show_dot d a p g pd _ q = tt

show_jot : (d : C) (a : O) (p : ℕ) (x : WordKind) (q : ℕ) → Shows (jot x p (ops_C d) (out_O a (out_C d))) (λ k. spell_Z (z_jot d a p) (word x q ∷ k))
show_jot d a p w.Dot q = (z_jot_dot d a p q, refl, λ k. refl)
show_jot d a p _ q = tt

show_jot_dot : (d : C) (a : O) (p pd : ℕ) (x : WordKind) (q : ℕ) → Shows (pairs x p (ops_C d) (out_O a (out_C d))) (λ k. spell_Z (z_jot_dot d a p pd) (word x q ∷ k))
show_jot_dot d a p pd (w.Arith g) q = (z_want (behind d (mid a (outer p pd q (arith_fn g)))), refl, λ k. refl)
show_jot_dot d a p pd (w.Compare g) q = (z_want (behind d (mid a (outer p pd q (compare_fn g)))), refl, λ k. refl)
show_jot_dot d a p pd _ q = tt

-- without an axis a function has its own
show_bare : (d : C) (y : A) (x : WordKind) (q : ℕ) → Shows (want x q (o.Apply (along (along_A y) (axis_A y)) ∷ ops_C d) (out_A y (out_C d))) (λ k. spell_C d (spell_A y (word x q ∷ k)))
show_bare d (a_turn1 p c) x q = show_want (behind d (pre (turn1 p c no_axis))) x q
show_bare d (a_reduce p g ps j c) x q = show_want (behind d (pre (reduce p g ps j c no_axis))) x q
show_bare d (a_turn2 a p c) x q = show_want (behind d (mid a (turn2 p c no_axis))) x q
show_bare d (a_copies a p j c) x q = show_want (behind d (mid a (copies p j c no_axis))) x q

show_along : (d : C) (y : A) (x : WordKind) (q : ℕ) → Shows (named_axis x q (along_A y) (axis_A y) (ops_C d) (out_A y (out_C d))) (λ k. spell_Z (z_along d y) (word x q ∷ k))
show_along d y w.OpenBracket q = (z_axis d y q, refl, λ k. refl)
show_along d y x q = show_bare d y x q

show_axis : (d : C) (y : A) (pl : ℕ) (x : WordKind) (q : ℕ) → Shows (axis_number x (along_A y) (ops_C d) (out_A y (out_C d))) (λ k. spell_Z (z_axis d y pl) (word x q ∷ k))
show_axis d y pl (w.Number v) q = (z_axed d y pl q v, refl, λ k. refl)
show_axis d y pl _ q = tt

show_axed : (d : C) (y : A) (pl pn : ℕ) (v : ℤ) (x : WordKind) (q : ℕ) → Shows (axis_end x (along_A y) v (ops_C d) (out_A y (out_C d))) (λ k. spell_Z (z_axed d y pl pn v) (word x q ∷ k))
show_axed d (a_turn1 p c) pl pn v w.CloseBracket q = (z_want (behind d (pre (turn1 p c (axis pl pn q v)))), refl, λ k. refl)
show_axed d (a_reduce p g ps j c) pl pn v w.CloseBracket q = (z_want (behind d (pre (reduce p g ps j c (axis pl pn q v)))), refl, λ k. refl)
show_axed d (a_turn2 a p c) pl pn v w.CloseBracket q = (z_want (behind d (mid a (turn2 p c (axis pl pn q v)))), refl, λ k. refl)
show_axed d (a_copies a p j c) pl pn v w.CloseBracket q = (z_want (behind d (mid a (copies p j c (axis pl pn q v)))), refl, λ k. refl)
show_axed d y pl pn v _ q = tt

show_quad : (d : C) (p : ℕ) (x : WordKind) (q : ℕ) → Shows (quad x p (ops_C d) (out_C d)) (λ k. spell_Z (z_quad d p) (word x q ∷ k))
show_quad d p w.Assign q = (z_want (behind d (see p q)), refl, λ k. refl)
show_quad d p _ q = tt

show_step : (z : Z) (x : Word) → Shows (step_of x (image z)) (λ k. spell_Z z (x ∷ k))
show_step z_begin x = show_begin x.kind x.place
show_step (z_proc0 p n) x = show_procedure at_top arity.Niladic p n x.kind x.place
show_step (z_proc1 p n) x = show_proc1 p n x.kind x.place
show_step (z_want d) x = show_want d x.kind x.place
show_step (z_start d) x = show_start d x.kind x.place
show_step (z_after d a) x = show_after d a x.kind x.place
show_step (z_must d r p n pl l) x = show_must d r p n pl l x.kind x.place
show_step (z_fun d p n) x = show_fun d p n x.kind x.place
show_step (z_dyadic d p n) x = show_dyadic d p n x.kind x.place
show_step (z_procedure d a p n) x = show_procedure d a p n x.kind x.place
show_step (z_scalar d p g) x = show_scalar d p g x.kind x.place
show_step (z_compare d p g) x = show_compare d p g x.kind x.place
show_step (z_scalar2 d a p g) x = show_scalar2 d a p g x.kind x.place
show_step (z_dot d a p g pd) x = show_dot d a p g pd x.kind x.place
show_step (z_jot d a p) x = show_jot d a p x.kind x.place
show_step (z_jot_dot d a p pd) x = show_jot_dot d a p pd x.kind x.place
show_step (z_along d y) x = show_along d y x.kind x.place
show_step (z_axis d y pl) x = show_axis d y pl x.kind x.place
show_step (z_axed d y pl pn v) x = show_axed d y pl pn v x.kind x.place
show_step (z_quad d p) x = show_quad d p x.kind x.place

-- ---- The end

some_is : (xs ys : List Step) → Some xs ≡ Some ys → ys ≡ xs
some_is xs ys h = cc

whole_top : (d : C) (e : E) (r : List Step) → whole (ended d e) ≡ Some r → IsReading (spell_C d (spell_E e [])) r
whole_top at_top e r h = record { form = value e; spelled = refl; steps_are = some_is (out_E e []) r h }
whole_top (on_branch p) e r h = record { form = branch p e; spelled = refl; steps_are = some_is (out_E e [] ++ s.Branch p ∷ []) r h }
whole_top (on_perform1 p n) e r h = record { form = perform1 p n e; spelled = refl; steps_are = some_is (out_E e [] ++ s.Perform1 p n ∷ []) r h }
whole_top (on_perform2 a p n) e r h = record { form = perform2 a p n e; spelled = refl; steps_are = some_is (out_E e (out_O a []) ++ s.Perform2 p n ∷ []) r h }
whole_top (behind d x) e r h = cc
whole_top (in_paren d p) e r h = cc
whole_top (in_index d a p g) e r h = cc
whole_top (in_owed d q p n pl g) e r h = cc

finished : (z : Z) (r : List Step) → finish (image z) ≡ Some r → IsReading (spell_Z z []) r
finished (z_after d a) r h = let u = unwind d (operand a) in
    subst (λ (ws : List Word). IsReading ws r) (sym (unwind_spell d (operand a) [])) (whole_top u.around u.exp r (sym (ap whole (unwind_flush d (operand a))) ∙ h))
finished (z_proc0 p n) r h = record { form = perform0 p n; spelled = refl; steps_are = some_is (s.Perform0 p n ∷ []) r h }
finished z_begin r h = cc
finished (z_proc1 p n) r h = cc
finished (z_want d) r h = cc
finished (z_start d) r h = cc
finished (z_must d q p n pl l) r h = cc
finished (z_fun d p n) r h = cc
finished (z_dyadic d p n) r h = cc
finished (z_procedure d a p n) r h = cc
finished (z_scalar d p g) r h = cc
finished (z_compare d p g) r h = cc
finished (z_scalar2 d a p g) r h = cc
finished (z_dot d a p g pd) r h = cc
finished (z_jot d a p) r h = cc
finished (z_jot_dot d a p pd) r h = cc
finished (z_along d y) r h = cc
finished (z_axis d y pl) r h = cc
finished (z_axed d y pl pn v) r h = cc
finished (z_quad d p) r h = cc

mutual_step : (st : Option State) (f : List Word → List Word) (ws : List Word) (r : List Step) → Shows st f → option_and_then (run ws) st ≡ Some r
    → ((z : Z) → run ws (image z) ≡ Some r → IsReading (spell_Z z ws) r) → IsReading (f ws) r
mutual_step None f ws r sh h more_of = cc
mutual_step (Some st) f ws r sh h more_of = subst (λ (xs : List Word). IsReading xs r) (sym (sh.2 ws)) (more_of sh.0 (sym (ap (run ws) sh.1) ∙ h))

sound_from : (ws : List Word) (z : Z) (r : List Step) → run ws (image z) ≡ Some r → IsReading (spell_Z z ws) r
sound_from [] z r h = finished z r h
sound_from (x ∷ ws) z r h = mutual_step (step_of x (image z)) (λ k. spell_Z z (x ∷ k)) ws r (show_step z x) h (λ y. sound_from ws y r)

-- what is read is spelled by the grammar
pub sound : (ws : List Word) (r : List Step) → reads ws ≡ Some r → IsReading ws r
unfolding reads
sound ws r h = sound_from ws z_begin r h

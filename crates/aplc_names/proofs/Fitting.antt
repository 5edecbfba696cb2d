-- The tree of a statement of the grammar fits.
use Rattle.std.proofs.Common.{◌≡◌, ◌∙◌, ap, sym, refl, ℕ, List, [], ◌∷◌, Option, Some, None, Bool, true, false, ◌&&◌, ◌||◌}
use Rattle.std.specs.Str.{all_scalars}
use Rattle.aplc_scalar.specs.Scalar.{in_range}
use Rattle.aplc_scalar.specs.declared.function.ScalarFn.{ScalarFn}
use Rattle.aplc_scalar.specs.declared.function.ScalarFn.TheVariants as f
use Rattle.aplc_syntax.specs.declared.tree.Axis.{Axis}
use Rattle.aplc_syntax.specs.declared.tree.Primitive.{Primitive}
use Rattle.aplc_syntax.specs.declared.tree.Primitive.TheVariants as pr
use Rattle.aplc_syntax.specs.declared.tree.Node.{Node}
use Rattle.aplc_syntax.specs.declared.tree.Form.TheVariants as v
use Rattle.aplc_syntax.specs.declared.tree.Statement.TheVariants as st
use Rattle.aplc_syntax.specs.declared.word.Arity.TheVariants as arity
use Rattle.aplc_syntax.specs.declared.word.Role.{Role}
use Rattle.aplc_syntax.specs.declared.word.Stroke.{Stroke}
use Rattle.aplc_syntax.specs.declared.word.Stroke.TheVariants as stroke
use Rattle.aplc_syntax.specs.declared.word.Word.{Word}
use Rattle.aplc_syntax.specs.declared.word.WordKind.{WordKind}
use Rattle.aplc_syntax.specs.declared.word.WordKind.TheVariants as w
use Rattle.aplc_syntax.specs.Grammar.{F, arith_fn, compare_fn, X, no_axis, axis, M, arith1, not1, both1, turn1, reduce, call1, D, scalar2, both2, dyadic2, turn2, copies, outer, inner, call2, N, no_number, number, S, numbers, literal, variable, call0, text_input, nums_input, E, operand, before, between, assign, assign_at, show, O, simple, paren, index, L, last_gap, last_entry, gap, entry, Sentence, value, branch, perform0, perform1, perform2, spell, spell_F, spell_X, spell_M, spell_D, spell_N, spell_S, spell_E, spell_O, spell_L}
use Rattle.aplc_syntax.specs.Words.{text_between}
use Rattle.aplc_syntax.specs.Trees.{node, scalar_of, axis_of, reduction, copying, numbers_of, apply1, apply2, tree_S, tree_E, tree_O, trees_L, valued, statement_of}
use Rattle.aplc_syntax.specs.PlainTrees.{Tree, tree_of, trees_in}
use Rattle.aplc_names.specs.Fits.{is_arith, is_dyadic, is_monadic, axis_fits, all_in_range, takes_one, takes_two, is_variable, is_function, is_procedure, has_place, fits, all_fit, performs, is_quiet, statement_fits}
use Rattle.aplc_syntax.proofs.PlainForms.{numbers_node, text_node, name_node, text_input_node, nums_input_node, mono_node, dyad_node, index_node, assign_node, assign_at_node, show_node, call_node}

-- ---- Words

-- what a word of a statement may be, where r gives the roles of names
abbrev pub Sane : (ℕ → Role) → List ℕ → ℕ → WordKind → Type 0
Sane r text p (w.Arith g) = is_arith g ≡ true
Sane r text p (w.Compare g) = is_dyadic g ≡ true
Sane r text p (w.Both g) = (takes_one g ≡ true) × (takes_two g ≡ true)
Sane r text p (w.Dyadic g) = takes_two g ≡ true
Sane r text p (w.Turn a) = axis_fits a ≡ true
Sane r text p (w.Stroke s a) = axis_fits a ≡ true
Sane r text p (w.Number v) = in_range v ≡ true
Sane r text p (w.Text to) = all_scalars (text_between text p to) ≡ true
Sane r text p (w.Name q n) = q ≡ r n
Sane r text p _ = Unit {0}

abbrev pub AllSane : (ℕ → Role) → List ℕ → List Word → Type 0
AllSane r text [] = Unit {0}
AllSane r text (x ∷ xs) = Sane r text x.place x.kind × AllSane r text xs

-- ---- Small things

both : (a b : Bool) → a ≡ true → b ≡ true → (a && b) ≡ true
both true true d e = refl
both true false d e = cc
both false b d e = cc

second : (a b : Bool) → b ≡ true → (a || b) ≡ true
second true b e = refl
second false b e = e

arith_dyadic : (g : ScalarFn) → is_arith g ≡ true → is_dyadic g ≡ true
arith_dyadic f.Not e = cc
arith_dyadic _ e = refl

arith_monadic : (g : ScalarFn) → is_arith g ≡ true → is_monadic g ≡ true
arith_monadic f.Not e = refl
arith_monadic f.Add e = refl
arith_monadic f.Sub e = refl
arith_monadic f.Mul e = refl
arith_monadic f.Max e = refl
arith_monadic f.Min e = refl
arith_monadic f.Residue e = refl
arith_monadic _ e = e

-- ---- Nodes

-- a node fits
abbrev Fit : (ℕ → Role) → Node → Type 0
Fit r n = fits r (tree_of n) ≡ true

mono_fits : (r : ℕ → Role) (p : ℕ) (g : Primitive) (a : Node) → takes_one g ≡ true → Fit r a → Fit r (node p (v.Mono g a))
mono_fits r p g a d e = ap (fits r) (mono_node p g a) ∙ both (takes_one g) (fits r (tree_of a)) d e

dyad_fits : (r : ℕ → Role) (p : ℕ) (g : Primitive) (a b : Node) → takes_two g ≡ true → Fit r a → Fit r b → Fit r (node p (v.Dyad g a b))
dyad_fits r p g a b d e h = ap (fits r) (dyad_node p g a b) ∙ both (takes_two g) (fits r (tree_of a) && fits r (tree_of b)) d (both (fits r (tree_of a)) (fits r (tree_of b)) e h)

-- ---- Functions

fit_F : (r : ℕ → Role) (text : List ℕ) (x : F) (p : ℕ) (k : List Word) → AllSane r text (spell_F x p k) → (is_dyadic (scalar_of x) ≡ true) × AllSane r text k
fit_F r text (arith_fn g) p k h = (arith_dyadic g h.0, h.1)
fit_F r text (compare_fn g) p k h = (h.0, h.1)

fit_X : (r : ℕ → Role) (text : List ℕ) (a : Axis) (x : X) (k : List Word) → axis_fits a ≡ true → AllSane r text (spell_X x k) → (axis_fits (axis_of a x) ≡ true) × AllSane r text k
fit_X r text a no_axis k e h = (e, h)
fit_X r text a (axis pl pn pr y) k e h = (h.1.0, h.1.1.1)

reduced : (s : Stroke) (g : ScalarFn) (a : Axis) → is_dyadic g ≡ true → axis_fits a ≡ true → takes_one (reduction s g a) ≡ true
reduced stroke.Slash g a e h = both (is_dyadic g) (axis_fits a) e h
reduced stroke.Backslash g a e h = both (is_dyadic g) (axis_fits a) e h

copied : (s : Stroke) (a : Axis) → axis_fits a ≡ true → takes_two (copying s a) ≡ true
copied stroke.Slash a h = h
copied stroke.Backslash a h = h

fit_M : (r : ℕ → Role) (text : List ℕ) (m : M) (b : Node) (k : List Word) → AllSane r text (spell_M m k) → (Fit r b → Fit r (apply1 m b)) × AllSane r text k
fit_M r text (arith1 p g) b k h = (mono_fits r p (pr.Scalar g) b (arith_monadic g h.0), h.1)
fit_M r text (not1 p) b k h = (mono_fits r p (pr.Scalar f.Not) b refl, h.1)
fit_M r text (both1 p g) b k h = (mono_fits r p g b h.0.0, h.1)
fit_M r text (turn1 p a x) b k h = let i = fit_X r text a x k h.0 h.1 in (mono_fits r p (pr.Reverse (axis_of a x)) b i.0, i.1)
fit_M r text (reduce p g ps s a x) b k h =
    let i = fit_F r text g p _ h in
    let j = fit_X r text a x k i.1.0 i.1.1 in
    (mono_fits r p (reduction s (scalar_of g) (axis_of a x)) b (reduced s (scalar_of g) (axis_of a x) i.0 j.0), j.1)
fit_M r text (call1 p n) b k h =
    (λ e. ap (fits r) (call_node p n None (Some b)) ∙ both (is_function (Some arity.Monadic) (r n)) (fits r (tree_of b)) (ap (is_function (Some arity.Monadic)) (sym h.0)) e, h.1)

fit_D : (r : ℕ → Role) (text : List ℕ) (d : D) (a b : Node) (k : List Word) → AllSane r text (spell_D d k) → (Fit r a → Fit r b → Fit r (apply2 d a b)) × AllSane r text k
fit_D r text (scalar2 p g) a b k h = let i = fit_F r text g p k h in (dyad_fits r p (pr.Scalar (scalar_of g)) a b i.0, i.1)
fit_D r text (both2 p g) a b k h = (dyad_fits r p g a b h.0.1, h.1)
fit_D r text (dyadic2 p g) a b k h = (dyad_fits r p g a b h.0, h.1)
fit_D r text (turn2 p c x) a b k h = let i = fit_X r text c x k h.0 h.1 in (dyad_fits r p (pr.Reverse (axis_of c x)) a b i.0, i.1)
fit_D r text (copies p s c x) a b k h = let i = fit_X r text c x k h.0 h.1 in (dyad_fits r p (copying s (axis_of c x)) a b (copied s (axis_of c x) i.0), i.1)
fit_D r text (outer p pd pf g) a b k h = let i = fit_F r text g pf k h.1.1 in (dyad_fits r p (pr.Outer (scalar_of g)) a b i.0, i.1)
fit_D r text (inner p g pd ph j) a b k h =
    let i = fit_F r text g p _ h in let l = fit_F r text j ph k i.1.1 in
    (dyad_fits r p (pr.Inner (scalar_of g) (scalar_of j)) a b (both (is_dyadic (scalar_of g)) (is_dyadic (scalar_of j)) i.0 l.0), l.1)
fit_D r text (call2 p n) a b k h =
    (λ d e. ap (fits r) (call_node p n (Some a) (Some b)) ∙ both (is_function (Some arity.Dyadic) (r n)) (fits r (tree_of a) && fits r (tree_of b)) (ap (is_function (Some arity.Dyadic)) (sym h.0)) (both (fits r (tree_of a)) (fits r (tree_of b)) d e), h.1)

-- ---- Values

fit_N : (r : ℕ → Role) (text : List ℕ) (ns : N) (k : List Word) → AllSane r text (spell_N ns k) → (all_in_range (numbers_of ns) ≡ true) × AllSane r text k
fit_N r text no_number k h = (refl, h)
fit_N r text (number p x ns) k h = let i = fit_N r text ns k h.1 in (both (in_range x) (all_in_range (numbers_of ns)) h.0 i.0, i.1)

fit_S : (r : ℕ → Role) (text : List ℕ) (a : S) (k : List Word) → AllSane r text (spell_S a k) → Fit r (tree_S text a) × AllSane r text k
fit_S r text (numbers p x ns) k h =
    let i = fit_N r text ns k h.1 in
    (ap (fits r) (numbers_node p (x ∷ numbers_of ns)) ∙ both (in_range x) (all_in_range (numbers_of ns)) h.0 i.0, i.1)
fit_S r text (literal p to) k h = (ap (fits r) (text_node p (text_between text p to)) ∙ h.0, h.1)
fit_S r text (variable p n) k h = (ap (fits r) (name_node p n) ∙ ap is_variable (sym h.0), h.1)
fit_S r text (call0 p n) k h = (ap (fits r) (call_node p n None None) ∙ both (is_function (Some arity.Niladic) (r n)) true (ap (is_function (Some arity.Niladic)) (sym h.0)) refl, h.1)
fit_S r text (text_input p) k h = (ap (fits r) (text_input_node p), h.1)
fit_S r text (nums_input p) k h = (ap (fits r) (nums_input_node p), h.1)

abbrev FitAll : (ℕ → Role) → List (Option Node) → Type 0
FitAll r xs = all_fit r (trees_in xs) ≡ true

has_some : (text : List ℕ) (l : L) → has_place (trees_in (trees_L text l)) ≡ true
has_some text (last_gap p) = refl
has_some text (last_entry e p) = refl
has_some text (gap p l) = refl
has_some text (entry e p l) = refl

mutual
  fit_E : (r : ℕ → Role) (text : List ℕ) (x : E) (k : List Word) → AllSane r text (spell_E x k) → Fit r (tree_E text x) × AllSane r text k
  fit_E r text (operand a) k h = fit_O r text a k h
  fit_E r text (before m x) k h =
      let i = fit_M r text m (tree_E text x) (spell_E x k) h in let j = fit_E r text x k i.1 in (i.0 j.0, j.1)
  fit_E r text (between a d x) k h =
      let i = fit_O r text a (spell_D d (spell_E x k)) h in
      let j = fit_D r text d (tree_O text a) (tree_E text x) (spell_E x k) i.1 in
      let l = fit_E r text x k j.1 in
      (j.0 i.0 l.0, l.1)
  fit_E r text (assign q p n pa x) k h =
      let i = fit_E r text x k h.1.1 in (ap (fits r) (assign_node p n (tree_E text x)) ∙ i.0, i.1)
  fit_E r text (assign_at q p n pl l pa x) k h =
      let i = fit_L r text l _ h.1.1 in
      let j = fit_E r text x k i.1.1 in
      (ap (fits r) (assign_at_node p n (trees_L text l) (tree_E text x)) ∙ both (has_place (trees_in (trees_L text l))) (all_fit r (trees_in (trees_L text l)) && fits r (tree_of (tree_E text x))) (has_some text l) (both (all_fit r (trees_in (trees_L text l))) (fits r (tree_of (tree_E text x))) i.0 j.0), j.1)
  fit_E r text (show p pa x) k h =
      let i = fit_E r text x k h.1.1 in (ap (fits r) (show_node p (tree_E text x)) ∙ i.0, i.1)

  fit_O : (r : ℕ → Role) (text : List ℕ) (a : O) (k : List Word) → AllSane r text (spell_O a k) → Fit r (tree_O text a) × AllSane r text k
  fit_O r text (simple a) k h = fit_S r text a k h
  fit_O r text (paren p x q) k h = let i = fit_E r text x _ h.1 in (i.0, i.1.1)
  fit_O r text (index a p l) k h =
      let i = fit_O r text a _ h in
      let j = fit_L r text l k i.1.1 in
      (ap (fits r) (index_node p (tree_O text a) (trees_L text l)) ∙ both (has_place (trees_in (trees_L text l))) (fits r (tree_of (tree_O text a)) && all_fit r (trees_in (trees_L text l))) (has_some text l) (both (fits r (tree_of (tree_O text a))) (all_fit r (trees_in (trees_L text l))) i.0 j.0), j.1)

  fit_L : (r : ℕ → Role) (text : List ℕ) (l : L) (k : List Word) → AllSane r text (spell_L l k) → FitAll r (trees_L text l) × AllSane r text k
  fit_L r text (last_gap p) k h = (refl, h.1)
  fit_L r text (last_entry x p) k h = let i = fit_E r text x _ h in (both (fits r (tree_of (tree_E text x))) true i.0 refl, i.1.1)
  fit_L r text (gap p l) k h = fit_L r text l k h.1
  fit_L r text (entry x p l) k h =
      let i = fit_E r text x _ h in let j = fit_L r text l k i.1.1 in
      (both (fits r (tree_of (tree_E text x))) (all_fit r (trees_in (trees_L text l))) i.0 j.0, j.1)

-- ---- Statements

quiet_fits : (r : ℕ → Role) (n : Node) (x : Tree) → tree_of n ≡ x → is_quiet x ≡ true → Fit r n → statement_fits r (st.Quiet n) ≡ true
quiet_fits r n x e q h = second (performs r (tree_of n)) (is_quiet (tree_of n) && fits r (tree_of n)) (both (is_quiet (tree_of n)) (fits r (tree_of n)) (ap is_quiet e ∙ q) h)

first : (a b : Bool) → a ≡ true → (a || b) ≡ true
first true b e = refl
first false b e = cc

performed : (r : ℕ → Role) (n : Node) → performs r (tree_of n) ≡ true → statement_fits r (st.Quiet n) ≡ true
performed r n e = first (performs r (tree_of n)) (is_quiet (tree_of n) && fits r (tree_of n)) e

value_fits : (r : ℕ → Role) (text : List ℕ) (x : E) → Fit r (tree_E text x) → statement_fits r (valued x (tree_E text x)) ≡ true
value_fits r text (operand a) h = h
value_fits r text (before m x) h = h
value_fits r text (between a d x) h = h
value_fits r text (assign q p n pa x) h = quiet_fits r _ _ (assign_node p n (tree_E text x)) refl h
value_fits r text (assign_at q p n pl l pa x) h = quiet_fits r _ _ (assign_at_node p n (trees_L text l) (tree_E text x)) refl h
value_fits r text (show p pa x) h = quiet_fits r _ _ (show_node p (tree_E text x)) refl h

-- a statement of the grammar fits
pub statement_is_fit : (r : ℕ → Role) (text : List ℕ) (x : Sentence) → AllSane r text (spell x) → statement_fits r (statement_of text x) ≡ true
statement_is_fit r text (value x) h = value_fits r text x (fit_E r text x [] h).0
statement_is_fit r text (branch p x) h = (fit_E r text x [] h.1).0
statement_is_fit r text (perform0 p n) h = performed r _ (ap (performs r) (call_node p n None None) ∙ both (is_procedure (Some arity.Niladic) (r n)) true (ap (is_procedure (Some arity.Niladic)) (sym h.0)) refl)
statement_is_fit r text (perform1 p n x) h =
    let i = fit_E r text x [] h.1 in
    performed r _ (ap (performs r) (call_node p n None (Some (tree_E text x))) ∙ both (is_procedure (Some arity.Monadic) (r n)) (fits r (tree_of (tree_E text x))) (ap (is_procedure (Some arity.Monadic)) (sym h.0)) i.0)
statement_is_fit r text (perform2 a p n x) h =
    let i = fit_O r text a _ h in
    let j = fit_E r text x [] i.1.1 in
    performed r _ (ap (performs r) (call_node p n (Some (tree_O text a)) (Some (tree_E text x))) ∙ both (is_procedure (Some arity.Dyadic) (r n)) (fits r (tree_of (tree_O text a)) && fits r (tree_of (tree_E text x))) (ap (is_procedure (Some arity.Dyadic)) (sym i.1.0)) (both (fits r (tree_of (tree_O text a))) (fits r (tree_of (tree_E text x))) i.0 j.0))

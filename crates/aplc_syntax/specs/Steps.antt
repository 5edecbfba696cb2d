-- The steps of building that a form stands for, behind those that were sent out before it.
use Rattle.std.specs.Prelude.{ℕ, List, [], ◌∷◌, ◌++◌}
use Rattle.aplc_scalar.specs.declared.function.ScalarFn.TheVariants as f
use Rattle.aplc_syntax.specs.declared.tree.Primitive.TheVariants as pr
use Rattle.aplc_syntax.specs.declared.step.Step.{Step}
use Rattle.aplc_syntax.specs.declared.step.Step.TheVariants as s
use Rattle.aplc_syntax.specs.declared.step.Waiting.{Waiting}
use Rattle.aplc_syntax.specs.declared.step.Waiting.TheVariants as o
use Rattle.aplc_syntax.specs.declared.step.Target.{Target}
use Rattle.aplc_syntax.specs.declared.step.Target.TheVariants as t
use Rattle.aplc_syntax.specs.declared.word.Arity.TheVariants as arity
use Rattle.aplc_syntax.specs.declared.word.Role.{Role}
use Rattle.aplc_syntax.specs.declared.word.Role.TheVariants as role
use Rattle.aplc_syntax.specs.Grammar.{M, arith1, not1, both1, turn1, reduce, call1, D, scalar2, both2, dyadic2, turn2, copies, outer, inner, call2, N, no_number, number, S, numbers, literal, variable, call0, text_input, nums_input, E, operand, before, between, assign, assign_at, show, O, simple, paren, index, L, last_gap, last_entry, gap, entry, Sentence, value, branch, perform0, perform1, perform2}
use Rattle.aplc_syntax.specs.Trees.{scalar_of, axis_of, reduction, copying}

abbrev pub step_M : M → Step
step_M (arith1 p g) = s.Mono p (pr.Scalar g)
step_M (not1 p) = s.Mono p (pr.Scalar f.Not)
step_M (both1 p g) = s.Mono p g
step_M (turn1 p a x) = s.Mono p (pr.Reverse (axis_of a x))
step_M (reduce p g ps k a x) = s.Mono p (reduction k (scalar_of g) (axis_of a x))
step_M (call1 p n) = s.Call1 p n

abbrev pub step_D : D → Step
step_D (scalar2 p g) = s.Dyad p (pr.Scalar (scalar_of g))
step_D (both2 p g) = s.Dyad p g
step_D (dyadic2 p g) = s.Dyad p g
step_D (turn2 p a x) = s.Dyad p (pr.Reverse (axis_of a x))
step_D (copies p k a x) = s.Dyad p (copying k (axis_of a x))
step_D (outer p pd pf g) = s.Dyad p (pr.Outer (scalar_of g))
step_D (inner p g pd ph h) = s.Dyad p (pr.Inner (scalar_of g) (scalar_of h))
step_D (call2 p n) = s.Call2 p n

-- the step of a name that is assigned
abbrev pub name_step : Role → ℕ → ℕ → Step
name_step (role.Function arity.Niladic) p n = s.Call0 p n
name_step r p n = s.Name p n

abbrev pub out_N : N → List Step → List Step
out_N no_number out = out
out_N (number p x ns) out = out_N ns (out ++ s.More x ∷ [])

abbrev pub out_S : S → List Step → List Step
out_S (numbers p x ns) out = out_N ns (out ++ s.Number p x ∷ [])
out_S (literal p to) out = out ++ s.Text p to ∷ []
out_S (variable p n) out = out ++ s.Name p n ∷ []
out_S (call0 p n) out = out ++ s.Call0 p n ∷ []
out_S (text_input p) out = out ++ s.TextInput p ∷ []
out_S (nums_input p) out = out ++ s.NumsInput p ∷ []

abbrev mutual
  pub out_E : E → List Step → List Step
  out_E (operand a) out = out_O a out
  out_E (before m e) out = out_E e out ++ step_M m ∷ []
  out_E (between a d e) out = out_E e (out_O a out) ++ step_D d ∷ []
  out_E (assign r p n pa e) out = out_E e (out ++ name_step r p n ∷ []) ++ s.Assign ∷ []
  out_E (assign_at r p n pl l pa e) out = out_E e (out_L l pl ((out ++ name_step r p n ∷ []) ++ s.List ∷ [])) ++ s.AssignAt ∷ []
  out_E (show p pa e) out = out_E e out ++ s.Show p ∷ []

  pub out_O : O → List Step → List Step
  out_O (simple a) out = out_S a out
  out_O (paren p e q) out = out_E e out ++ s.Paren ∷ []
  out_O (index a p l) out = out_L l p (out_O a out ++ s.List ∷ [])

  -- of a list whose opening bracket is at this place
  pub out_L : L → ℕ → List Step → List Step
  out_L (last_gap p) pl out = (out ++ s.Gap ∷ []) ++ s.Index pl ∷ []
  out_L (last_entry e p) pl out = (out_E e out ++ s.Entry ∷ []) ++ s.Index pl ∷ []
  out_L (gap p l) pl out = out_L l pl (out ++ s.Gap ∷ [])
  out_L (entry e p l) pl out = out_L l pl (out_E e out ++ s.Entry ∷ [])

-- the steps of a statement
abbrev pub steps : Sentence → List Step
steps (value e) = out_E e []
steps (branch p e) = out_E e [] ++ s.Branch p ∷ []
steps (perform0 p n) = s.Perform0 p n ∷ []
steps (perform1 p n e) = out_E e [] ++ s.Perform1 p n ∷ []
steps (perform2 a p n e) = out_E e (out_O a []) ++ s.Perform2 p n ∷ []

-- ---- What was sent out, and what waits, where an E ends

abbrev pub waits : E → List Waiting → List Waiting
waits (operand a) ops = ops
waits (before m e) ops = waits e (o.Apply (step_M m) ∷ ops)
waits (between a d e) ops = waits e (o.Apply (step_D d) ∷ ops)
waits (assign r p n pa e) ops = waits e (o.Apply s.Assign ∷ ops)
waits (assign_at r p n pl l pa e) ops = waits e (o.Apply s.AssignAt ∷ ops)
waits (show p pa e) ops = waits e (o.Apply (s.Show p) ∷ ops)

abbrev pub sent : E → List Step → List Step
sent (operand a) out = out_O a out
sent (before m e) out = sent e out
sent (between a d e) out = sent e (out_O a out)
sent (assign r p n pa e) out = sent e (out ++ name_step r p n ∷ [])
sent (assign_at r p n pl l pa e) out = sent e (out_L l pl ((out ++ name_step r p n ∷ []) ++ s.List ∷ []))
sent (show p pa e) out = sent e out

abbrev pub target_S : S → Target
target_S (numbers p x ns) = t.Numbers
target_S (variable p n) = t.Name
target_S (call0 p n) = t.Name
target_S _ = t.No

-- what an arrow behind this operand would assign
abbrev pub indexed : Target → Target
indexed t.Name = t.At
indexed _ = t.No

abbrev pub target_O : O → Target
target_O (simple a) = target_S a
target_O (paren p e q) = t.No
target_O (index a p l) = indexed (target_O a)

abbrev pub target : E → Target
target (operand a) = target_O a
target (before m e) = target e
target (between a d e) = target e
target (assign r p n pa e) = target e
target (assign_at r p n pl l pa e) = target e
target (show p pa e) = target e

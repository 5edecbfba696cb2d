-- The steps of words that stand in a text have their places there, and its texts are quoted.
use Rattle.std.proofs.Common.{ℕ, ◌<◌, ◌+◌, List, [], ◌∷◌, ◌++◌, length, subst, sym}
use Rattle.aplc_syntax.specs.declared.step.Step.{Step}
use Rattle.aplc_syntax.specs.declared.step.Step.TheVariants as s
use Rattle.aplc_syntax.specs.declared.word.Arity.TheVariants as arity
use Rattle.aplc_syntax.specs.declared.word.Role.{Role}
use Rattle.aplc_syntax.specs.declared.word.Role.TheVariants as role
use Rattle.aplc_syntax.specs.declared.word.Word.{Word}
use Rattle.aplc_syntax.specs.declared.word.WordKind.TheVariants as w
use Rattle.aplc_syntax.specs.Words.{word, IsQuoted, Laid}
use Rattle.aplc_syntax.specs.Grammar.{F, arith_fn, compare_fn, X, no_axis, axis, M, arith1, not1, both1, turn1, reduce, call1, D, scalar2, both2, dyadic2, turn2, copies, outer, inner, call2, N, no_number, number, S, numbers, literal, variable, call0, text_input, nums_input, E, operand, before, between, assign, assign_at, show, O, simple, paren, index, L, last_gap, last_entry, gap, entry, Sentence, value, branch, perform0, perform1, perform2, spell, spell_F, spell_X, spell_M, spell_D, spell_N, spell_S, spell_E, spell_O, spell_L}
use Rattle.aplc_syntax.specs.Steps.{step_M, step_D, name_step, out_N, out_S, out_E, out_O, out_L, steps}
use Rattle.aplc_syntax.specs.Building.{StepIn, StepsIn}
use Rattle.aplc_syntax.specs.Seen.{IsReading}

abbrev WordsIn : List ℕ → List Word → Type 0
WordsIn text [] = Unit {0}
WordsIn text (x ∷ xs) = (x.place < length text) × IsQuoted text x.place x.kind × WordsIn text xs

from_laid : (text : List ℕ) (p : ℕ) (ws : List Word) → Laid text p ws → WordsIn text ws
from_laid text p [] h = tt
from_laid text p (x ∷ xs) h = (h.1, h.2, from_laid text (x.place + 1) xs h.3)

-- steps, and the words behind those of a form
abbrev Both : List ℕ → List Step → List Word → Type 0
Both text xs k = StepsIn text xs × WordsIn text k

more_in : (text : List ℕ) (out : List Step) (x : Step) → StepsIn text out → StepIn text x → StepsIn text (out ++ x ∷ [])
more_in text [] x h i = (i, tt)
more_in text (y ∷ ys) x h i = (h.0, more_in text ys x h.1 i)

in_F : (text : List ℕ) (g : F) (p : ℕ) (k : List Word) → WordsIn text (spell_F g p k) → (p < length text) × WordsIn text k
in_F text (arith_fn g) p k h = (h.0, h.2)
in_F text (compare_fn g) p k h = (h.0, h.2)

in_X : (text : List ℕ) (x : X) (k : List Word) → WordsIn text (spell_X x k) → WordsIn text k
in_X text no_axis k h = h
in_X text (axis pl pn pr v) k h = h.2.2.2

in_M : (text : List ℕ) (x : M) (k : List Word) → WordsIn text (spell_M x k) → StepIn text (step_M x) × WordsIn text k
in_M text (arith1 p g) k h = (h.0, h.2)
in_M text (not1 p) k h = (h.0, h.2)
in_M text (both1 p g) k h = (h.0, h.2)
in_M text (turn1 p a x) k h = (h.0, in_X text x k h.2)
in_M text (reduce p g ps j a x) k h = let i = in_F text g p (word (w.Stroke j a) ps ∷ spell_X x k) h in (i.0, in_X text x k i.1.2)
in_M text (call1 p n) k h = (h.0, h.2)

in_D : (text : List ℕ) (d : D) (k : List Word) → WordsIn text (spell_D d k) → StepIn text (step_D d) × WordsIn text k
in_D text (scalar2 p g) k h = in_F text g p k h
in_D text (both2 p g) k h = (h.0, h.2)
in_D text (dyadic2 p g) k h = (h.0, h.2)
in_D text (turn2 p a x) k h = (h.0, in_X text x k h.2)
in_D text (copies p j a x) k h = (h.0, in_X text x k h.2)
in_D text (outer pj pd p g) k h = (h.0, (in_F text g p k h.2.2).1)
in_D text (inner p g pd ph y) k h = let i = in_F text g p (word w.Dot pd ∷ spell_F y ph k) h in (i.0, (in_F text y ph k i.1.2).1)
in_D text (call2 p n) k h = (h.0, h.2)

in_name : (text : List ℕ) (r : Role) (p n : ℕ) → p < length text → StepIn text (name_step r p n)
in_name text role.Variable p n h = h
in_name text (role.Function arity.Niladic) p n h = h
in_name text (role.Function arity.Monadic) p n h = h
in_name text (role.Function arity.Dyadic) p n h = h
in_name text (role.Procedure a) p n h = h

in_N : (text : List ℕ) (ns : N) (out : List Step) (k : List Word) → StepsIn text out → WordsIn text (spell_N ns k) → Both text (out_N ns out) k
in_N text no_number out k i h = (i, h)
in_N text (number p v ns) out k i h = in_N text ns (out ++ s.More v ∷ []) k (more_in text out (s.More v) i tt) h.2

in_S : (text : List ℕ) (a : S) (out : List Step) (k : List Word) → StepsIn text out → WordsIn text (spell_S a k) → Both text (out_S a out) k
in_S text (numbers p v ns) out k i h = in_N text ns (out ++ s.Number p v ∷ []) k (more_in text out (s.Number p v) i h.0) h.2
in_S text (literal p to) out k i h = (more_in text out (s.Text p to) i (h.0, h.1), h.2)
in_S text (variable p n) out k i h = (more_in text out (s.Name p n) i h.0, h.2)
in_S text (call0 p n) out k i h = (more_in text out (s.Call0 p n) i h.0, h.2)
in_S text (text_input p) out k i h = (more_in text out (s.TextInput p) i h.0, h.2)
in_S text (nums_input p) out k i h = (more_in text out (s.NumsInput p) i h.0, h.2)

mutual
  in_E : (text : List ℕ) (e : E) (out : List Step) (k : List Word) → StepsIn text out → WordsIn text (spell_E e k) → Both text (out_E e out) k
  in_E text (operand a) out k i h = in_O text a out k i h
  in_E text (before x e) out k i h = let m = in_M text x (spell_E e k) h in let j = in_E text e out k i m.1 in (more_in text (out_E e out) (step_M x) j.0 m.0, j.1)
  in_E text (between a d e) out k i h = let l = in_O text a out (spell_D d (spell_E e k)) i h in let m = in_D text d (spell_E e k) l.1 in
      let j = in_E text e (out_O a out) k l.0 m.1 in (more_in text (out_E e (out_O a out)) (step_D d) j.0 m.0, j.1)
  in_E text (assign r p n pa e) out k i h = let j = in_E text e (out ++ name_step r p n ∷ []) k (more_in text out (name_step r p n) i (in_name text r p n h.0)) h.2.2 in
      (more_in text (out_E e (out ++ name_step r p n ∷ [])) s.Assign j.0 tt, j.1)
  in_E text (assign_at r p n pl l pa e) out k i h =
      let us : List Step = (out ++ name_step r p n ∷ []) ++ s.List ∷ [] in
      let g = in_L text l pl us (word w.Assign pa ∷ spell_E e k) (more_in text (out ++ name_step r p n ∷ []) s.List (more_in text out (name_step r p n) i (in_name text r p n h.0)) tt) h.2.0 h.2.2 in
      let j = in_E text e (out_L l pl us) k g.0 g.1.2 in (more_in text (out_E e (out_L l pl us)) s.AssignAt j.0 tt, j.1)
  in_E text (show p pa e) out k i h = let j = in_E text e out k i h.2.2 in (more_in text (out_E e out) (s.Show p) j.0 h.0, j.1)

  in_O : (text : List ℕ) (a : O) (out : List Step) (k : List Word) → StepsIn text out → WordsIn text (spell_O a k) → Both text (out_O a out) k
  in_O text (simple a) out k i h = in_S text a out k i h
  in_O text (paren p e q) out k i h = let j = in_E text e out (word w.Close q ∷ k) i h.2 in (more_in text (out_E e out) s.Paren j.0 tt, j.1.2)
  in_O text (index a p l) out k i h = let j = in_O text a out (word w.OpenBracket p ∷ spell_L l k) i h in
      in_L text l p (out_O a out ++ s.List ∷ []) k (more_in text (out_O a out) s.List j.0 tt) j.1.0 j.1.2

  in_L : (text : List ℕ) (l : L) (q : ℕ) (out : List Step) (k : List Word) → StepsIn text out → q < length text → WordsIn text (spell_L l k) → Both text (out_L l q out) k
  in_L text (last_gap p) q out k i b h = (more_in text (out ++ s.Gap ∷ []) (s.Index q) (more_in text out s.Gap i tt) b, h.2)
  in_L text (last_entry e p) q out k i b h = let j = in_E text e out (word w.CloseBracket p ∷ k) i h in
      (more_in text (out_E e out ++ s.Entry ∷ []) (s.Index q) (more_in text (out_E e out) s.Entry j.0 tt) b, j.1.2)
  in_L text (gap p l) q out k i b h = in_L text l q (out ++ s.Gap ∷ []) k (more_in text out s.Gap i tt) b h.2
  in_L text (entry e p l) q out k i b h = let j = in_E text e out (word w.Semicolon p ∷ spell_L l k) i h in
      in_L text l q (out_E e out ++ s.Entry ∷ []) k (more_in text (out_E e out) s.Entry j.0 tt) b j.1.2

in_sentence : (text : List ℕ) (x : Sentence) → WordsIn text (spell x) → StepsIn text (steps x)
in_sentence text (value e) h = (in_E text e [] [] tt h).0
in_sentence text (branch p e) h = more_in text (out_E e []) (s.Branch p) (in_E text e [] [] tt h.2).0 h.0
in_sentence text (perform0 p n) h = (h.0, tt)
in_sentence text (perform1 p n e) h = more_in text (out_E e []) (s.Perform1 p n) (in_E text e [] [] tt h.2).0 h.0
in_sentence text (perform2 a p n e) h = let j = in_O text a [] (word (w.Name (role.Procedure arity.Dyadic) n) p ∷ spell_E e []) tt h in
    more_in text (out_E e (out_O a [])) (s.Perform2 p n) (in_E text e (out_O a []) [] j.0 j.1.2).0 j.1.0

-- the steps of words that stand in a text stand there too
pub steps_in : (text : List ℕ) (ws : List Word) (xs : List Step) → Laid text 0 ws → IsReading ws xs → StepsIn text xs
steps_in text ws xs h r = subst (StepsIn text) (sym r.steps_are) (in_sentence text r.form (subst (WordsIn text) r.spelled (from_laid text 0 ws h)))

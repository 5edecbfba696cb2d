-- What the steps of a statement within the limits build.
use Rattle.std.proofs.Common.{◌≡◌, ◌≤◌, ◌+◌, ℕ, List, [], ◌∷◌, Bool, true, false, cond, Option, Some, None, IfSome, sym, ap, subst, ◌∙◌, arith, inr, get_or}
use Rattle.aplc_syntax.specs.declared.tree.Statement.{Statement}
use Rattle.aplc_syntax.specs.declared.step.Step.{Step}
use Rattle.aplc_syntax.specs.declared.word.Word.{Word}
use Rattle.aplc_syntax.specs.Words.{Laid}
use Rattle.aplc_syntax.specs.Trees.{statement_of}
use Rattle.aplc_syntax.specs.Building.{build, count_from, StepsIn}
use Rattle.aplc_syntax.specs.Programs.{IsStatement}
use Rattle.aplc_syntax.specs.Refusals.{is_stray, stray}
use Rattle.aplc_syntax.specs.Seen.{IsReading, IsChecked}
use Rattle.aplc_syntax.proofs.Built.{build_steps}
use Rattle.aplc_syntax.proofs.Counted.{count_steps}
use Rattle.aplc_syntax.proofs.Unique.{some_same}
use Rattle.aplc_syntax.proofs.Within.{steps_in}

-- a stray name is not nearer than the words
near : (text : List ℕ) (p : ℕ) (ws : List Word) → Laid text p ws → IfSome (stray ws) (λ q. p ≤ q)
near text p [] h = tt
near text p (x ∷ []) h = tt
near text p (x ∷ y ∷ ws) h = by_test (is_stray x.kind y.kind) (stray (y ∷ ws)) (near text (x.place + 1) (y ∷ ws) h.3) where
  by_test : (b : Bool) (o : Option ℕ) → IfSome o (λ q. x.place + 1 ≤ q) → IfSome (cond b (Some x.place) o) (λ q. p ≤ q)
  by_test true o i = h.0
  by_test false None i = tt
  by_test false (Some q) i = let f : p ≤ x.place = h.0 in omega (arith, i)

pub near_first : (text : List ℕ) (ws : List Word) (d : Word) → Laid text 0 ws → IfSome (stray ws) (λ q. (get_or ws 0 d).place ≤ q)
near_first text [] d h = tt
near_first text (x ∷ ws) d h = near text x.place (x ∷ ws) (omega arith, h.1, h.2, h.3)

pub stand : (text : List ℕ) (ws : List Word) (xs : List Step) → Laid text 0 ws → IsChecked ws xs → StepsIn text xs
stand text ws xs h c = steps_in text ws xs h c.reading

built_of_reading : (text : List ℕ) (ws : List Word) (xs : List Step) (r : IsReading ws xs) → build text xs ≡ Some (statement_of text r.form)
built_of_reading text ws xs r = ap (build text) r.steps_are ∙ build_steps text r.form

pub states : (text : List ℕ) (ws : List Word) (xs : List Step) (s : Statement) → IsChecked ws xs → Some s ≡ build text xs → IsStatement text ws s
states text ws xs s c e = inr (record {
  form = c.reading.form;
  spelled = c.reading.spelled;
  tree = some_same s (statement_of text c.reading.form) (build text xs) (sym e) (built_of_reading text ws xs c.reading);
  shallow = c.shallow;
  small = subst (λ n. n ≤ 256) (ap (count_from 0) c.reading.steps_are ∙ count_steps c.reading.form) c.small;
})

pub never_none : (text : List ℕ) (ws : List Word) (xs : List Step) → IsChecked ws xs → None ≡ build text xs → ⊥
never_none text ws xs c e = let f : None ≡ Some (statement_of text c.reading.form) = e ∙ built_of_reading text ws xs c.reading in cc

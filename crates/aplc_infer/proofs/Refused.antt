-- The first refusal of more and more lines; and what a first refusal says of all families.
use Rattle.std.proofs.Common.{◌≡◌, ◌∙◌, sym, ap, refl, subst, ℕ, zero, suc, ◌+◌, ◌<◌, ◌≤◌, List, [], ◌∷◌, length, map, Option, Some, None, arith, inr, get_or, slice_get}
use Rattle.std.proofs.lemmas.Option.{slice_get-get_or}
use Rattle.aplc_lex.specs.declared.token.Refusal.{Refusal}
use Rattle.aplc_lex.specs.Firsts.{IsBefore, IsFirstOf, earlier}
use Rattle.aplc_lex.proofs.Order.{same_first}
use Rattle.aplc_syntax.specs.declared.tree.Line.{Line}
use Rattle.aplc_syntax.specs.declared.tree.Function.{Function}
use Rattle.aplc_syntax.specs.declared.tree.Program.{Program}
use Rattle.aplc_names.specs.Firsts.{Somewhere, Among}
use Rattle.aplc_names.specs.PlainPrograms.{Action, Routine, plain, routine_of, line_action}
use Rattle.aplc_names.specs.Runs.{line_at}
use Rattle.aplc_names.proofs.Minima.{more, none_yet, all_of}
use Rattle.aplc_infer.specs.declared.fact.Inferred.{Inferred}
use Rattle.aplc_infer.specs.declared.tables.Tables.{Tables}
use Rattle.aplc_infer.specs.Seeing.{Family, declarations, at, Progress, fresh, see_statement}
use Rattle.aplc_infer.specs.Lookups.{routine_at, context_at}
use Rattle.aplc_infer.specs.Families.{at_start, IsLeastOf, IsWellTyped, StandsFirst, Fits}
use Rattle.aplc_infer.specs.Tables.{family_of}
use Rattle.aplc_infer.specs.Steps.{seen_in, IsFunction, StandsUnder}
use Rattle.aplc_infer.specs.Refusals.{IsThis, InLine, InFunction}
use Rattle.aplc_infer.specs.declared.facts.Fact.{Fact}
use Rattle.aplc_infer.specs.Shown.{shown, fact_at, IsInferred}
use Rattle.aplc_infer.proofs.Stepping.{mapped, map_back, routine_is, routine_there}
use Rattle.aplc_infer.proofs.Moving.{line_rises, start_rises}

-- ---- In a list

this_first : (k : ℕ) (q : Refusal) → IsFirstOf (IsThis k q) (Some q)
this_first k q = record { stands = refl; first = λ s e. subst (λ z. IsBefore q z) (sym e) (inr (refl, omega arith)) }

pub list_none : (xs : List Refusal) → IsFirstOf (Among IsThis xs 0) None
list_none xs = none_yet IsThis xs

pub list_more : (xs : List Refusal) (k : ℕ) (d : Refusal) (best new : Option Refusal) → k < length xs → new ≡ earlier best (Some (get_or xs k d)) → IsFirstOf (Among IsThis xs k) best → IsFirstOf (Among IsThis xs (k + 1)) new
list_more xs k d best new w f p = more IsThis xs k (get_or xs k d) best (Some (get_or xs k d)) new (slice_get-get_or xs k d w) f p (this_first k (get_or xs k d))

pub list_all : (xs : List Refusal) (n : ℕ) (best : Option Refusal) → length xs ≤ n → IsFirstOf (Among IsThis xs n) best → IsFirstOf (Somewhere IsThis xs) best
list_all xs n best w p = all_of IsThis xs n best w p

module _ (p : Program) (g : Family) where
  -- ---- In a line

  -- in the code's own shape
  pub line_first : (i : ℕ) (fn : Function) (n : ℕ) (line : Line) (ns : List Inferred) (v w : Progress) (rs : List Refusal) (o : Option Refusal) → IsFunction p i fn → ns ≡ at_start g i (routine_at p i) (n + 1) → v ≡ fresh ns → w ≡ see_statement (context_at p i) g (line_action line) v → rs ≡ w.refused → IsFirstOf (Somewhere IsThis rs) o → IsFirstOf (InLine p g i (routine_of p fn) n line) o
  line_first i fn n line ns v w rs o there e1 e2 e3 e4 x =
      let seen : w ≡ see_statement (context_at p i) g (line_action line) (fresh (at_start g i (routine_at p i) (n + 1))) = e3 ∙ ap (λ u. see_statement (context_at p i) g (line_action line) u) (e2 ∙ ap (λ us. fresh us) e1) in
      subst (λ f. IsFirstOf (Somewhere IsThis (seen_in p g i f (n + 1) (line_action line)).refused) o) (routine_there p i fn there)
      (subst (λ zs. IsFirstOf (Somewhere IsThis zs) o) (e4 ∙ ap (λ (u : Progress). u.refused) seen) x)

  -- ---- In lines

  found : {A : Type 0} (xs : List A) (k : ℕ) (x : A) → k < length xs → x ≡ get_or xs k x → slice_get xs k ≡ Some x
  found xs k x w e = slice_get-get_or xs k x w ∙ ap (λ y. Some y) (sym e)

  pub lines_none : (i : ℕ) (fn : Function) → IsFirstOf (Among (InLine p g i (routine_of p fn)) fn.lines 0) None
  lines_none i fn = none_yet (InLine p g i (routine_of p fn)) fn.lines

  pub lines_more : (i : ℕ) (fn : Function) (n : ℕ) (line : Line) (ls : List Line) (best one new : Option Refusal) → ls ≡ fn.lines → n < length ls → line ≡ get_or ls n line → new ≡ earlier best one → IsFirstOf (Among (InLine p g i (routine_of p fn)) fn.lines n) best → IsFirstOf (InLine p g i (routine_of p fn) n line) one → IsFirstOf (Among (InLine p g i (routine_of p fn)) fn.lines (n + 1)) new
  lines_more i fn n line ls best one new is w e f x y = more (InLine p g i (routine_of p fn)) fn.lines n line best one new (subst (λ xs. slice_get xs n ≡ Some line) is (found ls n line w e)) f x y

  pub lines_all : (i : ℕ) (fn : Function) (n : ℕ) (ls : List Line) (best : Option Refusal) → ls ≡ fn.lines → length ls ≤ n → IsFirstOf (Among (InLine p g i (routine_of p fn)) fn.lines n) best → IsFirstOf (InFunction p g i fn) best
  lines_all i fn n ls best is w x = all_of (InLine p g i (routine_of p fn)) fn.lines n best (subst (λ xs. length xs ≤ n) is w) x

  -- ---- In functions

  pub functions_none : IsFirstOf (Among (InFunction p g) p.functions 0) None
  functions_none = none_yet (InFunction p g) p.functions

  pub functions_more : (i : ℕ) (fn : Function) (fs : List Function) (best one new : Option Refusal) → fs ≡ p.functions → i < length fs → fn ≡ get_or fs i fn → new ≡ earlier best one → IsFirstOf (Among (InFunction p g) p.functions i) best → IsFirstOf (InFunction p g i fn) one → IsFirstOf (Among (InFunction p g) p.functions (i + 1)) new
  functions_more i fn fs best one new is w e f x y = more (InFunction p g) p.functions i fn best one new (subst (λ xs. slice_get xs i ≡ Some fn) is (found fs i fn w e)) f x y

  pub functions_all : (n : ℕ) (fs : List Function) (best : Option Refusal) → fs ≡ p.functions → length fs ≤ n → IsFirstOf (Among (InFunction p g) p.functions n) best → IsFirstOf (Somewhere (InFunction p g) p.functions) best
  functions_all n fs best is w x = all_of (InFunction p g) p.functions n best (subst (λ xs. length xs ≤ n) is w) x

  -- ---- The whole

  at_suc : (xs : List Action) (m : ℕ) (x : Action) → slice_get xs m ≡ Some x → line_at xs (m + 1) ≡ Some x
  at_suc xs m x h = subst (λ j. line_at xs j ≡ Some x) (let e : suc m ≡ m + 1 = omega arith in e) h

  to_refused : (r : Refusal) → Somewhere (InFunction p g) p.functions r → StandsUnder p g r
  to_refused r z =
      let fn = z.item in
      let line = z.gives.item in
      let said = z.gives.gives in
      record {
        function = z.index;
        line = z.gives.index + 1;
        routine = routine_of p fn;
        action = line_action line;
        there = record { routine = routine_is p z.index fn z.found; here = at_suc (map line_action fn.lines) z.gives.index (line_action line) (mapped line_action fn.lines z.gives.index line z.gives.found) };
        index = said.index;
        listed = said.found ∙ ap (λ q. Some q) (sym said.gives);
      }

  none_line : (xs : List Action) (x : Action) → line_at xs 0 ≡ Some x → ⊥
  none_line xs x e = cc

  one_function : (r : Refusal) (i : ℕ) (fn : Function) (l : ℕ) (f : Routine) (x : Action) (k : ℕ) → IsFunction p i fn → f ≡ routine_of p fn → line_at f.lines l ≡ Some x → slice_get (seen_in p g i f l x).refused k ≡ Some r → InFunction p g i fn r
  one_function r i fn zero f x k there is here listed = absurd (none_line f.lines x here)
  one_function r i fn (suc l) f x k there is here listed =
      let back = map_back line_action fn.lines l x (subst (λ h. slice_get h.lines l ≡ Some x) is here) in
      let said : slice_get (seen_in p g i (routine_of p fn) (suc l) x).refused k ≡ Some r = subst (λ h. slice_get (seen_in p g i h (suc l) x).refused k ≡ Some r) is listed in
      let num : suc l ≡ l + 1 = omega arith in
      record {
        index = l;
        item = back.item;
        found = back.found;
        gives = record { index = k; item = r; found = subst (λ m. slice_get (seen_in p g i (routine_of p fn) m (line_action back.item)).refused k ≡ Some r) num (subst (λ y. slice_get (seen_in p g i (routine_of p fn) (suc l) y).refused k ≡ Some r) back.is said); gives = refl };
      }

  from_refused : (r : Refusal) → StandsUnder p g r → Somewhere (InFunction p g) p.functions r
  from_refused r z =
      let back = map_back (routine_of p) p.functions z.function z.routine z.there.routine in
      record { index = z.function; item = back.item; found = back.found; gives = one_function r z.function back.item z.line z.routine z.action z.index back.found back.is z.there.here z.listed }

  pub first_stands : (o : Option Refusal) → IsFirstOf (Somewhere (InFunction p g) p.functions) o → IsFirstOf (StandsUnder p g) o
  first_stands o x = same_first (Somewhere (InFunction p g) p.functions) (StandsUnder p g) o to_refused from_refused x

-- ---- What a first refusal says of all families

none_listed : (xs : List Refusal) → ((r : Refusal) (k : ℕ) → slice_get xs k ≡ Some r → ⊥) → xs ≡ []
none_listed [] h = refl
none_listed (x ∷ xs) h = absurd (h x 0 refl)

none_some : (r : Refusal) → (let o : Option Refusal = None in o) ≡ Some r → ⊥
none_some r e = cc

no_element : (xs : List Refusal) (k : ℕ) (r : Refusal) → xs ≡ [] → slice_get xs k ≡ Some r → ⊥
no_element xs k r e h = none_some r (subst (λ ys. slice_get ys k ≡ Some r) e h)

-- where some family fits, no refusal stands under the least one
pub least_fine : (p : Program) (g : Family) → IsLeastOf p g → IsWellTyped p → (r : Refusal) → StandsUnder p g r → ⊥
least_fine p g least typed r z =
    let h : Family = typed.0 in
    let fits : Fits (declarations p.vars) (plain p) h = typed.1 in
    let b = least.least h fits.rules in
    let up = line_rises p g h z.function z.routine z.line z.action (at_start g z.function z.routine z.line) b (start_rises g h z.function z.routine z.line b) in
    let none : (seen_in p h z.function z.routine z.line z.action).refused ≡ [] = none_listed (seen_in p h z.function z.routine z.line z.action).refused (λ q k e. fits.fine q (record { function = z.function; line = z.line; routine = z.routine; action = z.action; there = z.there; index = k; listed = e })) in
    no_element (seen_in p g z.function z.routine z.line z.action).refused z.index r (up.fine none) z.listed

pub refused_by : (p : Program) (t : Tables) (o : Option Refusal) (r : Refusal) → IsLeastOf p (family_of t) → IsFirstOf (StandsUnder p (family_of t)) o → o ≡ Some r → StandsFirst p r
refused_by p t o r least x e = record { family = family_of t; least = least; first = subst (λ z. IsFirstOf (StandsUnder p (family_of t)) z) e x }

pub untyped_by : (p : Program) (t : Tables) (o : Option Refusal) (r : Refusal) → IsLeastOf p (family_of t) → IsFirstOf (StandsUnder p (family_of t)) o → o ≡ Some r → IsWellTyped p → ⊥
untyped_by p t o r least x e typed = let f = subst (λ z. IsFirstOf (StandsUnder p (family_of t)) z) e x in least_fine p (family_of t) least typed r f.stands

pub typed_by : (p : Program) (t : Tables) (o : Option Refusal) → IsLeastOf p (family_of t) → IsFirstOf (StandsUnder p (family_of t)) o → o ≡ None → IsWellTyped p
typed_by p t o least x e = (family_of t, record { rules = least.rules; fine = subst (λ z. IsFirstOf (StandsUnder p (family_of t)) z) e x })

pub none_first : (p : Program) (t : Tables) (o : Option Refusal) → IsFirstOf (StandsUnder p (family_of t)) o → o ≡ None → IsFirstOf (StandsUnder p (family_of t)) None
none_first p t o x e = subst (λ z. IsFirstOf (StandsUnder p (family_of t)) z) e x

each_shown : (xs : List Inferred) (n : ℕ) → fact_at (map shown xs) n ≡ shown (at xs n)
each_shown [] n = refl
each_shown (x ∷ xs) zero = refl
each_shown (x ∷ xs) (suc n) = each_shown xs n

pub inferred_by : (p : Program) (t : Tables) (fs : List (Option Fact)) → IsLeastOf p (family_of t) → IsFirstOf (StandsUnder p (family_of t)) None → fs ≡ map shown t.nodes → IsInferred p fs
inferred_by p t fs least fine e = record { family = family_of t; least = least; fine = fine; each = λ n. ap (λ xs. fact_at xs n) e ∙ each_shown t.nodes n }

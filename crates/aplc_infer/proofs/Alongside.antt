-- Whatever the facts are, a line asks of the same cells in the same order, and what it refuses breaks a rule.
use Rattle.std.proofs.Common.{◌≡◌, ◌∙◌, sym, ap, refl, ℕ, zero, suc, List, [], ◌∷◌, ◌++◌, length, Option, Some, None, Ok, Err, Bool, true, false}
use Rattle.std.specs.Prelude.{is_some, slice_get}
use Rattle.std.proofs.lemmas.List.{length-set}
use Rattle.aplc_lex.specs.declared.token.Refusal.{Refusal}
use Rattle.aplc_lex.specs.Firsts.{refusal}
use Rattle.aplc_syntax.specs.PlainTrees.{Tree, Numbers, Text, Name, TextInput, NumsInput, Mono, Dyad, Index, Assign, AssignAt, Show, Call, Trees, no_more, left_out, and_tree, Argument, absent, given}
use Rattle.aplc_names.specs.PlainPrograms.{Action, nothing, quiet, perform, display, branch}
use Rattle.aplc_infer.specs.declared.fact.Inferred.{Inferred}
use Rattle.aplc_infer.specs.declared.rule_break.RuleBreak.{RuleBreak}
use Rattle.aplc_infer.specs.declared.rule_break.RuleBreak.TheVariants as breaks
use Rattle.aplc_infer.specs.declared.cell.Cell.{Cell}
use Rattle.aplc_infer.specs.declared.cell.Cell.TheVariants as cell
use Rattle.aplc_infer.specs.declared.cell.Demand.{Demand}
use Rattle.aplc_infer.specs.declared.cell.Binding.{Binding}
use Rattle.aplc_infer.specs.declared.cell.Binding.TheVariants as binds
use Rattle.aplc_infer.specs.Facts.{below, is_mixed}
use Rattle.aplc_infer.specs.Rules.{number_of, Ruled}
use Rattle.aplc_infer.specs.Seeing.{Family, Context, Progress, SeenArgument, demand, asked, asked_for, denied, denied_by, denied_if, denied_read, mixed_break, with_name, assign_declared, assign_global, assign_to, passed, function_of, see, see_all, see_argument, see_statement}

-- ---- Cells and reasons

abbrev pub cells : List Demand → List Cell
cells [] = []
cells (x ∷ xs) = x.cell ∷ cells xs

cells_more : (xs ys : List Demand) → cells (xs ++ ys) ≡ cells xs ++ cells ys
cells_more [] ys = refl
cells_more (x ∷ xs) ys = ap (λ zs. x.cell ∷ zs) (cells_more xs ys)

-- a refusal for a rule that is broken
abbrev pub HasReason : Refusal → Type 0
HasReason r = (e : RuleBreak) × (r.number ≡ number_of e)

abbrev pub HaveReasons : List Refusal → Type 0
HaveReasons [] = Unit {0}
HaveReasons (r ∷ rs) = HasReason r × HaveReasons rs

reasons_more : (rs : List Refusal) (p : ℕ) (e : RuleBreak) → HaveReasons rs → HaveReasons (rs ++ refusal (number_of e) p ∷ [])
reasons_more [] p e h = ((e, refl), tt)
reasons_more (r ∷ rs) p e h = (h.0, reasons_more rs p e h.1)

pub reason_at : (rs : List Refusal) (i : ℕ) (r : Refusal) → HaveReasons rs → slice_get rs i ≡ Some r → HasReason r
reason_at [] i r h e = cc
reason_at (s ∷ rs) zero r h e = let same : s ≡ r = cc in (h.0.0, ap (λ (t : Refusal). t.number) (sym same) ∙ h.0.1)
reason_at (s ∷ rs) (suc i) r h e = reason_at rs i r h.1 e

-- ---- Two evaluations side by side

pub record Alongside (v w : Progress) : Type 0 where
  pub cells : cells v.demands ≡ cells w.demands
  pub names : length v.names ≡ length w.names
  pub reasons : HaveReasons v.refused

ask_along : (c : Cell) (x y : Inferred) (v w : Progress) → Alongside v w → Alongside (asked c x v) (asked c y w)
ask_along c x y v w h = record {
  cells = cells_more v.demands (demand c x ∷ []) ∙ (ap (λ zs. zs ++ c ∷ []) h.cells ∙ sym (cells_more w.demands (demand c y ∷ [])));
  names = h.names;
  reasons = h.reasons;
}

ask_for_along : (c : Cell) (a b : Option Inferred) (v w : Progress) → is_some a ≡ is_some b → Alongside v w → Alongside (asked_for c a v) (asked_for c b w)
ask_for_along c None None v w e h = h
ask_for_along c None (Some y) v w e h = cc
ask_for_along c (Some x) None v w e h = cc
ask_for_along c (Some x) (Some y) v w e h = ask_along c x y v w h

deny_along : (p : ℕ) (e : RuleBreak) (v w : Progress) → Alongside v w → Alongside (denied p e v) w
deny_along p e v w h = record { cells = h.cells; names = h.names; reasons = reasons_more v.refused p e h.reasons }

deny_beside : (p : ℕ) (e : RuleBreak) (v w : Progress) → Alongside v w → Alongside v (denied p e w)
deny_beside p e v w h = record { cells = h.cells; names = h.names; reasons = h.reasons }

denied_by_along : (p : ℕ) (r s : Ruled) (v w : Progress) → Alongside v w → Alongside (denied_by p r v) (denied_by p s w)
denied_by_along p (Ok x) (Ok y) v w h = h
denied_by_along p (Ok x) (Err f) v w h = deny_beside p f v w h
denied_by_along p (Err e) (Ok y) v w h = deny_along p e v w h
denied_by_along p (Err e) (Err f) v w h = deny_along p e v (denied p f w) (deny_beside p f v w h)

denied_if_along : (a b : Bool) (p : ℕ) (e f : RuleBreak) (v w : Progress) → Alongside v w → Alongside (denied_if a p e v) (denied_if b p f w)
denied_if_along false false p e f v w h = h
denied_if_along false true p e f v w h = deny_beside p f v w h
denied_if_along true false p e f v w h = deny_along p e v w h
denied_if_along true true p e f v w h = deny_along p e v (denied p f w) (deny_beside p f v w h)

read_along : (p : ℕ) (x y : Inferred) (v w : Progress) → Alongside v w → Alongside (denied_read p x v) (denied_read p y w)
read_along p x y v w h = denied_if_along (is_mixed x) (is_mixed y) p (mixed_break x) (mixed_break y) v w h

ruled_along : (i p : ℕ) (r s : Ruled) (x y : Inferred) (v w : Progress) → Alongside v w → Alongside (asked (cell.Node i) x (denied_by p r v)) (asked (cell.Node i) y (denied_by p s w))
ruled_along i p r s x y v w h = ask_along (cell.Node i) x y (denied_by p r v) (denied_by p s w) (denied_by_along p r s v w h)

name_along : (k : ℕ) (x y : Inferred) (v w : Progress) → Alongside v w → Alongside (with_name k x v) (with_name k y w)
name_along k x y v w h = record { cells = h.cells; names = length-set v.names k x ∙ (h.names ∙ sym (length-set w.names k y)); reasons = h.reasons }

-- ---- Assignments

declared_along : (a b : Bool) (i p : ℕ) (x y : Inferred) (v w : Progress) → Alongside v w → Alongside (assign_declared a i p x v).progress (assign_declared b i p y w).progress
declared_along true true i p x y v w h = ask_along (cell.Node i) x y v w h
declared_along true false i p x y v w h = ask_along (cell.Node i) x _ v (denied p breaks.Declared w) (deny_beside p breaks.Declared v w h)
declared_along false true i p x y v w h = ask_along (cell.Node i) _ y (denied p breaks.Declared v) w (deny_along p breaks.Declared v w h)
declared_along false false i p x y v w h =
    ask_along (cell.Node i) _ _ (denied p breaks.Declared v) (denied p breaks.Declared w) (deny_along p breaks.Declared v (denied p breaks.Declared w) (deny_beside p breaks.Declared v w h))

global_along : (o : Option Inferred) (i p n : ℕ) (a b x y : Inferred) (v w : Progress) → Alongside v w → Alongside (assign_global o i p n a x v).progress (assign_global o i p n b y w).progress
global_along None i p n a b x y v w h = ask_along (cell.Node i) x y (asked (cell.Global n) a v) (asked (cell.Global n) b w) (ask_along (cell.Global n) a b v w h)
global_along (Some d) i p n a b x y v w h = declared_along (below a d) (below b d) i p x y v w h

assign_along : (c : Context) (b : Binding) (i p n : ℕ) (new new' x y : Inferred) (v w : Progress) → Alongside v w → Alongside (assign_to c b i p n new x v).progress (assign_to c b i p n new' y w).progress
assign_along c (binds.Local k) i p n new new' x y v w h = ask_along (cell.Node i) x y (with_name k new v) (with_name k new' w) (name_along k new new' v w h)
assign_along c (binds.Label z) i p n new new' x y v w h = global_along (c.declared n) i p n new new' x y v w h
assign_along c (binds.Function j) i p n new new' x y v w h = global_along (c.declared n) i p n new new' x y v w h
assign_along c binds.Global i p n new new' x y v w h = global_along (c.declared n) i p n new new' x y v w h

passed_along : (j : ℕ) (a a' b b' : Option Inferred) (v w : Progress) → is_some a ≡ is_some a' → is_some b ≡ is_some b' → Alongside v w → Alongside (passed j a b v) (passed j a' b' w)
passed_along j a a' b b' v w e f h = ask_for_along (cell.Right j) b b' (asked_for (cell.Left j) a v) (asked_for (cell.Left j) a' w) f (ask_for_along (cell.Left j) a a' v w e h)

-- ---- Trees

pub record ArgumentsAlong (s t : SeenArgument) : Type 0 where
  pub both : is_some s.fact ≡ is_some t.fact
  pub progress : Alongside s.progress t.progress

module _ (c : Context) (g h : Family) where
  mutual
    pub see_along : (t : Tree) (v w : Progress) → Alongside v w → Alongside (see c g t v).progress (see c h t w).progress
    see_along (Numbers i p zs) v w q = ask_along (cell.Node i) _ _ v w q
    see_along (Text i p cs) v w q = ask_along (cell.Node i) _ _ v w q
    see_along (TextInput i p) v w q = ask_along (cell.Node i) _ _ v w q
    see_along (NumsInput i p) v w q = ask_along (cell.Node i) _ _ v w q
    see_along (Name i p n) v w q = ask_along (cell.Node i) _ _ (denied_read p _ v) (denied_read p _ w) (read_along p _ _ v w q)
    see_along (Mono i p f b) v w q = ruled_along i p _ _ _ _ _ _ (see_along b v w q)
    see_along (Dyad i p f a b) v w q = ruled_along i p _ _ _ _ _ _ (see_along a _ _ (see_along b v w q))
    see_along (Index i p a xs) v w q = ruled_along i p _ _ _ _ _ _ (see_along a _ _ (see_all_along xs v w q))
    see_along (Assign i p n a) v w q = assign_along c (c.binding n) i p n _ _ _ _ _ _ (see_along a v w q)
    see_along (AssignAt i p n xs a) v w q = assign_along c (c.binding n) i p n _ _ _ _ _ _ (denied_by_along p _ _ _ _ (read_along p _ _ _ _ (see_all_along xs _ _ (see_along a v w q))))
    see_along (Show i p a) v w q = ask_along (cell.Node i) _ _ _ _ (see_along a v w q)
    see_along (Call i p n a b) v w q =
        let y = see_argument_along b v w q in
        let x = see_argument_along a _ _ y.progress in
        ask_along (cell.Node i) _ _ _ _ (read_along p _ _ _ _ (passed_along (function_of (c.binding n)) _ _ _ _ _ _ x.both y.both x.progress))

    pub see_all_along : (xs : Trees) (v w : Progress) → Alongside v w → Alongside (see_all c g xs v).progress (see_all c h xs w).progress
    see_all_along no_more v w q = q
    see_all_along (left_out xs) v w q = see_all_along xs v w q
    see_all_along (and_tree t xs) v w q = see_along t _ _ (see_all_along xs v w q)

    pub see_argument_along : (a : Argument) (v w : Progress) → Alongside v w → ArgumentsAlong (see_argument c g a v) (see_argument c h a w)
    see_argument_along absent v w q = record { both = refl; progress = q }
    see_argument_along (given t) v w q = record { both = refl; progress = see_along t v w q }

  pub statement_along : (x : Action) (v w : Progress) → Alongside v w → Alongside (see_statement c g x v) (see_statement c h x w)
  statement_along nothing v w q = q
  statement_along (quiet t) v w q = see_along t v w q
  statement_along (display t) v w q = see_along t v w q
  statement_along (branch p t) v w q = denied_by_along p _ _ _ _ (see_along t v w q)
  statement_along (perform i p n a b) v w q =
      let y = see_argument_along b v w q in
      let x = see_argument_along a _ _ y.progress in
      ask_along (cell.Node i) _ _ _ _ (passed_along (function_of (c.binding n)) _ _ _ _ _ _ x.both y.both x.progress)

-- What was asked and refused before a statement's node is still there after it.
use Rattle.std.proofs.Common.{◌≡◌, ◌∙◌, sym, ap, refl, ℕ, List, [], ◌∷◌, ◌++◌, Option, Some, None, Ok, Err, Bool, true, false}
use Rattle.std.proofs.lemmas.List.{append-nil, append_assoc}
use Rattle.aplc_syntax.specs.PlainTrees.{Tree, Numbers, Text, Name, TextInput, NumsInput, Mono, Dyad, Index, Assign, AssignAt, Show, Call, Trees, no_more, left_out, and_tree, Argument, absent, given}
use Rattle.aplc_infer.specs.declared.fact.Inferred.{Inferred}
use Rattle.aplc_infer.specs.declared.rule_break.RuleBreak.{RuleBreak}
use Rattle.aplc_infer.specs.declared.rule_break.RuleBreak.TheVariants as breaks
use Rattle.aplc_infer.specs.declared.cell.Cell.{Cell}
use Rattle.aplc_infer.specs.declared.cell.Cell.TheVariants as cell
use Rattle.aplc_infer.specs.declared.cell.Demand.{Demand}
use Rattle.aplc_infer.specs.declared.cell.Binding.{Binding}
use Rattle.aplc_infer.specs.declared.cell.Binding.TheVariants as binds
use Rattle.aplc_infer.specs.Facts.{below, is_mixed, settled}
use Rattle.aplc_infer.specs.Rules.{Ruled, fact_of, literal_of, monadic_fact, dyadic_fact, index_fact, change_fact, left_fact}
use Rattle.aplc_infer.specs.Seeing.{Family, Context, Progress, demand, asked, asked_for, denied_by, denied_if, denied_read, mixed_break, with_name, settles, ruled, name_fact, assign_declared, assign_global, assign_to, change_name, function_of, call_fact, passed, see, see_all, see_argument}
use Rattle.aplc_infer.specs.Families.{AreMet}
use Rattle.aplc_infer.proofs.Monotone.{met_left}

-- what is asked before stands first among what is asked after, so it is met with that; and where nothing is refused after,
-- nothing was before
pub record Stays (g : Family) (w v : Progress) : Type 0 where
  pub more : List Demand
  pub parts : v.demands ≡ w.demands ++ more
  pub met : AreMet g v.demands → AreMet g w.demands
  pub fine : v.refused ≡ [] → w.refused ≡ []

pub stays : (g : Family) (w : Progress) → Stays g w w
stays g w = record { more = []; parts = sym (append-nil w.demands); met = λ m. m; fine = λ e. e }

pub stays_then : (g : Family) (w v u : Progress) → Stays g w v → Stays g v u → Stays g w u
stays_then g w v u p q = record {
  more = p.more ++ q.more;
  parts = q.parts ∙ (ap (λ l. l ++ q.more) p.parts ∙ append_assoc w.demands p.more q.more);
  met = λ m. p.met (q.met m);
  fine = λ e. p.fine (q.fine e);
}

one_more : {A : Type 0} (xs : List A) (x : A) → xs ++ x ∷ [] ≡ [] → ⊥
one_more [] x e = cc
one_more (y ∷ xs) x e = cc

-- ---- Steps

pub asked_stays : (g : Family) (c : Cell) (x : Inferred) (w : Progress) → Stays g w (asked c x w)
asked_stays g c x w = record { more = demand c x ∷ []; parts = refl; met = λ m. met_left g w.demands (demand c x ∷ []) m; fine = λ e. e }

pub asked_for_stays : (g : Family) (c : Cell) (o : Option Inferred) (w : Progress) → Stays g w (asked_for c o w)
asked_for_stays g c None w = stays g w
asked_for_stays g c (Some x) w = asked_stays g c x w

pub denied_stays : (g : Family) (p : ℕ) (r : Ruled) (w : Progress) → Stays g w (denied_by p r w)
denied_stays g p (Ok x) w = stays g w
denied_stays g p (Err e) w = record { more = []; parts = sym (append-nil w.demands); met = λ m. m; fine = λ q. absurd (one_more w.refused _ q) }

denied_if_stays : (g : Family) (b : Bool) (p : ℕ) (e : RuleBreak) (w : Progress) → Stays g w (denied_if b p e w)
denied_if_stays g false p e w = stays g w
denied_if_stays g true p e w = record { more = []; parts = sym (append-nil w.demands); met = λ m. m; fine = λ q. absurd (one_more w.refused _ q) }

pub read_stays : (g : Family) (p : ℕ) (x : Inferred) (w : Progress) → Stays g w (denied_read p x w)
read_stays g p x w = denied_if_stays g (is_mixed x) p (mixed_break x) w

pub settled_stays : (g : Family) (i : ℕ) (x : Inferred) (w v : Progress) → Stays g w v → Stays g w (settles i x v).progress
settled_stays g i x w v h = stays_then g w v (asked (cell.Node i) x v) h (asked_stays g (cell.Node i) x v)

pub ruled_stays : (g : Family) (i p : ℕ) (r : Ruled) (w v : Progress) → Stays g w v → Stays g w (ruled i p r v).progress
ruled_stays g i p r w v h = settled_stays g i (fact_of r) w (denied_by p r v) (stays_then g w v (denied_by p r v) h (denied_stays g p r v))

declared_stays : (g : Family) (b : Bool) (i p : ℕ) (x : Inferred) (w : Progress) → Stays g w (assign_declared b i p x w).progress
declared_stays g true i p x w = settled_stays g i x w w (stays g w)
declared_stays g false i p x w = ruled_stays g i p (Err breaks.Declared) w w (stays g w)

global_stays : (g : Family) (o : Option Inferred) (i p n : ℕ) (new x : Inferred) (w : Progress) → Stays g w (assign_global o i p n new x w).progress
global_stays g None i p n new x w = settled_stays g i x w (asked (cell.Global n) new w) (asked_stays g (cell.Global n) new w)
global_stays g (Some d) i p n new x w = declared_stays g (below new d) i p x w

pub assigned_stays : (g : Family) (c : Context) (b : Binding) (i p n : ℕ) (new x : Inferred) (w : Progress) → Stays g w (assign_to c b i p n new x w).progress
assigned_stays g c (binds.Local k) i p n new x w = settled_stays g i x w (with_name k new w) (record { more = []; parts = sym (append-nil w.demands); met = λ m. m; fine = λ e. e })
assigned_stays g c (binds.Label z) i p n new x w = global_stays g (c.declared n) i p n new x w
assigned_stays g c (binds.Function j) i p n new x w = global_stays g (c.declared n) i p n new x w
assigned_stays g c binds.Global i p n new x w = global_stays g (c.declared n) i p n new x w

pub passed_stays : (g : Family) (j : ℕ) (a b : Option Inferred) (w : Progress) → Stays g w (passed j a b w)
passed_stays g j a b w =
    let v = asked_for (cell.Left j) a w in
    stays_then g w v (asked_for (cell.Right j) b v) (asked_for_stays g (cell.Left j) a w) (asked_for_stays g (cell.Right j) b v)

change_stays : (g : Family) (c : Context) (i p n : ℕ) (old : Inferred) (fs : List (Option Inferred)) (y : Inferred) (w : Progress) → Stays g w (change_name c i p n old fs y w).progress
change_stays g c i p n old fs y w =
    let r = change_fact old fs y in
    let u = denied_read p old w in
    let v = denied_by p r u in
    stays_then g w v (assign_to c (c.binding n) i p n (left_fact old y) (fact_of r) v).progress (stays_then g w u v (read_stays g p old w) (denied_stays g p r u)) (assigned_stays g c (c.binding n) i p n (left_fact old y) (fact_of r) v)

-- ---- Trees

mutual
  pub see_stays : (g : Family) (c : Context) (t : Tree) (w : Progress) → Stays g w (see c g t w).progress
  see_stays g c (Numbers i p zs) w = settled_stays g i _ w w (stays g w)
  see_stays g c (Text i p cs) w = settled_stays g i _ w w (stays g w)
  see_stays g c (TextInput i p) w = settled_stays g i _ w w (stays g w)
  see_stays g c (NumsInput i p) w = settled_stays g i _ w w (stays g w)
  see_stays g c (Name i p n) w =
      let x = name_fact c g (c.binding n) n w.names in
      settled_stays g i x w (denied_read p x w) (read_stays g p x w)
  see_stays g c (Mono i p f b) w =
      let y = see c g b w in
      ruled_stays g i p (monadic_fact c.origin f (literal_of b) y.fact) w y.progress (see_stays g c b w)
  see_stays g c (Dyad i p f a b) w =
      let y = see c g b w in
      let x = see c g a y.progress in
      ruled_stays g i p (dyadic_fact c.origin f (literal_of a) x.fact y.fact) w x.progress (stays_then g w y.progress x.progress (see_stays g c b w) (see_stays g c a y.progress))
  see_stays g c (Index i p a xs) w =
      let y = see_all c g xs w in
      let x = see c g a y.progress in
      ruled_stays g i p (index_fact x.fact y.facts) w x.progress (stays_then g w y.progress x.progress (see_all_stays g c xs w) (see_stays g c a y.progress))
  see_stays g c (Assign i p n a) w =
      let y = see c g a w in
      let s = assign_to c (c.binding n) i p n (settled y.fact) (settled y.fact) y.progress in
      stays_then g w y.progress s.progress (see_stays g c a w) (assigned_stays g c (c.binding n) i p n (settled y.fact) (settled y.fact) y.progress)
  see_stays g c (AssignAt i p n xs a) w =
      let y = see c g a w in
      let x = see_all c g xs y.progress in
      let old = name_fact c g (c.binding n) n x.progress.names in
      stays_then g w x.progress (change_name c i p n old x.facts y.fact x.progress).progress (stays_then g w y.progress x.progress (see_stays g c a w) (see_all_stays g c xs y.progress)) (change_stays g c i p n old x.facts y.fact x.progress)
  see_stays g c (Show i p a) w = let y = see c g a w in settled_stays g i (settled y.fact) w y.progress (see_stays g c a w)
  see_stays g c (Call i p n a b) w =
      let y = see_argument c g b w in
      let x = see_argument c g a y.progress in
      let j = function_of (c.binding n) in
      let z = call_fact x.fact y.fact (g (cell.Answer j)) in
      let v = passed j x.fact y.fact x.progress in
      settled_stays g i z w (denied_read p z v)
      (stays_then g w v (denied_read p z v) (stays_then g w x.progress v (stays_then g w y.progress x.progress (see_argument_stays g c b w) (see_argument_stays g c a y.progress)) (passed_stays g j x.fact y.fact x.progress)) (read_stays g p z v))

  pub see_all_stays : (g : Family) (c : Context) (ts : Trees) (w : Progress) → Stays g w (see_all c g ts w).progress
  see_all_stays g c no_more w = stays g w
  see_all_stays g c (left_out ts) w = see_all_stays g c ts w
  see_all_stays g c (and_tree t ts) w =
      let y = see_all c g ts w in
      stays_then g w y.progress (see c g t y.progress).progress (see_all_stays g c ts w) (see_stays g c t y.progress)

  pub see_argument_stays : (g : Family) (c : Context) (a : Argument) (w : Progress) → Stays g w (see_argument c g a w).progress
  see_argument_stays g c absent w = stays g w
  see_argument_stays g c (given t) w = see_stays g c t w

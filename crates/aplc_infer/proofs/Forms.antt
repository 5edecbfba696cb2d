-- What the evaluation of each form comes to, from what its parts came to.
use Rattle.std.proofs.Common.{◌≡◌, ◌∙◌, sym, ap, refl, ℕ, List, Option}
use Rattle.aplc_syntax.specs.declared.tree.NameId.{NameId}
use Rattle.aplc_syntax.specs.declared.tree.Primitive.{Primitive}
use Rattle.aplc_syntax.specs.declared.tree.Node.{Node}
use Rattle.aplc_syntax.specs.declared.tree.Form.{Form}
use Rattle.aplc_syntax.specs.declared.tree.Form.TheVariants as form
use Rattle.aplc_syntax.specs.PlainTrees.{Tree, tree_of, tree_in, trees_in, argument_in}
use Rattle.aplc_syntax.proofs.PlainForms.{tree_node, tree_Mono, tree_Dyad, tree_Index, tree_AssignAt, tree_Call}
use Rattle.aplc_infer.specs.declared.fact.Inferred.{Inferred}
use Rattle.aplc_names.specs.PlainPrograms.{quiet_of}
use Rattle.aplc_infer.specs.declared.fact.Inferred.TheVariants.{Unset}
use Rattle.aplc_infer.specs.declared.cell.Cell.TheVariants as cell
use Rattle.aplc_infer.specs.Rules.{literal_of, monadic_fact, dyadic_fact, index_fact}
use Rattle.aplc_infer.specs.Seeing.{Family, Context, Progress, name_fact, settles, ruled, denied_read, change_name, function_of, call_fact, passed, asked, see, see_all, see_argument, see_statement}

module _ (c : Context) (g : Family) where
  -- a node that is another one, after what is other progress
  fact_at : (m n : Node) (v w : Progress) (x : Inferred) → m ≡ n → v ≡ w → x ≡ (see c g (tree_of m) v).fact → x ≡ (see c g (tree_of n) w).fact
  fact_at m n v w x p q h = h ∙ ap (λ (k : Node). (see c g (tree_of k) v).fact) p ∙ ap (λ (z : Progress). (see c g (tree_of n) z).fact) q

  progress_at : (m n : Node) (v w u : Progress) → m ≡ n → v ≡ w → u ≡ (see c g (tree_of m) v).progress → u ≡ (see c g (tree_of n) w).progress
  progress_at m n v w u p q h = h ∙ ap (λ (k : Node). (see c g (tree_of k) v).progress) p ∙ ap (λ (z : Progress). (see c g (tree_of n) z).progress) q

  facts_at : (xs ys : List (Option Node)) (v w : Progress) (fs : List (Option Inferred)) → xs ≡ ys → v ≡ w → fs ≡ (see_all c g (trees_in xs) v).facts → fs ≡ (see_all c g (trees_in ys) w).facts
  facts_at xs ys v w fs p q h = h ∙ ap (λ (k : List (Option Node)). (see_all c g (trees_in k) v).facts) p ∙ ap (λ (z : Progress). (see_all c g (trees_in ys) z).facts) q

  all_at : (xs ys : List (Option Node)) (v w u : Progress) → xs ≡ ys → v ≡ w → u ≡ (see_all c g (trees_in xs) v).progress → u ≡ (see_all c g (trees_in ys) w).progress
  all_at xs ys v w u p q h = h ∙ ap (λ (k : List (Option Node)). (see_all c g (trees_in k) v).progress) p ∙ ap (λ (z : Progress). (see_all c g (trees_in ys) z).progress) q

  module _ (n : Node) (w : Progress) where
    seen_as : (x : Form) (t : Tree) → n.form ≡ x → tree_in x n.id.0 n.place ≡ t → see c g t w ≡ see c g (tree_of n) w
    seen_as x t e h = sym (ap (λ (s : Tree). see c g s w) (tree_node n ∙ ap (λ (y : Form). tree_in y n.id.0 n.place) e ∙ h))

    -- r and s are the argument, as it is evaluated and as its literal is read
    pub mono_seen : (f : Primitive) (b r s : Node) (y : Inferred) (v : Progress) → n.form ≡ form.Mono f b → r ≡ b → s ≡ b → y ≡ (see c g (tree_of r) w).fact → v ≡ (see c g (tree_of r) w).progress → ruled n.id.0 n.place (monadic_fact c.origin f (literal_of (tree_of s)) y) v ≡ see c g (tree_of n) w
    mono_seen f b r s y v e p q h k =
        ap (λ (m : Node). ruled n.id.0 n.place (monadic_fact c.origin f (literal_of (tree_of m)) y) v) q
        ∙ ap (λ (x : Inferred). ruled n.id.0 n.place (monadic_fact c.origin f (literal_of (tree_of b)) x) v) (fact_at r b w w y p refl h)
        ∙ ap (λ (u : Progress). ruled n.id.0 n.place (monadic_fact c.origin f (literal_of (tree_of b)) (see c g (tree_of b) w).fact) u) (progress_at r b w w v p refl k)
        ∙ seen_as (form.Mono f b) _ e (tree_Mono f b n.id.0 n.place)

    pub dyad_seen : (f : Primitive) (a b r s q : Node) (y x : Inferred) (v u : Progress) → n.form ≡ form.Dyad f a b → r ≡ b → s ≡ a → q ≡ a → y ≡ (see c g (tree_of r) w).fact → v ≡ (see c g (tree_of r) w).progress → x ≡ (see c g (tree_of s) v).fact → u ≡ (see c g (tree_of s) v).progress → ruled n.id.0 n.place (dyadic_fact c.origin f (literal_of (tree_of q)) x y) u ≡ see c g (tree_of n) w
    dyad_seen f a b r s q y x v u e pr ps pq hy hv hx hu =
        let ev = progress_at r b w w v pr refl hv in
        let z = (see c g (tree_of b) w).progress in
        ap (λ (m : Node). ruled n.id.0 n.place (dyadic_fact c.origin f (literal_of (tree_of m)) x y) u) pq
        ∙ ap (λ (k : Inferred). ruled n.id.0 n.place (dyadic_fact c.origin f (literal_of (tree_of a)) x k) u) (fact_at r b w w y pr refl hy)
        ∙ ap (λ (k : Inferred). ruled n.id.0 n.place (dyadic_fact c.origin f (literal_of (tree_of a)) k (see c g (tree_of b) w).fact) u) (fact_at s a v z x ps ev hx)
        ∙ ap (λ (k : Progress). ruled n.id.0 n.place (dyadic_fact c.origin f (literal_of (tree_of a)) (see c g (tree_of a) z).fact (see c g (tree_of b) w).fact) k) (progress_at s a v z u ps ev hu)
        ∙ seen_as (form.Dyad f a b) _ e (tree_Dyad f a b n.id.0 n.place)

    pub index_seen : (a s : Node) (xs ys : List (Option Node)) (fs gs : List (Option Inferred)) (x : Inferred) (v u : Progress) → n.form ≡ form.Index a xs → ys ≡ xs → s ≡ a → gs ≡ fs → fs ≡ (see_all c g (trees_in ys) w).facts → v ≡ (see_all c g (trees_in ys) w).progress → x ≡ (see c g (tree_of s) v).fact → u ≡ (see c g (tree_of s) v).progress → ruled n.id.0 n.place (index_fact x gs) u ≡ see c g (tree_of n) w
    index_seen a s xs ys fs gs x v u e py ps pg hf hv hx hu =
        let ev = all_at ys xs w w v py refl hv in
        let z = (see_all c g (trees_in xs) w).progress in
        ap (λ (k : List (Option Inferred)). ruled n.id.0 n.place (index_fact x k) u) (pg ∙ facts_at ys xs w w fs py refl hf)
        ∙ ap (λ (k : Inferred). ruled n.id.0 n.place (index_fact k (see_all c g (trees_in xs) w).facts) u) (fact_at s a v z x ps ev hx)
        ∙ ap (λ (k : Progress). ruled n.id.0 n.place (index_fact (see c g (tree_of a) z).fact (see_all c g (trees_in xs) w).facts) k) (progress_at s a v z u ps ev hu)
        ∙ seen_as (form.Index a xs) _ e (tree_Index a xs n.id.0 n.place)

    pub change_seen : (name : NameId) (a r : Node) (xs ys : List (Option Node)) (fs gs : List (Option Inferred)) (y old : Inferred) (v u : Progress) → n.form ≡ form.AssignAt name xs a → r ≡ a → ys ≡ xs → gs ≡ fs → y ≡ (see c g (tree_of r) w).fact → v ≡ (see c g (tree_of r) w).progress → fs ≡ (see_all c g (trees_in ys) v).facts → u ≡ (see_all c g (trees_in ys) v).progress → old ≡ name_fact c g (c.binding name.0) name.0 u.names → change_name c n.id.0 n.place name.0 old gs y u ≡ see c g (tree_of n) w
    change_seen name a r xs ys fs gs y old v u e pr py pg hy hv hf hu ho =
        let i = n.id.0 in
        let p = n.place in
        let ev = progress_at r a w w v pr refl hv in
        let z = (see c g (tree_of a) w).progress in
        let xf = (see_all c g (trees_in xs) z).facts in
        let xp = (see_all c g (trees_in xs) z).progress in
        let yf = (see c g (tree_of a) w).fact in
        ap (λ (k : Inferred). change_name c i p name.0 k gs y u) ho
        ∙ ap (λ (k : List (Option Inferred)). change_name c i p name.0 (name_fact c g (c.binding name.0) name.0 u.names) k y u) (pg ∙ facts_at ys xs v z fs py ev hf)
        ∙ ap (λ (k : Inferred). change_name c i p name.0 (name_fact c g (c.binding name.0) name.0 u.names) xf k u) (fact_at r a w w y pr refl hy)
        ∙ ap (λ (k : Progress). change_name c i p name.0 (name_fact c g (c.binding name.0) name.0 k.names) xf yf k) (all_at ys xs v z u py ev hu)
        ∙ seen_as (form.AssignAt name xs a) _ e (tree_AssignAt name xs a n.id.0 n.place)

    pub call_seen : (name : NameId) (a b : Option Node) (j : ℕ) (x y : Option Inferred) (v u : Progress) → n.form ≡ form.Call name a b → j ≡ function_of (c.binding name.0) → y ≡ (see_argument c g (argument_in b) w).fact → v ≡ (see_argument c g (argument_in b) w).progress → x ≡ (see_argument c g (argument_in a) v).fact → u ≡ (see_argument c g (argument_in a) v).progress → settles n.id.0 (call_fact x y (g (cell.Answer j))) (denied_read n.place (call_fact x y (g (cell.Answer j))) (passed j x y u)) ≡ see c g (tree_of n) w
    call_seen name a b j x y v u e hj hy hv hx hu =
        let i = n.id.0 in
        let p = n.place in
        let yf = (see_argument c g (argument_in b) w).fact in
        let z = (see_argument c g (argument_in b) w).progress in
        let xf = (see_argument c g (argument_in a) z).fact in
        let made = λ (k : ℕ) (l m : Option Inferred) (o : Progress). settles i (call_fact l m (g (cell.Answer k))) (denied_read p (call_fact l m (g (cell.Answer k))) (passed k l m o)) in
        let f = function_of (c.binding name.0) in
        ap (λ (k : ℕ). made k x y u) hj
        ∙ ap (λ (m : Option Inferred). made f x m u) hy
        ∙ ap (λ (l : Option Inferred). made f l yf u) (hx ∙ ap (λ (o : Progress). (see_argument c g (argument_in a) o).fact) hv)
        ∙ ap (λ (o : Progress). made f xf yf o) (hu ∙ ap (λ (o : Progress). (see_argument c g (argument_in a) o).progress) hv)
        ∙ seen_as (form.Call name a b) _ e (tree_Call name a b i p)

    -- a call of which nothing is used
    pub quiet_seen : (name : NameId) (a b : Option Node) (j : ℕ) (x y : Option Inferred) (v u : Progress) → n.form ≡ form.Call name a b → j ≡ function_of (c.binding name.0) → y ≡ (see_argument c g (argument_in b) w).fact → v ≡ (see_argument c g (argument_in b) w).progress → x ≡ (see_argument c g (argument_in a) v).fact → u ≡ (see_argument c g (argument_in a) v).progress → asked (cell.Node n.id.0) (call_fact x y Unset) (passed j x y u) ≡ see_statement c g (quiet_of (tree_of n)) w
    quiet_seen name a b j x y v u e hj hy hv hx hu =
        let i = n.id.0 in
        let p = n.place in
        let yf = (see_argument c g (argument_in b) w).fact in
        let z = (see_argument c g (argument_in b) w).progress in
        let xf = (see_argument c g (argument_in a) z).fact in
        let made = λ (k : ℕ) (l m : Option Inferred) (o : Progress). asked (cell.Node i) (call_fact l m Unset) (passed k l m o) in
        let f = function_of (c.binding name.0) in
        ap (λ (k : ℕ). made k x y u) hj
        ∙ ap (λ (m : Option Inferred). made f x m u) hy
        ∙ ap (λ (l : Option Inferred). made f l yf u) (hx ∙ ap (λ (o : Progress). (see_argument c g (argument_in a) o).fact) hv)
        ∙ ap (λ (o : Progress). made f xf yf o) (hu ∙ ap (λ (o : Progress). (see_argument c g (argument_in a) o).progress) hv)
        ∙ sym (ap (λ (t : Tree). see_statement c g (quiet_of t) w) (tree_node n ∙ ap (λ (y : Form). tree_in y n.id.0 n.place) e ∙ tree_Call name a b i p))

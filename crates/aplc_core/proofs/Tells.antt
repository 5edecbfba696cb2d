-- Trees whose line says of their nodes what evaluation hands down: the cut of such a tree comes to what the tree is evaluated to.
use Rattle.std.proofs.Common.{◌≡◌, ◌∙◌, refl, ap, subst, ℕ, List, Some, true, false, map, pos, ℤ}
use Rattle.std.proofs.lemmas.List.{length-map}
use Rattle.aplc_scalar.specs.declared.kind.Kind.TheVariants.{Num, Char}
use Rattle.aplc_scalar.specs.Input.{input_line, number_line}
use Rattle.aplc_syntax.specs.PlainTrees.{Tree, Trees, Argument, absent, given, id_of}
use Rattle.aplc_syntax.specs.PlainTrees as t
use Rattle.aplc_names.specs.States.{and_then, is_among}
use Rattle.aplc_names.specs.Eager.{Context, Use, passed, stored, displayed, ready, literal, there, read_line, called, value, values, argument}
use Rattle.aplc_core.specs.PlainSteps.{Effect, ReadText, ReadNums}
use Rattle.aplc_core.specs.CoreRuns.{Told, use_in, read_name}
use Rattle.aplc_core.specs.Lowering.{Kept, kept, call_steps, cut, cut_list, cut_argument}
use Rattle.aplc_core.proofs.Carried.{then_then, then_same, giving}
use Rattle.aplc_core.proofs.Cuts.{kept_fits, cut_fits, list_fits, given_fits, kept_id}
use Rattle.aplc_core.proofs.Comes.{ComesKept}
use Rattle.aplc_core.proofs.Effects.{ArgumentComes, argument_comes, called_eagerly}
use Rattle.aplc_core.proofs.Forms.{CutDoes, ListDoes, kept_does, input_does, mono_does, dyad_does, left_does, more_does, index_does, assign_does, show_does, change_does, call_does}

abbrev mutual
  -- the line tells the use u of the tree's node, the uses of all nodes in it, and which of them are assignments to names
  pub Tells : Told → Use → Tree → Type 0
  Tells l u (t.Numbers i p zs) = use_in l i ≡ u
  Tells l u (t.Text i p cs) = use_in l i ≡ u
  Tells l u (t.Name i p n) = (use_in l i ≡ u) × (is_among i l.assigned ≡ false)
  Tells l u (t.TextInput i p) = use_in l i ≡ u
  Tells l u (t.NumsInput i p) = use_in l i ≡ u
  Tells l u (t.Mono i p f b) = (use_in l i ≡ u) × Tells l passed b
  Tells l u (t.Dyad i p f a b) = (use_in l i ≡ u) × Tells l passed a × Tells l passed b
  Tells l u (t.Index i p a xs) = (use_in l i ≡ u) × Tells l passed a × TellsAll l xs
  Tells l u (t.Assign i p n a) = (use_in l i ≡ u) × (is_among i l.assigned ≡ true) × Tells l stored a
  Tells l u (t.AssignAt i p n xs a) = (use_in l i ≡ u) × Tells l passed a × TellsAll l xs
  Tells l u (t.Show i p a) = (use_in l i ≡ u) × Tells l displayed a
  Tells l u (t.Call i p n a b) = (use_in l i ≡ u) × TellsGiven l a × TellsGiven l b

  pub TellsAll : Told → Trees → Type 0
  TellsAll l t.no_more = Unit {0}
  TellsAll l (t.left_out xs) = TellsAll l xs
  TellsAll l (t.and_tree x xs) = Tells l passed x × TellsAll l xs

  pub TellsGiven : Told → Argument → Type 0
  TellsGiven l absent = Unit {0}
  TellsGiven l (given x) = Tells l passed x

module _ (c : Context) (l : Told) where
  number_does : (k i p : ℕ) (zs : List ℤ) → CutDoes c l k (cut (t.Numbers i p zs) k) (λ s. value c (t.Numbers i p zs) (use_in l i) s)
  number_does k i p zs next reads slots s = refl

  text_does : (k i p : ℕ) (cs : List ℕ) → CutDoes c l k (cut (t.Text i p cs) k) (λ s. value c (t.Text i p cs) (use_in l i) s)
  text_does k i p cs next reads slots s =
      ap (λ n. and_then (ready c i (use_in l i) n (literal Char (map pos cs)) s) (next slots)) (length-map cs pos)

  name_does : (k i p n : ℕ) → is_among i l.assigned ≡ false → CutDoes c l k (cut (t.Name i p n) k) (λ s. value c (t.Name i p n) (use_in l i) s)
  name_does k i p n e next reads slots s = ap (λ b. and_then (read_name c i (use_in l i) b n s) (next slots)) e

  regrouped : (k i j n : ℕ) (u : Use) (xs : List Effect) (a b : Argument) → ComesKept c l k xs i j (λ s. and_then (called_eagerly c n a b s) (λ v w. there c i u v w)) → ComesKept c l k xs i j (λ s. and_then (argument c b s) (λ y s1. and_then (argument c a s1) (λ x s2. and_then (called c n a b x y s2) (λ r s3. there c i u r s3))))
  regrouped k i j n u xs a b h next reads slots s =
      h next reads slots s
      ∙ ap (λ o. and_then o (λ v w. next slots (Some (giving i v)) w)) (then_then (argument c b s) _ _ ∙ then_same (argument c b s) _ _ (λ y s1. then_then (argument c a s1) _ _))

  mutual
    pub tree_does : (x : Tree) (u : Use) → Tells l u x → (k : ℕ) → CutDoes c l k (cut x k) (λ s. value c x u s)
    tree_does (t.Numbers i p zs) u e k =
        subst (λ w. CutDoes c l k (cut (t.Numbers i p zs) k) (λ s. value c (t.Numbers i p zs) w s)) e (number_does k i p zs)
    tree_does (t.Text i p cs) u e k = subst (λ w. CutDoes c l k (cut (t.Text i p cs) k) (λ s. value c (t.Text i p cs) w s)) e (text_does k i p cs)
    tree_does (t.Name i p n) u h k = subst (λ w. CutDoes c l k (cut (t.Name i p n) k) (λ s. value c (t.Name i p n) w s)) h.0 (name_does k i p n h.1)
    tree_does (t.TextInput i p) u e k =
        subst (λ w. CutDoes c l k (cut (t.TextInput i p) k) (λ s. value c (t.TextInput i p) w s)) e
        (input_does c l k i (ReadText i k) (λ s. read_line c i (use_in l i) Char (input_line s.world.input) s) (λ a s. refl))
    tree_does (t.NumsInput i p) u e k =
        subst (λ w. CutDoes c l k (cut (t.NumsInput i p) k) (λ s. value c (t.NumsInput i p) w s)) e
        (input_does c l k i (ReadNums i k) (λ s. read_line c i (use_in l i) Num (number_line s.world.input) s) (λ a s. refl))
    tree_does (t.Mono i p f b) u h k =
        subst (λ w. CutDoes c l k (cut (t.Mono i p f b) k) (λ s. value c (t.Mono i p f b) w s)) h.0
        (mono_does c l k i f (cut b k) (λ s. value c b passed s) (tree_does b passed h.1 k))
    tree_does (t.Dyad i p f a b) u h k =
        subst (λ w. CutDoes c l k (cut (t.Dyad i p f a b) k) (λ s. value c (t.Dyad i p f a b) w s)) h.0
        (dyad_does c l k i f (cut b k) (λ n. cut a n) (λ s. value c b passed s) (λ s. value c a passed s) (cut_fits b k) (tree_does b passed h.2 k) (λ n. tree_does a passed h.1 n))
    tree_does (t.Index i p a xs) u h k =
        subst (λ w. CutDoes c l k (cut (t.Index i p a xs) k) (λ s. value c (t.Index i p a xs) w s)) h.0
        (index_does c l k i (cut_list xs k) (λ n. cut a n) (λ s. values c xs s) (λ s. value c a passed s) (list_fits xs k) (list_does xs h.2 k) (λ n. tree_does a passed h.1 n))
    tree_does (t.Assign i p n a) u h k =
        subst (λ w. CutDoes c l k (cut (t.Assign i p n a) k) (λ s. value c (t.Assign i p n a) w s)) h.0
        (assign_does c l k i n (cut a k) (λ s. value c a stored s) h.1 (tree_does a stored h.2 k))
    tree_does (t.AssignAt i p n xs a) u h k =
        let x : Kept = kept (cut a k) in
        subst (λ w. CutDoes c l k (cut (t.AssignAt i p n xs a) k) (λ s. value c (t.AssignAt i p n xs a) w s)) h.0
        (change_does c l k (cut a k).next i n x (cut_list xs x.next) (λ s. value c a passed s) (λ s. values c xs s) (kept_fits k (cut a k) (cut_fits a k)) (kept_does c l k (cut a k) (λ s. value c a passed s) (cut_fits a k) (tree_does a passed h.1 k)) (list_does xs h.2 x.next))
    tree_does (t.Show i p a) u h k =
        subst (λ w. CutDoes c l k (cut (t.Show i p a) k) (λ s. value c (t.Show i p a) w s)) h.0
        (show_does c l k (cut a k).next i (kept (cut a k)) (λ s. value c a displayed s) (kept_fits k (cut a k) (cut_fits a k)) (kept_does c l k (cut a k) (λ s. value c a displayed s) (cut_fits a k) (tree_does a displayed h.1 k)))
    tree_does (t.Call i p n a b) u h k =
        let y = cut_argument b k in
        let x = cut_argument a y.next in
        subst (λ w. CutDoes c l k (cut (t.Call i p n a b) k) (λ s. value c (t.Call i p n a b) w s)) h.0
        (regrouped k i x.next n (use_in l i) (call_steps i n y x (Some x.next)) a b (call_does c l k i n y x a b (given_fits b k) (given_fits a y.next) (given_does b h.2 k) (given_does a h.1 y.next)))

    pub list_does : (xs : Trees) → TellsAll l xs → (k : ℕ) → ListDoes c l k (cut_list xs k) (λ s. values c xs s)
    list_does t.no_more h k = λ next reads slots s. refl
    list_does (t.left_out xs) h k = left_does c l k (cut_list xs k) (λ s. values c xs s) (list_does xs h k)
    list_does (t.and_tree x xs) h k =
        more_does c l k (cut_list xs k) (λ n. cut x n) (λ s. values c xs s) (λ s. value c x passed s) (list_fits xs k) (list_does xs h.1 k) (λ n. tree_does x passed h.0 n)

    pub given_does : (a : Argument) → TellsGiven l a → (k : ℕ) → ArgumentComes c l k (cut_argument a k) a
    given_does absent h k = λ next reads slots s. refl
    given_does (given x) h k =
        argument_comes c l k (kept (cut x k)) x (kept_id x k) (kept_does c l k (cut x k) (λ s. value c x passed s) (cut_fits x k) (tree_does x passed h k))

-- The entries of an index list, seen from the last to the first.
use Rattle.std.proofs.Common.{◌≡◌, ◌∙◌, sym, ap, ℕ, ◌+◌, ◌-◌, ◌<◌, ◌≤◌, List, [], ◌∷◌, ◌++◌, length, drop, get_or, reverse, Option, Some, None, arith}
use Rattle.std.proofs.lemmas.List.{drop_more, reverse-append}
use Rattle.aplc_syntax.specs.declared.tree.Node.{Node}
use Rattle.aplc_syntax.specs.PlainTrees.{tree_of, trees_in}
use Rattle.aplc_infer.specs.declared.fact.Inferred.{Inferred}
use Rattle.aplc_infer.specs.Seeing.{Family, Context, Progress, see, see_all}

-- the entries from number n on are seen: their facts from the last to the first, and what stands then
pub record SeenFrom (c : Context) (g : Family) (entries : List (Option Node)) (w : Progress) (n : ℕ) (facts : List (Option Inferred)) (v : Progress) : Type 0 where
  pub within : n ≤ length entries
  pub facts_are : (see_all c g (trees_in (drop n entries)) w).facts ≡ reverse facts
  pub stands : (see_all c g (trees_in (drop n entries)) w).progress ≡ v

-- entry number n - 1, in front of the others
entry_at : (xs : List (Option Node)) (n : ℕ) (x e : Option Node) → 0 < n → n ≤ length xs → x ≡ get_or xs (n - 1) x → x ≡ e → drop (n - 1) xs ≡ e ∷ drop n xs
entry_at xs n x e p q h k =
    drop_more xs (n - 1) x (omega arith)
    ∙ ap (λ (y : Option Node). y ∷ drop (n - 1 + 1) xs) (sym h ∙ k)
    ∙ ap (λ (m : ℕ). e ∷ drop m xs) (omega arith)

in_front : (fs gs : List (Option Inferred)) (x : Option Inferred) → gs ≡ fs ++ x ∷ [] → x ∷ reverse fs ≡ reverse gs
in_front fs gs x h = sym (ap (λ (k : List (Option Inferred)). reverse k) h ∙ reverse-append fs (x ∷ []))

module _ (c : Context) (g : Family) (xs : List (Option Node)) (w : Progress) (n : ℕ) (fs gs : List (Option Inferred)) (v : Progress) where
  pub left_out_more : (x : Option Node) → SeenFrom c g xs w n fs v → 0 < n → x ≡ get_or xs (n - 1) x → x ≡ None → gs ≡ fs ++ None ∷ [] → SeenFrom c g xs w (n - 1) gs v
  left_out_more x s p h k q =
      let e = entry_at xs n x None p s.within h k in
      record {
        within = let a = s.within in omega arith;
        facts_are = ap (λ (l : List (Option Node)). (see_all c g (trees_in l) w).facts) e ∙ ap (λ (l : List (Option Inferred)). None ∷ l) s.facts_are ∙ in_front fs gs None q;
        stands = ap (λ (l : List (Option Node)). (see_all c g (trees_in l) w).progress) e ∙ s.stands;
      }

  pub one_more : (u : Progress) (x : Option Node) (t : Node) (y : Inferred) → SeenFrom c g xs w n fs v → 0 < n → x ≡ get_or xs (n - 1) x → x ≡ Some t → y ≡ (see c g (tree_of t) v).fact → u ≡ (see c g (tree_of t) v).progress → gs ≡ fs ++ Some y ∷ [] → SeenFrom c g xs w (n - 1) gs u
  one_more u x t y s p h k hy hu q =
      let e = entry_at xs n x (Some t) p s.within h k in
      let z = (see_all c g (trees_in (drop n xs)) w).progress in
      let first : (see c g (tree_of t) z).fact ≡ y = ap (λ (o : Progress). (see c g (tree_of t) o).fact) s.stands ∙ sym hy in
      record {
        within = let a = s.within in omega arith;
        facts_are =
            ap (λ (l : List (Option Node)). (see_all c g (trees_in l) w).facts) e
            ∙ ap (λ (a : Inferred). Some a ∷ (see_all c g (trees_in (drop n xs)) w).facts) first
            ∙ ap (λ (l : List (Option Inferred)). Some y ∷ l) s.facts_are
            ∙ in_front fs gs (Some y) q;
        stands =
            ap (λ (l : List (Option Node)). (see_all c g (trees_in l) w).progress) e
            ∙ ap (λ (o : Progress). (see c g (tree_of t) o).progress) s.stands
            ∙ sym hu;
      }

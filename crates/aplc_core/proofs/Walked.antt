-- Index lists that are walked from their end.
use Rattle.std.proofs.Common.{◌≡◌, ◌∙◌, ap, sym, ℕ, ◌+◌, ◌-◌, ◌<◌, ◌≤◌, List, ◌∷◌, length, drop, get_or, Option, Some, None, arith}
use Rattle.std.proofs.lemmas.List.{drop_more}
use Rattle.aplc_syntax.specs.declared.tree.Node.{Node}
use Rattle.aplc_syntax.specs.PlainTrees.{tree_of, trees_in}
use Rattle.aplc_core.specs.Passes.{next_slot, pass, pass_list}
use Rattle.aplc_core.specs.Stands.{Stand, pass_of, given_count}

-- the entries from number n on wait
pub record WalkedFrom (entries : List (Option Node)) (start : Stand) (n : ℕ) (s : Stand) : Type 0 where
  pub within : n ≤ length entries
  pub walked : pass_of s ≡ pass_list next_slot (trees_in (drop n entries)) (pass_of start)
  pub count : length s.waiting ≡ length start.waiting + given_count (trees_in (drop n entries))

-- entry number n - 1, in front of the others
entry_at : (xs : List (Option Node)) (n : ℕ) (x e : Option Node) → 0 < n → n ≤ length xs → x ≡ get_or xs (n - 1) x → x ≡ e → drop (n - 1) xs ≡ e ∷ drop n xs
entry_at xs n x e p q h k =
    drop_more xs (n - 1) x (omega arith)
    ∙ ap (λ (y : Option Node). y ∷ drop (n - 1 + 1) xs) (sym h ∙ k)
    ∙ ap (λ (m : ℕ). e ∷ drop m xs) (omega arith)

module _ (xs : List (Option Node)) (start : Stand) (n : ℕ) (s : Stand) (x : Option Node) (w : WalkedFrom xs start n s) (p : 0 < n) (h : x ≡ get_or xs (n - 1) x) where
  pub left_out_walked : x ≡ None → WalkedFrom xs start (n - 1) s
  left_out_walked k =
      let e = entry_at xs n x None p w.within h k in
      record {
        within = let a = w.within in omega arith;
        walked = w.walked ∙ sym (ap (λ (l : List (Option Node)). pass_list next_slot (trees_in l) (pass_of start)) e);
        count = w.count ∙ sym (ap (λ (l : List (Option Node)). length start.waiting + given_count (trees_in l)) e);
      }

  pub tree_walked : (t : Node) (z : Stand) → x ≡ Some t → pass_of z ≡ pass next_slot (tree_of t) (pass_of s) → length z.waiting ≡ length s.waiting + 1 → WalkedFrom xs start (n - 1) z
  tree_walked t z k g c =
      let e = entry_at xs n x (Some t) p w.within h k in
      let a : length start.waiting + given_count (trees_in (drop (n - 1) xs)) ≡ length start.waiting + (given_count (trees_in (drop n xs)) + 1) = ap (λ (l : List (Option Node)). length start.waiting + given_count (trees_in l)) e in
      let b = w.count in
      record {
        within = let d = w.within in omega arith;
        walked = g ∙ ap (pass next_slot (tree_of t)) w.walked ∙ sym (ap (λ (l : List (Option Node)). pass_list next_slot (trees_in l) (pass_of start)) e);
        count = omega (arith, a, b, c);
      }

-- Index lists that are taken from what waits, place by place.
use Rattle.std.proofs.Common.{◌≡◌, ◌∙◌, ap, sym, refl, ℕ, ◌+◌, ◌<◌, ◌≤◌, List, [], ◌∷◌, ◌++◌, length, drop, get_or, Option, Some, None, arith}
use Rattle.std.proofs.lemmas.List.{drop_more}
use Rattle.aplc_syntax.specs.declared.tree.Node.{Node}
use Rattle.aplc_syntax.specs.PlainTrees.{Trees, trees_in}
use Rattle.aplc_syntax.specs.declared.tree.NodeId.{NodeId}
use Rattle.aplc_core.specs.declared.step.Tree.{Tree}
use Rattle.aplc_core.specs.declared.step.Tree.TheVariants as v
use Rattle.aplc_core.specs.PlainSteps.{Term, Index, Terms, no_more, left_out, and_term, term_of, terms_in}
use Rattle.aplc_core.specs.Passes.{Pass, waits, index}
use Rattle.aplc_core.proofs.TermForms.{term_Index}
use Rattle.aplc_core.specs.Stands.{Stand, pass_of, given_count, Listed, listed, in_front, listed_behind}

-- what is taken and what is left to take are the whole list
pub record Listing (entries : List (Option Node)) (start : Stand) (i : ℕ) (list : List (Option Tree)) (s : Stand) : Type 0 where
  pub whole : listed_behind list (listed (trees_in (drop i entries)) (pass_of s)) ≡ listed (trees_in entries) (pass_of start)
  pub count : length start.waiting + given_count (trees_in (drop i entries)) ≡ length s.waiting + given_count (trees_in entries)

in_front_more : (xs : List (Option Tree)) (x : Option Tree) (ts : Terms) → in_front (xs ++ x ∷ []) ts ≡ in_front xs (in_front (x ∷ []) ts)
in_front_more [] x ts = refl
in_front_more (None ∷ xs) x ts = ap left_out (in_front_more xs x ts)
in_front_more (Some t ∷ xs) x ts = ap (and_term (term_of t)) (in_front_more xs x ts)

in_front_none : (xs : List (Option Tree)) → in_front xs no_more ≡ terms_in xs
in_front_none [] = refl
in_front_none (None ∷ xs) = ap left_out (in_front_none xs)
in_front_none (Some t ∷ xs) = ap (and_term (term_of t)) (in_front_none xs)

pub none_listed : (entries : List (Option Node)) (start : Stand) → Listing entries start 0 [] start
none_listed entries start = record { whole = refl; count = refl }

next_entry : (entries : List (Option Node)) (i : ℕ) (x e : Option Node) → i < length entries → x ≡ get_or entries i x → x ≡ e → drop i entries ≡ e ∷ drop (i + 1) entries
next_entry entries i x e p h k = drop_more entries i x p ∙ ap (λ (y : Option Node). y ∷ drop (i + 1) entries) (sym h ∙ k)

module _ (entries : List (Option Node)) (start s : Stand) (i : ℕ) (list js : List (Option Tree)) (x : Option Node) (p : i < length entries) (h : x ≡ get_or entries i x) (l : Listing entries start i list s) where
  pub left_out_listed : x ≡ None → js ≡ list ++ None ∷ [] → Listing entries start (i + 1) js s
  left_out_listed k e =
      let d = next_entry entries i x None p h k in
      let r = listed (trees_in (drop (i + 1) entries)) (pass_of s) in
      record {
        whole =
            ap (λ (zs : List (Option Tree)). listed_behind zs r) e
            ∙ ap (λ (ts : Terms). record { terms = ts; left = r.left }) (in_front_more list None r.terms)
            ∙ sym (ap (λ (zs : List (Option Node)). listed_behind list (listed (trees_in zs) (pass_of s))) d)
            ∙ l.whole;
        count = sym (ap (λ (zs : List (Option Node)). length start.waiting + given_count (trees_in zs)) d) ∙ l.count;
      }

  -- a tree waits for each place that is left
  pub one_waits : (n : Node) → x ≡ Some n → given_count (trees_in entries) ≤ length start.waiting → 0 < length s.waiting
  one_waits n k b =
      let a : length start.waiting + (given_count (trees_in (drop (i + 1) entries)) + 1) ≡ length s.waiting + given_count (trees_in entries) = sym (ap (λ (zs : List (Option Node)). length start.waiting + given_count (trees_in zs)) (next_entry entries i x (Some n) p h k)) ∙ l.count in
      omega (arith, a, b)

  pub tree_listed : (n : Node) (t : Tree) (z : Stand) → x ≡ Some n → pass_of s ≡ waits (term_of t) (pass_of z) → length s.waiting ≡ length z.waiting + 1 → js ≡ list ++ Some t ∷ [] → Listing entries start (i + 1) js z
  tree_listed n t z k g c e =
      let d = next_entry entries i x (Some n) p h k in
      let r = listed (trees_in (drop (i + 1) entries)) (pass_of z) in
      let a : length start.waiting + (given_count (trees_in (drop (i + 1) entries)) + 1) ≡ length s.waiting + given_count (trees_in entries) = sym (ap (λ (zs : List (Option Node)). length start.waiting + given_count (trees_in zs)) d) ∙ l.count in
      record {
        whole =
            ap (λ (zs : List (Option Tree)). listed_behind zs r) e
            ∙ ap (λ (ts : Terms). record { terms = ts; left = r.left }) (in_front_more list (Some t) r.terms)
            ∙ sym (ap (λ (q : Pass). listed_behind list (listed (trees_in (Some n ∷ drop (i + 1) entries)) q)) g)
            ∙ sym (ap (λ (zs : List (Option Node)). listed_behind list (listed (trees_in zs) (pass_of s))) d)
            ∙ l.whole;
        count = omega (arith, a, c);
      }

pub all_listed : (entries : List (Option Node)) (start s : Stand) (i : ℕ) (list : List (Option Tree)) → drop i entries ≡ [] → Listing entries start i list s → listed (trees_in entries) (pass_of start) ≡ record { terms = terms_in list; left = pass_of s }
all_listed entries start s i list e l =
    sym l.whole
    ∙ ap (λ (zs : List (Option Node)). listed_behind list (listed (trees_in zs) (pass_of s))) e
    ∙ ap (λ (ts : Terms). record { terms = ts; left = pass_of s }) (in_front_none list)

pub all_counted : (entries : List (Option Node)) (start s : Stand) (i : ℕ) (list : List (Option Tree)) → drop i entries ≡ [] → Listing entries start i list s → length start.waiting ≡ length s.waiting + given_count (trees_in entries)
all_counted entries start s i list e l =
    let a : length start.waiting + 0 ≡ length s.waiting + given_count (trees_in entries) = sym (ap (λ (zs : List (Option Node)). length start.waiting + given_count (trees_in zs)) e) ∙ l.count in
    omega (arith, a)

-- an element by a list that was taken
pub index_made : (i : NodeId) (xs : Trees) (o : Pass) (s z w : Stand) (a b : Tree) (js ks : List (Option Tree)) → o ≡ waits (term_of a) (pass_of s) → listed xs (pass_of s) ≡ record { terms = terms_in js; left = pass_of z } → b ≡ a → ks ≡ js → pass_of w ≡ waits (term_of (v.Index i b ks)) (pass_of z) → pass_of w ≡ index i.0 xs o
index_made i xs o s z w a b js ks e l h k g =
    g
    ∙ ap (λ (t : Term). waits t (pass_of z)) (term_Index i b ks)
    ∙ ap (λ (x : Tree). waits (Index i.0 (term_of x) (terms_in ks)) (pass_of z)) h
    ∙ ap (λ (x : List (Option Tree)). waits (Index i.0 (term_of a) (terms_in x)) (pass_of z)) k
    ∙ sym (ap (index i.0 xs) e ∙ ap (λ (r : Listed). waits (Index i.0 (term_of a) r.terms) r.left) l)

-- Eager order has each node of a statement as often as the statement has it.
use Rattle.std.proofs.Common.{◌≡◌, ℕ, List, [], ◌∷◌, ◌++◌, Bool, true, false, nat_eq, arith, refl}
use Rattle.std.specs.List.{IsDistinct}
use Rattle.std.specs.List.Sorted.{IsPermutation}
use Rattle.std.proofs.lemmas.List.Sorted.{IsPermutation-refl, IsPermutation-sym, IsPermutation-trans, IsPermutation-cons, IsPermutation-append, IsPermutation-append_comm, IsPermutation-to_front}
use Rattle.std.proofs.lemmas.Map.Keys.{IsDistinct-IsPermutation}
use Rattle.std.proofs.lemmas.Bool.Decides.{nat_tests}
use Rattle.aplc_syntax.specs.PlainTrees.{Tree, Numbers, Text, Name, TextInput, NumsInput, Mono, Dyad, Index, Assign, AssignAt, Show, Call, Trees, no_more, left_out, and_tree, Argument, absent, given, ids, trees_ids, argument_ids}
use Rattle.aplc_names.specs.PlainPrograms.{Action, nothing, quiet, perform, display, branch}
use Rattle.aplc_core.specs.CoreLaws.{action_ids, IsNumbered}
use Rattle.aplc_core.specs.Structure.{in_order, list_in_order, argument_in_order, order_of}

-- the node stands behind its arguments
node_last : (i : ℕ) (xs ys : List ℕ) → IsPermutation xs ys → IsPermutation (i ∷ xs) (ys ++ i ∷ [])
node_last i xs ys h = IsPermutation-trans (i ∷ xs) (i ∷ ys) (ys ++ i ∷ []) (IsPermutation-cons i xs ys h) (IsPermutation-sym (ys ++ i ∷ []) (i ∷ ys) (IsPermutation-to_front ys i))

-- from right to left
turned : (xs ys us vs : List ℕ) → IsPermutation xs us → IsPermutation ys vs → IsPermutation (xs ++ ys) (vs ++ us)
turned xs ys us vs g h = IsPermutation-trans (xs ++ ys) (ys ++ xs) (vs ++ us) (IsPermutation-append_comm xs ys) (IsPermutation-append ys vs xs us h g)

mutual
  all_in_order : (x : Tree) → IsPermutation (ids x) (in_order x)
  all_in_order (Numbers i p zs) = IsPermutation-refl (i ∷ [])
  all_in_order (Text i p cs) = IsPermutation-refl (i ∷ [])
  all_in_order (Name i p n) = IsPermutation-refl (i ∷ [])
  all_in_order (TextInput i p) = IsPermutation-refl (i ∷ [])
  all_in_order (NumsInput i p) = IsPermutation-refl (i ∷ [])
  all_in_order (Mono i p f a) = node_last i (ids a) (in_order a) (all_in_order a)
  all_in_order (Dyad i p f a b) = node_last i (ids a ++ ids b) (in_order b ++ in_order a) (turned (ids a) (ids b) (in_order a) (in_order b) (all_in_order a) (all_in_order b))
  all_in_order (Index i p a xs) = node_last i (ids a ++ trees_ids xs) (list_in_order xs ++ in_order a) (turned (ids a) (trees_ids xs) (in_order a) (list_in_order xs) (all_in_order a) (list_all_in_order xs))
  all_in_order (Assign i p n a) = node_last i (ids a) (in_order a) (all_in_order a)
  all_in_order (AssignAt i p n xs a) = node_last i (trees_ids xs ++ ids a) (in_order a ++ list_in_order xs) (turned (trees_ids xs) (ids a) (list_in_order xs) (in_order a) (list_all_in_order xs) (all_in_order a))
  all_in_order (Show i p a) = node_last i (ids a) (in_order a) (all_in_order a)
  all_in_order (Call i p n a b) = node_last i (argument_ids a ++ argument_ids b) (argument_in_order b ++ argument_in_order a) (turned (argument_ids a) (argument_ids b) (argument_in_order a) (argument_in_order b) (argument_all_in_order a) (argument_all_in_order b))

  list_all_in_order : (xs : Trees) → IsPermutation (trees_ids xs) (list_in_order xs)
  list_all_in_order no_more = IsPermutation-refl []
  list_all_in_order (left_out xs) = list_all_in_order xs
  list_all_in_order (and_tree x xs) = turned (ids x) (trees_ids xs) (in_order x) (list_in_order xs) (all_in_order x) (list_all_in_order xs)

  argument_all_in_order : (x : Argument) → IsPermutation (argument_ids x) (argument_in_order x)
  argument_all_in_order absent = IsPermutation-refl []
  argument_all_in_order (given x) = all_in_order x

pub each_in_order : (x : Action) → IsPermutation (action_ids x) (order_of x)
each_in_order nothing = IsPermutation-refl []
each_in_order (quiet x) = all_in_order x
each_in_order (perform i p n a b) =
    node_last i (argument_ids a ++ argument_ids b) (argument_in_order b ++ argument_in_order a) (turned (argument_ids a) (argument_ids b) (argument_in_order a) (argument_in_order b) (argument_all_in_order a) (argument_all_in_order b))
each_in_order (display x) = all_in_order x
each_in_order (branch p x) = all_in_order x

flips : (x y : ℕ) → nat_eq x y ≡ nat_eq y x
flips x y = by (nat_eq x y) (nat_eq y x) refl refl
  where
    by : (b c : Bool) → nat_eq x y ≡ b → nat_eq y x ≡ c → b ≡ c
    by true true g h = refl
    by false false g h = refl
    by true false g h = absurd (grind (nat_tests, arith))
    by false true g h = absurd (grind (nat_tests, arith))

pub each_once : (x : Action) → IsNumbered x → IsDistinct nat_eq (order_of x)
each_once x h = IsDistinct-IsPermutation nat_eq flips (action_ids x) (order_of x) (each_in_order x) h

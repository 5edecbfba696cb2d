-- What the local names of functions are, and what names are in functions.
use Rattle.std.proofs.Common.{◌≡◌, sym, refl, ℕ, zero, suc, List, [], ◌∷◌, ◌++◌, map, Bool, true, false, if◌then◌else◌, slice_get}
use Rattle.std.specs.Prelude.{unwrap_or}
use Rattle.std.specs.Option.{option_map_or}
use Rattle.aplc_syntax.specs.declared.tree.Function.{Function}
use Rattle.aplc_syntax.specs.declared.tree.Program.{Program}
use Rattle.aplc_syntax.specs.declared.tree.Statement.{Statement}
use Rattle.aplc_syntax.specs.declared.tree.Statement.TheVariants as st
use Rattle.aplc_syntax.specs.PlainTrees.{Tree, Numbers, Text, Name, TextInput, NumsInput, Mono, Dyad, Index, Assign, AssignAt, Show, Call, tree_of}
use Rattle.aplc_names.specs.declared.scope.Scope.TheVariants as scope
use Rattle.aplc_names.specs.Outlines.{tree_mentions, statement_mentions}
use Rattle.aplc_names.specs.PlainPrograms.{routine_of, no_routine, quiet_of, action_of}
use Rattle.aplc_names.specs.Scopes.{scope_in, scope_of}
use Rattle.aplc_infer.specs.Seeing.{with_new, with_each, action_mentions}
use Rattle.aplc_infer.specs.Lookups.{routine_at}

-- ---- Mentions

quiet_mentions : (t : Tree) → action_mentions (quiet_of t) ≡ tree_mentions t
quiet_mentions (Numbers i p zs) = refl
quiet_mentions (Text i p cs) = refl
quiet_mentions (Name i p n) = refl
quiet_mentions (TextInput i p) = refl
quiet_mentions (NumsInput i p) = refl
quiet_mentions (Mono i p f a) = refl
quiet_mentions (Dyad i p f x y) = refl
quiet_mentions (Index i p a xs) = refl
quiet_mentions (Assign i p n a) = refl
quiet_mentions (AssignAt i p n xs a) = refl
quiet_mentions (Show i p a) = refl
quiet_mentions (Call i p n x y) = refl

pub action_names : (s : Statement) → statement_mentions s ≡ action_mentions (action_of s)
action_names st.Empty = refl
action_names (st.Quiet n) = sym (quiet_mentions (tree_of n))
action_names (st.Display n) = refl
action_names (st.Branch p n) = refl

-- ---- Names added one by one

pub each_more : (ns xs ys : List ℕ) → with_each (with_each ns xs) ys ≡ with_each ns (xs ++ ys)
each_more ns [] ys = refl
each_more ns (x ∷ xs) ys = each_more (with_new x ns) xs ys

-- what is added of names, if they are local
add_if : (b : Bool) (n : ℕ) (ns xs : List ℕ) → with_each (if b then with_new n ns else ns) xs ≡ with_each ns (if b then n ∷ xs else xs)
add_if true n ns xs = refl
add_if false n ns xs = refl

-- ---- Scopes

scope_got : (p : Program) (n : ℕ) (fs : List Function) (j : ℕ) → (unwrap_or (slice_get (map (routine_of p) fs) j) no_routine).scope n ≡ option_map_or (λ f. scope_in p.functions f n) (slice_get fs j) scope.Global
scope_got p n [] j = refl
scope_got p n (f ∷ fs) zero = refl
scope_got p n (f ∷ fs) (suc j) = scope_got p n fs j

pub scope_at : (p : Program) (j n : ℕ) → (routine_at p j).scope n ≡ scope_of p j n
scope_at p j n = scope_got p n p.functions j

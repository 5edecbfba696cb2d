-- What is not built in a program is decided by the facts of its nodes alone.
use Rattle.std.proofs.Common.{◌≡◌, ◌∙◌, ap, sym, refl, ℕ, List, [], ◌∷◌, ◌++◌, Option, Some, None}
use Rattle.aplc_syntax.specs.declared.tree.Line.{Line}
use Rattle.aplc_syntax.specs.declared.tree.Function.{Function}
use Rattle.aplc_syntax.specs.declared.tree.Program.{Program}
use Rattle.aplc_syntax.specs.declared.tree.Statement.{Statement}
use Rattle.aplc_syntax.specs.declared.tree.Statement.TheVariants as st
use Rattle.aplc_syntax.specs.PlainTrees.{Tree, Numbers, Text, Name, TextInput, NumsInput, Mono, Dyad, Index, Assign, AssignAt, Show, Call, Trees, no_more, left_out, and_tree, Argument, absent, given, tree_of}
use Rattle.aplc_infer.specs.Shown.{fact_at, IsInferred}
use Rattle.aplc_gen.specs.Built.{is_sign, is_checked}
use Rattle.aplc_gen.specs.Unbuilt.{FactList, unless, is_scalar, unbuilt, all_unbuilt, argument_unbuilt, statement_unbuilt, lines_unbuilt, functions_unbuilt, least, first_place}
use Rattle.aplc_cli.specs.Sources.{IsUnbuiltAt}
use Rattle.aplc_cli.proofs.Facts.{same_facts}

both : {A : Type 0} (a b c d : List A) → a ≡ b → c ≡ d → a ++ c ≡ b ++ d
both a b c d x y = ap (λ s. s ++ c) x ∙ ap (λ s. b ++ s) y

module _ (f h : FactList) (same : (n : ℕ) → fact_at f n ≡ fact_at h n) where
  mutual
    same_tree : (t : Tree) → unbuilt f t ≡ unbuilt h t
    same_tree (Numbers i p xs) = refl
    same_tree (Text i p cs) = refl
    same_tree (Name i p n) = ap (λ x. unless (is_scalar x) p) (same i)
    same_tree (TextInput i p) = refl
    same_tree (NumsInput i p) = refl
    same_tree (Mono i p g a) = ap (λ s. unless (is_sign g) p ++ s) (same_tree a)
    same_tree (Dyad i p g a b) = ap (λ s. unless (is_checked g) p ++ s) (both (unbuilt f a) (unbuilt h a) (unbuilt f b) (unbuilt h b) (same_tree a) (same_tree b))
    same_tree (Index i p a xs) = ap (λ s. p ∷ s) (both (unbuilt f a) (unbuilt h a) (all_unbuilt f xs) (all_unbuilt h xs) (same_tree a) (same_trees xs))
    same_tree (Assign i p n a) = same_tree a
    same_tree (AssignAt i p n xs a) = ap (λ s. p ∷ s) (both (all_unbuilt f xs) (all_unbuilt h xs) (unbuilt f a) (unbuilt h a) (same_trees xs) (same_tree a))
    same_tree (Show i p a) = ap (λ s. p ∷ s) (same_tree a)
    same_tree (Call i p n a b) = both (argument_unbuilt f a) (argument_unbuilt h a) (argument_unbuilt f b) (argument_unbuilt h b) (same_argument a) (same_argument b)

    same_trees : (xs : Trees) → all_unbuilt f xs ≡ all_unbuilt h xs
    same_trees no_more = refl
    same_trees (left_out xs) = same_trees xs
    same_trees (and_tree t xs) = both (unbuilt f t) (unbuilt h t) (all_unbuilt f xs) (all_unbuilt h xs) (same_tree t) (same_trees xs)

    same_argument : (a : Argument) → argument_unbuilt f a ≡ argument_unbuilt h a
    same_argument absent = refl
    same_argument (given t) = same_tree t

  same_statement : (s : Statement) → statement_unbuilt f s ≡ statement_unbuilt h s
  same_statement st.Empty = refl
  same_statement (st.Quiet n) = same_tree (tree_of n)
  same_statement (st.Display n) = same_tree (tree_of n)
  same_statement (st.Branch p n) = same_tree (tree_of n)

  same_lines : (ls : List Line) → lines_unbuilt f ls ≡ lines_unbuilt h ls
  same_lines [] = refl
  same_lines (l ∷ ls) = both (statement_unbuilt f l.statement) (statement_unbuilt h l.statement) (lines_unbuilt f ls) (lines_unbuilt h ls) (same_statement l.statement) (same_lines ls)

  same_functions : (gs : List Function) → functions_unbuilt f gs ≡ functions_unbuilt h gs
  same_functions [] = refl
  same_functions (g ∷ gs) = both (lines_unbuilt f g.lines) (lines_unbuilt h g.lines) (functions_unbuilt f gs) (functions_unbuilt h gs) (same_lines g.lines) (same_functions gs)

  same_place : (p : Program) → first_place p f ≡ first_place p h
  same_place p = ap least (same_functions p.functions)

-- a program has one first place of what is not built, or none
pub place_once : (p : Program) (m n : Option ℕ) → IsUnbuiltAt p m → IsUnbuiltAt p n → m ≡ n
place_once p m n a b = sym a.first ∙ same_place a.facts b.facts (same_facts p a.facts b.facts a.inferred b.inferred) p ∙ b.first

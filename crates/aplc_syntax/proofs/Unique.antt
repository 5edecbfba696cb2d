-- Words have at most one statement.
use Rattle.std.proofs.Common.{◌≡◌, ℕ, List, [], Option, Some, None, sym, ap, ◌∙◌, inl, inr}
use Rattle.aplc_syntax.specs.declared.tree.Statement.{Statement}
use Rattle.aplc_syntax.specs.declared.word.Word.{Word}
use Rattle.aplc_syntax.specs.Grammar.{Sentence, spell}
use Rattle.aplc_syntax.specs.Trees.{statement_of, nodes_of}
use Rattle.aplc_syntax.specs.Steps.{steps}
use Rattle.aplc_syntax.specs.Reading.{reads}
use Rattle.aplc_syntax.specs.Building.{build, count_from}
use Rattle.aplc_syntax.specs.Programs.{IsStatement}
use Rattle.aplc_syntax.proofs.Complete.{complete}
use Rattle.aplc_syntax.proofs.Built.{build_steps}
use Rattle.aplc_syntax.proofs.Counted.{count_steps}

pub some_same : {A : Type 0} (x y : A) (z : Option A) → z ≡ Some x → z ≡ Some y → x ≡ y
some_same x y z e f = cc

-- forms that spell the same words have the same steps
pub same_steps : (x y : Sentence) → spell x ≡ spell y → steps x ≡ steps y
same_steps x y e = some_same (steps x) (steps y) (reads (spell x)) (complete x) (ap reads e ∙ complete y)

-- and are the same statement, with as many nodes
pub same_statement : (text : List ℕ) (x y : Sentence) → spell x ≡ spell y → statement_of text x ≡ statement_of text y
same_statement text x y e = some_same (statement_of text x) (statement_of text y) (build text (steps x)) (build_steps text x) (ap (build text) (same_steps x y e) ∙ build_steps text y)

pub same_nodes : (x y : Sentence) → spell x ≡ spell y → nodes_of x ≡ nodes_of y
same_nodes x y e = sym (count_steps x) ∙ ap (count_from 0) (same_steps x y e) ∙ count_steps y

no_words : (x : Sentence) → [] ≡ spell x → ⊥
unfolding reads
no_words x e = let f : reads [] ≡ Some (steps x) = ap reads e ∙ complete x in cc

-- words are one statement at most
pub one_statement : (text : List ℕ) (ws : List Word) (a b : Statement) → IsStatement text ws a → IsStatement text ws b → a ≡ b
one_statement text ws a b (inl c) (inl d) = c.1 ∙ sym d.1
one_statement text ws a b (inl c) (inr d) = absurd (no_words d.form (sym c.0 ∙ d.spelled))
one_statement text ws a b (inr c) (inl d) = absurd (no_words c.form (sym d.0 ∙ c.spelled))
one_statement text ws a b (inr c) (inr d) = c.tree ∙ same_statement text c.form d.form (sym c.spelled ∙ d.spelled) ∙ sym d.tree

-- words that are not read are no statement
pub unread : (ws : List Word) → reads ws ≡ None → (x : Sentence) → ws ≡ spell x → ⊥
unread ws h x e = let f : reads ws ≡ Some (steps x) = ap reads e ∙ complete x in cc

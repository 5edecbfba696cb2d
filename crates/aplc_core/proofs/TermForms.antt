-- What each form of a tree is as plain data.
use Rattle.std.proofs.Common.{◌≡◌, ◌∙◌, ap, sym, refl, List, [], ◌∷◌, ℤ}
use Rattle.std.specs.Prelude.{Option, Some, None, map}
use Rattle.aplc_scalar.specs.declared.kind.Kind.{Kind}
use Rattle.aplc_syntax.specs.declared.tree.NameId.{NameId}
use Rattle.aplc_syntax.specs.declared.tree.NodeId.{NodeId}
use Rattle.aplc_syntax.specs.declared.tree.Primitive.{Primitive}
use Rattle.aplc_core.specs.declared.step.SlotId.{SlotId}
use Rattle.aplc_core.specs.declared.step.Tree.{Tree}
use Rattle.aplc_core.specs.declared.step.Tree.TheVariants as v
use Rattle.aplc_core.specs.declared.step.Tree.TheOpen.{Tree-F}
use Rattle.aplc_core.specs.declared.step.Tree.TheFolds.{fold-roll-Tree}
use Rattle.aplc_core.specs.PlainSteps.{Term, Literal, Read, Slot, Mono, Dyad, Index, left_out, and_term, tree_term, term_of, terms_of, terms_in}

-- two functions of entries that agree give the same trees
terms_same : (f : Option Tree → Option Term) (xs : List (Option Tree)) → f None ≡ None → ((t : Tree) → f (Some t) ≡ Some (term_of t)) → terms_of (map f xs) ≡ terms_in xs
terms_same f [] h k = refl
terms_same f (None ∷ xs) h k = ap (λ x. terms_of (x ∷ map f xs)) h ∙ ap left_out (terms_same f xs h k)
terms_same f (Some t ∷ xs) h k = ap (λ x. terms_of (x ∷ map f xs)) (k t) ∙ ap (and_term (term_of t)) (terms_same f xs h k)

pub term_Literal : (i : NodeId) (k : Kind) (zs : List ℤ) → term_of (v.Literal i k zs) ≡ Literal i.0 k zs
term_Literal i k zs = ap term_of (sym (v.rolls-Literal i k zs)) ∙ fold-roll-Tree Term tree_term (Tree-F.Literal i k zs)

pub term_Read : (i : NodeId) (n : NameId) → term_of (v.Read i n) ≡ Read i.0 n.0
term_Read i n = ap term_of (sym (v.rolls-Read i n)) ∙ fold-roll-Tree Term tree_term (Tree-F.Read i n)

pub term_Slot : (i : NodeId) (k : SlotId) → term_of (v.Slot i k) ≡ Slot i.0 k.0
term_Slot i k = ap term_of (sym (v.rolls-Slot i k)) ∙ fold-roll-Tree Term tree_term (Tree-F.Slot i k)

pub term_Mono : (i : NodeId) (f : Primitive) (b : Tree) → term_of (v.Mono i f b) ≡ Mono i.0 f (term_of b)
term_Mono i f b = ap term_of (sym (v.rolls-Mono i f b)) ∙ fold-roll-Tree Term tree_term (Tree-F.Mono i f b)

pub term_Dyad : (i : NodeId) (f : Primitive) (a b : Tree) → term_of (v.Dyad i f a b) ≡ Dyad i.0 f (term_of a) (term_of b)
term_Dyad i f a b = ap term_of (sym (v.rolls-Dyad i f a b)) ∙ fold-roll-Tree Term tree_term (Tree-F.Dyad i f a b)

pub term_Index : (i : NodeId) (a : Tree) (xs : List (Option Tree)) → term_of (v.Index i a xs) ≡ Index i.0 (term_of a) (terms_in xs)
term_Index i a xs = ap term_of (sym (v.rolls-Index i a xs)) ∙ fold-roll-Tree Term tree_term (Tree-F.Index i a xs) ∙ ap (Index i.0 (term_of a)) (terms_same _ xs refl (λ t. refl))

pub ruleset term_forms = (term_Literal, term_Read, term_Slot, term_Mono, term_Dyad, term_Index)

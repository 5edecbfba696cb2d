-- The origin and the declared ranks of a program that the grammar gives.
use Rattle.std.proofs.Common.{◌≡◌, ◌∙◌, ap, sym, refl, subst, arith, ℕ, ◌≤◌, ℤ, pos, negsuc, List, [], ◌∷◌, map, All, Option, Some, None, Bool, true, false, ◌&&◌, nat_le, if◌then◌else◌}
use Rattle.std.specs.Prelude.{filter_map, codes}
use Rattle.std.specs.List.{AllZip, cons_option}
use Rattle.std.proofs.lemmas.Bool.Decides.{nat_tests}
use Rattle.std.proofs.lemmas.List.Elements.{All-cons, All-nil}
use Rattle.aplc_scalar.specs.declared.kind.Kind.{Kind}
use Rattle.aplc_lex.specs.declared.token.Token.{Token}
use Rattle.aplc_syntax.specs.declared.tree.Named.{Named}
use Rattle.aplc_syntax.specs.declared.tree.Program.{Program}
use Rattle.aplc_syntax.specs.declared.tree.Var.{Var}
use Rattle.aplc_syntax.specs.declared.word.WordKind.{WordKind}
use Rattle.aplc_syntax.specs.declared.word.WordKind.TheVariants as w
use Rattle.aplc_syntax.specs.Words.{names_in}
use Rattle.aplc_syntax.specs.Layout.{Row, placed, named, Declaration, nothing, origin, var, is_called, origin_if, kind_named, var_if, declaration_in, declaration, origin_of, var_of, above, parts_of}
use Rattle.aplc_syntax.specs.Programs.{IsOrigin, IsProgramOf}
use Rattle.aplc_names.specs.Fits.{is_origin, HasSmallRanks}

abbrev RankFits : Var → Type 0
RankFits x = x.rank ≤ 8

-- what a line may declare
abbrev Good : Option Declaration → Type 0
Good None = Unit {0}
Good (Some nothing) = Unit {0}
Good (Some (origin v)) = is_origin v ≡ true
Good (Some (var x)) = RankFits x

good_origin : (b : Bool) (v : ℤ) → Good (origin_if b v)
good_origin true (pos v) = pick (nat_le v 1) refl
  where
    pick : (b : Bool) → nat_le v 1 ≡ b → Good (if b then Some (origin (pos v)) else None)
    pick true e = e
    pick false e = tt
good_origin true (negsuc v) = tt
good_origin false v = tt

good_var : (b : Bool) (n : Named) (k : Option Kind) (v : ℤ) → Good (var_if b n k v)
good_var true n (Some k) (pos v) = pick (nat_le v 8) refl
  where
    pick : (b : Bool) → nat_le v 8 ≡ b → Good (if b then Some (var (record { name = n; kind = k; rank = v })) else None)
    pick true e = grind (arith, nat_tests)
    pick false e = tt
good_var true n (Some k) (negsuc v) = tt
good_var true n None v = tt
good_var false n k v = tt

good_in : (ns : List (List ℕ)) (xs : List (WordKind × ℕ)) → Good (declaration_in ns xs)
good_in ns [] = tt
good_in ns ((w.Name ro o, po) ∷ (w.Number v, pv) ∷ []) = good_origin (is_called ns o (codes "ORIGIN")) v
good_in ns ((w.Name rv v, pv) ∷ (w.Name rn n, pn) ∷ (w.Name rk k, pk) ∷ (w.Name rr r, pr) ∷ (w.Number x, px) ∷ []) =
    good_var (is_called ns v (codes "VAR") && is_called ns r (codes "RANK")) (named n pn) (kind_named ns k) x
good_in ns _ = tt

abbrev OriginFits : ℤ → Type 0
OriginFits v = is_origin v ≡ true

more_origins : (d : Declaration) (os : List ℤ) → Good (Some d) → All OriginFits os → All OriginFits (cons_option (origin_of d) os)
more_origins nothing os g h = h
more_origins (origin v) os g h = All-cons OriginFits v os g h
more_origins (var x) os g h = h

more_ranks : (d : Declaration) (vs : List Var) → Good (Some d) → All RankFits vs → All RankFits (cons_option (var_of d) vs)
more_ranks nothing vs g h = h
more_ranks (origin v) vs g h = h
more_ranks (var x) vs g h = All-cons RankFits x vs g h

all_said : (ns : List (List ℕ)) (rs : List Row) (ds : List Declaration) → AllZip (λ r d. declaration ns r ≡ Some d) rs ds → All OriginFits (filter_map origin_of ds) × All RankFits (filter_map var_of ds)
all_said ns [] [] z = (All-nil OriginFits, All-nil RankFits)
all_said ns [] (d ∷ ds) z = absurd z
all_said ns (r ∷ rs) [] z = absurd z
all_said ns (r ∷ rs) (d ∷ ds) z =
    let g : Good (Some d) = subst Good z.0 (good_in ns (map placed r.words)) in
    let i = all_said ns rs ds z.1 in
    (more_origins d (filter_map origin_of ds) g i.0, more_ranks d (filter_map var_of ds) g i.1)

one_origin : (os : List ℤ) (v : ℤ) → All OriginFits os → IsOrigin os v → OriginFits v
one_origin [] v h e = ap is_origin e
one_origin (x ∷ []) v h e = ap is_origin e ∙ h 0 x (omega arith)
one_origin (x ∷ y ∷ xs) v h e = absurd e

pub declarations_fit : (text : List ℕ) (ts : List Token) (p : Program) → IsProgramOf text ts p → (is_origin p.origin ≡ true) × HasSmallRanks p
declarations_fit text ts p i =
    let d = i.declared in
    let j = all_said (names_in text ts) (above (parts_of text ts)) d.said d.declared in
    (one_origin (filter_map origin_of d.said) p.origin j.0 d.origin, subst (All RankFits) (sym d.named) j.1)

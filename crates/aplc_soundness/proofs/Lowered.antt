-- The facts of nodes alone are not read: a family with another fact at one node asks and refuses the same.
use Rattle.std.proofs.Common.{◌≡◌, ◌∙◌, ap, refl, ℕ, List, [], ◌∷◌, Option, Some, None, true}
use Rattle.std.specs.Prelude.{nat_eq, if◌then◌else◌}
use Rattle.aplc_syntax.specs.PlainTrees.{Tree, Numbers, Text, Name, TextInput, NumsInput, Mono, Dyad, Index, Assign, AssignAt, Show, Call, Trees, no_more, left_out, and_tree, Argument, absent, given}
use Rattle.aplc_names.specs.PlainPrograms.{Action, nothing, quiet, perform, display, branch, Routine}
use Rattle.aplc_infer.specs.declared.fact.FactKind.{FactKind}
use Rattle.aplc_infer.specs.declared.fact.FactKind.TheVariants.{Bit, Num, Char, Mixed}
use Rattle.aplc_infer.specs.declared.fact.Inferred.{Inferred}
use Rattle.aplc_infer.specs.declared.fact.Inferred.TheVariants.{Unset, Of}
use Rattle.aplc_infer.specs.declared.cell.Cell.TheVariants as cell
use Rattle.aplc_infer.specs.declared.cell.Binding.{Binding}
use Rattle.aplc_infer.specs.declared.cell.Binding.TheVariants as binds
use Rattle.aplc_infer.specs.Facts.{kind_below, length_below, lengths_below, shape_below, below, settled}
use Rattle.aplc_infer.specs.Rules.{literal_of, monadic_fact, dyadic_fact, index_fact, branch_fact}
use Rattle.aplc_infer.specs.Seeing.{Family, Context, Progress, Seen, SeenAll, SeenArgument, asked, denied_by, denied_read, settles, ruled, name_fact, assign_to, change_name, function_of, call_fact, passed, see, see_all, see_argument, see_statement}
use Rattle.aplc_infer.specs.Families.{IsAnswered, ReachesLine}
use Rattle.aplc_infer.proofs.Trials.{equal_of}
use Rattle.aplc_soundness.proofs.Held.{no, and_parts}

-- ---- Facts that lie below each other are the same

kind_same : (a b : FactKind) → kind_below a b ≡ true → kind_below b a ≡ true → a ≡ b
kind_same Bit Bit p q = refl
kind_same Num Num p q = refl
kind_same Char Char p q = refl
kind_same Mixed Mixed p q = refl
kind_same Bit Num p q = absurd (no q)
kind_same Bit Char p q = absurd (no p)
kind_same Bit Mixed p q = absurd (no q)
kind_same Num Bit p q = absurd (no p)
kind_same Num Char p q = absurd (no p)
kind_same Num Mixed p q = absurd (no q)
kind_same Char Bit p q = absurd (no p)
kind_same Char Num p q = absurd (no p)
kind_same Char Mixed p q = absurd (no q)
kind_same Mixed Bit p q = absurd (no p)
kind_same Mixed Num p q = absurd (no p)
kind_same Mixed Char p q = absurd (no p)

length_same : (x y : Option ℕ) → length_below x y ≡ true → length_below y x ≡ true → x ≡ y
length_same None None p q = refl
length_same None (Some n) p q = absurd (no p)
length_same (Some m) None p q = absurd (no q)
length_same (Some m) (Some n) p q = ap (λ i. Some i) (equal_of m n p)

lengths_same : (xs ys : List (Option ℕ)) → lengths_below xs ys ≡ true → lengths_below ys xs ≡ true → xs ≡ ys
lengths_same [] [] p q = refl
lengths_same [] (y ∷ ys) p q = absurd (no p)
lengths_same (x ∷ xs) [] p q = absurd (no p)
lengths_same (x ∷ xs) (y ∷ ys) p q =
    let a = and_parts (length_below x y) (lengths_below xs ys) p in
    let b = and_parts (length_below y x) (lengths_below ys xs) q in
    ap (λ z. z ∷ xs) (length_same x y a.0 b.0) ∙ ap (λ zs. y ∷ zs) (lengths_same xs ys a.1 b.1)

shape_same : (s t : Option (List (Option ℕ))) → shape_below s t ≡ true → shape_below t s ≡ true → s ≡ t
shape_same None None p q = refl
shape_same None (Some ys) p q = absurd (no p)
shape_same (Some xs) None p q = absurd (no q)
shape_same (Some xs) (Some ys) p q = ap (λ zs. Some zs) (lengths_same xs ys p q)

pub below_same : (f h : Inferred) → below f h ≡ true → below h f ≡ true → f ≡ h
below_same Unset Unset p q = refl
below_same Unset (Of b t) p q = absurd (no q)
below_same (Of a s) Unset p q = absurd (no p)
below_same (Of a s) (Of b t) p q =
    let u = and_parts (kind_below a b) (shape_below s t) p in
    let v = and_parts (kind_below b a) (shape_below t s) q in
    ap (λ z. Of z s) (kind_same a b u.0 v.0) ∙ ap (λ z. Of b z) (shape_same s t u.1 v.1)

-- ---- Another fact at one node

abbrev pub lowered : ℕ → Inferred → Family → Family
lowered i x g (cell.Node k) = if nat_eq k i then x else g (cell.Node k)
lowered i x g c = g c

abbrev seen_all : List (Option Inferred) → Progress → SeenAll
seen_all fs w = record { facts = fs; progress = w }

abbrev seen_argument : Option Inferred → Progress → SeenArgument
seen_argument o w = record { fact = o; progress = w }

module _ (c : Context) (g : Family) (i0 : ℕ) (x0 : Inferred) where
  name_same : (b : Binding) (n : ℕ) (ns : List Inferred) → name_fact c (lowered i0 x0 g) b n ns ≡ name_fact c g b n ns
  name_same (binds.Local k) n ns = refl
  name_same (binds.Label z) n ns = refl
  name_same (binds.Function j) n ns = refl
  name_same binds.Global n ns = refl

  mutual
    pub see_same : (t : Tree) (w : Progress) → see c (lowered i0 x0 g) t w ≡ see c g t w
    see_same (Numbers i p zs) w = refl
    see_same (Text i p cs) w = refl
    see_same (TextInput i p) w = refl
    see_same (NumsInput i p) w = refl
    see_same (Name i p n) w = ap (λ (x : Inferred). settles i x (denied_read p x w)) (name_same (c.binding n) n w.names)
    see_same (Mono i p f b) w = ap (λ (y : Seen). ruled i p (monadic_fact c.origin f (literal_of b) y.fact) y.progress) (see_same b w)
    see_same (Dyad i p f a b) w =
        let y = see c g b w in
        ap (λ (z : Seen). let x = see c (lowered i0 x0 g) a z.progress in ruled i p (dyadic_fact c.origin f (literal_of a) x.fact z.fact) x.progress) (see_same b w)
        ∙ ap (λ (x : Seen). ruled i p (dyadic_fact c.origin f (literal_of a) x.fact y.fact) x.progress) (see_same a y.progress)
    see_same (Index i p a xs) w =
        let y = see_all c g xs w in
        ap (λ (z : SeenAll). let x = see c (lowered i0 x0 g) a z.progress in ruled i p (index_fact x.fact z.facts) x.progress) (see_all_same xs w)
        ∙ ap (λ (x : Seen). ruled i p (index_fact x.fact y.facts) x.progress) (see_same a y.progress)
    see_same (Assign i p n a) w = ap (λ (y : Seen). assign_to c (c.binding n) i p n (settled y.fact) (settled y.fact) y.progress) (see_same a w)
    see_same (AssignAt i p n xs a) w =
        let y = see c g a w in
        let x = see_all c g xs y.progress in
        ap (λ (z : Seen). let x = see_all c (lowered i0 x0 g) xs z.progress in change_name c i p n (name_fact c (lowered i0 x0 g) (c.binding n) n x.progress.names) x.facts z.fact x.progress) (see_same a w)
        ∙ (ap (λ (x : SeenAll). change_name c i p n (name_fact c (lowered i0 x0 g) (c.binding n) n x.progress.names) x.facts y.fact x.progress) (see_all_same xs y.progress)
        ∙ ap (λ (o : Inferred). change_name c i p n o x.facts y.fact x.progress) (name_same (c.binding n) n x.progress.names))
    see_same (Show i p a) w = ap (λ (y : Seen). settles i (settled y.fact) y.progress) (see_same a w)
    see_same (Call i p n a b) w =
        let j = function_of (c.binding n) in
        let y = see_argument c g b w in
        ap (λ (z : SeenArgument). let x = see_argument c (lowered i0 x0 g) a z.progress in let r = call_fact x.fact z.fact (g (cell.Answer j)) in settles i r (denied_read p r (passed j x.fact z.fact x.progress))) (see_argument_same b w)
        ∙ ap (λ (x : SeenArgument). let r = call_fact x.fact y.fact (g (cell.Answer j)) in settles i r (denied_read p r (passed j x.fact y.fact x.progress))) (see_argument_same a y.progress)

    see_all_same : (ts : Trees) (w : Progress) → see_all c (lowered i0 x0 g) ts w ≡ see_all c g ts w
    see_all_same no_more w = refl
    see_all_same (left_out ts) w = ap (λ (y : SeenAll). seen_all (None ∷ y.facts) y.progress) (see_all_same ts w)
    see_all_same (and_tree t ts) w =
        let y = see_all c g ts w in
        ap (λ (z : SeenAll). let x = see c (lowered i0 x0 g) t z.progress in seen_all (Some x.fact ∷ z.facts) x.progress) (see_all_same ts w)
        ∙ ap (λ (x : Seen). seen_all (Some x.fact ∷ y.facts) x.progress) (see_same t y.progress)

    see_argument_same : (a : Argument) (w : Progress) → see_argument c (lowered i0 x0 g) a w ≡ see_argument c g a w
    see_argument_same absent w = refl
    see_argument_same (given t) w = ap (λ (x : Seen). seen_argument (Some x.fact) x.progress) (see_same t w)

  pub statement_same : (x : Action) (w : Progress) → see_statement c (lowered i0 x0 g) x w ≡ see_statement c g x w
  statement_same nothing w = refl
  statement_same (quiet t) w = ap (λ (y : Seen). y.progress) (see_same t w)
  statement_same (display t) w = ap (λ (y : Seen). y.progress) (see_same t w)
  statement_same (branch p t) w = ap (λ (y : Seen). denied_by p (branch_fact y.fact) y.progress) (see_same t w)
  statement_same (perform i p n a b) w =
      let j = function_of (c.binding n) in
      let y = see_argument c g b w in
      ap (λ (z : SeenArgument). let x = see_argument c (lowered i0 x0 g) a z.progress in asked (cell.Node i) (call_fact x.fact z.fact Unset) (passed j x.fact z.fact x.progress)) (see_argument_same b w)
      ∙ ap (λ (x : SeenArgument). asked (cell.Node i) (call_fact x.fact y.fact Unset) (passed j x.fact y.fact x.progress)) (see_argument_same a y.progress)

pub reaches_same : (g : Family) (i : ℕ) (x : Inferred) (j : ℕ) (f : Routine) (ns : List Inferred) (l : ℕ) (o : Option Action) → ReachesLine g j f ns l o → ReachesLine (lowered i x g) j f ns l o
reaches_same g i x j f ns l (Some a) h = h
reaches_same g i x j f ns l None h = answered f.result h
  where
    answered : (r : Option ℕ) → IsAnswered g j f r ns → IsAnswered (lowered i x g) j f r ns
    answered None h = h
    answered (Some n) h = h

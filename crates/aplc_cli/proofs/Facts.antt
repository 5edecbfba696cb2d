-- Each well-typed program has facts, one for each of its nodes, and the facts of a node are the same wherever they are
-- inferred.
use Rattle.std.proofs.Common.{◌≡◌, ◌∙◌, sym, ap, refl, subst, ℕ, zero, suc, ◌+◌, ◌<◌, ◌≤◌, List, [], ◌∷◌, Option, Some, None, Bool, true, false, nat_lt, arith, if◌then◌else◌}
use Rattle.std.specs.Prelude.{slice_get}
use Rattle.std.proofs.lemmas.Bool.Decides.{nat_tests}
use Rattle.aplc_lex.specs.declared.token.Refusal.{Refusal}
use Rattle.aplc_syntax.specs.declared.tree.Program.{Program}
use Rattle.aplc_names.specs.PlainPrograms.{PlainProgram, plain}
use Rattle.aplc_infer.specs.declared.fact.Inferred.{Inferred}
use Rattle.aplc_infer.specs.declared.fact.Inferred.TheVariants.{Unset, Of}
use Rattle.aplc_infer.specs.declared.facts.Fact.{Fact}
use Rattle.aplc_infer.specs.declared.cell.Cell.{Cell}
use Rattle.aplc_infer.specs.declared.cell.Cell.TheVariants as cell
use Rattle.aplc_infer.specs.declared.cell.Demand.{Demand}
use Rattle.aplc_infer.specs.Facts.{below}
use Rattle.aplc_infer.specs.Seeing.{Family, Declarations, declarations}
use Rattle.aplc_infer.specs.Families.{AreMet, IsBelow, IsLeast, IsWellTyped}
use Rattle.aplc_infer.specs.Shown.{shown, fact_at, IsInferred}
use Rattle.aplc_infer.proofs.Alongside.{cells}
use Rattle.aplc_infer.proofs.Asks.{program_asks, asked, meets, same_cells}
use Rattle.aplc_infer.proofs.Climbing.{least_family}
use Rattle.aplc_infer.proofs.Order.{below_refl}
use Rattle.aplc_infer.proofs.Refused.{least_fine}
use Rattle.aplc_infer.proofs.Verdicts.{same_family}

-- ---- One fact for a node

pub same_facts : (p : Program) (f h : List (Option Fact)) → IsInferred p f → IsInferred p h → (n : ℕ) → fact_at f n ≡ fact_at h n
same_facts p f h a b n =
    let same : a.family ≡ b.family = same_family a.family b.family (a.least.least b.family b.least.rules) (b.least.least a.family a.least.rules) in
    a.each n ∙ ap (λ (g : Family). shown (g (cell.Node n))) same ∙ sym (b.each n)

-- ---- The nodes of a program are finitely many

abbrev node_number : Cell → ℕ
node_number (cell.Node n) = n
node_number c = 0

-- a number above those of all nodes among some cells
abbrev beyond : List Cell → ℕ
beyond [] = 0
beyond (c ∷ cs) = suc (node_number c) + beyond cs

-- a family without its facts of nodes from a number on
abbrev cut_off : Family → ℕ → Family
cut_off g most (cell.Node n) = if nat_lt n most then g (cell.Node n) else Unset
cut_off g most c = g c

kept : (g : Family) (most : ℕ) (f : Inferred) (c : Cell) → node_number c < most → below f (g c) ≡ true → below f (cut_off g most c) ≡ true
kept g most f (cell.Node n) less e =
    let within : nat_lt n most ≡ true = grind (arith, nat_tests) in
    subst (λ t. below f (if t then g (cell.Node n) else Unset) ≡ true) (sym within) e
kept g most f (cell.Global n) less e = e
kept g most f (cell.Left j) less e = e
kept g most f (cell.Right j) less e = e
kept g most f (cell.Answer j) less e = e
kept g most f (cell.Start j l k) less e = e

all_kept : (g : Family) (most : ℕ) (xs : List Demand) → beyond (cells xs) ≤ most → AreMet g xs → AreMet (cut_off g most) xs
all_kept g most [] le met = tt
all_kept g most (x ∷ xs) le met = (kept g most x.fact x.cell (omega (arith, le)) met.0, all_kept g most xs (omega (arith, le)) met.1)

cut_below : (g : Family) (most : ℕ) → IsBelow (cut_off g most) g
cut_below g most (cell.Node n) = by_test (nat_lt n most)
  where
    by_test : (t : Bool) → below (if t then g (cell.Node n) else Unset) (g (cell.Node n)) ≡ true
    by_test true = below_refl (g (cell.Node n))
    by_test false = refl
cut_below g most (cell.Global n) = below_refl (g (cell.Global n))
cut_below g most (cell.Left j) = below_refl (g (cell.Left j))
cut_below g most (cell.Right j) = below_refl (g (cell.Right j))
cut_below g most (cell.Answer j) = below_refl (g (cell.Answer j))
cut_below g most (cell.Start j l k) = below_refl (g (cell.Start j l k))

below_unset : (f : Inferred) → below f Unset ≡ true → f ≡ Unset
below_unset Unset e = refl
below_unset (Of a s) e = cc

module _ (d : Declarations) (p : PlainProgram) (g : Family) (least : IsLeast d p g) where
  abbrev most : ℕ
  most = beyond (cells (program_asks d p g))

  abbrev short : Family
  short = cut_off g most

  short_meets : AreMet short (program_asks d p short)
  short_meets =
      let le : beyond (cells (program_asks d p short)) ≤ most = subst (λ cs. beyond cs ≤ most) (same_cells d p g short) (omega arith) in
      all_kept g most (program_asks d p short) le (asked d p short g (cut_below g most) least.rules)

  -- the least family has no fact of a node of a greater number
  unset_beyond : (n : ℕ) → most ≤ n → g (cell.Node n) ≡ Unset
  unset_beyond n le =
      let past : nat_lt n most ≡ false = grind (arith, nat_tests) in
      below_unset (g (cell.Node n))
      (subst (λ t. below (g (cell.Node n)) (if t then g (cell.Node n) else Unset) ≡ true) past (least.least short (meets d p short short_meets) (cell.Node n)))

-- ---- The facts as a list

abbrev listed : (ℕ → Option Fact) → ℕ → List (Option Fact)
listed f zero = []
listed f (suc n) = f 0 ∷ listed (λ i. f (suc i)) n

each_listed : (f : ℕ → Option Fact) (n : ℕ) → ((i : ℕ) → n ≤ i → f i ≡ None) → (i : ℕ) → fact_at (listed f n) i ≡ f i
each_listed f zero none i = sym (none i (omega arith))
each_listed f (suc n) none zero = refl
each_listed f (suc n) none (suc i) = each_listed (λ k. f (suc k)) n (λ k le. none (suc k) (omega (arith, le))) i

pub has_facts : (p : Program) → IsWellTyped p → (facts : List (Option Fact)) × IsInferred p facts
has_facts p typed =
    let found = least_family (declarations p.vars) (plain p) in
    let g : Family = found.0 in
    let top = most (declarations p.vars) (plain p) g found.1 in
    let fact : ℕ → Option Fact = λ n. shown (g (cell.Node n)) in (
      listed fact top,
      record {
        family = g;
        least = found.1;
        fine = least_fine p g found.1 typed;
        each = each_listed fact top (λ n le. ap shown (unset_beyond (declarations p.vars) (plain p) g found.1 n le));
      },
    )

-- Steppers and lengths of arrays that stand in memory, as pieces of code before their elements.
-- It must not know what is made of the elements.
use Rattle.std.proofs.Common.{◌≡◌, ℕ, ◌+◌, ◌≤◌, List, [], ◌∷◌, ◌++◌, length, refl, sym, ap, ◌∙◌, subst, arith, true}
use Rattle.aplc_cprof.specs.declared.syntax.Int.{Int}
use Rattle.aplc_cprof.specs.declared.syntax.Int.TheVariants as int
use Rattle.aplc_cprof.specs.Blocks.{Blocks}
use Rattle.aplc_cprof.specs.WellFormed.{Scope, is_int}
use Rattle.aplc_cprof.specs.Frames.{AreGiven, AreOld, Stays, Hold}
use Rattle.aplc_cprof.specs.Emitted.{IsWithin, AreInts}
use Rattle.aplc_cprof.proofs.Paths.{does_weaken}
use Rattle.aplc_cprof.proofs.Frames.{given_left, given_right, stays_none}
use Rattle.aplc_cprof.proofs.Emitted.{is_below, within_left, within_right}
use Rattle.aplc_collect.specs.Elements.{scope_of}
use Rattle.aplc_step.specs.Steppers.{AreFresh, origin_scope, scope_of_all}
use Rattle.aplc_stage.specs.declared.staged.Staged.{Staged}
use Rattle.aplc_stage.specs.declared.staged.Staged.TheVariants as staged
use Rattle.aplc_stage.specs.Staged.{lengths_of, scope_of_staged}
use Rattle.aplc_stage.specs.Computes.{NoFault}
use Rattle.aplc_stage.specs.Pieces.{with_code, locals, copies, OwnLengths}
use Rattle.aplc_stage.proofs.Setting.{locals_declared, wholes, as_ints, as_lengths, Took, copies_run, copies_formed}

-- ---- Names

pub name_declared : (x : Int) (b : Blocks) (sc : Scope) → AreGiven (scope_of x) b → IsWithin (scope_of x) sc → b.ints ≤ sc.ints → is_int sc x ≡ true
name_declared (int.Local k) b sc g w le = let i = g.ints in is_below k sc.ints (omega (arith, i, le))
name_declared (int.Global k) b sc g w le = let i = w.global_ints in is_below k sc.global_ints (omega (arith, i))

names_declared : (xs : List Int) (b : Blocks) (sc : Scope) → AreGiven (scope_of_all xs) b → IsWithin (scope_of_all xs) sc → b.ints ≤ sc.ints → AreInts sc xs
names_declared [] b sc g w le = tt
names_declared (x ∷ xs) b sc g w le = (
  name_declared x b sc (given_left (scope_of x) (scope_of_all xs) b g) (within_left (scope_of x) (scope_of_all xs) sc w) le,
  names_declared xs b sc (given_right (scope_of x) (scope_of_all xs) b g) (within_right (scope_of x) (scope_of_all xs) sc w) le,
)

-- the lengths of a value are declared wherever its names are
pub lengths_declared : (x : Staged) (b : Blocks) (sc : Scope) → AreGiven (scope_of_staged x) b → IsWithin (scope_of_staged x) sc → b.ints ≤ sc.ints → AreInts sc (lengths_of x)
lengths_declared (staged.Scalar x) b sc g w le = tt
lengths_declared (staged.Cells from lengths) b sc g w le =
    names_declared lengths b sc (given_right (origin_scope from) (scope_of_all lengths) b g) (within_right (origin_scope from) (scope_of_all lengths) sc w) le

pub locals_fresh : (n m k : ℕ) (like : List Int) → n ≤ k → k + length like ≤ m → AreFresh n m (locals k like)
locals_fresh n m k [] le room = tt
locals_fresh n m k (x ∷ like) le room = ((le, omega (arith, room)), locals_fresh n m (k + 1) like (omega (arith, le)) (omega (arith, room)))

-- ---- Lengths of its own

pub own_built : (b0 b1 b2 : Blocks) (others names : List Int) → AreOld b0.ints others → names ≡ locals b0.ints others → b1 ≡ record b0 { ints = b0.ints + length others } → b2 ≡ with_code (copies names others) b1 → OwnLengths b0 b2 others names
own_built b0 b1 b2 others names old en e1 e2 = record {
  code = copies (locals n others) others;
  grown = record {
    inner = ap (λ (b : Blocks). b.inner) e2 ∙ ap (λ (b : Blocks). b.inner ++ copies names others) e1 ∙ ap (λ (l : List Int). b0.inner ++ copies l others) en;
    outer = ap (λ (b : Blocks). b.outer) e2 ∙ ap (λ (b : Blocks). b.outer) e1;
    ints = omega (arith, ints2);
    bufs = omega (arith, bufs2);
  };
  bufs = bufs2;
  names = ints2;
  lengths_are = en;
  formed = λ sc room within are bufs more more_bufs le. copies_formed sc room (locals n others) others (locals_declared sc n others (omega (arith, ints2, more))) are;
  runs = λ c s ns hold.
      does_weaken c (Stays n b0.bufs s) (Stays n b0.bufs s) (length others) (length others) (copies (locals n others) others) s (Took n b0.bufs n (locals n others) (wholes ns) s s) (λ t. Stays n b0.bufs s t × Hold t names ns) NoFault NoFault (λ u x. x)
      (λ u took. (took.since, subst (λ (l : List Int). Hold u l ns) (sym en) (as_lengths u (locals n others) ns took.held)))
      (λ i u x. x) (omega arith)
      (copies_run c n b0.bufs s NoFault n others others (wholes ns) s (omega arith) old refl (as_ints s others ns hold) (stays_none n b0.bufs s));
}
  where
    n : ℕ
    n = b0.ints

    ints2 : b2.ints ≡ n + length others
    ints2 = ap (λ (b : Blocks). b.ints) e2 ∙ ap (λ (b : Blocks). b.ints) e1

    bufs2 : b2.bufs ≡ b0.bufs
    bufs2 = ap (λ (b : Blocks). b.bufs) e2 ∙ ap (λ (b : Blocks). b.bufs) e1

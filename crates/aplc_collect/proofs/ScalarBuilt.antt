-- What the calls that add code of scalar functions leave.
use Rattle.std.proofs.Common.{◌≡◌, ◌+◌, [], ◌∷◌, ◌++◌, sym, ap, ◌∙◌, subst, arith}
use Rattle.std.specs.Prelude.{IsTrue}
use Rattle.aplc_scalar.specs.declared.function.ScalarFn.{ScalarFn}
use Rattle.aplc_scalar.specs.Scalar.{dyadic, monadic, is_dyadic}
use Rattle.aplc_cprof.specs.declared.syntax.Int.{Int}
use Rattle.aplc_cprof.specs.declared.syntax.Int.TheVariants as int
use Rattle.aplc_cprof.specs.declared.syntax.CStmt.{CStmt}
use Rattle.aplc_cprof.specs.Blocks.{Blocks}
use Rattle.aplc_cprof.specs.Frames.{IsOld, IsFresh}
use Rattle.aplc_cprof.specs.Emitted.{Grown}
use Rattle.aplc_cprof.proofs.Emitted.{fresh_declared}
use Rattle.aplc_collect.specs.Elements.{Yields}
use Rattle.aplc_collect.specs.Scalars.{EmitsMono, EmitsDyad, mono_steps, mono_depth, dyad_steps, dyad_depth, dyad_stmt, mono_stmt}
use Rattle.aplc_collect.proofs.DyadYields.{dyad_yields}
use Rattle.aplc_collect.proofs.MonoYields.{mono_yields}
use Rattle.aplc_collect.proofs.ScalarFormed.{dyad_formed, mono_formed}

-- a fresh name, and a statement behind the others
module _ (b0 b1 b2 : Blocks) (v : Int) (code : CStmt) (ev : v ≡ int.Local b0.ints) (e1 : b1 ≡ record b0 { ints = b0.ints + 1 }) (e2 : b2 ≡ record b1 { inner = b1.inner ++ code ∷ [] }) where
  ints2 : b2.ints ≡ b0.ints + 1
  ints2 = ap (λ (b : Blocks). b.ints) e2 ∙ ap (λ (b : Blocks). b.ints) e1

  bufs2 : b2.bufs ≡ b0.bufs
  bufs2 = ap (λ (b : Blocks). b.bufs) e2 ∙ ap (λ (b : Blocks). b.bufs) e1

  grown_is : Grown (code ∷ []) b0 b2
  grown_is = record {
    inner = ap (λ (b : Blocks). b.inner) e2 ∙ ap (λ (b : Blocks). b.inner ++ code ∷ []) e1;
    outer = ap (λ (b : Blocks). b.outer) e2 ∙ ap (λ (b : Blocks). b.outer) e1;
    ints = omega (arith, ints2);
    bufs = omega (arith, bufs2);
  }

  fresh_is : IsFresh b0.ints b2.ints v
  fresh_is = let h : IsFresh b0.ints b2.ints (int.Local b0.ints) = (omega arith, omega (arith, ints2)) in subst (λ (x : Int). IsFresh b0.ints b2.ints x) (sym ev) h

pub dyad_built : (g : ScalarFn) (b0 b1 b2 : Blocks) (left right v : Int) (code : CStmt) → IsTrue (is_dyadic g) → IsOld b0.ints left → v ≡ int.Local b0.ints → b1 ≡ record b0 { ints = b0.ints + 1 } → code ≡ dyad_stmt g v left right → b2 ≡ record b1 { inner = b1.inner ++ code ∷ [] } → EmitsDyad (dyadic g) (dyad_steps g) dyad_depth b0 b2 left right v
dyad_built g b0 b1 b2 left right v code form old ev e1 ec e2 = record {
  code = dyad_stmt g v left right ∷ [];
  grown = subst (λ (x : CStmt). Grown (x ∷ []) b0 b2) ec (grown_is b0 b1 b2 v code ev e1 e2);
  fresh = fresh_is b0 b1 b2 v code ev e1 e2;
  formed = λ sc room within are bufs more more_bufs le. dyad_formed sc v left right room le (fresh_declared sc b0.ints b2.ints v (fresh_is b0 b1 b2 v code ev e1 e2) more) are.0 are.1.0 g;
  runs = λ c s x y hl hr in_x in_y.
      subst (λ (w : Int). Yields c b0.ints b0.bufs (dyad_steps g) (dyad_stmt g w left right ∷ []) s w (dyadic g x y)) (sym ev)
      (dyad_yields c b0.ints b0.bufs s b0.ints (omega arith) g left right x y form old hl hr in_x);
}

pub mono_built : (g : ScalarFn) (b0 b1 b2 : Blocks) (a v : Int) (code : CStmt) → v ≡ int.Local b0.ints → b1 ≡ record b0 { ints = b0.ints + 1 } → code ≡ mono_stmt g v a → b2 ≡ record b1 { inner = b1.inner ++ code ∷ [] } → EmitsMono (monadic g) mono_steps mono_depth b0 b2 a v
mono_built g b0 b1 b2 a v code ev e1 ec e2 = record {
  code = mono_stmt g v a ∷ [];
  grown = subst (λ (x : CStmt). Grown (x ∷ []) b0 b2) ec (grown_is b0 b1 b2 v code ev e1 e2);
  fresh = fresh_is b0 b1 b2 v code ev e1 e2;
  formed = λ sc room within are bufs more more_bufs le. mono_formed sc v a room le (fresh_declared sc b0.ints b2.ints v (fresh_is b0 b1 b2 v code ev e1 e2) more) are.0 g;
  runs = λ c s x h in_x.
      subst (λ (w : Int). Yields c b0.ints b0.bufs mono_steps (mono_stmt g w a ∷ []) s w (monadic g x)) (sym ev)
      (mono_yields c b0.ints b0.bufs s b0.ints (omega arith) g a x h in_x);
}

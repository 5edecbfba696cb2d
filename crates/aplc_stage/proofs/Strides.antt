-- Strides of an array beside others, whose shape it keeps or whose one element is extended.
-- It must not know what the elements are.
use Rattle.std.proofs.Common.{◌≡◌, ℕ, zero, suc, ◌+◌, ◌*◌, ◌<◌, List, [], ◌∷◌, ◌++◌, length, refl, sym, ap, ◌∙◌, subst, arith, ℤ}
use Rattle.std.specs.Prelude.{Some, pos, ◌+ℤ◌, ◌*ℤ◌}
use Rattle.std.proofs.lemmas.Int.{ints}
use Rattle.aplc_arr.specs.Arrays.{product, IsIndexOf}
use Rattle.aplc_cprof.specs.declared.syntax.Int.{Int}
use Rattle.aplc_cprof.specs.declared.syntax.CExpr.TheVariants as expr
use Rattle.aplc_cprof.specs.declared.syntax.CStmt.{CStmt}
use Rattle.aplc_cprof.specs.Blocks.{Blocks}
use Rattle.aplc_cprof.specs.Machine.{State, Code, Todo, settled}
use Rattle.aplc_cprof.specs.Frames.{IsOld, AreOld, Stays, Hold}
use Rattle.aplc_cprof.proofs.Values.{value_Var}
use Rattle.aplc_cprof.proofs.Paths.{Does, does_weaken, does_if, does_else}
use Rattle.aplc_cprof.proofs.Frames.{stays_none, stays_settled, hold_stays, read_stays}
use Rattle.aplc_cprof.proofs.Emitted.{var_formed, if_else_formed, one_stmt}
use Rattle.aplc_step.specs.Steppers.{address, HoldInts, AreAxes, StepsOver, zeros}
use Rattle.aplc_step.proofs.Addresses.{address_zeros}
use Rattle.aplc_stage.specs.Computes.{NoFault}
use Rattle.aplc_stage.specs.Pieces.{locals, copies, clears, extend_stmt, Beside, Kept, Extended, Own, First, SteppedBeside, KeepsOrExtends}
use Rattle.aplc_stage.proofs.Setting.{locals_declared, nones, Took, copies_run, clears_run, copies_formed, clears_formed}

-- ---- Strides 0

pub zeros_first : (ns : List ℕ) → 0 < product ns → IsIndexOf ns (zeros ns)
zeros_first [] h = tt
zeros_first (n ∷ ns) h = let parts = both n (product ns) h in (parts.0, zeros_first ns parts.1)
  where
    both : (a b : ℕ) → 0 < a * b → (0 < a) × (0 < b)
    both zero b h = absurd (omega (arith, h))
    both (suc a) zero h = let e : suc a * 0 ≡ 0 = omega arith in absurd (omega (arith, h, e))
    both (suc a) (suc b) h = (omega arith, omega arith)

stays_put : (first : ℤ) (xs : List Int) (is : List ℕ) → address first (nones xs) is ≡ first
stays_put first [] is = refl
stays_put first (x ∷ xs) [] = refl
stays_put first (x ∷ xs) (i ∷ is) = let e : first +ℤ pos i *ℤ pos 0 ≡ first = omega (arith, ints) in ap (λ b. address b (nones xs) is) e ∙ stays_put first xs is

-- as many strides as axes
axes_many : (s : State) (xs : List Int) (zs : List ℤ) (ns : List ℕ) → HoldInts s xs zs → AreAxes zs ns → length xs ≡ length ns
axes_many s [] [] [] h a = refl
axes_many s [] [] (n ∷ ns) h a = absurd a
axes_many s [] (z ∷ zs) ns h a = absurd h
axes_many s (x ∷ xs) [] ns h a = absurd h
axes_many s (x ∷ xs) (z ∷ zs) [] h a = absurd a
axes_many s (x ∷ xs) (z ∷ zs) (n ∷ ns) h a = ap suc (axes_many s xs zs ns h.1 a)

none_axes : (xs : List Int) (ns : List ℕ) → length xs ≡ length ns → AreAxes (nones xs) ns
none_axes [] [] e = tt
none_axes [] (n ∷ ns) e = absurd (omega (arith, e))
none_axes (x ∷ xs) [] e = absurd (omega (arith, e))
none_axes (x ∷ xs) (n ∷ ns) e = none_axes xs ns (omega (arith, e))

-- ---- The code

module _ (c : Code) (n m size : ℕ) (keeps base : Int) (others widths lengths : List Int) (s : State) (ns rs : List ℕ) (own : List ℕ → ℕ) (old_base : IsOld n base) (old_widths : AreOld n widths) (old_lengths : AreOld n lengths) (over : StepsOver others base widths s ns own size) (hold : Hold s lengths rs) where
  abbrev Post : State → Type 0
  Post = SteppedBeside lengths base (locals n widths) n m size ns rs own s

  abbrev Way : State → Type 0
  Way = Stays n m s

  abbrev code : List CStmt
  code = extend_stmt keeps (locals n widths) widths ∷ []

  on : (todo : Todo) → Way (settled (record s { todo = todo }))
  on todo = stays_settled n m s s todo (stays_none n m s)

  -- the own strides
  own_post : ns ≡ rs → (t : State) → Took n m n (locals n widths) over.widths s (settled s) t → Post t
  own_post e t took = record {
    stays = took.since;
    at = own;
    over = record {
      shape = hold_stays n m s t lengths rs took.since old_lengths hold;
      first = over.first;
      widths = over.widths;
      base_is = read_stays n m s t base took.since old_base ∙ over.base_is;
      strides_are = took.held;
      axes = subst (AreAxes over.widths) e over.axes;
      at_place = λ is h. over.at_place is (subst (λ (l : List ℕ). IsIndexOf l is) (sym e) h);
      below = λ is h. over.below is (subst (λ (l : List ℕ). IsIndexOf l is) (sym e) h);
    };
    places = Own e (λ is h. refl);
  }

  -- no strides
  first_post : product ns ≡ 1 → (ns ≡ rs → ⊥) → length ns ≡ length rs → (t : State) → Took n m n (locals n widths) (nones widths) s (settled s) t → Post t
  first_post one other many t took =
      let start = zeros_first ns (omega (arith, one)) in
      let first_is : over.first ≡ pos (own (zeros ns)) = sym (first_place over.widths ns) ∙ over.at_place (zeros ns) start in
      record {
        stays = took.since;
        at = λ is. own (zeros ns);
        over = record {
          shape = hold_stays n m s t lengths rs took.since old_lengths hold;
          first = over.first;
          widths = nones widths;
          base_is = read_stays n m s t base took.since old_base ∙ over.base_is;
          strides_are = took.held;
          axes = none_axes widths rs (axes_many s widths over.widths ns over.strides_are over.axes ∙ many);
          at_place = λ is h. stays_put over.first widths is ∙ first_is;
          below = λ is h. over.below (zeros ns) start;
        };
        places = First one other (λ is h. refl);
      }
    where
      first_place : (ws : List ℤ) (ks : List ℕ) → address over.first ws (zeros ks) ≡ over.first
      first_place ws ks = address_zeros over.first ws ks

  pub extend_runs : Beside keeps s ns rs → length ns ≡ length rs → Does c Way (length widths + 1) code s Post NoFault
  extend_runs (Kept is e) many =
      does_if c Way (length widths) (expr.Var keeps) (copies (locals n widths) widths) (Some (clears (locals n widths))) s Post NoFault (pos 1) (value_Var keeps c.tables s ∙ is) refl on
      (does_weaken c Way Way (length widths) (length widths) (copies (locals n widths) widths) (settled s) (Took n m n (locals n widths) over.widths s (settled s)) Post NoFault NoFault (λ u x. x) (own_post e) (λ kind u x. x) (omega arith)
      (copies_run c n m s NoFault n widths widths over.widths (settled s) (omega arith) old_widths refl over.strides_are (on s.todo)))
  extend_runs (Extended is one other) many =
      does_else c Way (length widths) (expr.Var keeps) (copies (locals n widths) widths) (Some (clears (locals n widths))) s Post NoFault (pos 0) (value_Var keeps c.tables s ∙ is) refl on
      (does_weaken c Way Way (length widths) (length widths) (clears (locals n widths)) (settled s) (Took n m n (locals n widths) (nones widths) s (settled s)) Post NoFault NoFault (λ u x. x) (first_post one other many) (λ kind u x. x) (omega arith)
      (clears_run c n m s NoFault n widths (settled s) (omega arith) (on s.todo)))

-- ---- The builder's states

pub keeps_built : (b0 b1 b2 : Blocks) (keeps base : Int) (others widths lengths names : List Int) (s : CStmt) → IsOld b0.ints base → AreOld b0.ints widths → AreOld b0.ints lengths → names ≡ locals b0.ints widths → b1 ≡ record b0 { ints = b0.ints + length widths } → s ≡ extend_stmt keeps names widths → b2 ≡ record b1 { inner = b1.inner ++ s ∷ [] } → KeepsOrExtends b0 b2 keeps others base widths lengths names
keeps_built b0 b1 b2 keeps base others widths lengths names s old_base old_widths old_lengths en e1 es e2 = record {
  code = extend_stmt keeps (locals n widths) widths ∷ [];
  grown = record {
    inner = ap (λ (b : Blocks). b.inner) e2 ∙ ap (λ (b : Blocks). b.inner ++ s ∷ []) e1 ∙ ap (λ (x : CStmt). b0.inner ++ x ∷ []) (es ∙ ap (λ (l : List Int). extend_stmt keeps l widths) en);
    outer = ap (λ (b : Blocks). b.outer) e2 ∙ ap (λ (b : Blocks). b.outer) e1;
    ints = omega (arith, ints2);
    bufs = omega (arith, bufs2);
  };
  bufs = bufs2;
  strides_are = en;
  names = ints2;
  formed = λ sc room within are bufs more more_bufs le.
      let own = locals_declared sc n widths (omega (arith, ints2, more)) in
      one_stmt sc (Some room) (extend_stmt keeps (locals n widths) widths) []
      (if_else_formed sc 1 room (expr.Var keeps) (copies (locals n widths) widths) (clears (locals n widths)) (omega (arith, le)) (var_formed sc keeps are.0 room)
      (λ r kr. copies_formed sc r (locals n widths) widths own are.1) (λ r kr. clears_formed sc r (locals n widths) own))
      refl;
  runs = λ c t ns rs own size over beside hold many.
      subst (λ (l : List Int). Does c (Stays n b0.bufs t) (length widths + 1) (extend_stmt keeps (locals n widths) widths ∷ []) t (SteppedBeside lengths base l n b0.bufs size ns rs own t) NoFault) (sym en)
      (extend_runs c n b0.bufs size keeps base others widths lengths t ns rs own old_base old_widths old_lengths over hold beside many);
}
  where
    n : ℕ
    n = b0.ints

    ints2 : b2.ints ≡ n + length widths
    ints2 = ap (λ (b : Blocks). b.ints) e2 ∙ ap (λ (b : Blocks). b.ints) e1

    bufs2 : b2.bufs ≡ b0.bufs
    bufs2 = ap (λ (b : Blocks). b.bufs) e2 ∙ ap (λ (b : Blocks). b.bufs) e1

-- What the code of fused elements does.
use Rattle.std.proofs.Common.{◌≡◌, ℕ, ◌+◌, ◌≤◌, List, [], ◌++◌, ap, ◌∙◌, arith, ℤ}
use Rattle.std.specs.Prelude.{Result, IfOk, Some, Ok, Err, max}
use Rattle.aplc_scalar.specs.declared.kind.FaultKind.{FaultKind}
use Rattle.aplc_scalar.specs.Scalar.{Given, IsInRange}
use Rattle.aplc_cprof.specs.declared.syntax.Int.{Int}
use Rattle.aplc_cprof.specs.declared.syntax.CStmt.{CStmt}
use Rattle.aplc_cprof.specs.Blocks.{Blocks}
use Rattle.aplc_cprof.specs.WellFormed.{Scope}
use Rattle.aplc_cprof.specs.Machine.{State, Code, Is, read_int}
use Rattle.aplc_cprof.specs.Frames.{IsOld, AreOld, AreGiven, Stays, Hold}
use Rattle.aplc_cprof.specs.Emitted.{joint, IsFormed}
use Rattle.aplc_cprof.proofs.Paths.{Does, does_then, does_weaken}
use Rattle.aplc_cprof.proofs.Frames.{fresh_old, fresh_wider, given_left, stays_then, stays_less, read_stays, hold_stays, seen_stays}
use Rattle.aplc_cprof.proofs.Emitted.{fresh_declared, stmts_append, within_left, within_right, grown_then}
use Rattle.aplc_collect.specs.Elements.{Test, Steps, ReadsWithin, GivesInRange, Computed, Failed, Yields, Emits}
use Rattle.aplc_collect.specs.Scalars.{EmitsMono, EmitsDyad}
use Rattle.aplc_collect.specs.Fused.{of_two, dyad_test, steps_of_two, of_one, mono_test, steps_of_one}
use Rattle.aplc_collect.specs.FusedLaws.{Function, Parts, parts, Part, part}

-- what a call says of its value, and more
pub if_ok : {T E : Type 0} {A B : T → Type 0} (r : Result T E) → ((x : T) → A x → B x) → IfOk r A → IfOk r B
if_ok (Ok x) f h = f x h
if_ok (Err e) f h = tt

-- ---- Both parts, the right one first, and then the function

module _ (f : Function) (k : ℕ) (l r : Test) (ls rs : Steps) (g : Scope) (keeps_l : GivesInRange l) (keeps_r : GivesInRange r) (reads_l : ReadsWithin g l ls) where
  dyad_runs : (n m n1 m1 n2 m2 : ℕ) (at : List Int) (vr vl v : Int) (cr cl cf : List CStmt) → n ≤ n1 → m ≤ m1 → n1 ≤ n2 → m1 ≤ m2 → g.ints ≤ n → g.bufs ≤ m → AreOld n at → IsOld n1 vr → (c : Code) → ((s : State) (is : List ℕ) (z : Given) → Hold s at is → r c.tables s is ≡ Some z → Yields c n m (rs c.tables s) cr s vr z) → ((s : State) (is : List ℕ) (z : Given) → Hold s at is → l c.tables s is ≡ Some z → Yields c n1 m1 (ls c.tables s) cl s vl z) → ((s : State) (x y : ℤ) → read_int vl s ≡ Is x → read_int vr s ≡ Is y → IsInRange x → IsInRange y → Yields c n2 m2 k cf s v (f x y)) → (s : State) (is : List ℕ) (z : Given) → Hold s at is → dyad_test f l r c.tables s is ≡ Some z → Yields c n m (steps_of_two k ls rs c.tables s) (cr ++ (cl ++ cf)) s v z
  dyad_runs n m n1 m1 n2 m2 at vr vl v cr cl cf le leb le1 leb1 given given_bufs old old_r c runs_r runs_l runs_f s is z hold test_is = both (parts f (l c.tables s is) (r c.tables s is) z test_is)
    where
      Q : State → Type 0
      Q = Stays n m s

      Post : State → Type 0
      Post = Computed n m s v z

      Fail : FaultKind → State → Type 0
      Fail = Failed n m s z

      both : Parts f (l c.tables s is) (r c.tables s is) z → Yields c n m (steps_of_two k ls rs c.tables s) (cr ++ (cl ++ cf)) s v z
      both p =
          does_weaken c Q Q (rs c.tables s + (ls c.tables s + k)) (steps_of_two k ls rs c.tables s) (cr ++ (cl ++ cf)) s Post Post Fail Fail (λ u x. x) (λ u x. x) (λ kind u x. x) (omega arith)
          (does_then c Q (rs c.tables s) (ls c.tables s + k) cr (cl ++ cf) s (Computed n m s vr p.right) Post Fail
          (does_weaken c Q Q (rs c.tables s) (rs c.tables s) cr s (Computed n m s vr p.right) (Computed n m s vr p.right) (Failed n m s p.right) Fail (λ u x. x) (λ u x. x)
          (λ kind u x. record { stays = x.stays; given = p.whole ∙ ap (of_two f p.left) x.given })
          (omega arith) (runs_r s is p.right hold p.right_is))
          (λ t d. left_does p t d))
        where
          left_does : (p : Parts f (l c.tables s is) (r c.tables s is) z) (t : State) → Computed n m s vr p.right t → Does c Q (ls c.tables s + k) (cl ++ cf) t Post Fail
          left_does p t d =
              let seen = seen_stays g n m s t given given_bufs d.stays in
              let steps_are : ls c.tables t ≡ ls c.tables s = reads_l.same_steps c.tables s t seen in
              let left_is : l c.tables t is ≡ Some p.left = reads_l.same c.tables s t seen is ∙ p.left_is in
              does_then c Q (ls c.tables s) k cl cf t (Computed n1 m1 t vl p.left) Post Fail
              (does_weaken c (Stays n1 m1 t) Q (ls c.tables t) (ls c.tables s) cl t (Computed n1 m1 t vl p.left) (Computed n1 m1 t vl p.left) (Failed n1 m1 t p.left) Fail
              (λ u x. stays_then n m s t u d.stays (stays_less n n1 m m1 t u le leb x)) (λ u x. x)
              (λ kind u x. record { stays = stays_then n m s t u d.stays (stays_less n n1 m m1 t u le leb x.stays); given = p.whole ∙ ap (of_two f p.left) d.given ∙ ap (λ q. of_two f q (Ok d.value)) x.given })
              (omega (arith, steps_are)) (runs_l t is p.left (hold_stays n m s t at is d.stays old hold) left_is))
              (λ u e. function_does p t d u e)
            where
              function_does : (p : Parts f (l c.tables s is) (r c.tables s is) z) (t : State) (d : Computed n m s vr p.right t) (u : State) → Computed n1 m1 t vl p.left u → Does c Q k cf u Post Fail
              function_does p t d u e =
                  let to_u : Stays n m s u = stays_then n m s t u d.stays (stays_less n n1 m m1 t u le leb e.stays) in
                  let whole : z ≡ f e.value d.value = p.whole ∙ ap (of_two f p.left) d.given ∙ ap (λ q. of_two f q (Ok d.value)) e.given in
                  let in_l = keeps_l.within c.tables s is e.value (p.left_is ∙ ap Some e.given) in
                  let in_r = keeps_r.within c.tables s is d.value (p.right_is ∙ ap Some d.given) in
                  let onward = λ (w : State) (x : Stays n2 m2 u w). stays_then n m s u w to_u (stays_less n n2 m m2 u w (omega (arith, le, le1)) (omega (arith, leb, leb1)) x) in
                  does_weaken c (Stays n2 m2 u) Q k k cf u (Computed n2 m2 u v (f e.value d.value)) Post (Failed n2 m2 u (f e.value d.value)) Fail
                  onward
                  (λ w x. record { stays = onward w x.stays; value = x.value; given = whole ∙ x.given; is = x.is })
                  (λ kind w x. record { stays = onward w x.stays; given = whole ∙ x.given })
                  (omega arith)
                  (runs_f u e.value d.value e.is (read_stays n1 m1 t u vr e.stays old_r ∙ d.is) in_l in_r)

pub dyad_emits : (f : Function) (k depth : ℕ) (l r : Test) (ls rs : Steps) (g h : Scope) (dl dr : ℕ) (b0 b1 b2 b3 : Blocks) (at : List Int) (vr vl v : Int) → GivesInRange l → GivesInRange r → ReadsWithin g l ls → AreGiven (joint g h) b0 → AreOld b0.ints at → Emits r rs h dr b0 b1 at vr → Emits l ls g dl b1 b2 at vl → EmitsDyad f k depth b2 b3 vl vr v → Emits (dyad_test f l r) (steps_of_two k ls rs) (joint g h) (max (max dl dr) depth) b0 b3 at v
dyad_emits f k depth l r ls rs g h dl dr b0 b1 b2 b3 at vr vl v keeps_l keeps_r reads_l given old er el ef =
    let given_l = given_left g h b0 given in
    let i1 = er.grown.ints in
    let i2 = el.grown.ints in
    record {
      code = er.code ++ (el.code ++ ef.code);
      grown = grown_then er.code (el.code ++ ef.code) b0 b1 b3 er.grown (grown_then el.code ef.code b1 b2 b3 el.grown ef.grown);
      fresh = fresh_wider b0.ints b2.ints b3.ints v (omega (arith, i1, i2)) ef.fresh;
      formed = formed_is;
      runs = λ c. dyad_runs f k l r ls rs g keeps_l keeps_r reads_l b0.ints b0.bufs b1.ints b1.bufs b2.ints b2.bufs at vr vl v er.code el.code ef.code er.grown.ints er.grown.bufs el.grown.ints el.grown.bufs given_l.ints given_l.bufs old (fresh_old b0.ints b1.ints vr er.fresh) c (er.runs c) (el.runs c) (λ s x y. ef.runs c s x y);
    }
  where
    formed_is : IsFormed (joint g h) at [] b3 (max (max dl dr) depth) (er.code ++ (el.code ++ ef.code))
    formed_is sc room inside are bufs more more_bufs le =
        let i2 = el.grown.ints in
        let i3 = ef.grown.ints in
        let j2 = el.grown.bufs in
        let j3 = ef.grown.bufs in
        let le_r : dr ≤ room = omega (arith, le) in
        let le_l : dl ≤ room = omega (arith, le) in
        let le_f : depth ≤ room = omega (arith, le) in
        let r_is = fresh_declared sc b0.ints b1.ints vr er.fresh (omega (arith, i2, i3, more)) in
        let l_is = fresh_declared sc b1.ints b2.ints vl el.fresh (omega (arith, i3, more)) in
        stmts_append sc (Some room) er.code (el.code ++ ef.code)
        (er.formed sc room (within_right g h sc inside) are tt (omega (arith, i2, i3, more)) (omega (arith, j2, j3, more_bufs)) le_r)
        (stmts_append sc (Some room) el.code ef.code
        (el.formed sc room (within_left g h sc inside) are tt (omega (arith, i3, more)) (omega (arith, j3, more_bufs)) le_l)
        (ef.formed sc room record { global_ints = omega arith; global_bufs = omega arith; tables = omega arith; functions = omega arith } (l_is, (r_is, tt)) tt more more_bufs le_f))

-- ---- The argument, and then the function

pub mono_emits : (f : ℤ → Given) (k depth : ℕ) (a : Test) (steps : Steps) (g : Scope) (d : ℕ) (b0 b1 b2 : Blocks) (at : List Int) (va v : Int) → GivesInRange a → Emits a steps g d b0 b1 at va → EmitsMono f k depth b1 b2 va v → Emits (mono_test f a) (steps_of_one k steps) g (max d depth) b0 b2 at v
mono_emits f k depth a steps g d b0 b1 b2 at va v keeps ea ef = record {
  code = ea.code ++ ef.code;
  grown = grown_then ea.code ef.code b0 b1 b2 ea.grown ef.grown;
  fresh = fresh_wider b0.ints b1.ints b2.ints v ea.grown.ints ef.fresh;
  formed = formed_is;
  runs = λ c s is z hold test_is. mono_runs c s is z hold (part f (a c.tables s is) z test_is);
}
  where
    formed_is : IsFormed g at [] b2 (max d depth) (ea.code ++ ef.code)
    formed_is sc room inside are bufs more more_bufs le =
        let i2 = ef.grown.ints in
        let j2 = ef.grown.bufs in
        let le_a : d ≤ room = omega (arith, le) in
        let le_f : depth ≤ room = omega (arith, le) in
        let a_is = fresh_declared sc b0.ints b1.ints va ea.fresh (omega (arith, i2, more)) in
        stmts_append sc (Some room) ea.code ef.code
        (ea.formed sc room inside are tt (omega (arith, i2, more)) (omega (arith, j2, more_bufs)) le_a)
        (ef.formed sc room record { global_ints = omega arith; global_bufs = omega arith; tables = omega arith; functions = omega arith } (a_is, tt) tt more more_bufs le_f)

    mono_runs : (c : Code) (s : State) (is : List ℕ) (z : Given) → Hold s at is → Part f (a c.tables s is) z → Yields c b0.ints b0.bufs (steps_of_one k steps c.tables s) (ea.code ++ ef.code) s v z
    mono_runs c s is z hold p =
        does_then c Q (steps c.tables s) k ea.code ef.code s (Computed n m s va p.argument) (Computed n m s v z) (Failed n m s z)
        (does_weaken c Q Q (steps c.tables s) (steps c.tables s) ea.code s (Computed n m s va p.argument) (Computed n m s va p.argument) (Failed n m s p.argument) (Failed n m s z) (λ u x. x) (λ u x. x)
        (λ kind u x. record { stays = x.stays; given = p.whole ∙ ap (of_one f) x.given })
        (omega arith) (ea.runs c s is p.argument hold p.argument_is))
        (λ t e. function_does t e)
      where
        n : ℕ
        n = b0.ints

        m : ℕ
        m = b0.bufs

        Q : State → Type 0
        Q = Stays n m s

        function_does : (t : State) → Computed n m s va p.argument t → Does c Q k ef.code t (Computed n m s v z) (Failed n m s z)
        function_does t e =
            let whole : z ≡ f e.value = p.whole ∙ ap (of_one f) e.given in
            let in_a = keeps.within c.tables s is e.value (p.argument_is ∙ ap Some e.given) in
            let onward = λ (w : State) (x : Stays b1.ints b1.bufs t w). stays_then n m s t w e.stays (stays_less n b1.ints m b1.bufs t w ea.grown.ints ea.grown.bufs x) in
            does_weaken c (Stays b1.ints b1.bufs t) Q k k ef.code t (Computed b1.ints b1.bufs t v (f e.value)) (Computed n m s v z) (Failed b1.ints b1.bufs t (f e.value)) (Failed n m s z)
            onward
            (λ w x. record { stays = onward w x.stays; value = x.value; given = whole ∙ x.given; is = x.is })
            (λ kind w x. record { stays = onward w x.stays; given = whole ∙ x.given })
            (omega arith)
            (ef.runs c t e.value e.is in_a)

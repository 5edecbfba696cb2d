use Rattle.std.proofs.Common.{sym, subst, arith, get_or, ℕ, [], ◌+◌, List, Bor}
use Rattle.aplc_cread.specs.Reading.{nows, Found, Stops, Any, Lit, Best}
use Rattle.aplc_cread.proofs.Choices.{choice_found, best_skip, best_keep, best_next, length-nows, nows_at}
use Rattle.aplc_cread.proofs.lexical.one_of.Goals.{then-allowed-i+in-Err-At+then-rest-best, then-allowed-i+in-Err-At+else-rest-best, else-allowed-i}
use Rattle.aplc_cread.proofs.lexical.one_of.Goals as goal

pub returns-in-Ok : goal.returns-in-Ok
returns-in-Ok c =
    let e = nows_at c.args.texts.now c.loop-i.i _ c.loop-i-test.true in
    let f : Found Any (Lit (get_or (nows c.args.texts.now) c.loop-i.i [])) c.args.input.now tt c.in-Ok.rest.now = rw e c.in-Ok.ensures in
    choice_found c.loop-i.i c.requires.apart (omega (arith, length-nows c.args.texts.now)) c.if-allowed-i.true f

pub loop-i-preserved : goal.loop-i-preserved
loop-i-preserved c =
    let e = nows_at c.args.texts.now c.loop-i.i (record { ref_ptr = (0, 0); now = [] }) c.loop-i-test.true in
    let P : Bor (List ℕ) → Type 0 = λ b. Best (nows c.args.texts.now) c.args.allowed.now c.args.input.now (c.loop-i.i + 1) b.now in
    elim c.if-allowed-i.branch [
      | then-allowed-i+in-Err-At+then-rest-best w ↦
          let g : Stops Any (Lit (get_or (nows c.args.texts.now) c.loop-i.i [])) c.args.input.now w.in-Err-At.rest.now = rw e (w.in-Err-At.ensures.stops w.in-Err-At.rest w.in-Err-At.field-0-is) in
          subst P (sym w.best-is) (best_next c.loop-i.invariant (omega (arith, length-nows c.args.texts.now)) w.if-allowed-i.true g (omega (arith, w.if-rest-best.true)))
      | then-allowed-i+in-Err-At+else-rest-best w ↦
          let g : Stops Any (Lit (get_or (nows c.args.texts.now) c.loop-i.i [])) c.args.input.now w.in-Err-At.rest.now = rw e (w.in-Err-At.ensures.stops w.in-Err-At.rest w.in-Err-At.field-0-is) in
          subst P (sym w.best-is) (best_keep c.loop-i.invariant g w.if-rest-best.false)
      | else-allowed-i w ↦ subst P (sym w.best-is) (best_skip c.loop-i.invariant w.if-allowed-i.false)
    ]

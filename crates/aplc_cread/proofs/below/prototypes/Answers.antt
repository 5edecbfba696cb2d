use Rattle.std.proofs.lemmas.Result.{err_from_is_err_and}
use Rattle.std.proofs.Common.{◌∙◌, sym, subst, arith, true, false, [], codes}
use Rattle.aplc_cread.specs.Reading.{first, Found, Halts, Any, Lit}
use Rattle.aplc_cread.specs.Listings.{numbered}
use Rattle.aplc_cread.proofs.Leads.{leads_first, leads_bind, leads_reads, found_near}
use Rattle.aplc_cread.proofs.Programs.{joint_first_line, joint_prototype, protos_start, protos_static, protos_by, last_of, static_shorter}
use Rattle.aplc_cread.proofs.below.prototypes.Goals as goal

pub prototypes-init : goal.prototypes-init
prototypes-init c = record { some = omega arith; leads = protos_start c.args.mode c.args.tables c.args.ints c.args.bufs c.args.input.now }

pub returns-in_err-behind : goal.returns-in_err-behind
returns-in_err-behind c = let p = err_from_is_err_and c.from_residual.result c.from_residual.ensures.1 in rw (p.1, p.2)
    (protos_static c.args.mode c.args.tables c.args.ints c.args.bufs c.prototypes.count c.prototypes.invariant.some (omega arith) c.prototypes.invariant.leads c.in_err-behind.ensures)

pub returns-in_err-line : goal.returns-in_err-line
returns-in_err-line c = let p = err_from_is_err_and c.from_residual-in_err-line.result c.from_residual-in_err-line.ensures.1 in rw (p.1, p.2)
    (leads_first (joint_first_line c.args.mode c.args.tables c.args.ints c.args.bufs c.prototypes.count)
    (protos_by c.args.mode c.args.tables c.args.ints c.args.bufs c.prototypes.count true c.prototypes.invariant.some (omega arith) c.prototypes.invariant.leads c.in_ok-behind.ensures (sym c.is_last.ensures ∙ c.if-is_last.true)) c.in_err-line.ensures)

pub returns-then-is_last : goal.returns-then-is_last
returns-then-is_last c = leads_reads c.functions.result (leads_bind (joint_first_line c.args.mode c.args.tables c.args.ints c.args.bufs c.prototypes.count)
    (protos_by c.args.mode c.args.tables c.args.ints c.args.bufs c.prototypes.count true c.prototypes.invariant.some (omega arith) c.prototypes.invariant.leads c.in_ok-behind.ensures (sym c.is_last.ensures ∙ c.if-is_last.true)) c.in_ok-line.ensures) c.functions.ensures

pub returns-in_err-rest : goal.returns-in_err-rest
returns-in_err-rest c = let p = err_from_is_err_and c.from_residual-in_err-rest.result c.from_residual-in_err-rest.ensures.1 in rw (p.1, p.2)
    (let e = sym c.is_last.ensures ∙ c.if-is_last.false in
    leads_first (joint_prototype c.args.mode c.args.tables c.args.ints c.args.bufs c.prototypes.count (last_of c.prototypes.count (first c.in_ok-behind.behind.now) e (omega arith)))
    (protos_by c.args.mode c.args.tables c.args.ints c.args.bufs c.prototypes.count false c.prototypes.invariant.some (omega arith) c.prototypes.invariant.leads c.in_ok-behind.ensures e)
    (subst (λ n. Halts Any (Lit (numbered [] (codes "(void);\n") n)) c.in_ok-behind.behind.now c.in_err-rest.field-0.0) c.from.ensures c.in_err-rest.ensures))

pub overflow_add-count : goal.overflow_add-count
overflow_add-count c = let q = last_of c.prototypes.count (first c.in_ok-behind.behind.now) (sym c.is_last.ensures ∙ c.if-is_last.false) (omega arith) in omega (arith, q)

pub prototypes-preserved : goal.prototypes-preserved
prototypes-preserved c = let e = sym c.is_last.ensures ∙ c.if-is_last.false in record {
  some = omega arith;
  leads = leads_bind (joint_prototype c.args.mode c.args.tables c.args.ints c.args.bufs c.prototypes.count (last_of c.prototypes.count (first c.in_ok-behind.behind.now) e (omega arith)))
      (protos_by c.args.mode c.args.tables c.args.ints c.args.bufs c.prototypes.count false c.prototypes.invariant.some (omega arith) c.prototypes.invariant.leads c.in_ok-behind.ensures e)
      (subst (λ n. Found Any (Lit (numbered [] (codes "(void);\n") n)) c.in_ok-behind.behind.now tt c.in_ok-rest.rest.now) c.from.ensures c.in_ok-rest.ensures);
}

pub prototypes-smaller : goal.prototypes-smaller
prototypes-smaller c = let a = static_shorter c.in_ok-behind.ensures in let b = found_near c.in_ok-rest.ensures in omega (arith, a, b)

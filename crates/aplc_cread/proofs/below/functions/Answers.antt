use Rattle.std.proofs.lemmas.Result.{err_from_is_err_and}
use Rattle.std.proofs.Common.{rules, ◌≡◌, sym, subst, ◌∷◌, [], ◌++◌, ◌+◌}
use Rattle.aplc_cread.specs.Reading.{Found, Halts, Any, Lit}
use Rattle.aplc_cread.specs.Programs.{FunctionsOn}
use Rattle.aplc_cread.proofs.Rules.{halts_first}
use Rattle.aplc_cread.proofs.Programs.{line, joint_function, On, on_start, on_name, on_function, on_next, on_halts, on_end}
use Rattle.aplc_cread.proofs.below.functions.Goals as goal

pub returns-in_err-first : goal.returns-in_err-first
returns-in_err-first c = let p = err_from_is_err_and c.from_residual.result c.from_residual.ensures.1 in rw (p.1, p.2) (halts_first (joint_function c.args.mode c.args.counts 1 c.args.counts.functions) c.in_err-first.ensures)

pub functions-init : goal.functions-init
functions-init c = on_start c.args.mode c.args.counts _ (search rules) c.in_ok-first.ensures

pub returns-in_err-line : goal.returns-in_err-line
returns-in_err-line c = let p = err_from_is_err_and c.from_residual-in_err-line.result c.from_residual-in_err-line.ensures.1 in rw (p.1, p.2)
    (on_name c.args.mode c.args.counts c.functions.functions.items c.functions.number c.functions-test.true c.functions.invariant (subst (λ n. Halts Any (Lit (line n)) c.functions.rest.now c.in_err-line.field-0.0) c.from.ensures c.in_err-line.ensures))

pub returns-in_err-other : goal.returns-in_err-other
returns-in_err-other c = let p = err_from_is_err_and c.from_residual-in_err-other.result c.from_residual-in_err-other.ensures.1 in rw (p.1, p.2)
    (on_function c.args.mode c.args.counts c.functions.functions.items c.functions.number c.functions-test.true c.functions.invariant (subst (λ n. Found Any (Lit (line n)) c.functions.rest.now tt c.in_ok-line.line.now) c.from.ensures c.in_ok-line.ensures) c.in_err-other.ensures)

pub functions-preserved : goal.functions-preserved
functions-preserved c =
    let e : c.push-in-functions.new.self.items ≡ c.functions.functions.items ++ c.in_ok-other.other ∷ [] = search rules in
    subst (λ fs. On c.args.mode c.args.counts c.args.input.now fs (c.functions.number + 1) c.in_ok-other.next.now) (sym e)
    (on_next c.args.mode c.args.counts c.functions.functions.items c.functions.number c.functions-test.true c.functions.invariant (subst (λ n. Found Any (Lit (line n)) c.functions.rest.now tt c.in_ok-line.line.now) c.from.ensures c.in_ok-line.ensures) c.in_ok-other.ensures)

pub returns-in_err-end : goal.returns-in_err-end
returns-in_err-end c = let p = err_from_is_err_and c.from_residual-in_err-end.result c.from_residual-in_err-end.ensures.1 in rw (p.1, p.2)
    (on_halts c.args.mode c.args.counts c.functions.functions.items c.functions.number _ c.tail_bytes.ensures c.functions-test.false c.functions.invariant c.in_err-end.ensures)

pub returns : goal.returns
returns c = subst (λ fs. Found Any (FunctionsOn c.args.mode c.args.counts 1 c.args.counts.functions) c.args.input.now fs c.in_ok-end.end.now) (sym c.from_vec.ensures)
    (on_end c.args.mode c.args.counts c.functions.functions.items c.functions.number _ c.tail_bytes.ensures c.functions-test.false c.functions.invariant c.in_ok-end.ensures)

use Rattle.std.proofs.lemmas.Result.{err_from_is_err_and}
use Rattle.std.proofs.Common.{arith, subst}
use Rattle.aplc_cread.specs.Reading.{Found, Halts, Lit}
use Rattle.aplc_cread.specs.Listings.{Beyond, numbered}
use Rattle.aplc_cread.proofs.Leads.{found_near}
use Rattle.aplc_cread.proofs.Listings.{names_start, comma_of, comma_shorter, names_comma, names_end, names_name, names_next}
use Rattle.aplc_cread.proofs.listing.more_names.Goals as goal

pub names-init : goal.names-init
names-init c = names_start c.args.head.now c.args.end.now c.args.input.now

pub returns-in_err-i : goal.returns-in_err-i
returns-in_err-i c = let p = err_from_is_err_and c.from_residual.result c.from_residual.ensures.1 in rw (p.1, p.2)
    (names_comma c.args.head.now c.args.end.now c.names.count (omega arith) c.names.invariant c.in_err-i.ensures)

pub returns-then-i-eq0 : goal.returns-then-i-eq0
returns-then-i-eq0 c = names_end c.args.head.now c.args.end.now c.names.count (omega arith) c.if-i-eq0.true c.names.invariant c.in_ok-i.ensures

pub returns-in_err-rest : goal.returns-in_err-rest
returns-in_err-rest c = let p = err_from_is_err_and c.from_residual-in_err-rest.result c.from_residual-in_err-rest.ensures.1 in rw (p.1, p.2)
    (names_name c.args.head.now c.args.end.now c.names.count (omega arith) c.if-i-eq0.false c.names.invariant c.in_ok-i.ensures
    (subst (λ n. Halts (Beyond c.args.end.now) (Lit (numbered c.args.head.now c.args.end.now n)) c.in_ok-i.behind.now c.in_err-rest.field-0.0) c.from.ensures c.in_err-rest.ensures))

pub overflow_add-count : goal.overflow_add-count
overflow_add-count c = let q = comma_of c.names.count c.in_ok-i.ensures.is c.if-i-eq0.false in omega (arith, q.1)

pub names-preserved : goal.names-preserved
names-preserved c = names_next c.args.head.now c.args.end.now c.names.count (omega arith) c.if-i-eq0.false c.names.invariant c.in_ok-i.ensures
    (subst (λ n. Found (Beyond c.args.end.now) (Lit (numbered c.args.head.now c.args.end.now n)) c.in_ok-i.behind.now tt c.in_ok-rest.rest.now) c.from.ensures c.in_ok-rest.ensures)

pub names-smaller : goal.names-smaller
names-smaller c = let a = comma_shorter c.names.count c.in_ok-i.ensures in let b = found_near c.in_ok-rest.ensures in omega (arith, a, b)

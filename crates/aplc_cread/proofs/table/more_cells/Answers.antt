use Rattle.std.proofs.lemmas.Result.{err_from_is_err_and}
use Rattle.std.proofs.Common.{rules, ◌≡◌, sym, subst, arith, ◌∷◌, [], ◌++◌, ◌-◌}
use Rattle.aplc_cread.specs.Reading.{Found, Any}
use Rattle.aplc_cread.proofs.Tables.{BeforeCells, CellsOn, cells_start, cells_comma, cells_integer, cells_next, cells_halts, cells_end}
use Rattle.aplc_cread.proofs.table.more_cells.Goals as goal

pub cells-init : goal.cells-init
cells-init c = cells_start c.args.before.items c.args.count c.args.input.now

pub returns-in_err-behind : goal.returns-in_err-behind
returns-in_err-behind c = let p = err_from_is_err_and c.from_residual.result c.from_residual.ensures.1 in rw (p.1, p.2)
    (cells_comma c.args.before.items c.args.count c.cells.cells.items c.cells.left c.cells-test.true c.cells.invariant c.in_err-behind.ensures)

pub returns-in_err-x : goal.returns-in_err-x
returns-in_err-x c = let p = err_from_is_err_and c.from_residual-in_err-x.result c.from_residual-in_err-x.ensures.1 in rw (p.1, p.2)
    (cells_integer c.args.before.items c.args.count c.cells.cells.items c.cells.left c.cells-test.true c.cells.invariant c.in_ok-behind.ensures c.in_err-x.ensures)

pub cells-preserved : goal.cells-preserved
cells-preserved c =
    let e : c.push.new.self.items ≡ c.cells.cells.items ++ c.in_ok-x.x ∷ [] = search rules in
    subst (λ xs. CellsOn c.args.before.items c.args.count c.args.input.now xs (c.cells.left - 1) c.in_ok-x.next.now) (sym e)
    (cells_next c.args.before.items c.args.count c.cells.cells.items c.cells.left c.cells-test.true c.cells.invariant c.in_ok-behind.ensures c.in_ok-x.ensures)

pub returns-in_err-end : goal.returns-in_err-end
returns-in_err-end c = let p = err_from_is_err_and c.from_residual-in_err-end.result c.from_residual-in_err-end.ensures.1 in rw (p.1, p.2)
    (cells_halts c.args.before.items c.args.count c.cells.cells.items c.cells.left (omega arith) c.cells.invariant c.in_err-end.ensures)

pub returns : goal.returns
returns c = subst (λ xs. Found Any (BeforeCells c.args.before.items c.args.count) c.args.input.now xs c.in_ok-end.end.now) (sym c.from_vec.ensures)
    (cells_end c.args.before.items c.args.count c.cells.cells.items c.cells.left (omega arith) c.cells.invariant c.in_ok-end.ensures)

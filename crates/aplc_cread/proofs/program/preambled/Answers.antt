use Rattle.std.proofs.lemmas.Result.{err_from_is_err_and}
use Rattle.std.proofs.Common.{rules, ◌≡◌, ◌∙◌, sym, subst, ap, arith, ◌∷◌, [], ◌++◌, ◌+◌}
use Rattle.aplc_cread.specs.Reading.{Found, Halts, Any}
use Rattle.aplc_cread.specs.Tables.{Table}
use Rattle.aplc_cread.specs.Programs.{Preambled, whole_of}
use Rattle.aplc_cread.proofs.Leads.{found_near}
use Rattle.aplc_cread.proofs.Globals.{further}
use Rattle.aplc_cread.proofs.Wholes.{TablesOn, tables_start, tables_heading, tables_globals, tables_end, tables_table, tables_next, heading_shorter}
use Rattle.aplc_cread.proofs.program.preambled.Goals as goal

pub tables-init : goal.tables-init
tables-init c = tables_start c.args.mode c.args.input.now _ c.new-tables.ensures.items

pub returns-in_err-i : goal.returns-in_err-i
returns-in_err-i c = let p = err_from_is_err_and c.from_residual.result c.from_residual.ensures.1 in rw (p.1, p.2)
    (tables_heading c.args.mode c.tables.tables.items c.tables.number (omega arith) c.tables.invariant c.in_err-i.ensures)

pub returns-in_err-code : goal.returns-in_err-code
returns-in_err-code c = let p = err_from_is_err_and c.from_residual-in_err-code.result c.from_residual-in_err-code.ensures.1 in rw (p.1, p.2)
    (tables_globals c.args.mode c.tables.tables.items c.tables.number c.in_ok-i.i (omega arith) c.if-i-lt3.true c.tables.invariant c.in_ok-i.ensures c.in_err-code.ensures)

pub returns-then-i-lt3 : goal.returns-then-i-lt3
returns-then-i-lt3 c = subst (λ p. Found Any (Preambled c.args.mode) c.args.input.now p c.in_ok-code.end.now) (sym (c.with_tables.ensures ∙ ap (λ d. whole_of (d, c.in_ok-code.code)) c.from_vec.ensures))
    (tables_end c.args.mode c.tables.tables.items c.tables.number c.in_ok-i.i (omega arith) c.if-i-lt3.true c.tables.invariant c.in_ok-i.ensures c.in_ok-code.ensures)

pub returns-in_err-table : goal.returns-in_err-table
returns-in_err-table c = let p = err_from_is_err_and c.from_residual-in_err-table.result c.from_residual-in_err-table.ensures.1 in rw (p.1, p.2)
    (tables_table c.args.mode c.tables.tables.items c.tables.number c.in_ok-i.i (omega arith) c.if-i-lt3.false c.tables.invariant c.in_ok-i.ensures (subst (λ k. Halts Any (Table k) c.in_ok-i.behind.now c.in_err-table.field-0.0) c.from.ensures c.in_err-table.ensures))

pub overflow_add-number : goal.overflow_add-number
overflow_add-number c = let q = further c.tables.number c.in_ok-i.i c.in_ok-i.ensures.is c.if-i-lt3.false in omega (arith, q)

pub tables-preserved : goal.tables-preserved
tables-preserved c =
    let e : c.push.new.self.items ≡ c.tables.tables.items ++ c.in_ok-table.table ∷ [] = search rules in
    subst (λ d. TablesOn c.args.mode c.args.input.now d (c.tables.number + 1) c.in_ok-table.next.now) (sym e)
    (tables_next c.args.mode c.tables.tables.items c.tables.number c.in_ok-i.i (omega arith) c.if-i-lt3.false c.tables.invariant c.in_ok-i.ensures (subst (λ k. Found Any (Table k) c.in_ok-i.behind.now c.in_ok-table.table c.in_ok-table.next.now) c.from.ensures c.in_ok-table.ensures))

pub tables-smaller : goal.tables-smaller
tables-smaller c = let a = heading_shorter c.tables.number c.in_ok-i.ensures in let b = found_near c.in_ok-table.ensures in omega (arith, a, b)

use Rattle.std.proofs.Common.{◌+◌, ◌*◌, ◌/◌, ◌∙◌, ap}
use Rattle.std.proofs.lemmas.Result.{IfOk-weaker}
use Rattle.aplc_arr.specs.Delayed.{first_n}
use Rattle.aplc_quad.specs.Rows.{column_width, cell_of}
use Rattle.aplc_quad.proofs.Widths.{numbers_shown}
use Rattle.aplc_quad.proofs.rows.widths_of.Goals as goal

pub returns-in-Num : goal.returns-in-Num
returns-in-Num c =
    let a = c.args.a.now in
    let n = c.last_length-columns.result in
    IfOk-weaker c.column_widths.result _ _
    (λ ws e. numbers_shown a n ws.items c.requires.array c.requires.ranked c.requires.some c.last_length-columns.ensures.last
    (e ∙ ap (λ q. first_n (λ j. column_width a.kind (λ r. cell_of a (j + r * n)) (q / n)) n) c.count.ensures))
    c.column_widths.ensures

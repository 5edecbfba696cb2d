use Rattle.std.proofs.Common.{◌∙◌, ◌∷◌, ◌++◌, [], ap, rules, w64, FitsSigned}
use Rattle.std.proofs.lemmas.Int.{to_z-of_z}
use Rattle.aplc_crun.proofs.Decoding.{put_empty, put_pushed, is_empty_length, not_empty_length}
use Rattle.aplc_crun.proofs.decode.put_part.Goals as goal

pub returns-then-is_empty : goal.returns-then-is_empty
returns-then-is_empty c = put_empty c.args.cells.now.items c.args.part.now (is_empty_length c.args.part.now _ c.is_empty.ensures c.if-is_empty.true)

pub returns-in-Ok : goal.returns-in-Ok
returns-in-Ok c =
    let fits : FitsSigned w64 c.in-Some.n = search rules in
    let pushed = c.in-Ok.ensures ∙ ap (λ n. c.args.cells.now.items ++ n ∷ []) (to_z-of_z w64 c.in-Some.n fits) in
    put_pushed c.args.cells.now.items c.push.new.cells.items c.in-Some.n c.args.part.now (not_empty_length c.args.part.now _ c.is_empty.ensures c.if-is_empty.false) c.in-Some.ensures pushed

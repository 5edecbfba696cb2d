use Rattle.std.proofs.Common.{◌≡◌, drop}
use Rattle.aplc_stage.specs.Pieces.{product_expr}
use Rattle.aplc_stage.proofs.counting.product.Given as goal

-- the product of the lengths that are done
abbrev pub invariant-loop-index : goal.invariant-loop-index
invariant-loop-index l = l.all ≡ product_expr (drop l.index l.lengths)

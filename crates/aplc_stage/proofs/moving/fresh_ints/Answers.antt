use Rattle.std.proofs.Common.{◌≡◌, ◌+◌, ◌++◌, ap, List, ℕ, arith}
use Rattle.aplc_cprof.specs.declared.syntax.Int.{Int}
use Rattle.aplc_cprof.proofs.Kept.{kept_same}
use Rattle.aplc_stage.specs.Pieces.{locals}
use Rattle.aplc_stage.proofs.moving.fresh_ints.Goals as goal

pub loop-init : goal.loop-init
loop-init c =
    let b = c.args.b.now in
    let none : b.ints ≡ b.ints + 0 = omega arith in (
      ap (λ (l : List Int). l ++ locals b.ints c.args.others.now) c.new-names.ensures.items,
      ap (λ (k : ℕ). record b { ints = k }) none,
      kept_same b,
    )

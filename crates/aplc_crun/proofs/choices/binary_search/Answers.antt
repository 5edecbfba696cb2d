use Rattle.std.proofs.Common.{◌≡◌, rules, sym, subst, ℤ, pos, Ok, Err, slice_index_or, w64, to_z, of_z}
use Rattle.std.proofs.lemmas.Int.{to_z-of_z}
use Rattle.std.proofs.lemmas.List.Sorted.{answers_always}
use Rattle.aplc_crun.specs.declared.choices.Choice.{Choice}
use Rattle.aplc_crun.specs.Flat.{picked}
use Rattle.aplc_crun.proofs.Picks.{searched}
use Rattle.aplc_crun.proofs.choices.binary_search.Goals as goal

-- the closure gives an arm's number
pub returns-in-Ok : goal.returns-in-Ok
returns-in-Ok c =
    let arms = c.args.arms.now in
    let other = c.args.other in
    let none : Choice = record { value = pos 0; at = 0 } in
    let facts = c.in-Ok.ensures in
    let by_value = facts.position (λ (arm : Choice). arm.value) (answers_always _ _ _ (λ f a r g called. search rules)) in
    sym (subst (λ (v : ℤ). picked v arms other ≡ (slice_index_or arms c.in-Ok.i none).at) (to_z-of_z w64 c.args.v c.ranges.v)
    (searched arms (to_z w64 (of_z w64 c.args.v)) other (Ok c.in-Ok.i) c.requires facts.bound by_value none))

pub returns-in-Err : goal.returns-in-Err
returns-in-Err c =
    let arms = c.args.arms.now in
    let other = c.args.other in
    let facts = c.in-Err.ensures in
    let by_value = facts.position (λ (arm : Choice). arm.value) (answers_always _ _ _ (λ f a r g called. search rules)) in
    sym (subst (λ (v : ℤ). picked v arms other ≡ other) (to_z-of_z w64 c.args.v c.ranges.v)
    (searched arms (to_z w64 (of_z w64 c.args.v)) other (Err c.in-Err.field-0) c.requires facts.bound by_value))

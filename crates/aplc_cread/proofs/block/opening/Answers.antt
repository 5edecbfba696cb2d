use Rattle.std.proofs.Common.{subst, true, Bool, ◌∷◌, [], ◌&&◌, nat_lt}
use Rattle.aplc_cread.specs.Reading.{Any, OneOf, Reads}
use Rattle.aplc_cread.specs.Stmts.{openings, has_room, has_rooms, some_of}
use Rattle.aplc_cread.proofs.block.opening.Goals as goal

pub returns : goal.returns
returns c =
    let P : Bool → Bool → Bool → Type 0 = λ d o s. Reads Any (OneOf openings (true ∷ true ∷ true ∷ true ∷ nat_lt 0 c.args.names.ints ∷ nat_lt 0 c.args.names.global_ints ∷ nat_lt 0 c.args.names.bufs ∷ nat_lt 0 c.args.names.global_bufs ∷ d ∷ true ∷ true ∷ true ∷ true ∷ o ∷ o ∷ s ∷ c.args.bufs ∷ c.args.ints ∷ [])) c.args.input.now c.one_of.result in
    subst (λ d. P d (has_room c.args.room) (has_rooms c.args.room && some_of c.args.names.ints c.args.names.global_ints)) c.some_of-free.ensures
    (subst (λ o. P c.some_of-free.result o (has_rooms c.args.room && some_of c.args.names.ints c.args.names.global_ints)) c.has_room-open.ensures
    (subst (λ s. P c.some_of-free.result c.has_room-open.result s) c.can_switch-switch.ensures c.one_of.ensures))

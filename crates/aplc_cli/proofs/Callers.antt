-- The lines of a fault, one after the other.
use Rattle.std.proofs.Common.{◌≡◌, ◌∙◌, ap, sym, ℕ, zero, suc, ◌+◌, ◌-◌, ◌<◌, List, [], ◌∷◌, ◌++◌, length, take, get_or, arith, Some, option_map, Result, Ok, Err}
use Rattle.std.proofs.lemmas.List.{take_all}
use Rattle.std.specs.List.{flat_map}
use Rattle.std.specs.Prelude.{slice_get}
use Rattle.aplc_io.specs.declared.traits.Failed.{Failed}
use Rattle.aplc_io.specs.Outside.{SinkState, sink_with}
use Rattle.aplc_io.specs.Parts.{PartWritten}
use Rattle.aplc_io.proofs.Sent.{sink_with-nil, part_front, part_back, both_sent}
use Rattle.aplc_io.proofs.Pieces.{piece_sent, piece_cut}
use Rattle.aplc_cprof.specs.Machine.{Place, Places, all_places, empty_place}
use Rattle.aplc_cli.specs.Came.{caller_line}
use Rattle.aplc_cli.specs.Call.{Wrote}

-- bytes that were written, and then others whole or in part
pub rest_wrote : (a b : List ℕ) (old mid new : SinkState) (r : Result (Unit {0}) Failed) → mid ≡ sink_with old a → Wrote b mid new r → Wrote (a ++ b) old new r
rest_wrote a b old mid new (Ok done) e w = both_sent a b old mid new e w
rest_wrote a b old mid new (Err fault) e w = part_back a b old mid new e w

pub ruleset both_wrote = (rest_wrote, part_front)

-- what is told of an item is what the item has
item_is : {A : Type 0} (f : Place → A) (ps : List Place) (k : ℕ) (x : A) → k < length ps → option_map f (slice_get ps k) ≡ Some x → f (get_or ps k empty_place) ≡ x
item_is f [] k x h e = absurd (omega (arith, h))
item_is f (p ∷ ps) zero x h e = cc
item_is f (p ∷ ps) (suc k) x h e = item_is f ps k x (omega (arith, h)) e

-- what is told of the place of a number is the caller's
pub caller_is : {A : Type 0} (f : Place → A) (ps : Places) (number : ℕ) (x : A) → number < length ps.behind → option_map f (slice_get (all_places ps) (number + 1)) ≡ Some x → f (get_or ps.behind number empty_place) ≡ x
caller_is f ps number x h e =
    let n : suc number ≡ number + 1 = omega arith in
    item_is f ps.behind number x h (ap (λ k. option_map f (slice_get (all_places ps) k)) n ∙ e)

-- ---- One line after the other, where so many places are told

pub caller_within : (ps : Places) (number places : ℕ) → places ≡ length (all_places ps) → number < places - 1 → number < length ps.behind
caller_within ps number places all within = omega (arith, all, within)

pub no_callers : (ps : Places) (old : SinkState) → old ≡ sink_with old (flat_map caller_line (take 0 ps.behind))
no_callers ps old = sym (sink_with-nil old)

pub more_callers : (ps : Places) (number places : ℕ) (old mid new : SinkState) → places ≡ length (all_places ps) → number < places - 1 → mid ≡ sink_with old (flat_map caller_line (take number ps.behind)) → new ≡ sink_with mid (caller_line (get_or ps.behind number empty_place)) → new ≡ sink_with old (flat_map caller_line (take (number + 1) ps.behind))
more_callers ps number places old mid new all within e g = piece_sent caller_line ps.behind number empty_place (caller_within ps number places all within) old mid new e g

pub cut_callers : (ps : Places) (number places : ℕ) (old mid new : SinkState) → places ≡ length (all_places ps) → number < places - 1 → mid ≡ sink_with old (flat_map caller_line (take number ps.behind)) → PartWritten (caller_line (get_or ps.behind number empty_place)) mid new → PartWritten (flat_map caller_line ps.behind) old new
cut_callers ps number places old mid new all within e p = piece_cut caller_line ps.behind number empty_place (caller_within ps number places all within) old mid new e p

pub all_callers : (ps : Places) (number places : ℕ) (old new : SinkState) → places ≡ length (all_places ps) → (number < places - 1 → ⊥) → new ≡ sink_with old (flat_map caller_line (take number ps.behind)) → new ≡ sink_with old (flat_map caller_line ps.behind)
all_callers ps number places old new all over e = e ∙ ap (λ (l : List Place). sink_with old (flat_map caller_line l)) (take_all number ps.behind (omega (arith, all, over)))

pub ruleset callers = (caller_within, no_callers, more_callers, cut_callers, all_callers)

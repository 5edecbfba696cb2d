-- One turn of a loop over pieces of bytes.
use Rattle.std.proofs.Common.{◌≡◌, ℕ, suc, ◌+◌, ◌<◌, List, [], ◌∷◌, ◌++◌, length, take, drop, get_or, sym, ap, subst, ◌∙◌, arith, append-nil, take-append-drop}
use Rattle.std.proofs.lemmas.Grind.{flat_map-append}
use Rattle.std.proofs.Math.Seq.{take-suc}
use Rattle.std.specs.List.{flat_map}
use Rattle.aplc_io.specs.Outside.{SinkState, sink_with}
use Rattle.aplc_io.specs.Parts.{PartWritten}
use Rattle.aplc_io.proofs.Sent.{part_front, part_back, both_sent}

module _ {X : Type 0} (f : X → List ℕ) (xs : List X) (i : ℕ) (d : X) (within : i < length xs) where
  flat_map-next : flat_map f (take (i + 1) xs) ≡ flat_map f (take i xs) ++ f (get_or xs i d)
  flat_map-next =
      let e : i + 1 ≡ suc i = omega arith in
      ap (λ k. flat_map f (take k xs)) e
      ∙ ap (flat_map f) (take-suc xs i d within)
      ∙ flat_map-append f (take i xs) (get_or xs i d ∷ [])
      ∙ ap (λ (l : List ℕ). flat_map f (take i xs) ++ l) (append-nil (f (get_or xs i d)))

  pub piece_sent : (old mid new : SinkState) → mid ≡ sink_with old (flat_map f (take i xs)) → new ≡ sink_with mid (f (get_or xs i d)) → new ≡ sink_with old (flat_map f (take (i + 1) xs))
  piece_sent old mid new e g = both_sent _ _ old mid new e g ∙ ap (sink_with old) (sym flat_map-next)

  all_pieces : flat_map f (take (i + 1) xs) ++ flat_map f (drop (i + 1) xs) ≡ flat_map f xs
  all_pieces = sym (flat_map-append f (take (i + 1) xs) (drop (i + 1) xs)) ∙ ap (flat_map f) (take-append-drop (i + 1) xs)

  -- a fault cut this piece short
  pub piece_cut : (old mid new : SinkState) → mid ≡ sink_with old (flat_map f (take i xs)) → PartWritten (f (get_or xs i d)) mid new → PartWritten (flat_map f xs) old new
  piece_cut old mid new e p =
      let upto : PartWritten (flat_map f (take (i + 1) xs)) old new = subst (λ (l : List ℕ). PartWritten l old new) (sym flat_map-next) (part_back _ _ old mid new e p) in
      subst (λ (l : List ℕ). PartWritten l old new) all_pieces (part_front _ (flat_map f (drop (i + 1) xs)) old new upto)

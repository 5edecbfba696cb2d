-- The lengths of two values together: those of the array beside a scalar, or those on which two arrays conform.
-- It must not know what is made of their elements.
use Rattle.std.proofs.Common.{◌≡◌, ℕ, ◌+◌, List, [], ◌∷◌, length, refl, sym, ap, ◌∙◌, subst, arith}
use Rattle.aplc_arr.specs.Each.{common_shape}
use Rattle.aplc_cprof.specs.declared.syntax.Int.{Int}
use Rattle.aplc_cprof.specs.Blocks.{Blocks}
use Rattle.aplc_cprof.specs.Frames.{Stays, Hold}
use Rattle.aplc_cprof.proofs.Paths.{does_weaken}
use Rattle.aplc_cprof.proofs.Emitted.{ints_first}
use Rattle.aplc_step.specs.Steppers.{AreFresh}
use Rattle.aplc_stage.specs.Computes.{NoFault}
use Rattle.aplc_stage.specs.Pieces.{OwnLengths, Conformed, SharedLengths, Unlike, Conforms, Shares}
use Rattle.aplc_stage.proofs.Setting.{locals_many}
use Rattle.aplc_stage.proofs.Scalars.{no_axes}
use Rattle.aplc_stage.proofs.Parts.{locals_fresh}
use Rattle.aplc_stage.proofs.Dyadics.{beside_scalar}

pub none_of : (xs : List Int) → length xs ≡ 0 → xs ≡ []
none_of [] e = refl
none_of (x ∷ xs) e = absurd (omega (arith, e))

-- lengths of its own, and as many as there are
module _ (b0 b1 : Blocks) (others lengths : List Int) (own : OwnLengths b0 b1 others lengths) where
  many : length lengths ≡ length others
  many = ap length own.lengths_are ∙ locals_many b0.ints others

  fresh : AreFresh b0.ints b1.ints lengths
  fresh = subst (λ (l : List Int). AreFresh b0.ints b1.ints l) (sym own.lengths_are) (locals_fresh b0.ints b1.ints b0.ints others (omega arith) (omega (arith, own.names)))

  -- beside a scalar on the left
  pub share_right : Shares b0 b1 [] others lengths
  share_right = record {
    code = own.code;
    grown = own.grown;
    bufs = own.bufs;
    fresh = fresh;
    as_many = let e = many in omega (arith, e);
    formed = λ sc room within are bufs more more_bufs le. own.formed sc room within are bufs more more_bufs (omega arith);
    runs = λ c s ms ns left right.
        does_weaken c (Stays b0.ints b0.bufs s) (Stays b0.ints b0.bufs s) (length others) (length lengths + 5) own.code s (λ t. Stays b0.ints b0.bufs s t × Hold t lengths ns) (SharedLengths b0.ints b0.bufs lengths ms ns s) NoFault (Unlike b0.ints b0.bufs ms ns s)
        (λ u f. f) (λ u m. record { stays = m.0; shape = ns; common = ap (λ (l : List ℕ). common_shape l ns) (no_axes s ms left); held = m.1 }) (λ e u f. absurd f) (let e = many in omega (arith, e))
        (own.runs c s ns right);
  }

  -- beside a scalar on the right
  pub share_left : Shares b0 b1 others [] lengths
  share_left = record {
    code = own.code;
    grown = own.grown;
    bufs = own.bufs;
    fresh = fresh;
    as_many = let e = many in omega (arith, e);
    formed = λ sc room within are bufs more more_bufs le. own.formed sc room within (ints_first sc others [] are) bufs more more_bufs (omega arith);
    runs = λ c s ms ns left right.
        does_weaken c (Stays b0.ints b0.bufs s) (Stays b0.ints b0.bufs s) (length others) (length lengths + 5) own.code s (λ t. Stays b0.ints b0.bufs s t × Hold t lengths ms) (SharedLengths b0.ints b0.bufs lengths ms ns s) NoFault (Unlike b0.ints b0.bufs ms ns s)
        (λ u f. f) (λ u m. record { stays = m.0; shape = ms; common = beside_scalar ms ns (no_axes s ns right); held = m.1 }) (λ e u f. absurd f) (let e = many in omega (arith, e))
        (own.runs c s ms left);
  }

-- where a list has no items, it is the empty one
pub share_beside : (b0 b1 : Blocks) (left right lengths : List Int) → length left ≡ 0 → OwnLengths b0 b1 right lengths → Shares b0 b1 left right lengths
share_beside b0 b1 left right lengths e own = subst (λ (l : List Int). Shares b0 b1 l right lengths) (sym (none_of left e)) (share_right b0 b1 right lengths own)

pub share_before : (b0 b1 : Blocks) (left right lengths : List Int) → length right ≡ 0 → OwnLengths b0 b1 left lengths → Shares b0 b1 left right lengths
share_before b0 b1 left right lengths e own = subst (λ (l : List Int). Shares b0 b1 left l lengths) (sym (none_of right e)) (share_left b0 b1 left lengths own)

-- two arrays
pub share_both : (b0 b1 : Blocks) (left right lengths : List Int) (kl kr : Int) → length left ≡ length right → Conforms b0 b1 left right lengths kl kr → Shares b0 b1 left right lengths
share_both b0 b1 left right lengths kl kr ranks conf = record {
  code = conf.code;
  grown = conf.grown;
  bufs = conf.bufs;
  fresh = subst (λ (l : List Int). AreFresh b0.ints b1.ints l) (sym conf.lengths_are) (locals_fresh b0.ints b1.ints b0.ints left (omega arith) (omega (arith, conf.names)));
  as_many = omega (arith, many, ranks);
  formed = λ sc room within are bufs more more_bufs le. conf.formed sc room within are bufs more more_bufs (omega (arith, many, le));
  runs = λ c s ms ns hold_left hold_right.
      does_weaken c (Stays b0.ints b0.bufs s) (Stays b0.ints b0.bufs s) (length left + 5) (length lengths + 5) conf.code s (Conformed b0.ints b0.bufs lengths kl kr ms ns s) (SharedLengths b0.ints b0.bufs lengths ms ns s) (Unlike b0.ints b0.bufs ms ns s) (Unlike b0.ints b0.bufs ms ns s)
      (λ u f. f) (λ u m. record { stays = m.stays; shape = m.shape; common = m.common; held = m.held }) (λ e u f. f) (omega (arith, many))
      (conf.runs c s ms ns hold_left hold_right);
}
  where
    many : length lengths ≡ length left
    many = ap length conf.lengths_are ∙ locals_many b0.ints left

-- What the functions of two arguments ask of the functions that they call, and what they give, in the builder's states.
-- It must not know which arguments these are.
use Rattle.std.proofs.Common.{◌≡◌, ℕ, ◌+◌, ◌≤◌, List, length, refl, sym, ◌∙◌, subst, arith, Bool, true, false}
use Rattle.std.specs.Prelude.{max, nat_eq, ◌||◌}
use Rattle.std.specs.Bool.{◌==◌}
use Rattle.std.proofs.lemmas.Bool.Decides.{nat_tests}
use Rattle.aplc_scalar.specs.declared.kind.Kind.{Kind}
use Rattle.aplc_scalar.specs.declared.function.ScalarFn.{ScalarFn}
use Rattle.aplc_scalar.specs.Scalar.{dyadic}
use Rattle.aplc_arr.specs.Each.{kinds_suit, ranks_suit}
use Rattle.aplc_cprof.specs.declared.syntax.Int.{Int}
use Rattle.aplc_cprof.specs.Blocks.{Blocks}
use Rattle.aplc_cprof.specs.Frames.{AreGiven, IsOld, AreOld}
use Rattle.aplc_cprof.specs.Emitted.{joint}
use Rattle.aplc_cprof.proofs.Frames.{given_left, given_right, given_more, old_more, are_old_more}
use Rattle.aplc_collect.specs.Elements.{scope_of, scalar_test, one_step}
use Rattle.aplc_collect.specs.Fused.{dyad_test, steps_of_two}
use Rattle.aplc_collect.specs.Scalars.{EmitsDyad, dyad_steps, dyad_depth}
use Rattle.aplc_step.specs.declared.stepper.Origin.{Origin}
use Rattle.aplc_step.specs.declared.stepper.Stepper.{Stepper}
use Rattle.aplc_step.specs.Steppers.{stepper_test, stepper_scope}
use Rattle.aplc_step.specs.Wholes.{MakesStepper}
use Rattle.aplc_stage.specs.declared.staged.Staged.{Staged}
use Rattle.aplc_stage.specs.declared.staged.Staged.TheVariants as staged
use Rattle.aplc_stage.specs.Staged.{lengths_of, rank_of, scope_of_staged}
use Rattle.aplc_stage.specs.Computes.{Computes, DyadicOf}
use Rattle.aplc_stage.specs.Pieces.{OwnLengths, Conforms, KeepsOrExtends, Gathers}
use Rattle.aplc_stage.proofs.Setting.{locals_old}
use Rattle.aplc_stage.proofs.Heaps.{IsOldOrigin}
use Rattle.aplc_stage.proofs.Elements.{older, given_names}
use Rattle.aplc_stage.proofs.Chains.{both_given, stepper_given}
use Rattle.aplc_stage.proofs.Dyadics.{dyad_number}
use Rattle.aplc_stage.proofs.Besides.{left_computes, right_computes}
use Rattle.aplc_stage.proofs.Couples.{couple_computes}

-- ---- Tests

pub is_none : (xs : List Int) (b : Bool) → b ≡ (length xs == 0) → b ≡ true → length xs ≡ 0
is_none xs b e t = let h : (length xs == 0) ≡ true = sym e ∙ t in grind (arith, h)

pub is_some : (xs : List Int) (b : Bool) → b ≡ (length xs == 0) → b ≡ false → 1 ≤ length xs
is_some xs b e t = let h : (length xs == 0) ≡ false = sym e ∙ t in grind (arith, h)

-- two arrays of ranks that suit have one rank
pub ranks_same : (r s : ℕ) → 1 ≤ r → 1 ≤ s → ranks_suit r s ≡ true → r ≡ s
ranks_same r s one two suit = by (nat_eq r 0) (nat_eq s 0) (nat_eq r s) refl refl refl suit
  where
    by : (a b c : Bool) → nat_eq r 0 ≡ a → nat_eq s 0 ≡ b → nat_eq r s ≡ c → (a || b || c) ≡ true → r ≡ s
    by true b c e f g h = let none : r ≡ 0 = grind (arith, nat_tests) in absurd (omega (arith, none, one))
    by false true c e f g h = let none : s ≡ 0 = grind (arith, nat_tests) in absurd (omega (arith, none, two))
    by false false true e f g h = grind (arith, nat_tests)
    by false false false e f g h = absurd (cc h)

-- ---- Steppers, as the calls give them

-- over the whole array
abbrev pub IsOver : Blocks → Blocks → Origin → List Int → Stepper → Type 0
IsOver old new from lengths s = (s.from ≡ from) × (s.lengths ≡ lengths) × MakesStepper old new lengths s.base s.strides

-- over the shape of both
abbrev pub IsKeptOrExtended : Blocks → Blocks → Int → Stepper → List Int → Stepper → Type 0
IsKeptOrExtended old new keeps s lengths x = (x.from ≡ s.from) × (x.lengths ≡ lengths) × (x.base ≡ s.base) × KeepsOrExtends old new keeps s.lengths s.base s.strides lengths x.strides

-- ---- Names

pub lengths_given : (from : Origin) (lengths : List Int) (b : Blocks) → AreGiven (scope_of_staged (staged.Cells from lengths)) b → AreOld b.ints lengths
lengths_given from lengths b given = (given_names (staged.Cells from lengths) b given).1

pub lengths_given_more : (from : Origin) (lengths : List Int) (a b : Blocks) → a.ints ≤ b.ints → AreGiven (scope_of_staged (staged.Cells from lengths)) a → AreOld b.ints lengths
lengths_given_more from lengths a b le given = are_old_more a.ints b.ints lengths le (lengths_given from lengths a given)

staged_given : (x : Staged) (b : Blocks) → AreGiven (scope_of_staged x) b → AreOld b.ints (lengths_of x)
staged_given (staged.Scalar x) b given = tt
staged_given (staged.Cells from lengths) b given = lengths_given from lengths b given

pub left_given : (x y : Staged) (b : Blocks) → AreGiven (joint (scope_of_staged x) (scope_of_staged y)) b → AreOld b.ints (lengths_of x)
left_given x y b given = staged_given x b (given_left (scope_of_staged x) (scope_of_staged y) b given)

pub right_given : (x y : Staged) (b : Blocks) → AreGiven (joint (scope_of_staged x) (scope_of_staged y)) b → AreOld b.ints (lengths_of y)
right_given x y b given = staged_given y b (given_right (scope_of_staged x) (scope_of_staged y) b given)

pub own_given : (b0 b1 b : Blocks) (lengths own : List Int) → OwnLengths b0 b1 lengths own → b1.ints ≤ b.ints → AreOld b.ints own
own_given b0 b1 b lengths own lens le = subst (λ (l : List Int). AreOld b.ints l) (sym lens.lengths_are) (locals_old b.ints b0.ints lengths (omega (arith, lens.names, le)))

-- a stepper's names were given, with those of the value that it goes over
pub over_given : (old new b0 b : Blocks) (from : Origin) (lengths : List Int) (s : Stepper) → AreGiven (scope_of_staged (staged.Cells from lengths)) b0 → b0.bufs ≤ b.bufs → b0.ints ≤ b.ints → new.ints ≤ b.ints → IsOver old new from lengths s → AreGiven (stepper_scope s.from s.base s.strides) b
over_given old new b0 b from lengths s given lem len le (ef, el, over) =
    stepper_given s.from s.base s.strides b
    (subst (λ (o : Origin). IsOldOrigin b.bufs o) (sym ef) (older b0 b (staged.Cells from lengths) len lem (given_names (staged.Cells from lengths) b0 given)).0)
    (old_more new.ints b.ints s.base le over.base_given) (are_old_more new.ints b.ints s.strides le over.strides_given)

pub left_start : (x : Int) (from : Origin) (lengths : List Int) (a b : Blocks) → a.ints ≤ b.ints → AreGiven (joint (scope_of x) (scope_of_staged (staged.Cells from lengths))) a → AreOld b.ints lengths
left_start x from lengths a b le given = lengths_given_more from lengths a b le (given_right (scope_of x) (scope_of_staged (staged.Cells from lengths)) a given)

pub right_start : (x : Int) (from : Origin) (lengths : List Int) (a b : Blocks) → a.ints ≤ b.ints → AreGiven (joint (scope_of_staged (staged.Cells from lengths)) (scope_of x)) a → AreOld b.ints lengths
right_start x from lengths a b le given = lengths_given_more from lengths a b le (given_left (scope_of_staged (staged.Cells from lengths)) (scope_of x) a given)

pub both_start : (lf rf : Origin) (ll rl : List Int) (a : Blocks) → AreGiven (joint (scope_of_staged (staged.Cells lf ll)) (scope_of_staged (staged.Cells rf rl))) a → AreOld a.ints ll × AreOld a.ints rl
both_start lf rf ll rl a given = (
  lengths_given lf ll a (given_left (scope_of_staged (staged.Cells lf ll)) (scope_of_staged (staged.Cells rf rl)) a given),
  lengths_given rf rl a (given_right (scope_of_staged (staged.Cells lf ll)) (scope_of_staged (staged.Cells rf rl)) a given),
)

-- ---- Two numbers

abbrev Gives : ScalarFn → Kind → Blocks → Blocks → Int → Staged → Staged → Type 0
Gives g k b0 b1 v x y = AreGiven (joint (scope_of_staged x) (scope_of_staged y)) b0 → Computes (DyadicOf g k x k y) (joint (scope_of_staged x) (scope_of_staged y)) (max (rank_of x) (rank_of y)) b0 b1 (staged.Scalar v)

pub scalars_give : (g : ScalarFn) (k : Kind) (x y : Staged) (i j v : Int) (b0 b1 : Blocks) → x ≡ staged.Scalar i → y ≡ staged.Scalar j → kinds_suit g k k ≡ true → AreGiven (joint (scope_of_staged x) (scope_of_staged y)) b0 → EmitsDyad (dyadic g) (dyad_steps g) dyad_depth b0 b1 i j v → Computes (DyadicOf g k x k y) (joint (scope_of_staged x) (scope_of_staged y)) (max (rank_of x) (rank_of y)) b0 b1 (staged.Scalar v)
scalars_give g k x y i j v b0 b1 ex ey kinds given em =
    subst (λ (a : Staged). Gives g k b0 b1 v a y) (sym ex) (subst (λ (b : Staged). Gives g k b0 b1 v (staged.Scalar i) b) (sym ey) (λ here. dyad_number g k b0 b1 i j v kinds here em)) given

-- ---- A number and an array

module _ (g : ScalarFn) (k : Kind) (x : Int) (from : Origin) (lengths own : List Int) (s : Stepper) (b0 b1 b2 : Blocks) (lens : OwnLengths b0 b1 lengths own) (over : IsOver b1 b2 from lengths s) where
  abbrev y : Staged
  y = staged.Cells from lengths

  names_x : AreGiven (scope_of x) b0 → AreGiven (scope_of x) b2
  names_x given = given_more (scope_of x) b0 b2 (omega (arith, lens.grown.ints, over.2.grown.ints)) (omega (arith, lens.grown.bufs, over.2.grown.bufs)) given

  names_y : AreGiven (scope_of_staged y) b0 → AreGiven (stepper_scope s.from s.base s.strides) b2
  names_y given = over_given b1 b2 b0 b2 from lengths s given (omega (arith, lens.grown.bufs, over.2.grown.bufs)) (omega (arith, lens.grown.ints, over.2.grown.ints)) (omega arith) over

  pub left_asks : AreGiven (joint (scope_of x) (scope_of_staged y)) b0 → AreGiven (joint (scope_of x) (stepper_scope s.from s.base s.strides)) b2
  left_asks given = both_given (scope_of x) (stepper_scope s.from s.base s.strides) b2 (names_x (given_left (scope_of x) (scope_of_staged y) b0 given)) (names_y (given_right (scope_of x) (scope_of_staged y) b0 given))

  pub right_asks : AreGiven (joint (scope_of_staged y) (scope_of x)) b0 → AreGiven (joint (stepper_scope s.from s.base s.strides) (scope_of x)) b2
  right_asks given = both_given (stepper_scope s.from s.base s.strides) (scope_of x) b2 (names_y (given_left (scope_of_staged y) (scope_of x) b0 given)) (names_x (given_right (scope_of_staged y) (scope_of x) b0 given))

  module _ (b3 : Blocks) (v : Staged) (kinds : kinds_suit g k k ≡ true) (some : 1 ≤ length lengths) where
    abbrev Left : Origin → Type 0
    Left o = Gathers (dyad_test (dyadic g) (scalar_test x) (stepper_test o s.base s.strides)) (steps_of_two (dyad_steps g) one_step one_step) (joint (scope_of x) (stepper_scope o s.base s.strides)) (max (max 0 (2 + length s.strides)) dyad_depth) b2 b3 own v

    abbrev Right : Origin → Type 0
    Right o = Gathers (dyad_test (dyadic g) (stepper_test o s.base s.strides) (scalar_test x)) (steps_of_two (dyad_steps g) one_step one_step) (joint (stepper_scope o s.base s.strides) (scope_of x)) (max (max (2 + length s.strides) 0) dyad_depth) b2 b3 own v

    pub left_gives : AreGiven (joint (scope_of x) (scope_of_staged y)) b0 → Left s.from → Computes (DyadicOf g k (staged.Scalar x) k y) (joint (scope_of x) (scope_of_staged y)) (length lengths) b0 b3 v
    left_gives given last =
        left_computes from lengths own s.strides s.base b0 b1 b2 (given_right (scope_of x) (scope_of_staged y) b0 given) lens over.2 g k x kinds some (given_left (scope_of x) (scope_of_staged y) b0 given) b3 v (subst Left over.0 last)

    pub right_gives : AreGiven (joint (scope_of_staged y) (scope_of x)) b0 → Right s.from → Computes (DyadicOf g k y k (staged.Scalar x)) (joint (scope_of_staged y) (scope_of x)) (length lengths) b0 b3 v
    right_gives given last =
        right_computes from lengths own s.strides s.base b0 b1 b2 (given_left (scope_of_staged y) (scope_of x) b0 given) lens over.2 g k x kinds some (given_right (scope_of_staged y) (scope_of x) b0 given) b3 v (subst Right over.0 last)

-- ---- Two arrays

-- behind the shape of both
module _ (lf rf : Origin) (ll rl names : List Int) (kl kr : Int) (b0 b1 : Blocks) (conf : Conforms b0 b1 ll rl names kl kr) where
  abbrev X : Staged
  X = staged.Cells lf ll

  abbrev Y : Staged
  Y = staged.Cells rf rl

  abbrev Given : Type 0
  Given = AreGiven (joint (scope_of_staged X) (scope_of_staged Y)) b0

  names_given : (b : Blocks) → b1.ints ≤ b.ints → AreOld b.ints names × IsOld b.ints kl × IsOld b.ints kr
  names_given b le = (
    subst (λ (l : List Int). AreOld b.ints l) (sym conf.lengths_are) (locals_old b.ints b0.ints ll (omega (arith, conf.names, le))),
    subst (λ (i : Int). IsOld b.ints i) (sym conf.left_is) (omega (arith, conf.names, le)),
    subst (λ (i : Int). IsOld b.ints i) (sym conf.right_is) (omega (arith, conf.names, le)),
  )

  pub left_lengths_given : Given → AreOld b1.ints ll
  left_lengths_given given = lengths_given_more lf ll b0 b1 conf.grown.ints (given_left (scope_of_staged X) (scope_of_staged Y) b0 given)

  -- behind the left stepper
  module _ (b2 : Blocks) (wl : Stepper) (over_l : IsOver b1 b2 lf ll wl) where
    pub right_lengths_given : Given → AreOld b2.ints rl
    right_lengths_given given = lengths_given_more rf rl b0 b2 (omega (arith, conf.grown.ints, over_l.2.grown.ints)) (given_right (scope_of_staged X) (scope_of_staged Y) b0 given)

    -- behind both
    module _ (b3 : Blocks) (wr : Stepper) (over_r : IsOver b2 b3 rf rl wr) where
      pub left_widths_given : AreOld b3.ints wl.strides
      left_widths_given = are_old_more b2.ints b3.ints wl.strides over_r.2.grown.ints over_l.2.strides_given

      pub left_base_given : IsOld b3.ints wl.base
      left_base_given = old_more b2.ints b3.ints wl.base over_r.2.grown.ints over_l.2.base_given

      pub names_at : (l : List Int) → l ≡ names → AreOld b3.ints l
      names_at l e = subst (λ (i : List Int). AreOld b3.ints i) (sym e) (names_given b3 (omega (arith, over_l.2.grown.ints, over_r.2.grown.ints))).0

      pub left_flag_given : IsOld b3.ints kl
      left_flag_given = (names_given b3 (omega (arith, over_l.2.grown.ints, over_r.2.grown.ints))).1

      -- behind the strides of the left one
      module _ (b4 : Blocks) (nl : Stepper) (keep_l : IsKeptOrExtended b3 b4 kl wl names nl) where
        pub right_widths_given : AreOld b4.ints wr.strides
        right_widths_given = are_old_more b3.ints b4.ints wr.strides keep_l.3.grown.ints over_r.2.strides_given

        pub right_base_given : IsOld b4.ints wr.base
        right_base_given = old_more b3.ints b4.ints wr.base keep_l.3.grown.ints over_r.2.base_given

        pub names_then : (l : List Int) → l ≡ names → AreOld b4.ints l
        names_then l e = subst (λ (i : List Int). AreOld b4.ints i) (sym e) (names_given b4 (omega (arith, over_l.2.grown.ints, over_r.2.grown.ints, keep_l.3.grown.ints))).0

        pub right_flag_given : IsOld b4.ints kr
        right_flag_given = (names_given b4 (omega (arith, over_l.2.grown.ints, over_r.2.grown.ints, keep_l.3.grown.ints))).2

        -- behind those of the right one
        module _ (b5 : Blocks) (nr : Stepper) (keep_r : IsKeptOrExtended b4 b5 kr wr names nr) where
          up : (b3.ints ≤ b5.ints) × (b3.bufs ≤ b5.bufs)
          up = (omega (arith, keep_l.3.grown.ints, keep_r.3.grown.ints), omega (arith, keep_l.3.grown.bufs, keep_r.3.grown.bufs))

          pub names_last : AreOld b5.ints names
          names_last = (names_given b5 (omega (arith, over_l.2.grown.ints, over_r.2.grown.ints, up.0))).0

          kept_scope : (b : Blocks) (s n : Stepper) → (n.from ≡ s.from) × (n.base ≡ s.base) → AreGiven (stepper_scope s.from s.base n.strides) b → AreGiven (stepper_scope n.from n.base n.strides) b
          kept_scope b s n e h =
              subst (λ (i : Int). AreGiven (stepper_scope n.from i n.strides) b) (sym e.1) (subst (λ (o : Origin). AreGiven (stepper_scope o s.base n.strides) b) (sym e.0) h)

          origins : Given → IsOldOrigin b5.bufs wl.from × IsOldOrigin b5.bufs wr.from
          origins given =
              let le : b0.ints ≤ b5.ints = omega (arith, conf.grown.ints, over_l.2.grown.ints, over_r.2.grown.ints, up.0) in
              let lem : b0.bufs ≤ b5.bufs = omega (arith, conf.grown.bufs, over_l.2.grown.bufs, over_r.2.grown.bufs, up.1) in (
                subst (λ (o : Origin). IsOldOrigin b5.bufs o) (sym over_l.0) (older b0 b5 X le lem (given_names X b0 (given_left (scope_of_staged X) (scope_of_staged Y) b0 given))).0,
                subst (λ (o : Origin). IsOldOrigin b5.bufs o) (sym over_r.0) (older b0 b5 Y le lem (given_names Y b0 (given_right (scope_of_staged X) (scope_of_staged Y) b0 given))).0,
              )

          strides_l : AreOld b5.ints nl.strides
          strides_l = subst (λ (l : List Int). AreOld b5.ints l) (sym keep_l.3.strides_are) (locals_old b5.ints b3.ints wl.strides (omega (arith, keep_l.3.names, keep_r.3.grown.ints)))

          strides_r : AreOld b5.ints nr.strides
          strides_r = subst (λ (l : List Int). AreOld b5.ints l) (sym keep_r.3.strides_are) (locals_old b5.ints b4.ints wr.strides (omega (arith, keep_r.3.names)))

          pub couple_asks : Given → AreGiven (joint (stepper_scope nl.from nl.base nl.strides) (stepper_scope nr.from nr.base nr.strides)) b5
          couple_asks given =
              let from = origins given in
              both_given (stepper_scope nl.from nl.base nl.strides) (stepper_scope nr.from nr.base nr.strides) b5
              (kept_scope b5 wl nl (keep_l.0, keep_l.2) (stepper_given wl.from wl.base nl.strides b5 from.0 (old_more b2.ints b5.ints wl.base (omega (arith, over_r.2.grown.ints, up.0)) over_l.2.base_given) strides_l))
              (kept_scope b5 wr nr (keep_r.0, keep_r.2) (stepper_given wr.from wr.base nr.strides b5 from.1 (old_more b3.ints b5.ints wr.base up.0 over_r.2.base_given) strides_r))

          module _ (g : ScalarFn) (k : Kind) (b6 : Blocks) (v : Staged) (kinds : kinds_suit g k k ≡ true) (some : 1 ≤ length ll) (ranks : length ll ≡ length rl) where
            abbrev Both : Origin → Int → Origin → Int → Type 0
            Both lo lb ro rb = Gathers (dyad_test (dyadic g) (stepper_test lo lb nl.strides) (stepper_test ro rb nr.strides)) (steps_of_two (dyad_steps g) one_step one_step) (joint (stepper_scope lo lb nl.strides) (stepper_scope ro rb nr.strides)) (max (max (2 + length nl.strides) (2 + length nr.strides)) dyad_depth) b5 b6 names v

            settled_both : Both nl.from nl.base nr.from nr.base → Both lf wl.base rf wr.base
            settled_both h =
                subst (λ (o : Origin). Both lf wl.base o wr.base) (keep_r.0 ∙ over_r.0)
                (subst (λ (i : Int). Both lf wl.base nr.from i) keep_r.2
                (subst (λ (o : Origin). Both o wl.base nr.from nr.base) (keep_l.0 ∙ over_l.0)
                (subst (λ (i : Int). Both nl.from i nr.from nr.base) keep_l.2 h)))

            pub couple_gives : Given → Both nl.from nl.base nr.from nr.base → Computes (DyadicOf g k X k Y) (joint (scope_of_staged X) (scope_of_staged Y)) (length ll) b0 b6 v
            couple_gives given last =
                couple_computes lf rf ll rl names kl kr wl.base wr.base wl.strides wr.strides nl.strides nr.strides b0 b1 b2 b3 b4 b5 given ranks conf over_l.2 over_r.2
                (subst (λ (l : List Int). KeepsOrExtends b3 b4 kl l wl.base wl.strides names nl.strides) over_l.1 keep_l.3)
                (subst (λ (l : List Int). KeepsOrExtends b4 b5 kr l wr.base wr.strides names nr.strides) over_r.1 keep_r.3)
                g k kinds b6 v some (settled_both last)

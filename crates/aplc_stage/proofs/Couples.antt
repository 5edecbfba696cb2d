-- Two arrays of one rank: their shape together, which of them is extended, and their elements.
-- It must not know where the arrays came from.
use Rattle.std.proofs.Common.{◌≡◌, ℕ, ◌+◌, ◌≤◌, List, [], ◌∷◌, ◌++◌, length, sym, ap, ◌∙◌, subst, arith, ℤ, true}
use Rattle.std.specs.Prelude.{Err, max}
use Rattle.aplc_scalar.specs.declared.kind.Kind.{Kind}
use Rattle.aplc_scalar.specs.declared.kind.FaultKind.{FaultKind}
use Rattle.aplc_scalar.specs.declared.function.ScalarFn.{ScalarFn}
use Rattle.aplc_scalar.specs.Scalar.{dyadic}
use Rattle.aplc_arr.specs.Arrays.{Array, rank, place, product}
use Rattle.aplc_arr.specs.Delayed.{Prepared, computed}
use Rattle.aplc_arr.specs.Each.{kinds_suit, ranks_suit}
use Rattle.aplc_cprof.specs.declared.syntax.Int.{Int}
use Rattle.aplc_cprof.specs.declared.syntax.CStmt.{CStmt}
use Rattle.aplc_cprof.specs.Blocks.{Blocks}
use Rattle.aplc_cprof.specs.WellFormed.{Scope, is_int}
use Rattle.aplc_cprof.specs.Machine.{State, Code}
use Rattle.aplc_cprof.specs.Frames.{AreGiven, IsOld, AreOld, Stays, Hold}
use Rattle.aplc_cprof.specs.Emitted.{joint, IsWithin, AreInts, IsFormed}
use Rattle.aplc_cprof.proofs.Paths.{Does, does_then, does_weaken}
use Rattle.aplc_cprof.proofs.Frames.{given_left, given_right, are_old_more, old_more, stays_none, hold_stays, read_stays}
use Rattle.aplc_cprof.proofs.Emitted.{is_below, ints_append, formed_append, grown_then, within_left, within_right}
use Rattle.aplc_collect.specs.Elements.{Test, Steps, one_step}
use Rattle.aplc_collect.specs.Fused.{dyad_test, steps_of_two}
use Rattle.aplc_collect.specs.Scalars.{dyad_steps, dyad_depth}
use Rattle.aplc_step.specs.declared.stepper.Origin.{Origin}
use Rattle.aplc_step.specs.Steppers.{AreFresh, origin_scope, scope_of_all, stepper_test, stepper_scope, StepsOver}
use Rattle.aplc_step.specs.Wholes.{whole_steps, MakesStepper}
use Rattle.aplc_step.proofs.Addresses.{over_stays}
use Rattle.aplc_stage.specs.declared.staged.Staged.{Staged}
use Rattle.aplc_stage.specs.declared.staged.Staged.TheVariants as staged
use Rattle.aplc_stage.specs.Staged.{scope_of_staged, Holds}
use Rattle.aplc_stage.specs.Computes.{Computes, DyadicOf}
use Rattle.aplc_stage.specs.Pieces.{locals, PlaceBeside, Beside, Kept, Extended, Conformed, Unlike, Conforms, SteppedBeside, KeepsOrExtends, Gathers}
use Rattle.aplc_stage.proofs.Setting.{locals_old, locals_many}
use Rattle.aplc_stage.proofs.Elements.{IsOldStaged, older, given_names, cells_few}
use Rattle.aplc_stage.proofs.Parts.{lengths_declared, locals_fresh}
use Rattle.aplc_stage.proofs.Pairs.{pair_unlike}
use Rattle.aplc_stage.proofs.Leads.{hold_length, Leads, Fillable, computes_by}
use Rattle.aplc_stage.proofs.Chains.{piece_then, piece_last, piece_formed, stays_since, all_declared, locals_new, stepper_within, both_within}
use Rattle.aplc_stage.proofs.Dyadics.{pair_later, ranks_held, same_suits, cells_read, pair_fillable}

-- where the variable stays, it says the same of the array
beside_stays : (n m : ℕ) (keeps : Int) (s t : State) (ns rs : List ℕ) → IsOld n keeps → Stays n m s t → Beside keeps s ns rs → Beside keeps t ns rs
beside_stays n m keeps s t ns rs old f (Kept is e) = Kept (read_stays n m s t keeps f old ∙ is) e
beside_stays n m keeps s t ns rs old f (Extended is one other) = Extended (read_stays n m s t keeps f old ∙ is) one other

module _ (lf rf : Origin) (ll rl names : List Int) (kl kr bl br : Int) (sl sr el er : List Int) (b0 b1 b2 b3 b4 b5 : Blocks) (given : AreGiven (joint (scope_of_staged (staged.Cells lf ll)) (scope_of_staged (staged.Cells rf rl))) b0) (ranks : length ll ≡ length rl) (conf : Conforms b0 b1 ll rl names kl kr) (over_l : MakesStepper b1 b2 ll bl sl) (over_r : MakesStepper b2 b3 rl br sr) (keep_l : KeepsOrExtends b3 b4 kl ll bl sl names el) (keep_r : KeepsOrExtends b4 b5 kr rl br sr names er) where
  abbrev x : Staged
  x = staged.Cells lf ll

  abbrev y : Staged
  y = staged.Cells rf rl

  abbrev G : Scope
  G = joint (scope_of_staged x) (scope_of_staged y)

  abbrev r : ℕ
  r = length ll

  -- ---- Which names are old where

  old_x : IsOldStaged b0.ints b0.bufs x
  old_x = given_names x b0 (given_left (scope_of_staged x) (scope_of_staged y) b0 given)

  old_y : IsOldStaged b0.ints b0.bufs y
  old_y = given_names y b0 (given_right (scope_of_staged x) (scope_of_staged y) b0 given)

  up1 : (b0.ints ≤ b1.ints) × (b0.bufs ≤ b1.bufs)
  up1 = (conf.grown.ints, conf.grown.bufs)

  up2 : (b1.ints ≤ b2.ints) × (b1.bufs ≤ b2.bufs)
  up2 = (over_l.grown.ints, over_l.grown.bufs)

  up3 : (b1.ints ≤ b3.ints) × (b1.bufs ≤ b3.bufs)
  up3 = (omega (arith, up2.0, over_r.grown.ints), omega (arith, up2.1, over_r.grown.bufs))

  up4 : (b1.ints ≤ b4.ints) × (b1.bufs ≤ b4.bufs)
  up4 = (omega (arith, up3.0, keep_l.grown.ints), omega (arith, up3.1, keep_l.grown.bufs))

  up5 : (b1.ints ≤ b5.ints) × (b1.bufs ≤ b5.bufs)
  up5 = (omega (arith, up4.0, keep_r.grown.ints), omega (arith, up4.1, keep_r.grown.bufs))

  names_old : (n : ℕ) → b1.ints ≤ n → AreOld n names
  names_old n le = subst (λ (l : List Int). AreOld n l) (sym conf.lengths_are) (locals_old n b0.ints ll (omega (arith, conf.names, le)))

  left_old : (n : ℕ) → b1.ints ≤ n → IsOld n kl
  left_old n le = subst (λ (i : Int). IsOld n i) (sym conf.left_is) (omega (arith, conf.names, le))

  right_old : (n : ℕ) → b1.ints ≤ n → IsOld n kr
  right_old n le = subst (λ (i : Int). IsOld n i) (sym conf.right_is) (omega (arith, conf.names, le))

  names_many : length names ≡ r
  names_many = ap length conf.lengths_are ∙ locals_many b0.ints ll

  base_old : (n : ℕ) → b2.ints ≤ n → IsOld n bl
  base_old n le = old_more b2.ints n bl le over_l.base_given

  widths_old : (n : ℕ) → b2.ints ≤ n → AreOld n sl
  widths_old n le = are_old_more b2.ints n sl le over_l.strides_given

  right_base_old : (n : ℕ) → b3.ints ≤ n → IsOld n br
  right_base_old n le = old_more b3.ints n br le over_r.base_given

  right_widths_old : (n : ℕ) → b3.ints ≤ n → AreOld n sr
  right_widths_old n le = are_old_more b3.ints n sr le over_r.strides_given

  kept_old : (n : ℕ) → b4.ints ≤ n → AreOld n el
  kept_old n le = subst (λ (l : List Int). AreOld n l) (sym keep_l.strides_are) (locals_old n b3.ints sl (omega (arith, keep_l.names, le)))

  right_kept_old : (n : ℕ) → b5.ints ≤ n → AreOld n er
  right_kept_old n le = subst (λ (l : List Int). AreOld n l) (sym keep_r.strides_are) (locals_old n b4.ints sr (omega (arith, keep_r.names, le)))

  older_x : (b : Blocks) → (b1.ints ≤ b.ints) × (b1.bufs ≤ b.bufs) → IsOldStaged b.ints b.bufs x
  older_x b le = older b0 b x (omega (arith, up1.0, le.0)) (omega (arith, up1.1, le.1)) old_x

  older_y : (b : Blocks) → (b1.ints ≤ b.ints) × (b1.bufs ≤ b.bufs) → IsOldStaged b.ints b.bufs y
  older_y b le = older b0 b y (omega (arith, up1.0, le.0)) (omega (arith, up1.1, le.1)) old_y

  -- ---- What the code comes to

  abbrev steps_of : ℕ
  steps_of = (r + 5) + (whole_steps r + (whole_steps (length rl) + ((length sl + 1) + (length sr + 1))))

  abbrev code : List CStmt
  code = conf.code ++ (over_l.code ++ (over_r.code ++ (keep_l.code ++ keep_r.code)))

  module _ (g : ScalarFn) (k : Kind) (kinds : kinds_suit g k k ≡ true) where
    abbrev test : Test
    test = dyad_test (dyadic g) (stepper_test lf bl el) (stepper_test rf br er)

    abbrev steps : Steps
    steps = steps_of_two (dyad_steps g) one_step one_step

    suits : (tables : List (List ℤ)) (s : State) (a b : Array) → Holds tables s x a → Holds tables s y b → ranks_suit (rank a) (rank b) ≡ true
    suits tables s a b h i = ranks_held tables s x y a b h i (ap (ranks_suit r) (sym ranks) ∙ same_suits r)

    module _ (c : Code) (s : State) (p : Prepared) (h : DyadicOf g k x k y c.tables s p) where
      abbrev a : Array
      a = h.left

      abbrev b : Array
      b = h.right

      abbrev Way : State → Type 0
      Way = Stays b0.ints b0.bufs s

      abbrev Post : State → Type 0
      Post t = Stays b0.ints b0.bufs s t × Fillable test steps b5.ints b5.bufs 6 names c.tables t p

      abbrev Fail : FaultKind → State → Type 0
      Fail e t = Stays b0.ints b0.bufs s t × (computed p ≡ Err e)

      -- the shapes do not conform
      unlike : (e : FaultKind) (t : State) → Unlike b0.ints b0.bufs a.shape b.shape s e t → Fail e t
      unlike e t u = (
        u.stays,
        ap computed (h.prepared ∙ pair_unlike g a b (ap (λ (q : Kind). kinds_suit g q b.kind) h.left_kind ∙ ap (kinds_suit g k) h.right_kind ∙ kinds) (suits c.tables s a b h.left_holds h.right_holds) u.none)
            ∙ ap Err (sym u.kind),
      )

      -- Behind the shape: it stays, and the arrays do.
      module _ (t1 : State) (m : Conformed b0.ints b0.bufs names kl kr a.shape b.shape s t1) where
        abbrev Later : Blocks → State → Type 0
        Later b t = Stays b1.ints b1.bufs t1 t

        way : (t : State) → Stays b1.ints b1.bufs t1 t → Way t
        way t f = stays_since b0.ints b0.bufs b1.ints b1.bufs s t1 t up1.0 up1.1 m.stays f

        abbrev now : (t : State) → Stays b1.ints b1.bufs t1 t → DyadicOf g k x k y c.tables t p
        now t f = pair_later g k x k y b0.ints b0.bufs c.tables s t p old_x old_y (way t f) h

        shape_there : (t : State) → Stays b1.ints b1.bufs t1 t → Hold t names m.shape
        shape_there t f = hold_stays b1.ints b1.bufs t1 t names m.shape f (names_old b1.ints (omega arith)) m.held

        left_long : length a.shape ≡ length m.shape
        left_long = sym (hold_length s ll a.shape h.left_holds.shape) ∙ sym names_many ∙ hold_length t1 names m.shape m.held

        right_long : length b.shape ≡ length m.shape
        right_long = sym (hold_length s rl b.shape h.right_holds.shape) ∙ sym ranks ∙ sym names_many ∙ hold_length t1 names m.shape m.held

        -- both steppers go over the shape of both
        ends : (t : State) (at_l at_r : List ℕ → ℕ) → Later b1 t → StepsOver names bl el t m.shape at_l (length a.cells) → PlaceBeside a.shape m.shape (place a.shape) at_l → StepsOver names br er t m.shape at_r (length b.cells) → PlaceBeside b.shape m.shape (place b.shape) at_r → Post t
        ends t at_l at_r f ol pl ov pr =
            let d = now t f in (
              way t f,
              pair_fillable g k x y (stepper_test lf bl el) (stepper_test rf br er) one_step one_step names c.tables b5.ints b5.bufs t p m.shape d kinds (suits c.tables t a b d.left_holds d.right_holds) m.common (shape_there t f)
                  (cells_read c.tables b5.ints b5.bufs t lf bl el names a m.shape at_l (older_x b5 up5).0 (base_old b5.ints (omega (arith, over_r.grown.ints, keep_l.grown.ints, keep_r.grown.ints))) (kept_old b5.ints keep_r.grown.ints) (names_old b5.ints up5.0) h.left_holds.array d.left_holds.cells ol pl)
                  (cells_read c.tables b5.ints b5.bufs t rf br er names b m.shape at_r (older_y b5 up5).0 (right_base_old b5.ints (omega (arith, keep_l.grown.ints, keep_r.grown.ints))) (right_kept_old b5.ints (omega arith)) (names_old b5.ints up5.0) h.right_holds.array d.right_holds.cells ov pr),
            )

        right_runs : (t : State) (at_l : List ℕ → ℕ) → Later b1 t → StepsOver names bl el t m.shape at_l (length a.cells) → PlaceBeside a.shape m.shape (place a.shape) at_l → StepsOver rl br sr t b.shape (place b.shape) (length b.cells) → Does c Way (length sr + 1) keep_r.code t Post Fail
        right_runs t at_l f ol pl ov =
            piece_last c b0.ints b0.bufs b4.ints b4.bufs (length sr + 1) keep_r.code s t (SteppedBeside names br er b4.ints b4.bufs (length b.cells) b.shape m.shape (place b.shape) t) Post Fail (omega (arith, up1.0, up4.0)) (omega (arith, up1.1, up4.1)) (way t f)
            (keep_r.runs c t b.shape m.shape (place b.shape) (length b.cells) ov (beside_stays b1.ints b1.bufs kr t1 t b.shape m.shape (right_old b1.ints (omega arith)) f m.right) (shape_there t f) right_long)
            (λ u n. ends u at_l n.at (stays_since b1.ints b1.bufs b4.ints b4.bufs t1 t u up4.0 up4.1 f n.stays)
            (over_stays b4.ints b4.bufs (length a.cells) bl el names t u m.shape at_l n.stays (names_old b4.ints up4.0) (base_old b4.ints (omega (arith, over_r.grown.ints, keep_l.grown.ints))) (kept_old b4.ints (omega arith)) ol) pl
            n.over n.places)

        left_runs : (t : State) → Later b1 t → StepsOver ll bl sl t a.shape (place a.shape) (length a.cells) → StepsOver rl br sr t b.shape (place b.shape) (length b.cells) → Does c Way ((length sl + 1) + (length sr + 1)) (keep_l.code ++ keep_r.code) t Post Fail
        left_runs t f ol ov =
            piece_then c b0.ints b0.bufs b3.ints b3.bufs (length sl + 1) (length sr + 1) keep_l.code keep_r.code s t (SteppedBeside names bl el b3.ints b3.bufs (length a.cells) a.shape m.shape (place a.shape) t) Post Fail (omega (arith, up1.0, up3.0)) (omega (arith, up1.1, up3.1)) (way t f)
            (keep_l.runs c t a.shape m.shape (place a.shape) (length a.cells) ol (beside_stays b1.ints b1.bufs kl t1 t a.shape m.shape (left_old b1.ints (omega arith)) f m.left) (shape_there t f) left_long)
            (λ u n. right_runs u n.at (stays_since b1.ints b1.bufs b3.ints b3.bufs t1 t u up3.0 up3.1 f n.stays) n.over n.places
            (over_stays b3.ints b3.bufs (length b.cells) br sr rl t u b.shape (place b.shape) n.stays (older_y b3 up3).1 (right_base_old b3.ints (omega arith)) (right_widths_old b3.ints (omega arith)) ov))

        over_right_runs : (t : State) → Later b1 t → StepsOver ll bl sl t a.shape (place a.shape) (length a.cells) → Does c Way (whole_steps (length rl) + ((length sl + 1) + (length sr + 1))) (over_r.code ++ (keep_l.code ++ keep_r.code)) t Post Fail
        over_right_runs t f ol =
            let whole : product b.shape ≤ length b.cells = let w = h.right_holds.array.whole in omega (arith, w) in
            piece_then c b0.ints b0.bufs b2.ints b2.bufs (whole_steps (length rl)) ((length sl + 1) + (length sr + 1)) over_r.code (keep_l.code ++ keep_r.code) s t (λ u. Stays b2.ints b2.bufs t u × StepsOver rl br sr u b.shape (place b.shape) (length b.cells)) Post Fail (omega (arith, up1.0, up2.0)) (omega (arith, up1.1, up2.1)) (way t f)
            (over_r.runs c t b.shape (length b.cells) (now t f).right_holds.shape whole (cells_few b h.right_holds.array))
            (λ u n. left_runs u (stays_since b1.ints b1.bufs b2.ints b2.bufs t1 t u up2.0 up2.1 f n.0)
            (over_stays b2.ints b2.bufs (length a.cells) bl sl ll t u a.shape (place a.shape) n.0 (older_x b2 up2).1 (base_old b2.ints (omega arith)) (widths_old b2.ints (omega arith)) ol) n.1)

        over_left_runs : Does c Way (whole_steps r + (whole_steps (length rl) + ((length sl + 1) + (length sr + 1)))) (over_l.code ++ (over_r.code ++ (keep_l.code ++ keep_r.code))) t1 Post Fail
        over_left_runs =
            let f = stays_none b1.ints b1.bufs t1 in
            let whole : product a.shape ≤ length a.cells = let w = h.left_holds.array.whole in omega (arith, w) in
            piece_then c b0.ints b0.bufs b1.ints b1.bufs (whole_steps r) (whole_steps (length rl) + ((length sl + 1) + (length sr + 1))) over_l.code (over_r.code ++ (keep_l.code ++ keep_r.code)) s t1 (λ u. Stays b1.ints b1.bufs t1 u × StepsOver ll bl sl u a.shape (place a.shape) (length a.cells)) Post Fail up1.0 up1.1 m.stays
            (over_l.runs c t1 a.shape (length a.cells) (now t1 f).left_holds.shape whole (cells_few a h.left_holds.array))
            (λ u n. over_right_runs u n.0 n.1)

      all_run : Does c Way steps_of code s Post Fail
      all_run =
          does_then c Way (r + 5) (whole_steps r + (whole_steps (length rl) + ((length sl + 1) + (length sr + 1)))) conf.code (over_l.code ++ (over_r.code ++ (keep_l.code ++ keep_r.code))) s (Conformed b0.ints b0.bufs names kl kr a.shape b.shape s) Post Fail
          (does_weaken c Way Way (r + 5) (r + 5) conf.code s (Conformed b0.ints b0.bufs names kl kr a.shape b.shape s) (Conformed b0.ints b0.bufs names kl kr a.shape b.shape s) (Unlike b0.ints b0.bufs a.shape b.shape s) Fail (λ u f. f) (λ u m. m) unlike (omega arith)
          (conf.runs c s a.shape b.shape h.left_holds.shape h.right_holds.shape))
          over_left_runs

    -- ---- Names and nesting

    declared_x : (sc : Scope) → IsWithin G sc → b5.ints ≤ sc.ints → AreInts sc ll
    declared_x sc w le = lengths_declared x b0 sc (given_left (scope_of_staged x) (scope_of_staged y) b0 given) (within_left (scope_of_staged x) (scope_of_staged y) sc w) (omega (arith, up1.0, up5.0, le))

    declared_y : (sc : Scope) → IsWithin G sc → b5.ints ≤ sc.ints → AreInts sc rl
    declared_y sc w le = lengths_declared y b0 sc (given_right (scope_of_staged x) (scope_of_staged y) b0 given) (within_right (scope_of_staged x) (scope_of_staged y) sc w) (omega (arith, up1.0, up5.0, le))

    keeps_declared : (sc : Scope) → b5.ints ≤ sc.ints → (is_int sc kl ≡ true) × (is_int sc kr ≡ true)
    keeps_declared sc le = (
      ap (is_int sc) conf.left_is ∙ is_below (b0.ints + r) sc.ints (omega (arith, conf.names, up5.0, le)),
      ap (is_int sc) conf.right_is ∙ is_below (b0.ints + r + 1) sc.ints (omega (arith, conf.names, up5.0, le)),
    )

    code_formed : IsFormed G [] [] b5 (4 + r) code
    code_formed =
        formed_append G [] [] b5 (4 + r) conf.code (over_l.code ++ (over_r.code ++ (keep_l.code ++ keep_r.code)))
        (piece_formed G (ll ++ rl) b1 b5 (4 + r) (4 + r) conf.code up5.0 up5.1 (omega arith) (λ sc w le. ints_append sc ll rl (declared_x sc w le) (declared_y sc w le)) conf.formed)
        (formed_append G [] [] b5 (4 + r) over_l.code (over_r.code ++ (keep_l.code ++ keep_r.code))
        (piece_formed G ll b2 b5 (1 + r) (4 + r) over_l.code (omega (arith, over_r.grown.ints, keep_l.grown.ints, keep_r.grown.ints)) (omega (arith, over_r.grown.bufs, keep_l.grown.bufs, keep_r.grown.bufs)) (omega arith) declared_x over_l.formed)
        (formed_append G [] [] b5 (4 + r) over_r.code (keep_l.code ++ keep_r.code)
        (piece_formed G rl b3 b5 (1 + length rl) (4 + r) over_r.code (omega (arith, keep_l.grown.ints, keep_r.grown.ints)) (omega (arith, keep_l.grown.bufs, keep_r.grown.bufs)) (omega (arith, ranks)) declared_y over_r.formed)
        (formed_append G [] [] b5 (4 + r) keep_l.code keep_r.code
        (piece_formed G (kl ∷ sl) b4 b5 2 (4 + r) keep_l.code keep_r.grown.ints keep_r.grown.bufs (omega arith)
        (λ sc w le. ((keeps_declared sc le).0, all_declared sc b1.ints b2.ints sl over_l.fresh.1 (omega (arith, over_r.grown.ints, keep_l.grown.ints, keep_r.grown.ints, le)))) keep_l.formed)
        (piece_formed G (kr ∷ sr) b5 b5 2 (4 + r) keep_r.code (omega arith) (omega arith) (omega arith)
        (λ sc w le. ((keeps_declared sc le).1, all_declared sc b2.ints b3.ints sr over_r.fresh.1 (omega (arith, keep_l.grown.ints, keep_r.grown.ints, le)))) keep_r.formed))))

    leads : Leads (DyadicOf g k x k y) (Fillable test steps b5.ints b5.bufs 6 names) G steps_of (4 + r) b0 b5
    leads = record {
      code = code;
      grown = grown_then conf.code (over_l.code ++ (over_r.code ++ (keep_l.code ++ keep_r.code))) b0 b1 b5 conf.grown (grown_then over_l.code (over_r.code ++ (keep_l.code ++ keep_r.code)) b1 b2 b5 over_l.grown (grown_then over_r.code (keep_l.code ++ keep_r.code) b2 b3 b5 over_r.grown (grown_then keep_l.code keep_r.code b3 b4 b5 keep_l.grown keep_r.grown)));
      formed = code_formed;
      runs = λ c s p h. all_run c s p h;
    }

    -- the steppers look at nothing but the arguments' tables and global buffers, and at local variables
    left_within : (sc : Scope) → IsWithin G sc → IsWithin (stepper_scope lf bl el) sc
    left_within sc w =
        subst (λ (l : List Int). IsWithin (stepper_scope lf bl l) sc) (sym keep_l.strides_are)
        (stepper_within lf bl (locals b3.ints sl) b1.ints b2.ints b3.ints (b3.ints + length sl) sc over_l.fresh.0 (locals_new b3.ints sl) (within_left (origin_scope lf) (scope_of_all ll) sc (within_left (scope_of_staged x) (scope_of_staged y) sc w)))

    right_within : (sc : Scope) → IsWithin G sc → IsWithin (stepper_scope rf br er) sc
    right_within sc w =
        subst (λ (l : List Int). IsWithin (stepper_scope rf br l) sc) (sym keep_r.strides_are)
        (stepper_within rf br (locals b4.ints sr) b2.ints b3.ints b4.ints (b4.ints + length sr) sc over_r.fresh.0 (locals_new b4.ints sr) (within_left (origin_scope rf) (scope_of_all rl) sc (within_right (scope_of_staged x) (scope_of_staged y) sc w)))

    many_left : length el ≡ r
    many_left = ap length keep_l.strides_are ∙ locals_many b3.ints sl ∙ over_l.as_many

    many_right : length er ≡ r
    many_right = ap length keep_r.strides_are ∙ locals_many b4.ints sr ∙ over_r.as_many ∙ sym ranks

    abbrev deep : ℕ
    deep = max (max (2 + length el) (2 + length er)) dyad_depth

    abbrev H : Scope
    H = joint (stepper_scope lf bl el) (stepper_scope rf br er)

    pub couple_computes : (b6 : Blocks) (v : Staged) → 1 ≤ r → Gathers test steps H deep b5 b6 names v → Computes (DyadicOf g k x k y) G r b0 b6 v
    couple_computes b6 v some last =
        let el_many = many_left in
        let er_many = many_right in
        let sl_many = over_l.as_many in
        let sr_many = over_r.as_many in
        subst (λ (w : Staged). Computes (DyadicOf g k x k y) G r b0 b6 w) (sym last.name)
        (computes_by (DyadicOf g k x k y) test steps G H deep 6 steps_of (4 + r) r b0 b5 b6 names leads
        (subst (λ (w : Staged). Gathers test steps H deep b5 b6 names w) last.name last)
        (omega arith) (omega (arith, ranks, sl_many, sr_many)) (omega arith) (omega (arith, el_many, er_many, names_many)) names_many some
        (subst (λ (l : List Int). AreFresh b0.ints b5.ints l) (sym conf.lengths_are) (locals_fresh b0.ints b5.ints b0.ints ll (omega arith) (omega (arith, conf.names, up5.0))))
        (λ sc w. both_within (stepper_scope lf bl el) (stepper_scope rf br er) sc (left_within sc w) (right_within sc w)))

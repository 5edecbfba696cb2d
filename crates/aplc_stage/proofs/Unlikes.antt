-- Equality of a number and a character: one constant in the shape of both arguments.
-- It must not know what the elements are.
use Rattle.std.proofs.Common.{◌≡◌, ℕ, ◌+◌, ◌≤◌, List, [], ◌∷◌, ◌++◌, length, refl, sym, ap, ◌∙◌, subst, arith, ℤ, Bool, true, false}
use Rattle.std.specs.Prelude.{Some, None, Ok, Err, IfOk, pos, max, if◌then◌else◌}
use Rattle.aplc_scalar.specs.declared.kind.Kind.{Kind}
use Rattle.aplc_scalar.specs.declared.kind.Kind.TheVariants.{Num}
use Rattle.aplc_scalar.specs.declared.function.ScalarFn.{ScalarFn}
use Rattle.aplc_scalar.specs.declared.function.ScalarFn.TheVariants as fn
use Rattle.aplc_scalar.specs.Scalar.{Given, in_range, dyadic}
use Rattle.aplc_arr.specs.Arrays.{Array, IsArray, rank, kind_eq}
use Rattle.aplc_arr.specs.Delayed.{Prepared, computed, with_cells, all_given}
use Rattle.aplc_arr.specs.Each.{kinds_suit, ranks_suit, common_shape, applied, of_unlike, extended}
use Rattle.aplc_arr.proofs.KeepsEach.{keeps-each_dyadic}
use Rattle.aplc_cprof.specs.declared.syntax.Int.{Int}
use Rattle.aplc_cprof.specs.declared.syntax.Int.TheVariants as int
use Rattle.aplc_cprof.specs.declared.syntax.CExpr.{CExpr}
use Rattle.aplc_cprof.specs.declared.syntax.CStmt.{CStmt}
use Rattle.aplc_cprof.specs.declared.syntax.CStmt.TheVariants as stmt
use Rattle.aplc_cprof.specs.Blocks.{Blocks}
use Rattle.aplc_cprof.specs.WellFormed.{Scope, is_expr}
use Rattle.aplc_cprof.specs.Machine.{State, Code, Is, value, or_unset}
use Rattle.aplc_cprof.specs.Frames.{AreGiven, AreOld, Stays, Hold}
use Rattle.aplc_cprof.specs.Emitted.{joint, Grown, IsWithin, AreInts, IsFormed}
use Rattle.aplc_cprof.proofs.Values.{value_Lit}
use Rattle.aplc_cprof.proofs.Paths.{Does, does_then, does_weaken}
use Rattle.aplc_cprof.proofs.Frames.{given_left, given_right, after_set, put_at, are_old_more, stays_none, stays_set, hold_stays}
use Rattle.aplc_cprof.proofs.Emitted.{is_below, ints_append, lit_formed, set_formed, one_stmt, formed_append, grown_then, grown_int, grown_emit, within_left, within_right}
use Rattle.aplc_cprof.proofs.Counting.{does_set}
use Rattle.aplc_collect.specs.Elements.{Computed, Failed, scope_of, scalar_test, one_step}
use Rattle.aplc_stage.specs.declared.staged.Staged.{Staged}
use Rattle.aplc_stage.specs.declared.staged.Staged.TheVariants as staged
use Rattle.aplc_stage.specs.Staged.{lengths_of, scope_of_staged, rank_of}
use Rattle.aplc_stage.specs.Computes.{Making, cells_of_prepared, most_steps, Comes, Faults, Computes, DyadicOf}
use Rattle.aplc_stage.specs.Pieces.{SharedLengths, Unlike, Shares, StandsBeside, Gathers, unlike_expr}
use Rattle.aplc_stage.proofs.Elements.{scalar_beside}
use Rattle.aplc_stage.proofs.Scalars.{one_given, scalar_runs}
use Rattle.aplc_stage.proofs.Parts.{lengths_declared}
use Rattle.aplc_stage.proofs.Pairs.{pair_array, pair_prepared, pair_unlike}
use Rattle.aplc_stage.proofs.Leads.{hold_length, fresh_names, fresh_wider, Leads, Fillable, computes_by}
use Rattle.aplc_stage.proofs.Chains.{piece_formed, fresh_within}
use Rattle.aplc_stage.proofs.Dyadics.{ranks_held, common_fits}

-- ---- The constant

abbrev pub unlike_number : ScalarFn → ℤ
unlike_number fn.NotEqual = pos 1
unlike_number g = pos 0

number_is : (g : ScalarFn) → of_unlike g ≡ Ok (unlike_number g)
number_is fn.NotEqual = refl
number_is g = refl

unlike_value : (g : ScalarFn) (tables : List (List ℤ)) (s : State) → value (unlike_expr g) tables s ≡ Is (unlike_number g)
unlike_value fn.NotEqual tables s = value_Lit (pos 1) tables s
unlike_value g tables s = value_Lit (pos 0) tables s

unlike_formed : (g : ScalarFn) (sc : Scope) (room : ℕ) → is_expr sc (unlike_expr g) (Some room) ≡ true
unlike_formed fn.NotEqual sc room = lit_formed sc 1 (omega arith) room
unlike_formed g sc room = lit_formed sc 0 (omega arith) room

unlike_in : (g : ScalarFn) → in_range (unlike_number g) ≡ true
unfolding in_range
unlike_in fn.NotEqual = refl
unlike_in g = refl

other_one : (b : Bool) (q r : Given) → b ≡ false → (if b then q else r) ≡ r
other_one false q r e = refl
other_one true q r e = absurd (cc e)

applied_unlike : (g : ScalarFn) (k l : Kind) (z w : ℤ) → kind_eq k l ≡ false → applied g k l z w ≡ of_unlike g
applied_unlike g k l z w e = other_one (kind_eq k l) (dyadic g z w) (of_unlike g) e

-- an array without axes has one element
only_one : (r : List ℕ → Given) → computed (Ok record { kind = Num; shape = []; element = r }) ≡ one_given Num (r [])
only_one r = by (r [])
  where
    by : (q : Given) → with_cells (record { kind = Num; shape = []; element = r }) (all_given (q ∷ [])) ≡ one_given Num q
    by (Ok z) = refl
    by (Err e) = refl

no_length : (ns : List ℕ) → length ns ≡ 0 → ns ≡ []
no_length [] e = refl
no_length (n ∷ ns) e = absurd (omega (arith, e))

none_some : (ms ns rs : List ℕ) → common_shape ms ns ≡ None → common_shape ms ns ≡ Some rs → ⊥
none_some ms ns rs e h = cc (sym e ∙ h)

-- the shape of both is there, and the constant is in the variable
record Set (n m v : ℕ) (lengths : List Int) (ms ns : List ℕ) (z : ℤ) (s t : State) : Type 0 where
  pub stays : Stays n m s t
  pub shape : List ℕ
  pub common : common_shape ms ns ≡ Some shape
  pub held : Hold t lengths shape
  pub is : t.ints v ≡ Some z

module _ (g : ScalarFn) (k l : Kind) (x y : Staged) (lengths : List Int) (b0 b1 b2 b3 : Blocks) (v : Int) (e : CExpr) (unlike : kind_eq k l ≡ false) (kinds : kinds_suit g k l ≡ true) (ranks : ranks_suit (rank_of x) (rank_of y) ≡ true) (given : AreGiven (joint (scope_of_staged x) (scope_of_staged y)) b0) (sh : Shares b0 b1 (lengths_of x) (lengths_of y) lengths) (ev : v ≡ int.Local b1.ints) (e2 : b2 ≡ record b1 { ints = b1.ints + 1 }) (ee : e ≡ unlike_expr g) (e3 : b3 ≡ record b2 { inner = b2.inner ++ stmt.Set v e ∷ [] }) where
  abbrev G : Scope
  G = joint (scope_of_staged x) (scope_of_staged y)

  abbrev n : ℕ
  n = b1.ints

  abbrev r : ℕ
  r = length lengths

  abbrev sets : List CStmt
  sets = stmt.Set (int.Local n) (unlike_expr g) ∷ []

  abbrev code : List CStmt
  code = sh.code ++ sets

  ints3 : b3.ints ≡ n + 1
  ints3 = ap (λ (b : Blocks). b.ints) e3 ∙ ap (λ (b : Blocks). b.ints) e2

  bufs3 : b3.bufs ≡ b1.bufs
  bufs3 = ap (λ (b : Blocks). b.bufs) e3 ∙ ap (λ (b : Blocks). b.bufs) e2

  grown_is : Grown code b0 b3
  grown_is =
      subst (λ (st : CStmt). Grown (sh.code ++ st ∷ []) b0 b3) (ap (λ (i : Int). stmt.Set i e) ev ∙ ap (stmt.Set (int.Local n)) ee)
      (grown_then sh.code (stmt.Set v e ∷ []) b0 b1 b3 sh.grown (grown_then [] (stmt.Set v e ∷ []) b1 b2 b3 (grown_int b1 b2 e2) (grown_emit (stmt.Set v e) b2 b3 e3)))

  names : (sc : Scope) → IsWithin G sc → b3.ints ≤ sc.ints → AreInts sc (lengths_of x ++ lengths_of y)
  names sc w le =
      ints_append sc (lengths_of x) (lengths_of y)
      (lengths_declared x b0 sc (given_left (scope_of_staged x) (scope_of_staged y) b0 given) (within_left (scope_of_staged x) (scope_of_staged y) sc w) (omega (arith, sh.grown.ints, ints3, le)))
      (lengths_declared y b0 sc (given_right (scope_of_staged x) (scope_of_staged y) b0 given) (within_right (scope_of_staged x) (scope_of_staged y) sc w) (omega (arith, sh.grown.ints, ints3, le)))

  code_formed : IsFormed G [] [] b3 (4 + r) code
  code_formed =
      formed_append G [] [] b3 (4 + r) sh.code sets
      (piece_formed G (lengths_of x ++ lengths_of y) b1 b3 (4 + r) (4 + r) sh.code (omega (arith, ints3)) (omega (arith, bufs3)) (omega arith) names sh.formed)
      (λ sc room within are bufs more more_bufs le.
      one_stmt sc (Some room) (stmt.Set (int.Local n) (unlike_expr g)) [] (set_formed sc (Some room) (int.Local n) (unlike_expr g) (is_below n sc.ints (omega (arith, ints3, more))) (unlike_formed g sc room)) refl)

  lengths_old : AreOld n lengths
  lengths_old = fresh_names b0.ints n lengths sh.fresh

  -- the shape, and the constant
  set_run : (c : Code) (s : State) (ms ns : List ℕ) → Hold s (lengths_of x) ms → Hold s (lengths_of y) ns → Does c (Stays b0.ints b0.bufs s) (r + 5 + 1) code s (Set b0.ints b0.bufs n lengths ms ns (unlike_number g) s) (Unlike b0.ints b0.bufs ms ns s)
  set_run c s ms ns left right =
      does_then c (Stays b0.ints b0.bufs s) (r + 5) 1 sh.code sets s (SharedLengths b0.ints b0.bufs lengths ms ns s) (Set b0.ints b0.bufs n lengths ms ns (unlike_number g) s) (Unlike b0.ints b0.bufs ms ns s)
      (sh.runs c s ms ns left right)
      (λ t m. does_set c (Stays b0.ints b0.bufs s) n (unlike_expr g) t (Set b0.ints b0.bufs n lengths ms ns (unlike_number g) s) (Unlike b0.ints b0.bufs ms ns s) (unlike_number g) (unlike_value g c.tables t)
      (λ rest. stays_set b0.ints b0.bufs n (unlike_number g) s t rest sh.grown.ints m.stays)
      (λ rest. record {
        stays = stays_set b0.ints b0.bufs n (unlike_number g) s t rest sh.grown.ints m.stays;
        shape = m.shape;
        common = m.common;
        held = hold_stays n b0.bufs t (after_set n (unlike_number g) rest t) lengths m.shape (stays_set n b0.bufs n (unlike_number g) t t rest (omega arith) (stays_none n b0.bufs t)) lengths_old m.held;
        is = put_at t.ints n (Some (unlike_number g));
      }))

  -- ---- Two scalars

  module _ (c : Code) (s : State) (p : Prepared) (h : DyadicOf g k x l y c.tables s p) where
    abbrev a : Array
    a = h.left

    abbrev b : Array
    b = h.right

    kinds_are : kinds_suit g a.kind b.kind ≡ true
    kinds_are = ap (λ (q : Kind). kinds_suit g q b.kind) h.left_kind ∙ ap (kinds_suit g k) h.right_kind ∙ kinds

    kinds_differ : kind_eq a.kind b.kind ≡ false
    kinds_differ = ap (λ (q : Kind). kind_eq q b.kind) h.left_kind ∙ ap (kind_eq k) h.right_kind ∙ unlike

    suits : ranks_suit (rank a) (rank b) ≡ true
    suits = ranks_held c.tables s x y a b h.left_holds h.right_holds ranks

    element_is : (ns is : List ℕ) → applied g a.kind b.kind (extended a ns is) (extended b ns is) ≡ Ok (unlike_number g)
    element_is ns is = applied_unlike g a.kind b.kind (extended a ns is) (extended b ns is) kinds_differ ∙ number_is g

    keeps : IfOk (computed p) IsArray
    keeps = subst (λ (q : Prepared). IfOk (computed q) IsArray) (sym h.prepared) (keeps-each_dyadic g a b h.left_holds.array h.right_holds.array)

    few : (q : Prepared) → r ≡ 0 → r + 5 + 1 ≤ most_steps 0 q
    few (Ok d) none = omega (arith, none)
    few (Err i) none = omega (arith, none)

    scalar_run : r ≡ 0 → Does c (Making b0.ints b0.bufs (cells_of_prepared p) s) (most_steps 0 p) code s (Comes c.tables b0.ints b0.bufs (staged.Scalar (int.Local n)) p s) (Faults b0.ints b0.bufs p s)
    scalar_run none =
        let many = sh.as_many in
        let left : a.shape ≡ [] = no_length a.shape (let i = hold_length s (lengths_of x) a.shape h.left_holds.shape in omega (arith, i, many, none)) in
        let right : b.shape ≡ [] = no_length b.shape (let i = hold_length s (lengths_of y) b.shape h.right_holds.shape in omega (arith, i, many, none)) in
        let common : common_shape a.shape b.shape ≡ Some [] = ap (λ (ks : List ℕ). common_shape ks b.shape) left ∙ ap (λ (ks : List ℕ). Some ks) right in
        let prepared : p ≡ Ok (pair_array g a b []) = h.prepared ∙ pair_prepared g a b [] kinds_are suits common in
        let given_is : computed p ≡ one_given Num (Ok (unlike_number g)) =
        ap computed prepared ∙ only_one (λ is. applied g a.kind b.kind (extended a [] is) (extended b [] is)) ∙ ap (one_given Num) (element_is [] []) in
        scalar_runs c b0.ints b0.bufs (r + 5 + 1) 0 code s (int.Local n) Num (Ok (unlike_number g)) p given_is keeps (few p none)
        (does_weaken c (Stays b0.ints b0.bufs s) (Stays b0.ints b0.bufs s) (r + 5 + 1) (r + 5 + 1) code s (Set b0.ints b0.bufs n lengths a.shape b.shape (unlike_number g) s) (Computed b0.ints b0.bufs s (int.Local n) (Ok (unlike_number g))) (Unlike b0.ints b0.bufs a.shape b.shape s) (Failed b0.ints b0.bufs s (Ok (unlike_number g)))
        (λ u f. f) (λ u m. record { stays = m.stays; value = unlike_number g; given = refl; is = ap or_unset m.is }) (λ i u f. absurd (none_some a.shape b.shape [] f.none common)) (omega arith)
        (set_run c s a.shape b.shape h.left_holds.shape h.right_holds.shape))

    -- ---- Where there is an array

    stands : (t : State) (ns : List ℕ) → t.ints n ≡ Some (unlike_number g) → StandsBeside (scalar_test (int.Local n)) one_step c.tables b3.ints b3.bufs t (pair_array g a b ns) 1
    stands t ns is = record {
      takes = λ u other st. omega arith;
      items = λ u other st js index.
          scalar_beside b3.ints b3.bufs (Some other ∷ []) c.tables t u (int.Local n) (unlike_number g) js (omega (arith, ints3)) st (ap or_unset is) (unlike_in g)
          ∙ ap (λ (q : Given). Some q) (sym (element_is ns js));
    }

    fillable : (t : State) → Set b0.ints b0.bufs n lengths a.shape b.shape (unlike_number g) s t → Fillable (scalar_test (int.Local n)) one_step b3.ints b3.bufs 1 lengths c.tables t p
    fillable t m = record {
      array = pair_array g a b m.shape;
      is = h.prepared ∙ pair_prepared g a b m.shape kinds_are suits m.common;
      shape = m.held;
      fits = common_fits a.shape b.shape m.shape h.left_holds.array.fits h.right_holds.array.fits m.common;
      stands = stands t m.shape m.is;
      keeps = keeps;
    }

    lead_run : Does c (Stays b0.ints b0.bufs s) (r + 5 + 1) code s (λ t. Stays b0.ints b0.bufs s t × Fillable (scalar_test (int.Local n)) one_step b3.ints b3.bufs 1 lengths c.tables t p) (λ i t. Stays b0.ints b0.bufs s t × (computed p ≡ Err i))
    lead_run =
        does_weaken c (Stays b0.ints b0.bufs s) (Stays b0.ints b0.bufs s) (r + 5 + 1) (r + 5 + 1) code s (Set b0.ints b0.bufs n lengths a.shape b.shape (unlike_number g) s) (λ t. Stays b0.ints b0.bufs s t × Fillable (scalar_test (int.Local n)) one_step b3.ints b3.bufs 1 lengths c.tables t p) (Unlike b0.ints b0.bufs a.shape b.shape s) (λ i t. Stays b0.ints b0.bufs s t × (computed p ≡ Err i))
        (λ u f. f) (λ u m. (m.stays, fillable u m)) (λ i u f. (f.stays, ap computed (h.prepared ∙ pair_unlike g a b kinds_are suits f.none) ∙ ap Err (sym f.kind))) (omega arith)
        (set_run c s a.shape b.shape h.left_holds.shape h.right_holds.shape)

  pub number_computes : r ≡ 0 → Computes (DyadicOf g k x l y) G (max (rank_of x) (rank_of y)) b0 b3 (staged.Scalar v)
  number_computes none =
      subst (λ (i : Int). Computes (DyadicOf g k x l y) G (max (rank_of x) (rank_of y)) b0 b3 (staged.Scalar i)) (sym ev)
      (subst (λ (j : ℕ). Computes (DyadicOf g k x l y) G j b0 b3 (staged.Scalar (int.Local n))) (sym none ∙ sh.as_many) record {
        code = code;
        grown = grown_is;
        formed = λ sc room within are bufs more more_bufs le. code_formed sc room within are bufs more more_bufs (omega (arith, none, le));
        fresh = (sh.grown.ints, omega (arith, ints3));
        ranked = tt;
        axes = refl;
        runs = λ c s p h. scalar_run c s p h none;
      })

  leads : Leads (DyadicOf g k x l y) (Fillable (scalar_test (int.Local n)) one_step b3.ints b3.bufs 1 lengths) G (r + 5 + 1) (4 + r) b0 b3
  leads = record { code = code; grown = grown_is; formed = code_formed; runs = λ c s p h. lead_run c s p h }

  pub array_computes : (b4 : Blocks) (w : Staged) → 1 ≤ r → Gathers (scalar_test v) one_step (scope_of v) 0 b3 b4 lengths w → Computes (DyadicOf g k x l y) G (max (rank_of x) (rank_of y)) b0 b4 w
  array_computes b4 w some last =
      let many = sh.as_many in
      let gathers : Gathers (scalar_test (int.Local n)) one_step (scope_of (int.Local n)) 0 b3 b4 lengths w = subst (λ (i : Int). Gathers (scalar_test i) one_step (scope_of i) 0 b3 b4 lengths w) ev last in
      subst (λ (u : Staged). Computes (DyadicOf g k x l y) G (max (rank_of x) (rank_of y)) b0 b4 u) (sym gathers.name)
      (computes_by (DyadicOf g k x l y) (scalar_test (int.Local n)) one_step G (scope_of (int.Local n)) 0 1 (r + 5 + 1) (4 + r) (max (rank_of x) (rank_of y)) b0 b3 b4 lengths leads
      (subst (λ (u : Staged). Gathers (scalar_test (int.Local n)) one_step (scope_of (int.Local n)) 0 b3 b4 lengths u) gathers.name gathers)
      (omega arith) (omega (arith, many)) (omega (arith, many)) (omega (arith, many)) many (omega (arith, many, some))
      (fresh_wider b0.ints b1.ints b3.ints lengths (omega (arith, ints3)) sh.fresh)
      (λ sc within. fresh_within n (n + 1) (int.Local n) sc (omega arith, omega arith)))

-- ---- As the calls give it

module _ (g : ScalarFn) (k l : Kind) (x y : Staged) (ll rl lengths : List Int) (b0 b1 b2 b3 : Blocks) (v : Int) (e : CExpr) (lx : ll ≡ lengths_of x) (ly : rl ≡ lengths_of y) (shared : Shares b0 b1 ll rl lengths) (e2 : b2 ≡ record b1 { ints = b1.ints + 1 }) (e3 : b3 ≡ record b2 { inner = b2.inner ++ stmt.Set v e ∷ [] }) where
  shares : Shares b0 b1 (lengths_of x) (lengths_of y) lengths
  shares = subst (λ (i : List Int). Shares b0 b1 i (lengths_of y) lengths) lx (subst (λ (i : List Int). Shares b0 b1 ll i lengths) ly shared)

  pub shared_given : AreOld b3.ints lengths
  shared_given = let i = ap (λ (b : Blocks). b.ints) e3 in let j = ap (λ (b : Blocks). b.ints) e2 in are_old_more b1.ints b3.ints lengths (omega (arith, i, j)) (fresh_names b0.ints b1.ints lengths shared.fresh)

  module _ (unlike : kind_eq k l ≡ false) (kinds : kinds_suit g k l ≡ true) (ranks : ranks_suit (rank_of x) (rank_of y) ≡ true) (given : AreGiven (joint (scope_of_staged x) (scope_of_staged y)) b0) (ev : v ≡ int.Local b1.ints) (ee : e ≡ unlike_expr g) where
    pub number_gives : length lengths ≡ 0 → Computes (DyadicOf g k x l y) (joint (scope_of_staged x) (scope_of_staged y)) (max (rank_of x) (rank_of y)) b0 b3 (staged.Scalar v)
    number_gives none = number_computes g k l x y lengths b0 b1 b2 b3 v e unlike kinds ranks given shares ev e2 ee e3 none

    pub array_gives : (b4 : Blocks) (w : Staged) → 1 ≤ length lengths → Gathers (scalar_test v) one_step (scope_of v) 0 b3 b4 lengths w → Computes (DyadicOf g k x l y) (joint (scope_of_staged x) (scope_of_staged y)) (max (rank_of x) (rank_of y)) b0 b4 w
    array_gives b4 w some last = array_computes g k l x y lengths b0 b1 b2 b3 v e unlike kinds ranks given shares ev e2 ee e3 b4 w some last

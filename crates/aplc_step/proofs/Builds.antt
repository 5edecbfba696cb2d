-- What the builders build, from the builder's states.
use Rattle.std.proofs.Common.{◌≡◌, ℕ, zero, suc, ◌+◌, ◌*◌, ◌<◌, ◌≤◌, List, [], ◌∷◌, ◌++◌, length, length-append, refl, sym, ap, ◌∙◌, subst, arith, true, ℤ}
use Rattle.std.specs.Prelude.{Some, pos, ◌^◌, ◌-◌, take, drop, replicate, slice_index_or, ◌*ℤ◌, ◌+ℤ◌}
use Rattle.std.proofs.lemmas.Int.{ints}
use Rattle.std.proofs.Math.Seq.{take-length}
use Rattle.aplc_arr.specs.Arrays.{product, IsIndexOf, place}
use Rattle.aplc_cprof.specs.declared.syntax.Int.{Int}
use Rattle.aplc_cprof.specs.declared.syntax.Int.TheVariants as int
use Rattle.aplc_cprof.specs.declared.syntax.Op.TheVariants as op
use Rattle.aplc_cprof.specs.declared.syntax.CExpr.{CExpr}
use Rattle.aplc_cprof.specs.declared.syntax.CExpr.TheVariants as expr
use Rattle.aplc_cprof.specs.declared.syntax.CStmt.TheVariants as stmt
use Rattle.aplc_cprof.specs.Blocks.{Blocks}
use Rattle.aplc_cprof.specs.WellFormed.{Scope, is_int, is_expr, are_stmts}
use Rattle.aplc_cprof.specs.Machine.{State, Code, Is, or_unset, read_int}
use Rattle.aplc_cprof.specs.Frames.{AreGiven, AreOld, IsOld, IsFresh, Stays, Hold}
use Rattle.aplc_cprof.specs.Emitted.{joint, no_names, on_values, Grown, AreInts, IsFormed}
use Rattle.aplc_cprof.proofs.Values.{value_Lit}
use Rattle.aplc_cprof.proofs.Paths.{Does, does_then, does_weaken}
use Rattle.aplc_cprof.proofs.Frames.{given_left, given_right, fresh_wider, fresh_more, after_set, are_old_more, are_old_append, stays_none, stays_then, stays_less, stays_set, put_at, hold_stays, read_stays}
use Rattle.aplc_cprof.proofs.Emitted.{is_below, bin_formed, with_literal_formed, on_values_formed, lit_formed, one_stmt, stmts_append, set_formed, grown_then, grown_none}
use Rattle.aplc_cprof.proofs.Counting.{does_set}
use Rattle.aplc_collect.specs.Elements.{scope_of}
use Rattle.aplc_step.specs.declared.stepper.Origin.{Origin}
use Rattle.aplc_step.specs.Steppers.{origin_scope, scope_of_all, AreFresh, stepper_scope, address, HoldInts, AreAxes, StepsOver, zeros}
use Rattle.aplc_step.specs.Wholes.{with_set, some_element, AreBelow, HoldProducts, EmitsProducts, whole_steps, MakesStepper, ExtendsStepper}
use Rattle.aplc_step.proofs.Addresses.{address_zeros}
use Rattle.aplc_step.proofs.Wholes.{no_products, more_products, begins, Ready, begins_does, over_scalar, over_axes, factor_below, factor_small}

-- ---- A variable of its own

pub grown_set : (e : CExpr) (a b : Blocks) → b ≡ with_set e a → Grown (stmt.Set (int.Local a.ints) e ∷ []) a b
grown_set e a b h =
    let i : b.ints ≡ a.ints + 1 = ap (λ (x : Blocks). x.ints) h in
    let j : b.bufs ≡ a.bufs = ap (λ (x : Blocks). x.bufs) h in
    record { inner = ap (λ (x : Blocks). x.inner) h; outer = ap (λ (x : Blocks). x.outer) h; ints = omega (arith, i); bufs = omega (arith, j) }

pub set_ints : (e : CExpr) (a b : Blocks) → b ≡ with_set e a → b.ints ≡ a.ints + 1
set_ints e a b h = ap (λ (x : Blocks). x.ints) h

pub set_bufs : (e : CExpr) (a b : Blocks) → b ≡ with_set e a → b.bufs ≡ a.bufs
set_bufs e a b h = ap (λ (x : Blocks). x.bufs) h

-- ---- Fresh names

pub all_fresh_wider : (n n' m m' : ℕ) (xs : List Int) → n ≤ n' → m ≤ m' → AreFresh n' m xs → AreFresh n m' xs
all_fresh_wider n n' m m' [] le le' h = tt
all_fresh_wider n n' m m' (x ∷ xs) le le' h = (fresh_more n m m' x le' (fresh_wider n n' m x le h.0), all_fresh_wider n n' m m' xs le le' h.1)

pub all_fresh_append : (n m : ℕ) (xs ys : List Int) → AreFresh n m xs → AreFresh n m ys → AreFresh n m (xs ++ ys)
all_fresh_append n m [] ys h k = k
all_fresh_append n m (x ∷ xs) ys h k = (h.0, all_fresh_append n m xs ys h.1 k)

-- ---- Products

pub products_none : (b : Blocks) (some : Int) (strides : List Int) → IsOld b.ints some → EmitsProducts b b some [] strides strides some
products_none b some strides old = record {
  code = [];
  grown = grown_none b;
  names = [];
  in_front = refl;
  old_names = tt;
  fresh_names = tt;
  old_last = old;
  declared = λ sc h le. h;
  as_many = refl;
  formed = λ sc room within are bufs more more_bufs le. refl;
  runs = λ c s ns f hold is small below. none c s ns f hold is;
}
  where
    none : (c : Code) (s : State) (ns : List ℕ) (f : ℕ) → Hold s [] ns → read_int some s ≡ Is (pos f) → Does c (Stays b.ints b.bufs s) 0 [] s (HoldProducts b.ints b.bufs f some [] ns some s) (λ kind t. ⊥)
    none c s [] f hold is = no_products c b.ints b.bufs f some s is
    none c s (n ∷ ns) f hold is = absurd hold

pub products_empty : (b : Blocks) (some : Int) (lengths strides : List Int) → length lengths < 1 → IsOld b.ints some → EmitsProducts b b some lengths strides strides some
products_empty b some [] strides none old = products_none b some strides old
products_empty b some (x ∷ xs) strides none old = absurd (omega (arith, none))

products_built : (b0 b1 b2 : Blocks) (some len behind v : Int) (lengths before mid after : List Int) (value : CExpr) → IsOld b0.ints len → EmitsProducts b0 b1 some lengths before mid behind → value ≡ on_values op.Mul len behind → v ≡ int.Local b1.ints → b2 ≡ with_set value b1 → after ≡ v ∷ mid → EmitsProducts b0 b2 some (len ∷ lengths) before after v
products_built b0 b1 b2 some len behind v lengths before mid after value old_len p ev en e2 ea = record {
  code = p.code ++ stmt.Set (int.Local b1.ints) (on_values op.Mul len behind) ∷ [];
  grown = subst (λ (x : CExpr). Grown (p.code ++ stmt.Set (int.Local b1.ints) x ∷ []) b0 b2) ev (grown_then p.code (stmt.Set (int.Local b1.ints) value ∷ []) b0 b1 b2 p.grown (grown_set value b1 b2 e2));
  names = int.Local b1.ints ∷ p.names;
  in_front = ea ∙ ap (λ (x : Int). x ∷ mid) en ∙ ap (λ (l : List Int). int.Local b1.ints ∷ l) p.in_front;
  old_names = (below, are_old_more b1.ints b2.ints p.names (omega (arith, ints2)) p.old_names);
  fresh_names = (above, all_fresh_wider b0.ints b0.ints b1.ints b2.ints p.names (omega arith) (omega (arith, ints2)) p.fresh_names);
  old_last = subst (λ (x : Int). IsOld b2.ints x) (sym en) below;
  declared = λ sc h le. ap (is_int sc) en ∙ is_below b1.ints sc.ints (omega (arith, ints2, le));
  as_many = ap suc p.as_many;
  formed = formed_is;
  runs = λ c s ns f hold is small under. more c s ns f hold is small under;
}
  where
    ints2 : b2.ints ≡ b1.ints + 1
    ints2 = set_ints value b1 b2 e2

    bufs2 : b2.bufs ≡ b1.bufs
    bufs2 = set_bufs value b1 b2 e2

    below : IsOld b2.ints (int.Local b1.ints)
    below = omega (arith, ints2)

    above : IsFresh b0.ints b2.ints (int.Local b1.ints)
    above = let i = p.grown.ints in (omega (arith, i), omega (arith, ints2))

    more : (c : Code) (s : State) (ns : List ℕ) (f : ℕ) → Hold s (len ∷ lengths) ns → read_int some s ≡ Is (pos f) → f < 2 → AreBelow f ns → Does c (Stays b0.ints b0.bufs s) (length (len ∷ lengths)) (p.code ++ stmt.Set (int.Local b1.ints) (on_values op.Mul len behind) ∷ []) s (HoldProducts b0.ints b0.bufs f some (int.Local b1.ints ∷ p.names) ns v s) (λ kind t. ⊥)
    more c s [] f hold is small under = absurd hold
    more c s (l ∷ ls) f hold is small under =
        subst (λ (x : Int). Does c (Stays b0.ints b0.bufs s) (length (len ∷ lengths)) (p.code ++ stmt.Set (int.Local b1.ints) (on_values op.Mul len behind) ∷ []) s (HoldProducts b0.ints b0.bufs f some (int.Local b1.ints ∷ p.names) (l ∷ ls) x s) (λ kind t. ⊥)) (sym en)
        (more_products c b0.ints b0.bufs b1.ints f some len behind lengths p.names p.code s l ls p.grown.ints old_len p.old_last p.old_names hold.0 under.0 (p.runs c s ls f hold.1 is small under.1))

    formed_is : IsFormed no_names (some ∷ len ∷ lengths) [] b2 1 (p.code ++ stmt.Set (int.Local b1.ints) (on_values op.Mul len behind) ∷ [])
    formed_is sc room within are bufs more more_bufs le =
        stmts_append sc (Some room) p.code (stmt.Set (int.Local b1.ints) (on_values op.Mul len behind) ∷ [])
        (p.formed sc room within (are.0, are.1.1) tt (omega (arith, ints2, more)) (omega (arith, bufs2, more_bufs)) le)
        (one_stmt sc (Some room) (stmt.Set (int.Local b1.ints) (on_values op.Mul len behind)) []
        (set_formed sc (Some room) (int.Local b1.ints) (on_values op.Mul len behind) (is_below b1.ints sc.ints (omega (arith, ints2, more)))
        (on_values_formed sc op.Mul len behind room le are.1.0 (p.declared sc are.0 (omega (arith, ints2, more)))))
        refl)

rest_is : (x : Int) (xs : List Int) → take (length (x ∷ xs) - 1) (drop 1 (x ∷ xs)) ≡ xs
rest_is x xs = let e : length (x ∷ xs) - 1 ≡ length xs = omega arith in ap (λ n. take n xs) e ∙ take-length xs

pub rest_old : (n : ℕ) (xs : List Int) → AreOld n xs → AreOld n (take (length xs - 1) (drop 1 xs))
rest_old n [] h = tt
rest_old n (x ∷ xs) h = subst (λ (l : List Int). AreOld n l) (sym (rest_is x xs)) h.1

-- one length more
pub products_more : (b0 b1 b2 : Blocks) (some behind v : Int) (lengths before mid after : List Int) (value : CExpr) → 1 ≤ length lengths → AreOld b0.ints lengths → EmitsProducts b0 b1 some (take (length lengths - 1) (drop 1 lengths)) before mid behind → value ≡ on_values op.Mul (slice_index_or lengths 0 (int.Local 0)) behind → v ≡ int.Local b1.ints → b2 ≡ with_set value b1 → after ≡ v ∷ mid → EmitsProducts b0 b2 some lengths before after v
products_more b0 b1 b2 some behind v [] before mid after value many old p ev en e2 ea = absurd (omega (arith, many))
products_more b0 b1 b2 some behind v (len ∷ lengths) before mid after value many old p ev en e2 ea =
    products_built b0 b1 b2 some len behind v lengths before mid after value old.0
    (subst (λ (l : List Int). EmitsProducts b0 b1 some l before mid behind) (rest_is len lengths) p) ev en e2 ea

-- ---- Whole arrays

some_formed : (sc : Scope) (xs : List Int) (room : ℕ) → length xs + 1 ≤ room → AreInts sc xs → is_expr sc (some_element xs) (Some room) ≡ true
some_formed sc [] room le h = lit_formed sc 1 (omega arith) room
some_formed sc (x ∷ xs) room le h =
    bin_formed sc op.And (expr.Bin op.Greater (expr.Var x) (expr.Lit (pos 0))) (some_element xs) (length xs + 1) room (omega (arith, le))
    (λ r kr. with_literal_formed sc op.Greater x 0 r (omega (arith, kr)) (omega arith) h.0)
    (λ r kr. some_formed sc xs r kr h.1)

begins_formed : (sc : Scope) (n : ℕ) (xs : List Int) (room : ℕ) → n + 3 ≤ sc.ints → length xs + 1 ≤ room → AreInts sc xs → are_stmts sc (begins n (some_element xs)) (Some room) ≡ true
begins_formed sc n xs room more le h =
    one_stmt sc (Some room) (stmt.Set (int.Local n) (expr.Lit (pos 0))) (stmt.Set (int.Local (n + 1)) (expr.Lit (pos 1)) ∷ stmt.Set (int.Local (n + 2)) (some_element xs) ∷ [])
    (set_formed sc (Some room) (int.Local n) (expr.Lit (pos 0)) (is_below n sc.ints (omega (arith, more))) (lit_formed sc 0 (omega arith) room))
    (one_stmt sc (Some room) (stmt.Set (int.Local (n + 1)) (expr.Lit (pos 1))) (stmt.Set (int.Local (n + 2)) (some_element xs) ∷ [])
    (set_formed sc (Some room) (int.Local (n + 1)) (expr.Lit (pos 1)) (is_below (n + 1) sc.ints (omega (arith, more))) (lit_formed sc 1 (omega arith) room))
    (one_stmt sc (Some room) (stmt.Set (int.Local (n + 2)) (some_element xs)) []
    (set_formed sc (Some room) (int.Local (n + 2)) (some_element xs) (is_below (n + 2) sc.ints (omega (arith, more))) (some_formed sc xs room le h)) refl))

-- the three variables that are set first
pub record Three (b0 b3 : Blocks) (base one some : Int) (test : CExpr) : Type 0 where
  pub grown : Grown (begins b0.ints test) b0 b3
  pub ints : b3.ints ≡ b0.ints + 3
  pub bufs : b3.bufs ≡ b0.bufs
  pub base_is : base ≡ int.Local b0.ints
  pub one_is : one ≡ int.Local (b0.ints + 1)
  pub some_is : some ≡ int.Local (b0.ints + 2)

pub three_set : (b0 b1 b2 b3 : Blocks) (base one some : Int) (test : CExpr) → base ≡ int.Local b0.ints → b1 ≡ with_set (expr.Lit (pos 0)) b0 → one ≡ int.Local b1.ints → b2 ≡ with_set (expr.Lit (pos 1)) b1 → some ≡ int.Local b2.ints → b3 ≡ with_set test b2 → Three b0 b3 base one some test
three_set b0 b1 b2 b3 base one some test eb e1 eo e2 es e3 =
    let i1 = set_ints (expr.Lit (pos 0)) b0 b1 e1 in
    let i2 : b2.ints ≡ b0.ints + 2 = let j = set_ints (expr.Lit (pos 1)) b1 b2 e2 in omega (arith, i1, j) in
    let i3 : b3.ints ≡ b0.ints + 3 = let j = set_ints test b2 b3 e3 in omega (arith, i2, j) in
    record {
      grown =
          subst (λ k. Grown (stmt.Set (int.Local b0.ints) (expr.Lit (pos 0)) ∷ stmt.Set (int.Local (b0.ints + 1)) (expr.Lit (pos 1)) ∷ stmt.Set (int.Local k) test ∷ []) b0 b3) i2
          (subst (λ k. Grown (stmt.Set (int.Local b0.ints) (expr.Lit (pos 0)) ∷ stmt.Set (int.Local k) (expr.Lit (pos 1)) ∷ stmt.Set (int.Local b2.ints) test ∷ []) b0 b3) i1
          (grown_then (stmt.Set (int.Local b0.ints) (expr.Lit (pos 0)) ∷ []) (stmt.Set (int.Local b1.ints) (expr.Lit (pos 1)) ∷ stmt.Set (int.Local b2.ints) test ∷ []) b0 b1 b3 (grown_set (expr.Lit (pos 0)) b0 b1 e1)
          (grown_then (stmt.Set (int.Local b1.ints) (expr.Lit (pos 1)) ∷ []) (stmt.Set (int.Local b2.ints) test ∷ []) b1 b2 b3 (grown_set (expr.Lit (pos 1)) b1 b2 e2) (grown_set test b2 b3 e3))));
      ints = i3;
      bufs = set_bufs test b2 b3 e3 ∙ set_bufs (expr.Lit (pos 1)) b1 b2 e2 ∙ set_bufs (expr.Lit (pos 0)) b0 b1 e1;
      base_is = eb;
      one_is = eo ∙ ap int.Local i1;
      some_is = es ∙ ap int.Local i2;
    }

-- a scalar
scalar_made : (b0 b3 : Blocks) (base one some : Int) → Three b0 b3 base one some (some_element []) → MakesStepper b0 b3 [] (int.Local b0.ints) []
scalar_made b0 b3 base one some h = record {
  code = begins b0.ints (some_element []);
  grown = h.grown;
  base_given = omega (arith, h.ints);
  strides_given = tt;
  fresh = ((omega arith, omega (arith, h.ints)), tt);
  as_many = refl;
  formed = λ sc room within are bufs more more_bufs le. begins_formed sc b0.ints [] room (omega (arith, h.ints, more)) (omega (arith, le)) are;
  runs = λ c s ns size hold room small.
      does_weaken c (Stays b0.ints b0.bufs s) (Stays b0.ints b0.bufs s) 3 (whole_steps 0) (begins b0.ints (some_element [])) s (Ready b0.ints b0.bufs ns s) (λ t. Stays b0.ints b0.bufs s t × StepsOver [] (int.Local b0.ints) [] t ns (place ns) size) (λ kind t. ⊥) (λ kind t. ⊥) (λ u x. x)
      (λ t r. (r.stays, over_scalar b0.ints b0.bufs s t ns size hold room r))
      (λ kind u x. x) (omega arith) (begins_does c b0.ints b0.bufs [] s ns tt hold);
}

-- an array with axes
axes_made : (b0 b3 b4 : Blocks) (base one some v : Int) (len : Int) (lengths strides : List Int) → AreOld b0.ints (len ∷ lengths) → Three b0 b3 base one some (some_element (len ∷ lengths)) → EmitsProducts b3 b4 some lengths (one ∷ []) strides v → MakesStepper b0 b4 (len ∷ lengths) (int.Local b0.ints) strides
axes_made b0 b3 b4 base one some v len lengths strides old h p = record {
  code = begins n (some_element (len ∷ lengths)) ++ p.code;
  grown = grown_then (begins n (some_element (len ∷ lengths))) p.code b0 b3 b4 h.grown p.grown;
  base_given = omega (arith, h.ints, p.grown.ints);
  strides_given = subst (λ (l : List Int). AreOld b4.ints l) (sym strides_are) (are_old_append b4.ints p.names (int.Local (n + 1) ∷ []) p.old_names (omega (arith, h.ints, p.grown.ints), tt));
  fresh = ((omega arith, omega (arith, h.ints, p.grown.ints)), subst (λ (l : List Int). AreFresh n b4.ints l) (sym strides_are) own_strides);
  as_many = ap length strides_are ∙ length-append p.names (int.Local (n + 1) ∷ []) ∙ count p.as_many;
  formed = formed_is;
  runs = runs_are;
}
  where
    n : ℕ
    n = b0.ints

    m : ℕ
    m = b0.bufs

    strides_are : strides ≡ p.names ++ int.Local (n + 1) ∷ []
    strides_are = p.in_front ∙ ap (λ (x : Int). p.names ++ x ∷ []) h.one_is

    own_strides : AreFresh n b4.ints (p.names ++ int.Local (n + 1) ∷ [])
    own_strides =
        all_fresh_append n b4.ints p.names (int.Local (n + 1) ∷ []) (all_fresh_wider n b3.ints b4.ints b4.ints p.names (omega (arith, h.ints)) (omega arith) p.fresh_names)
        ((omega arith, omega (arith, h.ints, p.grown.ints)), tt)

    count : length p.names ≡ length lengths → length p.names + 1 ≡ length (len ∷ lengths)
    count e = omega (arith, e)

    formed_is : IsFormed no_names (len ∷ lengths) [] b4 (1 + length (len ∷ lengths)) (begins n (some_element (len ∷ lengths)) ++ p.code)
    formed_is sc room within are bufs more more_bufs le =
        let some_is : is_int sc some ≡ true = ap (is_int sc) h.some_is ∙ is_below (n + 2) sc.ints (omega (arith, h.ints, p.grown.ints, more)) in
        stmts_append sc (Some room) (begins n (some_element (len ∷ lengths))) p.code
        (begins_formed sc n (len ∷ lengths) room (omega (arith, h.ints, p.grown.ints, more)) (omega (arith, le)) are)
        (p.formed sc room within (some_is, are.1) tt more more_bufs (omega (arith, le)))

    Post : State → List ℕ → ℕ → State → Type 0
    Post s ns size t = Stays n m s t × StepsOver (len ∷ lengths) (int.Local n) strides t ns (place ns) size

    products_run : (c : Code) (s : State) (l : ℕ) (ls : List ℕ) (size : ℕ) → Hold s (len ∷ lengths) (l ∷ ls) → l * product ls ≤ size → size < 2 ^ 31 → (t : State) → Ready n m (l ∷ ls) s t → Does c (Stays n m s) (length lengths) p.code t (Post s (l ∷ ls) size) (λ kind u. ⊥)
    products_run c s l ls size hold room small t r =
        let held_t = hold_stays n m s t (len ∷ lengths) (l ∷ ls) r.stays old hold in
        let some_t : read_int some t ≡ Is (pos r.factor) = ap (λ (x : Int). read_int x t) h.some_is ∙ ap or_unset r.factor_is in
        does_weaken c (Stays b3.ints b3.bufs t) (Stays n m s) (length lengths) (length lengths) p.code t (HoldProducts b3.ints b3.bufs r.factor some p.names ls v t) (Post s (l ∷ ls) size) (λ kind u. ⊥) (λ kind u. ⊥)
        (λ u f. stays_then n m s t u r.stays (stays_less n b3.ints m b3.bufs t u (omega (arith, h.ints)) (omega (arith, h.bufs)) f))
        (λ u f.
        let to_u = stays_then n m s t u r.stays (stays_less n b3.ints m b3.bufs t u (omega (arith, h.ints)) (omega (arith, h.bufs)) f.stays) in (
          to_u,
          subst (λ (x : List Int). StepsOver (len ∷ lengths) (int.Local n) x u (l ∷ ls) (place (l ∷ ls)) size) (sym strides_are)
              (over_axes n b3.bufs b3.ints r.factor some p.names lengths len v t u l ls size (omega (arith, h.ints)) (hold_stays n m s u (len ∷ lengths) (l ∷ ls) to_u old hold) room r.says r.base_is r.one_is f),
        ))
        (λ kind u x. x) (omega arith)
        (p.runs c t ls r.factor held_t.1 some_t (factor_small r.factor (l ∷ ls) r.says) (factor_below r.factor l ls r.says (omega (arith, room, small))))

    runs_are : (c : Code) (s : State) (ns : List ℕ) (size : ℕ) → Hold s (len ∷ lengths) ns → product ns ≤ size → size < 2 ^ 31 → Does c (Stays n m s) (whole_steps (length (len ∷ lengths))) (begins n (some_element (len ∷ lengths)) ++ p.code) s (Post s ns size) (λ kind t. ⊥)
    runs_are c s [] size hold room small = absurd hold
    runs_are c s (l ∷ ls) size hold room small =
        does_weaken c (Stays n m s) (Stays n m s) (3 + length lengths) (whole_steps (length (len ∷ lengths))) (begins n (some_element (len ∷ lengths)) ++ p.code) s (Post s (l ∷ ls) size) (Post s (l ∷ ls) size) (λ kind t. ⊥) (λ kind t. ⊥) (λ u x. x) (λ u x. x) (λ kind u x. x) (omega arith)
        (does_then c (Stays n m s) 3 (length lengths) (begins n (some_element (len ∷ lengths))) p.code s (Ready n m (l ∷ ls) s) (Post s (l ∷ ls) size) (λ kind t. ⊥)
        (begins_does c n m (len ∷ lengths) s (l ∷ ls) old hold) (products_run c s l ls size hold room small))

pub scalar_makes : (b0 b3 : Blocks) (base one some : Int) (lengths strides : List Int) → length lengths < 1 → strides ≡ [] → Three b0 b3 base one some (some_element lengths) → MakesStepper b0 b3 lengths base strides
scalar_makes b0 b3 base one some [] strides none es h =
    subst (λ (x : Int). MakesStepper b0 b3 [] x strides) (sym h.base_is) (subst (λ (l : List Int). MakesStepper b0 b3 [] (int.Local b0.ints) l) (sym es) (scalar_made b0 b3 base one some h))
scalar_makes b0 b3 base one some (x ∷ xs) strides none es h = absurd (omega (arith, none))

pub axes_makes : (b0 b3 b4 : Blocks) (base one some v : Int) (lengths before strides : List Int) → 1 ≤ length lengths → AreOld b0.ints lengths → before ≡ one ∷ [] → Three b0 b3 base one some (some_element lengths) → EmitsProducts b3 b4 some (take (length lengths - 1) (drop 1 lengths)) before strides v → MakesStepper b0 b4 lengths base strides
axes_makes b0 b3 b4 base one some v [] before strides many old eb h p = absurd (omega (arith, many))
axes_makes b0 b3 b4 base one some v (len ∷ lengths) before strides many old eb h p =
    subst (λ (x : Int). MakesStepper b0 b4 (len ∷ lengths) x strides) (sym h.base_is)
    (axes_made b0 b3 b4 base one some v len lengths strides old h
    (subst (λ (l : List Int). EmitsProducts b3 b4 some l (one ∷ []) strides v) (rest_is len lengths) (subst (λ (l : List Int). EmitsProducts b3 b4 some (take (length (len ∷ lengths) - 1) (drop 1 (len ∷ lengths))) l strides v) eb p)))

-- ---- Extension

-- where there are elements, there is a first one
zeros_first : (ns : List ℕ) → 0 < product ns → IsIndexOf ns (zeros ns)
zeros_first [] h = tt
zeros_first (n ∷ ns) h = let parts = both n (product ns) h in (parts.0, zeros_first ns parts.1)
  where
    both : (a b : ℕ) → 0 < a * b → (0 < a) × (0 < b)
    both zero b h = absurd (omega (arith, h))
    both (suc a) zero h = let e : suc a * 0 ≡ 0 = omega arith in absurd (omega (arith, h, e))
    both (suc a) (suc b) h = (omega arith, omega arith)

stays_put : (first : ℤ) (ms is : List ℕ) → address first (replicate (length ms) (pos 0)) is ≡ first
stays_put first [] is = refl
stays_put first (m ∷ ms) [] = refl
stays_put first (m ∷ ms) (i ∷ is) = let e : first +ℤ pos i *ℤ pos 0 ≡ first = omega (arith, ints) in ap (λ b. address b (replicate (length ms) (pos 0)) is) e ∙ stays_put first ms is

no_widths : (ms : List ℕ) → AreAxes (replicate (length ms) (pos 0)) ms
no_widths [] = tt
no_widths (m ∷ ms) = no_widths ms

all_zero : (k : ℕ) (s : State) (lengths : List Int) (ms : List ℕ) → s.ints k ≡ Some (pos 0) → Hold s lengths ms → HoldInts s (replicate (length lengths) (int.Local k)) (replicate (length ms) (pos 0))
all_zero k s [] [] is hold = tt
all_zero k s [] (m ∷ ms) is hold = absurd hold
all_zero k s (x ∷ xs) [] is hold = absurd hold
all_zero k s (x ∷ xs) (m ∷ ms) is hold = (ap or_unset is, all_zero k s xs ms is hold.1)

repeated_old : (n k j : ℕ) → j < n → AreOld n (replicate k (int.Local j))
repeated_old n zero j lt = tt
repeated_old n (suc k) j lt = (lt, repeated_old n k j lt)

repeated_many : (k : ℕ) (x : Int) → length (replicate k x) ≡ k
repeated_many zero x = refl
repeated_many (suc k) x = ap suc (repeated_many k x)

-- a name of which the scope was given is old
given_old : (x : Int) (b : Blocks) → AreGiven (scope_of x) b → IsOld b.ints x
given_old (int.Local k) b g = let i = g.ints in omega (arith, i)
given_old (int.Global k) b g = tt

pub base_old : (from : Origin) (base : Int) (strides : List Int) (b : Blocks) → AreGiven (stepper_scope from base strides) b → IsOld b.ints base
base_old from base strides b g = given_old base b (given_left (scope_of base) (scope_of_all strides) b (given_right (origin_scope from) (joint (scope_of base) (scope_of_all strides)) b g))

pub extended : (b0 b1 : Blocks) (stride base : Int) (others widths lengths strides : List Int) → AreOld b0.ints lengths → IsOld b0.ints base → stride ≡ int.Local b0.ints → b1 ≡ with_set (expr.Lit (pos 0)) b0 → strides ≡ replicate (length lengths) stride → ExtendsStepper b0 b1 others base widths lengths strides
extended b0 b1 stride base others widths lengths strides old old_base en e1 es = record {
  code = stmt.Set (int.Local n) (expr.Lit (pos 0)) ∷ [];
  grown = grown_set (expr.Lit (pos 0)) b0 b1 e1;
  strides_given = subst (λ (l : List Int). AreOld b1.ints l) (sym strides_are) (repeated_old b1.ints (length lengths) n (omega (arith, ints1)));
  as_many = ap length strides_are ∙ repeated_many (length lengths) (int.Local n);
  formed = λ sc room within are bufs more more_bufs le.
      one_stmt sc (Some room) (stmt.Set (int.Local n) (expr.Lit (pos 0))) []
      (set_formed sc (Some room) (int.Local n) (expr.Lit (pos 0)) (is_below n sc.ints (omega (arith, ints1, more))) (lit_formed sc 0 (omega arith) room)) refl;
  runs = λ c s ns ms at size over some hold.
      does_set c (Stays n b0.bufs s) n (expr.Lit (pos 0)) s (λ t. Stays n b0.bufs s t × StepsOver lengths base strides t ms (λ is. at (zeros ns)) size) (λ kind t. ⊥) (pos 0) (value_Lit (pos 0) c.tables s)
      (λ rest. stays_set n b0.bufs n (pos 0) s s rest (omega arith) (stays_none n b0.bufs s))
      (λ rest.
      let st = stays_set n b0.bufs n (pos 0) s s rest (omega arith) (stays_none n b0.bufs s) in (
        st,
        subst (λ (l : List Int). StepsOver lengths base l (after_set n (pos 0) rest s) ms (λ is. at (zeros ns)) size) (sym strides_are)
            (over_first s (after_set n (pos 0) rest s) ns ms at size over some (hold_stays n b0.bufs s (after_set n (pos 0) rest s) lengths ms st old hold) st (put_at s.ints n (Some (pos 0)))),
      ));
}
  where
    n : ℕ
    n = b0.ints

    ints1 : b1.ints ≡ n + 1
    ints1 = set_ints (expr.Lit (pos 0)) b0 b1 e1

    strides_are : strides ≡ replicate (length lengths) (int.Local n)
    strides_are = es ∙ ap (replicate (length lengths)) en

    over_first : (s t : State) (ns ms : List ℕ) (at : List ℕ → ℕ) (size : ℕ) → StepsOver others base widths s ns at size → 0 < product ns → Hold t lengths ms → Stays n b0.bufs s t → t.ints n ≡ Some (pos 0) → StepsOver lengths base (replicate (length lengths) (int.Local n)) t ms (λ is. at (zeros ns)) size
    over_first s t ns ms at size over some hold st is = record {
      shape = hold;
      first = over.first;
      widths = replicate (length ms) (pos 0);
      base_is = read_stays n b0.bufs s t base st old_base ∙ over.base_is;
      strides_are = all_zero n t lengths ms is hold;
      axes = no_widths ms;
      at_place = λ js h. stays_put over.first ms js ∙ sym (address_zeros over.first over.widths ns) ∙ over.at_place (zeros ns) (zeros_first ns some);
      below = λ js h. over.below (zeros ns) (zeros_first ns some);
    }

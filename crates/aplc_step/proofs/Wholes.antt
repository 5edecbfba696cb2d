-- What the code does that makes a stepper over a whole array.
use Rattle.std.proofs.Common.{◌≡◌, ℕ, zero, suc, ◌+◌, ◌*◌, ◌<◌, ◌≤◌, List, [], ◌∷◌, ◌++◌, ◌⊎◌, inl, inr, length, refl, sym, ap, ◌∙◌, subst, arith, ℤ}
use Rattle.std.specs.Prelude.{Some, pos, ◌^◌, ◌+ℤ◌, ◌*ℤ◌, int_lt}
use Rattle.std.proofs.lemmas.Bool.Decides.{nat_tests}
use Rattle.std.proofs.lemmas.Int.{ints}
use Rattle.aplc_scalar.specs.declared.kind.FaultKind.{FaultKind}
use Rattle.aplc_scalar.specs.Scalar.{truth}
use Rattle.aplc_arr.specs.Arrays.{product, IsIndexOf, place}
use Rattle.aplc_arr.proofs.Places.{place-below}
use Rattle.aplc_cprof.specs.declared.syntax.Int.{Int}
use Rattle.aplc_cprof.specs.declared.syntax.Int.TheVariants as int
use Rattle.aplc_cprof.specs.declared.syntax.Op.TheVariants as op
use Rattle.aplc_cprof.specs.declared.syntax.CExpr.{CExpr}
use Rattle.aplc_cprof.specs.declared.syntax.CExpr.TheVariants as expr
use Rattle.aplc_cprof.specs.declared.syntax.CStmt.{CStmt}
use Rattle.aplc_cprof.specs.declared.syntax.CStmt.TheVariants as stmt
use Rattle.aplc_cprof.specs.Machine.{State, Code, Todo, Is, or_unset, read_int, ranged, apply, truth_of, value}
use Rattle.aplc_cprof.specs.Frames.{AreOld, IsOld, Stays, Hold}
use Rattle.aplc_cprof.specs.Emitted.{on_values}
use Rattle.aplc_cprof.proofs.Values.{value_Lit, value_Bin, ranged_below}
use Rattle.aplc_cprof.proofs.Paths.{Does, does_then, does_weaken, does_none}
use Rattle.aplc_cprof.proofs.Frames.{after_set, put_at, put_other, stays_none, stays_set, read_stays, hold_stays}
use Rattle.aplc_cprof.proofs.Counting.{on_values_value, with_literal_value, does_set}
use Rattle.aplc_step.specs.Steppers.{address, HoldInts, AreAxes, StepsOver}
use Rattle.aplc_step.specs.Wholes.{some_element, products_by, AreBelow, HoldProducts}
use Rattle.aplc_step.proofs.Addresses.{hold_ints_stays}

-- ---- The test for elements

abbrev pub AllSome : List ℕ → Type 0
AllSome [] = Unit {0}
AllSome (n ∷ ns) = (1 ≤ n) × AllSome ns

pub product_some : (ns : List ℕ) → AllSome ns → 1 ≤ product ns
product_some [] h = omega arith
product_some (n ∷ ns) h = let i = product_some ns h.1 in let j = h.0 in at_least n (product ns) j i
  where
    at_least : (a b : ℕ) → 1 ≤ a → 1 ≤ b → 1 ≤ a * b
    at_least zero b h k = absurd (omega (arith, h))
    at_least (suc a) b h k = omega (arith, k)

-- it is 1 where there are elements, else 0
abbrev pub Tells : CExpr → List (List ℤ) → State → List ℕ → Type 0
Tells e tables s ns = ((value e tables s ≡ Is (pos 1)) × AllSome ns) ⊎ ((value e tables s ≡ Is (pos 0)) × (product ns ≡ 0))

pub some_value : (tables : List (List ℤ)) (s : State) (xs : List Int) (ns : List ℕ) → Hold s xs ns → Tells (some_element xs) tables s ns
some_value tables s [] [] h = inl (value_Lit (pos 1) tables s, tt)
some_value tables s [] (n ∷ ns) h = absurd h
some_value tables s (x ∷ xs) [] h = absurd h
some_value tables s (x ∷ xs) (n ∷ ns) h = first n refl (some_value tables s xs ns h.1)
  where
    test : CExpr
    test = expr.Bin op.Greater (expr.Var x) (expr.Lit (pos 0))

    test_is : (m : ℕ) → m ≡ n → value test tables s ≡ Is (truth (int_lt (pos 0) (pos m)))
    test_is m e = with_literal_value tables s op.Greater x (pos 0) (pos m) (h.0 ∙ ap (λ k. Is (pos k)) (sym e))

    none_times : (k : ℕ) → 0 * k ≡ 0
    none_times k = omega arith

    first : (m : ℕ) → m ≡ n → Tells (some_element xs) tables s ns → Tells (some_element (x ∷ xs)) tables s (n ∷ ns)
    first zero e r =
        inr (value_Bin op.And test (some_element xs) tables s ∙ ap (λ v. apply op.And v (value (some_element xs) tables s)) (test_is 0 e), ap (λ k. k * product ns) (sym e) ∙ none_times (product ns))
    first (suc m) e (inl r) =
        let positive : truth (int_lt (pos 0) (pos (suc m))) ≡ pos 1 = grind (arith, nat_tests) in
        inl (value_Bin op.And test (some_element xs) tables s ∙ ap (λ v. apply op.And v (value (some_element xs) tables s)) (test_is (suc m) e ∙ ap Is positive) ∙ ap truth_of r.0, (omega (arith, e), r.1))
    first (suc m) e (inr r) =
        let positive : truth (int_lt (pos 0) (pos (suc m))) ≡ pos 1 = grind (arith, nat_tests) in
        inr (value_Bin op.And test (some_element xs) tables s ∙ ap (λ v. apply op.And v (value (some_element xs) tables s)) (test_is (suc m) e ∙ ap Is positive) ∙ ap truth_of r.0, ap (λ k. n * k) r.1 ∙ omega arith)

-- ---- Products

-- where there are elements no product of some lengths is above that of all
pub some_below : (n : ℕ) (ns : List ℕ) → 1 ≤ n → AllSome ns → n * product ns < 2 ^ 31 → AreBelow 1 ns
some_below n [] some all lt = tt
some_below n (m ∷ ms) some all lt =
    let le : product (m ∷ ms) ≤ n * product (m ∷ ms) = times n (product (m ∷ ms)) some in
    (omega (arith, le, lt), some_below m ms all.0 all.1 (omega (arith, le, lt)))
  where
    times : (a b : ℕ) → 1 ≤ a → b ≤ a * b
    times zero b h = absurd (omega (arith, h))
    times (suc a) b h = omega arith

-- where there are none each of them is 0
pub none_below : (ns : List ℕ) → AreBelow 0 ns
none_below [] = tt
none_below (n ∷ ns) = let e : 0 * product (n ∷ ns) ≡ 0 = omega arith in (omega (arith, e), none_below ns)

module _ (c : Code) where
  -- no lengths
  pub no_products : (n m f : ℕ) (some : Int) (s : State) → read_int some s ≡ Is (pos f) → Does c (Stays n m s) 0 [] s (HoldProducts n m f some [] [] some s) (λ kind t. ⊥)
  no_products n m f some s is =
      let e : f ≡ f * product [] = omega arith in
      does_none c (Stays n m s) s (HoldProducts n m f some [] [] some s) (λ kind t. ⊥)
      (λ todo. record { stays = stays_todo todo; held = tt; last = read_todo some todo ∙ is ∙ ap (λ z. Is (pos z)) e })
    where
      stays_todo : (todo : Todo) → Stays n m s (record s { todo = todo })
      stays_todo todo = record { ints = λ x lt. refl; bufs = λ p lt. refl; around = refl; heap = refl }

      read_todo : (x : Int) (todo : Todo) → read_int x (record s { todo = todo }) ≡ read_int x s
      read_todo (int.Local k) todo = refl
      read_todo (int.Global k) todo = refl

  -- one length more, whose product goes to the variable k
  pub more_products : (n m k f : ℕ) (some len behind : Int) (lengths names : List Int) (code : List CStmt) (s : State) (l : ℕ) (ls : List ℕ) → n ≤ k → IsOld n len → IsOld k behind → AreOld k names → read_int len s ≡ Is (pos l) → f * product (l ∷ ls) < 2 ^ 31 → Does c (Stays n m s) (length lengths) code s (HoldProducts n m f some names ls behind s) (λ kind t. ⊥) → Does c (Stays n m s) (length (len ∷ lengths)) (code ++ stmt.Set (int.Local k) (on_values op.Mul len behind) ∷ []) s (HoldProducts n m f some (int.Local k ∷ names) (l ∷ ls) (int.Local k) s) (λ kind t. ⊥)
  more_products n m k f some len behind lengths names code s l ls le old_len old_behind old_names is lt d =
      does_weaken c Q Q (length lengths + 1) (length (len ∷ lengths)) (code ++ stmt.Set (int.Local k) (on_values op.Mul len behind) ∷ []) s Post Post (λ kind t. ⊥) (λ kind t. ⊥) (λ u x. x) (λ u x. x) (λ kind u x. x) (omega arith)
      (does_then c Q (length lengths) 1 code (stmt.Set (int.Local k) (on_values op.Mul len behind) ∷ []) s (HoldProducts n m f some names ls behind s) Post (λ kind t. ⊥) d
      (λ t h. does_set c Q k (on_values op.Mul len behind) t Post (λ kind u. ⊥) (pos (f * product (l ∷ ls))) (product_value t h)
      (λ rest. stays_set n m k (pos (f * product (l ∷ ls))) s t rest le h.stays)
      (λ rest.
      let here = put_at t.ints k (Some (pos (f * product (l ∷ ls)))) in
      record {
        stays = stays_set n m k (pos (f * product (l ∷ ls))) s t rest le h.stays;
        held = (ap or_unset here, hold_ints_stays k m t (after_set k (pos (f * product (l ∷ ls))) rest t) names (products_by f ls) (stays_set k m k (pos (f * product (l ∷ ls))) t t rest (omega arith) (stays_none k m t)) old_names h.held);
        last = ap or_unset here;
      })))
    where
      Q : State → Type 0
      Q = Stays n m s

      Post : State → Type 0
      Post = HoldProducts n m f some (int.Local k ∷ names) (l ∷ ls) (int.Local k) s

      product_value : (t : State) → HoldProducts n m f some names ls behind s t → value (on_values op.Mul len behind) c.tables t ≡ Is (pos (f * product (l ∷ ls)))
      product_value t h =
          let lt' : f * (l * product ls) < 2 ^ 31 = lt in
          on_values_value c.tables t op.Mul len behind (pos l) (pos (f * product ls)) (read_stays n m s t len h.stays old_len ∙ is) h.last
          ∙ ap ranged (times l f (product ls))
          ∙ ranged_below (f * (l * product ls)) (omega (arith, lt'))
        where
          times : (l f p : ℕ) → pos l *ℤ pos (f * p) ≡ pos (f * (l * p))
          times l f p = omega (arith, ints)

-- ---- Row-major order

-- the strides of a whole array
abbrev pub row_widths : List ℕ → List ℤ
row_widths [] = []
row_widths (n ∷ ns) = pos (product ns) ∷ row_widths ns

pub widths_are : (n : ℕ) (ns : List ℕ) → products_by 1 ns ++ pos 1 ∷ [] ≡ row_widths (n ∷ ns)
widths_are n [] = refl
widths_are n (m ∷ ms) =
    let e : 1 * product (m ∷ ms) ≡ product (m ∷ ms) = omega arith in
    ap (λ z. pos z ∷ (products_by 1 ms ++ pos 1 ∷ [])) e ∙ ap (λ l. pos (product (m ∷ ms)) ∷ l) (widths_are m ms)

address_rows : (b : ℕ) (ns is : List ℕ) → IsIndexOf ns is → address (pos b) (row_widths ns) is ≡ pos (b + place ns is)
address_rows b [] [] h = omega (arith, ints)
address_rows b [] (i ∷ is) h = absurd h
address_rows b (n ∷ ns) [] h = absurd h
address_rows b (n ∷ ns) (i ∷ is) h =
    let e : pos b +ℤ pos i *ℤ pos (product ns) ≡ pos (b + i * product ns) = omega (arith, ints) in
    ap (λ c. address c (row_widths ns) is) e ∙ address_rows (b + i * product ns) ns is h.1 ∙ omega (arith, ints)

pub address_whole : (ns is : List ℕ) → IsIndexOf ns is → address (pos 0) (row_widths ns) is ≡ pos (place ns is)
address_whole ns is h = let z : 0 + place ns is ≡ place ns is = omega arith in address_rows 0 ns is h ∙ ap pos z

pub axes_of : (f : ℕ) (n : ℕ) (ns : List ℕ) → AreAxes (products_by f ns ++ pos 1 ∷ []) (n ∷ ns)
axes_of f n [] = tt
axes_of f n (m ∷ ms) = axes_of f m ms

pub hold_ints_append : (s : State) (xs ys : List Int) (us bs : List ℤ) → HoldInts s xs us → HoldInts s ys bs → HoldInts s (xs ++ ys) (us ++ bs)
hold_ints_append s [] ys [] bs h k = k
hold_ints_append s [] ys (a ∷ us) bs h k = absurd h
hold_ints_append s (x ∷ xs) ys [] bs h k = absurd h
hold_ints_append s (x ∷ xs) ys (a ∷ us) bs h k = (h.0, hold_ints_append s xs ys us bs h.1 k)

-- ---- The code

-- the base is 0, the stride of the last axis 1, and the factor 1 where there are elements, else 0
abbrev pub begins : ℕ → CExpr → List CStmt
begins n test = stmt.Set (int.Local n) (expr.Lit (pos 0)) ∷ stmt.Set (int.Local (n + 1)) (expr.Lit (pos 1)) ∷ stmt.Set (int.Local (n + 2)) test ∷ []

-- what the factor says
abbrev Factor : ℕ → List ℕ → Type 0
Factor f ns = ((f ≡ 1) × AllSome ns) ⊎ ((f ≡ 0) × (product ns ≡ 0))

record First (n m : ℕ) (s t : State) : Type 0 where
  pub stays : Stays n m s t
  pub base_is : t.ints n ≡ Some (pos 0)

record Second (n m : ℕ) (s t : State) : Type 0 where
  pub stays : Stays n m s t
  pub base_is : t.ints n ≡ Some (pos 0)
  pub one_is : t.ints (n + 1) ≡ Some (pos 1)

pub record Ready (n m : ℕ) (ns : List ℕ) (s t : State) : Type 0 where
  pub stays : Stays n m s t
  pub base_is : t.ints n ≡ Some (pos 0)
  pub one_is : t.ints (n + 1) ≡ Some (pos 1)
  pub factor : ℕ
  pub factor_is : t.ints (n + 2) ≡ Some (pos factor)
  pub says : Factor factor ns

module _ (c : Code) where
  pub begins_does : (n m : ℕ) (lengths : List Int) (s : State) (ns : List ℕ) → AreOld n lengths → Hold s lengths ns → Does c (Stays n m s) 3 (begins n (some_element lengths)) s (Ready n m ns s) (λ kind t. ⊥)
  begins_does n m lengths s ns old hold =
      does_then c Q 1 2 (stmt.Set (int.Local n) (expr.Lit (pos 0)) ∷ []) (stmt.Set (int.Local (n + 1)) (expr.Lit (pos 1)) ∷ stmt.Set (int.Local (n + 2)) (some_element lengths) ∷ []) s (First n m s) Post Never
      (does_set c Q n (expr.Lit (pos 0)) s (First n m s) Never (pos 0) (value_Lit (pos 0) c.tables s)
      (λ rest. stays_set n m n (pos 0) s s rest (omega arith) (stays_none n m s))
      (λ rest. record { stays = stays_set n m n (pos 0) s s rest (omega arith) (stays_none n m s); base_is = put_at s.ints n (Some (pos 0)) }))
      (λ t f. does_then c Q 1 1 (stmt.Set (int.Local (n + 1)) (expr.Lit (pos 1)) ∷ []) (stmt.Set (int.Local (n + 2)) (some_element lengths) ∷ []) t (Second n m s) Post Never
      (does_set c Q (n + 1) (expr.Lit (pos 1)) t (Second n m s) Never (pos 1) (value_Lit (pos 1) c.tables t)
      (λ rest. stays_set n m (n + 1) (pos 1) s t rest (omega arith) f.stays)
      (λ rest. record {
        stays = stays_set n m (n + 1) (pos 1) s t rest (omega arith) f.stays;
        base_is = put_other t.ints (n + 1) (Some (pos 1)) n (λ e. omega (arith, e)) ∙ f.base_is;
        one_is = put_at t.ints (n + 1) (Some (pos 1));
      }))
      (λ u g. last u g (some_value c.tables u lengths ns (hold_stays n m s u lengths ns g.stays old hold))))
    where
      Q : State → Type 0
      Q = Stays n m s

      Post : State → Type 0
      Post = Ready n m ns s

      Never : FaultKind → State → Type 0
      Never kind t = ⊥

      third : (u : State) → Second n m s u → (f : ℕ) → value (some_element lengths) c.tables u ≡ Is (pos f) → Factor f ns → Does c Q 1 (stmt.Set (int.Local (n + 2)) (some_element lengths) ∷ []) u Post Never
      third u g f is says =
          does_set c Q (n + 2) (some_element lengths) u Post Never (pos f) is
          (λ rest. stays_set n m (n + 2) (pos f) s u rest (omega arith) g.stays)
          (λ rest. record {
            stays = stays_set n m (n + 2) (pos f) s u rest (omega arith) g.stays;
            base_is = put_other u.ints (n + 2) (Some (pos f)) n (λ e. omega (arith, e)) ∙ g.base_is;
            one_is = put_other u.ints (n + 2) (Some (pos f)) (n + 1) (λ e. omega (arith, e)) ∙ g.one_is;
            factor = f;
            factor_is = put_at u.ints (n + 2) (Some (pos f));
            says = says;
          })

      last : (u : State) → Second n m s u → Tells (some_element lengths) c.tables u ns → Does c Q 1 (stmt.Set (int.Local (n + 2)) (some_element lengths) ∷ []) u Post Never
      last u g (inl r) = third u g 1 r.0 (inl (refl, r.1))
      last u g (inr r) = third u g 0 r.0 (inr (refl, r.1))

-- the place of a multi-index is below the count, so there is one
count_some : (ns is : List ℕ) → IsIndexOf ns is → product ns ≡ 0 → ⊥
count_some ns is h e = let lt = place-below ns is h in omega (arith, lt, e)

-- base and strides go over a scalar
pub over_scalar : (n m : ℕ) (s t : State) (ns : List ℕ) (size : ℕ) → Hold s [] ns → product ns ≤ size → Ready n m ns s t → StepsOver [] (int.Local n) [] t ns (place ns) size
over_scalar n m s t [] size hold room r = record {
  shape = tt;
  first = pos 0;
  widths = [];
  base_is = ap or_unset r.base_is;
  strides_are = tt;
  axes = tt;
  at_place = address_whole [];
  below = λ is h. let lt = place-below [] is h in omega (arith, lt, room);
}
over_scalar n m s t (x ∷ ns) size hold room r = absurd hold

-- base and strides go over an array with axes
pub over_axes : (n m k f : ℕ) (some : Int) (names lengths : List Int) (len v : Int) (t u : State) (l : ℕ) (ls : List ℕ) (size : ℕ) → n + 3 ≤ k → Hold u (len ∷ lengths) (l ∷ ls) → l * product ls ≤ size → Factor f (l ∷ ls) → t.ints n ≡ Some (pos 0) → t.ints (n + 1) ≡ Some (pos 1) → HoldProducts k m f some names ls v t u → StepsOver (len ∷ lengths) (int.Local n) (names ++ int.Local (n + 1) ∷ []) u (l ∷ ls) (place (l ∷ ls)) size
over_axes n m k f some names lengths len v t u l ls size le hold room says base_is one_is h = record {
  shape = hold;
  first = pos 0;
  widths = products_by f ls ++ pos 1 ∷ [];
  base_is = ap or_unset (h.stays.ints n (omega (arith, le)) ∙ base_is);
  strides_are = hold_ints_append u names (int.Local (n + 1) ∷ []) (products_by f ls) (pos 1 ∷ []) h.held (ap or_unset (h.stays.ints (n + 1) (omega (arith, le)) ∙ one_is), tt);
  axes = axes_of f l ls;
  at_place = λ is index. by_factor is index says;
  below = λ is index. let lt = place-below (l ∷ ls) is index in omega (arith, lt, room);
}
  where
    by_factor : (is : List ℕ) → IsIndexOf (l ∷ ls) is → Factor f (l ∷ ls) → address (pos 0) (products_by f ls ++ pos 1 ∷ []) is ≡ pos (place (l ∷ ls) is)
    by_factor is index (inl r) = ap (λ z. address (pos 0) (products_by z ls ++ pos 1 ∷ []) is) r.0 ∙ ap (λ w. address (pos 0) w is) (widths_are l ls) ∙ address_whole (l ∷ ls) is index
    by_factor is index (inr r) = absurd (count_some (l ∷ ls) is index r.1)

-- no product leaves the range
pub factor_below : (f l : ℕ) (ls : List ℕ) → Factor f (l ∷ ls) → l * product ls < 2 ^ 31 → AreBelow f ls
factor_below f l ls (inl r) lt = subst (λ z. AreBelow z ls) (sym r.0) (some_below l ls r.1.0 r.1.1 lt)
factor_below f l ls (inr r) lt = subst (λ z. AreBelow z ls) (sym r.0) (none_below ls)

pub factor_small : (f : ℕ) (ns : List ℕ) → Factor f ns → f < 2
factor_small f ns (inl r) = let e = r.0 in omega (arith, e)
factor_small f ns (inr r) = let e = r.0 in omega (arith, e)

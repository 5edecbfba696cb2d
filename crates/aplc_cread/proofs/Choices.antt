-- One of several fixed texts.
use Rattle.std.proofs.Common.{◌≡◌, ◌∙◌, ap, sym, refl, ℕ, zero, suc, ◌+◌, ◌<◌, ◌≤◌, ◌⊎◌, inl, inr, List, [], ◌∷◌, ◌++◌, append_assoc, Bool, true, false, ◌&&◌, IsTrue, nat_eq, cond, arith, length, get_or}
use Rattle.std.proofs.lemmas.Bool.Decides.{nat_tests}
use Rattle.std.proofs.lemmas.List.{length-append}
use Rattle.std.specs.Borrow.{Bor}
use Rattle.aplc_cread.specs.Reading.{nows, first, Found, Stops, Any, Lit, OneOf, differ, all_differ, apart, Best}
use Rattle.aplc_cread.proofs.Rules.{first-append}

both : (a b : Bool) → IsTrue (a && b) → IsTrue a × IsTrue b
both true b h = (refl, h)
both false b h = absurd (cc h)

unequal : (c d : ℕ) → nat_eq c d ≡ false → c ≡ d → ⊥
unequal c d h e = grind (arith, nat_tests)

both_ways : (b x : Bool) → IsTrue (cond b x true) → ((b ≡ true) × IsTrue x) ⊎ (b ≡ false)
both_ways true x h = inl (refl, h)
both_ways false x h = inr refl

differ_apart : (t u k v : List ℕ) → IsTrue (differ t u) → t ++ k ≡ u ++ v → ⊥
differ_apart [] u k v h e = cc h
differ_apart (c ∷ t) [] k v h e = cc h
differ_apart (c ∷ t) (d ∷ u) k v h e =
    let r : t ++ k ≡ u ++ v = cc in let q : c ≡ d = cc in
    elim (both_ways (nat_eq c d) (differ t u) h) [ inl m ↦ differ_apart t u k v m.1 r | inr m ↦ unequal c d m q ]

all_differ_at : (t : List ℕ) (us : List (List ℕ)) → IsTrue (all_differ t us) → (j : ℕ) → j < length us → IsTrue (differ t (get_or us j []))
all_differ_at t [] h j l = absurd (omega (arith, l))
all_differ_at t (u ∷ us) h zero l = (both (differ t u) (all_differ t us) h).0
all_differ_at t (u ∷ us) h (suc j) l = all_differ_at t us (both (differ t u) (all_differ t us) h).1 j (omega (arith, l))

pub apart_one : (ts : List (List ℕ)) → IsTrue (apart ts) → (i j : ℕ) → i < length ts → j < length ts → (k v : List ℕ) → get_or ts i [] ++ k ≡ get_or ts j [] ++ v → i ≡ j
apart_one [] h i j l m k v e = absurd (omega (arith, l))
apart_one (t ∷ ts) h zero zero l m k v e = refl
apart_one (t ∷ ts) h zero (suc j) l m k v e = absurd (differ_apart t (get_or ts j []) k v (all_differ_at t ts (both (all_differ t ts) (apart ts) h).0 j (omega (arith, m))) e)
apart_one (t ∷ ts) h (suc i) zero l m k v e = absurd (differ_apart t (get_or ts i []) v k (all_differ_at t ts (both (all_differ t ts) (apart ts) h).0 i (omega (arith, l))) (sym e))
apart_one (t ∷ ts) h (suc i) (suc j) l m k v e = ap suc (apart_one ts (both (all_differ t ts) (apart ts) h).1 i j (omega (arith, l)) (omega (arith, m)) k v e)

pub choice_found : {texts : List (List ℕ)} {allowed : List Bool} {s rest : List ℕ} (i : ℕ) → IsTrue (apart texts) → i < length texts → get_or allowed i false ≡ true
    → Found Any (Lit (get_or texts i [])) s tt rest → Found Any (OneOf texts allowed) s i rest
choice_found {texts} {allowed} {s} {rest} i a l t f = record {
  text = f.text;
  here = f.here;
  is = record { within = l; text = f.is; may = t };
  only = λ b w k v m hk hv e.
      let q : get_or texts b [] ++ k ≡ get_or texts i [] ++ v = ap (λ x. x ++ k) (sym m.text) ∙ e ∙ ap (λ x. x ++ v) f.is in
      let same : b ≡ i = apart_one texts a b i m.within l k v q in
      let z = f.only tt (get_or texts i []) k v refl tt hv (ap (λ x. get_or texts x [] ++ k) (sym same) ∙ q ∙ ap (λ x. x ++ v) (sym f.is)) in
      (same, z.1);
}

-- of two fronts of one text the shorter begins the longer
fronts : (t u x y : List ℕ) → t ++ x ≡ u ++ y → length y ≤ length x → (z : List ℕ) × (u ≡ t ++ z) × (x ≡ z ++ y)
fronts [] u x y e l = (u, refl, e)
fronts (c ∷ t) [] x y e l = absurd (let f : length (t ++ x) + 1 ≡ length y = omega (arith, ap length e) in omega (arith, f, length-append t x, l))
fronts (c ∷ t) (d ∷ u) x y e l =
    let h : c ≡ d = cc in let r : t ++ x ≡ u ++ y = cc in
    let f = fronts t u x y r l in
    (f.0, cc (h, f.1), f.2)

back_to : (s t u x y : List ℕ) → s ≡ t ++ x → s ≡ u ++ y → length y ≤ length x → (v : List ℕ) → first v ≡ first y
    → (v' : List ℕ) × (u ++ v ≡ t ++ v') × (first v' ≡ first x)
back_to s t u x y e f l v h =
    let r = fronts t u x y (sym e ∙ f) l in
    (r.0 ++ v, ap (λ z. z ++ v) r.1 ∙ append_assoc t r.0 v, first-append r.0 v y h ∙ ap first (sym r.2))

last : (b n : ℕ) → b < n + 1 → (b < n) ⊎ (b ≡ n)
last b n l = grind arith

pub best_start : (texts : List (List ℕ)) (allowed : List Bool) (s : List ℕ) → (i : ℕ) × (i < length texts) × (get_or allowed i false ≡ true) → Best texts allowed s 0 s
best_start texts allowed s m = record {
  text = [];
  here = refl;
  some = (m.0, (get_or texts m.0 [], record { within = m.1; text = refl; may = m.2 }));
  none = λ b w k v l o h e. omega (arith, l);
}

-- the next isn't allowed
pub best_skip : {texts : List (List ℕ)} {allowed : List Bool} {s best : List ℕ} {n : ℕ} → Best texts allowed s n best → get_or allowed n false ≡ false → Best texts allowed s (n + 1) best
best_skip {texts} {allowed} {s} {best} {n} f d = record {
  text = f.text;
  here = f.here;
  some = f.some;
  none = λ b w k v l o h e. elim (last b n l) [ inl m ↦ f.none b w k v m o h e | inr q ↦ let z : get_or allowed n false ≡ true = ap (λ x. get_or allowed x false) (sym q) ∙ o.may in absurd (cc (z, d)) ];
}

-- the next fits less
pub best_keep : {texts : List (List ℕ)} {allowed : List Bool} {s best rest : List ℕ} {n : ℕ} → Best texts allowed s n best → Stops Any (Lit (get_or texts n [])) s rest → length best ≤ length rest → Best texts allowed s (n + 1) best
best_keep {texts} {allowed} {s} {best} {rest} {n} f g near = record {
  text = f.text;
  here = f.here;
  some = f.some;
  none = λ b w k v l o h e. elim (last b n l) [
    | inl m ↦ f.none b w k v m o h e
    | inr q ↦ let z = back_to s g.text f.text rest best g.here f.here near v h in
        g.none tt w k z.0 (o.text ∙ ap (λ x. get_or texts x []) q) tt z.2 (e ∙ z.1)
  ];
}

-- the next fits further
pub best_next : {texts : List (List ℕ)} {allowed : List Bool} {s best rest : List ℕ} {n : ℕ} → Best texts allowed s n best → n < length texts → get_or allowed n false ≡ true
    → Stops Any (Lit (get_or texts n [])) s rest → length rest ≤ length best → Best texts allowed s (n + 1) rest
best_next {texts} {allowed} {s} {best} {rest} {n} f l may g near = record {
  text = g.text;
  here = g.here;
  some = (n, (g.some.1.0, record { within = l; text = g.some.1.1; may = may }));
  none = λ b w k v l o h e. elim (last b n l) [
    | inl m ↦ let z = back_to s f.text g.text best rest f.here g.here near v h in f.none b w k z.0 m o z.2 (e ∙ z.1)
    | inr q ↦ g.none tt w k v (o.text ∙ ap (λ x. get_or texts x []) q) tt h e
  ];
}

pub best_stops : {texts : List (List ℕ)} {allowed : List Bool} {s best : List ℕ} {n : ℕ} → Best texts allowed s n best → length texts ≤ n → Stops Any (OneOf texts allowed) s best
best_stops {texts} {allowed} {s} {best} {n} f l = record {
  text = f.text;
  here = f.here;
  some = f.some;
  none = λ b w k v o hk h e. f.none b w k v (omega (arith, l, o.within)) o h e;
}

pub length-nows : (bs : List (Bor (List ℕ))) → length (nows bs) ≡ length bs
length-nows [] = refl
length-nows (b ∷ bs) = ap suc (length-nows bs)

pub nows_at : (bs : List (Bor (List ℕ))) (i : ℕ) (d : Bor (List ℕ)) → i < length bs → get_or (nows bs) i [] ≡ (get_or bs i d).now
nows_at [] i d l = absurd (omega (arith, l))
nows_at (b ∷ bs) zero d l = refl
nows_at (b ∷ bs) (suc i) d l = nows_at bs i d (omega (arith, l))

-- APL names, taken apart and put together.
use Rattle.std.proofs.Common.{◌≡◌, ◌∙◌, ap, ap₂, sym, refl, subst, ℕ, zero, suc, ◌-◌, ◌<◌, List, [], ◌∷◌, ◌++◌, append_assoc, Option, Some, Bool, true, false, ◌&&◌, ◌||◌, IsTrue, nat_eq, arith, get_or, take, drop, ◌⊎◌, inl, inr}
use Rattle.std.proofs.lemmas.Bool.Decides.{nat_tests}
use Rattle.std.proofs.lemmas.List.{append-nil}
use Rattle.std.specs.Borrow.{Bor}
use Rattle.std.specs.Prelude.{Result}
use Rattle.aplc_cprof.specs.WellFormed.{is_letter, is_delta, are_more, is_name}
use Rattle.aplc_cread.specs.Reading.{first, Found, Stops, Any, Bind, OneOf, Halts, Reads, Map, After}
use Rattle.aplc_cread.specs.Stmts.{NameThen, two}
use Rattle.aplc_cread.specs.AplNames.{quote, More, Longer, is_more, starts_more, starts_letter, delta, delta_below, marks, marks_may, MarkBehind, deltas, DeltaBehind}
use Rattle.aplc_cread.specs.declared.lexical.Halt.{Halt}
use Rattle.aplc_cread.proofs.Rules.{Within, Some_of, same, stops_here, Joint, joint_any, joint_lit, some_pure, some_map, reads_within, reads_later, halts_within, halts_first, bind_found, pure_found, within_found, found_map}
use Rattle.aplc_cread.proofs.Literals.{lit_found}
use Rattle.aplc_cread.proofs.Exprs.{both, and_both, lt_of, of_lt}
use Rattle.aplc_cread.proofs.Stmts.{or_left}

-- ---- Values that go on from others

pub within_map : {A B : Type 0} {s : List ℕ} {L T : A → List ℕ → Type 0} (f : A → B) → Within s L T → Within s (Map f L) (Map f T)
within_map f i = record {
  into = λ b w m. record { part = m.part; is = m.is; of = i.into m.part w m.of };
  from = λ b w k m h. record { part = m.part; is = m.is; of = i.from m.part w k m.of h };
}

pub map_bind : {A B C : Type 0} {s : List ℕ} {L : A → List ℕ → Type 0} {M : A → B → List ℕ → Type 0} (f : B → C) → Within s (Bind L (λ a. Map f (M a))) (Map f (Bind L M))
map_bind f = same
    (λ c w m. record { part = m.goes_on.part; is = m.goes_on.is; of = record { part = m.part; front = m.front; back = m.back; begins = m.begins; goes_on = m.goes_on.of; whole = m.whole } })
    (λ c w m. record { part = m.of.part; front = m.of.front; back = m.of.back; begins = m.of.begins; goes_on = record { part = m.part; is = m.is; of = m.of.goes_on }; whole = m.of.whole })

pub map_map : {A B C : Type 0} {s : List ℕ} {L : A → List ℕ → Type 0} (f : B → C) (g : A → B) (h : A → C) → ((a : A) → h a ≡ f (g a)) → Within s (Map h L) (Map f (Map g L))
map_map f g h e = same
    (λ c w m. record { part = g m.part; is = m.is ∙ e m.part; of = record { part = m.part; is = refl; of = m.of } })
    (λ c w m. record { part = m.of.part; is = m.is ∙ ap f m.of.is ∙ sym (e m.of.part); of = m.of.of })

-- ---- Tests

either : (a b : Bool) → IsTrue (a || b) → IsTrue a ⊎ IsTrue b
either true b h = inl refl
either false b h = inr h

eq_of : (a b : ℕ) → IsTrue (nat_eq a b) → a ≡ b
eq_of a b h = grind (arith, nat_tests)

true_false : {b : Bool} → b ≡ true → b ≡ false → ⊥
true_false h g = cc (h, g)

-- the letters of three bytes
is_one_delta : (c b d : ℕ) → IsTrue (is_delta (c ∷ b ∷ d ∷ [])) → (c ≡ 226) × (((b ≡ 136) × (d ≡ 134)) ⊎ ((b ≡ 141) × (d ≡ 153)))
is_one_delta c b d h =
    let x = both (nat_eq c 226) ((nat_eq b 136 && nat_eq d 134) || (nat_eq b 141 && nat_eq d 153)) h in (
      eq_of c 226 x.0,
      elim (either (nat_eq b 136 && nat_eq d 134) (nat_eq b 141 && nat_eq d 153) x.1) [
        | inl y ↦ let z = both (nat_eq b 136) (nat_eq d 134) y in inl (eq_of b 136 z.0, eq_of d 134 z.1)
        | inr y ↦ let z = both (nat_eq b 141) (nat_eq d 153) y in inr (eq_of b 141 z.0, eq_of d 153 z.1)
      ],
    )

-- a name that goes on by one of them
pub data Mark (n : ℕ) (cs : List ℕ) : Type 0 where
  upper : (r : List ℕ) → cs ≡ delta ++ r → IsTrue (are_more n r) → Mark n cs
  lower : (r : List ℕ) → cs ≡ delta_below ++ r → IsTrue (are_more n r) → Mark n cs

mark_of : (n c : ℕ) (cs : List ℕ) → IsTrue (is_delta (c ∷ take 2 cs) && are_more n (drop 2 cs)) → Mark n (c ∷ cs)
mark_of n c [] h = absurd (cc (both false (are_more n []) h).0)
mark_of n c (b ∷ []) h = absurd (cc (both false (are_more n []) h).0)
mark_of n c (b ∷ d ∷ r) h =
    let x = both (is_delta (c ∷ b ∷ d ∷ [])) (are_more n r) h in
    let y = is_one_delta c b d x.0 in
    elim y.1 [
      | inl z ↦ upper r (cc (y.0, z.0, z.1)) x.1
      | inr z ↦ lower r (cc (y.0, z.0, z.1)) x.1
    ]

-- ---- Further characters

first_of : (c : ℕ) (cs w k : List ℕ) → w ≡ (c ∷ cs) ++ quote → first (w ++ k) ≡ Some c
first_of c cs w k e = ap (λ y. first (y ++ k)) e

some_is : (a b : ℕ) → Some a ≡ Some b → a ≡ b
some_is a b e = cc e

pub within_char : (n c : ℕ) (s : List ℕ) → is_more c ≡ true → first s ≡ Some c → Within s (After (c ∷ []) (Map (λ cs. (c ∷ []) ++ cs) (More n))) (More (suc n))
within_char n c s h f = record {
  into = λ cs w m. let r = m.goes_on in record {
    fits = subst (λ x. IsTrue (are_more (suc n) x)) (sym r.is) (or_left (is_more c && are_more n r.part) (is_delta (c ∷ take 2 r.part) && are_more n (drop 2 r.part)) (and_both (is_more c) (are_more n r.part) h r.of.fits));
    text = m.whole ∙ ap₂ (λ y z. y ++ z) m.begins r.of.text ∙ ap (λ y. y ++ quote) (sym r.is);
  };
  from = λ cs w k x g. from cs w k x g;
}
  where
    from : (cs w k : List ℕ) → More (suc n) cs w → first (w ++ k) ≡ first s → After (c ∷ []) (Map (λ cs. (c ∷ []) ++ cs) (More n)) cs w
    from [] w k x g = let q : 34 ≡ c = some_is 34 c (sym (ap (λ y. first (y ++ k)) x.text) ∙ g ∙ f) in absurd (true_false (subst (λ c. is_more c ≡ true) (sym q) h) refl)
    from (d ∷ cs) w k x g =
        let q : d ≡ c = some_is d c (sym (first_of d cs w k x.text) ∙ g ∙ f) in
        elim (either (is_more d && are_more n cs) (is_delta (d ∷ take 2 cs) && are_more n (drop 2 cs)) x.fits) [
          | inl y ↦ subst (λ c. After (c ∷ []) (Map (λ cs. (c ∷ []) ++ cs) (More n)) (d ∷ cs) w) q
              (record { part = tt; front = d ∷ []; back = cs ++ quote; begins = refl; goes_on = record { part = cs; is = refl; of = record { fits = (both (is_more d) (are_more n cs) y).1; text = refl } }; whole = x.text })
          | inr y ↦ absurd (no_mark d cs q (mark_of n d cs y))
        ]
      where
        no_mark : (d : ℕ) (cs : List ℕ) → d ≡ c → Mark n (d ∷ cs) → ⊥
        no_mark d cs q (upper r e i) = let z : 226 ≡ c = cc (e, q) in true_false (subst (λ c. is_more c ≡ true) (sym z) h) refl
        no_mark d cs q (lower r e i) = let z : 226 ≡ c = cc (e, q) in true_false (subst (λ c. is_more c ≡ true) (sym z) h) refl

pub within_mark : (n : ℕ) (s : List ℕ) → starts_more (first s) ≡ false → Within s (Bind (OneOf marks (marks_may n)) (MarkBehind n)) (More n)
within_mark n s h = record { into = λ cs w m. into n cs w m.part m.front m.back m.begins m.goes_on m.whole; from = λ cs w k x g. from n cs w k x g }
  where
    into : (n : ℕ) (cs w : List ℕ) (i : ℕ) (a b : List ℕ) → OneOf marks (marks_may n) i a → MarkBehind n i cs b → w ≡ a ++ b → More n cs w
    into n cs w zero a b o m q = record { fits = subst (λ x. IsTrue (are_more n x)) (sym m.0) refl; text = q ∙ ap₂ (λ y z. y ++ z) o.text m.1 ∙ ap (λ y. y ++ quote) (sym m.0) }
    into zero cs w (suc i) a b o m q = absurd m
    into (suc n) cs w (suc zero) a b o m q = record { fits = subst (λ x. IsTrue (are_more (suc n) x)) (sym m.is) m.of.fits; text = q ∙ ap₂ (λ y z. y ++ z) o.text m.of.text ∙ ap (λ y. y ++ quote) (sym m.is) }
    into (suc n) cs w (suc (suc zero)) a b o m q = record { fits = subst (λ x. IsTrue (are_more (suc n) x)) (sym m.is) m.of.fits; text = q ∙ ap₂ (λ y z. y ++ z) o.text m.of.text ∙ ap (λ y. y ++ quote) (sym m.is) }
    into (suc n) cs w (suc (suc (suc i))) a b o m q = absurd (omega (arith, o.within))

    from : (n : ℕ) (cs w k : List ℕ) → More n cs w → first (w ++ k) ≡ first s → Bind (OneOf marks (marks_may n)) (MarkBehind n) cs w
    from n [] w k x g = record { part = 0; front = quote; back = []; begins = record { within = omega arith; text = refl; may = refl }; goes_on = (refl, refl); whole = x.text }
    from zero (c ∷ cs) w k x g = absurd (cc x.fits)
    from (suc n) (c ∷ cs) w k x g =
        elim (either (is_more c && are_more n cs) (is_delta (c ∷ take 2 cs) && are_more n (drop 2 cs)) x.fits) [
          | inl y ↦ absurd (true_false (both (is_more c) (are_more n cs) y).0 (ap starts_more (sym (first_of c cs w k x.text) ∙ g) ∙ h))
          | inr y ↦ marked (c ∷ cs) w x.text (mark_of n c cs y)
        ]
      where
        marked : (cs w : List ℕ) → w ≡ cs ++ quote → Mark n cs → Bind (OneOf marks (marks_may (suc n))) (MarkBehind (suc n)) cs w
        marked cs w e (upper r f i) = record { part = 1; front = delta; back = r ++ quote; begins = record { within = omega arith; text = refl; may = of_lt 0 (suc n) (omega arith) }; goes_on = record { part = r; is = f; of = record { fits = i; text = refl } }; whole = e ∙ ap (λ y. y ++ quote) f }
        marked cs w e (lower r f i) = record { part = 2; front = delta_below; back = r ++ quote; begins = record { within = omega arith; text = refl; may = of_lt 0 (suc n) (omega arith) }; goes_on = record { part = r; is = f; of = record { fits = i; text = refl } }; whole = e ∙ ap (λ y. y ++ quote) f }

pub some_more : (n : ℕ) → Some_of (More n)
some_more n = ([], (quote, record { fits = refl; text = refl }))

some_mark : (n i : ℕ) → get_or (marks_may n) i false ≡ true → Some_of (MarkBehind n i)
some_mark n zero h = some_pure []
some_mark zero (suc zero) h = absurd (cc h)
some_mark zero (suc (suc zero)) h = absurd (cc h)
some_mark zero (suc (suc (suc i))) h = absurd (cc h)
some_mark (suc n) (suc zero) h = some_map (λ cs. delta ++ cs) (some_more n)
some_mark (suc n) (suc (suc i)) h = some_map (λ cs. delta_below ++ cs) (some_more n)

joint_mark : (out : List ℕ) (n : ℕ) → Joint Any (OneOf marks (marks_may n)) Any (λ i. Map (λ cs. out ++ cs) (MarkBehind n i))
joint_mark out n = joint_any (λ i w o. some_map (λ cs. out ++ cs) (some_mark n i o.may))

-- ---- Each way on

pub more_char : (out : List ℕ) (n m c : ℕ) (s rest : List ℕ) (x : Result (List ℕ × Bor (List ℕ)) Halt) → n ≡ suc m → is_more c ≡ true → s ≡ c ∷ rest → Reads Any (Longer (out ++ (c ∷ [])) m) rest x → Reads Any (Longer out n) s x
more_char out n m c s rest x e h f r =
    subst (λ n. Reads Any (Longer out n) s x) (sym e)
    (reads_within Any x (within_map (λ cs. out ++ cs) (within_char m c s h (ap first f)))
    (reads_within Any x (map_bind (λ cs. out ++ cs))
    (reads_later x (joint_lit (some_map (λ cs. out ++ cs) (some_map (λ cs. (c ∷ []) ++ cs) (some_more m)))) (lit_found c f)
    (reads_within Any x (map_map (λ cs. out ++ cs) (λ cs. (c ∷ []) ++ cs) (λ cs. (out ++ (c ∷ [])) ++ cs) (λ cs. append_assoc out (c ∷ []) cs)) r))))

pub no_char : (out : List ℕ) (n c : ℕ) (s rest : List ℕ) → n ≡ 0 → is_more c ≡ true → s ≡ c ∷ rest → Stops Any (Longer out n) s s
no_char out n c s rest e h f =
    let z = some_map (λ cs. out ++ cs) (some_more n) in
    stops_here s z.0 z.1.0 z.1.1 (λ b w k m hk g. none m.part w k (subst (λ n. More n m.part w) e m.of) (g ∙ ap first f))
  where
    none : (cs w k : List ℕ) → More 0 cs w → first (w ++ k) ≡ Some c → ⊥
    none [] w k x g = let q : 34 ≡ c = some_is 34 c (sym (ap (λ y. first (y ++ k)) x.text) ∙ g) in true_false (subst (λ c. is_more c ≡ true) (sym q) h) refl
    none (d ∷ cs) w k x g = cc x.fits

pub mark_halts : (out : List ℕ) (n : ℕ) (s : List ℕ) (x : Halt) → starts_more (first s) ≡ false → Halts Any (OneOf marks (marks_may n)) s x → Halts Any (Longer out n) s x
mark_halts out n s x h f = halts_within (within_map (λ cs. out ++ cs) (within_mark n s h)) (halts_within (map_bind (λ cs. out ++ cs)) (halts_first (joint_mark out n) f))

pub mark_end : (out : List ℕ) (n i : ℕ) (s rest : List ℕ) → starts_more (first s) ≡ false → i ≡ 0 → Found Any (OneOf marks (marks_may n)) s i rest → Found Any (Longer out n) s out rest
mark_end out n i s rest h e f =
    let f0 : Found Any (OneOf marks (marks_may n)) s 0 rest = subst (λ i. Found Any (OneOf marks (marks_may n)) s i rest) e f in
    subst (λ o. Found Any (Longer out n) s o rest) (append-nil out)
    (within_found (within_map (λ cs. out ++ cs) (within_mark n s h)) (found_map (λ cs. out ++ cs) (bind_found (joint_any (λ i w o. some_mark n i o.may)) f0 (pure_found [] rest))))

mark_more : (out : List ℕ) (n m i : ℕ) (t : List ℕ) (s rest : List ℕ) (x : Result (List ℕ × Bor (List ℕ)) Halt) → n ≡ suc m → starts_more (first s) ≡ false
    → ((cs w : List ℕ) → Map (λ cs. t ++ cs) (More m) cs w → MarkBehind (suc m) i cs w) → ((cs w : List ℕ) → MarkBehind (suc m) i cs w → Map (λ cs. t ++ cs) (More m) cs w)
    → Found Any (OneOf marks (marks_may n)) s i rest → Reads Any (Longer (out ++ t) m) rest x → Reads Any (Longer out n) s x
mark_more out n m i t s rest x e h into from f r =
    let f0 : Found Any (OneOf marks (marks_may (suc m))) s i rest = subst (λ n. Found Any (OneOf marks (marks_may n)) s i rest) e f in
    subst (λ n. Reads Any (Longer out n) s x) (sym e)
    (reads_within Any x (within_map (λ cs. out ++ cs) (within_mark (suc m) s h))
    (reads_within Any x (map_bind (λ cs. out ++ cs))
    (reads_later x (joint_mark out (suc m)) f0
    (reads_within Any x (within_map (λ cs. out ++ cs) (same into from))
    (reads_within Any x (map_map (λ cs. out ++ cs) (λ cs. t ++ cs) (λ cs. (out ++ t) ++ cs) (λ cs. append_assoc out t cs)) r)))))

pub mark_upper : (out : List ℕ) (n m i : ℕ) (s rest : List ℕ) (x : Result (List ℕ × Bor (List ℕ)) Halt) → n ≡ suc m → starts_more (first s) ≡ false → i ≡ 1
    → Found Any (OneOf marks (marks_may n)) s i rest → Reads Any (Longer (out ++ delta) m) rest x → Reads Any (Longer out n) s x
mark_upper out n m i s rest x e h q f r = mark_more out n m 1 delta s rest x e h (λ cs w m. m) (λ cs w m. m) (subst (λ i. Found Any (OneOf marks (marks_may n)) s i rest) q f) r

pub mark_lower : (out : List ℕ) (n m i : ℕ) (s rest : List ℕ) (x : Result (List ℕ × Bor (List ℕ)) Halt) → n ≡ suc m → starts_more (first s) ≡ false → (i ≡ 0 → ⊥) → (i ≡ 1 → ⊥)
    → Found Any (OneOf marks (marks_may n)) s i rest → Reads Any (Longer (out ++ delta_below) m) rest x → Reads Any (Longer out n) s x
mark_lower out n m i s rest x e h a b f r =
    let q : i ≡ 2 = omega (arith, a, b, f.is.within) in
    mark_more out n m 2 delta_below s rest x e h (λ cs w m. m) (λ cs w m. m) (subst (λ i. Found Any (OneOf marks (marks_may n)) s i rest) q f) r

-- a mark that is there has room
pub mark_room : (n i : ℕ) → (i ≡ 0 → ⊥) → i < 3 → get_or (marks_may n) i false ≡ true → 0 < n
mark_room n zero a l h = absurd (a refl)
mark_room n (suc zero) a l h = lt_of 0 n h
mark_room n (suc (suc zero)) a l h = lt_of 0 n h
mark_room n (suc (suc (suc i))) a l h = absurd (omega (arith, l))

-- ---- The first character

pub within_letter : (c : ℕ) (s : List ℕ) → is_letter c ≡ true → first s ≡ Some c → Within s (After (c ∷ []) (Map (λ cs. (c ∷ []) ++ cs) (More 62))) (NameThen quote)
within_letter c s h f = record {
  into = λ cs w m. let r = m.goes_on in record {
    fits = subst (λ x. IsTrue (is_name x)) (sym r.is) (or_left (is_letter c && are_more 62 r.part) (is_delta (c ∷ take 2 r.part) && are_more 62 (drop 2 r.part)) (and_both (is_letter c) (are_more 62 r.part) h r.of.fits));
    text = m.whole ∙ ap₂ (λ y z. y ++ z) m.begins r.of.text ∙ ap (λ y. y ++ quote) (sym r.is);
  };
  from = λ cs w k x g. from cs w k x g;
}
  where
    from : (cs w k : List ℕ) → NameThen quote cs w → first (w ++ k) ≡ first s → After (c ∷ []) (Map (λ cs. (c ∷ []) ++ cs) (More 62)) cs w
    from [] w k x g = absurd (cc x.fits)
    from (d ∷ cs) w k x g =
        let q : d ≡ c = some_is d c (sym (first_of d cs w k x.text) ∙ g ∙ f) in
        elim (either (is_letter d && are_more 62 cs) (is_delta (d ∷ take 2 cs) && are_more 62 (drop 2 cs)) x.fits) [
          | inl y ↦ subst (λ c. After (c ∷ []) (Map (λ cs. (c ∷ []) ++ cs) (More 62)) (d ∷ cs) w) q
              (record { part = tt; front = d ∷ []; back = cs ++ quote; begins = refl; goes_on = record { part = cs; is = refl; of = record { fits = (both (is_letter d) (are_more 62 cs) y).1; text = refl } }; whole = x.text })
          | inr y ↦ absurd (no_mark d cs q (mark_of 62 d cs y))
        ]
      where
        no_mark : (d : ℕ) (cs : List ℕ) → d ≡ c → Mark 62 (d ∷ cs) → ⊥
        no_mark d cs q (upper r e i) = let z : 226 ≡ c = cc (e, q) in true_false (subst (λ c. is_letter c ≡ true) (sym z) h) refl
        no_mark d cs q (lower r e i) = let z : 226 ≡ c = cc (e, q) in true_false (subst (λ c. is_letter c ≡ true) (sym z) h) refl

pub within_delta : (s : List ℕ) → starts_letter (first s) ≡ false → Within s (Bind (OneOf deltas two) DeltaBehind) (NameThen quote)
within_delta s h = record { into = λ cs w m. into cs w m.part m.front m.back m.begins m.goes_on m.whole; from = λ cs w k x g. from cs w k x g }
  where
    into : (cs w : List ℕ) (i : ℕ) (a b : List ℕ) → OneOf deltas two i a → DeltaBehind i cs b → w ≡ a ++ b → NameThen quote cs w
    into cs w zero a b o m q = record { fits = subst (λ x. IsTrue (is_name x)) (sym m.is) m.of.fits; text = q ∙ ap₂ (λ y z. y ++ z) o.text m.of.text ∙ ap (λ y. y ++ quote) (sym m.is) }
    into cs w (suc zero) a b o m q = record { fits = subst (λ x. IsTrue (is_name x)) (sym m.is) m.of.fits; text = q ∙ ap₂ (λ y z. y ++ z) o.text m.of.text ∙ ap (λ y. y ++ quote) (sym m.is) }
    into cs w (suc (suc i)) a b o m q = absurd (omega (arith, o.within))

    from : (cs w k : List ℕ) → NameThen quote cs w → first (w ++ k) ≡ first s → Bind (OneOf deltas two) DeltaBehind cs w
    from [] w k x g = absurd (cc x.fits)
    from (c ∷ cs) w k x g =
        elim (either (is_letter c && are_more 62 cs) (is_delta (c ∷ take 2 cs) && are_more 62 (drop 2 cs)) x.fits) [
          | inl y ↦ absurd (true_false (both (is_letter c) (are_more 62 cs) y).0 (ap starts_letter (sym (first_of c cs w k x.text) ∙ g) ∙ h))
          | inr y ↦ marked (c ∷ cs) w x.text (mark_of 62 c cs y)
        ]
      where
        marked : (cs w : List ℕ) → w ≡ cs ++ quote → Mark 62 cs → Bind (OneOf deltas two) DeltaBehind cs w
        marked cs w e (upper r f i) = record { part = 0; front = delta; back = r ++ quote; begins = record { within = omega arith; text = refl; may = refl }; goes_on = record { part = r; is = f; of = record { fits = i; text = refl } }; whole = e ∙ ap (λ y. y ++ quote) f }
        marked cs w e (lower r f i) = record { part = 1; front = delta_below; back = r ++ quote; begins = record { within = omega arith; text = refl; may = refl }; goes_on = record { part = r; is = f; of = record { fits = i; text = refl } }; whole = e ∙ ap (λ y. y ++ quote) f }

joint_delta : Joint Any (OneOf deltas two) Any DeltaBehind
joint_delta = joint_any (λ i w o. some i)
  where
    some : (i : ℕ) → Some_of (DeltaBehind i)
    some zero = some_map (λ cs. delta ++ cs) (some_more 62)
    some (suc i) = some_map (λ cs. delta_below ++ cs) (some_more 62)

pub name_letter : (out : List ℕ) (c : ℕ) (s rest : List ℕ) (x : Result (List ℕ × Bor (List ℕ)) Halt) → out ≡ [] → is_letter c ≡ true → s ≡ c ∷ rest → Reads Any (Longer (out ++ (c ∷ [])) 62) rest x → Reads Any (NameThen quote) s x
name_letter out c s rest x e h f r =
    let r0 : Reads Any (Longer (c ∷ []) 62) rest x = subst (λ o. Reads Any (Longer (o ++ (c ∷ [])) 62) rest x) e r in
    reads_within Any x (within_letter c s h (ap first f)) (reads_later x (joint_lit (some_map (λ cs. (c ∷ []) ++ cs) (some_more 62))) (lit_found c f) r0)

pub delta_halts : (s : List ℕ) (x : Halt) → starts_letter (first s) ≡ false → Halts Any (OneOf deltas two) s x → Halts Any (NameThen quote) s x
delta_halts s x h f = halts_within (within_delta s h) (halts_first joint_delta f)

pub delta_upper : (out : List ℕ) (i : ℕ) (s rest : List ℕ) (x : Result (List ℕ × Bor (List ℕ)) Halt) → out ≡ [] → starts_letter (first s) ≡ false → i ≡ 0
    → Found Any (OneOf deltas two) s i rest → Reads Any (Longer (out ++ delta) 62) rest x → Reads Any (NameThen quote) s x
delta_upper out i s rest x e h q f r =
    let r0 : Reads Any (Longer delta 62) rest x = subst (λ o. Reads Any (Longer (o ++ delta) 62) rest x) e r in
    reads_within Any x (within_delta s h) (reads_later x joint_delta (subst (λ i. Found Any (OneOf deltas two) s i rest) q f) r0)

pub delta_lower : (out : List ℕ) (i : ℕ) (s rest : List ℕ) (x : Result (List ℕ × Bor (List ℕ)) Halt) → out ≡ [] → starts_letter (first s) ≡ false → (i ≡ 0 → ⊥)
    → Found Any (OneOf deltas two) s i rest → Reads Any (Longer (out ++ delta_below) 62) rest x → Reads Any (NameThen quote) s x
delta_lower out i s rest x e h n f r =
    let q : i ≡ 1 = omega (arith, n, f.is.within) in
    let r0 : Reads Any (Longer delta_below 62) rest x = subst (λ o. Reads Any (Longer (o ++ delta_below) 62) rest x) e r in
    reads_within Any x (within_delta s h) (reads_later x joint_delta (subst (λ i. Found Any (OneOf deltas two) s i rest) q f) r0)

pub starts_of : (p : Option ℕ → Bool) {s rest : List ℕ} {c : ℕ} → s ≡ c ∷ rest → p (first s) ≡ p (Some c)
starts_of p e = ap (λ x. p (first x)) e

pub one_less : (n : ℕ) → 0 < n → n ≡ suc (n - 1)
one_less n l = omega (arith, l)

-- How exact readers are put together.
use Rattle.std.proofs.Common.{◌≡◌, ◌∙◌, ap, sym, refl, subst, ℕ, List, [], ◌∷◌, ◌++◌, true, false, append_assoc, Bool, cond, IsTrue}
use Rattle.aplc_cread.specs.Reading.{first, Found, Stops, Any, Pure, Lit, Bind, Halts, Reads, Map, After, opens}
use Rattle.std.specs.Borrow.{Bor}
use Rattle.std.specs.Prelude.{Result, Ok, Err}
use Rattle.aplc_cread.specs.declared.lexical.Halt.{Halt}
use Rattle.aplc_cread.specs.declared.lexical.Halt.TheVariants as halt
use Rattle.aplc_cread.specs.Reading.{NoDigit, is_digit}

pub first-append : (t u v : List ℕ) → first u ≡ first v → first (t ++ u) ≡ first (t ++ v)
first-append [] u v e = e
first-append (c ∷ t) u v e = refl

-- what a language after another has to do for it
pub record Joint {A C : Type 0} (F : List ℕ → Type 0) (L : A → List ℕ → Type 0) (G : List ℕ → Type 0) (M : A → C → List ℕ → Type 0) : Type 0 where
  pub follow : (a : A) (c : C) (w k : List ℕ) → M a c w → G k → F (w ++ k)
  pub some : (a : A) (w : List ℕ) → L a w → (c : C) × ((v : List ℕ) × M a c v)

pub bind_found : {A C : Type 0} {F : List ℕ → Type 0} {L : A → List ℕ → Type 0} {G : List ℕ → Type 0} {M : A → C → List ℕ → Type 0} {s s1 rest : List ℕ} {a : A} {c : C}
    → Joint F L G M → Found F L s a s1 → Found G (M a) s1 c rest → Found G (Bind L M) s c rest
bind_found {A} {C} {F} {L} {G} {M} {s} {s1} {rest} {a} {c} j f g = record {
  text = f.text ++ g.text;
  here = f.here ∙ ap (λ x. f.text ++ x) g.here ∙ sym (append_assoc f.text g.text rest);
  is = record { part = a; front = f.text; back = g.text; begins = f.is; goes_on = g.is; whole = refl };
  only = λ b w k v m hk hv e.
      let e1 : m.front ++ (m.back ++ k) ≡ f.text ++ (g.text ++ v) = sym (append_assoc m.front m.back k) ∙ ap (λ x. x ++ k) (sym m.whole) ∙ e ∙ append_assoc f.text g.text v in
      let h1 : first (g.text ++ v) ≡ first s1 = first-append g.text v rest hv ∙ ap first (sym g.here) in
      let o = f.only m.part m.front (m.back ++ k) (g.text ++ v) m.begins (j.follow m.part b m.back k m.goes_on hk) h1 e1 in
      let n : M a b m.back = subst (λ x. M x b m.back) o.0 m.goes_on in
      g.only b m.back k v n hk hv o.1;
}

pub bind_stops : {A C : Type 0} {F : List ℕ → Type 0} {L : A → List ℕ → Type 0} {G : List ℕ → Type 0} {M : A → C → List ℕ → Type 0} {s s1 rest : List ℕ} {a : A}
    → Joint F L G M → Found F L s a s1 → Stops G (M a) s1 rest → Stops G (Bind L M) s rest
bind_stops {A} {C} {F} {L} {G} {M} {s} {s1} {rest} {a} j f g = record {
  text = f.text ++ g.text;
  here = f.here ∙ ap (λ x. f.text ++ x) g.here ∙ sym (append_assoc f.text g.text rest);
  some = (g.some.0, (g.some.1.0, record { part = a; front = f.text; back = g.text ++ g.some.1.0; begins = f.is; goes_on = g.some.1.1; whole = append_assoc f.text g.text g.some.1.0 }));
  none = λ b w k v m hk hv e.
      let e1 : m.front ++ (m.back ++ k) ≡ f.text ++ (g.text ++ v) = sym (append_assoc m.front m.back k) ∙ ap (λ x. x ++ k) (sym m.whole) ∙ e ∙ append_assoc f.text g.text v in
      let h1 : first (g.text ++ v) ≡ first s1 = first-append g.text v rest hv ∙ ap first (sym g.here) in
      let o = f.only m.part m.front (m.back ++ k) (g.text ++ v) m.begins (j.follow m.part b m.back k m.goes_on hk) h1 e1 in
      let n : M a b m.back = subst (λ x. M x b m.back) o.0 m.goes_on in
      g.none b m.back k v n hk hv o.1;
}

pub bind_stops_first : {A C : Type 0} {F : List ℕ → Type 0} {L : A → List ℕ → Type 0} {G : List ℕ → Type 0} {M : A → C → List ℕ → Type 0} {s rest : List ℕ}
    → Joint F L G M → Stops F L s rest → Stops G (Bind L M) s rest
bind_stops_first {A} {C} {F} {L} {G} {M} {s} {rest} j f =
    let more = j.some f.some.0 (f.text ++ f.some.1.0) f.some.1.1 in
    record {
      text = f.text;
      here = f.here;
      some = (more.0, (f.some.1.0 ++ more.1.0, record { part = f.some.0; front = f.text ++ f.some.1.0; back = more.1.0; begins = f.some.1.1; goes_on = more.1.1; whole = sym (append_assoc f.text f.some.1.0 more.1.0) }));
      none = λ b w k v m hk hv e.
          f.none m.part m.front (m.back ++ k) v m.begins (j.follow m.part b m.back k m.goes_on hk) hv (sym (append_assoc m.front m.back k) ∙ ap (λ x. x ++ k) (sym m.whole) ∙ e);
    }

pub pure_found : {A : Type 0} {F : List ℕ → Type 0} (a : A) (s : List ℕ) → Found F (Pure a) s a s
pure_found a s = record {
  text = [];
  here = refl;
  is = (refl, refl);
  only = λ b w k v m hk hv e. (m.0, ap (λ x. x ++ k) (sym m.1) ∙ e);
}

-- A language whose texts that begin as the input does are those of another.
pub record Within {A : Type 0} (s : List ℕ) (L T : A → List ℕ → Type 0) : Type 0 where
  pub into : (a : A) (w : List ℕ) → L a w → T a w
  pub from : (a : A) (w k : List ℕ) → T a w → first (w ++ k) ≡ first s → L a w

pub within_found : {A : Type 0} {F : List ℕ → Type 0} {L T : A → List ℕ → Type 0} {s rest : List ℕ} {a : A} → Within s L T → Found F L s a rest → Found F T s a rest
within_found {A} {F} {L} {T} {s} {rest} {a} i f = record {
  text = f.text;
  here = f.here;
  is = i.into a f.text f.is;
  only = λ b w k v m hk hv e.
      let h : first (w ++ k) ≡ first s = ap first e ∙ first-append f.text v rest hv ∙ ap first (sym f.here) in
      f.only b w k v (i.from b w k m h) hk hv e;
}

pub within_stops : {A : Type 0} {F : List ℕ → Type 0} {L T : A → List ℕ → Type 0} {s rest : List ℕ} → Within s L T → Stops F L s rest → Stops F T s rest
within_stops {A} {F} {L} {T} {s} {rest} i f = record {
  text = f.text;
  here = f.here;
  some = (f.some.0, (f.some.1.0, i.into f.some.0 (f.text ++ f.some.1.0) f.some.1.1));
  none = λ b w k v m hk hv e.
      let h : first (w ++ k) ≡ first s = ap first e ∙ first-append f.text v rest hv ∙ ap first (sym f.here) in
      f.none b w k v (i.from b w k m h) hk hv e;
}

-- no text begins as the input does
pub stops_here : {A : Type 0} {F : List ℕ → Type 0} {T : A → List ℕ → Type 0} (s : List ℕ) → (a : A) (w : List ℕ) → T a w
    → ((b : A) (w k : List ℕ) → T b w → F k → first (w ++ k) ≡ first s → ⊥) → Stops F T s s
stops_here s a w some none = record {
  text = [];
  here = refl;
  some = (a, (w, some));
  none = λ b w k v m hk hv e. none b w k m hk (ap first e ∙ hv);
}

-- where anything may follow the first
pub joint_any : {A C : Type 0} {L : A → List ℕ → Type 0} {G : List ℕ → Type 0} {M : A → C → List ℕ → Type 0}
    → ((a : A) (w : List ℕ) → L a w → (c : C) × ((v : List ℕ) × M a c v)) → Joint Any L G M
joint_any some = record { follow = λ a c w k m g. tt; some = some }

abbrev pub Some_of : {C : Type 0} → (C → List ℕ → Type 0) → Type 0
Some_of {C} M = (c : C) × ((v : List ℕ) × M c v)

pub some_pure : {C : Type 0} (c : C) → Some_of (Pure c)
some_pure c = (c, ([], (refl, refl)))

pub some_bind : {A C : Type 0} {L : A → List ℕ → Type 0} {M : A → C → List ℕ → Type 0} → Some_of L → ((a : A) → Some_of (M a)) → Some_of (Bind L M)
some_bind l m = let r = m l.0 in (r.0, (l.1.0 ++ r.1.0, record { part = l.0; front = l.1.0; back = r.1.0; begins = l.1.1; goes_on = r.1.1; whole = refl }))

pub some_lit : {C : Type 0} {M : Unit {0} → C → List ℕ → Type 0} (t : List ℕ) → Some_of (M tt) → Some_of (Bind (Lit t) M)
some_lit t m = (m.0, (t ++ m.1.0, record { part = tt; front = t; back = m.1.0; begins = refl; goes_on = m.1.1; whole = refl }))

-- a fixed text, and then anything
pub joint_lit : {C : Type 0} {t : List ℕ} {G : List ℕ → Type 0} {M : Unit {0} → C → List ℕ → Type 0} → Some_of (M tt) → Joint Any (Lit t) G M
joint_lit some = record { follow = λ a c w k m g. tt; some = λ a w l. some }

-- anything, and then a fixed text that doesn't begin with a digit
pub joint_open : {A C : Type 0} {L : A → List ℕ → Type 0} {G : List ℕ → Type 0} {M : A → Unit {0} → C → List ℕ → Type 0} (c : ℕ) (t : List ℕ)
    → is_digit c ≡ false → ((a : A) → Some_of (M a tt)) → Joint NoDigit L G (λ a. Bind (Lit (c ∷ t)) (M a))
joint_open c t d some = record {
  follow = λ a x w k m g. subst NoDigit (sym (ap (λ y. y ++ k) (m.whole ∙ ap (λ y. y ++ m.back) m.begins))) d;
  some = λ a w l. some_lit (c ∷ t) (some a);
}

-- anything, and nothing more
pub joint_pure : {A C : Type 0} {L : A → List ℕ → Type 0} {G : List ℕ → Type 0} (f : A → C) → Joint G L G (λ a. Pure (f a))
joint_pure {A} {C} {L} {G} f = record {
  follow = λ a x w k m g. subst G (sym (ap (λ y. y ++ k) m.1)) g;
  some = λ a w l. some_pure (f a);
}

-- the same where memory may have run out
pub halts_first : {A C : Type 0} {F : List ℕ → Type 0} {L : A → List ℕ → Type 0} {G : List ℕ → Type 0} {M : A → C → List ℕ → Type 0} {s : List ℕ} {h : Halt}
    → Joint F L G M → Halts F L s h → Halts G (Bind L M) s h
halts_first j f = record { stops = λ rest e. bind_stops_first j (f.stops rest e) }

pub halts_later : {A C : Type 0} {F : List ℕ → Type 0} {L : A → List ℕ → Type 0} {G : List ℕ → Type 0} {M : A → C → List ℕ → Type 0} {s s1 : List ℕ} {a : A} {h : Halt}
    → Joint F L G M → Found F L s a s1 → Halts G (M a) s1 h → Halts G (Bind L M) s h
halts_later j f g = record { stops = λ rest e. bind_stops j f (g.stops rest e) }

pub halts_within : {A : Type 0} {F : List ℕ → Type 0} {L T : A → List ℕ → Type 0} {s : List ℕ} {h : Halt} → Within s L T → Halts F L s h → Halts F T s h
halts_within i f = record { stops = λ rest e. within_stops i (f.stops rest e) }

pub halts_at : {A : Type 0} {F : List ℕ → Type 0} {L : A → List ℕ → Type 0} {s : List ℕ} {rest : Bor (List ℕ)} → Stops F L s rest.now → Halts F L s (halt.At rest)
halts_at {A} {F} {L} {s} {rest} f = record { stops = λ r e. subst (λ x. Stops F L s x.now) (injective r e) f }
  where
    injective : (r : Bor (List ℕ)) → halt.At rest ≡ halt.At r → rest ≡ r
    injective r e = cc

pub halts_memory : {A : Type 0} {F : List ℕ → Type 0} {L : A → List ℕ → Type 0} {s : List ℕ} → Halts F L s halt.Memory
halts_memory = record { stops = λ r e. absurd (cc e) }

pub reads_within : {A : Type 0} (F : List ℕ → Type 0) {L T : A → List ℕ → Type 0} {s : List ℕ} (r : Result (A × Bor (List ℕ)) Halt) → Within s L T → Reads F L s r → Reads F T s r
reads_within F (Ok x) i f = within_found i f
reads_within F (Err h) i f = halts_within i f

pub reads_later : {A C : Type 0} {F : List ℕ → Type 0} {L : A → List ℕ → Type 0} {G : List ℕ → Type 0} {M : A → C → List ℕ → Type 0} {s s1 : List ℕ} {a : A} (r : Result (C × Bor (List ℕ)) Halt)
    → Joint F L G M → Found F L s a s1 → Reads G (M a) s1 r → Reads G (Bind L M) s r
reads_later (Ok x) j f g = bind_found j f g
reads_later (Err h) j f g = halts_later j f g

pub ruleset exits = (halts_at, halts_memory)

-- values made of others
pub found_map : {A B : Type 0} {F : List ℕ → Type 0} {L : A → List ℕ → Type 0} {s rest : List ℕ} {a : A} (f : A → B) → Found F L s a rest → Found F (Map f L) s (f a) rest
found_map {A} {B} {F} {L} {s} {rest} {a} f g = record {
  text = g.text;
  here = g.here;
  is = record { part = a; is = refl; of = g.is };
  only = λ b w k v m hk hv e. let o = g.only m.part w k v m.of hk hv e in (m.is ∙ ap f o.0, o.1);
}

pub stops_map : {A B : Type 0} {F : List ℕ → Type 0} {L : A → List ℕ → Type 0} {s rest : List ℕ} (f : A → B) → Stops F L s rest → Stops F (Map f L) s rest
stops_map f g = record {
  text = g.text;
  here = g.here;
  some = (f g.some.0, (g.some.1.0, record { part = g.some.0; is = refl; of = g.some.1.1 }));
  none = λ b w k v m hk hv e. g.none m.part w k v m.of hk hv e;
}

pub halts_map : {A B : Type 0} {F : List ℕ → Type 0} {L : A → List ℕ → Type 0} {s : List ℕ} {h : Halt} (f : A → B) → Halts F L s h → Halts F (Map f L) s h
halts_map f g = record { stops = λ rest e. stops_map f (g.stops rest e) }

pub some_map : {A B : Type 0} {L : A → List ℕ → Type 0} (f : A → B) → Some_of L → Some_of (Map f L)
some_map f l = (f l.0, (l.1.0, record { part = l.0; is = refl; of = l.1.1 }))

pub map_at : {A B : Type 0} {L : A → List ℕ → Type 0} (f : A → B) (a : A) {w : List ℕ} → L a w → Map f L (f a) w
map_at f a l = record { part = a; is = refl; of = l }

pub bind_at : {A C : Type 0} {L : A → List ℕ → Type 0} {M : A → C → List ℕ → Type 0} {c : C} (a : A) (x y : List ℕ) → L a x → M a c y → Bind L M c (x ++ y)
bind_at a x y l m = record { part = a; front = x; back = y; begins = l; goes_on = m; whole = refl }

pub lit_at : {C : Type 0} {t : List ℕ} {M : Unit {0} → C → List ℕ → Type 0} {c : C} (y : List ℕ) → M tt c y → Bind (Lit t) M c (t ++ y)
lit_at {C} {t} {M} {c} y m = bind_at tt t y refl m

-- a language and a fixed text behind it, where the text does not begin with a digit
pub joint_opens : {A C : Type 0} {L : A → List ℕ → Type 0} {G : List ℕ → Type 0} {M : A → Unit {0} → C → List ℕ → Type 0} (t : List ℕ)
    → IsTrue (opens t) → ((a : A) → Some_of (M a tt)) → Joint NoDigit L G (λ a. Bind (Lit t) (M a))
joint_opens [] o some = absurd (cc o)
joint_opens (c ∷ t) o some = joint_open c t (closed (is_digit c) o) some
  where
    closed : (b : Bool) → IsTrue (cond b false true) → b ≡ false
    closed true h = absurd (cc h)
    closed false h = refl

-- two languages with the same texts
pub same : {A : Type 0} {s : List ℕ} {L T : A → List ℕ → Type 0} → ((a : A) (w : List ℕ) → L a w → T a w) → ((a : A) (w : List ℕ) → T a w → L a w) → Within s L T
same into from = record { into = into; from = λ a w k x h. from a w x }

-- a language, and a fixed text behind it
abbrev pub Followed : {A : Type 0} → (A → List ℕ → Type 0) → List ℕ → A → List ℕ → Type 0
Followed L t = Bind L (λ a. Bind (Lit t) (λ u. Pure a))

joint_followed : {A : Type 0} {L : A → List ℕ → Type 0} (t : List ℕ) → IsTrue (opens t) → Joint NoDigit L Any (λ a. Bind (Lit t) (λ u. Pure a))
joint_followed {A} {L} t o = joint_opens t o (λ a. some_pure a)

joint_fixed : {A : Type 0} (t : List ℕ) (a : A) → Joint Any (Lit t) Any (λ u. Pure a)
joint_fixed t a = joint_lit (some_pure a)

pub followed_found : {A : Type 0} {L : A → List ℕ → Type 0} {s s1 rest : List ℕ} {a : A} (t : List ℕ) → IsTrue (opens t) → Found NoDigit L s a s1 → Found Any (Lit t) s1 tt rest → Found Any (Followed L t) s a rest
followed_found {A} {L} {s} {s1} {rest} {a} t o f g = bind_found (joint_followed t o) f (bind_found (joint_fixed t a) g (pure_found a rest))

pub followed_first : {A : Type 0} {L : A → List ℕ → Type 0} {s : List ℕ} {h : Halt} (t : List ℕ) → IsTrue (opens t) → Halts NoDigit L s h → Halts Any (Followed L t) s h
followed_first t o f = halts_first (joint_followed t o) f

pub followed_later : {A : Type 0} {L : A → List ℕ → Type 0} {s s1 : List ℕ} {a : A} {h : Halt} (t : List ℕ) → IsTrue (opens t) → Found NoDigit L s a s1 → Halts Any (Lit t) s1 h → Halts Any (Followed L t) s h
followed_later {A} {L} {s} {s1} {a} t o f g = halts_later (joint_followed t o) f (halts_first (joint_fixed t a) g)

-- one language, and another behind it
abbrev pub pair : {A C : Type 0} → A → C → A × C
pair a c = (a, c)

abbrev pub Two : {A C : Type 0} → (A → List ℕ → Type 0) → (C → List ℕ → Type 0) → A × C → List ℕ → Type 0
Two {A} {C} L M = Bind L (λ a. Map (pair a) M)

joint_two : {A C : Type 0} {L : A → List ℕ → Type 0} {M : C → List ℕ → Type 0} → Some_of M → Joint Any L Any (λ a. Map (pair a) M)
joint_two {A} {C} {L} {M} some = joint_any (λ a w l. some_map (pair a) some)

pub two_found : {A C : Type 0} {L : A → List ℕ → Type 0} {M : C → List ℕ → Type 0} {s s1 rest : List ℕ} {a : A} {c : C} → Found Any L s a s1 → Found Any M s1 c rest → Found Any (Two L M) s (a, c) rest
two_found {A} {C} {L} {M} {s} {s1} {rest} {a} {c} f g = bind_found (joint_two (c, (g.text, g.is))) f (found_map (pair a) g)

pub two_first : {A C : Type 0} {L : A → List ℕ → Type 0} {M : C → List ℕ → Type 0} {s : List ℕ} {h : Halt} → Some_of M → Halts Any L s h → Halts Any (Two L M) s h
two_first some f = halts_first (joint_two some) f

pub two_later : {A C : Type 0} {L : A → List ℕ → Type 0} {M : C → List ℕ → Type 0} {s s1 : List ℕ} {a : A} {h : Halt} → Some_of M → Found Any L s a s1 → Halts Any M s1 h → Halts Any (Two L M) s h
two_later {A} {C} {L} {M} {s} {s1} {a} some f g = halts_later (joint_two some) f (halts_map (pair a) g)

-- a fixed text that is there, and a language behind it
pub after_found : {A : Type 0} {F : List ℕ → Type 0} {L : A → List ℕ → Type 0} {s s1 rest : List ℕ} {a : A} {t : List ℕ} → Found Any (Lit t) s tt s1 → Found F L s1 a rest → Found F (After t L) s a rest
after_found {A} {F} {L} {s} {s1} {rest} {a} e f = bind_found (joint_lit (a, (f.text, f.is))) e f

pub after_halts : {A : Type 0} {F : List ℕ → Type 0} {L : A → List ℕ → Type 0} {s s1 : List ℕ} {h : Halt} {t : List ℕ} → Some_of L → Found Any (Lit t) s tt s1 → Halts F L s1 h → Halts F (After t L) s h
after_halts some e f = halts_later (joint_lit some) e f

pub after_first : {A : Type 0} {F : List ℕ → Type 0} {L : A → List ℕ → Type 0} {s : List ℕ} {h : Halt} {t : List ℕ} → Some_of L → Halts Any (Lit t) s h → Halts F (After t L) s h
after_first some f = halts_first (joint_lit some) f

pub some_after : {A : Type 0} {L : A → List ℕ → Type 0} (t : List ℕ) → Some_of L → Some_of (After t L)
some_after t l = some_lit t l

-- where anything may follow, less may
pub lax_found : {A : Type 0} {G : List ℕ → Type 0} {L : A → List ℕ → Type 0} {s rest : List ℕ} {a : A} → Found Any L s a rest → Found G L s a rest
lax_found f = record { text = f.text; here = f.here; is = f.is; only = λ b w k v m hk hv e. f.only b w k v m tt hv e }

pub lax_stops : {A : Type 0} {G : List ℕ → Type 0} {L : A → List ℕ → Type 0} {s rest : List ℕ} → Stops Any L s rest → Stops G L s rest
lax_stops f = record { text = f.text; here = f.here; some = f.some; none = λ b w k v m hk hv e. f.none b w k v m tt hv e }

pub lax_halts : {A : Type 0} {G : List ℕ → Type 0} {L : A → List ℕ → Type 0} {s : List ℕ} {h : Halt} → Halts Any L s h → Halts G L s h
lax_halts f = record { stops = λ rest e. lax_stops (f.stops rest e) }

pub lax_reads : {A : Type 0} (G : List ℕ → Type 0) (L : A → List ℕ → Type 0) (s : List ℕ) (r : Result (A × Bor (List ℕ)) Halt) → Reads Any L s r → Reads G L s r
lax_reads G L s (Ok x) f = lax_found f
lax_reads G L s (Err h) f = lax_halts f

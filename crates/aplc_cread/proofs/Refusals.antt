-- The whole, and why it is refused.
use Rattle.std.proofs.Common.{◌≡◌, ◌∙◌, ap, ap₂, sym, refl, subst, ℕ, ◌+◌, ◌-◌, ◌<◌, ◌≤◌, inl, inr, List, [], ◌∷◌, ◌++◌, append_assoc, Some, None, Bool, true, false, arith, length, get_or, take, drop}
use Rattle.std.proofs.lemmas.List.{append-nil, length-append, take_at, take-append-drop, take-take, get_or_at}
use Rattle.std.proofs.Math.Seq.{take-append-add}
use Rattle.std.specs.Borrow.{Bor}
use Rattle.std.specs.Prelude.{Ok}
use Rattle.aplc_cprof.specs.declared.syntax.CProgram.{CProgram}
use Rattle.aplc_cprof.specs.WellFormed.{IsText}
use Rattle.aplc_cprof.specs.Preamble.{preamble}
use Rattle.aplc_cread.specs.declared.answer.Mode.{Mode}
use Rattle.aplc_cread.specs.Reading.{first, Found, Stops, Any, Halts}
use Rattle.aplc_cread.specs.declared.lexical.Halt.{Halt}
use Rattle.aplc_cread.specs.declared.lexical.Halt.TheVariants as halt
use Rattle.aplc_cread.specs.Refusal.{scope_of, Program, strict, deep, free, BeginsBy, Goes, IsPlace, IsNumber, HasBadByte, is_text_byte, IsRefused, Ends, Stopped, IsBegun}

abbrev GoesBy : Mode → List ℕ → ℕ → Type 0
GoesBy m = Goes (scope_of m.free) m.limit

-- where the whole ends
pub ends_stops : {m : Mode} {bytes rest : List ℕ} → Stops Any (Program m) bytes rest → Ends m bytes rest
ends_stops f = record { front = f.text; here = f.here; begins = f.some; none = λ p w v x h e. f.none p w [] v x tt h (append-nil w ∙ e) }

pub ends_found : {m : Mode} {bytes rest : List ℕ} {p : CProgram} (c : ℕ) (r : List ℕ) → Found Any (Program m) bytes p rest → rest ≡ c ∷ r → Ends m bytes rest
ends_found {m} {bytes} {rest} {p} c r f q = record {
  front = f.text;
  here = f.here;
  begins = (p, ([], subst (λ w. Program m p w) (sym (append-nil f.text)) f.is));
  none = λ b w v x h e.
      let z = f.only b w [] v x tt h (append-nil w ∙ e) in
      let y : None ≡ Some c = ap first z.1 ∙ h ∙ ap first q in absurd (cc y);
}

pub whole_found : (m : Mode) {bytes rest : List ℕ} {p : CProgram} → Found Any (Program m) bytes p rest → rest ≡ [] → Program m p bytes
whole_found m {bytes} {rest} {p} f q = subst (λ w. Program m p w) (sym (f.here ∙ ap (λ x. f.text ++ x) q ∙ append-nil f.text)) f.is

pub begun : {m : Mode} {bytes rest : List ℕ} → Ends m bytes rest → rest ≡ [] → BeginsBy m bytes
begun {m} {bytes} {rest} f q = subst (λ w. BeginsBy m w) (sym (f.here ∙ ap (λ x. f.front ++ x) q ∙ append-nil f.front)) f.begins

pub begun_whole : (m : Mode) {bytes : List ℕ} {p : CProgram} → Program m p bytes → BeginsBy m bytes
begun_whole m {bytes} {p} x = (p, ([], subst (λ w. Program m p w) (sym (append-nil bytes)) x))

first-front : (c : ℕ) (r v rest : List ℕ) → rest ≡ c ∷ r → first (rest ++ v) ≡ first rest
first-front c r v rest q = ap (λ x. first (x ++ v)) q ∙ sym (ap first q)

pub not_begun : {m : Mode} {bytes rest : List ℕ} (c : ℕ) (r : List ℕ) → Ends m bytes rest → rest ≡ c ∷ r → BeginsBy m bytes → ⊥
not_begun {m} {bytes} {rest} c r f q b =
    f.none b.0 (bytes ++ b.1.0) (rest ++ b.1.0) b.1.1 (first-front c r b.1.0 rest q) (ap (λ x. x ++ b.1.0) f.here ∙ append_assoc f.front rest b.1.0)

-- a prefix of what begins a text begins one
closed : (m : Mode) (bytes : List ℕ) (j k : ℕ) → j ≤ k → BeginsBy m (take k bytes) → BeginsBy m (take j bytes)
closed m bytes j k l b =
    let e : take k bytes ≡ take j bytes ++ drop j (take k bytes) = sym (take-append-drop j (take k bytes)) ∙ ap (λ x. x ++ drop j (take k bytes)) (take-take j k bytes l) in
    (b.0, (drop j (take k bytes) ++ b.1.0, subst (λ w. Program m b.0 w) (ap (λ x. x ++ b.1.0) e ∙ append_assoc (take j bytes) (drop j (take k bytes)) b.1.0) b.1.1))

pub goes_on : (m : Mode) (bytes : List ℕ) (n : ℕ) → n < length bytes → BeginsBy m (take (n + 1) bytes) → GoesBy m bytes n
goes_on m bytes n l b = (n + 1, omega arith, omega (arith, l), b)

pub goes_not : (m : Mode) (bytes : List ℕ) (n : ℕ) → (BeginsBy m (take (n + 1) bytes) → ⊥) → GoesBy m bytes n → ⊥
goes_not m bytes n not g = not (closed m bytes (n + 1) g.0 (omega (arith, g.1)) g.3)

length_front : {m : Mode} {bytes rest : List ℕ} (f : Ends m bytes rest) (n : ℕ) → n ≡ length bytes - length rest → n ≡ length f.front
length_front f n e = omega (arith, e, ap length f.here ∙ length-append f.front _)

pub place_of : {bytes rest : List ℕ} (n : ℕ) → Ends strict bytes rest → n ≡ length bytes - length rest → IsPlace bytes n
place_of {bytes} {rest} n f e =
    let l = length_front f n e in
    let t : take n bytes ≡ f.front = ap (take n) f.here ∙ take_at f.front rest n (sym l) in
    record {
      within = omega (arith, e);
      begins = subst (λ w. BeginsBy strict w) (sym t) f.begins;
      longest = λ g. longest rest f.here (λ p w v x h q. f.none p w v x h q) l g;
    }
  where
    longest : (r : List ℕ) → bytes ≡ f.front ++ r → ((p : CProgram) (w v : List ℕ) → Program strict p w → first v ≡ first r → w ≡ f.front ++ v → ⊥) → n ≡ length f.front → GoesBy strict bytes n → ⊥
    longest [] q none l g = omega (arith, g.1, g.2, l, ap length q ∙ ap length (append-nil f.front))
    longest (c ∷ r) q none l g =
        let b = closed strict bytes (n + 1) g.0 (omega (arith, g.1)) g.3 in
        let t : take (n + 1) bytes ≡ f.front ++ (c ∷ []) = ap₂ take (ap (λ x. x + 1) l) q ∙ take-append-add f.front (c ∷ r) 1 in
        none b.0 (take (n + 1) bytes ++ b.1.0) (c ∷ b.1.0) b.1.1 refl (ap (λ x. x ++ b.1.0) t ∙ append_assoc f.front (c ∷ []) b.1.0)

pub refused : {bytes rest : List ℕ} (n c : ℕ) → Ends strict bytes rest → n ≡ length bytes - length rest → IsNumber bytes n c → IsRefused bytes (record { number = c; place = n })
refused {bytes} {rest} n c f e x = record { no_text = λ p y. f.none p bytes rest (record { formed = y.well_formed; text = y.text }) refl f.here; place = place_of n f e; number = x }

at_rest : {bytes rest : List ℕ} (n c : ℕ) (r : List ℕ) → Ends strict bytes rest → n ≡ length bytes - length rest → rest ≡ c ∷ r → (n < length bytes) × (get_or bytes n 0 ≡ c)
at_rest {bytes} {rest} n c r f e q =
    let l = length_front f n e in (
      omega (arith, l, ap length f.here ∙ length-append f.front rest, ap length q),
      ap (λ x. get_or x n 0) (f.here ∙ ap (λ x. f.front ++ x) q) ∙ get_or_at f.front c r 0 n (sym l),
    )

not_less : (n : ℕ) → length preamble ≤ n → n < length preamble → ⊥
not_less n l x = below (length preamble) n l x
  where
    below : (k n : ℕ) → k ≤ n → n < k → ⊥
    below k n l x = omega (arith, l, x)

pub refused_30 : {bytes rest : List ℕ} (n : ℕ) → Ends strict bytes rest → n ≡ length bytes - length rest → n < length preamble → IsRefused bytes (record { number = 30; place = n })
refused_30 n f e l = refused n 30 f e (inl (l, refl))

pub refused_31 : {bytes rest : List ℕ} (n c : ℕ) (r : List ℕ) → Ends strict bytes rest → n ≡ length bytes - length rest → length preamble ≤ n → rest ≡ c ∷ r → is_text_byte c ≡ false → IsRefused bytes (record { number = 31; place = n })
refused_31 n c r f e l q p =
    let a = at_rest n c r f e q in
    refused n 31 f e (inr ((λ x. not_less n l x), inl ((a.0, ap is_text_byte a.1 ∙ p), refl)))

pub refused_end : {bytes rest : List ℕ} (n : ℕ) → Ends strict bytes rest → n ≡ length bytes - length rest → length preamble ≤ n → rest ≡ [] → IsRefused bytes (record { number = 32; place = n })
refused_end {bytes} {rest} n f e l q =
    let z : n ≡ length bytes = omega (arith, e, ap length q) in
    refused n 32 f e (inr ((λ x. not_less n l x), inr ((λ x. omega (arith, x.0, z)), inr ((λ g. omega (arith, g.1, g.2, z)), inr ((λ g. omega (arith, g.1, g.2, z)), refl)))))

not_bad : {bytes rest : List ℕ} (n c : ℕ) (r : List ℕ) → Ends strict bytes rest → n ≡ length bytes - length rest → rest ≡ c ∷ r → is_text_byte c ≡ true → HasBadByte bytes n → ⊥
not_bad n c r f e q p b = let a = at_rest n c r f e q in let z = ap is_text_byte a.1 in absurd (true_false (sym p ∙ sym z ∙ b.1))
  where
    true_false : true ≡ false → ⊥
    true_false h = cc h

pub refused_34 : {bytes rest : List ℕ} (n c : ℕ) (r : List ℕ) → Ends strict bytes rest → n ≡ length bytes - length rest → length preamble ≤ n → rest ≡ c ∷ r → is_text_byte c ≡ true
    → BeginsBy deep (take (n + 1) bytes) → IsRefused bytes (record { number = 34; place = n })
refused_34 {bytes} n c r f e l q p b =
    let a = at_rest n c r f e q in
    refused n 34 f e (inr ((λ x. not_less n l x), inr (not_bad n c r f e q p, inl (goes_on deep bytes n a.0 b, refl))))

pub refused_33 : {bytes rest : List ℕ} (n c : ℕ) (r : List ℕ) → Ends strict bytes rest → n ≡ length bytes - length rest → length preamble ≤ n → rest ≡ c ∷ r → is_text_byte c ≡ true
    → (BeginsBy deep (take (n + 1) bytes) → ⊥) → BeginsBy free (take (n + 1) bytes) → IsRefused bytes (record { number = 33; place = n })
refused_33 {bytes} n c r f e l q p d b =
    let a = at_rest n c r f e q in
    refused n 33 f e (inr ((λ x. not_less n l x), inr (not_bad n c r f e q p, inr (goes_not deep bytes n d, inl (goes_on free bytes n a.0 b, refl)))))

pub refused_32 : {bytes rest : List ℕ} (n c : ℕ) (r : List ℕ) → Ends strict bytes rest → n ≡ length bytes - length rest → length preamble ≤ n → rest ≡ c ∷ r → is_text_byte c ≡ true
    → (BeginsBy deep (take (n + 1) bytes) → ⊥) → (BeginsBy free (take (n + 1) bytes) → ⊥) → IsRefused bytes (record { number = 32; place = n })
refused_32 {bytes} n c r f e l q p d b =
    refused n 32 f e (inr ((λ x. not_less n l x), inr (not_bad n c r f e q p, inr (goes_not deep bytes n d, inr (goes_not free bytes n b, refl)))))

pub stopped_of : {m : Mode} {bytes : List ℕ} {h : Halt} → Halts Any (Program m) bytes h → Stopped m bytes h
stopped_of f = record { ends = λ r e. ends_stops (f.stops r e) }

pub stopped_at : {m : Mode} {bytes : List ℕ} {rest : Bor (List ℕ)} → Ends m bytes rest.now → Stopped m bytes (halt.At rest)
stopped_at {m} {bytes} {rest} f = record { ends = λ r e. subst (λ x. Ends m bytes x.now) (injective r e) f }
  where
    injective : (r : Bor (List ℕ)) → halt.At rest ≡ halt.At r → rest ≡ r
    injective r e = cc

pub begun_true : (m : Mode) (bytes : List ℕ) (x : Bool) → IsBegun m bytes (Ok x) → x ≡ true → BeginsBy m bytes
begun_true m bytes true b e = b
begun_true m bytes false b e = absurd (cc e)

pub begun_false : (m : Mode) (bytes : List ℕ) (x : Bool) → IsBegun m bytes (Ok x) → x ≡ false → BeginsBy m bytes → ⊥
begun_false m bytes false b e = b
begun_false m bytes true b e = absurd (cc e)

-- a text under the strict rules is a text
pub is_text : {bytes : List ℕ} {p : CProgram} → Program strict p bytes → IsText bytes p
is_text x = record { well_formed = x.formed; text = x.text }

pub below_of : {n : ℕ} {w t : List ℕ} → w ≡ t → n < length w → n < length t
below_of {n} e l = subst (λ x. n < length x) e l

pub above_of : {n : ℕ} {w t : List ℕ} → w ≡ t → length w ≤ n → length t ≤ n
above_of {n} e l = subst (λ x. length x ≤ n) e l

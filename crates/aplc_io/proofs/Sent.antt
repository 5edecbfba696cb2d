-- Writes in pieces: what a sink or a text holds after one write and another, and after one that a fault cut short.
use Rattle.std.proofs.Common.{◌≡◌, ℕ, zero, suc, ◌+◌, ◌-◌, ◌<◌, ◌≤◌, List, [], ◌∷◌, ◌++◌, length, take, drop, Option, None, Some, refl, sym, ap, subst, ◌∙◌, arith, append_assoc, append-nil, length-append, length-drop, length-take-le}
use Rattle.std.proofs.lemmas.List.{take_all, take-append-le}
use Rattle.std.proofs.Math.Seq.{take-append-add}
use Rattle.aplc_io.specs.Outside.{SinkState, HostState, with, sink_with, SinkFails, text_with, TextFails, Rose, more}
use Rattle.aplc_io.specs.Parts.{PartWritten, PartOfText}

take-none : (n : ℕ) → take {A = ℕ} n [] ≡ []
take-none zero = refl
take-none (suc n) = refl

-- the first m, and n of the rest
take_add : (m n : ℕ) (xs : List ℕ) → take m xs ++ take n (drop m xs) ≡ take (m + n) xs
take_add zero n xs = let e : n ≡ 0 + n = omega arith in ap (λ k. take k xs) e
take_add (suc m) n [] = take-none n ∙ sym (take-none (suc m + n))
take_add (suc m) n (x ∷ xs) = let e : suc m + n ≡ suc (m + n) = omega arith in rw e (ap (λ (l : List ℕ). x ∷ l) (take_add m n xs))

pub with-nil : (t : Option (List ℕ)) → with t [] ≡ t
with-nil None = refl
with-nil (Some xs) = ap (λ (l : List ℕ). Some l) (append-nil xs)

pub with-with : (t : Option (List ℕ)) (a b : List ℕ) → with (with t a) b ≡ with t (a ++ b)
with-with None a b = refl
with-with (Some xs) a b = ap (λ (l : List ℕ). Some l) (append_assoc xs a b)

pub sink_with-nil : (s : SinkState) → sink_with s [] ≡ s
sink_with-nil s = ap (λ t. record { written = t; faults = s.faults }) (with-nil s.written)

pub sink_with-with : (s : SinkState) (a b : List ℕ) → sink_with (sink_with s a) b ≡ sink_with s (a ++ b)
sink_with-with s a b = ap (λ t. record { written = t; faults = s.faults }) (with-with s.written a b)

more-none : (n : ℕ) → more n 0 ≡ n
more-none n = omega arith

more-more : (n a b : ℕ) → more (more n a) b ≡ more n (a + b)
more-more n a b = omega arith

pub text_with-nil : (h : HostState) → text_with h [] ≡ h
text_with-nil h = ap (λ t. record h { text = t; put = more h.put 0 }) (with-nil h.text) ∙ ap (λ (n : ℕ). record h { put = n }) (more-none h.put)

pub text_with-with : (h : HostState) (a b : List ℕ) → text_with (text_with h a) b ≡ text_with h (a ++ b)
text_with-with h a b =
    ap (λ t. record h { text = t; put = more (more h.put (length a)) (length b) }) (with-with h.text a b)
    ∙ ap (λ (n : ℕ). record h { text = with h.text (a ++ b); put = n }) (more-more h.put (length a) (length b) ∙ ap (more h.put) (sym (length-append a b)))

-- one step of a loop that writes `bytes` from `at` on
module _ (bytes : List ℕ) (at : ℕ) where
  more_sent : (old mid new : SinkState) (n : ℕ) → mid ≡ sink_with old (take at bytes) → new ≡ sink_with mid (take n (drop at bytes)) → new ≡ sink_with old (take (at + n) bytes)
  more_sent old mid new n e f = f ∙ ap (λ s. sink_with s (take n (drop at bytes))) e ∙ sink_with-with old _ _ ∙ ap (sink_with old) (take_add at n bytes)

  -- the slice from `at` to the end
  pub slice_sent : (old mid new : SinkState) (n : ℕ) → mid ≡ sink_with old (take at bytes) → new ≡ sink_with mid (take n (take (length bytes - at) (drop at bytes))) → new ≡ sink_with old (take (at + n) bytes)
  slice_sent old mid new n e f = more_sent old mid new n e (f ∙ ap (λ (l : List ℕ). sink_with mid (take n l)) (take_all _ _ (omega (arith, length-drop at bytes))))

  pub part_sent : (old mid new : SinkState) → at < length bytes → mid ≡ sink_with old (take at bytes) → SinkFails mid new → PartWritten bytes old new
  part_sent old mid new short e fails =
      let same : mid.faults ≡ old.faults = ap (λ s. s.faults) e in
      record {
        count = at;
        short = short;
        written = fails.same ∙ ap (λ s. s.written) e;
        rose = subst (λ n. Rose n new.faults) same fails.rose;
        later = subst (λ n. n ≤ new.faults) same fails.later;
      }

  more_put : (old mid new : HostState) (n : ℕ) → mid ≡ text_with old (take at bytes) → new ≡ text_with mid (take n (drop at bytes)) → new ≡ text_with old (take (at + n) bytes)
  more_put old mid new n e f = f ∙ ap (λ s. text_with s (take n (drop at bytes))) e ∙ text_with-with old _ _ ∙ ap (text_with old) (take_add at n bytes)

  -- the slice from `at` to the end
  pub slice_put : (old mid new : HostState) (n : ℕ) → mid ≡ text_with old (take at bytes) → new ≡ text_with mid (take n (take (length bytes - at) (drop at bytes))) → new ≡ text_with old (take (at + n) bytes)
  slice_put old mid new n e f = more_put old mid new n e (f ∙ ap (λ (l : List ℕ). text_with mid (take n l)) (take_all _ _ (omega (arith, length-drop at bytes))))

  pub part_put : (old mid new : HostState) → at < length bytes → mid ≡ text_with old (take at bytes) → TextFails mid new → PartOfText bytes old new
  part_put old mid new short e fails =
      let same : mid.text_faults ≡ old.text_faults = ap (λ h. h.text_faults) e in
      let whole : new ≡ record (text_with old (take at bytes)) { text_faults = new.text_faults } = fails.same ∙ ap {A = HostState} (λ h. record h { text_faults = new.text_faults }) e in
      let text : new.text ≡ with old.text (take at bytes) = ap (λ h. h.text) whole in
      let put : new.put ≡ more old.put (length (take at bytes)) = ap (λ h. h.put) whole in
      record {
        count = at;
        short = short;
        text = text;
        put = put ∙ ap (more old.put) (length-take-le at bytes (let s = short in omega arith));
        rose = subst (λ n. Rose n new.text_faults) same fails.rose;
        later = subst (λ n. n ≤ new.text_faults) same fails.later;
        same = whole ∙ ap (λ (t : Option (List ℕ)). record old { text = t; put = more old.put (length (take at bytes)); text_faults = new.text_faults }) (sym text) ∙ ap (λ (n : ℕ). record old { text = new.text; put = n; text_faults = new.text_faults }) (sym put);
      }

-- a part of what comes first
pub part_front : (a b : List ℕ) (old new : SinkState) → PartWritten a old new → PartWritten (a ++ b) old new
part_front a b old new p = record {
  count = p.count;
  short = let s = p.short in omega (arith, length-append a b);
  written = p.written ∙ ap (λ (l : List ℕ). with old.written l) (sym (take-append-le p.count a b (let s = p.short in omega arith)));
  rose = p.rose;
  later = p.later;
}

-- what comes first, and a part of what comes after it
pub part_back : (a b : List ℕ) (old mid new : SinkState) → mid ≡ sink_with old a → PartWritten b mid new → PartWritten (a ++ b) old new
part_back a b old mid new e p =
    let same : mid.faults ≡ old.faults = ap (λ s. s.faults) e in
    record {
      count = length a + p.count;
      short = let s = p.short in omega (arith, length-append a b);
      written = p.written ∙ ap (λ (s : SinkState). with s.written (take p.count b)) e ∙ with-with old.written a (take p.count b) ∙ ap (λ (l : List ℕ). with old.written l) (sym (take-append-add a b p.count));
      rose = subst (λ n. Rose n new.faults) same p.rose;
      later = subst (λ n. n ≤ new.faults) same p.later;
    }

-- one after the other
pub both_sent : (a b : List ℕ) (old mid new : SinkState) → mid ≡ sink_with old a → new ≡ sink_with mid b → new ≡ sink_with old (a ++ b)
both_sent a b old mid new e f = f ∙ ap (λ (s : SinkState). sink_with s b) e ∙ sink_with-with old a b

pub ruleset pieces = (part_front, part_back, both_sent)

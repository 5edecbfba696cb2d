-- Steps of a reader.
use Rattle.std.proofs.Common.{◌≡◌, ap, subst, ℕ, ◌≤◌, List, arith, length}
use Rattle.std.proofs.lemmas.List.{length-append}
use Rattle.std.specs.Borrow.{Bor}
use Rattle.std.specs.Prelude.{Result, Ok, Err}
use Rattle.aplc_cread.specs.Reading.{Found, Any, Pure, Bind, Halts, Reads, Map, Passes}
use Rattle.aplc_cread.specs.Leading.{Leads}
use Rattle.aplc_cread.specs.declared.lexical.Halt.{Halt}
use Rattle.aplc_cread.proofs.Rules.{Joint, Within, bind_found, bind_stops, bind_stops_first, found_map, stops_map, within_found, within_stops, pure_found, halts_later, lax_found, lax_halts}

pub leads_start : {A : Type 0} (L : A → List ℕ → Type 0) (s : List ℕ) → Leads L s (λ a. a) L s
leads_start L s = record { near = omega arith; found = λ b r f. f; stops = λ r f. f }

-- what was read is no longer than the input
pub found_near : {A : Type 0} {F : List ℕ → Type 0} {L : A → List ℕ → Type 0} {s rest : List ℕ} {a : A} → Found F L s a rest → length rest ≤ length s
found_near {A} {F} {L} {s} {rest} f = let e = ap length f.here in omega (arith, e, length-append f.text rest)

pub leads_bind : {A B C : Type 0} {F : List ℕ → Type 0} {L : A → List ℕ → Type 0} {N : B → List ℕ → Type 0} {M : B → C → List ℕ → Type 0} {f : C → A} {s rest next : List ℕ} {b : B}
    → Joint F N Any M → Leads L s f (Bind N M) rest → Found F N rest b next → Leads L s f (M b) next
leads_bind j g h = record {
  near = let n = found_near h in omega (arith, g.near, n);
  found = λ c r x. g.found c r (bind_found j h x);
  stops = λ r x. g.stops r (bind_stops j h x);
}

pub leads_map : {A B C : Type 0} {L : A → List ℕ → Type 0} {M : B → List ℕ → Type 0} {f : C → A} {s rest : List ℕ} (g : B → C) → Leads L s f (Map g M) rest → Leads L s (λ b. f (g b)) M rest
leads_map g l = record { near = l.near; found = λ b r x. l.found (g b) r (found_map g x); stops = λ r x. l.stops r (stops_map g x) }

pub leads_as : {A B : Type 0} {L : A → List ℕ → Type 0} {M : B → List ℕ → Type 0} {f : B → A} {s rest : List ℕ} (g : B → A) → ((b : B) → f b ≡ g b) → Leads L s f M rest → Leads L s g M rest
leads_as {A} {B} {L} {M} {f} {s} {rest} g e l = record { near = l.near; found = λ b r x. subst (λ a. Found Any L s a r) (e b) (l.found b r x); stops = l.stops }

pub leads_within : {A B : Type 0} {L : A → List ℕ → Type 0} {M T : B → List ℕ → Type 0} {f : B → A} {s rest : List ℕ} → Within rest M T → Leads L s f T rest → Leads L s f M rest
leads_within i l = record { near = l.near; found = λ b r x. l.found b r (within_found i x); stops = λ r x. l.stops r (within_stops i x) }

pub leads_halts : {A B : Type 0} {L : A → List ℕ → Type 0} {M : B → List ℕ → Type 0} {f : B → A} {s rest : List ℕ} {h : Halt} → Leads L s f M rest → Halts Any M rest h → Halts Any L s h
leads_halts l x = record { stops = λ r e. l.stops r.now (x.stops r e) }

pub leads_first : {A B C : Type 0} {F : List ℕ → Type 0} {L : A → List ℕ → Type 0} {N : B → List ℕ → Type 0} {M : B → C → List ℕ → Type 0} {f : C → A} {s rest : List ℕ} {h : Halt}
    → Joint F N Any M → Leads L s f (Bind N M) rest → Halts F N rest h → Halts Any L s h
leads_first j l x = record { stops = λ r e. l.stops r.now (bind_stops_first j (x.stops r e)) }

pub leads_pure : {A B : Type 0} {L : A → List ℕ → Type 0} {f : B → A} {s rest : List ℕ} (b : B) → Leads L s f (Pure b) rest → Found Any L s (f b) rest
leads_pure {A} {B} {L} {f} {s} {rest} b l = l.found b rest (pure_found b rest)

-- a reader's whole answer is that of the last one it calls
pub leads_reads : {A : Type 0} {L M : A → List ℕ → Type 0} {s rest : List ℕ} (x : Result (A × Bor (List ℕ)) Halt) → Leads L s (λ a. a) M rest → Reads Any M rest x → Reads Any L s x
leads_reads (Ok x) l r = l.found x.0 x.1.now r
leads_reads (Err h) l r = leads_halts l r

pub passes_later : {A C : Type 0} {L : A → List ℕ → Type 0} {F G : List ℕ → Type 0} {M : A → C → List ℕ → Type 0} {s s1 : List ℕ} {a : A} (c : C) (r : Result (Bor (List ℕ)) Halt)
    → Joint F L G M → Found F L s a s1 → Passes G (M a) c s1 r → Passes G (Bind L M) c s r
passes_later c (Ok x) j f g = bind_found j f g
passes_later c (Err h) j f g = halts_later j f g

pub passes_within : {A : Type 0} (F : List ℕ → Type 0) {L T : A → List ℕ → Type 0} {s : List ℕ} (a : A) (r : Result (Bor (List ℕ)) Halt) → Within s L T → Passes F L a s r → Passes F T a s r
passes_within F a (Ok x) i f = within_found i f
passes_within F a (Err h) i f = record { stops = λ r e. within_stops i (f.stops r e) }

-- where anything may follow, less may
pub passes_lax : {A : Type 0} (G : List ℕ → Type 0) (L : A → List ℕ → Type 0) (s : List ℕ) (a : A) (r : Result (Bor (List ℕ)) Halt) → Passes Any L a s r → Passes G L a s r
passes_lax G L s a (Ok x) f = lax_found f
passes_lax G L s a (Err h) f = lax_halts f

-- Reads one after the other: what a source gave in all.
use Rattle.std.proofs.Common.{◌≡◌, List, [], ◌++◌, Option, None, Some, option_map, ℕ, refl, sym, ap, ◌∙◌, append_assoc}
use Rattle.aplc_io.specs.Outside.{SourceState, SourceGives}

before-before : (a b : List ℕ) (t : Option (List ℕ)) → option_map (λ (xs : List ℕ). a ++ xs) (option_map (λ (xs : List ℕ). b ++ xs) t) ≡ option_map (λ (xs : List ℕ). (a ++ b) ++ xs) t
before-before a b None = refl
before-before a b (Some xs) = ap (λ (l : List ℕ). Some l) (sym (append_assoc a b xs))

before-nil : (t : Option (List ℕ)) → t ≡ option_map (λ (xs : List ℕ). [] ++ xs) t
before-nil None = refl
before-nil (Some xs) = refl

-- a source that was not read
pub gives-nil : (s : SourceState) → SourceGives [] s s
gives-nil s = record { left = before-nil s.left; faults = refl }

-- one read and another
pub gives-gives : (a b : List ℕ) (old mid new : SourceState) → SourceGives a old mid → SourceGives b mid new → SourceGives (a ++ b) old new
gives-gives a b old mid new p q = record {
  left = p.left ∙ ap (option_map (λ (xs : List ℕ). a ++ xs)) q.left ∙ before-before a b new.left;
  faults = q.faults ∙ p.faults;
}

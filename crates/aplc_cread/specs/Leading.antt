-- How far a reader has come.
use Rattle.std.specs.Prelude.{ℕ, ◌≤◌, List, length}
use Rattle.aplc_cread.specs.Reading.{Found, Stops, Any}

-- Of a text of L at the front of s nothing but a text of M at the front of the rest is left to be read. f makes the whole value of what is left.
pub record Leads {A B : Type 0} (L : A → List ℕ → Type 0) (s : List ℕ) (f : B → A) (M : B → List ℕ → Type 0) (rest : List ℕ) : Type 0 where
  pub near : length rest ≤ length s
  pub found : (b : B) (r : List ℕ) → Found Any M rest b r → Found Any L s (f b) r
  pub stops : (r : List ℕ) → Stops Any M rest r → Stops Any L s r

-- The table of landings, from the last line to the first.
use Rattle.std.proofs.Common.{◌≡◌, ◌∙◌, ap, subst, ℕ, suc, ◌+◌, ◌-◌, ◌<◌, List, length, get_or, replicate, arith}
use Rattle.aplc_core.specs.CoreRuns.{CoreRoutine}
use Rattle.std.specs.Prelude.{Bool, nat_eq, ◌||◌}
use Rattle.aplc_names.specs.States.{is_among}
use Rattle.aplc_gen.specs.Emitted.{is_entry}
use Rattle.aplc_gen.specs.Flows.{AreLandings, HasBehind, Turns, landing_of, lines_turned, no_turns}
use Rattle.aplc_gen.proofs.Turning.{has_none, all_landed, entry_is}

module _ (f : CoreRoutine) (n : ℕ) where
  pub table_begins : (xs : List ℕ) → n ≡ length f.steps → xs ≡ replicate (n + 1) 0 → HasBehind f xs (length f.steps - 0)
  table_begins xs e is = let z : n ≡ length f.steps - 0 = omega (arith, e) in subst (HasBehind f xs) z (has_none f n xs is e)

  pub table_there : (xs : List ℕ) (behind : ℕ) → n ≡ length f.steps → behind < n → HasBehind f xs (length f.steps - behind) → HasBehind f xs (n - 1 - behind + 1)
  table_there xs behind e lt h = let z : length f.steps - behind ≡ n - 1 - behind + 1 = omega (arith, e, lt) in subst (HasBehind f xs) z h

  pub table_goes : (xs : List ℕ) (behind : ℕ) → n ≡ length f.steps → behind < n → HasBehind f xs (n - 1 - behind) → HasBehind f xs (length f.steps - (behind + 1))
  table_goes xs behind e lt h = let z : n - 1 - behind ≡ length f.steps - (behind + 1) = omega (arith, e, lt) in subst (HasBehind f xs) z h

  pub table_ends : (xs : List ℕ) → n ≡ length f.steps → HasBehind f xs (length f.steps - n) → get_or xs 0 0 ≡ 0 → AreLandings f xs
  table_ends xs e h none = let z : length f.steps - n ≡ 0 = omega (arith, e) in all_landed f xs none (subst (HasBehind f xs) z h)

pub table_first : (n : ℕ) (xs : List ℕ) → xs ≡ replicate (n + 1) 0 → get_or xs 0 0 ≡ 0
table_first n xs is = let one : n + 1 ≡ suc n = omega arith in ap (λ ys. get_or ys 0 0) (is ∙ ap (λ k. replicate k 0) one)

pub ruleset tables = (table_begins, table_there, table_goes, table_ends, table_first)

-- a line has an arm
pub entry_by : (f : CoreRoutine) (t : Turns) (l k : ℕ) (r : Bool) → t ≡ lines_turned f f.steps no_turns → k ≡ landing_of f 1 → r ≡ (nat_eq l k || (t.computed || is_among l t.lines)) → r ≡ is_entry f l
entry_by f t l k r e at is = is ∙ ap (λ j. nat_eq l j || (t.computed || is_among l t.lines)) at ∙ entry_is f t l e

-- The widest of some trees.
use Rattle.std.proofs.Common.{◌≡◌, ◌∙◌, sym, ap, ℕ, ◌+◌, ◌<◌, ◌≤◌, ◌^◌, List, [], length, drop, max, true, arith}
use Rattle.std.specs.Prelude.{unwrap_or}
use Rattle.aplc_core.specs.PlainSteps.{Term, Effect}
use Rattle.aplc_core.specs.CoreRuns.{steps_at}
use Rattle.aplc_gen.specs.Emitted.{width, steps_width, lines_width}
use Rattle.aplc_gen.specs.Writing.{fits_term, fits_tree}
use Rattle.aplc_gen.proofs.Adding.{and_left, and_right, le_of}
use Rattle.aplc_gen.proofs.Turning.{line_next, drop_all}

pub narrow : (slots : ℕ) (t : Term) → fits_tree slots t ≡ true → width t ≤ 2000
narrow slots t h = le_of (width t) 2000 (and_right (fits_term slots t) _ h)

pub room : (slots : ℕ) (t : Term) → fits_tree slots t ≡ true → width t < 2 ^ 32
room slots t h = let le = narrow slots t h in omega (arith, le)

pub ruleset step_fits = (narrow, room, and_left, and_right)

pub max_next : (m x r whole : ℕ) → max m (max x r) ≡ whole → max (max m x) r ≡ whole
max_next m x r whole h = grind (arith, h)

pub max_none : (m : ℕ) → max m 0 ≡ m
max_none m = grind arith

pub ruleset steps_left = (max_next, max_none, and_left, and_right)

pub one_line : (lines : List (List Effect)) (l m w : ℕ) (x : List Effect) (whole : ℕ) → l < length lines → x ≡ unwrap_or (steps_at lines (l + 1)) [] → w ≡ steps_width x → max m (lines_width (drop l lines)) ≡ whole → max (max m w) (lines_width (drop (l + 1) lines)) ≡ whole
one_line lines l m w x whole lt is e h =
    max_next m w (lines_width (drop (l + 1) lines)) whole
    (ap (λ k. max m (max k (lines_width (drop (l + 1) lines)))) e ∙ sym (ap (λ xs. max m (lines_width xs)) (line_next l lines x lt is)) ∙ h)

pub no_line : (lines : List (List Effect)) (l m whole : ℕ) → length lines ≤ l → max m (lines_width (drop l lines)) ≡ whole → m ≡ whole
no_line lines l m whole le h = sym (max_none m) ∙ sym (ap (λ xs. max m (lines_width xs)) (drop_all l lines le)) ∙ h

pub ruleset lines_left = (one_line, no_line)

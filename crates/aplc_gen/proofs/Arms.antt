-- What is added for the lines of a segment and for arms, line by line.
use Rattle.std.proofs.Common.{◌≡◌, ◌∙◌, sym, ap, subst, refl, ℕ, zero, suc, ◌+◌, ◌<◌, ◌≤◌, List, [], ◌∷◌, ◌++◌, length, drop, append_assoc, append-nil, arith, Bool, true, false, ◌&&◌, pos}
use Rattle.std.specs.Prelude.{unwrap_or, slice_get, max, if◌then◌else◌}
use Rattle.std.proofs.Math.Nat.{le-max_left, le-max_right}
use Rattle.std.specs.Option.{option_to_list}
use Rattle.std.proofs.lemmas.List.{same_from_push}
use Rattle.aplc_cprof.specs.declared.syntax.CExpr.{CExpr}
use Rattle.aplc_cprof.specs.declared.syntax.CStmt.{CStmt}
use Rattle.aplc_cprof.specs.declared.syntax.CStmt.TheVariants as stmt
use Rattle.aplc_cprof.specs.declared.syntax.Arm.{Arm}
use Rattle.aplc_cprof.specs.Blocks.{Blocks}
use Rattle.aplc_cprof.specs.Emitted.{Grown}
use Rattle.aplc_cprof.proofs.Emitted.{grown_none, grown_then}
use Rattle.aplc_core.specs.PlainSteps.{Effect}
use Rattle.aplc_core.specs.CoreRuns.{steps_at}
use Rattle.aplc_gen.specs.Layouts.{Site, the_routine}
use Rattle.aplc_gen.specs.Emitted.{Lead, steps_width, lines_width, branches, go_to, is_entry, leave_code, known_through, first_known, entry_known, is_line_test, lead_at, lead_code, landing}
use Rattle.aplc_gen.specs.Codes.{whole_line, Either, AreLines, IsArm, AreArms}
use Rattle.aplc_gen.specs.Writing.{Spot, site_of, added, fits_steps, fits_lines}
use Rattle.aplc_gen.specs.Added.{Lined, AddsLine, AddsLines, AddsArm, IsSegment, IsLineArm, HasArms}
use Rattle.aplc_gen.specs.Flows.{is_blank, landing_of}
use Rattle.aplc_gen.proofs.Adding.{added_grown, and_left, and_right}
use Rattle.aplc_gen.proofs.LineMaps.{lined_more, lines_less, arm_less}
use Rattle.aplc_gen.proofs.Turning.{line_next, drop_all}

-- how many lines there are, and the steps of one, where the site is the flow's
pub count_at : (s t : Spot) (n : ℕ) → s ≡ t → n ≡ length (the_routine (site_of s)).steps → n ≡ length (the_routine (site_of t)).steps
count_at s t n e h = h ∙ ap (λ (r : Spot). length (the_routine (site_of r)).steps) e

pub line_at : (s t : Spot) (l : ℕ) (x : List Effect) → s ≡ t → x ≡ unwrap_or (steps_at (the_routine (site_of s)).steps l) [] → x ≡ unwrap_or (steps_at (the_routine (site_of t)).steps l) []
line_at s t l x e h = h ∙ ap (λ (r : Spot). unwrap_or (steps_at (the_routine (site_of r)).steps l) []) e

either_left : (b : Bool) (A B : Type 0) → b ≡ true → A → Either b A B
either_left true A B e h = h
either_left false A B e h = absurd (cc)

either_right : (b : Bool) (A B : Type 0) → b ≡ false → B → Either b A B
either_right true A B e h = absurd (cc)
either_right false A B e h = h

-- ---- Lines

module _ (g : Site) where
  abbrev lines : List (List Effect)
  lines = (the_routine g).steps

  -- what is added for the lines from number l + 1 on
  abbrev pub Rest : List ℕ → Bool → ℕ → Blocks → Blocks → Type 0
  Rest known through l = AddsLines g known through (l + 1) (drop l lines)

  rest_next : (known : List ℕ) (through : Bool) (l : ℕ) (x : List Effect) (b new : Blocks) → l < length lines → x ≡ unwrap_or (steps_at lines (l + 1)) [] → AddsLines g known through (l + 1) (x ∷ drop (l + 1) lines) b new → Rest known through l b new
  rest_next known through l x b new lt is h = subst (λ xs. AddsLines g known through (l + 1) xs b new) (sym (line_next l lines x lt is)) h

  pub blank_over : (known : List ℕ) (through : Bool) (l : ℕ) (x : List Effect) (b new : Blocks) → l < length lines → x ≡ unwrap_or (steps_at lines (l + 1)) [] → is_blank x ≡ true → Rest known through (l + 1) b new → Rest known through l b new
  blank_over known through l [] b new lt is t h = rest_next known through l [] b new lt is (record { code = h.code; grown = h.grown; lines = h.lines })
  blank_over known through l (y ∷ ys) b new lt is t h = absurd (cc)

  -- what is asked of the code of a line and of those behind it
  abbrev Own : List ℕ → ℕ → List Effect → Blocks → List CStmt → Type 0
  Own known l x new code =
      (mine : List CStmt) × (rest : List CStmt) × (code ≡ whole_line g (l + 1) x mine ++ rest) × Lined g new known (l + 1) x mine × Either (branches x) (rest ≡ []) (AreLines (Lined g new) g (known_through known x) true (l + 1 + 1) (drop (l + 1) lines) rest)

  pub goes_to : (known : List ℕ) (through : Bool) (l : ℕ) (x : List Effect) (b b' : Blocks) → l < length lines → x ≡ unwrap_or (steps_at lines (l + 1)) [] → is_blank x ≡ false → (through && is_entry (the_routine g) (l + 1)) ≡ true → b' ≡ added (go_to g (l + 1)) b → Rest known through l b b'
  goes_to known through l [] b b' lt is f t e = absurd (cc)
  goes_to known through l (y ∷ ys) b b' lt is f t e = rest_next known through l (y ∷ ys) b b' lt is (record {
    code = go_to g (l + 1);
    grown = added_grown (go_to g (l + 1)) b b' e;
    lines = either_left (through && is_entry (the_routine g) (l + 1)) (go_to g (l + 1) ≡ go_to g (l + 1)) (Own known l (y ∷ ys) b' (go_to g (l + 1))) t refl;
  })

  -- the code of a line, and what is added behind it
  stays : (known : List ℕ) (through : Bool) (l : ℕ) (x : List Effect) (b new : Blocks) (code : List CStmt) → l < length lines → x ≡ unwrap_or (steps_at lines (l + 1)) [] → is_blank x ≡ false → (through && is_entry (the_routine g) (l + 1)) ≡ false → Grown code b new → Own known l x new code → Rest known through l b new
  stays known through l [] b new code lt is f t grown own = absurd (cc)
  stays known through l (y ∷ ys) b new code lt is f t grown own = rest_next known through l (y ∷ ys) b new lt is (record {
    code = code;
    grown = grown;
    lines = either_right (through && is_entry (the_routine g) (l + 1)) (code ≡ go_to g (l + 1)) (Own known l (y ∷ ys) new code) t own;
  })

  pub line_ends : (known : List ℕ) (through : Bool) (l : ℕ) (x : List Effect) (b b' : Blocks) → l < length lines → x ≡ unwrap_or (steps_at lines (l + 1)) [] → is_blank x ≡ false → (through && is_entry (the_routine g) (l + 1)) ≡ false → AddsLine g known (l + 1) x b b' → branches x ≡ true → Rest known through l b b'
  line_ends known through l x b b' lt is f t a br =
      let whole = whole_line g (l + 1) x a.code in
      let none : List CStmt = [] in
      stays known through l x b b' whole lt is f t a.grown
      (a.code, none, sym (append-nil whole), a.line, either_left (branches x) (none ≡ []) (AreLines (Lined g b') g (known_through known x) true (l + 1 + 1) (drop (l + 1) lines) none) br refl)

  pub line_goes : (known known' : List ℕ) (through : Bool) (l : ℕ) (x : List Effect) (b b' new : Blocks) → l < length lines → x ≡ unwrap_or (steps_at lines (l + 1)) [] → is_blank x ≡ false → (through && is_entry (the_routine g) (l + 1)) ≡ false → AddsLine g known (l + 1) x b b' → branches x ≡ false → known' ≡ known_through known x → Rest known' true (l + 1) b' new → Rest known through l b new
  line_goes known known' through l x b b' new lt is f t a br k h =
      let whole = whole_line g (l + 1) x a.code in
      let later : AreLines (Lined g new) g (known_through known x) true (l + 1 + 1) (drop (l + 1) lines) h.code = subst (λ ks. AreLines (Lined g new) g ks true (l + 1 + 1) (drop (l + 1) lines) h.code) k h.lines in
      stays known through l x b new (whole ++ h.code) lt is f t (grown_then whole h.code b b' new a.grown h.grown) (
        a.code,
        h.code,
        refl,
        lined_more g b' new h.grown.ints h.grown.bufs known (l + 1) x a.code a.line,
        either_right (branches x) (h.code ≡ []) (AreLines (Lined g new) g (known_through known x) true (l + 1 + 1) (drop (l + 1) lines) h.code) br later,
      )

  pub lines_over : (known : List ℕ) (through : Bool) (l : ℕ) (b b' : Blocks) → length lines ≤ l → b' ≡ added (leave_code g) b → Rest known through l b b'
  lines_over known through l b b' le e = subst (λ xs. AddsLines g known through (l + 1) xs b b') (sym (drop_all l lines le)) (record { code = leave_code g; grown = added_grown (leave_code g) b b' e; lines = refl })

-- a line of which the lines fit
pub line_fits : (slots l : ℕ) (xs : List (List Effect)) (x : List Effect) → fits_lines slots xs ≡ true → l < length xs → x ≡ unwrap_or (slice_get xs l) [] → fits_steps slots x ≡ true
line_fits slots l [] x h lt is = absurd (omega (arith, lt))
line_fits slots zero (y ∷ ys) x h lt is = ap (fits_steps slots) is ∙ and_left (fits_steps slots y) (fits_lines slots ys) h
line_fits slots (suc l) (y ∷ ys) x h lt is = line_fits slots l ys x (and_right (fits_steps slots y) (fits_lines slots ys) h) (omega (arith, lt)) is

pub number_fits : (slots l : ℕ) (xs : List (List Effect)) (x : List Effect) → fits_lines slots xs ≡ true → l < length xs → x ≡ unwrap_or (steps_at xs (l + 1)) [] → fits_steps slots x ≡ true
number_fits slots l xs x h lt is = let e : l + 1 ≡ suc l = omega arith in line_fits slots l xs x h lt (is ∙ ap (λ k. unwrap_or (steps_at xs k) []) e)

-- the widest line is as wide as each
pub width_at : (l : ℕ) (xs : List (List Effect)) (x : List Effect) → l < length xs → x ≡ unwrap_or (steps_at xs (l + 1)) [] → steps_width x ≤ lines_width xs
width_at l xs x lt is = let e : l + 1 ≡ suc l = omega arith in at l xs x lt (is ∙ ap (λ k. unwrap_or (steps_at xs k) []) e)
  where
    at : (l : ℕ) (xs : List (List Effect)) (x : List Effect) → l < length xs → x ≡ unwrap_or (slice_get xs l) [] → steps_width x ≤ lines_width xs
    at l [] x lt is = absurd (omega (arith, lt))
    at zero (y ∷ ys) x lt is = subst (λ z. steps_width z ≤ max (steps_width y) (lines_width ys)) (sym is) (le-max_left (steps_width y) (lines_width ys))
    at (suc l) (y ∷ ys) x lt is =
        let h = at l ys x (omega (arith, lt)) is in
        let k = le-max_right (steps_width y) (lines_width ys) in
        omega (arith, h, k)

-- ---- What is known

pub known_at_first : (g : Site) (none right left : List ℕ) → g.first ≡ false → none ≡ [] → right ≡ option_to_list (the_routine g).header.right ++ none → left ≡ option_to_list (the_routine g).header.left ++ right → left ≡ first_known g
known_at_first g none right left f e r l =
    l ∙ ap (λ xs. option_to_list (the_routine g).header.left ++ xs) (r ∙ ap (λ xs. option_to_list (the_routine g).header.right ++ xs) e ∙ append-nil (option_to_list (the_routine g).header.right))
    ∙ ap (λ b. if b then [] else option_to_list (the_routine g).header.left ++ option_to_list (the_routine g).header.right) (sym f)

pub known_at_begin : (g : Site) (ks : List ℕ) → g.first ≡ true → ks ≡ [] → ks ≡ first_known g
known_at_begin g ks f e = e ∙ ap (λ b. if b then [] else option_to_list (the_routine g).header.left ++ option_to_list (the_routine g).header.right) (sym f)

pub ruleset known_first = (known_at_first, known_at_begin)

-- ---- Blocks

-- a block is open
pub is_open : (b b1 b2 : Blocks) (code : List CStmt) → b1 ≡ record b { outer = b.outer ++ b.inner ∷ []; inner = [] } → Grown code b1 b2 → 0 < length b2.outer
is_open b b1 b2 code e h = subst (λ (l : List (List CStmt)). 0 < length l) (sym (h.outer ∙ ap (λ (x : Blocks). x.outer) e)) (some b.outer b.inner)
  where
    some : (xs : List (List CStmt)) (x : List CStmt) → 0 < length (xs ++ x ∷ [])
    some [] x = omega arith
    some (y ∷ xs) x = omega arith

-- what was added within a block that was closed: no code, but its names
pub block_over : (code block : List CStmt) (b b1 b2 b3 : Blocks) → b1 ≡ record b { outer = b.outer ++ b.inner ∷ []; inner = [] } → Grown code b1 b2 → block ≡ b2.inner → b2.outer ≡ b3.outer ++ b3.inner ∷ [] → (b3.ints ≡ b2.ints) × (b3.bufs ≡ b2.bufs) → (block ≡ code) × Grown [] b b3
block_over code block b b1 b2 b3 e h is round names =
    let same = same_from_push b.outer b3.outer b.inner b3.inner (sym (ap (λ (x : Blocks). x.outer) e) ∙ sym h.outer ∙ round) in
    let i1 : b1.ints ≡ b.ints = ap (λ (x : Blocks). x.ints) e in
    let j1 : b1.bufs ≡ b.bufs = ap (λ (x : Blocks). x.bufs) e in
    let i2 = h.ints in
    let j2 = h.bufs in
    let i3 = names.0 in
    let j3 = names.1 in (
      is ∙ h.inner ∙ ap (λ (x : Blocks). x.inner ++ code) e,
      record {
        inner = sym same.1 ∙ sym (append-nil b.inner);
        outer = sym same.0;
        ints = omega (arith, i1, i2, i3);
        bufs = omega (arith, j1, j2, j3);
      },
    )

-- ---- Arms

pub segment_is : (g : Site) (l : ℕ) (xs : List (List Effect)) (known : List ℕ) (test : CExpr) (block : List CStmt) (b b1 b2 b3 : Blocks) → known ≡ entry_known g l → test ≡ is_line_test g l → b1 ≡ record b { outer = b.outer ++ b.inner ∷ []; inner = [] } → AddsLines g known false l xs b1 b2 → block ≡ b2.inner → b2.outer ≡ b3.outer ++ b3.inner ∷ [] → (b3.ints ≡ b2.ints) × (b3.bufs ≡ b2.bufs) → IsSegment g l xs b b3 (stmt.While test block)
segment_is g l xs known test block b b1 b2 b3 k t e h is round names =
    let over = block_over h.code block b b1 b2 b3 e h.grown is round names in
    let i = names.0 in
    let j = names.1 in
    record {
      grown = over.1;
      body = h.code;
      is = ap (λ (x : CExpr). stmt.While x block) t ∙ ap (λ (c : List CStmt). stmt.While (is_line_test g l) c) over.0;
      lines = lines_less (Lined g b2) (Lined g b3) g (lined_more g b2 b3 (omega (arith, i)) (omega (arith, j))) (entry_known g l) false l xs h.code (subst (λ ks. AreLines (Lined g b2) g ks false l xs h.code) k h.lines);
    }

pub line_arm_is : (g : Site) (l : ℕ) (xs : List (List Effect)) (block : List CStmt) (a : Arm) (b b1 b2 b3 : Blocks) → b1 ≡ record b { outer = b.outer ++ b.inner ∷ []; inner = [] } → AddsArm g l xs b1 b2 → block ≡ b2.inner → b2.outer ≡ b3.outer ++ b3.inner ∷ [] → (b3.ints ≡ b2.ints) × (b3.bufs ≡ b2.bufs) → a ≡ record { value = pos l; body = block } → IsLineArm g l xs b b3 a
line_arm_is g l xs block a b b1 b2 b3 e h is round names made =
    let over = block_over h.code block b b1 b2 b3 e h.grown is round names in
    let i = names.0 in
    let j = names.1 in
    record {
      grown = over.1;
      body = h.code;
      is = made ∙ ap (λ (c : List CStmt). arm_of c) over.0;
      arm = arm_less (Lined g b2) (Lined g b3) g (lined_more g b2 b3 (omega (arith, i)) (omega (arith, j))) l xs h.code h.arm;
    }
  where
    arm_of : List CStmt → Arm
    arm_of c = record { value = pos l; body = c }

module _ (g : Site) where
  abbrev steps_there : List (List Effect)
  steps_there = (the_routine g).steps

  landing_next : (l : ℕ) → landing_of (the_routine g) (l + 2) ≡ landing (l + 1 + 1) (drop (l + 1) steps_there)
  landing_next l =
      let e : l + 2 ≡ suc (l + 1) = omega arith in
      let f : suc (l + 1) ≡ l + 1 + 1 = omega arith in
      ap (landing_of (the_routine g)) e ∙ ap (λ k. landing k (drop (l + 1) steps_there)) f

  pub blank_arm : (l : ℕ) (x : List Effect) (b b' : Blocks) (lead : Lead) → l < length steps_there → x ≡ unwrap_or (steps_at steps_there (l + 1)) [] → is_blank x ≡ true → lead ≡ lead_at (landing_of (the_routine g) (l + 2)) → b' ≡ added (lead_code g lead) b → AddsArm g (l + 1) (drop l steps_there) b b'
  blank_arm l [] b b' lead lt is t at e =
      let there = lead_at (landing (l + 1 + 1) (drop (l + 1) steps_there)) in
      subst (λ xs. AddsArm g (l + 1) xs b b') (sym (line_next l steps_there [] lt is))
      (record { code = lead_code g there; grown = added_grown (lead_code g there) b b' (e ∙ ap (λ k. added (lead_code g k) b) (at ∙ ap lead_at (landing_next l))); arm = refl })
  blank_arm l (y ∷ ys) b b' lead lt is t at e = absurd (cc)

  pub full_arm : (l : ℕ) (x : List Effect) (s : CStmt) (b b1 b' : Blocks) → l < length steps_there → x ≡ unwrap_or (steps_at steps_there (l + 1)) [] → is_blank x ≡ false → IsSegment g (l + 1) (drop l steps_there) b b1 s → b' ≡ added (s ∷ []) b1 → AddsArm g (l + 1) (drop l steps_there) b b'
  full_arm l [] s b b1 b' lt is f h e = absurd (cc)
  full_arm l (y ∷ ys) s b b1 b' lt is f h e =
      let same = line_next l steps_there (y ∷ ys) lt is in
      let own = subst (λ xs. IsSegment g (l + 1) xs b b1 s) same h in
      let more = added_grown (s ∷ []) b1 b' e in
      subst (λ xs. AddsArm g (l + 1) xs b b') (sym same)
      (record {
        code = s ∷ [];
        grown = grown_then [] (s ∷ []) b b1 b' own.grown more;
        arm = (
          own.body,
          ap (λ (c : CStmt). c ∷ []) own.is,
          lines_less (Lined g b1) (Lined g b') g (lined_more g b1 b' more.ints more.bufs) (entry_known g (l + 1)) false (l + 1) ((y ∷ ys) ∷ drop (l + 1) steps_there) own.body own.lines,
        );
      })

  -- The arms that there are, with those of the lines from number l + 1 on, are those of all lines.
  abbrev pub ArmsLeft : Blocks → ℕ → List Arm → Blocks → Type 0
  ArmsLeft first l before b = (new : Blocks) (later : List Arm) → HasArms g (l + 1) (drop l steps_there) b new later → HasArms g 1 steps_there first new (before ++ later)

  -- what is asked of the arms of the lines from number l + 1 on, where that line has one
  abbrev Entry : ℕ → List Effect → Blocks → List Arm → Type 0
  Entry l x new all = (body : List CStmt) × (rest : List Arm) × (all ≡ record { value = pos (l + 1); body = body } ∷ rest) × IsArm (Lined g new) g (l + 1) (x ∷ drop (l + 1) steps_there) body × AreArms (Lined g new) g (l + 1 + 1) (drop (l + 1) steps_there) rest

  abbrev Others : ℕ → Blocks → List Arm → Type 0
  Others l new all = AreArms (Lined g new) g (l + 1 + 1) (drop (l + 1) steps_there) all

  arm_before : (l : ℕ) (a : Arm) (later : List Arm) (b b' new : Blocks) → l < length steps_there → is_entry (the_routine g) (l + 1) ≡ true → IsLineArm g (l + 1) (drop l steps_there) b b' a → HasArms g (l + 1 + 1) (drop (l + 1) steps_there) b' new later → HasArms g (l + 1) (drop l steps_there) b new (a ∷ later)
  arm_before l a later b b' new lt entry arm h =
      let x = unwrap_or (steps_at steps_there (l + 1)) [] in
      let same = line_next l steps_there x lt refl in
      let own = subst (λ xs. IsLineArm g (l + 1) xs b b' a) same arm in
      subst (λ xs. HasArms g (l + 1) xs b new (a ∷ later)) (sym same)
      (record {
        grown = grown_then [] [] b b' new own.grown h.grown;
        arms = either_left (is_entry (the_routine g) (l + 1)) (Entry l x new (a ∷ later)) (Others l new (a ∷ later)) entry (
          own.body,
          later,
          ap (λ (z : Arm). z ∷ later) own.is,
          arm_less (Lined g b') (Lined g new) g (lined_more g b' new h.grown.ints h.grown.bufs) (l + 1) (x ∷ drop (l + 1) steps_there) own.body own.arm,
          h.arms,
        );
      })

  pub arm_added : (l : ℕ) (first b b' : Blocks) (before after : List Arm) (a : Arm) → l < length steps_there → is_entry (the_routine g) (l + 1) ≡ true → IsLineArm g (l + 1) (drop l steps_there) b b' a → after ≡ before ++ a ∷ [] → ArmsLeft first l before b → ArmsLeft first (l + 1) after b'
  arm_added l first b b' before after a lt entry arm pushed left new later h =
      subst (λ (all : List Arm). HasArms g 1 steps_there first new all) (sym (ap (λ (xs : List Arm). xs ++ later) pushed ∙ append_assoc before (a ∷ []) later))
      (left new (a ∷ later) (arm_before l a later b b' new lt entry arm h))

  pub arm_left_out : (l : ℕ) (first b : Blocks) (before : List Arm) → l < length steps_there → is_entry (the_routine g) (l + 1) ≡ false → ArmsLeft first l before b → ArmsLeft first (l + 1) before b
  arm_left_out l first b before lt entry left new later h =
      let x = unwrap_or (steps_at steps_there (l + 1)) [] in
      let same = line_next l steps_there x lt refl in
      left new later
      (subst (λ xs. HasArms g (l + 1) xs b new later) (sym same) (record { grown = h.grown; arms = either_right (is_entry (the_routine g) (l + 1)) (Entry l x new later) (Others l new later) entry h.arms }))

  pub arms_over : (l : ℕ) (first b : Blocks) (before : List Arm) → length steps_there ≤ l → ArmsLeft first l before b → HasArms g 1 steps_there first b before
  arms_over l first b before le left =
      subst (λ (all : List Arm). HasArms g 1 steps_there first b all) (append-nil before)
      (left b [] (subst (λ xs. HasArms g (l + 1) xs b b []) (sym (drop_all l steps_there le)) (record { grown = grown_none b; arms = refl })))

-- no arm is there yet
pub arms_begin : (g : Site) (b : Blocks) (none : List Arm) → none ≡ [] → ArmsLeft g b 0 none b
arms_begin g b none e new later h = subst (λ (xs : List Arm). HasArms g 1 (the_routine g).steps b new (xs ++ later)) (sym e) h

pub ruleset segment_lines = (number_fits, width_at)

-- What is added for a function: the loop over its lines, the way in, its variables.
use Rattle.std.proofs.Common.{◌≡◌, ◌∙◌, sym, ap, subst, refl, ℕ, ◌+◌, ◌<◌, ◌≤◌, List, [], ◌∷◌, ◌++◌, arith, Bool, true, false, pos}
use Rattle.std.specs.Prelude.{◌^◌}
use Rattle.aplc_cprof.specs.declared.syntax.Int.TheVariants as int
use Rattle.aplc_cprof.specs.declared.syntax.CExpr.TheVariants as expr
use Rattle.aplc_cprof.specs.declared.syntax.CFunction.{CFunction}
use Rattle.aplc_cprof.specs.declared.syntax.CStmt.{CStmt}
use Rattle.aplc_cprof.specs.declared.syntax.CStmt.TheVariants as stmt
use Rattle.aplc_cprof.specs.declared.syntax.Arm.{Arm}
use Rattle.aplc_cprof.specs.Blocks.{Blocks, no_blocks}
use Rattle.aplc_cprof.specs.Emitted.{Grown}
use Rattle.aplc_cprof.proofs.Emitted.{grown_then}
use Rattle.aplc_gen.specs.Layouts.{Site, the_routine, line_place, base}
use Rattle.aplc_gen.specs.Emitted.{lines_width, first_known, first_line, lines_loop, go_to, leave_code, enter_code}
use Rattle.aplc_gen.specs.Codes.{IsLine, AreLines, AreArms, turn_code, IsRun, IsBody, IsFunction}
use Rattle.aplc_gen.specs.Writing.{Spot, site_of, added}
use Rattle.aplc_gen.specs.Added.{Lined, AddsLines, HasArms, AddsLoop, AddsRun, AddsBody}
use Rattle.aplc_gen.proofs.Adding.{added_grown}

-- ---- The lines

pub loop_is : (g : Site) (place : ℕ) (all : List Arm) (out turn : List CStmt) (b b1 b2 b3 : Blocks) → HasArms g 1 (the_routine g).steps b b1 all → out ≡ leave_code g → b2 ≡ b1 → place ≡ line_place g → turn ≡ stmt.Switch (int.Local place) all out ∷ [] → b3 ≡ added (stmt.While (expr.Lit (pos 1)) turn ∷ []) b2 → AddsLoop g b b3
loop_is g place all out turn b b1 b2 b3 h o same at t e =
    let is : stmt.While (expr.Lit (pos 1)) turn ≡ turn_code g all = ap (λ (c : List CStmt). stmt.While (expr.Lit (pos 1)) c) (t ∙ ap (λ k. stmt.Switch (int.Local k) all out ∷ []) at ∙ ap (λ (c : List CStmt). stmt.Switch (int.Local (line_place g)) all c ∷ []) o) in
    let e1 : b3 ≡ added (turn_code g all ∷ []) b1 = e ∙ ap (λ (x : Blocks). added (stmt.While (expr.Lit (pos 1)) turn ∷ []) x) same ∙ ap (λ (s : CStmt). added (s ∷ []) b1) is in
    let more = added_grown (turn_code g all ∷ []) b1 b3 e1 in
    let i : b3.ints ≡ b1.ints = ap (λ (x : Blocks). x.ints) e1 in
    let j : b3.bufs ≡ b1.bufs = ap (λ (x : Blocks). x.bufs) e1 in
    record {
      all = all;
      grown = grown_then [] (turn_code g all ∷ []) b b1 b3 h.grown more;
      arms = subst (λ k. AreArms (IsLine g k b3.bufs) g 1 (the_routine g).steps all) (sym i) (subst (λ k. AreArms (IsLine g b1.ints k) g 1 (the_routine g).steps all) (sym j) h.arms);
    }

run_by : (g : Site) (t : Bool) (code : List CStmt) (b b' : Blocks) → t ≡ lines_loop (the_routine g) (the_routine g).steps → Grown code b b' → IsRun (Lined g b') g t code → AddsRun g b b'
run_by g t code b b' is grown run = record { code = code; grown = grown; run = subst (λ u. IsRun (Lined g b') g u code) is run }

pub run_loops : (g : Site) (first : ℕ) (t : Bool) (b b1 b2 : Blocks) → t ≡ lines_loop (the_routine g) (the_routine g).steps → t ≡ true → first ≡ first_line (the_routine g) → b1 ≡ added (go_to g first) b → AddsLoop g b1 b2 → AddsRun g b b2
run_loops g first t b b1 b2 is loops at e h =
    let e1 = e ∙ ap (λ k. added (go_to g k) b) at in
    let head = go_to g (first_line (the_routine g)) in
    run_by g true (head ++ turn_code g h.all ∷ []) b b2 (sym loops ∙ is)
    (grown_then head (turn_code g h.all ∷ []) b b1 b2 (added_grown head b b1 e1) h.grown) (h.all, refl, h.arms)

pub run_straight : (g : Site) (known : List ℕ) (t : Bool) (b b1 : Blocks) → t ≡ lines_loop (the_routine g) (the_routine g).steps → t ≡ false → known ≡ first_known g → AddsLines g known false 1 (the_routine g).steps b b1 → AddsRun g b b1
run_straight g known t b b1 is no_loop at h =
    run_by g false h.code b b1 (sym no_loop ∙ is) h.grown (subst (λ ks. AreLines (Lined g b1) g ks false 1 (the_routine g).steps h.code) at h.lines)

-- ---- Functions

pub body_is : (g : Site) (b b1 b2 : Blocks) → b1 ≡ added (enter_code g) b → AddsRun g b1 b2 → AddsBody g b b2
body_is g b b1 b2 e h = record { code = enter_code g ++ h.code; grown = grown_then (enter_code g) h.code b b1 b2 (added_grown (enter_code g) b b1 e) h.grown; body = (h.code, refl, h.run) }

-- the variables that are given before the body is written, where the site is the flow's
pub given_first : (s t : Spot) (k w : ℕ) → s ≡ t → k ≡ base (site_of s) → w ≡ lines_width (the_routine (site_of s)).steps → k + w ≡ base (site_of t) + lines_width (the_routine (site_of t)).steps
given_first s t k w e is wide =
    let i : k ≡ base (site_of t) = is ∙ ap (λ (r : Spot). base (site_of r)) e in
    let j : w ≡ lines_width (the_routine (site_of t)).steps = wide ∙ ap (λ (r : Spot). lines_width (the_routine (site_of r)).steps) e in
    omega (arith, i, j)

pub room_there : (b0 b1 : Blocks) (n wide : ℕ) → b1 ≡ record b0 { ints = b0.ints + n } → n ≡ wide → wide ≤ b1.ints
room_there b0 b1 n wide e is =
    let i : b1.ints ≡ b0.ints + n = ap (λ (x : Blocks). x.ints) e in
    omega (arith, i, is)

-- nothing is left open
pub no_outer : (g : Site) (b0 b1 b2 : Blocks) (n : ℕ) → b0 ≡ no_blocks → b1 ≡ record b0 { ints = b0.ints + n } → AddsBody g b1 b2 → b2.outer ≡ []
no_outer g b0 b1 b2 n none e h = h.grown.outer ∙ ap (λ (x : Blocks). x.outer) e ∙ ap (λ (x : Blocks). x.outer) none

pub function_is : (g : Site) (b0 b1 b2 : Blocks) (n : ℕ) (f : CFunction) → b0 ≡ no_blocks → b1 ≡ record b0 { ints = b0.ints + n } → n ≡ base g + lines_width (the_routine g).steps → AddsBody g b1 b2 → f ≡ record { ints = b2.ints; bufs = b2.bufs; body = b2.inner } → (f.ints < 2 ^ 32) × (f.bufs < 2 ^ 32) → IsFunction g f
function_is g b0 b1 b2 n f none e wide h is few =
    let i : b1.ints ≡ b0.ints + n = ap (λ (x : Blocks). x.ints) e in
    let more = h.grown.ints in
    let code : h.code ≡ b2.inner = sym (h.grown.inner ∙ ap (λ (x : Blocks). x.inner ++ h.code) e ∙ ap (λ (x : Blocks). x.inner ++ h.code) none) in
    let ints : b2.ints < 2 ^ 32 = subst (λ (x : CFunction). x.ints < 2 ^ 32) is few.0 in
    let bufs : b2.bufs < 2 ^ 32 = subst (λ (x : CFunction). x.bufs < 2 ^ 32) is few.1 in
    subst (λ (x : CFunction). IsFunction g x) (sym is)
    (record {
      enough = omega (arith, i, more, wide);
      ints = ints;
      bufs = bufs;
      body = subst (λ (c : List CStmt). IsBody (Lined g b2) g c) code h.body;
    })

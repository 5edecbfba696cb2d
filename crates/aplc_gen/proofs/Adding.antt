-- Statements that are added to the innermost block.
use Rattle.std.proofs.Common.{◌≡◌, ◌∙◌, ap, sym, refl, ℕ, length, List, [], ◌∷◌, ◌++◌, append_assoc, append-nil, Bool, true, false, Option, ◌+◌, ◌<◌, ◌≤◌, ◌^◌, nat_le, ◌&&◌, arith}
use Rattle.std.proofs.lemmas.Bool.Decides.{nat_tests}
use Rattle.aplc_cprof.specs.declared.syntax.CStmt.{CStmt}
use Rattle.aplc_cprof.specs.declared.syntax.CStmt.TheVariants as stmt
use Rattle.aplc_cprof.specs.Blocks.{Blocks}
use Rattle.aplc_cprof.specs.Emitted.{Grown}
use Rattle.aplc_gen.specs.Layouts.{Site, the_frame, frame_of, routine_at, the_routine, function_place, left_passed, right_passed}
use Rattle.aplc_gen.specs.Emitted.{count_up, clear_code, take_code, enter_by, pass_code, got_code, is_giving, call_code, result_code, count_down, leave_by, leave_code}
use Rattle.aplc_gen.specs.Writing.{added, fits_term, fits_tree}
use Rattle.aplc_gen.specs.Emitted.{width}
use Rattle.aplc_core.specs.PlainSteps.{Term}

pub nothing_added : (b : Blocks) → b ≡ added [] b
nothing_added b = ap (λ (l : List CStmt). record b { inner = l }) (sym (append-nil b.inner))

pub added_twice : (x y : List CStmt) (b : Blocks) → added y (added x b) ≡ added (x ++ y) b
added_twice x y b = ap (λ (l : List CStmt). record b { inner = l }) (append_assoc b.inner x y)

pub added_after : (x y : List CStmt) (b b1 b2 : Blocks) → b1 ≡ added x b → b2 ≡ added y b1 → b2 ≡ added (x ++ y) b
added_after x y b b1 b2 e f = f ∙ ap (added y) e ∙ added_twice x y b

pub added_grown : (code : List CStmt) (a b : Blocks) → b ≡ added code a → Grown code a b
added_grown code a b e =
    let i : b.ints ≡ a.ints = ap (λ (x : Blocks). x.ints) e in
    let j : b.bufs ≡ a.bufs = ap (λ (x : Blocks). x.bufs) e in
    record { inner = ap (λ (x : Blocks). x.inner) e; outer = ap (λ (x : Blocks). x.outer) e; ints = omega (arith, i); bufs = omega (arith, j) }

-- ---- Calls

pub call_added : (g : Site) (j : ℕ) (a c r : Option ℕ) (sure : Bool) (b b1 b2 b3 b4 : Blocks) → b1 ≡ added (pass_code g left_passed a) b → b2 ≡ added (pass_code g right_passed c) b1 → b3 ≡ record b2 { inner = b2.inner ++ stmt.Call (function_place g.layout j) ∷ [] } → sure ≡ is_giving (frame_of g.layout j).sure (routine_at g.program j).header.result → b4 ≡ added (got_code g sure r) b3 → b4 ≡ added (call_code g j a c r) b
call_added g j a c r sure b b1 b2 b3 b4 e1 e2 e3 es e4 =
    let call : List CStmt = stmt.Call (function_place g.layout j) ∷ [] in
    let got = got_code g (is_giving (frame_of g.layout j).sure (routine_at g.program j).header.result) r in
    added_after (pass_code g left_passed a) (pass_code g right_passed c ++ (call ++ got)) b b1 b4 e1
    (added_after (pass_code g right_passed c) (call ++ got) b1 b2 b4 e2
    (added_after call got b2 b3 b4 e3 (e4 ∙ ap (λ s. added (got_code g s r) b3) es)))

pub leave_added : (g : Site) (b b1 b2 b3 b4 : Blocks) → g.first ≡ false → b1 ≡ added (result_code g (the_routine g).header.result) b → b2 ≡ added (count_down g.layout.counted) b1 → b3 ≡ record b2 { inner = b2.inner ++ stmt.Leave ∷ [] } → b4 ≡ record b3 { inner = b3.inner ++ stmt.Return ∷ [] } → b4 ≡ added (leave_code g) b
leave_added g b b1 b2 b3 b4 called e1 e2 e3 e4 =
    added_after (result_code g (the_routine g).header.result) (count_down g.layout.counted ++ stmt.Leave ∷ stmt.Return ∷ []) b b1 b4 e1
    (added_after (count_down g.layout.counted) (stmt.Leave ∷ stmt.Return ∷ []) b1 b2 b4 e2
    (added_after (stmt.Leave ∷ []) (stmt.Return ∷ []) b2 b3 b4 e3 e4))
    ∙ ap (λ t. added (leave_by g t) b) (sym called)

-- ---- What is asked of trees

pub and_left : (a b : Bool) → (a && b) ≡ true → a ≡ true
and_left true b h = refl
and_left false b h = h

pub and_right : (a b : Bool) → (a && b) ≡ true → b ≡ true
and_right true b h = h
and_right false b h = absurd (cc)

pub le_of : (a b : ℕ) → nat_le a b ≡ true → a ≤ b
le_of a b h = grind (arith, nat_tests)

pub fits_of : (slots : ℕ) (t : Term) → fits_tree slots t ≡ true → fits_term slots t ≡ true
fits_of slots t h = and_left (fits_term slots t) (nat_le (width t) 2000) h

pub room_of : (slots : ℕ) (t : Term) (k : ℕ) → fits_tree slots t ≡ true → k < 2 ^ 31 + 1 → k + width t < 2 ^ 32
room_of slots t k h lt = let le = le_of (width t) 2000 (and_right (fits_term slots t) (nat_le (width t) 2000) h) in omega (arith, le, lt)

pub ruleset tree_fits = (fits_of, room_of)

pub ruleset steps_added = (nothing_added, added_after, and_left, and_right)

-- ---- The way in

pub enter_added : (g : Site) (right left : Option ℕ) (b b1 b2 b3 b4 b5 : Blocks) → right ≡ (the_routine g).header.right → left ≡ (the_routine g).header.left → b1 ≡ added (count_up g.layout.counted) b → b2 ≡ record b1 { inner = b1.inner ++ stmt.Enter ∷ [] } → b3 ≡ added (clear_code g (length (the_frame g).unsure)) b2 → b4 ≡ added (take_code g right_passed right) b3 → b5 ≡ added (take_code g left_passed left) b4 → b5 ≡ added (enter_by g false) b
enter_added g right left b b1 b2 b3 b4 b5 er el e1 e2 e3 e4 e5 =
    let clear = clear_code g (length (the_frame g).unsure) in
    let takes = take_code g right_passed (the_routine g).header.right ++ take_code g left_passed (the_routine g).header.left in
    added_after (count_up g.layout.counted) (stmt.Enter ∷ (clear ++ takes)) b b1 b5 e1
    (added_after (stmt.Enter ∷ []) (clear ++ takes) b1 b2 b5 e2
    (added_after clear takes b2 b3 b5 e3
    (added_after (take_code g right_passed (the_routine g).header.right) (take_code g left_passed (the_routine g).header.left) b3 b4 b5
    (e4 ∙ ap (λ o. added (take_code g right_passed o) b3) er) (e5 ∙ ap (λ o. added (take_code g left_passed o) b4) el))))

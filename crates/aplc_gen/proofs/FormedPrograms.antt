-- The C program of a program is well formed.
use Rattle.std.proofs.Common.{◌≡◌, ℕ, zero, suc, ◌+◌, ◌<◌, ◌≤◌, true, false, Bool, cond, List, [], ◌∷◌, ◌++◌, length, refl, ap, ◌∙◌, sym, subst, arith, ℤ, pos, negsuc}
use Rattle.std.specs.Prelude.{Option, Some, None, map, ◌^◌, int_lt, nat_lt, nat_eq, nat_le, ◌&&◌, slice_get, unwrap_or, option_and_then}
use Rattle.std.proofs.lemmas.Bool.{eqb-true}
use Rattle.std.proofs.lemmas.Bool.Decides.{nat_tests}
use Rattle.aplc_scalar.specs.declared.kind.FaultKind.TheVariants as fault
use Rattle.aplc_cprof.specs.declared.syntax.Int.{Int}
use Rattle.aplc_cprof.specs.declared.syntax.Int.TheVariants as int
use Rattle.aplc_cprof.specs.declared.syntax.Op.TheVariants as op
use Rattle.aplc_cprof.specs.declared.syntax.CExpr.TheVariants as expr
use Rattle.aplc_cprof.specs.declared.syntax.CStmt.{CStmt}
use Rattle.aplc_cprof.specs.declared.syntax.CStmt.TheVariants as stmt
use Rattle.aplc_cprof.specs.declared.syntax.Arm.{Arm}
use Rattle.aplc_cprof.specs.declared.syntax.CFunction.{CFunction}
use Rattle.aplc_cprof.specs.declared.syntax.CProgram.{CProgram}
use Rattle.aplc_cprof.specs.WellFormed as formed
use Rattle.aplc_cprof.specs.WellFormed.{ArmTest, is_int, is_plain, is_name, is_expr, is_stmt, are_stmts, arm_test, arms_fit, rise_above, inside, declared, is_count, is_formed, IsWellFormed}
use Rattle.aplc_cprof.proofs.Forms.{is_Switch, is_Fault, is_Enter, is_arm}
use Rattle.aplc_cprof.proofs.Emitted.{both_true, and_left, and_right, is_below, one_inside, var_formed, one_stmt, set_formed, if_formed, while_formed}
use Rattle.aplc_names.specs.PlainPrograms.{header_count}
use Rattle.aplc_names.specs.States.{is_among}
use Rattle.aplc_core.specs.PlainSteps.{Effect}
use Rattle.aplc_core.specs.CoreRuns.{CoreRoutine, PlainCore, no_core}
use Rattle.aplc_gen.specs.Layouts.{Layout, Site, the_routine, the_frame, depth, right_passed, left_passed, for_calls, global_ints, local_value, local_flag, line_place, base}
use Rattle.aplc_gen.specs.Laid.{are_laid_lines, are_laid_arms, are_among, known_at_end, is_laid_name, is_laid_result, is_laid_site, are_laid_sites, is_counted, IsLaid, HasCounts}
use Rattle.aplc_gen.specs.Sound.{is_line, are_lines, has_own_names, is_routine, are_routines, begins, is_sound}
use Rattle.aplc_gen.specs.Emitted.{scope_at, Lead, out, to, computed, landing, lead_at, first_line, is_entry, lines_loop, go_to, flag_code, leave_code, first_known, entry_known, is_line_test, lead_code, clear_code, take_code, deep, count_up, count_first, enter_by, enter_code, site_at}
use Rattle.aplc_gen.specs.Codes.{Declares, line_depth, IsLine, Either, AreLines, IsArm, AreArms, turn_code, IsRun, IsBody, IsFunction, AreCalled, IsProgramOf}
use Rattle.aplc_gen.proofs.FormedTrees.{number_formed, beside_number, one, two, joined, local_int, local_value_int, local_flag_int}
use Rattle.aplc_gen.proofs.FormedSteps.{landing_le, lead_at_is, call_int, counted_int, leave_formed, go_formed, flag_formed, lines_formed}

le_of : (a b : ℕ) → nat_le a b ≡ true → a ≤ b
le_of a b h = grind (arith, nat_tests, h)

-- ---- Arms

-- what is known of the first line with steps, among the lines from number l on
abbrev First : Site → ℕ → List (List Effect) → Type 0
First g l xs = l ≤ first_line (the_routine g) → (first_line (the_routine g) ≡ landing l xs) × (are_laid_lines g (first_known g) false l xs ≡ true)

module _ (sc : formed.Scope) (g : Site) (ints bufs : ℕ) (enough : base g ≤ sc.ints) (all_ints : ints ≤ sc.ints) (all_bufs : bufs ≤ sc.bufs) (declares : Declares g.layout sc) (counted : is_counted g.layout.called g.layout.counted ≡ true) (leaves : (room : ℕ) → 2 ≤ room → are_stmts sc (leave_code g) (Some room) ≡ true) (short : length (the_routine g).steps ≤ 999) where
  others : global_ints g.layout ≤ sc.global_ints
  others = declares.ints

  lead_formed : (b : Lead) (room : ℕ) → 2 ≤ room → ((k : ℕ) → b ≡ to k → k < 5000) → are_stmts sc (lead_code g b) (Some room) ≡ true
  lead_formed out room le bound = leaves room le
  lead_formed (to k) room le bound = go_formed sc g enough others k room (bound k refl)
  lead_formed computed room le bound = leaves room le

  test_formed : (l room : ℕ) → l < 5000 → 1 ≤ room → is_expr sc (is_line_test g l) (Some room) ≡ true
  test_formed l room lt le = beside_number sc op.Equal (int.Local (line_place g)) l room (local_int sc g enough others (line_place g) (omega arith)) lt le

  module _ (named : is_name (the_routine g).header.title ≡ true) where
    arm_formed : (l room : ℕ) (xs : List (List Effect)) (code : List CStmt) → IsArm (IsLine g ints bufs) g l xs code → 202 ≤ room → l + length xs < 4000 → are_lines g.program (scope_at g) xs ≡ true
        → are_laid_lines g (the_frame g).sure false l xs ≡ true
        → (nat_eq l (first_line (the_routine g)) ≡ true → are_laid_lines g (first_known g) false l xs ≡ true)
        → are_stmts sc code (Some room) ≡ true
    arm_formed l room [] code is big lt ok laid laid_first = ap (λ (ss : List CStmt). are_stmts sc ss (Some room)) is
    arm_formed l room ([] ∷ xs) code is big lt ok laid laid_first =
        ap (λ (ss : List CStmt). are_stmts sc ss (Some room)) is
        ∙ lead_formed (lead_at (landing (l + 1) xs)) room (omega (arith, big))
        (λ k e. let at = lead_at_is (landing (l + 1) xs) k e in let few = landing_le (l + 1) xs k at in omega (arith, few, lt))
    arm_formed l room ((x ∷ more) ∷ xs) code (body, is, lines) big lt ok laid laid_first =
        ap (λ (ss : List CStmt). are_stmts sc ss (Some room)) is
        ∙ one sc (stmt.While (is_line_test g l) body) room
        (while_formed sc line_depth room (is_line_test g l) body (omega (arith, big)) (test_formed l room (omega (arith, lt)) (omega (arith, big)))
        (λ r deep. lines_formed sc g ints bufs enough all_ints all_bufs declares counted leaves short named (entry_known g l) false r l ((x ∷ more) ∷ xs) body lines (omega (arith, lt)) ok (either (nat_eq l (first_line (the_routine g))) laid_first) deep))
      where
        either : (b : Bool) → (b ≡ true → are_laid_lines g (first_known g) false l ((x ∷ more) ∷ xs) ≡ true) → are_laid_lines g (cond b (first_known g) (the_frame g).sure) false l ((x ∷ more) ∷ xs) ≡ true
        either true h = h refl
        either false h = laid

    first_next : (l : ℕ) (x : List Effect) (xs : List (List Effect)) → First g l (x ∷ xs) → First g (l + 1) xs
    first_next l [] xs h = λ le. h (omega (arith, le))
    first_next l (y ∷ ys) xs h = λ le. let is = (h (omega (arith, le))).0 in absurd (omega (arith, le, is))

    arms_formed : (l room : ℕ) (xs : List (List Effect)) (all : List Arm) → AreArms (IsLine g ints bufs) g l xs all → 203 ≤ room → l + length xs < 4000 → are_lines g.program (scope_at g) xs ≡ true → are_laid_arms g l xs ≡ true → First g l xs → arms_fit (map (arm_test sc) all) (Some room) ≡ true
    arms_formed l room [] all is big lt ok laid at_first = ap (λ (zs : List Arm). arms_fit (map (arm_test sc) zs) (Some room)) is
    arms_formed l room (x ∷ xs) all is big lt ok laid at_first =
        let mine = and_left (cond (is_entry (the_routine g) l) (are_laid_lines g (the_frame g).sure false l (x ∷ xs)) true) (are_laid_arms g (l + 1) xs) laid in
        either (is_entry (the_routine g) l) is mine
        (λ body its h. one_inside (are_stmts sc body) 202 room (omega (arith, big))
        (λ r enough. arm_formed l r (x ∷ xs) body its enough lt ok h (λ e. let same = eqb-true l (first_line (the_routine g)) e in (at_first (omega (arith, same))).1)))
        (λ rest later. arms_formed (l + 1) room xs rest later big (omega (arith, lt)) (and_right (is_line g.program (scope_at g) x) (are_lines g.program (scope_at g) xs) ok) (and_right (cond (is_entry (the_routine g) l) (are_laid_lines g (the_frame g).sure false l (x ∷ xs)) true) (are_laid_arms g (l + 1) xs) laid) (first_next l x xs at_first))
      where
        Mine : List CStmt → Type 0
        Mine body = IsArm (IsLine g ints bufs) g l (x ∷ xs) body

        Rest : List Arm → Type 0
        Rest rest = AreArms (IsLine g ints bufs) g (l + 1) xs rest

        either : (b : Bool) → Either b ((body : List CStmt) × (rest : List Arm) × (all ≡ record { value = pos l; body = body } ∷ rest) × IsArm (IsLine g ints bufs) g l (x ∷ xs) body × AreArms (IsLine g ints bufs) g (l + 1) xs rest) (AreArms (IsLine g ints bufs) g (l + 1) xs all)
            → cond b (are_laid_lines g (the_frame g).sure false l (x ∷ xs)) true ≡ true
            → ((body : List CStmt) → Mine body → are_laid_lines g (the_frame g).sure false l (x ∷ xs) ≡ true → inside (Some room) (are_stmts sc body) ≡ true)
            → ((rest : List Arm) → Rest rest → arms_fit (map (arm_test sc) rest) (Some room) ≡ true)
            → arms_fit (map (arm_test sc) all) (Some room) ≡ true
        either false later h mine k = k all later
        either true (body, rest, is, its, later) h mine k =
            let arm : Arm = record { value = pos l; body = body } in
            ap (λ (zs : List Arm). arms_fit (map (arm_test sc) zs) (Some room)) is
            ∙ both_true ((arm_test sc arm).fits (Some room)) (arms_fit (map (arm_test sc) rest) (Some room))
            (ap (λ (t : ArmTest). t.fits (Some room)) (is_arm sc arm) ∙ both_true (is_plain (pos l)) (inside (Some room) (are_stmts sc body)) (is_below l (2 ^ 63) (omega (arith, lt))) (mine body its h)) (k rest later)

  arms_rise : (low : ℤ) (l : ℕ) (xs : List (List Effect)) (all : List Arm) → AreArms (IsLine g ints bufs) g l xs all → ((k : ℕ) → l ≤ k → int_lt low (pos k) ≡ true) → rise_above low (map (arm_test sc) all) ≡ true
  arms_rise low l [] all is above = ap (λ (zs : List Arm). rise_above low (map (arm_test sc) zs)) is
  arms_rise low l (x ∷ xs) all is above =
      either (is_entry (the_routine g) l) is (λ rest later. arms_rise low (l + 1) xs rest later (λ k le. above k (omega (arith, le)))) (λ rest later. arms_rise (pos l) (l + 1) xs rest later (λ k le. grind (arith, nat_tests, le)))
    where
      Rest : List Arm → Type 0
      Rest rest = AreArms (IsLine g ints bufs) g (l + 1) xs rest

      either : (b : Bool) → Either b ((body : List CStmt) × (rest : List Arm) × (all ≡ record { value = pos l; body = body } ∷ rest) × IsArm (IsLine g ints bufs) g l (x ∷ xs) body × AreArms (IsLine g ints bufs) g (l + 1) xs rest) (AreArms (IsLine g ints bufs) g (l + 1) xs all)
          → ((rest : List Arm) → Rest rest → rise_above low (map (arm_test sc) rest) ≡ true) → ((rest : List Arm) → Rest rest → rise_above (pos l) (map (arm_test sc) rest) ≡ true) → rise_above low (map (arm_test sc) all) ≡ true
      either false later h k = h all later
      either true (body, rest, is, its, later) h k =
          let arm : Arm = record { value = pos l; body = body } in
          ap (λ (zs : List Arm). rise_above low (map (arm_test sc) zs)) is
          ∙ ap (λ (v : ℤ). int_lt low v && rise_above v (map (arm_test sc) rest)) (ap (λ (t : ArmTest). t.value) (is_arm sc arm))
          ∙ both_true (int_lt low (pos l)) (rise_above (pos l) (map (arm_test sc) rest)) (above l (omega arith)) (k rest later)

  -- ---- The way in

  clear_formed : (k room : ℕ) → k ≤ length (the_frame g).unsure → are_stmts sc (clear_code g k) (Some room) ≡ true
  clear_formed zero room le = refl
  clear_formed (suc k) room le =
      joined sc (clear_code g k) (stmt.Set (int.Local (length (the_frame g).names + k)) (expr.Lit (pos 0)) ∷ []) room (clear_formed k room (omega (arith, le)))
      (one sc (stmt.Set (int.Local (length (the_frame g).names + k)) (expr.Lit (pos 0))) room
      (set_formed sc (Some room) (int.Local (length (the_frame g).names + k)) (expr.Lit (pos 0)) (local_int sc g enough others (length (the_frame g).names + k) (omega (arith, le))) (number_formed sc 0 room (omega arith))))

  take_formed : (x : Int) (o : Option ℕ) (room : ℕ) → is_int sc x ≡ true → is_laid_name g o ≡ true → are_stmts sc (take_code g x o) (Some room) ≡ true
  take_formed x None room h ok = refl
  take_formed x (Some n) room h ok =
      one_stmt sc (Some room) (stmt.Set (local_value g n) (expr.Var x)) (flag_code (local_flag g n) (is_among n (the_frame g).unsure))
      (set_formed sc (Some room) (local_value g n) (expr.Var x) (local_value_int sc g enough others n ok) (var_formed sc x h room))
      (flag_formed sc g enough others (local_flag g n) (is_among n (the_frame g).unsure) room (λ e. local_flag_int sc g enough others n e))

  up_formed : (c : Bool) (room : ℕ) → 1 ≤ room → (c ≡ true → is_int sc depth ≡ true) → are_stmts sc (count_up c) (Some room) ≡ true
  up_formed false room le h = refl
  up_formed true room le h =
      two sc (stmt.If deep (stmt.Fault fault.Limit ∷ []) None) (stmt.Set depth (expr.Bin op.Add (expr.Var depth) (expr.Lit (pos 1)))) room
      (if_formed sc 0 room deep (stmt.Fault fault.Limit ∷ []) (omega (arith, le)) (beside_number sc op.GreaterEq depth 4096 room (h refl) (omega arith) le) (λ r b. one sc (stmt.Fault fault.Limit) r (is_Fault sc fault.Limit (Some r))))
      (set_formed sc (Some room) depth (expr.Bin op.Add (expr.Var depth) (expr.Lit (pos 1))) (h refl) (beside_number sc op.Add depth 1 room (h refl) (omega arith) le))

  first_formed : (c : Bool) (room : ℕ) → (c ≡ true → is_int sc depth ≡ true) → are_stmts sc (count_first c) (Some room) ≡ true
  first_formed false room h = refl
  first_formed true room h = one sc (stmt.Set depth (expr.Lit (pos 1))) room (set_formed sc (Some room) depth (expr.Lit (pos 1)) (h refl) (number_formed sc 1 room (omega arith)))

  enter_by_formed : (first : Bool) (room : ℕ) → 1 ≤ room → (first ≡ false → for_calls g.layout.called ≡ 5) → is_counted g.layout.called g.layout.counted ≡ true → is_laid_name g (the_routine g).header.left ≡ true → is_laid_name g (the_routine g).header.right ≡ true → are_stmts sc (enter_by g first) (Some room) ≡ true
  enter_by_formed true room le is counts left right =
      joined sc (count_first g.layout.counted) (clear_code g (length (the_frame g).unsure)) room (first_formed g.layout.counted room (λ e. counted_int sc g enough others counts e)) (clear_formed (length (the_frame g).unsure) room (omega arith))
  enter_by_formed false room le is counts left right =
      let clear = clear_code g (length (the_frame g).unsure) in
      let take_right = take_code g right_passed (the_routine g).header.right in
      let take_left = take_code g left_passed (the_routine g).header.left in
      joined sc (count_up g.layout.counted) (stmt.Enter ∷ (clear ++ (take_right ++ take_left))) room (up_formed g.layout.counted room le (λ e. counted_int sc g enough others counts e))
      (one_stmt sc (Some room) stmt.Enter (clear ++ (take_right ++ take_left)) (is_Enter sc (Some room))
      (joined sc clear (take_right ++ take_left) room (clear_formed (length (the_frame g).unsure) room (omega arith))
      (joined sc take_right take_left room (take_formed right_passed (the_routine g).header.right room (call_int sc g enough others 1 (omega arith) (is refl)) right) (take_formed left_passed (the_routine g).header.left room (call_int sc g enough others 2 (omega arith) (is refl)) left))))

  -- ---- Functions

  module _ (named : is_name (the_routine g).header.title ≡ true) where
    loop_formed : (room : ℕ) (all : List Arm) → AreArms (IsLine g ints bufs) g 1 (the_routine g).steps all → 206 ≤ room → are_lines g.program (scope_at g) (the_routine g).steps ≡ true
        → are_laid_lines g (first_known g) false 1 (the_routine g).steps ≡ true → are_laid_arms g 1 (the_routine g).steps ≡ true → is_stmt sc (turn_code g all) (Some room) ≡ true
    loop_formed room all its big ok laid arms_laid =
        while_formed sc 205 room (expr.Lit (pos 1)) (switch ∷ []) (omega (arith, big)) (number_formed sc 1 room (omega arith))
        (λ r more. one sc switch r
        (is_Switch sc (int.Local (line_place g)) all (leave_code g) (Some r)
        ∙ both_true (is_int sc (int.Local (line_place g)) && rise_above (negsuc 0) tests) (inside (Some r) (λ q. arms_fit tests q && inside q (are_stmts sc (leave_code g))))
        (both_true (is_int sc (int.Local (line_place g))) (rise_above (negsuc 0) tests) (local_int sc g enough others (line_place g) (omega arith)) (arms_rise (negsuc 0) 1 (the_routine g).steps all its (λ k le1. refl)))
        (one_inside (λ q. arms_fit tests q && inside q (are_stmts sc (leave_code g))) 204 r (omega (arith, more))
        (λ q six. both_true (arms_fit tests (Some q)) (inside (Some q) (are_stmts sc (leave_code g)))
        (arms_formed named 1 q (the_routine g).steps all its (omega (arith, six)) (omega (arith, short)) ok arms_laid (λ le1. (refl, laid)))
        (one_inside (are_stmts sc (leave_code g)) 5 q (omega (arith, six)) (λ u five. leaves u (omega (arith, five))))))))
      where
        tests : List ArmTest
        tests = map (arm_test sc) all

        switch : CStmt
        switch = stmt.Switch (int.Local (line_place g)) all (leave_code g)

    run_formed : (b : Bool) (room : ℕ) (code : List CStmt) → IsRun (IsLine g ints bufs) g b code → 206 ≤ room → are_lines g.program (scope_at g) (the_routine g).steps ≡ true
        → are_laid_lines g (first_known g) false 1 (the_routine g).steps ≡ true → are_laid_arms g 1 (the_routine g).steps ≡ true → are_stmts sc code (Some room) ≡ true
    run_formed false room code its big ok laid arms_laid =
        lines_formed sc g ints bufs enough all_ints all_bufs declares counted leaves short named (first_known g) false room 1 (the_routine g).steps code its (omega (arith, short)) ok laid (omega (arith, big))
    run_formed true room code (all, is, its) big ok laid arms_laid =
        ap (λ (ss : List CStmt). are_stmts sc ss (Some room)) is
        ∙ joined sc (go_to g (first_line (the_routine g))) (turn_code g all ∷ []) room
        (go_formed sc g enough others (first_line (the_routine g)) room (let few = landing_le 1 (the_routine g).steps (first_line (the_routine g)) refl in omega (arith, few, short)))
        (one sc (turn_code g all) room (loop_formed room all its big ok laid arms_laid))

-- ---- One function

abbrev suits_all : PlainCore → Option CoreRoutine → Bool
suits_all p None = true
suits_all p (Some f) = is_routine p f

routine_sound : (p : PlainCore) (fs : List CoreRoutine) (j : ℕ) → are_routines p fs ≡ true → suits_all p (slice_get fs j) ≡ true
routine_sound p [] j ok = refl
routine_sound p (f ∷ fs) zero ok = and_left (is_routine p f) (are_routines p fs) ok
routine_sound p (f ∷ fs) (suc j) ok = routine_sound p fs j (and_right (is_routine p f) (are_routines p fs) ok)

-- where there is no such function, it has no lines
empty_run : (Line : List ℕ → ℕ → List Effect → List CStmt → Type 0) (g : Site) (b : Bool) (code : List CStmt) → the_routine g ≡ no_core → lines_loop (the_routine g) (the_routine g).steps ≡ b → IsRun Line g b code → code ≡ leave_code g
empty_run Line g true code e is run = let none : lines_loop (the_routine g) (the_routine g).steps ≡ false = ap (λ (f : CoreRoutine). lines_loop f f.steps) e in absurd (cc)
empty_run Line g false code e is run = subst (λ (xs : List (List Effect)). AreLines Line g (first_known g) false 1 xs code) (ap (λ (f : CoreRoutine). f.steps) e) run

called_count : (y : Layout) (p : PlainCore) (js : List ℕ) (fs : List CFunction) → AreCalled y p js fs → length fs ≡ length js
called_count y p [] fs is = ap (λ (zs : List CFunction). length zs) is
called_count y p (j ∷ js) fs (f, rest, is, its, later) = ap (λ (zs : List CFunction). length zs) is ∙ ap suc (called_count y p js rest later)

module _ (x : CProgram) (y : Layout) (p : PlainCore) (whole : IsProgramOf y p x) (sound : are_routines p p.routines ≡ true) (counts : is_counted y.called y.counted ≡ true) (first : Bool) (j : ℕ) (called : first ≡ false → for_calls y.called ≡ 5) (laid : is_laid_site (site_at y p first j) ≡ true) (f : CFunction) (is : IsFunction (site_at y p first j) f) where
  abbrev g : Site
  g = site_at y p first j

  abbrev sc : formed.Scope
  sc = declared x f

  declares : Declares y (declared x f)
  declares =
      let ints = whole.ints in
      let many = ap (λ (fs : List CFunction). length fs) whole.functions in
      let long = called_count y p y.called whole.rest whole.called in
      record { ints = omega (arith, ints); functions = omega (arith, many, long) }

  enough : base (site_at y p first j) ≤ f.ints
  enough = is.enough

  -- the parts of what the layout serves
  after_flags : (are_laid_lines g (first_known g) false 1 (the_routine g).steps && (are_laid_arms g 1 (the_routine g).steps && (are_among (first_known g) (the_frame g).sure && (are_among (the_frame g).sure (known_at_end g (first_known g) false 1 (the_routine g).steps) && (is_laid_name g (the_routine g).header.left && (is_laid_name g (the_routine g).header.right && is_laid_result g (the_routine g).header.result)))))) ≡ true
  after_flags = and_right (nat_le (length (the_frame g).unsure) (header_count (the_routine g).header)) _ laid

  after_lines : (are_laid_arms g 1 (the_routine g).steps && (are_among (first_known g) (the_frame g).sure && (are_among (the_frame g).sure (known_at_end g (first_known g) false 1 (the_routine g).steps) && (is_laid_name g (the_routine g).header.left && (is_laid_name g (the_routine g).header.right && is_laid_result g (the_routine g).header.result))))) ≡ true
  after_lines = and_right (are_laid_lines g (first_known g) false 1 (the_routine g).steps) _ after_flags

  names_laid : (is_laid_name g (the_routine g).header.left && (is_laid_name g (the_routine g).header.right && is_laid_result g (the_routine g).header.result)) ≡ true
  names_laid =
      and_right (are_among (the_frame g).sure (known_at_end g (first_known g) false 1 (the_routine g).steps)) _
      (and_right (are_among (first_known g) (the_frame g).sure) _
      (and_right (are_laid_arms g 1 (the_routine g).steps) _ after_lines))

  leaves : (room : ℕ) → 2 ≤ room → are_stmts sc (leave_code g) (Some room) ≡ true
  leaves room le =
      leave_formed sc g enough declares.ints room le called counts
      (and_right (is_laid_name g (the_routine g).header.right) (is_laid_result g (the_routine g).header.result) (and_right (is_laid_name g (the_routine g).header.left) _ names_laid))

  short : length (the_routine (site_at y p first j)).steps ≤ 999
  short = by (slice_get p.routines j) (routine_sound p p.routines j sound)
    where
      by : (o : Option CoreRoutine) → suits_all p o ≡ true → length (unwrap_or o no_core).steps ≤ 999
      by None ok = omega arith
      by (Some r) ok = le_of (length r.steps) 999 (and_left (nat_le (length r.steps) 999) _ (and_right (has_own_names r.header) _ (and_right (is_name r.header.title) _ ok)))

  enter_formed : are_stmts sc (enter_code g) (Some 256) ≡ true
  enter_formed =
      enter_by_formed sc g f.ints f.bufs enough (omega arith) (omega arith) declares counts leaves short first 256 (omega arith) called counts (and_left (is_laid_name g (the_routine g).header.left) _ names_laid)
      (and_left (is_laid_name g (the_routine g).header.right) _ (and_right (is_laid_name g (the_routine g).header.left) _ names_laid))

  steps_formed : (o : Option CoreRoutine) (code : List CStmt) → IsRun (IsLine g f.ints f.bufs) g (lines_loop (the_routine g) (the_routine g).steps) code → slice_get p.routines j ≡ o → suits_all p o ≡ true → are_stmts sc code (Some 256) ≡ true
  steps_formed None code run e ok = ap (λ (ss : List CStmt). are_stmts sc ss (Some 256)) (empty_run (IsLine g f.ints f.bufs) g (lines_loop (the_routine g) (the_routine g).steps) code (ap (λ o. unwrap_or o no_core) e) refl run) ∙ leaves 256 (omega arith)
  steps_formed (Some r) code run e ok =
      let same : the_routine g ≡ r = ap (λ o. unwrap_or o no_core) e in
      let good : is_routine p (the_routine g) ≡ true = subst (λ h. is_routine p h ≡ true) (sym same) ok in
      let named = and_left (is_name (the_routine g).header.title) _ good in
      let rest = and_right (has_own_names (the_routine g).header) _ (and_right (is_name (the_routine g).header.title) _ good) in
      run_formed sc g f.ints f.bufs enough (omega arith) (omega arith) declares counts leaves short named (lines_loop (the_routine g) (the_routine g).steps) 256 code run (omega arith)
      (and_right (nat_le (length (the_routine g).steps) 999) (are_lines p (scope_at g) (the_routine g).steps) rest)
      (and_left (are_laid_lines g (first_known g) false 1 (the_routine g).steps) _ after_flags) (and_left (are_laid_arms g 1 (the_routine g).steps) _ after_lines)

  site_formed : formed.is_function (declared x f) (Some 256) f ≡ true
  site_formed = by is.body
    where
      by : IsBody (IsLine (site_at y p first j) f.ints f.bufs) (site_at y p first j) f.body → formed.is_function (declared x f) (Some 256) f ≡ true
      by (run, code, its) =
          both_true (is_count f.ints && is_count f.bufs) (are_stmts sc f.body (Some 256)) (both_true (is_count f.ints) (is_count f.bufs) (is_below f.ints (2 ^ 32) is.ints) (is_below f.bufs (2 ^ 32) is.bufs))
          (ap (λ (ss : List CStmt). are_stmts sc ss (Some 256)) code
          ∙ joined sc (enter_code g) run 256 enter_formed (steps_formed (slice_get p.routines j) run its refl (routine_sound p p.routines j sound)))

-- ---- Programs

for_calls_some : (xs : List ℕ) → 0 < length xs → for_calls xs ≡ 5
for_calls_some [] h = absurd (omega (arith, h))
for_calls_some (x ∷ xs) h = refl

called_formed : (x : CProgram) (y : Layout) (p : PlainCore) → IsProgramOf y p x → are_routines p p.routines ≡ true → is_counted y.called y.counted ≡ true
    → (js : List ℕ) (fs : List CFunction) → AreCalled y p js fs → (0 < length js → for_calls y.called ≡ 5) → are_laid_sites y p js ≡ true → formed.are_functions (declared x) (Some 256) fs ≡ true
called_formed x y p whole sound counts [] fs its is laid = ap (λ (zs : List CFunction). formed.are_functions (declared x) (Some 256) zs) its
called_formed x y p whole sound counts (j ∷ js) fs (f, rest, same, its, later) is laid =
    ap (λ (zs : List CFunction). formed.are_functions (declared x) (Some 256) zs) same
    ∙ both_true (formed.is_function (declared x f) (Some 256) f) (formed.are_functions (declared x) (Some 256) rest)
    (site_formed x y p whole sound counts false j (λ e. is (omega arith)) (and_left (is_laid_site (site_at y p false j)) (are_laid_sites y p js) laid) f its)
    (called_formed x y p whole sound counts js rest later (λ lt. is (omega arith)) (and_right (is_laid_site (site_at y p false j)) (are_laid_sites y p js) laid))

-- the C program is well formed
pub program_formed : (x : CProgram) (y : Layout) (p : PlainCore) → IsProgramOf y p x → is_sound p ≡ true → IsLaid y p → HasCounts y → IsWellFormed x
unfolding is_formed
program_formed x y p whole sound laid few =
    let routines = and_right (begins (option_and_then (slice_get p.routines) p.start)) (are_routines p p.routines) sound in
    let start = unwrap_or p.start 0 in
    let many = few.called in
    let globals = few.globals in
    let long = called_count y p y.called whole.rest whole.called in
    let count : length x.functions ≡ suc (length whole.rest) = ap (λ (fs : List CFunction). length fs) whole.functions in
    let ints = whole.ints in
    let bufs = whole.bufs in
    let i = is_count x.ints in
    let b = is_count x.bufs in
    let d = is_count (length x.tables) in
    let e = formed.are_tables x.tables in
    let c = is_count (length x.functions) in
    let m = nat_lt 0 (length x.functions) in
    let fs : formed.are_functions (declared x) (Some 256) x.functions ≡ true =
    ap (λ (zs : List CFunction). formed.are_functions (declared x) (Some 256) zs) whole.functions
    ∙ both_true (formed.is_function (declared x whole.first) (Some 256) whole.first) (formed.are_functions (declared x) (Some 256) whole.rest)
    (site_formed x y p whole routines laid.counts true start (λ e. absurd (cc)) laid.begins whole.first whole.begins)
    (called_formed x y p whole routines laid.counts y.called whole.rest whole.called (for_calls_some y.called) laid.calls) in
    both_true (((((i && b) && d) && c) && e) && m) (formed.are_functions (declared x) (Some 256) x.functions)
    (both_true ((((i && b) && d) && c) && e) m
    (both_true (((i && b) && d) && c) e
    (both_true ((i && b) && d) c
    (both_true (i && b) d
    (both_true i b (is_below x.ints (2 ^ 32) (omega (arith, ints, globals))) (is_below x.bufs (2 ^ 32) (omega (arith, bufs))))
    (ap (λ (ts : List (List ℤ)). is_count (length ts)) whole.tables))
    (is_below (length x.functions) (2 ^ 32) (omega (arith, count, long, many))))
    (ap (λ (ts : List (List ℤ)). formed.are_tables ts) whole.tables))
    (is_below 0 (length x.functions) (omega (arith, count)))) fs

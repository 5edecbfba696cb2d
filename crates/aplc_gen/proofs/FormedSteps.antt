-- The code of steps and lines is well formed.
use Rattle.std.proofs.Common.{◌≡◌, ℕ, zero, suc, ◌+◌, ◌<◌, ◌≤◌, true, false, Bool, cond, List, [], ◌∷◌, ◌++◌, length, drop, refl, ap, ◌∙◌, sym, subst, arith, ℤ, pos}
use Rattle.std.specs.Prelude.{Option, Some, None, max, ◌^◌, nat_lt, nat_eq, ◌&&◌, ◌||◌}
use Rattle.std.proofs.Math.Nat.{le-max_left, le-max_right}
use Rattle.std.proofs.lemmas.Bool.{eqb-true}
use Rattle.aplc_cprof.specs.declared.syntax.Int.{Int}
use Rattle.aplc_cprof.specs.declared.syntax.Int.TheVariants as int
use Rattle.aplc_cprof.specs.declared.syntax.Op.TheVariants as op
use Rattle.aplc_cprof.specs.declared.syntax.CExpr.{CExpr}
use Rattle.aplc_cprof.specs.declared.syntax.CExpr.TheVariants as expr
use Rattle.aplc_cprof.specs.declared.syntax.CStmt.{CStmt}
use Rattle.aplc_cprof.specs.declared.syntax.CStmt.TheVariants as stmt
use Rattle.aplc_cprof.specs.WellFormed as formed
use Rattle.aplc_cprof.specs.WellFormed.{is_int, is_plain, is_name, is_expr, is_stmt, are_stmts}
use Rattle.aplc_cprof.proofs.Forms.{is_PutNum, is_PutChar, is_At, is_Call, is_Leave, is_Return}
use Rattle.aplc_cprof.proofs.Emitted.{both_true, and_left, and_right, is_below, var_formed, one_stmt, set_formed, if_formed}
use Rattle.aplc_names.specs.States.{is_among}
use Rattle.aplc_names.specs.Eager.{function_of, line_named}
use Rattle.aplc_core.specs.PlainSteps.{Term, Effect, Keep, Store, StoreAt, Call, ReadText, ReadNums, Show, Branch}
use Rattle.aplc_core.specs.CoreRuns.{Told, CoreRoutine, PlainCore}
use Rattle.aplc_gen.specs.Layouts.{Site, the_routine, the_frame, frame_of, routine_at, function_place, depth, right_passed, left_passed, result, result_flag, for_calls, global_ints, local_value, local_flag, value_place, flag_place, is_unsure, line_place, slot_place, base}
use Rattle.aplc_gen.specs.Laid.{has_place, is_laid_term, is_laid_slot, is_laid_step, are_laid_steps, are_laid_lines, is_laid_result, is_counted}
use Rattle.aplc_gen.specs.Sound.{Ready, ready_after, is_variable, is_term, is_effect, are_effects, is_line, are_lines}
use Rattle.aplc_gen.specs.Emitted.{local, scope_at, operand, known_after, tree_code, width, result_code, count_down, leave_by, leave_code, Lead, out, to, computed, landing, lead_at, lead_of_line, known_number, lead_by, lead, is_entry, go_to, flag_code, not_known, pass_code, is_giving, result_guard, got_code, call_code, display_code, jump_code, step_code, work_code, known_behind, is_branch, known_through, branches, step_width, steps_width}
use Rattle.aplc_gen.specs.Codes.{ending, Declares, line_depth, IsLine, exit_code, end_code, whole_line, Either, AreLines}
use Rattle.aplc_gen.proofs.FormedTrees.{place_below, Stored, number_formed, beside_number, guard_formed, one, two, joined, local_int, local_value_int, local_flag_int, value_int, flag_int, slot_int, operand_formed, tree_formed}

-- ---- Where branches lead

landing_some : (l : ℕ) (xs : List (List Effect)) (k : ℕ) → landing l xs ≡ suc k → suc k < l + length xs
landing_some l [] k e = absurd (cc)
landing_some l ([] ∷ xs) k e = let lt = landing_some (l + 1) xs k e in omega (arith, lt)
landing_some l ((x ∷ more) ∷ xs) k e = omega (arith, e)

landing_there : (l : ℕ) (xs : List (List Effect)) (k : ℕ) → landing l xs ≡ suc k → 0 < length xs
landing_there l [] k e = absurd (cc)
landing_there l (x ∷ xs) k e = omega arith

rest_of : {A : Type 0} (l : ℕ) (xs : List A) → 0 < length (drop l xs) → l + length (drop l xs) ≡ length xs
rest_of zero xs h = omega arith
rest_of (suc l) [] h = absurd (omega (arith, h))
rest_of (suc l) (x ∷ xs) h = let is = rest_of l xs h in omega (arith, is)

to_is : (k l : ℕ) → to k ≡ to l → k ≡ l
to_is k l e = cc

pub lead_at_is : (k l : ℕ) → lead_at k ≡ to l → k ≡ l
lead_at_is zero l e = absurd (cc)
lead_at_is (suc k) l e = to_is (suc k) l e

landing_bound : (l : ℕ) (xs : List (List Effect)) (k : ℕ) → landing (suc l) (drop l xs) ≡ k → k ≤ length xs
landing_bound l xs zero e = omega arith
landing_bound l xs (suc k) e =
    let lt = landing_some (suc l) (drop l xs) k e in
    let is = rest_of l xs (landing_there (suc l) (drop l xs) k e) in
    omega (arith, lt, is)

lead_of_line_bound : (f : CoreRoutine) (n l : ℕ) → lead_of_line f n ≡ to l → l ≤ length f.steps
lead_of_line_bound f zero l e = absurd (cc)
lead_of_line_bound f (suc n) l e =
    landing_bound n f.steps l (lead_at_is (landing (suc n) (drop n f.steps)) l e)

lead_by_bound : (f : CoreRoutine) (o : Option ℤ) (l : ℕ) → lead_by f o ≡ to l → l ≤ length f.steps
lead_by_bound f None l e = absurd (cc)
lead_by_bound f (Some z) l e = lead_of_line_bound f (line_named z) l e

pub lead_bound : (f : CoreRoutine) (t : Term) (l : ℕ) → lead f t ≡ to l → l ≤ length f.steps
lead_bound f t l e = lead_by_bound f (known_number f.header.scope t) l e

pub landing_le : (l : ℕ) (xs : List (List Effect)) (k : ℕ) → landing l xs ≡ k → k ≤ l + length xs
landing_le l xs zero e = omega arith
landing_le l xs (suc k) e = let lt = landing_some l xs k e in omega (arith, lt)

-- ---- Calls

pub calls_there : (n : ℕ) (xs : List ℕ) → is_among n xs ≡ true → for_calls xs ≡ 5
calls_there n [] h = absurd (cc)
calls_there n (x ∷ xs) h = refl

counted_there : (xs : List ℕ) (c : Bool) → is_counted xs c ≡ true → c ≡ true → for_calls xs ≡ 5
counted_there [] c h e = absurd (cc)
counted_there (x ∷ xs) c h e = refl

-- what was assigned before a step is a variable behind it too
stored_after : (g : Site) (p : PlainCore) (l : Told) (r : Ready) (x : Effect) → Stored g r → is_effect p (scope_at g) l r x ≡ true → Stored g (ready_after r x)
stored_after g p l r (Keep k t) st ok = st
stored_after g p l r (Store i n t) st ok = λ m h. either m (nat_eq m n) (λ e. eqb-true m n e) h
  where
    either : (m : ℕ) (b : Bool) → (b ≡ true → m ≡ n) → (b || is_among m r.stored) ≡ true → is_variable (scope_at g m) ≡ true
    either m true same h = subst (λ j. is_variable (scope_at g j) ≡ true) (sym (same refl)) (and_left (is_variable (scope_at g n)) (is_term (scope_at g) l r t) ok)
    either m false same h = st m h
stored_after g p l r (StoreAt i n xs t) st ok = st
stored_after g p l r (Call i n a b None) st ok = st
stored_after g p l r (Call i n a b (Some k)) st ok = st
stored_after g p l r (ReadText i k) st ok = st
stored_after g p l r (ReadNums i k) st ok = st
stored_after g p l r (Show o t) st ok = st
stored_after g p l r (Branch t) st ok = st

module _ (sc : formed.Scope) (g : Site) (enough : base g ≤ sc.ints) (others : global_ints g.layout ≤ sc.global_ints) where
  pub call_int : (k : ℕ) → k < 5 → for_calls g.layout.called ≡ 5 → is_int sc (int.Global k) ≡ true
  call_int k lt is = is_below k sc.global_ints (omega (arith, lt, is, others))

  pub counted_int : is_counted g.layout.called g.layout.counted ≡ true → g.layout.counted ≡ true → is_int sc depth ≡ true
  counted_int h e = call_int 0 (omega arith) (counted_there g.layout.called g.layout.counted h e)

  -- ---- The way out

  result_set : (n room : ℕ) → for_calls g.layout.called ≡ 5 → is_among n (the_frame g).names ≡ true → are_stmts sc (stmt.Set result (expr.Var (local_value g n)) ∷ []) (Some room) ≡ true
  result_set n room is h = one sc (stmt.Set result (expr.Var (local_value g n))) room (set_formed sc (Some room) result (expr.Var (local_value g n)) (call_int 3 (omega arith) is) (var_formed sc (local_value g n) (local_value_int sc g enough others n h) room))

  result_formed : (o : Option ℕ) (room : ℕ) → 2 ≤ room → for_calls g.layout.called ≡ 5 → is_laid_result g o ≡ true → are_stmts sc (result_code g o) (Some room) ≡ true
  result_formed None room le is ok = refl
  result_formed (Some n) room le is ok =
      let there = and_left (is_among n (the_frame g).names) (is_among n (the_frame g).sure || is_among n (the_frame g).unsure) ok in
      either (is_among n (the_frame g).sure) (and_right (is_among n (the_frame g).names) (is_among n (the_frame g).sure || is_among n (the_frame g).unsure) ok) there
    where
      copy : List CStmt
      copy = stmt.Set result (expr.Var (local_value g n)) ∷ []

      take : CStmt
      take = stmt.Set result_flag (expr.Var (local_flag g n))

      check : CStmt
      check = stmt.If (expr.Var result_flag) copy None

      either : (b : Bool) → (b || is_among n (the_frame g).unsure) ≡ true → is_among n (the_frame g).names ≡ true → are_stmts sc (cond b copy (take ∷ check ∷ [])) (Some room) ≡ true
      either true h there = result_set n room is there
      either false h there =
          two sc take check room
          (set_formed sc (Some room) result_flag (expr.Var (local_flag g n)) (call_int 4 (omega arith) is) (var_formed sc (local_flag g n) (local_flag_int sc g enough others n h) room))
          (if_formed sc 0 room (expr.Var result_flag) copy (omega (arith, le)) (var_formed sc result_flag (call_int 4 (omega arith) is) room) (λ q b. result_set n q is there))

  down_formed : (c : Bool) (room : ℕ) → 1 ≤ room → (c ≡ true → is_int sc depth ≡ true) → are_stmts sc (count_down c) (Some room) ≡ true
  down_formed false room le h = refl
  down_formed true room le h =
      one sc (stmt.Set depth (expr.Bin op.Sub (expr.Var depth) (expr.Lit (pos 1)))) room
      (set_formed sc (Some room) depth (expr.Bin op.Sub (expr.Var depth) (expr.Lit (pos 1))) (h refl) (beside_number sc op.Sub depth 1 room (h refl) (omega arith) le))

  leave_by_formed : (first : Bool) (room : ℕ) → 2 ≤ room → (first ≡ false → for_calls g.layout.called ≡ 5) → is_counted g.layout.called g.layout.counted ≡ true → is_laid_result g (the_routine g).header.result ≡ true → are_stmts sc (leave_by g first) (Some room) ≡ true
  leave_by_formed true room le is counts ok = one sc stmt.Return room (is_Return sc (Some room))
  leave_by_formed false room le is counts ok =
      joined sc (result_code g (the_routine g).header.result) (count_down g.layout.counted ++ stmt.Leave ∷ stmt.Return ∷ []) room (result_formed (the_routine g).header.result room le (is refl) ok)
      (joined sc (count_down g.layout.counted) (stmt.Leave ∷ stmt.Return ∷ []) room (down_formed g.layout.counted room (omega (arith, le)) (λ e. counted_int counts e))
      (two sc stmt.Leave stmt.Return room (is_Leave sc (Some room)) (is_Return sc (Some room))))

  pub leave_formed : (room : ℕ) → 2 ≤ room → (g.first ≡ false → for_calls g.layout.called ≡ 5) → is_counted g.layout.called g.layout.counted ≡ true → is_laid_result g (the_routine g).header.result ≡ true → are_stmts sc (leave_code g) (Some room) ≡ true
  leave_formed room le is counts ok = leave_by_formed g.first room le is counts ok

  -- ---- Steps

  pub go_formed : (l room : ℕ) → l < 5000 → are_stmts sc (go_to g l) (Some room) ≡ true
  go_formed l room lt =
      one sc (stmt.Set (int.Local (line_place g)) (expr.Lit (pos l))) room
      (set_formed sc (Some room) (int.Local (line_place g)) (expr.Lit (pos l)) (local_int sc g enough others (line_place g) (omega arith)) (number_formed sc l room lt))

  pub flag_formed : (x : Int) (b : Bool) (room : ℕ) → (b ≡ true → is_int sc x ≡ true) → are_stmts sc (flag_code x b) (Some room) ≡ true
  flag_formed x false room h = refl
  flag_formed x true room h = one sc (stmt.Set x (expr.Lit (pos 1))) room (set_formed sc (Some room) x (expr.Lit (pos 1)) (h refl) (number_formed sc 1 room (omega arith)))

  pass_formed : (x : Int) (o : Option ℕ) (room : ℕ) → is_int sc x ≡ true → is_laid_slot g o ≡ true → are_stmts sc (pass_code g x o) (Some room) ≡ true
  pass_formed x None room h ok = refl
  pass_formed x (Some k) room h ok =
      one sc (stmt.Set x (local (slot_place g k))) room (set_formed sc (Some room) x (local (slot_place g k)) h (var_formed sc (int.Local (slot_place g k)) (slot_int sc g enough others k ok) room))

  result_guarded : (sure : Bool) (room : ℕ) → 1 ≤ room → for_calls g.layout.called ≡ 5 → are_stmts sc (result_guard sure) (Some room) ≡ true
  result_guarded true room le is = refl
  result_guarded false room le is = guard_formed sc result_flag room le (call_int 4 (omega arith) is)

  got_formed : (sure : Bool) (o : Option ℕ) (room : ℕ) → 1 ≤ room → for_calls g.layout.called ≡ 5 → is_laid_slot g o ≡ true → are_stmts sc (got_code g sure o) (Some room) ≡ true
  got_formed sure None room le is ok = refl
  got_formed sure (Some k) room le is ok =
      joined sc (result_guard sure) (stmt.Set (int.Local (slot_place g k)) (expr.Var result) ∷ []) room (result_guarded sure room le is)
      (one sc (stmt.Set (int.Local (slot_place g k)) (expr.Var result)) room
      (set_formed sc (Some room) (int.Local (slot_place g k)) (expr.Var result) (slot_int sc g enough others k ok) (var_formed sc result (call_int 3 (omega arith) is) room)))

  display_formed : (e : CExpr) (room : ℕ) → is_expr sc e (Some room) ≡ true → are_stmts sc (display_code e) (Some room) ≡ true
  display_formed e room h =
      two sc (stmt.PutNum e (expr.Lit (pos 0))) (stmt.PutChar (expr.Lit (pos 10))) room
      (is_PutNum sc e (expr.Lit (pos 0)) (Some room) ∙ both_true (is_expr sc e (Some room)) (is_expr sc (expr.Lit (pos 0)) (Some room)) h (number_formed sc 0 room (omega arith)))
      (is_PutChar sc (expr.Lit (pos 10)) (Some room) ∙ number_formed sc 10 room (omega arith))

  module _ (functions : suc (length g.layout.called) ≤ sc.functions) where
    call_formed : (j : ℕ) (a b r : Option ℕ) (room : ℕ) → 1 ≤ room → is_among j g.layout.called ≡ true → is_laid_slot g a ≡ true → is_laid_slot g b ≡ true → is_laid_slot g r ≡ true → are_stmts sc (call_code g j a b r) (Some room) ≡ true
    call_formed j a b r room le there ha hb hr =
        let is = calls_there j g.layout.called there in
        let lt = place_below j g.layout.called there in
        let sure : Bool = is_giving (frame_of g.layout j).sure (routine_at g.program j).header.result in
        let got : List CStmt = got_code g sure r in
        let call : CStmt = stmt.Call (function_place g.layout j) in
        joined sc (pass_code g left_passed a) (pass_code g right_passed b ++ (call ∷ got)) room (pass_formed left_passed a room (call_int 2 (omega arith) is) ha)
        (joined sc (pass_code g right_passed b) (call ∷ got) room (pass_formed right_passed b room (call_int 1 (omega arith) is) hb)
        (one_stmt sc (Some room) call got (is_Call sc (function_place g.layout j) (Some room) ∙ is_below (function_place g.layout j) sc.functions (omega (arith, lt, functions)))
        (got_formed sure r room le is hr)))

    -- the number of the line where a computed branch leads
    jump_formed : (b : Lead) (known : List ℕ) (room : ℕ) (l : Told) (r : Ready) (t : Term) → Stored g r → is_term (scope_at g) l r t ≡ true → is_laid_term g known t ≡ true → base g + width t ≤ sc.ints → 2 ≤ room → are_stmts sc (jump_code g known t b) (Some room) ≡ true
    jump_formed out known room l r t st ok laid le big = refl
    jump_formed (to k) known room l r t st ok laid le big = refl
    jump_formed computed known room l r t st ok laid le big =
        let e = operand g (base g) t in
        joined sc (tree_code g known (base g) t) (stmt.Set (int.Local (line_place g)) e ∷ []) room (tree_formed sc g enough others known (base g) room l r t st ok laid le big)
        (one sc (stmt.Set (int.Local (line_place g)) e) room
        (set_formed sc (Some room) (int.Local (line_place g)) e (local_int sc g enough others (line_place g) (omega arith)) (operand_formed sc g enough others known (base g) room l r t st ok laid le (omega (arith, big)))))

    pub step_formed : (known : List ℕ) (room : ℕ) (l : Told) (r : Ready) (x : Effect) → is_branch x ≡ false → Stored g r → is_effect g.program (scope_at g) l r x ≡ true → is_laid_step g known x ≡ true → base g + step_width x ≤ sc.ints → 2 ≤ room → are_stmts sc (step_code g known x) (Some room) ≡ true
    step_formed known room l r (Keep k t) plain st ok laid le big =
        let slot = and_left (nat_lt k (the_frame g).slots) (is_laid_term g known t) laid in
        let fits = and_right (nat_lt k (the_frame g).slots) (is_laid_term g known t) laid in
        let e = operand g (base g) t in
        joined sc (tree_code g known (base g) t) (stmt.Set (int.Local (slot_place g k)) e ∷ []) room (tree_formed sc g enough others known (base g) room l r t st ok fits le big)
        (one sc (stmt.Set (int.Local (slot_place g k)) e) room
        (set_formed sc (Some room) (int.Local (slot_place g k)) e (slot_int sc g enough others k slot) (operand_formed sc g enough others known (base g) room l r t st ok fits le (omega (arith, big)))))
    step_formed known room l r (Store i n t) plain st ok laid le big =
        let variable = and_left (is_variable (scope_at g n)) (is_term (scope_at g) l r t) ok in
        let good = and_right (is_variable (scope_at g n)) (is_term (scope_at g) l r t) ok in
        let there = and_left (has_place g (scope_at g n) n) (is_laid_term g known t) laid in
        let fits = and_right (has_place g (scope_at g n) n) (is_laid_term g known t) laid in
        let x = scope_at g n in
        let e = operand g (base g) t in
        let flagged = is_unsure g x n && not_known (known_after known t) n in
        let flags = flag_code (flag_place g x n) flagged in
        let set = stmt.Set (value_place g x n) e in
        joined sc (tree_code g known (base g) t) (set ∷ flags) room (tree_formed sc g enough others known (base g) room l r t st good fits le big)
        (one_stmt sc (Some room) set flags
        (set_formed sc (Some room) (value_place g x n) e (value_int sc g enough others x n variable there) (operand_formed sc g enough others known (base g) room l r t st good fits le (omega (arith, big))))
        (flag_formed (flag_place g x n) flagged room (λ h. flag_int sc g enough others x n variable (and_left (is_unsure g x n) (not_known (known_after known t) n) h))))
    step_formed known room l r (StoreAt i n xs t) plain st ok laid le big = absurd (cc)
    step_formed known room l r (Call i n a b s) plain st ok laid le big =
        let j = function_of (scope_at g n) in
        let there = and_left (is_among j g.layout.called) (is_laid_slot g a && (is_laid_slot g b && is_laid_slot g s)) laid in
        let slots = and_right (is_among j g.layout.called) (is_laid_slot g a && (is_laid_slot g b && is_laid_slot g s)) laid in
        let more = and_right (is_laid_slot g a) (is_laid_slot g b && is_laid_slot g s) slots in
        call_formed j a b s room (omega (arith, big)) there (and_left (is_laid_slot g a) (is_laid_slot g b && is_laid_slot g s) slots) (and_left (is_laid_slot g b) (is_laid_slot g s) more) (and_right (is_laid_slot g b) (is_laid_slot g s) more)
    step_formed known room l r (ReadText i k) plain st ok laid le big = absurd (cc)
    step_formed known room l r (ReadNums i k) plain st ok laid le big = absurd (cc)
    step_formed known room l r (Show None t) plain st ok laid le big =
        joined sc (tree_code g known (base g) t) (display_code (operand g (base g) t)) room (tree_formed sc g enough others known (base g) room l r t st ok laid le big)
        (display_formed (operand g (base g) t) room (operand_formed sc g enough others known (base g) room l r t st ok laid le (omega (arith, big))))
    step_formed known room l r (Show (Some i) t) plain st ok laid le big = absurd (cc)
    step_formed known room l r (Branch t) plain st ok laid le big = absurd (cc)

    -- the steps of a line
    plain_formed : (known : List ℕ) (room : ℕ) (l : Told) (r : Ready) (x : Effect) (xs : List Effect) → is_branch x ≡ false → Stored g r → are_effects g.program (scope_at g) l r (x ∷ xs) ≡ true → are_laid_steps g known (x ∷ xs) ≡ true → base g + steps_width (x ∷ xs) ≤ sc.ints → 2 ≤ room
        → (Stored g (ready_after r x) → are_effects g.program (scope_at g) l (ready_after r x) xs ≡ true → are_laid_steps g (known_behind known x) xs ≡ true → base g + steps_width xs ≤ sc.ints → are_stmts sc (work_code g (known_behind known x) xs) (Some room) ≡ true)
        → are_stmts sc (step_code g known x ++ work_code g (known_behind known x) xs) (Some room) ≡ true
    plain_formed known room l r x xs plain st ok laid le big next =
        let here : step_width x ≤ max (step_width x) (steps_width xs) = le-max_left (step_width x) (steps_width xs) in
        let later : steps_width xs ≤ max (step_width x) (steps_width xs) = le-max_right (step_width x) (steps_width xs) in
        let good = and_left (is_effect g.program (scope_at g) l r x) (are_effects g.program (scope_at g) l (ready_after r x) xs) ok in
        let goods = and_right (is_effect g.program (scope_at g) l r x) (are_effects g.program (scope_at g) l (ready_after r x) xs) ok in
        let fits = and_left (is_laid_step g known x) (are_laid_steps g (known_behind known x) xs) laid in
        let all_fit = and_right (is_laid_step g known x) (are_laid_steps g (known_behind known x) xs) laid in
        joined sc (step_code g known x) (work_code g (known_behind known x) xs) room (step_formed known room l r x plain st good fits (omega (arith, le, here)) big)
        (next (stored_after g g.program l r x st good) goods all_fit (omega (arith, le, later)))

    pub work_formed : (known : List ℕ) (room : ℕ) (l : Told) (r : Ready) (xs : List Effect) → Stored g r → are_effects g.program (scope_at g) l r xs ≡ true → are_laid_steps g known xs ≡ true → base g + steps_width xs ≤ sc.ints → 2 ≤ room → are_stmts sc (work_code g known xs) (Some room) ≡ true
    work_formed known room l r [] st ok laid le big = refl
    work_formed known room l r (Branch t ∷ xs) st ok laid le big =
        let here : width t ≤ max (width t) (steps_width xs) = le-max_left (width t) (steps_width xs) in
        jump_formed (lead (the_routine g) t) known room l r t st
        (and_left (is_effect g.program (scope_at g) l r (Branch t)) (are_effects g.program (scope_at g) l (ready_after r (Branch t)) xs) ok) (and_left (is_laid_step g known (Branch t)) (are_laid_steps g (known_behind known (Branch t)) xs) laid) (omega (arith, le, here)) big
    work_formed known room l r (Keep k t ∷ xs) st ok laid le big = plain_formed known room l r (Keep k t) xs refl st ok laid le big (λ st' ok' laid' le'. work_formed (known_behind known (Keep k t)) room l (ready_after r (Keep k t)) xs st' ok' laid' le' big)
    work_formed known room l r (Store i n t ∷ xs) st ok laid le big = plain_formed known room l r (Store i n t) xs refl st ok laid le big (λ st' ok' laid' le'. work_formed (known_behind known (Store i n t)) room l (ready_after r (Store i n t)) xs st' ok' laid' le' big)
    work_formed known room l r (StoreAt i n ts t ∷ xs) st ok laid le big = plain_formed known room l r (StoreAt i n ts t) xs refl st ok laid le big (λ st' ok' laid' le'. work_formed (known_behind known (StoreAt i n ts t)) room l (ready_after r (StoreAt i n ts t)) xs st' ok' laid' le' big)
    work_formed known room l r (Call i n a b s ∷ xs) st ok laid le big = plain_formed known room l r (Call i n a b s) xs refl st ok laid le big (λ st' ok' laid' le'. work_formed (known_behind known (Call i n a b s)) room l (ready_after r (Call i n a b s)) xs st' ok' laid' le' big)
    work_formed known room l r (ReadText i k ∷ xs) st ok laid le big = plain_formed known room l r (ReadText i k) xs refl st ok laid le big (λ st' ok' laid' le'. work_formed (known_behind known (ReadText i k)) room l (ready_after r (ReadText i k)) xs st' ok' laid' le' big)
    work_formed known room l r (ReadNums i k ∷ xs) st ok laid le big = plain_formed known room l r (ReadNums i k) xs refl st ok laid le big (λ st' ok' laid' le'. work_formed (known_behind known (ReadNums i k)) room l (ready_after r (ReadNums i k)) xs st' ok' laid' le' big)
    work_formed known room l r (Show o t ∷ xs) st ok laid le big = plain_formed known room l r (Show o t) xs refl st ok laid le big (λ st' ok' laid' le'. work_formed (known_behind known (Show o t)) room l (ready_after r (Show o t)) xs st' ok' laid' le' big)

-- ---- Lines

-- in the function of a site, with all its variables
module _ (sc : formed.Scope) (g : Site) (ints bufs : ℕ) (enough : base g ≤ sc.ints) (all_ints : ints ≤ sc.ints) (all_bufs : bufs ≤ sc.bufs) (declares : Declares g.layout sc) (counts : is_counted g.layout.called g.layout.counted ≡ true) (leaves : (room : ℕ) → 2 ≤ room → are_stmts sc (leave_code g) (Some room) ≡ true) (short : length (the_routine g).steps ≤ 999) where
  others : global_ints g.layout ≤ sc.global_ints
  others = declares.ints

  exit_formed : (b : Lead) (room : ℕ) → ((k : ℕ) → b ≡ to k → k ≤ 999) → 2 ≤ room → are_stmts sc (exit_code g b) (Some room) ≡ true
  exit_formed out room bound big = leaves room big
  exit_formed (to k) room bound big = let few = bound k refl in go_formed sc g enough others k room (omega (arith, few))
  exit_formed computed room bound big = refl

  end_formed : (o : Option Term) (room : ℕ) → 2 ≤ room → are_stmts sc (end_code g o) (Some room) ≡ true
  end_formed None room big = refl
  end_formed (Some t) room big = exit_formed (lead (the_routine g) t) room (λ k e. let few = lead_bound (the_routine g) t k e in omega (arith, few, short)) big

  module _ (named : is_name (the_routine g).header.title ≡ true) where
    line_formed : (known : List ℕ) (room l : ℕ) (xs : List Effect) (code : List CStmt) → IsLine g ints bufs known l xs code → l < 5000 → is_line g.program (scope_at g) xs ≡ true → are_laid_steps g known xs ≡ true → line_depth ≤ room → are_stmts sc (whole_line g l xs code) (Some room) ≡ true
    line_formed known room l xs code is lt ok laid big =
        one_stmt sc (Some room) (stmt.At (the_routine g).header.title (pos l)) (code ++ end_code g (ending xs))
        (is_At sc (the_routine g).header.title (pos l) (Some room) ∙ both_true (is_name (the_routine g).header.title) (is_plain (pos l)) named (is_below l (2 ^ 63) (omega (arith, lt))))
        (joined sc code (end_code g (ending xs)) room (is.placed (record { line = ok; laid = laid; counts = counts }) sc room declares all_ints all_bufs big) (end_formed (ending xs) room (omega (arith, big))))

    pub lines_formed : (known : List ℕ) (through : Bool) (room l : ℕ) (xs : List (List Effect)) (code : List CStmt) → AreLines (IsLine g ints bufs) g known through l xs code → l + length xs < 5000 → are_lines g.program (scope_at g) xs ≡ true → are_laid_lines g known through l xs ≡ true → line_depth ≤ room → are_stmts sc code (Some room) ≡ true
    lines_formed known through room l [] code is lt ok laid big = ap (λ (ss : List CStmt). are_stmts sc ss (Some room)) is ∙ leaves room (omega (arith, big))
    lines_formed known through room l ([] ∷ xs) code is lt ok laid big =
        lines_formed known through room (l + 1) xs code is (omega (arith, lt)) (and_right (is_line g.program (scope_at g) []) (are_lines g.program (scope_at g) xs) ok) laid big
    lines_formed known through room l ((x ∷ more) ∷ xs) code is lt ok laid big =
        either (through && is_entry (the_routine g) l) is laid
        (λ mine does fits. line_formed known room l (x ∷ more) mine does (omega (arith, lt)) (and_left (is_line g.program (scope_at g) (x ∷ more)) (are_lines g.program (scope_at g) xs) ok) fits big)
        (λ rest later fits. lines_formed (known_through known (x ∷ more)) true room (l + 1) xs rest later (omega (arith, lt)) (and_right (is_line g.program (scope_at g) (x ∷ more)) (are_lines g.program (scope_at g) xs) ok) fits big)
      where
        Rest : List CStmt → Type 0
        Rest rest = AreLines (IsLine g ints bufs) g (known_through known (x ∷ more)) true (l + 1) xs rest

        Mine : List CStmt → Type 0
        Mine mine = IsLine g ints bufs known l (x ∷ more) mine

        are_laid : Bool
        are_laid = are_laid_lines g (known_through known (x ∷ more)) true (l + 1) xs

        on : (b : Bool) (rest : List CStmt) → Either b (rest ≡ []) (Rest rest) → cond b true are_laid ≡ true → (Rest rest → are_laid ≡ true → are_stmts sc rest (Some room) ≡ true) → are_stmts sc rest (Some room) ≡ true
        on true rest is h k = ap (λ (ss : List CStmt). are_stmts sc ss (Some room)) is
        on false rest is h k = k is h

        either : (b : Bool) → Either b (code ≡ go_to g l) ((mine : List CStmt) × (rest : List CStmt) × (code ≡ whole_line g l (x ∷ more) mine ++ rest) × IsLine g ints bufs known l (x ∷ more) mine × Either (branches (x ∷ more)) (rest ≡ []) (AreLines (IsLine g ints bufs) g (known_through known (x ∷ more)) true (l + 1) xs rest))
            → cond b true (are_laid_steps g known (x ∷ more) && cond (branches (x ∷ more)) true are_laid) ≡ true
            → ((mine : List CStmt) → Mine mine → are_laid_steps g known (x ∷ more) ≡ true → are_stmts sc (whole_line g l (x ∷ more) mine) (Some room) ≡ true)
            → ((rest : List CStmt) → Rest rest → are_laid ≡ true → are_stmts sc rest (Some room) ≡ true)
            → are_stmts sc code (Some room) ≡ true
        either true is h line next = ap (λ (ss : List CStmt). are_stmts sc ss (Some room)) is ∙ go_formed sc g enough others l room (omega (arith, lt))
        either false (mine, rest, is, does, later) h line next =
            ap (λ (ss : List CStmt). are_stmts sc ss (Some room)) is
            ∙ joined sc (whole_line g l (x ∷ more) mine) rest room (line mine does (and_left (are_laid_steps g known (x ∷ more)) (cond (branches (x ∷ more)) true are_laid) h))
            (on (branches (x ∷ more)) rest later (and_right (are_laid_steps g known (x ∷ more)) (cond (branches (x ∷ more)) true are_laid) h) (next rest))

-- The code of trees is well formed.
use Rattle.std.proofs.Common.{◌≡◌, ℕ, zero, suc, ◌+◌, ◌<◌, ◌≤◌, true, false, Bool, cond, List, [], ◌∷◌, ◌++◌, length, refl, ap, ◌∙◌, arith, ℤ, pos, negsuc}
use Rattle.std.specs.Prelude.{Some, None, max, ◌-ℤ◌, ◌^◌, int_lt, nat_lt, nat_eq, ◌&&◌, ◌||◌}
use Rattle.std.proofs.Math.Nat.{le-max_left, le-max_right}
use Rattle.std.proofs.lemmas.Bool.Decides.{nat_tests}
use Rattle.std.proofs.lemmas.Int.{ints}
use Rattle.aplc_scalar.specs.Scalar.{in_range}
use Rattle.aplc_scalar.specs.declared.kind.Kind.{Kind}
use Rattle.aplc_scalar.specs.declared.kind.Kind.TheVariants.{Num, Char}
use Rattle.aplc_scalar.specs.declared.kind.FaultKind.TheVariants as fault
use Rattle.aplc_syntax.specs.declared.tree.Primitive.{Primitive}
use Rattle.aplc_cprof.specs.declared.syntax.Int.{Int}
use Rattle.aplc_cprof.specs.declared.syntax.Int.TheVariants as int
use Rattle.aplc_cprof.specs.declared.syntax.Op.TheVariants as op
use Rattle.aplc_cprof.specs.declared.syntax.Checked.TheVariants as checked
use Rattle.aplc_cprof.specs.declared.syntax.CExpr.{CExpr}
use Rattle.aplc_cprof.specs.declared.syntax.CExpr.TheVariants as expr
use Rattle.aplc_cprof.specs.declared.syntax.CStmt.{CStmt}
use Rattle.aplc_cprof.specs.declared.syntax.CStmt.TheVariants as stmt
use Rattle.aplc_cprof.specs.WellFormed as formed
use Rattle.aplc_cprof.specs.WellFormed.{is_int, is_plain, is_expr, is_stmt, are_stmts}
use Rattle.aplc_cprof.proofs.Forms.{is_Lit, is_Bin, is_Fault}
use Rattle.aplc_cprof.proofs.Emitted.{both_true, and_left, and_right, is_below, var_formed, lit_formed, stmts_append, one_stmt, check_formed, if_formed}
use Rattle.aplc_names.specs.declared.scope.Scope.{Scope}
use Rattle.aplc_names.specs.declared.scope.Scope.TheVariants as scope
use Rattle.aplc_names.specs.States.{is_among}
use Rattle.aplc_core.specs.PlainSteps.{Term, Literal, Read, Slot, Mono, Dyad, Index}
use Rattle.aplc_core.specs.CoreRuns.{Told}
use Rattle.aplc_gen.specs.Built.{number_of, is_number, is_sign, is_checked}
use Rattle.aplc_gen.specs.Layouts.{Site, the_frame, place_in, global_ints, global_base, local_value, local_flag, value_place, flag_place, is_unsure, slot_place, base}
use Rattle.aplc_gen.specs.Laid.{has_place, is_flagged, is_laid_term}
use Rattle.aplc_gen.specs.Sound.{Ready, is_variable, is_readable, is_read, is_term}
use Rattle.aplc_gen.specs.Emitted.{literal_expr, local, guard, scope_at, is_minus, checked_of, name_operand, operand, known_after, read_code, is_constant, is_times, checked_code, minus_code, tree_code, width}

-- ---- Numbers and lists

pub or_last : (a b : Bool) → (a || b) ≡ true → a ≡ false → b ≡ true
or_last true b h e = absurd (cc)
or_last false b h e = h

pub below_of : (a b : ℕ) → nat_lt a b ≡ true → a < b
below_of a b h = grind (arith, nat_tests, h)

pub place_below : (n : ℕ) (xs : List ℕ) → is_among n xs ≡ true → place_in xs n < length xs
place_below n [] h = absurd (cc)
place_below n (x ∷ xs) h = either (nat_eq n x) (nat_eq x n) (grind (arith, nat_tests)) h (place_below n xs)
  where
    either : (b c : Bool) → b ≡ c → (b || is_among n xs) ≡ true → (is_among n xs ≡ true → place_in xs n < length xs) → cond c 0 (suc (place_in xs n)) < suc (length xs)
    either b true e k next = omega arith
    either true false e k next = absurd (cc)
    either false false e k next = let lt = next k in omega (arith, lt)

plain_negated : (n : ℕ) → in_range (negsuc n) ≡ true → is_plain (pos 0 -ℤ negsuc n) ≡ true
unfolding in_range
plain_negated n h =
    let e : pos 0 -ℤ negsuc n ≡ pos (n + 1) = omega (arith, ints) in
    let k : nat_lt (n + 1) (2 ^ 63) ≡ true = grind (arith, nat_tests) in
    ap is_plain e ∙ k

plain_pos : (n : ℕ) → in_range (pos n) ≡ true → is_plain (pos n) ≡ true
unfolding in_range
plain_pos n h = h

literal_in_range : (k : Kind) (zs : List ℤ) → is_number k zs ≡ true → in_range (number_of zs) ≡ true
literal_in_range Num (z ∷ []) h = h
literal_in_range Num [] h = absurd (cc)
literal_in_range Num (z ∷ y ∷ zs) h = absurd (cc)
literal_in_range Char zs h = absurd (cc)

-- the names that were assigned are variables
abbrev pub Stored : Site → Ready → Type 0
Stored g r = (n : ℕ) → is_among n r.stored ≡ true → is_variable (scope_at g n) ≡ true

module _ (sc : formed.Scope) where
  -- ---- Expressions

  pub number_formed : (n room : ℕ) → n < 5000 → is_expr sc (expr.Lit (pos n)) (Some room) ≡ true
  number_formed n room lt = lit_formed sc n (omega (arith, lt)) room

  pub bin_at : (o : _) (a b : CExpr) (room : ℕ) → is_expr sc a (Some room) ≡ true → is_expr sc b (Some room) ≡ true → is_expr sc (expr.Bin o a b) (Some (suc room)) ≡ true
  bin_at o a b room h k = is_Bin sc o a b (Some (suc room)) ∙ both_true (is_expr sc a (Some room)) (is_expr sc b (Some room)) h k

  -- a variable beside a number
  pub beside_number : (o : _) (x : Int) (n room : ℕ) → is_int sc x ≡ true → n < 5000 → 1 ≤ room → is_expr sc (expr.Bin o (expr.Var x) (expr.Lit (pos n))) (Some room) ≡ true
  beside_number o x n zero h lt le = absurd (omega (arith, le))
  beside_number o x n (suc r) h lt le = bin_at o (expr.Var x) (expr.Lit (pos n)) r (var_formed sc x h r) (number_formed n r lt)

  pub literal_formed : (z : ℤ) (room : ℕ) → 1 ≤ room → in_range z ≡ true → is_expr sc (literal_expr z) (Some room) ≡ true
  literal_formed z zero le h = absurd (omega (arith, le))
  literal_formed (pos n) (suc r) le h =
      let e : int_lt (pos n) (pos 0) ≡ false = grind (arith, nat_tests) in
      ap (λ b. is_expr sc (cond b (expr.Bin op.Sub (expr.Lit (pos 0)) (expr.Lit (pos 0 -ℤ pos n))) (expr.Lit (pos n))) (Some (suc r))) e
      ∙ is_Lit sc (pos n) (Some (suc r)) ∙ plain_pos n h
  literal_formed (negsuc n) (suc r) le h =
      let e : int_lt (negsuc n) (pos 0) ≡ true = grind (arith, nat_tests) in
      ap (λ b. is_expr sc (cond b (expr.Bin op.Sub (expr.Lit (pos 0)) (expr.Lit (pos 0 -ℤ negsuc n))) (expr.Lit (negsuc n))) (Some (suc r))) e
      ∙ bin_at op.Sub (expr.Lit (pos 0)) (expr.Lit (pos 0 -ℤ negsuc n)) r (number_formed 0 r (omega arith)) (is_Lit sc (pos 0 -ℤ negsuc n) (Some r) ∙ plain_negated n h)

  pub guard_formed : (x : Int) (room : ℕ) → 1 ≤ room → is_int sc x ≡ true → are_stmts sc (guard x) (Some room) ≡ true
  guard_formed x room le h =
      one_stmt sc (Some room) (stmt.If (expr.Bin op.Equal (expr.Var x) (expr.Lit (pos 0))) (stmt.Fault fault.Value ∷ []) None) []
      (if_formed sc 0 room (expr.Bin op.Equal (expr.Var x) (expr.Lit (pos 0))) (stmt.Fault fault.Value ∷ []) (omega (arith, le)) (beside_number op.Equal x 0 room h (omega arith) le)
      (λ q b. one_stmt sc (Some q) (stmt.Fault fault.Value) [] (is_Fault sc fault.Value (Some q)) refl)) refl

  pub one : (s : CStmt) (room : ℕ) → is_stmt sc s (Some room) ≡ true → are_stmts sc (s ∷ []) (Some room) ≡ true
  one s room h = one_stmt sc (Some room) s [] h refl

  pub two : (s t : CStmt) (room : ℕ) → is_stmt sc s (Some room) ≡ true → is_stmt sc t (Some room) ≡ true → are_stmts sc (s ∷ t ∷ []) (Some room) ≡ true
  two s t room h k = one_stmt sc (Some room) s (t ∷ []) h (one t room k)

  pub joined : (a b : List CStmt) (room : ℕ) → are_stmts sc a (Some room) ≡ true → are_stmts sc b (Some room) ≡ true → are_stmts sc (a ++ b) (Some room) ≡ true
  joined a b room h k = stmts_append sc (Some room) a b h k

  -- code that stands alone where a test is false
  pub unless_formed : (b : Bool) (a : List CStmt) (room : ℕ) → (b ≡ false → are_stmts sc a (Some room) ≡ true) → are_stmts sc (cond b [] a) (Some room) ≡ true
  unless_formed true a room h = refl
  unless_formed false a room h = h refl

  module _ (g : Site) (enough : base g ≤ sc.ints) (others : global_ints g.layout ≤ sc.global_ints) where
    -- ---- Names

    pub local_int : (k : ℕ) → k < base g → is_int sc (int.Local k) ≡ true
    local_int k lt = is_below k sc.ints (omega (arith, lt, enough))

    pub local_value_int : (n : ℕ) → is_among n (the_frame g).names ≡ true → is_int sc (local_value g n) ≡ true
    local_value_int n h = let lt = place_below n (the_frame g).names h in local_int (place_in (the_frame g).names n) (omega (arith, lt))

    pub local_flag_int : (n : ℕ) → is_among n (the_frame g).unsure ≡ true → is_int sc (local_flag g n) ≡ true
    local_flag_int n h = let lt = place_below n (the_frame g).unsure h in local_int (length (the_frame g).names + place_in (the_frame g).unsure n) (omega (arith, lt))

    pub value_int : (x : Scope) (n : ℕ) → is_variable x ≡ true → has_place g x n ≡ true → is_int sc (value_place g x n) ≡ true
    value_int scope.Local n v h = local_value_int n h
    value_int scope.Global n v h =
        let lt = place_below n g.layout.globals h in
        is_below (global_base g.layout + place_in g.layout.globals n) sc.global_ints (omega (arith, lt, others))
    value_int (scope.Label z) n v h = absurd (cc)
    value_int (scope.Function j) n v h = absurd (cc)

    pub flag_int : (x : Scope) (n : ℕ) → is_variable x ≡ true → is_unsure g x n ≡ true → is_int sc (flag_place g x n) ≡ true
    flag_int scope.Local n v h = local_flag_int n h
    flag_int scope.Global n v h =
        let lt = place_below n g.layout.unsure h in
        is_below (global_base g.layout + length g.layout.globals + place_in g.layout.unsure n) sc.global_ints (omega (arith, lt, others))
    flag_int (scope.Label z) n v h = absurd (cc)
    flag_int (scope.Function j) n v h = absurd (cc)

    pub slot_int : (k : ℕ) → nat_lt k (the_frame g).slots ≡ true → is_int sc (int.Local (slot_place g k)) ≡ true
    slot_int k h = let lt = below_of k (the_frame g).slots h in local_int (slot_place g k) (omega (arith, lt))

    variable_readable : (x : Scope) → is_variable x ≡ true → is_readable x ≡ true
    variable_readable scope.Local h = refl
    variable_readable scope.Global h = refl
    variable_readable (scope.Label z) h = absurd (cc)
    variable_readable (scope.Function j) h = absurd (cc)

    readable : (b : Bool) (r : Ready) (n : ℕ) → Stored g r → is_read b r.stored n (scope_at g n) ≡ true → is_readable (scope_at g n) ≡ true
    readable true r n st h = variable_readable (scope_at g n) (and_left (is_variable (scope_at g n)) (is_among n r.stored) h)
    readable false r n st h = h

    name_formed : (x : Scope) (n room : ℕ) → is_readable x ≡ true → has_place g x n ≡ true → 1 ≤ room → is_expr sc (name_operand g x n) (Some room) ≡ true
    name_formed scope.Local n room v h le = var_formed sc (local_value g n) (value_int scope.Local n refl h) room
    name_formed scope.Global n room v h le = var_formed sc (value_place g scope.Global n) (value_int scope.Global n refl h) room
    name_formed (scope.Label z) n room v h le = literal_formed z room le v
    name_formed (scope.Function j) n room v h le = absurd (cc)

    read_formed : (known : List ℕ) (x : Scope) (n room : ℕ) → is_readable x ≡ true → is_flagged g known x n ≡ true → 1 ≤ room → are_stmts sc (read_code g known x n) (Some room) ≡ true
    read_formed known scope.Local n room v h le =
        unless_formed (is_among n known) (guard (flag_place g scope.Local n)) room
        (λ e. guard_formed (flag_place g scope.Local n) room le (flag_int scope.Local n refl (or_last (is_among n known) (is_unsure g scope.Local n) h e)))
    read_formed known scope.Global n room v h le =
        unless_formed (is_among n known) (guard (flag_place g scope.Global n)) room
        (λ e. guard_formed (flag_place g scope.Global n) room le (flag_int scope.Global n refl (or_last (is_among n known) (is_unsure g scope.Global n) h e)))
    read_formed known (scope.Label z) n room v h le = refl
    read_formed known (scope.Function j) n room v h le = absurd (cc)

    -- ---- Trees

    pub operand_formed : (known : List ℕ) (k room : ℕ) (l : Told) (r : Ready) (t : Term) → Stored g r → is_term (scope_at g) l r t ≡ true → is_laid_term g known t ≡ true → k + width t ≤ sc.ints → 1 ≤ room → is_expr sc (operand g k t) (Some room) ≡ true
    operand_formed known k room l r (Literal i kind zs) st ok laid le big = literal_formed (number_of zs) room big (literal_in_range kind zs ok)
    operand_formed known k room l r (Read i n) st ok laid le big =
        name_formed (scope_at g n) n room (readable (is_among i l.assigned) r n st ok) (and_left (has_place g (scope_at g n) n) (is_flagged g known (scope_at g n) n) laid) big
    operand_formed known k room l r (Slot i j) st ok laid le big = var_formed sc (int.Local (slot_place g j)) (slot_int j laid) room
    operand_formed known k room l r (Mono i p b) st ok laid le big =
        let one_more : 1 ≤ max 1 (width b) = le-max_left 1 (width b) in
        let inner : width b ≤ max 1 (width b) = le-max_right 1 (width b) in
        either (is_minus p) (omega (arith, le, one_more)) (operand_formed known k room l r b st (and_right (is_sign p) (is_term (scope_at g) l r b) ok) laid (omega (arith, le, inner)) big)
      where
        either : (m : Bool) → k < sc.ints → is_expr sc (operand g k b) (Some room) ≡ true → is_expr sc (cond m (local k) (operand g k b)) (Some room) ≡ true
        either true lt h = var_formed sc (int.Local k) (is_below k sc.ints lt) room
        either false lt h = h
    operand_formed known k room l r (Dyad i p a b) st ok laid le big =
        let more : 1 + width a ≤ max (width b) (1 + width a) = le-max_right (width b) (1 + width a) in
        var_formed sc (int.Local k) (is_below k sc.ints (omega (arith, le, more))) room
    operand_formed known k room l r (Index i a xs) st ok laid le big = absurd (cc)

    minus_formed : (m : Bool) (k room : ℕ) (e : CExpr) → (m ≡ true → k < sc.ints) → ((q : ℕ) → 1 ≤ q → is_expr sc e (Some q) ≡ true) → 2 ≤ room → are_stmts sc (minus_code k m e) (Some room) ≡ true
    minus_formed false k room e lt h le = refl
    minus_formed true k room e lt h le =
        one (stmt.Check (int.Local k) checked.Sub (expr.Lit (pos 0)) e) room
        (check_formed sc (Some room) (int.Local k) checked.Sub (expr.Lit (pos 0)) e (is_below k sc.ints (lt refl)) (number_formed 0 room (omega (arith, le))) (h room (omega (arith, le))))

    check_turned : (turned : Bool) (k room : ℕ) (p : Primitive) (x y : CExpr) → k < sc.ints → is_expr sc x (Some room) ≡ true → is_expr sc y (Some room) ≡ true → are_stmts sc (checked_code k p turned x y ∷ []) (Some room) ≡ true
    check_turned true k room p x y lt h j = one (checked_code k p true x y) room (check_formed sc (Some room) (int.Local k) (checked_of p) y x (is_below k sc.ints lt) j h)
    check_turned false k room p x y lt h j = one (checked_code k p false x y) room (check_formed sc (Some room) (int.Local k) (checked_of p) x y (is_below k sc.ints lt) h j)

    pub tree_formed : (known : List ℕ) (k room : ℕ) (l : Told) (r : Ready) (t : Term) → Stored g r → is_term (scope_at g) l r t ≡ true → is_laid_term g known t ≡ true → k + width t ≤ sc.ints → 2 ≤ room → are_stmts sc (tree_code g known k t) (Some room) ≡ true
    tree_formed known k room l r (Literal i kind zs) st ok laid le big = refl
    tree_formed known k room l r (Read i n) st ok laid le big =
        read_formed known (scope_at g n) n room (readable (is_among i l.assigned) r n st ok) (and_right (has_place g (scope_at g n) n) (is_flagged g known (scope_at g n) n) laid) (omega (arith, big))
    tree_formed known k room l r (Slot i j) st ok laid le big = refl
    tree_formed known k room l r (Mono i p b) st ok laid le big =
        let one_more : 1 ≤ max 1 (width b) = le-max_left 1 (width b) in
        let inner : width b ≤ max 1 (width b) = le-max_right 1 (width b) in
        let good = and_right (is_sign p) (is_term (scope_at g) l r b) ok in
        joined (tree_code g known k b) (minus_code k (is_minus p) (operand g k b)) room (tree_formed known k room l r b st good laid (omega (arith, le, inner)) big)
        (minus_formed (is_minus p) k room (operand g k b) (λ e. omega (arith, le, one_more)) (λ q le1. operand_formed known k q l r b st good laid (omega (arith, le, inner)) le1) big)
    tree_formed known k room l r (Dyad i p a b) st ok laid le big =
        let right_fits : width b ≤ max (width b) (1 + width a) = le-max_left (width b) (1 + width a) in
        let left_fits : 1 + width a ≤ max (width b) (1 + width a) = le-max_right (width b) (1 + width a) in
        let both = and_right (is_checked p) (is_term (scope_at g) l r a && is_term (scope_at g) l r b) ok in
        let left = and_left (is_term (scope_at g) l r a) (is_term (scope_at g) l r b) both in
        let right = and_right (is_term (scope_at g) l r a) (is_term (scope_at g) l r b) both in
        let right_laid = and_left (is_laid_term g known b) (is_laid_term g (known_after known b) a) laid in
        let left_laid = and_right (is_laid_term g known b) (is_laid_term g (known_after known b) a) laid in
        let x = operand g (k + 1) a in
        let y = operand g k b in
        let check = checked_code k p (is_times p && is_constant g a) x y in
        joined (tree_code g known k b) (tree_code g (known_after known b) (k + 1) a ++ check ∷ []) room (tree_formed known k room l r b st right right_laid (omega (arith, le, right_fits)) big)
        (joined (tree_code g (known_after known b) (k + 1) a) (check ∷ []) room (tree_formed (known_after known b) (k + 1) room l r a st left left_laid (omega (arith, le, left_fits)) big)
        (check_turned (is_times p && is_constant g a) k room p x y (omega (arith, le, left_fits))
        (operand_formed (known_after known b) (k + 1) room l r a st left left_laid (omega (arith, le, left_fits)) (omega (arith, big)))
        (operand_formed known k room l r b st right right_laid (omega (arith, le, right_fits)) (omega (arith, big)))))
    tree_formed known k room l r (Index i a xs) st ok laid le big = absurd (cc)

-- What the statements of one element print.
use Rattle.std.proofs.Common.{◌≡◌, ℕ, zero, suc, ◌+◌, ◌-◌, ◌<◌, ◌≤◌, List, [], ◌∷◌, ◌++◌, refl, sym, ap, ap₂, ◌∙◌, subst, arith, append-nil, length, decimal, ℤ, Bool, true, false}
use Rattle.std.specs.Prelude.{pos, negsuc, ◌^◌, ◌/◌, ◌%◌, replicate, slice_get, option_and_then, encode_utf8, int_lt, unsigned_abs, ◌&&◌}
use Rattle.std.specs.Int.RustNames.{int_le}
use Rattle.std.proofs.lemmas.Str.{encode_ascii}
use Rattle.std.proofs.lemmas.List.{length-append}
use Rattle.std.proofs.lemmas.Fmt.{decimal_digit, decimal_nonempty, decimal_by_steps, length-decimal-le}
use Rattle.std.proofs.lemmas.Bool.Decides.{nat_tests}
use Rattle.aplc_scalar.specs.declared.kind.Kind.TheVariants.{Num, Char}
use Rattle.aplc_scalar.specs.Scalar.{in_range, truth}
use Rattle.aplc_arr.proofs.Texts.{number-in_utf8}
use Rattle.aplc_cprof.specs.declared.syntax.Int.{Int}
use Rattle.aplc_cprof.specs.declared.syntax.Buf.{Buf}
use Rattle.aplc_cprof.specs.declared.syntax.Buf.TheVariants as buf
use Rattle.aplc_cprof.specs.declared.syntax.Op.TheVariants as op
use Rattle.aplc_cprof.specs.declared.syntax.CExpr.{CExpr}
use Rattle.aplc_cprof.specs.declared.syntax.CExpr.TheVariants as expr
use Rattle.aplc_cprof.specs.declared.syntax.CStmt.TheVariants as stmt
use Rattle.aplc_cprof.specs.Machine.{State, Code, Is, apply, at_place, live_cell, or_outside, read_int, named_buf, value, settled, text_width, padded_text, is_scalar}
use Rattle.aplc_cprof.proofs.Values.{value_Var, value_Lit, value_Cell, ranged_below}
use Rattle.aplc_cprof.proofs.Frames.{read_settled}
use Rattle.aplc_cprof.proofs.Counting.{bin_value, with_literal_value}
use Rattle.aplc_quad.specs.declared.printing.Columns.{Columns}
use Rattle.aplc_quad.specs.declared.printing.Columns.TheVariants.{Characters, Numbers, Justified}
use Rattle.aplc_quad.specs.Rows.{width, justified_bytes, gap_before}
use Rattle.aplc_quad.specs.Printing.{later, is_digit, width_at, is_narrow, digit, number_stmt, element_stmt, gap_stmts}
use Rattle.aplc_quad.specs.Printed.{Puts, kind_of, HoldsWidth, Laid, Fits}
use Rattle.aplc_quad.proofs.Puts.{puts_none, puts_steps, puts_when, puts_either, puts_char, puts_num}

-- ---- Widths of numbers

pub width_is : (z : ℤ) → text_width z ≡ width Num z
width_is (pos n) = refl
width_is (negsuc n) = omega arith

-- a number has no more digits than its text
pub digits_enough : (n : ℕ) → n < 2 ^ 64 → n < 10 ^ length (decimal n)
digits_enough = decimal_by_steps (λ m ds. m < 10 ^ length ds) (λ m l. omega arith) (λ m ds l h. more m ds (length-append ds ((48 + m % 10) ∷ [])) h)
  where
    more : (m : ℕ) (ds : List ℕ) → length (ds ++ (48 + m % 10) ∷ []) ≡ length ds + 1 → m / 10 < 10 ^ length ds → m < 10 ^ length (ds ++ (48 + m % 10) ∷ [])
    more m ds e h = let e' : length (ds ++ (48 + m % 10) ∷ []) ≡ suc (length ds) = omega (arith, e) in subst (λ k. m < 10 ^ k) (sym e') (omega (arith, h))

-- a larger number has no fewer digits
pub digits_rise : (m n : ℕ) → m ≤ n → n < 2 ^ 64 → length (decimal m) ≤ length (decimal n)
digits_rise m n le small =
    let d = digits_enough n small in
    length-decimal-le (length (decimal n)) m (decimal_nonempty n small) (omega (arith, le, d)) (omega (arith, le, small))

pub magnitude : (z : ℤ) → in_range z ≡ true → unsigned_abs z < 2 ^ 63
unfolding in_range
magnitude z e = grind (arith, nat_tests)

-- the text of a number of the range has at most 20 characters
pub width_most : (z : ℤ) → in_range z ≡ true → width Num z ≤ 20
width_most (pos n) e = let lt = magnitude (pos n) e in let h = length-decimal-le 19 n (omega arith) (omega (arith, lt)) (omega (arith, lt)) in omega (arith, h)
width_most (negsuc n) e = let lt = magnitude (negsuc n) e in let h = length-decimal-le 19 (n + 1) (omega arith) (omega (arith, lt)) (omega (arith, lt)) in omega (arith, h)

-- ---- Bytes

-- with no width to fill, the bytes of an element are its text
no_blanks : (w : ℕ) (t : List ℕ) → replicate (0 - w) 32 ++ t ≡ t
no_blanks w t = let z : 0 - w ≡ 0 = omega arith in ap (λ m. replicate m 32 ++ t) z

-- a number that is put to a width
number_put : (w : ℕ) (z : ℤ) → in_range z ≡ true → padded_text z w ≡ justified_bytes Num w z
number_put w z e = ap₂ (λ m t. replicate (w - m) 32 ++ t) (width_is z) (sym (number-in_utf8 z e))

-- a character that is put
character_put : (k : ℕ) → encode_utf8 k ≡ justified_bytes Char 0 (pos k)
character_put k = sym (append-nil (encode_utf8 k)) ∙ sym (no_blanks 1 (encode_utf8 k ++ []))

pub both_tests : (p q : Bool) → apply op.And (Is (truth p)) (Is (truth q)) ≡ Is (truth (p && q))
both_tests true true = refl
both_tests true false = refl
both_tests false true = refl
both_tests false false = refl

-- a number of one digit
record Digit (z : ℤ) : Type 0 where
  pub number : ℕ
  pub is : z ≡ pos number
  pub below : number < 10

digit_of : (z : ℤ) → (int_le (pos 0) z && int_lt z (pos 10)) ≡ true → Digit z
digit_of (pos d) e = record { number = d; is = refl; below = grind (arith, nat_tests) }
digit_of (negsuc d) e = absurd (grind (arith, nat_tests))

-- a number whose text is one character
digit_by_width : (z : ℤ) → in_range z ≡ true → width Num z < 2 → Digit z
digit_by_width (pos d) e lt =
    let m = magnitude (pos d) e in
    let h = digits_enough d (omega (arith, m)) in
    record { number = d; is = refl; below = one (length (decimal d)) lt h }
  where
    one : (k : ℕ) → k < 2 → d < 10 ^ k → d < 10
    one zero l h = omega (arith, h)
    one (suc zero) l h = omega (arith, h)
    one (suc (suc k)) l h = absurd (omega (arith, l))
digit_by_width (negsuc d) e lt =
    let m = magnitude (negsuc d) e in
    let h = decimal_nonempty (d + 1) (omega (arith, m)) in
    absurd (omega (arith, lt, h))

-- a digit stands at its width for itself
digit_text : (w d : ℕ) → d < 10 → w < 2 → decimal d ≡ padded_text (pos d) w
digit_text w d lt narrow =
    let one : length (decimal d) ≡ 1 = ap length (decimal_digit d lt) in
    let z : w - length (decimal d) ≡ 0 = omega (arith, one, narrow) in
    sym (ap (λ m. replicate m 32 ++ decimal d) z)

module _ (c : Code) (n m : ℕ) where
  -- the blank before an element, but for the first one
  blank_does : (column : Int) (j : ℕ) (s : State) → read_int column s ≡ Is (pos j) → Puts c n m 2 (gap_stmts Numbers column) s (gap_before Num j)
  blank_does column zero s is = puts_when c n m 1 (later column) (stmt.PutChar (expr.Lit (pos 32)) ∷ []) s (32 ∷ []) false (with_literal_value c.tables s op.Greater column (pos 0) (pos 0) is) (blank (settled s))
    where
      blank : (t : State) → Puts c n m 1 (stmt.PutChar (expr.Lit (pos 32)) ∷ []) t (32 ∷ [])
      blank t = subst (λ b. Puts c n m 1 (stmt.PutChar (expr.Lit (pos 32)) ∷ []) t b) (encode_ascii 32 (omega arith)) (puts_char c n m (expr.Lit (pos 32)) 32 t (value_Lit (pos 32) c.tables t) refl)
  blank_does column (suc j) s is =
      let positive : truth (int_lt (pos 0) (pos (suc j))) ≡ truth true = grind (arith, nat_tests) in
      puts_when c n m 1 (later column) (stmt.PutChar (expr.Lit (pos 32)) ∷ []) s (32 ∷ []) true (with_literal_value c.tables s op.Greater column (pos 0) (pos (suc j)) is ∙ ap Is positive) (blank (settled s))
    where
      blank : (t : State) → Puts c n m 1 (stmt.PutChar (expr.Lit (pos 32)) ∷ []) t (32 ∷ [])
      blank t = subst (λ b. Puts c n m 1 (stmt.PutChar (expr.Lit (pos 32)) ∷ []) t b) (encode_ascii 32 (omega arith)) (puts_char c n m (expr.Lit (pos 32)) 32 t (value_Lit (pos 32) c.tables t) refl)

  -- what parts an element from those before it
  pub gap_does : (columns : Columns) (column : Int) (j : ℕ) (s : State) → read_int column s ≡ Is (pos j) → Puts c n m 2 (gap_stmts columns column) s (gap_before (kind_of columns) j)
  gap_does Characters column zero s is = puts_steps c n m 0 2 [] s [] (omega arith) (puts_none c n m s)
  gap_does Characters column (suc j) s is = puts_steps c n m 0 2 [] s [] (omega arith) (puts_none c n m s)
  gap_does Numbers column j s is = blank_does column j s is
  gap_does (Justified widths) column j s is = blank_does column j s is

  -- a digit is printed as a character
  digit_does : (v : Int) (d : ℕ) (s : State) → read_int v s ≡ Is (pos d) → d < 10 → Puts c n m 1 (stmt.PutChar (digit v) ∷ []) s (decimal d)
  digit_does v d s is lt =
      let sum : value (digit v) c.tables s ≡ Is (pos (48 + d)) = bin_value c.tables s op.Add (expr.Lit (pos 48)) (expr.Var v) (pos 48) (pos d) (value_Lit (pos 48) c.tables s) (value_Var v c.tables s ∙ is) ∙ ranged_below (48 + d) (omega (arith, lt)) in
      let scalar : is_scalar (48 + d) ≡ true = grind (arith, nat_tests) in
      let text : encode_utf8 (48 + d) ≡ decimal d = encode_ascii (48 + d) (omega (arith, lt)) ∙ sym (decimal_digit d lt) in
      subst (λ b. Puts c n m 1 (stmt.PutChar (digit v) ∷ []) s b) text (puts_char c n m (digit v) (48 + d) s sum scalar)

  -- one of two ways to print a number, by a test that holds for digits alone
  number_does : (test wide : CExpr) (v : Int) (z : ℤ) (w : ℕ) (b : Bool) (s : State) → in_range z ≡ true → w ≤ 20 → read_int v s ≡ Is z → value test c.tables s ≡ Is (truth b) → ((t : State) → value wide c.tables (settled s) ≡ Is (pos w)) → (b ≡ true → Digit z × (w < 2)) → Puts c n m 2 (number_stmt test wide v ∷ []) s (justified_bytes Num w z)
  number_does test wide v z w b s range most is is_test is_wide narrow =
      subst (λ text. Puts c n m 2 (number_stmt test wide v ∷ []) s text) (number_put w z range)
      (puts_either c n m 1 test (stmt.PutChar (digit v) ∷ []) (stmt.PutNum (expr.Var v) wide ∷ []) s (padded_text z w) b is_test
      (λ e. by_digit (narrow e).0 (narrow e).1)
      (λ e. puts_num c n m v wide z w (settled s) here (is_wide s) most))
    where
      here : read_int v (settled s) ≡ Is z
      here = read_settled v s ∙ is

      by_digit : Digit z → w < 2 → Puts c n m 1 (stmt.PutChar (digit v) ∷ []) (settled s) (padded_text z w)
      by_digit d lt =
          subst (λ text. Puts c n m 1 (stmt.PutChar (digit v) ∷ []) (settled s) text) (digit_text w d.number d.below lt ∙ ap (λ y. padded_text y w) (sym d.is))
          (digit_does v d.number (settled s) (here ∙ ap Is d.is) d.below)

  -- a character, or a number without a width
  pub plain_does : (columns : Columns) (column v : Int) (w : ℕ) (z : ℤ) (s : State) → ((widths : Buf) → columns ≡ Justified widths → ⊥) → read_int v s ≡ Is z → Fits columns w z → Puts c n m 2 (element_stmt columns column v ∷ []) s (justified_bytes (kind_of columns) w z)
  plain_does Characters column v w z s plain is (e, (k, ez, scalar)) =
      subst (λ x. Puts c n m 2 (stmt.PutChar (expr.Var v) ∷ []) s (justified_bytes Char x z)) (sym e)
      (subst (λ x. Puts c n m 2 (stmt.PutChar (expr.Var v) ∷ []) s (justified_bytes Char 0 x)) (sym ez)
      (subst (λ b. Puts c n m 2 (stmt.PutChar (expr.Var v) ∷ []) s b) (character_put k)
      (puts_steps c n m 1 2 (stmt.PutChar (expr.Var v) ∷ []) s (encode_utf8 k) (omega arith) (puts_char c n m (expr.Var v) k s (value_Var v c.tables s ∙ is ∙ ap Is ez) scalar))))
  plain_does Numbers column v w z s plain is (e, range) =
      let least = bin_value c.tables s op.GreaterEq (expr.Var v) (expr.Lit (pos 0)) z (pos 0) (value_Var v c.tables s ∙ is) (value_Lit (pos 0) c.tables s) in
      let most = bin_value c.tables s op.Less (expr.Var v) (expr.Lit (pos 10)) z (pos 10) (value_Var v c.tables s ∙ is) (value_Lit (pos 10) c.tables s) in
      let test = bin_value c.tables s op.And (expr.Bin op.GreaterEq (expr.Var v) (expr.Lit (pos 0))) (expr.Bin op.Less (expr.Var v) (expr.Lit (pos 10))) (truth (int_le (pos 0) z)) (truth (int_lt z (pos 10))) least most ∙ both_tests (int_le (pos 0) z) (int_lt z (pos 10)) in
      subst (λ x. Puts c n m 2 (number_stmt (is_digit v) (expr.Lit (pos 0)) v ∷ []) s (justified_bytes Num x z)) (sym e)
      (number_does (is_digit v) (expr.Lit (pos 0)) v z 0 (int_le (pos 0) z && int_lt z (pos 10)) s range (omega arith) is test (λ t. value_Lit (pos 0) c.tables (settled s)) (λ h. (digit_of z h, omega arith)))
  plain_does (Justified widths) column v w z s plain is fits = absurd (plain widths refl)

  -- an element
  pub element_does : (columns : Columns) (column v : Int) (j w : ℕ) (z : ℤ) (s : State) → read_int column s ≡ Is (pos j) → read_int v s ≡ Is z → Laid columns s j w → Fits columns w z → Puts c n m 2 (element_stmt columns column v ∷ []) s (justified_bytes (kind_of columns) w z)
  element_does Characters column v j w z s at is laid fits = plain_does Characters column v w z s (λ p e. cc) is fits
  element_does Numbers column v j w z s at is laid fits = plain_does Numbers column v w z s (λ p e. cc) is fits
  element_does (Justified widths) column v j w z s at is laid (wide, most, range) =
      let test = bin_value c.tables s op.Less (width_at widths column) (expr.Lit (pos 2)) (pos w) (pos 2) (width_is_there s laid at) (value_Lit (pos 2) c.tables s) in
      number_does (is_narrow widths column) (width_at widths column) v z w (int_lt (pos w) (pos 2)) s range most is test (λ t. width_is_there (settled s) (on_settled laid) (read_settled column s ∙ at))
      (λ e. let narrow : w < 2 = grind (arith, nat_tests) in (digit_by_width z range (omega (arith, wide, narrow)), narrow))
    where
      on_settled : HoldsWidth widths s j w → HoldsWidth widths (settled s) j w
      on_settled h = record { buffer = h.buffer; cells = h.cells; named = named_settled widths ∙ h.named; live = h.live; cell = h.cell }
        where
          named_settled : (p : Buf) → named_buf p (settled s) ≡ named_buf p s
          named_settled (buf.Local k) = refl
          named_settled (buf.Global k) = refl

      width_is_there : (t : State) → HoldsWidth widths t j w → read_int column t ≡ Is (pos j) → value (width_at widths column) c.tables t ≡ Is (pos w)
      width_is_there t h e =
          value_Cell widths (expr.Var column) c.tables t
          ∙ ap (λ v. at_place v (live_cell (option_and_then (slice_get t.heap) (named_buf widths t)))) (value_Var column c.tables t ∙ e)
          ∙ ap (λ o. live_cell (option_and_then (slice_get t.heap) o) (pos j)) h.named
          ∙ ap (λ o. live_cell o (pos j)) h.live
          ∙ ap or_outside h.cell

-- What the definitions say of small programs, next to what was worked out by hand.
use Rattle.std.proofs.Common.{◌≡◌, ◌∙◌, refl, ap, ℕ, List, [], ◌∷◌, ◌++◌, codes, decimal, replicate, arith}
use Rattle.std.proofs.lemmas.Fmt.{decimal_digit, decimal_step}
use Rattle.std.specs.Prelude.{pos, negsuc, Some, true, false}
use Rattle.aplc_cprof.specs.declared.syntax.CStmt.TheVariants as stmt
use Rattle.aplc_cprof.specs.declared.syntax.Arm.{Arm}
use Rattle.aplc_cprof.specs.Text.{int_name, function_text}
use Rattle.aplc_cprof.specs.WellFormed.{Scope, is_name, is_plain, is_stmt, is_formed, IsWellFormed}
use Rattle.aplc_cprof.specs.Examples.{v0, literal, sample_function, sample}
use Rattle.aplc_cprof.proofs.Equations.{texts, expr_texts}
use Rattle.aplc_cprof.proofs.Forms.{forms, expr_forms}

-- ---- The sample

pub sample_well_formed : IsWellFormed sample
unfolding is_formed
sample_well_formed = simp (forms, expr_forms) refl

pub sample_text : function_text 0 sample_function ≡ codes "static void f0(void) {\nint64_t v0;\nv0 = 4LL;\nv0 = mul(3LL, v0);\nat(\"MAIN\", 1);\nput_num(v0, 0LL);\nput_char(10LL);\nv0 = (0LL - 5LL);\n}\n"
unfolding int_name
sample_text =
    let d0 : decimal 0 ≡ codes "0" = decimal_digit 0 (omega arith) in
    let d1 : decimal 1 ≡ codes "1" = decimal_digit 1 (omega arith) in
    let d3 : decimal 3 ≡ codes "3" = decimal_digit 3 (omega arith) in
    let d4 : decimal 4 ≡ codes "4" = decimal_digit 4 (omega arith) in
    let d5 : decimal 5 ≡ codes "5" = decimal_digit 5 (omega arith) in
    let d10 : decimal 10 ≡ codes "10" = decimal_step 10 (omega arith) (omega arith) ∙ ap (λ t. t ++ codes "0") d1 in
    simp (texts, expr_texts) (rw (d0, d1, d3, d4, d5, d10) refl)

-- ---- Names of functions of APL

name_main : is_name (codes "MAIN") ≡ true
name_main = refl

-- `_∆1⍙`
name_marks : is_name (95 ∷ 226 ∷ 136 ∷ 134 ∷ 49 ∷ 226 ∷ 141 ∷ 153 ∷ []) ≡ true
name_marks = refl

name_empty : is_name [] ≡ false
name_empty = refl

name_digit : is_name (codes "1A") ≡ false
name_digit = refl

name_blank : is_name (codes "A B") ≡ false
name_blank = refl

name_cut : is_name (65 ∷ 226 ∷ 136 ∷ []) ≡ false
name_cut = refl

name_63 : is_name (replicate 63 65) ≡ true
name_63 = refl

name_64 : is_name (replicate 64 65) ≡ false
name_64 = refl

-- ---- Numbers

plain_most : is_plain (pos 9223372036854775807) ≡ true
plain_most = refl

plain_over : is_plain (pos 9223372036854775808) ≡ false
plain_over = refl

plain_negative : is_plain (negsuc 0) ≡ false
plain_negative = refl

-- ---- Statements, where one variable is declared

abbrev one : Scope
one = record { ints = 1; bufs = 0; global_ints = 0; global_bufs = 0; tables = 0; functions = 1 }

-- a switch opens two braces
switch_two : is_stmt one (stmt.Switch v0 [] []) (Some 2) ≡ true
switch_two = simp forms refl

switch_one : is_stmt one (stmt.Switch v0 [] []) (Some 1) ≡ false
switch_one = simp forms refl

-- the parentheses of a condition open nothing, its brace does
while_one : is_stmt one (stmt.While (literal 1) []) (Some 1) ≡ true
while_one = simp (forms, expr_forms) refl

while_full : is_stmt one (stmt.While (literal 1) []) (Some 0) ≡ false
while_full = simp (forms, expr_forms) refl

-- the numbers of a switch rise
abbrev arms : ℕ → ℕ → List Arm
arms m n = record { value = pos m; body = [] } ∷ record { value = pos n; body = [] } ∷ []

rises : is_stmt one (stmt.Switch v0 (arms 0 3) []) (Some 2) ≡ true
rises = simp forms refl

stays : is_stmt one (stmt.Switch v0 (arms 3 3) []) (Some 2) ≡ false
stays = simp forms refl

no_function : is_stmt one (stmt.Call 1) (Some 256) ≡ false
no_function = simp forms refl

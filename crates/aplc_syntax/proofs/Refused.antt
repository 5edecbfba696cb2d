-- Refused sources, computed: each refusal stands at its place.
use Rattle.std.proofs.Common.{ℕ, zero, suc, ◌+◌, List, [], ◌∷◌, ◌++◌, pos, refl, arith, None}
use Rattle.std.specs.Prelude.{codes, slice_index_or}
use Rattle.std.specs.Char.{encode_utf8}
use Rattle.aplc_scalar.specs.declared.function.ScalarFn.TheVariants as f
use Rattle.aplc_lex.specs.Tokens.{refusal}
use Rattle.aplc_syntax.specs.Words.{sign}
use Rattle.aplc_syntax.specs.Grammar.{arith_fn, scalar2, no_number, numbers, E, operand, between, simple, value}
use Rattle.aplc_syntax.specs.Layout.{Row, row, Block, block, blocks, above, below}
use Rattle.aplc_syntax.specs.Refusals.{Stands, misheaded, misclosed, unclosed, in_statement, line_1000, undeclared, second_origin, not_bare, deep, strayed, formless, too_many}
use Rattle.aplc_syntax.specs.Reading.{reads}
use Rattle.aplc_syntax.proofs.Unique.{unread}
use Rattle.aplc_syntax.proofs.Sources.{Piece, blank, source, tokens_of, nm, digit, sym, nl, main, parts_in, first_words}

abbrev IsRefused : List Piece → ℕ → ℕ → Type 0
IsRefused ps n p = Stands (source ps) (tokens_of ps) (refusal n p)

abbrev block_at : List Piece → ℕ → Block
block_at ps i = slice_index_or (blocks (parts_in ps)) i (block (row 0 []) [] None)

abbrev row_at : List Row → ℕ → Row
row_at rs i = slice_index_or rs i (row 0 [])

-- FOO 3
pub no_such_function : IsRefused (main (nm (codes "FOO") ∷ blank ∷ digit 3 ∷ [])) 13 8
unfolding sign encode_utf8
no_such_function = in_statement {b = block_at (main (nm (codes "FOO") ∷ blank ∷ digit 3 ∷ [])) 0} {r = row_at (block_at (main (nm (codes "FOO") ∷ blank ∷ digit 3 ∷ [])) 0).body 0} (0, omega arith, refl) (0, omega arith, refl) (strayed refl)

-- A B←1
pub assigned_behind_name : IsRefused (main (nm (codes "A") ∷ blank ∷ nm (codes "B") ∷ sym (codes "←") ∷ digit 1 ∷ [])) 13 8
unfolding sign encode_utf8
assigned_behind_name = in_statement {b = block_at (main (nm (codes "A") ∷ blank ∷ nm (codes "B") ∷ sym (codes "←") ∷ digit 1 ∷ [])) 0} {r = row_at (block_at (main (nm (codes "A") ∷ blank ∷ nm (codes "B") ∷ sym (codes "←") ∷ digit 1 ∷ [])) 0).body 0} (0, omega arith, refl) (0, omega arith, refl) (strayed refl)

-- 33 parentheses
pub nested_33 : IsRefused (main (sym (codes "(") ∷ sym (codes "(") ∷ sym (codes "(") ∷ sym (codes "(") ∷ sym (codes "(") ∷ sym (codes "(") ∷ sym (codes "(") ∷ sym (codes "(") ∷ sym (codes "(") ∷ sym (codes "(") ∷ sym (codes "(") ∷ sym (codes "(") ∷ sym (codes "(") ∷ sym (codes "(") ∷ sym (codes "(") ∷ sym (codes "(") ∷ sym (codes "(") ∷ sym (codes "(") ∷ sym (codes "(") ∷ sym (codes "(") ∷ sym (codes "(") ∷ sym (codes "(") ∷ sym (codes "(") ∷ sym (codes "(") ∷ sym (codes "(") ∷ sym (codes "(") ∷ sym (codes "(") ∷ sym (codes "(") ∷ sym (codes "(") ∷ sym (codes "(") ∷ sym (codes "(") ∷ sym (codes "(") ∷ sym (codes "(") ∷ digit 1 ∷ sym (codes ")") ∷ sym (codes ")") ∷ sym (codes ")") ∷ sym (codes ")") ∷ sym (codes ")") ∷ sym (codes ")") ∷ sym (codes ")") ∷ sym (codes ")") ∷ sym (codes ")") ∷ sym (codes ")") ∷ sym (codes ")") ∷ sym (codes ")") ∷ sym (codes ")") ∷ sym (codes ")") ∷ sym (codes ")") ∷ sym (codes ")") ∷ sym (codes ")") ∷ sym (codes ")") ∷ sym (codes ")") ∷ sym (codes ")") ∷ sym (codes ")") ∷ sym (codes ")") ∷ sym (codes ")") ∷ sym (codes ")") ∷ sym (codes ")") ∷ sym (codes ")") ∷ sym (codes ")") ∷ sym (codes ")") ∷ sym (codes ")") ∷ sym (codes ")") ∷ sym (codes ")") ∷ sym (codes ")") ∷ sym (codes ")") ∷ [])) 8 40
unfolding sign encode_utf8
nested_33 = in_statement {b = block_at (main (sym (codes "(") ∷ sym (codes "(") ∷ sym (codes "(") ∷ sym (codes "(") ∷ sym (codes "(") ∷ sym (codes "(") ∷ sym (codes "(") ∷ sym (codes "(") ∷ sym (codes "(") ∷ sym (codes "(") ∷ sym (codes "(") ∷ sym (codes "(") ∷ sym (codes "(") ∷ sym (codes "(") ∷ sym (codes "(") ∷ sym (codes "(") ∷ sym (codes "(") ∷ sym (codes "(") ∷ sym (codes "(") ∷ sym (codes "(") ∷ sym (codes "(") ∷ sym (codes "(") ∷ sym (codes "(") ∷ sym (codes "(") ∷ sym (codes "(") ∷ sym (codes "(") ∷ sym (codes "(") ∷ sym (codes "(") ∷ sym (codes "(") ∷ sym (codes "(") ∷ sym (codes "(") ∷ sym (codes "(") ∷ sym (codes "(") ∷ digit 1 ∷ sym (codes ")") ∷ sym (codes ")") ∷ sym (codes ")") ∷ sym (codes ")") ∷ sym (codes ")") ∷ sym (codes ")") ∷ sym (codes ")") ∷ sym (codes ")") ∷ sym (codes ")") ∷ sym (codes ")") ∷ sym (codes ")") ∷ sym (codes ")") ∷ sym (codes ")") ∷ sym (codes ")") ∷ sym (codes ")") ∷ sym (codes ")") ∷ sym (codes ")") ∷ sym (codes ")") ∷ sym (codes ")") ∷ sym (codes ")") ∷ sym (codes ")") ∷ sym (codes ")") ∷ sym (codes ")") ∷ sym (codes ")") ∷ sym (codes ")") ∷ sym (codes ")") ∷ sym (codes ")") ∷ sym (codes ")") ∷ sym (codes ")") ∷ sym (codes ")") ∷ sym (codes ")") ∷ sym (codes ")") ∷ sym (codes ")") ∷ [])) 0} {r = row_at (block_at (main (sym (codes "(") ∷ sym (codes "(") ∷ sym (codes "(") ∷ sym (codes "(") ∷ sym (codes "(") ∷ sym (codes "(") ∷ sym (codes "(") ∷ sym (codes "(") ∷ sym (codes "(") ∷ sym (codes "(") ∷ sym (codes "(") ∷ sym (codes "(") ∷ sym (codes "(") ∷ sym (codes "(") ∷ sym (codes "(") ∷ sym (codes "(") ∷ sym (codes "(") ∷ sym (codes "(") ∷ sym (codes "(") ∷ sym (codes "(") ∷ sym (codes "(") ∷ sym (codes "(") ∷ sym (codes "(") ∷ sym (codes "(") ∷ sym (codes "(") ∷ sym (codes "(") ∷ sym (codes "(") ∷ sym (codes "(") ∷ sym (codes "(") ∷ sym (codes "(") ∷ sym (codes "(") ∷ sym (codes "(") ∷ sym (codes "(") ∷ digit 1 ∷ sym (codes ")") ∷ sym (codes ")") ∷ sym (codes ")") ∷ sym (codes ")") ∷ sym (codes ")") ∷ sym (codes ")") ∷ sym (codes ")") ∷ sym (codes ")") ∷ sym (codes ")") ∷ sym (codes ")") ∷ sym (codes ")") ∷ sym (codes ")") ∷ sym (codes ")") ∷ sym (codes ")") ∷ sym (codes ")") ∷ sym (codes ")") ∷ sym (codes ")") ∷ sym (codes ")") ∷ sym (codes ")") ∷ sym (codes ")") ∷ sym (codes ")") ∷ sym (codes ")") ∷ sym (codes ")") ∷ sym (codes ")") ∷ sym (codes ")") ∷ sym (codes ")") ∷ sym (codes ")") ∷ sym (codes ")") ∷ sym (codes ")") ∷ sym (codes ")") ∷ sym (codes ")") ∷ sym (codes ")") ∷ sym (codes ")") ∷ [])) 0).body 0} (0, omega arith, refl) (0, omega arith, refl) (deep refl)

-- ∇MAIN and 1, and no line that closes it
pub not_closed : IsRefused (sym (codes "∇") ∷ nm (codes "MAIN") ∷ nl ∷ digit 1 ∷ nl ∷ []) 6 0
unfolding sign encode_utf8
not_closed = unclosed {b = block_at (sym (codes "∇") ∷ nm (codes "MAIN") ∷ nl ∷ digit 1 ∷ nl ∷ []) 0} (0, omega arith, refl) refl (_, _, refl, refl)

-- a header with four names
pub four_names : IsRefused (sym (codes "∇") ∷ nm (codes "A") ∷ blank ∷ nm (codes "F") ∷ blank ∷ nm (codes "B") ∷ blank ∷ nm (codes "C") ∷ nl ∷ sym (codes "∇") ∷ nl ∷ []) 6 0
unfolding sign encode_utf8
four_names = misheaded {b = block_at (sym (codes "∇") ∷ nm (codes "A") ∷ blank ∷ nm (codes "F") ∷ blank ∷ nm (codes "B") ∷ blank ∷ nm (codes "C") ∷ nl ∷ sym (codes "∇") ∷ nl ∷ []) 0} (0, omega arith, refl) refl (_, _, refl, refl)

-- a closing del with a name behind it
pub long_closing : IsRefused (sym (codes "∇") ∷ nm (codes "F") ∷ nl ∷ sym (codes "∇") ∷ blank ∷ nm (codes "F") ∷ nl ∷ []) 6 5
unfolding sign encode_utf8
long_closing = misclosed {b = block_at (sym (codes "∇") ∷ nm (codes "F") ∷ nl ∷ sym (codes "∇") ∷ blank ∷ nm (codes "F") ∷ nl ∷ []) 0} (0, omega arith, refl) refl refl

-- ORIGIN 2
pub origin_2 : IsRefused (nm (codes "ORIGIN") ∷ blank ∷ digit 2 ∷ nl ∷ []) 11 0
unfolding sign encode_utf8
origin_2 = undeclared {r = row_at (above (parts_in (nm (codes "ORIGIN") ∷ blank ∷ digit 2 ∷ nl ∷ []))) 0} (0, omega arith, refl) refl (_, _, refl, refl)

-- VAR A NUM RANK 9
pub rank_9 : IsRefused (nl ∷ nm (codes "VAR") ∷ blank ∷ nm (codes "A") ∷ blank ∷ nm (codes "NUM") ∷ blank ∷ nm (codes "RANK") ∷ blank ∷ digit 9 ∷ nl ∷ []) 11 1
unfolding sign encode_utf8
rank_9 = undeclared {r = row_at (above (parts_in (nl ∷ nm (codes "VAR") ∷ blank ∷ nm (codes "A") ∷ blank ∷ nm (codes "NUM") ∷ blank ∷ nm (codes "RANK") ∷ blank ∷ digit 9 ∷ nl ∷ []))) 1} (1, omega arith, refl) refl (_, _, refl, refl)

-- ORIGIN twice
pub origin_twice : IsRefused (nm (codes "ORIGIN") ∷ blank ∷ digit 1 ∷ nl ∷ nm (codes "ORIGIN") ∷ blank ∷ digit 1 ∷ nl ∷ []) 11 9
unfolding sign encode_utf8
origin_twice = second_origin {i = 0} {j = 1} {q = row_at (above (parts_in (nm (codes "ORIGIN") ∷ blank ∷ digit 1 ∷ nl ∷ nm (codes "ORIGIN") ∷ blank ∷ digit 1 ∷ nl ∷ []))) 0} {r = row_at (above (parts_in (nm (codes "ORIGIN") ∷ blank ∷ digit 1 ∷ nl ∷ nm (codes "ORIGIN") ∷ blank ∷ digit 1 ∷ nl ∷ []))) 1} (omega arith) refl refl (_, refl) (_, refl) (_, _, refl, refl)

-- a declaration behind a function
pub late_declaration : IsRefused (sym (codes "∇") ∷ nm (codes "F") ∷ nl ∷ sym (codes "∇") ∷ nl ∷ nm (codes "ORIGIN") ∷ blank ∷ digit 1 ∷ nl ∷ []) 11 9
unfolding sign encode_utf8
late_declaration = not_bare {r = row_at (below (parts_in (sym (codes "∇") ∷ nm (codes "F") ∷ nl ∷ sym (codes "∇") ∷ nl ∷ nm (codes "ORIGIN") ∷ blank ∷ digit 1 ∷ nl ∷ []))) 0} (0, omega arith, refl) (_, _, refl, refl)

-- n empty lines of MAIN
abbrev empty_lines : ℕ → List Piece
empty_lines zero = []
empty_lines (suc n) = nl ∷ empty_lines n

abbrev emptied : List Piece
emptied = sym (codes "∇") ∷ nm (codes "MAIN") ∷ nl ∷ (empty_lines 1000 ++ sym (codes "∇") ∷ nl ∷ [])

-- a sum of n + 1 numbers 1
abbrev ones : ℕ → List Piece
ones zero = digit 1 ∷ []
ones (suc n) = digit 1 ∷ sym (codes "+") ∷ ones n

abbrev ones_form : ℕ → ℕ → E
ones_form zero p = operand (simple (numbers p (pos 1) no_number))
ones_form (suc n) p = between (simple (numbers p (pos 1) no_number)) (scalar2 (p + 1) (arith_fn f.Add)) (ones_form n (p + 2))

-- 129 numbers 1 parted by +
pub sum_of_129 : IsRefused (main (ones 128)) 9 8
unfolding sign encode_utf8
sum_of_129 = in_statement {b = block_at (main (ones 128)) 0} {r = row_at (block_at (main (ones 128)) 0).body 0} (0, omega arith, refl) (0, omega arith, refl) (too_many refl (value (ones_form 128 8)) refl (omega arith))

-- 1,000 empty lines
pub line_too_many : IsRefused emptied 10 1007
unfolding sign encode_utf8
line_too_many = line_1000 {b = block_at emptied 0} {r = row_at (block_at emptied 0).body 999} (0, omega arith, refl) refl

-- 3+
pub nothing_behind : IsRefused (main (digit 3 ∷ sym (codes "+") ∷ [])) 7 8
unfolding sign encode_utf8 reads
nothing_behind = in_statement {b = block_at (main (digit 3 ∷ sym (codes "+") ∷ [])) 0} {r = row_at (block_at (main (digit 3 ∷ sym (codes "+") ∷ [])) 0).body 0} (0, omega arith, refl) (0, omega arith, refl)
    (formless refl refl (unread (first_words (main (digit 3 ∷ sym (codes "+") ∷ []))) refl))

-- Computed examples of the typing rules. A comment has the APL of each row; facts are written as kind and lengths.
use Rattle.std.proofs.Common.{◌≡◌, refl, ℕ, List, [], ◌∷◌, map, Some, None, Ok, Err}
use Rattle.std.specs.Prelude.{ℤ, pos, negsuc}
use Rattle.aplc_scalar.specs.declared.function.ScalarFn.TheVariants as f
use Rattle.aplc_syntax.specs.declared.tree.Axis.TheVariants as ax
use Rattle.aplc_syntax.specs.declared.tree.Primitive.{Primitive}
use Rattle.aplc_syntax.specs.declared.tree.Primitive.TheVariants as pr
use Rattle.aplc_infer.specs.declared.fact.FactKind.TheVariants.{Bit, Num, Char, Mixed}
use Rattle.aplc_infer.specs.declared.fact.Inferred.{Inferred}
use Rattle.aplc_infer.specs.declared.fact.Inferred.TheVariants.{Unset, Of}
use Rattle.aplc_infer.specs.declared.rule_break.RuleBreak.TheVariants as breaks
use Rattle.aplc_infer.specs.Facts.{mixed}
use Rattle.aplc_infer.specs.Rules.{Ruled, numbers_fact, text_fact, monadic_fact, dyadic_fact, index_fact, change_fact, left_fact, branch_fact}

-- ---- How facts and applications are written here

-- of known lengths
abbrev bit : List ℕ → Inferred
bit ns = Of Bit (Some (map (λ n. Some n) ns))

abbrev num : List ℕ → Inferred
num ns = Of Num (Some (map (λ n. Some n) ns))

abbrev char : List ℕ → Inferred
char ns = Of Char (Some (map (λ n. Some n) ns))

-- a vector whose length is not known
abbrev some_bits : Inferred
some_bits = Of Bit (Some (None ∷ []))

abbrev some_nums : Inferred
some_nums = Of Num (Some (None ∷ []))

abbrev some_chars : Inferred
some_chars = Of Char (Some (None ∷ []))

-- index origin 1, and no literal
abbrev one : Primitive → Inferred → Ruled
one h x = monadic_fact (pos 1) h None x

abbrev two : Primitive → Inferred → Inferred → Ruled
two h x y = dyadic_fact (pos 1) h None x y

-- by a literal, which is the right argument of `⍳` and the left one of the others
abbrev of_literal : Primitive → List ℤ → Inferred → Ruled
of_literal h zs x = monadic_fact (pos 1) h (Some zs) x

abbrev by_literal : Primitive → List ℤ → Inferred → Ruled
by_literal h zs y = dyadic_fact (pos 1) h (Some zs) (numbers_fact zs) y

-- ---- Literals

-- `1 0 1`, `1 2 3`, `1`, `5`, `¯1`
number_literals :
    (numbers_fact (pos 1 ∷ pos 0 ∷ pos 1 ∷ []) ≡ bit (3 ∷ []))
    × (numbers_fact (pos 1 ∷ pos 2 ∷ pos 3 ∷ []) ≡ num (3 ∷ []))
    × (numbers_fact (pos 1 ∷ []) ≡ bit [])
    × (numbers_fact (pos 5 ∷ []) ≡ num [])
    × (numbers_fact (negsuc 0 ∷ []) ≡ num [])
number_literals = (refl, refl, refl, refl, refl)

-- `'abc'`, `'a'`, `''`
text_literals :
    (text_fact (97 ∷ 98 ∷ 99 ∷ []) ≡ char (3 ∷ []))
    × (text_fact (97 ∷ []) ≡ char [])
    × (text_fact [] ≡ char (0 ∷ []))
text_literals = (refl, refl, refl)

-- ---- What is unset or mixed

-- `C+1` with C unset, `1+C` with C unset; `A+1` and `1+A` with A mixed in kind; with A of mixed rank; `C+A` with both
wrapped :
    (two (pr.Scalar f.Add) Unset (bit []) ≡ Ok Unset)
    × (two (pr.Scalar f.Add) (bit []) Unset ≡ Ok Unset)
    × (two (pr.Scalar f.Add) (Of Mixed (Some [])) (bit []) ≡ Ok mixed)
    × (two (pr.Scalar f.Add) (bit []) (Of Mixed None) ≡ Ok mixed)
    × (two (pr.Scalar f.Add) (Of Num None) (char []) ≡ Ok mixed)
    × (two (pr.Scalar f.Add) Unset mixed ≡ Ok Unset)
    × (two (pr.Scalar f.Add) mixed Unset ≡ Ok Unset)
wrapped = (refl, refl, refl, refl, refl, refl, refl)

-- ---- Scalar functions

-- `×3 0`, `-0 1 0`, `~0 1 0`, `⌈1 0`, `~5`, `|'abc'`, `~C` with C unset
monadic_scalars :
    (one (pr.Scalar f.Mul) (num (2 ∷ [])) ≡ Ok (num (2 ∷ [])))
    × (one (pr.Scalar f.Sub) (bit (3 ∷ [])) ≡ Ok (num (3 ∷ [])))
    × (one (pr.Scalar f.Not) (bit (3 ∷ [])) ≡ Ok (bit (3 ∷ [])))
    × (one (pr.Scalar f.Max) (bit (2 ∷ [])) ≡ Ok (bit (2 ∷ [])))
    × (one (pr.Scalar f.Not) (num []) ≡ Ok (bit []))
    × (one (pr.Scalar f.Residue) (char (3 ∷ [])) ≡ Err breaks.Kind)
    × (one (pr.Scalar f.Not) Unset ≡ Ok Unset)
monadic_scalars = (refl, refl, refl, refl, refl, refl, refl)

-- `1 2+3 4 5`, `1 2+1`, `(1⍴2)+3 4`, `(,2)+3 4`, `(2 2⍴1)+1 2`, `'abc'+1`, `(1 1⍴2)+(2 3⍴5)`
sums :
    (two (pr.Scalar f.Add) (num (2 ∷ [])) (num (3 ∷ [])) ≡ Ok some_nums)
    × (two (pr.Scalar f.Add) (num (2 ∷ [])) (bit []) ≡ Ok (num (2 ∷ [])))
    × (two (pr.Scalar f.Add) (num (1 ∷ [])) (num (2 ∷ [])) ≡ Ok (num (2 ∷ [])))
    × (two (pr.Scalar f.Add) (num (2 ∷ [])) (num (1 ∷ [])) ≡ Ok (num (2 ∷ [])))
    × (two (pr.Scalar f.Add) (bit (2 ∷ 2 ∷ [])) (num (2 ∷ [])) ≡ Err breaks.Rank)
    × (two (pr.Scalar f.Add) (char (3 ∷ [])) (bit []) ≡ Err breaks.Kind)
    × (two (pr.Scalar f.Add) (num (1 ∷ 1 ∷ [])) (num (2 ∷ 3 ∷ [])) ≡ Ok (num (2 ∷ 3 ∷ [])))
sums = (refl, refl, refl, refl, refl, refl, refl)

-- `0 1 0×1 0 1`, `0 1 0×2`, `0 1-1 0`, `''=|1 1 ¯4 2`, `'abc'>5`, `2≤7`, `1 0∧'ab'`; where a length is not known
-- `⎕NUMS=⎕NUMS`, `⎕NUMS+1 2`, and beside a scalar `⎕NUMS+1`
kinds_and_lengths :
    (two (pr.Scalar f.Mul) (bit (3 ∷ [])) (bit (3 ∷ [])) ≡ Ok (bit (3 ∷ [])))
    × (two (pr.Scalar f.Mul) (bit (3 ∷ [])) (num []) ≡ Ok (num (3 ∷ [])))
    × (two (pr.Scalar f.Sub) (bit (2 ∷ [])) (bit (2 ∷ [])) ≡ Ok (num (2 ∷ [])))
    × (two (pr.Scalar f.Equal) (char (0 ∷ [])) (num (4 ∷ [])) ≡ Ok some_bits)
    × (two (pr.Scalar f.Greater) (char (3 ∷ [])) (num []) ≡ Err breaks.Kind)
    × (two (pr.Scalar f.LessEq) (num []) (num []) ≡ Ok (bit []))
    × (two (pr.Scalar f.And) (bit (2 ∷ [])) (char (2 ∷ [])) ≡ Err breaks.Kind)
    × (two (pr.Scalar f.Equal) some_nums some_nums ≡ Ok some_bits)
    × (two (pr.Scalar f.Add) some_nums (num (2 ∷ [])) ≡ Ok some_nums)
    × (two (pr.Scalar f.Add) some_nums (bit []) ≡ Ok some_nums)
kinds_and_lengths = (refl, refl, refl, refl, refl, refl, refl, refl, refl, refl)

-- both conditions broken: `'abc'+2 2⍴1`
least_number : two (pr.Scalar f.Add) (char (3 ∷ [])) (bit (2 ∷ 2 ∷ [])) ≡ Err breaks.Kind
least_number = refl

-- ---- Shape, ravel, the index generator, reshape

-- `⍴2 3⍴5`, `⍴5`, `,2 3⍴5`, `,5`, `,⎕NUMS`, `,A` with lengths 0 and not known, `,A` with lengths 65536 and 32768
shapes_and_ravels :
    (one pr.Shape (num (2 ∷ 3 ∷ [])) ≡ Ok (num (2 ∷ [])))
    × (one pr.Shape (num []) ≡ Ok (num (0 ∷ [])))
    × (one pr.Ravel (num (2 ∷ 3 ∷ [])) ≡ Ok (num (6 ∷ [])))
    × (one pr.Ravel (num []) ≡ Ok (num (1 ∷ [])))
    × (one pr.Ravel some_nums ≡ Ok some_nums)
    × (one pr.Ravel (Of Num (Some (Some 0 ∷ None ∷ []))) ≡ Ok some_nums)
    × (one pr.Ravel (bit (65536 ∷ 32768 ∷ [])) ≡ Ok some_bits)
shapes_and_ravels = (refl, refl, refl, refl, refl, refl, refl)

-- `⍳6`, `⍳0`, `⍳¯1`, `⍳2147483648`, `⍳N` with N no literal, `⍳2 3`, `⍳'a'`, `⍳2 2⍴3`
index_generators :
    (of_literal pr.Iota (pos 6 ∷ []) (num []) ≡ Ok (num (6 ∷ [])))
    × (of_literal pr.Iota (pos 0 ∷ []) (bit []) ≡ Ok (num (0 ∷ [])))
    × (of_literal pr.Iota (negsuc 0 ∷ []) (num []) ≡ Ok some_nums)
    × (of_literal pr.Iota (pos 2147483648 ∷ []) (num []) ≡ Ok some_nums)
    × (one pr.Iota (num []) ≡ Ok some_nums)
    × (of_literal pr.Iota (pos 2 ∷ pos 3 ∷ []) (num (2 ∷ [])) ≡ Ok some_nums)
    × (one pr.Iota (char []) ≡ Err breaks.Kind)
    × (one pr.Iota (num (2 ∷ 2 ∷ [])) ≡ Err breaks.Rank)
index_generators = (refl, refl, refl, refl, refl, refl, refl, refl)

-- `2 3⍴'ab'`, `5⍴1`, `¯1 2⍴1`, `2 2147483648⍴1`, `N⍴1` with a scalar N, `(⍴A)⍴1` with A of rank 2, `(⎕NUMS)⍴5`,
-- `(9⍴1)⍴5`, `'ab'⍴5`, `(2 2⍴1)⍴5`
reshapes :
    (by_literal pr.Shape (pos 2 ∷ pos 3 ∷ []) (char (2 ∷ [])) ≡ Ok (char (2 ∷ 3 ∷ [])))
    × (by_literal pr.Shape (pos 5 ∷ []) (bit []) ≡ Ok (bit (5 ∷ [])))
    × (by_literal pr.Shape (negsuc 0 ∷ pos 2 ∷ []) (bit []) ≡ Ok (Of Bit (Some (None ∷ Some 2 ∷ []))))
    × (by_literal pr.Shape (pos 2 ∷ pos 2147483648 ∷ []) (bit []) ≡ Ok (Of Bit (Some (Some 2 ∷ None ∷ []))))
    × (two pr.Shape (num []) (bit []) ≡ Ok some_bits)
    × (two pr.Shape (num (2 ∷ [])) (bit []) ≡ Ok (Of Bit (Some (None ∷ None ∷ []))))
    × (two pr.Shape some_nums (num []) ≡ Err breaks.Reshape)
    × (two pr.Shape (bit (9 ∷ [])) (num []) ≡ Err breaks.Rank)
    × (two pr.Shape (char (2 ∷ [])) (num []) ≡ Err breaks.Kind)
    × (two pr.Shape (bit (2 ∷ 2 ∷ [])) (num []) ≡ Err breaks.Rank)
reshapes = (refl, refl, refl, refl, refl, refl, refl, refl, refl, refl)

-- ---- Reversal, rotation, transposition

-- `⌽[1]2 3⍴0`, `⌽[3]2 3⍴0`, `⌽5`, `⌽[1]5`, `⌽[0]2 3⍴0` with index origin 0; `¯1⌽1 2 3`, `3 2 0⌽7`, `'a'⊖2 2`, `1⌽[2]1 2 3`
turns :
    (one (pr.Reverse (ax.At (pos 1))) (bit (2 ∷ 3 ∷ [])) ≡ Ok (bit (2 ∷ 3 ∷ [])))
    × (one (pr.Reverse (ax.At (pos 3))) (bit (2 ∷ 3 ∷ [])) ≡ Err breaks.Axis)
    × (one (pr.Reverse ax.Last) (num []) ≡ Ok (num []))
    × (one (pr.Reverse (ax.At (pos 1))) (num []) ≡ Err breaks.Axis)
    × (monadic_fact (pos 0) (pr.Reverse (ax.At (pos 0))) None (bit (2 ∷ 3 ∷ [])) ≡ Ok (bit (2 ∷ 3 ∷ [])))
    × (two (pr.Reverse ax.Last) (num []) (num (3 ∷ [])) ≡ Ok (num (3 ∷ [])))
    × (two (pr.Reverse ax.Last) (num (3 ∷ [])) (num []) ≡ Err breaks.Rank)
    × (two (pr.Reverse ax.First) (char []) (num (2 ∷ [])) ≡ Err breaks.Kind)
    × (two (pr.Reverse (ax.At (pos 2))) (bit []) (num (3 ∷ [])) ≡ Err breaks.Axis)
turns = (refl, refl, refl, refl, refl, refl, refl, refl, refl)

-- `⍉2 3⍴'abcdef'`, `1 1⍉3 3⍴⍳9`, `2 1⍉2 3⍴⍳6`, `1 1⍉2 3⍴⍳6`, `A⍉B` with A no literal, `1⍉2 3⍴1`, `1 3⍉2 3⍴1`,
-- `1 1⍉A` with lengths 2 and not known; `2 1⍉2 3⍴1` with index origin 0
transpositions :
    (one pr.Transpose (char (2 ∷ 3 ∷ [])) ≡ Ok (char (3 ∷ 2 ∷ [])))
    × (by_literal pr.Transpose (pos 1 ∷ pos 1 ∷ []) (num (3 ∷ 3 ∷ [])) ≡ Ok (num (3 ∷ [])))
    × (by_literal pr.Transpose (pos 2 ∷ pos 1 ∷ []) (num (2 ∷ 3 ∷ [])) ≡ Ok (num (3 ∷ 2 ∷ [])))
    × (by_literal pr.Transpose (pos 1 ∷ pos 1 ∷ []) (num (2 ∷ 3 ∷ [])) ≡ Ok (num (2 ∷ [])))
    × (two pr.Transpose (num (2 ∷ [])) (num (2 ∷ 3 ∷ [])) ≡ Err breaks.Transpose)
    × (by_literal pr.Transpose (pos 1 ∷ []) (bit (2 ∷ 3 ∷ [])) ≡ Err breaks.Rank)
    × (by_literal pr.Transpose (pos 1 ∷ pos 3 ∷ []) (bit (2 ∷ 3 ∷ [])) ≡ Err breaks.Axis)
    × (by_literal pr.Transpose (pos 1 ∷ pos 1 ∷ []) (Of Num (Some (Some 2 ∷ None ∷ []))) ≡ Ok some_nums)
    × (dyadic_fact (pos 0) pr.Transpose (Some (pos 2 ∷ pos 1 ∷ [])) (num (2 ∷ [])) (bit (2 ∷ 3 ∷ [])) ≡ Err breaks.Axis)
transpositions = (refl, refl, refl, refl, refl, refl, refl, refl, refl)

-- ---- Catenation, index-of, membership

-- `1,2 3`, `'a','bc'`, `(2 2⍴1),3`, `1,0`, `1 0,1`, `(2 3⍴1),2 4⍴1`, `(2 3⍴1),3 3⍴1`, `'ab',1`, `1 2,2 2⍴1`, `⎕NUMS,1 2`;
-- a sum above the limit
catenations :
    (two pr.Ravel (bit []) (num (2 ∷ [])) ≡ Ok (num (3 ∷ [])))
    × (two pr.Ravel (char []) (char (2 ∷ [])) ≡ Ok (char (3 ∷ [])))
    × (two pr.Ravel (bit (2 ∷ 2 ∷ [])) (num []) ≡ Ok (Of Num (Some (None ∷ Some 3 ∷ []))))
    × (two pr.Ravel (bit []) (bit []) ≡ Ok (bit (2 ∷ [])))
    × (two pr.Ravel (bit (2 ∷ [])) (bit []) ≡ Ok (bit (3 ∷ [])))
    × (two pr.Ravel (bit (2 ∷ 3 ∷ [])) (bit (2 ∷ 4 ∷ [])) ≡ Ok (bit (2 ∷ 7 ∷ [])))
    × (two pr.Ravel (bit (2 ∷ 3 ∷ [])) (bit (3 ∷ 3 ∷ [])) ≡ Ok (Of Bit (Some (None ∷ Some 6 ∷ []))))
    × (two pr.Ravel (char (2 ∷ [])) (bit []) ≡ Err breaks.Kind)
    × (two pr.Ravel (num (2 ∷ [])) (bit (2 ∷ 2 ∷ [])) ≡ Err breaks.Rank)
    × (two pr.Ravel some_nums (num (2 ∷ [])) ≡ Ok some_nums)
    × (two pr.Ravel (bit (2147483647 ∷ [])) (bit []) ≡ Ok some_bits)
catenations = (refl, refl, refl, refl, refl, refl, refl, refl, refl, refl, refl)

-- `1 2 3⍳'ab'`, `(2 2⍴0)⍳1`, `5⍳1`, `(⍳3)∊⍳5`, `'ab'∊2 2⍴1`
searches :
    (two pr.Iota (num (3 ∷ [])) (char (2 ∷ [])) ≡ Ok (num (2 ∷ [])))
    × (two pr.Iota (bit (2 ∷ 2 ∷ [])) (bit []) ≡ Err breaks.Rank)
    × (two pr.Iota (num []) (bit []) ≡ Err breaks.Rank)
    × (two pr.Member (num (3 ∷ [])) (num (5 ∷ [])) ≡ Ok (bit (3 ∷ [])))
    × (two pr.Member (char (2 ∷ [])) (bit (2 ∷ 2 ∷ [])) ≡ Ok (bit (2 ∷ [])))
searches = (refl, refl, refl, refl, refl)

-- ---- Take, drop, replicate, expand

-- `2↑⍳5`, `¯2↑⍳5`, `2 3↑2 2⍴1`, `2↑5`, `1↑2 2⍴1`, `2 3↑⍳5`, `1 2↑5`, `2147483648↑⍳5`, `1↓'abc'`, `1↓5`
takes_and_drops :
    (by_literal pr.Take (pos 2 ∷ []) (num (5 ∷ [])) ≡ Ok (num (2 ∷ [])))
    × (by_literal pr.Take (negsuc 1 ∷ []) (num (5 ∷ [])) ≡ Ok (num (2 ∷ [])))
    × (by_literal pr.Take (pos 2 ∷ pos 3 ∷ []) (bit (2 ∷ 2 ∷ [])) ≡ Ok (bit (2 ∷ 3 ∷ [])))
    × (by_literal pr.Take (pos 2 ∷ []) (num []) ≡ Ok (num (2 ∷ [])))
    × (by_literal pr.Take (pos 1 ∷ []) (bit (2 ∷ 2 ∷ [])) ≡ Err breaks.Rank)
    × (by_literal pr.Take (pos 2 ∷ pos 3 ∷ []) (num (5 ∷ [])) ≡ Ok some_nums)
    × (by_literal pr.Take (pos 1 ∷ pos 2 ∷ []) (num []) ≡ Err breaks.Rank)
    × (by_literal pr.Take (pos 2147483648 ∷ []) (num (5 ∷ [])) ≡ Ok some_nums)
    × (by_literal pr.Drop (pos 1 ∷ []) (char (3 ∷ [])) ≡ Ok some_chars)
    × (by_literal pr.Drop (pos 1 ∷ []) (num []) ≡ Ok some_nums)
takes_and_drops = (refl, refl, refl, refl, refl, refl, refl, refl, refl, refl)

-- `1 0 1/1 2 3`, `1 0 1\1 2`, `2/5`, `1\5`, `1 0/[1]2 3⍴1`, `1 0 1⍀2 3⍴1`, `(2 2⍴1)/1 2`, `'ab'/1 2`, `1 0/[3]2 3⍴1`
selections :
    (two (pr.Replicate ax.Last) (bit (3 ∷ [])) (num (3 ∷ [])) ≡ Ok some_nums)
    × (two (pr.Expand ax.Last) (bit (3 ∷ [])) (num (2 ∷ [])) ≡ Ok (num (3 ∷ [])))
    × (two (pr.Replicate ax.Last) (num []) (num []) ≡ Ok some_nums)
    × (two (pr.Expand ax.Last) (bit []) (num []) ≡ Ok some_nums)
    × (two (pr.Replicate (ax.At (pos 1))) (bit (2 ∷ [])) (bit (2 ∷ 3 ∷ [])) ≡ Ok (Of Bit (Some (None ∷ Some 3 ∷ []))))
    × (two (pr.Expand ax.First) (bit (3 ∷ [])) (bit (2 ∷ 3 ∷ [])) ≡ Ok (bit (3 ∷ 3 ∷ [])))
    × (two (pr.Replicate ax.Last) (bit (2 ∷ 2 ∷ [])) (num (2 ∷ [])) ≡ Err breaks.Rank)
    × (two (pr.Replicate ax.Last) (char (2 ∷ [])) (num (2 ∷ [])) ≡ Err breaks.Kind)
    × (two (pr.Replicate (ax.At (pos 3))) (bit (2 ∷ [])) (bit (2 ∷ 3 ∷ [])) ≡ Err breaks.Axis)
selections = (refl, refl, refl, refl, refl, refl, refl, refl, refl)

-- ---- Operators

-- `+/1 0 1`, `∧/1 0 1`, `⌈/2 3⍴⍳6`, `⌈/1 0`, `×⌿2 3⍴1`, `+/5`, `+/'ab'`, `+/[3]2 3⍴1`; `+\1 0`, `⌈\1 0`, `<⍀1 0 1 0`, `-\1 0`
folds :
    (one (pr.Reduce f.Add ax.Last) (bit (3 ∷ [])) ≡ Ok (num []))
    × (one (pr.Reduce f.And ax.Last) (bit (3 ∷ [])) ≡ Ok (bit []))
    × (one (pr.Reduce f.Max ax.Last) (num (2 ∷ 3 ∷ [])) ≡ Ok (num (2 ∷ [])))
    × (one (pr.Reduce f.Max ax.Last) (bit (2 ∷ [])) ≡ Ok (num []))
    × (one (pr.Reduce f.Mul ax.First) (bit (2 ∷ 3 ∷ [])) ≡ Ok (bit (3 ∷ [])))
    × (one (pr.Reduce f.Add ax.Last) (num []) ≡ Ok (num []))
    × (one (pr.Reduce f.Add ax.Last) (char (2 ∷ [])) ≡ Err breaks.Kind)
    × (one (pr.Reduce f.Add (ax.At (pos 3))) (bit (2 ∷ 3 ∷ [])) ≡ Err breaks.Axis)
    × (one (pr.Scan f.Add ax.Last) (bit (2 ∷ [])) ≡ Ok (num (2 ∷ [])))
    × (one (pr.Scan f.Max ax.Last) (bit (2 ∷ [])) ≡ Ok (bit (2 ∷ [])))
    × (one (pr.Scan f.Less ax.First) (bit (4 ∷ [])) ≡ Ok (bit (4 ∷ [])))
    × (one (pr.Scan f.Sub ax.Last) (bit (2 ∷ [])) ≡ Ok (num (2 ∷ [])))
folds = (refl, refl, refl, refl, refl, refl, refl, refl, refl, refl, refl, refl)

-- `1 2∘.×1 2 3`, `1 2∘.=0 1 0`, `''∘.-1`, A∘.=B with ranks 5 and 4; `(2 3⍴⍳6)+.×3 2⍴⍳6`, `1 0∧.=1 0`, `(0 1 3 0)+.=1`,
-- `5+.×2 3⍴1`, `2+.×3`, `'ab'∧.=1`, A+.×B with ranks 6 and 5
products :
    (two (pr.Outer f.Mul) (num (2 ∷ [])) (num (3 ∷ [])) ≡ Ok (num (2 ∷ 3 ∷ [])))
    × (two (pr.Outer f.Equal) (num (2 ∷ [])) (bit (3 ∷ [])) ≡ Ok (bit (2 ∷ 3 ∷ [])))
    × (two (pr.Outer f.Sub) (char (0 ∷ [])) (bit []) ≡ Err breaks.Kind)
    × (two (pr.Outer f.Equal) (num (1 ∷ 1 ∷ 1 ∷ 1 ∷ 1 ∷ [])) (num (1 ∷ 1 ∷ 1 ∷ 1 ∷ [])) ≡ Err breaks.Rank)
    × (two (pr.Inner f.Add f.Mul) (num (2 ∷ 3 ∷ [])) (num (3 ∷ 2 ∷ [])) ≡ Ok (num (2 ∷ 2 ∷ [])))
    × (two (pr.Inner f.And f.Equal) (bit (2 ∷ [])) (bit (2 ∷ [])) ≡ Ok (bit []))
    × (two (pr.Inner f.Add f.Equal) (num (4 ∷ [])) (bit []) ≡ Ok (num []))
    × (two (pr.Inner f.Add f.Mul) (num []) (bit (2 ∷ 3 ∷ [])) ≡ Ok (num (3 ∷ [])))
    × (two (pr.Inner f.Add f.Mul) (num []) (num []) ≡ Ok (num []))
    × (two (pr.Inner f.And f.Equal) (char (2 ∷ [])) (bit []) ≡ Err breaks.Kind)
    × (two (pr.Inner f.Add f.Mul) (num (1 ∷ 1 ∷ 1 ∷ 1 ∷ 1 ∷ 1 ∷ [])) (num (1 ∷ 1 ∷ 1 ∷ 1 ∷ 1 ∷ [])) ≡ Err breaks.Rank)
products = (refl, refl, refl, refl, refl, refl, refl, refl, refl, refl, refl)

-- ---- Indexing, indexed assignment, branches

-- `(⍳5)[2 3]`, `(3 4⍴0)[1;]`, `(3 4⍴0)[1 2;2 2⍴1]`, `(⍳5)[1;2]`, `5[1]`, `(⍳5)['a']`, `C[1]` and `(⍳5)[C]` with C unset,
-- `(⍳5)[A]` with A mixed, `C[A]` with both
indexings :
    (index_fact (num (5 ∷ [])) (Some (num (2 ∷ [])) ∷ []) ≡ Ok (num (2 ∷ [])))
    × (index_fact (bit (3 ∷ 4 ∷ [])) (Some (bit []) ∷ None ∷ []) ≡ Ok (bit (4 ∷ [])))
    × (index_fact (bit (3 ∷ 4 ∷ [])) (Some (num (2 ∷ [])) ∷ Some (bit (2 ∷ 2 ∷ [])) ∷ []) ≡ Ok (bit (2 ∷ 2 ∷ 2 ∷ [])))
    × (index_fact (num (5 ∷ [])) (Some (bit []) ∷ Some (num []) ∷ []) ≡ Err breaks.Rank)
    × (index_fact (num []) (Some (bit []) ∷ []) ≡ Err breaks.Rank)
    × (index_fact (num (5 ∷ [])) (Some (char []) ∷ []) ≡ Err breaks.Kind)
    × (index_fact Unset (Some (bit []) ∷ []) ≡ Ok Unset)
    × (index_fact (num (5 ∷ [])) (Some Unset ∷ []) ≡ Ok Unset)
    × (index_fact (num (5 ∷ [])) (Some mixed ∷ []) ≡ Ok mixed)
    × (index_fact Unset (Some mixed ∷ []) ≡ Ok Unset)
indexings = (refl, refl, refl, refl, refl, refl, refl, refl, refl, refl)

-- `A[2]←7` with A `1 0 1`, `A[1;2]←5`, `A[;1]←'x'` with A `3 3⍴0`, `A[1;]←2 2⍴0`, `A[1 2;3]←5 6`, `A[1]←7` with A unset,
-- `A[1]←C` with C unset
changes :
    (change_fact (bit (3 ∷ [])) (Some (num []) ∷ []) (num []) ≡ Ok (num []))
    × (change_fact (bit (3 ∷ 3 ∷ [])) (Some (bit []) ∷ Some (num []) ∷ []) (num []) ≡ Ok (num []))
    × (change_fact (bit (3 ∷ 3 ∷ [])) (None ∷ Some (bit []) ∷ []) (char []) ≡ Err breaks.Kind)
    × (change_fact (bit (3 ∷ 3 ∷ [])) (Some (bit []) ∷ None ∷ []) (bit (2 ∷ 2 ∷ [])) ≡ Err breaks.Rank)
    × (change_fact (bit (3 ∷ 3 ∷ [])) (Some (num (2 ∷ [])) ∷ Some (num []) ∷ []) (num (2 ∷ [])) ≡ Ok (num (2 ∷ [])))
    × (change_fact Unset (Some (bit []) ∷ []) (num []) ≡ Ok Unset)
    × (change_fact (bit (3 ∷ [])) (Some (bit []) ∷ []) Unset ≡ Ok Unset)
changes = (refl, refl, refl, refl, refl, refl, refl)

-- what is left to the name: bits and a number, bits and bits, numbers and bits, bits and characters, nothing
left :
    (left_fact (bit (3 ∷ [])) (num []) ≡ num (3 ∷ []))
    × (left_fact (bit (3 ∷ [])) (bit []) ≡ bit (3 ∷ []))
    × (left_fact (num (3 ∷ [])) (bit []) ≡ num (3 ∷ []))
    × (left_fact (bit (3 ∷ [])) (char []) ≡ num (3 ∷ []))
    × (left_fact (bit (3 ∷ [])) Unset ≡ bit (3 ∷ []))
    × (left_fact Unset (num []) ≡ Unset)
left = (refl, refl, refl, refl, refl, refl)

-- `→5`, `→⎕NUMS`, `→⍞`, `→2 2⍴1`
branches :
    (branch_fact (num []) ≡ Ok (num []))
    × (branch_fact some_nums ≡ Ok some_nums)
    × (branch_fact some_chars ≡ Err breaks.Kind)
    × (branch_fact (bit (2 ∷ 2 ∷ [])) ≡ Err breaks.Rank)
branches = (refl, refl, refl, refl)

-- A buffer is filled from its first cell on.
use Rattle.std.proofs.Common.{◌≡◌, ℕ, zero, suc, ◌+◌, ◌*◌, ◌<◌, ◌≤◌, List, [], ◌∷◌, ◌++◌, ◌⊎◌, inl, inr, length, refl, sym, ap, ◌∙◌, subst, arith, ℤ}
use Rattle.std.specs.Prelude.{Option, Some, None, Ok, Err, pos, ◌^◌, int_lt, slice_get, drop, sum_by}
use Rattle.std.proofs.lemmas.Bool.Decides.{nat_tests}
use Rattle.std.proofs.Math.Seq.{sets, sets-eq}
use Rattle.std.proofs.Math.Nat.{mul-le-mul_left}
use Rattle.aplc_scalar.specs.declared.kind.FaultKind.{FaultKind}
use Rattle.aplc_scalar.specs.Scalar.{Given, truth}
use Rattle.aplc_arr.specs.Arrays.{product}
use Rattle.aplc_arr.specs.Delayed.{all_given}
use Rattle.aplc_cprof.specs.declared.syntax.Int.{Int}
use Rattle.aplc_cprof.specs.declared.syntax.Int.TheVariants as int
use Rattle.aplc_cprof.specs.declared.syntax.Buf.{Buf}
use Rattle.aplc_cprof.specs.declared.syntax.Op.TheVariants as op
use Rattle.aplc_cprof.specs.declared.syntax.CExpr.{CExpr}
use Rattle.aplc_cprof.specs.declared.syntax.CExpr.TheVariants as expr
use Rattle.aplc_cprof.specs.declared.syntax.CStmt.{CStmt}
use Rattle.aplc_cprof.specs.declared.syntax.CStmt.TheVariants as stmt
use Rattle.aplc_cprof.specs.WellFormed.{Scope}
use Rattle.aplc_cprof.specs.Machine.{State, Code, Todo, Is, named_buf, apply, truth_of, value, settled, cells_of, held}
use Rattle.aplc_cprof.specs.Frames.{IsOldBuf, AreOld, AreOldBut, Hold, SameSeen, with_buffer, Filling}
use Rattle.aplc_cprof.proofs.Values.{value_Var, value_Lit, value_Bin}
use Rattle.aplc_cprof.proofs.Paths.{Does, does_then, does_weaken, does_if, does_else, does_none}
use Rattle.aplc_cprof.proofs.Frames.{after_set, put_at, put_other, set_same, hold_filling, seen_whatever, named_around, filled_cells, filling_then, filling_settled, are_old_are_but, are_old_but_more}
use Rattle.aplc_cprof.proofs.Counting.{with_literal_value, does_set}
use Rattle.aplc_collect.specs.Elements.{Test, Steps, ReadsWithin}
use Rattle.aplc_fill.specs.Fills.{elements, Stands, AreShort, CellsAlone, FilledWith, FirstFault, fill_steps}
use Rattle.aplc_fill.specs.Nests.{some_element, row_major, nest_steps, Filled, FillFails, NestRuns}
use Rattle.aplc_fill.proofs.Lists.{length-values, length-row_major, held_same}
use Rattle.aplc_fill.proofs.RowMajor.{row_major_is}

-- ---- The test for elements

abbrev AllSome : List ℕ → Type 0
AllSome [] = Unit {0}
AllSome (n ∷ ns) = (1 ≤ n) × AllSome ns

product_some : (ns : List ℕ) → AllSome ns → 1 ≤ product ns
product_some [] h = omega arith
product_some (n ∷ ns) h = let i = product_some ns h.1 in let j = h.0 in at_least n (product ns) j i
  where
    at_least : (a b : ℕ) → 1 ≤ a → 1 ≤ b → 1 ≤ a * b
    at_least zero b h k = absurd (omega (arith, h))
    at_least (suc a) b h k = omega (arith, k)

abbrev Tells : CExpr → List (List ℤ) → State → List ℕ → Type 0
Tells e tables s ns = ((value e tables s ≡ Is (pos 1)) × AllSome ns) ⊎ ((value e tables s ≡ Is (pos 0)) × (product ns ≡ 0))

some_value : (tables : List (List ℤ)) (s : State) (xs : List Int) (ns : List ℕ) → Hold s xs ns → Tells (some_element xs) tables s ns
some_value tables s [] [] h = inl (value_Lit (pos 1) tables s, tt)
some_value tables s [] (n ∷ ns) h = absurd h
some_value tables s (x ∷ xs) [] h = absurd h
some_value tables s (x ∷ xs) (n ∷ ns) h = first n refl (some_value tables s xs ns h.1)
  where
    test : CExpr
    test = expr.Bin op.Greater (expr.Var x) (expr.Lit (pos 0))

    test_is : (m : ℕ) → m ≡ n → value test tables s ≡ Is (truth (int_lt (pos 0) (pos m)))
    test_is m e = with_literal_value tables s op.Greater x (pos 0) (pos m) (h.0 ∙ ap (λ k. Is (pos k)) (sym e))

    none_times : (k : ℕ) → 0 * k ≡ 0
    none_times k = omega arith

    first : (m : ℕ) → m ≡ n → Tells (some_element xs) tables s ns → Tells (some_element (x ∷ xs)) tables s (n ∷ ns)
    first zero e r =
        inr (value_Bin op.And test (some_element xs) tables s ∙ ap (λ v. apply op.And v (value (some_element xs) tables s)) (test_is 0 e), ap (λ k. k * product ns) (sym e) ∙ none_times (product ns))
    first (suc m) e (inl r) =
        let positive : truth (int_lt (pos 0) (pos (suc m))) ≡ pos 1 = grind (arith, nat_tests) in
        inl (value_Bin op.And test (some_element xs) tables s ∙ ap (λ v. apply op.And v (value (some_element xs) tables s)) (test_is (suc m) e ∙ ap Is positive) ∙ ap truth_of r.0, (omega (arith, e), r.1))
    first (suc m) e (inr r) =
        let positive : truth (int_lt (pos 0) (pos (suc m))) ≡ pos 1 = grind (arith, nat_tests) in
        inr (value_Bin op.And test (some_element xs) tables s ∙ ap (λ v. apply op.And v (value (some_element xs) tables s)) (test_is (suc m) e ∙ ap Is positive) ∙ ap truth_of r.0, ap (λ k. n * k) r.1 ∙ omega arith)

-- ---- Steps

-- where there are elements, a loop nest takes steps in proportion to their number
nest_most : (ns : List ℕ) (k : ℕ) → AllSome ns → nest_steps ns k ≤ product ns * (k + 4 * length ns + 2)
nest_most [] k h = omega arith
nest_most (n ∷ ns) k h =
    let P = product ns in
    let r = length ns in
    let some : 1 ≤ P = product_some ns h.1 in
    let more : k + 4 * r + 2 + 4 ≡ k + 4 * suc r + 2 = omega arith in
    subst (λ w. n * (nest_steps ns k + 2) + 2 ≤ n * P * w) more (step n P (nest_steps ns k) (k + 4 * r + 2) h.0 some (nest_most ns k h.1))
  where
    step : (n P t w : ℕ) → 1 ≤ n → 1 ≤ P → t ≤ P * w → n * (t + 2) + 2 ≤ n * P * (w + 4)
    step n P t w hn hp le =
        let a : n * t ≤ n * (P * w) = mul-le-mul_left n le in
        let b : n * 1 ≤ n * P = mul-le-mul_left n hp in
        omega (arith, a, b, hn)

-- ---- The code

abbrev pub fills : ℕ → CExpr → List CStmt → List CStmt
fills q some nest = stmt.Set (int.Local q) (expr.Lit (pos 0)) ∷ stmt.If some nest None ∷ []

-- variables that were given before the place
pub old_kept : (n : ℕ) (xs : List Int) → AreOld n xs → AreOldBut (n + 1) n xs
old_kept n xs h = are_old_but_more n (n + 1) n xs (omega arith) (are_old_are_but n n xs (omega arith) h)

-- the cells, from the first on
from_first : (values cells : List ℤ) → length values ≤ length cells → sets cells 0 values ≡ values ++ drop (length values) cells
from_first values cells le =
    let zero_more : 0 + length values ≡ length values = omega arith in
    sets-eq values cells 0 (omega (arith, le)) ∙ ap (λ n. values ++ drop n cells) zero_more

none_of_none : (xs : List Given) → length xs ≡ 0 → all_given xs ≡ Ok []
none_of_none [] e = refl
none_of_none (x ∷ xs) e = absurd (omega (arith, e))

-- the place is 0, and nothing is written
record Begun (n m b size : ℕ) (cells : List ℤ) (s t : State) : Type 0 where
  pub stays : Filling (n + 1) m n b size s t
  pub same_cells : stays.cells ≡ cells
  pub place : t.ints n ≡ Some (pos 0)

module _ (c : Code) (test : Test) (steps : Steps) (g : Scope) (reads : ReadsWithin g test steps) where
  pub fill_runs : (n m : ℕ) (lengths : List Int) (into : Buf) (nest : List CStmt) → g.ints ≤ n → g.bufs ≤ m → AreOld n lengths → IsOldBuf m into → NestRuns c test steps (n + 1) m n [] lengths into nest → (s : State) (ns : List ℕ) (b size : ℕ) (cells : List ℤ) (k : ℕ) (item : List ℕ → Given) → Hold s lengths ns → AreShort ns → named_buf into s ≡ Some b → slice_get s.heap b ≡ Some (Some cells) → length cells ≡ size → product ns ≤ size → size < 2 ^ 31 → Stands test steps c.tables s b size ns k item → Does c (CellsAlone n m b size s) (fill_steps ns k) (fills n (some_element lengths) nest) s (FilledWith n m b size cells ns item s) (FirstFault n m b size ns item s)
  fill_runs n m lengths into nest le leb old old_buf inner s ns b size cells k item hold short named is sized room small stands =
      does_weaken c Q Q (1 + (product ns * (k + 4 * length ns + 2) + 1)) (fill_steps ns k) (fills n (some_element lengths) nest) s Post Post Fail Fail (λ u x. x) (λ u x. x) (λ kind u x. x) (omega arith)
      (does_then c Q 1 (product ns * (k + 4 * length ns + 2) + 1) (stmt.Set (int.Local n) (expr.Lit (pos 0)) ∷ []) (stmt.If (some_element lengths) nest None ∷ []) s (Begun n m b size cells s) Post Fail
      (does_set c Q n (expr.Lit (pos 0)) s (Begun n m b size cells s) Fail (pos 0) (value_Lit (pos 0) c.tables s) (λ rest. shown (after_set n (pos 0) rest s) (begun rest).stays) begun)
      (λ t h. chosen t h (some_value c.tables t lengths ns (hold_filling (n + 1) m n b size s t lengths ns h.stays (old_kept n lengths old) hold))))
    where
      Q : State → Type 0
      Q = CellsAlone n m b size s

      Post : State → Type 0
      Post = FilledWith n m b size cells ns item s

      Fail : FaultKind → State → Type 0
      Fail = FirstFault n m b size ns item s

      holds : (t : State) → Filling (n + 1) m n b size s t → held t ≡ held s
      holds t f = ap (sum_by cells_of) f.heap ∙ held_same s.heap b cells f.cells is (f.as_many ∙ sym sized)

      shown : (t : State) → Filling (n + 1) m n b size s t → Q t
      shown t f = record { ints = λ x lt. f.ints x (omega (arith, lt)) (λ e. omega (arith, lt, e)); bufs = f.bufs; around = f.around; cells = f.cells; as_many = f.as_many; heap = f.heap; none_beside = holds t f }

      begun : (rest : Todo) → Begun n m b size cells s (after_set n (pos 0) rest s)
      begun rest = record {
        stays = record { ints = λ x lt ne. put_other s.ints n (Some (pos 0)) x (λ e. ne (sym e)); bufs = λ x lt. refl; around = refl; cells = cells; as_many = sized; heap = set_same s.heap b (Some cells) is };
        same_cells = refl;
        place = put_at s.ints n (Some (pos 0));
      }

      seen : (t : State) (other : List ℤ) → Filling (n + 1) m n b size s t → SameSeen g (with_buffer b other s) (with_buffer b other t)
      seen t other f = seen_whatever g (n + 1) m n b size s t other (omega (arith, le)) le leb f

      chosen : (t : State) → Begun n m b size cells s t → Tells (some_element lengths) c.tables t ns → Does c Q (product ns * (k + 4 * length ns + 2) + 1) (stmt.If (some_element lengths) nest None ∷ []) t Post Fail
      chosen t h (inl r) =
          let t' = settled t in
          let stays : Filling (n + 1) m n b size s t' = filling_settled (n + 1) m n b size s t t.todo h.stays in
          does_if c Q (product ns * (k + 4 * length ns + 2)) (some_element lengths) nest None t Post Fail (pos 1) r.0 refl (λ todo. shown (settled (record t { todo = todo })) (filling_settled (n + 1) m n b size s t todo h.stays))
          (does_weaken c (Filling (n + 1) m n b size t') Q (nest_steps ns k) (product ns * (k + 4 * length ns + 2)) nest t' (Filled (n + 1) m n b 0 size h.stays.cells ns item t') Post (FillFails (n + 1) m n b size ns item t') Fail
          (λ u f. shown u (filling_then (n + 1) m n b size s t' u stays f))
          (λ u f. let many : length f.values ≡ product ns = length-values (row_major ns item) f.values f.given ∙ length-row_major ns item in record {
            stays = shown u (filling_then (n + 1) m n b size s t' u stays f.stays);
            values = f.values;
            given = ap all_given (sym (row_major_is ns item)) ∙ f.given;
            as_written = f.as_written ∙ ap (λ l. sets l 0 f.values) h.same_cells ∙ from_first f.values cells (omega (arith, many, room, sized));
          })
          (λ kind u f. record { stays = shown u (filling_then (n + 1) m n b size s t' u stays f.stays); given = ap all_given (sym (row_major_is ns item)) ∙ f.given })
          (nest_most ns k r.1)
          (inner t' [] ns b 0 size h.stays.cells k item tt (hold_filling (n + 1) m n b size s t' lengths ns stays (old_kept n lengths old) hold) short h.place
          (named_around m s t' into stays.bufs stays.around old_buf ∙ named) (filled_cells (n + 1) m n b size cells s t' stays is) h.stays.as_many (omega (arith, room)) small
          record {
            takes = λ other many.
                let same = reads.same_steps c.tables (with_buffer b other s) (with_buffer b other t') (seen t' other stays) in
                let most = stands.takes other many in
                omega (arith, same, most);
            items = λ other many is in_shape. reads.same c.tables (with_buffer b other s) (with_buffer b other t') (seen t' other stays) is ∙ stands.items other many is in_shape;
          }))
      chosen t h (inr r) =
          let none : all_given (row_major ns item) ≡ Ok [] = none_of_none (row_major ns item) (length-row_major ns item ∙ r.1) in
          does_weaken c Q Q 1 (product ns * (k + 4 * length ns + 2) + 1) (stmt.If (some_element lengths) nest None ∷ []) t Post Post Fail Fail (λ u x. x) (λ u x. x) (λ kind u x. x) (omega arith)
          (does_else c Q 0 (some_element lengths) nest None t Post Fail (pos 0) r.0 refl (λ todo. shown (settled (record t { todo = todo })) (filling_settled (n + 1) m n b size s t todo h.stays))
          (does_none c Q (settled t) Post Fail (λ todo. record {
            stays = shown (settled (record t { todo = todo })) (filling_settled (n + 1) m n b size s t todo h.stays);
            values = [];
            given = ap all_given (sym (row_major_is ns item)) ∙ none;
            as_written = h.same_cells;
          })))

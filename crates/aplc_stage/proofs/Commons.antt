-- The code of the shape of two arrays together, in the builder's states.
use Rattle.std.proofs.Common.{◌≡◌, ℕ, suc, ◌+◌, ◌≤◌, List, [], ◌∷◌, ◌++◌, length, refl, sym, ap, ◌∙◌, subst, arith, Bool, true, false}
use Rattle.std.specs.Prelude.{Some, pos}
use Rattle.aplc_scalar.specs.declared.kind.FaultKind.TheVariants as fault
use Rattle.aplc_scalar.specs.Scalar.{truth}
use Rattle.aplc_cprof.specs.declared.syntax.Int.{Int}
use Rattle.aplc_cprof.specs.declared.syntax.Int.TheVariants as int
use Rattle.aplc_cprof.specs.declared.syntax.Op.TheVariants as op
use Rattle.aplc_cprof.specs.declared.syntax.CExpr.TheVariants as expr
use Rattle.aplc_cprof.specs.declared.syntax.CStmt.{CStmt}
use Rattle.aplc_cprof.specs.declared.syntax.CStmt.TheVariants as stmt
use Rattle.aplc_cprof.specs.Blocks.{Blocks}
use Rattle.aplc_cprof.specs.WellFormed.{Scope, is_int, is_expr, is_stmt, are_stmts}
use Rattle.aplc_cprof.specs.Machine.{State, Code}
use Rattle.aplc_cprof.specs.Frames.{AreOld, Stays, Hold}
use Rattle.aplc_cprof.specs.Emitted.{no_names, on_values, AreInts, IsFormed}
use Rattle.aplc_cprof.proofs.Paths.{Does}
use Rattle.aplc_cprof.proofs.Forms.{is_Fault}
use Rattle.aplc_cprof.proofs.Emitted.{is_below, ints_first, ints_last, bin_formed, on_values_formed, with_literal_formed, lit_formed, set_formed, if_else_formed, one_stmt, stmts_append}
use Rattle.aplc_stage.specs.Pieces.{locals, copies, differ, all_one, takes_on, extended_block, conform_stmt, Conformed, Unlike, Conforms}
use Rattle.aplc_stage.proofs.Setting.{locals_declared, copies_formed}
use Rattle.aplc_stage.proofs.Shapes.{conform_runs}

differ_formed : (sc : Scope) (xs ys : List Int) (room : ℕ) → length xs + 1 ≤ room → AreInts sc xs → AreInts sc ys → is_expr sc (differ xs ys) (Some room) ≡ true
differ_formed sc [] ys room le h k = lit_formed sc 0 (omega arith) room
differ_formed sc (x ∷ xs) [] room le h k = lit_formed sc 0 (omega arith) room
differ_formed sc (x ∷ xs) (y ∷ ys) room le h k =
    bin_formed sc op.Or (on_values op.NotEqual x y) (differ xs ys) (length xs + 1) room (omega (arith, le))
    (λ r kr. on_values_formed sc op.NotEqual x y r (omega (arith, kr)) h.0 k.0)
    (λ r kr. differ_formed sc xs ys r kr h.1 k.1)

all_one_formed : (sc : Scope) (xs : List Int) (room : ℕ) → length xs + 1 ≤ room → AreInts sc xs → is_expr sc (all_one xs) (Some room) ≡ true
all_one_formed sc [] room le h = lit_formed sc 1 (omega arith) room
all_one_formed sc (x ∷ xs) room le h =
    bin_formed sc op.And (expr.Bin op.Equal (expr.Var x) (expr.Lit (pos 1))) (all_one xs) (length xs + 1) room (omega (arith, le))
    (λ r kr. with_literal_formed sc op.Equal x 1 r (omega (arith, kr)) (omega arith) h.0)
    (λ r kr. all_one_formed sc xs r kr h.1)

flag_formed : (sc : Scope) (room : ℕ) (x : Int) (b : Bool) → is_int sc x ≡ true → is_stmt sc (stmt.Set x (expr.Lit (truth b))) (Some room) ≡ true
flag_formed sc room x true h = set_formed sc (Some room) x (expr.Lit (pos 1)) h (lit_formed sc 1 (omega arith) room)
flag_formed sc room x false h = set_formed sc (Some room) x (expr.Lit (pos 0)) h (lit_formed sc 0 (omega arith) room)

module _ (sc : Scope) (names left right : List Int) (kl kr : Int) (here : AreInts sc names) (of_left : AreInts sc left) (of_right : AreInts sc right) (left_is : is_int sc kl ≡ true) (right_is : is_int sc kr ≡ true) where
  takes_formed : (room : ℕ) (i j : Bool) (from : List Int) → AreInts sc from → are_stmts sc (takes_on names kl kr i j from) (Some room) ≡ true
  takes_formed room i j from h =
      stmts_append sc (Some room) (copies names from ++ stmt.Set kl (expr.Lit (truth i)) ∷ []) (stmt.Set kr (expr.Lit (truth j)) ∷ [])
      (stmts_append sc (Some room) (copies names from) (stmt.Set kl (expr.Lit (truth i)) ∷ []) (copies_formed sc room names from here h)
      (one_stmt sc (Some room) (stmt.Set kl (expr.Lit (truth i))) [] (flag_formed sc room kl i left_is) refl))
      (one_stmt sc (Some room) (stmt.Set kr (expr.Lit (truth j))) [] (flag_formed sc room kr j right_is) refl)

  extended_formed : (room : ℕ) → length left + 3 ≤ room → length left ≡ length right → are_stmts sc (extended_block names kl kr left right) (Some room) ≡ true
  extended_formed room le many =
      let last : List CStmt = stmt.If (all_one right) (takes_on names kl kr true false left) (Some (stmt.Fault fault.Length ∷ [])) ∷ [] in
      one_stmt sc (Some room) (stmt.If (all_one left) (takes_on names kl kr false true right) (Some last)) []
      (if_else_formed sc (length left + 2) room (all_one left) (takes_on names kl kr false true right) last (omega (arith, le)) (all_one_formed sc left room (omega (arith, le)) of_left)
      (λ r k. takes_formed r false true right of_right)
      (λ r k. one_stmt sc (Some r) (stmt.If (all_one right) (takes_on names kl kr true false left) (Some (stmt.Fault fault.Length ∷ []))) []
      (if_else_formed sc 0 r (all_one right) (takes_on names kl kr true false left) (stmt.Fault fault.Length ∷ []) (omega (arith, k)) (all_one_formed sc right r (omega (arith, k, many)) of_right)
      (λ q i. takes_formed q true false left of_left)
      (λ q i. one_stmt sc (Some q) (stmt.Fault fault.Length) [] (is_Fault sc fault.Length (Some q)) refl)) refl)) refl

  conform_formed : (room : ℕ) → length left + 4 ≤ room → length left ≡ length right → is_stmt sc (conform_stmt names kl kr left right) (Some room) ≡ true
  conform_formed room le many =
      if_else_formed sc (length left + 3) room (differ left right) (extended_block names kl kr left right) (takes_on names kl kr true true left) (omega (arith, le)) (differ_formed sc left right room (omega (arith, le)) of_left of_right)
      (λ r k. extended_formed r k many) (λ r k. takes_formed r true true left of_left)

hold_length : (s : State) (xs : List Int) (ns : List ℕ) → Hold s xs ns → length xs ≡ length ns
hold_length s [] [] h = refl
hold_length s [] (n ∷ ns) h = absurd h
hold_length s (x ∷ xs) [] h = absurd h
hold_length s (x ∷ xs) (n ∷ ns) h = ap suc (hold_length s xs ns h.1)

pub conform_built : (b0 b1 b2 b3 b4 : Blocks) (left right names : List Int) (kl kr : Int) (s : CStmt) → length left ≡ length right → AreOld b0.ints left → AreOld b0.ints right → names ≡ locals b0.ints left → b1 ≡ record b0 { ints = b0.ints + length left } → kl ≡ int.Local b1.ints → b2 ≡ record b1 { ints = b1.ints + 1 } → kr ≡ int.Local b2.ints → b3 ≡ record b2 { ints = b2.ints + 1 } → s ≡ conform_stmt names kl kr left right → b4 ≡ record b3 { inner = b3.inner ++ s ∷ [] } → Conforms b0 b4 left right names kl kr
conform_built b0 b1 b2 b3 b4 left right names kl kr s many old_left old_right en e1 el e2 er e3 es e4 = record {
  code = code;
  grown = record {
    inner = ap (λ (b : Blocks). b.inner) e4 ∙ ap (λ (l : List CStmt). l ++ s ∷ []) inner3 ∙ ap (λ (x : CStmt). b0.inner ++ x ∷ []) written;
    outer = ap (λ (b : Blocks). b.outer) e4 ∙ ap (λ (b : Blocks). b.outer) e3 ∙ ap (λ (b : Blocks). b.outer) e2 ∙ ap (λ (b : Blocks). b.outer) e1;
    ints = omega (arith, ints4);
    bufs = omega (arith, bufs4);
  };
  bufs = bufs4;
  lengths_are = en;
  left_is = left_is;
  right_is = right_is;
  names = ints4;
  formed = formed_is;
  runs = λ c t ms ns hold_left hold_right.
      let shapes : length ms ≡ length ns = sym (hold_length t left ms hold_left) ∙ many ∙ hold_length t right ns hold_right in
      moved c t ms ns (conform_runs c n m k left right t ms ns refl old_left old_right many hold_left hold_right shapes);
}
  where
    n : ℕ
    n = b0.ints

    m : ℕ
    m = b0.bufs

    k : ℕ
    k = b0.ints + length left

    code : List CStmt
    code = conform_stmt (locals n left) (int.Local k) (int.Local (k + 1)) left right ∷ []

    ints1 : b1.ints ≡ k
    ints1 = ap (λ (b : Blocks). b.ints) e1

    ints2 : b2.ints ≡ k + 1
    ints2 = ap (λ (b : Blocks). b.ints) e2 ∙ ap (λ i. i + 1) ints1

    ints4 : b4.ints ≡ k + 2
    ints4 = let i = ap (λ (b : Blocks). b.ints) e4 in let j = ap (λ (b : Blocks). b.ints) e3 in omega (arith, i, j, ints2)

    bufs4 : b4.bufs ≡ m
    bufs4 = ap (λ (b : Blocks). b.bufs) e4 ∙ ap (λ (b : Blocks). b.bufs) e3 ∙ ap (λ (b : Blocks). b.bufs) e2 ∙ ap (λ (b : Blocks). b.bufs) e1

    inner3 : b3.inner ≡ b0.inner
    inner3 = ap (λ (b : Blocks). b.inner) e3 ∙ ap (λ (b : Blocks). b.inner) e2 ∙ ap (λ (b : Blocks). b.inner) e1

    left_is : kl ≡ int.Local k
    left_is = el ∙ ap int.Local ints1

    right_is : kr ≡ int.Local (k + 1)
    right_is = er ∙ ap int.Local ints2

    written : s ≡ conform_stmt (locals n left) (int.Local k) (int.Local (k + 1)) left right
    written =
        es
        ∙ ap (λ (l : List Int). conform_stmt l kl kr left right) en
        ∙ ap (λ (x : Int). conform_stmt (locals n left) x kr left right) left_is
        ∙ ap (λ (x : Int). conform_stmt (locals n left) (int.Local k) x left right) right_is

    formed_is : IsFormed no_names (left ++ right) [] b4 (4 + length left) code
    formed_is sc room within are bufs more more_bufs le =
        one_stmt sc (Some room) (conform_stmt (locals n left) (int.Local k) (int.Local (k + 1)) left right) []
        (conform_formed sc (locals n left) left right (int.Local k) (int.Local (k + 1)) (locals_declared sc n left (omega (arith, ints4, more))) (ints_first sc left right are) (ints_last sc left right are)
        (is_below k sc.ints (omega (arith, ints4, more))) (is_below (k + 1) sc.ints (omega (arith, ints4, more))) room (omega (arith, le)) many)
        refl

    Run : Code → State → List ℕ → List ℕ → List Int → Int → Int → Type 0
    Run c t ms ns l x y = Does c (Stays n m t) (length left + 5) code t (Conformed n m l x y ms ns t) (Unlike n m ms ns t)

    moved : (c : Code) (t : State) (ms ns : List ℕ) → Run c t ms ns (locals n left) (int.Local k) (int.Local (k + 1)) → Run c t ms ns names kl kr
    moved c t ms ns d =
        subst (λ (x : Int). Run c t ms ns names kl x) (sym right_is)
        (subst (λ (x : Int). Run c t ms ns names x (int.Local (k + 1))) (sym left_is)
        (subst (λ (l : List Int). Run c t ms ns l (int.Local k) (int.Local (k + 1))) (sym en) d))

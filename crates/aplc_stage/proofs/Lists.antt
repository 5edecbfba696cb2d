-- Statements that set variables one after the other.
-- It must not know what the values are for.
use Rattle.std.proofs.Common.{◌≡◌, ℕ, ◌+◌, ◌<◌, ◌≤◌, List, [], ◌∷◌, ◌++◌, length, drop, sym, ap, ap₂, ◌∙◌, arith, append_assoc, append-nil}
use Rattle.std.specs.Prelude.{pos, slice_index_or}
use Rattle.std.proofs.lemmas.List.{drop_more, drop_all}
use Rattle.aplc_cprof.specs.declared.syntax.Int.{Int}
use Rattle.aplc_cprof.specs.declared.syntax.Int.TheVariants as int
use Rattle.aplc_cprof.specs.declared.syntax.CExpr.TheVariants as expr
use Rattle.aplc_cprof.specs.declared.syntax.CStmt.{CStmt}
use Rattle.aplc_cprof.specs.declared.syntax.CStmt.TheVariants as stmt
use Rattle.aplc_cprof.specs.Blocks.{Blocks}
use Rattle.aplc_stage.specs.Pieces.{with_code, locals, copies, clears}

-- ---- One statement more

pub one_copy : (done : List CStmt) (to from : List Int) (i : ℕ) (x y : Int) → i < length to → length to ≡ length from → (done ++ stmt.Set (slice_index_or to i x) (expr.Var (slice_index_or from i y)) ∷ []) ++ copies (drop (i + 1) to) (drop (i + 1) from) ≡ done ++ copies (drop i to) (drop i from)
one_copy done to from i x y lt many =
    append_assoc done (stmt.Set (slice_index_or to i x) (expr.Var (slice_index_or from i y)) ∷ []) (copies (drop (i + 1) to) (drop (i + 1) from))
    ∙ ap (λ l. done ++ l) (sym (ap₂ copies (drop_more to i x lt) (drop_more from i y (omega (arith, lt, many)))))

pub all_copied : (done : List CStmt) (to from : List Int) (i : ℕ) → length to ≤ i → done ++ copies (drop i to) (drop i from) ≡ done
all_copied done to from i le = ap (λ (l : List Int). done ++ copies l (drop i from)) (drop_all i to le) ∙ append-nil done

pub one_clear : (done : List CStmt) (to : List Int) (i : ℕ) (x : Int) → i < length to → (done ++ stmt.Set (slice_index_or to i x) (expr.Lit (pos 0)) ∷ []) ++ clears (drop (i + 1) to) ≡ done ++ clears (drop i to)
one_clear done to i x lt =
    append_assoc done (stmt.Set (slice_index_or to i x) (expr.Lit (pos 0)) ∷ []) (clears (drop (i + 1) to)) ∙ ap (λ l. done ++ l) (sym (ap clears (drop_more to i x lt)))

pub all_cleared : (done : List CStmt) (to : List Int) (i : ℕ) → length to ≤ i → done ++ clears (drop i to) ≡ done
all_cleared done to i le = ap (λ (l : List Int). done ++ clears l) (drop_all i to le) ∙ append-nil done

-- the same in the block of a builder
pub copy_emitted : (b b1 : Blocks) (to from : List Int) (i : ℕ) (x y : Int) → i < length to → length to ≡ length from → b1 ≡ record b { inner = b.inner ++ stmt.Set (slice_index_or to i x) (expr.Var (slice_index_or from i y)) ∷ [] } → with_code (copies (drop (i + 1) to) (drop (i + 1) from)) b1 ≡ with_code (copies (drop i to) (drop i from)) b
copy_emitted b b1 to from i x y lt many e =
    ap (with_code (copies (drop (i + 1) to) (drop (i + 1) from))) e ∙ ap (λ (l : List CStmt). record b { inner = l }) (one_copy b.inner to from i x y lt many)

-- ---- One name more

pub one_name : (done others : List Int) (n i : ℕ) → i < length others → (done ++ int.Local n ∷ []) ++ locals (n + 1) (drop (i + 1) others) ≡ done ++ locals n (drop i others)
one_name done others n i lt =
    append_assoc done (int.Local n ∷ []) (locals (n + 1) (drop (i + 1) others)) ∙ ap (λ l. done ++ l) (sym (ap (locals n) (drop_more others i (int.Local 0) lt)))

pub all_named : (done others : List Int) (n i : ℕ) → length others ≤ i → done ++ locals n (drop i others) ≡ done
all_named done others n i le = ap (λ (l : List Int). done ++ locals n l) (drop_all i others le) ∙ append-nil done

-- What the builders build, from the builder's states.
use Rattle.std.proofs.Common.{◌≡◌, ℕ, ◌+◌, ◌<◌, ◌≤◌, List, [], ◌∷◌, ◌++◌, length, refl, sym, ap, ◌∙◌, subst, arith, append_assoc, true}
use Rattle.std.specs.Prelude.{Some, None, Result, Ok, Err, OnOk, pos, ◌-◌, take, drop, slice_index_or}
use Rattle.std.proofs.lemmas.List.{same_from_push}
use Rattle.std.proofs.Math.Seq.{take-length}
use Rattle.aplc_cprof.specs.declared.syntax.Int.{Int}
use Rattle.aplc_cprof.specs.declared.syntax.Int.TheVariants as int
use Rattle.aplc_cprof.specs.declared.syntax.Buf.{Buf}
use Rattle.aplc_cprof.specs.declared.syntax.Op.TheVariants as op
use Rattle.aplc_cprof.specs.declared.syntax.CExpr.{CExpr}
use Rattle.aplc_cprof.specs.declared.syntax.CExpr.TheVariants as expr
use Rattle.aplc_cprof.specs.declared.syntax.CStmt.{CStmt}
use Rattle.aplc_cprof.specs.declared.syntax.CStmt.TheVariants as stmt
use Rattle.aplc_cprof.specs.Blocks.{Blocks, IsKept}
use Rattle.aplc_cprof.specs.WellFormed.{Scope, is_int, is_expr}
use Rattle.aplc_cprof.specs.Machine.{Code}
use Rattle.aplc_cprof.specs.Frames.{AreGiven, AreOldBut, AreOld, IsFresh, IsOldBut, IsOldBuf, number}
use Rattle.aplc_cprof.specs.Emitted.{plus_one, counted_loop, Grown, loop_begun, LoopEnded, IsKeptRound, AreInts, IsFormed}
use Rattle.aplc_cprof.proofs.Kept.{kept_same, kept_trans, kept_int, kept_code, kept_close, kept_is}
use Rattle.aplc_cprof.proofs.Frames.{are_old_but_append, are_old_but_more}
use Rattle.aplc_cprof.proofs.Emitted.{is_below, fresh_declared, ints_append, ints_first, ints_last, bin_formed, with_literal_formed, var_formed, lit_formed, plus_one_formed, one_stmt, stmts_append, set_formed, set_cell_formed, if_formed, loop_formed, grown_then, grown_emit, loop_grown}
use Rattle.aplc_collect.specs.Elements.{Test, Steps, ReadsWithin, Emits}
use Rattle.aplc_fill.specs.Fills.{Fills, fill_depth}
use Rattle.aplc_fill.specs.Nests.{some_element, NestRuns, FillsNest}
use Rattle.aplc_fill.proofs.Nests.{writes, nest_none, nest_axis}
use Rattle.aplc_fill.proofs.Fillings.{fills, old_kept, fill_runs}

fresh_is : (n m : ℕ) (v : Int) → IsFresh n m v → v ≡ int.Local (number v)
fresh_is n m (int.Local k) h = refl
fresh_is n m (int.Global k) h = absurd h

pub fresh_from : (n m : ℕ) (v : Int) → IsFresh n m v → n ≤ number v
fresh_from n m (int.Local k) h = h.0
fresh_from n m (int.Global k) h = absurd h

pub fresh_below : (n m : ℕ) (v : Int) → IsFresh n m v → number v < m
fresh_below n m (int.Local k) h = h.1
fresh_below n m (int.Global k) h = absurd h

-- what a call says of an Ok, and more
pub on_ok : {T E A B : Type 0} (r : Result T E) → (A → B) → OnOk r A → OnOk r B
on_ok (Ok x) f h = f h
on_ok (Err e) f h = tt

-- ---- One element

pub one_fills : (test : Test) (steps : Steps) (g : Scope) (depth : ℕ) (b0 b1 b2 b3 : Blocks) (at : List Int) (into : Buf) (place v : Int) (next : CExpr) → ReadsWithin g test steps → AreGiven g b0 → IsFresh g.ints b0.ints place → IsOldBuf b0.bufs into → Emits test steps g depth b0 b1 at v → b2 ≡ record b1 { inner = b1.inner ++ stmt.SetCell into (expr.Var place) (expr.Var v) ∷ [] } → next ≡ plus_one place → b3 ≡ record b2 { inner = b2.inner ++ stmt.Set place next ∷ [] } → FillsNest test steps g depth b0 b3 at [] into (number place)
one_fills test steps g depth b0 b1 b2 b3 at into place v next reads given fresh old_buf em e2 en e3 = record {
  code = em.code ++ writes into q v;
  grown = subst (λ (l : List CStmt). Grown (em.code ++ l) b0 b3) written
      (grown_then em.code (stmt.SetCell into (expr.Var place) (expr.Var v) ∷ stmt.Set place next ∷ []) b0 b1 b3 em.grown
      (grown_then (stmt.SetCell into (expr.Var place) (expr.Var v) ∷ []) (stmt.Set place next ∷ []) b1 b2 b3 (grown_emit (stmt.SetCell into (expr.Var place) (expr.Var v)) b1 b2 e2) (grown_emit (stmt.Set place next) b2 b3 e3)));
  formed = formed_is;
  runs = λ c. nest_none c test steps g reads b0.ints b0.bufs q at into v em.code (fresh_below g.ints b0.ints place fresh) given.ints (fresh_from g.ints b0.ints place fresh) given.bufs old_buf (em.runs c);
}
  where
    q : ℕ
    q = number place

    is : place ≡ int.Local q
    is = fresh_is g.ints b0.ints place fresh

    written : stmt.SetCell into (expr.Var place) (expr.Var v) ∷ stmt.Set place next ∷ [] ≡ writes into q v
    written =
        ap (λ (x : CExpr). stmt.SetCell into (expr.Var place) (expr.Var v) ∷ stmt.Set place x ∷ []) en
        ∙ ap (λ (x : Int). stmt.SetCell into (expr.Var x) (expr.Var v) ∷ stmt.Set x (plus_one x) ∷ []) is

    ints3 : b3.ints ≡ b1.ints
    ints3 = ap (λ (b : Blocks). b.ints) e3 ∙ ap (λ (b : Blocks). b.ints) e2

    bufs3 : b3.bufs ≡ b1.bufs
    bufs3 = ap (λ (b : Blocks). b.bufs) e3 ∙ ap (λ (b : Blocks). b.bufs) e2

    formed_is : IsFormed g (int.Local q ∷ at ++ []) (into ∷ []) b3 (1 + depth + 0) (em.code ++ writes into q v)
    formed_is sc room within are bufs more more_bufs le =
        let v_is = fresh_declared sc b0.ints b1.ints v em.fresh (omega (arith, ints3, more)) in
        stmts_append sc (Some room) em.code (writes into q v)
        (em.formed sc room within (ints_first sc at [] are.1) tt (omega (arith, ints3, more)) (omega (arith, bufs3, more_bufs)) (omega (arith, le)))
        (one_stmt sc (Some room) (stmt.SetCell into (expr.Var (int.Local q)) (expr.Var v)) (stmt.Set (int.Local q) (plus_one (int.Local q)) ∷ [])
        (set_cell_formed sc (Some room) into (expr.Var (int.Local q)) (expr.Var v) bufs.0 (var_formed sc (int.Local q) are.0 room) (var_formed sc v v_is room))
        (one_stmt sc (Some room) (stmt.Set (int.Local q) (plus_one (int.Local q))) []
        (set_formed sc (Some room) (int.Local q) (plus_one (int.Local q)) are.0 (plus_one_formed sc (int.Local q) room (omega (arith, le)) are.0)) refl))

-- ---- What a call for the axes behind one needs

-- the counter of a loop behind the others
pub kept_counter : (n n' q : ℕ) (at at1 : List Int) (i : Int) → q < n → n' ≡ n + 1 → i ≡ int.Local n → at1 ≡ at ++ i ∷ [] → AreOldBut n q at → AreOldBut n' q at1
kept_counter n n' q at at1 i lt en ei ea h =
    let apart : n ≡ q → ⊥ = λ e. omega (arith, lt, e) in
    let last : IsOldBut n' q (int.Local n) = (omega (arith, en), apart) in
    subst (λ (l : List Int). AreOldBut n' q l) (sym ea)
    (are_old_but_append n' q at (i ∷ []) (are_old_but_more n n' q at (omega (arith, en)) h) (subst (λ (x : Int). IsOldBut n' q x) (sym ei) last, tt))

rest_is : (x : Int) (xs : List Int) → take (length (x ∷ xs) - 1) (drop 1 (x ∷ xs)) ≡ xs
rest_is x xs = let e : length (x ∷ xs) - 1 ≡ length xs = omega arith in ap (λ n. take n xs) e ∙ take-length xs

pub kept_rest : (n n' q : ℕ) (xs : List Int) → 1 ≤ length xs → n ≤ n' → AreOldBut n q xs → AreOldBut n' q (take (length xs - 1) (drop 1 xs))
kept_rest n n' q [] some le h = absurd (omega (arith, some))
kept_rest n n' q (x ∷ xs) some le h = subst (λ (l : List Int). AreOldBut n' q l) (sym (rest_is x xs)) (are_old_but_more n n' q xs le h.1)

pub begun_ints : (b0 b1 : Blocks) → b1 ≡ loop_begun b0 → (b1.ints ≡ b0.ints + 1) × (b1.bufs ≡ b0.bufs)
begun_ints b0 b1 e = (ap (λ (b : Blocks). b.ints) e, ap (λ (b : Blocks). b.bufs) e)

-- what was built before a loop is kept over it
pub kept_round : (b0 b1 b2 b3 : Blocks) → b1 ≡ loop_begun b0 → IsKept b1 b2 → IsKeptRound b2 b3 → IsKept b0 b3
kept_round b0 b1 b2 b3 e k r = r b0 (subst (λ (b : Blocks). IsKept b b2) e k)

-- a block is open
pub is_open : (b0 b1 b2 : Blocks) (test : Test) (steps : Steps) (g : Scope) (depth : ℕ) (at lengths : List Int) (into : Buf) (q : ℕ) → b1 ≡ loop_begun b0 → FillsNest test steps g depth b1 b2 at lengths into q → 0 < length b2.outer
is_open b0 b1 b2 test steps g depth at lengths into q e nest =
    let blocks : b2.outer ≡ b0.outer ++ (b0.inner ++ stmt.Set (int.Local b0.ints) (expr.Lit (pos 0)) ∷ []) ∷ [] = nest.grown.outer ∙ ap (λ (b : Blocks). b.outer) e in
    subst (λ (l : List (List CStmt)). 0 < length l) (sym blocks) (some b0.outer (b0.inner ++ stmt.Set (int.Local b0.ints) (expr.Lit (pos 0)) ∷ []))
  where
    some : (xs : List (List CStmt)) (x : List CStmt) → 0 < length (xs ++ x ∷ [])
    some [] x = omega arith
    some (y ∷ xs) x = omega arith

-- ---- A loop round the axes behind one

axis_built : (test : Test) (steps : Steps) (g : Scope) (depth : ℕ) (b0 b1 b2 b3 : Blocks) (at at1 lengths : List Int) (len : Int) (into : Buf) (place i : Int) → ReadsWithin g test steps → AreGiven g b0 → IsFresh g.ints b0.ints place → AreOldBut b0.ints (number place) at → AreOldBut b0.ints (number place) (len ∷ lengths) → IsOldBuf b0.bufs into → i ≡ int.Local b0.ints → b1 ≡ loop_begun b0 → at1 ≡ at ++ i ∷ [] → FillsNest test steps g depth b1 b2 at1 lengths into (number place) → LoopEnded i len b2 b3 → FillsNest test steps g depth b0 b3 at (len ∷ lengths) into (number place)
axis_built test steps g depth b0 b1 b2 b3 at at1 lengths len into place i reads given fresh kept_at kept_lengths old_buf ei e1 ea nest ended = record {
  code = counted_loop (int.Local n) len nest.code;
  grown = loop_grown nest.code b0 b1 b2 b3 i len ei e1 nest.grown ended;
  formed = formed_is;
  runs = λ c. nest_axis c test steps g reads n m q at len lengths into nest.code (fresh_below g.ints n place fresh) given.ints (fresh_from g.ints n place fresh) given.bufs old_buf kept_at kept_lengths (inner_runs c);
}
  where
    n : ℕ
    n = b0.ints

    m : ℕ
    m = b0.bufs

    q : ℕ
    q = number place

    ints1 : b1.ints ≡ n + 1
    ints1 = (begun_ints b0 b1 e1).0

    bufs1 : b1.bufs ≡ m
    bufs1 = (begun_ints b0 b1 e1).1

    at_is : at1 ≡ at ++ int.Local n ∷ []
    at_is = ea ∙ ap (λ (x : Int). at ++ x ∷ []) ei

    inner_runs : (c : Code) → NestRuns c test steps (n + 1) m q (at ++ int.Local n ∷ []) lengths into nest.code
    inner_runs c =
        subst (λ (l : List Int). NestRuns c test steps (n + 1) m q l lengths into nest.code) at_is
        (subst (λ (k : ℕ). NestRuns c test steps (n + 1) k q at1 lengths into nest.code) bufs1
        (subst (λ (k : ℕ). NestRuns c test steps k b1.bufs q at1 lengths into nest.code) ints1 (nest.runs c)))

    formed_is : IsFormed g (int.Local q ∷ at ++ len ∷ lengths) (into ∷ []) b3 (1 + depth + length (len ∷ lengths)) (counted_loop (int.Local n) len nest.code)
    formed_is sc room within are bufs more more_bufs le =
        let counter : is_int sc (int.Local n) ≡ true = is_below n sc.ints (omega (arith, ints1, nest.grown.ints, ended.ints, more)) in
        let of_at = ints_first sc at (len ∷ lengths) are.1 in
        let of_lengths = ints_last sc at (len ∷ lengths) are.1 in
        let names1 : AreInts sc (int.Local q ∷ at1 ++ lengths) = (are.0, subst (λ (l : List Int). AreInts sc (l ++ lengths)) (sym at_is) (ints_append sc (at ++ int.Local n ∷ []) lengths (ints_append sc at (int.Local n ∷ []) of_at (counter, tt)) of_lengths.1)) in
        loop_formed sc (1 + depth + length lengths) room (int.Local n) len nest.code (omega arith) (omega (arith, le)) counter of_lengths.0
        (λ r kr. nest.formed sc r within names1 bufs (omega (arith, ended.ints, more)) (omega (arith, ended.bufs, more_bufs)) kr)

pub axis_fills : (test : Test) (steps : Steps) (g : Scope) (depth : ℕ) (b0 b1 b2 b3 : Blocks) (at at1 lengths : List Int) (into : Buf) (place i : Int) → 1 ≤ length lengths → ReadsWithin g test steps → AreGiven g b0 → IsFresh g.ints b0.ints place → AreOldBut b0.ints (number place) at → AreOldBut b0.ints (number place) lengths → IsOldBuf b0.bufs into → i ≡ int.Local b0.ints → b1 ≡ loop_begun b0 → at1 ≡ at ++ i ∷ [] → FillsNest test steps g depth b1 b2 at1 (take (length lengths - 1) (drop 1 lengths)) into (number place) → LoopEnded i (slice_index_or lengths 0 (int.Local 0)) b2 b3 → FillsNest test steps g depth b0 b3 at lengths into (number place)
axis_fills test steps g depth b0 b1 b2 b3 at at1 [] into place i some reads given fresh kept_at kept_lengths old_buf ei e1 ea nest ended = absurd (omega (arith, some))
axis_fills test steps g depth b0 b1 b2 b3 at at1 (len ∷ lengths) into place i some reads given fresh kept_at kept_lengths old_buf ei e1 ea nest ended =
    axis_built test steps g depth b0 b1 b2 b3 at at1 lengths len into place i reads given fresh kept_at kept_lengths old_buf ei e1 ea
    (subst (λ (l : List Int). FillsNest test steps g depth b1 b2 at1 l into (number place)) (rest_is len lengths) nest) ended

-- ---- Filling from the first cell on

-- the block round the nest was opened
pub opened_ints : (b0 b1 b2 b3 : Blocks) (l m : List CStmt) (o : List (List CStmt)) → b1 ≡ record b0 { ints = b0.ints + 1 } → b2 ≡ record b1 { inner = l } → b3 ≡ record b2 { outer = o; inner = m } → (b3.ints ≡ b0.ints + 1) × (b3.bufs ≡ b0.bufs)
opened_ints b0 b1 b2 b3 l m o e1 e2 e3 = (
  ap (λ (b : Blocks). b.ints) e3 ∙ ap (λ (b : Blocks). b.ints) e2 ∙ ap (λ (b : Blocks). b.ints) e1,
  ap (λ (b : Blocks). b.bufs) e3 ∙ ap (λ (b : Blocks). b.bufs) e2 ∙ ap (λ (b : Blocks). b.bufs) e1,
)

-- and is closed again
pub kept_closed : (b0 b2 b3 b4 b5 : Blocks) → IsKept b0 b2 → b3 ≡ record b2 { outer = b2.outer ++ b2.inner ∷ []; inner = [] } → IsKept b3 b4 → b4.outer ≡ b5.outer ++ b5.inner ∷ [] → (b5.ints ≡ b4.ints) × (b5.bufs ≡ b4.bufs) → IsKept b0 b5
kept_closed b0 b2 b3 b4 b5 k e l round names = kept_trans b0 b2 b5 k (kept_close b2 b4 b5 (subst (λ (b : Blocks). IsKept b b4) e l) round names.0 names.1)

pub lengths_kept : (n m : ℕ) (place : Int) (xs : List Int) → m ≡ n + 1 → place ≡ int.Local n → AreOld n xs → AreOldBut m (number place) xs
lengths_kept n m place xs em ep h = subst (λ (x : Int). AreOldBut m (number x) xs) (sym ep) (subst (λ k. AreOldBut k n xs) (sym em) (old_kept n xs h))

some_formed : (sc : Scope) (xs : List Int) (room : ℕ) → length xs + 1 ≤ room → AreInts sc xs → is_expr sc (some_element xs) (Some room) ≡ true
some_formed sc [] room le h = lit_formed sc 1 (omega arith) room
some_formed sc (x ∷ xs) room le h =
    bin_formed sc op.And (expr.Bin op.Greater (expr.Var x) (expr.Lit (pos 0))) (some_element xs) (length xs + 1) room (omega (arith, le))
    (λ r kr. with_literal_formed sc op.Greater x 0 r (omega (arith, kr)) (omega arith) h.0)
    (λ r kr. some_formed sc xs r kr h.1)

pub fill_built : (test : Test) (steps : Steps) (g : Scope) (depth : ℕ) (b0 b1 b2 b3 b4 b5 b6 : Blocks) (at lengths : List Int) (into : Buf) (place : Int) (some : CExpr) (body : List CStmt) → ReadsWithin g test steps → AreGiven g b0 → AreOld b0.ints lengths → IsOldBuf b0.bufs into → place ≡ int.Local b0.ints → b1 ≡ record b0 { ints = b0.ints + 1 } → b2 ≡ record b1 { inner = b1.inner ++ stmt.Set place (expr.Lit (pos 0)) ∷ [] } → some ≡ some_element lengths → b3 ≡ record b2 { outer = b2.outer ++ b2.inner ∷ []; inner = [] } → at ≡ [] → FillsNest test steps g depth b3 b4 at lengths into (number place) → body ≡ b4.inner → b4.outer ≡ b5.outer ++ b5.inner ∷ [] → (b5.ints ≡ b4.ints) × (b5.bufs ≡ b4.bufs) → b6 ≡ record b5 { inner = b5.inner ++ stmt.If some body None ∷ [] } → Fills test steps g depth b0 b6 lengths into
fill_built test steps g depth b0 b1 b2 b3 b4 b5 b6 at lengths into place some body reads given old old_buf ep e1 e2 es e3 ea nest eb round names e6 = record {
  code = fills n (some_element lengths) nest.code;
  grown = record { inner = inner_is; outer = outer_is; ints = omega (arith, ints3, nest.grown.ints, ints6); bufs = omega (arith, bufs3, nest.grown.bufs, bufs6) };
  formed = formed_is;
  runs = λ c. fill_runs c test steps g reads n m lengths into nest.code given.ints given.bufs old old_buf (nest_runs c);
}
  where
    n : ℕ
    n = b0.ints

    m : ℕ
    m = b0.bufs

    ints3 : b3.ints ≡ n + 1
    ints3 = (opened_ints b0 b1 b2 b3 (b1.inner ++ stmt.Set place (expr.Lit (pos 0)) ∷ []) [] (b2.outer ++ b2.inner ∷ []) e1 e2 e3).0

    bufs3 : b3.bufs ≡ m
    bufs3 = (opened_ints b0 b1 b2 b3 (b1.inner ++ stmt.Set place (expr.Lit (pos 0)) ∷ []) [] (b2.outer ++ b2.inner ∷ []) e1 e2 e3).1

    ints6 : b6.ints ≡ b4.ints
    ints6 = ap (λ (b : Blocks). b.ints) e6 ∙ names.0

    bufs6 : b6.bufs ≡ b4.bufs
    bufs6 = ap (λ (b : Blocks). b.bufs) e6 ∙ names.1

    blocks : b2.outer ++ b2.inner ∷ [] ≡ b5.outer ++ b5.inner ∷ []
    blocks = sym (ap (λ (b : Blocks). b.outer) e3) ∙ sym nest.grown.outer ∙ round

    outer_is : b6.outer ≡ b0.outer
    outer_is = ap (λ (b : Blocks). b.outer) e6 ∙ sym (same_from_push b2.outer b5.outer b2.inner b5.inner blocks).0 ∙ ap (λ (b : Blocks). b.outer) e2 ∙ ap (λ (b : Blocks). b.outer) e1

    inner5 : b5.inner ≡ b0.inner ++ stmt.Set place (expr.Lit (pos 0)) ∷ []
    inner5 = sym (same_from_push b2.outer b5.outer b2.inner b5.inner blocks).1 ∙ ap (λ (b : Blocks). b.inner) e2 ∙ ap (λ (b : Blocks). b.inner ++ stmt.Set place (expr.Lit (pos 0)) ∷ []) e1

    body_is : body ≡ nest.code
    body_is = eb ∙ nest.grown.inner ∙ ap (λ (b : Blocks). b.inner ++ nest.code) e3

    inner_is : b6.inner ≡ b0.inner ++ fills n (some_element lengths) nest.code
    inner_is =
        ap (λ (b : Blocks). b.inner) e6
        ∙ ap (λ (l : List CStmt). l ++ stmt.If some body None ∷ []) inner5
        ∙ append_assoc b0.inner (stmt.Set place (expr.Lit (pos 0)) ∷ []) (stmt.If some body None ∷ [])
        ∙ ap (λ (x : Int). b0.inner ++ stmt.Set x (expr.Lit (pos 0)) ∷ stmt.If some body None ∷ []) ep
        ∙ ap (λ (x : CExpr). b0.inner ++ stmt.Set (int.Local n) (expr.Lit (pos 0)) ∷ stmt.If x body None ∷ []) es
        ∙ ap (λ (l : List CStmt). b0.inner ++ stmt.Set (int.Local n) (expr.Lit (pos 0)) ∷ stmt.If (some_element lengths) l None ∷ []) body_is

    number_is : number place ≡ n
    number_is = ap number ep

    nest_runs : (c : Code) → NestRuns c test steps (n + 1) m n [] lengths into nest.code
    nest_runs c =
        subst (λ (l : List Int). NestRuns c test steps (n + 1) m n l lengths into nest.code) ea
        (subst (λ (k : ℕ). NestRuns c test steps (n + 1) m k at lengths into nest.code) number_is
        (subst (λ (k : ℕ). NestRuns c test steps (n + 1) k (number place) at lengths into nest.code) bufs3
        (subst (λ (k : ℕ). NestRuns c test steps k b3.bufs (number place) at lengths into nest.code) ints3 (nest.runs c))))

    formed_is : IsFormed g lengths (into ∷ []) b6 (fill_depth (length lengths) depth) (fills n (some_element lengths) nest.code)
    formed_is sc room within are bufs more more_bufs le =
        let place_is : is_int sc (int.Local n) ≡ true = is_below n sc.ints (omega (arith, ints3, nest.grown.ints, ints6, more)) in
        let names1 : AreInts sc (int.Local (number place) ∷ at ++ lengths) =
        (ap (λ k. is_int sc (int.Local k)) number_is ∙ place_is, subst (λ (l : List Int). AreInts sc (l ++ lengths)) (sym ea) are) in
        one_stmt sc (Some room) (stmt.Set (int.Local n) (expr.Lit (pos 0))) (stmt.If (some_element lengths) nest.code None ∷ [])
        (set_formed sc (Some room) (int.Local n) (expr.Lit (pos 0)) place_is (lit_formed sc 0 (omega arith) room))
        (one_stmt sc (Some room) (stmt.If (some_element lengths) nest.code None) []
        (if_formed sc (1 + depth + length lengths) room (some_element lengths) nest.code (omega (arith, le)) (some_formed sc lengths room (omega (arith, le)) are)
        (λ r kr. nest.formed sc r within names1 bufs (omega (arith, ints6, more)) (omega (arith, bufs6, more_bufs)) kr))
        refl)

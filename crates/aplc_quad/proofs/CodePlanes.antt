-- What the code of arrays of rank 2 or more prints, and how it is built.
use Rattle.std.proofs.Common.{◌≡◌, ℕ, zero, suc, ◌+◌, ◌*◌, ◌<◌, ◌≤◌, List, [], ◌∷◌, ◌++◌, ◌⊎◌, inl, inr, length, refl, sym, ap, ◌∙◌, subst, arith, ℤ, true}
use Rattle.std.specs.Prelude.{Some, None, pos, int_lt}
use Rattle.std.proofs.lemmas.Bool.Decides.{nat_tests}
use Rattle.std.proofs.lemmas.List.{same_from_push}
use Rattle.aplc_scalar.specs.declared.kind.Kind.TheVariants.{Char}
use Rattle.aplc_scalar.specs.Scalar.{truth}
use Rattle.aplc_arr.specs.Arrays.{product}
use Rattle.aplc_arr.specs.Display.{shown}
use Rattle.aplc_cprof.specs.declared.syntax.Int.{Int}
use Rattle.aplc_cprof.specs.declared.syntax.Int.TheVariants as int
use Rattle.aplc_cprof.specs.declared.syntax.Op.TheVariants as op
use Rattle.aplc_cprof.specs.declared.syntax.CExpr.{CExpr}
use Rattle.aplc_cprof.specs.declared.syntax.CExpr.TheVariants as expr
use Rattle.aplc_cprof.specs.declared.syntax.CStmt.{CStmt}
use Rattle.aplc_cprof.specs.declared.syntax.CStmt.TheVariants as stmt
use Rattle.aplc_cprof.specs.Blocks.{Blocks, IsKept}
use Rattle.aplc_cprof.specs.WellFormed.{Scope, is_int, is_expr}
use Rattle.aplc_cprof.specs.Machine.{State, Code, Is, or_unset, apply, truth_of, value, settled}
use Rattle.aplc_cprof.specs.Frames.{AreOld, AreGiven, Stays, Hold}
use Rattle.aplc_cprof.specs.Emitted.{AreInts, IsFormed}
use Rattle.aplc_cprof.proofs.Kept.{kept_trans, kept_close}
use Rattle.aplc_cprof.proofs.Values.{value_Lit, value_Bin}
use Rattle.aplc_cprof.proofs.Frames.{put_at, stays_none, stays_set}
use Rattle.aplc_cprof.proofs.Emitted.{is_below, bin_formed, lit_formed, with_literal_formed, one_stmt, set_formed, if_formed, grown_then}
use Rattle.aplc_cprof.proofs.Counting.{with_literal_value, does_set}
use Rattle.aplc_collect.specs.Elements.{Test, Steps, ReadsWithin}
use Rattle.aplc_quad.specs.declared.printing.Columns.{Columns}
use Rattle.aplc_quad.specs.declared.printing.Columns.TheVariants.{Characters}
use Rattle.aplc_quad.specs.Rows.{nest_bytes, cell_of, listed}
use Rattle.aplc_quad.specs.Printed.{Printed, NoFault, Puts, kind_of, bufs_of, AreOldColumns, Fits, NestFits, Adds, nest_steps, NestPuts, PlanesPut}
use Rattle.aplc_quad.specs.Shows.{some_element, CharactersShow, show_steps}
use Rattle.aplc_quad.proofs.Puts.{stays_printed, hold_printed, puts_less, puts_steps, puts_none, quiet_then, puts_if, puts_else}
use Rattle.aplc_quad.proofs.CodeRows.{laid_printed, stands_printed}
use Rattle.aplc_quad.proofs.LineShows.{short_shape, stands_by_places, plain_fits}
use Rattle.aplc_quad.proofs.Widths.{characters_shown}
use Rattle.aplc_quad.proofs.Whole.{nothing_shown}
use Rattle.aplc_quad.proofs.Pieces.{times_more}
use Rattle.aplc_quad.proofs.ShowSteps.{planes_within}

-- ---- The test for elements

abbrev pub AllSome : List ℕ → Type 0
AllSome [] = Unit {0}
AllSome (n ∷ ns) = (1 ≤ n) × AllSome ns

pub product_some : (ns : List ℕ) → AllSome ns → 0 < product ns
product_some [] h = omega arith
product_some (n ∷ ns) h = let i = product_some ns h.1 in let j = h.0 in at_least n (product ns) j i
  where
    at_least : (a b : ℕ) → 1 ≤ a → 0 < b → 0 < a * b
    at_least zero b h k = absurd (omega (arith, h))
    at_least (suc a) b h k = omega (arith, k)

abbrev pub Tells : CExpr → List (List ℤ) → State → List ℕ → Type 0
Tells e tables s ns = ((value e tables s ≡ Is (pos 1)) × (0 < product ns)) ⊎ ((value e tables s ≡ Is (pos 0)) × (product ns ≡ 0))

pub some_value : (tables : List (List ℤ)) (s : State) (xs : List Int) (ns : List ℕ) → Hold s xs ns → Tells (some_element xs) tables s ns
some_value tables s [] [] h = inl (value_Lit (pos 1) tables s, omega arith)
some_value tables s [] (n ∷ ns) h = absurd h
some_value tables s (x ∷ xs) [] h = absurd h
some_value tables s (x ∷ xs) (n ∷ ns) h = first n refl (some_value tables s xs ns h.1)
  where
    test : CExpr
    test = expr.Bin op.Greater (expr.Var x) (expr.Lit (pos 0))

    test_is : (m : ℕ) → m ≡ n → value test tables s ≡ Is (truth (int_lt (pos 0) (pos m)))
    test_is m e = with_literal_value tables s op.Greater x (pos 0) (pos m) (h.0 ∙ ap (λ k. Is (pos k)) (sym e))

    none_times : (k : ℕ) → 0 * k ≡ 0
    none_times k = omega arith

    at_least : (m b : ℕ) → 0 < b → 0 < suc m * b
    at_least m b k = omega (arith, k)

    first : (m : ℕ) → m ≡ n → Tells (some_element xs) tables s ns → Tells (some_element (x ∷ xs)) tables s (n ∷ ns)
    first zero e r =
        inr (value_Bin op.And test (some_element xs) tables s ∙ ap (λ v. apply op.And v (value (some_element xs) tables s)) (test_is 0 e), ap (λ k. k * product ns) (sym e) ∙ none_times (product ns))
    first (suc m) e (inl r) =
        let positive : truth (int_lt (pos 0) (pos (suc m))) ≡ pos 1 = grind (arith, nat_tests) in
        inl (value_Bin op.And test (some_element xs) tables s ∙ ap (λ v. apply op.And v (value (some_element xs) tables s)) (test_is (suc m) e ∙ ap Is positive) ∙ ap truth_of r.0, subst (λ k. 0 < k * product ns) e (at_least m (product ns) r.1))
    first (suc m) e (inr r) =
        let positive : truth (int_lt (pos 0) (pos (suc m))) ≡ pos 1 = grind (arith, nat_tests) in
        inr (value_Bin op.And test (some_element xs) tables s ∙ ap (λ v. apply op.And v (value (some_element xs) tables s)) (test_is (suc m) e ∙ ap Is positive) ∙ ap truth_of r.0, ap (λ k. n * k) r.1 ∙ omega arith)

pub some_formed : (sc : Scope) (xs : List Int) (room : ℕ) → length xs + 1 ≤ room → AreInts sc xs → is_expr sc (some_element xs) (Some room) ≡ true
some_formed sc [] room le h = lit_formed sc 1 (omega arith) room
some_formed sc (x ∷ xs) room le h =
    bin_formed sc op.And (expr.Bin op.Greater (expr.Var x) (expr.Lit (pos 0))) (some_element xs) (length xs + 1) room (omega (arith, le))
    (λ r kr. with_literal_formed sc op.Greater x 0 r (omega (arith, kr)) (omega arith) h.0)
    (λ r kr. some_formed sc xs r kr h.1)

-- ---- Elements along all axes

pub nest_fits : (columns : Columns) (item : ℕ → ℤ) (ns : List ℕ) (p : ℕ) → ((q : ℕ) → q < p + product ns → Fits columns 0 (item q)) → NestFits columns (listed []) item ns p
nest_fits columns item [] p h = tt
nest_fits columns item (n ∷ []) p h = λ j lt. h (p + j) (let e : n * 1 ≡ n = omega arith in omega (arith, e, lt))
nest_fits columns item (l ∷ n ∷ ns) p h = λ i lt. nest_fits columns item (n ∷ ns) (p + i * product (n ∷ ns)) (λ q less. h q (let t = times_more i l (product (n ∷ ns)) lt in omega (arith, t, less)))

module _ (c : Code) (test : Test) (steps : Steps) (g : Scope) (reads : ReadsWithin g test steps) where
  -- no row was written before
  record Fresh (n m : ℕ) (s t : State) : Type 0 where
    pub stays : Stays n m s t
    pub is : t.ints n ≡ Some (pos 0)

  pub planes_put : (n m : ℕ) (lengths : List Int) (columns : Columns) (nest : List CStmt) → g.ints ≤ n → g.bufs ≤ m → AreOld n lengths → AreOldColumns m columns → NestPuts test steps [] lengths (int.Local n) columns c (n + 1) m nest → PlanesPut test steps lengths columns c n m (stmt.Set (int.Local n) (expr.Lit (pos 0)) ∷ nest)
  planes_put n m lengths columns nest le leb old old_columns runs s ns k ws item some held short stands laid fits =
      quiet_then c n m 1 (nest_steps ns k) (stmt.Set (int.Local n) (expr.Lit (pos 0)) ∷ []) nest s (Fresh n m s) (nest_bytes (kind_of columns) ws item ns 0)
      (does_set c (Stays n m s) n (expr.Lit (pos 0)) s (Fresh n m s) NoFault (pos 0) (value_Lit (pos 0) c.tables s)
      (λ rest. stays_set n m n (pos 0) s s rest (omega arith) (stays_none n m s))
      (λ rest. record { stays = stays_set n m n (pos 0) s s rest (omega arith) (stays_none n m s); is = put_at s.ints n (Some (pos 0)) }))
      (λ t h. h.stays)
      (λ t h.
      let same = stays_printed n m s t h.stays in
      puts_less c n (n + 1) m m (nest_steps ns k) (nest_steps ns k) nest t (nest_bytes (kind_of columns) ws item ns 0) (omega arith) (omega arith) (omega arith)
      (runs t [] ns 0 k ws item some tt (hold_printed n m [] s t lengths ns same old held) short (ap or_unset h.is)
      (stands_printed c test steps g reads n m [] s t [] ns 0 k item le leb same stands)
      (λ j lj. laid_printed columns n m [] s t j (ws j) old_columns same (laid j lj)) fits))

  -- characters, where there are any
  pub characters_show : (n m : ℕ) (lengths : List Int) (planes : List CStmt) → g.ints ≤ n → g.bufs ≤ m → AreOld n lengths → PlanesPut test steps lengths Characters c n m planes → CharactersShow test steps lengths c n m (stmt.If (some_element lengths) planes None ∷ [])
  characters_show n m lengths planes le leb old runs s a k array ek ranked held stands = by (some_value c.tables s lengths a.shape held)
    where
      same : Printed n m [] s (settled s)
      same = stays_printed n m s (settled s) record { ints = λ x lt. refl; bufs = λ p lt. refl; around = refl; heap = refl }

      text : List ℕ
      text = nest_bytes Char (listed []) (cell_of a) a.shape 0

      by : Tells (some_element lengths) c.tables s a.shape → Puts c n m (show_steps a.shape k) (stmt.If (some_element lengths) planes None ∷ []) s (shown a)
      by (inr none) =
          subst (λ l. Puts c n m (show_steps a.shape k) (stmt.If (some_element lengths) planes None ∷ []) s l) (nothing_shown a array ranked none.1)
          (puts_steps c n m 1 (show_steps a.shape k) (stmt.If (some_element lengths) planes None ∷ []) s [] (omega arith)
          (puts_else c n m 0 (some_element lengths) planes None s [] (pos 0) none.0 refl (puts_none c n m (settled s))))
      by (inl some) =
          subst (λ l. Puts c n m (show_steps a.shape k) (stmt.If (some_element lengths) planes None ∷ []) s l) (ap (λ q. nest_bytes q (listed []) (cell_of a) a.shape 0) (sym ek) ∙ characters_shown a ek array ranked some.1)
          (puts_steps c n m (1 + nest_steps a.shape k + 1) (show_steps a.shape k) (stmt.If (some_element lengths) planes None ∷ []) s text (let most = planes_within a.shape k ranked some.1 in omega (arith, most))
          (puts_if c n m (1 + nest_steps a.shape k) (some_element lengths) planes None s text (pos 1) some.0 refl
          (runs (settled s) a.shape k (listed []) (cell_of a) some.1 (hold_printed n m [] s (settled s) lengths a.shape same old held) (short_shape a array)
          (stands_printed c test steps g reads n m [] s (settled s) [] a.shape 0 k (cell_of a) le leb same (stands_by_places test steps c.tables s a k array stands))
          (λ j lj. tt) (nest_fits Characters (cell_of a) a.shape 0 (λ q lt. plain_fits a Char q array ek (omega (arith, lt)))))))

-- ---- Built

pub planes_built : (test : Test) (steps : Steps) (g : Scope) (depth : ℕ) (b0 b1 b2 b3 : Blocks) (at lengths : List Int) (started : Int) (columns : Columns) → ReadsWithin g test steps → AreGiven g b0 → AreOld b0.ints lengths → AreOldColumns b0.bufs columns → started ≡ int.Local b0.ints → b1 ≡ record b0 { ints = b0.ints + 1 } → b2 ≡ record b1 { inner = b1.inner ++ stmt.Set started (expr.Lit (pos 0)) ∷ [] } → at ≡ [] → Adds g (2 + depth + length lengths) b2 b3 (started ∷ at ++ lengths) (bufs_of columns) (NestPuts test steps at lengths started columns) → Adds g (2 + depth + length lengths) b0 b3 lengths (bufs_of columns) (PlanesPut test steps lengths columns)
planes_built test steps g depth b0 b1 b2 b3 at lengths started columns reads given old old_columns es e1 e2 ea nest = record {
  code = stmt.Set (int.Local n) (expr.Lit (pos 0)) ∷ nest.code;
  grown = grown_then (stmt.Set (int.Local n) (expr.Lit (pos 0)) ∷ []) nest.code b0 b2 b3 record { inner = set_there; outer = ap (λ (b : Blocks). b.outer) e2 ∙ ap (λ (b : Blocks). b.outer) e1; ints = omega (arith, ints2); bufs = omega (arith, bufs2) } nest.grown;
  formed = formed_is;
  runs = λ c. planes_put c test steps g reads n b0.bufs lengths columns nest.code given.ints given.bufs old old_columns (nest_is c);
}
  where
    n : ℕ
    n = b0.ints

    ints2 : b2.ints ≡ n + 1
    ints2 = ap (λ (b : Blocks). b.ints) e2 ∙ ap (λ (b : Blocks). b.ints) e1

    bufs2 : b2.bufs ≡ b0.bufs
    bufs2 = ap (λ (b : Blocks). b.bufs) e2 ∙ ap (λ (b : Blocks). b.bufs) e1

    set_there : b2.inner ≡ b0.inner ++ stmt.Set (int.Local n) (expr.Lit (pos 0)) ∷ []
    set_there =
        ap (λ (b : Blocks). b.inner) e2
        ∙ ap (λ (b : Blocks). b.inner ++ stmt.Set started (expr.Lit (pos 0)) ∷ []) e1
        ∙ ap (λ (x : Int). b0.inner ++ stmt.Set x (expr.Lit (pos 0)) ∷ []) es

    nest_is : (c : Code) → NestPuts test steps [] lengths (int.Local n) columns c (n + 1) b0.bufs nest.code
    nest_is c =
        subst (λ (l : List Int). NestPuts test steps l lengths (int.Local n) columns c (n + 1) b0.bufs nest.code) ea
        (subst (λ (x : Int). NestPuts test steps at lengths x columns c (n + 1) b0.bufs nest.code) es
        (subst (λ k. NestPuts test steps at lengths started columns c (n + 1) k nest.code) bufs2
        (subst (λ k. NestPuts test steps at lengths started columns c k b2.bufs nest.code) ints2 (nest.runs c))))

    formed_is : IsFormed g lengths (bufs_of columns) b3 (2 + depth + length lengths) (stmt.Set (int.Local n) (expr.Lit (pos 0)) ∷ nest.code)
    formed_is sc room within are bufs more more_bufs le =
        let flag : is_int sc (int.Local n) ≡ true = is_below n sc.ints (omega (arith, ints2, nest.grown.ints, more)) in
        one_stmt sc (Some room) (stmt.Set (int.Local n) (expr.Lit (pos 0))) nest.code (set_formed sc (Some room) (int.Local n) (expr.Lit (pos 0)) flag (lit_formed sc 0 (omega arith) room))
        (nest.formed sc room within (ap (is_int sc) es ∙ flag, subst (λ (l : List Int). AreInts sc (l ++ lengths)) (sym ea) are) bufs more more_bufs le)

-- an if round a block that was opened, filled and closed
pub when_some : (test : Test) (steps : Steps) (g : Scope) (depth : ℕ) (b0 b1 b2 b3 b4 : Blocks) (lengths : List Int) (some : CExpr) (body : List CStmt) (Inner Outer : Code → ℕ → ℕ → List CStmt → Type 0) → some ≡ some_element lengths → b1 ≡ record b0 { outer = b0.outer ++ b0.inner ∷ []; inner = [] } → Adds g (2 + depth + length lengths) b1 b2 lengths [] Inner → body ≡ b2.inner → b2.outer ≡ b3.outer ++ b3.inner ∷ [] → (b3.ints ≡ b2.ints) × (b3.bufs ≡ b2.bufs) → b4 ≡ record b3 { inner = b3.inner ++ stmt.If some body None ∷ [] } → ((c : Code) (code : List CStmt) → Inner c b0.ints b0.bufs code → Outer c b0.ints b0.bufs (stmt.If (some_element lengths) code None ∷ [])) → Adds g (3 + depth + length lengths) b0 b4 lengths [] Outer
when_some test steps g depth b0 b1 b2 b3 b4 lengths some body Inner Outer es e1 inner eb round names e4 meaning = record {
  code = stmt.If (some_element lengths) inner.code None ∷ [];
  grown = record { inner = inner_is; outer = ap (λ (b : Blocks). b.outer) e4 ∙ sym blocks.0; ints = omega (arith, ints1, inner.grown.ints, names.0, ints4); bufs = omega (arith, bufs1, inner.grown.bufs, names.1, bufs4) };
  formed = λ sc room within are bufs more more_bufs le.
      one_stmt sc (Some room) (stmt.If (some_element lengths) inner.code None) []
      (if_formed sc (2 + depth + length lengths) room (some_element lengths) inner.code (omega (arith, le)) (some_formed sc lengths room (omega (arith, le)) are)
      (λ r kr. inner.formed sc r within are bufs (omega (arith, names.0, ints4, more)) (omega (arith, names.1, bufs4, more_bufs)) kr)) refl;
  runs = λ c. meaning c inner.code (subst (λ k. Inner c b0.ints k inner.code) bufs1 (subst (λ k. Inner c k b1.bufs inner.code) ints1 (inner.runs c)));
}
  where
    ints1 : b1.ints ≡ b0.ints
    ints1 = ap (λ (b : Blocks). b.ints) e1

    bufs1 : b1.bufs ≡ b0.bufs
    bufs1 = ap (λ (b : Blocks). b.bufs) e1

    ints4 : b4.ints ≡ b3.ints
    ints4 = ap (λ (b : Blocks). b.ints) e4

    bufs4 : b4.bufs ≡ b3.bufs
    bufs4 = ap (λ (b : Blocks). b.bufs) e4

    blocks : (b0.outer ≡ b3.outer) × (b0.inner ≡ b3.inner)
    blocks = same_from_push b0.outer b3.outer b0.inner b3.inner (sym (ap (λ (b : Blocks). b.outer) e1) ∙ sym inner.grown.outer ∙ round)

    body_is : body ≡ inner.code
    body_is = eb ∙ inner.grown.inner ∙ ap (λ (b : Blocks). b.inner ++ inner.code) e1

    inner_is : b4.inner ≡ b0.inner ++ stmt.If (some_element lengths) inner.code None ∷ []
    inner_is =
        ap (λ (b : Blocks). b.inner) e4
        ∙ ap (λ (l : List CStmt). l ++ stmt.If some body None ∷ []) (sym blocks.1)
        ∙ ap (λ (x : CExpr). b0.inner ++ stmt.If x body None ∷ []) es
        ∙ ap (λ (l : List CStmt). b0.inner ++ stmt.If (some_element lengths) l None ∷ []) body_is

-- what was built before the block is kept
pub kept_when : (b0 b1 b2 b3 b4 : Blocks) → b1 ≡ record b0 { outer = b0.outer ++ b0.inner ∷ []; inner = [] } → IsKept b1 b2 → b2.outer ≡ b3.outer ++ b3.inner ∷ [] → (b3.ints ≡ b2.ints) × (b3.bufs ≡ b2.bufs) → IsKept b3 b4 → IsKept b0 b4
kept_when b0 b1 b2 b3 b4 e k round names l = kept_trans b0 b3 b4 (kept_close b0 b2 b3 (subst (λ (b : Blocks). IsKept b b2) e k) round names.0 names.1) l

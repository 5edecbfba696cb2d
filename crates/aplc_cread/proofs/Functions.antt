-- Functions, taken apart and put together.
use Rattle.std.proofs.Common.{◌≡◌, ◌∙◌, ap, ap₂, sym, refl, subst, ℕ, zero, suc, ◌+◌, ◌<◌, ◌^◌, List, [], ◌∷◌, ◌++◌, append_assoc, codes, decimal, Option, Bool, true, false, ◌&&◌, cond, IsTrue, nat_lt, nat_eq, arith, get_or}
use Rattle.std.proofs.lemmas.Bool.Decides.{nat_tests}
use Rattle.std.proofs.lemmas.Fmt.{decimal_digit}
use Rattle.std.proofs.lemmas.List.{append-nil, get_or_append_left}
use Rattle.std.specs.Borrow.{Bor}
use Rattle.std.specs.Prelude.{Result}
use Rattle.aplc_cprof.specs.declared.syntax.CFunction.{CFunction}
use Rattle.aplc_cprof.specs.declared.syntax.CStmt.{CStmt}
use Rattle.aplc_cprof.specs.Text.{listed_from, listed, declaration, local_int, local_buf, stmts_text}
use Rattle.aplc_cprof.specs.WellFormed.{Scope, is_count, are_stmts, is_function}
use Rattle.aplc_cread.specs.declared.lexical.Halt.{Halt}
use Rattle.aplc_cread.specs.declared.answer.Mode.{Mode}
use Rattle.aplc_cread.specs.declared.function.Counts.{Counts}
use Rattle.aplc_cread.specs.Reading.{Found, Any, Bind, Lit, OneOf, Halts, Reads, Map}
use Rattle.aplc_cread.specs.Stmts.{BlockThen, BlockBehind, may, openings, opening_may}
use Rattle.aplc_cread.specs.Listings.{numbered, Listing}
use Rattle.aplc_cread.specs.Functions.{scope_in, scope_for, Function, Declared, made, WithBufs, OpenedBy, Opened, StartedBy, Started}
use Rattle.aplc_cread.proofs.Rules.{Within, Some_of, same, Joint, joint_any, some_bind, some_map, bind_at, map_at}
use Rattle.aplc_cread.proofs.Listings.{some_listing, listing_none}
use Rattle.aplc_cread.proofs.Blocks.{within_block, joint_keyword, keyword_of, of_keyword, mask_short, some_block_then}
use Rattle.aplc_cread.proofs.Exprs.{both, and_both, lt_of, of_lt}

-- ---- Lines of declarations

names_same : (item other : ℕ → List ℕ) → ((k : ℕ) → other k ≡ item k) → (k more : ℕ) → listed_from item k more ≡ listed_from other k more
names_same item other e k zero = refl
names_same item other e k (suc more) = ap₂ (λ x y. codes ", " ++ x ++ y) (sym (e k)) (names_same item other e (k + 1) more)

-- a line that declares at least one name
pub line_text : (start head before after : List ℕ) (item : ℕ → List ℕ) → head ++ item 0 ≡ start → ((k : ℕ) → numbered before after k ≡ item k) → (more : ℕ)
    → declaration head item (suc more) ≡ start ++ (listed_from (numbered before after) 1 more ++ codes ";\n")
line_text start head before after item s e more =
    let f : nat_eq (suc more) 0 ≡ false = grind (arith, nat_tests) in
    ap (λ b. cond b [] (head ++ listed item (suc more) ++ codes ";\n")) f ∙ regroup (item 0) (listed_from item 1 more)
    ∙ ap₂ (λ x y. x ++ (y ++ codes ";\n")) s (names_same item (numbered before after) e 1 more)
  where
    regroup : (a l : List ℕ) → head ++ (a ++ l) ++ codes ";\n" ≡ (head ++ a) ++ (l ++ codes ";\n")
    regroup a l = simp append_assoc

pub bufs_line : (more : ℕ) → declaration (codes "int64_t ") local_buf (suc more) ≡ codes "int64_t *b0 = 0" ++ (listed_from (numbered (codes "*b") (codes " = 0")) 1 more ++ codes ";\n")
bufs_line more = line_text (codes "int64_t *b0 = 0") (codes "int64_t ") (codes "*b") (codes " = 0") local_buf
    (ap (λ d. codes "int64_t " ++ (codes "*b" ++ d ++ codes " = 0")) (decimal_digit 0 (omega arith))) (λ k. sym (append_assoc (codes "*b") (decimal k) (codes " = 0"))) more

pub ints_line : (more : ℕ) → declaration (codes "int64_t ") local_int (suc more) ≡ codes "int64_t v0" ++ (listed_from (numbered (codes "v") []) 1 more ++ codes ";\n")
ints_line more = line_text (codes "int64_t v0") (codes "int64_t ") (codes "v") [] local_int
    (ap (λ d. codes "int64_t " ++ (codes "v" ++ d)) (decimal_digit 0 (omega arith))) (λ k. ap (λ x. codes "v" ++ x) (append-nil (decimal k))) more

pub functions_in : (free : Bool) (c : Counts) (i b : ℕ) → 0 < c.functions → 0 < (scope_in free c i b).functions
functions_in true c i b l = omega arith
functions_in false c i b l = l

-- ---- Behind an opening that declares no whole variables

abbrev pub OpenedAny : Mode → Counts → ℕ → CFunction → List ℕ → Type 0
OpenedAny m c i = Bind (OneOf openings (opening_may (scope_in m.free c i 0) m.limit true false)) (Opened m c i)

pub opening_short : (sc : Scope) (room : Option ℕ) (b : Bool) {k : ℕ} {w : List ℕ} → OneOf openings (opening_may sc room b false) k w → k < 17
opening_short sc room b {k} o = mask_short (may sc room ++ (b ∷ [])) k o.may

pub opening_fewer : (sc : Scope) (room : Option ℕ) (b x y : Bool) (k : ℕ) (w : List ℕ) → k < 17 → OneOf openings (opening_may sc room b x) k w → OneOf openings (opening_may sc room b y) k w
opening_fewer sc room b x y k w l o = record {
  within = o.within;
  text = o.text;
  may = get_or_append_left (may sc room ++ (b ∷ [])) (y ∷ []) false k l ∙ sym (get_or_append_left (may sc room ++ (b ∷ [])) (x ∷ []) false k l) ∙ o.may;
}

fits_of : (m : Mode) (c : Counts) (i b : ℕ) (ss : List CStmt) → i < 2 ^ 32 → b < 2 ^ 32 → IsTrue (are_stmts (scope_in m.free c i b) ss m.limit) → IsTrue (is_function (scope_for m c (made i b ss)) m.limit (made i b ss))
fits_of m c i b ss l h f = and_both (is_count i && is_count b) (are_stmts (scope_in m.free c i b) ss m.limit) (and_both (is_count i) (is_count b) (of_lt i (2 ^ 32) l) (of_lt b (2 ^ 32) h)) f

pub within_declared : (m : Mode) (c : Counts) (i : ℕ) (s : List ℕ) → i < 2 ^ 32 → Within s (OpenedAny m c i) (Declared m c i)
within_declared m c i s li = same (λ f w x. into f w x.part x.front x.back x.begins x.goes_on x.whole) (λ f w x. from f w x)
  where
    made_declared : (b : ℕ) (ss : List CStmt) (f : CFunction) (w : List ℕ) → f ≡ made i b ss → b < 2 ^ 32 → IsTrue (are_stmts (scope_in m.free c i b) ss m.limit)
        → w ≡ declaration (codes "int64_t ") local_buf b ++ (stmts_text ss ++ codes "}\n") → Declared m c i f w
    made_declared b ss f w e l g t = subst (λ f. Declared m c i f w) (sym e) (record { ints = refl; fits = fits_of m c i b ss li l g; text = t })

    by : (f : CFunction) (w : List ℕ) (k : ℕ) (x y : List ℕ) (b : Bool) → nat_lt k 16 ≡ b → OneOf openings (opening_may (scope_in m.free c i 0) m.limit true false) k x → OpenedBy m c i k b f y → w ≡ x ++ y → Declared m c i f w
    by f w k x y true h o g e =
        let sc = scope_in m.free c i 0 in
        let n = g.goes_on in let ss = g.part in
        let block = (within_block sc m.limit []).into ss (x ++ g.front) (bind_at k x g.front (keyword_of sc m.limit true false k x (lt_of k 16 h) o) g.begins) in
        made_declared 0 ss f w n.is (omega arith) block.fits
        (e ∙ ap (λ y. x ++ y) (g.whole ∙ ap (λ y. g.front ++ y) n.of) ∙ sym (append_assoc x g.front (codes "\n")) ∙ ap (λ y. y ++ codes "\n") block.text ∙ append_assoc (stmts_text ss) (codes "}") (codes "\n"))
    by f w k x y false h o g e =
        let l = opening_short (scope_in m.free c i 0) m.limit true o in
        let at : k ≡ 16 = last k l h in
        let n = g.goes_on in let ss = n.part in let b = g.part in let list = g.begins in
        let more = list.more in
        let many : b ≡ suc more = let q = list.count in omega (arith, q) in
        made_declared b ss f w n.is list.below n.of.fits
        (e ∙ ap₂ (λ x y. x ++ y) (o.text ∙ ap (λ k. get_or openings k []) at) (g.whole ∙ ap₂ (λ x y. x ++ y) list.text n.of.text)
        ∙ sym (append_assoc (codes "int64_t *b0 = 0") (listed_from (numbered (codes "*b") (codes " = 0")) 1 more ++ codes ";\n") (stmts_text ss ++ codes "}\n"))
        ∙ ap (λ y. y ++ (stmts_text ss ++ codes "}\n")) (sym (bufs_line more) ∙ ap (λ n. declaration (codes "int64_t ") local_buf n) (sym many)))
      where
        last : (k : ℕ) → k < 17 → nat_lt k 16 ≡ false → k ≡ 16
        last k l h = grind (arith, nat_tests)

    into : (f : CFunction) (w : List ℕ) (k : ℕ) (x y : List ℕ) → OneOf openings (opening_may (scope_in m.free c i 0) m.limit true false) k x → Opened m c i k f y → w ≡ x ++ y → Declared m c i f w
    into f w k x y o g e = by f w k x y (nat_lt k 16) refl o g e

    opened : (b : ℕ) (ss : List CStmt) (w : List ℕ) → IsTrue (is_function (scope_in m.free c i b) m.limit (made i b ss)) → w ≡ declaration (codes "int64_t ") local_buf b ++ (stmts_text ss ++ codes "}\n") → OpenedAny m c i (made i b ss) w
    opened zero ss w fit t =
        let sc = scope_in m.free c i 0 in
        let g = both (is_count i && is_count 0) (are_stmts sc ss m.limit) fit in
        let body : List ℕ = stmts_text ss ++ codes "}" in
        let z = (within_block sc m.limit (body ++ [])).from ss body [] (record { fits = g.1; text = refl }) refl in
        record {
          part = z.part;
          front = z.front;
          back = z.back ++ codes "\n";
          begins = of_keyword sc m.limit true false z.part z.front z.begins;
          goes_on = subst (λ b. OpenedBy m c i z.part b (made i 0 ss) (z.back ++ codes "\n")) (sym (of_lt z.part 16 z.begins.within)) (bind_at ss z.back (codes "\n") z.goes_on (map_at (λ u. made i 0 ss) tt refl));
          whole = t ∙ sym (append_assoc (stmts_text ss) (codes "}") (codes "\n")) ∙ ap (λ y. y ++ codes "\n") z.whole ∙ append_assoc z.front z.back (codes "\n");
        }
    opened (suc more) ss w fit t =
        let sc = scope_in m.free c i (suc more) in
        let g = both (is_count i && is_count (suc more)) (are_stmts sc ss m.limit) fit in
        let l = lt_of (suc more) (2 ^ 32) (both (is_count i) (is_count (suc more)) g.0).1 in
        let list : List ℕ = listed_from (numbered (codes "*b") (codes " = 0")) 1 more ++ codes ";\n" in
        let body : List ℕ = stmts_text ss ++ codes "}\n" in
        record {
          part = 16;
          front = codes "int64_t *b0 = 0";
          back = list ++ body;
          begins = record { within = omega arith; text = refl; may = refl };
          goes_on = bind_at (suc more) list body (record { more = more; count = omega arith; below = l; text = refl }) (map_at (made i (suc more)) ss (record { fits = g.1; text = refl }));
          whole = t ∙ ap (λ y. y ++ body) (bufs_line more) ∙ append_assoc (codes "int64_t *b0 = 0") list body;
        }

    from : (f : CFunction) (w : List ℕ) → Declared m c i f w → OpenedAny m c i f w
    from f w x =
        let same_f : made i f.bufs f.body ≡ f = ap (λ i. made i f.bufs f.body) (sym x.ints) in
        subst (λ f. OpenedAny m c i f w) same_f (opened f.bufs f.body w (subst (λ i. IsTrue (is_function (scope_in m.free c i f.bufs) m.limit (made i f.bufs f.body))) x.ints x.fits) x.text)

some_bufs : (m : Mode) (c : Counts) (i : ℕ) → Some_of (WithBufs m c i)
some_bufs m c i = some_bind (some_listing (codes "*b") (codes " = 0") 1 (omega arith)) (λ b. some_map (made i b) (some_block_then (scope_in m.free c i b) m.limit (codes "\n")))

some_opened : (m : Mode) (c : Counts) (i k : ℕ) (x : Bool) (w : List ℕ) → 0 < c.functions → OneOf openings (opening_may (scope_in m.free c i 0) m.limit true x) k w → Some_of (Opened m c i k)
some_opened m c i k x w l o = by (nat_lt k 16) refl
  where
    by : (b : Bool) → nat_lt k 16 ≡ b → Some_of (OpenedBy m c i k b)
    by true h =
        let sc = scope_in m.free c i 0 in
        some_bind ((joint_keyword sc m.limit (functions_in m.free c i 0 l)).some k w (keyword_of sc m.limit true x k w (lt_of k 16 h) o)) (λ ss. some_map (λ u. made i 0 ss) (tt, (codes "\n", refl)))
    by false h = some_bufs m c i

pub joint_opening : (m : Mode) (c : Counts) (i : ℕ) → 0 < c.functions → Joint Any (OneOf openings (opening_may (scope_in m.free c i 0) m.limit true false)) Any (Opened m c i)
joint_opening m c i l = joint_any (λ k w o. some_opened m c i k false w l o)

pub joint_bufs : (m : Mode) (c : Counts) (i : ℕ) → Joint Any (Listing (codes "*b") (codes " = 0") 1) Any (λ b. Map (made i b) (BlockThen (scope_in m.free c i b) m.limit (codes "\n")))
joint_bufs m c i = joint_any (λ b w o. some_map (made i b) (some_block_then (scope_in m.free c i b) m.limit (codes "\n")))

pub joint_body : (m : Mode) (c : Counts) (i k : ℕ) → Joint Any (BlockBehind (scope_in m.free c i 0) m.limit k) Any (λ ss. Map (λ (u : Unit {0}). made i 0 ss) (Lit (codes "\n")))
joint_body m c i k = joint_any (λ ss w o. some_map (λ u. made i 0 ss) (tt, (codes "\n", refl)))

-- ---- Whole functions

pub some_declared : (m : Mode) (c : Counts) (i : ℕ) → 0 < c.functions → i < 2 ^ 32 → Some_of (Declared m c i)
some_declared m c i l li = (made i 0 [], (codes "}\n", record { ints = refl; fits = fits_of m c i 0 [] li (omega arith) refl; text = refl }))

pub some_function : (m : Mode) (c : Counts) → Some_of (Function m c)
some_function m c = (made 0 0 [], (codes "}\n", record { fits = fits_of m c 0 0 [] (omega arith) (omega arith) refl; text = refl }))

abbrev pub StartedAny : Mode → Counts → CFunction → List ℕ → Type 0
StartedAny m c = Bind (OneOf openings (opening_may (scope_in m.free c 0 0) m.limit true true)) (Started m c)

pub within_function : (m : Mode) (c : Counts) (s : List ℕ) → Within s (StartedAny m c) (Function m c)
within_function m c s = same (λ f w x. into f w x.part x.front x.back x.begins x.goes_on x.whole) (λ f w x. from f w x f.ints refl)
  where
    sc : Scope
    sc = scope_in m.free c 0 0

    by : (f : CFunction) (w : List ℕ) (k : ℕ) (x y : List ℕ) (b : Bool) → nat_lt k 17 ≡ b → OneOf openings (opening_may (scope_in m.free c 0 0) m.limit true true) k x → StartedBy m c k b f y → w ≡ x ++ y → Function m c f w
    by f w k x y true h o g e =
        let d = (within_declared m c 0 [] (omega arith)).into f w (record { part = k; front = x; back = y; begins = opening_fewer (scope_in m.free c 0 0) m.limit true true false k x (lt_of k 17 h) o; goes_on = g; whole = e }) in
        record { fits = d.fits; text = d.text ∙ ap (λ n. declaration (codes "int64_t ") local_int n ++ (declaration (codes "int64_t ") local_buf f.bufs ++ (stmts_text f.body ++ codes "}\n"))) (sym d.ints) }
    by f w k x y false h o g e =
        let at : k ≡ 17 = last k o.within h in
        let d = g.goes_on in let list = g.begins in let more = list.more in
        let many : suc more ≡ f.ints = let q = list.count in let r = d.ints in omega (arith, q, r) in
        let rest : List ℕ = declaration (codes "int64_t ") local_buf f.bufs ++ (stmts_text f.body ++ codes "}\n") in
        record {
          fits = d.fits;
          text = e ∙ ap₂ (λ x y. x ++ y) (o.text ∙ ap (λ k. get_or openings k []) at) (g.whole ∙ ap₂ (λ x y. x ++ y) list.text d.text)
              ∙ sym (append_assoc (codes "int64_t v0") (listed_from (numbered (codes "v") []) 1 more ++ codes ";\n") rest)
              ∙ ap (λ y. y ++ rest) (sym (ints_line more) ∙ ap (λ n. declaration (codes "int64_t ") local_int n) many);
        }
      where
        last : (k : ℕ) → k < 18 → nat_lt k 17 ≡ false → k ≡ 17
        last k l h = grind (arith, nat_tests)

    into : (f : CFunction) (w : List ℕ) (k : ℕ) (x y : List ℕ) → OneOf openings (opening_may (scope_in m.free c 0 0) m.limit true true) k x → Started m c k f y → w ≡ x ++ y → Function m c f w
    into f w k x y o g e = by f w k x y (nat_lt k 17) refl o g e

    from : (f : CFunction) (w : List ℕ) → Function m c f w → (n : ℕ) → f.ints ≡ n → StartedAny m c f w
    from f w x zero e =
        let rest : List ℕ = declaration (codes "int64_t ") local_buf f.bufs ++ (stmts_text f.body ++ codes "}\n") in
        let z = (within_declared m c 0 (w ++ []) (omega arith)).from f w [] (record { ints = e; fits = x.fits; text = x.text ∙ ap (λ n. declaration (codes "int64_t ") local_int n ++ rest) e }) refl in
        let l = opening_short (scope_in m.free c 0 0) m.limit true z.begins in
        record {
          part = z.part;
          front = z.front;
          back = z.back;
          begins = opening_fewer (scope_in m.free c 0 0) m.limit true false true z.part z.front l z.begins;
          goes_on = subst (λ b. StartedBy m c z.part b f z.back) (sym (of_lt z.part 17 l)) z.goes_on;
          whole = z.whole;
        }
    from f w x (suc more) e =
        let rest : List ℕ = declaration (codes "int64_t ") local_buf f.bufs ++ (stmts_text f.body ++ codes "}\n") in
        let list : List ℕ = listed_from (numbered (codes "v") []) 1 more ++ codes ";\n" in
        let g = both (is_count f.ints && is_count f.bufs) (are_stmts (scope_for m c f) f.body m.limit) x.fits in
        let l = lt_of f.ints (2 ^ 32) (both (is_count f.ints) (is_count f.bufs) g.0).0 in
        record {
          part = 17;
          front = codes "int64_t v0";
          back = list ++ rest;
          begins = record { within = omega arith; text = refl; may = refl };
          goes_on = bind_at (suc more) list rest (record { more = more; count = omega arith; below = omega (arith, l, e); text = refl }) (record { ints = e; fits = x.fits; text = refl });
          whole = x.text ∙ ap (λ n. declaration (codes "int64_t ") local_int n ++ rest) e ∙ ap (λ y. y ++ rest) (ints_line more) ∙ append_assoc (codes "int64_t v0") list rest;
        }

pub joint_started : (m : Mode) (c : Counts) → 0 < c.functions → Joint Any (OneOf openings (opening_may (scope_in m.free c 0 0) m.limit true true)) Any (Started m c)
joint_started m c l = joint_any (λ k w o. by k w o (nat_lt k 17) refl)
  where
    by : (k : ℕ) (w : List ℕ) → OneOf openings (opening_may (scope_in m.free c 0 0) m.limit true true) k w → (b : Bool) → nat_lt k 17 ≡ b → Some_of (StartedBy m c k b)
    by k w o true h = some_opened m c 0 k true w l o
    by k w o false h =
        let d = some_declared m c 1 l (omega arith) in
        (d.0, (codes ";\n" ++ d.1.0, bind_at 1 (codes ";\n") d.1.0 (listing_none (codes "v") [] 1 (omega arith)) d.1.1))

pub joint_ints : (m : Mode) (c : Counts) → 0 < c.functions → Joint Any (Listing (codes "v") [] 1) Any (Declared m c)
joint_ints m c l = joint_any (λ i w o. some_declared m c i l o.below)

-- ---- For the readers

pub opened_halts : (m : Mode) (c : Counts) (i k : ℕ) {s : List ℕ} {h : Halt} → k < 16 → Halts Any (OpenedBy m c i k true) s h → Halts Any (Opened m c i k) s h
opened_halts m c i k {s} {h} l f = subst (λ b. Halts Any (OpenedBy m c i k b) s h) (sym (of_lt k 16 l)) f

pub opened_found : (m : Mode) (c : Counts) (i k : ℕ) {s rest : List ℕ} {f : CFunction} → k < 16 → Found Any (OpenedBy m c i k true) s f rest → Found Any (Opened m c i k) s f rest
opened_found m c i k {s} {rest} {f} l g = subst (λ b. Found Any (OpenedBy m c i k b) s f rest) (sym (of_lt k 16 l)) g

pub started_reads : (m : Mode) (c : Counts) (k : ℕ) (s : List ℕ) (x : Result (CFunction × Bor (List ℕ)) Halt) → k < 18 → (k ≡ 17 → ⊥) → Reads Any (Opened m c 0 k) s x → Reads Any (Started m c k) s x
started_reads m c k s x l n r = subst (λ b. Reads Any (StartedBy m c k b) s x) (sym (of_lt k 17 (omega (arith, l, n)))) r

pub started_ints : {allowed : List Bool} {s rest : List ℕ} {k : ℕ} → k ≡ 17 → Found Any (OneOf openings allowed) s k rest → Found Any (OneOf openings allowed) s 17 rest
started_ints {allowed} {s} {rest} {k} e f = subst (λ k. Found Any (OneOf openings allowed) s k rest) e f

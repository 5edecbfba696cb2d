-- Global variables and tables, taken apart and put together.
use Rattle.std.proofs.Common.{◌≡◌, ◌∙◌, ap, ap₂, sym, refl, subst, ℕ, zero, suc, ◌+◌, ◌-◌, ◌<◌, ◌≤◌, ◌^◌, List, [], ◌∷◌, ◌++◌, append_assoc, codes, decimal, ℤ, Bool, true, false, nat_lt, arith, length, get_or}
use Rattle.std.proofs.lemmas.Bool.Decides.{nat_tests}
use Rattle.std.proofs.lemmas.Fmt.{decimal_digit}
use Rattle.std.proofs.lemmas.List.{append-nil}
use Rattle.std.specs.Borrow.{Bor}
use Rattle.std.specs.Prelude.{Result}
use Rattle.aplc_cprof.specs.declared.syntax.CFunction.{CFunction}
use Rattle.aplc_cprof.specs.Preamble.{tail}
use Rattle.aplc_cprof.specs.Text.{listed_from, declaration, global_int, global_buf, prototypes_text, functions_text, numbers_text, table_text, tables_text}
use Rattle.aplc_cprof.specs.WellFormed.{is_table, are_tables}
use Rattle.aplc_cread.specs.declared.lexical.Halt.{Halt}
use Rattle.aplc_cread.specs.declared.answer.Mode.{Mode}
use Rattle.aplc_cread.specs.declared.below.Code.{Code}
use Rattle.aplc_cread.specs.Reading.{Found, Any, Bind, Lit, OneOf, Halts, Reads, Map, After}
use Rattle.aplc_cread.specs.Listings.{numbered, Listing}
use Rattle.aplc_cread.specs.Tables.{Table}
use Rattle.aplc_cread.specs.Programs.{Prototyped, coded, CodeFits, buffers_text, code_text, Buffers, headings, heading_may, BuffersBehind, GlobalsBehind, with_table, Tabled, TabledBy, TabledBehind}
use Rattle.aplc_cread.proofs.Rules.{Within, Some_of, same, Joint, joint_any, joint_lit, some_bind, some_map, some_after, bind_at, lit_at, map_at}
use Rattle.aplc_cread.proofs.Listings.{some_listing}
use Rattle.aplc_cread.proofs.Tables.{some_table}
use Rattle.aplc_cread.proofs.Functions.{line_text}
use Rattle.aplc_cread.proofs.Programs.{some_prototyped}
use Rattle.aplc_cread.proofs.Exprs.{both, and_both, lt_of, of_lt}

-- ---- Lines

abbrev h0 : List ℕ
h0 = codes "static int64_t *h0"

abbrev g0 : List ℕ
g0 = codes "static int64_t g0"

abbrev f0 : List ℕ
f0 = codes "static void f0(void);\n"

bufs_line : (more : ℕ) → declaration (codes "static int64_t ") global_buf (suc more) ≡ h0 ++ (listed_from (numbered (codes "*h") []) 1 more ++ codes ";\n")
bufs_line more = line_text h0 (codes "static int64_t ") (codes "*h") [] global_buf
    (ap (λ d. codes "static int64_t " ++ (codes "*h" ++ d)) (decimal_digit 0 (omega arith))) (λ k. ap (λ x. codes "*h" ++ x) (append-nil (decimal k))) more

ints_line : (more : ℕ) → declaration (codes "static int64_t ") global_int (suc more) ≡ g0 ++ (listed_from (numbered (codes "g") []) 1 more ++ codes ";\n")
ints_line more = line_text g0 (codes "static int64_t ") (codes "g") [] global_int
    (ap (λ d. codes "static int64_t " ++ (codes "g" ++ d)) (decimal_digit 0 (omega arith))) (λ k. ap (λ x. codes "g" ++ x) (append-nil (decimal k))) more

abbrev after : List CFunction → List ℕ
after fs = functions_text 0 fs ++ tail

first_prototype : (n : ℕ) (t : List ℕ) → 0 < n → prototypes_text 0 n ++ t ≡ f0 ++ (prototypes_text 1 (n - 1) ++ t)
first_prototype zero t l = absurd (omega (arith, l))
first_prototype (suc n) t l =
    let e : n ≡ suc n - 1 = omega arith in
    ap (λ d. (codes "static void f" ++ d ++ codes "(void);\n" ++ prototypes_text 1 n) ++ t) (decimal_digit 0 (omega arith)) ∙ append_assoc f0 (prototypes_text 1 n) t ∙ ap (λ n. f0 ++ (prototypes_text 1 n ++ t)) e

-- ---- Buffers

abbrev pub BuffersAny : Mode → ℕ → ℕ → Code → List ℕ → Type 0
BuffersAny m t i = Bind (OneOf headings (heading_may false false true)) (BuffersBehind m t i)

heading_short : (a : Bool) {k : ℕ} {w : List ℕ} → OneOf headings (true ∷ a ∷ false ∷ false ∷ []) k w → k < 2
heading_short a {k} o = go k o.within o.may
  where
    go : (k : ℕ) → k < 4 → get_or (true ∷ a ∷ false ∷ false ∷ []) k false ≡ true → k < 2
    go zero l h = omega arith
    go (suc zero) l h = omega arith
    go (suc (suc zero)) l h = absurd (cc h)
    go (suc (suc (suc zero))) l h = absurd (cc h)
    go (suc (suc (suc (suc k)))) l h = absurd (omega (arith, l))

fits_of : (m : Mode) (t i b : ℕ) (fs : List CFunction) (w : List ℕ) → i < 2 ^ 32 → b < 2 ^ 32 → Prototyped m t i b 1 fs w → CodeFits m t (coded i b fs)
fits_of m t i b fs w li lb x = record { ints = li; bufs = lb; some = x.some; below = x.below; fit = x.fit }

protos_of : (m : Mode) (t i b : ℕ) (fs : List CFunction) → CodeFits m t (coded i b fs) → Prototyped m t i b 1 fs (prototypes_text 1 (length fs - 1) ++ after fs)
protos_of m t i b fs x = record { some = x.some; below = x.below; fit = x.fit; text = refl }

pub within_buffers : (m : Mode) (t i : ℕ) (s : List ℕ) → i < 2 ^ 32 → Within s (BuffersAny m t i) (Buffers m t i)
within_buffers m t i s li = same (λ x w y. into x w y.part y.front y.back y.begins y.goes_on y.whole) (λ x w y. from x w y)
  where
    made_buffers : (b : ℕ) (fs : List CFunction) (x : Code) (w y : List ℕ) → x ≡ coded i b fs → b < 2 ^ 32 → Prototyped m t i b 1 fs y → w ≡ declaration (codes "static int64_t ") global_buf b ++ (f0 ++ y) → Buffers m t i x w
    made_buffers b fs x w y e lb p q = subst (λ x. Buffers m t i x w) (sym e) (record {
      ints = refl;
      fits = fits_of m t i b fs y li lb p;
      text = q ∙ ap (λ y. declaration (codes "static int64_t ") global_buf b ++ y) (ap (λ y. f0 ++ y) p.text ∙ sym (first_prototype (length fs) (after fs) p.some));
    })

    into : (x : Code) (w : List ℕ) (k : ℕ) (a y : List ℕ) → OneOf headings (heading_may false false true) k a → BuffersBehind m t i k x y → w ≡ a ++ y → Buffers m t i x w
    into x w zero a y o g q = made_buffers 0 g.part x w y g.is (omega arith) g.of (q ∙ ap (λ a. a ++ y) o.text)
    into x w (suc zero) a y o g q =
        let b = g.part in let list = g.begins in let more = list.more in let r = g.goes_on in let n = r.goes_on in
        let many : b ≡ suc more = let c = list.count in omega (arith, c) in
        made_buffers b n.part x w r.back n.is list.below n.of
        (q ∙ ap₂ (λ x y. x ++ y) o.text (g.whole ∙ ap₂ (λ x y. x ++ y) list.text (r.whole ∙ ap (λ y. y ++ r.back) r.begins))
        ∙ sym (append_assoc h0 (listed_from (numbered (codes "*h") []) 1 more ++ codes ";\n") (f0 ++ r.back))
        ∙ ap (λ y. y ++ (f0 ++ r.back)) (sym (bufs_line more) ∙ ap (λ n. declaration (codes "static int64_t ") global_buf n) (sym many)))
    into x w (suc (suc k)) a y o g q = absurd (let l = heading_short true o in omega (arith, l))

    opened : (b : ℕ) (fs : List CFunction) (w : List ℕ) → CodeFits m t (coded i b fs) → w ≡ buffers_text (coded i b fs) → BuffersAny m t i (coded i b fs) w
    opened zero fs w x e = record {
      part = 0;
      front = f0;
      back = prototypes_text 1 (length fs - 1) ++ after fs;
      begins = record { within = omega arith; text = refl; may = refl };
      goes_on = map_at (coded i 0) fs (protos_of m t i 0 fs x);
      whole = e ∙ first_prototype (length fs) (after fs) x.some;
    }
    opened (suc more) fs w x e =
        let list : List ℕ = listed_from (numbered (codes "*h") []) 1 more ++ codes ";\n" in
        let rest : List ℕ = prototypes_text 1 (length fs - 1) ++ after fs in
        record {
          part = 1;
          front = h0;
          back = list ++ (f0 ++ rest);
          begins = record { within = omega arith; text = refl; may = refl };
          goes_on = bind_at (suc more) list (f0 ++ rest) (record { more = more; count = omega arith; below = x.bufs; text = refl }) (lit_at rest (map_at (coded i (suc more)) fs (protos_of m t i (suc more) fs x)));
          whole = e ∙ ap₂ (λ x y. x ++ y) (bufs_line more) (first_prototype (length fs) (after fs) x.some) ∙ append_assoc h0 list (f0 ++ rest);
        }

    from : (x : Code) (w : List ℕ) → Buffers m t i x w → BuffersAny m t i x w
    from x w y =
        let e : coded i x.bufs x.functions ≡ x = ap (λ i. coded i x.bufs x.functions) (sym y.ints) in
        subst (λ x. BuffersAny m t i x w) e (opened x.bufs x.functions w (subst (λ x. CodeFits m t x) (sym e) y.fits) y.text)

some_first : (m : Mode) (t i b : ℕ) → Some_of (Map (coded i b) (Prototyped m t i b 1))
some_first m t i b = some_map (coded i b) (some_prototyped m t i b 1 (omega arith))

pub some_listed : (m : Mode) (t i b : ℕ) → Some_of (After f0 (Map (coded i b) (Prototyped m t i b 1)))
some_listed m t i b = some_after f0 (some_first m t i b)

some_buffers_behind : (m : Mode) (t i k : ℕ) → Some_of (BuffersBehind m t i k)
some_buffers_behind m t i zero = some_first m t i 0
some_buffers_behind m t i (suc k) = some_bind (some_listing (codes "*h") [] 1 (omega arith)) (λ b. some_listed m t i b)

pub joint_buffers : (m : Mode) (t i : ℕ) → Joint Any (OneOf headings (heading_may false false true)) Any (BuffersBehind m t i)
joint_buffers m t i = joint_any (λ k w o. some_buffers_behind m t i k)

pub joint_bufs : (m : Mode) (t i : ℕ) → Joint Any (Listing (codes "*h") [] 1) Any (λ b. After (codes "static void f0(void);\n") (Map (coded i b) (Prototyped m t i b 1)))
joint_bufs m t i = joint_any (λ b w o. some_listed m t i b)

pub joint_first : (m : Mode) (t i b : ℕ) → Joint Any (Lit (codes "static void f0(void);\n")) Any (λ u. Map (coded i b) (Prototyped m t i b 1))
joint_first m t i b = joint_lit (some_first m t i b)

some_buffers : (m : Mode) (t i : ℕ) → i < 2 ^ 32 → Some_of (Buffers m t i)
some_buffers m t i l =
    let z = some_buffers_behind m t i 0 in
    (z.0, (f0 ++ z.1.0, (within_buffers m t i [] l).into z.0 (f0 ++ z.1.0) (record { part = 0; front = f0; back = z.1.0; begins = record { within = omega arith; text = refl; may = refl }; goes_on = z.1.1; whole = refl })))

pub joint_ints : (m : Mode) (t : ℕ) → Joint Any (Listing (codes "g") [] 1) Any (Buffers m t)
joint_ints m t = joint_any (λ i w o. some_buffers m t i o.below)

-- behind a heading, by what it is

pub behind_first : (m : Mode) (t i k : ℕ) {s rest : List ℕ} {fs : List CFunction} → k ≡ 0 → Found Any (Map (coded i 0) (Prototyped m t i 0 1)) s (coded i 0 fs) rest → Found Any (BuffersBehind m t i k) s (coded i 0 fs) rest
behind_first m t i k {s} {rest} {fs} e g = subst (λ k. Found Any (BuffersBehind m t i k) s (coded i 0 fs) rest) (sym e) g

pub behind_first_halts : (m : Mode) (t i k : ℕ) {s : List ℕ} {h : Halt} → k ≡ 0 → Halts Any (Map (coded i 0) (Prototyped m t i 0 1)) s h → Halts Any (BuffersBehind m t i k) s h
behind_first_halts m t i k {s} {h} e g = subst (λ k. Halts Any (BuffersBehind m t i k) s h) (sym e) g

abbrev pub ListedBufs : Mode → ℕ → ℕ → Code → List ℕ → Type 0
ListedBufs m t i = Bind (Listing (codes "*h") [] 1) (λ b. After (codes "static void f0(void);\n") (Map (coded i b) (Prototyped m t i b 1)))

pub behind_bufs : (m : Mode) (t i k : ℕ) {s rest : List ℕ} {x : Code} → (k ≡ 0 → ⊥) → Found Any (ListedBufs m t i) s x rest → Found Any (BuffersBehind m t i k) s x rest
behind_bufs m t i zero n g = absurd (n refl)
behind_bufs m t i (suc k) n g = g

pub behind_bufs_halts : (m : Mode) (t i k : ℕ) {s : List ℕ} {h : Halt} → (k ≡ 0 → ⊥) → Halts Any (ListedBufs m t i) s h → Halts Any (BuffersBehind m t i k) s h
behind_bufs_halts m t i zero n g = absurd (n refl)
behind_bufs_halts m t i (suc k) n g = g

pub globals_reads : (m : Mode) (t k : ℕ) (s : List ℕ) (x : Result (Code × Bor (List ℕ)) Halt) → k < 2 → Reads Any (BuffersBehind m t 0 k) s x → Reads Any (GlobalsBehind m t k) s x
globals_reads m t zero s x l r = r
globals_reads m t (suc zero) s x l r = r
globals_reads m t (suc (suc k)) s x l r = absurd (omega (arith, l))

pub globals_ints : (m : Mode) (t k : ℕ) (s : List ℕ) (x : Result (Code × Bor (List ℕ)) Halt) → 2 ≤ k → Reads Any (Bind (Listing (codes "g") [] 1) (Buffers m t)) s x → Reads Any (GlobalsBehind m t k) s x
globals_ints m t zero s x l r = absurd (omega (arith, l))
globals_ints m t (suc zero) s x l r = absurd (omega (arith, l))
globals_ints m t (suc (suc k)) s x l r = r

pub globals_halts : (m : Mode) (t k : ℕ) {s : List ℕ} {h : Halt} → 2 ≤ k → Halts Any (Bind (Listing (codes "g") [] 1) (Buffers m t)) s h → Halts Any (GlobalsBehind m t k) s h
globals_halts m t zero l r = absurd (omega (arith, l))
globals_halts m t (suc zero) l r = absurd (omega (arith, l))
globals_halts m t (suc (suc k)) l r = r

-- ---- Tables

abbrev pub Rest : Type 0
Rest = List (List ℤ) × Code

abbrev pub more_tables : ℕ → List Bool
more_tables k = heading_may (nat_lt k (2 ^ 32 - 1)) true true

abbrev pub TabledAny : Mode → ℕ → Rest → List ℕ → Type 0
TabledAny m k = Bind (OneOf headings (more_tables k)) (TabledBehind m k)

abbrev k_ : List ℕ
k_ = codes "static const int64_t k"

table_pieces : (k : ℕ) (xs : List ℤ) (t : List ℕ) → table_text k xs ++ t ≡ k_ ++ ((decimal k ++ (codes "[" ++ (decimal (length xs) ++ (codes "] = {" ++ (numbers_text xs ++ codes "};\n"))))) ++ t)
table_pieces k xs t = regroup (decimal k) (codes "[") (decimal (length xs)) (codes "] = {") (numbers_text xs) (codes "};\n")
  where
    regroup : (n a l b x c : List ℕ) → (k_ ++ n ++ a ++ l ++ b ++ x ++ c) ++ t ≡ k_ ++ ((n ++ (a ++ (l ++ (b ++ (x ++ c))))) ++ t)
    regroup n a l b x c = simp append_assoc

pub within_tabled : (m : Mode) (k : ℕ) (s : List ℕ) → k < 2 ^ 32 → Within s (TabledAny m k) (Tabled m k)
within_tabled m k s hk = same (λ x w y. by x w y.part y.front y.back (nat_lt y.part 3) refl y.begins y.goes_on y.whole) (λ x w y. from x.0 x.1 w y)
  where
    no_tables : (x : Code) (w : List ℕ) → CodeFits m k x → w ≡ code_text x → Tabled m k ([], x) w
    no_tables x w f e = let z : k ≡ k + 0 = omega arith in record { few = omega (arith, hk); tables = refl; fits = subst (λ t. CodeFits m t x) z f; text = e }

    globals : (x : Code) (w : List ℕ) (i : ℕ) (a y : List ℕ) → i < 3 → OneOf headings (more_tables k) i a → GlobalsBehind m k i x y → w ≡ a ++ y → Tabled m k ([], x) w
    globals x w zero a y l o g q =
        let z = (within_buffers m k 0 [] (omega arith)).into x w (record { part = 0; front = a; back = y; begins = record { within = omega arith; text = o.text; may = refl }; goes_on = g; whole = q }) in
        no_tables x w z.fits (z.text ∙ ap (λ i. declaration (codes "static int64_t ") global_int i ++ buffers_text x) (sym z.ints))
    globals x w (suc zero) a y l o g q =
        let z = (within_buffers m k 0 [] (omega arith)).into x w (record { part = 1; front = a; back = y; begins = record { within = omega arith; text = o.text; may = refl }; goes_on = g; whole = q }) in
        no_tables x w z.fits (z.text ∙ ap (λ i. declaration (codes "static int64_t ") global_int i ++ buffers_text x) (sym z.ints))
    globals x w (suc (suc zero)) a y l o g q =
        let list = g.begins in let more = list.more in let z = g.goes_on in
        let many : suc more ≡ x.ints = let c = list.count in let e = z.ints in omega (arith, c, e) in
        no_tables x w z.fits (q ∙ ap₂ (λ x y. x ++ y) o.text (g.whole ∙ ap₂ (λ x y. x ++ y) list.text z.text)
        ∙ sym (append_assoc g0 (listed_from (numbered (codes "g") []) 1 more ++ codes ";\n") (buffers_text x))
        ∙ ap (λ y. y ++ buffers_text x) (sym (ints_line more) ∙ ap (λ n. declaration (codes "static int64_t ") global_int n) many))
    globals x w (suc (suc (suc i))) a y l o g q = absurd (omega (arith, l))

    by : (x : Rest) (w : List ℕ) (i : ℕ) (a y : List ℕ) (b : Bool) → nat_lt i 3 ≡ b → OneOf headings (more_tables k) i a → TabledBy m k i b x y → w ≡ a ++ y → Tabled m k x w
    by x w i a y true h o g q = subst (λ x. Tabled m k x w) (sym g.is) (globals g.part w i a y (lt_of i 3 h) o g.of q)
    by x w i a y false h o g q =
        let at : i ≡ 3 = last i o.within h in
        let t = g.part in let n = g.goes_on in let r = n.part in
        let f = n.of.few in
        let len : k + 1 + length r.0 ≡ k + length (t ∷ r.0) = omega arith in
        subst (λ x. Tabled m k x w) (sym n.is) (record {
          few = omega (arith, f, len);
          tables = and_both (is_table t) (are_tables r.0) g.begins.fits n.of.tables;
          fits = subst (λ j. CodeFits m j r.1) len n.of.fits;
          text = q ∙ ap₂ (λ x y. x ++ y) (o.text ∙ ap (λ i. get_or headings i []) at) (g.whole ∙ ap₂ (λ x y. x ++ y) g.begins.text n.of.text)
              ∙ sym (table_pieces k t (tables_text (k + 1) r.0 ++ code_text r.1)) ∙ sym (append_assoc (table_text k t) (tables_text (k + 1) r.0) (code_text r.1));
        })
      where
        last : (i : ℕ) → i < 4 → nat_lt i 3 ≡ false → i ≡ 3
        last i l h = grind (arith, nat_tests)

    behind : (x : Code) (i : ℕ) (y : List ℕ) → i < 2 → BuffersBehind m k 0 i x y → TabledBehind m k i ([], x) y
    behind x zero y l g = map_at (λ x. ([], x)) x g
    behind x (suc zero) y l g = map_at (λ x. ([], x)) x g
    behind x (suc (suc i)) y l g = absurd (omega (arith, l))

    may : (i : ℕ) → i < 2 → get_or (more_tables k) i false ≡ true
    may zero l = refl
    may (suc zero) l = refl
    may (suc (suc i)) l = absurd (omega (arith, l))

    declared : (n : ℕ) (x : Code) (w : List ℕ) → x.ints ≡ n → CodeFits m k x → w ≡ code_text x → TabledAny m k ([], x) w
    declared zero x w e f q =
        let z = (within_buffers m k 0 (w ++ []) (omega arith)).from x w [] (record { ints = e; fits = f; text = q ∙ ap (λ i. declaration (codes "static int64_t ") global_int i ++ buffers_text x) e }) refl in
        let l = heading_short true z.begins in
        record { part = z.part; front = z.front; back = z.back; begins = record { within = z.begins.within; text = z.begins.text; may = may z.part l }; goes_on = behind x z.part z.back l z.goes_on; whole = z.whole }
    declared (suc more) x w e f q =
        let list : List ℕ = listed_from (numbered (codes "g") []) 1 more ++ codes ";\n" in
        let l = f.ints in
        record {
          part = 2;
          front = g0;
          back = list ++ buffers_text x;
          begins = record { within = omega arith; text = refl; may = refl };
          goes_on = map_at (λ x. ([], x)) x (bind_at (suc more) list (buffers_text x) (record { more = more; count = omega arith; below = omega (arith, l, e); text = refl }) (record { ints = e; fits = f; text = refl }));
          whole = q ∙ ap (λ i. declaration (codes "static int64_t ") global_int i ++ buffers_text x) e ∙ ap (λ y. y ++ buffers_text x) (ints_line more) ∙ append_assoc g0 list (buffers_text x);
        }

    from : (ts : List (List ℤ)) (x : Code) (w : List ℕ) → Tabled m k (ts, x) w → TabledAny m k (ts, x) w
    from [] x w y = let z : k + 0 ≡ k = omega arith in declared x.ints x w refl (subst (λ t. CodeFits m t x) z y.fits) y.text
    from (t ∷ ts) x w y =
        let f = y.few in
        let g = both (is_table t) (are_tables ts) y.tables in
        let len : k + length (t ∷ ts) ≡ k + 1 + length ts = omega arith in
        let table : List ℕ = decimal k ++ (codes "[" ++ (decimal (length t) ++ (codes "] = {" ++ (numbers_text t ++ codes "};\n")))) in
        let rest : List ℕ = tables_text (k + 1) ts ++ code_text x in
        record {
          part = 3;
          front = k_;
          back = table ++ rest;
          begins = record { within = omega arith; text = refl; may = of_lt k (2 ^ 32 - 1) (omega (arith, f, len)) };
          goes_on = bind_at t table rest (record { fits = g.0; text = refl }) (map_at (with_table t) (ts, x) (record { few = omega (arith, f, len); tables = g.1; fits = subst (λ j. CodeFits m j x) len y.fits; text = refl }));
          whole = y.text ∙ append_assoc (table_text k t) (tables_text (k + 1) ts) (code_text x) ∙ table_pieces k t rest;
        }

some_globals : (m : Mode) (t k : ℕ) → Some_of (GlobalsBehind m t k)
some_globals m t zero = some_buffers_behind m t 0 0
some_globals m t (suc zero) = some_buffers_behind m t 0 1
some_globals m t (suc (suc k)) = let z = some_buffers m t 1 (omega arith) in (z.0, (codes ";\n" ++ z.1.0, bind_at 1 (codes ";\n") z.1.0 (record { more = 0; count = refl; below = omega arith; text = refl }) z.1.1))

pub some_tabled : (m : Mode) (k : ℕ) → k < 2 ^ 32 → Some_of (Tabled m k)
some_tabled m k l =
    let z = some_globals m k 0 in
    (([], z.0), (f0 ++ z.1.0, (within_tabled m k [] l).into ([], z.0) (f0 ++ z.1.0) (record { part = 0; front = f0; back = z.1.0; begins = record { within = omega arith; text = refl; may = refl }; goes_on = map_at (λ x. ([], x)) z.0 z.1.1; whole = refl })))

some_further : (m : Mode) (k : ℕ) (t : List ℤ) → k + 1 < 2 ^ 32 → Some_of (Map (with_table t) (Tabled m (k + 1)))
some_further m k t l = some_map (with_table t) (some_tabled m (k + 1) l)

pub further : (k i : ℕ) {w : List ℕ} → OneOf headings (more_tables k) i w → 3 ≤ i → k + 1 < 2 ^ 32
further k i o h = go i o.within h o.may
  where
    go : (i : ℕ) → i < 4 → 3 ≤ i → get_or (more_tables k) i false ≡ true → k + 1 < 2 ^ 32
    go zero l h m = absurd (omega (arith, h))
    go (suc zero) l h m = absurd (omega (arith, h))
    go (suc (suc zero)) l h m = absurd (omega (arith, h))
    go (suc (suc (suc zero))) l h m = let r = lt_of k (2 ^ 32 - 1) m in omega (arith, r)
    go (suc (suc (suc (suc i)))) l h m = absurd (omega (arith, l))

pub joint_heading : (m : Mode) (k : ℕ) → Joint Any (OneOf headings (more_tables k)) Any (TabledBehind m k)
joint_heading m k = joint_any (λ i w o. by i w o (nat_lt i 3) refl)
  where
    above : (i : ℕ) → nat_lt i 3 ≡ false → 3 ≤ i
    above i h = grind (arith, nat_tests)

    by : (i : ℕ) (w : List ℕ) → OneOf headings (more_tables k) i w → (b : Bool) → nat_lt i 3 ≡ b → Some_of (TabledBy m k i b)
    by i w o true h = some_map (λ x. ([], x)) (some_globals m k i)
    by i w o false h = some_bind (some_table k) (λ t. some_further m k t (further k i o (above i h)))

pub joint_table : (m : Mode) (k : ℕ) → k + 1 < 2 ^ 32 → Joint Any (Table k) Any (λ t. Map (with_table t) (Tabled m (k + 1)))
joint_table m k l = joint_any (λ t w o. some_further m k t l)

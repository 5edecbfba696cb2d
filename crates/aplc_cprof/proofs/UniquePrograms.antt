-- A text is that of one program at most.
use Rattle.std.proofs.Common.{◌≡◌, ◌∙◌, ap, ap₂, sym, refl, ℕ, zero, suc, ◌+◌, ◌<◌, ◌^◌, List, [], ◌∷◌, ◌++◌, append_assoc, codes, decimal, map, length, ℤ, false, ◌&&◌, IsTrue, cond, nat_eq, nat_lt, arith}
use Rattle.std.proofs.lemmas.Bool.Decides.{nat_tests}
use Rattle.std.proofs.lemmas.List.{append_cancel_left}
use Rattle.std.specs.Fmt.{signed_decimal}
use Rattle.aplc_cprof.specs.declared.syntax.CFunction.{CFunction}
use Rattle.aplc_cprof.specs.declared.syntax.CProgram.{CProgram}
use Rattle.aplc_cprof.specs.Preamble.{preamble, tail}
use Rattle.aplc_cprof.specs.Text.{listed_from, listed, declaration, local_int, local_buf, global_int, global_buf, more_numbers, numbers_text, table_text, tables_text, prototypes_text, stmts_text, function_text, functions_text, program_text}
use Rattle.aplc_cprof.proofs.Plain.{is_word, all_true, is_plain_stmt, are_plain_functions, is_plain_table, IsPlain}
use Rattle.aplc_cprof.proofs.UniqueNumbers.{NoDigit, words, both, lt_of, clash, decimal_only}
use Rattle.aplc_cprof.proofs.UniqueStmts.{kind_at, block_only, block_kind}

-- ---- Declarations

listed_only : (item : ℕ → List ℕ) (i a b : ℕ) (k m : List ℕ) → listed_from item i a ++ (59 ∷ k) ≡ listed_from item i b ++ (59 ∷ m) → (a ≡ b) × (k ≡ m)
listed_only item i zero zero k m e = (refl, append_cancel_left (59 ∷ []) k m e)
listed_only item i zero (suc b) k m e = absurd (clash 59 44 k _ refl e)
listed_only item i (suc a) zero k m e = absurd (clash 44 59 _ m refl e)
listed_only item i (suc a) (suc b) k m e =
    let r = listed_only item (i + 1) a b k m (append_cancel_left (codes ", " ++ item i) (listed_from item (i + 1) a ++ (59 ∷ k)) (listed_from item (i + 1) b ++ (59 ∷ m))
    (sym (append_assoc (codes ", " ++ item i) (listed_from item (i + 1) a) (59 ∷ k)) ∙ e ∙ append_assoc (codes ", " ++ item i) (listed_from item (i + 1) b) (59 ∷ m))) in
    (ap suc r.0, r.1)

-- the line that declares n variables, and what follows it
abbrev declared : List ℕ → (ℕ → List ℕ) → ℕ → List ℕ → List ℕ
declared head item zero k = k
declared head item (suc n) k = (head ++ item 0) ++ (listed_from item 1 n ++ (59 ∷ 10 ∷ k))

declared_is : (head : List ℕ) (item : ℕ → List ℕ) (n : ℕ) (k : List ℕ) → declaration head item n ++ k ≡ declared head item n k
declared_is head item zero k = refl
declared_is head item (suc n) k =
    let f : nat_eq (suc n) 0 ≡ false = grind (arith, nat_tests) in
    ap (λ b. cond b [] (head ++ listed item (suc n) ++ codes ";\n") ++ k) f ∙ regroup (item 0) (listed_from item 1 n)
  where
    regroup : (a l : List ℕ) → (head ++ (a ++ l) ++ codes ";\n") ++ k ≡ (head ++ a) ++ (l ++ (59 ∷ 10 ∷ k))
    regroup a l = simp append_assoc

-- k does not begin with t
abbrev Apart : List ℕ → List ℕ → Type 0
Apart t k = (s : List ℕ) → k ≡ t ++ s → ⊥

declared_only : (head : List ℕ) (item : ℕ → List ℕ) (a b : ℕ) (k m : List ℕ) → Apart (head ++ item 0) k → Apart (head ++ item 0) m → declared head item a k ≡ declared head item b m → (a ≡ b) × (k ≡ m)
declared_only head item zero zero k m hk hm e = (refl, e)
declared_only head item zero (suc b) k m hk hm e = absurd (hk _ e)
declared_only head item (suc a) zero k m hk hm e = absurd (hm _ (sym e))
declared_only head item (suc a) (suc b) k m hk hm e =
    let r = listed_only item 1 a b (10 ∷ k) (10 ∷ m) (append_cancel_left (head ++ item 0) (listed_from item 1 a ++ (59 ∷ 10 ∷ k)) (listed_from item 1 b ++ (59 ∷ 10 ∷ m)) e) in
    (ap suc r.0, append_cancel_left (10 ∷ []) k m r.1)

-- ---- Functions

-- the statements of a function, and what follows it
abbrev body : CFunction → List ℕ → List ℕ
body f k = stmts_text f.body ++ (codes "}\n" ++ k)

abbrev locals : CFunction → List ℕ → List ℕ
locals f k = declared (codes "int64_t ") local_int f.ints (declared (codes "int64_t ") local_buf f.bufs (body f k))

function_is : (i : ℕ) (f : CFunction) (k : List ℕ) → function_text i f ++ k ≡ codes "static void f" ++ (decimal i ++ (codes "(void) {\n" ++ locals f k))
function_is i f k =
    regroup (codes "static void f") (decimal i) (codes "(void) {\n") (declaration (codes "int64_t ") local_int f.ints) (declaration (codes "int64_t ") local_buf f.bufs) (stmts_text f.body) (codes "}\n")
    ∙ ap (λ t. codes "static void f" ++ (decimal i ++ (codes "(void) {\n" ++ t))) (
    ap (λ t. declaration (codes "int64_t ") local_int f.ints ++ t) (declared_is (codes "int64_t ") local_buf f.bufs (body f k))
    ∙ declared_is (codes "int64_t ") local_int f.ints (declared (codes "int64_t ") local_buf f.bufs (body f k)))
  where
    regroup : (a n b d e s c : List ℕ) → (a ++ n ++ b ++ d ++ e ++ s ++ c) ++ k ≡ a ++ (n ++ (b ++ (d ++ (e ++ (s ++ (c ++ k))))))
    regroup a n b d e s c = simp append_assoc

-- what follows a line of declarations begins with none
body_apart : (item : List ℕ) (f : CFunction) → IsTrue (all_true (map is_plain_stmt f.body)) → (k : List ℕ) → Apart (codes "int64_t " ++ item) (body f k)
body_apart item f h k s e = block_kind f.body h (codes "}\n" ++ k) refl (ap kind_at e)

bufs_apart : (n : ℕ) (k : List ℕ) → Apart (codes "int64_t " ++ local_int 0) k → Apart (codes "int64_t " ++ local_int 0) (declared (codes "int64_t ") local_buf n k)
bufs_apart zero k h s e = h s e
bufs_apart (suc n) k h s e = clash 42 118 _ _ refl (append_cancel_left (codes "int64_t ") _ _ e)

function_same : (f g : CFunction) → f.ints ≡ g.ints → f.bufs ≡ g.bufs → f.body ≡ g.body → f ≡ g
function_same f g a b c = λ j. record { ints = a j; bufs = b j; body = c j }

function_only : (i : ℕ) (f g : CFunction) (k m : List ℕ) → IsTrue (all_true (map is_plain_stmt f.body)) → IsTrue (all_true (map is_plain_stmt g.body))
    → function_text i f ++ k ≡ function_text i g ++ m → (f ≡ g) × (k ≡ m)
function_only i f g k m hf hg e =
    let q = append_cancel_left (codes "static void f") (decimal i ++ (codes "(void) {\n" ++ locals f k)) (decimal i ++ (codes "(void) {\n" ++ locals g m)) (sym (function_is i f k) ∙ e ∙ function_is i g m) in
    let r = append_cancel_left (codes "(void) {\n") (locals f k) (locals g m) (append_cancel_left (decimal i) (codes "(void) {\n" ++ locals f k) (codes "(void) {\n" ++ locals g m) q) in
    let s = declared_only (codes "int64_t ") local_int f.ints g.ints (declared (codes "int64_t ") local_buf f.bufs (body f k)) (declared (codes "int64_t ") local_buf g.bufs (body g m))
    (bufs_apart f.bufs (body f k) (body_apart (local_int 0) f hf k)) (bufs_apart g.bufs (body g m) (body_apart (local_int 0) g hg m)) r in
    let t = declared_only (codes "int64_t ") local_buf f.bufs g.bufs (body f k) (body g m) (body_apart (local_buf 0) f hf k) (body_apart (local_buf 0) g hg m) s.1 in
    let u = block_only f.body g.body hf hg (codes "}\n" ++ k) (codes "}\n" ++ m) refl refl t.1 in
    (function_same f g s.0 t.0 u.0, append_cancel_left (codes "}\n") k m u.1)

functions_only : (i : ℕ) (fs gs : List CFunction) (k : List ℕ) → IsTrue (are_plain_functions fs) → IsTrue (are_plain_functions gs) → length fs ≡ length gs
    → functions_text i fs ++ k ≡ functions_text i gs ++ k → fs ≡ gs
functions_only i [] [] k hf hg l e = refl
functions_only i [] (g ∷ gs) k hf hg l e = absurd (omega (arith, l))
functions_only i (f ∷ fs) [] k hf hg l e = absurd (omega (arith, l))
functions_only i (f ∷ fs) (g ∷ gs) k hf hg l e =
    let p = both (all_true (map is_plain_stmt f.body)) (are_plain_functions fs) hf in
    let q = both (all_true (map is_plain_stmt g.body)) (are_plain_functions gs) hg in
    let r = function_only i f g (functions_text (i + 1) fs ++ k) (functions_text (i + 1) gs ++ k) p.0 q.0
    (sym (append_assoc (function_text i f) (functions_text (i + 1) fs) k) ∙ e ∙ append_assoc (function_text i g) (functions_text (i + 1) gs) k) in
    let s = functions_only (i + 1) fs gs k p.1 q.1 (omega (arith, l)) r.1 in
    ap₂ (λ x y. x ∷ y) r.0 s

-- ---- Prototypes

-- what follows the prototypes begins with none
abbrev NoPrototype : List ℕ → Type 0
NoPrototype k = (i : ℕ) (s : List ℕ) → i < 2 ^ 64 → k ≡ codes "static void f" ++ (decimal i ++ (codes "(void);\n" ++ s)) → ⊥

prototype_is : (i : ℕ) (k s : List ℕ) → (codes "static void f" ++ decimal i ++ codes "(void);\n" ++ k) ++ s ≡ codes "static void f" ++ (decimal i ++ (codes "(void);\n" ++ (k ++ s)))
prototype_is i k s = regroup (codes "static void f") (decimal i) (codes "(void);\n")
  where
    regroup : (a n b : List ℕ) → (a ++ n ++ b ++ k) ++ s ≡ a ++ (n ++ (b ++ (k ++ s)))
    regroup a n b = simp append_assoc

prototypes_only : (i a b : ℕ) (k m : List ℕ) → i + a < 2 ^ 64 → i + b < 2 ^ 64 → NoPrototype k → NoPrototype m → prototypes_text i a ++ k ≡ prototypes_text i b ++ m → (a ≡ b) × (k ≡ m)
prototypes_only i zero zero k m la lb nk nm e = (refl, e)
prototypes_only i zero (suc b) k m la lb nk nm e = absurd (nk i (prototypes_text (i + 1) b ++ m) (omega (arith, lb)) (e ∙ prototype_is i (prototypes_text (i + 1) b) m))
prototypes_only i (suc a) zero k m la lb nk nm e = absurd (nm i (prototypes_text (i + 1) a ++ k) (omega (arith, la)) (sym e ∙ prototype_is i (prototypes_text (i + 1) a) k))
prototypes_only i (suc a) (suc b) k m la lb nk nm e =
    let q = sym (prototype_is i (prototypes_text (i + 1) a) k) ∙ e ∙ prototype_is i (prototypes_text (i + 1) b) m in
    let r = append_cancel_left (codes "static void f") (decimal i ++ (codes "(void);\n" ++ (prototypes_text (i + 1) a ++ k))) (decimal i ++ (codes "(void);\n" ++ (prototypes_text (i + 1) b ++ m))) q in
    let s = append_cancel_left (decimal i) (codes "(void);\n" ++ (prototypes_text (i + 1) a ++ k)) (codes "(void);\n" ++ (prototypes_text (i + 1) b ++ m)) r in
    let t = append_cancel_left (codes "(void);\n") (prototypes_text (i + 1) a ++ k) (prototypes_text (i + 1) b ++ m) s in
    let u = prototypes_only (i + 1) a b k m (omega (arith, la)) (omega (arith, lb)) nk nm t in
    (ap suc u.0, u.1)

tail_apart : (s : List ℕ) → tail ≡ 115 ∷ s → ⊥
unfolding tail
tail_apart s e = clash 105 115 _ _ refl e

functions_apart : (fs : List CFunction) → NoPrototype (functions_text 0 fs ++ tail)
functions_apart [] i s l e = tail_apart _ e
functions_apart (f ∷ fs) i s l e =
    let q = sym (append_assoc (function_text 0 f) (functions_text 1 fs) tail ∙ function_is 0 f (functions_text 1 fs ++ tail)) ∙ e in
    let r = append_cancel_left (codes "static void f") _ _ q in
    let t = decimal_only 0 i _ _ (omega arith) l refl refl r in
    clash 32 59 _ _ refl (append_cancel_left (codes "(void)") _ _ t.1)

-- ---- Tables

more_is : (x : ℤ) (xs : List ℤ) (k : List ℕ) → more_numbers (x ∷ xs) ++ k ≡ codes ", " ++ (signed_decimal x ++ (more_numbers xs ++ k))
more_is x xs k = regroup (codes ", ") (signed_decimal x) (more_numbers xs)
  where
    regroup : (a b c : List ℕ) → (a ++ b ++ c) ++ k ≡ a ++ (b ++ (c ++ k))
    regroup a b c = simp append_assoc

more_no_digit : (xs : List ℤ) (k : List ℕ) → NoDigit (more_numbers xs ++ (125 ∷ k))
more_no_digit [] k = refl
more_no_digit (x ∷ xs) k = refl

more_only : (xs ys : List ℤ) → IsTrue (all_true (map is_word xs)) → IsTrue (all_true (map is_word ys)) → (k m : List ℕ)
    → more_numbers xs ++ (125 ∷ k) ≡ more_numbers ys ++ (125 ∷ m) → (xs ≡ ys) × (k ≡ m)
more_only [] [] hx hy k m e = (refl, append_cancel_left (125 ∷ []) k m e)
more_only [] (y ∷ ys) hx hy k m e = absurd (clash 125 44 _ _ refl e)
more_only (x ∷ xs) [] hx hy k m e = absurd (clash 44 125 _ _ refl e)
more_only (x ∷ xs) (y ∷ ys) hx hy k m e =
    let f = both (is_word x) (all_true (map is_word xs)) hx in let g = both (is_word y) (all_true (map is_word ys)) hy in
    let q = append_cancel_left (codes ", ") (signed_decimal x ++ (more_numbers xs ++ (125 ∷ k))) (signed_decimal y ++ (more_numbers ys ++ (125 ∷ m)))
    (sym (more_is x xs (125 ∷ k)) ∙ e ∙ more_is y ys (125 ∷ m)) in
    let r = words.only x y f.0 g.0 (more_numbers xs ++ (125 ∷ k)) (more_numbers ys ++ (125 ∷ m)) (more_no_digit xs k) (more_no_digit ys m) q in
    let s = more_only xs ys f.1 g.1 k m r.1 in
    (ap₂ (λ a b. a ∷ b) r.0 s.0, s.1)

numbers_only : (xs ys : List ℤ) → IsTrue (all_true (map is_word xs)) → IsTrue (all_true (map is_word ys)) → length xs ≡ length ys → (k m : List ℕ)
    → numbers_text xs ++ (125 ∷ k) ≡ numbers_text ys ++ (125 ∷ m) → (xs ≡ ys) × (k ≡ m)
numbers_only [] [] hx hy l k m e = (refl, append_cancel_left (125 ∷ []) k m e)
numbers_only [] (y ∷ ys) hx hy l k m e = absurd (omega (arith, l))
numbers_only (x ∷ xs) [] hx hy l k m e = absurd (omega (arith, l))
numbers_only (x ∷ xs) (y ∷ ys) hx hy l k m e =
    let f = both (is_word x) (all_true (map is_word xs)) hx in let g = both (is_word y) (all_true (map is_word ys)) hy in
    let q = sym (append_assoc (signed_decimal x) (more_numbers xs) (125 ∷ k)) ∙ e ∙ append_assoc (signed_decimal y) (more_numbers ys) (125 ∷ m) in
    let r = words.only x y f.0 g.0 (more_numbers xs ++ (125 ∷ k)) (more_numbers ys ++ (125 ∷ m)) (more_no_digit xs k) (more_no_digit ys m) q in
    let s = more_only xs ys f.1 g.1 k m r.1 in
    (ap₂ (λ a b. a ∷ b) r.0 s.0, s.1)

-- what stands behind a table's number
abbrev table_rest : List ℤ → List ℕ → List ℕ
table_rest t k = decimal (length t) ++ (codes "] = {" ++ (numbers_text t ++ (codes "};\n" ++ k)))

table_is : (i : ℕ) (t : List ℤ) (k : List ℕ) → table_text i t ++ k ≡ codes "static const int64_t k" ++ (decimal i ++ (codes "[" ++ table_rest t k))
table_is i t k = regroup (codes "static const int64_t k") (decimal i) (codes "[") (decimal (length t)) (codes "] = {") (numbers_text t) (codes "};\n")
  where
    regroup : (a b c d e f g : List ℕ) → (a ++ b ++ c ++ d ++ e ++ f ++ g) ++ k ≡ a ++ (b ++ (c ++ (d ++ (e ++ (f ++ (g ++ k))))))
    regroup a b c d e f g = simp append_assoc

table_only : (i : ℕ) (t u : List ℤ) (k m : List ℕ) → IsTrue (is_plain_table t) → IsTrue (is_plain_table u) → table_text i t ++ k ≡ table_text i u ++ m → (t ≡ u) × (k ≡ m)
table_only i t u k m ht hu e =
    let f = both (nat_lt (length t) (2 ^ 64)) (all_true (map is_word t)) ht in let g = both (nat_lt (length u) (2 ^ 64)) (all_true (map is_word u)) hu in
    let q = append_cancel_left (codes "static const int64_t k") (decimal i ++ (codes "[" ++ table_rest t k)) (decimal i ++ (codes "[" ++ table_rest u m)) (sym (table_is i t k) ∙ e ∙ table_is i u m) in
    let r = append_cancel_left (codes "[") (table_rest t k) (table_rest u m) (append_cancel_left (decimal i) (codes "[" ++ table_rest t k) (codes "[" ++ table_rest u m) q) in
    let s = decimal_only (length t) (length u) (codes "] = {" ++ (numbers_text t ++ (codes "};\n" ++ k))) (codes "] = {" ++ (numbers_text u ++ (codes "};\n" ++ m)))
    (lt_of (length t) (2 ^ 64) f.0) (lt_of (length u) (2 ^ 64) g.0) refl refl r in
    let v = numbers_only t u f.1 g.1 s.0 (codes ";\n" ++ k) (codes ";\n" ++ m) (append_cancel_left (codes "] = {") (numbers_text t ++ (codes "};\n" ++ k)) (numbers_text u ++ (codes "};\n" ++ m)) s.1) in
    (v.0, append_cancel_left (codes ";\n") k m v.1)

tables_only : (i : ℕ) (ts us : List (List ℤ)) (k m : List ℕ) → IsTrue (all_true (map is_plain_table ts)) → IsTrue (all_true (map is_plain_table us))
    → Apart (codes "static c") k → Apart (codes "static c") m → tables_text i ts ++ k ≡ tables_text i us ++ m → (ts ≡ us) × (k ≡ m)
tables_only i [] [] k m ht hu nk nm e = (refl, e)
tables_only i [] (u ∷ us) k m ht hu nk nm e =
    absurd (nk _ (e ∙ append_assoc (table_text i u) (tables_text (i + 1) us) m ∙ table_is i u (tables_text (i + 1) us ++ m)))
tables_only i (t ∷ ts) [] k m ht hu nk nm e =
    absurd (nm _ (sym e ∙ append_assoc (table_text i t) (tables_text (i + 1) ts) k ∙ table_is i t (tables_text (i + 1) ts ++ k)))
tables_only i (t ∷ ts) (u ∷ us) k m ht hu nk nm e =
    let f = both (is_plain_table t) (all_true (map is_plain_table ts)) ht in let g = both (is_plain_table u) (all_true (map is_plain_table us)) hu in
    let r = table_only i t u (tables_text (i + 1) ts ++ k) (tables_text (i + 1) us ++ m) f.0 g.0
    (sym (append_assoc (table_text i t) (tables_text (i + 1) ts) k) ∙ e ∙ append_assoc (table_text i u) (tables_text (i + 1) us) m) in
    let s = tables_only (i + 1) ts us k m f.1 g.1 nk nm r.1 in
    (ap₂ (λ a b. a ∷ b) r.0 s.0, s.1)

-- ---- Programs

-- the prototypes and all that follows them
abbrev code : List CFunction → List ℕ
code fs = prototypes_text 0 (length fs) ++ (functions_text 0 fs ++ tail)

abbrev global_bufs : CProgram → List ℕ
global_bufs p = declared (codes "static int64_t ") global_buf p.bufs (code p.functions)

abbrev globals : CProgram → List ℕ
globals p = declared (codes "static int64_t ") global_int p.ints (global_bufs p)

code_apart : (c : ℕ) (t : List ℕ) → nat_eq 118 c ≡ false → (fs : List CFunction) → Apart (codes "static " ++ (c ∷ t)) (code fs)
code_apart c t n [] s e = tail_apart _ e
code_apart c t n (f ∷ fs) s e =
    clash 118 c _ _ n (append_cancel_left (codes "static ") _ _ (sym (prototype_is 0 (prototypes_text 1 (length fs)) (functions_text 0 (f ∷ fs) ++ tail)) ∙ e))

-- a line that declares buffers begins no whole variable, and neither line begins a table
globals_apart : (item : ℕ → List ℕ) (n : ℕ) (k : List ℕ) → Apart (codes "static c") k → Apart (codes "static c") (declared (codes "static int64_t ") item n k)
globals_apart item zero k h s e = h s e
globals_apart item (suc n) k h s e = clash 105 99 _ _ refl (append_cancel_left (codes "static ") _ _ e)

bufs_no_ints : (n : ℕ) (k : List ℕ) → Apart (codes "static int64_t " ++ global_int 0) k → Apart (codes "static int64_t " ++ global_int 0) (declared (codes "static int64_t ") global_buf n k)
bufs_no_ints zero k h s e = h s e
bufs_no_ints (suc n) k h s e = clash 42 103 _ _ refl (append_cancel_left (codes "static int64_t ") _ _ e)

program_is : (p : CProgram) → program_text p ≡ preamble ++ (tables_text 0 p.tables ++ globals p)
unfolding program_text
program_is p =
    regroup preamble (tables_text 0 p.tables) (declaration (codes "static int64_t ") global_int p.ints) (declaration (codes "static int64_t ") global_buf p.bufs)
    (prototypes_text 0 (length p.functions)) (functions_text 0 p.functions) tail
    ∙ ap (λ t. preamble ++ (tables_text 0 p.tables ++ t)) (
    ap (λ t. declaration (codes "static int64_t ") global_int p.ints ++ t) (declared_is (codes "static int64_t ") global_buf p.bufs (code p.functions))
    ∙ declared_is (codes "static int64_t ") global_int p.ints (global_bufs p))
  where
    regroup : (a b c d e f g : List ℕ) → a ++ b ++ c ++ d ++ e ++ f ++ g ≡ a ++ (b ++ (c ++ (d ++ (e ++ (f ++ g)))))
    regroup a b c d e f g = simp append_assoc

program_same : (p q : CProgram) → p.tables ≡ q.tables → p.ints ≡ q.ints → p.bufs ≡ q.bufs → p.functions ≡ q.functions → p ≡ q
program_same p q a b c d = λ j. record { tables = a j; ints = b j; bufs = c j; functions = d j }

no_table : (p : CProgram) → Apart (codes "static c") (globals p)
no_table p = globals_apart global_int p.ints (global_bufs p) (globals_apart global_buf p.bufs (code p.functions) (code_apart 99 [] refl p.functions))

no_int : (p : CProgram) → Apart (codes "static int64_t " ++ global_int 0) (global_bufs p)
no_int p = bufs_no_ints p.bufs (code p.functions) (code_apart 105 (codes "nt64_t " ++ global_int 0) refl p.functions)

no_buf : (p : CProgram) → Apart (codes "static int64_t " ++ global_buf 0) (code p.functions)
no_buf p = code_apart 105 (codes "nt64_t " ++ global_buf 0) refl p.functions

pub program_only : (p q : CProgram) → IsPlain p → IsPlain q → program_text p ≡ program_text q → p ≡ q
program_only p q hp hq e =
    let a = both (all_true (map is_plain_table p.tables)) (nat_lt (length p.functions) (2 ^ 64) && are_plain_functions p.functions) hp in
    let b = both (all_true (map is_plain_table q.tables)) (nat_lt (length q.functions) (2 ^ 64) && are_plain_functions q.functions) hq in
    let f = both (nat_lt (length p.functions) (2 ^ 64)) (are_plain_functions p.functions) a.1 in
    let g = both (nat_lt (length q.functions) (2 ^ 64)) (are_plain_functions q.functions) b.1 in
    let la = lt_of (length p.functions) (2 ^ 64) f.0 in let lb = lt_of (length q.functions) (2 ^ 64) g.0 in
    let k = functions_text 0 p.functions ++ tail in let m = functions_text 0 q.functions ++ tail in
    let r = append_cancel_left preamble (tables_text 0 p.tables ++ globals p) (tables_text 0 q.tables ++ globals q) (sym (program_is p) ∙ e ∙ program_is q) in
    let s = tables_only 0 p.tables q.tables (globals p) (globals q) a.0 b.0 (no_table p) (no_table q) r in
    let t = declared_only (codes "static int64_t ") global_int p.ints q.ints (global_bufs p) (global_bufs q) (no_int p) (no_int q) s.1 in
    let u = declared_only (codes "static int64_t ") global_buf p.bufs q.bufs (code p.functions) (code q.functions) (no_buf p) (no_buf q) t.1 in
    let v = prototypes_only 0 (length p.functions) (length q.functions) k m (omega (arith, la)) (omega (arith, lb)) (functions_apart p.functions) (functions_apart q.functions) u.1 in
    program_same p q s.0 t.0 u.0 (functions_only 0 p.functions q.functions tail f.1 g.1 v.0 v.1)

-- Whole programs.
use Rattle.std.proofs.Common.{◌≡◌, ◌∙◌, ap, ap₂, sym, refl, subst, ℕ, zero, suc, ◌+◌, ◌<◌, ◌≤◌, ◌^◌, List, [], ◌∷◌, ◌++◌, append_assoc, codes, ℤ, Option, Bool, true, false, ◌&&◌, IsTrue, nat_lt, arith, length, get_or}
use Rattle.std.proofs.lemmas.Bool.Decides.{nat_tests}
use Rattle.std.proofs.lemmas.List.{append_cancel_left, append-nil, length-append}
use Rattle.aplc_cprof.specs.declared.syntax.CFunction.{CFunction}
use Rattle.aplc_cprof.specs.declared.syntax.CProgram.{CProgram}
use Rattle.aplc_cprof.specs.Preamble.{preamble, tail}
use Rattle.aplc_cprof.specs.Text.{declaration, global_int, global_buf, tables_text, prototypes_text, functions_text, program_text}
use Rattle.aplc_cprof.specs.WellFormed.{Scope, is_count, are_tables, is_function, are_functions, is_formed}
use Rattle.aplc_cread.specs.declared.lexical.Halt.{Halt}
use Rattle.aplc_cread.specs.declared.answer.Mode.{Mode}
use Rattle.aplc_cread.specs.declared.below.Code.{Code}
use Rattle.aplc_cread.specs.Reading.{Found, Any, Lit, OneOf, Halts, Map, After}
use Rattle.aplc_cread.specs.Leading.{Leads}
use Rattle.aplc_cread.specs.Tables.{Table}
use Rattle.aplc_cread.specs.Functions.{scope_for}
use Rattle.aplc_cread.specs.Programs.{counted, code_text, headings, GlobalsBehind, with_table, Tabled, TabledBy, whole_of, Preambled}
use Rattle.aplc_cread.specs.Refusal.{scope_of, Program}
use Rattle.aplc_cread.proofs.Rules.{Within, Some_of, same, Joint, joint_lit, lit_at, map_at}
use Rattle.aplc_cread.proofs.Leads.{leads_start, leads_bind, leads_map, leads_as, leads_within, leads_first, leads_halts}
use Rattle.aplc_cread.proofs.Globals.{Rest, more_tables, TabledAny, within_tabled, some_tabled, further, joint_heading, joint_table}
use Rattle.aplc_cread.proofs.Exprs.{both, and_both, lt_of, of_lt}

-- ---- The scope of a program is that of its counts

scope_same : (m : Mode) (p : CProgram) (f : CFunction) → scope_of m.free p f ≡ scope_for m (counted (length p.tables) p.ints p.bufs (length p.functions)) f
scope_same m p f = go m.free
  where
    go : (free : Bool) → scope_of free p f ≡ scope_for (record { limit = m.limit; free = free }) (counted (length p.tables) p.ints p.bufs (length p.functions)) f
    go true = refl
    go false = refl

functions_same : (a b : CFunction → Scope) → ((f : CFunction) → a f ≡ b f) → (room : Option ℕ) (fs : List CFunction) → are_functions a room fs ≡ are_functions b room fs
functions_same a b e room [] = refl
functions_same a b e room (f ∷ fs) = ap₂ (λ sc rest. is_function sc room f && rest) (e f) (functions_same a b e room fs)

-- ---- The tests of a program

formed_is : (scope : CProgram → CFunction → Scope) (room : Option ℕ) (p : CProgram) → is_formed scope room p
    ≡ (is_count p.ints && is_count p.bufs && is_count (length p.tables) && is_count (length p.functions) && are_tables p.tables && nat_lt 0 (length p.functions) && are_functions (scope p) room p.functions)
unfolding is_formed
formed_is scope room p = refl

text_is : (p : CProgram) → program_text p
    ≡ preamble ++ (tables_text 0 p.tables ++ (declaration (codes "static int64_t ") global_int p.ints ++ (declaration (codes "static int64_t ") global_buf p.bufs
    ++ (prototypes_text 0 (length p.functions) ++ (functions_text 0 p.functions ++ tail)))))
unfolding program_text
text_is p = regroup preamble (tables_text 0 p.tables) (declaration (codes "static int64_t ") global_int p.ints) (declaration (codes "static int64_t ") global_buf p.bufs) (prototypes_text 0 (length p.functions)) (functions_text 0 p.functions) tail
  where
    regroup : (a b c d e f g : List ℕ) → a ++ b ++ c ++ d ++ e ++ f ++ g ≡ a ++ (b ++ (c ++ (d ++ (e ++ (f ++ g)))))
    regroup a b c d e f g = simp append_assoc

seven : (a b c d e f g : Bool) → IsTrue (a && b && c && d && e && f && g) → IsTrue a × IsTrue b × IsTrue c × IsTrue d × IsTrue e × IsTrue f × IsTrue g
seven a b c d e f g h =
    let p6 = both (a && b && c && d && e && f) g h in
    let p5 = both (a && b && c && d && e) f p6.0 in
    let p4 = both (a && b && c && d) e p5.0 in
    let p3 = both (a && b && c) d p4.0 in
    let p2 = both (a && b) c p3.0 in
    let p1 = both a b p2.0 in
    (p1.0, p1.1, p2.1, p3.1, p4.1, p5.1, p6.1)

of_seven : (a b c d e f g : Bool) → IsTrue a → IsTrue b → IsTrue c → IsTrue d → IsTrue e → IsTrue f → IsTrue g → IsTrue (a && b && c && d && e && f && g)
of_seven a b c d e f g ha hb hc hd he hf hg =
    and_both (a && b && c && d && e && f) g (and_both (a && b && c && d && e) f (and_both (a && b && c && d) e (and_both (a && b && c) d (and_both (a && b) c (and_both a b ha hb) hc) hd) he) hf) hg

pub within_preambled : (m : Mode) (s : List ℕ) → Within s (Map whole_of (Tabled m 0)) (Preambled m)
within_preambled m s = same (λ p w x. subst (λ p. Preambled m p w) (sym x.is) (into x.part w x.of)) (λ p w x. from p w x)
  where
    into : (x : Rest) (w : List ℕ) → Tabled m 0 x w → Preambled m (whole_of x) w
    into x w y =
        let p = whole_of x in let f = y.fits in let n = length x.1.functions in
        let z : 0 + length x.0 ≡ length x.0 = omega arith in
        let few = y.few in
        let same_functions = functions_same (scope_of m.free p) (scope_for m (counted (length x.0) x.1.ints x.1.bufs n)) (scope_same m p) m.limit x.1.functions in
        let fit : IsTrue (are_functions (scope_of m.free p) m.limit x.1.functions) = subst IsTrue (ap (λ t. are_functions (scope_for m (counted t x.1.ints x.1.bufs n)) m.limit x.1.functions) z ∙ sym same_functions) f.fit in
        record {
          formed = subst IsTrue (sym (formed_is (scope_of m.free) m.limit p)) (of_seven (is_count x.1.ints) (is_count x.1.bufs) (is_count (length x.0)) (is_count n) (are_tables x.0) (nat_lt 0 n) (are_functions (scope_of m.free p) m.limit x.1.functions)
              (of_lt x.1.ints (2 ^ 32) f.ints) (of_lt x.1.bufs (2 ^ 32) f.bufs) (of_lt (length x.0) (2 ^ 32) (omega (arith, few, z))) (of_lt n (2 ^ 32) f.below) y.tables (of_lt 0 n f.some) fit);
          text = ap (λ w. preamble ++ w) y.text ∙ sym (text_is p);
        }

    from : (p : CProgram) (w : List ℕ) → Preambled m p w → Map whole_of (Tabled m 0) p w
    from p w y =
        let n = length p.functions in
        let g = seven (is_count p.ints) (is_count p.bufs) (is_count (length p.tables)) (is_count n) (are_tables p.tables) (nat_lt 0 n) (are_functions (scope_of m.free p) m.limit p.functions) (subst IsTrue (formed_is (scope_of m.free) m.limit p) y.formed) in
        let z : length p.tables ≡ 0 + length p.tables = omega arith in
        let few = lt_of (length p.tables) (2 ^ 32) g.2 in
        let same_functions = functions_same (scope_of m.free p) (scope_for m (counted (length p.tables) p.ints p.bufs n)) (scope_same m p) m.limit p.functions in
        let x : Rest = (p.tables, record { ints = p.ints; bufs = p.bufs; functions = p.functions }) in
        map_at whole_of x (record {
          few = omega (arith, few, z);
          tables = g.4;
          fits = record {
            ints = lt_of p.ints (2 ^ 32) g.0;
            bufs = lt_of p.bufs (2 ^ 32) g.1;
            some = lt_of 0 n g.5;
            below = lt_of n (2 ^ 32) g.3;
            fit = subst IsTrue (same_functions ∙ ap (λ t. are_functions (scope_for m (counted t p.ints p.bufs n)) m.limit p.functions) z) g.6;
          };
          text = append_cancel_left preamble w (tables_text 0 p.tables ++ code_text x.1) (y.text ∙ text_is p);
        })

pub some_preambled : (m : Mode) → Some_of (Preambled m)
some_preambled m = let z = some_tabled m 0 (omega arith) in (whole_of z.0, (z.1.0, (within_preambled m []).into (whole_of z.0) z.1.0 (map_at whole_of z.0 z.1.1)))

pub within_program : (m : Mode) (s t : List ℕ) → t ≡ preamble → Within s (After t (Preambled m)) (Program m)
within_program m s t e = same
    (λ p w x. let r = x.goes_on in record { formed = r.formed; text = x.whole ∙ ap (λ y. y ++ x.back) (x.begins ∙ e) ∙ r.text })
    (λ p w x.
    let rest : List ℕ = tables_text 0 p.tables ++ (declaration (codes "static int64_t ") global_int p.ints ++ (declaration (codes "static int64_t ") global_buf p.bufs ++ (prototypes_text 0 (length p.functions) ++ (functions_text 0 p.functions ++ tail)))) in
    let q : w ≡ t ++ rest = x.text ∙ text_is p ∙ ap (λ y. y ++ rest) (sym e) in
    let P : List ℕ → Type 0 = λ w. After t (Preambled m) p w in
    subst P (sym q) (lit_at rest (record { formed = x.formed; text = sym (text_is p) })))

pub joint_preamble : (m : Mode) (t : List ℕ) → Joint Any (Lit t) Any (λ u. Preambled m)
joint_preamble m t = joint_lit (some_preambled m)

-- ---- How the loop over tables goes

abbrev pub all_of : List (List ℤ) → Rest → CProgram
all_of done x = whole_of (done ++ x.0, x.1)

abbrev pub TablesOn : Mode → List ℕ → List (List ℤ) → ℕ → List ℕ → Type 0
TablesOn m s done k rest = Leads (Preambled m) s (all_of done) (Tabled m k) rest

pub tables_start : (m : Mode) (s : List ℕ) (done : List (List ℤ)) → done ≡ [] → TablesOn m s done 0 s
tables_start m s done e = subst (λ done. TablesOn m s done 0 s) (sym e) (leads_map whole_of (leads_within (within_preambled m s) (leads_start (Preambled m) s)))

abbrev On : Mode → List ℕ → List (List ℤ) → ℕ → List ℕ → Type 0
On m s done k rest = Leads (Preambled m) s (all_of done) (TabledAny m k) rest

on : (m : Mode) (done : List (List ℤ)) (k : ℕ) {s rest : List ℕ} → k < 2 ^ 32 → TablesOn m s done k rest → On m s done k rest
on m done k {s} {rest} l g = leads_within (within_tabled m k rest l) g

pub tables_heading : (m : Mode) (done : List (List ℤ)) (k : ℕ) {s rest : List ℕ} {h : Halt} → k < 2 ^ 32 → TablesOn m s done k rest → Halts Any (OneOf headings (more_tables k)) rest h → Halts Any (Preambled m) s h
tables_heading m done k l g x = leads_first (joint_heading m k) (on m done k l g) x

behind_end : (m : Mode) (done : List (List ℤ)) (k i : ℕ) {s rest behind : List ℕ} → k < 2 ^ 32 → i < 3 → TablesOn m s done k rest → Found Any (OneOf headings (more_tables k)) rest i behind
    → Leads (Preambled m) s (λ x. all_of done ([], x)) (GlobalsBehind m k i) behind
behind_end m done k i {s} {rest} {behind} l h g x =
    let a = leads_bind (joint_heading m k) (on m done k l g) x in
    leads_map (λ x. ([], x)) (subst (λ b. Leads (Preambled m) s (all_of done) (TabledBy m k i b) behind) (of_lt i 3 h) a)

pub tables_globals : (m : Mode) (done : List (List ℤ)) (k i : ℕ) {s rest behind : List ℕ} {h : Halt} → k < 2 ^ 32 → i < 3 → TablesOn m s done k rest → Found Any (OneOf headings (more_tables k)) rest i behind
    → Halts Any (GlobalsBehind m k i) behind h → Halts Any (Preambled m) s h
tables_globals m done k i l h g x y = leads_halts (behind_end m done k i l h g x) y

pub tables_end : (m : Mode) (done : List (List ℤ)) (k i : ℕ) {s rest behind next : List ℕ} {x : Code} → k < 2 ^ 32 → i < 3 → TablesOn m s done k rest → Found Any (OneOf headings (more_tables k)) rest i behind
    → Found Any (GlobalsBehind m k i) behind x next → Found Any (Preambled m) s (whole_of (done, x)) next
tables_end m done k i {s} {rest} {behind} {next} {x} l h g f y = subst (λ d. Found Any (Preambled m) s (whole_of (d, x)) next) (append-nil done) ((behind_end m done k i l h g f).found x next y)

behind_table : (m : Mode) (done : List (List ℤ)) (k i : ℕ) {s rest behind : List ℕ} → k < 2 ^ 32 → 3 ≤ i → TablesOn m s done k rest → Found Any (OneOf headings (more_tables k)) rest i behind
    → Leads (Preambled m) s (all_of done) (TabledBy m k i false) behind
behind_table m done k i {s} {rest} {behind} l h g x = subst (λ b. Leads (Preambled m) s (all_of done) (TabledBy m k i b) behind) (not_below i h) (leads_bind (joint_heading m k) (on m done k l g) x)
  where
    not_below : (i : ℕ) → 3 ≤ i → nat_lt i 3 ≡ false
    not_below i h = grind (arith, nat_tests)

pub tables_table : (m : Mode) (done : List (List ℤ)) (k i : ℕ) {s rest behind : List ℕ} {h : Halt} → k < 2 ^ 32 → 3 ≤ i → TablesOn m s done k rest → Found Any (OneOf headings (more_tables k)) rest i behind
    → Halts Any (Table k) behind h → Halts Any (Preambled m) s h
tables_table m done k i l h g x y = leads_first (joint_table m k (further k i x.is h)) (behind_table m done k i l h g x) y

pub tables_next : (m : Mode) (done : List (List ℤ)) (k i : ℕ) {s rest behind next : List ℕ} {t : List ℤ} → k < 2 ^ 32 → 3 ≤ i → TablesOn m s done k rest → Found Any (OneOf headings (more_tables k)) rest i behind
    → Found Any (Table k) behind t next → TablesOn m s (done ++ t ∷ []) (k + 1) next
tables_next m done k i {s} {rest} {behind} {next} {t} l h g x y =
    leads_as (all_of (done ++ t ∷ [])) (λ x. ap (λ d. whole_of (d, x.1)) (sym (append_assoc done (t ∷ []) x.0)))
    (leads_map (with_table t) (leads_bind (joint_table m k (further k i x.is h)) (behind_table m done k i l h g x) y))

pub heading_shorter : (k : ℕ) {s rest : List ℕ} {i : ℕ} → Found Any (OneOf headings (more_tables k)) s i rest → length rest < length s
heading_shorter k {s} {rest} {i} f =
    let l = length_of i f.is.within in
    let e : length s ≡ length (get_or headings i []) + length rest = ap length f.here ∙ length-append f.text rest ∙ ap (λ x. length x + length rest) f.is.text in
    omega (arith, l, e)
  where
    length_of : (i : ℕ) → i < 4 → 0 < length (get_or headings i [])
    length_of zero l = omega arith
    length_of (suc zero) l = omega arith
    length_of (suc (suc zero)) l = omega arith
    length_of (suc (suc (suc zero))) l = omega arith
    length_of (suc (suc (suc (suc i)))) l = absurd (omega (arith, l))

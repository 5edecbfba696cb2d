-- Programs, taken apart and put together.
use Rattle.std.proofs.Common.{◌≡◌, ◌∙◌, ap, ap₂, sym, refl, subst, ℕ, zero, suc, ◌+◌, ◌-◌, ◌<◌, ◌≤◌, ◌^◌, List, [], ◌∷◌, ◌++◌, append_assoc, codes, decimal, Option, Bool, true, false, ◌||◌, IsTrue, nat_eq, arith, length, get_or}
use Rattle.std.proofs.lemmas.Bool.Decides.{nat_tests}
use Rattle.std.proofs.lemmas.Fmt.{decimal_digit, first_decimal}
use Rattle.std.proofs.lemmas.List.{append-nil}
use Rattle.aplc_cprof.specs.declared.syntax.CFunction.{CFunction}
use Rattle.aplc_cprof.specs.Preamble.{tail}
use Rattle.aplc_cprof.specs.Text.{declaration, local_int, local_buf, stmts_text, prototypes_text, function_text, functions_text}
use Rattle.aplc_cprof.specs.WellFormed.{Scope, is_function, are_functions}
use Rattle.aplc_cread.specs.declared.lexical.Halt.{Halt}
use Rattle.aplc_cread.specs.declared.answer.Mode.{Mode}
use Rattle.aplc_cread.specs.declared.function.Counts.{Counts}
use Rattle.aplc_cread.specs.Reading.{first, Found, Any, Bind, Lit, Halts, Map}
use Rattle.aplc_cread.specs.Leading.{Leads}
use Rattle.aplc_cread.specs.Listings.{numbered}
use Rattle.aplc_cread.specs.Functions.{scope_for, Function, made}
use Rattle.aplc_cread.specs.Programs.{Functions, FunctionsOn, counted, Prototyped, PrototypedBy, Prototype, is_zero, is_last}
use Rattle.aplc_cread.proofs.Rules.{Within, Some_of, same, Joint, joint_any, joint_lit, some_bind, some_map, bind_at, lit_at, map_at}
use Rattle.aplc_cread.proofs.Leads.{leads_start, leads_bind, leads_map, leads_as, leads_within, leads_first, leads_halts}
use Rattle.aplc_cread.proofs.Exprs.{both, and_both}
use Rattle.aplc_cread.proofs.Functions.{some_function}

-- ---- Functions

-- behind the first line of a function
abbrev pub behind_line : CFunction → List ℕ
behind_line f = declaration (codes "int64_t ") local_int f.ints ++ (declaration (codes "int64_t ") local_buf f.bufs ++ (stmts_text f.body ++ codes "}\n"))

abbrev pub line : ℕ → List ℕ
line k = numbered (codes "static void f") (codes "(void) {\n") k

pub function_pieces : (k : ℕ) (f : CFunction) (t : List ℕ) → function_text k f ++ t ≡ line k ++ (behind_line f ++ t)
function_pieces k f t = regroup (codes "static void f") (decimal k) (codes "(void) {\n") (declaration (codes "int64_t ") local_int f.ints) (declaration (codes "int64_t ") local_buf f.bufs) (stmts_text f.body) (codes "}\n")
  where
    regroup : (a n b d e s c : List ℕ) → (a ++ n ++ b ++ d ++ e ++ s ++ c) ++ t ≡ (a ++ (n ++ b)) ++ ((d ++ (e ++ (s ++ c))) ++ t)
    regroup a n b d e s c = simp append_assoc

functions_pieces : (k : ℕ) (f : CFunction) (fs : List CFunction) → functions_text k (f ∷ fs) ++ tail ≡ line k ++ (behind_line f ++ (functions_text (k + 1) fs ++ tail))
functions_pieces k f fs = append_assoc (function_text k f) (functions_text (k + 1) fs) tail ∙ function_pieces k f (functions_text (k + 1) fs ++ tail)

pub within_next : (m : Mode) (c : Counts) (k n : ℕ) (s : List ℕ) → 0 < n → Within s (Bind (Lit (line k)) (λ u. FunctionsOn m c (k + 1) n)) (Functions m c k n)
within_next m c k n s l = same (λ fs w x. into fs w x) (λ fs w x. from fs w x.many x.fit x.text)
  where
    into : (fs : List CFunction) (w : List ℕ) → Bind (Lit (line k)) (λ u. FunctionsOn m c (k + 1) n) fs w → Functions m c k n fs w
    into fs w x =
        let r = x.goes_on in let f = r.part in let t = r.goes_on in let gs = t.part in
        record {
          many = let q = t.of.many in omega (arith, ap length t.is, q, l);
          fit = subst (λ fs. IsTrue (are_functions (scope_for m c) m.limit fs)) (sym t.is) (and_both (is_function (scope_for m c f) m.limit f) (are_functions (scope_for m c) m.limit gs) r.begins.fits t.of.fit);
          text = x.whole ∙ ap₂ (λ x y. x ++ y) x.begins (r.whole ∙ ap₂ (λ x y. x ++ y) r.begins.text t.of.text) ∙ sym (functions_pieces k f gs) ∙ ap (λ fs. functions_text k fs ++ tail) (sym t.is);
        }

    from : (fs : List CFunction) (w : List ℕ) → length fs ≡ n → IsTrue (are_functions (scope_for m c) m.limit fs) → w ≡ functions_text k fs ++ tail → Bind (Lit (line k)) (λ u. FunctionsOn m c (k + 1) n) fs w
    from [] w q h t = absurd (omega (arith, q, l))
    from (f ∷ fs) w q h t =
        let g = both (is_function (scope_for m c f) m.limit f) (are_functions (scope_for m c) m.limit fs) h in
        let rest : List ℕ = functions_text (k + 1) fs ++ tail in
        let P : List ℕ → Type 0 = λ w. Bind (Lit (line k)) (λ u. FunctionsOn m c (k + 1) n) (f ∷ fs) w in
        subst P (sym (t ∙ functions_pieces k f fs)) (lit_at (behind_line f ++ rest) (bind_at f (behind_line f) rest (record { fits = g.0; text = refl }) (map_at (λ fs. f ∷ fs) fs (record { many = omega (arith, q); fit = g.1; text = refl }))))

pub within_tail : (m : Mode) (c : Counts) (k n : ℕ) (s : List ℕ) → n ≡ 0 → Within s (Map (λ (u : Unit {0}). []) (Lit tail)) (Functions m c k n)
within_tail m c k n s e = same
    (λ fs w x. record { many = ap length x.is ∙ sym e; fit = subst (λ fs. IsTrue (are_functions (scope_for m c) m.limit fs)) (sym x.is) refl; text = x.of ∙ ap (λ fs. functions_text k fs ++ tail) (sym x.is) })
    (λ fs w x. from fs w x.many x.text)
  where
    from : (fs : List CFunction) (w : List ℕ) → length fs ≡ n → w ≡ functions_text k fs ++ tail → Map (λ (u : Unit {0}). []) (Lit tail) fs w
    from [] w q t = record { part = tt; is = refl; of = t }
    from (f ∷ fs) w q t = absurd (omega (arith, q, e))

-- so many functions without statements
blank : (scope : CFunction → Scope) (room : Option ℕ) (n : ℕ) → (fs : List CFunction) × (length fs ≡ n) × IsTrue (are_functions scope room fs)
blank scope room zero = ([], refl, refl)
blank scope room (suc n) = let r = blank scope room n in (made 0 0 [] ∷ r.0, ap suc r.1, and_both (is_function (scope (made 0 0 [])) room (made 0 0 [])) (are_functions scope room r.0) refl r.2)

pub some_functions : (m : Mode) (c : Counts) (k n : ℕ) → Some_of (Functions m c k n)
some_functions m c k n = let z = blank (scope_for m c) m.limit n in (z.0, (functions_text k z.0 ++ tail, record { many = z.1; fit = z.2; text = refl }))

pub joint_function : (m : Mode) (c : Counts) (k n : ℕ) → Joint Any (Function m c) Any (λ f. Map (λ fs. f ∷ fs) (Functions m c k (n - 1)))
joint_function m c k n = joint_any (λ f w o. some_map (λ fs. f ∷ fs) (some_functions m c k (n - 1)))

pub some_functions_on : (m : Mode) (c : Counts) (k n : ℕ) → Some_of (FunctionsOn m c k n)
some_functions_on m c k n = some_bind (some_function m c) (λ f. some_map (λ fs. f ∷ fs) (some_functions m c k (n - 1)))

pub joint_line : (m : Mode) (c : Counts) (k n : ℕ) → Joint Any (Lit (line k)) Any (λ u. FunctionsOn m c (k + 1) n)
joint_line m c k n = joint_lit (some_functions_on m c (k + 1) n)

-- ---- How the loop over functions goes

abbrev pub On : Mode → Counts → List ℕ → List CFunction → ℕ → List ℕ → Type 0
On m c s done k rest = Leads (FunctionsOn m c 1 c.functions) s (λ fs. done ++ fs) (Functions m c k (c.functions - k)) rest

pub on_start : (m : Mode) (c : Counts) {s rest : List ℕ} {f : CFunction} (done : List CFunction) → done ≡ f ∷ [] → Found Any (Function m c) s f rest → On m c s done 1 rest
on_start m c {s} {rest} {f} done e x = subst (λ done. On m c s done 1 rest) (sym e) (leads_map (λ fs. f ∷ fs) (leads_bind (joint_function m c 1 c.functions) (leads_start (FunctionsOn m c 1 c.functions) s) x))

on_line : (m : Mode) (c : Counts) (done : List CFunction) (k : ℕ) {s rest : List ℕ} → k < c.functions → On m c s done k rest
    → Leads (FunctionsOn m c 1 c.functions) s (λ fs. done ++ fs) (Bind (Lit (line k)) (λ u. FunctionsOn m c (k + 1) (c.functions - k))) rest
on_line m c done k {s} {rest} l g = leads_within (within_next m c k (c.functions - k) rest (omega (arith, l))) g

pub on_name : (m : Mode) (c : Counts) (done : List CFunction) (k : ℕ) {s rest : List ℕ} {h : Halt} → k < c.functions → On m c s done k rest → Halts Any (Lit (line k)) rest h → Halts Any (FunctionsOn m c 1 c.functions) s h
on_name m c done k l g x = leads_first (joint_line m c k (c.functions - k)) (on_line m c done k l g) x

pub on_function : (m : Mode) (c : Counts) (done : List CFunction) (k : ℕ) {s rest behind : List ℕ} {h : Halt} → k < c.functions → On m c s done k rest → Found Any (Lit (line k)) rest tt behind → Halts Any (Function m c) behind h
    → Halts Any (FunctionsOn m c 1 c.functions) s h
on_function m c done k l g x y = leads_first (joint_function m c (k + 1) (c.functions - k)) (leads_bind (joint_line m c k (c.functions - k)) (on_line m c done k l g) x) y

pub on_next : (m : Mode) (c : Counts) (done : List CFunction) (k : ℕ) {s rest behind next : List ℕ} {f : CFunction} → k < c.functions → On m c s done k rest → Found Any (Lit (line k)) rest tt behind → Found Any (Function m c) behind f next
    → On m c s (done ++ f ∷ []) (k + 1) next
on_next m c done k {s} {rest} {behind} {next} {f} l g x y =
    let a = leads_bind (joint_function m c (k + 1) (c.functions - k)) (leads_bind (joint_line m c k (c.functions - k)) (on_line m c done k l g) x) y in
    let b = leads_as (λ fs. (done ++ f ∷ []) ++ fs) (λ fs. sym (append_assoc done (f ∷ []) fs)) (leads_map (λ fs. f ∷ fs) a) in
    let e : c.functions - k - 1 ≡ c.functions - (k + 1) = omega arith in
    subst (λ n. Leads (FunctionsOn m c 1 c.functions) s (λ fs. (done ++ f ∷ []) ++ fs) (Functions m c (k + 1) n) next) e b

on_tail : (m : Mode) (c : Counts) (done : List CFunction) (k : ℕ) {s rest : List ℕ} → c.functions ≤ k → On m c s done k rest → Leads (FunctionsOn m c 1 c.functions) s (λ (u : Unit {0}). done ++ []) (Lit tail) rest
on_tail m c done k {s} {rest} l g = leads_map (λ (u : Unit {0}). []) (leads_within (within_tail m c k (c.functions - k) rest (omega (arith, l))) g)

pub on_halts : (m : Mode) (c : Counts) (done : List CFunction) (k : ℕ) {s rest : List ℕ} {h : Halt} (t : List ℕ) → t ≡ tail → c.functions ≤ k → On m c s done k rest → Halts Any (Lit t) rest h → Halts Any (FunctionsOn m c 1 c.functions) s h
on_halts m c done k {s} {rest} {h} t e l g x = leads_halts (on_tail m c done k l g) (subst (λ t. Halts Any (Lit t) rest h) e x)

pub on_end : (m : Mode) (c : Counts) (done : List CFunction) (k : ℕ) {s rest next : List ℕ} (t : List ℕ) → t ≡ tail → c.functions ≤ k → On m c s done k rest → Found Any (Lit t) rest tt next → Found Any (FunctionsOn m c 1 c.functions) s done next
on_end m c done k {s} {rest} {next} t e l g x =
    subst (λ fs. Found Any (FunctionsOn m c 1 c.functions) s fs next) (append-nil done) ((on_tail m c done k l g).found tt next (subst (λ t. Found Any (Lit t) rest tt next) e x))

-- ---- Prototypes

prototype_pieces : (k : ℕ) (a t : List ℕ) → (codes "static void f" ++ decimal k ++ codes "(void);\n" ++ a) ++ t ≡ codes "static void f" ++ (numbered [] (codes "(void);\n") k ++ (a ++ t))
prototype_pieces k a t = regroup (codes "static void f") (decimal k) (codes "(void);\n")
  where
    regroup : (x n b : List ℕ) → (x ++ n ++ b ++ a) ++ t ≡ x ++ ((n ++ b) ++ (a ++ t))
    regroup x n b = simp append_assoc

first_line : line 0 ≡ codes "static void f" ++ codes "0(void) {\n"
first_line = ap (λ d. codes "static void f" ++ (d ++ codes "(void) {\n")) (decimal_digit 0 (omega arith))

abbrev pub Static : Mode → ℕ → ℕ → ℕ → ℕ → List CFunction → List ℕ → Type 0
Static m t i b k = Bind (Lit (codes "static void f")) (λ u. Prototype m t i b k)

pub within_static : (m : Mode) (t i b k : ℕ) (s : List ℕ) → 0 < k → k < 2 ^ 32 → Within s (Static m t i b k) (Prototyped m t i b k)
within_static m t i b k s lk hk = same (λ fs w x. into fs w x.goes_on.0 x.back x.goes_on.1 (x.whole ∙ ap (λ y. y ++ x.back) x.begins)) (λ fs w x. from fs w (length fs - k) refl x)
  where
    into : (fs : List CFunction) (w : List ℕ) (z : Bool) (y : List ℕ) → PrototypedBy m t i b k z fs y → w ≡ codes "static void f" ++ y → Prototyped m t i b k fs w
    into fs w true y x e =
        let r = x.goes_on in let f = r.part in let n = r.goes_on in let gs = n.part in
        let q = n.of.many in
        let many : length fs ≡ k = omega (arith, ap length n.is, q, lk) in
        let z : length fs - k ≡ 0 = omega (arith, many) in
        record {
          some = omega (arith, many);
          below = omega (arith, many, hk);
          fit = subst (λ j. IsTrue (are_functions (scope_for m (counted t i b j)) m.limit fs)) (sym many) (subst (λ fs. IsTrue (are_functions (scope_for m (counted t i b k)) m.limit fs)) (sym n.is)
              (and_both (is_function (scope_for m (counted t i b k) f) m.limit f) (are_functions (scope_for m (counted t i b k)) m.limit gs) r.begins.fits n.of.fit));
          text = e ∙ ap (λ y. codes "static void f" ++ y) (x.whole ∙ ap₂ (λ x y. x ++ y) x.begins (r.whole ∙ ap₂ (λ x y. x ++ y) r.begins.text n.of.text))
              ∙ ap (λ x. x ++ (behind_line f ++ (functions_text 1 gs ++ tail))) (sym first_line) ∙ sym (functions_pieces 0 f gs)
              ∙ ap (λ fs. functions_text 0 fs ++ tail) (sym n.is) ∙ ap (λ j. prototypes_text k j ++ (functions_text 0 fs ++ tail)) (sym z);
        }
    into fs w false y x e =
        let n = x.goes_on in
        let q = n.some in
        let z : length fs - k ≡ suc (length fs - (k + 1)) = omega (arith, q) in
        record {
          some = omega (arith, q);
          below = n.below;
          fit = n.fit;
          text = e ∙ ap (λ y. codes "static void f" ++ y) (x.whole ∙ ap₂ (λ x y. x ++ y) x.begins n.text)
              ∙ sym (prototype_pieces k (prototypes_text (k + 1) (length fs - (k + 1))) (functions_text 0 fs ++ tail)) ∙ ap (λ j. prototypes_text k j ++ (functions_text 0 fs ++ tail)) (sym z);
        }

    last : (fs : List CFunction) (w : List ℕ) → length fs ≡ k → IsTrue (are_functions (scope_for m (counted t i b k)) m.limit fs) → w ≡ functions_text 0 fs ++ tail → Static m t i b k fs w
    last [] w q h e = absurd (omega (arith, q, lk))
    last (f ∷ fs) w q h e =
        let g = both (is_function (scope_for m (counted t i b k) f) m.limit f) (are_functions (scope_for m (counted t i b k)) m.limit fs) h in
        let rest : List ℕ = functions_text 1 fs ++ tail in
        let P : List ℕ → Type 0 = λ w. Static m t i b k (f ∷ fs) w in
        subst P (sym (e ∙ functions_pieces 0 f fs ∙ ap (λ x. x ++ (behind_line f ++ rest)) first_line))
        (lit_at (codes "0(void) {\n" ++ (behind_line f ++ rest)) (true, lit_at (behind_line f ++ rest) (bind_at f (behind_line f) rest (record { fits = g.0; text = refl }) (map_at (λ fs. f ∷ fs) fs (record { many = omega (arith, q); fit = g.1; text = refl })))))

    from : (fs : List CFunction) (w : List ℕ) (j : ℕ) → length fs - k ≡ j → Prototyped m t i b k fs w → Static m t i b k fs w
    from fs w zero e x =
        let l = x.some in
        let many : length fs ≡ k = omega (arith, e, l) in
        last fs w many (subst (λ j. IsTrue (are_functions (scope_for m (counted t i b j)) m.limit fs)) many x.fit) (x.text ∙ ap (λ j. prototypes_text k j ++ (functions_text 0 fs ++ tail)) e)
    from fs w (suc j) e x =
        let after : List ℕ = functions_text 0 fs ++ tail in
        let z : j ≡ length fs - (k + 1) = omega (arith, e) in
        let P : List ℕ → Type 0 = λ w. Static m t i b k fs w in
        subst P (sym (x.text ∙ ap (λ j. prototypes_text k j ++ after) e ∙ prototype_pieces k (prototypes_text (k + 1) j) after))
        (lit_at (numbered [] (codes "(void);\n") k ++ (prototypes_text (k + 1) j ++ after)) (
          false,
          lit_at (prototypes_text (k + 1) j ++ after)
              (record { some = omega (arith, e); below = x.below; fit = x.fit; text = ap (λ j. prototypes_text (k + 1) j ++ after) z }),
        ))

-- the first byte tells which

first_digit : (k : ℕ) (r : List ℕ) → 0 < k → k < 2 ^ 64 → is_zero (first (decimal k ++ r)) ≡ false
first_digit k r l h = go (decimal k) (first_decimal k l h)
  where
    go : (ds : List ℕ) → 48 < get_or ds 0 0 → is_zero (first (ds ++ r)) ≡ false
    go [] g = absurd (omega (arith, g))
    go (d ∷ ds) g = above d g
      where
        above : (d : ℕ) → 48 < d → nat_eq d 48 ≡ false
        above d g = grind (arith, nat_tests)

zero_first : (m : Mode) (t i b k : ℕ) (z : Bool) (fs : List CFunction) (w r : List ℕ) → 0 < k → k < 2 ^ 32 → PrototypedBy m t i b k z fs w → is_zero (first (w ++ r)) ≡ z
zero_first m t i b k true fs w r l h x = ap (λ y. is_zero (first (y ++ r))) (x.whole ∙ ap (λ y. y ++ x.back) x.begins)
zero_first m t i b k false fs w r l h x =
    ap (λ y. is_zero (first (y ++ r))) (x.whole ∙ ap (λ y. y ++ x.back) x.begins ∙ append_assoc (decimal k) (codes "(void);\n") x.back)
    ∙ ap (λ y. is_zero (first y)) (append_assoc (decimal k) (codes "(void);\n" ++ x.back) r)
    ∙ first_digit k ((codes "(void);\n" ++ x.back) ++ r) l (omega (arith, h))

pub within_prototype : (m : Mode) (t i b k : ℕ) (z : Bool) (s : List ℕ) → 0 < k → k < 2 ^ 32 → is_last k (first s) ≡ z → Within s (PrototypedBy m t i b k z) (Prototype m t i b k)
within_prototype m t i b k z s l h e = record {
  into = λ fs w x. (z, x);
  from = λ fs w r x q. subst (λ z. PrototypedBy m t i b k z fs w) (told x.0 fs w r x.1 (zero_first m t i b k x.0 fs w r l h x.1) q) x.1;
}
  where
    full : (y : Bool) → (y || nat_eq k (2 ^ 32 - 1)) ≡ z → y ≡ true → true ≡ z
    full y e f = ap (λ y. y || nat_eq k (2 ^ 32 - 1)) (sym f) ∙ e

    more : k + 1 < 2 ^ 32 → (y : Bool) → (y || nat_eq k (2 ^ 32 - 1)) ≡ z → y ≡ false → false ≡ z
    more g y e f = sym (let n : nat_eq k (2 ^ 32 - 1) ≡ false = below k g in n) ∙ ap (λ y. y || nat_eq k (2 ^ 32 - 1)) (sym f) ∙ e
      where
        below : (k : ℕ) → k + 1 < 2 ^ 32 → nat_eq k (2 ^ 32 - 1) ≡ false
        below k g = grind (arith, nat_tests)

    told : (y : Bool) (fs : List CFunction) (w r : List ℕ) → PrototypedBy m t i b k y fs w → is_zero (first (w ++ r)) ≡ y → first (w ++ r) ≡ first s → y ≡ z
    told true fs w r x f q = full (is_zero (first s)) e (ap is_zero (sym q) ∙ f)
    told false fs w r x f q = more (let a = x.goes_on.some in let b = x.goes_on.below in omega (arith, a, b)) (is_zero (first s)) e (ap is_zero (sym q) ∙ f)

pub last_of : (k : ℕ) (c : Option ℕ) → is_last k c ≡ false → k < 2 ^ 32 → k + 1 < 2 ^ 32
last_of k c h l = go (is_zero c) h
  where
    go : (y : Bool) → (y || nat_eq k (2 ^ 32 - 1)) ≡ false → k + 1 < 2 ^ 32
    go true h = absurd (cc h)
    go false h = below k h l
      where
        below : (k : ℕ) → nat_eq k (2 ^ 32 - 1) ≡ false → k < 2 ^ 32 → k + 1 < 2 ^ 32
        below k h l = grind (arith, nat_tests)

pub some_prototyped : (m : Mode) (t i b k : ℕ) → k < 2 ^ 32 → Some_of (Prototyped m t i b k)
some_prototyped m t i b k l =
    let z = blank (scope_for m (counted t i b k)) m.limit k in (
      z.0,
      (
        prototypes_text k (length z.0 - k) ++ (functions_text 0 z.0 ++ tail),
        record {
          some = omega (arith, z.1);
          below = omega (arith, z.1, l);
          fit = subst (λ j. IsTrue (are_functions (scope_for m (counted t i b j)) m.limit z.0)) (sym z.1) z.2;
          text = refl;
        },
      ),
    )

pub joint_static : (m : Mode) (t i b k : ℕ) → Joint Any (Lit (codes "static void f")) Any (λ u. Prototype m t i b k)
joint_static m t i b k = joint_lit (let z = some_functions_on m (counted t i b k) 1 k in (z.0, (codes "0(void) {\n" ++ z.1.0, (true, lit_at z.1.0 z.1.1))))

pub joint_first_line : (m : Mode) (t i b k : ℕ) → Joint Any (Lit (codes "0(void) {\n")) Any (λ u. FunctionsOn m (counted t i b k) 1 k)
joint_first_line m t i b k = joint_lit (some_functions_on m (counted t i b k) 1 k)

pub joint_prototype : (m : Mode) (t i b k : ℕ) → k + 1 < 2 ^ 32 → Joint Any (Lit (numbered [] (codes "(void);\n") k)) Any (λ u. Prototyped m t i b (k + 1))
joint_prototype m t i b k l = joint_lit (some_prototyped m t i b (k + 1) l)

-- ---- How the loop over prototypes goes

abbrev pub Protos : Mode → ℕ → ℕ → ℕ → List ℕ → ℕ → List ℕ → Type 0
Protos m t i b s k rest = Leads (Prototyped m t i b 1) s (λ fs. fs) (Prototyped m t i b k) rest

pub protos_start : (m : Mode) (t i b : ℕ) (s : List ℕ) → Protos m t i b s 1 s
protos_start m t i b s = leads_start (Prototyped m t i b 1) s

pub protos_static : (m : Mode) (t i b k : ℕ) {s rest : List ℕ} {h : Halt} → 0 < k → k < 2 ^ 32 → Protos m t i b s k rest → Halts Any (Lit (codes "static void f")) rest h → Halts Any (Prototyped m t i b 1) s h
protos_static m t i b k {s} {rest} l h g x = leads_first (joint_static m t i b k) (leads_within (within_static m t i b k rest l h) g) x

-- behind `static void f`
pub protos_by : (m : Mode) (t i b k : ℕ) (z : Bool) {s rest behind : List ℕ} → 0 < k → k < 2 ^ 32 → Protos m t i b s k rest → Found Any (Lit (codes "static void f")) rest tt behind → is_last k (first behind) ≡ z
    → Leads (Prototyped m t i b 1) s (λ fs. fs) (PrototypedBy m t i b k z) behind
protos_by m t i b k z {s} {rest} {behind} l h g x e = leads_within (within_prototype m t i b k z behind l h e) (leads_bind (joint_static m t i b k) (leads_within (within_static m t i b k rest l h) g) x)

pub static_shorter : {s rest : List ℕ} → Found Any (Lit (codes "static void f")) s tt rest → length rest < length s
static_shorter {s} {rest} f = let e = ap length (f.here ∙ ap (λ x. x ++ rest) f.is) in omega (arith, e)

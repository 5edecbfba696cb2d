-- The lines before the first function, one by one: what they declare, and what they are refused for.
use Rattle.std.proofs.Common.{◌≡◌, ℕ, zero, suc, ◌+◌, ◌≤◌, ◌<◌, ◌⊎◌, inl, inr, List, [], ◌∷◌, ◌++◌, ℤ, Option, Some, None, refl, sym, ap, ◌∙◌, subst, length, drop, get_or, map, append_assoc, arith}
use Rattle.std.specs.Prelude.{Contains}
use Rattle.std.specs.List.{slice_get}
use Rattle.std.proofs.lemmas.List.{at_drop_more, at_drop_all}
use Rattle.aplc_lex.specs.Tokens.{refusal}
use Rattle.aplc_lex.specs.declared.token.Refusal.{Refusal}
use Rattle.aplc_syntax.specs.declared.tree.Var.{Var}
use Rattle.aplc_syntax.specs.declared.layout.Row.{Row as HeldRow}
use Rattle.aplc_syntax.specs.declared.word.Word.{Word}
use Rattle.aplc_syntax.specs.Layout.{Row, Declaration, nothing, origin, var, placed, declaration, declaration_in}
use Rattle.aplc_syntax.specs.Programs.{IsOrigin, Declare}
use Rattle.aplc_syntax.specs.Refusals.{BeginsAt, DeclaresOrigin, bad_declaration}
use Rattle.aplc_syntax.specs.Held.{row_of}
use Rattle.aplc_lex.specs.Firsts.{earlier, IsFirstOf}
use Rattle.aplc_syntax.specs.Causes.{at_first, said_cause, origin_next, vars_next, OfRows, DeclareFrom, CoversRows}
use Rattle.aplc_syntax.specs.Noted.{origin_or}
use Rattle.aplc_lex.proofs.Order.{either_first, earlier_through, none_first, none_second}
use Rattle.aplc_syntax.proofs.Firsts.{best_of}

-- ---- Lines without words

some_none : {A : Type 0} (x : A) → (let z : Option A = Some x in z) ≡ None → ⊥
some_none x e = cc

same : {A : Type 0} (x y : A) → (let z : Option A = Some x in z) ≡ Some y → x ≡ y
same x y e = cc

no_first : (n : ℕ) (ws : List Word) → at_first n ws ≡ None → ws ≡ []
no_first n [] e = refl
no_first n (x ∷ ws) e = absurd (some_none _ e)

bare_says : (ns : List (List ℕ)) (x : Row) (d : Option Declaration) → declaration ns x ≡ d → at_first bad_declaration x.words ≡ None → d ≡ Some nothing
bare_says ns x d e f = sym e ∙ ap (λ (ws : List Word). declaration_in ns (map placed ws)) (no_first bad_declaration x.words f)

not_nothing : (w : ℤ) → (let z : Option Declaration = Some (origin w) in z) ≡ Some nothing → ⊥
not_nothing w e = cc

-- ---- What a line adds

abbrev pub Adds : List (List ℕ) → Option ℤ → Row → List Row → ℤ → List Var → List Var → Option Declaration → Type 0
Adds ns o x rest v xs vars d = (more : List Var) × DeclareFrom ns o (x ∷ rest) v more × (vars_next xs d ++ vars ≡ xs ++ more)

plain_next : (o : Option ℤ) → origin_next o (Some nothing) ≡ o
plain_next None = refl
plain_next (Some v) = refl

var_next : (o : Option ℤ) (y : Var) → origin_next o (Some (var y)) ≡ o
var_next None y = refl
var_next (Some v) y = refl

pub adds : (ns : List (List ℕ)) (o : Option ℤ) (x : Row) (rest : List Row) (v : ℤ) (xs vars : List Var) (d : Option Declaration) → declaration ns x ≡ d → said_cause o d x.words ≡ None → DeclareFrom ns (origin_next o d) rest v vars → Adds ns o x rest v xs vars d
adds ns o x rest v xs vars None e c s = absurd (some_none nothing (sym (bare_says ns x None e c)))
adds ns o x rest v xs vars (Some nothing) e c s =
    let t : DeclareFrom ns o rest v vars = subst (λ (z : Option ℤ). DeclareFrom ns z rest v vars) (plain_next o) s in
    (vars, record { said = nothing ∷ t.said; declared = (e, t.declared); origin = t.origin; named = t.named }, refl)
adds ns o x rest v xs vars (Some (var y)) e c s =
    let t : DeclareFrom ns o rest v vars = subst (λ (z : Option ℤ). DeclareFrom ns z rest v vars) (var_next o y) s in
    (y ∷ vars, record { said = var y ∷ t.said; declared = (e, t.declared); origin = t.origin; named = ap (λ (zs : List Var). y ∷ zs) t.named }, append_assoc xs (y ∷ []) vars)
adds ns None x rest v xs vars (Some (origin w)) e c s =
    (vars, record { said = origin w ∷ s.said; declared = (e, s.declared); origin = subst (λ (zs : List ℤ). IsOrigin (w ∷ zs) v) (sym (s.origin).0) (s.origin).1; named = s.named }, refl)
adds ns (Some u) x rest v xs vars (Some (origin w)) e c s = absurd (not_nothing w (bare_says ns x (Some (origin w)) e c))

-- ---- The loop

pub rows_start : (ns : List (List ℕ)) (whole : List Row) (xs : List Var) → xs ≡ [] → CoversRows ns whole whole None None xs
rows_start ns whole xs i = subst (λ (zs : List Var). CoversRows ns whole whole None None zs) (sym i) (record { first = start; said = λ e v vars s. s })
  where
    start : (c : Option Refusal) → IsFirstOf (OfRows ns None whole) c → IsFirstOf (OfRows ns None whole) (earlier None c)
    start None h = h
    start (Some r) h = h

rows_one : (ns : List (List ℕ)) (whole : List Row) (x : Row) (rest : List Row) (a b : Option Refusal) (o q : Option ℤ) (xs ys : List Var) → b ≡ earlier a (said_cause o (declaration ns x) x.words) → q ≡ origin_next o (declaration ns x) → ys ≡ vars_next xs (declaration ns x)
    → CoversRows ns whole (x ∷ rest) a o xs → CoversRows ns whole rest b q ys
rows_one ns whole x rest a b o q xs ys e f g h =
    let k : Option Refusal = said_cause o (declaration ns x) x.words in record {
      first = λ c s. subst (λ (z : Option Refusal). IsFirstOf (OfRows ns None whole) z) (earlier_through a k c ∙ ap (λ (z : Option Refusal). earlier z c) (sym e))
          (h.first (earlier k c) (either_first (λ r. k ≡ Some r) (OfRows ns (origin_next o (declaration ns x)) rest) k c (best_of k) (subst (λ (z : Option ℤ). IsFirstOf (OfRows ns z rest) c) f s)));
      said = λ n v vars s. (let t = adds ns o x rest v xs vars (declaration ns x) refl (none_second a k (sym e ∙ n)) (subst (λ (z : Option ℤ). DeclareFrom ns z rest v vars) f s) in
          subst (λ (z : List Var). DeclareFrom ns None whole v z) (sym (ap (λ (z : List Var). z ++ vars) g ∙ t.2)) (h.said (none_first a k (sym e ∙ n)) v t.0 t.1));
    }

pub rows_more : (ns : List (List ℕ)) (rows : List HeldRow) (i : ℕ) (x : HeldRow) (a b : Option Refusal) (o q : Option ℤ) (xs ys : List Var) → i < length rows → x ≡ get_or rows i x
    → b ≡ earlier a (said_cause o (declaration ns (row_of x)) x.words) → q ≡ origin_next o (declaration ns (row_of x)) → ys ≡ vars_next xs (declaration ns (row_of x))
    → CoversRows ns (map row_of rows) (map row_of (drop i rows)) a o xs → CoversRows ns (map row_of rows) (map row_of (drop (i + 1) rows)) b q ys
rows_more ns rows i x a b o q xs ys l e f g k h = rows_one ns (map row_of rows) (row_of x) (map row_of (drop (i + 1) rows)) a b o q xs ys f g k
    (subst (λ (z : List HeldRow). CoversRows ns (map row_of rows) (map row_of z) a o xs) (at_drop_more (λ (z : List HeldRow). z) rows i x l ∙ ap (λ (y : HeldRow). y ∷ drop (i + 1) rows) (sym e)) h)

ended : (ns : List (List ℕ)) (o : Option ℤ) → DeclareFrom ns o [] (origin_or o) []
ended ns None = record { said = []; declared = tt; origin = refl; named = refl }
ended ns (Some v) = record { said = []; declared = tt; origin = (refl, refl); named = refl }

pub rows_end : (ns : List (List ℕ)) (rows : List HeldRow) (i : ℕ) (a : Option Refusal) (o : Option ℤ) (xs : List Var) → length rows ≤ i → CoversRows ns (map row_of rows) (map row_of (drop i rows)) a o xs
    → IsFirstOf (OfRows ns None (map row_of rows)) a × (a ≡ None → DeclareFrom ns None (map row_of rows) (origin_or o) xs)
rows_end ns rows i a o xs l h =
    let g : CoversRows ns (map row_of rows) [] a o xs = subst (λ (z : List HeldRow). CoversRows ns (map row_of rows) (map row_of z) a o xs) (at_drop_all (λ (z : List HeldRow). z) rows i l) h in
    (g.first None (λ r z. z), λ e. subst (λ (z : List Var). DeclareFrom ns None (map row_of rows) (origin_or o) z) (nil xs) (g.said e (origin_or o) [] (ended ns o)))
  where
    nil : (zs : List Var) → zs ++ [] ≡ zs
    nil [] = refl
    nil (z ∷ zs) = ap (λ (ws : List Var). z ∷ ws) (nil zs)

pub declare : (ns : List (List ℕ)) (rs : List Row) (v : ℤ) (xs : List Var) → DeclareFrom ns None rs v xs → Declare ns rs v xs
declare ns rs v xs h = record { said = h.said; declared = h.declared; origin = h.origin; named = h.named }

-- ---- Refusals of lines by their places

first_at : (n p : ℕ) (x : Row) → BeginsAt x p → at_first n x.words ≡ Some (refusal n p)
first_at n p x (y, ws, e, f) = ap (at_first n) e ∙ ap (λ (q : ℕ). let z : Option Refusal = Some (refusal n q) in z) (sym f)

pub begins : (n : ℕ) (x : Row) (r : Refusal) → at_first n x.words ≡ Some r → (p : ℕ) × BeginsAt x p × (r ≡ refusal n p)
begins n x r e = at x.words refl e
  where
    none : (s : Refusal) → (let z : Option Refusal = None in z) ≡ Some s → ⊥
    none s f = cc

    at : (ws : List Word) → x.words ≡ ws → at_first n ws ≡ Some r → (p : ℕ) × BeginsAt x p × (r ≡ refusal n p)
    at [] g f = absurd (none r f)
    at (y ∷ ws) g f = (y.place, (y, ws, g, refl), sym (same _ _ f))

pub undeclared_in : (ns : List (List ℕ)) (o : Option ℤ) (rows : List Row) (x : Row) (p k : ℕ) → k < length rows → get_or rows k x ≡ x → declaration ns x ≡ None → BeginsAt x p → OfRows ns o rows (refusal bad_declaration p)
undeclared_in ns o [] x p k l e d b = absurd (omega arith)
undeclared_in ns o (y ∷ ys) x p zero l e d b = inl (ap (λ (z : Row). said_cause o (declaration ns z) z.words) e ∙ ap (λ (z : Option Declaration). said_cause o z x.words) d ∙ first_at bad_declaration p x b)
undeclared_in ns o (y ∷ ys) x p (suc k) l e d b = inr (undeclared_in ns (origin_next o (declaration ns y)) ys x p k (omega arith) e d b)

got_some : (y x : Row) → (let z : Option Row = Some y in z) ≡ Some x → y ≡ x
got_some y x e = cc

got_none : (x : Row) → (let z : Option Row = None in z) ≡ Some x → ⊥
got_none x e = cc

second_in : (ns : List (List ℕ)) (v : ℤ) (rows : List Row) (x : Row) (p k : ℕ) → slice_get rows k ≡ Some x → DeclaresOrigin ns x → BeginsAt x p → OfRows ns (Some v) rows (refusal bad_declaration p)
second_in ns v [] x p k e d b = absurd (got_none x e)
second_in ns v (y ∷ ys) x p zero e d b = inl (ap (λ (z : Row). said_cause (Some v) (declaration ns z) z.words) (got_some y x e) ∙ ap (λ (z : Option Declaration). said_cause (Some v) z x.words) d.1 ∙ first_at bad_declaration p x b)
second_in ns v (y ∷ ys) x p (suc k) e d b = inr (second_in ns v ys x p k e d b)

known_next : (o : Option ℤ) (w : ℤ) → (v : ℤ) × (origin_next o (Some (origin w)) ≡ Some v)
known_next None w = (w, refl)
known_next (Some v) w = (v, refl)

pub pair_in : (ns : List (List ℕ)) (o : Option ℤ) (rows : List Row) (i j : ℕ) (q x : Row) (p : ℕ) → i < j → slice_get rows i ≡ Some q → slice_get rows j ≡ Some x → DeclaresOrigin ns q → DeclaresOrigin ns x → BeginsAt x p → OfRows ns o rows (refusal bad_declaration p)
pair_in ns o [] i j q x p l e f c d b = absurd (got_none q e)
pair_in ns o (y ∷ ys) i zero q x p l e f c d b = absurd (omega arith)
pair_in ns o (y ∷ ys) zero (suc j) q x p l e f c d b =
    let n = known_next o c.0 in let g : origin_next o (declaration ns y) ≡ Some n.0 = ap (λ (z : Row). origin_next o (declaration ns z)) (got_some y q e) ∙ ap (origin_next o) c.1 ∙ n.1 in
    inr (subst (λ (z : Option ℤ). OfRows ns z ys (refusal bad_declaration p)) (sym g) (second_in ns n.0 ys x p j f d b))
pair_in ns o (y ∷ ys) (suc i) (suc j) q x p l e f c d b = inr (pair_in ns (origin_next o (declaration ns y)) ys i j q x p (omega arith) e f c d b)

-- a line that is none
pub record IsUndeclared (ns : List (List ℕ)) (rows : List Row) (r : Refusal) : Type 0 where
  pub row : Row
  pub place : ℕ
  pub inside : Contains rows row
  pub none : declaration ns row ≡ None
  pub begins : BeginsAt row place
  pub is : r ≡ refusal bad_declaration place

-- a line that declares an origin
pub record IsOriginAt (ns : List (List ℕ)) (rows : List Row) (r : Refusal) : Type 0 where
  pub row : Row
  pub at : ℕ
  pub place : ℕ
  pub got : slice_get rows at ≡ Some row
  pub says : DeclaresOrigin ns row
  pub begins : BeginsAt row place
  pub is : r ≡ refusal bad_declaration place

-- the same behind another
pub record IsSecond (ns : List (List ℕ)) (rows : List Row) (r : Refusal) : Type 0 where
  pub second : IsOriginAt ns rows r
  pub row : Row
  pub at : ℕ
  pub before : at < second.at
  pub got : slice_get rows at ≡ Some row
  pub says : DeclaresOrigin ns row

abbrev Found : List (List ℕ) → Option ℤ → List Row → Refusal → Type 0
Found ns o rows r = IsUndeclared ns rows r ⊎ (((v : ℤ) × (o ≡ Some v) × IsOriginAt ns rows r) ⊎ IsSecond ns rows r)

no_cause : (r : Refusal) → (let z : Option Refusal = None in z) ≡ Some r → ⊥
no_cause r e = cc

found_here : (ns : List (List ℕ)) (o : Option ℤ) (x : Row) (rest : List Row) (r : Refusal) (d : Option Declaration) → declaration ns x ≡ d → said_cause o d x.words ≡ Some r → Found ns o (x ∷ rest) r
found_here ns o x rest r None e c = let b = begins bad_declaration x r c in inl (record { row = x; place = b.0; inside = (0, omega arith, refl); none = e; begins = b.1; is = b.2 })
found_here ns (Some v) x rest r (Some (origin w)) e c = let b = begins bad_declaration x r c in inr (inl (v, refl, record { row = x; at = 0; place = b.0; got = refl; says = (w, e); begins = b.1; is = b.2 }))
found_here ns None x rest r (Some (origin w)) e c = absurd (no_cause r c)
found_here ns None x rest r (Some nothing) e c = absurd (no_cause r c)
found_here ns (Some v) x rest r (Some nothing) e c = absurd (no_cause r c)
found_here ns None x rest r (Some (var y)) e c = absurd (no_cause r c)
found_here ns (Some v) x rest r (Some (var y)) e c = absurd (no_cause r c)

abbrev later_origin : (ns : List (List ℕ)) (x : Row) (rest : List Row) (r : Refusal) → IsOriginAt ns rest r → IsOriginAt ns (x ∷ rest) r
later_origin ns x rest r h = record { row = h.row; at = suc h.at; place = h.place; got = h.got; says = h.says; begins = h.begins; is = h.is }

declared_next : (d : Option Declaration) (v : ℤ) → origin_next None d ≡ Some v → (w : ℤ) × (d ≡ Some (origin w))
declared_next None v e = absurd (none v e)
  where
    none : (s : ℤ) → (let z : Option ℤ = None in z) ≡ Some s → ⊥
    none s f = cc
declared_next (Some nothing) v e = absurd (none v e)
  where
    none : (s : ℤ) → (let z : Option ℤ = None in z) ≡ Some s → ⊥
    none s f = cc
declared_next (Some (var y)) v e = absurd (none v e)
  where
    none : (s : ℤ) → (let z : Option ℤ = None in z) ≡ Some s → ⊥
    none s f = cc
declared_next (Some (origin w)) v e = (w, refl)

found_later : (ns : List (List ℕ)) (o : Option ℤ) (x : Row) (rest : List Row) (r : Refusal) → Found ns (origin_next o (declaration ns x)) rest r → Found ns o (x ∷ rest) r
found_later ns o x rest r (inl h) = inl (record { row = h.row; place = h.place; inside = (suc (h.inside).0, (let l = (h.inside).1 in omega arith), (h.inside).2); none = h.none; begins = h.begins; is = h.is })
found_later ns o x rest r (inr (inr h)) = inr (inr (record { second = later_origin ns x rest r h.second; row = h.row; at = suc h.at; before = (let l = h.before in omega arith); got = h.got; says = h.says }))
found_later ns (Some u) x rest r (inr (inl h)) = inr (inl (u, refl, later_origin ns x rest r h.2))
found_later ns None x rest r (inr (inl h)) = inr (inr (record { second = later_origin ns x rest r h.2; row = x; at = 0; before = omega arith; got = refl; says = declared_next (declaration ns x) h.0 h.1 }))

found : (ns : List (List ℕ)) (o : Option ℤ) (rows : List Row) (r : Refusal) → OfRows ns o rows r → Found ns o rows r
found ns o [] r h = absurd h
found ns o (x ∷ rest) r h = elim h as (λ z. Found ns o (x ∷ rest) r) [ inl e ↦ found_here ns o x rest r (declaration ns x) refl e | inr e ↦ found_later ns o x rest r (found ns (origin_next o (declaration ns x)) rest r e) ]

pub found_first : (ns : List (List ℕ)) (rows : List Row) (r : Refusal) → OfRows ns None rows r → IsUndeclared ns rows r ⊎ IsSecond ns rows r
found_first ns rows r h = elim (found ns None rows r h) as (λ z. IsUndeclared ns rows r ⊎ IsSecond ns rows r) [ inl a ↦ inl a | inr a ↦ elim a as (λ z. IsUndeclared ns rows r ⊎ IsSecond ns rows r) [ inl b ↦ absurd (none b.0 b.1) | inr b ↦ inr b ] ]
  where
    none : (s : ℤ) → (let z : Option ℤ = None in z) ≡ Some s → ⊥
    none s f = cc

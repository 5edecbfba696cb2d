-- Constant tables, taken apart and put together.
use Rattle.std.proofs.Common.{◌≡◌, ◌∙◌, ap, ap₂, sym, refl, subst, ℕ, zero, suc, ◌-◌, ◌<◌, ◌≤◌, ◌^◌, List, [], ◌∷◌, ◌++◌, append_assoc, codes, decimal, ℤ, pos, negsuc, Some, Bool, true, false, ◌&&◌, cond, IsTrue, nat_lt, arith, length}
use Rattle.std.proofs.Common.{w64, to_z, of_z, SFits, ◌-ℤ◌}
use Rattle.std.proofs.lemmas.Int.{to_z-of_z}
use Rattle.std.proofs.lemmas.Bool.Decides.{nat_tests}
use Rattle.std.proofs.lemmas.List.{append-nil}
use Rattle.std.specs.Borrow.{Bor}
use Rattle.std.specs.Fmt.{signed_decimal}
use Rattle.std.specs.Prelude.{Result}
use Rattle.aplc_scalar.specs.Scalar.{in_range}
use Rattle.aplc_cprof.specs.Text.{more_numbers, numbers_text}
use Rattle.aplc_cprof.specs.WellFormed.{all_in_range}
use Rattle.aplc_cread.specs.Reading.{first, Found, Any, NoDigit, is_digit, Bind, Lit, Halts, Reads, Map, After}
use Rattle.aplc_cread.specs.Ranges.{Ranged}
use Rattle.aplc_cread.specs.Leading.{Leads}
use Rattle.aplc_cread.specs.Listings.{numbered}
use Rattle.aplc_cread.specs.Tables.{Integer, is_minus, minus, IntegerBy, Cells, MoreCells, Table}
use Rattle.aplc_cread.specs.declared.lexical.Halt.{Halt}
use Rattle.aplc_cread.proofs.Rules.{Within, Some_of, same, Joint, joint_lit, some_bind, some_map, some_lit, bind_at, lit_at, map_at}
use Rattle.aplc_cread.proofs.Leads.{leads_start, leads_bind, leads_map, leads_as, leads_within, leads_first, leads_halts}
use Rattle.aplc_cread.proofs.Numbers.{decimal_first, digit_range}
use Rattle.aplc_cread.proofs.Exprs.{both, and_both, lt_of, of_lt, pos_of}

-- ---- Numbers with a sign

range_pos : (n : ℕ) → in_range (pos n) ≡ nat_lt n (2 ^ 63)
unfolding in_range
range_pos n = refl

range_negsuc : (n : ℕ) → in_range (negsuc n) ≡ nat_lt (suc n) (2 ^ 63)
unfolding in_range
range_negsuc n = refl

no_minus : (c : ℕ) → is_digit c ≡ true → is_minus (Some c) ≡ false
no_minus c h = let r = digit_range c h in let l = r.0 in grind (arith, nat_tests)

abbrev Signed : ℤ → List ℕ → List ℕ → Type 0
Signed x w k = (b : Bool) × (IntegerBy b x w × (is_minus (first (w ++ k)) ≡ b))

signed : (x : ℤ) (w k : List ℕ) → Integer x w → Signed x w k
signed (pos n) w k m =
    let l = lt_of n (2 ^ 63) (subst IsTrue (range_pos n) m.range) in
    let d = decimal_first n k (omega (arith, l)) in
    (false, (record { part = n; is = refl; of = record { below = l; text = m.text } }, ap (λ x. is_minus (first (x ++ k))) m.text ∙ ap is_minus d.1 ∙ no_minus d.0 d.2))
signed (negsuc n) w k m =
    let l = lt_of (suc n) (2 ^ 63) (subst IsTrue (range_negsuc n) m.range) in
    let P : List ℕ → Type 0 = λ w. IntegerBy true (negsuc n) w in
    (true, (subst P (sym m.text) (lit_at (decimal (suc n)) (record { part = suc n; is = ap (λ n. negsuc n) (let e : n ≡ suc n - 1 = omega arith in e); of = record { above = omega arith; below = l; text = refl } })), ap (λ x. is_minus (first (x ++ k))) m.text))

integer_of : (b : Bool) (x : ℤ) (w : List ℕ) → IntegerBy b x w → Integer x w
integer_of true x w m =
    let r = m.goes_on in let n = r.part in let a = r.of.above in let l = r.of.below in
    let e : suc (n - 1) ≡ n = omega (arith, a) in
    record {
      range = subst (λ x. IsTrue (in_range x)) (sym r.is) (subst IsTrue (sym (range_negsuc (n - 1))) (of_lt (suc (n - 1)) (2 ^ 63) (omega (arith, e, l))));
      text = m.whole ∙ ap₂ (λ x y. x ++ y) m.begins (r.of.text ∙ ap decimal (sym e)) ∙ ap signed_decimal (sym r.is);
    }
integer_of false x w m = record {
  range = subst (λ x. IsTrue (in_range x)) (sym m.is) (subst IsTrue (sym (range_pos m.part)) (of_lt m.part (2 ^ 63) m.of.below));
  text = m.of.text ∙ ap signed_decimal (sym m.is);
}

pub within_integer : (c : Bool) (s : List ℕ) → is_minus (first s) ≡ c → Within s (IntegerBy c) Integer
within_integer c s f = record {
  into = λ x w m. integer_of c x w m;
  from = λ x w k m h. let z = signed x w k m in subst (λ b. IntegerBy b x w) (sym z.1.1 ∙ ap is_minus h ∙ f) z.1.0;
}

pub minus_of : (n : ℕ) → 1 ≤ n → n < 2 ^ 63 → to_z w64 (of_z w64 (pos 0 -ℤ to_z w64 n)) ≡ minus n
minus_of zero a l = absurd (omega (arith, a))
minus_of (suc n) a l = ap (λ z. to_z w64 (of_z w64 (pos 0 -ℤ z))) (pos_of (suc n) l) ∙ ap (λ z. to_z w64 (of_z w64 z)) below ∙ to_z-of_z w64 (minus (suc n)) fits
  where
    test : nat_lt 0 (suc n) ≡ true
    test = grind (arith, nat_tests)

    below : pos 0 -ℤ pos (suc n) ≡ minus (suc n)
    below = ap (λ b. cond b (negsuc (suc n - 1)) (pos (0 - suc n))) test

    fits : SFits w64 (minus (suc n))
    fits = let e : suc (suc n - 1) ≡ suc n = omega arith in record { sfits = omega (arith, e, l) }

pub some_ranged : (n : ℕ) → 0 < n → Some_of (Ranged 1 (2 ^ 63))
some_ranged n l = (1, (decimal 1, record { above = omega arith; below = omega arith; text = refl }))

pub joint_minus : Joint Any (Lit (codes "-")) NoDigit (λ u. Map minus (Ranged 1 (2 ^ 63)))
joint_minus = joint_lit (some_map minus (some_ranged 1 (omega arith)))

some_integer : Some_of Integer
some_integer = (pos 0, (signed_decimal (pos 0), record { range = subst IsTrue (sym (range_pos 0)) refl; text = refl }))

-- ---- Numbers of a table

zeros : (n : ℕ) → (xs : List ℤ) × (length xs ≡ n) × IsTrue (all_in_range xs)
zeros zero = ([], refl, refl)
zeros (suc n) = let r = zeros n in (pos 0 ∷ r.0, ap suc r.1, and_both (in_range (pos 0)) (all_in_range r.0) (subst IsTrue (sym (range_pos 0)) refl) r.2)

pub some_more : (n : ℕ) → Some_of (MoreCells n)
some_more n = let z = zeros n in (z.0, (more_numbers z.0 ++ codes "};\n", record { many = z.1; range = z.2; text = refl }))

abbrev pub NextCells : ℕ → List ℤ → List ℕ → Type 0
NextCells n = Bind Integer (λ x. Map (λ xs. x ∷ xs) (MoreCells (n - 1)))

more_pieces : (x : ℤ) (xs : List ℤ) → more_numbers (x ∷ xs) ++ codes "};\n" ≡ codes ", " ++ (signed_decimal x ++ (more_numbers xs ++ codes "};\n"))
more_pieces x xs = regroup (signed_decimal x) (more_numbers xs)
  where
    regroup : (a b : List ℕ) → (codes ", " ++ a ++ b) ++ codes "};\n" ≡ codes ", " ++ (a ++ (b ++ codes "};\n"))
    regroup a b = simp append_assoc

pub within_more : (n : ℕ) (s : List ℕ) → 0 < n → Within s (After (codes ", ") (NextCells n)) (MoreCells n)
within_more n s l = same (λ xs w m. into xs w m) (λ xs w m. from xs w m)
  where
    into : (xs : List ℤ) (w : List ℕ) → After (codes ", ") (NextCells n) xs w → MoreCells n xs w
    into xs w m =
        let r = m.goes_on in let t = r.goes_on in record {
          many = let q = t.of.many in omega (arith, ap length t.is, q, l);
          range = subst (λ x. IsTrue (all_in_range x)) (sym t.is) (and_both (in_range r.part) (all_in_range t.part) r.begins.range t.of.range);
          text = m.whole ∙ ap₂ (λ x y. x ++ y) m.begins (r.whole ∙ ap₂ (λ x y. x ++ y) r.begins.text t.of.text) ∙ sym (more_pieces r.part t.part) ∙ ap (λ x. more_numbers x ++ codes "};\n") (sym t.is);
        }

    from : (xs : List ℤ) (w : List ℕ) → MoreCells n xs w → After (codes ", ") (NextCells n) xs w
    from [] w m = absurd (let q = m.many in omega (arith, q, l))
    from (x ∷ xs) w m =
        let f = both (in_range x) (all_in_range xs) m.range in
        let P : List ℕ → Type 0 = λ w. After (codes ", ") (NextCells n) (x ∷ xs) w in
        subst P (sym (m.text ∙ more_pieces x xs)) (lit_at (signed_decimal x ++ (more_numbers xs ++ codes "};\n")) (bind_at x (signed_decimal x) (more_numbers xs ++ codes "};\n") (record { range = f.0; text = refl })
        (map_at (λ xs. x ∷ xs) xs (record { many = let q = m.many in omega (arith, q); range = f.1; text = refl }))))

pub within_last : (n : ℕ) (s : List ℕ) → n ≡ 0 → Within s (Map (λ (u : Unit {0}). []) (Lit (codes "};\n"))) (MoreCells n)
within_last n s e = same
    (λ xs w m. record { many = ap length m.is ∙ sym e; range = subst (λ x. IsTrue (all_in_range x)) (sym m.is) refl; text = m.of ∙ ap (λ x. more_numbers x ++ codes "};\n") (sym m.is) })
    (λ xs w m. from xs w m.many m.text)
  where
    from : (xs : List ℤ) (w : List ℕ) → length xs ≡ n → w ≡ more_numbers xs ++ codes "};\n" → Map (λ (u : Unit {0}). []) (Lit (codes "};\n")) xs w
    from [] w q t = record { part = tt; is = refl; of = t }
    from (x ∷ xs) w q t = absurd (omega (arith, q, e))

more_begins : (n : ℕ) (xs : List ℤ) (w k : List ℕ) → MoreCells n xs w → NoDigit (w ++ k)
more_begins n xs w k m = subst NoDigit (sym (ap (λ x. x ++ k) m.text)) (go xs)
  where
    go : (xs : List ℤ) → NoDigit ((more_numbers xs ++ codes "};\n") ++ k)
    go [] = refl
    go (x ∷ xs) = refl

pub joint_integer : (n : ℕ) → Joint NoDigit Integer Any (λ x. Map (λ xs. x ∷ xs) (MoreCells (n - 1)))
joint_integer n = record { follow = λ x xs w k m g. more_begins (n - 1) m.part w k m.of; some = λ x w m. some_map (λ xs. x ∷ xs) (some_more (n - 1)) }

pub some_next : (n : ℕ) → Some_of (NextCells n)
some_next n = some_bind some_integer (λ x. some_map (λ xs. x ∷ xs) (some_more (n - 1)))

pub joint_comma : (n : ℕ) → Joint Any (Lit (codes ", ")) Any (λ u. NextCells n)
joint_comma n = joint_lit (some_next n)

-- ---- How the loop goes

abbrev pub BeforeCells : List ℤ → ℕ → List ℤ → List ℕ → Type 0
BeforeCells before n = Map (λ xs. before ++ xs) (MoreCells n)

abbrev pub CellsOn : List ℤ → ℕ → List ℕ → List ℤ → ℕ → List ℕ → Type 0
CellsOn before n s done left rest = Leads (BeforeCells before n) s (λ xs. done ++ xs) (MoreCells left) rest

pub cells_start : (before : List ℤ) (n : ℕ) (s : List ℕ) → CellsOn before n s before n s
cells_start before n s = leads_map (λ xs. before ++ xs) (leads_start (BeforeCells before n) s)

pub cells_comma : (before : List ℤ) (n : ℕ) (done : List ℤ) (left : ℕ) {s rest : List ℕ} {h : Halt} → 0 < left → CellsOn before n s done left rest → Halts Any (Lit (codes ", ")) rest h → Halts Any (BeforeCells before n) s h
cells_comma before n done left {s} {rest} l g f = leads_first (joint_comma left) (leads_within (within_more left rest l) g) f

pub cells_integer : (before : List ℤ) (n : ℕ) (done : List ℤ) (left : ℕ) {s rest behind : List ℕ} {h : Halt} → 0 < left → CellsOn before n s done left rest → Found Any (Lit (codes ", ")) rest tt behind → Halts NoDigit Integer behind h
    → Halts Any (BeforeCells before n) s h
cells_integer before n done left {s} {rest} l g f x = leads_first (joint_integer left) (leads_bind (joint_comma left) (leads_within (within_more left rest l) g) f) x

pub cells_next : (before : List ℤ) (n : ℕ) (done : List ℤ) (left : ℕ) {s rest behind next : List ℕ} {x : ℤ} → 0 < left → CellsOn before n s done left rest → Found Any (Lit (codes ", ")) rest tt behind → Found NoDigit Integer behind x next
    → CellsOn before n s (done ++ x ∷ []) (left - 1) next
cells_next before n done left {s} {rest} {behind} {next} {x} l g f y =
    leads_as (λ xs. (done ++ x ∷ []) ++ xs) (λ xs. sym (append_assoc done (x ∷ []) xs))
    (leads_map (λ xs. x ∷ xs) (leads_bind (joint_integer left) (leads_bind (joint_comma left) (leads_within (within_more left rest l) g) f) y))

cells_last : (before : List ℤ) (n : ℕ) (done : List ℤ) (left : ℕ) {s rest : List ℕ} → left ≡ 0 → CellsOn before n s done left rest → Leads (BeforeCells before n) s (λ (u : Unit {0}). done ++ []) (Lit (codes "};\n")) rest
cells_last before n done left {s} {rest} e g = leads_map (λ (u : Unit {0}). []) (leads_within (within_last left rest e) g)

pub cells_halts : (before : List ℤ) (n : ℕ) (done : List ℤ) (left : ℕ) {s rest : List ℕ} {h : Halt} → left ≡ 0 → CellsOn before n s done left rest → Halts Any (Lit (codes "};\n")) rest h → Halts Any (BeforeCells before n) s h
cells_halts before n done left e g f = leads_halts (cells_last before n done left e g) f

pub cells_end : (before : List ℤ) (n : ℕ) (done : List ℤ) (left : ℕ) {s rest next : List ℕ} → left ≡ 0 → CellsOn before n s done left rest → Found Any (Lit (codes "};\n")) rest tt next → Found Any (BeforeCells before n) s done next
cells_end before n done left {s} {rest} {next} e g f = subst (λ x. Found Any (BeforeCells before n) s x next) (append-nil done) ((cells_last before n done left e g).found tt next f)

-- ---- Whole tables

pub within_cells : (n : ℕ) (s : List ℕ) → 0 < n → Within s (NextCells n) (Cells n)
within_cells n s l = same (λ xs w m. into xs w m) (λ xs w m. from xs w m)
  where
    into : (xs : List ℤ) (w : List ℕ) → NextCells n xs w → Cells n xs w
    into xs w r =
        let t = r.goes_on in record {
          many = let q = t.of.many in omega (arith, ap length t.is, q, l);
          range = subst (λ x. IsTrue (all_in_range x)) (sym t.is) (and_both (in_range r.part) (all_in_range t.part) r.begins.range t.of.range);
          text = r.whole ∙ ap₂ (λ x y. x ++ y) r.begins.text t.of.text ∙ sym (append_assoc (signed_decimal r.part) (more_numbers t.part) (codes "};\n")) ∙ ap (λ x. numbers_text x ++ codes "};\n") (sym t.is);
        }

    from : (xs : List ℤ) (w : List ℕ) → Cells n xs w → NextCells n xs w
    from [] w m = absurd (let q = m.many in omega (arith, q, l))
    from (x ∷ xs) w m =
        let f = both (in_range x) (all_in_range xs) m.range in
        let P : List ℕ → Type 0 = λ w. NextCells n (x ∷ xs) w in
        subst P (sym (m.text ∙ append_assoc (signed_decimal x) (more_numbers xs) (codes "};\n"))) (bind_at x (signed_decimal x) (more_numbers xs ++ codes "};\n") (record { range = f.0; text = refl })
        (map_at (λ xs. x ∷ xs) xs (record { many = let q = m.many in omega (arith, q); range = f.1; text = refl })))

pub next_reads : (n : ℕ) (next : List ℕ) {x : ℤ} (before : List ℤ) (r : Result (List ℤ × Bor (List ℕ)) Halt) → before ≡ x ∷ [] → Reads Any (BeforeCells before (n - 1)) next r → Reads Any (Map (λ xs. x ∷ xs) (MoreCells (n - 1))) next r
next_reads n next {x} before r e g = subst (λ b. Reads Any (BeforeCells b (n - 1)) next r) e g

pub some_cells : (n : ℕ) → 0 < n → Some_of (Cells n)
some_cells n l = let z = some_next n in (z.0, (z.1.0, (within_cells n [] l).into z.0 z.1.0 z.1.1))

abbrev pub Filled : ℕ → List ℤ → List ℕ → Type 0
Filled n = After (codes "] = {") (Cells n)

abbrev pub TableParts : ℕ → List ℤ → List ℕ → Type 0
TableParts k = Bind (Lit (numbered [] (codes "[") k)) (λ u. Bind (Ranged 1 (2 ^ 63)) Filled)

table_pieces : (a b c : List ℕ) → (a ++ codes "[") ++ (b ++ (codes "] = {" ++ c)) ≡ a ++ (codes "[" ++ (b ++ (codes "] = {" ++ c)))
table_pieces a b c = append_assoc a (codes "[") (b ++ (codes "] = {" ++ c))

pub within_table : (k : ℕ) (s : List ℕ) → Within s (TableParts k) (Table k)
within_table k s = same (λ xs w m. into xs w m) (λ xs w m. from xs w m)
  where
    into : (xs : List ℤ) (w : List ℕ) → TableParts k xs w → Table k xs w
    into xs w m =
        let r = m.goes_on in let t = r.goes_on in let q = t.goes_on.many in let a = r.begins.above in let l = r.begins.below in record {
          fits = and_both (nat_lt 0 (length xs) && nat_lt (length xs) (2 ^ 63)) (all_in_range xs) (and_both (nat_lt 0 (length xs)) (nat_lt (length xs) (2 ^ 63)) (of_lt 0 (length xs) (omega (arith, q, a))) (of_lt (length xs) (2 ^ 63) (omega (arith, q, l)))) t.goes_on.range;
          text = m.whole ∙ ap₂ (λ x y. x ++ y) m.begins (r.whole ∙ ap₂ (λ x y. x ++ y) (r.begins.text ∙ ap decimal (sym q)) (t.whole ∙ ap₂ (λ x y. x ++ y) t.begins t.goes_on.text)) ∙ table_pieces (decimal k) (decimal (length xs)) (numbers_text xs ++ codes "};\n");
        }

    from : (xs : List ℤ) (w : List ℕ) → Table k xs w → TableParts k xs w
    from xs w m =
        let f = both (nat_lt 0 (length xs) && nat_lt (length xs) (2 ^ 63)) (all_in_range xs) m.fits in
        let g = both (nat_lt 0 (length xs)) (nat_lt (length xs) (2 ^ 63)) f.0 in
        let a = lt_of 0 (length xs) g.0 in
        let cells = numbers_text xs ++ codes "};\n" in
        let P : List ℕ → Type 0 = λ w. TableParts k xs w in
        subst P (sym (m.text ∙ sym (table_pieces (decimal k) (decimal (length xs)) cells)))
        (lit_at (decimal (length xs) ++ (codes "] = {" ++ cells)) (bind_at (length xs) (decimal (length xs)) (codes "] = {" ++ cells) (record { above = omega (arith, a); below = lt_of (length xs) (2 ^ 63) g.1; text = refl })
        (lit_at cells (record { many = refl; range = f.1; text = refl }))))

-- a table of one number
one_cell : (k : ℕ) → Some_of (Table k) × Some_of (Bind (Ranged 1 (2 ^ 63)) Filled)
one_cell k =
    let c = some_cells 1 (omega arith) in
    let t = bind_at 1 (decimal 1) (codes "] = {" ++ c.1.0) (record { above = omega arith; below = omega arith; text = refl }) (lit_at c.1.0 c.1.1) in
    ((c.0, (numbered [] (codes "[") k ++ (decimal 1 ++ (codes "] = {" ++ c.1.0)), (within_table k []).into c.0 _ (lit_at (decimal 1 ++ (codes "] = {" ++ c.1.0)) t))), (c.0, (decimal 1 ++ (codes "] = {" ++ c.1.0), t)))

pub joint_named : (k : ℕ) → Joint Any (Lit (numbered [] (codes "[") k)) Any (λ u. Bind (Ranged 1 (2 ^ 63)) Filled)
joint_named k = joint_lit (one_cell k).1

pub joint_count : Joint NoDigit (Ranged 1 (2 ^ 63)) Any Filled
joint_count = record { follow = λ n xs w k m g. subst NoDigit (sym (ap (λ x. x ++ k) (m.whole ∙ ap (λ x. x ++ m.back) m.begins))) refl; some = λ n w m. some_lit (codes "] = {") (some_cells n m.above) }

pub joint_filled : (n : ℕ) → 0 < n → Joint Any (Lit (codes "] = {")) Any (λ u. Cells n)
joint_filled n l = joint_lit (some_cells n l)

pub some_table : (k : ℕ) → Some_of (Table k)
some_table k = (one_cell k).0

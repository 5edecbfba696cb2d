-- What the code of a scalar or a vector prints.
use Rattle.std.proofs.Common.{◌≡◌, ℕ, zero, suc, ◌+◌, ◌*◌, ◌<◌, List, [], ◌∷◌, ◌++◌, length, refl, sym, ap, ◌∙◌, subst, arith, ℤ, true}
use Rattle.std.proofs.Math.ListN as list
use Rattle.std.specs.Prelude.{Some, Ok, pos, negsuc, ◌^◌, slice_index_or, nat_le}
use Rattle.std.proofs.lemmas.Bool.Decides.{nat_tests}
use Rattle.std.proofs.lemmas.List.Elements.{All-get_or}
use Rattle.aplc_scalar.specs.declared.kind.Kind.{Kind}
use Rattle.aplc_scalar.specs.declared.kind.Kind.TheVariants.{Num, Char}
use Rattle.aplc_arr.specs.Arrays.{Array, IsArray, IsIndexOf, place, product, at, fill, is_cell, count_limit, lengths_fit}
use Rattle.aplc_arr.specs.Display.{shown}
use Rattle.aplc_arr.proofs.Places.{place-below}
use Rattle.aplc_arr.proofs.Basics.{and-parts}
use Rattle.aplc_cprof.specs.declared.syntax.Int.{Int}
use Rattle.aplc_cprof.specs.declared.syntax.Buf.{Buf}
use Rattle.aplc_cprof.specs.declared.syntax.CStmt.{CStmt}
use Rattle.aplc_cprof.specs.Blocks.{Blocks}
use Rattle.aplc_cprof.specs.WellFormed.{Scope}
use Rattle.aplc_cprof.specs.Machine.{State, Code, Is, is_scalar}
use Rattle.aplc_cprof.specs.Frames.{Stays, Hold}
use Rattle.aplc_cprof.specs.Emitted.{AreInts, AreBufs, IsFormed}
use Rattle.aplc_cprof.proofs.Paths.{Does, does_weaken}
use Rattle.aplc_cprof.proofs.Emitted.{fresh_declared, one_stmt, stmts_append, grown_then}
use Rattle.aplc_collect.specs.Elements.{Test, Steps, Computed, Failed, Emits}
use Rattle.aplc_collect.specs.ElementLaws.{value_is}
use Rattle.aplc_quad.specs.declared.printing.Columns.{Columns}
use Rattle.aplc_quad.specs.declared.printing.Columns.TheVariants.{Justified}
use Rattle.aplc_quad.specs.Rows.{justified_bytes, row_bytes, cell_of, listed}
use Rattle.aplc_quad.specs.Printing.{element_stmt, line_feed, with_code}
use Rattle.aplc_quad.specs.Printed.{NoFault, Puts, kind_of, bufs_of, AreOldColumns, Laid, Fits, IsCharacter, Stands, AreShort, Adds, row_steps, LinePuts}
use Rattle.aplc_quad.specs.Shows.{StandsFor, plain_columns, LineShows}
use Rattle.aplc_quad.proofs.Puts.{puts_steps, puts_then, quiet_then}
use Rattle.aplc_quad.proofs.Prints.{plain_does}
use Rattle.aplc_quad.proofs.Builds.{with_code_names, code_grown, adds_as}
use Rattle.aplc_quad.proofs.CodeRows.{no_fault, element_formed, feed_puts, feed_is_formed}
use Rattle.aplc_quad.proofs.Whole.{vector_shown}

-- ---- Arrays

pub short_lengths : (ns : List ℕ) → lengths_fit ns ≡ true → AreShort ns
short_lengths [] h = tt
short_lengths (n ∷ ns) h = let both = and-parts (nat_le n count_limit) (lengths_fit ns) h in (small both.0, short_lengths ns both.1)
  where
    small : nat_le n count_limit ≡ true → n < 2 ^ 31
    small e = grind (arith, nat_tests)

pub short_shape : (a : Array) → IsArray a → AreShort a.shape
short_shape a h = short_lengths a.shape (and-parts (lengths_fit a.shape) (nat_le (product a.shape) count_limit) h.fits).0

-- an element of an array, whatever stands beyond its last one
same_element : (xs : List ℤ) (i : ℕ) (d e : ℤ) → i < length xs → slice_index_or xs i d ≡ slice_index_or xs i e
same_element [] i d e lt = absurd (omega (arith, lt))
same_element (x ∷ xs) zero d e lt = refl
same_element (x ∷ xs) (suc i) d e lt = same_element xs i d e (omega (arith, lt))

pub at_is : (a : Array) (is : List ℕ) → IsArray a → IsIndexOf a.shape is → at a is ≡ cell_of a (place a.shape is)
at_is a is h inside = let lt = place-below a.shape is inside in same_element a.cells (place a.shape is) (fill a.kind) (pos 0) (omega (arith, lt, h.whole))

-- code stands for the elements by their places
pub stands_by_places : (test : Test) (steps : Steps) (tables : List (List ℤ)) (s : State) (a : Array) (k : ℕ) → IsArray a → StandsFor test steps tables s a k → Stands test steps tables s [] a.shape 0 k (cell_of a)
stands_by_places test steps tables s a k array h = record {
  takes = h.takes;
  items = λ is inside. h.items is inside ∙ ap (λ z. Some (Ok z)) (at_is a is array inside) ∙ ap (λ q. Some (Ok (cell_of a q))) (from_none (place a.shape is));
}
  where
    from_none : (q : ℕ) → q ≡ 0 + q
    from_none q = omega arith

is_character : (c : ℕ) → is_cell Char (pos c) ≡ true → is_scalar c ≡ true
is_character c e = grind (arith, nat_tests)

pub cell_is : (a : Array) (q : ℕ) → IsArray a → q < product a.shape → is_cell a.kind (cell_of a q) ≡ true
cell_is a q h lt = All-get_or (λ z. is_cell a.kind z ≡ true) a.cells q (pos 0) (omega (arith, lt, h.whole)) h.cells

character_of : (z : ℤ) → is_cell Char z ≡ true → IsCharacter z
character_of (pos n) e = (n, refl, is_character n e)
character_of (negsuc n) e = cc

fits_by_kind : (kind : Kind) (z : ℤ) → is_cell kind z ≡ true → Fits (plain_columns kind) 0 z
fits_by_kind Num z e = (refl, e)
fits_by_kind Char z e = (refl, character_of z e)

-- each element can be printed without a width
pub plain_fits : (a : Array) (kind : Kind) (q : ℕ) → IsArray a → a.kind ≡ kind → q < product a.shape → Fits (plain_columns kind) 0 (cell_of a q)
plain_fits a kind q h e lt = fits_by_kind kind (cell_of a q) (subst (λ k. is_cell k (cell_of a q) ≡ true) e (cell_is a q h lt))

pub kind_is : (kind : Kind) → kind_of (plain_columns kind) ≡ kind
kind_is Num = refl
kind_is Char = refl

pub no_laid : (kind : Kind) (s : State) (j w : ℕ) → Laid (plain_columns kind) s j w
no_laid Num s j w = tt
no_laid Char s j w = tt

pub plain_old : (columns : Columns) (kind : Kind) (m : ℕ) → columns ≡ plain_columns kind → AreOldColumns m columns
plain_old columns kind m e = subst (λ x. AreOldColumns m x) (sym e) (by kind)
  where
    by : (k : Kind) → AreOldColumns m (plain_columns k)
    by Num = tt
    by Char = tt

no_widths : (kind : Kind) (widths : Buf) → plain_columns kind ≡ Justified widths → ⊥
no_widths Num widths e = cc
no_widths Char widths e = cc

-- ---- Vectors

pub vector_shows : (c : Code) (n m : ℕ) (test : Test) (steps : Steps) (length : Int) (kind : Kind) (code : List CStmt) → LinePuts test steps [] length (plain_columns kind) c n m code → LineShows test steps (length ∷ []) kind c n m code
vector_shows c n m test steps length kind code runs s a k array ek held stands =
    by a.shape refl (subst (λ l. Hold s (length ∷ []) l) refl held)
  where
    once : (len : ℕ) → len ≡ len * 1
    once len = omega arith

    by : (ns : List ℕ) → a.shape ≡ ns → Hold s (length ∷ []) ns → Puts c n m (product a.shape * (k + 6) + 3) code s (shown a)
    by [] e h = absurd h
    by (len ∷ l ∷ ns) e h = absurd h.1
    by (len ∷ []) e h =
        let whole : len ≡ product a.shape = once len ∙ sym (ap product e) in
        let short : AreShort (len ∷ []) = subst AreShort e (short_shape a array) in
        let there = subst (λ l. Stands test steps c.tables s [] l 0 k (cell_of a)) e (stands_by_places test steps c.tables s a k array stands) in
        let flat : list.length a.shape < 2 = subst (λ l. list.length l < 2) (sym e) (omega arith) in
        subst (λ q. Puts c n m (q * (k + 6) + 3) code s (shown a)) whole
        (subst (λ text. Puts c n m (len * (k + 6) + 3) code s text)
        (ap (λ q. row_bytes q (listed []) (λ j. cell_of a (0 + j)) len ++ 10 ∷ []) (kind_is kind ∙ sym ek) ∙ vector_shown a len array flat whole)
        (puts_steps c n m (row_steps len k + 1) (len * (k + 6) + 3) code s (row_bytes (kind_of (plain_columns kind)) (listed []) (λ j. cell_of a (0 + j)) len ++ 10 ∷ []) (omega arith)
        (runs s [] len 0 k (listed []) (cell_of a) tt h.0 short.0 there (λ j lt. no_laid kind s j 0) (λ j lt. plain_fits a kind (0 + j) array ek (omega (arith, lt, whole))))))

-- ---- Scalars

pub scalar_shows : (c : Code) (n m : ℕ) (test : Test) (steps : Steps) (kind : Kind) (v column : Int) (em : List CStmt) → ((s : State) (z : ℤ) → test c.tables s [] ≡ Some (Ok z) → Does c (Stays n m s) (steps c.tables s) em s (Computed n m s v (Ok z)) (Failed n m s (Ok z))) → LineShows test steps [] kind c n m ((em ++ element_stmt (plain_columns kind) column v ∷ []) ++ line_feed ∷ [])
scalar_shows c n m test steps kind v column em runs s a k array ek held stands =
    by a.shape refl held
  where
    by : (ns : List ℕ) → a.shape ≡ ns → Hold s [] ns → Puts c n m (product a.shape * (k + 6) + 3) ((em ++ element_stmt (plain_columns kind) column v ∷ []) ++ line_feed ∷ []) s (shown a)
    by (x ∷ ns) e h = absurd h
    by [] e h =
        let whole : 1 ≡ product a.shape = sym (ap product e) in
        let z = cell_of a 0 in
        let there = subst (λ l. Stands test steps c.tables s [] l 0 k (cell_of a)) e (stands_by_places test steps c.tables s a k array stands) in
        let flat : list.length a.shape < 2 = subst (λ l. list.length l < 2) (sym e) (omega arith) in
        subst (λ q. Puts c n m (q * (k + 6) + 3) ((em ++ element_stmt (plain_columns kind) column v ∷ []) ++ line_feed ∷ []) s (shown a)) whole
        (subst (λ text. Puts c n m (1 * (k + 6) + 3) ((em ++ element_stmt (plain_columns kind) column v ∷ []) ++ line_feed ∷ []) s text)
        (ap (λ q. justified_bytes q 0 z ++ 10 ∷ []) (kind_is kind ∙ sym ek) ∙ vector_shown a 1 array flat whole)
        (puts_steps c n m ((k + 2) + 1) (1 * (k + 6) + 3) ((em ++ element_stmt (plain_columns kind) column v ∷ []) ++ line_feed ∷ []) s (justified_bytes (kind_of (plain_columns kind)) 0 z ++ 10 ∷ []) (omega arith)
        (puts_then c n m (k + 2) 1 (em ++ element_stmt (plain_columns kind) column v ∷ []) (line_feed ∷ []) s (justified_bytes (kind_of (plain_columns kind)) 0 z) (10 ∷ [])
        (quiet_then c n m k 2 em (element_stmt (plain_columns kind) column v ∷ []) s (Computed n m s v (Ok z)) (justified_bytes (kind_of (plain_columns kind)) 0 z)
        (does_weaken c (Stays n m s) (Stays n m s) (steps c.tables s) k em s (Computed n m s v (Ok z)) (Computed n m s v (Ok z)) (Failed n m s (Ok z)) NoFault (λ u q. q) (λ u q. q) (λ kind u d. no_fault z kind d.given) there.takes
        (runs s z (there.items [] tt)))
        (λ u d. d.stays)
        (λ u d. plain_does c n m (plain_columns kind) column v 0 z u (no_widths kind) (d.is ∙ ap Is (sym (value_is z d.value d.given))) (plain_fits a kind 0 array ek (omega (arith, whole)))))
        (λ t h. feed_puts c n m t))))

-- ---- Built

pub scalar_built : (test : Test) (steps : Steps) (g : Scope) (depth : ℕ) (b0 b1 b2 b3 : Blocks) (at : List Int) (kind : Kind) (columns : Columns) (v : Int) → columns ≡ plain_columns kind → at ≡ [] → Emits test steps g depth b0 b1 at v → b2 ≡ with_code (element_stmt columns v v ∷ []) b1 → b3 ≡ with_code (line_feed ∷ []) b2 → Adds g (3 + depth) b0 b3 [] [] (LineShows test steps [] kind)
scalar_built test steps g depth b0 b1 b2 b3 at kind columns v ec ea em e2 e3 = record {
  code = (em.code ++ element ∷ []) ++ line_feed ∷ [];
  grown = grown_then (em.code ++ element ∷ []) (line_feed ∷ []) b0 b2 b3 (grown_then em.code (element ∷ []) b0 b1 b2 em.grown (code_grown (element ∷ []) b1 b2 element_added)) (code_grown (line_feed ∷ []) b2 b3 e3);
  formed = formed_is;
  runs = λ c. scalar_shows c b0.ints b0.bufs test steps kind v v em.code (λ s z is. em.runs c s [] (Ok z) (subst (λ (l : List Int). Hold s l []) (sym ea) tt) is);
}
  where
    element : CStmt
    element = element_stmt (plain_columns kind) v v

    element_added : b2 ≡ with_code (element ∷ []) b1
    element_added = e2 ∙ ap (λ x. with_code (element_stmt x v v ∷ []) b1) ec

    names2 : (b2.ints ≡ b1.ints) × (b2.bufs ≡ b1.bufs)
    names2 = with_code_names (element ∷ []) b1 b2 element_added

    names3 : (b3.ints ≡ b2.ints) × (b3.bufs ≡ b2.bufs)
    names3 = with_code_names (line_feed ∷ []) b2 b3 e3

    no_bufs : (sc : Scope) (k : Kind) → AreBufs sc (bufs_of (plain_columns k))
    no_bufs sc Num = tt
    no_bufs sc Char = tt

    formed_is : IsFormed g [] [] b3 (3 + depth) ((em.code ++ element ∷ []) ++ line_feed ∷ [])
    formed_is sc room within are bufs more more_bufs le =
        let declared = fresh_declared sc b0.ints b1.ints v em.fresh (omega (arith, names2.0, names3.0, more)) in
        stmts_append sc (Some room) (em.code ++ element ∷ []) (line_feed ∷ [])
        (stmts_append sc (Some room) em.code (element ∷ [])
        (em.formed sc room within (subst (λ (l : List Int). AreInts sc l) (sym ea) tt) tt (omega (arith, names2.0, names3.0, more)) (omega (arith, names2.1, names3.1, more_bufs)) (omega (arith, le)))
        (one_stmt sc (Some room) element [] (element_formed sc (plain_columns kind) v v room (omega (arith, le)) declared declared (no_bufs sc kind)) refl))
        (feed_is_formed sc room)

pub vector_built : (test : Test) (steps : Steps) (g : Scope) (depth : ℕ) (b0 b1 : Blocks) (at : List Int) (length : Int) (kind : Kind) (columns : Columns) → columns ≡ plain_columns kind → at ≡ [] → Adds g (3 + depth) b0 b1 (at ++ length ∷ []) (bufs_of columns) (LinePuts test steps at length columns) → Adds g (3 + depth) b0 b1 (length ∷ []) [] (LineShows test steps (length ∷ []) kind)
vector_built test steps g depth b0 b1 at length kind columns ec ea line =
    adds_as g (3 + depth) (3 + depth) b0 b1 (length ∷ []) (length ∷ []) (bufs_of (plain_columns kind)) [] (LinePuts test steps [] length (plain_columns kind)) (LineShows test steps (length ∷ []) kind)
    (subst (λ (l : List Int). Adds g (3 + depth) b0 b1 (l ++ length ∷ []) (bufs_of (plain_columns kind)) (LinePuts test steps l length (plain_columns kind))) ea
    (subst (λ x. Adds g (3 + depth) b0 b1 (at ++ length ∷ []) (bufs_of x) (LinePuts test steps at length x)) ec line))
    (omega arith) (λ sc more are. are) (λ sc none. no_bufs sc kind)
    (λ c code h. vector_shows c b0.ints b0.bufs test steps length kind code h)
  where
    no_bufs : (sc : Scope) (k : Kind) → AreBufs sc (bufs_of (plain_columns k))
    no_bufs sc Num = tt
    no_bufs sc Char = tt

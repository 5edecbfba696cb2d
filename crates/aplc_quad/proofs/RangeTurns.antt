-- What the code of a column's range hands on: to a loop's body, and behind the range that it begins with.
-- It must not know what the elements are.
use Rattle.std.proofs.Common.{◌≡◌, ℕ, ◌+◌, ◌-◌, ◌<◌, ◌≤◌, List, [], ◌∷◌, ◌++◌, sym, ap, subst, arith}
use Rattle.std.proofs.Math.ListN as list
use Rattle.std.specs.Prelude.{take, drop}
use Rattle.aplc_cprof.specs.declared.syntax.Int.{Int}
use Rattle.aplc_cprof.specs.declared.syntax.Int.TheVariants as int
use Rattle.aplc_cprof.specs.declared.syntax.Buf.{Buf}
use Rattle.aplc_cprof.specs.Blocks.{Blocks}
use Rattle.aplc_cprof.specs.WellFormed.{Scope}
use Rattle.aplc_cprof.specs.Frames.{AreGiven, AreOld, IsOld, IsOldBuf, number}
use Rattle.aplc_cprof.specs.Emitted.{loop_begun}
use Rattle.aplc_cprof.proofs.Frames.{given_more, old_buf_more}
use Rattle.aplc_collect.specs.Elements.{Test, Steps}
use Rattle.aplc_quad.specs.Printed.{Adds}
use Rattle.aplc_quad.specs.Ranges.{zero_stmts, IsRange, IsApart, AreApart, RangeRuns}
use Rattle.aplc_quad.proofs.Slices.{rest_is, rest_length}
use Rattle.aplc_quad.proofs.Builds.{begun_names}
use Rattle.aplc_quad.proofs.RangeNests.{apart_more, are_apart_more, are_apart_append, range_more}
use Rattle.aplc_quad.proofs.WidthLoops.{are_old_apart, zero_range}

-- ---- The axes that are left

rest_apart : (n n' : ℕ) (least greatest : Int) (xs : List Int) → 1 ≤ list.length xs → n ≤ n' → AreApart n least greatest xs → AreApart n' least greatest (take (list.length xs - 1) (drop 1 xs))
rest_apart n n' least greatest [] some le h = absurd (omega (arith, some))
rest_apart n n' least greatest (x ∷ xs) some le h = subst (λ (l : List Int). AreApart n' least greatest l) (sym (rest_is x xs)) (are_apart_more n n' least greatest xs le h.1)

-- one at least is left
pub some_left : (xs : List Int) → 2 ≤ list.length xs → 1 ≤ list.length (take (list.length xs - 1) (drop 1 xs))
some_left xs le = let e = rest_length xs (omega (arith, le)) in omega (arith, e, le)

-- ---- In a loop

pub begun_range : (g : ℕ) (least greatest : Int) (a b : Blocks) → b ≡ loop_begun a → IsRange g a.ints least greatest → IsRange g b.ints least greatest
begun_range g least greatest a b e h = let n = begun_names a b e in range_more g a.ints b.ints least greatest (omega (arith, n.0)) h

pub begun_lengths : (least greatest : Int) (a b : Blocks) (xs : List Int) → 2 ≤ list.length xs → b ≡ loop_begun a → AreApart a.ints least greatest xs → AreApart b.ints least greatest (take (list.length xs - 1) (drop 1 xs))
begun_lengths least greatest a b xs le e h = let n = begun_names a b e in rest_apart a.ints b.ints least greatest xs (omega (arith, le)) (omega (arith, n.0)) h

pub begun_column : (least greatest column : Int) (a b : Blocks) → b ≡ loop_begun a → IsApart a.ints least greatest column → IsApart b.ints least greatest column
begun_column least greatest column a b e h = let n = begun_names a b e in apart_more a.ints b.ints least greatest column (omega (arith, n.0)) h

counter_apart : (g n n' : ℕ) (least greatest : Int) → n < n' → IsRange g n least greatest → IsApart n' least greatest (int.Local n)
counter_apart g n n' least greatest lt h =
    let l : number least ≡ h.low = ap number h.is_low in
    let k : number greatest ≡ h.high = ap number h.is_high in
    let below = h.low_below in
    let below_high = h.high_below in
    (lt, λ e. omega (arith, e, l, below), λ e. omega (arith, e, k, below_high))

-- the multi-index with the counter
pub begun_places : (g : ℕ) (least greatest i : Int) (a b : Blocks) (xs ys : List Int) → i ≡ int.Local a.ints → b ≡ loop_begun a → ys ≡ xs ++ i ∷ [] → IsRange g a.ints least greatest → AreApart a.ints least greatest xs → AreApart b.ints least greatest ys
begun_places g least greatest i a b xs ys ei e ey range h =
    let n = begun_names a b e in
    let counter : IsApart b.ints least greatest i = subst (λ (x : Int). IsApart b.ints least greatest x) (sym ei) (counter_apart g a.ints b.ints least greatest (omega (arith, n.0)) range) in
    subst (λ (l : List Int). AreApart b.ints least greatest l) (sym ey)
    (are_apart_append b.ints least greatest xs (i ∷ []) (are_apart_more a.ints b.ints least greatest xs (omega (arith, n.0)) h) (counter, tt))

pub begun_buf : (widths : Buf) (a b : Blocks) → b ≡ loop_begun a → IsOldBuf a.bufs widths → IsOldBuf b.bufs widths
begun_buf widths a b e h = let n = begun_names a b e in old_buf_more a.bufs b.bufs widths (omega (arith, n.1)) h

-- ---- Behind a range that was just made

-- a builder with it
abbrev pub with_zeros : Blocks → Blocks
with_zeros b = record b { inner = b.inner ++ zero_stmts (int.Local b.ints) (int.Local (b.ints + 1)); ints = b.ints + 2 }

zero_names : (a b : Blocks) → b ≡ with_zeros a → (b.ints ≡ a.ints + 2) × (b.bufs ≡ a.bufs)
zero_names a b e = (ap (λ (x : Blocks). x.ints) e, ap (λ (x : Blocks). x.bufs) e)

pub zero_given : (g : Scope) (a b : Blocks) → b ≡ with_zeros a → AreGiven g a → AreGiven g b
zero_given g a b e h = let n = zero_names a b e in given_more g a b (omega (arith, n.0)) (omega (arith, n.1)) h

pub zero_is_range : (g : Scope) (least greatest : Int) (a b : Blocks) → least ≡ int.Local a.ints → greatest ≡ int.Local (a.ints + 1) → b ≡ with_zeros a → AreGiven g a → IsRange g.ints b.ints least greatest
zero_is_range g least greatest a b el eh e h = let n = zero_names a b e in zero_range g.ints a.ints b.ints least greatest el eh h.ints (omega (arith, n.0))

pub zero_lengths : (least greatest : Int) (a b : Blocks) (xs : List Int) → least ≡ int.Local a.ints → greatest ≡ int.Local (a.ints + 1) → b ≡ with_zeros a → AreOld a.ints xs → AreApart b.ints least greatest xs
zero_lengths least greatest a b xs el eh e h =
    let n = zero_names a b e in
    subst (λ (x : Int). AreApart b.ints x greatest xs) (sym el) (subst (λ (x : Int). AreApart b.ints (int.Local a.ints) x xs) (sym eh) (are_old_apart a.ints b.ints a.ints (a.ints + 1) xs (omega arith) (omega arith) (omega (arith, n.0)) h))

pub zero_column : (least greatest column : Int) (a b : Blocks) → least ≡ int.Local a.ints → greatest ≡ int.Local (a.ints + 1) → b ≡ with_zeros a → IsOld a.ints column → IsApart b.ints least greatest column
zero_column least greatest column a b el eh e h = (zero_lengths least greatest a b (column ∷ []) el eh e (h, tt)).0

-- no place is known yet
pub no_places : (n : ℕ) (least greatest : Int) (xs : List Int) → xs ≡ [] → AreApart n least greatest xs
no_places n least greatest xs e = subst (λ (l : List Int). AreApart n least greatest l) (sym e) tt

-- ---- The last axis

-- Its length is all that is left of the lengths.
pub one_whole : (test : Test) (steps : Steps) (g : Scope) (depth : ℕ) (b0 b1 : Blocks) (at lengths : List Int) (column least greatest : Int) → 1 ≤ list.length lengths → list.length lengths < 2 → ((length : Int) → Adds g (1 + depth) b0 b1 (least ∷ greatest ∷ column ∷ at ++ length ∷ []) [] (RangeRuns test steps at (length ∷ []) column least greatest)) → Adds g (depth + list.length lengths) b0 b1 (least ∷ greatest ∷ column ∷ at ++ lengths) [] (RangeRuns test steps at lengths column least greatest)
one_whole test steps g depth b0 b1 at [] column least greatest some most h = absurd (omega (arith, some))
one_whole test steps g depth b0 b1 at (x ∷ y ∷ xs) column least greatest some most h = absurd (omega (arith, most))
one_whole test steps g depth b0 b1 at (x ∷ []) column least greatest some most h =
    let d : 1 + depth ≡ depth + list.length (x ∷ []) = omega arith in
    subst (λ k. Adds g k b0 b1 (least ∷ greatest ∷ column ∷ at ++ x ∷ []) [] (RangeRuns test steps at (x ∷ []) column least greatest)) d (h x)

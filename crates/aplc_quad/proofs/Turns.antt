-- What a turn of an axis hands to the axes behind it.
-- It must not know how a row is printed.
use Rattle.std.proofs.Common.{◌≡◌, ℕ, ◌+◌, ◌-◌, ◌<◌, ◌≤◌, List, [], ◌∷◌, ◌++◌, sym, ap, subst, arith}
use Rattle.std.proofs.Math.ListN as list
use Rattle.std.specs.Prelude.{take, drop, slice_index_or}
use Rattle.aplc_cprof.specs.declared.syntax.Int.{Int}
use Rattle.aplc_cprof.specs.declared.syntax.Int.TheVariants as int
use Rattle.aplc_cprof.specs.Blocks.{Blocks, IsKept}
use Rattle.aplc_cprof.specs.WellFormed.{Scope}
use Rattle.aplc_cprof.specs.Frames.{AreGiven, AreOld, IsOld}
use Rattle.aplc_cprof.specs.Emitted.{loop_begun}
use Rattle.aplc_cprof.proofs.Frames.{given_more, are_old_more}
use Rattle.aplc_cprof.proofs.Kept.{kept_trans}
use Rattle.aplc_collect.specs.Elements.{Test, Steps}
use Rattle.aplc_quad.specs.declared.printing.Columns.{Columns}
use Rattle.aplc_quad.specs.Printing.{with_head}
use Rattle.aplc_quad.specs.Printed.{bufs_of, AreOldColumns, Adds, NestPuts}
use Rattle.aplc_quad.proofs.Slices.{rest_is, rest_length}
use Rattle.aplc_quad.proofs.Builds.{begun_names, given_begun, places_begun, columns_begun}

pub rest_old : (n n' : ℕ) (xs : List Int) → 1 ≤ list.length xs → n ≤ n' → AreOld n xs → AreOld n' (take (list.length xs - 1) (drop 1 xs))
rest_old n n' [] some le h = absurd (omega (arith, some))
rest_old n n' (x ∷ xs) some le h = subst (λ (l : List Int). AreOld n' l) (sym (rest_is x xs)) (are_old_more n n' xs le h.1)

-- two at least are left
pub more_left : (xs : List Int) → 3 ≤ list.length xs → 2 ≤ list.length (take (list.length xs - 1) (drop 1 xs))
more_left xs le = let e = rest_length xs (omega (arith, le)) in omega (arith, e, le)

pub head_names : (started i length : Int) (a b : Blocks) → b ≡ with_head started i length a → (b.ints ≡ a.ints + 1) × (b.bufs ≡ a.bufs)
head_names started i length a b e = (ap (λ (x : Blocks). x.ints) e, ap (λ (x : Blocks). x.bufs) e)

pub turn_given : (g : Scope) (started i length : Int) (a b d : Blocks) → b ≡ loop_begun a → d ≡ with_head started i length b → AreGiven g a → AreGiven g d
turn_given g started i length a b d e f h = let n = head_names started i length b d f in given_more g b d (omega (arith, n.0)) (omega (arith, n.1)) (given_begun g a b e h)

-- the multi-index with the counter
pub turn_places : (started i length : Int) (a b d : Blocks) (xs ys : List Int) → i ≡ int.Local a.ints → b ≡ loop_begun a → d ≡ with_head started i length b → ys ≡ xs ++ i ∷ [] → AreOld a.ints xs → AreOld d.ints ys
turn_places started i length a b d xs ys ei e f ey h = let n = head_names started i length b d f in are_old_more b.ints d.ints ys (omega (arith, n.0)) (places_begun a b i xs ys ei e ey h)

pub turn_lengths : (started i length : Int) (a b d : Blocks) (xs : List Int) → 3 ≤ list.length xs → b ≡ loop_begun a → d ≡ with_head started i length b → AreOld a.ints xs → AreOld d.ints (take (list.length xs - 1) (drop 1 xs))
turn_lengths started i length a b d xs le e f h =
    let m = begun_names a b e in
    let n = head_names started i length b d f in
    rest_old a.ints d.ints xs (omega (arith, le)) (omega (arith, m.0, n.0)) h

-- the variable that tells whether a row was printed before
pub turn_moved : (started i length moved : Int) (b d : Blocks) → moved ≡ int.Local b.ints → d ≡ with_head started i length b → IsOld d.ints moved
turn_moved started i length moved b d em f =
    let n = head_names started i length b d f in
    let last : IsOld d.ints (int.Local b.ints) = omega (arith, n.0) in
    subst (λ (x : Int). IsOld d.ints x) (sym em) last

pub turn_columns : (columns : Columns) (started i length : Int) (a b d : Blocks) → b ≡ loop_begun a → d ≡ with_head started i length b → AreOldColumns a.bufs columns → AreOldColumns d.bufs columns
turn_columns columns started i length a b d e f h = let n = head_names started i length b d f in subst (λ k. AreOldColumns k columns) (sym n.1) (columns_begun columns a b e h)

-- one call after another
pub kept_four : (a b c d : Blocks) → IsKept a b → IsKept b c → IsKept c d → IsKept a d
kept_four a b c d p q r = kept_trans a c d (kept_trans a b c p q) r

-- The rows and the length of a plane are all lengths that are left.
pub plane_whole : (test : Test) (steps : Steps) (g : Scope) (depth : ℕ) (b0 b1 : Blocks) (at lengths : List Int) (started : Int) (columns : Columns) → 2 ≤ list.length lengths → list.length lengths < 3 → Adds g (4 + depth) b0 b1 (started ∷ at ++ slice_index_or lengths 0 (int.Local 0) ∷ slice_index_or lengths 1 (int.Local 0) ∷ []) (bufs_of columns) (NestPuts test steps at (slice_index_or lengths 0 (int.Local 0) ∷ slice_index_or lengths 1 (int.Local 0) ∷ []) started columns) → Adds g (2 + depth + list.length lengths) b0 b1 (started ∷ at ++ lengths) (bufs_of columns) (NestPuts test steps at lengths started columns)
plane_whole test steps g depth b0 b1 at [] started columns some most h = absurd (omega (arith, some))
plane_whole test steps g depth b0 b1 at (x ∷ []) started columns some most h = absurd (omega (arith, some))
plane_whole test steps g depth b0 b1 at (x ∷ y ∷ z ∷ xs) started columns some most h = absurd (omega (arith, most))
plane_whole test steps g depth b0 b1 at (x ∷ y ∷ []) started columns some most h =
    let d : 4 + depth ≡ 2 + depth + list.length (x ∷ y ∷ []) = omega arith in
    subst (λ k. Adds g k b0 b1 (started ∷ at ++ x ∷ y ∷ []) (bufs_of columns) (NestPuts test steps at (x ∷ y ∷ []) started columns)) d h

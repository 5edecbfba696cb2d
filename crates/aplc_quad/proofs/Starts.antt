-- What code hands on behind a flag that it has set, and within a block that it has opened.
-- It must not know what is printed.
use Rattle.std.proofs.Common.{◌≡◌, ℕ, ◌+◌, List, [], sym, ap, ◌∙◌, subst, arith}
use Rattle.aplc_cprof.specs.declared.syntax.Int.{Int}
use Rattle.aplc_cprof.specs.declared.syntax.Int.TheVariants as int
use Rattle.aplc_cprof.specs.declared.syntax.CStmt.{CStmt}
use Rattle.aplc_cprof.specs.Blocks.{Blocks}
use Rattle.aplc_cprof.specs.WellFormed.{Scope}
use Rattle.aplc_cprof.specs.Frames.{AreGiven, AreOld, IsOld}
use Rattle.aplc_cprof.proofs.Frames.{given_more, are_old_more}
use Rattle.aplc_quad.specs.declared.printing.Columns.{Columns}
use Rattle.aplc_quad.specs.Printed.{AreOldColumns}

-- ---- Behind a flag

flag_names : (a b d : Blocks) (code : List CStmt) → b ≡ record a { ints = a.ints + 1 } → d ≡ record b { inner = code } → (d.ints ≡ a.ints + 1) × (d.bufs ≡ a.bufs)
flag_names a b d code e f = (ap (λ (x : Blocks). x.ints) f ∙ ap (λ (x : Blocks). x.ints) e, ap (λ (x : Blocks). x.bufs) f ∙ ap (λ (x : Blocks). x.bufs) e)

pub flag_given : (g : Scope) (a b d : Blocks) (code : List CStmt) → b ≡ record a { ints = a.ints + 1 } → d ≡ record b { inner = code } → AreGiven g a → AreGiven g d
flag_given g a b d code e f h = let n = flag_names a b d code e f in given_more g a d (omega (arith, n.0)) (omega (arith, n.1)) h

pub flag_lengths : (a b d : Blocks) (code : List CStmt) (xs : List Int) → b ≡ record a { ints = a.ints + 1 } → d ≡ record b { inner = code } → AreOld a.ints xs → AreOld d.ints xs
flag_lengths a b d code xs e f h = let n = flag_names a b d code e f in are_old_more a.ints d.ints xs (omega (arith, n.0)) h

pub flag_old : (a b d : Blocks) (code : List CStmt) (flag : Int) → flag ≡ int.Local a.ints → b ≡ record a { ints = a.ints + 1 } → d ≡ record b { inner = code } → IsOld d.ints flag
flag_old a b d code flag is e f =
    let n = flag_names a b d code e f in
    let last : IsOld d.ints (int.Local a.ints) = omega (arith, n.0) in
    subst (λ (x : Int). IsOld d.ints x) (sym is) last

pub flag_columns : (columns : Columns) (a b d : Blocks) (code : List CStmt) → b ≡ record a { ints = a.ints + 1 } → d ≡ record b { inner = code } → AreOldColumns a.bufs columns → AreOldColumns d.bufs columns
flag_columns columns a b d code e f h = let n = flag_names a b d code e f in subst (λ k. AreOldColumns k columns) (sym n.1) h

pub no_places : (n : ℕ) (xs : List Int) → xs ≡ [] → AreOld n xs
no_places n xs e = subst (λ (l : List Int). AreOld n l) (sym e) tt

-- ---- Within a block

opened_names : (a b : Blocks) (o : List (List CStmt)) (l : List CStmt) → b ≡ record a { outer = o; inner = l } → (b.ints ≡ a.ints) × (b.bufs ≡ a.bufs)
opened_names a b o l e = (ap (λ (x : Blocks). x.ints) e, ap (λ (x : Blocks). x.bufs) e)

pub opened_given : (g : Scope) (a b : Blocks) (o : List (List CStmt)) (l : List CStmt) → b ≡ record a { outer = o; inner = l } → AreGiven g a → AreGiven g b
opened_given g a b o l e h = let n = opened_names a b o l e in given_more g a b (omega (arith, n.0)) (omega (arith, n.1)) h

pub opened_lengths : (a b : Blocks) (o : List (List CStmt)) (l : List CStmt) (xs : List Int) → b ≡ record a { outer = o; inner = l } → AreOld a.ints xs → AreOld b.ints xs
opened_lengths a b o l xs e h = let n = opened_names a b o l e in are_old_more a.ints b.ints xs (omega (arith, n.0)) h

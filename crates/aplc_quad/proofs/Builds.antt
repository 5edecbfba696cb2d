-- Code that is added piece by piece to a builder.
-- It must not know what it prints.
use Rattle.std.proofs.Common.{◌≡◌, ℕ, ◌+◌, ◌<◌, ◌≤◌, List, [], ◌∷◌, ◌++◌, length, refl, sym, ap, ◌∙◌, subst, arith, true}
use Rattle.std.specs.Prelude.{Result, Ok, Err, OnOk, pos}
use Rattle.aplc_cprof.specs.declared.syntax.Int.{Int}
use Rattle.aplc_cprof.specs.declared.syntax.Int.TheVariants as int
use Rattle.aplc_cprof.specs.declared.syntax.Buf.{Buf}
use Rattle.aplc_cprof.specs.declared.syntax.CExpr.TheVariants as expr
use Rattle.aplc_cprof.specs.declared.syntax.CStmt.{CStmt}
use Rattle.aplc_cprof.specs.declared.syntax.CStmt.TheVariants as stmt
use Rattle.aplc_cprof.specs.Blocks.{Blocks, IsKept}
use Rattle.aplc_cprof.specs.WellFormed.{Scope, is_int}
use Rattle.aplc_cprof.specs.Machine.{Code}
use Rattle.aplc_cprof.specs.Frames.{AreGiven, AreOld, IsOld}
use Rattle.aplc_cprof.specs.Emitted.{counted_loop, Grown, loop_begun, LoopEnded, IsKeptRound, AreInts, AreBufs, IsFormed}
use Rattle.aplc_cprof.proofs.Frames.{given_more, are_old_more, are_old_append, old_more}
use Rattle.aplc_cprof.proofs.Emitted.{is_below, loop_formed, formed_more, formed_append, grown_then, loop_grown}
use Rattle.aplc_quad.specs.Printing.{with_code}
use Rattle.aplc_quad.specs.declared.printing.Columns.{Columns}
use Rattle.aplc_quad.specs.Printed.{AreOldColumns, Adds}

-- what a call says of an Ok, and more
pub on_ok : {T E A B : Type 0} (r : Result T E) → (A → B) → OnOk r A → OnOk r B
on_ok (Ok x) f h = f h
on_ok (Err e) f h = tt

pub with_code_names : (code : List CStmt) (a b : Blocks) → b ≡ with_code code a → (b.ints ≡ a.ints) × (b.bufs ≡ a.bufs)
with_code_names code a b e = (ap (λ (x : Blocks). x.ints) e, ap (λ (x : Blocks). x.bufs) e)

pub begun_names : (a b : Blocks) → b ≡ loop_begun a → (b.ints ≡ a.ints + 1) × (b.bufs ≡ a.bufs)
begun_names a b e = (ap (λ (x : Blocks). x.ints) e, ap (λ (x : Blocks). x.bufs) e)

pub code_grown : (code : List CStmt) (a b : Blocks) → b ≡ with_code code a → Grown code a b
code_grown code a b e =
    let i = with_code_names code a b e in
    record { inner = ap (λ (x : Blocks). x.inner) e; outer = ap (λ (x : Blocks). x.outer) e; ints = omega (arith, i.0); bufs = omega (arith, i.1) }

-- what was built before a loop is kept over it
pub kept_round : (b0 b1 b2 b3 : Blocks) → b1 ≡ loop_begun b0 → IsKept b1 b2 → IsKeptRound b2 b3 → IsKept b0 b3
kept_round b0 b1 b2 b3 e k r = r b0 (subst (λ (b : Blocks). IsKept b b2) e k)

-- a block is open
pub is_open : (b0 b1 b2 : Blocks) (g : Scope) (depth : ℕ) (xs : List Int) (ps : List Buf) (Runs : Code → ℕ → ℕ → List CStmt → Type 0) → b1 ≡ loop_begun b0 → Adds g depth b1 b2 xs ps Runs → 0 < length b2.outer
is_open b0 b1 b2 g depth xs ps Runs e a =
    let blocks : b2.outer ≡ b0.outer ++ (b0.inner ++ stmt.Set (int.Local b0.ints) (expr.Lit (pos 0)) ∷ []) ∷ [] = a.grown.outer ∙ ap (λ (b : Blocks). b.outer) e in
    subst (λ (l : List (List CStmt)). 0 < length l) (sym blocks) (some b0.outer (b0.inner ++ stmt.Set (int.Local b0.ints) (expr.Lit (pos 0)) ∷ []))
  where
    some : (xs : List (List CStmt)) (x : List CStmt) → 0 < length (xs ++ x ∷ [])
    some [] x = omega arith
    some (y ∷ xs) x = omega arith

-- these very statements
abbrev pub Just : List CStmt → Code → ℕ → ℕ → List CStmt → Type 0
Just these c n m code = code ≡ these

-- statements that are well formed wherever the names are declared were added
pub code_adds : (these : List CStmt) (g : Scope) (depth : ℕ) (a b : Blocks) (xs : List Int) (ps : List Buf) → b ≡ with_code these a → IsFormed g xs ps b depth these → Adds g depth a b xs ps (Just these)
code_adds these g depth a b xs ps e formed = record { code = these; grown = code_grown these a b e; formed = formed; runs = λ c. refl }

-- one piece behind another
pub then_adds : (g : Scope) (depth : ℕ) (b0 b1 b2 : Blocks) (xs : List Int) (ps : List Buf) (A B C : Code → ℕ → ℕ → List CStmt → Type 0) → Adds g depth b0 b1 xs ps A → Adds g depth b1 b2 xs ps B → ((c : Code) (x y : List CStmt) → b0.ints ≤ b1.ints → b0.bufs ≤ b1.bufs → A c b0.ints b0.bufs x → B c b1.ints b1.bufs y → C c b0.ints b0.bufs (x ++ y)) → Adds g depth b0 b2 xs ps C
then_adds g depth b0 b1 b2 xs ps A B C a b both = record {
  code = a.code ++ b.code;
  grown = grown_then a.code b.code b0 b1 b2 a.grown b.grown;
  formed = formed_append g xs ps b2 depth a.code b.code (formed_more g xs ps b1 b2 depth depth a.code b.grown.ints b.grown.bufs (omega arith) a.formed) b.formed;
  runs = λ c. both c a.code b.code a.grown.ints a.grown.bufs (a.runs c) (b.runs c);
}

-- the same for other names, with more room, and seen in another way
pub adds_as : (g : Scope) (d e : ℕ) (b0 b1 : Blocks) (xs ys : List Int) (ps qs : List Buf) (A B : Code → ℕ → ℕ → List CStmt → Type 0) → Adds g d b0 b1 xs ps A → d ≤ e → ((sc : Scope) → b1.ints ≤ sc.ints → AreInts sc ys → AreInts sc xs) → ((sc : Scope) → AreBufs sc qs → AreBufs sc ps) → ((c : Code) (code : List CStmt) → A c b0.ints b0.bufs code → B c b0.ints b0.bufs code) → Adds g e b0 b1 ys qs B
adds_as g d e b0 b1 xs ys ps qs A B a le names bufs meaning = record {
  code = a.code;
  grown = a.grown;
  formed = λ sc room within are are_bufs more more_bufs room_le. a.formed sc room within (names sc more are) (bufs sc are_bufs) more more_bufs (omega (arith, le, room_le));
  runs = λ c. meaning c a.code (a.runs c);
}

-- a loop round the code that was added between its beginning and its end
pub loop_adds : (g : Scope) (depth total : ℕ) (b0 b1 b2 b3 : Blocks) (i length : Int) (xs ys : List Int) (ps : List Buf) (Inner Outer : Code → ℕ → ℕ → List CStmt → Type 0) → i ≡ int.Local b0.ints → b1 ≡ loop_begun b0 → Adds g depth b1 b2 xs ps Inner → LoopEnded i length b2 b3 → 1 ≤ depth → 1 + depth ≤ total → ((sc : Scope) → is_int sc i ≡ true → AreInts sc ys → AreInts sc xs × (is_int sc length ≡ true)) → ((c : Code) (code : List CStmt) → Inner c (b0.ints + 1) b0.bufs code → Outer c b0.ints b0.bufs (counted_loop (int.Local b0.ints) length code)) → Adds g total b0 b3 ys ps Outer
loop_adds g depth total b0 b1 b2 b3 i length xs ys ps Inner Outer ei e1 a ended some room_more names meaning = record {
  code = counted_loop (int.Local b0.ints) length a.code;
  grown = loop_grown a.code b0 b1 b2 b3 i length ei e1 a.grown ended;
  formed = formed_is;
  runs = λ c. meaning c a.code (subst (λ k. Inner c (b0.ints + 1) k a.code) begun.1 (subst (λ k. Inner c k b1.bufs a.code) begun.0 (a.runs c)));
}
  where
    begun : (b1.ints ≡ b0.ints + 1) × (b1.bufs ≡ b0.bufs)
    begun = begun_names b0 b1 e1

    formed_is : IsFormed g ys ps b3 total (counted_loop (int.Local b0.ints) length a.code)
    formed_is sc room within are bufs more more_bufs le =
        let counter : is_int sc (int.Local b0.ints) ≡ true = is_below b0.ints sc.ints (omega (arith, begun.0, a.grown.ints, ended.ints, more)) in
        let both = names sc (ap (is_int sc) ei ∙ counter) are in
        loop_formed sc depth room (int.Local b0.ints) length a.code some (omega (arith, room_more, le)) counter both.1
        (λ r kr. a.formed sc r within both.0 bufs (omega (arith, ended.ints, more)) (omega (arith, ended.bufs, more_bufs)) kr)

-- ---- What a call needs behind another

-- names that were given stay given where code is added
pub given_code : (these : List CStmt) (g : Scope) (a b : Blocks) → b ≡ with_code these a → AreGiven g a → AreGiven g b
given_code these g a b e h = let n = with_code_names these a b e in given_more g a b (omega (arith, n.0)) (omega (arith, n.1)) h

pub given_begun : (g : Scope) (a b : Blocks) → b ≡ loop_begun a → AreGiven g a → AreGiven g b
given_begun g a b e h = let n = begun_names a b e in given_more g a b (omega (arith, n.0)) (omega (arith, n.1)) h

pub old_begun : (a b : Blocks) (xs : List Int) → b ≡ loop_begun a → AreOld a.ints xs → AreOld b.ints xs
old_begun a b xs e h = let n = begun_names a b e in are_old_more a.ints b.ints xs (omega (arith, n.0)) h

pub one_old_begun : (a b : Blocks) (x : Int) → b ≡ loop_begun a → IsOld a.ints x → IsOld b.ints x
one_old_begun a b x e h = let n = begun_names a b e in old_more a.ints b.ints x (omega (arith, n.0)) h

-- the counter of the loop
pub counter_begun : (a b : Blocks) (i : Int) → i ≡ int.Local a.ints → b ≡ loop_begun a → IsOld b.ints i
counter_begun a b i ei e =
    let n = begun_names a b e in
    let last : IsOld b.ints (int.Local a.ints) = omega (arith, n.0) in
    subst (λ (x : Int). IsOld b.ints x) (sym ei) last

-- the multi-index with the counter
pub places_begun : (a b : Blocks) (i : Int) (xs ys : List Int) → i ≡ int.Local a.ints → b ≡ loop_begun a → ys ≡ xs ++ i ∷ [] → AreOld a.ints xs → AreOld b.ints ys
places_begun a b i xs ys ei e ey h =
    subst (λ (l : List Int). AreOld b.ints l) (sym ey) (are_old_append b.ints xs (i ∷ []) (old_begun a b xs e h) (counter_begun a b i ei e, tt))

pub columns_begun : (columns : Columns) (a b : Blocks) → b ≡ loop_begun a → AreOldColumns a.bufs columns → AreOldColumns b.bufs columns
columns_begun columns a b e h = let n = begun_names a b e in subst (λ k. AreOldColumns k columns) (sym n.1) h

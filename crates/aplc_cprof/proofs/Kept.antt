-- What was built is kept: so is it in itself, over one call after another, and by each call of a builder.
-- It must not know what the statements mean.
use Rattle.std.proofs.Common.{◌≡◌, ◌∙◌, ap, sym, refl, subst, ℕ, ◌+◌, List, [], ◌∷◌, ◌++◌, append_assoc, append-nil, arith}
use Rattle.std.specs.Prelude.{Result, Ok, Err, OnOk, OnErr}
use Rattle.std.specs.declared.alloc.AllocError.{AllocError}
use Rattle.aplc_cprof.specs.declared.syntax.CStmt.{CStmt}
use Rattle.aplc_cprof.specs.Blocks.{Blocks, open_blocks, Begin, IsKept}

-- ---- Blocks

begin_same : (xs : List (List CStmt)) → Begin xs xs
begin_same [] = tt
begin_same (x ∷ xs) = (([], sym (append-nil x)), begin_same xs)

begin_trans : (xs ys zs : List (List CStmt)) → Begin xs ys → Begin ys zs → Begin xs zs
begin_trans [] ys zs p q = tt
begin_trans (x ∷ xs) [] zs p q = absurd p
begin_trans (x ∷ xs) (y ∷ ys) [] p q = absurd q
begin_trans (x ∷ xs) (y ∷ ys) (z ∷ zs) p q =
    let a = p.0 in
    let b = q.0 in
    ((a.0 ++ b.0, b.1 ∙ ap (λ (l : List CStmt). l ++ b.0) a.1 ∙ append_assoc x a.0 b.0), begin_trans xs ys zs p.1 q.1)

-- the last block grows
begin_last : (xs : List (List CStmt)) (x more : List CStmt) → Begin (xs ++ x ∷ []) (xs ++ (x ++ more) ∷ [])
begin_last [] x more = ((more, refl), tt)
begin_last (y ∷ xs) x more = (([], sym (append-nil y)), begin_last xs x more)

-- a block is opened behind the others
begin_more : (xs ys : List (List CStmt)) → Begin xs (xs ++ ys)
begin_more [] ys = tt
begin_more (x ∷ xs) ys = (([], sym (append-nil x)), begin_more xs ys)

none_after : (xs : List (List CStmt)) (x : List CStmt) → Begin (xs ++ x ∷ []) [] → ⊥
none_after [] x p = p
none_after (y ∷ xs) x p = p

-- the last block of each is ended
begin_ended : (xs ys : List (List CStmt)) (x y : List CStmt) → Begin (xs ++ x ∷ []) (ys ++ y ∷ []) → Begin xs ys
begin_ended [] ys x y p = tt
begin_ended (a ∷ xs) [] x y p = absurd (none_after xs x p.1)
begin_ended (a ∷ xs) (b ∷ ys) x y p = (p.0, begin_ended xs ys x y p.1)

-- ---- Builders

-- nothing has changed
pub kept_same : (a : Blocks) → IsKept a a
kept_same a = record { blocks = begin_same (open_blocks a); ints = omega arith; bufs = omega arith }

-- one call after another
pub kept_trans : (a b c : Blocks) → IsKept a b → IsKept b c → IsKept a c
kept_trans a b c p q =
    let i = p.ints in
    let j = q.ints in
    let k = p.bufs in
    let l = q.bufs in
    record { blocks = begin_trans (open_blocks a) (open_blocks b) (open_blocks c) p.blocks q.blocks; ints = omega (arith, i, j); bufs = omega (arith, k, l) }

-- statements are added
pub kept_code : (a : Blocks) (code : List CStmt) → IsKept a (record a { inner = a.inner ++ code })
kept_code a code = record { blocks = begin_last a.outer a.inner code; ints = omega arith; bufs = omega arith }

-- names are given
pub kept_names : (a : Blocks) (i j : ℕ) → IsKept a (record a { ints = a.ints + i; bufs = a.bufs + j })
kept_names a i j = record { blocks = begin_same (open_blocks a); ints = omega arith; bufs = omega arith }

-- a block is begun
pub kept_open : (a : Blocks) → IsKept a (record a { outer = a.outer ++ a.inner ∷ []; inner = [] })
kept_open a = record { blocks = begin_more (a.outer ++ a.inner ∷ []) ([] ∷ []); ints = omega arith; bufs = omega arith }

-- and ended, after what was done within it: b are the blocks before that, and d those after it
pub kept_close : (a b d : Blocks) → IsKept (record a { outer = a.outer ++ a.inner ∷ []; inner = [] }) b → b.outer ≡ open_blocks d → d.ints ≡ b.ints → d.bufs ≡ b.bufs → IsKept a d
kept_close a b d p is ints bufs =
    let i = p.ints in
    let j = p.bufs in
    record {
      blocks = subst (λ (l : List (List CStmt)). Begin (open_blocks a) l) is (begin_ended (open_blocks a) b.outer [] b.inner p.blocks);
      ints = omega (arith, i, ints);
      bufs = omega (arith, j, bufs);
    }

-- ---- By what a call of a builder leaves

-- nothing
pub kept_is : (a b : Blocks) → b ≡ a → IsKept a b
kept_is a b e = subst (λ (b : Blocks). IsKept a b) (sym e) (kept_same a)

-- a whole variable was given
pub kept_int : (a b : Blocks) → b ≡ record a { ints = a.ints + 1 } → IsKept a b
kept_int a b e = subst (λ (b : Blocks). IsKept a b) (sym e) (record { blocks = begin_same (open_blocks a); ints = omega arith; bufs = omega arith })

-- a buffer variable was given
pub kept_buf : (a b : Blocks) → b ≡ record a { bufs = a.bufs + 1 } → IsKept a b
kept_buf a b e = subst (λ (b : Blocks). IsKept a b) (sym e) (record { blocks = begin_same (open_blocks a); ints = omega arith; bufs = omega arith })

-- a push, done or not
pub kept_pushed : (a : Blocks) (new : List CStmt) (s : CStmt) (r : Result (Unit {0}) AllocError) → OnOk r (new ≡ a.inner ++ s ∷ []) → OnErr r (new ≡ a.inner) → IsKept a (record a { inner = new })
kept_pushed a new s (Ok x) ok err = subst (λ (l : List CStmt). IsKept a (record a { inner = l })) (sym ok) (kept_code a (s ∷ []))
kept_pushed a new s (Err e) ok err = subst (λ (l : List CStmt). IsKept a (record a { inner = l })) (sym err) (kept_same a)

-- a block was begun
pub kept_opened : (a b : Blocks) → b ≡ record a { outer = a.outer ++ a.inner ∷ []; inner = [] } → IsKept a b
kept_opened a b e = subst (λ (b : Blocks). IsKept a b) (sym e) (kept_open a)

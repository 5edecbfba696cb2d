-- Names and states as code sees them that is added to other code: which names were given before it, and what it leaves as it was.
use Rattle.std.specs.Prelude.{◌≡◌, ℕ, ◌<◌, ◌≤◌, List, [], ◌∷◌, length, Option, Some, None, option_and_then, slice_get, slice_set, ℤ, pos}
use Rattle.aplc_cprof.specs.declared.syntax.Int.{Int}
use Rattle.aplc_cprof.specs.declared.syntax.Int.TheVariants as int
use Rattle.aplc_cprof.specs.declared.syntax.Buf.{Buf}
use Rattle.aplc_cprof.specs.declared.syntax.Buf.TheVariants as buf
use Rattle.aplc_cprof.specs.Blocks.{Blocks}
use Rattle.aplc_cprof.specs.WellFormed.{Scope}
use Rattle.aplc_cprof.specs.Machine.{State, Caller, Place, Places, Is, read_int, named_buf}

-- ---- Names

-- a local variable that was given before the n-th, or a global one
abbrev pub IsOld : ℕ → Int → Type 0
IsOld n (int.Local k) = k < n
IsOld n (int.Global k) = Unit {0}

abbrev pub AreOld : ℕ → List Int → Type 0
AreOld n [] = Unit {0}
AreOld n (x ∷ xs) = IsOld n x × AreOld n xs

-- a local buffer variable that was given before the m-th, or a global one
abbrev pub IsOldBuf : ℕ → Buf → Type 0
IsOldBuf m (buf.Local k) = k < m
IsOldBuf m (buf.Global k) = Unit {0}

-- a local variable, not given before the n-th, and given before the m-th
abbrev pub IsFresh : ℕ → ℕ → Int → Type 0
IsFresh n m (int.Local k) = (n ≤ k) × (k < m)
IsFresh n m (int.Global k) = ⊥

-- given before the n-th, and not the q-th
abbrev pub IsOldBut : ℕ → ℕ → Int → Type 0
IsOldBut n q (int.Local k) = (k < n) × (k ≡ q → ⊥)
IsOldBut n q (int.Global k) = Unit {0}

abbrev pub AreOldBut : ℕ → ℕ → List Int → Type 0
AreOldBut n q [] = Unit {0}
AreOldBut n q (x ∷ xs) = IsOldBut n q x × AreOldBut n q xs

-- the number of a local variable
abbrev pub number : Int → ℕ
number (int.Local k) = k
number (int.Global k) = 0

-- the local names of the scope were given
pub record AreGiven (g : Scope) (b : Blocks) : Type 0 where
  pub ints : g.ints ≤ b.ints
  pub bufs : g.bufs ≤ b.bufs

-- ---- What stays

-- what a state has beside local variables, the cells of buffers, what is due and what is counted
pub record Around : Type 0 where
  pub global_ints : ℕ → ℤ
  pub global_bufs : ℕ → Option ℕ
  pub callers : List Caller
  pub places : Places
  pub marks : List Place
  pub read_count : ℤ
  pub input : List ℕ
  pub output : List ℕ

abbrev pub around_of : State → Around
around_of s = record {
  global_ints = s.global_ints;
  global_bufs = s.global_bufs;
  callers = s.callers;
  places = s.places;
  marks = s.marks;
  read_count = s.read_count;
  input = s.input;
  output = s.output;
}

-- all that stood before the n-th whole variable and the m-th buffer variable were given is as it was
pub record Stays (n m : ℕ) (s t : State) : Type 0 where
  pub ints : (x : ℕ) → x < n → t.ints x ≡ s.ints x
  pub bufs : (p : ℕ) → p < m → t.bufs p ≡ s.bufs p
  pub around : around_of t ≡ around_of s
  pub heap : t.heap ≡ s.heap

-- the buffer b holds other cells
abbrev pub with_buffer : ℕ → List ℤ → State → State
with_buffer b cells s = record s { heap = slice_set s.heap b (Some cells) }

-- all of that but the variable q and the cells of the buffer b, of which there are as many
pub record Filling (n m q b size : ℕ) (s t : State) : Type 0 where
  pub ints : (x : ℕ) → x < n → (x ≡ q → ⊥) → t.ints x ≡ s.ints x
  pub bufs : (p : ℕ) → p < m → t.bufs p ≡ s.bufs p
  pub around : around_of t ≡ around_of s
  pub cells : List ℤ
  pub as_many : length cells ≡ size
  pub heap : t.heap ≡ slice_set s.heap b (Some cells)

-- ---- What is seen

-- the cells of a buffer that is not freed
abbrev pub live : Option (Option (List ℤ)) → Option (List ℤ)
live None = None
live (Some None) = None
live (Some (Some cells)) = Some cells

-- the cells of the buffer that a variable names
abbrev pub contents : Buf → State → Option (List ℤ)
contents p s = live (option_and_then (slice_get s.heap) (named_buf p s))

-- the variables of these names hold the same, and their buffers hold the same cells
pub record SameSeen (g : Scope) (s t : State) : Type 0 where
  pub ints : (x : ℕ) → x < g.ints → t.ints x ≡ s.ints x
  pub bufs : (p : ℕ) → p < g.bufs → contents (buf.Local p) t ≡ contents (buf.Local p) s
  pub global_ints : (x : ℕ) → x < g.global_ints → t.global_ints x ≡ s.global_ints x
  pub global_bufs : (p : ℕ) → p < g.global_bufs → contents (buf.Global p) t ≡ contents (buf.Global p) s

-- no variable of these names has the buffer b
pub record Unnamed (g : Scope) (b : ℕ) (s : State) : Type 0 where
  pub bufs : (p : ℕ) → p < g.bufs → s.bufs p ≡ Some b → ⊥
  pub global_bufs : (p : ℕ) → p < g.global_bufs → s.global_bufs p ≡ Some b → ⊥

-- the variables hold these numbers
abbrev pub Hold : State → List Int → List ℕ → Type 0
Hold s [] [] = Unit {0}
Hold s [] (i ∷ is) = ⊥
Hold s (x ∷ xs) [] = ⊥
Hold s (x ∷ xs) (i ∷ is) = (read_int x s ≡ Is (pos i)) × Hold s xs is

-- What the setting of a variable leaves: all but that variable is as it was, whatever is due then.
-- It must not know what the value is for.
use Rattle.std.proofs.Common.{◌≡◌, ◌∙◌, ap, refl, ℕ, ◌+◌, ℤ}
use Rattle.std.specs.Prelude.{Option, max}
use Rattle.aplc_cprof.specs.declared.syntax.Int.{Int}
use Rattle.aplc_cprof.specs.declared.syntax.Int.TheVariants as int
use Rattle.aplc_cprof.specs.declared.syntax.Buf.{Buf}
use Rattle.aplc_cprof.specs.declared.syntax.Buf.TheVariants as buf
use Rattle.aplc_cprof.specs.Machine.{Todo, State, Is, held, or_unset, read_int, named_buf, set_int, settled}
use Rattle.aplc_cprof.proofs.Stores.{read_same, read_other}

-- t is s after a step that set x to v
pub record Written (x : Int) (v : ℤ) (s t : State) : Type 0 where
  pub ints : t.ints ≡ (set_int x v s).ints
  pub global_ints : t.global_ints ≡ (set_int x v s).global_ints
  pub bufs : t.bufs ≡ s.bufs
  pub global_bufs : t.global_bufs ≡ s.global_bufs
  pub heap : t.heap ≡ s.heap
  pub callers : t.callers ≡ s.callers
  pub places : t.places ≡ s.places
  pub marks : t.marks ≡ s.marks
  pub read_count : t.read_count ≡ s.read_count
  pub input : t.input ≡ s.input
  pub output : t.output ≡ s.output
  pub steps : t.steps ≡ s.steps + 1
  pub peak : t.peak ≡ max s.peak (held s)

-- what a set, checked arithmetic, a width and a read's count come to
pub written : (x : Int) (v : ℤ) (s : State) (rest : Todo) → Written x v s (settled (record (set_int x v s) { todo = rest }))
written (int.Local k) v s rest = record { ints = refl; global_ints = refl; bufs = refl; global_bufs = refl; heap = refl; callers = refl; places = refl; marks = refl; read_count = refl; input = refl; output = refl; steps = refl; peak = refl }
written (int.Global k) v s rest = record { ints = refl; global_ints = refl; bufs = refl; global_bufs = refl; heap = refl; callers = refl; places = refl; marks = refl; read_count = refl; input = refl; output = refl; steps = refl; peak = refl }

read_written : (x y : Int) (v : ℤ) (s t : State) → Written x v s t → read_int y t ≡ read_int y (set_int x v s)
read_written x (int.Local k) v s t w = ap (λ (g : ℕ → Option ℤ). or_unset (g k)) w.ints
read_written x (int.Global k) v s t w = ap (λ (g : ℕ → ℤ). Is (g k)) w.global_ints

-- the variable has its value
pub written_here : (x : Int) (v : ℤ) (s t : State) → Written x v s t → read_int x t ≡ Is v
written_here x v s t w = read_written x x v s t w ∙ read_same x v s

-- the others keep theirs
pub written_other : (x y : Int) (v : ℤ) (s t : State) → Written x v s t → (y ≡ x → ⊥) → read_int y t ≡ read_int y s
written_other x y v s t w ne = read_written x y v s t w ∙ read_other x y v s ne

-- and so do all buffer variables
pub written_named : (x : Int) (p : Buf) (v : ℤ) (s t : State) → Written x v s t → named_buf p t ≡ named_buf p s
written_named x (buf.Local k) v s t w = ap (λ (g : ℕ → Option ℕ). g k) w.bufs
written_named x (buf.Global k) v s t w = ap (λ (g : ℕ → Option ℕ). g k) w.global_bufs

-- Functions: what is left to be read behind the first line of each.
use Rattle.std.specs.Prelude.{◌≡◌, ℕ, ◌^◌, List, [], ◌++◌, codes, Bool, true, false, nat_lt, IsTrue}
use Rattle.aplc_cprof.specs.declared.syntax.CFunction.{CFunction}
use Rattle.aplc_cprof.specs.declared.syntax.CStmt.{CStmt}
use Rattle.aplc_cprof.specs.Text.{declaration, local_int, local_buf, stmts_text}
use Rattle.aplc_cprof.specs.WellFormed.{Scope, is_function}
use Rattle.aplc_cread.specs.declared.answer.Mode.{Mode}
use Rattle.aplc_cread.specs.declared.function.Counts.{Counts}
use Rattle.aplc_cread.specs.Reading.{Bind, Lit, Map}
use Rattle.aplc_cread.specs.Stmts.{BlockThen, BlockBehind}
use Rattle.aplc_cread.specs.Listings.{Listing}

-- the names that a function with i whole variables and b buffers may use in a program with so many of each kind
abbrev pub scope_in : Bool → Counts → ℕ → ℕ → Scope
scope_in true c i b = record { ints = 2 ^ 32; bufs = 2 ^ 32; global_ints = 2 ^ 32; global_bufs = 2 ^ 32; tables = 2 ^ 32; functions = 2 ^ 32 }
scope_in false c i b = record { ints = i; bufs = b; global_ints = c.ints; global_bufs = c.bufs; tables = c.tables; functions = c.functions }

abbrev pub scope_for : Mode → Counts → CFunction → Scope
scope_for m c f = scope_in m.free c f.ints f.bufs

-- behind the first line of a function
pub record Function (m : Mode) (c : Counts) (f : CFunction) (w : List ℕ) : Type 0 where
  pub fits : IsTrue (is_function (scope_for m c f) m.limit f)
  pub text : w ≡ declaration (codes "int64_t ") local_int f.ints ++ (declaration (codes "int64_t ") local_buf f.bufs ++ (stmts_text f.body ++ codes "}\n"))

-- behind the declaration of i whole variables
pub record Declared (m : Mode) (c : Counts) (i : ℕ) (f : CFunction) (w : List ℕ) : Type 0 where
  pub ints : f.ints ≡ i
  pub fits : IsTrue (is_function (scope_for m c f) m.limit f)
  pub text : w ≡ declaration (codes "int64_t ") local_buf f.bufs ++ (stmts_text f.body ++ codes "}\n")

abbrev pub made : ℕ → ℕ → List CStmt → CFunction
made i b ss = record { ints = i; bufs = b; body = ss }

-- behind the name of the first buffer
abbrev pub WithBufs : Mode → Counts → ℕ → CFunction → List ℕ → Type 0
WithBufs m c i = Bind (Listing (codes "*b") (codes " = 0") 1) (λ b. Map (made i b) (BlockThen (scope_in m.free c i b) m.limit (codes "\n")))

-- behind an opening that declares no whole variables, whether or not it is a keyword
abbrev pub OpenedBy : Mode → Counts → ℕ → ℕ → Bool → CFunction → List ℕ → Type 0
OpenedBy m c i k true = Bind (BlockBehind (scope_in m.free c i 0) m.limit k) (λ ss. Map (λ u. made i 0 ss) (Lit (codes "\n")))
OpenedBy m c i k false = WithBufs m c i

abbrev pub Opened : Mode → Counts → ℕ → ℕ → CFunction → List ℕ → Type 0
Opened m c i k = OpenedBy m c i k (nat_lt k 16)

-- behind any opening
abbrev pub StartedBy : Mode → Counts → ℕ → Bool → CFunction → List ℕ → Type 0
StartedBy m c k true = Opened m c 0 k
StartedBy m c k false = Bind (Listing (codes "v") [] 1) (Declared m c)

abbrev pub Started : Mode → Counts → ℕ → CFunction → List ℕ → Type 0
Started m c k = StartedBy m c k (nat_lt k 17)

-- Programs: what is left to be read behind the first lines of one.
use Rattle.std.specs.Prelude.{◌≡◌, ℕ, zero, suc, ◌+◌, ◌-◌, ◌<◌, ◌≤◌, ◌^◌, List, [], ◌∷◌, ◌++◌, codes, length, ℤ, Option, Some, None, Bool, true, false, ◌||◌, nat_lt, nat_eq, IsTrue}
use Rattle.aplc_cprof.specs.declared.syntax.CFunction.{CFunction}
use Rattle.aplc_cprof.specs.declared.syntax.CProgram.{CProgram}
use Rattle.aplc_cprof.specs.Preamble.{preamble, tail}
use Rattle.aplc_cprof.specs.Text.{declaration, global_int, global_buf, tables_text, prototypes_text, functions_text}
use Rattle.aplc_cprof.specs.WellFormed.{are_tables, are_functions}
use Rattle.aplc_cread.specs.declared.answer.Mode.{Mode}
use Rattle.aplc_cread.specs.declared.function.Counts.{Counts}
use Rattle.aplc_cread.specs.declared.below.Code.{Code}
use Rattle.aplc_cread.specs.Reading.{Bind, Lit, Map, After}
use Rattle.aplc_cread.specs.Listings.{numbered, Listing}
use Rattle.aplc_cread.specs.Tables.{Table}
use Rattle.aplc_cread.specs.Functions.{scope_for, Function}
use Rattle.aplc_cread.specs.Refusal.{Program}

-- ---- Functions

-- n functions from number k on, and the tail
pub record Functions (m : Mode) (c : Counts) (k n : ℕ) (fs : List CFunction) (w : List ℕ) : Type 0 where
  pub many : length fs ≡ n
  pub fit : IsTrue (are_functions (scope_for m c) m.limit fs)
  pub text : w ≡ functions_text k fs ++ tail

-- behind the first line of the first of n functions, where the next has number k
abbrev pub FunctionsOn : Mode → Counts → ℕ → ℕ → List CFunction → List ℕ → Type 0
FunctionsOn m c k n = Bind (Function m c) (λ f. Map (λ fs. f ∷ fs) (Functions m c k (n - 1)))

-- ---- Prototypes

abbrev pub counted : ℕ → ℕ → ℕ → ℕ → Counts
counted t i b n = record { tables = t; ints = i; bufs = b; functions = n }

-- the functions of a program with so many tables and global variables: their prototypes from number k on, their texts and the tail
pub record Prototyped (m : Mode) (t i b k : ℕ) (fs : List CFunction) (w : List ℕ) : Type 0 where
  pub some : k ≤ length fs
  pub below : length fs < 2 ^ 32
  pub fit : IsTrue (are_functions (scope_for m (counted t i b (length fs))) m.limit fs)
  pub text : w ≡ prototypes_text k (length fs - k) ++ (functions_text 0 fs ++ tail)

-- behind `static void f`, where the first function follows or one more prototype
abbrev pub PrototypedBy : Mode → ℕ → ℕ → ℕ → ℕ → Bool → List CFunction → List ℕ → Type 0
PrototypedBy m t i b k true = After (codes "0(void) {\n") (FunctionsOn m (counted t i b k) 1 k)
PrototypedBy m t i b k false = Bind (Lit (numbered [] (codes "(void);\n") k)) (λ u. Prototyped m t i b (k + 1))

abbrev pub Prototype : Mode → ℕ → ℕ → ℕ → ℕ → List CFunction → List ℕ → Type 0
Prototype m t i b k fs w = (z : Bool) × PrototypedBy m t i b k z fs w

abbrev pub is_zero : Option ℕ → Bool
is_zero None = false
is_zero (Some c) = nat_eq c 48

-- whether k prototypes are all
abbrev pub is_last : ℕ → Option ℕ → Bool
is_last k c = is_zero c || nat_eq k (2 ^ 32 - 1)

-- ---- Global variables

abbrev pub coded : ℕ → ℕ → List CFunction → Code
coded i b fs = record { ints = i; bufs = b; functions = fs }

-- well formed behind t tables
pub record CodeFits (m : Mode) (t : ℕ) (x : Code) : Type 0 where
  pub ints : x.ints < 2 ^ 32
  pub bufs : x.bufs < 2 ^ 32
  pub some : 0 < length x.functions
  pub below : length x.functions < 2 ^ 32
  pub fit : IsTrue (are_functions (scope_for m (counted t x.ints x.bufs (length x.functions))) m.limit x.functions)

abbrev pub buffers_text : Code → List ℕ
buffers_text x = declaration (codes "static int64_t ") global_buf x.bufs ++ (prototypes_text 0 (length x.functions) ++ (functions_text 0 x.functions ++ tail))

abbrev pub code_text : Code → List ℕ
code_text x = declaration (codes "static int64_t ") global_int x.ints ++ buffers_text x

-- behind the declaration of i whole variables
pub record Buffers (m : Mode) (t i : ℕ) (x : Code) (w : List ℕ) : Type 0 where
  pub ints : x.ints ≡ i
  pub fits : CodeFits m t x
  pub text : w ≡ buffers_text x

-- what a line at the top of a text begins with
abbrev pub headings : List (List ℕ)
headings = codes "static void f0(void);\n" ∷ codes "static int64_t *h0" ∷ codes "static int64_t g0" ∷ codes "static const int64_t k" ∷ []

abbrev pub heading_may : Bool → Bool → Bool → List Bool
heading_may tables ints bufs = true ∷ bufs ∷ ints ∷ tables ∷ []

-- behind the first prototype, or behind the name of the first buffer
abbrev pub BuffersBehind : Mode → ℕ → ℕ → ℕ → Code → List ℕ → Type 0
BuffersBehind m t i zero = Map (coded i 0) (Prototyped m t i 0 1)
BuffersBehind m t i (suc k) = Bind (Listing (codes "*h") [] 1) (λ b. After (codes "static void f0(void);\n") (Map (coded i b) (Prototyped m t i b 1)))

-- the same, or behind the name of the first whole variable
abbrev pub GlobalsBehind : Mode → ℕ → ℕ → Code → List ℕ → Type 0
GlobalsBehind m t zero = BuffersBehind m t 0 0
GlobalsBehind m t (suc zero) = BuffersBehind m t 0 1
GlobalsBehind m t (suc (suc k)) = Bind (Listing (codes "g") [] 1) (Buffers m t)

-- ---- Tables

-- tables from number k on, and all behind them
pub record Tabled (m : Mode) (k : ℕ) (x : List (List ℤ) × Code) (w : List ℕ) : Type 0 where
  pub few : k + length x.0 < 2 ^ 32
  pub tables : IsTrue (are_tables x.0)
  pub fits : CodeFits m (k + length x.0) x.1
  pub text : w ≡ tables_text k x.0 ++ code_text x.1

abbrev pub with_table : List ℤ → List (List ℤ) × Code → List (List ℤ) × Code
with_table t x = (t ∷ x.0, x.1)

-- behind a heading, whether or not it ends the tables
abbrev pub TabledBy : Mode → ℕ → ℕ → Bool → List (List ℤ) × Code → List ℕ → Type 0
TabledBy m k i true = Map (λ x. ([], x)) (GlobalsBehind m k i)
TabledBy m k i false = Bind (Table k) (λ t. Map (with_table t) (Tabled m (k + 1)))

abbrev pub TabledBehind : Mode → ℕ → ℕ → List (List ℤ) × Code → List ℕ → Type 0
TabledBehind m k i = TabledBy m k i (nat_lt i 3)

abbrev pub whole_of : List (List ℤ) × Code → CProgram
whole_of x = record { tables = x.0; ints = x.1.ints; bufs = x.1.bufs; functions = x.1.functions }

-- behind the preamble
abbrev pub Preambled : Mode → CProgram → List ℕ → Type 0
Preambled m p w = Program m p (preamble ++ w)

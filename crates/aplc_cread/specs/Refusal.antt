-- Where and why bytes that are the text of no program are refused.
use Rattle.std.specs.Prelude.{ℕ, ◌<◌, ◌≤◌, ◌^◌, ◌⊎◌, List, ◌++◌, ◌≡◌, Option, Some, None, Bool, true, false, IsTrue, length, take, get_or, ◌||◌, ◌&&◌, nat_eq, nat_le, Result, Ok, Err}
use Rattle.std.specs.Borrow.{Bor}
use Rattle.aplc_cprof.specs.declared.syntax.CFunction.{CFunction}
use Rattle.aplc_cprof.specs.declared.syntax.CProgram.{CProgram}
use Rattle.aplc_cprof.specs.Preamble.{preamble}
use Rattle.aplc_cprof.specs.Text.{program_text}
use Rattle.aplc_cprof.specs.WellFormed.{Scope, declared, is_formed, IsText}
use Rattle.aplc_cread.specs.Reading.{first}
use Rattle.aplc_cread.specs.declared.answer.CRefusal.{CRefusal}
use Rattle.aplc_cread.specs.declared.answer.CStop.{CStop}
use Rattle.aplc_cread.specs.declared.answer.CStop.TheVariants as stop
use Rattle.aplc_cread.specs.declared.answer.Mode.{Mode}
use Rattle.aplc_cread.specs.declared.lexical.Halt.{Halt}
use Rattle.aplc_cread.specs.declared.lexical.Halt.TheVariants as halt

-- ---- Texts under other rules

-- every name that can be written counts as declared
abbrev pub every_name : CProgram → CFunction → Scope
every_name p f = record { ints = 2 ^ 32; bufs = 2 ^ 32; global_ints = 2 ^ 32; global_bufs = 2 ^ 32; tables = 2 ^ 32; functions = 2 ^ 32 }

-- w is the text of p, which is well formed within a scope and a room
pub record IsTextWithin (scope : CProgram → CFunction → Scope) (room : Option ℕ) (p : CProgram) (w : List ℕ) : Type 0 where
  pub formed : IsTrue (is_formed scope room p)
  pub text : w ≡ program_text p

-- w begins such a text
abbrev pub Begins : (CProgram → CFunction → Scope) → Option ℕ → List ℕ → Type 0
Begins scope room w = (p : CProgram) × ((v : List ℕ) × IsTextWithin scope room p (w ++ v))

-- a prefix longer than n begins such a text
abbrev pub Goes : (CProgram → CFunction → Scope) → Option ℕ → List ℕ → ℕ → Type 0
Goes scope room bytes n = (k : ℕ) × (n < k) × (k ≤ length bytes) × Begins scope room (take k bytes)

-- ---- The place and the number

-- so many bytes from the front begin a text, and no more do
pub record IsPlace (bytes : List ℕ) (n : ℕ) : Type 0 where
  pub within : n ≤ length bytes
  pub begins : Begins declared (Some 256) (take n bytes)
  pub longest : Goes declared (Some 256) bytes n → ⊥

-- a line feed, or one of the bytes from blank to tilde
abbrev pub is_text_byte : ℕ → Bool
is_text_byte c = nat_eq c 10 || (nat_le 32 c && nat_le c 126)

-- another byte stands at the place
abbrev pub HasBadByte : List ℕ → ℕ → Type 0
HasBadByte bytes n = (n < length bytes) × (is_text_byte (get_or bytes n 0) ≡ false)

-- this number where the fact holds, and otherwise another
abbrev pub FirstOf : Type 0 → ℕ → ℕ → Type 0 → Type 0
FirstOf fact number c otherwise = (fact × (c ≡ number)) ⊎ ((fact → ⊥) × otherwise)

-- PREAMBLE, BYTE, NESTING where no limit would do more, NAME where more names would, else FORM
abbrev pub IsNumber : List ℕ → ℕ → ℕ → Type 0
IsNumber bytes n c =
    FirstOf (n < length preamble) 30 c
    (FirstOf (HasBadByte bytes n) 31 c
    (FirstOf (Goes declared None bytes n) 34 c
    (FirstOf (Goes every_name (Some 256) bytes n) 33 c (c ≡ 32))))

-- the bytes are no text, and this is where and why
pub record IsRefused (bytes : List ℕ) (r : CRefusal) : Type 0 where
  pub no_text : (p : CProgram) → IsText bytes p → ⊥
  pub place : IsPlace bytes r.place
  pub number : IsNumber bytes r.place r.number

-- what is said where no program is given
abbrev pub IsStop : List ℕ → CStop → Type 0
IsStop bytes stop.Memory = Unit {0}
IsStop bytes (stop.Refused r) = IsRefused bytes r

-- p was read, unless memory ran out
abbrev pub IsRead : CProgram → Result CProgram CStop → Type 0
IsRead p (Ok q) = q ≡ p
IsRead p (Err stop.Memory) = Unit {0}
IsRead p (Err (stop.Refused r)) = ⊥

-- the number is one of the five
abbrev pub HasNumber : CStop → Type 0
HasNumber stop.Memory = Unit {0}
HasNumber (stop.Refused r) = (30 ≤ r.number) × (r.number ≤ 34)

-- ---- On the way to it

abbrev pub IsAnswer : List ℕ → Result CProgram CStop → Type 0
IsAnswer bytes (Ok p) = IsText bytes p
IsAnswer bytes (Err e) = IsStop bytes e

abbrev pub scope_of : Bool → CProgram → CFunction → Scope
scope_of true = every_name
scope_of false = declared

abbrev pub Program : Mode → CProgram → List ℕ → Type 0
Program m = IsTextWithin (scope_of m.free) m.limit

abbrev pub strict : Mode
strict = record { limit = Some 256; free = false }

abbrev pub deep : Mode
deep = record { limit = None; free = false }

abbrev pub free : Mode
free = record { limit = Some 256; free = true }

abbrev pub BeginsBy : Mode → List ℕ → Type 0
BeginsBy m = Begins (scope_of m.free) m.limit

-- the bytes before the rest begin a text, and with the next byte none
pub record Ends (m : Mode) (bytes rest : List ℕ) : Type 0 where
  pub front : List ℕ
  pub here : bytes ≡ front ++ rest
  pub begins : BeginsBy m front
  pub none : (p : CProgram) (w v : List ℕ) → Program m p w → first v ≡ first rest → w ≡ front ++ v → ⊥

pub record Stopped (m : Mode) (bytes : List ℕ) (h : Halt) : Type 0 where
  pub ends : (rest : Bor (List ℕ)) → h ≡ halt.At rest → Ends m bytes rest.now

abbrev pub Whole : Mode → List ℕ → Result CProgram Halt → Type 0
Whole m bytes (Ok p) = Program m p bytes
Whole m bytes (Err h) = Stopped m bytes h

abbrev pub IsBegun : Mode → List ℕ → Result Bool CStop → Type 0
IsBegun m bytes (Ok true) = BeginsBy m bytes
IsBegun m bytes (Ok false) = BeginsBy m bytes → ⊥
IsBegun m bytes (Err e) = e ≡ stop.Memory

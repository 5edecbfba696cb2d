-- What the work of a call comes to, what is said of it on err, and the status.
use Rattle.std.specs.Prelude.{ℕ, nat_eq, nat_lt, ◌||◌, if◌then◌else◌, List, [], ◌++◌, Option, None, Some, unwrap_or, Result, Ok, Err, codes}
use Rattle.std.specs.Fmt.{decimal, signed_decimal}
use Rattle.std.specs.List.{flat_map}
use Rattle.aplc_scalar.specs.declared.kind.FaultKind.{FaultKind}
use Rattle.aplc_scalar.specs.declared.kind.FaultKind.TheVariants as fault
use Rattle.aplc_cprof.specs.declared.syntax.StuckCause.{StuckCause}
use Rattle.aplc_cprof.specs.declared.syntax.StuckCause.TheVariants as cause
use Rattle.aplc_cprof.specs.Behaviour.{Standing}
use Rattle.aplc_cprof.specs.Behaviour as standing
use Rattle.aplc_cprof.specs.Machine.{Place, Places}
use Rattle.aplc_crun.specs.Running.{places_of}
use Rattle.aplc_lex.specs.declared.token.Refusal.{Refusal}
use Rattle.aplc_cli.specs.declared.status.Ending.{Ending}
use Rattle.aplc_cli.specs.declared.status.Ending.TheVariants as ending
use Rattle.aplc_cli.specs.declared.status.RunEnd.TheVariants as end
use Rattle.aplc_cli.specs.declared.status.Stop.{Stop}
use Rattle.aplc_cli.specs.declared.status.Stop.TheVariants as stop
use Rattle.aplc_cli.specs.declared.status.Status.{Status}
use Rattle.aplc_cli.specs.declared.status.Status.TheVariants as status

-- What the work comes to where nothing outside fails: the text was handed over, or it was carried out and ended,
-- faulted with a kind at its places, spent its steps, or got stuck.
pub data Came : Type 0 where
  Compiled : Came
  Ended : Came
  Faulted : FaultKind → Places → Came
  Spent : Came
  Stuck : StuckCause → ℕ → Came

abbrev pub came_of : Standing → Came
came_of (standing.Ended o ms) = Ended
came_of (standing.Faulted o ms k ps) = Faulted k ps
came_of (standing.Going o ms) = Spent
came_of (standing.Stuck o ms c n) = Stuck c n

-- the same of what the code keeps: the places of a fault are the machine's
abbrev pub told : Ending → Came
told ending.Compiled = Compiled
told (ending.Ran end.Ended m) = Ended
told (ending.Ran (end.Faulted k) m) = Faulted k (places_of m)
told (ending.Ran end.Spent m) = Spent
told (ending.Ran (end.Stuck c n) m) = Stuck c n

abbrev pub result_map : {T U E : Type 0} → (T → U) → Result T E → Result U E
result_map f (Ok x) = Ok (f x)
result_map f (Err e) = Err e

-- ---- The line on err

-- the words of refusals 1 to 5: of tokens
abbrev pub token_word : ℕ → List ℕ
token_word n =
    if nat_eq n 1 then codes "UTF8" else (if nat_eq n 2 then codes "CHARACTER" else (if nat_eq n 3 then codes "QUOTE"
    else (if nat_eq n 4 then codes "NUMBER" else codes "NAME")))

-- of 6 to 11: of statements, headers and declarations
abbrev pub program_word : ℕ → List ℕ
program_word n =
    if nat_eq n 6 then codes "HEADER" else (if nat_eq n 7 then codes "FORM" else (if nat_eq n 8 then codes "NESTING"
    else (if nat_eq n 9 then codes "NODES" else (if nat_eq n 10 then codes "COUNT" else codes "DECLARATION"))))

-- of 12 to 16: of names
abbrev pub name_word : ℕ → List ℕ
name_word n =
    if nat_eq n 12 then codes "TWICE" else (if nat_eq n 13 then codes "FUNCTION" else (if nat_eq n 14 then codes "SHADOW"
    else (if nat_eq n 15 then codes "MAIN" else codes "ASSIGN")))

-- of 17 to 22: of facts
abbrev pub fact_word : ℕ → List ℕ
fact_word n =
    if nat_eq n 17 then codes "TYPE" else (if nat_eq n 18 then codes "RANK" else (if nat_eq n 19 then codes "RESHAPE"
    else (if nat_eq n 20 then codes "TRANSPOSE" else (if nat_eq n 21 then codes "DECLARED" else codes "AXIS"))))

-- of files and C texts, and of what is not built
abbrev pub text_word : ℕ → Option (List ℕ)
text_word n =
    if nat_eq n 30 then Some (codes "PREAMBLE") else (if nat_eq n 31 then Some (codes "BYTE")
    else (if nat_eq n 32 then Some (codes "FORM") else (if nat_eq n 33 then Some (codes "NAME")
    else (if nat_eq n 34 then Some (codes "NESTING") else (if nat_eq n 23 || nat_eq n 35 then Some (codes "TOO LONG")
    else (if nat_eq n 90 then Some (codes "LATER") else None))))))

-- the word of a refusal's number; a number that no stage gives has none
abbrev pub refusal_word : ℕ → Option (List ℕ)
refusal_word n =
    if nat_lt n 1 then None else (if nat_lt n 6 then Some (token_word n) else (if nat_lt n 12 then Some (program_word n)
    else (if nat_lt n 17 then Some (name_word n) else (if nat_lt n 23 then Some (fact_word n) else text_word n))))

abbrev pub fault_word : FaultKind → List ℕ
fault_word fault.Domain = codes "DOMAIN"
fault_word fault.Index = codes "INDEX"
fault_word fault.Length = codes "LENGTH"
fault_word fault.Limit = codes "LIMIT"
fault_word fault.Rank = codes "RANK"
fault_word fault.Value = codes "VALUE"
fault_word fault.Input = codes "INPUT"

abbrev pub cause_word : StuckCause → List ℕ
cause_word cause.Outside = codes "OUTSIDE"
cause_word cause.Freed = codes "FREED"
cause_word cause.Unset = codes "UNSET"
cause_word cause.Range = codes "RANGE"

abbrev pub usage_line : List ℕ
usage_line =
    codes "usage: aplc [-o NAME] FILE; aplc --run [--steps M] [--stats] [-o NAME] FILE; aplc --check FILE; "
    ++ codes "aplc --exec [--steps M] [--stats] FILE; aplc --make N\n"

abbrev pub refusal_line : Refusal → List ℕ
refusal_line r = codes "REFUSED " ++ (decimal r.number ++ (codes " " ++ (unwrap_or (refusal_word r.number) [] ++ (codes " AT " ++ (decimal r.place ++ codes "\n")))))

-- a place, up to the end of its line
abbrev pub place_end : Place → List ℕ
place_end p = p.name ++ (codes "[" ++ (signed_decimal p.line ++ codes "]\n"))

abbrev pub fault_line : FaultKind → Place → List ℕ
fault_line k p = fault_word k ++ (codes " ERROR " ++ place_end p)

abbrev pub caller_line : Place → List ℕ
caller_line p = codes "FROM " ++ place_end p

-- where the fault came, and then each caller, the innermost first
abbrev pub fault_lines : FaultKind → Places → List ℕ
fault_lines k ps = fault_line k ps.here ++ flat_map caller_line ps.behind

abbrev pub stuck_line : StuckCause → ℕ → List ℕ
stuck_line c n = codes "STUCK " ++ (cause_word c ++ (codes " AT " ++ (decimal n ++ codes "\n")))

abbrev pub line : Result Came Stop → List ℕ
line (Ok Compiled) = []
line (Ok Ended) = []
line (Ok (Faulted k ps)) = fault_lines k ps
line (Ok Spent) = codes "STEP LIMIT\n"
line (Ok (Stuck c n)) = stuck_line c n
line (Err stop.Usage) = usage_line
line (Err (stop.Refused r)) = refusal_line r
line (Err stop.ReadFault) = codes "READ FAULT\n"
line (Err stop.WriteFault) = codes "WRITE FAULT\n"
line (Err stop.Memory) = codes "NO MEMORY\n"

-- ---- The status

abbrev pub status_of : Result Came Stop → Status
status_of (Ok Compiled) = status.Done
status_of (Ok Ended) = status.Done
status_of (Ok (Faulted k ps)) = status.Faulted
status_of (Ok Spent) = status.Spent
status_of (Ok (Stuck c n)) = status.Stuck
status_of (Err stop.Usage) = status.Usage
status_of (Err (stop.Refused r)) = status.Refused
status_of (Err stop.ReadFault) = status.ReadFault
status_of (Err stop.WriteFault) = status.WriteFault
status_of (Err stop.Memory) = status.Memory

abbrev pub code_of : Status → ℕ
code_of status.Done = 0
code_of status.Faulted = 1
code_of status.Refused = 2
code_of status.Usage = 3
code_of status.ReadFault = 4
code_of status.WriteFault = 5
code_of status.Spent = 6
code_of status.Memory = 7
code_of status.Stuck = 8

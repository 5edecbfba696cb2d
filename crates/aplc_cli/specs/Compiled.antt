-- What a file is compiled to, or why it is refused.
use Rattle.std.specs.Prelude.{◌≡◌, ◌⊎◌, ℕ, ◌<◌, ◌≤◌, List, length, Option, None, Some}
use Rattle.aplc_lex.specs.declared.token.Refusal.{Refusal}
use Rattle.aplc_syntax.specs.declared.tree.Program.{Program}
use Rattle.aplc_names.specs.PlainPrograms.{plain}
use Rattle.aplc_names.specs.States.{Marking}
use Rattle.aplc_gen.specs.Shown.{source_behaviour}
use Rattle.aplc_cprof.specs.declared.syntax.CProgram.{CProgram}
use Rattle.aplc_cprof.specs.WellFormed.{IsText, IsWellFormed}
use Rattle.aplc_cprof.specs.Behaviour.{behaviour, Alike}
use Rattle.aplc_cread.specs.declared.answer.CRefusal.{CRefusal}
use Rattle.aplc_cread.specs.Refusal.{IsRefused}
use Rattle.aplc_cli.specs.declared.words.Action.{Action}
use Rattle.aplc_cli.specs.declared.words.Action.TheVariants as action
use Rattle.aplc_cli.specs.Sources.{IsSource, IsRefusedSource}

-- A file spells a program that nothing refuses, and on every input a well-formed C program behaves as that does,
-- whichever nodes its account counts.
pub record Behaves (file : List ℕ) (program : CProgram) : Type 0 where
  pub source : Program
  pub is_source : IsSource file source
  pub formed : IsWellFormed program
  pub alike : (m : Marking) (input : List ℕ) → Alike (source_behaviour (plain source) m input) (behaviour program input)

-- The headline for one file: such a program, and the text is that of the program.
pub record IsCompiled (file text : List ℕ) (program : CProgram) : Type 0 where
  pub behaves : Behaves file program
  pub is_text : IsText text program

-- ---- C texts

-- the most bytes that a C text may have
abbrev pub text_limit : ℕ
text_limit = 67108864

abbrev pub too_long_text : Refusal
too_long_text = record { number = 35; place = text_limit }

abbrev pub text_refusal : CRefusal → Refusal
text_refusal r = record { number = r.number; place = r.place }

-- a file is refused as a C text: it is too long, or the reader of texts refuses it
abbrev pub IsRefusedText : List ℕ → Refusal → Type 0
IsRefusedText file r =
    ((text_limit < length file) × (r ≡ too_long_text))
    ⊎ ((length file ≤ text_limit) × ((c : CRefusal) × IsRefused file c × (r ≡ text_refusal c)))

-- ---- What is said of a file, by what is to be done with it

-- the reason for which it is refused
abbrev pub HasReason : Action → List ℕ → Refusal → Type 0
HasReason (action.Exec m) file r = IsRefusedText file r
HasReason a file r = IsRefusedSource file r

-- its program and the text of that: it is compiled to both, or it is itself the text
abbrev pub IsProgramOf : Action → List ℕ → List ℕ → CProgram → Type 0
IsProgramOf (action.Exec m) file text program = (length file ≤ text_limit) × IsText file program
IsProgramOf a file text program = IsCompiled file text program

abbrev pub Judged : Action → List ℕ → Option Refusal → List ℕ → CProgram → Type 0
Judged a file None text program = IsProgramOf a file text program
Judged a file (Some r) text program = HasReason a file r

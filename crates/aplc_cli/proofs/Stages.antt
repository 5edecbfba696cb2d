-- From the stages to what a file is compiled to.
use Rattle.std.proofs.Common.{◌≡◌, ℕ, ◌≤◌, List, length, None, Some, sym, subst}
use Rattle.std.specs.Prelude.{Result, Ok, Err, IfOk, IfErr}
use Rattle.aplc_lex.specs.Tokens.{refusal, AreTokens}
use Rattle.aplc_lex.specs.Tokens as lex
use Rattle.aplc_lex.specs.declared.token.Token.{Token}
use Rattle.aplc_lex.specs.declared.token.Refusal.{Refusal}
use Rattle.aplc_lex.specs.declared.token.Stop.{Stop as LexStop}
use Rattle.aplc_lex.specs.declared.token.Stop.TheVariants as lex_stop
use Rattle.aplc_syntax.specs.Programs.{IsProgramOf}
use Rattle.aplc_syntax.specs.Refusals as syntax
use Rattle.aplc_names.specs.Clashes as names
use Rattle.aplc_syntax.specs.declared.tree.Program.{Program}
use Rattle.aplc_names.specs.Programs.{IsClean}
use Rattle.aplc_names.specs.PlainPrograms.{plain}
use Rattle.aplc_infer.specs.Families.{IsWellTyped}
use Rattle.aplc_infer.specs.Shown.{IsInferred}
use Rattle.aplc_infer.specs.Stopped.{SaysTyping}
use Rattle.aplc_names.specs.States.{Marking}
use Rattle.aplc_gen.specs.Shown.{source_behaviour}
use Rattle.aplc_cprof.specs.declared.syntax.CProgram.{CProgram}
use Rattle.aplc_cprof.specs.Text.{program_text}
use Rattle.aplc_cprof.specs.WellFormed.{IsWellFormed}
use Rattle.aplc_cprof.specs.Behaviour.{behaviour, Alike}
use Rattle.aplc_gen.specs.Unbuilt.{FactList, first_place}
use Rattle.aplc_cli.specs.Sources.{Spells, IsUnbuiltAt, IsSource, IsRefusedSource, in_tokens, in_program, in_names, in_facts, not_built}
use Rattle.aplc_cli.specs.Call.{RefusesSource}
use Rattle.aplc_cli.specs.Compiled.{Behaves, IsCompiled}

-- ---- What is made

pub behaves : (file : List ℕ) (source : Program) (c : CProgram) → IsSource file source → IsWellFormed c → ((m : Marking) (input : List ℕ) → Alike (source_behaviour (plain source) m input) (behaviour c input)) → Behaves file c
behaves file source c is_source formed alike = record { source = source; is_source = is_source; formed = formed; alike = alike }

pub compiled : (file text : List ℕ) (c : CProgram) → Behaves file c → text ≡ program_text c → IsCompiled file text c
compiled file text c b t = record { behaves = b; is_text = record { well_formed = b.formed; text = t } }

-- ---- What the stages refuse

pub lexed : (file : List ℕ) (s : LexStop) → length file ≤ 262144 → lex.Refuses file s → RefusesSource file s
lexed file (lex_stop.Refused r) short h = in_tokens short h
lexed file lex_stop.Memory short h = tt

pub parsed : (file : List ℕ) (ts : List Token) (s : LexStop) → length file ≤ 262144 → AreTokens file ts → syntax.Refuses file ts s → RefusesSource file s
parsed file ts (lex_stop.Refused r) short tokens h = in_program short tokens h
parsed file ts lex_stop.Memory short tokens h = tt

pub spells : (file : List ℕ) (ts : List Token) (p : Program) → length file ≤ 262144 → AreTokens file ts → IsProgramOf file ts p → Spells file p
spells file ts p short tokens program = record { short = short; tokens = ts; are_tokens = tokens; is_program = program }

resolved : (file : List ℕ) (p : Program) (s : LexStop) → Spells file p → syntax.SaysFirst (names.Stands p) s → RefusesSource file s
resolved file p (lex_stop.Refused r) said h = in_names said h
resolved file p lex_stop.Memory said h = tt

pub typed : (file : List ℕ) (p : Program) (s : LexStop) → Spells file p → IsClean p → SaysTyping p s → RefusesSource file s
typed file p (lex_stop.Refused r) said clean h = in_facts said clean h
typed file p lex_stop.Memory said clean h = tt

-- an answer of the resolver, whose program is p
module _ (file : List ℕ) (p : Program) (said : Spells file p) where
  pub ok_spells : (r : Result Program LexStop) → IfOk r (λ b. b ≡ p) → IfOk r (λ b. Spells file b)
  ok_spells (Ok b) e = subst (λ x. Spells file x) (sym e) said
  ok_spells (Err s) e = tt

  pub ok_clean : (r : Result Program LexStop) → IfOk r (λ b. b ≡ p) → IfOk r (λ b. IsClean p) → IfOk r (λ b. IsClean b)
  ok_clean (Ok b) e h = subst (λ x. IsClean x) (sym e) h
  ok_clean (Err s) e h = tt

  pub err_refused : (r : Result Program LexStop) → IfErr r (syntax.SaysFirst (names.Stands p)) → IfErr r (RefusesSource file)
  err_refused (Ok b) h = tt
  err_refused (Err s) h = resolved file p s said h

-- ---- What is built

pub stopped : (file : List ℕ) (s : LexStop) (r : Refusal) → s ≡ lex_stop.Refused r → RefusesSource file s → IsRefusedSource file r
stopped file (lex_stop.Refused q) r e h = subst (λ x. IsRefusedSource file x) (let same : q ≡ r = cc in same) h
stopped file lex_stop.Memory r e h = absurd (cc)

module _ (file : List ℕ) (p : Program) (facts : FactList) (said : Spells file p) (clean : IsClean p) (typed_so : IsWellTyped p) (inferred : IsInferred p facts) where
  pub unbuilt : (place : ℕ) → Some place ≡ first_place p facts → IsRefusedSource file (refusal 90 place)
  unbuilt place e = not_built said clean typed_so (record { facts = facts; inferred = inferred; first = sym e })

  pub source : None ≡ first_place p facts → IsSource file p
  source e = record { spells = said; clean = clean; typed = typed_so; built = record { facts = facts; inferred = inferred; first = sym e } }

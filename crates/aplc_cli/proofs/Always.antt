-- A file is a source, or it is refused.
use Rattle.std.proofs.Common.{◌≡◌, ◌⊎◌, inl, inr, ℕ, ◌<◌, ◌≤◌, List, length, Option, None, Some, refl}
use Rattle.aplc_lex.specs.declared.token.Token.{Token}
use Rattle.aplc_lex.specs.declared.token.Refusal.{Refusal}
use Rattle.aplc_lex.specs.Firsts.{IsFirst}
use Rattle.aplc_lex.specs.Tokens.{AreTokens}
use Rattle.aplc_lex.specs.Tokens as lex
use Rattle.aplc_lex.proofs.Always.{tokens_or_first}
use Rattle.aplc_syntax.specs.declared.tree.Program.{Program}
use Rattle.aplc_syntax.specs.Programs.{IsProgramOf}
use Rattle.aplc_syntax.specs.Refusals as syntax
use Rattle.aplc_syntax.proofs.Always.{program_or_first}
use Rattle.aplc_names.specs.Programs.{IsClean}
use Rattle.aplc_names.specs.Clashes as names
use Rattle.aplc_names.proofs.Decided.{clean_or_first}
use Rattle.aplc_infer.specs.Families.{IsWellTyped, StandsFirst}
use Rattle.aplc_infer.specs.Shown.{IsInferred}
use Rattle.aplc_infer.proofs.Existing as infer
use Rattle.aplc_gen.specs.Unbuilt.{FactList, first_place}
use Rattle.aplc_cli.specs.Sources.{source_limit, Spells, IsUnbuiltAt, IsSource, IsRefusedSource, too_long, in_tokens, in_program, in_names, in_facts, not_built}
use Rattle.aplc_cli.proofs.Facts.{has_facts}
use Rattle.aplc_cli.proofs.Places.{order}

abbrev Verdict : List ℕ → Type 0
Verdict file = ((p : Program) × IsSource file p) ⊎ ((r : Refusal) × IsRefusedSource file r)

module _ (file : List ℕ) where
  built : (p : Program) → Spells file p → IsClean p → IsWellTyped p → (o : Option ℕ) → IsUnbuiltAt p o → Verdict file
  built p said clean well None e = inl (p, record { spells = said; clean = clean; typed = well; built = e })
  built p said clean well (Some place) e = inr (_, not_built said clean well e)

  inferred : (p : Program) → Spells file p → IsClean p → IsWellTyped p → (facts : FactList) × IsInferred p facts → Verdict file
  inferred p said clean well h = built p said clean well (first_place p h.0) (record { facts = h.0; inferred = h.1; first = refl })

  typed : (p : Program) → Spells file p → IsClean p → IsWellTyped p ⊎ ((r : Refusal) × StandsFirst p r) → Verdict file
  typed p said clean (inl well) = inferred p said clean well (has_facts p well)
  typed p said clean (inr h) = inr (h.0, in_facts said clean h.1)

  resolved : (p : Program) → Spells file p → IsClean p ⊎ ((r : Refusal) × IsFirst (names.Stands p) r) → Verdict file
  resolved p said (inl clean) = typed p said clean (infer.always_one p)
  resolved p said (inr h) = inr (h.0, in_names said h.1)

  parsed : (ts : List Token) → length file ≤ source_limit → AreTokens file ts → ((p : Program) × IsProgramOf file ts p) ⊎ ((r : Refusal) × IsFirst (syntax.Stands file ts) r) → Verdict file
  parsed ts short tokens (inl h) = let said : Spells file h.0 = record { short = short; tokens = ts; are_tokens = tokens; is_program = h.1 } in resolved h.0 said (clean_or_first h.0)
  parsed ts short tokens (inr h) = inr (h.0, in_program short tokens h.1)

  lexed : length file ≤ source_limit → ((ts : List Token) × AreTokens file ts) ⊎ ((r : Refusal) × lex.IsFirst file r) → Verdict file
  lexed short (inl h) = parsed h.0 short h.1 (program_or_first file h.0 h.1)
  lexed short (inr h) = inr (h.0, in_tokens short h.1)

  sized : (source_limit < length file) ⊎ (length file ≤ source_limit) → Verdict file
  sized (inl long) = inr (_, too_long long)
  sized (inr short) = lexed short (tokens_or_first file)

pub source_or_refused : (file : List ℕ) → Verdict file
source_or_refused file = sized file (order source_limit (length file))

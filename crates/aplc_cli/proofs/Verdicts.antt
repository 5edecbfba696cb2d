-- A file is one source, or has one refusal.
use Rattle.std.proofs.Common.{◌≡◌, inl, inr, ℕ, List, Option, None, Some, refl, ap, subst, ◌∙◌, arith}
use Rattle.std.specs.Prelude.{IsUtf8}
use Rattle.std.specs.Str.{IsValidUpTo}
use Rattle.std.proofs.lemmas.Str.{utf8_valid_len-IsUtf8, utf8_valid_len-IsValidUpTo}
use Rattle.aplc_lex.specs.declared.token.Token.{Token}
use Rattle.aplc_lex.specs.declared.token.Refusal.{Refusal}
use Rattle.aplc_lex.specs.Tokens.{refusal, AreTokens, IsBefore}
use Rattle.aplc_lex.specs.Tokens as lex
use Rattle.aplc_lex.proofs.Steps.{cut_once, cut_or_met}
use Rattle.aplc_syntax.specs.declared.tree.Program.{Program}
use Rattle.aplc_syntax.specs.Programs.{IsProgramOf}
use Rattle.aplc_syntax.specs.Refusals.{IsFirst}
use Rattle.aplc_syntax.specs.Refusals as syntax
use Rattle.aplc_syntax.proofs.OneProgram.{one_program}
use Rattle.aplc_syntax.proofs.Clean.{clean}
use Rattle.aplc_names.specs.Programs.{IsClean}
use Rattle.aplc_names.specs.Clashes as names
use Rattle.aplc_infer.specs.Families.{IsWellTyped, StandsFirst}
use Rattle.aplc_infer.proofs.Verdicts as facts
use Rattle.aplc_cli.specs.Sources.{Spells, IsUnbuiltAt, IsSource, IsRefusedSource, too_long, in_tokens, in_program, in_names, in_facts, not_built}
use Rattle.aplc_cli.proofs.Unbuilt.{place_once}

-- ---- Tokens

valid_or_not : (text : List ℕ) (n : ℕ) → IsUtf8 text → IsValidUpTo text n → ⊥
valid_or_not text n u v = let a = utf8_valid_len-IsUtf8 text u in let b = utf8_valid_len-IsValidUpTo text n v in let c = v.short in omega arith

has_tokens : (file : List ℕ) (ts : List Token) (r : Refusal) → AreTokens file ts → lex.IsFirst file r → ⊥
has_tokens file ts r tokens first = by_cause first.stands
  where
    by_cause : lex.IsCause file r → ⊥
    by_cause (inl c) = valid_or_not file r.place tokens.utf8 c.1
    by_cause (inr c) = cut_or_met tokens.cut c.0

-- ---- Refusals that come first

before_both : (r s : Refusal) → IsBefore r s → IsBefore s r → r ≡ s
before_both r s (inl h) (inl k) = absurd (omega arith)
before_both r s (inl h) (inr k) = let e = k.0 in absurd (omega arith)
before_both r s (inr h) (inl k) = let e = h.0 in absurd (omega arith)
before_both r s (inr h) (inr k) =
    let p : r.place ≡ s.place = h.0 in
    let a = h.1 in
    let b = k.1 in
    let n : r.number ≡ s.number = omega arith in
    ap (λ x. refusal x r.place) n ∙ ap (refusal s.number) p

lex_once : (file : List ℕ) (r s : Refusal) → lex.IsFirst file r → lex.IsFirst file s → r ≡ s
lex_once file r s h k = before_both r s (h.first s k.stands) (k.first r h.stands)

first_once : (P : Refusal → Type 0) (r s : Refusal) → IsFirst P r → IsFirst P s → r ≡ s
first_once P r s h k = before_both r s (h.first s k.stands) (k.first r h.stands)

-- ---- Programs

module _ (file : List ℕ) where
  spells_once : (p q : Program) → Spells file p → Spells file q → p ≡ q
  spells_once p q a b =
      let same : b.tokens ≡ a.tokens = cut_once a.are_tokens.cut b.are_tokens.cut in
      one_program file a.tokens p q a.is_program (subst (λ ts. IsProgramOf file ts q) same b.is_program)

  no_refusal : (p : Program) (ts : List Token) (r : Refusal) → Spells file p → AreTokens file ts → IsFirst (syntax.Stands file ts) r → ⊥
  no_refusal p ts r a tokens first =
      let same : a.tokens ≡ ts = cut_once tokens.cut a.are_tokens.cut in
      clean file ts p (subst (λ us. IsProgramOf file us p) same a.is_program) r first.stands

  no_clash : (p q : Program) (r : Refusal) → Spells file p → IsClean p → Spells file q → IsFirst (names.Stands q) r → ⊥
  no_clash p q r a h b first = h r (subst (λ x. names.Stands x r) (spells_once q p b a) first.stands)

  no_typing : (p q : Program) (r : Refusal) → Spells file p → IsWellTyped p → Spells file q → StandsFirst q r → ⊥
  no_typing p q r a h b first = facts.not_both p r h (subst (λ x. StandsFirst x r) (spells_once q p b a) first)

  typing_once : (p q : Program) (r s : Refusal) → Spells file p → StandsFirst p r → Spells file q → StandsFirst q s → r ≡ s
  typing_once p q r s a h b k = facts.one_refusal p r s h (subst (λ x. StandsFirst x s) (spells_once q p b a) k)

  pub one_source : (p q : Program) → IsSource file p → IsSource file q → p ≡ q
  one_source p q a b = spells_once p q a.spells b.spells

  none_or_some : (p q : Program) (place : ℕ) → Spells file p → Spells file q → IsUnbuiltAt p None → IsUnbuiltAt q (Some place) → ⊥
  none_or_some p q place a b h k =
      let e : (let o : Option ℕ = None in o) ≡ Some place = place_once p None (Some place) h (subst (λ x. IsUnbuiltAt x (Some place)) (spells_once q p b a) k) in
      cc

  pub not_both : (p : Program) (r : Refusal) → IsSource file p → IsRefusedSource file r → ⊥
  not_both p _ s (too_long h) = let short = s.spells.short in omega arith
  not_both p _ s (in_tokens {r = r} short first) = has_tokens file s.spells.tokens r s.spells.are_tokens first
  not_both p _ s (in_program {ts = ts} {r = r} short tokens first) = no_refusal p ts r s.spells tokens first
  not_both p _ s (in_names {p = q} {r = r} said first) = no_clash p q r s.spells s.clean said first
  not_both p _ s (in_facts {p = q} {r = r} said c first) = no_typing p q r s.spells s.typed said first
  not_both p _ s (not_built {p = q} {place = place} said h w e) = none_or_some p q place s.spells said s.built e

  -- ---- Two refusals

  places_once : (p q : Program) (m n : ℕ) → Spells file p → Spells file q → IsUnbuiltAt p (Some m) → IsUnbuiltAt q (Some n) → refusal 90 m ≡ refusal 90 n
  places_once p q m n a b h k =
      let e : Some m ≡ Some n = place_once p (Some m) (Some n) h (subst (λ x. IsUnbuiltAt x (Some n)) (spells_once q p b a) k) in
      let same : m ≡ n = cc in
      ap (refusal 90) same

  pub one_refusal : (r s : Refusal) → IsRefusedSource file r → IsRefusedSource file s → r ≡ s
  one_refusal _ _ (too_long h) (too_long k) = refl
  one_refusal _ _ (too_long h) (in_tokens short k) = absurd (omega arith)
  one_refusal _ _ (too_long h) (in_program short t k) = absurd (omega arith)
  one_refusal _ _ (too_long h) (in_names said k) = let short = said.short in absurd (omega arith)
  one_refusal _ _ (too_long h) (in_facts said c k) = let short = said.short in absurd (omega arith)
  one_refusal _ _ (too_long h) (not_built said c w k) = let short = said.short in absurd (omega arith)
  one_refusal _ _ (in_tokens short h) (too_long k) = absurd (omega arith)
  one_refusal r s (in_tokens short h) (in_tokens l k) = lex_once file r s h k
  one_refusal r _ (in_tokens short h) (in_program {ts = ts} l t k) = absurd (has_tokens file ts r t h)
  one_refusal r _ (in_tokens short h) (in_names said k) = absurd (has_tokens file said.tokens r said.are_tokens h)
  one_refusal r _ (in_tokens short h) (in_facts said c k) = absurd (has_tokens file said.tokens r said.are_tokens h)
  one_refusal r _ (in_tokens short h) (not_built said c w k) = absurd (has_tokens file said.tokens r said.are_tokens h)
  one_refusal _ _ (in_program short t h) (too_long k) = absurd (omega arith)
  one_refusal _ s (in_program {ts = ts} short t h) (in_tokens l k) = absurd (has_tokens file ts s t k)
  one_refusal r s (in_program {ts = ts} short t h) (in_program {ts = us} l u k) =
      first_once (syntax.Stands file ts) r s h (subst (λ ws. IsFirst (syntax.Stands file ws) s) (cut_once t.cut u.cut) k)
  one_refusal r _ (in_program {ts = ts} short t h) (in_names {p = q} said k) = absurd (no_refusal q ts r said t h)
  one_refusal r _ (in_program {ts = ts} short t h) (in_facts {p = q} said c k) = absurd (no_refusal q ts r said t h)
  one_refusal r _ (in_program {ts = ts} short t h) (not_built {p = q} said c w k) = absurd (no_refusal q ts r said t h)
  one_refusal _ _ (in_names said h) (too_long k) = let short = said.short in absurd (omega arith)
  one_refusal _ s (in_names said h) (in_tokens l k) = absurd (has_tokens file said.tokens s said.are_tokens k)
  one_refusal _ s (in_names {p = p} said h) (in_program {ts = us} l u k) = absurd (no_refusal p us s said u k)
  one_refusal r s (in_names {p = p} said h) (in_names {p = q} other k) =
      first_once (names.Stands p) r s h (subst (λ x. IsFirst (names.Stands x) s) (spells_once q p other said) k)
  one_refusal r _ (in_names {p = p} said h) (in_facts {p = q} other c k) = absurd (no_clash q p r other c said h)
  one_refusal r _ (in_names {p = p} said h) (not_built {p = q} other c w k) = absurd (no_clash q p r other c said h)
  one_refusal _ _ (in_facts said c h) (too_long k) = let short = said.short in absurd (omega arith)
  one_refusal _ s (in_facts said c h) (in_tokens l k) = absurd (has_tokens file said.tokens s said.are_tokens k)
  one_refusal _ s (in_facts {p = p} said c h) (in_program {ts = us} l u k) = absurd (no_refusal p us s said u k)
  one_refusal _ s (in_facts {p = p} said c h) (in_names {p = q} other k) = absurd (no_clash p q s said c other k)
  one_refusal r s (in_facts {p = p} said c h) (in_facts {p = q} other d k) = typing_once p q r s said h other k
  one_refusal r _ (in_facts {p = p} said c h) (not_built {p = q} other d w k) = absurd (no_typing q p r other w said h)
  one_refusal _ _ (not_built said c w h) (too_long k) = let short = said.short in absurd (omega arith)
  one_refusal _ s (not_built said c w h) (in_tokens l k) = absurd (has_tokens file said.tokens s said.are_tokens k)
  one_refusal _ s (not_built {p = p} said c w h) (in_program {ts = us} l u k) = absurd (no_refusal p us s said u k)
  one_refusal _ s (not_built {p = p} said c w h) (in_names {p = q} other k) = absurd (no_clash p q s said c other k)
  one_refusal _ s (not_built {p = p} said c w h) (in_facts {p = q} other d k) = absurd (no_typing p q s said w other k)
  one_refusal _ _ (not_built {p = p} {place = m} said c w h) (not_built {p = q} {place = n} other d v k) = places_once p q m n said other h k

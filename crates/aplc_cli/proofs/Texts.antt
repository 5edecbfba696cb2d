-- A file is one C text, or has one refusal as such.
use Rattle.std.proofs.Common.{◌≡◌, inl, inr, ℕ, ◌<◌, ◌≤◌, List, [], ◌∷◌, length, take, None, Some, sym, refl, ap, ◌∙◌, arith}
use Rattle.aplc_cprof.specs.declared.syntax.CProgram.{CProgram}
use Rattle.aplc_cprof.specs.Preamble.{preamble}
use Rattle.aplc_cprof.specs.Text.{program_text}
use Rattle.aplc_cprof.specs.WellFormed.{declared, is_formed, IsText}
use Rattle.aplc_cprof.proofs.WellFormedPlain.{program_of_text}
use Rattle.aplc_cread.specs.declared.answer.CRefusal.{CRefusal}
use Rattle.aplc_cread.specs.Refusal.{every_name, Begins, Goes, HasBadByte, IsPlace, IsNumber}
use Rattle.aplc_cread.proofs.Answering.{one_refused}
use Rattle.aplc_lex.specs.declared.token.Refusal.{Refusal}
use Rattle.aplc_cli.specs.Compiled.{text_limit, text_refusal, IsRefusedText}
use Rattle.aplc_cli.proofs.Places.{order, nowhere}

pub one_text : (file : List ℕ) (p q : CProgram) → IsText file p → IsText file q → p ≡ q
one_text file p q a b = program_of_text file p q a b

pub not_both : (file : List ℕ) (p : CProgram) (r : Refusal) → length file ≤ text_limit → IsText file p → IsRefusedText file r → ⊥
not_both file p r short a (inl h) = let l = h.0 in omega arith
not_both file p r short a (inr h) = h.1.1.no_text p a

pub one_refusal : (file : List ℕ) (r s : Refusal) → IsRefusedText file r → IsRefusedText file s → r ≡ s
one_refusal file r s (inl h) (inl k) = h.1 ∙ sym k.1
one_refusal file r s (inl h) (inr k) = let l = h.0 in let m = k.0 in absurd (omega arith)
one_refusal file r s (inr h) (inl k) = let l = h.0 in let m = k.0 in absurd (omega arith)
one_refusal file r s (inr h) (inr k) = h.1.2 ∙ ap text_refusal (one_refused file h.1.0 k.1.0 h.1.1 k.1.1) ∙ sym k.1.2

-- ---- No file is neither

-- a program of one function that does nothing
abbrev idle : CProgram
idle = record { tables = []; ints = 0; bufs = 0; functions = record { ints = 0; bufs = 0; body = [] } ∷ [] }

-- no bytes begin its text
nothing_begins : Begins declared (Some 256) []
unfolding is_formed
nothing_begins = (idle, (program_text idle, record { formed = refl; text = refl }))

numbered : (file : List ℕ) (n : ℕ) → ((c : ℕ) → IsNumber file n c → ⊥) → ⊥
numbered file n never =
    let no_30 : (n < length preamble) → ⊥ = λ a. never 30 (inl (a, refl)) in
    let no_31 : HasBadByte file n → ⊥ = λ a. never 31 (inr (no_30, inl (a, refl))) in
    let no_34 : Goes declared None file n → ⊥ = λ a. never 34 (inr (no_30, inr (no_31, inl (a, refl)))) in
    let no_33 : Goes every_name (Some 256) file n → ⊥ = λ a. never 33 (inr (no_30, inr (no_31, inr (no_34, inl (a, refl))))) in
    never 32 (inr (no_30, inr (no_31, inr (no_34, inr (no_33, refl)))))

module _ (file : List ℕ) (no_text : (p : CProgram) → length file ≤ text_limit → IsText file p → ⊥) (no_refusal : (r : Refusal) → IsRefusedText file r → ⊥) where
  refused : length file ≤ text_limit → (c : CRefusal) → IsPlace file c.place → IsNumber file c.place c.number → ⊥
  refused short c place number = no_refusal (text_refusal c) (inr (short, (c, record { no_text = λ p a. no_text p short a; place = place; number = number }, refl)))

  placed : length file ≤ text_limit → (n : ℕ) → IsPlace file n → ⊥
  placed short n place = numbered file n (λ c number. refused short (record { number = c; place = n }) place number)

  pub neither : ⊥
  neither = elim (order text_limit (length file)) as (λ x. ⊥) [
    | inl long ↦ no_refusal _ (inl (long, refl))
    | inr short ↦ nowhere (λ n. Begins declared (Some 256) (take n file)) (length file)
        (λ n le begins last. placed short n (record { within = le; begins = begins; longest = λ g. last g.0 g.1 g.2 g.3 }))
        0 (omega arith) nothing_begins
  ]

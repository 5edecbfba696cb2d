-- Each refusal has a word.
use Rattle.std.proofs.Common.{◌≡◌, inl, inr, ℕ, List, refl, sym, subst}
use Rattle.std.specs.Prelude.{IsSome}
use Rattle.aplc_lex.specs.declared.token.Refusal.{Refusal}
use Rattle.aplc_lex.specs.Tokens as lex
use Rattle.aplc_lex.specs.declared.token.Token.{Token}
use Rattle.aplc_syntax.specs.declared.word.Word.{Word}
use Rattle.aplc_syntax.specs.Refusals as syntax
use Rattle.aplc_syntax.specs.declared.tree.Program.{Program}
use Rattle.aplc_names.specs.Clashes as names
use Rattle.aplc_infer.specs.declared.rule_break.RuleBreak.{RuleBreak}
use Rattle.aplc_infer.specs.declared.rule_break.RuleBreak.TheVariants as breaks
use Rattle.aplc_infer.specs.Rules.{number_of}
use Rattle.aplc_infer.specs.Families.{StandsFirst}
use Rattle.aplc_infer.proofs.Reasons.{first_reason}
use Rattle.aplc_cread.specs.Refusal.{IsNumber}
use Rattle.aplc_cli.specs.declared.words.Action.{Action}
use Rattle.aplc_cli.specs.declared.words.Action.TheVariants as action
use Rattle.aplc_cli.specs.Sources.{IsRefusedSource, too_long, in_tokens, in_program, in_names, in_facts, not_built}
use Rattle.aplc_cli.specs.Compiled.{HasReason, IsRefusedText}
use Rattle.aplc_cli.specs.Came.{refusal_word}
use Rattle.aplc_cli.proofs.Lexed.{met_word}

abbrev HasWord : Refusal → Type 0
HasWord r = IsSome (refusal_word r.number)

same_word : (m n : ℕ) → m ≡ n → IsSome (refusal_word n) → IsSome (refusal_word m)
same_word m n e w = subst (λ (i : ℕ). IsSome (refusal_word i)) (sym e) w

of_same : (r s : Refusal) → r ≡ s → HasWord s → HasWord r
of_same r s e w = subst HasWord (sym e) w

of_tokens : (file : List ℕ) (r : Refusal) → lex.IsCause file r → HasWord r
of_tokens file r (inl c) = same_word r.number 1 c.0 refl
of_tokens file r (inr c) = met_word c.0

of_statement : (ws : List Word) (r : Refusal) → syntax.StandsIn ws r → HasWord r
of_statement ws _ (syntax.deep d) = refl
of_statement ws _ (syntax.strayed s) = refl
of_statement _ _ (syntax.formless d s f) = refl
of_statement _ _ (syntax.too_many d y i m) = refl

of_program : (file : List ℕ) (ts : List Token) (r : Refusal) → syntax.Stands file ts r → HasWord r
of_program file ts _ (syntax.misheaded c e b) = refl
of_program file ts _ (syntax.misclosed c e i) = refl
of_program file ts _ (syntax.unclosed c e b) = refl
of_program file ts r (syntax.in_statement c i s) = of_statement _ r s
of_program file ts _ (syntax.line_1000 c e) = refl
of_program file ts _ (syntax.function_1000 e) = refl
of_program file ts _ (syntax.undeclared c e b) = refl
of_program file ts _ (syntax.second_origin l e f o d b) = refl
of_program file ts _ (syntax.not_bare c b) = refl

of_function : (hs : List _) (i : ℕ) (f : _) (r : Refusal) → names.StandsIn hs i f r → HasWord r
of_function hs i f r (names.local_again s) = of_same r _ s.gives.is refl
of_function hs i f r (names.local_taken s) = of_same r _ s.gives.is refl
of_function hs i f r (names.name_assigned s) = of_same r _ s.gives.is refl

of_names : (p : Program) (r : Refusal) → names.Stands p r → HasWord r
of_names p r (names.function_again s) = of_same r _ s.gives.is refl
of_names p r (names.var_again s) = of_same r _ s.gives.is refl
of_names p r (names.var_taken s) = of_same r _ s.gives.is refl
of_names p r (names.mainless s) = of_same r _ s.is refl
of_names p r (names.in_function s) = of_function _ _ _ r s.gives
of_names p r (names.in_shadow s) = of_same r _ s.gives.gives.is refl

break_word : (e : RuleBreak) → IsSome (refusal_word (number_of e))
break_word breaks.Kind = refl
break_word breaks.Rank = refl
break_word breaks.Reshape = refl
break_word breaks.Transpose = refl
break_word breaks.Declared = refl
break_word breaks.Axis = refl

of_facts : (p : Program) (r : Refusal) → StandsFirst p r → HasWord r
of_facts p r h = let found = first_reason p r h in same_word r.number (number_of found.0) found.1 (break_word found.0)

of_source : (file : List ℕ) (r : Refusal) → IsRefusedSource file r → HasWord r
of_source file _ (too_long l) = refl
of_source file r (in_tokens short f) = of_tokens file r f.stands
of_source file r (in_program {ts = ts} short t f) = of_program file ts r f.stands
of_source file r (in_names {p = p} said f) = of_names p r f.stands
of_source file r (in_facts {p = p} said c f) = of_facts p r f
of_source file _ (not_built said c w e) = refl

of_number : (bytes : List ℕ) (n c : ℕ) → IsNumber bytes n c → IsSome (refusal_word c)
of_number bytes n c (inl a) = same_word c 30 a.1 refl
of_number bytes n c (inr a) = elim a.1 [
  | inl b ↦ same_word c 31 b.1 refl
  | inr b ↦ elim b.1 [
    | inl d ↦ same_word c 34 d.1 refl
    | inr d ↦ elim d.1 [
      | inl e ↦ same_word c 33 e.1 refl
      | inr e ↦ same_word c 32 e.1 refl
    ]
  ]
]

of_text : (file : List ℕ) (r : Refusal) → IsRefusedText file r → HasWord r
of_text file r (inl h) = of_same r _ h.1 refl
of_text file r (inr h) = of_same r _ h.1.2 (of_number file h.1.0.place h.1.0.number h.1.1.number)

pub each_word : (a : Action) (file : List ℕ) (r : Refusal) → HasReason a file r → IsSome (refusal_word r.number)
each_word action.Compile file r h = of_source file r h
each_word (action.Run m) file r h = of_source file r h
each_word (action.Exec m) file r h = of_text file r h

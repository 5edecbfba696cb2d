-- Names by their numbers in code, and what is left of the tokens of a text.
use Rattle.std.specs.Prelude.{◌≡◌, ℕ, List, ◌++◌, map, fold}
use Rattle.std.specs.Borrow.{Bor}
use Rattle.aplc_lex.specs.declared.token.Token.{Token}
use Rattle.aplc_syntax.specs.declared.word.Word.{Word}
use Rattle.aplc_syntax.specs.Words.{with_token, word_of}

-- the slices that are noted have these bytes
abbrev pub AreLinked : List (Bor (List ℕ)) → List (List ℕ) → Type 0
AreLinked keys names = map (λ (k : Bor (List ℕ)). k.now) keys ≡ names

-- the names and the words of a text, where these were read before its last tokens
abbrev pub read_out : List ℕ → List (List ℕ) → List Word → List Token → List (List ℕ) × List Word
read_out text names out ts = (fold (with_token text) names ts, out ++ map (word_of text (fold (with_token text) names ts)) ts)

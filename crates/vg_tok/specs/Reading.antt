-- How far a text is read.
use Rattle.std.specs.Prelude.{◌≡◌, ◌⊎◌, ℕ, ◌+◌, ◌<◌, List, [], ◌∷◌, ◌++◌, length, Option, Some, None}
use Rattle.vg_tok.specs.declared.token.Kind.{Kind}
use Rattle.vg_tok.specs.declared.token.Kind.TheVariants as kinds
use Rattle.vg_tok.specs.declared.token.Token.{Token}
use Rattle.vg_tok.specs.declared.fault.TokFault.{TokFault}
use Rattle.vg_tok.specs.declared.fault.TokFault.TheVariants as faults
use Rattle.vg_tok.specs.declared.lexeme.Lexeme.{Lexeme}
use Rattle.vg_tok.specs.declared.lexeme.Lexeme.TheVariants as lexemes
use Rattle.vg_tok.specs.declared.word.Word.{Word}
use Rattle.vg_tok.specs.Tables.{reserved_words}
use Rattle.vg_tok.specs.Lexing.{Element, IsElement, AreElements, spelled, tokens_of, byte_len, entry_of, IsFaultAhead, IsToken, IsWide, IsRunOn, IsOpen, BeginsNothing}

-- a reserved word, or else a name
abbrev pub name_or_word : List ℕ → Option Word → Kind
name_or_word cs None = kinds.Name cs
name_or_word cs (Some w) = kinds.Word w

abbrev pub name_kind : List ℕ → Kind
name_kind cs = name_or_word cs (entry_of reserved_words cs)

-- an element of this kind stands at the front of the text, and this many characters are its text
pub record Begins (cs : List ℕ) (kind : Option Kind) (len : ℕ) : Type 0 where
  pub text : List ℕ
  pub rest : List ℕ
  pub whole : cs ≡ text ++ rest
  pub len_is : length text ≡ len
  pub some : 0 < len
  pub element : IsElement (record { text = text; kind = kind }) rest

-- what a lexeme says of the text at whose front it stands
abbrev pub Means : Lexeme → List ℕ → Type 0
Means lexemes.End cs = cs ≡ []
Means (lexemes.Gap n) cs = Begins cs None n
Means (lexemes.Name n) cs = (text : List ℕ) × (rest : List ℕ) × (cs ≡ text ++ rest) × (length text ≡ n) × (0 < n) × IsToken (name_kind text) text rest
Means (lexemes.Str n) cs = (body : List ℕ) × (length body + 2 ≡ n) × Begins cs (Some (kinds.Str body)) n
    × ((rest : List ℕ) × (cs ≡ 34 ∷ (body ++ 34 ∷ rest)))
Means (lexemes.Number v n) cs = Begins cs (Some (kinds.Number v)) n
Means (lexemes.Sign s n) cs = Begins cs (Some (kinds.Sign s)) n
Means lexemes.Wide cs = IsWide cs
Means (lexemes.RunOn n) cs = (text : List ℕ) × (length text ≡ n) × IsRunOn cs text
Means lexemes.Open cs = IsOpen cs
Means lexemes.Bad cs = BeginsNothing cs

-- the fault, unless memory ran out
abbrev pub IsFaultOr : TokFault → Type 0 → Type 0
IsFaultOr fault P = (fault ≡ faults.OutOfMemory) ⊎ P

-- the first characters are read up to the rest, which begins at the byte `at`
pub record IsReadTo (cs : List ℕ) (tokens : List Token) (rest : List ℕ) (at : ℕ) : Type 0 where
  pub elements : List Element
  pub whole : cs ≡ spelled elements ++ rest
  pub each : AreElements elements rest
  pub tokens_are : tokens ≡ tokens_of 0 elements
  pub place : at ≡ byte_len (spelled elements)

-- the characters and the bytes behind them have these tokens
abbrev pub HaveTokens : List ℕ → List ℕ → List Token → Type 0
HaveTokens cs behind tokens = (es : List Element) × (cs ≡ spelled es) × AreElements es [] × (tokens ≡ tokens_of 0 es) × (behind ≡ [])

-- the characters and the bytes behind them have this fault
abbrev pub HaveFault : List ℕ → List ℕ → TokFault → Type 0
HaveFault cs behind fault = (es : List Element) × (ahead : List ℕ) × (cs ≡ spelled es ++ ahead) × AreElements es ahead
    × IsFaultAhead (byte_len (spelled es)) ahead behind fault

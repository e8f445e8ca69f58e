-- Looking ahead behind `NAME <`: a memory access, or a comparison.
use Rattle.std.specs.Prelude.{ℕ, zero, suc, ◌+◌, ◌≤◌, Bool, false, List, [], ◌∷◌}
use Rattle.vg_tok.specs.declared.token.Kind.{Kind}
use Rattle.vg_tok.specs.declared.token.Kind.TheVariants as kind
use Rattle.vg_tok.specs.declared.sign.Sign.{Sign}
use Rattle.vg_tok.specs.declared.sign.Sign.TheVariants as signs
use Rattle.vg_tok.specs.declared.word.Word.{Word}
use Rattle.vg_tok.specs.declared.word.Word.TheVariants as words
use Rattle.vg_ast.specs.Placed.{Placed}
use Rattle.vg_parse_expr.specs.declared.lookahead.Passing.{Passing}
use Rattle.vg_parse_expr.specs.declared.lookahead.Passing.TheVariants.{Passes, Opens, Closes, Less, Greater, Stops}
use Rattle.vg_parse_expr.specs.declared.lookahead.Search.{Search}
use Rattle.vg_parse_expr.specs.declared.lookahead.Search.TheVariants.{Goes, Ends}
use Rattle.vg_parse_expr.specs.Lexeme.{begins_with}

abbrev pub sign_passing : Sign → Passing
sign_passing signs.OpenParenthesis = Opens
sign_passing signs.OpenBracket = Opens
sign_passing signs.CloseParenthesis = Closes
sign_passing signs.CloseBracket = Closes
sign_passing signs.Less = Less
sign_passing signs.Greater = Greater
sign_passing signs.Plus = Passes
sign_passing signs.Minus = Passes
sign_passing signs.Star = Passes
sign_passing signs.StarHash = Passes
sign_passing signs.Slash = Passes
sign_passing signs.Percent = Passes
sign_passing signs.Tilde = Passes
sign_passing signs.Bang = Passes
sign_passing _ = Stops

abbrev pub word_passing : Word → Passing
word_passing words.As = Passes
word_passing words.Join = Passes
word_passing words.Bits = Passes
word_passing words.UInt = Passes
word_passing words.SInt = Passes
word_passing words.Bool = Passes
word_passing _ = Stops

abbrev pub passing : Kind → Passing
passing (kind.Name text) = Passes
passing (kind.Number n) = Passes
passing (kind.Str text) = Stops
passing (kind.Sign s) = sign_passing s
passing (kind.Word w) = word_passing w

-- one token, with the search behind it, and whether a `(` stands behind it
abbrev pub search_step : (ℕ → ℕ → Bool) → Bool → Passing → ℕ → ℕ → Bool
search_step go call Passes zero angles = go 0 angles
search_step go call Opens zero angles = go 1 angles
search_step go call Closes zero angles = false
search_step go call Less zero angles = go 0 (suc angles)
search_step go call Greater zero zero = call
search_step go call Greater zero (suc angles) = go 0 angles
search_step go call Stops zero angles = false
search_step go call Passes (suc nested) angles = go (suc nested) angles
search_step go call Opens (suc nested) angles = go (suc (suc nested)) angles
search_step go call Closes (suc nested) angles = go nested angles
search_step go call Less (suc nested) angles = go (suc nested) angles
search_step go call Greater (suc nested) angles = go (suc nested) angles
search_step go call Stops (suc nested) angles = go (suc nested) angles

-- what the search finds from where it stands
abbrev pub goes_on : (ℕ → ℕ → Bool) → Search → Bool
goes_on go (Goes nested angles) = go nested angles
goes_on go (Ends found) = found

-- no more than so many brackets and `<` are open
abbrev pub IsWithin : ℕ → Search → Type 0
IsWithin most (Goes nested angles) = nested + angles ≤ most
IsWithin most (Ends found) = Unit {0}

-- Whether tokens go on with the rest of a sum, `>` and `(`, where so many brackets are open, and outside of them so
-- many `<`. What stands in brackets is passed over.
unfoldable pub searches : List Placed → ℕ → ℕ → Bool
searches [] nested angles = false
searches (t ∷ ts) nested angles = search_step (searches ts) (begins_with signs.OpenParenthesis ts) (passing t.kind) nested angles

-- whether what stands behind `NAME <` makes it an access to memory
abbrev pub is_access : List Placed → Bool
is_access ts = searches ts 0 0

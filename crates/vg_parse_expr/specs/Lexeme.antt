-- Taking one token from the front of a list.
use Rattle.std.specs.Prelude.{◌≡◌, ℕ, Bool, false, List, [], ◌∷◌, Option, Some, None, if◌then◌else◌}
use denote.Enum.Bare.{sameb}
use Rattle.vg_tok.specs.declared.token.Kind.{Kind}
use Rattle.vg_tok.specs.declared.token.Kind.TheVariants as kind
use Rattle.vg_tok.specs.declared.sign.Sign.{Sign}
use Rattle.vg_tok.specs.declared.word.Word.{Word}
use Rattle.vg_tok.specs.contracts.sign.Sign as signs
use Rattle.vg_tok.specs.contracts.word.Word as words
use Rattle.vg_ast.specs.Placed.{Placed}
use Rattle.vg_ast.specs.declared.name.Name.{Name}

infixl 10 ◌>>=◌
abbrev pub ◌>>=◌ : {A B : Type 0} → Option A → (A → Option B) → Option B
None >>= f = None
(Some x) >>= f = f x

-- what a function returned, seen by view, is what reading gives
abbrev pub Reads : {X Y : Type 0} → (X → Y) → Option X → Option Y → Type 0
Reads view (Some x) read = read ≡ Some (view x)
Reads view None read = read ≡ None

abbrev pub is_sign_kind : Sign → Kind → Bool
is_sign_kind s (kind.Sign t) = sameb signs.the_type s t
is_sign_kind s _ = false

abbrev pub is_word_kind : Word → Kind → Bool
is_word_kind w (kind.Word v) = sameb words.the_type w v
is_word_kind w _ = false

-- whether the first token is this sign
abbrev pub begins_with : Sign → List Placed → Bool
begins_with s [] = false
begins_with s (t ∷ ts) = is_sign_kind s t.kind

-- whether the first token is this reserved word
abbrev pub begins_with_word : Word → List Placed → Bool
begins_with_word w [] = false
begins_with_word w (t ∷ ts) = is_word_kind w t.kind

-- the place of a sign that the tokens begin with, and the tokens behind it
unfoldable pub sign_at : Sign → List Placed → Option (ℕ × List Placed)
sign_at s [] = None
sign_at s (t ∷ ts) = if is_sign_kind s t.kind then Some (t.at, ts) else None

-- the place of a reserved word that the tokens begin with, and the tokens behind it
unfoldable pub word_at : Word → List Placed → Option (ℕ × List Placed)
word_at w [] = None
word_at w (t ∷ ts) = if is_word_kind w t.kind then Some (t.at, ts) else None

abbrev pub name_of : Kind → ℕ → List Placed → Option (Name × List Placed)
name_of (kind.Name text) at ts = Some (record { text = text; at = at }, ts)
name_of _ at ts = None

-- a name that the tokens begin with, and the tokens behind it
unfoldable pub name_at : List Placed → Option (Name × List Placed)
name_at [] = None
name_at (t ∷ ts) = name_of t.kind t.at ts

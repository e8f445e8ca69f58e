-- The pieces of a text: its headings up to `{`, its items, roles and stage lines, and its closing braces. They are cut
-- by braces, parentheses and reserved words alone, so that each text has them, also one that isn't in the grammar.
use Rattle.std.specs.Prelude.{ℕ, ◌+◌, ◌-◌, Bool, true, false, ◌&&◌, ◌||◌, nat_eq, List, [], ◌∷◌, if◌then◌else◌}
use Rattle.vg_tok.specs.declared.token.Kind.{Kind}
use Rattle.vg_tok.specs.declared.token.Kind.TheVariants as kind
use Rattle.vg_tok.specs.declared.sign.Sign.TheVariants as signs
use Rattle.vg_tok.specs.declared.word.Word.{Word}
use Rattle.vg_tok.specs.declared.word.Word.TheVariants as words
use Rattle.vg_ast.specs.Placed.{Placed}

-- how many braces and parentheses are open at a token: those that are opened before it less those that are closed
-- before it, and 0 where more are closed
pub record Depths : Type 0 where
  pub braces : ℕ
  pub parentheses : ℕ

abbrev pub no_depths : Depths
no_depths = record { braces = 0; parentheses = 0 }

-- behind a token
abbrev pub depths_behind : Kind → Depths → Depths
depths_behind (kind.Sign signs.OpenBrace) d = record { braces = d.braces + 1; parentheses = d.parentheses }
depths_behind (kind.Sign signs.CloseBrace) d = record { braces = d.braces - 1; parentheses = d.parentheses }
depths_behind (kind.Sign signs.OpenParenthesis) d = record { braces = d.braces; parentheses = d.parentheses + 1 }
depths_behind (kind.Sign signs.CloseParenthesis) d = record { braces = d.braces; parentheses = d.parentheses - 1 }
depths_behind _ d = d

-- the words that an item, a role or a stage line begins with
abbrev pub is_leading : Word → Bool
is_leading words.Constant = true
is_leading words.Using = true
is_leading words.Function = true
is_leading words.Program = true
is_leading words.Memory = true
is_leading words.Register = true
is_leading words.Format = true
is_leading words.Instruction = true
is_leading words.Encoding = true
is_leading words.Assembly = true
is_leading words.Stack = true
is_leading words.Return = true
is_leading words.Arguments = true
is_leading words.Temporaries = true
is_leading words.Saved = true
is_leading words.Code = true
is_leading words.Data = true
is_leading words.Stage = true
is_leading words.Forward = true
is_leading _ = false

abbrev pub is_leading_kind : Kind → Bool
is_leading_kind (kind.Word w) = is_leading w
is_leading_kind _ = false

abbrev pub is_closing : Kind → Bool
is_closing (kind.Sign signs.CloseBrace) = true
is_closing _ = false

-- a `}` that closes a part: it stands at brace depth 1
abbrev pub closes_part : Depths → Kind → Bool
closes_part d k = nat_eq d.braces 1 && is_closing k

-- a token that a piece begins at, whatever stands before it
abbrev pub begins_piece : Depths → Kind → Bool
begins_piece d k = closes_part d k || (nat_eq d.braces 1 && nat_eq d.parentheses 0 && is_leading_kind k)

-- the tokens up to where the next piece begins, and the pieces from there on
abbrev pub Cut : Type 0
Cut = List Placed × List (List Placed)

abbrev pub cut_before : Bool → Placed → Cut → Cut
cut_before begins t behind = if begins then ([], (t ∷ behind.0) ∷ behind.1) else (t ∷ behind.0, behind.1)

-- cuts tokens, where so much is open before them; fresh says that a piece begins with the first of them, since it is
-- the first of the text or stands behind a `}` that closes a part
unfoldable pub cut : Depths → Bool → List Placed → Cut
cut d fresh [] = ([], [])
cut d fresh (t ∷ ts) = cut_before (fresh || begins_piece d t.kind) t (cut (depths_behind t.kind d) (closes_part d t.kind) ts)

-- the pieces of a text
abbrev pub pieces : List Placed → List (List Placed)
pieces ts = (cut no_depths true ts).1

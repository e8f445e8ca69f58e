-- The reserved words and the signs, each with its spelling.
use Rattle.std.specs.Prelude.{List, [], ◌∷◌, ℕ, codes}
use Rattle.vg_tok.specs.declared.word.Word.{Word}
use Rattle.vg_tok.specs.declared.word.Word.TheVariants as words
use Rattle.vg_tok.specs.declared.sign.Sign.{Sign}
use Rattle.vg_tok.specs.declared.sign.Sign.TheVariants as signs

-- the reserved words; no name is spelled as one of them
abbrev pub reserved_words : List (List ℕ × Word)
reserved_words =
    (codes "instruction", words.Instruction) ∷
    (codes "set", words.Set) ∷
    (codes "architecture", words.Architecture) ∷
    (codes "constant", words.Constant) ∷
    (codes "using", words.Using) ∷
    (codes "function", words.Function) ∷
    (codes "program", words.Program) ∷
    (codes "counter", words.Counter) ∷
    (codes "memory", words.Memory) ∷
    (codes "register", words.Register) ∷
    (codes "file", words.File) ∷
    (codes "zero", words.Zero) ∷
    (codes "format", words.Format) ∷
    (codes "encoding", words.Encoding) ∷
    (codes "assembly", words.Assembly) ∷
    (codes "mnemonic", words.Mnemonic) ∷
    (codes "decimal", words.Decimal) ∷
    (codes "signed", words.Signed) ∷
    (codes "hex", words.Hex) ∷
    (codes "target", words.Target) ∷
    (codes "Bits", words.Bits) ∷
    (codes "UInt", words.UInt) ∷
    (codes "SInt", words.SInt) ∷
    (codes "Bool", words.Bool) ∷
    (codes "let", words.Let) ∷
    (codes "in", words.In) ∷
    (codes "if", words.If) ∷
    (codes "then", words.Then) ∷
    (codes "else", words.Else) ∷
    (codes "as", words.As) ∷
    (codes "join", words.Join) ∷
    (codes "application", words.Application) ∷
    (codes "binary", words.Binary) ∷
    (codes "interface", words.Interface) ∷
    (codes "for", words.For) ∷
    (codes "stack", words.Stack) ∷
    (codes "pointer", words.Pointer) ∷
    (codes "return", words.Return) ∷
    (codes "address", words.Address) ∷
    (codes "value", words.Value) ∷
    (codes "arguments", words.Arguments) ∷
    (codes "temporaries", words.Temporaries) ∷
    (codes "saved", words.Saved) ∷
    (codes "code", words.Code) ∷
    (codes "data", words.Data) ∷
    (codes "micro", words.Micro) ∷
    (codes "stage", words.Stage) ∷
    (codes "forward", words.Forward) ∷
    (codes "read", words.Read) ∷
    (codes "write", words.Write) ∷
    (codes "compute", words.Compute) ∷
    (codes "resolve", words.Resolve) ∷
    []

-- the signs
abbrev pub all_signs : List (List ℕ × Sign)
all_signs =
    (codes ":=", signs.ColonEqual) ∷
    (codes "->", signs.Arrow) ∷
    (codes "..", signs.DotDot) ∷
    (codes "*#", signs.StarHash) ∷
    (codes "<<", signs.LessLess) ∷
    (codes ">>", signs.GreaterGreater) ∷
    (codes "<=", signs.LessEqual) ∷
    (codes ">=", signs.GreaterEqual) ∷
    (codes "!=", signs.BangEqual) ∷
    (codes "{", signs.OpenBrace) ∷
    (codes "}", signs.CloseBrace) ∷
    (codes "(", signs.OpenParenthesis) ∷
    (codes ")", signs.CloseParenthesis) ∷
    (codes "[", signs.OpenBracket) ∷
    (codes "]", signs.CloseBracket) ∷
    (codes "<", signs.Less) ∷
    (codes ">", signs.Greater) ∷
    (codes ",", signs.Comma) ∷
    (codes ":", signs.Colon) ∷
    (codes "=", signs.Equal) ∷
    (codes "+", signs.Plus) ∷
    (codes "-", signs.Minus) ∷
    (codes "*", signs.Star) ∷
    (codes "/", signs.Slash) ∷
    (codes "%", signs.Percent) ∷
    (codes "&", signs.Ampersand) ∷
    (codes "|", signs.Bar) ∷
    (codes "^", signs.Caret) ∷
    (codes "~", signs.Tilde) ∷
    (codes "!", signs.Bang) ∷
    []

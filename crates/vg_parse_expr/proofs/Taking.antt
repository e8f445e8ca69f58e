-- Single steps of readers: a token that is taken, a choice, and a part that is read before the next.
use Rattle.std.proofs.Common.{◌≡◌, ℕ, ◌+◌, Bool, true, false, cond, nat_lt, List, [], ◌∷◌, Option, Some, None, IfSome, refl, sym, ap, ◌∙◌}
use denote.Enum.Bare.{same_true, true_same}
use Rattle.vg_tok.specs.contracts.sign.Sign as sign_contract
use Rattle.vg_tok.specs.contracts.word.Word as word_contract
use Rattle.vg_tok.specs.declared.token.Kind.{Kind}
use Rattle.vg_tok.specs.declared.token.Kind.TheVariants as kind
use Rattle.vg_tok.specs.declared.sign.Sign.{Sign}
use Rattle.vg_tok.specs.declared.sign.Sign.TheVariants as signs
use Rattle.vg_tok.specs.declared.word.Word.{Word}
use Rattle.vg_tok.specs.declared.word.Word.TheVariants as words
use Rattle.vg_ast.specs.declared.name.Name.{Name}
use Rattle.vg_ast.specs.declared.expr.Expr.{Expr}
use Rattle.vg_ast.specs.declared.operator.BinaryOperator.{BinaryOperator}
use Rattle.vg_ast.specs.declared.operator.BinaryOperator.TheVariants as binaries
use Rattle.vg_ast.specs.declared.type_expr.BitsKind.{BitsKind}
use Rattle.vg_ast.specs.declared.type_expr.BitsKind.TheVariants as kinds
use Rattle.vg_ast.specs.Placed.{Placed, sign, word, name}
use Rattle.vg_ast.specs.Operator.{binary_sign, kind_word}
use Rattle.vg_parse_expr.specs.declared.operand.Operand.{Operand}
use Rattle.vg_parse_expr.specs.declared.infix.Infix.TheVariants as infixes
use Rattle.vg_parse_expr.specs.Lexeme.{◌>>=◌, is_sign_kind, is_word_kind, sign_at, word_at, name_of, name_at}
use Rattle.vg_parse_expr.specs.Reading.{over, sign_infix, kind_infix, bits_kind}

pub then_some : {A B : Type 0} (o : Option A) (f : A → Option B) (P : A → Type 0) (Q : B → Type 0)
    → IfSome o P → ((a : A) → P a → IfSome (f a) Q) → IfSome (o >>= f) Q
then_some None f P Q h k = tt
then_some (Some a) f P Q h k = k a h

pub some_map : {A : Type 0} (o : Option A) (P Q : A → Type 0) → ((a : A) → P a → Q a) → IfSome o P → IfSome o Q
some_map None P Q f h = tt
some_map (Some a) P Q f h = f a h

pub choose_some : {A : Type 0} (b : Bool) (x y : Option A) (Q : A → Type 0) → (b ≡ true → IfSome x Q) → (b ≡ false → IfSome y Q) → IfSome (cond b x y) Q
choose_some true x y Q f g = f refl
choose_some false x y Q f g = g refl

-- Tokens.

pub is_sign : (s : Sign) (t : Placed) → is_sign_kind s t.kind ≡ true → t ≡ sign s t.at
is_sign s t h = ap (λ k. record { kind = k; at = t.at }) (of_kind t.kind h)
  where
    of_kind : (k : Kind) → is_sign_kind s k ≡ true → k ≡ kind.Sign s
    of_kind (kind.Sign u) e = ap kind.Sign (sym (same_true sign_contract.the_type tt s u e))
    of_kind (kind.Name text) e = absurd (cc)
    of_kind (kind.Number n) e = absurd (cc)
    of_kind (kind.Str text) e = absurd (cc)
    of_kind (kind.Word w) e = absurd (cc)

pub is_word : (w : Word) (t : Placed) → is_word_kind w t.kind ≡ true → t ≡ word w t.at
is_word w t h = ap (λ k. record { kind = k; at = t.at }) (of_kind t.kind h)
  where
    of_kind : (k : Kind) → is_word_kind w k ≡ true → k ≡ kind.Word w
    of_kind (kind.Word v) e = ap kind.Word (sym (same_true word_contract.the_type tt w v e))
    of_kind (kind.Name text) e = absurd (cc)
    of_kind (kind.Number n) e = absurd (cc)
    of_kind (kind.Str text) e = absurd (cc)
    of_kind (kind.Sign s) e = absurd (cc)

pub sign_read : (s : Sign) (ts : List Placed) → IfSome (sign_at s ts) (λ found. ts ≡ sign s found.0 ∷ found.1)
unfolding sign_at
sign_read s [] = tt
sign_read s (t ∷ ts) = choose_some (is_sign_kind s t.kind) _ _ _ (λ h. ap (λ (x : Placed). x ∷ ts) (is_sign s t h)) (λ h. tt)

pub word_read : (w : Word) (ts : List Placed) → IfSome (word_at w ts) (λ found. ts ≡ word w found.0 ∷ found.1)
unfolding word_at
word_read w [] = tt
word_read w (t ∷ ts) = choose_some (is_word_kind w t.kind) _ _ _ (λ h. ap (λ (x : Placed). x ∷ ts) (is_word w t h)) (λ h. tt)

name_read_of : (k : Kind) (at : ℕ) (ts : List Placed) → IfSome (name_of k at ts) (λ found. record { kind = k; at = at } ∷ ts ≡ name found.0 ∷ found.1)
name_read_of (kind.Name text) at ts = refl
name_read_of (kind.Number n) at ts = tt
name_read_of (kind.Str text) at ts = tt
name_read_of (kind.Sign s) at ts = tt
name_read_of (kind.Word w) at ts = tt

pub name_read : (ts : List Placed) → IfSome (name_at ts) (λ found. ts ≡ name found.0 ∷ found.1)
unfolding name_at
name_read [] = tt
name_read (t ∷ ts) = name_read_of t.kind t.at ts

pub over_read : (tree : Expr) (level parts : ℕ) (rest : List Placed) (Q : Operand × List Placed → Type 0)
    → (nat_lt parts 64 ≡ true → Q (record { tree = tree; level = level; depth = 1 + parts }, rest)) → IfSome (over tree level parts rest) Q
over_read tree level parts rest Q f = choose_some (nat_lt parts 64) _ _ _ f (λ h. tt)

-- Which infix a token is.

cast_not_operator : (op : BinaryOperator) → infixes.Cast ≡ infixes.Operator op → ⊥
cast_not_operator op h = cc

slice_not_operator : (op : BinaryOperator) → infixes.Slice ≡ infixes.Operator op → ⊥
slice_not_operator op h = cc

operator_same : (a b : BinaryOperator) → Some (infixes.Operator a) ≡ Some (infixes.Operator b) → kind.Sign (binary_sign a) ≡ kind.Sign (binary_sign b)
operator_same a b h = let e : a ≡ b = cc in ap (λ o. kind.Sign (binary_sign o)) e

sign_operator : (s : Sign) (op : BinaryOperator) → sign_infix s ≡ Some (infixes.Operator op) → kind.Sign s ≡ kind.Sign (binary_sign op)
sign_operator signs.Bar op h = operator_same binaries.Or op h
sign_operator signs.Caret op h = operator_same binaries.Xor op h
sign_operator signs.Ampersand op h = operator_same binaries.And op h
sign_operator signs.Equal op h = operator_same binaries.Equal op h
sign_operator signs.BangEqual op h = operator_same binaries.NotEqual op h
sign_operator signs.Less op h = operator_same binaries.Less op h
sign_operator signs.LessEqual op h = operator_same binaries.LessEqual op h
sign_operator signs.Greater op h = operator_same binaries.Greater op h
sign_operator signs.GreaterEqual op h = operator_same binaries.GreaterEqual op h
sign_operator signs.LessLess op h = operator_same binaries.ShiftLeft op h
sign_operator signs.GreaterGreater op h = operator_same binaries.ShiftRight op h
sign_operator signs.Plus op h = operator_same binaries.Add op h
sign_operator signs.Minus op h = operator_same binaries.Subtract op h
sign_operator signs.Star op h = operator_same binaries.Multiply op h
sign_operator signs.StarHash op h = operator_same binaries.MultiplyLong op h
sign_operator signs.Slash op h = operator_same binaries.Divide op h
sign_operator signs.Percent op h = operator_same binaries.Remainder op h
sign_operator _ op h = absurd (cc)

pub operator_token : (k : Kind) (op : BinaryOperator) → kind_infix k ≡ Some (infixes.Operator op) → k ≡ kind.Sign (binary_sign op)
operator_token (kind.Sign s) op h = sign_operator s op h
operator_token (kind.Word w) op h = absurd (word_operator w h)
  where
    word_operator : (w : Word) → kind_infix (kind.Word w) ≡ Some (infixes.Operator op) → ⊥
    word_operator words.As h = cc
    word_operator _ h = cc
operator_token (kind.Name text) op h = absurd (cc)
operator_token (kind.Number n) op h = absurd (cc)
operator_token (kind.Str text) op h = absurd (cc)

sign_cast : (s : Sign) → sign_infix s ≡ Some infixes.Cast → ⊥
sign_cast signs.Bar h = cc
sign_cast signs.Caret h = cc
sign_cast signs.Ampersand h = cc
sign_cast signs.Equal h = cc
sign_cast signs.BangEqual h = cc
sign_cast signs.Less h = cc
sign_cast signs.LessEqual h = cc
sign_cast signs.Greater h = cc
sign_cast signs.GreaterEqual h = cc
sign_cast signs.LessLess h = cc
sign_cast signs.GreaterGreater h = cc
sign_cast signs.Plus h = cc
sign_cast signs.Minus h = cc
sign_cast signs.Star h = cc
sign_cast signs.StarHash h = cc
sign_cast signs.Slash h = cc
sign_cast signs.Percent h = cc
sign_cast signs.OpenBracket h = cc
sign_cast _ h = cc

pub cast_token : (k : Kind) → kind_infix k ≡ Some infixes.Cast → k ≡ kind.Word words.As
cast_token (kind.Sign s) h = absurd (sign_cast s h)
cast_token (kind.Word w) h = word_cast w h
  where
    word_cast : (w : Word) → kind_infix (kind.Word w) ≡ Some infixes.Cast → kind.Word w ≡ kind.Word words.As
    word_cast words.As h = refl
    word_cast _ h = absurd (cc)
cast_token (kind.Name text) h = absurd (cc)
cast_token (kind.Number n) h = absurd (cc)
cast_token (kind.Str text) h = absurd (cc)

sign_slice : (s : Sign) → sign_infix s ≡ Some infixes.Slice → kind.Sign s ≡ kind.Sign signs.OpenBracket
sign_slice signs.Bar h = absurd (cc)
sign_slice signs.Caret h = absurd (cc)
sign_slice signs.Ampersand h = absurd (cc)
sign_slice signs.Equal h = absurd (cc)
sign_slice signs.BangEqual h = absurd (cc)
sign_slice signs.Less h = absurd (cc)
sign_slice signs.LessEqual h = absurd (cc)
sign_slice signs.Greater h = absurd (cc)
sign_slice signs.GreaterEqual h = absurd (cc)
sign_slice signs.LessLess h = absurd (cc)
sign_slice signs.GreaterGreater h = absurd (cc)
sign_slice signs.Plus h = absurd (cc)
sign_slice signs.Minus h = absurd (cc)
sign_slice signs.Star h = absurd (cc)
sign_slice signs.StarHash h = absurd (cc)
sign_slice signs.Slash h = absurd (cc)
sign_slice signs.Percent h = absurd (cc)
sign_slice signs.OpenBracket h = refl
sign_slice _ h = absurd (cc)

pub slice_token : (k : Kind) → kind_infix k ≡ Some infixes.Slice → k ≡ kind.Sign signs.OpenBracket
slice_token (kind.Sign s) h = sign_slice s h
slice_token (kind.Word w) h = absurd (word_slice w h)
  where
    word_slice : (w : Word) → kind_infix (kind.Word w) ≡ Some infixes.Slice → ⊥
    word_slice words.As h = cc
    word_slice _ h = cc
slice_token (kind.Name text) h = absurd (cc)
slice_token (kind.Number n) h = absurd (cc)
slice_token (kind.Str text) h = absurd (cc)

word_bits : (w : Word) (b : BitsKind) → bits_kind (kind.Word w) ≡ Some b → kind.Word w ≡ kind.Word (kind_word b)
word_bits words.Bits b h = let e : kinds.Bits ≡ b = cc in ap (λ x. kind.Word (kind_word x)) e
word_bits words.UInt b h = let e : kinds.UInt ≡ b = cc in ap (λ x. kind.Word (kind_word x)) e
word_bits words.SInt b h = let e : kinds.SInt ≡ b = cc in ap (λ x. kind.Word (kind_word x)) e
word_bits _ b h = absurd (cc)

pub bits_token : (k : Kind) (b : BitsKind) → bits_kind k ≡ Some b → k ≡ kind.Word (kind_word b)
bits_token (kind.Word w) b h = word_bits w b h
bits_token (kind.Sign s) b h = absurd (cc)
bits_token (kind.Name text) b h = absurd (cc)
bits_token (kind.Number n) b h = absurd (cc)
bits_token (kind.Str text) b h = absurd (cc)

-- The same steps, where they succeed.

pub then_is : {A B : Type 0} (o : Option A) (f : A → Option B) (a : A) (y : Option B) → o ≡ Some a → f a ≡ y → (o >>= f) ≡ y
then_is o f a y e h = ap (λ x. x >>= f) e ∙ h

pub if_true : {A : Type 0} (b : Bool) (x y z : A) → b ≡ true → x ≡ z → cond b x y ≡ z
if_true true x y z h e = e
if_true false x y z h e = cc

pub if_false : {A : Type 0} (b : Bool) (x y z : A) → b ≡ false → y ≡ z → cond b x y ≡ z
if_false false x y z h e = e
if_false true x y z h e = cc

pub sign_is : (s : Sign) (at : ℕ) (ts : List Placed) → sign_at s (sign s at ∷ ts) ≡ Some (at, ts)
unfolding sign_at
sign_is s at ts = if_true (is_sign_kind s (kind.Sign s)) _ _ _ (true_same sign_contract.the_type s s refl) refl

pub word_is : (w : Word) (at : ℕ) (ts : List Placed) → word_at w (word w at ∷ ts) ≡ Some (at, ts)
unfolding word_at
word_is w at ts = if_true (is_word_kind w (kind.Word w)) _ _ _ (true_same word_contract.the_type w w refl) refl

pub over_is : (tree : Expr) (level parts : ℕ) (rest : List Placed) → nat_lt parts 64 ≡ true
    → over tree level parts rest ≡ Some (record { tree = tree; level = level; depth = 1 + parts }, rest)
over_is tree level parts rest h = if_true (nat_lt parts 64) _ _ _ h refl

pub name_is : (m : Name) (ts : List Placed) → name_at (name m ∷ ts) ≡ Some (m, ts)
unfolding name_at
name_is m ts = refl

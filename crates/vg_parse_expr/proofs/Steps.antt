-- One step of the reader, as the code takes it.
use Rattle.std.proofs.Common.{◌≡◌, ℕ, zero, suc, ◌-◌, ◌<◌, ◌≤◌, ◌+◌, Bool, true, false, List, [], ◌∷◌, ◌++◌, max, Option, Some, None, if◌then◌else◌, refl, ap, sym, ◌∙◌, arith}
use Rattle.std.specs.Prelude.{◌&&◌, nat_eq}
use Rattle.std.proofs.lemmas.Option.{none-some}
use Rattle.std.proofs.lemmas.Bool.Decides.{nat_tests}
use Rattle.vg_tok.specs.declared.word.Word.{Word}
use Rattle.vg_tok.specs.declared.word.Word.TheVariants as words
use Rattle.vg_tok.specs.declared.sign.Sign.TheVariants as signs
use Rattle.vg_ast.specs.declared.name.Name.{Name}
use Rattle.vg_ast.specs.declared.expr.Expr.{Expr}
use Rattle.vg_ast.specs.declared.expr.Expr.TheVariants as tree
use Rattle.vg_ast.specs.Operator.{sum_level, slice_level, primary_level}
use Rattle.vg_ast.specs.Placed.{Placed}
use Rattle.vg_parse_expr.specs.declared.operand.Operand.{Operand}
use Rattle.vg_parse_expr.specs.declared.infix.Infix.{Infix}
use Rattle.vg_parse_expr.specs.Lexeme.{◌>>=◌, is_word_kind, begins_with, begins_with_word, sign_at, word_at, name_at}
use Rattle.vg_parse_expr.specs.Parts.{operation_at, part_then_sign, part_then_word}
use Rattle.vg_parse_expr.specs.Reading.{Reader, over, next_infix, infix_by, rest_step, arguments_at, rest_at, conditional_at, binding_at, slice_at, access_at, join_at, expression_by, expression_within}

-- what is read of arguments
abbrev arguments : List Expr → ℕ → List Placed → Option ((List Expr × ℕ) × List Placed)
arguments front deepest rest = Some ((front, deepest), rest)

-- ---- reserved words

abbrev taken : Placed → List Placed → Option (ℕ × List Placed)
taken t ts = Some (t.at, ts)

word_found : (w : Word) (ts : List Placed) (x : ℕ × List Placed) → word_at w ts ≡ Some x → begins_with_word w ts ≡ true
unfolding word_at
word_found w [] x h = absurd (none-some x h)
word_found w (t ∷ ts) x h =
    elim (is_word_kind w t.kind) as (λ b. (if b then taken t ts else None) ≡ Some x → b ≡ true) [ true ↦ λ e. refl | false ↦ λ e. absurd (none-some x e) ] h

word_missing : (w : Word) (ts : List Placed) → word_at w ts ≡ None → begins_with_word w ts ≡ false
unfolding word_at
word_missing w [] h = refl
word_missing w (t ∷ ts) h =
    elim (is_word_kind w t.kind) as (λ b. (if b then taken t ts else None) ≡ None → b ≡ false) [ true ↦ λ e. absurd (none-some (t.at, ts) (sym e)) | false ↦ λ e. refl ] h

-- ---- whole expressions

-- the choice between the three forms
abbrev choice : Bool → Bool → Option (Operand × List Placed) → Option (Operand × List Placed) → Option (Operand × List Placed) → Option (Operand × List Placed)
choice is_if is_let conditional binding other = if is_if then conditional else (if is_let then binding else other)

choice_of : (read : Reader) (least : ℕ) (ts : List Placed)
    → expression_by read least ts ≡ choice (nat_eq least 0 && begins_with_word words.If ts) (nat_eq least 0 && begins_with_word words.Let ts)
    (word_at words.If ts >>= λ at. conditional_at read at.0 at.1) (word_at words.Let ts >>= λ at. binding_at read at.0 at.1) (operation_at read least ts)
unfolding expression_by operation_at
choice_of read least ts = refl

pub reads_if : (read : Reader) (ts : List Placed) (x : ℕ × List Placed) → word_at words.If ts ≡ Some x → expression_by read 0 ts ≡ conditional_at read x.0 x.1
reads_if read ts x h =
    choice_of read 0 ts
    ∙ ap (λ b. choice b (begins_with_word words.Let ts) (word_at words.If ts >>= λ at. conditional_at read at.0 at.1) (word_at words.Let ts >>= λ at. binding_at read at.0 at.1) (operation_at read 0 ts)) (word_found words.If ts x h)
    ∙ ap (λ o. o >>= λ at. conditional_at read at.0 at.1) h

pub reads_let : (read : Reader) (ts : List Placed) (x : ℕ × List Placed) → word_at words.If ts ≡ None → word_at words.Let ts ≡ Some x → expression_by read 0 ts ≡ binding_at read x.0 x.1
reads_let read ts x n h =
    choice_of read 0 ts
    ∙ ap (λ b. choice b (begins_with_word words.Let ts) (word_at words.If ts >>= λ at. conditional_at read at.0 at.1) (word_at words.Let ts >>= λ at. binding_at read at.0 at.1) (operation_at read 0 ts)) (word_missing words.If ts n)
    ∙ ap (λ b. choice false b (word_at words.If ts >>= λ at. conditional_at read at.0 at.1) (word_at words.Let ts >>= λ at. binding_at read at.0 at.1) (operation_at read 0 ts)) (word_found words.Let ts x h)
    ∙ ap (λ o. o >>= λ at. binding_at read at.0 at.1) h

pub reads_operation : (read : Reader) (ts : List Placed) → word_at words.If ts ≡ None → word_at words.Let ts ≡ None → expression_by read 0 ts ≡ operation_at read 0 ts
reads_operation read ts n m =
    choice_of read 0 ts
    ∙ ap (λ b. choice b (begins_with_word words.Let ts) (word_at words.If ts >>= λ at. conditional_at read at.0 at.1) (word_at words.Let ts >>= λ at. binding_at read at.0 at.1) (operation_at read 0 ts)) (word_missing words.If ts n)
    ∙ ap (λ b. choice false b (word_at words.If ts >>= λ at. conditional_at read at.0 at.1) (word_at words.Let ts >>= λ at. binding_at read at.0 at.1) (operation_at read 0 ts)) (word_missing words.Let ts m)

pub ruleset any_steps = (reads_if, reads_let, reads_operation)

pub reads_above : (read : Reader) (least : ℕ) (ts : List Placed) → 0 < least → expression_by read least ts ≡ operation_at read least ts
reads_above read zero ts h = absurd (omega arith)
reads_above read (suc n) ts h =
    let e : nat_eq (suc n) 0 ≡ false = grind (arith, nat_tests) in
    choice_of read (suc n) ts
    ∙ ap (λ b. choice (b && begins_with_word words.If ts) (b && begins_with_word words.Let ts)
    (word_at words.If ts >>= λ at. conditional_at read at.0 at.1) (word_at words.Let ts >>= λ at. binding_at read at.0 at.1) (operation_at read (suc n) ts)) e

pub ruleset above_steps = (reads_above)

-- ---- a part and the sign or the word behind it

abbrev pair : {A B : Type 0} → A → B → Option (A × B)
pair a b = Some (a, b)

paired : {A B C : Type 0} (y : Option (ℕ × B)) (a : A) (k : A → B → Option C) → ((y >>= λ w. pair a w.1) >>= λ p. k p.0 p.1) ≡ (y >>= λ w. k a w.1)
paired None a k = refl
paired (Some w) a k = refl

split : {A B C : Type 0} (x : Option (A × B)) (f : B → Option (ℕ × B)) (k : A → B → Option C)
    → (x >>= λ c. f c.1 >>= λ w. k c.0 w.1) ≡ ((x >>= λ c. f c.1 >>= λ w. pair c.0 w.1) >>= λ p. k p.0 p.1)
split None f k = refl
split (Some c) f k = sym (paired (f c.1) c.0 k)

pub then_same : {A C : Type 0} (x : Option A) (f g : A → Option C) → ((a : A) → f a ≡ g a) → (x >>= f) ≡ (x >>= g)
then_same None f g h = refl
then_same (Some a) f g h = h a

pub conditional_parts : (read : Reader) (at : ℕ) (ts : List Placed)
    → conditional_at read at ts
    ≡ (part_then_word read words.Then ts >>= λ condition. part_then_word read words.Else condition.1 >>= λ one. read 0 one.1
    >>= λ other. over (tree.If at condition.0.tree one.0.tree other.0.tree) 0 (max condition.0.depth (max one.0.depth other.0.depth)) other.1)
unfolding conditional_at part_then_word
conditional_parts read at ts =
    split (read 0 ts) (word_at words.Then) (λ condition rest. read 0 rest >>= λ one. word_at words.Else one.1 >>= λ other_word. read 0 other_word.1
    >>= λ other. over (tree.If at condition.tree one.0.tree other.0.tree) 0 (max condition.depth (max one.0.depth other.0.depth)) other.1)
    ∙ then_same (part_then_word read words.Then ts)
    (λ condition. read 0 condition.1 >>= λ one. word_at words.Else one.1 >>= λ other_word. read 0 other_word.1
    >>= λ other. over (tree.If at condition.0.tree one.0.tree other.0.tree) 0 (max condition.0.depth (max one.0.depth other.0.depth)) other.1)
    (λ condition. part_then_word read words.Else condition.1 >>= λ one. read 0 one.1
    >>= λ other. over (tree.If at condition.0.tree one.0.tree other.0.tree) 0 (max condition.0.depth (max one.0.depth other.0.depth)) other.1)
    (λ condition. split (read 0 condition.1) (word_at words.Else) (λ one rest. read 0 rest
    >>= λ other. over (tree.If at condition.0.tree one.tree other.0.tree) 0 (max condition.0.depth (max one.depth other.0.depth)) other.1))

pub ruleset conditional_steps = (conditional_parts)

pub binding_parts : (read : Reader) (at : ℕ) (ts : List Placed)
    → binding_at read at ts
    ≡ (name_at ts >>= λ name. sign_at signs.Equal name.1 >>= λ equal. part_then_word read words.In equal.1 >>= λ bound. read 0 bound.1
    >>= λ body. over (tree.Let at name.0 bound.0.tree body.0.tree) 0 (max bound.0.depth body.0.depth) body.1)
unfolding binding_at part_then_word
binding_parts read at ts =
    then_same (name_at ts) _ _ (λ name. then_same (sign_at signs.Equal name.1) _ _ (λ equal.
    split (read 0 equal.1) (word_at words.In) (λ bound rest. read 0 rest
    >>= λ body. over (tree.Let at name.0 bound.tree body.0.tree) 0 (max bound.depth body.0.depth) body.1)))

pub ruleset binding_steps = (binding_parts)

pub slice_parts : (read : Reader) (left : Operand) (at : ℕ) (ts : List Placed)
    → slice_at read left at ts
    ≡ (part_then_sign read 0 signs.DotDot ts >>= λ high. part_then_sign read 0 signs.CloseBracket high.1
    >>= λ low. over (tree.Slice left.tree at high.0.tree low.0.tree) slice_level (max left.depth (max high.0.depth low.0.depth)) low.1)
unfolding slice_at part_then_sign
slice_parts read left at ts =
    split (read 0 ts) (sign_at signs.DotDot) (λ high rest. read 0 rest >>= λ low. sign_at signs.CloseBracket low.1
    >>= λ closing. over (tree.Slice left.tree at high.tree low.0.tree) slice_level (max left.depth (max high.depth low.0.depth)) closing.1)
    ∙ then_same (part_then_sign read 0 signs.DotDot ts) _ _ (λ high.
    split (read 0 high.1) (sign_at signs.CloseBracket) (λ low rest. over (tree.Slice left.tree at high.0.tree low.tree) slice_level (max left.depth (max high.0.depth low.depth)) rest))

pub ruleset slice_steps = (slice_parts)

pub access_parts : (read : Reader) (name : Name) (less : ℕ) (ts : List Placed)
    → access_at read name less ts
    ≡ (part_then_sign read sum_level signs.Greater ts >>= λ size. sign_at signs.OpenParenthesis size.1 >>= λ opening. part_then_sign read 0 signs.CloseParenthesis opening.1
    >>= λ address. over (tree.Access name less size.0.tree address.0.tree) primary_level (max size.0.depth address.0.depth) address.1)
unfolding access_at part_then_sign
access_parts read name less ts =
    split (read sum_level ts) (sign_at signs.Greater) (λ size rest. sign_at signs.OpenParenthesis rest >>= λ opening. read 0 opening.1 >>= λ address. sign_at signs.CloseParenthesis address.1
    >>= λ closing. over (tree.Access name less size.tree address.0.tree) primary_level (max size.depth address.0.depth) closing.1)
    ∙ then_same (part_then_sign read sum_level signs.Greater ts) _ _ (λ size. then_same (sign_at signs.OpenParenthesis size.1) _ _ (λ opening.
    split (read 0 opening.1) (sign_at signs.CloseParenthesis) (λ address rest. over (tree.Access name less size.0.tree address.tree) primary_level (max size.0.depth address.depth) rest)))

pub ruleset access_steps = (access_parts)

pub join_parts : (read : Reader) (at : ℕ) (ts : List Placed)
    → join_at read at ts
    ≡ (sign_at signs.OpenParenthesis ts >>= λ opening. part_then_sign read 0 signs.Comma opening.1 >>= λ high. part_then_sign read 0 signs.CloseParenthesis high.1
    >>= λ low. over (tree.Join at high.0.tree low.0.tree) primary_level (max high.0.depth low.0.depth) low.1)
unfolding join_at part_then_sign
join_parts read at ts =
    then_same (sign_at signs.OpenParenthesis ts) _ _ (λ opening.
    split (read 0 opening.1) (sign_at signs.Comma) (λ high rest. read 0 rest >>= λ low. sign_at signs.CloseParenthesis low.1
    >>= λ closing. over (tree.Join at high.tree low.0.tree) primary_level (max high.depth low.0.depth) closing.1)
    ∙ then_same (part_then_sign read 0 signs.Comma opening.1) _ _ (λ high.
    split (read 0 high.1) (sign_at signs.CloseParenthesis) (λ low rest. over (tree.Join at high.0.tree low.tree) primary_level (max high.0.depth low.depth) rest)))

pub ruleset join_steps = (join_parts)

-- ---- counting down

pub with_fuel : (fuel least : ℕ) (ts : List Placed) → 0 < fuel → expression_within fuel least ts ≡ expression_by (expression_within (fuel - 1)) least ts
unfolding expression_within
with_fuel zero least ts h = absurd (omega arith)
with_fuel (suc n) least ts h = let e : n ≡ suc n - 1 = omega arith in ap (λ m. expression_by (expression_within m) least ts) e

-- a recursion on a count of steps, beside a loop that counts up

pub one_more : {X : Type 0} {x : X} (f : ℕ → X) (n at : ℕ) → at < n → x ≡ f (n - at) → x ≡ f (suc (n - (at + 1)))
one_more f n at below e = let step : n - at ≡ suc (n - (at + 1)) = omega arith in e ∙ ap f step

pub no_more : {X : Type 0} {x : X} (f : ℕ → X) (n at : ℕ) → n ≤ at → x ≡ f (n - at) → x ≡ f 0
no_more f n at done e = let none : n - at ≡ 0 = omega arith in e ∙ ap f none

-- ---- what goes on from an operand

rest_more : (k : ℕ) (read : Reader) (least : ℕ) (left : Operand) (t : Placed) (ts : List Placed) (next : Infix) (found : Operand × List Placed)
    → next_infix least left.level (t ∷ ts) ≡ Some next → infix_by read left next t.at ts ≡ Some found
    → rest_at (suc k) read least left (t ∷ ts) ≡ rest_at k read least found.0 found.1
unfolding rest_at
rest_more k read least left t ts next found h i =
    ap (λ o. rest_step (rest_at k read least) read left (t ∷ ts) o) h ∙ ap (λ o. o >>= λ f. rest_at k read least f.0 f.1) i

pub rest_kept : {x : Option (Operand × List Placed)} (n at : ℕ) (read : Reader) (least : ℕ) (left : Operand) (now : List Placed) (t : Placed) (ts : List Placed)
    (next : Infix) (whole : Operand) (behind : List Placed)
    → at < n → x ≡ rest_at (n - at) read least left now → now ≡ t ∷ ts → next_infix least left.level (t ∷ ts) ≡ Some next
    → infix_by read left next t.at ts ≡ Some (whole, behind) → x ≡ rest_at (n - (at + 1)) read least whole behind
rest_kept n at read least left now t ts next whole behind below e is h i =
    one_more (λ k. rest_at k read least left now) n at below e
    ∙ ap (λ l. rest_at (suc (n - (at + 1))) read least left l) is
    ∙ rest_more (n - (at + 1)) read least left t ts next (whole, behind) h i

-- ---- the arguments of a call

arguments_more : (k : ℕ) (read : Reader) (front : List Expr) (deepest : ℕ) (ts : List Placed) (found : Operand × List Placed) (comma : ℕ × List Placed)
    → read 0 ts ≡ Some found → begins_with signs.CloseParenthesis found.1 ≡ false → sign_at signs.Comma found.1 ≡ Some comma
    → arguments_at (suc k) read front deepest ts ≡ arguments_at k read (front ++ found.0.tree ∷ []) (max deepest found.0.depth) comma.1
unfolding arguments_at
arguments_more k read front deepest ts found comma h n c =
    ap (λ o. o >>= λ f. if begins_with signs.CloseParenthesis f.1
    then (sign_at signs.CloseParenthesis f.1 >>= λ closing. arguments (front ++ f.0.tree ∷ []) (max deepest f.0.depth) closing.1)
    else (sign_at signs.Comma f.1 >>= λ comma. arguments_at k read (front ++ f.0.tree ∷ []) (max deepest f.0.depth) comma.1)) h
    ∙ ap (λ b. if b
    then (sign_at signs.CloseParenthesis found.1 >>= λ closing. arguments (front ++ found.0.tree ∷ []) (max deepest found.0.depth) closing.1)
    else (sign_at signs.Comma found.1 >>= λ comma. arguments_at k read (front ++ found.0.tree ∷ []) (max deepest found.0.depth) comma.1)) n
    ∙ ap (λ o. o >>= λ comma. arguments_at k read (front ++ found.0.tree ∷ []) (max deepest found.0.depth) comma.1) c

arguments_end : (k : ℕ) (read : Reader) (front : List Expr) (deepest : ℕ) (ts : List Placed) (found : Operand × List Placed) (closing : ℕ × List Placed)
    → read 0 ts ≡ Some found → begins_with signs.CloseParenthesis found.1 ≡ true → sign_at signs.CloseParenthesis found.1 ≡ Some closing
    → arguments_at (suc k) read front deepest ts ≡ arguments (front ++ found.0.tree ∷ []) (max deepest found.0.depth) closing.1
unfolding arguments_at
arguments_end k read front deepest ts found closing h y c =
    ap (λ o. o >>= λ f. if begins_with signs.CloseParenthesis f.1
    then (sign_at signs.CloseParenthesis f.1 >>= λ closing. arguments (front ++ f.0.tree ∷ []) (max deepest f.0.depth) closing.1)
    else (sign_at signs.Comma f.1 >>= λ comma. arguments_at k read (front ++ f.0.tree ∷ []) (max deepest f.0.depth) comma.1)) h
    ∙ ap (λ b. if b
    then (sign_at signs.CloseParenthesis found.1 >>= λ closing. arguments (front ++ found.0.tree ∷ []) (max deepest found.0.depth) closing.1)
    else (sign_at signs.Comma found.1 >>= λ comma. arguments_at k read (front ++ found.0.tree ∷ []) (max deepest found.0.depth) comma.1)) y
    ∙ ap (λ o. o >>= λ closing. arguments (front ++ found.0.tree ∷ []) (max deepest found.0.depth) closing.1) c

-- one argument more
pub arguments_kept : {x : Option ((List Expr × ℕ) × List Placed)} (n at : ℕ) (read : Reader) (front : List Expr) (deepest : ℕ) (now : List Placed)
    (tree : Expr) (level depth : ℕ) (others : List Placed) (comma : ℕ) (behind : List Placed) (front' : List Expr) (deepest' : ℕ)
    → at < n → x ≡ arguments_at (n - at) read front deepest now → read 0 now ≡ Some (record { tree = tree; level = level; depth = depth }, others)
    → begins_with signs.CloseParenthesis others ≡ false → sign_at signs.Comma others ≡ Some (comma, behind)
    → front' ≡ front ++ tree ∷ [] → deepest' ≡ max deepest depth → x ≡ arguments_at (n - (at + 1)) read front' deepest' behind
arguments_kept n at read front deepest now tree level depth others comma behind front' deepest' below e h absent c f d =
    one_more (λ k. arguments_at k read front deepest now) n at below e
    ∙ arguments_more (n - (at + 1)) read front deepest now (record { tree = tree; level = level; depth = depth }, others) (comma, behind) h absent c
    ∙ ap (λ l. arguments_at (n - (at + 1)) read l (max deepest depth) behind) (sym f)
    ∙ ap (λ m. arguments_at (n - (at + 1)) read front' m behind) (sym d)

-- the last argument
pub arguments_done : {x : Option ((List Expr × ℕ) × List Placed)} (n at : ℕ) (read : Reader) (front : List Expr) (deepest : ℕ) (now : List Placed)
    (tree : Expr) (level depth : ℕ) (others : List Placed) (closing : ℕ) (behind : List Placed) (front' : List Expr) (deepest' : ℕ)
    → at < n → x ≡ arguments_at (n - at) read front deepest now → read 0 now ≡ Some (record { tree = tree; level = level; depth = depth }, others)
    → begins_with signs.CloseParenthesis others ≡ true → sign_at signs.CloseParenthesis others ≡ Some (closing, behind)
    → front' ≡ front ++ tree ∷ [] → deepest' ≡ max deepest depth → x ≡ arguments front' deepest' behind
arguments_done n at read front deepest now tree level depth others closing behind front' deepest' below e h present c f d =
    one_more (λ k. arguments_at k read front deepest now) n at below e
    ∙ arguments_end (n - (at + 1)) read front deepest now (record { tree = tree; level = level; depth = depth }, others) (closing, behind) h present c
    ∙ ap (λ l. arguments l (max deepest depth) behind) (sym f)
    ∙ ap (λ m. arguments front' m behind) (sym d)

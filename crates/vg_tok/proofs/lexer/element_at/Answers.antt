-- By what the lexeme at the front of the text means.
use Rattle.std.proofs.Common.{◌≡◌, ◌+◌, ap, refl, ◌∙◌, sym, inl, inr, arith, length}
use Rattle.vg_tok.specs.declared.lexeme.Lexeme.TheVariants as lexemes
use Rattle.vg_tok.specs.Lexing.{byte_len}
use Rattle.vg_tok.proofs.Sound.{means_at}
use Rattle.vg_tok.proofs.Found.{byte_len-take, taken, name_begins, string_fits, string_begins, closed_some}
use Rattle.vg_tok.proofs.lexer.element_at.Goals as goal

pub unreachable-requires : goal.unreachable-requires
unreachable-requires c =
    let m = means_at lexemes.End c.args.text.now c.in-End.ensures in absurd (omega (arith, ap length m))

pub slice_bounds-name_kind-end : goal.slice_bounds-name_kind-end
slice_bounds-name_kind-end c =
    let m = means_at (lexemes.Name c.in-Name.len) c.args.text.now c.in-Name.ensures in taken _ _ m.0 m.1 m.2 m.3

pub between_quotes-requires : goal.between_quotes-requires
between_quotes-requires c =
    let m = string_fits _ _ (means_at (lexemes.Str c.in-Str.len) c.args.text.now c.in-Str.ensures) in
    record { quotes = m.0; within = m.1 }

pub slice_bounds-byte_len-end : goal.slice_bounds-byte_len-end
slice_bounds-byte_len-end c =
    let m = means_at (lexemes.RunOn c.in-RunOn.len) c.args.text.now c.in-RunOn.ensures in taken _ _ m.0 m.2.1 m.2.2 m.1

pub byte_len-requires : goal.byte_len-requires
byte_len-requires c =
    let m = means_at (lexemes.RunOn c.in-RunOn.len) c.args.text.now c.in-RunOn.ensures in
    omega (arith, (byte_len-take _ _ m.0 m.2.1 m.2.2 m.1).1)

pub overflow_add-result : goal.overflow_add-result
overflow_add-result c =
    let m = means_at (lexemes.RunOn c.in-RunOn.len) c.args.text.now c.in-RunOn.ensures in
    omega (arith, (byte_len-take _ _ m.0 m.2.1 m.2.2 m.1).1, c.byte_len.ensures)

pub returns-then-has_close-clause-fault : goal.returns-then-has_close-clause-fault
returns-then-has_close-clause-fault c =
    let m = means_at lexemes.Open c.args.text.now c.in-Open.ensures in
    let h = sym c.has_close.ensures ∙ c.if-has_close.true in
    inr (ap (λ n. c.args.at + n) c.byte_len-then-has_close.ensures, closed_some _ h, inr (m, h))

pub returns-in-Gap-clause-element : goal.returns-in-Gap-clause-element
returns-in-Gap-clause-element c = means_at (lexemes.Gap c.in-Gap.len) c.args.text.now c.in-Gap.ensures

pub returns-in_ok-kind-in-Name-clause-element : goal.returns-in_ok-kind-in-Name-clause-element
returns-in_ok-kind-in-Name-clause-element c =
    name_begins _ _ _ (means_at (lexemes.Name c.in-Name.len) c.args.text.now c.in-Name.ensures) c.in_ok-kind-in-Name.ensures

pub returns-in_ok-body-in-Str-clause-element : goal.returns-in_ok-body-in-Str-clause-element
returns-in_ok-body-in-Str-clause-element c =
    string_begins _ _ _ (means_at (lexemes.Str c.in-Str.len) c.args.text.now c.in-Str.ensures) (c.in_ok-body-in-Str.ensures ∙ c.between_quotes.ensures)

pub returns-in-Number-clause-element : goal.returns-in-Number-clause-element
returns-in-Number-clause-element c = means_at (lexemes.Number c.in-Number.value c.in-Number.len) c.args.text.now c.in-Number.ensures

pub returns-in-Sign-clause-element : goal.returns-in-Sign-clause-element
returns-in-Sign-clause-element c = means_at (lexemes.Sign c.in-Sign.sign c.in-Sign.len) c.args.text.now c.in-Sign.ensures

pub returns-in-Wide-clause-fault : goal.returns-in-Wide-clause-fault
returns-in-Wide-clause-fault c = inr (refl, means_at lexemes.Wide c.args.text.now c.in-Wide.ensures)

pub returns-in-RunOn-clause-fault : goal.returns-in-RunOn-clause-fault
returns-in-RunOn-clause-fault c =
    let m = means_at (lexemes.RunOn c.in-RunOn.len) c.args.text.now c.in-RunOn.ensures in
    let h : c.byte_len.result ≡ byte_len m.0 = c.byte_len.ensures ∙ (byte_len-take _ _ m.0 m.2.1 m.2.2 m.1).0 in
    inr (inr (m.0, ap (λ n. c.args.at + n) h, m.2))

pub returns-else-has_close-clause-fault : goal.returns-else-has_close-clause-fault
returns-else-has_close-clause-fault c =
    let m = means_at lexemes.Open c.args.text.now c.in-Open.ensures in
    inr (inl (refl, inr (m, sym c.has_close.ensures ∙ c.if-has_close.false)))

pub returns-in-Bad-clause-fault : goal.returns-in-Bad-clause-fault
returns-in-Bad-clause-fault c = inr (inl (refl, inl (means_at lexemes.Bad c.args.text.now c.in-Bad.ensures)))

-- A text has one list of tokens, or else one first fault.
use Rattle.std.proofs.lemmas.Result.{IfOk-weaker}
use Rattle.vg_tok.proofs.Exact.{accepts, refuses}
use Rattle.vg_tok.proofs.InOrder.{Lexes-in_order}
use Rattle.vg_tok.proofs.lexer.tokens.Goals as goal

pub returns-clause-in_order : goal.returns-clause-in_order
returns-clause-in_order c = IfOk-weaker c.lexed.result _ _ (λ ts h. Lexes-in_order c.args.text.now ts h) c.lexed.ensures.tokens

pub returns-clause-accepts : goal.returns-clause-accepts
returns-clause-accepts c = accepts c.args.text.now c.lexed.result c.lexed.ensures.tokens c.lexed.ensures.fault

pub returns-clause-refuses : goal.returns-clause-refuses
returns-clause-refuses c = refuses c.args.text.now c.lexed.result c.lexed.ensures.tokens c.lexed.ensures.fault

use Rattle.std.proofs.Common.{◌≡◌, ◌++◌, ◌∙◌, ap}
use Rattle.im_lex.specs.Lexing.{starts_line, token_of}
use Rattle.im_lex.proofs.Readings.{reading_push, no_token, a_token, starts_first, starts_later, finished, stuck_there, one_list, apart}
use Rattle.im_lex.proofs.EachToken.{each_of}
use Rattle.im_lex.proofs.lexing.lex.Goals as goal
use Rattle.im_lex.proofs.lexing.lex.Goals.{in-Token+in_ok-push, in_default, then-at-eq0, else-at-eq0}

pub loop-at-preserved : goal.loop-at-preserved
loop-at-preserved c =
    let starts : c.if-at-eq0.starts_line ≡ starts_line c.args.source.now c.loop-at.at = elim c.if-at-eq0.branch [
      | then-at-eq0 w ↦ starts_first c.args.source.now c.loop-at.at _ w.if-at-eq0.true w.starts_line-is
      | else-at-eq0 w ↦ starts_later c.args.source.now c.loop-at.at _ w.if-at-eq0.false w.starts_line-is
    ] in
    let grown : c.match-piece.tokens.items ≡ c.loop-at.tokens.items ++ token_of c.args.source.now c.loop-at.at c.in-Ok.piece.kind c.in-Ok.piece.length = elim c.match-piece.branch [
      | in-Token+in_ok-push w ↦ ap (λ v. v.items) w.tokens-is ∙ a_token c.args.source.now c.loop-at.at c.in-Ok.piece.length c.loop-at.line c.loop-at.tokens.items _ c.in-Ok.piece.kind w.in-Token.kind c.loop-at.invariant.line_is w.in-Token.is w.in_ok-push.ensures.items
      | in_default w ↦ ap (λ v. v.items) w.tokens-is ∙ no_token c.args.source.now c.loop-at.at c.in-Ok.piece.length c.loop-at.tokens.items c.in-Ok.piece.kind w.in_default.not-Token
    ] in
    reading_push c.args.source.now c.loop-at.at c.loop-at.line c.loop-at.tokens.items _ c.if-at-eq0.starts_line c.in-Ok.piece c.line_ends-line.result c.loop-at.invariant starts c.in-Ok.ensures c.line_ends-line.ensures grown

pub returns-in-Err-clause-exact : goal.returns-in-Err-clause-exact
returns-in-Err-clause-exact c =
    let starts : c.if-at-eq0.starts_line ≡ starts_line c.args.source.now c.loop-at.at = elim c.if-at-eq0.branch [
      | then-at-eq0 w ↦ starts_first c.args.source.now c.loop-at.at _ w.if-at-eq0.true w.starts_line-is
      | else-at-eq0 w ↦ starts_later c.args.source.now c.loop-at.at _ w.if-at-eq0.false w.starts_line-is
    ] in
    λ tokens lexes. absurd (apart c.args.source.now tokens c.loop-at.at lexes (stuck_there c.args.source.now c.loop-at.at c.loop-at.line c.loop-at.tokens.items c.if-at-eq0.starts_line c.loop-at.invariant starts c.loop-at-test.true c.in-Err.ensures.0))

pub returns-clause-exact : goal.returns-clause-exact
returns-clause-exact c = λ tokens lexes. one_list c.args.source.now c.loop-at.tokens.items tokens (finished c.args.source.now c.loop-at.at c.loop-at.line c.loop-at.tokens.items c.loop-at.invariant c.loop-at-test.false) lexes

pub returns-clause-each : goal.returns-clause-each
returns-clause-each c = each_of c.args.source.now c.loop-at.tokens.items (finished c.args.source.now c.loop-at.at c.loop-at.line c.loop-at.tokens.items c.loop-at.invariant c.loop-at-test.false)

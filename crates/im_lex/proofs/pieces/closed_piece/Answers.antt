use Rattle.std.proofs.Common.{arith}
use Rattle.im_lex.proofs.LiteralFronts.{no_literal, broken, next_text, next_character, single_quote}
use Rattle.im_lex.proofs.pieces.closed_piece.Goals as goal
use Rattle.im_lex.proofs.pieces.closed_piece.Goals.{then-elements-text-via-then-elements-text, then-elements-text-via-else-elements-text+then-text-elements}

pub returns-then-elements-text : goal.returns-then-elements-text
returns-then-elements-text c =
    let none = no_literal c.args.quote c.args.text.now c.args.elements.end c.args.elements.count _ c.requires.kind c.requires.begins c.requires.read (elim c.then-elements-text.branch [
      | then-elements-text-via-then-elements-text w ↦ (λ within closed one. omega (arith, w.if-elements-text.true))
      | then-elements-text-via-else-elements-text+then-text-elements w ↦ (λ within closed one. w.if-text-elements.true closed)
    ]) in
    (none, broken c.args.quote c.args.text.now _ _ _ c.requires.kind c.requires.begins c.requires.read)

pub returns-then-quote-eq34 : goal.returns-then-quote-eq34
returns-then-quote-eq34 c = next_text c.args.quote c.args.text.now c.args.elements.end _ _ c.if-quote-eq34.true c.requires.begins c.requires.read c.if-elements-text.false c.if-text-elements.false

pub returns-then-elements-eq1 : goal.returns-then-elements-eq1
returns-then-elements-eq1 c = next_character c.args.quote c.args.text.now c.args.elements.end _ _ (single_quote c.args.quote c.requires.kind c.if-quote-eq34.false) c.if-elements-eq1.true c.requires.begins c.requires.read c.if-elements-text.false c.if-text-elements.false

pub returns-else-elements-eq1 : goal.returns-else-elements-eq1
returns-else-elements-eq1 c =
    let single = single_quote c.args.quote c.requires.kind c.if-quote-eq34.false in (
      no_literal c.args.quote c.args.text.now c.args.elements.end c.args.elements.count _ c.requires.kind c.requires.begins c.requires.read (λ within closed one. c.if-elements-eq1.false (one single)),
      broken c.args.quote c.args.text.now _ _ _ c.requires.kind c.requires.begins c.requires.read,
    )

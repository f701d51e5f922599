use Rattle.std.proofs.Common.{subst}
use Rattle.im_tok.specs.declared.literal.ElementFault.{ElementFault}
use Rattle.im_lex.specs.Runs.{ElementsEnd}
use Rattle.im_lex.proofs.LiteralFronts.{bad_escape, broken}
use Rattle.im_lex.proofs.pieces.literal_piece.Goals as goal

pub returns-in-BadEscape : goal.returns-in-BadEscape
returns-in-BadEscape c =
    let P : ElementFault → Type 0 = λ f. ElementsEnd c.args.quote c.args.text.now c.elements_end-elements.result.end c.elements_end-elements.result.count f in
    let read = subst P c.in-BadEscape.is c.elements_end-elements.ensures in
    (bad_escape c.args.quote c.args.text.now _ _ c.requires.kind c.requires.begins read, broken c.args.quote c.args.text.now _ _ _ c.requires.kind c.requires.begins read)

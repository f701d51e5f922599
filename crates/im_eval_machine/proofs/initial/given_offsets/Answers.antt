use Rattle.std.proofs.Common.{◌+◌, ◌<◌, List, ◌++◌, map, drop, length, arith, sym, ap, ◌∙◌, append_assoc}
use Rattle.im_typed.specs.declared.statement.Piece.{Piece}
use Rattle.im_typed.specs.Meaning.{given_offsets}
use Rattle.im_typed.specs.ProgramOf.{piece_of}
use Rattle.im_eval_machine.specs.Initials.{given_by}
use Rattle.im_eval_machine.proofs.Rows.{dropped}
use Rattle.im_eval_machine.proofs.initial.given_offsets.Goals as goal

pub loop-piece-preserved : goal.loop-piece-preserved
loop-piece-preserved c =
    let l = c.loop-piece in
    let types = c.args.code.prog.now.types in
    let x = c.piece-item.result in
    let within : l.piece-index < length c.args.pieces.now = omega arith in
    let rest = given_offsets (map (piece_of types) (drop (l.piece-index + 1) c.args.pieces.now)) in
    let here = ap (λ (ps : List Piece). l.given.items ++ given_offsets (map (piece_of types) ps)) (dropped c.args.pieces.now l.piece-index x within c.piece-item.is) in
    ap (λ (ns : List _). ns ++ rest) c.in_ok-push_given.ensures
    ∙ append_assoc l.given.items (given_by types x) rest
    ∙ sym here ∙ l.invariant

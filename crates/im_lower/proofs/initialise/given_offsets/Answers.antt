use Rattle.std.proofs.Common.{◌≡◌, ◌+◌, ◌<◌, suc, List, [], ◌∷◌, ◌++◌, map, drop, length, arith, subst, sym, ap, ◌∙◌, append_assoc, add-one}
use Rattle.std.proofs.Math.Seq.{drop-cons}
use Rattle.im_typed.specs.declared.statement.Piece.{Piece}
use Rattle.im_typed.specs.Meaning.{given_offsets}
use Rattle.im_typed.specs.ProgramOf.{access_of, piece_of}
use Rattle.im_lower_plain.specs.MakeStatement.{offsets_of}
use Rattle.im_lower.proofs.Taken.{dropped}
use Rattle.im_lower.proofs.initialise.given_offsets.Goals as goal

pub loop-piece-preserved : goal.loop-piece-preserved
loop-piece-preserved c =
    let l = c.loop-piece in
    let types = c.args.prog.now.types in
    let x = c.piece-item.result in
    let within : l.piece-index < length c.args.pieces.now = omega arith in
    let rest = given_offsets (map (piece_of types) (drop (l.piece-index + 1) c.args.pieces.now)) in
    let here = ap (λ (ps : List Piece). l.found.items ++ given_offsets (map (piece_of types) ps)) (dropped c.args.pieces.now l.piece-index x within c.piece-item.is) in
    ap (λ (ns : List _). ns ++ rest) c.in_ok-push_offsets.ensures
    ∙ append_assoc l.found.items (offsets_of x.offset (access_of types x.access)) rest
    ∙ sym here ∙ l.invariant

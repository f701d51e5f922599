use Rattle.std.proofs.Common.{◌∙◌, ap, subst, sym, ℕ, List, map, Ok}
use Rattle.im_typed.specs.declared.statement.Piece.{Piece}
use Rattle.im_typed.specs.Meaning.{change_store, cleared, given_offsets}
use Rattle.im_typed.specs.ProgramOf.{piece_of}
use Rattle.im_eval_machine.specs.Activations.{local_in}
use Rattle.im_eval_machine.specs.Shown.{IsStep, nothing}
use Rattle.im_eval_steps.specs.Going.{types_of}
use Rattle.im_eval_steps.proofs.Pieces.{same-offsets}
use Rattle.im_eval_steps.proofs.initialiser.clear_others.Goals as goal

pub returns-clause-cleared : goal.returns-clause-cleared
returns-clause-cleared c =
    let types = types_of c.args.code in
    let left = c.args.left in
    let e =
    c.deref-2.ensures.value ∙ c.in_ok-given.ensures
    ∙ ap (λ (ps : List Piece). given_offsets (map (piece_of types) ps)) c.deref.ensures.value
    ∙ sym (same-offsets types left.pieces.now.items) in
    subst (λ (ns : List ℕ). IsStep nothing (Ok (tt {0})) c.args.machine.now c.clear.new.machine (change_store (cleared ns (local_in c.args.here left.local)))) e c.clear.ensures

use Rattle.std.proofs.Common.{◌≡◌, ◌<◌, ◌≤◌, ◌+◌, ◌∙◌, ap, sym, subst, List, length, drop, get_or, map}
use Rattle.std.proofs.lemmas.Result.{err_from_is_err_and}
use Rattle.im_store.specs.Objects as o
use Rattle.im_typed.specs.declared.statement.Piece.{Piece}
use Rattle.im_typed.specs.Meaning.{Flow, Next, change_store, cleared, given_offsets, initialise, local, value_of}
use Rattle.im_typed.specs.ProgramOf.{access_of}
use Rattle.im_typed.specs.Runs.{Run, goes_on, ◌>>=◌, give}
use Rattle.im_typed.specs.Values.{Values, used, write_at}
use Rattle.im_eval_machine.specs.Settings.{setting_of}
use Rattle.im_eval_machine.proofs.Rows.{dropped}
use Rattle.im_eval_tasks.specs.Stack.{Flowed, in_activation}
use Rattle.im_eval_tasks.specs.Tasks.{initialises, piece_in, takes_piece}
use Rattle.im_eval_steps.specs.Going.{follows, types_of}
use Rattle.im_eval_steps.proofs.Orders.{piece-comes}
use Rattle.im_eval_steps.proofs.Pieces.{clears, dropped-past}
use Rattle.im_eval_steps.proofs.initialiser.next_piece.Goals as goal

pub returns-in_err-clear_others-in-None-clause-goes : goal.returns-in_err-clear_others-in-None-clause-goes
returns-in_err-clear_others-in-None-clause-goes c =
    let p = err_from_is_err_and c.from_residual.result c.from_residual.ensures.1 in
    rw (p.1, p.2) (λ n ts s i. tt)

pub returns-in_ok-clear_others-in-None-clause-goes : goal.returns-in_ok-clear_others-in-None-clause-goes
returns-in_ok-clear_others-in-None-clause-goes c = λ n ts s i.
    let left = c.args.left in
    let all = left.pieces.now.items in
    let past : length all ≤ left.next = subst (λ (xs : List Piece). length xs ≤ left.next) c.deref.ensures.value c.in-None.ensures.lookup.3 in
    clears c.args.code n c.args.here ts s left (dropped-past all left.next past) c.clear_others.new.machine (c.in_ok-clear_others-in-None.ensures.cleared.ends s i)

pub returns-in-Some-clause-goes : goal.returns-in-Some-clause-goes
returns-in-Some-clause-goes c = λ n ts s i.
    let code = c.args.code in
    let types = types_of code in
    let left = c.args.left in
    let all = left.pieces.now.items in
    let piece = c.in-Some.piece.now in
    let around = in_activation types (setting_of code) n c.args.here in
    let object = local around left.local in
    let inside : left.next < length all = subst (λ (xs : List Piece). left.next < length xs) c.deref.ensures.value c.in-Some.ensures.lookup.3.0 in
    let same : piece ≡ get_or all left.next piece = c.in-Some.ensures.lookup.1 ∙ ap (λ (xs : List Piece). get_or xs left.next piece) c.deref.ensures.value in
    let e = dropped all left.next piece inside same in
    let rest = drop (left.next + 1) all in
    let then_ : Flow → Run Values = λ f. follows code n c.args.here ts (Flowed f) in
    let r = value_of around (piece_in types piece).value s in (
      s,
      i,
      ap (λ ps. goes_on (initialises types around left.local all ps s) then_) e
          ∙ piece-comes r used (λ vs. write_at (access_of types piece.access) (o.Pointer object piece.offset) vs) (initialise around object (map (piece_in types) rest))
          (change_store (cleared (given_offsets (map (piece_in types) all)) object) >>= (λ _. give Next)) then_
          ∙ sym (ap (λ ps. goes_on r (λ vs t. goes_on (takes_piece types around left.local all ps vs t) then_)) e),
    )

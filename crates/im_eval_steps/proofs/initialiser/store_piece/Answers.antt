use Rattle.std.proofs.Common.{◌≡◌, ◌<◌, ◌≤◌, ◌∙◌, ap, sym, subst, List, length, get_or, Ok}
use Rattle.std.proofs.lemmas.Result.{err_from_is_err_and}
use Rattle.im_store.specs.Objects as o
use Rattle.im_typed.specs.declared.statement.Piece.{Piece}
use Rattle.im_typed.specs.ProgramOf.{access_of}
use Rattle.im_typed.specs.Meaning.{Flow}
use Rattle.im_typed.specs.Runs.{Run, goes_on}
use Rattle.im_typed.specs.Values.{Values, write_at}
use Rattle.im_eval_machine.specs.Settings.{setting_of}
use Rattle.im_eval_machine.specs.Shown.{Ends, Halts, values}
use Rattle.im_eval_machine.proofs.Rows.{dropped}
use Rattle.im_eval_tasks.specs.Stack.{Flowed, in_activation}
use Rattle.im_eval_tasks.specs.Tasks.{initialises, takes_piece}
use Rattle.im_eval_steps.specs.Going.{follows, types_of}
use Rattle.im_eval_steps.proofs.Pieces.{dropped-past, piece-goes, piece-stops, piece-unused}
use Rattle.im_eval_steps.proofs.initialiser.store_piece.Goals as goal

pub returns-in_default-clause-goes : goal.returns-in_default-clause-goes
returns-in_default-clause-goes c = λ n ts s i.
    let code = c.args.code in
    let left = c.args.left in
    let all = left.pieces.now.items in
    let past : length all ≤ left.next = subst (λ (xs : List Piece). length xs ≤ left.next) c.deref.ensures.value c.in_default.ensures.lookup.3 in
    let around = in_activation (types_of code) (setting_of code) n c.args.here in
    let e = dropped-past all left.next past in
    let then_ : Flow → Run Values = λ f. follows code n c.args.here ts (Flowed f) in (
      s,
      i,
      ap (λ rest. goes_on (takes_piece (types_of code) around left.local all rest (values c.args.found.now) s) then_) e
          ∙ sym (ap (λ rest. goes_on (initialises (types_of code) around left.local all rest s) then_) e),
    )

pub returns-in_err-used-clause-goes : goal.returns-in_err-used-clause-goes
returns-in_err-used-clause-goes c =
    let p = err_from_is_err_and c.from_residual.result c.from_residual.ensures.1 in
    let left = c.args.left in
    let all = left.pieces.now.items in
    let piece = c.in-Some.piece.now in
    let inside : left.next < length all = subst (λ (xs : List Piece). left.next < length xs) c.deref.ensures.value c.in-Some.ensures.lookup.3.0 in
    let same : piece ≡ get_or all left.next piece = c.in-Some.ensures.lookup.1 ∙ ap (λ (xs : List Piece). get_or xs left.next piece) c.deref.ensures.value in
    rw (p.1, p.2) (λ n ts s i.
    piece-unused c.args.code n c.args.here ts s left piece (values c.args.found.now) (dropped all left.next piece inside same) c.in_err-used.field-0.0 c.args.machine.now (c.in_err-used.ensures.look s i))

pub returns-in_err-write_at-clause-goes : goal.returns-in_err-write_at-clause-goes
returns-in_err-write_at-clause-goes c =
    let p = err_from_is_err_and c.from_residual-in_err-write_at.result c.from_residual-in_err-write_at.ensures.1 in
    let left = c.args.left in
    let all = left.pieces.now.items in
    let piece = c.in-Some.piece.now in
    let vs = values c.args.found.now in
    let why = c.in_err-write_at.field-0.0 in
    let inside : left.next < length all = subst (λ (xs : List Piece). left.next < length xs) c.deref.ensures.value c.in-Some.ensures.lookup.3.0 in
    let same : piece ≡ get_or all left.next piece = c.in-Some.ensures.lookup.1 ∙ ap (λ (xs : List Piece). get_or xs left.next piece) c.deref.ensures.value in
    rw (p.1, p.2) (λ n ts s i.
    piece-stops c.args.code n c.args.here ts s left piece vs (dropped all left.next piece inside same) c.in_ok-used.field-0 (c.in_ok-used.ensures.look s i) why c.write_at.new.machine
    (subst (λ (q : o.Object). Halts why c.write_at.new.machine (write_at (access_of (types_of c.args.code) piece.access) (o.Pointer q piece.offset) vs s)) c.local.ensures (c.in_err-write_at.ensures.step.ends s i)))

pub returns-clause-goes : goal.returns-clause-goes
returns-clause-goes c = λ n ts s i.
    let left = c.args.left in
    let all = left.pieces.now.items in
    let piece = c.in-Some.piece.now in
    let vs = values c.args.found.now in
    let inside : left.next < length all = subst (λ (xs : List Piece). left.next < length xs) c.deref.ensures.value c.in-Some.ensures.lookup.3.0 in
    let same : piece ≡ get_or all left.next piece = c.in-Some.ensures.lookup.1 ∙ ap (λ (xs : List Piece). get_or xs left.next piece) c.deref.ensures.value in
    piece-goes c.args.code n c.args.here ts s left piece vs (dropped all left.next piece inside same) c.in_ok-used.field-0 (c.in_ok-used.ensures.look s i) (tt {0}) c.write_at.new.machine
    (subst (λ (q : o.Object). Ends (λ (done : Unit {0}). vs) (Ok tt) c.write_at.new.machine (write_at (access_of (types_of c.args.code) piece.access) (o.Pointer q piece.offset) vs s)) c.local.ensures (c.in_ok-write_at.ensures.step.ends s i))

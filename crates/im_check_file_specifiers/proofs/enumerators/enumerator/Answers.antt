use Rattle.std.proofs.lemmas.Result.{err_from_is_err_and}
use Rattle.im_check_file_place.specs.Files.{file_place_of}
use Rattle.im_check_file_specifiers.proofs.Constants.{value_fault, asked_fault, enumerator_done}
use Rattle.im_check_file_specifiers.proofs.Places.{rescoped}
use Rattle.im_check_file_specifiers.proofs.enumerators.enumerator.Goals as goal

pub returns-in_err-z : goal.returns-in_err-z
returns-in_err-z c = λ rest.
    let p = err_from_is_err_and c.from_residual.result c.from_residual.ensures.1 in
    rw (p.1, p.2) (value_fault (file_place_of c.args.file.now) c.args.next.value c.args.e.now rest _ c.in_err-z.ensures)

pub returns-in_err-n : goal.returns-in_err-n
returns-in_err-n c = λ rest.
    let p = err_from_is_err_and c.from_residual-in_err-n.result c.from_residual-in_err-n.ensures.1 in
    rw (p.1, p.2) (asked_fault (file_place_of c.args.file.now) (file_place_of c.number.new.file) c.args.next.value c.args.e.now c.in_ok-z.z rest _ c.in_ok-z.ensures (rw c.deref.ensures.value at c.in_err-n.ensures.asked))

pub returns : goal.returns
returns c = λ rest.
    let a = rw c.deref.ensures.value at c.in_ok-n.ensures.asked in
    enumerator_done (file_place_of c.args.file.now) (file_place_of c.number.new.file) _ c.args.next.value c.args.e.now c.in_ok-z.z c.in_ok-n.n.value _ rest c.in_ok-z.ensures a.0.0 a.0.1
    (rescoped c.number.new.file c.declare.new.scope _ (rw c.deref-2.ensures.value at c.in_ok-declare.ensures)) c.after.ensures

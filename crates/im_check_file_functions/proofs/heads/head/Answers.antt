use Rattle.std.proofs.Common.{ap, ◌∙◌}
use Rattle.std.proofs.lemmas.Result.{err_from_is_err_and}
use Rattle.im_ctree.specs.Shape.{declarator_of}
use Rattle.im_ctree.specs.declared.specifier.Specifiers.{out-Specifiers}
use Rattle.im_check_file_place.specs.Files.{file_place_of}
use Rattle.im_check_file_specifiers.specs.Answers.{list_of}
use Rattle.im_check_file_functions.proofs.Heading.{head_token, known_there, specifiers_fault, declarator_fault, body_fault, formals_fault, asked_fault, head_done}
use Rattle.im_check_file_functions.proofs.heads.head.Goals as goal

pub returns-in_err-q : goal.returns-in_err-q
returns-in_err-q c =
    let p = err_from_is_err_and c.from_residual.result c.from_residual.ensures.1 in
    let s = c.args.specifiers.now in
    rw (p.1, p.2) (specifiers_fault (file_place_of c.args.file.now) (out-Specifiers s).at (list_of s) (declarator_of c.args.d.now) _ c.in_err-q.ensures)

pub returns-in_err-y : goal.returns-in_err-y
returns-in_err-y c =
    let p = err_from_is_err_and c.from_residual-in_err-y.result c.from_residual-in_err-y.ensures.1 in
    rw (p.1, p.2) (declarator_fault (out-Specifiers c.args.specifiers.now).at (declarator_of c.args.d.now) _ c.in_ok-q.ensures.0 c.in_err-y.ensures)

pub returns-in_err-may_have_body : goal.returns-in_err-may_have_body
returns-in_err-may_have_body c =
    let p = err_from_is_err_and c.from_residual-in_err-may_have_body.result c.from_residual-in_err-may_have_body.ensures.1 in
    rw (p.1, p.2) (body_fault (out-Specifiers c.args.specifiers.now).at _ _ (head_token c.args.d.now) c.in_ok-q.ensures.0 c.in_ok-y.ensures.0 c.in_err-may_have_body.ensures.asked)

pub returns-in_err-formals : goal.returns-in_err-formals
returns-in_err-formals c =
    let p = err_from_is_err_and c.from_residual-in_err-formals.result c.from_residual-in_err-formals.ensures.1 in
    let e = declarator_of c.args.d.now in
    rw (p.1, p.2) (formals_fault (out-Specifiers c.args.specifiers.now).at _ c.in_ok-q.ensures.0 c.in_ok-y.ensures.0 c.in_ok-may_have_body.ensures.asked (known_there _ e c.in_ok-y.ensures.1) (rw c.own_parameters.ensures at c.in_err-formals.ensures))

pub returns-in_err-declared_in_file : goal.returns-in_err-declared_in_file
returns-in_err-declared_in_file c =
    let p = err_from_is_err_and c.from_residual-in_err-declared_in_file.result c.from_residual-in_err-declared_in_file.ensures.1 in
    let behind = ap (λ z. file_place_of (record c.declared.new.file { place = z })) c.in_ok-formals.ensures.1 ∙ c.in_ok-y.ensures.1 in
    rw (p.1, p.2) (asked_fault (out-Specifiers c.args.specifiers.now).at _ _ (head_token c.args.d.now) c.in_ok-q.ensures.0 c.in_ok-y.ensures.0 behind (rw c.deref.ensures.value at c.in_err-declared_in_file.ensures.asked))

pub returns : goal.returns
returns c =
    let e = declarator_of c.args.d.now in
    let q = c.in_ok-q.ensures in
    let y = c.in_ok-y.ensures in
    let ps = rw c.own_parameters.ensures at c.in_ok-formals.ensures in
    let behind = ap (λ z. file_place_of (record c.declared.new.file { place = z })) ps.1 ∙ y.1 in
    let asked = rw c.deref.ensures.value at c.in_ok-declared_in_file.ensures.asked in
    let declared = rw c.deref.ensures.value at c.in_ok-declared_in_file.ensures.declared in
    head_done (out-Specifiers c.args.specifiers.now).at q.0 q.1 y.0 y.2 behind c.in_ok-may_have_body.ensures.asked (known_there _ e y.1) ps.0 asked declared

use Rattle.std.proofs.lemmas.Result.{err_from_is_err_and}
use Rattle.im_ctree_parts.specs.Lists.{list_from}
use Rattle.im_check_type_specifiers.specs.Specified.{qualified_of}
use Rattle.im_check_place.specs.Contexts.{context_of}
use Rattle.im_check_file_place.specs.Files.{file_place_of}
use Rattle.im_check_file_specifiers.proofs.Places.{rescoped}
use Rattle.im_check_file_specifiers.proofs.Specifiers.{fault_without, typed_without}
use Rattle.im_check_file_specifiers.proofs.unlisted.unlisted.Goals as goal

pub returns-in_err-q : goal.returns-in_err-q
returns-in_err-q c = λ l m.
    let p = err_from_is_err_and c.from_residual.result c.from_residual.ensures.1 in
    rw (p.1, p.2) (fault_without (file_place_of c.args.file.now) l c.args.at (list_from c.args.specifiers.now) _ c.requires m (c.in_err-q.ensures (context_of c.args.file.now.place)))

pub returns : goal.returns
returns c = λ l m.
    let k = context_of c.args.file.now.place in
    let q = c.in_ok-q.ensures k in
    typed_without (file_place_of c.args.file.now) _ l c.args.at (list_from c.args.specifiers.now) (qualified_of c.in_ok-q.q) c.requires m q.0 q.1 (rescoped c.args.file.now c.mention.new.scope _ (c.in_ok-mention.ensures.scopes k))

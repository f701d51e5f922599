use Rattle.im_print_parts.specs.Output.{known}
use Rattle.im_print_parts.proofs.Writing.{writes_append, writes_same}
use Rattle.im_print_parts.proofs.Rows.{declaration_words}
use Rattle.im_print.proofs.declarations.put_line.Goals as goal

pub returns : goal.returns
returns c =
    let typed = rw c.deref-2.ensures.value at c.has_type-typed.ensures in
    let specifiers = rw c.deref.ensures.value at c.in_ok-put_specifiers.ensures in
    let declarators = rw (c.deref-3.ensures.value, typed) at c.in_ok-put_declarators.ensures in
    writes_same (declaration_words (known c.args.names.now) c.args.declaration.now) (writes_append specifiers (writes_append declarators c.in_ok-put_mark.ensures))

use Rattle.im_print_parts.proofs.Writing.{writes_append}
use Rattle.im_print.proofs.print.put_signature.Goals as goal

pub returns : goal.returns
returns c =
    let typed = rw c.deref-2.ensures.value at c.has_type-typed.ensures in
    let specifiers = rw c.deref.ensures.value at c.in_ok-put_specifiers.ensures in
    let declarator = rw typed at c.in_ok-put_behind_specifiers.ensures in
    writes_append specifiers declarator

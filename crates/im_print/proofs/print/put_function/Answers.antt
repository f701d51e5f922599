use Rattle.im_print_parts.specs.Output.{known}
use Rattle.im_print_parts.proofs.Writing.{writes_append, writes_same}
use Rattle.im_print_parts.proofs.Rows.{definition_words}
use Rattle.im_print.proofs.print.put_function.Goals as goal

pub returns-clause-written : goal.returns-clause-written
returns-clause-written c =
    let signature = rw c.deref.ensures.value at c.in_ok-put_signature.ensures in
    let body = rw c.deref-2.ensures.value at c.in_ok-put_block.ensures.written in
    writes_same (definition_words (known c.args.names.now.items) c.args.function.now) (writes_append signature body)

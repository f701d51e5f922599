use Rattle.std.proofs.Common.{refl}
use Rattle.std.proofs.lemmas.List.{nil_from_length}
use Rattle.im_eval_machine.proofs.Streaming.{no-byte, a-byte}
use Rattle.im_eval_machine.proofs.streams.next_byte.Goals as goal

pub returns-in_default : goal.returns-in_default
returns-in_default c = λ capacity z.
    no-byte capacity z c.args.machine.now _ (nil_from_length c.args.machine.now.input.now c.in_default.ensures.cases) refl

pub returns : goal.returns
returns c = λ capacity z.
    a-byte capacity z c.args.machine.now c.in-Some.byte.now c.in-Some.rest c.byte_number-number.result c.in-Some.ensures.cases.0 c.byte_number-number.ensures

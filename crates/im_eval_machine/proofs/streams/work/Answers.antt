use Rattle.im_eval_machine.proofs.streams.work.Goals as goal

pub returns-in-Getchar : goal.returns-in-Getchar
returns-in-Getchar c = rw c.in-Getchar.is (c.next_byte.ensures c.args.capacity c.args.argument.value)

pub returns-in-Putchar : goal.returns-in-Putchar
returns-in-Putchar c = rw c.in-Putchar.is (c.put_byte.ensures c.args.argument.value c.byte_of.ensures)

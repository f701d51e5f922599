use Rattle.std.proofs.Common.{◌∙◌, ◌+◌, ◌/◌, ap}
use Rattle.im_num.specs.Bytes.{bytes_of}
use Rattle.im_mem.specs.Memory.{written}
use Rattle.im_mem.proofs.Accesses.{written-four}
use Rattle.im_mem.proofs.flat.put_word.Goals as goal

pub returns : goal.returns
returns c = c.put_half-2.ensures ∙ ap (λ v. written v (c.args.at + 2) (bytes_of 2 (c.args.word / 256 / 256))) c.put_half.ensures ∙ written-four _ _ _ _ _ _

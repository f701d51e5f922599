use Rattle.std.proofs.Common.{arith}
use Rattle.im_check_counts.proofs.Bytes.{few_bytes}
use Rattle.im_check_counts.proofs.words.words_of.Goals as goal

pub overflow_add-result : goal.overflow_add-result
overflow_add-result c =
    let few = few_bytes c.args.kind in
    let is = c.bytes_of_kind-bytes.ensures in
    omega (arith, few, is)

use Rattle.std.proofs.Common.{◌≡◌, ◌∙◌, ap, sym, arith}
use Rattle.im_num.specs.Bytes.{bytes_of}
use Rattle.im_mem.specs.Memory.{view, written}
use Rattle.im_mem.proofs.flat.put_number.Goals as goal

pub returns-in_default : goal.returns-in_default
returns-in_default c =
    let four : c.args.size ≡ 4 = grind (arith, c.requires.size, c.in_default) in
    c.put_word.ensures ∙ ap (λ n. written (view c.args.bytes.now) c.args.at (bytes_of n c.args.word)) (sym four)

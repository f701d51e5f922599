use Rattle.std.proofs.Common.{◌∙◌, ap, cond}
use Rattle.im_num.specs.Bytes.{word_bytes}
use Rattle.im_mem.specs.Memory.{view, written}
use Rattle.im_emu.proofs.Loads.{is_word_place}
use Rattle.im_emu.proofs.load.put_word.Goals as goal

pub returns : goal.returns
returns c =
    let m = view c.args.memory.now in
    c.store.ensures.bytes ∙ ap (λ b. cond b (written m c.args.at (word_bytes c.args.word)) m) (is_word_place c.args.at c.requires.aligned c.requires.room)

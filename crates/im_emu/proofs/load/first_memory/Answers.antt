use Rattle.std.proofs.Common.{refl}
use Rattle.im_emu.proofs.load.first_memory.Goals as goal

pub returns : goal.returns
returns c = rw (c.fill-2.ensures, c.fill.ensures, c.put_words.ensures, c.put_word-5.ensures, c.put_word-4.ensures, c.put_word-3.ensures, c.put_word-2.ensures, c.put_word.ensures, c.in_ok-memory.ensures, c.deref-2.ensures.value, c.deref.ensures.value, ← c.image.view_is) refl

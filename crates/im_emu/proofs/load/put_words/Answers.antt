use Rattle.std.proofs.Common.{◌≡◌, ◌+◌, ◌*◌, ◌∙◌, refl, ap, length, take, length-take, arith}
use Rattle.std.specs.Prelude.{slice_index}
use Rattle.std.specs.List.{flat_map}
use Rattle.std.proofs.lemmas.List.{take_more}
use Rattle.std.proofs.lemmas.Grind.{flat_map-append}
use Rattle.im_num.specs.Bytes.{word_bytes}
use Rattle.im_mem.specs.Memory.{written}
use Rattle.im_mem.proofs.Views.{written-append}
use Rattle.im_emu.proofs.Loads.{length-words}
use Rattle.im_emu.proofs.load.put_words.Goals as goal

pub loop-i-preserved : goal.loop-i-preserved
loop-i-preserved c =
    let i = c.loop-i.i in
    let words = c.args.words.now in
    let taken : length (take i words) ≡ i = simp length-take (omega arith) in
    let count : length (flat_map word_bytes (take i words)) ≡ 4 * i = rw (length-words, taken) refl in
    c.put_word.ensures
    ∙ ap (λ m. written m (c.args.at + 4 * i) (word_bytes (slice_index words i))) c.loop-i.invariant
    ∙ rw (take_more words i 0 c.loop-i-test.true, flat_map-append, written-append, count) refl

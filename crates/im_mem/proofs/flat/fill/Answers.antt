use Rattle.std.proofs.Common.{◌≡◌, ◌<◌, ◌+◌, ◌∷◌, [], ◌∙◌, refl, ap, length, take, length-take, arith}
use Rattle.std.specs.Prelude.{slice_index}
use Rattle.std.proofs.lemmas.List.{take_more}
use Rattle.im_mem.specs.Memory.{written}
use Rattle.im_mem.proofs.Views.{view-set, written-append}
use Rattle.im_mem.proofs.flat.fill.Goals as goal

pub loop-i-preserved : goal.loop-i-preserved
loop-i-preserved c =
    let i = c.loop-i.i in
    let bytes = c.args.bytes.now in
    let at = c.args.at in
    let here : at + i < length c.loop-i.memory = omega arith in
    let count : length (take i bytes) ≡ i = simp length-take (omega arith) in
    view-set c.loop-i.memory (at + i) (slice_index bytes i) here
    ∙ ap (λ m. written m (at + i) (slice_index bytes i ∷ [])) c.loop-i.invariant
    ∙ rw (take_more bytes i 0 (omega arith), written-append, count) refl

use Rattle.std.proofs.Common.{refl, [], ◌∷◌}
use Rattle.std.specs.Prelude.{slice_get}
use Rattle.im_block.specs.Meaning as m
use Rattle.im_eval_store.specs.Shown.{shown}
use Rattle.im_eval_store.specs.declared.value.Value.TheVariants.{Number}
use Rattle.im_block_run.proofs.States.{with-frame}
use Rattle.im_block_run.proofs.streams.give.Goals as goal

pub returns : goal.returns
returns c = λ g s h.
    let a = c.args.state.now in
    let kept = m.kept_by (slice_get c.args.unit.now.functions.items s.frame.function) s.frame.registers in
    let lost = c.lose.ensures s.frame h.running.frame in
    let mid : m.Frame = record s.frame { registers = kept } in
    let set = c.in_ok-set.ensures mid lost in
    let new : m.Frame = record s.frame { registers = m.with_register kept c.args.to (shown (Number c.args.number)) } in
    (record s { frame = new }, m.Serves ∷ [], refl, with-frame a s c.set.new.self new h set)

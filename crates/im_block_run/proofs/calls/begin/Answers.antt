use Rattle.std.proofs.Common.{refl}
use Rattle.im_block.specs.Meaning as m
use Rattle.im_eval_store.specs.declared.memory.Activation.{Activation}
use Rattle.im_block_run.specs.Shown.{plain}
use Rattle.im_block_run.proofs.Begun.{has-begun}
use Rattle.im_block_run.proofs.calls.begin.Goals as goal

pub returns : goal.returns
returns c = λ last store lt h.
    let f = c.args.function.now in
    let number = c.args.number in
    let depth = c.args.depth in
    let objects = c.in_ok-objects.objects in
    let a : Activation = record { number = number; depth = depth; first = f.first_object; objects = objects } in
    c.in_ok-begin.ensures last (plain store) (plain (m.begun_by f (record { number = number; depth = depth }) store)) h
    (has-begun a f c.args.plans.now store refl c.requires c.in_ok-objects.ensures last lt)

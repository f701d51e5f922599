use Rattle.im_ckpt.proofs.Pushing.{register_at}
use Rattle.im_ckpt.proofs.checkpoint.push_stores.Goals as goal

pub push_store-requires : goal.push_store-requires
push_store-requires c = register_at c.args.registers.now c.loop-register.register-index c.requires c.loop-register-test.true

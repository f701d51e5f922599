use Rattle.im_cmd.specs.Stages.{storing_failed, storing_starved}
use Rattle.im_cmd.proofs.Refusing.{unchanged_none}
use Rattle.im_cmd.proofs.saving.store_memory.Goals as goal

pub returns-in-Err-OutOfMemory : goal.returns-in-Err-OutOfMemory
returns-in-Err-OutOfMemory g c = storing_starved (unchanged_none (g.H.Shelf.state c.args.shelf.now))

pub returns-in-Ok-store : goal.returns-in-Ok-store
returns-in-Ok-store g c = record {
  text = c.in-Ok.text.items;
  is_text = c.in-Ok.ensures;
  stores = record { counts = c.in-Ok-store.ensures.counts; files = rw c.deref.ensures.value at c.in-Ok-store.ensures.told };
}

pub returns : goal.returns
returns g c = storing_failed (record {
  text = c.in-Ok.text.items;
  is_text = c.in-Ok.ensures;
  stores = record { counts = c.in-Err.ensures.counts; files = rw c.deref.ensures.value at c.in-Err.ensures.told };
})

use Rattle.im_mem.specs.Memory.{view}
use Rattle.im_mem_file.proofs.upgrading.upgrade_memory.Goals as goal

pub returns-clause-upgraded : goal.returns-clause-upgraded
returns-clause-upgraded c = record {
  version = c.in_ok-saved.saved.version;
  form = c.in_ok-saved.saved.form;
  memory = view c.in_ok-saved.saved.memory;
  old_is = c.in_ok-saved.ensures.text;
  new_is = c.in_ok-write_memory.ensures;
}

use Rattle.std.proofs.Common.{◌≡◌, ◌++◌, take}
use Rattle.std.specs.List.{flat_map}
use Rattle.im_mem.specs.Memory.{view}
use Rattle.im_mem_file.specs.Text.{page_text}
use Rattle.im_mem_file.proofs.writing.write_memory.Given as goal

abbrev pub invariant-loop-page : goal.invariant-loop-page
invariant-loop-page l = l.text.items ≡ l.initial.text.items ++ flat_map (page_text (view l.memory)) (take l.page-index l.page-items)

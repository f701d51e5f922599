use Rattle.std.proofs.Common.{refl, ap}
use Rattle.im_io.specs.MemFiles.{File}
use Rattle.im_io.proofs.MemFiles.{rooms_set}
use Rattle.im_io.proofs.OpenFile.{file_written, put}
use Rattle.im_io.proofs.Refusals.{not_so, by_first, by_second, by_neither}
use Rattle.im_io.proofs.mem_shelf.MemShelfShelf.write.Goals as goal

pub returns-in-Ok-clause-told : goal.returns-in-Ok-clause-told
returns-in-Ok-clause-told c = rw (← c.self.view_is)
    (put c.self.inside.files.items c.self.inside.place c.in-Writing.file c.index_mut.result.now c.args.bytes.now c.in-Ok.count c.write.new.self
    c.in-Writing.is (rw (← c.self.view_is) at c.requires) c.index_mut.ensures.value c.in-Ok.ensures.put)

pub returns-then-is_refused-clause-failed : goal.returns-then-is_refused-clause-failed
returns-then-is_refused-clause-failed c = rw (← c.self.view_is) (by_first (c.is_refused.ensures.refused.0 c.if-is_refused.true))

pub returns-in-Ok-clause-failed : goal.returns-in-Ok-clause-failed
returns-in-Ok-clause-failed c =
    let file = file_written c.self.inside.files.items c.self.inside.place c.in-Writing.file c.index_mut.result.now c.in-Writing.is (rw (← c.self.view_is) at c.requires) c.index_mut.ensures.value in
    rw (← c.self.view_is, file) (by_neither (not_so c.is_refused.result c.is_refused.ensures.refused c.if-is_refused.false) (not_so _ c.in-Ok.ensures.refused refl))

pub returns-in-Ok-clause-made : goal.returns-in-Ok-clause-made
returns-in-Ok-clause-made c = rw (← c.self.view_is) (record {
  made = c.is_refused.ensures.made;
  failing = c.is_refused.ensures.failing;
  rooms = rooms_set c.self.inside.files.items c.in-Writing.file c.index_mut.result.now c.write.new.self c.index_mut.ensures.value
      (ap (λ (f : File). f.name) c.in-Ok.ensures.put) (ap (λ (f : File). f.room) c.in-Ok.ensures.put);
})

pub returns-in-Err-clause-failed : goal.returns-in-Err-clause-failed
returns-in-Err-clause-failed c =
    let file = file_written c.self.inside.files.items c.self.inside.place c.in-Writing.file c.index_mut.result.now c.in-Writing.is (rw (← c.self.view_is) at c.requires) c.index_mut.ensures.value in
    rw (← c.self.view_is, file) (by_second (c.in-Err.ensures.refused.0 refl))

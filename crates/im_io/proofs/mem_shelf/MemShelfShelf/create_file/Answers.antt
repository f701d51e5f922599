use Rattle.std.proofs.Common.{ap}
use Rattle.im_io.specs.MemFiles.{File}
use Rattle.im_io.proofs.MemFiles.{found, found_given, not_given, rooms_set}
use Rattle.im_io.proofs.OpenFile.{emptied}
use Rattle.im_io.proofs.Refusals.{not_so, by_first, by_second, by_neither}
use Rattle.im_io.proofs.mem_shelf.MemShelfShelf.create_file.Goals as goal

pub returns-then-is_refused-clause-failed : goal.returns-then-is_refused-clause-failed
returns-then-is_refused-clause-failed c = rw (← c.self.view_is) (by_first (c.is_refused.ensures.refused.0 c.if-is_refused.true))

pub returns-in-Some-clause-mode : goal.returns-in-Some-clause-mode
returns-in-Some-clause-mode c =
    let files = c.self.inside.files.items in
    (emptied files c.args.name.now c.in-Some.file c.index_mut.result.now c.create.new.self (found files c.args.name.now c.in-Some.file (rw c.deref.ensures.value at c.in-Some.ensures)) c.index_mut.ensures.value c.create.ensures).mode

pub returns-in-Some-clause-told : goal.returns-in-Some-clause-told
returns-in-Some-clause-told c =
    let files = c.self.inside.files.items in
    rw (← c.self.view_is) ((emptied files c.args.name.now c.in-Some.file c.index_mut.result.now c.create.new.self (found files c.args.name.now c.in-Some.file (rw c.deref.ensures.value at c.in-Some.ensures)) c.index_mut.ensures.value c.create.ensures).created c.self.inside.place)

pub returns-in-Some-clause-failed : goal.returns-in-Some-clause-failed
returns-in-Some-clause-failed c =
    let files = c.self.inside.files.items in
    let given = found_given files c.args.name.now c.in-Some.file (found files c.args.name.now c.in-Some.file (rw c.deref.ensures.value at c.in-Some.ensures)) in
    rw (← c.self.view_is) (by_neither (not_so c.is_refused.result c.is_refused.ensures.refused c.if-is_refused.false) (λ none. none given))

pub returns-in-Some-clause-made : goal.returns-in-Some-clause-made
returns-in-Some-clause-made c = rw (← c.self.view_is) (record {
  made = c.is_refused.ensures.made;
  failing = c.is_refused.ensures.failing;
  rooms = rooms_set c.self.inside.files.items c.in-Some.file c.index_mut.result.now c.create.new.self c.index_mut.ensures.value
      (ap (λ (f : File). f.name) c.create.ensures) (ap (λ (f : File). f.room) c.create.ensures);
})

pub returns-in-None-clause-failed : goal.returns-in-None-clause-failed
returns-in-None-clause-failed c = rw (← c.self.view_is) (by_second (not_given c.self.inside.files.items c.args.name.now (rw c.deref.ensures.value at c.in-None.ensures)))

use Rattle.im_io.proofs.MemFiles.{element, found, found_content}
use Rattle.im_io.proofs.OpenFile.{told_files}
use Rattle.im_io.proofs.mem_shelf.MemShelf.file.Goals as goal

pub returns : goal.returns
returns c =
    let files = c.self.inside.files.items in
    let name = c.args.name.now in
    let number = c.in_ok-number.number in
    let here = found files name number (rw c.deref.ensures.value at c.in_ok-number.ensures) in
    rw (← c.self.view_is, told_files files c.self.inside.place, found_content files name number here, element files number c.index.result.now here.within c.index.ensures) c.contents.ensures

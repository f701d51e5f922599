use Rattle.std.proofs.Common.{◌≡◌, sym, ap, ◌∙◌}
use Rattle.std.specs.Prelude.{is_some, true}
use Rattle.im_io.specs.MemFiles.{File, file_at}
use Rattle.im_io.proofs.MemFiles.{element, found, found_first}
use Rattle.im_io.proofs.mem_shelf.find_there.Goals as goal

pub returns-then-is_there : goal.returns-then-is_there
returns-then-is_there c =
    let here = found c.args.files.now c.args.name.now c.in-Some.number c.in-Some.ensures in
    let file = element c.args.files.now c.in-Some.number c.index-files-number.result here.within c.index-files-number.is in
    let there : is_some (file_at c.args.files.now c.in-Some.number).content ≡ true = ap (λ (f : File). is_some f.content) file ∙ sym c.is_there.ensures ∙ c.if-is_there.true in
    (found_first c.args.files.now c.args.name.now c.in-Some.number here there, here.named)

use Rattle.std.proofs.Common.{◌≡◌, ◌+◌, ◌-◌, ◌++◌, length, replicate, refl, arith}
use Rattle.std.proofs.lemmas.Option.{slice_get_read}
use Rattle.im_num.specs.Bytes.{bytes_of}
use Rattle.im_num.specs.Kinds.{kind_size}
use Rattle.im_pack.specs.Packed.{word_of}
use Rattle.im_pack.proofs.Steps.{next_cell}
use Rattle.im_pack.proofs.bytes.push_static.Goals as goal

pub overflow_add-start : goal.overflow_add-start
overflow_add-start c =
    let e = slice_get_read c.args.part.now.object.cells.items (length c.args.part.now.object.cells.items) c.loop-i.i c.index-cell.result.now refl (omega arith) c.index-cell.ensures in
    let i = c.requires.ready.cells.inside c.loop-i.i c.index-cell.result.now e in
    omega arith

pub fill-requires : goal.fill-requires
fill-requires c =
    let e = slice_get_read c.args.part.now.object.cells.items (length c.args.part.now.object.cells.items) c.loop-i.i c.index-cell.result.now refl (omega arith) c.index-cell.ensures in
    let b = c.loop-i.invariant.before c.index-cell.result.now e in
    omega arith

pub word_of-requires : goal.word_of-requires
word_of-requires c =
    c.requires.ready.words c.loop-i.i c.index.result.now (slice_get_read c.args.part.now.values.items (length c.args.part.now.values.items) c.loop-i.i c.index.result.now refl (omega arith) c.index.ensures)

pub loop-i-preserved : goal.loop-i-preserved
loop-i-preserved c =
    let e = slice_get_read c.args.part.now.object.cells.items (length c.args.part.now.object.cells.items) c.loop-i.i c.index-cell.result.now refl (omega arith) c.index-cell.ensures in
    let v = slice_get_read c.args.part.now.values.items (length c.args.part.now.values.items) c.loop-i.i c.index.result.now refl (omega arith) c.index.ensures in
    let is : c.push_word.new.bytes.items ≡ (c.loop-i.bytes.items ++ replicate (length c.args.bytes.now.items + c.index-cell.result.now.offset - length c.loop-i.bytes.items) 0) ++ bytes_of (kind_size c.index-cell.result.now.kind) (word_of c.args.addresses.now c.index.result.now) =
    cc (c.in_ok-fill.ensures, c.in_ok-push_word.ensures, c.len-start.ensures, c.word_of.ensures, c.kind_size.ensures) in
    next_cell c.args.addresses.now c.args.bytes.now.items c.args.part.now c.requires.ready c.loop-i.i c.loop-i.bytes.items c.push_word.new.bytes.items c.index-cell.result.now c.index.result.now c.loop-i.invariant e v is

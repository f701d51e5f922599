use Rattle.std.proofs.Common.{◌<◌, length, arith}
use Rattle.std.specs.Prelude.{string_bytes}
use Rattle.im_compile.proofs.Names.{char_on}
use Rattle.im_compile.proofs.texts.text_of.Goals as goal

pub loop-byte-preserved : goal.loop-byte-preserved
loop-byte-preserved c =
    let items = c.args.name.now in
    let below : c.loop-byte.byte-index < length items = (let t = c.loop-byte-test.true in omega arith) in
    char_on items c.loop-byte.byte-index c.from.result (string_bytes c.loop-byte.text) (string_bytes c.push.new.self) below c.from.ensures c.loop-byte.invariant c.in_ok-push.ensures.bytes

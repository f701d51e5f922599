use Rattle.std.proofs.Common.{arith}
use Rattle.im_ctype.specs.Table.{IsIn}
use Rattle.im_ctype.proofs.Steps.{step-array, step-struct}
use Rattle.im_ctype.proofs.listing.take_up_object.Goals as goal

pub returns-in_ok-push-in-Array : goal.returns-in_ok-push-in-Array
returns-in_ok-push-in-Array c =
    let t = c.args.table.now in
    let known : IsIn t c.in-Array.element = (let e = c.in-Array.ensures.earlier in let k = c.requires.known in omega (arith, e, k)) in
    step-array t c.args.pending.now.items c.push-in-Array.new.self.items c.args.found.now.items c.requires.fit c.args.ty c.in-Array.element c.args.at c.in-Array.count
    c.in-Array.ensures.type_is known c.requires.held c.in_ok-push-in-Array.ensures.items

pub returns-in_ok-push-in-Struct : goal.returns-in_ok-push-in-Struct
returns-in_ok-push-in-Struct c =
    step-struct c.args.table.now c.args.pending.now.items c.push-in-Struct.new.self.items c.args.found.now.items c.requires.fit c.args.ty c.in-Struct.number c.args.at
    c.in-Struct.ensures.complete c.in-Struct.ensures.type_is c.requires.held c.in_ok-push-in-Struct.ensures.items

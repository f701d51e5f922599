use Rattle.std.proofs.Common.{◌<◌, arith}
use Rattle.im_ctype.proofs.Steps.{fits-rest, on-ok, step-objects}
use Rattle.im_ctype.proofs.listing.take_up.Goals as goal

pub take_up_object-requires-clause-fit : goal.take_up_object-requires-clause-fit
take_up_object-requires-clause-fit c =
    let t = c.args.table.now in
    let pos : 0 < c.in-Objects.count = (let f = c.if-count-eq0.false in omega (arith, f)) in
    let fits = rw c.in-Objects.is at c.requires.next_fits in
    let e = rw c.size_of.ensures at c.in_ok-push-in-Objects.ensures.items in
    (fits-rest t c.args.pending.now.items c.push.new.self.items c.in-Objects.ty c.in-Objects.at c.in-Objects.count pos fits c.requires.fit e).0

pub returns-in_ok-push-in-Objects : goal.returns-in_ok-push-in-Objects
returns-in_ok-push-in-Objects c =
    let t = c.args.table.now in
    let pos : 0 < c.in-Objects.count = (let f = c.if-count-eq0.false in omega (arith, f)) in
    let e = rw c.size_of.ensures at c.in_ok-push-in-Objects.ensures.items in
    rw c.in-Objects.is (on-ok c.take_up_object.result (step-objects t c.args.pending.now.items c.push.new.self.items c.take_up_object.new.pending.items c.args.found.now.items c.take_up_object.new.found.items c.in-Objects.ty c.in-Objects.at c.in-Objects.count pos e) c.take_up_object.ensures)

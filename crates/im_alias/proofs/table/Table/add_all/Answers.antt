use Rattle.std.proofs.Common.{◌<◌, length, refl, sym, subst, arith}
use Rattle.std.specs.Vec.{with_item}
use Rattle.std.proofs.lemmas.Option.{slice_get_read}
use Rattle.std.proofs.lemmas.Result.{IfOk-weaker}
use Rattle.im_alias.specs.declared.table.Owner.TheVariants.{Object, Returned, Register}
use Rattle.im_alias.specs.declared.table.Table.{Table}
use Rattle.im_alias.specs.Ascending.{Adds}
use Rattle.im_alias.specs.Sets.{Grows, IsThere, Put}
use Rattle.im_alias.proofs.Growing.{object_grows, returned_grows, register_grows, row_there}
use Rattle.im_alias.proofs.Steps.{set_there}
use Rattle.im_alias.proofs.table.Table.add_all.Goals as goal

pub returns-in-Object : goal.returns-in-Object
returns-in-Object c =
    let old = c.args.self.now in
    let n = c.in-Object.number in
    let from = c.args.objects.now.members.items in
    let was = c.index_mut.result.now in
    let set = c.add_all.new.self in
    let new : Table = record { objects = with_item old.objects n set; returned = old.returned; registers = old.registers } in
    let there : n < length old.objects.items = subst (IsThere old) c.in-Object.is c.requires in
    rw c.in-Object.is (IfOk-weaker c.add_all.result (λ b. Adds was.members.items from set.members.items b) (λ b. Grows (Object n) from old new b)
    (λ b h. object_grows old new n from b (record { set = set; there = there; is = refl; adds = subst (λ l. Adds l from set.members.items b) (sym (set_there old.objects.items n was there c.index_mut.ensures.value)) h }) refl refl)
    c.add_all.ensures)

pub returns-in-Returned : goal.returns-in-Returned
returns-in-Returned c =
    let old = c.args.self.now in
    let n = c.in-Returned.function in
    let from = c.args.objects.now.members.items in
    let was = c.index_mut-in-Returned.result.now in
    let set = c.add_all-in-Returned.new.self in
    let new : Table = record { objects = old.objects; returned = with_item old.returned n set; registers = old.registers } in
    let there : n < length old.returned.items = subst (IsThere old) c.in-Returned.is c.requires in
    rw c.in-Returned.is (IfOk-weaker c.add_all-in-Returned.result (λ b. Adds was.members.items from set.members.items b) (λ b. Grows (Returned n) from old new b)
    (λ b h. returned_grows old new n from b (record { set = set; there = there; is = refl; adds = subst (λ l. Adds l from set.members.items b) (sym (set_there old.returned.items n was there c.index_mut-in-Returned.ensures.value)) h }) refl refl)
    c.add_all-in-Returned.ensures)

pub returns-in-Register : goal.returns-in-Register
returns-in-Register c =
    let old = c.args.self.now in
    let i = c.in-Register.function in
    let r = c.in-Register.register in
    let from = c.args.objects.now.members.items in
    let was = c.index_mut-in-Register.result.now in
    let row = c.add_all-in-Register.new.self in
    let rows = old.registers.items in
    let new : Table = record { objects = old.objects; returned = old.returned; registers = with_item old.registers i row } in
    let there : i < length rows = row_there rows i r (subst (IsThere old) c.in-Register.is c.requires) in
    rw c.in-Register.is (IfOk-weaker c.add_all-in-Register.result (λ b. Put was.sets.items row.sets.items r from b) (λ b. Grows (Register i r) from old new b)
    (λ b h. register_grows old new i r from b (record { row = row; before = was; was = slice_get_read rows (length rows) i was refl there c.index_mut-in-Register.ensures.value; there = there; is = refl; put = h }) refl refl)
    c.add_all-in-Register.ensures)

pub index_mut-requires-in-Register : goal.index_mut-requires-in-Register
index_mut-requires-in-Register c =
    let old = c.args.self.now in
    let there : c.in-Register.function < length old.registers.items = row_there old.registers.items c.in-Register.function c.in-Register.register (subst (IsThere old) c.in-Register.is c.requires) in
    omega arith

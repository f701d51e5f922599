use Rattle.std.proofs.Common.{refl, sym, subst}
use Rattle.std.proofs.lemmas.Result.{IfOk-weaker}
use Rattle.std.specs.Prelude.{slice_set}
use Rattle.im_alias.specs.Ascending.{Adds}
use Rattle.im_alias.specs.Sets.{Put}
use Rattle.im_alias.proofs.Steps.{set_there}
use Rattle.im_alias.proofs.table.RegisterSets.add_all.Goals as goal

pub returns : goal.returns
returns c =
    let old = c.args.self.now.sets.items in
    let r = c.args.register in
    let from = c.args.objects.now.members.items in
    let was = c.index_mut.result.now in
    let set = c.add_all.new.self in
    IfOk-weaker c.add_all.result (λ b. Adds was.members.items from set.members.items b) (λ b. Put old (slice_set old r set) r from b)
    (λ b h. record { set = set; there = c.requires; is = refl; adds = subst (λ l. Adds l from set.members.items b) (sym (set_there old r was c.requires c.index_mut.ensures.value)) h })
    c.add_all.ensures

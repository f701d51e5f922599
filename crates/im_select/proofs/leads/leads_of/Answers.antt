use Rattle.std.proofs.Common.{◌≡◌, ◌<◌, ℕ, List, Bool, Some, length, refl, ap, ◌∙◌, arith}
use Rattle.std.specs.Prelude.{slice_get, slice_index}
use Rattle.std.proofs.lemmas.Option.{slice_get_read}
use Rattle.im_block.specs.declared.code.Block.{Block}
use Rattle.im_select_relation.specs.Jumps.{are_few}
use Rattle.im_select.specs.Leads.{lead_as}
use Rattle.im_select.proofs.Following.{leads_more}
use Rattle.im_select.proofs.leads.leads_of.Goals as goal

pub loop-number-preserved : goal.loop-number-preserved
loop-number-preserved c =
    let function = c.args.function.now in
    let blocks : List Block = function.blocks.items in
    let entry : ℕ = function.entry in
    let n : ℕ = c.loop-number.number in
    let block : Block = c.index-block.result.now in
    let leads : List ℕ = c.loop-number.leads.items in
    let within : n < length blocks = (let t = c.loop-number-test.true in let e = c.len-number-end.ensures in omega arith) in
    let is : slice_get blocks n ≡ Some block = slice_get_read blocks (length blocks) n block refl within c.index-block.ensures in
    let few : c.are_few-few.result ≡ are_few blocks = c.are_few-few.ensures ∙ ap are_few c.deref.ensures.value in
    leads_more blocks entry leads c.push.new.self.items n c.lead_of-lead.result block is c.loop-number.invariant c.in_ok-push.ensures.items
    (c.lead_of-lead.ensures
    ∙ ap (λ (t : Bool). lead_as t (slice_index c.deref-in-loop-number.result.now) entry n block) few
    ∙ ap (λ (z : List ℕ). lead_as (are_few blocks) (slice_index z) entry n block) c.deref-in-loop-number.ensures.value)

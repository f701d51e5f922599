use Rattle.std.proofs.Common.{ℕ, ◌≡◌, ◌+◌, ◌<◌, Some, length, refl, subst}
use Rattle.std.specs.Prelude.{slice_get}
use Rattle.std.proofs.lemmas.Option.{slice_get_read}
use Rattle.std.proofs.lemmas.Result.{IfOk-weaker}
use Rattle.im_block_laws.specs.PointsTo.{Sub}
use Rattle.im_alias.specs.PointsAt.{CallFits}
use Rattle.im_alias.specs.Sets.{Flowed, row_sets, width}
use Rattle.im_alias.specs.Scan.{CanTake, TakesAll}
use Rattle.im_alias.proofs.Arms.{line_nothing, callee_in, call_flows}
use Rattle.im_alias.proofs.flow.flow_line.Goals as goal

pub returns-in-Write : goal.returns-in-Write
returns-in-Write c = rw c.in-Write.is c.flow_write.ensures

pub returns-in-Call : goal.returns-in-Call
returns-in-Call c =
    let functions = c.args.unit.now.functions.items in
    let t = c.args.table.now in
    let new = c.flow_arguments.new.table in
    let spot = c.args.spot.now in
    let callee = c.in-Call.function in
    let first = c.in-Call.first in
    let count = c.in-Call.count in
    let f = c.index.result.now in
    let takes : TakesAll (width (slice_get t.registers.items callee)) count (slice_get functions callee) = subst (CanTake functions t) c.in-Call.is c.requires.takes in
    let within : callee < length functions = callee_in functions callee count (width (slice_get t.registers.items callee)) (slice_get functions callee) refl takes in
    let there : slice_get functions callee ≡ Some f = slice_get_read functions (length functions) callee f refl within c.index.ensures in
    rw c.in-Call.is (IfOk-weaker c.flow_arguments.result (λ b. Flowed (λ p. (k : ℕ) → k < count → Sub (row_sets spot (first + k)) (p.register callee (f.first_parameter + k))) t new b) (λ b. Flowed (λ p. CallFits p (row_sets spot) first count callee (slice_get functions callee)) t new b)
    (λ b h. call_flows functions (row_sets spot) callee first count f t new b there h)
    c.flow_arguments.ensures)

pub returns-in_default : goal.returns-in_default
returns-in_default c = line_nothing c.args.unit.now.functions.items (row_sets c.args.spot.now) c.args.line c.args.table.now c.requires.can.slotless c.in_default.not-Write c.in_default.not-Call

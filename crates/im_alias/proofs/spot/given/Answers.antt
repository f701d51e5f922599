use Rattle.std.proofs.Common.{◌≡◌, length, sym, ◌∙◌, subst}
use Rattle.std.proofs.lemmas.Result.{IfOk-weaker}
use Rattle.im_block.specs.Wellformed.{LineWithin}
use Rattle.im_alias.specs.Sets.{points, row_sets}
use Rattle.im_alias.specs.Scan.{Alike, CallsOf}
use Rattle.im_alias.proofs.Giving.{given_nothing}
use Rattle.im_alias.proofs.Steps.{alike_same, set_there}
use Rattle.im_alias.proofs.spot.given.Goals as goal

pub returns-in-Copy : goal.returns-in-Copy
returns-in-Copy c =
    let spot = c.args.spot.now in
    let from = c.in-Copy.from in
    let was = c.index.result.now in
    let within = subst (LineWithin (length spot.sets.items)) c.in-Copy.is c.requires.within in
    let there = set_there spot.sets.items from was within.1 c.index.ensures in
    rw c.in-Copy.is (IfOk-weaker c.copy.result (λ s. s.members.items ≡ was.members.items) (λ s. Alike s.members.items (row_sets spot from)) (λ s e. alike_same s.members.items (row_sets spot from) (e ∙ sym there)) c.copy.ensures)

pub returns-in-Move : goal.returns-in-Move
returns-in-Move c =
    let spot = c.args.spot.now in
    let from = c.in-Move.pointer in
    let was = c.index-in-Move.result.now in
    let within = subst (LineWithin (length spot.sets.items)) c.in-Move.is c.requires.within in
    let there = set_there spot.sets.items from was within.1 c.index-in-Move.ensures in
    rw c.in-Move.is (IfOk-weaker c.copy-in-Move.result (λ s. s.members.items ≡ was.members.items) (λ s. Alike s.members.items (row_sets spot from)) (λ s e. alike_same s.members.items (row_sets spot from) (e ∙ sym there)) c.copy-in-Move.ensures)

pub returns-in-Address : goal.returns-in-Address
returns-in-Address c = rw c.in-Address.is c.address_set.ensures

pub returns-in-Read : goal.returns-in-Read
returns-in-Read c = rw c.in-Read.is c.loaded_set.ensures

pub returns-in-Call : goal.returns-in-Call
returns-in-Call c =
    let t = c.args.table.now in
    let callee = c.in-Call.function in
    let was = c.index-in-Call.result.now in
    let within = subst (CallsOf (length t.returned.items)) c.in-Call.is c.requires.calls in
    let there = set_there t.returned.items callee was within c.index-in-Call.ensures in
    rw c.in-Call.is (IfOk-weaker c.copy-in-Call.result (λ s. s.members.items ≡ was.members.items) (λ s. Alike s.members.items ((points t).result callee)) (λ s e. alike_same s.members.items ((points t).result callee) (e ∙ sym there)) c.copy-in-Call.ensures)

pub returns-in_default : goal.returns-in_default
returns-in_default c =
    let none = given_nothing (points c.args.table.now) (row_sets c.args.spot.now) c.args.line c.in_default.not-Copy c.in_default.not-Move c.in_default.not-Address c.in_default.not-Read c.in_default.not-Call in
    alike_same c.new.result.members.items _ (c.new.ensures ∙ sym none)

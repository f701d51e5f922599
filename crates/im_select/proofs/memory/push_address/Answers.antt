use Rattle.std.proofs.Common.{◌≡◌, ◌+◌, ◌++◌, [], ◌∷◌, OnOk, w32, of_z, to_z, sym, ap, ◌∙◌, subst, arith}
use Rattle.std.proofs.lemmas.Int.{of_z-to_z}
use Rattle.im_rv.specs.Steps.{word}
use Rattle.im_rv.specs.Lines.{code_lines, line_of, plain_line}
use Rattle.im_rv_reach.specs.Instructions.{upper}
use Rattle.im_select.specs.Emitted.{high_of, place_number, based_code}
use Rattle.im_select.specs.Given.{given}
use Rattle.im_select.specs.Places.{at_of}
use Rattle.im_select.proofs.Splitting.{high_is}
use Rattle.im_select.proofs.Addressing.{page_address, based_address, other_address}
use Rattle.im_select.proofs.memory.push_address.Goals as goal
use Rattle.im_select.proofs.memory.push_address.Goals.{in-Static+else-address-eq0, in_default}

pub returns : goal.returns
returns c =
    let at = at_of (given c.args.names.now) in
    let to = c.args.to in
    let place = c.args.place in
    subst (λ z. OnOk c.push_based.result (code_lines c.push_based.new.lines.items ≡ code_lines c.args.lines.now.items ++ z))
    (elim c.match-place.branch [
      | in-Static+else-address-eq0 w ↦ ap (λ p. based_code to p (place_number at p)) (w.place-is ∙ sym w.in-Static.is) ∙ based_address at to w.in-Static.object w.in-Static.offset (w.static_place.result + w.in-Static.offset) place w.in-Static.is (ap (λ z. z + w.in-Static.offset) w.static_place.ensures.value) w.if-address-eq0.false
      | in_default w ↦ ap (λ p. based_code to p (place_number at p)) w.place-is ∙ other_address to place (place_number at place) w.in_default.not-Static
    ])
    c.push_based.ensures

pub returns-then-address-eq0 : goal.returns-then-address-eq0
returns-then-address-eq0 c =
    let at = at_of (given c.args.names.now) in
    let to = c.args.to in
    let object = c.in-Static.object in
    let offset = c.in-Static.offset in
    let n = c.static_place.result + offset in
    let high = c.high_part.result in
    let h : of_z w32 high ≡ high_of n = c.high_part.ensures.value in
    let k = high_is n in
    let imm : word (to_z w32 (of_z w32 high)) ≡ high_of n = of_z-to_z w32 (of_z w32 high) (omega arith) ∙ h in
    let line : line_of c.lui.result ≡ upper to (high_of n) = c.lui.ensures ∙ ap (λ z. upper z (word (to_z w32 (of_z w32 high)))) c.register.ensures ∙ ap (upper to) imm in
    let code = page_address at to object offset n c.args.place c.in-Static.is (ap (λ z. z + offset) c.static_place.ensures.value) c.if-address-eq0.true in
    subst (λ z. OnOk c.push.result (code_lines c.push.new.lines.items ≡ code_lines c.args.lines.now.items ++ z)) (ap (λ l. plain_line l ∷ []) line ∙ code) c.push.ensures

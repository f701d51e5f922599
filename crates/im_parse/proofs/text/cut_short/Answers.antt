use Rattle.std.proofs.Common.{map, refl, sym, subst, arith}
use Rattle.std.proofs.lemmas.List.{length-map, take-map}
use Rattle.im_word.specs.Shown.{shown}
use Rattle.im_ctree.specs.Shape.{tree_of}
use Rattle.im_ctree.specs.Units.{Spells}
use Rattle.im_parse.specs.Spelling.{IsFirstFault}
use Rattle.im_parse.proofs.Cut.{whole_front, earlier_told}
use Rattle.im_parse.proofs.text.cut_short.Goals as goal

pub returns-in-Ok : goal.returns-in-Ok
returns-in-Ok c =
    let words = c.args.words.now in
    let spelled = subst (Spells (tree_of c.in-Ok.field-0)) (sym (take-map shown c.args.place words)) c.in-Ok.ensures in
    rw c.dimensions_at.ensures ((refl, whole_front (map shown words) c.args.place (tree_of c.in-Ok.field-0) spelled))

pub returns-in-Syntax : goal.returns-in-Syntax
returns-in-Syntax c =
    let words = c.args.words.now in
    let place = c.args.place in
    let long = length-map words shown in
    let within = c.requires.within in
    let fault = subst (λ ws. IsFirstFault ws c.in-Syntax.fault) (sym (take-map shown place words)) (rw c.in-Syntax.is at c.in-Err.ensures) in
    rw c.earlier.ensures (earlier_told (map shown words) place c.in-Syntax.fault (omega (arith, long, within)) fault)

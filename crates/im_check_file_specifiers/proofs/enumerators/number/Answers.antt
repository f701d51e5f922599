use Rattle.std.proofs.Common.{sym, rules}
use Rattle.std.proofs.lemmas.Int.{to_z-of_z}
use Rattle.im_rules.specs.TypedUnit.{counted_on, written}
use Rattle.im_rules.specs.Strings.{strings_in}
use Rattle.im_ctree_parts.specs.Lists.{expression_in}
use Rattle.im_check_file_place.specs.Files.{file_place_of}
use Rattle.im_check_file_specifiers.proofs.Places.{passed, past_none}
use Rattle.im_check_file_specifiers.proofs.enumerators.number.Goals as goal
use mir.Syntax.{w128}
use mir.Val.{SFits}

pub returns-in-None : goal.returns-in-None
returns-in-None c =
    let f : SFits w128 c.args.next.value = search rules in
    rw (c.in-None.is, to_z-of_z w128 c.args.next.value f) (counted_on, sym (past_none (file_place_of c.args.file.now)), λ k h. absurd h)

pub returns-in_ok-append_expression-in-Some : goal.returns-in_ok-append_expression-in-Some
returns-in_ok-append_expression-in-Some c =
    let x = rw c.deref.ensures at c.in_ok-x-in-Some.ensures in
    let texts = rw c.deref-in-Some.ensures at c.in_ok-append_expression-in-Some.ensures in
    rw (c.in-Some.is, c.constant_of.ensures c.args.file.now.place.structs) (written x.0, passed c.args.file.now _ c.append_expression.new.texts (strings_in (expression_in c.in-Some.e.value)) x.1 texts, x.2)

use Rattle.std.proofs.Common.{ap}
use Rattle.std.specs.Prelude.{map}
use Rattle.std.proofs.lemmas.Result.{err_from_is_err_and}
use Rattle.im_word.specs.Shown.{shown}
use Rattle.im_parse_core.proofs.Steps.{last, last_refused}
use Rattle.im_parse_expression.proofs.Exits.{stopped, isnt, itis}
use Rattle.im_parse_expression.proofs.PostfixLines.{no_primary, not_none, not_keyword, not_unknown, not_typedef, not_mark, reads_identifier, reads_number, reads_character, string_start}
use Rattle.im_parse_expression.proofs.postfix.single.Goals as goal

pub returns-in_default : goal.returns-in_default
returns-in_default c = no_primary (map shown c.args.words.now) (not_none c.in_default.ensures)

pub returns-then-contains : goal.returns-then-contains
returns-then-contains c = no_primary (map shown c.args.words.now) (not_typedef (rw (ap shown c.in-Name.is) at c.in-Some.ensures) (itis c.contains.result c.if-contains.true c.contains.ensures))

pub returns-in_ok-from_slice-in-Name : goal.returns-in_ok-from_slice-in-Name
returns-in_ok-from_slice-in-Name c = rw c.in_ok-from_slice-in-Name.ensures.items (reads_identifier (rw (ap shown c.in-Name.is) at c.in-Some.ensures) (isnt c.contains.result c.if-contains.false c.contains.ensures))

pub returns-in-Number : goal.returns-in-Number
returns-in-Number c = reads_number (rw (ap shown c.in-Number.is) at c.in-Some.ensures)

pub returns-in-Character : goal.returns-in-Character
returns-in-Character c = reads_character (rw (ap shown c.in-Character.is) at c.in-Some.ensures)

pub returns-in_err-bytes-in-Text : goal.returns-in_err-bytes-in-Text
returns-in_err-bytes-in-Text c = let p = err_from_is_err_and c.from_residual-in_err-bytes-in-Text.result c.from_residual-in_err-bytes-in-Text.ensures.1 in rw (p.1, p.2) (stopped (map shown c.args.words.now) (λ n h. last_refused h (string_start (rw (ap shown c.in-Text.is) at c.in-Some.ensures))) _ c.in_err-bytes-in-Text.ensures)

pub returns-in_ok-bytes-in-Text : goal.returns-in_ok-bytes-in-Text
returns-in_ok-bytes-in-Text c = last c.in_ok-bytes-in-Text.ensures (string_start (rw (ap shown c.in-Text.is) at c.in-Some.ensures))

pub returns-in-Keyword : goal.returns-in-Keyword
returns-in-Keyword c = no_primary (map shown c.args.words.now) (not_keyword (rw (ap shown c.in-Keyword.is) at c.in-Some.ensures))

pub returns-in-Mark : goal.returns-in-Mark
returns-in-Mark c = no_primary (map shown c.args.words.now) (not_mark (rw (ap shown c.in-Mark.is) at c.in-Some.ensures) c.requires.other)

pub returns-in-Unknown : goal.returns-in-Unknown
returns-in-Unknown c = no_primary (map shown c.args.words.now) (not_unknown (rw (ap shown c.in-Unknown.is) at c.in-Some.ensures))

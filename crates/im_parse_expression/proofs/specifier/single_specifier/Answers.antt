use Rattle.std.proofs.Common.{map, sym, ◌∙◌, ◌≡◌, true, false}
use Rattle.im_word.specs.Shown.{shown}
use Rattle.im_parse_expression.proofs.NextWord.{isnt_so}
use Rattle.im_parse_expression.proofs.SpecifierLines.{no_specifier, not_specifier_word, reads_typedef, reads_word, typed_name}
use Rattle.im_parse_expression.proofs.specifier.single_specifier.Goals as goal

pub returns-in-Some : goal.returns-in-Some
returns-in-Some c = reads_word (map shown c.args.words.now) c.in-Some.ensures

pub returns-then-typed : goal.returns-then-typed
returns-then-typed c = no_specifier (map shown c.args.words.now) (typed_name c.in-Some-name_at.ensures (λ e. let h : false ≡ true = sym e ∙ c.if-typed.true in absurd cc))

pub returns-then-not-contains : goal.returns-then-not-contains
returns-then-not-contains c = no_specifier (map shown c.args.words.now) (typed_name c.in-Some-name_at.ensures (λ e. isnt_so c.contains.ensures c.if-not-contains.true))

pub returns-in_ok-tree-in-Some-name_at : goal.returns-in_ok-tree-in-Some-name_at
returns-in_ok-tree-in-Some-name_at c = rw c.in_ok-tree-in-Some-name_at.ensures (reads_typedef (map shown c.args.words.now) c.if-typed.false c.in-Some-name_at.ensures (c.contains.ensures.0 c.if-not-contains.false))

pub returns-in-None : goal.returns-in-None
returns-in-None c = no_specifier (map shown c.args.words.now) (not_specifier_word (map shown c.args.words.now) c.args.at c.in_default.ensures c.requires.no_struct c.requires.no_enum c.in-None.ensures)

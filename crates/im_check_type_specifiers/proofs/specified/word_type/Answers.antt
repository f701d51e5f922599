use Rattle.std.proofs.Common.{false, refl, ap, ◌∙◌}
use Rattle.im_ctype.specs.Types.{CType}
use Rattle.im_check_scopes.specs.im_rules.Declared.{Qualified}
use Rattle.im_ctree_parts.specs.Lists.{list_from}
use Rattle.im_check_type_specifiers.specs.Lines.{word_type_of}
use Rattle.im_check_type_specifiers.proofs.Made.{made_of_words, refused_words}
use Rattle.im_check_type_specifiers.proofs.specified.word_type.Goals as goal

pub returns-in-Some-clause-typed : goal.returns-in-Some-clause-typed
returns-in-Some-clause-typed c = λ k.
    let plain : CType → Qualified = λ a. record { constant = false; type = a } in
    let p = made_of_words k (list_from c.args.specifiers.now) (word_type_of c.in-Some.word) c.requires.none c.requires.few (c.in-Some.ensures _ c.counts_of.ensures) in
    (p.0, ap plain c.type_of_word.ensures ∙ p.1)

pub returns-in-None-clause-typed : goal.returns-in-None-clause-typed
returns-in-None-clause-typed c = rw c.refused.ensures (λ k. (refused_words k (list_from c.args.specifiers.now) c.requires.none c.requires.few (c.in-None.ensures _ c.counts_of.ensures), refl))

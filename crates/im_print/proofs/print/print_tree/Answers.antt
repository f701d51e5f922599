use Rattle.std.proofs.Common.{◌∙◌, ap, sym, subst, ◌++◌, ◌∷◌, []}
use Rattle.im_ctree.specs.Shape.{tree_of}
use Rattle.im_print_relation.specs.Printed.{words_of}
use Rattle.im_print_relation.specs.Text.{IsReadAs}
use Rattle.im_print.proofs.Endings.{ended}
use Rattle.im_print.proofs.print.print_tree.Goals as goal

pub returns-clause-text : goal.returns-clause-text
returns-clause-text c =
    let put = rw c.deref.ensures.value at c.in_ok-out.ensures in
    c.in_ok-push.ensures.items ∙ ap (λ z. z ++ (10 ∷ [])) c.pop-blank.ensures.rest ∙ ended (words_of (tree_of c.args.tree.now)) c.in_ok-out.out put.behind

pub returns-clause-read_back : goal.returns-clause-read_back
returns-clause-read_back c = λ spelled.
    let tree = tree_of c.args.tree.now in
    let put = rw c.deref.ensures.value at c.in_ok-out.ensures in
    let text = c.in_ok-push.ensures.items ∙ ap (λ z. z ++ (10 ∷ [])) c.pop-blank.ensures.rest ∙ ended (words_of tree) c.in_ok-out.out put.behind in
    let read = c.printed_text_law.ensures.lexes spelled.source spelled.tokens spelled.words tree spelled.bytes spelled.lexes spelled.have spelled.spells in
    let again = c.printed_text_law.ensures.spells spelled.source spelled.tokens spelled.words tree spelled.bytes spelled.lexes spelled.have spelled.spells in
    record { words = words_of tree; read = subst (λ z. IsReadAs z (words_of tree)) (sym text) read; again = again }

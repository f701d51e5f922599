use Rattle.std.proofs.Common.{sym, ap, ◌∙◌}
use Rattle.std.proofs.lemmas.Result.{err_from_is_err_and}
use Rattle.im_ctree.specs.Shape.{initializer_of}
use Rattle.im_types.specs.Shape.{type_of}
use Rattle.im_check_place.specs.Contexts.{context_of}
use Rattle.im_check_items.specs.declared.item.Item as ri
use Rattle.im_check_items.specs.declared.item.Source.TheVariants as s
use Rattle.im_check_operands.specs.Shape.{term_in}
use Rattle.im_ctree_parts.specs.Lists.{expression_in}
use Rattle.im_check_expressions.specs.im_rules.Initialisers as n
use Rattle.im_check_initialisers.proofs.Put.{value_fault, unfit, value_put}
use Rattle.im_check_initialisers.proofs.value.value.Goals as goal

pub expression_of-e-requires : goal.expression_of-e-requires
expression_of-e-requires c = (type_of c.args.ty.now, c.requires.0, c.requires.1)

pub returns-in_err-term : goal.returns-in_err-term
returns-in_err-term c =
    let p = err_from_is_err_and c.from_residual.result c.from_residual.ensures.1 in
    rw (p.1, p.2) (λ e form meets. value_fault (context_of c.args.place.now) (type_of c.args.ty.now) c.args.at (initializer_of c.args.i.now) _ form (c.expression_of-e.ensures (type_of c.args.ty.now) e form) c.in_err-term.ensures)

pub returns-then-not-fits : goal.returns-then-not-fits
returns-then-not-fits c =
    rw (c.refused.ensures, c.token_of.ensures) (λ e form meets. unfit _ form (c.expression_of-e.ensures (type_of c.args.ty.now) e form) c.in_ok-term.ensures.0 (sym (c.if-not-fits.ensures c.args.place.now.structs)))

pub returns : goal.returns
returns c =
    let types = c.args.place.now.structs in
    let one : ri.Item = record { offset = c.args.at; ty = c.in_ok-kept.kept; source = s.Term c.expression_of-e.result c.in_ok-term.term } in
    let x = n.from_term (expression_in c.expression_of-e.result.now) (term_in types c.in_ok-term.term) in
    λ e form meets.
    value_put c.args.place.now c.expression.new.place (term_in types c.in_ok-term.term) one form (c.expression_of-e.ensures (type_of c.args.ty.now) e form) meets c.in_ok-term.ensures (sym (c.fits.ensures types) ∙ c.if-not-fits.false) (ap (λ b. n.item c.args.at b x) c.in_ok-kept.ensures) c.in_ok-push.ensures.items

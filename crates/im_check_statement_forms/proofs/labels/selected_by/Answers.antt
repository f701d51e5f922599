use Rattle.std.proofs.Common.{ap, inl, refl, sym, ◌∙◌}
use Rattle.std.proofs.lemmas.Result.{err_from_is_err_and}
use Rattle.im_ctype.specs.Table.{structs_of}
use Rattle.im_check_locals.specs.im_rules.Conversions.{as_integer, promoted, integer_of}
use Rattle.im_check_locals.specs.im_rules.Statements.{switch_asks}
use Rattle.im_check_locals.specs.im_rules.Terms as r
use Rattle.im_check_locals.specs.im_ctree_parts.Lists.{expression_in}
use Rattle.im_check_operands.specs.Shape.{term_in}
use Rattle.im_check_statement_forms.specs.Asked.{of_it}
use Rattle.im_check_statement_forms.proofs.Asking.{asked_inside}
use Rattle.im_check_statement_forms.proofs.Valuing.{read_value}
use Rattle.im_check_statement_forms.proofs.labels.selected_by.Goals as goal

pub returns-in_err-x : goal.returns-in_err-x
returns-in_err-x c =
    let p = err_from_is_err_and c.from_residual.result c.from_residual.ensures.1 in
    rw (p.1, p.2) (asked_inside switch_asks c.args.body.now (expression_in c.args.e.now) c.args.at _ c.in_err-x.ensures)

pub returns-then-not-is_integer_term : goal.returns-then-not-is_integer_term
returns-then-not-is_integer_term c =
    rw c.refused.ensures (of_it c.in_ok-x.ensures.0 (inl (refl, sym (c.if-not-is_integer_term.ensures.switch c.args.body.now.place.structs))))

pub returns : goal.returns
returns c =
    let types = c.args.body.now.place.structs in
    let v = r.value_of (structs_of types) (term_in types c.in_ok-x.x) in
    let is = read_value c.args.body.now _ (expression_in c.args.e.now) c.in_ok-x.x c.in_ok-value.value c.in_ok-x.ensures (rw c.table.ensures at c.in_ok-value.ensures) in
    let same = c.promoted-ty.ensures ∙ ap promoted (c.integer_of.ensures ∙ ap (λ (w : r.Value). integer_of w.type) is) in
    record {
      term = term_in types c.in_ok-x.x;
      typed = c.in_ok-x.ensures.0;
      past = c.in_ok-x.ensures.1;
      within = c.in_ok-x.ensures.2;
      meets = (sym (c.if-not-is_integer_term.ensures.switch types), tt);
      type = same;
      is = c.in_ok-converted.ensures types ∙ ap (λ (w : r.Value). as_integer c.promoted-ty.result w) is ∙ ap (λ i. as_integer i v) same;
    }

use Rattle.std.proofs.Common.{true, not, cond, ◌++◌, [], ◌∷◌, refl, sym, ap, ◌∙◌}
use mir.Syntax.{w128}
use Rattle.std.proofs.lemmas.Int.{to_z-of_z}
use Rattle.std.specs.BTreeSet.{contains}
use Rattle.std.specs.Ordering.{int_cmp, int_eq}
use Rattle.im_check_statement_forms.specs.declared.labels.Labels.{Labels}
use Rattle.im_check_statement_forms.proofs.Adding.{one_more_told}
use Rattle.im_check_statement_forms.proofs.labels.add_case.Goals as goal

pub returns : goal.returns
returns c =
    let l = c.args.labels.now in
    let after : Labels = record { seen = c.insert.new.self; cases = c.push.new.self; otherwise = l.otherwise } in
    let e = to_z-of_z w128 c.plain-z.result (record { sfits = c.plain-z.type_inv }) ∙ c.plain-z.ensures in
    let grown = c.in_ok-push.ensures.items ∙ ap (λ w. l.cases.items ++ w ∷ []) c.case_of.ensures in
    record {
      is_fresh = sym c.if-not-branch.false ∙ c.in_ok-insert.ensures.added ∙ ap not (ap (λ w. contains int_cmp l.seen w) e ∙ c.requires c.args.value.value);
      cases = λ h. grown;
      otherwise = refl;
      told = λ h. one_more_told l after c.args.value.value c.args.at c.requires (λ z. c.in_ok-insert.ensures.updates.0 z ∙ ap (λ w. cond (int_eq w z) true (contains int_cmp l.seen z)) e) grown;
    }

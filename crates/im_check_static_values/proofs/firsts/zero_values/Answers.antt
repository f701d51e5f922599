use Rattle.std.proofs.Common.{◌≡◌, ◌∙◌, None, IfOk, List, map, subst}
use Rattle.im_ctype.specs.declared.cell.Cell.{Cell}
use Rattle.im_typed.specs.ProgramOf.{first_of}
use Rattle.im_check_items.specs.im_rules.TypedUnit.{values_or_zero}
use Rattle.im_check_static_values.proofs.firsts.zero_values.Goals as goal

pub returns : goal.returns
returns c =
    let types = c.args.table.now in
    let e = c.deref.ensures.value ∙ c.in_ok-cells.ensures in
    subst (λ (cs : List Cell). IfOk c.zeros.result (λ vs. map (first_of types) vs.items ≡ values_or_zero cs None)) e (c.zeros.ensures types)

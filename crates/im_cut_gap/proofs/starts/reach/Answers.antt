use Rattle.std.proofs.Common.{◌≡◌, ◌<◌, ◌≤◌, ◌∙◌, Option, ℕ, None, sym, subst, length, get_or, arith}
use Rattle.std.specs.Prelude.{◌==◌, slice_set}
use Rattle.im_cut_gap.specs.Starts.{RaisedWhere}
use Rattle.im_cut_gap.proofs.Tables.{any_default, raised_out, raised_set}
use Rattle.im_cut_gap.proofs.starts.reach.Goals as goal

pub returns-then-place-len-clause-raises : goal.returns-then-place-len-clause-raises
returns-then-place-len-clause-raises c =
    let le : length c.args.costs.now.items ≤ c.args.number = omega arith in
    raised_out c.args.number c.args.cost c.args.costs.now.items le

pub returns-clause-raises : goal.returns-clause-raises
returns-clause-raises c =
    let costs = c.args.costs.now.items in
    let number = c.args.number in
    let here = c.index_mut-highest.result.now in
    let lt : number < length costs = omega arith in
    let is : here ≡ get_or costs number None = c.index_mut-highest.ensures.value ∙ any_default costs number here None lt in
    subst (λ (v : Option ℕ). RaisedWhere (λ d. number == d) c.args.cost costs (slice_set costs number v)) (sym c.greater.ensures) (raised_set number c.args.cost here costs lt is)

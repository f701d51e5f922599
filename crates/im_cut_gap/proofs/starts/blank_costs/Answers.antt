use Rattle.std.proofs.Common.{◌≡◌, ◌+◌, ◌<◌, List, [], ◌∷◌, Option, None, ℕ, length, length-append, ap, ◌∙◌, arith, subst, sym}
use Rattle.im_cut_gap.specs.Starts.{AreBlank}
use Rattle.im_cut_gap.proofs.Tables.{blank_none, blank_more}
use Rattle.im_cut_gap.proofs.starts.blank_costs.Goals as goal

pub places-init : goal.places-init
places-init c =
    let none = c.new-costs.ensures.items in
    record { blank = subst AreBlank (sym none) blank_none; few = omega arith }

pub places-preserved : goal.places-preserved
places-preserved c =
    let l = c.places in
    let more = c.in_ok-push.ensures.items in
    let count : length c.push.new.self.items ≡ length l.costs.items + 1 = ap (λ (t : List (Option ℕ)). length t) more ∙ length-append l.costs.items (None ∷ []) in
    let test : length l.costs.items < c.args.count = omega (arith, c.places-test.true, c.len.ensures, l.costs.ok) in
    record { blank = subst AreBlank (sym more) (blank_more l.costs.items l.invariant.blank); few = omega (arith, count, test) }

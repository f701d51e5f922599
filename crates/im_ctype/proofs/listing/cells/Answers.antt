use Rattle.std.proofs.Common.{◌≡◌, ◌∙◌, ap, sym, subst, List, [], ◌∷◌, ◌++◌, append-nil, arith}
use Rattle.im_ctype.specs.declared.cell.Cell.{Cell}
use Rattle.im_ctype.specs.declared.listing.Pending.{Pending}
use Rattle.im_ctype.specs.declared.listing.Pending.TheVariants.{Objects}
use Rattle.im_ctype.specs.Layout.{Layout, moved, repeated}
use Rattle.im_ctype.specs.Pending.{AreFitting, cells_waiting, cost_waiting}
use Rattle.im_ctype.specs.Table.{layout_of}
use Rattle.im_ctype.proofs.CellLists.{moved-zero}
use Rattle.im_ctype.proofs.Steps.{fit-last, fit-front, fit-push, waiting-push, cost-push}
use Rattle.im_ctype.proofs.listing.cells.Goals as goal

one : (l : Layout) → repeated 0 1 l ≡ l.cells
one l = append-nil (moved 0 l.cells) ∙ moved-zero l.cells

pub loop-next-init : goal.loop-next-init
loop-next-init c =
    let t = c.args.table.now in
    let l = layout_of t c.args.ty in
    let e : c.push.new.self.items ≡ Objects c.args.ty 0 1 ∷ [] = c.in_ok-push.ensures.items ∙ ap (λ (xs : List Pending). xs ++ Objects c.args.ty 0 1 ∷ []) c.new-pending.ensures.items in
    let f = c.new-found.ensures.items in
    let held = c.requires.held in
    let z : [] ++ (cells_waiting t [] ++ repeated 0 1 l) ≡ l.cells = one l in
    let fits : AreFitting t (Objects c.args.ty 0 1 ∷ []) = fit-push t [] (Objects c.args.ty 0 1) (λ k d lt. absurd (omega arith)) (c.requires.known, omega (arith, held)) in (
      ap (λ (xs : List Cell). xs ++ cells_waiting t c.push.new.self.items) f ∙ ap (λ (xs : List Pending). [] ++ cells_waiting t xs) e ∙ z,
      subst (λ (xs : List Pending). AreFitting t xs) (sym e) fits,
    )

pub take_up-requires-clause-next_fits : goal.take_up-requires-clause-next_fits
take_up-requires-clause-next_fits c =
    let t = c.args.table.now in
    fit-last t c.pop.new.self.items c.in-Some.next (subst (λ (xs : List Pending). AreFitting t xs) c.in-Some.ensures.items c.loop-next.invariant.1)

pub take_up-requires-clause-fit : goal.take_up-requires-clause-fit
take_up-requires-clause-fit c =
    let t = c.args.table.now in
    fit-front t c.pop.new.self.items c.in-Some.next (subst (λ (xs : List Pending). AreFitting t xs) c.in-Some.ensures.items c.loop-next.invariant.1)

pub loop-next-smaller : goal.loop-next-smaller
loop-next-smaller c =
    let t = c.args.table.now in
    let e = ap (cost_waiting t) c.in-Some.ensures.items in
    let k = cost-push t c.pop.new.self.items c.in-Some.next in
    let l = c.in_ok-take_up.ensures.lighter in
    omega (arith, l, k, e)

pub loop-next-preserved : goal.loop-next-preserved
loop-next-preserved c =
    let t = c.args.table.now in
    let e = ap (cells_waiting t) c.in-Some.ensures.items ∙ waiting-push t c.pop.new.self.items c.in-Some.next in
    (c.in_ok-take_up.ensures.listed ∙ ap (λ (xs : List Cell). c.loop-next.found.items ++ xs) (sym e) ∙ c.loop-next.invariant.0, c.in_ok-take_up.ensures.fit)

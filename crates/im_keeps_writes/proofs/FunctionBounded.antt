-- The bytes of one function.
use Rattle.std.proofs.Common.{◌≡◌, ◌≤◌, ℕ, ◌+◌, ◌*◌, Some, ap, subst, arith}
use Rattle.std.specs.Prelude.{slice_get}
use Rattle.im_typed.specs.Program.{Prog, Func}
use Rattle.im_typed.specs.Counts.{func_nodes}
use Rattle.im_block.specs.declared.unit.Function.{Function}
use Rattle.im_block.specs.declared.unit.Unit.{Unit as Code}
use Rattle.im_block.specs.Shape.{placed_cost}
use Rattle.im_block.specs.Uncut.{SameFunction}
use Rattle.im_block.proofs.Unitwise.{zip_old}
use Rattle.im_block_laws.specs.Laws.{CutsKeepCodeLaw}
use Rattle.im_alloc_placed.specs.Apart.{AllApart}
use Rattle.im_forward.specs.RegistersLaws.{RegistersLaw}
use Rattle.im_force.specs.Laws.{ForceKeepsLaw}
use Rattle.im_alloc_relation.specs.Placing.{PlacedFunction}
use Rattle.im_alloc_laws.specs.Laws.{PlacedCodeLaw}
use Rattle.im_recut.specs.Laws.{RecutKeepsLaw}
use Rattle.im_keeps_writes.specs.FunctionBound.{IsMadeOf, FunctionBoundLaw}
use Rattle.im_keeps_writes.proofs.Rows.{placed_cost_at}

module _ (registers : RegistersLaw) (force : ForceKeepsLaw) (cuts : CutsKeepCodeLaw) (placing : PlacedCodeLaw) (recut : RecutKeepsLaw) (g : Prog) (code : Code) (m : IsMadeOf g code) where
  apart : AllApart code
  apart =
      recut.apart m.tags m.max_gap m.placed code m.recut
      (placing.apart m.forced m.placed m.place (force.apart m.forwarded m.forced m.force (registers.uncut m.lowered m.forwarded m.registers m.uncut)))

  cost_at : (k : ℕ) (f : Func) (c : Function) → slice_get g.funcs k ≡ Some f → slice_get code.functions.items k ≡ Some c → placed_cost c ≤ 64 * (func_nodes f + 1)
  cost_at k f c e there =
      let r = zip_old SameFunction m.placed.functions.items code.functions.items k c (recut.same m.tags m.max_gap m.placed code m.recut).functions there in
      let p = zip_old PlacedFunction m.forced.functions.items m.placed.functions.items k r.old m.place.functions r.at in
      let s = zip_old SameFunction m.forwarded.functions.items m.forced.functions.items k p.old (force.same m.forwarded m.forced m.force).functions p.at in
      let q = registers.each m.lowered m.forwarded m.registers k s.old s.at in
      let size = (m.sized.functions k f q.f e q.there).small in
      let less = q.cost in
      let first = (cuts.costs s.old p.old s.is).cost in
      let second = placed_cost_at placing m.forced p.old r.old p.is in
      let third = (cuts.costs r.old c r.is).placed in
      omega (arith, size, less, first, second, third)

pub bounded : RegistersLaw → ForceKeepsLaw → CutsKeepCodeLaw → PlacedCodeLaw → RecutKeepsLaw → FunctionBoundLaw
bounded registers force cuts placing recut g code m k f c e there given lines is selection =
    let few =
    selection.words (λ b block at.
    (apart registers force cuts placing recut g code m).each k c b block there
    (subst (λ (z : Function). slice_get z.blocks.items b ≡ Some block) is at)) in
    let same : placed_cost given.function ≡ placed_cost c = ap placed_cost is in
    let cost = cost_at registers force cuts placing recut g code m k f c e there in
    omega (arith, few, same, cost)

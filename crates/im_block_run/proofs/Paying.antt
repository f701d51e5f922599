-- Fuel.
use Rattle.std.proofs.Common.{◌≡◌, ◌∙◌, ℕ, suc, ap, refl, []}
use Rattle.im_store.specs.Outcomes.{More}
use Rattle.im_block.specs.declared.unit.Unit.{Unit as Blocks}
use Rattle.im_block.specs.Meaning as m
use Rattle.im_block.specs.Meaning.{Next, Stops, takes}
use Rattle.im_block_run.specs.Shown.{IsState, Halts}
use Rattle.im_block_run.specs.declared.state.State.{State}
use Rattle.im_block_run.specs.declared.stop.Stop.TheVariants as stop

pub none-left : (u : Blocks) (a : State) (s : m.State) (go : ℕ → Next) → IsState a s → a.fuel ≡ 0 → Halts u stop.MoreFuel a (takes s.fuel s.output go)
none-left u a s go h e = ([], ap (λ n. takes n s.output go) (h.running.fuel ∙ e) ∙ ap (λ out. Stops (More out) []) h.running.output)

pub some-left : (a : State) (s : m.State) (go : ℕ → Next) (left : ℕ) → IsState a s → a.fuel ≡ suc left → (fuel : ℕ) × (takes s.fuel s.output go ≡ go fuel) × IsState (record a { fuel = left }) (record s { fuel = fuel })
some-left a s go left h e = (
  left,
  ap (λ n. takes n s.output go) (h.running.fuel ∙ e),
  record {
    running = record { frame = h.running.frame; callers = h.running.callers; input = h.running.input; output = h.running.output; fuel = refl };
    begun = h.begun;
    held = h.held;
  },
)

-- An activation has begun. Private contracts alone speak of this.
use Rattle.std.specs.Prelude.{◌≡◌, ℕ, suc, List}
use Rattle.im_store.specs.Objects as o
use Rattle.im_typed.specs.Program.{Func}
use Rattle.im_typed.specs.Programs.{entering}
use Rattle.im_typed.specs.Runs.{State}
use Rattle.im_eval_machine.specs.declared.here.Here.{Here}
use Rattle.im_eval_machine.specs.declared.code.Layout.{Layout}
use Rattle.im_eval_machine.specs.declared.machine.Machine.{Machine}
use Rattle.im_eval_machine.specs.Activations.{entered}
use Rattle.im_eval_machine.specs.Settings.{ArePlans, local_shapes}
use Rattle.im_eval_machine.specs.Shown.{IsIn}

-- a function of that layout is entered, with so many bytes of stack in use
pub record HasBegun (l : Layout) (depth : ℕ) (args : List o.Value) (old new : Machine) (here : Here) : Type 0 where
  pub here_is : entered here ≡ record { activation = suc old.activations; depth = depth; first = l.first }
  pub held : (f : Func) (s : State) → ArePlans (local_shapes f.objects) l.plans.items → IsIn old s
      → IsIn new (record { world = entering (suc old.activations) depth l.first f args s.world; fuel = s.fuel })

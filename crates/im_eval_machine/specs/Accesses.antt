-- What several cells have. Private contracts alone speak of this.
use Rattle.std.specs.Prelude.{◌≡◌, Ok, Err, List, Vec}
use Rattle.std.specs.declared.alloc.Global.{Global}
use Rattle.std.specs.Prelude.{Result as Either}
use Rattle.im_store.specs.Checks.{Checked, Fine, Bad}
use Rattle.im_store.specs.Objects as o
use Rattle.im_eval_store.specs.declared.value.Value.{Value}
use Rattle.im_eval_machine.specs.declared.stopped.Stopped.{Stopped}
use Rattle.im_eval_machine.specs.declared.stopped.Stopped.TheVariants.{Undefined, MoreFuel, StackExhausted, OutOfMemory}
use Rattle.im_eval_machine.specs.Shown.{shown_all}

-- what a check gives, or its cause for giving nothing
abbrev pub ReadsCells : Either (Vec Value Global) Stopped → Checked (List o.Value) → Type 0
ReadsCells (Ok vs) r = r ≡ Fine (shown_all vs.items)
ReadsCells (Err (Undefined why)) r = r ≡ Bad why
ReadsCells (Err MoreFuel) r = ⊥
ReadsCells (Err StackExhausted) r = ⊥
ReadsCells (Err OutOfMemory) r = Unit {0}

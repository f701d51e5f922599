-- The values and objects of the meaning that those of the evaluator stand for.
use Rattle.std.specs.Prelude.{◌≡◌, Result, Ok, Err}
use Rattle.im_store.specs.declared.undefined.Undefined.{Undefined}
use Rattle.im_store.specs.Checks.{Checked, Fine, Bad}
use Rattle.im_store.specs.Objects as o
use Rattle.im_store.specs.Objects.{Named, Object}
use Rattle.im_eval_store.specs.declared.value.ObjectName.{ObjectName}
use Rattle.im_eval_store.specs.declared.value.Value.{Value}
use Rattle.im_eval_store.specs.declared.value.Value.TheVariants.{Number, Null, Pointer, Unset}

abbrev pub object_of : ObjectName → Object
object_of n = record { activation = n.activation; depth = n.depth; name = Named n.number }

abbrev pub shown : Value → o.Value
shown (Number n) = o.Number n.value
shown Null = o.Null
shown (Pointer p) = o.Pointer (object_of p.object) p.offset
shown Unset = o.Unset

-- what a check gives, or its cause for giving nothing
abbrev pub Checks : Result Value Undefined → Checked o.Value → Type 0
Checks (Ok v) r = r ≡ Fine (shown v)
Checks (Err why) r = r ≡ Bad why

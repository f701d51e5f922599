-- What an operator gives, once its last operand is there.
use Rattle.std.specs.Prelude.{not, if◌then◌else◌, pos, false}
use Rattle.im_num.specs.Kinds.{wrap}
use Rattle.im_store.specs.Checks.{Checked, Fine, then_}
use Rattle.im_store.specs.Numbers.{apply, apply_one}
use Rattle.im_store.specs.Objects as o
use Rattle.im_store.specs.Objects.{Store}
use Rattle.im_store.specs.Pointers.{moved_by, bytes_moved, distance, compare_values, holds}
use Rattle.im_typed.specs.Values.{number_of}
use Rattle.im_eval_store.specs.Shown.{shown}
use Rattle.im_eval_machine.specs.declared.operator.Last.{Last}
use Rattle.im_eval_machine.specs.declared.operator.Last.TheVariants as last

abbrev pub gives : Last → o.Value → Store → Checked o.Value
gives (last.Convert k) v store = then_ (number_of v) (λ z. Fine (o.Number (wrap k z)))
gives (last.Unary op k) v store = then_ (number_of v) (λ z. Fine (o.Number (apply_one op k z)))
gives (last.Binary op k a) v store = then_ (number_of v) (λ b. then_ (apply op k a.value b) (λ z. Fine (o.Number z)))
gives (last.Move size back p) v store = then_ (number_of v) (λ n. moved_by store (bytes_moved size back n) (shown p))
gives (last.MoveBy size n) v store = moved_by store (bytes_moved size false n.value) v
gives (last.Distance size p) v store = then_ (distance size (shown p) v) (λ n. Fine (o.Number n))
gives (last.Compare op x) v store =
    then_ (compare_values op (shown x) v) (λ b. Fine (o.Number (if b then pos 1 else pos 0)))
gives last.Not v store = Fine (o.Number (if not (holds v) then pos 1 else pos 0))
gives last.Holds v store = Fine (o.Number (if holds v then pos 1 else pos 0))

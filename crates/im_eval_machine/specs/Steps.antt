-- Runs that are single steps of a machine.
use Rattle.std.specs.Prelude.{ℤ, [], ◌∷◌}
use Rattle.im_num.specs.Kinds.{wrap}
use Rattle.im_store.specs.Checks.{Checked, Fine, then_}
use Rattle.im_store.specs.Numbers.{apply}
use Rattle.im_store.specs.Objects.{Value, Number, Store}
use Rattle.im_store.specs.Pointers.{moved_by, bytes_moved}
use Rattle.im_typed.specs.declared.expression.Change.{Change}
use Rattle.im_typed.specs.declared.expression.Change.TheVariants.{Number as NumberBy, Move as PointerBy}
use Rattle.im_typed.specs.Program.{Access, Scalar}
use Rattle.im_typed.specs.Runs.{Run, ◌>>=◌, checked, in_store}
use Rattle.im_typed.specs.Values.{Values, number_of, cells_of, changed_kind, source_for, read_at, write_at}

-- what a change makes of the old value where its operator gives its result at once: the machine works it out in one step
abbrev pub altered : Change → Value → ℤ → Store → Checked Value
altered (NumberBy kind op at) old by store =
    then_ (number_of old) (λ a. then_ (apply op at (wrap at a) by) (λ z. Fine (Number (wrap kind z))))
altered (PointerBy size back) old by store = moved_by store (bytes_moved size back by) old

-- what stands at a place is changed by a number, once its old value was read
abbrev pub changes : Change → Value → ℤ → Value → Run Values
changes by before z at =
    in_store (altered by before z) >>= (λ after. write_at (Scalar (changed_kind by)) at (after ∷ []))

-- what stands at a place is read, and will be stored at another one
abbrev pub read_for : Access → Value → Value → Run Values
read_for x at from = checked (source_for (cells_of x) at from) >>= read_at x

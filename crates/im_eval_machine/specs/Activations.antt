-- Activations that begin and end (C11 6.2.4, 6.5.2.2, 6.9.1).
use Rattle.std.specs.Prelude.{ℕ, suc, ◌+◌, List, Option, Some, None, nat_le, slice_get}
use Rattle.im_store.specs.declared.undefined.Undefined.TheVariants.{MissingResult}
use Rattle.im_store.specs.Objects as o
use Rattle.im_store.specs.Objects.{Named, Object}
use Rattle.im_typed.specs.Program.{Func}
use Rattle.im_typed.specs.Runs.{World, Run, ◌>>=◌, give, undefined, exhaust, look, change, either}
use Rattle.im_typed.specs.Programs.{Setting, entering, first_object, frame_of}
use Rattle.im_eval_machine.specs.declared.here.Here.{Here}

-- an activation: its number, the bytes of stack in use with its frame on it, and the number of its function's first object
pub record Entered : Type 0 where
  pub activation : ℕ
  pub depth : ℕ
  pub first : ℕ

abbrev pub entered : Here → Entered
entered h = record { activation = h.activation; depth = h.depth; first = h.first }

-- the object of a declaration of the function that runs
abbrev pub local_in : Here → ℕ → Object
local_in h n = record { activation = h.activation; depth = h.depth; name = Named (h.first + n) }

module _ (g : Setting) where
  -- the activation that begins next
  abbrev pub next_activation : World → ℕ → Entered
  next_activation w k = record { activation = suc w.activations; depth = w.depth + frame_of g k; first = first_object g.prog k }

  abbrev pub begin_in : ℕ → Func → List o.Value → World → Run Entered
  begin_in k f args w =
      let e = next_activation w k in
      change (entering e.activation e.depth e.first f args) >>= (λ _. give e)

  abbrev pub enter_one : ℕ → Option Func → List o.Value → Run Entered
  enter_one k None args = undefined MissingResult
  enter_one k (Some f) args =
      look >>= (λ w. either (nat_le (w.depth + frame_of g k) g.stack) (begin_in k f args w) exhaust)

  -- the k-th function is entered, where its frame has room
  abbrev pub enters_function : ℕ → List o.Value → Run Entered
  enters_function k args = enter_one k (slice_get g.prog.funcs k) args

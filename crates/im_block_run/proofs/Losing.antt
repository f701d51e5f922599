-- What a call leaves of the registers, and what stands in a list.
use Rattle.std.proofs.Common.{◌≡◌, ◌∙◌, ◌<◌, ◌≤◌, ℕ, ap, sym, subst, refl, List, [], length, slice_index_or}
use Rattle.std.specs.Prelude.{Option, Some, None, Vec, slice_get}
use Rattle.std.specs.declared.alloc.Global.{Global}
use Rattle.std.proofs.lemmas.Option.{slice_get_read}
use Rattle.im_block.specs.declared.unit.Function.{Function}
use Rattle.im_block.specs.declared.unit.Registers.{Registers}
use Rattle.im_block.specs.declared.unit.Registers.TheVariants.{Virtual, Machine}
use Rattle.im_block.specs.Meaning as m
use Rattle.im_eval_store.specs.declared.value.Value.{Value}
use Rattle.im_eval_machine.proofs.Rows.{got-past}
use Rattle.im_block_run.specs.Shown.{IsFrame, have}
use Rattle.im_block_run.specs.declared.state.Frame.{Frame}

-- what a slice of a list gives is what stands in the list
pub got-some : {X : Type 0} (all some : List X) (k : ℕ) (x : X) → some ≡ all → k < length some → x ≡ slice_index_or some k x → slice_get all k ≡ Some x
got-some all some k x e lt at =
    slice_get_read all (length all) k x refl (subst (λ xs. k < length xs) e lt) (at ∙ ap (λ xs. slice_index_or xs k x) e)

pub got-none : {X : Type 0} (all some : List X) (k : ℕ) → some ≡ all → length some ≤ k → slice_get all k ≡ None
got-none all some k e le = got-past all k (subst (λ xs. length xs ≤ k) e le)

module _ (r : Option Function) (f : Frame) (s : m.Frame) (h : IsFrame f s) where
  -- no function, or one of virtual registers, loses nothing
  pub lost-none : r ≡ None → IsFrame f (record s { registers = m.kept_by r s.registers })
  lost-none e = record {
    function = h.function;
    rest = h.rest;
    exit = h.exit;
    active = h.active;
    registers = λ q. ap (λ (x : Option Function). m.kept_by x s.registers q) e ∙ h.registers q;
    to = h.to;
  }

  pub lost-virtual : (fn : Function) → r ≡ Some fn → fn.registers ≡ Virtual → IsFrame f (record s { registers = m.kept_by r s.registers })
  lost-virtual fn e v = record {
    function = h.function;
    rest = h.rest;
    exit = h.exit;
    active = h.active;
    registers = λ q. ap (λ (x : Option Function). m.kept_by x s.registers q) e ∙ ap (λ (k : Registers). m.kept k s.registers q) v ∙ h.registers q;
    to = h.to;
  }

  pub lost-machine : (fn : Function) (empty : Vec Value Global) → r ≡ Some fn → fn.registers ≡ Machine → empty.items ≡ [] → IsFrame (record f { registers = empty }) (record s { registers = m.kept_by r s.registers })
  lost-machine fn empty e v none = record {
    function = h.function;
    rest = h.rest;
    exit = h.exit;
    active = h.active;
    registers = λ q.
        ap (λ (x : Option Function). m.kept_by x s.registers q) e ∙ ap (λ (k : Registers). m.kept k s.registers q) v ∙ sym (ap (λ (xs : List Value). have xs q) none);
    to = h.to;
  }

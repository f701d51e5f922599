-- What an access gives. Private contracts alone speak of this.
use Rattle.std.specs.Prelude.{◌≡◌, ℕ, Ok, Err}
use Rattle.std.specs.Prelude.{Result as Either}
use Rattle.im_store.specs.declared.undefined.Undefined.{Undefined}
use Rattle.im_store.specs.Checks.{Checked, Fine, Bad}
use Rattle.im_store.specs.Objects.{Store}
use Rattle.im_block.specs.Meaning.{Location, Found, Left}
use Rattle.im_eval_store.specs.declared.memory.Memory.{Memory}
use Rattle.im_eval_store.specs.declared.value.Place.{Place}
use Rattle.im_eval_store.specs.declared.value.Value.{Value}
use Rattle.im_eval_store.specs.Living.{Holds}
use Rattle.im_eval_store.specs.Shown.{object_of, shown}
use Rattle.im_block_run.specs.Shown.{plain}

-- where an access goes, or its cause for going nowhere
abbrev pub Locates : Either Place Undefined → Checked Location → Type 0
Locates (Ok p) r = r ≡ Fine (record { object = object_of p.object; offset = p.offset })
Locates (Err why) r = r ≡ Bad why

-- what a read finds somewhere
abbrev pub Finds : Either Value Undefined → Checked Found → Type 0
Finds (Ok v) r = (at : Location) × (r ≡ Fine (record { at = at; value = shown v }))
Finds (Err why) r = r ≡ Bad why

-- what is stored in a cell, or why nothing is
abbrev pub StoresPlain : {A : Type 0} → Either A Undefined → Memory → ℕ → Checked Store → Type 0
StoresPlain (Ok done) m last r = (after : Store) × (r ≡ Fine after) × Holds m last (plain after)
StoresPlain (Err why) m last r = r ≡ Bad why

-- the store that a write leaves
abbrev pub Leaves : {A : Type 0} → Either A Undefined → Memory → ℕ → Checked Left → Type 0
Leaves (Ok done) m last r = (left : Left) × (r ≡ Fine left) × Holds m last (plain left.store)
Leaves (Err why) m last r = r ≡ Bad why

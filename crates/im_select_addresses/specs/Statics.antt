-- Where the statics of a unit lie: one behind the other, each with an unused byte.
use Rattle.std.specs.Prelude.{◌≡◌, ◌<◌, ◌≤◌, ℕ, ◌+◌, List, map, length, slice_index}
use Rattle.im_mem.specs.Map.{statics_start, statics_capacity}
use Rattle.im_store.specs.Objects.{Named}
use Rattle.im_store.specs.Statics.{static_shapes}
use Rattle.im_block.specs.declared.unit.Object.{Object}
use Rattle.im_block.specs.declared.unit.Static.{Static as StaticOf}
use Rattle.im_block.specs.declared.unit.Unit.{Unit as Code}
use Rattle.im_block.specs.Meaning.{statics_of}
use Rattle.im_frame.specs.Layout.{rooms, places_from}
use Rattle.im_select_relation.specs.Linking.{Linking, LaidOut}

abbrev pub objects_of : List StaticOf → List Object
objects_of statics = map (λ (s : StaticOf). s.object) statics

abbrev pub StaticsLaw : Type 0
StaticsLaw =
    (u : Code) (p : Linking) → rooms (objects_of u.statics.items) ≤ statics_capacity →
    ((n : ℕ) → n < length u.statics.items → p.at (Named n) ≡ slice_index (places_from statics_start (objects_of u.statics.items)) n) →
    ((n : ℕ) → n < length u.statics.items → p.size (Named n) ≡ slice_index (map (λ (s : StaticOf). s.object.size) u.statics.items) n) →
    LaidOut p (static_shapes (statics_of u)) statics_start (statics_start + statics_capacity)

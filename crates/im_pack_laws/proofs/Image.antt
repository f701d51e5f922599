-- A packed program in its image.
use Rattle.std.proofs.Common.{◌≡◌, ◌<◌, ℕ, zero, suc, List, [], ◌∷◌, Some, length, refl, sym, ap, ◌∙◌, arith}
use Rattle.std.specs.Prelude.{slice_get, slice_index_or}
use Rattle.std.proofs.lemmas.Option.{slice_get_within}
use Rattle.im_device.specs.Load.{memory_of}
use Rattle.im_frame.specs.declared.layout.Layout.{Layout}
use Rattle.im_select_addresses.specs.Addresses.{place_at, size_at}
use Rattle.im_link_laws.specs.Laws.{LinkedLaw, WordsLaw}
use Rattle.im_keeps_passes.specs.Passes.{setting}
use Rattle.im_select_executes.specs.Laws.{ObjectsLaw}
use Rattle.im_pack_laws.specs.Places.{label_place, linking_in}
use Rattle.im_pack_laws.specs.Laws.{PackedLaw, PlacesLaw, LoadsLaw, HoldsObjectsLaw, NamedLaw}
use Rattle.im_pack_laws.specs.ImageLaws.{frames_of, InImageLaw, SelectsLaw}
use Rattle.im_pack_laws.proofs.Counting.{at_least}

pub in_image : LinkedLaw → LoadsLaw → HoldsObjectsLaw → PackedLaw → PlacesLaw → InImageLaw
in_image linked_law loads_law holds_objects_law packed_law places_law u statics layouts parts code stack out_cap image input is fits =
    let g = setting (frames_of layouts) image input in
    let places = places_law parts code is.linkable is.linked in
    let loaded = loads_law u statics layouts code stack out_cap image input is.packed is.is_image fits in
    let objects = holds_objects_law u statics layouts parts code stack out_cap image input is.well_formed is.statics_are is.layouts_are is.packed is.is_image in
    let many = at_least u statics layouts parts is.program in
    let size = is.linked.size in
    let words : length image.words ≡ length code.words.items = ap length is.packed.words in
    record {
      written = packed_law u statics layouts parts code stack out_cap image is.program is.linkable is.linked is.packed is.is_image;
      linked = linked_law u statics layouts parts is.program code (label_place parts) (memory_of image input) g (place_at statics layouts) (size_at u) is.linkable is.linked places loaded objects;
      memory = refl;
      entry = sym is.packed.entry;
      longest = omega arith;
      flips = omega arith;
      words = omega arith;
    }

layout_there : (ls : List Layout) (i : ℕ) → i < length ls → (l : Layout) × (slice_get ls i ≡ Some l) × (slice_index_or (frames_of ls) i 0 ≡ l.frame)
layout_there [] i h = absurd (omega arith)
layout_there (l ∷ ls) zero h = (l, refl, refl)
layout_there (l ∷ ls) (suc i) h = layout_there ls i (omega arith)

pub selects : InImageLaw → NamedLaw → PackedLaw → ObjectsLaw → WordsLaw → SelectsLaw
selects in_law named_law packed_law objects_law words_law u statics layouts parts code stack out_cap image is executes = record {
  frames_are = λ i f e.
      (let within = slice_get_within u.functions.items i f e in
      let count = is.layouts_are.count in
      let l = layout_there layouts i (omega arith) in
      l.2 ∙ (is.layouts_are.each i f l.0 e l.1).bytes);
  written = packed_law u statics layouts parts code stack out_cap image is.program is.linkable is.linked is.packed is.is_image;
  executes = λ selectable input fits.
      (let g = setting (frames_of layouts) image input in
      let p = linking_in u statics layouts parts code image input in
      let inside = in_law u statics layouts parts code stack out_cap image input is fits in
      let named = named_law u statics code stack out_cap image layouts parts input is.statics_are is.packed in
      executes input fits selectable inside (objects_law image input u g p fits selectable inside named));
  small = λ selectable.
      (let few = words_law u statics layouts parts is.program selectable.apart in
      let size = is.linked.size in
      let words : length image.words ≡ length code.words.items = ap length is.packed.words in
      omega arith);
}

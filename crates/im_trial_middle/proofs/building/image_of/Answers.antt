use Rattle.std.proofs.Common.{◌≡◌, List, length, map, sym, ap, ◌∙◌, subst}
use Rattle.im_mem.specs.Map.{statics_start}
use Rattle.im_block.specs.declared.unit.Static.{Static as StaticOf}
use Rattle.im_block.specs.declared.unit.Function.{Function}
use Rattle.im_block.specs.Meaning.{static_of}
use Rattle.im_frame.specs.Layout.{places_from}
use Rattle.im_select_addresses.specs.Addresses.{AreLayouts}
use Rattle.im_select_addresses.specs.Statics.{objects_of}
use Rattle.im_pack.specs.Packed.{AreNamable}
use Rattle.im_trial_middle.proofs.Laid.{assemblable, loadable, room_of}
use Rattle.im_trial_middle.proofs.building.image_of.Goals as goal

pub assemble-requires : goal.assemble-requires
assemble-requires c =
    let unit = c.args.unit in
    let layouts = c.in_ok-layouts.layouts.items in
    let laid : AreLayouts unit.functions.items c.deref-3.result.now =
    subst (λ k. AreLayouts unit.functions.items k) (sym c.deref-3.ensures.value) (subst (λ (k : List Function). AreLayouts k layouts) c.deref.ensures.value c.in_ok-layouts.ensures) in
    let statics = c.deref-4.ensures.value ∙ c.in_ok-statics.ensures ∙ ap (λ (k : List StaticOf). places_from statics_start (objects_of k)) c.deref-2.ensures.value in
    assemblable unit _ c.requires.buildable laid statics (ap (λ l. length l) c.deref-5.ensures.value ∙ c.in_ok-names.ensures ∙ c.requires.named)

pub finish-requires : goal.finish-requires
finish-requires c =
    let a = c.in_ok-assembled.ensures.parts in
    let linkable = c.linkable_law.ensures c.args.unit c.deref-4.result.now c.deref-3.result.now a.parts a.is_program c.requires.buildable.named in
    record { parts = a.parts; holds = a.holds; linkable = linkable }

pub pack-requires-clause-well_formed : goal.pack-requires-clause-well_formed
pack-requires-clause-well_formed c =
    let same : c.deref-6.result.now ≡ c.args.unit.statics.items = c.deref-6.ensures.value ∙ ap (λ z. z.items) c.in_ok-assembled.ensures.statics in
    (c.args.unit, sym same, c.requires.buildable.well_formed)

pub pack-requires-clause-named : goal.pack-requires-clause-named
pack-requires-clause-named c =
    let same : c.deref-6.result.now ≡ c.args.unit.statics.items = c.deref-6.ensures.value ∙ ap (λ z. z.items) c.in_ok-assembled.ensures.statics in
    subst (λ (z : List StaticOf). AreNamable (map {A = StaticOf} static_of z)) (sym same) c.requires.buildable.namable

pub pack-requires-clause-room : goal.pack-requires-clause-room
pack-requires-clause-room c =
    let same : c.deref-6.result.now ≡ c.args.unit.statics.items = c.deref-6.ensures.value ∙ ap (λ z. z.items) c.in_ok-assembled.ensures.statics in
    room_of c.args.unit c.deref-6.result.now same c.requires.buildable.room

pub pack-requires-clause-places : goal.pack-requires-clause-places
pack-requires-clause-places c =
    let same : c.deref-6.result.now ≡ c.args.unit.statics.items = c.deref-6.ensures.value ∙ ap (λ z. z.items) c.in_ok-assembled.ensures.statics in
    c.deref-7.ensures.value ∙ c.in_ok-statics.ensures ∙ ap (λ (k : List StaticOf). places_from statics_start (objects_of k)) (c.deref-2.ensures.value ∙ sym same)

pub pack-requires-clause-code : goal.pack-requires-clause-code
pack-requires-clause-code c =
    let a = c.in_ok-assembled.ensures.parts in
    loadable a.parts c.in_ok-code.code
    (c.in_ok-code.ensures.code a.parts a.holds (c.linkable_law.ensures c.args.unit c.deref-4.result.now c.deref-3.result.now a.parts a.is_program c.requires.buildable.named))

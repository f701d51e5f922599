use Rattle.std.proofs.Common.{◌≡◌, ℕ, List, map, rules, refl, sym, ap, ◌∙◌, subst}
use Rattle.std.proofs.lemmas.Result.{err_from_is_err_and}
use Rattle.im_block.specs.declared.unit.Static.{Static as StaticOf}
use Rattle.im_block.specs.Meaning.{static_of}
use Rattle.im_pack.specs.Packed.{IsPacked, AreNamable}
use Rattle.im_select_assemble.specs.Names.{program_names}
use Rattle.im_compile.proofs.Faulty.{of_link_fault}
use Rattle.im_compile.proofs.Short.{gap_within}
use Rattle.im_compile.proofs.Layouts.{room_of, places_at}
use Rattle.im_compile.proofs.Linked.{ready_of, linkable_of, few, loadable}
use Rattle.im_compile.proofs.Names.{texts_are, frames_are}
use Rattle.im_compile.proofs.Ready.{namable}
use Rattle.im_compile.proofs.finishing.finish.Goals as goal

pub finish-requires : goal.finish-requires
finish-requires c =
    let a = c.requires.source.3 in
    let linkable = linkable_of c.ready_law.ensures c.linkable_law.ensures c.requires.source.0 c.args.options.max_gap c.args.unlinked c.requires.source.1 a in
    record { parts = a.set_out.parts; holds = a.set_out.holds; linkable = linkable }

pub returns-in_err-code-clause-limit : goal.returns-in_err-code-clause-limit
returns-in_err-code-clause-limit c parts holds =
    let p = err_from_is_err_and c.from_residual.result c.from_residual.ensures.1 in
    let a = c.requires.source.3 in
    let s = a.set_out in
    let linkable = linkable_of c.ready_law.ensures c.linkable_law.ensures c.requires.source.0 c.args.options.max_gap c.args.unlinked c.requires.source.1 a in
    rw (p.1, p.2) (of_link_fault c.args.unlinked.linker s.parts parts s.holds holds c.in_err-code.field-0.0 (c.in_err-code.ensures.code s.parts s.holds linkable))

pub gap-requires-clause-few : goal.gap-requires-clause-few
gap-requires-clause-few c =
    let a = c.requires.source.3 in
    let s = a.set_out in
    let linkable = linkable_of c.ready_law.ensures c.linkable_law.ensures c.requires.source.0 c.args.options.max_gap c.args.unlinked c.requires.source.1 a in
    few s.parts c.in_ok-code.code (c.in_ok-code.ensures.code s.parts s.holds linkable)

pub gap-requires-clause-defined : goal.gap-requires-clause-defined
gap-requires-clause-defined c =
    let a = c.requires.source.3 in
    let s = a.set_out in
    let ready = ready_of c.ready_law.ensures c.requires.source.0 c.args.options.max_gap c.args.unlinked c.requires.source.1 a in
    let linkable = linkable_of c.ready_law.ensures c.linkable_law.ensures c.requires.source.0 c.args.options.max_gap c.args.unlinked c.requires.source.1 a in
    (c.linked_gap_law.ensures a.made.unit c.args.unlinked.addresses.items s.layouts s.parts s.assemble ready.ordered ready.forced c.in_ok-code.code linkable (c.in_ok-code.ensures.code s.parts s.holds linkable)).has

pub pack-requires-clause-well_formed : goal.pack-requires-clause-well_formed
pack-requires-clause-well_formed c =
    let a = c.requires.source.3 in
    let ready = ready_of c.ready_law.ensures c.requires.source.0 c.args.options.max_gap c.args.unlinked c.requires.source.1 a in
    let same : c.deref.result.now ≡ a.made.unit.statics.items = c.deref.ensures.value ∙ ap (λ z. z.items) a.set_out.statics in
    (a.made.unit, sym same, ready.well_formed)

pub pack-requires-clause-named : goal.pack-requires-clause-named
pack-requires-clause-named c =
    let a = c.requires.source.3 in
    let same : c.deref.result.now ≡ a.made.unit.statics.items = c.deref.ensures.value ∙ ap (λ z. z.items) a.set_out.statics in
    subst (λ (z : List StaticOf). AreNamable (map {A = StaticOf} static_of z)) (sym same) (namable c.requires.source.0 c.args.options.max_gap a.made.unit a.is_made.passed c.requires.source.2)

pub pack-requires-clause-room : goal.pack-requires-clause-room
pack-requires-clause-room c =
    let a = c.requires.source.3 in
    let ready = ready_of c.ready_law.ensures c.requires.source.0 c.args.options.max_gap c.args.unlinked c.requires.source.1 a in
    let same : c.deref.result.now ≡ a.made.unit.statics.items = c.deref.ensures.value ∙ ap (λ z. z.items) a.set_out.statics in
    room_of a.made.unit c.deref.result.now same ready.room

pub pack-requires-clause-places : goal.pack-requires-clause-places
pack-requires-clause-places c =
    let a = c.requires.source.3 in
    let same : c.deref.result.now ≡ a.made.unit.statics.items = c.deref.ensures.value ∙ ap (λ z. z.items) a.set_out.statics in
    places_at a.made.unit c.deref.result.now same _ (c.deref-2.ensures.value ∙ a.set_out.place_statics)

pub pack-requires-clause-code : goal.pack-requires-clause-code
pack-requires-clause-code c =
    let a = c.requires.source.3 in
    let s = a.set_out in
    let linkable = linkable_of c.ready_law.ensures c.linkable_law.ensures c.requires.source.0 c.args.options.max_gap c.args.unlinked c.requires.source.1 a in
    loadable s.parts c.in_ok-code.code (c.in_ok-code.ensures.code s.parts s.holds linkable)

pub returns-clause-built : goal.returns-clause-built
returns-clause-built c prog source a =
    let unit = a.made.unit in
    let s = a.set_out in
    let addresses = c.args.unlinked.addresses.items in
    let ready = ready_of c.ready_law.ensures prog c.args.options.max_gap c.args.unlinked source a in
    let linkable = linkable_of c.ready_law.ensures c.linkable_law.ensures prog c.args.options.max_gap c.args.unlinked source a in
    let link = c.in_ok-code.ensures.code s.parts s.holds linkable in
    let same : c.deref.result.now ≡ unit.statics.items = c.deref.ensures.value ∙ ap (λ z. z.items) s.statics in
    record {
      code = unit;
      passed = a.is_made.passed;
      layouts = s.layouts;
      lay_out = s.lay_out;
      addresses = addresses;
      place_statics = s.place_statics;
      parts = s.parts;
      assemble = s.assemble;
      named = s.named ∙ ap program_names (texts_are prog.funcs.items _ a.is_made.names);
      linked = c.in_ok-code.code;
      link = link;
      measure = c.in_ok-gap.ensures;
      short = gap_within c.linked_short_law.ensures prog c.args.options.max_gap unit addresses s.layouts s.parts c.requires.options.gap ready s.assemble c.in_ok-code.code linkable link c.in_ok-gap.gap c.in_ok-gap.ensures;
      pack = subst (λ (k : List ℕ). IsPacked unit k c.in_ok-code.code c.args.options.stack c.args.options.out_cap c.in_ok-image.image) c.deref-2.ensures.value (c.in_ok-image.ensures unit (sym same));
      is_image = search rules;
      frames = frames_are prog.funcs.items _ s.layouts _ a.is_made.names s.frames;
      cuts = refl;
    }

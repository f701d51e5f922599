use Rattle.std.proofs.Common.{ℕ, List, Vec, Global, map, length, sym, ap, ◌∙◌, subst}
use Rattle.std.specs.Prelude.{string_bytes}
use Rattle.std.proofs.lemmas.Result.{err_from_is_err_and}
use Rattle.im_mem.specs.Map.{statics_start}
use Rattle.im_block.specs.declared.unit.Function.{Function}
use Rattle.im_block.specs.declared.unit.Static.{Static as StaticOf}
use Rattle.im_frame.specs.declared.layout.Layout.{Layout}
use Rattle.im_frame.specs.Layout.{places_from}
use Rattle.im_select_addresses.specs.Addresses.{AreLayouts}
use Rattle.im_select_addresses.specs.Statics.{objects_of}
use Rattle.im_link_laws.specs.Program.{IsProgram}
use Rattle.im_select_assemble.specs.Names.{program_names}
use Rattle.im_compile.specs.Faults.{IsFrameFault}
use Rattle.im_compile.specs.Made.{AreNamedFrames, texts_of_names}
use Rattle.im_compile.proofs.Layouts.{names_count, assemblable, layouts_at, room_of}
use Rattle.im_compile.proofs.Names.{texts_are, names_count as count_of_names}
use Rattle.im_compile.proofs.setting_out.set_out.Goals as goal

pub layouts_of-requires : goal.layouts_of-requires
layouts_of-requires c =
    let ready = c.ready_law.ensures c.requires.0 c.requires.1 c.args.made.unit c.requires.2 c.requires.3.passed in
    rw c.deref.ensures.value ready.fits

pub returns-in_err-layouts : goal.returns-in_err-layouts
returns-in_err-layouts c =
    let p = err_from_is_err_and c.from_residual.result c.from_residual.ensures.1 in
    rw (p.1, p.2) (subst (λ (fs : List Function). IsFrameFault fs c.in_err-layouts.field-0.0) c.deref.ensures.value c.in_err-layouts.ensures)

pub place_statics-requires : goal.place_statics-requires
place_statics-requires c =
    let ready = c.ready_law.ensures c.requires.0 c.requires.1 c.args.made.unit c.requires.2 c.requires.3.passed in
    room_of c.args.made.unit c.deref-2.result.now c.deref-2.ensures.value ready.room

pub frames_of-requires : goal.frames_of-requires
frames_of-requires c =
    let made = c.args.made in
    let ready = c.ready_law.ensures c.requires.0 c.requires.1 made.unit c.requires.2 c.requires.3.passed in
    ap (λ (l : List Layout). length l) c.deref-5.ensures.value ∙ c.in_ok-layouts.ensures.count ∙ ap (λ (l : List Function). length l) c.deref.ensures.value ∙ ready.count
    ∙ sym (count_of_names c.requires.0.funcs.items made.names.items c.requires.3.names) ∙ ap (λ (l : List (Vec ℕ Global)). length l) (sym c.deref-4.ensures.value)

pub assemble-requires : goal.assemble-requires
assemble-requires c =
    let prog = c.requires.0 in
    let made = c.args.made in
    let ready = c.ready_law.ensures prog c.requires.1 made.unit c.requires.2 c.requires.3.passed in
    let lay_out = subst (λ (fs : List Function). AreLayouts fs c.in_ok-layouts.layouts.items) c.deref.ensures.value c.in_ok-layouts.ensures in
    let places = c.in_ok-addresses.ensures ∙ ap (λ (ss : List StaticOf). places_from statics_start (objects_of ss)) c.deref-2.ensures.value in
    let named = c.in_ok-texts.ensures ∙ ap texts_of_names c.deref-3.ensures.value ∙ texts_are prog.funcs.items _ c.requires.3.names in
    assemblable prog c.requires.1 made.unit _ ready (layouts_at _ _ _ c.deref-6.ensures.value lay_out) (c.deref-7.ensures.value ∙ places)
    (ap (λ l. length l) c.deref-8.ensures.value ∙ names_count c.in_ok-texts.texts.items prog.funcs.items named)

pub returns : goal.returns
returns c =
    let unit = c.args.made.unit in
    let layouts = c.in_ok-layouts.layouts.items in
    let a = c.in_ok-assembled.ensures.parts in
    record {
      layouts = layouts;
      lay_out = subst (λ (fs : List Function). AreLayouts fs layouts) c.deref.ensures.value c.in_ok-layouts.ensures;
      frames = subst (λ (k : List (Vec ℕ Global)). AreNamedFrames k layouts c.in_ok-frames.frames.frames.items) c.deref-4.ensures.value
          (subst (λ (k : List Layout). AreNamedFrames c.deref-4.result.now k c.in_ok-frames.frames.frames.items) c.deref-5.ensures.value c.in_ok-frames.ensures);
      statics = c.in_ok-assembled.ensures.statics;
      place_statics = c.in_ok-addresses.ensures ∙ ap (λ (ss : List StaticOf). places_from statics_start (objects_of ss)) c.deref-2.ensures.value;
      parts = a.parts;
      holds = a.holds;
      assemble =
          subst (λ (k : List Layout). IsProgram unit c.in_ok-addresses.addresses.items k a.parts) c.deref-6.ensures.value
          (subst (λ (k : List ℕ). IsProgram unit k c.deref-6.result.now a.parts) c.deref-7.ensures.value a.is_program);
      named = a.names ∙ ap program_names (ap (map string_bytes) c.deref-8.ensures.value ∙ c.in_ok-texts.ensures ∙ ap texts_of_names c.deref-3.ensures.value);
    }

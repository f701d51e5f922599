-- Placed code is ready for the passes behind.
use Rattle.std.proofs.Common.{◌≡◌, ◌≤◌, ℕ, ◌+◌, ◌*◌, List, [], ◌∷◌, Option, Some, None, map, length, refl, sym, ap, ◌∙◌, subst, arith}
use Rattle.std.specs.Prelude.{◌/◌}
use Rattle.std.proofs.lemmas.List.{length-map}
use Rattle.std.proofs.lemmas.List.Elements.{All-weaker}
use Rattle.std.proofs.lemmas.List.Sums.{sum_by-cons}
use Rattle.im_mem.specs.Map.{statics_capacity}
use Rattle.im_store.specs.Statics.{StaticObject}
use Rattle.im_typed.specs.declared.program.Func.{Func}
use Rattle.im_typed.specs.declared.program.Prog.{Prog}
use Rattle.im_typed.specs.ProgramOf.{func_of, program_of}
use Rattle.im_typed.specs.Limits.{static_bytes}
use Rattle.im_block.specs.declared.access.Tags.{Tags}
use Rattle.im_block.specs.declared.unit.Static.{Static as StaticOf}
use Rattle.im_block.specs.declared.unit.Function.{Function}
use Rattle.im_block.specs.declared.unit.Unit.{Unit as Code}
use Rattle.im_block.specs.Meaning.{static_of, statics_of}
use Rattle.im_block.specs.Uncut.{SameFunction}
use Rattle.im_block.proofs.Unitwise.{zip_length}
use Rattle.im_block.specs.Shape.{AllOrdered}
use Rattle.im_block.specs.Tagged.{IsSound}
use Rattle.im_block.specs.Forced.{AllForced}
use Rattle.im_block.specs.Wellformed.{IsWellFormed}
use Rattle.im_block.specs.Laws.{AddedCutsLaw}
use Rattle.im_block_laws.specs.Laws.{CutsKeepCodeLaw}
use Rattle.im_alloc_placed.specs.Placeable.{IsPlaceable}
use Rattle.im_alloc_placed.specs.Placed.{IsPlacedFunction, IsPlacedCode}
use Rattle.im_alloc_placed.specs.Laws.{CutsKeepPlacesLaw}
use Rattle.im_forward.specs.Registers.{InRegisters}
use Rattle.im_forward.specs.RegistersLaws.{RegistersLaw}
use Rattle.im_force.specs.Force.{Forces}
use Rattle.im_force.specs.Laws.{ForceKeepsLaw}
use Rattle.im_recut.specs.Recut.{IsGapLimit, RecutsTo}
use Rattle.im_recut.specs.Laws.{RecutKeepsLaw}
use Rattle.im_lower_relation.specs.Lowered.{IsLowered, AreSized}
use Rattle.im_lower_relation.specs.Laws.{LoweredFormLaw}
use Rattle.im_alloc_relation.specs.Placing.{IsPlaced, PlacedFunction}
use Rattle.im_alloc_laws.specs.Numbered.{IsWellPlaced}
use Rattle.im_alloc_laws.specs.Laws.{PlacedCodeLaw}
use Rattle.im_compile_dependences.specs.Laws.{UncutNames, ForceNames, PlaceNames, RecutNames}
use Rattle.im_frame.specs.Layout.{room, rooms, bytes_of}
use Rattle.im_select_addresses.specs.Statics.{objects_of}
use Rattle.im_compile.specs.Lowered.{IsLoweredCode}
use Rattle.im_pack.specs.Packed.{AreNamable}
use Rattle.im_compile.specs.Passed.{IsGapOption, IsSource, IsPassed, IsReady}

-- lowered code, whose locals go into registers

pub lowered_well : LoweredFormLaw → (prog : Prog) (lowered : Code) → IsSource prog → IsLowered (program_of prog) lowered → AreSized (program_of prog) lowered → IsWellFormed lowered
lowered_well form prog lowered s is sized = (form (program_of prog) lowered s.typed s.within is sized).0

-- block code with its forced cuts, which placing takes

pub forced_well : LoweredFormLaw → RegistersLaw → ForceKeepsLaw → CutsKeepCodeLaw → (prog : Prog) (lowered forwarded forced : Code) → IsSource prog → IsLowered (program_of prog) lowered → AreSized (program_of prog) lowered → InRegisters lowered forwarded → Forces forwarded forced → IsWellFormed forced
forced_well form registers force cuts prog lowered forwarded forced s is sized r f =
    cuts.well_formed forwarded forced (force.same forwarded forced f)
    (registers.well_formed lowered forwarded r (lowered_well form prog lowered s is sized))

pub forced_placeable : RegistersLaw → ForceKeepsLaw → CutsKeepPlacesLaw → (lowered forwarded forced : Code) → IsPlaceable lowered → InRegisters lowered forwarded → Forces forwarded forced → IsPlaceable forced
forced_placeable registers force places lowered forwarded forced p r f =
    places.placeable forwarded forced (force.same forwarded forced f) (registers.placeable lowered forwarded r p)

-- placed code, which takes its last cuts

pub limit_of : (max_gap : Option ℕ) → IsGapOption max_gap → IsGapLimit max_gap
limit_of None h = tt
limit_of (Some gap) h = h.0

pub placed_ordered : LoweredFormLaw → RegistersLaw → AddedCutsLaw → ForceKeepsLaw → PlacedCodeLaw → (prog : Prog) (lowered forwarded forced placed : Code) → IsSource prog → IsLowered (program_of prog) lowered → AreSized (program_of prog) lowered → InRegisters lowered forwarded → Forces forwarded forced → IsPlaced forced placed → AllOrdered placed
placed_ordered form registers added force placing prog lowered forwarded forced placed s is sized r f p =
    placing.ordered forced placed p
    (added.ordered forwarded forced (force.same forwarded forced f)
    (registers.ordered lowered forwarded r (form (program_of prog) lowered s.typed s.within is sized).1))

pub placed_forced : ForceKeepsLaw → PlacedCodeLaw → (forwarded forced placed : Code) → Forces forwarded forced → IsPlaced forced placed → AllForced placed
placed_forced force placing forwarded forced placed f p = placing.forced forced placed p (force.forced forwarded forced f)

pub passed : (prog : Prog) (lowered forwarded forced : Code) (tags : Tags) (max_gap : Option ℕ) (placed code : Code) → IsLoweredCode prog lowered → InRegisters lowered forwarded → Forces forwarded forced → IsSound forced tags → IsWellPlaced forced placed → RecutsTo tags max_gap placed code → IsPassed prog max_gap code
passed prog lowered forwarded forced tags max_gap placed code l registers force alias place recut = record {
  lowered = lowered;
  lower = l.lower;
  sized = l.sized;
  placeable = l.placeable;
  uncut = l.uncut;
  told = l.told;
  forwarded = forwarded;
  registers = registers;
  forced = forced;
  force = force;
  tags = tags;
  alias = alias;
  placed = placed;
  place = place;
  recut = recut;
}

-- the bytes of statics

room_is : (n : ℕ) → room n ≡ (n + 1 + 3) / 4 * 4
room_is n = omega arith

rooms_are : (statics : List StaticOf) → rooms (objects_of statics) ≡ static_bytes (map {A = StaticOf} static_of statics)
rooms_are [] = refl
rooms_are (s ∷ ss) =
    ap (λ n. n + rooms (objects_of ss)) (room_is s.object.size) ∙ ap (λ n. (s.object.size + 1 + 3) / 4 * 4 + n) (rooms_are ss)
    ∙ sym (sum_by-cons (λ (o : StaticObject). (o.size + 1 + 3) / 4 * 4) (static_of s) (map {A = StaticOf} static_of ss))

-- the statics are those of the program

code_statics : (prog : Prog) (max_gap : Option ℕ) (code : Code) (p : IsPassed prog max_gap code) → code.statics.items ≡ p.lowered.statics.items
code_statics prog max_gap code p =
    ap (λ (u : Code). u.statics.items) p.recut.rest ∙ ap (λ (u : Code). u.statics.items) p.place.placed.rest ∙ ap (λ (u : Code). u.statics.items) p.force.rest
    ∙ ap (λ (u : Code). u.statics.items) p.registers.forward.rest ∙ ap (λ (u : Code). u.statics.items) p.registers.promote.promotes.rest

pub namable : (prog : Prog) (max_gap : Option ℕ) (code : Code) → IsPassed prog max_gap code → AreNamable (program_of prog).statics → AreNamable (statics_of code)
namable prog max_gap code p h =
    let same : statics_of code ≡ (program_of prog).statics =
    ap (λ (z : List StaticOf). map {A = StaticOf} static_of z) (code_statics prog max_gap code p) ∙ p.lower.statics in
    subst AreNamable (sym same) h

-- functions are as many as before

registers_count : (fs gs : List Function) → map (λ (f : Function). f.need) gs ≡ map (λ (f : Function). f.need) fs → length gs ≡ length fs
registers_count fs gs e =
    sym (length-map {A = Function} gs (λ (f : Function). f.need)) ∙ ap (λ (ns : List ℕ). length ns) e ∙ length-map {A = Function} fs (λ (f : Function). f.need)

pub ready : LoweredFormLaw → RegistersLaw → AddedCutsLaw → ForceKeepsLaw → CutsKeepCodeLaw → CutsKeepPlacesLaw → PlacedCodeLaw → RecutKeepsLaw → UncutNames → ForceNames → PlaceNames → RecutNames → (prog : Prog) (max_gap : Option ℕ) (code : Code) → IsSource prog → IsPassed prog max_gap code → IsReady prog max_gap code
ready form registers added force cuts places placing recut uncut_names force_names place_names recut_names prog max_gap code s p =
    let well = forced_well form registers force cuts prog p.lowered p.forwarded p.forced s p.lower p.sized p.registers p.force in
    let placeable = forced_placeable registers force places p.lowered p.forwarded p.forced p.placeable p.registers p.force in
    let same_forced = force.same p.forwarded p.forced p.force in
    let same = recut.same p.tags max_gap p.placed code p.recut in
    let placed_well : IsWellFormed p.placed = placing.well_formed p.forced p.placed p.place placeable well in
    let placed : IsPlacedCode code = places.placed p.placed code same (placing.placed p.forced p.placed p.place placeable) in
    let statics = code_statics prog max_gap code p in
    let bytes : rooms (objects_of code.statics.items) ≡ static_bytes (program_of prog).statics =
    rooms_are code.statics.items ∙ ap (λ (z : List StaticOf). static_bytes (map {A = StaticOf} static_of z)) statics ∙ ap (λ l. static_bytes l) p.lower.statics in
    let ordered = placed_ordered form registers added force placing prog p.lowered p.forwarded p.forced p.placed s p.lower p.sized p.registers p.force p.place.placed in
    let all_forced = placed_forced force placing p.forwarded p.forced p.placed p.force p.place.placed in
    record {
      well_formed = cuts.well_formed p.placed code same placed_well;
      placed = placed;
      ordered = added.ordered p.placed code same ordered;
      forced = cuts.forced p.placed code same all_forced;
      short = recut.short p.tags max_gap p.placed code p.recut ordered all_forced;
      named = recut_names p.tags max_gap p.placed code p.recut (place_names p.forced p.placed p.place.placed (force_names p.forwarded p.forced p.force (uncut_names p.forwarded (registers.uncut p.lowered p.forwarded p.registers p.uncut))));
      fits = All-weaker (λ (f : Function). IsPlacedFunction (length code.statics.items) f) (λ (f : Function). bytes_of f ≤ f.need) (λ f h. h.fits) code.functions.items placed.functions;
      room = subst (λ n. n ≤ statics_capacity) (sym bytes) s.within.statics;
      count = zip_length SameFunction p.placed.functions.items code.functions.items same.functions
          ∙ zip_length PlacedFunction p.forced.functions.items p.placed.functions.items p.place.placed.functions
          ∙ zip_length SameFunction p.forwarded.functions.items p.forced.functions.items same_forced.functions
          ∙ registers_count p.lowered.functions.items p.forwarded.functions.items (registers.needs p.lowered p.forwarded p.registers)
          ∙ p.lower.count ∙ length-map {A = Func} prog.funcs.items (func_of prog.types);
    }

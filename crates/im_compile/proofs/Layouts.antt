-- Layouts, addresses and names make a unit that may be assembled.
use Rattle.std.proofs.Common.{String, ◌≡◌, ◌≤◌, ◌<◌, ℕ, zero, suc, ◌+◌, List, [], ◌∷◌, Option, length, map, refl, sym, ap, ◌∙◌, subst, arith}
use Rattle.std.specs.Prelude.{slice_index, string_bytes, encode_utf8_all}
use Rattle.std.specs.Global.{Global}
use Rattle.std.proofs.lemmas.List.{length-map}
use Rattle.im_mem.specs.Map.{statics_start, statics_capacity}
use Rattle.im_typed.specs.declared.program.Prog.{Prog}
use Rattle.im_block.specs.declared.unit.Object.{Object}
use Rattle.im_block.specs.declared.unit.Static.{Static as StaticOf}
use Rattle.im_block.specs.declared.unit.Function.{Function}
use Rattle.im_block.specs.declared.unit.Unit.{Unit as Code}
use Rattle.im_frame.specs.declared.layout.Layout.{Layout}
use Rattle.im_frame.specs.Layout.{room, rooms, places_from}
use Rattle.im_select_addresses.specs.Addresses.{AreLayouts}
use Rattle.im_select_addresses.specs.Statics.{objects_of}
use Rattle.im_select_assemble.specs.declared.program.Program.{Program}
use Rattle.im_select_assemble.specs.Assembled.{IsAssemblable}
use Rattle.im_typed.specs.declared.program.Func.{Func}
use Rattle.im_compile.specs.Built.{function_names}
use Rattle.im_compile.specs.Passed.{IsReady}

places_count : (start : ℕ) (os : List Object) → length (places_from start os) ≡ length os
places_count start [] = refl
places_count start (o ∷ os) = ap (λ n. suc n) (places_count (start + room o.size) os)

-- each place stands before where all end
place_below : (start : ℕ) (os : List Object) (n : ℕ) → n < length (places_from start os) → slice_index (places_from start os) n < start + rooms os
place_below start [] n h = absurd (omega (arith, h))
place_below start (o ∷ os) zero h =
    let some : 0 < room o.size = omega arith in
    omega (arith, some)
place_below start (o ∷ os) (suc n) h =
    let t = place_below (start + room o.size) os n (omega (arith, h)) in
    omega (arith, t)

pub assemblable : (prog : Prog) (max_gap : Option ℕ) (u : Code) (program : Program) → IsReady prog max_gap u → AreLayouts u.functions.items program.layouts.now →
    program.statics.now ≡ places_from statics_start (objects_of u.statics.items) → length program.names.now ≡ length prog.funcs.items → IsAssemblable u program
assemblable prog max_gap u program ready layouts statics names =
    let objects = objects_of u.statics.items in
    record {
      well_formed = ready.well_formed;
      placed = ready.placed;
      count = layouts.count;
      layouts = layouts.each;
      names = names ∙ sym ready.count;
      statics = ap (λ (l : List ℕ). length l) statics ∙ places_count statics_start objects ∙ length-map {A = StaticOf} u.statics.items (λ (s : StaticOf). s.object);
      low = λ n h.
          let below : n < length (places_from statics_start objects) = subst (λ (l : List ℕ). n < length l) statics h in
          let less = place_below statics_start objects n below in
          let all = ready.room in
          subst (λ (l : List ℕ). slice_index l n < statics_start + statics_capacity) (sym statics) (omega (arith, less, all));
    }

pub names_count : (names : List (String Global)) (funcs : List Func) → map string_bytes names ≡ function_names funcs → length names ≡ length funcs
names_count names funcs e =
    sym (length-map {A = String Global} names string_bytes) ∙ ap (λ (l : List (List ℕ)). length l) e ∙ length-map {A = Func} funcs (λ (f : Func). encode_utf8_all f.name.items)

-- what was made of a unit, of lists that are the same

pub layouts_at : (fs : List Function) (made ls : List Layout) → ls ≡ made → AreLayouts fs made → AreLayouts fs ls
layouts_at fs made ls same h = subst (λ (k : List Layout). AreLayouts fs k) (sym same) h

pub room_of : (u : Code) (statics : List StaticOf) → statics ≡ u.statics.items → rooms (objects_of u.statics.items) ≤ statics_capacity → rooms (objects_of statics) ≤ statics_capacity
room_of u statics same room = subst (λ (k : List StaticOf). rooms (objects_of k) ≤ statics_capacity) (sym same) room

pub places_at : (u : Code) (statics : List StaticOf) → statics ≡ u.statics.items → (addresses : List ℕ) → addresses ≡ places_from statics_start (objects_of u.statics.items) → addresses ≡ places_from statics_start (objects_of statics)
places_at u statics same addresses at = at ∙ ap (λ (k : List StaticOf). places_from statics_start (objects_of k)) (sym same)

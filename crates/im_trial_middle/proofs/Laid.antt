-- Layouts that grow by one for each function; what is asked of a unit that is assembled, linked and packed.
use Rattle.std.proofs.Common.{◌≡◌, ◌<◌, ◌≤◌, ℕ, zero, suc, ◌+◌, List, [], ◌∷◌, ◌++◌, length, get_or, Some, refl, sym, ap, ◌∙◌, subst, arith}
use Rattle.std.specs.Prelude.{slice_get, slice_index}
use Rattle.std.proofs.lemmas.List.{length-map}
use Rattle.std.proofs.lemmas.Option.{slice_get_read}
use Rattle.im_mem.specs.Map.{statics_start, statics_capacity}
use Rattle.im_rv.specs.declared.code.Part.{Part}
use Rattle.im_rv.specs.declared.code.Code.{Code as Linked}
use Rattle.im_link.specs.Parts.{first_of, last_of}
use Rattle.im_link.specs.Code.{IsLinked}
use Rattle.im_block.specs.declared.unit.Object.{Object}
use Rattle.im_block.specs.declared.unit.Static.{Static as StaticOf}
use Rattle.im_block.specs.declared.unit.Function.{Function}
use Rattle.im_block.specs.declared.unit.Unit.{Unit as Code}
use Rattle.im_frame.specs.declared.layout.Layout.{Layout}
use Rattle.im_frame.specs.Layout.{IsLayout, room, rooms, places_from}
use Rattle.im_select_addresses.specs.Addresses.{AreLayouts}
use Rattle.im_select_addresses.specs.Statics.{objects_of}
use Rattle.im_select_assemble.specs.declared.program.Program.{Program}
use Rattle.im_select_assemble.specs.Assembled.{IsAssemblable}
use Rattle.im_pack.specs.Packed.{IsLoadable}
use Rattle.im_trial_middle.specs.Buildable.{IsBuildable}

-- the element of which a loop's index is that of the next one of a row
pub next_at : {X : Type 0} (xs : List X) (number count : ℕ) (x : X) → count ≡ number → number < length xs → x ≡ get_or xs number x → slice_get xs count ≡ Some x
next_at xs number count x e less is = subst (λ n. slice_get xs n ≡ Some x) (sym e) (slice_get_read xs (length xs) number x refl less is)

-- layouts of the first functions
abbrev pub Laid : List Function → List Layout → Type 0
Laid fs [] = Unit {0}
Laid [] (l ∷ ls) = ⊥
Laid (f ∷ fs) (l ∷ ls) = IsLayout f l × Laid fs ls

pub laid_more : (fs : List Function) (ls : List Layout) (f : Function) (l : Layout) → Laid fs ls → slice_get fs (length ls) ≡ Some f → IsLayout f l → Laid fs (ls ++ l ∷ [])
laid_more [] [] f l h e is = cc
laid_more [] (m ∷ ls) f l h e is = absurd h
laid_more (g ∷ fs) [] f l h e is = let same : f ≡ g = cc in (subst (λ k. IsLayout k l) same is, tt)
laid_more (g ∷ fs) (m ∷ ls) f l h e is = (h.0, laid_more fs ls f l h.1 e is)

laid_at : (fs : List Function) (ls : List Layout) → Laid fs ls → (i : ℕ) (f : Function) (l : Layout) → slice_get fs i ≡ Some f → slice_get ls i ≡ Some l → IsLayout f l
laid_at fs [] h i f l a b = cc
laid_at [] (m ∷ ls) h i f l a b = absurd h
laid_at (g ∷ fs) (m ∷ ls) h zero f l a b = let one : g ≡ f = cc in let two : m ≡ l = cc in subst (λ k. IsLayout k l) one (subst (λ k. IsLayout g k) two h.0)
laid_at (g ∷ fs) (m ∷ ls) h (suc i) f l a b = laid_at fs ls h.1 i f l a b

pub all_laid : (fs : List Function) (ls : List Layout) → Laid fs ls → length ls ≡ length fs → AreLayouts fs ls
all_laid fs ls h count = record { count = count; each = laid_at fs ls h }

places_count : (start : ℕ) (os : List Object) → length (places_from start os) ≡ length os
places_count start [] = refl
places_count start (o ∷ os) = ap (λ n. suc n) (places_count (start + room o.size) os)

-- each place stands before where all end
place_below : (start : ℕ) (os : List Object) (n : ℕ) → n < length (places_from start os) → slice_index (places_from start os) n < start + rooms os
place_below start [] n h = absurd (omega (arith, h))
place_below start (o ∷ os) zero h =
    let some : 0 < room o.size = omega arith in
    omega (arith, some)
place_below start (o ∷ os) (suc n) h =
    let t = place_below (start + room o.size) os n (omega (arith, h)) in
    omega (arith, t)

pub assemblable : (u : Code) (program : Program) → IsBuildable u → AreLayouts u.functions.items program.layouts.now →
    program.statics.now ≡ places_from statics_start (objects_of u.statics.items) → length program.names.now ≡ length u.functions.items → IsAssemblable u program
assemblable u program is layouts statics names =
    let objects = objects_of u.statics.items in
    record {
      well_formed = is.well_formed;
      placed = is.placed;
      count = layouts.count;
      layouts = layouts.each;
      names = names;
      statics = ap (λ (l : List ℕ). length l) statics ∙ places_count statics_start objects ∙ length-map {A = StaticOf} u.statics.items (λ (s : StaticOf). s.object);
      low = λ n h.
          let below : n < length (places_from statics_start objects) = subst (λ (l : List ℕ). n < length l) statics h in
          let less = place_below statics_start objects n below in
          let all = is.room in
          subst (λ (l : List ℕ). slice_index l n < statics_start + statics_capacity) (sym statics) (omega (arith, less, all));
    }

pub room_of : (u : Code) (statics : List StaticOf) → statics ≡ u.statics.items → rooms (objects_of u.statics.items) ≤ statics_capacity → rooms (objects_of statics) ≤ statics_capacity
room_of u statics same room = subst (λ (k : List StaticOf). rooms (objects_of k) ≤ statics_capacity) (sym same) room

pub loadable : (parts : List Part) (code : Linked) → IsLinked parts code → IsLoadable code
loadable parts code linked =
    let size = linked.size in
    let fits = linked.fits in
    record { few = omega arith; first = first_of parts (last_of parts); inside = linked.inside; entry = linked.entry }

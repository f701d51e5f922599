-- One map from all objects of a unit to their places: statics by their addresses, others by their frames.
use Rattle.std.specs.Prelude.{◌≡◌, ℕ, ◌+◌, ◌*◌, List, [], ◌∷◌, ◌++◌, map, length, Some, slice_get, slice_index}
use Rattle.im_store.specs.Objects.{Name, Named, Slot, Link}
use Rattle.im_block.specs.declared.unit.Object.{Object}
use Rattle.im_block.specs.declared.unit.Static.{Static as StaticOf}
use Rattle.im_block.specs.declared.unit.Function.{Function}
use Rattle.im_block.specs.declared.unit.Unit.{Unit as Code}
use Rattle.im_block.specs.Wellformed.{IsWellFormed}
use Rattle.im_frame.specs.declared.layout.Layout.{Layout}
use Rattle.im_frame.specs.Layout.{IsLayout}
use Rattle.im_select_relation.specs.Linking.{Linking}
use Rattle.im_select_relation.specs.Symbolic.{Agrees as HasFrame}

-- lists of numbers, one behind the other
abbrev pub joined : {X : Type 0} → (X → List ℕ) → List X → List ℕ
joined w [] = []
joined w (x ∷ xs) = w x ++ joined w xs

abbrev pub places_of : Layout → List ℕ
places_of l = l.places.items

abbrev pub sizes_of : Function → List ℕ
sizes_of f = map (λ (o : Object). o.size) f.objects.items

-- objects are numbered through the unit, after the statics those of the first function, then those of the next
abbrev pub place_at : List ℕ → List Layout → Name → ℕ
place_at statics layouts (Named n) = slice_index (statics ++ joined places_of layouts) n
place_at statics layouts (Slot n) = 8 + 8 * n
place_at statics layouts Link = 0

abbrev pub size_at : Code → Name → ℕ
size_at u (Named n) = slice_index (map (λ (s : StaticOf). s.object.size) u.statics.items ++ joined sizes_of u.functions.items) n
size_at u (Slot n) = 4
size_at u Link = 4

-- each function has a layout
pub record AreLayouts (functions : List Function) (layouts : List Layout) : Type 0 where
  pub count : length layouts ≡ length functions
  pub each : (i : ℕ) (f : Function) (l : Layout) → slice_get functions i ≡ Some f → slice_get layouts i ≡ Some l → IsLayout f l

abbrev pub FramesLaw : Type 0
FramesLaw =
    (u : Code) (statics : List ℕ) (layouts : List Layout) (p : Linking) → IsWellFormed u → length statics ≡ length u.statics.items → AreLayouts u.functions.items layouts →
    ((a : Name) → p.at a ≡ place_at statics layouts a) → ((a : Name) → p.size a ≡ size_at u a) →
    (i : ℕ) (f : Function) (l : Layout) → slice_get u.functions.items i ≡ Some f → slice_get layouts i ≡ Some l → HasFrame p f l

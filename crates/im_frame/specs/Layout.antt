-- The layout of a frame: its objects lie in it, apart, each with an unused byte behind it.
use Rattle.std.specs.Prelude.{◌≡◌, ◌⊎◌, ℕ, ◌+◌, ◌-◌, ◌*◌, ◌/◌, ◌%◌, ◌<◌, ◌≤◌, List, [], ◌∷◌, Some, length, slice_index}
use Rattle.im_store.specs.Objects.{Name, Named, Slot, Link, Shape}
use Rattle.im_block.specs.declared.unit.Object.{Object}
use Rattle.im_block.specs.declared.unit.Function.{Function}
use Rattle.im_block.specs.Meaning.{shapes_of}
use Rattle.im_block.specs.Shape.{sum_of}
use Rattle.im_frame.specs.declared.fault.FrameFault.{FrameFault}
use Rattle.im_frame.specs.declared.fault.FrameFault.TheVariants.{Limit, OutOfMemory}
use Rattle.im_frame.specs.declared.layout.Layout.{Layout}

-- bytes of an object and its unused byte, up to a multiple of 4
abbrev pub room : ℕ → ℕ
room size = (size / 4 + 1) * 4

-- bytes of several, and the places of each, from one on
abbrev pub rooms : List Object → ℕ
rooms objects = sum_of (λ (o : Object). room o.size) objects

abbrev pub places_from : ℕ → List Object → List ℕ
places_from start [] = []
places_from start (o ∷ os) = start ∷ places_from (start + room o.size) os

-- bytes of a frame: the return address, the slots, the objects
abbrev pub bytes_of : Function → ℕ
bytes_of f = 8 + 8 * f.slots + rooms f.objects.items

-- the place of an object in the frame, by its name. A slot has one place in every frame
abbrev pub place_of : Function → Layout → Name → ℕ
place_of f l (Named n) = slice_index l.places.items (n - f.first_object)
place_of f l (Slot n) = 8 + 8 * n
place_of f l Link = 0

pub record IsLayout (f : Function) (l : Layout) : Type 0 where
  pub bytes : l.frame ≡ bytes_of f
  pub need : l.frame ≤ f.need
  pub small : l.frame ≤ 65536
  pub even : l.frame % 4 ≡ 0
  pub count : length l.places.items ≡ length f.objects.items
  pub inside : (a : Name) (sh : Shape) → shapes_of f a ≡ Some sh → place_of f l a + sh.size < l.frame
  pub even_places : (a : Name) (sh : Shape) → shapes_of f a ≡ Some sh → place_of f l a % 4 ≡ 0
  pub apart : (a : Name) (sh : Shape) (b : Name) (th : Shape) → shapes_of f a ≡ Some sh → shapes_of f b ≡ Some th → (a ≡ b) ⊎ (place_of f l a + sh.size < place_of f l b) ⊎ (place_of f l b + th.size < place_of f l a)

abbrev pub IsFault : Function → FrameFault → Type 0
IsFault f (Limit bytes) = (bytes ≡ bytes_of f) × (65536 < bytes)
IsFault f OutOfMemory = Unit {0}

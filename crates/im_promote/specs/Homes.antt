-- The registers that objects of a function are given.
use Rattle.std.specs.Prelude.{◌≡◌, ◌<◌, ◌≤◌, ℕ, suc, ◌+◌, ◌-◌, ◌*◌, nat_le, if◌then◌else◌, true, false, List, [], ◌∷◌, map, length, Option, Some, None, All, slice_get, slice_index}
use Rattle.std.specs.List.{AllZip}
use Rattle.im_block.specs.declared.code.Line.{Line}
use Rattle.im_block.specs.declared.code.Block.{Block}
use Rattle.im_block.specs.declared.unit.Object.{Object}
use Rattle.im_block.specs.declared.unit.Function.{Function}
use Rattle.im_block.specs.Wellformed.{IsFunction}
use Rattle.im_promote.specs.Promote.{promoted, PromotesFunction}
use Rattle.im_promote.specs.Written.{IsWrittenFirst, WritesObjectsFirst}
use Rattle.im_alloc_placed.specs.Placeable.{HasRoom, IsPlaceableFunction}
use Rattle.im_promote.specs.Words.{has, breaks}

-- a register for some of the objects from a number on
abbrev pub home_at : Option (Option ℕ) → Option ℕ
home_at None = None
home_at (Some home) = home

abbrev pub homes_from : ℕ → List (Option ℕ) → ℕ → Option ℕ
homes_from first own n = if nat_le first n then home_at (slice_get own (n - first)) else None

-- they are numbered in order, from n up to next
abbrev pub Numbered : ℕ → List (Option ℕ) → ℕ → Type 0
Numbered n [] next = n ≡ next
Numbered n (None ∷ own) next = Numbered n own next
Numbered n (Some r ∷ own) next = (r ≡ n) × Numbered (suc n) own next

abbrev pub NoneBreaks : Function → ℕ → Type 0
NoneBreaks f n = (b : ℕ) (block : Block) → slice_get f.blocks.items b ≡ Some block → All (λ (line : Line). breaks line n ≡ false) block.lines.items

-- an object of the function, by its number in the unit, that may become a register
pub record MayBeRegister (f : Function) (n : ℕ) : Type 0 where
  pub whole : NoneBreaks f n
  pub first : IsWrittenFirst f n

-- bits of words for all objects: only those that may
pub record AreCandidates (f : Function) (words : List ℕ) : Type 0 where
  pub enough : length f.objects.items ≤ 32 * length words
  pub each : (i j : ℕ) → i < length words → j < 32 → has (slice_index words i) j ≡ true → MayBeRegister f (f.first_object + 32 * i + j)

pub record AreChosen (f : Function) (own : List (Option ℕ)) (register_count : ℕ) : Type 0 where
  pub count : length own ≡ length f.objects.items
  pub numbered : Numbered f.register_count own register_count
  pub may : (k r : ℕ) → slice_get own k ≡ Some (Some r) → MayBeRegister f (f.first_object + k)

-- the lines of a block
pub record RewritesBlock (homes : ℕ → Option ℕ) (old new : Block) : Type 0 where
  pub lines : new.lines.items ≡ map (promoted homes) old.lines.items
  pub exit : new.exit ≡ old.exit

-- an object that is a register has no bytes, the others are as they were
abbrev pub EmptiesObject : Option ℕ → Object → Object → Type 0
EmptiesObject None old new = new ≡ old
EmptiesObject (Some r) old new = (new.size ≡ 0) × (new.cells.items ≡ [])

abbrev pub EmptiesObjects : List (Option ℕ) → List Object → List Object → Type 0
EmptiesObjects [] [] [] = Unit {0}
EmptiesObjects (home ∷ own) (x ∷ xs) (y ∷ ys) = EmptiesObject home x y × EmptiesObjects own xs ys
EmptiesObjects own xs ys = ⊥

pub record RewritesFunction (own : List (Option ℕ)) (register_count : ℕ) (old new : Function) : Type 0 where
  pub blocks : AllZip (RewritesBlock (homes_from old.first_object own)) old.blocks.items new.blocks.items
  pub objects : EmptiesObjects own old.objects.items new.objects.items
  pub rest : new ≡ record old { register_count = register_count; objects = new.objects; blocks = new.blocks }

-- what a function of a unit has, whatever the unit's other functions and its statics
pub record IsReady (f : Function) : Type 0 where
  pub statics : ℕ
  pub functions : List Function
  pub first : statics ≤ f.first_object
  pub formed : IsFunction functions f
  pub placeable : IsPlaceableFunction statics f

pub record IsPromotedFunction (old new : Function) : Type 0 where
  pub own : List (Option ℕ)
  pub count : length own ≡ length old.objects.items
  pub promotes : PromotesFunction (homes_from old.first_object own) old new
  pub first : WritesObjectsFirst (homes_from old.first_object own) old
  pub room : HasRoom new

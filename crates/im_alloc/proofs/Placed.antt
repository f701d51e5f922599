-- A function that was placed by homes that suit it.
use Rattle.std.proofs.Common.{◌≡◌, ℕ, ◌+◌, ◌≤◌, List, [], ◌∷◌, zero, suc, Some, refl, sym, ap, ◌∙◌, subst, arith}
use Rattle.std.specs.Prelude.{slice_get}
use Rattle.im_block.specs.declared.unit.Registers.TheVariants.{Machine}
use Rattle.im_block.specs.declared.unit.Function.{Function}
use Rattle.im_alloc_placed.specs.Placeable.{IsPlaceableFunction}
use Rattle.im_alloc_relation.specs.Homes.{Home}
use Rattle.im_alloc_relation.specs.Placing.{PlacedFunction}
use Rattle.im_alloc_laws.specs.Numbered.{numbers_of_blocks}
use Rattle.im_alloc_intervals.specs.Homes.{home_at}
use Rattle.im_alloc_intervals.specs.Leaves.{IsLeaf, IsTight, NothingElseEnters}
use Rattle.im_alloc.specs.Places.{PlacesFunction, PlacesFunctions}
use Rattle.im_alloc.proofs.Wanted.{wanted, held, holds}

pub record Placed (n : ℕ) (f g : Function) : Type 0 where
  pub placed : PlacedFunction f g
  pub first : placed.first_access ≡ n
  pub few : g.slots ≤ f.register_count

slots_are : (n next : ℕ) (f g : Function) (s : PlacesFunction n next f g) → g.slots ≡ s.homes.slots
slots_are n next f g s = ap (λ (k : Function). k.slots) s.rest

pub placed_of : (statics n next : ℕ) (f g : Function) → IsPlaceableFunction statics f → PlacesFunction n next f g → Placed n f g
placed_of statics n next f g able s =
    let count : g.slots ≡ s.homes.slots = slots_are n next f g s in
    let h : ℕ → Home = home_at s.homes.of.items in
    let a = s.suits in
    let few = a.few in
    record {
      placed = record {
        home = h;
        live = a.live;
        wanted = wanted f.register_count h a.live;
        first_access = n;
        blocks = s.blocks;
        virtual = (able.registers, able.slots);
        rest = s.rest ∙ ap (λ (z : ℕ). let q : Function = record f { registers = Machine; register_count = 32; first_parameter = 10; slots = z; blocks = g.blocks } in q) (sym count);
        received = a.received;
        slots = λ v m e. let k = a.slots v m e in omega arith;
        free = a.free;
        valid = a.valid;
        closed = a.closed;
        held = held f.register_count h a.live a.within;
        holds = holds f.register_count h a.live;
        entered = a.entered;
      };
      first = refl;
      few = omega arith;
    }

pub no_slots : (n i : ℕ) (fs gs : List Function) (f g : Function) → PlacesFunctions n fs gs → slice_get fs i ≡ Some f → slice_get gs i ≡ Some g → IsLeaf f → IsTight f 20 → NothingElseEnters f → g.slots ≡ 0
no_slots n i [] [] f g s at at' leaf tight enters = absurd cc
no_slots n i [] (y ∷ ys) f g s at at' leaf tight enters = absurd s
no_slots n i (x ∷ xs) [] f g s at at' leaf tight enters = absurd s
no_slots n zero (x ∷ xs) (y ∷ ys) f g s at at' leaf tight enters =
    let one : x ≡ f = cc in
    let other : y ≡ g = cc in
    let m : ℕ = n + numbers_of_blocks x.blocks.items in
    ap (λ (k : Function). k.slots) (sym other)
    ∙ slots_are n m x y s.0
    ∙ s.0.leaf (subst IsLeaf (sym one) leaf) (subst (λ k. IsTight k 20) (sym one) tight) (subst NothingElseEnters (sym one) enters)
no_slots n (suc i) (x ∷ xs) (y ∷ ys) f g s at at' leaf tight enters =
    no_slots (n + numbers_of_blocks x.blocks.items) i xs ys f g s.1 at at' leaf tight enters

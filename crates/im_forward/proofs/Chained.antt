-- Steps of functions, one after the other, as steps of a whole unit; so what holds of one step holds of all.
use Rattle.std.proofs.Common.{◌≡◌, ◌≤◌, List, [], ◌∷◌, length, refl, sym, ap, ◌∙◌, subst, arith}
use Rattle.std.specs.List.{AllZip}
use Rattle.std.specs.Vec.{with_items}
use Rattle.std.proofs.lemmas.List.{with_items_is}
use Rattle.im_block.specs.declared.unit.Registers.TheVariants.{Virtual}
use Rattle.im_block.specs.declared.unit.Function.{Function}
use Rattle.im_block.specs.declared.unit.Unit.{Unit as Code}
use Rattle.im_block.specs.Runs.{Runs}
use Rattle.im_block.specs.Shape.{AllOrdered, function_cost}
use Rattle.im_block.specs.Wellformed.{IsWellFormed}
use Rattle.im_block.specs.Unitwise.{EachFunction}
use Rattle.im_block.proofs.Unitwise.{zip_length}
use Rattle.im_alloc_placed.specs.Apart.{AllUncut}
use Rattle.im_alloc_placed.specs.Placeable.{IsPlaceable}
use Rattle.im_alloc_relation.specs.Reads.{WritesFirst}
use Rattle.im_forward.specs.Forward.{ForwardsOnce, ForwardsFunction, Once, Then, ForwardsFunctions, Forwards}
use Rattle.im_forward.specs.Laws.{ForwardLaw, OrderedLaw, FormedLaw, UncutLaw, PlaceableLaw}
use Rattle.im_forward.proofs.Sims.{whole}
use Rattle.im_forward.proofs.Shapes.{costs_once, ordered_kept, uncut_kept, formed}
use Rattle.im_forward.proofs.Placeables.{unit_placeable}
use Rattle.im_forward.proofs.Writtens.{written_once}
use Rattle.im_forward.proofs.Straightening.{once_same}

-- ---- a function

virtual_first : (f g : Function) → ForwardsFunction f g → f.registers ≡ Virtual
virtual_first f g (Once x y p) = p.virtual
virtual_first f g (Then x y z p h) = p.virtual

virtual_once : (f g : Function) → ForwardsOnce f g → g.registers ≡ Virtual
virtual_once f g p = ap (λ (k : Function). k.registers) p.rest ∙ p.virtual

virtual_last : (f g : Function) → ForwardsFunction f g → g.registers ≡ Virtual
virtual_last f g (Once x y p) = virtual_once x y p
virtual_last f g (Then x y z p h) = virtual_last y z h

pub and_once : (f g h : Function) → ForwardsFunction f g → ForwardsOnce g h → ForwardsFunction f h
and_once f g h (Once x y p) q = Then x y h p (Once y h q)
and_once f g h (Then x y z p r) q = Then x y h p (and_once y z h r q)

pub costs : (f g : Function) → ForwardsFunction f g → function_cost g ≤ function_cost f
costs f g (Once x y p) = costs_once x y p
costs f g (Then x y z p h) = let a = costs_once x y p in let b = costs y z h in omega (arith, a, b)

pub written : (f g : Function) → ForwardsFunction f g → WritesFirst f → WritesFirst g
written f g (Once x y p) w = written_once x y p w
written f g (Then x y z p h) w = written y z h (written_once x y p w)

pub need_kept : (f g : Function) → ForwardsFunction f g → g.need ≡ f.need
need_kept f g (Once x y p) = ap (λ (k : Function). k.need) p.rest
need_kept f g (Then x y z p h) = need_kept y z h ∙ ap (λ (k : Function). k.need) p.rest

-- ---- functions side by side

data Chain : List Function → List Function → Type 0 where
  Last : (fs gs : List Function) → AllZip ForwardsOnce fs gs → Chain fs gs
  Go : (fs gs hs : List Function) → AllZip ForwardsOnce fs gs → Chain gs hs → Chain fs hs

all_same : (fs gs : List Function) → ForwardsFunctions fs gs → AllZip ForwardsOnce fs fs
all_same [] [] h = tt
all_same [] (g ∷ gs) h = absurd h
all_same (f ∷ fs) [] h = absurd h
all_same (f ∷ fs) (g ∷ gs) h = (once_same f (virtual_first f g h.0), all_same fs gs h.1)

-- the first function alone, then the others
first_steps : (f g : Function) (fs hs : List Function) → ForwardsFunction f g → AllZip ForwardsOnce fs fs → Chain (g ∷ fs) hs → Chain (f ∷ fs) hs
first_steps f g fs hs (Once x y p) all on = Go (x ∷ fs) (y ∷ fs) hs (p, all) on
first_steps f g fs hs (Then x y z p h) all on = Go (x ∷ fs) (y ∷ fs) hs (p, all) (first_steps y z fs hs h all on)

other_steps : (g : Function) (fs gs : List Function) → ForwardsOnce g g → Chain fs gs → Chain (g ∷ fs) (g ∷ gs)
other_steps g fs gs same (Last xs ys p) = Last (g ∷ xs) (g ∷ ys) (same, p)
other_steps g fs gs same (Go xs ys zs p on) = Go (g ∷ xs) (g ∷ ys) (g ∷ zs) (same, p) (other_steps g ys zs same on)

chain : (fs gs : List Function) → ForwardsFunctions fs gs → Chain fs gs
chain [] [] h = Last [] [] tt
chain [] (g ∷ gs) h = absurd h
chain (f ∷ fs) [] h = absurd h
chain (f ∷ fs) (g ∷ gs) h =
    first_steps f g fs (g ∷ gs) h.0 (all_same fs gs h.1) (other_steps g fs gs (once_same g (virtual_last f g h.0)) (chain fs gs h.1))

-- ---- units

module _ (P : Code → Type 0) (keeps : (u w : Code) → EachFunction ForwardsOnce u w → P u → P w) where
  all_steps : (fs gs : List Function) → Chain fs gs → (u w : Code) → u.functions.items ≡ fs → w.functions.items ≡ gs → w ≡ record u { functions = w.functions } → P u → P w
  all_steps fs gs (Last xs ys p) u w first last rest h =
      keeps u w (record { functions = subst (λ z. AllZip ForwardsOnce z w.functions.items) (sym first) (subst (AllZip ForwardsOnce xs) (sym last) p); rest = rest }) h
  all_steps fs gs (Go xs ys zs p on) u w first last rest h =
      let count : length ys ≡ u.functions.len = zip_length ForwardsOnce xs ys p ∙ ap (λ (z : List Function). length z) (sym first) ∙ sym u.functions.ok.0 in
      let middle : Code = record u { functions = with_items u.functions ys } in
      let is : middle.functions.items ≡ ys = with_items_is u.functions ys count in
      let step : EachFunction ForwardsOnce u middle = record { functions = subst (λ z. AllZip ForwardsOnce z middle.functions.items) (sym first) (subst (AllZip ForwardsOnce xs) (sym is) p); rest = refl } in
      all_steps ys zs on middle w is last rest (keeps u middle step h)

  pub each_step : (u w : Code) → Forwards u w → P u → P w
  each_step u w p h = all_steps u.functions.items w.functions.items (chain u.functions.items w.functions.items p.functions) u w refl refl p.rest h

pub forward_holds : ForwardLaw
forward_holds old new p g n o run r = each_step (λ (c : Code). Runs c g n o run) (λ u w q h. whole u w q g n o run h) old new p r

pub ordered_holds : OrderedLaw
ordered_holds old new p h = each_step AllOrdered ordered_kept old new p h

pub formed_holds : FormedLaw
formed_holds old new p h = each_step IsWellFormed formed old new p h

pub uncut_holds : UncutLaw
uncut_holds old new p h = each_step AllUncut uncut_kept old new p h

pub placeable_holds : PlaceableLaw
placeable_holds old new p h = each_step IsPlaceable unit_placeable old new p h

-- What the passes make of a program has its cuts where they are due.
use Rattle.std.proofs.Common.{◌≡◌, ℕ, zero, suc, List, [], ◌∷◌, Option, Some, None, refl, subst}
use Rattle.std.specs.Prelude.{slice_get}
use Rattle.im_block.specs.declared.access.Tags.{Tags}
use Rattle.im_block.specs.declared.unit.Function.{Function}
use Rattle.im_block.specs.declared.unit.Unit.{Unit as Code}
use Rattle.im_alloc_laws.specs.Laws.{PlacedCodeLaw}
use Rattle.im_alloc_placed.specs.Apart.{AllUncut, AllApart}
use Rattle.im_alloc_relation.specs.Placing.{PlacedFunctions}
use Rattle.im_cut_gap.specs.Laws.{GapApartLaw}
use Rattle.im_force.specs.Force.{ForcesFunctions}
use Rattle.im_force.specs.Laws.{ForceKeepsLaw}
use Rattle.im_forward.specs.RegistersLaws.{RegistersLaw}
use Rattle.im_recut.specs.Recut.{IsGapLimit, RecutsFunctions}
use Rattle.im_typed.specs.declared.program.Prog.{Prog}
use Rattle.im_compile.specs.Passed.{IsPassed}
use Rattle.im_keeps_built.proofs.Numbers.{reads_of_blocks}
use Rattle.im_keeps_built.proofs.Reasons.{no_reads, ReasonedFunction}
use Rattle.im_keeps_built.proofs.ReasonsForced.{Uncut, function_forced}
use Rattle.im_keeps_built.proofs.ReasonsPlaced.{function_placed}
use Rattle.im_keeps_built.proofs.ReasonsRecut.{AllApartHere, known, function_recut}

abbrev Each : (Function → Type 0) → List Function → Type 0
Each P fs = (i : ℕ) (f : Function) → slice_get fs i ≡ Some f → P f

abbrev pub OwnReasons : Option ℕ → Function → Type 0
OwnReasons max_gap f = ReasonedFunction (known (max_gap ≡ None → ⊥) (reads_of_blocks f.blocks.items)) f

at_first : (P : Function → Type 0) (f g : Function) (fs : List Function) → P f → slice_get (f ∷ fs) 0 ≡ Some g → P g
at_first P f g fs h e = let same : f ≡ g = cc in subst P same h

each_forced : (fs gs : List Function) → ForcesFunctions fs gs → Each (λ f. Uncut f.blocks.items) fs → Each (ReasonedFunction no_reads) gs
each_forced [] [] h u i g e = absurd cc
each_forced [] (y ∷ ys) h u i g e = absurd h
each_forced (x ∷ xs) [] h u i g e = absurd h
each_forced (x ∷ xs) (y ∷ ys) h u zero g e = at_first (ReasonedFunction no_reads) y g ys (function_forced x y h.0 (u 0 x refl)) e
each_forced (x ∷ xs) (y ∷ ys) h u (suc i) g e = each_forced xs ys h.1 (λ j f k. u (suc j) f k) i g e

each_placed : (fs gs : List Function) → PlacedFunctions fs gs → Each (ReasonedFunction no_reads) fs → Each (ReasonedFunction no_reads) gs
each_placed [] [] h r i g e = absurd cc
each_placed [] (y ∷ ys) h r i g e = absurd h
each_placed (x ∷ xs) [] h r i g e = absurd h
each_placed (x ∷ xs) (y ∷ ys) h r zero g e = at_first (ReasonedFunction no_reads) y g ys (function_placed x y h.0 (r 0 x refl)) e
each_placed (x ∷ xs) (y ∷ ys) h r (suc i) g e = each_placed xs ys h.1 (λ j f k. r (suc j) f k) i g e

each_recut : GapApartLaw → (tags : Tags) (max_gap : Option ℕ) → IsGapLimit max_gap → (fs gs : List Function) → RecutsFunctions tags max_gap fs gs → Each (λ f. AllApartHere f.blocks.items) fs → Each (ReasonedFunction no_reads) fs → Each (OwnReasons max_gap) gs
each_recut law tags max_gap limit [] [] h apart r i g e = absurd cc
each_recut law tags max_gap limit [] (y ∷ ys) h apart r i g e = absurd h
each_recut law tags max_gap limit (x ∷ xs) [] h apart r i g e = absurd h
each_recut law tags max_gap limit (x ∷ xs) (y ∷ ys) h apart r zero g e = at_first (OwnReasons max_gap) y g ys (function_recut law tags max_gap x y limit h.0 (apart 0 x refl) (r 0 x refl)) e
each_recut law tags max_gap limit (x ∷ xs) (y ∷ ys) h apart r (suc i) g e = each_recut law tags max_gap limit xs ys h.1 (λ j f k. apart (suc j) f k) (λ j f k. r (suc j) f k) i g e

pub passed_reasons : RegistersLaw → ForceKeepsLaw → PlacedCodeLaw → GapApartLaw → (prog : Prog) (max_gap : Option ℕ) (code : Code) → IsPassed prog max_gap code → (i : ℕ) (f : Function) → slice_get code.functions.items i ≡ Some f → OwnReasons max_gap f
passed_reasons registers force placing gaps prog max_gap code p =
    let uncut : AllUncut p.forwarded = registers.uncut p.lowered p.forwarded p.registers p.uncut in
    let apart : AllApart p.placed = placing.apart p.forced p.placed p.place.placed (force.apart p.forwarded p.forced p.force uncut) in
    let forced = each_forced p.forwarded.functions.items p.forced.functions.items p.force.functions (λ i f e b block at. uncut.each i f b block e at) in
    let placed = each_placed p.forced.functions.items p.placed.functions.items p.place.placed.functions forced in
    each_recut gaps p.tags max_gap p.recut.limit p.placed.functions.items code.functions.items p.recut.functions (λ i f e b block at. apart.each i f b block e at) placed

-- The parts of a unit's functions are those of a program.
use Rattle.std.proofs.Common.{◌≡◌, ◌<◌, ◌≤◌, inl, inr, ℕ, zero, suc, ◌+◌, Bool, true, false, List, [], ◌∷◌, Some, length, take, get_or, refl, sym, ap, ◌∙◌, subst, arith}
use Rattle.std.specs.Prelude.{nat_lt, slice_get, All}
use Rattle.std.proofs.lemmas.Bool.Decides.{nat_tests}
use Rattle.std.proofs.lemmas.Option.{slice_get_cases, slice_get_read, slice_get_within, get_or_from_slice_get}
use Rattle.im_rv.specs.declared.code.Part.{Part}
use Rattle.im_rv.specs.Lines.{CodeLine}
use Rattle.im_block.specs.declared.code.Line.{Line}
use Rattle.im_block.specs.declared.code.Line.TheVariants.{Call}
use Rattle.im_block.specs.declared.code.Block.{Block}
use Rattle.im_block.specs.declared.unit.Function.{Function}
use Rattle.im_block.specs.declared.unit.Unit.{Unit as Code}
use Rattle.im_block.specs.Shape.{sum_of}
use Rattle.im_block.specs.Wellformed.{Takes, LineThere, IsBlock, IsFunction}
use Rattle.im_frame.specs.declared.layout.Layout.{Layout}
use Rattle.im_alloc_placed.specs.Placed.{IsPlacedFunction}
use Rattle.im_select.specs.Given.{Given}
use Rattle.im_select.specs.Places.{CallsBelow}
use Rattle.im_select.specs.Selects.{IsClosedBlock, IsSelectable, IsSelection}
use Rattle.im_link_laws.specs.Program.{IsFunctionPart, IsProgram, part_of, first_label, start_code}
use Rattle.im_select_assemble.specs.declared.program.Program.{Program}
use Rattle.im_select_assemble.specs.Assembled.{IsAssemblable, Adds, IsRuntime, IsNextLabel, AddsFunction, AddsFunctions}
use Rattle.im_select_assemble.proofs.Parts.{kept, longer, code_kept, code_new, adds_kept}

all_at : {X : Type 0} (P : X → Type 0) (xs : List X) (k : ℕ) (x : X) → All P xs → slice_get xs k ≡ Some x → P x
all_at P xs k x h e = subst P (get_or_from_slice_get xs k x x e) (h k x (slice_get_within xs k x e))

sum_more : {X : Type 0} (w : X → ℕ) (xs : List X) (i : ℕ) (x : X) → slice_get xs i ≡ Some x → sum_of w (take (suc i) xs) ≡ sum_of w (take i xs) + w x
sum_more w [] i x e = absurd cc
sum_more w (y ∷ ys) zero x e = let same : y ≡ x = cc in let q : w y ≡ w x = ap w same in omega arith
sum_more w (y ∷ ys) (suc i) x e = let r = sum_more w ys i x e in omega arith

pub label_more : (functions : List Function) (i : ℕ) (f : Function) → slice_get functions i ≡ Some f → first_label functions (i + 1) ≡ first_label functions i + length f.blocks.items
label_more functions i f e =
    let q : suc i ≡ i + 1 = omega arith in
    let s = sum_more (λ (z : Function). length z.blocks.items) functions i f e in
    let t : sum_of (λ (z : Function). length z.blocks.items) (take (suc i) functions) ≡ sum_of (λ (z : Function). length z.blocks.items) (take (i + 1) functions) = ap (λ z. sum_of (λ (h : Function). length h.blocks.items) (take z functions)) q in
    omega arith

pub at_turn : (functions : List Function) (i k : ℕ) (f : Function) → i ≡ k → k < length functions → f ≡ get_or functions k f → slice_get functions i ≡ Some f
at_turn functions i k f same below is = ap (slice_get functions) same ∙ slice_get_read functions (length functions) k f refl below is

pub label_on : (functions : List Function) (i : ℕ) (f : Function) (first next : ℕ) → slice_get functions i ≡ Some f → first ≡ first_label functions i → next ≡ first + length f.blocks.items → next ≡ first_label functions (i + 1)
label_on functions i f first next e s n = let more = label_more functions i f e in omega arith

takes_below : (functions : List Function) (i count : ℕ) → Takes (slice_get functions i) count → i < length functions
takes_below functions i count h = elim (slice_get_cases functions i).1 [
  | inl c ↦ c.1
  | inr c ↦ absurd (subst (λ o. Takes o count) c.1 h)
]

calls_below : (functions : List Function) (line : Line) → LineThere functions line → CallsBelow (length functions) line
calls_below functions (Call to function first count) h = takes_below functions function count h
calls_below functions line h = tt

closed_of : (functions : List Function) (given : Given) (block : Block) → given.functions ≡ length functions → IsBlock functions given.function block → IsClosedBlock given block
closed_of functions given block e b = record {
  calls = λ k d h. subst (λ z. CallsBelow z (get_or block.lines.items k d)) (sym e) (calls_below functions (get_or block.lines.items k d) (b.lines_there k d h));
  edges = b.exit_there;
}

pub selectable_of : (u : Code) (program : Program) (fs : List Function) (i functions first : ℕ) (f : Function) (l : Layout) → IsAssemblable u program → fs ≡ u.functions.items → slice_get fs i ≡ Some f → slice_get program.layouts.now i ≡ Some l → functions ≡ length fs → first ≡ first_label fs i → IsNextLabel fs i → IsSelectable (record { statics = program.statics.now; functions = functions; function = f; layout = l; first_block = first }) i
selectable_of u program fs i functions first f l a same e g n s next =
    let given : Given = record { statics = program.statics.now; functions = functions; function = f; layout = l; first_block = first } in
    let there : slice_get u.functions.items i ≡ Some f = ap (λ z. slice_get z i) (sym same) ∙ e in
    let all : functions ≡ length u.functions.items = n ∙ ap (length {A = Function}) same in
    let well : IsFunction u.functions.items f = all_at (IsFunction u.functions.items) u.functions.items i f a.well_formed.functions there in
    let more = label_more fs i f e in
    let numbered = a.well_formed.numbered i f there in
    let count = a.statics in
    let within = slice_get_within fs i f e in
    record {
      places = record { low = a.low; first = omega arith; layout = a.layouts i f l there g; entries = omega arith; blocks = omega arith };
      placed = subst (λ z. IsPlacedFunction z f) (sym count) (all_at (IsPlacedFunction (length u.statics.items)) u.functions.items i f a.placed.functions there);
      number = omega arith;
      entry = well.entry;
      closed = λ k d h. closed_of u.functions.items given (get_or f.blocks.items k d) all (well.blocks k d h);
    }

pub function_part : (fs : List Function) (program : Program) (i functions first : ℕ) (f : Function) (l : Layout) (old new : List Part) (code : List CodeLine) → slice_get fs i ≡ Some f → slice_get program.layouts.now i ≡ Some l → functions ≡ length fs → first ≡ first_label fs i → IsSelectable (record { statics = program.statics.now; functions = functions; function = f; layout = l; first_block = first }) i → IsSelection (record { statics = program.statics.now; functions = functions; function = f; layout = l; first_block = first }) i code → Adds old new code → AddsFunction fs program i old new
function_part fs program i functions first f l old new code e g n s selectable selection adds =
    let made : ℕ → ℕ → Given = λ x y. record { statics = program.statics.now; functions = x; function = f; layout = l; first_block = y } in
    let same : made functions first ≡ made (length fs) (first_label fs i) = ap (λ x. made x first) n ∙ ap (made (length fs)) s in
    record {
      part = adds.part;
      added = adds.added;
      function = λ h t count. let is : f ≡ h = (let q : Some f ≡ Some h = sym e ∙ t in cc) in
          subst (λ z. IsFunctionPart fs program.statics.now program.layouts.now new i z) is
          (record {
            layout = l;
            is_layout = g;
            code = code;
            selectable = subst (λ z. IsSelectable z i) same selectable;
            selection = subst (λ z. IsSelection z i code) same selection;
            there = code_new old new (part_of i) code adds count;
          });
    }

part_kept : (fs : List Function) (program : Program) (old new : List Part) (i : ℕ) (f : Function) → ((q : ℕ) (part : Part) → slice_get old q ≡ Some part → slice_get new q ≡ Some part) → IsFunctionPart fs program.statics.now program.layouts.now old i f → IsFunctionPart fs program.statics.now program.layouts.now new i f
part_kept fs program old new i f k p = record { layout = p.layout; is_layout = p.is_layout; code = p.code; selectable = p.selectable; selection = p.selection; there = code_kept old new (part_of i) p.code k p.there }

pub no_functions : (fs : List Function) (program : Program) (old : List Part) → AddsFunctions fs program 0 old old
no_functions fs program old = record { count = omega arith; kept = λ q part e. e; each = λ l i f h e. absurd (omega arith) }

pub functions_on : (fs : List Function) (program : Program) (n : ℕ) (old now new : List Part) → AddsFunctions fs program n old now → AddsFunction fs program n now new → AddsFunctions fs program (n + 1) old new
functions_on fs program n old now new all one =
    let longer_ = longer now new one.part one.added in
    let count = all.count in
    let on : (q : ℕ) (part : Part) → slice_get now q ≡ Some part → slice_get new q ≡ Some part = λ q part e. kept now new (one.part ∷ []) q part one.added e in
    record {
      count = omega arith;
      kept = λ q part e. on q part (all.kept q part e);
      each = λ five i f h e. by five i f h e on (nat_lt i n) refl;
    }
  where
    by : length old ≡ 5 → (i : ℕ) (f : Function) → i < n + 1 → slice_get fs i ≡ Some f → ((q : ℕ) (part : Part) → slice_get now q ≡ Some part → slice_get new q ≡ Some part) → (b : Bool) → nat_lt i n ≡ b → IsFunctionPart fs program.statics.now program.layouts.now new i f
    by five i f h e on true t = part_kept fs program now new i f on (all.each five i f (grind (arith, nat_tests)) e)
    by five i f h e on false t =
        let same : n ≡ i = (let q : n ≤ i = grind (arith, nat_tests) in omega arith) in
        let count = all.count in
        subst (λ z. IsFunctionPart fs program.statics.now program.layouts.now new z f) same
        (one.function f (ap (slice_get fs) same ∙ e) (omega arith))

pub program_of : (u : Code) (program : Program) (first second third : List Part) → IsAssemblable u program → IsRuntime first → AddsFunctions u.functions.items program (length u.functions.items) first second → Adds second third (start_code u.main) → IsProgram u program.statics.now program.layouts.now third
program_of u program first second third a r fs s =
    let n : ℕ = length u.functions.items in
    let five = r.count in
    let more = fs.count in
    let last = longer second third s.part s.added in
    let on : (q : ℕ) (part : Part) → slice_get first q ≡ Some part → slice_get third q ≡ Some part = λ q part e. adds_kept second third (start_code u.main) s q part (fs.kept q part e) in
    record {
      count = omega arith;
      recovers = code_kept first third 0 _ on r.recovers;
      saves = code_kept first third 1 _ on r.saves;
      gets = code_kept first third 2 _ on r.gets;
      puts = code_kept first third 3 _ on r.puts;
      stops = code_kept first third 4 _ on r.stops;
      functions = λ i f e. part_kept u.functions.items program second third i f (adds_kept second third (start_code u.main) s) (fs.each five i f (slice_get_within u.functions.items i f e) e);
      begins = code_new second third (part_of n) (start_code u.main) s (omega arith);
      main = takes_below u.functions.items u.main 0 a.well_formed.main;
    }

-- A function's part is what the law of selection asks of a function.
use Rattle.std.proofs.Common.{◌≡◌, ◌<◌, ℕ, zero, suc, ◌+◌, ◌-◌, ◌*◌, Bool, true, false, List, [], ◌∷◌, Option, Some, None, inl, inr, length, refl, sym, ap, ◌∙◌, subst, arith}
use Rattle.std.specs.Prelude.{nat_lt, nat_le, if◌then◌else◌, slice_get, slice_index}
use Rattle.std.proofs.lemmas.Bool.Decides.{nat_tests}
use Rattle.std.proofs.lemmas.Option.{slice_get_cases, slice_get_within}
use Rattle.im_mem.specs.Memory.{Mem, Stands}
use Rattle.im_rv.specs.declared.code.Part.{Part}
use Rattle.im_rv.specs.declared.code.Code.{Code as Linked}
use Rattle.im_rv.specs.Decode.{Line as Instruction}
use Rattle.im_rv.specs.Lines.{CodeLine}
use Rattle.im_rv.specs.Code.{address}
use Rattle.im_rv_reach.specs.Instructions.{Holds}
use Rattle.im_link.specs.Parts.{first_of}
use Rattle.im_link.specs.Code.{IsLinkable, IsLinked as IsLinkedCode}
use Rattle.im_rtlib.specs.Routines.{service_label, stack_label}
use Rattle.im_rtlib_laws.specs.Standing.{aimed_at}
use Rattle.im_store.specs.Objects.{Name, Named, Slot, Shape, shape_of}
use Rattle.im_block.specs.declared.code.Line.{Line}
use Rattle.im_block.specs.declared.code.Exit.{Exit}
use Rattle.im_block.specs.declared.code.Exit.TheVariants.{Jump, Turn, Branch, Return}
use Rattle.im_block.specs.declared.code.Block.{Block}
use Rattle.im_block.specs.declared.unit.Function.{Function}
use Rattle.im_block.specs.declared.unit.Unit.{Unit as Code}
use Rattle.im_block.specs.Wellformed.{ExitThere}
use Rattle.im_block.specs.Meaning.{Setting, shapes_of, shape_at, slot_shape}
use Rattle.im_alloc_placed.specs.Operands.{HasObject}
use Rattle.im_select.specs.Leads.{lead}
use Rattle.im_select_relation.specs.Linking.{Linking, frame_of}
use Rattle.im_select_relation.specs.Selected.{Test, nonzero, comparing, or_zero}
use Rattle.im_select_relation.specs.Linked.{FunctionAt}
use Rattle.im_select_relation.specs.Symbolic.{Lines, ContinuesIn, Falls, Leaps, TestedIn, Reached, Missed, Hopped, Skipped, ExitIn, JoinedIn, Decides, DecidesByZero, StandsIn, PrologueIn, IsSelected, IsLaid, spot_of, at_place}
use Rattle.im_select_relation.proofs.Lift.{lines, frame}
use Rattle.im_select.specs.Emitted.{entry_label}
use Rattle.im_select.specs.Selects.{Agrees, IsClosedBlock}
use Rattle.im_select.proofs.Machine.{all_at}
use Rattle.im_frame.specs.declared.layout.Layout.{Layout}
use Rattle.im_link_laws.specs.Program.{IsProgram, part_of, first_label, given_at}
use Rattle.im_link_laws.specs.Linking.{ArePlaces, entry_of, blocks_in, lead_in, block_of, save_of, linking_of}
use Rattle.im_link_laws.specs.Laws.{HasObjects}
use Rattle.im_link_laws.proofs.Standing.{climb, climb_is, stand_get}
use Rattle.im_link_laws.proofs.Runtimes.{label_place, code_stands}

spot_is : (base k : ℕ) → spot_of base k ≡ base + 4 * k
spot_is base zero = omega arith
spot_is base (suc k) = let h = spot_is base k in omega arith

same_aim : (place : ℕ → ℕ) (pc : ℕ) (l : Instruction) (t : Option ℕ) → aimed_at place pc l t ≡ at_place place pc l t
same_aim place pc l None = refl
same_aim place pc l (Some label) = refl

below : (a b : ℕ) → a < b → nat_lt a b ≡ true
below a b h = grind (arith, nat_tests)

pub entry_in : (functions : List Function) (i : ℕ) → i < length functions → entry_of functions i ≡ entry_label i
entry_in functions i h = ap (λ b. if b then entry_label i else stack_label) (below i (length functions) h)

block_in : (functions : List Function) (i b : ℕ) (f : Function) → slice_get functions i ≡ Some f → b < length f.blocks.items → block_of functions i b ≡ first_label functions i + lead f.blocks.items f.entry b
block_in functions i b f e h =
    let n : blocks_in (slice_get functions i) ≡ length f.blocks.items = ap blocks_in e in
    ap (λ t. if t then first_label functions i + lead_in (slice_get functions i) b else entry_of functions i) (below b (blocks_in (slice_get functions i)) (omega arith))
    ∙ ap (λ o. first_label functions i + lead_in o b) e

-- the labels of function i's lines, read for the whole program
abbrev pub lines_at : List Function → ℕ → List CodeLine → (Name → ℕ) → Lines
lines_at functions i code at =
    record { lines = code; at = at; block = block_of functions i; entry = entry_of functions; full = stack_label; checkpoint = save_of; serves = service_label }

object_there : (f : Function) (n : ℕ) → HasObject f n → (sh : Shape) × (shapes_of f (Named n) ≡ Some sh)
object_there f n h =
    let from = h.0 in
    let under = h.1 in
    let test : nat_le f.first_object n ≡ true = grind (arith, nat_tests) in
    elim (slice_get_cases f.objects.items (n - f.first_object)).1 [
      | inl c ↦ (shape_of c.0.size c.0.cells.items, ap (λ b. if b then shape_at (slice_get f.objects.items (n - f.first_object)) else None) test ∙ ap shape_at c.2)
      | inr c ↦ (let le = c.0 in absurd (omega arith))
    ]

agrees : (u : Code) (statics : List ℕ) (layouts : List Layout) (parts : List Part) (program : IsProgram u statics layouts parts) (p : Linking) (g : Setting) → HasObjects u statics layouts p g → (i : ℕ) (f : Function) (e : slice_get u.functions.items i ≡ Some f) → Agrees (lines_at u.functions.items i (program.functions i f e).code p.at) (given_at u.functions.items statics i f (program.functions i f e).layout)
agrees u statics layouts parts program p g objects i f e =
    let part = program.functions i f e in
    let places = part.selectable.places in
    let has = objects.frames i f part.layout e part.is_layout in
    record {
      statics = λ n h. objects.addresses n h ∙ sym (ap (λ b. if b then slice_index statics n else slice_index part.layout.places.items (n - f.first_object)) (below n (length statics) h));
      objects = λ n h.
          let o = object_there f n h in
          let first = places.first in
          let from = h.0 in
          let test : nat_lt n (length statics) ≡ false = grind (arith, nat_tests) in
          has.at (Named n) o.0 o.1 ∙ sym (ap (λ b. if b then slice_index statics n else slice_index part.layout.places.items (n - f.first_object)) test);
      slots = λ n h. has.at (Slot n) slot_shape (ap (λ b. if b then Some slot_shape else None) (below n f.slots h));
      blocks = λ b h. block_in u.functions.items i b f e h;
      entries = λ j h. entry_in u.functions.items j h;
      checkpoint = λ m o. ap (λ b. if b then m else stack_label) (below m 32 o.1);
      full = refl;
      serves = λ service. refl;
    }

-- ---- the lines that blocks begin with matter for blocks that are there alone

continues_same : (w : Lines) (s t : ℕ → ℕ) (count k b : ℕ) → ((b : ℕ) → b < count → s b ≡ t b) → b < count → ContinuesIn w s k b → ContinuesIn w t k b
continues_same w s t count k b same h (Falls e) = Falls (e ∙ same b h)
continues_same w s t count k b same h (Leaps j) = Leaps j

tested_same : (w : Lines) (s t : ℕ → ℕ) (count k : ℕ) (test : Test) (x y : ℕ) → ((b : ℕ) → b < count → s b ≡ t b) → x < count → y < count → TestedIn w s k test x y → TestedIn w t k test x y
tested_same w s t count k test x y same h g (Reached a c) = Reached a (continues_same w s t count (suc k) y same g c)
tested_same w s t count k test x y same h g (Missed a c) = Missed a (continues_same w s t count (suc k) x same h c)
tested_same w s t count k test x y same h g (Hopped a j c) = Hopped a j (continues_same w s t count (suc (suc k)) y same g c)
tested_same w s t count k test x y same h g (Skipped a j c) = Skipped a j (continues_same w s t count (suc (suc k)) x same h c)

exit_same : (w : Lines) (s t : ℕ → ℕ) (count room k : ℕ) (exit : Exit) → ((b : ℕ) → b < count → s b ≡ t b) → ExitThere count exit → ExitIn w s room k exit → ExitIn w t room k exit
exit_same w s t count room k (Jump b) same h a = continues_same w s t count k b same h a
exit_same w s t count room k (Turn b) same h a = a
exit_same w s t count room k (Branch on x y) same h a = (a.0, tested_same w s t count k (nonzero on) x y same h.0 h.1 a.1)
exit_same w s t count room k (Return from) same h a = a

joined_same : (w : Lines) (blocks : List Block) (s t : ℕ → ℕ) (count k : ℕ) (line : Line) (lines : List Line) (exit : Exit) → ((b : ℕ) → b < count → s b ≡ t b) → ExitThere count exit → JoinedIn w blocks s k line lines exit → JoinedIn w blocks t k line lines exit
joined_same w blocks s t count k line lines exit same h (Decides to op kind left right x y a b c d e f) = Decides to op kind left right x y a b c d e (tested_same w s t count k (comparing kind left right op) x y same h.0 h.1 f)
joined_same w blocks s t count k line lines exit same h (DecidesByZero first r to op kind left right x y is a b c d e f i way) = DecidesByZero first r to op kind left right x y is a b c d e f i (tested_same w s t count k (comparing kind (or_zero r left) (or_zero r right) op) x y same h.0 h.1 way)

stands_same : (w : Lines) (blocks : List Block) (s t : ℕ → ℕ) (count room k : ℕ) (lines : List Line) (exit : Exit) → ((b : ℕ) → b < count → s b ≡ t b) → ExitThere count exit → StandsIn w blocks s room k lines exit → StandsIn w blocks t room k lines exit
stands_same w blocks s t count room k [] exit same h a = exit_same w s t count room k exit same h a
stands_same w blocks s t count room k (line ∷ lines) exit same h (inl a) = inl (a.0, a.1, stands_same w blocks s t count room a.0 lines exit same h a.2)
stands_same w blocks s t count room k (line ∷ lines) exit same h (inr (inl a)) = inr (inl (joined_same w blocks s t count k line lines exit same h a))
stands_same w blocks s t count room k (line ∷ []) exit same h (inr (inr a)) = absurd a
stands_same w blocks s t count room k (line ∷ user ∷ lines) exit same h (inr (inr a)) = inr (inr (a.0, a.1, a.2, a.3, a.4, stands_same w blocks s t count room a.2 lines exit same h a.5))

prologue_same : (w : Lines) (s t : ℕ → ℕ) (count k room b : ℕ) → ((b : ℕ) → b < count → s b ≡ t b) → b < count → PrologueIn w s k room b → PrologueIn w t k room b
prologue_same w s t count k room b same h p = record { a = p.a; b = p.b; lowered = p.lowered; bound = p.bound; checked = p.checked; taken = p.taken; saved = p.saved; continues = continues_same w s t count (suc (suc p.b)) b same h p.continues }

selected_same : (w : Lines) (room : ℕ) (f : Function) (s t : ℕ → ℕ) → ((b : ℕ) → b < length f.blocks.items → s b ≡ t b) → f.entry < length f.blocks.items → ((b : ℕ) (block : Block) → slice_get f.blocks.items b ≡ Some block → ExitThere (length f.blocks.items) block.exit) → IsSelected w room f s → IsSelected w room f t
selected_same w room f s t same entry edges was = record {
  prologue = prologue_same w s t (length f.blocks.items) 0 room f.entry same entry was.prologue;
  blocks = λ b block e.
      subst (λ (z : ℕ). StandsIn w f.blocks.items t room z block.lines.items block.exit) (same b (slice_get_within f.blocks.items b block e))
      (stands_same w f.blocks.items s t (length f.blocks.items) room (s b) block.lines.items block.exit same (edges b block e) (was.blocks b block e));
}

pub function_at : (u : Code) (statics : List ℕ) (layouts : List Layout) (parts : List Part) (program : IsProgram u statics layouts parts) (linked : Linked) (place : ℕ → ℕ) (image : Mem) (g : Setting) (at size : Name → ℕ) → IsLinkable parts → IsLinkedCode parts linked → ArePlaces parts place → Stands image 4096 linked.words.items → HasObjects u statics layouts (linking_of u.functions.items place linked image at size) g → (i : ℕ) (f : Function) → slice_get u.functions.items i ≡ Some f → FunctionAt (linking_of u.functions.items place linked image at size) g i f
function_at u statics layouts parts program linked place image g at size linkable is_linked places s objects i f e =
    let fs : List Function = u.functions.items in
    let p : Linking = linking_of fs place linked image at size in
    let part = program.functions i f e in
    let sel = part.selection in
    let w : Lines = lines_at fs i part.code at in
    let count : ℕ = blocks_in (slice_get fs i) in
    let counted : count ≡ length f.blocks.items = ap blocks_in e in
    let starts : ℕ → ℕ = λ b. if nat_lt b count then sel.starts b else 0 in
    let first : ℕ = first_of parts (part_of i) in
    let within : i < length fs = slice_get_within fs i f e in
    let base : place (entry_of fs i) ≡ address first = ap place (entry_in fs i within) ∙ label_place parts place (part_of i) 0 (entry_label i) part.code places part.there sel.entry ∙ (omega arith) in
    let framed = frame p g i f part.layout part.selectable.places.layout (objects.frames i f part.layout e part.is_layout) (objects.sizes i part.layout part.is_layout) part.selectable.placed.registers part.selectable.placed.received in
    let was : IsSelected w part.layout.frame f sel.starts = sel.selected w refl (agrees u statics layouts parts program p g objects i f e) in
    let edges : (b : ℕ) (block : Block) → slice_get f.blocks.items b ≡ Some block → ExitThere (length f.blocks.items) block.exit = (λ b block t. (all_at (IsClosedBlock (given_at fs statics i f part.layout)) f.blocks.items b block part.selectable.closed t).edges) in
    let start_is : (b : ℕ) → b < length f.blocks.items → sel.starts b ≡ starts b = (λ b h. sym (ap (λ t. if t then sel.starts b else 0) (below b count (omega arith)))) in
    let selected : IsSelected w (frame_of g i) f starts =
    subst (λ (z : ℕ). IsSelected w z f starts) (sym (objects.sizes i part.layout part.is_layout)) (selected_same w part.layout.frame f sel.starts starts start_is part.selectable.entry edges was) in
    let there = code_stands image parts linked place linkable is_linked places s (part_of i) part.code part.there in
    let laid : IsLaid p i w place starts = record {
      each = λ k l target access cause h.
          let x : CodeLine = record { label = h.label; line = l; target = target; access = access; cause = cause } in
          let q : climb (address first) k ≡ spot_of (place (entry_of fs i)) k = (let a = climb_is (address first) k in let b = spot_is (place (entry_of fs i)) k in omega arith) in
          let held : Holds image (climb (address first) k) (aimed_at place (climb (address first) k) l target) = stand_get image place (address first) part.code k x there h.there in
          subst (λ (z : ℕ). Holds image z (at_place place z l target)) q (subst (Holds image (climb (address first) k)) (same_aim place (climb (address first) k) l target) held);
      small = places.small;
      starts_at = λ b. start_at b (nat_lt b count) refl;
      at = refl;
      block = λ b. refl;
      entry = λ n. refl;
      full = refl;
      checkpoint = λ m. refl;
      serves = λ service. refl;
    } in
    lines p g i f w place starts framed selected laid
  where
    start_at : (b : ℕ) (t : Bool) → nat_lt b (blocks_in (slice_get u.functions.items i)) ≡ t → place (if t then first_label u.functions.items i + lead_in (slice_get u.functions.items i) b else entry_of u.functions.items i) ≡ spot_of (place (entry_of u.functions.items i)) (if t then (program.functions i f e).selection.starts b else 0)
    start_at b true t =
        let fs : List Function = u.functions.items in
        let part = program.functions i f e in
        let n : blocks_in (slice_get fs i) ≡ length f.blocks.items = ap blocks_in e in
        let h : b < length f.blocks.items = (let q : b < blocks_in (slice_get fs i) = grind (arith, nat_tests) in omega arith) in
        let base : place (entry_of fs i) ≡ address (first_of parts (part_of i)) = ap place (entry_in fs i (slice_get_within fs i f e)) ∙ label_place parts place (part_of i) 0 (entry_label i) part.code places part.there part.selection.entry ∙ (omega arith) in
        let c = spot_is (place (entry_of fs i)) (part.selection.starts b) in
        ap (λ o. place (first_label fs i + lead_in o b)) e
        ∙ label_place parts place (part_of i) (part.selection.starts b) (first_label fs i + lead f.blocks.items f.entry b) part.code places part.there (part.selection.blocks b h) ∙ (omega arith)
    start_at b false t = refl

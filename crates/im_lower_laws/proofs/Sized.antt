-- The code of a well-typed program within the limits is ordered, names what is there, and is small.
use Rattle.std.proofs.Common.{◌≡◌, ◌⊎◌, inl, inr, ℕ, zero, suc, ◌+◌, ◌*◌, ◌<◌, ◌≤◌, ◌==◌, Bool, true, false, List, [], ◌∷◌, length, map, take, refl, ap, sym, ◌∙◌, subst, arith}
use Rattle.std.specs.Prelude.{if◌then◌else◌, Some, None, slice_get, slice_index_or, pos, All}
use Rattle.std.proofs.lemmas.Option.{slice_get-get_or}
use Rattle.std.proofs.lemmas.List.{length-map, length-take}
use Rattle.std.proofs.lemmas.Bool.Decides.{nat_tests}
use Rattle.im_typed.specs.declared.program.Func.{Func}
use Rattle.im_typed.specs.declared.program.Prog.{Prog}
use Rattle.im_typed.specs.Program as p
use Rattle.im_typed.specs.ProgramOf.{stmt_of, func_of, program_of}
use Rattle.im_typed.specs.Limits.{IsWithinLimits}
use Rattle.im_typed.specs.Typing.{Each, IsTypedFunc, IsWellTyped}
use Rattle.im_typed.specs.Counts.{func_nodes}
use Rattle.im_block.specs.declared.code.Block.{Block}
use Rattle.im_block.specs.declared.code.Line.{Line}
use Rattle.im_block.specs.declared.code.Line.TheVariants.{Put, PutNull, Copy, Convert, Unary, Not, Compute, Compare, Move, Distance, Address, Read, Write, Reload, Spill, Cut, Call, Serve}
use Rattle.im_block.specs.declared.code.Place.{Place}
use Rattle.im_block.specs.declared.code.Place.TheVariants.{Static, Local, Through}
use Rattle.im_block.specs.declared.code.Exit.{Exit}
use Rattle.im_block.specs.declared.code.Exit.TheVariants.{Jump, Turn, Branch, Return}
use Rattle.im_block.specs.declared.unit.Object.{Object}
use Rattle.im_block.specs.declared.unit.Function.{Function}
use Rattle.im_block.specs.declared.unit.Unit.{Unit as Code}
use Rattle.im_block.specs.Shape.{sum_of, cost, block_cost, turns_of}
use Rattle.im_block.specs.Wellformed.{PlaceWithin, LineWithin, ExitWithin, ExitThere, accesses_of_lines, accesses_of_blocks, accesses_of_functions}
use Rattle.im_alloc_placed.specs.Operands.{PlaceFrom}
use Rattle.im_alloc_placed.specs.Placeable.{LineFrom, ExitFrom}
use Rattle.im_lower_relation.specs.Codes.{Point}
use Rattle.im_lower_relation.specs.Lowered.{AreObjects, CallsRightly, kind_of_one, IsSized, AreSized}
use Rattle.im_lower_plain.specs.Made.{Made, point_of, above_place, above_line, above_exit, put, put_write, close}
use Rattle.im_lower_plain.specs.MakeStatement.{put_parameters, make_brace, make_statement}
use Rattle.im_lower_plain.specs.MakeUnit.{nothing_made, FunctionMade, FunctionsMade, UnitMade}
use Rattle.im_lower_plain.specs.MakeUnit.{objects_of}
use Rattle.im_lower_plain.proofs.Units.{placed, was_there}
use Rattle.im_lower_laws.proofs.Counting.{total, point_cost, point_turns, point_times, occurs, occurs_more}
use Rattle.im_lower_laws.proofs.Steps.{GoodLine, GoodPoint, Good, Numbered, Step, no_step, at_most, step_close, step_start}
use Rattle.im_lower_laws.proofs.LineSteps.{Good_register, GoodPlace, adds_put, adds_write}
use Rattle.im_lower_laws.proofs.ExpressionSteps.{Premises, HasObjects}
use Rattle.im_lower_laws.proofs.StatementSteps.{statement_positive, statement_adds}

-- registers from 0 on are all

place_from_zero : (low : ℕ) (place : Place) → PlaceFrom low place → PlaceFrom 0 place
place_from_zero low (Static object offset) h = tt
place_from_zero low (Local object offset) h = tt
place_from_zero low (Through pointer offset) h = omega arith

from_zero : (low : ℕ) (line : Line) → LineFrom low line → LineFrom 0 line
from_zero low (Put to z) h = omega arith
from_zero low (PutNull to) h = omega arith
from_zero low (Copy to from) h = (omega arith, omega arith)
from_zero low (Convert to kind from) h = (omega arith, omega arith)
from_zero low (Unary to op kind from) h = (omega arith, omega arith)
from_zero low (Not to from) h = (omega arith, omega arith)
from_zero low (Compute to op kind left right) h = (omega arith, omega arith, omega arith)
from_zero low (Compare to op kind left right) h = (omega arith, omega arith, omega arith)
from_zero low (Move to size back pointer by) h = (omega arith, omega arith, omega arith)
from_zero low (Distance to size left right) h = (omega arith, omega arith, omega arith)
from_zero low (Address to place) h = (omega arith, place_from_zero low place h.1)
from_zero low (Read to place kind access) h = (omega arith, place_from_zero low place h.1)
from_zero low (Write place kind from access) h = (place_from_zero low place h.0, omega arith)
from_zero low (Reload to slot access) h = omega arith
from_zero low (Spill slot from access) h = omega arith
from_zero low (Cut cause) h = tt
from_zero low (Call to i first count) h = (omega arith, omega arith)
from_zero low (Serve to service None) h = omega arith
from_zero low (Serve to service (Some from)) h = (omega arith, omega arith)

exit_from_zero : (low : ℕ) (exit : Exit) → ExitFrom low exit → ExitFrom 0 exit
exit_from_zero low (Jump b) h = tt
exit_from_zero low (Turn b) h = tt
exit_from_zero low (Branch on x y) h = omega arith
exit_from_zero low (Return None) h = tt
exit_from_zero low (Return (Some r)) h = omega arith

-- registers below a number

place_within : (n : ℕ) (place : Place) → above_place place ≤ n → PlaceWithin n place
place_within n (Static object offset) h = tt
place_within n (Local object offset) h = tt
place_within n (Through pointer offset) h = omega arith

line_within : (n : ℕ) (line : Line) → above_line line ≤ n → LineWithin n line
line_within n (Put to z) h = omega arith
line_within n (PutNull to) h = omega arith
line_within n (Copy to from) h = (omega arith, omega arith)
line_within n (Convert to kind from) h = (omega arith, omega arith)
line_within n (Unary to op kind from) h = (omega arith, omega arith)
line_within n (Not to from) h = (omega arith, omega arith)
line_within n (Compute to op kind left right) h = (omega arith, omega arith, omega arith)
line_within n (Compare to op kind left right) h = (omega arith, omega arith, omega arith)
line_within n (Move to size back pointer by) h = (omega arith, omega arith, omega arith)
line_within n (Distance to size left right) h = (omega arith, omega arith, omega arith)
line_within n (Address to place) h = (omega arith, place_within n place (omega arith))
line_within n (Read to place kind access) h = (omega arith, place_within n place (omega arith))
line_within n (Write place kind from access) h = (place_within n place (omega arith), omega arith)
line_within n (Reload to slot access) h = omega arith
line_within n (Spill slot from access) h = omega arith
line_within n (Cut cause) h = tt
line_within n (Call to i first count) h = (omega arith, omega arith)
line_within n (Serve to service None) h = omega arith
line_within n (Serve to service (Some from)) h = (omega arith, omega arith)

exit_within : (n : ℕ) (exit : Exit) → above_exit exit ≤ n → ExitWithin n exit
exit_within n (Jump b) h = tt
exit_within n (Turn b) h = tt
exit_within n (Branch on x y) h = omega arith
exit_within n (Return None) h = tt
exit_within n (Return (Some r)) h = omega arith

-- facts of each element

pub all_of : {X : Type 0} (P : X → Type 0) (xs : List X) → ((i : ℕ) (x : X) → slice_get xs i ≡ Some x → P x) → All P xs
all_of P xs h = λ k d lt. h k (slice_index_or xs k d) (slice_get-get_or xs k d lt)

pub each_all : {X : Type 0} (P Q : X → Type 0) (xs : List X) → ((x : X) → P x → Q x) → Each P xs → All Q xs
each_all {X = X} P Q xs f h = all_of Q xs (λ i x e. f x (got xs i x h e))
  where
    got : (xs : List X) (i : ℕ) (x : X) → Each P xs → slice_get xs i ≡ Some x → P x
    got [] i x h e = absurd (cc)
    got (y ∷ ys) zero x h e = let same : y ≡ x = cc in subst P same h.0
    got (y ∷ ys) (suc i) x h e = got ys i x h.1 e

pub got_point : (bs : List Block) (b : ℕ) (block : Block) → slice_get bs b ≡ Some block → slice_get (map {A = Block} point_of bs) b ≡ Some (point_of block)
got_point [] b block e = absurd (cc)
got_point (x ∷ xs) zero block e = let same : x ≡ block = cc in ap (λ z. Some (point_of z)) same
got_point (x ∷ xs) (suc b) block e = got_point xs b block e

-- sums over blocks

costs_same : (bs : List Block) → sum_of block_cost bs ≡ sum_of point_cost (map {A = Block} point_of bs)
costs_same [] = refl
costs_same (x ∷ xs) = ap (λ n. block_cost x + n) (costs_same xs)

turns_same : (bs : List Block) → sum_of (λ (b : Block). turns_of b.exit) bs ≡ sum_of point_turns (map {A = Block} point_of bs)
turns_same [] = refl
turns_same (x ∷ xs) = ap (λ n. turns_of x.exit + n) (turns_same xs)

times_same : (a : ℕ) (bs : List Block) → occurs a (accesses_of_blocks bs) ≡ sum_of (point_times a) (map {A = Block} point_of bs)
times_same a [] = refl
times_same a (x ∷ xs) =
    occurs_more a (accesses_of_lines x.lines.items) (accesses_of_blocks xs)
    ∙ ap (λ n. occurs a (accesses_of_lines x.lines.items) + n) (times_same a xs)

-- numbers that occur once are apart

abbrev is_it : ℕ → ℕ → ℕ
is_it x a = if x == a then 1 else 0

same_test : (a : ℕ) → is_it a a ≡ 1
same_test a = grind (arith, nat_tests)

has_one : (xs : List ℕ) (i a : ℕ) → slice_get xs i ≡ Some a → 1 ≤ occurs a xs
has_one [] i a e = absurd (cc)
has_one (x ∷ xs) zero a e =
    let same : x ≡ a = cc in
    let one : is_it x a ≡ 1 = subst (λ y. is_it y a ≡ 1) (sym same) (same_test a) in
    omega arith
has_one (x ∷ xs) (suc i) a e = let h = has_one xs i a e in omega arith

apart_of : (xs : List ℕ) → ((a : ℕ) → occurs a xs ≤ 1) → (i j a : ℕ) → slice_get xs i ≡ Some a → slice_get xs j ≡ Some a → i ≡ j
apart_of [] once i j a ei ej = absurd (cc)
apart_of (x ∷ xs) once zero zero a ei ej = refl
apart_of (x ∷ xs) once zero (suc j) a ei ej =
    let same : x ≡ a = cc in
    let one : is_it x a ≡ 1 = subst (λ y. is_it y a ≡ 1) (sym same) (same_test a) in
    let more = has_one xs j a ej in
    let most = once a in
    absurd (omega arith)
apart_of (x ∷ xs) once (suc i) zero a ei ej =
    let same : x ≡ a = cc in
    let one : is_it x a ≡ 1 = subst (λ y. is_it y a ≡ 1) (sym same) (same_test a) in
    let more = has_one xs i a ei in
    let most = once a in
    absurd (omega arith)
apart_of (x ∷ xs) once (suc i) (suc j) a ei ej =
    ap suc (apart_of xs (λ b. let most = once b in omega arith) i j a ei ej)

-- before the code

pub nothing_good : (g : p.Prog) (code : Function) (low accesses : ℕ) → Good g code low (nothing_made accesses)
nothing_good g code low accesses =
    record {
      blocks = λ b p e. absurd (cc);
      point = record { lines = tt; exit = record { descends = tt; there = tt; within = omega arith; from = tt } };
    }

nothing_numbered : (accesses : ℕ) → Numbered accesses (nothing_made accesses)
nothing_numbered accesses =
    record { begun = omega arith; once = λ a. omega arith; new = λ a le. refl; old = λ a lt. refl }

pub lines_from_zero : (g : p.Prog) (code : Function) (low registers : ℕ) (lines : List Line) → Each (GoodLine g code low registers) lines → Each (GoodLine g code 0 registers) lines
lines_from_zero g code low registers [] h = tt
lines_from_zero g code low registers (line ∷ lines) h =
    let one = h.0 in
    let fits = one.fits in
    (record { fits = record { small = fits.small; calls = fits.calls; from = from_zero low line fits.from; uncut = fits.uncut; placeable = fits.placeable }; within = one.within }, lines_from_zero g code low registers lines h.1)

pub point_from_zero : (g : p.Prog) (code : Function) (low blocks registers b : ℕ) (q : Point) → GoodPoint g code low blocks registers b q → GoodPoint g code 0 blocks registers b q
point_from_zero g code low blocks registers b q h =
    let exit = h.exit in
    record {
      lines = lines_from_zero g code low registers q.rest h.lines;
      exit = record { descends = exit.descends; there = exit.there; within = exit.within; from = exit_from_zero low q.exit exit.from };
    }

pub good_from_zero : (g : p.Prog) (code : Function) (low : ℕ) (m : Made) → Good g code low m → Good g code 0 m
good_from_zero g code low m h =
    record {
      blocks = λ b q e. point_from_zero g code low (length m.blocks) m.registers b q (h.blocks b q e);
      point = point_from_zero g code low (length m.blocks) m.registers (length m.blocks) m.point h.point;
    }

pub parameters_add : (g : p.Prog) (code : Function) (limit object from : ℕ) (os : List Object) (c t : ℕ) (m n : Made) → code.first_object ≤ object → object + length os ≤ code.first_object + length code.objects.items → from + length os ≤ limit → Step g code 0 limit c t m n → Step g code 0 limit (c + 12 * length os) t m (put_parameters object from os n)
parameters_add g code limit object from [] c t m n low high le h = at_most g code 0 limit (c + 12 * 0) t (omega arith) (omega arith) h
parameters_add g code limit object from (o ∷ os) c t m n low high le h =
    let r : Good_register 0 limit from = record { from = omega arith; below = omega arith } in
    let next : code.first_object ≤ object + 1 = omega arith in
    let rest : object + 1 + length os ≤ code.first_object + length code.objects.items = omega arith in
    let here : object < code.first_object + length code.objects.items = omega arith in
    let place : GoodPlace (length g.statics) code 0 limit (Local object 0) = record { from = tt; below = omega arith; one = omega arith; exists = ((low, here), omega arith) } in
    at_most g code 0 limit (c + 12 * length (o ∷ os)) t (omega arith) (omega arith)
    (adds_write g code 0 limit (Local object 0) (kind_of_one o.cells.items) from r place (parameters_add g code limit (object + 1) (from + 1) os c t m n next rest (omega arith) h))

-- parameters have registers
received : (object from : ℕ) (o : Object) (os : List Object) (n : Made) → from + length (o ∷ os) ≤ (put_parameters object from (o ∷ os) n).registers
unfolding put put_write
received object from o [] n = omega arith
received object from o (q ∷ os) n = let h = received (object + 1) (from + 1) q os n in omega arith

received_all : (params : ℕ) (object : ℕ) (os : List Object) (n : Made) → params ≤ length os → params ≤ (put_parameters object 0 (take params os) n).registers
received_all zero object os n le = omega arith
received_all (suc params) object [] n le = absurd (omega arith)
received_all (suc params) object (o ∷ os) n le =
    let h = received object 0 o (take params os) n in
    let l = length-take params os in
    omega arith

close_registers : (m : Made) → (close m).registers ≡ m.registers
unfolding close
close_registers m = refl

close_turns : (m : Made) → total point_turns (close m) ≡ sum_of point_turns (close m).blocks
unfolding close
close_turns m = omega arith

close_times : (a : ℕ) (m : Made) → total (point_times a) (close m) ≡ sum_of (point_times a) (close m).blocks
unfolding close
close_times a m = omega arith

pub brace_adds : (g : p.Prog) (code : Function) (low limit : ℕ) (is_main : Bool) (m : Made) → low + 1 ≤ limit → Step g code low limit 17 0 m (make_brace low is_main m)
brace_adds g code low limit true m le =
    let r : Good_register low limit low = record { from = omega arith; below = le } in
    at_most g code low limit 17 0 (omega arith) (omega arith)
    (adds_put g code low limit low (pos 0) r (step_start g code low limit (Return (Some low)) 10 0 tt tt (omega arith) (omega arith) (omega arith) (omega arith) (no_step g code low limit m)))
brace_adds g code low limit false m le =
    at_most g code low limit 17 0 (omega arith) (omega arith)
    (step_start g code low limit (Return None) 10 0 tt tt tt (omega arith) (omega arith) (omega arith) (no_step g code low limit m))

pub objects_length : (xs : List p.LocalObject) (os : List Object) → AreObjects xs os → length os ≡ length xs
objects_length [] [] are = refl
objects_length [] (o ∷ os) are = absurd are
objects_length (x ∷ xs) [] are = absurd are
objects_length (x ∷ xs) (o ∷ os) are = ap suc (objects_length xs os are.2)

-- a function, with the numbers of its accesses
pub record FunctionSized (g : p.Prog) (f : p.Func) (accesses : ℕ) (made : Function) (next : ℕ) : Type 0 where
  pub sized : IsSized g f made
  begun : accesses ≤ next
  once : (a : ℕ) → occurs a (accesses_of_blocks made.blocks.items) ≤ 1
  old : (a : ℕ) → a < accesses → occurs a (accesses_of_blocks made.blocks.items) ≡ 0
  new : (a : ℕ) → next ≤ a → occurs a (accesses_of_blocks made.blocks.items) ≡ 0

pub function_sized : (g : Prog) (f : Func) (is_main : Bool) (first accesses : ℕ) (made : Function) (next : ℕ) → FunctionMade g f is_main first accesses made next → Premises (program_of g) → IsTypedFunc (program_of g) (func_of g.types f) → FunctionSized (program_of g) (func_of g.types f) accesses made next
function_sized g f is_main first accesses made next h premises typed =
    let G = program_of g in
    let F = func_of g.types f in
    let low = f.params in
    let os = made.objects.items in
    let body = stmt_of g.types f.body in
    let limit = func_nodes F in
    let begin = nothing_made accesses in
    let braced = make_brace low is_main begin in
    let done = make_statement G first low os body 0 0 braced in
    let all = put_parameters first 0 (take low os) done in
    let last = close all in
    let fewer = typed.0 in
    let positive = statement_positive body in
    let there = objects_length F.objects os h.objects in
    let taken = length-take low os in
    let begun = h.first_object in
    let objects : HasObjects F made first = record { begun = h.first_object; count = there } in
    let laid = typed.1 in
    let brace_step = brace_adds G made low limit is_main begin (omega arith) in
    let body_step = statement_adds G F made first low limit premises objects laid os h.objects body false false 0 0 17 0 begin braced typed.3 (λ x. absurd (cc)) (λ x. absurd (cc)) (omega arith) brace_step in
    let end_step = step_close G made 0 limit (parameters_add G made limit first 0 (take low os) 0 0 done done (omega arith) (omega arith) (omega arith) (no_step G made 0 limit done)) in
    let good : Good G made 0 last = end_step.good (good_from_zero G made low done (body_step.good (nothing_good G made low accesses))) in
    let numbered : Numbered accesses last = end_step.numbered accesses (body_step.numbered accesses (nothing_numbered accesses)) in
    let body_cost = body_step.cost in
    let end_cost = end_step.cost in
    let body_turns = body_step.turns in
    let end_turns = end_step.turns in
    let few : last.registers ≤ limit = end_step.few (body_step.few (omega arith)) in
    let registers = h.register_count in
    let got = received_all low first os done (omega arith) in
    let same_registers = close_registers all in
    let length_is : length made.blocks.items ≡ length last.blocks = sym (length-map {A = Block} made.blocks.items point_of) ∙ ap (λ (ps : List Point). length ps) h.blocks in
    let costs = costs_same made.blocks.items ∙ ap (λ (ps : List Point). sum_of point_cost ps) h.blocks in
    let turns = turns_same made.blocks.items ∙ ap (λ (ps : List Point). sum_of point_turns ps) h.blocks in
    let all_turns = close_turns all in
    let times = λ (a : ℕ). times_same a made.blocks.items ∙ ap (λ (ps : List Point). sum_of (point_times a) ps) h.blocks ∙ sym (close_times a all) in
    let point = λ (b : ℕ) (block : Block) (e : slice_get made.blocks.items b ≡ Some block). good.blocks b (point_of block) (subst (λ ps. slice_get ps b ≡ Some (point_of block)) h.blocks (got_point made.blocks.items b block e)) in
    let following = h.following in
    record {
      sized = record {
        ordered = record { each = λ b block e. (point b block e).exit.descends };
        exits_there = all_of (λ (b : Block). ExitThere (length made.blocks.items) b.exit) made.blocks.items (λ b block e. subst (λ n. ExitThere n block.exit) (sym length_is) (point b block e).exit.there);
        lines_within = all_of (λ (b : Block). All (LineWithin made.register_count) b.lines.items) made.blocks.items (λ b block e. each_all (GoodLine G made 0 last.registers) (LineWithin made.register_count) block.lines.items (λ line good. let within = good.within in line_within made.register_count line (omega arith)) (point b block e).lines);
        exits_within = all_of (λ (b : Block). ExitWithin made.register_count b.exit) made.blocks.items (λ b block e. let within = (point b block e).exit.within in exit_within made.register_count block.exit (omega arith));
        received = let same = h.parameters in omega arith;
        few_registers = omega arith;
        few_turns = omega arith;
        small_lines = all_of (λ (b : Block). All (λ (line : Line). cost line ≤ 50) b.lines.items) made.blocks.items (λ b block e. each_all (GoodLine G made 0 last.registers) (λ (line : Line). cost line ≤ 50) block.lines.items (λ line good. good.fits.small) (point b block e).lines);
        small = omega arith;
        calls = λ typed. all_of (λ (b : Block). All (CallsRightly G) b.lines.items) made.blocks.items (λ b block e. each_all (GoodLine G made 0 last.registers) (CallsRightly G) block.lines.items (λ line good. good.fits.calls) (point b block e).lines);
      };
      begun = let from = numbered.begun in omega arith;
      once = λ a. let e = times a in let o = numbered.once a in omega arith;
      old = λ a lt. let e = times a in let o = numbered.old a lt in omega arith;
      new = λ a le. let e = times a in let o = numbered.new a (let more : last.accesses ≤ a = omega arith in more) in omega arith;
    }

-- all functions

record FunctionsNumbered (accesses last : ℕ) (cs : List Function) : Type 0 where
  begun : accesses ≤ last
  once : (a : ℕ) → occurs a (accesses_of_functions cs) ≤ 1
  old : (a : ℕ) → a < accesses → occurs a (accesses_of_functions cs) ≡ 0
  new : (a : ℕ) → last ≤ a → occurs a (accesses_of_functions cs) ≡ 0

less_or : (a n : ℕ) → (a < n) ⊎ (n ≤ a)
less_or zero zero = inr (omega arith)
less_or zero (suc n) = inl (omega arith)
less_or (suc a) zero = inr (omega arith)
less_or (suc a) (suc n) = next (less_or a n)
  where
    next : (a < n) ⊎ (n ≤ a) → (suc a < suc n) ⊎ (suc n ≤ suc a)
    next (inl h) = inl (omega arith)
    next (inr h) = inr (omega arith)

functions_numbered : (g : Prog) → Premises (program_of g) → (k first accesses last : ℕ) (fs : List Func) (cs : List Function) → Each (IsTypedFunc (program_of g)) (map {A = Func} (func_of g.types) fs) → FunctionsMade g k first accesses last fs cs → FunctionsNumbered accesses last cs
functions_numbered g premises k first accesses last [] [] typed h =
    record { begun = omega arith; once = λ a. omega arith; old = λ a lt. refl; new = λ a le. refl }
functions_numbered g premises k first accesses last [] (c ∷ cs) typed h = absurd h
functions_numbered g premises k first accesses last (f ∷ fs) [] typed h = absurd h
functions_numbered g premises k first accesses last (f ∷ fs) (c ∷ cs) typed h =
    let next = h.0 in
    let one = function_sized g f (k == g.main) first accesses c next h.1 premises typed.0 in
    let rest = functions_numbered g premises (suc k) (first + length f.objects.items) next last fs cs typed.1 h.2 in
    let one_begun = one.begun in
    let rest_begun = rest.begun in
    let sums = λ (a : ℕ). occurs_more a (accesses_of_blocks c.blocks.items) (accesses_of_functions cs) in
    record {
      begun = omega arith;
      once = λ a. once next one rest a (less_or a next);
      old = λ a lt.
          let s = sums a in
          let x = one.old a lt in
          let y = rest.old a (let more : a < next = omega arith in more) in
          omega arith;
      new = λ a le.
          let s = sums a in
          let x = one.new a (let more : next ≤ a = omega arith in more) in
          let y = rest.new a le in
          omega arith;
    }
  where
    once : (next : ℕ) → FunctionSized (program_of g) (func_of g.types f) accesses c next → FunctionsNumbered next last cs → (a : ℕ) → (a < next) ⊎ (next ≤ a) → occurs a (accesses_of_functions (c ∷ cs)) ≤ 1
    once next one rest a (inl lt) =
        let s = occurs_more a (accesses_of_blocks c.blocks.items) (accesses_of_functions cs) in
        let x = one.once a in
        let y = rest.old a lt in
        omega arith
    once next one rest a (inr le) =
        let s = occurs_more a (accesses_of_blocks c.blocks.items) (accesses_of_functions cs) in
        let x = one.new a le in
        let y = rest.once a in
        omega arith

pub each_was : (P : p.Func → Type 0) (fs : List p.Func) (k : ℕ) (f : p.Func) → Each P fs → slice_get fs k ≡ Some f → P f
each_was P [] k f h e = absurd (cc)
each_was P (x ∷ xs) zero f h e = let same : x ≡ f = cc in subst P same h.0
each_was P (x ∷ xs) (suc k) f h e = each_was P xs k f h.1 e

pub unit_sized : (g : Prog) (u : Code) → UnitMade g u → IsWellTyped (program_of g) → IsWithinLimits (program_of g) → AreSized (program_of g) u
unit_sized g u h typed limits =
    let all = h.functions in
    let premises : Premises (program_of g) = record { funcs = typed.funcs; few = limits.params } in
    let numbered = functions_numbered g premises 0 (length g.statics.items) 0 all.last g.funcs.items u.functions.items typed.funcs all.each in
    record {
      functions = λ k f code ef ec.
          let before = was_there g.types g.funcs.items k f ef in
          let place = placed g 0 (length g.statics.items) 0 all.last g.funcs.items u.functions.items all.each k before.was code before.there ec in
          let one = each_was (IsTypedFunc (program_of g)) (program_of g).funcs k f typed.funcs ef in
          let was = subst (λ x. IsTypedFunc (program_of g) x) (sym before.same) one in
          subst (λ x. IsSized (program_of g) x code) before.same
          (function_sized g before.was ((0 + k) == g.main) (length g.statics.items + objects_of (take k g.funcs.items)) place.accesses code place.next place.made premises was).sized;
      accesses = record { each = apart_of (accesses_of_functions u.functions.items) numbered.once };
    }

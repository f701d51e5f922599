-- Placing can give the registers of the code homes, and no cut stands in it.
use Rattle.std.proofs.Common.{◌≡◌, ◌≢◌, inl, inr, ℕ, zero, suc, ◌+◌, ◌*◌, ◌/◌, ◌==◌, Bool, false, List, [], ◌∷◌, length, map, take, sum_by, refl, ap, sym, ◌∙◌, subst, arith}
use Rattle.std.specs.Prelude.{◌≤◌, Some, slice_get, All, None}
use Rattle.std.proofs.lemmas.List.{length-map, length-take}
use Rattle.std.proofs.lemmas.Option.{slice_get_within}
use Rattle.std.proofs.lemmas.List.Sums.{sum_by-cons}
use Rattle.im_typed.specs.declared.program.Func.{Func}
use Rattle.im_typed.specs.declared.program.Prog.{Prog}
use Rattle.im_typed.specs.Program as p
use Rattle.im_typed.specs.ProgramOf.{stmt_of, func_of, program_of}
use Rattle.im_typed.specs.Limits.{IsWithinLimits}
use Rattle.im_typed.specs.Typing.{Each, IsTypedFunc, IsWellTyped}
use Rattle.im_typed.specs.Counts.{func_nodes, slot_bytes}
use Rattle.im_block.specs.declared.code.Block.{Block}
use Rattle.im_block.specs.declared.code.Line.{Line}
use Rattle.im_block.specs.declared.code.Line.TheVariants.{Put, PutNull, Copy, Convert, Unary, Not, Compute, Compare, Move, Distance, Address, Read, Write, Reload, Spill, Cut, Call, Serve}
use Rattle.im_block.specs.declared.code.Exit.{Exit}
use Rattle.im_block.specs.declared.code.Exit.TheVariants.{Jump, Turn, Branch, Return}
use Rattle.im_block.specs.declared.unit.Object.{Object}
use Rattle.im_block.specs.declared.unit.Function.{Function}
use Rattle.im_block.specs.declared.unit.Unit.{Unit as Code}
use Rattle.im_block.specs.Meaning.{static_of}
use Rattle.im_store.specs.Statics.{StaticObject}
use Rattle.im_block.specs.Shape.{sum_of}
use Rattle.im_block.specs.Wellformed.{ExitThere}
use Rattle.im_block.specs.Paths.{IsEdge}
use Rattle.im_alloc_placed.specs.Placeable.{LineFrom, ExitFrom, Receives, IsPlaceableLine, IsPlaceableFunction, IsPlaceable, object_room, first_free}
use Rattle.im_alloc_placed.specs.Apart.{IsNoCut, AllUncut}
use Rattle.im_lower_relation.specs.Codes.{Point}
use Rattle.im_lower_relation.specs.Lowered.{AreObjects}
use Rattle.im_lower_plain.specs.Made.{Made, point_of, put, put_write, close}
use Rattle.im_lower_plain.specs.MakeStatement.{put_parameters, make_brace, make_statement}
use Rattle.im_lower_plain.specs.MakeUnit.{nothing_made, FunctionMade, FunctionsMade, UnitMade}
use Rattle.im_lower_plain.proofs.Growth.{close_blocks}
use Rattle.im_lower_laws.proofs.Steps.{IsUncut, GoodLine, Good, IsAtEnd, at_end, no_step, step_close}
use Rattle.im_lower_laws.proofs.ExpressionSteps.{Premises, HasObjects}
use Rattle.im_lower_laws.proofs.StatementSteps.{statement_positive, statement_adds}
use Rattle.im_lower_laws.proofs.Sized.{all_of, each_all, got_point, good_from_zero, nothing_good, parameters_add, brace_adds, objects_length, function_sized}

no_cut : (line : Line) → IsUncut line → IsNoCut line
no_cut (Put to z) h = λ e. absurd e
no_cut (PutNull to) h = λ e. absurd e
no_cut (Copy to from) h = λ e. absurd e
no_cut (Convert to kind from) h = λ e. absurd e
no_cut (Unary to op kind from) h = λ e. absurd e
no_cut (Not to from) h = λ e. absurd e
no_cut (Compute to op kind left right) h = λ e. absurd e
no_cut (Compare to op kind left right) h = λ e. absurd e
no_cut (Move to size back pointer by) h = λ e. absurd e
no_cut (Distance to size left right) h = λ e. absurd e
no_cut (Address to place) h = λ e. absurd e
no_cut (Read to place kind access) h = λ e. absurd e
no_cut (Write place kind from access) h = λ e. absurd e
no_cut (Reload to slot access) h = λ e. absurd e
no_cut (Spill slot from access) h = λ e. absurd e
no_cut (Cut cause) h = absurd h
no_cut (Call to i first count) h = λ e. absurd e
no_cut (Serve to service None) h = λ e. absurd e
no_cut (Serve to service (Some from)) h = λ e. absurd e

-- the entry's lines

lines_from : (g : p.Prog) (code : Function) (low registers : ℕ) (lines : List Line) → Each (GoodLine g code low registers) lines → Each (LineFrom low) lines
lines_from g code low registers [] h = tt
lines_from g code low registers (line ∷ lines) h = (h.0.fits.from, lines_from g code low registers lines h.1)

all_from : (low : ℕ) (lines : List Line) → Each (LineFrom low) lines → All (LineFrom low) lines
all_from low lines h = each_all (LineFrom low) (LineFrom low) lines (λ line k. k) h

receives_each : (low : ℕ) (lines : List Line) → Each (LineFrom low) lines → Receives low lines
receives_each low [] h = tt
receives_each low (Write place kind from access ∷ lines) h = receives_each low lines h.1
receives_each low (Cut cause ∷ lines) h = receives_each low lines h.1
receives_each low (Copy to from ∷ lines) h = (h.0.0, receives_each low lines h.1)
receives_each low (Convert to kind from ∷ lines) h = (h.0.0, receives_each low lines h.1)
receives_each low (line ∷ lines) h = all_from low (line ∷ lines) h

receives_parameters : (low object from : ℕ) (os : List Object) (n : Made) → Receives low n.point.rest → Receives low (put_parameters object from os n).point.rest
unfolding put put_write
receives_parameters low object from [] n h = h
receives_parameters low object from (o ∷ os) n h = receives_parameters low (object + 1) (from + 1) os n h

parameters_blocks : (object from : ℕ) (os : List Object) (n : Made) → (put_parameters object from os n).blocks ≡ n.blocks
unfolding put put_write
parameters_blocks object from [] n = refl
parameters_blocks object from (o ∷ os) n = parameters_blocks (object + 1) (from + 1) os n

parameters_exit : (object from : ℕ) (os : List Object) (n : Made) → (put_parameters object from os n).point.exit ≡ n.point.exit
unfolding put put_write
parameters_exit object from [] n = refl
parameters_exit object from (o ∷ os) n = parameters_exit (object + 1) (from + 1) os n

no_edge : (n : ℕ) (exit : Exit) → ExitThere n exit → IsEdge exit n → ⊥
no_edge n (Jump c) h e = absurd (omega arith)
no_edge n (Turn c) h e = absurd (omega arith)
no_edge n (Branch on x y) h (inl e) = let one = h.0 in absurd (omega arith)
no_edge n (Branch on x y) h (inr e) = let one = h.1 in absurd (omega arith)
no_edge n (Return from) h e = e

objects_need : (xs : List p.LocalObject) (os : List Object) → AreObjects xs os → sum_of object_room os ≤ sum_by slot_bytes xs
objects_need [] [] are = omega arith
objects_need [] (o ∷ os) are = absurd are
objects_need (x ∷ xs) [] are = absurd are
objects_need (x ∷ xs) (o ∷ os) are =
    let size = are.0 in
    let one : (o.size + 3) / 4 * 4 + 4 ≡ slot_bytes x = ap (λ n. (n + 3) / 4 * 4 + 4) size in
    let all = sum_by-cons slot_bytes x xs in
    let rest = objects_need xs os are.2 in
    omega (arith, one, all, rest)

record FunctionPlaceable (statics : ℕ) (made : Function) : Type 0 where
  placeable : IsPlaceableFunction statics made
  uncut : (b : ℕ) (block : Block) → slice_get made.blocks.items b ≡ Some block → All IsNoCut block.lines.items

module _ (g : p.Prog) (made : Function) (low : ℕ) (done : Made) (good : Good g made low done) (last : Point) (block : Block) where
  other_lines : (b : ℕ) → b ≢ length done.blocks → IsAtEnd done.blocks last b (point_of block) → All (LineFrom low) block.lines.items
  other_lines b ne (inl both) = absurd (ne both.0)
  other_lines b ne (inr e) = all_from low block.lines.items (lines_from g made low done.registers block.lines.items (good.blocks b (point_of block) e).lines)

  entered : (b : ℕ) → b ≡ length done.blocks → Receives low last.rest → IsAtEnd done.blocks last b (point_of block) → Receives low block.lines.items
  entered b is h (inl both) = subst (λ (q : Point). Receives low q.rest) both.1 h
  entered b is h (inr e) =
      let within = slice_get_within done.blocks b (point_of block) e in
      absurd (omega arith)

  exit_from : (b : ℕ) → last.exit ≡ done.point.exit → IsAtEnd done.blocks last b (point_of block) → ExitFrom low block.exit
  exit_from b same (inl both) = subst (λ (q : Point). ExitFrom low q.exit) both.1 (subst (λ exit. ExitFrom low exit) (sym same) good.point.exit.from)
  exit_from b same (inr e) = (good.blocks b (point_of block) e).exit.from

  edge_of : (b : ℕ) → last.exit ≡ done.point.exit → IsAtEnd done.blocks last b (point_of block) → IsEdge block.exit (length done.blocks) → ⊥
  edge_of b same (inl both) edge =
      no_edge (length done.blocks) block.exit (subst (λ (q : Point). ExitThere (length done.blocks) q.exit) both.1 (subst (λ exit. ExitThere (length done.blocks) exit) (sym same) good.point.exit.there)) edge
  edge_of b same (inr e) edge = no_edge (length done.blocks) block.exit (good.blocks b (point_of block) e).exit.there edge

function_placeable : (g : Prog) (f : Func) (is_main : Bool) (first accesses : ℕ) (made : Function) (next : ℕ) → FunctionMade g f is_main first accesses made next → Premises (program_of g) → IsTypedFunc (program_of g) (func_of g.types f) → FunctionPlaceable (length (program_of g).statics) made
function_placeable g f is_main first accesses made next h premises typed =
    let G = program_of g in
    let F = func_of g.types f in
    let low = f.params in
    let os = made.objects.items in
    let body = stmt_of g.types f.body in
    let limit = func_nodes F in
    let begin = nothing_made accesses in
    let braced = make_brace low is_main begin in
    let done = make_statement G first low os body 0 0 braced in
    let all = put_parameters first 0 (take low os) done in
    let last = close all in
    let fewer = typed.0 in
    let positive = statement_positive body in
    let there = objects_length F.objects os h.objects in
    let taken = length-take low os in
    let begun = h.first_object in
    let objects : HasObjects F made first = record { begun = h.first_object; count = there } in
    let body_step = statement_adds G F made first low limit premises objects typed.1 os h.objects body false false 0 0 17 0 begin braced typed.3 (λ x. absurd (cc)) (λ x. absurd (cc)) (omega arith) (brace_adds G made low limit is_main begin (omega arith)) in
    let end_step = step_close G made 0 limit (parameters_add G made limit first 0 (take low os) 0 0 done done (omega arith) (omega arith) (omega arith) (no_step G made 0 limit done)) in
    let body_good : Good G made low done = body_step.good (nothing_good G made low accesses) in
    let good : Good G made 0 last = end_step.good (good_from_zero G made low done body_good) in
    let sized = (function_sized g f is_main first accesses made next h premises typed).sized in
    let registers = sized.few_registers in
    let nodes = h.nodes in
    let need = h.need in
    let small = h.small in
    let slots = objects_need F.objects os h.objects in
    let free : low ≡ first_free made = let one = h.first_parameter in let two = h.parameters in omega arith in
    let same_blocks = parameters_blocks first 0 (take low os) done in
    let entry : made.entry ≡ length done.blocks = h.entry ∙ ap {B = ℕ} (λ (ps : List Point). length ps) same_blocks in
    let point = λ (b : ℕ) (block : Block) (e : slice_get made.blocks.items b ≡ Some block). subst (λ ps. slice_get ps b ≡ Some (point_of block)) h.blocks (got_point made.blocks.items b block e) in
    let place = λ (b : ℕ) (block : Block) (e : slice_get made.blocks.items b ≡ Some block). subst (λ bs. IsAtEnd bs all.point b (point_of block)) same_blocks (at_end all.blocks all.point b (point_of block) (subst (λ ps. slice_get ps b ≡ Some (point_of block)) (close_blocks all) (point b block e))) in
    let open_exit = parameters_exit first 0 (take low os) done in
    record {
      placeable = record {
        registers = h.registers;
        slots = h.slots;
        first = h.first_parameter;
        room = omega arith;
        lines = λ b block e. each_all (GoodLine G made 0 last.registers) (IsPlaceableLine (length G.statics) made) block.lines.items (λ line fine. fine.fits.placeable) (good.blocks b (point_of block) (point b block e)).lines;
        others = λ b block e ne. subst (λ n. All (LineFrom n) block.lines.items) free (other_lines G made low done body_good all.point block b (λ same. ne (same ∙ sym entry)) (place b block e));
        entry = λ block e. subst (λ n. Receives n block.lines.items) free (entered G made low done body_good all.point block made.entry entry (receives_parameters low first 0 (take low os) done (receives_each low done.point.rest (lines_from G made low done.registers done.point.rest body_good.point.lines))) (place made.entry block e));
        exits = λ b block e. subst (λ n. ExitFrom n block.exit) free (exit_from G made low done body_good all.point block b open_exit (place b block e));
        no_return = λ b block e edge. absurd (edge_of G made low done body_good all.point block b open_exit (place b block e) (subst (λ n. IsEdge block.exit n) entry edge));
      };
      uncut = λ b block e. each_all (GoodLine G made 0 last.registers) IsNoCut block.lines.items (λ line fine. no_cut line fine.fits.uncut) (good.blocks b (point_of block) (point b block e)).lines;
    }

-- all functions

abbrev IsReady : ℕ → Function → Type 0
IsReady statics made = FunctionPlaceable statics made

functions_ready : (g : Prog) → Premises (program_of g) → (k first accesses last : ℕ) (fs : List Func) (cs : List Function) → Each (IsTypedFunc (program_of g)) (map {A = Func} (func_of g.types) fs) → FunctionsMade g k first accesses last fs cs → Each (IsReady (length (program_of g).statics)) cs
functions_ready g premises k first accesses last [] [] typed h = tt
functions_ready g premises k first accesses last [] (c ∷ cs) typed h = absurd h
functions_ready g premises k first accesses last (f ∷ fs) [] typed h = absurd h
functions_ready g premises k first accesses last (f ∷ fs) (c ∷ cs) typed h = (
  function_placeable g f (k == g.main) first accesses c h.0 h.1 premises typed.0,
  functions_ready g premises (suc k) (first + length f.objects.items) h.0 last fs cs typed.1 h.2,
)

ready_at : (statics : ℕ) (cs : List Function) (i : ℕ) (c : Function) → Each (IsReady statics) cs → slice_get cs i ≡ Some c → FunctionPlaceable statics c
ready_at statics [] i c h e = absurd (cc)
ready_at statics (x ∷ xs) zero c h e = let same : x ≡ c = cc in subst (FunctionPlaceable statics) same h.0
ready_at statics (x ∷ xs) (suc i) c h e = ready_at statics xs i c h.1 e

all_ready : (g : Prog) (u : Code) → UnitMade g u → IsWellTyped (program_of g) → IsWithinLimits (program_of g) → Each (IsReady (length (program_of g).statics)) u.functions.items
all_ready g u h typed limits =
    let premises : Premises (program_of g) = record { funcs = typed.funcs; few = limits.params } in
    functions_ready g premises 0 (length g.statics.items) 0 h.functions.last g.funcs.items u.functions.items typed.funcs h.functions.each

pub unit_placeable : (g : Prog) (u : Code) → UnitMade g u → IsWellTyped (program_of g) → IsWithinLimits (program_of g) → IsPlaceable u
unit_placeable g u h typed limits =
    let ready = all_ready g u h typed limits in
    let count : length (program_of g).statics ≡ length u.statics.items = ap (λ (xs : List StaticObject). length xs) (sym h.statics) ∙ length-map u.statics.items static_of in
    record {
      functions = all_of (IsPlaceableFunction (length u.statics.items)) u.functions.items (λ i c e. subst (λ n. IsPlaceableFunction n c) count (ready_at (length (program_of g).statics) u.functions.items i c ready e).placeable);
    }

pub unit_uncut : (g : Prog) (u : Code) → UnitMade g u → IsWellTyped (program_of g) → IsWithinLimits (program_of g) → AllUncut u
unit_uncut g u h typed limits =
    let ready = all_ready g u h typed limits in
    record { each = λ i c b block e f. (ready_at (length (program_of g).statics) u.functions.items i c ready e).uncut b block f }

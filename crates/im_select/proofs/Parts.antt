-- Exits, the lines of a block and the prologue: what is put for them is what may stand for them.
use Rattle.std.proofs.Common.{◌≡◌, ◌<◌, ◌⊎◌, inl, inr, ℕ, suc, ◌+◌, ◌-◌, ◌^◌, Bool, true, false, List, [], ◌∷◌, ◌++◌, Option, Some, None, length, drop, refl, sym, ap, ◌∙◌, subst, append_assoc, arith}
use Rattle.std.specs.Prelude.{◌&&◌, not, if◌then◌else◌, All}
use Rattle.std.proofs.lemmas.List.Elements.{All-head, All-tail}
use Rattle.im_num.specs.declared.kind.Kind.{Kind}
use Rattle.im_rv.specs.declared.instr.Op.TheVariants.{Jalr}
use Rattle.im_rv.specs.Lines.{CodeLine, plain_line}
use Rattle.im_rv_reach.specs.Instructions.{with_immediate, jumping}
use Rattle.im_store.specs.Objects.{Name}
use Rattle.im_block.specs.declared.code.Place.{Place}
use Rattle.im_block.specs.declared.code.Line.{Line}
use Rattle.im_block.specs.declared.code.Line.TheVariants.{Compute, Compare, Write}
use Rattle.im_block.specs.declared.code.Block.{Block}
use Rattle.im_block.specs.declared.code.Exit.{Exit}
use Rattle.im_block.specs.declared.code.Exit.TheVariants.{Jump, Turn, Branch, Return}
use Rattle.im_block.specs.declared.unit.Function.{Function}
use Rattle.im_block.specs.Wellformed.{ExitThere}
use Rattle.im_alloc_placed.specs.Operands.{PlaceAtHome}
use Rattle.im_alloc_placed.specs.Placed.{IsPlacedLine, IsPlacedExit}
use Rattle.im_select.specs.Leads.{lead, led}
use Rattle.im_select_relation.specs.Selected.{IsEntry, IsDead, IsUnread, IsSpent, IsConstant, ConstantNumber, ConstantNull, or_zero}
use Rattle.im_select_relation.specs.Symbolic.{Lines, Plain, Aimed, JumpsIn, ContinuesIn, Falls, Leaps, TestedIn, Reached, Missed, Hopped, Skipped, LeavesIn, ExitIn, Decides, DecidesByZero, FoldedIn, ComputesBy, ComputesFrom, ComparesBy, StoresZero, StandsIn, SelectedIn, Around, PrologueIn}
use Rattle.im_alloc_relation.specs.Live.{place_uses}
use Rattle.im_live.specs.Reads.{lives_before, reads_first, IsLive}
use Rattle.im_select.specs.declared.folding.Constant.{Constant}
use Rattle.im_select.specs.declared.branching.Test.{Test}
use Rattle.im_select.specs.declared.branching.Test.TheVariants.{Nonzero, Compares, ComparesZero}
use Rattle.im_select.specs.declared.distance.Distance.{Distance}
use Rattle.im_select.specs.declared.distance.Distance.TheVariants.{Near, Far}
use Rattle.im_select.specs.Emitted.{adds_code, leave_code, is_next, onward_code, both_ways, test_line, test_code, branch_code, exit_code, passed_by, place_number, place_code, keep_code, line_code, way_code, comparison_rest, lines_code, enter_code, prologue_code}
use Rattle.im_select.specs.Given.{Given}
use Rattle.im_select.specs.Places.{CallsBelow}
use Rattle.im_select.specs.Selects.{Agrees, block_label}
use Rattle.im_select.proofs.Ordering.{same_number}
use Rattle.im_select.proofs.Standing.{At, after, after_append, at_left, at_right}
use Rattle.im_select.proofs.Taking.{IsTaken, Nothing, Comparing, Zeroing}
use Rattle.im_select.proofs.Selecting.{Words, Sited, based_in, adds_in, selected_in}
use Rattle.im_select.proofs.Pairing.{lines_alone, last_passes, pass_cases, Spent, Takes, OnRight, OnLeft, Weighs, Stores, passes, lines_paired, right_code, left_code, weighs_code, constant_small, immediate_of, weighs_in, unread_in}

leaves_in : (w : Lines) (k frame : ℕ) → frame < 2 ^ 32 → At w k (leave_code frame) → LeavesIn w k frame
leaves_in w k frame small a =
    let last : List CodeLine = plain_line (with_immediate Jalr 0 1 0) ∷ [] in
    let r = at_right w (suc k) (adds_code 2 frame) last a.1 in
    record { link = a.0; next = after (suc k) (adds_code 2 frame); raised = adds_in w (suc k) 2 frame small (at_left w (suc k) (adds_code 2 frame) last a.1); returns = r.0 }

-- where a function's blocks lead
abbrev pub leads_in : Given → ℕ → ℕ
leads_in given = lead given.function.blocks.items given.function.entry

jump_in : (w : Lines) (given : Given) (k b : ℕ) → Agrees w given → b < length given.function.blocks.items → Aimed w k (jumping 0 0) (block_label given b) → JumpsIn w k (w.block b)
jump_in w given k b g h a = subst (JumpsIn w k) (sym (g.blocks b h)) a

-- where the label by which a block is gone to stands next, it begins at k
abbrev pub Follows : Given → (ℕ → ℕ) → Option ℕ → ℕ → Type 0
Follows given starts next k = (b : ℕ) → next ≡ Some (block_label given b) → k ≡ starts b

next_is : (next : Option ℕ) (label : ℕ) → is_next next label ≡ true → next ≡ Some label
next_is None label e = absurd cc
next_is (Some next) label e = ap Some (same_number next label e)

both_so : (a b : Bool) → (a && b) ≡ true → b ≡ true
both_so true b e = e
both_so false b e = absurd cc

onward_in : (w : Lines) (given : Given) (starts : ℕ → ℕ) (k : ℕ) (next : Option ℕ) (falls : Bool) (b : ℕ) → Agrees w given → b < length given.function.blocks.items → (falls ≡ true → is_next next (block_label given b) ≡ true) → Follows given starts next (after k (onward_code falls (block_label given b))) → At w k (onward_code falls (block_label given b)) → ContinuesIn w starts k b
onward_in w given starts k next true b g h f follows a = Falls (follows b (next_is next (block_label given b) (f refl)))
onward_in w given starts k next false b g h f follows a = Leaps (jump_in w given k b g h a.0)

missed_in : (w : Lines) (given : Given) (starts : ℕ → ℕ) (k : ℕ) (distance : Distance) (t : Test) (x y : ℕ) → Agrees w given → y < length given.function.blocks.items → after k (test_code distance false t (block_label given y)) ≡ starts x → At w k (test_code distance false t (block_label given y)) → TestedIn w starts k (both_ways t) x y
missed_in w given starts k Near t x y g h e a = Missed (subst (Aimed w k (test_line false t 0)) (sym (g.blocks y h)) a.0) (Falls e)
missed_in w given starts k Far t x y g h e a = Skipped a.0 (jump_in w given (suc k) y g h a.1.0) (Falls e)

reached_in : (w : Lines) (given : Given) (starts : ℕ → ℕ) (k : ℕ) (distance : Distance) (next : Option ℕ) (t : Test) (x y : ℕ) → Agrees w given → x < length given.function.blocks.items → y < length given.function.blocks.items → Follows given starts next (after k (test_code distance true t (block_label given x) ++ onward_code (is_next next (block_label given y)) (block_label given y))) → At w k (test_code distance true t (block_label given x) ++ onward_code (is_next next (block_label given y)) (block_label given y)) → TestedIn w starts k (both_ways t) x y
reached_in w given starts k Near next t x y g h i follows a = Reached (subst (Aimed w k (test_line true t 0)) (sym (g.blocks x h)) a.0) (onward_in w given starts (suc k) next (is_next next (block_label given y)) y g i (λ e. e) follows a.1)
reached_in w given starts k Far next t x y g h i follows a = Hopped a.0 (jump_in w given (suc k) x g h a.1.0) (onward_in w given starts (suc (suc k)) next (is_next next (block_label given y)) y g i (λ e. e) follows a.1.1)

-- where one of two labels stands next or not
abbrev pub branch_by : Bool → Distance → Option ℕ → Test → ℕ → ℕ → List CodeLine
branch_by b distance next t there other = if b then test_code distance false t other else test_code distance true t there ++ onward_code (is_next next other) other

branch_in : (w : Lines) (given : Given) (starts : ℕ → ℕ) (k : ℕ) (distance : Distance) (next : Option ℕ) (t : Test) (x y : ℕ) → Agrees w given → x < length given.function.blocks.items → y < length given.function.blocks.items → Follows given starts next (after k (branch_code distance next t (block_label given x) (block_label given y))) → At w k (branch_code distance next t (block_label given x) (block_label given y)) → TestedIn w starts k (both_ways t) x y
branch_in w given starts k distance next t x y g h i = by (is_next next (block_label given x)) refl
  where
    by : (b : Bool) → is_next next (block_label given x) ≡ b → Follows given starts next (after k (branch_by b distance next t (block_label given x) (block_label given y))) → At w k (branch_by b distance next t (block_label given x) (block_label given y)) → TestedIn w starts k (both_ways t) x y
    by true e follows a = missed_in w given starts k distance t x y g i (follows x (next_is next (block_label given x) e)) a
    by false e follows a = reached_in w given starts k distance next t x y g h i follows a

exit_in : (w : Lines) (given : Given) (starts : ℕ → ℕ) (k : ℕ) (distance : Distance) (next : Option ℕ) (bare : Bool) (frame : ℕ) (exit : Exit) → Agrees w given → frame < 2 ^ 32 → IsPlacedExit exit → ExitThere (length given.function.blocks.items) exit → Follows given starts next (after k (exit_code distance next bare given.first_block frame None (led (leads_in given) exit))) → At w k (exit_code distance next bare given.first_block frame None (led (leads_in given) exit)) → ExitIn w starts frame k exit
exit_in w given starts k distance next bare frame (Jump b) g small h t follows a = onward_in w given starts k next (not bare && is_next next (block_label given b)) b g t (both_so (not bare) (is_next next (block_label given b))) follows a
exit_in w given starts k distance next bare frame (Turn b) g small h t follows a = jump_in w given k b g t a.0
exit_in w given starts k distance next bare frame (Branch on x y) g small h t follows a = (h, branch_in w given starts k distance next (Nonzero on) x y g t.0 t.1 follows a)
exit_in w given starts k distance next bare frame (Return None) g small h t follows a = (a.0, leaves_in w (suc k) frame small a.1)
exit_in w given starts k distance next bare frame (Return (Some r)) g small h t follows a = (h, leaves_in w k frame small a)

-- the code was made with a map of objects that gives each line the same as w's
abbrev pub Alike : (Name → ℕ) → (Name → ℕ) → ℕ → Function → Type 0
Alike own at statics f = (m : ℕ) (line : Line) → IsPlacedLine statics f line → (line_code own m line ≡ line_code at m line) × Words at line × Sited own at line

-- what is asked of a block's lines and its exit
pub record IsBlockOf (given : Given) (lines : List Line) (exit : Exit) : Type 0 where
  pub placed : All (IsPlacedLine (length given.statics) given.function) lines
  pub calls : All (CallsBelow given.functions) lines
  pub leaves : IsPlacedExit exit
  pub edges : ExitThere (length given.function.blocks.items) exit

tail_of : (given : Given) (line : Line) (lines : List Line) (exit : Exit) → IsBlockOf given (line ∷ lines) exit → IsBlockOf given lines exit
tail_of given line lines exit h = record { placed = All-tail (IsPlacedLine (length given.statics) given.function) line lines h.placed; calls = All-tail (CallsBelow given.functions) line lines h.calls; leaves = h.leaves; edges = h.edges }

dead_from : (blocks : List Block) (live : ℕ → ℕ → Bool) (b r : ℕ) → IsLive blocks live → r < 32 → live b r ≡ false → IsDead blocks b r
dead_from blocks live b r is small e n = by (reads_first blocks n b r) refl
  where
    by : (t : Bool) → reads_first blocks n b r ≡ t → t ≡ false
    by true h = let all = is.all b r n small h in let bad : true ≡ false = sym all ∙ e in cc
    by false h = refl

constant_home : (statics : ℕ) (f : Function) (line : Line) (r n : ℕ) → IsConstant line r n → IsPlacedLine statics f line → r < 32
constant_home statics f line r n (ConstantNumber q n' z e) p = p.1
constant_home statics f line r n (ConstantNull q) p = p.1

-- what is left of a block but its own lines, and its exit
taken_in : (w : Lines) (given : Given) (live : ℕ → ℕ → Bool) (starts : ℕ → ℕ) (distance : Distance) (next : Option ℕ) (bare : Bool) (k frame : ℕ) (tail : List Line) (exit : Exit) (taken : Option Test) → IsLive given.function.blocks.items live → Agrees w given → frame < 2 ^ 32 → IsBlockOf given tail exit → IsTaken live tail exit taken → Follows given starts next (after k (exit_code distance next bare given.first_block frame taken (led (leads_in given) exit))) → At w k (exit_code distance next bare given.first_block frame taken (led (leads_in given) exit)) → StandsIn w given.function.blocks.items starts frame k tail exit
taken_in w given live starts distance next bare k frame tail exit taken is g small h (Nothing exit') follows a = exit_in w given starts k distance next bare frame exit g small h.leaves h.edges follows a
taken_in w given live starts distance next bare k frame tail exit taken is g small h (Comparing to op kind left right x y da db) follows a =
    let blocks : List Block = given.function.blocks.items in
    let p = All-head (IsPlacedLine (length given.statics) given.function) (Compare to op kind left right) [] h.placed in
    let low : to < 32 = p.0.1 in
    inr (inl (Decides to op kind left right x y p.1 p.2 p.3 (dead_from blocks live x to is low da) (dead_from blocks live y to is low db) (branch_in w given starts k distance next (Compares op kind left right) x y g h.edges.0 h.edges.1 follows a)))
taken_in w given live starts distance next bare k frame tail exit taken is g small h (Zeroing line r to op kind left right x y zero sa sb da db) follows a =
    let blocks : List Block = given.function.blocks.items in
    let lines : List Line = Compare to op kind left right ∷ [] in
    let p = All-head (IsPlacedLine (length given.statics) given.function) (Compare to op kind left right) [] (All-tail (IsPlacedLine (length given.statics) given.function) line lines h.placed) in
    let low : to < 32 = p.0.1 in
    let least : r < 32 = constant_home (length given.statics) given.function line r 0 zero (All-head (IsPlacedLine (length given.statics) given.function) line lines h.placed) in
    inr (inl (DecidesByZero line r to op kind left right x y zero p.1 p.2 p.3 (dead_from blocks live x r is least sa) (dead_from blocks live y r is least sb) (dead_from blocks live x to is low da) (dead_from blocks live y to is low db) (branch_in w given starts k distance next (ComparesZero op kind (or_zero r left) (or_zero r right)) x y g h.edges.0 h.edges.1 follows a)))

-- ---- a line that takes the constant before it

module _ (w : Lines) (given : Given) (own : Name → ℕ) (live : ℕ → ℕ → Bool) (lives : ℕ → Bool) (k m : ℕ) (c : Constant) (rest : List Line) (exit : Exit) (is : IsLive given.function.blocks.items live) (low : c.register < 32) (small : c.word < 2 ^ 32) (behind : (r : ℕ) → lives r ≡ lives_before live rest exit r) where
  abbrev blocks_ : List Block
  blocks_ = given.function.blocks.items

  abbrev Folds : Line → Type 0
  Folds user = FoldedIn w blocks_ k c.register c.word user rest exit (after k (way_code own m None (Some c) user))

  spent_there : (to : ℕ) → Spent lives to c.register → IsSpent blocks_ rest exit to c.register
  spent_there to (inl e) = inl e
  spent_there to (inr e) = inr (unread_in blocks_ live rest exit c.register is low (sym (behind c.register) ∙ e))

  stores_zero_in : (place : Place) (kind : Kind) (access : ℕ) → c.word ≡ 0 → place_uses place c.register ≡ false → IsUnread blocks_ rest exit c.register → PlaceAtHome place → place_number w.at place < 2 ^ 32 → At w k (line_code w.at m (Write place kind 0 access)) → FoldedIn w blocks_ k c.register c.word (Write place kind c.register access) rest exit (after k (line_code w.at m (Write place kind 0 access)))
  stores_zero_in place kind access zero apart unread home size a =
      let code : List CodeLine = place_code place (place_number w.at place) in
      let s = at_right w k code _ a in
      subst (FoldedIn w blocks_ k c.register c.word (Write place kind c.register access) rest exit) (sym (after_append k code _))
      (StoresZero place kind access rest exit _ _ (after k code) zero apart unread (based_in w k place size home (at_left w k code _ a)) s.0)

  takes_in : (user : Line) → Takes lives c user → IsPlacedLine (length given.statics) given.function user → Words w.at user → Sited own w.at user → At w k (way_code own m None (Some c) user) → Folds user
  takes_in user (OnRight to op kind left l ne spent e) p s t a =
      let same = right_code to op kind left c l ne e in
      let b : At w k (plain_line l ∷ []) = subst (At w k) same a in
      let i = immediate_of to op kind left c.word l small e in
      subst (λ x. FoldedIn w blocks_ k c.register c.word (Compute to op kind left c.register) rest exit (after k x)) (sym same)
      (ComputesBy to op kind left rest exit i.by i.imm p.0 p.1 ne p.3 i.is (spent_there to spent) (subst (λ x. Plain w k x) i.line b.0))
  takes_in user (OnLeft to op kind right l ne spent turns e) p s t a =
      let same = left_code to op kind right c l ne turns e in
      let b : At w k (plain_line l ∷ []) = subst (At w k) same a in
      let i = immediate_of to op kind right c.word l small e in
      subst (λ x. FoldedIn w blocks_ k c.register c.word (Compute to op kind c.register right) rest exit (after k x)) (sym same)
      (ComputesFrom to op kind right rest exit i.by i.imm p.0 p.2 ne p.3 turns i.is (spent_there to spent) (subst (λ x. Plain w k x) i.line b.0))
  takes_in user (Weighs to op kind left l ne spent e) p s t a =
      let same = weighs_code to op kind left c l ne e in
      let b : At w k (plain_line l ∷ comparison_rest to op c.word) = subst (At w k) same a in
      subst (λ x. FoldedIn w blocks_ k c.register c.word (Compare to op kind left c.register) rest exit (after k x)) (sym same)
      (ComparesBy to op kind left rest exit _ p.0 p.1 ne p.3 (spent_there to spent) (weighs_in w k to op kind left c.word l small e b))
  takes_in user (Stores place kind access zero apart unread) p s t a =
      let same : line_code own m (Write place kind 0 access) ≡ line_code w.at m (Write place kind 0 access) = ap (keep_code place kind 0 access) t in
      let dead = unread_in blocks_ live rest exit c.register is low (sym (behind c.register) ∙ unread) in
      subst (λ x. FoldedIn w blocks_ k c.register c.word (Write place kind c.register access) rest exit (after k x)) (sym same)
      (stores_zero_in place kind access zero apart dead p.1 s (subst (At w k) same a))

-- what lives behind the lines that are left: number j is the first of them
abbrev pub IsBehind : (ℕ → ℕ → Bool) → (ℕ → ℕ → Bool) → ℕ → List Line → Exit → Type 0
IsBehind live needed j lines exit = (i r : ℕ) → needed (i + j) r ≡ lives_before live (drop (suc i) lines) exit r

pub behind_tail : (live needed : ℕ → ℕ → Bool) (j : ℕ) (line : Line) (lines : List Line) (exit : Exit) → IsBehind live needed j (line ∷ lines) exit → IsBehind live needed (suc j) lines exit
behind_tail live needed j line lines exit h = λ i r. (let q : i + suc j ≡ suc i + j = omega arith in ap (λ z. needed z r) q ∙ h (suc i) r)

module _ (w : Lines) (given : Given) (live : ℕ → ℕ → Bool) (starts : ℕ → ℕ) (own : Name → ℕ) (m : ℕ → ℕ) (needed : ℕ → ℕ → Bool) (distance : Distance) (next : Option ℕ) (bare : Bool) (frame : ℕ) (tail : List Line) (exit : Exit) (taken : Option Test) (o : (j : ℕ) → IsEntry (m j)) (is : IsLive given.function.blocks.items live) (g : Agrees w given) (small : frame < 2 ^ 32) (alike : Alike own w.at (length given.statics) given.function) (t : IsTaken live tail exit taken) where
  abbrev last : List CodeLine
  last = exit_code distance next bare given.first_block frame taken (led (leads_in given) exit)

  abbrev code : ℕ → List Line → List CodeLine
  code j lines = lines_code own m needed None j lines ++ last

  abbrev Stood : ℕ → List Line → Type 0
  Stood k lines = StandsIn w given.function.blocks.items starts frame k (lines ++ tail) exit

  -- where code stands and what follows it is next, so do the lines
  abbrev Goes : ℕ → List CodeLine → Type 0 → Type 0
  Goes k xs X = Follows given starts next (after k xs) → At w k xs → X

  alone : (j k : ℕ) (line : Line) (lines : List Line) → passed_by (needed (suc j)) line lines ≡ None → IsBlockOf given ((line ∷ lines) ++ tail) exit → Goes (after k (line_code own (m j) line)) (code (suc j) lines) (Stood (after k (line_code own (m j) line)) lines) → Goes k (code j (line ∷ lines)) (Stood k (line ∷ lines))
  alone j k line lines e h later follows a =
      let statics : ℕ = length given.statics in
      let f : Function = given.function in
      let head : List CodeLine = line_code own (m j) line in
      let rest : List CodeLine = code (suc j) lines in
      let joined : code j (line ∷ lines) ≡ head ++ rest = ap (λ z. z ++ last) (lines_alone own m needed j line lines e) ∙ append_assoc head (lines_code own m needed None (suc j) lines) last in
      let b : At w k (head ++ rest) = subst (At w k) joined a in
      let p = All-head (IsPlacedLine statics f) line (lines ++ tail) h.placed in
      let q = All-head (CallsBelow given.functions) line (lines ++ tail) h.calls in
      let same = (alike (m j) line p).0 in
      let here : SelectedIn w k line (after k head) = subst (λ z. SelectedIn w k line (after k z)) (sym same) (selected_in w given k (m j) (o j) g line p q (alike (m j) line p).1 (subst (At w k) same (at_left w k head rest b))) in
      inl (
        after k head,
        here,
        later (λ n e. sym (after_append k head rest) ∙ ap (after k) (sym joined) ∙ follows n e) (at_right w k head rest b),
      )

  paired : (j k : ℕ) (line user : Line) (lines : List Line) (c : Constant) → passed_by (needed (suc j)) line (user ∷ lines) ≡ Some c → IsBehind live needed j ((line ∷ user ∷ lines) ++ tail) exit → IsBlockOf given ((line ∷ user ∷ lines) ++ tail) exit → Goes (after k (way_code own (m (suc j)) None (Some c) user)) (code (suc (suc j)) lines) (Stood (after k (way_code own (m (suc j)) None (Some c) user)) lines) → Goes k (code j (line ∷ user ∷ lines)) (Stood k (line ∷ user ∷ lines))
  paired j k line user lines c e behind h later follows a =
      let statics : ℕ = length given.statics in
      let f : Function = given.function in
      let head : List CodeLine = way_code own (m (suc j)) None (Some c) user in
      let rest : List CodeLine = code (suc (suc j)) lines in
      let joined : code j (line ∷ user ∷ lines) ≡ head ++ rest = ap (λ x. x ++ last) (lines_paired own m needed j line user lines c e) ∙ append_assoc head (lines_code own m needed None (suc (suc j)) lines) last in
      let b : At w k (head ++ rest) = subst (At w k) joined a in
      let d = passes (needed (suc j)) line user lines c e in
      let first = All-head (IsPlacedLine statics f) line (user ∷ (lines ++ tail)) h.placed in
      let p = All-head (IsPlacedLine statics f) user (lines ++ tail) (All-tail (IsPlacedLine statics f) line (user ∷ (lines ++ tail)) h.placed) in
      let low : c.register < 32 = constant_home statics f line c.register c.word d.constant first in
      let there : (r : ℕ) → needed (suc j) r ≡ lives_before live (lines ++ tail) exit r = λ r. (let q : 1 + j ≡ suc j = omega arith in sym (ap (λ x. needed x r) q) ∙ behind 1 r) in
      let known = alike (m (suc j)) user p in
      inr (inr (
        c.register,
        c.word,
        after k head,
        d.constant,
        takes_in w given own live (needed (suc j)) k (m (suc j)) c (lines ++ tail) exit is low (constant_small line c.register c.word d.constant) there user d.takes p known.1 known.2 (at_left w k head rest b),
        later (λ n e. sym (after_append k head rest) ∙ ap (after k) (sym joined) ∙ follows n e) (at_right w k head rest b),
      ))

  pub stands_in : (j k : ℕ) (lines : List Line) → IsBehind live needed j (lines ++ tail) exit → IsBlockOf given (lines ++ tail) exit → Goes k (code j lines) (Stood k lines)
  stands_in j k [] behind h follows a = taken_in w given live starts distance next bare k frame tail exit taken is g small h t follows a
  stands_in j k (line ∷ []) behind h follows a =
      alone j k line [] (last_passes (needed (suc j)) line) h (λ follows b. stands_in (suc j) (after k (line_code own (m j) line)) [] (behind_tail live needed j line tail exit behind) (tail_of given line tail exit h) follows b) follows a
  stands_in j k (line ∷ user ∷ lines) behind h follows a =
      let behind' = behind_tail live needed j line (user ∷ (lines ++ tail)) exit behind in
      let h' = tail_of given line (user ∷ (lines ++ tail)) exit h in
      pass_cases (passed_by (needed (suc j)) line (user ∷ lines))
      (λ e. alone j k line (user ∷ lines) e h (λ follows b. stands_in (suc j) (after k (line_code own (m j) line)) (user ∷ lines) behind' h' follows b) follows a)
      (λ c e. paired j k line user lines c e behind h (λ follows b. stands_in (suc (suc j)) (after k (way_code own (m (suc j)) None (Some c) user)) lines (behind_tail live needed (suc j) user (lines ++ tail) exit behind') (tail_of given user (lines ++ tail) exit h') follows b) follows a)

-- the prologue falls into the entry
pub prologue_in : (w : Lines) (given : Given) (starts : ℕ → ℕ) (frame entry : ℕ) → Agrees w given → 0 < frame → after 0 (prologue_code frame) ≡ starts entry → At w 0 (prologue_code frame) → PrologueIn w starts 0 frame entry
prologue_in w given starts frame entry g some begins a =
    let by : ℕ = 2 ^ 32 - frame in
    let r = at_right w 0 (adds_code 6 by) enter_code a in
    let k : ℕ = after 0 (adds_code 6 by) in
    record {
      a = k;
      b = suc (suc (suc k));
      lowered = adds_in w 0 6 by (omega arith) (at_left w 0 (adds_code 6 by) enter_code a);
      bound = r.0;
      checked = Around r.1.0 (subst (JumpsIn w (suc (suc k))) (sym g.full) r.1.1.0);
      taken = r.1.1.1.0;
      saved = r.1.1.1.1.0;
      continues = Falls (sym (after_append 0 (adds_code 6 by) enter_code) ∙ begins);
    }

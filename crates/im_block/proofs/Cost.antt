-- A run passes each line at most once, and once more for each unit of fuel.
use Rattle.std.proofs.Common.{◌≡◌, ℕ, zero, suc, ◌+◌, ◌*◌, ◌<◌, ◌≤◌, List, [], ◌∷◌, Bool, true, false, Option, Some, None, refl, sym, ap, ◌∙◌, subst, arith}
use Rattle.std.specs.Prelude.{slice_get, nat_le, if◌then◌else◌}
use Rattle.im_store.specs.Checks.{Checked, Fine, Bad}
use Rattle.im_store.specs.Objects.{Value, Number, Null, Unset, Store}
use Rattle.im_block.specs.declared.code.Line.{Line}
use Rattle.im_block.specs.declared.code.Line.TheVariants.{Put, PutNull, Copy, Convert, Unary, Not, Compute, Compare, Move, Distance, Address, Read, Write, Reload, Spill, Cut, Call, Serve}
use Rattle.im_block.specs.declared.code.Exit.{Exit}
use Rattle.im_block.specs.declared.code.Exit.TheVariants.{Jump, Turn, Branch, Return}
use Rattle.im_block.specs.declared.code.Block.{Block}
use Rattle.im_block.specs.declared.unit.Function.{Function}
use Rattle.im_block.specs.declared.unit.Unit.{Unit as Code}
use Rattle.im_block.specs.Meaning.{Setting, Site, site_of, slot_site, Event, Reads, Writes, Serves, Cuts, Found, Left, with_register, computes, reads, writes, Active, Frame, State, Next, Goes, Stops, on_checked, takes, found, with_rest, at_block, sets, activates, waiting, enters, served, argument, does, goes_to, back, leaves, step_at, step, number_of, condition, next_active}
use Rattle.im_block.specs.Runs.{start, before}
use Rattle.im_block.specs.Shape.{Descends, AllOrdered, Weights, sum_of, sum_below, block_weight, blocks_weight, total, line_weight, next_weight, spot_weight, after, spent}
use Rattle.im_block.proofs.Words.{found_is}

-- an element and what stands before it
upto : {X : Type 0} (f : X → ℕ) (xs : List X) (c b : ℕ) (x : X) → slice_get xs c ≡ Some x → c < b → f x + sum_below f xs c ≤ sum_below f xs b
upto f [] c b x e lt = cc
upto f (y ∷ ys) zero zero x e lt = absurd (omega arith)
upto f (y ∷ ys) zero (suc b) x e lt =
    let h : f y ≡ f x = cc in
    omega arith
upto f (y ∷ ys) (suc c) zero x e lt = absurd (omega arith)
upto f (y ∷ ys) (suc c) (suc b) x e lt = let lt' : c < b = omega arith in omega (arith, upto f ys c b x e lt')

upto_all : {X : Type 0} (f : X → ℕ) (xs : List X) (c : ℕ) (x : X) → slice_get xs c ≡ Some x → f x + sum_below f xs c ≤ sum_of f xs
upto_all f [] c x e = cc
upto_all f (y ∷ ys) zero x e =
    let h : f y ≡ f x = cc in
    omega arith
upto_all f (y ∷ ys) (suc c) x e = omega (arith, upto_all f ys c x e)

abbrev blocks_of : Option Function → List Block
blocks_of None = []
blocks_of (Some f) = f.blocks.items

-- a function is within the whole
function_within : (w : Weights) (fs : List Function) (i : ℕ) (f : Function) → slice_get fs i ≡ Some f → w.entry + blocks_weight w f.blocks.items ≤ sum_of (λ (h : Function). w.entry + blocks_weight w h.blocks.items) fs
function_within w fs i f e = omega (arith, upto_all (λ (h : Function). w.entry + blocks_weight w h.blocks.items) fs i f e)

module _ (u : Code) (g : Setting) (w : Weights) where
  -- what is left of an activation, without another turn
  abbrev left : Frame → ℕ
  left frame =
      sum_of w.line frame.spot.rest + w.exit frame.spot.exit + sum_below (block_weight w) (blocks_of (slice_get u.functions.items frame.function)) frame.spot.block

  abbrev left_of : List Frame → ℕ
  left_of [] = 0
  left_of (x ∷ xs) = left x + left_of xs

  -- what is left of a run
  abbrev potential : State → ℕ
  potential s = s.fuel * total w u + left s.frame + left_of s.callers

  abbrev slack : ℕ
  slack = w.entry + w.routine

  abbrev AllDescend : List Frame → Type 0
  AllDescend [] = Unit {0}
  AllDescend (x ∷ xs) = Descends x.spot.exit x.spot.block × AllDescend xs

  record Sound (s : State) : Type 0 where
    now : Descends s.frame.spot.exit s.frame.spot.block
    callers : AllDescend s.callers

  -- after a step that weighs n, what is left is less by n
  abbrev Pays : ℕ → ℕ → Next → Type 0
  Pays before n (Stops o events) = n ≤ before + slack
  Pays before n (Goes s events) = Sound s × (n + potential s ≤ before)

  checked_pays : {A : Type 0} (before n : ℕ) (c : Checked A) (go : A → Next) → n ≤ before + slack → ((a : A) → c ≡ Fine a → Pays before n (go a)) → Pays before n (on_checked c go)
  checked_pays before n (Fine a) go le h = h a refl
  checked_pays before n (Bad why) go le h = le

  takes_pays : (before n fuel : ℕ) (output : List ℕ) (go : ℕ → Next) → n ≤ before + slack → ((less : ℕ) → fuel ≡ suc less → Pays before n (go less)) → Pays before n (takes fuel output go)
  takes_pays before n zero output go le h = le
  takes_pays before n (suc less) output go le h = h less refl

  -- what stands first in a frame is a part of what is left
  rest_is : (s : State) (line : Line) (rest : List Line) → s.frame.spot.rest ≡ line ∷ rest → sum_of w.line s.frame.spot.rest ≡ w.line line + sum_of w.line rest
  rest_is s line rest e = ap (sum_of w.line) e

  -- to the next line
  line_pays : (s : State) (line : Line) (rest : List Line) (registers : ℕ → Value) (store : Store) (input output : List ℕ) (fuel extra : ℕ) (events : List Event) → s.frame.spot.rest ≡ line ∷ rest → extra + fuel * total w u ≤ s.fuel * total w u → Sound s → Pays (potential s) (w.line line + extra) (Goes (record s { frame = record (with_rest s.frame rest) { registers = registers }; store = store; input = input; output = output; fuel = fuel }) events)
  line_pays s line rest registers store input output fuel extra events e le sound =
      let here = rest_is s line rest e in
      (record { now = sound.now; callers = sound.callers }, omega arith)

  plain_pays : (s : State) (line : Line) (rest : List Line) (registers : ℕ → Value) (store : Store) (events : List Event) → s.frame.spot.rest ≡ line ∷ rest → Sound s → Pays (potential s) (w.line line) (Goes (record s { frame = record (with_rest s.frame rest) { registers = registers }; store = store }) events)
  plain_pays s line rest registers store events e sound =
      let here = rest_is s line rest e in
      (record { now = sound.now; callers = sound.callers }, omega arith)

  -- a value, a read, a write
  computes_pays : (s : State) (line : Line) (to : ℕ) (c : Checked Value) (rest : List Line) → s.frame.spot.rest ≡ line ∷ rest → Sound s → Pays (potential s) (w.line line) (computes to c rest s)
  computes_pays s line to c rest e sound =
      let here = rest_is s line rest e in
      checked_pays (potential s) (w.line line) c (λ v. sets to v rest s []) (omega arith) (λ v is. plain_pays s line rest _ s.store [] e sound)

  reads_pays : (s : State) (line : Line) (to : ℕ) (site : Site) (c : Checked Found) (rest : List Line) → s.frame.spot.rest ≡ line ∷ rest → Sound s → Pays (potential s) (w.line line) (reads to site c rest s)
  reads_pays s line to site c rest e sound =
      let here = rest_is s line rest e in
      checked_pays (potential s) (w.line line) c _ (omega arith) (λ f is. plain_pays s line rest (with_register s.frame.registers to f.value) s.store (Reads site s.frame.active f.at.object f.at.offset ∷ []) e sound)

  writes_pays : (s : State) (line : Line) (site : Site) (c : Checked Left) (rest : List Line) → s.frame.spot.rest ≡ line ∷ rest → Sound s → Pays (potential s) (w.line line) (writes site c rest s)
  writes_pays s line site c rest e sound =
      let here = rest_is s line rest e in
      checked_pays (potential s) (w.line line) c _ (omega arith) (λ l is. plain_pays s line rest s.frame.registers l.store (Writes site s.frame.active l.at.object l.at.offset ∷ []) e sound)

  -- to a block
  to_pays : (s : State) (b fuel n before : ℕ) → AllOrdered u → Sound s → n ≤ before + slack → ((f : Function) (block : Block) → slice_get u.functions.items s.frame.function ≡ Some f → slice_get f.blocks.items b ≡ Some block → n + (fuel * total w u + (block_weight w block + sum_below (block_weight w) f.blocks.items b) + left_of s.callers) ≤ before) → Pays before n (goes_to u g b fuel s)
  to_pays s b fuel n before ordered sound le h =
      checked_pays before n (found (slice_get u.functions.items s.frame.function)) _ le (λ f is_f.
      checked_pays before n (found (slice_get f.blocks.items b)) _ le (λ block is_block.
      let at_f = found_is (slice_get u.functions.items s.frame.function) f is_f in
      let at_block = found_is (slice_get f.blocks.items b) block is_block in
      let blocks : sum_below (block_weight w) (blocks_of (slice_get u.functions.items s.frame.function)) b ≡ sum_below (block_weight w) f.blocks.items b = ap (λ o. sum_below (block_weight w) (blocks_of o) b) at_f in
      let most = h f block at_f at_block in
      (record { now = (ordered.each s.frame.function f at_f).each b block at_block; callers = sound.callers }, omega arith)))

  nothing_left : (s : State) → s.frame.spot.rest ≡ [] → sum_of w.line s.frame.spot.rest ≡ 0
  nothing_left s e = ap (sum_of w.line) e

  lower_pays : (s : State) (b : ℕ) → AllOrdered u → Sound s → s.frame.spot.rest ≡ [] → b < s.frame.spot.block → Pays (potential s) (w.exit s.frame.spot.exit) (goes_to u g b s.fuel s)
  lower_pays s b ordered sound e lt =
      let here = nothing_left s e in
      to_pays s b s.fuel (w.exit s.frame.spot.exit) (potential s) ordered sound (omega arith) (λ f block at_f at.
      let blocks : sum_below (block_weight w) (blocks_of (slice_get u.functions.items s.frame.function)) s.frame.spot.block ≡ sum_below (block_weight w) f.blocks.items s.frame.spot.block = ap (λ o. sum_below (block_weight w) (blocks_of o) s.frame.spot.block) at_f in
      let most = upto (block_weight w) f.blocks.items b s.frame.spot.block block at lt in
      omega arith)

  more_fuel : (s : State) (less : ℕ) → s.fuel ≡ suc less → s.fuel * total w u ≡ total w u + less * total w u
  more_fuel s less f = ap (λ n. n * total w u) f ∙ omega arith

  turn_pays : (s : State) (less b : ℕ) → AllOrdered u → Sound s → s.frame.spot.rest ≡ [] → s.fuel ≡ suc less → Pays (potential s) (w.exit s.frame.spot.exit) (goes_to u g b less s)
  turn_pays s less b ordered sound e paid =
      let here = nothing_left s e in
      let more = more_fuel s less paid in
      to_pays s b less (w.exit s.frame.spot.exit) (potential s) ordered sound (omega arith) (λ f block at_f at.
      let within = function_within w u.functions.items s.frame.function f at_f in
      let most = upto_all (block_weight w) f.blocks.items b block at in
      omega arith)

  back_pays : (s : State) (callers : List Frame) (v : Value) → Sound s → callers ≡ s.callers → s.frame.spot.rest ≡ [] → AllDescend callers → Pays (potential s) (w.exit s.frame.spot.exit) (back u g callers v s)
  back_pays s [] v sound e nothing all =
      let here = nothing_left s nothing in
      checked_pays (potential s) (w.exit s.frame.spot.exit) (number_of v) _ (omega arith) (λ n is. omega arith)
  back_pays s (x ∷ callers) v sound e nothing all =
      let here : left_of (x ∷ callers) ≡ left_of s.callers = ap left_of e in
      (record { now = all.0; callers = all.1 }, omega arith)

  chosen_below : (holds : Bool) (x y b : ℕ) → x < b → y < b → (if holds then x else y) < b
  chosen_below true x y b p q = p
  chosen_below false x y b p q = q

  leaves_pays : (s : State) (exit : Exit) → AllOrdered u → s.frame.spot.exit ≡ exit → s.frame.spot.rest ≡ [] → Sound s → Pays (potential s) (w.exit s.frame.spot.exit) (leaves u g exit s)
  leaves_pays s (Jump b) ordered e nothing sound = lower_pays s b ordered sound nothing (subst (λ x. Descends x s.frame.spot.block) e sound.now)
  leaves_pays s (Turn b) ordered e nothing sound =
      takes_pays (potential s) (w.exit s.frame.spot.exit) s.fuel s.output (λ fuel. goes_to u g b fuel s) (omega arith) (λ less paid. turn_pays s less b ordered sound nothing paid)
  leaves_pays s (Branch on x y) ordered e nothing sound =
      let d = subst (λ x. Descends x s.frame.spot.block) e sound.now in
      checked_pays (potential s) (w.exit s.frame.spot.exit) (condition s.store (s.frame.registers on)) _ (omega arith) (λ holds is. lower_pays s (if holds then x else y) ordered sound nothing (chosen_below holds x y s.frame.spot.block d.0 d.1))
  leaves_pays s (Return from) ordered e nothing sound = back_pays s s.callers _ sound refl nothing sound.callers

  -- a new activation
  new_pays : (s : State) (i n before fuel : ℕ) (f : Function) (active : Active) (registers : ℕ → Value) (callers : List Frame) (block : Block) → AllOrdered u → slice_get u.functions.items i ≡ Some f → slice_get f.blocks.items f.entry ≡ Some block → AllDescend callers → n + (fuel * total w u + blocks_weight w f.blocks.items + left_of callers) ≤ before → Pays before n (activates i f active registers callers fuel block s)
  new_pays s i n before fuel f active registers callers block ordered at_f at_block all le =
      let blocks : sum_below (block_weight w) (blocks_of (slice_get u.functions.items i)) f.entry ≡ sum_below (block_weight w) f.blocks.items f.entry = ap (λ o. sum_below (block_weight w) (blocks_of o) f.entry) at_f in
      let most = upto_all (block_weight w) f.blocks.items f.entry block at_block in
      (record { now = (ordered.each i f at_f).each f.entry block at_block; callers = all }, omega arith)

  either_pays : (before n : ℕ) (b : Bool) (x y : Next) → Pays before n x → Pays before n y → Pays before n (if b then x else y)
  either_pays before n true x y p q = p
  either_pays before n false x y p q = q

  enters_pays : (s : State) (i first count n before fuel : ℕ) (registers : ℕ → Value) (callers : List Frame) → AllOrdered u → n ≤ before + slack → AllDescend callers → ((f : Function) → slice_get u.functions.items i ≡ Some f → n + (fuel * total w u + blocks_weight w f.blocks.items + left_of callers) ≤ before) → Pays before n (enters u g i first count registers callers fuel s)
  enters_pays s i first count n before fuel registers callers ordered le all h =
      checked_pays before n (found (slice_get u.functions.items i)) _ le (λ f is_f.
      let at_f = found_is (slice_get u.functions.items i) f is_f in
      either_pays before n (nat_le (next_active u g i s).depth g.stack) _ _
      (checked_pays before n (found (slice_get f.blocks.items f.entry)) _ le (λ block is_block.
      new_pays s i n before fuel f (next_active u g i s) _ callers block ordered at_f (found_is (slice_get f.blocks.items f.entry) block is_block) all (h f at_f)))
      le)

  call_pays : (s : State) (to i first count : ℕ) (rest : List Line) → AllOrdered u → s.frame.spot.rest ≡ Call to i first count ∷ rest → Sound s → Pays (potential s) (w.line (Call to i first count) + w.entry) (does u g (Call to i first count) rest s)
  call_pays s to i first count rest ordered e sound =
      let line = Call to i first count in
      let here = rest_is s line rest e in
      takes_pays (potential s) (w.line line + w.entry) s.fuel s.output _ (omega arith) (λ less paid.
      let more = more_fuel s less paid in
      enters_pays s i first count (w.line line + w.entry) (potential s) less s.frame.registers (waiting u g s.frame to rest ∷ s.callers) ordered (omega arith) (sound.now, sound.callers) (λ f at_f.
      let within = function_within w u.functions.items i f at_f in
      omega arith))

  -- a service
  served_pays : (s : State) (line : Line) (to : ℕ) (v : Value) (rest : List Line) (input output : List ℕ) (less : ℕ) → s.frame.spot.rest ≡ line ∷ rest → s.fuel ≡ suc less → Sound s → Pays (potential s) (w.line line + w.routine) (served u g to v rest input output less s)
  served_pays s line to v rest input output less e paid sound =
      let more = more_fuel s less paid in
      line_pays s line rest _ s.store input output less w.routine (Serves ∷ []) e (omega arith) sound

  does_pays : (s : State) (line : Line) (rest : List Line) → AllOrdered u → s.frame.spot.rest ≡ line ∷ rest → Sound s → Pays (potential s) (line_weight w line) (does u g line rest s)
  does_pays s (Put to z) rest ordered e sound = computes_pays s _ to (Fine (Number z)) rest e sound
  does_pays s (PutNull to) rest ordered e sound = computes_pays s _ to (Fine Null) rest e sound
  does_pays s (Copy to from) rest ordered e sound = computes_pays s _ to (Fine (s.frame.registers from)) rest e sound
  does_pays s (Convert to kind from) rest ordered e sound = computes_pays s _ to _ rest e sound
  does_pays s (Unary to op kind from) rest ordered e sound = computes_pays s _ to _ rest e sound
  does_pays s (Not to from) rest ordered e sound = computes_pays s _ to _ rest e sound
  does_pays s (Compute to op kind left right) rest ordered e sound = computes_pays s _ to _ rest e sound
  does_pays s (Compare to op kind left right) rest ordered e sound = computes_pays s _ to _ rest e sound
  does_pays s (Move to size back pointer by) rest ordered e sound = computes_pays s _ to _ rest e sound
  does_pays s (Distance to size left right) rest ordered e sound = computes_pays s _ to _ rest e sound
  does_pays s (Address to place) rest ordered e sound = computes_pays s _ to _ rest e sound
  does_pays s (Read to place kind access) rest ordered e sound = reads_pays s _ to (site_of access kind) _ rest e sound
  does_pays s (Write place kind from access) rest ordered e sound = writes_pays s _ (site_of access kind) _ rest e sound
  does_pays s (Reload to slot access) rest ordered e sound = reads_pays s _ to (slot_site access slot) _ rest e sound
  does_pays s (Spill slot from access) rest ordered e sound = writes_pays s _ (slot_site access slot) _ rest e sound
  does_pays s (Cut cause) rest ordered e sound = plain_pays s (Cut cause) rest s.frame.registers s.store (Cuts ∷ []) e sound
  does_pays s (Call to i first count) rest ordered e sound = call_pays s to i first count rest ordered e sound
  does_pays s (Serve to service from) rest ordered e sound =
      let here = rest_is s (Serve to service from) rest e in
      takes_pays (potential s) (w.line (Serve to service from) + w.routine) s.fuel s.output _ (omega arith) (λ less paid.
      checked_pays (potential s) (w.line (Serve to service from) + w.routine) (argument from s.frame.registers) _ (omega arith) (λ z is.
      served_pays s (Serve to service from) to _ rest _ _ less e paid sound))

  step_pays : (s : State) (lines : List Line) → AllOrdered u → s.frame.spot.rest ≡ lines → Sound s → Pays (potential s) (next_weight w lines s.frame.spot.exit) (step_at u g lines s)
  step_pays s [] ordered e sound = leaves_pays s s.frame.spot.exit ordered refl e sound
  step_pays s (line ∷ rest) ordered e sound = does_pays s line rest ordered e sound

  after_pays : (before n : ℕ) (next : Next) (go : State → ℕ) → Pays before n next → ((s : State) → Sound s → go s ≤ potential s + slack) → n + after next go ≤ before + slack
  after_pays before n (Stops o events) go p h = omega arith
  after_pays before n (Goes s events) go p h = omega (arith, h s p.0, p.1)

  -- whatever the lines weigh
  spent_within : (k : ℕ) (s : State) → AllOrdered u → Sound s → spent u g w k s ≤ potential s + slack
  spent_within zero s ordered sound = omega arith
  spent_within (suc k) s ordered sound =
      after_pays (potential s) (spot_weight w s.frame.spot) (step u g s) (spent u g w k) (step_pays s s.frame.spot.rest ordered refl sound) (λ t f. spent_within k t ordered f)

  -- after a start that leaves at most so much
  begun_pays : (bound : ℕ) (next : Next) (go : State → ℕ) → Pays bound 0 next → ((s : State) → Sound s → go s ≤ potential s + slack) → after next go ≤ bound + slack
  begun_pays bound next go p h = let all = after_pays bound 0 next go p h in omega arith

  missing : {A : Type 0} (o : Option A) (next : A → Next) (go : State → ℕ) → o ≡ None → after (on_checked (found o) next) go ≡ 0
  missing None next go e = refl
  missing (Some a) next go e = cc

  started : (n k : ℕ) → AllOrdered u → (o : Option Function) → slice_get u.functions.items u.main ≡ o → after (start u g n) (spent u g w k) ≤ (n + 1) * total w u
  started n k ordered None e =
      let nothing : after (start u g n) (spent u g w k) ≡ 0 = missing (slice_get u.functions.items u.main) _ (spent u g w k) e in
      omega arith
  started n k ordered (Some f) e =
      let within = function_within w u.functions.items u.main f e in
      let bound = n * total w u + blocks_weight w f.blocks.items in
      let pays = enters_pays (before u g n) u.main 0 0 0 bound n (λ r. Unset) [] ordered (omega arith) tt (λ h at_h.
      let one : Some h ≡ Some f = sym at_h ∙ e in
      let same : blocks_weight w h.blocks.items ≡ blocks_weight w f.blocks.items = ap (λ o. blocks_weight w (blocks_of o)) one in
      omega arith) in
      let all = begun_pays bound (start u g n) (spent u g w k) pays (λ s sound. spent_within k s ordered sound) in
      omega arith

pub each_once : (u : Code) (g : Setting) (w : Weights) (n k : ℕ) → AllOrdered u → after (start u g n) (spent u g w k) ≤ (n + 1) * total w u
each_once u g w n k ordered = started u g w n k ordered (slice_get u.functions.items u.main) refl

-- Blocks that are made stay as they are while more are made, but for those of loop edges, which are set once.
use Rattle.std.proofs.Common.{◌≡◌, ℕ, zero, suc, ◌+◌, ◌<◌, ◌≤◌, List, [], ◌∷◌, ◌++◌, length, refl, ap, sym, ◌∙◌, subst, Some, slice_get, slice_set, arith}
use Rattle.std.proofs.lemmas.List.{length-append, length-set}
use Rattle.std.proofs.lemmas.Option.{slice_get_within}
use Rattle.im_block.specs.declared.code.Line.{Line}
use Rattle.im_block.specs.declared.code.Place.{Place}
use Rattle.im_block.specs.declared.code.Exit.{Exit}
use Rattle.im_block.specs.declared.code.Exit.TheVariants.{Jump, Turn}
use Rattle.im_block.specs.declared.code.Block.{Block}
use Rattle.im_num.specs.declared.kind.Kind.{Kind}
use Rattle.im_lower_relation.specs.Codes.{Point, ends, Begins}
use Rattle.im_lower_plain.specs.Made.{Made, put, put_read, put_write, close, start, turn}

-- lists

pub got_before : {X : Type 0} (xs ys : List X) (i : ℕ) (x : X) → slice_get xs i ≡ Some x → slice_get (xs ++ ys) i ≡ Some x
got_before [] ys i x e = cc
got_before (y ∷ xs) ys zero x e = e
got_before (y ∷ xs) ys (suc i) x e = got_before xs ys i x e

pub got_last : {X : Type 0} (xs : List X) (y : X) → slice_get (xs ++ y ∷ []) (length xs) ≡ Some y
got_last [] y = refl
got_last (x ∷ xs) y = got_last xs y

pub got_other : {X : Type 0} (xs : List X) (k b : ℕ) (v : X) → (b ≡ k → ⊥) → slice_get (slice_set xs k v) b ≡ slice_get xs b
got_other [] k b v ne = refl
got_other (x ∷ xs) zero zero v ne = absurd (ne refl)
got_other (x ∷ xs) zero (suc b) v ne = refl
got_other (x ∷ xs) (suc k) zero v ne = refl
got_other (x ∷ xs) (suc k) (suc b) v ne = got_other xs k b v (λ e. ne (ap suc e))

pub got_same : {X : Type 0} (xs : List X) (k : ℕ) (v : X) → k < length xs → slice_get (slice_set xs k v) k ≡ Some v
got_same [] k v lt = absurd (omega arith)
got_same (x ∷ xs) zero v lt = refl
got_same (x ∷ xs) (suc k) v lt = let less : k < length xs = omega arith in got_same xs k v less

pub record Grows (old new : Made) : Type 0 where
  pub longer : length old.blocks ≤ length new.blocks
  pub same : (b : ℕ) (p : Point) → slice_get old.blocks b ≡ Some p → slice_get new.blocks b ≡ Some p

pub stays : (m : Made) → Grows m m
stays m = record { longer = omega arith; same = λ b p e. e }

pub grows_on : {a b c : Made} → Grows a b → Grows b c → Grows a c
grows_on x y =
    let one = x.longer in
    let two = y.longer in
    record { longer = omega arith; same = λ b p e. y.same b p (x.same b p e) }

pub one_more : (bs : List Point) (p : Point) → length (bs ++ p ∷ []) ≡ length bs + 1
one_more bs p = length-append bs (p ∷ [])

-- what a change of the code does to its blocks

pub put_blocks : (line : Line) (m : Made) → (put line m).blocks ≡ m.blocks
unfolding put
put_blocks line m = refl

pub read_blocks : (to : ℕ) (place : Place) (kind : Kind) (m : Made) → (put_read to place kind m).blocks ≡ m.blocks
unfolding put put_read
read_blocks to place kind m = refl

pub write_blocks : (place : Place) (kind : Kind) (from : ℕ) (m : Made) → (put_write place kind from m).blocks ≡ m.blocks
unfolding put put_write
write_blocks place kind from m = refl

pub start_blocks : (exit : Exit) (m : Made) → (start exit m).blocks ≡ m.blocks
unfolding start
start_blocks exit m = refl

pub close_blocks : (m : Made) → (close m).blocks ≡ m.blocks ++ m.point ∷ []
unfolding close
close_blocks m = refl

pub turn_blocks : (block body : ℕ) (m : Made) → (turn block body m).blocks ≡ slice_set m.blocks block (ends (Turn body))
unfolding turn
turn_blocks block body m = refl

pub close_length : (m : Made) → length (close m).blocks ≡ length m.blocks + 1
close_length m = ap (λ (bs : List Point). length bs) (close_blocks m) ∙ one_more m.blocks m.point

pub grows_close : {m n : Made} → Grows m n → Grows m (close n)
grows_close {m} {n} h =
    let longer = h.longer in
    let l = close_length n in
    record {
      longer = omega arith;
      same = λ b p e. subst (λ bs. slice_get bs b ≡ Some p) (sym (close_blocks n)) (got_before n.blocks (n.point ∷ []) b p (h.same b p e));
    }

pub grows_same : {m n : Made} (k : Made) → k.blocks ≡ n.blocks → Grows m n → Grows m k
grows_same {m} k e h =
    let longer = h.longer in
    let l = ap {B = ℕ} (λ (bs : List Point). length bs) e in
    record { longer = omega arith; same = λ b p q. subst (λ bs. slice_get bs b ≡ Some p) (sym e) (h.same b p q) }

pub grows_put : {m n : Made} (line : Line) → Grows m n → Grows m (put line n)
grows_put {m} {n} line h = grows_same (put line n) (put_blocks line n) h

pub grows_read : {m n : Made} (to : ℕ) (place : Place) (kind : Kind) → Grows m n → Grows m (put_read to place kind n)
grows_read {m} {n} to place kind h = grows_same (put_read to place kind n) (read_blocks to place kind n) h

pub grows_write : {m n : Made} (place : Place) (kind : Kind) (from : ℕ) → Grows m n → Grows m (put_write place kind from n)
grows_write {m} {n} place kind from h = grows_same (put_write place kind from n) (write_blocks place kind from n) h

pub grows_start : {m n : Made} (exit : Exit) → Grows m n → Grows m (start exit n)
grows_start {m} {n} exit h = grows_same (start exit n) (start_blocks exit n) h

-- a loop edge that was made in between is set
pub grows_turn : {m n : Made} (block body : ℕ) → length m.blocks ≤ block → Grows m n → Grows m (turn block body n)
grows_turn {m} {n} block body late h =
    let e = turn_blocks block body n in
    let l : length (turn block body n).blocks ≡ length n.blocks = ap (λ (bs : List Point). length bs) e ∙ length-set n.blocks block (ends (Turn body)) in
    let longer = h.longer in
    record {
      longer = omega arith;
      same = λ b p q.
          let within : b < length m.blocks = slice_get_within m.blocks b p q in
          let other : b ≡ block → ⊥ = λ z. absurd (omega arith) in
          subst (λ bs. slice_get bs b ≡ Some p) (sym e) (got_other n.blocks block b (ends (Turn body)) other ∙ h.same b p q);
    }

-- blocks of the whole function, which those that are made from a number on are

pub record Later (low : ℕ) (made : Made) (later : List Block) : Type 0 where
  pub each : (b : ℕ) (p : Point) → low ≤ b → slice_get made.blocks b ≡ Some p → Begins later b p

pub later_from : {low : ℕ} {made : Made} {later : List Block} (high : ℕ) → low ≤ high → Later low made later → Later high made later
later_from {low} high h l = record { each = λ b p le e. l.each b p (let more : low ≤ b = omega arith in more) e }

pub later_before : {low : ℕ} {old new : Made} {later : List Block} → Grows old new → Later low new later → Later low old later
later_before h l = record { each = λ b p le e. l.each b p le (h.same b p e) }

-- the block that is closed begins at its point
pub closed_begins : {low : ℕ} {later : List Block} (m : Made) → low ≤ length m.blocks → Later low (close m) later → Begins later (length m.blocks) m.point
closed_begins m le l =
    l.each (length m.blocks) m.point le
    (subst (λ bs. slice_get bs (length m.blocks) ≡ Some m.point) (sym (close_blocks m)) (got_last m.blocks m.point))

-- what the points are

pub put_point : (line : Line) (m : Made) → (put line m).point ≡ record m.point { rest = line ∷ m.point.rest }
unfolding put
put_point line m = refl

pub start_point : (exit : Exit) (m : Made) → (start exit m).point ≡ ends exit
unfolding start
start_point exit m = refl

pub close_point : (m : Made) → (close m).point ≡ ends (Jump (length m.blocks))
unfolding close
close_point m = refl

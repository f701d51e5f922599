-- A result goes home; arguments come to x10 and on.
use Rattle.std.proofs.Common.{◌≡◌, ◌≢◌, ℕ, zero, suc, ◌+◌, ◌<◌, ◌≤◌, ◌⊎◌, inl, inr, Bool, true, false, cond, List, [], ◌∷◌, ◌++◌, sym, ap, ◌∙◌, subst, refl, arith}
use Rattle.std.specs.Prelude.{◌==◌, ◌&&◌, not}
use Rattle.std.proofs.lemmas.Bool.Decides.{nat_tests}
use Rattle.im_store.specs.Objects.{Name, Named, Slot, Link, Object, Value, Store, same_name, same_object}
use Rattle.im_store.specs.Access.{with_value}
use Rattle.im_block.specs.declared.code.Line.{Line}
use Rattle.im_block.specs.declared.code.Exit.{Exit}
use Rattle.im_block.specs.declared.unit.Unit.{Unit as Code}
use Rattle.im_block.specs.Meaning.{Setting, Active, slot_site, Event, Writes, Frame, State, with_register}
use Rattle.im_alloc_relation.specs.Homes.{Home, InRegister, InSlot, reg, save, into, give, bring}
use Rattle.im_alloc_relation.specs.Placing.{KeepsHomes}
use Rattle.im_alloc_relation.proofs.Seen.{Refines, refines_at, is_slot}
use Rattle.im_alloc_relation.proofs.Walks.{plus, heard, heard_first, Walk, walk_none, walk_one, walk_join, twin, own_slot, at_home, WaitsFor, Callers, Held, truth, same_register, other_register, with_slot, slot_write, held_scratch, Loaded, into_home}

pub two_ways : (k i : ℕ) → (k ≡ i) ⊎ (k ≢ i)
two_ways k i = grind arith

both_true : (a b : Bool) → (a && b) ≡ true → (a ≡ true) × (b ≡ true)
both_true true b h = (refl, h)
both_true false b h = absurd cc

equal_true : (a b : ℕ) → (a == b) ≡ true → a ≡ b
equal_true a b h = grind (arith, nat_tests)

same_number : (n : ℕ) → (n == n) ≡ true
same_number n = grind (arith, nat_tests)

-- another slot, or no slot
slot_true : (a : Name) (n : ℕ) → same_name a (Slot n) ≡ true → a ≡ Slot n
slot_true (Named m) n h = absurd cc
slot_true (Slot m) n h = ap Slot (equal_true m n h)
slot_true Link n h = absurd cc

pub value_same : (vs : Object → ℕ → Value) (by : Active) (n : ℕ) (x : Value) → with_value vs (own_slot by n) 0 x (own_slot by n) 0 ≡ x
value_same vs by n x =
    let t : same_object (own_slot by n) (own_slot by n) ≡ true = ap (λ z. z && (by.depth == by.depth) && (n == n)) (same_number by.number) ∙ ap (λ z. z && (n == n)) (same_number by.depth) ∙ same_number n in
    ap (λ b. cond (b && true) x (vs (own_slot by n) 0)) t

pub value_other : (vs : Object → ℕ → Value) (by : Active) (n : ℕ) (x : Value) (q : Object) (j : ℕ) → (q.activation ≡ by.number → q.name ≡ Slot n → ⊥) → with_value vs (own_slot by n) 0 x q j ≡ vs q j
value_other vs by n x q j apart = elim (truth (same_object q (own_slot by n))) [
  | inl t ↦ absurd (let e = both_true (q.activation == by.number && q.depth == by.depth) (same_name q.name (Slot n)) t in let f = both_true (q.activation == by.number) (q.depth == by.depth) e.0 in apart (equal_true q.activation by.number f.0) (slot_true q.name n e.1))
  | inr f ↦ ap (λ b. cond (b && j == 0) x (vs q j)) f
]

-- callers need their own slots alone
pub callers_kept : (u v : Code) (st st' : Store) (a : ℕ) (ws xs : List Frame) → ((o : Object) → is_slot o.name ≡ true → o.activation < a → (st'.values o 0 ≡ st.values o 0) × (st'.shape o ≡ st.shape o)) → Callers u v st a ws xs → Callers u v st' a ws xs
callers_kept u v st st' a [] [] same c = tt
callers_kept u v st st' a [] (x ∷ xs) same c = absurd c
callers_kept u v st st' a (w ∷ ws) [] same c = absurd c
callers_kept u v st st' a (w ∷ ws) (x ∷ xs) same c =
    let k : WaitsFor u v st w x = c.0 in
    let below = c.1 in (
      record {
        f = k.f;
        g = k.g;
        is_f = k.is_f;
        is_g = k.is_g;
        pf = k.pf;
        give_number = k.give_number;
        n = k.n;
        e = k.e;
        is = k.is;
        valid = k.valid;
        there = k.there;
        survives = λ q t ne. let e = k.survives q t ne in (e.0, e.1, e.2, refines_at (w.registers q) _ (st.values (own_slot w.active e.0) 0) _ refl (same (own_slot w.active e.0) refl below).0 e.3);
        own = λ q n e. (same (own_slot w.active n) refl below).1 ∙ k.own q n e;
      },
      below,
      callers_kept u v st st' w.active.number ws xs (λ o t l. same o t (omega arith)) c.2,
    )

abbrev pub set : State → ℕ → Value → State
set s to b = record s { frame = record s.frame { registers = with_register s.frame.registers to b } }

abbrev pub without : ℕ → (ℕ → Bool) → ℕ → Bool
without to after q = not (q == to) && after q

pub is_without : (to q : ℕ) (after : ℕ → Bool) → after q ≡ true → q ≢ to → without to after q ≡ true
is_without to q after t ne = let e : (q == to) ≡ false = grind (arith, nat_tests) in ap (λ b. not b && after q) e ∙ t

-- homes that are kept are other registers
pub held_set_register : (u v : Code) (s : State) (h : ℕ → Home) (after : ℕ → Bool) (to : ℕ) (b x : Value) (r : ℕ) (y : ℕ → Value) (xs : List Frame) (st : Store) → h to ≡ InRegister r → KeepsHomes h to after → Refines b x → Held u v s h (without to after) y xs st → Held u v (set s to b) h after (with_register y r x) xs st
held_set_register u v s h after to b x r y xs st e keeps m k = record {
  agrees = λ q t. elim (two_ways q to) [ inl i ↦ same q i | inr ne ↦ other q t ne (h q) refl (k.agrees q (is_without to q after t ne)) ];
  own = k.own;
  free = k.free;
  seen = k.seen;
  unseen = k.unseen;
  holds = k.holds;
  callers = k.callers;
  fresh = k.fresh;
}
  where
    same : (q : ℕ) → q ≡ to → Refines (with_register s.frame.registers to b q) (at_home (h q) s.frame.active (with_register y r x) st)
    same q i = subst (λ z. Refines (with_register s.frame.registers to b z) (at_home (h z) s.frame.active (with_register y r x) st)) (sym i)
        (refines_at b _ x _ (same_register s.frame.registers to b) (ap (λ z. at_home z s.frame.active (with_register y r x) st) e ∙ same_register y r x) m)

    other : (q : ℕ) → after q ≡ true → q ≢ to → (w : Home) → h q ≡ w → Refines (s.frame.registers q) (at_home w s.frame.active y st) → Refines (with_register s.frame.registers to b q) (at_home w s.frame.active (with_register y r x) st)
    other q t ne (InRegister i) f a = refines_at (s.frame.registers q) _ (y i) _ (other_register s.frame.registers to b q ne) (other_register y r x i (λ g. keeps q t ne (f ∙ ap InRegister g ∙ sym e))) a
    other q t ne (InSlot n) f a = refines_at (s.frame.registers q) _ (st.values (own_slot s.frame.active n) 0) _ (other_register s.frame.registers to b q ne) refl a

pub held_set_slot : (u v : Code) (s : State) (h : ℕ → Home) (after : ℕ → Bool) (to : ℕ) (b x : Value) (n : ℕ) (y : ℕ → Value) (xs : List Frame) (st : Store) → h to ≡ InSlot n → KeepsHomes h to after → Refines b x → Held u v s h (without to after) y xs st → Held u v (set s to b) h after y xs (with_slot st s.frame.active n x)
held_set_slot u v s h after to b x n y xs st e keeps m k = record {
  agrees = λ q t. elim (two_ways q to) [ inl i ↦ same q i | inr ne ↦ other q t ne (h q) refl (k.agrees q (is_without to q after t ne)) ];
  own = k.own;
  free = k.free;
  seen = k.seen;
  unseen = k.unseen;
  holds = λ o i f. value_other st.values s.frame.active n x o i (λ a c. not_slot o f c) ∙ k.holds o i f;
  callers = callers_kept u v st (with_slot st s.frame.active n x) s.frame.active.number s.callers xs (λ o t l. (value_other st.values s.frame.active n x o 0 (λ a c. absurd (omega arith)), refl)) k.callers;
  fresh = k.fresh;
}
  where
    not_slot : (o : Object) → is_slot o.name ≡ false → o.name ≡ Slot n → ⊥
    not_slot o f c = let d : true ≡ false = sym (ap is_slot c) ∙ f in cc

    same : (q : ℕ) → q ≡ to → Refines (with_register s.frame.registers to b q) (at_home (h q) s.frame.active y (with_slot st s.frame.active n x))
    same q i = subst (λ z. Refines (with_register s.frame.registers to b z) (at_home (h z) s.frame.active y (with_slot st s.frame.active n x))) (sym i)
        (refines_at b _ x _ (same_register s.frame.registers to b) (ap (λ z. at_home z s.frame.active y (with_slot st s.frame.active n x)) e ∙ value_same st.values s.frame.active n x) m)

    other : (q : ℕ) → after q ≡ true → q ≢ to → (w : Home) → h q ≡ w → Refines (s.frame.registers q) (at_home w s.frame.active y st) → Refines (with_register s.frame.registers to b q) (at_home w s.frame.active y (with_slot st s.frame.active n x))
    other q t ne (InRegister i) f a = refines_at (s.frame.registers q) _ (y i) _ (other_register s.frame.registers to b q ne) refl a
    other q t ne (InSlot i) f a = refines_at (s.frame.registers q) _ (st.values (own_slot s.frame.active i) 0) _ (other_register s.frame.registers to b q ne) (value_other st.values s.frame.active n x (own_slot s.frame.active i) 0 (λ c d. keeps q t ne (f ∙ ap InSlot (one i d) ∙ sym e))) a
      where
        one : (i : ℕ) → Slot i ≡ Slot n → i ≡ n
        one i d = cc

-- the result of a line is at home
pub record Saved (u v : Code) (g : Setting) (s : State) (h : ℕ → Home) (after : ℕ → Bool) (to : ℕ) (b : Value) (lines rest : List Line) (exit : Exit) (y : ℕ → Value) (z : ℕ) (xs : List Frame) (st : Store) : Type 0 where
  pub n : ℕ
  pub ev : List Event
  pub y' : ℕ → Value
  pub st' : Store
  pub walk : Walk v g n ev (twin s lines exit y z xs st) (twin s rest exit y' z xs st')
  pub silent : heard ev ≡ []
  pub held : Held u v (set s to b) h after y' xs st'

pub save_home : (u v : Code) (g : Setting) (s : State) (h : ℕ → Home) (after : ℕ → Bool) (to : ℕ) (b x : Value) (w : Home) (access : ℕ) (rest : List Line) (exit : Exit) (y : ℕ → Value) (z : ℕ) (xs : List Frame) (st : Store) → h to ≡ w → KeepsHomes h to after → Refines b x → Held u v s h (without to after) y xs st → Saved u v g s h after to b (save w access rest) rest exit (with_register y (reg w 7) x) z xs st
save_home u v g s h after to b x (InRegister r) access rest exit y z xs st e keeps m k = record {
  n = 0;
  ev = [];
  y' = with_register y r x;
  st' = st;
  walk = walk_none v g _;
  silent = refl;
  held = held_set_register u v s h after to b x r y xs st e keeps m k;
}
save_home u v g s h after to b x (InSlot n) access rest exit y z xs st e keeps m k =
    let y1 : ℕ → Value = with_register y 7 x in
    let k1 : Held u v s h (without to after) y1 xs st = held_scratch u v s h (without to after) y y1 xs st (λ q r t f. other_register y 7 x r (k.free q r f).0) k in
    record {
      n = 1;
      ev = Writes (slot_site access n) s.frame.active (own_slot s.frame.active n) 0 ∷ [];
      y' = y1;
      st' = with_slot st s.frame.active n (y1 7);
      walk = slot_write v g s 7 n access rest exit y1 z xs st (k.own to n e);
      silent = refl;
      held = held_set_slot u v s h after to b (y1 7) n y1 xs st e keeps (refines_at b _ x _ refl (same_register y 7 x) m) k1;
    }

pub give_home : (u v : Code) (g : Setting) (s : State) (h : ℕ → Home) (after : ℕ → Bool) (to : ℕ) (b : Value) (w : Home) (access : ℕ) (rest : List Line) (exit : Exit) (y : ℕ → Value) (z : ℕ) (xs : List Frame) (st : Store) → h to ≡ w → KeepsHomes h to after → Refines b (y 10) → Held u v s h (without to after) y xs st → Saved u v g s h after to b (give w access rest) rest exit y z xs st
give_home u v g s h after to b (InRegister r) access rest exit y z xs st e keeps m k = record {
  n = 1;
  ev = [];
  y' = with_register y r (y 10);
  st' = st;
  walk = walk_one v g [] _ _ refl;
  silent = refl;
  held = held_set_register u v s h after to b (y 10) r y xs st e keeps m k;
}
give_home u v g s h after to b (InSlot n) access rest exit y z xs st e keeps m k = record {
  n = 1;
  ev = Writes (slot_site access n) s.frame.active (own_slot s.frame.active n) 0 ∷ [];
  y' = y;
  st' = with_slot st s.frame.active n (y 10);
  walk = slot_write v g s 10 n access rest exit y z xs st (k.own to n e);
  silent = refl;
  held = held_set_slot u v s h after to b (y 10) n y xs st e keeps m k;
}

-- arguments come to registers side by side
pub record Brought (u v : Code) (g : Setting) (s : State) (h : ℕ → Home) (after : ℕ → Bool) (k first count : ℕ) (lines rest : List Line) (exit : Exit) (y : ℕ → Value) (z : ℕ) (xs : List Frame) (st : Store) : Type 0 where
  pub n : ℕ
  pub ev : List Event
  pub y' : ℕ → Value
  pub walk : Walk v g n ev (twin s lines exit y z xs st) (twin s rest exit y' z xs st)
  pub silent : heard ev ≡ []
  pub brought : (j : ℕ) → j < count → Refines (s.frame.registers (first + j)) (y' (k + j))
  pub below : (q : ℕ) → q < k → y' q ≡ y q
  pub held : Held u v s h after y' xs st

pub bring_all : (u v : Code) (g : Setting) (s : State) (h : ℕ → Home) (after : ℕ → Bool) (k first count access : ℕ) (rest : List Line) (exit : Exit) (y : ℕ → Value) (z : ℕ) (xs : List Frame) (st : Store) → 10 ≤ k → k + count ≤ 18 → ((q r : ℕ) → first ≤ q → q < first + count → h q ≡ InRegister r → (r < 10) ⊎ (17 < r)) → ((q r : ℕ) → after q ≡ true → h q ≡ InRegister r → ⊥) → ((q : ℕ) → first ≤ q → q < first + count → Refines (s.frame.registers q) (at_home (h q) s.frame.active y st)) → Held u v s h after y xs st → Brought u v g s h after k first count (bring h k first count access rest) rest exit y z xs st
bring_all u v g s h after k first zero access rest exit y z xs st lo hi clear free a m = record {
  n = 0;
  ev = [];
  y' = y;
  walk = walk_none v g _;
  silent = refl;
  brought = λ j l. absurd (omega arith);
  below = λ q l. refl;
  held = m;
}
bring_all u v g s h after k first (suc count) access rest exit y z xs st lo hi clear free a m =
    let one : Loaded u v g s h after (s.frame.registers first) (into (h first) k access (bring h (k + 1) (first + 1) count (access + 1) rest)) (bring h (k + 1) (first + 1) count (access + 1) rest) exit k k y z xs st =
    into_home u v g s h after (s.frame.registers first) (h first) k access (bring h (k + 1) (first + 1) count (access + 1) rest) exit y z xs st (λ q r t e. absurd (free q r t e)) (λ n e. m.own first n e) (a first (omega arith) (omega arith)) m in
    let more : Brought u v g s h after (k + 1) (first + 1) count (bring h (k + 1) (first + 1) count (access + 1) rest) rest exit one.y' z xs st =
    bring_all u v g s h after (k + 1) (first + 1) count (access + 1) rest exit one.y' z xs st (omega arith) (omega arith) (λ q r l t e. clear q r (omega arith) (omega arith) e) free (λ q l t. kept one.y' one.same q (h q) refl (λ r e. clear q r (omega arith) (omega arith) e) (a q (omega arith) (omega arith))) one.held in
    record {
      n = plus one.n more.n;
      ev = one.ev ++ more.ev;
      y' = more.y';
      walk = walk_join v g one.n more.n one.ev more.ev _ _ _ one.walk more.walk;
      silent = heard_first one.ev more.ev one.silent ∙ more.silent;
      brought = at one.y' more.y' (more.below k (omega arith)) one.value more.brought;
      below = λ q l. more.below q (omega arith) ∙ one.same q (omega arith);
      held = more.held;
    }
  where
    apart : (r : ℕ) → (r < 10) ⊎ (17 < r) → r ≢ k
    apart r (inl l) = omega arith
    apart r (inr l) = omega arith

    kept : (y1 : ℕ → Value) → ((q : ℕ) → q ≢ k → y1 q ≡ y q) → (q : ℕ) (w : Home) → h q ≡ w → ((r : ℕ) → h q ≡ InRegister r → (r < 10) ⊎ (17 < r)) → Refines (s.frame.registers q) (at_home (h q) s.frame.active y st) → Refines (s.frame.registers q) (at_home (h q) s.frame.active y1 st)
    kept y1 same q (InRegister r) e c b = subst (λ z. Refines (s.frame.registers q) (at_home z s.frame.active y1 st)) (sym e) (refines_at (s.frame.registers q) _ (y r) _ refl (same r (apart r (c r e))) (subst (λ z. Refines (s.frame.registers q) (at_home z s.frame.active y st)) e b))
    kept y1 same q (InSlot n) e c b = subst (λ z. Refines (s.frame.registers q) (at_home z s.frame.active y1 st)) (sym e) (subst (λ z. Refines (s.frame.registers q) (at_home z s.frame.active y st)) e b)

    at : (y1 y2 : ℕ → Value) → y2 k ≡ y1 k → Refines (s.frame.registers first) (y1 k) → ((j : ℕ) → j < count → Refines (s.frame.registers (first + 1 + j)) (y2 (k + 1 + j))) → (j : ℕ) → j < suc count → Refines (s.frame.registers (first + j)) (y2 (k + j))
    at y1 y2 e m b zero l = refines_at (s.frame.registers first) _ (y1 k) _ (ap s.frame.registers (omega arith)) (ap y2 (omega arith) ∙ e) m
    at y1 y2 e m b (suc j) l = refines_at (s.frame.registers (first + 1 + j)) _ (y2 (k + 1 + j)) _ (ap s.frame.registers (omega arith)) (ap y2 (omega arith)) (b j (omega arith))

-- Every line but calls.
use Rattle.std.proofs.Common.{◌≡◌, ℕ, ◌+◌, inl, inr, Bool, true, false, List, [], ◌∷◌, ◌++◌, sym, ap, ◌∙◌, subst, refl}
use Rattle.std.specs.Prelude.{◌==◌, ◌&&◌, ◌||◌, not, Some, None}
use Rattle.im_num.specs.declared.kind.Kind.{Kind}
use Rattle.im_store.specs.Checks.{Checked, Fine}
use Rattle.im_store.specs.Objects.{Value, Number, Null, Store}
use Rattle.im_store.specs.Access.{with_value}
use Rattle.im_serve.specs.declared.service.Service.{Service}
use Rattle.im_block.specs.declared.code.Place.{Place}
use Rattle.im_block.specs.declared.code.Line.{Line}
use Rattle.im_block.specs.declared.code.Line.TheVariants.{Put, PutNull, Copy, Convert, Unary, Not, Compute, Compare, Move, Distance, Address, Read, Write, Reload, Spill, Cut, Call, Serve}
use Rattle.im_block.specs.declared.code.Exit.{Exit}
use Rattle.im_block.specs.declared.unit.Unit.{Unit as Code}
use Rattle.im_block.specs.Meaning.{Setting, Event, Reads, Writes, Cuts, Frame, State, as_number, as_truth, negation, converted, computed_one, computed, compared, moved, distance_of, place_of, read_place, write_place, site_of, with_rest, computes, reads, writes, does, step}
use Rattle.im_alloc_relation.specs.Homes.{numbers_kept, load, reg, save, load_place, on_place, put_line, past_cut, behind, needed, put_lines, exit_lines, put_exit}
use Rattle.im_alloc_relation.specs.Live.{lives, place_uses}
use Rattle.im_alloc_relation.specs.Placing.{KeepsHomes, ValidLine, Valid}
use Rattle.im_alloc_relation.proofs.Seen.{Refines, refines_at, fine_is, convert_refines, unary_refines, not_refines, compute_refines, compare_refines, move_refines, distance_refines}
use Rattle.im_alloc_relation.proofs.Walks.{plus, heard_first, walk_none, walk_one, walk_join, twin, AllThere, Held, seen_all, Loaded, load_home}
use Rattle.im_alloc_relation.proofs.Results.{without}
use Rattle.im_alloc_relation.proofs.Lines.{Went, After, checked_after, held_less, Known, without_live, or_left, or_right, self, sets_ends, computes_after, PlaceReady, place_ready, not_second, read_refines, Wrote, write_refines, held_write}

-- a line of one operand
unary : (u v : Code) (g : Setting) (s : State) (k : Known u v s) (n e : ℕ) (rest : List Line) (line : ℕ → ℕ → Line) (to from : ℕ) (c : Value → Checked Value) (c' : Value → Checked Value) (y : ℕ → Value) (z : ℕ) (xs : List Frame) (st : Store) → Valid k.pf.home k.pf.live rest s.frame.spot.exit → AllThere u rest → KeepsHomes k.pf.home to (lives k.pf.live rest s.frame.spot.exit) → ((a b : ℕ) (y' : ℕ → Value) (tail : List Line) → step v g (twin s (line a b ∷ tail) (put_exit k.pf.home s.frame.spot.exit) y' z xs st) ≡ computes a (c' (y' b)) tail (twin s (line a b ∷ tail) (put_exit k.pf.home s.frame.spot.exit) y' z xs st)) → ((a x b : Value) → Refines a x → c a ≡ Fine b → (w : Value) × (c' x ≡ Fine w) × Refines b w) → Held u v s k.pf.home (λ q. (q == from) || (not (q == to) && lives k.pf.live rest s.frame.spot.exit q)) y xs st → After u v g (twin s (load (k.pf.home from) 7 n (line (reg (k.pf.home to) 7) (reg (k.pf.home from) 7) ∷ save (k.pf.home to) (n + 2) (put_lines k.pf.home (n + numbers_kept) (needed s.frame.spot.exit rest) (exit_lines k.pf.home e s.frame.spot.exit)))) (put_exit k.pf.home s.frame.spot.exit) y z xs st) (computes to (c (s.frame.registers from)) rest s)
unary u v g s k n e rest line to from c c' y z xs st valid there keeps is gives m =
    let h = k.pf.home in
    let after : ℕ → Bool = lives k.pf.live rest s.frame.spot.exit in
    let live : ℕ → Bool = λ q. (q == from) || (not (q == to) && after q) in
    let tail : List Line = save (h to) (n + 2) (put_lines h (n + numbers_kept) (needed s.frame.spot.exit rest) (exit_lines h e s.frame.spot.exit)) in
    let exit : Exit = put_exit h s.frame.spot.exit in
    let l : Loaded u v g s h live (s.frame.registers from) (load (h from) 7 n (line (reg (h to) 7) (reg (h from) 7) ∷ tail)) (line (reg (h to) 7) (reg (h from) 7) ∷ tail) exit (reg (h from) 7) 7 y z xs st =
    load_home u v g s h live (s.frame.registers from) (h from) 7 n (line (reg (h to) 7) (reg (h from) 7) ∷ tail) exit y z xs st (λ q i f. (m.free q i f).0) (λ i f. m.own from i f) (m.agrees from (or_left (from == from) _ (self from))) m in
    computes_after u v g s k (n + numbers_kept) e (n + 2) rest to (line (reg (h to) 7) (reg (h from) 7)) (c (s.frame.registers from)) (c' (l.y' (reg (h from) 7))) _ l.n l.ev l.y' z xs st valid there keeps l.walk l.silent
    (is (reg (h to) 7) (reg (h from) 7) l.y' tail)
    (λ b f. gives (s.frame.registers from) (l.y' (reg (h from) 7)) b l.value f)
    (held_less u v s h live (without to after) l.y' xs st (λ q t. without_live (q == from) q to after t) l.held)

-- a line of two operands
binary : (u v : Code) (g : Setting) (s : State) (k : Known u v s) (n e : ℕ) (rest : List Line) (line : ℕ → ℕ → ℕ → Line) (to left right : ℕ) (c : Value → Value → Checked Value) (c' : Value → Value → Checked Value) (y : ℕ → Value) (z : ℕ) (xs : List Frame) (st : Store) → Valid k.pf.home k.pf.live rest s.frame.spot.exit → AllThere u rest → KeepsHomes k.pf.home to (lives k.pf.live rest s.frame.spot.exit) → ((a b d : ℕ) (y' : ℕ → Value) (tail : List Line) → step v g (twin s (line a b d ∷ tail) (put_exit k.pf.home s.frame.spot.exit) y' z xs st) ≡ computes a (c' (y' b) (y' d)) tail (twin s (line a b d ∷ tail) (put_exit k.pf.home s.frame.spot.exit) y' z xs st)) → ((a x d w b : Value) → Refines a x → Refines d w → c a d ≡ Fine b → c' x w ≡ Fine b) → Held u v s k.pf.home (λ q. ((q == left) || (q == right)) || (not (q == to) && lives k.pf.live rest s.frame.spot.exit q)) y xs st → After u v g (twin s (load (k.pf.home left) 7 n (load (k.pf.home right) 8 (n + 1) (line (reg (k.pf.home to) 7) (reg (k.pf.home left) 7) (reg (k.pf.home right) 8) ∷ save (k.pf.home to) (n + 2) (put_lines k.pf.home (n + numbers_kept) (needed s.frame.spot.exit rest) (exit_lines k.pf.home e s.frame.spot.exit))))) (put_exit k.pf.home s.frame.spot.exit) y z xs st) (computes to (c (s.frame.registers left) (s.frame.registers right)) rest s)
binary u v g s k n e rest line to left right c c' y z xs st valid there keeps is gives m =
    let h = k.pf.home in
    let after : ℕ → Bool = lives k.pf.live rest s.frame.spot.exit in
    let live : ℕ → Bool = λ q. ((q == left) || (q == right)) || (not (q == to) && after q) in
    let one : Line = line (reg (h to) 7) (reg (h left) 7) (reg (h right) 8) in
    let tail : List Line = save (h to) (n + 2) (put_lines h (n + numbers_kept) (needed s.frame.spot.exit rest) (exit_lines h e s.frame.spot.exit)) in
    let exit : Exit = put_exit h s.frame.spot.exit in
    let l : Loaded u v g s h live (s.frame.registers left) (load (h left) 7 n (load (h right) 8 (n + 1) (one ∷ tail))) (load (h right) 8 (n + 1) (one ∷ tail)) exit (reg (h left) 7) 7 y z xs st =
    load_home u v g s h live (s.frame.registers left) (h left) 7 n (load (h right) 8 (n + 1) (one ∷ tail)) exit y z xs st (λ q i f. (m.free q i f).0) (λ i f. m.own left i f) (m.agrees left (or_left ((left == left) || (left == right)) _ (or_left (left == left) _ (self left)))) m in
    let m1 = l.held in
    let l2 : Loaded u v g s h live (s.frame.registers right) (load (h right) 8 (n + 1) (one ∷ tail)) (one ∷ tail) exit (reg (h right) 8) 8 l.y' z xs st =
    load_home u v g s h live (s.frame.registers right) (h right) 8 (n + 1) (one ∷ tail) exit l.y' z xs st (λ q i f. (m.free q i f).1) (λ i f. m.own right i f) (m1.agrees right (or_left ((right == left) || (right == right)) _ (or_right (right == left) _ (self right)))) l.held in
    let first : Refines (s.frame.registers left) (l2.y' (reg (h left) 7)) = refines_at (s.frame.registers left) _ (l.y' (reg (h left) 7)) _ refl (l2.same (reg (h left) 7) (not_second (h left) (λ i f. (m.free left i f).1))) l.value in
    computes_after u v g s k (n + numbers_kept) e (n + 2) rest to one (c (s.frame.registers left) (s.frame.registers right)) (c' (l2.y' (reg (h left) 7)) (l2.y' (reg (h right) 8))) _ (plus l.n l2.n) (l.ev ++ l2.ev) l2.y' z xs st valid there keeps
    (walk_join v g l.n l2.n l.ev l2.ev _ _ _ l.walk l2.walk) (heard_first l.ev l2.ev l.silent ∙ l2.silent)
    (is (reg (h to) 7) (reg (h left) 7) (reg (h right) 8) l2.y' tail)
    (λ b f. (b, gives (s.frame.registers left) (l2.y' (reg (h left) 7)) (s.frame.registers right) (l2.y' (reg (h right) 8)) b first l2.value f, inr refl))
    (held_less u v s h live (without to after) l2.y' xs st (λ q t. without_live ((q == left) || (q == right)) q to after t) l2.held)

-- a line of none
nullary : (u v : Code) (g : Setting) (s : State) (k : Known u v s) (n e : ℕ) (rest : List Line) (line : ℕ → Line) (to : ℕ) (b : Value) (y : ℕ → Value) (z : ℕ) (xs : List Frame) (st : Store) → Valid k.pf.home k.pf.live rest s.frame.spot.exit → AllThere u rest → KeepsHomes k.pf.home to (lives k.pf.live rest s.frame.spot.exit) → ((a : ℕ) (tail : List Line) → step v g (twin s (line a ∷ tail) (put_exit k.pf.home s.frame.spot.exit) y z xs st) ≡ computes a (Fine b) tail (twin s (line a ∷ tail) (put_exit k.pf.home s.frame.spot.exit) y z xs st)) → Held u v s k.pf.home (λ q. false || (not (q == to) && lives k.pf.live rest s.frame.spot.exit q)) y xs st → After u v g (twin s (line (reg (k.pf.home to) 7) ∷ save (k.pf.home to) (n + 2) (put_lines k.pf.home (n + numbers_kept) (needed s.frame.spot.exit rest) (exit_lines k.pf.home e s.frame.spot.exit))) (put_exit k.pf.home s.frame.spot.exit) y z xs st) (computes to (Fine b) rest s)
nullary u v g s k n e rest line to b y z xs st valid there keeps is m =
    let h = k.pf.home in
    let after : ℕ → Bool = lives k.pf.live rest s.frame.spot.exit in
    computes_after u v g s k (n + numbers_kept) e (n + 2) rest to (line (reg (h to) 7)) (Fine b) (Fine b) _ 0 [] y z xs st valid there keeps (walk_none v g _) refl
    (is (reg (h to) 7) _) (λ x f. (b, refl, inr (sym (fine_is b x f))))
    (held_less u v s h _ (without to after) y xs st (λ q t. t) m)

same_value : (a x b : Value) → Refines a x → Fine a ≡ Fine b → (w : Value) × (Fine x ≡ Fine w) × Refines b w
same_value a x b r f = (x, refl, refines_at a b x x (sym (fine_is a b f)) refl r)

-- a read
read_line : (u v : Code) (g : Setting) (s : State) (k : Known u v s) (n e : ℕ) (rest : List Line) (to : ℕ) (place : Place) (kind : Kind) (access : ℕ) (y : ℕ → Value) (z : ℕ) (xs : List Frame) (st : Store) → Valid k.pf.home k.pf.live rest s.frame.spot.exit → AllThere u rest → KeepsHomes k.pf.home to (lives k.pf.live rest s.frame.spot.exit) → Held u v s k.pf.home (lives k.pf.live (Read to place kind access ∷ rest) s.frame.spot.exit) y xs st → After u v g (twin s (put_line k.pf.home n (Read to place kind access) (put_lines k.pf.home (n + numbers_kept) (needed s.frame.spot.exit rest) (exit_lines k.pf.home e s.frame.spot.exit))) (put_exit k.pf.home s.frame.spot.exit) y z xs st) (does u g (Read to place kind access) rest s)
read_line u v g s k n e rest to place kind access y z xs st valid there keeps m =
    let h = k.pf.home in
    let after : ℕ → Bool = lives k.pf.live rest s.frame.spot.exit in
    let live : ℕ → Bool = lives k.pf.live (Read to place kind access ∷ rest) s.frame.spot.exit in
    let tail : List Line = save (h to) (n + 2) (put_lines h (n + numbers_kept) (needed s.frame.spot.exit rest) (exit_lines h e s.frame.spot.exit)) in
    let one : Line = Read (reg (h to) 7) (on_place h place) kind access in
    let exit : Exit = put_exit h s.frame.spot.exit in
    let l : PlaceReady u v g s h live place (load_place h place n (one ∷ tail)) (one ∷ tail) exit y z xs st = place_ready u v g s h live place n (one ∷ tail) exit y z xs st (λ q t. or_left (place_uses place q) _ t) m in
    let t1 : State = twin s (one ∷ tail) exit l.y' z xs st in
    checked_after u v g _ (read_place place kind s.frame.active s.frame.registers s.store) _ (λ f q.
    let more : List Event = Reads (site_of access kind) s.frame.active f.at.object f.at.offset ∷ [] in
    let found : read_place (on_place h place) kind s.frame.active l.y' st ≡ Fine f = read_refines u v g s h live place kind l.y' l.y' xs st f l.held (l.value l.y' (λ q ne. refl)) q in
    sets_ends u v g s k (n + numbers_kept) e (n + 2) rest to f.value f.value _ (plus l.n 1) (l.ev ++ more) more l.y' z xs st valid there keeps
    (walk_join v g l.n 1 l.ev more _ t1 _ l.walk (walk_one v g more t1 _ (ap (λ o. reads (reg (h to) 7) (site_of access kind) o tail t1) found)))
    (heard_first l.ev more l.silent) (inr refl)
    (held_less u v s h live (without to after) l.y' xs st (λ q t. without_live (place_uses place q) q to after t) l.held))

-- a write
write_line : (u v : Code) (g : Setting) (s : State) (k : Known u v s) (n e : ℕ) (rest : List Line) (place : Place) (kind : Kind) (from access : ℕ) (y : ℕ → Value) (z : ℕ) (xs : List Frame) (st : Store) → Valid k.pf.home k.pf.live rest s.frame.spot.exit → AllThere u rest → Held u v s k.pf.home (lives k.pf.live (Write place kind from access ∷ rest) s.frame.spot.exit) y xs st → After u v g (twin s (put_line k.pf.home n (Write place kind from access) (put_lines k.pf.home (n + numbers_kept) (needed s.frame.spot.exit rest) (exit_lines k.pf.home e s.frame.spot.exit))) (put_exit k.pf.home s.frame.spot.exit) y z xs st) (does u g (Write place kind from access) rest s)
write_line u v g s k n e rest place kind from access y z xs st valid there m =
    let h = k.pf.home in
    let after : ℕ → Bool = lives k.pf.live rest s.frame.spot.exit in
    let live : ℕ → Bool = lives k.pf.live (Write place kind from access ∷ rest) s.frame.spot.exit in
    let lines : List Line = put_lines h (n + numbers_kept) (needed s.frame.spot.exit rest) (exit_lines h e s.frame.spot.exit) in
    let one : Line = Write (on_place h place) kind (reg (h from) 8) access in
    let exit : Exit = put_exit h s.frame.spot.exit in
    let t0 : State = twin s (load_place h place n (load (h from) 8 (n + 1) (one ∷ lines))) exit y z xs st in
    let l : PlaceReady u v g s h live place (load_place h place n (load (h from) 8 (n + 1) (one ∷ lines))) (load (h from) 8 (n + 1) (one ∷ lines)) exit y z xs st = place_ready u v g s h live place n (load (h from) 8 (n + 1) (one ∷ lines)) exit y z xs st (λ q t. or_left ((place_uses place q) || (q == from)) _ (or_left (place_uses place q) _ t)) m in
    let m1 = l.held in
    let l2 : Loaded u v g s h live (s.frame.registers from) (load (h from) 8 (n + 1) (one ∷ lines)) (one ∷ lines) exit (reg (h from) 8) 8 l.y' z xs st =
    load_home u v g s h live (s.frame.registers from) (h from) 8 (n + 1) (one ∷ lines) exit l.y' z xs st (λ q i f. (m.free q i f).1) (λ i f. m.own from i f) (m1.agrees from (or_left ((place_uses place from) || (from == from)) _ (or_right (place_uses place from) _ (self from)))) l.held in
    let t1 : State = twin s (one ∷ lines) exit l2.y' z xs st in
    checked_after u v g t0 (write_place place kind (s.frame.registers from) s.frame.active s.frame.registers s.store) _ (λ f q.
    let more : List Event = Writes (site_of access kind) s.frame.active f.at.object f.at.offset ∷ [] in
    let w : Wrote s st h place kind (l2.y' (reg (h from) 8)) l2.y' f = write_refines u v g s h live place kind (s.frame.registers from) (l2.y' (reg (h from) 8)) l2.y' l2.y' xs st f l2.held (l.value l2.y' (λ q ne. l2.same q ne)) l2.value q in
    let st' : Store = record st { values = with_value st.values f.at.object f.at.offset w.b } in
    subst (λ (q : Store). Went u v g t0 (record s { frame = with_rest s.frame rest; store = q }) more) (sym w.old)
    (record {
      n = plus (plus l.n l2.n) 1;
      ev = (l.ev ++ l2.ev) ++ more;
      t' = twin s lines exit l2.y' z xs st';
      walk = walk_join v g (plus l.n l2.n) 1 (l.ev ++ l2.ev) more _ t1 _ (walk_join v g l.n l2.n l.ev l2.ev _ _ _ l.walk l2.walk) (walk_one v g more t1 _ (ap (λ o. writes (site_of access kind) o lines t1) w.new));
      told = heard_first (l.ev ++ l2.ev) more (heard_first l.ev l2.ev l.silent ∙ l2.silent);
      same = record {
        f = k.f;
        g = k.g;
        is_f = k.is_f;
        is_g = k.is_g;
        pf = k.pf;
        n = n + numbers_kept;
        e = e;
        y = l2.y';
        z = z;
        xs = xs;
        st = st';
        left = needed s.frame.spot.exit rest;
        put = inl refl;
        is = refl;
        valid = valid;
        there = there;
        held = held_write u v s h after f.at.object f.at.offset w.b rest l2.y' xs st w.there (held_less u v s h live after l2.y' xs st (λ q t. or_last ((place_uses place q) || (q == from)) (after q) t) l2.held);
      };
    }))
  where
    or_last : (a b : Bool) → b ≡ true → (a || (not false && b)) ≡ true
    or_last true b t = refl
    or_last false b t = t

-- every line but calls, which come as arguments
pub line_after : (u v : Code) (g : Setting) (s : State) (k : Known u v s) (n e : ℕ) (line : Line) (rest : List Line) (y : ℕ → Value) (z : ℕ) (xs : List Frame) (st : Store) → ((to i first count : ℕ) → line ≡ Call to i first count → After u v g (twin s (put_line k.pf.home n (Call to i first count) (put_lines k.pf.home (n + numbers_kept) (past_cut s.frame.spot.exit (needed s.frame.spot.exit rest)) (exit_lines k.pf.home e s.frame.spot.exit))) (put_exit k.pf.home s.frame.spot.exit) y z xs st) (does u g (Call to i first count) rest s)) → ((to : ℕ) (service : Service) → line ≡ Serve to service None → After u v g (twin s (put_line k.pf.home n (Serve to service None) (put_lines k.pf.home (n + numbers_kept) (past_cut s.frame.spot.exit (needed s.frame.spot.exit rest)) (exit_lines k.pf.home e s.frame.spot.exit))) (put_exit k.pf.home s.frame.spot.exit) y z xs st) (does u g (Serve to service None) rest s)) → ((to from : ℕ) (service : Service) → line ≡ Serve to service (Some from) → After u v g (twin s (put_line k.pf.home n (Serve to service (Some from)) (put_lines k.pf.home (n + numbers_kept) (past_cut s.frame.spot.exit (needed s.frame.spot.exit rest)) (exit_lines k.pf.home e s.frame.spot.exit))) (put_exit k.pf.home s.frame.spot.exit) y z xs st) (does u g (Serve to service (Some from)) rest s)) → ValidLine k.pf.home line (lives k.pf.live rest s.frame.spot.exit) → Valid k.pf.home k.pf.live rest s.frame.spot.exit → AllThere u rest → Held u v s k.pf.home (lives k.pf.live (line ∷ rest) s.frame.spot.exit) y xs st → After u v g (twin s (put_line k.pf.home n line (put_lines k.pf.home (n + numbers_kept) (behind s.frame.spot.exit line (needed s.frame.spot.exit rest)) (exit_lines k.pf.home e s.frame.spot.exit))) (put_exit k.pf.home s.frame.spot.exit) y z xs st) (does u g line rest s)
line_after u v g s k n e (Put to x) rest y z xs st calls gets puts keeps valid there m = nullary u v g s k n e rest (λ a. Put a x) to (Number x) y z xs st valid there keeps (λ a tail. refl) m
line_after u v g s k n e (PutNull to) rest y z xs st calls gets puts keeps valid there m = nullary u v g s k n e rest (λ a. PutNull a) to Null y z xs st valid there keeps (λ a tail. refl) m
line_after u v g s k n e (Copy to from) rest y z xs st calls gets puts keeps valid there m = unary u v g s k n e rest (λ a b. Copy a b) to from (λ x. Fine x) (λ x. Fine x) y z xs st valid there keeps (λ a b y' tail. refl) same_value m
line_after u v g s k n e (Convert to kind from) rest y z xs st calls gets puts keeps valid there m = unary u v g s k n e rest (λ a b. Convert a kind b) to from (λ x. as_number (converted kind x)) (λ x. as_number (converted kind x)) y z xs st valid there keeps (λ a b y' tail. refl) (λ a x b r f. (b, convert_refines kind a x b r f, inr refl)) m
line_after u v g s k n e (Unary to op kind from) rest y z xs st calls gets puts keeps valid there m = unary u v g s k n e rest (λ a b. Unary a op kind b) to from (λ x. as_number (computed_one op kind x)) (λ x. as_number (computed_one op kind x)) y z xs st valid there keeps (λ a b y' tail. refl) (λ a x b r f. (b, unary_refines op kind a x b r f, inr refl)) m
line_after u v g s k n e (Not to from) rest y z xs st calls gets puts keeps valid there m = unary u v g s k n e rest (λ a b. Not a b) to from (λ x. as_truth (negation s.store x)) (λ x. as_truth (negation st x)) y z xs st valid there keeps (λ a b y' tail. refl) (λ a x b r f. (b, not_refines s.store st a x b (seen_all u v s k.pf.home _ y xs st m) r f, inr refl)) m
line_after u v g s k n e (Compute to op kind left right) rest y z xs st calls gets puts keeps valid there m = binary u v g s k n e rest (λ a b d. Compute a op kind b d) to left right (λ x w. as_number (computed op kind x w)) (λ x w. as_number (computed op kind x w)) y z xs st valid there keeps (λ a b d y' tail. refl) (λ a x d w b r q f. compute_refines op kind a x d w b r q f) m
line_after u v g s k n e (Compare to op kind left right) rest y z xs st calls gets puts keeps valid there m = binary u v g s k n e rest (λ a b d. Compare a op kind b d) to left right (λ x w. as_truth (compared s.store op kind x w)) (λ x w. as_truth (compared st op kind x w)) y z xs st valid there keeps (λ a b d y' tail. refl) (λ a x d w b r q f. compare_refines s.store st op kind a x d w b (seen_all u v s k.pf.home _ y xs st m) r q f) m
line_after u v g s k n e (Move to size back pointer by) rest y z xs st calls gets puts keeps valid there m = binary u v g s k n e rest (λ a b d. Move a size back b d) to pointer by (λ x w. moved s.store size back x w) (λ x w. moved st size back x w) y z xs st valid there keeps (λ a b d y' tail. refl) (λ a x d w b r q f. move_refines s.store st size back a x d w b (seen_all u v s k.pf.home _ y xs st m) r q f) m
line_after u v g s k n e (Distance to size left right) rest y z xs st calls gets puts keeps valid there m = binary u v g s k n e rest (λ a b d. Distance a size b d) to left right (λ x w. as_number (distance_of s.store size x w)) (λ x w. as_number (distance_of st size x w)) y z xs st valid there keeps (λ a b d y' tail. refl) (λ a x d w b r q f. distance_refines s.store st size a x d w b (seen_all u v s k.pf.home _ y xs st m) r q f) m
line_after u v g s k n e (Address to place) rest y z xs st calls gets puts keeps valid there m =
    let h = k.pf.home in
    let after : ℕ → Bool = lives k.pf.live rest s.frame.spot.exit in
    let live : ℕ → Bool = lives k.pf.live (Address to place ∷ rest) s.frame.spot.exit in
    let tail : List Line = save (h to) (n + 2) (put_lines h (n + numbers_kept) (needed s.frame.spot.exit rest) (exit_lines h e s.frame.spot.exit)) in
    let one : Line = Address (reg (h to) 7) (on_place h place) in
    let l : PlaceReady u v g s h live place (load_place h place n (one ∷ tail)) (one ∷ tail) (put_exit h s.frame.spot.exit) y z xs st = place_ready u v g s h live place n (one ∷ tail) (put_exit h s.frame.spot.exit) y z xs st (λ q t. or_left (place_uses place q) _ t) m in
    computes_after u v g s k (n + numbers_kept) e (n + 2) rest to one (place_of place s.frame.active s.frame.registers s.store) (place_of (on_place h place) s.frame.active l.y' st) _ l.n l.ev l.y' z xs st valid there keeps l.walk l.silent refl
    (l.value l.y' (λ q ne. refl))
    (held_less u v s h live (without to after) l.y' xs st (λ q t. without_live (place_uses place q) q to after t) l.held)
line_after u v g s k n e (Read to place kind access) rest y z xs st calls gets puts keeps valid there m = read_line u v g s k n e rest to place kind access y z xs st valid there keeps m
line_after u v g s k n e (Write place kind from access) rest y z xs st calls gets puts keeps valid there m = write_line u v g s k n e rest place kind from access y z xs st valid there m
line_after u v g s k n e (Reload to slot access) rest y z xs st calls gets puts keeps valid there m = absurd keeps
line_after u v g s k n e (Spill slot from access) rest y z xs st calls gets puts keeps valid there m = absurd keeps
line_after u v g s k n e (Cut cause) rest y z xs st calls gets puts keeps valid there m = record {
  n = 1;
  ev = Cuts ∷ [];
  t' = twin s (put_lines k.pf.home (n + numbers_kept) (needed s.frame.spot.exit rest) (exit_lines k.pf.home e s.frame.spot.exit)) (put_exit k.pf.home s.frame.spot.exit) y z xs st;
  walk = walk_one v g (Cuts ∷ []) _ _ refl;
  told = refl;
  same = record {
    f = k.f;
    g = k.g;
    is_f = k.is_f;
    is_g = k.is_g;
    pf = k.pf;
    n = n + numbers_kept;
    e = e;
    y = y;
    z = z;
    xs = xs;
    st = st;
    left = needed s.frame.spot.exit rest;
    put = inl refl;
    is = refl;
    valid = valid;
    there = there;
    held = moved_held (held_less u v s k.pf.home _ (lives k.pf.live rest s.frame.spot.exit) y xs st (λ q t. t) m);
  };
}
  where
    moved_held : Held u v s k.pf.home (lives k.pf.live rest s.frame.spot.exit) y xs st → Held u v (record s { frame = with_rest s.frame rest }) k.pf.home (lives k.pf.live rest s.frame.spot.exit) y xs st
    moved_held q = record { agrees = q.agrees; own = q.own; free = q.free; seen = q.seen; unseen = q.unseen; holds = q.holds; callers = q.callers; fresh = q.fresh }
line_after u v g s k n e (Call to i first count) rest y z xs st calls gets puts keeps valid there m = calls to i first count refl
line_after u v g s k n e (Serve to service None) rest y z xs st calls gets puts keeps valid there m = gets to service refl
line_after u v g s k n e (Serve to service (Some from)) rest y z xs st calls gets puts keeps valid there m = puts to from service refl

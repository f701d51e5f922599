-- The ends of blocks, and whole runs.
use Rattle.std.proofs.Common.{◌≡◌, ◌≢◌, ℕ, zero, suc, ◌+◌, ◌<◌, ◌≤◌, Bool, true, false, cond, inl, inr, List, [], ◌∷◌, ◌++◌, Option, Some, None, sym, ap, ◌∙◌, subst, refl, append_assoc, arith}
use Rattle.std.specs.Prelude.{◌*◌, length, ◌==◌, ◌||◌, slice_get, All}
use Rattle.std.proofs.lemmas.Bool.Decides.{nat_tests}
use Rattle.std.proofs.lemmas.Option.{slice_get_within, get_or_from_slice_get}
use Rattle.std.proofs.lemmas.List.Elements.{All-get_or}
use Rattle.im_num.specs.declared.kind.Kind.TheVariants.{I32}
use Rattle.im_num.specs.declared.values.Cause.{Cause}
use Rattle.im_num.specs.declared.values.Cause.TheVariants.{Return as ReturnCut}
use Rattle.im_num.specs.Kinds.{wrap}
use Rattle.im_store.specs.Objects.{Name, Named, Slot, Link, Object, Value, Unset, Shape, Store, ends}
use Rattle.im_store.specs.Statics.{StaticObject, static_shapes, with_statics}
use Rattle.im_store.specs.Outcomes.{Outcome, Undef, More, End, IsDefined}
use Rattle.im_block.specs.declared.code.Line.{Line}
use Rattle.im_block.specs.declared.code.Line.TheVariants.{Cut}
use Rattle.im_block.specs.declared.code.Exit.{Exit}
use Rattle.im_block.specs.declared.code.Exit.TheVariants.{Jump, Turn, Branch, Return}
use Rattle.im_block.specs.declared.code.Block.{Block}
use Rattle.im_block.specs.declared.unit.Function.{Function}
use Rattle.im_block.specs.declared.unit.Unit.{Unit as Code}
use Rattle.im_block.specs.Wellformed.{LineThere, IsBlock, IsFunction, IsWellFormed}
use Rattle.im_block.specs.Meaning.{Setting, Spot, Event, Restores, Cuts, Frame, State, Next, Goes, Stops, on_checked, found, number_of, condition, statics_of, ended, with_register, at_block, enters, goes_to, back, leaves, step_at, step}
use Rattle.im_block.specs.Runs.{before, start, Over, goes_on, exec, uncut}
use Rattle.im_block.proofs.Unitwise.{from_new}
use Rattle.im_alloc_relation.specs.Homes.{Home, numbers_kept, load, reg, into, give, past_cut, needed, put_lines, exit_lines, put_exit}
use Rattle.im_alloc_relation.specs.Live.{lives, exit_lives}
use Rattle.im_alloc_relation.specs.Placing.{ValidLine, Valid, PlacedBlock, number_behind, IsPlaced, PlaceKeeps}
use Rattle.im_alloc_relation.proofs.Seen.{Refines, refines_at, number_refines, condition_refines, is_slot}
use Rattle.im_alloc_relation.proofs.Walks.{plus, heard, uncut_append, heard_append, walk_none, walk_one, walk_join, twin, own_slot, at_home, AllThere, WaitsFor, Callers, Held, same_register, seen_all, Loaded, load_home, into_home}
use Rattle.im_alloc_relation.proofs.Results.{callers_kept, without, Saved, give_home}
use Rattle.im_alloc_relation.proofs.Lines.{IsLeft, Twin, Went, Ended, After, after_first, checked_after, held_less, Known, or_left, self}
use Rattle.im_alloc_relation.proofs.Straight.{line_after}
use Rattle.im_alloc_relation.proofs.Calls.{NextRel, next_after, next_at, takes_both, same_statics, shows, Outer, BlocksThere, placed_spot, spot_is, enters_both, split_without, call_after, get_after, put_after}

or_second : (a b c : Bool) → b ≡ true → ((a || b) || c) ≡ true
or_second true b c t = refl
or_second false b c t = ap (λ z. z || c) t

or_third : (a b : Bool) → b ≡ true → (a || b) ≡ true
or_third true b t = refl
or_third false b t = t

-- to a block
to_both : (u v : Code) → BlocksThere u → (g : Setting) (s : State) (k : Known u v s) (b fuel : ℕ) (after : ℕ → Bool) (lines : List Line) (exit : Exit) (y : ℕ → Value) (z : ℕ) (xs : List Frame) (st : Store) → ((q : ℕ) → k.pf.live b q ≡ true → after q ≡ true) → Held u v s k.pf.home after y xs st → NextRel u v (goes_to u g b fuel s) (goes_to v g b fuel (twin s lines exit y z xs st))
to_both u v there g s k b fuel after lines exit y z xs st le m =
    let h = k.pf.home in
    let t : State = twin s lines exit y z xs st in
    let go : Block → Next = λ block. Goes (record s { frame = record s.frame { spot = at_block b block }; fuel = fuel }) [] in
    let go' : Block → Next = λ block. Goes (record t { frame = record t.frame { spot = at_block b block }; fuel = fuel }) [] in
    subst (λ q. NextRel u v q (goes_to v g b fuel t)) (sym (ap (λ o. on_checked (found o) (λ f. on_checked (found (slice_get f.blocks.items b)) go)) k.is_f))
    (next_at u v _ _ _ (ap (λ o. on_checked (found o) (λ (f : Function). on_checked (found (slice_get f.blocks.items b)) go')) k.is_g)
    (by (slice_get k.f.blocks.items b) refl))
  where
    by : (o : Option Block) → slice_get k.f.blocks.items b ≡ o → NextRel u v (on_checked (found o) (λ block. Goes (record s { frame = record s.frame { spot = at_block b block }; fuel = fuel }) [])) (on_checked (found (slice_get k.g.blocks.items b)) (λ block. Goes (record (twin s lines exit y z xs st) { frame = record (twin s lines exit y z xs st).frame { spot = at_block b block }; fuel = fuel }) []))
    by None e = tt
    by (Some block) e =
        let p = from_new number_behind (PlacedBlock k.pf.home) k.pf.first_access k.f.blocks.items k.g.blocks.items b block k.pf.blocks e in
        let t : State = twin s lines exit y z xs st in
        let less : Held u v s k.pf.home (lives k.pf.live block.lines.items block.exit) y xs st = held_less u v s k.pf.home after (lives k.pf.live block.lines.items block.exit) y xs st (λ q l. le q (k.pf.closed b block q e l)) m in (
          record t { frame = record t.frame { spot = placed_spot k.pf.home p.0 b block }; fuel = fuel },
          [],
          ap (λ q. on_checked (found q) (λ block. Goes (record t { frame = record t.frame { spot = at_block b block }; fuel = fuel }) [])) p.2
              ∙ ap (λ (q : Spot). Goes (record t { frame = record t.frame { spot = q }; fuel = fuel }) []) (spot_is k.pf.home p.0 block p.1 b b refl p.3),
          refl,
          record {
            f = k.f;
            g = k.g;
            is_f = k.is_f;
            is_g = k.is_g;
            pf = k.pf;
            n = p.0;
            e = p.0 + numbers_kept * length (needed block.exit block.lines.items);
            y = y;
            z = z;
            xs = xs;
            st = st;
            left = needed block.exit block.lines.items;
            put = inl refl;
            is = refl;
            valid = k.pf.valid b block e;
            there = there s.frame.function b k.f block k.is_f e;
            held = record { agrees = less.agrees; own = less.own; free = less.free; seen = less.seen; unseen = less.unseen; holds = less.holds; callers = less.callers; fresh = less.fresh };
          },
        )

-- a caller goes on, with its result at home
caller_goes : (u v : Code) (g : Setting) (s : State) (b x : Value) (w : Frame) (ws : List Frame) (f : Frame) (xs : List Frame) (t : State) (y : ℕ → Value) (st : Store) (k : WaitsFor u v st w f) → w.active.number < s.frame.active.number → Callers u v st w.active.number ws xs → ((o : Object) → is_slot o.name ≡ false → st.shape o ≡ s.store.shape o) → ((o : Object) → is_slot o.name ≡ true → s.store.shape o ≡ None) → ((o : Object) (i : ℕ) → is_slot o.name ≡ false → st.values o i ≡ s.store.values o i) → s.frame.active.number ≤ s.begun → Refines b x → step v g t ≡ Goes (record (twin s [] (Jump 0) y 0 [] st) { frame = record f { registers = with_register f.registers f.to x }; callers = xs; store = ends st s.frame.active.number }) (Restores s.frame.active ∷ []) → Went u v g t (record s { frame = record w { registers = with_register w.registers w.to b }; callers = ws; store = ends s.store s.frame.active.number }) (Restores s.frame.active ∷ [])
caller_goes u v g s b x w ws f xs t y st k below callers seen unseen holds fresh r e =
    let h = k.pf.home in
    let after : ℕ → Bool = lives k.pf.live w.spot.rest w.spot.exit in
    let a : ℕ = s.frame.active.number in
    let st2 : Store = ends st a in
    let lost : ℕ → Value = λ r. Unset in
    let y2 : ℕ → Value = with_register lost 10 x in
    let lines : List Line = put_lines h k.n (past_cut w.spot.exit (needed w.spot.exit w.spot.rest)) (exit_lines h k.e w.spot.exit) in
    let tail : List Line = give (h w.to) k.give_number lines in
    let exit : Exit = put_exit h w.spot.exit in
    let s2 : State = record s { frame = w; callers = ws; store = ends s.store a } in
    let t1 : State = twin s2 (Cut ReturnCut ∷ tail) exit y2 10 xs st2 in
    let t2 : State = twin s2 tail exit y2 10 xs st2 in
    let is : step v g t ≡ Goes t1 (Restores s.frame.active ∷ []) =
    e ∙ ap (λ (q : Frame). Goes (record (twin s [] (Jump 0) y 0 [] st) { frame = record q { registers = with_register q.registers q.to x }; callers = xs; store = ends st s.frame.active.number }) (Restores s.frame.active ∷ [])) k.is in
    let held2 : Held u v s2 h (without w.to after) y2 xs st2 = record {
      agrees = λ q t. let d = split_without w.to q after t in let o = k.survives q d.0 d.1 in refines_at (w.registers q) _ (st.values (own_slot w.active o.0) 0) _ refl (ap (λ z. at_home z w.active y2 st2) o.1) o.3;
      own = λ q n e. open_still (own_slot w.active n) below ∙ k.own q n e;
      free = λ q r e. let d = (k.pf.free q r e).0 in ((λ z. omega arith), (λ z. omega arith));
      seen = λ o e. ap (λ z. cond (o.activation == a) None z) (seen o e);
      unseen = λ o e. none_if (o.activation == a) (s.store.shape o) (unseen o e);
      holds = holds;
      callers = callers_kept u v st st2 w.active.number ws xs (λ o t l. (refl, open_still o (omega arith))) callers;
      fresh = omega arith;
    } in
    let sv : Saved u v g s2 h after w.to b tail lines exit y2 10 xs st2 = give_home u v g s2 h after w.to b (h w.to) k.give_number lines exit y2 10 xs st2 refl (λ q t ne. (k.survives q t ne).2) (refines_at b b x (y2 10) refl (same_register lost 10 x) r) held2 in
    let last = sv.held in
    record {
      n = plus 1 (plus 1 sv.n);
      ev = (Restores s.frame.active ∷ []) ++ ((Cuts ∷ []) ++ sv.ev);
      t' = twin s2 lines exit sv.y' 10 xs sv.st';
      walk = walk_join v g 1 (plus 1 sv.n) (Restores s.frame.active ∷ []) ((Cuts ∷ []) ++ sv.ev) t t1 _ (walk_one v g (Restores s.frame.active ∷ []) t t1 is) (walk_join v g 1 sv.n (Cuts ∷ []) sv.ev t1 t2 _ (walk_one v g (Cuts ∷ []) t1 t2 refl) sv.walk);
      told = ap (λ q. Restores s.frame.active ∷ q) sv.silent;
      same = record {
        f = k.f;
        g = k.g;
        is_f = k.is_f;
        is_g = k.is_g;
        pf = k.pf;
        n = k.n;
        e = k.e;
        y = sv.y';
        z = 10;
        xs = xs;
        st = sv.st';
        left = past_cut w.spot.exit (needed w.spot.exit w.spot.rest);
        put = inr refl;
        is = refl;
        valid = k.valid;
        there = k.there;
        held = record { agrees = last.agrees; own = last.own; free = last.free; seen = last.seen; unseen = last.unseen; holds = last.holds; callers = last.callers; fresh = last.fresh };
      };
    }
  where
    none_if : (t : Bool) (o : Option Shape) → o ≡ None → cond t None o ≡ None
    none_if true o e = refl
    none_if false o e = e

    open_still : (o : Object) → o.activation < s.frame.active.number → (ends st s.frame.active.number).shape o ≡ st.shape o
    open_still o l = let f : (o.activation == s.frame.active.number) ≡ false = (let ne : o.activation ≢ s.frame.active.number = omega arith in grind (arith, nat_tests)) in ap (λ z. cond z None (st.shape o)) f

back_after : (u v : Code) → IsPlaced u v → (g : Setting) (s : State) (h : ℕ → Home) (after : ℕ → Bool) (b x : Value) (t : State) (y : ℕ → Value) (st : Store) (ws xs xs0 : List Frame) (lines : List Line) (exit : Exit) (z : ℕ) → Held u v s h after y xs0 st → Callers u v st s.frame.active.number ws xs → Refines b x → step v g t ≡ back v g xs x (twin s lines exit y z xs0 st) → After u v g t (back u g ws b s)
back_after u v pl g s h after b x t y st [] [] xs0 lines exit z m c r e =
    checked_after u v g t (number_of b) _ (λ n f. record {
      n = 1;
      ev = Restores s.frame.active ∷ [];
      over = λ acc. ap (λ q. goes_on q (exec v g 0) acc) (e ∙ ap (λ q. on_checked q (λ n. Stops (ended v 0 (wrap I32 n) (twin s lines exit y z xs0 st)) (Restores s.frame.active ∷ []))) (number_refines b x n r f) ∙ ap (λ q. Stops (End 0 (wrap I32 n) s.output q) (Restores s.frame.active ∷ [])) (shows u v pl s.store st m.holds));
      told = refl;
    })
back_after u v pl g s h after b x t y st [] (f ∷ xs) xs0 lines exit z m c r e = absurd c
back_after u v pl g s h after b x t y st (w ∷ ws) [] xs0 lines exit z m c r e = absurd c
back_after u v pl g s h after b x t y st (w ∷ ws) (f ∷ xs) xs0 lines exit z m c r e = caller_goes u v g s b x w ws f xs t y st c.0 c.1 c.2 m.seen m.unseen m.holds m.fresh r e

branch_live : (live : ℕ → ℕ → Bool) (on a b q : ℕ) (t : Bool) → live (cond t a b) q ≡ true → (q == on || live a q || live b q) ≡ true
branch_live live on a b q true t = or_second (q == on) (live a q) (live b q) t
branch_live live on a b q false t = or_third (q == on || live a q) (live b q) t

exit_after : (u v : Code) → BlocksThere u → IsPlaced u v → (g : Setting) (s : State) (k : Known u v s) (e : ℕ) (exit : Exit) (y : ℕ → Value) (z : ℕ) (xs : List Frame) (st : Store) → Held u v s k.pf.home (exit_lives k.pf.live exit) y xs st → After u v g (twin s (exit_lines k.pf.home e exit) (put_exit k.pf.home exit) y z xs st) (leaves u g exit s)
exit_after u v there pl g s k e (Jump b) y z xs st m = next_after u v g (twin s [] (Jump b) y z xs st) _ (to_both u v there g s k b s.fuel (exit_lives k.pf.live (Jump b)) [] (Jump b) y z xs st (λ q t. t) m)
exit_after u v there pl g s k e (Turn b) y z xs st m = next_after u v g (twin s [] (Turn b) y z xs st) _ (takes_both u v s.fuel s.output _ _ (λ fuel. to_both u v there g s k b fuel (exit_lives k.pf.live (Turn b)) [] (Turn b) y z xs st (λ q t. t) m))
exit_after u v there pl g s k e (Branch on a b) y z xs st m =
    let h = k.pf.home in
    let live : ℕ → Bool = exit_lives k.pf.live (Branch on a b) in
    let exit : Exit = Branch (reg (h on) 7) a b in
    let l : Loaded u v g s h live (s.frame.registers on) (load (h on) 7 e []) [] exit (reg (h on) 7) 7 y z xs st =
    load_home u v g s h live (s.frame.registers on) (h on) 7 e [] exit y z xs st (λ q i f. (m.free q i f).0) (λ n f. m.own on n f) (m.agrees on (or_left (on == on || k.pf.live a on) (k.pf.live b on) (or_left (on == on) (k.pf.live a on) (self on)))) m in
    let t1 : State = twin s [] exit l.y' z xs st in
    after_first u v g l.n l.ev _ t1 _ l.walk l.silent
    (checked_after u v g t1 (condition s.store (s.frame.registers on)) _ (λ c f.
    next_after u v g t1 _ (next_at u v (goes_to u g (cond c a b) s.fuel s) (goes_to v g (cond c a b) s.fuel t1) (step v g t1)
    (ap (λ q. on_checked q (λ holds. goes_to v g (cond holds a b) s.fuel t1)) (condition_refines s.store st (s.frame.registers on) (l.y' (reg (h on) 7)) c (seen_all u v s h live l.y' xs st l.held) l.value f))
    (to_both u v there g s k (cond c a b) s.fuel live [] exit l.y' z xs st (λ q t. branch_live k.pf.live on a b q c t) l.held))))
exit_after u v there pl g s k e (Return None) y z xs st m =
    back_after u v pl g s k.pf.home _ Unset Unset (twin s [] (Return None) y z xs st) y st s.callers xs xs [] (Return None) z m m.callers (inl refl) refl
exit_after u v there pl g s k e (Return (Some from)) y z xs st m =
    let h = k.pf.home in
    let live : ℕ → Bool = exit_lives k.pf.live (Return (Some from)) in
    let none : ℕ → Bool = λ q. false in
    let l : Loaded u v g s h none (s.frame.registers from) (into (h from) 10 e []) [] (Return (Some 10)) 10 10 y z xs st =
    into_home u v g s h none (s.frame.registers from) (h from) 10 e [] (Return (Some 10)) y z xs st (λ q r t f. absurd cc) (λ n f. m.own from n f) (m.agrees from (self from)) (held_less u v s h live none y xs st (λ q t. absurd cc) m) in
    let t1 : State = twin s [] (Return (Some 10)) l.y' z xs st in
    after_first u v g l.n l.ev _ t1 _ l.walk l.silent
    (back_after u v pl g s h none (s.frame.registers from) (l.y' 10) t1 l.y' st s.callers xs xs [] (Return (Some 10)) z l.held m.callers l.value refl)

step_by : (u v : Code) → BlocksThere u → IsPlaced u v → (g : Setting) (s : State) (k : Known u v s) (n e : ℕ) (lines : List Line) (y : ℕ → Value) (z : ℕ) (xs : List Frame) (st : Store) → Valid k.pf.home k.pf.live lines s.frame.spot.exit → AllThere u lines → Held u v s k.pf.home (lives k.pf.live lines s.frame.spot.exit) y xs st → After u v g (twin s (put_lines k.pf.home n (needed s.frame.spot.exit lines) (exit_lines k.pf.home e s.frame.spot.exit)) (put_exit k.pf.home s.frame.spot.exit) y z xs st) (step_at u g lines s)
step_by u v blocks pl g s k n e [] y z xs st valid there m = exit_after u v blocks pl g s k e s.frame.spot.exit y z xs st m
step_by u v blocks pl g s k n e (line ∷ rest) y z xs st valid there m =
    let less : AllThere u rest = λ i l f. there (suc i) l f in
    let first : LineThere u.functions.items line = there 0 line refl in
    line_after u v g s k n e line rest y z xs st
    (λ to i from count f. call_after u v blocks pl g s k n e to i from count rest y z xs st (subst (λ q. ValidLine k.pf.home q (lives k.pf.live rest s.frame.spot.exit)) f valid.0) valid.1 (subst (λ q. LineThere u.functions.items q) f first) less (subst (λ q. Held u v s k.pf.home (lives k.pf.live (q ∷ rest) s.frame.spot.exit) y xs st) f m))
    (λ to service f. get_after u v g s k n e to service rest y z xs st (subst (λ q. ValidLine k.pf.home q (lives k.pf.live rest s.frame.spot.exit)) f valid.0) valid.1 less (subst (λ q. Held u v s k.pf.home (lives k.pf.live (q ∷ rest) s.frame.spot.exit) y xs st) f m))
    (λ to from service f. put_after u v g s k n e to from service rest y z xs st (subst (λ q. ValidLine k.pf.home q (lives k.pf.live rest s.frame.spot.exit)) f valid.0) valid.1 less (subst (λ q. Held u v s k.pf.home (lives k.pf.live (q ∷ rest) s.frame.spot.exit) y xs st) f m))
    valid.0 valid.1 less m

-- where the cut behind a call is next, and no loop edge's, it was put with the call
record SkipsCut (exit : Exit) (rest left : List Line) : Type 0 where
  cause : Cause
  more : List Line
  is_rest : rest ≡ Cut cause ∷ more
  is_left : left ≡ needed exit more

data Stands (exit : Exit) (rest left : List Line) : Type 0 where
  AllLeft : left ≡ needed exit rest → Stands exit rest left
  Skips : SkipsCut exit rest left → Stands exit rest left

skips : (exit : Exit) (cause : Cause) (more : List Line) → Stands exit (Cut cause ∷ more) (needed exit more)
skips exit cause more = Skips (record { cause = cause; more = more; is_rest = refl; is_left = refl })

stands_cut : (exit : Exit) (cause : Cause) (more : List Line) → Stands exit (Cut cause ∷ more) (past_cut exit (Cut cause ∷ needed exit more))
stands_cut (Turn b) cause [] = AllLeft refl
stands_cut (Turn b) cause (next ∷ more) = skips (Turn b) cause (next ∷ more)
stands_cut (Jump b) cause more = skips (Jump b) cause more
stands_cut (Branch on a b) cause more = skips (Branch on a b) cause more
stands_cut (Return from) cause more = skips (Return from) cause more

stands_behind : (exit : Exit) (rest : List Line) → Stands exit rest (past_cut exit (needed exit rest))
stands_behind exit [] = AllLeft refl
stands_behind exit (Cut cause ∷ more) = stands_cut exit cause more
stands_behind exit (line ∷ more) = AllLeft refl

stands : (exit : Exit) (rest left : List Line) → IsLeft exit rest left → Stands exit rest left
stands exit rest left (inl e) = AllLeft e
stands exit rest left (inr e) = subst (Stands exit rest) (sym e) (stands_behind exit rest)

skip_after : (u v : Code) (g : Setting) (s t : State) (w : Twin u v s t) → SkipsCut s.frame.spot.exit s.frame.spot.rest w.left → After u v g t (step u g s)
skip_after u v g s t w k =
    let exit : Exit = s.frame.spot.exit in
    let valid : Valid w.pf.home w.pf.live (Cut k.cause ∷ k.more) exit = subst (λ q. Valid w.pf.home w.pf.live q exit) k.is_rest w.valid in
    let there : AllThere u (Cut k.cause ∷ k.more) = subst (AllThere u) k.is_rest w.there in
    let m : Held u v s w.pf.home (lives w.pf.live (Cut k.cause ∷ k.more) exit) w.y w.xs w.st = subst (λ q. Held u v s w.pf.home (lives w.pf.live q exit) w.y w.xs w.st) k.is_rest w.held in
    subst (λ q. After u v g t (step_at u g q s)) (sym k.is_rest) (record {
      n = 0;
      ev = [];
      t' = t;
      walk = walk_none v g t;
      told = refl;
      same = record {
        f = w.f;
        g = w.g;
        is_f = w.is_f;
        is_g = w.is_g;
        pf = w.pf;
        n = w.n;
        e = w.e;
        y = w.y;
        z = w.z;
        xs = w.xs;
        st = w.st;
        left = w.left;
        put = inl k.is_left;
        is = w.is;
        valid = valid.1;
        there = λ i l f. there (suc i) l f;
        held = record { agrees = m.agrees; own = m.own; free = m.free; seen = m.seen; unseen = m.unseen; holds = m.holds; callers = m.callers; fresh = m.fresh };
      };
    })

all_after : (u v : Code) → BlocksThere u → IsPlaced u v → (g : Setting) (s t : State) (w : Twin u v s t) → w.left ≡ needed s.frame.spot.exit s.frame.spot.rest → After u v g t (step u g s)
all_after u v blocks pl g s t w all =
    let h = w.pf.home in
    let exit : Exit = s.frame.spot.exit in
    let is = w.is ∙ ap (λ (q : List Line). twin s (put_lines h w.n q (exit_lines h w.e exit)) (put_exit h exit) w.y w.z w.xs w.st) all in
    subst (λ q. After u v g q (step u g s)) (sym is)
    (step_by u v blocks pl g s (record { f = w.f; g = w.g; is_f = w.is_f; is_g = w.is_g; pf = w.pf }) w.n w.e s.frame.spot.rest w.y w.z w.xs w.st w.valid w.there w.held)

step_stands : (u v : Code) → BlocksThere u → IsPlaced u v → (g : Setting) (s t : State) (w : Twin u v s t) → Stands s.frame.spot.exit s.frame.spot.rest w.left → After u v g t (step u g s)
step_stands u v blocks pl g s t w (AllLeft all) = all_after u v blocks pl g s t w all
step_stands u v blocks pl g s t w (Skips k) = skip_after u v g s t w k

step_after : (u v : Code) → BlocksThere u → IsPlaced u v → (g : Setting) (s t : State) → Twin u v s t → After u v g t (step u g s)
step_after u v blocks pl g s t w = step_stands u v blocks pl g s t w (stands s.frame.spot.exit s.frame.spot.rest w.left w.put)

-- a whole run
record Followed (v : Code) (g : Setting) (t : State) (o : Outcome) (events run : List Event) : Type 0 where
  n : ℕ
  ev : List Event
  over : (acc : List Event) → exec v g n t acc ≡ Over o (acc ++ ev)
  more : List Event
  split : run ≡ events ++ more
  told : heard ev ≡ uncut more

over_is : (o q : Outcome) (a b : List Event) → Over o a ≡ Over q b → (o ≡ q) × (a ≡ b)
over_is o q a b e = (cc, cc)

ended_followed : (v : Code) (g : Setting) (t : State) (o q : Outcome) (events more run : List Event) → Over o (events ++ more) ≡ Over q run → Ended v g t o more → Followed v g t q events run
ended_followed v g t o q events more run e a =
    let k = over_is o q (events ++ more) run e in
    record {
      n = a.n;
      ev = a.ev;
      over = λ acc. subst (λ z. exec v g a.n t acc ≡ Over z (acc ++ a.ev)) k.0 (a.over acc);
      more = more;
      split = sym k.1;
      told = a.told;
    }

follow_next : (u v : Code) (g : Setting) (k : ℕ) (o : Outcome) (run : List Event) → IsDefined o → ((s t : State) (events : List Event) → Twin u v s t → exec u g k s events ≡ Over o run → Followed v g t o events run) → (next : Next) (t : State) (events : List Event) → After u v g t next → goes_on next (exec u g k) events ≡ Over o run → Followed v g t o events run
follow_next u v g k o run right rec (Goes s' more) t events a e =
    let f = rec s' a.t' (events ++ more) a.same e in
    record {
      n = plus a.n f.n;
      ev = a.ev ++ f.ev;
      over = λ acc. a.walk.runs f.n acc ∙ f.over (acc ++ a.ev) ∙ ap (λ z. Over o z) (append_assoc acc a.ev f.ev);
      more = more ++ f.more;
      split = f.split ∙ append_assoc events more f.more;
      told = heard_append a.ev f.ev ∙ ap (λ z. z ++ heard f.ev) a.told ∙ ap (λ z. uncut more ++ z) f.told ∙ sym (uncut_append more f.more);
    }
follow_next u v g k o run right rec (Stops (End reason status output shows) more) t events a e = ended_followed v g t (End reason status output shows) o events more run e a
follow_next u v g k o run right rec (Stops (More output) more) t events a e = ended_followed v g t (More output) o events more run e a
follow_next u v g k o run right rec (Stops (Undef why) more) t events a e = absurd (subst IsDefined (sym (over_is (Undef why) o (events ++ more) run e).0) right)

follow : (u v : Code) → BlocksThere u → IsPlaced u v → (g : Setting) (k : ℕ) (s t : State) (o : Outcome) (events run : List Event) → IsDefined o → Twin u v s t → exec u g k s events ≡ Over o run → Followed v g t o events run
follow u v blocks pl g zero s t o events run right w e = absurd cc
follow u v blocks pl g (suc k) s t o events run right w e = follow_next u v g k o run right (λ s' t' more w' e'. follow u v blocks pl g k s' t' o more run right w' e') (step u g s) t events (step_after u v blocks pl g s t w) e

-- the start is a step beside a step
start_followed : (u v : Code) (g : Setting) (k : ℕ) (o : Outcome) (run : List Event) → BlocksThere u → IsPlaced u v → IsDefined o → (next next' : Next) → NextRel u v next next' → goes_on next (exec u g k) [] ≡ Over o run → (run' : List Event) × ((steps : ℕ) × (goes_on next' (exec v g steps) [] ≡ Over o run')) × (heard run' ≡ uncut run)
start_followed u v g k o run blocks pl right (Goes s' more) next' r e =
    let f = follow u v blocks pl g k s' r.0 o more run right r.4 e in
    (r.1 ++ f.ev, (f.n, ap (λ z. goes_on z (exec v g f.n) []) r.2 ∙ f.over r.1), heard_append r.1 f.ev ∙ ap (λ z. z ++ heard f.ev) r.3 ∙ ap (λ z. uncut more ++ z) f.told ∙ sym (uncut_append more f.more) ∙ ap uncut (sym f.split))
start_followed u v g k o run blocks pl right (Stops (End reason status output shows) more) next' r e =
    let q = over_is (End reason status output shows) o more run e in
    (r.0, (0, ap (λ z. goes_on z (exec v g 0) []) r.1 ∙ ap (λ z. Over z r.0) q.0), r.2 ∙ ap uncut q.1)
start_followed u v g k o run blocks pl right (Stops (More output) more) next' r e =
    let q = over_is (More output) o more run e in
    (r.0, (0, ap (λ z. goes_on z (exec v g 0) []) r.1 ∙ ap (λ z. Over z r.0) q.0), r.2 ∙ ap uncut q.1)
start_followed u v g k o run blocks pl right (Stops (Undef why) more) next' r e = absurd (subst IsDefined (sym (over_is (Undef why) o more run e).0) right)

none_at : (ss : List StaticObject) (a : Name) → is_slot a ≡ true → static_shapes ss a ≡ None
none_at ss (Named n) e = absurd cc
none_at ss (Slot n) e = refl
none_at ss Link e = refl

none_by : (a b : Bool) (x : Option Shape) → x ≡ None → cond a (cond b x None) None ≡ None
none_by true true x e = e
none_by true false x e = refl
none_by false b x e = refl

outer_first : (u v : Code) → IsPlaced u v → (g : Setting) (n : ℕ) → Outer u v (before u g n) [] [] (with_statics (statics_of v))
outer_first u v pl g n = record {
  seen = λ o e. ap (λ q. (with_statics q).shape o) (same_statics u v pl);
  unseen = λ o e. none_by (o.activation == 0) (o.depth == 0) (static_shapes (statics_of u) o.name) (none_at (statics_of u) o.name e);
  holds = λ o i e. ap (λ q. (with_statics q).values o i) (same_statics u v pl);
  callers = tt;
}

all_at : {X : Type 0} (P : X → Type 0) (xs : List X) (i : ℕ) (x : X) → All P xs → slice_get xs i ≡ Some x → P x
all_at P xs i x a e = subst P (get_or_from_slice_get xs i x x e) (All-get_or P xs i x (slice_get_within xs i x e) a)

blocks_there : (u : Code) → IsWellFormed u → BlocksThere u
blocks_there u w i b f block is_f is_block j line at =
    let o : IsFunction u.functions.items f = all_at (IsFunction u.functions.items) u.functions.items i f w.functions is_f in
    let k : IsBlock u.functions.items f block = all_at (IsBlock u.functions.items f) f.blocks.items b block o.blocks is_block in
    all_at (LineThere u.functions.items) block.lines.items j line k.lines_there at

abbrev start_main : Code → Setting → ℕ → ℕ → Next
start_main v g n i = enters v g i 0 0 (λ r. Unset) [] n (before v g n)

pub placed : PlaceKeeps
placed u v w pl g n o run right r =
    let lost : ℕ → Value = λ q. Unset in
    let there : BlocksThere u = blocks_there u w in
    let q = start_followed u v g r.steps o run there pl right (start u g n) (start v g n)
    (next_at u v (start u g n) _ (start v g n) (ap (λ (c : Code). start_main v g n c.main) pl.rest)
    (enters_both u v there pl g (before u g n) u.main 0 0 0 n lost lost lost 0 [] (Jump 0) [] [] [] (with_statics (statics_of v)) w.main (λ j l. absurd (omega arith)) (outer_first u v pl g n))) r.over in
    (q.0, record { steps = q.1.0; over = q.1.1 }, q.2)

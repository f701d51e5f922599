-- Expressions add blocks, and change none.
use Rattle.std.proofs.Common.{ℕ, zero, suc, ◌+◌, false, List, [], ◌∷◌, length, take, drop}
use Rattle.std.specs.Prelude.{pos, Some, None}
use Rattle.im_ctype.specs.declared.cell.Cell.{Cell}
use Rattle.im_typed.specs.declared.expression.Change.{Change}
use Rattle.im_typed.specs.declared.expression.Change.TheVariants.{Number as NumberBy, Move as PointerBy}
use Rattle.im_typed.specs.Program as p
use Rattle.im_typed.specs.Values.{changed_kind}
use Rattle.im_num.specs.declared.kind.Kind.TheVariants.{Ptr}
use Rattle.im_block.specs.declared.code.Place.{Place}
use Rattle.im_block.specs.declared.code.Place.TheVariants.{Through}
use Rattle.im_block.specs.declared.code.Line.TheVariants.{Put, PutNull, Convert, Unary, Not, Compute, Compare, Move, Distance, Address, Call, Serve}
use Rattle.im_block.specs.declared.code.Exit.TheVariants.{Jump, Branch}
use Rattle.im_lower_relation.specs.Codes.{further_in, count_of, in_groups}
use Rattle.im_lower_plain.specs.Made.{Made, start}
use Rattle.im_lower_plain.specs.Make.{place_at, behind, put_load, put_reads, put_writes, put_groups, groups_in, put_change, changed_in, part_offset, fails_made, holds_made, make_place, make, make_arguments, make_test}
use Rattle.im_lower_plain.proofs.Growth.{Grows, grows_put, grows_read, grows_write, grows_close, grows_start}

pub load_grows : {m n : Made} (x : p.Access) (to : ℕ) (place : Place) → Grows m n → Grows m (put_load x to place n)
load_grows (p.Scalar kind) to place h = grows_read to place kind h
load_grows (p.Struct count cells) to place h = grows_put (Address to place) h

pub reads_grow : {m n : Made} (pointer to : ℕ) (cells : List Cell) → Grows m n → Grows m (put_reads pointer to cells n)
reads_grow pointer to [] h = h
reads_grow pointer to (c ∷ cs) h = grows_read to (Through pointer c.offset) c.kind (reads_grow pointer (to + 1) cs h)

pub writes_grow : {m n : Made} (place : Place) (from : ℕ) (cells : List Cell) → Grows m n → Grows m (put_writes place from cells n)
writes_grow place from [] h = h
writes_grow place from (c ∷ cs) h = grows_write (further_in place c.offset) c.kind from (writes_grow place (from + 1) cs h)

pub groups_grow : {m n : Made} (pointer : ℕ) (place : Place) (count : ℕ) (cells : List Cell) → Grows m n → Grows m (put_groups pointer place count cells n)
groups_grow pointer place zero cells h = reads_grow pointer (pointer + 1) cells (writes_grow place (pointer + 1) cells h)
groups_grow pointer place (suc count) cells h =
    reads_grow pointer (pointer + 1) (take 8 cells) (writes_grow place (pointer + 1) (take 8 cells) (groups_grow pointer place count (drop 8 cells) h))

pub change_grows : {m n : Made} (change : Change) (to old by : ℕ) (place : Place) → Grows m n → Grows m (put_change change to old by place n)
change_grows (NumberBy kind op at) to old by place h =
    grows_put (Compute to op at old by) (grows_put (Convert to kind to) (grows_write place kind to h))
change_grows (PointerBy size back) to old by place h = grows_put (Move to size back old by) (grows_write place Ptr to h)

pub fails_grow : {m n : Made} (to : ℕ) → Grows m n → Grows m (fails_made to n)
fails_grow to h = grows_put (Put to (pos 0)) (grows_close h)

pub holds_grow : {m n : Made} (to : ℕ) → Grows m n → Grows m (holds_made to n)
holds_grow {m} {n} to h =
    grows_put (Put to (pos 1)) (grows_start (Jump (length n.blocks)) (grows_close (fails_grow to h)))

module _ (g : p.Prog) (first : ℕ) where
  abbrev ValueGrows : p.Expr → Type 0
  ValueGrows e = (m n : Made) (to free : ℕ) → Grows m n → Grows m (make g first e to free n)

  mutual
    pub place_grows : {m n : Made} (a : p.Place) (free : ℕ) → Grows m n → Grows m (make_place g first a free n)
    place_grows (p.Static k) free h = h
    place_grows (p.Local k) free h = h
    place_grows (p.Target e) free h = grows e free (free + 1) h
    place_grows (p.Member a d) free h = place_grows a free h

    pub grows : {m n : Made} (e : p.Expr) (to free : ℕ) → Grows m n → Grows m (make g first e to free n)
    grows (p.Constant kind z) to free h = grows_put (Put to z) h
    grows (p.NullPointer kind) to free h = grows_put (PutNull to) h
    grows (p.Read x a) to free h = place_grows a free (load_grows x to (place_at first a free) h)
    grows (p.Address a) to free h = place_grows a free (grows_put (Address to (place_at first a free)) h)
    grows (p.Convert kind e) to free h = grows e to free (grows_put (Convert to kind to) h)
    grows (p.Unary op kind e) to free h = grows e free (free + 1) (grows_put (Unary to op kind free) h)
    grows (p.Binary op kind a b) to free h =
        grows a free (free + 1) (grows b (free + 1) (free + 1 + 1) (grows_put (Compute to op kind free (free + 1)) h))
    grows (p.Move size back a b) to free h =
        grows a free (free + 1) (grows b (free + 1) (free + 1 + 1) (grows_put (Move to size back free (free + 1)) h))
    grows (p.MoveBy size a b) to free h =
        grows a free (free + 1) (grows b (free + 1) (free + 1 + 1) (grows_put (Move to size false (free + 1) free) h))
    grows (p.Distance size a b) to free h =
        grows a free (free + 1) (grows b (free + 1) (free + 1 + 1) (grows_put (Distance to size free (free + 1)) h))
    grows (p.Compare op kind a b) to free h =
        grows a free (free + 1) (grows b (free + 1) (free + 1 + 1) (grows_put (Compare to op kind free (free + 1)) h))
    grows (p.Not a) to free h = grows a free (free + 1) (grows_put (Not to free) h)
    grows (p.And a b) to free h =
        test_by_grows a (λ m n to free h. grows a to free h) free _ _ (grows_close
        (test_by_grows b (λ m n to free h. grows b to free h) free _ _ (grows_close (holds_grow to h))))
    grows (p.Or a b) to free h =
        test_by_grows a (λ m n to free h. grows a to free h) free _ _ (grows_close
        (test_by_grows b (λ m n to free h. grows b to free h) free _ _ (grows_close (holds_grow to h))))
    grows (p.Choose q a b) to free h =
        test_by_grows q (λ m n to free h. grows q to free h) free _ _
        (grows_close (grows a to free (grows_start _ (grows_close (grows b to free (grows_close h))))))
    grows (p.Comma a b) to free h = grows a to free (grows b to free h)
    grows (p.Discard a) to free h = grows a to free h
    grows (p.Assign (p.Scalar kind) a e) to free h =
        place_grows a free (grows e to (behind a free) (grows_write (place_at first a free) kind to h))
    grows (p.Assign (p.Struct count cells) a e) to free h =
        place_grows a free (grows e (behind a free) (behind a free + 1)
        (groups_grow (behind a free) (place_at first a free) (groups_in (in_groups g first a cells e) cells) cells (grows_put (Address to (place_at first a free)) h)))
    grows (p.Update a change e) to free h =
        place_grows a free (grows_read to (place_at first a free) (changed_kind change)
        (grows e (behind a free) (behind a free + 1) (change_grows change to to (behind a free) (place_at first a free) h)))
    grows (p.Increment a change old) to free h =
        place_grows a free (grows_read to (place_at first a free) (changed_kind change)
        (grows_put (Put (behind a free) (pos 1)) (change_grows change (changed_in old to (behind a free)) to (behind a free) (place_at first a free) h)))
    grows (p.Part from x e) to free h = grows e free (free + 1) (load_grows x to (Through free (part_offset g from e)) h)
    grows (p.Call k es) to free h = arguments_grow es free (grows_put (Call to k free (count_of es)) h)
    grows (p.Serve service p.no_argument) to free h = grows_put (Serve to service None) h
    grows (p.Serve service (p.an_argument e)) to free h = grows e free (free + 1) (grows_put (Serve to service (Some free)) h)

    pub arguments_grow : {m n : Made} (es : p.Exprs) (free : ℕ) → Grows m n → Grows m (make_arguments g first es free n)
    arguments_grow p.no_exprs free h = h
    arguments_grow (p.more_exprs e rest) free h = grows e free (free + 1) (arguments_grow rest (free + 1) h)

    test_by_grows : {m n : Made} (e : p.Expr) → ValueGrows e → (free holds fails : ℕ) → Grows m n → Grows m (make_test g first e free holds fails n)
    test_by_grows (p.Not a) value free holds fails h = test_by_grows a (λ m n to free h. grows a to free h) free fails holds h
    test_by_grows (p.And a b) value free holds fails h =
        test_by_grows a (λ m n to free h. grows a to free h) free _ fails (grows_close
        (test_by_grows b (λ m n to free h. grows b to free h) free holds fails h))
    test_by_grows (p.Or a b) value free holds fails h =
        test_by_grows a (λ m n to free h. grows a to free h) free holds _ (grows_close
        (test_by_grows b (λ m n to free h. grows b to free h) free holds fails h))
    test_by_grows {m} {n} e value free holds fails h =
        value m (start (Branch free holds fails) n) free (free + 1) (grows_start (Branch free holds fails) h)

  pub decision_grows : {m n : Made} (e : p.Expr) (free holds fails : ℕ) → Grows m n → Grows m (make_test g first e free holds fails n)
  decision_grows e free holds fails h = test_by_grows e (λ m n to free h. grows e to free h) free holds fails h

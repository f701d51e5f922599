-- What the body puts for an expression is what the relation asks.
use Rattle.std.proofs.Common.{◌≡◌, ◌⊎◌, inl, inr, ℕ, zero, suc, ◌+◌, ◌≤◌, Bool, true, false, List, [], ◌∷◌, length, take, drop, refl, ap, ◌∙◌, subst, add-one, arith}
use Rattle.std.specs.Prelude.{pos, Some}
use Rattle.im_num.specs.declared.kind.Kind.TheVariants.{Ptr}
use Rattle.im_ctype.specs.declared.cell.Cell.{Cell}
use Rattle.im_typed.specs.declared.expression.Change.TheVariants.{Number as NumberBy, Move as PointerBy}
use Rattle.im_typed.specs.Program as p
use Rattle.im_block.specs.declared.code.Place.{Place}
use Rattle.im_block.specs.declared.code.Place.TheVariants.{Through}
use Rattle.im_block.specs.declared.code.Line.{Line}
use Rattle.im_block.specs.declared.code.Line.TheVariants.{Put, Convert, Unary, Not, Compute, Compare, Move, Distance, Address, Read, Write, Call, Serve}
use Rattle.im_block.specs.declared.code.Exit.TheVariants.{Jump, Branch}
use Rattle.im_block.specs.declared.code.Block.{Block}
use Rattle.im_lower_relation.specs.Codes.{Point, before, ends, Begins, further_in, above, where_of, reads_of, writes_of, count_of, Codes, CodesPlace, CodesArguments, CodesGroup, CodesGroups, in_groups, CodesTest}
use Rattle.im_lower_plain.specs.Made.{Made, put, put_read, put_write, close, start}
use Rattle.im_lower_plain.specs.Make.{place_at, behind, put_reads, put_writes, put_group, put_groups, groups_in, put_change, put_increment, part_offset, fails_made, holds_made, make_place, make, make_arguments, make_test}
use Rattle.im_lower_plain.proofs.Growth.{Grows, stays, grows_on, grows_put, grows_read, grows_write, grows_close, grows_start, Later, later_before, closed_begins}
use Rattle.im_lower_plain.proofs.Grown.{place_grows, grows, arguments_grow, change_grows, groups_grow, fails_grow, holds_grow, decision_grows}

-- the numbers of the accesses of a copy

pub record Reads (pointer to : ℕ) (cells : List Cell) (m : Made) : Type 0 where
  pub numbers : List ℕ
  pub count : length numbers ≡ length cells
  pub point : (put_reads pointer to cells m).point ≡ reads_of pointer to cells numbers m.point

pub reads_point : (pointer to : ℕ) (cells : List Cell) (m : Made) → Reads pointer to cells m
unfolding put put_read
reads_point pointer to [] m = record { numbers = []; count = refl; point = refl }
reads_point pointer to (c ∷ cs) m =
    let rest = reads_point pointer (to + 1) cs m in
    let number = (put_reads pointer (to + 1) cs m).accesses in
    record {
      numbers = number ∷ rest.numbers;
      count = ap suc rest.count;
      point = ap (λ q. before (Read to (Through pointer c.offset) c.kind number) q) (rest.point ∙ ap (λ k. reads_of pointer k cs rest.numbers m.point) (add-one to));
    }

pub record Writes (place : Place) (from : ℕ) (cells : List Cell) (m : Made) : Type 0 where
  pub numbers : List ℕ
  pub count : length numbers ≡ length cells
  pub point : (put_writes place from cells m).point ≡ writes_of place from cells numbers m.point

pub writes_point : (place : Place) (from : ℕ) (cells : List Cell) (m : Made) → Writes place from cells m
unfolding put put_write
writes_point place from [] m = record { numbers = []; count = refl; point = refl }
writes_point place from (c ∷ cs) m =
    let rest = writes_point place (from + 1) cs m in
    let number = (put_writes place (from + 1) cs m).accesses in
    record {
      numbers = number ∷ rest.numbers;
      count = ap suc rest.count;
      point = ap (λ q. before (Write (further_in place c.offset) c.kind from number) q) (rest.point ∙ ap (λ k. writes_of place k cs rest.numbers m.point) (add-one from));
    }

-- a copy in groups

pub group_coded : (pointer : ℕ) (place : Place) (cells : List Cell) (m : Made) → CodesGroup pointer place cells (put_group pointer place cells m).point m.point
group_coded pointer place cells m =
    let w = writes_point place (pointer + 1) cells m in
    let r = reads_point pointer (pointer + 1) cells (put_writes place (pointer + 1) cells m) in
    (r.numbers, w.numbers, r.count, w.count, r.point ∙ ap (λ q. reads_of pointer (pointer + 1) cells r.numbers q) w.point)

pub groups_coded : (pointer : ℕ) (place : Place) (n : ℕ) (cells : List Cell) (m : Made) → CodesGroups pointer place n cells (put_groups pointer place n cells m).point m.point
groups_coded pointer place zero cells m = group_coded pointer place cells m
groups_coded pointer place (suc n) cells m =
    let rest = put_groups pointer place n (drop 8 cells) m in
    (rest.point, group_coded pointer place (take 8 cells) rest, groups_coded pointer place n (drop 8 cells) m)

pub groups_allowed : (whole : Bool) (cells : List Cell) → (groups_in whole cells ≡ 0) ⊎ (whole ≡ true)
groups_allowed false cells = inl refl
groups_allowed true cells = inr refl

pub further_on : {m n : Made} (low : ℕ) → low ≤ length m.blocks → Grows m n → low ≤ length n.blocks
further_on low le h = let longer = h.longer in omega arith

module _ (g : p.Prog) (first : ℕ) (later : List Block) where
  pub place_where : (a : p.Place) (free : ℕ) → place_at first a free ≡ where_of g first later a free
  place_where (p.Static n) free = refl
  place_where (p.Local n) free = refl
  place_where (p.Target e) free = refl
  place_where (p.Member a d) free = ap (λ w. further_in w d) (place_where a free)

  behind_above : (a : p.Place) (free : ℕ) → behind a free ≡ above a free
  behind_above (p.Static n) free = refl
  behind_above (p.Local n) free = refl
  behind_above (p.Target e) free = refl
  behind_above (p.Member a d) free = behind_above a free

  -- to the relation's own words for a place and the first register above it
  carry : (P : Place → ℕ → Type 0) (a : p.Place) (free : ℕ) → P (place_at first a free) (behind a free) → P (where_of g first later a free) (above a free)
  carry P a free x =
      subst (λ w. P w (above a free)) (place_where a free) (subst (λ q. P (place_at first a free) q) (behind_above a free) x)

  abbrev Coded : p.Expr → Type 0
  Coded e =
      (to free : ℕ) (m : Made) (low : ℕ) → low ≤ length m.blocks → Later low (make g first e to free m) later
      → Codes g first later e to free (make g first e to free m).point m.point

  record Two (a b : p.Expr) (free : ℕ) (s t : Point) : Type 0 where
    mid : Point
    left : Codes g first later a free (free + 1) s mid
    right : Codes g first later b (free + 1) (free + 2) mid t

  two_coded : (a b : p.Expr) → Coded a → Coded b → (line : Line) (free : ℕ) (m : Made) (low : ℕ) → low ≤ length m.blocks → Later low (make g first a free (free + 1) (make g first b (free + 1) (free + 1 + 1) (put line m))) later → Two a b free (make g first a free (free + 1) (make g first b (free + 1) (free + 1 + 1) (put line m))).point (before line m.point)
  unfolding put
  two_coded a b left right line free m low le l =
      let n = make g first b (free + 1) (free + 1 + 1) (put line m) in
      let grown : Grows (put line m) n = grows g first b (free + 1) (free + 1 + 1) (stays (put line m)) in
      let next : free + 1 + 1 ≡ free + 2 = omega arith in
      record {
        mid = n.point;
        left = left free (free + 1) n low (further_on low le grown) l;
        right = subst (λ k. Codes g first later b (free + 1) k n.point (before line m.point)) next (right (free + 1) (free + 1 + 1) (put line m) low le (later_before (grows g first a free (free + 1) (stays n)) l));
      }

  -- the blocks of a truth value
  record Truths (to : ℕ) (m : Made) (low : ℕ) : Type 0 where
    join : Begins later (length m.blocks) m.point
    one : Begins later (length (holds_made to m).blocks) (before (Put to (pos 1)) (ends (Jump (length m.blocks))))
    none : Begins later (length (fails_made to m).blocks) (before (Put to (pos 0)) (ends (Jump (length m.blocks))))
    le : low ≤ length (close (holds_made to m)).blocks

  truths_coded : (to : ℕ) (m final : Made) (low : ℕ) → low ≤ length m.blocks → Grows (close (holds_made to m)) final → Later low final later → Truths to m low
  unfolding put start close
  truths_coded to m final low le on l =
      let fails = fails_made to m in
      let holds = holds_made to m in
      let to_fails : Grows m fails = fails_grow to (stays m) in
      let to_holds : Grows m holds = holds_grow to (stays m) in
      let begin : Grows (close m) (close fails) = grows_close (grows_put (Put to (pos 0)) (stays (close m))) in
      let middle : Grows (close fails) (close holds) = grows_close (grows_put (Put to (pos 1)) (grows_start (Jump (length m.blocks)) (stays (close fails)))) in
      record {
        join = closed_begins m le (later_before (grows_on begin (grows_on middle on)) l);
        one = closed_begins holds (further_on low le to_holds) (later_before on l);
        none = closed_begins fails (further_on low le to_fails) (later_before (grows_on middle on) l);
        le = further_on low le (grows_close to_holds);
      }

  abbrev CodedTest : p.Expr → Type 0
  CodedTest e =
      (free holds fails : ℕ) (m : Made) (low : ℕ) → low ≤ length m.blocks → Later low (make_test g first e free holds fails m) later
      → CodesTest g first later e free holds fails (make_test g first e free holds fails m).point

  -- two tests, the second of which begins a block
  record TwoTests (a b : p.Expr) (free : ℕ) (x y z w : ℕ) (m : Made) : Type 0 where
    more : Begins later (length (make_test g first b free x y m).blocks) (make_test g first b free x y m).point
    left : CodesTest g first later a free z w (make_test g first a free z w (close (make_test g first b free x y m))).point
    right : CodesTest g first later b free x y (make_test g first b free x y m).point

  two_tests_coded : (a b : p.Expr) → CodedTest a → CodedTest b → (free x y z w : ℕ) (m : Made) (low : ℕ) → low ≤ length m.blocks → Later low (make_test g first a free z w (close (make_test g first b free x y m))) later → TwoTests a b free x y z w m
  two_tests_coded a b left right free x y z w m low le l =
      let rest = make_test g first b free x y m in
      let to_rest : Grows m rest = decision_grows g first b free x y (stays m) in
      let on : Grows (close rest) (make_test g first a free z w (close rest)) = decision_grows g first a free z w (stays (close rest)) in
      record {
        more = closed_begins rest (further_on low le to_rest) (later_before on l);
        left = left free z w (close rest) low (further_on low le (grows_close to_rest)) l;
        right = right free x y m low le (later_before (grows_on (grows_close (stays rest)) on) l);
      }

  from_truths : (a b : p.Expr) (free x y z w : ℕ) (m : Made) → Grows m (make_test g first a free z w (close (make_test g first b free x y m)))
  from_truths a b free x y z w m =
      decision_grows g first a free z w (grows_close (decision_grows g first b free x y (stays m)))

  mutual
    unfolding put put_read put_write close start

    pub place_coded : (a : p.Place) (free : ℕ) (m : Made) (low : ℕ) → low ≤ length m.blocks → Later low (make_place g first a free m) later → CodesPlace g first later a free (make_place g first a free m).point m.point
    place_coded (p.Static n) free m low le l = refl
    place_coded (p.Local n) free m low le l = refl
    place_coded (p.Target e) free m low le l = coded e free (free + 1) m low le l
    place_coded (p.Member a d) free m low le l = place_coded a free m low le l

    pub coded : (e : p.Expr) → Coded e
    coded (p.Constant kind z) to free m low le l = refl
    coded (p.NullPointer kind) to free m low le l = refl
    coded (p.Read (p.Scalar kind) a) to free m low le l =
        let P = λ (w : Place) (q : ℕ). CodesPlace g first later a free (make g first (p.Read (p.Scalar kind) a) to free m).point (before (Read to w kind m.accesses) m.point) in
        (m.accesses, carry P a free (place_coded a free (put_read to (place_at first a free) kind m) low le l))
    coded (p.Read (p.Struct count cells) a) to free m low le l =
        let P = λ (w : Place) (q : ℕ). CodesPlace g first later a free (make g first (p.Read (p.Struct count cells) a) to free m).point (before (Address to w) m.point) in
        carry P a free (place_coded a free (put (Address to (place_at first a free)) m) low le l)
    coded (p.Address a) to free m low le l =
        let P = λ (w : Place) (q : ℕ). CodesPlace g first later a free (make g first (p.Address a) to free m).point (before (Address to w) m.point) in
        carry P a free (place_coded a free (put (Address to (place_at first a free)) m) low le l)
    coded (p.Convert kind e) to free m low le l = coded e to free (put (Convert to kind to) m) low le l
    coded (p.Unary op kind e) to free m low le l = coded e free (free + 1) (put (Unary to op kind free) m) low le l
    coded (p.Binary op kind a b) to free m low le l =
        let two = two_coded a b (coded a) (coded b) (Compute to op kind free (free + 1)) free m low le l in
        (two.mid, two.left, two.right)
    coded (p.Move size back a b) to free m low le l =
        let two = two_coded a b (coded a) (coded b) (Move to size back free (free + 1)) free m low le l in
        (two.mid, two.left, two.right)
    coded (p.MoveBy size a b) to free m low le l =
        let two = two_coded a b (coded a) (coded b) (Move to size false (free + 1) free) free m low le l in
        (two.mid, two.left, two.right)
    coded (p.Distance size a b) to free m low le l =
        let two = two_coded a b (coded a) (coded b) (Distance to size free (free + 1)) free m low le l in
        (two.mid, two.left, two.right)
    coded (p.Compare op kind a b) to free m low le l =
        let two = two_coded a b (coded a) (coded b) (Compare to op kind free (free + 1)) free m low le l in
        (two.mid, two.left, two.right)
    coded (p.Not a) to free m low le l = coded a free (free + 1) (put (Not to free) m) low le l
    coded (p.And a b) to free m low le l =
        let x = length (holds_made to m).blocks in
        let y = length (fails_made to m).blocks in
        let begun = close (holds_made to m) in
        let rest = make_test g first b free x y begun in
        let k = length rest.blocks in
        let s = truths_coded to m (make_test g first a free k y (close rest)) low le (from_truths a b free x y k y begun) l in
        let two = two_tests_coded a b (coded_test_by a (coded a)) (coded_test_by b (coded b)) free x y k y begun low s.le l in
        (length m.blocks, x, y, k, rest.point, s.join, s.one, s.none, two.more, two.left, two.right)
    coded (p.Or a b) to free m low le l =
        let x = length (holds_made to m).blocks in
        let y = length (fails_made to m).blocks in
        let begun = close (holds_made to m) in
        let rest = make_test g first b free x y begun in
        let k = length rest.blocks in
        let s = truths_coded to m (make_test g first a free x k (close rest)) low le (from_truths a b free x y x k begun) l in
        let two = two_tests_coded a b (coded_test_by a (coded a)) (coded_test_by b (coded b)) free x y x k begun low s.le l in
        (length m.blocks, x, y, k, rest.point, s.join, s.one, s.none, two.more, two.left, two.right)
    coded (p.Choose q a b) to free m low le l =
        let other = make g first b to free (close m) in
        let begun = start (Jump (length m.blocks)) (close other) in
        let one = make g first a to free begun in
        let last : Grows (close one) (make_test g first q free (length one.blocks) (length other.blocks) (close one)) = decision_grows g first q free (length one.blocks) (length other.blocks) (stays (close one)) in
        let middle : Grows (close other) (close one) = grows_close (grows g first a to free (grows_start (Jump (length m.blocks)) (stays (close other)))) in
        let begin : Grows (close m) (close other) = grows_close (grows g first b to free (stays (close m))) in
        let to_other : Grows m other = grows g first b to free (grows_close (stays m)) in
        let to_begun : Grows m begun = grows_start (Jump (length m.blocks)) (grows_close to_other) in
        let to_one : Grows m one = grows g first a to free to_begun in
        let joined : Grows m (close m) = grows_close (stays m) in (
          length m.blocks,
          length one.blocks,
          length other.blocks,
          one.point,
          other.point,
          closed_begins m le (later_before (grows_on begin (grows_on middle last)) l),
          closed_begins one (further_on low le to_one) (later_before last l),
          closed_begins other (further_on low le to_other) (later_before (grows_on middle last) l),
          coded_test_by q (coded q) free (length one.blocks) (length other.blocks) (close one) low (further_on low le (grows_close to_one)) l,
          coded a to free begun low (further_on low le to_begun) (later_before (grows_on (grows_close (stays one)) last) l),
          coded b to free (close m) low (further_on low le joined) (later_before (grows_on (grows_close (stays other)) (grows_on middle last)) l),
        )
    coded (p.Comma a b) to free m low le l =
        let n = make g first b to free m in
        let grown : Grows m n = grows g first b to free (stays m) in
        (n.point, coded a to free n low (further_on low le grown) l, coded b to free m low le (later_before (grows g first a to free (stays n)) l))
    coded (p.Discard a) to free m low le l = coded a to free m low le l
    coded (p.Assign (p.Scalar kind) a e) to free m low le l =
        let stored = put_write (place_at first a free) kind to m in
        let n = make g first e to (behind a free) stored in
        let s = (make g first (p.Assign (p.Scalar kind) a e) to free m).point in
        let P = λ (w : Place) (q : ℕ). Codes g first later e to q n.point (before (Write w kind to m.accesses) m.point) in (
          n.point,
          m.accesses,
          place_coded a free n low (further_on low le (grows g first e to (behind a free) (grows_write (place_at first a free) kind to (stays m)))) l,
          carry P a free (coded e to (behind a free) stored low le (later_before (place_grows g first a free (stays n)) l)),
        )
    coded (p.Assign (p.Struct count cells) a e) to free m low le l =
        let at = place_at first a free in
        let from = behind a free in
        let allowed = in_groups g first a cells e in
        let many = groups_in allowed cells in
        let address = put (Address to at) m in
        let copied = put_groups from at many cells address in
        let n = make g first e from (from + 1) copied in
        let grown : Grows m copied = groups_grow from at many cells (grows_put (Address to at) (stays m)) in
        let P = λ (w : Place) (q : ℕ). Codes g first later e q (q + 1) n.point copied.point × CodesGroups q w many cells copied.point (before (Address to w) m.point) in
        let both = carry P a free (coded e from (from + 1) copied low (further_on low le grown) (later_before (place_grows g first a free (stays n)) l), groups_coded from at many cells address) in (
          n.point,
          copied.point,
          many,
          groups_allowed allowed cells,
          place_coded a free n low (further_on low le (grows g first e from (from + 1) grown)) l,
          both.0,
          both.1,
        )
    coded (p.Update a (NumberBy kind op at) e) to free m low le l =
        let place = place_at first a free in
        let from = behind a free in
        let stored = put_change (NumberBy kind op at) to to from place m in
        let n = make g first e from (from + 1) stored in
        let grown : Grows m n = grows g first e from (from + 1) (change_grows (NumberBy kind op at) to to from place (stays m)) in
        let read = put_read to place kind n in
        let s = (make_place g first a free read).point in
        let P = λ (w : Place) (q : ℕ). CodesPlace g first later a free s (before (Read to w kind n.accesses) n.point) in
        let Q = λ (w : Place) (q : ℕ). Codes g first later e q (q + 1) n.point (before (Compute to op at to q) (before (Convert to kind to) (before (Write w kind to m.accesses) m.point))) in (
          n.point,
          n.accesses,
          m.accesses,
          carry P a free (place_coded a free read low (further_on low le (grows_read to place kind grown)) l),
          carry Q a free (coded e from (from + 1) stored low le (later_before (place_grows g first a free (grows_read to place kind (stays n))) l)),
        )
    coded (p.Update a (PointerBy size back) e) to free m low le l =
        let place = place_at first a free in
        let from = behind a free in
        let stored = put_change (PointerBy size back) to to from place m in
        let n = make g first e from (from + 1) stored in
        let grown : Grows m n = grows g first e from (from + 1) (change_grows (PointerBy size back) to to from place (stays m)) in
        let read = put_read to place Ptr n in
        let s = (make_place g first a free read).point in
        let P = λ (w : Place) (q : ℕ). CodesPlace g first later a free s (before (Read to w Ptr n.accesses) n.point) in
        let Q = λ (w : Place) (q : ℕ). Codes g first later e q (q + 1) n.point (before (Move to size back to q) (before (Write w Ptr to m.accesses) m.point)) in (
          n.point,
          n.accesses,
          m.accesses,
          carry P a free (place_coded a free read low (further_on low le (grows_read to place Ptr grown)) l),
          carry Q a free (coded e from (from + 1) stored low le (later_before (place_grows g first a free (grows_read to place Ptr (stays n))) l)),
        )
    coded (p.Increment a (NumberBy kind op at) false) to free m low le l =
        let made = put_increment (NumberBy kind op at) false to (behind a free) (place_at first a free) m in
        let s = (make_place g first a free made).point in
        let P = λ (w : Place) (q : ℕ). CodesPlace g first later a free s (before (Read to w kind (m.accesses + 1)) (before (Put q (pos 1)) (before (Compute to op at to q) (before (Convert to kind to) (before (Write w kind to m.accesses) m.point))))) in
        (m.accesses + 1, m.accesses, carry P a free (place_coded a free made low le l))
    coded (p.Increment a (NumberBy kind op at) true) to free m low le l =
        let made = put_increment (NumberBy kind op at) true to (behind a free) (place_at first a free) m in
        let s = (make_place g first a free made).point in
        let P = λ (w : Place) (q : ℕ). CodesPlace g first later a free s (before (Read to w kind (m.accesses + 1)) (before (Put q (pos 1)) (before (Compute q op at to q) (before (Convert q kind q) (before (Write w kind q m.accesses) m.point))))) in
        (m.accesses + 1, m.accesses, carry P a free (place_coded a free made low le l))
    coded (p.Increment a (PointerBy size back) false) to free m low le l =
        let made = put_increment (PointerBy size back) false to (behind a free) (place_at first a free) m in
        let s = (make_place g first a free made).point in
        let P = λ (w : Place) (q : ℕ). CodesPlace g first later a free s (before (Read to w Ptr (m.accesses + 1)) (before (Put q (pos 1)) (before (Move to size back to q) (before (Write w Ptr to m.accesses) m.point)))) in
        (m.accesses + 1, m.accesses, carry P a free (place_coded a free made low le l))
    coded (p.Increment a (PointerBy size back) true) to free m low le l =
        let made = put_increment (PointerBy size back) true to (behind a free) (place_at first a free) m in
        let s = (make_place g first a free made).point in
        let P = λ (w : Place) (q : ℕ). CodesPlace g first later a free s (before (Read to w Ptr (m.accesses + 1)) (before (Put q (pos 1)) (before (Move q size back to q) (before (Write w Ptr q m.accesses) m.point)))) in
        (m.accesses + 1, m.accesses, carry P a free (place_coded a free made low le l))
    coded (p.Part from (p.Scalar kind) e) to free m low le l =
        (m.accesses, coded e free (free + 1) (put_read to (Through free (part_offset g from e)) kind m) low le l)
    coded (p.Part from (p.Struct count cells) e) to free m low le l =
        coded e free (free + 1) (put (Address to (Through free (part_offset g from e))) m) low le l
    coded (p.Call n es) to free m low le l = arguments_coded es free (put (Call to n free (count_of es)) m) low le l
    coded (p.Serve service p.no_argument) to free m low le l = refl
    coded (p.Serve service (p.an_argument e)) to free m low le l = coded e free (free + 1) (put (Serve to service (Some free)) m) low le l

    pub arguments_coded : (es : p.Exprs) (free : ℕ) (m : Made) (low : ℕ) → low ≤ length m.blocks → Later low (make_arguments g first es free m) later → CodesArguments g first later es free (make_arguments g first es free m).point m.point
    arguments_coded p.no_exprs free m low le l = refl
    arguments_coded (p.more_exprs e rest) free m low le l =
        let n = make_arguments g first rest (free + 1) m in (
          n.point,
          coded e free (free + 1) n low (further_on low le (arguments_grow g first rest (free + 1) (stays m))) l,
          arguments_coded rest (free + 1) m low le (later_before (grows g first e free (free + 1) (stays n)) l),
        )

    coded_test_by : (e : p.Expr) → Coded e → CodedTest e
    coded_test_by (p.Not a) value free x y m low le l = coded_test_by a (coded a) free y x m low le l
    coded_test_by (p.And a b) value free x y m low le l =
        let rest = make_test g first b free x y m in
        let two = two_tests_coded a b (coded_test_by a (coded a)) (coded_test_by b (coded b)) free x y (length rest.blocks) y m low le l in
        (length rest.blocks, rest.point, two.more, two.left, two.right)
    coded_test_by (p.Or a b) value free x y m low le l =
        let rest = make_test g first b free x y m in
        let two = two_tests_coded a b (coded_test_by a (coded a)) (coded_test_by b (coded b)) free x y x (length rest.blocks) m low le l in
        (length rest.blocks, rest.point, two.more, two.left, two.right)
    coded_test_by e value free x y m low le l = value free (free + 1) (start (Branch free x y) m) low le l

  pub test_coded : (e : p.Expr) → CodedTest e
  test_coded e = coded_test_by e (coded e)

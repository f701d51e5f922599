-- What an expression puts, from what its parts put in turn: a step for each call of the code.
use denote.Bor.{Bor}
use Rattle.std.proofs.Common.{◌≡◌, ◌≤◌, ◌<◌, ◌⊎◌, inl, inr, ℕ, ◌+◌, Bool, List, Option, Some, None, Result, Ok, Err, IfOk, IfSome, MatchOption, length, arith, refl, ap, sym, ◌∙◌, Box, Global}
use Rattle.im_num.specs.declared.kind.Kind.{Kind}
use Rattle.im_ctype.specs.declared.cell.Cell.{Cell}
use Rattle.im_ctype.specs.Layout.{layouts, layout_at}
use Rattle.im_ctype.specs.Table.{Table, structs_of}
use Rattle.im_store.specs.declared.operators.BinaryOp.{BinaryOp}
use Rattle.im_store.specs.declared.operators.Comparison.{Comparison}
use Rattle.im_typed.specs.declared.expression.Change.{Change}
use Rattle.im_typed.specs.declared.expression.Access.{Access}
use Rattle.im_typed.specs.declared.expression.Access.TheVariants as ra
use Rattle.im_typed.specs.declared.expression.Expr as re
use Rattle.im_typed.specs.declared.expression.Expr.{size-Expr}
use Rattle.im_typed.specs.declared.expression.Place as rp
use Rattle.im_typed.specs.Program as p
use Rattle.im_typed.specs.ProgramOf.{access_of, expr_of, place_of}
use Rattle.im_typed.specs.Values.{changed_kind}
use Rattle.im_block.specs.declared.code.Exit.TheVariants.{Jump, Branch}
use Rattle.im_block.specs.declared.code.Line.TheVariants.{Address}
use Rattle.im_block.specs.declared.code.Place.{Place}
use Rattle.im_lower_relation.specs.Codes.{in_groups}
use Rattle.im_lower_plain.specs.Made.{Made, close, put, put_read, start}
use Rattle.im_lower_plain.specs.Make.{behind, groups_in, make, make_place, make_test, place_at, put_change, put_copy, put_increment, put_load, put_operator}

-- what is less deep than a part is less deep than the whole
pub below_more : {E : Type 0} (found : Result (Option (Bor re.Expr)) E) (n k : ℕ) → n ≤ k → IfOk found (λ o. IfSome o (λ e. size-Expr e.now < n)) → IfOk found (λ o. IfSome o (λ e. size-Expr e.now < k))
below_more (Ok None) n k le h = h
below_more (Ok (Some e)) n k le h = omega (arith, le, h)
below_more (Err x) n k le h = h

module _ (g : p.Prog) (first : ℕ) where
  pub choice_made : (q a b : p.Expr) (to free join fails holds : ℕ) (m m₁ m₂ m₃ m₄ m₅ m₆ : Made)
      → join ≡ length m.blocks → m₁ ≡ close m → m₂ ≡ make g first b to free m₁
      → fails ≡ length m₂.blocks → m₃ ≡ close m₂ → m₄ ≡ start (Jump join) m₃ → m₅ ≡ make g first a to free m₄
      → holds ≡ length m₅.blocks → m₆ ≡ close m₅
      → make_test g first q free holds fails m₆ ≡ make g first (p.Choose q a b) to free m
  choice_made q a b to free join fails holds m m₁ m₂ m₃ m₄ m₅ m₆ is_join is₁ is₂ is_fails is₃ is₄ is₅ is_holds is₆ =
      let other : Made = make g first b to free (close m) in
      let one : Made = make g first a to free (start (Jump (length m.blocks)) (close other)) in
      let to_other : m₂ ≡ other = is₂ ∙ ap (make g first b to free) is₁ in
      let joined : m₄ ≡ start (Jump (length m.blocks)) (close other) =
      is₄ ∙ ap (λ j. start (Jump j) m₃) is_join ∙ ap (start (Jump (length m.blocks))) (is₃ ∙ ap close to_other) in
      let to_one : m₅ ≡ one = is₅ ∙ ap (make g first a to free) joined in
      let to_holds : holds ≡ length one.blocks = is_holds ∙ ap (λ (x : Made). length x.blocks) to_one in
      let to_fails : fails ≡ length other.blocks = is_fails ∙ ap (λ (x : Made). length x.blocks) to_other in
      ap (λ h. make_test g first q free h fails m₆) to_holds ∙ ap (λ f. make_test g first q free (length one.blocks) f m₆) to_fails
      ∙ ap (make_test g first q free (length one.blocks) (length other.blocks)) (is₆ ∙ ap close to_one)

  -- two tests, the second of which begins a block
  second_made : (b : p.Expr) (free holds fails x y : ℕ) (n m₁ m₂ : Made) → x ≡ holds → y ≡ fails → m₁ ≡ n
      → m₂ ≡ make_test g first b free x y m₁ → m₂ ≡ make_test g first b free holds fails n
  second_made b free holds fails x y n m₁ m₂ is_x is_y is₁ is₂ =
      is₂ ∙ ap (λ h. make_test g first b free h y m₁) is_x ∙ ap (λ f. make_test g first b free holds f m₁) is_y
      ∙ ap (make_test g first b free holds fails) is₁

  pub and_made : (a b : p.Expr) (free holds fails x y k : ℕ) (n m₁ m₂ m₃ : Made) → x ≡ holds → y ≡ fails → m₁ ≡ n
      → m₂ ≡ make_test g first b free x y m₁ → k ≡ length m₂.blocks → m₃ ≡ close m₂
      → make_test g first a free k y m₃
      ≡ make_test g first a free (length (make_test g first b free holds fails n).blocks) fails (close (make_test g first b free holds fails n))
  and_made a b free holds fails x y k n m₁ m₂ m₃ is_x is_y is₁ is₂ is_k is₃ =
      let rest : m₂ ≡ make_test g first b free holds fails n = second_made b free holds fails x y n m₁ m₂ is_x is_y is₁ is₂ in
      let more = length (make_test g first b free holds fails n).blocks in
      ap (λ h. make_test g first a free h y m₃) (is_k ∙ ap (λ (z : Made). length z.blocks) rest)
      ∙ ap (λ f. make_test g first a free more f m₃) is_y ∙ ap (make_test g first a free more fails) (is₃ ∙ ap close rest)

  pub or_made : (a b : p.Expr) (free holds fails x y k : ℕ) (n m₁ m₂ m₃ : Made) → x ≡ holds → y ≡ fails → m₁ ≡ n
      → m₂ ≡ make_test g first b free x y m₁ → k ≡ length m₂.blocks → m₃ ≡ close m₂
      → make_test g first a free x k m₃
      ≡ make_test g first a free holds (length (make_test g first b free holds fails n).blocks) (close (make_test g first b free holds fails n))
  or_made a b free holds fails x y k n m₁ m₂ m₃ is_x is_y is₁ is₂ is_k is₃ =
      let rest : m₂ ≡ make_test g first b free holds fails n = second_made b free holds fails x y n m₁ m₂ is_x is_y is₁ is₂ in
      let more = length (make_test g first b free holds fails n).blocks in
      ap (λ h. make_test g first a free h k m₃) is_x
      ∙ ap (λ f. make_test g first a free holds f m₃) (is_k ∙ ap (λ (z : Made). length z.blocks) rest)
      ∙ ap (make_test g first a free holds more) (is₃ ∙ ap close rest)

  -- a test that is a value, behind which a branch stands
  pub value_decides : (types : Table) (e : re.Expr) (free holds fails : ℕ) (m : Made)
      → ((a : Box re.Expr Global) → e ≡ re.Not a → ⊥)
      → ((a b : Box re.Expr Global) → e ≡ re.And a b → ⊥)
      → ((a b : Box re.Expr Global) → e ≡ re.Or a b → ⊥)
      → make g first (expr_of types e) free (free + 1) (start (Branch free holds fails) m)
      ≡ make_test g first (expr_of types e) free holds fails m
  value_decides types (re.Not' b x) free holds fails m other one more =
      absurd (other (record { ptr = b.ptr; alloc = b.alloc; value = x }) refl)
  value_decides types (re.And' b x c y) free holds fails m other one more =
      absurd (one (record { ptr = b.ptr; alloc = b.alloc; value = x }) (record { ptr = c.ptr; alloc = c.alloc; value = y }) refl)
  value_decides types (re.Or' b x c y) free holds fails m other one more =
      absurd (more (record { ptr = b.ptr; alloc = b.alloc; value = x }) (record { ptr = c.ptr; alloc = c.alloc; value = y }) refl)
  value_decides types e free holds fails m other one more = refl

  pub increment_made : (a : p.Place) (change : Change) (old : Bool) (to free beside : ℕ) (at : Place) (m m₁ : Made)
      → at ≡ place_at first a free → beside ≡ behind a free → m₁ ≡ put_increment change old to beside at m
      → make_place g first a free m₁ ≡ make g first (p.Increment a change old) to free m
  increment_made a change old to free beside at m m₁ is_at is_beside is₁ =
      ap (make_place g first a free)
      (is₁ ∙ ap (λ n. put_increment change old to n at m) is_beside ∙ ap (λ x. put_increment change old to (behind a free) x m) is_at)

  pub update_made : (a : p.Place) (e : p.Expr) (change : Change) (to free from beside : ℕ) (at : Place) (kind : Kind) (m m₁ m₂ m₃ : Made)
      → at ≡ place_at first a free → from ≡ behind a free → m₁ ≡ put_change change to to from at m → beside ≡ from + 1
      → m₂ ≡ make g first e from beside m₁ → kind ≡ changed_kind change → m₃ ≡ put_read to at kind m₂
      → make_place g first a free m₃ ≡ make g first (p.Update a change e) to free m
  update_made a e change to free from beside at kind m m₁ m₂ m₃ is_at is_from is₁ is_beside is₂ is_kind is₃ =
      let put : m₁ ≡ put_change change to to (behind a free) (place_at first a free) m =
      is₁ ∙ ap (λ n. put_change change to to n at m) is_from ∙ ap (λ x. put_change change to to (behind a free) x m) is_at in
      let next : beside ≡ behind a free + 1 = is_beside ∙ ap (λ n. n + 1) is_from in
      let value : m₂ ≡ make g first e (behind a free) (behind a free + 1) (put_change change to to (behind a free) (place_at first a free) m) =
      is₂ ∙ ap (λ n. make g first e n beside m₁) is_from ∙ ap (λ n. make g first e (behind a free) n m₁) next
      ∙ ap (make g first e (behind a free) (behind a free + 1)) put in
      ap (make_place g first a free)
      (is₃ ∙ ap (λ x. put_read to x kind m₂) is_at ∙ ap (λ k. put_read to (place_at first a free) k m₂) is_kind
      ∙ ap (put_read to (place_at first a free) (changed_kind change)) value)

  pub copy_made : (a : p.Place) (e : p.Expr) (count many : ℕ) (cells found counted : List Cell) (to free from beside : ℕ) (at : Place) (m m₁ m₂ : Made)
      → from ≡ behind a free → found ≡ cells → counted ≡ cells → many ≡ groups_in (in_groups g first a counted e) counted → at ≡ place_at first a free → m₁ ≡ put_copy to from at many found m
      → beside ≡ from + 1 → m₂ ≡ make g first e from beside m₁
      → make_place g first a free m₂ ≡ make g first (p.Assign (p.Struct count cells) a e) to free m
  copy_made a e count many cells found counted to free from beside at m m₁ m₂ is_from is_found is_counted is_many is_at is₁ is_beside is₂ =
      let put : m₁ ≡ put_copy to (behind a free) (place_at first a free) (groups_in (in_groups g first a cells e) cells) cells m =
      is₁ ∙ ap (λ n. put_copy to n at many found m) is_from ∙ ap (λ x. put_copy to (behind a free) x many found m) is_at
      ∙ ap (λ n. put_copy to (behind a free) (place_at first a free) n found m) (is_many ∙ ap (λ cs. groups_in (in_groups g first a cs e) cs) is_counted)
      ∙ ap (λ cs. put_copy to (behind a free) (place_at first a free) (groups_in (in_groups g first a cells e) cells) cs m) is_found in
      let next : beside ≡ behind a free + 1 = is_beside ∙ ap (λ n. n + 1) is_from in
      ap (make_place g first a free)
      (is₂ ∙ ap (λ n. make g first e n beside m₁) is_from ∙ ap (λ n. make g first e (behind a free) n m₁) next
      ∙ ap (make g first e (behind a free) (behind a free + 1)) put)

  -- the code of two operands, the first in the register free and the second behind it
  pub two_made : (a b : p.Expr) (free above further : ℕ) (m m₁ m₂ : Made) → above ≡ free + 1 → further ≡ above + 1
      → m₂ ≡ make g first b above further m₁ → m₁ ≡ m
      → make g first a free above m₂ ≡ make g first a free (free + 1) (make g first b (free + 1) (free + 1 + 1) m)
  two_made a b free above further m m₁ m₂ is_above is_further is₂ is₁ =
      let beyond : further ≡ free + 1 + 1 = is_further ∙ ap (λ n. n + 1) is_above in
      let second : m₂ ≡ make g first b (free + 1) (free + 1 + 1) m =
      is₂ ∙ ap (λ n. make g first b n further m₁) is_above ∙ ap (λ n. make g first b (free + 1) n m₁) beyond
      ∙ ap (make g first b (free + 1) (free + 1 + 1)) is₁ in
      ap (λ n. make g first a free n m₂) is_above ∙ ap (make g first a free (free + 1)) second

  -- an operator's line is the last of what an expression with two operands puts
  pub operator_made : (types : Table) (x : re.Expr) (l r : Box re.Expr Global) (to free : ℕ) (m : Made)
      → ((op : BinaryOp) × (kind : Kind) × (x ≡ re.Binary op kind l r))
      ⊎ (((size : ℕ) × (back : Bool) × (x ≡ re.Move size back l r))
      ⊎ (((size : ℕ) × (x ≡ re.MoveBy size l r))
      ⊎ (((size : ℕ) × (x ≡ re.Distance size l r))
      ⊎ ((op : Comparison) × (kind : Kind) × (x ≡ re.Compare op kind l r)))))
      → make g first (expr_of types l.value) free (free + 1) (make g first (expr_of types r.value) (free + 1) (free + 1 + 1) (put_operator (expr_of types x) to free m))
      ≡ make g first (expr_of types x) to free m
  operator_made types x l r to free m (inl h) =
      ap (λ y. make g first (expr_of types l.value) free (free + 1) (make g first (expr_of types r.value) (free + 1) (free + 1 + 1) (put_operator (expr_of types y) to free m))) h.2
      ∙ sym (ap (λ y. make g first (expr_of types y) to free m) h.2)
  operator_made types x l r to free m (inr (inl h)) =
      ap (λ y. make g first (expr_of types l.value) free (free + 1) (make g first (expr_of types r.value) (free + 1) (free + 1 + 1) (put_operator (expr_of types y) to free m))) h.2
      ∙ sym (ap (λ y. make g first (expr_of types y) to free m) h.2)
  operator_made types x l r to free m (inr (inr (inl h))) =
      ap (λ y. make g first (expr_of types l.value) free (free + 1) (make g first (expr_of types r.value) (free + 1) (free + 1 + 1) (put_operator (expr_of types y) to free m))) h.1
      ∙ sym (ap (λ y. make g first (expr_of types y) to free m) h.1)
  operator_made types x l r to free m (inr (inr (inr (inl h)))) =
      ap (λ y. make g first (expr_of types l.value) free (free + 1) (make g first (expr_of types r.value) (free + 1) (free + 1 + 1) (put_operator (expr_of types y) to free m))) h.1
      ∙ sym (ap (λ y. make g first (expr_of types y) to free m) h.1)
  operator_made types x l r to free m (inr (inr (inr (inr h)))) =
      ap (λ y. make g first (expr_of types l.value) free (free + 1) (make g first (expr_of types r.value) (free + 1) (free + 1 + 1) (put_operator (expr_of types y) to free m))) h.2
      ∙ sym (ap (λ y. make g first (expr_of types y) to free m) h.2)

  -- an object that has a name is reached by no pointer
  pub no_pointer : (types : Table) (x : rp.Place) (free : ℕ) (m : Made)
      → ((n : ℕ) × (x ≡ rp.Static n)) ⊎ ((n : ℕ) × (x ≡ rp.Local n))
      → make_place g first (place_of types x) free m ≡ m
  no_pointer types x free m (inl h) = ap (λ (y : rp.Place). make_place g first (place_of types y) free m) h.1
  no_pointer types x free m (inr h) = ap (λ (y : rp.Place). make_place g first (place_of types y) free m) h.1

  -- the code of what is reached by a pointer is that of the pointer
  pub reached_by : (types : Table) (found : Option (Bor re.Expr)) (free : ℕ) (m n whole part : Made)
      → whole ≡ part
      → MatchOption found (part ≡ n) (λ pointer. part ≡ make g first (expr_of types pointer.now) free (free + 1) m)
      → MatchOption found (whole ≡ n) (λ pointer. whole ≡ make g first (expr_of types pointer.now) free (free + 1) m)
  reached_by types None free m n whole part is h = is ∙ h
  reached_by types (Some e) free m n whole part is h = is ∙ h

  -- what is left of a conversion's code once its line is put
  pub converted_left : (types : Table) (x e : re.Expr) (kind : Kind) (operand : Box re.Expr Global) (to free : ℕ) (m m₁ : Made)
      → x ≡ re.Convert kind operand → e ≡ operand.value → m₁ ≡ put_operator (expr_of types x) to free m
      → make g first (expr_of types e) to free m₁ ≡ make g first (expr_of types x) to free m
  converted_left types x e kind operand to free m m₁ is is_e is₁ =
      ap (λ (y : re.Expr). make g first (expr_of types y) to free m₁) is_e
      ∙ ap (make g first (expr_of types operand.value) to free) (is₁ ∙ ap (λ (y : re.Expr). put_operator (expr_of types y) to free m) is)
      ∙ sym (ap (λ (y : re.Expr). make g first (expr_of types y) to free m) is)

  -- of a comma's once that behind it is put
  pub comma_left : (types : Table) (x e d : re.Expr) (left right : Box re.Expr Global) (to free : ℕ) (m m₁ : Made)
      → x ≡ re.Comma left right → e ≡ left.value → d ≡ right.value → m₁ ≡ make g first (expr_of types d) to free m
      → make g first (expr_of types e) to free m₁ ≡ make g first (expr_of types x) to free m
  comma_left types x e d left right to free m m₁ is is_e is_d is₁ =
      ap (λ (y : re.Expr). make g first (expr_of types y) to free m₁) is_e
      ∙ ap (make g first (expr_of types left.value) to free) (is₁ ∙ ap (λ (y : re.Expr). make g first (expr_of types y) to free m) is_d)
      ∙ sym (ap (λ (y : re.Expr). make g first (expr_of types y) to free m) is)

  -- of a read's and an address's once their lines are put
  pub read_left : (types : Table) (x : re.Expr) (access : Access) (place : Box rp.Place Global) (a b : rp.Place) (at : Place) (to free : ℕ) (m m₁ : Made)
      → x ≡ re.Read access place → a ≡ place.value → b ≡ place.value → at ≡ place_at first (place_of types a) free
      → m₁ ≡ put_load (access_of types access) to at m
      → make_place g first (place_of types b) free m₁ ≡ make g first (expr_of types x) to free m
  read_left types x access place a b at to free m m₁ is is_a is_b is_at is₁ =
      let there : at ≡ place_at first (place_of types place.value) free = is_at ∙ ap (λ (y : rp.Place). place_at first (place_of types y) free) is_a in
      ap (λ (y : rp.Place). make_place g first (place_of types y) free m₁) is_b
      ∙ ap (make_place g first (place_of types place.value) free) (is₁ ∙ ap (λ y. put_load (access_of types access) to y m) there)
      ∙ sym (ap (λ (y : re.Expr). make g first (expr_of types y) to free m) is)

  pub address_left : (types : Table) (x : re.Expr) (place : Box rp.Place Global) (a b : rp.Place) (at : Place) (to free : ℕ) (m m₁ : Made)
      → x ≡ re.Address place → a ≡ place.value → b ≡ place.value → at ≡ place_at first (place_of types a) free
      → m₁ ≡ put (Address to at) m
      → make_place g first (place_of types b) free m₁ ≡ make g first (expr_of types x) to free m
  address_left types x place a b at to free m m₁ is is_a is_b is_at is₁ =
      let there : at ≡ place_at first (place_of types place.value) free = is_at ∙ ap (λ (y : rp.Place). place_at first (place_of types y) free) is_a in
      ap (λ (y : rp.Place). make_place g first (place_of types y) free m₁) is_b
      ∙ ap (make_place g first (place_of types place.value) free) (is₁ ∙ ap (λ y. put (Address to y) m) there)
      ∙ sym (ap (λ (y : re.Expr). make g first (expr_of types y) to free m) is)

  -- where the code of a place is left, that of its pointer is
  pub pointer_left : (types : Table) (found : Option (Bor re.Expr)) (free : ℕ) (m reached whole : Made)
      → MatchOption found (reached ≡ m) (λ pointer. reached ≡ make g first (expr_of types pointer.now) free (free + 1) m)
      → reached ≡ whole
      → MatchOption found (m ≡ whole) (λ pointer. make g first (expr_of types pointer.now) free (free + 1) m ≡ whole)
  pointer_left types None free m reached whole h is = sym h ∙ is
  pointer_left types (Some e) free m reached whole h is = sym h ∙ is

  -- what is left of a moved pointer's code once its line and the other operand's code are put
  pub moved_left : (types : Table) (x : re.Expr) (l r : Box re.Expr Global) (to free above further : ℕ) (m m₁ m₂ : Made)
      → ((size : ℕ) × (back : Bool) × (x ≡ re.Move size back l r)) ⊎ ((size : ℕ) × (x ≡ re.MoveBy size l r))
      → m₁ ≡ put_operator (expr_of types x) to free m → above ≡ free + 1 → further ≡ above + 1
      → m₂ ≡ make g first (expr_of types r.value) above further m₁
      → make g first (expr_of types l.value) free above m₂ ≡ make g first (expr_of types x) to free m
  moved_left types x l r to free above further m m₁ m₂ (inl h) is₁ is_above is_further is₂ =
      two_made (expr_of types l.value) (expr_of types r.value) free above further (put_operator (expr_of types x) to free m) m₁ m₂ is_above is_further is₂ is₁
      ∙ operator_made types x l r to free m (inr (inl h))
  moved_left types x l r to free above further m m₁ m₂ (inr h) is₁ is_above is_further is₂ =
      two_made (expr_of types l.value) (expr_of types r.value) free above further (put_operator (expr_of types x) to free m) m₁ m₂ is_above is_further is₂ is₁
      ∙ operator_made types x l r to free m (inr (inr (inl h)))

  -- an assignment of a struct, by the struct's number
  pub struct_made : (types : Table) (x : re.Expr) (access : Access) (place : Box rp.Place Global) (value : Box re.Expr Global) (number count to free : ℕ) (m : Made)
      → x ≡ re.Assign access place value → access ≡ ra.Struct number count
      → make g first (p.Assign (p.Struct count (layout_at (layouts (structs_of types)) number).cells) (place_of types place.value) (expr_of types value.value)) to free m
      ≡ make g first (expr_of types x) to free m
  struct_made types x access place value number count to free m is is_struct =
      sym (ap (λ (y : Access). make g first (p.Assign (access_of types y) (place_of types place.value) (expr_of types value.value)) to free m) is_struct)
      ∙ sym (ap (λ (y : re.Expr). make g first (expr_of types y) to free m) is)

-- What agreement of stores gives, and numbers in 32 bits.
use Rattle.std.proofs.Common.{◌≡◌, ℕ, ◌+◌, ◌-◌, ◌%◌, ◌<◌, ◌==◌, ◌&&◌, Bool, true, false, refl, sym, ap, ◌∙◌, subst, arith}
use Rattle.std.specs.Prelude.{Option, Some, None, ℤ, pos, negsuc, ◌+ℤ◌, not, if◌then◌else◌}
use Rattle.std.specs.Ordering.{int_eq}
use Rattle.std.proofs.lemmas.Int.{ints}
use Rattle.std.proofs.lemmas.Bool.{eqb-true, eq-eqb}
use Rattle.std.proofs.Math.Nat.{mod-eq_of_lt}
use Rattle.std.proofs.lemmas.Bool.Decides.{Decides-int_eq}
use Rattle.im_num.specs.declared.kind.Kind.{Kind}
use Rattle.im_num.specs.declared.kind.Kind.TheVariants.{I8, U8, I16, U16, I32, U32, Ptr}
use Rattle.im_num.specs.Kinds.{IsOfKind, word}
use Rattle.im_store.specs.declared.undefined.Undefined.TheVariants.{OutsideObject, DeadPointerRead}
use Rattle.im_store.specs.Pointers.{reaches, within, moved_by, member_at}
use Rattle.im_typed.specs.Sound.{IsValue}
use Rattle.im_block.specs.Meaning as m
use Rattle.im_store.specs.Checks.{Checked, Fine, Bad, unless}
use Rattle.im_store.specs.Objects.{Object, Value, Number, Null, Pointer, Unset, Shape, Store, same_object, is_there, lives}
use Rattle.im_store.specs.Access.{has_cell, stands, taken, read_cell, write_cell, with_value}
use Rattle.im_lower_relation.specs.Agrees.{Same, Agrees}

module _ (store blocks : Store) (agrees : Agrees store blocks) where
  pub agree-lives : (o : Object) → lives store o ≡ true → lives blocks o ≡ true
  agree-lives o e = found (store.shape o) refl e
    where
      found : (r : Option Shape) → store.shape o ≡ r → is_there r ≡ true → lives blocks o ≡ true
      found None h e = absurd (cc)
      found (Some s) h e = ap is_there (agrees.shapes o s h)

  pub agree-stands : (o : Object) (offset : ℕ) (kind : Kind) → stands store o offset kind ≡ true → stands blocks o offset kind ≡ true
  agree-stands o offset kind e = found (store.shape o) refl e
    where
      found : (r : Option Shape) → store.shape o ≡ r → has_cell offset kind r ≡ true → stands blocks o offset kind ≡ true
      found None h e = absurd (cc)
      found (Some s) h e = ap (has_cell offset kind) (agrees.shapes o s h) ∙ e

  if-fine : {A : Type 0} (c : Bool) (r : Checked A) (a : A) (why : _) → (if c then r else Bad why) ≡ Fine a → (c ≡ true) × (r ≡ Fine a)
  if-fine true r a why e = (refl, e)
  if-fine false r a why e = absurd (cc)

  unless-part : (c : Bool) (a b : Value) (why : _) → unless c a why ≡ Fine b → (c ≡ true) × (a ≡ b)
  unless-part true a b why e = (refl, cc)
  unless-part false a b why e = absurd (cc)

  if-true : {A : Type 0} (c : Bool) (r other : A) → c ≡ true → (if c then r else other) ≡ r
  if-true true r other e = refl
  if-true false r other e = absurd (cc)

  -- a value that is taken is the one that stands, and block code takes it too
  agree-taken : (v w a : Value) → Same v w → taken store v ≡ Fine a → (w ≡ a) × (taken blocks w ≡ Fine a)
  agree-taken (Number z) w a s e = let same : Number z ≡ a = cc in (s ∙ same, ap (taken blocks) s ∙ ap Fine same)
  agree-taken Null w a s e = let same : Null ≡ a = cc in (s ∙ same, ap (taken blocks) s ∙ ap Fine same)
  agree-taken (Pointer o offset) w a s e =
      let c = if-fine (lives store o) (Fine (Pointer o offset)) a _ e in
      let same : Pointer o offset ≡ a = cc in
      (s ∙ same, ap (taken blocks) s ∙ if-true (lives blocks o) (Fine (Pointer o offset)) _ (agree-lives o c.0) ∙ ap Fine same)
  agree-taken Unset w a s e = absurd (cc)

  pub agree-read : (o : Object) (offset : ℕ) (kind : Kind) (v : Value) → read_cell store o offset kind ≡ Fine v → read_cell blocks o offset kind ≡ Fine v
  agree-read o offset kind v e =
      let c = if-fine (stands store o offset kind) (taken store (store.values o offset)) v _ e in
      let t = agree-taken (store.values o offset) (blocks.values o offset) v (agrees.values o offset) c.1 in
      if-true (stands blocks o offset kind) (taken blocks (blocks.values o offset)) _ (agree-stands o offset kind c.0) ∙ t.1

  -- pointers that reach their objects

  agree-within : (o : Object) (z : ℤ) (v : Value) → within store o z ≡ Fine v → within blocks o z ≡ Fine v
  agree-within o (pos offset) v e = found (store.shape o) refl (unless-part (reaches (store.shape o) offset) (Pointer o offset) v _ e)
    where
      found : (r : Option Shape) → store.shape o ≡ r → (reaches (store.shape o) offset ≡ true) × (Pointer o offset ≡ v) → within blocks o (pos offset) ≡ Fine v
      found None h k = let never : false ≡ true = ap (λ x. reaches x offset) (sym h) ∙ k.0 in absurd (cc)
      found (Some s) h k =
          if-true (reaches (blocks.shape o) offset) (Fine (Pointer o offset)) (Bad OutsideObject) (ap (λ x. reaches x offset) (agrees.shapes o s h ∙ sym h) ∙ k.0) ∙ ap Fine k.1
  agree-within o (negsuc n) v e = absurd (cc)

  pub agree-moved : (d : ℤ) (p v : Value) → moved_by store d p ≡ Fine v → moved_by blocks d p ≡ Fine v
  agree-moved d (Pointer o offset) v e = agree-within o (pos offset +ℤ d) v e
  agree-moved d (Number z) v e = absurd (cc)
  agree-moved d Null v e = absurd (cc)
  agree-moved d Unset v e = absurd (cc)

  pub agree-member : (d : ℕ) (p v : Value) → member_at store d p ≡ Fine v → member_at blocks d p ≡ Fine v
  agree-member d (Pointer o offset) v e = agree-within o (pos (offset + d)) v e
  agree-member d (Number z) v e = absurd (cc)
  agree-member d Null v e = absurd (cc)
  agree-member d Unset v e = absurd (cc)

  -- a value that is taken is a pointer in use
  pub agree-pointer : (begun : ℕ) (v : Value) → IsValue begun store Ptr v → taken store v ≡ Fine v → m.pointer_of blocks v ≡ Fine v
  agree-pointer begun (Number z) h e = absurd h.0
  agree-pointer begun Null h e = refl
  agree-pointer begun (Pointer o offset) h e =
      if-true (lives blocks o) (Fine (Pointer o offset)) _ (agree-lives o (if-fine (lives store o) (Fine (Pointer o offset)) (Pointer o offset) _ e).0)
  agree-pointer begun Unset h e = absurd h

  same-self : (v : Value) → Same v v
  same-self (Number z) = refl
  same-self Null = refl
  same-self (Pointer o offset) = refl
  same-self Unset = tt

  with-same : (c : Bool) (v x y : Value) → Same x y → Same (if c then v else x) (if c then v else y)
  with-same true v x y h = same-self v
  with-same false v x y h = h

  -- the same value is stored in both
  pub agree-stored : (o : Object) (offset : ℕ) (v : Value) → Agrees (record store { values = with_value store.values o offset v }) (record blocks { values = with_value blocks.values o offset v })
  agree-stored o offset v = record {
    inside = agrees.inside;
    shapes = agrees.shapes;
    values = λ q i. with-same (same_object q o && i == offset) v (store.values q i) (blocks.values q i) (agrees.values q i);
  }

-- whether a value may be used hangs on who lives alone
pub taken-kept : (store after : Store) (v : Value) → ((o : Object) → after.shape o ≡ store.shape o) → taken store v ≡ Fine v → taken after v ≡ Fine v
taken-kept store after (Number z) same e = refl
taken-kept store after Null same e = refl
taken-kept store after (Pointer o offset) same e = ap (λ r. unless (is_there r) (Pointer o offset) DeadPointerRead) (same o) ∙ e
taken-kept store after Unset same e = e

unless-fine : {A : Type 0} (c : Bool) (a b : A) (why : _) → unless c a why ≡ Fine b → (c ≡ true) × (a ≡ b)
unless-fine true a b why e = (refl, cc)
unless-fine false a b why e = absurd (cc)

unless-true : {A : Type 0} (c : Bool) (a : A) (why : _) → c ≡ true → unless c a why ≡ Fine a
unless-true true a why e = refl
unless-true false a why e = absurd (cc)

-- a value is stored in a cell of both
pub record Both (store blocks : Store) (o : Object) (offset : ℕ) (kind : Kind) (v : Value) (after : Store) : Type 0 where
  pub left : Store
  pub is : write_cell blocks o offset kind v ≡ Fine left
  pub agrees : Agrees after left

pub agree-write : (store blocks : Store) → Agrees store blocks → (o : Object) (offset : ℕ) (kind : Kind) (v : Value) (after : Store) → write_cell store o offset kind v ≡ Fine after → Both store blocks o offset kind v after
agree-write store blocks agrees o offset kind v after e =
    let c = unless-fine (stands store o offset kind) (record store { values = with_value store.values o offset v }) after _ e in
    record {
      left = record blocks { values = with_value blocks.values o offset v };
      is = unless-true (stands blocks o offset kind) _ _ (agree-stands store blocks agrees o offset kind c.0);
      agrees = subst (λ x. Agrees x (record blocks { values = with_value blocks.values o offset v })) c.1 (agree-stored store blocks agrees o offset v);
    }

-- a number of a kind is looked at in 32 bits

small : (kind : Kind) (n : ℕ) → IsOfKind kind (pos n) → n < 4294967296
small I8 n h = omega (arith, ints, h.high)
small U8 n h = omega (arith, ints, h.high)
small I16 n h = omega (arith, ints, h.high)
small U16 n h = omega (arith, ints, h.high)
small I32 n h = omega (arith, ints, h.high)
small U32 n h = omega (arith, ints, h.high)
small Ptr n h = omega (arith, ints, h.high)

low : (kind : Kind) (n : ℕ) → IsOfKind kind (negsuc n) → n < 2147483648
low I8 n h = omega (arith, ints, h.low)
low U8 n h = absurd (omega (arith, ints, h.low))
low I16 n h = omega (arith, ints, h.low)
low U16 n h = absurd (omega (arith, ints, h.low))
low I32 n h = omega (arith, ints, h.low)
low U32 n h = absurd (omega (arith, ints, h.low))
low Ptr n h = absurd (omega (arith, ints, h.low))

same-test : (b c : Bool) → (b ≡ true → c ≡ true) → (c ≡ true → b ≡ true) → b ≡ c
same-test true c h k = sym (h refl)
same-test false true h k = k refl
same-test false false h k = refl

zero-test : (kind : Kind) (z : ℤ) → IsOfKind kind z → (word z == 0) ≡ int_eq z (pos 0)
unfolding word
zero-test kind (pos n) h =
    let lt = small kind n h in
    let same : n % 4294967296 ≡ n = mod-eq_of_lt lt in
    same-test (n % 4294967296 == 0) (int_eq (pos n) (pos 0))
    (λ e. let z : n ≡ 0 = sym same ∙ eqb-true (n % 4294967296) 0 e in (Decides-int_eq (pos n) (pos 0)).1 (ap pos z))
    (λ e. let z : pos n ≡ pos 0 = (Decides-int_eq (pos n) (pos 0)).0 e in let m : n ≡ 0 = cc in eq-eqb (n % 4294967296) 0 (same ∙ m))
zero-test kind (negsuc n) h =
    let lt = low kind n h in
    let small : n < 4294967296 = omega arith in
    let same : n % 4294967296 ≡ n = mod-eq_of_lt small in
    same-test (4294967296 - 1 - n % 4294967296 == 0) (int_eq (negsuc n) (pos 0))
    (λ e. let z = eqb-true (4294967296 - 1 - n % 4294967296) 0 e in absurd (omega arith))
    (λ e. let z : negsuc n ≡ pos 0 = (Decides-int_eq (negsuc n) (pos 0)).0 e in absurd (cc))

pub test-same : (kind : Kind) (z : ℤ) → IsOfKind kind z → not (word z == 0) ≡ not (int_eq z (pos 0))
test-same kind z h = ap not (zero-test kind z h)

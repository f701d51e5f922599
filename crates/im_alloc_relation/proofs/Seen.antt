-- A value that takes the place of another, and a store that block code sees in placed code.
use Rattle.std.proofs.Common.{◌≡◌, ℕ, zero, suc, ◌+◌, ◌⊎◌, inl, inr, Bool, true, false, cond, Option, None, ℤ, pos, negsuc, sym, ap, ◌∙◌, refl}
use Rattle.im_num.specs.declared.kind.Kind.{Kind}
use Rattle.im_num.specs.declared.kind.Kind.TheVariants.{Ptr}
use Rattle.im_store.specs.declared.undefined.Undefined.{Undefined}
use Rattle.im_store.specs.Checks.{Checked, Fine, Bad, then_, unless}
use Rattle.im_store.specs.declared.operators.BinaryOp.{BinaryOp}
use Rattle.im_store.specs.declared.operators.UnaryOp.{UnaryOp}
use Rattle.im_store.specs.declared.operators.Comparison.{Comparison}
use Rattle.im_store.specs.Objects.{Name, Named, Slot, Link, Object, Value, Number, Null, Pointer, Unset, Shape, Store, same_kind, is_there, lives}
use Rattle.im_store.specs.Pointers.{reaches, within, bytes_moved, moved_by, member_at, compare_places}
use Rattle.im_store.specs.Numbers.{compares}
use Rattle.im_block.specs.Meaning.{number_of, pointer_of, as_number, as_truth, condition, negation, converted, computed_one, computed, compared, moved, distance_of, further}

-- w stands for v: nothing is asked where v is unset
abbrev pub Refines : Value → Value → Type 0
Refines v w = (v ≡ Unset) ⊎ (v ≡ w)

pub refines_at : (v v' w w' : Value) → v' ≡ v → w' ≡ w → Refines v w → Refines v' w'
refines_at v v' w w' a b (inl e) = inl (a ∙ e)
refines_at v v' w w' a b (inr e) = inr (a ∙ e ∙ sym b)

pub fine_is : {A : Type 0} (a b : A) → Fine a ≡ Fine b → a ≡ b
fine_is a b e = cc

pub bad_fine : {A : Type 0} (why : Undefined) (a : A) → Bad why ≡ Fine a → ⊥
bad_fine why a e = cc

-- the names of slots
abbrev pub is_slot : Name → Bool
is_slot (Named n) = false
is_slot (Slot n) = true
is_slot Link = false

-- each object that block code sees is the same in placed code
abbrev pub Seen : (Object → Option Shape) → (Object → Option Shape) → Type 0
Seen shape sh = (o : Object) → (shape o ≡ None) ⊎ (sh o ≡ shape o)

-- a test of a shape that no object that isn't there passes
pub test_seen : (shape sh : Object → Option Shape) (test : Option Shape → Bool) (o : Object) → test None ≡ false → Seen shape sh → test (shape o) ≡ true → test (sh o) ≡ true
test_seen shape sh test o none s h = elim (s o) [
  | inl e ↦ absurd (let k : test None ≡ true = ap test (sym e) ∙ h in cc (k, none))
  | inr e ↦ ap test e ∙ h
]

pub unless_seen : {A : Type 0} (b c : Bool) (a v : A) (why : Undefined) → (b ≡ true → c ≡ true) → unless b a why ≡ Fine v → unless c a why ≡ Fine v
unless_seen true c a v why f h = ap (λ z. unless z a why) (f refl) ∙ h
unless_seen false c a v why f h = absurd (bad_fine why v h)

pub lives_seen : (store st : Store) (o : Object) → Seen store.shape st.shape → lives store o ≡ true → lives st o ≡ true
lives_seen store st o s h = test_seen store.shape st.shape (λ z. is_there z) o refl s h

pub then_seen : {A B : Type 0} (x y : Checked A) (f g : A → Checked B) (b : B) → ((a : A) → x ≡ Fine a → y ≡ Fine a) → ((a : A) → f a ≡ Fine b → g a ≡ Fine b) → then_ x f ≡ Fine b → then_ y g ≡ Fine b
then_seen (Fine a) y f g b h k e = ap (λ z. then_ z g) (h a refl) ∙ k a e
then_seen (Bad why) y f g b h k e = absurd (bad_fine why b e)

-- checks of one value give the same

pub condition_seen : (store st : Store) (v : Value) (b : Bool) → Seen store.shape st.shape → condition store v ≡ Fine b → condition st v ≡ Fine b
condition_seen store st (Number z) b s h = h
condition_seen store st Null b s h = h
condition_seen store st (Pointer o i) b s h = unless_seen (lives store o) (lives st o) true b _ (λ t. lives_seen store st o s t) h
condition_seen store st Unset b s h = absurd (bad_fine _ b h)

pub pointer_seen : (store st : Store) (v a : Value) → Seen store.shape st.shape → pointer_of store v ≡ Fine a → pointer_of st v ≡ Fine a
pointer_seen store st (Number z) a s h = absurd (bad_fine _ a h)
pointer_seen store st Null a s h = h
pointer_seen store st (Pointer o i) a s h = unless_seen (lives store o) (lives st o) (Pointer o i) a _ (λ t. lives_seen store st o s t) h
pointer_seen store st Unset a s h = absurd (bad_fine _ a h)

pub within_seen : (store st : Store) (o : Object) (z : ℤ) (v : Value) → Seen store.shape st.shape → within store o z ≡ Fine v → within st o z ≡ Fine v
within_seen store st o (negsuc n) v s h = absurd (bad_fine _ v h)
within_seen store st o (pos i) v s h = unless_seen (reaches (store.shape o) i) (reaches (st.shape o) i) (Pointer o i) v _ (λ t. test_seen store.shape st.shape (λ q. reaches q i) o refl s t) h

pub further_seen : (store st : Store) (offset : ℕ) (a v : Value) → Seen store.shape st.shape → further store offset a ≡ Fine v → further st offset a ≡ Fine v
further_seen store st zero a v s h = h
further_seen store st (suc d) (Number z) v s h = absurd (bad_fine _ v h)
further_seen store st (suc d) Null v s h = absurd (bad_fine _ v h)
further_seen store st (suc d) (Pointer o i) v s h = within_seen store st o (pos (i + suc d)) v s h
further_seen store st (suc d) Unset v s h = absurd (bad_fine _ v h)

moved_by_seen : (store st : Store) (d : ℤ) (a v : Value) → Seen store.shape st.shape → moved_by store d a ≡ Fine v → moved_by st d a ≡ Fine v
moved_by_seen store st d (Number z) v s h = absurd (bad_fine _ v h)
moved_by_seen store st d Null v s h = absurd (bad_fine _ v h)
moved_by_seen store st d (Pointer o i) v s h = within_seen store st o _ v s h
moved_by_seen store st d Unset v s h = absurd (bad_fine _ v h)

-- what uses a value gives nothing of one that is unset

pub number_refines : (v w : Value) (z : ℤ) → Refines v w → number_of v ≡ Fine z → number_of w ≡ Fine z
number_refines v w z (inl e) h = absurd (bad_fine _ z (ap number_of (sym e) ∙ h))
number_refines v w z (inr e) h = ap number_of (sym e) ∙ h

pub pointer_refines : (store st : Store) (v w a : Value) → Seen store.shape st.shape → Refines v w → pointer_of store v ≡ Fine a → pointer_of st w ≡ Fine a
pointer_refines store st v w a s (inl e) h = absurd (bad_fine _ a (ap (pointer_of store) (sym e) ∙ h))
pointer_refines store st v w a s (inr e) h = pointer_seen store st w a s (ap (pointer_of store) (sym e) ∙ h)

pub condition_refines : (store st : Store) (v w : Value) (b : Bool) → Seen store.shape st.shape → Refines v w → condition store v ≡ Fine b → condition st w ≡ Fine b
condition_refines store st v w b s (inl e) h = absurd (bad_fine _ b (ap (condition store) (sym e) ∙ h))
condition_refines store st v w b s (inr e) h = condition_seen store st w b s (ap (condition store) (sym e) ∙ h)

pub further_refines : (store st : Store) (offset : ℕ) (a c v : Value) → Seen store.shape st.shape → Refines a c → further store offset a ≡ Fine v → (w : Value) × (further st offset c ≡ Fine w) × Refines v w
further_refines store st zero a c v s r h = (c, refl, refines_at a v c c (sym (fine_is a v h)) refl r)
further_refines store st (suc d) a c v s (inl e) h = absurd (bad_fine _ v (ap (λ z. member_at store (suc d) z) (sym e) ∙ h))
further_refines store st (suc d) a c v s (inr e) h = (v, further_seen store st (suc d) c v s (ap (λ z. member_at store (suc d) z) (sym e) ∙ h), inr refl)

converted_refines : (kind : Kind) (v w : Value) (z : ℤ) → Refines v w → converted kind v ≡ Fine z → converted kind w ≡ Fine z
converted_refines kind v w z r h = then_seen (number_of v) (number_of w) _ _ z (λ a e. number_refines v w a r e) (λ a e. e) h

-- lines that compute

pub convert_refines : (kind : Kind) (v w b : Value) → Refines v w → as_number (converted kind v) ≡ Fine b → as_number (converted kind w) ≡ Fine b
convert_refines kind v w b r h = then_seen (converted kind v) (converted kind w) _ _ b (λ a e. converted_refines kind v w a r e) (λ a e. e) h

pub unary_refines : (op : UnaryOp) (kind : Kind) (v w b : Value) → Refines v w → as_number (computed_one op kind v) ≡ Fine b → as_number (computed_one op kind w) ≡ Fine b
unary_refines op kind v w b r h = then_seen (computed_one op kind v) (computed_one op kind w) _ _ b (λ a e. then_seen (converted kind v) (converted kind w) _ _ a (λ q f. converted_refines kind v w q r f) (λ q f. f) e) (λ a e. e) h

pub not_refines : (store st : Store) (v w b : Value) → Seen store.shape st.shape → Refines v w → as_truth (negation store v) ≡ Fine b → as_truth (negation st w) ≡ Fine b
not_refines store st v w b s r h = then_seen (negation store v) (negation st w) _ _ b (λ a e. then_seen (condition store v) (condition st w) _ _ a (λ q f. condition_refines store st v w q s r f) (λ q f. f) e) (λ a e. e) h

pub compute_refines : (op : BinaryOp) (kind : Kind) (v w x y b : Value) → Refines v w → Refines x y → as_number (computed op kind v x) ≡ Fine b → as_number (computed op kind w y) ≡ Fine b
compute_refines op kind v w x y b r s h =
    then_seen (computed op kind v x) (computed op kind w y) _ _ b (λ z e.
    then_seen (converted kind v) (converted kind w) _ _ z (λ a f. converted_refines kind v w a r f) (λ a f.
    then_seen (number_of x) (number_of y) _ _ z (λ c g. number_refines x y c s g) (λ c g. g) f) e) (λ a e. e) h

compared_seen : (store st : Store) (op : Comparison) (kind : Kind) (v w x y : Value) (t : Bool) → Seen store.shape st.shape → Refines v w → Refines x y → compared store op kind v x ≡ Fine t → compared st op kind w y ≡ Fine t
compared_seen store st op kind v w x y t s r q h = by (same_kind kind Ptr) h
  where
    by : (k : Bool) → cond k (then_ (pointer_of store v) (λ a. then_ (pointer_of store x) (λ c. compare_places op a c))) (then_ (converted kind v) (λ a. then_ (converted kind x) (λ c. Fine (compares op a c)))) ≡ Fine t → cond k (then_ (pointer_of st w) (λ a. then_ (pointer_of st y) (λ c. compare_places op a c))) (then_ (converted kind w) (λ a. then_ (converted kind y) (λ c. Fine (compares op a c)))) ≡ Fine t
    by true e = then_seen (pointer_of store v) (pointer_of st w) _ _ t (λ a f. pointer_refines store st v w a s r f) (λ a f. then_seen (pointer_of store x) (pointer_of st y) _ _ t (λ c g. pointer_refines store st x y c s q g) (λ c g. g) f) e
    by false e = then_seen (converted kind v) (converted kind w) _ _ t (λ a f. converted_refines kind v w a r f) (λ a f. then_seen (converted kind x) (converted kind y) _ _ t (λ c g. converted_refines kind x y c q g) (λ c g. g) f) e

pub compare_refines : (store st : Store) (op : Comparison) (kind : Kind) (v w x y b : Value) → Seen store.shape st.shape → Refines v w → Refines x y → as_truth (compared store op kind v x) ≡ Fine b → as_truth (compared st op kind w y) ≡ Fine b
compare_refines store st op kind v w x y b s r q h = then_seen (compared store op kind v x) (compared st op kind w y) _ _ b (λ t e. compared_seen store st op kind v w x y t s r q e) (λ t e. e) h

moved_by_refines : (store st : Store) (d : ℤ) (a c v : Value) → Seen store.shape st.shape → Refines a c → moved_by store d a ≡ Fine v → moved_by st d c ≡ Fine v
moved_by_refines store st d a c v s (inl e) h = absurd (bad_fine _ v (ap (moved_by store d) (sym e) ∙ h))
moved_by_refines store st d a c v s (inr e) h = moved_by_seen store st d c v s (ap (moved_by store d) (sym e) ∙ h)

pub move_refines : (store st : Store) (size : ℕ) (back : Bool) (v w x y b : Value) → Seen store.shape st.shape → Refines v w → Refines x y → moved store size back v x ≡ Fine b → moved st size back w y ≡ Fine b
move_refines store st size back v w x y b s r q h = then_seen (number_of x) (number_of y) _ _ b (λ z e. number_refines x y z q e) (λ z e. moved_by_refines store st (bytes_moved size back z) v w b s r e) h

pub distance_refines : (store st : Store) (size : ℕ) (v w x y b : Value) → Seen store.shape st.shape → Refines v w → Refines x y → as_number (distance_of store size v x) ≡ Fine b → as_number (distance_of st size w y) ≡ Fine b
distance_refines store st size v w x y b s r q h =
    then_seen (distance_of store size v x) (distance_of st size w y) _ _ b (λ z e.
    then_seen (pointer_of store v) (pointer_of st w) _ _ z (λ a f. pointer_refines store st v w a s r f) (λ a f.
    then_seen (pointer_of store x) (pointer_of st y) _ _ z (λ c g. pointer_refines store st x y c s q g) (λ c g. g) f) e) (λ a e. e) h

-- What packing is given, and that it makes an image.
use Rattle.std.proofs.Common.{◌≡◌, ◌<◌, ◌≤◌, ℕ, zero, suc, ◌+◌, ◌*◌, ◌/◌, ◌%◌, ◌^◌, List, [], ◌∷◌, Option, Some, None, length, refl, sym, ap, ◌∙◌, subst, arith}
use Rattle.std.specs.Prelude.{All, map, option_map, slice_get, slice_index}
use Rattle.std.proofs.lemmas.Bool.{le-leb, eq-eqb, and_from}
use Rattle.std.proofs.lemmas.List.Elements.{All-get_or}
use Rattle.std.proofs.lemmas.Option.{get_or_from_slice_get, slice_get_within, slice_get-map}
use Rattle.im_num.specs.declared.kind.Kind.{Kind}
use Rattle.im_ctype.specs.declared.cell.Cell.{Cell}
use Rattle.im_rv.specs.declared.code.Code.{Code as Linked}
use Rattle.im_image.specs.declared.version.Version.TheVariants.{Two}
use Rattle.im_image.specs.declared.form.Form.TheVariants.{TwoLengths}
use Rattle.im_image.specs.Contents.{ObjectValue, AreObjects, IsImage}
use Rattle.im_block.specs.declared.unit.Constant.{Constant}
use Rattle.im_block.specs.declared.unit.Constant.TheVariants.{Number, Null, Inside}
use Rattle.im_block.specs.declared.unit.Static.{Static as StaticOf}
use Rattle.im_block.specs.declared.unit.Unit.{Unit as Code}
use Rattle.im_block.specs.Wellformed.{IsWellFormed, IsStatic, HasBytes, Suits}
use Rattle.im_frame.specs.Layout.{rooms, places_from}
use Rattle.im_frame.proofs.Places.{lies, count_from}
use Rattle.im_select_addresses.specs.Statics.{objects_of}
use Rattle.im_block.specs.Meaning.{static_of}
use Rattle.im_pack.specs.Packed.{AreOfUnit, IsLoadable, AreNamable}
use Rattle.im_pack.specs.Bytes.{IsWord, HasWords, AreReady, statics_bytes}
use Rattle.im_pack.specs.Objects.{objects_at, AreNamed}
use Rattle.im_pack.proofs.Statics.{object_is, AllHave, whole}
use Rattle.im_pack.proofs.Naming.{count_objects, many_rooms, even_rooms, rules}

all_at : {X : Type 0} (P : X → Type 0) (xs : List X) (i : ℕ) (x : X) → All P xs → slice_get xs i ≡ Some x → P x
all_at P xs i x a e = subst P (get_or_from_slice_get xs i x x e) (All-get_or P xs i x (slice_get_within xs i x e) a)

pub is_static : (u : Code) → IsWellFormed u → (n : ℕ) (s : StaticOf) → slice_get u.statics.items n ≡ Some s → IsStatic u.statics.items s
is_static u w n s e = all_at (IsStatic u.statics.items) u.statics.items n s w.statics e

pub have : (u : Code) → IsWellFormed u → AllHave u.statics.items
have u w n s e = let i = is_static u w n s e in record { cells = i.cells; count = i.count }

pub statics_named : (statics : List StaticOf) → AreNamable (map {A = StaticOf} static_of statics) → AreNamed statics
statics_named statics h = record { each = λ n s e. h.each n (static_of s) (slice_get-map {A = StaticOf} static_of statics n ∙ ap (option_map static_of) e) }

pub count_of : (statics : List StaticOf) → length (objects_of statics) ≡ length statics
count_of [] = refl
count_of (s ∷ statics) = ap suc (count_of statics)

-- a place that a pointer may lead to
module _ (statics : List StaticOf) (few : rooms (objects_of statics) ≤ 1048576) where
  target : (object offset : ℕ) (o : Option StaticOf) → slice_get statics object ≡ o → HasBytes o offset
      → (object < length statics) × (slice_index (places_from 1048576 (objects_of statics)) object + offset < 2 ^ 32)
  target object offset None e h = absurd h
  target object offset (Some s) e h =
      let l = (lies 1048576 (objects_of statics) object s.object (object_is statics object s e)).high in
      (slice_get_within statics object s e, omega arith)

  word_is : (addresses : List ℕ) → addresses ≡ places_from 1048576 (objects_of statics) → (k : Kind) (v : Constant) → Suits statics k v → IsWord addresses v
  word_is addresses at k (Number z) h = tt
  word_is addresses at k Null h = tt
  word_is addresses at k (Inside object offset) h =
      let t = target object offset (slice_get statics object) refl h.1 in
      let inside = t.0 in
      let count = count_from 1048576 (objects_of statics) in
      let same = count_of statics in
      let l : length addresses ≡ length (places_from 1048576 (objects_of statics)) = ap length at in
      (omega arith, subst (λ (a : List ℕ). slice_index a object + offset < 2 ^ 32) (sym at) t.1)

  pub ready : (addresses : List ℕ) → addresses ≡ places_from 1048576 (objects_of statics) → ((n : ℕ) (s : StaticOf) → slice_get statics n ≡ Some s → IsStatic statics s) → AreReady statics addresses
  ready addresses at each = record {
    count = ap length at ∙ count_from 1048576 (objects_of statics) ∙ count_of statics;
    each = λ n s e. has s (each n s e);
    few = few;
  }
    where
      has : (s : StaticOf) → IsStatic statics s → HasWords addresses s
      has s i = record { cells = i.cells; count = i.count; words = words }
        where
          words : (j : ℕ) (v : Constant) → slice_get s.values.items j ≡ Some v → IsWord addresses v
          words j v e = by (slice_get s.object.cells.items j) refl
            where
              by : (o : Option Cell) → slice_get s.object.cells.items j ≡ o → IsWord addresses v
              by (Some c) g = word_is addresses at c.kind v (i.values j c v g e)
              by None g =
                  let l = slice_get_within s.values.items j v e in
                  let n = i.count in
                  absurd (missing s.object.cells.items j (omega arith) g)
                where
                  missing : (cs : List Cell) (k : ℕ) → k < length cs → slice_get cs k ≡ None → ⊥
                  missing [] k b q = omega arith
                  missing (c ∷ cs) zero b q = absurd cc
                  missing (c ∷ cs) (suc k) b q = missing cs k (omega arith) q

pub is_image : (statics : List StaticOf) (addresses : List ℕ) (code : Linked) (bytes words : List ℕ) (objects : List ObjectValue) (stack out_cap : ℕ) →
    AllHave statics → rooms (objects_of statics) ≤ 1048576 → addresses ≡ places_from 1048576 (objects_of statics) → IsLoadable code → 256 ≤ stack → stack ≤ 1048576 → out_cap ≤ 1048576 →
    AreNamed statics → bytes ≡ statics_bytes addresses statics → objects ≡ objects_at statics addresses → words ≡ code.words.items → ((k : ℕ) → slice_index words k < 2 ^ 32) → ((k : ℕ) → slice_index bytes k < 256) →
    IsImage (record { version = Two; form = TwoLengths; words = words; statics = bytes; stack = stack; out_cap = out_cap; entry = code.entry; objects = objects })
is_image statics addresses code bytes words objects stack out_cap w few at loads some_stack most_stack output named bytes_are objects_are words_are wide small =
    let size : length bytes ≡ rooms (objects_of statics) = ap length bytes_are ∙ whole addresses statics w in
    let count : length objects ≡ length statics = ap length objects_are ∙ count_objects statics addresses (ap length at ∙ count_from 1048576 (objects_of statics) ∙ count_of statics) in
    let many = many_rooms (objects_of statics) in
    let even = even_rooms (objects_of statics) in
    let same = count_of statics in
    let length_is : length words ≡ length code.words.items = ap length words_are in
    let most = loads.few in
    let inside = loads.inside in
    let entry = loads.entry in
    record {
      form = refl;
      word_count = and_from _ _ (le-leb _ _ (let z : 1 ≤ length words = omega arith in z)) (le-leb _ _ (let z : length words ≤ 1044480 / 4 = omega arith in z));
      words = wide;
      statics_size = and_from _ _ (le-leb _ _ (let z : length bytes ≤ 1048576 = omega arith in z)) (eq-eqb _ _ (let z : length bytes % 4 ≡ 0 = omega arith in z));
      statics = small;
      stack = and_from _ _ (le-leb _ _ some_stack) (le-leb _ _ most_stack);
      out_cap = le-leb _ _ output;
      entry = and_from _ _ (and_from _ _ (eq-eqb _ _ (let z : code.entry % 4 ≡ 0 = omega arith in z)) (le-leb _ _ (let z : 4096 ≤ code.entry = omega arith in z))) (le-leb _ _ (let z : code.entry + 1 ≤ 4096 + 4 * length words = omega arith in z));
      object_count = le-leb _ _ (let z : length objects ≤ length bytes = omega arith in z);
      objects = subst (λ (os : List ObjectValue). AreObjects (length bytes) 1048576 os) (sym objects_are) (subst (λ (a : List ℕ). AreObjects (length bytes) 1048576 (objects_at statics a)) (sym at) (rules (length bytes) 1048576 1048576 statics (omega arith) refl (omega arith) w named));
    }

pub ready_statics : (statics : List StaticOf) (addresses : List ℕ) → AreOfUnit statics → rooms (objects_of statics) ≤ 1048576 → addresses ≡ places_from 1048576 (objects_of statics) → AreReady statics addresses
ready_statics statics addresses (u, e, w) few at = ready statics few addresses at (subst (λ (z : List StaticOf). (n : ℕ) (s : StaticOf) → slice_get z n ≡ Some s → IsStatic z s) e (is_static u w))

pub statics_have : (statics : List StaticOf) → AreOfUnit statics → AllHave statics
statics_have statics (u, e, w) = subst AllHave e (have u w)

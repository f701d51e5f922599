-- Steps of the loops.
use Rattle.std.proofs.Common.{◌≡◌, ◌<◌, ℕ, suc, ◌+◌, ◌-◌, ◌/◌, ◌%◌, true, false, List, [], ◌∷◌, ◌++◌, Some, length, drop, refl, sym, ap, ◌∙◌, subst, arith, add-one, append_assoc, length-append}
use Rattle.std.specs.Prelude.{slice_get, replicate, if◌then◌else◌}
use Rattle.std.proofs.Math.Seq.{drop-cons}
use Rattle.std.proofs.lemmas.Option.{slice_get_within, get_or_from_slice_get}
use Rattle.im_num.specs.Bytes.{bytes_of}
use Rattle.im_num.specs.Kinds.{kind_size}
use Rattle.im_mem.proofs.Words.{length-bytes_of}
use Rattle.im_image.specs.declared.object.CellRun.{CellRun}
use Rattle.im_image.specs.Contents.{ObjectValue}
use Rattle.im_ctype.specs.declared.cell.Cell.{Cell}
use Rattle.im_block.specs.declared.unit.Constant.{Constant}
use Rattle.im_block.specs.declared.unit.Static.{Static as StaticOf}
use Rattle.im_frame.specs.Layout.{room}
use Rattle.im_pack.specs.Packed.{word_of}
use Rattle.im_pack.specs.Bytes.{cells_bytes, HasWords, AreFirstCells}
use Rattle.im_pack.specs.Objects.{one_cell, goes_on, longer, added, object_of, objects_at}
use Rattle.im_pack.proofs.Views.{length_zeros}

-- ---- lists from a place on

pub drop_next : {X : Type 0} (xs : List X) (i : ℕ) (x : X) → slice_get xs i ≡ Some x → drop i xs ≡ x ∷ drop (i + 1) xs
drop_next xs i x e =
    drop-cons xs i x (slice_get_within xs i x e) ∙ ap (λ z. z ∷ drop (suc i) xs) (get_or_from_slice_get xs i x x e) ∙ ap (λ k. x ∷ drop k xs) (sym (add-one i))

-- ---- bytes of a word

pub word_step : (bytes : List ℕ) (n k r : ℕ) → k < n → (bytes ++ r % 256 ∷ []) ++ bytes_of (n - (k + 1)) (r / 256) ≡ bytes ++ bytes_of (n - k) r
word_step bytes n k r h =
    let e : suc (n - (k + 1)) ≡ n - k = omega arith in
    append_assoc bytes (r % 256 ∷ []) (bytes_of (n - (k + 1)) (r / 256)) ∙ ap (λ z. bytes ++ bytes_of z r) e

-- ---- cells of a static

module _ (addresses old : List ℕ) (s : StaticOf) where
  pub first_cell : AreFirstCells addresses old s 0 old
  first_cell = record { from = 0; so_far = omega arith; before = λ c e. omega arith; within = omega arith; whole = refl }

  module _ (h : HasWords addresses s) where
    pub next_cell : (i : ℕ) (bytes new : List ℕ) (c : Cell) (v : Constant) → AreFirstCells addresses old s i bytes → slice_get s.object.cells.items i ≡ Some c → slice_get s.values.items i ≡ Some v
        → new ≡ (bytes ++ replicate (length old + c.offset - length bytes) 0) ++ bytes_of (kind_size c.kind) (word_of addresses v) → AreFirstCells addresses old s (i + 1) new
    next_cell i bytes new c v a e g is =
        let pad : List ℕ = replicate (length old + c.offset - length bytes) 0 in
        let own : List ℕ = bytes_of (kind_size c.kind) (word_of addresses v) in
        let far = a.before c e in
        let so_far = a.so_far in
        let inside = h.cells.inside i c e in
        let rest : List ℕ = cells_bytes addresses (c.offset + kind_size c.kind) (room s.object.size) (drop (i + 1) s.object.cells.items) (drop (i + 1) s.values.items) in
        let gap : c.offset - a.from ≡ length old + c.offset - length bytes = omega arith in
        let cells : cells_bytes addresses a.from (room s.object.size) (drop i s.object.cells.items) (drop i s.values.items) ≡ pad ++ (own ++ rest) =
        ap (λ z. cells_bytes addresses a.from (room s.object.size) z (drop i s.values.items)) (drop_next s.object.cells.items i c e)
        ∙ ap (λ z. cells_bytes addresses a.from (room s.object.size) (c ∷ drop (i + 1) s.object.cells.items) z) (drop_next s.values.items i v g)
        ∙ ap (λ z. replicate z 0 ++ (own ++ rest)) gap in
        let joined : bytes ++ (pad ++ (own ++ rest)) ≡ new ++ rest = sym (ap (λ z. z ++ rest) is ∙ append_assoc (bytes ++ pad) own rest ∙ append_assoc bytes pad (own ++ rest)) in
        let size : length new ≡ length old + (c.offset + kind_size c.kind) =
        (let l = ap length is in let p = length-append (bytes ++ pad) own in let q = length-append bytes pad in let z = length_zeros (length old + c.offset - length bytes) in let w = length-bytes_of (kind_size c.kind) (word_of addresses v) in omega arith) in
        record {
          from = c.offset + kind_size c.kind;
          so_far = size;
          before = λ d f. h.cells.apart i (i + 1) c d e f (omega arith);
          within = inside;
          whole = a.whole ∙ ap (λ z. bytes ++ z) cells ∙ joined;
        }

-- ---- runs

added_last : (front : List CellRun) (last : CellRun) (c : Cell) → added (front ++ last ∷ []) c ≡ front ++ (if goes_on last c then longer last ∷ [] else last ∷ one_cell c ∷ [])
added_last [] last c = refl
added_last (run ∷ []) last c = refl
added_last (run ∷ next ∷ front) last c = ap (λ z. run ∷ z) (added_last (next ∷ front) last c)

pub grown : (old front new : List CellRun) (last : CellRun) (c : Cell) → old ≡ front ++ last ∷ [] → goes_on last c ≡ true → new ≡ front ++ longer last ∷ [] → new ≡ added old c
grown old front new last c e t is =
    is ∙ ap (λ b. front ++ (if b then longer last ∷ [] else last ∷ one_cell c ∷ [])) (sym t) ∙ sym (ap (λ z. added z c) e ∙ added_last front last c)

pub one_more_run : (old front mid new : List CellRun) (last : CellRun) (c : Cell) → old ≡ front ++ last ∷ [] → goes_on last c ≡ false → mid ≡ front ++ last ∷ [] → new ≡ mid ++ one_cell c ∷ [] → new ≡ added old c
one_more_run old front mid new last c e t m is =
    is ∙ ap (λ z. z ++ one_cell c ∷ []) m ∙ append_assoc front (last ∷ []) (one_cell c ∷ [])
    ∙ ap (λ b. front ++ (if b then longer last ∷ [] else last ∷ one_cell c ∷ [])) (sym t) ∙ sym (ap (λ z. added z c) e ∙ added_last front last c)

-- ---- objects

pub next_object : (objects new : List ObjectValue) (statics : List StaticOf) (addresses : List ℕ) (i a : ℕ) (s : StaticOf) → slice_get statics i ≡ Some s → slice_get addresses i ≡ Some a → new ≡ objects ++ object_of a s ∷ []
    → new ++ objects_at (drop (i + 1) statics) (drop (i + 1) addresses) ≡ objects ++ objects_at (drop i statics) (drop i addresses)
next_object objects new statics addresses i a s e g is =
    ap (λ z. z ++ objects_at (drop (i + 1) statics) (drop (i + 1) addresses)) is
    ∙ append_assoc objects (object_of a s ∷ []) (objects_at (drop (i + 1) statics) (drop (i + 1) addresses))
    ∙ ap (λ z. objects ++ objects_at (s ∷ drop (i + 1) statics) z) (sym (drop_next addresses i a g))
    ∙ ap (λ z. objects ++ objects_at z (drop i addresses)) (sym (drop_next statics i s e))

-- The word at a place of a slice.
use Rattle.std.proofs.Common.{◌≡◌, ℕ, suc, ◌+◌, ◌<◌, List, ◌∷◌, map, length, drop, get_or, sym, ap, ◌∙◌, add-one, arith}
use Rattle.std.specs.List.{drop-map}
use Rattle.std.proofs.Math.Seq.{drop-cons}
use Rattle.std.proofs.lemmas.List.{length-map}
use Rattle.im_word.specs.Shown.{shown}
use Rattle.im_word.specs.declared.word.Word as w
use Rattle.im_parse_core.specs.Places.{IsAt}

pub word_is_at : (words : List w.Word) (i : ℕ) (x : w.Word) → i < length words → x ≡ get_or words i x → IsAt (shown x) (map shown words) i (i + 1)
word_is_at words i x h g =
    let k = length-map words shown in
    record {
      here = drop-map shown i words ∙ ap (λ z. map shown z) (drop-cons words i x h) ∙ ap (λ z. shown z ∷ map shown (drop (suc i) words)) (sym g) ∙ ap (λ z. shown x ∷ z) (sym (drop-map shown (suc i) words)) ∙ ap (λ z. shown x ∷ drop z (map shown words)) (sym (add-one i));
      next = add-one i;
      within = omega (arith, k, h);
    }

-- The address of a static takes one line where it is a multiple of 4096; any other takes its two parts.
use Rattle.std.proofs.Common.{◌≡◌, ℕ, ◌+◌, ◌%◌, [], ◌∷◌, refl, sym, ap, ◌∙◌}
use Rattle.std.specs.Prelude.{if◌then◌else◌}
use Rattle.im_rv.specs.Lines.{plain_line}
use Rattle.im_rv_reach.specs.Instructions.{upper}
use Rattle.im_store.specs.Objects.{Name, Named}
use Rattle.im_block.specs.declared.code.Place.{Place}
use Rattle.im_block.specs.declared.code.Place.TheVariants.{Static, Local, Through}
use Rattle.im_select.specs.Emitted.{high_of, place_number, based_code, address_code}
use Rattle.im_select.proofs.Splitting.{low_none, low_some}

pub page_address : (at : Name → ℕ) (to object offset n : ℕ) (place : Place) → place ≡ Static object offset → n ≡ at (Named object) + offset → n % 4096 ≡ 0 → plain_line (upper to (high_of n)) ∷ [] ≡ address_code to place (place_number at place)
page_address at to object offset n place e q z =
    sym (ap (λ t. if t then plain_line (upper to (high_of n)) ∷ [] else based_code to (Static object offset) n) (low_none n z))
    ∙ ap (address_code to (Static object offset)) q ∙ ap (λ p. address_code to p (place_number at p)) (sym e)

pub based_address : (at : Name → ℕ) (to object offset n : ℕ) (place : Place) → place ≡ Static object offset → n ≡ at (Named object) + offset → (n % 4096 ≡ 0 → ⊥) → based_code to place (place_number at place) ≡ address_code to place (place_number at place)
based_address at to object offset n place e q z =
    ap (λ p. based_code to p (place_number at p)) e ∙ ap (based_code to (Static object offset)) (sym q)
    ∙ sym (ap (λ t. if t then plain_line (upper to (high_of n)) ∷ [] else based_code to (Static object offset) n) (low_some n z))
    ∙ ap (address_code to (Static object offset)) q ∙ ap (λ p. address_code to p (place_number at p)) (sym e)

pub other_address : (to : ℕ) (place : Place) (n : ℕ) → ((object offset : ℕ) → place ≡ Static object offset → ⊥) → based_code to place n ≡ address_code to place n
other_address to (Static object offset) n h = absurd (h object offset refl)
other_address to (Local object offset) n h = refl
other_address to (Through r offset) n h = refl

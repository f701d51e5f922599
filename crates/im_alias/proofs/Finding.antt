-- What the functions on found tags owe: a place named directly has its tag, and an access gets the one of its place.
use Rattle.std.proofs.Common.{◌≡◌, ◌⊎◌, ℕ, List, [], ◌∷◌, ◌++◌, Some, sym, subst, ⊎_elim}
use Rattle.im_num.specs.declared.kind.Kind.{Kind}
use Rattle.im_block.specs.declared.access.Tag.TheVariants.{Direct}
use Rattle.im_block.specs.declared.code.Place.{Place}
use Rattle.im_block.specs.declared.code.Place.TheVariants.{Static, Local}
use Rattle.im_block.specs.declared.code.Line.{Line}
use Rattle.im_block.specs.declared.code.Line.TheVariants.{Read, Write}
use Rattle.im_alias.specs.declared.found.Found.{Found}
use Rattle.im_alias.specs.Scan.{TagAlike, FindsTag, FindsAt}
use Rattle.im_alias.proofs.Arms.{direct_static, direct_local, access_found, access_tag}

pub direct_found : (sets : ℕ → List ℕ) (object offset k : ℕ) (place : Place) (old new : Found) → (place ≡ Static object offset) ⊎ (place ≡ Local object offset) → FindsTag k (λ found. found ≡ Some (Direct object offset)) old new → FindsTag k (TagAlike sets place) old new
direct_found sets object offset k place old new which h = ⊎_elim
    (λ e. subst (λ at. FindsTag k (TagAlike sets at) old new) (sym e) (direct_static sets object offset k old new h))
    (λ e. subst (λ at. FindsTag k (TagAlike sets at) old new) (sym e) (direct_local sets object offset k old new h))
    which

-- a line that reads or writes a place
abbrev pub IsAccess : Place → ℕ → Line → Type 0
IsAccess place access line = ((to : ℕ) × (kind : Kind) × (line ≡ Read to place kind access)) ⊎ ((kind : Kind) × (from : ℕ) × (line ≡ Write place kind from access))

module _ (sets : ℕ → List ℕ) (place : Place) (access k : ℕ) (old mid new : Found) (found : FindsTag k (TagAlike sets place) old mid) (tags : new.tags.items ≡ mid.tags.items) (accesses : new.accesses.items ≡ mid.accesses.items ++ (record { access = access; tag = k }) ∷ []) where
  read_tagged : (to : ℕ) (kind : Kind) → FindsAt sets (Read to place kind access) old new
  read_tagged to kind = record {
    finds = access_found sets place access k old mid new found tags accesses;
    tag = access_tag sets place access k old mid new found tags accesses;
  }

  write_tagged : (kind : Kind) (from : ℕ) → FindsAt sets (Write place kind from access) old new
  write_tagged kind from = record {
    finds = access_found sets place access k old mid new found tags accesses;
    tag = access_tag sets place access k old mid new found tags accesses;
  }

  pub access_tagged : (line : Line) → IsAccess place access line → FindsAt sets line old new
  access_tagged line which = ⊎_elim
      (λ w. subst (λ at. FindsAt sets at old new) (sym w.2) (read_tagged w.0 w.1))
      (λ w. subst (λ at. FindsAt sets at old new) (sym w.2) (write_tagged w.0 w.1))
      which

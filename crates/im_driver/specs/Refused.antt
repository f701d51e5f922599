-- Why a source is refused, and of what a quantity over its limit is counted.
use Rattle.std.specs.Prelude.{◌≡◌, ℕ, List}
use Rattle.im_fault.specs.declared.fault.Place.{Place}
use Rattle.im_fault.specs.declared.fault.Quantity.{Quantity}
use Rattle.im_fault.specs.declared.fault.Quantity.TheVariants.{Parameters, Size, Frame, Derivations}
use Rattle.im_fault.specs.declared.fault.SourceFault.{SourceFault}
use Rattle.im_fault.specs.declared.fault.SourceFault.TheVariants.{Limit}
use Rattle.im_fault.specs.declared.fault.Subject.{Subject}
use Rattle.im_fault.specs.declared.fault.Subject.TheVariants.{Whole, Named, Declared}
use Rattle.im_tok.specs.declared.token.Token.{Token}
use Rattle.im_ctree.specs.declared.unit.Tree.{Tree}
use Rattle.im_ctree.specs.Shape.{tree_of}
use Rattle.im_front.specs.Reading.{place_of_token}
use Rattle.im_typed.specs.Program.{Prog}
use Rattle.im_check.specs.Checked.{IsFirstCrowded, IsFirstLarge}
use Rattle.im_check_counts.specs.Derivations.{Derived, derived_names, IsFirstDeep}
use Rattle.im_keeps_built.specs.Laws.{IsLargeFrame}
use Rattle.im_driver.specs.declared.refused.Refused.{Refused}
use Rattle.im_driver.specs.Compiled.{IsTreeOf, IsProgramOf, IsRefused}

-- the source's first function whose parameters take too many words has so many and this name; its declarator begins at the place
pub record IsCrowdedFunction (source : List ℕ) (count : ℕ) (place : Place) (name : List ℕ) : Type 0 where
  pub tokens : List Token
  pub tree : Tree
  pub is_tree : IsTreeOf source tokens tree
  pub token : ℕ
  pub first : IsFirstCrowded (tree_of tree) count token name
  pub is_place : place ≡ place_of_token source tokens token

-- in the source's tree the first size over the limit is so many bytes, in the declarator of this name, with its initialiser,
-- or in the function with it; or else in specifiers, which have no name. This begins at the place
pub record IsLargeObject (source : List ℕ) (count : ℕ) (place : Place) (name : List ℕ) : Type 0 where
  pub tokens : List Token
  pub tree : Tree
  pub is_tree : IsTreeOf source tokens tree
  pub token : ℕ
  pub first : IsFirstLarge (tree_of tree) count token name
  pub is_place : place ≡ place_of_token source tokens token

-- the function of this name has a frame of so many bytes: more than 65536, and no more than it may need
pub record IsLargeFunction (source : List ℕ) (count : ℕ) (name : List ℕ) : Type 0 where
  pub prog : Prog
  pub program : IsProgramOf source prog
  pub function : ℕ
  pub large : IsLargeFrame prog function count
  pub is_name : name ≡ large.f.name

-- the source's first typedef name that stands for too many derivations is this one, and stands for so many; its declarator
-- begins at the place
pub record IsDeepName (source : List ℕ) (count : ℕ) (place : Place) (name : List ℕ) : Type 0 where
  pub tokens : List Token
  pub tree : Tree
  pub is_tree : IsTreeOf source tokens tree
  pub derived : Derived
  pub first : IsFirstDeep (derived_names (tree_of tree)) derived
  pub is_count : count ≡ derived.count
  pub is_name : name ≡ derived.name
  pub is_place : place ≡ place_of_token source tokens derived.token

-- parameters are those of one function, and so is a frame; derivations are those of one typedef name; a size is that of a type
-- in one declaration; the others are of no one function or object
abbrev pub IsCountedOf : List ℕ → Quantity → ℕ → Subject → Type 0
IsCountedOf source Parameters count (Declared place name) = IsCrowdedFunction source count place name.items
IsCountedOf source Parameters count Whole = ⊥
IsCountedOf source Parameters count (Named name) = ⊥
IsCountedOf source Size count (Declared place name) = IsLargeObject source count place name.items
IsCountedOf source Size count Whole = ⊥
IsCountedOf source Size count (Named name) = ⊥
IsCountedOf source Frame count (Named name) = IsLargeFunction source count name.items
IsCountedOf source Frame count Whole = ⊥
IsCountedOf source Frame count (Declared place name) = ⊥
IsCountedOf source Derivations count (Declared place name) = IsDeepName source count place name.items
IsCountedOf source Derivations count Whole = ⊥
IsCountedOf source Derivations count (Named name) = ⊥
IsCountedOf source quantity count subject = subject ≡ Whole

abbrev pub IsSubject : List ℕ → SourceFault → Subject → Type 0
IsSubject source (Limit quantity count) subject = IsCountedOf source quantity count subject
IsSubject source fault subject = subject ≡ Whole

pub record IsRefusedFor (source : List ℕ) (refused : Refused) : Type 0 where
  pub is_fault : IsRefused source refused.fault
  pub is_subject : IsSubject source refused.fault refused.subject

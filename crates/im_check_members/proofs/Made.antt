-- What is made of a member that the table has, and what is answered of one that isn't there.
use Rattle.std.proofs.Common.{◌≡◌, ℕ, Bool, false, ◌||◌, [], ◌∷◌, inl, refl, sym, ap, ◌∙◌, subst}
use Rattle.im_check_conversions.specs.im_word.Words.{Name}
use Rattle.im_ctype.specs.declared.member.MemberPlace.{MemberPlace}
use Rattle.im_ctype.specs.Members.{places}
use Rattle.im_ctype.specs.Table.{Table, type_at, structs_of}
use Rattle.im_ctype.specs.Types.{CType, Member, is_array, members_of}
use Rattle.im_typed.specs.Program.{Expr, Place, Member as MemberAt, Part}
use Rattle.im_check_conversions.specs.im_rules.Conversions.{member_among, place_among, struct_number, member_at, part_of}
use Rattle.im_check_conversions.specs.im_rules.Demands.{asks}
use Rattle.im_check_conversions.specs.im_rules.Terms.{lvalue, value, access_of}
use Rattle.im_check_stop.specs.Answers.{IsRefusal}
use Rattle.im_check_stop.specs.declared.stop.Stop.{Stop}
use Rattle.im_check_stop.specs.declared.stop.Stop.TheVariants.{Rule}
use Rattle.im_check_members.specs.Found.{IsFound}
use Rattle.im_check_members.specs.declared.found.Found.{Found}

module _ (t : Table) (ty : CType) (x : Name) (f : Found) (h : IsFound t ty x f) where
  abbrev m : Member
  m = member_among x (members_of (structs_of t) (struct_number ty))

  abbrev q : MemberPlace
  q = place_among x (members_of (structs_of t) (struct_number ty)) (places (structs_of t) (struct_number ty))

  pub at_place : (k : Bool) (p : Place) → lvalue (k || f.constant) (type_at t f.ty) (MemberAt p f.place.offset) ≡ member_at (structs_of t) k ty p x
  at_place k p =
      ap (λ b. lvalue (k || b) (type_at t f.ty) (MemberAt p f.place.offset)) h.constant
      ∙ ap (λ a. lvalue (k || m.constant) a (MemberAt p f.place.offset)) h.type
      ∙ ap (λ (o : MemberPlace). lvalue (k || m.constant) m.type (MemberAt p o.offset)) h.place

  -- in a value, as a type that is the member's
  pub in_value : (a : CType) (e : Expr) → a ≡ type_at t f.ty → value (record { type = a; expr = Part f.place.first_cell (access_of (structs_of t) a) e }) ≡ value (part_of (structs_of t) (record { type = ty; expr = e }) x)
  in_value a e is =
      ap (λ b. value (record { type = b; expr = Part f.place.first_cell (access_of (structs_of t) b) e })) (is ∙ h.type)
      ∙ ap (λ (o : MemberPlace). value (record { type = m.type; expr = Part o.first_cell (access_of (structs_of t) m.type) e })) h.place

  pub array_or_not : (a : CType) (b : Bool) → a ≡ type_at t f.ty → b ≡ is_array a → is_array m.type ≡ b
  array_or_not a b is told = ap is_array (sym (is ∙ h.type)) ∙ sym told

-- the one demand isn't met
pub not_met : (rule at : ℕ) (holds : Bool) (s : Stop) → s ≡ Rule rule at → holds ≡ false → IsRefusal (asks rule holds ∷ []) at s
not_met rule at holds s is fails = subst (λ (z : Stop). IsRefusal (asks rule holds ∷ []) at z) (sym is) (inl (refl, fails), refl)

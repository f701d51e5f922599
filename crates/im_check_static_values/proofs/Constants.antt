-- What an expression is as a constant, by whether it is null.
use Rattle.std.proofs.Common.{◌≡◌, ℕ, refl}
use Rattle.im_ctype.specs.Table.{Table}
use Rattle.im_typed.specs.declared.expression.Expr as re
use Rattle.im_typed.specs.ProgramOf.{expr_of}
use Rattle.im_check_items.specs.im_rules.Constants.{constant_value}
use Rattle.im_check_items.specs.im_rules.StaticValues.{static_value, number_or, pointer_to, address_of}

-- what isn't null is a number or a place
pub number_or_place : (types : Table) (size : ℕ → ℕ) (e : re.Expr) → (e ≡ re.Null → ⊥)
    → static_value size (expr_of types e) ≡ number_or (constant_value (expr_of types e)) (pointer_to (address_of size (expr_of types e)))
number_or_place types size (re.Number k z) h = refl
number_or_place types size re.Null h = absurd (h refl)
number_or_place types size (re.Read' x b a) h = refl
number_or_place types size (re.Address' b a) h = refl
number_or_place types size (re.Convert' k b e) h = refl
number_or_place types size (re.Unary' op k b e) h = refl
number_or_place types size (re.Binary' op k b x c y) h = refl
number_or_place types size (re.Move' n back b x c y) h = refl
number_or_place types size (re.MoveBy' n b x c y) h = refl
number_or_place types size (re.Distance' n b x c y) h = refl
number_or_place types size (re.Compare' op k b x c y) h = refl
number_or_place types size (re.Not' b e) h = refl
number_or_place types size (re.And' b x c y) h = refl
number_or_place types size (re.Or' b x c y) h = refl
number_or_place types size (re.Choose' b t c x d y) h = refl
number_or_place types size (re.Comma' b x c y) h = refl
number_or_place types size (re.Discard' b e) h = refl
number_or_place types size (re.Assign' x b a c e) h = refl
number_or_place types size (re.Update' b a change c e) h = refl
number_or_place types size (re.Increment' b a change old) h = refl
number_or_place types size (re.Part' from x b e) h = refl
number_or_place types size (re.Call' f shape es) h = refl
number_or_place types size (re.Serve service) h = refl
number_or_place types size (re.ServeWith' service b e) h = refl

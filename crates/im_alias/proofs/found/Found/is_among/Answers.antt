use Rattle.std.proofs.Common.{◌≡◌, length, Some, refl, sym, ap, ◌∙◌, subst}
use Rattle.std.specs.Prelude.{slice_get}
use Rattle.std.proofs.lemmas.Bool.Decides.{Decides-eqb}
use Rattle.std.proofs.lemmas.Option.{slice_get_read}
use Rattle.std.proofs.lemmas.Slice.Eq.{slice_eq-Decides}
use Rattle.im_block.specs.declared.access.Tag.TheVariants.{Through}
use Rattle.im_alias.specs.Scan.{IsAmong}
use Rattle.im_alias.proofs.found.Found.is_among.Goals as goal

pub returns-in-Some-Through : goal.returns-in-Some-Through
returns-in-Some-Through c =
    let tags = c.args.self.now.tags.items in
    let some = c.deref.result.now in
    let k = c.args.place in
    let members = c.in-Some-Through.members in
    let objects = c.args.objects.now.members.items in
    let at : slice_get some k ≡ Some c.in-Some-Through.field-0.now = slice_get_read some (length some) k c.in-Some-Through.field-0.now refl c.in-Some-Through.ensures.lookup.3.0 c.in-Some-Through.ensures.lookup.1 in
    let is : slice_get tags k ≡ Some (Through members) = sym (ap (λ l. slice_get l k) c.deref.ensures.value) ∙ at ∙ ap Some c.in-Some-Through.field-0-is in
    λ t. subst (IsAmong objects) (sym is)
    (sym c.as_slice.ensures.value ∙ (slice_eq-Decides Decides-eqb c.as_slice.result.now c.as_slice-in-Some-Through.result.now c.eq.result c.eq.ensures).0 t ∙ c.as_slice-in-Some-Through.ensures.value)

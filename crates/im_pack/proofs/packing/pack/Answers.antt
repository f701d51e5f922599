use Rattle.std.proofs.Common.{◌≡◌, ℕ, ◌<◌, List, refl, sym, ap, ◌∙◌, subst}
use Rattle.std.specs.Prelude.{slice_index}
use Rattle.im_block.specs.declared.unit.Static.{Static as StaticOf}
use Rattle.im_pack.specs.Packed.{AreFirstBytes, AreObjectsOf}
use Rattle.im_pack.specs.Bytes.{statics_bytes}
use Rattle.im_pack.specs.Objects.{objects_at}
use Rattle.im_pack.proofs.Statics.{first_bytes, small_bytes}
use Rattle.im_pack.proofs.Naming.{objects_are}
use Rattle.im_pack.proofs.Whole.{ready_statics, statics_have, statics_named, is_image}
use Rattle.im_pack.proofs.packing.pack.Goals as goal

pub first_bytes-requires : goal.first_bytes-requires
first_bytes-requires c = ready_statics c.args.statics.now c.args.addresses.now c.requires.well_formed c.requires.room c.requires.places

pub objects_of_statics-requires : goal.objects_of_statics-requires
objects_of_statics-requires c = ready_statics c.args.statics.now c.args.addresses.now c.requires.well_formed c.requires.room c.requires.places

pub invariant_of-result : goal.invariant_of-result
invariant_of-result c =
    let statics = c.args.statics.now in
    let addresses = c.args.addresses.now in
    let words : c.in_ok-copy_of.field-0.items ≡ c.args.code.now.words.items = c.in_ok-copy_of.ensures.same ∙ c.deref.ensures.value in
    let small : (k : ℕ) → slice_index c.in_ok-bytes.bytes.items k < 256 = λ k. subst (λ (z : List ℕ). slice_index z k < 256) (sym c.in_ok-bytes.ensures) (small_bytes addresses statics k) in
    is_image statics addresses c.args.code.now c.in_ok-bytes.bytes.items c.in_ok-copy_of.field-0.items c.in_ok-objects.objects.items c.args.stack c.args.out_cap (statics_have statics c.requires.well_formed) c.requires.room c.requires.places c.requires.code c.requires.some_stack c.requires.most_stack c.requires.output (statics_named statics c.requires.named) c.in_ok-bytes.ensures c.in_ok-objects.ensures words c.in_ok-copy_of.ensures.wide small

pub returns : goal.returns
returns c u same =
    let statics = c.args.statics.now in
    let addresses = c.args.addresses.now in
    let ready = ready_statics statics addresses c.requires.well_formed c.requires.room c.requires.places in
    record {
      version = refl;
      form = refl;
      words = c.in_ok-copy_of.ensures.same ∙ c.deref.ensures.value;
      entry = refl;
      stack_is = refl;
      out_cap_is = refl;
      statics = subst (λ (z : List StaticOf). AreFirstBytes z addresses c.in_ok-bytes.bytes.items) (sym same)
          (subst (AreFirstBytes statics addresses) (sym c.in_ok-bytes.ensures) (first_bytes addresses statics (statics_have statics c.requires.well_formed) c.requires.places));
      objects = subst (λ (z : List StaticOf). AreObjectsOf z addresses c.in_ok-objects.objects.items) (sym same)
          (subst (AreObjectsOf statics addresses) (sym c.in_ok-objects.ensures) (objects_are statics addresses ready.count));
    }

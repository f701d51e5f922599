use Rattle.std.proofs.Common.{◌≡◌, ◌≤◌, [], ◌∷◌, ◌++◌, length, refl, ap, ◌∙◌, arith}
use Rattle.std.proofs.lemmas.Bool.{leb-true}
use Rattle.std.specs.List.{flat_map}
use Rattle.std.proofs.lemmas.List.{take_all}
use Rattle.im_image.specs.Contents.{ImageValue}
use Rattle.im_image.specs.Text.{magic, words_text, object_text, form_words, version_number}
use Rattle.im_image.proofs.Taken.{and_true}
use Rattle.im_image.proofs.Written.{object_fits, header_put, image_put}
use Rattle.im_image.proofs.writing.write_image.Goals as goal

pub put_object-requires-clause-name : goal.put_object-requires-clause-name
put_object-requires-clause-name c =
    let i = c.image.invariant in
    let few : length c.image.inside.statics.items ≤ 1048576 = leb-true _ _ (and_true _ _ i.statics_size).0 in
    (object_fits (length c.image.inside.statics.items) 1048576 c.image.inside.objects.items c.loop-object.object-index c.object-item.result few i.objects (rw (← c.deref-object-items.ensures.value) c.loop-object-test.true) (rw (← c.deref-object-items.ensures.value) c.object-item.is)).name

pub put_object-requires-clause-runs : goal.put_object-requires-clause-runs
put_object-requires-clause-runs c =
    let i = c.image.invariant in
    let few : length c.image.inside.statics.items ≤ 1048576 = leb-true _ _ (and_true _ _ i.statics_size).0 in
    (object_fits (length c.image.inside.statics.items) 1048576 c.image.inside.objects.items c.loop-object.object-index c.object-item.result few i.objects (rw (← c.deref-object-items.ensures.value) c.loop-object-test.true) (rw (← c.deref-object-items.ensures.value) c.object-item.is)).runs

pub returns : goal.returns
returns c =
    let image = c.args.image.now in
    let inner = c.image.inside in
    let words-are = ap (λ (x : ImageValue). x.words) c.image.view_is in
    let statics-are = ap (λ (x : ImageValue). x.statics) c.image.view_is in
    let objects-are = ap (λ (x : ImageValue). x.objects) c.image.view_is in
    let n : c.len.result ≡ length image.words = omega (arith, c.len.ensures, inner.words.ok.0, ap length words-are) in
    let s : c.len-2.result ≡ length image.statics = omega (arith, c.len-2.ensures, inner.statics.ok.0, ap length statics-are) in
    let v : c.len-3.result ≡ length image.objects = omega (arith, c.len-3.ensures, inner.objects.ok.0, ap length objects-are) in
    let stack = ap (λ (x : ImageValue). x.stack) c.image.view_is in
    let out_cap = ap (λ (x : ImageValue). x.out_cap) c.image.view_is in
    let entry = ap (λ (x : ImageValue). x.entry) c.image.view_is in
    let version = ap (λ (x : ImageValue). x.version) c.image.view_is in
    let form = ap (λ (x : ImageValue). x.form) c.image.view_is in
    let header = magic ∷ c.number.result ∷ c.len.result ∷ c.len-2.result ∷ inner.stack ∷ inner.out_cap ∷ inner.entry ∷ c.len-3.result ∷ [] in
    let number : c.number.result ≡ version_number image.version = c.number.ensures ∙ ap version_number version in
    let all = take_all c.loop-object.object-index c.deref-object-items.result.now c.loop-object-test.false in
    let formed : c.put_form.new.text.items ≡ c.put_words.new.text.items ++ words_text (form_words image.version image.form) = c.in_ok-put_form.ensures ∙ rw (version, form) refl in
    let front = header_put image c.new-text.result.items c.put_words.new.text.items c.put_form.new.text.items header (cc) c.new-text.ensures.items c.in_ok-put_words.ensures formed in
    image_put image c.put_form.new.text.items c.put_words-2.new.text.items c.extend_from_slice.new.self.items c.loop-object.text.items front
    (c.in_ok-put_words-2.ensures ∙ ap (λ x. c.put_form.new.text.items ++ words_text x) (c.deref.ensures.value ∙ words-are))
    (c.in_ok-extend_from_slice.ensures.items ∙ ap (λ x. c.put_words-2.new.text.items ++ x) (c.deref-2.ensures.value ∙ statics-are))
    (c.loop-object.invariant ∙ ap (λ x. c.extend_from_slice.new.self.items ++ flat_map object_text x) (all ∙ c.deref-object-items.ensures.value ∙ objects-are))

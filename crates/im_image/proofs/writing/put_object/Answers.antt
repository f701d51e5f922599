use Rattle.std.proofs.Common.{◌≡◌, ◌++◌, length, ap, ◌∙◌, arith}
use Rattle.std.specs.List.{flat_map}
use Rattle.im_image.specs.Contents.{ObjectValue}
use Rattle.im_image.specs.Text.{run_text}
use Rattle.im_image.proofs.Written.{object_put}
use Rattle.im_image.proofs.writing.put_object.Goals as goal

pub returns : goal.returns
returns c =
    let object = c.args.object.now in
    let inner = c.object.inside in
    let name-is = ap (λ (x : ObjectValue). x.name) c.object.view_is in
    let runs-are = ap (λ (x : ObjectValue). x.runs) c.object.view_is in
    let name : c.len-name_len.result ≡ length object.name = omega (arith, c.len-name_len.ensures, inner.name.ok.0, ap length name-is) in
    let runs : c.len-run_count.result ≡ length object.runs = omega (arith, c.len-run_count.ensures, inner.runs.ok.0, ap length runs-are) in
    object_put object c.args.text.now.items c.put_words.new.text.items c.extend_from_slice.new.self.items c.put_runs.new.text.items inner.at inner.size c.len-name_len.result c.len-run_count.result (ap (λ (x : ObjectValue). x.at) c.object.view_is) (ap (λ (x : ObjectValue). x.size) c.object.view_is) name runs
    c.in_ok-put_words.ensures
    (c.in_ok-extend_from_slice.ensures.items ∙ ap (λ x. c.put_words.new.text.items ++ x) (c.deref.ensures.value ∙ name-is))
    (c.in_ok-put_runs.ensures ∙ ap (λ x. c.extend_from_slice.new.self.items ++ flat_map run_text x) (c.deref-2.ensures.value ∙ runs-are))

use Rattle.std.proofs.Common.{◌≡◌, ◌<◌, [], ◌∷◌, ◌++◌, length, get_or, sym, ap, subst, ◌∙◌, arith}
use Rattle.std.proofs.lemmas.List.{take_all}
use Rattle.std.specs.List.{flat_map}
use Rattle.im_mem.specs.Memory.{view}
use Rattle.im_image.specs.Text.{form_number}
use Rattle.im_mem_file.specs.Text.{magic, page_text}
use Rattle.im_mem_file.proofs.PageLemmas.{pages-below, length-pages_of}
use Rattle.im_mem_file.proofs.Written.{memory_put}
use Rattle.im_mem_file.proofs.writing.write_memory.Goals as goal

pub overflow_cast-count : goal.overflow_cast-count
overflow_cast-count c =
    let few = length-pages_of 1280 0 (view c.args.memory.now) in
    omega (arith, c.len-count.ensures, ap length c.in_ok-pages.ensures.pages, few)

pub put_page-requires : goal.put_page-requires
put_page-requires c =
    let m = view c.args.memory.now in
    let all = c.deref-page-items.ensures.value ∙ c.in_ok-pages.ensures.pages in
    let below = pages-below 1280 0 1280 m (omega arith) c.loop-page.page-index in
    let there = subst (λ xs. c.loop-page.page-index < length xs) all c.loop-page-test.true in
    subst (λ xs. get_or xs c.loop-page.page-index 0 < 1280) (sym all) (below there)

pub returns : goal.returns
returns c =
    let m = view c.args.memory.now in
    let pages = c.in_ok-pages.pages.items in
    let all = take_all c.loop-page.page-index c.deref-page-items.result.now c.loop-page-test.false in
    let few = length-pages_of 1280 0 m in
    let count : c.len-count.result ≡ length pages = omega (arith, c.len-count.ensures, ap length c.in_ok-pages.ensures.pages, few) in
    let version : c.number.result ≡ 2 = c.number.ensures in
    let number : c.number-2.result ≡ form_number c.args.form = c.number-2.ensures in
    let header = magic ∷ c.number.result ∷ c.number-2.result ∷ c.len-count.result ∷ [] in
    memory_put m c.args.form pages c.new-text.result.items c.put_words.new.text.items c.loop-page.text.items header c.len-count.result
    c.nonzero_pages.ensures.memory c.in_ok-pages.ensures.pages count c.new-text.ensures.items (cc)
    c.in_ok-put_words.ensures
    (c.loop-page.invariant ∙ ap (λ x. c.put_words.new.text.items ++ flat_map (page_text m) x) (all ∙ c.deref-page-items.ensures.value))

-- A text that is written part by part.
use Rattle.std.proofs.Common.{◌≡◌, ℕ, List, [], ◌∷◌, ◌++◌, length, ap, ◌∙◌}
use Rattle.std.specs.List.{flat_map}
use Rattle.im_mem.specs.Memory.{Mem}
use Rattle.im_mem_paged.specs.Pages.{IsMemory, pages_of}
use Rattle.im_image.specs.declared.version.Version.TheVariants.{Two}
use Rattle.im_image.specs.declared.form.Form.{Form}
use Rattle.im_image.specs.Text.{words_text, form_number}
use Rattle.im_mem_file.specs.Text.{magic, page_text, memory_text, MemoryText}

pub memory_put : (m : Mem) (form : Form) (pages a b c header : List ℕ) (count : ℕ) → IsMemory m → pages ≡ pages_of 1280 0 m → count ≡ length pages → a ≡ []
    → header ≡ magic ∷ 2 ∷ form_number form ∷ count ∷ [] → b ≡ a ++ words_text header → c ≡ b ++ flat_map (page_text m) pages → MemoryText c Two form m
unfolding memory_text
memory_put m form pages a b c header count is pages-are count-is empty header-is p q =
    let ps = pages_of 1280 0 m in
    let count-at : count ≡ length ps = count-is ∙ ap length pages-are in
    let front : b ≡ words_text (magic ∷ 2 ∷ form_number form ∷ length ps ∷ []) =
    p ∙ ap (λ (x : List ℕ). x ++ words_text header) empty ∙ ap words_text header-is ∙ ap (λ (x : ℕ). words_text (magic ∷ 2 ∷ form_number form ∷ x ∷ [])) count-at in
    record {
      has_form = tt;
      is_memory = is;
      text_is = q ∙ ap (λ (x : List ℕ). x ++ flat_map (page_text m) pages) front ∙ ap (λ (x : List ℕ). words_text (magic ∷ 2 ∷ form_number form ∷ length ps ∷ []) ++ flat_map (page_text m) x) pages-are;
    }

use Rattle.std.proofs.Common.{◌≡◌, None, sym, ap, ◌∙◌, arith}
use Rattle.std.proofs.lemmas.Result.{err_from_is_err_and}
use Rattle.im_mem.specs.Memory.{view}
use Rattle.im_mem_file.specs.declared.header.Header.{Header}
use Rattle.im_mem_file.specs.Faults.{fault_of, memory_at}
use Rattle.im_mem_file.proofs.Unmet.{same_fault}
use Rattle.im_mem_file.proofs.Front.{fault_in_header, behind_header, memory_is, text_is}
use Rattle.im_mem_file.proofs.reading.read_memory.Goals as goal

pub returns-in_err-header-clause-wrong : goal.returns-in_err-header-clause-wrong
returns-in_err-header-clause-wrong c =
    let p = err_from_is_err_and c.from_residual.result c.from_residual.ensures.1 in
    rw (p.1, p.2) (fault_in_header c.args.bytes.now c.in_err-header.field-0.0 c.in_err-header.ensures.wrong)

pub returns-in_err-read_pages-clause-wrong : goal.returns-in_err-read_pages-clause-wrong
returns-in_err-read_pages-clause-wrong c =
    let p = err_from_is_err_and c.from_residual-in_err-read_pages.result c.from_residual-in_err-read_pages.ensures.1 in
    let h = c.in_ok-header.header in
    rw (p.1, p.2) (same_fault c.in_err-read_pages.field-0.0 _ _ (behind_header c.args.bytes.now h c.in_ok-header.ensures.header c.in_ok-header.ensures.right) c.in_err-read_pages.ensures.wrong)

pub returns-clause-memory : goal.returns-clause-memory
returns-clause-memory c =
    memory_is c.args.bytes.now c.in_ok-header.header (view c.in_ok-memory.memory) (view c.read_pages.new.memory) c.in_ok-header.ensures.header c.in_ok-memory.ensures c.in_ok-read_pages.ensures.laid

pub returns-clause-right : goal.returns-clause-right
returns-clause-right c = sym (behind_header c.args.bytes.now c.in_ok-header.header c.in_ok-header.ensures.header c.in_ok-header.ensures.right) ∙ c.in_ok-read_pages.ensures.right

pub returns-clause-text : goal.returns-clause-text
returns-clause-text c =
    let text = c.args.bytes.now in
    let h = c.in_ok-header.header in
    let is = c.in_ok-header.ensures.header in
    let none : fault_of text ≡ None = sym (behind_header text h is c.in_ok-header.ensures.right) ∙ c.in_ok-read_pages.ensures.right in
    let memory : view c.read_pages.new.memory ≡ memory_at text = memory_is text h (view c.in_ok-memory.memory) (view c.read_pages.new.memory) is c.in_ok-memory.ensures c.in_ok-read_pages.ensures.laid in
    text_is text h.version h.form (view c.read_pages.new.memory) (λ i. omega (arith, c.type_inv.bytes i)) none (ap (λ (x : Header). x.version) is) (ap (λ (x : Header). x.form) is) memory

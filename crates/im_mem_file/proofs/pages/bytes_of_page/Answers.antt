use Rattle.std.proofs.Common.{◌≡◌, ℕ, ◌+◌, ◌-◌, take, drop, ap, arith}
use Rattle.im_mem_file.specs.Faults.{page_bytes}
use Rattle.im_mem_file.proofs.pages.bytes_of_page.Goals as goal

pub returns-clause-bytes : goal.returns-clause-bytes
unfolding page_bytes
returns-clause-bytes c =
    let size : c.args.place + 4 + 4096 - (c.args.place + 4) ≡ 4096 = omega arith in
    ap (λ (k : ℕ). take k (drop (c.args.place + 4) c.args.bytes.now)) size

use Rattle.std.proofs.Common.{◌≡◌, map, take, string_bytes}
use Rattle.im_io.specs.MemFiles.{given_file}
use Rattle.im_io.proofs.mem_shelf.MemShelf.new.Given as goal

abbrev pub invariant-loop-name : goal.invariant-loop-name
invariant-loop-name l = l.held.items ≡ map (given_file string_bytes (λ bytes. bytes.items)) (take l.name-index l.files)

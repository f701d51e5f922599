-- The limits that a program keeps, beside those of its objects' sizes, which are part of its being well typed.
use Rattle.std.specs.Prelude.{ℕ, ◌+◌, ◌*◌, ◌/◌, ◌≤◌, List, sum_by}
use Rattle.im_store.specs.Statics.{StaticObject}
use Rattle.im_typed.specs.Program.{Func, Prog}
use Rattle.im_typed.specs.Typing.{Each}

-- the bytes of all statics, each with an unused byte behind it, rounded up to whole words
abbrev pub static_bytes : List StaticObject → ℕ
static_bytes statics = sum_by (λ (s : StaticObject). (s.size + 1 + 3) / 4 * 4) statics

pub record IsWithinLimits (g : Prog) : Type 0 where
  pub params : Each {A = Func} (λ f. f.params ≤ 8) g.funcs
  pub statics : static_bytes g.statics ≤ 1048576

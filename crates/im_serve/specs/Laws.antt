-- What holds of each service, whatever its row says.
use Rattle.std.specs.Prelude.{◌≡◌, ℕ, ◌<◌, ◌≤◌, ◌⊎◌, List, [], ◌∷◌, ◌++◌, length, drop, ℤ, pos, Some}
use Rattle.im_num.specs.declared.kind.Kind.{Kind}
use Rattle.im_num.specs.declared.kind.Kind.TheVariants.{I32, U32}
use Rattle.im_num.specs.Kinds.{IsOfKind, word}
use Rattle.im_serve.specs.declared.service.Service.{Service}
use Rattle.im_serve.specs.Services.{row, serve}

abbrev pub AreBytes : List ℕ → Type 0
AreBytes [] = Unit {0}
AreBytes (b ∷ bs) = (b < 256) × AreBytes bs

-- a whole word of 32 bits that is an integer
abbrev pub IsWord : Kind → Type 0
IsWord kind = (kind ≡ I32) ⊎ (kind ≡ U32)

pub record ServiceLaw (service : Service) : Type 0 where
  pub parameter : (kind : Kind) → (row service).parameter ≡ Some kind → IsWord kind
  pub result : IsWord (row service).result
  -- what it gives is of its kind where the input are bytes
  pub value : (capacity : ℕ) (z : ℤ) (input output : List ℕ) → AreBytes input → IsOfKind (row service).result (serve service capacity z input output).value
  -- so many bytes of the input are taken
  pub takes : (capacity : ℕ) (z : ℤ) (input output : List ℕ) → (n : ℕ) × ((serve service capacity z input output).input ≡ drop n input)
  -- these bytes are put behind the output, up to its capacity
  pub puts : (capacity : ℕ) (z : ℤ) (input output : List ℕ) → (more : List ℕ) × (output ++ more ≡ (serve service capacity z input output).output)
  pub fits : (capacity : ℕ) (z : ℤ) (input output : List ℕ) → length output ≤ capacity → length (serve service capacity z input output).output ≤ capacity
  -- the argument is looked at in 32 bits
  pub low : (capacity : ℕ) (z : ℤ) (input output : List ℕ) → serve service capacity z input output ≡ serve service capacity (pos (word z)) input output

abbrev pub ServicesLaw : Type 0
ServicesLaw = (service : Service) → ServiceLaw service

-- The functions that the runtime serves, as a table: a program calls them and has no body of theirs.
use Rattle.std.specs.Prelude.{ℕ, List, [], ◌∷◌, ◌++◌, length, codes, ℤ, pos, negsuc, nat_abs, nat_lt, Bool, true, false, Option, Some, None}
use Rattle.im_num.specs.declared.kind.Kind.{Kind}
use Rattle.im_num.specs.declared.kind.Kind.TheVariants.{U8, I32}
use Rattle.im_num.specs.Kinds.{wrap}
use Rattle.im_serve.specs.declared.service.Service.{Service}
use Rattle.im_serve.specs.declared.service.Service.TheVariants.{Getchar, Putchar}

-- what a service gives, the input that is left then, and the output
pub record Reply : Type 0 where
  pub value : ℤ
  pub input : List ℕ
  pub output : List ℕ

-- the next byte of the input, or -1 at its end (C11 7.21.7.6)
abbrev pub byte_in : (input output : List ℕ) → Reply
byte_in [] output = record { value = negsuc 0; input = []; output = output }
byte_in (byte ∷ rest) output = record { value = pos byte; input = rest; output = output }

-- a byte more of output where there is room, else -1 (C11 7.21.7.8)
abbrev pub byte_put : (room : Bool) (byte : ℕ) (input output : List ℕ) → Reply
byte_put true byte input output = record { value = pos byte; input = input; output = output ++ byte ∷ [] }
byte_put false byte input output = record { value = negsuc 0; input = input; output = output }

abbrev pub byte_out : (capacity byte : ℕ) (input output : List ℕ) → Reply
byte_out capacity byte input output = byte_put (nat_lt (length output) capacity) byte input output

-- a row: the name, the kind of the parameter where there is one, the kind of the result, and what the service does, by the
-- capacity of the output in bytes, the argument (0 where there is no parameter), the input that is left, the output so far
pub record Row : Type 0 where
  pub name : List ℕ
  pub parameter : Option Kind
  pub result : Kind
  pub does : (capacity : ℕ) (argument : ℤ) (input output : List ℕ) → Reply

-- the table
abbrev pub row : Service → Row
row Getchar =
    record {
      name = codes "getchar";
      parameter = None;
      result = I32;
      does = λ capacity argument input output. byte_in input output;
    }
row Putchar =
    record {
      name = codes "putchar";
      parameter = Some I32;
      result = I32;
      does = λ capacity argument input output. byte_out capacity (nat_abs (wrap U8 argument)) input output;
    }

-- whether a service has a parameter

abbrev pub IsNullary : Option Kind → Type 0
IsNullary None = Unit {0}
IsNullary (Some kind) = ⊥

abbrev pub IsUnary : Option Kind → Type 0
IsUnary None = ⊥
IsUnary (Some kind) = Unit {0}

abbrev pub services : List Service
services = Getchar ∷ Putchar ∷ []

abbrev pub serve : Service → (capacity : ℕ) (argument : ℤ) (input output : List ℕ) → Reply
serve service = (row service).does

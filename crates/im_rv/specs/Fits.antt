-- What the fields of an instruction can hold, by its format.
use Rattle.std.specs.Prelude.{ℕ, ℤ, pos, negsuc, ◌%◌, ◌^◌, Bool, false, ◌&&◌, ◌==◌, nat_lt}
use Rattle.im_rv.specs.declared.format.Format.{Format}
use Rattle.im_rv.specs.declared.format.Format.TheVariants.{Register, Immediate, Shift, Store, Branch, Upper, Jump, Order, Whole}
use Rattle.im_rv.specs.declared.instr.Op.{Op}
use Rattle.im_rv.specs.Formats.{format_of}

-- a number from 0 that has n bits
abbrev pub in_bits : ℕ → ℤ → Bool
in_bits n (pos k) = nat_lt k (2 ^ n)
in_bits n (negsuc k) = false

-- a number from -2^n to 2^n - 1
abbrev pub in_signed : ℕ → ℤ → Bool
in_signed n (pos k) = nat_lt k (2 ^ n)
in_signed n (negsuc k) = nat_lt k (2 ^ n)

abbrev pub is_even : ℤ → Bool
is_even (pos k) = k % 2 == 0
is_even (negsuc k) = k % 2 == 1

abbrev pub is_zero : ℤ → Bool
is_zero (pos k) = k == 0
is_zero (negsuc k) = false

abbrev pub is_register : ℕ → Bool
is_register r = nat_lt r 32

-- rd, rs1, rs2 and the immediate
abbrev pub format_fits : Format → ℕ → ℕ → ℕ → ℤ → Bool
format_fits Register d a b i = is_register d && is_register a && is_register b && is_zero i
format_fits Immediate d a b i = is_register d && is_register a && b == 0 && in_signed 11 i
format_fits Shift d a b i = is_register d && is_register a && b == 0 && in_bits 5 i
format_fits Store d a b i = d == 0 && is_register a && is_register b && in_signed 11 i
format_fits Branch d a b i = d == 0 && is_register a && is_register b && in_signed 12 i && is_even i
format_fits Upper d a b i = is_register d && a == 0 && b == 0 && in_bits 20 i
format_fits Jump d a b i = is_register d && a == 0 && b == 0 && in_signed 20 i && is_even i
format_fits Order d a b i = is_register d && is_register a && b == 0 && in_bits 12 i
format_fits Whole d a b i = d == 0 && a == 0 && b == 0 && is_zero i

abbrev pub fits : Op → ℕ → ℕ → ℕ → ℤ → Bool
fits op d a b i = format_fits (format_of op) d a b i

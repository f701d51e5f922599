-- Classes of source bytes (C11 5.2.1).
use Rattle.std.specs.Prelude.{ℕ, ◌≡◌, ◌≤◌, ◌⊎◌}

abbrev pub IsDigit : ℕ → Type 0
IsDigit b = (48 ≤ b) × (b ≤ 57)

-- a letter or `_`
abbrev pub IsNameStart : ℕ → Type 0
IsNameStart b = ((65 ≤ b) × (b ≤ 90)) ⊎ (((97 ≤ b) × (b ≤ 122)) ⊎ (b ≡ 95))

abbrev pub IsNameByte : ℕ → Type 0
IsNameByte b = IsNameStart b ⊎ IsDigit b

-- a blank, or a tab, LF, VT, FF or CR
abbrev pub IsBlank : ℕ → Type 0
IsBlank b = (b ≡ 32) ⊎ ((9 ≤ b) × (b ≤ 13))

-- a blank or a tab
abbrev pub IsGap : ℕ → Type 0
IsGap b = (b ≡ 32) ⊎ (b ≡ 9)

-- e, E, p or P
abbrev pub IsExponent : ℕ → Type 0
IsExponent b = ((b ≡ 101) ⊎ (b ≡ 69)) ⊎ ((b ≡ 112) ⊎ (b ≡ 80))

-- this byte goes on a number behind the byte `last` (C11 6.4.8)
abbrev pub GoesOn : ℕ → ℕ → Type 0
GoesOn last b = IsNameByte b ⊎ ((b ≡ 46) ⊎ (IsExponent last × ((b ≡ 43) ⊎ (b ≡ 45))))

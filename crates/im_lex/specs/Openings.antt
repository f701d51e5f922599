-- What a piece may be, by its first two bytes.
use Rattle.std.specs.Prelude.{ℕ, ◌≡◌, ◌⊎◌, nat_lt, ◌==◌, if◌then◌else◌}
use Rattle.im_lex.specs.declared.opening.Opening.{Opening}
use Rattle.im_lex.specs.declared.opening.Opening.TheVariants.{Blank, Name, Number, Character, Text, Hash, Comment, Other}
use Rattle.im_lex.specs.Bytes.{IsDigit, IsNameStart, IsBlank}

-- what the second byte makes of a `.`
abbrev pub after_dot : ℕ → Opening
after_dot c = if nat_lt c 48 then Other else (if nat_lt c 58 then Number else Other)

-- what the second byte makes of a `/`
abbrev pub after_slash : ℕ → Opening
after_slash c = if c == 42 then Comment else (if c == 47 then Comment else Other)

abbrev pub opening_of : ℕ → ℕ → Opening
opening_of b c = if nat_lt b 9 then Other else (if nat_lt b 14 then Blank else (if nat_lt b 32 then Other else (if nat_lt b 33 then Blank else (if nat_lt b 34 then Other else (if nat_lt b 35 then Text else (if nat_lt b 36 then Hash else (if nat_lt b 39 then Other else (if nat_lt b 40 then Character else (if nat_lt b 46 then Other else (if nat_lt b 47 then after_dot c else (if nat_lt b 48 then after_slash c else (if nat_lt b 58 then Number else (if nat_lt b 65 then Other else (if nat_lt b 91 then Name else (if nat_lt b 95 then Other else (if nat_lt b 96 then Name else (if nat_lt b 97 then Other else (if nat_lt b 123 then Name else Other))))))))))))))))))

-- what is known of the two bytes
abbrev pub Opens : Opening → ℕ → ℕ → Type 0
Opens Blank b c = IsBlank b
Opens Name b c = IsNameStart b
Opens Number b c = IsDigit b ⊎ ((b ≡ 46) × IsDigit c)
Opens Character b c = b ≡ 39
Opens Text b c = b ≡ 34
Opens Hash b c = b ≡ 35
Opens Comment b c = (b ≡ 47) × ((c ≡ 42) ⊎ (c ≡ 47))
Opens Other b c = Unit {0}

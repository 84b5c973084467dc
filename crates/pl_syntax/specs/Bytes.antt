-- The bytes of which tokens and gaps are made.
use Rattle.std.specs.Prelude.{ℕ, ◌≡◌, Bool, false, ◌&&◌, ◌||◌, not, nat_le, ◌==◌, List, [], ◌∷◌}

-- from the space to `~`, but for `"` and the backslash
abbrev pub is_text_byte : ℕ → Bool
is_text_byte b = nat_le 32 b && (nat_le b 126 && (not (b == 34) && not (b == 92)))

-- `<`, `=` and `>`, which are signs alone and with a `=` after them
abbrev pub may_pair : ℕ → Bool
may_pair b = nat_le 60 b && nat_le b 62

-- what is a sign with a `=` after it: these and `!`
abbrev pub pairs : ℕ → Bool
pairs b = may_pair b || (b == 33)

-- the signs of one byte: & ( ) * + , - . / ; < = > | ~
abbrev pub is_sign : ℕ → Bool
is_sign b =
    (b == 38) || ((nat_le 40 b && nat_le b 47)
    || ((nat_le 59 b && nat_le b 62) || ((b == 124) || (b == 126))))

-- a space, a tab, CR or LF
abbrev pub is_blank : ℕ → Bool
is_blank b = (b == 32) || ((b == 9) || ((b == 13) || (b == 10)))

abbrev pub no_line_end : ℕ → Bool
no_line_end b = not (b == 10)

-- blanks, and the `#` of a comment
abbrev pub begins_gap : ℕ → Bool
begins_gap b = is_blank b || (b == 35)

-- a run of bytes that pass the test ends here
abbrev pub Stops : (ℕ → Bool) → List ℕ → Type 0
Stops p [] = Unit {0}
Stops p (b ∷ bs) = p b ≡ false

-- Records of a text without quotes.
use Rattle.std.specs.Prelude.{ℕ, List, [], ◌∷◌, Bool, true, false, ◌≡◌, ◌==◌, ◌||◌, ⊤}
use Rattle.pl_records.specs.View.{RecordsView}
use Rattle.pl_records.specs.Records.{GivesNext}
use Rattle.pl_records.specs.declared.plain.Next.{Next}
use Rattle.pl_records.specs.declared.plain.Next.TheVariants.{Record, End, Other}

abbrev pub is_line_end : ℕ → Bool
is_line_end c = (c == 13) || (c == 10)

-- no line end stands first
abbrev pub StartsRecord : List ℕ → Type 0
StartsRecord [] = ⊤
StartsRecord (c ∷ cs) = is_line_end c ≡ false

-- the next record was read, or there was none, or it is left
abbrev pub Advances : RecordsView → RecordsView → Next → Type 0
Advances old new Record = GivesNext old new true
Advances old new End = GivesNext old new false
Advances old new Other = new.left ≡ old.left

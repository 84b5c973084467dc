-- The laws of dates: a text is read as the day whose date it is, and each day has one date.
use Rattle.std.specs.Prelude.{◌≡◌, ℕ, ℤ, List, Some}
use Rattle.pl_spec.specs.Dates.{IsDate, IsDay, date_in, date_text}

-- a text is read as a day exactly where it is the date of that day
abbrev pub DatesAreRead : Type 0
DatesAreRead = (text : List ℕ) (day : ℤ)
    → (IsDate text day → date_in text ≡ Some day) × (date_in text ≡ Some day → IsDate text day)

-- the text of a day is its date
abbrev pub DatesAreWritten : Type 0
DatesAreWritten = (day : ℤ) → IsDay day → IsDate (date_text day) day

-- and its only one; there are no dates of other days
abbrev pub DaysHaveOneDate : Type 0
DaysHaveOneDate = (text : List ℕ) (day : ℤ) → IsDate text day → IsDay day × (text ≡ date_text day)

-- The text of the rows of payouts.
use Rattle.std.specs.Prelude.{ℕ, ◌+◌, ℤ, List, [], ◌∷◌, ◌++◌, length, filter, flat_map, codes, decimal, Result, Ok, Err, is_ok}
use Rattle.std.specs.List.{join_by}
use Rattle.std.specs.Fmt.{signed_decimal}
use Rattle.pl_spec.specs.declared.AssetRow.{AssetRow}
use Rattle.pl_spec.specs.declared.BarRow.{BarRow}
use Rattle.pl_spec.specs.declared.RawAdjust.{RawAdjust}
use Rattle.pl_payouts.specs.declared.Payout.{Payout}
use Rattle.pl_payouts.specs.declared.reading.Dividend.{Dividend}
use Rattle.pl_payouts.specs.declared.ratio.Skip.{Skip}
use Rattle.pl_payouts.specs.declared.ratio.Skip.TheVariants.{NoSession, NoClose, NotBelow, TooFine}
use Rattle.pl_payouts.specs.Payouts.{numbered}
use Rattle.pl_payouts.specs.Ratios.{effective_of, ratio_in}

-- a line of fields
abbrev pub line : List (List ℕ) → List ℕ
line fields = join_by (λ f. f) (44 ∷ []) fields ++ 10 ∷ []

abbrev pub header_line : List ℕ
header_line =
    line (codes "record" ∷ codes "sid" ∷ codes "effective_date" ∷ codes "num" ∷ codes "den" ∷ codes "reason" ∷ [])

abbrev pub reason_of : Skip → List ℕ
reason_of NoSession = codes "NoSession"
reason_of NoClose = codes "NoClose"
reason_of NotBelow = codes "NotBelow"
reason_of TooFine = codes "TooFine"

-- the numerator and the denominator, or the reason
abbrev pub ratio_fields : Result RawAdjust Skip → List (List ℕ)
ratio_fields (Ok r) = signed_decimal r.num ∷ signed_decimal r.den ∷ [] ∷ []
ratio_fields (Err skip) = [] ∷ [] ∷ reason_of skip ∷ []

abbrev pub payout_line : Payout → Result RawAdjust Skip → List ℕ
payout_line p ratio =
    line (decimal p.number ∷ decimal p.sid ∷ signed_decimal (effective_of p) ∷ ratio_fields ratio)

-- the payouts with their numbers, which begin with n
abbrev pub numbered_from : ℕ → List Dividend → List Payout
numbered_from n [] = []
numbered_from n (d ∷ ds) = numbered n d ∷ numbered_from (n + 1) ds

-- the lines of some payouts, and how many of them are not skipped
abbrev pub lines_of : List ℤ → List AssetRow → List BarRow → List Payout → List ℕ
lines_of days assets bars payouts = flat_map (λ p. payout_line p (ratio_in days assets bars p)) payouts

abbrev pub kept_of : List ℤ → List AssetRow → List BarRow → List Payout → ℕ
kept_of days assets bars payouts = length (filter (λ p. is_ok (ratio_in days assets bars p)) payouts)

-- the header, and a line for each payout of a file
unfoldable pub payouts_text : List ℤ → List AssetRow → List BarRow → List Dividend → List ℕ
payouts_text days assets bars rows = header_line ++ lines_of days assets bars (numbered_from 1 rows)

unfoldable pub payouts_kept : List ℤ → List AssetRow → List BarRow → List Dividend → ℕ
payouts_kept days assets bars rows = kept_of days assets bars (numbered_from 1 rows)

-- The lines of payouts, one after the other.
use Rattle.std.proofs.Common.{◌≡◌, ℕ, suc, ◌+◌, ◌<◌, ◌≤◌, true, false, ℤ, List, [], ◌∷◌, ◌++◌, length, drop, get_or, Option, Some, None, option_map, is_ok, refl, ◌∙◌, ap, subst, arith, add-one, drop-cons}
use Rattle.std.specs.List.{slice_get}
use Rattle.std.proofs.lemmas.Grind.{common_steps}
use Rattle.std.proofs.lemmas.Option.{slice_get_within, get_or_from_slice_get}
use Rattle.pl_spec.specs.declared.AssetRow.{AssetRow}
use Rattle.pl_spec.specs.declared.BarRow.{BarRow}
use Rattle.pl_payouts.specs.declared.Payout.{Payout}
use Rattle.pl_payouts.specs.declared.reading.Dividend.{Dividend}
use Rattle.pl_payouts.specs.Payouts.{AreKnown, numbered}
use Rattle.pl_payouts.specs.Ratios.{ratio_in}
use Rattle.pl_payouts.specs.Texts.{header_line, payout_line, numbered_from, lines_of, kept_of, payouts_text, payouts_kept}
use Rattle.pl_adjust.specs.Revised.{IsKnown}

drop-at : (rows : List Dividend) (i : ℕ) (d : Dividend) → slice_get rows i ≡ Some d → drop i rows ≡ d ∷ drop (i + 1) rows
drop-at rows i d e =
    let inside : i < length rows = slice_get_within rows i d e in
    rw (add-one, drop-cons rows i d inside, get_or_from_slice_get rows i d d e) refl

-- the dividend of a payout
row-of : (rows : List Dividend) (i : ℕ) (p : Payout) → option_map (numbered (i + 1)) (slice_get rows i) ≡ Some p → (d : Dividend) × (slice_get rows i ≡ Some d) × (numbered (i + 1) d ≡ p)
row-of rows i p e = here (slice_get rows i) refl e
  where
    here : (o : Option Dividend) → slice_get rows i ≡ o → option_map (numbered (i + 1)) o ≡ Some p → (d : Dividend) × (slice_get rows i ≡ Some d) × (numbered (i + 1) d ≡ p)
    here None at e = absurd (let bad : None ≡ Some p = e in cc)
    here (Some d) at e = (d, at, (let same : Some (numbered (i + 1) d) ≡ Some p = e in cc))

-- the payouts from place i on
abbrev pub left_of : List Dividend → ℕ → List Payout
left_of rows i = numbered_from (i + 1) (drop i rows)

left-next : (rows : List Dividend) (i : ℕ) (p : Payout) → option_map (numbered (i + 1)) (slice_get rows i) ≡ Some p → left_of rows i ≡ p ∷ left_of rows (i + 1)
left-next rows i p e =
    let it = row-of rows i p e in
    ap (numbered_from (i + 1)) (drop-at rows i it.0 it.1) ∙ ap (λ x. x ∷ left_of rows (i + 1)) it.2

left-none : (rows : List Dividend) (i : ℕ) → length rows ≤ i → left_of rows i ≡ []
left-none rows i h = let none : drop i rows ≡ [] = grind (arith, common_steps) in rw none refl

pub known-at : (assets : List AssetRow) (rows : List Dividend) (i : ℕ) (p : Payout) → AreKnown assets rows → option_map (numbered (i + 1)) (slice_get rows i) ≡ Some p → IsKnown assets p.sid
known-at assets rows i p all e =
    let it = row-of rows i p e in
    let known : IsKnown assets (get_or rows i it.0).sid = all i it.0 (slice_get_within rows i it.0 it.1) in
    let same : (get_or rows i it.0).sid ≡ p.sid = ap (λ (d : Dividend). d.sid) (get_or_from_slice_get rows i it.0 it.0 it.1) ∙ ap (λ (x : Payout). x.sid) it.2 in
    subst (IsKnown assets) same known

module _ (days : List ℤ) (assets : List AssetRow) (bars : List BarRow) (rows : List Dividend) where
  pub text-is : payouts_text days assets bars rows ≡ header_line ++ lines_of days assets bars (left_of rows 0)
  unfolding payouts_text
  text-is = refl

  pub kept-is : payouts_kept days assets bars rows ≡ kept_of days assets bars (left_of rows 0)
  unfolding payouts_kept
  kept-is = refl

  pub lines-next : (i : ℕ) (p : Payout) → option_map (numbered (i + 1)) (slice_get rows i) ≡ Some p
      → lines_of days assets bars (left_of rows i) ≡ payout_line p (ratio_in days assets bars p) ++ lines_of days assets bars (left_of rows (i + 1))
  lines-next i p e = ap (lines_of days assets bars) (left-next rows i p e)

  pub lines-none : (i : ℕ) → length rows ≤ i → lines_of days assets bars (left_of rows i) ≡ []
  lines-none i h = ap (lines_of days assets bars) (left-none rows i h)

  pub kept-ok : (i : ℕ) (p : Payout) → option_map (numbered (i + 1)) (slice_get rows i) ≡ Some p → is_ok (ratio_in days assets bars p) ≡ true
      → kept_of days assets bars (left_of rows i) ≡ suc (kept_of days assets bars (left_of rows (i + 1)))
  kept-ok i p e t = ap (kept_of days assets bars) (left-next rows i p e) ∙ (rw t refl)

  pub kept-err : (i : ℕ) (p : Payout) → option_map (numbered (i + 1)) (slice_get rows i) ≡ Some p → is_ok (ratio_in days assets bars p) ≡ false
      → kept_of days assets bars (left_of rows i) ≡ kept_of days assets bars (left_of rows (i + 1))
  kept-err i p e t = ap (kept_of days assets bars) (left-next rows i p e) ∙ (rw t refl)

  pub kept-none : (i : ℕ) → length rows ≤ i → kept_of days assets bars (left_of rows i) ≡ 0
  kept-none i h = ap (kept_of days assets bars) (left-none rows i h)

-- What a payout comes to, in plain words.
use Rattle.std.specs.Prelude.{◌≡◌, ◌⊎◌, ℕ, ◌<◌, ℤ, pos, ◌<ℤ◌, ◌≤ℤ◌, ◌-ℤ◌, ◌*ℤ◌, List, slice_get, Some, Result, Ok, Err}
use Rattle.std.specs.Int.{◌∣◌}
use Rattle.pl_spec.specs.Rounding.{MISSING, div_round}
use Rattle.pl_spec.specs.declared.AssetRow.{AssetRow}
use Rattle.pl_spec.specs.declared.BarRow.{BarRow}
use Rattle.pl_spec.specs.declared.RawAdjust.{RawAdjust}
use Rattle.pl_adjust.specs.Rules.{IsEffective, HasRatio}
use Rattle.pl_payouts.specs.declared.Payout.{Payout}
use Rattle.pl_payouts.specs.declared.ratio.Skip.{Skip}
use Rattle.pl_payouts.specs.declared.ratio.Skip.TheVariants.{NoSession, NoClose, NotBelow, TooFine}
use Rattle.pl_payouts.specs.Ratios.{raw_close}

-- the session is before the day, and no later one is
pub record IsLastBefore (days : List ℤ) (ex : ℤ) (session : ℕ) : Type 0 where
  pub day : ℤ
  pub there : slice_get days session ≡ Some day
  pub before : day <ℤ ex
  pub last : (t : ℕ) (later : ℤ) → session < t → slice_get days t ≡ Some later → ex ≤ℤ later

-- the raw close on the last session before the ex day
pub record IsCloseBefore (days : List ℤ) (assets : List AssetRow) (bars : List BarRow)
    (p : Payout) (close : ℤ) : Type 0 where
  pub session : ℕ
  pub last : IsLastBefore days p.ex session
  pub raw : raw_close days assets bars p.sid session ≡ close

abbrev pub IsNoClose : ℤ → Type 0
IsNoClose close = (close ≡ MISSING) ⊎ (close ≡ pos 0)

-- a close above the amount
pub record IsAbove (p : Payout) (close : ℤ) : Type 0 where
  pub some : ¬ IsNoClose close
  pub above : p.amount <ℤ close

-- num / den is what is left of the close after the payout, in lowest terms
pub record IsLowest (p : Payout) (close : ℤ) (num den : ℕ) : Type 0 where
  pub exact : pos num *ℤ close ≡ pos den *ℤ (close -ℤ p.amount)
  pub lowest : (d : ℕ) → d ∣ num → d ∣ den → d ≡ 1

-- The row says that fraction from the midnight of the ex day on. It breaks no rule of rows of adjustments,
-- and rounding the close times it gives exactly the close less the amount.
pub record IsRow (p : Payout) (close : ℤ) (r : RawAdjust) : Type 0 where
  pub id : r.id ≡ pos p.number
  pub sid : r.sid ≡ pos p.sid
  pub effective : r.effective ≡ p.ex *ℤ pos 86400
  pub num : ℕ
  pub den : ℕ
  pub num_is : r.num ≡ pos num
  pub den_is : r.den ≡ pos den
  pub ratio : IsLowest p close num den
  pub on_a_day : IsEffective r.effective
  pub in_parts : HasRatio r
  pub rounds : div_round (close *ℤ r.num) den ≡ close -ℤ p.amount

-- a part of the fraction in lowest terms is more than a row of adjustments may have
pub record IsTooFine (p : Payout) (close : ℤ) : Type 0 where
  pub num : ℕ
  pub den : ℕ
  pub ratio : IsLowest p close num den
  pub fine : (1000000000 < num) ⊎ (1000000000 < den)

-- what a payout comes to over a close: its row, or the first reason to skip it
abbrev pub Leaves : Payout → ℤ → Result RawAdjust Skip → Type 0
Leaves p close (Err NoSession) = ⊥
Leaves p close (Err NoClose) = IsNoClose close
Leaves p close (Err NotBelow) = (¬ IsNoClose close) × (close ≤ℤ p.amount)
Leaves p close (Err TooFine) = IsAbove p close × IsTooFine p close
Leaves p close (Ok r) = IsAbove p close × IsRow p close r

-- and over the sessions: no session is before the ex day, or there is one with this close
abbrev pub ComesTo : List ℤ → List AssetRow → List BarRow → Payout → Result RawAdjust Skip → Type 0
ComesTo days assets bars p answer =
    (((session : ℕ) → ¬ IsLastBefore days p.ex session) × (answer ≡ Err NoSession))
    ⊎ ((close : ℤ) × IsCloseBefore days assets bars p close × Leaves p close answer)

-- Worlds whose parts files can hold.
use Rattle.std.specs.Prelude.{◌≡◌, ◌≢◌, ◌⊎◌, ℕ, ◌<◌, ◌≤◌, IsTrue, ℤ, ◌≤ℤ◌, List, [], ◌∷◌, length, All, AllPairs}
use Rattle.pl_spec.specs.declared.AssetRow.{AssetRow}
use Rattle.pl_spec.specs.Dates.{IsDay}
use Rattle.pl_spec.specs.Limits.{most_bars, most_label_bytes, most_labels, most_numbers}
use Rattle.pl_spec.specs.Names.{is_name}
use Rattle.pl_spec.specs.Numbers.{NumberRow}
use Rattle.pl_spec.specs.Rounding.{IsCell}
use Rattle.pl_spec.specs.World.{World, Bar, LabelRow}
use Rattle.pl_lifetimes.specs.Assets.{HasSid}
use Rattle.pl_assets.specs.Labels.{is_printable}
use Rattle.pl_bars.specs.Bars.{is_bar_cell}

-- one of the assets has the sid
abbrev pub IsSidOf : List AssetRow → ℕ → Type 0
IsSidOf assets sid = (col : ℕ) × HasSid assets col sid

-- the two days of an asset, as its file has them
pub record IsLifetime (a : AssetRow) : Type 0 where
  pub start : IsDay a.start
  pub end : IsDay a.end
  pub forward : a.start ≤ℤ a.end

abbrev pub cells_of : Bar → List ℤ
cells_of b = b.open_price ∷ b.high ∷ b.low ∷ b.close ∷ b.volume ∷ []

-- a bar of an asset on a session, whose cells are missing or at least 0
pub record IsBarIn (w : World) (b : Bar) : Type 0 where
  pub asset : IsSidOf w.assets b.sid
  pub session : b.session < length w.days
  pub cells : All (λ v. IsTrue (is_bar_cell v)) (cells_of b)

-- an earlier asset, or the same on an earlier session
abbrev pub IsBefore : Bar → Bar → Type 0
IsBefore a b = (a.sid < b.sid) ⊎ ((a.sid ≡ b.sid) × (a.session < b.session))

pub record AreBarsOf (w : World) : Type 0 where
  pub each : All (IsBarIn w) w.bars
  pub ascend : AllPairs IsBefore w.bars
  pub few : length w.bars ≤ most_bars

-- a label of an asset, under a name of the pipeline language
pub record IsLabelIn (assets : List AssetRow) (r : LabelRow) : Type 0 where
  pub name : IsTrue (is_name r.name)
  pub asset : IsSidOf assets r.sid
  pub start : IsDay r.start
  pub printable : IsTrue (is_printable r.text)
  pub short : length r.text ≤ most_label_bytes

-- of two labels under one name of one asset each starts on a day of its own
abbrev pub StartApart : LabelRow → LabelRow → Type 0
StartApart r q = r.name ≡ q.name → r.sid ≡ q.sid → r.start ≢ q.start

pub record AreLabelsOf (w : World) : Type 0 where
  pub each : All (IsLabelIn w.assets) w.labels
  pub once : AllPairs StartApart w.labels
  pub few : length w.labels ≤ most_labels

-- a number of an asset, under a name of the pipeline language
pub record IsNumberIn (assets : List AssetRow) (r : NumberRow) : Type 0 where
  pub name : IsTrue (is_name r.name)
  pub asset : IsSidOf assets r.sid
  pub known : IsDay r.known
  pub value : IsCell r.value

abbrev pub KnownApart : NumberRow → NumberRow → Type 0
KnownApart r q = r.name ≡ q.name → r.sid ≡ q.sid → r.known ≢ q.known

pub record AreNumbersOf (w : World) : Type 0 where
  pub each : All (IsNumberIn w.assets) w.numbers
  pub once : AllPairs KnownApart w.numbers
  pub few : length w.numbers ≤ most_numbers

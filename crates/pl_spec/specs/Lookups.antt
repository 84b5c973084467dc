-- What the look-ups of a world find.
use Rattle.std.specs.Prelude.{◌≡◌, ◌↔◌, true, ℕ, ℤ, pos, ◌≤ℤ◌, List, Some, None, Contains}
use Rattle.pl_spec.specs.declared.Column.{Column}
use Rattle.pl_spec.specs.Rounding.{MISSING}
use Rattle.pl_spec.specs.World.{World, Bar, LabelRow, day_of, cell_of, bar_cell, nonempty, is_label_of, label_at}

-- no two bars are of one asset and session
abbrev pub BarsOnce : World → Type 0
BarsOnce w = (b c : Bar) → Contains w.bars b → Contains w.bars c → b.sid ≡ c.sid → b.session ≡ c.session → b ≡ c

-- no two label rows are of one name, asset and start
abbrev pub LabelsOnce : World → Type 0
LabelsOnce w = (r q : LabelRow) → Contains w.labels r → Contains w.labels q → r.name ≡ q.name → r.sid ≡ q.sid → r.start ≡ q.start → r ≡ q

-- the raw cell is that of the one bar, and missing where there is none
pub record BarsAreFound : Type 0 where
  pub found : (w : World) → BarsOnce w → (b : Bar) → Contains w.bars b → (c : Column) → bar_cell w b.sid c (pos b.session) ≡ cell_of c b
  pub none : (w : World) (a s : ℕ) → ((b : Bar) → Contains w.bars b → b.sid ≡ a → b.session ≡ s → ⊥) → (c : Column) → bar_cell w a c (pos s) ≡ MISSING

-- The label is that of the one row that started last, and there is none where none has started. A row counts
-- exactly where it has the name, is of the asset and started by the day.
pub record LabelsAreFound : Type 0 where
  pub counts : (name : List ℕ) (a : ℕ) (day : ℤ) (r : LabelRow)
      → (is_label_of name a day r ≡ true) ↔ ((r.name ≡ name) × (r.sid ≡ a) × (r.start ≤ℤ day))
  pub found : (w : World) → LabelsOnce w → (name : List ℕ) (a : ℕ) (d day : ℤ) → day_of w d ≡ Some day
      → (r : LabelRow) → Contains w.labels r → is_label_of name a day r ≡ true
      → ((q : LabelRow) → Contains w.labels q → is_label_of name a day q ≡ true → q.start ≤ℤ r.start)
      → label_at w name a d ≡ nonempty r.text
  pub none : (w : World) (name : List ℕ) (a : ℕ) (d day : ℤ) → day_of w d ≡ Some day
      → ((q : LabelRow) → Contains w.labels q → is_label_of name a day q ≡ true → ⊥)
      → label_at w name a d ≡ None

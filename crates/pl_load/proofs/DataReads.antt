-- What the data of a world means.
use Rattle.std.proofs.Common.{◌≡◌, ◌∙◌, ℤ, List, false, refl, ap}
use Rattle.pl_spec.specs.declared.AssetRow.{AssetRow}
use Rattle.pl_spec.specs.declared.BarRow.{BarRow}
use Rattle.pl_spec.specs.World.{World}
use Rattle.pl_spec.specs.Parts.{ColumnAdjustment, world_of}
use Rattle.pl_numbers.specs.Numbers.{NumberTable}
use Rattle.pl_world.specs.declared.owned.OwnedWorld.{OwnedWorld}
use Rattle.pl_world.specs.Worlds.{owned_world}
use Rattle.pl_words.specs.declared.request.InputFile.TheVariants.{Sessions, Assets, Labels, Numbers, Results, Bars, Revisions}
use Rattle.pl_words.specs.Request.{WorldNames}
use Rattle.pl_load.specs.Contents.{Contents}
use Rattle.pl_load.specs.Held.{days_in, assets_in, assets_held, labels_asked, numbers_asked, results_asked, bars_in, adjustments_asked, revised_asked}
use Rattle.pl_load.specs.declared.loading.WorldRows.{WorldRows}
use Rattle.pl_load.specs.Loads.{IsWorldHeld}
use Rattle.pl_load.specs.Parts.{AreFigures, AreRevised, AreRows}
use Rattle.pl_load.proofs.Joined.{joint, is_file}

-- the bars and the adjustments of a world
pub record AreBarsHeld (q : WorldNames) (days : List ℤ) (assets : List AssetRow) (rows : List BarRow) (changes : List ColumnAdjustment) (held : Contents) : Type 0 where
  pub bars : bars_in days assets (held.file Bars) ≡ rows
  pub adjustments : AreRevised q days assets held changes

-- and the numbers
pub record AreNumbersHeld (q : WorldNames) (days : List ℤ) (assets : List AssetRow) (figures : NumberTable) (rows : List BarRow) (changes : List ColumnAdjustment) (held : Contents) : Type 0 where
  pub numbers : AreFigures q assets held figures
  pub others : AreBarsHeld q days assets rows changes held

-- the world of contents over these sessions
abbrev pub world_over : WorldNames → List ℤ → Contents → World
world_over q days held =
    let assets = assets_held held in
    let labels = labels_asked assets q.labels (held.file Labels) in
    world_of days assets labels.rows labels.texts (bars_in days assets (held.file Bars))
    (revised_asked days assets (adjustments_asked assets q.adjustments held.rows) q.revisions (held.file Revisions)) (results_asked assets (numbers_asked assets q.numbers (held.file Numbers)) q.results (held.file Results)).rows

abbrev pub with_rows : List ℤ → List AssetRow → WorldRows → OwnedWorld
with_rows days assets r = record { sessions = days; assets = assets; labels = r.labels; bars = r.bars; adjustments = r.adjustments; numbers = r.numbers }

pub rows-world : (q : WorldNames) (days : List ℤ) (assets : List AssetRow) (rows : WorldRows) (f r : Contents) → assets_in (f.file Assets) ≡ assets → AreRows q days assets r rows
    → world_over q days (joint (is_file Assets) false f r) ≡ owned_world (with_rows days assets rows)
rows-world q days assets rows f r m h = rw (m, h.labels, h.numbers, h.bars, h.adjustments) refl

pub days-world : (q : WorldNames) (w : OwnedWorld) (f r : Contents) → days_in (f.file Sessions) ≡ w.sessions → world_over q w.sessions r ≡ owned_world w
    → IsWorldHeld q (joint (is_file Sessions) false f r) w
days-world q w f r m h = record { days = m; world = ap (λ days. world_over q days r) m ∙ h }

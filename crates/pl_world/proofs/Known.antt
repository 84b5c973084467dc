-- The parts that are known by a session.
use Rattle.std.proofs.Common.{◌≡◌, ℕ, suc, ◌+◌, ℤ, pos, take, Some, slice_get, ◌∙◌, ap, arith}
use Rattle.pl_spec.specs.AsOf.{as_of, sessions_to, labels_by, bars_before, adjustments_by, column_numbers_by}
use Rattle.pl_laws.proofs.AsOf.{agrees, is-world, parts-of}
use Rattle.pl_laws.proofs.Law.{agree-seen}
use Rattle.pl_laws.proofs.TableLaw.{table_same}
use Rattle.pl_laws.proofs.Texts.{text_same}
use Rattle.pl_pipeline.specs.Table.{table}
use Rattle.pl_pipeline.specs.Text.{text}
use Rattle.pl_world.specs.declared.owned.OwnedWorld.{OwnedWorld}
use Rattle.pl_world.specs.declared.world.World.{World}
use Rattle.pl_world.specs.Known.{IsKnown, ShowsSameUpTo}
use Rattle.pl_world.specs.Worlds.{IsOwnedMade, PartsMakeAWorld, owned_world, world_of}

-- what each cut gives
pub record AreCut (w : World) (d : ℕ) (day : ℤ) (v : OwnedWorld) : Type 0 where
  pub is_day : slice_get w.sessions.now d ≡ Some day
  pub sessions : v.sessions ≡ take (d + 1) w.sessions.now
  pub assets : v.assets ≡ w.assets.now
  pub labels : v.labels.rows ≡ labels_by day w.labels.now.rows
  pub texts : v.labels.texts ≡ w.labels.now.texts
  pub bars : v.bars ≡ bars_before d w.bars.now
  pub adjustments : v.adjustments ≡ adjustments_by day w.adjustments.now
  pub numbers : v.numbers.rows ≡ column_numbers_by day w.numbers.now.rows

module _ (w : World) (d : ℕ) (day : ℤ) (v : OwnedWorld) (are : AreCut w d day v) (made : PartsMakeAWorld w) where
  sessions_are : v.sessions ≡ sessions_to d w.sessions.now
  sessions_are = let next : d + 1 ≡ suc d = omega arith in are.sessions ∙ ap (λ n. take n w.sessions.now) next

  world_is : owned_world v ≡ as_of (world_of w) d day
  world_is =
      rw (sessions_are, are.assets, are.labels, are.texts, are.bars, are.adjustments, are.numbers)
      (parts-of w.sessions.now w.assets.now w.labels.now.rows w.labels.now.texts w.bars.now w.adjustments.now w.numbers.now.rows d day).world

  pub is_known : IsKnown w d v
  is_known =
      record {
        day = day;
        is_day = are.is_day;
        sessions = sessions_are;
        assets = are.assets;
        labels = are.labels;
        texts = are.texts;
        bars = are.bars;
        adjustments = are.adjustments;
        numbers = are.numbers;
        world = world_is;
        agrees = rw world_is (agrees (world_of w) d day made.world are.is_day);
      }

  pub is_owned : IsOwnedMade v
  is_owned =
      let parts = (parts-of w.sessions.now w.assets.now w.labels.now.rows w.labels.now.texts w.bars.now w.adjustments.now w.numbers.now.rows d day).parts made.parts are.is_day in
      rw (sessions_are, are.assets, are.labels, are.bars, are.adjustments, are.numbers)
      record { labels_in = parts.labels_in; bars_in = parts.bars_in; sessions_in = parts.sessions_in; adjustments_in = parts.adjustments_in; numbers_in = parts.numbers_in }

  pub shows_same : ShowsSameUpTo w d v
  shows_same p from to h =
      let known = agrees (world_of w) d day made.world are.is_day in
      let cut = is-world (world_of w) d day made.world in
      record {
        rows = ap (λ x. table x p from to) world_is ∙ table_same (as_of (world_of w) d day) (world_of w) (pos d) day cut made.world (agree-seen (as_of (world_of w) d day) (world_of w) (pos d) day known) p from to h;
        written = λ format. ap (λ x. text x p format (table x p from to)) world_is
            ∙ text_same (as_of (world_of w) d day) (world_of w) (pos d) day known p format cut made.world from to h;
        codes = are.texts;
      }

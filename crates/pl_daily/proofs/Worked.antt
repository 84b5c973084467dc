-- What a day's bars leave as it is, and the steps of a day by the windows over bars.
use Rattle.std.proofs.Common.{◌≡◌, ℕ, List, length, subst, refl, arith}
use Rattle.pl_spec.specs.declared.Column.{Column}
use Rattle.pl_spec.specs.declared.Column.TheVariants.{OpenPrice, High, Low, Close, Volume}
use Rattle.pl_pipeline.specs.Table.{Pipeline}
use Rattle.pl_daily.specs.declared.columns.BarRings.{BarRings}
use Rattle.pl_daily.specs.declared.day.DayEvent.{DayEvent}
use Rattle.pl_daily.specs.Columns.{AreBarRings, rings_of, day_steps}
use Rattle.pl_daily.specs.declared.term_day.TermCells.{TermCells}
use Rattle.pl_daily.specs.Capacities.{column_window}
use Rattle.pl_daily.specs.Daily.{day_work}
use Rattle.pl_daily.specs.Terms.{AreTerms}

-- rings of the same room serve the same terms
pub terms_stay : (assets : ℕ) (p : Pipeline) (old new : BarRings) (terms : List TermCells) → AreBarRings (length old.row.items) new → ((c : Column) → (rings_of new c).capacity ≡ (rings_of old c).capacity)
    → AreTerms assets p old terms → AreTerms assets p new terms
terms_stay assets p old new terms are room have = record {
  many = have.many;
  room = record {
    full = have.room.full;
    values = have.room.values;
    masks = have.room.masks;
    bars = λ k n place c used at input. let fits = have.room.bars k n place c used at input in let same = room c in omega (arith, fits, same);
    bar_rings = subst (λ n. AreBarRings n new) have.room.bar_rings.row are;
  };
  deep = have.deep;
}

-- the steps over the rings are those over the windows
pub work_is : (p : Pipeline) (b : BarRings) (fed : ℕ) (es : List DayEvent) → ((c : Column) → (rings_of b c).capacity ≡ column_window p c) → day_steps b fed es ≡ day_work p fed es
work_is p b fed es is = rw (is OpenPrice, is High, is Low, is Close, is Volume) refl

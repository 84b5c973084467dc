-- A day part by part: first the rings of bars, then the terms, then the session.
use Rattle.std.specs.Prelude.{◌≡◌, ℕ, ℤ, pos, ◌<ℤ◌, Bool, List, [], ◌∷◌, ◌++◌, length, map, AllPairs, Option}
use Rattle.std.specs.Int.RustNames.{int_le}
use Rattle.pl_pipeline.specs.Lows.{least_reach}
use Rattle.pl_pipeline.specs.Table.{Pipeline}
use Rattle.pl_spec.specs.Parts.{ColumnAdjustment}
use Rattle.pl_terms.specs.Uses.{outputs}
use Rattle.pl_daily.specs.Columns.{HoldColumns}
use Rattle.pl_daily.specs.Days.{FedDay, last_day, IsStart, AreFed}
use Rattle.pl_daily.specs.declared.starts.StartCells.{StartCells}
use Rattle.pl_daily.specs.Daily.{Held, last_of, start_in}
use Rattle.pl_daily.specs.Reaches.{AreFirst}
use Rattle.pl_daily.specs.Terms.{HoldStarts, HoldTerms}

-- the rings of bars have the day after the days, and the terms do not have it yet
pub record IsMidway (h : Held) (day : ℤ) (events : List ColumnAdjustment) (next : FedDay) (days : List FedDay) : Type 0 where
  pub start : IsStart (start_in h)
  pub are_fed : AreFed (start_in h) (next ∷ days)
  pub is : next.day ≡ day
  pub brought : next.events ≡ events
  pub last : last_day days ≡ last_of h
  pub count : length days ≡ h.fed
  pub bars : HoldColumns (start_in h) (next ∷ days) h.bars
  pub terms : HoldTerms (start_in h) days h.pipeline h.terms
  pub starts : HoldStarts (start_in h) days h.pipeline h.starts

-- then the terms have it too
abbrev pub TakeTerms : ℤ → List ColumnAdjustment → Held → Held → Type 0
TakeTerms day events old new =
    (next : FedDay) (days : List FedDay) → IsMidway old day events next days
    → HoldTerms (start_in old) (next ∷ days) old.pipeline new.terms × HoldStarts (start_in old) (next ∷ days) old.pipeline new.starts

abbrev pub sessions_of : List StartCells → List ℕ
sessions_of starts = map (λ s. s.session) starts

-- the answer is whether the outputs reach back to no session below 0 on the last of the days
abbrev pub Answers : Pipeline → List (Option ℕ) → Bool → Type 0
Answers p since answer =
    (earlier : List ℤ) (day : ℤ) → AllPairs (λ a b. a <ℤ b) (earlier ++ day ∷ []) → AreFirst (earlier ++ day ∷ []) p since
    → answer ≡ int_le (pos 0) (least_reach (earlier ++ day ∷ []) p.graph (outputs p) (pos (length earlier)))

-- The laws of values of fed days.
use Rattle.std.specs.Prelude.{◌≡◌, ℕ, List, ◌∷◌}
use Rattle.pl_pipeline.specs.Term.{Term}
use Rattle.pl_pipeline.specs.Value.{value}
use Rattle.pl_spec.specs.Window.{before}
use Rattle.pl_daily.specs.Days.{Start, FedDay, fed, IsStart, AreFed, last_session}

-- what a term was worth it is worth a day later
abbrev pub ValuesStay : Type 0
ValuesStay = (g : Start) (next : FedDay) (days : List FedDay) → IsStart g → AreFed g (next ∷ days) → (names : List (List ℕ)) (t : Term) (a n : ℕ)
    → value (fed g (next ∷ days)) names t a (before (last_session days) n) ≡ value (fed g days) names t a (before (last_session days) n)

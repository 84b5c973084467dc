-- The work of the commands, part by part.
use Rattle.std.proofs.Common.{◌≡◌, ℕ, ℤ, Bool, true, false, not, List, [], ◌∷◌, ◌++◌, Option, None, Result, Ok, Err, IfOk, refl, sym, ap, ap₂}
use Rattle.pl_spec.specs.declared.AssetRow.{AssetRow}
use Rattle.pl_pipeline.specs.Table.{Pipeline}
use Rattle.pl_spec.specs.World.{World}
use Rattle.pl_world.specs.declared.owned.OwnedWorld.{OwnedWorld}
use Rattle.pl_planner.specs.Plans.{Planned, IsPlanOf}
use Rattle.pl_words.specs.declared.request.InputFile.{InputFile}
use Rattle.pl_words.specs.declared.request.InputFile.TheVariants as file
use Rattle.pl_words.specs.Request.{Dated, RunRequest, PlanRequest, ExplainRequest, VerifyRequest, WindowsRequest, WorldNames, numbers_named}
use Rattle.pl_load.specs.declared.fault.Fault.{Fault}
use Rattle.pl_load.specs.Contents.{Contents}
use Rattle.pl_load.specs.Held.{pipeline_in, days_in, assets_in, days_held, assets_held}
use Rattle.pl_load.specs.Planning.{HasRows}
use Rattle.pl_load.specs.Cells.{cell_steps}
use Rattle.pl_load.specs.Range.{dates_steps, first_window_steps, plan_steps, range_steps, windows_steps, index_of}
use Rattle.pl_load.specs.Steps.{WorkStep}
use Rattle.pl_load.specs.Work.{read_step, sessions_step, bars_rule, assets_rule, payouts_rule, derivation_step, pipeline_steps, evaluated_steps, figures_steps, revised_steps, rows_steps, data_steps, run_work, plan_work, payouts_work, cell_work, verify_work, windows_work}
use Rattle.pl_load.specs.Loads.{IsWorldHeld}
use Rattle.pl_load.specs.Parts.{world_steps, plan_steps_for}
use Rattle.pl_load.proofs.Joined.{joint, is_file}

-- all that was read before
abbrev pub whole : InputFile → Bool
whole f = true

abbrev pub but_for : InputFile → InputFile → Bool
but_for f g = not (is_file f g)

-- ---- the data of a world

-- after the sessions, and after the assets
abbrev pub after_days : WorldNames → List ℤ → Contents → List WorkStep
after_days q days held = read_step file.Assets assets_rule (held.file file.Assets) ∷ rows_steps days (assets_held held) held q

pub days-first : (q : WorldNames) (days : List ℤ) (f r : Contents) → days_in (f.file file.Sessions) ≡ days
    → data_steps (joint (is_file file.Sessions) false f r) q ≡ sessions_step (f.file file.Sessions) ∷ after_days q days r
unfolding data_steps
days-first q days f r m = ap (λ d. sessions_step (f.file file.Sessions) ∷ after_days q d r) m

pub assets-first : (q : WorldNames) (days : List ℤ) (assets : List AssetRow) (f r : Contents) → assets_in (f.file file.Assets) ≡ assets
    → after_days q days (joint (is_file file.Assets) false f r) ≡ read_step file.Assets assets_rule (f.file file.Assets) ∷ rows_steps days assets r q
assets-first q days assets f r m = ap (λ a. read_step file.Assets assets_rule (f.file file.Assets) ∷ rows_steps days a r q) m

-- both files of numbers
abbrev pub is_figures : InputFile → Bool
is_figures file.Numbers = true
is_figures file.Results = true
is_figures f = false

-- after the numbers, and after the labels
abbrev pub after_numbers : WorldNames → List ℤ → List AssetRow → Contents → List WorkStep
after_numbers q days assets held = read_step file.Bars (bars_rule days assets) (held.file file.Bars) ∷ revised_steps days assets held q

abbrev pub after_labels : WorldNames → List ℤ → List AssetRow → Contents → List WorkStep
after_labels q days assets held = figures_steps assets held q ++ after_numbers q days assets held

-- ---- a range

pub range-is : (p : Pipeline) (days : List ℤ) (from to : Dated) (as_of : Option Dated) (a b : ℕ) → a ≡ index_of days from.day → b ≡ index_of days to.day
    → range_steps p days from to as_of ≡ dates_steps from to as_of days ++ plan_steps p days a b
range-is p days from to as_of a b e f = ap₂ (λ x y. dates_steps from to as_of days ++ plan_steps p days x y) (sym e) (sym f)

-- ---- a run and a plan

pub run-first : (q : RunRequest) (p : Pipeline) (f r : Contents) → pipeline_in (f.file file.Pipeline) ≡ p
    → run_work (joint (is_file file.Pipeline) false f r) q ≡ evaluated_steps (f.file file.Pipeline) (numbers_named q.world) ++ world_steps q p r
unfolding data_steps
run-first q p f r m = ap (λ x. evaluated_steps (f.file file.Pipeline) (numbers_named q.world) ++ world_steps q x r) m

pub world-first : (q : RunRequest) (p : Pipeline) (w : OwnedWorld) (f r : Contents) → IsWorldHeld q.world f w
    → world_steps q p (joint whole true f r) ≡ data_steps f q.world ++ range_steps p w.sessions q.from q.to q.options.as_of
unfolding data_steps
world-first q p w f r m = ap (λ days. data_steps f q.world ++ range_steps p days q.from q.to q.options.as_of) m.days

pub plan-first : (q : PlanRequest) (p : Pipeline) (f r : Contents) → pipeline_in (f.file file.Pipeline) ≡ p
    → plan_work (joint (is_file file.Pipeline) false f r) q ≡ pipeline_steps (f.file file.Pipeline) ++ plan_steps_for q p r
plan-first q p f r m = ap (λ x. pipeline_steps (f.file file.Pipeline) ++ plan_steps_for q x r) m

pub plan-days : (q : PlanRequest) (p : Pipeline) (days : List ℤ) (f r : Contents) → days_in (f.file file.Sessions) ≡ days
    → plan_steps_for q p (joint (is_file file.Sessions) false f r) ≡ sessions_step (f.file file.Sessions) ∷ range_steps p days q.from q.to None
plan-days q p days f r m = ap (λ d. sessions_step (f.file file.Sessions) ∷ range_steps p d q.from q.to None) m

-- what is known of a plan, together
pub record IsPlanMade (days : List ℤ) (p : Pipeline) (first : ℕ) (made : Planned) : Type 0 where
  pub plan : IsPlanOf days p made
  pub rows : HasRows days p made
  pub from : made.from ≡ first

pub are-planned : (days : List ℤ) (p : Pipeline) (from : ℕ) (r : Result Planned Fault) → IfOk r (IsPlanOf days p) → IfOk r (HasRows days p) → IfOk r (λ plan. plan.from ≡ from)
    → IfOk r (IsPlanMade days p from)
are-planned days p from (Ok plan) a b c = record { plan = a; rows = b; from = c }
are-planned days p from (Err f) a b c = tt

-- ---- a cell and a derivation

abbrev pub cell_rest : ExplainRequest → Pipeline → Contents → List WorkStep
cell_rest q p held = data_steps held q.world ++ cell_steps p (days_held held) (assets_held held) q

pub cell-first : (q : ExplainRequest) (p : Pipeline) (f r : Contents) → pipeline_in (f.file file.Pipeline) ≡ p
    → cell_work (joint (is_file file.Pipeline) false f r) q ≡ evaluated_steps (f.file file.Pipeline) (numbers_named q.world) ++ cell_rest q p r
unfolding data_steps
cell-first q p f r m = ap (λ x. evaluated_steps (f.file file.Pipeline) (numbers_named q.world) ++ cell_rest q x r) m

pub cell-world : (q : ExplainRequest) (p : Pipeline) (w : OwnedWorld) (f r : Contents) → IsWorldHeld q.world f w
    → cell_rest q p (joint whole true f r) ≡ data_steps f q.world ++ cell_steps p w.sessions w.assets q
unfolding data_steps
cell-world q p w f r m =
    ap₂ (λ days assets. data_steps f q.world ++ cell_steps p days assets q) m.days (ap (λ (x : World). x.assets) m.world)

abbrev pub verify_rest : VerifyRequest → Contents → List WorkStep
verify_rest q held = data_steps held q.world ++ derivation_step (held.file file.Derivation) ∷ []

pub verify-first : (q : VerifyRequest) (f r : Contents)
    → verify_work (joint (is_file file.Pipeline) false f r) q ≡ evaluated_steps (f.file file.Pipeline) (numbers_named q.world) ++ verify_rest q r
unfolding data_steps
verify-first q f r = refl

pub verify-world : (q : VerifyRequest) (f r : Contents)
    → verify_rest q (joint (but_for file.Derivation) true f r) ≡ data_steps f q.world ++ derivation_step (r.file file.Derivation) ∷ []
unfolding data_steps
verify-world q f r = refl

-- ---- windows

pub windows-world : (q : WindowsRequest) (w : OwnedWorld) (f r : Contents) → IsWorldHeld q.world f w
    → windows_work (joint whole true f r) q ≡ data_steps f q.world ++ windows_steps w.sessions q.from q.to q.window
unfolding data_steps
windows-world q w f r m = ap (λ days. data_steps f q.world ++ windows_steps days q.from q.to q.window) m.days

pub windows-dates : (days : List ℤ) (from to : Dated) (size a : ℕ) → a ≡ index_of days from.day
    → windows_steps days from to size ≡ dates_steps from to None days ++ first_window_steps size a
windows-dates days from to size a e = ap (λ x. dates_steps from to None days ++ first_window_steps size x) (sym e)

-- ---- payouts

abbrev pub paid_after_days : List ℤ → Contents → List WorkStep
paid_after_days days held =
    read_step file.Assets assets_rule (held.file file.Assets) ∷ read_step file.Bars (bars_rule days (assets_held held)) (held.file file.Bars)
    ∷ read_step file.Payouts (payouts_rule (assets_held held)) (held.file file.Payouts) ∷ []

abbrev pub paid_after_assets : List ℤ → List AssetRow → Contents → List WorkStep
paid_after_assets days assets held =
    read_step file.Bars (bars_rule days assets) (held.file file.Bars) ∷ read_step file.Payouts (payouts_rule assets) (held.file file.Payouts) ∷ []

pub paid-days : (days : List ℤ) (f r : Contents) → days_in (f.file file.Sessions) ≡ days
    → payouts_work (joint (is_file file.Sessions) false f r) ≡ sessions_step (f.file file.Sessions) ∷ paid_after_days days r
paid-days days f r m = ap (λ d. sessions_step (f.file file.Sessions) ∷ paid_after_days d r) m

pub paid-assets : (days : List ℤ) (assets : List AssetRow) (f r : Contents) → assets_in (f.file file.Assets) ≡ assets
    → paid_after_days days (joint (is_file file.Assets) false f r) ≡ read_step file.Assets assets_rule (f.file file.Assets) ∷ paid_after_assets days assets r
paid-assets days assets f r m = ap (λ a. read_step file.Assets assets_rule (f.file file.Assets) ∷ paid_after_assets days a r) m

-- The numbers of a table are those of its report.
use Rattle.std.proofs.Common.{◌≡◌, ◌∙◌, ℕ, Bool, true, cond, [], Option, Some, refl, sym, ap}
use Rattle.std.specs.Int.RustNames.{unsigned_abs}
use Rattle.pl_spec.specs.World.{World}
use Rattle.pl_planner.specs.Columns.{most_held}
use Rattle.pl_pipeline.specs.Table.{Pipeline, table, sum_of_cells}
use Rattle.pl_terms.specs.Uses.{outputs}
use Rattle.pl_planner.specs.Plans.{Planned, IsPlanOf}
use Rattle.pl_runner.specs.declared.run.RunReport.{RunReport}
use Rattle.pl_runner.specs.Runs.{IsReport, run_steps}
use Rattle.pl_world.specs.Present.{has_numbers, present_numbers}
use Rattle.pl_table.specs.Numbers.{stats_line}
use Rattle.pl_cli.specs.Texts.{table_stats, present_in}

line-is : (w : World) (p : Pipeline) (plan : Planned) (size most : ℕ) (report : RunReport) (present : Option ℕ) → IsReport w p plan size report
    → most ≡ most_held p.graph (outputs p)
    → stats_line report.rows report.cells report.peak most report.applied present ≡ table_stats w p (table w p plan.from plan.to) (run_steps w p plan size) present
line-is w p plan size most report present r e =
    let sum : report.cells ≡ unsigned_abs (sum_of_cells w.texts (table w p plan.from plan.to)) = ap unsigned_abs r.cells in
    rw (r.rows, sum, r.peak, e, r.applied) refl

pub stats-are : (asked : Bool) (w : World) (p : Pipeline) (plan : Planned) (size most : ℕ) (report : RunReport) (present : Option ℕ) → IsReport w p plan size report
    → IsPlanOf w.days p plan → most ≡ plan.bound
    → cond asked (stats_line report.rows report.cells report.peak most report.applied present) []
    ≡ cond asked (table_stats w p (table w p plan.from plan.to) (run_steps w p plan size) present) []
stats-are asked w p plan size most report present r is e =
    ap (λ l. cond asked l []) (line-is w p plan size most report present r (e ∙ is.held))

-- the count, where there are numbers
pub present-some : (w : World) (p : Pipeline) (from to count : ℕ) (some : Bool) → some ≡ has_numbers p → some ≡ true → count ≡ present_numbers w p from to
    → Some count ≡ present_in w p from to
present-some w p from to count some e t h =
    let uses : has_numbers p ≡ true = sym e ∙ t in
    rw (uses, h) refl

-- the line, where it is asked for
pub told-when : (asked : Bool) (rows sum peak most bound applied : ℕ) (present known : Option ℕ) → asked ≡ true → most ≡ bound → present ≡ known
    → stats_line rows sum peak most applied present ≡ cond asked (stats_line rows sum peak bound applied known) []
told-when asked rows sum peak most bound applied present known t e h = rw (t, e, h) refl

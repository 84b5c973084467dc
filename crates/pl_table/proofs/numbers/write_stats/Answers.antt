use Rattle.std.proofs.Common.{[], ◌∷◌, codes}
use Rattle.pl_outside.proofs.Pieces.{writes-over}
use Rattle.pl_table.specs.Numbers.{present_text}
use Rattle.pl_table.proofs.Pieces.{pieces-are}
use Rattle.pl_table.proofs.numbers.write_stats.Goals as goal

pub returns : goal.returns
returns g c =
    rw (← c.format-rows.ensures.text, ← c.format-cells.ensures.text, ← c.format-peak.ensures.text, ← c.format-bound.ensures.text, ← c.format-steps.ensures.text)
    (writes-over (pieces-are (codes "rows=") c.format-rows.result.now (codes " cells=") c.format-cells.result.now (codes " peak=") c.format-peak.result.now
    (codes " bound=") c.format-bound.result.now (codes " applied=") c.format-steps.result.now c.present_pieces.result.0.now c.present_pieces.result.1.now
    (10 ∷ []) (present_text c.args.present) c.present_pieces.ensures) c.write_pieces.ensures)

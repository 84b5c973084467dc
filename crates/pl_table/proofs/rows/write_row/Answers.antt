use Rattle.std.proofs.Common.{rules, ◌∙◌, ap, arith, length, ℕ, FitsSigned, w32, ◌++◌}
use Rattle.std.proofs.lemmas.Int.{to_z-of_z}
use Rattle.pl_outside.proofs.Pieces.{writes-over}
use Rattle.pl_cross.specs.Arrays.{sid_in}
use Rattle.pl_spec.specs.Lines.{sid_field}
use Rattle.pl_table.specs.Fields.{sid_part}
use Rattle.pl_table.specs.Outcomes.{pipeline_in, sids_in, world_in}
use Rattle.pl_table.proofs.RowLines.{put-together}
use Rattle.pl_table.proofs.rows.write_row.Goals as goal

pub returns-clause-writes : goal.returns-clause-writes
returns-clause-writes g c =
    let o = c.args.table.now.outcome.now in
    let fits : FitsSigned w32 c.day.result = search rules in
    let date = simp to_z-of_z at c.put_date.ensures.text in
    let text = c.put_sid.ensures.text ∙ ap (λ (n : ℕ). c.put_date.new.line ++ sid_part o.asked.format (sid_field o.asked.format n)) c.sid_of.ensures in
    writes-over (c.as_slice.ensures
    ∙ put-together (world_in o) (pipeline_in o) o.asked.format (sid_in (sids_in o) c.args.place) c.args.session c.day.result _ _ _ _ _ c.day.ensures.exact c.clear.ensures date text c.put_values-sum.ensures.text c.put_end.ensures)
    c.write_bytes.ensures.writes

pub put_date-requires-clause-room : goal.put_date-requires-clause-room
put_date-requires-clause-room g c = let none = ap length c.clear.ensures in omega (arith, none)

pub put_sid-requires : goal.put_sid-requires
put_sid-requires g c = let none = ap length c.clear.ensures in omega (arith, none, c.put_date.ensures.within)

pub put_values-sum-requires-clause-cells : goal.put_values-sum-requires-clause-cells
put_values-sum-requires-clause-cells g c = record { outcome = c.requires.table.outcome; writings = c.requires.table.writings; cells = c.requires.values }

pub put_values-sum-requires-clause-room : goal.put_values-sum-requires-clause-room
put_values-sum-requires-clause-room g c = let none = ap length c.clear.ensures in omega (arith, none, c.put_date.ensures.within, c.put_sid.ensures.within)

pub returns-clause-pieces : goal.returns-clause-pieces
returns-clause-pieces g c = c.write_bytes.ensures.pieces

use Rattle.std.proofs.Common.{◌≤◌, ◌<◌, ap, refl, sym, length, pos, arith}
use Rattle.std.proofs.lemmas.List.{length-map}
use Rattle.std.proofs.lemmas.Result.{err_from_is_err_and}
use Rattle.pl_outside.proofs.Pieces.{writing-start, writing-more, writing-end, writing-stop, writing-over, writes-over, written-none, written-more}
use Rattle.pl_spec.specs.Parts.{sid_at}
use Rattle.pl_pipeline.specs.Table.{table_row}
use Rattle.pl_table.specs.Outcomes.{lines}
use Rattle.pl_runner.specs.Sessions.{pipeline_in, sids_in, world_in}
use Rattle.pl_runner.proofs.Values.{left_at, lines_of, lines-end, lines-next, piece_at}
use Rattle.pl_runner.proofs.Sessions.{rows-are}
use Rattle.pl_runner.proofs.rows.write_rows.Goals as goal

pub loop-i-init : goal.loop-i-init
loop-i-init g c =
    let f = c.args.fed.now in
    record {
      pieces = written-none refl;
      writing = writing-start g.O.Sink.taken g.O.Sink.faults g.O.Sink.sound g.O.Sink.room c.args.out.now (lines_of (world_in f) (pipeline_in f) f.asked.format f.session (sids_in f));
    }

pub returns-in_err-write_row-clause-writes : goal.returns-in_err-write_row-clause-writes
returns-in_err-write_row-clause-writes g c =
    let f = c.args.fed.now in let w = world_in f in let p = pipeline_in f in let i = c.loop-i.i in
    let inside : i < length (sids_in f) = omega (arith, c.loop-i-test.true, ap length c.kept-i-end.ensures.is, length-map f.daily.now.kept (sid_at f.asked.world.assets.now)) in
    let q = err_from_is_err_and c.from_residual.result c.from_residual.ensures.1 in
    rw (q.1, q.2) (writes-over (ap (lines w p f.asked.format) (sym (rows-are f c.requires)))
    (writing-stop (piece_at w p f.asked.format f.session (sids_in f) i) (left_at w p f.asked.format f.session (sids_in f) i) (writing-over (lines-next w p f.asked.format f.session (sids_in f) i inside) c.loop-i.invariant.writing) c.in_err-write_row.ensures.writes))

pub loop-i-preserved : goal.loop-i-preserved
loop-i-preserved g c =
    let f = c.args.fed.now in let w = world_in f in let p = pipeline_in f in let i = c.loop-i.i in
    let inside : i < length (sids_in f) = omega (arith, c.loop-i-test.true, ap length c.kept-i-end.ensures.is, length-map f.daily.now.kept (sid_at f.asked.world.assets.now)) in
    record {
      writing = writing-more (piece_at w p f.asked.format f.session (sids_in f) i) (left_at w p f.asked.format f.session (sids_in f) i) (writing-over (lines-next w p f.asked.format f.session (sids_in f) i inside) c.loop-i.invariant.writing) c.in_ok-write_row.ensures.writes;
      pieces = written-more c.loop-i.invariant.pieces c.in_ok-write_row.ensures.pieces (omega arith);
    }

pub returns-clause-writes : goal.returns-clause-writes
returns-clause-writes g c =
    let f = c.args.fed.now in let w = world_in f in let p = pipeline_in f in
    let done : length (sids_in f) ≤ c.loop-i.i = omega (arith, c.loop-i-test.false, ap length c.kept-i-end.ensures.is, length-map f.daily.now.kept (sid_at f.asked.world.assets.now)) in
    writes-over (ap (lines w p f.asked.format) (sym (rows-are f c.requires)))
    (writing-end (writing-over (lines-end w p f.asked.format f.session (sids_in f) c.loop-i.i done) c.loop-i.invariant.writing))

pub returns-clause-pieces : goal.returns-clause-pieces
returns-clause-pieces g c =
    let f = c.args.fed.now in
    let many = length-map (sids_in f) (table_row (world_in f) (pipeline_in f) (pos f.session)) in
    written-more (written-none refl) c.loop-i.invariant.pieces
    (omega (arith, c.loop-i-test.false, c.loop-i.auto.i-end, ap length c.kept-i-end.ensures.is, length-map f.daily.now.kept (sid_at f.asked.world.assets.now), ap length (rows-are f c.requires), many))

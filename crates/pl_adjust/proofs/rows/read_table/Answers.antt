use Rattle.std.proofs.Common.{◌∙◌, sym, get_or, map, arith}
use Rattle.pl_adjust.specs.Rows.{row_of}
use Rattle.pl_adjust.specs.Walk.{kind_of}
use Rattle.pl_adjust.proofs.Walks.{blank, fault_more, fault_stops, fault_ends, row_known, row_unknown, row_parts, rows_end, tells_then}
use Rattle.pl_adjust.proofs.rows.read_table.Goals as goal
use Rattle.pl_adjust.proofs.rows.read_table.Goals.{in-Some+in_ok-push, in_default}

pub returns-in_err-adjust-clause-fault : goal.returns-in_err-adjust-clause-fault
returns-in_err-adjust-clause-fault c =
    tells_then _ _ c.from_residual.ensures.1 c.in_err-adjust.ensures.fault (λ f told.
    sym c.loop-i.invariant.fault
    ∙ fault_stops c.args.before c.loop-i.i c.args.table c.args.raw.now blank f c.loop-i-test.true told)

pub loop-i-preserved : goal.loop-i-preserved
loop-i-preserved c =
    let raw = c.args.raw.now in
    let i = c.loop-i.i in
    let assets = c.args.assets.now in
    let kind = kind_of c.args.table in
    let fault = fault_more c.args.before i c.args.table raw blank c.loop-i-test.true c.in_ok-adjust.ensures.fault ∙ c.loop-i.invariant.fault in
    elim c.match-col_of.branch [
      | in-Some+in_ok-push w ↦
          let known = w.in-Some.ensures.some in
          record {
            rows = rw (w.rows-is, w.in_ok-push.ensures.items)
                (row_known assets kind raw i blank c.loop-i.rows.items _ c.loop-i-test.true known.0 (row_parts assets kind (get_or raw i blank) w.in-Some.col c.in_ok-adjust.adjust known.1 c.in_ok-adjust.ensures.adjust) ∙ c.loop-i.invariant.rows);
            fault = fault;
          }
      | in_default w ↦
          record {
            rows = rw w.rows-is (row_unknown assets kind raw i blank c.loop-i.rows.items c.loop-i-test.true w.in_default.ensures.none ∙ c.loop-i.invariant.rows);
            fault = fault;
          }
    ]

pub returns-clause-fault : goal.returns-clause-fault
returns-clause-fault c =
    sym c.loop-i.invariant.fault ∙ fault_ends c.args.before c.loop-i.i c.args.table c.args.raw.now c.loop-i-test.false

pub returns-clause-rows : goal.returns-clause-rows
returns-clause-rows c =
    rows_end c.args.assets.now (kind_of c.args.table) c.args.raw.now c.loop-i.i (map row_of c.loop-i.rows.items) _ c.loop-i-test.false c.loop-i.invariant.rows

pub overflow_add-before : goal.overflow_add-before
overflow_add-before c = omega (arith, c.requires, c.loop-i-test.true)

use Rattle.std.proofs.Common.{arith}
use Rattle.sqlite.specs.State.{HasCleanDisk}
use Rattle.sqlite.specs.Held.{state}
use Rattle.pl_outside.specs.declared.keeper.Table.TheVariants.{Splits, Mergers}
use Rattle.pl_adjust_sql.proofs.Creating.{each}
use Rattle.pl_adjust_sql.proofs.create.create_tables.Goals as goal

pub returns : goal.returns
returns g c = record {
  made = λ clean.
      let two : HasCleanDisk (state g.S.Store c.create_table-2.new.connection) = (let later = c.create_table-3.ensures.clean in omega arith) in
      let one : HasCleanDisk (state g.S.Store c.create_table.new.connection) = (let later = c.create_table-2.ensures.clean in omega arith) in
      let splits = c.in_ok-create_table.ensures.made one in
      let mergers = c.in_ok-create_table-2.ensures.made two in
      let splits_then = c.in_ok-create_table-2.ensures.kept two Splits _ _ splits.1 in
      each _ (splits.0, c.in_ok-create_table-3.ensures.kept clean Splits _ _ splits_then) (mergers.0, c.in_ok-create_table-3.ensures.kept clean Mergers _ _ mergers.1) (c.in_ok-create_table-3.ensures.made clean);
}

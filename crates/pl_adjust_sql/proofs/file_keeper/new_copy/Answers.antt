use Rattle.std.proofs.Common.{subst}
use Rattle.pl_adjust_sql.specs.Beside.{IsCopyOf}
use Rattle.pl_adjust_sql.proofs.file_keeper.new_copy.Goals as goal

pub returns-clause-opened : goal.returns-clause-opened
returns-clause-opened c = record {
  files = c.in_ok-files.files;
  read = subst (λ before. IsCopyOf before c.copied_files.new.read.files c.args.name.now c.in_ok-files.files) c.new-read.ensures c.in_ok-files.ensures.copy;
  found = c.in_ok-connection.ensures.found;
}

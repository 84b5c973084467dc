use Rattle.std.proofs.Common.{◌≡◌, ◌++◌, take}
use Rattle.pl_parts.specs.Kept.{shown}
use Rattle.pl_parts.specs.Texts.{lines_from, ratios_header}
use Rattle.pl_parts.proofs.tables.ratios_text.Given as goal

abbrev pub invariant-loop-i : goal.invariant-loop-i
invariant-loop-i l = l.out.items ≡ ratios_header ++ lines_from 1 (take l.i (shown l.rows.items))

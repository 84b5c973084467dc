use Rattle.std.proofs.Common.{◌≡◌, ◌++◌, take}
use Rattle.std.specs.Prelude.{flat_map}
use Rattle.pl_parts.specs.Kept.{shown}
use Rattle.pl_parts.specs.Texts.{revision_line, revisions_header}
use Rattle.pl_parts.proofs.tables.revisions_text.Given as goal

abbrev pub invariant-loop-i : goal.invariant-loop-i
invariant-loop-i l = l.out.items ≡ revisions_header ++ flat_map revision_line (take l.i (shown l.rows.items))

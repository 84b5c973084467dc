-- The lines of the code by the definitions.
use Rattle.pl_derivation.specs.Lines as spec
use Rattle.pl_derivation.specs.declared.line.Line.{Line}
use Rattle.pl_derivation.specs.declared.line.Line.TheVariants.{Seen, Value, SeenValue}

abbrev pub line_of : Line → spec.Line
line_of (Seen column sid bar_day day cells) = spec.SeenLine column sid bar_day day cells
line_of (Value v) = spec.ValueLine v.term v.sid v.day v.value v.known
line_of (SeenValue v) = spec.SeenValueLine v.term v.sid v.own_day v.day v.value

-- The span of a cut in the words of the code.
use Rattle.pl_cut.specs.Cuts as cuts
use Rattle.pl_parts.specs.declared.span.Span.{Span}

abbrev pub span_of : Span → cuts.Span
span_of s = record { first = s.first; last = s.last; first_day = s.first_day; last_day = s.last_day }

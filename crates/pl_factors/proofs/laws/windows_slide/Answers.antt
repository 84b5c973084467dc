use Rattle.pl_factors.proofs.SpanWindows.{windows-slide}
use Rattle.pl_factors.proofs.laws.windows_slide.Goals as goal

pub returns : goal.returns
returns c = windows-slide

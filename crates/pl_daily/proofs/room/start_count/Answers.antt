use Rattle.std.proofs.Common.{◌∙◌, sym}
use Rattle.std.proofs.lemmas.Bool.{true≢false}
use Rattle.pl_daily.proofs.room.start_count.Goals as goal

pub returns-else-is_downsampled : goal.returns-else-is_downsampled
returns-else-is_downsampled c = λ f u down. absurd (true≢false (sym (c.is_downsampled.ensures f u down) ∙ c.if-is_downsampled.false))

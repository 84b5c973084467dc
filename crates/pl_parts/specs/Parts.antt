-- The world that lent parts are.
use Rattle.pl_spec.specs.World.{World}
use Rattle.pl_spec.specs.Parts as parts
use Rattle.pl_parts.specs.declared.parts.Parts.{Parts}

abbrev pub world_of : Parts → World
world_of p =
    parts.world_of p.sessions.now p.assets.now p.labels.now.rows p.labels.now.texts p.bars.now
    p.adjustments.now p.numbers.now.rows

-- the parts were made for these sessions and assets
abbrev pub IsMade : Parts → Type 0
IsMade p =
    parts.AreFor p.sessions.now p.assets.now p.labels.now.rows p.bars.now p.adjustments.now p.numbers.now.rows

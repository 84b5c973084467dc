-- How a reader keeps what it was given: its bars so far, and the rest of the text; or the first fault.
use Rattle.std.specs.Prelude.{is_ok, IsTrue}
use Rattle.pl_bars.specs.InPieces.{TextSoFar, Reads, IsLeft}
use Rattle.pl_bars.specs.declared.pieces.BarsReader.TheInside.{Inside}

abbrev pub view_of : Inside → TextSoFar
view_of r = record { days = r.sessions.now; assets = r.assets.now; text = r.text.bytes }

pub record IsReading (r : Inside) : Type 0 where
  pub reads : Reads r.sessions.now r.assets.now r.text.bytes r.judged r.left.text.items
  pub left : IsTrue (is_ok r.judged) → IsLeft r.left.quoted r.left.text.items

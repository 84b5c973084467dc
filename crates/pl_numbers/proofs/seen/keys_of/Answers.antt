use Rattle.std.proofs.Common.{◌<◌, ◌≤◌, get_or, length, take, pos, rules}
use Rattle.std.proofs.lemmas.List.{take_all, take_more}
use Rattle.pl_numbers.specs.declared.rows.Place.{Place}
use Rattle.pl_records.proofs.Sorts.{AreKeys-more}
use Rattle.pl_numbers.specs.NumberPlaces.{key_of}
use Rattle.pl_numbers.proofs.seen.keys_of.Goals as goal

abbrev blank : Place
blank = record { name = 0; col = 0; known = pos 0; value = pos 0 }

pub loop-i-preserved : goal.loop-i-preserved
loop-i-preserved c =
    let inside : c.loop-i.i < length c.args.places.now = search rules in
    record {
      keys = rw (take_more c.args.places.now c.loop-i.i blank inside)
          (AreKeys-more key_of c.loop-i.keys c.insert.new.self (take c.loop-i.i c.args.places.now) (get_or c.args.places.now c.loop-i.i blank) c.key_of.result c.key_of.ensures c.loop-i.invariant.keys c.in_ok-insert.ensures.updates.0);
    }

pub returns : goal.returns
returns c =
    let end : length c.args.places.now ≤ c.loop-i.i = search rules in
    rw (← take_all c.loop-i.i c.args.places.now end) c.loop-i.invariant.keys

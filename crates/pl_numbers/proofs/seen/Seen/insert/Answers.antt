use Rattle.std.proofs.Common.{◌≡◌, None, refl, rules}
use Rattle.pl_numbers.proofs.NumberKeys.{key_new, rise_more}
use Rattle.pl_numbers.specs.NumberPlaces.{Rise}
use Rattle.pl_numbers.proofs.seen.Seen.insert.Goals as goal

pub returns-then-is_above-clause-new : goal.returns-then-is_above-clause-new
returns-then-is_above-clause-new c = rw (key_new c.args.places.now c.args.key (c.is_above.ensures c.if-is_above.true)) refl

pub returns-then-is_above-clause-seen : goal.returns-then-is_above-clause-seen
returns-then-is_above-clause-seen c = λ t p e.
    let none : c.args.self.now.keys ≡ None = search rules in
    let up : Rise c.args.places.now = rw none at c.requires in
    rw none (rise_more c.args.places.now p c.args.key e up (c.is_above.ensures c.if-is_above.true))

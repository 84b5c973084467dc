use Rattle.std.proofs.Common.{refl, arith}
use Rattle.pl_spec.proofs.Places.{row-within}
use Rattle.pl_table.specs.Tiles.{height}
use Rattle.pl_table.proofs.Tiles as tiles
use Rattle.pl_table.proofs.tile.start_of.Goals as goal

pub overflow_mul-result : goal.overflow_mul-result
overflow_mul-result c =
    let w = row-within c.args.j height (tiles.places_of c.args.outcome.now) c.args.place c.requires.session c.requires.place in
    omega (arith, w)

pub overflow_add-result : goal.overflow_add-result
overflow_add-result c =
    let w = row-within c.args.j height (tiles.places_of c.args.outcome.now) c.args.place c.requires.session c.requires.place in
    omega (arith, w)

pub overflow_mul-result-2 : goal.overflow_mul-result-2
overflow_mul-result-2 c =
    let o = c.args.outcome.now in
    let w = tiles.start_within (tiles.places_of o) (tiles.width_of o) c.args.j c.args.place c.requires.session c.requires.place in
    rw c.width_of.ensures.value (omega (arith, w, c.requires.room))

pub returns-clause-value : goal.returns-clause-value
returns-clause-value c = rw c.width_of.ensures.value refl

pub returns-clause-end : goal.returns-clause-end
returns-clause-end c =
    let o = c.args.outcome.now in
    let w = tiles.start_within (tiles.places_of o) (tiles.width_of o) c.args.j c.args.place c.requires.session c.requires.place in
    rw c.width_of.ensures.value (omega (arith, w, c.requires.room))

use Rattle.std.proofs.Common.{◌≡◌, ◌+◌, ◌*◌, ◌/◌, ◌<◌, ◌||◌, length, get_or, arith, ◌∙◌, ap}
use Rattle.std.proofs.lemmas.List.{get_or_default}
use Rattle.pl_spec.proofs.Places.{row-within}
use Rattle.pl_bars.specs.BarSet.{bit_in}
use Rattle.pl_bars.proofs.BarSets.{bit_in-with_bit, same_place}
use Rattle.pl_bars.proofs.bar_set.BarSet.insert.Goals as goal

pub returns-clause-bars : goal.returns-clause-bars
returns-clause-bars c col session h =
    let words = c.args.self.now.words.items in
    let place = c.args.col * c.args.self.now.sessions + c.args.session in
    let inside : place / 64 < length words =
    omega (arith, row-within c.args.col c.args.self.now.cols c.args.self.now.sessions c.args.session c.requires.col c.requires.session, c.args.self.now.room) in
    let word : c.index_mut.result.now ≡ get_or words (place / 64) 0 = c.index_mut.ensures.value ∙ get_or_default words (place / 64) c.index_mut.result.now 0 inside in
    rw word
    (bit_in-with_bit words place (col * c.args.self.now.sessions + session) inside
    ∙ ap (λ b. bit_in words (col * c.args.self.now.sessions + session) || b) (same_place c.args.self.now.sessions c.args.col c.args.session col session c.requires.session h))

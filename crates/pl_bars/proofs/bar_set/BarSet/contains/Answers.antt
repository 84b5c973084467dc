use Rattle.std.proofs.Common.{◌≡◌, ◌+◌, ◌*◌, ◌/◌, ◌%◌, ◌==◌, ◌<◌, length, get_or, arith, ◌∙◌, ap}
use Rattle.std.specs.Int.{bit_at}
use Rattle.std.proofs.lemmas.List.{get_or_default}
use Rattle.std.proofs.lemmas.Nat.Bits.{shr_and_one}
use Rattle.pl_spec.proofs.Places.{row-within}
use Rattle.pl_bars.proofs.bar_set.BarSet.contains.Goals as goal

pub returns : goal.returns
returns c =
    let set = c.args.self.now in
    let place = c.args.col * set.sessions + c.args.session in
    let room = row-within c.args.col set.cols set.sessions c.args.session c.requires.col c.requires.session in
    let inside : place / 64 < length set.words.items = omega (arith, room, set.room) in
    let word : c.index.result.now ≡ get_or set.words.items (place / 64) 0 =
    c.index.ensures ∙ get_or_default set.words.items (place / 64) _ 0 inside in
    ap (λ b. b == 1) (shr_and_one c.index.result.now (place % 64)) ∙ ap (λ n. bit_at n (place % 64) == 1) word

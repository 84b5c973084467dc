use Rattle.std.proofs.Common.{length, ◌-◌, sym, subst, take, drop}
use Rattle.std.proofs.lemmas.List.{take_rest}
use Rattle.pl_syntax.specs.Text.{after}
use Rattle.pl_syntax.specs.Code.{HasRoom}
use Rattle.pl_syntax.proofs.Steps.{room_behind}
use Rattle.pl_syntax.proofs.text.Text.skip.Goals as goal

pub returns-clause-room : goal.returns-clause-room
returns-clause-room c =
    let bs = c.args.self.now.bytes.now in
    let n = c.args.count in
    subst (λ p. HasRoom p (take (length bs - n) (drop n bs))) (sym c.place_after-self.ensures) (subst (λ z. HasRoom (after (take n bs) c.args.self.now.place) z) (sym (take_rest bs n)) (room_behind c.args.self.now.place bs n c.requires.room c.requires.within))

use Rattle.std.proofs.Common.{◌≡◌, ◌∙◌, ◌<◌, ◌^◌, not, ap, rules, FitsSigned, w32}
use Rattle.std.proofs.lemmas.Int.{to_z-of_z}
use Rattle.std.proofs.lemmas.Result.{IfOk-weaker}
use Rattle.pl_numbers.specs.NumberPlaces.{key_next}
use Rattle.pl_numbers.proofs.NumberKeys.{is_known}
use Rattle.pl_numbers.proofs.reading.is_new.Goals as goal

pub returns-clause-new : goal.returns-clause-new
returns-clause-new c =
    let fits : FitsSigned w32 c.args.next.known = search rules in
    let small : c.args.next.col < 2 ^ 64 = search rules in
    let its_key : c.key-key.result ≡ key_next c.args.next = simp to_z-of_z at c.key-key.ensures in
    IfOk-weaker c.insert.result _ _ (λ b e. e ∙ ap not (rw (c.deref.ensures.value, its_key)
    (is_known c.args.before.now c.args.name.now c.args.next.name c.args.next.col c.args.next.known c.requires.numbered c.requires.name small fits))) c.insert.ensures.new

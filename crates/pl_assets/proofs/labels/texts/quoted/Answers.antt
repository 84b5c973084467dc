use Rattle.std.proofs.Common.{◌≡◌, ◌≤◌, ◌∷◌, ◌++◌, ◌∙◌, [], ap, sym, arith, length}
use Rattle.std.proofs.lemmas.List.{append-nil, drop_all}
use Rattle.std.specs.List.{flat_map}
use Rattle.pl_spec.specs.Lines.{quoted_byte}
use Rattle.pl_assets.proofs.labels.texts.quoted.Goals as goal

pub returns : goal.returns
returns c =
    let end : length c.args.text.now ≤ c.loop-byte.byte-index = omega (arith, c.loop-byte-test.false) in
    let put : c.loop-byte.field.items ++ [] ≡ 34 ∷ flat_map quoted_byte c.args.text.now = rw (drop_all c.loop-byte.byte-index c.args.text.now end) at c.loop-byte.invariant in
    c.in_ok-push-4.ensures.items ∙ ap (λ l. l ++ 34 ∷ []) (sym (append-nil c.loop-byte.field.items) ∙ put)

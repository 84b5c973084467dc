use Rattle.std.proofs.Common.{◌^◌, ◌<◌, ◌≤◌, length, arith, rules}
use Rattle.pl_assets.specs.Labels.{with_text}
use Rattle.pl_assets.proofs.FirstSeen.{text_placed}
use Rattle.pl_assets.proofs.labels.rows.code_of.Goals as goal

pub overflow_cast-result : goal.overflow_cast-result
overflow_cast-result c =
    let placed = (text_placed c.args.texts.now c.args.text.now).0 in
    let few : length (with_text c.args.texts.now c.args.text.now) ≤ 2 ^ 32 = rw c.in_ok-code.ensures.texts at c.insert.ensures.few in
    let small : c.in_ok-code.code < 2 ^ 32 = omega (arith, c.in_ok-code.ensures.code, placed, few) in
    search rules

pub returns-clause-code : goal.returns-clause-code
returns-clause-code c = rw (c.in_ok-code.ensures.code, c.in_ok-code.ensures.texts) (text_placed c.args.texts.now c.args.text.now).1

pub returns-clause-known : goal.returns-clause-known
returns-clause-known c = rw (c.in_ok-code.ensures.code, c.in_ok-code.ensures.texts) (text_placed c.args.texts.now c.args.text.now).0

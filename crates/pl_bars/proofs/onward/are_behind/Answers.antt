use Rattle.std.proofs.Common.{◌≡◌, IsTrue, Bool, true, false, not, ◌∙◌, refl, sym, arith}
use Rattle.pl_bars.proofs.BarOnward.{behind_one}
use Rattle.pl_bars.proofs.onward.are_behind.Goals as goal

is_false : (b : Bool) → IsTrue (not b) → b ≡ false
is_false true t = absurd (let bad : false ≡ true = t in cc)
is_false false t = refl

pub returns-else-place-rows : goal.returns-else-place-rows
returns-else-place-rows c = λ t.
    behind_one c.args.col c.args.session c.args.rows.now c.args.place _ c.requires.rows (omega (arith, c.requires.place, c.if-place-rows.false))
    (sym c.stands_before.ensures ∙ is_false c.stands_before.result t)

use Rattle.std.proofs.Common.{ℕ, ◌≤◌, ap, subst, arith}
use Rattle.pl_adjarray.specs.Buffered.{Buffered}
use Rattle.pl_adjarray.specs.Stillness.{IsQuiet}
use Rattle.pl_adjarray.specs.Traversals.{Traversal}
use Rattle.pl_adjarray.proofs.windows.Windows.still.Goals as goal

pub returns-clause-greatest : goal.returns-clause-greatest
returns-clause-greatest c =
    let first = ap (λ (b : Buffered). b.first) c.array.view_is in
    let rows = ap (λ (b : Buffered). b.rows) c.array.view_is in
    subst (λ (t : Traversal). (n : ℕ) → n ≤ c.args.most → IsQuiet t.array t.session n → n ≤ c.still_from.result) c.self.view_is
    (λ n h quiet. c.still_from.ensures.greatest n (let within = quiet.within in omega (arith, h, within, c.min.ensures, first, rows)) quiet)

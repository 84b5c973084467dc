use Rattle.std.proofs.Common.{◌≡◌, ◌∙◌, ap, sym, ℕ, Option, unwrap_or, get_or}
use Rattle.pl_spec.specs.Parts.{sid_at}
use Rattle.pl_table.proofs.Outputs.{sid-of-place}
use Rattle.pl_table.proofs.outcome.sid_of.Goals as goal

pub returns : goal.returns
returns c =
    let o = c.args.outcome.now in
    let own : sid_at o.asked.world.assets.now (get_or o.cols.now c.args.place 0) ≡ c.sid.result = ap (λ (x : Option ℕ). unwrap_or x 0) c.sid.ensures in
    sym (sid-of-place o.asked.world.assets.now o.cols.now c.args.place c.requires.place ∙ own)

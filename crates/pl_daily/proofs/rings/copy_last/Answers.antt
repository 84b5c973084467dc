use Rattle.std.proofs.Common.{◌-◌, length, ◌∙◌}
use Rattle.std.proofs.lemmas.List.{take_rest}
use Rattle.pl_daily.proofs.Ends.{copied}
use Rattle.pl_daily.proofs.rings.copy_last.Goals as goal

pub returns : goal.returns
returns c =
    let front = c.args.front.now in
    let back = c.args.back.now in
    let window = c.args.window.now in
    let ahead = c.saturating_sub-ahead.result in
    copied front back window c.copy_from_slice.new.self c.copy_from_slice-2.new.self ahead c.requires c.saturating_sub-ahead.ensures
    (c.copy_from_slice.ensures.after ∙ take_rest front (length front - ahead))
    (c.copy_from_slice-2.ensures.after ∙ take_rest back (length back - (length window - ahead)))

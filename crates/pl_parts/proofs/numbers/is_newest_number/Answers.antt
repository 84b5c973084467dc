use Rattle.std.proofs.Common.{◌≡◌, ◌∙◌, Some, option_map, sym, ap, w32}
use Rattle.std.proofs.lemmas.Int.{to_z-of_z}
use Rattle.pl_numbers.specs.NumberRowsShown.{shown_at, is_newest_in}
use Rattle.pl_parts.proofs.ByColumn.{newest-number, newest-is}
use Rattle.pl_parts.proofs.numbers.is_newest_number.Goals as goal

pub returns : goal.returns
returns c =
    let w = c.args.world.now in
    let r = shown_at c.args.row.now in
    let newest : option_map (is_newest_in w.numbers.now.rows c.args.day) (Some r) ≡ Some c.is_newest.result = sym (ap (option_map (is_newest_in w.numbers.now.rows c.args.day)) c.requires.row) ∙ (rw (to_z-of_z w32 c.args.day c.ranges.day) at c.is_newest.ensures) in
    sym (newest-is (is_newest_in w.numbers.now.rows c.args.day r) c.is_newest.result newest)
    ∙ sym (newest-number w.assets.now c.requires.made.sids_ascend w.numbers.now.rows c.requires.made.numbers_in c.args.day r c.requires.col)

use Rattle.std.proofs.Common.{◌≡◌, ◌++◌, pos, ◌*ℤ◌, decimal, rules, FitsSigned, w32}
use Rattle.std.specs.Fmt.{signed_decimal}
use Rattle.pl_adjust.specs.Events.{event_of}
use Rattle.pl_parts.specs.Texts.{behind_comma, ratio_text}
use Rattle.pl_parts.proofs.Fields.{joined, on-ok-joined}
use Rattle.pl_parts.proofs.tables.put_ratio.Goals as goal

pub returns : goal.returns
returns c =
    let row = c.args.row.now in
    let day : FitsSigned w32 c.args.row.now.adjust.day = search rules in
    let front : c.put_front.new.out.items ≡ c.args.out.now.items ++ (decimal c.args.number ++ behind_comma (signed_decimal (c.args.row.now.adjust.day *ℤ pos 86400))) = search rules in
    let parts : c.put_parts.new.out.items ≡ c.put_front.new.out.items ++ ratio_text (event_of c.args.row.now.adjust).change = search rules in
    let n : c.put_further_number.new.out.items ≡ c.put_parts.new.out.items ++ behind_comma (decimal c.args.row.now.sid) = search rules in
    on-ok-joined c.put_end.result _ _ _ _ _ (joined _ _ _ _ _ (joined _ _ _ _ _ front parts) n) c.put_end.ensures

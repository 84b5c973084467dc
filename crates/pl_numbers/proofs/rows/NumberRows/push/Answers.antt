use Rattle.std.proofs.Common.{rules, FitsSigned, w32, w64}
use Rattle.std.proofs.lemmas.Int.{to_z-of_z}
use Rattle.pl_numbers.proofs.NumberRowsMade.{rows_more, numbered_more}
use Rattle.pl_numbers.proofs.rows.NumberRows.push.Goals as goal

pub returns-clause-numbered : goal.returns-clause-numbered
returns-clause-numbered c =
    numbered_more c.args.self.now record { names = c.put_name.new.names; places = c.push.new.self } c.args.name.now _
    c.requires.numbered c.in_ok-put_name.ensures c.in_ok-push.ensures.items record { number = c.requires.name; col = c.requires.col; day = search rules }

pub returns-clause-rows : goal.returns-clause-rows
returns-clause-rows c =
    let day : FitsSigned w32 c.args.next.known = search rules in
    let cell : FitsSigned w64 c.args.next.value = search rules in
    let items = rw (to_z-of_z w32 c.args.next.known day, to_z-of_z w64 c.args.next.value cell) at c.in_ok-push.ensures.items in
    rows_more c.args.self.now record { names = c.put_name.new.names; places = c.push.new.self } c.args.name.now _
    c.requires.numbered c.in_ok-put_name.ensures items record { number = c.requires.name; col = c.requires.col; day = day }

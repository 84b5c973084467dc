use Rattle.std.proofs.Common.{rules, w64, FitsSigned}
use Rattle.std.proofs.lemmas.Int.{to_z-of_z}
use Rattle.pl_adjust.proofs.Known.{found_col, found_none, found_unknown}
use Rattle.pl_adjust.proofs.rows.col_of.Goals as goal

pub returns-in-Ok-clause-some : goal.returns-in-Ok-clause-some
returns-in-Ok-clause-some c =
    let fits : FitsSigned w64 c.args.row.now.sid = search rules in
    let is = simp to_z-of_z at c.in-Ok.ensures in
    found_col c.args.assets.now c.args.row.now.sid c.in-Ok.sid c.col_of.result is.0 is.1 c.col_of.ensures.exact

pub returns-in-Ok-clause-none : goal.returns-in-Ok-clause-none
returns-in-Ok-clause-none c =
    let fits : FitsSigned w64 c.args.row.now.sid = search rules in
    let is = simp to_z-of_z at c.in-Ok.ensures in
    found_none c.args.assets.now c.args.row.now.sid c.in-Ok.sid c.col_of.result is.0 is.1 c.col_of.ensures.exact

pub returns-in-Err-clause-none : goal.returns-in-Err-clause-none
returns-in-Err-clause-none c =
    let fits : FitsSigned w64 c.args.row.now.sid = search rules in
    let out = simp to_z-of_z at c.in-Err.ensures in
    found_unknown c.args.assets.now c.args.row.now.sid c.len.ensures.small out

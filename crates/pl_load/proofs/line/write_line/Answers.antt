use Rattle.std.proofs.Common.{FitsSigned, w64, rules}
use Rattle.std.proofs.lemmas.Int.{to_z-of_z}
use Rattle.pl_load.proofs.line.write_line.Goals as goal

pub returns-in-Backwards : goal.returns-in-Backwards
returns-in-Backwards g c = rw c.in-Backwards.is c.write_bytes-in-Backwards.ensures.writes

pub returns-in-NotSession : goal.returns-in-NotSession
returns-in-NotSession g c = rw (c.in-NotSession.is, ← c.date_asked.ensures) c.write_named-in-NotSession.ensures

pub returns-in-TooEarly : goal.returns-in-TooEarly
returns-in-TooEarly g c =
    let fits : FitsSigned w64 c.in-TooEarly.reach = search rules in
    let written = simp to_z-of_z at c.write_reach.ensures in
    rw c.in-TooEarly.is written

pub returns-in-UnknownSid : goal.returns-in-UnknownSid
returns-in-UnknownSid g c = rw c.in-UnknownSid.is c.write_sid.ensures

pub returns-in-UnknownColumn : goal.returns-in-UnknownColumn
returns-in-UnknownColumn g c = rw (c.in-UnknownColumn.is, ← c.column_asked.ensures) c.write_named-in-UnknownColumn.ensures

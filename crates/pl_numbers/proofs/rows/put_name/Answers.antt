use Rattle.std.proofs.Common.{◌<◌, length, arith}
use Rattle.std.specs.List.{position_or_len}
use Rattle.std.specs.Str.{bytes_eq}
use Rattle.pl_numbers.proofs.NumberRowsMade.{name_known}
use Rattle.pl_numbers.proofs.rows.put_name.Goals as goal

pub returns-then-number-len : goal.returns-then-number-len
returns-then-number-len c =
    let inside : position_or_len (bytes_eq c.args.name.now) c.args.names.now < length c.args.names.now = omega (arith, c.requires, c.len.ensures) in
    name_known c.args.names.now c.args.name.now inside

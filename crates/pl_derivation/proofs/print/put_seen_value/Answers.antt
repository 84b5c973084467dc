use Rattle.std.proofs.Common.{decimal, rules, w32, w64, FitsSigned}
use Rattle.std.proofs.lemmas.Int.{to_z-of_z}
use Rattle.pl_spec.specs.Dates.{date_text}
use Rattle.pl_derivation.specs.Texts.{number_text}
use Rattle.pl_derivation.proofs.Printing.{seen_value_joined, where_ok}
use Rattle.pl_derivation.proofs.print.put_seen_value.Goals as goal

pub returns : goal.returns
returns c =
    let l = c.args.seen.now in
    let own : FitsSigned w32 l.own_day = search rules in
    let day : FitsSigned w32 l.day = search rules in
    let value : FitsSigned w64 l.value = search rules in
    let put = seen_value_joined c.args.bytes.now.items (decimal l.term) (decimal l.sid) (date_text l.own_day) (date_text l.day) (number_text l.value) _ _ _ _ _ _
    c.in_ok-extend_from_slice.ensures.items c.in_ok-put_whole.ensures c.in_ok-put_whole-2.ensures (simp to_z-of_z at c.in_ok-put_day.ensures) (simp to_z-of_z at c.in_ok-put_day-2.ensures) (simp to_z-of_z at c.in_ok-put_number.ensures) in
    where_ok c.extend_from_slice-2.result _ _ _ _ c.extend_from_slice-2.ensures.items put

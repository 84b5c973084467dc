use Rattle.std.proofs.Common.{◌≡◌, ◌∙◌, rules, arith, ap, sym, w64, FitsSigned}
use Rattle.std.proofs.lemmas.Int.{to_z-of_z}
use Rattle.pl_terms.specs.Kinds.{kind_of}
use Rattle.pl_cross.specs.Arrays.{sid_in}
use Rattle.pl_values.specs.Families.{sid_flag}
use Rattle.pl_values.proofs.Written.{one_given}
use Rattle.pl_daily.specs.Rows.{sids_of}
use Rattle.pl_daily.proofs.RowsShown.{sid_told}
use Rattle.pl_daily.proofs.leaves.sids_row.Goals as goal

pub loop-i-preserved : goal.loop-i-preserved
loop-i-preserved c =
    let u : FitsSigned w64 c.sids_value.result = search rules in
    let value = c.sids_value.ensures ∙ ap (sid_flag (kind_of c.args.kind.now)) (sym (sid_told c.args.assets.now c.loop-i.i c.sid.result c.sid.ensures)) in
    rw (to_z-of_z w64 _ u) (one_given (λ k x. x ≡ sid_flag (kind_of c.args.kind.now) (sid_in (sids_of c.args.assets.now) k)) c.loop-i.i c.loop-i.out c.sids_value.result c.loop-i.invariant (omega (arith, c.loop-i-test.true)) value)

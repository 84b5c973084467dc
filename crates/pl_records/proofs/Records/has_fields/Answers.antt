use Rattle.std.proofs.Common.{arith, below_more, refl, ◌∙◌, sym, []}
use Rattle.pl_records.proofs.Names.{differs, agrees, all_agree}
use Rattle.pl_records.proofs.Records.has_fields.Goals as goal

pub returns-then-ne : goal.returns-then-ne
returns-then-ne c = differs c.args.self.now.fields c.args.names.now c.loop-i.i (record { ref_ptr = (0, 0); now = [] }) c.field.result.now c.ne.result refl c.field.ensures c.ne.ensures c.if-ne.true

pub loop-i-preserved : goal.loop-i-preserved
loop-i-preserved c = below_more _ _ c.loop-i.invariant (agrees c.args.self.now.fields c.args.names.now c.loop-i.i (record { ref_ptr = (0, 0); now = [] }) c.field.result.now c.ne.result refl c.field.ensures c.ne.ensures c.if-ne.false)

pub returns : goal.returns
returns c = all_agree c.args.self.now.fields c.args.names.now (sym c.field_count.ensures ∙ c.if-field_count-names.false) (λ k h. c.loop-i.invariant k (omega arith))

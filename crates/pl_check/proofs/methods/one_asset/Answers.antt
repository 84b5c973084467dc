use Rattle.std.proofs.Common.{rules, [], sym, subst}
use Rattle.pl_terms.specs.Nodes.{interned}
use Rattle.pl_check.specs.declared.operation.Operation.TheVariants.{StaticSids}
use Rattle.pl_check.specs.Answers.{Fails, Finds}
use Rattle.pl_check.specs.Made.{terms_of}
use Rattle.pl_check.specs.Seen.{value_of, all_written}
use Rattle.pl_check.specs.Typed.{called, greatest_where}
use Rattle.pl_check.proofs.Behind.{fails-then}
use Rattle.pl_check.proofs.Growing.{stands-kept}
use Rattle.pl_check.proofs.Told.{after-filter, finds-then, not-one, one-is}
use Rattle.pl_check.proofs.methods.one_asset.Goals as goal

pub returns-then-written-ne1 : goal.returns-then-written-ne1
returns-then-written-ne1 c =
    rw c.fault.ensures (not-one c.args.place (value_of c.args.object) c.args.written.now (terms_of c.args.terms.now) c.if-written-ne1.true)

pub returns-in_err-filter : goal.returns-in_err-filter
returns-in_err-filter c =
    let f : Fails c.in_err-filter.field-0.0 _ = subst (Fails c.in_err-filter.field-0.0) (sym (one-is c.args.place (value_of c.args.object) c.args.written.now (terms_of c.args.terms.now) c.if-written-ne1.false))
    (fails-then c.in_err-filter.field-0.0 (called interned c.args.place StaticSids [] (all_written c.args.written.now) (terms_of c.args.terms.now)) (λ r. greatest_where interned c.args.place (value_of c.args.object) r.value r.terms) c.in_err-filter.ensures) in
    search (rules, f)

pub greatest_where-requires-clause-object : goal.greatest_where-requires-clause-object
greatest_where-requires-clause-object c =
    let k = after-filter c.args.place (all_written c.args.written.now) c.requires.written c.requires.sound c.in_ok-filter.ensures in
    stands-kept (terms_of c.args.terms.now).graph (terms_of c.asset_filter.new.terms).graph (value_of c.args.object) k.1.nodes c.requires.stands

pub greatest_where-requires-clause-filter : goal.greatest_where-requires-clause-filter
greatest_where-requires-clause-filter c = (after-filter c.args.place (all_written c.args.written.now) c.requires.written c.requires.sound c.in_ok-filter.ensures).0

pub greatest_where-requires-clause-sound : goal.greatest_where-requires-clause-sound
greatest_where-requires-clause-sound c = (after-filter c.args.place (all_written c.args.written.now) c.requires.written c.requires.sound c.in_ok-filter.ensures).2

pub returns : goal.returns
returns c =
    subst (Finds value_of c.greatest_where.new.terms c.greatest_where.result) (sym (one-is c.args.place (value_of c.args.object) c.args.written.now (terms_of c.args.terms.now) c.if-written-ne1.false))
    (finds-then c.greatest_where.new.terms c.greatest_where.result (λ r. greatest_where interned c.args.place (value_of c.args.object) r.value r.terms) c.in_ok-filter.ensures c.greatest_where.ensures)

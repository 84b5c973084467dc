use Rattle.std.proofs.Common.{◌≡◌, ◌++◌, sym, ap, subst, ◌∙◌}
use Rattle.pl_terms.specs.Nodes.{interned}
use Rattle.pl_check.specs.Answers.{Finds}
use Rattle.pl_check.specs.Made.{terms_of}
use Rattle.pl_check.specs.Seen.{value_of, all_written}
use Rattle.pl_check.specs.Standing.{WrittenAreInGraph}
use Rattle.pl_check.specs.Typed.{method_of, without_mask}
use Rattle.pl_check.proofs.Growing.{written-kept}
use Rattle.pl_check.proofs.Walk.{unmasked-stand}
use Rattle.pl_check.proofs.Told.{after-where, finds-then}
use Rattle.pl_check.proofs.methods.told_of.Goals as goal

pub called_on-requires-clause-stands : goal.called_on-requires-clause-stands
called_on-requires-clause-stands c = (after-where c.args.place (value_of c.args.object) (value_of c.args.mask) c.requires.stands c.requires.mask c.requires.sound c.in_ok-kept.ensures).0

pub called_on-requires-clause-written : goal.called_on-requires-clause-written
unfolding all_written
called_on-requires-clause-written c =
    let others : all_written c.deref.result.now ≡ without_mask (all_written c.args.written.now) =
    ap all_written c.deref.ensures.value ∙ c.in_ok-push_without_mask.ensures.ok
    ∙ ap (λ l. all_written l ++ without_mask (all_written c.args.written.now)) c.new-others.ensures.items in
    let k = after-where c.args.place (value_of c.args.object) (value_of c.args.mask) c.requires.stands c.requires.mask c.requires.sound c.in_ok-kept.ensures in
    let s = terms_of c.args.terms.now in
    let t = terms_of c.kept_where.new.terms in
    subst (WrittenAreInGraph t.graph) (sym others) (unmasked-stand (all_written c.args.written.now) t.graph (written-kept s.graph t.graph (all_written c.args.written.now) k.1.nodes c.requires.written))

pub called_on-requires-clause-sound : goal.called_on-requires-clause-sound
called_on-requires-clause-sound c = (after-where c.args.place (value_of c.args.object) (value_of c.args.mask) c.requires.stands c.requires.mask c.requires.sound c.in_ok-kept.ensures).2

pub returns : goal.returns
unfolding all_written
returns c =
    let others : all_written c.deref.result.now ≡ without_mask (all_written c.args.written.now) =
    ap all_written c.deref.ensures.value ∙ c.in_ok-push_without_mask.ensures.ok
    ∙ ap (λ l. all_written l ++ without_mask (all_written c.args.written.now)) c.new-others.ensures.items in
    finds-then c.called_on.new.terms c.called_on.result (λ r. method_of interned c.args.place r.value (without_mask (all_written c.args.written.now)) r.terms c.args.operation) c.in_ok-kept.ensures
    (subst (λ ws. Finds value_of c.called_on.new.terms c.called_on.result (method_of interned c.args.place (value_of c.in_ok-kept.kept) ws (terms_of c.kept_where.new.terms) c.args.operation)) others c.called_on.ensures)

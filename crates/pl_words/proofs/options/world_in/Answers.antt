use Rattle.pl_words.specs.Apps.{values_in}
use Rattle.pl_words.proofs.Places.{value_read, world_read}
use Rattle.pl_words.proofs.options.world_in.Goals as goal

pub returns : goal.returns
returns c =
    world_read c.args.names.now (values_in c.args.matches.now) _ _ _ _ _ _ _ _ c.requires
    (value_read c.value.result _ _ c.value.ensures c.in_ok-labels.ensures.value)
    (value_read c.value-2.result _ _ c.value-2.ensures c.in_ok-numbers.ensures.value)
    (value_read c.value-3.result _ _ c.value-3.ensures c.in_ok-results.ensures.value)
    (value_read c.value-4.result _ _ c.value-4.ensures c.in_ok-adjustments.ensures.value)
    (value_read c.value-5.result _ _ c.value-5.ensures c.in_ok-revisions.ensures.value)

use Rattle.std.proofs.Common.{arith}
use Rattle.pl_planner.proofs.Slotted.{six_free, slotted}
use Rattle.pl_planner.proofs.slots.slot_term.Goals as goal

pub take_free-own-requires : goal.take_free-own-requires
take_free-own-requires c = omega (arith, six_free _ _ _ _ c.mark_taken.ensures c.requires.few_terms)

pub take_free-first-requires : goal.take_free-first-requires
take_free-first-requires c = omega (arith, six_free _ _ _ _ c.mark_taken.ensures c.requires.few_terms, c.take_free-own.ensures.count, c.take_free-own.ensures.size)

pub take_free-second-requires : goal.take_free-second-requires
take_free-second-requires c =
    omega (
      arith,
      six_free _ _ _ _ c.mark_taken.ensures c.requires.few_terms,
      c.take_free-own.ensures.count,
      c.take_free-own.ensures.size,
      c.take_free-first.ensures.count,
      c.take_free-first.ensures.size,
    )

pub take_free-third-requires : goal.take_free-third-requires
take_free-third-requires c =
    omega (
      arith,
      six_free _ _ _ _ c.mark_taken.ensures c.requires.few_terms,
      c.take_free-own.ensures.count,
      c.take_free-own.ensures.size,
      c.take_free-first.ensures.count,
      c.take_free-first.ensures.size,
      c.take_free-second.ensures.count,
      c.take_free-second.ensures.size,
    )

pub take_free-fourth-requires : goal.take_free-fourth-requires
take_free-fourth-requires c =
    omega (
      arith,
      six_free _ _ _ _ c.mark_taken.ensures c.requires.few_terms,
      c.take_free-own.ensures.count,
      c.take_free-own.ensures.size,
      c.take_free-first.ensures.count,
      c.take_free-first.ensures.size,
      c.take_free-second.ensures.count,
      c.take_free-second.ensures.size,
      c.take_free-third.ensures.count,
      c.take_free-third.ensures.size,
    )

pub take_free-fifth-requires : goal.take_free-fifth-requires
take_free-fifth-requires c =
    omega (
      arith,
      six_free _ _ _ _ c.mark_taken.ensures c.requires.few_terms,
      c.take_free-own.ensures.count,
      c.take_free-own.ensures.size,
      c.take_free-first.ensures.count,
      c.take_free-first.ensures.size,
      c.take_free-second.ensures.count,
      c.take_free-second.ensures.size,
      c.take_free-third.ensures.count,
      c.take_free-third.ensures.size,
      c.take_free-fourth.ensures.count,
      c.take_free-fourth.ensures.size,
    )

pub returns : goal.returns
returns c =
    slotted c.args.uses.now c.args.slots.now c.args.k _ _ _ _ _ _ _ c.take_free-own.result c.take_free-first.result c.take_free-second.result c.take_free-third.result c.take_free-fourth.result c.take_free-fifth.result c.mark_taken.ensures c.requires.few_terms
    c.take_free-own.ensures c.take_free-first.ensures c.take_free-second.ensures c.take_free-third.ensures c.take_free-fourth.ensures c.take_free-fifth.ensures

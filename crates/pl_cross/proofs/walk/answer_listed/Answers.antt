use Rattle.std.proofs.lemmas.List.Sorted.{All-permutation}
use Rattle.std.proofs.Common.{length, ◌<◌}
use Rattle.pl_records.proofs.Sorts.{own-permuted}
use Rattle.pl_cross.specs.Section.{cross_of}
use Rattle.pl_cross.proofs.Giving.{scattered, left}
use Rattle.pl_cross.proofs.walk.answer_listed.Goals as goal

pub scatter-requires-clause-within : goal.scatter-requires-clause-within
scatter-requires-clause-within c = All-permutation (λ e. e.place < length c.args.out.now) c.args.group.now c.answer_group.new.group c.answer_group.ensures.same c.requires.within

pub scatter-requires-clause-own : goal.scatter-requires-clause-own
scatter-requires-clause-own c = own-permuted (λ e. e.place) c.args.group.now c.answer_group.new.group c.answer_group.ensures.same c.requires.own

pub returns-clause-given : goal.returns-clause-given
returns-clause-given c =
    scattered (cross_of c.args.section) c.args.group.now c.answer_group.new.group c.answer_group.new.answers c.args.out.now c.scatter.new.out c.answer_group.ensures.same
    c.answer_group.ensures.answers c.scatter.ensures.listed

pub returns-clause-others : goal.returns-clause-others
returns-clause-others c =
    left (cross_of c.args.section) c.args.group.now c.answer_group.new.group c.answer_group.new.answers c.args.out.now c.scatter.new.out c.answer_group.ensures.same
    c.scatter.ensures.others

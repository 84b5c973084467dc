use Rattle.std.proofs.Common.{◌≡◌, map, subst, sym, ◌∙◌, ap, rules, arith}
use Rattle.pl_terms.specs.Checked.{IsChecked}
use Rattle.pl_daily.specs.Changes.{column_event}
use Rattle.pl_daily.specs.Days.{IsLaterThan}
use Rattle.pl_daily.specs.Daily.{Held, last_of}
use Rattle.pl_daily.specs.Steps.{IsMidway}
use Rattle.pl_daily.proofs.Taken.{few, handed_in, midway, next_of, stands_on}
use Rattle.pl_daily.proofs.daily.Daily.advance.Goals as goal

pub take_bars-requires : goal.take_bars-requires
take_bars-requires g c =
    let day = c.args.day.now in
    let later : IsLaterThan (last_of c.args.self.now) day.day = search rules in
    let have = c.requires.may_follow later in
    handed_in c.args.self.now day.day day.bars.now day.events.now have.0 later have.1 have.2

pub take_terms-requires : goal.take_terms-requires
take_terms-requires g c =
    let day = c.args.day.now in
    let later : IsLaterThan (last_of c.args.self.now) day.day = search rules in
    let have = c.requires.may_follow later in
    let next = next_of day.day day.bars.now day.events.now in
    let mid = midway c.args.self.now day.day day.bars.now day.events.now have.0 later have.1 have.2 c.take_bars.new.self.bars c.take_bars.ensures.bars in
    (next, have.0, subst (λ (h : Held). IsMidway h day.day (map column_event day.events.now) next have.0) (sym {b = record c.args.self.now { bars = c.take_bars.new.self.bars }} c.take_bars.ensures.rest) mid)

pub take_session-requires : goal.take_session-requires
take_session-requires g c =
    let day = c.args.day.now in
    let later : IsLaterThan (last_of c.args.self.now) day.day = search rules in
    let have = c.requires.may_follow later in
    let n = few c.args.self.now day.day day.bars.now day.events.now have.0 later have.1 have.2 in
    let e : c.take_terms.new.self.fed ≡ c.args.self.now.fed = ap (λ (h : Held). h.fed) c.take_terms.ensures.rest ∙ ap (λ (h : Held). h.fed) c.take_bars.ensures.rest in
    record { few = omega (arith, n, e) }

pub returns-clause-follow : goal.returns-clause-follow
returns-clause-follow g c =
    let day = c.args.day.now in
    let later : IsLaterThan (last_of c.args.self.now) day.day = c.is_later.ensures.later c.if-not-is_later.false in
    let bars = c.take_bars.ensures in
    let terms = c.take_terms.ensures in
    let session = c.take_session.ensures in
    let kept = c.take_kept.ensures in
    let ok : IsChecked c.args.self.now.pipeline = subst (λ (h : Held). IsChecked h.pipeline) c.self.view_is c.self.invariant.checked in
    λ days stands may.
    stands_on c.args.self.now c.take_bars.new.self c.take_terms.new.self c.take_session.new.self c.take_kept.new.self bars.rest terms.rest session.rest kept.rest day.day day.bars.now day.events.now days later ok
    bars.bars terms.terms terms.many terms.all session.since session.answer session.fed session.last kept.kept stands may

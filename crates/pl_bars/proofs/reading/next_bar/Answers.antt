use Rattle.std.proofs.Common.{◌+◌, ◌∙◌, length, ap, sym, arith}
use Rattle.pl_records.specs.Reading.{at_line}
use Rattle.pl_records.proofs.Readings.{told}
use Rattle.pl_bars.specs.Bars as rules
use Rattle.pl_bars.proofs.BarSets.{AreBarsIn-more}
use Rattle.pl_bars.proofs.BarsRead.{no_session, no_asset, negative, duplicate, bar}
use Rattle.pl_bars.proofs.reading.next_bar.Goals as goal

pub returns-in_default-session_of-clause-exact : goal.returns-in_default-session_of-clause-exact
returns-in_default-session_of-clause-exact c =
    told _ rules.NotSession (2 + length c.args.before.now) _
    (no_session c.args.sessions.now c.args.assets.now c.args.before.now c.args.row.now.fields c.in-Some.fields
    (omega (arith, c.if-before-ge-MOST_BARS.false)) (sym c.in-Some.ensures) (sym c.in_default-session_of.ensures.exact)) (omega arith)

pub returns-in_default-col_of-clause-exact : goal.returns-in_default-col_of-clause-exact
returns-in_default-col_of-clause-exact c =
    told _ rules.UnknownSid (2 + length c.args.before.now) _
    (no_asset c.args.sessions.now c.args.assets.now c.args.before.now c.args.row.now.fields c.in-Some.fields
    (omega (arith, c.if-before-ge-MOST_BARS.false)) (sym c.in-Some.ensures) c.in-Some-session_of.session (sym c.in-Some-session_of.ensures.exact)
    (sym c.in_default-col_of.ensures.exact)) (omega arith)

pub returns-then-has_negative-clause-exact : goal.returns-then-has_negative-clause-exact
returns-then-has_negative-clause-exact c =
    told _ rules.Negative (2 + length c.args.before.now) _
    (negative c.args.sessions.now c.args.assets.now c.args.before.now c.args.row.now.fields c.in-Some.fields
    (omega (arith, c.if-before-ge-MOST_BARS.false)) (sym c.in-Some.ensures) c.in-Some-session_of.session (sym c.in-Some-session_of.ensures.exact)
    c.in-Some-col_of.col (sym c.in-Some-col_of.ensures.exact) (sym c.has_negative.ensures ∙ c.if-has_negative.true)) (omega arith)

pub returns-then-contains-clause-exact : goal.returns-then-contains-clause-exact
returns-then-contains-clause-exact c =
    told _ rules.Duplicate (2 + length c.args.before.now) _
    (duplicate c.args.sessions.now c.args.assets.now c.args.before.now c.args.row.now.fields c.in-Some.fields
    (omega (arith, c.if-before-ge-MOST_BARS.false)) (sym c.in-Some.ensures) c.in-Some-session_of.session (sym c.in-Some-session_of.ensures.exact)
    c.in-Some-col_of.col (sym c.in-Some-col_of.ensures.exact) (sym c.has_negative.ensures ∙ c.if-has_negative.false)
    (sym (c.requires.seen.each c.in-Some-col_of.col c.in-Some-session_of.session c.in-Some-col_of.ensures.within c.in-Some-session_of.ensures.within) ∙ sym c.contains.ensures ∙ c.if-contains.true)) (omega arith)

pub returns-clause-seen : goal.returns-clause-seen
returns-clause-seen c =
    AreBarsIn-more c.args.seen.now _ _ _ c.args.before.now _ c.requires.seen c.insert.ensures.cols c.insert.ensures.sessions c.insert.ensures.bars

pub returns-clause-exact : goal.returns-clause-exact
returns-clause-exact c =
    ap (at_line (2 + length c.args.before.now))
    (bar c.args.sessions.now c.args.assets.now c.args.before.now c.args.row.now.fields c.in-Some.fields
    (omega (arith, c.if-before-ge-MOST_BARS.false)) (sym c.in-Some.ensures) c.in-Some-session_of.session (sym c.in-Some-session_of.ensures.exact)
    c.in-Some-col_of.col (sym c.in-Some-col_of.ensures.exact) (sym c.has_negative.ensures ∙ c.if-has_negative.false)
    (sym (c.requires.seen.each c.in-Some-col_of.col c.in-Some-session_of.session c.in-Some-col_of.ensures.within c.in-Some-session_of.ensures.within) ∙ sym c.contains.ensures ∙ c.if-contains.false))

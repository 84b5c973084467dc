use Rattle.std.proofs.Common.{ap, sym, ◌∙◌, arith, Ok}
use Rattle.pl_bars.proofs.BarsRead.{AreBars-read, AreInside-read, AreKept-read}
use Rattle.pl_bars.proofs.BarPieces.{fault-told, none-end, rows-end, bars-end}
use Rattle.pl_bars.proofs.Bars.behind.Goals as goal

pub returns-in_err-judge-clause-exact : goal.returns-in_err-judge-clause-exact
returns-in_err-judge-clause-exact c front were =
    fault-told c.args.sessions.now c.args.assets.now _ _ _ _ c.from_residual.ensures.1 (c.in_err-judge.ensures.fault front were)

pub returns-then-not-judged-clause-exact : goal.returns-then-not-judged-clause-exact
returns-then-not-judged-clause-exact c front were =
    none-end c.args.sessions.now c.args.assets.now _ _ _ c.if-not-judged.true (c.in_ok-judge.ensures.rows front were)

pub ordered-rows-requires-clause-own : goal.ordered-rows-requires-clause-own
ordered-rows-requires-clause-own c = (AreKept-read c.args.sessions.now c.args.assets.now _ _ (omega (arith, c.len-count.ensures.length, c.len-count.ensures.few)) (rows-end c.args.sessions.now c.args.assets.now _ _ _ c.if-not-judged.false (c.in_ok-judge.ensures.rows c.requires.rows.0 c.requires.rows.1))).own

pub new-requires : goal.new-requires
new-requires c = rw c.deref.ensures.value (AreBars-read c.args.sessions.now c.args.assets.now _ _ (omega (arith, c.len-count.ensures.length, c.len-count.ensures.few)) (bars-end c.args.sessions.now c.args.assets.now _ _ (rows-end c.args.sessions.now c.args.assets.now _ _ _ c.if-not-judged.false (c.in_ok-judge.ensures.rows c.requires.rows.0 c.requires.rows.1)) ∙ ap Ok (sym c.ordered-rows.ensures)))

pub invariant_of-result : goal.invariant_of-result
invariant_of-result c = AreBars-read c.args.sessions.now c.args.assets.now _ _ (omega (arith, c.len-count.ensures.length, c.len-count.ensures.few)) (bars-end c.args.sessions.now c.args.assets.now _ _ (rows-end c.args.sessions.now c.args.assets.now _ _ _ c.if-not-judged.false (c.in_ok-judge.ensures.rows c.requires.rows.0 c.requires.rows.1)) ∙ ap Ok (sym c.ordered-rows.ensures))

pub returns-clause-exact : goal.returns-clause-exact
returns-clause-exact c front were =
    bars-end c.args.sessions.now c.args.assets.now _ _ (rows-end c.args.sessions.now c.args.assets.now _ _ _ c.if-not-judged.false (c.in_ok-judge.ensures.rows front were)) ∙ ap Ok (sym c.ordered-rows.ensures)

pub returns-clause-bars : goal.returns-clause-bars
returns-clause-bars c = AreBars-read c.args.sessions.now c.args.assets.now _ _ (omega (arith, c.len-count.ensures.length, c.len-count.ensures.few)) (bars-end c.args.sessions.now c.args.assets.now _ _ (rows-end c.args.sessions.now c.args.assets.now _ _ _ c.if-not-judged.false (c.in_ok-judge.ensures.rows c.requires.rows.0 c.requires.rows.1)) ∙ ap Ok (sym c.ordered-rows.ensures))

pub returns-clause-cols : goal.returns-clause-cols
returns-clause-cols c = (AreInside-read c.args.sessions.now c.args.assets.now _ _ (bars-end c.args.sessions.now c.args.assets.now _ _ (rows-end c.args.sessions.now c.args.assets.now _ _ _ c.if-not-judged.false (c.in_ok-judge.ensures.rows c.requires.rows.0 c.requires.rows.1)) ∙ ap Ok (sym c.ordered-rows.ensures))).cols

pub returns-clause-sessions : goal.returns-clause-sessions
returns-clause-sessions c = (AreInside-read c.args.sessions.now c.args.assets.now _ _ (bars-end c.args.sessions.now c.args.assets.now _ _ (rows-end c.args.sessions.now c.args.assets.now _ _ _ c.if-not-judged.false (c.in_ok-judge.ensures.rows c.requires.rows.0 c.requires.rows.1)) ∙ ap Ok (sym c.ordered-rows.ensures))).sessions

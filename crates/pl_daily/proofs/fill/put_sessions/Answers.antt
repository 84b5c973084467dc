use Rattle.std.proofs.Common.{◌<◌, ◌∙◌, sym, length, arith, length-set}
use Rattle.std.proofs.lemmas.List.{ext_get_or, get_or-map, length-map}
use Rattle.pl_daily.specs.declared.starts.StartCells.{StartCells}
use Rattle.pl_daily.specs.Steps.{sessions_of}
use Rattle.pl_daily.proofs.Begun.{one_more}
use Rattle.pl_daily.proofs.fill.put_sessions.Goals as goal

pub loop-k-preserved : goal.loop-k-preserved
loop-k-preserved c =
    let starts = c.args.starts.now in
    let k = c.loop-k.k in
    let xs = c.loop-k.sessions in
    let known : k < length starts = omega (arith, c.loop-k-test.true, c.requires) in
    let inside : k < length xs = omega (arith, c.loop-k-test.true, c.loop-k.invariant.long) in
    let at = get_or-map (λ (s : StartCells). s.session) starts k c.index-starts-k.result 0 known in
    record {
      long = length-set xs k _ ∙ c.loop-k.invariant.long;
      each = one_more xs (sessions_of starts) k _ c.loop-k.invariant.each inside (sym at);
    }

pub returns : goal.returns
returns c =
    let starts = c.args.starts.now in
    ext_get_or 0 c.loop-k.sessions (sessions_of starts) (c.loop-k.invariant.long ∙ c.requires ∙ sym (length-map starts (λ (s : StartCells). s.session)))
    (λ k h. c.loop-k.invariant.each k (omega (arith, h, c.loop-k-test.false, c.loop-k.invariant.long)))

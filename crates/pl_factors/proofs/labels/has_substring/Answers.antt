use Rattle.std.proofs.Common.{rules, sym, ◌∙◌}
use Rattle.pl_factors.proofs.Substrings.{stands-first, stands-here, stands-later, stands-nowhere}
use Rattle.pl_factors.proofs.labels.has_substring.Goals as goal

pub loop-at-init : goal.loop-at-init
loop-at-init c = stands-first c.args.text.now c.args.label.now

pub returns-then-starts_with : goal.returns-then-starts_with
returns-then-starts_with c =
    sym (c.loop-at.invariant ∙ stands-here c.args.text.now c.args.label.now c.loop-at.at (search rules) (search rules))

pub loop-at-preserved : goal.loop-at-preserved
loop-at-preserved c =
    c.loop-at.invariant ∙ stands-later c.args.text.now c.args.label.now c.loop-at.at (search rules) (search rules)

pub returns : goal.returns
returns c = sym (c.loop-at.invariant ∙ stands-nowhere c.args.text.now c.args.label.now c.loop-at.at (search rules))

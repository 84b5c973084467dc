use Rattle.std.proofs.Common.{◌∙◌, sym, arith}
use Rattle.pl_terms.proofs.Graphs.{graph-long}
use Rattle.pl_daily.specs.Terms.{assets_at, pipeline_at}
use Rattle.pl_daily.proofs.Followed.{newest_whole, read_rings}
use Rattle.pl_daily.proofs.terms.advance_term.Goals as goal

pub is_read_earlier-requires : goal.is_read_earlier-requires
is_read_earlier-requires c = record {
  depths = c.requires.placed.2.may.depths;
  known = omega (arith, c.requires.known, graph-long c.args.lent.now.checked.now.graph);
  many = c.put_row.ensures.terms.many;
}

pub renew_term-requires-clause-own : goal.renew_term-requires-clause-own
renew_term-requires-clause-own c =
    let l = c.args.lent.now in
    λ t e.
    read_rings (assets_at l) (pipeline_at l) l.bars.now c.put_row.new.terms c.args.term.0 c.requires.lent.checked c.put_row.ensures.terms c.requires.used
    (sym c.is_read_earlier.ensures ∙ c.if-is_read_earlier.true) t e

pub returns-then-is_read_earlier-clause-follow : goal.returns-then-is_read_earlier-clause-follow
returns-then-is_read_earlier-clause-follow c =
    λ next days at.
    let put = c.put_row.ensures.follow next days at in (c.renew_term.ensures.follow next days put, put.start)

pub returns-else-is_read_earlier-clause-follow : goal.returns-else-is_read_earlier-clause-follow
returns-else-is_read_earlier-clause-follow c =
    λ next days at.
    let put = c.put_row.ensures.follow next days at in (
      newest_whole c.args.lent.now c.args.term.0 c.put_row.new.terms c.put_row.new.start c.put_row.ensures.terms c.requires.used (sym c.is_read_earlier.ensures ∙ c.if-is_read_earlier.false) next days put,
      put.start,
    )

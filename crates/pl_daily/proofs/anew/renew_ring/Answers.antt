use Rattle.std.proofs.Common.{◌∙◌, ap, sym, subst, length, ℤ, List}
use Rattle.pl_daily.specs.Earlier.{IsReadBack, IsRenewed}
use Rattle.pl_daily.proofs.anew.renew_ring.Goals as goal

pub renew_cells-requires-clause-held : goal.renew_cells-requires-clause-held
renew_cells-requires-clause-held c = (
  c.requires.held.0,
  c.requires.held.1,
  subst (λ (l : List ℤ). IsReadBack c.args.term_day.now c.requires.held.0 c.args.fed (length l)) (sym c.make_contiguous.ensures.value) c.requires.held.2,
)

pub returns-clause-renewed : goal.returns-clause-renewed
returns-clause-renewed c =
    let t = c.args.term_day.now in
    let renewed = subst (λ (l : List ℤ). IsRenewed t c.args.fed c.args.i l c.renew_cells.new.cells) c.make_contiguous.ensures.value c.renew_cells.ensures.renewed in
    λ v is back newest.
    c.make_contiguous.ensures.same_len c.renew_cells.new.cells (c.renew_cells.ensures.long ∙ ap length c.make_contiguous.ensures.value) ∙ renewed v is back newest

use Rattle.std.proofs.Common.{rules, ◌≡◌, ◌==◌, ◌∙◌, ℕ, ◌<◌, [], length, Option, Some, position, option_map, unwrap_or, sym, ap, refl, FitsSigned, w32, w64}
use Rattle.std.proofs.lemmas.List.Quantifiers.{position-Some}
use Rattle.std.proofs.lemmas.Int.{to_z-of_z}
use Rattle.pl_spec.specs.Parts.{sid_at}
use Rattle.pl_spec.proofs.Columns.{no_asset}
use Rattle.pl_spec.specs.declared.Column.TheVariants.{Close}
use Rattle.pl_lifetimes.specs.Assets.{sid_of}
use Rattle.pl_lifetimes.proofs.SidColumns.{sid_form}
use Rattle.pl_bars.proofs.BarWorlds.{cells_raw}
use Rattle.pl_payouts.specs.Ratios.{close_before, raw_close}
use Rattle.pl_payouts.proofs.ratio.close_before.Goals as goal

pub returns-in_err-session-clause-exact : goal.returns-in_err-session-clause-exact
unfolding close_before
returns-in_err-session-clause-exact c =
    let fits : FitsSigned w32 c.args.payout.now.ex = search rules in
    let last = simp to_z-of_z at c.last_before.ensures in
    c.from_residual.ensures ∙ ap (option_map (raw_close c.args.sessions.now c.args.assets.now c.args.bars.now c.args.payout.now.sid)) (sym c.in_err-session.was ∙ last)

pub unwrap-col-requires : goal.unwrap-col-requires
unwrap-col-requires c = rw (c.col_of.ensures.exact, (sid_form c.args.assets.now c.len-assets.ensures.assets c.args.payout.now.sid c.requires.known.0).1 c.requires.known.1) refl

pub returns-clause-exact : goal.returns-clause-exact
unfolding close_before
returns-clause-exact c =
    let fits : FitsSigned w32 c.args.payout.now.ex = search rules in
    let last = simp to_z-of_z at c.last_before.ensures in
    let cell : FitsSigned w64 c.get.result = search rules in
    let days = c.args.sessions.now in
    let assets = c.args.assets.now in
    let bars = c.args.bars.now in
    let sid = c.args.payout.now.sid in
    let col = c.unwrap-col.result in
    let found : position (λ a. sid_of a == sid) assets ≡ Some col = sym c.col_of.ensures.exact ∙ c.unwrap-col.ensures in
    let has = (sid_form assets c.len-assets.ensures.assets sid col).0 found in
    let its_sid : sid_at assets col ≡ sid = ap (λ (o : Option ℕ). unwrap_or o 0) has in
    let inside : col < length assets = (position-Some (λ a. sid_of a == sid) assets col no_asset found).0 in
    let raw = cells_raw days assets [] [] bars [] [] c.len-assets.ensures.assets.ascend c.requires.cols col Close c.in_ok-session.session inside in
    ap (λ x. Some x) (to_z-of_z w64 c.get.result cell ∙ c.get.ensures.value ∙ raw ∙ ap (λ s. raw_close days assets bars s c.in_ok-session.session) its_sid)
    ∙ ap (option_map (raw_close days assets bars sid)) (sym c.in_ok-session.was ∙ last)

use Rattle.std.proofs.Common.{[], ◌∷◌, Some, le_of_eq, refl}
use Rattle.std.proofs.lemmas.Result.{err_from_is_err_and}
use Rattle.pl_outside.specs.declared.keeper.Table.TheVariants.{Splits, Mergers, Dividends}
use Rattle.pl_load.proofs.Calls.{leaves-on}
use Rattle.pl_load.proofs.TableReads.{none-loaded, not-loaded, listed_under, listed-told, one, three, by_table, three-calls, two-calls, splits-told, mergers-told, three-told, none-given, one-given, two-given, three-given, rows-pass, rows-stop}
use Rattle.pl_load.proofs.tables.read_adjustments.Goals as goal

pub returns-in-None-clause-read : goal.returns-in-None-clause-read
returns-in-None-clause-read g c = rw c.in-None.is (none-loaded _ c.args.assets.now _ c.none.ensures)

pub returns-in_err-splits-in-Some-clause-read : goal.returns-in_err-splits-in-Some-clause-read
returns-in_err-splits-in-Some-clause-read g c =
    let p = err_from_is_err_and c.from_residual.result c.from_residual.ensures.1 in
    let s = c.in_err-splits-in-Some.ensures in
    let name = c.in-Some.name.now in
    let rows = listed_under (g.K.AdjustKeeper.lists c.args.keeper.now) (Some name) in
    rw (c.in-Some.is, p.1, p.2)
    (not-loaded _ _ name c.args.assets.now _ Splits _ rows (one rows Splits ∷ []) (listed-told _ _) (one rows Mergers ∷ one rows Dividends ∷ [], refl) (λ names. refl) refl (le_of_eq refl) s.unloaded
    (none-given _ name _ _ [] [] (rows Splits) [] [] _ _ Splits _ s.unloaded s.kept) s.call s.leaves)

pub returns-in_err-mergers-in-Some-clause-read : goal.returns-in_err-mergers-in-Some-clause-read
returns-in_err-mergers-in-Some-clause-read g c =
    let p = err_from_is_err_and c.from_residual-in_err-mergers-in-Some.result c.from_residual-in_err-mergers-in-Some.ensures.1 in
    let s = c.in_ok-splits-in-Some.ensures in
    let m = c.in_err-mergers-in-Some.ensures in
    let name = c.in-Some.name.now in
    let listed = listed_under (g.K.AdjustKeeper.lists c.args.keeper.now) (Some name) in
    let splits = c.in_ok-splits-in-Some.splits.items in
    let rows = by_table splits (listed Mergers) (listed Dividends) in
    rw (c.in-Some.is, p.1, p.2)
    (not-loaded _ _ name c.args.assets.now _ Mergers _ rows (one rows Splits ∷ one rows Mergers ∷ []) (splits-told _ name _ s.rows) (one rows Dividends ∷ [], refl) (λ names. refl) s.leaves.stays s.leaves.later m.unloaded
    (one-given _ name _ _ _ [] splits (listed Mergers) [] _ _ Mergers _ m.unloaded s.loaded m.kept) (two-calls _ _ _ s.call m.call) (leaves-on _ _ _ _ _ _ s.leaves m.leaves))

pub returns-in_err-dividends-in-Some-clause-read : goal.returns-in_err-dividends-in-Some-clause-read
returns-in_err-dividends-in-Some-clause-read g c =
    let p = err_from_is_err_and c.from_residual-in_err-dividends-in-Some.result c.from_residual-in_err-dividends-in-Some.ensures.1 in
    let s = c.in_ok-splits-in-Some.ensures in
    let m = c.in_ok-mergers-in-Some.ensures in
    let d = c.in_err-dividends-in-Some.ensures in
    let name = c.in-Some.name.now in
    let listed = listed_under (g.K.AdjustKeeper.lists c.args.keeper.now) (Some name) in
    let splits = c.in_ok-splits-in-Some.splits.items in
    let mergers = c.in_ok-mergers-in-Some.mergers.items in
    let rows = by_table splits mergers (listed Dividends) in
    let first = leaves-on _ _ _ _ _ _ s.leaves m.leaves in
    rw (c.in-Some.is, p.1, p.2)
    (not-loaded _ _ name c.args.assets.now _ Dividends _ rows (three rows) (mergers-told _ _ name _ _ s.leaves.keeps s.rows m.rows) ([], refl) (λ names. refl) first.stays first.later d.unloaded
    (two-given _ name _ _ _ _ splits mergers (listed Dividends) _ _ Dividends _ d.unloaded s.loaded m.loaded d.kept) (three-calls _ _ _ _ s.call m.call d.call) (leaves-on _ _ _ _ _ _ first d.leaves))

pub returns-in_err-from_rows-in-Some-clause-read : goal.returns-in_err-from_rows-in-Some-clause-read
returns-in_err-from_rows-in-Some-clause-read g c =
    let p = err_from_is_err_and c.from_residual-in_err-from_rows-in-Some.result c.from_residual-in_err-from_rows-in-Some.ensures.1 in
    let s = c.in_ok-splits-in-Some.ensures in
    let m = c.in_ok-mergers-in-Some.ensures in
    let d = c.in_ok-dividends-in-Some.ensures in
    let name = c.in-Some.name.now in
    let told = three-told _ _ _ name _ _ _ s.leaves.keeps m.leaves.keeps s.rows m.rows d.rows in
    let exact = rw (c.deref.ensures.value, c.deref-in-Some.ensures.value, c.deref-in-Some-2.ensures.value) at c.in_err-from_rows-in-Some.ensures.exact in
    rw (c.in-Some.is, p.1)
    (rows-stop name c.args.assets.now _ _ _ _ _ p.0 told p.2.is exact p.2.inside (three-given name _ _ _ _ _ _ _ _ s.loaded m.loaded d.loaded)
    (three-calls _ _ _ _ s.call m.call d.call) (leaves-on _ _ _ _ _ _ (leaves-on _ _ _ _ _ _ s.leaves m.leaves) d.leaves))

pub returns-in_ok-from_rows-in-Some-clause-read : goal.returns-in_ok-from_rows-in-Some-clause-read
returns-in_ok-from_rows-in-Some-clause-read g c =
    let s = c.in_ok-splits-in-Some.ensures in
    let m = c.in_ok-mergers-in-Some.ensures in
    let d = c.in_ok-dividends-in-Some.ensures in
    let name = c.in-Some.name.now in
    let told = three-told _ _ _ name _ _ _ s.leaves.keeps m.leaves.keeps s.rows m.rows d.rows in
    let exact = rw (c.deref.ensures.value, c.deref-in-Some.ensures.value, c.deref-in-Some-2.ensures.value) at c.in_ok-from_rows-in-Some.ensures.exact in
    rw c.in-Some.is
    (rows-pass name c.args.assets.now _ _ _ c.in_ok-from_rows-in-Some.field-0 told exact (three-given name _ _ _ _ _ _ _ _ s.loaded m.loaded d.loaded)
    (three-calls _ _ _ _ s.call m.call d.call) (leaves-on _ _ _ _ _ _ (leaves-on _ _ _ _ _ _ s.leaves m.leaves) d.leaves))

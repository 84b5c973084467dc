use Rattle.std.proofs.Common.{◌≡◌, ◌++◌, ◌∙◌, ap, map, subst}
use Rattle.std.proofs.lemmas.List.Elements.{All-append}
use Rattle.std.proofs.lemmas.Result.{IfOk-weaker}
use Rattle.pl_adjust.specs.Columns.{IsByPlace}
use Rattle.pl_adjust.specs.Revised.{revised_columns}
use Rattle.pl_adjust.specs.Rows.{row_of}
use Rattle.pl_adjust.proofs.ByDays.{rows_are}
use Rattle.pl_adjust.proofs.ByPlace.{by_place_is}
use Rattle.pl_adjust.proofs.Made.{Puts}
use Rattle.pl_adjust.proofs.Adjustments.with_revisions.Goals as goal

pub of_rows-requires : goal.of_rows-requires
of_rows-requires c =
    let rows = rw (c.deref.ensures.value, c.deref-2.ensures.value) at c.in_ok-rows.ensures in
    rw (c.in_ok-add_rows.ensures, rows, rows_are)
    (All-append Puts _ _ c.self.invariant.0.puts c.requires.cells)

pub returns : goal.returns
returns c =
    let more = revised_columns c.args.assets.now c.args.revisions.now in
    let rows = rw (c.deref.ensures.value, c.deref-2.ensures.value) at c.in_ok-rows.ensures in
    let all : map row_of c.add_rows.new.rows.items ≡ c.args.self.now ++ more =
    c.in_ok-add_rows.ensures ∙ ap (λ l. l ++ more) (ap (map row_of) rows ∙ rows_are _ _ ∙ c.self.view_is) in
    IfOk-weaker c.of_rows.result _ _ (λ made h. by_place_is (c.args.self.now ++ more) made (subst (λ l. IsByPlace l made) all h)) c.of_rows.ensures

use Rattle.std.proofs.Common.{◌<◌, length, w32, Some, None}
use Rattle.std.proofs.lemmas.Int.{to_z-of_z}
use Rattle.pl_assets.specs.Labels.{names_of}
use Rattle.pl_assets.specs.LabelPlaces.{IsLastStarted, shown_rows}
use Rattle.pl_assets.proofs.LabelSearch.{last_code, last_known}
use Rattle.pl_assets.proofs.labels.Labels.label_at.Goals as goal

pub returns-in-Some-clause-code : goal.returns-in-Some-clause-code
returns-in-Some-clause-code c =
    let named : c.args.name < length (names_of (shown_rows c.self.inside.rows)) = rw (← c.self.view_is) at c.requires in
    let last : IsLastStarted c.self.inside.rows.places.items c.args.name c.args.col c.args.day (Some c.in-Some.place) = rw (to_z-of_z w32 c.args.day c.ranges.day, c.in-Some.is) at c.last_started.ensures in
    rw (← c.self.view_is) (last_code c.self.inside.rows c.self.invariant.numbered c.args.name c.args.col c.args.day named c.self.invariant.labels.once (Some c.in-Some.place) last)

pub returns-in-Some-clause-known : goal.returns-in-Some-clause-known
returns-in-Some-clause-known c =
    let named : c.args.name < length (names_of (shown_rows c.self.inside.rows)) = rw (← c.self.view_is) at c.requires in
    let last : IsLastStarted c.self.inside.rows.places.items c.args.name c.args.col c.args.day (Some c.in-Some.place) = rw (to_z-of_z w32 c.args.day c.ranges.day, c.in-Some.is) at c.last_started.ensures in
    rw (← c.self.view_is) (last_known c.self.inside.rows c.self.invariant.numbered c.args.name c.args.col c.args.day named c.self.invariant.labels.once (Some c.in-Some.place) last)

pub returns-in-None-clause-code : goal.returns-in-None-clause-code
returns-in-None-clause-code c =
    let named : c.args.name < length (names_of (shown_rows c.self.inside.rows)) = rw (← c.self.view_is) at c.requires in
    let last : IsLastStarted c.self.inside.rows.places.items c.args.name c.args.col c.args.day None = rw (to_z-of_z w32 c.args.day c.ranges.day, c.in-None.is) at c.last_started.ensures in
    rw (← c.self.view_is) (last_code c.self.inside.rows c.self.invariant.numbered c.args.name c.args.col c.args.day named c.self.invariant.labels.once None last)

pub returns-in-None-clause-known : goal.returns-in-None-clause-known
returns-in-None-clause-known c =
    let named : c.args.name < length (names_of (shown_rows c.self.inside.rows)) = rw (← c.self.view_is) at c.requires in
    let last : IsLastStarted c.self.inside.rows.places.items c.args.name c.args.col c.args.day None = rw (to_z-of_z w32 c.args.day c.ranges.day, c.in-None.is) at c.last_started.ensures in
    rw (← c.self.view_is) (last_known c.self.inside.rows c.self.invariant.numbered c.args.name c.args.col c.args.day named c.self.invariant.labels.once None last)

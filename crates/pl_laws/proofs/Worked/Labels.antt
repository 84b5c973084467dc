-- Labels, groups by labels, and tests of labels.
use Rattle.std.specs.Prelude.{◌≡◌, pos, negsuc, refl, codes, List, [], ◌∷◌, map, Some, None}
use Rattle.pl_spec.specs.Rounding.{MISSING}
use Rattle.pl_spec.specs.declared.Column.TheVariants.{Close}
use Rattle.pl_spec.specs.World.{World, label_at}
use Rattle.pl_pipeline.specs.Kind.{Kind, PointKind, LabelKind, CrossKind}
use Rattle.pl_pipeline.specs.Term.{Term}
use Rattle.pl_pipeline.specs.Term.Term.{absent, node}
use Rattle.pl_pipeline.specs.Value.{Value}
use Rattle.pl_pipeline.specs.Value.Value.{Number, Text}
use Rattle.pl_laws.proofs.Worked.Worlds.{opened, units, label_row, plain, sector, grouped, sectors, point, across, latest, by_asset}

-- a label from 2024-01-03 on, and none from 01-05 on
relabelled : World
relabelled = record plain { labels = record (label_row sector 1 (codes "a")) { start = pos 19725 } ∷ record (label_row sector 1 []) { start = pos 19727 } ∷ [] }

label_holds_from_its_start : map (λ d. label_at relabelled sector 1 (pos d)) (0 ∷ 1 ∷ 2 ∷ 3 ∷ []) ≡ None ∷ Some (codes "a") ∷ Some (codes "a") ∷ None ∷ []
unfolding relabelled
label_holds_from_its_start = refl

label : Term
label = node (Kind.Label 0) 1 absent absent absent absent absent

of_sectors : Term → List Value
of_sectors t = by_asset (grouped sectors) (sector ∷ []) t

labels_are_texts : of_sectors label ≡ Text (codes "tech") ∷ Text (codes "tech") ∷ Text (codes "Oil, Gas") ∷ Number MISSING ∷ []
unfolding of_sectors label opened
labels_are_texts = refl

values_less_their_groups_mean : of_sectors (across CrossKind.Demean (latest Close) label) ≡ Number (negsuc 1499999) ∷ Number (pos 1500000) ∷ Number (pos 0) ∷ Number MISSING ∷ []
unfolding of_sectors label opened
values_less_their_groups_mean = refl

without_labels_there_are_no_groups : by_asset (grouped []) (sector ∷ []) (across CrossKind.Demean (latest Close) label) ≡ Number MISSING ∷ Number MISSING ∷ Number MISSING ∷ Number MISSING ∷ []
unfolding label opened
without_labels_there_are_no_groups = refl

peers_have_ones_own_label : of_sectors (across CrossKind.PeerCount label absent) ≡ Number (units 2) ∷ Number (units 2) ∷ Number (units 1) ∷ Number MISSING ∷ []
unfolding of_sectors label opened
peers_have_ones_own_label = refl

tested : LabelKind → List Value
tested k = of_sectors (node (Kind.LabelTest k) 1 label absent absent absent absent)

labels_that_begin_so : tested (LabelKind.StartsWith (codes "te")) ≡ Number (pos 1) ∷ Number (pos 1) ∷ Number (pos 0) ∷ Number (pos 0) ∷ []
unfolding tested of_sectors label opened
labels_that_begin_so = refl

labels_that_end_so : tested (LabelKind.EndsWith (codes "Gas")) ≡ Number (pos 0) ∷ Number (pos 0) ∷ Number (pos 1) ∷ Number (pos 0) ∷ []
unfolding tested of_sectors label opened
labels_that_end_so = refl

labels_that_have_it : tested (LabelKind.HasSubstring (codes ", ")) ≡ Number (pos 0) ∷ Number (pos 0) ∷ Number (pos 1) ∷ Number (pos 0) ∷ []
unfolding tested of_sectors label opened
labels_that_have_it = refl

labels_among_some : tested (LabelKind.ElementOf (codes "Oil" ∷ codes "tech" ∷ [])) ≡ Number (pos 1) ∷ Number (pos 1) ∷ Number (pos 0) ∷ Number (pos 0) ∷ []
unfolding tested of_sectors label opened
labels_among_some = refl

-- false where there is no label
labels_other_than_one : tested (LabelKind.LabelIsNot (codes "tech")) ≡ Number (pos 0) ∷ Number (pos 0) ∷ Number (pos 1) ∷ Number (pos 0) ∷ []
unfolding tested of_sectors label opened
labels_other_than_one = refl

what_has_no_label : of_sectors (point PointKind.IsNull (label ∷ [])) ≡ Number (pos 0) ∷ Number (pos 0) ∷ Number (pos 0) ∷ Number (pos 1) ∷ []
unfolding of_sectors label opened
what_has_no_label = refl

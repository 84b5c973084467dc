-- Where two worlds tell the same of what a kind reads, it gives the same.
use Rattle.std.proofs.Common.{◌≡◌, ℕ, Bool, true, false, ◌&&◌, if◌then◌else◌, ℤ, List, map, filter, refl, ◌∙◌, ap}
use Rattle.pl_spec.specs.Rounding.{is_present}
use Rattle.pl_spec.specs.World.{World, living_sids, label_at, known_number}
use Rattle.pl_spec.proofs.Each.{Each, each_more, each_all, filter_each}
use Rattle.pl_spec.specs.declared.Figure.{Figure}
use Rattle.pl_pipeline.specs.Kind as kinds
use Rattle.pl_pipeline.specs.Kind.{Kind, CrossKind}
use Rattle.pl_pipeline.specs.Kind.Kind.{Label, Window, Point, LabelTest, Cross, Downsample}
use Rattle.pl_pipeline.specs.Kind.CrossKind.{PeerCount}
use Rattle.pl_pipeline.specs.Graph.{reads_at}
use Rattle.pl_pipeline.specs.Value.{Part, Operands, number_of, holds, is_same, value_of_part, window_of, passes, in_group, entry, counts_for, eligible, group_of, label_value, name_at, test_value, kind_value}
use Rattle.pl_pipeline.specs.Value.Value.{Number}
use Rattle.pl_pipeline.specs.Value.Part.{Nothing, Bars, Values}

abbrev pub is_nothing : Part → Bool
is_nothing Nothing = true
is_nothing p = false

-- two parts tell the same of asset b on session d
pub record Alike (x y : Part) (b : ℕ) (d : ℤ) : Type 0 where
  pub value : value_of_part x b d ≡ value_of_part y b d
  pub nothing : is_nothing x ≡ is_nothing y

passes-is : (x : Part) (b : ℕ) (d : ℤ) → passes x b d ≡ (if is_nothing x then true else holds (value_of_part x b d))
passes-is Nothing b d = refl
passes-is (Bars c view) b d = refl
passes-is (Values f) b d = refl

in_group-is : (x : Part) (a b : ℕ) (d : ℤ)
    → in_group x a d b ≡ (if is_nothing x then true else (is_present (number_of (value_of_part x a d)) && is_same (value_of_part x a d) (value_of_part x b d)))
in_group-is Nothing a b d = refl
in_group-is (Bars c view) a b d = refl
in_group-is (Values f) a b d = refl

pub passes_alike : (x y : Part) (b : ℕ) (d : ℤ) → Alike x y b d → passes x b d ≡ passes y b d
passes_alike x y b d h = rw (passes-is x b d, passes-is y b d, h.nothing, h.value) refl

in_group_alike : (x y : Part) (a b : ℕ) (d : ℤ) → Alike x y a d → Alike x y b d → in_group x a d b ≡ in_group y a d b
in_group_alike x y a b d h i = rw (in_group-is x a b d, in_group-is y a b d, h.nothing, h.value, i.value) refl

-- ---- cross-sections

-- operands tell the same of an asset that may count
pub record AlikeEntry (o q : Operands) (b : ℕ) (d : ℤ) : Type 0 where
  pub first : Alike o.first q.first b d
  pub mask : Alike o.mask q.mask b d
  pub group : Alike o.group q.group b d

group_alike : (k : CrossKind) (o q : Operands) (b : ℕ) (d : ℤ) → AlikeEntry o q b d → Alike (group_of k o.first o.group) (group_of k q.first q.group) b d
group_alike PeerCount o q b d h = h.first
group_alike k o q b d h = h.group

module _ (w v : World) (k : CrossKind) (o q : Operands) (a : ℕ) (d : ℤ) (own : AlikeEntry o q a d) where
  counts_alike : (b : ℕ) → AlikeEntry o q b d → (counts_for k o a d b ≡ counts_for k q a d b) × (entry o.first d b ≡ entry q.first d b)
  counts_alike b h =
      let mask = passes_alike o.mask q.mask b d h.mask in
      let group = in_group_alike (group_of k o.first o.group) (group_of k q.first q.group) a b d (group_alike k o q a d own) (group_alike k o q b d h) in
      (rw (mask, h.first.value, group) refl, rw h.first.value refl)

  pub eligible_alike : living_sids w d ≡ living_sids v d → Each (λ b. AlikeEntry o q b d) (living_sids w d) → eligible w k o a d ≡ eligible v k q a d
  eligible_alike same h =
      filter_each (entry o.first d) (entry q.first d) (counts_for k o a d) (counts_for k q a d) (living_sids w d)
      (each_more (λ b. AlikeEntry o q b d) _ (living_sids w d) counts_alike h)
      ∙ ap (λ sids. map (entry q.first d) (filter (counts_for k q a d) sids)) same

-- ---- any kind

-- two parts tell the same on session d, of each asset and in its window
pub record SamePart (w v : World) (size : ℕ) (x y : Part) (d : ℤ) : Type 0 where
  pub now : (b : ℕ) → Alike x y b d
  pub window : (b : ℕ) → window_of w size x b d ≡ window_of v size y b d

-- Two worlds tell the same of what a kind reads for asset a on session d: its inputs up to the session that
-- it reads them at, its mask and its group on d.
pub record SameReads (w v : World) (k : Kind) (size : ℕ) (o q : Operands) (a : ℕ) (d : ℤ) : Type 0 where
  pub labels : (name : List ℕ) → label_at w name a d ≡ label_at v name a d
  pub numbers : (f : Figure) (name : List ℕ) → known_number w f name a d ≡ known_number v f name a d
  pub living : living_sids w d ≡ living_sids v d
  pub reads : reads_at w.days k d ≡ reads_at v.days k d
  pub first : SamePart w v size o.first q.first (reads_at w.days k d)
  pub second : SamePart w v size o.second q.second (reads_at w.days k d)
  pub third : SamePart w v size o.third q.third (reads_at w.days k d)
  pub mask : (b : ℕ) → Alike o.mask q.mask b d
  pub group : (b : ℕ) → Alike o.group q.group b d

module _ (w v : World) (names : List (List ℕ)) (size : ℕ) (o q : Operands) (a : ℕ) (d : ℤ) where
  pub step_alike : (k : Kind) → SameReads w v k size o q a d → kind_value w names k size o a d ≡ kind_value v names k size q a d
  unfolding kind_value
  step_alike (Label n) h = ap label_value (h.labels (name_at names n))
  step_alike (kinds.Number f n) h = ap Number (h.numbers f (name_at names n))
  step_alike (Window k) h = rw (h.first.window a, h.second.window a, h.third.window a) refl
  step_alike (Point k) h = rw ((h.first.now a).value, (h.second.now a).value, (h.third.now a).value) refl
  step_alike (LabelTest k) h = ap (test_value k) (h.first.now a).value
  step_alike (Cross k) h =
      let alike : (b : ℕ) → AlikeEntry o q b d = λ b. record { first = h.first.now b; mask = h.mask b; group = h.group b } in
      rw (eligible_alike w v k o q a d (alike a) h.living (each_all _ (living_sids w d) alike), (h.first.now a).value) refl
  step_alike (Downsample f) h = (h.first.now a).value ∙ ap (value_of_part q.first a) h.reads
  step_alike k h = refl

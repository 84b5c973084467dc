-- What a term is worth on a session, family by family.
use Rattle.std.proofs.Common.{◌≡◌, ℕ, ◌<◌, true, ℤ, pos, List, length, get_or, Option, Some, slice_get, sym, ◌∙◌, ap, subst, arith, unwrap_or, option_map}
use Rattle.std.specs.Option.{option_and_then}
use Rattle.std.proofs.lemmas.List.{length-map}
use Rattle.pl_spec.specs.Rounding.{MISSING}
use Rattle.pl_spec.specs.Parts.{sid_at}
use Rattle.pl_spec.specs.Numbers.{number_at}
use Rattle.pl_spec.specs.World.{World, label_at, known_number}
use Rattle.pl_pipeline.specs.Kind.Kind.{Downsample}
use Rattle.pl_pipeline.specs.Term as spec
use Rattle.pl_pipeline.specs.Term.Input.{TermInput}
use Rattle.pl_pipeline.specs.Table.{Pipeline}
use Rattle.std.proofs.lemmas.Int.{ints}
use Rattle.pl_spec.specs.declared.Frequency.{Frequency}
use Rattle.pl_spec.specs.Periods.{period_start}
use Rattle.pl_spec.specs.declared.Figure.{Figure}
use Rattle.pl_values.proofs.Downsampled.{over}
use Rattle.pl_terms.specs.Sorts.{is_downsampled}
use Rattle.pl_cross.specs.Arrays.{sid_in}
use Rattle.pl_cross.specs.Section.{is_section}
use Rattle.pl_values.specs.Arrays.{cell_of, chosen, kept_or, Fills}
use Rattle.pl_values.specs.Laws.{IsNode, IsGivenCell}
use Rattle.pl_values.proofs.Rows.{given-by, kept-cells, IsSection}
use Rattle.pl_values.proofs.Given.{downsampled-cell}
use Rattle.pl_values.specs.Inputs.{IsInputRow, IsGroupRow}
use Rattle.pl_assets.specs.Labels.{label_on}
use Rattle.pl_assets.proofs.LabelWorlds.{labels_those}
use Rattle.pl_numbers.specs.Numbers.{number_on}
use Rattle.pl_numbers.proofs.NumberWorlds.{numbers_those}
use Rattle.pl_exec.proofs.Places.{sid_of_place}
use Rattle.pl_exec.specs.declared.term_session.TermSession.{TermSession}
use Rattle.pl_exec.specs.Tasks.{assets_in, sids_in}
use Rattle.pl_exec.specs.ChunkInputs.{IsRead, IsTermSession, IsKept, IsRowOfTerm, task_at, node_at}

-- ---- the rows of a term on a session

module _ (t : TermSession) (is : IsTermSession t) where
  abbrev w : World
  w = (task_at t).world

  abbrev p : Pipeline
  p = (task_at t).pipeline

  abbrev sids : List ℕ
  sids = sids_in (task_at t)

  abbrev n : spec.Node
  n = node_at t

  pub node_is : IsNode p t.term.0 n
  node_is = record { checked = is.chunk.task.checked; node = is.node }

  pub sids_long : length sids ≡ assets_in (task_at t)
  sids_long = length-map (task_at t).cols (sid_at w.assets)

  -- the input of a downsampled term, and its cells of the first session of the period
  pub start_input : is_downsampled n.kind ≡ true → (u : ℕ) × (slice_get n.inputs 0 ≡ Some (TermInput u))
  start_input e = let o = over p is.chunk.task.checked t.term.0 n is.node e in (o.input, o.first)

  pub start_given : (f : Frequency) (u r : ℕ) (row : List ℤ) → n.kind ≡ Downsample f → slice_get n.inputs 0 ≡ Some (TermInput u) → pos r ≡ period_start f w.days (pos t.session)
      → Fills (λ i. cell_of w p sids u i r) (assets_in (task_at t)) row
      → (i : ℕ) → i < assets_in (task_at t) → IsGivenCell w p sids t.term.0 n i t.session (get_or row i (pos 0))
  start_given f u r row e input h read i l = given-by w p sids t.term.0 n i t.session _ _ (read.each i l) (downsampled-cell w p sids t.term.0 n i t.session node_is f u r e input h) (read.cell i l)

  pub start_read : (f : Frequency) (u r : ℕ) → n.kind ≡ Downsample f → slice_get n.inputs 0 ≡ Some (TermInput u) → pos r ≡ period_start f w.days (pos t.session) → IsRead (task_at t) t.workspace.now r 1 u
  start_read f u r e input h =
      let x = is.ready.inputs 0 u input in
      let a = is.ready.start f u e input in
      record { known = x.known; used = x.used; held = x.held; some = omega arith; early = omega (arith, ints, a, h) }

  -- the label of a place is that of its column
  pub label_here : (i : ℕ) (name : List ℕ) (day : ℤ) → i < assets_in (task_at t) → slice_get w.days t.session ≡ Some day
      → label_at w name (sid_in sids i) (pos t.session) ≡ label_on t.chunk.now.world.labels.now.rows name (get_or t.chunk.now.cols.now i 0) day
  label_here i name day asset dated =
      let parts = is.chunk.made.parts in
      ap (λ a. label_at w name a (pos t.session)) (sid_of_place t.chunk.now.world.assets.now t.chunk.now.cols.now i asset)
      ∙ labels_those t.chunk.now.world.sessions.now t.chunk.now.world.assets.now t.chunk.now.world.labels.now.rows t.chunk.now.world.labels.now.texts t.chunk.now.world.bars.now t.chunk.now.world.adjustments.now t.chunk.now.world.numbers.now.rows
      parts.sids_ascend parts.labels_in name (get_or t.chunk.now.cols.now i 0) (pos t.session) (is.chunk.task.columns.within i 0 asset)
      ∙ ap (option_and_then (label_on t.chunk.now.world.labels.now.rows name (get_or t.chunk.now.cols.now i 0))) dated

  -- so is the number
  pub number_here : (f : Figure) (i : ℕ) (name : List ℕ) (day : ℤ) → i < assets_in (task_at t) → slice_get w.days t.session ≡ Some day
      → known_number w f name (sid_in sids i) (pos t.session) ≡ number_on f t.chunk.now.world.numbers.now.rows name (get_or t.chunk.now.cols.now i 0) day
  number_here f i name day asset dated =
      let parts = is.chunk.made.parts in
      ap (λ a. known_number w f name a (pos t.session)) (sid_of_place t.chunk.now.world.assets.now t.chunk.now.cols.now i asset)
      ∙ ap (λ o. unwrap_or (option_map (number_at f w.numbers name (sid_at w.assets (get_or t.chunk.now.cols.now i 0))) o) MISSING) dated
      ∙ numbers_those t.chunk.now.world.assets.now t.chunk.now.world.numbers.now.rows parts.sids_ascend parts.numbers_in f name (get_or t.chunk.now.cols.now i 0) day (is.chunk.task.columns.within i 0 asset)

  -- ---- rows of inputs

  pub fills_sids : (f : ℕ → ℤ) (row : List ℤ) → Fills f (assets_in (task_at t)) row → Fills f (length sids) row
  fills_sids f row b = subst (λ m. Fills f m row) (sym sids_long) b

  -- what is computed for all assets, and then put away where they are not kept
  pub kept_out : (keep made out : List ℤ) → IsKept t keep → ((i : ℕ) → i < assets_in (task_at t) → IsGivenCell w p sids t.term.0 n i t.session (get_or made i (pos 0)))
      → length out ≡ assets_in (task_at t)
      → ((i : ℕ) → i < assets_in (task_at t) → get_or out i (pos 0) ≡ kept_or t.empty keep (λ j. get_or made j (pos 0)) i) → IsRowOfTerm t out
  kept_out keep made out kept given size picked =
      kept-cells w p sids t.term.0 n (λ i. i) (λ i. t.session) (assets_in (task_at t)) (λ i. get_or made i (pos 0)) out t.empty is.empty
      (λ i h. picked i h ∙ ap (λ b. chosen b (get_or made i (pos 0)) t.empty) (kept.each i h)) size given

  pub section_is : (values keep : List ℤ) (labels : Option (List ℤ)) → IsInputRow w p sids (assets_in (task_at t)) (slice_get n.inputs 0) t.session values → IsKept t keep
      → IsGroupRow w p sids n.group t.session labels
      → is_section n.kind ≡ true → IsSection w p sids t.term.0 n t.session (assets_in (task_at t)) values keep labels
  section_is values keep labels read kept grouped e = record {
    node = node_is;
    kind = e;
    texts = is.chunk.task.texts;
    long = sids_long;
    ascend = is.chunk.task.up;
    all = is.all;
    values = read;
    keep = kept;
    groups = grouped;
  }

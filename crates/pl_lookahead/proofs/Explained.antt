-- Derivations of commands that agree up to a session are the same bytes, but for the codes of labels.
use Rattle.std.proofs.Common.{◌≡◌, ◌≢◌, ℕ, suc, ◌≤◌, ◌==◌, Bool, true, false, subst, ℤ, pos, ◌≤ℤ◌, List, [], ◌∷◌, ◌++◌, length, map, filter, Option, Some, None, option_map, unwrap_or, refl, sym, ◌∙◌, ap, arith, slice_get, Contains}
use Rattle.std.specs.Int.RustNames.{int_le}
use Rattle.std.proofs.lemmas.Bool.{ne_eqb}
use Rattle.std.proofs.lemmas.Int.{ints}
use Rattle.pl_records.specs.Reading.{Fault, ◌>>=◌}
use Rattle.std.proofs.Common.{Result, Ok, Err}
use Rattle.pl_spec.specs.declared.AssetRow.{AssetRow}
use Rattle.pl_spec.specs.Numbers.{known_at, numbers_by, NumberRow, NumbersOnce}
use Rattle.pl_spec.specs.Parts.{ColumnLabel, label_of}
use Rattle.pl_spec.specs.World.{World, IsWorld, LabelRow}
use Rattle.pl_spec.proofs.Finds.{filter-contains}
use Rattle.pl_spec.proofs.Members.{in-contains, contains-in, in-map, map-in, filter-in}
use Rattle.pl_pipeline.specs.Table.{Pipeline}
use Rattle.pl_cross.specs.Arrays.{HasTexts}
use Rattle.pl_laws.proofs.Law.{SeenAlike}
use Rattle.pl_values.proofs.Texts.{seen-in}
use Rattle.pl_assets.specs.Labels.{DataFault, LabelTable, is_text, texts_of, table_of, label_rows_in, labels_of}
use Rattle.pl_words.specs.declared.request.InputFile.TheVariants.{Pipeline as PipelineFile, Labels}
use Rattle.pl_words.specs.Request.{Explain, ExplainRequest, numbers_named}
use Rattle.pl_derivation.specs.Lines.{Line}
use Rattle.pl_derivation.specs.Texts as lines
use Rattle.pl_derivation.specs.Walks.{derivation}
use Rattle.pl_load.specs.Cells.{column_term, term_asked, cell_steps, lines_step}
use Rattle.pl_load.specs.Contents.{Contents}
use Rattle.pl_load.specs.Held.{assets_held, days_held, labels_asked, labels_in, pipeline_held, world_held}
use Rattle.pl_load.specs.Range.{index_of}
use Rattle.pl_load.specs.Work.{work, cell_work, evaluated_steps, data_steps}
use Rattle.pl_cli.specs.Texts.{text_of}
use Rattle.pl_lookahead.specs.Agreement.{AgreeUpTo}
use Rattle.pl_lookahead.specs.Derivations.{recoded, world_asked, lines_held, AskCell, HaveSameCodes, LaterDataChangeNoDerivation}
use Rattle.pl_lookahead.specs.Laws.{HasNoFault}
use Rattle.pl_lookahead.proofs.Dates.{by_place, one_place}
use Rattle.pl_lookahead.proofs.Derivations as walks
use Rattle.pl_lookahead.proofs.Held.{days-are, held-once}
use Rattle.pl_lookahead.proofs.Known.{seen-alike}
use Rattle.pl_lookahead.proofs.Readable.{AreRead, data-read, date-found, first-none, records_in}
use Rattle.pl_lookahead.proofs.Records.{known-without, known-permuted}
use Rattle.pl_lookahead.proofs.SameCodes.{code-same, seen-code-same}
use Rattle.pl_lookahead.proofs.Texts.{changes-same, ended-well, place-at}

-- ---- label texts that were read have codes

text-told : (text : List ℕ) → text ≢ [] → is_text text ≡ true
text-told [] full = absurd (full refl)
text-told (b ∷ bs) full = let more : (suc (length bs) == 0) ≡ false = ne_eqb (suc (length bs)) 0 (λ e. omega arith) in rw more refl

table-coded : (assets : List AssetRow) (rows : List ColumnLabel) (r : LabelRow) → Contains (map (label_of assets) rows) r → r.text ≢ [] → Contains (texts_of rows) r.text
table-coded assets rows r there full =
    let at = in-map (label_of assets) rows r (contains-in (map (label_of assets) rows) r there) in
    let same : r.text ≡ at.0.text = ap (λ (q : LabelRow). q.text) at.2 in
    let told : is_text r.text ≡ true = text-told r.text full in
    let among = filter-in is_text (map (λ (q : ColumnLabel). q.text) rows) at.0.text (map-in (λ (q : ColumnLabel). q.text) rows at.0 at.1) (rw same at told) in
    in-contains (texts_of rows) r.text (rw same (seen-in (filter is_text (map (λ (q : ColumnLabel). q.text) rows)) at.0.text among))

labels-coded : (assets : List AssetRow) (name file : Option (List ℕ)) → ((n : List ℕ) → name ≡ Some n → labels_of assets (records_in file) ≡ Ok (labels_in assets file))
    → (r : LabelRow) → Contains (map (label_of assets) (labels_asked assets name file).rows) r → r.text ≢ [] → Contains (labels_asked assets name file).texts r.text
unfolding labels_of
labels-coded assets None file h r there full = absurd (omega (arith, there.1))
labels-coded assets (Some n) file h r there full = here (label_rows_in assets (records_in file)) (h n refl)
  where
    here : (x : Result (List ColumnLabel) (Fault DataFault)) → (x >>= λ rows. Ok (table_of rows)) ≡ Ok (labels_in assets file) → Contains (labels_in assets file).texts r.text
    here (Ok rows) e =
        let same : table_of rows ≡ labels_in assets file = cc in
        let told = subst (λ (t : LabelTable). Contains (map (label_of assets) t.rows) r) (sym same) there in
        subst (λ (t : LabelTable). Contains t.texts r.text) same (table-coded assets rows r told full)
    here (Err fault) e = absurd (cc)

world-coded : (held : Contents) (q : ExplainRequest) → AreRead held q.world → HasTexts (world_asked held q)
world-coded held q read r there full = labels-coded (assets_held held) q.world.labels (held.file Labels) read.labels r there full

-- ---- a derivation without a fault

-- its data are read, and its date is that of a session
record IsAsked (held : Contents) (q : ExplainRequest) : Type 0 where
  pub read : AreRead held q.world
  pub at : ℕ
  pub at_is : slice_get (days_held held) at ≡ Some q.date.day
  pub index_is : index_of (days_held held) q.date.day ≡ at

asked : (held : Contents) (q : ExplainRequest) → HasNoFault held (Explain q) → IsAsked held q
unfolding work
asked held q h =
    let days = days_held held in
    let cell = cell_steps (pipeline_held held) days (assets_held held) q in
    let one = first-none (cell_work held q) (lines_step (world_held held q.world) (pipeline_held held) q ∷ []) h in
    let two = first-none (evaluated_steps (held.file PipelineFile) (numbers_named q.world)) (data_steps held q.world ++ cell) one.0 in
    let three = first-none (data_steps held q.world) cell two.1 in
    let found = date-found (pipeline_held held) days (assets_held held) q three.1 in
    record { read = data-read held q.world three.0; at = found.0; at_is = place-at days q.date.day found.0 found.1; index_is = ap (λ o. unwrap_or o 0) found.1 }

asked-text : (held : Contents) (q : ExplainRequest) → text_of held (Some (Explain q)) ≡ lines.text_of (lines_held held q)
unfolding text_of
asked-text held q = refl

-- ---- two commands that agree

module _ (one other : Contents) (q r : ExplainRequest) (d : ℕ) (day : ℤ) (ask : AskCell q r day) (agree : AgreeUpTo one other q.world r.world d day) (is : IsAsked one q) (is' : IsAsked other r) where
  abbrev w : World
  w = world_asked one q

  abbrev v : World
  v = world_asked other r

  abbrev p : Pipeline
  p = pipeline_held one

  at-by : is.at ≤ d
  at-by = by_place (days_held one) (days-are one q.world is.read).ascend is.at d q.date.day day is.at_is agree.rows.is_day ask.by_day

  at-same : is.at ≡ is'.at
  at-same =
      one_place (days_held one) (days_held other) (days-are one q.world is.read).ascend (days-are other r.world is'.read).ascend d day agree.rows.is_day agree.rows.sessions
      is.at is'.at q.date.day at-by is.at_is (is'.at_is ∙ ap Some (sym ask.date))

  record-same : (name : List ℕ) (a : ℕ) (x : ℤ) → x ≤ℤ day → known_at w.numbers name a x ≡ known_at v.numbers name a x
  record-same name a x h =
      sym (known-without name a w.numbers day x h)
      ∙ known-permuted name a (numbers_by day w.numbers) (numbers_by day v.numbers) once agree.rows.numbers x
      ∙ known-without name a v.numbers day x h
    where
      by_day : NumberRow → Bool
      by_day r = int_le r.known day

      once : NumbersOnce (numbers_by day w.numbers)
      once x y in_x in_y =
          (held-once one q.world is.read).numbers x y (filter-contains by_day w.numbers x in_x).0 (filter-contains by_day w.numbers y in_y).0

  first-world : IsWorld w
  first-world = (held-once one q.world is.read).world

  second-world : IsWorld v
  second-world = (held-once other r.world is'.read).world

  seen : SeenAlike w v (pos d) day
  seen = seen-alike w v d day (held-once one q.world is.read) second-world agree.rows (changes-same one other q.world r.world d day agree is.read is'.read)

  -- the lines of the cell, at its session
  abbrev lines_at : World → Pipeline → List ℕ → ℕ → ℕ → List Line
  lines_at u g column sid i = derivation u g (unwrap_or (column_term g column) 0) sid (pos i)

  second-lines : lines_at v p q.column q.sid is.at ≡ lines_held other r
  second-lines =
      ap (λ g. lines_at v g q.column q.sid is.at) agree.pipelines
      ∙ ap (λ c. lines_at v (pipeline_held other) c q.sid is.at) ask.column
      ∙ ap (λ s. lines_at v (pipeline_held other) r.column s is.at) ask.sid
      ∙ ap (λ i. lines_at v (pipeline_held other) r.column r.sid i) (at-same ∙ sym is'.index_is)

  first-lines : lines_held one q ≡ lines_at w p q.column q.sid is.at
  first-lines = ap (λ i. lines_at w p q.column q.sid i) is.index_is

  lines-recoded : lines_held one q ≡ map (recoded p v.texts w.texts) (lines_held other r)
  lines-recoded =
      first-lines
      ∙ walks.lines-same w v (pos d) day first-world second-world seen record-same p (world-coded one q is.read) (world-coded other r is'.read)
      (term_asked p q) q.sid (pos is.at) (let l : is.at ≤ d = at-by in omega (arith, ints))
      ∙ ap (map (recoded p v.texts w.texts)) second-lines

  lines-one : HaveSameCodes p w v day → lines_held one q ≡ lines_held other r
  lines-one codes =
      first-lines
      ∙ walks.lines-one w v (pos d) day first-world second-world seen record-same p (world-coded one q is.read) (world-coded other r is'.read)
      (code-same w v d day first-world agree.rows.is_day (world-coded one q is.read) p codes) (seen-code-same w v d day first-world agree.rows.is_day (world-coded one q is.read) p codes)
      (term_asked p q) q.sid (pos is.at) (let l : is.at ≤ d = at-by in omega (arith, ints))
      ∙ second-lines

-- ---- the law

texts-same : (one other : Contents) (q r : ExplainRequest) (d : ℕ) (day : ℤ) → AskCell q r day → AgreeUpTo one other q.world r.world d day
    → HaveSameCodes (pipeline_held one) (world_asked one q) (world_asked other r) day → HasNoFault one (Explain q) → HasNoFault other (Explain r)
    → text_of one (Some (Explain q)) ≡ text_of other (Some (Explain r))
texts-same one other q r d day ask agree codes none none' =
    asked-text one q
    ∙ ap lines.text_of (lines-one one other q r d day ask agree (asked one q none) (asked other r none') codes)
    ∙ sym (asked-text other r)

pub later-data-change-no-derivation : LaterDataChangeNoDerivation
later-data-change-no-derivation = record {
  lines = λ one other q r d day ask agree none none'.
      asked-text one q ∙ ap lines.text_of (lines-recoded one other q r d day ask agree (asked one q none) (asked other r none'));
  texts = texts-same;
  runs = λ o p q r d day line other_line numbers other_numbers ask first second agree codes. (
    text_of second.held (Some (Explain r)),
    first.text refl ∙ ap (λ t. option_map (λ front. front ++ t) o.out.before.taken)
        (texts-same first.held second.held q r d day ask agree codes (ended-well (work first.held (Some (Explain q))) (Some (Explain q)) line first.ends)
        (ended-well (work second.held (Some (Explain r))) (Some (Explain r)) other_line second.ends)),
    second.text refl,
  );
}

-- The same files and tables give the same text.
use Rattle.std.proofs.Common.{◌≡◌, inl, inr, ℕ, ℤ, List, ◌++◌, Option, Some, None, option_map, refl, sym, ◌∙◌, ap}
use Rattle.std.specs.Option.{ForSome}
use Rattle.std.proofs.Math.Path.{fun_ext}
use Rattle.pl_spec.specs.declared.AssetRow.{AssetRow}
use Rattle.pl_spec.specs.declared.Format.{Format}
use Rattle.pl_spec.specs.declared.RawAdjust.{RawAdjust}
use Rattle.pl_spec.specs.Parts.{ColumnAdjustment, ColumnNumber, world_of}
use Rattle.pl_spec.specs.World.{World}
use Rattle.pl_pipeline.specs.Table.{Pipeline, table}
use Rattle.pl_pipeline.specs.Text.{text}
use Rattle.pl_assets.specs.Labels.{LabelTable}
use Rattle.pl_outside.specs.Files.{Files}
use Rattle.pl_outside.specs.Lists.{Lists}
use Rattle.pl_outside.specs.declared.keeper.Table.{Table}
use Rattle.pl_numbers.specs.Numbers.{NumberTable}
use Rattle.pl_words.specs.declared.request.InputFile.{InputFile}
use Rattle.pl_words.specs.declared.request.InputFile.TheVariants.{Pipeline as PipelineFile, Sessions, Assets, Labels, Numbers, Results, Bars, Revisions}
use Rattle.pl_words.specs.Request.{Request, Run, Daily, RunRequest, WorldNames, name_asked, adjustments_of}
use Rattle.pl_load.specs.Contents.{Contents, AreHeld}
use Rattle.pl_load.specs.Held.{adjustments_asked, assets_held, assets_in, bars_in, days_held, days_in, labels_asked, numbers_asked, results_asked, pipeline_held, pipeline_in, revised_asked, world_held}
use Rattle.pl_load.specs.Range.{index_of}
use Rattle.pl_cli.specs.Texts.{run_text, text_of}
use Rattle.pl_lookahead.specs.Laws.{AsksTable, AskSame, SameFilesSameBytes}
use Rattle.pl_lookahead.proofs.Texts.{asked-text}

-- ---- worlds of the same files

-- the files and tables of a world are the same in both contents, where they are asked for
pub record SameWorld (one other : Contents) (q : WorldNames) : Type 0 where
  pub sessions : one.file Sessions ≡ other.file Sessions
  pub assets : one.file Assets ≡ other.file Assets
  pub bars : one.file Bars ≡ other.file Bars
  pub labels : ForSome q.labels (λ n. one.file Labels ≡ other.file Labels)
  pub numbers : ForSome q.numbers (λ n. one.file Numbers ≡ other.file Numbers)
  pub results : ForSome q.results (λ n. one.file Results ≡ other.file Results)
  pub tables : ForSome q.adjustments (λ n. one.rows ≡ other.rows)
  pub revisions : ForSome q.revisions (λ n. one.file Revisions ≡ other.file Revisions)

module _ (assets : List AssetRow) where
  labels-same : (name f g : Option (List ℕ)) → ForSome name (λ n. f ≡ g) → labels_asked assets name f ≡ labels_asked assets name g
  labels-same None f g h = refl
  labels-same (Some n) f g h = ap (labels_asked assets (Some n)) (h n refl)

  numbers-same : (name f g : Option (List ℕ)) → ForSome name (λ n. f ≡ g) → numbers_asked assets name f ≡ numbers_asked assets name g
  numbers-same None f g h = refl
  numbers-same (Some n) f g h = ap (numbers_asked assets (Some n)) (h n refl)

  results-same : (first : NumberTable) (name f g : Option (List ℕ)) → ForSome name (λ n. f ≡ g) → results_asked assets first name f ≡ results_asked assets first name g
  results-same first None f g h = refl
  results-same first (Some n) f g h = ap (results_asked assets first (Some n)) (h n refl)

  figures-same : (q : WorldNames) (a b c d : Option (List ℕ)) → ForSome q.numbers (λ n. a ≡ b) → ForSome q.results (λ n. c ≡ d)
      → (results_asked assets (numbers_asked assets q.numbers a) q.results c).rows ≡ (results_asked assets (numbers_asked assets q.numbers b) q.results d).rows
  figures-same q a b c d h k =
      ap (λ t. (results_asked assets t q.results c).rows) (numbers-same q.numbers a b h)
      ∙ ap (λ (t : NumberTable). t.rows) (results-same (numbers_asked assets q.numbers b) q.results c d k)

  tables-same : (name : Option (List ℕ)) (f g : Table → List RawAdjust) → ForSome name (λ n. f ≡ g) → adjustments_asked assets name f ≡ adjustments_asked assets name g
  tables-same None f g h = refl
  tables-same (Some n) f g h = ap (adjustments_asked assets (Some n)) (h n refl)

  revisions-same : (days : List ℤ) (xs : List ColumnAdjustment) (name f g : Option (List ℕ)) → ForSome name (λ n. f ≡ g)
      → revised_asked days assets xs name f ≡ revised_asked days assets xs name g
  revisions-same days xs None f g h = refl
  revisions-same days xs (Some n) f g h = ap (revised_asked days assets xs (Some n)) (h n refl)

module _ (one other : Contents) (q : WorldNames) (same : SameWorld one other q) where
  abbrev made : List ℤ → List AssetRow → Option (List ℕ) → LabelTable → List ColumnAdjustment → List ColumnNumber → World
  made days assets bars labels adjustments numbers = world_of days assets labels.rows labels.texts (bars_in days assets bars) adjustments numbers

  -- over sessions and assets of the second
  abbrev days : List ℤ
  days = days_held other

  abbrev assets : List AssetRow
  assets = assets_held other

  abbrev figures : Contents → List AssetRow → List ColumnNumber
  figures held assets = (results_asked assets (numbers_asked assets q.numbers (held.file Numbers)) q.results (held.file Results)).rows

  abbrev over : List ℤ → List AssetRow → World
  over days assets =
      made days assets (one.file Bars) (labels_asked assets q.labels (one.file Labels))
      (revised_asked days assets (adjustments_asked assets q.adjustments one.rows) q.revisions (one.file Revisions))
      (figures one assets)

  pub world-same : world_held one q ≡ world_held other q
  world-same =
      ap (λ f. over (days_in f) (assets_held one)) same.sessions
      ∙ ap (λ f. over days (assets_in f)) same.assets
      ∙ ap (λ f. made days assets f (labels_asked assets q.labels (one.file Labels))
      (revised_asked days assets (adjustments_asked assets q.adjustments one.rows) q.revisions (one.file Revisions))
      (figures one assets)) same.bars
      ∙ ap (λ l. made days assets (other.file Bars) l
      (revised_asked days assets (adjustments_asked assets q.adjustments one.rows) q.revisions (one.file Revisions))
      (figures one assets)) (labels-same assets q.labels (one.file Labels) (other.file Labels) same.labels)
      ∙ ap (λ xs. made days assets (other.file Bars) (labels_asked assets q.labels (other.file Labels))
      (revised_asked days assets xs q.revisions (one.file Revisions))
      (figures one assets)) (tables-same assets q.adjustments one.rows other.rows same.tables)
      ∙ ap (λ xs. made days assets (other.file Bars) (labels_asked assets q.labels (other.file Labels)) xs (figures one assets))
      (revisions-same assets days (adjustments_asked assets q.adjustments other.rows) q.revisions (one.file Revisions) (other.file Revisions) same.revisions)
      ∙ ap (λ ns. made days assets (other.file Bars) (labels_asked assets q.labels (other.file Labels))
      (revised_asked days assets (adjustments_asked assets q.adjustments other.rows) q.revisions (other.file Revisions)) ns)
      (figures-same assets q (one.file Numbers) (other.file Numbers) (one.file Results) (other.file Results) same.numbers same.results)

-- ---- the text of a run

abbrev shown : Format → ℤ → ℤ → World → Pipeline → List ℕ
shown format from to w p = text w p format (table w p (index_of w.days from) (index_of w.days to))

-- and so is the pipeline file of a run
pub record SameFiles (one other : Contents) (q : RunRequest) : Type 0 where
  pub pipeline : one.file PipelineFile ≡ other.file PipelineFile
  pub world : SameWorld one other q.world

pub text-same : (one other : Contents) (q r : RunRequest) → SameFiles one other q → AskSame q r → run_text one q ≡ run_text other r
text-same one other q r same alike =
    ap (λ w. shown q.options.format q.from.day q.to.day w (pipeline_held one)) (world-same one other q.world same.world ∙ ap (world_held other) alike.world)
    ∙ ap (λ f. shown q.options.format q.from.day q.to.day (world_held other r.world) (pipeline_in f)) same.pipeline
    ∙ ap (λ f. shown f q.from.day q.to.day (world_held other r.world) (pipeline_held other)) alike.format
    ∙ ap (λ x. shown r.options.format x q.to.day (world_held other r.world) (pipeline_held other)) alike.from
    ∙ ap (λ x. shown r.options.format r.from.day x (world_held other r.world) (pipeline_held other)) alike.to

-- ---- what parts tell

-- the words of a table name the files and tables of its run
names-asked : (a : Request) (q : RunRequest) → AsksTable a q → (file : InputFile) → name_asked (Some a) file ≡ name_asked (Some (Run q)) file
names-asked a q asks file = elim asks [ inl run ↦ ap (λ x. name_asked (Some x) file) run | inr daily ↦ ap (λ x. name_asked (Some x) file) daily ∙ daily-names file ]
  where
    daily-names : (file : InputFile) → name_asked (Some (Daily q)) file ≡ name_asked (Some (Run q)) file
    daily-names file = refl

tables-asked : (a : Request) (q : RunRequest) → AsksTable a q → adjustments_of (Some a) ≡ q.world.adjustments
tables-asked a q asks = elim asks [ inl run ↦ ap (λ x. adjustments_of (Some x)) run | inr daily ↦ ap (λ x. adjustments_of (Some x)) daily ]

module _ (files : Files) (lists : Lists) (told other_told : Option Files) (listed other_listed : Option Lists) (e : told ≡ Some files) (e' : other_told ≡ Some files) (l : listed ≡ Some lists)
    (l' : other_listed ≡ Some lists) (a b : Request) (q r : RunRequest) (asks : AsksTable a q) (asks' : AsksTable b r) (alike : AskSame q r) (one other : Contents)
    (first : AreHeld told listed (Some a) one) (second : AreHeld other_told other_listed (Some b) other) where
  run-names : (file : InputFile) → name_asked (Some (Run q)) file ≡ name_asked (Some (Run r)) file
  run-names file = ap (λ p. name_asked (Some (Run (record q { pipeline = p }))) file) alike.pipeline ∙ ap (λ w. name_asked (Some (Run (record q { pipeline = r.pipeline; world = w }))) file) alike.world

  file-same : (file : InputFile) → ForSome (name_asked (Some (Run q)) file) (λ n. one.file file ≡ other.file file)
  file-same file n at =
      first.files_held file n (names-asked a q asks file ∙ at) files e
      ∙ sym (second.files_held file n (names-asked b r asks' file ∙ sym (run-names file) ∙ at) files e')

  rows-same : ForSome q.world.adjustments (λ n. one.rows ≡ other.rows)
  rows-same n at = fun_ext (λ t.
      first.rows_held t n (tables-asked a q asks ∙ at) lists l
      ∙ sym (second.rows_held t n (tables-asked b r asks' ∙ sym (ap (λ (w : WorldNames). w.adjustments) alike.world) ∙ at) lists l'))

  told-same : SameFiles one other q
  told-same = record {
    pipeline = file-same PipelineFile q.pipeline refl;
    world = record {
      sessions = file-same Sessions q.world.sessions refl;
      assets = file-same Assets q.world.assets refl;
      bars = file-same Bars q.world.bars refl;
      labels = file-same Labels;
      numbers = file-same Numbers;
      results = file-same Results;
      tables = rows-same;
      revisions = file-same Revisions;
    };
  }

pub same-files-same-bytes : SameFilesSameBytes
same-files-same-bytes o p a b q r line other_line numbers other_numbers asks asks' alike tell first second =
    let same = told-same tell.files tell.lists o.shelf.before.holds p.shelf.before.holds o.keeper.before.lists p.keeper.before.lists tell.first_files tell.second_files tell.first_lists tell.second_lists a b q r asks asks' alike first.held second.held first.are_held second.are_held in (
      text_of second.held (Some b),
      first.text refl ∙ ap (λ t. option_map (λ front. front ++ t) o.out.before.taken)
          (asked-text first.held a q asks ∙ text-same first.held second.held q r same alike ∙ sym (asked-text second.held b r asks')),
      second.text refl,
    )

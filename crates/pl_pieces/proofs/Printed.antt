-- A run over the files of a cut prints the rows of the whole.
use Rattle.std.proofs.Common.{◌≡◌, ℕ, ℤ, List, Option, Some, None, refl, sym, subst, ◌∙◌, ap, ap₂}
use Rattle.std.specs.Option.{option_or}
use Rattle.pl_spec.specs.declared.Format.{Format}
use Rattle.pl_spec.specs.World.{World, IsWorld}
use Rattle.pl_pipeline.specs.Table.{Pipeline, table}
use Rattle.pl_pipeline.specs.Text.{text}
use Rattle.pl_terms.specs.Checked.{IsChecked}
use Rattle.pl_cut.specs.Cuts.{cut}
use Rattle.pl_cut.specs.Laws.{HaveOneTable}
use Rattle.pl_cut.proofs.Cuts.{cuts_have_the_rows}
use Rattle.pl_words.specs.Request.{RunRequest, WorldNames, numbers_named}
use Rattle.pl_load.specs.Contents.{Contents}
use Rattle.pl_load.specs.Held.{days_held, pipeline_held, world_held}
use Rattle.pl_load.specs.Range.{index_of}
use Rattle.pl_cli.specs.Texts.{run_text}
use Rattle.pl_lookahead.specs.Laws.{AskSame}
use Rattle.pl_lookahead.proofs.Held.{held-once}
use Rattle.pl_lookahead.proofs.Readable.{AreRead}
use Rattle.pl_lookahead.proofs.Texts.{IsJudged, asked-text, judged, later-data-change-no-byte}
use Rattle.pl_pieces.specs.Laws.{CutFilesHaveTheRows, CutsCanBeHeld, IsPieceOf, LaterDataChangeNoPiece, PartsReadBack, RunsWithoutResultsStay, first_of, last_of, piece_run, piece_world, span_of}
use Rattle.pl_pieces.proofs.Acting.{acting}
use Rattle.pl_pieces.proofs.Assets.{assets-back}
use Rattle.pl_pieces.proofs.Bars.{bars-back}
use Rattle.pl_pieces.proofs.Covered.{covered}
use Rattle.pl_pieces.proofs.HeldWorlds.{files-can-hold}
use Rattle.pl_pieces.proofs.Labels.{labels-back}
use Rattle.pl_pieces.proofs.Numbers.{numbers-back}
use Rattle.pl_pieces.proofs.OfCuts.{of-cut}
use Rattle.pl_pieces.proofs.PieceWorlds.{piece-days, piece-shows}
use Rattle.pl_pieces.proofs.Revisions.{revisions-back}
use Rattle.pl_pieces.proofs.Sessions.{sessions-back}
use Rattle.pl_pieces.proofs.TableTexts.{table-back, table-text}
use Rattle.pl_pieces.specs.Tables.{table_rows}

pub parts-read-back : PartsReadBack
parts-read-back w ok held = record {
  sessions = sessions-back w held.days;
  assets = assets-back w held.assets held.lifetimes;
  bars = bars-back w held.days held.assets held.bars;
  labels = labels-back w held.assets held.labels;
  numbers = numbers-back w held.assets held.numbers;
  tables = λ kind tabled. (
    (table_rows kind w, table-text w held.assets held.adjustments kind tabled),
    table-back w held.assets held.adjustments kind tabled,
  );
  revisions = revisions-back w held.days held.assets held.adjustments;
  acting = acting w ok held.assets held.adjustments;
}

pub cuts-can-be-held : CutsCanBeHeld
cuts-can-be-held = record {
  whole = λ held asked q asks none. files-can-hold held q.world (judged held asked q asks none).read;
  part = of-cut;
}

-- a table as it is written
abbrev shown : World → Pipeline → Format → ℕ → ℕ → List ℕ
shown w p format from to = text w p format (table w p from to)

-- of the same names a run prints the same
same-asked : (held : Contents) (q r : RunRequest) → AskSame q r → run_text held r ≡ run_text held q
same-asked held q r same =
    sym (ap (λ (n : WorldNames). shown (world_held held n) (pipeline_held held) q.options.format (index_of (days_held held) q.from.day) (index_of (days_held held) q.to.day)) same.world
    ∙ ap (λ (f : Format). shown (world_held held r.world) (pipeline_held held) f (index_of (days_held held) q.from.day) (index_of (days_held held) q.to.day)) same.format
    ∙ ap (λ (d : ℤ). shown (world_held held r.world) (pipeline_held held) r.options.format (index_of (days_held held) d) (index_of (days_held held) q.to.day)) same.from
    ∙ ap (λ (d : ℤ). shown (world_held held r.world) (pipeline_held held) r.options.format (index_of (days_held held) r.from.day) (index_of (days_held held) d)) same.to)

module _ (held piece : Contents) (q : RunRequest) (whole : q.options.as_of ≡ None) (checked : IsChecked (pipeline_held held)) (is : IsPieceOf held piece q) (judged_whole : IsJudged held q)
    (read' : AreRead piece (piece_world q.world)) where
  abbrev w : World
  w = world_held held q.world

  abbrev p : Pipeline
  p = pipeline_held held

  ok : IsWorld w
  ok = (held-once held q.world judged_whole.read).world

  one : HaveOneTable w (cut w (span_of held q)) p (first_of held q) (last_of held q)
  one = cuts_have_the_rows w (span_of held q) ok p checked (first_of held q) (last_of held q) (covered held q judged_whole)

  pub printed : run_text piece (piece_run q) ≡ run_text held q
  printed =
      let v = world_held piece (piece_world q.world) in
      let f = q.options.format in
      ap (λ (x : Pipeline). shown v x f (index_of (days_held piece) q.from.day) (index_of (days_held piece) q.to.day)) is.pipeline
      ∙ ap (λ (ds : List ℤ). shown v p f (index_of ds q.from.day) (index_of ds q.to.day)) (piece-days held piece q judged_whole.read read' is whole ok)
      ∙ (piece-shows held piece q judged_whole.read read' is whole ok).texts p f (first_of held q) (last_of held q)
      ∙ sym (one.texts f)

pub cut-files-have-the-rows : CutFilesHaveTheRows
cut-files-have-the-rows held piece a b q r asks asks' same whole checked is none none' =
    let read' : AreRead piece (piece_world q.world) = rw same.world (judged piece b r asks' none').read in
    asked-text piece b r asks'
    ∙ same-asked piece (piece_run q) r same
    ∙ printed held piece q whole checked is (judged held a q asks none) read'
    ∙ sym (asked-text held a q asks)

or-none : (o : Option (List ℕ)) → option_or o None ≡ o
or-none None = refl
or-none (Some n) = refl

pub runs-without-results-stay : RunsWithoutResultsStay
runs-without-results-stay q none =
    let numbers : numbers_named q.world ≡ q.world.numbers = ap (option_or q.world.numbers) none ∙ or-none q.world.numbers in
    ap₂ (λ (n m : Option (List ℕ)). record q { world = record q.world { numbers = n; results = m } }) numbers (sym none)

itself : (q : RunRequest) → AskSame q q
itself q = record { pipeline = refl; world = refl; from = refl; to = refl; format = refl }

pub later-data-change-no-piece : LaterDataChangeNoPiece
later-data-change-no-piece one other piece piece' a b x y q r d day asks asks' cut_asks cut_asks' alike whole whole' checked agree is is' none none' cut_none cut_none' =
    let checked' : IsChecked (pipeline_held other) = subst IsChecked agree.pipelines checked in
    cut-files-have-the-rows one piece a x q (piece_run q) asks cut_asks (itself (piece_run q)) whole checked is none cut_none
    ∙ later-data-change-no-byte.texts one other a b q r d day asks asks' alike agree none none'
    ∙ sym (cut-files-have-the-rows other piece' b y r (piece_run r) asks' cut_asks' (itself (piece_run r)) whole' checked' is' none' cut_none')

-- How the code's request reads.
use Rattle.std.specs.Prelude.{◌≡◌, ℕ, List, Option, None, Some, MatchOption, option_map}
use Rattle.std.specs.Borrow.{Bor}
use Rattle.pl_words.specs.Request as spec
use Rattle.pl_words.specs.declared.request.Request.{Request}
use Rattle.pl_words.specs.declared.request.Request.TheVariants.{Run, Fmt, Check, Plan, Bench, Payouts, Explain, Verify, Daily, Cut, Windows}
use Rattle.pl_words.specs.declared.request.RunRequest.{RunRequest}
use Rattle.pl_words.specs.declared.request.PlanRequest.{PlanRequest}
use Rattle.pl_words.specs.declared.request.BenchRequest.{BenchRequest}
use Rattle.pl_words.specs.declared.request.PayoutsRequest.{PayoutsRequest}
use Rattle.pl_words.specs.declared.request.WorldNames.{WorldNames}
use Rattle.pl_words.specs.declared.request.ExplainRequest.{ExplainRequest}
use Rattle.pl_words.specs.declared.request.VerifyRequest.{VerifyRequest}
use Rattle.pl_words.specs.declared.request.CutRequest.{CutRequest}
use Rattle.pl_words.specs.declared.request.WindowsRequest.{WindowsRequest}
use Rattle.pl_words.specs.declared.request.DateWord.{DateWord}
use Rattle.pl_words.specs.declared.request.Options.{Options}

abbrev pub dated_of : DateWord → spec.Dated
dated_of d = record { text = d.text.now; day = d.day }

abbrev pub options_of : Options → spec.Options
options_of o = record { chunk = o.chunk; format = o.format; stats = o.stats; as_of = option_map dated_of o.as_of }

abbrev pub world_names_of : WorldNames → spec.WorldNames
world_names_of r =
    record {
      sessions = r.sessions.now;
      assets = r.assets.now;
      bars = r.bars.now;
      labels = option_map (λ n. n.now) r.labels;
      numbers = option_map (λ n. n.now) r.numbers;
      results = option_map (λ n. n.now) r.results;
      adjustments = option_map (λ n. n.now) r.adjustments;
      revisions = option_map (λ n. n.now) r.revisions;
    }

abbrev pub run_of : RunRequest → spec.RunRequest
run_of r =
    record {
      pipeline = r.pipeline.now;
      world = world_names_of r.world;
      from = dated_of r.from;
      to = dated_of r.to;
      options = options_of r.options;
    }

abbrev pub plan_of : PlanRequest → spec.PlanRequest
plan_of r = record { pipeline = r.pipeline.now; sessions = r.sessions.now; from = dated_of r.from; to = dated_of r.to }

abbrev pub bench_of : BenchRequest → spec.BenchRequest
bench_of r = record { number = r.number; chunk = r.chunk }

abbrev pub payouts_of : PayoutsRequest → spec.PayoutsRequest
payouts_of r = record { sessions = r.sessions.now; assets = r.assets.now; bars = r.bars.now; payouts = r.payouts.now }

abbrev pub explain_of : ExplainRequest → spec.ExplainRequest
explain_of r =
    record {
      pipeline = r.pipeline.now;
      world = world_names_of r.world;
      sid = r.sid;
      date = dated_of r.date;
      column = r.column.now;
    }

abbrev pub verify_of : VerifyRequest → spec.VerifyRequest
verify_of r = record { pipeline = r.pipeline.now; world = world_names_of r.world; derivation = r.derivation.now }

abbrev pub cut_of : CutRequest → spec.CutRequest
cut_of r = record { table = run_of r.table; part = r.part }

abbrev pub windows_of : WindowsRequest → spec.WindowsRequest
windows_of r =
    record { world = world_names_of r.world; column = r.column; from = dated_of r.from; to = dated_of r.to; window = r.window }

abbrev pub request_of : Request → spec.Request
request_of (Run r) = spec.Run (run_of r)
request_of (Fmt name) = spec.Fmt name.now
request_of (Check name) = spec.Check name.now
request_of (Plan r) = spec.Plan (plan_of r)
request_of (Bench r) = spec.Bench (bench_of r)
request_of (Payouts r) = spec.Payouts (payouts_of r)
request_of (Explain r) = spec.Explain (explain_of r)
request_of (Verify r) = spec.Verify (verify_of r)
request_of (Daily r) = spec.Daily (run_of r)
request_of (Cut r) = spec.Cut (cut_of r)
request_of (Windows r) = spec.Windows (windows_of r)

-- The code's answer is what is asked for.
abbrev pub Says : Option Request → Option spec.Request → Type 0
Says answer asked = MatchOption answer (asked ≡ None) (λ r. asked ≡ Some (request_of r))

abbrev pub text_of : Option (Bor (List ℕ)) → Option (List ℕ)
text_of name = option_map (λ n. n.now) name

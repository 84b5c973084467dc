-- Worked rows of what words ask for.
use Rattle.std.proofs.Common.{◌≡◌, ℕ, Bool, true, false, pos, refl, codes, List, [], ◌∷◌, ◌++◌, map, Option, Some, None, option_map}
use Rattle.jiff_core.specs.Calendar.{days_from_civil, day_count, days_of_years, days_of_months}
use Rattle.std.specs.Fmt.{digits as decimal_digits}
use Rattle.pl_spec.specs.Dates.{digits, date_text, day_if, date_in}
use Rattle.pl_spec.specs.Decimals.{sid_in}
use Rattle.pl_words.specs.Parts.{Word}
use Rattle.pl_spec.specs.declared.Column.{Column}
use Rattle.pl_spec.specs.declared.Column.TheVariants.{Close, Volume}
use Rattle.pl_spec.specs.declared.Format.{Format}
use Rattle.pl_spec.specs.declared.Format.TheVariants.{Csv, Fixed}
use Rattle.pl_words.specs.Request.{request, counted, RunRequest, WorldNames, Request, Run, Fmt, Check, Plan, Bench, Payouts, Explain, Verify, Daily, Cut, Windows}
use Rattle.pl_words.specs.declared.request.WorldPart.{WorldPart}
use Rattle.pl_words.specs.declared.request.WorldPart.TheVariants as piece

abbrev names : List Word
names = codes "p.pl" ∷ codes "sessions.csv" ∷ codes "assets.csv" ∷ codes "bars.csv" ∷ []

abbrev dates : List Word
dates = codes "2024-01-03" ∷ codes "2024-01-04" ∷ []

abbrev over : Option Word → Option Word → Option Word → Option Word → WorldNames
over labels numbers adjustments revisions = record {
  sessions = codes "sessions.csv";
  assets = codes "assets.csv";
  bars = codes "bars.csv";
  labels = labels;
  numbers = numbers;
  results = None;
  adjustments = adjustments;
  revisions = revisions;
}

abbrev table : WorldNames → ℕ → Format → Bool → RunRequest
table world chunk format stats = record {
  pipeline = codes "p.pl";
  world = world;
  from = record { text = codes "2024-01-03"; day = pos 19725 };
  to = record { text = codes "2024-01-04"; day = pos 19726 };
  options = record { chunk = chunk; format = format; stats = stats; as_of = None };
}

abbrev asks : Option Word → Option Word → Option Word → Option Word → ℕ → Format → Bool → Option Request
asks labels numbers adjustments revisions chunk format stats = Some (Run (table (over labels numbers adjustments revisions) chunk format stats))

abbrev by_days : WorldNames → Format → Option Request
by_days world format = Some (Daily (table world 126 format false))

no_options : request (codes "run" ∷ (names ++ dates)) ≡ asks None None None None 126 Csv false
unfolding request counted date_in day_if days_from_civil day_count days_of_years days_of_months decimal_digits digits date_text
no_options = refl

mixed : request (codes "run" ∷ codes "--labels=-l" ∷ codes "--numbers=n" ∷ (names ++ codes "--adjustments" ∷ codes "a.db" ∷ codes "--revisions=r" ∷ codes "--" ∷ dates)) ≡ asks (Some (codes "-l")) (Some (codes "n")) (Some (codes "a.db")) (Some (codes "r")) 126 Csv false
unfolding request counted date_in day_if days_from_civil day_count days_of_years days_of_months decimal_digits digits date_text
mixed = refl

with_results : request (codes "run" ∷ codes "--results=c" ∷ (names ++ dates)) ≡ Some (Run (table (record (over None None None None) { results = Some (codes "c") }) 126 Csv false))
unfolding request counted date_in day_if days_from_civil day_count days_of_years days_of_months decimal_digits digits date_text
with_results = refl

with_options : map (λ (options : List Word). request (codes "run" ∷ (options ++ (names ++ dates)))) (
    (codes "--chunk=1" ∷ [])
    ∷ (codes "--chunk" ∷ codes "4096" ∷ [])
    ∷ (codes "--stats" ∷ codes "--format=fixed" ∷ [])
    ∷ (codes "--format" ∷ codes "csv" ∷ []) ∷ [])
    ≡ asks None None None None 1 Csv false ∷ asks None None None None 4096 Csv false ∷ asks None None None None 126 Fixed true ∷ asks None None None None 126 Csv false ∷ []
unfolding request counted sid_in date_in day_if days_from_civil day_count days_of_years days_of_months decimal_digits digits date_text
with_options = refl

planned : request (codes "plan" ∷ codes "p.pl" ∷ codes "sessions.csv" ∷ dates) ≡ Some (Plan (record {
  pipeline = codes "p.pl";
  sessions = codes "sessions.csv";
  from = record { text = codes "2024-01-03"; day = pos 19725 };
  to = record { text = codes "2024-01-04"; day = pos 19726 };
}))
unfolding request counted date_in day_if days_from_civil day_count days_of_years days_of_months decimal_digits digits date_text
planned = refl

counted_worlds : map (λ (words : List Word). request (codes "bench" ∷ words)) (
    (codes "7" ∷ [])
    ∷ (codes "--chunk=1" ∷ codes "0" ∷ [])
    ∷ (codes "007" ∷ [])
    ∷ (codes "+7" ∷ [])
    ∷ (codes "4294967296" ∷ [])
    ∷ (codes "7" ∷ codes "--stats" ∷ []) ∷ [])
    ≡ Some (Bench (record { number = 7; chunk = 126 })) ∷ Some (Bench (record { number = 0; chunk = 1 })) ∷ None ∷ None ∷ None ∷ None ∷ []
unfolding request counted sid_in decimal_digits digits
counted_worlds = refl

of_payouts : map (λ (words : List Word). request (codes "payouts" ∷ words)) ((codes "s" ∷ codes "a" ∷ codes "b" ∷ codes "p" ∷ []) ∷ (codes "s" ∷ codes "a" ∷ codes "b" ∷ []) ∷ [])
    ≡ Some (Payouts (record { sessions = codes "s"; assets = codes "a"; bars = codes "b"; payouts = codes "p" })) ∷ None ∷ []
unfolding request counted
of_payouts = refl

of_cells : map (λ (words : List Word). request (codes "explain" ∷ words)) (
    (names ++ codes "7" ∷ codes "2024-01-04" ∷ codes "c" ∷ [])
    ∷ (codes "--labels=l" ∷ codes "--numbers" ∷ codes "n" ∷ codes "--revisions=r" ∷ (names ++ codes "7" ∷ codes "2024-01-04" ∷ codes "c" ∷ codes "--adjustments" ∷ codes "a.db" ∷ []))
    ∷ (names ++ codes "07" ∷ codes "2024-01-04" ∷ codes "c" ∷ [])
    ∷ (names ++ codes "7" ∷ codes "2024-1-4" ∷ codes "c" ∷ [])
    ∷ (names ++ codes "7" ∷ codes "2024-01-04" ∷ codes "let" ∷ [])
    ∷ (names ++ codes "7" ∷ codes "2024-01-04" ∷ [])
    ∷ (codes "--chunk=1" ∷ (names ++ codes "7" ∷ codes "2024-01-04" ∷ codes "c" ∷ [])) ∷ [])
    ≡ Some (Explain (record { pipeline = codes "p.pl"; world = over None None None None; sid = 7; date = record { text = codes "2024-01-04"; day = pos 19726 }; column = codes "c" }))
    ∷ Some (Explain (record { pipeline = codes "p.pl"; world = over (Some (codes "l")) (Some (codes "n")) (Some (codes "a.db")) (Some (codes "r")); sid = 7; date = record { text = codes "2024-01-04"; day = pos 19726 }; column = codes "c" }))
    ∷ None ∷ None ∷ None ∷ None ∷ None ∷ []
unfolding request counted sid_in date_in day_if days_from_civil day_count days_of_years days_of_months decimal_digits digits date_text
of_cells = refl

of_derivations : map (λ (words : List Word). request (codes "verify" ∷ words)) (
    (names ++ codes "why.txt" ∷ [])
    ∷ (codes "--labels=l" ∷ codes "--numbers" ∷ codes "n" ∷ codes "--revisions=r" ∷ (names ++ codes "why.txt" ∷ codes "--adjustments" ∷ codes "a.db" ∷ []))
    ∷ names
    ∷ (codes "--chunk=1" ∷ (names ++ codes "why.txt" ∷ []))
    ∷ (names ++ codes "why.txt" ∷ codes "--labels=l" ∷ codes "--labels=l" ∷ []) ∷ [])
    ≡ Some (Verify (record { pipeline = codes "p.pl"; world = over None None None None; derivation = codes "why.txt" }))
    ∷ Some (Verify (record { pipeline = codes "p.pl"; world = over (Some (codes "l")) (Some (codes "n")) (Some (codes "a.db")) (Some (codes "r")); derivation = codes "why.txt" }))
    ∷ None ∷ None ∷ None ∷ []
unfolding request counted
of_derivations = refl

of_days : map (λ (options : List Word). request (codes "daily" ∷ (options ++ (names ++ dates)))) (
    []
    ∷ (codes "--format=fixed" ∷ codes "--numbers=n" ∷ codes "--labels=l" ∷ codes "--adjustments" ∷ codes "a.db" ∷ codes "--revisions=r" ∷ [])
    ∷ (codes "--chunk=1" ∷ [])
    ∷ (codes "--stats" ∷ [])
    ∷ (codes "--asof=2024-01-04" ∷ [])
    ∷ (codes "p.pl" ∷ [])
    ∷ (codes "--format=csv" ∷ codes "--format=csv" ∷ []) ∷ [])
    ≡ by_days (over None None None None) Csv ∷ by_days (over (Some (codes "l")) (Some (codes "n")) (Some (codes "a.db")) (Some (codes "r"))) Fixed ∷ None ∷ None ∷ None ∷ None ∷ None ∷ []
unfolding request counted date_in day_if days_from_civil day_count days_of_years days_of_months decimal_digits digits date_text
of_days = refl

named_as_options : map request ((codes "fmt" ∷ codes "--" ∷ codes "--" ∷ []) ∷ (codes "check" ∷ codes "--" ∷ codes "-p" ∷ []) ∷ []) ≡ Some (Fmt (codes "--")) ∷ Some (Check (codes "-p")) ∷ []
unfolding request counted
named_as_options = refl

refused : map request (
    []
    ∷ (codes "format" ∷ codes "p.pl" ∷ [])
    ∷ (codes "fmt" ∷ [])
    ∷ (codes "plan" ∷ codes "p.pl" ∷ codes "s" ∷ [])
    ∷ (codes "plan" ∷ codes "--labels" ∷ codes "l" ∷ codes "p.pl" ∷ codes "s" ∷ dates)
    ∷ (codes "plan" ∷ codes "--numbers" ∷ codes "n" ∷ codes "p.pl" ∷ codes "s" ∷ dates)
    ∷ (codes "fmt" ∷ codes "p.pl" ∷ codes "q.pl" ∷ [])
    ∷ (codes "fmt" ∷ [] ∷ [])
    ∷ (codes "fmt" ∷ codes "--" ∷ codes "-" ∷ [])
    ∷ (codes "fmt" ∷ codes "-p" ∷ [])
    ∷ (codes "fmt" ∷ codes "--help" ∷ [])
    ∷ (codes "fmt" ∷ codes "--labels" ∷ codes "l" ∷ codes "p.pl" ∷ []) ∷ [])
    ≡ None ∷ None ∷ None ∷ None ∷ None ∷ None ∷ None ∷ None ∷ None ∷ None ∷ None ∷ None ∷ []
unfolding request counted
refused = refl

refused_runs : map (λ (options : List Word). request (codes "run" ∷ (options ++ (names ++ dates)))) (
    (codes "--labels" ∷ codes "a" ∷ codes "--labels" ∷ codes "a" ∷ [])
    ∷ (codes "--labels" ∷ codes "--" ∷ codes "a" ∷ [])
    ∷ (codes "--labels" ∷ codes "-a" ∷ [])
    ∷ (codes "--labels=" ∷ [])
    ∷ (codes "--labels=-" ∷ [])
    ∷ (codes "--label" ∷ codes "a" ∷ [])
    ∷ (codes "--revisions=r" ∷ codes "--revisions" ∷ codes "r" ∷ [])
    ∷ (codes "--revision" ∷ codes "r" ∷ [])
    ∷ (codes "--numbers=n" ∷ codes "--numbers=n" ∷ [])
    ∷ (codes "--numbers=" ∷ [])
    ∷ (codes "--number" ∷ codes "n" ∷ [])
    ∷ (codes "--chunk" ∷ codes "2" ∷ codes "--chunk=2" ∷ [])
    ∷ (codes "--chunk" ∷ codes "0" ∷ [])
    ∷ (codes "--chunk=4097" ∷ [])
    ∷ (codes "--chunk=02" ∷ [])
    ∷ (codes "--chunk=+2" ∷ [])
    ∷ (codes "--chunk=" ∷ [])
    ∷ (codes "--stats=yes" ∷ [])
    ∷ (codes "--stats" ∷ codes "--stats" ∷ [])
    ∷ (codes "--format" ∷ codes "Csv" ∷ [])
    ∷ (codes "--format=csv" ∷ codes "--format" ∷ codes "fixed" ∷ []) ∷ [])
    ≡ None ∷ None ∷ None ∷ None ∷ None ∷ None ∷ None ∷ None ∷ None ∷ None ∷ None ∷ None ∷ None ∷ None ∷ None ∷ None ∷ None ∷ None
    ∷ None ∷ None ∷ None ∷ []
unfolding request counted sid_in date_in day_if decimal_digits digits
refused_runs = refl

abbrev of_part : Option WorldNames → WorldPart → Option Request
of_part world part = option_map (λ w. Cut (record { table = table w 126 Csv false; part = part })) world

parts_asked : map (λ (options : List Word). request (codes "cut" ∷ (options ++ (names ++ dates)))) (
    (codes "--part=sessions" ∷ [])
    ∷ (codes "--part" ∷ codes "splits" ∷ codes "--adjustments=a.db" ∷ [])
    ∷ []
    ∷ (codes "--part=split" ∷ [])
    ∷ (codes "--part=bars" ∷ codes "--part=bars" ∷ [])
    ∷ (codes "--part=bars" ∷ codes "--format=csv" ∷ []) ∷ [])
    ≡ of_part (Some (over None None None None)) piece.Sessions ∷ of_part (Some (over None None (Some (codes "a.db")) None)) piece.Splits ∷ None ∷ None ∷ None ∷ None ∷ []
unfolding request counted date_in day_if days_from_civil day_count days_of_years days_of_months decimal_digits digits date_text
parts_asked = refl

abbrev in_windows : Option Word → Option Word → Column → ℕ → Option Request
in_windows adjustments revisions bar window =
    Some (Windows (record {
      world = over None None adjustments revisions;
      column = bar;
      from = record { text = codes "2024-01-03"; day = pos 19725 };
      to = record { text = codes "2024-01-04"; day = pos 19726 };
      window = window;
    }))

abbrev files : List Word
files = codes "sessions.csv" ∷ codes "assets.csv" ∷ codes "bars.csv" ∷ []

windows_asked : map (λ (ws : List Word). request (codes "windows" ∷ (files ++ ws))) (
    (codes "close" ∷ (dates ++ codes "20" ∷ []))
    ∷ (codes "volume" ∷ (dates ++ codes "1260" ∷ codes "--adjustments=a.db" ∷ codes "--revisions" ∷ codes "r" ∷ []))
    ∷ (codes "price" ∷ (dates ++ codes "20" ∷ []))
    ∷ (codes "close" ∷ (dates ++ codes "0" ∷ []))
    ∷ (codes "close" ∷ (dates ++ codes "1261" ∷ []))
    ∷ (codes "close" ∷ (dates ++ codes "020" ∷ []))
    ∷ (codes "close" ∷ (dates ++ codes "20" ∷ codes "--labels=l" ∷ []))
    ∷ (codes "close" ∷ dates) ∷ [])
    ≡ in_windows None None Close 20 ∷ in_windows (Some (codes "a.db")) (Some (codes "r")) Volume 1260 ∷ None ∷ None ∷ None ∷ None ∷ None ∷ None ∷ []
unfolding request counted sid_in date_in day_if days_from_civil day_count days_of_years days_of_months decimal_digits digits date_text
windows_asked = refl

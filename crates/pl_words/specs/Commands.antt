-- The commands, as data.
use Rattle.std.specs.Prelude.{ℕ, List, [], ◌∷◌, Option, find, bytes_eq, codes}
use Rattle.pl_words.specs.declared.commands.OptionName.{OptionName}
use Rattle.pl_words.specs.declared.commands.OptionName.TheVariants.{Labels, Numbers, Results, Adjustments, Revisions, Chunk, Format, Stats, AsOf, Part}
use Rattle.pl_words.specs.declared.commands.CommandName.{CommandName}
use Rattle.pl_words.specs.declared.commands.CommandName.TheVariants.{Run, Check, Fmt, Plan, Bench, Payouts, Explain, Verify, Daily, Cut, Windows}
use Rattle.pl_words.specs.Parts.{Word}

abbrev pub all_commands : List CommandName
all_commands = Run ∷ Check ∷ Fmt ∷ Plan ∷ Bench ∷ Payouts ∷ Explain ∷ Verify ∷ Daily ∷ Cut ∷ Windows ∷ []

abbrev pub command_text : CommandName → Word
command_text Run = codes "run"
command_text Check = codes "check"
command_text Fmt = codes "fmt"
command_text Plan = codes "plan"
command_text Bench = codes "bench"
command_text Payouts = codes "payouts"
command_text Explain = codes "explain"
command_text Verify = codes "verify"
command_text Daily = codes "daily"
command_text Cut = codes "cut"
command_text Windows = codes "windows"

-- how many names it takes
abbrev pub places_of : CommandName → ℕ
places_of Run = 6  -- PIPELINE SESSIONS ASSETS BARS FROM TO
places_of Check = 1  -- PIPELINE
places_of Fmt = 1  -- PIPELINE
places_of Plan = 4  -- PIPELINE SESSIONS FROM TO
places_of Bench = 1  -- NUMBER
places_of Payouts = 4  -- SESSIONS ASSETS BARS PAYOUTS
places_of Explain = 7  -- PIPELINE SESSIONS ASSETS BARS SID DATE COLUMN
places_of Verify = 5  -- PIPELINE SESSIONS ASSETS BARS DERIVATION
places_of Daily = 6  -- PIPELINE SESSIONS ASSETS BARS FROM TO
places_of Cut = 6  -- PIPELINE SESSIONS ASSETS BARS FROM TO
places_of Windows = 7  -- SESSIONS ASSETS BARS COLUMN FROM TO WINDOW

-- the options that it knows
abbrev pub options_of : CommandName → List OptionName
options_of Run = Labels ∷ Numbers ∷ Results ∷ Adjustments ∷ Revisions ∷ Chunk ∷ Format ∷ Stats ∷ AsOf ∷ []
options_of Check = []
options_of Fmt = []
options_of Plan = []
options_of Bench = Chunk ∷ []
options_of Payouts = []
options_of Explain = Labels ∷ Numbers ∷ Results ∷ Adjustments ∷ Revisions ∷ []
options_of Verify = Labels ∷ Numbers ∷ Results ∷ Adjustments ∷ Revisions ∷ []
options_of Daily = Labels ∷ Numbers ∷ Results ∷ Adjustments ∷ Revisions ∷ Format ∷ []
options_of Cut = Labels ∷ Numbers ∷ Results ∷ Adjustments ∷ Revisions ∷ Part ∷ []
options_of Windows = Adjustments ∷ Revisions ∷ []

abbrev pub command_named : Word → Option CommandName
command_named word = find (λ c. bytes_eq word (command_text c)) all_commands

-- How the words after a command are cut into its names and its options.
use Rattle.std.specs.Prelude.{ℕ, List, [], ◌∷◌, Bool, true, false, not, ◌&&◌, ◌==◌, if◌then◌else◌, Option, Some, None, option_map, option_and_then, is_some, map, find, bytes_eq, codes}
use Rattle.std.specs.List.{list_any, before_first, after_first}
use Rattle.pl_words.specs.declared.commands.OptionName.{OptionName}
use Rattle.pl_words.specs.declared.commands.OptionName.TheVariants.{Labels, Numbers, Results, Adjustments, Revisions, Chunk, Format, Stats, AsOf}
use Rattle.pl_words.specs.declared.commands.OptionName.TheVariants as option

abbrev pub Word : Type 0
Word = List ℕ

-- what is written after `--`
abbrev pub text_of : OptionName → Word
text_of Labels = codes "labels"
text_of Numbers = codes "numbers"
text_of Results = codes "results"
text_of Adjustments = codes "adjustments"
text_of Revisions = codes "revisions"
text_of Chunk = codes "chunk"
text_of Format = codes "format"
text_of Stats = codes "stats"
text_of AsOf = codes "asof"
text_of option.Part = codes "part"

-- `--stats` alone has no value
abbrev pub has_value : OptionName → Bool
has_value Stats = false
has_value _ = true

abbrev pub option_named : List OptionName → Word → Option OptionName
option_named options name = find (λ o. bytes_eq (text_of o) name) options

-- one more name, or an option with its value, which is `yes` where it has none
pub data Part : Type 0 where
  Name : Word → Part
  Given : OptionName → Word → Part

-- the parts of words, where they have parts
abbrev pub Cut : Type 0
Cut = Option (List Part)

abbrev pub behind : ℕ → Word → Option Word
behind b [] = None
behind b (x ∷ xs) = if x == b then Some xs else None

abbrev pub begins_with_hyphen : Word → Bool
begins_with_hyphen word = is_some (behind 45 word)

-- what stands after `--`
abbrev pub behind_hyphens : Word → Option Word
behind_hyphens word = option_and_then (behind 45) (behind 45 word)

abbrev pub is_equals : ℕ → Bool
is_equals b = b == 61

-- a text after `--`, cut at its first `=`
abbrev pub option_name : Word → Word
option_name text = before_first is_equals text

abbrev pub value_behind : Word → Option Word
value_behind text = if list_any is_equals text then Some (after_first is_equals text) else None

abbrev pub and_part : Part → Cut → Cut
and_part part = option_map (λ parts. part ∷ parts)

-- An option that wants a value takes the one after its `=`, or else the next word; `--stats` has none.
abbrev pub option_part : Bool → OptionName → Option Word → Cut → Cut → Cut
option_part true option (Some value) rest waiting = and_part (Given option value) rest
option_part true option None rest waiting = waiting
option_part false option (Some value) rest waiting = None
option_part false option None rest waiting = and_part (Given option (codes "yes")) rest

abbrev pub named_part : Option OptionName → Option Word → Cut → (OptionName → Cut) → Cut
named_part None value rest waiting = None
named_part (Some option) value rest waiting = option_part (has_value option) option value rest (waiting option)

-- a word of which this stands after its two hyphens: `--` itself, `--NAME` or `--NAME=VALUE`
abbrev pub hyphens_part : List OptionName → Option Word → Cut → (OptionName → Cut) → List Word → Cut
hyphens_part options None rest waiting words = None
hyphens_part options (Some []) rest waiting words = Some (map Name words)
hyphens_part options (Some (b ∷ bs)) rest waiting words =
    named_part (option_named options (option_name (b ∷ bs))) (value_behind (b ∷ bs)) rest waiting

abbrev pub first_part : List OptionName → Word → Cut → (OptionName → Cut) → List Word → Cut
first_part options word rest waiting words =
    if begins_with_hyphen word then hyphens_part options (behind_hyphens word) rest waiting words
    else and_part (Name word) rest

abbrev pub value_part : OptionName → Word → Cut → Cut
value_part option word rest = if begins_with_hyphen word then None else and_part (Given option word) rest

-- The parts of the words, for a command with these options. Where an option waits, the next word is its
-- value, and may not begin with a hyphen. Else `--` makes names of all words after it, a word that begins
-- with `--` is an option, another one that begins with `-` is refused, and each other word is a name.
abbrev pub parts : List OptionName → Option OptionName → List Word → Cut
parts options None [] = Some []
parts options (Some option) [] = None
parts options None (word ∷ words) = first_part options word (parts options None words) (λ option. parts options (Some option) words) words
parts options (Some option) (word ∷ words) = value_part option word (parts options None words)

-- a hyphen alone, or a hyphen and something else after it
abbrev pub is_short : Word → Bool
is_short word = begins_with_hyphen word && not (is_some (behind_hyphens word))

-- such a word stands before the first `--`
abbrev pub has_short : List Word → Bool
has_short [] = false
has_short (word ∷ words) = if is_short word then true else (if bytes_eq word (codes "--") then false else has_short words)

-- the names, and the values of an option, in the order in which they stand
abbrev pub names_of : List Part → List Word
names_of [] = []
names_of (Name word ∷ ps) = word ∷ names_of ps
names_of (Given option value ∷ ps) = names_of ps

abbrev pub values_of : OptionName → List Part → List Word
values_of option [] = []
values_of option (Name word ∷ ps) = values_of option ps
values_of option (Given other value ∷ ps) =
    if bytes_eq (text_of other) (text_of option) then value ∷ values_of option ps else values_of option ps

-- neither empty nor a hyphen alone, which are refused everywhere
abbrev pub is_text : Word → Bool
is_text [] = false
is_text (b ∷ []) = not (b == 45)
is_text (b ∷ c ∷ cs) = true

-- An option may be given once.
abbrev pub one_value : List Word → Option (Option Word)
one_value [] = Some None
one_value (value ∷ []) = if is_text value then Some (Some value) else None
one_value (value ∷ other ∷ more) = None

-- clap's walk over the words gives the parts, and fails exactly where they have none.
use Rattle.std.proofs.Common.{◌≡◌, ◌∙◌, ℕ, Bool, true, false, cond, not, ◌&&◌, ◌||◌, ◌==◌, true≢false, refl, sym, ap, subst, List, [], ◌∷◌, map, Option, Some, None, codes, option_map}
use Rattle.std.specs.Prelude.{⊤, bytes_eq, is_some, fold, option_and_then}
use Rattle.std.proofs.lemmas.Slice.Eq.{bytes_eq-Decides}
use Rattle.clap.specs.Words.{Rule, Row, Shape, App, fault_of, matches_of}
use Rattle.clap.specs.Faults.{defaults_fault, check_fault, level_fault, built_fault}
use Rattle.clap.specs.Takes.{is_given}
use Rattle.clap.specs.Walk.{finished, with_default, nothing_held, has_row}
use Rattle.clap.proofs.FaultLemmas.{leaf_fault}
use Rattle.std.specs.List.{list_any}
use Rattle.clap.specs.Kinds.{Kinds, or_else}
use Rattle.clap.specs.Lexer.{strip_byte, long_of, long_of_rest, short_of}
use Rattle.clap.specs.Walk.{subcommand_met, Held, Walk, Waiting, idle, option, positional, Step, value, walked, word_met, settled, reacted, pushed, takes_values, takes_several, is_pending, arg_by_id, arg_by_long, after_step}
use Rattle.clap.specs.Faults.{walk_fault, turn_fault, settle_fault, use_fault, react_fault, word_fault, step_fault, long_fault}
use Rattle.pl_words.specs.declared.commands.OptionName.{OptionName}
use Rattle.pl_words.specs.Parts.{Word, Part, Name, Given, text_of, has_value, option_named, behind, begins_with_hyphen, behind_hyphens, option_name, value_behind, and_part, option_part, named_part, hyphens_part, parts, is_short, has_short}
use Rattle.pl_words.specs.Apps.{names_id, app_for, put, rows_from}
use Rattle.pl_words.proofs.Rules.{built_names, built_option, built_rules, built_shape, built_is, find_long, find_id}

-- ---- kinds

first_nil : (a b : Kinds) → or_else a b ≡ [] → a ≡ []
first_nil [] b e = refl
first_nil (k ∷ ks) b e = e

abbrev has_some : Kinds → Bool
has_some [] = false
has_some (k ∷ ks) = true

-- ---- what a word looks like

stripped : (word : Word) → option_and_then (strip_byte 45) (strip_byte 45 word) ≡ behind_hyphens word
stripped [] = refl
stripped (x ∷ xs) = go (x == 45) xs
  where
    go : (b : Bool) (xs : Word) → option_and_then (strip_byte 45) (cond b (Some xs) None) ≡ option_and_then (behind 45) (cond b (Some xs) None)
    go true [] = refl
    go true (y ∷ ys) = refl
    go false xs = refl

abbrev is_nothing : Option Word → Bool
is_nothing None = false
is_nothing (Some []) = true
is_nothing (Some (b ∷ bs)) = false

end_is : (word : Word) → bytes_eq word (45 ∷ 45 ∷ []) ≡ is_nothing (behind_hyphens word)
end_is [] = refl
end_is (x ∷ xs) = go (x == 45) xs
  where
    last : (xs : Word) → bytes_eq xs [] ≡ is_nothing (Some xs)
    last [] = refl
    last (y ∷ ys) = refl

    second : (b : Bool) (xs : Word) → (b && bytes_eq xs []) ≡ is_nothing (cond b (Some xs) None)
    second true xs = last xs
    second false xs = refl

    go : (b : Bool) (xs : Word) → (b && bytes_eq xs (45 ∷ [])) ≡ is_nothing (option_and_then (behind 45) (cond b (Some xs) None))
    go false xs = refl
    go true [] = refl
    go true (y ∷ ys) = second (y == 45) ys

record LooksPlain (word : Word) : Type 0 where
  pub no_end : bytes_eq word (45 ∷ 45 ∷ []) ≡ false
  pub no_long : long_of word ≡ None
  pub no_short : short_of word ≡ None

looks_plain : (word : Word) → begins_with_hyphen word ≡ false → LooksPlain word
looks_plain [] e = record { no_end = refl; no_long = refl; no_short = refl }
looks_plain (x ∷ xs) e = go (x == 45) refl e
  where
    go : (b : Bool) → (x == 45) ≡ b → is_some (cond b (Some xs) None) ≡ false → LooksPlain (x ∷ xs)
    go true t h = absurd (true≢false h)
    go false t h = record { no_end = rw t refl; no_long = rw t refl; no_short = rw t refl }

long_is : (word : Word) (b : ℕ) (bs : Word) → behind_hyphens word ≡ Some (b ∷ bs) → long_of word ≡ Some (option_name (b ∷ bs), value_behind (b ∷ bs))
long_is word b bs e = ap (option_and_then long_of_rest) (stripped word ∙ e)

not_end : (word : Word) (b : ℕ) (bs : Word) → behind_hyphens word ≡ Some (b ∷ bs) → bytes_eq word (45 ∷ 45 ∷ []) ≡ false
not_end word b bs e = end_is word ∙ ap is_nothing e

-- ---- names of options

named_text : (options : List OptionName) (name : Word) (o : OptionName) → option_named options name ≡ Some o → text_of o ≡ name
named_text [] name o e = absurd (true≢false (sym (ap is_some e)))
named_text (q ∷ options) name o e = go (bytes_eq (text_of q) name) refl e (named_text options name o)
  where
    go : (b : Bool) → bytes_eq (text_of q) name ≡ b → cond b (Some q) (option_named options name) ≡ Some o → (option_named options name ≡ Some o → text_of o ≡ name) → text_of o ≡ name
    go true t h later = let same : q ≡ o = cc in ap text_of (sym same) ∙ (bytes_eq-Decides (text_of q) name).0 t
    go false t h later = later h

named_itself : (options : List OptionName) (name : Word) (o : OptionName) → option_named options name ≡ Some o → option_named options (text_of o) ≡ Some o
named_itself options name o e = ap (option_named options) (named_text options name o e) ∙ e

-- ---- the walk

abbrev IsOpen : Waiting → Type 0
IsOpen idle = ⊤
IsOpen positional = ⊤
IsOpen (option id) = ⊥

abbrev ready : Waiting → Held → Walk
ready w h = record { held = h; waiting = w; position = 1; is_trailing = false; stopped = None }

abbrev trail : Waiting → Held → Walk
trail w h = record { held = h; waiting = w; position = 1; is_trailing = true; stopped = None }

module _ (options : List OptionName) where
  abbrev R : List Rule
  R = built_rules options

  abbrev s : Shape
  s = built_shape options

  abbrev ends : Walk → List Word → Held
  ends w ws = (fold (walked R []) w ws).held

  abbrev fault : Walk → List Word → Kinds
  fault w ws = or_else (walk_fault s [] w ws) (settle_fault R false (ends w ws))

  -- from w on, the words fail, or they end with these rows
  abbrev Says : Walk → List Word → Option (List Row) → Type 0
  Says w ws None = fault w ws ≡ [] → ⊥
  Says w ws (Some rows) = (fault w ws ≡ []) × ((settled R (ends w ws)).rows ≡ rows)

  abbrev Closed : Held → Type 0
  Closed h = settle_fault R false h ≡ []

  fault_step : (w : Walk) (word : Word) (ws : List Word) (after : Walk) → turn_fault s [] w word ≡ [] → walked R [] w word ≡ after → fault w (word ∷ ws) ≡ fault after ws
  unfolding walk_fault
  fault_step w word ws after none is =
      ap (λ (k : Kinds). or_else (or_else k (walk_fault s [] (walked R [] w word) ws)) (settle_fault R false (ends (walked R [] w word) ws))) none
      ∙ ap (λ (v : Walk). fault v ws) is

  step_on : (w : Walk) (word : Word) (ws : List Word) (after : Walk) (o : Option (List Row)) → turn_fault s [] w word ≡ [] → walked R [] w word ≡ after
      → Says after ws o → Says w (word ∷ ws) o
  step_on w word ws after None none is says = λ e. says (sym (fault_step w word ws after none is) ∙ e)
  step_on w word ws after (Some rows) none is says = (fault_step w word ws after none is ∙ says.0, ap (λ (v : Walk). (settled R (ends v ws)).rows) is ∙ says.1)

  stops : (w : Walk) (word : Word) (ws : List Word) → (turn_fault s [] w word ≡ [] → ⊥) → Says w (word ∷ ws) None
  unfolding walk_fault
  stops w word ws bad = λ e. bad (first_nil (turn_fault s [] w word) (walk_fault s [] (walked R [] w word) ws) (first_nil _ (settle_fault R false (ends (walked R [] w word) ws)) e))

  -- ---- a name

  to_names : (b : Bool) (word : Word) (h : Held) → pushed names_id word (cond (b && takes_several built_names) h (settled R h)) ≡ pushed names_id word (settled R h)
  to_names true word h = refl
  to_names false word h = refl

  settles : (b : Bool) (h : Held) → cond (b && takes_several built_names) [] (settle_fault R false h) ≡ settle_fault R false h
  settles true h = refl
  settles false h = refl

  named : Held → Word → Held
  named h word = pushed names_id word (settled R h)

  plain_met : (w : Waiting) → IsOpen w → (word : Word) (h : Held) → LooksPlain word → word_met R [] false w 1 word h ≡ (h, value)
  plain_met idle opened word h f = rw (f.no_end, f.no_long, f.no_short) refl
  plain_met positional opened word h f = rw (f.no_end, f.no_long, f.no_short) refl
  plain_met (option id) opened word h f = absurd opened

  plain_walked : (w : Waiting) → IsOpen w → (word : Word) (h : Held) → LooksPlain word → walked R [] (ready w h) word ≡ ready positional (pushed names_id word (settled R h))
  unfolding walked
  plain_walked w opened word h f =
      ap (λ (p : Held × Step). after_step R word (ready w h) p.0 p.1) (plain_met w opened word h f)
      ∙ ap (ready positional) (to_names (is_pending built_names h.pending) word h)

  plain_silent : (w : Waiting) → IsOpen w → (word : Word) (h : Held) → LooksPlain word → word_fault s [] false w word h ≡ []
  plain_silent idle opened word h f = rw (f.no_end, f.no_long, f.no_short) refl
  plain_silent positional opened word h f = rw (f.no_end, f.no_long, f.no_short) refl
  plain_silent (option id) opened word h f = absurd opened

  plain_turn : (w : Waiting) → IsOpen w → (word : Word) (h : Held) → LooksPlain word → turn_fault s [] (ready w h) word ≡ settle_fault R false h
  plain_turn w opened word h f =
      ap (λ (p : Held × Step). or_else (word_fault s [] false w word h) (step_fault s 1 p.0 p.1)) (plain_met w opened word h f)
      ∙ ap (λ (k : Kinds). or_else k (step_fault s 1 h value)) (plain_silent w opened word h f)
      ∙ settles (is_pending built_names h.pending) h

  name_closed : (h : Held) (word : Word) → Closed (pushed names_id word (settled R h))
  name_closed h word = refl

  name_rows : (h : Held) (word : Word) → (settled R (pushed names_id word (settled R h))).rows ≡ put (Name word) (settled R h).rows
  name_rows h word = refl

  -- ---- after `--`

  trail_walked : (w : Waiting) (word : Word) (h : Held) → walked R [] (trail w h) word ≡ trail positional (pushed names_id word (settled R h))
  unfolding walked
  trail_walked w word h = ap (trail positional) (to_names (is_pending built_names h.pending) word h)

  trail_turn : (w : Waiting) (word : Word) (h : Held) → turn_fault s [] (trail w h) word ≡ settle_fault R false h
  trail_turn w word h = settles (is_pending built_names h.pending) h

  trails : (ws : List Word) (w : Waiting) (h : Held) → Closed h → Says (trail w h) ws (Some (rows_from (settled R h).rows (map Name ws)))
  unfolding walk_fault
  trails [] w h closed = (closed, refl)
  trails (word ∷ ws) w h closed =
      step_on (trail w h) word ws (trail positional (pushed names_id word (settled R h))) (Some (rows_from (settled R h).rows (map Name (word ∷ ws))))
      (trail_turn w word h ∙ closed) (trail_walked w word h) (trails ws positional (pushed names_id word (settled R h)) (name_closed h word))

  stuck : (ws : List Word) (w : Waiting) (h : Held) → (Closed h → ⊥) → Says (trail w h) ws None
  unfolding walk_fault
  stuck [] w h opened = opened
  stuck (word ∷ ws) w h opened = stops (trail w h) word ws (λ e. opened (sym (trail_turn w word h) ∙ e))

  -- ---- an option

  no_sub : (w : Waiting) (word : Word) → subcommand_met [] w word ≡ None
  no_sub idle word = refl
  no_sub positional word = refl
  no_sub (option id) word = refl

  -- the word is `--NAME` or `--NAME=VALUE`
  record LooksLong (word name : Word) (v : Option Word) : Type 0 where
    pub no_end : bytes_eq word (45 ∷ 45 ∷ []) ≡ false
    pub is_long : long_of word ≡ Some (name, v)

  module _ (w : Waiting) (word name : Word) (h : Held) where
    unknown_turn : (v : Option Word) → LooksLong word name v → arg_by_long R name ≡ None → has_some (turn_fault s [] (ready w h) word) ≡ true
    unknown_turn v f found = rw (no_sub w word, f.no_end, f.is_long, found) refl

    module _ (o : OptionName) (found : arg_by_long R name ≡ Some (built_option o)) where
      -- with a value after its `=`
      given_walked : (v : Word) → LooksLong word name (Some v) → has_value o ≡ true → walked R [] (ready w h) word ≡ ready idle (reacted R (built_option o) (v ∷ []) h)
      unfolding walked
      given_walked v f has = rw (no_sub w word, f.no_end, f.is_long, found, has) refl

      given_turn : (v : Word) → LooksLong word name (Some v) → has_value o ≡ true → Closed h → turn_fault s [] (ready w h) word ≡ []
      given_turn v f has closed = rw (no_sub w word, f.no_end, f.is_long, found, has, closed) refl

      -- which wants a value
      want_walked : LooksLong word name None → has_value o ≡ true
          → walked R [] (ready w h) word ≡ ready (option (text_of o)) (record (settled R h) { pending = Some (text_of o, []) })
      unfolding walked
      want_walked f has = rw (no_sub w word, f.no_end, f.is_long, found, has) refl

      want_turn : LooksLong word name None → has_value o ≡ true → Closed h → turn_fault s [] (ready w h) word ≡ []
      want_turn f has closed = rw (no_sub w word, f.no_end, f.is_long, found, has, closed) refl

      -- which has none
      flag_walked : LooksLong word name None → has_value o ≡ false → walked R [] (ready w h) word ≡ ready idle (reacted R (built_option o) [] h)
      unfolding walked
      flag_walked f has = rw (no_sub w word, f.no_end, f.is_long, found, has) refl

      flag_turn : LooksLong word name None → has_value o ≡ false → Closed h → turn_fault s [] (ready w h) word ≡ []
      flag_turn f has closed = rw (no_sub w word, f.no_end, f.is_long, found, has, closed) refl

      flag_given : (v : Word) → LooksLong word name (Some v) → has_value o ≡ false → has_some (turn_fault s [] (ready w h) word) ≡ true
      flag_given v f has = rw (no_sub w word, f.no_end, f.is_long, found, has) refl

  flag_rows : (o : OptionName) (h : Held) → has_value o ≡ false → (settled R (reacted R (built_option o) [] h)).rows ≡ put (Given o (codes "yes")) (settled R h).rows
  flag_rows o h has = rw has refl

  -- ---- the value of an option that waits

  abbrev wanting : OptionName → Held → Held
  wanting o h = record (settled R h) { pending = Some (text_of o, []) }

  module _ (o : OptionName) (found : arg_by_id R (text_of o) ≡ Some (built_option o)) (has : has_value o ≡ true) (h : Held) where
    itself : bytes_eq (text_of o) (text_of o) ≡ true
    itself = (bytes_eq-Decides (text_of o) (text_of o)).1 refl

    value_walked : (word : Word) → LooksPlain word → walked R [] (ready (option (text_of o)) (wanting o h)) word ≡ ready idle (pushed (text_of o) word (wanting o h))
    unfolding walked
    value_walked word f = rw (f.no_end, f.no_long, f.no_short, found, itself, has) refl

    value_turn : (word : Word) → LooksPlain word → turn_fault s [] (ready (option (text_of o)) (wanting o h)) word ≡ []
    value_turn word f = rw (f.no_end, f.no_long, f.no_short) refl

    value_closed : (word : Word) → Closed (pushed (text_of o) word (wanting o h))
    value_closed word = rw (found, has) refl

    value_rows : (word : Word) → (settled R (pushed (text_of o) word (wanting o h))).rows ≡ put (Given o word) (settled R h).rows
    value_rows word = rw found refl

    wants : has_some (settle_fault R false (wanting o h)) ≡ true
    wants = rw (found, has) refl

  not_nil : (k : Kinds) → has_some k ≡ true → k ≡ [] → ⊥
  not_nil k some none = true≢false (sym some ∙ ap has_some none)

  -- ---- all words

  and_rows : (rows : List Row) (part : Part) (o : Option (List Part)) → option_map (rows_from (put part rows)) o ≡ option_map (rows_from rows) (and_part part o)
  and_rows rows part None = refl
  and_rows rows part (Some ps) = refl

  ends_walked : (w : Waiting) (word : Word) (h : Held) → bytes_eq word (45 ∷ 45 ∷ []) ≡ true → walked R [] (ready w h) word ≡ trail w h
  unfolding walked
  ends_walked w word h e = rw (no_sub w word, e) refl

  ends_turn : (w : Waiting) (word : Word) (h : Held) → bytes_eq word (45 ∷ 45 ∷ []) ≡ true → turn_fault s [] (ready w h) word ≡ []
  ends_turn w word h e = rw (no_sub w word, e) refl

  -- an option where a value is wanted
  long_bad : (a : Option Rule) (v : Option Word) (h : Held) → (Closed h → ⊥) → long_fault R false a v h ≡ [] → ⊥
  long_bad None v h bad e = true≢false (ap has_some e)
  long_bad (Some a) v h bad e = go (takes_values a) v e
    where
      go : (b : Bool) (v : Option Word)
          → cond b (Rattle.clap.specs.Faults.option_fault R false a v h) (cond (is_some v) (Rattle.clap.specs.declared.error.kind.ErrorKind.TheVariants.TooManyValues ∷ []) (react_fault R false a [] h)) ≡ [] → ⊥
      go true (Some x) e = bad (first_nil (settle_fault R false h) (use_fault false a (x ∷ []) (settled R h).rows) e)
      go true None e = bad e
      go false (Some x) e = true≢false (ap has_some e)
      go false None e = bad (first_nil (settle_fault R false h) (use_fault false a [] (settled R h).rows) e)

  wrong_turn : (id : Word) (word name : Word) (v : Option Word) (h : Held) → LooksLong word name v → (Closed h → ⊥) → turn_fault s [] (ready (option id) h) word ≡ [] → ⊥
  wrong_turn id word name v h f bad e =
      let said : word_fault s [] false (option id) word h ≡ long_fault R false (arg_by_long R name) v h = rw (f.no_end, f.is_long) refl in
      long_bad (arg_by_long R name) v h bad (sym said ∙ first_nil (word_fault s [] false (option id) word h) _ e)

  -- the first word isn't short, and unless it is `--`, none of the rest is
  not_short : (word : Word) (ws : List Word) → has_short (word ∷ ws) ≡ false → is_short word ≡ false
  not_short word ws e = go (is_short word) e
    where
      go : (b : Bool) → cond b true (cond (bytes_eq word (45 ∷ 45 ∷ [])) false (has_short ws)) ≡ false → b ≡ false
      go true e = e
      go false e = refl

  none_short : (word : Word) (ws : List Word) → bytes_eq word (45 ∷ 45 ∷ []) ≡ false → has_short (word ∷ ws) ≡ false → has_short ws ≡ false
  none_short word ws no_end e = rw (not_short word ws e, no_end) at e

  short_word : (word : Word) → begins_with_hyphen word ≡ true → behind_hyphens word ≡ None → is_short word ≡ true
  short_word word begins none = rw (begins, none) refl

  abbrev Reads : List Word → Type 0
  Reads ws = ((w : Waiting) → IsOpen w → (h : Held) → Closed h → Says (ready w h) ws (option_map (rows_from (settled R h).rows) (parts options None ws)))
      × ((o : OptionName) → option_named options (text_of o) ≡ Some o → has_value o ≡ true → (h : Held)
      → Says (ready (option (text_of o)) (wanting o h)) ws (option_map (rows_from (settled R h).rows) (parts options (Some o) ws)))

  found_long : (name : Word) (n : Option OptionName) → option_named options name ≡ n → arg_by_long R name ≡ option_map built_option n
  found_long name n e = find_long options name ∙ ap (option_map built_option) e

  module _ (word : Word) (ws : List Word) (rest : bytes_eq word (45 ∷ 45 ∷ []) ≡ false → Reads ws) (no_short : has_short (word ∷ ws) ≡ false) where
    looks_long : (b : ℕ) (bs : Word) → behind_hyphens word ≡ Some (b ∷ bs) → LooksLong word (option_name (b ∷ bs)) (value_behind (b ∷ bs))
    looks_long b bs e = record { no_end = not_end word b bs e; is_long = long_is word b bs e }

    module _ (w : Waiting) (opened : IsOpen w) (h : Held) (closed : Closed h) where
      rows : List Row
      rows = (settled R h).rows

      left : Option (List Part)
      left = parts options None ws

      reads_named : (name : Word) (v : Option Word) → LooksLong word name v → (n : Option OptionName) → option_named options name ≡ n
          → Says (ready w h) (word ∷ ws) (option_map (rows_from (settled R h).rows) (named_part n v (parts options None ws) (λ o. parts options (Some o) ws)))
      reads_named name v f None e = stops (ready w h) word ws (not_nil _ (unknown_turn w word name h v f (found_long name None e)))
      reads_named name v f (Some o) e = go (has_value o) v refl f
        where
          found : arg_by_long R name ≡ Some (built_option o)
          found = found_long name (Some o) e

          go : (b : Bool) (v : Option Word) → has_value o ≡ b → LooksLong word name v
              → Says (ready w h) (word ∷ ws) (option_map (rows_from (settled R h).rows) (option_part b o v (parts options None ws) (parts options (Some o) ws)))
          go true (Some x) has f =
              step_on (ready w h) word ws (ready idle (reacted R (built_option o) (x ∷ []) h)) _ (given_turn w word name h o found x f has closed) (given_walked w word name h o found x f has)
              (subst (Says (ready idle (reacted R (built_option o) (x ∷ []) h)) ws) (and_rows (settled R h).rows (Given o x) (parts options None ws)) ((rest f.no_end).0 idle tt (reacted R (built_option o) (x ∷ []) h) refl))
          go true None has f =
              step_on (ready w h) word ws (ready (option (text_of o)) (wanting o h)) _ (want_turn w word name h o found f has closed) (want_walked w word name h o found f has)
              ((rest f.no_end).1 o (named_itself options name o e) has h)
          go false (Some x) has f = stops (ready w h) word ws (not_nil _ (flag_given w word name h o found x f has))
          go false None has f =
              step_on (ready w h) word ws (ready idle (reacted R (built_option o) [] h)) _ (flag_turn w word name h o found f has closed) (flag_walked w word name h o found f has)
              (subst (Says (ready idle (reacted R (built_option o) [] h)) ws)
              (ap (λ rs. option_map (rows_from rs) (parts options None ws)) (flag_rows o h has) ∙ and_rows (settled R h).rows (Given o (codes "yes")) (parts options None ws))
              ((rest f.no_end).0 idle tt (reacted R (built_option o) [] h) refl))

      reads_hyphens : (t : Option Word) → begins_with_hyphen word ≡ true → behind_hyphens word ≡ t
          → Says (ready w h) (word ∷ ws) (option_map (rows_from (settled R h).rows) (hyphens_part options t (parts options None ws) (λ o. parts options (Some o) ws) ws))
      reads_hyphens None begins e = absurd (true≢false (sym (short_word word begins e) ∙ not_short word ws no_short))
      reads_hyphens (Some []) begins e =
          let is_end : bytes_eq word (45 ∷ 45 ∷ []) ≡ true = end_is word ∙ ap is_nothing e in
          step_on (ready w h) word ws (trail w h) (Some (rows_from (settled R h).rows (map Name ws))) (ends_turn w word h is_end) (ends_walked w word h is_end) (trails ws w h closed)
      reads_hyphens (Some (b ∷ bs)) begins e = reads_named (option_name (b ∷ bs)) (value_behind (b ∷ bs)) (looks_long b bs e) (option_named options (option_name (b ∷ bs))) refl

      reads_first : (b : Bool) → begins_with_hyphen word ≡ b
          → Says (ready w h) (word ∷ ws) (option_map (rows_from (settled R h).rows)
          (cond b (hyphens_part options (behind_hyphens word) (parts options None ws) (λ o. parts options (Some o) ws) ws) (and_part (Name word) (parts options None ws))))
      reads_first true begins = reads_hyphens (behind_hyphens word) begins refl
      reads_first false begins =
          let f = looks_plain word begins in
          step_on (ready w h) word ws (ready positional (pushed names_id word (settled R h))) _ (plain_turn w opened word h f ∙ closed) (plain_walked w opened word h f)
          (subst (Says (ready positional (pushed names_id word (settled R h))) ws) (and_rows (settled R h).rows (Name word) (parts options None ws)) ((rest f.no_end).0 positional tt (pushed names_id word (settled R h)) refl))

    module _ (o : OptionName) (itself_named : option_named options (text_of o) ≡ Some o) (has : has_value o ≡ true) (h : Held) where
      by_id : arg_by_id R (text_of o) ≡ Some (built_option o)
      by_id = find_id options o o itself_named

      open_still : Closed (wanting o h) → ⊥
      open_still = not_nil _ (wants o by_id has h)

      waits_hyphens : (t : Option Word) → begins_with_hyphen word ≡ true → behind_hyphens word ≡ t → Says (ready (option (text_of o)) (wanting o h)) (word ∷ ws) None
      waits_hyphens None begins e = absurd (true≢false (sym (short_word word begins e) ∙ not_short word ws no_short))
      waits_hyphens (Some []) begins e =
          let is_end : bytes_eq word (45 ∷ 45 ∷ []) ≡ true = end_is word ∙ ap is_nothing e in
          step_on (ready (option (text_of o)) (wanting o h)) word ws (trail (option (text_of o)) (wanting o h)) None
          (ends_turn (option (text_of o)) word (wanting o h) is_end) (ends_walked (option (text_of o)) word (wanting o h) is_end)
          (stuck ws (option (text_of o)) (wanting o h) open_still)
      waits_hyphens (Some (b ∷ bs)) begins e =
          stops (ready (option (text_of o)) (wanting o h)) word ws (wrong_turn (text_of o) word (option_name (b ∷ bs)) (value_behind (b ∷ bs)) (wanting o h) (looks_long b bs e) open_still)

      waits_first : (b : Bool) → begins_with_hyphen word ≡ b
          → Says (ready (option (text_of o)) (wanting o h)) (word ∷ ws) (option_map (rows_from (settled R h).rows) (cond b None (and_part (Given o word) (parts options None ws))))
      waits_first true begins = waits_hyphens (behind_hyphens word) begins refl
      waits_first false begins =
          let f = looks_plain word begins in
          step_on (ready (option (text_of o)) (wanting o h)) word ws (ready idle (pushed (text_of o) word (wanting o h))) _ (value_turn o by_id has h word f) (value_walked o by_id has h word f)
          (subst (Says (ready idle (pushed (text_of o) word (wanting o h))) ws)
          (ap (λ rs. option_map (rows_from rs) (parts options None ws)) (value_rows o by_id has h word) ∙ and_rows (settled R h).rows (Given o word) (parts options None ws))
          ((rest f.no_end).0 idle tt (pushed (text_of o) word (wanting o h)) (value_closed o by_id has h word)))

  reads_all : (ws : List Word) → has_short ws ≡ false → Reads ws
  unfolding walk_fault
  reads_all [] e = (λ w opened h closed. (closed, refl), λ o itself_named has h. not_nil (settle_fault R false (wanting o h)) (wants o (find_id options o o itself_named) has h))
  reads_all (word ∷ ws) e =
      let rest = λ (no_end : bytes_eq word (45 ∷ 45 ∷ []) ≡ false). reads_all ws (none_short word ws no_end e) in (
        λ w opened h closed. reads_first word ws rest e w opened h closed (begins_with_hyphen word) refl,
        λ o itself_named has h. waits_first word ws rest e o itself_named has h (begins_with_hyphen word) refl,
      )

  -- ---- after the walk: no defaults, and nothing is required

  either : {X : Type 0} (b : Bool) (x : X) → cond b x x ≡ x
  either true x = refl
  either false x = refl

  or_true : {X : Type 0} (b : Bool) (x y : X) → cond (b || true) x y ≡ x
  or_true true x y = refl
  or_true false x y = refl

  no_defaults : (os : List OptionName) (rows : List Row) → defaults_fault rows (map built_option os) ≡ []
  unfolding defaults_fault
  no_defaults [] _ = refl
  no_defaults (o ∷ os) rows =
      ap (λ (k : Kinds). or_else k (defaults_fault (with_default rows (built_option o)) (map built_option os))) (or_true (has_row (text_of o) rows) [] _)
      ∙ no_defaults os (with_default rows (built_option o))

  no_default : (rows : List Row) → defaults_fault rows R ≡ []
  unfolding defaults_fault
  no_default rows =
      ap (λ (k : Kinds). or_else k (defaults_fault (with_default rows built_names) (map built_option options))) (or_true (has_row names_id rows) [] _)
      ∙ no_defaults options (with_default rows built_names)

  same_rows : (os : List OptionName) (rows : List Row) → fold with_default rows (map built_option os) ≡ rows
  same_rows [] _ = refl
  same_rows (o ∷ os) rows = ap (λ rs. fold with_default rs (map built_option os)) (either (has_row (text_of o) rows) rows) ∙ same_rows os rows

  same_finished : (h : Held) → finished R h ≡ (settled R h).rows
  same_finished h = ap (λ rs. fold with_default rs (map built_option options)) (either (has_row names_id (settled R h).rows) (settled R h).rows) ∙ same_rows options (settled R h).rows

  none_required : (os : List OptionName) (rows : List Row) → list_any (λ a. a.required && not (is_given a.id rows)) (map built_option os) ≡ false
  none_required [] _ = refl
  none_required (o ∷ os) given = none_required os given

  no_check : (rows : List Row) → check_fault s rows false ≡ []
  no_check rows = rw (none_required options rows) refl

  or_nothing : (k : Kinds) → or_else k [] ≡ k
  or_nothing [] = refl
  or_nothing (x ∷ xs) = refl

  level_is : (ws : List Word) → level_fault s [] nothing_held ws false [] ≡ fault (ready idle nothing_held) ws
  level_is ws =
      let held = ends (ready idle nothing_held) ws in
      let late : or_else (defaults_fault (settled R held).rows R) (check_fault s (finished R held) false) ≡ [] =
      ap (λ (k : Kinds). or_else k (check_fault s (finished R held) false)) (no_default (settled R held).rows) ∙ no_check (finished R held) in
      ap (λ (k : Kinds). or_else (walk_fault s [] (ready idle nothing_held) ws) (or_else (settle_fault R false held) k)) late
      ∙ ap (or_else (walk_fault s [] (ready idle nothing_held) ws)) (or_nothing (settle_fault R false held))

  fault_is : (ws : List Word) → fault_of (app_for options) ws ≡ fault (ready idle nothing_held) ws
  unfolding app_for
  fault_is ws =
      ap (λ (a : App). built_fault a nothing_held ws) (built_is options) ∙ leaf_fault (record { top = s; subs = [] }) nothing_held ws refl ∙ level_is ws

  matches_are : (ws : List Word) → matches_of (app_for options) ws ≡ (settled R (ends (ready idle nothing_held) ws)).rows
  unfolding app_for
  matches_are ws =
      ap (λ (a : App). Rattle.clap.specs.Walk.rows_after a.top.rules (Rattle.clap.specs.Simple.names_of a) ws) (built_is options) ∙ same_finished (ends (ready idle nothing_held) ws)

  says_all : (ws : List Word) → has_short ws ≡ false → Says (ready idle nothing_held) ws (option_map (rows_from []) (parts options None ws))
  says_all ws e = (reads_all ws e).0 idle tt nothing_held refl

  -- no parts, and the parse fails
  pub refused : (ws : List Word) → has_short ws ≡ false → parts options None ws ≡ None → fault_of (app_for options) ws ≡ [] → ⊥
  refused ws e none silent =
      let says : Says (ready idle nothing_held) ws None = subst (λ o. Says (ready idle nothing_held) ws (option_map (rows_from []) o)) none (says_all ws e) in
      says (sym (fault_is ws) ∙ silent)

  -- parts, and the parse gives their rows
  pub taken : (ws : List Word) (ps : List Part) → has_short ws ≡ false → parts options None ws ≡ Some ps → (fault_of (app_for options) ws ≡ []) × (matches_of (app_for options) ws ≡ rows_from [] ps)
  taken ws ps e some =
      let says : Says (ready idle nothing_held) ws (Some (rows_from [] ps)) = subst (λ o. Says (ready idle nothing_held) ws (option_map (rows_from []) o)) some (says_all ws e) in
      (fault_is ws ∙ says.0, matches_are ws ∙ says.1)

  -- a short word is refused wherever it stands
  pub short_refused : (ws : List Word) → has_short ws ≡ true → (parts options None ws ≡ None) × ((o : OptionName) → parts options (Some o) ws ≡ None)
  short_refused [] e = absurd (true≢false (sym e))
  short_refused (word ∷ ws) e = go (begins_with_hyphen word) (behind_hyphens word) refl refl (λ no_end t. short_refused ws (rw (t, no_end) at e))
    where
      over : (n : Option OptionName) (v : Option Word) (rest : Option (List Part)) (f : OptionName → Option (List Part)) → rest ≡ None → ((o : OptionName) → f o ≡ None) → named_part n v rest f ≡ None
      over None v rest f a b = refl
      over (Some o) v rest f a b = at (has_value o) v
        where
          at : (h : Bool) (v : Option Word) → option_part h o v rest (f o) ≡ None
          at true (Some x) = ap (and_part (Given o x)) a
          at true None = b o
          at false (Some x) = refl
          at false None = ap (and_part (Given o (codes "yes"))) a

      go : (b : Bool) (t : Option Word) → begins_with_hyphen word ≡ b → behind_hyphens word ≡ t
          → (bytes_eq word (45 ∷ 45 ∷ []) ≡ false → is_short word ≡ false → (parts options None ws ≡ None) × ((o : OptionName) → parts options (Some o) ws ≡ None))
          → (cond b (hyphens_part options t (parts options None ws) (λ o. parts options (Some o) ws) ws) (and_part (Name word) (parts options None ws)) ≡ None)
          × ((o : OptionName) → cond b None (and_part (Given o word) (parts options None ws)) ≡ None)
      go true None begins is later = (refl, λ o. refl)
      go true (Some []) begins is later =
          let is_end : bytes_eq word (45 ∷ 45 ∷ []) ≡ true = end_is word ∙ ap is_nothing is in
          let long : is_short word ≡ false = rw (begins, is) refl in
          absurd (true≢false (sym (rw (long, is_end) at e)))
      go true (Some (b ∷ bs)) begins is later =
          let rest = later (not_end word b bs is) (rw (begins, is) refl) in
          (over (option_named options (option_name (b ∷ bs))) (value_behind (b ∷ bs)) (parts options None ws) (λ o. parts options (Some o) ws) rest.0 rest.1, λ o. refl)
      go false t begins is later =
          let rest = later (looks_plain word begins).no_end (rw begins refl) in
          (ap (and_part (Name word)) rest.0, λ o. ap (and_part (Given o word)) rest.0)

-- How the work of a command is put together from its parts.
use Rattle.std.proofs.Common.{◌≡◌, inl, inr, ℕ, ℤ, Bool, true, false, cond, List, [], ◌∷◌, ◌++◌, Option, Some, None, option_to_list, option_map, Result, Ok, Err, IfOk, IfErr, refl, sym, ap, subst, ◌∙◌}
use Rattle.std.specs.Option.{ForSome}
use Rattle.pl_spec.specs.declared.AssetRow.{AssetRow}
use Rattle.pl_spec.specs.declared.RawAdjust.{RawAdjust}
use Rattle.pl_outside.specs.Counts.{count_plus}
use Rattle.pl_outside.specs.Files.{Files, BeginsAll}
use Rattle.pl_outside.specs.Lists.{Lists}
use Rattle.pl_outside.specs.Logs as logs
use Rattle.pl_outside.specs.declared.keeper.Table.{Table}
use Rattle.pl_numbers.specs.Numbers.{NumberTable}
use Rattle.pl_words.specs.declared.request.InputFile.{InputFile}
use Rattle.pl_words.specs.declared.request.InputFile.TheVariants.{Pipeline, Sessions, Assets, Labels, Numbers, Results, Bars, Revisions, Payouts, Derivation}
use Rattle.pl_words.specs.Request.{Request, name_asked, adjustments_of}
use Rattle.pl_load.specs.declared.fault.Fault.{Fault}
use Rattle.pl_load.specs.declared.fault.Fault.TheVariants.{Memory}
use Rattle.pl_load.specs.Contents.{Contents, AreHeld}
use Rattle.pl_load.specs.Steps.{Reading, WorkStep, reads_in, names_read, tables_read, rule}
use Rattle.pl_load.specs.Steps.Reading.{Bytes}
use Rattle.pl_load.specs.Stages.{StageEnds, HasRead, IsRisen}
use Rattle.pl_load.specs.Held.{script_in}
use Rattle.pl_load.specs.Work.{read_step, script_rule, syntax_step, pipeline_steps, evaluated_steps, numbers_step, labels_steps, numbers_steps, results_steps, revisions_steps}
use Rattle.pl_load.proofs.Steps.{stage-stops, stage-goes_on, stage-done, stage-weaker, stage-over, always}
use Rattle.pl_load.proofs.StepsRead.{read-stops, read-goes_on, read-all, read-over, front-none, one-read, names-append, tables-append}
use Rattle.pl_load.specs.Reads.{IsRead, AreLoaded}
use Rattle.pl_load.specs.Given.{IsFileGiven, AreGiven, Log}
use Rattle.pl_load.proofs.Given.{given-whole, given-fails, given-none, given-on, one-given}
use Rattle.pl_load.specs.Views.{ShelfView, KeeperView, Change, change, log_of}
use Rattle.pl_load.specs.Loads.{IsLoadOf}
use Rattle.pl_load.proofs.Calls.{shelf-same, keeper-same, alone-same, begins-none, plus-none, leaves-on, alone-on, begins-on, calls-on, risen-on, risen-by}
use Rattle.pl_load.proofs.FileReads.{held_under, held-told}
use Rattle.pl_load.proofs.TableReads.{listed_under, listed-told}

-- ---- contents

-- what was not reached is what the parts hold
abbrev pub left : Option Files → Option Lists → Option Request → Contents
left files lists asked =
    record { file = λ f. held_under files (name_asked asked f); rows = listed_under lists (adjustments_of asked) }

are-left : (files : Option Files) (lists : Option Lists) (asked : Option Request) → AreHeld files lists asked (left files lists asked)
are-left files lists asked =
    record { files_held = λ f. held-told files (name_asked asked f); rows_held = listed-told lists (adjustments_of asked) }

-- the files that are picked are those of the one, and the tables may be; the others are those of the other
abbrev pub joint : (InputFile → Bool) → Bool → Contents → Contents → Contents
joint picked tables a b =
    record { file = λ f. cond (picked f) (a.file f) (b.file f); rows = λ t. cond tables (a.rows t) (b.rows t) }

either : {A : Type 0} (P : A → Type 0) (c : Bool) (x y : A) → P x → P y → P (cond c x y)
either P true x y p q = p
either P false x y p q = q

are-joint : (files : Option Files) (lists : Option Lists) (asked : Option Request) (picked : InputFile → Bool) (tables : Bool) (a b : Contents)
    → AreHeld files lists asked a → AreHeld files lists asked b → AreHeld files lists asked (joint picked tables a b)
are-joint files lists asked picked tables a b h k =
    record {
      files_held = λ f. either (λ x. ForSome (name_asked asked f) (λ n. ForSome files (λ told. x ≡ told n))) (picked f) (a.file f) (b.file f) (h.files_held f) (k.files_held f);
      rows_held = λ t. either (λ x. ForSome (adjustments_of asked) (λ n. ForSome lists (λ told. x ≡ told n t))) tables (a.rows t) (b.rows t) (h.rows_held t) (k.rows_held t);
    }

-- one file alone
abbrev pub is_file : InputFile → InputFile → Bool
is_file Pipeline Pipeline = true
is_file Sessions Sessions = true
is_file Assets Assets = true
is_file Labels Labels = true
is_file Numbers Numbers = true
is_file Results Results = true
is_file Bars Bars = true
is_file Revisions Revisions = true
is_file Payouts Payouts = true
is_file Derivation Derivation = true
is_file f g = false

itself : (f : InputFile) → is_file f f ≡ true
itself Pipeline = refl
itself f = refl

by-file : (P : InputFile → Option (List ℕ) → Type 0) (f : InputFile) (x : Option (List ℕ)) (y : InputFile → Option (List ℕ)) → P f x → ((g : InputFile) → P g (y g))
    → (g : InputFile) → P g (cond (is_file f g) x (y g))
by-file P Pipeline x y p q Pipeline = p
by-file P Sessions x y p q Sessions = p
by-file P Assets x y p q Assets = p
by-file P Labels x y p q Labels = p
by-file P Numbers x y p q Numbers = p
by-file P Results x y p q Results = p
by-file P Bars x y p q Bars = p
by-file P Revisions x y p q Revisions = p
by-file P Payouts x y p q Payouts = p
by-file P Derivation x y p q Derivation = p
by-file P f x y p q g = q g

-- ---- two parts after each other

ends-back : {T : Type 0} {s t k l : Bool} {ss : List WorkStep} {r : Result T Fault} → s ≡ t → k ≡ l → StageEnds s k ss r → StageEnds t l ss r
ends-back {t = t} {k = k} {ss = ss} {r = r} e f h = subst (λ x. StageEnds t x ss r) f (subst (λ x. StageEnds x k ss r) e h)

held-back : {f g : Option Files} {k l : Option Lists} {asked : Option Request} {held : Contents} → f ≡ g → k ≡ l → AreHeld f k asked held → AreHeld g l asked held
held-back {g = g} {k = k} {asked = asked} {held = held} e f h = subst (λ x. AreHeld g x asked held) f (subst (λ x. AreHeld x k asked held) e h)

module _ {a b : ShelfView} {k l : KeeperView} {asked : Option Request} where
  -- the first part stops the work
  pub stops : {T U : Type 0} {first steps : Contents → List WorkStep} {First : Contents → T → Type 0} {Means : Contents → U → Type 0} {fault : Fault}
      → IsLoadOf (change a b) (change k l) asked first First (Err fault) → (more : Contents → List WorkStep) → ((f : Contents) → steps f ≡ first f ++ more f)
      → IsLoadOf (change a b) (change k l) asked steps Means (Err fault)
  stops h more same =
      record {
        held = h.held;
        are_held = h.are_held;
        ends = stage-over (sym (same h.held)) (stage-stops (more h.held) h.ends);
        loaded = tt;
        reads = h.reads;
        has_read = read-over (sym (same h.held)) (read-stops (more h.held) h.ends h.has_read);
        begun = h.begun;
        calls = h.calls;
        given = given-fails h.given;
        risen = h.risen;
        shelf_left = h.shelf_left;
        keeper_left = h.keeper_left;
        alone = h.alone;
      }

  -- the same of a part, of which no answer is kept
  pub part-stops : {T : Type 0} {first : Contents → List WorkStep} {First : Contents → T → Type 0} {fault : Fault} (steps : Contents → List WorkStep)
      → IsLoadOf (change a b) (change k l) asked first First (Err fault) → (more : Contents → List WorkStep) → ((f : Contents) → steps f ≡ first f ++ more f)
      → IsLoadOf (change a b) (change k l) asked steps (λ held (u : Unit {0}). Unit {0}) (Err fault)
  part-stops steps h more same = stops h more same

module _ {a b c : ShelfView} {k l m : KeeperView} {asked : Option Request} where
  -- the first part passes, and in the rest the work stops ...
  pub stops-later : {T U V : Type 0} {first rest steps : Contents → List WorkStep} {First : Contents → T → Type 0} {Rest : Contents → U → Type 0}
      {Means : Contents → V → Type 0} {x : T} {fault : Fault}
      → IsLoadOf (change a b) (change k l) asked first First (Ok x) → IsLoadOf (change b c) (change l m) asked rest Rest (Err fault)
      → (picked : InputFile → Bool) (tables : Bool) → ((f r : Contents) → First f x → steps (joint picked tables f r) ≡ first f ++ rest r)
      → IsLoadOf (change a c) (change k m) asked steps Means (Err fault)
  stops-later {fault = fault} h r picked tables same =
      record {
        held = joint picked tables h.held r.held;
        are_held = are-joint a.holds k.lists asked picked tables h.held r.held h.are_held (held-back h.shelf_left.keeps h.keeper_left.keeps r.are_held);
        ends = stage-over (sym (same h.held r.held h.loaded)) (stage-goes_on h.ends (ends-back h.shelf_left.stays h.keeper_left.stays (stage-weaker (λ t. t) (λ t. t) r.ends)));
        loaded = tt;
        reads = h.reads ++ r.reads;
        has_read = read-over (sym (same h.held r.held h.loaded)) (read-goes_on h.ends h.has_read (record { whole = tt; up_to = r.has_read.up_to }));
        begun = subst (λ xs. BeginsAll a.begun c.begun xs) (sym (names-append (λ file. name_asked asked file) h.reads r.reads)) (begins-on a.begun b.begun c.begun _ _ h.begun r.begun);
        calls = calls-on k.calls l.calls m.calls _ _ h.calls r.calls ∙ ap (count_plus k.calls) (sym (tables-append h.reads r.reads));
        given = given-on asked h.reads r.reads (log_of a k) (log_of b l) (log_of c m) h.given.whole (Err fault) (given-fails r.given);
        risen = risen-on a.faults b.faults c.faults k.faults l.faults m.faults fault h.shelf_left.later h.keeper_left.later r.risen;
        shelf_left = leaves-on _ _ _ a b c h.shelf_left r.shelf_left;
        keeper_left = leaves-on _ _ _ k l m h.keeper_left r.keeper_left;
        alone = λ none. alone-on k l m (h.alone none) (r.alone none);
      }

  -- ... or all of it is done
  pub both-done : {T U V : Type 0} {first rest steps : Contents → List WorkStep} {First : Contents → T → Type 0} {Rest : Contents → U → Type 0}
      {Means : Contents → V → Type 0} {x : T} {y : U} {z : V}
      → IsLoadOf (change a b) (change k l) asked first First (Ok x) → IsLoadOf (change b c) (change l m) asked rest Rest (Ok y)
      → (picked : InputFile → Bool) (tables : Bool) → ((f r : Contents) → First f x → steps (joint picked tables f r) ≡ first f ++ rest r)
      → ((f r : Contents) → First f x → Rest r y → Means (joint picked tables f r) z)
      → IsLoadOf (change a c) (change k m) asked steps Means (Ok z)
  both-done {z = z} h r picked tables same means =
      record {
        held = joint picked tables h.held r.held;
        are_held = are-joint a.holds k.lists asked picked tables h.held r.held h.are_held (held-back h.shelf_left.keeps h.keeper_left.keeps r.are_held);
        ends = stage-over (sym (same h.held r.held h.loaded)) (stage-goes_on h.ends (ends-back h.shelf_left.stays h.keeper_left.stays (stage-done r.ends)));
        loaded = means h.held r.held h.loaded r.loaded;
        reads = h.reads ++ r.reads;
        has_read = read-over (sym (same h.held r.held h.loaded)) (read-goes_on h.ends h.has_read (record { whole = r.has_read.whole; up_to = tt }));
        begun = subst (λ xs. BeginsAll a.begun c.begun xs) (sym (names-append (λ file. name_asked asked file) h.reads r.reads)) (begins-on a.begun b.begun c.begun _ _ h.begun r.begun);
        calls = calls-on k.calls l.calls m.calls _ _ h.calls r.calls ∙ ap (count_plus k.calls) (sym (tables-append h.reads r.reads));
        given = given-on asked h.reads r.reads (log_of a k) (log_of b l) (log_of c m) h.given.whole (Ok z) (given-whole (Ok z) r.given);
        risen = tt;
        shelf_left = leaves-on _ _ _ a b c h.shelf_left r.shelf_left;
        keeper_left = leaves-on _ _ _ k l m h.keeper_left r.keeper_left;
        alone = λ none. alone-on k l m (h.alone none) (r.alone none);
      }

  -- the same, where the last part's answer is the whole's
  pub last-done : {T U : Type 0} {first rest steps : Contents → List WorkStep} {First : Contents → T → Type 0} {Rest Means : Contents → U → Type 0}
      {x : T} (r : Result U Fault)
      → IsLoadOf (change a b) (change k l) asked first First (Ok x) → IsLoadOf (change b c) (change l m) asked rest Rest r
      → (picked : InputFile → Bool) (tables : Bool) → ((f r : Contents) → First f x → steps (joint picked tables f r) ≡ first f ++ rest r)
      → ((f r : Contents) (y : U) → First f x → Rest r y → Means (joint picked tables f r) y)
      → IsLoadOf (change a c) (change k m) asked steps Means r
  last-done (Ok y) h r picked tables same means = both-done h r picked tables same (λ f g p q. means f g y p q)
  last-done (Err fault) h r picked tables same means = stops-later h r picked tables same

  -- the same of a part, of which no answer is kept but what its files mean
  pub part-stops-later : {T U : Type 0} {first rest : Contents → List WorkStep} {First : Contents → T → Type 0} {Rest : Contents → U → Type 0}
      {x : T} {fault : Fault} (steps : Contents → List WorkStep)
      → IsLoadOf (change a b) (change k l) asked first First (Ok x) → IsLoadOf (change b c) (change l m) asked rest Rest (Err fault)
      → (picked : InputFile → Bool) (tables : Bool) → ((f r : Contents) → First f x → steps (joint picked tables f r) ≡ first f ++ rest r)
      → IsLoadOf (change a c) (change k m) asked steps (λ held (u : Unit {0}). Unit {0}) (Err fault)
  part-stops-later steps h r picked tables same = stops-later h r picked tables same

  pub part-done : {T U : Type 0} {first rest : Contents → List WorkStep} {First : Contents → T → Type 0} {Rest : Contents → U → Type 0}
      {x : T} {y : U} (steps : Contents → List WorkStep) (Means : Contents → Type 0)
      → IsLoadOf (change a b) (change k l) asked first First (Ok x) → IsLoadOf (change b c) (change l m) asked rest Rest (Ok y)
      → (picked : InputFile → Bool) (tables : Bool) → ((f r : Contents) → First f x → steps (joint picked tables f r) ≡ first f ++ rest r)
      → ((f r : Contents) → First f x → Rest r y → Means (joint picked tables f r))
      → IsLoadOf (change a c) (change k m) asked steps (λ held (u : Unit {0}). Means held) (Ok tt)
  part-done steps Means h r picked tables same means = both-done h r picked tables same means

-- ---- the parts

ends-inside : {T : Type 0} {ss : List WorkStep} (s k : Bool) (r : Result T Fault) → StageEnds true true ss r → StageEnds s k ss r
ends-inside s k (Ok x) h = stage-done h
ends-inside s k (Err f) h = stage-weaker always always h

module _ (a : ShelfView) (k : KeeperView) (asked : Option Request) where
  -- a judgement of what was read before, which answers this
  pub judged-as : {T : Type 0} {ss : List WorkStep} (Means : T → Type 0) (r : Result T Fault) → reads_in ss ≡ [] → StageEnds true true ss r
      → IfErr r (IsRisen ⊥ ⊥) → IfOk r Means → IsLoadOf (change a a) (change k k) asked (λ held. ss) (λ held x. Means x) r
  judged-as Means r quiet ends risen means =
      record {
        held = left a.holds k.lists asked;
        are_held = are-left a.holds k.lists asked;
        ends = ends-inside a.sound k.sound r ends;
        loaded = means;
        reads = [];
        has_read = read-all r quiet;
        begun = begins-none a.begun;
        calls = plus-none k.calls;
        given = given-none asked (log_of a k) r;
        risen = risen-by _ _ _ _ r (λ n. absurd n) (λ n. absurd n) risen;
        shelf_left = shelf-same a;
        keeper_left = keeper-same k;
        alone = λ none. alone-same k;
      }

  pub judged : {T : Type 0} {ss : List WorkStep} {x : T} → reads_in ss ≡ [] → StageEnds true true ss (Ok x)
      → IsLoadOf (change a a) (change k k) asked (λ held. ss) (λ held (y : T). Unit {0}) (Ok x)
  judged {x = x} quiet ends = judged-as (λ y. Unit {0}) (Ok x) quiet ends tt tt

  pub refused : {T : Type 0} {ss : List WorkStep} {fault : Fault} → reads_in ss ≡ [] → StageEnds {T = T} true true ss (Err fault) → IsRisen ⊥ ⊥ fault
      → IsLoadOf (change a a) (change k k) asked (λ held. ss) (λ held (y : T). Unit {0}) (Err fault)
  refused {fault = fault} quiet ends risen = judged-as (λ y. Unit {0}) (Err fault) quiet ends risen tt

  -- memory may be wanted at any place
  pub wants-memory : {T : Type 0} (steps : Contents → List WorkStep) (Means : Contents → T → Type 0) → IsLoadOf (change a a) (change k k) asked steps Means (Err Memory)
  wants-memory steps Means =
      record {
        held = left a.holds k.lists asked;
        are_held = are-left a.holds k.lists asked;
        ends = record { passed = tt; stopped = inr tt };
        loaded = tt;
        reads = [];
        has_read = record { whole = tt; up_to = front-none _ };
        begun = begins-none a.begun;
        calls = plus-none k.calls;
        given = given-none asked (log_of a k) (Err Memory);
        risen = tt;
        shelf_left = shelf-same a;
        keeper_left = keeper-same k;
        alone = λ none. alone-same k;
      }

-- what a stage reads that reads a file where it has a name
abbrev pub inputs : InputFile → Option (List ℕ) → Option (List ℕ) → List Reading
inputs f name file = option_to_list (option_map (λ n. Bytes f file) name)

inputs-named : (names : InputFile → Option (List ℕ)) (f : InputFile) (name file : Option (List ℕ)) → names f ≡ name → names_read names (inputs f name file) ≡ option_to_list name
inputs-named names f None file e = refl
inputs-named names f (Some n) file e = rw e refl

no-tables : (f : InputFile) (name file : Option (List ℕ)) → tables_read (inputs f name file) ≡ 0
no-tables f None file = refl
no-tables f (Some n) file = refl

same-log : (old new : Log) → new.files ≡ old.files → new.tables ≡ old.tables → new ≡ old
same-log old new e f = both new.files new.tables e f
  where
    both : (files : List logs.Given) (tables : List logs.Loaded) → files ≡ old.files → tables ≡ old.tables → (let log : Log = record { files = files; tables = tables } in log ≡ old)
    both files tables d t = rw (d, t) refl

inputs-given : {T : Type 0} (asked : Option Request) (f : InputFile) (name file : Option (List ℕ)) (named : name_asked asked f ≡ name) (old new : Log) → new.tables ≡ old.tables
    → (r : Result T Fault) → IsFileGiven name file old.files new.files r → AreGiven asked (inputs f name file) old new r
inputs-given asked f (Some n) file named old new same r h = one-given asked f file (Some n) named old new same r h
inputs-given asked f None file named old new same (Ok x) h = record { whole = same-log old new h.whole same; up_to = tt }
inputs-given asked f None file named old new same (Err fault) h =
    record { whole = tt; up_to = elim h.up_to [ inl p ↦ inl (same-log old new p same) | inr q ↦ absurd (let e = q.named in cc) ] }

of-shelf : {T : Type 0} (s k : Bool) (ss : List WorkStep) (r : Result T Fault) → StageEnds s true ss r → StageEnds s k ss r
of-shelf s k ss (Ok x) h = stage-done h
of-shelf s k ss (Err f) h = stage-weaker (λ t. t) always h

of-keeper : {T : Type 0} (s : Bool) (k : Bool) (ss : List WorkStep) (r : Result T Fault) → StageEnds true k ss r → StageEnds s k ss r
of-keeper s k ss (Ok x) h = stage-done h
of-keeper s k ss (Err f) h = stage-weaker always (λ t. t) h

-- a file was read, or wasn't
pub file-read : {T : Type 0} {c : Change ShelfView} {steps : Option (List ℕ) → List WorkStep} {Means : Option (List ℕ) → T → Type 0} {name : Option (List ℕ)} {r : Result T Fault}
    (k : KeeperView) (asked : Option Request) (f : InputFile) → name_asked asked f ≡ name → ((x : Option (List ℕ)) → reads_in (steps x) ≡ inputs f name x)
    → IsRead c name steps Means r → IsLoadOf c (change k k) asked (λ held. steps (held.file f)) (λ held. Means (held.file f)) r
file-read {c = c} {steps = steps} {Means = Means} {name = name} {r = r} k asked f named one h =
    let own : cond (is_file f f) h.file (held_under c.before.holds (name_asked asked f)) ≡ h.file = ap (λ b. cond b h.file (held_under c.before.holds (name_asked asked f))) (itself f) in
    record {
      held = record { file = λ g. cond (is_file f g) h.file (held_under c.before.holds (name_asked asked g)); rows = listed_under k.lists (adjustments_of asked) };
      are_held = record {
        files_held = by-file (λ g x. ForSome (name_asked asked g) (λ n. ForSome c.before.holds (λ told. x ≡ told n))) f h.file (λ g. held_under c.before.holds (name_asked asked g)) (subst (λ o. ForSome o (λ n. ForSome c.before.holds (λ told. h.file ≡ told n))) (sym named) h.is_told)
            (λ g. held-told c.before.holds (name_asked asked g));
        rows_held = listed-told k.lists (adjustments_of asked);
      };
      ends = subst (λ x. StageEnds c.before.sound k.sound (steps x) r) (sym own) (of-shelf c.before.sound k.sound (steps h.file) r h.ends);
      loaded = subst (λ x. IfOk r (Means x)) (sym own) h.means;
      reads = inputs f name h.file;
      has_read = subst (λ x. HasRead (steps x) (inputs f name h.file) r) (sym own) (read-all r (one h.file));
      begun = subst (λ xs. BeginsAll c.before.begun c.after.begun xs) (sym (inputs-named (λ g. name_asked asked g) f name h.file named)) h.begun;
      calls = plus-none k.calls ∙ ap (count_plus k.calls) (sym (no-tables f name h.file));
      given = inputs-given asked f name h.file named (log_of c.before k) (log_of c.after k) refl r h.given;
      risen = risen-by _ _ _ _ r (λ s. s) (λ n. absurd n) h.risen;
      shelf_left = h.left;
      keeper_left = keeper-same k;
      alone = λ none. alone-same k;
    }

-- the tables were loaded, or weren't
pub tables-loaded : {T : Type 0} {c : Change KeeperView} {steps : (Table → List RawAdjust) → List WorkStep} {Means : (Table → List RawAdjust) → T → Type 0} {name : Option (List ℕ)} {r : Result T Fault}
    (a : ShelfView) (asked : Option Request) → adjustments_of asked ≡ name
    → AreLoaded c name steps Means r → IsLoadOf (change a a) c asked (λ held. steps held.rows) (λ held. Means held.rows) r
tables-loaded {c = c} {steps = steps} {name = name} {r = r} a asked named h =
    record {
      held = record { file = λ f. held_under a.holds (name_asked asked f); rows = h.rows };
      are_held = record { files_held = λ f. held-told a.holds (name_asked asked f); rows_held = λ t. subst (λ o. ForSome o (λ n. ForSome c.before.lists (λ told. h.rows t ≡ told n t))) (sym named) (h.are_told t) };
      ends = of-keeper a.sound c.before.sound (steps h.rows) r h.ends;
      loaded = h.means;
      reads = h.reads;
      has_read = h.has_read;
      begun = subst (λ xs. BeginsAll a.begun a.begun xs) (sym (h.no_files (λ f. name_asked asked f))) (begins-none a.begun);
      calls = h.calls;
      given = h.given asked named a.gave;
      risen = risen-by _ _ _ _ r (λ n. absurd n) (λ s. s) h.risen;
      shelf_left = shelf-same a;
      keeper_left = h.left;
      alone = λ none. h.alone (sym named ∙ none);
    }

-- ---- what single stages read

pub file-one : (f : InputFile) (rule : List ℕ → Option Fault) (x : Option (List ℕ)) → reads_in (read_step f rule x ∷ []) ≡ Bytes f x ∷ []
file-one f rule x = one-read (read_step f rule x) (Bytes f x) [] refl tt

pub pipeline-one : (x : Option (List ℕ)) → reads_in (pipeline_steps x) ≡ Bytes Pipeline x ∷ []
pipeline-one x = one-read (syntax_step x) (Bytes Pipeline x) (rule (script_rule (script_in x)) ∷ []) refl (refl, tt)

pub evaluated-one : (numbers : Option (List ℕ)) (x : Option (List ℕ)) → reads_in (evaluated_steps x numbers) ≡ Bytes Pipeline x ∷ []
evaluated-one numbers x =
    one-read (syntax_step x) (Bytes Pipeline x) (rule (script_rule (script_in x)) ∷ numbers_step (script_in x) numbers ∷ []) refl (refl, (refl, tt))

pub labels-one : (assets : List AssetRow) (name x : Option (List ℕ)) → reads_in (labels_steps assets name x) ≡ inputs Labels name x
labels-one assets None x = refl
labels-one assets (Some n) x = file-one Labels _ x

pub numbers-one : (assets : List AssetRow) (name x : Option (List ℕ)) → reads_in (numbers_steps assets name x) ≡ inputs Numbers name x
numbers-one assets None x = refl
numbers-one assets (Some n) x = file-one Numbers _ x

pub results-one : (assets : List AssetRow) (first : NumberTable) (name x : Option (List ℕ)) → reads_in (results_steps assets first name x) ≡ inputs Results name x
results-one assets first None x = refl
results-one assets first (Some n) x = file-one Results _ x

pub revisions-one : (days : List ℤ) (assets : List AssetRow) (name x : Option (List ℕ)) → reads_in (revisions_steps days assets name x) ≡ inputs Revisions name x
revisions-one days assets None x = refl
revisions-one days assets (Some n) x = file-one Revisions _ x

-- The values of the rows are those of the parts.
use Rattle.std.proofs.Common.{◌≡◌, ◌∙◌, Bool, true, false, cond, true≢false, refl, sym, ap, subst, List, [], ◌∷◌, ◌++◌, append_assoc, append-nil}
use Rattle.std.specs.Prelude.{bytes_eq}
use Rattle.std.proofs.lemmas.Slice.Eq.{bytes_eq-Decides}
use Rattle.clap.specs.Words.{Row}
use Rattle.clap.specs.Walk.{with_values, Text}
use Rattle.clap.specs.declared.builder.value_parser.Reading.TheVariants.{AsWritten}
use Rattle.clap.specs.declared.parser.matches.ValueSource.TheVariants.{CommandLine}
use Rattle.pl_words.specs.declared.commands.OptionName.{OptionName}
use Rattle.pl_words.specs.declared.commands.OptionName.TheVariants.{Labels}
use Rattle.pl_words.specs.Parts.{Part, Name, Given, text_of, names_of, values_of}
use Rattle.pl_words.specs.Apps.{names_id, put, rows_from, values_at}

abbrev more : Text → List Text → List Row → List Row
more id values rows = with_values id AsWritten CommandLine values rows

same : (a b : Text) → bytes_eq a b ≡ true → a ≡ b
same a b = (bytes_eq-Decides a b).0

itself : (a : Text) → bytes_eq a a ≡ true
itself a = (bytes_eq-Decides a a).1 refl

values_more : (id : Text) (values : List Text) (rows : List Row) → values_at id (more id values rows) ≡ values_at id rows ++ values
values_more id values [] = rw (itself id) refl
values_more id values (r ∷ rows) = go (bytes_eq r.id id) refl (values_more id values rows)
  where
    go : (b : Bool) → bytes_eq r.id id ≡ b → values_at id (more id values rows) ≡ values_at id rows ++ values → values_at id (more id values (r ∷ rows)) ≡ values_at id (r ∷ rows) ++ values
    go true t e = rw (t, t) refl
    go false t e = rw (t, t) e

values_kept : (id other : Text) (values : List Text) (rows : List Row) → bytes_eq other id ≡ false → values_at id (more other values rows) ≡ values_at id rows
values_kept id other values [] apart = rw apart refl
values_kept id other values (r ∷ rows) apart = go (bytes_eq r.id other) (bytes_eq r.id id) refl refl (values_kept id other values rows apart)
  where
    go : (b c : Bool) → bytes_eq r.id other ≡ b → bytes_eq r.id id ≡ c → values_at id (more other values rows) ≡ values_at id rows
        → values_at id (more other values (r ∷ rows)) ≡ values_at id (r ∷ rows)
    go true true s t e =
        let both : other ≡ id = sym (same r.id other s) ∙ same r.id id t in
        absurd (true≢false (sym (subst (λ x. bytes_eq other x ≡ true) both (itself other)) ∙ apart))
    go true false s t e = rw (s, t) refl
    go false true s t e = rw (s, t) refl
    go false false s t e = rw (s, t) e

apart_names : (o : OptionName) → (bytes_eq names_id (text_of o) ≡ false) × (bytes_eq (text_of o) names_id ≡ false)
apart_names Labels = (refl, refl)
apart_names o = (refl, refl)

names_from : (ps : List Part) (rows : List Row) → values_at names_id (rows_from rows ps) ≡ values_at names_id rows ++ names_of ps
names_from [] rows = sym (append-nil (values_at names_id rows))
names_from (Name w ∷ ps) rows =
    names_from ps (put (Name w) rows) ∙ ap (λ vs. vs ++ names_of ps) (values_more names_id (w ∷ []) rows) ∙ append_assoc (values_at names_id rows) (w ∷ []) (names_of ps)
names_from (Given o v ∷ ps) rows =
    names_from ps (put (Given o v) rows) ∙ ap (λ vs. vs ++ names_of ps) (values_kept names_id (text_of o) (v ∷ []) rows (apart_names o).1)

values_from : (o : OptionName) (ps : List Part) (rows : List Row) → values_at (text_of o) (rows_from rows ps) ≡ values_at (text_of o) rows ++ values_of o ps
values_from o [] rows = sym (append-nil (values_at (text_of o) rows))
values_from o (Name w ∷ ps) rows =
    values_from o ps (put (Name w) rows) ∙ ap (λ vs. vs ++ values_of o ps) (values_kept (text_of o) names_id (w ∷ []) rows (apart_names o).0)
values_from o (Given p v ∷ ps) rows = values_from o ps (put (Given p v) rows) ∙ go (bytes_eq (text_of p) (text_of o)) refl
  where
    go : (b : Bool) → bytes_eq (text_of p) (text_of o) ≡ b
        → values_at (text_of o) (put (Given p v) rows) ++ values_of o ps ≡ values_at (text_of o) rows ++ cond b (v ∷ values_of o ps) (values_of o ps)
    go true t =
        let is : text_of p ≡ text_of o = same (text_of p) (text_of o) t in
        ap (λ id. values_at (text_of o) (more id (v ∷ []) rows) ++ values_of o ps) is ∙ ap (λ vs. vs ++ values_of o ps) (values_more (text_of o) (v ∷ []) rows)
        ∙ append_assoc (values_at (text_of o) rows) (v ∷ []) (values_of o ps)
    go false t = ap (λ vs. vs ++ values_of o ps) (values_kept (text_of o) (text_of p) (v ∷ []) rows t)

pub names_are : (ps : List Part) → values_at names_id (rows_from [] ps) ≡ names_of ps
names_are ps = names_from ps []

pub values_are : (o : OptionName) (ps : List Part) → values_at (text_of o) (rows_from [] ps) ≡ values_of o ps
values_are o ps = values_from o ps []

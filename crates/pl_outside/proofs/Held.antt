-- Files that are looked up by name, and put there.
use Rattle.std.proofs.Common.{◌≡◌, ◌+◌, ℕ, zero, suc, List, [], ◌∷◌, ◌++◌, Bool, true, false, Option, Some, None, map, length, set, unwrap_or, option_map, is_none, string_bytes, bytes_eq, position, if◌then◌else◌, nat_lt, arith, one-add, refl, sym, ap, ◌∙◌}
use Rattle.std.proofs.lemmas.Bool.Decides.{nat_tests}
use Rattle.std.proofs.lemmas.Option.{none-some}
use Rattle.std.proofs.lemmas.Slice.Eq.{bytes_eq-Decides}
use Rattle.std.specs.List.{position_or_len}
use Rattle.pl_outside.specs.declared.files.File.{File}
use Rattle.pl_outside.specs.HeldFiles.{has_name, shown, bytes_at, rest_at}
use Rattle.pl_outside.specs.ShelfState.{held}

module _ (passes : File → Bool) (file : File) (files : List File) where
  position-first : passes file ≡ true → position passes (file ∷ files) ≡ Some 0
  position-first hit =
      let within : nat_lt 0 (length (file ∷ files)) ≡ true = grind (arith, nat_tests) in
      rw (hit, within) refl

  later-in : (b : Bool) → nat_lt (position_or_len passes files) (length files) ≡ b → passes file ≡ false
      → position passes (file ∷ files) ≡ option_map suc (position passes files)
  later-in true found miss =
      let within : nat_lt (1 + position_or_len passes files) (length (file ∷ files)) ≡ true = grind (arith, nat_tests, found) in
      rw (miss, within, found) (ap Some (one-add (position_or_len passes files)))
  later-in false past miss =
      let behind : nat_lt (1 + position_or_len passes files) (length (file ∷ files)) ≡ false = grind (arith, nat_tests, past) in
      rw (miss, behind, past) refl

  position-later : passes file ≡ false → position passes (file ∷ files) ≡ option_map suc (position passes files)
  position-later = later-in (nat_lt (position_or_len passes files) (length files)) refl

bytes_at-later : (file : File) (files : List File) (place : Option ℕ) → option_map (bytes_at (file ∷ files)) (option_map suc place) ≡ option_map (bytes_at files) place
bytes_at-later file files None = refl
bytes_at-later file files (Some place) = refl

-- the look-up by the place that the code finds
held-position : (files : List File) (name : List ℕ) → held (map shown files) name ≡ option_map (bytes_at files) (position (has_name name) files)
held-position [] name = refl
held-position (file ∷ files) name = by_name (held-position files name) (has_name name file) refl
  where
    by_name : held (map shown files) name ≡ option_map (bytes_at files) (position (has_name name) files)
        → (b : Bool) → has_name name file ≡ b → held (map shown (file ∷ files)) name ≡ option_map (bytes_at (file ∷ files)) (position (has_name name) (file ∷ files))
    by_name others true hit = rw (position-first (has_name name) file files hit, hit) refl
    by_name others false miss =
        rw (position-later (has_name name) file files miss, miss) (others ∙ sym (bytes_at-later file files (position (has_name name) files)))

-- the place that the code found in the files as a slice
pub position_in : (files slice : List File) (name : List ℕ) (place : Option ℕ) → slice ≡ files → place ≡ position (has_name name) slice → position (has_name name) files ≡ place
position_in files slice name place same found = rw (← same) (sym found)

is_none-option_map : {A B : Type 0} (f : A → B) (o : Option A) → is_none (option_map f o) ≡ is_none o
is_none-option_map f None = refl
is_none-option_map f (Some x) = refl

-- a name is held exactly where a place is found
pub is_none-held : (files : List File) (name : List ℕ) → is_none (held (map shown files) name) ≡ is_none (position (has_name name) files)
is_none-held files name = rw (held-position files name) (is_none-option_map (bytes_at files) (position (has_name name) files))

rest_at-start : (files : List File) (place : Option ℕ) → rest_at files place 0 ≡ unwrap_or (option_map (bytes_at files) place) []
rest_at-start files None = refl
rest_at-start files (Some place) = refl

-- what is left of a file that was just begun is all of it
pub rest_at-held : (files : List File) (name : List ℕ) → rest_at files (position (has_name name) files) 0 ≡ unwrap_or (held (map shown files) name) []
rest_at-held files name = rw (held-position files name) (rest_at-start files (position (has_name name) files))

-- A file under another name before the others takes no look-up away from this name.
module _ (first name other mine bytes : List ℕ) (rest all : Option (List ℕ)) where
  past-in : (b c : Bool) → bytes_eq first other ≡ b → bytes_eq name other ≡ c → bytes_eq first name ≡ false
      → all ≡ (if bytes_eq name other then Some bytes else rest)
      → (if bytes_eq first other then Some mine else all) ≡ (if bytes_eq name other then Some bytes else (if bytes_eq first other then Some mine else rest))
  past-in true true is_first is_name differ found =
      let both : first ≡ name = (bytes_eq-Decides first other).0 is_first ∙ sym ((bytes_eq-Decides name other).0 is_name) in
      absurd (cc ((bytes_eq-Decides first name).1 both, differ))
  past-in true false is_first is_name differ found = rw (is_first, is_name) refl
  past-in false true is_first is_name differ found = rw (is_first, is_name) (rw is_name at found)
  past-in false false is_first is_name differ found = rw (is_first, is_name) (rw is_name at found)

  past : bytes_eq first name ≡ false → all ≡ (if bytes_eq name other then Some bytes else rest)
      → (if bytes_eq first other then Some mine else all) ≡ (if bytes_eq name other then Some bytes else (if bytes_eq first other then Some mine else rest))
  past = past-in (bytes_eq first other) (bytes_eq name other) refl refl

-- a file takes the place of another of its name
over : (first name other mine bytes : List ℕ) (rest : Option (List ℕ)) → first ≡ name
    → (if bytes_eq name other then Some bytes else rest) ≡ (if bytes_eq name other then Some bytes else (if bytes_eq first other then Some mine else rest))
over first name other mine bytes rest same = rw same (twice (bytes_eq name other))
  where
    twice : (b : Bool) → (if b then Some bytes else rest) ≡ (if b then Some bytes else (if b then Some mine else rest))
    twice true = refl
    twice false = refl

later-None : (o : Option ℕ) → option_map suc o ≡ None → o ≡ None
later-None None e = refl
later-None (Some x) e = absurd (cc e)

later-Some : (o : Option ℕ) (place : ℕ) → option_map suc o ≡ Some (suc place) → o ≡ Some place
later-Some None place e = absurd (cc e)
later-Some (Some x) place e = cc e

later-not_first : (o : Option ℕ) → option_map suc o ≡ Some 0 → ⊥
later-not_first None e = cc e
later-not_first (Some x) e = cc e

module _ (new : File) (other : List ℕ) where
  abbrev is_new : File → Bool
  is_new = has_name (string_bytes new.name)

  -- the look-up of the other name finds the new file among all where that is its name, and else what it found
  abbrev IsPut : List File → List File → Type 0
  IsPut old all = held (map shown all) other ≡ (if bytes_eq (string_bytes new.name) other then Some new.bytes.items else held (map shown old) other)

  behind : (file : File) (old all : List File) → is_new file ≡ false → IsPut old all → IsPut (file ∷ old) (file ∷ all)
  behind file old all miss put =
      past (string_bytes file.name) (string_bytes new.name) other file.bytes.items new.bytes.items (held (map shown old) other) (held (map shown all) other) miss put

  instead : (file : File) (files : List File) → is_new file ≡ true → IsPut (file ∷ files) (new ∷ files)
  instead file files hit =
      over (string_bytes file.name) (string_bytes new.name) other file.bytes.items new.bytes.items (held (map shown files) other) ((bytes_eq-Decides (string_bytes file.name) (string_bytes new.name)).0 hit)

  -- it stands in the place of the first file of its name
  pub held-set : (files : List File) (place : ℕ) → position is_new files ≡ Some place → IsPut files (set files place new)
  held-set [] place found = absurd (none-some place found)
  held-set (file ∷ files) place found = by_name (held-set files) (is_new file) place refl found
    where
      by_name : ((place : ℕ) → position is_new files ≡ Some place → IsPut files (set files place new))
          → (b : Bool) (place : ℕ) → is_new file ≡ b → position is_new (file ∷ files) ≡ Some place → IsPut (file ∷ files) (set (file ∷ files) place new)
      by_name put true zero hit found = instead file files hit
      by_name put true (suc place) hit found = absurd (cc (position-first is_new file files hit, found))
      by_name put false zero miss found = absurd (later-not_first (position is_new files) (sym (position-later is_new file files miss) ∙ found))
      by_name put false (suc place) miss found =
          behind file files (set files place new) miss (put place (later-Some (position is_new files) place (sym (position-later is_new file files miss) ∙ found)))

  -- it stands after files of other names
  pub held-push : (files : List File) → position is_new files ≡ None → IsPut files (files ++ new ∷ [])
  held-push [] none = refl
  held-push (file ∷ files) none = by_name (held-push files) (is_new file) refl
    where
      by_name : (position is_new files ≡ None → IsPut files (files ++ new ∷ [])) → (b : Bool) → is_new file ≡ b → IsPut (file ∷ files) (file ∷ files ++ new ∷ [])
      by_name put true hit = absurd (cc (position-first is_new file files hit, none))
      by_name put false miss =
          behind file files (files ++ new ∷ []) miss (put (later-None (position is_new files) (sym (position-later is_new file files miss) ∙ none)))

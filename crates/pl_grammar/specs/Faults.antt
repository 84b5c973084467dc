-- The first fault of a list of tokens, and the verdict that finds it.
use Rattle.std.specs.Prelude.{ℕ, suc, ◌≡◌, ◌<◌, Bool, true, false, if◌then◌else◌, nat_le, List, [], ◌∷◌, ◌++◌, Option, Some, None, Result, Ok, Err}
use Rattle.pl_grammar.specs.declared.Place.{Place}
use Rattle.pl_grammar.specs.Tree.{Token, LargeNumber, Lexeme, mark, Semicolon}
use Rattle.pl_grammar.specs.Machine.{Stop, Stuck, Deep}
use Rattle.pl_grammar.specs.Script.{Statement, Script, Viable, Stage, script_step, script_finish}

-- after the tokens: the end of the text, or a byte that begins or continues no token
pub data Tail : Type 0 where
  AtEnd : Place → Tail
  AtBad : Place → Tail

pub data Kind : Type 0 where
  BadByte : Kind
  Unexpected : Kind
  TooDeep : Kind
  NumberTooLarge : Kind
  LongStatement : Kind

abbrev pub place_of : Lexeme → Place
place_of (mark p t) = p

abbrev pub most_depth : ℕ
most_depth = 32

abbrev pub most_tokens : ℕ
most_tokens = 1024

abbrev pub token_too_large : Token → Bool
token_too_large LargeNumber = true
token_too_large t = false

abbrev pub too_large : Lexeme → Bool
too_large (mark p t) = token_too_large t

-- how many tokens of its statement have come with this one, 0 after its `;`
abbrev pub token_counted : ℕ → Token → ℕ
token_counted n Semicolon = 0
token_counted n t = suc n

abbrev pub counted : ℕ → Lexeme → ℕ
counted n (mark p t) = token_counted n t

unfoldable pub since : ℕ → List Lexeme → ℕ
since n [] = n
since n (t ∷ ts) = since (counted n t) ts

-- no statement is too long, and no number too large
unfoldable pub IsShort : ℕ → List Lexeme → Type 0
IsShort n [] = Unit {0}
IsShort n (t ∷ ts) = (n < most_tokens) × (too_large t ≡ false) × IsShort (counted n t) ts

-- no fault is in these tokens
pub record IsFine (ts : List Lexeme) : Type 0 where
  pub viable : Viable most_depth ts
  pub short : IsShort 0 ts

abbrev pub Never : List Lexeme → Type 0
Never ts = (d : ℕ) → Viable d ts → ⊥

-- the fault is at this token: what is before it is fine
pub data IsFault (front : List Lexeme) (t : Lexeme) : Kind → Type 0 where
  is_long : since 0 front ≡ most_tokens → IsFault front t LongStatement
  is_large : since 0 front < most_tokens → too_large t ≡ true → IsFault front t NumberTooLarge
  is_unexpected : since 0 front < most_tokens → too_large t ≡ false → Never (front ++ (t ∷ []))
      → IsFault front t Unexpected
  is_deep : since 0 front < most_tokens → too_large t ≡ false → (d : ℕ) → Viable d (front ++ (t ∷ []))
      → (Viable most_depth (front ++ (t ∷ [])) → ⊥) → IsFault front t TooDeep

-- the first fault of the tokens and what is after them
pub data IsFirst : List Lexeme → Tail → Kind → Place → Type 0 where
  at_bad : {ts : List Lexeme} {p : Place} → IsFine ts → IsFirst ts (AtBad p) BadByte p
  at_end : {ts : List Lexeme} {p : Place} → IsFine ts → ((d : ℕ) (ss : List Statement) → Script d ts ss → ⊥)
      → IsFirst ts (AtEnd p) Unexpected p
  at_token : (front : List Lexeme) (t : Lexeme) (rest : List Lexeme) {tail : Tail} {k : Kind} → IsFine front
      → IsFault front t k → IsFirst (front ++ (t ∷ rest)) tail k (place_of t)

-- the tokens spell the script
pub record Spelled (ts : List Lexeme) (tail : Tail) (ss : List Statement) : Type 0 where
  pub end : Place
  pub ended : tail ≡ AtEnd end
  pub short : IsShort 0 ts
  pub derives : Script most_depth ts ss

pub data Verdict : Type 0 where
  Good : List Statement → Verdict
  Fault : Kind → Place → Verdict

abbrev pub finish_verdict : Option (List Statement) → Place → Verdict
finish_verdict (Some ss) p = Good ss
finish_verdict None p = Fault Unexpected p

abbrev pub end_verdict : Stage → Tail → Verdict
end_verdict s (AtEnd p) = finish_verdict (script_finish s) p
end_verdict s (AtBad p) = Fault BadByte p

abbrev pub step_verdict : Place → Result Stage Stop → (Stage → Verdict) → Verdict
step_verdict p (Ok s) k = k s
step_verdict p (Err Stuck) k = Fault Unexpected p
step_verdict p (Err Deep) k = Fault TooDeep p

unfoldable pub verdict : ℕ → Stage → List Lexeme → Tail → Verdict
verdict n s [] tail = end_verdict s tail
verdict n s (t ∷ ts) tail =
    if nat_le most_tokens n then Fault LongStatement (place_of t)
    else if too_large t then Fault NumberTooLarge (place_of t)
    else step_verdict (place_of t) (script_step most_depth t s) (λ s. verdict (counted n t) s ts tail)

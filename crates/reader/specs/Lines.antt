-- A line of input: its words, and which of them are probe bytes. Assumes nothing.
use Rattle.std.specs.Prelude.{◌≡◌, ℕ, ◌<◌, List, [], ◌∷◌, ◌++◌, length}
use Rattle.std.specs.Str.Parse.{IsNumeral, digits_value, without_leading_plus}
use Rattle.std.specs.Char.{is_whitespace, is_not_whitespace}
use Rattle.std.specs.Str.{NoCharPasses, EmptyOrStartsWithPassing}

-- a text is white space, then the word, then the rest, which is empty or begins with white space
pub record First (text word rest : List ℕ) : Type 0 where
  pub gap : List ℕ
  pub cut : text ≡ gap ++ (word ++ rest)
  pub some : 0 < length word
  pub blank : NoCharPasses is_not_whitespace gap
  pub solid : NoCharPasses is_whitespace word
  pub ends : (more : List ℕ) × EmptyOrStartsWithPassing is_whitespace rest more

-- these are the words of the text, in their order
abbrev pub Words : List ℕ → List (List ℕ) → Type 0
Words text [] = NoCharPasses is_not_whitespace text
Words text (w ∷ ws) = (rest : List ℕ) × First text w rest × Words rest ws

-- the word writes this probe byte: a decimal number below 256, with or without a plus sign
pub record Writes (word : List ℕ) (byte : ℕ) : Type 0 where
  pub numeral : IsNumeral 10 (without_leading_plus word)
  pub small : byte < 256
  pub number : byte ≡ digits_value 10 (without_leading_plus word)

-- each of the words that writes a probe byte is among the bytes, each other word among the others, both in the order of the words
pub data Partition : List (List ℕ) → List ℕ → List (List ℕ) → Type 0 where
  none : Partition [] [] []
  byte : {w : List ℕ} {b : ℕ} {ws : List (List ℕ)} {bs : List ℕ} {os : List (List ℕ)} → Writes w b → Partition ws bs os → Partition (w ∷ ws) (b ∷ bs) os
  other : {w : List ℕ} {ws : List (List ℕ)} {bs : List ℕ} {os : List (List ℕ)} → ((b : ℕ) → Writes w b → ⊥) → Partition ws bs os → Partition (w ∷ ws) bs (w ∷ os)

-- these are the bytes and the other words of the whole text: no word is lost, and none is made up
pub record Parsed (text bytes : List ℕ) (others : List (List ℕ)) : Type 0 where
  pub words : List (List ℕ)
  pub cut : Words text words
  pub parted : Partition words bytes others
